-- What it means that each kind of node is taken apart: its tokens and parts stand on the tasks, in order,
-- and what is left to write is no heavier than the node.
use Rattle.std.specs.Prelude.{ℕ, ◌+◌, List, ◌∷◌, map, Option, option_map}
use Rattle.js_lex.specs.Units.{Text}
use Rattle.js_lex.specs.declared.token.Punctuator.TheVariants as p
use Rattle.js_tree.specs.declared.tree.Name.{Name}
use Rattle.js_tree.specs.declared.tree.Expr.{Expr}
use Rattle.js_tree.specs.declared.tree.Stmt.{Stmt}
use Rattle.js_tree.specs.declared.tree.Target.{Target}
use Rattle.js_tree.specs.declared.tree.Catch.{Catch}
use Rattle.js_tree.specs.declared.tree.Declaration.{Declaration}
use Rattle.js_tree.specs.declared.tree.Function.{Function}
use Rattle.js_tree.specs.declared.tree.Item.{Item}
use Rattle.js_tree.specs.declared.tree.Property.{Property}
use Rattle.js_tree.specs.declared.tree.TemplateItem.{TemplateItem}
use Rattle.js_tree.specs.declared.tree.UnaryOp.{UnaryOp}
use Rattle.js_tree.specs.declared.tree.UpdateOp.{UpdateOp}
use Rattle.js_tree.specs.declared.tree.UpdateSide.{UpdateSide}
use Rattle.js_print.specs.declared.piece.Piece.{Piece}
use Rattle.js_print.specs.Walk.{IsSplit}
use Rattle.js_grammar.specs.Marks as marks
use Rattle.js_grammar.specs.Grammar as grammar
use Rattle.js_tree.specs.Weight as weight

-- a target is taken apart
abbrev pub SplitsTarget : List Piece → Target → List Piece → Type 0
SplitsTarget old x new = IsSplit old (grammar.of_target x).forms (weight.of_target x) new

-- a function is taken apart, from its parameters on
abbrev pub SplitsFunction : List Piece → Function → List Piece → Type 0
SplitsFunction old f new = IsSplit old (grammar.of_function f).forms (weight.of_function f) new

-- an arrow's parameters are taken apart
abbrev pub SplitsArrowParameters : List Piece → List Name → List Piece → Type 0
SplitsArrowParameters old ns new = IsSplit old (grammar.arrow_parameters ns) (4 + weight.names ns) new

-- a template is taken apart
abbrev pub SplitsTemplate : List Piece → List TemplateItem → Text → List Piece → Type 0
SplitsTemplate old parts last new = IsSplit old (grammar.template (map grammar.of_template parts) last) (weight.node (weight.part (weight.parts (map weight.of_template parts)))) new

-- an operator before its operand is taken apart
abbrev pub SplitsUnary : List Piece → UnaryOp → Expr → List Piece → Type 0
SplitsUnary old op x new = IsSplit old (grammar.unary_form op ∷ (grammar.of_expr x).forms) (2 + weight.of_expr x) new

-- `++` or `--` beside its target is taken apart
abbrev pub SplitsUpdate : List Piece → UpdateSide → UpdateOp → Target → List Piece → Type 0
SplitsUpdate old side op x new = IsSplit old (grammar.update_forms side op (grammar.of_target x)) (2 + weight.of_target x) new

-- an expression is taken apart
abbrev pub SplitsExpr : List Piece → Expr → List Piece → Type 0
SplitsExpr old x new = IsSplit old (grammar.of_expr x).forms (weight.of_expr x) new

-- an expression is taken apart, where there is one
abbrev pub SplitsOptionalExpr : List Piece → Option Expr → List Piece → Type 0
SplitsOptionalExpr old x new = IsSplit old (grammar.option_value (option_map grammar.of_expr x)) (weight.optional (option_map weight.of_expr x)) new

-- names with commas between them are taken apart
abbrev pub SplitsNames : List Piece → List Name → List Piece → Type 0
SplitsNames old ns new = IsSplit old (marks.listed (map grammar.name_forms ns)) (weight.names ns) new

-- expressions with commas between them are taken apart
abbrev pub SplitsExprs : List Piece → List Expr → List Piece → Type 0
SplitsExprs old xs new = IsSplit old (marks.listed (grammar.values (map grammar.of_expr xs))) (weight.parts (map weight.of_expr xs)) new

-- the rest of a template is taken apart
abbrev pub SplitsTemplateRest : List Piece → List TemplateItem → Text → List Piece → Type 0
SplitsTemplateRest old parts last new = IsSplit old (grammar.template_rest (map grammar.of_template parts) last) (2 + weight.parts (map weight.of_template parts)) new

-- a property is taken apart
abbrev pub SplitsProperty : List Piece → Property → List Piece → Type 0
SplitsProperty old x new = IsSplit old (grammar.of_property x) (weight.of_property x) new

-- properties with commas between them are taken apart
abbrev pub SplitsProperties : List Piece → List Property → List Piece → Type 0
SplitsProperties old xs new = IsSplit old (marks.listed (map grammar.of_property xs)) (weight.parts (map weight.of_property xs)) new

-- a declaration is taken apart
abbrev pub SplitsDeclaration : List Piece → Declaration → List Piece → Type 0
SplitsDeclaration old d new = IsSplit old (grammar.of_declaration d) (weight.of_declaration d) new

-- declarations with commas between them are taken apart
abbrev pub SplitsDeclarations : List Piece → List Declaration → List Piece → Type 0
SplitsDeclarations old ds new = IsSplit old (marks.separated (map grammar.of_declaration ds)) (weight.parts (map weight.of_declaration ds)) new

-- declarations, each behind a comma, are taken apart
abbrev pub SplitsMoreDeclarations : List Piece → List Declaration → List Piece → Type 0
SplitsMoreDeclarations old ds new = IsSplit old (marks.more (map grammar.of_declaration ds)) (weight.parts (map weight.of_declaration ds)) new

-- a statement is taken apart
abbrev pub SplitsStmt : List Piece → Stmt → List Piece → Type 0
SplitsStmt old s new = IsSplit old (grammar.of_stmt s).forms (weight.of_stmt s) new

-- statements are taken apart
abbrev pub SplitsStmts : List Piece → List Stmt → List Piece → Type 0
SplitsStmts old ss new = IsSplit old (grammar.statements (map grammar.of_stmt ss)) (weight.parts (map weight.of_stmt ss)) new

-- the `else` of an `if` is taken apart, where there is one
abbrev pub SplitsElse : List Piece → Option Stmt → List Piece → Type 0
SplitsElse old s new = IsSplit old (grammar.option_else (option_map grammar.of_stmt s)) (weight.optional (option_map weight.of_stmt s)) new

-- a `catch` is taken apart, where there is one
abbrev pub SplitsCatch : List Piece → Option Catch → List Piece → Type 0
SplitsCatch old c new = IsSplit old (grammar.optional (option_map grammar.of_catch c)) (weight.optional (option_map weight.of_catch c)) new

-- a `finally` is taken apart, where there is one
abbrev pub SplitsFinally : List Piece → Option (List Stmt) → List Piece → Type 0
SplitsFinally old ss new = IsSplit old (grammar.option_finally (option_map (map grammar.of_stmt) ss)) (4 + weight.finally_of (option_map (map weight.of_stmt) ss)) new

-- the items of a script are taken apart
abbrev pub SplitsItems : List Piece → List Item → List Piece → Type 0
SplitsItems old items new = IsSplit old (grammar.of_tree items) (weight.parts (map weight.of_item items)) new
