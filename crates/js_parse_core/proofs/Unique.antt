-- A tree's forms tell how many constructs are open at each piece.
use Rattle.std.proofs.Common.{◌≡◌, Bool, true, false, cond, List, [], ◌∷◌, ◌++◌, map, Option, Some, None, refl, sym, ap, ap₂, ◌∙◌, subst, append-nil, inl, inr}
use Rattle.js_lex.specs.declared.token.Punctuator.TheVariants as p
use Rattle.js_lex.specs.declared.token.Reserved.TheVariants as r
use Rattle.js_lex.specs.declared.token.Token.{Token}
use Rattle.js_lex.specs.declared.token.TokenKind.TheVariants as tok
use Rattle.js_tree.specs.declared.tree.Name.{Name}
use Rattle.js_tree.specs.declared.tree.Item.{Item}
use Rattle.js_tree.specs.declared.tree.Item.TheVariants as item
use Rattle.js_tree.specs.declared.tree.ArrowBody.TheOpen.{ArrowBody-F, Expr-F, ForBegin-F, Property-F, Stmt-F, Target-F, Catch-F, Declaration-F, Function-F, TemplateItem-F}
use Rattle.js_tree.specs.declared.tree.ArrowBody.TheFolds.{map-ArrowBody, map-Expr, map-ForBegin, map-Property, map-Stmt, map-Target, map-Catch, map-Declaration, map-Function, map-TemplateItem, fold-roll-ArrowBody, fold-roll-Expr, fold-roll-ForBegin, fold-roll-Property, fold-roll-Stmt, fold-roll-Target, fold-roll-Catch, fold-roll-Declaration, fold-roll-Function, fold-roll-TemplateItem, ind-Expr, ind-Stmt, ind-Property, fold_out-Stmt}
use Rattle.js_tree.specs.declared.tree.ArrowBody.{ArrowBody, roll-ArrowBody}
use Rattle.js_tree.specs.declared.tree.Expr.{Expr, roll-Expr}
use Rattle.js_tree.specs.declared.tree.ForBegin.{ForBegin, roll-ForBegin}
use Rattle.js_tree.specs.declared.tree.Property.{Property, roll-Property}
use Rattle.js_tree.specs.declared.tree.Stmt.{Stmt, roll-Stmt, out-Stmt, out-roll-Stmt, roll-out-Stmt}
use Rattle.js_tree.specs.declared.tree.Target.{Target, roll-Target}
use Rattle.js_tree.specs.declared.tree.Catch.{Catch, roll-Catch}
use Rattle.js_tree.specs.declared.tree.Declaration.{Declaration, roll-Declaration}
use Rattle.js_tree.specs.declared.tree.Function.{Function, roll-Function}
use Rattle.js_tree.specs.declared.tree.TemplateItem.{TemplateItem, roll-TemplateItem}
use Rattle.js_grammar.specs.Marks.{Piece, Read, Ended, Seen, Just, At, Form, IsWanted, AreOf, Matches, mark, sign, word, unbroken, one, just, maybe}
use Rattle.js_grammar.specs.Script.{pieces}
use Rattle.js_grammar.specs.Grammar.{Written, WrittenStmt, WrittenFunction, WrittenPart, StmtNode, alone, values, assign_sign, declare_word, option_name, name, name_mark, name_forms, arrow_sign, arrow_body_step, expr_step, for_step, property_step, stmt_step, target_step, catch_step, declaration_step, function_step, template_step, of_arrow_body, of_expr, of_for, of_property, of_stmt, of_target, of_catch, of_declaration, of_function, of_template, of_export, is_empty, export_end, of_tree}
use Rattle.js_parse_core.proofs.PieceLemmas.{pieces_append}
use Rattle.js_parse_core.proofs.UniqueForms.{Unique, Parted, parted, cancel, unique_none, unique_append, unique_deeper, unique_one_line, unique_one, unique_only, unique_enclosed, unique_enclosed_listed, unique_end, AllUnique, bracket_ends}
use Rattle.js_parse_core.proofs.UniqueGrammar.{unique_key, unique_unary, unique_parameters, AllStatements, unique_block, AllParts, unique_template, unique_arrow, unique_member, unique_index, unique_arguments, unique_call, unique_joined, unique_update, unique_conditional, unique_option_name, unique_function, unique_method, unique_object, unique_body, unique_declared, unique_option_else, unique_option_finally, unique_for_head, unique_for_of_head, unique_ended}
use Rattle.js_parse_core.proofs.BeginsOther.{semicolon, BeginsOther, otherwise_just, begins_one, begins_append, begins_deeper, begins_name, begins_reserved, begins_reserved_at, begins_enclosed, begins_template, begins_function, begins_arrow, begins_unary, begins_update}

-- ---- what is claimed of each node, by what it is written as

pub record FixedWritten (w : Written) : Type 0 where
  pub unique : Unique w.forms
  pub begins : BeginsOther w.forms

abbrev pub FixedStmt : WrittenStmt → Type 0
FixedStmt w = Unique w.forms

abbrev pub FixedFunction : WrittenFunction → Type 0
FixedFunction w = Unique w.forms

abbrev pub FixedPart : WrittenPart → Type 0
FixedPart w = Unique w.value

abbrev pub FixedArrow : ArrowBody → Type 0
FixedArrow x = Unique (of_arrow_body x)

abbrev pub FixedExpr : Expr → Type 0
FixedExpr x = FixedWritten (of_expr x)

abbrev pub FixedFor : ForBegin → Type 0
FixedFor x = Unique (of_for x)

abbrev pub FixedProperty : Property → Type 0
FixedProperty x = Unique (of_property x)

abbrev pub FixedStatement : Stmt → Type 0
FixedStatement x = FixedStmt (of_stmt x)

abbrev pub FixedTarget : Target → Type 0
FixedTarget x = FixedWritten (of_target x)

abbrev pub FixedCatch : Catch → Type 0
FixedCatch x = Unique (of_catch x)

abbrev pub FixedDeclaration : Declaration → Type 0
FixedDeclaration x = Unique (of_declaration x)

abbrev pub FixedTreeFunction : Function → Type 0
FixedTreeFunction x = FixedFunction (of_function x)

abbrev pub FixedTemplate : TemplateItem → Type 0
FixedTemplate x = FixedPart (of_template x)

abbrev EachArrow : Type 0
EachArrow = (x : ArrowBody) × FixedArrow x

abbrev EachExpr : Type 0
EachExpr = (x : Expr) × FixedExpr x

abbrev EachFor : Type 0
EachFor = (x : ForBegin) × FixedFor x

abbrev EachProperty : Type 0
EachProperty = (x : Property) × FixedProperty x

abbrev EachStmt : Type 0
EachStmt = (x : Stmt) × FixedStatement x

abbrev EachTarget : Type 0
EachTarget = (x : Target) × FixedTarget x

abbrev EachCatch : Type 0
EachCatch = (x : Catch) × FixedCatch x

abbrev EachDeclaration : Type 0
EachDeclaration = (x : Declaration) × FixedDeclaration x

abbrev EachFunction : Type 0
EachFunction = (x : Function) × FixedTreeFunction x

abbrev EachTemplate : Type 0
EachTemplate = (x : TemplateItem) × FixedTemplate x

-- ---- the layers, with what is claimed of the parts

abbrev tree_of_arrow_body : ArrowBody-F EachArrow EachExpr EachFor EachProperty EachStmt EachTarget EachCatch EachDeclaration EachFunction EachTemplate → ArrowBody-F ArrowBody Expr ForBegin Property Stmt Target Catch Declaration Function TemplateItem
tree_of_arrow_body y = map-ArrowBody EachArrow EachExpr EachFor EachProperty EachStmt EachTarget EachCatch EachDeclaration EachFunction EachTemplate ArrowBody Expr ForBegin Property Stmt Target Catch Declaration Function TemplateItem (λ e. e.0) (λ e. e.0) (λ e. e.0) (λ e. e.0) (λ e. e.0) (λ e. e.0) (λ e. e.0) (λ e. e.0) (λ e. e.0) (λ e. e.0) y

abbrev written_arrow_body : ArrowBody-F EachArrow EachExpr EachFor EachProperty EachStmt EachTarget EachCatch EachDeclaration EachFunction EachTemplate → List Form
written_arrow_body y = arrow_body_step (map-ArrowBody ArrowBody Expr ForBegin Property Stmt Target Catch Declaration Function TemplateItem (List Form) Written (List Form) (List Form) WrittenStmt Written (List Form) (List Form) WrittenFunction WrittenPart of_arrow_body of_expr of_for of_property of_stmt of_target of_catch of_declaration of_function of_template (tree_of_arrow_body y))

abbrev tree_of_expr : Expr-F EachArrow EachExpr EachFor EachProperty EachStmt EachTarget EachCatch EachDeclaration EachFunction EachTemplate → Expr-F ArrowBody Expr ForBegin Property Stmt Target Catch Declaration Function TemplateItem
tree_of_expr y = map-Expr EachArrow EachExpr EachFor EachProperty EachStmt EachTarget EachCatch EachDeclaration EachFunction EachTemplate ArrowBody Expr ForBegin Property Stmt Target Catch Declaration Function TemplateItem (λ e. e.0) (λ e. e.0) (λ e. e.0) (λ e. e.0) (λ e. e.0) (λ e. e.0) (λ e. e.0) (λ e. e.0) (λ e. e.0) (λ e. e.0) y

abbrev written_expr : Expr-F EachArrow EachExpr EachFor EachProperty EachStmt EachTarget EachCatch EachDeclaration EachFunction EachTemplate → Written
written_expr y = expr_step (map-Expr ArrowBody Expr ForBegin Property Stmt Target Catch Declaration Function TemplateItem (List Form) Written (List Form) (List Form) WrittenStmt Written (List Form) (List Form) WrittenFunction WrittenPart of_arrow_body of_expr of_for of_property of_stmt of_target of_catch of_declaration of_function of_template (tree_of_expr y))

abbrev tree_of_for : ForBegin-F EachArrow EachExpr EachFor EachProperty EachStmt EachTarget EachCatch EachDeclaration EachFunction EachTemplate → ForBegin-F ArrowBody Expr ForBegin Property Stmt Target Catch Declaration Function TemplateItem
tree_of_for y = map-ForBegin EachArrow EachExpr EachFor EachProperty EachStmt EachTarget EachCatch EachDeclaration EachFunction EachTemplate ArrowBody Expr ForBegin Property Stmt Target Catch Declaration Function TemplateItem (λ e. e.0) (λ e. e.0) (λ e. e.0) (λ e. e.0) (λ e. e.0) (λ e. e.0) (λ e. e.0) (λ e. e.0) (λ e. e.0) (λ e. e.0) y

abbrev written_for : ForBegin-F EachArrow EachExpr EachFor EachProperty EachStmt EachTarget EachCatch EachDeclaration EachFunction EachTemplate → List Form
written_for y = for_step (map-ForBegin ArrowBody Expr ForBegin Property Stmt Target Catch Declaration Function TemplateItem (List Form) Written (List Form) (List Form) WrittenStmt Written (List Form) (List Form) WrittenFunction WrittenPart of_arrow_body of_expr of_for of_property of_stmt of_target of_catch of_declaration of_function of_template (tree_of_for y))

abbrev tree_of_property : Property-F EachArrow EachExpr EachFor EachProperty EachStmt EachTarget EachCatch EachDeclaration EachFunction EachTemplate → Property-F ArrowBody Expr ForBegin Property Stmt Target Catch Declaration Function TemplateItem
tree_of_property y = map-Property EachArrow EachExpr EachFor EachProperty EachStmt EachTarget EachCatch EachDeclaration EachFunction EachTemplate ArrowBody Expr ForBegin Property Stmt Target Catch Declaration Function TemplateItem (λ e. e.0) (λ e. e.0) (λ e. e.0) (λ e. e.0) (λ e. e.0) (λ e. e.0) (λ e. e.0) (λ e. e.0) (λ e. e.0) (λ e. e.0) y

abbrev written_property : Property-F EachArrow EachExpr EachFor EachProperty EachStmt EachTarget EachCatch EachDeclaration EachFunction EachTemplate → List Form
written_property y = property_step (map-Property ArrowBody Expr ForBegin Property Stmt Target Catch Declaration Function TemplateItem (List Form) Written (List Form) (List Form) WrittenStmt Written (List Form) (List Form) WrittenFunction WrittenPart of_arrow_body of_expr of_for of_property of_stmt of_target of_catch of_declaration of_function of_template (tree_of_property y))

abbrev tree_of_stmt : Stmt-F EachArrow EachExpr EachFor EachProperty EachStmt EachTarget EachCatch EachDeclaration EachFunction EachTemplate → Stmt-F ArrowBody Expr ForBegin Property Stmt Target Catch Declaration Function TemplateItem
tree_of_stmt y = map-Stmt EachArrow EachExpr EachFor EachProperty EachStmt EachTarget EachCatch EachDeclaration EachFunction EachTemplate ArrowBody Expr ForBegin Property Stmt Target Catch Declaration Function TemplateItem (λ e. e.0) (λ e. e.0) (λ e. e.0) (λ e. e.0) (λ e. e.0) (λ e. e.0) (λ e. e.0) (λ e. e.0) (λ e. e.0) (λ e. e.0) y

abbrev written_stmt : Stmt-F EachArrow EachExpr EachFor EachProperty EachStmt EachTarget EachCatch EachDeclaration EachFunction EachTemplate → WrittenStmt
written_stmt y = stmt_step (map-Stmt ArrowBody Expr ForBegin Property Stmt Target Catch Declaration Function TemplateItem (List Form) Written (List Form) (List Form) WrittenStmt Written (List Form) (List Form) WrittenFunction WrittenPart of_arrow_body of_expr of_for of_property of_stmt of_target of_catch of_declaration of_function of_template (tree_of_stmt y))

abbrev tree_of_target : Target-F EachArrow EachExpr EachFor EachProperty EachStmt EachTarget EachCatch EachDeclaration EachFunction EachTemplate → Target-F ArrowBody Expr ForBegin Property Stmt Target Catch Declaration Function TemplateItem
tree_of_target y = map-Target EachArrow EachExpr EachFor EachProperty EachStmt EachTarget EachCatch EachDeclaration EachFunction EachTemplate ArrowBody Expr ForBegin Property Stmt Target Catch Declaration Function TemplateItem (λ e. e.0) (λ e. e.0) (λ e. e.0) (λ e. e.0) (λ e. e.0) (λ e. e.0) (λ e. e.0) (λ e. e.0) (λ e. e.0) (λ e. e.0) y

abbrev written_target : Target-F EachArrow EachExpr EachFor EachProperty EachStmt EachTarget EachCatch EachDeclaration EachFunction EachTemplate → Written
written_target y = target_step (map-Target ArrowBody Expr ForBegin Property Stmt Target Catch Declaration Function TemplateItem (List Form) Written (List Form) (List Form) WrittenStmt Written (List Form) (List Form) WrittenFunction WrittenPart of_arrow_body of_expr of_for of_property of_stmt of_target of_catch of_declaration of_function of_template (tree_of_target y))

abbrev tree_of_catch : Catch-F EachArrow EachExpr EachFor EachProperty EachStmt EachTarget EachCatch EachDeclaration EachFunction EachTemplate → Catch-F ArrowBody Expr ForBegin Property Stmt Target Catch Declaration Function TemplateItem
tree_of_catch y = map-Catch EachArrow EachExpr EachFor EachProperty EachStmt EachTarget EachCatch EachDeclaration EachFunction EachTemplate ArrowBody Expr ForBegin Property Stmt Target Catch Declaration Function TemplateItem (λ e. e.0) (λ e. e.0) (λ e. e.0) (λ e. e.0) (λ e. e.0) (λ e. e.0) (λ e. e.0) (λ e. e.0) (λ e. e.0) (λ e. e.0) y

abbrev written_catch : Catch-F EachArrow EachExpr EachFor EachProperty EachStmt EachTarget EachCatch EachDeclaration EachFunction EachTemplate → List Form
written_catch y = catch_step (map-Catch ArrowBody Expr ForBegin Property Stmt Target Catch Declaration Function TemplateItem (List Form) Written (List Form) (List Form) WrittenStmt Written (List Form) (List Form) WrittenFunction WrittenPart of_arrow_body of_expr of_for of_property of_stmt of_target of_catch of_declaration of_function of_template (tree_of_catch y))

abbrev tree_of_declaration : Declaration-F EachArrow EachExpr EachFor EachProperty EachStmt EachTarget EachCatch EachDeclaration EachFunction EachTemplate → Declaration-F ArrowBody Expr ForBegin Property Stmt Target Catch Declaration Function TemplateItem
tree_of_declaration y = map-Declaration EachArrow EachExpr EachFor EachProperty EachStmt EachTarget EachCatch EachDeclaration EachFunction EachTemplate ArrowBody Expr ForBegin Property Stmt Target Catch Declaration Function TemplateItem (λ e. e.0) (λ e. e.0) (λ e. e.0) (λ e. e.0) (λ e. e.0) (λ e. e.0) (λ e. e.0) (λ e. e.0) (λ e. e.0) (λ e. e.0) y

abbrev written_declaration : Declaration-F EachArrow EachExpr EachFor EachProperty EachStmt EachTarget EachCatch EachDeclaration EachFunction EachTemplate → List Form
written_declaration y = declaration_step (map-Declaration ArrowBody Expr ForBegin Property Stmt Target Catch Declaration Function TemplateItem (List Form) Written (List Form) (List Form) WrittenStmt Written (List Form) (List Form) WrittenFunction WrittenPart of_arrow_body of_expr of_for of_property of_stmt of_target of_catch of_declaration of_function of_template (tree_of_declaration y))

abbrev tree_of_function : Function-F EachArrow EachExpr EachFor EachProperty EachStmt EachTarget EachCatch EachDeclaration EachFunction EachTemplate → Function-F ArrowBody Expr ForBegin Property Stmt Target Catch Declaration Function TemplateItem
tree_of_function y = map-Function EachArrow EachExpr EachFor EachProperty EachStmt EachTarget EachCatch EachDeclaration EachFunction EachTemplate ArrowBody Expr ForBegin Property Stmt Target Catch Declaration Function TemplateItem (λ e. e.0) (λ e. e.0) (λ e. e.0) (λ e. e.0) (λ e. e.0) (λ e. e.0) (λ e. e.0) (λ e. e.0) (λ e. e.0) (λ e. e.0) y

abbrev written_function : Function-F EachArrow EachExpr EachFor EachProperty EachStmt EachTarget EachCatch EachDeclaration EachFunction EachTemplate → WrittenFunction
written_function y = function_step (map-Function ArrowBody Expr ForBegin Property Stmt Target Catch Declaration Function TemplateItem (List Form) Written (List Form) (List Form) WrittenStmt Written (List Form) (List Form) WrittenFunction WrittenPart of_arrow_body of_expr of_for of_property of_stmt of_target of_catch of_declaration of_function of_template (tree_of_function y))

abbrev tree_of_template : TemplateItem-F EachArrow EachExpr EachFor EachProperty EachStmt EachTarget EachCatch EachDeclaration EachFunction EachTemplate → TemplateItem-F ArrowBody Expr ForBegin Property Stmt Target Catch Declaration Function TemplateItem
tree_of_template y = map-TemplateItem EachArrow EachExpr EachFor EachProperty EachStmt EachTarget EachCatch EachDeclaration EachFunction EachTemplate ArrowBody Expr ForBegin Property Stmt Target Catch Declaration Function TemplateItem (λ e. e.0) (λ e. e.0) (λ e. e.0) (λ e. e.0) (λ e. e.0) (λ e. e.0) (λ e. e.0) (λ e. e.0) (λ e. e.0) (λ e. e.0) y

abbrev written_template : TemplateItem-F EachArrow EachExpr EachFor EachProperty EachStmt EachTarget EachCatch EachDeclaration EachFunction EachTemplate → WrittenPart
written_template y = template_step (map-TemplateItem ArrowBody Expr ForBegin Property Stmt Target Catch Declaration Function TemplateItem (List Form) Written (List Form) (List Form) WrittenStmt Written (List Form) (List Form) WrittenFunction WrittenPart of_arrow_body of_expr of_for of_property of_stmt of_target of_catch of_declaration of_function of_template (tree_of_template y))

-- ---- lists of parts

fixed_values : (ys : List EachExpr) → AllUnique (values (map of_expr (map (λ e. e.0) ys)))
fixed_values [] = tt
fixed_values (y ∷ ys) = (y.1.unique, fixed_values ys)

fixed_properties : (ys : List EachProperty) → AllUnique (map of_property (map (λ e. e.0) ys))
fixed_properties [] = tt
fixed_properties (y ∷ ys) = (y.1, fixed_properties ys)

fixed_declarations : (ys : List EachDeclaration) → AllUnique (map of_declaration (map (λ e. e.0) ys))
fixed_declarations [] = tt
fixed_declarations (y ∷ ys) = (y.1, fixed_declarations ys)

fixed_statements : (ys : List EachStmt) → AllStatements (map of_stmt (map (λ e. e.0) ys))
fixed_statements [] = tt
fixed_statements (y ∷ ys) = (y.1, fixed_statements ys)

fixed_parts : (ys : List EachTemplate) → AllParts (map of_template (map (λ e. e.0) ys))
fixed_parts [] = tt
fixed_parts (y ∷ ys) = (y.1, fixed_parts ys)

-- ---- each node, where its parts are as claimed

case_arrow_body : (y : ArrowBody-F EachArrow EachExpr EachFor EachProperty EachStmt EachTarget EachCatch EachDeclaration EachFunction EachTemplate) → Unique (written_arrow_body y)
case_arrow_body (ArrowBody-F.Statements ys) = unique_one _ _ (unique_block _ (fixed_statements ys))
case_arrow_body (ArrowBody-F.Value y) = unique_deeper 1 (arrow_sign ∷ (of_expr y.0).forms) (unique_one (unbroken (sign p.Arrow)) (of_expr y.0).forms y.1.unique)

alone_fixed : (fs : List Form) → Unique fs → BeginsOther fs → FixedWritten (alone fs)
alone_fixed fs u b = record { unique = u; begins = b }

case_expr : (y : Expr-F EachArrow EachExpr EachFor EachProperty EachStmt EachTarget EachCatch EachDeclaration EachFunction EachTemplate) → FixedWritten (written_expr y)
case_expr (Expr-F.Name n) = alone_fixed _ (unique_only _) (begins_name n [])
case_expr (Expr-F.Number n) = alone_fixed _ (unique_only _) (begins_one _ [] (otherwise_just (tok.Number n) false 0 (λ e. cc)))
case_expr (Expr-F.Text t) = alone_fixed _ (unique_only _) (begins_one _ [] (otherwise_just (tok.Text t) false 0 (λ e. cc)))
case_expr Expr-F.True = alone_fixed _ (unique_only _) (begins_reserved r.True [])
case_expr Expr-F.False = alone_fixed _ (unique_only _) (begins_reserved r.False [])
case_expr Expr-F.Null = alone_fixed _ (unique_only _) (begins_reserved r.Null [])
case_expr Expr-F.This = alone_fixed _ (unique_only _) (begins_reserved r.This [])
case_expr (Expr-F.Template ys t) = alone_fixed _ (unique_template _ t (fixed_parts ys)) (begins_template _ t)
case_expr (Expr-F.Array ys) = alone_fixed _ (unique_enclosed_listed p.OpenBracket _ p.CloseBracket bracket_ends (fixed_values ys)) (begins_enclosed p.OpenBracket _ p.CloseBracket (λ e. cc))
case_expr (Expr-F.Object ys) = alone_fixed _ (unique_object _ (fixed_properties ys)) (begins_enclosed p.OpenBrace _ p.CloseBrace (λ e. cc))
case_expr (Expr-F.Function n f) = alone_fixed _ (unique_function (option_name n) (of_function f.0) (unique_option_name n) f.1) (begins_function (option_name n) (of_function f.0))
case_expr (Expr-F.Arrow a ns b) = alone_fixed _ (unique_arrow a ns (of_arrow_body b.0) b.1) (begins_arrow a ns (of_arrow_body b.0))
case_expr (Expr-F.Group x) = alone_fixed _ (unique_enclosed p.OpenParen _ p.CloseParen x.1.unique) (begins_enclosed p.OpenParen _ p.CloseParen (λ e. cc))
case_expr (Expr-F.Unary o x) = alone_fixed _ (unique_deeper 1 _ (unique_unary o _ x.1.unique)) (begins_deeper 1 _ (begins_unary o _))
case_expr (Expr-F.Await q x) = alone_fixed _ (unique_deeper 1 _ (unique_one (mark (At q (tok.Reserved r.Await))) (of_expr x.0).forms x.1.unique)) (begins_deeper 1 _ (begins_reserved_at q r.Await (of_expr x.0).forms))
case_expr (Expr-F.Update s o x) = alone_fixed _ (unique_update s o (of_target x.0) x.1.unique) (begins_update s o (of_target x.0) x.1.begins)
case_expr (Expr-F.Binary o x y) = record { unique = unique_joined o (of_expr x.0) (of_expr y.0) x.1.unique y.1.unique; begins = begins_append _ _ x.1.begins }
case_expr (Expr-F.Conditional test x y) = alone_fixed _ (unique_conditional (of_expr test.0) (of_expr x.0) (of_expr y.0) test.1.unique x.1.unique y.1.unique) (begins_append _ _ test.1.begins)
case_expr (Expr-F.Assign o x y) = alone_fixed _ (unique_append _ _ x.1.unique (unique_deeper 1 _ (unique_one (sign (assign_sign o)) (of_expr y.0).forms y.1.unique))) (begins_append _ _ x.1.begins)
case_expr (Expr-F.Call x ys) = record { unique = unique_call (of_expr x.0) _ x.1.unique (fixed_values ys); begins = begins_append _ _ x.1.begins }
case_expr (Expr-F.New n ys) = alone_fixed _ (unique_one _ _ (unique_one _ _ (unique_arguments _ (fixed_values ys)))) (begins_reserved r.New _)
case_expr (Expr-F.Member x n) = record { unique = unique_member (of_expr x.0) n x.1.unique; begins = begins_append _ _ x.1.begins }
case_expr (Expr-F.Index x k) = record { unique = unique_index (of_expr x.0) (of_expr k.0) x.1.unique k.1.unique; begins = begins_append _ _ x.1.begins }

case_for : (y : ForBegin-F EachArrow EachExpr EachFor EachProperty EachStmt EachTarget EachCatch EachDeclaration EachFunction EachTemplate) → Unique (written_for y)
case_for ForBegin-F.Nothing = unique_none
case_for (ForBegin-F.Declarations k ys) = unique_declared k _ (fixed_declarations ys)
case_for (ForBegin-F.Start x) = x.1.unique

case_property : (y : Property-F EachArrow EachExpr EachFor EachProperty EachStmt EachTarget EachCatch EachDeclaration EachFunction EachTemplate) → Unique (written_property y)
case_property (Property-F.Pair k x) = unique_key k _ (unique_one _ _ x.1.unique)
case_property (Property-F.Short n) = unique_only _
case_property (Property-F.Method k f) = unique_method k (of_function f.0) f.1

case_stmt : (y : Stmt-F EachArrow EachExpr EachFor EachProperty EachStmt EachTarget EachCatch EachDeclaration EachFunction EachTemplate) → FixedStmt (written_stmt y)
case_stmt (Stmt-F.Declare k ys) = unique_ended _ (unique_declared k _ (fixed_declarations ys))
case_stmt (Stmt-F.DeclareFunction n f) = unique_function (name_forms n) (of_function f.0) (unique_only _) f.1
case_stmt (Stmt-F.Block ys) = unique_block _ (fixed_statements ys)
case_stmt (Stmt-F.If test s None) = unique_one _ _ (unique_append _ _ (unique_enclosed p.OpenParen _ p.CloseParen test.1.unique) (unique_append _ _ (unique_body (of_stmt s.0) s.1) unique_none))
case_stmt (Stmt-F.If test s (Some t)) = unique_one _ _ (unique_append _ _ (unique_enclosed p.OpenParen _ p.CloseParen test.1.unique) (unique_append _ _ (unique_body (of_stmt s.0) s.1) (unique_option_else (Some (of_stmt t.0)) t.1)))
case_stmt (Stmt-F.For b None None s) = unique_one _ _ (unique_append _ _ (unique_enclosed p.OpenParen _ p.CloseParen (unique_for_head _ None None b.1 tt tt)) (unique_body (of_stmt s.0) s.1))
case_stmt (Stmt-F.For b None (Some update) s) = unique_one _ _ (unique_append _ _ (unique_enclosed p.OpenParen _ p.CloseParen (unique_for_head _ None (Some (of_expr update.0)) b.1 tt update.1.unique)) (unique_body (of_stmt s.0) s.1))
case_stmt (Stmt-F.For b (Some test) None s) = unique_one _ _ (unique_append _ _ (unique_enclosed p.OpenParen _ p.CloseParen (unique_for_head _ (Some (of_expr test.0)) None b.1 test.1.unique tt)) (unique_body (of_stmt s.0) s.1))
case_stmt (Stmt-F.For b (Some test) (Some update) s) = unique_one _ _ (unique_append _ _ (unique_enclosed p.OpenParen _ p.CloseParen (unique_for_head _ (Some (of_expr test.0)) (Some (of_expr update.0)) b.1 test.1.unique update.1.unique)) (unique_body (of_stmt s.0) s.1))
case_stmt (Stmt-F.ForOf k n x s) = unique_one _ _ (unique_append _ _ (unique_enclosed p.OpenParen _ p.CloseParen (unique_for_of_head k n (of_expr x.0) x.1.unique)) (unique_body (of_stmt s.0) s.1))
case_stmt (Stmt-F.While test s) = unique_one _ _ (unique_append _ _ (unique_enclosed p.OpenParen _ p.CloseParen test.1.unique) (unique_body (of_stmt s.0) s.1))
case_stmt (Stmt-F.Break q) = unique_one _ _ unique_end
case_stmt (Stmt-F.Continue q) = unique_one _ _ unique_end
case_stmt (Stmt-F.Return q None) = unique_one _ _ (unique_ended _ unique_none)
case_stmt (Stmt-F.Return q (Some x)) = unique_one _ _ (unique_ended _ (unique_one_line _ x.1.unique))
case_stmt (Stmt-F.Throw x) = unique_one _ _ (unique_ended _ (unique_one_line _ x.1.unique))
case_stmt (Stmt-F.Try ys None None) = unique_one _ _ (unique_append _ _ (unique_block _ (fixed_statements ys)) (unique_append _ _ unique_none unique_none))
case_stmt (Stmt-F.Try ys None (Some f)) = unique_one _ _ (unique_append _ _ (unique_block _ (fixed_statements ys)) (unique_append _ _ unique_none (unique_option_finally (Some (map of_stmt (map (λ e. e.0) f))) (fixed_statements f))))
case_stmt (Stmt-F.Try ys (Some c) None) = unique_one _ _ (unique_append _ _ (unique_block _ (fixed_statements ys)) (unique_append _ _ c.1 unique_none))
case_stmt (Stmt-F.Try ys (Some c) (Some f)) = unique_one _ _ (unique_append _ _ (unique_block _ (fixed_statements ys)) (unique_append _ _ c.1 (unique_option_finally (Some (map of_stmt (map (λ e. e.0) f))) (fixed_statements f))))
case_stmt Stmt-F.Empty = unique_only _
case_stmt (Stmt-F.Expr x) = unique_ended _ x.1.unique

case_target : (y : Target-F EachArrow EachExpr EachFor EachProperty EachStmt EachTarget EachCatch EachDeclaration EachFunction EachTemplate) → FixedWritten (written_target y)
case_target (Target-F.Variable n) = alone_fixed _ (unique_only _) (begins_name n [])
case_target (Target-F.Field x n) = record { unique = unique_member (of_expr x.0) n x.1.unique; begins = begins_append _ _ x.1.begins }
case_target (Target-F.Item x k) = record { unique = unique_index (of_expr x.0) (of_expr k.0) x.1.unique k.1.unique; begins = begins_append _ _ x.1.begins }

case_catch : (y : Catch-F EachArrow EachExpr EachFor EachProperty EachStmt EachTarget EachCatch EachDeclaration EachFunction EachTemplate) → Unique (written_catch y)
case_catch y = by_name y.name
  where
    by_name : (o : Option Name) → Unique (catch_step (record { name = o; body = map of_stmt (map (λ e. e.0) y.body) }))
    by_name None = unique_one (word r.Catch) _ (unique_block _ (fixed_statements y.body))
    by_name (Some n) = unique_one (word r.Catch) _ (unique_append _ _ (unique_enclosed p.OpenParen (name n ∷ []) p.CloseParen (unique_only (name_mark n))) (unique_block _ (fixed_statements y.body)))

case_declaration : (y : Declaration-F EachArrow EachExpr EachFor EachProperty EachStmt EachTarget EachCatch EachDeclaration EachFunction EachTemplate) → Unique (written_declaration y)
case_declaration y = by_value y.value
  where
    by_value : (o : Option EachExpr) → Unique (written_declaration (record { name = y.name; value = o }))
    by_value None = unique_only (name_mark y.name)
    by_value (Some x) = unique_one (name_mark y.name) _ (unique_one (sign p.Equal) (of_expr x.0).forms x.1.unique)

case_function : (y : Function-F EachArrow EachExpr EachFor EachProperty EachStmt EachTarget EachCatch EachDeclaration EachFunction EachTemplate) → FixedFunction (written_function y)
case_function y = unique_append _ _ (unique_parameters y.parameters) (unique_block _ (fixed_statements y.body))

case_template : (y : TemplateItem-F EachArrow EachExpr EachFor EachProperty EachStmt EachTarget EachCatch EachDeclaration EachFunction EachTemplate) → FixedPart (written_template y)
case_template y = y.value.1.unique

-- ---- all trees

step_arrow_body : (x : ArrowBody-F ArrowBody Expr ForBegin Property Stmt Target Catch Declaration Function TemplateItem) (y : ArrowBody-F EachArrow EachExpr EachFor EachProperty EachStmt EachTarget EachCatch EachDeclaration EachFunction EachTemplate) → tree_of_arrow_body y ≡ x → FixedArrow (roll-ArrowBody x)
step_arrow_body x y e = subst (λ (z : ArrowBody-F ArrowBody Expr ForBegin Property Stmt Target Catch Declaration Function TemplateItem). FixedArrow (roll-ArrowBody z)) e (subst Unique (sym (fold-roll-ArrowBody (List Form) Written (List Form) (List Form) WrittenStmt Written (List Form) (List Form) WrittenFunction WrittenPart arrow_body_step expr_step for_step property_step stmt_step target_step catch_step declaration_step function_step template_step (tree_of_arrow_body y))) (case_arrow_body y))

step_expr : (x : Expr-F ArrowBody Expr ForBegin Property Stmt Target Catch Declaration Function TemplateItem) (y : Expr-F EachArrow EachExpr EachFor EachProperty EachStmt EachTarget EachCatch EachDeclaration EachFunction EachTemplate) → tree_of_expr y ≡ x → FixedExpr (roll-Expr x)
step_expr x y e = subst (λ (z : Expr-F ArrowBody Expr ForBegin Property Stmt Target Catch Declaration Function TemplateItem). FixedExpr (roll-Expr z)) e (subst FixedWritten (sym (fold-roll-Expr (List Form) Written (List Form) (List Form) WrittenStmt Written (List Form) (List Form) WrittenFunction WrittenPart arrow_body_step expr_step for_step property_step stmt_step target_step catch_step declaration_step function_step template_step (tree_of_expr y))) (case_expr y))

step_for : (x : ForBegin-F ArrowBody Expr ForBegin Property Stmt Target Catch Declaration Function TemplateItem) (y : ForBegin-F EachArrow EachExpr EachFor EachProperty EachStmt EachTarget EachCatch EachDeclaration EachFunction EachTemplate) → tree_of_for y ≡ x → FixedFor (roll-ForBegin x)
step_for x y e = subst (λ (z : ForBegin-F ArrowBody Expr ForBegin Property Stmt Target Catch Declaration Function TemplateItem). FixedFor (roll-ForBegin z)) e (subst Unique (sym (fold-roll-ForBegin (List Form) Written (List Form) (List Form) WrittenStmt Written (List Form) (List Form) WrittenFunction WrittenPart arrow_body_step expr_step for_step property_step stmt_step target_step catch_step declaration_step function_step template_step (tree_of_for y))) (case_for y))

step_property : (x : Property-F ArrowBody Expr ForBegin Property Stmt Target Catch Declaration Function TemplateItem) (y : Property-F EachArrow EachExpr EachFor EachProperty EachStmt EachTarget EachCatch EachDeclaration EachFunction EachTemplate) → tree_of_property y ≡ x → FixedProperty (roll-Property x)
step_property x y e = subst (λ (z : Property-F ArrowBody Expr ForBegin Property Stmt Target Catch Declaration Function TemplateItem). FixedProperty (roll-Property z)) e (subst Unique (sym (fold-roll-Property (List Form) Written (List Form) (List Form) WrittenStmt Written (List Form) (List Form) WrittenFunction WrittenPart arrow_body_step expr_step for_step property_step stmt_step target_step catch_step declaration_step function_step template_step (tree_of_property y))) (case_property y))

step_stmt : (x : Stmt-F ArrowBody Expr ForBegin Property Stmt Target Catch Declaration Function TemplateItem) (y : Stmt-F EachArrow EachExpr EachFor EachProperty EachStmt EachTarget EachCatch EachDeclaration EachFunction EachTemplate) → tree_of_stmt y ≡ x → FixedStatement (roll-Stmt x)
step_stmt x y e = subst (λ (z : Stmt-F ArrowBody Expr ForBegin Property Stmt Target Catch Declaration Function TemplateItem). FixedStatement (roll-Stmt z)) e (subst FixedStmt (sym (fold-roll-Stmt (List Form) Written (List Form) (List Form) WrittenStmt Written (List Form) (List Form) WrittenFunction WrittenPart arrow_body_step expr_step for_step property_step stmt_step target_step catch_step declaration_step function_step template_step (tree_of_stmt y))) (case_stmt y))

step_target : (x : Target-F ArrowBody Expr ForBegin Property Stmt Target Catch Declaration Function TemplateItem) (y : Target-F EachArrow EachExpr EachFor EachProperty EachStmt EachTarget EachCatch EachDeclaration EachFunction EachTemplate) → tree_of_target y ≡ x → FixedTarget (roll-Target x)
step_target x y e = subst (λ (z : Target-F ArrowBody Expr ForBegin Property Stmt Target Catch Declaration Function TemplateItem). FixedTarget (roll-Target z)) e (subst FixedWritten (sym (fold-roll-Target (List Form) Written (List Form) (List Form) WrittenStmt Written (List Form) (List Form) WrittenFunction WrittenPart arrow_body_step expr_step for_step property_step stmt_step target_step catch_step declaration_step function_step template_step (tree_of_target y))) (case_target y))

step_catch : (x : Catch-F ArrowBody Expr ForBegin Property Stmt Target Catch Declaration Function TemplateItem) (y : Catch-F EachArrow EachExpr EachFor EachProperty EachStmt EachTarget EachCatch EachDeclaration EachFunction EachTemplate) → tree_of_catch y ≡ x → FixedCatch (roll-Catch x)
step_catch x y e = subst (λ (z : Catch-F ArrowBody Expr ForBegin Property Stmt Target Catch Declaration Function TemplateItem). FixedCatch (roll-Catch z)) e (subst Unique (sym (fold-roll-Catch (List Form) Written (List Form) (List Form) WrittenStmt Written (List Form) (List Form) WrittenFunction WrittenPart arrow_body_step expr_step for_step property_step stmt_step target_step catch_step declaration_step function_step template_step (tree_of_catch y))) (case_catch y))

step_declaration : (x : Declaration-F ArrowBody Expr ForBegin Property Stmt Target Catch Declaration Function TemplateItem) (y : Declaration-F EachArrow EachExpr EachFor EachProperty EachStmt EachTarget EachCatch EachDeclaration EachFunction EachTemplate) → tree_of_declaration y ≡ x → FixedDeclaration (roll-Declaration x)
step_declaration x y e = subst (λ (z : Declaration-F ArrowBody Expr ForBegin Property Stmt Target Catch Declaration Function TemplateItem). FixedDeclaration (roll-Declaration z)) e (subst Unique (sym (fold-roll-Declaration (List Form) Written (List Form) (List Form) WrittenStmt Written (List Form) (List Form) WrittenFunction WrittenPart arrow_body_step expr_step for_step property_step stmt_step target_step catch_step declaration_step function_step template_step (tree_of_declaration y))) (case_declaration y))

step_function : (x : Function-F ArrowBody Expr ForBegin Property Stmt Target Catch Declaration Function TemplateItem) (y : Function-F EachArrow EachExpr EachFor EachProperty EachStmt EachTarget EachCatch EachDeclaration EachFunction EachTemplate) → tree_of_function y ≡ x → FixedTreeFunction (roll-Function x)
step_function x y e = subst (λ (z : Function-F ArrowBody Expr ForBegin Property Stmt Target Catch Declaration Function TemplateItem). FixedTreeFunction (roll-Function z)) e (subst FixedFunction (sym (fold-roll-Function (List Form) Written (List Form) (List Form) WrittenStmt Written (List Form) (List Form) WrittenFunction WrittenPart arrow_body_step expr_step for_step property_step stmt_step target_step catch_step declaration_step function_step template_step (tree_of_function y))) (case_function y))

step_template : (x : TemplateItem-F ArrowBody Expr ForBegin Property Stmt Target Catch Declaration Function TemplateItem) (y : TemplateItem-F EachArrow EachExpr EachFor EachProperty EachStmt EachTarget EachCatch EachDeclaration EachFunction EachTemplate) → tree_of_template y ≡ x → FixedTemplate (roll-TemplateItem x)
step_template x y e = subst (λ (z : TemplateItem-F ArrowBody Expr ForBegin Property Stmt Target Catch Declaration Function TemplateItem). FixedTemplate (roll-TemplateItem z)) e (subst FixedPart (sym (fold-roll-TemplateItem (List Form) Written (List Form) (List Form) WrittenStmt Written (List Form) (List Form) WrittenFunction WrittenPart arrow_body_step expr_step for_step property_step stmt_step target_step catch_step declaration_step function_step template_step (tree_of_template y))) (case_template y))

pub fixed_expr : (x : Expr) → FixedExpr x
fixed_expr = ind-Expr FixedArrow FixedExpr FixedFor FixedProperty FixedStatement FixedTarget FixedCatch FixedDeclaration FixedTreeFunction FixedTemplate step_arrow_body step_expr step_for step_property step_stmt step_target step_catch step_declaration step_function step_template

pub fixed_property : (x : Property) → FixedProperty x
fixed_property = ind-Property FixedArrow FixedExpr FixedFor FixedProperty FixedStatement FixedTarget FixedCatch FixedDeclaration FixedTreeFunction FixedTemplate step_arrow_body step_expr step_for step_property step_stmt step_target step_catch step_declaration step_function step_template

pub fixed_stmt : (x : Stmt) → FixedStatement x
fixed_stmt = ind-Stmt FixedArrow FixedExpr FixedFor FixedProperty FixedStatement FixedTarget FixedCatch FixedDeclaration FixedTreeFunction FixedTemplate step_arrow_body step_expr step_for step_property step_stmt step_target step_catch step_declaration step_function step_template

-- ---- a statement that is not empty begins with no `;`

abbrev node_written : StmtNode → WrittenStmt
node_written n = stmt_step (map-Stmt ArrowBody Expr ForBegin Property Stmt Target Catch Declaration Function TemplateItem (List Form) Written (List Form) (List Form) WrittenStmt Written (List Form) (List Form) WrittenFunction WrittenPart of_arrow_body of_expr of_for of_property of_stmt of_target of_catch of_declaration of_function of_template n)

begins_node : (n : StmtNode) → is_empty (roll-Stmt n) ≡ false → BeginsOther (node_written n).forms
begins_node (Stmt-F.Declare k ds) h = begins_reserved (declare_word k) _
begins_node (Stmt-F.DeclareFunction n f) h = begins_function (name_forms n) (of_function f)
begins_node (Stmt-F.Block ss) h = begins_enclosed p.OpenBrace _ p.CloseBrace (λ e. cc)
begins_node (Stmt-F.If test s t) h = begins_reserved r.If _
begins_node (Stmt-F.For b test update s) h = begins_reserved r.For _
begins_node (Stmt-F.ForOf k n x s) h = begins_reserved r.For _
begins_node (Stmt-F.While test s) h = begins_reserved r.While _
begins_node (Stmt-F.Break q) h = begins_reserved_at q r.Break _
begins_node (Stmt-F.Continue q) h = begins_reserved_at q r.Continue _
begins_node (Stmt-F.Return q x) h = begins_reserved_at q r.Return _
begins_node (Stmt-F.Throw x) h = begins_reserved r.Throw _
begins_node (Stmt-F.Try ss c f) h = begins_reserved r.Try _
begins_node Stmt-F.Empty h = let e : true ≡ false = rw (out-roll-Stmt Stmt-F.Empty) at h in cc
begins_node (Stmt-F.Expr x) h = begins_append _ _ (fixed_expr x).begins

pub begins_stmt : (s : Stmt) → is_empty s ≡ false → BeginsOther (of_stmt s).forms
begins_stmt s h = subst (λ (w : WrittenStmt). BeginsOther w.forms) (sym (fold_out-Stmt (List Form) Written (List Form) (List Form) WrittenStmt Written (List Form) (List Form) WrittenFunction WrittenPart arrow_body_step expr_step for_step property_step stmt_step target_step catch_step declaration_step function_step template_step s))
    (begins_node (out-Stmt s) (subst (λ (z : Stmt). is_empty z ≡ false) (sym (roll-out-Stmt s)) h))

-- ---- whole trees

-- the counts are those of the pieces, where none follow
record Sole (fs : List Form) : Type 0 where
  same : (a b : List Seen) → Matches fs a → Matches fs b → pieces a ≡ pieces b → a ≡ b

record NoEnd (fs : List Form) : Type 0 where
  other : (a : List Seen) (t : Token) (y : List Piece) → Matches fs a → t.kind ≡ semicolon → pieces a ≡ Read t ∷ y → ⊥

sole_append : (fs gs : List Form) → Unique fs → Sole gs → Sole (fs ++ gs)
sole_append fs gs u v = record {
  same = λ a b h k e.
      let s : Parted fs gs a = parted fs gs a h in
      let t : Parted fs gs b = parted fs gs b k in
      let e2 : pieces s.front ++ pieces s.back ≡ pieces t.front ++ pieces t.back =
      sym (pieces_append s.front s.back) ∙ sym (ap pieces s.parts) ∙ e ∙ ap pieces t.parts ∙ pieces_append t.front t.back in
      let i : s.front ≡ t.front = u.same s.front t.front (pieces s.back) (pieces t.back) s.is_front t.is_front e2 in
      let e3 : pieces s.back ≡ pieces t.back = cancel (pieces t.front) (pieces s.back) (pieces t.back) (subst (λ (z : List Seen). pieces z ++ pieces s.back ≡ pieces t.front ++ pieces t.back) i e2) in
      s.parts ∙ ap₂ (λ (z w : List Seen). z ++ w) i (v.same s.back t.back s.is_back t.is_back e3) ∙ sym t.parts;
}

no_end_from : (fs : List Form) → BeginsOther fs → NoEnd fs
no_end_from fs b = record { other = λ a t y h k e. b.other a [] t y h k (append-nil (pieces a) ∙ e) }

no_end_none : NoEnd []
no_end_none = record { other = λ a t y h k e. let e2 : [] ≡ Read t ∷ y = sym (ap pieces h) ∙ e in cc }

abbrev semi : Form
semi = one (sign p.Semicolon)

-- it has a `;` first
record Ends (a : List Seen) : Type 0 where
  token : Token
  rest : List Piece
  kind : token.kind ≡ semicolon
  are : pieces a ≡ Read token ∷ rest

ends_read : (q : Piece) (rest : List Piece) (a : List Seen) → pieces a ≡ q ∷ rest → IsWanted (Just semicolon) false q → Ends a
ends_read (Read t) rest a e h = record { token = t; rest = rest; kind = h.0; are = e }
ends_read Ended rest a e h = absurd h

ends : (a u v : List Seen) → a ≡ u ++ v → AreOf (sign p.Semicolon ∷ []) u → Ends a
ends a u v e (s, r, i, o, h) = ends_read s.piece (pieces (r ++ v)) a (ap pieces e ∙ ap (λ (z : List Seen). pieces (z ++ v)) i) o.wanted

sole_maybe : (gs : List Form) → NoEnd gs → Sole gs → Sole (maybe (sign p.Semicolon) ∷ gs)
sole_maybe gs n k = record { same = both }
  where
    with_it : Sole (semi ∷ gs)
    with_it = sole_append (semi ∷ []) gs (unique_only (sign p.Semicolon)) k

    without_it : (a u v : List Seen) → a ≡ u ++ v → u ≡ [] → Matches gs v → Matches gs a
    without_it a u v e i h = subst (Matches gs) (sym (e ∙ ap (λ (z : List Seen). z ++ v) i)) h

    never : (a b : List Seen) → Ends a → Matches gs b → pieces a ≡ pieces b → ⊥
    never a b s h e = n.other b s.token s.rest h s.kind (sym e ∙ s.are)

    both : (a b : List Seen) → Matches (maybe (sign p.Semicolon) ∷ gs) a → Matches (maybe (sign p.Semicolon) ∷ gs) b → pieces a ≡ pieces b → a ≡ b
    both a b h g e = elim h.3 [
      | inl c ↦ elim g.3 [
        | inl d ↦ with_it.same a b (h.0, h.1, h.2, inl c, h.4) (g.0, g.1, g.2, inl d, g.4) e
        | inr d ↦ elim d [
          | inl f ↦ absurd (never a b (ends a h.0 h.1 h.2 c) (without_it b g.0 g.1 g.2 f g.4) e)
          | inr f ↦ absurd f
        ]
      ]
      | inr c ↦ elim c [
        | inl q ↦ elim g.3 [
          | inl d ↦ absurd (never b a (ends b g.0 g.1 g.2 d) (without_it a h.0 h.1 h.2 q h.4) (sym e))
          | inr d ↦ elim d [
            | inl f ↦ k.same a b (without_it a h.0 h.1 h.2 q h.4) (without_it b g.0 g.1 g.2 f g.4) e
            | inr f ↦ absurd f
          ]
        ]
        | inr q ↦ absurd q
      ]
    ]

all_properties : (xs : List Property) → AllUnique (map of_property xs)
all_properties [] = tt
all_properties (x ∷ xs) = (fixed_property x, all_properties xs)

unique_export : (xs : List Property) → Unique (of_export xs)
unique_export xs = unique_one _ _ (unique_one _ _ (unique_object (map of_property xs) (all_properties xs)))

sole_end : (is : List Item) → Sole (of_tree is) → Sole (export_end is ∷ of_tree is)
sole_end [] k = sole_maybe [] no_end_none k
sole_end (item.Stmt s ∷ is) k = by_test (is_empty s) refl
  where
    by_test : (b : Bool) → is_empty s ≡ b → Sole (cond b (just p.Semicolon) (maybe (sign p.Semicolon)) ∷ of_tree (item.Stmt s ∷ is))
    by_test true e = sole_append (semi ∷ []) (of_tree (item.Stmt s ∷ is)) (unique_only (sign p.Semicolon)) k
    by_test false e = sole_maybe (of_tree (item.Stmt s ∷ is)) (no_end_from _ (begins_append (of_stmt s).forms (of_tree is) (begins_stmt s e))) k
sole_end (item.Export xs ∷ is) k = sole_maybe (of_tree (item.Export xs ∷ is)) (no_end_from _ (begins_append (of_export xs) (export_end is ∷ of_tree is) (begins_reserved r.Export _))) k

sole_tree : (is : List Item) → Sole (of_tree is)
sole_tree [] = record { same = λ a b h k e. h ∙ sym k }
sole_tree (item.Stmt s ∷ is) = sole_append (of_stmt s).forms (of_tree is) (fixed_stmt s) (sole_tree is)
sole_tree (item.Export xs ∷ is) = sole_append (of_export xs) (export_end is ∷ of_tree is) (unique_export xs) (sole_end is (sole_tree is))

-- The pieces of a tree tell how many constructs are open at each.
pub tree_unique : (tree : List Item) (a b : List Seen) → Matches (of_tree tree) a → Matches (of_tree tree) b → pieces a ≡ pieces b → a ≡ b
tree_unique tree a b h k e = (sole_tree tree).same a b h k e
