-- The pieces of a text that a walk of a tree has still to write.
use Rattle.std.specs.Prelude.{ℕ, ◌≡◌, ◌≤◌, ◌+◌, List, [], ◌∷◌, ◌++◌, map, Option, Some, None, option_map}
use Rattle.js_lex.specs.declared.token.TokenKind.{TokenKind}
use Rattle.js_lex.specs.declared.token.TokenKind.TheVariants as tok
use Rattle.js_tree.specs.declared.tree.Name.{Name}
use Rattle.js_print.specs.declared.piece.Piece.{Piece}
use Rattle.js_print.specs.declared.piece.Piece.TheVariants as piece
use Rattle.js_grammar.specs.Marks.{Form, mark, Just, one, just, more, listed, separated}
use Rattle.js_grammar.specs.Grammar.{name, name_forms, reserved, template_mark, perhaps_async, key, option_name, arrow_parameters, of_arrow_body, of_function, of_target, of_expr, option_value, values, template_rest, of_template, of_property, of_declaration, of_for, of_stmt, statements, option_else, optional, of_catch, option_finally, of_export, parenthesized}
use Rattle.js_lex.specs.Units.{Text}
use Rattle.js_lex.specs.declared.token.Punctuator.TheVariants as p
use Rattle.js_tree.specs.declared.tree.Item.{Item}
use Rattle.js_tree.specs.declared.tree.Item.TheVariants as item
use Rattle.js_print.specs.TokenText.{texts}
use Rattle.js_print.specs.Printed.{plain}
use Rattle.js_tree.specs.Weight as weight

-- the name of a `catch` in brackets, or nothing (ECMA-262, section 14.15)
abbrev pub caught : Option Name → List Form
caught None = []
caught (Some n) = parenthesized (name n ∷ [])

-- what a piece is written as
abbrev pub piece_forms : Piece → List Form
piece_forms (piece.Sign x) = just x ∷ []
piece_forms (piece.Word x) = reserved x ∷ []
piece_forms (piece.Plain u) = one (mark (Just (tok.Name u.now))) ∷ []
piece_forms (piece.Name n) = name n.now ∷ []
piece_forms (piece.Number n) = one (mark (Just (tok.Number n))) ∷ []
piece_forms (piece.Text u) = one (mark (Just (tok.Text u.now))) ∷ []
piece_forms (piece.Part x u) = template_mark x u.now ∷ []
piece_forms (piece.Async a) = perhaps_async a []
piece_forms (piece.Key k) = key k.now ∷ []
piece_forms (piece.OptionalName n) = option_name n.now
piece_forms (piece.CatchName n) = caught n.now
piece_forms (piece.Names ns) = listed (map name_forms ns.now)
piece_forms (piece.ArrowParameters ns) = arrow_parameters ns.now
piece_forms (piece.ArrowBody b) = of_arrow_body b.now
piece_forms (piece.Function f) = (of_function f.now).forms
piece_forms (piece.Target x) = (of_target x.now).forms
piece_forms (piece.Expr x) = (of_expr x.now).forms
piece_forms (piece.OptionalExpr x) = option_value (option_map of_expr x.now)
piece_forms (piece.Exprs xs) = listed (values (map of_expr xs.now))
piece_forms (piece.TemplateRest is u) = template_rest (map of_template is.now) u.now
piece_forms (piece.Property x) = of_property x.now
piece_forms (piece.Properties xs) = listed (map of_property xs.now)
piece_forms (piece.Declaration d) = of_declaration d.now
piece_forms (piece.Declarations ds) = separated (map of_declaration ds.now)
piece_forms (piece.MoreDeclarations ds) = more (map of_declaration ds.now)
piece_forms (piece.ForBegin b) = of_for b.now
piece_forms (piece.Stmt s) = (of_stmt s.now).forms
piece_forms (piece.Stmts ss) = statements (map of_stmt ss.now)
piece_forms (piece.Else s) = option_else (option_map of_stmt s.now)
piece_forms (piece.Catch c) = optional (option_map of_catch c.now)
piece_forms (piece.Finally f) = option_finally (option_map (map of_stmt) f.now)

-- the tokens of these pieces, in order
abbrev pub kinds : List Piece → List TokenKind
kinds [] = []
kinds (p ∷ ps) = plain (piece_forms p) ++ kinds ps

-- ---- what pieces weigh

-- the weight of a piece that is still to write
abbrev pub piece_weight : Piece → ℕ
piece_weight (piece.Async a) = 2
piece_weight (piece.Key k) = 2
piece_weight (piece.OptionalName n) = 2
piece_weight (piece.CatchName n) = 4
piece_weight (piece.Names ns) = weight.names ns.now
piece_weight (piece.ArrowParameters ns) = 4 + weight.names ns.now
piece_weight (piece.ArrowBody b) = weight.of_arrow b.now
piece_weight (piece.Function f) = weight.of_function f.now
piece_weight (piece.Target x) = weight.of_target x.now
piece_weight (piece.Expr x) = weight.of_expr x.now
piece_weight (piece.OptionalExpr x) = weight.optional (option_map weight.of_expr x.now)
piece_weight (piece.Exprs xs) = weight.parts (map weight.of_expr xs.now)
piece_weight (piece.TemplateRest is u) = 2 + weight.parts (map weight.of_template is.now)
piece_weight (piece.Property x) = weight.of_property x.now
piece_weight (piece.Properties xs) = weight.parts (map weight.of_property xs.now)
piece_weight (piece.Declaration d) = weight.of_declaration d.now
piece_weight (piece.Declarations ds) = weight.parts (map weight.of_declaration ds.now)
piece_weight (piece.MoreDeclarations ds) = weight.parts (map weight.of_declaration ds.now)
piece_weight (piece.ForBegin b) = weight.of_begin b.now
piece_weight (piece.Stmt s) = weight.of_stmt s.now
piece_weight (piece.Stmts ss) = weight.parts (map weight.of_stmt ss.now)
piece_weight (piece.Else s) = weight.optional (option_map weight.of_stmt s.now)
piece_weight (piece.Catch c) = weight.optional (option_map weight.of_catch c.now)
piece_weight (piece.Finally f) = 4 + weight.finally_of (option_map (map weight.of_stmt) f.now)
piece_weight _ = 0

-- the weight of all tasks, which each step takes down
abbrev pub total : List Piece → ℕ
total [] = 0
total (p ∷ ps) = (1 + piece_weight p) + total ps

-- the new tasks are the old ones behind these forms, and at most so much heavier
pub record IsSplit (old : List Piece) (fs : List Form) (n : ℕ) (new : List Piece) : Type 0 where
  pub same : kinds new ≡ plain fs ++ kinds old
  pub heavier : total new ≤ n + total old

-- a step writes a piece, or takes it apart
pub record IsStep (p : Piece) (out : Text) (old : List Piece) (out' : Text) (new : List Piece) : Type 0 where
  pub same : out' ++ texts (kinds new) ≡ out ++ texts (kinds (p ∷ old))
  pub lighter : total new ≤ piece_weight p + total old

-- the end of `export default` is a `;` in any case
abbrev pub item_forms : Item → List Form
item_forms (item.Stmt s) = (of_stmt s).forms
item_forms (item.Export xs) = of_export xs ++ just p.Semicolon ∷ []
