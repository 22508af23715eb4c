-- What a token does between and in statements.
use Rattle.std.specs.Prelude.{ℕ, Bool, true, false, cond, not, ◌&&◌, ◌||◌, List, [], ◌∷◌, ◌++◌, Option, Some, None, Ok, Err}
use Rattle.js_lex.specs.declared.token.Punctuator.{Punctuator}
use Rattle.js_lex.specs.declared.token.Punctuator.TheVariants as p
use Rattle.js_lex.specs.declared.token.Reserved.{Reserved}
use Rattle.js_lex.specs.declared.token.Reserved.TheVariants as r
use Rattle.js_lex.specs.declared.token.TokenKind.{TokenKind}
use Rattle.js_lex.specs.declared.token.TokenKind.TheVariants as tok
use Rattle.js_lex.specs.declared.token.Token.{Token}
use Rattle.js_tree.specs.declared.tree.ArrowBody.TheVariants as arrow_body
use Rattle.js_tree.specs.declared.tree.Catch.{Catch, roll-Catch}
use Rattle.js_tree.specs.declared.tree.DeclareKind.{DeclareKind}
use Rattle.js_tree.specs.declared.tree.DeclareKind.TheVariants as declare
use Rattle.js_tree.specs.declared.tree.Declaration.{Declaration, roll-Declaration}
use Rattle.js_tree.specs.declared.tree.Expr.{Expr}
use Rattle.js_tree.specs.declared.tree.Expr.TheVariants as expr
use Rattle.js_tree.specs.declared.tree.ForBegin.{ForBegin}
use Rattle.js_tree.specs.declared.tree.ForBegin.TheVariants as for_begin
use Rattle.js_tree.specs.declared.tree.Function.{Function, roll-Function}
use Rattle.js_tree.specs.declared.tree.Name.{Name}
use Rattle.js_tree.specs.declared.tree.Property.TheVariants as property
use Rattle.js_tree.specs.declared.tree.Stmt.{Stmt}
use Rattle.js_tree.specs.declared.tree.Stmt.TheVariants as stmt
use Rattle.js_words.specs.declared.word.Spot.TheVariants as spot
use Rattle.js_parse_core.specs.declared.machine.At.{At}
use Rattle.js_parse_core.specs.declared.machine.At.TheVariants as at
use Rattle.js_parse_core.specs.declared.machine.Block.{Block}
use Rattle.js_parse_core.specs.declared.machine.Block.TheVariants as block
use Rattle.js_parse_core.specs.declared.machine.Body.TheVariants as body
use Rattle.js_parse_core.specs.declared.machine.Declared.{Declared}
use Rattle.js_parse_core.specs.declared.machine.Frame.{Frame}
use Rattle.js_parse_core.specs.declared.machine.Frame.TheVariants as frame
use Rattle.js_parse_core.specs.declared.machine.Head.{Head}
use Rattle.js_parse_core.specs.declared.machine.Head.TheVariants as head
use Rattle.js_parse_core.specs.declared.machine.Open.{Open}
use Rattle.js_parse_core.specs.declared.machine.Opening.{Opening}
use Rattle.js_parse_core.specs.declared.machine.Opening.TheVariants as opening
use Rattle.js_parse_core.specs.declared.machine.Outer.{Outer}
use Rattle.js_parse_core.specs.declared.machine.Purpose.TheVariants as purpose
use Rattle.js_parse_core.specs.declared.machine.Refusal.{Refusal}
use Rattle.js_parse_core.specs.declared.machine.Refusal.TheVariants as refusal
use Rattle.js_parse_core.specs.Begin.{begin}
use Rattle.js_parse_core.specs.Outer.{Step, because, refuse, refuse_at, to, push, innermost, without, wait, wait_body, open_block, in_body, complete, settle}
use Rattle.js_parse_core.specs.Tokens.{name, is_open_paren, is_close_paren, is_open_brace, is_semicolon, is_comma, is_equal, is_else, is_finally, is_default, is_of, is_end, may_end}

-- nothing is open: it is the top level of the script
abbrev pub is_top : List Open → Bool
is_top [] = true
is_top (f ∷ fs) = false

-- a declaration's begin, which is refused as the body of a statement (ECMA-262, section 14)
abbrev pub not_in_body : Outer → At → Step
not_in_body o a = cond (in_body o) (refuse_at spot.StatementBegin) (to o a)

-- `let` or `const`, in the brackets of a `for` or not, before its first declaration
abbrev pub declares : DeclareKind → Bool → Declared
declares k in_for = record { kind = k; in_for = in_for; declarations = [] }

-- `export` stands at the top level, and once at most
abbrev pub on_export : Outer → Step
on_export o = cond (is_top o.frames && not o.exported) (to o at.ExportDefault) (refuse_at spot.StatementBegin)

-- a token that begins an expression as a statement (ECMA-262, section 14.5)
abbrev pub expression_statement : Outer → Token → Step
expression_statement o t = begin (push o 0 (frame.Purpose purpose.Statement)) t

-- a reserved word where a statement begins (ECMA-262, section 14)
abbrev pub begin_by_word : Outer → Token → Reserved → Step
begin_by_word o t r.If = to o (at.Opening opening.If)
begin_by_word o t r.While = to o (at.Opening opening.While)
begin_by_word o t r.For = to o (at.Opening opening.For)
begin_by_word o t r.Break = to o (at.Jump (stmt.Break t.place))
begin_by_word o t r.Continue = to o (at.Jump (stmt.Continue t.place))
begin_by_word o t r.Return = to o (at.Return t.place)
begin_by_word o t r.Throw = to o at.Throw
begin_by_word o t r.Try = to o at.TryOpen
begin_by_word o t r.Function = not_in_body o (at.FunctionName true false)
begin_by_word o t r.Export = on_export o
begin_by_word o t r.Let = not_in_body o (at.DeclaredName (declares declare.Let false))
begin_by_word o t r.Const = not_in_body o (at.DeclaredName (declares declare.Const false))
begin_by_word o t _ = expression_statement o t

-- the braces of a body are the body
abbrev pub block_constructs : Bool → ℕ
block_constructs true = 0
block_constructs false = 1

-- a function from its parts: whether it is `async`, its parameters, its statements
abbrev pub function : Bool → List Name → List Stmt → Function
function a ns ss = roll-Function (record { is_async = a; parameters = ns; body = ss })

-- `}` behind a function's statements: a declaration, an operand, or a method of an object
abbrev pub close_function : Outer → Head → List Name → List Stmt → Step
close_function o (head.Declaration a n) ns ss = complete o (stmt.DeclareFunction n (function a ns ss))
close_function o (head.Expression a n) ns ss = to o (at.Operand (expr.Function n (function a ns ss)) 0)
close_function o (head.Method a xs k) ns ss = to o (at.PropertyEnd (xs ++ property.Method k (function a ns ss) ∷ []))

-- `}` behind the statements of a block: what they make with what stands before them
abbrev pub close : Outer → Block → List Stmt → Step
close o block.Plain ss = complete o (stmt.Block ss)
close o (block.Function h ns) ss = close_function o h ns ss
close o (block.Arrow a ns) ss = to o (at.Whole (expr.Arrow a ns (arrow_body.Statements ss)))
close o block.Try ss = to o (at.AfterTry ss)
close o (block.Catch tried n) ss = to o (at.AfterCatch tried (roll-Catch (record { name = n; body = ss })))
close o (block.Finally tried c) ss = complete o (stmt.Try tried c (Some ss))

-- `}` within this frame: it ends a block, and is refused where none is open
abbrev pub close_frame : Outer → Option Frame → Step
close_frame o (Some (frame.Block b ss)) = close o b ss
close_frame o _ = refuse_at spot.StatementBegin

-- `}` where a statement may begin
abbrev pub close_block : Outer → Step
close_block o = close_frame (without o) (innermost o)

-- the end of all tokens, which may stand only where nothing is open
abbrev pub end_script : Outer → Step
end_script o = cond (is_top o.frames) (to o at.Statement) (refuse_at spot.StatementBegin)

-- a sign where a statement begins: `{`, `}`, `;`, or the first one of an expression
abbrev pub begin_by_sign : Outer → Token → Punctuator → Step
begin_by_sign o t p.OpenBrace = open_block o (block_constructs (in_body o)) block.Plain
begin_by_sign o t p.CloseBrace = close_block o
begin_by_sign o t p.Semicolon = complete o stmt.Empty
begin_by_sign o t _ = expression_statement o t

-- a token of this kind where a statement may begin
abbrev pub on_statement_kind : Outer → Token → TokenKind → Step
on_statement_kind o t (tok.Punctuator s) = begin_by_sign o t s
on_statement_kind o t (tok.Reserved x) = begin_by_word o t x
on_statement_kind o t tok.End = end_script o
on_statement_kind o t _ = expression_statement o t

-- a statement begins
abbrev pub on_statement : Outer → Token → Step
on_statement o t = on_statement_kind o t t.kind

-- ---- ends

-- the same refusal, of a token that an automatic end may stand before
abbrev pub with_end : Refusal → Refusal
with_end (refusal.Token a) = refusal.Token (record { before = a.before; here = a.here; ended = true })
with_end k = k

-- a token that is refused on its line is refused behind its line end too
abbrev pub behind_end : Step → Refusal → Step
behind_end (Err (refusal.Token a)) k = Err (with_end k)
behind_end made k = made

-- `else` behind the first body of an `if`; it is refused elsewhere (ECMA-262, section 14.6)
abbrev pub to_else : Outer → At → Step
to_else o (at.AfterThen test s) = wait_body o (body.Else test s)
to_else o _ = refuse_at spot.StatementBegin

-- `else` behind a step that made a statement whole
abbrev pub else_behind : Step → Step
else_behind (Ok n) = to_else n.outer n.at
else_behind (Err k) = Err k

-- a token other than `else` behind a step that made a statement whole
abbrev pub statement_behind : Step → Token → Step
statement_behind (Ok n) t = on_statement n.outer t
statement_behind (Err k) t = Err k

-- the token stands behind a statement that is whole
abbrev pub resume : Outer → Stmt → Token → Step
resume o s t = cond (is_else t.kind) (else_behind (complete o s)) (statement_behind (settle o s) t)

-- Its end: `;`, or an automatic one. Where none are put in, `End` stands for one.
abbrev pub ends_statement : Bool → TokenKind → Bool
ends_statement true k = is_semicolon k
ends_statement false k = is_semicolon k || is_end k

-- the statement is whole but for its end
abbrev pub end : Bool → Outer → Stmt → Token → Refusal → Step
end auto o s t k = cond (ends_statement auto t.kind) (complete o s) (cond (auto && may_end t) (behind_end (resume o s t) k) (Err k))

-- a token behind the first body of an `if`: `else`, or what follows the whole statement
abbrev pub after_then : Outer → Expr → Stmt → Token → Step
after_then o test s t = cond (is_else t.kind) (wait_body o (body.Else test s)) (resume o (stmt.If test s None) t)

-- ---- heads of statements

-- `(` behind `if`, `while` or `for`
abbrev pub open_head : Outer → Opening → Step
open_head o opening.If = wait o 1 purpose.If
open_head o opening.While = wait o 1 purpose.While
open_head o opening.For = to o at.ForHead

-- a token behind `if`, `while` or `for`, which must be `(`
abbrev pub on_opening : Outer → Opening → TokenKind → Step
on_opening o x k = cond (is_open_paren k) (open_head o x) refuse

-- a token that begins the expression before the first `;` of a `for`
abbrev pub for_start : Outer → Token → Step
for_start o t = begin (push o 1 (frame.Purpose purpose.ForStart)) t

-- a token of this kind behind `for (`: `let`, `const`, `;`, or the begin of an expression
abbrev pub on_for_kind : Outer → Token → TokenKind → Step
on_for_kind o t (tok.Reserved r.Let) = to o (at.DeclaredName (declares declare.Let true))
on_for_kind o t (tok.Reserved r.Const) = to o (at.DeclaredName (declares declare.Const true))
on_for_kind o t (tok.Punctuator p.Semicolon) = to o (at.ForTest for_begin.Nothing)
on_for_kind o t _ = for_start o t

-- a token behind `for (` (ECMA-262, section 14.7.4)
abbrev pub on_for_head : Outer → Token → Step
on_for_head o t = on_for_kind o t t.kind

-- a token behind `for (begin;`: `;`, or the begin of the test
abbrev pub on_for_test : Outer → ForBegin → Token → Step
on_for_test o b t = cond (is_semicolon t.kind) (to o (at.ForUpdate b None)) (begin (push o 1 (frame.Purpose (purpose.ForTest b))) t)

-- a token behind `for (begin; test;`: `)`, or the begin of the update
abbrev pub on_for_update : Outer → ForBegin → Option Expr → Token → Step
on_for_update o b test t = cond (is_close_paren t.kind) (wait_body o (body.For b test None)) (begin (push o 1 (frame.Purpose (purpose.ForUpdate b test))) t)

-- a token behind `return`: its end, or the begin of the value on the same line (ECMA-262, section 14.10)
abbrev pub on_return : Bool → Outer → ℕ → Token → Step
on_return auto o q t = cond (may_end t || is_semicolon t.kind)
    (end auto o (stmt.Return q None) t (because None (Some spot.ExpressionBegin)))
    (begin (push o 0 (frame.Purpose (purpose.Return q))) t)

-- a token behind `throw`, which begins the value on the same line (ECMA-262, section 14.14)
abbrev pub on_throw : Outer → Token → Step
on_throw o t = cond t.after_line_end (Err refusal.Plain) (begin (push o 0 (frame.Purpose purpose.Throw)) t)

-- a token behind `break` or `continue`, which must end it (ECMA-262, sections 14.8 and 14.9)
abbrev pub on_jump : Bool → Outer → Stmt → Token → Step
on_jump auto o s t = end auto o s t (because None None)

-- ---- declarations

-- a token behind `let`, `const` or a comma of declarations, which must be a name
abbrev pub on_declared_name : Outer → Declared → ℕ → TokenKind → Step
on_declared_name o d q (tok.Name u) = to o (at.NameDeclared d (name q u))
on_declared_name o d q _ = refuse_at spot.DeclaredName

-- the declarations with one more behind them: this name, and its value if it has one
abbrev pub with_declaration : Declared → Name → Option Expr → Declared
with_declaration d n x = record { kind = d.kind; in_for = d.in_for; declarations = d.declarations ++ roll-Declaration (record { name = n; value = x }) ∷ [] }

-- a token behind the last declaration, which has no value: `;` within a `for`, else the statement's end
abbrev pub declared_in : Bool → Outer → Declared → Token → Bool → Step
declared_in auto o d t true = cond (is_semicolon t.kind) (to o (at.ForTest (for_begin.Declarations d.kind d.declarations))) refuse
declared_in auto o d t false = end auto o (stmt.Declare d.kind d.declarations) t (because None None)

-- a token behind a declaration without a value: a comma, or the end of the declarations
abbrev pub on_bare_name : Bool → Outer → Declared → Token → Step
on_bare_name auto o d t = cond (is_comma t.kind) (to o (at.DeclaredName d)) (declared_in auto o d t d.in_for)

-- a declared name without a value, which `const` does not allow (ECMA-262, section 14.3.1)
abbrev pub without_value : Bool → Outer → Declared → Name → Token → DeclareKind → Step
without_value auto o d n t declare.Let = on_bare_name auto o (with_declaration d n None) t
without_value auto o d n t declare.Const = refuse

-- no declaration stands before
abbrev pub is_first : List Declaration → Bool
is_first [] = true
is_first (d ∷ ds) = false

-- a token behind a declared name: `=`, the `of` of a `for`, or one that shows that it has no value
abbrev pub on_name_declared : Bool → Outer → Declared → Name → Token → Step
on_name_declared auto o d n t = cond (is_equal t.kind) (wait o (cond d.in_for 1 0) (purpose.Initial d n))
    (cond (d.in_for && (is_first d.declarations && is_of t.kind)) (wait o 1 (purpose.ForOf d.kind n)) (without_value auto o d n t d.kind))

-- ---- `try` and `export`

-- a token behind `try`, which must be `{` (ECMA-262, section 14.15)
abbrev pub on_try : Outer → TokenKind → Step
on_try o k = cond (is_open_brace k) (open_block o 1 block.Try) refuse

-- a token behind the block of a `try`, which must be `catch` or `finally`
abbrev pub after_try : Outer → List Stmt → TokenKind → Step
after_try o ss (tok.Reserved r.Catch) = to o (at.CatchOpen ss)
after_try o ss (tok.Reserved r.Finally) = to o (at.FinallyOpen ss None)
after_try o ss _ = refuse

-- a token behind `catch`: `(` before the name, or `{`
abbrev pub on_catch : Outer → List Stmt → TokenKind → Step
on_catch o ss (tok.Punctuator p.OpenParen) = to o (at.CatchName ss)
on_catch o ss (tok.Punctuator p.OpenBrace) = open_block o 1 (block.Catch ss None)
on_catch o ss _ = refuse

-- a token behind `catch (`, which must be a name
abbrev pub on_catch_name : Outer → List Stmt → ℕ → TokenKind → Step
on_catch_name o ss q (tok.Name u) = to o (at.CatchClose ss (name q u))
on_catch_name o ss q _ = refuse_at spot.DeclaredName

-- a token behind `catch (name`, which must be `)`
abbrev pub on_catch_close : Outer → List Stmt → Name → TokenKind → Step
on_catch_close o ss n k = cond (is_close_paren k) (to o (at.CatchBody ss n)) refuse

-- a token behind `catch (name)`, which must be `{`
abbrev pub on_catch_body : Outer → List Stmt → Name → TokenKind → Step
on_catch_body o ss n k = cond (is_open_brace k) (open_block o 1 (block.Catch ss (Some n))) refuse

-- a token behind the block of a `catch`: `finally`, or what follows the whole statement
abbrev pub after_catch : Outer → List Stmt → Catch → Token → Step
after_catch o ss c t = cond (is_finally t.kind) (to o (at.FinallyOpen ss (Some c))) (resume o (stmt.Try ss (Some c) None) t)

-- a token behind `finally`, which must be `{`
abbrev pub on_finally : Outer → List Stmt → Option Catch → TokenKind → Step
on_finally o ss c k = cond (is_open_brace k) (open_block o 1 (block.Finally ss c)) refuse

-- a token behind `export`, which must be `default` (ECMA-262, section 16.2.3)
abbrev pub on_export_word : Outer → TokenKind → Step
on_export_word o k = cond (is_default k) (to o at.ExportObject) refuse

-- a token behind `export default`, which must be `{`
abbrev pub on_export_object : Outer → TokenKind → Step
on_export_object o k = cond (is_open_brace k) (to (push o 0 frame.Export) (at.Key [])) refuse

-- a token behind the exported object: a `;`, or the begin of the next statement
abbrev pub after_export : Outer → Token → Step
after_export o t = cond (is_semicolon t.kind) (to o at.Statement) (on_statement o t)
