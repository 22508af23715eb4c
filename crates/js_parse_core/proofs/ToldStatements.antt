-- No step of a statement is refused for what is open.

use Rattle.std.specs.Prelude.{ℕ, Bool, true, false, cond, not, ◌&&◌, ◌||◌, List, [], Option, Some, None, Ok, Err}
use Rattle.js_lex.specs.declared.token.Punctuator.{Punctuator}
use Rattle.js_lex.specs.declared.token.Punctuator.TheVariants as p
use Rattle.js_lex.specs.declared.token.Reserved.{Reserved}
use Rattle.js_lex.specs.declared.token.Reserved.TheVariants as r
use Rattle.js_lex.specs.declared.token.TokenKind.{TokenKind}
use Rattle.js_lex.specs.declared.token.TokenKind.TheVariants as tok
use Rattle.js_lex.specs.declared.token.Token.{Token}
use Rattle.js_tree.specs.declared.tree.Catch.{Catch}
use Rattle.js_tree.specs.declared.tree.DeclareKind.{DeclareKind}
use Rattle.js_tree.specs.declared.tree.DeclareKind.TheVariants as declare
use Rattle.js_tree.specs.declared.tree.Expr.{Expr}
use Rattle.js_tree.specs.declared.tree.ForBegin.{ForBegin}
use Rattle.js_tree.specs.declared.tree.ForBegin.TheVariants as for_begin
use Rattle.js_tree.specs.declared.tree.Name.{Name}
use Rattle.js_tree.specs.declared.tree.Stmt.{Stmt}
use Rattle.js_tree.specs.declared.tree.Stmt.TheVariants as stmt
use Rattle.js_words.specs.declared.word.Spot.TheVariants as spot
use Rattle.js_parse_core.specs.declared.machine.At.{At}
use Rattle.js_parse_core.specs.declared.machine.At.TheVariants as at
use Rattle.js_parse_core.specs.declared.machine.Block.{Block}
use Rattle.js_parse_core.specs.declared.machine.Block.TheVariants as block
use Rattle.js_parse_core.specs.declared.machine.Body.TheVariants as body
use Rattle.js_parse_core.specs.declared.machine.Declared.{Declared}
use Rattle.js_parse_core.specs.declared.machine.Frame.{Frame}
use Rattle.js_parse_core.specs.declared.machine.Frame.TheVariants as frame
use Rattle.js_parse_core.specs.declared.machine.Head.{Head}
use Rattle.js_parse_core.specs.declared.machine.Head.TheVariants as head
use Rattle.js_parse_core.specs.declared.machine.Opening.{Opening}
use Rattle.js_parse_core.specs.declared.machine.Opening.TheVariants as opening
use Rattle.js_parse_core.specs.declared.machine.Outer.{Outer}
use Rattle.js_parse_core.specs.declared.machine.Purpose.TheVariants as purpose
use Rattle.js_parse_core.specs.declared.machine.Refusal.{Refusal}
use Rattle.js_parse_core.specs.declared.machine.Refusal.TheVariants as refusal
use Rattle.js_parse_core.specs.Begin.{begin}
use Rattle.js_parse_core.specs.Outer.{Step, because, refuse, refuse_at, to, push, innermost, without, wait, wait_body, open_block, in_body, complete, settle}
use Rattle.js_parse_core.specs.Tokens.{is_open_paren, is_close_paren, is_open_brace, is_semicolon, is_comma, is_equal, is_else, is_finally, is_default, is_of, may_end}
use Rattle.js_parse_core.specs.Statements.{after_catch, after_export, after_then, after_try, begin_by_sign, begin_by_word, behind_end, close, close_block, close_frame, close_function, declared_in, declares, else_behind, end, end_script, ends_statement, expression_statement, for_start, function, is_first, is_top, not_in_body, on_bare_name, on_catch, on_catch_body, on_catch_close, on_catch_name, on_declared_name, on_export, on_export_object, on_export_word, on_finally, on_for_head, on_for_kind, on_for_test, on_for_update, on_jump, on_name_declared, on_opening, on_return, on_statement, on_statement_kind, on_throw, on_try, open_head, resume, statement_behind, to_else, with_declaration, without_value}
use Rattle.js_parse_core.proofs.ToldBegin.{told_begin}
use Rattle.js_parse_core.proofs.ToldOuter.{told_complete, told_settle}
use Rattle.js_parse_core.proofs.Told.{NotDeep, Told, told_cond, told_with_end}

pub told_not_in_body : (o : Outer) (a : At) → Told (not_in_body o a)
told_not_in_body o a = told_cond (in_body o) (refuse_at spot.StatementBegin) (to o a) tt tt

pub told_on_export : (o : Outer) → Told (on_export o)
told_on_export o = told_cond (is_top o.frames && not o.exported) (to o at.ExportDefault) (refuse_at spot.StatementBegin) tt tt

pub told_expression_statement : (o : Outer) (t : Token) → Told (expression_statement o t)
told_expression_statement o t = told_begin (push o 0 (frame.Purpose purpose.Statement)) t

pub told_begin_by_word : (o : Outer) (t : Token) (x : Reserved) → Told (begin_by_word o t x)
told_begin_by_word o t r.If = tt
told_begin_by_word o t r.While = tt
told_begin_by_word o t r.For = tt
told_begin_by_word o t r.Break = tt
told_begin_by_word o t r.Continue = tt
told_begin_by_word o t r.Return = tt
told_begin_by_word o t r.Throw = tt
told_begin_by_word o t r.Try = tt
told_begin_by_word o t r.Function = told_not_in_body o (at.FunctionName true false)
told_begin_by_word o t r.Export = told_on_export o
told_begin_by_word o t r.Let = told_not_in_body o (at.DeclaredName (declares declare.Let false))
told_begin_by_word o t r.Const = told_not_in_body o (at.DeclaredName (declares declare.Const false))
told_begin_by_word o t _ = told_expression_statement o t

pub told_close_function : (o : Outer) (h : Head) (ns : List Name) (ss : List Stmt) → Told (close_function o h ns ss)
told_close_function o (head.Declaration a n) ns ss = told_complete o (stmt.DeclareFunction n (function a ns ss))
told_close_function o (head.Expression a n) ns ss = tt
told_close_function o (head.Method a xs k) ns ss = tt

pub told_close : (o : Outer) (b : Block) (ss : List Stmt) → Told (close o b ss)
told_close o block.Plain ss = told_complete o (stmt.Block ss)
told_close o (block.Function h ns) ss = told_close_function o h ns ss
told_close o (block.Arrow a ns) ss = tt
told_close o block.Try ss = tt
told_close o (block.Catch tried n) ss = tt
told_close o (block.Finally tried c) ss = told_complete o (stmt.Try tried c (Some ss))

pub told_close_frame : (o : Outer) (inner : Option Frame) → Told (close_frame o inner)
told_close_frame o (Some (frame.Block b ss)) = told_close o b ss
told_close_frame o _ = tt

pub told_close_block : (o : Outer) → Told (close_block o)
told_close_block o = told_close_frame (without o) (innermost o)

pub told_end_script : (o : Outer) → Told (end_script o)
told_end_script o = told_cond (is_top o.frames) (to o at.Statement) (refuse_at spot.StatementBegin) tt tt

pub told_begin_by_sign : (o : Outer) (t : Token) (s : Punctuator) → Told (begin_by_sign o t s)
told_begin_by_sign o t p.OpenBrace = tt
told_begin_by_sign o t p.CloseBrace = told_close_block o
told_begin_by_sign o t p.Semicolon = told_complete o stmt.Empty
told_begin_by_sign o t _ = told_expression_statement o t

pub told_on_statement_kind : (o : Outer) (t : Token) (kind : TokenKind) → Told (on_statement_kind o t kind)
told_on_statement_kind o t (tok.Punctuator s) = told_begin_by_sign o t s
told_on_statement_kind o t (tok.Reserved x) = told_begin_by_word o t x
told_on_statement_kind o t tok.End = told_end_script o
told_on_statement_kind o t _ = told_expression_statement o t

pub told_on_statement : (o : Outer) (t : Token) → Told (on_statement o t)
told_on_statement o t = told_on_statement_kind o t t.kind

pub told_behind_end : (made : Step) (k : Refusal) → Told made → NotDeep k → Told (behind_end made k)
told_behind_end (Err (refusal.Token a)) k told told_too = told_with_end k told_too
told_behind_end made k told told_too = told

pub told_to_else : (o : Outer) (a : At) → Told (to_else o a)
told_to_else o (at.AfterThen test s) = tt
told_to_else o _ = tt

pub told_else_behind : (made : Step) → Told made → Told (else_behind made)
told_else_behind (Ok n) told = told_to_else n.outer n.at
told_else_behind (Err k) told = told

pub told_statement_behind : (made : Step) (t : Token) → Told made → Told (statement_behind made t)
told_statement_behind (Ok n) t told = told_on_statement n.outer t
told_statement_behind (Err k) t told = told

pub told_resume : (o : Outer) (s : Stmt) (t : Token) → Told (resume o s t)
told_resume o s t = told_cond (is_else t.kind) (else_behind (complete o s)) (statement_behind (settle o s) t) (told_else_behind (complete o s) (told_complete o s)) (told_statement_behind (settle o s) t (told_settle o s))

pub told_end : (auto : Bool) (o : Outer) (s : Stmt) (t : Token) (k : Refusal) → NotDeep k → Told (end auto o s t k)
told_end auto o s t k told = told_cond (ends_statement auto t.kind) (complete o s) (cond (auto && may_end t) (behind_end (resume o s t) k) (Err k)) (told_complete o s) (told_cond (auto && may_end t) (behind_end (resume o s t) k) (Err k) (told_behind_end (resume o s t) k (told_resume o s t) told) told)

pub told_after_then : (o : Outer) (test : Expr) (s : Stmt) (t : Token) → Told (after_then o test s t)
told_after_then o test s t = told_cond (is_else t.kind) (wait_body o (body.Else test s)) (resume o (stmt.If test s None) t) tt (told_resume o (stmt.If test s None) t)

pub told_open_head : (o : Outer) (x : Opening) → Told (open_head o x)
told_open_head o opening.If = tt
told_open_head o opening.While = tt
told_open_head o opening.For = tt

pub told_on_opening : (o : Outer) (x : Opening) (k : TokenKind) → Told (on_opening o x k)
told_on_opening o x k = told_cond (is_open_paren k) (open_head o x) refuse (told_open_head o x) tt

pub told_for_start : (o : Outer) (t : Token) → Told (for_start o t)
told_for_start o t = told_begin (push o 1 (frame.Purpose purpose.ForStart)) t

pub told_on_for_kind : (o : Outer) (t : Token) (kind : TokenKind) → Told (on_for_kind o t kind)
told_on_for_kind o t (tok.Reserved r.Let) = tt
told_on_for_kind o t (tok.Reserved r.Const) = tt
told_on_for_kind o t (tok.Punctuator p.Semicolon) = tt
told_on_for_kind o t _ = told_for_start o t

pub told_on_for_head : (o : Outer) (t : Token) → Told (on_for_head o t)
told_on_for_head o t = told_on_for_kind o t t.kind

pub told_on_for_test : (o : Outer) (b : ForBegin) (t : Token) → Told (on_for_test o b t)
told_on_for_test o b t = told_cond (is_semicolon t.kind) (to o (at.ForUpdate b None)) (begin (push o 1 (frame.Purpose (purpose.ForTest b))) t) tt (told_begin (push o 1 (frame.Purpose (purpose.ForTest b))) t)

pub told_on_for_update : (o : Outer) (b : ForBegin) (test : Option Expr) (t : Token) → Told (on_for_update o b test t)
told_on_for_update o b test t = told_cond (is_close_paren t.kind) (wait_body o (body.For b test None)) (begin (push o 1 (frame.Purpose (purpose.ForUpdate b test))) t) tt (told_begin (push o 1 (frame.Purpose (purpose.ForUpdate b test))) t)

pub told_on_return : (auto : Bool) (o : Outer) (q : ℕ) (t : Token) → Told (on_return auto o q t)
told_on_return auto o q t = told_cond (may_end t || is_semicolon t.kind) (end auto o (stmt.Return q None) t (because None (Some spot.ExpressionBegin))) (begin (push o 0 (frame.Purpose (purpose.Return q))) t) (told_end auto o (stmt.Return q None) t (because None (Some spot.ExpressionBegin)) tt) (told_begin (push o 0 (frame.Purpose (purpose.Return q))) t)

pub told_on_throw : (o : Outer) (t : Token) → Told (on_throw o t)
told_on_throw o t = told_cond t.after_line_end (Err refusal.Plain) (begin (push o 0 (frame.Purpose purpose.Throw)) t) tt (told_begin (push o 0 (frame.Purpose purpose.Throw)) t)

pub told_on_jump : (auto : Bool) (o : Outer) (s : Stmt) (t : Token) → Told (on_jump auto o s t)
told_on_jump auto o s t = told_end auto o s t (because None None) tt

pub told_on_declared_name : (o : Outer) (d : Declared) (q : ℕ) (kind : TokenKind) → Told (on_declared_name o d q kind)
told_on_declared_name o d q (tok.Name u) = tt
told_on_declared_name o d q _ = tt

pub told_declared_in : (auto : Bool) (o : Outer) (d : Declared) (t : Token) (yes : Bool) → Told (declared_in auto o d t yes)
told_declared_in auto o d t true = told_cond (is_semicolon t.kind) (to o (at.ForTest (for_begin.Declarations d.kind d.declarations))) refuse tt tt
told_declared_in auto o d t false = told_end auto o (stmt.Declare d.kind d.declarations) t (because None None) tt

pub told_on_bare_name : (auto : Bool) (o : Outer) (d : Declared) (t : Token) → Told (on_bare_name auto o d t)
told_on_bare_name auto o d t = told_cond (is_comma t.kind) (to o (at.DeclaredName d)) (declared_in auto o d t d.in_for) tt (told_declared_in auto o d t d.in_for)

pub told_without_value : (auto : Bool) (o : Outer) (d : Declared) (n : Name) (t : Token) (k : DeclareKind) → Told (without_value auto o d n t k)
told_without_value auto o d n t declare.Let = told_on_bare_name auto o (with_declaration d n None) t
told_without_value auto o d n t declare.Const = tt

pub told_on_name_declared : (auto : Bool) (o : Outer) (d : Declared) (n : Name) (t : Token) → Told (on_name_declared auto o d n t)
told_on_name_declared auto o d n t = told_cond (is_equal t.kind) (wait o (cond d.in_for 1 0) (purpose.Initial d n)) (cond (d.in_for && (is_first d.declarations && is_of t.kind)) (wait o 1 (purpose.ForOf d.kind n)) (without_value auto o d n t d.kind)) tt (told_cond (d.in_for && (is_first d.declarations && is_of t.kind)) (wait o 1 (purpose.ForOf d.kind n)) (without_value auto o d n t d.kind) tt (told_without_value auto o d n t d.kind))

pub told_on_try : (o : Outer) (k : TokenKind) → Told (on_try o k)
told_on_try o k = told_cond (is_open_brace k) (open_block o 1 block.Try) refuse tt tt

pub told_after_try : (o : Outer) (ss : List Stmt) (kind : TokenKind) → Told (after_try o ss kind)
told_after_try o ss (tok.Reserved r.Catch) = tt
told_after_try o ss (tok.Reserved r.Finally) = tt
told_after_try o ss _ = tt

pub told_on_catch : (o : Outer) (ss : List Stmt) (kind : TokenKind) → Told (on_catch o ss kind)
told_on_catch o ss (tok.Punctuator p.OpenParen) = tt
told_on_catch o ss (tok.Punctuator p.OpenBrace) = tt
told_on_catch o ss _ = tt

pub told_on_catch_name : (o : Outer) (ss : List Stmt) (q : ℕ) (kind : TokenKind) → Told (on_catch_name o ss q kind)
told_on_catch_name o ss q (tok.Name u) = tt
told_on_catch_name o ss q _ = tt

pub told_on_catch_close : (o : Outer) (ss : List Stmt) (n : Name) (k : TokenKind) → Told (on_catch_close o ss n k)
told_on_catch_close o ss n k = told_cond (is_close_paren k) (to o (at.CatchBody ss n)) refuse tt tt

pub told_on_catch_body : (o : Outer) (ss : List Stmt) (n : Name) (k : TokenKind) → Told (on_catch_body o ss n k)
told_on_catch_body o ss n k = told_cond (is_open_brace k) (open_block o 1 (block.Catch ss (Some n))) refuse tt tt

pub told_after_catch : (o : Outer) (ss : List Stmt) (c : Catch) (t : Token) → Told (after_catch o ss c t)
told_after_catch o ss c t = told_cond (is_finally t.kind) (to o (at.FinallyOpen ss (Some c))) (resume o (stmt.Try ss (Some c) None) t) tt (told_resume o (stmt.Try ss (Some c) None) t)

pub told_on_finally : (o : Outer) (ss : List Stmt) (c : Option Catch) (k : TokenKind) → Told (on_finally o ss c k)
told_on_finally o ss c k = told_cond (is_open_brace k) (open_block o 1 (block.Finally ss c)) refuse tt tt

pub told_on_export_word : (o : Outer) (k : TokenKind) → Told (on_export_word o k)
told_on_export_word o k = told_cond (is_default k) (to o at.ExportObject) refuse tt tt

pub told_on_export_object : (o : Outer) (k : TokenKind) → Told (on_export_object o k)
told_on_export_object o k = told_cond (is_open_brace k) (to (push o 0 frame.Export) (at.Key [])) refuse tt tt

pub told_after_export : (o : Outer) (t : Token) → Told (after_export o t)
told_after_export o t = told_cond (is_semicolon t.kind) (to o at.Statement) (on_statement o t) tt (told_on_statement o t)
