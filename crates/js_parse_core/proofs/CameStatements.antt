-- Where a token leads in a statement.
use Rattle.std.specs.Prelude.{ℕ, Bool, true, false, cond, not, ◌&&◌, ◌||◌, List, [], Option, Some, None, Ok, Err, ◌≡◌}
use Rattle.js_lex.specs.declared.token.Punctuator.{Punctuator}
use Rattle.js_lex.specs.declared.token.Reserved.{Reserved}
use Rattle.js_lex.specs.declared.token.TokenKind.{TokenKind}
use Rattle.js_lex.specs.declared.token.Token.{Token}
use Rattle.js_tree.specs.declared.tree.Catch.{Catch}
use Rattle.js_tree.specs.declared.tree.DeclareKind.{DeclareKind}
use Rattle.js_tree.specs.declared.tree.Expr.{Expr}
use Rattle.js_tree.specs.declared.tree.ForBegin.{ForBegin}
use Rattle.js_tree.specs.declared.tree.Name.{Name}
use Rattle.js_tree.specs.declared.tree.Stmt.{Stmt}
use Rattle.js_parse_core.specs.declared.machine.At.{At}
use Rattle.js_parse_core.specs.declared.machine.Block.{Block}
use Rattle.js_parse_core.specs.declared.machine.Declared.{Declared}
use Rattle.js_parse_core.specs.declared.machine.Frame.{Frame}
use Rattle.js_parse_core.specs.declared.machine.Head.{Head}
use Rattle.js_parse_core.specs.declared.machine.Opening.{Opening}
use Rattle.js_parse_core.specs.declared.machine.Outer.{Outer}
use Rattle.js_parse_core.specs.declared.machine.Refusal.{Refusal}
use Rattle.js_parse_core.specs.Begin.{begin}
use Rattle.js_parse_core.specs.Outer.{Step, because, refuse, refuse_at, to, push, innermost, without, wait, wait_body, open_block, in_body, complete, settle}
use Rattle.js_parse_core.specs.Tokens.{is_open_paren, is_close_paren, is_open_brace, is_semicolon, is_comma, is_equal, is_else, is_finally, is_default, is_of, may_end, is_close_brace}
use Rattle.js_parse_core.specs.Statements.{end, with_declaration, is_top, not_in_body, declares, on_export, expression_statement, begin_by_word, function, close_function, close, close_frame, close_block, end_script, begin_by_sign, on_statement_kind, on_statement, behind_end, to_else, else_behind, statement_behind, resume, ends_statement, after_then, open_head, on_opening, for_start, on_for_kind, on_for_head, on_for_test, on_for_update, on_return, on_throw, on_jump, on_declared_name, declared_in, on_bare_name, without_value, is_first, on_name_declared, on_try, after_try, on_catch, on_catch_name, on_catch_close, on_catch_body, after_catch, on_finally, on_export_word, on_export_object, after_export}
use Rattle.js_lex.specs.declared.token.Punctuator.TheVariants as p
use Rattle.js_lex.specs.declared.token.Reserved.TheVariants as r
use Rattle.js_lex.specs.declared.token.TokenKind.TheVariants as tok
use Rattle.js_tree.specs.declared.tree.ArrowBody.TheVariants as arrow_body
use Rattle.js_tree.specs.declared.tree.DeclareKind.TheVariants as declare
use Rattle.js_tree.specs.declared.tree.ForBegin.TheVariants as for_begin
use Rattle.js_tree.specs.declared.tree.Stmt.TheVariants as stmt
use Rattle.js_words.specs.declared.word.Spot.TheVariants as spot
use Rattle.js_parse_core.specs.declared.machine.At.TheVariants as at
use Rattle.js_parse_core.specs.declared.machine.Block.TheVariants as block
use Rattle.js_parse_core.specs.declared.machine.Body.TheVariants as body
use Rattle.js_parse_core.specs.declared.machine.Frame.TheVariants as frame
use Rattle.js_parse_core.specs.declared.machine.Head.TheVariants as head
use Rattle.js_parse_core.specs.declared.machine.Opening.TheVariants as opening
use Rattle.js_parse_core.specs.declared.machine.Purpose.TheVariants as purpose
use Rattle.js_parse_core.specs.declared.machine.Refusal.TheVariants as refusal
use Rattle.std.proofs.Common.{refl, ap, inl}
use Rattle.js_parse_core.proofs.Came.{Landed, Loud, Calm, Lands, came_cond, came_with_end, bare_Function, bare_Arrow, Throws}
use Rattle.js_parse_core.proofs.CameOuter.{came_complete, came_settle}
use Rattle.js_parse_core.proofs.CameBegin.{came_begin}

pub came_not_in_body : (keyed : Bool) (loud : Loud) (kind : TokenKind) (o : Outer) (a : At) → Landed keyed kind o a → Lands keyed loud kind (not_in_body o a)
came_not_in_body keyed loud kind o a landed = came_cond keyed loud kind (in_body o) (refuse_at spot.StatementBegin) (to o a) (tt, tt) landed

pub came_on_export : (keyed : Bool) (loud : Loud) (kind : TokenKind) (o : Outer) → Lands keyed loud kind (on_export o)
came_on_export keyed loud kind o = came_cond keyed loud kind (is_top o.frames && not o.exported) (to o at.ExportDefault) (refuse_at spot.StatementBegin) tt (tt, tt)

pub came_expression_statement : (keyed : Bool) (loud : Loud) (o : Outer) (t : Token) → Lands keyed loud t.kind (expression_statement o t)
came_expression_statement keyed loud o t = came_begin keyed loud (push o 0 (frame.Purpose purpose.Statement)) t

pub came_statement_word : (keyed : Bool) (loud : Loud) (o : Outer) (t : Token) (x : Reserved) → Lands keyed loud t.kind (begin_by_word o t x)
came_statement_word keyed loud o t r.If = tt
came_statement_word keyed loud o t r.While = tt
came_statement_word keyed loud o t r.For = tt
came_statement_word keyed loud o t r.Break = tt
came_statement_word keyed loud o t r.Continue = tt
came_statement_word keyed loud o t r.Return = tt
came_statement_word keyed loud o t r.Throw = tt
came_statement_word keyed loud o t r.Try = tt
came_statement_word keyed loud o t r.Function = came_not_in_body keyed loud t.kind o (at.FunctionName true false) tt
came_statement_word keyed loud o t r.Export = came_on_export keyed loud t.kind o
came_statement_word keyed loud o t r.Let = came_not_in_body keyed loud t.kind o (at.DeclaredName (declares declare.Let false)) tt
came_statement_word keyed loud o t r.Const = came_not_in_body keyed loud t.kind o (at.DeclaredName (declares declare.Const false)) tt
came_statement_word keyed loud o t _ = came_expression_statement keyed loud o t

pub came_close_function : (keyed : Bool) (loud : Loud) (kind : TokenKind) (o : Outer) (h : Head) (ns : List Name) (ss : List Stmt) → Lands keyed loud kind (close_function o h ns ss)
came_close_function keyed loud kind o (head.Declaration a n) ns ss = came_complete keyed loud kind o (stmt.DeclareFunction n (function a ns ss))
came_close_function keyed loud kind o (head.Expression a n) ns ss = inl (bare_Function n (function a ns ss))
came_close_function keyed loud kind o (head.Method a xs k) ns ss = tt

pub came_close : (keyed : Bool) (loud : Loud) (kind : TokenKind) (o : Outer) (b : Block) (ss : List Stmt) → is_close_brace kind ≡ true → Lands keyed loud kind (close o b ss)
came_close keyed loud kind o block.Plain ss brace = came_complete keyed loud kind o (stmt.Block ss)
came_close keyed loud kind o (block.Function h ns) ss brace = came_close_function keyed loud kind o h ns ss
came_close keyed loud kind o (block.Arrow a ns) ss brace = (brace, bare_Arrow a ns (arrow_body.Statements ss))
came_close keyed loud kind o block.Try ss brace = tt
came_close keyed loud kind o (block.Catch tried n) ss brace = tt
came_close keyed loud kind o (block.Finally tried c) ss brace = came_complete keyed loud kind o (stmt.Try tried c (Some ss))

pub came_close_frame : (keyed : Bool) (loud : Loud) (kind : TokenKind) (o : Outer) (inner : Option Frame) → is_close_brace kind ≡ true → Lands keyed loud kind (close_frame o inner)
came_close_frame keyed loud kind o (Some (frame.Block b ss)) brace = came_close keyed loud kind o b ss brace
came_close_frame keyed loud kind o _ brace = (tt, tt)

pub came_close_block : (keyed : Bool) (loud : Loud) (kind : TokenKind) (o : Outer) → is_close_brace kind ≡ true → Lands keyed loud kind (close_block o)
came_close_block keyed loud kind o brace = came_close_frame keyed loud kind (without o) (innermost o) brace

pub came_end_script : (keyed : Bool) (loud : Loud) (kind : TokenKind) (o : Outer) → Lands keyed loud kind (end_script o)
came_end_script keyed loud kind o = came_cond keyed loud kind (is_top o.frames) (to o at.Statement) (refuse_at spot.StatementBegin) tt (tt, tt)

pub came_statement_sign : (keyed : Bool) (loud : Loud) (o : Outer) (t : Token) (s : Punctuator) → t.kind ≡ (tok.Punctuator s) → Lands keyed loud t.kind (begin_by_sign o t s)
came_statement_sign keyed loud o t p.OpenBrace same = tt
came_statement_sign keyed loud o t p.CloseBrace same = came_close_block keyed loud t.kind o (ap is_close_brace same)
came_statement_sign keyed loud o t p.Semicolon same = came_complete keyed loud t.kind o stmt.Empty
came_statement_sign keyed loud o t _ same = came_expression_statement keyed loud o t

pub came_on_statement_kind : (keyed : Bool) (loud : Loud) (o : Outer) (t : Token) (now : TokenKind) → t.kind ≡ now → Lands keyed loud t.kind (on_statement_kind o t now)
came_on_statement_kind keyed loud o t (tok.Punctuator s) same = came_statement_sign keyed loud o t s same
came_on_statement_kind keyed loud o t (tok.Reserved x) same = came_statement_word keyed loud o t x
came_on_statement_kind keyed loud o t tok.End same = came_end_script keyed loud t.kind o
came_on_statement_kind keyed loud o t _ same = came_expression_statement keyed loud o t

pub came_on_statement : (keyed : Bool) (loud : Loud) (o : Outer) (t : Token) → Lands keyed loud t.kind (on_statement o t)
came_on_statement keyed loud o t = came_on_statement_kind keyed loud o t t.kind refl

pub came_behind_end : (keyed : Bool) (loud : Loud) (kind : TokenKind) (made : Step) (k : Refusal) → Lands keyed loud kind made → Calm keyed loud k → Lands keyed loud kind (behind_end made k)
came_behind_end keyed loud kind (Err (refusal.Token a)) k told told_too = came_with_end keyed loud k told_too
came_behind_end keyed loud kind made k told told_too = told

pub came_to_else : (keyed : Bool) (loud : Loud) (kind : TokenKind) (o : Outer) (a : At) → Lands keyed loud kind (to_else o a)
came_to_else keyed loud kind o (at.AfterThen test s) = tt
came_to_else keyed loud kind o _ = (tt, tt)

pub came_else_behind : (keyed : Bool) (loud : Loud) (kind : TokenKind) (made : Step) → Lands keyed loud kind made → Lands keyed loud kind (else_behind made)
came_else_behind keyed loud kind (Ok n) told = came_to_else keyed loud kind n.outer n.at
came_else_behind keyed loud kind (Err k) told = told

pub came_statement_behind : (keyed : Bool) (loud : Loud) (made : Step) (t : Token) → Lands keyed loud t.kind made → Lands keyed loud t.kind (statement_behind made t)
came_statement_behind keyed loud (Ok n) t told = came_on_statement keyed loud n.outer t
came_statement_behind keyed loud (Err k) t told = told

pub came_resume : (keyed : Bool) (loud : Loud) (o : Outer) (s : Stmt) (t : Token) → Lands keyed loud t.kind (resume o s t)
came_resume keyed loud o s t = came_cond keyed loud t.kind (is_else t.kind) (else_behind (complete o s)) (statement_behind (settle o s) t) (came_else_behind keyed loud t.kind (complete o s) (came_complete keyed loud t.kind o s)) (came_statement_behind keyed loud (settle o s) t (came_settle keyed loud t.kind o s))

pub came_end : (keyed : Bool) (loud : Loud) (auto : Bool) (o : Outer) (s : Stmt) (t : Token) (k : Refusal) → Calm keyed loud k → Lands keyed loud t.kind (end auto o s t k)
came_end keyed loud auto o s t k told = came_cond keyed loud t.kind (ends_statement auto t.kind) (complete o s) (cond (auto && may_end t) (behind_end (resume o s t) k) (Err k)) (came_complete keyed loud t.kind o s) (came_cond keyed loud t.kind (auto && may_end t) (behind_end (resume o s t) k) (Err k) (came_behind_end keyed loud t.kind (resume o s t) k (came_resume keyed loud o s t) told) told)

pub came_after_then : (keyed : Bool) (loud : Loud) (o : Outer) (test : Expr) (s : Stmt) (t : Token) → Lands keyed loud t.kind (after_then o test s t)
came_after_then keyed loud o test s t = came_cond keyed loud t.kind (is_else t.kind) (wait_body o (body.Else test s)) (resume o (stmt.If test s None) t) tt (came_resume keyed loud o (stmt.If test s None) t)

pub came_open_head : (keyed : Bool) (loud : Loud) (kind : TokenKind) (o : Outer) (x : Opening) → Lands keyed loud kind (open_head o x)
came_open_head keyed loud kind o opening.If = refl
came_open_head keyed loud kind o opening.While = refl
came_open_head keyed loud kind o opening.For = tt

pub came_on_opening : (keyed : Bool) (loud : Loud) (kind : TokenKind) (o : Outer) (x : Opening) (now : TokenKind) → Lands keyed loud kind (on_opening o x now)
came_on_opening keyed loud kind o x k = came_cond keyed loud kind (is_open_paren k) (open_head o x) refuse (came_open_head keyed loud kind o x) (tt, tt)

pub came_for_start : (keyed : Bool) (loud : Loud) (o : Outer) (t : Token) → Lands keyed loud t.kind (for_start o t)
came_for_start keyed loud o t = came_begin keyed loud (push o 1 (frame.Purpose purpose.ForStart)) t

pub came_on_for_kind : (keyed : Bool) (loud : Loud) (o : Outer) (t : Token) (now : TokenKind) → Lands keyed loud t.kind (on_for_kind o t now)
came_on_for_kind keyed loud o t (tok.Reserved r.Let) = tt
came_on_for_kind keyed loud o t (tok.Reserved r.Const) = tt
came_on_for_kind keyed loud o t (tok.Punctuator p.Semicolon) = tt
came_on_for_kind keyed loud o t _ = came_for_start keyed loud o t

pub came_on_for_head : (keyed : Bool) (loud : Loud) (o : Outer) (t : Token) → Lands keyed loud t.kind (on_for_head o t)
came_on_for_head keyed loud o t = came_on_for_kind keyed loud o t t.kind

pub came_on_for_test : (keyed : Bool) (loud : Loud) (o : Outer) (b : ForBegin) (t : Token) → Lands keyed loud t.kind (on_for_test o b t)
came_on_for_test keyed loud o b t = came_cond keyed loud t.kind (is_semicolon t.kind) (to o (at.ForUpdate b None)) (begin (push o 1 (frame.Purpose (purpose.ForTest b))) t) tt (came_begin keyed loud (push o 1 (frame.Purpose (purpose.ForTest b))) t)

pub came_on_for_update : (keyed : Bool) (loud : Loud) (o : Outer) (b : ForBegin) (test : Option Expr) (t : Token) → Lands keyed loud t.kind (on_for_update o b test t)
came_on_for_update keyed loud o b test t = came_cond keyed loud t.kind (is_close_paren t.kind) (wait_body o (body.For b test None)) (begin (push o 1 (frame.Purpose (purpose.ForUpdate b test))) t) tt (came_begin keyed loud (push o 1 (frame.Purpose (purpose.ForUpdate b test))) t)

pub came_on_return : (keyed : Bool) (loud : Loud) (auto : Bool) (o : Outer) (q : ℕ) (t : Token) → Lands keyed loud t.kind (on_return auto o q t)
came_on_return keyed loud auto o q t = came_cond keyed loud t.kind (may_end t || is_semicolon t.kind) (end auto o (stmt.Return q None) t (because None (Some spot.ExpressionBegin))) (begin (push o 0 (frame.Purpose (purpose.Return q))) t) (came_end keyed loud auto o (stmt.Return q None) t (because None (Some spot.ExpressionBegin)) (tt, tt)) (came_begin keyed loud (push o 0 (frame.Purpose (purpose.Return q))) t)

pub came_on_throw : (keyed : Bool) (loud : Loud) (o : Outer) (t : Token) → loud ≡ Throws → Lands keyed loud t.kind (on_throw o t)
came_on_throw keyed loud o t throws_is = came_cond keyed loud t.kind t.after_line_end (Err refusal.Plain) (begin (push o 0 (frame.Purpose purpose.Throw)) t) throws_is (came_begin keyed loud (push o 0 (frame.Purpose purpose.Throw)) t)

pub came_on_jump : (keyed : Bool) (loud : Loud) (auto : Bool) (o : Outer) (s : Stmt) (t : Token) → Lands keyed loud t.kind (on_jump auto o s t)
came_on_jump keyed loud auto o s t = came_end keyed loud auto o s t (because None None) (tt, tt)

pub came_on_declared_name : (keyed : Bool) (loud : Loud) (kind : TokenKind) (o : Outer) (d : Declared) (q : ℕ) (now : TokenKind) → Lands keyed loud kind (on_declared_name o d q now)
came_on_declared_name keyed loud kind o d q (tok.Name u) = tt
came_on_declared_name keyed loud kind o d q _ = (tt, tt)

pub came_declared_in : (keyed : Bool) (loud : Loud) (auto : Bool) (o : Outer) (d : Declared) (t : Token) (yes : Bool) → Lands keyed loud t.kind (declared_in auto o d t yes)
came_declared_in keyed loud auto o d t true = came_cond keyed loud t.kind (is_semicolon t.kind) (to o (at.ForTest (for_begin.Declarations d.kind d.declarations))) refuse tt (tt, tt)
came_declared_in keyed loud auto o d t false = came_end keyed loud auto o (stmt.Declare d.kind d.declarations) t (because None None) (tt, tt)

pub came_on_bare_name : (keyed : Bool) (loud : Loud) (auto : Bool) (o : Outer) (d : Declared) (t : Token) → Lands keyed loud t.kind (on_bare_name auto o d t)
came_on_bare_name keyed loud auto o d t = came_cond keyed loud t.kind (is_comma t.kind) (to o (at.DeclaredName d)) (declared_in auto o d t d.in_for) tt (came_declared_in keyed loud auto o d t d.in_for)

pub came_without_value : (keyed : Bool) (loud : Loud) (auto : Bool) (o : Outer) (d : Declared) (n : Name) (t : Token) (k : DeclareKind) → Lands keyed loud t.kind (without_value auto o d n t k)
came_without_value keyed loud auto o d n t declare.Let = came_on_bare_name keyed loud auto o (with_declaration d n None) t
came_without_value keyed loud auto o d n t declare.Const = (tt, tt)

pub came_on_name_declared : (keyed : Bool) (loud : Loud) (auto : Bool) (o : Outer) (d : Declared) (n : Name) (t : Token) → Lands keyed loud t.kind (on_name_declared auto o d n t)
came_on_name_declared keyed loud auto o d n t = came_cond keyed loud t.kind (is_equal t.kind) (wait o (cond d.in_for 1 0) (purpose.Initial d n)) (cond (d.in_for && (is_first d.declarations && is_of t.kind)) (wait o 1 (purpose.ForOf d.kind n)) (without_value auto o d n t d.kind)) refl (came_cond keyed loud t.kind (d.in_for && (is_first d.declarations && is_of t.kind)) (wait o 1 (purpose.ForOf d.kind n)) (without_value auto o d n t d.kind) refl (came_without_value keyed loud auto o d n t d.kind))

pub came_on_try : (keyed : Bool) (loud : Loud) (kind : TokenKind) (o : Outer) (now : TokenKind) → Lands keyed loud kind (on_try o now)
came_on_try keyed loud kind o k = came_cond keyed loud kind (is_open_brace k) (open_block o 1 block.Try) refuse tt (tt, tt)

pub came_after_try : (keyed : Bool) (loud : Loud) (kind : TokenKind) (o : Outer) (ss : List Stmt) (now : TokenKind) → Lands keyed loud kind (after_try o ss now)
came_after_try keyed loud kind o ss (tok.Reserved r.Catch) = tt
came_after_try keyed loud kind o ss (tok.Reserved r.Finally) = tt
came_after_try keyed loud kind o ss _ = (tt, tt)

pub came_on_catch : (keyed : Bool) (loud : Loud) (kind : TokenKind) (o : Outer) (ss : List Stmt) (now : TokenKind) → Lands keyed loud kind (on_catch o ss now)
came_on_catch keyed loud kind o ss (tok.Punctuator p.OpenParen) = tt
came_on_catch keyed loud kind o ss (tok.Punctuator p.OpenBrace) = tt
came_on_catch keyed loud kind o ss _ = (tt, tt)

pub came_on_catch_name : (keyed : Bool) (loud : Loud) (kind : TokenKind) (o : Outer) (ss : List Stmt) (q : ℕ) (now : TokenKind) → Lands keyed loud kind (on_catch_name o ss q now)
came_on_catch_name keyed loud kind o ss q (tok.Name u) = tt
came_on_catch_name keyed loud kind o ss q _ = (tt, tt)

pub came_on_catch_close : (keyed : Bool) (loud : Loud) (kind : TokenKind) (o : Outer) (ss : List Stmt) (n : Name) (now : TokenKind) → Lands keyed loud kind (on_catch_close o ss n now)
came_on_catch_close keyed loud kind o ss n k = came_cond keyed loud kind (is_close_paren k) (to o (at.CatchBody ss n)) refuse tt (tt, tt)

pub came_on_catch_body : (keyed : Bool) (loud : Loud) (kind : TokenKind) (o : Outer) (ss : List Stmt) (n : Name) (now : TokenKind) → Lands keyed loud kind (on_catch_body o ss n now)
came_on_catch_body keyed loud kind o ss n k = came_cond keyed loud kind (is_open_brace k) (open_block o 1 (block.Catch ss (Some n))) refuse tt (tt, tt)

pub came_after_catch : (keyed : Bool) (loud : Loud) (o : Outer) (ss : List Stmt) (c : Catch) (t : Token) → Lands keyed loud t.kind (after_catch o ss c t)
came_after_catch keyed loud o ss c t = came_cond keyed loud t.kind (is_finally t.kind) (to o (at.FinallyOpen ss (Some c))) (resume o (stmt.Try ss (Some c) None) t) tt (came_resume keyed loud o (stmt.Try ss (Some c) None) t)

pub came_on_finally : (keyed : Bool) (loud : Loud) (kind : TokenKind) (o : Outer) (ss : List Stmt) (c : Option Catch) (now : TokenKind) → Lands keyed loud kind (on_finally o ss c now)
came_on_finally keyed loud kind o ss c k = came_cond keyed loud kind (is_open_brace k) (open_block o 1 (block.Finally ss c)) refuse tt (tt, tt)

pub came_on_export_word : (keyed : Bool) (loud : Loud) (kind : TokenKind) (o : Outer) (now : TokenKind) → Lands keyed loud kind (on_export_word o now)
came_on_export_word keyed loud kind o k = came_cond keyed loud kind (is_default k) (to o at.ExportObject) refuse tt (tt, tt)

pub came_on_export_object : (keyed : Bool) (loud : Loud) (kind : TokenKind) (o : Outer) (now : TokenKind) → Lands keyed loud kind (on_export_object o now)
came_on_export_object keyed loud kind o k = came_cond keyed loud kind (is_open_brace k) (to (push o 0 frame.Export) (at.Key [])) refuse tt (tt, tt)

pub came_after_export : (keyed : Bool) (loud : Loud) (o : Outer) (t : Token) → Lands keyed loud t.kind (after_export o t)
came_after_export keyed loud o t = came_cond keyed loud t.kind (is_semicolon t.kind) (to o at.Statement) (on_statement o t) tt (came_on_statement keyed loud o t)
