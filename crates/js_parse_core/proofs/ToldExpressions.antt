-- No step of an expression is refused for what is open.

use Rattle.std.specs.Prelude.{ℕ, Bool, true, false, cond, not, ◌&&◌, ◌||◌, List, [], ◌∷◌, ◌++◌, Option, Some, None, Result, Ok, Err}
use Rattle.js_lex.specs.declared.token.Punctuator.{Punctuator}
use Rattle.js_lex.specs.declared.token.Punctuator.TheVariants as p
use Rattle.js_lex.specs.declared.token.Reserved.TheVariants as r
use Rattle.js_lex.specs.declared.token.TokenKind.{TokenKind}
use Rattle.js_lex.specs.declared.token.TokenKind.TheVariants as tok
use Rattle.js_lex.specs.declared.token.Token.{Token}
use Rattle.js_tree.specs.Targets.{target_of, Node}
use Rattle.js_tree.specs.declared.tree.ArrowBody.TheOpen.{Expr-F}
use Rattle.js_tree.specs.declared.tree.AssignOp.{AssignOp}
use Rattle.js_tree.specs.declared.tree.Expr.{Expr, out-Expr}
use Rattle.js_tree.specs.declared.tree.Expr.TheVariants as expr
use Rattle.js_tree.specs.declared.tree.Name.{Name}
use Rattle.js_tree.specs.declared.tree.Target.{Target}
use Rattle.js_tree.specs.declared.tree.UpdateOp.{UpdateOp}
use Rattle.js_tree.specs.declared.tree.UpdateOp.TheVariants as update
use Rattle.js_words.specs.declared.word.Spot.TheVariants as spot
use Rattle.js_parse_core.specs.declared.machine.At.TheVariants as at
use Rattle.js_parse_core.specs.declared.machine.Callee.{Callee}
use Rattle.js_parse_core.specs.declared.machine.Callee.TheVariants as callee
use Rattle.js_parse_core.specs.declared.machine.Cover.{Cover}
use Rattle.js_parse_core.specs.declared.machine.Cover.TheVariants as covers
use Rattle.js_parse_core.specs.declared.machine.Frame.TheVariants as frame
use Rattle.js_parse_core.specs.declared.machine.Outer.{Outer}
use Rattle.js_parse_core.specs.declared.machine.Purpose.TheVariants as purpose
use Rattle.js_parse_core.specs.declared.machine.Position.{Position}
use Rattle.js_parse_core.specs.declared.machine.Position.TheVariants as positions
use Rattle.js_parse_core.specs.Begin.{begin, operand}
use Rattle.js_parse_core.specs.Outer.{refuse, refuse_at, to, plus, push, without, position, is_whole, in_body, begins_statement}
use Rattle.js_parse_core.specs.Tokens.{name, any_name, is_async, is_open_paren, is_close_paren, is_close_bracket, is_comma, is_arrow}
use Rattle.js_parse_core.specs.Values.{call, after_whole}
use Rattle.js_parse_core.specs.Expressions.{after_async, after_name, after_operand, arrow_behind, arrow_of, as_values, assign_op, assign_to, async_function, async_kind, async_paren, callee_accesses, covered_value, declares_async, group_of, has_none, is_async_cover, may_be_values, member_of, on_argument, on_arrow, on_assign, on_cover_kind, on_cover_name, on_cover_open, on_cover_other, on_covered, on_element, on_member, on_new, on_new_open, on_update, only_name, operand_kind, operand_sign, perhaps_assign, uncover, update_at, update_of}
use Rattle.js_parse_core.proofs.ToldValues.{told_after_value, told_after_whole, told_call}
use Rattle.js_parse_core.proofs.ToldBegin.{told_begin}
use Rattle.js_parse_core.proofs.Told.{Told, told_cond}

pub told_assign_to : (auto : Bool) (o : Outer) (x : AssignOp) (t : Token) (found : Result Target Expr) → Told (assign_to auto o x t found)
told_assign_to auto o x t (Ok target) = tt
told_assign_to auto o x t (Err y) = told_after_whole auto o y t

pub told_on_assign : (auto : Bool) (o : Outer) (x : AssignOp) (y : Expr) (t : Token) → Told (on_assign auto o x y t)
told_on_assign auto o x y t = told_cond (is_whole o) (assign_to auto o x t (target_of y)) (after_whole auto o y t) (told_assign_to auto o x t (target_of y)) (told_after_whole auto o y t)

pub told_update_of : (auto : Bool) (o : Outer) (x : UpdateOp) (t : Token) (found : Result Target Expr) → Told (update_of auto o x t found)
told_update_of auto o x t (Ok target) = tt
told_update_of auto o x t (Err y) = told_after_whole auto o y t

pub told_update_at : (auto : Bool) (o : Outer) (x : UpdateOp) (y : Expr) (t : Token) (where_at : Position) → Told (update_at auto o x y t where_at)
told_update_at auto o x y t positions.Target = told_after_whole auto o y t
told_update_at auto o x y t positions.Whole = told_update_of auto o x t (target_of y)
told_update_at auto o x y t positions.Operand = told_update_of auto o x t (target_of y)

pub told_on_update : (auto : Bool) (o : Outer) (x : UpdateOp) (y : Expr) (t : Token) → Told (on_update auto o x y t)
told_on_update auto o x y t = told_cond t.after_line_end (after_whole auto o y t) (update_at auto o x y t (position o)) (told_after_whole auto o y t) (told_update_at auto o x y t (position o))

pub told_arrow_of : (auto : Bool) (o : Outer) (y : Expr) (t : Token) (node : Node) → Told (arrow_of auto o y t node)
told_arrow_of auto o y t (Expr-F.Name n) = tt
told_arrow_of auto o y t _ = told_after_whole auto o y t

pub told_arrow_behind : (auto : Bool) (o : Outer) (y : Expr) (t : Token) → Told (arrow_behind auto o y t)
told_arrow_behind auto o y t = told_cond (t.after_line_end || not (is_whole o)) (after_whole auto o y t) (arrow_of auto o y t (out-Expr y)) (told_after_whole auto o y t) (told_arrow_of auto o y t (out-Expr y))

pub told_perhaps_assign : (auto : Bool) (o : Outer) (y : Expr) (t : Token) (x : Option AssignOp) → Told (perhaps_assign auto o y t x)
told_perhaps_assign auto o y t (Some x) = told_on_assign auto o x y t
told_perhaps_assign auto o y t None = told_after_value auto o y t

pub told_operand_sign : (auto : Bool) (o : Outer) (y : Expr) (n : ℕ) (t : Token) (s : Punctuator) → Told (operand_sign auto o y n t s)
told_operand_sign auto o y n t p.Dot = tt
told_operand_sign auto o y n t p.OpenParen = tt
told_operand_sign auto o y n t p.OpenBracket = tt
told_operand_sign auto o y n t p.PlusPlus = told_on_update auto o update.Increment y t
told_operand_sign auto o y n t p.MinusMinus = told_on_update auto o update.Decrement y t
told_operand_sign auto o y n t p.Arrow = told_arrow_behind auto o y t
told_operand_sign auto o y n t s = told_perhaps_assign auto o y t (assign_op s)

pub told_operand_kind : (auto : Bool) (o : Outer) (y : Expr) (n : ℕ) (t : Token) (kind : TokenKind) → Told (operand_kind auto o y n t kind)
told_operand_kind auto o y n t (tok.Punctuator s) = told_operand_sign auto o y n t s
told_operand_kind auto o y n t _ = told_after_whole auto o y t

pub told_after_operand : (auto : Bool) (o : Outer) (y : Expr) (n : ℕ) (t : Token) → Told (after_operand auto o y n t)
told_after_operand auto o y n t = told_operand_kind auto o y n t t.kind

pub told_declares_async : (o : Outer) → Told (declares_async o)
told_declares_async o = told_cond (in_body o) refuse (to o (at.FunctionName true true)) tt tt

pub told_async_function : (o : Outer) → Told (async_function o)
told_async_function o = told_cond (begins_statement o) (declares_async (without o)) (to o (at.FunctionName false true)) (told_declares_async (without o)) tt

pub told_async_paren : (o : Outer) (n : Name) → Told (async_paren o n)
told_async_paren o n = told_cond (is_whole o) (to o (at.CoverOpen (covers.Async n) [])) (to o (at.NextArgument (callee.Value (expr.Name n) 0) [])) tt tt

pub told_async_kind : (auto : Bool) (o : Outer) (n : Name) (t : Token) (kind : TokenKind) → Told (async_kind auto o n t kind)
told_async_kind auto o n t (tok.Reserved r.Function) = told_async_function o
told_async_kind auto o n t (tok.Name u) = told_cond (is_whole o) (to o (at.Arrow true (name t.place u ∷ []))) (after_operand auto o (expr.Name n) 0 t) tt (told_after_operand auto o (expr.Name n) 0 t)
told_async_kind auto o n t (tok.Punctuator p.OpenParen) = told_async_paren o n
told_async_kind auto o n t _ = told_after_operand auto o (expr.Name n) 0 t

pub told_after_async : (auto : Bool) (o : Outer) (n : Name) (t : Token) → Told (after_async auto o n t)
told_after_async auto o n t = told_cond t.after_line_end (after_operand auto o (expr.Name n) 0 t) (async_kind auto o n t t.kind) (told_after_operand auto o (expr.Name n) 0 t) (told_async_kind auto o n t t.kind)

pub told_on_cover_other : (o : Outer) (c : Cover) (ns : List Name) (t : Token) → Told (on_cover_other o c ns t)
told_on_cover_other o c ns t = told_cond (is_close_paren t.kind) (to o (at.Covered c ns false)) (cond (may_be_values c ns) (begin (uncover o c ns) t) (refuse_at spot.Parameter)) tt (told_cond (may_be_values c ns) (begin (uncover o c ns) t) (refuse_at spot.Parameter) (told_begin (uncover o c ns) t) tt)

pub told_on_cover_kind : (o : Outer) (c : Cover) (ns : List Name) (t : Token) (kind : TokenKind) → Told (on_cover_kind o c ns t kind)
told_on_cover_kind o c ns t (tok.Name u) = tt
told_on_cover_kind o c ns t _ = told_on_cover_other o c ns t

pub told_on_cover_open : (o : Outer) (c : Cover) (ns : List Name) (t : Token) → Told (on_cover_open o c ns t)
told_on_cover_open o c ns t = told_on_cover_kind o c ns t t.kind

pub told_after_name : (auto : Bool) (o : Outer) (n : Name) (t : Token) → Told (after_name auto o n t)
told_after_name auto o n t = told_cond (is_async n.units) (after_async auto o n t) (after_operand auto o (expr.Name n) 0 t) (told_after_async auto o n t) (told_after_operand auto o (expr.Name n) 0 t)

pub told_on_cover_name : (auto : Bool) (o : Outer) (c : Cover) (ns : List Name) (n : Name) (t : Token) → Told (on_cover_name auto o c ns n t)
told_on_cover_name auto o c ns n t = told_cond (is_comma t.kind) (to o (at.CoverOpen c (ns ++ n ∷ []))) (cond (is_close_paren t.kind) (to o (at.Covered c (ns ++ n ∷ []) (has_none ns))) (cond (may_be_values c ns) (after_name auto (uncover o c ns) n t) (refuse_at spot.Parameter))) tt (told_cond (is_close_paren t.kind) (to o (at.Covered c (ns ++ n ∷ []) (has_none ns))) (cond (may_be_values c ns) (after_name auto (uncover o c ns) n t) (refuse_at spot.Parameter)) tt (told_cond (may_be_values c ns) (after_name auto (uncover o c ns) n t) (refuse_at spot.Parameter) (told_after_name auto (uncover o c ns) n t) tt))

pub told_group_of : (auto : Bool) (o : Outer) (t : Token) (n : Option Name) → Told (group_of auto o t n)
told_group_of auto o t (Some n) = told_after_operand auto o (expr.Group (expr.Name n)) 0 t
told_group_of auto o t None = tt

pub told_covered_value : (auto : Bool) (o : Outer) (c : Cover) (ns : List Name) (yes : Bool) (t : Token) → Told (covered_value auto o c ns yes t)
told_covered_value auto o (covers.Async n) ns b t = told_after_operand auto o (expr.Call (expr.Name n) (as_values ns)) 1 t
told_covered_value auto o covers.Plain ns true t = told_group_of auto o t (only_name ns)
told_covered_value auto o covers.Plain ns false t = tt

pub told_on_covered : (auto : Bool) (o : Outer) (c : Cover) (ns : List Name) (b : Bool) (t : Token) → Told (on_covered auto o c ns b t)
told_on_covered auto o c ns b t = told_cond (is_arrow t.kind && not t.after_line_end) (to o (at.ArrowBody (is_async_cover c) ns)) (covered_value auto o c ns b t) tt (told_covered_value auto o c ns b t)

pub told_on_arrow : (o : Outer) (a : Bool) (ns : List Name) (t : Token) → Told (on_arrow o a ns t)
told_on_arrow o a ns t = told_cond (is_arrow t.kind && not t.after_line_end) (to o (at.ArrowBody a ns)) refuse tt tt

pub told_on_new : (o : Outer) (q : ℕ) (kind : TokenKind) → Told (on_new o q kind)
told_on_new o q (tok.Name u) = tt
told_on_new o q _ = tt

pub told_on_new_open : (o : Outer) (n : Name) (k : TokenKind) → Told (on_new_open o n k)
told_on_new_open o n k = told_cond (is_open_paren k) (to o (at.NextArgument (callee.New n) [])) refuse tt tt

pub told_member_of : (o : Outer) (x : Expr) (n : ℕ) (n3 : Option Name) → Told (member_of o x n n3)
told_member_of o x n (Some m) = tt
told_member_of o x n None = tt

pub told_on_member : (o : Outer) (x : Expr) (n : ℕ) (t : Token) → Told (on_member o x n t)
told_on_member o x n t = told_member_of o x n (any_name t.place t.kind)

pub told_on_argument : (o : Outer) (c : Callee) (xs : List Expr) (t : Token) → Told (on_argument o c xs t)
told_on_argument o c xs t = told_cond (is_close_paren t.kind) (call o c xs) (begin (push o (plus (callee_accesses c) 1) (frame.Purpose (purpose.Argument c xs))) t) (told_call o c xs) (told_begin (push o (plus (callee_accesses c) 1) (frame.Purpose (purpose.Argument c xs))) t)

pub told_on_element : (o : Outer) (xs : List Expr) (t : Token) → Told (on_element o xs t)
told_on_element o xs t = told_cond (is_close_bracket t.kind) (operand o (expr.Array xs)) (begin (push o 1 (frame.Purpose (purpose.Element xs))) t) tt (told_begin (push o 1 (frame.Purpose (purpose.Element xs))) t)
