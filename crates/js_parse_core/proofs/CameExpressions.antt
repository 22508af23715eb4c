-- Where a token leads in an expression.
use Rattle.std.specs.Prelude.{ℕ, Bool, true, false, cond, not, ◌&&◌, ◌||◌, List, [], ◌∷◌, ◌++◌, Option, Some, None, Result, Ok, Err}
use Rattle.js_lex.specs.declared.token.Punctuator.{Punctuator}
use Rattle.js_lex.specs.declared.token.TokenKind.{TokenKind}
use Rattle.js_lex.specs.declared.token.Token.{Token}
use Rattle.js_tree.specs.Targets.{target_of, Node}
use Rattle.js_tree.specs.declared.tree.ArrowBody.TheOpen.{Expr-F}
use Rattle.js_tree.specs.declared.tree.AssignOp.{AssignOp}
use Rattle.js_tree.specs.declared.tree.Expr.{Expr, out-Expr}
use Rattle.js_tree.specs.declared.tree.Name.{Name}
use Rattle.js_tree.specs.declared.tree.Target.{Target}
use Rattle.js_tree.specs.declared.tree.UpdateOp.{UpdateOp}
use Rattle.js_parse_core.specs.declared.machine.Callee.{Callee}
use Rattle.js_parse_core.specs.declared.machine.Cover.{Cover}
use Rattle.js_parse_core.specs.declared.machine.Outer.{Outer}
use Rattle.js_parse_core.specs.declared.machine.Position.{Position}
use Rattle.js_parse_core.specs.Begin.{begin, operand}
use Rattle.js_parse_core.specs.Outer.{refuse, refuse_at, to, plus, push, without, position, is_whole, in_body, begins_statement}
use Rattle.js_parse_core.specs.Tokens.{name, any_name, is_async, is_open_paren, is_close_paren, is_close_bracket, is_comma, is_arrow}
use Rattle.js_parse_core.specs.Values.{call, after_whole}
use Rattle.js_parse_core.specs.Expressions.{assign_op, assign_to, on_assign, update_of, update_at, on_update, arrow_of, arrow_behind, perhaps_assign, operand_sign, operand_kind, after_operand, declares_async, async_function, async_paren, async_kind, after_async, as_values, uncover, has_none, may_be_values, on_cover_other, on_cover_kind, on_cover_open, after_name, on_cover_name, is_async_cover, only_name, group_of, covered_value, on_covered, on_arrow, on_new, on_new_open, member_of, on_member, callee_accesses, on_argument, on_element}
use Rattle.js_lex.specs.declared.token.Punctuator.TheVariants as p
use Rattle.js_lex.specs.declared.token.Reserved.TheVariants as r
use Rattle.js_lex.specs.declared.token.TokenKind.TheVariants as tok
use Rattle.js_tree.specs.declared.tree.Expr.TheVariants as expr
use Rattle.js_tree.specs.declared.tree.UpdateOp.TheVariants as update
use Rattle.js_tree.specs.declared.tree.UpdateSide.TheVariants as side
use Rattle.js_words.specs.declared.word.Spot.TheVariants as spot
use Rattle.js_parse_core.specs.declared.machine.At.TheVariants as at
use Rattle.js_parse_core.specs.declared.machine.Callee.TheVariants as callee
use Rattle.js_parse_core.specs.declared.machine.Cover.TheVariants as covers
use Rattle.js_parse_core.specs.declared.machine.Frame.TheVariants as frame
use Rattle.js_parse_core.specs.declared.machine.Purpose.TheVariants as purpose
use Rattle.js_parse_core.specs.declared.machine.Position.TheVariants as positions
use Rattle.std.proofs.Common.{refl, inl}
use Rattle.js_parse_core.proofs.Came.{Loud, Lands, came_cond, Silent, FoundSilent, silent_target, silent_cover, bare_Array, bare_Group, bare_Update, bare_Call, bare_Member}
use Rattle.js_parse_core.proofs.CameBegin.{came_begin}
use Rattle.js_parse_core.proofs.CameValues.{came_call, came_after_whole, came_after_value}

pub came_assign_to : (keyed : Bool) (loud : Loud) (auto : Bool) (o : Outer) (x : AssignOp) (t : Token) (found : Result Target Expr) → FoundSilent loud o.frames found → Lands keyed loud t.kind (assign_to auto o x t found)
came_assign_to keyed loud auto o x t (Ok target) silent = refl
came_assign_to keyed loud auto o x t (Err y) silent = came_after_whole keyed loud auto o y t silent

pub came_on_assign : (keyed : Bool) (loud : Loud) (auto : Bool) (o : Outer) (x : AssignOp) (y : Expr) (t : Token) → Silent loud o.frames y → Lands keyed loud t.kind (on_assign auto o x y t)
came_on_assign keyed loud auto o x y t silent = came_cond keyed loud t.kind (is_whole o) (assign_to auto o x t (target_of y)) (after_whole auto o y t) (came_assign_to keyed loud auto o x t (target_of y) (silent_target loud o.frames y silent)) (came_after_whole keyed loud auto o y t silent)

pub came_update_of : (keyed : Bool) (loud : Loud) (auto : Bool) (o : Outer) (x : UpdateOp) (t : Token) (found : Result Target Expr) → FoundSilent loud o.frames found → Lands keyed loud t.kind (update_of auto o x t found)
came_update_of keyed loud auto o x t (Ok target) silent = bare_Update side.Behind x target
came_update_of keyed loud auto o x t (Err y) silent = came_after_whole keyed loud auto o y t silent

pub came_update_at : (keyed : Bool) (loud : Loud) (auto : Bool) (o : Outer) (x : UpdateOp) (y : Expr) (t : Token) (where_at : Position) → Silent loud o.frames y → Lands keyed loud t.kind (update_at auto o x y t where_at)
came_update_at keyed loud auto o x y t positions.Target silent = came_after_whole keyed loud auto o y t silent
came_update_at keyed loud auto o x y t positions.Whole silent = came_update_of keyed loud auto o x t (target_of y) (silent_target loud o.frames y silent)
came_update_at keyed loud auto o x y t positions.Operand silent = came_update_of keyed loud auto o x t (target_of y) (silent_target loud o.frames y silent)

pub came_on_update : (keyed : Bool) (loud : Loud) (auto : Bool) (o : Outer) (x : UpdateOp) (y : Expr) (t : Token) → Silent loud o.frames y → Lands keyed loud t.kind (on_update auto o x y t)
came_on_update keyed loud auto o x y t silent = came_cond keyed loud t.kind t.after_line_end (after_whole auto o y t) (update_at auto o x y t (position o)) (came_after_whole keyed loud auto o y t silent) (came_update_at keyed loud auto o x y t (position o) silent)

pub came_arrow_of : (keyed : Bool) (loud : Loud) (auto : Bool) (o : Outer) (y : Expr) (t : Token) (node : Node) → Silent loud o.frames y → Lands keyed loud t.kind (arrow_of auto o y t node)
came_arrow_of keyed loud auto o y t (Expr-F.Name n) silent = tt
came_arrow_of keyed loud auto o y t _ silent = came_after_whole keyed loud auto o y t silent

pub came_arrow_behind : (keyed : Bool) (loud : Loud) (auto : Bool) (o : Outer) (y : Expr) (t : Token) → Silent loud o.frames y → Lands keyed loud t.kind (arrow_behind auto o y t)
came_arrow_behind keyed loud auto o y t silent = came_cond keyed loud t.kind (t.after_line_end || not (is_whole o)) (after_whole auto o y t) (arrow_of auto o y t (out-Expr y)) (came_after_whole keyed loud auto o y t silent) (came_arrow_of keyed loud auto o y t (out-Expr y) silent)

pub came_perhaps_assign : (keyed : Bool) (loud : Loud) (auto : Bool) (o : Outer) (y : Expr) (t : Token) (x : Option AssignOp) → Silent loud o.frames y → Lands keyed loud t.kind (perhaps_assign auto o y t x)
came_perhaps_assign keyed loud auto o y t (Some x) silent = came_on_assign keyed loud auto o x y t silent
came_perhaps_assign keyed loud auto o y t None silent = came_after_value keyed loud auto o y t silent

pub came_operand_sign : (keyed : Bool) (loud : Loud) (auto : Bool) (o : Outer) (y : Expr) (n : ℕ) (t : Token) (s : Punctuator) → Silent loud o.frames y → Lands keyed loud t.kind (operand_sign auto o y n t s)
came_operand_sign keyed loud auto o y n t p.Dot silent = tt
came_operand_sign keyed loud auto o y n t p.OpenParen silent = tt
came_operand_sign keyed loud auto o y n t p.OpenBracket silent = refl
came_operand_sign keyed loud auto o y n t p.PlusPlus silent = came_on_update keyed loud auto o update.Increment y t silent
came_operand_sign keyed loud auto o y n t p.MinusMinus silent = came_on_update keyed loud auto o update.Decrement y t silent
came_operand_sign keyed loud auto o y n t p.Arrow silent = came_arrow_behind keyed loud auto o y t silent
came_operand_sign keyed loud auto o y n t s silent = came_perhaps_assign keyed loud auto o y t (assign_op s) silent

pub came_operand_kind : (keyed : Bool) (loud : Loud) (auto : Bool) (o : Outer) (y : Expr) (n : ℕ) (t : Token) (now : TokenKind) → Silent loud o.frames y → Lands keyed loud t.kind (operand_kind auto o y n t now)
came_operand_kind keyed loud auto o y n t (tok.Punctuator s) silent = came_operand_sign keyed loud auto o y n t s silent
came_operand_kind keyed loud auto o y n t _ silent = came_after_whole keyed loud auto o y t silent

pub came_after_operand : (keyed : Bool) (loud : Loud) (auto : Bool) (o : Outer) (y : Expr) (n : ℕ) (t : Token) → Silent loud o.frames y → Lands keyed loud t.kind (after_operand auto o y n t)
came_after_operand keyed loud auto o y n t silent = came_operand_kind keyed loud auto o y n t t.kind silent

pub came_declares_async : (keyed : Bool) (loud : Loud) (kind : TokenKind) (o : Outer) → Lands keyed loud kind (declares_async o)
came_declares_async keyed loud kind o = came_cond keyed loud kind (in_body o) refuse (to o (at.FunctionName true true)) (tt, tt) tt

pub came_async_function : (keyed : Bool) (loud : Loud) (kind : TokenKind) (o : Outer) → Lands keyed loud kind (async_function o)
came_async_function keyed loud kind o = came_cond keyed loud kind (begins_statement o) (declares_async (without o)) (to o (at.FunctionName false true)) (came_declares_async keyed loud kind (without o)) tt

pub came_async_paren : (keyed : Bool) (loud : Loud) (kind : TokenKind) (o : Outer) (n : Name) → Lands keyed loud kind (async_paren o n)
came_async_paren keyed loud kind o n = came_cond keyed loud kind (is_whole o) (to o (at.CoverOpen (covers.Async n) [])) (to o (at.NextArgument (callee.Value (expr.Name n) 0) [])) tt tt

pub came_async_kind : (keyed : Bool) (loud : Loud) (auto : Bool) (o : Outer) (n : Name) (t : Token) (now : TokenKind) → Silent loud o.frames (expr.Name n) → Lands keyed loud t.kind (async_kind auto o n t now)
came_async_kind keyed loud auto o n t (tok.Reserved r.Function) silent = came_async_function keyed loud t.kind o
came_async_kind keyed loud auto o n t (tok.Name u) silent = came_cond keyed loud t.kind (is_whole o) (to o (at.Arrow true (name t.place u ∷ []))) (after_operand auto o (expr.Name n) 0 t) tt (came_after_operand keyed loud auto o (expr.Name n) 0 t silent)
came_async_kind keyed loud auto o n t (tok.Punctuator p.OpenParen) silent = came_async_paren keyed loud t.kind o n
came_async_kind keyed loud auto o n t _ silent = came_after_operand keyed loud auto o (expr.Name n) 0 t silent

pub came_after_async : (keyed : Bool) (loud : Loud) (auto : Bool) (o : Outer) (n : Name) (t : Token) → Silent loud o.frames (expr.Name n) → Lands keyed loud t.kind (after_async auto o n t)
came_after_async keyed loud auto o n t silent = came_cond keyed loud t.kind t.after_line_end (after_operand auto o (expr.Name n) 0 t) (async_kind auto o n t t.kind) (came_after_operand keyed loud auto o (expr.Name n) 0 t silent) (came_async_kind keyed loud auto o n t t.kind silent)

pub came_on_cover_other : (keyed : Bool) (loud : Loud) (o : Outer) (c : Cover) (ns : List Name) (t : Token) → Lands keyed loud t.kind (on_cover_other o c ns t)
came_on_cover_other keyed loud o c ns t = came_cond keyed loud t.kind (is_close_paren t.kind) (to o (at.Covered c ns false)) (cond (may_be_values c ns) (begin (uncover o c ns) t) (refuse_at spot.Parameter)) tt (came_cond keyed loud t.kind (may_be_values c ns) (begin (uncover o c ns) t) (refuse_at spot.Parameter) (came_begin keyed loud (uncover o c ns) t) (tt, tt))

pub came_on_cover_kind : (keyed : Bool) (loud : Loud) (o : Outer) (c : Cover) (ns : List Name) (t : Token) (now : TokenKind) → Lands keyed loud t.kind (on_cover_kind o c ns t now)
came_on_cover_kind keyed loud o c ns t (tok.Name u) = tt
came_on_cover_kind keyed loud o c ns t _ = came_on_cover_other keyed loud o c ns t

pub came_on_cover_open : (keyed : Bool) (loud : Loud) (o : Outer) (c : Cover) (ns : List Name) (t : Token) → Lands keyed loud t.kind (on_cover_open o c ns t)
came_on_cover_open keyed loud o c ns t = came_on_cover_kind keyed loud o c ns t t.kind

pub came_after_name : (keyed : Bool) (loud : Loud) (auto : Bool) (o : Outer) (n : Name) (t : Token) → Silent loud o.frames (expr.Name n) → Lands keyed loud t.kind (after_name auto o n t)
came_after_name keyed loud auto o n t silent = came_cond keyed loud t.kind (is_async n.units) (after_async auto o n t) (after_operand auto o (expr.Name n) 0 t) (came_after_async keyed loud auto o n t silent) (came_after_operand keyed loud auto o (expr.Name n) 0 t silent)

pub came_on_cover_name : (keyed : Bool) (loud : Loud) (auto : Bool) (o : Outer) (c : Cover) (ns : List Name) (n : Name) (t : Token) → Lands keyed loud t.kind (on_cover_name auto o c ns n t)
came_on_cover_name keyed loud auto o c ns n t = came_cond keyed loud t.kind (is_comma t.kind) (to o (at.CoverOpen c (ns ++ n ∷ []))) (cond (is_close_paren t.kind) (to o (at.Covered c (ns ++ n ∷ []) (has_none ns))) (cond (may_be_values c ns) (after_name auto (uncover o c ns) n t) (refuse_at spot.Parameter))) tt (came_cond keyed loud t.kind (is_close_paren t.kind) (to o (at.Covered c (ns ++ n ∷ []) (has_none ns))) (cond (may_be_values c ns) (after_name auto (uncover o c ns) n t) (refuse_at spot.Parameter)) tt (came_cond keyed loud t.kind (may_be_values c ns) (after_name auto (uncover o c ns) n t) (refuse_at spot.Parameter) (came_after_name keyed loud auto (uncover o c ns) n t (silent_cover loud o c ns n)) (tt, tt)))

pub came_group_of : (keyed : Bool) (loud : Loud) (auto : Bool) (o : Outer) (t : Token) (n : Option Name) → Lands keyed loud t.kind (group_of auto o t n)
came_group_of keyed loud auto o t (Some n) = came_after_operand keyed loud auto o (expr.Group (expr.Name n)) 0 t (λ h. inl (bare_Group (expr.Name n)))
came_group_of keyed loud auto o t None = (tt, tt)

pub came_covered_value : (keyed : Bool) (loud : Loud) (auto : Bool) (o : Outer) (c : Cover) (ns : List Name) (yes : Bool) (t : Token) → Lands keyed loud t.kind (covered_value auto o c ns yes t)
came_covered_value keyed loud auto o (covers.Async n) ns b t = came_after_operand keyed loud auto o (expr.Call (expr.Name n) (as_values ns)) 1 t (λ h. inl (bare_Call (expr.Name n) (as_values ns)))
came_covered_value keyed loud auto o covers.Plain ns true t = came_group_of keyed loud auto o t (only_name ns)
came_covered_value keyed loud auto o covers.Plain ns false t = (tt, tt)

pub came_on_covered : (keyed : Bool) (loud : Loud) (auto : Bool) (o : Outer) (c : Cover) (ns : List Name) (b : Bool) (t : Token) → Lands keyed loud t.kind (on_covered auto o c ns b t)
came_on_covered keyed loud auto o c ns b t = came_cond keyed loud t.kind (is_arrow t.kind && not t.after_line_end) (to o (at.ArrowBody (is_async_cover c) ns)) (covered_value auto o c ns b t) tt (came_covered_value keyed loud auto o c ns b t)

pub came_on_arrow : (keyed : Bool) (loud : Loud) (o : Outer) (a : Bool) (ns : List Name) (t : Token) → Lands keyed loud t.kind (on_arrow o a ns t)
came_on_arrow keyed loud o a ns t = came_cond keyed loud t.kind (is_arrow t.kind && not t.after_line_end) (to o (at.ArrowBody a ns)) refuse tt (tt, tt)

pub came_on_new : (keyed : Bool) (loud : Loud) (kind : TokenKind) (o : Outer) (q : ℕ) (now : TokenKind) → Lands keyed loud kind (on_new o q now)
came_on_new keyed loud kind o q (tok.Name u) = tt
came_on_new keyed loud kind o q _ = (tt, tt)

pub came_on_new_open : (keyed : Bool) (loud : Loud) (kind : TokenKind) (o : Outer) (n : Name) (now : TokenKind) → Lands keyed loud kind (on_new_open o n now)
came_on_new_open keyed loud kind o n k = came_cond keyed loud kind (is_open_paren k) (to o (at.NextArgument (callee.New n) [])) refuse tt (tt, tt)

pub came_member_of : (keyed : Bool) (loud : Loud) (kind : TokenKind) (o : Outer) (x : Expr) (n : ℕ) (n3 : Option Name) → Lands keyed loud kind (member_of o x n n3)
came_member_of keyed loud kind o x n (Some m) = inl (bare_Member x m)
came_member_of keyed loud kind o x n None = (tt, tt)

pub came_on_member : (keyed : Bool) (loud : Loud) (o : Outer) (x : Expr) (n : ℕ) (t : Token) → Lands keyed loud t.kind (on_member o x n t)
came_on_member keyed loud o x n t = came_member_of keyed loud t.kind o x n (any_name t.place t.kind)

pub came_on_argument : (keyed : Bool) (loud : Loud) (o : Outer) (c : Callee) (xs : List Expr) (t : Token) → Lands keyed loud t.kind (on_argument o c xs t)
came_on_argument keyed loud o c xs t = came_cond keyed loud t.kind (is_close_paren t.kind) (call o c xs) (begin (push o (plus (callee_accesses c) 1) (frame.Purpose (purpose.Argument c xs))) t) (came_call keyed loud t.kind o c xs) (came_begin keyed loud (push o (plus (callee_accesses c) 1) (frame.Purpose (purpose.Argument c xs))) t)

pub came_on_element : (keyed : Bool) (loud : Loud) (o : Outer) (xs : List Expr) (t : Token) → Lands keyed loud t.kind (on_element o xs t)
came_on_element keyed loud o xs t = came_cond keyed loud t.kind (is_close_bracket t.kind) (operand o (expr.Array xs)) (begin (push o 1 (frame.Purpose (purpose.Element xs))) t) (inl (bare_Array xs)) (came_begin keyed loud (push o 1 (frame.Purpose (purpose.Element xs))) t)
