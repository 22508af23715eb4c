-- In an expression: what is read fits its place.
use Rattle.std.proofs.Common.{◌≡◌, ℕ, Bool, true, false, not, ◌&&◌, ◌||◌, List, [], ◌∷◌, ◌++◌, drop, Option, Some, None, Result, Ok, Err, refl, sym, ap, subst, arith, nat_le, true≢false}
use Rattle.std.proofs.lemmas.Bool.{and_from, or_parts, not-false}
use Rattle.js_lex.specs.declared.token.Punctuator.{Punctuator}
use Rattle.js_lex.specs.declared.token.Punctuator.TheVariants as p
use Rattle.js_lex.specs.declared.token.Reserved.{Reserved}
use Rattle.js_lex.specs.declared.token.Reserved.TheVariants as r
use Rattle.js_lex.specs.declared.token.TokenKind.{TokenKind}
use Rattle.js_lex.specs.declared.token.TokenKind.TheVariants as tok
use Rattle.js_lex.specs.declared.token.Token.{Token}
use Rattle.js_tree.specs.Targets.{target_of, Node}
use Rattle.js_tree.specs.declared.tree.ArrowBody.TheOpen.{Expr-F}
use Rattle.js_tree.specs.declared.tree.AssignOp.{AssignOp}
use Rattle.js_tree.specs.declared.tree.Expr.{Expr, out-Expr}
use Rattle.js_tree.specs.declared.tree.Expr.TheVariants as expr
use Rattle.js_tree.specs.declared.tree.Name.{Name}
use Rattle.js_tree.specs.declared.tree.Target.{Target}
use Rattle.js_tree.specs.declared.tree.UpdateOp.{UpdateOp}
use Rattle.js_tree.specs.declared.tree.UpdateOp.TheVariants as update
use Rattle.js_tree.specs.declared.tree.UpdateSide.TheVariants as side
use Rattle.js_grammar.specs.Shapes.{Shape, First, FunctionWord, operand_level, is_brace, of_expr}
use Rattle.js_parse_core.specs.declared.machine.At.TheVariants as at
use Rattle.js_parse_core.specs.declared.machine.Block.{Block}
use Rattle.js_parse_core.specs.declared.machine.Block.TheVariants as block
use Rattle.js_parse_core.specs.declared.machine.Callee.{Callee}
use Rattle.js_parse_core.specs.declared.machine.Callee.TheVariants as callee
use Rattle.js_parse_core.specs.declared.machine.Cover.{Cover}
use Rattle.js_parse_core.specs.declared.machine.Cover.TheVariants as covers
use Rattle.js_parse_core.specs.declared.machine.Frame.{Frame}
use Rattle.js_parse_core.specs.declared.machine.Frame.TheVariants as frame
use Rattle.js_parse_core.specs.declared.machine.Open.{Open}
use Rattle.js_parse_core.specs.declared.machine.Outer.{Outer}
use Rattle.js_parse_core.specs.declared.machine.Position.{Position}
use Rattle.js_parse_core.specs.declared.machine.Position.TheVariants as positions
use Rattle.js_parse_core.specs.declared.machine.Purpose.{Purpose}
use Rattle.js_parse_core.specs.declared.machine.Purpose.TheVariants as purpose
use Rattle.js_parse_core.specs.declared.machine.Tail.TheVariants as tail
use Rattle.js_parse_core.specs.Outer.{Step, first_frame, without, push, open_block, position, is_whole, in_body, is_statement, begins_statement, constructs, plus}
use Rattle.js_parse_core.specs.Tokens.{name, any_name, is_async, is_open_paren, is_close_paren, is_open_brace, is_close_bracket, is_comma, is_arrow}
use Rattle.js_parse_core.specs.Expressions.{assign_op, assign_to, on_assign, update_of, update_at, on_update, arrow_of, arrow_behind, perhaps_assign, operand_sign, operand_kind, after_operand, declares_async, async_function, async_paren, async_kind, after_async, as_values, uncovered, uncover, has_none, may_be_values, on_cover_other, on_cover_kind, on_cover_open, after_name, on_cover_name, is_async_cover, only_name, group_of, covered_value, on_covered, on_arrow, arrow_value, on_arrow_body, on_new, on_new_open, member_of, on_member, on_argument, on_element}
use Rattle.js_parse_core.specs.Values.{after_whole}
use Rattle.js_parse_core.proofs.Fine.{first_in, purpose_first, Tight, IsFree, Begun, AllFit, FineCallee, FinePurpose, FineBlock, FineFrames, FineOuter, FineStep}
use Rattle.js_parse_core.proofs.FineLemmas.{either, whole_free}
use Rattle.js_parse_core.proofs.FineShapes.{IsTarget, target_is, tight_name, tight_member, tight_call, tight_group, tight_behind, fills}
use Rattle.js_parse_core.proofs.FineBodies.{fine_to, fine_push, fine_wait}
use Rattle.js_parse_core.proofs.BoundsBegin.{first_of, fine_begin}
use Rattle.js_parse_core.proofs.BoundsValues.{fine_call, fine_array, fine_wait_tail, fine_after_whole, fine_after_value}
use Rattle.js_parse_core.proofs.ShapeEquations.{shape_name}

-- ---- behind an operand

whole_operand : (o : Outer) (x : Expr) (t : Token) → FineOuter o → Tight operand_level o.frames (of_expr x) → FineStep (after_whole false o x t)
whole_operand o x t f h = fine_after_whole o x t f (fills operand_level o.frames (of_expr x) (omega arith) h)

fine_assign_to : (o : Outer) (x : AssignOp) (y : Expr) (t : Token) (a : Result Target Expr) → FineOuter o → IsFree o.frames → Tight operand_level o.frames (of_expr y) → IsTarget y a → FineStep (assign_to false o x t a)
fine_assign_to o x y t (Ok a) f w h is = fine_wait_tail o (tail.Assign x a) f (subst (Begun 0 o.frames) (sym is) (record { fits = h.fits; level = omega arith; free = w; first = h.first })) (λ g. refl)
fine_assign_to o x y t (Err z) f w h is = whole_operand o z t f (subst (λ v. Tight operand_level o.frames (of_expr v)) (sym is) h)

fine_assign : (o : Outer) (x : AssignOp) (y : Expr) (t : Token) → FineOuter o → Tight operand_level o.frames (of_expr y) → FineStep (on_assign false o x y t)
fine_assign o x y t f h = either (is_whole o) _ _ (λ w. fine_assign_to o x y t (target_of y) f (whole_free o.frames w) h (target_is y)) (λ _. whole_operand o y t f h)

fine_update_of : (o : Outer) (x : UpdateOp) (y : Expr) (t : Token) (a : Result Target Expr) → FineOuter o → Tight operand_level o.frames (of_expr y) → IsTarget y a → FineStep (update_of false o x t a)
fine_update_of o x y t (Ok a) f h is = fine_to o (at.Updated (expr.Update side.Behind x a)) f (tight_behind o.frames x a (subst (Tight operand_level o.frames) (sym is) h))
fine_update_of o x y t (Err z) f h is = whole_operand o z t f (subst (λ v. Tight operand_level o.frames (of_expr v)) (sym is) h)

fine_update_at : (o : Outer) (x : UpdateOp) (y : Expr) (t : Token) (a : Position) → FineOuter o → Tight operand_level o.frames (of_expr y) → FineStep (update_at false o x y t a)
fine_update_at o x y t positions.Target f h = whole_operand o y t f h
fine_update_at o x y t positions.Whole f h = fine_update_of o x y t (target_of y) f h (target_is y)
fine_update_at o x y t positions.Operand f h = fine_update_of o x y t (target_of y) f h (target_is y)

fine_update : (o : Outer) (x : UpdateOp) (y : Expr) (t : Token) → FineOuter o → Tight operand_level o.frames (of_expr y) → FineStep (on_update false o x y t)
fine_update o x y t f h = either t.after_line_end _ _ (λ _. whole_operand o y t f h) (λ _. fine_update_at o x y t (position o) f h)

fine_arrow_of : (o : Outer) (y : Expr) (t : Token) (x : Node) → FineOuter o → IsFree o.frames → Tight operand_level o.frames (of_expr y) → FineStep (arrow_of false o y t x)
fine_arrow_of o y t (Expr-F.Name n) f w h = fine_to o (at.ArrowBody false (n ∷ [])) f w
fine_arrow_of o y t _ f w h = whole_operand o y t f h

fine_arrow_behind : (o : Outer) (y : Expr) (t : Token) → FineOuter o → Tight operand_level o.frames (of_expr y) → FineStep (arrow_behind false o y t)
fine_arrow_behind o y t f h = either (t.after_line_end || not (is_whole o)) _ _ (λ _. whole_operand o y t f h) (λ b. fine_arrow_of o y t (out-Expr y) f (whole_free o.frames (not-false (is_whole o) (or_parts t.after_line_end _ b).1)) h)

fine_perhaps_assign : (o : Outer) (y : Expr) (t : Token) (x : Option AssignOp) → FineOuter o → Tight operand_level o.frames (of_expr y) → FineStep (perhaps_assign false o y t x)
fine_perhaps_assign o y t (Some x) f h = fine_assign o x y t f h
fine_perhaps_assign o y t None f h = fine_after_value o operand_level y t (omega arith) f h

fine_operand_sign : (o : Outer) (y : Expr) (n : ℕ) (t : Token) (s : Punctuator) → FineOuter o → Tight operand_level o.frames (of_expr y) → FineStep (operand_sign false o y n t s)
fine_operand_sign o y n t p.Dot f h = fine_to o (at.MemberName y n) f h
fine_operand_sign o y n t p.OpenParen f h = fine_to o (at.NextArgument (callee.Value y n) []) f (h, refl)
fine_operand_sign o y n t p.OpenBracket f h = fine_wait o _ (purpose.Index y n) f h (λ g. refl)
fine_operand_sign o y n t p.PlusPlus f h = fine_update o update.Increment y t f h
fine_operand_sign o y n t p.MinusMinus f h = fine_update o update.Decrement y t f h
fine_operand_sign o y n t p.Arrow f h = fine_arrow_behind o y t f h
fine_operand_sign o y n t s f h = fine_perhaps_assign o y t (assign_op s) f h

fine_operand_kind : (o : Outer) (y : Expr) (n : ℕ) (t : Token) (k : TokenKind) → FineOuter o → Tight operand_level o.frames (of_expr y) → FineStep (operand_kind false o y n t k)
fine_operand_kind o y n t (tok.Punctuator s) f h = fine_operand_sign o y n t s f h
fine_operand_kind o y n t _ f h = whole_operand o y t f h

pub fine_after_operand : (o : Outer) (y : Expr) (n : ℕ) (t : Token) → FineOuter o → Tight operand_level o.frames (of_expr y) → FineStep (after_operand false o y n t)
fine_after_operand o y n t f h = fine_operand_kind o y n t t.kind f h

fine_after_bare : (o : Outer) (n : Name) (t : Token) → FineOuter o → FineStep (after_operand false o (expr.Name n) 0 t)
fine_after_bare o n t f = fine_after_operand o (expr.Name n) 0 t f (tight_name o.frames n)

-- ---- `async`

frames_without : (e : Bool) (fs : List Open) → FineFrames e fs → FineFrames e (drop 1 fs)
frames_without e [] h = tt
frames_without e (f ∷ fs) h = h.1

pub fine_without : (o : Outer) → FineOuter o → FineOuter (without o)
fine_without o f = record { items = f.items; frames = frames_without o.exported o.frames f.frames }

fine_declares_async : (o : Outer) → FineOuter o → FineStep (declares_async o)
fine_declares_async o f = either (in_body o) _ _ (λ _. tt) (λ b. fine_to o (at.FunctionName true true) f b)

function_purpose : (x : Purpose) → is_statement (Some (frame.Purpose x)) ≡ false → purpose_first x FunctionWord ≡ true
function_purpose purpose.Statement h = absurd (true≢false h)
function_purpose _ h = refl

function_in : (w : Option Frame) → is_statement w ≡ false → first_in w FunctionWord ≡ true
function_in (Some (frame.Purpose x)) h = function_purpose x h
function_in (Some (frame.Tail (tail.Arrow a ns))) h = refl
function_in (Some (frame.Tail _)) h = refl
function_in (Some _) h = refl
function_in None h = refl

fine_async_function : (o : Outer) → FineOuter o → FineStep (async_function o)
fine_async_function o f = either (begins_statement o) _ _ (λ _. fine_declares_async (without o) (fine_without o f)) (λ b. fine_to o (at.FunctionName false true) f (function_in (first_frame o.frames) b))

fine_async_paren : (o : Outer) (n : Name) → FineOuter o → FineStep (async_paren o n)
fine_async_paren o n f = either (is_whole o) _ _ (λ w. fine_to o (at.CoverOpen (covers.Async n) []) f (whole_free o.frames w)) (λ _. fine_to o (at.NextArgument (callee.Value (expr.Name n) 0) []) f (tight_name o.frames n, refl))

fine_async_word : (o : Outer) (n : Name) (t : Token) (x : Reserved) → FineOuter o → FineStep (async_kind false o n t (tok.Reserved x))
fine_async_word o n t r.Function f = fine_async_function o f
fine_async_word o n t _ f = fine_after_bare o n t f

fine_async_sign : (o : Outer) (n : Name) (t : Token) (s : Punctuator) → FineOuter o → FineStep (async_kind false o n t (tok.Punctuator s))
fine_async_sign o n t p.OpenParen f = fine_async_paren o n f
fine_async_sign o n t _ f = fine_after_bare o n t f

fine_async_kind : (o : Outer) (n : Name) (t : Token) (k : TokenKind) → FineOuter o → FineStep (async_kind false o n t k)
fine_async_kind o n t (tok.Reserved x) f = fine_async_word o n t x f
fine_async_kind o n t (tok.Punctuator s) f = fine_async_sign o n t s f
fine_async_kind o n t (tok.Name u) f = either (is_whole o) _ _ (λ w. fine_to o (at.Arrow true (name t.place u ∷ [])) f (whole_free o.frames w)) (λ _. fine_after_bare o n t f)
fine_async_kind o n t _ f = fine_after_bare o n t f

pub fine_after_async : (o : Outer) (n : Name) (t : Token) → FineOuter o → FineStep (after_async false o n t)
fine_after_async o n t f = either t.after_line_end _ _ (λ _. fine_after_bare o n t f) (λ _. fine_async_kind o n t t.kind f)

-- ---- brackets round names

names_fit : (ns : List Name) → AllFit (as_values ns)
names_fit [] = refl
names_fit (n ∷ ns) = and_from (of_expr (expr.Name n)).fits _ (ap (λ (z : Shape). z.fits) (shape_name n)) (names_fit ns)

fine_uncovered : (c : Cover) (ns : List Name) (fs : List Open) → FinePurpose (uncovered c ns) fs
fine_uncovered covers.Plain ns fs = tt
fine_uncovered (covers.Async n) ns fs = (tight_name fs n, names_fit ns)

first_uncovered : (c : Cover) (ns : List Name) (g : First) → purpose_first (uncovered c ns) g ≡ true
first_uncovered covers.Plain ns g = refl
first_uncovered (covers.Async n) ns g = refl

fine_uncover : (o : Outer) (c : Cover) (ns : List Name) → FineOuter o → FineOuter (uncover o c ns)
fine_uncover o c ns f = fine_push o 1 (frame.Purpose (uncovered c ns)) f (fine_uncovered c ns o.frames)

fine_cover_other : (o : Outer) (c : Cover) (ns : List Name) (t : Token) → FineOuter o → IsFree o.frames → FineStep (on_cover_other o c ns t)
fine_cover_other o c ns t f w = either (is_close_paren t.kind) _ _ (λ _. fine_to o (at.Covered c ns false) f w)
    (λ _. either (may_be_values c ns) _ _ (λ _. fine_begin (uncover o c ns) t (fine_uncover o c ns f) (first_uncovered c ns (first_of t.kind))) (λ _. tt))

fine_cover_kind : (o : Outer) (c : Cover) (ns : List Name) (t : Token) (k : TokenKind) → FineOuter o → IsFree o.frames → FineStep (on_cover_kind o c ns t k)
fine_cover_kind o c ns t (tok.Name u) f w = fine_to o (at.CoverName c ns (name t.place u)) f w
fine_cover_kind o c ns t _ f w = fine_cover_other o c ns t f w

pub fine_cover_open : (o : Outer) (c : Cover) (ns : List Name) (t : Token) → FineOuter o → IsFree o.frames → FineStep (on_cover_open o c ns t)
fine_cover_open o c ns t f w = fine_cover_kind o c ns t t.kind f w

fine_after_name : (o : Outer) (n : Name) (t : Token) → FineOuter o → FineStep (after_name false o n t)
fine_after_name o n t f = either (is_async n.units) _ _ (λ _. fine_after_async o n t f) (λ _. fine_after_bare o n t f)

pub fine_cover_name : (o : Outer) (c : Cover) (ns : List Name) (n : Name) (t : Token) → FineOuter o → IsFree o.frames → FineStep (on_cover_name false o c ns n t)
fine_cover_name o c ns n t f w = either (is_comma t.kind) _ _ (λ _. fine_to o (at.CoverOpen c (ns ++ n ∷ [])) f w)
    (λ _. either (is_close_paren t.kind) _ _ (λ _. fine_to o (at.Covered c (ns ++ n ∷ []) (has_none ns)) f w)
    (λ _. either (may_be_values c ns) _ _ (λ _. fine_after_name (uncover o c ns) n t (fine_uncover o c ns f)) (λ _. tt)))

fine_group_of : (o : Outer) (t : Token) (n : Option Name) → FineOuter o → FineStep (group_of false o t n)
fine_group_of o t (Some n) f = fine_after_operand o (expr.Group (expr.Name n)) 0 t f (tight_group o.frames (expr.Name n) (ap (λ (z : Shape). z.fits) (shape_name n)))
fine_group_of o t None f = tt

fine_covered_value : (o : Outer) (c : Cover) (ns : List Name) (b : Bool) (t : Token) → FineOuter o → FineStep (covered_value false o c ns b t)
fine_covered_value o (covers.Async n) ns b t f = fine_after_operand o (expr.Call (expr.Name n) (as_values ns)) 1 t f (tight_call o.frames (expr.Name n) (as_values ns) (tight_name o.frames n) (names_fit ns))
fine_covered_value o covers.Plain ns true t f = fine_group_of o t (only_name ns) f
fine_covered_value o covers.Plain ns false t f = tt

pub fine_covered : (o : Outer) (c : Cover) (ns : List Name) (b : Bool) (t : Token) → FineOuter o → IsFree o.frames → FineStep (on_covered false o c ns b t)
fine_covered o c ns b t f w = either (is_arrow t.kind && not t.after_line_end) _ _ (λ _. fine_to o (at.ArrowBody (is_async_cover c) ns) f w) (λ _. fine_covered_value o c ns b t f)

-- ---- arrows

pub fine_arrow : (o : Outer) (a : Bool) (ns : List Name) (t : Token) → FineOuter o → IsFree o.frames → FineStep (on_arrow o a ns t)
fine_arrow o a ns t f w = either (is_arrow t.kind && not t.after_line_end) _ _ (λ _. fine_to o (at.ArrowBody a ns) f w) (λ _. tt)

fine_arrow_value : (b : Bool) (made : Step) → FineStep made → FineStep (arrow_value b made)
fine_arrow_value true (Ok n) h = tt
fine_arrow_value true (Err k) h = tt
fine_arrow_value false (Ok n) h = h
fine_arrow_value false (Err k) h = tt

pub fine_open_block : (o : Outer) (n : ℕ) (b : Block) → FineOuter o → FineBlock b o.frames → FineStep (open_block o n b)
fine_open_block o n b f h = record { outer = fine_push o n (frame.Block b []) f (h, refl); here = tt }

no_brace_sign : (s : Punctuator) → is_open_brace (tok.Punctuator s) ≡ false → not (is_brace (first_of (tok.Punctuator s))) ≡ true
no_brace_sign p.OpenBrace h = absurd (true≢false h)
no_brace_sign _ h = refl

no_brace_word : (x : Reserved) → not (is_brace (first_of (tok.Reserved x))) ≡ true
no_brace_word r.Function = refl
no_brace_word _ = refl

no_brace : (k : TokenKind) → is_open_brace k ≡ false → not (is_brace (first_of k)) ≡ true
no_brace (tok.Punctuator s) h = no_brace_sign s h
no_brace (tok.Reserved x) h = no_brace_word x
no_brace _ h = refl

pub fine_arrow_body : (most : ℕ) (o : Outer) (a : Bool) (ns : List Name) (t : Token) → FineOuter o → IsFree o.frames → FineStep (on_arrow_body most o a ns t)
fine_arrow_body most o a ns t f w = either (is_open_brace t.kind) _ _ (λ _. fine_open_block o 1 (block.Arrow a ns) f w)
    (λ b. fine_arrow_value (nat_le most (constructs o)) _ (fine_begin (push o 1 (frame.Tail (tail.Arrow a ns))) t (fine_push o 1 (frame.Tail (tail.Arrow a ns)) f w) (no_brace t.kind b)))

-- ---- `new`, members, arguments and items

pub fine_new : (o : Outer) (q : ℕ) (k : TokenKind) → FineOuter o → FineStep (on_new o q k)
fine_new o q (tok.Name u) f = fine_to o (at.NewOpen (name q u)) f tt
fine_new o q _ f = tt

pub fine_new_open : (o : Outer) (n : Name) (k : TokenKind) → FineOuter o → FineStep (on_new_open o n k)
fine_new_open o n k f = either (is_open_paren k) _ _ (λ _. fine_to o (at.NextArgument (callee.New n) []) f (tt, refl)) (λ _. tt)

fine_member_of : (o : Outer) (x : Expr) (n : ℕ) (m : Option Name) → FineOuter o → Tight operand_level o.frames (of_expr x) → FineStep (member_of o x n m)
fine_member_of o x n (Some m) f h = fine_to o (at.Operand (expr.Member x m) (plus n 1)) f (tight_member o.frames x m h)
fine_member_of o x n None f h = tt

pub fine_member : (o : Outer) (x : Expr) (n : ℕ) (t : Token) → FineOuter o → Tight operand_level o.frames (of_expr x) → FineStep (on_member o x n t)
fine_member o x n t f h = fine_member_of o x n (any_name t.place t.kind) f h

pub fine_argument : (o : Outer) (c : Callee) (xs : List Expr) (t : Token) → FineOuter o → FineCallee c o.frames → AllFit xs → FineStep (on_argument o c xs t)
fine_argument o c xs t f h a = either (is_close_paren t.kind) _ _ (λ _. fine_call o c xs f h a) (λ _. fine_begin _ t (fine_push o _ (frame.Purpose (purpose.Argument c xs)) f (h, a)) refl)

pub fine_element : (o : Outer) (xs : List Expr) (t : Token) → FineOuter o → AllFit xs → FineStep (on_element o xs t)
fine_element o xs t f a = either (is_close_bracket t.kind) _ _ (λ _. fine_array o xs f a) (λ _. fine_begin _ t (fine_push o 1 (frame.Purpose (purpose.Element xs)) f a) refl)
