-- A token behind an operand, with how many constructs are open.
use Rattle.std.proofs.Common.{◌≡◌, ℕ, ◌+◌, ◌≤◌, false, List, [], ◌∷◌, ◌++◌, Option, Some, None, Ok, Err, refl, sym, ◌∙◌, ap, le_trans}
use Rattle.std.specs.Prelude.{Result, ◌||◌, not}
use Rattle.std.proofs.lemmas.Bool.{or_parts}
use Rattle.js_lex.specs.declared.token.Punctuator.{Punctuator}
use Rattle.js_lex.specs.declared.token.Punctuator.TheVariants as p
use Rattle.js_lex.specs.declared.token.TokenKind.{TokenKind}
use Rattle.js_lex.specs.declared.token.TokenKind.TheVariants as tok
use Rattle.js_lex.specs.declared.token.Token.{Token}
use Rattle.js_tree.specs.declared.tree.ArrowBody.TheOpen.{Expr-F}
use Rattle.js_tree.specs.declared.tree.AssignOp.{AssignOp}
use Rattle.js_tree.specs.declared.tree.BinaryOp.{BinaryOp}
use Rattle.js_tree.specs.declared.tree.Expr.{Expr, out-Expr}
use Rattle.js_tree.specs.declared.tree.Expr.TheVariants as expr
use Rattle.js_tree.specs.declared.tree.Target.{Target}
use Rattle.js_tree.specs.declared.tree.UpdateOp.{UpdateOp}
use Rattle.js_tree.specs.declared.tree.UpdateOp.TheVariants as update
use Rattle.js_tree.specs.declared.tree.UpdateSide.TheVariants as side
use Rattle.js_tree.specs.Targets.{Node, target_of}
use Rattle.js_grammar.specs.Marks.{Form, one, unbroken, sign, just}
use Rattle.js_grammar.specs.Grammar.{name, arrow_sign, binary_sign, update_sign, assign_sign}
use Rattle.js_grammar.specs.Shapes.{strength}
use Rattle.js_parse_core.specs.declared.machine.At.TheVariants as at
use Rattle.js_parse_core.specs.declared.machine.Callee.TheVariants as callee
use Rattle.js_parse_core.specs.declared.machine.Frame.{Frame}
use Rattle.js_parse_core.specs.declared.machine.Frame.TheVariants as frame
use Rattle.js_parse_core.specs.declared.machine.Open.{Open}
use Rattle.js_parse_core.specs.declared.machine.Operator.TheVariants as operator
use Rattle.js_parse_core.specs.declared.machine.Outer.{Outer}
use Rattle.js_parse_core.specs.declared.machine.Position.{Position}
use Rattle.js_parse_core.specs.declared.machine.Position.TheVariants as positions
use Rattle.js_parse_core.specs.declared.machine.Purpose.TheVariants as purpose
use Rattle.js_parse_core.specs.declared.machine.Tail.TheVariants as tail
use Rattle.js_parse_core.specs.Outer.{to, framed, first_frame, without, position, is_whole, wait, wait_operand, constructs, plus}
use Rattle.js_parse_core.specs.Values.{Over, Folded, fold, fold_tails, binary_op, are_mixed, logic_of, outermost, waiting, on_frame, on_over, on_folded, after_whole, joins, joins_folded, binary_behind, on_binary, tests, no_binary, after_operator, after_sign, after_value}
use Rattle.js_parse_core.specs.Expressions.{assign_op, assign_to, on_assign, update_of, update_at, on_update, arrow_of, arrow_behind, perhaps_assign, operand_sign, operand_kind, after_operand}
use Rattle.js_parse_core.proofs.Spelled.{is_line, lined}
use Rattle.js_parse_core.proofs.SpelledLemmas.{Filled, filled_cons}
use Rattle.js_parse_core.proofs.SoundFolds.{node_is}
use Rattle.js_parse_core.proofs.SoundOperators.{IsBinary, binary_is, IsAssign, assign_is}
use Rattle.js_parse_core.proofs.CountedForms.{up, expr_at, arrow_at, access_at, operand_at, expr_name, expr_update_behind}
use Rattle.js_parse_core.proofs.CountedSpelled.{levels, arguments_front, operator_front, tail_front, purpose_front, front, spell, whole_items}
use Rattle.js_parse_core.proofs.CountedLemmas.{filled_expr}
use Rattle.js_parse_core.proofs.CountedGrows.{shows_sign, shows_line_sign, at_open, Grows, adds_in, adds_same, grows_cond, grows_same}
use Rattle.js_parse_core.proofs.CountedFolds.{levels_rise, TargetSame, target_same, FoldSame, fold_same, TailsSame, fold_tails_same}
use Rattle.js_parse_core.proofs.CountedValues.{inside, here, value_grows}
use Rattle.js_parse_core.proofs.CountedArrowForms.{bare_parameter}

-- ---- a value is whole

frame_grows : (l : ℕ) (o : Outer) (fs : List Open) (n : ℕ) (f : Frame) (x : Expr) (t : Token) → levels fs ≤ l → levels (record { constructs = n; frame = f } ∷ fs) ≤ l
    → Grows l (whole_items o.items ++ spell fs (lined (is_line f) (front fs f) (expr_at (levels (record { constructs = n; frame = f } ∷ fs)) x))) t (on_frame false (framed o fs) x t (Some f))
frame_grows l o fs n (frame.Purpose w) x t v u = value_grows l (framed o fs) w x t v u
frame_grows l o fs n _ x t v u = tt

over_grows : (l : ℕ) (o : Outer) (fs : List Open) (x : Expr) (t : Token) → levels fs ≤ l → Grows l (whole_items o.items ++ spell fs (expr_at (levels fs) x)) t (on_frame false (without (framed o fs)) x t (first_frame fs))
over_grows l o [] x t v = tt
over_grows l o (f ∷ fs) x t v = frame_grows l o fs f.constructs f.frame x t (le_trans (levels_rise f fs) v) v

folded_grows : (l : ℕ) (o : Outer) (z : List Form) (t : Token) (f : Folded) → FoldSame l z f → Grows l (whole_items o.items ++ z) t (on_folded false o t f)
folded_grows l o z t (Ok v) e =
    let r : TailsSame (levels v.frames) (spell v.frames (expr_at (levels v.frames) v.value)) (fold_tails v.frames v.value) = fold_tails_same v.frames v.value in
    grows_same l _ _ t (on_over false o t (fold_tails v.frames v.value)) (ap (λ (y : List Form). whole_items o.items ++ y) (sym (r.forms ∙ e.0)))
    (over_grows l o (fold_tails v.frames v.value).frames (fold_tails v.frames v.value).value t (le_trans r.less e.1))
folded_grows l o z t (Err k) e = tt

fold_within : (l k : ℕ) (z : List Form) (f : Folded) → l ≤ k → FoldSame l z f → FoldSame k z f
fold_within l k z (Ok v) h s = (s.0, le_trans s.1 h)
fold_within l k z (Err e) h s = tt

pub whole_grows : (l : ℕ) (o : Outer) (x : Expr) (t : Token) → here o ≤ l → Grows l (inside o (expr_at (here o) x)) t (after_whole false o x t)
whole_grows l o x t v = folded_grows l o (spell o.frames (expr_at (here o) x)) t (fold 0 o.frames x) (fold_within (here o) l _ (fold 0 o.frames x) v (fold_same 0 o.frames x))

-- ---- a binary operator, or `?`

joins_grows : (l : ℕ) (o : Outer) (x : BinaryOp) (n : ℕ) (t : Token) (v : Over) → levels v.frames ≤ l → t.kind ≡ tok.Punctuator (binary_sign x) → Grows l (whole_items o.items ++ spell v.frames (expr_at (levels v.frames) v.value)) t (joins false o x n t v)
joins_grows l o x n t v w e =
    grows_cond l _ t (are_mixed (logic_of x) (outermost v.value) || are_mixed (logic_of x) (waiting (framed o v.frames))) (after_whole false (framed o v.frames) v.value t) (wait_operand (framed o v.frames) (plus n 1) (operator.Binary v.value x))
    (λ h. whole_grows l (framed o v.frames) v.value t w)
    (λ h. adds_same l _ o.items v.frames (expr_at (levels v.frames) v.value) (operator_front (levels v.frames) (operator.Binary v.value x)) (operand_at (levels v.frames) v.value) (just (binary_sign x)) t (at_open l _) (filled_expr (levels v.frames) v.value) refl (shows_sign (operand_at (levels v.frames) v.value) (binary_sign x) t e))

joins_folded_grows : (l : ℕ) (o : Outer) (x : BinaryOp) (n : ℕ) (t : Token) (z : List Form) (f : Folded) → t.kind ≡ tok.Punctuator (binary_sign x) → FoldSame l z f → Grows l (whole_items o.items ++ z) t (joins_folded false o x n t f)
joins_folded_grows l o x n t z (Ok v) e h = grows_same l _ _ t (joins false o x n t v) (ap (λ (y : List Form). whole_items o.items ++ y) (sym h.0)) (joins_grows l o x n t v h.1 e)
joins_folded_grows l o x n t z (Err k) e h = tt

binary_behind_grows : (l : ℕ) (o : Outer) (x : BinaryOp) (t : Token) (z : List Form) (f : Folded) → t.kind ≡ tok.Punctuator (binary_sign x) → FoldSame l z f → Grows l (whole_items o.items ++ z) t (binary_behind false o x t f)
binary_behind_grows l o x t z (Ok v) e h =
    grows_same l _ _ t (joins_folded false o x (constructs (framed o v.frames)) t (fold (strength x) v.frames v.value)) (ap (λ (y : List Form). whole_items o.items ++ y) (sym h.0))
    (joins_folded_grows l o x (constructs (framed o v.frames)) t (spell v.frames (expr_at (levels v.frames) v.value)) (fold (strength x) v.frames v.value) e (fold_within (levels v.frames) l _ (fold (strength x) v.frames v.value) h.1 (fold_same (strength x) v.frames v.value)))
binary_behind_grows l o x t z (Err k) e h = tt

binary_grows : (l : ℕ) (o : Outer) (x : BinaryOp) (y : Expr) (t : Token) → here o ≤ l → t.kind ≡ tok.Punctuator (binary_sign x) → Grows l (inside o (expr_at (here o) y)) t (on_binary false o x y t)
binary_grows l o x y t v e = binary_behind_grows l o x t (spell o.frames (expr_at (here o) y)) (fold 7 o.frames y) e (fold_within (here o) l _ (fold 7 o.frames y) v (fold_same 7 o.frames y))

tests_grows : (l : ℕ) (o : Outer) (t : Token) (z : List Form) (f : Folded) → t.kind ≡ tok.Punctuator p.Question → FoldSame l z f → Grows l (whole_items o.items ++ z) t (tests o f)
tests_grows l o t z (Ok v) e h =
    grows_same l _ _ t (wait (framed o v.frames) 1 (purpose.Then v.value)) (ap (λ (y : List Form). whole_items o.items ++ y) (sym h.0))
    (adds_same l _ o.items v.frames (expr_at (levels v.frames) v.value) (purpose_front (levels v.frames) (purpose.Then v.value)) (levels v.frames + 1) (just p.Question) t (at_open l _) (filled_expr (levels v.frames) v.value) refl (shows_sign (levels v.frames + 1) p.Question t e))
tests_grows l o t z (Err k) e h = tt

no_binary_grows : (l : ℕ) (o : Outer) (x : Expr) (t : Token) (s : Punctuator) → here o ≤ l → t.kind ≡ tok.Punctuator s → Grows l (inside o (expr_at (here o) x)) t (no_binary false o x t s)
no_binary_grows l o x t p.Question v e = tests_grows l o t (spell o.frames (expr_at (here o) x)) (fold 1 o.frames x) e (fold_within (here o) l _ (fold 1 o.frames x) v (fold_same 1 o.frames x))
no_binary_grows l o x t _ v e = whole_grows l o x t v

operator_grows : (l : ℕ) (o : Outer) (x : Expr) (t : Token) (s : Punctuator) (b : Option BinaryOp) → here o ≤ l → t.kind ≡ tok.Punctuator s → IsBinary s b → Grows l (inside o (expr_at (here o) x)) t (after_operator false o x t s b)
operator_grows l o x t s (Some b) v e h = binary_grows l o b x t v (e ∙ ap tok.Punctuator h)
operator_grows l o x t s None v e h = no_binary_grows l o x t s v e

sign_grows : (l : ℕ) (o : Outer) (x : Expr) (t : Token) (k : TokenKind) → here o ≤ l → t.kind ≡ k → Grows l (inside o (expr_at (here o) x)) t (after_sign false o x t k)
sign_grows l o x t (tok.Punctuator s) v e = operator_grows l o x t s (binary_op s) v e (binary_is s)
sign_grows l o x t _ v e = whole_grows l o x t v

pub after_value_grows : (l : ℕ) (o : Outer) (x : Expr) (t : Token) → here o ≤ l → Grows l (inside o (expr_at (here o) x)) t (after_value false o x t)
after_value_grows l o x t v = sign_grows l o x t t.kind v refl

-- ---- an operator that writes, a call or a member

assign_to_grows : (l : ℕ) (o : Outer) (x : AssignOp) (z : List Form) (t : Token) (r : Result Target Expr) → here o ≤ l → t.kind ≡ tok.Punctuator (assign_sign x) → Filled z → TargetSame (here o) z r → Grows l (inside o z) t (assign_to false o x t r)
assign_to_grows l o x z t (Ok target) v e s h =
    adds_same l _ o.items o.frames z (tail_front (here o) (tail.Assign x target)) (here o + 1) (just (assign_sign x)) t (at_open l _) s (ap (λ (y : List Form). y ++ up (here o + 1) (just (assign_sign x)) ∷ []) (sym h)) (shows_sign (here o + 1) (assign_sign x) t e)
assign_to_grows l o x z t (Err y) v e s h = grows_same l _ _ t (after_whole false o y t) (ap (inside o) (sym h)) (whole_grows l o y t v)

assign_grows : (l : ℕ) (o : Outer) (x : AssignOp) (y : Expr) (t : Token) → here o ≤ l → t.kind ≡ tok.Punctuator (assign_sign x) → Grows l (inside o (expr_at (here o) y)) t (on_assign false o x y t)
assign_grows l o x y t v e =
    grows_cond l _ t (is_whole o) (assign_to false o x t (target_of y)) (after_whole false o y t)
    (λ h. assign_to_grows l o x (expr_at (here o) y) t (target_of y) v e (filled_expr (here o) y) (target_same (here o) y)) (λ h. whole_grows l o y t v)

update_of_grows : (l : ℕ) (o : Outer) (x : UpdateOp) (z : List Form) (t : Token) (r : Result Target Expr) → here o ≤ l → t.kind ≡ tok.Punctuator (update_sign x) → t.after_line_end ≡ false → Filled z → TargetSame (here o) z r → Grows l (inside o z) t (update_of false o x t r)
update_of_grows l o x z t (Ok target) v e q s h =
    adds_same l _ o.items o.frames z (expr_at (here o) (expr.Update side.Behind x target)) (here o) (one (unbroken (sign (update_sign x)))) t (at_open l _) s
    (ap (λ (y : List Form). y ++ up (here o) (one (unbroken (sign (update_sign x)))) ∷ []) (sym h) ∙ sym (expr_update_behind (here o) x target)) (shows_line_sign (here o) (update_sign x) t e q)
update_of_grows l o x z t (Err y) v e q s h = grows_same l _ _ t (after_whole false o y t) (ap (inside o) (sym h)) (whole_grows l o y t v)

update_at_grows : (l : ℕ) (o : Outer) (x : UpdateOp) (y : Expr) (t : Token) (q : Position) → here o ≤ l → t.kind ≡ tok.Punctuator (update_sign x) → t.after_line_end ≡ false → Grows l (inside o (expr_at (here o) y)) t (update_at false o x y t q)
update_at_grows l o x y t positions.Target v e q = whole_grows l o y t v
update_at_grows l o x y t positions.Whole v e q = update_of_grows l o x (expr_at (here o) y) t (target_of y) v e q (filled_expr (here o) y) (target_same (here o) y)
update_at_grows l o x y t positions.Operand v e q = update_of_grows l o x (expr_at (here o) y) t (target_of y) v e q (filled_expr (here o) y) (target_same (here o) y)

update_grows : (l : ℕ) (o : Outer) (x : UpdateOp) (y : Expr) (t : Token) → here o ≤ l → t.kind ≡ tok.Punctuator (update_sign x) → Grows l (inside o (expr_at (here o) y)) t (on_update false o x y t)
update_grows l o x y t v e =
    grows_cond l _ t t.after_line_end (after_whole false o y t) (update_at false o x y t (position o))
    (λ h. whole_grows l o y t v) (λ h. update_at_grows l o x y t (position o) v e h)

-- ---- a name that is a parameter

arrow_of_grows : (l : ℕ) (o : Outer) (y : Expr) (t : Token) (x : Node) → here o ≤ l → out-Expr y ≡ x → t.kind ≡ tok.Punctuator p.Arrow → t.after_line_end ≡ false → Grows l (inside o (expr_at (here o) y)) t (arrow_of false o y t x)
arrow_of_grows l o y t (Expr-F.Name n) v h e q =
    grows_same l _ _ t (to o (at.ArrowBody false (n ∷ []))) (ap (inside o) (ap (expr_at (here o)) (node_is y _ h ∙ expr.rolls-Name n) ∙ expr_name (here o) n))
    (adds_in l _ o.items o.frames (up (here o) (name n) ∷ []) (arrow_at (here o) (n ∷ []) ++ up (here o) arrow_sign ∷ []) (here o) arrow_sign t (at_open l _) (filled_cons _ _)
    (bare_parameter (here o) n (up (here o) arrow_sign ∷ [])) (shows_line_sign (here o) p.Arrow t e q))
arrow_of_grows l o y t _ v h e q = whole_grows l o y t v

arrow_behind_grows : (l : ℕ) (o : Outer) (y : Expr) (t : Token) → here o ≤ l → t.kind ≡ tok.Punctuator p.Arrow → Grows l (inside o (expr_at (here o) y)) t (arrow_behind false o y t)
arrow_behind_grows l o y t v e =
    grows_cond l _ t (t.after_line_end || not (is_whole o)) (after_whole false o y t) (arrow_of false o y t (out-Expr y))
    (λ h. whole_grows l o y t v) (λ h. arrow_of_grows l o y t (out-Expr y) v refl e (or_parts t.after_line_end (not (is_whole o)) h).0)

perhaps_assign_grows : (l : ℕ) (o : Outer) (y : Expr) (t : Token) (s : Punctuator) (b : Option AssignOp) → here o ≤ l → t.kind ≡ tok.Punctuator s → IsAssign s b → Grows l (inside o (expr_at (here o) y)) t (perhaps_assign false o y t b)
perhaps_assign_grows l o y t s (Some x) v e h = assign_grows l o x y t v (e ∙ ap tok.Punctuator h)
perhaps_assign_grows l o y t s None v e h = after_value_grows l o y t v

operand_sign_grows : (l : ℕ) (o : Outer) (y : Expr) (n : ℕ) (t : Token) (s : Punctuator) → here o ≤ l → t.kind ≡ tok.Punctuator s → Grows l (inside o (expr_at (here o) y)) t (operand_sign false o y n t s)
operand_sign_grows l o y n t p.Dot v e =
    adds_same l _ o.items o.frames (expr_at (here o) y) (expr_at (here o) y ++ up (access_at (here o) y) (just p.Dot) ∷ []) (access_at (here o) y) (just p.Dot) t (at_open l _) (filled_expr (here o) y) refl (shows_sign (access_at (here o) y) p.Dot t e)
operand_sign_grows l o y n t p.OpenParen v e =
    adds_same l _ o.items o.frames (expr_at (here o) y) (arguments_front (here o) (callee.Value y n) []) (access_at (here o) y) (just p.OpenParen) t (at_open l _) (filled_expr (here o) y) refl (shows_sign (access_at (here o) y) p.OpenParen t e)
operand_sign_grows l o y n t p.OpenBracket v e =
    adds_same l _ o.items o.frames (expr_at (here o) y) (purpose_front (here o) (purpose.Index y n)) (access_at (here o) y) (just p.OpenBracket) t (at_open l _) (filled_expr (here o) y) refl (shows_sign (access_at (here o) y) p.OpenBracket t e)
operand_sign_grows l o y n t p.PlusPlus v e = update_grows l o update.Increment y t v e
operand_sign_grows l o y n t p.MinusMinus v e = update_grows l o update.Decrement y t v e
operand_sign_grows l o y n t p.Arrow v e = arrow_behind_grows l o y t v e
operand_sign_grows l o y n t s v e = perhaps_assign_grows l o y t s (assign_op s) v e (assign_is s)

operand_kind_grows : (l : ℕ) (o : Outer) (y : Expr) (n : ℕ) (t : Token) (k : TokenKind) → here o ≤ l → t.kind ≡ k → Grows l (inside o (expr_at (here o) y)) t (operand_kind false o y n t k)
operand_kind_grows l o y n t (tok.Punctuator s) v e = operand_sign_grows l o y n t s v e
operand_kind_grows l o y n t _ v e = whole_grows l o y t v

pub operand_grows : (l : ℕ) (o : Outer) (y : Expr) (n : ℕ) (t : Token) → here o ≤ l → Grows l (inside o (expr_at (here o) y)) t (after_operand false o y n t)
operand_grows l o y n t v = operand_kind_grows l o y n t t.kind v refl
