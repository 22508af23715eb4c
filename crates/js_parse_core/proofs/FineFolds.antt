-- Operators and tails that get their value: what comes of it fits.
use Rattle.std.proofs.Common.{◌≡◌, ℕ, ◌<◌, ◌≤◌, Bool, true, false, List, [], ◌∷◌, Some, Result, Ok, Err, refl, sym, ◌∙◌, ap, subst, arith, true≢false}
use Rattle.std.proofs.lemmas.Bool.{and_from, leb-true, leb-false, cond_both}
use Rattle.js_tree.specs.Targets.{target_of}
use Rattle.js_tree.specs.declared.tree.ArrowBody.TheVariants as arrow_body
use Rattle.js_tree.specs.declared.tree.Expr.{Expr}
use Rattle.js_tree.specs.declared.tree.Expr.TheVariants as expr
use Rattle.js_tree.specs.declared.tree.Target.{Target}
use Rattle.js_tree.specs.declared.tree.UpdateOp.{UpdateOp}
use Rattle.js_tree.specs.declared.tree.UpdateSide.TheVariants as side
use Rattle.js_grammar.specs.Shapes.{Shape, strength, of_expr}
use Rattle.js_parse_core.specs.declared.machine.Frame.{Frame}
use Rattle.js_parse_core.specs.declared.machine.Frame.TheVariants as frame
use Rattle.js_parse_core.specs.declared.machine.Open.{Open}
use Rattle.js_parse_core.specs.declared.machine.Operator.{Operator}
use Rattle.js_parse_core.specs.declared.machine.Operator.TheVariants as operator
use Rattle.js_parse_core.specs.declared.machine.Tail.{Tail}
use Rattle.js_parse_core.specs.declared.machine.Tail.TheVariants as tail
use Rattle.js_parse_core.specs.Values.{Over, Folded, over, operator_binds, updated, apply, applied, fold_frame, fold, end_tail, fold_tail, fold_tails}
use Rattle.js_parse_core.proofs.Fine.{need_in, need, beside_in, apart, first_in, Fit, Fills, FineOperator, FineTail, FineFrame, FineFrames}
use Rattle.js_parse_core.proofs.FineShapes.{IsTarget, target_is, fills_unary, fills_await, fills_before, fills_binary, level_binary, fills_assign, fills_conditional, fills_arrow}
use Rattle.js_parse_core.proofs.ShapeEquations.{shape_unary, shape_await, shape_update, shape_arrow_value}

-- ---- operators

-- a value with all operators that bind at least so tightly, over those that do not
pub record FineOver (e : Bool) (n : ℕ) (v : Over) : Type 0 where
  pub frames : FineFrames e v.frames
  pub value : Fills v.frames (of_expr v.value)
  pub level : n ≤ (of_expr v.value).level
  pub low : need v.frames ≤ n

abbrev pub FineFolded : Bool → ℕ → Folded → Type 0
FineFolded e n (Ok v) = FineOver e n v
FineFolded e n (Err k) = Unit {0}

level_unary : (x y : Shape) → x ≡ y → (n : ℕ) → n ≤ y.level → n ≤ x.level
level_unary x y h n k = subst (λ (z : Shape). n ≤ z.level) (sym h) k

fine_updated : (e : Bool) (n : ℕ) (fs : List Open) (o : UpdateOp) (x : Expr) (t : Result Target Expr) (go : Expr → Folded) → n ≤ 7 → Fit x → IsTarget x t → ((y : Expr) → Fills fs (of_expr y) → n ≤ (of_expr y).level → FineFolded e n (go y)) → FineFolded e n (applied (updated t (λ z. expr.Update side.Before o z)) go)
fine_updated e n fs o x (Ok t) go s f is g = g (expr.Update side.Before o t) (fills_before fs o t (ap (λ (z : Shape). z.fits) is ∙ f)) (level_unary (of_expr (expr.Update side.Before o t)) _ (shape_update side.Before o t) n s)
fine_updated e n fs o x (Err y) go s f is g = tt

fine_applied : (e : Bool) (n : ℕ) (o : Operator) (fs : List Open) (x : Expr) (go : Expr → Folded) → n ≤ 7 → FineOperator o fs → Fit x → need_in (Some (frame.Operator o)) ≤ (of_expr x).level → apart (beside_in (Some (frame.Operator o))) (of_expr x).logic ≡ true → operator_binds n o ≡ true → ((y : Expr) → Fills fs (of_expr y) → n ≤ (of_expr y).level → FineFolded e n (go y)) → FineFolded e n (applied (apply o x) go)
fine_applied e n (operator.Binary l o) fs x go s h f k a b g =
    let q = level_binary o l x in
    let m : n ≤ strength o = leb-true n (strength o) b in
    g (expr.Binary o l x) (fills_binary fs o l x h f (omega arith) a) (omega arith)
fine_applied e n (operator.Unary o) fs x go s h f k a b g = g (expr.Unary o x) (fills_unary fs o x f k) (level_unary (of_expr (expr.Unary o x)) _ (shape_unary o x) n s)
fine_applied e n (operator.Await q) fs x go s h f k a b g = g (expr.Await q x) (fills_await fs q x f k) (level_unary (of_expr (expr.Await q x)) _ (shape_await q x) n s)
fine_applied e n (operator.Update o) fs x go s h f k a b g = fine_updated e n fs o x (target_of x) go s f (target_is x) g

-- an operator that does not bind
stays_low : (n : ℕ) (o : Operator) → operator_binds n o ≡ false → need_in (Some (frame.Operator o)) ≤ n
stays_low n (operator.Binary l o) h = let m : strength o < n = leb-false n (strength o) h in omega arith
stays_low n (operator.Unary o) h = absurd (true≢false h)
stays_low n (operator.Await q) h = absurd (true≢false h)
stays_low n (operator.Update o) h = absurd (true≢false h)

stays_over : (e : Bool) (n : ℕ) (f : Open) (fs : List Open) (x : Expr) → FineFrames e (f ∷ fs) → Fills (f ∷ fs) (of_expr x) → n ≤ (of_expr x).level → need_in (Some f.frame) ≤ n → FineFolded e n (over (f ∷ fs) x)
stays_over e n f fs x h v l k = record { frames = h; value = v; level = l; low = k }

low_at : (n : ℕ) (f : Open) (w : Frame) → f.frame ≡ w → need_in (Some w) ≤ n → need_in (Some f.frame) ≤ n
low_at n f w is h = subst (λ (z : Frame). need_in (Some z) ≤ n) (sym is) h

fine_frame : (e : Bool) (n : ℕ) (f : Open) (w : Frame) (fs : List Open) (x : Expr) (go : Expr → Folded) → n ≤ 7 → f.frame ≡ w → FineFrames e (f ∷ fs) → Fills (f ∷ fs) (of_expr x) → n ≤ (of_expr x).level → ((y : Expr) → Fills fs (of_expr y) → n ≤ (of_expr y).level → FineFolded e n (go y)) → FineFolded e n (fold_frame n f w fs x go)
fine_frame e n f (frame.Operator o) fs x go s is h v l g = cond_both (operator_binds n o) (applied (apply o x) go) (over (f ∷ fs) x) (FineFolded e n)
    (λ b. fine_applied e n o fs x go s (subst (λ (z : Frame). FineFrame e z fs) is h.0) v.fits
    (subst (λ (z : Frame). need_in (Some z) ≤ (of_expr x).level) is v.level)
    (subst (λ (z : Frame). apart (beside_in (Some z)) (of_expr x).logic ≡ true) is v.unmixed) b g)
    (λ b. stays_over e n f fs x h v l (low_at n f (frame.Operator o) is (stays_low n o b)))
fine_frame e n f (frame.Tail t) fs x go s is h v l g = stays_over e n f fs x h v l (low_at n f (frame.Tail t) is (omega arith))
fine_frame e n f (frame.Purpose t) fs x go s is h v l g = stays_over e n f fs x h v l (low_at n f (frame.Purpose t) is (omega arith))
fine_frame e n f (frame.Body t) fs x go s is h v l g = stays_over e n f fs x h v l (low_at n f (frame.Body t) is (omega arith))
fine_frame e n f (frame.Block t ss) fs x go s is h v l g = stays_over e n f fs x h v l (low_at n f (frame.Block t ss) is (omega arith))
fine_frame e n f frame.Export fs x go s is h v l g = stays_over e n f fs x h v l (low_at n f frame.Export is (omega arith))

pub fine_fold : (e : Bool) (n : ℕ) (fs : List Open) (x : Expr) → n ≤ 7 → FineFrames e fs → Fills fs (of_expr x) → n ≤ (of_expr x).level → FineFolded e n (fold n fs x)
fine_fold e n [] x s h v l = record { frames = h; value = v; level = l; low = omega arith }
fine_fold e n (f ∷ fs) x s h v l = fine_frame e n f f.frame fs x (λ y. fold n fs y) s refl h v l (λ y w m. fine_fold e n fs y s h.1 w m)

-- ---- tails

pub record FineEnd (e : Bool) (v : Over) : Type 0 where
  pub frames : FineFrames e v.frames
  pub value : Fills v.frames (of_expr v.value)

fine_end_tail : (t : Tail) (fs : List Open) (x : Expr) → FineTail t fs → Fit x → first_in (Some (frame.Tail t)) (of_expr x).first ≡ true → Fills fs (of_expr (end_tail t x))
fine_end_tail (tail.Assign o t) fs x h f k = fills_assign fs o t x h f
fine_end_tail (tail.Else test a) fs x h f k = fills_conditional fs test a x h.0 h.1 f
fine_end_tail (tail.Arrow a ns) fs x h f k = fills_arrow fs a ns (arrow_body.Value x) h (shape_arrow_value x ∙ and_from (of_expr x).fits _ f k)

fine_tail : (e : Bool) (f : Open) (w : Frame) (fs : List Open) (x : Expr) (go : Expr → Over) → f.frame ≡ w → FineFrames e (f ∷ fs) → Fills (f ∷ fs) (of_expr x) → ((y : Expr) → Fills fs (of_expr y) → FineEnd e (go y)) → FineEnd e (fold_tail f w fs x go)
fine_tail e f (frame.Tail t) fs x go is h v g = g (end_tail t x) (fine_end_tail t fs x (subst (λ (z : Frame). FineFrame e z fs) is h.0) v.fits (subst (λ (z : Frame). first_in (Some z) (of_expr x).first ≡ true) is v.first))
fine_tail e f _ fs x go is h v g = record { frames = h; value = v }

pub fine_tails : (e : Bool) (fs : List Open) (x : Expr) → FineFrames e fs → Fills fs (of_expr x) → FineEnd e (fold_tails fs x)
fine_tails e [] x h v = record { frames = h; value = v }
fine_tails e (f ∷ fs) x h v = fine_tail e f f.frame fs x (λ y. fold_tails fs y) refl h v (λ y w. fine_tails e fs y h.1 w)
