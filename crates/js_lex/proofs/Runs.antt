-- Runs of units that pass a test.
use Rattle.std.proofs.Common.{◌≡◌, ℕ, zero, suc, ◌+◌, ◌≤◌, Bool, true, false, cond, [], ◌∷◌, ◌++◌, take, drop, length, refl, sym, ◌∙◌, ap, subst, arith}
use Rattle.std.specs.List.{prefix_len}
use Rattle.js_lex.specs.Units.{Text}
use Rattle.js_lex.specs.Lists.{Passes, Every, NotNext}

pub one_behind : (n : ℕ) → 1 + n ≡ suc n
one_behind n = omega arith

abbrev pub run : (ℕ → Bool) → Text → ℕ
run p z = prefix_len p z

passes_at : (p : ℕ → Bool) (u : ℕ) (z : Text) (n : ℕ) (r : Bool) → p u ≡ r → Every (Passes p) (take n z) → Every (Passes p) (take (cond r (1 + n) 0) (u ∷ z))
passes_at p u z n true e h = subst (λ (m : ℕ). Every (Passes p) (take m (u ∷ z))) (sym (one_behind n)) (e, h)
passes_at p u z n false e h = tt

pub run_passes : (p : ℕ → Bool) (z : Text) → Every (Passes p) (take (run p z) z)
run_passes p [] = tt
run_passes p (u ∷ z) = passes_at p u z (run p z) (p u) refl (run_passes p z)

stops_at : (p : ℕ → Bool) (u : ℕ) (z : Text) (n : ℕ) (r : Bool) → p u ≡ r → NotNext p (drop n z) → NotNext p (drop (cond r (1 + n) 0) (u ∷ z))
stops_at p u z n true e h = subst (λ (m : ℕ). NotNext p (drop m (u ∷ z))) (sym (one_behind n)) h
stops_at p u z n false e h = e

pub run_stops : (p : ℕ → Bool) (z : Text) → NotNext p (drop (run p z) z)
run_stops p [] = tt
run_stops p (u ∷ z) = stops_at p u z (run p z) (p u) refl (run_stops p z)

pub least_at : (n m : ℕ) (r : Bool) → r ≡ true → n ≤ m → 1 + n ≤ cond r (1 + m) 0
least_at n m true e h = omega (arith, h)
least_at n m false e h = cc

pub run_least : (p : ℕ → Bool) (w z : Text) → Every (Passes p) w → length w ≤ run p (w ++ z)
run_least p [] z h = omega arith
run_least p (u ∷ w) z h = let x : 1 + length w ≤ run p (u ∷ (w ++ z)) = least_at (length w) (run p (w ++ z)) (p u) h.0 (run_least p w z h.1) in omega (arith, x)

pub exact_at : (n m : ℕ) (r : Bool) → r ≡ true → n ≡ m → cond r (1 + n) 0 ≡ 1 + m
exact_at n m true e h = omega (arith, h)
exact_at n m false e h = cc

pub none_at : (n : ℕ) (r : Bool) → r ≡ false → cond r (1 + n) 0 ≡ 0
none_at n true e = cc
none_at n false e = refl

pub run_none : (p : ℕ → Bool) (z : Text) → NotNext p z → run p z ≡ 0
run_none p [] h = refl
run_none p (u ∷ z) h = none_at (run p z) (p u) h

pub run_exact : (p : ℕ → Bool) (w z : Text) → Every (Passes p) w → NotNext p z → run p (w ++ z) ≡ length w
run_exact p [] z h k = run_none p z k
run_exact p (u ∷ w) z h k = exact_at (run p (w ++ z)) (length w) (p u) h.0 (run_exact p w z h.1 k) ∙ one_behind (length w)

pub every_wider : (p q : ℕ → Bool) → ((u : ℕ) → p u ≡ true → q u ≡ true) → (w : Text) → Every (Passes p) w → Every (Passes q) w
every_wider p q f [] h = tt
every_wider p q f (u ∷ w) h = (f u h.0, every_wider p q f w h.1)

pub take_here : (w z : Text) → take (length w) (w ++ z) ≡ w
take_here [] z = refl
take_here (u ∷ w) z = ap (λ (x : Text). u ∷ x) (take_here w z)

pub drop_here : (w z : Text) → drop (length w) (w ++ z) ≡ z
drop_here [] z = refl
drop_here (u ∷ w) z = drop_here w z

pub both_parts : (n : ℕ) (z : Text) → take n z ++ drop n z ≡ z
both_parts zero z = refl
both_parts (suc n) [] = refl
both_parts (suc n) (u ∷ z) = ap (λ (x : Text). u ∷ x) (both_parts n z)

pub take_length : (n : ℕ) (z : Text) → n ≤ length z → length (take n z) ≡ n
take_length zero z h = refl
take_length (suc n) [] h = absurd (omega (arith, h))
take_length (suc n) (u ∷ z) h = ap suc (take_length n z (omega (arith, h)))

pub run_within_at : (n m : ℕ) (r : Bool) → n ≤ m → cond r (1 + n) 0 ≤ suc m
run_within_at n m true h = omega (arith, h)
run_within_at n m false h = omega arith

pub run_within : (p : ℕ → Bool) (z : Text) → run p z ≤ length z
run_within p [] = omega arith
run_within p (u ∷ z) = run_within_at (run p z) (length z) (p u) (run_within p z)

pub run_length : (p : ℕ → Bool) (z : Text) → length (take (run p z) z) ≡ run p z
run_length p z = take_length (run p z) z (run_within p z)

-- the end of a longest run
pub longest_stops : (p : ℕ → Bool) (w z : Text) → run p (w ++ z) ≡ length w → NotNext p z
longest_stops p w z h = subst (λ (x : Text). NotNext p x) (ap (λ (n : ℕ). drop n (w ++ z)) h ∙ drop_here w z) (run_stops p (w ++ z))
