-- Runs of digits with separators between them.
use Rattle.std.proofs.Common.{◌≡◌, ℕ, suc, ◌+◌, ◌≤◌, Bool, true, false, cond, [], ◌∷◌, ◌++◌, take, length, refl, sym, ◌∙◌, ap, subst, arith, inl, inr}
use Rattle.std.specs.Prelude.{◌==◌, ◌&&◌, slice_index}
use Rattle.std.proofs.lemmas.Bool.{eqb-true, eq-eqb}
use Rattle.js_lex.specs.Units.{Text, is_digit}
use Rattle.js_lex.specs.Numbers.{Digits, OrNone}
use Rattle.js_lex.specs.Runs.{goes_on, digits_len}
use Rattle.js_lex.proofs.Truths.{cond_yes, cond_no, or_split, or_first, or_no, or_yes_first, or_yes_second, and_first, and_second, and_both, and_no_first}
use Rattle.js_lex.proofs.Runs.{one_behind, take_length, least_at, exact_at, none_at, run_within_at}
use Rattle.js_lex.proofs.Signs.{no_truth}

-- neither the text's end nor a separator is a digit
abbrev pub Clear : (ℕ → Bool) → Type 0
Clear p = (p 0 ≡ false) × (p 95 ≡ false)

pub clear_digit : Clear is_digit
clear_digit = (refl, refl)

-- the text goes on with no digit
abbrev pub Ends : (ℕ → Bool) → Text → Type 0
Ends p [] = Unit {0}
Ends p (u ∷ z) = goes_on p u z ≡ false

pub no_separator : (p : ℕ → Bool) (u : ℕ) → Clear p → p u ≡ true → u ≡ 95 → ⊥
no_separator p u k h e = no_truth (sym h ∙ ap p e ∙ k.1)

-- behind no separator a digit begins
pub must_begin : (p : ℕ → Bool) (d : ℕ) (w : Text) → Clear p → p d ≡ true → Digits p false (d ∷ w) → Digits p true (d ∷ w)
must_begin p d w k h (inl x) = inl x
must_begin p d w k h (inr x) = absurd (no_separator p d k h x.0)

pub must_of : (p : ℕ → Bool) (z : Text) → Clear p → p (slice_index z 0) ≡ true → Digits p false (take (digits_len p z) z) → Digits p true (take (digits_len p z) z)
must_of p [] k h i = absurd (no_truth (sym h ∙ k.0))
must_of p (d ∷ z) k h i =
    let e : digits_len p (d ∷ z) ≡ suc (digits_len p z) = cond_yes (goes_on p d z) (1 + digits_len p z) 0 (or_yes_first (p d) _ h) ∙ one_behind (digits_len p z) in
    subst (λ (m : ℕ). Digits p true (take m (d ∷ z))) (sym e) (must_begin p d (take (digits_len p z) z) k h (subst (λ (m : ℕ). Digits p false (take m (d ∷ z))) e i))

passes_more : (p : ℕ → Bool) (u : ℕ) (z : Text) → Clear p → goes_on p u z ≡ true → Digits p false (take (digits_len p z) z) → Digits p false (u ∷ take (digits_len p z) z)
passes_more p u z k h i = elim (or_split (p u) (u == 95 && p (slice_index z 0)) h) [
  | inl y ↦ inl (y, i)
  | inr y ↦ inr (eqb-true u 95 (and_first (u == 95) (p (slice_index z 0)) y), refl, must_of p z k (and_second (u == 95) (p (slice_index z 0)) y) i)
]

passes_at : (p : ℕ → Bool) (u : ℕ) (z : Text) (r : Bool) → Clear p → goes_on p u z ≡ r → Digits p false (take (digits_len p z) z) → Digits p false (take (cond r (1 + digits_len p z) 0) (u ∷ z))
passes_at p u z true k e h = subst (λ (m : ℕ). Digits p false (take m (u ∷ z))) (sym (one_behind (digits_len p z))) (passes_more p u z k e h)
passes_at p u z false k e h = refl

pub digits_pass : (p : ℕ → Bool) (z : Text) → Clear p → Digits p false (take (digits_len p z) z)
digits_pass p [] k = refl
digits_pass p (u ∷ z) k = passes_at p u z (goes_on p u z) k refl (digits_pass p z k)

-- ---- of a known front

first_on : (p : ℕ → Bool) (b : Bool) (u : ℕ) (w z : Text) → Digits p b (u ∷ w) → goes_on p u (w ++ z) ≡ true
first_on p b u w z (inl h) = or_yes_first (p u) _ h.0
first_on p b u [] z (inr h) = absurd (no_truth h.2)
first_on p b u (d ∷ w) z (inr (e, f, inl h)) = or_yes_second (p u) _ (and_both (u == 95) (p d) (eq-eqb u 95 e) h.0)
first_on p b u (d ∷ w) z (inr (e, f, inr h)) = absurd (no_truth h.1)

abbrev Rest : (ℕ → Bool) → Text → Type 0
Rest p w = (b : Bool) × Digits p b w

rest_digits : (p : ℕ → Bool) (b : Bool) (u : ℕ) (w : Text) → Digits p b (u ∷ w) → Rest p w
rest_digits p b u w (inl h) = (false, h.1)
rest_digits p b u w (inr h) = (true, h.2)

pub digits_least : (p : ℕ → Bool) (b : Bool) (w z : Text) → Digits p b w → length w ≤ digits_len p (w ++ z)
digits_least p b [] z h = omega arith
digits_least p b (u ∷ w) z h =
    let i = rest_digits p b u w h in
    let x : 1 + length w ≤ digits_len p (u ∷ (w ++ z)) = least_at (length w) (digits_len p (w ++ z)) (goes_on p u (w ++ z)) (first_on p b u w z h) (digits_least p i.0 w z i.1) in omega (arith, x)

pub digits_none : (p : ℕ → Bool) (z : Text) → Ends p z → digits_len p z ≡ 0
digits_none p [] h = refl
digits_none p (u ∷ z) h = none_at (digits_len p z) (goes_on p u z) h

pub digits_exact : (p : ℕ → Bool) (b : Bool) (w z : Text) → Digits p b w → Ends p z → digits_len p (w ++ z) ≡ length w
digits_exact p b [] z h k = digits_none p z k
digits_exact p b (u ∷ w) z h k =
    let i = rest_digits p b u w h in
    exact_at (digits_len p (w ++ z)) (length w) (goes_on p u (w ++ z)) (first_on p b u w z h) (digits_exact p i.0 w z i.1 k) ∙ one_behind (length w)

pub digits_within : (p : ℕ → Bool) (z : Text) → digits_len p z ≤ length z
digits_within p [] = omega arith
digits_within p (u ∷ z) = run_within_at (digits_len p z) (length z) (goes_on p u z) (digits_within p z)

pub digits_length : (p : ℕ → Bool) (z : Text) → length (take (digits_len p z) z) ≡ digits_len p z
digits_length p z = take_length (digits_len p z) z (digits_within p z)

-- ---- that begin with a digit

-- how many they are, where a digit has to be the first
abbrev pub some_len : (ℕ → Bool) → Text → ℕ
some_len p z = cond (p (slice_index z 0)) (digits_len p z) 0

some_within_at : (n m : ℕ) (r : Bool) → n ≤ m → cond r n 0 ≤ m
some_within_at n m true h = h
some_within_at n m false h = omega arith

pub some_within : (p : ℕ → Bool) (z : Text) → some_len p z ≤ length z
some_within p z = some_within_at (digits_len p z) (length z) (p (slice_index z 0)) (digits_within p z)

pub some_length : (p : ℕ → Bool) (z : Text) → length (take (some_len p z) z) ≡ some_len p z
some_length p z = take_length (some_len p z) z (some_within p z)

some_at : (p : ℕ → Bool) (z : Text) (r : Bool) → Clear p → p (slice_index z 0) ≡ r → OrNone p (take (cond r (digits_len p z) 0) z)
some_at p z true k e = inr (must_of p z k e (digits_pass p z k))
some_at p z false k e = inl refl

pub some_pass : (p : ℕ → Bool) (z : Text) → Clear p → OrNone p (take (some_len p z) z)
some_pass p z k = some_at p z (p (slice_index z 0)) k refl

pub first_digit : (p : ℕ → Bool) (u : ℕ) (w : Text) → Digits p true (u ∷ w) → (p u ≡ true) × Digits p false w
first_digit p u w (inl h) = h
first_digit p u w (inr h) = absurd (no_truth h.1)

pub some_least : (p : ℕ → Bool) (w z : Text) → OrNone p w → length w ≤ some_len p (w ++ z)
some_least p w z (inl e) = subst (λ (v : Text). length v ≤ some_len p (v ++ z)) (sym e) (omega arith)
some_least p [] z (inr h) = omega arith
some_least p (u ∷ w) z (inr h) =
    let e : some_len p (u ∷ (w ++ z)) ≡ digits_len p (u ∷ (w ++ z)) = cond_yes (p u) _ _ (first_digit p u w h).0 in
    let x = digits_least p true (u ∷ w) z h in omega (arith, e, x)

ends_no_digit : (p : ℕ → Bool) (z : Text) → Clear p → Ends p z → p (slice_index z 0) ≡ false
ends_no_digit p [] k h = k.0
ends_no_digit p (u ∷ z) k h = or_first (p u) _ h

pub some_exact : (p : ℕ → Bool) (w z : Text) → Clear p → OrNone p w → Ends p z → some_len p (w ++ z) ≡ length w
some_exact p w z k (inl e) i = subst (λ (v : Text). some_len p (v ++ z) ≡ length v) (sym e) (cond_no _ _ _ (ends_no_digit p z k i))
some_exact p [] z k (inr h) i = absurd (no_truth h)
some_exact p (u ∷ w) z k (inr h) i = cond_yes (p u) _ _ (first_digit p u w h).0 ∙ digits_exact p true (u ∷ w) z h i

-- a unit that is neither a digit nor a separator ends digits
pub other_ends : (p : ℕ → Bool) (u : ℕ) (z : Text) → p u ≡ false → (u == 95) ≡ false → Ends p (u ∷ z)
other_ends p u z a b = or_no (p u) _ a (and_no_first (u == 95) _ b)
