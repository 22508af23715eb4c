-- The fraction and the exponent behind an integer.
use Rattle.std.proofs.Common.{◌≡◌, ℕ, ◌+◌, ◌≤◌, Bool, true, false, cond, [], ◌∷◌, ◌++◌, take, drop, length, refl, sym, ◌∙◌, ap, subst, arith, append_assoc, inl, inr}
use Rattle.std.specs.Prelude.{◌==◌, ◌||◌, slice_index}
use Rattle.std.proofs.lemmas.Bool.{eqb-true}
use Rattle.std.proofs.lemmas.List.{length-append}
use Rattle.js_lex.specs.declared.units.Class.TheVariants as class
use Rattle.js_lex.specs.Units.{Text, is_digit}
use Rattle.js_lex.specs.Runs.{past_some, digits_len}
use Rattle.js_lex.specs.Front.{past_fraction, past_exponent}
use Rattle.js_lex.specs.Numbers.{Exponent, NoExponent, Exponential, exponent_units, IsExponent, Fraction, NoFraction, Fractional, fraction_units, IsFraction}
use Rattle.js_lex.proofs.Truths.{cond_no, either, or_split}
use Rattle.js_lex.proofs.Runs.{both_parts}
use Rattle.js_lex.proofs.Separated.{clear_digit, some_len, some_pass, some_length}
use Rattle.js_lex.proofs.Exponents.{exponent_behind, exponent_bound, exponents}
use Rattle.js_lex.proofs.Points.{digits_bound}

-- where the code's fraction and exponent end
abbrev pub extent : Text → ℕ
extent y = past_exponent y (past_fraction y 0)

some_behind_at : (n : ℕ) (r : Bool) → cond r (1 + n) 1 ≡ 1 + cond r n 0
some_behind_at n true = refl
some_behind_at n false = omega arith

some_behind : (y : Text) → past_some class.Digit (46 ∷ y) 1 ≡ 1 + some_len is_digit y
some_behind y = some_behind_at (digits_len is_digit y) (is_digit (slice_index y 0))

extent_point : (y : Text) → extent (46 ∷ y) ≡ 1 + (some_len is_digit y + past_exponent (drop (some_len is_digit y) y) 0)
extent_point y =
    let start : past_some class.Digit (46 ∷ y) 1 ≡ length (46 ∷ take (some_len is_digit y) y) = some_behind y ∙ omega (arith, some_length is_digit y) in
    let text : 46 ∷ y ≡ (46 ∷ take (some_len is_digit y) y) ++ drop (some_len is_digit y) y = ap (λ (x : Text). 46 ∷ x) (sym (both_parts (some_len is_digit y) y)) in
    ap (past_exponent (46 ∷ y)) start ∙ ap (λ (x : Text). past_exponent x (length (46 ∷ take (some_len is_digit y) y))) text
    ∙ exponent_behind (46 ∷ take (some_len is_digit y) y) (drop (some_len is_digit y) y) ∙ omega (arith, some_length is_digit y)

pub extent_none : (y : Text) → (slice_index y 0 == 46) ≡ false → extent y ≡ past_exponent y 0
extent_none y h = ap (past_exponent y) (cond_no _ _ _ h)

pub record Tails (y : Text) : Type 0 where
  pub fraction : Fraction
  pub exponent : Exponent
  pub rest : Text
  pub text : y ≡ (fraction_units fraction ++ exponent_units exponent) ++ rest
  pub is_fraction : IsFraction fraction
  pub is_exponent : IsExponent exponent
  pub size : extent y ≡ length (fraction_units fraction ++ exponent_units exponent)

no_tail : (y : Text) → (slice_index y 0 == 46) ≡ false → Tails y
no_tail y h =
    let x = exponents y in
    record { fraction = NoFraction; exponent = x.exponent; rest = x.rest; text = x.text; is_fraction = tt; is_exponent = x.is; size = extent_none y h ∙ x.size }

point_tail : (y : Text) → Tails (46 ∷ y)
point_tail y =
    let x = exponents (drop (some_len is_digit y) y) in
    record {
      fraction = Fractional (take (some_len is_digit y) y);
      exponent = x.exponent;
      rest = x.rest;
      text = ap (λ (z : Text). 46 ∷ z) (sym (both_parts (some_len is_digit y) y) ∙ ap (λ (z : Text). take (some_len is_digit y) y ++ z) x.text ∙ sym (append_assoc (take (some_len is_digit y) y) (exponent_units x.exponent) x.rest));
      is_fraction = some_pass is_digit y clear_digit;
      is_exponent = x.is;
      size = extent_point y ∙ omega (arith, x.size, some_length is_digit y, length-append (take (some_len is_digit y) y) (exponent_units x.exponent));
    }

pub tails : (y : Text) → Tails y
tails [] = no_tail [] refl
tails (u ∷ y) = elim (either (u == 46)) [
  | inl h ↦ subst (λ (v : ℕ). Tails (v ∷ y)) (sym (eqb-true u 46 h)) (point_tail y)
  | inr n ↦ no_tail (u ∷ y) n
]

letter_no_point : (e : ℕ) → (e == 101 || e == 69) ≡ true → (e == 46) ≡ false
letter_no_point e h = elim (or_split (e == 101) (e == 69) h) [
  | inl y ↦ ap (λ (n : ℕ). n == 46) (eqb-true e 101 y)
  | inr y ↦ ap (λ (n : ℕ). n == 46) (eqb-true e 69 y)
]

-- no fraction and exponent are longer
pub tail_bound : (f : Fraction) (x : Exponent) (more : Text) → IsFraction f → IsExponent x → length (fraction_units f ++ exponent_units x) ≤ extent ((fraction_units f ++ exponent_units x) ++ more)
tail_bound NoFraction NoExponent more i k = omega arith
tail_bound NoFraction (Exponential e s ds) more i k =
    let a = extent_none (exponent_units (Exponential e s ds) ++ more) (letter_no_point e k.0) in
    let b = exponent_bound (Exponential e s ds) more k in
    omega (arith, a, b)
tail_bound (Fractional fs) x more i k =
    let a = extent_point ((fs ++ exponent_units x) ++ more) in
    let b = digits_bound fs x more ((fs ++ exponent_units x) ++ more) i k refl in
    omega (arith, a, b)
