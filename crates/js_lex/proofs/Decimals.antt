-- Decimal integers, with what stands behind them.
use Rattle.std.proofs.Common.{◌≡◌, ℕ, suc, ◌+◌, ◌≤◌, false, [], ◌∷◌, ◌++◌, take, drop, length, refl, sym, ◌∙◌, ap, arith, append_assoc}
use Rattle.std.specs.Prelude.{cond, ◌==◌, slice_index}
use Rattle.std.proofs.lemmas.List.{length-append}
use Rattle.js_lex.specs.declared.units.Class.TheVariants as class
use Rattle.js_lex.specs.Units.{Text, is_digit}
use Rattle.js_lex.specs.Runs.{past_digits, past_some, digits_len}
use Rattle.js_lex.specs.Front.{past_fraction, past_exponent}
use Rattle.js_lex.proofs.Truths.{cond_ap}
use Rattle.js_lex.proofs.Exponents.{plus_suc, past_suc, exponent_suc}
use Rattle.js_lex.specs.Numbers.{Digits, Exponent, NoExponent, Exponential, exponent_units, IsExponent, Fraction, NoFraction, Fractional, fraction_units, IsFraction}
use Rattle.js_lex.proofs.Runs.{both_parts, drop_here}
use Rattle.js_lex.proofs.Separated.{Ends, digits_least, digits_exact, digits_length}
use Rattle.js_lex.proofs.Points.{letter_ends}
use Rattle.js_lex.proofs.Tails.{extent, tails, tail_bound}

-- behind all the digits
abbrev pub behind : Text → Text
behind z = drop (digits_len is_digit z) z

pub behind_is : (ds y : Text) → Digits is_digit false ds → Ends is_digit y → behind (ds ++ y) ≡ y
behind_is ds y h n = ap (λ (k : ℕ). drop k (ds ++ y)) (digits_exact is_digit false ds y h n) ∙ drop_here ds y

apart_tail : (ds w more : Text) → Digits is_digit false ds → Ends is_digit (w ++ more) → length w ≤ extent (w ++ more) → length (ds ++ w) ≤ digits_len is_digit ((ds ++ w) ++ more) + extent (behind ((ds ++ w) ++ more))
apart_tail ds w more h n b =
    let t : (ds ++ w) ++ more ≡ ds ++ (w ++ more) = append_assoc ds w more in
    let r : digits_len is_digit ((ds ++ w) ++ more) ≡ length ds = ap (digits_len is_digit) t ∙ digits_exact is_digit false ds (w ++ more) h n in
    let y : extent (behind ((ds ++ w) ++ more)) ≡ extent (w ++ more) = ap (λ (x : Text). extent (behind x)) t ∙ ap extent (behind_is ds (w ++ more) h n) in
    omega (arith, b, r, y, length-append ds w)

-- no integer with a fraction and an exponent is longer
pub decimal_bound : (ds : Text) (f : Fraction) (x : Exponent) (more : Text) → Digits is_digit false ds → IsFraction f → IsExponent x → length (ds ++ (fraction_units f ++ exponent_units x)) ≤ digits_len is_digit ((ds ++ (fraction_units f ++ exponent_units x)) ++ more) + extent (behind ((ds ++ (fraction_units f ++ exponent_units x)) ++ more))
decimal_bound ds NoFraction NoExponent more h i k =
    let a = digits_least is_digit false ds more h in
    let t : (ds ++ []) ++ more ≡ ds ++ more = append_assoc ds [] more in
    let b = ap (digits_len is_digit) t in
    omega (arith, a, b, length-append ds [])
decimal_bound ds NoFraction (Exponential e s xs) more h i k =
    apart_tail ds (exponent_units (Exponential e s xs)) more h (letter_ends e ((s ++ xs) ++ more) k.0) (tail_bound NoFraction (Exponential e s xs) more i k)
decimal_bound ds (Fractional fs) x more h i k = apart_tail ds (46 ∷ (fs ++ exponent_units x)) more h refl (tail_bound (Fractional fs) x more i k)

-- ---- what the code finds

pub record Decimals (z : Text) : Type 0 where
  pub fraction : Fraction
  pub exponent : Exponent
  pub rest : Text
  pub text : z ≡ (take (digits_len is_digit z) z ++ (fraction_units fraction ++ exponent_units exponent)) ++ rest
  pub is_fraction : IsFraction fraction
  pub is_exponent : IsExponent exponent
  pub size : length (take (digits_len is_digit z) z ++ (fraction_units fraction ++ exponent_units exponent)) ≡ digits_len is_digit z + extent (behind z)

pub decimals : (z : Text) → Decimals z
decimals z =
    let t = tails (behind z) in
    let w = fraction_units t.fraction ++ exponent_units t.exponent in
    record {
      fraction = t.fraction;
      exponent = t.exponent;
      rest = t.rest;
      text = sym (both_parts (digits_len is_digit z) z) ∙ ap (λ (y : Text). take (digits_len is_digit z) z ++ y) t.text ∙ sym (append_assoc (take (digits_len is_digit z) z) (fraction_units t.fraction ++ exponent_units t.exponent) t.rest);
      is_fraction = t.is_fraction;
      is_exponent = t.is_exponent;
      size = omega (arith, t.size, digits_length is_digit z, length-append (take (digits_len is_digit z) z) (fraction_units t.fraction ++ exponent_units t.exponent));
    }

-- ---- the code's end of a decimal

some_suc : (x : ℕ) (z : Text) (n : ℕ) → past_some class.Digit (x ∷ z) (suc n) ≡ suc (past_some class.Digit z n)
some_suc x z n =
    ap (λ (m : ℕ). cond (is_digit (slice_index z n)) m (suc n)) (past_suc x z n)
    ∙ sym (cond_ap suc (is_digit (slice_index z n)) (past_digits class.Digit z n) n)

fraction_suc : (x : ℕ) (z : Text) (n : ℕ) → past_fraction (x ∷ z) (suc n) ≡ suc (past_fraction z n)
fraction_suc x z n =
    ap (λ (m : ℕ). cond (slice_index z n == 46) m (suc n)) (ap (past_some class.Digit (x ∷ z)) (plus_suc n 1) ∙ some_suc x z (n + 1))
    ∙ sym (cond_ap suc (slice_index z n == 46) (past_some class.Digit z (n + 1)) n)

pub ends_behind : (a y : Text) → past_exponent (a ++ y) (past_fraction (a ++ y) (length a)) ≡ length a + extent y
ends_behind [] y = omega arith
ends_behind (x ∷ a) y =
    ap (past_exponent (x ∷ (a ++ y))) (fraction_suc x (a ++ y) (length a)) ∙ exponent_suc x (a ++ y) (past_fraction (a ++ y) (length a)) ∙ ap suc (ends_behind a y) ∙ omega arith
