-- The exponents of numbers.
use Rattle.std.proofs.Common.{◌≡◌, ℕ, suc, ◌+◌, ◌≤◌, Bool, true, false, cond, [], ◌∷◌, ◌++◌, take, drop, length, refl, sym, ◌∙◌, ap, subst, arith, inl, inr}
use Rattle.std.specs.Prelude.{◌==◌, ◌&&◌, ◌||◌, nat_le, slice_index}
use Rattle.std.proofs.lemmas.Bool.{eqb-true, le-leb}
use Rattle.std.proofs.Math.Dec.{leb-suc-suc}
use Rattle.js_lex.specs.declared.units.Class.TheVariants as class
use Rattle.js_lex.specs.Units.{Text, is_digit}
use Rattle.js_lex.specs.Runs.{past_digits, digits_len}
use Rattle.js_lex.specs.Front.{begins_exponent, past_exponent}
use Rattle.js_lex.specs.Lists.{In}
use Rattle.js_lex.specs.Numbers.{Digits, Exponent, NoExponent, Exponential, exponent_units, IsExponent}
use Rattle.js_lex.proofs.Truths.{cond_yes, cond_no, cond_ap, either, and_first, and_second, and_both, or_split, or_yes_first, or_yes_second}
use Rattle.js_lex.proofs.Runs.{both_parts}
use Rattle.js_lex.proofs.Separated.{clear_digit, must_of, digits_pass, digits_least, digits_length, first_digit}
use Rattle.js_lex.proofs.Signs.{no_truth}

-- ---- behind a first unit

pub plus_suc : (n k : ℕ) → suc n + k ≡ suc (n + k)
plus_suc n k = omega arith

abbrev tests : Text → ℕ → ℕ → ℕ → ℕ → Bool
tests z e i j k = nat_le i (length z) && ((e == 101 || e == 69) && (is_digit (slice_index z j) || ((slice_index z j == 43 || slice_index z j == 45) && is_digit (slice_index z k))))

begins_suc : (x : ℕ) (z : Text) (n : ℕ) → begins_exponent (x ∷ z) (suc n) ≡ begins_exponent z n
begins_suc x z n =
    ap (λ (i : ℕ). tests (x ∷ z) (slice_index z n) i (suc n + 1) (suc n + 2)) (plus_suc n 2)
    ∙ ap (λ (j : ℕ). tests (x ∷ z) (slice_index z n) (suc (n + 2)) j (suc n + 2)) (plus_suc n 1)
    ∙ ap (λ (k : ℕ). tests (x ∷ z) (slice_index z n) (suc (n + 2)) (suc (n + 1)) k) (plus_suc n 2)
    ∙ ap (λ (r : Bool). r && ((slice_index z n == 101 || slice_index z n == 69) && (is_digit (slice_index z (n + 1)) || ((slice_index z (n + 1) == 43 || slice_index z (n + 1) == 45) && is_digit (slice_index z (n + 2)))))) (leb-suc-suc (n + 2) (length z))

pub past_suc : (x : ℕ) (z : Text) (n : ℕ) → past_digits class.Digit (x ∷ z) (suc n) ≡ suc (past_digits class.Digit z n)
past_suc x z n = omega arith

pub exponent_suc : (x : ℕ) (z : Text) (n : ℕ) → past_exponent (x ∷ z) (suc n) ≡ suc (past_exponent z n)
exponent_suc x z n =
    ap (λ (r : Bool). cond r (past_digits class.Digit (x ∷ z) (suc n + 2)) (suc n)) (begins_suc x z n)
    ∙ ap (λ (m : ℕ). cond (begins_exponent z n) m (suc n)) (ap (past_digits class.Digit (x ∷ z)) (plus_suc n 2) ∙ past_suc x z (n + 2))
    ∙ sym (cond_ap suc (begins_exponent z n) (past_digits class.Digit z (n + 2)) n)

-- the exponent that stands behind a text
pub exponent_behind : (a y : Text) → past_exponent (a ++ y) (length a) ≡ length a + past_exponent y 0
exponent_behind [] y = omega arith
exponent_behind (x ∷ a) y = exponent_suc x (a ++ y) (length a) ∙ ap suc (exponent_behind a y) ∙ omega arith

-- ---- no exponent is longer

begins_digit : (e d : ℕ) (z : Text) → (e == 101 || e == 69) ≡ true → is_digit d ≡ true → begins_exponent (e ∷ d ∷ z) 0 ≡ true
begins_digit e d z h k =
    let long : nat_le 2 (length (e ∷ d ∷ z)) ≡ true = le-leb 2 (length (e ∷ d ∷ z)) (omega arith) in
    and_both (nat_le 2 (length (e ∷ d ∷ z))) _ long (and_both (e == 101 || e == 69) _ h (or_yes_first (is_digit d) _ k))

begins_signed : (e s d : ℕ) (z : Text) → (e == 101 || e == 69) ≡ true → (s == 43 || s == 45) ≡ true → is_digit d ≡ true → begins_exponent (e ∷ s ∷ d ∷ z) 0 ≡ true
begins_signed e s d z h i k =
    let long : nat_le 2 (length (e ∷ s ∷ d ∷ z)) ≡ true = le-leb 2 (length (e ∷ s ∷ d ∷ z)) (omega arith) in
    and_both (nat_le 2 (length (e ∷ s ∷ d ∷ z))) _ long (and_both (e == 101 || e == 69) _ h (or_yes_second (is_digit s) _ (and_both (s == 43 || s == 45) (is_digit d) i k)))

past_two : (e d : ℕ) (z : Text) → past_digits class.Digit (e ∷ d ∷ z) 2 ≡ 2 + digits_len is_digit z
past_two e d z = omega arith

plain_bound : (e : ℕ) (ds more : Text) → (e == 101 || e == 69) ≡ true → Digits is_digit true ds → 1 + length ds ≤ past_exponent (e ∷ (ds ++ more)) 0
plain_bound e [] more h k = absurd (no_truth k)
plain_bound e (d ∷ ds) more h k =
    let f = first_digit is_digit d ds k in
    let same : past_exponent (e ∷ d ∷ (ds ++ more)) 0 ≡ 2 + digits_len is_digit (ds ++ more) = cond_yes _ _ _ (begins_digit e d (ds ++ more) h f.0) ∙ past_two e d (ds ++ more) in
    let most = digits_least is_digit false ds more f.1 in
    omega (arith, same, most)

signed_bound : (e s : ℕ) (ds more : Text) → (e == 101 || e == 69) ≡ true → (s == 43 || s == 45) ≡ true → Digits is_digit true ds → 2 + length ds ≤ past_exponent (e ∷ s ∷ (ds ++ more)) 0
signed_bound e s [] more h i k = absurd (no_truth k)
signed_bound e s (d ∷ ds) more h i k =
    let same : past_exponent (e ∷ s ∷ d ∷ (ds ++ more)) 0 ≡ 2 + digits_len is_digit (d ∷ (ds ++ more)) = cond_yes _ _ _ (begins_signed e s d (ds ++ more) h i (first_digit is_digit d ds k).0) ∙ past_two e s (d ∷ (ds ++ more)) in
    let most = digits_least is_digit true (d ∷ ds) more k in
    omega (arith, same, most)

pub exponent_bound : (x : Exponent) (more : Text) → IsExponent x → length (exponent_units x) ≤ past_exponent (exponent_units x ++ more) 0
exponent_bound NoExponent more h = omega arith
exponent_bound (Exponential e s ds) more (h, inl i, k) =
    subst (λ (v : Text). length (exponent_units (Exponential e v ds)) ≤ past_exponent (exponent_units (Exponential e v ds) ++ more) 0) i (let b = plain_bound e ds more h k in omega (arith, b))
exponent_bound (Exponential e s ds) more (h, inr (inl i), k) =
    subst (λ (v : Text). length (exponent_units (Exponential e v ds)) ≤ past_exponent (exponent_units (Exponential e v ds) ++ more) 0) i (let b = signed_bound e 43 ds more h refl k in omega (arith, b))
exponent_bound (Exponential e s ds) more (h, inr (inr (inl i)), k) =
    subst (λ (v : Text). length (exponent_units (Exponential e v ds)) ≤ past_exponent (exponent_units (Exponential e v ds) ++ more) 0) i (let b = signed_bound e 45 ds more h refl k in omega (arith, b))
exponent_bound (Exponential e s ds) more (h, inr (inr (inr i)), k) = absurd i

-- ---- the exponent that the code finds

pub record Exponents (y : Text) : Type 0 where
  pub exponent : Exponent
  pub rest : Text
  pub text : y ≡ exponent_units exponent ++ rest
  pub is : IsExponent exponent
  pub size : past_exponent y 0 ≡ length (exponent_units exponent)

plain_found : (e d : ℕ) (z : Text) → (e == 101 || e == 69) ≡ true → is_digit d ≡ true → Exponents (e ∷ d ∷ z)
plain_found e d z h k =
    record {
      exponent = Exponential e [] (d ∷ take (digits_len is_digit z) z);
      rest = drop (digits_len is_digit z) z;
      text = ap (λ (x : Text). e ∷ d ∷ x) (sym (both_parts (digits_len is_digit z) z));
      is = (h, inl refl, inl (k, digits_pass is_digit z clear_digit));
      size = cond_yes _ _ _ (begins_digit e d z h k) ∙ past_two e d z ∙ omega (arith, digits_length is_digit z);
    }

sign_text : (s : ℕ) → (s == 43 || s == 45) ≡ true → In (s ∷ []) ([] ∷ (43 ∷ []) ∷ (45 ∷ []) ∷ [])
sign_text s h = elim (or_split (s == 43) (s == 45) h) [
  | inl e ↦ inr (inl (ap (λ (n : ℕ). n ∷ []) (sym (eqb-true s 43 e))))
  | inr e ↦ inr (inr (inl (ap (λ (n : ℕ). n ∷ []) (sym (eqb-true s 45 e)))))
]

signed_found : (e s d : ℕ) (z : Text) → (e == 101 || e == 69) ≡ true → (s == 43 || s == 45) ≡ true → is_digit d ≡ true → Exponents (e ∷ s ∷ d ∷ z)
signed_found e s d z h i k =
    record {
      exponent = Exponential e (s ∷ []) (take (digits_len is_digit (d ∷ z)) (d ∷ z));
      rest = drop (digits_len is_digit (d ∷ z)) (d ∷ z);
      text = ap (λ (x : Text). e ∷ s ∷ x) (sym (both_parts (digits_len is_digit (d ∷ z)) (d ∷ z)));
      is = (h, sign_text s i, must_of is_digit (d ∷ z) clear_digit k (digits_pass is_digit (d ∷ z) clear_digit));
      size = cond_yes _ _ _ (begins_signed e s d z h i k) ∙ past_two e s (d ∷ z) ∙ omega (arith, digits_length is_digit (d ∷ z));
    }

none_found : (y : Text) → begins_exponent y 0 ≡ false → Exponents y
none_found y n = record { exponent = NoExponent; rest = y; text = refl; is = tt; size = cond_no _ _ _ n }

some_found : (y : Text) → begins_exponent y 0 ≡ true → Exponents y
some_found [] h = absurd (no_truth (sym h))
some_found (e ∷ []) h = absurd (no_truth (sym h))
some_found (e ∷ d ∷ []) h =
    let b = and_second (nat_le 2 (length (e ∷ d ∷ []))) _ h in
    let m = and_first (e == 101 || e == 69) _ b in
    elim (or_split (is_digit d) _ (and_second (e == 101 || e == 69) _ b)) [
      | inl k ↦ plain_found e d [] m k
      | inr k ↦ absurd (no_truth (sym (and_second (d == 43 || d == 45) _ k)))
    ]
some_found (e ∷ d ∷ c ∷ z) h =
    let b = and_second (nat_le 2 (length (e ∷ d ∷ c ∷ z))) _ h in
    let m = and_first (e == 101 || e == 69) _ b in
    elim (or_split (is_digit d) _ (and_second (e == 101 || e == 69) _ b)) [
      | inl k ↦ plain_found e d (c ∷ z) m k
      | inr k ↦ signed_found e d c z m (and_first (d == 43 || d == 45) _ k) (and_second (d == 43 || d == 45) _ k)
    ]

pub exponents : (y : Text) → Exponents y
exponents y = elim (either (begins_exponent y 0)) [
  | inl h ↦ some_found y h
  | inr n ↦ none_found y n
]
