-- The front of a text that begins with a number in decimal and a space.
use Rattle.std.proofs.Common.{◌≡◌, ℕ, suc, ◌+◌, ◌-◌, ◌*◌, ◌/◌, ◌%◌, ◌^◌, ◌≤◌, ◌<◌, Bool, true, false, List, [], ◌∷◌, ◌++◌, length, Option, Some, None, refl, sym, ◌∙◌, ap, arith, ◌⊎◌, inl, inr, zero}
use Rattle.std.specs.Prelude.{◌==◌, nat_le, slice_index}
use Rattle.std.specs.Fmt.{decimal}
use Rattle.std.proofs.lemmas.Bool.{eq-eqb, ne_eqb, le-leb}
use Rattle.std.proofs.lemmas.Fmt.{decimal_by_steps}
use Rattle.js_lex.specs.declared.token.TokenKind.TheVariants as tok
use Rattle.js_lex.specs.declared.front.Front.TheVariants as front
use Rattle.js_lex.specs.declared.units.Class.TheVariants as class
use Rattle.js_lex.specs.Units.{Text, is_digit, is_name, digit_of, value}
use Rattle.js_lex.specs.Lists.{Every, Passes, is, some}
use Rattle.js_lex.specs.Numbers.{Digits}
use Rattle.js_lex.specs.Runs.{past_digits, at_most}
use Rattle.js_lex.specs.Values.{max_safe}
use Rattle.js_lex.specs.Front as code
use Rattle.js_lex.proofs.Truths.{cond_yes, cond_no, and_both, and_no_first, and_no_second, or_no, apart}
use Rattle.js_lex.proofs.Runs.{take_here}
use Rattle.js_lex.proofs.Separated.{digits_exact}
use Rattle.js_lex.proofs.Points.{index_at}
use Rattle.js_lex.proofs.Tails.{extent, extent_none}
use Rattle.js_lex.proofs.Decimals.{ends_behind}
use Rattle.js_lex.proofs.Fronts.{front_at}
use Rattle.js_print.proofs.TokenFirst.{digit_first}

-- ---- the digits

-- digits of n, of which the first is `0` in `0` alone
record Writes (n : ℕ) (ds : List ℕ) : Type 0 where
  digits : Every (Passes is_digit) ds
  value : value 10 0 ds ≡ n
  some : 1 ≤ length ds
  first : 0 < n → slice_index ds 0 ≡ 48 → ⊥
  zero : n ≡ 0 → length ds ≡ 1

digit_passes : (d : ℕ) → d < 10 → is_digit (48 + d) ≡ true
digit_passes d h = and_both (nat_le 48 (48 + d)) (nat_le (48 + d) 57) (le-leb 48 (48 + d) (omega arith)) (le-leb (48 + d) 57 (omega (arith, h)))

digit_is : (d : ℕ) → d < 10 → digit_of (48 + d) ≡ d
digit_is d h = cond_yes _ _ _ (digit_passes d h) ∙ omega arith

value_last : (n d : ℕ) (ds : List ℕ) → value 10 n (ds ++ d ∷ []) ≡ value 10 n ds * 10 + digit_of d
value_last n d [] = refl
value_last n d (e ∷ ds) = value_last (n * 10 + digit_of e) d ds

every_last : (d : ℕ) (ds : List ℕ) → Every (Passes is_digit) ds → is_digit d ≡ true → Every (Passes is_digit) (ds ++ d ∷ [])
every_last d [] a h = (h, tt)
every_last d (e ∷ ds) a h = (a.0, every_last d ds a.1 h)

first_last : (d : ℕ) (ds : List ℕ) → 1 ≤ length ds → slice_index (ds ++ d ∷ []) 0 ≡ slice_index ds 0
first_last d [] k = absurd (omega (arith, k))
first_last d (e ∷ ds) k = refl

some_last : (d : ℕ) (ds : List ℕ) → 1 ≤ length (ds ++ d ∷ [])
some_last d [] = omega arith
some_last d (e ∷ ds) = omega arith

one_digit : (n : ℕ) → n < 10 → Writes n ((48 + n) ∷ [])
one_digit n h =
    record {
      digits = (digit_passes n h, tt);
      value = omega (arith, digit_is n h);
      some = omega arith;
      first = λ a e. omega (arith, a, e);
      zero = λ e. refl;
    }

more_digits : (n : ℕ) (ds : List ℕ) → 10 ≤ n → Writes (n / 10) ds → Writes n (ds ++ (48 + n % 10) ∷ [])
more_digits n ds h w =
    let d = 48 + n % 10 in
    let small : n % 10 < 10 = omega arith in
    record {
      digits = every_last (48 + n % 10) ds w.digits (digit_passes (n % 10) small);
      value = value_last 0 (48 + n % 10) ds ∙ omega (arith, w.value, digit_is (n % 10) small);
      some = some_last (48 + n % 10) ds;
      first = λ a e. w.first (omega (arith, h)) (sym (first_last (48 + n % 10) ds w.some) ∙ e);
      zero = λ e. absurd (omega (arith, h, e));
    }

writes : (n : ℕ) → n < 2 ^ 64 → Writes n (decimal n)
writes n h = decimal_by_steps Writes one_digit more_digits n h

-- ---- what the code reads

digits_of_every : (w : Text) → Every (Passes is_digit) w → Digits is_digit false w
digits_of_every [] a = refl
digits_of_every (u ∷ w) a = inl (a.0, digits_of_every w a.1)

no_separator : (w : Text) → Every (Passes is_digit) w → some (is 95) w ≡ false
no_separator [] a = refl
no_separator (u ∷ w) a = or_no (u == 95) (some (is 95) w) (apart is_digit u 95 a.0 refl) (no_separator w a.1)

digit_no_radix : (u : ℕ) → is_digit u ≡ true → code.radix u ≡ None
digit_no_radix u d =
    cond_no _ _ _ (or_no (u == 120) (u == 88) (apart is_digit u 120 d refl) (apart is_digit u 88 d refl))
    ∙ cond_no _ _ _ (or_no (u == 111) (u == 79) (apart is_digit u 111 d refl) (apart is_digit u 79 d refl))
    ∙ cond_no _ _ _ (or_no (u == 98) (u == 66) (apart is_digit u 98 d refl) (apart is_digit u 66 d refl))

no_radix : (w z : Text) → Every (Passes is_digit) w → code.radix (slice_index (w ++ 32 ∷ z) 0) ≡ None
no_radix [] z a = refl
no_radix (u ∷ w) z a = digit_no_radix u a.0

no_legacy : (d : ℕ) (w z : Text) → (d ≡ 48 → w ≡ []) → code.is_legacy d (w ++ 32 ∷ z) ≡ false
no_legacy d [] z f = and_no_second (d == 48) _ refl
no_legacy d (u ∷ w) z f = and_no_first (d == 48) _ (ne_eqb d 48 (λ e. (let k = f e in cc)))

whole : (w z : Text) → Every (Passes is_digit) w → past_digits class.Digit (w ++ 32 ∷ z) 0 ≡ length w
whole w z a = omega (arith, digits_exact is_digit false w (32 ∷ z) (digits_of_every w a) refl)

no_exponent : (z : Text) → extent (32 ∷ z) ≡ 0
no_exponent z = extent_none (32 ∷ z) refl ∙ cond_no _ _ _ (and_no_second (nat_le 2 (length (32 ∷ z))) _ refl)

tail_end : (w z : Text) → code.past_exponent (w ++ 32 ∷ z) (code.past_fraction (w ++ 32 ∷ z) (length w)) ≡ length w
tail_end w z = ends_behind w (32 ∷ z) ∙ omega (arith, no_exponent z)

next_space : (w z : Text) → slice_index (w ++ 32 ∷ z) (length w) ≡ 32
next_space w z = index_at w (32 ∷ z)

integer_at : (w z : Text) (v : Option ℕ) → code.integer (w ++ 32 ∷ z) (length w) v ≡ code.sized (length w) v
integer_at w z v =
    let y = w ++ 32 ∷ z in
    cond_no _ _ _ (ap (λ (u : ℕ). u == 110) (next_space w z)) ∙ cond_no _ _ _ (ap is_name (next_space w z))

safe : (d v : ℕ) (w : Text) → Every (Passes is_digit) w → value 10 0 (d ∷ w) ≡ v → v ≤ max_safe → code.safe_value 10 (digit_of d) w ≡ Some v
safe d v w a e h =
    cond_no _ _ _ (no_separator w a) ∙ ap (at_most max_safe) (ap (λ (n : ℕ). value 10 n w) (omega arith) ∙ e) ∙ cond_yes _ _ _ (le-leb v max_safe h)

read : (d v : ℕ) (w z : Text) → Every (Passes is_digit) w → (d ≡ 48 → w ≡ []) → value 10 0 (d ∷ w) ≡ v → v ≤ max_safe → code.number d (w ++ 32 ∷ z) ≡ front.Token (tok.Number v) (length w)
read d v w z a f e h =
    let y = w ++ 32 ∷ z in
    ap (code.number_by d (w ++ 32 ∷ z)) (no_radix w z a)
    ∙ cond_no _ _ _ (no_legacy d w z f)
    ∙ ap (λ (n : ℕ). code.literal d (w ++ 32 ∷ z) n (code.past_exponent (w ++ 32 ∷ z) (code.past_fraction (w ++ 32 ∷ z) n))) (whole w z a)
    ∙ cond_yes _ _ _ (eq-eqb _ _ (tail_end w z))
    ∙ ap (λ (x : Text). code.integer (w ++ 32 ∷ z) (length w) (code.safe_value 10 (digit_of d) x)) (take_here w (32 ∷ z))
    ∙ integer_at w z (code.safe_value 10 (digit_of d) w)
    ∙ ap (code.sized (length w)) (safe d v w a e h)

lone : (n d : ℕ) (w : Text) → Writes n (d ∷ w) → d ≡ 48 → w ≡ []
lone n d [] x e = refl
lone n d (u ∷ w) x e = elim (zero_or n) [
  | inl z ↦ absurd (omega (arith, x.zero z))
  | inr s ↦ absurd (x.first s e)
]
  where
    zero_or : (n : ℕ) → (n ≡ 0) ⊎ (0 < n)
    zero_or zero = inl refl
    zero_or (suc n) = inr (omega arith)

read_digits : (h : Bool) (n : ℕ) (ds z : Text) → n ≤ max_safe → Writes n ds → front_at h (ds ++ 32 ∷ z) ≡ front.Token (tok.Number n) (length ds - 1)
read_digits h n [] z k x = absurd (omega (arith, x.some))
read_digits h n (d ∷ w) z k x = digit_first h d (w ++ 32 ∷ z) x.digits.0 ∙ read d n w z x.digits.1 (lone n d w x) x.value k ∙ ap (front.Token (tok.Number n)) (omega arith)

pub number_front : (h : Bool) (n : ℕ) (z : Text) → n ≤ max_safe → front_at h (decimal n ++ 32 ∷ z) ≡ front.Token (tok.Number n) (length (decimal n) - 1)
number_front h n z k = read_digits h n (decimal n) z k (writes n (omega (arith, k)))

pub number_some : (n : ℕ) → n ≤ max_safe → 1 ≤ length (decimal n)
number_some n k = (writes n (omega (arith, k))).some
