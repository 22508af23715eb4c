-- Numbers that begin with a digit.
use Rattle.std.proofs.Common.{◌≡◌, ℕ, zero, suc, ◌+◌, ◌*◌, ◌-◌, ◌≤◌, Bool, true, false, cond, [], ◌∷◌, ◌++◌, take, drop, length, Option, Some, None, refl, sym, ◌∙◌, ap, subst, arith, append_assoc, ◌⊎◌, inl, inr}
use Rattle.std.specs.Prelude.{◌==◌, ◌&&◌, ◌||◌, nat_le, slice_index}
use Rattle.std.proofs.lemmas.Bool.{eqb-true, eq-eqb, leb-true, leb-false}
use Rattle.std.proofs.lemmas.List.{length-append}
use Rattle.js_lex.specs.declared.token.TokenKind.TheVariants as tok
use Rattle.js_lex.specs.declared.units.Class.{Class}
use Rattle.js_lex.specs.declared.units.Class.TheVariants as class
use Rattle.js_lex.specs.declared.front.Front.{Front}
use Rattle.js_lex.specs.declared.front.Front.TheVariants as front
use Rattle.js_lex.specs.declared.front.Unread.TheVariants as bad
use Rattle.js_lex.specs.Units.{Text, is_digit, is_name, digit_of, value}
use Rattle.js_lex.specs.Runs.{is_in, past_digits, past_some, digits_len, at_most}
use Rattle.js_lex.specs.Values.{max_safe}
use Rattle.js_lex.specs.Front as code
use Rattle.js_lex.specs.Lists.{is, some}
use Rattle.js_lex.specs.Numbers.{Digits, IsInteger, Radix, Hex, Octal, Binary, radix_value, is_mark, is_digit_of, Exponent, NoExponent, Exponential, exponent_units, IsExponent, Fraction, NoFraction, Fractional, fraction_units, IsFraction, Number, Decimal, Point, Big, Based, suffix, number_units, IsNumber, digits_value, number_value}
use Rattle.js_lex.specs.Elements.{Element, White, LineEnd, LineComment, BlockComment, Word, Numeric, String, Part, Sign, units, Stands}
use Rattle.js_lex.specs.Grammar.{Reading, Token, Refused, ReadsValue, ReadsNumber}
use Rattle.js_lex.proofs.Truths.{cond_yes, cond_no, either, or_no, or_first, or_second, apart, and_first, and_second, and_no_first, and_no_second, digit_name}
use Rattle.js_lex.proofs.Which.{Which, AtNumber, which, which_number, sort}
use Rattle.js_lex.proofs.Runs.{both_parts, drop_here, one_behind}
use Rattle.js_lex.proofs.Longest.{FrontIs, front_for, sort_of, word_sort}
use Rattle.js_lex.proofs.Signs.{no_truth}
use Rattle.js_lex.proofs.Separated.{Ends, clear_digit, digits_pass, digits_least, digits_none, digits_exact, digits_length, must_of, other_ends, first_digit}
use Rattle.js_lex.proofs.Points.{index_at, not_next, head_next}
use Rattle.js_lex.proofs.Tails.{extent, extent_none, tail_bound}
use Rattle.js_lex.proofs.Decimals.{behind, behind_is, decimal_bound, decimals, ends_behind}
use Rattle.js_lex.proofs.Exponents.{plus_suc}
use Rattle.js_lex.proofs.NumberValues.{class_of, clear_radix, mark_radix, mark_no, by_mark, no_suffix, base_of}

-- ---- what is read

record Read (n : Number) (rest : Text) (f : Front) : Type 0 where
  reading : Reading
  reads : ReadsNumber n rest reading
  is : f ≡ front_for reading (length (number_units n))

ended_read : (n : Number) (z : Text) (at : ℕ) (rest : Text) (f : Front) (r : Reading) → slice_index z at ≡ slice_index rest 0 → ReadsValue (number_value n) r → f ≡ front_for r (length (number_units n)) → Read n rest (code.ended z at f)
ended_read n z at rest f r k v i = elim (either (is_name (slice_index rest 0))) [
  | inl y ↦ record { reading = Refused bad.Syntax; reads = inr ((λ a. no_truth (sym y ∙ not_next is_name rest refl a)), refl); is = cond_yes _ _ _ (ap is_name k ∙ y) }
  | inr m ↦ record { reading = r; reads = inl (head_next is_name rest m, v); is = cond_no _ _ _ (ap is_name k ∙ m) ∙ i }
]

ended_none : (n : Number) (z : Text) (at : ℕ) (rest : Text) → slice_index z at ≡ slice_index rest 0 → number_value n ≡ None → Read n rest (code.ended z at (front.Bad bad.Number))
ended_none n z at rest k v = ended_read n z at rest (front.Bad bad.Number) (Refused bad.Number) k (subst (λ (o : Option ℕ). ReadsValue o (Refused bad.Number)) (sym v) refl) refl

abbrev SizedIs : Option ℕ → Option ℕ → ℕ → Type 0
SizedIs o v m = (r : Reading) × ReadsValue o r × (code.sized m v ≡ front_for r (suc m))

safe_at : (x m : ℕ) (b : Bool) → nat_le x max_safe ≡ b → SizedIs (Some x) (cond b (Some x) None) m
safe_at x m true e = (Token (tok.Number x), inl (leb-true x max_safe e, refl), ap (front.Token (tok.Number x)) (omega arith))
safe_at x m false e = (Refused bad.Number, inr (leb-false x max_safe e, refl), refl)

sized_at : (s : Bool) (x m : ℕ) → SizedIs (cond s None (Some x)) (cond s None (at_most max_safe x)) m
sized_at true x m = (Refused bad.Number, refl, refl)
sized_at false x m = safe_at x m (nat_le x max_safe) refl

-- ---- no longer number stands at the front

abbrev NumberBound : ℕ → Text → ℕ → Type 0
NumberBound u z k = (m : Number) (more : Text) → which_number m ≡ AtNumber → IsNumber m → number_units m ++ more ≡ u ∷ z → length (number_units m) ≤ k

number_most : (h : Bool) (f : Element) (u : ℕ) (z : Text) (k : ℕ) (more : Text) → NumberBound u z k → sort f more ≡ AtNumber → Stands h f more → units f ++ more ≡ u ∷ z → length (units f) ≤ k
number_most h (Numeric n) u z k more b e s t = b n more e s t
number_most h (Sign w p) u z k more b e s t = absurd (word_sort (λ (x : Which). x ≡ AtNumber → ⊥) (λ e. cc) (λ e. cc) (λ e. cc) w more e)
number_most h (White v) u z k more b e s t = cc
number_most h (LineEnd v) u z k more b e s t = cc
number_most h (LineComment w) u z k more b e s t = cc
number_most h (BlockComment w) u z k more b e s t = cc
number_most h (Word v w) u z k more b e s t = cc
number_most h (String d cs) u z k more b e s t = cc
number_most h (Part c cs x) u z k more b e s t = cc

found_number : (h : Bool) (u : ℕ) (z : Text) (n : Number) (rest : Text) (f : Front) → which h u z ≡ AtNumber → u ∷ z ≡ number_units n ++ rest → IsNumber n → NumberBound u z (length (number_units n)) → Read n rest f → FrontIs h (u ∷ z) f
found_number h u z n rest f w t i b r = inl (record {
  element = Numeric n;
  rest = rest;
  reading = r.reading;
  begins = record {
    is_text = t;
    stands = i;
    longest = λ x more s k. number_most h x u z (length (number_units n)) more b (sort_of h x more u z s (k ∙ sym t) ∙ w) s (k ∙ sym t);
  };
  reads = r.reads;
  is = r.is;
})

-- the integer 0 alone
zero_short : (ds w more z : Text) → IsInteger ds → (ds ++ w) ++ more ≡ 48 ∷ z → (ds ≡ 48 ∷ []) × (w ++ more ≡ z)
zero_short [] w more z i k = absurd i
zero_short (d ∷ ds) w more z i k =
    let q : d ≡ 48 = cc in
    let t : (ds ++ w) ++ more ≡ z = cc in
    let n = i.2 (eq-eqb d 48 q) in
    (ap (λ (v : Text). d ∷ v) n ∙ ap (λ (v : ℕ). v ∷ []) q, ap (λ (v : Text). (v ++ w) ++ more) (sym n) ∙ t)

tail_none : (f : Fraction) (x : Exponent) (more z : Text) → IsFraction f → IsExponent x → (fraction_units f ++ exponent_units x) ++ more ≡ z → length (fraction_units f ++ exponent_units x) ≤ extent z
tail_none f x more z i k t = subst (λ (y : Text). length (fraction_units f ++ exponent_units x) ≤ extent y) t (tail_bound f x more i k)

zero_decimal : (ds : Text) (f : Fraction) (x : Exponent) (more z : Text) (k : ℕ) → IsNumber (Decimal ds f x) → number_units (Decimal ds f x) ++ more ≡ 48 ∷ z → extent z ≡ 0 → 1 ≤ k → length (number_units (Decimal ds f x)) ≤ k
zero_decimal ds f x more z k i t e l =
    let w = fraction_units f ++ exponent_units x in
    let s = zero_short ds (fraction_units f ++ exponent_units x) more z i.0 t in
    let n = tail_none f x more z i.1 i.2 s.1 in
    let one = ap length s.0 in
    omega (arith, e, n, l, one, length-append ds (fraction_units f ++ exponent_units x))

zero_big : (ds more z : Text) (k : ℕ) → IsInteger ds → (ds ++ 110 ∷ []) ++ more ≡ 48 ∷ z → ((slice_index z 0 == 110) ≡ true → 2 ≤ k) → length (ds ++ 110 ∷ []) ≤ k
zero_big ds more z k i t l =
    let s = zero_short ds (110 ∷ []) more z i t in
    let head : slice_index z 0 ≡ 110 = ap (λ (y : Text). slice_index y 0) (sym s.1) in
    let two = l (eq-eqb (slice_index z 0) 110 head) in
    let one = ap length s.0 in
    omega (arith, two, one, length-append ds (110 ∷ []))

-- no digits of a base behind the first unit
abbrev NoBase : Text → Type 0
NoBase z = (r : Radix) → is_mark r (slice_index z 0) ≡ true → is_digit_of r (slice_index z 1) ≡ false

no_based : (r : Radix) (m : ℕ) (ds more z : Text) (b : Bool) → NoBase z → is_mark r m ≡ true → Digits (is_digit_of r) true ds → 48 ∷ m ∷ ((ds ++ suffix b) ++ more) ≡ 48 ∷ z → ⊥
no_based r m [] more z b n i d t = no_truth d
no_based r m (d ∷ ds) more z b n i j t =
    let k : m ∷ d ∷ ((ds ++ suffix b) ++ more) ≡ z = cc in
    let x : is_mark r (slice_index z 0) ≡ true = ap (λ (y : Text). is_mark r (slice_index y 0)) (sym k) ∙ i in
    let y : is_digit_of r (slice_index z 1) ≡ true = ap (λ (y : Text). is_digit_of r (slice_index y 1)) (sym k) ∙ (first_digit (is_digit_of r) d ds j).0 in
    no_truth (sym y ∙ n r x)

zero_bound : (z : Text) → extent z ≡ 0 → (slice_index z 0 == 110) ≡ false → NoBase z → NumberBound 48 z 1
zero_bound z e n b (Decimal ds f x) more w i t = zero_decimal ds f x more z 1 i t e (omega arith)
zero_bound z e n b (Big ds) more w i t = zero_big ds more z 1 i t (λ y. absurd (no_truth (sym y ∙ n)))
zero_bound z e n b (Based r m ds c) more w i t = absurd (no_based r m ds more z c b i.0 i.1 t)
zero_bound z e n b (Point fs x) more w i t = cc

abbrev zero_alone : Number
zero_alone = Decimal (48 ∷ []) NoFraction NoExponent

-- `0` where a name begins behind it
found_zero : (h : Bool) (z : Text) → which h 48 z ≡ AtNumber → is_name (slice_index z 0) ≡ true → extent z ≡ 0 → (slice_index z 0 == 110) ≡ false → NoBase z → FrontIs h (48 ∷ z) (front.Bad bad.Syntax)
found_zero h z w y e n b =
    found_number h 48 z zero_alone z (front.Bad bad.Syntax) w refl ((refl, refl, λ x. refl), tt, tt) (zero_bound z e n b) (record { reading = Refused bad.Syntax; reads = inr ((λ a. no_truth (sym y ∙ not_next is_name z refl a)), refl); is = refl })

no_extent : (z : Text) → (slice_index z 0 == 46) ≡ false → (slice_index z 0 == 101) ≡ false → (slice_index z 0 == 69) ≡ false → extent z ≡ 0
no_extent z a b c =
    extent_none z a ∙ cond_no _ _ _ (and_no_second (nat_le 2 (length z)) _ (and_no_first (slice_index z 0 == 101 || slice_index z 0 == 69) _ (or_no _ _ b c)))

-- ---- `0` before a digit or a separator

abbrev legacy : ℕ → Bool
legacy c = is_digit c || c == 95

legacy_no_mark : (c : ℕ) → legacy c ≡ true → (r : Radix) → is_mark r c ≡ true → ⊥
legacy_no_mark c l r m = no_truth (sym l ∙ mark_no legacy r c m refl refl refl refl refl refl)

legacy_name : (c : ℕ) → legacy c ≡ true → is_name c ≡ true
legacy_name c l = elim (either (is_digit c)) [
  | inl d ↦ digit_name c d
  | inr n ↦ (let e : (c == 95) ≡ true = ap (λ (r : Bool). r || c == 95) (sym n) ∙ l in ap is_name (eqb-true c 95 e))
]

found_legacy : (h : Bool) (z : Text) → which h 48 z ≡ AtNumber → legacy (slice_index z 0) ≡ true → FrontIs h (48 ∷ z) (front.Bad bad.Syntax)
found_legacy h z w l =
    let c = slice_index z 0 in
    found_zero h z w (legacy_name (slice_index z 0) l) (no_extent z (apart legacy (slice_index z 0) 46 l refl) (apart legacy (slice_index z 0) 101 l refl) (apart legacy (slice_index z 0) 69 l refl)) (apart legacy (slice_index z 0) 110 l refl) (λ r m. absurd (legacy_no_mark (slice_index z 0) l r m))

-- ---- `0` and the letter of a base

mark_name : (r : Radix) (m : ℕ) → is_mark r m ≡ true → is_name m ≡ true
mark_name Hex m h = by_mark (λ (n : ℕ). is_name n ≡ true) 120 88 m h refl refl
mark_name Octal m h = by_mark (λ (n : ℕ). is_name n ≡ true) 111 79 m h refl refl
mark_name Binary m h = by_mark (λ (n : ℕ). is_name n ≡ true) 98 66 m h refl refl

mark_extent : (r : Radix) (m : ℕ) (y : Text) → is_mark r m ≡ true → extent (m ∷ y) ≡ 0
mark_extent r m y h = no_extent (m ∷ y) (mark_no (is 46) r m h refl refl refl refl refl refl) (mark_no (is 101) r m h refl refl refl refl refl refl) (mark_no (is 69) r m h refl refl refl refl refl refl)

same_mark : (r s : Radix) (m : ℕ) → is_mark r m ≡ true → is_mark s m ≡ true → r ≡ s
same_mark Hex Hex m h k = refl
same_mark Hex Octal m h k = absurd (no_truth (sym k ∙ by_mark (λ (n : ℕ). is_mark Octal n ≡ false) 120 88 m h refl refl))
same_mark Hex Binary m h k = absurd (no_truth (sym k ∙ by_mark (λ (n : ℕ). is_mark Binary n ≡ false) 120 88 m h refl refl))
same_mark Octal Hex m h k = absurd (no_truth (sym k ∙ by_mark (λ (n : ℕ). is_mark Hex n ≡ false) 111 79 m h refl refl))
same_mark Octal Octal m h k = refl
same_mark Octal Binary m h k = absurd (no_truth (sym k ∙ by_mark (λ (n : ℕ). is_mark Binary n ≡ false) 111 79 m h refl refl))
same_mark Binary Hex m h k = absurd (no_truth (sym k ∙ by_mark (λ (n : ℕ). is_mark Hex n ≡ false) 98 66 m h refl refl))
same_mark Binary Octal m h k = absurd (no_truth (sym k ∙ by_mark (λ (n : ℕ). is_mark Octal n ≡ false) 98 66 m h refl refl))
same_mark Binary Binary m h k = refl

-- no digits are read where the letter of a base stands before no digit of it
no_base : (r : Radix) (m : ℕ) (y : Text) → is_mark r m ≡ true → is_digit_of r (slice_index y 0) ≡ false → NoBase (m ∷ y)
no_base r m y h d s k = subst (λ (x : Radix). is_digit_of x (slice_index y 0) ≡ false) (same_mark r s m h k) d

found_no_base : (h : Bool) (r : Radix) (m : ℕ) (y : Text) → which h 48 (m ∷ y) ≡ AtNumber → is_mark r m ≡ true → is_digit_of r (slice_index y 0) ≡ false → FrontIs h (48 ∷ m ∷ y) (front.Bad bad.Syntax)
found_no_base h r m y w k d =
    found_zero h (m ∷ y) w (mark_name r m k) (mark_extent r m y k) (mark_no (is 110) r m k refl refl refl refl refl refl) (no_base r m y k d)

abbrev run_of : Radix → Text → ℕ
run_of r y = digits_len (is_digit_of r) y

suffix_ends : (r : Radix) (more : Text) → Ends (is_digit_of r) (110 ∷ more)
suffix_ends r more = other_ends (is_digit_of r) 110 more (no_suffix r) refl

-- how long digits with their suffix are
based_most : (r : Radix) (ds more y : Text) (b : Bool) (k : ℕ) → Digits (is_digit_of r) true ds → (ds ++ suffix b) ++ more ≡ y → run_of r y ≤ k → ((slice_index (drop (run_of r y) y) 0 == 110) ≡ true → run_of r y + 1 ≤ k) → length (ds ++ suffix b) ≤ k
based_most r ds more y false k d t l s =
    let a = digits_least (is_digit_of r) true ds more d in
    let e : run_of r (ds ++ more) ≡ run_of r y = ap (run_of r) (sym (append_assoc ds [] more) ∙ t) in
    omega (arith, a, e, l, length-append ds [])
based_most r ds more y true k d t l s =
    let e : ds ++ 110 ∷ more ≡ y = sym (append_assoc ds (110 ∷ []) more) ∙ t in
    let n : run_of r y ≡ length ds = ap (run_of r) (sym e) ∙ digits_exact (is_digit_of r) true ds (110 ∷ more) d (suffix_ends r more) in
    let head : slice_index (drop (run_of r y) y) 0 ≡ 110 = ap (λ (m : ℕ). slice_index (drop m y) 0) n ∙ ap (λ (x : Text). slice_index (drop (length ds) x) 0) (sym e) ∙ ap (λ (x : Text). slice_index x 0) (drop_here ds (110 ∷ more)) in
    let most = s (eq-eqb _ 110 head) in
    omega (arith, most, n, length-append ds (110 ∷ []))

based_bound : (r : Radix) (m : ℕ) (y : Text) (k : ℕ) → is_mark r m ≡ true → run_of r y ≤ k → ((slice_index (drop (run_of r y) y) 0 == 110) ≡ true → run_of r y + 1 ≤ k) → NumberBound 48 (m ∷ y) (2 + k)
based_bound r m y k h l s (Decimal ds f x) more w i t = zero_decimal ds f x more (m ∷ y) (2 + k) i t (mark_extent r m y h) (omega arith)
based_bound r m y k h l s (Big ds) more w i t = zero_big ds more (m ∷ y) (2 + k) i t (λ e. omega arith)
based_bound r m y k h l s (Point fs x) more w i t = cc
based_bound r m y k h l s (Based q c ds b) more w i t =
    let e : c ≡ m = cc in
    let u : (ds ++ suffix b) ++ more ≡ y = cc in
    let same = same_mark q r m (subst (λ (n : ℕ). is_mark q n ≡ true) e i.0) h in
    let d : Digits (is_digit_of r) true ds = subst (λ (x : Radix). Digits (is_digit_of x) true ds) same i.1 in
    let most = based_most r ds more y b k d u l s in
    omega (arith, most)

rest_big : (w : Text) → (slice_index w 0 == 110) ≡ true → w ≡ 110 ∷ drop 1 w
rest_big [] h = absurd (no_truth (sym h))
rest_big (u ∷ w) h = ap (λ (n : ℕ). n ∷ w) (eqb-true u 110 h)

rest_head : (w : Text) → slice_index w 1 ≡ slice_index (drop 1 w) 0
rest_head [] = refl
rest_head (u ∷ w) = refl

-- behind a front
index_more : (a y : Text) (n : ℕ) → slice_index (a ++ y) (length a + n) ≡ slice_index y n
index_more [] y n = ap (slice_index y) (omega arith)
index_more (u ∷ a) y n = ap (slice_index (u ∷ (a ++ y))) (plus_suc (length a) n) ∙ index_more a y n

based_big : (h : Bool) (r : Radix) (m : ℕ) (y : Text) → which h 48 (m ∷ y) ≡ AtNumber → is_mark r m ≡ true → Digits (is_digit_of r) true (take (run_of r y) y) → length (take (run_of r y) y) ≡ run_of r y → (slice_index (drop (run_of r y) y) 0 == 110) ≡ true → FrontIs h (48 ∷ m ∷ y) (code.ended (m ∷ y) (1 + run_of r y + 1) (front.Bad bad.Number))
based_big h r m y w k are size e110 =
    let text : y ≡ (take (run_of r y) y ++ 110 ∷ []) ++ drop 1 (drop (run_of r y) y) = sym (both_parts (run_of r y) y) ∙ ap (λ (x : Text). take (run_of r y) y ++ x) (rest_big (drop (run_of r y) y) e110) ∙ sym (append_assoc (take (run_of r y) y) (110 ∷ []) (drop 1 (drop (run_of r y) y))) in
    let long : 2 + (run_of r y + 1) ≡ length (number_units (Based r m (take (run_of r y) y) true)) = omega (arith, size, length-append (take (run_of r y) y) (110 ∷ [])) in
    let there : 1 + run_of r y + 1 ≡ suc (length (take (run_of r y) y) + 1) = omega (arith, size) in
    let at : slice_index (m ∷ y) (1 + run_of r y + 1) ≡ slice_index (drop 1 (drop (run_of r y) y)) 0 =
    ap (slice_index (m ∷ y)) there ∙ ap (λ (x : Text). slice_index x (length (take (run_of r y) y) + 1)) (sym (both_parts (run_of r y) y)) ∙ index_more (take (run_of r y) y) (drop (run_of r y) y) 1 ∙ rest_head (drop (run_of r y) y) in
    found_number h 48 (m ∷ y) (Based r m (take (run_of r y) y) true) (drop 1 (drop (run_of r y) y)) _ w (ap (λ (x : Text). 48 ∷ m ∷ x) text) (k, are)
    (subst (NumberBound 48 (m ∷ y)) long (based_bound r m y (run_of r y + 1) k (omega arith) (λ e. omega arith)))
    (ended_none (Based r m (take (run_of r y) y) true) (m ∷ y) (1 + run_of r y + 1) (drop 1 (drop (run_of r y) y)) at refl)

based_plain : (h : Bool) (r : Radix) (m : ℕ) (y : Text) → which h 48 (m ∷ y) ≡ AtNumber → is_mark r m ≡ true → Digits (is_digit_of r) true (take (run_of r y) y) → length (take (run_of r y) y) ≡ run_of r y → slice_index (m ∷ y) (1 + run_of r y) ≡ slice_index (drop (run_of r y) y) 0 → (slice_index (drop (run_of r y) y) 0 == 110) ≡ false → FrontIs h (48 ∷ m ∷ y) (code.ended (m ∷ y) (1 + run_of r y) (code.sized (1 + run_of r y) (code.safe_value (radix_value r) 0 (take (run_of r y) y))))
based_plain h r m y w k are size index n110 =
    let text : y ≡ (take (run_of r y) y ++ []) ++ drop (run_of r y) y = sym (both_parts (run_of r y) y) ∙ sym (append_assoc (take (run_of r y) y) [] (drop (run_of r y) y)) in
    let long : 2 + run_of r y ≡ length (number_units (Based r m (take (run_of r y) y) false)) = omega (arith, size, length-append (take (run_of r y) y) []) in
    let v = sized_at (some (is 95) (take (run_of r y) y)) (value (radix_value r) 0 (take (run_of r y) y)) (1 + run_of r y) in
    found_number h 48 (m ∷ y) (Based r m (take (run_of r y) y) false) (drop (run_of r y) y) _ w (ap (λ (x : Text). 48 ∷ m ∷ x) text) (k, are)
    (subst (NumberBound 48 (m ∷ y)) long (based_bound r m y (run_of r y) k (omega arith) (λ e. absurd (no_truth (sym e ∙ n110)))))
    (ended_read (Based r m (take (run_of r y) y) false) (m ∷ y) (1 + run_of r y) (drop (run_of r y) y) _ v.0 index v.1 (v.2 ∙ ap (front_for v.0) (omega (arith, long))))

by_cond : {A : Type 0} (P : A → Type 0) (r : Bool) (x y : A) → (r ≡ true → P x) → (r ≡ false → P y) → P (cond r x y)
by_cond P true x y f g = f refl
by_cond P false x y f g = g refl

found_based : (h : Bool) (r : Radix) (m : ℕ) (y : Text) → which h 48 (m ∷ y) ≡ AtNumber → is_mark r m ≡ true → is_digit_of r (slice_index y 0) ≡ true → FrontIs h (48 ∷ m ∷ y) (code.integer (m ∷ y) (1 + run_of r y) (code.safe_value (radix_value r) 0 (take (run_of r y) y)))
found_based h r m y w k d =
    let are : Digits (is_digit_of r) true (take (run_of r y) y) = must_of (is_digit_of r) y (clear_radix r) d (digits_pass (is_digit_of r) y (clear_radix r)) in
    let size : length (take (run_of r y) y) ≡ run_of r y = digits_length (is_digit_of r) y in
    let text : y ≡ take (run_of r y) y ++ drop (run_of r y) y = sym (both_parts (run_of r y) y) in
    let index : slice_index (m ∷ y) (1 + run_of r y) ≡ slice_index (drop (run_of r y) y) 0 =
    ap (slice_index (m ∷ y)) (one_behind (run_of r y)) ∙ ap (slice_index y) (sym size) ∙ ap (λ (x : Text). slice_index x (length (take (run_of r y) y))) text ∙ index_at (take (run_of r y) y) (drop (run_of r y) y) in
    by_cond (FrontIs h (48 ∷ m ∷ y)) (slice_index (m ∷ y) (1 + run_of r y) == 110) _ _ (λ e110. based_big h r m y w k are size (ap (λ (c : ℕ). c == 110) (sym index) ∙ e110)) (λ n110. based_plain h r m y w k are size index (ap (λ (c : ℕ). c == 110) (sym index) ∙ n110))

-- ---- decimals

-- no letter of a base stands behind `0`
abbrev NoMark : ℕ → Text → Type 0
NoMark u z = (r : Radix) → u ≡ 48 → is_mark r (slice_index z 0) ≡ true → ⊥

abbrev count : Text → ℕ
count z = digits_len is_digit z

big_at : (ds more z : Text) → Digits is_digit false ds → ds ++ 110 ∷ more ≡ z → (count z ≡ length ds) × (slice_index (behind z) 0 ≡ 110)
big_at ds more z d t =
    let ends : Ends is_digit (110 ∷ more) = other_ends is_digit 110 more refl refl in
    (ap count (sym t) ∙ digits_exact is_digit false ds (110 ∷ more) d ends, ap (λ (x : Text). slice_index (behind x) 0) (sym t) ∙ ap (λ (x : Text). slice_index x 0) (behind_is ds (110 ∷ more) d ends))

decimal_most : (ds : Text) (f : Fraction) (x : Exponent) (more z : Text) → Digits is_digit false ds → IsFraction f → IsExponent x → (ds ++ (fraction_units f ++ exponent_units x)) ++ more ≡ z → length (ds ++ (fraction_units f ++ exponent_units x)) ≤ count z + extent (behind z)
decimal_most ds f x more z d i k t = subst (λ (y : Text). length (ds ++ (fraction_units f ++ exponent_units x)) ≤ count y + extent (behind y)) t (decimal_bound ds f x more d i k)

digits_most : (u : ℕ) (z : Text) (k : ℕ) → NoMark u z → 1 + (count z + extent (behind z)) ≤ k → ((slice_index (behind z) 0 == 110) ≡ true → 1 + (count z + 1) ≤ k) → NumberBound u z k
digits_most u z k n l s (Decimal [] f x) more w i t = absurd i.0
digits_most u z k n l s (Decimal (d ∷ ds) f x) more w i t =
    let e : (ds ++ (fraction_units f ++ exponent_units x)) ++ more ≡ z = cc in
    let most = decimal_most ds f x more z i.0.1 i.1 i.2 e in
    omega (arith, most, l)
digits_most u z k n l s (Big []) more w i t = absurd i
digits_most u z k n l s (Big (d ∷ ds)) more w i t =
    let e : (ds ++ 110 ∷ []) ++ more ≡ z = cc in
    let b = big_at ds more z i.1 (sym (append_assoc ds (110 ∷ []) more) ∙ e) in
    let most = s (eq-eqb _ 110 b.1) in
    omega (arith, most, b.0, length-append ds (110 ∷ []))
digits_most u z k n l s (Point fs x) more w i t = cc
digits_most u z k n l s (Based r m ds b) more w i t =
    let e : u ≡ 48 = cc in
    let y : m ∷ ((ds ++ suffix b) ++ more) ≡ z = cc in
    absurd (n r e (ap (λ (x : Text). is_mark r (slice_index x 0)) (sym y) ∙ i.0))

no_value : (ds : Text) (f : Fraction) (x : Exponent) → 1 ≤ length (fraction_units f ++ exponent_units x) → number_value (Decimal ds f x) ≡ None
no_value ds NoFraction NoExponent l = absurd (omega (arith, l))
no_value ds NoFraction (Exponential e s xs) l = refl
no_value ds (Fractional fs) x l = refl

-- the digits behind the first one, of an integer
abbrev IsRest : ℕ → Text → Type 0
IsRest u z = (u == 48) ≡ true → count z ≡ 0

integer_at : (u : ℕ) (z : Text) → is_digit u ≡ true → IsRest u z → IsInteger (u ∷ take (count z) z)
integer_at u z d r = (d, digits_pass is_digit z clear_digit, λ e. ap (λ (n : ℕ). take n z) (r e))

rest_big_is : (z : Text) → (slice_index (behind z) 0 == 110) ≡ true → z ≡ (take (count z) z ++ 110 ∷ []) ++ drop 1 (behind z)
rest_big_is z e = sym (both_parts (count z) z) ∙ ap (λ (x : Text). take (count z) z ++ x) (rest_big (behind z) e) ∙ sym (append_assoc (take (count z) z) (110 ∷ []) (drop 1 (behind z)))

digits_big : (h : Bool) (u : ℕ) (z : Text) → which h u z ≡ AtNumber → is_digit u ≡ true → IsRest u z → NoMark u z → extent (behind z) ≡ 0 → (slice_index (behind z) 0 == 110) ≡ true → FrontIs h (u ∷ z) (code.ended z (count z + 1) (front.Bad bad.Number))
digits_big h u z w d r n x e =
    let size = digits_length is_digit z in
    let long : 1 + (count z + 1) ≡ length (number_units (Big (u ∷ take (count z) z))) = omega (arith, size, length-append (take (count z) z) (110 ∷ [])) in
    let at : slice_index z (count z + 1) ≡ slice_index (drop 1 (behind z)) 0 =
    ap (λ (k : ℕ). slice_index z (k + 1)) (sym size) ∙ ap (λ (y : Text). slice_index y (length (take (count z) z) + 1)) (sym (both_parts (count z) z)) ∙ index_more (take (count z) z) (behind z) 1 ∙ rest_head (behind z) in
    found_number h u z (Big (u ∷ take (count z) z)) (drop 1 (behind z)) _ w (ap (λ (y : Text). u ∷ y) (rest_big_is z e)) (integer_at u z d r)
    (subst (NumberBound u z) long (digits_most u z (1 + (count z + 1)) n (omega (arith, x)) (λ y. omega arith)))
    (ended_none (Big (u ∷ take (count z) z)) z (count z + 1) (drop 1 (behind z)) at refl)

digit_no_separator : (u : ℕ) → is_digit u ≡ true → (u == 95) ≡ false
digit_no_separator u d = apart is_digit u 95 d refl

first_value : (u : ℕ) (ds : Text) → is_digit u ≡ true → SizedIs (digits_value 10 (u ∷ ds)) (code.safe_value 10 (digit_of u) ds) (length ds)
first_value u ds d =
    let v = sized_at (some (is 95) ds) (value 10 (digit_of u) ds) (length ds) in
    let same : digits_value 10 (u ∷ ds) ≡ cond (some (is 95) ds) None (Some (value 10 (digit_of u) ds)) =
    ap (λ (b : Bool). cond (b || some (is 95) ds) None (Some (value 10 (0 * 10 + digit_of u) ds))) (digit_no_separator u d)
    ∙ ap (λ (n : ℕ). cond (some (is 95) ds) None (Some (value 10 n ds))) (omega arith) in
    (v.0, subst (λ (o : Option ℕ). ReadsValue o v.0) (sym same) v.1, v.2)

digits_plain : (h : Bool) (u : ℕ) (z : Text) → which h u z ≡ AtNumber → is_digit u ≡ true → IsRest u z → NoMark u z → extent (behind z) ≡ 0 → (slice_index (behind z) 0 == 110) ≡ false → FrontIs h (u ∷ z) (code.ended z (count z) (code.sized (count z) (code.safe_value 10 (digit_of u) (take (count z) z))))
digits_plain h u z w d r n x e =
    let size = digits_length is_digit z in
    let long : 1 + count z ≡ length (number_units (Decimal (u ∷ take (count z) z) NoFraction NoExponent)) = omega (arith, size, length-append (take (count z) z) []) in
    let at : slice_index z (count z) ≡ slice_index (behind z) 0 =
    ap (slice_index z) (sym size) ∙ ap (λ (y : Text). slice_index y (length (take (count z) z))) (sym (both_parts (count z) z)) ∙ index_at (take (count z) z) (behind z) in
    let v = first_value u (take (count z) z) d in
    found_number h u z (Decimal (u ∷ take (count z) z) NoFraction NoExponent) (behind z) _ w
    (ap (λ (y : Text). u ∷ y) (sym (both_parts (count z) z) ∙ sym (append_assoc (take (count z) z) [] (behind z)))) (integer_at u z d r, tt, tt)
    (subst (NumberBound u z) long (digits_most u z (1 + count z) n (omega (arith, x)) (λ y. absurd (no_truth (sym y ∙ e)))))
    (ended_read (Decimal (u ∷ take (count z) z) NoFraction NoExponent) z (count z) (behind z) _ v.0 at v.1 (ap (λ (k : ℕ). code.sized k (code.safe_value 10 (digit_of u) (take (count z) z))) (sym size) ∙ v.2 ∙ ap (front_for v.0) (omega (arith, size, long))))

digits_longer : (h : Bool) (u : ℕ) (z : Text) → which h u z ≡ AtNumber → is_digit u ≡ true → IsRest u z → NoMark u z → 1 ≤ extent (behind z) → FrontIs h (u ∷ z) (code.ended z (count z + extent (behind z)) (front.Bad bad.Number))
digits_longer h u z w d r n x =
    let t = decimals z in
    let size = digits_length is_digit z in
    let long : 1 + (count z + extent (behind z)) ≡ length (number_units (Decimal (u ∷ take (count z) z) t.fraction t.exponent)) = omega (arith, t.size) in
    let some_tail : 1 ≤ length (fraction_units t.fraction ++ exponent_units t.exponent) = omega (arith, x, t.size, size, length-append (take (count z) z) (fraction_units t.fraction ++ exponent_units t.exponent)) in
    let at : slice_index z (count z + extent (behind z)) ≡ slice_index t.rest 0 =
    ap (slice_index z) (sym t.size) ∙ ap (λ (y : Text). slice_index y (length (take (count z) z ++ (fraction_units t.fraction ++ exponent_units t.exponent)))) t.text ∙ index_at (take (count z) z ++ (fraction_units t.fraction ++ exponent_units t.exponent)) t.rest in
    found_number h u z (Decimal (u ∷ take (count z) z) t.fraction t.exponent) t.rest _ w (ap (λ (y : Text). u ∷ y) t.text) (integer_at u z d r, t.is_fraction, t.is_exponent)
    (subst (NumberBound u z) long (digits_most u z (1 + (count z + extent (behind z))) n (omega arith) (λ y. omega (arith, x))))
    (ended_none (Decimal (u ∷ take (count z) z) t.fraction t.exponent) z (count z + extent (behind z)) t.rest at (no_value (u ∷ take (count z) z) t.fraction t.exponent some_tail))

-- ---- what the code tells

whole_is : (z : Text) → past_digits class.Digit z 0 ≡ count z
whole_is z = omega arith

end_is : (z : Text) → code.past_exponent z (code.past_fraction z (count z)) ≡ count z + extent (behind z)
end_is z =
    let size = digits_length is_digit z in
    ap (λ (k : ℕ). code.past_exponent z (code.past_fraction z k)) (sym size)
    ∙ ap (λ (y : Text). code.past_exponent y (code.past_fraction y (length (take (count z) z)))) (sym (both_parts (count z) z))
    ∙ ends_behind (take (count z) z) (behind z) ∙ omega (arith, size)

digits_are : (u : ℕ) (z : Text) → code.digits u z ≡ code.literal u z (count z) (count z + extent (behind z))
digits_are u z =
    ap (λ (k : ℕ). code.literal u z k (code.past_exponent z (code.past_fraction z k))) (whole_is z) ∙ ap (code.literal u z (count z)) (end_is z)

index_behind : (z : Text) → slice_index z (count z) ≡ slice_index (behind z) 0
index_behind z =
    ap (slice_index z) (sym (digits_length is_digit z)) ∙ ap (λ (y : Text). slice_index y (length (take (count z) z))) (sym (both_parts (count z) z)) ∙ index_at (take (count z) z) (behind z)

some_extent : (n e : ℕ) → (n + e == n) ≡ false → 1 ≤ e
some_extent n zero h = absurd (no_truth (sym (eq-eqb (n + 0) n (omega arith)) ∙ h))
some_extent n (suc e) h = omega arith

literal_found : (h : Bool) (u : ℕ) (z : Text) → which h u z ≡ AtNumber → is_digit u ≡ true → IsRest u z → NoMark u z → FrontIs h (u ∷ z) (code.literal u z (count z) (count z + extent (behind z)))
literal_found h u z w d r n =
    by_cond (FrontIs h (u ∷ z)) (count z + extent (behind z) == count z) _ _
    (λ e. let x : extent (behind z) ≡ 0 = omega (arith, eqb-true (count z + extent (behind z)) (count z) e) in
    by_cond (FrontIs h (u ∷ z)) (slice_index z (count z) == 110) _ _
    (λ y. digits_big h u z w d r n x (ap (λ (c : ℕ). c == 110) (sym (index_behind z)) ∙ y))
    (λ y. digits_plain h u z w d r n x (ap (λ (c : ℕ). c == 110) (sym (index_behind z)) ∙ y)))
    (λ e. digits_longer h u z w d r n (some_extent (count z) (extent (behind z)) e))

none_on : (z : Text) → legacy (slice_index z 0) ≡ false → count z ≡ 0
none_on [] l = refl
none_on (c ∷ z) l = digits_none is_digit (c ∷ z) (or_no (is_digit c) _ (or_first (is_digit c) (c == 95) l) (and_no_first (c == 95) _ (or_second (is_digit c) (c == 95) l)))

no_legacy : (u : ℕ) (z : Text) → code.is_legacy u z ≡ false → IsRest u z
no_legacy u z l = λ e. none_on z (ap (λ (b : Bool). b && legacy (slice_index z 0)) (sym e) ∙ l)

decimal_found : (h : Bool) (u : ℕ) (z : Text) → which h u z ≡ AtNumber → is_digit u ≡ true → NoMark u z → FrontIs h (u ∷ z) (code.decimal u z)
decimal_found h u z w d n =
    by_cond (FrontIs h (u ∷ z)) (code.is_legacy u z) _ _
    (λ e. let q = eqb-true u 48 (and_first (u == 48) (legacy (slice_index z 0)) e) in
    subst (λ (v : ℕ). FrontIs h (v ∷ z) (front.Bad bad.Syntax)) (sym q) (found_legacy h z (subst (λ (v : ℕ). which h v z ≡ AtNumber) q w) (and_second (u == 48) (legacy (slice_index z 0)) e)))
    (λ e. subst (FrontIs h (u ∷ z)) (sym (digits_are u z)) (literal_found h u z w d (no_legacy u z e) n))

-- ---- which base

record Marked (c : ℕ) : Type 0 where
  radix : Radix
  is_mark_of : is_mark radix c ≡ true

abbrev Unmarked : ℕ → Type 0
Unmarked c = (code.radix c ≡ None) × ((r : Radix) → is_mark r c ≡ false)

no_marks : (c : ℕ) → is_mark Hex c ≡ false → is_mark Octal c ≡ false → is_mark Binary c ≡ false → (r : Radix) → is_mark r c ≡ false
no_marks c x y z Hex = x
no_marks c x y z Octal = y
no_marks c x y z Binary = z

marks : (c : ℕ) → Marked c ⊎ Unmarked c
marks c = elim (either (is_mark Hex c)) [
  | inl h ↦ inl (record { radix = Hex; is_mark_of = h })
  | inr x ↦ elim (either (is_mark Octal c)) [
    | inl h ↦ inl (record { radix = Octal; is_mark_of = h })
    | inr y ↦ elim (either (is_mark Binary c)) [
      | inl h ↦ inl (record { radix = Binary; is_mark_of = h })
      | inr z ↦ inr (cond_no _ _ _ x ∙ cond_no _ _ _ y ∙ cond_no _ _ _ z, no_marks c x y z)
    ]
  ]
]

class_digit : (r : Radix) (c : ℕ) → is_in (class_of r) c ≡ is_digit_of r c
class_digit Hex c = refl
class_digit Octal c = refl
class_digit Binary c = refl

class_digits : (r : Radix) (y : Text) → digits_len (is_in (class_of r)) y ≡ run_of r y
class_digits Hex y = refl
class_digits Octal y = refl
class_digits Binary y = refl

abbrev based_end : Class → Text → ℕ → Front
based_end c z end = cond (end == 1) (front.Bad bad.Syntax) (code.integer z end (code.safe_value (code.base c) 0 (take (end - 1) (drop 1 z))))

not_one : (n : ℕ) (r : Bool) → 1 ≤ n → (1 + n == 1) ≡ r → r ≡ false
not_one n true k e = (let x = eqb-true (1 + n) 1 e in absurd (omega (arith, k, x)))
not_one n false k e = refl

some_run : (r : Radix) (y : Text) → is_digit_of r (slice_index y 0) ≡ true → 1 ≤ run_of r y
some_run r [] d = absurd (no_truth (sym d ∙ (clear_radix r).0))
some_run r (u ∷ y) d = digits_least (is_digit_of r) true (u ∷ []) y (inl (d, refl))

end_on : (r : Radix) (m : ℕ) (y : Text) → is_digit_of r (slice_index y 0) ≡ true → past_some (class_of r) (m ∷ y) 1 ≡ 1 + run_of r y
end_on r m y d = cond_yes _ _ _ (class_digit r (slice_index y 0) ∙ d) ∙ ap (λ (n : ℕ). 1 + n) (class_digits r y)

end_none : (r : Radix) (m : ℕ) (y : Text) → is_digit_of r (slice_index y 0) ≡ false → past_some (class_of r) (m ∷ y) 1 ≡ 1
end_none r m y d = cond_no _ _ _ (class_digit r (slice_index y 0) ∙ d)

based_on : (r : Radix) (m : ℕ) (y : Text) → is_digit_of r (slice_index y 0) ≡ true → based_end (class_of r) (m ∷ y) (1 + run_of r y) ≡ code.integer (m ∷ y) (1 + run_of r y) (code.safe_value (radix_value r) 0 (take (run_of r y) y))
based_on r m y d =
    let less : 1 + run_of r y - 1 ≡ run_of r y = omega arith in
    cond_no _ _ _ (not_one (run_of r y) (1 + run_of r y == 1) (some_run r y d) refl)
    ∙ ap (λ (b : ℕ). code.integer (m ∷ y) (1 + run_of r y) (code.safe_value b 0 (take (1 + run_of r y - 1) y))) (base_of r)
    ∙ ap (λ (n : ℕ). code.integer (m ∷ y) (1 + run_of r y) (code.safe_value (radix_value r) 0 (take n y))) less

in_base_found : (h : Bool) (r : Radix) (z : Text) → which h 48 z ≡ AtNumber → is_mark r (slice_index z 0) ≡ true → FrontIs h (48 ∷ z) (code.in_base (class_of r) z)
in_base_found h r [] w k = absurd (no_truth (mark_no (is 0) r 0 k refl refl refl refl refl refl))
in_base_found h r (m ∷ y) w k = elim (either (is_digit_of r (slice_index y 0))) [
  | inl d ↦ subst (FrontIs h (48 ∷ m ∷ y)) (sym (ap (based_end (class_of r) (m ∷ y)) (end_on r m y d) ∙ based_on r m y d)) (found_based h r m y w k d)
  | inr n ↦ subst (FrontIs h (48 ∷ m ∷ y)) (sym (ap (based_end (class_of r) (m ∷ y)) (end_none r m y n))) (found_no_base h r m y w k n)
]

number_at : (h : Bool) (u : ℕ) (z : Text) → which h u z ≡ AtNumber → is_digit u ≡ true → Marked (slice_index z 0) ⊎ Unmarked (slice_index z 0) → FrontIs h (u ∷ z) (code.number u z)
number_at h u z w d (inr m) = subst (λ (o : Option Class). FrontIs h (u ∷ z) (code.number_by u z o)) (sym m.0) (decimal_found h u z w d (λ r e k. no_truth (sym k ∙ m.1 r)))
number_at h u z w d (inl m) =
    subst (λ (o : Option Class). FrontIs h (u ∷ z) (code.number_by u z o)) (sym (mark_radix m.radix (slice_index z 0) m.is_mark_of))
    (by_cond (FrontIs h (u ∷ z)) (u == 48) _ _
    (λ e. let q = eqb-true u 48 e in
    subst (λ (v : ℕ). FrontIs h (v ∷ z) (code.in_base (class_of m.radix) z)) (sym q) (in_base_found h m.radix z (subst (λ (v : ℕ). which h v z ≡ AtNumber) q w) m.is_mark_of))
    (λ e. decimal_found h u z w d (λ r q k. no_truth (sym (eq-eqb u 48 q) ∙ e))))

pub found_digits : (h : Bool) (u : ℕ) (z : Text) → which h u z ≡ AtNumber → is_digit u ≡ true → FrontIs h (u ∷ z) (code.number u z)
found_digits h u z w d = number_at h u z w d (marks (slice_index z 0))
