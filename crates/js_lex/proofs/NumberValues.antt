-- A number's value is told by its units alone.
use Rattle.std.proofs.Common.{◌≡◌, ℕ, Bool, true, false, cond, [], ◌∷◌, ◌++◌, Option, Some, None, refl, sym, ◌∙◌, ap, subst, inl, inr}
use Rattle.std.specs.Prelude.{◌==◌, ◌&&◌, ◌||◌, not, slice_index}
use Rattle.std.proofs.lemmas.Bool.{eqb-true, eq-eqb}
use Rattle.js_lex.specs.declared.units.Class.{Class}
use Rattle.js_lex.specs.declared.units.Class.TheVariants as class
use Rattle.js_lex.specs.Units.{Text, is_digit, value}
use Rattle.js_lex.specs.Runs.{is_in}
use Rattle.js_lex.specs.Front.{radix, base}
use Rattle.js_lex.specs.Lists.{is, some}
use Rattle.js_lex.specs.Numbers.{Digits, IsInteger, Radix, Hex, Octal, Binary, radix_value, is_mark, is_digit_of, NoExponent, Exponential, exponent_units, NoFraction, Fractional, Number, Decimal, Point, Big, Based, suffix, number_units, IsNumber, digits_value, number_value}
use Rattle.js_lex.proofs.Truths.{cond_no, either, or_split, and_no_first, and_no_second, all_of}
use Rattle.js_lex.proofs.Signs.{no_truth}
use Rattle.js_lex.proofs.Separated.{Clear, clear_digit}

abbrev pub class_of : Radix → Class
class_of Hex = class.Hex
class_of Octal = class.Octal
class_of Binary = class.Binary

pub clear_radix : (r : Radix) → Clear (is_digit_of r)
clear_radix Hex = (refl, refl)
clear_radix Octal = (refl, refl)
clear_radix Binary = (refl, refl)

-- ---- the letters of bases

pub by_mark : (P : ℕ → Type 0) (a b m : ℕ) → (m == a || m == b) ≡ true → P a → P b → P m
by_mark P a b m h x y = elim (or_split (m == a) (m == b) h) [
  | inl e ↦ subst P (sym (eqb-true m a e)) x
  | inr e ↦ subst P (sym (eqb-true m b e)) y
]

pub mark_radix : (r : Radix) (m : ℕ) → is_mark r m ≡ true → radix m ≡ Some (class_of r)
mark_radix Hex m h = by_mark (λ (n : ℕ). radix n ≡ Some class.Hex) 120 88 m h refl refl
mark_radix Octal m h = by_mark (λ (n : ℕ). radix n ≡ Some class.Octal) 111 79 m h refl refl
mark_radix Binary m h = by_mark (λ (n : ℕ). radix n ≡ Some class.Binary) 98 66 m h refl refl

-- what no letter of a base passes
pub mark_no : (f : ℕ → Bool) (r : Radix) (m : ℕ) → is_mark r m ≡ true → f 120 ≡ false → f 88 ≡ false → f 111 ≡ false → f 79 ≡ false → f 98 ≡ false → f 66 ≡ false → f m ≡ false
mark_no f Hex m h a b c d e g = by_mark (λ (n : ℕ). f n ≡ false) 120 88 m h a b
mark_no f Octal m h a b c d e g = by_mark (λ (n : ℕ). f n ≡ false) 111 79 m h c d
mark_no f Binary m h a b c d e g = by_mark (λ (n : ℕ). f n ≡ false) 98 66 m h e g

-- ---- separators

not_or : (a b : Bool) → a ≡ false → not b ≡ not (a || b)
not_or true b h = cc
not_or false b h = refl

cond_and : (a b : Bool) → a ≡ true → (a && b) ≡ b
cond_and true b h = refl
cond_and false b h = cc

or_true : (a b : Bool) → a ≡ true → (a || b) ≡ true
or_true true b h = refl
or_true false b h = cc

not_sep_at : (p : ℕ → Bool) (u : ℕ) (r : Bool) → Clear p → p u ≡ true → (u == 95) ≡ r → r ≡ false
not_sep_at p u true k h e = absurd (no_truth (sym h ∙ ap p (eqb-true u 95 e) ∙ k.1))
not_sep_at p u false k h e = refl

not_sep : (p : ℕ → Bool) (u : ℕ) → Clear p → p u ≡ true → (u == 95) ≡ false
not_sep p u k h = not_sep_at p u (u == 95) k h refl

-- digits are all of their class where no separator stands among them
pub digits_all : (p : ℕ → Bool) (b : Bool) (ds : Text) → Clear p → Digits p b ds → all_of p ds ≡ not (some (is 95) ds)
digits_all p b [] k h = refl
digits_all p b (u ∷ ds) k (inl h) =
    let n : is 95 u ≡ false = not_sep p u k h.0 in
    cond_and (p u) (all_of p ds) h.0 ∙ digits_all p false ds k h.1 ∙ not_or (is 95 u) (some (is 95) ds) n
digits_all p b (u ∷ ds) k (inr h) =
    and_no_first (p u) (all_of p ds) (ap p h.0 ∙ k.1) ∙ ap not (sym (or_true (is 95 u) (some (is 95) ds) (eq-eqb u 95 h.0)))

all_behind : (p : ℕ → Bool) (w z : Text) → all_of p z ≡ false → all_of p (w ++ z) ≡ false
all_behind p [] z h = h
all_behind p (u ∷ w) z h = and_no_second (p u) (all_of p (w ++ z)) (all_behind p w z h)

-- ---- the value that units tell

abbrev by_class : Text → Option Class → Option ℕ
by_class w None = None
by_class w (Some c) = cond (all_of (is_in c) w) (Some (value (base c) 0 w)) None

abbrev by_base : Text → Option ℕ
by_base (u ∷ m ∷ w) = cond (u == 48) (by_class w (radix m)) None
by_base _ = None

abbrev pub told_value : Text → Option ℕ
told_value w = cond (all_of is_digit w) (Some (value 10 0 w)) (by_base w)

same_both : (r : Bool) (x : Option ℕ) → x ≡ None → cond r x None ≡ None
same_both true x h = h
same_both false x h = refl

zero_base : (u : ℕ) (w : Text) → radix (slice_index w 0) ≡ None → by_base (u ∷ w) ≡ None
zero_base u [] k = refl
zero_base u (m ∷ w) k = same_both (u == 48) (by_class w (radix m)) (ap (by_class w) k)

other_base : (u : ℕ) (w : Text) → (u == 48) ≡ false → by_base (u ∷ w) ≡ None
other_base u [] k = refl
other_base u (m ∷ w) k = cond_no _ _ _ k

integer_base : (ds w : Text) → IsInteger ds → radix (slice_index w 0) ≡ None → by_base (ds ++ w) ≡ None
integer_base [] w i k = absurd i
integer_base (u ∷ ds) w i k = elim (either (u == 48)) [
  | inl y ↦ ap (λ (x : Text). by_base (u ∷ (x ++ w))) (i.2 y) ∙ zero_base u w k
  | inr n ↦ other_base u (ds ++ w) n
]

append_nothing : (w : Text) → w ++ [] ≡ w
append_nothing [] = refl
append_nothing (u ∷ w) = ap (λ (x : Text). u ∷ x) (append_nothing w)

integer_digits : (ds : Text) → IsInteger ds → Digits is_digit true ds
integer_digits [] i = absurd i
integer_digits (d ∷ ds) i = inl (i.0, i.1)

chosen_value : (s a : Bool) (x y : Option ℕ) → a ≡ not s → y ≡ None → cond s None x ≡ cond a x y
chosen_value true true x y h k = cc
chosen_value true false x y h k = sym k
chosen_value false true x y h k = refl
chosen_value false false x y h k = cc

plain_told : (ds : Text) → IsInteger ds → digits_value 10 ds ≡ told_value (ds ++ [])
plain_told ds i =
    chosen_value (some (is 95) ds) (all_of is_digit ds) (Some (value 10 0 ds)) (by_base ds) (digits_all is_digit true ds clear_digit (integer_digits ds i)) (ap by_base (sym (append_nothing ds)) ∙ integer_base ds [] i refl)
    ∙ ap told_value (sym (append_nothing ds))

none_told : (ds w : Text) → IsInteger ds → all_of is_digit w ≡ false → radix (slice_index w 0) ≡ None → None ≡ told_value (ds ++ w)
none_told ds w i a k = sym (cond_no _ _ _ (all_behind is_digit ds w a) ∙ integer_base ds w i k)

letter_told : (P : ℕ → Type 0) (e : ℕ) → (e == 101 || e == 69) ≡ true → P 101 → P 69 → P e
letter_told P e h x y = by_mark P 101 69 e h x y

pub base_of : (r : Radix) → base (class_of r) ≡ radix_value r
base_of Hex = refl
base_of Octal = refl
base_of Binary = refl

pub no_suffix : (r : Radix) → is_digit_of r 110 ≡ false
no_suffix Hex = refl
no_suffix Octal = refl
no_suffix Binary = refl

in_class : (r : Radix) (w : Text) → all_of (is_in (class_of r)) w ≡ all_of (is_digit_of r) w
in_class Hex w = refl
in_class Octal w = refl
in_class Binary w = refl

based_class : (r : Radix) (m : ℕ) (ds : Text) (b : Bool) → is_mark r m ≡ true → Digits (is_digit_of r) true ds → number_value (Based r m ds b) ≡ by_class (ds ++ suffix b) (Some (class_of r))
based_class r m ds true h d = sym (cond_no _ _ _ (in_class r (ds ++ 110 ∷ []) ∙ all_behind (is_digit_of r) ds (110 ∷ []) (and_no_first (is_digit_of r 110) _ (no_suffix r))))
based_class r m ds false h d =
    chosen_value (some (is 95) ds) (all_of (is_in (class_of r)) ds) (Some (value (radix_value r) 0 ds)) None (in_class r ds ∙ digits_all (is_digit_of r) true ds (clear_radix r) d) refl
    ∙ ap (λ (n : ℕ). cond (all_of (is_in (class_of r)) ds) (Some (value n 0 ds)) None) (sym (base_of r))
    ∙ ap (λ (w : Text). by_class w (Some (class_of r))) (sym (append_nothing ds))

based_told : (r : Radix) (m : ℕ) (ds : Text) (b : Bool) → is_mark r m ≡ true → Digits (is_digit_of r) true ds → number_value (Based r m ds b) ≡ told_value (48 ∷ m ∷ (ds ++ suffix b))
based_told r m ds b h d =
    based_class r m ds b h d ∙ sym (ap (by_class (ds ++ suffix b)) (mark_radix r m h))
    ∙ sym (cond_no _ _ _ (and_no_first (is_digit m) _ (mark_no is_digit r m h refl refl refl refl refl refl)))

pub value_told : (n : Number) → IsNumber n → number_value n ≡ told_value (number_units n)
value_told (Decimal ds NoFraction NoExponent) i = plain_told ds i.0
value_told (Decimal ds NoFraction (Exponential e s xs)) i =
    none_told ds (e ∷ (s ++ xs)) i.0 (and_no_first (is_digit e) _ (letter_told (λ (n : ℕ). is_digit n ≡ false) e i.2.0 refl refl)) (letter_told (λ (n : ℕ). radix n ≡ None) e i.2.0 refl refl)
value_told (Decimal ds (Fractional fs) x) i = none_told ds (46 ∷ (fs ++ exponent_units x)) i.0 refl refl
value_told (Point fs x) i = sym (other_base 46 (fs ++ exponent_units x) refl)
value_told (Big ds) i = none_told ds (110 ∷ []) i refl refl
value_told (Based r m ds b) i = based_told r m ds b i.0 i.1

pub same_value : (n m : Number) → IsNumber n → IsNumber m → number_units n ≡ number_units m → number_value n ≡ number_value m
same_value n m i j e = value_told n i ∙ ap told_value e ∙ sym (value_told m j)
