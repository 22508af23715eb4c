-- Fractions that begin with their point.
use Rattle.std.proofs.Common.{◌≡◌, ℕ, ◌+◌, ◌≤◌, Bool, true, false, cond, [], ◌∷◌, ◌++◌, take, drop, length, Option, None, refl, sym, ◌∙◌, ap, subst, arith, append_assoc, inl, inr}
use Rattle.std.specs.Prelude.{◌==◌, ◌&&◌, ◌||◌, slice_index}
use Rattle.std.proofs.lemmas.Bool.{eq-eqb, eqb-true}
use Rattle.std.proofs.lemmas.List.{length-append}
use Rattle.js_lex.specs.declared.token.Punctuator.{Punctuator}
use Rattle.js_lex.specs.declared.units.Class.TheVariants as class
use Rattle.js_lex.specs.declared.front.Front.TheVariants as front
use Rattle.js_lex.specs.declared.front.Unread.TheVariants as bad
use Rattle.js_lex.specs.Tables.{punctuators}
use Rattle.js_lex.specs.Units.{Text, is_digit, is_name}
use Rattle.js_lex.specs.Runs.{past_some}
use Rattle.js_lex.specs.Front as code
use Rattle.js_lex.specs.Lists.{In, NotNext}
use Rattle.js_lex.specs.Numbers.{Digits, OrNone, Number, Decimal, Point, Big, Based, number_units, Exponent, NoExponent, Exponential, exponent_units, IsExponent, number_value}
use Rattle.js_lex.specs.Elements.{Element, White, LineEnd, LineComment, BlockComment, Word, Numeric, String, Part, Sign, units, Stands}
use Rattle.js_lex.specs.Grammar.{Reading, Refused, ReadsValue, ReadsNumber}
use Rattle.js_lex.proofs.Truths.{cond_yes, cond_no, either, and_both, not_yes, or_split, in_all}
use Rattle.js_lex.proofs.Which.{AtPoint, which, sort}
use Rattle.js_lex.proofs.Runs.{both_parts, drop_here}
use Rattle.js_lex.proofs.Separated.{Ends, clear_digit, must_of, digits_pass, some_len, some_least, some_exact, some_length, other_ends}
use Rattle.js_lex.proofs.Longest.{FrontIs, sort_of, front_for}
use Rattle.js_lex.proofs.Signs.{no_truth, Row, no_point, no_points}
use Rattle.js_lex.proofs.Exponents.{exponent_behind, exponent_bound, exponents}

pub not_next : (f : ℕ → Bool) (z : Text) → f 0 ≡ false → NotNext f z → f (slice_index z 0) ≡ false
not_next f [] a h = a
not_next f (u ∷ z) a h = h

pub head_next : (f : ℕ → Bool) (z : Text) → f (slice_index z 0) ≡ false → NotNext f z
head_next f [] h = tt
head_next f (u ∷ z) h = h

pub index_at : (a y : Text) → slice_index (a ++ y) (length a) ≡ slice_index y 0
index_at [] y = refl
index_at (u ∷ a) y = index_at a y

letter_no_digit : (e : ℕ) → (e == 101 || e == 69) ≡ true → is_digit e ≡ false
letter_no_digit e h = elim (or_split (e == 101) (e == 69) h) [
  | inl y ↦ ap is_digit (eqb-true e 101 y)
  | inr y ↦ ap is_digit (eqb-true e 69 y)
]

pub letter_ends : (e : ℕ) (z : Text) → (e == 101 || e == 69) ≡ true → Ends is_digit (e ∷ z)
letter_ends e z h = other_ends is_digit e z (letter_no_digit e h) (elim (or_split (e == 101) (e == 69) h) [
  | inl y ↦ ap (λ (n : ℕ). n == 95) (eqb-true e 101 y)
  | inr y ↦ ap (λ (n : ℕ). n == 95) (eqb-true e 69 y)
])

-- the digits and the exponent of another one are no longer
pub digits_bound : (gs : Text) (x : Exponent) (more z : Text) → OrNone is_digit gs → IsExponent x → (gs ++ exponent_units x) ++ more ≡ z → length (gs ++ exponent_units x) ≤ some_len is_digit z + code.past_exponent (drop (some_len is_digit z) z) 0
digits_bound gs NoExponent more z g i k =
    let a = some_least is_digit gs more g in
    let b : length gs ≤ some_len is_digit z = subst (λ (y : Text). length gs ≤ some_len is_digit y) (sym (append_assoc gs [] more) ∙ k) a in
    omega (arith, b, length-append gs [])
digits_bound gs (Exponential e s ds) more z g i k =
    let w = exponent_units (Exponential e s ds) ++ more in
    let t : gs ++ (exponent_units (Exponential e s ds) ++ more) ≡ z = sym (append_assoc gs (exponent_units (Exponential e s ds)) more) ∙ k in
    let n : some_len is_digit z ≡ length gs = ap (some_len is_digit) (sym t) ∙ some_exact is_digit gs (exponent_units (Exponential e s ds) ++ more) clear_digit g (letter_ends e ((s ++ ds) ++ more) i.0) in
    let r : drop (some_len is_digit z) z ≡ exponent_units (Exponential e s ds) ++ more = ap (λ (m : ℕ). drop m z) n ∙ ap (drop (length gs)) (sym t) ∙ drop_here gs (exponent_units (Exponential e s ds) ++ more) in
    let b = exponent_bound (Exponential e s ds) more i in
    let c = ap (λ (y : Text). code.past_exponent y 0) r in
    omega (arith, n, b, c, length-append gs (exponent_units (Exponential e s ds)))

sign_short : (w : Text) (p : Punctuator) (more z : Text) → In (w, p) punctuators → w ++ more ≡ 46 ∷ z → is_digit (slice_index z 0) ≡ true → length w ≤ 1
sign_short [] p more z i k d = omega arith
sign_short (a ∷ []) p more z i k d = omega arith
sign_short (a ∷ b ∷ v) p more z i k d =
    let t = in_all (λ (r : Row). no_point r.0) (a ∷ b ∷ v, p) punctuators i no_points in
    let q : a ≡ 46 = cc in
    let y : b ∷ (v ++ more) ≡ z = cc in
    let c : is_digit b ≡ true = ap (λ (x : Text). is_digit (slice_index x 0)) y ∙ d in
    absurd (no_truth (sym (and_both (a == 46) (is_digit b) (eq-eqb a 46 q) c) ∙ not_yes (a == 46 && is_digit b) t))

point_bound : (h : Bool) (f : Element) (more z : Text) → sort f more ≡ AtPoint → Stands h f more → units f ++ more ≡ 46 ∷ z → is_digit (slice_index z 0) ≡ true → length (units f) ≤ 1 + (some_len is_digit z + code.past_exponent (drop (some_len is_digit z) z) 0)
point_bound h (Numeric (Point gs x)) more z e s k d =
    let t : (gs ++ exponent_units x) ++ more ≡ z = cc in
    let b = digits_bound gs x more z (inr s.0) s.1 t in
    omega (arith, b)
point_bound h (Numeric (Decimal ds f x)) more z e s k d = cc
point_bound h (Numeric (Big ds)) more z e s k d = cc
point_bound h (Numeric (Based r m ds b)) more z e s k d = cc
point_bound h (Sign w y) more z e s k d = (let b = sign_short w y more z s.0 k d in omega (arith, b))
point_bound h (White v) more z e s k d = cc
point_bound h (LineEnd v) more z e s k d = cc
point_bound h (LineComment w) more z e s k d = cc
point_bound h (BlockComment w) more z e s k d = cc
point_bound h (Word v w) more z e s k d = cc
point_bound h (String d_ cs) more z e s k d = cc
point_bound h (Part b_ cs x) more z e s k d = cc

pub digits_at : (z : Text) → is_digit (slice_index z 0) ≡ true → Digits is_digit true (take (some_len is_digit z) z)
digits_at z d = subst (λ (m : ℕ). Digits is_digit true (take m z)) (sym (cond_yes _ _ _ d)) (must_of is_digit z clear_digit d (digits_pass is_digit z clear_digit))

pub some_at : (z : Text) → past_some class.Digit z 0 ≡ some_len is_digit z
some_at z = ap (λ (m : ℕ). cond (is_digit (slice_index z 0)) m 0) (omega arith)

ended_reading : (n : Number) (z : Text) (at : ℕ) (rest : Text) → slice_index z at ≡ slice_index rest 0 → number_value n ≡ None → (r : Reading) × ReadsNumber n rest r × (code.ended z at (front.Bad bad.Number) ≡ front_for r (length (number_units n)))
ended_reading n z at rest k v = elim (either (is_name (slice_index rest 0))) [
  | inl y ↦ (Refused bad.Syntax, inr ((λ a. no_truth (sym y ∙ not_next is_name rest refl a)), refl), cond_yes _ _ _ (ap is_name k ∙ y))
  | inr m ↦ (Refused bad.Number, inl (head_next is_name rest m, subst (λ (o : Option ℕ). ReadsValue o (Refused bad.Number)) (sym v) refl), cond_no _ _ _ (ap is_name k ∙ m))
]

pub found_point : (h : Bool) (z : Text) → which h 46 z ≡ AtPoint → is_digit (slice_index z 0) ≡ true → FrontIs h (46 ∷ z) (code.point z)
found_point h z w d =
    let n = some_len is_digit z in
    let fs = take (some_len is_digit z) z in
    let x = exponents (drop (some_len is_digit z) z) in
    let v = take (some_len is_digit z) z ++ exponent_units x.exponent in
    let text : z ≡ (take (some_len is_digit z) z ++ exponent_units x.exponent) ++ x.rest = sym (both_parts (some_len is_digit z) z) ∙ ap (λ (y : Text). take (some_len is_digit z) z ++ y) x.text ∙ sym (append_assoc (take (some_len is_digit z) z) (exponent_units x.exponent) x.rest) in
    let size : length (take (some_len is_digit z) z ++ exponent_units x.exponent) ≡ some_len is_digit z + code.past_exponent (drop (some_len is_digit z) z) 0 = omega (arith, length-append (take (some_len is_digit z) z) (exponent_units x.exponent), some_length is_digit z, x.size) in
    let start : past_some class.Digit z 0 ≡ length (take (some_len is_digit z) z) = omega (arith, some_at z, some_length is_digit z) in
    let at : code.past_exponent z (past_some class.Digit z 0) ≡ length (take (some_len is_digit z) z ++ exponent_units x.exponent) =
    ap (code.past_exponent z) start ∙ ap (λ (y : Text). code.past_exponent y (length (take (some_len is_digit z) z))) (sym (both_parts (some_len is_digit z) z)) ∙ exponent_behind (take (some_len is_digit z) z) (drop (some_len is_digit z) z)
    ∙ omega (arith, size, some_length is_digit z) in
    let index : slice_index z (code.past_exponent z (past_some class.Digit z 0)) ≡ slice_index x.rest 0 = ap (slice_index z) at ∙ ap (λ (y : Text). slice_index y (length (take (some_len is_digit z) z ++ exponent_units x.exponent))) text ∙ index_at (take (some_len is_digit z) z ++ exponent_units x.exponent) x.rest in
    let r = ended_reading (Point (take (some_len is_digit z) z) x.exponent) z (code.past_exponent z (past_some class.Digit z 0)) x.rest index refl in
    let whole : 46 ∷ z ≡ 46 ∷ ((take (some_len is_digit z) z ++ exponent_units x.exponent) ++ x.rest) = ap (λ (y : Text). 46 ∷ y) text in
    inl (record {
      element = Numeric (Point (take (some_len is_digit z) z) x.exponent);
      rest = x.rest;
      reading = r.0;
      begins = record {
        is_text = whole;
        stands = (digits_at z d, x.is);
        longest = λ f more s k.
            let b = point_bound h f more z (sort_of h f more 46 z s (k ∙ sym whole) ∙ w) s (k ∙ sym whole) d in
            omega (arith, b, size);
      };
      reads = r.1;
      is = r.2;
    })
