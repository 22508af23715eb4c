-- The fields of one name, the parts of a value, and numbers.
use Rattle.std.proofs.Common.{◌≡◌, ◌≢◌, ◌⊎◌, ℕ, zero, suc, ◌+◌, ◌*◌, ◌-◌, ◌<◌, ◌≤◌, ◌==◌, Bool, true, false, ◌||◌, ◌&&◌, not, cond, List, [], ◌∷◌, ◌++◌, length, take, drop, get_or, slice_range, map, refl, ap, sym, ◌∙◌, subst, arith, inl, inr, length-drop, append-nil, eq-eqb}
use Rattle.std.specs.Prelude.{filter, All, codes}
use Rattle.std.specs.List.{list_any, list_all}
use Rattle.std.specs.Char.{is_ascii_digit, digit_value}
use Rattle.std.specs.Str.Parse.{digits_value}
use Rattle.std.proofs.lemmas.List.{take_more, drop_more, map-append, take_all}
use Rattle.std.proofs.lemmas.List.Folds.{list_all-append}
use Rattle.std.proofs.lemmas.Bool.{ne_eqb}
use Rattle.std.proofs.lemmas.Bool.Decides.{nat_tests}
use Rattle.std.proofs.lemmas.List.Splits.{slice_split_at, slice_split_none}
use Rattle.std.proofs.lemmas.Int.Digits.{digits_value_push}
use Rattle.httparse.specs.Grammar.{trim_ows}
use Rattle.httparse.specs.Spans.{header_bytes, span_bytes}
use Rattle.httparse.specs.declared.spans.HeaderSpan.{HeaderSpan}
use Rattle.httparse.proofs.RunLemmas.{drop_split, AllPass-slice_range}
use Rattle.http_message.specs.Extents.{IsNumberUpTo}
use Rattle.http_message.specs.declared.fields.Found.{Found}
use Rattle.http_message.specs.Fields.{Pairs, is_word, values_of, has_close, IsFound}
use Rattle.http_message.specs.Limits.{max_body}

-- the value of a field of the name
abbrev pub value_if : List ℕ → List ℕ × List ℕ → List (List ℕ)
value_if name f = cond (is_word name f.0) (f.1 ∷ []) []

abbrev values : Pairs → List (List ℕ)
values fs = map (λ (f : List ℕ × List ℕ). f.1) fs

push_one : (b : Bool) (f : List ℕ × List ℕ) → values (cond b (f ∷ []) []) ≡ cond b (f.1 ∷ []) []
push_one true f = refl
push_one false f = refl

push_behind : (b : Bool) (g : List ℕ × List ℕ) (rest more : Pairs) (v : List (List ℕ)) → values more ≡ values rest ++ v → values (cond b (g ∷ more) more) ≡ values (cond b (g ∷ rest) rest) ++ v
push_behind true g rest more v e = ap (λ vs. g.1 ∷ vs) e
push_behind false g rest more v e = e

pub values_push : (name : List ℕ) (fs : Pairs) (f : List ℕ × List ℕ) → values_of name (fs ++ f ∷ []) ≡ values_of name fs ++ value_if name f
values_push name [] f = push_one (is_word name f.0) f
values_push name (g ∷ fs) f = push_behind (is_word name g.0) g (filter (λ h. is_word name h.0) fs) (filter (λ h. is_word name h.0) (fs ++ f ∷ [])) (value_if name f) (values_push name fs f)

pub values_more : (name bytes : List ℕ) (fields : List HeaderSpan) (i : ℕ) (d : HeaderSpan) → i < length fields
    → values_of name (map (header_bytes bytes) (take (i + 1) fields)) ≡ values_of name (map (header_bytes bytes) (take i fields)) ++ value_if name (header_bytes bytes (get_or fields i d))
values_more name bytes fields i d h =
    ap (λ fs. values_of name (map (header_bytes bytes) fs)) (take_more fields i d h)
    ∙ ap (values_of name) (map-append (header_bytes bytes) (take i fields) (get_or fields i d ∷ []))
    ∙ values_push name (map (header_bytes bytes) (take i fields)) (header_bytes bytes (get_or fields i d))

pub found_yes : (name bytes : List ℕ) (fields : List HeaderSpan) (i : ℕ) (d : HeaderSpan) (f g : Found) → i < length fields
    → is_word name (span_bytes bytes (get_or fields i d).name) ≡ true
    → ((vs : List (List ℕ)) → IsFound bytes vs f → IsFound bytes (vs ++ span_bytes bytes (get_or fields i d).value ∷ []) g)
    → IsFound bytes (values_of name (map (header_bytes bytes) (take i fields))) f → IsFound bytes (values_of name (map (header_bytes bytes) (take (i + 1) fields))) g
found_yes name bytes fields i d f g h n step x =
    let v = span_bytes bytes (get_or fields i d).value in
    let before = values_of name (map (header_bytes bytes) (take i fields)) in
    subst (λ vs. IsFound bytes vs g) (sym (values_more name bytes fields i d h ∙ ap (λ b. before ++ cond b (v ∷ []) []) n)) (step before x)

pub found_no : (name bytes : List ℕ) (fields : List HeaderSpan) (i : ℕ) (d : HeaderSpan) (f : Found) → i < length fields
    → is_word name (span_bytes bytes (get_or fields i d).name) ≡ false
    → IsFound bytes (values_of name (map (header_bytes bytes) (take i fields))) f → IsFound bytes (values_of name (map (header_bytes bytes) (take (i + 1) fields))) f
found_no name bytes fields i d f h n x =
    let v = span_bytes bytes (get_or fields i d).value in
    let before = values_of name (map (header_bytes bytes) (take i fields)) in
    subst (λ vs. IsFound bytes vs f) (sym (values_more name bytes fields i d h ∙ ap (λ b. before ++ cond b (v ∷ []) []) n ∙ append-nil before)) x

or_true : (b : Bool) → (b || true) ≡ true
or_true true = refl
or_true false = refl

any_behind : (P : List ℕ → Bool) (b : Bool) (g : List ℕ × List ℕ) (rest : Pairs) → list_any P (values rest) ≡ true → list_any P (values (cond b (g ∷ rest) rest)) ≡ true
any_behind P true g rest e = ap (λ c. P g.1 || c) e ∙ or_true (P g.1)
any_behind P false g rest e = e

any_here : (P : List ℕ → Bool) (b : Bool) (g : List ℕ × List ℕ) (rest : Pairs) → b ≡ true → P g.1 ≡ true → list_any P (values (cond b (g ∷ rest) rest)) ≡ true
any_here P b g rest e h = rw e (rw h refl)

-- a field of the name whose value passes the test
pub any_field : (P : List ℕ → Bool) (name bytes : List ℕ) (fields : List HeaderSpan) (i : ℕ) (d : HeaderSpan) → i < length fields
    → is_word name (span_bytes bytes (get_or fields i d).name) ≡ true → P (span_bytes bytes (get_or fields i d).value) ≡ true
    → list_any P (values_of name (map (header_bytes bytes) fields)) ≡ true
any_field P name bytes [] i d h n v = absurd (omega arith)
any_field P name bytes (f ∷ fs) zero d h n v = any_here P (is_word name (span_bytes bytes f.name)) (header_bytes bytes f) (filter (λ g. is_word name g.0) (map (header_bytes bytes) fs)) n v
any_field P name bytes (f ∷ fs) (suc i) d h n v = any_behind P (is_word name (span_bytes bytes f.name)) (header_bytes bytes f) (filter (λ g. is_word name g.0) (map (header_bytes bytes) fs)) (any_field P name bytes fs i d (omega arith) n v)

-- ---- parts at commas

-- a value up to a place, and the begin of the part in which the place stands
pub record Scanned (value : List ℕ) (start i : ℕ) : Type 0 where
  pub ordered : start ≤ i
  pub part : (k : ℕ) → start ≤ k → k < i → get_or value k 0 ≢ 44
  pub rest : has_close value ≡ has_close (drop start value)

not_comma : (b : ℕ) → b ≢ 44 → not (b == 44) ≡ true
not_comma b n = rw (ne_eqb b 44 n) refl

not_true : (b : Bool) → not b ≡ true → b ≡ false
not_true true e = sym e
not_true false e = refl

part_has_none : (value : List ℕ) (start i : ℕ) → i ≤ length value → Scanned value start i → All (λ (b : ℕ). (b == 44) ≡ false) (slice_range value start i)
part_has_none value start i h s k d below = not_true _ (AllPass-slice_range (λ b. not (b == 44)) value start i s.ordered h (λ j l u. not_comma (get_or value j 0) (s.part j l u)) k d below)

abbrev is_close : List ℕ → Bool
is_close part = is_word (codes "close") (trim_ows part)

close_at : (value : List ℕ) (start i : ℕ) → i < length value → Scanned value start i → get_or value i 0 ≡ 44
    → has_close (drop start value) ≡ (is_close (slice_range value start i) || has_close (drop (i + 1) value))
close_at value start i h s y =
    ap has_close (drop_split value start i s.ordered ∙ ap (λ t. slice_range value start i ++ t) (drop_more value i 0 h))
    ∙ ap (list_any is_close) (slice_split_at (λ (b : ℕ). b == 44) (slice_range value start i) (get_or value i 0) (drop (i + 1) value) (part_has_none value start i (omega arith) s) (eq-eqb (get_or value i 0) 44 y))

or_false : (b : Bool) → (b || false) ≡ b
or_false true = refl
or_false false = refl

pub scanned_begin : (value : List ℕ) → Scanned value 0 0
scanned_begin value = record { ordered = omega arith; part = λ k l u. absurd (omega arith); rest = refl }

pub scanned_found : (value : List ℕ) (start i : ℕ) → i < length value → Scanned value start i → get_or value i 0 ≡ 44 → true ≡ is_word (codes "close") (trim_ows (slice_range value start i)) → true ≡ has_close value
scanned_found value start i h s y e = sym (s.rest ∙ close_at value start i h s y ∙ ap (λ b. b || has_close (drop (i + 1) value)) (sym e))

pub scanned_other : (value : List ℕ) (start i : ℕ) → i < length value → Scanned value start i → get_or value i 0 ≡ 44 → false ≡ is_word (codes "close") (trim_ows (slice_range value start i)) → Scanned value (i + 1) (i + 1)
scanned_other value start i h s y e = record {
  ordered = omega arith;
  part = λ k l u. absurd (omega arith);
  rest = s.rest ∙ close_at value start i h s y ∙ ap (λ b. b || has_close (drop (i + 1) value)) (sym e);
}

le_cases : (k j : ℕ) → k ≤ j → (k < j) ⊎ (k ≡ j)
le_cases zero zero h = inr refl
le_cases zero (suc j) h = inl (omega arith)
le_cases (suc k) zero h = absurd (omega arith)
le_cases (suc k) (suc j) h = elim (le_cases k j (omega arith)) [ inl b ↦ inl (omega (arith, b)) | inr e ↦ inr (ap suc e) ]

pub scanned_on : (value : List ℕ) (start i : ℕ) → Scanned value start i → get_or value i 0 ≢ 44 → Scanned value start (i + 1)
scanned_on value start i s n = record {
  ordered = let o = s.ordered in omega (arith, o);
  part = λ k l u. elim (place k u) [ inl b ↦ s.part k l b | inr e ↦ subst (λ j. get_or value j 0 ≢ 44) (sym e) n ];
  rest = s.rest;
}
  where
    place : (k : ℕ) → k < i + 1 → (k < i) ⊎ (k ≡ i)
    place k u = le_cases k i (omega arith)

pub scanned_end : (value : List ℕ) (start : ℕ) → Scanned value start (length value) → has_close value ≡ is_word (codes "close") (trim_ows (slice_range value start (length value)))
scanned_end value start s =
    s.rest ∙ ap has_close (sym (take_all (length value - start) (drop start value) (omega (arith, length-drop start value))))
    ∙ ap (list_any is_close) (slice_split_none (λ (b : ℕ). b == 44) (slice_range value start (length value)) (part_has_none value start (length value) (omega arith) s))
    ∙ or_false _

-- ---- numbers

pub digits_more : (text : List ℕ) (i : ℕ) → i < length text → is_ascii_digit (get_or text i 0) ≡ true → list_all is_ascii_digit (take i text) ≡ true
    → list_all is_ascii_digit (take (i + 1) text) ≡ true
digits_more text i h d all = rw (take_more text i 0 h) (rw (list_all-append is_ascii_digit (take i text) (get_or text i 0 ∷ [])) (rw all (rw d refl)))

and_false : (c : Bool) → (c && false) ≡ false
and_false true = refl
and_false false = refl

pub no_number : (text : List ℕ) (i : ℕ) → i < length text → is_ascii_digit (get_or text i 0) ≡ false → list_all is_ascii_digit text ≡ false
no_number [] i h d = absurd (omega arith)
no_number (b ∷ bs) zero h d = rw d refl
no_number (b ∷ bs) (suc i) h d = ap (λ r. is_ascii_digit b && r) (no_number bs i (omega arith) d) ∙ and_false (is_ascii_digit b)

digit_is : (d : ℕ) → is_ascii_digit d ≡ true → digit_value d ≡ d - 48
digit_is d e = grind (arith, nat_tests)

pub value_more : (text : List ℕ) (i : ℕ) → i < length text → is_ascii_digit (get_or text i 0) ≡ true
    → digits_value 10 (take (i + 1) text) ≡ digits_value 10 (take i text) * 10 + (get_or text i 0 - 48)
value_more text i h d = ap (digits_value 10) (take_more text i 0 h) ∙ digits_value_push 10 (take i text) (get_or text i 0) ∙ ap (λ v. digits_value 10 (take i text) * 10 + v) (digit_is (get_or text i 0) d)

pub number_more : (v w n d : ℕ) → w ≡ v * 10 + d → IsNumberUpTo max_body v n → n ≤ max_body → IsNumberUpTo max_body w (n * 10 + d)
number_more v w n d e (inl is) h = inl (omega arith)
number_more v w n d e (inr over) h = absurd (omega arith)

pub number_over : (v w n d : ℕ) → w ≡ v * 10 + d → IsNumberUpTo max_body v n → max_body < n → IsNumberUpTo max_body w n
number_over v w n d e (inl is) h = inr (h, omega arith)
number_over v w n d e (inr over) h = inr (h, omega arith)

pub digit_low : (d : ℕ) → is_ascii_digit d ≡ true → d - 48 ≤ 9
digit_low d e = grind (arith, nat_tests)
