-- Tokens are accepted whole.
use Rattle.std.proofs.Common.{◌≡◌, ℕ, ◌+◌, ◌-◌, ◌*◌, ◌≤◌, ◌<◌, Bool, true, false, cond, List, [], ◌∷◌, ◌++◌, inl, inr, length, map, refl, sym, ◌∙◌, ap, subst, append_assoc, arith}
use Rattle.std.specs.Prelude.{◌||◌, ◌==◌, nat_lt, min, flat_map}
use Rattle.std.proofs.Math.Nat.{min-eq_left}
use Rattle.std.proofs.lemmas.Bool.{eqb-true, or_from, or_parts, not-true, cond-true, cond-false}
use Rattle.std.proofs.lemmas.List.{append-nil, length-append}
use Rattle.js_names.specs.Names.{is_one_of, refused_names}
use Rattle.js_json.specs.declared.levels.Level.{Level}
use Rattle.js_json.specs.declared.machine.Word.TheVariants as word
use Rattle.js_json.specs.declared.machine.Inner.{Inner}
use Rattle.js_json.specs.declared.machine.Inner.TheVariants as inner
use Rattle.js_json.specs.declared.machine.Digits.{Digits}
use Rattle.js_json.specs.declared.machine.Digits.TheVariants as digits
use Rattle.js_json.specs.declared.machine.NumberAt.{NumberAt}
use Rattle.js_json.specs.declared.machine.NumberAt.TheVariants as number
use Rattle.js_json.specs.declared.machine.Part.{Part}
use Rattle.js_json.specs.declared.machine.Part.TheVariants as part
use Rattle.js_json.specs.declared.machine.Taken.{Taken}
use Rattle.js_json.specs.declared.machine.Taken.TheVariants as taken
use Rattle.js_json.specs.declared.machine.Spot.{Spot}
use Rattle.js_json.specs.declared.machine.Spot.TheVariants as spot
use Rattle.js_json.specs.declared.machine.State.{State}
use Rattle.js_json.specs.Units.{is_blank, is_digit, is_hex, code_of, is_escape, escaped, is_mark}
use Rattle.js_json.specs.Lists.{Every, Passes}
use Rattle.js_json.specs.Number.{decimal, decimal_from}
use Rattle.js_json.specs.Grammar.{Letter, Raw, Escape, Code, letter_units, letter_value, is_raw, IsLetter, IsText, IsKey, IsWord}
use Rattle.js_json.specs.Machine.{Step, stay, begin, name_with, closed, in_plain, most, push, raised, is_safe, is_safe_with, is_whole, number_at, behind_fraction, behind_whole, in_number, token, is_key, behind, on_taken, step_at, stops_at, went, accepts}
use Rattle.js_json.proofs.Decimals.{Held, SafeAt, held_push, safe_told, raised_exact}
use Rattle.js_json.proofs.Names.{clip, clip_with, allowed_told}

abbrev pub at : List Level → Spot → State
at ls s = record { levels = ls; spot = s }

-- one unit is taken
pub move : (ls ms : List Level) (s r : Spot) (u : ℕ) (us : List ℕ) → step_at ls s u ≡ stay ms r → accepts (at ls s) (u ∷ us) ≡ accepts (at ms r) us
move ls ms s r u us e = ap (λ (o : Step). went o (λ n. accepts n us)) e

more : (ls : List Level) (p q : Part) (u : ℕ) (us : List ℕ) → token p u ≡ taken.More q → accepts (at ls (spot.In p)) (u ∷ us) ≡ accepts (at ls (spot.In q)) us
more ls p q u us e = move ls ls (spot.In p) (spot.In q) u us (ap (λ (t : Taken). on_taken ls (is_key p) t u) e)

closes : (ls : List Level) (p : Part) (u : ℕ) (us : List ℕ) → token p u ≡ taken.Closed → accepts (at ls (spot.In p)) (u ∷ us) ≡ accepts (at ls (behind (is_key p))) us
closes ls p u us e = move ls ls (spot.In p) (behind (is_key p)) u us (ap (λ (t : Taken). on_taken ls (is_key p) t u) e)

ends : (ls : List Level) (p : Part) (u : ℕ) (us : List ℕ) → token p u ≡ taken.Ended → accepts (at ls (spot.In p)) (u ∷ us) ≡ accepts (at ls spot.Done) (u ∷ us)
ends ls p u us e = ap (λ (t : Taken). went (on_taken ls (is_key p) t u) (λ n. accepts n us)) e

-- ---- units apart

apart_test : (f : ℕ → Bool) (b n : ℕ) (r : Bool) → (b == n) ≡ r → f b ≡ true → f n ≡ false → r ≡ false
apart_test f b n true e h k = let same : f b ≡ f n = ap f (eqb-true b n e) in cc
apart_test f b n false e h k = refl

-- a test that n fails tells what passes it apart
pub apart : (f : ℕ → Bool) (b n : ℕ) → f b ≡ true → f n ≡ false → (b == n) ≡ false
apart f b n h k = apart_test f b n (b == n) refl h k

pub no_blank : (f : ℕ → Bool) (b : ℕ) → f b ≡ true → f 32 ≡ false → f 9 ≡ false → f 10 ≡ false → f 13 ≡ false → is_blank b ≡ false
no_blank f b h i j k l = or_from _ _ (or_from _ _ (apart f b 32 h i) (apart f b 9 h j)) (or_from _ _ (apart f b 10 h k) (apart f b 13 h l))

-- ---- where a value may begin

pub record Opens (ls : List Level) (s : Spot) : Type 0 where
  pub blank : (u : ℕ) → is_blank u ≡ true → step_at ls s u ≡ stay ls s
  pub opens : (u : ℕ) → is_blank u ≡ false → (u == 93) ≡ false → step_at ls s u ≡ begin ls u

pub begins : (ls ms : List Level) (s r : Spot) (u : ℕ) (us : List ℕ) → Opens ls s → is_blank u ≡ false → (u == 93) ≡ false → begin ls u ≡ stay ms r → accepts (at ls s) (u ∷ us) ≡ accepts (at ms r) us
begins ls ms s r u us o b c e = move ls ms s r u us (o.opens u b c ∙ e)

-- ---- words

pub word_run : (ls : List Level) (s : Spot) (w rest : List ℕ) → Opens ls s → IsWord w → accepts (at ls s) (w ++ rest) ≡ accepts (at ls spot.Done) rest
word_run ls s w rest o (inl e) = ap (λ (z : List ℕ). accepts (at ls s) (z ++ rest)) e ∙ begins ls ls s (spot.In (part.Word word.Rue)) 116 (114 ∷ 117 ∷ 101 ∷ rest) o refl refl refl
word_run ls s w rest o (inr (inl e)) = ap (λ (z : List ℕ). accepts (at ls s) (z ++ rest)) e ∙ begins ls ls s (spot.In (part.Word word.Alse)) 102 (97 ∷ 108 ∷ 115 ∷ 101 ∷ rest) o refl refl refl
word_run ls s w rest o (inr (inr e)) = ap (λ (z : List ℕ). accepts (at ls s) (z ++ rest)) e ∙ begins ls ls s (spot.In (part.Word word.Ull)) 110 (117 ∷ 108 ∷ 108 ∷ rest) o refl refl refl

-- ---- texts

abbrev in_name : List Level → Bool → List ℕ → Inner → State
in_name ls key name i = at ls (spot.In (part.Text key name i))

raw_step : (key : Bool) (name : List ℕ) (u : ℕ) → is_raw u ≡ true → in_plain key name u ≡ taken.More (part.Text key (name_with name u) inner.Plain)
raw_step key name u h =
    let a = or_parts (u == 34) (u == 92 || nat_lt u 32) (not-true _ h) in
    let b = or_parts (u == 92) (nat_lt u 32) a.1 in
    cond-false (u == 34) _ _ a.0 ∙ cond-false (u == 92) _ _ b.0 ∙ cond-false (nat_lt u 32) _ _ b.1

letter_run : (ls : List Level) (key : Bool) (name : List ℕ) (l : Letter) (rest : List ℕ) → IsLetter l → accepts (in_name ls key name inner.Plain) (letter_units l ++ rest) ≡ accepts (in_name ls key (name_with name (letter_value l)) inner.Plain) rest
letter_run ls key name (Raw u) rest h = more ls (part.Text key name inner.Plain) (part.Text key (name_with name u) inner.Plain) u rest (raw_step key name u h)
letter_run ls key name (Escape u) rest h =
    more ls (part.Text key name inner.Plain) (part.Text key name inner.Escape) 92 (u ∷ rest) refl
    ∙ more ls (part.Text key name inner.Escape) (part.Text key (name_with name (escaped u)) inner.Plain) u rest (cond-false (u == 117) _ _ (apart is_escape u 117 h refl) ∙ cond-true (is_escape u) _ _ h)
letter_run ls key name (Code a b c d) rest h =
    more ls (part.Text key name inner.Plain) (part.Text key name inner.Escape) 92 (117 ∷ a ∷ b ∷ c ∷ d ∷ rest) refl
    ∙ more ls (part.Text key name inner.Escape) (part.Text key name inner.Code0) 117 (a ∷ b ∷ c ∷ d ∷ rest) refl
    ∙ more ls (part.Text key name inner.Code0) (part.Text key name (inner.Code1 a)) a (b ∷ c ∷ d ∷ rest) (cond-true (is_hex a) _ _ h.0)
    ∙ more ls (part.Text key name (inner.Code1 a)) (part.Text key name (inner.Code2 a b)) b (c ∷ d ∷ rest) (cond-true (is_hex b) _ _ h.1)
    ∙ more ls (part.Text key name (inner.Code2 a b)) (part.Text key name (inner.Code3 a b c)) c (d ∷ rest) (cond-true (is_hex c) _ _ h.2)
    ∙ more ls (part.Text key name (inner.Code3 a b c)) (part.Text key (name_with name (code_of a b c d)) inner.Plain) d rest (cond-true (is_hex d) _ _ h.3)

letters_run : (ls : List Level) (key : Bool) (xs : List Letter) (v rest : List ℕ) → Every IsLetter xs → accepts (in_name ls key (clip v) inner.Plain) (flat_map letter_units xs ++ rest) ≡ accepts (in_name ls key (clip (v ++ map letter_value xs)) inner.Plain) rest
letters_run ls key [] v rest h = ap (λ (z : List ℕ). accepts (in_name ls key (clip z) inner.Plain) rest) (sym (append-nil v))
letters_run ls key (x ∷ xs) v rest h =
    ap (λ (z : List ℕ). accepts (in_name ls key (clip v) inner.Plain) z) (append_assoc (letter_units x) (flat_map letter_units xs) rest)
    ∙ letter_run ls key (clip v) x (flat_map letter_units xs ++ rest) h.0
    ∙ ap (λ (z : List ℕ). accepts (in_name ls key z inner.Plain) (flat_map letter_units xs ++ rest)) (clip_with v (letter_value x))
    ∙ letters_run ls key xs (v ++ letter_value x ∷ []) rest h.1
    ∙ ap (λ (z : List ℕ). accepts (in_name ls key (clip z) inner.Plain) rest) (append_assoc v (letter_value x ∷ []) (map letter_value xs))

-- the units behind the first quote
quoted_run : (ls : List Level) (key : Bool) (xs : List Letter) (rest : List ℕ) → Every IsLetter xs → closed key (clip (map letter_value xs)) ≡ taken.Closed → accepts (in_name ls key [] inner.Plain) ((flat_map letter_units xs ++ 34 ∷ []) ++ rest) ≡ accepts (at ls (behind key)) rest
quoted_run ls key xs rest h c =
    ap (λ (z : List ℕ). accepts (in_name ls key [] inner.Plain) z) (append_assoc (flat_map letter_units xs) (34 ∷ []) rest)
    ∙ letters_run ls key xs [] (34 ∷ rest) h ∙ closes ls (part.Text key (clip (map letter_value xs)) inner.Plain) 34 rest c

pub text_run : (ls : List Level) (s : Spot) (w rest : List ℕ) → Opens ls s → IsText w → accepts (at ls s) (w ++ rest) ≡ accepts (at ls spot.Done) rest
text_run ls s w rest o t =
    ap (λ (z : List ℕ). accepts (at ls s) (z ++ rest)) t.text
    ∙ begins ls ls s (spot.In (part.Text false [] inner.Plain)) 34 ((flat_map letter_units t.letters ++ 34 ∷ []) ++ rest) o refl refl refl
    ∙ quoted_run ls false t.letters rest t.are refl

pub key_run : (ls : List Level) (s : Spot) (w rest : List ℕ) → step_at ls s 34 ≡ stay ls (spot.In (part.Text true [] inner.Plain)) → IsKey w → accepts (at ls s) (w ++ rest) ≡ accepts (at ls spot.Colon) rest
key_run ls s w rest e t =
    ap (λ (z : List ℕ). accepts (at ls s) (z ++ rest)) t.text
    ∙ move ls ls s (spot.In (part.Text true [] inner.Plain)) 34 ((flat_map letter_units t.letters ++ 34 ∷ []) ++ rest) e
    ∙ quoted_run ls true t.letters rest t.are (cond-false (is_one_of (clip (map letter_value t.letters)) refused_names) taken.Bad taken.Closed (allowed_told (map letter_value t.letters) t.spells))

-- ---- numbers

-- what may stand behind a number
abbrev pub NoMore : List ℕ → Type 0
NoMore [] = Unit {0}
NoMore (u ∷ us) = (is_digit u ≡ false) × ((u == 46) ≡ false) × (is_mark u ≡ false)

abbrev pub in_number_at : List Level → NumberAt → State
in_number_at ls n = at ls (spot.In (part.Number n))

pub more_number : (ls : List Level) (n m : NumberAt) (u : ℕ) (us : List ℕ) → in_number n u ≡ number_at m → accepts (in_number_at ls n) (u ∷ us) ≡ accepts (in_number_at ls m) us
more_number ls n m u us e = more ls (part.Number n) (part.Number m) u us e

fraction_ended : (n : Digits) (places u : ℕ) → is_mark u ≡ false → is_safe n 0 places ≡ true → behind_fraction n places u ≡ taken.Ended
fraction_ended n places u m s = cond-false (is_mark u) _ _ m ∙ cond-true (is_safe n 0 places) taken.Ended taken.Bad s

whole_ended : (n : Digits) (u : ℕ) → (u == 46) ≡ false → is_mark u ≡ false → is_safe n 0 0 ≡ true → behind_whole n u ≡ taken.Ended
whole_ended n u d m s = cond-false (u == 46) _ _ d ∙ fraction_ended n 0 u m s

number_ended : (n : NumberAt) (u : ℕ) → is_digit u ≡ false → (u == 46) ≡ false → is_mark u ≡ false → is_whole n ≡ true → in_number n u ≡ taken.Ended
number_ended number.Minus u d p m s = cc
number_ended number.Zero u d p m s = whole_ended digits.Zero u p m refl
number_ended (number.Whole n) u d p m s = cond-false (is_digit u) _ _ d ∙ whole_ended n u p m s
number_ended (number.Point n) u d p m s = cc
number_ended (number.Fraction n places) u d p m s = cond-false (is_digit u) _ _ d ∙ fraction_ended n places u m s
number_ended (number.Mark n places) u d p m s = cc
number_ended (number.Sign n places down) u d p m s = cc
number_ended (number.Exponent n places down e) u d p m s = cond-false (is_digit u) _ _ d ∙ cond-true (is_safe_with n places down e) taken.Ended taken.Bad s

end_stops : (ls : List Level) (n : NumberAt) → is_whole n ≡ true → stops_at ls (spot.In (part.Number n)) ≡ stops_at ls spot.Done
end_stops [] n s = s
end_stops (l ∷ ls) n s = refl

pub number_end : (ls : List Level) (n : NumberAt) (rest : List ℕ) → NoMore rest → is_whole n ≡ true → accepts (in_number_at ls n) rest ≡ accepts (at ls spot.Done) rest
number_end ls n [] m s = end_stops ls n s
number_end ls n (u ∷ us) m s = ends ls (part.Number n) u us (number_ended n u m.0 m.1 m.2 s)

abbrev pub pushes : Digits → List ℕ → Digits
pushes n [] = n
pushes n (d ∷ ds) = pushes (push n d) ds

abbrev pub counted : ℕ → List ℕ → ℕ
counted k [] = k
counted k (d ∷ ds) = counted (min (k + 1) most) ds

abbrev pub raises : ℕ → List ℕ → ℕ
raises e [] = e
raises e (d ∷ ds) = raises (raised e d) ds

pub whole_run : (ls : List Level) (ds : List ℕ) (n : Digits) (rest : List ℕ) → Every (Passes is_digit) ds → accepts (in_number_at ls (number.Whole n)) (ds ++ rest) ≡ accepts (in_number_at ls (number.Whole (pushes n ds))) rest
whole_run ls [] n rest h = refl
whole_run ls (d ∷ ds) n rest h = more_number ls (number.Whole n) (number.Whole (push n d)) d (ds ++ rest) (cond-true (is_digit d) _ _ h.0) ∙ whole_run ls ds (push n d) rest h.1

pub fraction_run : (ls : List Level) (ds : List ℕ) (n : Digits) (k : ℕ) (rest : List ℕ) → Every (Passes is_digit) ds → accepts (in_number_at ls (number.Fraction n k)) (ds ++ rest) ≡ accepts (in_number_at ls (number.Fraction (pushes n ds) (counted k ds))) rest
fraction_run ls [] n k rest h = refl
fraction_run ls (d ∷ ds) n k rest h = more_number ls (number.Fraction n k) (number.Fraction (push n d) (min (k + 1) most)) d (ds ++ rest) (cond-true (is_digit d) _ _ h.0) ∙ fraction_run ls ds (push n d) (min (k + 1) most) rest h.1

pub exponent_run : (ls : List Level) (ds : List ℕ) (n : Digits) (k : ℕ) (b : Bool) (e : ℕ) (rest : List ℕ) → Every (Passes is_digit) ds → accepts (in_number_at ls (number.Exponent n k b e)) (ds ++ rest) ≡ accepts (in_number_at ls (number.Exponent n k b (raises e ds))) rest
exponent_run ls [] n k b e rest h = refl
exponent_run ls (d ∷ ds) n k b e rest h = more_number ls (number.Exponent n k b e) (number.Exponent n k b (raised e d)) d (ds ++ rest) (cond-true (is_digit d) _ _ h.0) ∙ exponent_run ls ds n k b (raised e d) rest h.1

pub held_pushes : (es ds : List ℕ) (n : Digits) → Every (Passes is_digit) es → length ds + length es < most → Held ds n → Held (ds ++ es) (pushes n es)
held_pushes [] ds n h l k = subst (λ (z : List ℕ). Held z n) (sym (append-nil ds)) k
held_pushes (e ∷ es) ds n h l k =
    let len = length-append ds (e ∷ []) in
    subst (λ (z : List ℕ). Held z (pushes (push n e) es)) (append_assoc ds (e ∷ []) es) (held_pushes es (ds ++ e ∷ []) (push n e) h.1 (omega (arith, l, len)) (held_push ds e n h.0 (omega (arith, l)) k))

pub counted_exact : (ds : List ℕ) (k : ℕ) → k + length ds ≤ most → counted k ds ≡ k + length ds
counted_exact [] k l = omega arith
counted_exact (d ∷ ds) k l =
    ap (λ (x : ℕ). counted x ds) (min-eq_left (omega (arith, l))) ∙ counted_exact ds (k + 1) (omega (arith, l)) ∙ omega arith

pub raises_exact : (ds : List ℕ) (t : ℕ) → raises (min t most) ds ≡ min (decimal_from t ds) most
raises_exact [] t = refl
raises_exact (d ∷ ds) t = ap (λ (x : ℕ). raises x ds) (raised_exact t d) ∙ raises_exact ds (10 * t + (d - 48))

pub with_told : (ds : List ℕ) (n : Digits) (places t : ℕ) (b : Bool) → Held ds n → SafeAt (decimal ds) (cond b 0 t) (places + cond b t 0) → is_safe_with n places b t ≡ true
with_told ds n places t true h e = safe_told ds n 0 (places + t) h e
with_told ds n places t false h e = safe_told ds n t places h (subst (λ (x : ℕ). SafeAt (decimal ds) t x) (omega arith) e)
