-- Safe numbers are accepted whole.
use Rattle.std.proofs.Common.{◌≡◌, ℕ, ◌+◌, ◌^◌, ◌<◌, Bool, true, false, cond, List, [], ◌∷◌, ◌++◌, inl, inr, length, refl, sym, ◌∙◌, ap, subst, append_assoc, arith}
use Rattle.std.specs.Prelude.{◌==◌, min}
use Rattle.std.proofs.lemmas.Bool.{eqb-true, or_cases, cond-true, cond-false}
use Rattle.std.proofs.lemmas.List.{append-nil, length-append}
use Rattle.js_json.specs.declared.levels.Level.{Level}
use Rattle.js_json.specs.declared.machine.Digits.{Digits}
use Rattle.js_json.specs.declared.machine.Digits.TheVariants as digits
use Rattle.js_json.specs.declared.machine.NumberAt.{NumberAt}
use Rattle.js_json.specs.declared.machine.NumberAt.TheVariants as number
use Rattle.js_json.specs.declared.machine.Part.TheVariants as part
use Rattle.js_json.specs.declared.machine.Spot.{Spot}
use Rattle.js_json.specs.declared.machine.Spot.TheVariants as spot
use Rattle.js_json.specs.Units.{is_digit, is_mark}
use Rattle.js_json.specs.Lists.{Every, Passes}
use Rattle.js_json.specs.Number.{Sign, Bare, Plus, Minus, IsWhole, IsSafeNumber, minus_units, fraction_units, sign_units, exponent_units, decimal, is_down}
use Rattle.js_json.specs.Machine.{stay, begin_part, begin, most, push, raised, is_safe, is_safe_with, is_whole, behind_fraction, behind_whole, in_number, accepts}
use Rattle.js_json.proofs.Tokens.{fraction_length}
use Rattle.js_json.proofs.Decimals.{Held, SafeAt, capped}
use Rattle.js_json.proofs.Runs.{at, apart, no_blank, Opens, begins, NoMore, in_number_at, more_number, number_end, pushes, counted, raises, whole_run, fraction_run, exponent_run, held_pushes, counted_exact, raises_exact, with_told}

-- ---- the whole digits

-- behind the whole digits the reading is at x
record WholeDone (ls : List Level) (s : Spot) (front whole : List ℕ) : Type 0 where
  reached : NumberAt
  kept : Digits
  ran : (rest : List ℕ) → accepts (at ls s) (front ++ (whole ++ rest)) ≡ accepts (in_number_at ls reached) rest
  held : Held whole kept
  behaves : (u : ℕ) → is_digit u ≡ false → in_number reached u ≡ behind_whole kept u
  ends : is_whole reached ≡ is_safe kept 0 0

digit_begin : (ls : List Level) (d : ℕ) → is_digit d ≡ true → (d == 48) ≡ false → begin ls d ≡ stay ls (spot.In (part.Number (number.Whole (push digits.Zero d))))
digit_begin ls d h z =
    cond-false (d == 91) _ _ (apart is_digit d 91 h refl) ∙ cond-false (d == 123) _ _ (apart is_digit d 123 h refl)
    ∙ ap (begin_part ls) (cond-false (d == 34) _ _ (apart is_digit d 34 h refl) ∙ cond-false (d == 45) _ _ (apart is_digit d 45 h refl) ∙ cond-false (d == 48) _ _ z ∙ cond-true (is_digit d) _ _ h)

-- the first digit
first_run : (ls : List Level) (s : Spot) (m : Bool) (d : ℕ) (rest : List ℕ) → Opens ls s → is_digit d ≡ true → (d == 48) ≡ false → accepts (at ls s) (minus_units m ++ d ∷ rest) ≡ accepts (in_number_at ls (number.Whole (push digits.Zero d))) rest
first_run ls s true d rest o h z =
    begins ls ls s (spot.In (part.Number number.Minus)) 45 (d ∷ rest) o refl refl refl
    ∙ more_number ls number.Minus (number.Whole (push digits.Zero d)) d rest (cond-false (d == 48) _ _ z ∙ cond-true (is_digit d) _ _ h)
first_run ls s false d rest o h z =
    begins ls ls s (spot.In (part.Number (number.Whole (push digits.Zero d)))) d rest o (no_blank is_digit d h refl refl refl refl) (apart is_digit d 93 h refl) (digit_begin ls d h z)

zero_run : (ls : List Level) (s : Spot) (m : Bool) (rest : List ℕ) → Opens ls s → accepts (at ls s) (minus_units m ++ 48 ∷ rest) ≡ accepts (in_number_at ls number.Zero) rest
zero_run ls s true rest o = begins ls ls s (spot.In (part.Number number.Minus)) 45 (48 ∷ rest) o refl refl refl ∙ more_number ls number.Minus number.Zero 48 rest refl
zero_run ls s false rest o = begins ls ls s (spot.In (part.Number number.Zero)) 48 rest o refl refl refl

whole_done : (ls : List Level) (s : Spot) (m : Bool) (whole : List ℕ) → Opens ls s → IsWhole whole → length whole < 2 ^ 63 → WholeDone ls s (minus_units m) whole
whole_done ls s m whole o (inl e) l =
    record {
      reached = number.Zero;
      kept = digits.Zero;
      ran = λ rest. ap (λ (z : List ℕ). accepts (at ls s) (minus_units m ++ (z ++ rest))) e ∙ zero_run ls s m rest o;
      held = ap decimal e;
      behaves = λ u h. refl;
      ends = refl;
    }
whole_done ls s m whole o (inr w) l =
    let d = w.0 in
    let ds = w.1 in
    let is = w.2 in
    let len : length whole ≡ length (d ∷ ds) = ap length is in
    record {
      reached = number.Whole (pushes digits.Zero (d ∷ ds));
      kept = pushes digits.Zero (d ∷ ds);
      ran = λ rest. ap (λ (z : List ℕ). accepts (at ls s) (minus_units m ++ (z ++ rest))) is ∙ first_run ls s m d (ds ++ rest) o w.3 w.4 ∙ whole_run ls ds (push digits.Zero d) rest w.5;
      held = subst (λ (z : List ℕ). Held z (pushes digits.Zero (d ∷ ds))) (sym is) (held_pushes (d ∷ ds) [] digits.Zero (w.3, w.5) (omega (arith, l, len)) refl);
      behaves = λ u h. cond-false (is_digit u) _ _ h;
      ends = refl;
    }

-- ---- the digits behind the point

record FrontDone (ls : List Level) (s : Spot) (front whole fraction : List ℕ) : Type 0 where
  reached : NumberAt
  kept : Digits
  ran : (rest : List ℕ) → accepts (at ls s) (front ++ (whole ++ (fraction_units fraction ++ rest))) ≡ accepts (in_number_at ls reached) rest
  held : Held (whole ++ fraction) kept
  behaves : (u : ℕ) → is_digit u ≡ false → (u == 46) ≡ false → in_number reached u ≡ behind_fraction kept (length fraction) u
  ends : is_whole reached ≡ is_safe kept 0 (length fraction)

front_done : (ls : List Level) (s : Spot) (front whole fraction : List ℕ) → WholeDone ls s front whole → Every (Passes is_digit) fraction → length whole + length fraction < 2 ^ 63 → FrontDone ls s front whole fraction
front_done ls s front whole [] w h l =
    record {
      reached = w.reached;
      kept = w.kept;
      ran = w.ran;
      held = subst (λ (z : List ℕ). Held z w.kept) (sym (append-nil whole)) w.held;
      behaves = λ u d p. w.behaves u d ∙ cond-false (u == 46) _ _ p;
      ends = w.ends;
    }
front_done ls s front whole (d ∷ ds) w h l =
    let n = pushes w.kept (d ∷ ds) in
    let k : counted 1 ds ≡ length (d ∷ ds) = counted_exact ds 1 (omega (arith, l)) ∙ omega arith in
    record {
      reached = number.Fraction n (counted 1 ds);
      kept = n;
      ran = λ rest. w.ran (46 ∷ d ∷ (ds ++ rest)) ∙ more_number ls w.reached (number.Point w.kept) 46 (d ∷ (ds ++ rest)) (w.behaves 46 refl)
          ∙ more_number ls (number.Point w.kept) (number.Fraction (push w.kept d) 1) d (ds ++ rest) (cond-true (is_digit d) _ _ h.0) ∙ fraction_run ls ds (push w.kept d) 1 rest h.1;
      held = held_pushes (d ∷ ds) whole w.kept h (omega (arith, l)) w.held;
      behaves = λ u q p. cond-false (is_digit u) _ _ q ∙ ap (λ (x : ℕ). behind_fraction n x u) k;
      ends = ap (λ (x : ℕ). is_safe n 0 x) k;
    }

-- ---- the exponent

mark_no_digit : (u : ℕ) → is_mark u ≡ true → is_digit u ≡ false
mark_no_digit u h = elim (or_cases (u == 101) (u == 69) h) [ inl e ↦ ap is_digit (eqb-true u 101 e) | inr e ↦ ap is_digit (eqb-true u 69 e) ]

mark_run : (ls : List Level) (s : Spot) (front whole fraction : List ℕ) (f : FrontDone ls s front whole fraction) (mark : ℕ) (rest : List ℕ) → is_mark mark ≡ true → accepts (in_number_at ls f.reached) (mark ∷ rest) ≡ accepts (in_number_at ls (number.Mark f.kept (length fraction))) rest
mark_run ls s front whole fraction f mark rest h =
    more_number ls f.reached (number.Mark f.kept (length fraction)) mark rest (f.behaves mark (mark_no_digit mark h) (apart is_mark mark 46 h refl) ∙ cond-true (is_mark mark) _ _ h)

sign_run : (ls : List Level) (n : Digits) (k : ℕ) (sign : Sign) (d : ℕ) (rest : List ℕ) → is_digit d ≡ true → accepts (in_number_at ls (number.Mark n k)) (sign_units sign ++ d ∷ rest) ≡ accepts (in_number_at ls (number.Exponent n k (is_down sign) (raised 0 d))) rest
sign_run ls n k Bare d rest h =
    more_number ls (number.Mark n k) (number.Exponent n k false (raised 0 d)) d rest (cond-false (d == 43) _ _ (apart is_digit d 43 h refl) ∙ cond-false (d == 45) _ _ (apart is_digit d 45 h refl) ∙ cond-true (is_digit d) _ _ h)
sign_run ls n k Plus d rest h =
    more_number ls (number.Mark n k) (number.Sign n k false) 43 (d ∷ rest) refl ∙ more_number ls (number.Sign n k false) (number.Exponent n k false (raised 0 d)) d rest (cond-true (is_digit d) _ _ h)
sign_run ls n k Minus d rest h =
    more_number ls (number.Mark n k) (number.Sign n k true) 45 (d ∷ rest) refl ∙ more_number ls (number.Sign n k true) (number.Exponent n k true (raised 0 d)) d rest (cond-true (is_digit d) _ _ h)

no_exponent : (ds : List ℕ) (n : Digits) (k : ℕ) (b : Bool) → Held ds n → SafeAt (decimal ds) (cond b 0 (decimal [])) (k + cond b (decimal []) 0) → is_safe n 0 k ≡ true
no_exponent ds n k true h s = with_told ds n k 0 false h s
no_exponent ds n k false h s = with_told ds n k 0 false h s

exponent_done : (ls : List Level) (s : Spot) (front whole fraction : List ℕ) (f : FrontDone ls s front whole fraction) (mark : ℕ) (sign : Sign) (es rest : List ℕ) → is_mark mark ≡ true → Every (Passes is_digit) es → length whole + length fraction < 2 ^ 63
    → SafeAt (decimal (whole ++ fraction)) (cond (is_down sign) 0 (decimal es)) (length fraction + cond (is_down sign) (decimal es) 0) → NoMore rest → accepts (in_number_at ls f.reached) (exponent_units mark sign es ++ rest) ≡ accepts (at ls spot.Done) rest
exponent_done ls s front whole fraction f mark sign [] rest m h l safe r = number_end ls f.reached rest r (f.ends ∙ no_exponent (whole ++ fraction) f.kept (length fraction) (is_down sign) f.held safe)
exponent_done ls s front whole fraction f mark sign (d ∷ ds) rest m h l safe r =
    let n = f.kept in
    let k = length fraction in
    let b = is_down sign in
    let t = decimal (d ∷ ds) in
    let len = length-append whole fraction in
    let told : is_safe_with n k b (min t most) ≡ true = capped (whole ++ fraction) n t k b f.held (omega (arith, len, l)) (omega (arith, l)) ∙ with_told (whole ++ fraction) n k t b f.held safe in
    let reached : raises (raised 0 d) ds ≡ min t most = raises_exact (d ∷ ds) 0 in
    ap (λ (z : List ℕ). accepts (in_number_at ls f.reached) (mark ∷ z)) (append_assoc (sign_units sign) (d ∷ ds) rest)
    ∙ mark_run ls s front whole fraction f mark (sign_units sign ++ d ∷ (ds ++ rest)) m
    ∙ sign_run ls n k sign d (ds ++ rest) h.0
    ∙ exponent_run ls ds n k b (raised 0 d) rest h.1
    ∙ number_end ls (number.Exponent n k b (raises (raised 0 d) ds)) rest r (ap (λ (x : ℕ). is_safe_with n k b x) reached ∙ told)

-- ---- numbers

regroup : (a b c d rest : List ℕ) → ((a ++ (b ++ c)) ++ d) ++ rest ≡ a ++ (b ++ (c ++ (d ++ rest)))
regroup a b c d rest = simp append_assoc

pub number_run : (ls : List Level) (s : Spot) (w rest : List ℕ) → Opens ls s → IsSafeNumber w → length w < 2 ^ 63 → NoMore rest → accepts (at ls s) (w ++ rest) ≡ accepts (at ls spot.Done) rest
number_run ls s w rest o t l r =
    let n = t.number in
    let front = minus_units n.minus in
    let tail = exponent_units n.mark n.sign n.exponent in
    let a = ap length t.text in
    let b = length-append (front ++ (n.whole ++ fraction_units n.fraction)) tail in
    let c = length-append front (n.whole ++ fraction_units n.fraction) in
    let d = length-append n.whole (fraction_units n.fraction) in
    let e = fraction_length n.fraction in
    let small : length n.whole + length n.fraction < 2 ^ 63 = omega (arith, a, b, c, d, e, l) in
    let f : FrontDone ls s front n.whole n.fraction = front_done ls s front n.whole n.fraction (whole_done ls s n.minus n.whole o t.is.whole (omega (arith, small))) t.is.fraction small in
    ap (λ (z : List ℕ). accepts (at ls s) (z ++ rest)) t.text
    ∙ ap (λ (z : List ℕ). accepts (at ls s) z) (regroup front n.whole (fraction_units n.fraction) tail rest)
    ∙ f.ran (tail ++ rest)
    ∙ exponent_done ls s front n.whole n.fraction f n.mark n.sign n.exponent rest t.is.mark t.is.exponent small t.safe r
