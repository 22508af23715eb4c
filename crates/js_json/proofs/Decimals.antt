-- The number that digits spell, and what is kept of it.
use Rattle.std.proofs.Common.{◌≡◌, ℕ, zero, suc, ◌+◌, ◌-◌, ◌*◌, ◌^◌, ◌≤◌, ◌<◌, Bool, true, false, cond, List, [], ◌∷◌, ◌++◌, inl, inr, length, refl, sym, ◌∙◌, ap, subst, arith}
use Rattle.std.specs.Prelude.{min, ◌==◌, nat_lt, nat_le, ◌&&◌}
use Rattle.std.proofs.Math.Nat.{pow-suc, one-le-pow, pow-le-pow_right, min-eq_left, min-eq_right, eq_of_mul-eq-mul_right, mul_assoc}
use Rattle.std.proofs.lemmas.Nat.{pow-add, mul-le}
use Rattle.std.proofs.lemmas.Bool.{leb-true, leb-false, ltb-false, le-leb, lt-leb, lt-ltb, le-ltb, eqb-true, eqb-false, cases_lt, and_parts, and_from, and_left}
use Rattle.std.proofs.lemmas.List.{length-append}
use Rattle.js_json.specs.declared.machine.Digits.{Digits}
use Rattle.js_json.specs.declared.machine.Digits.TheVariants as digits
use Rattle.js_json.specs.Units.{is_digit}
use Rattle.js_json.specs.Number.{decimal_from, decimal}
use Rattle.js_json.specs.Machine.{most_safe, most, fitted, grown, push, raised, fits, is_safe, is_safe_with}

-- ---- digits

pub decimal_push : (ds : List ℕ) (n u : ℕ) → decimal_from n (ds ++ u ∷ []) ≡ 10 * decimal_from n ds + (u - 48)
decimal_push [] n u = refl
decimal_push (d ∷ ds) n u = decimal_push ds (10 * n + (d - 48)) u

-- a number that does not end in 0
abbrev pub Sharp : ℕ → Type 0
Sharp q = (k : ℕ) → q ≡ 10 * k → ⊥

pub digit_above : (u : ℕ) → is_digit u ≡ true → 48 ≤ u
digit_above u h = leb-true 48 u (and_parts (nat_le 48 u) (nat_le u 57) h).0

pub digit_below : (u : ℕ) → is_digit u ≡ true → u ≤ 57
digit_below u h = leb-true u 57 (and_parts (nat_le 48 u) (nat_le u 57) h).1

pub pow_one : (z : ℕ) → 10 ^ (z + 1) ≡ 10 ^ z * 10
pow_one z = ap (λ (n : ℕ). 10 ^ n) (omega arith) ∙ pow-suc 10 z

-- one more 0
more_zero : (c z : ℕ) → 10 * (c * 10 ^ z) ≡ c * 10 ^ (z + 1)
more_zero c z = rw (pow_one z) (omega arith)

-- What is kept of these digits.
pub record HeldExact (ds : List ℕ) (c z : ℕ) : Type 0 where
  pub is : decimal ds ≡ c * 10 ^ z
  pub sharp : Sharp c
  pub short : z ≤ length ds
  pub low : c ≤ most_safe

pub record HeldWide (ds : List ℕ) : Type 0 where
  pub number : ℕ
  pub zeros : ℕ
  pub is : decimal ds ≡ number * 10 ^ zeros
  pub sharp : Sharp number
  pub high : most_safe < number

abbrev pub Held : List ℕ → Digits → Type 0
Held ds digits.Zero = decimal ds ≡ 0
Held ds (digits.Exact c z) = HeldExact ds c z
Held ds digits.Wide = HeldWide ds

sharp_of : (x v : ℕ) → 1 ≤ v → v ≤ 9 → Sharp (10 * x + v)
sharp_of x v h i k e = omega (arith, h, i, e)

sharp_low : (v : ℕ) → 1 ≤ v → v ≤ 9 → Sharp v
sharp_low v h i k e = omega (arith, h, i, e)

sharp_positive : (q : ℕ) → Sharp q → 1 ≤ q
sharp_positive zero s = absurd (s 0 refl)
sharp_positive (suc q) s = omega arith

length_more : (ds : List ℕ) (u : ℕ) → length (ds ++ u ∷ []) ≡ length ds + 1
length_more ds u = length-append ds (u ∷ [])

wide_of : (ds : List ℕ) (n : ℕ) → decimal ds ≡ n → Sharp n → most_safe < n → HeldWide ds
wide_of ds n e s h = record { number = n; zeros = 0; is = e ∙ omega arith; sharp = s; high = h }

exact_of : (ds : List ℕ) (n : ℕ) → decimal ds ≡ n → Sharp n → n ≤ most_safe → HeldExact ds n 0
exact_of ds n e s h = record { is = e ∙ omega arith; sharp = s; short = omega arith; low = h }

held_fitted : (ds : List ℕ) (n : ℕ) (r : Bool) → nat_le n most_safe ≡ r → decimal ds ≡ n → Sharp n → Held ds (cond r (digits.Exact n 0) digits.Wide)
held_fitted ds n true t e s = exact_of ds n e s (leb-true n most_safe t)
held_fitted ds n false t e s = wide_of ds n e s (leb-false n most_safe t)

times_at_least : (c p : ℕ) → 1 ≤ c → p ≤ c * p
times_at_least c p h = let m : 1 * p ≤ c * p = mul-le 1 p c p h (omega arith) in omega (arith, m)

held_grown : (ds : List ℕ) (c z v : ℕ) (r : Bool) → nat_lt z 16 ≡ r → decimal ds ≡ c * 10 ^ (z + 1) + v → Sharp (c * 10 ^ (z + 1) + v) → 1 ≤ c → Held ds (cond r (fitted (c * 10 ^ (z + 1) + v)) digits.Wide)
held_grown ds c z v true t e s h = held_fitted ds (c * 10 ^ (z + 1) + v) (nat_le (c * 10 ^ (z + 1) + v) most_safe) refl e s
held_grown ds c z v false t e s h =
    let a : 10 ^ 16 ≤ 10 ^ (z + 1) = pow-le-pow_right {n = 10} (omega arith) {i = 16} {j = z + 1} (omega (arith, ltb-false z 16 t)) in
    let b : 10 ^ (z + 1) ≤ c * 10 ^ (z + 1) = times_at_least c (10 ^ (z + 1)) h in
    wide_of ds (c * 10 ^ (z + 1) + v) e s (omega (arith, a, b))

held_zero : (ds : List ℕ) (u : ℕ) (r : Bool) → (u == 48) ≡ r → is_digit u ≡ true → decimal ds ≡ 0 → Held (ds ++ u ∷ []) (cond r digits.Zero (digits.Exact (u - 48) 0))
held_zero ds u true t d e = let p = decimal_push ds 0 u in let s = eqb-true u 48 t in omega (arith, p, s, e)
held_zero ds u false t d e =
    let p = decimal_push ds 0 u in
    let low = digit_above u d in
    let high = digit_below u d in
    let apart : 1 ≤ u - 48 = elim (cases_lt 48 u) [ inl h ↦ omega (arith, h) | inr h ↦ absurd (eqb-false u 48 t (omega (arith, h, low))) ] in
    exact_of (ds ++ u ∷ []) (u - 48) (omega (arith, p, e)) (sharp_low (u - 48) apart (omega (arith, high))) (omega (arith, high))

one_up : (u : ℕ) → (u == 48) ≡ false → is_digit u ≡ true → 1 ≤ u - 48
one_up u t d = let low = digit_above u d in elim (cases_lt 48 u) [ inl h ↦ omega (arith, h) | inr h ↦ absurd (eqb-false u 48 t (omega (arith, h, low))) ]

sharp_more : (x c z v : ℕ) → x ≡ c * 10 ^ (z + 1) → x ≡ 10 * (c * 10 ^ z) → 1 ≤ v → v ≤ 9 → Sharp (c * 10 ^ (z + 1) + v)
sharp_more x c z v e f h i = subst Sharp (ap (λ (n : ℕ). n + v) (sym f ∙ e)) (sharp_of (c * 10 ^ z) v h i)

held_exact : (ds : List ℕ) (u c z : ℕ) (r : Bool) → (u == 48) ≡ r → is_digit u ≡ true → length ds < most → HeldExact ds c z → Held (ds ++ u ∷ []) (cond r (digits.Exact c (min (z + 1) most)) (grown c z (u - 48)))
held_exact ds u c z true t d l h =
    let p = decimal_push ds 0 u in
    let s = eqb-true u 48 t in
    let m = more_zero c z in
    let hs = h.short in
    let same : z + 1 ≡ min (z + 1) most = sym (min-eq_left (omega (arith, l, hs))) in
    let hi = h.is in
    let len = length_more ds u in
    subst (λ (n : ℕ). HeldExact (ds ++ u ∷ []) c n) same (record { is = omega (arith, p, s, m, hi); sharp = h.sharp; short = omega (arith, hs, len); low = h.low })
held_exact ds u c z false t d l h =
    let p = decimal_push ds 0 u in
    let m = more_zero c z in
    let hi = h.is in
    let low = one_up u t d in
    let high = digit_below u d in
    held_grown (ds ++ u ∷ []) c z (u - 48) (nat_lt z 16) refl (omega (arith, p, m, hi)) (sharp_more (c * 10 ^ (z + 1)) c z (u - 48) refl (sym m) low (omega (arith, high))) (sharp_positive c h.sharp)

held_wide : (ds : List ℕ) (u : ℕ) (r : Bool) → (u == 48) ≡ r → is_digit u ≡ true → HeldWide ds → HeldWide (ds ++ u ∷ [])
held_wide ds u true t d h =
    let p = decimal_push ds 0 u in
    let s = eqb-true u 48 t in
    let m = more_zero h.number h.zeros in
    let hi = h.is in
    record { number = h.number; zeros = h.zeros + 1; is = omega (arith, p, s, m, hi); sharp = h.sharp; high = h.high }
held_wide ds u false t d h =
    let p = decimal_push ds 0 u in
    let m = more_zero h.number h.zeros in
    let hi = h.is in
    let low = one_up u t d in
    let high = digit_below u d in
    let a : 1 ≤ 10 ^ h.zeros = one-le-pow h.zeros 10 (omega arith) in
    let b : h.number * 1 ≤ h.number * 10 ^ h.zeros = mul-le h.number 1 h.number (10 ^ h.zeros) (omega arith) a in
    let c = h.high in
    wide_of (ds ++ u ∷ []) (h.number * 10 ^ (h.zeros + 1) + (u - 48)) (omega (arith, p, m, hi)) (sharp_more (h.number * 10 ^ (h.zeros + 1)) h.number h.zeros (u - 48) refl (sym m) low (omega (arith, high))) (omega (arith, b, c, m))

-- One more digit is kept.
pub held_push : (ds : List ℕ) (u : ℕ) (n : Digits) → is_digit u ≡ true → length ds < most → Held ds n → Held (ds ++ u ∷ []) (push n u)
held_push ds u digits.Zero d l h = held_zero ds u (u == 48) refl d h
held_push ds u (digits.Exact c z) d l h = held_exact ds u c z (u == 48) refl d l h
held_push ds u digits.Wide d l h = held_wide ds u (u == 48) refl d h

-- ---- whole and safe

-- some safe integer is these digits with this exponent
abbrev pub SafeAt : ℕ → ℕ → ℕ → Type 0
SafeAt d up down = (v : ℕ) × (v ≤ most_safe) × (v * 10 ^ down ≡ d * 10 ^ up)

pow_positive : (n : ℕ) → 0 < 10 ^ n
pow_positive n = let a = one-le-pow n 10 (omega arith) in omega (arith, a)

pow_split : (n a b : ℕ) → n ≡ a + b → 10 ^ n ≡ 10 ^ a * 10 ^ b
pow_split n a b e = ap (λ (x : ℕ). 10 ^ x) e ∙ pow-add 10 a b

times_assoc : (a b c : ℕ) → a * b * c ≡ a * (b * c)
times_assoc a b c = mul_assoc a b c

-- a number that does not end in 0 is no number with more zeros
no_more : (v q a b : ℕ) → Sharp q → v * 10 ^ b ≡ q * 10 ^ a → a < b → ⊥
no_more v q a b s e h =
    let split : 10 ^ b ≡ 10 ^ (b - a) * 10 ^ a = pow_split b (b - a) a (omega (arith, h)) in
    let same : v * 10 ^ (b - a) ≡ q = eq_of_mul-eq-mul_right (10 ^ a) (pow_positive a) (v * 10 ^ (b - a)) q (times_assoc v (10 ^ (b - a)) (10 ^ a) ∙ ap (λ (x : ℕ). v * x) (sym split) ∙ e) in
    let one : 10 ^ (b - a) ≡ 10 ^ (b - a - 1) * 10 = ap (λ (n : ℕ). 10 ^ n) (omega (arith, h)) ∙ pow_one (b - a - 1) in
    let ten : q ≡ v * 10 ^ (b - a - 1) * 10 = sym same ∙ ap (λ (x : ℕ). v * x) one ∙ sym (times_assoc v (10 ^ (b - a - 1)) 10) in
    s (v * 10 ^ (b - a - 1)) (omega (arith, ten))

scaled : (v q a b : ℕ) → v * 10 ^ b ≡ q * 10 ^ a → b ≤ a → v ≡ q * 10 ^ (a - b)
scaled v q a b e h =
    let split : 10 ^ a ≡ 10 ^ (a - b) * 10 ^ b = pow_split a (a - b) b (omega (arith, h)) in
    eq_of_mul-eq-mul_right (10 ^ b) (pow_positive b) v (q * 10 ^ (a - b)) (e ∙ ap (λ (x : ℕ). q * x) split ∙ sym (times_assoc q (10 ^ (a - b)) (10 ^ b)))

unscaled : (q a b : ℕ) → b ≤ a → q * 10 ^ (a - b) * 10 ^ b ≡ q * 10 ^ a
unscaled q a b h =
    let split : 10 ^ a ≡ 10 ^ (a - b) * 10 ^ b = pow_split a (a - b) b (omega (arith, h)) in
    times_assoc q (10 ^ (a - b)) (10 ^ b) ∙ ap (λ (x : ℕ). q * x) (sym split)

-- the digits' own zeros count as exponent
regroup : (d c z up : ℕ) → d ≡ c * 10 ^ z → d * 10 ^ up ≡ c * 10 ^ (z + up)
regroup d c z up e = ap (λ (x : ℕ). x * 10 ^ up) e ∙ times_assoc c (10 ^ z) (10 ^ up) ∙ ap (λ (x : ℕ). c * x) (sym (pow-add 10 z up))

not_many : (q k v : ℕ) → 1 ≤ q → v ≡ q * 10 ^ k → v ≤ most_safe → k < 16
not_many q k v s e h = elim (cases_lt k 16) [
  | inl low ↦ low
  | inr high ↦ (let a : 10 ^ 16 ≤ 10 ^ k = pow-le-pow_right {n = 10} (omega arith) {i = 16} {j = k} high in let b : 10 ^ k ≤ q * 10 ^ k = times_at_least q (10 ^ k) s in absurd (omega (arith, a, b, e, h)))
]

fits_safe : (d c z up down : ℕ) → d ≡ c * 10 ^ z → fits c (z + up) down ≡ true → SafeAt d up down
fits_safe d c z up down e h =
    let first = and_parts (nat_le down (z + up)) (nat_lt (z + up - down) 16 && nat_le (c * 10 ^ (z + up - down)) most_safe) h in
    let second = and_parts (nat_lt (z + up - down) 16) (nat_le (c * 10 ^ (z + up - down)) most_safe) first.1 in
    (c * 10 ^ (z + up - down), leb-true _ _ second.1, unscaled c (z + up) down (leb-true _ _ first.0) ∙ sym (regroup d c z up e))

safe_fits : (d c z up down : ℕ) → d ≡ c * 10 ^ z → Sharp c → SafeAt d up down → fits c (z + up) down ≡ true
safe_fits d c z up down e s w =
    let eq : w.0 * 10 ^ down ≡ c * 10 ^ (z + up) = w.2 ∙ regroup d c z up e in
    let below : down ≤ z + up = elim (cases_lt (z + up) down) [ inl h ↦ absurd (no_more w.0 c (z + up) down s eq h) | inr h ↦ h ] in
    let value : w.0 ≡ c * 10 ^ (z + up - down) = scaled w.0 c (z + up) down eq below in
    and_from _ _ (le-leb _ _ below) (and_from _ _ (lt-ltb _ _ (not_many c (z + up - down) w.0 (sharp_positive c s) value w.1)) (le-leb _ _ (subst (λ (x : ℕ). x ≤ most_safe) value w.1)))

wide_unsafe : (ds : List ℕ) (up down : ℕ) → HeldWide ds → SafeAt (decimal ds) up down → ⊥
wide_unsafe ds up down h w =
    let q = h.number in
    let a = h.zeros + up in
    let eq : w.0 * 10 ^ down ≡ q * 10 ^ a = w.2 ∙ regroup (decimal ds) q h.zeros up h.is in
    let below : down ≤ a = elim (cases_lt a down) [ inl i ↦ absurd (no_more w.0 q a down h.sharp eq i) | inr i ↦ i ] in
    let value : w.0 ≡ q * 10 ^ (a - down) = scaled w.0 q a down eq below in
    let one : q * 1 ≤ q * 10 ^ (a - down) = mul-le q 1 q (10 ^ (a - down)) (omega arith) (one-le-pow (a - down) 10 (omega arith)) in
    let low = w.1 in
    let high = h.high in
    omega (arith, value, one, low, high)

nothing : (a b : ℕ) → 0 * a ≡ 0 * b
nothing a b = omega arith

-- The test is exact.
pub safe_found : (ds : List ℕ) (n : Digits) (up down : ℕ) → Held ds n → is_safe n up down ≡ true → SafeAt (decimal ds) up down
safe_found ds digits.Zero up down h t = (0, omega arith, nothing (10 ^ down) (10 ^ up) ∙ ap (λ (x : ℕ). x * 10 ^ up) (sym h))
safe_found ds (digits.Exact c z) up down h t = fits_safe (decimal ds) c z up down h.is t
safe_found ds digits.Wide up down h t = cc

pub safe_told : (ds : List ℕ) (n : Digits) (up down : ℕ) → Held ds n → SafeAt (decimal ds) up down → is_safe n up down ≡ true
safe_told ds digits.Zero up down h w = refl
safe_told ds (digits.Exact c z) up down h w = safe_fits (decimal ds) c z up down h.is h.sharp w
safe_told ds digits.Wide up down h w = absurd (wide_unsafe ds up down h w)

-- ---- exponents

false_last : (r : Bool) → (r && false) ≡ false
false_last true = refl
false_last false = refl

fits_far : (c up down : ℕ) → down + 16 ≤ up → fits c up down ≡ false
fits_far c up down h = ap (λ (r : Bool). nat_le down up && (r && nat_le (c * 10 ^ (up - down)) most_safe)) (le-ltb (up - down) 16 (omega (arith, h))) ∙ false_last (nat_le down up)

fits_none : (c up down : ℕ) → up < down → fits c up down ≡ false
fits_none c up down h = and_left _ _ (lt-leb down up h)

inner_min : (x v : ℕ) → min (min x most + v) most ≡ min (x + v) most
inner_min x v = elim (cases_lt most x) [
  | inl h ↦ ap (λ (y : ℕ). min (y + v) most) (min-eq_right (omega (arith, h))) ∙ min-eq_right (omega arith) ∙ sym (min-eq_right (omega (arith, h)))
  | inr h ↦ ap (λ (y : ℕ). min (y + v) most) (min-eq_left h)
]

-- one more digit of the exponent
pub raised_exact : (t u : ℕ) → raised (min t most) u ≡ min (10 * t + (u - 48)) most
raised_exact t u = elim (cases_lt most t) [
  | inl h ↦ (let a : min t most ≡ most = min-eq_right (omega (arith, h)) in
      ap (λ (x : ℕ). min (min (x * 10) most + (u - 48)) most) a ∙ min-eq_right (omega arith) ∙ sym (min-eq_right (omega (arith, h))))
  | inr h ↦ (let a : min t most ≡ t = min-eq_left h in
      ap (λ (x : ℕ). min (min (x * 10) most + (u - 48)) most) a ∙ inner_min (t * 10) (u - 48) ∙ ap (λ (x : ℕ). min x most) (omega arith))
]

-- an exponent beyond the counter's end decides as that end does
same_false : (a b : Bool) → a ≡ false → b ≡ false → a ≡ b
same_false a b e f = e ∙ sym f

capped_exact : (c z t places : ℕ) (down : Bool) → z < 2 ^ 63 → places < 2 ^ 63 → most < t → is_safe_with (digits.Exact c z) places down most ≡ is_safe_with (digits.Exact c z) places down t
capped_exact c z t places true h i k = same_false _ _ (fits_none c (z + 0) (places + most) (omega (arith, h))) (fits_none c (z + 0) (places + t) (omega (arith, h, k)))
capped_exact c z t places false h i k = same_false _ _ (fits_far c (z + most) places (omega (arith, i))) (fits_far c (z + t) places (omega (arith, i, k)))

capped_digits : (ds : List ℕ) (n : Digits) (t places : ℕ) (down : Bool) → Held ds n → length ds < 2 ^ 63 → places < 2 ^ 63 → most < t → is_safe_with n places down most ≡ is_safe_with n places down t
capped_digits ds digits.Zero t places true h l i k = refl
capped_digits ds digits.Zero t places false h l i k = refl
capped_digits ds (digits.Exact c z) t places down h l i k = let s = h.short in capped_exact c z t places down (omega (arith, s, l)) i k
capped_digits ds digits.Wide t places true h l i k = refl
capped_digits ds digits.Wide t places false h l i k = refl

pub capped : (ds : List ℕ) (n : Digits) (t places : ℕ) (down : Bool) → Held ds n → length ds < 2 ^ 63 → places < 2 ^ 63 → is_safe_with n places down (min t most) ≡ is_safe_with n places down t
capped ds n t places down h l i = elim (cases_lt most t) [
  | inl k ↦ ap (λ (x : ℕ). is_safe_with n places down x) (min-eq_right (omega (arith, k))) ∙ capped_digits ds n t places down h l i k
  | inr k ↦ ap (λ (x : ℕ). is_safe_with n places down x) (min-eq_left k)
]
