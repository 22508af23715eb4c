-- Truth values, and what tests of units decide.
use Rattle.std.proofs.Common.{◌≡◌, ℕ, ◌<◌, ◌≤◌, Bool, true, false, cond, List, [], ◌∷◌, refl, ap, subst, arith, ◌⊎◌, inl, inr}
use Rattle.std.specs.Prelude.{not, ◌&&◌, ◌||◌, ◌==◌, nat_le}
use Rattle.std.proofs.lemmas.Bool.{eqb-true, leb-true, lt-leb}
use Rattle.js_lex.specs.Units.{is_between, is_white, is_line_end, is_digit, is_part, is_name}
use Rattle.js_lex.specs.Lists.{In}

pub cond_yes : {A : Type 0} (r : Bool) (x y : A) → r ≡ true → cond r x y ≡ x
cond_yes true x y e = refl
cond_yes false x y e = cc

pub cond_no : {A : Type 0} (r : Bool) (x y : A) → r ≡ false → cond r x y ≡ y
cond_no true x y e = cc
cond_no false x y e = refl

pub cond_ap : {A B : Type 0} (f : A → B) (r : Bool) (x y : A) → f (cond r x y) ≡ cond r (f x) (f y)
cond_ap f true x y = refl
cond_ap f false x y = refl

pub either : (r : Bool) → (r ≡ true) ⊎ (r ≡ false)
either true = inl refl
either false = inr refl

pub or_split : (a b : Bool) → (a || b) ≡ true → (a ≡ true) ⊎ (b ≡ true)
or_split true b h = inl refl
or_split false b h = inr h

pub or_no : (a b : Bool) → a ≡ false → b ≡ false → (a || b) ≡ false
or_no true b h k = cc
or_no false b h k = k

pub or_first : (a b : Bool) → (a || b) ≡ false → a ≡ false
or_first true b h = h
or_first false b h = refl

pub or_second : (a b : Bool) → (a || b) ≡ false → b ≡ false
or_second true b h = cc
or_second false b h = h

pub or_yes_first : (a b : Bool) → a ≡ true → (a || b) ≡ true
or_yes_first true b h = refl
or_yes_first false b h = cc

pub or_yes_second : (a b : Bool) → b ≡ true → (a || b) ≡ true
or_yes_second true b h = refl
or_yes_second false b h = h

pub and_first : (a b : Bool) → (a && b) ≡ true → a ≡ true
and_first true b h = refl
and_first false b h = h

pub and_second : (a b : Bool) → (a && b) ≡ true → b ≡ true
and_second true b h = h
and_second false b h = cc

pub and_both : (a b : Bool) → a ≡ true → b ≡ true → (a && b) ≡ true
and_both true b h k = k
and_both false b h k = cc

pub and_no_first : (a b : Bool) → a ≡ false → (a && b) ≡ false
and_no_first true b h = cc
and_no_first false b h = refl

pub and_no_second : (a b : Bool) → b ≡ false → (a && b) ≡ false
and_no_second true b h = h
and_no_second false b h = refl

pub not_yes : (a : Bool) → not a ≡ true → a ≡ false
not_yes true h = cc
not_yes false h = refl

pub not_no : (a : Bool) → a ≡ false → not a ≡ true
not_no true h = cc
not_no false h = refl

-- a test that is not passed by n tells n apart
apart_test : (f : ℕ → Bool) (b n : ℕ) (r : Bool) → (b == n) ≡ r → f b ≡ true → f n ≡ false → r ≡ false
apart_test f b n true e h k = let same : f b ≡ f n = ap f (eqb-true b n e) in cc
apart_test f b n false e h k = refl

pub apart : (f : ℕ → Bool) (b n : ℕ) → f b ≡ true → f n ≡ false → (b == n) ≡ false
apart f b n h k = apart_test f b n (b == n) refl h k

pub between_high : (l h b : ℕ) → is_between l h b ≡ true → b ≤ h
between_high l h b e = leb-true b h (and_second (nat_le l b) (nat_le b h) e)

pub between_low : (l h b : ℕ) → is_between l h b ≡ true → l ≤ b
between_low l h b e = leb-true l b (and_first (nat_le l b) (nat_le b h) e)

pub below : (l h b : ℕ) → b < l → is_between l h b ≡ false
below l h b x = ap (λ (r : Bool). r && nat_le b h) (lt-leb l b x)

-- ---- white space, line ends and names

white_no : (u : ℕ) → (u == 9) ≡ false → (u == 11) ≡ false → (u == 12) ≡ false → (u == 65279) ≡ false → (u == 32) ≡ false → (u == 160) ≡ false → (u == 5760) ≡ false → is_between 8192 8202 u ≡ false → (u == 8239) ≡ false → (u == 8287) ≡ false → (u == 12288) ≡ false → is_white u ≡ false
white_no u a b c d e f g h i j k = cc

line_end_no : (f : ℕ → Bool) (u : ℕ) → f u ≡ true → f 10 ≡ false → f 13 ≡ false → f 8232 ≡ false → f 8233 ≡ false → is_line_end u ≡ false
line_end_no f u h a b c d = or_no _ _ (or_no _ _ (apart f u 10 h a) (apart f u 13 h b)) (or_no _ _ (apart f u 8232 h c) (apart f u 8233 h d))

part_high : (u : ℕ) → is_part u ≡ true → u ≤ 122
part_high u h = elim (or_split (is_between 65 90 u || is_between 97 122 u) (is_digit u || (u == 95 || u == 36)) h) [
  | inl l ↦ elim (or_split (is_between 65 90 u) (is_between 97 122 u) l) [
    | inl a ↦ (let x = between_high 65 90 u a in omega (arith, x))
    | inr a ↦ between_high 97 122 u a
  ]
  | inr r ↦ elim (or_split (is_digit u) (u == 95 || u == 36) r) [
    | inl d ↦ (let x = between_high 48 57 u d in omega (arith, x))
    | inr e ↦ elim (or_split (u == 95) (u == 36) e) [
      | inl a ↦ (let x = eqb-true u 95 a in omega (arith, x))
      | inr a ↦ (let x = eqb-true u 36 a in omega (arith, x))
    ]
  ]
]

part_no_white : (u : ℕ) → is_part u ≡ true → is_white u ≡ false
part_no_white u h =
    let x = part_high u h in
    white_no u (apart is_part u 9 h refl) (apart is_part u 11 h refl) (apart is_part u 12 h refl) (apart is_part u 65279 h refl) (apart is_part u 32 h refl) (apart is_part u 160 h refl) (apart is_part u 5760 h refl) (below 8192 8202 u (omega (arith, x))) (apart is_part u 8239 h refl) (apart is_part u 8287 h refl) (apart is_part u 12288 h refl)

pub name_no_white : (u : ℕ) → is_name u ≡ true → is_white u ≡ false
name_no_white u h = elim (or_split (is_part u) (nat_le 128 u && not (is_white u || is_line_end u)) h) [
  | inl p ↦ part_no_white u p
  | inr r ↦ or_first (is_white u) (is_line_end u) (not_yes (is_white u || is_line_end u) (and_second (nat_le 128 u) (not (is_white u || is_line_end u)) r))
]

pub name_no_line_end : (u : ℕ) → is_name u ≡ true → is_line_end u ≡ false
name_no_line_end u h = line_end_no is_name u h refl refl refl refl

pub white_no_line_end : (u : ℕ) → is_white u ≡ true → is_line_end u ≡ false
white_no_line_end u h = line_end_no is_white u h refl refl refl refl

pub digit_part : (u : ℕ) → is_digit u ≡ true → is_part u ≡ true
digit_part u h = or_yes_second (is_between 65 90 u || is_between 97 122 u) (is_digit u || (u == 95 || u == 36)) (or_yes_first (is_digit u) (u == 95 || u == 36) h)

pub part_name : (u : ℕ) → is_part u ≡ true → is_name u ≡ true
part_name u h = or_yes_first (is_part u) (nat_le 128 u && not (is_white u || is_line_end u)) h

pub digit_name : (u : ℕ) → is_digit u ≡ true → is_name u ≡ true
digit_name u h = part_name u (digit_part u h)

-- ---- tests of every row of a table

abbrev pub all_of : {A : Type 0} → (A → Bool) → List A → Bool
all_of f [] = true
all_of f (x ∷ xs) = f x && all_of f xs

pub in_all : {A : Type 0} (f : A → Bool) (x : A) (xs : List A) → In x xs → all_of f xs ≡ true → f x ≡ true
in_all f x [] i h = absurd i
in_all f x (y ∷ ys) (inl e) h = subst (λ z. f z ≡ true) e (and_first (f y) (all_of f ys) h)
in_all f x (y ∷ ys) (inr i) h = in_all f x ys i (and_second (f y) (all_of f ys) h)
