-- Tests of bytes.
use Rattle.std.proofs.Common.{◌≡◌, ℕ, ◌<◌, ◌≤◌, Bool, true, false, cond, refl, sym, ap, subst, arith, ◌⊎◌, inl, inr, Option, Some, None}
use Rattle.std.specs.Prelude.{not, ◌&&◌, ◌||◌, ◌==◌, nat_le}
use Rattle.std.proofs.lemmas.Bool.{eqb-true, leb-true, le-leb, lt-leb}
use Rattle.capnp_text.specs.declared.token.TokenKind.{TokenKind}
use Rattle.capnp_text.specs.declared.token.TokenKind.TheVariants as tok
use Rattle.capnp_text.specs.Chars.{is_between, is_blank, is_digit, is_letter, is_inner, is_hex, sign}

pub cond_yes : {A : Type 0} (r : Bool) (x y : A) → r ≡ true → cond r x y ≡ x
cond_yes true x y e = refl
cond_yes false x y e = cc

pub cond_no : {A : Type 0} (r : Bool) (x y : A) → r ≡ false → cond r x y ≡ y
cond_no true x y e = cc
cond_no false x y e = refl

pub or_split : (a b : Bool) → (a || b) ≡ true → (a ≡ true) ⊎ (b ≡ true)
or_split true b h = inl refl
or_split false b h = inr h

pub or_no : (a b : Bool) → a ≡ false → b ≡ false → (a || b) ≡ false
or_no true b h k = cc
or_no false b h k = k

pub or_first : (a b : Bool) → (a || b) ≡ false → a ≡ false
or_first true b h = h
or_first false b h = refl

pub or_second : (a b : Bool) → (a || b) ≡ false → b ≡ false
or_second true b h = cc
or_second false b h = h

pub or_yes_first : (a b : Bool) → a ≡ true → (a || b) ≡ true
or_yes_first true b h = refl
or_yes_first false b h = cc

pub or_yes_second : (a b : Bool) → b ≡ true → (a || b) ≡ true
or_yes_second true b h = refl
or_yes_second false b h = h

pub and_first : (a b : Bool) → (a && b) ≡ true → a ≡ true
and_first true b h = refl
and_first false b h = h

pub and_second : (a b : Bool) → (a && b) ≡ true → b ≡ true
and_second true b h = h
and_second false b h = cc

pub and_both : (a b : Bool) → a ≡ true → b ≡ true → (a && b) ≡ true
and_both true b h k = k
and_both false b h k = cc

pub not_yes : (a : Bool) → not a ≡ true → a ≡ false
not_yes true h = cc
not_yes false h = refl

pub not_no : (a : Bool) → a ≡ false → not a ≡ true
not_no true h = cc
not_no false h = refl

-- a test that is not passed by n tells n apart
apart_test : (f : ℕ → Bool) (b n : ℕ) (r : Bool) → (b == n) ≡ r → f b ≡ true → f n ≡ false → r ≡ false
apart_test f b n true e h k = let same : f b ≡ f n = ap f (eqb-true b n e) in cc
apart_test f b n false e h k = refl

pub apart : (f : ℕ → Bool) (b n : ℕ) → f b ≡ true → f n ≡ false → (b == n) ≡ false
apart f b n h k = apart_test f b n (b == n) refl h k

pub no_blank : (f : ℕ → Bool) (b : ℕ) → f b ≡ true → f 32 ≡ false → f 9 ≡ false → f 13 ≡ false → f 10 ≡ false → is_blank b ≡ false
no_blank f b h i j k l = or_no (b == 32 || b == 9) (b == 13 || b == 10) (or_no (b == 32) (b == 9) (apart f b 32 h i) (apart f b 9 h j)) (or_no (b == 13) (b == 10) (apart f b 13 h k) (apart f b 10 h l))

between_low : (l h b : ℕ) → is_between l h b ≡ true → l ≤ b
between_low l h b e = leb-true l b (and_first (nat_le l b) (nat_le b h) e)

between_high : (l h b : ℕ) → is_between l h b ≡ true → b ≤ h
between_high l h b e = leb-true b h (and_second (nat_le l b) (nat_le b h) e)

between : (l h b : ℕ) → l ≤ b → b ≤ h → is_between l h b ≡ true
between l h b x y = and_both (nat_le l b) (nat_le b h) (le-leb l b x) (le-leb b h y)

below : (l h b : ℕ) → b < l → is_between l h b ≡ false
below l h b x = ap (λ (r : Bool). r && nat_le b h) (lt-leb l b x)

pub digit_no_letter : (b : ℕ) → is_digit b ≡ true → is_letter b ≡ false
digit_no_letter b h = let k = between_high 48 57 b h in or_no (is_between 65 90 b) (is_between 97 122 b) (below 65 90 b (omega (arith, k))) (below 97 122 b (omega (arith, k)))

pub digit_inner : (b : ℕ) → is_digit b ≡ true → is_inner b ≡ true
digit_inner b h = or_yes_second (is_letter b) (is_digit b || b == 95) (or_yes_first (is_digit b) (b == 95) h)

pub letter_inner : (b : ℕ) → is_letter b ≡ true → is_inner b ≡ true
letter_inner b h = or_yes_first (is_letter b) (is_digit b || b == 95) h

pub hex_inner : (b : ℕ) → is_hex b ≡ true → is_inner b ≡ true
hex_inner b h = elim (or_split (is_digit b) (is_between 65 70 b || is_between 97 102 b) h) [
  | inl d ↦ digit_inner b d
  | inr r ↦ elim (or_split (is_between 65 70 b) (is_between 97 102 b) r) [
    | inl u ↦ (let x = between_low 65 70 b u in let y = between_high 65 70 b u in letter_inner b (or_yes_first (is_between 65 90 b) (is_between 97 122 b) (between 65 90 b x (omega (arith, y)))))
    | inr l ↦ (let x = between_low 97 102 b l in let y = between_high 97 102 b l in letter_inner b (or_yes_second (is_between 65 90 b) (is_between 97 122 b) (between 97 122 b x (omega (arith, y)))))
  ]
]

no_by : (b : ℕ) (r : Bool) → (r ≡ true → is_inner b ≡ true) → is_inner b ≡ false → r ≡ false
no_by b true f h = let k : is_inner b ≡ true = f refl in cc
no_by b false f h = refl

pub no_inner_no_digit : (b : ℕ) → is_inner b ≡ false → is_digit b ≡ false
no_inner_no_digit b h = no_by b (is_digit b) (digit_inner b) h

pub no_inner_no_hex : (b : ℕ) → is_inner b ≡ false → is_hex b ≡ false
no_inner_no_hex b h = no_by b (is_hex b) (hex_inner b) h

pub no_inner_apart : (b n : ℕ) → is_inner b ≡ false → is_inner n ≡ true → (b == n) ≡ false
no_inner_apart b n h k = apart (λ c. not (is_inner c)) b n (not_no (is_inner b) h) (ap not k)

-- ---- tokens of one byte

test_one : (P : ℕ → TokenKind → Type 0) (n : ℕ) (x : TokenKind) (b : ℕ) (t : TokenKind) (rest : Option TokenKind) (r : Bool) → (b == n) ≡ r → P n x → (rest ≡ Some t → P b t) → cond r (Some x) rest ≡ Some t → P b t
test_one P n x b t rest true e p f h = let same : x ≡ t = cc in subst (λ (z : ℕ). P z t) (sym (eqb-true b n e)) (subst (P n) same p)
test_one P n x b t rest false e p f h = f h

one_of : (P : ℕ → TokenKind → Type 0) (n : ℕ) (x : TokenKind) (b : ℕ) (t : TokenKind) (rest : Option TokenKind) → P n x → (rest ≡ Some t → P b t) → cond (b == n) (Some x) rest ≡ Some t → P b t
one_of P n x b t rest p f h = test_one P n x b t rest (b == n) refl p f h

none : (P : ℕ → TokenKind → Type 0) (b : ℕ) (t : TokenKind) → None ≡ Some t → P b t
none P b t h = cc

pub by_sign : (P : ℕ → TokenKind → Type 0) → P 44 tok.Comma → P 61 tok.Equals → P 59 tok.Semicolon → P 58 tok.Colon → P 46 tok.Dot → P 64 tok.At → P 40 tok.OpenParen → P 41 tok.CloseParen → P 91 tok.OpenBracket → P 93 tok.CloseBracket → (b : ℕ) (t : TokenKind) → sign b ≡ Some t → P b t
by_sign P c e s o d a op cp ob cb b t =
    one_of P 44 tok.Comma b t _ c (one_of P 61 tok.Equals b t _ e (one_of P 59 tok.Semicolon b t _ s (one_of P 58 tok.Colon b t _ o (one_of P 46 tok.Dot b t _ d
    (one_of P 64 tok.At b t _ a (one_of P 40 tok.OpenParen b t _ op (one_of P 41 tok.CloseParen b t _ cp (one_of P 91 tok.OpenBracket b t _ ob (one_of P 93 tok.CloseBracket b t None cb (none P b t))))))))))
