-- Numbers in decimal.
use Rattle.std.proofs.Common.{◌≡◌, ℕ, ◌<◌, ◌≤◌, ◌^◌, zero, suc, refl, sym, ap, subst, ◌∙◌, arith, get_or, List, [], ◌∷◌, length, Some, Result, Ok, Err, Bool, true, false}
use Rattle.std.specs.Prelude.{◌↔◌}
use Rattle.std.proofs.lemmas.Bool.{false≢true}
use Rattle.wd_config.proofs.Exact.{finds_one}
use Rattle.std.specs.Fmt.{decimal}
use Rattle.std.specs.Str.{IsUtf8}
use Rattle.std.specs.Str.Parse.{ParsesUnsigned, AllDigits, digits_value}
use Rattle.std.proofs.lemmas.Fmt.{IsAscii-decimal, parse-decimal, decimal-digits_value, decimal_is_IsNumeral, first_decimal, decimal_digit, decimal_injective}
use Rattle.std.proofs.lemmas.Result.{OkIff-at_ok}
use Rattle.std.proofs.lemmas.Str.{IsUtf8-from_ascii}
use Rattle.std.proofs.lemmas.Str.Parse.{IsNumeralModel, parse_plain, digit_from_value}
use Rattle.std.proofs.lemmas.List.Elements.{All-nil, All-cons}
use Rattle.wd_config.specs.Cut.{IsNot, Lacks}
use Rattle.wd_config.specs.Numbers.{BeginsAsNumber}

own : IsNumeralModel (AllDigits 10) (digits_value 10)
own = record { to = λ ds d. d; from = λ ds d. d; same = λ ds d. refl }

first_digit : (text : List ℕ) → BeginsAsNumber text → get_or text 0 0 ≡ 43 → ⊥
first_digit [] b e = b
first_digit (x ∷ xs) b e = let h : x ≡ 43 = e in let k : 48 ≤ x = b.0 in omega arith

alone : (text : List ℕ) → BeginsAsNumber text → get_or text 0 0 ≡ 48 → length text ≡ 1
alone [] b e = absurd b
alone (x ∷ xs) b e = let h : xs ≡ [] = b.2 e in ap (λ t. suc (length t)) h

-- what is parsed is what is written
pub parsed : {E : Type 0} (text : List ℕ) (r : Result ℕ E) (n : ℕ) → BeginsAsNumber text → ParsesUnsigned 32 10 text r → r ≡ Ok n → text ≡ decimal n
parsed text r n b h e =
    let p = parse_plain own 32 text r h (first_digit text b) in
    let q = OkIff-at_ok r (AllDigits 10 text × (0 < length text) × (digits_value 10 text < 2 ^ 32)) (digits_value 10 text) n p e in
    let small : digits_value 10 text < 2 ^ 32 = q.0.2 in
    sym (decimal-digits_value own text q.0.0 q.0.1 (alone text b) (omega arith)) ∙ ap decimal (sym q.1)

-- what is written is parsed
pub written : {E : Type 0} (text : List ℕ) (r : Result ℕ E) (n : ℕ) → ParsesUnsigned 32 10 text r → n < 2 ^ 32 → text ≡ decimal n → r ≡ Ok n
written text r n h small e = parse-decimal 32 n text r small (omega arith) e h

-- a number's decimal is a text
pub is_text : (text : List ℕ) (n : ℕ) → n < 2 ^ 32 → text ≡ decimal n → IsUtf8 text
is_text text n small e = subst IsUtf8 (sym e) (IsUtf8-from_ascii (decimal n) (IsAscii-decimal n (omega arith)))

begins_so : (text : List ℕ) → AllDigits 10 text → 48 < get_or text 0 0 → BeginsAsNumber text
begins_so [] d h = let g : 48 < 0 = h in absurd (omega arith)
begins_so (x ∷ xs) d h =
    let g : 48 < x = h in
    let k : (48 ≤ x) × (x ≤ 57) = digit_from_value x d.0 in
    (k.0, k.1, (λ e. let f : x ≡ 48 = e in absurd (omega arith)))

begins_zero : BeginsAsNumber (48 ∷ [])
begins_zero = (omega arith, omega arith, (λ e. refl))

pub begins : (n : ℕ) → n < 2 ^ 32 → BeginsAsNumber (decimal n)
begins zero small = subst BeginsAsNumber (sym (decimal_digit 0 (omega arith))) begins_zero
begins (suc n) small = begins_so (decimal (suc n)) (decimal_is_IsNumeral (suc n) (omega arith)).0.1 (first_decimal (suc n) (omega arith) (omega arith))

-- no mark is among digits
digits_lack : (mark : ℕ) (text : List ℕ) → mark < 48 → AllDigits 10 text → Lacks mark text
digits_lack mark [] low d = All-nil (IsNot mark)
digits_lack mark (x ∷ xs) low d =
    let k : (48 ≤ x) × (x ≤ 57) = digit_from_value x d.0 in
    let at_least : 48 ≤ x = k.0 in
    All-cons (IsNot mark) x xs (λ e. let f : x ≡ mark = e in omega arith) (digits_lack mark xs low d.1)

pub number_lacks : (mark n : ℕ) → mark < 48 → n < 2 ^ 32 → Lacks mark (decimal n)
number_lacks mark n low small = digits_lack mark (decimal n) low (decimal_is_IsNumeral n (omega arith)).0.1

above_lacks : (text : List ℕ) → AllDigits 10 text → Lacks 58 text
above_lacks [] d = All-nil (IsNot 58)
above_lacks (x ∷ xs) d =
    let k : (48 ≤ x) × (x ≤ 57) = digit_from_value x d.0 in
    let most : x ≤ 57 = k.1 in
    All-cons (IsNot 58) x xs (λ e. let f : x ≡ 58 = e in omega arith) (above_lacks xs d.1)

pub colon_lacks : (n : ℕ) → n < 2 ^ 32 → Lacks 58 (decimal n)
colon_lacks n small = above_lacks (decimal n) (decimal_is_IsNumeral n (omega arith)).0.1

-- one number is written so
pub same_number : (n m : ℕ) → n < 2 ^ 32 → m < 2 ^ 32 → decimal n ≡ decimal m → n ≡ m
same_number n m a b e = decimal_injective n m (omega arith) (omega arith) e

-- ---- the answers

-- nothing is written where the text begins otherwise
pub not_begun : (text : List ℕ) (most n : ℕ) → most < 2 ^ 32 → (BeginsAsNumber text → ⊥) → (text ≡ decimal n) × (n ≤ most) → ⊥
not_begun text most n small apart p = let h : n ≤ most = p.1 in apart (subst BeginsAsNumber (sym p.0) (begins n (omega arith)))

pub not_text : (text : List ℕ) (most n : ℕ) → most < 2 ^ 32 → (IsUtf8 text → ⊥) → (text ≡ decimal n) × (n ≤ most) → ⊥
not_text text most n small apart p = let h : n ≤ most = p.1 in apart (is_text text n (omega arith) p.0)

is_right : {E : Type 0} → Result ℕ E → Bool
is_right (Ok n) = true
is_right (Err e) = false

-- nor where it is no number
pub not_parsed : {E : Type 0} (text : List ℕ) (r : Result ℕ E) (x : E) (most n : ℕ) → most < 2 ^ 32 → ParsesUnsigned 32 10 text r → r ≡ Err x → (text ≡ decimal n) × (n ≤ most) → ⊥
unfolding is_right
not_parsed text r x most n small h e p =
    let k : n ≤ most = p.1 in
    let good : r ≡ Ok n = written text r n h (omega arith) p.0 in
    false≢true (ap is_right (sym e ∙ good))

value_of : {E : Type 0} → Result ℕ E → ℕ
value_of (Ok n) = n
value_of (Err e) = 0

-- the number that was parsed is the one that is written
one_number : {E : Type 0} (text : List ℕ) (r : Result ℕ E) (most m n : ℕ) → most < 2 ^ 32 → ParsesUnsigned 32 10 text r → r ≡ Ok m → (text ≡ decimal n) × (n ≤ most) → m ≡ n
unfolding value_of
one_number text r most m n small h e p =
    let k : n ≤ most = p.1 in
    ap value_of (sym e ∙ written text r n h (omega arith) p.0)

-- nor where the number is too high
pub not_small : {E : Type 0} (text : List ℕ) (r : Result ℕ E) (most m n : ℕ) → most < 2 ^ 32 → ParsesUnsigned 32 10 text r → r ≡ Ok m → most < m → (text ≡ decimal n) × (n ≤ most) → ⊥
not_small text r most m n small h e high p =
    let k : n ≤ most = p.1 in
    let s : m ≡ n = one_number text r most m n small h e p in
    omega arith

pub one_parsed : {E : Type 0} (text : List ℕ) (r : Result ℕ E) (most m : ℕ) → most < 2 ^ 32 → BeginsAsNumber text → ParsesUnsigned 32 10 text r → r ≡ Ok m → m ≤ most → (n : ℕ) → (Some m ≡ Some n) ↔ ((text ≡ decimal n) × (n ≤ most))
one_parsed text r most m small b h e low =
    finds_one (λ n. (text ≡ decimal n) × (n ≤ most)) (Some m) m refl (parsed text r m b h e, low) (λ n p. one_number text r most m n small h e p)
