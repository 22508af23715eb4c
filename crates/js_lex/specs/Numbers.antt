-- Numbers (ECMA-262, section 12.9.3).
use Rattle.std.specs.Prelude.{◌≡◌, ℕ, Bool, true, false, cond, ◌||◌, ◌==◌, [], ◌∷◌, ◌++◌, ◌⊎◌, Option, Some, None}
use Rattle.js_lex.specs.Units.{Text, is_digit, is_hex, is_between, value}
use Rattle.js_lex.specs.Lists.{In, is, some}

-- DecimalDigits, and the digits of the other bases, with NumericLiteralSeparator, `_`, between two of them or not; `true` where a digit comes next
abbrev pub Digits : (ℕ → Bool) → Bool → Text → Type 0
Digits f next [] = next ≡ false
Digits f next (u ∷ z) = ((f u ≡ true) × Digits f false z) ⊎ ((u ≡ 95) × (next ≡ false) × Digits f true z)

-- DecimalIntegerLiteral: `0`, or digits of which the first is none
abbrev pub IsInteger : Text → Type 0
IsInteger [] = ⊥
IsInteger (d ∷ ds) = (is_digit d ≡ true) × Digits is_digit false ds × ((d == 48) ≡ true → ds ≡ [])

-- NonDecimalIntegerLiteral: the two letters of each base, and its digits
pub data Radix : Type 0 where
  Hex : Radix
  Octal : Radix
  Binary : Radix

-- the base: 16, 8 or 2
abbrev pub radix_value : Radix → ℕ
radix_value Hex = 16
radix_value Octal = 8
radix_value Binary = 2

-- the letter behind `0` that tells the base: `x`, `o` or `b`, small or large
abbrev pub is_mark : Radix → ℕ → Bool
is_mark Hex u = u == 120 || u == 88
is_mark Octal u = u == 111 || u == 79
is_mark Binary u = u == 98 || u == 66

-- HexDigit, OctalDigit or BinaryDigit
abbrev pub is_digit_of : Radix → ℕ → Bool
is_digit_of Hex u = is_hex u
is_digit_of Octal u = is_between 48 55 u
is_digit_of Binary u = is_between 48 49 u

-- ExponentPart, or nothing
pub data Exponent : Type 0 where
  NoExponent : Exponent
  -- `e` or `E`, a sign or nothing, and digits
  Exponential : ℕ → Text → Text → Exponent

-- the units that an exponent is written with
abbrev pub exponent_units : Exponent → Text
exponent_units NoExponent = []
exponent_units (Exponential e s ds) = e ∷ (s ++ ds)

-- ExponentPart: `e` or `E`, then `+`, `-` or no sign, then digits
abbrev pub IsExponent : Exponent → Type 0
IsExponent NoExponent = Unit {0}
IsExponent (Exponential e s ds) = ((e == 101 || e == 69) ≡ true) × In s ([] ∷ (43 ∷ []) ∷ (45 ∷ []) ∷ []) × Digits is_digit true ds

-- digits, or nothing
abbrev pub OrNone : (ℕ → Bool) → Text → Type 0
OrNone f ds = (ds ≡ []) ⊎ Digits f true ds

-- `.` and digits, perhaps none; or nothing
pub data Fraction : Type 0 where
  NoFraction : Fraction
  Fractional : Text → Fraction

-- the units that a fraction is written with
abbrev pub fraction_units : Fraction → Text
fraction_units NoFraction = []
fraction_units (Fractional fs) = 46 ∷ fs

-- a fraction's digits, with separators between them or without, or none
abbrev pub IsFraction : Fraction → Type 0
IsFraction NoFraction = Unit {0}
IsFraction (Fractional fs) = OrNone is_digit fs

-- NumericLiteral, as it is written
pub data Number : Type 0 where
  -- DecimalLiteral: an integer, a fraction and an exponent
  Decimal : Text → Fraction → Exponent → Number
  -- DecimalLiteral: `.`, digits and an exponent
  Point : Text → Exponent → Number
  -- DecimalBigIntegerLiteral: an integer and `n`
  Big : Text → Number
  -- NonDecimalIntegerLiteral: `0`, the letter of its base and digits; `true` with `n` behind them
  Based : Radix → ℕ → Text → Bool → Number

-- BigIntLiteralSuffix, or nothing
abbrev pub suffix : Bool → Text
suffix true = 110 ∷ []
suffix false = []

-- the units that a number is written with
abbrev pub number_units : Number → Text
number_units (Decimal ds f e) = ds ++ (fraction_units f ++ exponent_units e)
number_units (Point fs e) = 46 ∷ (fs ++ exponent_units e)
number_units (Big ds) = ds ++ suffix true
number_units (Based r m ds b) = 48 ∷ m ∷ (ds ++ suffix b)

-- each part of the number is one that NumericLiteral allows
abbrev pub IsNumber : Number → Type 0
IsNumber (Decimal ds f e) = IsInteger ds × IsFraction f × IsExponent e
IsNumber (Point fs e) = Digits is_digit true fs × IsExponent e
IsNumber (Big ds) = IsInteger ds
IsNumber (Based r m ds b) = (is_mark r m ≡ true) × Digits (is_digit_of r) true ds

-- section 12.9.3.3, MV, of digits without separators
abbrev pub digits_value : ℕ → Text → Option ℕ
digits_value base ds = cond (some (is 95) ds) None (Some (value base 0 ds))

-- of the numbers that are read: integers without separators and `n`
abbrev pub number_value : Number → Option ℕ
number_value (Decimal ds NoFraction NoExponent) = digits_value 10 ds
number_value (Based r m ds false) = digits_value (radix_value r) ds
number_value _ = None
