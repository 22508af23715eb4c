-- Numbers (ECMA-404, section 8) that are safe integers (ECMA-262, section 21.1.2.5).
use Rattle.std.specs.Prelude.{◌≡◌, ◌≤◌, ℕ, ◌+◌, ◌-◌, ◌*◌, ◌^◌, Bool, true, false, cond, List, [], ◌∷◌, ◌++◌, ◌⊎◌, ◌==◌, length}
use Rattle.js_json.specs.Units.{is_digit, is_mark}
use Rattle.js_json.specs.Lists.{Every, Passes}

-- what may stand before the digits of an exponent
pub data Sign : Type 0 where
  Bare : Sign
  Plus : Sign
  Minus : Sign

-- A number's digits: the whole ones, those behind the point, and those of the exponent behind `e` or `E`. No digits stand for no
-- point or no exponent.
pub record Number : Type 0 where
  pub minus : Bool
  pub whole : List ℕ
  pub fraction : List ℕ
  pub mark : ℕ
  pub sign : Sign
  pub exponent : List ℕ

-- 0, or digits of which the first is not 0
abbrev pub IsWhole : List ℕ → Type 0
IsWhole us = (us ≡ 48 ∷ []) ⊎ ((d : ℕ) × (ds : List ℕ) × (us ≡ d ∷ ds) × (is_digit d ≡ true) × ((d == 48) ≡ false) × Every (Passes is_digit) ds)

-- the parts of a number are those that the grammar allows (ECMA-404, section 8)
pub record IsNumber (n : Number) : Type 0 where
  pub whole : IsWhole n.whole
  pub fraction : Every (Passes is_digit) n.fraction
  pub mark : is_mark n.mark ≡ true
  pub exponent : Every (Passes is_digit) n.exponent

-- `-` where the number is below zero, else nothing
abbrev pub minus_units : Bool → List ℕ
minus_units true = 45 ∷ []
minus_units false = []

-- the point and the digits behind it, or nothing where there are none
abbrev pub fraction_units : List ℕ → List ℕ
fraction_units [] = []
fraction_units (d ∷ ds) = 46 ∷ d ∷ ds

-- the sign before the exponent's digits, or nothing
abbrev pub sign_units : Sign → List ℕ
sign_units Bare = []
sign_units Plus = 43 ∷ []
sign_units Minus = 45 ∷ []

-- the mark, the sign and the digits of the exponent, or nothing where there are no digits
abbrev pub exponent_units : ℕ → Sign → List ℕ → List ℕ
exponent_units mark sign [] = []
exponent_units mark sign (d ∷ ds) = mark ∷ (sign_units sign ++ d ∷ ds)

-- the units that a number is written with
abbrev pub number_units : Number → List ℕ
number_units n = (minus_units n.minus ++ (n.whole ++ fraction_units n.fraction)) ++ exponent_units n.mark n.sign n.exponent

-- the number that decimal digits spell, behind those that spell n
abbrev pub decimal_from : ℕ → List ℕ → ℕ
decimal_from n [] = n
decimal_from n (d ∷ ds) = decimal_from (10 * n + (d - 48)) ds

-- the number that decimal digits spell
abbrev pub decimal : List ℕ → ℕ
decimal ds = decimal_from 0 ds

-- the exponent is below zero
abbrev pub is_down : Sign → Bool
is_down Minus = true
is_down _ = false

-- the exponent's size where it is above zero, and where it is below
abbrev pub up : Number → ℕ
up n = cond (is_down n.sign) 0 (decimal n.exponent)

-- the size of the exponent where it is below zero, and 0 where it is not
abbrev pub down : Number → ℕ
down n = cond (is_down n.sign) (decimal n.exponent) 0

-- The number is whole and, its sign apart, at most 2 ^ 53 - 1: some such v is digits * 10 ^ (exponent - places).
abbrev pub IsSafe : Number → Type 0
IsSafe n = (v : ℕ) × (v ≤ 9007199254740991) × (v * 10 ^ (length n.fraction + down n) ≡ decimal (n.whole ++ n.fraction) * 10 ^ up n)

-- the text of such a number
pub record IsSafeNumber (us : List ℕ) : Type 0 where
  pub number : Number
  pub is : IsNumber number
  pub safe : IsSafe number
  pub text : us ≡ number_units number
