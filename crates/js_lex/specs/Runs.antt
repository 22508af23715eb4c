-- Where runs of units end, and the numbers of digits: what private functions tell. The contract of `lex` speaks of Grammar alone.
use Rattle.std.specs.Prelude.{ℕ, ◌+◌, Bool, true, false, cond, not, ◌&&◌, ◌||◌, ◌==◌, nat_le, [], ◌∷◌, drop, slice_index, Option, Some, None}
use Rattle.std.specs.List.{prefix_len}
use Rattle.js_lex.specs.declared.units.Class.{Class}
use Rattle.js_lex.specs.declared.units.Class.TheVariants as class
use Rattle.js_lex.specs.Units.{Text, is_line_end, is_digit, is_hex, is_name, is_part, is_between, value}

-- the unit is of the class
abbrev pub is_in : Class → ℕ → Bool
is_in class.Name u = is_name u
is_in class.Part u = is_part u
is_in class.Digit u = is_digit u
is_in class.Hex u = is_hex u
is_in class.Octal u = is_between 48 55 u
is_in class.Binary u = is_between 48 49 u
is_in class.Line u = not (is_line_end u)

-- the first place from `at` on whose unit is not of the class
abbrev pub past : Class → Text → ℕ → ℕ
past c z at = at + prefix_len (is_in c) (drop at z)

-- a digit, or a separator before one
abbrev pub goes_on : (ℕ → Bool) → ℕ → Text → Bool
goes_on p u z = p u || (u == 95 && p (slice_index z 0))

-- how many units of digits and separators stand at the front, behind a digit
abbrev pub digits_len : (ℕ → Bool) → Text → ℕ
digits_len p [] = 0
digits_len p (u ∷ z) = cond (goes_on p u z) (1 + digits_len p z) 0

-- their end, from place `at` on
abbrev pub past_digits : Class → Text → ℕ → ℕ
past_digits c z at = at + digits_len (is_in c) (drop at z)

-- and where a digit has to be the first
abbrev pub past_some : Class → Text → ℕ → ℕ
past_some c z at = cond (is_in c (slice_index z at)) (past_digits c z at) at

-- the number, where it is no greater than `max`
abbrev pub at_most : ℕ → ℕ → Option ℕ
at_most max n = cond (nat_le n max) (Some n) None

-- that number, where it is at most `max`
abbrev pub numeral : ℕ → ℕ → ℕ → Text → Option ℕ
numeral max base n ds = at_most max (value base n ds)

-- the text begins with the word
abbrev pub begins : Text → Text → Bool
begins z [] = true
begins [] (b ∷ w) = false
begins (u ∷ z) (b ∷ w) = u == b && begins z w
