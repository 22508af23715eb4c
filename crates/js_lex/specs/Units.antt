-- Classes of UTF-16 units, and the numbers that digits stand for (ECMA-262, sections 12.2, 12.3, 12.7 and 12.9.3).
use Rattle.std.specs.Prelude.{ℕ, ◌+◌, ◌-◌, ◌*◌, Bool, cond, not, ◌&&◌, ◌||◌, ◌==◌, nat_le, List, [], ◌∷◌}

-- units, in order
abbrev pub Text : Type 0
Text = List ℕ

-- the unit is one of those from `low` to `high`, both among them
abbrev pub is_between : ℕ → ℕ → ℕ → Bool
is_between low high u = nat_le low u && nat_le u high

-- ECMA-262, section 12.3, LineTerminator: LF, CR, LS, PS
abbrev pub is_line_end : ℕ → Bool
is_line_end u = (u == 10 || u == 13) || (u == 8232 || u == 8233)

-- section 12.2, WhiteSpace: tab, VT, FF, ZWNBSP, and Unicode's Space_Separator
abbrev pub is_white : ℕ → Bool
is_white u = ((u == 9 || u == 11) || (u == 12 || u == 65279)) || (((u == 32 || u == 160) || (u == 5760 || is_between 8192 8202 u)) || (u == 8239 || (u == 8287 || u == 12288)))

-- section 12.9.3, DecimalDigit
abbrev pub is_digit : ℕ → Bool
is_digit u = is_between 48 57 u

-- HexDigit
-- a decimal digit, or one of the letters A to F, small or large
abbrev pub is_hex : ℕ → Bool
is_hex u = is_digit u || (is_between 65 70 u || is_between 97 102 u)

-- section 12.7, IdentifierPart, of ASCII: a letter, a digit, `_` or `$`
abbrev pub is_part : ℕ → Bool
is_part u = (is_between 65 90 u || is_between 97 122 u) || (is_digit u || (u == 95 || u == 36))

-- a unit of a name: one of ASCII, or one from 128 on that is neither white space nor a line end
abbrev pub is_name : ℕ → Bool
is_name u = is_part u || (nat_le 128 u && not (is_white u || is_line_end u))

-- the value of a digit of any base
abbrev pub digit_of : ℕ → ℕ
digit_of u = cond (is_digit u) (u - 48) (cond (is_between 65 70 u) (u - 65 + 10) (cond (is_between 97 102 u) (u - 97 + 10) 0))

-- section 12.9.3.3, MV: the number that digits stand for behind those of n
abbrev pub value : ℕ → ℕ → Text → ℕ
value base n [] = n
value base n (d ∷ ds) = value base (n * base + digit_of d) ds
