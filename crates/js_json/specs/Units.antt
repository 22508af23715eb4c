-- The units of a JSON text (ECMA-404, RFC 8259), by their UTF-16 codes.
use Rattle.std.specs.Prelude.{ℕ, ◌+◌, ◌-◌, ◌*◌, Bool, cond, ◌&&◌, ◌||◌, ◌==◌, nat_le}

-- the unit is one of those from `low` to `high`, both among them
abbrev pub is_between : ℕ → ℕ → ℕ → Bool
is_between low high u = nat_le low u && nat_le u high

-- space, tab, LF, CR
abbrev pub is_blank : ℕ → Bool
is_blank u = (u == 32 || u == 9) || (u == 10 || u == 13)

-- 0 to 9
abbrev pub is_digit : ℕ → Bool
is_digit u = is_between 48 57 u

-- 0 to 9, A to F, a to f
abbrev pub is_hex : ℕ → Bool
is_hex u = is_digit u || (is_between 65 70 u || is_between 97 102 u)

-- the value of a hexadecimal digit
abbrev pub hex_value : ℕ → ℕ
hex_value u = cond (is_digit u) (u - 48) (cond (is_between 65 70 u) (u - 65 + 10) (cond (is_between 97 102 u) (u - 97 + 10) 0))

-- the unit of four hexadecimal digits
abbrev pub code_of : ℕ → ℕ → ℕ → ℕ → ℕ
code_of a b c d = 4096 * hex_value a + 256 * hex_value b + 16 * hex_value c + hex_value d

-- what may stand behind `\` on its own: " \ / b f n r t
abbrev pub is_escape : ℕ → Bool
is_escape u = (((u == 34 || u == 92) || u == 47) || u == 98) || (((u == 102 || u == 110) || u == 114) || u == 116)

-- what it stands for: backspace, form feed, LF, CR, tab, and the others themselves
abbrev pub escaped : ℕ → ℕ
escaped u = cond (u == 98) 8 (cond (u == 102) 12 (cond (u == 110) 10 (cond (u == 114) 13 (cond (u == 116) 9 u))))

-- e or E
abbrev pub is_mark : ℕ → Bool
is_mark u = u == 101 || u == 69
