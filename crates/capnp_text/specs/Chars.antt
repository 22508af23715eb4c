-- The bytes of a text, by their ASCII codes.
use Rattle.std.specs.Prelude.{ℕ, ◌+◌, ◌-◌, ◌*◌, Bool, cond, ◌&&◌, ◌||◌, ◌==◌, nat_le, Option, Some, None}
use Rattle.capnp_text.specs.declared.token.TokenKind.{TokenKind}
use Rattle.capnp_text.specs.declared.token.TokenKind.TheVariants as tok

-- from `low` to `high`, both included
abbrev pub is_between : ℕ → ℕ → ℕ → Bool
is_between low high b = nat_le low b && nat_le b high

-- space, tab, CR, LF
abbrev pub is_blank : ℕ → Bool
is_blank b = (b == 32 || b == 9) || (b == 13 || b == 10)

-- 0 to 9
abbrev pub is_digit : ℕ → Bool
is_digit b = is_between 48 57 b

-- A to Z, a to z
abbrev pub is_letter : ℕ → Bool
is_letter b = is_between 65 90 b || is_between 97 122 b

-- what may follow in a name: a letter, a digit or `_`
abbrev pub is_inner : ℕ → Bool
is_inner b = is_letter b || (is_digit b || b == 95)

-- 0 to 9, A to F, a to f
abbrev pub is_hex : ℕ → Bool
is_hex b = is_digit b || (is_between 65 70 b || is_between 97 102 b)

-- the value of a hexadecimal digit
abbrev pub digit_of : ℕ → ℕ
digit_of b = cond (is_digit b) (b - 48) (cond (is_between 65 70 b) (b - 65 + 10) (cond (is_between 97 102 b) (b - 97 + 10) 0))

-- the byte of two hexadecimal digits
abbrev pub byte_of : ℕ → ℕ → ℕ
byte_of high low = 16 * digit_of high + digit_of low

-- what may stand behind `\` on its own: n t r \ " '
abbrev pub is_escape : ℕ → Bool
is_escape b = ((b == 110 || b == 116) || b == 114) || ((b == 92 || b == 34) || b == 39)

-- what it stands for: LF, tab, CR, and the others themselves
abbrev pub escaped : ℕ → ℕ
escaped b = cond (b == 110) 10 (cond (b == 116) 9 (cond (b == 114) 13 b))

-- the token of one byte
abbrev pub sign : ℕ → Option TokenKind
sign b =
    cond (b == 44) (Some tok.Comma)
    (cond (b == 61) (Some tok.Equals)
    (cond (b == 59) (Some tok.Semicolon)
    (cond (b == 58) (Some tok.Colon)
    (cond (b == 46) (Some tok.Dot)
    (cond (b == 64) (Some tok.At)
    (cond (b == 40) (Some tok.OpenParen)
    (cond (b == 41) (Some tok.CloseParen)
    (cond (b == 91) (Some tok.OpenBracket)
    (cond (b == 93) (Some tok.CloseBracket) None)))))))))
