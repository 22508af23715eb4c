-- The letters of string literals and templates: what private functions tell. The contract of `lex` speaks of Grammar alone.
use Rattle.std.specs.Prelude.{◌≤◌, ℕ, zero, suc, ◌+◌, ◌-◌, ◌*◌, ◌/◌, ◌%◌, cond, not, ◌&&◌, ◌||◌, ◌==◌, nat_le, List, [], ◌∷◌, ◌++◌, take, drop, length, slice_index, Option, Some, None}
use Rattle.js_lex.specs.declared.units.Class.TheVariants as class
use Rattle.js_lex.specs.declared.letters.Quote.{Quote}
use Rattle.js_lex.specs.declared.letters.Quote.TheVariants as quote
use Rattle.js_lex.specs.declared.letters.Meaning.{Meaning}
use Rattle.js_lex.specs.declared.letters.Meaning.TheVariants as m
use Rattle.js_lex.specs.declared.letters.Letter.{Letter}
use Rattle.js_lex.specs.declared.letters.Ending.{Ending}
use Rattle.js_lex.specs.declared.letters.Ending.TheVariants as ending
use Rattle.js_lex.specs.declared.letters.Next.{Next}
use Rattle.js_lex.specs.declared.letters.Next.TheVariants as next
use Rattle.js_lex.specs.declared.letters.Body.{Body}
use Rattle.js_lex.specs.Units.{Text, is_line_end, is_digit, is_hex, digit_of}
use Rattle.js_lex.specs.Runs.{past, numeral}
use Rattle.js_lex.specs.Values.{escaped}

-- the units that a letter means: none, one, or a pair of surrogates
abbrev pub meant : Meaning → List ℕ
meant m.Nothing = []
meant (m.One u) = u ∷ []
meant (m.Pair u v) = u ∷ v ∷ []

-- what a code point is encoded by (`code_units`)
abbrev pub encoded : ℕ → Meaning
encoded c = cond (nat_le 65536 c) (m.Pair (55296 + (c - 65536) / 1024) (56320 + (c - 65536) % 1024)) (m.One c)

-- a letter of one unit and n more
abbrev pub one : ℕ → ℕ → Option Letter
one n u = Some (record { more = n; meaning = m.One u })

-- ---- escapes: of the text behind `\`

-- ECMA-262, section 12.9.4, HexEscapeSequence: two digits behind `x`
abbrev pub hex_escape : Text → Option Letter
hex_escape z = let h = slice_index z 0 in let l = slice_index z 1 in cond (nat_le 2 (length z) && (is_hex h && is_hex l)) (one 3 (16 * digit_of h + digit_of l)) None

-- Hex4Digits behind `u`
abbrev pub four_digits : Text → Option Letter
four_digits z =
    let a = slice_index z 0 in
    let b = slice_index z 1 in
    let c = slice_index z 2 in
    let d = slice_index z 3 in
    cond (nat_le 4 (length z) && ((is_hex a && is_hex b) && (is_hex c && is_hex d))) (one 5 (4096 * digit_of a + 256 * digit_of b + (16 * digit_of c + digit_of d))) None

-- a letter that means this code point, where there is one
abbrev pub of_code : ℕ → Option ℕ → Option Letter
of_code n None = None
of_code n (Some c) = Some (record { more = n; meaning = encoded c })

-- CodePoint behind `u{`: digits up to `}`, at most 10FFFF
abbrev pub code_point : Text → Option Letter
code_point z = let n = past class.Hex z 0 in cond (n == 0 || not (slice_index z n == 125)) None (of_code (n + 3) (numeral 1114111 16 0 (take n z)))

-- UnicodeEscapeSequence
-- `u` and four digits, or `u{`, the digits of a code point and `}` (section 12.9.4)
abbrev pub unicode_escape : Text → Option Letter
unicode_escape z = cond (slice_index z 0 == 123) (code_point (drop 1 z)) (four_digits z)

-- `0` before no digit is NUL; no other digit may stand here
abbrev pub digit_escape : ℕ → Text → Option Letter
digit_escape u z = cond (u == 48 && not (is_digit (slice_index z 0))) (one 1 0) None

-- CR LF is one line end
abbrev pub line_units : ℕ → Text → ℕ
line_units u z = cond (u == 13 && slice_index z 0 == 10) 1 0

-- LineContinuation, which stands for nothing
abbrev pub line_continuation : ℕ → Text → Option Letter
line_continuation u z = Some (record { more = 1 + line_units u z; meaning = m.Nothing })

-- EscapeSequence, or LineContinuation
abbrev pub escape_of : ℕ → Text → Option Letter
escape_of u z =
    cond (u == 120) (hex_escape z)
    (cond (u == 117) (unicode_escape z) (cond (is_digit u) (digit_escape u z) (cond (is_line_end u) (line_continuation u z) (one 1 (escaped u)))))

-- the letter of an escape, behind its `\`
abbrev pub escape : Text → Option Letter
escape [] = None
escape (u ∷ z) = escape_of u z

-- ---- letters

-- A unit for itself: in a string neither LF nor CR; in a template CR, and CR LF, stand for LF (section 12.9.6.1, TV).
abbrev pub raw : Quote → ℕ → Text → Option Letter
raw quote.Template u z = cond (u == 13) (one (line_units u z) 10) (one 0 u)
raw _ u z = cond (u == 10 || u == 13) None (one 0 u)

-- a letter at the front: an escape, or a unit for itself
abbrev pub letter_of : Quote → ℕ → Text → Option Letter
letter_of q u z = cond (u == 92) (escape z) (raw q u z)

-- what ends the text: the quote, or `${` in a template
abbrev pub ends : Quote → ℕ → Text → Option Ending
ends quote.Single u z = cond (u == 39) (Some ending.Closed) None
ends quote.Double u z = cond (u == 34) (Some ending.Closed) None
ends quote.Template u z = cond (u == 96) (Some ending.Closed) (cond (u == 36 && slice_index z 0 == 123) (Some ending.Hole) None)

-- how many units an ending has: one for a quote, two for `${`
abbrev pub ending_units : Ending → ℕ
ending_units ending.Closed = 1
ending_units ending.Hole = 2

-- what comes next is this letter; without one the literal is broken
abbrev pub read : Option Letter → Next
read None = next.Broken
read (Some l) = next.Letter l

-- what comes next is the end of the literal, or where there is none a letter
abbrev pub end_or : Option Ending → Option Letter → Next
end_or None l = read l
end_or (Some e) l = next.End e

-- it is within so many units behind the first
abbrev pub Fits : Next → ℕ → Type 0
Fits next.Broken n = Unit {0}
Fits (next.End e) n = ending_units e ≤ 1 + n
Fits (next.Letter l) n = l.more ≤ n

-- what comes next
abbrev pub next_of : Quote → ℕ → Text → Next
next_of q u z = end_or (ends q u z) (letter_of q u z)

-- ---- the letters one after another, up to the end

-- the text behind a letter, with what the letter means and its units before it
abbrev pub after : List ℕ → ℕ → Option Body → Option Body
after w n None = None
after w n (Some b) = Some (record { value = w ++ b.value; units = n + b.units; ending = b.ending })

-- what comes next, and the text behind it where it is a letter
abbrev pub joined : Next → (ℕ → Option Body) → Option Body
joined next.Broken f = None
joined (next.End e) f = Some (record { value = []; units = ending_units e; ending = e })
joined (next.Letter l) f = after (meant l.meaning) (1 + l.more) (f l.more)

-- what stands behind a quote, where the first units of the text, so many, are of a letter before
abbrev pub body_of : Quote → ℕ → Text → Option Body
body_of q n [] = None
body_of q (suc n) (u ∷ z) = body_of q n z
body_of q zero (u ∷ z) = joined (next_of q u z) (λ n. body_of q n z)
