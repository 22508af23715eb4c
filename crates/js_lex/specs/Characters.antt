-- The characters of strings and templates (ECMA-262, sections 12.9.4 and 12.9.6).
use Rattle.std.specs.Prelude.{◌≡◌, ◌≤◌, ℕ, true, false, ◌||◌, ◌==◌, List, [], ◌∷◌, ◌++◌, ◌⊎◌, length, flat_map}
use Rattle.js_lex.specs.declared.letters.Quote.{Quote}
use Rattle.js_lex.specs.declared.letters.Quote.TheVariants as quote
use Rattle.js_lex.specs.declared.letters.Ending.{Ending}
use Rattle.js_lex.specs.declared.letters.Ending.TheVariants as ending
use Rattle.js_lex.specs.Units.{Text, is_line_end, is_digit, is_hex, value}
use Rattle.js_lex.specs.Values.{code_units, escaped}
use Rattle.js_lex.specs.Lists.{Passes, Every, In, NotNext, is}

-- one character of a string or a template, as it is written
pub data Character : Type 0 where
  -- the unit itself
  Plain : ℕ → Character
  -- a line end of a template, CR or CR LF
  Line : Text → Character
  -- `\` and a unit (CharacterEscapeSequence)
  Escape : ℕ → Character
  -- `\0`
  Nul : Character
  -- `\x` and two digits (HexEscapeSequence)
  HexPair : ℕ → ℕ → Character
  -- `\u` and four digits
  Four : ℕ → ℕ → ℕ → ℕ → Character
  -- `\u{`, digits and `}`
  CodePoint : Text → Character
  -- `\` and a line end (LineContinuation)
  Continued : Text → Character

-- the units that a character is written with
abbrev pub character_units : Character → Text
character_units (Plain u) = u ∷ []
character_units (Line e) = e
character_units (Escape u) = 92 ∷ u ∷ []
character_units Nul = 92 ∷ 48 ∷ []
character_units (HexPair h l) = 92 ∷ 120 ∷ h ∷ l ∷ []
character_units (Four a b c d) = 92 ∷ 117 ∷ a ∷ b ∷ c ∷ d ∷ []
character_units (CodePoint ds) = 92 ∷ 117 ∷ 123 ∷ (ds ++ 125 ∷ [])
character_units (Continued e) = 92 ∷ e

-- SV and TV: the units that it stands for
abbrev pub character_value : Character → List ℕ
character_value (Plain u) = u ∷ []
character_value (Line e) = 10 ∷ []
character_value (Escape u) = escaped u ∷ []
character_value Nul = 0 ∷ []
character_value (HexPair h l) = value 16 0 (h ∷ l ∷ []) ∷ []
character_value (Four a b c d) = value 16 0 (a ∷ b ∷ c ∷ d ∷ []) ∷ []
character_value (CodePoint ds) = code_units (value 16 0 ds)
character_value (Continued e) = []

-- LineTerminatorSequence (section 12.3), with a text behind it: LF, CR where no LF follows, LS, PS, CR LF
abbrev pub LineEnds : Text → Text → Type 0
LineEnds e z = ((e ≡ 13 ∷ []) × NotNext (is 10) z) ⊎ In e ((10 ∷ []) ∷ (8232 ∷ []) ∷ (8233 ∷ []) ∷ (13 ∷ 10 ∷ []) ∷ [])

-- CR or CR LF
abbrev pub Returns : Text → Text → Type 0
Returns e z = ((e ≡ 13 ∷ []) × NotNext (is 10) z) ⊎ (e ≡ 13 ∷ 10 ∷ [])

-- The quote, and `\`, are no plain units; nor are LF and CR in a string, nor CR and the `$` of `${` in a template.
abbrev pub IsPlain : Quote → ℕ → Text → Type 0
IsPlain quote.Single u z = (u == 39 || (u == 92 || (u == 10 || u == 13))) ≡ false
IsPlain quote.Double u z = (u == 34 || (u == 92 || (u == 10 || u == 13))) ≡ false
IsPlain quote.Template u z = ((u == 96 || (u == 92 || u == 13)) ≡ false) × ((u == 36) ≡ true → NotNext (is 123) z)

-- HexDigits, here without separators
abbrev pub HexDigits : Text → Type 0
HexDigits ds = Every (Passes is_hex) ds × (1 ≤ length ds)

-- the character stands in such a literal, with a text behind it
abbrev pub StandsIn : Quote → Character → Text → Type 0
StandsIn q (Plain u) z = IsPlain q u z
StandsIn q (Line e) z = (q ≡ quote.Template) × Returns e z
StandsIn q (Escape u) z = (u == 120 || (u == 117 || (is_digit u || is_line_end u))) ≡ false
StandsIn q Nul z = NotNext is_digit z
StandsIn q (HexPair h l) z = Every (Passes is_hex) (h ∷ l ∷ [])
StandsIn q (Four a b c d) z = Every (Passes is_hex) (a ∷ b ∷ c ∷ d ∷ [])
StandsIn q (CodePoint ds) z = HexDigits ds × (value 16 0 ds ≤ 1114111)
StandsIn q (Continued e) z = LineEnds e z

-- the units that characters are written with, one behind another
abbrev pub characters_units : List Character → Text
characters_units cs = flat_map character_units cs

-- these are characters of such a literal, with a text behind them
abbrev pub AreCharacters : Quote → List Character → Text → Type 0
AreCharacters q [] z = Unit {0}
AreCharacters q (c ∷ cs) z = StandsIn q c (characters_units cs ++ z) × AreCharacters q cs z

-- the quote that a literal begins and ends with: `'`, `"` or a backtick
abbrev pub mark : Quote → ℕ
mark quote.Single = 39
mark quote.Double = 34
mark quote.Template = 96

-- the quote, or `${`
abbrev pub ending_text : Quote → Ending → Text
ending_text q ending.Closed = mark q ∷ []
ending_text q ending.Hole = 36 ∷ 123 ∷ []

-- SV and TV: the units that characters stand for, one behind another
abbrev pub characters_value : List Character → List ℕ
characters_value cs = flat_map character_value cs
