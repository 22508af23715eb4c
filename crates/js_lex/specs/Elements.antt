-- The elements of a script's text (ECMA-262, section 12): what each one is, and which one a text has at its front.
use Rattle.std.specs.Prelude.{◌≡◌, ◌≤◌, ℕ, Bool, true, false, not, ◌==◌, List, [], ◌∷◌, ◌++◌, ◌⊎◌, length}
use Rattle.js_lex.specs.declared.token.Punctuator.{Punctuator}
use Rattle.js_lex.specs.declared.letters.Quote.{Quote}
use Rattle.js_lex.specs.declared.letters.Quote.TheVariants as quote
use Rattle.js_lex.specs.declared.letters.Ending.{Ending}
use Rattle.js_lex.specs.Tables.{punctuators}
use Rattle.js_lex.specs.Units.{Text, is_line_end, is_white, is_digit, is_name}
use Rattle.js_lex.specs.Lists.{Passes, Every, In, NotNext, is}
use Rattle.js_lex.specs.Numbers.{Number, number_units, IsNumber}
use Rattle.js_lex.specs.Characters.{Character, characters_units, AreCharacters, mark, ending_text}

-- ---- comments (section 12.4)

-- the unit may stand in a comment of one line: it is no line end
abbrev pub is_inner : ℕ → Bool
is_inner u = not (is_line_end u)

-- `*/` stands nowhere in the text
abbrev pub NoEnd : Text → Type 0
NoEnd [] = Unit {0}
NoEnd (u ∷ z) = ((u == 42) ≡ true → NotNext (is 47) z) × NoEnd z

-- ---- elements

-- an element of a text, as it is written: white space, a line end, a comment or a token
pub data Element : Type 0 where
  -- section 12.2
  White : ℕ → Element
  -- section 12.3
  LineEnd : ℕ → Element
  -- `//` and units up to a line end
  LineComment : Text → Element
  -- `/*` up to the first `*/`
  BlockComment : Text → Element
  -- a name or a reserved word (section 12.7), its first unit apart
  Word : ℕ → Text → Element
  Numeric : Number → Element
  -- a string (section 12.9.4); `true` with double quotes
  String : Bool → List Character → Element
  -- a part of a template; `true` from its backtick on, else from `}`
  Part : Bool → List Character → Ending → Element
  -- section 12.8
  Sign : Text → Punctuator → Element

-- the quote of a string: double or single
abbrev pub string_quote : Bool → Quote
string_quote true = quote.Double
string_quote false = quote.Single

-- what a part of a template begins with: a backtick or `}`
abbrev pub part_begin : Bool → ℕ
part_begin true = 96
part_begin false = 125

-- the units that an element is written with
abbrev pub units : Element → Text
units (White u) = u ∷ []
units (LineEnd u) = u ∷ []
units (LineComment w) = 47 ∷ 47 ∷ w
units (BlockComment w) = 47 ∷ 42 ∷ (w ++ 42 ∷ 47 ∷ [])
units (Word u w) = u ∷ w
units (Numeric n) = number_units n
units (String d cs) = mark (string_quote d) ∷ (characters_units cs ++ mark (string_quote d) ∷ [])
units (Part b cs e) = part_begin b ∷ (characters_units cs ++ ending_text quote.Template e)
units (Sign w p) = w

-- `?.` is none before a digit, `/` begins a comment before `*`, and `}` is one outside the holes of templates alone
abbrev pub MayFollow : Bool → Text → Text → Type 0
MayFollow h w z = (w ≡ 63 ∷ 46 ∷ [] → NotNext is_digit z) × (w ≡ 47 ∷ [] → NotNext (is 42) z) × (w ≡ 125 ∷ [] → h ≡ false)

-- The element may stand with this text behind it; `h` in the hole of a template (InputElementTemplateTail).
abbrev pub Stands : Bool → Element → Text → Type 0
Stands h (White u) z = is_white u ≡ true
Stands h (LineEnd u) z = is_line_end u ≡ true
Stands h (LineComment w) z = Every (Passes is_inner) w
Stands h (BlockComment w) z = NoEnd (w ++ 42 ∷ [])
Stands h (Word u w) z = (is_digit u ≡ false) × Every (Passes is_name) (u ∷ w)
Stands h (Numeric n) z = IsNumber n
Stands h (String d cs) z = AreCharacters (string_quote d) cs (mark (string_quote d) ∷ z)
Stands h (Part b cs e) z = ((b ≡ true) ⊎ (h ≡ true)) × AreCharacters quote.Template cs (ending_text quote.Template e ++ z)
Stands h (Sign w p) z = In (w, p) punctuators × MayFollow h w z

-- No longer front of the text is an element.
abbrev pub IsLongest : Bool → Element → Text → Type 0
IsLongest h e z = (f : Element) (more : Text) → Stands h f more → units f ++ more ≡ units e ++ z → length (units f) ≤ length (units e)

-- The text has this element at its front, and the rest behind it.
pub record Begins (h : Bool) (text : Text) (e : Element) (rest : Text) : Type 0 where
  pub is_text : text ≡ units e ++ rest
  pub stands : Stands h e rest
  pub longest : IsLongest h e rest

-- No element stands at the text's front.
abbrev pub BeginsNone : Bool → Text → Type 0
BeginsNone h text = (f : Element) (more : Text) → Stands h f more → text ≡ units f ++ more → ⊥
