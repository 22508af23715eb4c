-- What the elements of a script's text are read as, and the tokens of the whole text (ECMA-262, section 12).
use Rattle.std.specs.Prelude.{◌≡◌, ◌≤◌, ◌<◌, ℕ, ◌+◌, Bool, true, false, ◌||◌, List, [], ◌∷◌, ◌++◌, ◌⊎◌, length, flat_map, Option, Some, None}
use Rattle.js_lex.specs.declared.token.TokenKind.{TokenKind}
use Rattle.js_lex.specs.declared.token.TokenKind.TheVariants as tok
use Rattle.js_lex.specs.declared.token.Token.{Token as Placed}
use Rattle.js_lex.specs.declared.scan.Brace.{Brace}
use Rattle.js_lex.specs.declared.token.Reserved.{Reserved}
use Rattle.js_lex.specs.declared.front.Unread.{Unread}
use Rattle.js_lex.specs.declared.front.Unread.TheVariants as bad
use Rattle.js_lex.specs.Tables.{reserved_words}
use Rattle.js_lex.specs.Units.{Text, is_line_end, is_name, is_part}
use Rattle.js_lex.specs.Values.{max_safe, part_of}
use Rattle.js_lex.specs.Places.{in_hole, braces, fault, token}
use Rattle.js_lex.specs.Lists.{Passes, Every, In, NotNext, some}
use Rattle.js_lex.specs.Numbers.{Number, number_value}
use Rattle.js_lex.specs.Characters.{characters_value}
use Rattle.js_lex.specs.Elements.{Element, White, LineEnd, LineComment, BlockComment, Word, Numeric, String, Part, Sign, units, Stands, IsLongest, BeginsNone}

-- what an element is read as: nothing, a token, or a refusal
pub data Reading : Type 0 where
  -- no token; `true` where a line end stands in it
  Gap : Bool → Reading
  Token : TokenKind → Reading
  Refused : Unread → Reading

-- section 12.7.2: a reserved word, or else a name
abbrev pub IsKind : Text → TokenKind → Type 0
IsKind w k = ((r : Reserved) × In (w, r) reserved_words × (k ≡ tok.Reserved r)) ⊎ (((r : Reserved) → In (w, r) reserved_words → ⊥) × (k ≡ tok.Name w))

-- each unit of the name is of ASCII
abbrev pub IsAscii : Text → Type 0
IsAscii w = Every (Passes is_part) w

-- a name of ASCII alone is read
abbrev pub ReadsWord : Text → Reading → Type 0
ReadsWord w r = (IsAscii w × ((k : TokenKind) × IsKind w k × (r ≡ Token k))) ⊎ ((IsAscii w → ⊥) × (r ≡ Refused bad.Identifier))

-- a safe integer is read
abbrev pub ReadsValue : Option ℕ → Reading → Type 0
ReadsValue None r = r ≡ Refused bad.Number
ReadsValue (Some v) r = ((v ≤ max_safe) × (r ≡ Token (tok.Number v))) ⊎ ((max_safe < v) × (r ≡ Refused bad.Number))

-- neither a digit nor a name may stand directly behind a number
abbrev pub ReadsNumber : Number → Text → Reading → Type 0
ReadsNumber n z r = (NotNext is_name z × ReadsValue (number_value n) r) ⊎ ((NotNext is_name z → ⊥) × (r ≡ Refused bad.Syntax))

-- The element, with this text behind it, is read so.
abbrev pub Reads : Element → Text → Reading → Type 0
Reads (White u) z r = r ≡ Gap false
Reads (LineEnd u) z r = r ≡ Gap true
Reads (LineComment w) z r = r ≡ Gap false
Reads (BlockComment w) z r = r ≡ Gap (some is_line_end w)
Reads (Word u w) z r = ReadsWord (u ∷ w) r
Reads (Numeric n) z r = ReadsNumber n z r
Reads (String d cs) z r = r ≡ Token (tok.Text (characters_value cs))
Reads (Part b cs e) z r = r ≡ Token (tok.Template (part_of b e) (characters_value cs))
Reads (Sign w p) z r = r ≡ Token (tok.Punctuator p)

-- ---- the whole text

-- an element of the text, and what it is read as
pub record Piece : Type 0 where
  pub element : Element
  pub reading : Reading

-- the units that a piece is written with
abbrev pub piece_units : Piece → Text
piece_units p = units p.element

-- the text that the pieces are, one behind another
abbrev pub text_of : List Piece → Text
text_of ps = flat_map piece_units ps

-- the reading is no refusal
abbrev pub IsRead : Reading → Type 0
IsRead (Refused why) = ⊥
IsRead _ = Unit {0}

-- the open braces behind a piece, the innermost first
abbrev pub braces_behind : Reading → List Brace → List Brace
braces_behind (Token k) bs = braces k bs
braces_behind _ bs = bs

-- the open braces behind these pieces, the innermost first
abbrev pub open_braces : List Brace → List Piece → List Brace
open_braces bs [] = bs
open_braces bs (p ∷ ps) = open_braces (braces_behind p.reading bs) ps

-- the piece is the longest element with this text behind it, and is read so
abbrev pub IsPiece : Bool → Element → Text → Reading → Type 0
IsPiece h e z r = Stands h e z × IsLongest h e z × Reads e z r

-- These are pieces within these braces, with a tail behind them.
abbrev pub ArePieces : List Brace → List Piece → Text → Type 0
ArePieces bs [] tail = Unit {0}
ArePieces bs (p ∷ ps) tail = IsPiece (in_hole bs) p.element (text_of ps ++ tail) p.reading × IsRead p.reading × ArePieces (braces_behind p.reading bs) ps tail

-- The tail is empty; or no element stands there, or one that is refused.
abbrev pub Stops : Bool → Text → Option Unread → Type 0
Stops h tail None = tail ≡ []
Stops h tail (Some why) =
    ((1 ≤ length tail) × BeginsNone h tail × (why ≡ bad.Syntax)) ⊎ ((e : Element) × (rest : Text) × (tail ≡ units e ++ rest) × IsPiece h e rest (Refused why))

-- the last token: `End`, or why no more can be read from a place on
abbrev pub last_kind : ℕ → Option Unread → TokenKind
last_kind n None = tok.End
last_kind n (Some why) = tok.Bad (fault n why)

-- the token that a piece gives at its place, if it gives one
abbrev pub piece_tokens : ℕ → Bool → Reading → List Placed
piece_tokens n l (Token k) = token n l k ∷ []
piece_tokens n l _ = []

-- a line end stands between the last token and what comes behind the piece
abbrev pub line_ends : Bool → Reading → Bool
line_ends l (Gap b) = l || b
line_ends l _ = false

-- the tokens of the pieces, where the first piece begins at this place, behind a line end or not
abbrev pub tokens : ℕ → Bool → List Piece → Option Unread → List Placed
tokens n l [] stop = token n l (last_kind n stop) ∷ []
tokens n l (p ∷ ps) stop = piece_tokens n l p.reading ++ tokens (n + length (units p.element)) (line_ends l p.reading) ps stop

-- The text has these tokens.
pub record AreTokens (text : Text) (ts : List Placed) : Type 0 where
  pub pieces : List Piece
  pub tail : Text
  pub stop : Option Unread
  pub is_text : text ≡ text_of pieces ++ tail
  pub are : ArePieces [] pieces tail
  pub stops : Stops (in_hole (open_braces [] pieces)) tail stop
  pub found : ts ≡ tokens 0 false pieces stop
