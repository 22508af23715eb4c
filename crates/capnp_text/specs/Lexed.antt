-- A text is blanks, comments and tokens. Behind a name or a number stands no byte of a name.
use Rattle.std.specs.Prelude.{◌≡◌, ℕ, ◌+◌, Bool, true, false, not, ◌||◌, ◌==◌, List, [], ◌∷◌, ◌++◌, ◌⊎◌, length, map, flat_map, replicate, Some}
use Rattle.capnp_text.specs.declared.token.TokenKind.{TokenKind}
use Rattle.capnp_text.specs.declared.token.TokenKind.TheVariants as tok
use Rattle.capnp_text.specs.declared.token.Token.{Token}
use Rattle.capnp_text.specs.declared.scan.Tokens.{Tokens}
use Rattle.capnp_text.specs.declared.scan.Stop.{Stop}
use Rattle.capnp_text.specs.declared.scan.Stop.TheVariants as stop
use Rattle.capnp_text.specs.Chars.{is_blank, is_digit, is_letter, is_inner, is_hex, byte_of, is_escape, escaped, sign}

-- one byte of what a text stands for
pub data Letter : Type 0 where
  -- the byte itself
  Raw : ℕ → Letter
  -- behind `\`
  Escape : ℕ → Letter
  -- `\x` and two digits
  Code : ℕ → ℕ → Letter

-- how the byte is spelled between double quotes
abbrev pub letter_bytes : Letter → List ℕ
letter_bytes (Raw b) = b ∷ []
letter_bytes (Escape b) = 92 ∷ b ∷ []
letter_bytes (Code high low) = 92 ∷ 120 ∷ high ∷ low ∷ []

-- the byte that is stood for
abbrev pub letter_value : Letter → ℕ
letter_value (Raw b) = b
letter_value (Escape b) = escaped b
letter_value (Code high low) = byte_of high low

-- a byte that stands for itself: no `"`, no `\`, no LF
abbrev pub is_raw : ℕ → Bool
is_raw b = not (b == 34 || (b == 92 || b == 10))

-- the spelling is allowed: a raw byte, a known escape, or two hexadecimal digits
abbrev pub IsLetter : Letter → Type 0
IsLetter (Raw b) = is_raw b ≡ true
IsLetter (Escape b) = is_escape b ≡ true
IsLetter (Code high low) = (is_hex high ≡ true) × (is_hex low ≡ true)

-- two digits of a `0x` text, and how many spaces stand before them
pub record Pair : Type 0 where
  pub spaces : ℕ
  pub high : ℕ
  pub low : ℕ

-- so many blanks, byte 32
abbrev pub spaces : ℕ → List ℕ
spaces n = replicate n 32

-- how a pair is spelled: its blanks, then both digits
abbrev pub pair_bytes : Pair → List ℕ
pair_bytes p = spaces p.spaces ++ p.high ∷ p.low ∷ []

-- the byte that both digits stand for
abbrev pub pair_value : Pair → ℕ
pair_value p = byte_of p.high p.low

-- both are hexadecimal digits
abbrev pub IsPair : Pair → Type 0
IsPair p = (is_hex p.high ≡ true) × (is_hex p.low ≡ true)

-- the property holds of each item of the list
abbrev pub Every : {A : Type 0} → (A → Type 0) → List A → Type 0
Every P [] = Unit {0}
Every P (x ∷ xs) = P x × Every P xs

-- no space stands before the first pair
abbrev pub ArePairs : List Pair → Type 0
ArePairs [] = Unit {0}
ArePairs (p ∷ ps) = (p.spaces ≡ 0) × IsPair p × Every IsPair ps

-- what a text is made of: a blank, a comment, or a token as it is spelled
pub data Piece : Type 0 where
  Blank : ℕ → Piece
  -- from `#` to LF
  Comment : List ℕ → Piece
  -- the first letter apart
  Name : ℕ → List ℕ → Piece
  -- the first digit apart
  Number : ℕ → List ℕ → Piece
  -- the first digit behind `0x` apart
  Hex : ℕ → List ℕ → Piece
  Text : List Letter → Piece
  Data : List Pair → Piece
  Sign : ℕ → TokenKind → Piece

-- the bytes that each kind of piece is spelled with
abbrev pub piece_bytes : Piece → List ℕ
piece_bytes (Blank b) = b ∷ []
piece_bytes (Comment c) = 35 ∷ (c ++ 10 ∷ [])
piece_bytes (Name b w) = b ∷ w
piece_bytes (Number b w) = b ∷ w
piece_bytes (Hex b w) = 48 ∷ 120 ∷ b ∷ w
piece_bytes (Text ls) = 34 ∷ (flat_map letter_bytes ls ++ 34 ∷ [])
piece_bytes (Data ps) = 48 ∷ 120 ∷ 34 ∷ (flat_map pair_bytes ps ++ 34 ∷ [])
piece_bytes (Sign b t) = b ∷ []

-- not the byte that ends a line, LF
abbrev pub IsLine : ℕ → Type 0
IsLine b = (b == 10) ≡ false

-- the byte is of this class
abbrev pub Passes : (ℕ → Bool) → ℕ → Type 0
Passes f b = f b ≡ true

-- the piece is spelled as its kind allows
abbrev pub IsPiece : Piece → Type 0
IsPiece (Blank b) = is_blank b ≡ true
IsPiece (Comment c) = Every IsLine c
IsPiece (Name b w) = (is_letter b ≡ true) × Every (Passes is_inner) w
IsPiece (Number b w) = (is_digit b ≡ true) × Every (Passes is_digit) w
IsPiece (Hex b w) = (is_hex b ≡ true) × Every (Passes is_hex) w
IsPiece (Text ls) = Every IsLetter ls
IsPiece (Data ps) = ArePairs ps
IsPiece (Sign b t) = sign b ≡ Some t

-- no byte of a name comes next
abbrev pub Apart : List ℕ → Type 0
Apart [] = Unit {0}
Apart (b ∷ bs) = is_inner b ≡ false

-- what may stand behind the piece
abbrev pub Ends : Piece → List ℕ → Type 0
Ends (Name b w) bs = Apart bs
Ends (Number b w) bs = Apart bs
Ends (Hex b w) bs = Apart bs
Ends _ bs = Unit {0}

-- the bytes of the pieces, one after another
abbrev pub text_of : List Piece → List ℕ
text_of ps = flat_map piece_bytes ps

-- these are pieces, with a tail behind them
abbrev pub ArePieces : List Piece → List ℕ → Type 0
ArePieces [] tail = Unit {0}
ArePieces (p ∷ ps) tail = IsPiece p × Ends p (text_of ps ++ tail) × ArePieces ps tail

-- the tokens of the pieces, where the first piece begins at this place
abbrev pub piece_tokens : Piece → ℕ → List Token
piece_tokens (Blank b) n = []
piece_tokens (Comment c) n = []
piece_tokens (Name b w) n = record { place = n; kind = tok.Name (b ∷ w) } ∷ []
piece_tokens (Number b w) n = record { place = n; kind = tok.Number (b ∷ w) } ∷ []
piece_tokens (Hex b w) n = record { place = n; kind = tok.Hex (b ∷ w) } ∷ []
piece_tokens (Text ls) n = record { place = n; kind = tok.Text (map letter_value ls) } ∷ []
piece_tokens (Data ps) n = record { place = n; kind = tok.Data (map pair_value ps) } ∷ []
piece_tokens (Sign b t) n = record { place = n; kind = t } ∷ []

-- all tokens of a text's pieces in order, each with its offset
abbrev pub tokens_of : ℕ → List Piece → List Token
tokens_of n [] = []
tokens_of n (p ∷ ps) = piece_tokens p n ++ tokens_of (n + length (piece_bytes p)) ps

-- a letter that has begun and is not whole
abbrev pub LetterPart : List ℕ → Type 0
LetterPart bs = (bs ≡ []) ⊎ (bs ≡ 92 ∷ []) ⊎ (bs ≡ 92 ∷ 120 ∷ []) ⊎ ((high : ℕ) × (is_hex high ≡ true) × (bs ≡ 92 ∷ 120 ∷ high ∷ []))

-- spaces, and perhaps a first digit
abbrev pub PairPart : ℕ → List ℕ → Type 0
PairPart n bs = (bs ≡ spaces n) ⊎ ((high : ℕ) × (is_hex high ≡ true) × (bs ≡ spaces n ++ high ∷ []))

-- spaces may stand behind these pairs
abbrev pub MaySpace : List Pair → ℕ → Type 0
MaySpace [] n = n ≡ 0
MaySpace (p ∷ ps) n = Unit {0}

-- what may stand after the last whole piece, at the end of the bytes
pub data Tail : Type 0 where
  Nothing : Tail
  -- a comment whose line has no end
  OpenComment : List ℕ → Tail
  -- a text or `0x` text that has begun and is not whole
  OpenText : List Letter → List ℕ → Tail
  OpenHex : Tail
  OpenData : List Pair → ℕ → List ℕ → Tail

-- how each unfinished end is spelled
abbrev pub tail_bytes : Tail → List ℕ
tail_bytes Nothing = []
tail_bytes (OpenComment c) = 35 ∷ c
tail_bytes (OpenText ls part) = 34 ∷ (flat_map letter_bytes ls ++ part)
tail_bytes OpenHex = 48 ∷ 120 ∷ []
tail_bytes (OpenData ps n part) = 48 ∷ 120 ∷ 34 ∷ (flat_map pair_bytes ps ++ part)

-- the unfinished end is spelled as its kind allows
abbrev pub IsTail : Tail → Type 0
IsTail Nothing = Unit {0}
IsTail (OpenComment c) = Every IsLine c
IsTail (OpenText ls part) = Every IsLetter ls × LetterPart part
IsTail OpenHex = Unit {0}
IsTail (OpenData ps n part) = ArePairs ps × MaySpace ps n × PairPart n part

-- a token is open at the end
abbrev pub is_open : Tail → Bool
is_open Nothing = false
is_open (OpenComment c) = false
is_open _ = true

-- The bytes are these tokens, with blanks and comments; `open_` tells whether one more token has begun at their end.
pub record IsCut (bs : List ℕ) (ts : List Token) (open_ : Bool) : Type 0 where
  pub pieces : List Piece
  pub tail : Tail
  pub are : ArePieces pieces (tail_bytes tail)
  pub is_tail : IsTail tail
  pub text : bs ≡ text_of pieces ++ tail_bytes tail
  pub found : ts ≡ tokens_of 0 pieces
  pub ended : is_open tail ≡ open_

-- The bytes are these tokens, with blanks and comments.
abbrev pub IsLexed : List ℕ → List Token → Type 0
IsLexed bs ts = IsCut bs ts false

-- The first byte that begins and continues no token: no text of tokens has it behind the bytes before it.
pub record FirstBad (bs : List ℕ) (ts : List Token) (place : ℕ) : Type 0 where
  pub before : List ℕ
  pub byte : ℕ
  pub rest : List ℕ
  pub is : bs ≡ before ++ byte ∷ rest
  pub at : place ≡ length before
  pub open_ : Bool
  pub cut : IsCut before ts open_
  pub refused : (more : List ℕ) (us : List Token) → IsLexed (before ++ byte ∷ more) us → ⊥

-- the tokens end at this offset for this reason: at the end of the bytes, within a token, or at a bad byte
abbrev pub StopsSo : List ℕ → List Token → ℕ → Stop → Type 0
StopsSo bs ts n stop.End = IsLexed bs ts × (n ≡ length bs)
StopsSo bs ts n stop.Open = IsCut bs ts true × (n ≡ length bs)
StopsSo bs ts n stop.BadByte = FirstBad bs ts n

-- What the bytes are, up to the first that is of no token.
pub record HasTokens (bs : List ℕ) (t : Tokens) : Type 0 where
  pub stops : StopsSo bs t.tokens t.place t.stop
