-- Patterns of tokens.
use Rattle.std.specs.Prelude.{◌≡◌, ℕ, ◌+◌, Bool, true, false, List, [], ◌∷◌, ◌++◌, ◌⊎◌, map}
use Rattle.js_lex.specs.declared.token.TokenKind.{TokenKind}
use Rattle.js_lex.specs.declared.token.TokenKind.TheVariants as tok
use Rattle.js_lex.specs.declared.token.Punctuator.{Punctuator}
use Rattle.js_lex.specs.declared.token.Punctuator.TheVariants as p
use Rattle.js_lex.specs.declared.token.Reserved.{Reserved}
use Rattle.js_lex.specs.declared.token.Token.{Token}

-- A token of the text, or an automatic end (ECMA-262, section 12.10, where it is a semicolon).
pub data Piece : Type 0 where
  Read : Token → Piece
  Ended : Piece

-- A piece, and how many constructs are open at it, those that it opens among them.
pub record Seen : Type 0 where
  pub piece : Piece
  pub constructs : ℕ

-- What one piece has to be.
pub data Want : Type 0 where
  -- this token
  Just : TokenKind → Want
  -- this token at this place, which the tree keeps
  At : ℕ → TokenKind → Want
  -- an automatic end
  Auto : Want

-- .. with so many constructs open, and perhaps with no line end before it
pub record Mark : Type 0 where
  pub want : Want
  pub unbroken : Bool
  pub constructs : ℕ

-- no line end stands before the token, where none may
abbrev pub IsUnbroken : Bool → Token → Type 0
IsUnbroken true t = t.after_line_end ≡ false
IsUnbroken false t = Unit {0}

-- the piece is the token that is asked for, or the automatic end
abbrev pub IsWanted : Want → Bool → Piece → Type 0
IsWanted (Just k) u (Read t) = (t.kind ≡ k) × IsUnbroken u t
IsWanted (At q k) u (Read t) = (t.kind ≡ k) × (t.place ≡ q) × IsUnbroken u t
IsWanted Auto u Ended = Unit {0}
IsWanted _ u _ = ⊥

-- the piece is what the mark asks for, with so many constructs open at it
pub record IsOf (m : Mark) (s : Seen) : Type 0 where
  pub wanted : IsWanted m.want m.unbroken s.piece
  pub constructs : s.constructs ≡ m.constructs

-- one piece for each mark, in order
abbrev pub AreOf : List Mark → List Seen → Type 0
AreOf [] ss = ss ≡ []
AreOf (m ∷ ms) ss = (s : Seen) × (rest : List Seen) × (ss ≡ s ∷ rest) × IsOf m s × AreOf ms rest

-- What stands at one spot: one of these.
abbrev pub Form : Type 0
Form = List (List Mark)

-- the pieces are one of the lists that the form allows
abbrev pub IsOneOf : Form → List Seen → Type 0
IsOneOf [] ss = ⊥
IsOneOf (ms ∷ others) ss = AreOf ms ss ⊎ IsOneOf others ss

-- the pieces are of these forms, in order
abbrev pub Matches : List Form → List Seen → Type 0
Matches [] ss = ss ≡ []
Matches (f ∷ fs) ss = (a : List Seen) × (b : List Seen) × (ss ≡ a ++ b) × IsOneOf f a × Matches fs b

-- ---- marks and forms

-- this piece, with no construct open, and perhaps behind a line end
abbrev pub mark : Want → Mark
mark w = record { want = w; unbroken = false; constructs = 0 }

-- this punctuator
abbrev pub sign : Punctuator → Mark
sign x = mark (Just (tok.Punctuator x))

-- this reserved word
abbrev pub word : Reserved → Mark
word x = mark (Just (tok.Reserved x))

-- with no line end before it
abbrev pub unbroken : Mark → Mark
unbroken m = record { want = m.want; unbroken = true; constructs = m.constructs }

-- the form that only this mark meets
abbrev pub one : Mark → Form
one m = (m ∷ []) ∷ []

-- the form that only this punctuator meets
abbrev pub just : Punctuator → Form
just x = one (sign x)

-- `;`, or an automatic end
abbrev pub end : Form
end = (sign p.Semicolon ∷ []) ∷ (mark Auto ∷ []) ∷ []

-- this, or nothing
abbrev pub maybe : Mark → Form
maybe m = (m ∷ []) ∷ [] ∷ []

-- with more constructs open
abbrev pub deeper_mark : ℕ → Mark → Mark
deeper_mark n m = record { want = m.want; unbroken = m.unbroken; constructs = n + m.constructs }

-- the same forms, with more constructs open at each piece
abbrev pub deeper : ℕ → List Form → List Form
deeper n fs = map (map (map (deeper_mark n))) fs

-- with no line end before the first token
abbrev pub first_unbroken : List Mark → List Mark
first_unbroken [] = []
first_unbroken (m ∷ ms) = unbroken m ∷ ms

-- no line end stands before the first of these
abbrev pub on_one_line : List Form → List Form
on_one_line [] = []
on_one_line (f ∷ fs) = map first_unbroken f ∷ fs

-- a construct in brackets, which are open as one
abbrev pub enclosed : Punctuator → List Form → Punctuator → List Form
enclosed a fs b = deeper 1 (just a ∷ (fs ++ just b ∷ []))

-- with a comma between each two
abbrev pub more : List (List Form) → List Form
more [] = []
more (fs ∷ rest) = just p.Comma ∷ (fs ++ more rest)

-- a list with a comma between each two, and none behind the last
abbrev pub separated : List (List Form) → List Form
separated [] = []
separated (fs ∷ rest) = fs ++ more rest

-- .. and perhaps one behind the last
abbrev pub listed : List (List Form) → List Form
listed [] = []
listed (fs ∷ rest) = (fs ++ more rest) ++ maybe (sign p.Comma) ∷ []
