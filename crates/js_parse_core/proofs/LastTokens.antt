-- Of a text's tokens the last one is `End` or `Bad`, and no other.
use Rattle.std.proofs.Common.{◌≡◌, ℕ, ◌+◌, Bool, true, false, List, [], ◌∷◌, ◌++◌, length, Option, Some, None, refl, sym, ap, subst, inl, inr}
use Rattle.js_lex.specs.declared.token.Token.{Token as Placed}
use Rattle.js_lex.specs.declared.token.TokenKind.{TokenKind}
use Rattle.js_lex.specs.declared.token.TokenKind.TheVariants as tok
use Rattle.js_lex.specs.declared.front.Unread.{Unread}
use Rattle.js_lex.specs.declared.front.Unread.TheVariants as bad
use Rattle.js_lex.specs.declared.scan.Brace.{Brace}
use Rattle.js_lex.specs.Elements.{units, Element, White, LineEnd, LineComment, BlockComment, Word, Numeric, String, Part, Sign}
use Rattle.js_lex.specs.Grammar.{Reading, Gap, Token, Refused, IsKind, ReadsValue, Reads, Piece, ArePieces, piece_tokens, line_ends, tokens, AreTokens}
use Rattle.js_lex.specs.Numbers.{number_value}
use Rattle.js_lex.specs.Units.{Text}
use Rattle.js_parse_core.proofs.Ends.{AreRead}
use Rattle.js_parse_core.proofs.Pieces.{is_last}

pub record LastOf (ts : List Placed) : Type 0 where
  pub front : List Placed
  pub last : Placed
  pub parts : ts ≡ front ++ last ∷ []
  pub are : AreRead front
  pub ends : is_last last.kind ≡ true

-- what is read as a token
abbrev IsRead : Reading → Type 0
IsRead (Token k) = is_last k ≡ false
IsRead _ = Unit {0}

read_by : (r s : Reading) → r ≡ s → IsRead s → IsRead r
read_by r s e h = subst IsRead (sym e) h

kind_read : (w : Text) (k : TokenKind) → IsKind w k → is_last k ≡ false
kind_read w k (inl h) = ap is_last h.2
kind_read w k (inr h) = ap is_last h.1

value_read : (v : Option ℕ) (r : Reading) → ReadsValue v r → IsRead r
value_read None r h = read_by r (Refused bad.Number) h tt
value_read (Some v) r (inl h) = read_by r (Token (tok.Number v)) h.1 refl
value_read (Some v) r (inr h) = read_by r (Refused bad.Number) h.1 tt

element_read : (e : Element) (z : Text) (r : Reading) → Reads e z r → IsRead r
element_read (White u) z r h = read_by r (Gap false) h tt
element_read (LineEnd u) z r h = read_by r (Gap true) h tt
element_read (LineComment w) z r h = read_by r (Gap false) h tt
element_read (BlockComment w) z r h = read_by r _ h tt
element_read (Word u w) z r (inl h) = read_by r (Token h.1.0) h.1.2 (kind_read (u ∷ w) h.1.0 h.1.1)
element_read (Word u w) z r (inr h) = read_by r (Refused bad.Identifier) h.1 tt
element_read (Numeric n) z r (inl h) = value_read (number_value n) r h.1
element_read (Numeric n) z r (inr h) = read_by r (Refused bad.Syntax) h.1 tt
element_read (String d cs) z r h = read_by r _ h refl
element_read (Part b cs e) z r h = read_by r _ h refl
element_read (Sign w p) z r h = read_by r _ h refl

put : (x : Placed) (ts : List Placed) → is_last x.kind ≡ false → LastOf ts → LastOf (x ∷ ts)
put x ts e l = record { front = x ∷ l.front; last = l.last; parts = ap (λ (z : List Placed). x ∷ z) l.parts; are = (e, l.are); ends = l.ends }

last_of : (ps : List Piece) (bs : List Brace) (n : ℕ) (l : Bool) (tail : Text) (stop : Option Unread) → ArePieces bs ps tail → LastOf (tokens n l ps stop)
last_of [] bs n l tail None h = record { front = []; last = _; parts = refl; are = tt; ends = refl }
last_of [] bs n l tail (Some why) h = record { front = []; last = _; parts = refl; are = tt; ends = refl }
last_of (p ∷ ps) bs n l tail stop h = go p.reading (element_read p.element _ p.reading h.0.2) (λ m b. last_of ps _ m b tail stop h.2)
  where
    go : (r : Reading) → IsRead r → ((m : ℕ) (b : Bool) → LastOf (tokens m b ps stop)) → LastOf (piece_tokens n l r ++ tokens (n + length (units p.element)) (line_ends l r) ps stop)
    go (Gap b) e f = f _ _
    go (Token k) e f = put _ _ e (f _ _)
    go (Refused why) e f = f _ _

pub last_token : (units : Text) (ts : List Placed) → AreTokens units ts → LastOf ts
last_token units ts a = subst LastOf (sym a.found) (last_of a.pieces [] 0 false a.tail a.stop a.are)
