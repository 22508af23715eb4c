-- What is scanned is cut into pieces.
use Rattle.std.proofs.Common.{◌≡◌, ℕ, ◌+◌, Bool, true, false, cond, List, [], ◌∷◌, ◌++◌, map, length, Ok, Option, Some, None, zero, suc, refl, sym, ◌∙◌, ap, subst, append_assoc, arith, inl, inr, ◌⊎◌}
use Rattle.std.specs.Prelude.{◌||◌, ◌==◌, flat_map}
use Rattle.std.proofs.lemmas.List.{append-nil, length-append, length-replicate}
use Rattle.std.proofs.lemmas.Bool.{eqb-true}
use Rattle.capnp_text.specs.declared.token.TokenKind.{TokenKind}
use Rattle.capnp_text.specs.declared.token.TokenKind.TheVariants as tok
use Rattle.capnp_text.specs.declared.token.Token.{Token}
use Rattle.capnp_text.specs.declared.scan.Open.{Open}
use Rattle.capnp_text.specs.declared.scan.Open.TheVariants as o
use Rattle.capnp_text.specs.Chars.{is_blank, is_digit, is_letter, is_inner, is_hex, byte_of, is_escape, escaped, sign}
use Rattle.capnp_text.specs.Lexed.{Letter, Raw, Escape, Code, letter_bytes, letter_value, IsLetter, Pair, spaces, pair_bytes, pair_value, IsPair, Every, ArePairs, Piece, Blank, Comment, Name, Number, Hex, Text, Data, Sign, piece_bytes, IsLine, Passes, IsPiece, Apart, Ends, text_of, ArePieces, piece_tokens, tokens_of, LetterPart, PairPart, MaySpace, Tail, Nothing, OpenComment, OpenText, OpenHex, OpenData, tail_bytes, IsTail, is_open, IsCut}
use Rattle.capnp_text.specs.Run.{taken, run}
use Rattle.capnp_text.specs.Scan.{Scanned, refused, signed, with_token, gap, behind, in_name, in_number, in_zero, in_mark, in_hex, in_comment, in_text, in_escape, in_escape_hex, in_escape_low, in_data, in_data_low, in_pair, in_space, whole, stays_open, Reading, on, next, begin}
use Rattle.capnp_text.proofs.CharLemmas.{not_no, or_no}
use Rattle.capnp_text.proofs.LexComplete.{reading}

-- ---- what remains, from a place where no token has begun

record FromGap (ts : List Token) (p : ℕ) (bs : List ℕ) (us : List Token) (open_ : Bool) : Type 0 where
  pieces : List Piece
  tail : Tail
  are : ArePieces pieces (tail_bytes tail)
  is_tail : IsTail tail
  text : bs ≡ text_of pieces ++ tail_bytes tail
  found : us ≡ ts ++ tokens_of p pieces
  ended : is_open tail ≡ open_

moved : (ts : List Token) (p q : ℕ) (bs cs : List ℕ) (us : List Token) (open_ : Bool) → p ≡ q → bs ≡ cs → FromGap ts p bs us open_ → FromGap ts q cs us open_
moved ts p q bs cs us open_ e f h = subst (λ (n : ℕ). FromGap ts n cs us open_) e (subst (λ (z : List ℕ). FromGap ts p z us open_) f h)

from_piece : (c : Piece) (ts : List Token) (p : ℕ) (rest : List ℕ) (us : List Token) (open_ : Bool) → IsPiece c → Ends c rest → FromGap (ts ++ piece_tokens c p) (p + length (piece_bytes c)) rest us open_ → FromGap ts p (piece_bytes c ++ rest) us open_
from_piece c ts p rest us open_ h e g =
    record {
      pieces = c ∷ g.pieces;
      tail = g.tail;
      are = (h, subst (Ends c) g.text e, g.are);
      is_tail = g.is_tail;
      text = ap (λ (z : List ℕ). piece_bytes c ++ z) g.text ∙ sym (append_assoc (piece_bytes c) (text_of g.pieces) (tail_bytes g.tail));
      found = g.found ∙ append_assoc ts (piece_tokens c p) (tokens_of (p + length (piece_bytes c)) g.pieces);
      ended = g.ended;
    }

from_tail : (t : Tail) (ts : List Token) (p : ℕ) (bs : List ℕ) (us : List Token) (open_ : Bool) → IsTail t → bs ≡ tail_bytes t → us ≡ ts → open_ ≡ is_open t → FromGap ts p bs us open_
from_tail t ts p bs us open_ h e f g = record { pieces = []; tail = t; are = tt; is_tail = h; text = e; found = f ∙ sym (append-nil ts); ended = sym g }

-- ---- what remains of a name or a number

record WordClaim (f : ℕ → Bool) (made : List ℕ → TokenKind) (ts : List Token) (q : ℕ) (w : List ℕ) (p : ℕ) (bs : List ℕ) (us : List Token) (open_ : Bool) : Type 0 where
  more : List ℕ
  rest : List ℕ
  text : bs ≡ more ++ rest
  every : Every (Passes f) more
  apart : Apart rest
  from : FromGap (with_token ts q (made (w ++ more))) (p + length more) rest us open_

word_more : (f : ℕ → Bool) (made : List ℕ → TokenKind) (ts : List Token) (q : ℕ) (w : List ℕ) (p b : ℕ) (bs : List ℕ) (us : List Token) (open_ : Bool) → f b ≡ true → WordClaim f made ts q (w ++ b ∷ []) (p + 1) bs us open_ → WordClaim f made ts q w p (b ∷ bs) us open_
word_more f made ts q w p b bs us open_ h c =
    record {
      more = b ∷ c.more;
      rest = c.rest;
      text = ap (λ (z : List ℕ). b ∷ z) c.text;
      every = (h, c.every);
      apart = c.apart;
      from = moved _ _ _ c.rest c.rest us open_ (omega arith) refl (subst (λ (z : List ℕ). FromGap (with_token ts q (made z)) (p + 1 + length c.more) c.rest us open_) (append_assoc w (b ∷ []) c.more) c.from);
    }

word_stop : (f : ℕ → Bool) (made : List ℕ → TokenKind) (ts : List Token) (q : ℕ) (w : List ℕ) (p : ℕ) (bs : List ℕ) (us : List Token) (open_ : Bool) → Apart bs → FromGap (with_token ts q (made w)) p bs us open_ → WordClaim f made ts q w p bs us open_
word_stop f made ts q w p bs us open_ a g =
    record {
      more = [];
      rest = bs;
      text = refl;
      every = tt;
      apart = a;
      from = moved _ _ _ bs bs us open_ (omega arith) refl (subst (λ (z : List ℕ). FromGap (with_token ts q (made z)) p bs us open_) (sym (append-nil w)) g);
    }

-- ---- what remains of a comment, a text, a `0x` text

abbrev CommentClaim : List Token → ℕ → List ℕ → List Token → Bool → Type 0
CommentClaim ts p bs us open_ = ((c : List ℕ) × (rest : List ℕ) × (bs ≡ c ++ 10 ∷ rest) × Every IsLine c × FromGap ts (p + length c + 1) rest us open_) ⊎ (Every IsLine bs × (us ≡ ts) × (open_ ≡ false))

record TextClosed (ts : List Token) (q : ℕ) (w : List ℕ) (p : ℕ) (bs : List ℕ) (us : List Token) (open_ : Bool) : Type 0 where
  letters : List Letter
  rest : List ℕ
  text : bs ≡ flat_map letter_bytes letters ++ 34 ∷ rest
  are : Every IsLetter letters
  from : FromGap (with_token ts q (tok.Text (w ++ map letter_value letters))) (p + length (flat_map letter_bytes letters) + 1) rest us open_

record TextLeft (ts : List Token) (bs : List ℕ) (us : List Token) (open_ : Bool) : Type 0 where
  letters : List Letter
  part : List ℕ
  text : bs ≡ flat_map letter_bytes letters ++ part
  are : Every IsLetter letters
  is_part : LetterPart part
  none : us ≡ ts
  ended : open_ ≡ true

abbrev TextClaim : List Token → ℕ → List ℕ → ℕ → List ℕ → List Token → Bool → Type 0
TextClaim ts q w p bs us open_ = TextClosed ts q w p bs us open_ ⊎ TextLeft ts bs us open_

record MoreClosed (ts : List Token) (q : ℕ) (w : List ℕ) (p : ℕ) (bs : List ℕ) (us : List Token) (open_ : Bool) : Type 0 where
  pairs : List Pair
  rest : List ℕ
  text : bs ≡ flat_map pair_bytes pairs ++ 34 ∷ rest
  are : Every IsPair pairs
  from : FromGap (with_token ts q (tok.Data (w ++ map pair_value pairs))) (p + length (flat_map pair_bytes pairs) + 1) rest us open_

record MoreLeft (ts : List Token) (bs : List ℕ) (us : List Token) (open_ : Bool) : Type 0 where
  pairs : List Pair
  spaces_ : ℕ
  part : List ℕ
  text : bs ≡ flat_map pair_bytes pairs ++ part
  are : Every IsPair pairs
  is_part : PairPart spaces_ part
  none : us ≡ ts
  ended : open_ ≡ true

abbrev MoreClaim : List Token → ℕ → List ℕ → ℕ → List ℕ → List Token → Bool → Type 0
MoreClaim ts q w p bs us open_ = MoreClosed ts q w p bs us open_ ⊎ MoreLeft ts bs us open_

abbrev LowClaim : List Token → ℕ → List ℕ → ℕ → ℕ → List ℕ → List Token → Bool → Type 0
LowClaim ts q w h p bs us open_ = ((low : ℕ) × (rest : List ℕ) × (bs ≡ low ∷ rest) × (is_hex low ≡ true) × MoreClaim ts q (w ++ byte_of h low ∷ []) (p + 1) rest us open_) ⊎ ((bs ≡ []) × (us ≡ ts) × (open_ ≡ true))

-- the same where the first pair has no spaces before it
record BeginClosed (ts : List Token) (q p : ℕ) (bs : List ℕ) (us : List Token) (open_ : Bool) : Type 0 where
  pairs : List Pair
  rest : List ℕ
  text : bs ≡ flat_map pair_bytes pairs ++ 34 ∷ rest
  are : ArePairs pairs
  from : FromGap (with_token ts q (tok.Data (map pair_value pairs))) (p + length (flat_map pair_bytes pairs) + 1) rest us open_

record BeginLeft (ts : List Token) (bs : List ℕ) (us : List Token) (open_ : Bool) : Type 0 where
  pairs : List Pair
  spaces_ : ℕ
  part : List ℕ
  text : bs ≡ flat_map pair_bytes pairs ++ part
  are : ArePairs pairs
  may : MaySpace pairs spaces_
  is_part : PairPart spaces_ part
  none : us ≡ ts
  ended : open_ ≡ true

abbrev BeginClaim : List Token → ℕ → ℕ → List ℕ → List Token → Bool → Type 0
BeginClaim ts q p bs us open_ = BeginClosed ts q p bs us open_ ⊎ BeginLeft ts bs us open_

abbrev MarkClaim : List Token → ℕ → ℕ → List ℕ → List Token → Bool → Type 0
MarkClaim ts q p bs us open_ = ((b : ℕ) × (rest : List ℕ) × (bs ≡ b ∷ rest) × (is_hex b ≡ true) × WordClaim is_hex tok.Hex ts q (b ∷ []) (p + 1) rest us open_) ⊎ ((rest : List ℕ) × (bs ≡ 34 ∷ rest) × BeginClaim ts q (p + 1) rest us open_) ⊎ ((bs ≡ []) × (us ≡ ts) × (open_ ≡ true))

abbrev ZeroClaim : List Token → ℕ → ℕ → List ℕ → List Token → Bool → Type 0
ZeroClaim ts q p bs us open_ = ((rest : List ℕ) × (bs ≡ 120 ∷ rest) × MarkClaim ts q (p + 1) rest us open_) ⊎ WordClaim is_digit tok.Number ts q (48 ∷ []) p bs us open_

-- What remains from a state, where the whole tokens at the end are us.
abbrev Claim : Open → List Token → ℕ → List ℕ → List Token → Bool → Type 0
Claim o.Gap ts p bs us open_ = FromGap ts p bs us open_
Claim o.Comment ts p bs us open_ = CommentClaim ts p bs us open_
Claim (o.Name q w) ts p bs us open_ = WordClaim is_inner tok.Name ts q w p bs us open_
Claim (o.Zero q) ts p bs us open_ = ZeroClaim ts q p bs us open_
Claim (o.Number q w) ts p bs us open_ = WordClaim is_digit tok.Number ts q w p bs us open_
Claim (o.HexMark q) ts p bs us open_ = MarkClaim ts q p bs us open_
Claim (o.Hex q w) ts p bs us open_ = WordClaim is_hex tok.Hex ts q w p bs us open_
Claim (o.Text q w) ts p bs us open_ = TextClaim ts q w p bs us open_
Claim (o.Escape q w) ts p bs us open_ = (n : ℕ) → p ≡ n + 1 → TextClaim ts q w n (92 ∷ bs) us open_
Claim (o.EscapeHex q w) ts p bs us open_ = (n : ℕ) → p ≡ n + 2 → TextClaim ts q w n (92 ∷ 120 ∷ bs) us open_
Claim (o.EscapeLow q w h) ts p bs us open_ = (n : ℕ) → p ≡ n + 3 → is_hex h ≡ true → TextClaim ts q w n (92 ∷ 120 ∷ h ∷ bs) us open_
Claim (o.DataBegin q) ts p bs us open_ = BeginClaim ts q p bs us open_
Claim (o.DataLow q w h) ts p bs us open_ = LowClaim ts q w h p bs us open_
Claim (o.DataPair q w) ts p bs us open_ = MoreClaim ts q w p bs us open_
Claim (o.DataSpace q w) ts p bs us open_ = (k n : ℕ) → p ≡ n + k → MoreClaim ts q w n (spaces k ++ bs) us open_

-- ---- one more letter, one more pair

text_letter : (l : Letter) (ts : List Token) (q : ℕ) (w : List ℕ) (p m : ℕ) (bs : List ℕ) (us : List Token) (open_ : Bool) → IsLetter l → m ≡ p + length (letter_bytes l) → TextClaim ts q (w ++ letter_value l ∷ []) m bs us open_ → TextClaim ts q w p (letter_bytes l ++ bs) us open_
text_letter l ts q w p m bs us open_ h e (inl c) =
    let len : m + length (flat_map letter_bytes c.letters) + 1 ≡ p + length (letter_bytes l ++ flat_map letter_bytes c.letters) + 1 = omega (arith, length-append (letter_bytes l) (flat_map letter_bytes c.letters)) in
    inl (record {
      letters = l ∷ c.letters;
      rest = c.rest;
      text = ap (λ (z : List ℕ). letter_bytes l ++ z) c.text ∙ sym (append_assoc (letter_bytes l) (flat_map letter_bytes c.letters) (34 ∷ c.rest));
      are = (h, c.are);
      from = moved _ _ _ c.rest c.rest us open_ len refl (subst (λ (z : List ℕ). FromGap (with_token ts q (tok.Text z)) (m + length (flat_map letter_bytes c.letters) + 1) c.rest us open_) (append_assoc w (letter_value l ∷ []) (map letter_value c.letters)) c.from);
    })
text_letter l ts q w p m bs us open_ h e (inr c) =
    inr (record {
      letters = l ∷ c.letters;
      part = c.part;
      text = ap (λ (z : List ℕ). letter_bytes l ++ z) c.text ∙ sym (append_assoc (letter_bytes l) (flat_map letter_bytes c.letters) c.part);
      are = (h, c.are);
      is_part = c.is_part;
      none = c.none;
      ended = c.ended;
    })

more_pair : (r : Pair) (ts : List Token) (q : ℕ) (w : List ℕ) (p m : ℕ) (bs : List ℕ) (us : List Token) (open_ : Bool) → IsPair r → m ≡ p + length (pair_bytes r) → MoreClaim ts q (w ++ pair_value r ∷ []) m bs us open_ → MoreClaim ts q w p (pair_bytes r ++ bs) us open_
more_pair r ts q w p m bs us open_ h e (inl c) =
    let len : m + length (flat_map pair_bytes c.pairs) + 1 ≡ p + length (pair_bytes r ++ flat_map pair_bytes c.pairs) + 1 = omega (arith, length-append (pair_bytes r) (flat_map pair_bytes c.pairs)) in
    inl (record {
      pairs = r ∷ c.pairs;
      rest = c.rest;
      text = ap (λ (z : List ℕ). pair_bytes r ++ z) c.text ∙ sym (append_assoc (pair_bytes r) (flat_map pair_bytes c.pairs) (34 ∷ c.rest));
      are = (h, c.are);
      from = moved _ _ _ c.rest c.rest us open_ len refl (subst (λ (z : List ℕ). FromGap (with_token ts q (tok.Data z)) (m + length (flat_map pair_bytes c.pairs) + 1) c.rest us open_) (append_assoc w (pair_value r ∷ []) (map pair_value c.pairs)) c.from);
    })
more_pair r ts q w p m bs us open_ h e (inr c) =
    inr (record {
      pairs = r ∷ c.pairs;
      spaces_ = c.spaces_;
      part = c.part;
      text = ap (λ (z : List ℕ). pair_bytes r ++ z) c.text ∙ sym (append_assoc (pair_bytes r) (flat_map pair_bytes c.pairs) c.part);
      are = (h, c.are);
      is_part = c.is_part;
      none = c.none;
      ended = c.ended;
    })

first_pair : (r : Pair) (ts : List Token) (q p m : ℕ) (bs : List ℕ) (us : List Token) (open_ : Bool) → r.spaces ≡ 0 → IsPair r → m ≡ p + length (pair_bytes r) → MoreClaim ts q (pair_value r ∷ []) m bs us open_ → BeginClaim ts q p (pair_bytes r ++ bs) us open_
first_pair r ts q p m bs us open_ z h e (inl c) =
    let len : m + length (flat_map pair_bytes c.pairs) + 1 ≡ p + length (pair_bytes r ++ flat_map pair_bytes c.pairs) + 1 = omega (arith, length-append (pair_bytes r) (flat_map pair_bytes c.pairs)) in
    inl (record {
      pairs = r ∷ c.pairs;
      rest = c.rest;
      text = ap (λ (y : List ℕ). pair_bytes r ++ y) c.text ∙ sym (append_assoc (pair_bytes r) (flat_map pair_bytes c.pairs) (34 ∷ c.rest));
      are = (z, h, c.are);
      from = moved _ _ _ c.rest c.rest us open_ len refl c.from;
    })
first_pair r ts q p m bs us open_ z h e (inr c) =
    inr (record {
      pairs = r ∷ c.pairs;
      spaces_ = c.spaces_;
      part = c.part;
      text = ap (λ (y : List ℕ). pair_bytes r ++ y) c.text ∙ sym (append_assoc (pair_bytes r) (flat_map pair_bytes c.pairs) c.part);
      are = (z, h, c.are);
      may = tt;
      is_part = c.is_part;
      none = c.none;
      ended = c.ended;
    })

pair_of : ℕ → ℕ → ℕ → Pair
pair_of k high low = record { spaces = k; high = high; low = low }

pair_length : (k high low : ℕ) → length (spaces k ++ high ∷ low ∷ []) ≡ k + 2
pair_length k high low = length-append (spaces k) (high ∷ low ∷ []) ∙ ap (λ (n : ℕ). n + 2) (length-replicate {A = ℕ} k 32)

-- k spaces and a first digit were read
low_more : (k h : ℕ) (ts : List Token) (q : ℕ) (w : List ℕ) (p n : ℕ) (bs : List ℕ) (us : List Token) (open_ : Bool) → is_hex h ≡ true → p ≡ n + k + 1 → LowClaim ts q w h p bs us open_ → MoreClaim ts q w n (spaces k ++ h ∷ bs) us open_
low_more k h ts q w p n bs us open_ e d (inl c) =
    let len : p + 1 ≡ n + length (spaces k ++ h ∷ c.0 ∷ []) = omega (arith, pair_length k h c.0) in
    subst (λ (z : List ℕ). MoreClaim ts q w n z us open_) (append_assoc (spaces k) (h ∷ c.0 ∷ []) c.1 ∙ ap (λ (z : List ℕ). spaces k ++ h ∷ z) (sym c.2))
    (more_pair (record { spaces = k; high = h; low = c.0 }) ts q w n (p + 1) c.1 us open_ (e, c.3) len c.4)
low_more k h ts q w p n bs us open_ e d (inr c) =
    inr (record { pairs = []; spaces_ = k; part = spaces k ++ h ∷ bs; text = refl; are = tt; is_part = inr (h, e, ap (λ (z : List ℕ). spaces k ++ h ∷ z) c.0); none = c.1; ended = c.2 })

low_begin : (h : ℕ) (ts : List Token) (q p : ℕ) (bs : List ℕ) (us : List Token) (open_ : Bool) → is_hex h ≡ true → LowClaim ts q [] h (p + 1) bs us open_ → BeginClaim ts q p (h ∷ bs) us open_
low_begin h ts q p bs us open_ e (inl c) =
    subst (λ (z : List ℕ). BeginClaim ts q p z us open_) (ap (λ (z : List ℕ). h ∷ z) (sym c.2))
    (first_pair (record { spaces = 0; high = h; low = c.0 }) ts q p (p + 1 + 1) c.1 us open_ refl (e, c.3) (omega arith) c.4)
low_begin h ts q p bs us open_ e (inr c) =
    inr (record { pairs = []; spaces_ = 0; part = h ∷ bs; text = refl; are = tt; may = refl; is_part = inr (h, e, ap (λ (z : List ℕ). h ∷ z) c.0); none = c.1; ended = c.2 })

-- ---- a token begins

from_name : (ts : List Token) (p b : ℕ) (bs : List ℕ) (us : List Token) (open_ : Bool) → is_letter b ≡ true → WordClaim is_inner tok.Name ts p (b ∷ []) (p + 1) bs us open_ → FromGap ts p (b ∷ bs) us open_
from_name ts p b bs us open_ h c =
    moved ts p p (piece_bytes (Name b c.more) ++ c.rest) (b ∷ bs) us open_ refl (ap (λ (z : List ℕ). b ∷ z) (sym c.text))
    (from_piece (Name b c.more) ts p c.rest us open_ (h, c.every) c.apart (moved _ _ _ c.rest c.rest us open_ (omega arith) refl c.from))

from_number : (ts : List Token) (p b : ℕ) (bs : List ℕ) (us : List Token) (open_ : Bool) → is_digit b ≡ true → WordClaim is_digit tok.Number ts p (b ∷ []) (p + 1) bs us open_ → FromGap ts p (b ∷ bs) us open_
from_number ts p b bs us open_ h c =
    moved ts p p (piece_bytes (Number b c.more) ++ c.rest) (b ∷ bs) us open_ refl (ap (λ (z : List ℕ). b ∷ z) (sym c.text))
    (from_piece (Number b c.more) ts p c.rest us open_ (h, c.every) c.apart (moved _ _ _ c.rest c.rest us open_ (omega arith) refl c.from))

from_hex : (ts : List Token) (p b : ℕ) (bs : List ℕ) (us : List Token) (open_ : Bool) → is_hex b ≡ true → WordClaim is_hex tok.Hex ts p (b ∷ []) (p + 1 + 1 + 1) bs us open_ → FromGap ts p (48 ∷ 120 ∷ b ∷ bs) us open_
from_hex ts p b bs us open_ h c =
    moved ts p p (piece_bytes (Hex b c.more) ++ c.rest) (48 ∷ 120 ∷ b ∷ bs) us open_ refl (ap (λ (z : List ℕ). 48 ∷ 120 ∷ b ∷ z) (sym c.text))
    (from_piece (Hex b c.more) ts p c.rest us open_ (h, c.every) c.apart (moved _ _ _ c.rest c.rest us open_ (omega arith) refl c.from))

from_data : (ts : List Token) (p : ℕ) (bs : List ℕ) (us : List Token) (open_ : Bool) → BeginClaim ts p (p + 1 + 1 + 1) bs us open_ → FromGap ts p (48 ∷ 120 ∷ 34 ∷ bs) us open_
from_data ts p bs us open_ (inl c) =
    let len : p + 1 + 1 + 1 + length (flat_map pair_bytes c.pairs) + 1 ≡ p + length (piece_bytes (Data c.pairs)) = omega (arith, length-append (flat_map pair_bytes c.pairs) (34 ∷ [])) in
    moved ts p p (piece_bytes (Data c.pairs) ++ c.rest) (48 ∷ 120 ∷ 34 ∷ bs) us open_ refl (ap (λ (z : List ℕ). 48 ∷ 120 ∷ 34 ∷ z) (append_assoc (flat_map pair_bytes c.pairs) (34 ∷ []) c.rest ∙ sym c.text))
    (from_piece (Data c.pairs) ts p c.rest us open_ c.are tt (moved _ _ _ c.rest c.rest us open_ len refl c.from))
from_data ts p bs us open_ (inr c) = from_tail (OpenData c.pairs c.spaces_ c.part) ts p (48 ∷ 120 ∷ 34 ∷ bs) us open_ (c.are, c.may, c.is_part) (ap (λ (z : List ℕ). 48 ∷ 120 ∷ 34 ∷ z) c.text) c.none c.ended

from_mark : (ts : List Token) (p : ℕ) (bs : List ℕ) (us : List Token) (open_ : Bool) → MarkClaim ts p (p + 1 + 1) bs us open_ → FromGap ts p (48 ∷ 120 ∷ bs) us open_
from_mark ts p bs us open_ (inl c) = subst (λ (z : List ℕ). FromGap ts p (48 ∷ 120 ∷ z) us open_) (sym c.2) (from_hex ts p c.0 c.1 us open_ c.3 c.4)
from_mark ts p bs us open_ (inr (inl c)) = subst (λ (z : List ℕ). FromGap ts p (48 ∷ 120 ∷ z) us open_) (sym c.1) (from_data ts p c.0 us open_ c.2)
from_mark ts p bs us open_ (inr (inr c)) = from_tail OpenHex ts p (48 ∷ 120 ∷ bs) us open_ tt (ap (λ (z : List ℕ). 48 ∷ 120 ∷ z) c.0) c.1 c.2

from_zero : (ts : List Token) (p : ℕ) (bs : List ℕ) (us : List Token) (open_ : Bool) → ZeroClaim ts p (p + 1) bs us open_ → FromGap ts p (48 ∷ bs) us open_
from_zero ts p bs us open_ (inl c) = subst (λ (z : List ℕ). FromGap ts p (48 ∷ z) us open_) (sym c.1) (from_mark ts p c.0 us open_ c.2)
from_zero ts p bs us open_ (inr c) = from_number ts p 48 bs us open_ refl c

from_comment : (ts : List Token) (p : ℕ) (bs : List ℕ) (us : List Token) (open_ : Bool) → CommentClaim ts (p + 1) bs us open_ → FromGap ts p (35 ∷ bs) us open_
from_comment ts p bs us open_ (inl c) =
    let len : p + 1 + length c.0 + 1 ≡ p + length (piece_bytes (Comment c.0)) = omega (arith, length-append c.0 (10 ∷ [])) in
    moved ts p p (piece_bytes (Comment c.0) ++ c.1) (35 ∷ bs) us open_ refl (ap (λ (z : List ℕ). 35 ∷ z) (append_assoc c.0 (10 ∷ []) c.1 ∙ sym c.2))
    (from_piece (Comment c.0) ts p c.1 us open_ c.3 tt (moved _ _ _ c.1 c.1 us open_ len refl (subst (λ (z : List Token). FromGap z (p + 1 + length c.0 + 1) c.1 us open_) (sym (append-nil ts)) c.4)))
from_comment ts p bs us open_ (inr c) = from_tail (OpenComment bs) ts p (35 ∷ bs) us open_ c.0 refl c.1 c.2

from_text : (ts : List Token) (p : ℕ) (bs : List ℕ) (us : List Token) (open_ : Bool) → TextClaim ts p [] (p + 1) bs us open_ → FromGap ts p (34 ∷ bs) us open_
from_text ts p bs us open_ (inl c) =
    let len : p + 1 + length (flat_map letter_bytes c.letters) + 1 ≡ p + length (piece_bytes (Text c.letters)) = omega (arith, length-append (flat_map letter_bytes c.letters) (34 ∷ [])) in
    moved ts p p (piece_bytes (Text c.letters) ++ c.rest) (34 ∷ bs) us open_ refl (ap (λ (z : List ℕ). 34 ∷ z) (append_assoc (flat_map letter_bytes c.letters) (34 ∷ []) c.rest ∙ sym c.text))
    (from_piece (Text c.letters) ts p c.rest us open_ c.are tt (moved _ _ _ c.rest c.rest us open_ len refl c.from))
from_text ts p bs us open_ (inr c) = from_tail (OpenText c.letters c.part) ts p (34 ∷ bs) us open_ (c.are, c.is_part) (ap (λ (z : List ℕ). 34 ∷ z) c.text) c.none c.ended

from_blank : (ts : List Token) (p b : ℕ) (bs : List ℕ) (us : List Token) (open_ : Bool) → is_blank b ≡ true → FromGap ts (p + 1) bs us open_ → FromGap ts p (b ∷ bs) us open_
from_blank ts p b bs us open_ h g = from_piece (Blank b) ts p bs us open_ h tt (moved _ _ _ bs bs us open_ (omega arith) refl (subst (λ (z : List Token). FromGap z (p + 1) bs us open_) (sym (append-nil ts)) g))

from_sign : (ts : List Token) (p b : ℕ) (t : TokenKind) (bs : List ℕ) (us : List Token) (open_ : Bool) → sign b ≡ Some t → FromGap (with_token ts p t) (p + 1) bs us open_ → FromGap ts p (b ∷ bs) us open_
from_sign ts p b t bs us open_ h g = from_piece (Sign b t) ts p bs us open_ h tt (moved _ _ _ bs bs us open_ (omega arith) refl g)

-- ---- steps

-- what the scan of b and then of bs gives
record Leads (p b : ℕ) (bs : List ℕ) (s : Scanned) (r : Reading) : Type 0 where
  leads : taken (on p s) b bs (λ n. run next n bs) ≡ Ok r

by_cond : {Q : Type 0} (p b : ℕ) (bs : List ℕ) (t : Bool) (x y : Scanned) (r : Reading) → Leads p b bs (cond t x y) r → (t ≡ true → Leads p b bs x r → Q) → (t ≡ false → Leads p b bs y r → Q) → Q
by_cond p b bs true x y r h f g = f refl h
by_cond p b bs false x y r h f g = g refl h

stuck : {Q : Type 0} (p b : ℕ) (bs : List ℕ) (ts : List Token) (r : Reading) → Leads p b bs (refused ts) r → Q
stuck p b bs ts r h = let e = h.leads in cc

abbrev pub out : Reading → List Token
out r = whole r.scan.tokens r.scan.begun

abbrev pub left : Reading → Bool
left r = stays_open r.scan.begun

abbrev Sounds : List ℕ → Type 0
Sounds bs = (ts : List Token) (x : Open) (p : ℕ) (r : Reading) → run next (reading p ts x) bs ≡ Ok r → Claim x ts p bs (out r) (left r)

by_signed : (ts : List Token) (p b : ℕ) (bs : List ℕ) (r : Reading) (s : Option TokenKind) → sign b ≡ s → Sounds bs → Leads p b bs (signed ts p s) r → FromGap ts p (b ∷ bs) (out r) (left r)
by_signed ts p b bs r (Some t) e i h = from_sign ts p b t bs (out r) (left r) e (i (with_token ts p t) o.Gap (p + 1) r h.leads)
by_signed ts p b bs r None e i h = stuck p b bs ts r h

gap_sound : (ts : List Token) (p b : ℕ) (bs : List ℕ) (r : Reading) → Sounds bs → Leads p b bs (gap ts p b) r → FromGap ts p (b ∷ bs) (out r) (left r)
gap_sound ts p b bs r i h =
    by_cond p b bs (is_blank b) _ _ r h (λ e k. from_blank ts p b bs (out r) (left r) e (i ts o.Gap (p + 1) r k.leads)) (λ _ h1.
    by_cond p b bs (is_letter b) _ _ r h1 (λ e k. from_name ts p b bs (out r) (left r) e (i ts (o.Name p (b ∷ [])) (p + 1) r k.leads)) (λ _ h2.
    by_cond p b bs (b == 48) _ _ r h2 (λ e k. subst (λ (z : ℕ). FromGap ts p (z ∷ bs) (out r) (left r)) (sym (eqb-true b 48 e)) (from_zero ts p bs (out r) (left r) (i ts (o.Zero p) (p + 1) r k.leads))) (λ _ h3.
    by_cond p b bs (is_digit b) _ _ r h3 (λ e k. from_number ts p b bs (out r) (left r) e (i ts (o.Number p (b ∷ [])) (p + 1) r k.leads)) (λ _ h4.
    by_cond p b bs (b == 35) _ _ r h4 (λ e k. subst (λ (z : ℕ). FromGap ts p (z ∷ bs) (out r) (left r)) (sym (eqb-true b 35 e)) (from_comment ts p bs (out r) (left r) (i ts o.Comment (p + 1) r k.leads))) (λ _ h5.
    by_cond p b bs (b == 34) _ _ r h5 (λ e k. subst (λ (z : ℕ). FromGap ts p (z ∷ bs) (out r) (left r)) (sym (eqb-true b 34 e)) (from_text ts p bs (out r) (left r) (i ts (o.Text p []) (p + 1) r k.leads))) (λ _ h6.
    by_signed ts p b bs r (sign b) refl i h6))))))

name_sound : (ts : List Token) (q : ℕ) (w : List ℕ) (p b : ℕ) (bs : List ℕ) (r : Reading) → Sounds bs → Leads p b bs (in_name ts q w p b) r → WordClaim is_inner tok.Name ts q w p (b ∷ bs) (out r) (left r)
name_sound ts q w p b bs r i h =
    by_cond p b bs (is_inner b) _ _ r h (λ e k. word_more is_inner tok.Name ts q w p b bs (out r) (left r) e (i ts (o.Name q (w ++ b ∷ [])) (p + 1) r k.leads))
    (λ e k. word_stop is_inner tok.Name ts q w p (b ∷ bs) (out r) (left r) e (gap_sound (with_token ts q (tok.Name w)) p b bs r i k))

behind_sound : (f : ℕ → Bool) (made : List ℕ → TokenKind) (ts : List Token) (q : ℕ) (w : List ℕ) (p b : ℕ) (bs : List ℕ) (r : Reading) → Sounds bs → Leads p b bs (behind (with_token ts q (made w)) p b) r → WordClaim f made ts q w p (b ∷ bs) (out r) (left r)
behind_sound f made ts q w p b bs r i h =
    by_cond p b bs (is_inner b) _ _ r h (λ e k. stuck p b bs (with_token ts q (made w)) r k)
    (λ e k. word_stop f made ts q w p (b ∷ bs) (out r) (left r) e (gap_sound (with_token ts q (made w)) p b bs r i k))

number_sound : (ts : List Token) (q : ℕ) (w : List ℕ) (p b : ℕ) (bs : List ℕ) (r : Reading) → Sounds bs → Leads p b bs (in_number ts q w p b) r → WordClaim is_digit tok.Number ts q w p (b ∷ bs) (out r) (left r)
number_sound ts q w p b bs r i h =
    by_cond p b bs (is_digit b) _ _ r h (λ e k. word_more is_digit tok.Number ts q w p b bs (out r) (left r) e (i ts (o.Number q (w ++ b ∷ [])) (p + 1) r k.leads))
    (λ e k. behind_sound is_digit tok.Number ts q w p b bs r i k)

hex_sound : (ts : List Token) (q : ℕ) (w : List ℕ) (p b : ℕ) (bs : List ℕ) (r : Reading) → Sounds bs → Leads p b bs (in_hex ts q w p b) r → WordClaim is_hex tok.Hex ts q w p (b ∷ bs) (out r) (left r)
hex_sound ts q w p b bs r i h =
    by_cond p b bs (is_hex b) _ _ r h (λ e k. word_more is_hex tok.Hex ts q w p b bs (out r) (left r) e (i ts (o.Hex q (w ++ b ∷ [])) (p + 1) r k.leads))
    (λ e k. behind_sound is_hex tok.Hex ts q w p b bs r i k)

zero_sound : (ts : List Token) (q p b : ℕ) (bs : List ℕ) (r : Reading) → Sounds bs → Leads p b bs (in_zero ts q p b) r → ZeroClaim ts q p (b ∷ bs) (out r) (left r)
zero_sound ts q p b bs r i h =
    by_cond p b bs (b == 120) _ _ r h (λ e k. inl (bs, ap (λ (z : ℕ). z ∷ bs) (eqb-true b 120 e), i ts (o.HexMark q) (p + 1) r k.leads)) (λ e k. inr (number_sound ts q (48 ∷ []) p b bs r i k))

mark_sound : (ts : List Token) (q p b : ℕ) (bs : List ℕ) (r : Reading) → Sounds bs → Leads p b bs (in_mark ts q b) r → MarkClaim ts q p (b ∷ bs) (out r) (left r)
mark_sound ts q p b bs r i h =
    by_cond p b bs (is_hex b) _ _ r h (λ e k. inl (b, bs, refl, e, i ts (o.Hex q (b ∷ [])) (p + 1) r k.leads)) (λ _ h1.
    by_cond p b bs (b == 34) _ _ r h1 (λ e k. inr (inl (bs, ap (λ (z : ℕ). z ∷ bs) (eqb-true b 34 e), i ts (o.DataBegin q) (p + 1) r k.leads))) (λ _ h2. stuck p b bs ts r h2))

comment_more : (ts : List Token) (p b : ℕ) (bs : List ℕ) (us : List Token) (open_ : Bool) → (b == 10) ≡ false → CommentClaim ts (p + 1) bs us open_ → CommentClaim ts p (b ∷ bs) us open_
comment_more ts p b bs us open_ h (inl c) = inl (b ∷ c.0, c.1, ap (λ (z : List ℕ). b ∷ z) c.2, (h, c.3), moved ts _ _ c.1 c.1 us open_ (omega arith) refl c.4)
comment_more ts p b bs us open_ h (inr c) = inr ((h, c.0), c.1, c.2)

comment_sound : (ts : List Token) (p b : ℕ) (bs : List ℕ) (r : Reading) → Sounds bs → Leads p b bs (in_comment ts b) r → CommentClaim ts p (b ∷ bs) (out r) (left r)
comment_sound ts p b bs r i h =
    by_cond p b bs (b == 10) _ _ r h (λ e k. inl ([], bs, ap (λ (z : ℕ). z ∷ bs) (eqb-true b 10 e), tt, moved ts _ _ bs bs (out r) (left r) (omega arith) refl (i ts o.Gap (p + 1) r k.leads)))
    (λ e k. comment_more ts p b bs (out r) (left r) e (i ts o.Comment (p + 1) r k.leads))

text_sound : (ts : List Token) (q : ℕ) (w : List ℕ) (p b : ℕ) (bs : List ℕ) (r : Reading) → Sounds bs → Leads p b bs (in_text ts q w b) r → TextClaim ts q w p (b ∷ bs) (out r) (left r)
text_sound ts q w p b bs r i h =
    by_cond p b bs (b == 34) _ _ r h
    (λ e k. inl (record {
      letters = [];
      rest = bs;
      text = ap (λ (z : ℕ). z ∷ bs) (eqb-true b 34 e);
      are = tt;
      from = moved _ _ _ bs bs (out r) (left r) (omega arith) refl (subst (λ (z : List ℕ). FromGap (with_token ts q (tok.Text z)) (p + 1) bs (out r) (left r)) (sym (append-nil w)) (i (with_token ts q (tok.Text w)) o.Gap (p + 1) r k.leads));
    })) (λ e1 h1.
    by_cond p b bs (b == 92) _ _ r h1 (λ e k. subst (λ (z : ℕ). TextClaim ts q w p (z ∷ bs) (out r) (left r)) (sym (eqb-true b 92 e)) (i ts (o.Escape q w) (p + 1) r k.leads p refl)) (λ e2 h2.
    by_cond p b bs (b == 10) _ _ r h2 (λ e k. stuck p b bs ts r k)
    (λ e3 k. text_letter (Raw b) ts q w p (p + 1) bs (out r) (left r) (not_no (b == 34 || (b == 92 || b == 10)) (or_no (b == 34) (b == 92 || b == 10) e1 (or_no (b == 92) (b == 10) e2 e3))) (omega arith) (i ts (o.Text q (w ++ b ∷ [])) (p + 1) r k.leads))))

escape_sound : (ts : List Token) (q : ℕ) (w : List ℕ) (p b : ℕ) (bs : List ℕ) (r : Reading) → Sounds bs → Leads p b bs (in_escape ts q w b) r → (n : ℕ) → p ≡ n + 1 → TextClaim ts q w n (92 ∷ b ∷ bs) (out r) (left r)
escape_sound ts q w p b bs r i h n d =
    by_cond p b bs (b == 120) _ _ r h (λ e k. subst (λ (z : ℕ). TextClaim ts q w n (92 ∷ z ∷ bs) (out r) (left r)) (sym (eqb-true b 120 e)) (i ts (o.EscapeHex q w) (p + 1) r k.leads n (omega arith))) (λ e1 h1.
    by_cond p b bs (is_escape b) _ _ r h1 (λ e k. text_letter (Escape b) ts q w n (p + 1) bs (out r) (left r) e (omega arith) (i ts (o.Text q (w ++ escaped b ∷ [])) (p + 1) r k.leads)) (λ e k. stuck p b bs ts r k))

escape_hex_sound : (ts : List Token) (q : ℕ) (w : List ℕ) (p b : ℕ) (bs : List ℕ) (r : Reading) → Sounds bs → Leads p b bs (in_escape_hex ts q w b) r → (n : ℕ) → p ≡ n + 2 → TextClaim ts q w n (92 ∷ 120 ∷ b ∷ bs) (out r) (left r)
escape_hex_sound ts q w p b bs r i h n d = by_cond p b bs (is_hex b) _ _ r h (λ e k. i ts (o.EscapeLow q w b) (p + 1) r k.leads n (omega arith) e) (λ e k. stuck p b bs ts r k)

escape_low_sound : (ts : List Token) (q : ℕ) (w : List ℕ) (a p b : ℕ) (bs : List ℕ) (r : Reading) → Sounds bs → Leads p b bs (in_escape_low ts q w a b) r → (n : ℕ) → p ≡ n + 3 → is_hex a ≡ true → TextClaim ts q w n (92 ∷ 120 ∷ a ∷ b ∷ bs) (out r) (left r)
escape_low_sound ts q w a p b bs r i h n d x =
    by_cond p b bs (is_hex b) _ _ r h (λ e k. text_letter (Code a b) ts q w n (p + 1) bs (out r) (left r) (x, e) (omega arith) (i ts (o.Text q (w ++ byte_of a b ∷ [])) (p + 1) r k.leads)) (λ e k. stuck p b bs ts r k)

-- the text ends, or a first digit comes
data_sound : (ts : List Token) (q : ℕ) (w : List ℕ) (p b : ℕ) (bs : List ℕ) (r : Reading) → Sounds bs → Leads p b bs (in_data ts q w b) r → MoreClaim ts q w p (b ∷ bs) (out r) (left r)
data_sound ts q w p b bs r i h =
    by_cond p b bs (b == 34) _ _ r h
    (λ e k. inl (record {
      pairs = [];
      rest = bs;
      text = ap (λ (z : ℕ). z ∷ bs) (eqb-true b 34 e);
      are = tt;
      from = moved _ _ _ bs bs (out r) (left r) (omega arith) refl (subst (λ (z : List ℕ). FromGap (with_token ts q (tok.Data z)) (p + 1) bs (out r) (left r)) (sym (append-nil w)) (i (with_token ts q (tok.Data w)) o.Gap (p + 1) r k.leads));
    })) (λ _ h1.
    by_cond p b bs (is_hex b) _ _ r h1 (λ e k. low_more 0 b ts q w (p + 1) p bs (out r) (left r) e (omega arith) (i ts (o.DataLow q w b) (p + 1) r k.leads)) (λ _ h2. stuck p b bs ts r h2))

begin_sound : (ts : List Token) (q p b : ℕ) (bs : List ℕ) (r : Reading) → Sounds bs → Leads p b bs (in_data ts q [] b) r → BeginClaim ts q p (b ∷ bs) (out r) (left r)
begin_sound ts q p b bs r i h =
    by_cond p b bs (b == 34) _ _ r h
    (λ e k. inl (record {
      pairs = [];
      rest = bs;
      text = ap (λ (z : ℕ). z ∷ bs) (eqb-true b 34 e);
      are = tt;
      from = moved _ _ _ bs bs (out r) (left r) (omega arith) refl (i (with_token ts q (tok.Data [])) o.Gap (p + 1) r k.leads);
    })) (λ _ h1.
    by_cond p b bs (is_hex b) _ _ r h1 (λ e k. low_begin b ts q p bs (out r) (left r) e (i ts (o.DataLow q [] b) (p + 1) r k.leads)) (λ _ h2. stuck p b bs ts r h2))

data_low_sound : (ts : List Token) (q : ℕ) (w : List ℕ) (a p b : ℕ) (bs : List ℕ) (r : Reading) → Sounds bs → Leads p b bs (in_data_low ts q w a b) r → LowClaim ts q w a p (b ∷ bs) (out r) (left r)
data_low_sound ts q w a p b bs r i h =
    by_cond p b bs (is_hex b) _ _ r h (λ e k. inl (b, bs, refl, e, i ts (o.DataPair q (w ++ byte_of a b ∷ [])) (p + 1) r k.leads)) (λ e k. stuck p b bs ts r k)

pair_sound : (ts : List Token) (q : ℕ) (w : List ℕ) (p b : ℕ) (bs : List ℕ) (r : Reading) → Sounds bs → Leads p b bs (in_pair ts q w b) r → MoreClaim ts q w p (b ∷ bs) (out r) (left r)
pair_sound ts q w p b bs r i h =
    by_cond p b bs (b == 32) _ _ r h (λ e k. subst (λ (z : ℕ). MoreClaim ts q w p (z ∷ bs) (out r) (left r)) (sym (eqb-true b 32 e)) (i ts (o.DataSpace q w) (p + 1) r k.leads 1 p (omega arith))) (λ _ h1. data_sound ts q w p b bs r i h1)

spaces_push : (k : ℕ) (bs : List ℕ) → spaces (suc k) ++ bs ≡ spaces k ++ 32 ∷ bs
spaces_push zero bs = refl
spaces_push (suc k) bs = ap (λ (z : List ℕ). 32 ∷ z) (spaces_push k bs)

space_sound : (ts : List Token) (q : ℕ) (w : List ℕ) (p b : ℕ) (bs : List ℕ) (r : Reading) → Sounds bs → Leads p b bs (in_space ts q w b) r → (k n : ℕ) → p ≡ n + k → MoreClaim ts q w n (spaces k ++ b ∷ bs) (out r) (left r)
space_sound ts q w p b bs r i h k n d =
    by_cond p b bs (b == 32) _ _ r h
    (λ e l. subst (λ (z : List ℕ). MoreClaim ts q w n z (out r) (left r)) (spaces_push k bs ∙ ap (λ (z : ℕ). spaces k ++ z ∷ bs) (sym (eqb-true b 32 e))) (i ts (o.DataSpace q w) (p + 1) r l.leads (suc k) n (omega arith))) (λ _ h1.
    by_cond p b bs (is_hex b) _ _ r h1 (λ e l. low_more k b ts q w (p + 1) n bs (out r) (left r) e (omega arith) (i ts (o.DataLow q w b) (p + 1) r l.leads)) (λ _ h2. stuck p b bs ts r h2))

-- ---- every state

no_more : (f : ℕ → Bool) (made : List ℕ → TokenKind) (ts : List Token) (q : ℕ) (w : List ℕ) (p : ℕ) → WordClaim f made ts q w p [] (with_token ts q (made w)) false
no_more f made ts q w p = word_stop f made ts q w p [] (with_token ts q (made w)) false tt (from_tail Nothing (with_token ts q (made w)) p [] (with_token ts q (made w)) false tt refl refl refl)

left_text : (ts : List Token) (part : List ℕ) → LetterPart part → TextLeft ts part ts true
left_text ts part h = record { letters = []; part = part; text = refl; are = tt; is_part = h; none = refl; ended = refl }

at_end : (x : Open) (ts : List Token) (p : ℕ) → Claim x ts p [] (whole ts x) (stays_open x)
at_end o.Gap ts p = from_tail Nothing ts p [] ts false tt refl refl refl
at_end o.Comment ts p = inr (tt, refl, refl)
at_end (o.Name q w) ts p = no_more is_inner tok.Name ts q w p
at_end (o.Zero q) ts p = inr (no_more is_digit tok.Number ts q (48 ∷ []) p)
at_end (o.Number q w) ts p = no_more is_digit tok.Number ts q w p
at_end (o.HexMark q) ts p = inr (inr (refl, refl, refl))
at_end (o.Hex q w) ts p = no_more is_hex tok.Hex ts q w p
at_end (o.Text q w) ts p = inr (left_text ts [] (inl refl))
at_end (o.Escape q w) ts p = λ n e. inr (left_text ts (92 ∷ []) (inr (inl refl)))
at_end (o.EscapeHex q w) ts p = λ n e. inr (left_text ts (92 ∷ 120 ∷ []) (inr (inr (inl refl))))
at_end (o.EscapeLow q w h) ts p = λ n e x. inr (left_text ts (92 ∷ 120 ∷ h ∷ []) (inr (inr (inr (h, x, refl)))))
at_end (o.DataBegin q) ts p = inr (record { pairs = []; spaces_ = 0; part = []; text = refl; are = tt; may = refl; is_part = inl refl; none = refl; ended = refl })
at_end (o.DataLow q w h) ts p = inr (refl, refl, refl)
at_end (o.DataPair q w) ts p = inr (record { pairs = []; spaces_ = 0; part = []; text = refl; are = tt; is_part = inl refl; none = refl; ended = refl })
at_end (o.DataSpace q w) ts p = λ k n e. inr (record { pairs = []; spaces_ = k; part = spaces k ++ []; text = refl; are = tt; is_part = inl (append-nil (spaces k)); none = refl; ended = refl })

sounds_nil : Sounds []
sounds_nil ts x p r h = let same : reading p ts x ≡ r = cc in subst (λ (z : Reading). Claim x ts p [] (out z) (left z)) same (at_end x ts p)

sounds_cons : (b : ℕ) (bs : List ℕ) → Sounds bs → Sounds (b ∷ bs)
sounds_cons b bs i ts o.Gap p r h = gap_sound ts p b bs r i (record { leads = h })
sounds_cons b bs i ts o.Comment p r h = comment_sound ts p b bs r i (record { leads = h })
sounds_cons b bs i ts (o.Name q w) p r h = name_sound ts q w p b bs r i (record { leads = h })
sounds_cons b bs i ts (o.Zero q) p r h = zero_sound ts q p b bs r i (record { leads = h })
sounds_cons b bs i ts (o.Number q w) p r h = number_sound ts q w p b bs r i (record { leads = h })
sounds_cons b bs i ts (o.HexMark q) p r h = mark_sound ts q p b bs r i (record { leads = h })
sounds_cons b bs i ts (o.Hex q w) p r h = hex_sound ts q w p b bs r i (record { leads = h })
sounds_cons b bs i ts (o.Text q w) p r h = text_sound ts q w p b bs r i (record { leads = h })
sounds_cons b bs i ts (o.Escape q w) p r h = escape_sound ts q w p b bs r i (record { leads = h })
sounds_cons b bs i ts (o.EscapeHex q w) p r h = escape_hex_sound ts q w p b bs r i (record { leads = h })
sounds_cons b bs i ts (o.EscapeLow q w a) p r h = escape_low_sound ts q w a p b bs r i (record { leads = h })
sounds_cons b bs i ts (o.DataBegin q) p r h = begin_sound ts q p b bs r i (record { leads = h })
sounds_cons b bs i ts (o.DataLow q w a) p r h = data_low_sound ts q w a p b bs r i (record { leads = h })
sounds_cons b bs i ts (o.DataPair q w) p r h = pair_sound ts q w p b bs r i (record { leads = h })
sounds_cons b bs i ts (o.DataSpace q w) p r h = space_sound ts q w p b bs r i (record { leads = h })

sounds : (bs : List ℕ) → Sounds bs
sounds [] = sounds_nil
sounds (b ∷ bs) = sounds_cons b bs (sounds bs)

-- What is scanned is cut into pieces, and these are its whole tokens.
pub cut_sound : (bs : List ℕ) (r : Reading) → run next begin bs ≡ Ok r → IsCut bs (out r) (left r)
cut_sound bs r h =
    let g : FromGap [] 0 bs (out r) (left r) = sounds bs [] o.Gap 0 r h in
    record { pieces = g.pieces; tail = g.tail; are = g.are; is_tail = g.is_tail; text = g.text; found = g.found; ended = g.ended }
