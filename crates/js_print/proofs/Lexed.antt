-- The tokens of any text are printable, and their texts are read as the same tokens.
use Rattle.std.proofs.Common.{◌≡◌, ℕ, ◌+◌, Bool, true, false, List, [], ◌∷◌, ◌++◌, map, length, Option, Some, None, refl, sym, ◌∙◌, ap, subst, append_assoc, inl, inr}
use Rattle.std.specs.Prelude.{◌&&◌, not}
use Rattle.std.specs.Str.{bytes_eq}
use Rattle.std.proofs.lemmas.Slice.Eq.{bytes_eq-Decides}
use Rattle.js_lex.specs.declared.token.TokenKind.{TokenKind}
use Rattle.js_lex.specs.declared.token.TokenKind.TheVariants as tok
use Rattle.js_lex.specs.declared.token.Reserved.{Reserved}
use Rattle.js_lex.specs.declared.token.Token.{Token as Placed}
use Rattle.js_lex.specs.declared.scan.Brace.{Brace}
use Rattle.js_lex.specs.declared.front.Unread.{Unread}
use Rattle.js_lex.specs.declared.front.Unread.TheVariants as bad
use Rattle.js_lex.specs.Tables.{reserved_words}
use Rattle.js_lex.specs.Units.{Text, is_digit, is_part}
use Rattle.js_lex.specs.Lists.{In}
use Rattle.js_lex.specs.Places.{in_hole, token}
use Rattle.js_lex.specs.Front.{find_word, name_kind, word_or_name}
use Rattle.js_lex.specs.Numbers.{number_value}
use Rattle.js_lex.specs.Elements.{Element, White, LineEnd, LineComment, BlockComment, Word, Numeric, String, Part, Sign, units, Stands}
use Rattle.js_lex.specs.Grammar.{Reading, Gap, Token, Refused, IsKind, IsAscii, ReadsWord, ReadsValue, Reads, Piece, text_of, ArePieces, braces_behind, piece_tokens, line_ends, last_kind, tokens, AreTokens}
use Rattle.js_lex.proofs.Truths.{cond_no, either, and_first, and_second, not_yes, all_of}
use Rattle.js_lex.proofs.Signs.{no_truth}
use Rattle.js_print.proofs.Printable.{IsWord, IsPrintable, read_as}

-- it is printable, and its text is read as this token
pub record IsTold (k : TokenKind) : Type 0 where
  pub printable : IsPrintable k
  pub same : read_as k ≡ k

abbrev pub AreTold : List TokenKind → Type 0
AreTold [] = Unit {0}
AreTold (k ∷ ks) = IsTold k × AreTold ks

abbrev pub kind_of : Placed → TokenKind
kind_of t = t.kind

abbrev pub kinds : List Placed → List TokenKind
kinds ts = map kind_of ts

-- ---- names

-- a word that is in no row of the table is not found
not_found : (xs : List (Text × Reserved)) (w : Text) → ((r : Reserved) → In (w, r) xs → ⊥) → find_word xs w ≡ None
not_found [] w n = refl
not_found (x ∷ xs) w n = elim (either (bytes_eq w x.0)) [
  | inl y ↦ absurd (n x.1 (inl (ap (λ (z : Text). let r : Text × Reserved = (z, x.1) in r) (sym ((bytes_eq-Decides w x.0).0 y)))))
  | inr k ↦ cond_no _ _ _ k ∙ not_found xs w (λ r i. n r (inr i))
]

name_told : (u : ℕ) (w : Text) → is_digit u ≡ false → IsAscii (u ∷ w) → ((r : Reserved) → In (u ∷ w, r) reserved_words → ⊥) → IsTold (tok.Name (u ∷ w))
name_told u w d a n = record { printable = (d, a); same = ap (word_or_name (u ∷ w)) (not_found reserved_words (u ∷ w) n) }

kind_told : (u : ℕ) (w : Text) (k : TokenKind) → is_digit u ≡ false → IsAscii (u ∷ w) → IsKind (u ∷ w) k → IsTold k
kind_told u w k d a (inl x) = subst IsTold (sym x.2) (record { printable = tt; same = refl })
kind_told u w k d a (inr x) = subst IsTold (sym x.1) (name_told u w d a x.0)

token_is : (k m : TokenKind) → Token k ≡ Token m → m ≡ k
token_is k m e = cc

word_told : (u : ℕ) (w : Text) (k : TokenKind) → is_digit u ≡ false → ReadsWord (u ∷ w) (Token k) → IsTold k
word_told u w k d (inl x) = subst IsTold (token_is k x.1.0 x.1.2) (kind_told u w x.1.0 d x.0 x.1.1)
word_told u w k d (inr x) = (let e : Token k ≡ Refused bad.Identifier = x.1 in cc)

-- ---- one piece

value_told : (o : Option ℕ) (k : TokenKind) → ReadsValue o (Token k) → IsTold k
value_told None k e = cc
value_told (Some v) k (inl x) = subst IsTold (token_is k (tok.Number v) x.1) (record { printable = x.0; same = refl })
value_told (Some v) k (inr x) = (let e : Token k ≡ Refused bad.Number = x.1 in cc)

piece_told : (h : Bool) (e : Element) (z : Text) (k : TokenKind) → Stands h e z → Reads e z (Token k) → IsTold k
piece_told h (White u) z k s r = cc
piece_told h (LineEnd u) z k s r = cc
piece_told h (LineComment w) z k s r = cc
piece_told h (BlockComment w) z k s r = cc
piece_told h (Word u w) z k s r = word_told u w k s.0 r
piece_told h (Numeric n) z k s (inl r) = value_told (number_value n) k r.1
piece_told h (Numeric n) z k s (inr r) = (let e : Token k ≡ Refused bad.Syntax = r.1 in cc)
piece_told h (String d cs) z k s r = subst IsTold (token_is k (tok.Text _) r) (record { printable = tt; same = refl })
piece_told h (Part b cs e) z k s r = subst IsTold (token_is k (tok.Template _ _) r) (record { printable = tt; same = refl })
piece_told h (Sign w p) z k s r = subst IsTold (token_is k (tok.Punctuator p) r) (record { printable = tt; same = refl })

-- ---- the whole text

-- the tokens before the last one
abbrev before : ℕ → Bool → List Piece → List Placed
before n l [] = []
before n l (p ∷ ps) = piece_tokens n l p.reading ++ before (n + length (units p.element)) (line_ends l p.reading) ps

record Last (ts us : List Placed) : Type 0 where
  last : Placed
  is : ts ≡ us ++ last ∷ []

last_of : (n : ℕ) (l : Bool) (ps : List Piece) (stop : Option Unread) → Last (tokens n l ps stop) (before n l ps)
last_of n l [] stop = record { last = token n l (last_kind n stop); is = refl }
last_of n l (p ∷ ps) stop =
    let i = last_of (n + length (units p.element)) (line_ends l p.reading) ps stop in
    record {
      last = i.last;
      is = ap (λ (ts : List Placed). piece_tokens n l p.reading ++ ts) i.is ∙ sym (append_assoc (piece_tokens n l p.reading) (before (n + length (units p.element)) (line_ends l p.reading) ps) (i.last ∷ []));
    }

with_piece : (n : ℕ) (l : Bool) (r : Reading) (ts : List Placed) → ((k : TokenKind) → r ≡ Token k → IsTold k) → AreTold (kinds ts) → AreTold (kinds (piece_tokens n l r ++ ts))
with_piece n l (Gap b) ts f a = a
with_piece n l (Token k) ts f a = (f k refl, a)
with_piece n l (Refused why) ts f a = a

before_told : (bs : List Brace) (n : ℕ) (l : Bool) (ps : List Piece) (tail : Text) → ArePieces bs ps tail → AreTold (kinds (before n l ps))
before_told bs n l [] tail a = tt
before_told bs n l (p ∷ ps) tail a =
    with_piece n l p.reading (before (n + length (units p.element)) (line_ends l p.reading) ps)
    (λ k e. piece_told (in_hole bs) p.element (text_of ps ++ tail) k a.0.0 (subst (λ (r : Reading). Reads p.element (text_of ps ++ tail) r) e a.0.2))
    (before_told (braces_behind p.reading bs) (n + length (units p.element)) (line_ends l p.reading) ps tail a.2)

some_behind : (us : List Placed) (b : Placed) → us ++ b ∷ [] ≡ [] → ⊥
some_behind [] b e = cc
some_behind (u ∷ us) b e = cc

same_fronts : (ts us : List Placed) (a b : Placed) → ts ++ a ∷ [] ≡ us ++ b ∷ [] → ts ≡ us
same_fronts [] [] a b e = refl
same_fronts [] (u ∷ us) a b e = absurd (some_behind us b (let k : [] ≡ us ++ b ∷ [] = cc in sym k))
same_fronts (t ∷ ts) [] a b e = absurd (some_behind ts a (let k : ts ++ a ∷ [] ≡ [] = cc in k))
same_fronts (t ∷ ts) (u ∷ us) a b e =
    let x : t ≡ u = cc in
    let y : ts ++ a ∷ [] ≡ us ++ b ∷ [] = cc in
    let z = same_fronts ts us a b y in cc

-- The tokens of a text, but the last one.
pub tokens_told : (text : Text) (ts : List Placed) (last : Placed) → AreTokens text (ts ++ last ∷ []) → AreTold (kinds ts)
tokens_told text ts last a =
    let l = last_of 0 false a.pieces a.stop in
    let same = same_fronts ts (before 0 false a.pieces) last l.last (a.found ∙ l.is) in
    subst (λ (us : List Placed). AreTold (kinds us)) (sym same) (before_told [] 0 false a.pieces a.tail a.are)

-- ---- letters of reserved words

abbrev is_word : Text → Bool
is_word [] = false
is_word (u ∷ w) = not (is_digit u) && all_of is_part (u ∷ w)

every_of : (w : Text) → all_of is_part w ≡ true → IsAscii w
every_of [] h = tt
every_of (u ∷ w) h = (and_first (is_part u) (all_of is_part w) h, every_of w (and_second (is_part u) (all_of is_part w) h))

word_of : (w : Text) → is_word w ≡ true → IsWord w
word_of [] h = absurd (no_truth (sym h))
word_of (u ∷ w) h = (not_yes (is_digit u) (and_first (not (is_digit u)) (all_of is_part (u ∷ w)) h), every_of (u ∷ w) (and_second (not (is_digit u)) (all_of is_part (u ∷ w)) h))

abbrev Row : Type 0
Row = Text × Reserved

rows_words : all_of (λ (r : Row). is_word r.0) reserved_words ≡ true
rows_words = refl

found_row : (xs : List Row) (w : Text) (r : Reserved) → find_word xs w ≡ Some r → all_of (λ (x : Row). is_word x.0) xs ≡ true → IsWord w
found_row [] w r e h = cc
found_row (x ∷ xs) w r e h = elim (either (bytes_eq w x.0)) [
  | inl y ↦ subst IsWord (sym ((bytes_eq-Decides w x.0).0 y)) (word_of x.0 (and_first (is_word x.0) _ h))
  | inr k ↦ found_row xs w r (sym (cond_no _ _ _ k) ∙ e) (and_second (is_word x.0) _ h)
]

word_from : (w : Text) (o : Option Reserved) → find_word reserved_words w ≡ o → IsPrintable (word_or_name w o) → IsWord w
word_from w None e i = i
word_from w (Some r) e i = found_row reserved_words w r e rows_words

-- letters that some token is read from are printable as a name
pub letters_printable : (w : Text) → IsPrintable (name_kind w) → IsPrintable (tok.Name w)
letters_printable w i = word_from w (find_word reserved_words w) refl i
