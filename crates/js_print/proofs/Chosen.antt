-- The pieces of a script tell of each form that its first alternative is printed, and the text's tokens are of these forms.
use Rattle.std.proofs.Common.{◌≡◌, ℕ, ◌+◌, Bool, true, false, List, [], ◌∷◌, ◌++◌, map, length, refl, sym, ap, ◌∙◌, subst, inl, inr}
use Rattle.js_lex.specs.declared.token.TokenKind.{TokenKind}
use Rattle.js_lex.specs.declared.token.Token.{Token}
use Rattle.js_lex.specs.Places.{token}
use Rattle.js_grammar.specs.Marks.{Piece, Read, Ended, Seen, Want, Just, At, Auto, IsUnbroken, IsWanted, Mark, AreOf, Form, IsOneOf, Matches}
use Rattle.js_grammar.specs.Script.{pieces, Puts, PutsEnds}
use Rattle.js_print.specs.TokenText.{token_text}
use Rattle.js_print.specs.Printed.{plain}
use Rattle.js_print.proofs.Printable.{ArePrintable, read_as, placed}
use Rattle.js_print.proofs.Lexed.{IsTold, AreTold, kinds}
use Rattle.js_print.proofs.Forms.{WantTold, MarksTold, SomeTold, IsOfKind, HasOne, Chosen, AllGood}
use Rattle.js_print.proofs.Filled.{fill_want, fill, fill_all}

-- ---- the pieces of a script

abbrev pub PieceTold : Piece → Type 0
PieceTold (Read t) = IsTold t.kind
PieceTold Ended = Unit {0}

abbrev pub PiecesTold : List Piece → Type 0
PiecesTold [] = Unit {0}
PiecesTold (q ∷ qs) = PieceTold q × PiecesTold qs

told_puts : (before : List Piece) (ts : List Token) (ps : List Piece) → AreTold (kinds ts) → Puts before ts ps → PiecesTold ps
told_puts before [] ps h k = subst PiecesTold (sym k) tt
told_puts before (t ∷ ts) ps h k = elim k [
  | inl a ↦ subst PiecesTold (sym a.1) (h.0, told_puts (before ++ Read t ∷ []) ts a.0 h.1 a.2)
  | inr b ↦ subst PiecesTold (sym b.1) (tt, (h.0, told_puts (before ++ Ended ∷ Read t ∷ []) ts b.0 h.1 b.3))
]

told_behind : (ps : List Piece) → PiecesTold ps → PiecesTold (ps ++ Ended ∷ [])
told_behind [] h = (tt, tt)
told_behind (q ∷ ps) h = (h.0, told_behind ps h.1)

pub told_ends : (ts : List Token) (ps : List Piece) → AreTold (kinds ts) → PutsEnds ts ps → PiecesTold ps
told_ends ts ps h (qs, k, e) = elim e [
  | inl a ↦ subst PiecesTold (sym a) (told_puts [] ts qs h k)
  | inr b ↦ subst PiecesTold (sym b) (told_behind qs (told_puts [] ts qs h k))
]

-- ---- the forms that they are of

abbrev SeenTold : List Seen → Type 0
SeenTold ss = PiecesTold (pieces ss)

front_told : (a b : List Seen) → SeenTold (a ++ b) → SeenTold a
front_told [] b h = tt
front_told (s ∷ a) b h = (h.0, front_told a b h.1)

back_told : (a b : List Seen) → SeenTold (a ++ b) → SeenTold b
back_told [] b h = h
back_told (s ∷ a) b h = back_told a b h.1

want_told : (w : Want) (u : Bool) (q : Piece) → IsWanted w u q → PieceTold q → WantTold w
want_told (Just k) u (Read t) h p = subst IsTold h.0 p
want_told (Just k) u Ended h p = absurd h
want_told (At n k) u (Read t) h p = subst IsTold h.0 p
want_told (At n k) u Ended h p = absurd h
want_told Auto u q h p = tt

marks_told : (ms : List Mark) (a : List Seen) → AreOf ms a → SeenTold a → MarksTold ms
marks_told [] a h t = tt
marks_told (m ∷ ms) a (s, rest, e, o, h) t =
    let k : SeenTold (s ∷ rest) = subst SeenTold e t in
    (want_told m.want m.unbroken s.piece o.wanted k.0, marks_told ms rest h k.1)

some_told : (f : Form) (a : List Seen) → IsOneOf f a → SeenTold a → SomeTold f
some_told [] a h t = h
some_told (ms ∷ f) a h t = elim h [
  | inl x ↦ inl (marks_told ms a x t)
  | inr y ↦ inr (some_told f a y t)
]

abbrev pub AllTold : List Form → Type 0
AllTold [] = Unit {0}
AllTold (f ∷ fs) = SomeTold f × AllTold fs

pub all_told : (fs : List Form) (ss : List Seen) → Matches fs ss → PiecesTold (pieces ss) → AllTold fs
all_told [] ss h t = tt
all_told (f ∷ fs) ss (a, b, e, h, k) t =
    let u : SeenTold (a ++ b) = subst SeenTold e t in
    (some_told f a h (front_told a b u), all_told fs b k (back_told a b u))

-- ---- printed

pub printable_plain : (fs : List Form) → AllGood fs → AllTold fs → ArePrintable (plain fs)
printable_plain [] g t = tt
printable_plain (f ∷ fs) g t =
    let c : Chosen f = g.0.chosen t.0 in
    subst (λ (z : List TokenKind). ArePrintable (z ++ plain fs)) (sym c.is_first) (c.printable, printable_plain fs g.1 t.1)

-- ---- and read again

read_unbroken : (u : Bool) (n : ℕ) (k : TokenKind) → IsUnbroken u (token n false k)
read_unbroken true n k = refl
read_unbroken false n k = tt

want_read : (w : Want) (u : Bool) (n : ℕ) (k : TokenKind) → IsOfKind k w → IsWanted (fill_want n w) u (Read (token n false k))
want_read (Just j) u n k h = (sym h, read_unbroken u n k)
want_read (At q j) u n k h = (sym h, refl, read_unbroken u n k)
want_read Auto u n k h = absurd h

-- the piece, with so many constructs
record ReadOne (n : ℕ) (k : TokenKind) (f : Form) : Type 0 where
  count : ℕ
  is : IsOneOf (fill n f) (record { piece = Read (token n false k); constructs = count } ∷ [])

read_form : (n : ℕ) (k : TokenKind) (f : Form) → HasOne k f → ReadOne n k f
read_form n k [] h = absurd h
read_form n k ([] ∷ f) h = elim h [
  | inl a ↦ absurd a
  | inr b ↦ let r : ReadOne n k f = read_form n k f b in record { count = r.count; is = inr r.is }
]
read_form n k ((m ∷ []) ∷ f) h = elim h [
  | inl a ↦ record { count = m.constructs; is = inl (record { piece = Read (token n false k); constructs = m.constructs }, [], refl, record { wanted = want_read m.want m.unbroken n k a; constructs = refl }, refl) }
  | inr b ↦ let r : ReadOne n k f = read_form n k f b in record { count = r.count; is = inr r.is }
]
read_form n k ((m ∷ o ∷ ms) ∷ f) h = elim h [
  | inl a ↦ absurd a
  | inr b ↦ let r : ReadOne n k f = read_form n k f b in record { count = r.count; is = inr r.is }
]

-- tokens without ends
abbrev pub reads : List Token → List Piece
reads ts = map Read ts

-- the places that the tokens give to the forms
pub record Refilled (n : ℕ) (fs : List Form) : Type 0 where
  pub places : List ℕ
  pub seen : List Seen
  pub are : pieces seen ≡ reads (placed n (plain fs))
  pub matches : Matches (fill_all places fs) seen

pub refilled : (n : ℕ) (fs : List Form) → AllGood fs → AllTold fs → Refilled n fs
refilled n [] g t = record { places = []; seen = []; are = refl; matches = refl }
refilled n (f ∷ fs) g t =
    let c : Chosen f = g.0.chosen t.0 in
    let one : ReadOne n (read_as c.first) f = read_form n (read_as c.first) f c.has in
    let r : Refilled (n + (length (token_text c.first) + 1)) fs = refilled (n + (length (token_text c.first) + 1)) fs g.1 t.1 in
    let first : Seen = record { piece = Read (token n false (read_as c.first)); constructs = one.count } in
    record {
      places = n ∷ r.places;
      seen = first ∷ r.seen;
      are = ap (λ (z : List Piece). Read (token n false (read_as c.first)) ∷ z) r.are ∙ sym (ap (λ (z : List TokenKind). reads (placed n (z ++ plain fs))) c.is_first);
      matches = (first ∷ [], r.seen, refl, one.is, r.matches);
    }
