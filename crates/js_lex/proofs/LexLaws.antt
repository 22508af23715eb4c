-- The tokens of a text are those of the grammar, and no others.
use Rattle.std.proofs.Common.{◌≡◌, ℕ, zero, suc, ◌+◌, ◌-◌, ◌≤◌, ◌<◌, Bool, false, List, [], ◌∷◌, ◌++◌, drop, length, Option, Some, None, refl, sym, ◌∙◌, ap, subst, arith, append_assoc, inl, inr}
use Rattle.std.specs.Prelude.{◌||◌, ◌==◌, not, Result, Ok, Err, IfOk}
use Rattle.js_lex.specs.declared.token.TokenKind.TheVariants as tok
use Rattle.js_lex.specs.declared.token.Token.{Token as Placed}
use Rattle.js_lex.specs.declared.token.Punctuator.{Punctuator}
use Rattle.js_lex.specs.declared.scan.Brace.{Brace}
use Rattle.js_lex.specs.declared.front.Front.{Front}
use Rattle.js_lex.specs.declared.front.Front.TheVariants as front
use Rattle.js_lex.specs.declared.front.Unread.{Unread}
use Rattle.js_lex.specs.declared.front.Unread.TheVariants as bad
use Rattle.js_lex.specs.Tables.{punctuators}
use Rattle.js_lex.specs.Units.{Text}
use Rattle.js_lex.specs.Places.{in_hole, token}
use Rattle.js_lex.proofs.Whole.{put, tokens_from, tokens_of}
use Rattle.js_lex.specs.Front as code
use Rattle.js_lex.specs.Elements.{Element, White, LineEnd, LineComment, BlockComment, Word, Numeric, String, Part, Sign, units, Stands, Begins, BeginsNone}
use Rattle.js_lex.specs.Grammar.{Reading, Gap, Token, Refused, Reads, Piece, text_of, IsRead, braces_behind, open_braces, IsPiece, ArePieces, Stops, piece_tokens, line_ends, tokens, AreTokens}
use Rattle.js_lex.proofs.Truths.{in_all}
use Rattle.js_lex.proofs.ScanLemmas.{from_drop, whole}
use Rattle.js_lex.specs.declared.scan.State.{State}
use Rattle.js_lex.proofs.Runs.{drop_here}
use Rattle.js_lex.proofs.Longest.{FrontIs, front_for}
use Rattle.js_lex.proofs.Signs.{no_truth, Row}
use Rattle.js_lex.proofs.Fronts.{number_some, front_at, front_sound, front_only}

-- ---- no element is empty

row_some : (w : Text) (p : Punctuator) (h : Bool) (z : Text) → Stands h (Sign w p) z → 1 ≤ length w
row_some [] p h z s = absurd (no_truth (sym (in_all (λ (r : Row). not (length r.0 == 0)) ([], p) punctuators s.0 refl)))
row_some (u ∷ w) p h z s = omega arith

some_units : (h : Bool) (e : Element) (z : Text) → Stands h e z → 1 ≤ length (units e)
some_units h (White u) z s = omega arith
some_units h (LineEnd u) z s = omega arith
some_units h (LineComment w) z s = omega arith
some_units h (BlockComment w) z s = omega arith
some_units h (Word u w) z s = omega arith
some_units h (Numeric n) z s = number_some n s
some_units h (String d cs) z s = omega arith
some_units h (Part b cs x) z s = omega arith
some_units h (Sign w p) z s = row_some w p h z s

-- ---- one piece

abbrev rest_of : Text → ℕ → ℕ → Bool → List Brace → List Placed
rest_of z k n l bs = tokens_from k n l bs z

went : (bs : List Brace) (n : ℕ) (l : Bool) (u : ℕ) (w z : Text) → tokens_from (suc (length w) - 1) (n + (1 + (suc (length w) - 1))) l bs (w ++ z) ≡ tokens_from 0 (n + length (u ∷ w)) l bs z
went bs n l u w z =
    let same : suc (length w) - 1 ≡ length w = omega arith in
    ap (λ (m : ℕ). tokens_from m (n + (1 + m)) l bs (w ++ z)) same
    ∙ from_drop (length w) (n + (1 + length w)) l bs (w ++ z)
    ∙ ap (tokens_from 0 (n + (1 + length w)) l bs) (drop_here w z) ∙ ap (λ (m : ℕ). tokens_from 0 m l bs z) (omega arith)

one_piece : (bs : List Brace) (n : ℕ) (l : Bool) (v z : Text) (r : Reading) → 1 ≤ length v → front_at (in_hole bs) (v ++ z) ≡ front_for r (length v) → IsRead r → tokens_from 0 n l bs (v ++ z) ≡ piece_tokens n l r ++ tokens_from 0 (n + length v) (line_ends l r) (braces_behind r bs) z
one_piece bs n l [] z r k e i = absurd (omega (arith, k))
one_piece bs n l (u ∷ w) z (Gap b) k e i = ap (λ (f : Front). put n l bs f (λ more m ends cs. tokens_from more m ends cs (w ++ z))) e ∙ went bs n (l || b) u w z
one_piece bs n l (u ∷ w) z (Token x) k e i =
    ap (λ (f : Front). put n l bs f (λ more m ends cs. tokens_from more m ends cs (w ++ z))) e
    ∙ ap (λ (ts : List Placed). token n l x ∷ ts) (went (braces_behind (Token x) bs) n false u w z)
one_piece bs n l (u ∷ w) z (Refused why) k e i = absurd i

stopped : (bs : List Brace) (n : ℕ) (l : Bool) (t : Text) (why : Unread) → 1 ≤ length t → front_at (in_hole bs) t ≡ front.Bad why → tokens_from 0 n l bs t ≡ tokens n l [] (Some why)
stopped bs n l [] why k e = absurd (omega (arith, k))
stopped bs n l (u ∷ z) why k e = ap (λ (f : Front). put n l bs f (λ more m ends cs. tokens_from more m ends cs z)) e

-- ---- no others

none_bad : (h : Bool) (t : Text) (f : Front) → BeginsNone h t → FrontIs h t f → f ≡ front.Bad bad.Syntax
none_bad h t f n (inl x) = absurd (n x.element x.rest x.begins.stands x.begins.is_text)
none_bad h t f n (inr x) = x.1

none_at : (h : Bool) (t : Text) → 1 ≤ length t → BeginsNone h t → front_at h t ≡ front.Bad bad.Syntax
none_at h [] k n = absurd (omega (arith, k))
none_at h (u ∷ z) k n = none_bad h (u ∷ z) (code.front_of h u z) n (front_sound h u z)

long_front : (v z : Text) → 1 ≤ length v → 1 ≤ length (v ++ z)
long_front [] z k = absurd (omega (arith, k))
long_front (u ∷ v) z k = omega arith

last_only : (bs : List Brace) (n : ℕ) (l : Bool) (tail : Text) (stop : Option Unread) → Stops (in_hole bs) tail stop → tokens_from 0 n l bs tail ≡ tokens n l [] stop
last_only bs n l tail None h = ap (tokens_from 0 n l bs) h
last_only bs n l tail (Some why) (inl h) = stopped bs n l tail why h.0 (none_at (in_hole bs) tail h.0 h.1 ∙ ap (λ (x : Unread). front.Bad x) (sym h.2))
last_only bs n l tail (Some why) (inr h) =
    let some : 1 ≤ length tail = subst (λ (x : Text). 1 ≤ length x) (sym h.2) (long_front (units h.0) h.1 (some_units (in_hole bs) h.0 h.1 h.3.0)) in
    stopped bs n l tail why some (ap (front_at (in_hole bs)) h.2 ∙ front_only (in_hole bs) h.0 h.1 (Refused why) h.3)

tokens_only : (ps : List Piece) (bs : List Brace) (n : ℕ) (l : Bool) (tail : Text) (stop : Option Unread) → ArePieces bs ps tail → Stops (in_hole (open_braces bs ps)) tail stop → tokens_from 0 n l bs (text_of ps ++ tail) ≡ tokens n l ps stop
tokens_only [] bs n l tail stop a s = last_only bs n l tail stop s
tokens_only (p ∷ ps) bs n l tail stop a s =
    let h = in_hole bs in
    let rest = text_of ps ++ tail in
    ap (tokens_from 0 n l bs) (append_assoc (units p.element) (text_of ps) tail)
    ∙ one_piece bs n l (units p.element) (text_of ps ++ tail) p.reading (some_units (in_hole bs) p.element (text_of ps ++ tail) a.0.0) (front_only (in_hole bs) p.element (text_of ps ++ tail) p.reading a.0) a.1
    ∙ ap (λ (ts : List Placed). piece_tokens n l p.reading ++ ts) (tokens_only ps (braces_behind p.reading bs) (n + length (units p.element)) (line_ends l p.reading) tail stop a.2 s)

pub are_only : (text : Text) (ts : List Placed) → AreTokens text ts → tokens_of text ≡ ts
are_only text ts a = ap (tokens_from 0 0 false []) a.is_text ∙ tokens_only a.pieces [] 0 false a.tail a.stop a.are a.stops ∙ sym a.found

-- ---- they are such

record Told (bs : List Brace) (n : ℕ) (l : Bool) (text : Text) (ts : List Placed) : Type 0 where
  pieces : List Piece
  tail : Text
  stop : Option Unread
  is_text : text ≡ text_of pieces ++ tail
  are : ArePieces bs pieces tail
  stops : Stops (in_hole (open_braces bs pieces)) tail stop
  found : ts ≡ tokens n l pieces stop

told_end : (bs : List Brace) (n : ℕ) (l : Bool) → Told bs n l [] (token n l tok.End ∷ [])
told_end bs n l = record { pieces = []; tail = []; stop = None; is_text = refl; are = tt; stops = refl; found = refl }

told_more : (bs : List Brace) (n : ℕ) (l : Bool) (t : Text) (e : Element) (rest : Text) (r : Reading) → Begins (in_hole bs) t e rest → Reads e rest r → IsRead r → front_at (in_hole bs) t ≡ front_for r (length (units e)) → Told (braces_behind r bs) (n + length (units e)) (line_ends l r) rest (tokens_from 0 (n + length (units e)) (line_ends l r) (braces_behind r bs) rest) → Told bs n l t (tokens_from 0 n l bs t)
told_more bs n l t e rest r b d i f k =
    let there : front_at (in_hole bs) (units e ++ rest) ≡ front_for r (length (units e)) = ap (front_at (in_hole bs)) (sym b.is_text) ∙ f in
    record {
      pieces = record { element = e; reading = r } ∷ k.pieces;
      tail = k.tail;
      stop = k.stop;
      is_text = b.is_text ∙ ap (λ (x : Text). units e ++ x) k.is_text ∙ sym (append_assoc (units e) (text_of k.pieces) k.tail);
      are = (subst (λ (x : Text). IsPiece (in_hole bs) e x r) k.is_text (b.stands, b.longest, d), i, k.are);
      stops = k.stops;
      found = ap (tokens_from 0 n l bs) b.is_text ∙ one_piece bs n l (units e) rest r (some_units (in_hole bs) e rest b.stands) there i ∙ ap (λ (ts : List Placed). piece_tokens n l r ++ ts) k.found;
    }

told_stop : (bs : List Brace) (n : ℕ) (l : Bool) (t : Text) (why : Unread) → 1 ≤ length t → front_at (in_hole bs) t ≡ front.Bad why → Stops (in_hole bs) t (Some why) → Told bs n l t (tokens_from 0 n l bs t)
told_stop bs n l t why k f s = record { pieces = []; tail = t; stop = Some why; is_text = refl; are = tt; stops = s; found = stopped bs n l t why k f }

rest_is : (v rest : Text) (u : ℕ) (z : Text) → 1 ≤ length v → u ∷ z ≡ v ++ rest → rest ≡ drop (length v - 1) z
rest_is [] rest u z k e = absurd (omega (arith, k))
rest_is (x ∷ v) rest u z k e =
    let same : z ≡ v ++ rest = cc in
    let less : length (x ∷ v) - 1 ≡ length v = omega arith in
    sym (drop_here v rest) ∙ ap (drop (length v)) (sym same) ∙ ap (λ (m : ℕ). drop m z) (sym less)

told_found : (bs : List Brace) (n : ℕ) (l : Bool) (u : ℕ) (z : Text) (e : Element) (rest : Text) (r : Reading) → Begins (in_hole bs) (u ∷ z) e rest → Reads e rest r → code.front_of (in_hole bs) u z ≡ front_for r (length (units e)) → ((k m : ℕ) (b : Bool) (cs : List Brace) → Told cs m b (drop k z) (tokens_from 0 m b cs (drop k z))) → Told bs n l (u ∷ z) (tokens_from 0 n l bs (u ∷ z))
told_found bs n l u z e rest (Refused why) b d f i = told_stop bs n l (u ∷ z) why (omega arith) f (inr (e, rest, b.is_text, (b.stands, b.longest, d)))
told_found bs n l u z e rest (Gap x) b d f i =
    let same = rest_is (units e) rest u z (some_units (in_hole bs) e rest b.stands) b.is_text in
    told_more bs n l (u ∷ z) e rest (Gap x) b d tt f (subst (λ (y : Text). Told bs (n + length (units e)) (l || x) y (tokens_from 0 (n + length (units e)) (l || x) bs y)) (sym same) (i (length (units e) - 1) (n + length (units e)) (l || x) bs))
told_found bs n l u z e rest (Token x) b d f i =
    let same = rest_is (units e) rest u z (some_units (in_hole bs) e rest b.stands) b.is_text in
    let cs = braces_behind (Token x) bs in
    told_more bs n l (u ∷ z) e rest (Token x) b d tt f (subst (λ (y : Text). Told (braces_behind (Token x) bs) (n + length (units e)) false y (tokens_from 0 (n + length (units e)) false (braces_behind (Token x) bs) y)) (sym same) (i (length (units e) - 1) (n + length (units e)) false (braces_behind (Token x) bs)))

told_front : (bs : List Brace) (n : ℕ) (l : Bool) (u : ℕ) (z : Text) → FrontIs (in_hole bs) (u ∷ z) (code.front_of (in_hole bs) u z) → ((k m : ℕ) (b : Bool) (cs : List Brace) → Told cs m b (drop k z) (tokens_from 0 m b cs (drop k z))) → Told bs n l (u ∷ z) (tokens_from 0 n l bs (u ∷ z))
told_front bs n l u z (inl f) i = told_found bs n l u z f.element f.rest f.reading f.begins f.reads f.is i
told_front bs n l u z (inr f) i = told_stop bs n l (u ∷ z) bad.Syntax (omega arith) f.1 (inl (omega arith, f.0, refl))

told : (z : Text) (k n : ℕ) (l : Bool) (bs : List Brace) → Told bs n l (drop k z) (tokens_from 0 n l bs (drop k z))
told [] zero n l bs = told_end bs n l
told [] (suc k) n l bs = told_end bs n l
told (u ∷ z) (suc k) n l bs = told z k n l bs
told (u ∷ z) zero n l bs = told_front bs n l u z (front_sound (in_hole bs) u z) (λ k m b cs. told z k m b cs)

pub are_tokens : (text : Text) → AreTokens text (tokens_of text)
are_tokens text =
    let t = told text 0 0 false [] in
    record { pieces = t.pieces; tail = t.tail; stop = t.stop; is_text = t.is_text; are = t.are; stops = t.stops; found = t.found }

-- ---- answers

pub found_is : (text : Text) (ts : List Placed) → ts ≡ tokens_of text → AreTokens text ts
found_is text ts e = subst (λ (us : List Placed). AreTokens text us) (sym e) (are_tokens text)

pub only_is : (text : Text) (ts us : List Placed) → ts ≡ tokens_of text → AreTokens text us → ts ≡ us
only_is text ts us e a = e ∙ are_only text us a

-- at the text's end
pub end_ok : {E : Type 0} → (s : State) (z text : Text) (r : Result (List Placed) E) → length z < 1 → whole s 0 z ≡ tokens_of text → IfOk r (λ found. found ≡ s.tokens ++ token s.place s.after_line_end tok.End ∷ []) → IfOk r (λ found. found ≡ tokens_of text)
end_ok s [] text (Ok found) k e h = h ∙ e
end_ok s [] text (Err x) k e h = tt
end_ok s (u ∷ z) text r k e h = absurd (omega (arith, k))

pub found_ok : {E : Type 0} → (text : Text) (r : Result (List Placed) E) → IfOk r (λ found. found ≡ tokens_of text) → IfOk r (λ found. AreTokens text found)
found_ok text (Ok found) h = found_is text found h
found_ok text (Err e) h = tt

pub only_ok : {E : Type 0} → (text : Text) (ts : List Placed) (r : Result (List Placed) E) → IfOk r (λ found. found ≡ tokens_of text) → AreTokens text ts → IfOk r (λ found. found ≡ ts)
only_ok text ts (Ok found) h a = only_is text found ts h a
only_ok text ts (Err e) h a = tt
