-- What was read is spelled by the state. So what is read is in the grammar.
use Rattle.std.proofs.Common.{◌≡◌, ℕ, Bool, true, false, cond, List, [], ◌∷◌, ◌++◌, map, Result, Ok, Err, refl, sym, ◌∙◌, ap, subst, append_assoc}
use Rattle.std.specs.Prelude.{codes}
use Rattle.std.specs.Str.{bytes_eq}
use Rattle.std.proofs.lemmas.List.{append-nil, map-append}
use Rattle.std.proofs.lemmas.Grind.{flat_map-append}
use Rattle.std.proofs.lemmas.Slice.Eq.{bytes_eq-Decides}
use Rattle.capnp_text.specs.declared.token.TokenKind.{TokenKind}
use Rattle.capnp_text.specs.declared.token.TokenKind.TheVariants as tok
use Rattle.capnp_text.specs.declared.token.Token.{Token}
use Rattle.capnp_text.specs.declared.tree.Placed.{Placed}
use Rattle.capnp_text.specs.declared.tree.Value.{Value}
use Rattle.capnp_text.specs.declared.tree.Value.TheVariants as value
use Rattle.capnp_text.specs.declared.tree.Field.{Field}
use Rattle.capnp_text.specs.declared.tree.Decl.{Decl}
use Rattle.capnp_text.specs.declared.tree.Decl.TheVariants as decl
use Rattle.capnp_text.specs.declared.machine.Head.{Head}
use Rattle.capnp_text.specs.declared.machine.Frame.{Frame}
use Rattle.capnp_text.specs.declared.machine.Frame.TheVariants as frame
use Rattle.capnp_text.specs.declared.machine.Spot.{Spot}
use Rattle.capnp_text.specs.declared.machine.Spot.TheVariants as spot
use Rattle.capnp_text.specs.declared.machine.At.{At}
use Rattle.capnp_text.specs.declared.machine.At.TheVariants as at
use Rattle.capnp_text.specs.declared.machine.State.{State}
use Rattle.capnp_text.specs.declared.machine.Refusal.{Refusal}
use Rattle.capnp_text.specs.declared.machine.Refusal.TheVariants as refusal
use Rattle.capnp_text.specs.Marks.{Mark, Just, At as Fixed, MayComma, OfMark, Matches}
use Rattle.capnp_text.specs.Grammar.{keyword, name, text, more, listed, dotted, of_value, of_field, of_type, of_file}
use Rattle.capnp_text.specs.Run.{Stuck, taken, run}
use Rattle.capnp_text.specs.Machine.{Step, stay, word, field, embed, with_part, on_word, begin, after_const, after_item, after_field, after, on_decl, begin_decl, on_id, on_id_end, on_using_name, on_using_equals, on_import, on_using_import, on_using_path, on_using_end, on_const_name, on_const_colon, on_type, on_typed, on_embed, on_dot, on_item, on_name, on_equals, in_value, step_at, step}
use Rattle.capnp_text.proofs.MarkLemmas.{matches_append, Covers, covers_behind, covers_before, covers_same, covers_trans, may_comma, no_comma, one}
use Rattle.capnp_text.proofs.Equations.{of_text, of_data, of_number, of_word, of_constant, of_embed, of_struct, of_list, of_a_field}

-- ---- what a state has read

-- items that each have a comma
abbrev pub commaed : List (List Mark) → List Mark
commaed [] = []
commaed (m ∷ ms) = m ++ Just tok.Comma ∷ commaed ms

-- names that each have a point
abbrev pub pointed : List Placed → List Mark
pointed [] = []
pointed (w ∷ ws) = name w ∷ Just tok.Dot ∷ pointed ws

abbrev pub spot_marks : Spot → List Mark
spot_marks spot.Begin = []
spot_marks (spot.Embed p) = name (embed p) ∷ []
spot_marks (spot.Dot p) = Fixed p tok.Dot ∷ []
spot_marks (spot.Item p vs) = Fixed p tok.OpenBracket ∷ commaed (map of_value vs)
spot_marks (spot.Name p xs) = Fixed p tok.OpenParen ∷ commaed (map of_field xs)
spot_marks (spot.Equals p xs n) = Fixed p tok.OpenParen ∷ (commaed (map of_field xs) ++ name n ∷ [])
spot_marks (spot.Done v) = of_value v

abbrev pub frame_marks : Frame → List Mark
frame_marks (frame.List p vs) = Fixed p tok.OpenBracket ∷ commaed (map of_value vs)
frame_marks (frame.Struct p xs n) = Fixed p tok.OpenParen ∷ (commaed (map of_field xs) ++ name n ∷ Just tok.Equals ∷ [])

abbrev pub frames_marks : List Frame → List Mark
frames_marks [] = []
frames_marks (f ∷ fs) = frames_marks fs ++ frame_marks f

abbrev pub head_front : Placed → List Mark
head_front n = keyword (codes "const") ∷ name n ∷ Just tok.Colon ∷ []

abbrev pub head_marks : Head → List Mark
head_marks h = head_front h.name ++ (of_type h.type_ ++ Just tok.Equals ∷ [])

abbrev pub stem : List Decl → Head → List Frame → List Mark
stem ds h fs = (of_file ds ++ head_marks h) ++ frames_marks fs

abbrev pub spelled_at : List Decl → At → List Mark
spelled_at ds at.Decl = of_file ds
spelled_at ds at.Id = of_file ds ++ Just tok.At ∷ []
spelled_at ds (at.IdEnd id) = of_file ds ++ Just tok.At ∷ Fixed id.place (tok.Hex id.bytes) ∷ []
spelled_at ds at.UsingName = of_file ds ++ keyword (codes "using") ∷ []
spelled_at ds (at.UsingEquals n) = of_file ds ++ keyword (codes "using") ∷ name n ∷ []
spelled_at ds (at.UsingImport n) = of_file ds ++ keyword (codes "using") ∷ name n ∷ Just tok.Equals ∷ []
spelled_at ds (at.UsingPath n) = of_file ds ++ keyword (codes "using") ∷ name n ∷ Just tok.Equals ∷ keyword (codes "import") ∷ []
spelled_at ds (at.UsingEnd n w) = of_file ds ++ keyword (codes "using") ∷ name n ∷ Just tok.Equals ∷ keyword (codes "import") ∷ text w ∷ []
spelled_at ds at.ConstName = of_file ds ++ keyword (codes "const") ∷ []
spelled_at ds (at.ConstColon n) = of_file ds ++ keyword (codes "const") ∷ name n ∷ []
spelled_at ds (at.Type h) = of_file ds ++ (head_front h.name ++ pointed h.type_)
spelled_at ds (at.Typed h w) = of_file ds ++ (head_front h.name ++ (pointed h.type_ ++ name w ∷ []))
spelled_at ds (at.In h fs s) = stem ds h fs ++ spot_marks s

abbrev pub spelled : State → List Mark
spelled s = spelled_at s.decls s.at

-- the token comes, and the state that it leads to has read it too
abbrev pub Grows : List Mark → Token → Step → Type 0
Grows a t (Err k) = Unit {0}
Grows a t (Ok n) = (ts : List Token) → Matches a ts → Matches (spelled n) (ts ++ t ∷ [])

abbrev pub placed : ℕ → TokenKind → Token
placed p t = record { place = p; kind = t }

-- ---- steps

grows : (a b : List Mark) (m : Mark) (t : Token) → Covers (a ++ m ∷ []) b → OfMark m (t ∷ []) → (ts : List Token) → Matches a ts → Matches b (ts ++ t ∷ [])
grows a b m t c o ts h = c.covers (ts ++ t ∷ []) (matches_append a (m ∷ []) ts (t ∷ []) h (one m t o))

in_spot : (base x y : List Mark) (m : Mark) (t : Token) → x ++ m ∷ [] ≡ y → OfMark m (t ∷ []) → (ts : List Token) → Matches (base ++ x) ts → Matches (base ++ y) (ts ++ t ∷ [])
in_spot base x y m t e o = grows (base ++ x) (base ++ y) m t (covers_same _ _ (append_assoc base x (m ∷ []) ∙ ap (λ (z : List Mark). base ++ z) e)) o

in_cover : (base x y : List Mark) (m : Mark) (t : Token) → Covers (x ++ m ∷ []) y → OfMark m (t ∷ []) → (ts : List Token) → Matches (base ++ x) ts → Matches (base ++ y) (ts ++ t ∷ [])
in_cover base x y m t c o = grows (base ++ x) (base ++ y) m t (covers_trans _ (base ++ (x ++ m ∷ [])) _ (covers_same _ _ (append_assoc base x (m ∷ []))) (covers_behind base (x ++ m ∷ []) y c)) o

at_end : (base y : List Mark) (m : Mark) (t : Token) → m ∷ [] ≡ y → OfMark m (t ∷ []) → (ts : List Token) → Matches base ts → Matches (base ++ y) (ts ++ t ∷ [])
at_end base y m t e o = grows base (base ++ y) m t (covers_same _ _ (ap (λ (z : List Mark). base ++ z) e)) o

Grows-room : (a : List Mark) (t : Token) (o : Step) (b : Bool) → Grows a t o → Grows a t (cond b o (Err refusal.TooDeep))
Grows-room a t o true h = h
Grows-room a t o false h = tt

Grows-word : (ds : List Decl) (h : Head) (fs : List Frame) (p : ℕ) (b : List ℕ) (r : Bool) → (r ≡ true → b ≡ codes "embed") → Grows (stem ds h fs) (placed p (tok.Name b)) (on_word ds h fs p b r)
Grows-word ds h fs p b true e = at_end (stem ds h fs) _ (name (embed p)) (placed p (tok.Name b)) refl (ap (λ (z : List ℕ). placed p (tok.Name z) ∷ []) (e refl))
Grows-word ds h fs p b false e = at_end (stem ds h fs) _ (name (word p b)) (placed p (tok.Name b)) (sym (of_word (word p b))) refl

Grows-begin : (most : ℕ) (ds : List Decl) (h : Head) (fs : List Frame) (p : ℕ) (t : TokenKind) → Grows (stem ds h fs) (placed p t) (begin most ds h fs p t)
Grows-begin most ds h fs p (tok.Text b) = at_end (stem ds h fs) _ (text (word p b)) (placed p (tok.Text b)) (sym (of_text (word p b))) refl
Grows-begin most ds h fs p (tok.Data b) = at_end (stem ds h fs) _ (Fixed p (tok.Data b)) (placed p (tok.Data b)) (sym (of_data (word p b))) refl
Grows-begin most ds h fs p (tok.Number b) = at_end (stem ds h fs) _ (Fixed p (tok.Number b)) (placed p (tok.Number b)) (sym (of_number (word p b))) refl
Grows-begin most ds h fs p (tok.Name b) = Grows-word ds h fs p b (bytes_eq b (codes "embed")) (bytes_eq-Decides b (codes "embed")).0
Grows-begin most ds h fs p tok.Dot = at_end (stem ds h fs) _ (Fixed p tok.Dot) (placed p tok.Dot) refl refl
Grows-begin most ds h fs p tok.OpenParen = Grows-room (stem ds h fs) (placed p tok.OpenParen) (stay ds h fs (spot.Name p [])) _ (at_end (stem ds h fs) _ (Fixed p tok.OpenParen) (placed p tok.OpenParen) refl refl)
Grows-begin most ds h fs p tok.OpenBracket = Grows-room (stem ds h fs) (placed p tok.OpenBracket) (stay ds h fs (spot.Item p [])) _ (at_end (stem ds h fs) _ (Fixed p tok.OpenBracket) (placed p tok.OpenBracket) refl refl)
Grows-begin most ds h fs p _ = tt

-- ---- lists

nil_may : (m : List Mark) → Covers m (m ++ MayComma ∷ [])
nil_may m = covers_trans m (m ++ []) (m ++ MayComma ∷ []) (covers_same _ _ (sym (append-nil m))) (covers_behind m [] (MayComma ∷ []) no_comma)

comma_more : (ms : List (List Mark)) → Covers (Just tok.Comma ∷ commaed ms) (more ms)
comma_more [] = may_comma
comma_more (m ∷ ms) = covers_behind (Just tok.Comma ∷ []) (m ++ Just tok.Comma ∷ commaed ms) (m ++ more ms) (covers_behind m (Just tok.Comma ∷ commaed ms) (more ms) (comma_more ms))

commaed_listed : (ms : List (List Mark)) → Covers (commaed ms) (listed ms)
commaed_listed [] = record { covers = λ ts h. h }
commaed_listed (m ∷ ms) = covers_behind m (Just tok.Comma ∷ commaed ms) (more ms) (comma_more ms)

last_more : (ms : List (List Mark)) (m : List Mark) → Covers (Just tok.Comma ∷ (commaed ms ++ m)) (more (ms ++ m ∷ []))
last_more [] m = covers_behind (Just tok.Comma ∷ []) m (m ++ MayComma ∷ []) (nil_may m)
last_more (n ∷ ms) m =
    covers_trans _ (Just tok.Comma ∷ (n ++ Just tok.Comma ∷ (commaed ms ++ m))) _
    (covers_same _ _ (ap (λ (z : List Mark). Just tok.Comma ∷ z) (append_assoc n (Just tok.Comma ∷ commaed ms) m)))
    (covers_behind (Just tok.Comma ∷ []) (n ++ Just tok.Comma ∷ (commaed ms ++ m)) (n ++ more (ms ++ m ∷ [])) (covers_behind n (Just tok.Comma ∷ (commaed ms ++ m)) (more (ms ++ m ∷ [])) (last_more ms m)))

last_listed : (ms : List (List Mark)) (m : List Mark) → Covers (commaed ms ++ m) (listed (ms ++ m ∷ []))
last_listed [] m = nil_may m
last_listed (n ∷ ms) m =
    covers_trans _ (n ++ Just tok.Comma ∷ (commaed ms ++ m)) _ (covers_same _ _ (append_assoc n (Just tok.Comma ∷ commaed ms) m)) (covers_behind n (Just tok.Comma ∷ (commaed ms ++ m)) (more (ms ++ m ∷ [])) (last_more ms m))

commaed_push : (ms : List (List Mark)) (m : List Mark) → commaed (ms ++ m ∷ []) ≡ commaed ms ++ (m ++ Just tok.Comma ∷ [])
commaed_push [] m = refl
commaed_push (n ∷ ms) m = ap (λ (z : List Mark). n ++ Just tok.Comma ∷ z) (commaed_push ms m) ∙ sym (append_assoc n (Just tok.Comma ∷ commaed ms) (m ++ Just tok.Comma ∷ []))

pointed_push : (ws : List Placed) (w : Placed) → pointed (ws ++ w ∷ []) ≡ pointed ws ++ name w ∷ Just tok.Dot ∷ []
pointed_push [] w = refl
pointed_push (v ∷ ws) w = ap (λ (z : List Mark). name v ∷ Just tok.Dot ∷ z) (pointed_push ws w)

dotted_last : (ws : List Placed) (w : Placed) → dotted (ws ++ w ∷ []) ≡ Just tok.Dot ∷ (pointed ws ++ name w ∷ [])
dotted_last [] w = refl
dotted_last (v ∷ ws) w = ap (λ (z : List Mark). Just tok.Dot ∷ name v ∷ z) (dotted_last ws w)

type_last : (ws : List Placed) (w : Placed) → of_type (ws ++ w ∷ []) ≡ pointed ws ++ name w ∷ []
type_last [] w = refl
type_last (v ∷ ws) w = ap (λ (z : List Mark). name v ∷ z) (dotted_last ws w)

comma_item : (o : Mark) (x : List (List Mark)) (l : List Mark) → (o ∷ (commaed x ++ l)) ++ Just tok.Comma ∷ [] ≡ o ∷ commaed (x ++ l ∷ [])
comma_item o x l = ap (λ (z : List Mark). o ∷ z) (append_assoc (commaed x) l (Just tok.Comma ∷ []) ∙ sym (commaed_push x l))

close_item : (o c : Mark) (x : List (List Mark)) (l : List Mark) → Covers ((o ∷ (commaed x ++ l)) ++ c ∷ []) (o ∷ (listed (x ++ l ∷ []) ++ c ∷ []))
close_item o c x l = covers_behind (o ∷ []) ((commaed x ++ l) ++ c ∷ []) (listed (x ++ l ∷ []) ++ c ∷ []) (covers_before (commaed x ++ l) (listed (x ++ l ∷ [])) (c ∷ []) (last_listed x l))

close_none : (o c : Mark) (x : List (List Mark)) → Covers ((o ∷ commaed x) ++ c ∷ []) (o ∷ (listed x ++ c ∷ []))
close_none o c x = covers_behind (o ∷ []) (commaed x ++ c ∷ []) (listed x ++ c ∷ []) (covers_before (commaed x) (listed x) (c ∷ []) (commaed_listed x))

field_front : (p : ℕ) (n : Placed) (xs : List Field) (v : Value) → frame_marks (frame.Struct p xs n) ++ of_value v ≡ Fixed p tok.OpenParen ∷ (commaed (map of_field xs) ++ of_field (field n v))
field_front p n xs v =
    ap (λ (z : List Mark). Fixed p tok.OpenParen ∷ z)
    (append_assoc (commaed (map of_field xs)) (name n ∷ Just tok.Equals ∷ []) (of_value v) ∙ ap (λ (z : List Mark). commaed (map of_field xs) ++ z) (sym (of_a_field n v)))

-- ---- a value is complete

pop_eq : (a f g v m : List Mark) → ((a ++ (f ++ g)) ++ v) ++ m ≡ (a ++ f) ++ ((g ++ v) ++ m)
pop_eq a f g v m = simp append_assoc

pops : (a f g v y : List Mark) (m : Mark) (t : Token) → Covers ((g ++ v) ++ m ∷ []) y → OfMark m (t ∷ []) → (ts : List Token) → Matches ((a ++ (f ++ g)) ++ v) ts → Matches ((a ++ f) ++ y) (ts ++ t ∷ [])
pops a f g v y m t c o = grows _ ((a ++ f) ++ y) m t (covers_trans _ ((a ++ f) ++ ((g ++ v) ++ m ∷ [])) _ (covers_same _ _ (pop_eq a f g v (m ∷ []))) (covers_behind (a ++ f) ((g ++ v) ++ m ∷ []) y c)) o

const_end : (ds : List Decl) (h : Head) (v : Value) → (stem ds h [] ++ of_value v) ++ Just tok.Semicolon ∷ [] ≡ of_file (ds ++ decl.Const h.name h.type_ v ∷ [])
const_end ds h v = simp (append_assoc, append-nil, flat_map-append)

item_comma : (p : ℕ) (vs : List Value) (v : Value) → (frame_marks (frame.List p vs) ++ of_value v) ++ Just tok.Comma ∷ [] ≡ spot_marks (spot.Item p (vs ++ v ∷ []))
item_comma p vs v = comma_item (Fixed p tok.OpenBracket) (map of_value vs) (of_value v) ∙ ap (λ (z : List (List Mark)). Fixed p tok.OpenBracket ∷ commaed z) (sym (map-append of_value vs (v ∷ [])))

item_close : (p : ℕ) (vs : List Value) (v : Value) → Covers ((frame_marks (frame.List p vs) ++ of_value v) ++ Just tok.CloseBracket ∷ []) (of_value (value.List p (vs ++ v ∷ [])))
item_close p vs v =
    covers_trans _ _ _ (close_item (Fixed p tok.OpenBracket) (Just tok.CloseBracket) (map of_value vs) (of_value v))
    (covers_same _ _ (ap (λ (z : List (List Mark)). Fixed p tok.OpenBracket ∷ (listed z ++ Just tok.CloseBracket ∷ [])) (sym (map-append of_value vs (v ∷ []))) ∙ sym (of_list p (vs ++ v ∷ []))))

field_comma : (p : ℕ) (n : Placed) (xs : List Field) (v : Value) → (frame_marks (frame.Struct p xs n) ++ of_value v) ++ Just tok.Comma ∷ [] ≡ spot_marks (spot.Name p (xs ++ field n v ∷ []))
field_comma p n xs v =
    ap (λ (z : List Mark). z ++ Just tok.Comma ∷ []) (field_front p n xs v) ∙ comma_item (Fixed p tok.OpenParen) (map of_field xs) (of_field (field n v)) ∙ ap (λ (z : List (List Mark)). Fixed p tok.OpenParen ∷ commaed z) (sym (map-append of_field xs (field n v ∷ [])))

field_close : (p : ℕ) (n : Placed) (xs : List Field) (v : Value) → Covers ((frame_marks (frame.Struct p xs n) ++ of_value v) ++ Just tok.CloseParen ∷ []) (of_value (value.Struct p (xs ++ field n v ∷ [])))
field_close p n xs v =
    covers_trans _ ((Fixed p tok.OpenParen ∷ (commaed (map of_field xs) ++ of_field (field n v))) ++ Just tok.CloseParen ∷ []) _ (covers_same _ _ (ap (λ (z : List Mark). z ++ Just tok.CloseParen ∷ []) (field_front p n xs v)))
    (covers_trans _ _ _ (close_item (Fixed p tok.OpenParen) (Just tok.CloseParen) (map of_field xs) (of_field (field n v)))
    (covers_same _ _ (ap (λ (z : List (List Mark)). Fixed p tok.OpenParen ∷ (listed z ++ Just tok.CloseParen ∷ [])) (sym (map-append of_field xs (field n v ∷ []))) ∙ sym (of_struct p (xs ++ field n v ∷ [])))))

Grows-const : (ds : List Decl) (h : Head) (v : Value) (p : ℕ) (t : TokenKind) → Grows (stem ds h [] ++ of_value v) (placed p t) (after_const ds h v t)
Grows-const ds h v p tok.Semicolon = grows (stem ds h [] ++ of_value v) _ (Just tok.Semicolon) (placed p tok.Semicolon) (covers_same _ _ (const_end ds h v)) (p, refl)
Grows-const ds h v p _ = tt

Grows-list : (ds : List Decl) (h : Head) (fs : List Frame) (q : ℕ) (vs : List Value) (v : Value) (p : ℕ) (t : TokenKind) → Grows (stem ds h (frame.List q vs ∷ fs) ++ of_value v) (placed p t) (after_item ds h fs q (vs ++ v ∷ []) t)
Grows-list ds h fs q vs v p tok.Comma = pops (of_file ds ++ head_marks h) (frames_marks fs) (frame_marks (frame.List q vs)) (of_value v) _ (Just tok.Comma) (placed p tok.Comma) (covers_same _ _ (item_comma q vs v)) (p, refl)
Grows-list ds h fs q vs v p tok.CloseBracket = pops (of_file ds ++ head_marks h) (frames_marks fs) (frame_marks (frame.List q vs)) (of_value v) _ (Just tok.CloseBracket) (placed p tok.CloseBracket) (item_close q vs v) (p, refl)
Grows-list ds h fs q vs v p _ = tt

Grows-struct : (ds : List Decl) (h : Head) (fs : List Frame) (q : ℕ) (xs : List Field) (n : Placed) (v : Value) (p : ℕ) (t : TokenKind) → Grows (stem ds h (frame.Struct q xs n ∷ fs) ++ of_value v) (placed p t) (after_field ds h fs q (xs ++ field n v ∷ []) t)
Grows-struct ds h fs q xs n v p tok.Comma = pops (of_file ds ++ head_marks h) (frames_marks fs) (frame_marks (frame.Struct q xs n)) (of_value v) _ (Just tok.Comma) (placed p tok.Comma) (covers_same _ _ (field_comma q n xs v)) (p, refl)
Grows-struct ds h fs q xs n v p tok.CloseParen = pops (of_file ds ++ head_marks h) (frames_marks fs) (frame_marks (frame.Struct q xs n)) (of_value v) _ (Just tok.CloseParen) (placed p tok.CloseParen) (field_close q n xs v) (p, refl)
Grows-struct ds h fs q xs n v p _ = tt

Grows-after : (ds : List Decl) (h : Head) (fs : List Frame) (v : Value) (p : ℕ) (t : TokenKind) → Grows (stem ds h fs ++ of_value v) (placed p t) (after ds h fs v t)
Grows-after ds h [] v p t = Grows-const ds h v p t
Grows-after ds h (frame.List q vs ∷ fs) v p t = Grows-list ds h fs q vs v p t
Grows-after ds h (frame.Struct q xs n ∷ fs) v p t = Grows-struct ds h fs q xs n v p t

-- ---- within a value

Grows-same : (a b : List Mark) (t : Token) (o : Step) → a ≡ b → Grows a t o → Grows b t o
Grows-same a b t o e h = subst (λ (z : List Mark). Grows z t o) e h

Grows-embed : (ds : List Decl) (h : Head) (fs : List Frame) (q p : ℕ) (t : TokenKind) → Grows (stem ds h fs ++ spot_marks (spot.Embed q)) (placed p t) (on_embed ds h fs q p t)
Grows-embed ds h fs q p (tok.Text b) = in_spot (stem ds h fs) _ _ (text (word p b)) (placed p (tok.Text b)) (sym (of_embed q (word p b))) refl
Grows-embed ds h fs q p t = Grows-same _ _ (placed p t) (after ds h fs (value.Word (embed q)) t) (ap (λ (z : List Mark). stem ds h fs ++ z) (of_word (embed q))) (Grows-after ds h fs (value.Word (embed q)) p t)

Grows-dot : (ds : List Decl) (h : Head) (fs : List Frame) (q p : ℕ) (t : TokenKind) → Grows (stem ds h fs ++ spot_marks (spot.Dot q)) (placed p t) (on_dot ds h fs q p t)
Grows-dot ds h fs q p (tok.Name b) = in_spot (stem ds h fs) _ _ (name (word p b)) (placed p (tok.Name b)) (sym (of_constant q (word p b))) refl
Grows-dot ds h fs q p _ = tt

Grows-item : (most : ℕ) (ds : List Decl) (h : Head) (fs : List Frame) (q : ℕ) (vs : List Value) (p : ℕ) (t : TokenKind) → Grows (stem ds h fs ++ spot_marks (spot.Item q vs)) (placed p t) (on_item most ds h fs q vs p t)
Grows-item most ds h fs q vs p tok.CloseBracket = in_cover (stem ds h fs) _ _ (Just tok.CloseBracket) (placed p tok.CloseBracket) (covers_trans _ _ _ (close_none (Fixed q tok.OpenBracket) (Just tok.CloseBracket) (map of_value vs)) (covers_same _ _ (sym (of_list q vs)))) (p, refl)
Grows-item most ds h fs q vs p t = Grows-same (stem ds h (frame.List q vs ∷ fs)) _ (placed p t) (begin most ds h (frame.List q vs ∷ fs) p t) (sym (append_assoc (of_file ds ++ head_marks h) (frames_marks fs) (frame_marks (frame.List q vs)))) (Grows-begin most ds h (frame.List q vs ∷ fs) p t)

Grows-name : (ds : List Decl) (h : Head) (fs : List Frame) (q : ℕ) (xs : List Field) (p : ℕ) (t : TokenKind) → Grows (stem ds h fs ++ spot_marks (spot.Name q xs)) (placed p t) (on_name ds h fs q xs p t)
Grows-name ds h fs q xs p tok.CloseParen = in_cover (stem ds h fs) _ _ (Just tok.CloseParen) (placed p tok.CloseParen) (covers_trans _ _ _ (close_none (Fixed q tok.OpenParen) (Just tok.CloseParen) (map of_field xs)) (covers_same _ _ (sym (of_struct q xs)))) (p, refl)
Grows-name ds h fs q xs p (tok.Name b) = in_spot (stem ds h fs) _ _ (name (word p b)) (placed p (tok.Name b)) refl refl
Grows-name ds h fs q xs p _ = tt

Grows-equals : (ds : List Decl) (h : Head) (fs : List Frame) (q : ℕ) (xs : List Field) (n : Placed) (p : ℕ) (t : TokenKind) → Grows (stem ds h fs ++ spot_marks (spot.Equals q xs n)) (placed p t) (on_equals ds h fs q xs n t)
Grows-equals ds h fs q xs n p tok.Equals =
    grows (stem ds h fs ++ spot_marks (spot.Equals q xs n)) (stem ds h (frame.Struct q xs n ∷ fs) ++ []) (Just tok.Equals) (placed p tok.Equals)
    (covers_same _ _ (simp (append_assoc, append-nil))) (p, refl)
Grows-equals ds h fs q xs n p _ = tt

Grows-value : (most : ℕ) (ds : List Decl) (h : Head) (fs : List Frame) (s : Spot) (p : ℕ) (t : TokenKind) → Grows (stem ds h fs ++ spot_marks s) (placed p t) (in_value most ds h fs s p t)
Grows-value most ds h fs spot.Begin p t = Grows-same (stem ds h fs) _ (placed p t) (begin most ds h fs p t) (sym (append-nil (stem ds h fs))) (Grows-begin most ds h fs p t)
Grows-value most ds h fs (spot.Embed q) p t = Grows-embed ds h fs q p t
Grows-value most ds h fs (spot.Dot q) p t = Grows-dot ds h fs q p t
Grows-value most ds h fs (spot.Item q vs) p t = Grows-item most ds h fs q vs p t
Grows-value most ds h fs (spot.Name q xs) p t = Grows-name ds h fs q xs p t
Grows-value most ds h fs (spot.Equals q xs n) p t = Grows-equals ds h fs q xs n p t
Grows-value most ds h fs (spot.Done v) p t = Grows-after ds h fs v p t

-- ---- declarations

Grows-decl : (ds : List Decl) (p : ℕ) (w : List ℕ) (a b : Bool) → (a ≡ true → w ≡ codes "const") → (b ≡ true → w ≡ codes "using") → Grows (of_file ds) (placed p (tok.Name w)) (on_decl ds a b)
Grows-decl ds p w true b e f = at_end (of_file ds) _ (keyword (codes "const")) (placed p (tok.Name w)) refl (p, ap (λ (z : List ℕ). placed p (tok.Name z) ∷ []) (e refl))
Grows-decl ds p w false true e f = at_end (of_file ds) _ (keyword (codes "using")) (placed p (tok.Name w)) refl (p, ap (λ (z : List ℕ). placed p (tok.Name z) ∷ []) (f refl))
Grows-decl ds p w false false e f = tt

Grows-begin_decl : (ds : List Decl) (p : ℕ) (t : TokenKind) → Grows (of_file ds) (placed p t) (begin_decl ds t)
Grows-begin_decl ds p (tok.Name w) = Grows-decl ds p w (bytes_eq w (codes "const")) (bytes_eq w (codes "using")) (bytes_eq-Decides w (codes "const")).0 (bytes_eq-Decides w (codes "using")).0
Grows-begin_decl ds p tok.At = at_end (of_file ds) _ (Just tok.At) (placed p tok.At) refl (p, refl)
Grows-begin_decl ds p _ = tt

Grows-id : (ds : List Decl) (p : ℕ) (t : TokenKind) → Grows (spelled_at ds at.Id) (placed p t) (on_id ds p t)
Grows-id ds p (tok.Hex w) = in_spot (of_file ds) _ _ (Fixed p (tok.Hex w)) (placed p (tok.Hex w)) refl refl
Grows-id ds p _ = tt

id_end : (ds : List Decl) (id : Placed) → spelled_at ds (at.IdEnd id) ++ Just tok.Semicolon ∷ [] ≡ of_file (ds ++ decl.Id id ∷ [])
id_end ds id = simp (append_assoc, append-nil, flat_map-append)

Grows-id_end : (ds : List Decl) (id : Placed) (p : ℕ) (t : TokenKind) → Grows (spelled_at ds (at.IdEnd id)) (placed p t) (on_id_end ds id t)
Grows-id_end ds id p tok.Semicolon = grows (spelled_at ds (at.IdEnd id)) _ (Just tok.Semicolon) (placed p tok.Semicolon) (covers_same _ _ (id_end ds id)) (p, refl)
Grows-id_end ds id p _ = tt

Grows-using_name : (ds : List Decl) (p : ℕ) (t : TokenKind) → Grows (spelled_at ds at.UsingName) (placed p t) (on_using_name ds p t)
Grows-using_name ds p (tok.Name w) = in_spot (of_file ds) _ _ (name (word p w)) (placed p (tok.Name w)) refl refl
Grows-using_name ds p _ = tt

Grows-using_equals : (ds : List Decl) (n : Placed) (p : ℕ) (t : TokenKind) → Grows (spelled_at ds (at.UsingEquals n)) (placed p t) (on_using_equals ds n t)
Grows-using_equals ds n p tok.Equals = in_spot (of_file ds) _ _ (Just tok.Equals) (placed p tok.Equals) refl (p, refl)
Grows-using_equals ds n p _ = tt

Grows-import : (ds : List Decl) (n : Placed) (p : ℕ) (w : List ℕ) (a : Bool) → (a ≡ true → w ≡ codes "import") → Grows (spelled_at ds (at.UsingImport n)) (placed p (tok.Name w)) (on_import ds n a)
Grows-import ds n p w true e = in_spot (of_file ds) _ _ (keyword (codes "import")) (placed p (tok.Name w)) refl (p, ap (λ (z : List ℕ). placed p (tok.Name z) ∷ []) (e refl))
Grows-import ds n p w false e = tt

Grows-using_import : (ds : List Decl) (n : Placed) (p : ℕ) (t : TokenKind) → Grows (spelled_at ds (at.UsingImport n)) (placed p t) (on_using_import ds n t)
Grows-using_import ds n p (tok.Name w) = Grows-import ds n p w (bytes_eq w (codes "import")) (bytes_eq-Decides w (codes "import")).0
Grows-using_import ds n p _ = tt

Grows-using_path : (ds : List Decl) (n : Placed) (p : ℕ) (t : TokenKind) → Grows (spelled_at ds (at.UsingPath n)) (placed p t) (on_using_path ds n p t)
Grows-using_path ds n p (tok.Text w) = in_spot (of_file ds) _ _ (text (word p w)) (placed p (tok.Text w)) refl refl
Grows-using_path ds n p _ = tt

using_end : (ds : List Decl) (n w : Placed) → spelled_at ds (at.UsingEnd n w) ++ Just tok.Semicolon ∷ [] ≡ of_file (ds ++ decl.Using n w ∷ [])
using_end ds n w = simp (append_assoc, append-nil, flat_map-append)

Grows-using_end : (ds : List Decl) (n w : Placed) (p : ℕ) (t : TokenKind) → Grows (spelled_at ds (at.UsingEnd n w)) (placed p t) (on_using_end ds n w t)
Grows-using_end ds n w p tok.Semicolon = grows (spelled_at ds (at.UsingEnd n w)) _ (Just tok.Semicolon) (placed p tok.Semicolon) (covers_same _ _ (using_end ds n w)) (p, refl)
Grows-using_end ds n w p _ = tt

Grows-const_name : (ds : List Decl) (p : ℕ) (t : TokenKind) → Grows (spelled_at ds at.ConstName) (placed p t) (on_const_name ds p t)
Grows-const_name ds p (tok.Name w) = in_spot (of_file ds) _ _ (name (word p w)) (placed p (tok.Name w)) refl refl
Grows-const_name ds p _ = tt

Grows-const_colon : (ds : List Decl) (n : Placed) (p : ℕ) (t : TokenKind) → Grows (spelled_at ds (at.ConstColon n)) (placed p t) (on_const_colon ds n t)
Grows-const_colon ds n p tok.Colon = in_spot (of_file ds) _ _ (Just tok.Colon) (placed p tok.Colon) refl (p, refl)
Grows-const_colon ds n p _ = tt

Grows-type : (ds : List Decl) (h : Head) (p : ℕ) (t : TokenKind) → Grows (spelled_at ds (at.Type h)) (placed p t) (on_type ds h p t)
Grows-type ds h p (tok.Name w) = in_spot (of_file ds) _ _ (name (word p w)) (placed p (tok.Name w)) (append_assoc (head_front h.name) (pointed h.type_) (name (word p w) ∷ [])) refl
Grows-type ds h p _ = tt

typed_end : (ds : List Decl) (h : Head) (w : Placed) → spelled_at ds (at.Typed h w) ++ Just tok.Equals ∷ [] ≡ stem ds (with_part h w) [] ++ []
typed_end ds h w = simp (type_last, append_assoc, append-nil)

typed_dot : (h : Head) (w : Placed) → (head_front h.name ++ (pointed h.type_ ++ name w ∷ [])) ++ Just tok.Dot ∷ [] ≡ head_front h.name ++ pointed (h.type_ ++ w ∷ [])
typed_dot h w = simp (pointed_push, append_assoc)

Grows-typed : (ds : List Decl) (h : Head) (w : Placed) (p : ℕ) (t : TokenKind) → Grows (spelled_at ds (at.Typed h w)) (placed p t) (on_typed ds h w t)
Grows-typed ds h w p tok.Dot = in_spot (of_file ds) _ _ (Just tok.Dot) (placed p tok.Dot) (typed_dot h w) (p, refl)
Grows-typed ds h w p tok.Equals = grows (spelled_at ds (at.Typed h w)) _ (Just tok.Equals) (placed p tok.Equals) (covers_same _ _ (typed_end ds h w)) (p, refl)
Grows-typed ds h w p _ = tt

Grows-at : (most : ℕ) (ds : List Decl) (a : At) (p : ℕ) (t : TokenKind) → Grows (spelled_at ds a) (placed p t) (step_at most ds a p t)
Grows-at most ds at.Decl p t = Grows-begin_decl ds p t
Grows-at most ds at.Id p t = Grows-id ds p t
Grows-at most ds (at.IdEnd id) p t = Grows-id_end ds id p t
Grows-at most ds at.UsingName p t = Grows-using_name ds p t
Grows-at most ds (at.UsingEquals n) p t = Grows-using_equals ds n p t
Grows-at most ds (at.UsingImport n) p t = Grows-using_import ds n p t
Grows-at most ds (at.UsingPath n) p t = Grows-using_path ds n p t
Grows-at most ds (at.UsingEnd n w) p t = Grows-using_end ds n w p t
Grows-at most ds at.ConstName p t = Grows-const_name ds p t
Grows-at most ds (at.ConstColon n) p t = Grows-const_colon ds n p t
Grows-at most ds (at.Type h) p t = Grows-type ds h p t
Grows-at most ds (at.Typed h w) p t = Grows-typed ds h w p t
Grows-at most ds (at.In h fs s) p t = Grows-value most ds h fs s p t

Grows-step : (most : ℕ) (s : State) (t : Token) → Grows (spelled s) t (step most s t)
Grows-step most s t = Grows-at most s.decls s.at t.place t.kind

-- ---- runs

abbrev pub Whole : List Token → Result State (Stuck Token Refusal) → Type 0
Whole us (Ok n) = Matches (spelled n) us
Whole us (Err k) = Unit {0}

Whole-taken : (most : ℕ) (a : List Mark) (us ts : List Token) (t : Token) (o : Step) → Grows a t o → Matches a us
    → ((n : State) → Matches (spelled n) (us ++ t ∷ []) → Whole ((us ++ t ∷ []) ++ ts) (run (step most) n ts)) → Whole (us ++ t ∷ ts) (taken o t ts (λ n. run (step most) n ts))
Whole-taken most a us ts t (Err k) g h i = tt
Whole-taken most a us ts t (Ok n) g h i = subst (λ (z : List Token). Whole z (run (step most) n ts)) (append_assoc us (t ∷ []) ts) (i n (g us h))

-- The state that a run reaches spells what was read.
pub run_sound : (most : ℕ) (ts : List Token) (s : State) (us : List Token) → Matches (spelled s) us → Whole (us ++ ts) (run (step most) s ts)
run_sound most [] s us h = subst (Matches (spelled s)) (sym (append-nil us)) h
run_sound most (t ∷ ts) s us h = Whole-taken most (spelled s) us ts t (step most s t) (Grows-step most s t) h (λ n. run_sound most ts n (us ++ t ∷ []))
