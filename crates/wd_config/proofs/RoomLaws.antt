-- A text has room for the lists of its file.
use Rattle.std.proofs.Common.{◌≡◌, ◌≤◌, ℕ, zero, suc, ◌+◌, Bool, true, false, cond, List, [], ◌∷◌, ◌++◌, length, map, Option, Some, None, Ok, Err, refl, sym, ap, subst, ◌∙◌, arith}
use Rattle.std.specs.Prelude.{slice_get}
use Rattle.std.proofs.lemmas.List.{length-append, length-map}
use Rattle.capnp_text.specs.declared.token.Token.{Token}
use Rattle.capnp_text.specs.declared.token.TokenKind.TheVariants as tok
use Rattle.capnp_text.specs.declared.tree.Placed.{Placed}
use Rattle.capnp_text.specs.declared.tree.Value.{Value, out-Value, roll-Value, roll-out-Value}
use Rattle.capnp_text.specs.declared.tree.Value.TheOpen.{Value-F}
use Rattle.capnp_text.specs.declared.tree.Value.TheFolds.{fold-roll-Value, fold-roll-Field}
use Rattle.capnp_text.specs.declared.tree.Field.{Field, out-Field, roll-out-Field}
use Rattle.capnp_text.specs.declared.tree.Decl.{Decl}
use Rattle.capnp_text.specs.declared.tree.Decl.TheVariants as decl
use Rattle.capnp_text.specs.Fault.{IsText}
use Rattle.capnp_text.specs.Grammar.{listed, more, name, of_decl, of_field, of_file, of_type, of_value, value_step, field_step}
use Rattle.capnp_text.specs.Lexed.{Piece, Blank, Comment, Name, Number, Hex, Text, Data, Sign, IsCut, Every, piece_bytes, piece_tokens, tail_bytes, text_of, tokens_of}
use Rattle.capnp_text.specs.Marks.{Mark, Just, At, MayComma, OfMark, Matches}
use Rattle.wd_config.specs.declared.faults.RefusedKind.TheVariants as refused
use Rattle.wd_config.specs.Configured.{Rooted, is_config_type, root, root_at, rooted}
use Rattle.wd_config.specs.Given.{Given, fault, ◌>>=◌}
use Rattle.wd_config.specs.Names.{Names, number_of}
use Rattle.wd_config.specs.Room.{Small, SmallFile, most_bytes, sure}
use Rattle.wd_config.specs.Values.{InPlace, among, as_constant, as_list, as_struct, entered, follow, followed, in_place, list_in, opened, opened_at, struct_in, value_at, value_of}

-- ---- sums

after_one : (x a b : ℕ) → x ≡ a + b → 1 + x ≡ (1 + a) + b
after_one x a b e = omega arith

at_most : (a b c : ℕ) → a ≤ b → b ≤ c → a ≤ c
at_most a b c h k = omega arith

both_at_most : (a b c d x y : ℕ) → x ≡ a + b → y ≡ c + d → a ≤ c → b ≤ d → x ≤ y
both_at_most a b c d x y e f h k = omega arith

in_front : (a b c x : ℕ) → x ≡ a + b → c ≤ a → c ≤ x
in_front a b c x e h = omega arith

in_back : (a b c x : ℕ) → x ≡ a + b → c ≤ b → c ≤ x
in_back a b c x e h = omega arith

first_part : (a b x n : ℕ) → x ≡ a + b → x ≤ n → a ≤ n
first_part a b x n e h = omega arith

second_part : (a b x n : ℕ) → x ≡ a + b → x ≤ n → b ≤ n
second_part a b x n e h = omega arith

one_less : (x n : ℕ) → 1 + x ≤ n → x ≤ n
one_less x n h = omega arith

one_more : (a b c x : ℕ) → x ≡ a + b → c ≤ b → suc c ≤ 1 + x
one_more a b c x e h = omega arith

two_more : (w x l : ℕ) → w ≡ 1 + x → x ≡ l + 1 → w ≡ 2 + l
two_more w x l e f = omega arith

within : (w l n : ℕ) → w ≡ 2 + l → w ≤ n → l ≤ n
within w l n e h = omega arith

in_field : (w l n : ℕ) → w ≡ 1 + (1 + l) → w ≤ n → l ≤ n
in_field w l n e h = omega arith

few_within : (w l n c d : ℕ) → w ≡ 2 + l → w ≤ n → c ≤ 1 + l → c ≡ d → d ≤ n
few_within w l n c d e h f g = omega arith

in_const : (v t x y : ℕ) → y ≡ v + 1 → x ≡ t + (1 + y) → v ≤ 1 + (1 + (1 + x))
in_const v t x y e f = omega arith

one_token : (u s v : ℕ) → u ≡ 1 → s ≤ v → 1 + s ≤ u + v
one_token u s v e h = omega arith

no_token : (u s v : ℕ) → s ≤ v → s ≤ u + v
no_token u s v h = omega arith

-- ---- marks

sure-append : (a b : List Mark) → sure (a ++ b) ≡ sure a + sure b
sure-append [] b = omega arith
sure-append (Just t ∷ a) b = after_one (sure (a ++ b)) (sure a) (sure b) (sure-append a b)
sure-append (At p t ∷ a) b = after_one (sure (a ++ b)) (sure a) (sure b) (sure-append a b)
sure-append (MayComma ∷ a) b = sure-append a b

-- ---- a text has at most as many tokens as bytes

one_mark : (m : Mark) (ms : List Mark) (us vs : List Token) → OfMark m us → sure ms ≤ length vs → sure (m ∷ ms) ≤ length us + length vs
one_mark (Just t) ms us vs (p, e) h = one_token (length us) (sure ms) (length vs) (ap (λ (ts : List Token). length ts) e) h
one_mark (At p t) ms us vs e h = one_token (length us) (sure ms) (length vs) (ap (λ (ts : List Token). length ts) e) h
one_mark MayComma ms us vs o h = no_token (length us) (sure ms) (length vs) h

sure_matches : (ms : List Mark) (ts : List Token) → Matches ms ts → sure ms ≤ length ts
sure_matches [] ts e = omega arith
sure_matches (m ∷ ms) ts (us, vs, e, o, h) = subst (λ (n : ℕ). sure (m ∷ ms) ≤ n) (sym (ap (λ (us : List Token). length us) e ∙ length-append us vs)) (one_mark m ms us vs o (sure_matches ms vs h))

one_piece : (p : Piece) (n : ℕ) → length (piece_tokens p n) ≤ length (piece_bytes p)
one_piece (Blank b) n = omega arith
one_piece (Comment c) n = omega arith
one_piece (Name b w) n = omega arith
one_piece (Number b w) n = omega arith
one_piece (Hex b w) n = omega arith
one_piece (Text ls) n = omega arith
one_piece (Data ps) n = omega arith
one_piece (Sign b t) n = omega arith

all_pieces : (ps : List Piece) (n : ℕ) → length (tokens_of n ps) ≤ length (text_of ps)
all_pieces [] n = omega arith
all_pieces (p ∷ ps) n =
    let m : ℕ = n + length (piece_bytes p) in
    both_at_most (length (piece_tokens p n)) (length (tokens_of m ps)) (length (piece_bytes p)) (length (text_of ps)) (length (tokens_of n (p ∷ ps))) (length (text_of (p ∷ ps)))
    (length-append (piece_tokens p n) (tokens_of m ps)) (length-append (piece_bytes p) (text_of ps)) (one_piece p n) (all_pieces ps m)

few_tokens : (bs : List ℕ) (ts : List Token) (open_ : Bool) → IsCut bs ts open_ → length ts ≤ length bs
few_tokens bs ts open_ c =
    let f : length bs ≡ length (text_of c.pieces) + length (tail_bytes c.tail) = ap (λ (cs : List ℕ). length cs) c.text ∙ length-append (text_of c.pieces) (tail_bytes c.tail) in
    let h : length ts ≤ length (text_of c.pieces) = subst (λ (us : List Token). length us ≤ length (text_of c.pieces)) (sym c.found) (all_pieces c.pieces 0) in
    in_front (length (text_of c.pieces)) (length (tail_bytes c.tail)) (length ts) (length bs) f h

pub text_small : (file : List Decl) (bs : List ℕ) → IsText file bs → length bs ≤ most_bytes → SmallFile file
unfolding SmallFile
text_small file bs t h =
    at_most (sure (of_file file)) (length bs) most_bytes
    (at_most (sure (of_file file)) (length t.tokens) (length bs) (sure_matches (of_file file) t.tokens t.is_file.tokens) (few_tokens bs t.tokens false t.lexed)) h

-- ---- the values of constants

decl_room : (n : Placed) (ty : List Placed) (v : Value) → sure (of_value v) ≤ sure (of_decl (decl.Const n ty v))
decl_room n ty v =
    let rest : List Mark = of_value v ++ Just tok.Semicolon ∷ [] in
    in_const (sure (of_value v)) (sure (of_type ty)) (sure (of_type ty ++ Just tok.Equals ∷ rest)) (sure rest)
    (sure-append (of_value v) (Just tok.Semicolon ∷ [])) (sure-append (of_type ty) (Just tok.Equals ∷ rest))

one_decl : (d : Decl) (ds : List Decl) (v : Value) → value_of (Some d) ≡ Some v → sure (of_value v) ≤ sure (of_file (d ∷ ds))
one_decl (decl.Const n ty w) ds v e =
    let f : w ≡ v = cc in
    subst (λ (z : Value). sure (of_value z) ≤ sure (of_file (decl.Const n ty w ∷ ds))) f
    (in_front (sure (of_decl (decl.Const n ty w))) (sure (of_file ds)) (sure (of_value w)) (sure (of_file (decl.Const n ty w ∷ ds))) (sure-append (of_decl (decl.Const n ty w)) (of_file ds)) (decl_room n ty w))
one_decl (decl.Using n path) ds v e = cc
one_decl (decl.Id id) ds v e = cc

at_room : (ds : List Decl) (i : ℕ) (v : Value) → value_of (slice_get ds i) ≡ Some v → sure (of_value v) ≤ sure (of_file ds)
at_room [] i v e = cc
at_room (d ∷ ds) zero v e = one_decl d ds v e
at_room (d ∷ ds) (suc i) v e = in_back (sure (of_decl d)) (sure (of_file ds)) (sure (of_value v)) (sure (of_file (d ∷ ds))) (sure-append (of_decl d) (of_file ds)) (at_room ds i v e)

at_small : (file : List Decl) (i : ℕ) (v : Value) → value_of (slice_get file i) ≡ Some v → SmallFile file → Small v
unfolding Small SmallFile
at_small file i v e s = at_most (sure (of_value v)) (sure (of_file file)) most_bytes (at_room file i v e) s

abbrev rooted_as : ℕ → Placed → Value → Rooted
rooted_as i n v = record { at = i; label = n; value = v }

const_value : (i : ℕ) (name : List ℕ) (n : Placed) (v : Value) (b : Bool) (r : Rooted) → cond b (Ok (rooted_as i n v)) (fault {A = Rooted} refused.NoSuchConst 0 name) ≡ Ok r → Some v ≡ Some r.value
const_value i name n v true r e = let f : rooted_as i n v ≡ r = cc in ap (λ (z : Rooted). Some z.value) f
const_value i name n v false r e = cc

rooted_value : (i : ℕ) (name : List ℕ) (d : Option Decl) (r : Rooted) → rooted i name d ≡ Ok r → value_of d ≡ Some r.value
rooted_value i name None r e = cc
rooted_value i name (Some (decl.Const n ty v)) r e = const_value i name n v (is_config_type ty) r e
rooted_value i name (Some (decl.Using n path)) r e = cc
rooted_value i name (Some (decl.Id id)) r e = cc

root_at_small : (file : List Decl) (name : List ℕ) (o : Option ℕ) (r : Rooted) → root_at file name o ≡ Ok r → SmallFile file → Small r.value
root_at_small file name None r e s = cc
root_at_small file name (Some i) r e s = at_small file i r.value (rooted_value i name (slice_get file i) r e) s

pub root_small : (constants : Names) (file : List Decl) (name : List ℕ) (r : Rooted) → root constants file name ≡ Ok r → SmallFile file → Small r.value
root_small constants file name r e s = root_at_small file name (number_of constants name) r e s

-- ---- constants in place

entered_small : (file : List Decl) (open_ : List ℕ) (i p : ℕ) (w : Placed) (v : Option Value) (q : InPlace) → ((u : Value) → v ≡ Some u → Small u) → entered open_ i p w v ≡ Ok q → Small q.1
entered_small file open_ i p w None q h e = cc
entered_small file open_ i p w (Some u) q h e = let a : InPlace = (open_ ++ i ∷ [], u) in let f : a ≡ q = cc in subst (λ (z : InPlace). Small z.1) f (h u refl)

unless_open : (file : List Decl) (open_ : List ℕ) (i p : ℕ) (w : Placed) (b : Bool) (q : InPlace) → SmallFile file → cond b (fault {A = InPlace} refused.ConstLoop p w.bytes) (entered open_ i p w (value_at file i)) ≡ Ok q → Small q.1
unfolding value_at
unless_open file open_ i p w true q s e = cc
unless_open file open_ i p w false q s e = entered_small file open_ i p w (value_of (slice_get file i)) q (λ u f. at_small file i u f s) e

opened_small : (file : List Decl) (open_ : List ℕ) (p : ℕ) (w : Placed) (o : Option ℕ) (q : InPlace) → SmallFile file → opened_at file open_ p w o ≡ Ok q → Small q.1
opened_small file open_ p w None q s e = cc
opened_small file open_ p w (Some i) q s e = unless_open file open_ i p w (among open_ i) q s e

then_small : (go : InPlace → Given InPlace) (g : Given InPlace) (q : InPlace) → ((o : InPlace) → g ≡ Ok o → Small o.1) → ((o : InPlace) → Small o.1 → go o ≡ Ok q → Small q.1) → (g >>= go) ≡ Ok q → Small q.1
then_small go (Ok o) q h next e = next o (h o refl) e
then_small go (Err f) q h next e = cc

followed_small : (go : InPlace → Given InPlace) (file : List Decl) (constants : Names) (o : InPlace) (k : Option (ℕ × Placed)) (q : InPlace) → SmallFile file → Small o.1 → ((p : InPlace) → Small p.1 → go p ≡ Ok q → Small q.1)
    → followed go file constants o.0 o.1 k ≡ Ok q → Small q.1
unfolding opened
followed_small go file constants o None q s h next e = let p : InPlace = (o.0, o.1) in let f : p ≡ q = cc in subst (λ (z : InPlace). Small z.1) f h
followed_small go file constants o (Some (p, w)) q s h next e = then_small go (opened_at file o.0 p w (number_of constants w.bytes)) q (λ z f. opened_small file o.0 p w (number_of constants w.bytes) z s f) next e

follow_small : (n : ℕ) (file : List Decl) (constants : Names) (o q : InPlace) → SmallFile file → Small o.1 → follow n file constants o ≡ Ok q → Small q.1
unfolding follow
follow_small zero file constants o q s h e = let f : o ≡ q = cc in subst (λ (z : InPlace). Small z.1) f h
follow_small (suc n) file constants o q s h e = followed_small (follow n file constants) file constants o (as_constant o.1) q s h (λ p i f. follow_small n file constants p q s i f) e

pub in_place_small : (file : List Decl) (constants : Names) (open_ : List ℕ) (v : Value) (o : List ℕ) (w : Value) → SmallFile file → Small v → in_place file constants open_ v ≡ Ok (o, w) → Small w
unfolding in_place
in_place_small file constants open_ v o w s h e = follow_small (length file + 1) file constants (open_, v) (o, w) s h e

-- ---- the values in a value

more_length : (ms : List (List Mark)) → length ms ≤ sure (more ms)
more_length [] = omega arith
more_length (m ∷ ms) = one_more (sure m) (sure (more ms)) (length ms) (sure (m ++ more ms)) (sure-append m (more ms)) (more_length ms)

listed_length : (ms : List (List Mark)) → length ms ≤ 1 + sure (listed ms)
listed_length [] = omega arith
listed_length (m ∷ ms) = one_more (sure m) (sure (more ms)) (length ms) (sure (m ++ more ms)) (sure-append m (more ms)) (more_length ms)

more_each : {X : Type 0} (f : X → List Mark) (xs : List X) (n : ℕ) → sure (more (map f xs)) ≤ n → Every (λ x. sure (f x) ≤ n) xs
more_each f [] n h = tt
more_each f (x ∷ xs) n h =
    let e : sure (f x ++ more (map f xs)) ≡ sure (f x) + sure (more (map f xs)) = sure-append (f x) (more (map f xs)) in
    let k : sure (f x ++ more (map f xs)) ≤ n = one_less (sure (f x ++ more (map f xs))) n h in
    (first_part (sure (f x)) (sure (more (map f xs))) (sure (f x ++ more (map f xs))) n e k, more_each f xs n (second_part (sure (f x)) (sure (more (map f xs))) (sure (f x ++ more (map f xs))) n e k))

listed_each : {X : Type 0} (f : X → List Mark) (xs : List X) (n : ℕ) → sure (listed (map f xs)) ≤ n → Every (λ x. sure (f x) ≤ n) xs
listed_each f [] n h = tt
listed_each f (x ∷ xs) n h =
    let e : sure (f x ++ more (map f xs)) ≡ sure (f x) + sure (more (map f xs)) = sure-append (f x) (more (map f xs)) in
    (first_part (sure (f x)) (sure (more (map f xs))) (sure (f x ++ more (map f xs))) n e h, more_each f xs n (second_part (sure (f x)) (sure (more (map f xs))) (sure (f x ++ more (map f xs))) n e h))

marks_of : (v : Value) (y : Value-F Value Field) → out-Value v ≡ y → of_value v ≡ of_value (roll-Value y)
marks_of v y e = ap of_value (sym (roll-out-Value v) ∙ ap roll-Value e)

list_at : (v : Value) (y : Value-F Value Field) (vs : List Value) → out-Value v ≡ y → list_in y ≡ Some vs → sure (of_value v) ≡ 2 + sure (listed (map of_value vs))
list_at v (Value-F.List p ws) vs e h =
    let f : ws ≡ vs = cc in
    let a : of_value v ≡ At p tok.OpenBracket ∷ (listed (map of_value ws) ++ Just tok.CloseBracket ∷ []) = marks_of v (Value-F.List p ws) e ∙ fold-roll-Value (List Mark) (List Mark) value_step field_step (Value-F.List p ws) in
    subst (λ (us : List Value). sure (of_value v) ≡ 2 + sure (listed (map of_value us))) f
    (two_more (sure (of_value v)) (sure (listed (map of_value ws) ++ Just tok.CloseBracket ∷ [])) (sure (listed (map of_value ws))) (ap sure a) (sure-append (listed (map of_value ws)) (Just tok.CloseBracket ∷ [])))
list_at v _ vs e h = cc

struct_at : (v : Value) (y : Value-F Value Field) (b : ℕ × List Field) → out-Value v ≡ y → struct_in y ≡ Some b → sure (of_value v) ≡ 2 + sure (listed (map of_field b.1))
struct_at v (Value-F.Struct p fs) b e h =
    let q : ℕ × List Field = (p, fs) in let f : q ≡ b = cc in
    let a : of_value v ≡ At p tok.OpenParen ∷ (listed (map of_field fs) ++ Just tok.CloseParen ∷ []) = marks_of v (Value-F.Struct p fs) e ∙ fold-roll-Value (List Mark) (List Mark) value_step field_step (Value-F.Struct p fs) in
    subst (λ (z : ℕ × List Field). sure (of_value v) ≡ 2 + sure (listed (map of_field z.1))) f
    (two_more (sure (of_value v)) (sure (listed (map of_field fs) ++ Just tok.CloseParen ∷ [])) (sure (listed (map of_field fs))) (ap sure a) (sure-append (listed (map of_field fs)) (Just tok.CloseParen ∷ [])))
struct_at v _ b e h = cc

each_small : (vs : List Value) → Every (λ v. sure (of_value v) ≤ most_bytes) vs → Every Small vs
unfolding Small
each_small [] h = tt
each_small (v ∷ vs) (h, hs) = (h, each_small vs hs)

-- each item has room in the text
pub list_each : (v : Value) (vs : List Value) → Some vs ≡ as_list v → Small v → Every Small vs
unfolding Small as_list
list_each v vs e h = each_small vs (listed_each of_value vs most_bytes (within (sure (of_value v)) (sure (listed (map of_value vs))) most_bytes (list_at v (out-Value v) vs refl (sym e)) h))

-- and so many are there at most
pub list_few : (v : Value) (vs : List Value) → Some vs ≡ as_list v → Small v → length vs ≤ most_bytes
unfolding Small as_list
list_few v vs e h =
    few_within (sure (of_value v)) (sure (listed (map of_value vs))) most_bytes (length (map of_value vs)) (length vs) (list_at v (out-Value v) vs refl (sym e)) h (listed_length (map of_value vs)) (length-map vs of_value)

field_marks : (f : Field) → of_field f ≡ name f.name ∷ Just tok.Equals ∷ of_value f.value
field_marks f = ap of_field (sym (roll-out-Field f)) ∙ fold-roll-Field (List Mark) (List Mark) value_step field_step (out-Field f)

fields_small : (fs : List Field) → Every (λ f. sure (of_field f) ≤ most_bytes) fs → Every (λ f. Small f.value) fs
unfolding Small
fields_small [] h = tt
fields_small (f ∷ fs) (h, hs) = (in_field (sure (of_field f)) (sure (of_value f.value)) most_bytes (ap sure (field_marks f)) h, fields_small fs hs)

-- each field's value has room in the text
pub struct_each : (v : Value) (p : ℕ) (fs : List Field) → Some (p, fs) ≡ as_struct v → Small v → Every (λ f. Small f.value) fs
unfolding Small as_struct
struct_each v p fs e h = fields_small fs (listed_each of_field fs most_bytes (within (sure (of_value v)) (sure (listed (map of_field fs))) most_bytes (struct_at v (out-Value v) (p, fs) refl (sym e)) h))
