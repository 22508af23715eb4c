-- Each tree of the grammar is read: the machine takes its marks.
use Rattle.std.proofs.Common.{◌≡◌, ℕ, ◌+◌, ◌<◌, ◌≤◌, Bool, true, false, cond, List, [], ◌∷◌, ◌++◌, map, length, Ok, Err, refl, sym, ap, ◌∙◌, subst, append_assoc, arith, inl, inr}
use Rattle.std.specs.Prelude.{codes}
use Rattle.std.specs.Str.{bytes_eq}
use Rattle.std.proofs.lemmas.Bool.{lt-ltb}
use Rattle.std.proofs.lemmas.List.{append-nil}
use Rattle.std.proofs.lemmas.List.Concat.{flat_map-cons}
use Rattle.std.proofs.lemmas.Slice.Eq.{bytes_eq-Decides}
use Rattle.capnp_text.specs.declared.token.TokenKind.{TokenKind}
use Rattle.capnp_text.specs.declared.token.TokenKind.TheVariants as tok
use Rattle.capnp_text.specs.declared.token.Token.{Token}
use Rattle.capnp_text.specs.declared.tree.Placed.{Placed}
use Rattle.capnp_text.specs.declared.tree.Value.{Value, roll-Value}
use Rattle.capnp_text.specs.declared.tree.Value.TheVariants as value
use Rattle.capnp_text.specs.declared.tree.Value.TheOpen.{Value-F, Field-F}
use Rattle.capnp_text.specs.declared.tree.Value.TheFolds.{ind-Value, map-Value, map-Field}
use Rattle.capnp_text.specs.declared.tree.Field.{Field, roll-Field}
use Rattle.capnp_text.specs.declared.tree.Decl.{Decl}
use Rattle.capnp_text.specs.declared.tree.Decl.TheVariants as decl
use Rattle.capnp_text.specs.declared.machine.Head.{Head}
use Rattle.capnp_text.specs.declared.machine.Frame.{Frame}
use Rattle.capnp_text.specs.declared.machine.Frame.TheVariants as frame
use Rattle.capnp_text.specs.declared.machine.Spot.{Spot}
use Rattle.capnp_text.specs.declared.machine.Spot.TheVariants as spot
use Rattle.capnp_text.specs.declared.machine.At.{At}
use Rattle.capnp_text.specs.declared.machine.At.TheVariants as at
use Rattle.capnp_text.specs.declared.machine.State.{State}
use Rattle.capnp_text.specs.declared.machine.Refusal.TheVariants as refusal
use Rattle.capnp_text.specs.Marks.{Mark, Just, At as Fixed, MayComma, Matches}
use Rattle.capnp_text.specs.Grammar.{name, text, more, listed, dotted, deepest, depth, field_depth, of_value, of_field, of_decl, of_file, Fits, AllFit, IsFile}
use Rattle.capnp_text.specs.Run.{run}
use Rattle.capnp_text.specs.Machine.{Step, stay, word, field, embed, if_room, on_word, begin, after, on_embed, on_item, step, read}
use Rattle.capnp_text.proofs.Equations.{of_text, of_data, of_number, of_word, of_constant, of_embed, of_struct, of_list, of_a_field, depth_list, depth_struct, depth_field}
use Rattle.capnp_text.proofs.Runs.{run_step, run_alike}
use Rattle.capnp_text.proofs.Sound.{placed}

abbrev pub begins : TokenKind → Bool
begins (tok.Text b) = true
begins (tok.Data b) = true
begins (tok.Number b) = true
begins (tok.Name b) = true
begins tok.Dot = true
begins tok.OpenParen = true
begins tok.OpenBracket = true
begins _ = false

abbrev pub ends : TokenKind → Bool
ends tok.Semicolon = true
ends tok.Comma = true
ends tok.CloseParen = true
ends tok.CloseBracket = true
ends _ = false

abbrev pub inside : List Decl → Head → List Frame → Spot → State
inside ds h fs s = record { decls = ds; at = at.In h fs s }

abbrev pub between : List Decl → State
between ds = record { decls = ds; at = at.Decl }

abbrev pub state_at : List Decl → At → State
state_at ds a = record { decls = ds; at = a }

-- what these marks are of begins with a token that may stand after a value
pub record EndsFirst (ms : List Mark) : Type 0 where
  pub first : (ts : List Token) → Matches ms ts → (t : Token) × (us : List Token) × (ts ≡ t ∷ us) × (ends t.kind ≡ true)

embed_ends : (ds : List Decl) (h : Head) (fs : List Frame) (q p : ℕ) (t : TokenKind) → ends t ≡ true → on_embed ds h fs q p t ≡ after ds h fs (value.Word (embed q)) t
embed_ends ds h fs q p (tok.Text b) e = cc
embed_ends ds h fs q p _ e = refl

first_ends : (t : TokenKind) (ms : List Mark) → ends t ≡ true → EndsFirst (Just t ∷ ms)
first_ends t ms e = record { first = λ ts h. (placed h.3.0 t, h.1, h.2 ∙ ap (λ (z : List Token). z ++ h.1) h.3.1, e) }

more_ends : (c : TokenKind) (ms : List (List Mark)) (rest : List Mark) → ends c ≡ true → EndsFirst (more ms ++ Just c ∷ rest)
more_ends c [] rest e = record {
  first = λ ts h. elim h.3 [
    | inl o ↦ (placed o.0 tok.Comma, h.1, h.2 ∙ ap (λ (z : List Token). z ++ h.1) o.1, refl)
    | inr n ↦ let r : (t : Token) × (us : List Token) × (h.1 ≡ t ∷ us) × (ends t.kind ≡ true) = (first_ends c rest e).first h.1 h.4 in
        (r.0, r.1, h.2 ∙ ap (λ (z : List Token). z ++ h.1) n ∙ r.2, r.3)
  ];
}
more_ends c (m ∷ ms) rest e = record { first = λ ts h. (first_ends tok.Comma ((m ++ more ms) ++ Just c ∷ rest) refl).first ts h }

module _ (most : ℕ) where
  -- ---- the machine takes marks

  -- From s the tokens of these marks lead to n, whatever follows.
  pub record Takes (s : State) (ms : List Mark) (n : State) : Type 0 where
    pub takes : (ts rest : List Token) → Matches ms ts → run (step most) s (ts ++ rest) ≡ run (step most) n rest

  takes_none : (s : State) → Takes s [] s
  takes_none s = record { takes = λ ts rest h. ap (λ (z : List Token). run (step most) s (z ++ rest)) h }

  takes_just : (s n m : State) (t : TokenKind) (ms : List Mark) → ((p : ℕ) → step most s (placed p t) ≡ Ok n) → Takes n ms m → Takes s (Just t ∷ ms) m
  takes_just s n m t ms e k = record {
    takes = λ ts rest h.
        ap (λ (z : List Token). run (step most) s (z ++ rest)) (h.2 ∙ ap (λ (z : List Token). z ++ h.1) h.3.1) ∙ run_step (step most) s n (placed h.3.0 t) (h.1 ++ rest) (e h.3.0) ∙ k.takes h.1 rest h.4;
  }

  takes_at : (s n m : State) (p : ℕ) (t : TokenKind) (ms : List Mark) → step most s (placed p t) ≡ Ok n → Takes n ms m → Takes s (Fixed p t ∷ ms) m
  takes_at s n m p t ms e k = record {
    takes = λ ts rest h.
        ap (λ (z : List Token). run (step most) s (z ++ rest)) (h.2 ∙ ap (λ (z : List Token). z ++ h.1) h.3) ∙ run_step (step most) s n (placed p t) (h.1 ++ rest) e ∙ k.takes h.1 rest h.4;
  }

  takes_may : (s m : State) (ms : List Mark) → Takes s (Just tok.Comma ∷ ms) m → Takes s ms m → Takes s (MayComma ∷ ms) m
  takes_may s m ms j k = record {
    takes = λ ts rest h. elim h.3 [
      | inl o ↦ j.takes ts rest (h.0, h.1, h.2, o, h.4)
      | inr e ↦ ap (λ (z : List Token). run (step most) s (z ++ rest)) (h.2 ∙ ap (λ (z : List Token). z ++ h.1) e) ∙ k.takes h.1 rest h.4
    ];
  }

  Takes-same : (s n : State) (a b : List Mark) → a ≡ b → Takes s b n → Takes s a n
  Takes-same s n a b e h = subst (λ (z : List Mark). Takes s z n) (sym e) h

  -- ---- values

  -- s is a state in which a value may begin, over these frames
  record Opens (s : State) (ds : List Decl) (h : Head) (fs : List Frame) : Type 0 where
    opens : (p : ℕ) (t : TokenKind) → begins t ≡ true → step most s (placed p t) ≡ begin most ds h fs p t

  record Reads (v : Value) : Type 0 where
    reads : (ds : List Decl) (h : Head) (fs : List Frame) (s m : State) (ms : List Mark) → Opens s ds h fs → length fs + depth v ≤ most → EndsFirst ms
        → Takes (inside ds h fs (spot.Done v)) ms m → Takes s (of_value v ++ ms) m

  record ReadsField (f : Field) : Type 0 where
    name_ : Placed
    value_ : Value
    is : f ≡ field name_ value_
    reads : Reads value_

  takes_embed : (ds : List Decl) (h : Head) (fs : List Frame) (q : ℕ) (m : State) (ms : List Mark) → EndsFirst ms → Takes (inside ds h fs (spot.Done (value.Word (embed q)))) ms m → Takes (inside ds h fs (spot.Embed q)) ms m
  takes_embed ds h fs q m ms f k = record {
    takes = λ ts rest g.
        let e : (t : Token) × (us : List Token) × (ts ≡ t ∷ us) × (ends t.kind ≡ true) = f.first ts g in
        let a = inside ds h fs (spot.Embed q) in
        let b = inside ds h fs (spot.Done (value.Word (embed q))) in
        ap (λ (z : List Token). run (step most) a (z ++ rest)) e.2
        ∙ run_alike (step most) a b e.0 (e.1 ++ rest) (embed_ends ds h fs q e.0.place e.0.kind e.3)
        ∙ ap (λ (z : List Token). run (step most) b (z ++ rest)) (sym e.2)
        ∙ k.takes ts rest g;
  }

  takes_word : (ds : List Decl) (h : Head) (fs : List Frame) (s m : State) (ms : List Mark) (p : ℕ) (b : List ℕ) (r : Bool) → step most s (placed p (tok.Name b)) ≡ on_word ds h fs p b r → (r ≡ true → b ≡ codes "embed") → EndsFirst ms
      → Takes (inside ds h fs (spot.Done (value.Word (word p b)))) ms m → Takes s (name (word p b) ∷ ms) m
  takes_word ds h fs s m ms p b true o e f k = takes_at s (inside ds h fs (spot.Embed p)) m p (tok.Name b) ms o (takes_embed ds h fs p m ms f (subst (λ (z : List ℕ). Takes (inside ds h fs (spot.Done (value.Word (word p z)))) ms m) (e refl) k))
  takes_word ds h fs s m ms p b false o e f k = takes_at s (inside ds h fs (spot.Done (value.Word (word p b)))) m p (tok.Name b) ms o k

  reads_text : (w : Placed) → Reads (value.Text w)
  reads_text w = record { reads = λ ds h fs s m ms o r f k. Takes-same s m _ (text w ∷ ms) (ap (λ (z : List Mark). z ++ ms) (of_text w)) (takes_at s (inside ds h fs (spot.Done (value.Text w))) m w.place (tok.Text w.bytes) ms (o.opens w.place (tok.Text w.bytes) refl) k) }

  reads_data : (w : Placed) → Reads (value.Data w)
  reads_data w = record { reads = λ ds h fs s m ms o r f k. Takes-same s m _ (Fixed w.place (tok.Data w.bytes) ∷ ms) (ap (λ (z : List Mark). z ++ ms) (of_data w)) (takes_at s (inside ds h fs (spot.Done (value.Data w))) m w.place (tok.Data w.bytes) ms (o.opens w.place (tok.Data w.bytes) refl) k) }

  reads_number : (w : Placed) → Reads (value.Number w)
  reads_number w = record { reads = λ ds h fs s m ms o r f k. Takes-same s m _ (Fixed w.place (tok.Number w.bytes) ∷ ms) (ap (λ (z : List Mark). z ++ ms) (of_number w)) (takes_at s (inside ds h fs (spot.Done (value.Number w))) m w.place (tok.Number w.bytes) ms (o.opens w.place (tok.Number w.bytes) refl) k) }

  reads_word : (w : Placed) → Reads (value.Word w)
  reads_word w = record { reads = λ ds h fs s m ms o r f k. Takes-same s m _ (name w ∷ ms) (ap (λ (z : List Mark). z ++ ms) (of_word w)) (takes_word ds h fs s m ms w.place w.bytes (bytes_eq w.bytes (codes "embed")) (o.opens w.place (tok.Name w.bytes) refl) (bytes_eq-Decides w.bytes (codes "embed")).0 f k) }

  reads_constant : (p : ℕ) (w : Placed) → Reads (value.Constant p w)
  reads_constant p w = record {
    reads = λ ds h fs s m ms o r f k. Takes-same s m _ (Fixed p tok.Dot ∷ name w ∷ ms) (ap (λ (z : List Mark). z ++ ms) (of_constant p w))
        (takes_at s (inside ds h fs (spot.Dot p)) m p tok.Dot (name w ∷ ms) (o.opens p tok.Dot refl) (takes_at (inside ds h fs (spot.Dot p)) (inside ds h fs (spot.Done (value.Constant p w))) m w.place (tok.Name w.bytes) ms refl k));
  }

  reads_embed : (p : ℕ) (w : Placed) → Reads (value.Embed p w)
  reads_embed p w = record {
    reads = λ ds h fs s m ms o r f k. Takes-same s m _ (name (embed p) ∷ text w ∷ ms) (ap (λ (z : List Mark). z ++ ms) (of_embed p w))
        (takes_at s (inside ds h fs (spot.Embed p)) m p (tok.Name (codes "embed")) (text w ∷ ms) (o.opens p (tok.Name (codes "embed")) refl) (takes_at (inside ds h fs (spot.Embed p)) (inside ds h fs (spot.Done (value.Embed p w))) m w.place (tok.Text w.bytes) ms refl k));
  }

  -- ---- lists

  abbrev Each : Type 0
  Each = (v : Value) × Reads v

  abbrev values : List Each → List Value
  values ys = map (λ e. e.0) ys

  abbrev EachField : Type 0
  EachField = (f : Field) × ReadsField f

  abbrev fields : List EachField → List Field
  fields ys = map (λ e. e.0) ys

  opens_item : (ds : List Decl) (h : Head) (fs : List Frame) (q : ℕ) (vs : List Value) → Opens (inside ds h fs (spot.Item q vs)) ds h (frame.List q vs ∷ fs)
  opens_item ds h fs q vs = record { opens = by_token }
    where
      by_token : (p : ℕ) (t : TokenKind) → begins t ≡ true → on_item most ds h fs q vs p t ≡ begin most ds h (frame.List q vs ∷ fs) p t
      by_token p tok.CloseBracket e = cc
      by_token p t e = refl

  opens_begin : (ds : List Decl) (h : Head) (fs : List Frame) → Opens (inside ds h fs spot.Begin) ds h fs
  opens_begin ds h fs = record { opens = λ p t e. refl }

  close_list : (ds : List Decl) (h : Head) (fs : List Frame) (q : ℕ) (vs : List Value) (m : State) (ms : List Mark) → Takes (inside ds h fs (spot.Done (value.List q vs))) ms m → Takes (inside ds h fs (spot.Item q vs)) (Just tok.CloseBracket ∷ ms) m
  close_list ds h fs q vs m ms k = takes_just _ (inside ds h fs (spot.Done (value.List q vs))) m tok.CloseBracket ms (λ p. refl) k

  takes_more : (ys : List Each) (ds : List Decl) (h : Head) (fs : List Frame) (q : ℕ) (vs : List Value) (v : Value) (m : State) (ms : List Mark) → length fs + (1 + deepest (map depth (values ys))) ≤ most
      → Takes (inside ds h fs (spot.Done (value.List q ((vs ++ v ∷ []) ++ values ys)))) ms m → Takes (inside ds h (frame.List q vs ∷ fs) (spot.Done v)) (more (map of_value (values ys)) ++ Just tok.CloseBracket ∷ ms) m
  takes_more [] ds h fs q vs v m ms r k =
      let done = inside ds h fs (spot.Done (value.List q (vs ++ v ∷ []))) in
      let k2 : Takes done ms m = subst (λ (z : List Value). Takes (inside ds h fs (spot.Done (value.List q z))) ms m) (append-nil (vs ++ v ∷ [])) k in
      takes_may _ m _ (takes_just _ (inside ds h fs (spot.Item q (vs ++ v ∷ []))) m tok.Comma _ (λ p. refl) (close_list ds h fs q (vs ++ v ∷ []) m ms k2)) (takes_just _ done m tok.CloseBracket ms (λ p. refl) k2)
  takes_more (y ∷ ys) ds h fs q vs v m ms r k =
      let next = vs ++ v ∷ [] in
      let tail = more (map of_value (values ys)) ++ Just tok.CloseBracket ∷ ms in
      takes_just _ (inside ds h fs (spot.Item q next)) m tok.Comma _ (λ p. refl)
      (Takes-same (inside ds h fs (spot.Item q next)) m _ (of_value y.0 ++ tail) (append_assoc (of_value y.0) (more (map of_value (values ys))) (Just tok.CloseBracket ∷ ms))
      (y.1.reads ds h (frame.List q next ∷ fs) (inside ds h fs (spot.Item q next)) m tail (opens_item ds h fs q next) (omega arith) (more_ends tok.CloseBracket (map of_value (values ys)) ms refl)
      (takes_more ys ds h fs q next y.0 m ms (omega arith) (subst (λ (z : List Value). Takes (inside ds h fs (spot.Done (value.List q z))) ms m) (sym (append_assoc next (y.0 ∷ []) (values ys))) k))))

  takes_listed : (ys : List Each) (ds : List Decl) (h : Head) (fs : List Frame) (q : ℕ) (m : State) (ms : List Mark) → length fs + (1 + deepest (map depth (values ys))) ≤ most
      → Takes (inside ds h fs (spot.Done (value.List q (values ys)))) ms m → Takes (inside ds h fs (spot.Item q [])) (listed (map of_value (values ys)) ++ Just tok.CloseBracket ∷ ms) m
  takes_listed [] ds h fs q m ms r k = close_list ds h fs q [] m ms k
  takes_listed (y ∷ ys) ds h fs q m ms r k =
      let tail = more (map of_value (values ys)) ++ Just tok.CloseBracket ∷ ms in
      Takes-same (inside ds h fs (spot.Item q [])) m _ (of_value y.0 ++ tail) (append_assoc (of_value y.0) (more (map of_value (values ys))) (Just tok.CloseBracket ∷ ms))
      (y.1.reads ds h (frame.List q [] ∷ fs) (inside ds h fs (spot.Item q [])) m tail (opens_item ds h fs q []) (omega arith) (more_ends tok.CloseBracket (map of_value (values ys)) ms refl)
      (takes_more ys ds h fs q [] y.0 m ms (omega arith) k))

  -- ---- fields

  takes_field : (f : Field) (r : ReadsField f) (ds : List Decl) (h : Head) (fs : List Frame) (p : ℕ) (xs : List Field) (m : State) (tail : List Mark) → length fs + (1 + field_depth f) ≤ most → EndsFirst tail
      → Takes (inside ds h (frame.Struct p xs r.name_ ∷ fs) (spot.Done r.value_)) tail m → Takes (inside ds h fs (spot.Name p xs)) (of_field f ++ tail) m
  takes_field f r ds h fs p xs m tail d e k =
      let same : field_depth f ≡ depth r.value_ = ap field_depth r.is ∙ depth_field r.name_ r.value_ in
      Takes-same _ m _ (name r.name_ ∷ Just tok.Equals ∷ (of_value r.value_ ++ tail)) (ap (λ (z : List Mark). z ++ tail) (ap of_field r.is ∙ of_a_field r.name_ r.value_))
      (takes_at _ (inside ds h fs (spot.Equals p xs r.name_)) m r.name_.place (tok.Name r.name_.bytes) _ refl
      (takes_just _ (inside ds h (frame.Struct p xs r.name_ ∷ fs) spot.Begin) m tok.Equals _ (λ q. refl)
      (r.reads.reads ds h (frame.Struct p xs r.name_ ∷ fs) _ m tail (opens_begin ds h (frame.Struct p xs r.name_ ∷ fs)) (omega arith) e k)))

  close_struct : (ds : List Decl) (h : Head) (fs : List Frame) (p : ℕ) (xs : List Field) (m : State) (ms : List Mark) → Takes (inside ds h fs (spot.Done (value.Struct p xs))) ms m → Takes (inside ds h fs (spot.Name p xs)) (Just tok.CloseParen ∷ ms) m
  close_struct ds h fs p xs m ms k = takes_just _ (inside ds h fs (spot.Done (value.Struct p xs))) m tok.CloseParen ms (λ q. refl) k

  takes_more_fields : (ys : List EachField) (ds : List Decl) (h : Head) (fs : List Frame) (p : ℕ) (xs : List Field) (f : Field) (r : ReadsField f) (m : State) (ms : List Mark) → length fs + (1 + deepest (map field_depth (fields ys))) ≤ most
      → Takes (inside ds h fs (spot.Done (value.Struct p ((xs ++ f ∷ []) ++ fields ys)))) ms m → Takes (inside ds h (frame.Struct p xs r.name_ ∷ fs) (spot.Done r.value_)) (more (map of_field (fields ys)) ++ Just tok.CloseParen ∷ ms) m
  takes_more_fields [] ds h fs p xs f r m ms d k =
      let now = xs ++ field r.name_ r.value_ ∷ [] in
      let done = inside ds h fs (spot.Done (value.Struct p now)) in
      let k2 : Takes done ms m = subst (λ (z : List Field). Takes (inside ds h fs (spot.Done (value.Struct p z))) ms m) (append-nil (xs ++ f ∷ []) ∙ ap (λ (z : Field). xs ++ z ∷ []) r.is) k in
      takes_may _ m _ (takes_just _ (inside ds h fs (spot.Name p now)) m tok.Comma _ (λ q. refl) (close_struct ds h fs p now m ms k2)) (takes_just _ done m tok.CloseParen ms (λ q. refl) k2)
  takes_more_fields (y ∷ ys) ds h fs p xs f r m ms d k =
      let next = xs ++ field r.name_ r.value_ ∷ [] in
      let tail = more (map of_field (fields ys)) ++ Just tok.CloseParen ∷ ms in
      let k2 : Takes (inside ds h fs (spot.Done (value.Struct p (next ++ y.0 ∷ fields ys)))) ms m = subst (λ (z : Field). Takes (inside ds h fs (spot.Done (value.Struct p ((xs ++ z ∷ []) ++ y.0 ∷ fields ys)))) ms m) r.is k in
      takes_just _ (inside ds h fs (spot.Name p next)) m tok.Comma _ (λ q. refl)
      (Takes-same (inside ds h fs (spot.Name p next)) m _ (of_field y.0 ++ tail) (append_assoc (of_field y.0) (more (map of_field (fields ys))) (Just tok.CloseParen ∷ ms))
      (takes_field y.0 y.1 ds h fs p next m tail (omega arith) (more_ends tok.CloseParen (map of_field (fields ys)) ms refl)
      (takes_more_fields ys ds h fs p next y.0 y.1 m ms (omega arith) (subst (λ (z : List Field). Takes (inside ds h fs (spot.Done (value.Struct p z))) ms m) (sym (append_assoc next (y.0 ∷ []) (fields ys))) k2))))

  takes_listed_fields : (ys : List EachField) (ds : List Decl) (h : Head) (fs : List Frame) (p : ℕ) (m : State) (ms : List Mark) → length fs + (1 + deepest (map field_depth (fields ys))) ≤ most
      → Takes (inside ds h fs (spot.Done (value.Struct p (fields ys)))) ms m → Takes (inside ds h fs (spot.Name p [])) (listed (map of_field (fields ys)) ++ Just tok.CloseParen ∷ ms) m
  takes_listed_fields [] ds h fs p m ms d k = close_struct ds h fs p [] m ms k
  takes_listed_fields (y ∷ ys) ds h fs p m ms d k =
      let tail = more (map of_field (fields ys)) ++ Just tok.CloseParen ∷ ms in
      Takes-same (inside ds h fs (spot.Name p [])) m _ (of_field y.0 ++ tail) (append_assoc (of_field y.0) (more (map of_field (fields ys))) (Just tok.CloseParen ∷ ms))
      (takes_field y.0 y.1 ds h fs p [] m tail (omega arith) (more_ends tok.CloseParen (map of_field (fields ys)) ms refl)
      (takes_more_fields ys ds h fs p [] y.0 y.1 m ms (omega arith) k))

  -- ---- every value

  room : (fs : List Frame) (o : Step) → length fs < most → if_room most fs o ≡ o
  room fs o l = ap (λ (b : Bool). cond b o (Err refusal.TooDeep)) (lt-ltb (length fs) most l)

  reads_list : (q : ℕ) (ys : List Each) → Reads (value.List q (values ys))
  reads_list q ys = record {
    reads = λ ds h fs s m ms o r f k.
        let d = depth_list q (values ys) in
        Takes-same s m _ (Fixed q tok.OpenBracket ∷ (listed (map of_value (values ys)) ++ Just tok.CloseBracket ∷ ms))
        (ap (λ (z : List Mark). z ++ ms) (of_list q (values ys)) ∙ ap (λ (z : List Mark). Fixed q tok.OpenBracket ∷ z) (append_assoc (listed (map of_value (values ys))) (Just tok.CloseBracket ∷ []) ms))
        (takes_at s (inside ds h fs (spot.Item q [])) m q tok.OpenBracket _ (o.opens q tok.OpenBracket refl ∙ room fs (stay ds h fs (spot.Item q [])) (omega arith))
        (takes_listed ys ds h fs q m ms (omega arith) k));
  }

  reads_struct : (p : ℕ) (ys : List EachField) → Reads (value.Struct p (fields ys))
  reads_struct p ys = record {
    reads = λ ds h fs s m ms o r f k.
        let d = depth_struct p (fields ys) in
        Takes-same s m _ (Fixed p tok.OpenParen ∷ (listed (map of_field (fields ys)) ++ Just tok.CloseParen ∷ ms))
        (ap (λ (z : List Mark). z ++ ms) (of_struct p (fields ys)) ∙ ap (λ (z : List Mark). Fixed p tok.OpenParen ∷ z) (append_assoc (listed (map of_field (fields ys))) (Just tok.CloseParen ∷ []) ms))
        (takes_at s (inside ds h fs (spot.Name p [])) m p tok.OpenParen _ (o.opens p tok.OpenParen refl ∙ room fs (stay ds h fs (spot.Name p [])) (omega arith))
        (takes_listed_fields ys ds h fs p m ms (omega arith) k));
  }

  value_case : (y : Value-F Each EachField) → Reads (roll-Value (map-Value Each EachField Value Field (λ e. e.0) (λ e. e.0) y))
  value_case (Value-F.Text w) = subst Reads (sym (value.rolls-Text w)) (reads_text w)
  value_case (Value-F.Data w) = subst Reads (sym (value.rolls-Data w)) (reads_data w)
  value_case (Value-F.Number w) = subst Reads (sym (value.rolls-Number w)) (reads_number w)
  value_case (Value-F.Word w) = subst Reads (sym (value.rolls-Word w)) (reads_word w)
  value_case (Value-F.Constant p w) = subst Reads (sym (value.rolls-Constant p w)) (reads_constant p w)
  value_case (Value-F.Embed p w) = subst Reads (sym (value.rolls-Embed p w)) (reads_embed p w)
  value_case (Value-F.Struct p ys) = subst Reads (sym (value.rolls-Struct p (fields ys))) (reads_struct p ys)
  value_case (Value-F.List q ys) = subst Reads (sym (value.rolls-List q (values ys))) (reads_list q ys)

  field_case : (y : Field-F Each EachField) → ReadsField (roll-Field (map-Field Each EachField Value Field (λ e. e.0) (λ e. e.0) y))
  field_case y = record { name_ = y.name; value_ = y.value.0; is = refl; reads = y.value.1 }

  all_read : (v : Value) → Reads v
  all_read = ind-Value Reads ReadsField (λ x y is. subst (λ (z : Value-F Value Field). Reads (roll-Value z)) is (value_case y)) (λ x y is. subst (λ (z : Field-F Value Field). ReadsField (roll-Field z)) is (field_case y))

  -- ---- files

  abbrev head : Placed → List Placed → Head
  head n parts = record { name = n; type_ = parts }

  takes_typed : (ws : List Placed) (ds : List Decl) (n : Placed) (parts : List Placed) (w : Placed) (m : State) (ms : List Mark) → Takes (inside ds (head n (parts ++ w ∷ ws)) [] spot.Begin) ms m
      → Takes (state_at ds (at.Typed (head n parts) w)) (dotted ws ++ Just tok.Equals ∷ ms) m
  takes_typed [] ds n parts w m ms k = takes_just _ (inside ds (head n (parts ++ w ∷ [])) [] spot.Begin) m tok.Equals ms (λ q. refl) k
  takes_typed (v ∷ ws) ds n parts w m ms k =
      takes_just _ (state_at ds (at.Type (head n (parts ++ w ∷ [])))) m tok.Dot _ (λ q. refl)
      (takes_at _ (state_at ds (at.Typed (head n (parts ++ w ∷ [])) v)) m v.place (tok.Name v.bytes) _ refl
      (takes_typed ws ds n (parts ++ w ∷ []) v m ms (subst (λ (z : List Placed). Takes (inside ds (head n z) [] spot.Begin) ms m) (sym (append_assoc parts (w ∷ []) (v ∷ ws))) k)))

  takes_decl : (d : Decl) (ds : List Decl) (m : State) (ms : List Mark) → Fits most d → Takes (between (ds ++ d ∷ [])) ms m → Takes (between ds) (of_decl d ++ ms) m
  takes_decl (decl.Using n w) ds m ms f k =
      takes_just _ (state_at ds at.UsingName) m _ _ (λ q. refl)
      (takes_at _ (state_at ds (at.UsingEquals n)) m n.place (tok.Name n.bytes) _ refl
      (takes_just _ (state_at ds (at.UsingImport n)) m _ _ (λ q. refl)
      (takes_just _ (state_at ds (at.UsingPath n)) m _ _ (λ q. refl)
      (takes_at _ (state_at ds (at.UsingEnd n w)) m w.place (tok.Text w.bytes) _ refl
      (takes_just _ (between (ds ++ decl.Using n w ∷ [])) m _ _ (λ q. refl) k)))))
  takes_decl (decl.Id w) ds m ms f k =
      takes_just _ (state_at ds at.Id) m _ _ (λ q. refl)
      (takes_at _ (state_at ds (at.IdEnd w)) m w.place (tok.Hex w.bytes) _ refl
      (takes_just _ (between (ds ++ decl.Id w ∷ [])) m _ _ (λ q. refl) k))
  takes_decl (decl.Const n [] v) ds m ms f k = absurd f.0
  takes_decl (decl.Const n (w ∷ ws) v) ds m ms f k =
      let end = Just tok.Semicolon ∷ ms in
      let regrouped : (dotted ws ++ Just tok.Equals ∷ (of_value v ++ Just tok.Semicolon ∷ [])) ++ ms ≡ dotted ws ++ Just tok.Equals ∷ (of_value v ++ end) = simp append_assoc in
      takes_just _ (state_at ds at.ConstName) m _ _ (λ q. refl)
      (takes_at _ (state_at ds (at.ConstColon n)) m n.place (tok.Name n.bytes) _ refl
      (takes_just _ (state_at ds (at.Type (head n []))) m _ _ (λ q. refl)
      (takes_at _ (state_at ds (at.Typed (head n []) w)) m w.place (tok.Name w.bytes) _ refl
      (Takes-same _ m _ (dotted ws ++ Just tok.Equals ∷ (of_value v ++ end)) regrouped
      (takes_typed ws ds n [] w m (of_value v ++ end)
      ((all_read v).reads ds (head n (w ∷ ws)) [] _ m end (opens_begin ds (head n (w ∷ ws)) []) (omega (arith, f.1)) (first_ends tok.Semicolon ms refl)
      (takes_just _ (between (ds ++ decl.Const n (w ∷ ws) v ∷ [])) m _ _ (λ q. refl) k)))))))

  takes_file : (xs ds : List Decl) → AllFit most xs → Takes (between ds) (of_file xs) (between (ds ++ xs))
  takes_file [] ds f = subst (λ (z : List Decl). Takes (between ds) [] (between z)) (sym (append-nil ds)) (takes_none (between ds))
  takes_file (x ∷ xs) ds f =
      Takes-same (between ds) _ _ (of_decl x ++ of_file xs) (flat_map-cons of_decl x xs)
      (takes_decl x ds _ (of_file xs) f.0 (subst (λ (z : List Decl). Takes (between (ds ++ x ∷ [])) (of_file xs) (between z)) (append_assoc ds (x ∷ []) xs) (takes_file xs (ds ++ x ∷ []) f.1)))

  -- What is in the grammar is read.
  pub complete : (xs : List Decl) (ts : List Token) → IsFile most xs ts → read most ts ≡ Ok (between xs)
  complete xs ts f = ap (read most) (sym (append-nil ts)) ∙ (takes_file xs [] f.fits).takes ts [] f.tokens
