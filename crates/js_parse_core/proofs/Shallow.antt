-- The machine with the limit over the pieces of a script, and over its tokens.
use Rattle.std.proofs.Common.{◌≡◌, ℕ, ◌≤◌, Bool, true, false, List, [], ◌∷◌, ◌++◌, ◌⊎◌, length, take as take_first, Ok, Err, refl, sym, ap, ◌∙◌, subst, inl, inr, arith}
use Rattle.std.proofs.lemmas.Bool.{false≢true}
use Rattle.js_lex.specs.declared.token.Token.{Token}
use Rattle.js_tree.specs.declared.tree.Item.{Item}
use Rattle.js_tree.specs.declared.tree.Name.{Name}
use Rattle.js_grammar.specs.Marks.{Piece, Read, Ended, Seen}
use Rattle.js_grammar.specs.Script.{pieces, Puts, constructs, most_open}
use Rattle.js_parse_core.specs.declared.machine.At.{At}
use Rattle.js_parse_core.specs.declared.machine.At.TheVariants as at
use Rattle.js_parse_core.specs.declared.machine.Frame.TheVariants as frame
use Rattle.js_parse_core.specs.declared.machine.Outer.{Outer}
use Rattle.js_parse_core.specs.declared.machine.Refusal.{Refusal}
use Rattle.js_parse_core.specs.declared.machine.State.{State}
use Rattle.js_parse_core.specs.declared.machine.Tail.TheVariants as tail
use Rattle.js_parse_core.specs.Begin.{begin}
use Rattle.js_parse_core.specs.Expressions.{arrow_value}
use Rattle.js_parse_core.specs.Machine.{step, start, is_shallow, if_shallow}
use Rattle.js_parse_core.specs.Outer.{Step, push}
use Rattle.js_parse_core.proofs.Answers.{bounded, bounded_step}
use Rattle.js_parse_core.proofs.EndSteps.{ends_between}
use Rattle.js_parse_core.proofs.Ends.{AreRead, Onward, onward, Program, Whole, run_one, run_two, step_taken, step_ended, taken_is_read, ends_true, refused_at}
use Rattle.js_parse_core.proofs.Limits.{is_full_at, is_full, limited_ok, limited_room, limited_shallow, unlimited_ok}
use Rattle.js_parse_core.proofs.Pieces.{no_limit, end_token, is_between, take, taken, run, finish}

low : most_open ≤ no_limit
low = omega arith

ok_same : (m n : State) → (let r : Step = Ok m in r) ≡ Ok n → m ≡ n
ok_same m n h = cc

-- ---- room for a token: the body of an arrow is no construct too many

abbrev pub HasRoom : State → Token → Type 0
HasRoom s t = is_full most_open s t ≡ false

abbrev pub is_body : At → Bool
is_body (at.ArrowBody a ns) = true
is_body _ = false

room_at : (o : Outer) (a : At) (t : Token) → is_body a ≡ false → is_full_at most_open o a t ≡ false
room_at o (at.ArrowBody a ns) t h = absurd (false≢true (sym h))
room_at o _ t h = refl

pub other_room : (s : State) (t : Token) → is_body s.at ≡ false → HasRoom s t
other_room s t h = room_at s.outer s.at t h

pub between_other : (a : At) → is_between a ≡ true → is_body a ≡ false
between_other (at.ArrowBody a ns) h = absurd (false≢true h)
between_other _ h = refl

pub between_room : (s : State) (t : Token) → is_between s.at ≡ true → HasRoom s t
between_room s t h = other_room s t (between_other s.at h)

body_refused : (o : Outer) (b : Bool) (ns : List Name) (m : State) (c : Bool) → if_shallow no_limit (arrow_value c (begin (push o 1 (frame.Tail (tail.Arrow b ns))) end_token)) ≡ Ok m → ⊥
body_refused o b ns m true h = cc
body_refused o b ns m false h = cc

pub ended_at : (o : Outer) (a : At) (m : State) → take (record { outer = o; at = a }) Ended ≡ Ok m → is_body a ≡ false
ended_at o (at.ArrowBody b ns) m h = absurd (body_refused o b ns m _ h)
ended_at o _ m h = refl

-- where an end stands
pub ended_room : (s m : State) (t : Token) → take s Ended ≡ Ok m → HasRoom s t
ended_room s m t h = other_room s t (ended_at s.outer s.at m h)

-- ---- pieces

abbrev pub Room : State → List Piece → Type 0
Room s [] = Unit {0}
Room s (Read t ∷ ps) = HasRoom s t
Room s (Ended ∷ ps) = Unit {0}

-- the pieces are taken, each token with room for it and no more constructs open behind it than may be; and there is room for what stands behind
abbrev pub Shallow : State → List Piece → List Piece → Type 0
Shallow s [] behind = Room s behind
Shallow s (Read t ∷ ps) behind = (n : State) × (take s (Read t) ≡ Ok n) × HasRoom s t × (is_shallow most_open n ≡ true) × Shallow n ps behind
Shallow s (Ended ∷ ps) behind = (n : State) × (take s Ended ≡ Ok n) × Shallow n ps behind

-- ---- a list of pieces, cut behind a token

abbrev pub IsTail : List Piece → Type 0
IsTail ps = (ps ≡ []) ⊎ (ps ≡ Ended ∷ [])

-- the tokens begin so, perhaps with an end before
abbrev pub Follows : List Token → List Piece → Type 0
Follows [] ps = IsTail ps
Follows (t ∷ ts) ps = ((rest : List Piece) × (ps ≡ Read t ∷ rest)) ⊎ ((rest : List Piece) × (ps ≡ Ended ∷ rest))

pub record Cut (before : List Piece) (us vs : List Token) (ss : List Seen) : Type 0 where
  pub front : List Seen
  pub back : List Seen
  pub parts : ss ≡ front ++ back
  pub puts : Puts before us (pieces front)
  pub next : Follows vs (pieces back)
  pub counts : take_first (length us) (constructs ss) ≡ constructs front

first_same : (p q : Piece) (x y : List Piece) → p ∷ x ≡ q ∷ y → p ≡ q
first_same p q x y e = cc

rest_same : (p q : Piece) (x y : List Piece) → p ∷ x ≡ q ∷ y → x ≡ y
rest_same p q x y e = cc

none_first : (q : Piece) (x : List Piece) → (let ps : List Piece = [] in ps) ≡ q ∷ x → ⊥
none_first q x e = cc

pub read_counts : (s : Seen) (t : Token) (ss : List Seen) → s.piece ≡ Read t → constructs (s ∷ ss) ≡ s.constructs ∷ constructs ss
read_counts s t ss e = ap (λ (q : Piece). let x : Seen = record { piece = q; constructs = s.constructs } in constructs (x ∷ ss)) e

pub ended_counts : (s : Seen) (ss : List Seen) → s.piece ≡ Ended → constructs (s ∷ ss) ≡ constructs ss
ended_counts s ss e = ap (λ (q : Piece). let x : Seen = record { piece = q; constructs = s.constructs } in constructs (x ∷ ss)) e

follows : (vs : List Token) (before qs more ps : List Piece) → ps ≡ qs ++ more → IsTail more → Puts before vs qs → Follows vs ps
follows [] before qs more ps e (inl i) h = inl (e ∙ ap (λ (z : List Piece). z ++ more) h ∙ i)
follows [] before qs more ps e (inr i) h = inr (e ∙ ap (λ (z : List Piece). z ++ more) h ∙ i)
follows (t ∷ vs) before qs more ps e i (inl h) = inl (h.0 ++ more, e ∙ ap (λ (z : List Piece). z ++ more) h.1)
follows (t ∷ vs) before qs more ps e i (inr h) = inr (Read t ∷ (h.0 ++ more), e ∙ ap (λ (z : List Piece). z ++ more) h.1)

pub cut : (us vs : List Token) (before : List Piece) (ss : List Seen) (qs more : List Piece) → pieces ss ≡ qs ++ more → IsTail more → Puts before (us ++ vs) qs → Cut before us vs ss
cut [] vs before ss qs more e i h = record { front = []; back = ss; parts = refl; puts = refl; next = follows vs before qs more (pieces ss) e i h; counts = refl }
cut (t ∷ us) vs before [] qs more e i (inl h) = absurd (none_first (Read t) (h.0 ++ more) (e ∙ ap (λ (z : List Piece). z ++ more) h.1))
cut (t ∷ us) vs before [] qs more e i (inr h) = absurd (none_first Ended (Read t ∷ (h.0 ++ more)) (e ∙ ap (λ (z : List Piece). z ++ more) h.1))
cut (t ∷ us) vs before (s ∷ ss) qs more e i (inl h) =
    let f : s.piece ∷ pieces ss ≡ Read t ∷ (h.0 ++ more) = e ∙ ap (λ (z : List Piece). z ++ more) h.1 in
    let a : s.piece ≡ Read t = first_same s.piece (Read t) (pieces ss) (h.0 ++ more) f in
    let c : Cut (before ++ Read t ∷ []) us vs ss = cut us vs (before ++ Read t ∷ []) ss h.0 more (rest_same s.piece (Read t) (pieces ss) (h.0 ++ more) f) i h.2 in
    record {
      front = s ∷ c.front;
      back = c.back;
      parts = ap (λ (z : List Seen). s ∷ z) c.parts;
      puts = inl (pieces c.front, ap (λ (q : Piece). q ∷ pieces c.front) a, c.puts);
      next = c.next;
      counts = ap (take_first (length (t ∷ us))) (read_counts s t ss a) ∙ ap (λ (z : List ℕ). s.constructs ∷ z) c.counts ∙ sym (read_counts s t c.front a);
    }
cut (t ∷ us) vs before (s ∷ []) qs more e i (inr h) =
    absurd (none_first (Read t) (h.0 ++ more) (rest_same s.piece Ended [] (Read t ∷ (h.0 ++ more)) (e ∙ ap (λ (z : List Piece). z ++ more) h.1)))
cut (t ∷ us) vs before (s ∷ r ∷ ss) qs more e i (inr h) =
    let f : s.piece ∷ r.piece ∷ pieces ss ≡ Ended ∷ Read t ∷ (h.0 ++ more) = e ∙ ap (λ (z : List Piece). z ++ more) h.1 in
    let a : s.piece ≡ Ended = first_same s.piece Ended (r.piece ∷ pieces ss) (Read t ∷ (h.0 ++ more)) f in
    let g : r.piece ∷ pieces ss ≡ Read t ∷ (h.0 ++ more) = rest_same s.piece Ended (r.piece ∷ pieces ss) (Read t ∷ (h.0 ++ more)) f in
    let b : r.piece ≡ Read t = first_same r.piece (Read t) (pieces ss) (h.0 ++ more) g in
    let c : Cut (before ++ Ended ∷ Read t ∷ []) us vs ss = cut us vs (before ++ Ended ∷ Read t ∷ []) ss h.0 more (rest_same r.piece (Read t) (pieces ss) (h.0 ++ more) g) i h.3 in
    record {
      front = s ∷ r ∷ c.front;
      back = c.back;
      parts = ap (λ (z : List Seen). s ∷ r ∷ z) c.parts;
      puts = inr (pieces c.front, ap (λ (q : Piece). q ∷ r.piece ∷ pieces c.front) a ∙ ap (λ (q : Piece). Ended ∷ q ∷ pieces c.front) b, h.2, c.puts);
      next = c.next;
      counts = ap (take_first (length (t ∷ us))) (ended_counts s (r ∷ ss) a ∙ read_counts r t ss b) ∙ ap (λ (z : List ℕ). r.constructs ∷ z) c.counts ∙ sym (ended_counts s (r ∷ c.front) a ∙ read_counts r t c.front b);
    }

-- ---- pieces and tokens

pub record Passed (us : List Token) (s : State) (ps behind : List Piece) : Type 0 where
  pub state : State
  pub are : AreRead us
  pub took : run s ps ≡ Ok state
  pub ran : bounded s us ≡ Ok state
  pub room : Room state behind

module _ (sound : (ps : List Piece) (s n : State) → run start ps ≡ Ok s → finish s ≡ Ok n → Program ps n.outer.items) (complete : (ps : List Piece) (tree : List Item) → Program ps tree → Whole ps tree) where
  pub passes : (us : List Token) (before ps behind : List Piece) (s : State) → run start before ≡ Ok s → Puts before us ps → Shallow s ps behind → Passed us s ps behind
  passes [] before ps behind s h q r = record { state = s; are = tt; took = ap (run s) q; ran = refl; room = subst (λ (z : List Piece). Shallow s z behind) q r }
  passes (t ∷ us) before ps behind s h (inl q) r =
      let x : Shallow s (Read t ∷ q.0) behind = subst (λ (z : List Piece). Shallow s z behind) q.1 r in
      let y : Passed us x.0 q.0 behind = passes us (before ++ Read t ∷ []) q.0 behind x.0 (run_one before (Read t) start s x.0 h x.1) q.2 x.4 in
      record {
        state = y.state;
        are = (taken_is_read s x.0 t x.1, y.are);
        took = ap (run s) q.1 ∙ ap (λ (o : Step). taken o (λ n. run n q.0)) x.1 ∙ y.took;
        ran = bounded_step s x.0 t us (unlimited_ok most_open true s x.0 t low (step_taken s x.0 t x.1) x.2 x.3) ∙ y.ran;
        room = y.room;
      }
  passes (t ∷ us) before ps behind s h (inr q) r =
      let x : Shallow s (Ended ∷ Read t ∷ q.0) behind = subst (λ (z : List Piece). Shallow s z behind) q.1 r in
      let k : (k : Refusal) × (take s (Read t) ≡ Err k) = refused_at sound complete before t s x.0 h x.1 q.2 in
      let y : Passed us x.2.0 q.0 behind = passes us (before ++ Ended ∷ Read t ∷ []) q.0 behind x.2.0 (run_two before t start s x.0 x.2.0 h x.1 x.2.1) q.3 x.2.4 in
      record {
        state = y.state;
        are = (taken_is_read x.0 x.2.0 t x.2.1, y.are);
        took = ap (run s) q.1 ∙ ap (λ (o : Step). taken o (λ n. run n (Read t ∷ q.0))) x.1 ∙ ap (λ (o : Step). taken o (λ n. run n q.0)) x.2.1 ∙ y.took;
        ran = bounded_step s x.2.0 t us (unlimited_ok most_open true s x.2.0 t low (step_ended s x.0 x.2.0 t k.0 k.1 (ends_true before t q.2) x.1 x.2.1) (ended_room s x.0 t x.1) x.2.3) ∙ y.ran;
        room = y.room;
      }

  pub shallow_pieces : (us : List Token) (before ps behind : List Piece) (s n m : State) → run start before ≡ Ok s → Puts before us ps → run s ps ≡ Ok n → bounded s us ≡ Ok m → Room m behind → Shallow s ps behind
  shallow_pieces [] before ps behind s n m h q r b i = subst (λ (z : List Piece). Shallow s z behind) (sym q) (subst (λ (z : State). Room z behind) (sym (ok_same s m b)) i)
  shallow_pieces (t ∷ us) before ps behind s n m h (inl q) r b i =
      let x : Onward (take s (Read t)) (λ z. run z q.0) n = onward (take s (Read t)) (λ z. run z q.0) n (sym (ap (run s) q.1) ∙ r) in
      let y : Onward (step most_open true s t) (λ z. bounded z us) m = onward (step most_open true s t) (λ z. bounded z us) m b in
      let same : y.by ≡ x.by = ok_same y.by x.by (sym (limited_ok most_open true s y.by t low y.made) ∙ step_taken s x.by t x.made) in
      let rest : Shallow x.by q.0 behind = shallow_pieces us (before ++ Read t ∷ []) q.0 behind x.by n m (run_one before (Read t) start s x.by h x.made) q.2 x.goes (subst (λ (z : State). bounded z us ≡ Ok m) same y.goes) i in
      subst (λ (z : List Piece). Shallow s z behind) (sym q.1)
      (x.by, x.made, limited_room most_open true s y.by t low y.made, subst (λ (z : State). is_shallow most_open z ≡ true) same (limited_shallow most_open true s y.by t low y.made), rest)
  shallow_pieces (t ∷ us) before ps behind s n m h (inr q) r b i =
      let x : Onward (take s Ended) (λ z. run z (Read t ∷ q.0)) n = onward (take s Ended) (λ z. run z (Read t ∷ q.0)) n (sym (ap (run s) q.1) ∙ r) in
      let w : Onward (take x.by (Read t)) (λ z. run z q.0) n = onward (take x.by (Read t)) (λ z. run z q.0) n x.goes in
      let k : (k : Refusal) × (take s (Read t) ≡ Err k) = refused_at sound complete before t s x.by h x.made q.2 in
      let y : Onward (step most_open true s t) (λ z. bounded z us) m = onward (step most_open true s t) (λ z. bounded z us) m b in
      let same : y.by ≡ w.by = ok_same y.by w.by (sym (limited_ok most_open true s y.by t low y.made) ∙ step_ended s x.by w.by t k.0 k.1 (ends_true before t q.2) x.made w.made) in
      let rest : Shallow w.by q.0 behind = shallow_pieces us (before ++ Ended ∷ Read t ∷ []) q.0 behind w.by n m (run_two before t start s x.by w.by h x.made w.made) q.3 w.goes (subst (λ (z : State). bounded z us ≡ Ok m) same y.goes) i in
      subst (λ (z : List Piece). Shallow s z behind) (sym q.1)
      (x.by, x.made, (w.by, w.made, between_room x.by t (ends_between s x.by x.made), subst (λ (z : State). is_shallow most_open z ≡ true) same (limited_shallow most_open true s y.by t low y.made), rest))
