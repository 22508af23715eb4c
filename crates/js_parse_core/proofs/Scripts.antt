-- Scripts in which no more constructs are open than may be, and the machine with the limit.
use Rattle.std.proofs.Common.{◌≡◌, ℕ, zero, suc, ◌≤◌, Bool, true, false, cond, List, [], ◌∷◌, ◌++◌, ◌⊎◌, length, take as take_first, Ok, Err, refl, sym, ap, ◌∙◌, subst, inl, inr, append_assoc, arith}
use Rattle.std.proofs.lemmas.Bool.{le-leb}
use Rattle.std.proofs.lemmas.List.{append-nil}
use Rattle.js_lex.specs.declared.token.Punctuator.TheVariants as p
use Rattle.js_lex.specs.declared.token.TokenKind.TheVariants as tok
use Rattle.js_lex.specs.declared.token.Token.{Token}
use Rattle.js_tree.specs.declared.tree.Item.{Item}
use Rattle.js_grammar.specs.Fault.{GoesOn}
use Rattle.js_grammar.specs.Marks.{Piece, Read, Ended, Seen}
use Rattle.js_grammar.specs.Script.{pieces, IsProgram, constructs, IsScript, IsTree, AreShallow, most_open}
use Rattle.js_grammar.specs.Spots.{IsBegin}
use Rattle.js_parse_core.specs.declared.machine.At.{At}
use Rattle.js_parse_core.specs.declared.machine.At.TheVariants as at
use Rattle.js_parse_core.specs.declared.machine.Open.{Open}
use Rattle.js_parse_core.specs.declared.machine.Outer.{Outer}
use Rattle.js_parse_core.specs.declared.machine.State.{State}
use Rattle.js_parse_core.specs.Machine.{step, step_in, start, is_shallow}
use Rattle.js_parse_core.specs.Outer.{Step}
use Rattle.js_parse_core.proofs.Answers.{bounded, bounded_read}
use Rattle.js_parse_core.proofs.Bounds.{IsDone, finish_done}
use Rattle.js_parse_core.proofs.EndSteps.{Same, finished, last_is_finished}
use Rattle.js_parse_core.proofs.Ends.{read, AreRead, Onward, onward, Program, Whole, ReadWhole, ScriptOf, run_front, read_behind, script_sound, script_complete, script_begins}
use Rattle.js_parse_core.proofs.Limits.{limited_ok, unlimited_ok}
use Rattle.js_parse_core.proofs.PieceLemmas.{no_limit_is, pieces_append}
use Rattle.js_parse_core.proofs.Pieces.{no_limit, is_between, take, taken, run, finish}
use Rattle.js_parse_core.proofs.Shallow.{HasRoom, is_body, other_room, between_room, ended_room, Room, Shallow, IsTail, Follows, read_counts, ended_counts, Cut, cut, Passed, passes, shallow_pieces}

low : most_open ≤ no_limit
low = omega arith

ok_same : (m n : State) → (let r : Step = Ok m in r) ≡ Ok n → m ≡ n
ok_same m n h = cc

-- ---- room for the first token

abbrev pub RoomFor : State → List Token → Type 0
RoomFor s [] = Unit {0}
RoomFor s (t ∷ ts) = HasRoom s t

other_for : (s : State) (ts : List Token) → is_body s.at ≡ false → RoomFor s ts
other_for s [] h = tt
other_for s (t ∷ ts) h = other_room s t h

-- .. as the pieces begin with it
room_follows : (s : State) (ts : List Token) (ps : List Piece) → Follows ts ps → RoomFor s ts → Room s ps
room_follows s [] ps (inl e) h = subst (Room s) (sym e) tt
room_follows s [] ps (inr e) h = subst (Room s) (sym e) tt
room_follows s (t ∷ ts) ps (inl e) h = subst (Room s) (sym e.1) h
room_follows s (t ∷ ts) ps (inr e) h = subst (Room s) (sym e.1) tt

follows_room : (s n : State) (ts : List Token) (ps : List Piece) → Follows ts ps → run s ps ≡ Ok n → Room s ps → RoomFor s ts
follows_room s n [] ps f r h = tt
follows_room s n (t ∷ ts) ps (inl e) r h = subst (Room s) e.1 h
follows_room s n (t ∷ ts) ps (inr e) r h =
    let x : Onward (take s Ended) (λ m. run m e.0) n = onward (take s Ended) (λ m. run m e.0) n (sym (ap (run s) e.1) ∙ r) in
    ended_room s x.by t x.made

-- ---- ends of scripts

record Tail (ps qs : List Piece) : Type 0 where
  more : List Piece
  is_tail : IsTail more
  parts : ps ≡ qs ++ more

tail_of : (ps qs : List Piece) → (ps ≡ qs) ⊎ (ps ≡ qs ++ Ended ∷ []) → Tail ps qs
tail_of ps qs (inl e) = record { more = []; is_tail = inl refl; parts = e ∙ sym (append-nil qs) }
tail_of ps qs (inr e) = record { more = Ended ∷ []; is_tail = inr refl; parts = e }

cut_script : (us vs : List Token) (tree : List Item) (ns : List ℕ) → (f : IsScript tree (us ++ vs) ns) → Cut [] us vs f.seen
cut_script us vs tree ns f = let x : Tail (pieces f.seen) f.puts.0 = tail_of (pieces f.seen) f.puts.0 f.puts.2 in cut us vs [] f.seen f.puts.0 x.more x.parts x.is_tail f.puts.1

counts_behind : (a b : List Seen) → IsTail (pieces b) → constructs (a ++ b) ≡ constructs a
counts_behind [] [] h = refl
counts_behind [] (s ∷ []) (inl h) = absurd (none h)
  where
    none : s.piece ∷ [] ≡ [] → ⊥
    none e = cc
counts_behind [] (s ∷ []) (inr h) = ended_counts s [] (first h)
  where
    first : s.piece ∷ [] ≡ Ended ∷ [] → s.piece ≡ Ended
    first e = cc
counts_behind [] (s ∷ r ∷ b) (inl h) = absurd (none h)
  where
    none : s.piece ∷ r.piece ∷ pieces b ≡ [] → ⊥
    none e = cc
counts_behind [] (s ∷ r ∷ b) (inr h) = absurd (none h)
  where
    none : s.piece ∷ r.piece ∷ pieces b ≡ Ended ∷ [] → ⊥
    none e = cc
counts_behind (s ∷ a) b h = by_piece s.piece refl (counts_behind a b h)
  where
    by_piece : (q : Piece) → s.piece ≡ q → constructs (a ++ b) ≡ constructs a → constructs (s ∷ (a ++ b)) ≡ constructs (s ∷ a)
    by_piece (Read t) e i = read_counts s t (a ++ b) e ∙ ap (λ (z : List ℕ). s.constructs ∷ z) i ∙ sym (read_counts s t a e)
    by_piece Ended e i = ended_counts s (a ++ b) e ∙ i ∙ sym (ended_counts s a e)

-- a script has a count for each token
all_counts : (ts : List Token) (tree : List Item) (ns : List ℕ) → IsScript tree (ts ++ []) ns → take_first (length ts) ns ≡ ns
all_counts ts tree ns f =
    let c : Cut [] ts [] f.seen = cut_script ts [] tree ns f in
    ap (take_first (length ts)) (sym f.constructs) ∙ c.counts ∙ sym (ap constructs c.parts ∙ counts_behind c.front c.back c.next) ∙ f.constructs

shallow_take : (n : ℕ) (ns : List ℕ) → AreShallow ns → AreShallow (take_first n ns)
shallow_take zero ns h = tt
shallow_take (suc n) [] h = tt
shallow_take (suc n) (m ∷ ns) h = (h.0, shallow_take n ns h.1)

-- ---- what goes on

pub goes_less : (n : ℕ) (ts us : List Token) → GoesOn n (ts ++ us) → GoesOn n ts
goes_less n ts us g = record { tree = g.tree; rest = us ++ g.rest; open_at = g.open_at; script = subst (λ (z : List Token). IsScript g.tree z g.open_at) (append_assoc ts us g.rest) g.script; shallow = g.shallow }

pub goes_begin : (n : ℕ) (ts : List Token) → GoesOn n ts → IsBegin ts
goes_begin n ts g = record { tree = g.tree; rest = g.rest; open_at = g.open_at; script = g.script }

-- ---- the end

done_shallow : (n : State) → IsDone n → is_shallow most_open n ≡ true
done_shallow n d = by_parts n.outer n.at d.frames d.at_statement
  where
    by_at : (o : Outer) (a : At) → o.frames ≡ [] → a ≡ at.Statement → is_shallow most_open (record { outer = record { items = o.items; exported = o.exported; frames = [] }; at = at.Statement }) ≡ true
    by_at o a e f = le-leb 0 most_open (omega arith)

    by_parts : (o : Outer) (a : At) → o.frames ≡ [] → a ≡ at.Statement → is_shallow most_open (record { outer = o; at = a }) ≡ true
    by_parts o a e f =
        subst (λ (b : At). is_shallow most_open (record { outer = o; at = b }) ≡ true) (sym f)
        (subst (λ (fs : List Open). is_shallow most_open (record { outer = record { items = o.items; exported = o.exported; frames = fs }; at = at.Statement }) ≡ true) (sym e) (by_at o a e f))

same_ok : (x : Step) (n : State) → Same (Ok n) x → x ≡ Ok n
same_ok (Ok m) n h = ap (λ (z : State). let r : Step = Ok z in r) (sym h)
same_ok (Err k) n h = absurd h

-- the last token needs no room
pub end_taken : (s n : State) (last : Token) → last.kind ≡ tok.End → step no_limit true s last ≡ Ok n → step most_open true s last ≡ Ok n
end_taken s n last k e = go (is_between s.at) refl (same_ok (finished s) n (subst (λ (z : Step). Same z (finished s)) e (last_is_finished s last k)))
  where
    go : (b : Bool) → is_between s.at ≡ b → cond b (finish s) (taken (take s Ended) finish) ≡ Ok n → step most_open true s last ≡ Ok n
    go true i h = unlimited_ok most_open true s n last low e (between_room s last i) (done_shallow n (finish_done s n h))
    go false i h =
        let x : Onward (take s Ended) finish n = onward (take s Ended) finish n h in
        unlimited_ok most_open true s n last low e (ended_room s x.by last x.made) (done_shallow n (finish_done x.by n x.goes))

-- ---- scripts and the machine with the limit

pub record Gone (us vs : List Token) : Type 0 where
  pub state : State
  pub are : AreRead us
  pub ran : bounded start us ≡ Ok state
  pub room : RoomFor state vs

-- the tree's counts and the machine's: where there are no more of one at the first pieces, there are no more of the other
abbrev pub AreCounted : Type 0
AreCounted = (tree : List Item) (front back : List Seen) → IsProgram tree (front ++ back)
    → (AreShallow (constructs front) → Shallow start (pieces front) (pieces back)) × (Shallow start (pieces front) (pieces back) → AreShallow (constructs front))

module _ (sound : (ps : List Piece) (s n : State) → run start ps ≡ Ok s → finish s ≡ Ok n → Program ps n.outer.items) (complete : (ps : List Piece) (tree : List Item) → Program ps tree → Whole ps tree) (counted : AreCounted) where
  whole_run : (tree : List Item) (front back : List Seen) → IsProgram tree (front ++ back) → (n : State) × (run start (pieces front ++ pieces back) ≡ Ok n)
  whole_run tree front back h = let w : Whole (pieces front ++ pieces back) tree = complete (pieces front ++ pieces back) tree (record { seen = front ++ back; are = pieces_append front back; program = h }) in (w.last, w.ran)

  -- What stands in a script with so few constructs open is taken.
  pub gone : (us vs : List Token) (tree : List Item) (ns : List ℕ) → IsScript tree (us ++ vs) ns → AreShallow (take_first (length us) ns) → Gone us vs
  gone us vs tree ns f h =
      let c : Cut [] us vs f.seen = cut_script us vs tree ns f in
      let program : IsProgram tree (c.front ++ c.back) = subst (IsProgram tree) c.parts f.program in
      let shallow : AreShallow (constructs c.front) = subst AreShallow (ap (take_first (length us)) (sym f.constructs) ∙ c.counts) h in
      let y : Passed us start (pieces c.front) (pieces c.back) = passes sound complete us [] (pieces c.front) (pieces c.back) start refl c.puts ((counted tree c.front c.back program).0 shallow) in
      let w : (n : State) × (run start (pieces c.front ++ pieces c.back) ≡ Ok n) = whole_run tree c.front c.back program in
      let x : Onward (run start (pieces c.front)) (λ m. run m (pieces c.back)) w.0 = run_front (pieces c.front) (pieces c.back) start w.0 w.1 in
      let same : x.by ≡ y.state = ok_same x.by y.state (sym x.made ∙ y.took) in
      record {
        state = y.state;
        are = y.are;
        ran = y.ran;
        room = follows_room y.state w.0 vs (pieces c.back) c.next (subst (λ (z : State). run z (pieces c.back) ≡ Ok w.0) same x.goes) y.room;
      }

  -- Where the tokens are taken, so few constructs are open.
  pub script_shallow : (us vs : List Token) (tree : List Item) (ns : List ℕ) (m : State) → IsScript tree (us ++ vs) ns → bounded start us ≡ Ok m → RoomFor m vs → AreShallow (take_first (length us) ns)
  script_shallow us vs tree ns m f h r =
      let c : Cut [] us vs f.seen = cut_script us vs tree ns f in
      let program : IsProgram tree (c.front ++ c.back) = subst (IsProgram tree) c.parts f.program in
      let w : (n : State) × (run start (pieces c.front ++ pieces c.back) ≡ Ok n) = whole_run tree c.front c.back program in
      let x : Onward (run start (pieces c.front)) (λ m. run m (pieces c.back)) w.0 = run_front (pieces c.front) (pieces c.back) start w.0 w.1 in
      let y : Shallow start (pieces c.front) (pieces c.back) = shallow_pieces sound complete us [] (pieces c.front) (pieces c.back) start x.by m refl c.puts x.made h (room_follows m vs (pieces c.back) c.next r) in
      subst AreShallow (sym c.counts ∙ ap (take_first (length us)) f.constructs) ((counted tree c.front c.back program).1 y)

  -- ---- what goes on

  pub goes_on_with : (us vs : List Token) (m n : State) → AreRead (us ++ vs) → bounded start us ≡ Ok m → read m vs ≡ Ok n → ((ws : List Token) → RoomFor m (vs ++ ws)) → GoesOn (length us) (us ++ vs)
  goes_on_with us vs m n are h r room =
      let b : IsBegin (us ++ vs) = script_begins sound complete (us ++ vs) n are (read_behind us vs start m (bounded_read us start m h) ∙ r) in
      record {
        tree = b.tree;
        rest = b.rest;
        open_at = b.open_at;
        script = b.script;
        shallow = script_shallow us (vs ++ b.rest) b.tree b.open_at m (subst (λ (z : List Token). IsScript b.tree z b.open_at) (append_assoc us vs b.rest) b.script) h (room b.rest);
      }

  abbrev brace : Token
  brace = record { place = 0; after_line_end = false; kind = tok.Punctuator p.OpenBrace }

  are_more : (us : List Token) → AreRead us → AreRead (us ++ brace ∷ [])
  are_more [] h = (refl, tt)
  are_more (u ∷ us) h = (h.0, are_more us h.1)

  goes_on_at : (us : List Token) (o : Outer) (a : At) → AreRead us → bounded start us ≡ Ok (record { outer = o; at = a }) → GoesOn (length us) us
  goes_on_at us o (at.ArrowBody b ns) are h =
      let m : State = record { outer = o; at = at.ArrowBody b ns } in
      let x : Onward (step no_limit true m brace) (λ z. Ok z) _ = record { by = _; made = no_limit_is (step_in no_limit true o (at.ArrowBody b ns) brace); goes = refl } in
      goes_less (length us) us (brace ∷ []) (goes_on_with us (brace ∷ []) m x.by (are_more us are) h (ap (λ (o : Step). taken o (λ z. Ok z)) x.made) (λ ws. refl))
  goes_on_at us o a are h =
      let m : State = record { outer = o; at = a } in
      goes_less (length us) us [] (goes_on_with us [] m m (subst AreRead (sym (append-nil us)) are) h refl (λ ws. other_for m ws refl))

  -- The tokens that are taken begin a script.
  pub goes_on : (us : List Token) (m : State) → AreRead us → bounded start us ≡ Ok m → GoesOn (length us) us
  goes_on us m are h = goes_on_at us m.outer m.at are h

  -- ---- trees

  pub tree_of : (ts : List Token) (last : Token) (s n : State) → AreRead ts → last.kind ≡ tok.End → bounded start ts ≡ Ok s → step most_open true s last ≡ Ok n → IsTree n.outer.items ts
  tree_of ts last s n are k h e =
      let r : ScriptOf n.outer.items ts = script_sound sound complete ts last s n are k (bounded_read ts start s h) (limited_ok most_open true s n last low e) in
      let f : IsScript n.outer.items (ts ++ []) r.open_at = subst (λ (z : List Token). IsScript n.outer.items z r.open_at) (sym (append-nil ts)) r.script in
      record { open_at = r.open_at; script = r.script; shallow = subst AreShallow (all_counts ts n.outer.items r.open_at f) (script_shallow ts [] n.outer.items r.open_at s f h tt) }

  pub record Taken (ts : List Token) (last : Token) (tree : List Item) : Type 0 where
    pub state : State
    pub over : State
    pub are : AreRead ts
    pub ran : bounded start ts ≡ Ok state
    pub ends : step most_open true state last ≡ Ok over
    pub items : over.outer.items ≡ tree

  pub of_tree : (ts : List Token) (last : Token) (tree : List Item) → last.kind ≡ tok.End → IsTree tree ts → Taken ts last tree
  of_tree ts last tree k t =
      let f : IsScript tree (ts ++ []) t.open_at = subst (λ (z : List Token). IsScript tree z t.open_at) (sym (append-nil ts)) t.script in
      let g : Gone ts [] = gone ts [] tree t.open_at f (shallow_take (length ts) t.open_at t.shallow) in
      let w : ReadWhole ts last tree = script_complete sound complete ts last tree t.open_at k t.script in
      let same : w.reached ≡ g.state = ok_same w.reached g.state (sym w.ran ∙ bounded_read ts start g.state g.ran) in
      record { state = g.state; over = w.over; are = g.are; ran = g.ran; ends = end_taken g.state w.over last k (subst (λ (z : State). step no_limit true z last ≡ Ok w.over) same w.ends); items = w.items }
