-- At the first pieces of a program no more constructs are open than may be where the machine says so, and nowhere else.
use Rattle.std.proofs.Common.{◌≡◌, ℕ, ◌+◌, ◌≤◌, ◌<◌, Bool, true, false, List, [], ◌∷◌, ◌++◌, ◌⊎◌, Ok, nat_le, refl, sym, ap, ◌∙◌, subst, inl, inr, append_assoc, append-nil, le_trans, arith}
use Rattle.std.specs.Prelude.{not, ◌&&◌}
use Rattle.std.proofs.lemmas.Bool.{and_parts, le-leb, leb-true, leb-false, false≢true}
use Rattle.js_lex.specs.declared.token.Token.{Token}
use Rattle.js_tree.specs.declared.tree.Item.{Item}
use Rattle.js_grammar.specs.Grammar.{of_tree}
use Rattle.js_grammar.specs.Marks.{Piece, Read, Ended, Seen, Matches}
use Rattle.js_grammar.specs.Script.{pieces, IsProgram, constructs, AreShallow, most_open}
use Rattle.js_parse_core.specs.declared.machine.At.{At}
use Rattle.js_parse_core.specs.declared.machine.At.TheVariants as at
use Rattle.js_parse_core.specs.declared.machine.Outer.{Outer}
use Rattle.js_parse_core.specs.declared.machine.State.{State}
use Rattle.js_parse_core.specs.Machine.{start, is_shallow}
use Rattle.js_parse_core.specs.Outer as out
use Rattle.js_parse_core.specs.Outer.{Step, refuse}
use Rattle.js_parse_core.specs.Tokens.{is_open_brace}
use Rattle.js_parse_core.proofs.CountedGrows.{Reaches, AllBelow, below_reaches}
use Rattle.js_parse_core.proofs.CountedSpelled.{levels, at_level, level, spelled}
use Rattle.js_parse_core.proofs.CountLaws.{level_low}
use Rattle.js_parse_core.proofs.Counts.{NearTo, EndsAt, Atop, raises, first_raises, Above, Low, Counted, run_counts, script_counts, finish_matches, below_append, below_split, same_state, nil_snoc}
use Rattle.js_parse_core.proofs.EndLevels.{end_level}
use Rattle.js_parse_core.proofs.EndSteps.{ends_between}
use Rattle.js_parse_core.proofs.Ends.{Onward, onward, Whole, run_front, run_one}
use Rattle.js_parse_core.proofs.Limits.{is_full_at}
use Rattle.js_parse_core.proofs.PieceLemmas.{pieces_append, run_step}
use Rattle.js_parse_core.proofs.Pieces.{take, run}
use Rattle.js_parse_core.proofs.Programs.{complete}
use Rattle.js_parse_core.proofs.Scripts.{AreCounted}
use Rattle.js_parse_core.proofs.Shallow.{HasRoom, Room, Shallow, is_body, between_other, ended_at}
use Rattle.js_parse_core.proofs.Stored.{Stored, here_stores}
use Rattle.js_parse_core.proofs.StoredSteps.{stored_count, state_stores, take_stored, start_stored}
use Rattle.js_parse_core.proofs.Unique.{tree_unique}

few : most_open < 1000
few = omega arith

-- ---- lists of pieces with counts

atop_pieces : (a b : List Seen) → Atop a b → pieces b ≡ pieces a
atop_pieces [] b h = ap pieces h
atop_pieces (s ∷ a) b h = ap pieces h.2 ∙ ap (λ (q : Piece). q ∷ pieces h.1) h.3 ∙ ap (λ (z : List Piece). s.piece ∷ z) (atop_pieces a h.1 h.5)

cons_parts : (s t : Seen) (a b : List Seen) → s ∷ a ≡ t ∷ b → (s ≡ t) × (a ≡ b)
cons_parts s t a b e = (cc, cc)

piece_parts : (p q : Piece) (a b : List Piece) → p ∷ a ≡ q ∷ b → a ≡ b
piece_parts p q a b e = cc

none_pieces : (s : Seen) (a : List Seen) → pieces (s ∷ a) ≡ [] → ⊥
none_pieces s a e = cc

fronts_same : (a b c d : List Seen) → pieces a ≡ pieces c → a ++ b ≡ c ++ d → a ≡ c
fronts_same [] b [] d e h = refl
fronts_same [] b (t ∷ c) d e h = absurd (none_pieces t c (sym e))
fronts_same (s ∷ a) b [] d e h = absurd (none_pieces s a e)
fronts_same (s ∷ a) b (t ∷ c) d e h =
    let x : (s ≡ t) × (a ++ b ≡ c ++ d) = cons_parts s t (a ++ b) (c ++ d) h in
    ap (λ (z : Seen). z ∷ a) x.0 ∙ ap (λ (z : List Seen). t ∷ z) (fronts_same a b c d (piece_parts s.piece t.piece (pieces a) (pieces c) e) x.1)

snoc_seen : (a : List Seen) → (a ≡ []) ⊎ ((i : List Seen) × (x : Seen) × (a ≡ i ++ x ∷ []))
snoc_seen [] = inl refl
snoc_seen (s ∷ a) = go (snoc_seen a)
  where
    go : (a ≡ []) ⊎ ((i : List Seen) × (x : Seen) × (a ≡ i ++ x ∷ [])) → (s ∷ a ≡ []) ⊎ ((i : List Seen) × (x : Seen) × (s ∷ a ≡ i ++ x ∷ []))
    go (inl e) = inr ([], s, ap (λ (z : List Seen). s ∷ z) e)
    go (inr (i, x, e)) = inr (s ∷ i, x, ap (λ (z : List Seen). s ∷ z) e)

below_shallow : (ss : List Seen) → AllBelow most_open ss → AreShallow (constructs ss)
below_shallow [] h = tt
below_shallow (s ∷ ss) h = go s.piece refl (below_shallow ss h.1)
  where
    go : (q : Piece) → s.piece ≡ q → AreShallow (constructs ss) → AreShallow (constructs (s ∷ ss))
    go (Read t) e i = subst AreShallow (sym (ap (λ (q : Piece). let x : Seen = record { piece = q; constructs = s.constructs } in constructs (x ∷ ss)) e)) (h.0, i)
    go Ended e i = subst AreShallow (sym (ap (λ (q : Piece). let x : Seen = record { piece = q; constructs = s.constructs } in constructs (x ∷ ss)) e)) i

shallow_parts : (s : Seen) (t : Token) (ss : List Seen) → s.piece ≡ Read t → AreShallow (constructs (s ∷ ss)) → (s.constructs ≤ most_open) × AreShallow (constructs ss)
shallow_parts s t ss e h = subst AreShallow (ap (λ (q : Piece). let x : Seen = record { piece = q; constructs = s.constructs } in constructs (x ∷ ss)) e) h

shallow_ended : (s : Seen) (ss : List Seen) → s.piece ≡ Ended → AreShallow (constructs (s ∷ ss)) → AreShallow (constructs ss)
shallow_ended s ss e h = subst AreShallow (ap (λ (q : Piece). let x : Seen = record { piece = q; constructs = s.constructs } in constructs (x ∷ ss)) e) h

-- ---- the front of a program

pub record Front (a back : List Seen) (s : State) : Type 0 where
  pub last : State
  pub goes : run s (pieces back) ≡ Ok last
  pub read : Counted start [] (pieces a) (spelled s)
  pub near : NearTo read.back a
  pub kept : first_raises s (pieces back) ≡ false → a ≡ read.back
  pub ends : first_raises s (pieces back) ≡ true → EndsAt (level s + 1) a
  pub above : Above start [] (a ++ back)

ok_same : (m n : State) → (let r : Step = Ok m in r) ≡ Ok n → m ≡ n
ok_same m n h = cc

front_of : (tree : List Item) (a back : List Seen) (s : State) → IsProgram tree (a ++ back) → run start (pieces a) ≡ Ok s → Front a back s
front_of tree a back s p h =
    let w : Whole (pieces a ++ pieces back) tree = complete (pieces a ++ pieces back) tree (record { seen = a ++ back; are = pieces_append a back; program = p }) in
    let x : Onward (run start (pieces a)) (λ m. run m (pieces back)) w.last = run_front (pieces a) (pieces back) start w.last w.ran in
    let same : x.by ≡ s = ok_same x.by s (sym x.made ∙ h) in
    let goes : run s (pieces back) ≡ Ok w.last = subst (λ (z : State). run z (pieces back) ≡ Ok w.last) same x.goes in
    let c : Counted start [] (pieces a) (spelled s) = run_counts start s [] (pieces a) refl h in
    let d : Counted s c.back (pieces back) (spelled w.last) = run_counts s w.last c.back (pieces back) (subst (λ (z : List Seen). Matches (spelled s) (z ++ c.back)) c.atop c.matches) goes in
    let e : Counted start [] (pieces a ++ pieces back) (of_tree w.over.outer.items) = script_counts (pieces a ++ pieces back) w.last w.over w.ran w.ends in
    let front_pieces : pieces d.front ≡ pieces a = atop_pieces c.back d.front d.atop ∙ c.are in
    let matches : Matches (of_tree tree) (d.front ++ d.back) = subst (λ (z : List Item). Matches (of_tree z) (d.front ++ d.back)) w.items (finish_matches w.last w.over (d.front ++ d.back) d.matches w.ends) in
    let all : d.front ++ d.back ≡ a ++ back = tree_unique tree (d.front ++ d.back) (a ++ back) matches p.written
    (pieces_append d.front d.back ∙ ap (λ (z : List Piece). z ++ pieces d.back) front_pieces ∙ ap (λ (z : List Piece). pieces a ++ z) d.are ∙ sym (pieces_append a back)) in
    let is : d.front ≡ a = fronts_same d.front d.back a back front_pieces all in
    let whole : e.back ≡ a ++ back = tree_unique tree e.back (a ++ back) (subst (λ (z : List Item). Matches (of_tree z) e.back) w.items (subst (λ (z : List Seen). Matches (of_tree w.over.outer.items) (z ++ e.back)) e.atop e.matches)) p.written
    (e.are ∙ sym (pieces_append a back)) in
    record {
      last = w.last;
      goes = goes;
      read = c;
      near = subst (NearTo c.back) is d.near;
      kept = λ i. sym is ∙ d.kept i;
      ends = λ i. subst (EndsAt (level s + 1)) is (d.ends i);
      above = subst (Above start []) whole (subst (λ (z : List Seen). Above start z e.back) e.atop e.above);
    }

-- ---- room before the body of an arrow

record FullAt (o : Outer) (a : At) (t : Token) : Type 0 where
  raised : raises a (Read t) ≡ true
  many : most_open ≤ out.constructs o
  here : at_level (levels o.frames) a ≡ levels o.frames

full_at : (o : Outer) (a : At) (t : Token) → is_full_at most_open o a t ≡ true → FullAt o a t
full_at o (at.ArrowBody b ns) t h =
    let x : (not (is_open_brace t.kind) ≡ true) × (nat_le most_open (out.constructs o) ≡ true) = and_parts (not (is_open_brace t.kind)) (nat_le most_open (out.constructs o)) h in
    record { raised = x.0; many = leb-true most_open (out.constructs o) x.1; here = refl }
full_at o _ t h = absurd (false≢true h)

record RaisedAt (o : Outer) (a : At) (t : Token) : Type 0 where
  few : nat_le most_open (out.constructs o) ≡ false
  here : at_level (levels o.frames) a ≡ levels o.frames

raised_at : (o : Outer) (a : At) (t : Token) → raises a (Read t) ≡ true → is_full_at most_open o a t ≡ false → RaisedAt o a t
raised_at o (at.ArrowBody b ns) t r h = record { few = sym (ap (λ (c : Bool). c && nat_le most_open (out.constructs o)) r) ∙ h; here = refl }
raised_at o _ t r h = absurd (false≢true r)

raises_body : (a : At) (q : Piece) → is_body a ≡ false → raises a q ≡ false
raises_body (at.ArrowBody b ns) q h = absurd (false≢true (sym h))
raises_body _ q h = refl

first_body : (s : State) (ps : List Piece) → is_body s.at ≡ false → first_raises s ps ≡ false
first_body s [] h = refl
first_body s (q ∷ ps) h = raises_body s.at q h

-- the arrow before a value has one more
room_of : (a back : List Seen) (s : State) (t : Token) (ps : List Piece) → Front a back s → Stored s → AllBelow most_open a → pieces back ≡ Read t ∷ ps → HasRoom s t
room_of a back s t ps f st al e = go (is_full_at most_open s.outer s.at t) refl
  where
    go : (b : Bool) → is_full_at most_open s.outer s.at t ≡ b → HasRoom s t
    go false i = i
    go true i =
        let x : FullAt s.outer s.at t = full_at s.outer s.at t i in
        let y : EndsAt (level s + 1) a = f.ends (ap (first_raises s) e ∙ x.raised) in
        let low : y.1.constructs ≤ most_open = (below_split most_open y.0 (y.1 ∷ []) (subst (AllBelow most_open) y.2 al)).1.0 in
        let one : level s + 1 ≤ most_open = subst (λ (n : ℕ). n ≤ most_open) y.3 low in
        let same : level s ≡ levels s.outer.frames = x.here in
        let stores : out.constructs s.outer ≤ levels s.outer.frames = (here_stores s.outer st.frames).0 in
        let many : most_open ≤ out.constructs s.outer = x.many in
        absurd (omega (arith, one, same, stores, many))

-- ---- where the tree's counts are so few, the machine's are

low_snoc : (ps : List Piece) (s m n : State) (q : Piece) → Low most_open s ps → run s ps ≡ Ok m → take m q ≡ Ok n → level n ≤ most_open → Low most_open s (ps ++ q ∷ [])
low_snoc [] s m n q h r e l = λ z i.
    let same : s ≡ m = ok_same s m r in
    (subst (λ (x : State). level x ≤ most_open) (same_state m q n z e (subst (λ (x : State). take x q ≡ Ok z) same i)) l, tt)
low_snoc (p ∷ ps) s m n q h r e l = λ z i. ((h z i).0, low_snoc ps z m n q (h z i).1 (sym (run_step s z p ps i) ∙ r) e l)

above_at : (a b c : List Seen) (s m : State) → Above s c (a ++ b) → run s (pieces a) ≡ Ok m → Above m (c ++ a) b
above_at [] b c s m h r = subst (λ (z : List Seen). Above m z b) (sym (append-nil c)) (subst (λ (z : State). Above z c b) (ok_same s m r) h)
above_at (x ∷ a) b c s m h r =
    let o : Onward (take s x.piece) (λ z. run z (pieces a)) m = onward (take s x.piece) (λ z. run z (pieces a)) m r in
    subst (λ (z : List Seen). Above m z b) (append_assoc c (x ∷ []) a) (above_at a b (c ++ x ∷ []) o.by m (h o.by o.made).1 o.goes)

shallow_by : (n : State) → Stored n → level n ≤ most_open → is_shallow most_open n ≡ true
shallow_by n st l = le-leb (stored_count n) most_open (le_trans (state_stores n st).0 l)

walk_one : (tree : List Item) (a back rest : List Seen) (x : Seen) (s n : State) → Front a (x ∷ (rest ++ back)) s → take s x.piece ≡ Ok n → Reaches (level n) (a ++ x ∷ []) → Front (a ++ x ∷ []) (rest ++ back) n
    → Stored s → Stored n → level s ≤ most_open → (level n ≤ most_open → Low most_open start (pieces (a ++ x ∷ []))) → AllBelow most_open a → AreShallow (constructs (x ∷ rest))
    → (level n ≤ most_open → AllBelow most_open (a ++ x ∷ []) → AreShallow (constructs rest) → Shallow n (pieces rest) (pieces back))
    → Shallow s (pieces (x ∷ rest)) (pieces back)
walk_one tree a back rest x s n f made reach g st sn lv lo al sh rec = go x.piece refl
  where
    go : (q : Piece) → x.piece ≡ q → Shallow s (pieces (x ∷ rest)) (pieces back)
    go (Read t) e =
        let parts : (x.constructs ≤ most_open) × AreShallow (constructs rest) = shallow_parts x t rest e sh in
        let all : AllBelow most_open (a ++ x ∷ []) = below_append most_open a (x ∷ []) al (parts.0, tt) in
        let l : level n ≤ most_open = below_reaches (level n) most_open (a ++ x ∷ []) reach all in
        subst (λ (q : Piece). Shallow s (q ∷ pieces rest) (pieces back)) (sym e)
        (n, subst (λ (q : Piece). take s q ≡ Ok n) e made, room_of a (x ∷ (rest ++ back)) s t (pieces (rest ++ back)) f st al (ap (λ (q : Piece). q ∷ pieces (rest ++ back)) e), shallow_by n sn l, rec l all parts.1)
    go Ended e =
        let made2 : take s Ended ≡ Ok n = subst (λ (q : Piece). take s q ≡ Ok n) e made in
        let l : level n ≤ most_open = le_trans (end_level s n made2) lv in
        let all : AllBelow most_open (a ++ x ∷ []) = subst (AllBelow most_open) (sym (g.kept (first_body n (pieces (rest ++ back)) (between_other n.at (ends_between s n made2))))) (g.read.below most_open (omega arith) tt (lo l)).1 in
        subst (λ (q : Piece). Shallow s (q ∷ pieces rest) (pieces back)) (sym e) (n, made2, rec l all (shallow_ended x rest e sh))

walk : (rest : List Seen) (tree : List Item) (a back : List Seen) (s : State) → IsProgram tree (a ++ (rest ++ back)) → run start (pieces a) ≡ Ok s → Stored s → level s ≤ most_open → Low most_open start (pieces a) → AllBelow most_open a
    → AreShallow (constructs rest) → Shallow s (pieces rest) (pieces back)
walk [] tree a back s p h st lv lo al sh = go (pieces back) refl
  where
    go : (ps : List Piece) → pieces back ≡ ps → Room s (pieces back)
    go [] e = subst (Room s) (sym e) tt
    go (Read t ∷ ps) e = subst (Room s) (sym e) (room_of a back s t ps (front_of tree a back s p h) st al e)
    go (Ended ∷ ps) e = subst (Room s) (sym e) tt
walk (x ∷ rest) tree a back s p h st lv lo al sh =
    let f : Front a (x ∷ (rest ++ back)) s = front_of tree a (x ∷ (rest ++ back)) s p h in
    let o : Onward (take s x.piece) (λ m. run m (pieces (rest ++ back))) f.last = onward (take s x.piece) (λ m. run m (pieces (rest ++ back))) f.last f.goes in
    let run2 : run start (pieces (a ++ x ∷ [])) ≡ Ok o.by = ap (run start) (pieces_append a (x ∷ [])) ∙ run_one (pieces a) x.piece start s o.by h o.made in
    let p2 : IsProgram tree ((a ++ x ∷ []) ++ (rest ++ back)) = subst (IsProgram tree) (sym (append_assoc a (x ∷ []) (rest ++ back))) p in
    let sn : Stored o.by = take_stored s x.piece o.by st o.made in
    let reach : Reaches (level o.by) (a ++ x ∷ []) = (above_at a (x ∷ (rest ++ back)) [] start s f.above h o.by o.made).0 in
    let lo2 : level o.by ≤ most_open → Low most_open start (pieces (a ++ x ∷ [])) = λ i. subst (Low most_open start) (sym (pieces_append a (x ∷ []))) (low_snoc (pieces a) start s o.by x.piece lo h o.made i) in
    walk_one tree a back rest x s o.by f o.made reach (front_of tree (a ++ x ∷ []) (rest ++ back) o.by p2 run2) st sn lv lo2 al sh
    (λ i j k. walk rest tree (a ++ x ∷ []) back o.by p2 run2 sn i (lo2 i) j k)

-- ---- where the machine's counts are so few, the tree's are

low_of : (ps behind : List Piece) (s : State) → Stored s → level s ≤ most_open → Shallow s ps behind → Low most_open s ps
low_of [] behind s st l h = tt
low_of (Read t ∷ ps) behind s st l h = λ n e.
    let same : h.0 ≡ n = same_state s (Read t) h.0 n h.1 e in
    let sn : Stored n = take_stored s (Read t) n st e in
    let ln : level n ≤ most_open = level_low most_open n few sn (leb-true (stored_count n) most_open (subst (λ (z : State). is_shallow most_open z ≡ true) same h.3)) in
    (ln, low_of ps behind n sn ln (subst (λ (z : State). Shallow z ps behind) same h.4))
low_of (Ended ∷ ps) behind s st l h = λ n e.
    let same : h.0 ≡ n = same_state s Ended h.0 n h.1 e in
    let ln : level n ≤ most_open = le_trans (end_level s n e) l in
    (ln, low_of ps behind n (take_stored s Ended n st e) ln (subst (λ (z : State). Shallow z ps behind) same h.2))

room_end : (ps behind : List Piece) (s m : State) → Shallow s ps behind → run s ps ≡ Ok m → Room m behind
room_end [] behind s m h r = subst (λ (z : State). Room z behind) (ok_same s m r) h
room_end (Read t ∷ ps) behind s m h r = room_end ps behind h.0 m h.4 (sym (run_step s h.0 (Read t) ps h.1) ∙ r)
room_end (Ended ∷ ps) behind s m h r = room_end ps behind h.0 m h.2 (sym (run_step s h.0 Ended ps h.1) ∙ r)

run_stored : (ps : List Piece) (s m : State) → Stored s → run s ps ≡ Ok m → Stored m
run_stored [] s m st r = subst Stored (ok_same s m r) st
run_stored (q ∷ ps) s m st r =
    let o : Onward (take s q) (λ z. run z ps) m = onward (take s q) (λ z. run z ps) m r in
    run_stored ps o.by m (take_stored s q o.by st o.made) o.goes

-- the arrow at the end has no more than may be
arrow_low : (s last : State) (ps : List Piece) → Stored s → first_raises s ps ≡ true → Room s ps → run s ps ≡ Ok last → level s + 1 ≤ most_open
arrow_low s last [] st f r g = absurd (false≢true f)
arrow_low s last (Read t ∷ ps) st f r g =
    let x : RaisedAt s.outer s.at t = raised_at s.outer s.at t f r in
    let fewer : out.constructs s.outer < most_open = leb-false most_open (out.constructs s.outer) x.few in
    let is : out.constructs s.outer ≡ levels s.outer.frames = (here_stores s.outer st.frames).1 (let i = fewer in omega (arith, i)) in
    let same : level s ≡ levels s.outer.frames = x.here in
    omega (arith, fewer, is, same)
arrow_low s last (Ended ∷ ps) st f r g =
    let o : Onward (take s Ended) (λ z. run z ps) last = onward (take s Ended) (λ z. run z ps) last g in
    absurd (false≢true (sym (raises_body s.at Ended (ended_at s.outer s.at o.by o.made)) ∙ f))

none_snoc : (i : List Seen) (y : Seen) → pieces (i ++ y ∷ []) ≡ [] → ⊥
none_snoc [] y e = none_pieces y [] e
none_snoc (s ∷ i) y e = none_pieces s (i ++ y ∷ []) e

snoc_last : (i j : List Seen) (x y : Seen) → i ++ x ∷ [] ≡ j ++ y ∷ [] → x ≡ y
snoc_last [] [] x y e = (cons_parts x y [] [] e).0
snoc_last [] (t ∷ j) x y e = absurd (nil_snoc j y (cons_parts x t [] (j ++ y ∷ []) e).1)
snoc_last (s ∷ i) [] x y e = absurd (nil_snoc i x (sym (cons_parts s y (i ++ x ∷ []) [] e).1))
snoc_last (s ∷ i) (t ∷ j) x y e = snoc_last i j x y (cons_parts s t (i ++ x ∷ []) (j ++ y ∷ []) e).1

front_below : (a back : List Seen) (s : State) (f : Front a back s) → Stored s → Room s (pieces back) → AllBelow most_open f.read.back → AllBelow most_open a
front_below a back s f st r h = go (first_raises s (pieces back)) refl
  where
    raised : first_raises s (pieces back) ≡ true → (f.read.back ≡ []) ⊎ ((j : List Seen) × (x : Seen) × (f.read.back ≡ j ++ x ∷ [])) → AllBelow most_open a
    raised i (inl e) =
        let y : EndsAt (level s + 1) a = f.ends i in
        absurd (none_snoc y.0 y.1 (sym (ap pieces y.2) ∙ sym f.read.are ∙ ap pieces e))
    raised i (inr (j, x, e)) =
        let y : EndsAt (level s + 1) a = f.ends i in
        let z : (z : Seen) × (a ≡ j ++ z ∷ []) = f.near j x e in
        let same : z.0 ≡ y.1 = snoc_last j y.0 z.0 y.1 (sym z.1 ∙ y.2) in
        let low : z.0.constructs ≤ most_open = subst (λ (n : ℕ). n ≤ most_open) (sym (ap (λ (q : Seen). q.constructs) same ∙ y.3)) (arrow_low s f.last (pieces back) st i r f.goes) in
        subst (AllBelow most_open) (sym z.1) (below_append most_open j (z.0 ∷ []) (below_split most_open j (x ∷ []) (subst (AllBelow most_open) e h)).0 (low, tt))

    go : (b : Bool) → first_raises s (pieces back) ≡ b → AllBelow most_open a
    go false i = subst (AllBelow most_open) (sym (f.kept i)) h
    go true i = raised i (snoc_seen f.read.back)

-- ---- the law

shallow_so : (tree : List Item) (front back : List Seen) → IsProgram tree (front ++ back) → Shallow start (pieces front) (pieces back) → AreShallow (constructs front)
shallow_so tree front back p h =
    let w : Whole (pieces front ++ pieces back) tree = complete (pieces front ++ pieces back) tree (record { seen = front ++ back; are = pieces_append front back; program = p }) in
    let o : Onward (run start (pieces front)) (λ m. run m (pieces back)) w.last = run_front (pieces front) (pieces back) start w.last w.ran in
    let f : Front front back o.by = front_of tree front back o.by p o.made in
    let lo : Low most_open start (pieces front) = low_of (pieces front) (pieces back) start start_stored (omega arith) h in
    below_shallow front (front_below front back o.by f (run_stored (pieces front) start o.by start_stored o.made) (room_end (pieces front) (pieces back) start o.by h o.made) (f.read.below most_open (omega arith) tt lo).1)

-- The counts of a program's first pieces and the machine's.
pub counted : AreCounted
counted tree front back p = ((λ h. walk front tree [] back start p refl start_stored (omega arith) tt tt h), (λ h. shallow_so tree front back p h))
