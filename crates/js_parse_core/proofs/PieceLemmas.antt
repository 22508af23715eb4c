-- Pieces of patterns and of runs.
use Rattle.std.proofs.Common.{◌≡◌, ℕ, ◌+◌, ◌<◌, ◌≤◌, Bool, true, false, cond, List, [], ◌∷◌, ◌++◌, map, Ok, Err, refl, sym, ap, ◌∙◌, subst, append_assoc, arith, inl, inr}
use Rattle.std.specs.Prelude.{◌&&◌, nat_lt}
use Rattle.std.proofs.lemmas.Bool.{le-leb, ltb-true}
use Rattle.js_lex.specs.declared.token.Token.{Token}
use Rattle.js_grammar.specs.Marks.{Piece, Read, Seen, Mark, Form, AreOf, IsOneOf, Matches, deeper_mark, deeper}
use Rattle.js_grammar.specs.Script.{pieces}
use Rattle.js_parse_core.specs.declared.machine.Refusal.TheVariants as refusal
use Rattle.js_parse_core.specs.declared.machine.State.{State}
use Rattle.js_parse_core.specs.Outer.{Step, refuse, plus, most_counted, constructs}
use Rattle.js_parse_core.specs.Machine.{step, step_in, if_shallow, is_shallow, more_constructs}
use Rattle.js_parse_core.proofs.Pieces.{Spells, SpellsOne, Fits, no_limit, is_last, take, taken, run}

-- ---- patterns one behind the other

pub fits_append : (fs gs : List Form) (ps qs : List Piece) → Fits fs ps → Fits gs qs → Fits (fs ++ gs) (ps ++ qs)
fits_append [] gs ps qs h k = subst (λ (z : List Piece). Fits gs (z ++ qs)) (sym h) k
fits_append (f ∷ fs) gs ps qs h k =
    (h.0, h.1 ++ qs, ap (λ (z : List Piece). z ++ qs) h.2 ∙ append_assoc h.0 h.1 qs, h.3, fits_append fs gs h.1 qs h.4 k)

pub record Split (fs gs : List Form) (rs : List Piece) : Type 0 where
  pub front : List Piece
  pub back : List Piece
  pub parts : rs ≡ front ++ back
  pub fits_front : Fits fs front
  pub fits_back : Fits gs back

pub fits_split : (fs gs : List Form) (rs : List Piece) → Fits (fs ++ gs) rs → Split fs gs rs
fits_split [] gs rs h = record { front = []; back = rs; parts = refl; fits_front = refl; fits_back = h }
fits_split (f ∷ fs) gs rs h =
    let r : Split fs gs h.1 = fits_split fs gs h.1 h.4 in
    record {
      front = h.0 ++ r.front;
      back = r.back;
      parts = h.2 ∙ ap (λ (z : List Piece). h.0 ++ z) r.parts ∙ sym (append_assoc h.0 r.front r.back);
      fits_front = (h.0, r.front, refl, h.3, r.fits_front);
      fits_back = r.fits_back;
    }

-- ---- how many constructs are open does not matter

pub spells_deeper : (n : ℕ) (ms : List Mark) (ps : List Piece) → Spells ms ps → Spells (map (deeper_mark n) ms) ps
spells_deeper n [] ps h = h
spells_deeper n (m ∷ ms) ps h = (h.0, h.1, h.2, h.3, spells_deeper n ms h.1 h.4)

pub spells_shallow : (n : ℕ) (ms : List Mark) (ps : List Piece) → Spells (map (deeper_mark n) ms) ps → Spells ms ps
spells_shallow n [] ps h = h
spells_shallow n (m ∷ ms) ps h = (h.0, h.1, h.2, h.3, spells_shallow n ms h.1 h.4)

spells_one_deeper : (n : ℕ) (f : Form) (ps : List Piece) → SpellsOne f ps → SpellsOne (map (map (deeper_mark n)) f) ps
spells_one_deeper n [] ps h = h
spells_one_deeper n (ms ∷ f) ps h = elim h [
  | inl a ↦ inl (spells_deeper n ms ps a)
  | inr b ↦ inr (spells_one_deeper n f ps b)
]

spells_one_shallow : (n : ℕ) (f : Form) (ps : List Piece) → SpellsOne (map (map (deeper_mark n)) f) ps → SpellsOne f ps
spells_one_shallow n [] ps h = h
spells_one_shallow n (ms ∷ f) ps h = elim h [
  | inl a ↦ inl (spells_shallow n ms ps a)
  | inr b ↦ inr (spells_one_shallow n f ps b)
]

pub fits_deeper : (n : ℕ) (fs : List Form) (ps : List Piece) → Fits fs ps → Fits (deeper n fs) ps
fits_deeper n [] ps h = h
fits_deeper n (f ∷ fs) ps h = (h.0, h.1, h.2, spells_one_deeper n f h.0 h.3, fits_deeper n fs h.1 h.4)

pub fits_shallow : (n : ℕ) (fs : List Form) (ps : List Piece) → Fits (deeper n fs) ps → Fits fs ps
fits_shallow n [] ps h = h
fits_shallow n (f ∷ fs) ps h = (h.0, h.1, h.2, spells_one_shallow n f h.0 h.3, fits_shallow n fs h.1 h.4)

-- ---- with the constructs, and without

pub pieces_append : (ss ts : List Seen) → pieces (ss ++ ts) ≡ pieces ss ++ pieces ts
pieces_append [] ts = refl
pieces_append (s ∷ ss) ts = ap (λ (z : List Piece). s.piece ∷ z) (pieces_append ss ts)

spells_pieces : (ms : List Mark) (ss : List Seen) → AreOf ms ss → Spells ms (pieces ss)
spells_pieces [] ss h = ap pieces h
spells_pieces (m ∷ ms) ss h = (h.0.piece, pieces h.1, ap pieces h.2, h.3.wanted, spells_pieces ms h.1 h.4)

spells_one_pieces : (f : Form) (ss : List Seen) → IsOneOf f ss → SpellsOne f (pieces ss)
spells_one_pieces [] ss h = h
spells_one_pieces (ms ∷ f) ss h = elim h [
  | inl a ↦ inl (spells_pieces ms ss a)
  | inr b ↦ inr (spells_one_pieces f ss b)
]

pub fits_pieces : (fs : List Form) (ss : List Seen) → Matches fs ss → Fits fs (pieces ss)
fits_pieces [] ss h = ap pieces h
fits_pieces (f ∷ fs) ss h = (pieces h.0, pieces h.1, ap pieces h.2 ∙ pieces_append h.0 h.1, spells_one_pieces f h.0 h.3, fits_pieces fs h.1 h.4)

-- pieces that match with some counts
pub record SeenAs (fs : List Form) (ps : List Piece) : Type 0 where
  pub seen : List Seen
  pub are : pieces seen ≡ ps
  pub matches : Matches fs seen

record SeenBy (ms : List Mark) (ps : List Piece) : Type 0 where
  seen : List Seen
  are : pieces seen ≡ ps
  matches : AreOf ms seen

record SeenIn (f : Form) (ps : List Piece) : Type 0 where
  seen : List Seen
  are : pieces seen ≡ ps
  matches : IsOneOf f seen

seen_by : (ms : List Mark) (ps : List Piece) → Spells ms ps → SeenBy ms ps
seen_by [] ps h = record { seen = []; are = sym h; matches = refl }
seen_by (m ∷ ms) ps h =
    let r : SeenBy ms h.1 = seen_by ms h.1 h.4 in
    let first : Seen = record { piece = h.0; constructs = m.constructs } in
    record {
      seen = first ∷ r.seen;
      are = ap (λ (z : List Piece). h.0 ∷ z) r.are ∙ sym h.2;
      matches = (first, r.seen, refl, record { wanted = h.3; constructs = refl }, r.matches);
    }

seen_in : (f : Form) (ps : List Piece) → SpellsOne f ps → SeenIn f ps
seen_in [] ps h = absurd h
seen_in (ms ∷ f) ps h = elim h [
  | inl a ↦ (let r : SeenBy ms ps = seen_by ms ps a in record { seen = r.seen; are = r.are; matches = inl r.matches })
  | inr b ↦ (let r : SeenIn f ps = seen_in f ps b in record { seen = r.seen; are = r.are; matches = inr r.matches })
]

pub seen_as : (fs : List Form) (ps : List Piece) → Fits fs ps → SeenAs fs ps
seen_as [] ps h = record { seen = []; are = sym h; matches = refl }
seen_as (f ∷ fs) ps h =
    let a : SeenIn f h.0 = seen_in f h.0 h.3 in
    let b : SeenAs fs h.1 = seen_as fs h.1 h.4 in
    record {
      seen = a.seen ++ b.seen;
      are = pieces_append a.seen b.seen ∙ ap (λ (z : List Piece). z ++ pieces b.seen) a.are ∙ ap (λ (z : List Piece). h.0 ++ z) b.are ∙ sym h.2;
      matches = (a.seen, b.seen, refl, a.matches, b.matches);
    }

-- ---- runs

taken_twice : (ps qs : List Piece) → ((n : State) → run n (ps ++ qs) ≡ taken (run n ps) (λ m. run m qs)) → (made : Step)
    → taken made (λ n. run n (ps ++ qs)) ≡ taken (taken made (λ n. run n ps)) (λ n. run n qs)
taken_twice ps qs e (Ok n) = e n
taken_twice ps qs e (Err k) = refl

pub run_append : (s : State) (ps qs : List Piece) → run s (ps ++ qs) ≡ taken (run s ps) (λ n. run n qs)
run_append s [] qs = refl
run_append s (p ∷ ps) qs = taken_twice ps qs (λ n. run_append n ps qs) (take s p)

pub run_step : (s n : State) (q : Piece) (ps : List Piece) → take s q ≡ Ok n → run s (q ∷ ps) ≡ run n ps
run_step s n q ps e = ap (λ (o : Step). taken o (λ x. run x ps)) e

-- ---- no limit

plus_small : (a b : ℕ) → plus a b ≤ 2000
plus_small a b = by_tests (nat_lt a most_counted) (nat_lt b most_counted) (λ h. ltb-true a most_counted h) (λ h. ltb-true b most_counted h)
  where
    by_tests : (c d : Bool) → (c ≡ true → a < 1000) → (d ≡ true → b < 1000) → cond (c && d) (a + b) 1000 ≤ 2000
    by_tests true true f g = let x = f refl in let y = g refl in omega arith
    by_tests true false f g = omega arith
    by_tests false d f g = omega arith

pub always_shallow : (n : State) → is_shallow no_limit n ≡ true
always_shallow n = le-leb (plus (constructs n.outer) (more_constructs n.at)) no_limit (plus_small (constructs n.outer) (more_constructs n.at))

pub no_limit_is : (made : Step) → if_shallow no_limit made ≡ made
no_limit_is (Ok n) = ap (λ (b : Bool). cond b (Ok n) (Err refusal.Nesting)) (always_shallow n)
no_limit_is (Err k) = refl

-- a token of the text does what its spot says
pub take_is : (s : State) (t : Token) → is_last t.kind ≡ false → take s (Read t) ≡ step_in no_limit false s.outer s.at t
take_is s t e = ap (λ (b : Bool). cond b refuse (step no_limit false s t)) e ∙ no_limit_is (step_in no_limit false s.outer s.at t)
