-- The counts of constructs that the machine keeps are those of the grammar.
use Rattle.std.proofs.Common.{◌≡◌, ℕ, ◌≤◌, ◌<◌, true, List, [], ◌∷◌, ◌++◌, Ok, subst, lt_of_le_of_lt, arith}
use Rattle.std.proofs.lemmas.Bool.{leb-true}
use Rattle.js_tree.specs.declared.tree.Item.{Item}
use Rattle.js_grammar.specs.Marks.{Piece, Seen, Form, Matches}
use Rattle.js_grammar.specs.Grammar.{of_tree}
use Rattle.js_grammar.specs.Script.{pieces}
use Rattle.js_parse_core.specs.declared.machine.State.{State}
use Rattle.js_parse_core.specs.Machine.{is_shallow, start}
use Rattle.js_parse_core.proofs.Pieces.{take, run, finish}
use Rattle.js_parse_core.proofs.Unique.{tree_unique}
use Rattle.js_parse_core.proofs.CountedSpelled.{level}
use Rattle.js_parse_core.proofs.CountedGrows.{Reaches, reaches_less, AllBelow}
use Rattle.js_parse_core.proofs.Counts.{Above, Low, Counted, script_counts}
use Rattle.js_parse_core.proofs.Stored.{Stored}
use Rattle.js_parse_core.proofs.StoredSteps.{stored_count, state_stores, take_stored, start_stored}

-- ---- the counts that states store

-- The count of the state behind each piece of b is no greater than that of one of the pieces up to it; the run goes on
-- from s, and a is what was read before.
abbrev pub IsAbove : State → List Seen → List Seen → Type 0
IsAbove s a [] = Unit {0}
IsAbove s a (x ∷ b) = (n : State) → take s x.piece ≡ Ok n → Reaches (stored_count n) (a ++ x ∷ []) × IsAbove n (a ++ x ∷ []) b

-- each step over these pieces is also made where at most so many constructs may be open
abbrev pub IsWithin : ℕ → State → List Piece → Type 0
IsWithin most s [] = Unit {0}
IsWithin most s (q ∷ qs) = (n : State) → take s q ≡ Ok n → (is_shallow most n ≡ true) × IsWithin most n qs

above_stored : (s : State) (a b : List Seen) → Stored s → Above s a b → IsAbove s a b
above_stored s a [] h w = tt
above_stored s a (x ∷ b) h w = λ n e.
    let r : Reaches (level n) (a ++ x ∷ []) × Above n (a ++ x ∷ []) b = w n e in
    let k : Stored n = take_stored s x.piece n h e in
    (reaches_less (stored_count n) (level n) (a ++ x ∷ []) (state_stores n k).0 r.0, above_stored n (a ++ x ∷ []) b k r.1)

-- counts do not stand still below a thousand
pub level_low : (most : ℕ) (n : State) → most < 1000 → Stored n → stored_count n ≤ most → level n ≤ most
level_low most n l h w = let e : stored_count n ≡ level n = (state_stores n h).1 (lt_of_le_of_lt w l) in subst (λ (z : ℕ). z ≤ most) e w

within_low : (most : ℕ) (s : State) (qs : List Piece) → most < 1000 → Stored s → IsWithin most s qs → Low most s qs
within_low most s [] l h w = tt
within_low most s (q ∷ qs) l h w = λ n e.
    let k : Stored n = take_stored s q n h e in
    (level_low most n l k (leb-true (stored_count n) most (w n e).0), within_low most n qs l k (w n e).1)

-- what a run from the start has read, with its counts
pub start_above : (ps : List Piece) (forms : List Form) (c : Counted start [] ps forms) → IsAbove start [] c.back
start_above ps forms c = above_stored start [] c.back start_stored (subst (λ (z : List Seen). Above start z c.back) c.atop c.above)

pub start_below : (ps : List Piece) (forms : List Form) (c : Counted start [] ps forms) (most : ℕ) → most < 1000 → IsWithin most start ps → AllBelow most c.back
start_below ps forms c most l w = (c.below most (omega arith) tt (within_low most start ps l start_stored w)).1

-- ---- the law

-- these counts bound those of the machine over the pieces, and are bounded by them
pub record CountsOf (seen : List Seen) : Type 0 where
  pub above : IsAbove start [] seen
  pub below : (most : ℕ) → most < 1000 → IsWithin most start (pieces seen) → AllBelow most seen

-- the tree is written as these pieces, with such counts
pub record SeenSo (tree : List Item) (ps : List Piece) : Type 0 where
  pub seen : List Seen
  pub are : pieces seen ≡ ps
  pub matches : Matches (of_tree tree) seen
  pub counts : CountsOf seen

-- The pieces of a script have the tree's counts, which bound those of the machine and are bounded by them.
pub script_seen : (ps : List Piece) (s n : State) → run start ps ≡ Ok s → finish s ≡ Ok n → SeenSo n.outer.items ps
script_seen ps s n e f =
    let c : Counted start [] ps (of_tree n.outer.items) = script_counts ps s n e f in
    record {
      seen = c.back;
      are = c.are;
      matches = subst (λ (z : List Seen). Matches (of_tree n.outer.items) (z ++ c.back)) c.atop c.matches;
      counts = record {
        above = start_above ps (of_tree n.outer.items) c;
        below = λ most l w. start_below ps (of_tree n.outer.items) c most l (subst (IsWithin most start) c.are w);
      };
    }

-- .. and no others are the tree's
pub counts_are : (tree : List Item) (seen : List Seen) (s n : State) → Matches (of_tree tree) seen → run start (pieces seen) ≡ Ok s → finish s ≡ Ok n → n.outer.items ≡ tree → CountsOf seen
counts_are tree seen s n m e f i =
    let r : SeenSo tree (pieces seen) = subst (λ (t : List Item). SeenSo t (pieces seen)) i (script_seen (pieces seen) s n e f) in
    subst CountsOf (tree_unique tree r.seen seen r.matches m r.are) r.counts
