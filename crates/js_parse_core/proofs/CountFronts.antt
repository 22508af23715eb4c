-- The counts of a run that has not finished.
use Rattle.std.proofs.Common.{◌≡◌, ℕ, ◌<◌, false, List, [], ◌∷◌, ◌++◌, map, Ok, refl, ◌∙◌, ap, subst}
use Rattle.js_lex.specs.declared.token.Punctuator.TheVariants as p
use Rattle.js_lex.specs.declared.token.Token.{Token}
use Rattle.js_lex.specs.declared.token.TokenKind.TheVariants as tok
use Rattle.js_tree.specs.declared.tree.Item.{Item}
use Rattle.js_grammar.specs.Marks.{Piece, Read, Seen, Matches}
use Rattle.js_grammar.specs.Grammar.{of_tree}
use Rattle.js_grammar.specs.Script.{pieces}
use Rattle.js_parse_core.specs.declared.machine.At.{At}
use Rattle.js_parse_core.specs.declared.machine.At.TheVariants as at
use Rattle.js_parse_core.specs.declared.machine.Block.TheVariants as block
use Rattle.js_parse_core.specs.declared.machine.Frame.TheVariants as frame
use Rattle.js_parse_core.specs.declared.machine.State.{State}
use Rattle.js_parse_core.specs.Machine.{step_in, start}
use Rattle.js_parse_core.specs.Outer.{Step, push}
use Rattle.js_parse_core.proofs.Pieces.{no_limit, take, taken, run, finish}
use Rattle.js_parse_core.proofs.PieceLemmas.{run_append, run_step, take_is}
use Rattle.js_parse_core.proofs.First.{Ending}
use Rattle.js_parse_core.proofs.OpenSteps.{reached_ending}
use Rattle.js_parse_core.proofs.CountedSpelled.{spelled}
use Rattle.js_parse_core.proofs.CountedGrows.{AllBelow}
use Rattle.js_parse_core.proofs.Counts.{raises, first_raises, Counted, run_counts, finish_matches}
use Rattle.js_parse_core.proofs.CountLaws.{IsAbove, IsWithin, CountsOf, start_above, start_below}

-- ---- an end that leaves all counts as they are

record Quiet (s : State) : Type 0 where
  more : List Piece
  last : State
  over : State
  quiet : first_raises s more ≡ false
  ran : run s more ≡ Ok last
  ends : finish last ≡ Ok over

quiet_tokens : (s : State) (ts : List Token) → ((t : Token) → raises s.at (Read t) ≡ false) → first_raises s (map Read ts) ≡ false
quiet_tokens s [] h = refl
quiet_tokens s (t ∷ ts) h = h t

plain_ending : (s : State) → Ending s → ((t : Token) → raises s.at (Read t) ≡ false) → Quiet s
plain_ending s e h = record { more = map Read e.more; last = e.last; over = e.over; quiet = quiet_tokens s e.more h; ran = e.ran; ends = e.ends }

abbrev brace : Token
brace = record { place = 0; after_line_end = false; kind = tok.Punctuator p.OpenBrace }

-- an arrow goes on with a block
block_ending : (ps : List Piece) (s n : State) → run start ps ≡ Ok s → take s (Read brace) ≡ Ok n → raises s.at (Read brace) ≡ false → Quiet s
block_ending ps s n e f h =
    let on : run start (ps ++ Read brace ∷ []) ≡ Ok n = run_append start ps (Read brace ∷ []) ∙ ap (λ (x : Step). taken x (λ m. run m (Read brace ∷ []))) e ∙ run_step s n (Read brace) [] f in
    let r : Ending n = reached_ending (ps ++ Read brace ∷ []) n on in
    record { more = Read brace ∷ map Read r.more; last = r.last; over = r.over; quiet = h; ran = run_step s n (Read brace) (map Read r.more) f ∙ r.ran; ends = r.ends }

quiet_at : (ps : List Piece) (s : State) (a : At) → run start ps ≡ Ok s → s.at ≡ a → Quiet s
quiet_at ps s (at.ArrowBody a ns) e h =
    block_ending ps s (record { outer = push s.outer 1 (frame.Block (block.Arrow a ns) []); at = at.Statement }) e
    (take_is s brace refl ∙ ap (λ (x : At). step_in no_limit false s.outer x brace) h) (ap (λ (x : At). raises x (Read brace)) h)
quiet_at ps s _ e h = plain_ending s (reached_ending ps s e) (λ t. ap (λ (x : At). raises x (Read t)) h)

-- ---- the law

-- a program that begins with these pieces, and their counts
pub record BegunSo (ps : List Piece) : Type 0 where
  pub tree : List Item
  pub front : List Seen
  pub rest : List Seen
  pub last : State
  pub over : State
  pub ran : run start (ps ++ pieces rest) ≡ Ok last
  pub ends : finish last ≡ Ok over
  pub items : over.outer.items ≡ tree
  pub are : pieces front ≡ ps
  pub matches : Matches (of_tree tree) (front ++ rest)
  pub above : IsAbove start [] front
  pub below : (most : ℕ) → most < 1000 → IsWithin most start ps → AllBelow most front

-- Each run from the start goes on to a program in which the pieces so far have the counts of the machine.
pub begun_seen : (ps : List Piece) (s : State) → run start ps ≡ Ok s → BegunSo ps
begun_seen ps s e =
    let c : Counted start [] ps (spelled s) = run_counts start s [] ps refl e in
    let q : Quiet s = quiet_at ps s s.at e refl in
    let read : Matches (spelled s) c.back = subst (λ (z : List Seen). Matches (spelled s) (z ++ c.back)) c.atop c.matches in
    let d : Counted s c.back q.more (spelled q.last) = run_counts s q.last c.back q.more read q.ran in
    let kept : d.front ≡ c.back = d.kept q.quiet in
    record {
      tree = q.over.outer.items;
      front = c.back;
      rest = d.back;
      last = q.last;
      over = q.over;
      ran = run_append start ps (pieces d.back) ∙ ap (λ (x : Step). taken x (λ m. run m (pieces d.back))) e ∙ ap (run s) d.are ∙ q.ran;
      ends = q.ends;
      items = refl;
      are = c.are;
      matches = subst (λ (z : List Seen). Matches (of_tree q.over.outer.items) (z ++ d.back)) kept (finish_matches q.last q.over (d.front ++ d.back) d.matches q.ends);
      above = start_above ps (spelled s) c;
      below = λ most l w. start_below ps (spelled s) c most l w;
    }

front_above : (s : State) (a b c : List Seen) → IsAbove s a (b ++ c) → IsAbove s a b
front_above s a [] c h = tt
front_above s a (x ∷ b) c h = λ n e. ((h n e).0, front_above n (a ++ x ∷ []) b c (h n e).1)

-- In each program the counts of a front are above those of the states behind its pieces.
pub begun_above : (front rest : List Seen) → CountsOf (front ++ rest) → IsAbove start [] front
begun_above front rest c = front_above start [] front rest c.above
