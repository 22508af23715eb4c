-- Runs where a limit holds, and what they say of the counts of programs.
use Rattle.std.proofs.Common.{◌≡◌, ℕ, ◌≤◌, ◌<◌, Bool, true, false, cond, ◌+◌, arith, List, [], ◌∷◌, ◌++◌, Ok, Err, refl, sym, ◌∙◌, ap, subst, append_assoc, le_refl, le-leb}
use Rattle.std.specs.Prelude.{not, nat_le}
use Rattle.std.proofs.lemmas.Bool.{false≢true, not-true, and_parts, leb-true}
use Rattle.std.proofs.lemmas.List.{append-nil}
use Rattle.js_lex.specs.declared.token.Token.{Token}
use Rattle.js_parse_core.specs.declared.machine.At.{At}
use Rattle.js_parse_core.specs.declared.machine.At.TheVariants as at
use Rattle.js_parse_core.specs.declared.machine.Block.TheVariants as block
use Rattle.js_parse_core.specs.declared.machine.Frame.TheVariants as frame
use Rattle.js_parse_core.specs.declared.machine.Outer.{Outer}
use Rattle.js_parse_core.specs.declared.machine.Refusal.TheVariants as refusal
use Rattle.js_parse_core.specs.declared.machine.Tail.TheVariants as tail
use Rattle.js_parse_core.specs.Begin.{begin}
use Rattle.js_parse_core.specs.Expressions.{arrow_value}
use Rattle.js_parse_core.specs.Tokens.{is_open_brace}
use Rattle.js_grammar.specs.Marks.{Piece, Read, Ended, Seen}
use Rattle.js_grammar.specs.Script.{pieces}
use Rattle.js_parse_core.specs.declared.machine.State.{State}
use Rattle.js_parse_core.specs.Machine.{is_shallow, if_shallow, step_in, step, start}
use Rattle.js_parse_core.specs.Outer.{Step, refuse, push, open_block, constructs}
use Rattle.js_parse_core.proofs.Pieces.{no_limit, end_token, is_between, is_last, take, taken, run}
use Rattle.js_parse_core.proofs.Limits.{is_full_at, is_full, limited_ok, limited_shallow}
use Rattle.js_parse_core.proofs.CountedSpelled.{levels, level}
use Rattle.js_parse_core.proofs.Counts.{AtLeast, begin_rises}
use Rattle.js_parse_core.proofs.Stored.{Stored, StoredStep, here_stores}
use Rattle.js_parse_core.proofs.CountedGrows.{Reaches, AllBelow, below_reaches}
use Rattle.js_parse_core.proofs.StoredSteps.{stored_count, take_stored, piece_stored, start_stored}
use Rattle.js_parse_core.proofs.CountLaws.{level_low, IsAbove, IsWithin, CountsOf}
use Rattle.js_parse_core.proofs.CountFronts.{BegunSo, begun_seen, begun_above}

-- ---- runs where at most so many constructs may be open

abbrev pub take_in : ℕ → State → Piece → Step
take_in most s (Read t) = cond (is_last t.kind) refuse (step most false s t)
take_in most s Ended = cond (is_between s.at) refuse (step most false s end_token)

abbrev pub run_in : ℕ → State → List Piece → Step
run_in most s [] = Ok s
run_in most s (q ∷ qs) = taken (take_in most s q) (λ n. run_in most n qs)

-- .. are made without the limit too, and no state has more
abbrev InLimit : ℕ → Step → Step → Type 0
InLimit most (Ok n) whole = (whole ≡ Ok n) × (is_shallow most n ≡ true)
InLimit most (Err k) whole = Unit {0}

in_limit_cond : (most : ℕ) (b : Bool) (x y : Step) → InLimit most x y → InLimit most (cond b refuse x) (cond b refuse y)
in_limit_cond most true x y h = tt
in_limit_cond most false x y h = h

in_limit_step : (most : ℕ) (made whole : Step) → ((n : State) → made ≡ Ok n → (whole ≡ Ok n) × (is_shallow most n ≡ true)) → InLimit most made whole
in_limit_step most (Ok n) whole h = h n refl
in_limit_step most (Err k) whole h = tt

take_in_limit : (most : ℕ) (s : State) (q : Piece) → most ≤ no_limit → InLimit most (take_in most s q) (take s q)
take_in_limit most s (Read t) l = in_limit_cond most (is_last t.kind) _ _ (in_limit_step most (step most false s t) (step no_limit false s t) (λ n e. (limited_ok most false s n t l e, limited_shallow most false s n t l e)))
take_in_limit most s Ended l = in_limit_cond most (is_between s.at) _ _ (in_limit_step most (step most false s end_token) (step no_limit false s end_token) (λ n e. (limited_ok most false s n end_token l e, limited_shallow most false s n end_token l e)))

abbrev RunsIn : ℕ → State → List Piece → Step → Type 0
RunsIn most s qs (Ok n) = (run s qs ≡ Ok n) × IsWithin most s qs
RunsIn most s qs (Err k) = Unit {0}

ok_same : (m n : State) (x : Step) → x ≡ Ok m → x ≡ Ok n → m ≡ n
ok_same m n x e f = ap (state_of m) (sym e ∙ f)
  where
    state_of : State → Step → State
    state_of d (Ok y) = y
    state_of d (Err k) = d

runs_in_step : (most : ℕ) (s : State) (q : Piece) (qs : List Piece) (made : Step) → InLimit most made (take s q) → ((n : State) → RunsIn most n qs (run_in most n qs)) → RunsIn most s (q ∷ qs) (taken made (λ n. run_in most n qs))
runs_in_step most s q qs (Err k) h go = tt
runs_in_step most s q qs (Ok n) h go = behind (run_in most n qs) (go n)
  where
    behind : (x : Step) → RunsIn most n qs x → RunsIn most s (q ∷ qs) x
    behind (Ok m) r = (
      ap (λ (y : Step). taken y (λ z. run z qs)) h.0 ∙ r.0,
      λ z e. subst (λ (y : State). (is_shallow most y ≡ true) × IsWithin most y qs) (ok_same n z (take s q) h.0 e) (h.1, r.1),
    )
    behind (Err k) r = tt

runs_in : (most : ℕ) (qs : List Piece) (s : State) → most ≤ no_limit → RunsIn most s qs (run_in most s qs)
runs_in most [] s l = (refl, tt)
runs_in most (q ∷ qs) s l = runs_in_step most s q qs (take_in most s q) (take_in_limit most s q l) (λ n. runs_in most qs n l)

pub run_in_limit : (most : ℕ) (qs : List Piece) (s n : State) → most ≤ no_limit → run_in most s qs ≡ Ok n → (run s qs ≡ Ok n) × IsWithin most s qs
run_in_limit most qs s n l e = let r : RunsIn most s qs (Ok n) = subst (RunsIn most s qs) e (runs_in most qs s l) in r

-- ---- the laws

-- a program that begins with these pieces, where at most so many constructs are open at each
pub record ShallowSo (most : ℕ) (ps : List Piece) : Type 0 where
  pub begun : BegunSo ps
  pub shallow : AllBelow most begun.front

-- What is read where a limit holds begins a program that keeps to the limit so far.
pub limited_begins : (most : ℕ) (ps : List Piece) (s : State) → most < 1000 → most ≤ no_limit → run_in most start ps ≡ Ok s → ShallowSo most ps
limited_begins most ps s l k e =
    let r : (run start ps ≡ Ok s) × IsWithin most start ps = run_in_limit most ps start s k e in
    let b : BegunSo ps = begun_seen ps s r.0 in
    record { begun = b; shallow = b.below most l r.1 }

abbrev IsErr : Step → Type 0
IsErr (Ok m) = ⊥
IsErr (Err k) = Unit {0}

reached_above : (b a : List Seen) (s n : State) → IsAbove s a b → Reaches (stored_count s) a → run s (pieces b) ≡ Ok n → Reaches (stored_count n) (a ++ b)
reached_above [] a s n h r e = subst (Reaches (stored_count n)) (sym (append-nil a)) (subst (λ (z : State). Reaches (stored_count z) a) (ok_same s n (Ok s) refl e) r)
reached_above (x ∷ b) a s n h r e = behind (take s x.piece) refl e (λ m k i. reached_above b (a ++ x ∷ []) m n (h m k).1 (h m k).0 i)
  where
    behind : (y : Step) → take s x.piece ≡ y → taken y (λ z. run z (pieces b)) ≡ Ok n → ((m : State) → take s x.piece ≡ Ok m → run m (pieces b) ≡ Ok n → Reaches (stored_count n) ((a ++ x ∷ []) ++ b)) → Reaches (stored_count n) (a ++ x ∷ b)
    behind (Ok m) k i go = subst (Reaches (stored_count n)) (append_assoc a (x ∷ []) b) (go m k i)
    behind (Err z) k i go = absurd (subst IsErr i tt)

-- Where a program keeps to the limit so far, so does the machine: at a state that does not, no program goes on that does.
pub shallow_reached : (most : ℕ) (front rest : List Seen) (n : State) → CountsOf (front ++ rest) → run start (pieces front) ≡ Ok n → AllBelow most front → is_shallow most n ≡ true
shallow_reached most front rest n c e h = le-leb (stored_count n) most (below_reaches (stored_count n) most front (reached_above front [] start n (begun_above front rest c) (le_refl 0) e) h)

-- ---- an arrow before a value where the limit is reached

value_rises : (k : ℕ) (b : Bool) (x : Step) → AtLeast k x → AtLeast k (arrow_value b x)
value_rises k true (Ok n) h = tt
value_rises k true (Err e) h = tt
value_rises k false x h = h

shallow_rises : (k most : ℕ) (x : Step) → AtLeast k x → AtLeast k (if_shallow most x)
shallow_rises k most (Ok n) h = either (is_shallow most n)
  where
    either : (b : Bool) → AtLeast k (cond b (Ok n) (Err refusal.Nesting))
    either true = h
    either false = tt
shallow_rises k most (Err e) h = tt

record Full (most : ℕ) (o : Outer) (a : At) (t : Token) : Type 0 where
  count : most ≤ constructs o
  rises : AtLeast (levels o.frames + 1) (step_in no_limit false o a t)

full_rises : (most : ℕ) (o : Outer) (a : At) (t : Token) → is_full_at most o a t ≡ true → Full most o a t
full_rises most o (at.ArrowBody a ns) t h =
    let both : (not (is_open_brace t.kind) ≡ true) × (nat_le most (constructs o) ≡ true) = and_parts (not (is_open_brace t.kind)) (nat_le most (constructs o)) h in
    let inner : Outer = push o 1 (frame.Tail (tail.Arrow a ns)) in
    record {
      count = leb-true most (constructs o) both.1;
      rises = subst (λ (b : Bool). AtLeast (levels o.frames + 1) (cond b (open_block o 1 (block.Arrow a ns)) (arrow_value (nat_le no_limit (constructs o)) (begin inner t)))) (sym (not-true (is_open_brace t.kind) both.0))
          (value_rises (levels o.frames + 1) (nat_le no_limit (constructs o)) (begin inner t) (begin_rises inner t));
    }
full_rises most o _ t h = absurd (false≢true h)

take_rises : (k : ℕ) (s : State) (t : Token) → AtLeast k (step_in no_limit false s.outer s.at t) → AtLeast k (take s (Read t))
take_rises k s t h = either (is_last t.kind)
  where
    either : (b : Bool) → AtLeast k (cond b refuse (step no_limit false s t))
    either true = tt
    either false = shallow_rises k no_limit (step_in no_limit false s.outer s.at t) h

run_stored_step : (qs : List Piece) (s : State) → Stored s → StoredStep (run s qs)
run_stored_step [] s h = h
run_stored_step (q ∷ qs) s h = behind (take s q) (piece_stored s q h) (λ n k. run_stored_step qs n k)
  where
    behind : (x : Step) → StoredStep x → ((n : State) → Stored n → StoredStep (run n qs)) → StoredStep (taken x (λ n. run n qs))
    behind (Ok n) k go = go n k
    behind (Err e) k go = tt

-- Where a step is refused since the token before opens one construct too many, it leads, without the limit, to a state that does not keep to it.
pub full_deep : (most : ℕ) (ps : List Piece) (s n : State) (t : Token) → most < 1000 → run start ps ≡ Ok s → take s (Read t) ≡ Ok n → is_full most s t ≡ true → is_shallow most n ≡ false
full_deep most ps s n t l r e h = either (is_shallow most n) refl
  where
    stored : Stored s
    stored = let k : StoredStep (Ok s) = subst StoredStep r (run_stored_step ps start start_stored) in k

    full : Full most s.outer s.at t
    full = full_rises most s.outer s.at t h

    higher : levels s.outer.frames + 1 ≤ level n
    higher = let k : AtLeast (levels s.outer.frames + 1) (Ok n) = subst (AtLeast (levels s.outer.frames + 1)) e (take_rises (levels s.outer.frames + 1) s t full.rises) in k

    below : constructs s.outer ≤ levels s.outer.frames
    below = (here_stores s.outer stored.frames).0

    deeper_than : (a b c m : ℕ) → a ≤ b → b ≤ c → c + 1 ≤ m → m ≤ a → ⊥
    deeper_than a b c m w x y z = absurd (omega arith)

    either : (b : Bool) → is_shallow most n ≡ b → is_shallow most n ≡ false
    either false i = i
    either true i = absurd (deeper_than most (constructs s.outer) (levels s.outer.frames) (level n) full.count below higher (level_low most n l (take_stored s (Read t) n stored e) (leb-true (stored_count n) most i)))
