-- The machine with a limit, and the machine with none.
use Rattle.std.proofs.Common.{◌≡◌, ℕ, ◌+◌, ◌<◌, ◌≤◌, Bool, true, false, cond, not, ◌&&◌, Ok, Err, nat_le, nat_lt, refl, sym, ap, ◌∙◌, subst, arith}
use Rattle.std.proofs.lemmas.Bool.{le-leb, lt-leb, leb-true, leb-false}
use Rattle.js_lex.specs.declared.token.Token.{Token}
use Rattle.js_parse_core.specs.declared.machine.At.{At}
use Rattle.js_parse_core.specs.declared.machine.At.TheVariants as at
use Rattle.js_parse_core.specs.declared.machine.Block.TheVariants as block
use Rattle.js_parse_core.specs.declared.machine.Frame.TheVariants as frame
use Rattle.js_parse_core.specs.declared.machine.Outer.{Outer}
use Rattle.js_parse_core.specs.declared.machine.Refusal.{Refusal}
use Rattle.js_parse_core.specs.declared.machine.Refusal.TheVariants as refusal
use Rattle.js_parse_core.specs.declared.machine.State.{State}
use Rattle.js_parse_core.specs.declared.machine.Tail.TheVariants as tail
use Rattle.js_parse_core.specs.Begin.{begin}
use Rattle.js_parse_core.specs.Expressions.{arrow_value}
use Rattle.js_parse_core.specs.Outer.{Step, push, open_block, plus, most_counted, constructs}
use Rattle.js_parse_core.specs.Tokens.{is_open_brace}
use Rattle.js_parse_core.specs.Machine.{step, step_in, if_shallow, is_shallow, more_constructs, start}
use Rattle.js_parse_core.proofs.Pieces.{no_limit}
use Rattle.js_parse_core.proofs.PieceLemmas.{no_limit_is}
use Rattle.js_parse_core.proofs.Told.{NotDeep, Told}
use Rattle.js_parse_core.proofs.ToldSteps.{told_step_in}

-- how many constructs are open
abbrev pub count : State → ℕ
count s = plus (constructs s.outer) (more_constructs s.at)

-- a body without braces would be one construct too many
abbrev pub is_full_at : ℕ → Outer → At → Token → Bool
is_full_at most o (at.ArrowBody a ns) t = not (is_open_brace t.kind) && nat_le most (constructs o)
is_full_at most o _ t = false

abbrev pub is_full : ℕ → State → Token → Bool
is_full most s t = is_full_at most s.outer s.at t

full_twice : (a b : Bool) (made : Step) → (a ≡ false → b ≡ false) → arrow_value a made ≡ arrow_value a (arrow_value b made)
full_twice true true (Ok n) h = refl
full_twice true false (Ok n) h = refl
full_twice true true (Err k) h = refl
full_twice true false (Err k) h = refl
full_twice false b made h = ap (λ (z : Bool). arrow_value z made) (sym (h refl))

le_more : (most n : ℕ) → most ≤ no_limit → nat_le most n ≡ false → nat_le no_limit n ≡ false
le_more most n l h = lt-leb no_limit n (let d = leb-false most n h in omega arith)

arrow_body_is : (most : ℕ) (o : Outer) (made opened : Step) (brace : Bool) → most ≤ no_limit
    → cond brace opened (arrow_value (nat_le most (constructs o)) made)
    ≡ arrow_value (not brace && nat_le most (constructs o)) (cond brace opened (arrow_value (nat_le no_limit (constructs o)) made))
arrow_body_is most o made opened true l = refl
arrow_body_is most o made opened false l = full_twice (nat_le most (constructs o)) (nat_le no_limit (constructs o)) made (le_more most (constructs o) l)

step_in_is : (most : ℕ) (auto : Bool) (o : Outer) (a : At) (t : Token) → most ≤ no_limit → step_in most auto o a t ≡ arrow_value (is_full_at most o a t) (step_in no_limit auto o a t)
step_in_is most auto o (at.ArrowBody a ns) t l =
    arrow_body_is most o (begin (push o 1 (frame.Tail (tail.Arrow a ns))) t) (open_block o 1 (block.Arrow a ns)) (is_open_brace t.kind) l
step_in_is most auto o _ t l = refl

-- The limited step by the other.
pub step_is : (most : ℕ) (auto : Bool) (s : State) (t : Token) → most ≤ no_limit
    → step most auto s t ≡ if_shallow most (arrow_value (is_full most s t) (step no_limit auto s t))
step_is most auto s t l =
    ap (if_shallow most) (step_in_is most auto s.outer s.at t l
    ∙ ap (arrow_value (is_full most s t)) (sym (no_limit_is (step_in no_limit auto s.outer s.at t))))

-- ---- a limited step and the other

-- What the limited step gives, by what the other does.
abbrev limited : ℕ → Bool → Step → Step
limited most full made = if_shallow most (arrow_value full made)

record LimitedOk (most : ℕ) (full : Bool) (made : Step) (n : State) : Type 0 where
  is : made ≡ Ok n
  room : full ≡ false
  shallow : is_shallow most n ≡ true

by_depth : (most : ℕ) (m n : State) (b : Bool) → is_shallow most m ≡ b → cond b (Ok m) (Err refusal.Nesting) ≡ Ok n → LimitedOk most false (Ok m) n
by_depth most m n true s e = let i : m ≡ n = cc in record { is = e; room = refl; shallow = subst (λ (z : State). is_shallow most z ≡ true) i s }
by_depth most m n false s e = absurd cc

limited_made : (most : ℕ) (full : Bool) (made : Step) (n : State) → limited most full made ≡ Ok n → LimitedOk most full made n
limited_made most true (Ok m) n e = absurd cc
limited_made most true (Err k) n e = absurd cc
limited_made most false (Ok m) n e = by_depth most m n (is_shallow most m) refl e
limited_made most false (Err k) n e = absurd cc

deep_made : (most : ℕ) (made : Step) (n : State) (b : Bool) → is_shallow most n ≡ b → made ≡ Ok n → if_shallow most made ≡ cond b (Ok n) (Err refusal.Nesting)
deep_made most made n b s e = ap (if_shallow most) e ∙ ap (λ (z : Bool). cond z (Ok n) (Err refusal.Nesting)) s

-- a step that is made is made with no limit too
pub limited_ok : (most : ℕ) (auto : Bool) (s n : State) (t : Token) → most ≤ no_limit → step most auto s t ≡ Ok n → step no_limit auto s t ≡ Ok n
limited_ok most auto s n t l e = (limited_made most (is_full most s t) (step no_limit auto s t) n (sym (step_is most auto s t l) ∙ e)).is

pub limited_room : (most : ℕ) (auto : Bool) (s n : State) (t : Token) → most ≤ no_limit → step most auto s t ≡ Ok n → is_full most s t ≡ false
limited_room most auto s n t l e = (limited_made most (is_full most s t) (step no_limit auto s t) n (sym (step_is most auto s t l) ∙ e)).room

-- .. and leads to no more than may be open
pub limited_shallow : (most : ℕ) (auto : Bool) (s n : State) (t : Token) → most ≤ no_limit → step most auto s t ≡ Ok n → is_shallow most n ≡ true
limited_shallow most auto s n t l e = (limited_made most (is_full most s t) (step no_limit auto s t) n (sym (step_is most auto s t l) ∙ e)).shallow

limited_at : (most : ℕ) (auto : Bool) (s : State) (t : Token) (full : Bool) (made : Step) → most ≤ no_limit → is_full most s t ≡ full → step no_limit auto s t ≡ made → step most auto s t ≡ limited most full made
limited_at most auto s t full made l f e = step_is most auto s t l ∙ ap (λ (z : Bool). limited most z (step no_limit auto s t)) f ∙ ap (limited most full) e

-- With no limit the step is made. It is made with one ..
pub unlimited_ok : (most : ℕ) (auto : Bool) (s n : State) (t : Token) → most ≤ no_limit → step no_limit auto s t ≡ Ok n → is_full most s t ≡ false → is_shallow most n ≡ true → step most auto s t ≡ Ok n
unlimited_ok most auto s n t l e f d = limited_at most auto s t false (Ok n) l f e ∙ ap (λ (z : Bool). cond z (Ok n) (Err refusal.Nesting)) d

-- .. or opens one construct too many ..
pub unlimited_deep : (most : ℕ) (auto : Bool) (s n : State) (t : Token) → most ≤ no_limit → step no_limit auto s t ≡ Ok n → is_full most s t ≡ false → is_shallow most n ≡ false → step most auto s t ≡ Err refusal.Nesting
unlimited_deep most auto s n t l e f d = limited_at most auto s t false (Ok n) l f e ∙ ap (λ (z : Bool). cond z (Ok n) (Err refusal.Nesting)) d

-- .. or the arrow before it does.
pub unlimited_full : (most : ℕ) (auto : Bool) (s n : State) (t : Token) → most ≤ no_limit → step no_limit auto s t ≡ Ok n → is_full most s t ≡ true → step most auto s t ≡ Err refusal.NestingBefore
unlimited_full most auto s n t l e f = limited_at most auto s t true (Ok n) l f e

-- what is refused with no limit is refused as it is
pub unlimited_refused : (most : ℕ) (auto : Bool) (s : State) (t : Token) (k : Refusal) → most ≤ no_limit → step no_limit auto s t ≡ Err k → step most auto s t ≡ Err k
unlimited_refused most auto s t k l e = limited_at most auto s t (is_full most s t) (Err k) l refl e ∙ refused (is_full most s t)
  where
    refused : (b : Bool) → limited most b (Err k) ≡ Err k
    refused true = refl
    refused false = refl

-- ---- refusals

err_same : (j k : Refusal) → (let r : Step = Err j in r) ≡ Err k → j ≡ k
err_same j k e = cc

not_deep_made : (most : ℕ) (full : Bool) (made : Step) (k : Refusal) → limited most full made ≡ Err k → NotDeep k → made ≡ Err k
not_deep_made most true (Ok m) k e h = absurd (subst NotDeep (sym (err_same refusal.NestingBefore k e)) h)
not_deep_made most true (Err r) k e h = e
not_deep_made most false (Ok m) k e h = absurd (by_test (is_shallow most m) e)
  where
    by_test : (b : Bool) → cond b (Ok m) (Err refusal.Nesting) ≡ Err k → ⊥
    by_test true d = cc
    by_test false d = subst NotDeep (sym (err_same refusal.Nesting k d)) h
not_deep_made most false (Err r) k e h = e

-- a refusal for another reason is the same with no limit
pub limited_refused : (most : ℕ) (auto : Bool) (s : State) (t : Token) (k : Refusal) → most ≤ no_limit → step most auto s t ≡ Err k → NotDeep k → step no_limit auto s t ≡ Err k
limited_refused most auto s t k l e h = not_deep_made most (is_full most s t) (step no_limit auto s t) k (sym (step_is most auto s t l) ∙ e) h

-- the counts of what is open stand below those that no machine reaches
abbrev pub IsLow : State → Type 0
IsLow s = nat_le no_limit (constructs s.outer) ≡ false

pub no_limit_told : (auto : Bool) (s : State) (t : Token) → IsLow s → Told (step no_limit auto s t)
no_limit_told auto s t h = subst Told (sym (no_limit_is (step_in no_limit auto s.outer s.at t))) (told_step_in no_limit auto s.outer s.at t h)

-- the token opens one construct too many
pub record OpensTooMany (most : ℕ) (auto : Bool) (s : State) (t : Token) : Type 0 where
  pub next : State
  pub made : step no_limit auto s t ≡ Ok next
  pub room : is_full most s t ≡ false
  pub deep : is_shallow most next ≡ false

-- .. or the arrow before it does
pub record OpenedTooMany (most : ℕ) (auto : Bool) (s : State) (t : Token) : Type 0 where
  pub next : State
  pub made : step no_limit auto s t ≡ Ok next
  pub full : is_full most s t ≡ true

pub nesting : (most : ℕ) (auto : Bool) (s : State) (t : Token) → most ≤ no_limit → IsLow s → step most auto s t ≡ Err refusal.Nesting → OpensTooMany most auto s t
nesting most auto s t l w e = by_made (step no_limit auto s t) (is_full most s t) refl refl (no_limit_told auto s t w) (sym (step_is most auto s t l) ∙ e)
  where
    by_test : (m : State) (b : Bool) → is_shallow most m ≡ b → cond b (Ok m) (Err refusal.Nesting) ≡ Err refusal.Nesting → is_shallow most m ≡ false
    by_test m true s d = absurd cc
    by_test m false s d = s

    by_made : (made : Step) (full : Bool) → step no_limit auto s t ≡ made → is_full most s t ≡ full → Told made → limited most full made ≡ Err refusal.Nesting → OpensTooMany most auto s t
    by_made (Ok m) true i f h d = absurd cc
    by_made (Ok m) false i f h d = record { next = m; made = i; room = f; deep = by_test m (is_shallow most m) refl d }
    by_made (Err k) true i f h d = absurd (subst NotDeep (err_same k refusal.Nesting d) h)
    by_made (Err k) false i f h d = absurd (subst NotDeep (err_same k refusal.Nesting d) h)

pub nesting_before : (most : ℕ) (auto : Bool) (s : State) (t : Token) → most ≤ no_limit → IsLow s → step most auto s t ≡ Err refusal.NestingBefore → OpenedTooMany most auto s t
nesting_before most auto s t l w e = by_made (step no_limit auto s t) (is_full most s t) refl refl (no_limit_told auto s t w) (sym (step_is most auto s t l) ∙ e)
  where
    by_test : (m : State) (b : Bool) → cond b (Ok m) (Err refusal.Nesting) ≡ Err refusal.NestingBefore → ⊥
    by_test m true d = cc
    by_test m false d = cc

    by_made : (made : Step) (full : Bool) → step no_limit auto s t ≡ made → is_full most s t ≡ full → Told made → limited most full made ≡ Err refusal.NestingBefore → OpenedTooMany most auto s t
    by_made (Ok m) true i f h d = record { next = m; made = i; full = f }
    by_made (Ok m) false i f h d = absurd (by_test m (is_shallow most m) d)
    by_made (Err k) true i f h d = absurd (subst NotDeep (err_same k refusal.NestingBefore d) h)
    by_made (Err k) false i f h d = absurd (subst NotDeep (err_same k refusal.NestingBefore d) h)

-- ---- counts

pub start_shallow : (most : ℕ) → is_shallow most start ≡ true
start_shallow most = le-leb 0 most (omega arith)

plus_least : (a b most : ℕ) → most < most_counted → plus a b ≤ most → a + b ≤ most
plus_least a b most l h = by_tests (nat_lt a most_counted) (nat_lt b most_counted) h
  where
    by_tests : (x y : Bool) → cond (x && y) (a + b) most_counted ≤ most → a + b ≤ most
    by_tests true true d = d
    by_tests true false d = absurd (let z = d in omega arith)
    by_tests false y d = absurd (let z = d in omega arith)

-- below the limit counts are sums
pub shallow_sum : (most : ℕ) (s : State) → most < most_counted → is_shallow most s ≡ true → constructs s.outer + more_constructs s.at ≤ most
shallow_sum most s l h = plus_least (constructs s.outer) (more_constructs s.at) most l (leb-true (count s) most h)

pub shallow_low : (most : ℕ) (s : State) → most < most_counted → is_shallow most s ≡ true → IsLow s
shallow_low most s l h = lt-leb no_limit (constructs s.outer) (let d = shallow_sum most s l h in omega arith)

not_left : (a b : Bool) → (a && b) ≡ true → b ≡ true
not_left true b h = h
not_left false b h = cc

full_at : (most : ℕ) (o : Outer) (a : At) (t : Token) → is_full_at most o a t ≡ true → nat_le most (constructs o) ≡ true
full_at most o (at.ArrowBody a ns) t h = not_left (not (is_open_brace t.kind)) (nat_le most (constructs o)) h
full_at most o _ t h = absurd cc

-- as many as may be open are open
pub full_exactly : (most : ℕ) (s : State) (t : Token) → most < most_counted → is_shallow most s ≡ true → is_full most s t ≡ true → constructs s.outer ≡ most
full_exactly most s t l h f =
    let a = shallow_sum most s l h in
    let b = leb-true most (constructs s.outer) (full_at most s.outer s.at t f) in
    omega arith
