-- Whole journals: the state after one, and which are legal.
use Rattle.std.specs.Prelude.{◌≡◌, ℕ, Bool, true, ◌&&◌, List, [], ◌∷◌, Some, None, is_none, Result, Ok, Err}
use Rattle.wd_base.specs.declared.config.Config.{Config}
use Rattle.wd_machine.specs.declared.apply.Core.{Core}
use Rattle.wd_machine.specs.declared.journal.Entry.{Entry}
use Rattle.wd_machine.specs.declared.journal.Journal.{Journal}
use Rattle.wd_machine.specs.declared.refusal.ApplyEnd.{ApplyEnd}
use Rattle.wd_machine.specs.declared.refusal.ApplyEnd.TheVariants.{Refused as Refuses, NoMemory}
use Rattle.wd_machine.specs.declared.state.State.{State}
use Rattle.wd_machine.specs.First.{first_state}
use Rattle.wd_machine.specs.Meaning.{Meaning}
use Rattle.wd_machine.specs.Rules.{broken, broken_in, is_open, is_whole}
use Rattle.wd_machine.specs.Steps.{step}

-- the state after some entries, from a state on
abbrev pub after_from : {I : Type 0} → Meaning I → State I → List Entry → State I
after_from m s [] = s
after_from m s (e ∷ es) = after_from m (step m s e) es

-- the state after the entries of a journal
abbrev pub after : {I : Type 0} → Meaning I → Config → List Entry → State I
after m world entries = after_from m (first_state m world) entries

-- each entry is allowed after those before it, from a state on
abbrev pub legal_from : {I : Type 0} → Meaning I → Bool → (List ℕ → Bool) → Config → State I → List Entry → Bool
legal_from m whole opens world s [] = true
legal_from m whole opens world s (e ∷ es) = is_none (broken_in whole opens world s e) && legal_from m whole opens world (step m s e) es

-- each entry of the journal is allowed after those before it, under the journal's head
abbrev pub legal : {I : Type 0} → Meaning I → Config → Journal → Bool
legal m world journal = legal_from m (is_whole journal.head) (is_open world journal.head) world (first_state m world) journal.entries

-- an entry that is allowed was taken, or memory was wanting
abbrev pub Takes : {I : Type 0} → Meaning I → Core I → Entry → Core I → Result Unit ApplyEnd → Type 0
Takes m old e new (Ok x) = new ≡ record old { machine = step m old.machine e }
Takes m old e new (Err (Refuses refused)) = ⊥
Takes m old e new (Err NoMemory) = (new.failed ≡ true) × (new.world ≡ old.world)

-- one call of `apply`: the step where the entry is allowed, else the least rule that it breaks and nothing changed
abbrev pub Applies : {I : Type 0} → Meaning I → Core I → Entry → Core I → Result Unit ApplyEnd → Type 0
Applies m old e new (Ok x) = (broken old.world old.head old.machine e ≡ None) × (new ≡ record old { machine = step m old.machine e })
Applies m old e new (Err (Refuses refused)) = (broken old.world old.head old.machine e ≡ Some refused) × (new ≡ old)
Applies m old e new (Err NoMemory) = (new.failed ≡ true) × (new.world ≡ old.world)
