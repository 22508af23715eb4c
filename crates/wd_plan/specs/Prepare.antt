-- What the code came to, against the plan.
use Rattle.std.specs.Prelude.{◌≡◌, ◌⊎◌, ◌≤◌, ℕ, List, length, Option, Some, None, Result, Ok, Err, IsErrAnd}
use Rattle.wd_base.specs.declared.config.Config.{Config}
use Rattle.wd_command.specs.declared.command.Verb.{Verb}
use Rattle.wd_command.specs.Command.{Asked, Wish, runs, shows}
use Rattle.wd_config.specs.declared.faults.ConfigEnd.{ConfigEnd}
use Rattle.wd_config.specs.declared.faults.ConfigEnd.TheVariants as config_end
use Rattle.wd_config.specs.declared.faults.ConfigFault.{ConfigFault}
use Rattle.wd_config.specs.declared.faults.ConfigKind.{ConfigKind}
use Rattle.wd_config.specs.declared.faults.ConfigKind.TheVariants as kind
use Rattle.wd_graph.specs.Links.{first_unknown}
use Rattle.wd_machine.specs.First.{AreFirst}
use Rattle.wd_plan.specs.declared.ready.Found.{Found}
use Rattle.wd_plan.specs.declared.ready.Found.TheVariants as found
use Rattle.wd_plan.specs.declared.ready.PlanEnd.{PlanEnd}
use Rattle.wd_plan.specs.declared.ready.PlanEnd.TheVariants as end
use Rattle.wd_plan.specs.declared.ready.Ready.{Ready}
use Rattle.wd_plan.specs.declared.refusal.Refusal.{Refusal}
use Rattle.wd_plan.specs.declared.refusal.Refusal.TheVariants as refusal
use Rattle.wd_plan.specs.Constant.{constant_means}
use Rattle.wd_plan.specs.Plan.{Plan, Refuses, Starts, MayHold}
use Rattle.wd_ports.specs.Told.{Stored}

-- what was found is what the file of this path may hold
abbrev pub ShowsRead : Option Stored → List ℕ → Found → Type 0
ShowsRead files path (found.Bytes bytes) = MayHold files path (Some bytes)
ShowsRead files path found.Missing = MayHold files path None
ShowsRead files path found.Fault = Unit {0}
ShowsRead files path found.NoMemory = Unit {0}

-- the bytes that were found are few enough to be read as a configuration
abbrev pub IsShort : Found → Type 0
IsShort (found.Bytes bytes) = length bytes ≤ 536870912
IsShort _ = Unit {0}

-- the read failed
abbrev pub IsReadFault : Found → Type 0
IsReadFault found.Fault = Unit {0}
IsReadFault _ = ⊥

-- what was prepared for a world: the first isolates of its Workers, and every name in it is known
pub record IsPrepared (ready : Ready) : Type 0 where
  pub first : AreFirst constant_means ready.world ready.isolates.items
  pub known : first_unknown ready.world ≡ None

-- the refusal of a configuration's fault, by its kind
abbrev pub fault_refusal : ConfigKind → ConfigFault → Refusal
fault_refusal kind.EmbedFault fault = refusal.FileFault fault.name
fault_refusal _ fault = refusal.Config fault

-- what a configuration's end comes to
abbrev pub end_of : ConfigEnd → PlanEnd
end_of (config_end.Fault fault) = end.Refused (fault_refusal fault.kind fault)
end_of config_end.NoMemory = end.NoMemory

-- the plan that a refusal is, where it does not come of a read that failed
abbrev pub plan_of_refusal : Refusal → Option Plan
plan_of_refusal (refusal.FileFault path) = None
plan_of_refusal why = Some (Refuses why)

-- the plan that was come to, where no read failed and memory was there
abbrev pub plan_of_end : PlanEnd → Option Plan
plan_of_end (end.Refused why) = plan_of_refusal why
plan_of_end end.NoMemory = None

-- the plan that an answer stands for; none where a file could not be read or memory ran out
abbrev pub plan_of : Result Ready PlanEnd → Option Plan
plan_of (Ok ready) = Some (Starts ready.verb ready.world)
plan_of (Err e) = plan_of_end e

-- where a read failed, this holds of the path that is named
abbrev pub OnRefusedFault : Refusal → (List ℕ → Type 0) → Type 0
OnRefusedFault (refusal.FileFault path) P = P path
OnRefusedFault _ P = Unit {0}

-- if preparing ended because a file could not be read, this holds of its path
abbrev pub OnEndFault : PlanEnd → (List ℕ → Type 0) → Type 0
OnEndFault (end.Refused why) P = OnRefusedFault why P
OnEndFault end.NoMemory P = Unit {0}

-- if the answer is that a file could not be read, this holds of its path
abbrev pub OnFault : Result Ready PlanEnd → (List ℕ → Type 0) → Type 0
OnFault (Ok ready) P = Unit {0}
OnFault (Err e) P = OnEndFault e P

-- the verb of what is ready is that of the command
abbrev pub IsAskedBy : Option Asked → Verb → Type 0
IsAskedBy None v = ⊥
IsAskedBy (Some asked) v = v ≡ asked.verb

-- refused so, or memory was wanting
abbrev pub IsRefused : Refusal → PlanEnd → Type 0
IsRefused why e = (e ≡ end.Refused why) ⊎ (e ≡ end.NoMemory)

-- a refusal behind the command line
abbrev pub IsLateRefusal : Refusal → Type 0
IsLateRefusal (refusal.NoCommand notice) = ⊥
IsLateRefusal _ = Unit {0}

-- not refused for its command line
abbrev pub IsLateEnd : PlanEnd → Type 0
IsLateEnd (end.Refused why) = IsLateRefusal why
IsLateEnd end.NoMemory = Unit {0}

-- the command line was understood, whatever came of it
abbrev pub IsLate : Result Ready PlanEnd → Type 0
IsLate (Ok ready) = Unit {0}
IsLate (Err e) = IsLateEnd e

-- Words that ask for a notice come to it, or to want of memory, and others never to one.
abbrev pub Heeds : Wish → Result Ready PlanEnd → Type 0
Heeds (shows notice) result = IsErrAnd result (IsRefused (refusal.NoCommand notice))
Heeds (runs asked) result = IsLate result
