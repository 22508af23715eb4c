-- What a call is given and what it leaves, by what its file store, its maker, its ports and its sink tell.
use Rattle.std.specs.Prelude.{◌≡◌, ◌⊎◌, ℕ, ◌<◌, List, [], ◌∷◌, map, Option, None, IfSome, All}
use Rattle.std.specs.Prelude.{String, string_bytes}
use Rattle.wd_base.specs.declared.config.Config.{Config}
use Rattle.wd_base.specs.declared.ids.LinkNo.{LinkNo}
use Rattle.wd_base.specs.declared.ids.Seat.{Seat}
use Rattle.wd_command.specs.declared.command.Verb.TheVariants as verb
use Rattle.wd_command.specs.declared.notice.Notice.{Notice}
use Rattle.wd_command.specs.Command.{Wish, runs, shows, wish}
use Rattle.wd_machine.specs.declared.journal.Entry.{Entry}
use Rattle.wd_plan.specs.declared.refusal.Refusal.TheVariants as refusal
use Rattle.wd_plan.specs.Plan.{Plans, Starts}
use Rattle.wd_ports.specs.declared.told.Faults.{Faults}
use Rattle.wd_ports.specs.Faults.{Listen, ReadFile, Rose, RoseIn, part}
use Rattle.wd_ports.specs.Told.{Told}
use Rattle.wd_top.specs.declared.outcome.Outcome.{Outcome}
use Rattle.wd_top.specs.declared.outcome.Outcome.TheVariants as outcome
use Rattle.wd_top.specs.Ended.{Call, Printed, Holds, IsStatus}
use Rattle.wd_top.specs.Outcome.{Reports}
use Rattle.wd_top.specs.Table.{SameFiles}

-- the one seat of a call
abbrev pub the_seat : Seat
the_seat = record { 0 = 0 }

-- the bytes of each word of a command line
abbrev pub spoken : {Z : Type 0} → List (String Z) → List (List ℕ)
spoken words = map string_bytes words

-- this holds of the notice, where one is asked for
abbrev pub OnNotice : Wish → (Notice → Type 0) → Type 0
OnNotice (shows notice) P = P notice
OnNotice (runs asked) P = Unit {0}

-- what holds of the notice that the words ask for, where they are no command
abbrev pub ForNotice : {Z : Type 0} → List (String Z) → (Notice → Type 0) → Type 0
ForNotice words P = OnNotice (wish (spoken words)) P

-- how words come out that ask for this notice: it is shown, or memory is wanting
abbrev pub IsShown : Notice → Outcome → Type 0
IsShown notice o = (o ≡ outcome.Refused (refusal.NoCommand notice)) ⊎ (o ≡ outcome.NoMemory)

-- a port of the list failed to listen
abbrev pub ListenFailed : {P : Type 0} → (P → Faults) → List P → Type 0
ListenFailed faults [] = ⊥
ListenFailed faults (p ∷ ports) = (0 < part Listen (faults p)) ⊎ ListenFailed faults ports

-- a call by these words over a file store, before it and after it; its maker failed, or did not, and so did listening
abbrev pub call_over : {Z F : Type 0} → List (String Z) → (F → Told) → (F → Faults) → F → F → Type 0 → Type 0 → Call
call_over words told faults files files' maker_failed listen_failed = record {
  words = spoken words;
  files = (told files).files;
  read_failed = RoseIn ReadFile (faults files) (faults files');
  maker_failed = maker_failed;
  listen_failed = listen_failed;
}

-- a call that may serve: over a maker too, before it and after it, with the ports that are handed out
abbrev pub call_with : {Z F M P : Type 0} → List (String Z) → (F → Told) → (F → Faults) → F → F → (M → ℕ) → M → M
    → (P → Faults) → List P → Call
call_with words told faults files files' failures maker maker' port_faults ports =
    call_over words told faults files files' (Rose (failures maker) (failures maker')) (ListenFailed port_faults ports)

-- a call that serves nothing
abbrev pub call_offline : {Z F : Type 0} → List (String Z) → (F → Told) → (F → Faults) → F → F → Call
call_offline words told faults files files' = call_over words told faults files files' ⊥ ⊥

-- what is printed to a sink, by what it held and how often it failed, before it and after it
abbrev pub printed_to : {K : Type 0} → (K → Option (List ℕ)) → (K → ℕ) → K → K → Printed
printed_to held failures out out' = record {
  before = held out;
  after = held out';
  failures_before = failures out;
  failures_after = failures out';
}

-- these words ask for it that this world is served
abbrev pub AskToServe : {Z : Type 0} → List (String Z) → Told → Config → Type 0
AskToServe words told world = Plans (spoken words) told.files (Starts verb.Serve world)

-- what holds of each port of a seat that is handed out, by what it tells
abbrev pub AtPorts : {P : Type 0} → Seat → (P → Told) → (P → LinkNo → Type 0) → (P → Faults) → List P → List Entry
    → Outcome → Config → Type 0
AtPorts seat told gone faults ports entries o world =
    All (λ p. Holds seat world o (told p) (gone p) (faults p) entries) ports

-- files and hosts of each port are as they were in the maker's plan for the seat
abbrev pub KeepFiles : {M P : Type 0} → Seat → (M → Seat → Option Told) → M → (P → Told) → List P → Type 0
KeepFiles seat plan maker told ports = All (λ p. IfSome (plan maker seat) (λ t. SameFiles t (told p))) ports

-- where files are told, the status has its cause
abbrev pub HasCause : Call → Printed → ℕ → Type 0
HasCause call printed status =
    IfSome call.files (λ _. IsStatus call (Rose printed.failures_before printed.failures_after) status)

-- a call for this notice prints its text and comes to its status, but for 4, where the sink failed, and 9
abbrev pub ReportsNotice : Printed → ℕ → Notice → Type 0
ReportsNotice printed status notice = Reports (outcome.Refused (refusal.NoCommand notice)) status printed.before
    printed.after printed.failures_before printed.failures_after
