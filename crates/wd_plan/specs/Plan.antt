-- What the words and the files ask for.
use Rattle.std.specs.Prelude.{◌≡◌, ◌⊎◌, ℕ, Bool, true, false, ◌&&◌, List, Option, Some, None, IfSome, codes}
use Rattle.wd_base.specs.declared.config.Config.{Config}
use Rattle.wd_command.specs.declared.command.Verb.{Verb}
use Rattle.wd_command.specs.declared.command.Verb.TheVariants as verb
use Rattle.wd_command.specs.Command.{Asked, Wish, runs, shows, command, wish}
use Rattle.wd_config.specs.declared.faults.ConfigFault.{ConfigFault}
use Rattle.wd_config.specs.declared.faults.ConfigKind.TheVariants.{LeftOut}
use Rattle.wd_config.specs.Answer.{Answers}
use Rattle.wd_config.specs.Reading.{Answer, Found, Refused, Untold, Read, HasEmbed, Says}
use Rattle.wd_graph.specs.declared.linking.GraphFault.{GraphFault}
use Rattle.wd_graph.specs.Links.{first_unknown, linked}
use Rattle.wd_plan.specs.declared.reason.RefusedScript.{RefusedScript}
use Rattle.wd_plan.specs.declared.refusal.Refusal.{Refusal}
use Rattle.wd_plan.specs.declared.refusal.Refusal.TheVariants as refusal
use Rattle.wd_plan.specs.Folder.{folder}
use Rattle.wd_plan.specs.Starts.{are_plain, are_at_workers, FirstRefused}
use Rattle.wd_ports.specs.Told.{Stored, file_at}

-- what a call is to do: refuse, or serve or check a world
pub data Plan : Type 0 where
  Refuses : Refusal → Plan
  Starts : Verb → Config → Plan

-- the fault of a configuration that has something that is not served yet
abbrev pub other_kind : ConfigFault
other_kind = record { kind = LeftOut; place = 0; name = codes "kind" }

-- whether the verb goes on with a world, of which each service that is written out is served or is not
abbrev pub may_go : Verb → Bool → Config → Bool
may_go verb.Serve plain world = plain && are_at_workers world
may_go verb.Check plain world = true

-- at a world, of whose scripts this one is the first that is refused
abbrev pub at_script : Verb → Config → Option RefusedScript → Plan
at_script v world None = Starts v world
at_script v world (Some script) = Refuses (refusal.Script script)

-- at the scripts of a world
abbrev pub AtScripts : Verb → Config → Plan → Type 0
AtScripts v world plan = (found : Option RefusedScript) × FirstRefused world.services found
    × (plan ≡ at_script v world found)

-- at the kinds of its services
abbrev pub AtKinds : Verb → Config → Bool → Plan → Type 0
AtKinds v world false plan = plan ≡ Refuses (refusal.Config other_kind)
AtKinds v world true plan = AtScripts v world plan

-- at the names of a configuration, of which this one is the first that is unknown
abbrev pub AtNames : Verb → Config → Option GraphFault → Plan → Type 0
AtNames v config (Some fault) plan = plan ≡ Refuses (refusal.Link fault)
AtNames v config None plan = AtKinds v (linked config) (may_go v (are_plain config.services) (linked config)) plan

-- at the configuration, or its first fault
abbrev pub AtAnswer : Verb → Answer Config → Plan → Type 0
AtAnswer v (Found config) plan = AtNames v config (first_unknown (linked config)) plan
AtAnswer v (Refused fault) plan = plan ≡ Refuses (refusal.Config fault)
AtAnswer v Untold plan = ⊥

-- the reading of a configuration's file, for a command
abbrev pub IsReading : Option Stored → Asked → List ℕ → Read Config → Type 0
IsReading files asked bytes r = Answers bytes asked.constant (folder asked.config) files r

-- the file of this path has these bytes, or there is none; where the files are not told, it may have any
abbrev pub MayHold : Option Stored → List ℕ → Option (List ℕ) → Type 0
MayHold files path bytes = IfSome files (λ s. file_at s path ≡ bytes)

-- at the configuration's file: at what its reading answers, which may be anything where an embed is not told
abbrev pub AtFile : Option Stored → Asked → Option (List ℕ) → Plan → Type 0
AtFile files asked None plan = plan ≡ Refuses (refusal.MissingFile asked.config)
AtFile files asked (Some bytes) plan =
    (r : Read Config) × IsReading files asked bytes r × (a : Answer Config) × Says a r.answer
    × AtAnswer asked.verb a plan

-- at the configuration of a command
abbrev pub AtConfig : Option Stored → Asked → Plan → Type 0
AtConfig files asked plan = (bytes : Option (List ℕ)) × MayHold files asked.config bytes
    × AtFile files asked bytes plan

-- at what the words ask for: a notice, or what the configuration of a command asks for
abbrev pub AtWish : Option Stored → Wish → Plan → Type 0
AtWish files (shows notice) plan = plan ≡ Refuses (refusal.NoCommand notice)
AtWish files (runs asked) plan = AtConfig files asked plan

-- The words and the files ask for this. Where the files are told, they ask for one plan alone; where they are not, this
-- is what they ask for with some bytes of the configuration's file and some answers to its embeds.
unfoldable pub Plans : List (List ℕ) → Option Stored → Plan → Type 0
Plans words files plan = AtWish files (wish words) plan

-- the reading comes to an embed of this path, as it is written
abbrev pub HasPath : Read Config → List ℕ → Type 0
HasPath r path = (place : ℕ) × HasEmbed r (record { place = place; bytes = path })

-- the reading of these bytes, for a command, comes to an embed of this path
abbrev pub EmbedsPath : Option Stored → Asked → List ℕ → List ℕ → Type 0
EmbedsPath files asked bytes path = (r : Read Config) × IsReading files asked bytes r × HasPath r path

-- a file that is embedded in the configuration of a command
abbrev pub IsEmbedded : Option Stored → Asked → List ℕ → Type 0
IsEmbedded files asked path = (bytes : List ℕ) × MayHold files asked.config (Some bytes)
    × EmbedsPath files asked bytes path

-- a file that is read for a command: its configuration, or one that this embeds
abbrev pub IsReadFor : Option Stored → Asked → List ℕ → Type 0
IsReadFor files asked path = (path ≡ asked.config) ⊎ IsEmbedded files asked path

-- a file that is read for these words
abbrev pub IsReadPath : List (List ℕ) → Option Stored → List ℕ → Type 0
IsReadPath words files path = (asked : Asked) × (command words ≡ Some asked) × IsReadFor files asked path
