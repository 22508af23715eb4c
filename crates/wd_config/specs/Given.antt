-- What is read where no file is: a value, or why there is none.
use Rattle.std.specs.Prelude.{◌≡◌, ℕ, List, Result, Ok, Err}
use Rattle.wd_config.specs.declared.faults.RefusedKind.{RefusedKind}
use Rattle.wd_config.specs.declared.faults.RefusedKind.TheVariants as refused
use Rattle.wd_config.specs.declared.faults.Refusal.{Refusal}
use Rattle.wd_config.specs.declared.faults.ConfigKind.{ConfigKind}
use Rattle.wd_config.specs.declared.faults.ConfigKind.TheVariants as kind
use Rattle.wd_config.specs.declared.faults.ConfigFault.{ConfigFault}
use Rattle.wd_config.specs.declared.faults.Stop.{Stop}
use Rattle.wd_config.specs.declared.faults.Stop.TheVariants.{Refused, Failed, NoMemory}

-- what is read of a file alone: a value, or why it is refused
abbrev pub Given : Type 0 → Type 0
Given A = Result A Refusal

-- refused: the kind of fault, its offset and the name that it is about
abbrev pub fault : {A : Type 0} → RefusedKind → ℕ → List ℕ → Given A
fault k p n = Err (record { kind = k; place = p; name = n })

-- what the configuration's fault is called
unfoldable pub config_kind : RefusedKind → ConfigKind
config_kind refused.NoSuchConst = kind.NoSuchConst
config_kind refused.SeveralConfigs = kind.SeveralConfigs
config_kind refused.ConstLoop = kind.ConstLoop
config_kind refused.UnknownField = kind.UnknownField
config_kind refused.WrongKind = kind.WrongKind
config_kind refused.LeftOut = kind.LeftOut
config_kind refused.DoubleName = kind.DoubleName
config_kind refused.EmbedMissing = kind.EmbedMissing
config_kind refused.BadJson = kind.BadJson
config_kind refused.BadAddress = kind.BadAddress
config_kind refused.BadRange = kind.BadRange
config_kind refused.NoScript = kind.NoScript

-- a refusal as a fault of the whole configuration
abbrev pub config_fault : Refusal → ConfigFault
config_fault r = record { kind = config_kind r.kind; place = r.place; name = r.name }

infixl 10 ◌>>=◌
-- the second reading, with what the first gave; the first refusal ends both
abbrev pub ◌>>=◌ : {A B : Type 0} → Given A → (A → Given B) → Given B
(Ok x) >>= f = f x
(Err e) >>= f = Err e

-- it stops so, unless memory ran out
abbrev pub StopsAt : {A : Type 0} → Given A → Stop → Type 0
StopsAt told (Refused f) = told ≡ Err f
StopsAt told (Failed w) = ⊥
StopsAt told NoMemory = Unit {0}

-- this is given, unless memory ran out
abbrev pub Gives : {A : Type 0} → Given A → Result A Stop → Type 0
Gives told (Ok x) = told ≡ Ok x
Gives told (Err s) = StopsAt told s

-- the same of what a function returned, seen so
abbrev pub GivesBy : {X A : Type 0} → (X → A) → Given A → Result X Stop → Type 0
GivesBy view told (Ok x) = told ≡ Ok (view x)
GivesBy view told (Err s) = StopsAt told s
