-- What is read, where embedded files are read on the way.
use Rattle.std.specs.Prelude.{◌≡◌, ℕ, List, [], ◌∷◌, ◌++◌, ◌⊎◌, Result, Ok, Err}
use Rattle.std.specs.List.{Contains}
use Rattle.capnp_text.specs.declared.tree.Placed.{Placed}
use Rattle.wd_config.specs.declared.faults.ConfigKind.{ConfigKind}
use Rattle.wd_config.specs.declared.faults.ConfigKind.TheVariants as kind
use Rattle.wd_config.specs.declared.faults.ConfigFault.{ConfigFault}
use Rattle.wd_config.specs.declared.faults.ConfigEnd.{ConfigEnd}
use Rattle.wd_config.specs.declared.faults.ConfigEnd.TheVariants.{Fault, NoMemory}
use Rattle.wd_config.specs.declared.faults.Stop.{Stop}
use Rattle.wd_config.specs.declared.faults.Stop.TheVariants as stop
use Rattle.wd_config.specs.Given.{Given, config_fault}

-- what a reading that may need embedded files comes to
pub data Answer (A : Type 0) : Type 0 where
  Found : A → Answer A
  Refused : ConfigFault → Answer A
  -- the files do not tell what an embed holds
  Untold : Answer A

-- the embeds that are come to, in order, each by the place of its path and the path as written, and the answer where
-- each of them can be read
pub record Read (A : Type 0) : Type 0 where
  pub embeds : List Placed
  pub answer : Answer A

-- ---- readings in a row

-- a value, for which no file was read
abbrev pub done : {A : Type 0} → A → Read A
done x = record { embeds = []; answer = Found x }

-- refused, before any file was read
abbrev pub refuse : {A : Type 0} → ConfigKind → ℕ → List ℕ → Read A
refuse k p n = record { embeds = []; answer = Refused (record { kind = k; place = p; name = n }) }

infixl 10 ◌>>=◌
-- the embeds, and then the rest
abbrev pub behind : {A : Type 0} → List Placed → Read A → Read A
behind ws r = record { embeds = ws ++ r.embeds; answer = r.answer }

-- the second reading after the first, whose files were read before; a refusal ends both
abbrev pub then_read : {A B : Type 0} → List Placed → Answer A → (A → Read B) → Read B
then_read ws (Found x) k = behind ws (k x)
then_read ws (Refused f) k = record { embeds = ws; answer = Refused f }
then_read ws Untold k = record { embeds = ws; answer = Untold }

-- what is read, and then what follows it
unfoldable pub ◌>>=◌ : {A B : Type 0} → Read A → (A → Read B) → Read B
r >>= k = then_read r.embeds r.answer k

-- what is given where no file is read
abbrev pub given : {A : Type 0} → Given A → Read A
given (Ok x) = done x
given (Err f) = record { embeds = []; answer = Refused (config_fault f) }

-- from left to right: a state, which each item changes
abbrev pub along : {S X : Type 0} → (S → X → Read S) → S → List X → Read S
along step s [] = done s
along step s (x ∷ xs) = step s x >>= λ t. along step t xs

-- ---- what is answered

-- this answer, where it can be told
abbrev pub Says : {A : Type 0} → Answer A → Answer A → Type 0
Says x Untold = Unit {0}
Says x told = told ≡ x

-- this is one of the embeds that are come to, where that can be told
abbrev pub HasEmbed : {A : Type 0} → Read A → Placed → Type 0
HasEmbed r w = (r.answer ≡ Untold) ⊎ Contains r.embeds w

-- each embed that is come to may fail; every other answer is the reading's own
abbrev pub TellsFault : {A : Type 0} → Read A → ConfigFault → ConfigKind → Type 0
TellsFault r f kind.EmbedFault = HasEmbed r (record { place = f.place; bytes = f.name })
TellsFault r f _ = Says (Refused f) r.answer

-- this is answered, unless memory ran out
abbrev pub Tells : {A : Type 0} → Read A → Result A ConfigEnd → Type 0
Tells r (Ok x) = Says (Found x) r.answer
Tells r (Err (Fault f)) = TellsFault r f f.kind
Tells r (Err NoMemory) = Unit {0}

-- the same, of a reading that stops
abbrev pub Comes : {A : Type 0} → Read A → Result A Stop → Type 0
Comes r (Ok x) = Says (Found x) r.answer
Comes r (Err (stop.Refused f)) = Says (Refused (config_fault f)) r.answer
Comes r (Err (stop.Failed w)) = HasEmbed r w
Comes r (Err stop.NoMemory) = Unit {0}

-- the read of this embed failed, unless memory ran out
abbrev pub IsStopAt : {A : Type 0} → Placed → Result A Stop → Type 0
IsStopAt w (Ok x) = ⊥
IsStopAt w (Err (stop.Refused f)) = ⊥
IsStopAt w (Err (stop.Failed v)) = v ≡ w
IsStopAt w (Err stop.NoMemory) = Unit {0}

-- the answer is that a file could not be read
abbrev pub IsFailed : {A : Type 0} → Result A Stop → Type 0
IsFailed (Ok x) = ⊥
IsFailed (Err (stop.Refused f)) = ⊥
IsFailed (Err (stop.Failed w)) = Unit {0}
IsFailed (Err stop.NoMemory) = ⊥

-- the answer is a fault of an embedded file
abbrev pub IsEmbedFault : {A : Type 0} → Result A ConfigEnd → Type 0
IsEmbedFault (Ok x) = ⊥
IsEmbedFault (Err (Fault f)) = f.kind ≡ kind.EmbedFault
IsEmbedFault (Err NoMemory) = ⊥
