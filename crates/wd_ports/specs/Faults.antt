-- The count of faults, with a part for each call.
use Rattle.std.specs.Prelude.{◌≡◌, ℕ, ◌+◌, ◌≤◌, min, Result, IsErrOf}
use Rattle.wd_ports.specs.declared.told.Faults.{Faults}
use Rattle.wd_ports.specs.declared.told.Failed.{Failed}
use Rattle.wd_ports.specs.declared.told.Failed.TheVariants.{Fault, NoMemory}
use Rattle.wd_ports.specs.declared.told.Side.{Side}
use Rattle.wd_ports.specs.declared.told.Side.TheVariants.{Accepted, Connected}

-- the parts of the count, each named after its call
pub data Part : Type 0 where
  ReadFile : Part
  ListFolder : Part
  WriteFile : Part
  Listen : Part
  Lookup : Part
  Connect : Part
  ReadLink : Side → Part
  WriteLink : Side → Part

-- the number in a part
abbrev pub part : Part → Faults → ℕ
part ReadFile f = f.files.read
part ListFolder f = f.files.list
part WriteFile f = f.files.write
part Listen f = f.listen
part Lookup f = f.lookup
part Connect f = f.connect
part (ReadLink Accepted) f = f.read_accepted
part (ReadLink Connected) f = f.read_connected
part (WriteLink Accepted) f = f.write_accepted
part (WriteLink Connected) f = f.write_connected

-- the count with another number in a part
abbrev pub with_part : Part → Faults → ℕ → Faults
with_part ReadFile f n = record f { files = record f.files { read = n } }
with_part ListFolder f n = record f { files = record f.files { list = n } }
with_part WriteFile f n = record f { files = record f.files { write = n } }
with_part Listen f n = record f { listen = n }
with_part Lookup f n = record f { lookup = n }
with_part Connect f n = record f { connect = n }
with_part (ReadLink Accepted) f n = record f { read_accepted = n }
with_part (ReadLink Connected) f n = record f { read_connected = n }
with_part (WriteLink Accepted) f n = record f { write_accepted = n }
with_part (WriteLink Connected) f n = record f { write_connected = n }

-- a number rose, or stands at the greatest u64
abbrev pub Rose : ℕ → ℕ → Type 0
Rose old new = min (old + 1) 18446744073709551615 ≤ new

-- a call's own part of the count of faults is greater than before
abbrev pub RoseIn : Part → Faults → Faults → Type 0
RoseIn p old new = Rose (part p old) (part p new)

-- no other part changed, and this one did not fall
pub record OnlyPart (p : Part) (old new : Faults) : Type 0 where
  pub later : part p old ≤ part p new
  pub own : new ≡ with_part p old (part p new)

-- a call raises its own part alone, and answers a fault only where it rose
pub record Blames {T : Type 0} (p : Part) (old new : Faults) (result : Result T Failed) : Type 0 where
  pub later : part p old ≤ part p new
  pub own : new ≡ with_part p old (part p new)
  pub fault : IsErrOf result Fault → Rose (part p old) (part p new)
  pub memory : IsErrOf result NoMemory → new ≡ old

-- the same of a count that has one part
pub record CountsFault {T : Type 0} (old new : ℕ) (result : Result T Failed) : Type 0 where
  pub later : old ≤ new
  pub fault : IsErrOf result Fault → Rose old new
  pub memory : IsErrOf result NoMemory → new ≡ old

-- the count of an object that never failed
abbrev pub no_faults : Faults
no_faults = record { files = record { read = 0; list = 0; write = 0 }; listen = 0; lookup = 0; connect = 0; read_accepted = 0; read_connected = 0; write_accepted = 0; write_connected = 0 }
