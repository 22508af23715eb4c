-- What a function that makes a step ensures.
use Rattle.std.specs.Prelude.{◌≡◌, Result, Ok, Err}
use Rattle.capnp_text.specs.declared.machine.State.{State}
use Rattle.capnp_text.specs.declared.machine.StepEnd.{StepEnd}
use Rattle.capnp_text.specs.declared.machine.StepEnd.TheVariants.{Refused, NoMemory}
use Rattle.capnp_text.specs.Machine.{Step}

-- the step of the definition, unless memory ran out
abbrev pub Steps : Step → Result State StepEnd → Type 0
Steps step (Ok n) = step ≡ Ok n
Steps step (Err (Refused k)) = step ≡ Err k
Steps step (Err NoMemory) = Unit {0}
