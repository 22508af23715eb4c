-- What a function that makes a step ensures.
use Rattle.std.specs.Prelude.{◌≡◌, List, Result, Ok, Err}
use Rattle.js_tree.specs.declared.tree.Expr.{Expr}
use Rattle.js_parse_core.specs.declared.machine.Open.{Open}
use Rattle.js_parse_core.specs.declared.machine.Refusal.{Refusal}
use Rattle.js_parse_core.specs.declared.machine.State.{State}
use Rattle.js_parse_core.specs.declared.machine.StepEnd.{StepEnd}
use Rattle.js_parse_core.specs.declared.machine.StepEnd.TheVariants.{Refused, NoMemory}
use Rattle.js_parse_core.specs.Outer.{Step}
use Rattle.js_parse_core.specs.Values.{Folded}

-- the step of the definition, unless memory ran out
abbrev pub Steps : Step → Result State StepEnd → Type 0
Steps step (Ok n) = step ≡ Ok n
Steps step (Err (Refused k)) = step ≡ Err k
Steps step (Err NoMemory) = Unit {0}

-- .. of a part of it
abbrev pub Gives : {A : Type 0} → Result A Refusal → Result A StepEnd → Type 0
Gives x (Ok a) = x ≡ Ok a
Gives x (Err (Refused k)) = x ≡ Err k
Gives x (Err NoMemory) = Unit {0}

-- .. of the operators that get their operands
abbrev pub Folds : Folded → Result (List Open × Expr) StepEnd → Type 0
Folds found (Ok x) = found ≡ Ok (record { frames = x.0; value = x.1 })
Folds found (Err (Refused k)) = found ≡ Err k
Folds found (Err NoMemory) = Unit {0}
