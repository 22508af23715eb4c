use Rattle.std.proofs.Common.{◌≡◌, ◌++◌, length}
use Rattle.js_print.specs.TokenText.{units_text}
use Rattle.js_print.proofs.token_text.push_units.Given as goal

abbrev pub invariant-loop-units : goal.invariant-loop-units
invariant-loop-units l = l.out ++ units_text l.quote l.units ≡ l.initial.out ++ units_text l.quote l.initial.units

abbrev pub decreases-loop-units : goal.decreases-loop-units
decreases-loop-units l = length l.units
