use Rattle.std.proofs.Common.{◌≡◌, ◌≤◌, length}
use Rattle.js_lex.specs.Units.{value}
use Rattle.js_lex.proofs.units.numeral.Given as goal

abbrev pub invariant-loop-digits : goal.invariant-loop-digits
invariant-loop-digits l = (value l.base l.value l.digits ≡ value l.base l.first l.initial.digits) × (l.value ≤ l.max)

abbrev pub decreases-loop-digits : goal.decreases-loop-digits
decreases-loop-digits l = length l.digits
