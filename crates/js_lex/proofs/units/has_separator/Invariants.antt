use Rattle.std.proofs.Common.{◌≡◌, length}
use Rattle.js_lex.specs.Lists.{is, some}
use Rattle.js_lex.proofs.units.has_separator.Given as goal

abbrev pub invariant-loop-text : goal.invariant-loop-text
invariant-loop-text l = some (is 95) l.text ≡ some (is 95) l.initial.text

abbrev pub decreases-loop-text : goal.decreases-loop-text
decreases-loop-text l = length l.text
