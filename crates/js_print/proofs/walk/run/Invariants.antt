use Rattle.std.proofs.Common.{◌≡◌, ◌++◌}
use Rattle.js_print.specs.TokenText.{texts}
use Rattle.js_print.specs.Walk.{kinds, total}
use Rattle.js_print.proofs.walk.run.Given as goal

-- what is written and what is still to write come to the same text
abbrev pub invariant-loop-piece : goal.invariant-loop-piece
invariant-loop-piece l = l.out ++ texts (kinds l.tasks) ≡ l.fn.out ++ texts (kinds l.fn.tasks)

abbrev pub decreases-loop-piece : goal.decreases-loop-piece
decreases-loop-piece l = total l.tasks
