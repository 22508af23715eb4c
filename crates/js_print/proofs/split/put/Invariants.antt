use Rattle.std.proofs.Common.{◌≡◌, ◌≤◌, ◌++◌, length, drop}
use Rattle.js_print.proofs.split.put.Given as goal

-- the pieces from `left` on stand on the tasks
abbrev pub invariant-loop-left : goal.invariant-loop-left
invariant-loop-left l = record { within : l.left ≤ length l.pieces; stands : l.tasks ≡ drop l.left l.pieces ++ l.fn.tasks }

abbrev pub decreases-loop-left : goal.decreases-loop-left
decreases-loop-left l = l.left
