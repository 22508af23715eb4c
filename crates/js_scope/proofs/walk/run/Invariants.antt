use Rattle.std.proofs.Common.{◌≡◌}
use Rattle.js_scope.specs.Verdict.{total, verdict}
use Rattle.js_scope.proofs.walk.run.Given as goal

-- what is still to do comes to the same fault
abbrev pub invariant-loop-task : goal.invariant-loop-task
invariant-loop-task l = verdict l.fn.walk.tasks l.fn.walk.scope l.fn.walk.outer ≡ verdict l.walk.tasks l.walk.scope l.walk.outer

abbrev pub decreases-loop-task : goal.decreases-loop-task
decreases-loop-task l = total l.walk.tasks
