use Rattle.wd_plan.specs.Starts.{Starting}
use Rattle.wd_plan.proofs.starts.start_all.Given as goal

abbrev pub invariant-loop-number : goal.invariant-loop-number
invariant-loop-number l = Starting l.world.services l.isolates.items l.number
