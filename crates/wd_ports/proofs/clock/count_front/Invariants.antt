use Rattle.std.proofs.Common.{◌≤◌}
use Rattle.wd_ports.specs.Times.{happened}
use Rattle.wd_ports.proofs.clock.count_front.Given as goal

abbrev pub invariant-loop-at : goal.invariant-loop-at
invariant-loop-at l = l.at ≤ happened (record { due = l.due; mark = l.mark })
