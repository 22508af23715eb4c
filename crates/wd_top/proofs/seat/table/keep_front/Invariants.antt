use Rattle.wd_top.proofs.LiveSteps.{Compacts}
use Rattle.wd_top.proofs.seat.table.keep_front.Given as goal

abbrev pub invariant-loop-k : goal.invariant-loop-k
invariant-loop-k l = Compacts l.runs l.initial.live l.live l.kept l.k
