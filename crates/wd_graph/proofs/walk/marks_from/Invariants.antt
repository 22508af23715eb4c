use Rattle.std.proofs.Common.{◌-◌, length}
use Rattle.wd_graph.proofs.WalkLemmas.{Walking}
use Rattle.wd_graph.proofs.walk.marks_from.Given as goal

-- the services that were met before `at` were visited
abbrev pub invariant-loop-at : goal.invariant-loop-at
invariant-loop-at l = Walking l.directory l.from l.walk l.at

abbrev pub decreases-loop-at : goal.decreases-loop-at
decreases-loop-at l = length l.directory - l.at
