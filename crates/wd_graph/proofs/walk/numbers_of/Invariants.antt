use Rattle.std.proofs.Common.{◌≡◌, ◌++◌, drop}
use Rattle.wd_graph.specs.Walk.{numbers_from}
use Rattle.wd_graph.proofs.walk.numbers_of.Given as goal

-- the numbers of the marks that are left come behind those so far
abbrev pub invariant-loop-number : goal.invariant-loop-number
invariant-loop-number l = l.numbers ++ numbers_from l.number (drop l.number l.marks) ≡ numbers_from 0 l.marks
