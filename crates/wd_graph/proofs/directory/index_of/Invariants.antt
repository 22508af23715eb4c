use Rattle.std.proofs.Common.{◌≤◌, length, drop}
use Rattle.wd_graph.specs.Index.{IsIndexFrom}
use Rattle.wd_graph.proofs.directory.index_of.Given as goal

-- the index has the services from `left` on
abbrev pub invariant-loop-left : goal.invariant-loop-left
invariant-loop-left l = record { within : l.left ≤ length l.services; index : IsIndexFrom l.left (drop l.left l.services) l.index.entries }

abbrev pub decreases-loop-left : goal.decreases-loop-left
decreases-loop-left l = l.left
