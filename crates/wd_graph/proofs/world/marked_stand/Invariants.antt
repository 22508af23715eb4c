use Rattle.std.proofs.Common.{◌≡◌, ◌<◌, ℕ, true, Some, slice_get}
use Rattle.wd_base.specs.declared.config.Service.{Service}
use Rattle.wd_graph.specs.Names.{service_of}
use Rattle.wd_graph.proofs.world.marked_stand.Given as goal

-- the marked services before this one stand
abbrev pub invariant-loop-number : goal.invariant-loop-number
invariant-loop-number l = (k : ℕ) (s : Service) → k < l.number → slice_get l.marks k ≡ Some true → slice_get l.services k ≡ Some s → service_of s.name l.other ≡ Some s
