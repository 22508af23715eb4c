use Rattle.std.proofs.Common.{◌≡◌, ◌<◌, ℕ, Some, slice_get}
use Rattle.wd_base.specs.declared.config.Service.{Service}
use Rattle.wd_graph.specs.Names.{number_of}
use Rattle.wd_graph.proofs.tests.differ.Given as goal

-- each service before this one has its place as the number of its name
abbrev pub invariant-loop-number : goal.invariant-loop-number
invariant-loop-number l = (k : ℕ) (s : Service) → k < l.number → slice_get l.services k ≡ Some s → number_of s.name l.services ≡ Some k
