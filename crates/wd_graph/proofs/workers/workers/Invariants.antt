use Rattle.std.proofs.Common.{◌≡◌, ◌∷◌, ◌++◌, [], drop, flat_map}
use Rattle.wd_graph.specs.Names.{targets, designated}
use Rattle.wd_graph.specs.Workers.{found_names}
use Rattle.wd_graph.proofs.workers.workers.Given as goal

-- what is left to look at, of the bindings and the outbound
abbrev pub invariant-loop-binding : goal.invariant-loop-binding
invariant-loop-binding l = found_names l.directory l.found (flat_map (λ b. designated b.value) (drop l.binding-index l.binding-items) ++ l.worker.outbound ∷ []) ≡ found_names l.directory l.initial.found (targets l.worker)
