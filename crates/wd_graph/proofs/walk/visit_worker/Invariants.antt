use Rattle.std.proofs.Common.{◌≡◌, ◌∷◌, ◌++◌, [], drop, flat_map}
use Rattle.wd_graph.specs.Names.{targets, designated}
use Rattle.wd_graph.specs.Walk.{met_names}
use Rattle.wd_graph.proofs.walk.visit_worker.Given as goal

-- what is left to meet, of the bindings and the outbound
abbrev pub invariant-loop-binding : goal.invariant-loop-binding
invariant-loop-binding l = met_names l.directory l.walk (flat_map (λ b. designated b.value) (drop l.binding-index l.binding-items) ++ l.worker.outbound ∷ []) ≡ met_names l.directory l.initial.walk (targets l.worker)
