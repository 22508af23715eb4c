use Rattle.std.proofs.Common.{◌≡◌, ◌∷◌, ◌++◌, [], not, drop, flat_map}
use Rattle.std.specs.List.{find}
use Rattle.wd_graph.specs.Names.{has_name, targets, designated}
use Rattle.wd_graph.proofs.linking.unknown_target.Given as goal

-- the first unknown target is among those of the bindings that are left and the outbound
abbrev pub invariant-loop-binding : goal.invariant-loop-binding
invariant-loop-binding l = find (λ name. not (has_name l.directory name)) (flat_map (λ b. designated b.value) (drop l.binding-index l.binding-items) ++ l.worker.outbound ∷ []) ≡ find (λ name. not (has_name l.directory name)) (targets l.worker)
