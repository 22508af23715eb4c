use Rattle.std.proofs.Common.{◌≡◌, drop, flat_map}
use Rattle.std.specs.List.{find}
use Rattle.wd_graph.specs.Links.{is_unknown, named_by}
use Rattle.wd_graph.proofs.linking.unknown_to_workers.Given as goal

-- the first unknown name is among those of the services that are left
abbrev pub invariant-loop-service : goal.invariant-loop-service
invariant-loop-service l = find (is_unknown l.directory) (flat_map named_by (drop l.service-index l.service-items)) ≡ find (is_unknown l.directory) (flat_map named_by l.directory)
