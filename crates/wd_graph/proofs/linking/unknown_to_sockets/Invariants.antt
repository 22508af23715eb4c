use Rattle.std.proofs.Common.{◌≡◌, drop, map}
use Rattle.std.specs.List.{find}
use Rattle.wd_graph.specs.Links.{is_unknown, named_at}
use Rattle.wd_graph.proofs.linking.unknown_to_sockets.Given as goal

-- the first unknown service is among those of the sockets that are left
abbrev pub invariant-loop-socket : goal.invariant-loop-socket
invariant-loop-socket l = find (is_unknown l.directory) (map named_at (drop l.socket-index l.sockets)) ≡ find (is_unknown l.directory) (map named_at l.sockets)
