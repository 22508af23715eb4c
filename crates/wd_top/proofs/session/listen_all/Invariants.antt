use Rattle.std.proofs.Common.{◌≡◌, take}
use Rattle.wd_top.specs.Table.{addresses}
use Rattle.wd_top.proofs.session.listen_all.Given as goal

abbrev pub invariant-loop-socket : goal.invariant-loop-socket
invariant-loop-socket g l = g.P.Files.told l.port
    ≡ record (g.P.Files.told l.fn.port) { sockets = addresses (take l.socket-index l.fn.sockets) }
