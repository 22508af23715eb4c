use Rattle.std.proofs.Common.{arith}
use Rattle.wd_top.proofs.ListenSteps.{listens_more}
use Rattle.wd_top.proofs.session.listen_all.Goals as goal

pub loop-socket-preserved : goal.loop-socket-preserved
loop-socket-preserved g c =
    let test = c.loop-socket-test.true in
    listens_more (g.P.Files.told c.args.port.now) (g.P.Files.told c.loop-socket.port) (g.P.Files.told c.listen.new.self)
    c.args.sockets.now c.loop-socket.socket-index c.socket-item.result
    (omega (arith, c.loop-socket-test.true, c.loop-socket.auto.socket-index-end)) c.socket-item.is
    c.loop-socket.invariant (rw c.in-Ok.is at c.listen.ensures.tells)
