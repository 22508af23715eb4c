use Rattle.std.proofs.Common.{subst, sym, ◌<◌, length}
use Rattle.wd_top.proofs.BoardSteps.{service_known, service_public}
use Rattle.wd_top.proofs.board.Board.answer.Goals as goal

pub exchange-requires-clause-known : goal.exchange-requires-clause-known
exchange-requires-clause-known g c κs within =
    rw c.in-Ok.ensures (service_known c.self.inside.world c.args.socket c.self.invariant.1
    (subst (λ v. c.args.socket.0 < length v.0.world.sockets) (sym c.self.view_is) c.requires))

pub exchange-requires-clause-public : goal.exchange-requires-clause-public
exchange-requires-clause-public g c κs within =
    rw c.in-Ok.ensures (service_public c.self.inside.world c.args.socket
    (subst (λ v. c.args.socket.0 < length v.0.world.sockets) (sym c.self.view_is) c.requires))
