use Rattle.std.proofs.Common.{arith}
use Rattle.wd_ports.proofs.Times.{front_later}
use Rattle.wd_ports.proofs.clock.Clock.tick.Goals as goal

pub count_front-self-inside-requires : goal.count_front-self-inside-requires
count_front-self-inside-requires c =
    let later = front_later c.self.inside.due c.self.inside.mark c.saturating_add-self-inside.result (omega arith) in
    rw c.as_slice.ensures (omega (arith, c.self.invariant, later))
