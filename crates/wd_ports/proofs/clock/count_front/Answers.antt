use Rattle.std.proofs.Common.{arith}
use Rattle.std.specs.Prelude.{nat_le}
use Rattle.wd_ports.proofs.Times.{front_more, front_ends, front_all}
use Rattle.wd_ports.proofs.clock.count_front.Goals as goal

pub returns-then-due-at : goal.returns-then-due-at
returns-then-due-at c = front_ends (λ d. nat_le d c.args.mark) c.args.due.now c.loop-at.at c.loop-at.invariant (omega arith) (grind arith)

pub loop-at-preserved : goal.loop-at-preserved
loop-at-preserved c = front_more (λ d. nat_le d c.args.mark) c.args.due.now c.loop-at.at c.loop-at.invariant (omega arith) (grind arith)

pub returns : goal.returns
returns c = front_all (λ d. nat_le d c.args.mark) c.args.due.now (grind arith)
