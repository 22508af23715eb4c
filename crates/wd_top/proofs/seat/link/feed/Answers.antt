use Rattle.wd_top.proofs.HandleSteps.{feeds_known}
use Rattle.wd_top.proofs.seat.link.feed.Goals as goal

pub returns-in-Ok-clause-knows : goal.returns-in-Ok-clause-knows
returns-in-Ok-clause-knows c = feeds_known c.args.run.now (record c.args.run.now { conn = c.feed.new.self })
    c.args.piece.now c.in-Ok.fed c.in-Ok.ensures.fed
