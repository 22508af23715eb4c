use Rattle.wd_top.proofs.HandleSteps.{none_sent}
use Rattle.wd_top.proofs.seat.link.refuse.Goals as goal

pub returns-in-Err-clause-sends : goal.returns-in-Err-clause-sends
returns-in-Err-clause-sends g c = none_sent _ _ _
