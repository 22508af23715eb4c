use Rattle.wd_config.proofs.RangeSteps.{no_dot, no_part, is_part}
use Rattle.wd_config.proofs.ranges.part_before.Goals as goal

pub returns-in_err-part-2 : goal.returns-in_err-part-2
returns-in_err-part-2 c = rw c.from_residual-in_err-part-2.ensures (no_part c.in_ok-part.part.now c.in_ok-part.rest.now c.args.text.now c.number.result c.in_ok-part.ensures c.number.ensures c.in_err-part-2.was)

pub returns : goal.returns
returns c = is_part c.in_ok-part.part.now c.in_ok-part.rest.now c.args.text.now c.number.result c.in_ok-part-2.part c.in_ok-part.ensures c.number.ensures c.in_ok-part-2.was

pub returns-in_err-part : goal.returns-in_err-part
returns-in_err-part c = rw c.from_residual.ensures (no_dot c.args.text.now c.in_err-part.ensures)
