use Rattle.std.proofs.Common.{refl}
use Rattle.wd_config.proofs.RangeSteps.{class_is, block_alone}
use Rattle.wd_config.proofs.ranges.range.Goals as goal

pub returns-in-Some : goal.returns-in-Some
returns-in-Some c = class_is c.args.text.now c.in-Some.class c.class_of.result _ refl refl refl c.class_of.ensures c.in-Some.is

pub returns-in-None : goal.returns-in-None
returns-in-None c = block_alone c.args.text.now c.class_of.result c.block.result c.class_of.ensures c.in-None.is c.block.ensures
