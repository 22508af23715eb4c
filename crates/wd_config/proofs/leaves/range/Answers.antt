use Rattle.wd_config.specs.Leaves.{range}
use Rattle.wd_config.specs.Ranges.{IsRange}
use Rattle.wd_config.proofs.LeafLaws.{same_option, range_law}
use Rattle.wd_config.proofs.leaves.range.Goals as goal

pub returns : goal.returns
returns c = same_option (IsRange c.args.text.now) c.range.result (range c.args.text.now) c.range.ensures (range_law c.args.text.now)
