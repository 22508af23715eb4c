use Rattle.std.proofs.lemmas.Bool.Decides.{same_from_decides}
use Rattle.wd_config.specs.Leaves.{is_date}
use Rattle.wd_config.proofs.LeafLaws.{date_law}
use Rattle.wd_config.proofs.leaves.is_date.Goals as goal

pub returns : goal.returns
returns c = same_from_decides c.is_date.result (is_date c.args.text.now) c.is_date.ensures (date_law c.args.text.now)
