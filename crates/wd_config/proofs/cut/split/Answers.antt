use Rattle.std.proofs.Common.{sym, ◌∙◌}
use Rattle.wd_config.proofs.CutSteps.{cut_at, lacks, cut_rest}
use Rattle.wd_config.proofs.cut.split.Goals as goal

pub returns-in_err-at : goal.returns-in_err-at
returns-in_err-at c = rw c.from_residual.ensures (lacks c.args.mark c.args.text.now (sym c.in_err-at.was ∙ c.place_of.ensures.first))

pub returns : goal.returns
returns c = cut_rest c.args.mark c.in_ok-at.at c.args.text.now (cut_at c.args.mark c.in_ok-at.at c.args.text.now (sym c.in_ok-at.was ∙ c.place_of.ensures.first))
