use Rattle.std.proofs.Common.{◌∙◌, ap}
use Rattle.wd_top.specs.Table.{is_shut}
use Rattle.wd_top.proofs.TableSteps.{found_run}
use Rattle.wd_top.proofs.seat.table.is_shut_at.Goals as goal

pub returns : goal.returns
returns c = c.is_shut.ensures
    ∙ ap (λ r. is_shut r.stage) (found_run c.args.runs.now c.args.at _ c.requires c.index-runs-at.is)
