use Rattle.std.proofs.Common.{ap, length, subst, sym}
use Rattle.wd_top.specs.Ended.{IsEarly}
use Rattle.wd_top.proofs.EndSteps.{early_ran, no_item}
use Rattle.wd_top.proofs.top.serve.Goals as goal

pub returns-in-Err-clause-ran : goal.returns-in-Err-clause-ran
returns-in-Err-clause-ran g c =
    early_ran _ _ _ _ _ _ (subst IsEarly (sym c.early.ensures.outcome) tt) c.early.ensures.journal
    (ap length c.requires.ports) (λ k d h. absurd (no_item c.args.ports.now.items k c.requires.ports h))
