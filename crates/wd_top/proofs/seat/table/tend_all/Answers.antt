use Rattle.std.proofs.Common.{◌∙◌, ap, subst}
use Rattle.wd_top.specs.Table.{keep, Covers}
use Rattle.wd_top.proofs.LiveSteps.{covers_keep, within_keep}
use Rattle.wd_top.proofs.seat.table.tend_all.Goals as goal

pub returns-clause-within : goal.returns-clause-within
returns-clause-within g c =
    within_keep c.args.live.now.items _ _ _ c.keep_live.ensures (rw c.tend_listed.ensures.same c.requires.within)

pub returns-clause-covers : goal.returns-clause-covers
returns-clause-covers g c = covers_keep c.args.live.now.items _ c.tend_listed.new.runs.items (c.keep_live.ensures
    ∙ ap (λ r. keep r c.args.live.now.items) c.deref-2.ensures.value)
    (subst (λ x. Covers x c.tend_listed.new.runs.items) c.deref.ensures.value c.in_ok-news.ensures.covers)
