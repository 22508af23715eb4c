use Rattle.std.proofs.Common.{◌∙◌, arith, ap}
use Rattle.wd_top.specs.Table.{keep}
use Rattle.wd_top.proofs.LiveSteps.{truncated}
use Rattle.wd_top.proofs.seat.table.keep_live.Goals as goal

pub returns : goal.returns
returns c = truncated _ c.keep_front-kept.new.live _ c.keep_front-kept.result c.args.live.now.len
    c.truncate.ensures.items c.keep_front-kept.ensures.bound (let l = c.deref_mut.ensures.len in
    let a = c.keep_front-kept.auto.live in let b = c.keep_front-kept.ensures.bound in omega arith)
    ∙ c.keep_front-kept.ensures.kept ∙ ap (keep c.args.runs.now) c.deref_mut.ensures.value
