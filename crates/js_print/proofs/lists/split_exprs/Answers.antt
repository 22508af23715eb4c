use Rattle.std.proofs.Common.{refl}
use Rattle.js_print.proofs.ListSplits.{cut, exprs_first}
use Rattle.js_print.proofs.lists.split_exprs.Goals as goal

pub returns-in-len1-up : goal.returns-in-len1-up
returns-in-len1-up c = exprs_first _ _ _ _ _ _ _ c.put.ensures (cut c.args.exprs.now c.first-item.result c.in-len1-up.len_at_least c.first-item.is) refl
