use Rattle.std.proofs.Common.{refl}
use Rattle.js_print.proofs.ListSplits.{cut, more_first}
use Rattle.js_print.proofs.lists.split_more_declarations.Goals as goal

pub returns-in-len1-up : goal.returns-in-len1-up
returns-in-len1-up c = more_first _ _ _ _ _ _ _ c.put.ensures (cut c.args.declarations.now c.first-item.result c.in-len1-up.len_at_least c.first-item.is) refl
