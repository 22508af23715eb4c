use Rattle.std.proofs.Common.{refl}
use Rattle.js_print.proofs.ListSplits.{cut, properties_first}
use Rattle.js_print.proofs.lists.split_properties.Goals as goal

pub returns-in-len1-up : goal.returns-in-len1-up
returns-in-len1-up c = properties_first _ _ _ _ _ _ _ c.put.ensures (cut c.args.properties.now c.first-item.result c.in-len1-up.len_at_least c.first-item.is) refl
