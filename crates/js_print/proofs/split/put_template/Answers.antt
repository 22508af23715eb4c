use Rattle.std.proofs.Common.{refl}
use Rattle.js_print.proofs.EmptyLists.{empty_list}
use Rattle.js_print.proofs.ListSplits.{cut, template_head, template_whole}
use Rattle.js_print.proofs.split.put_template.Goals as goal

pub returns-in-empty : goal.returns-in-empty
returns-in-empty c = template_whole _ _ _ _ _ _ c.put.ensures (empty_list _ c.in-empty.len_below) refl

pub returns-in-len1-up : goal.returns-in-len1-up
returns-in-len1-up c = template_head _ _ _ _ _ _ _ _ _ _ c.put-in-len1-up.ensures (cut c.args.items.now c.first-item.result c.in-len1-up.len_at_least c.first-item.is) c.as_slice.ensures refl refl
