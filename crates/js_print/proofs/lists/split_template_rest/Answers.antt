use Rattle.std.proofs.Common.{refl}
use Rattle.js_print.proofs.EmptyLists.{empty_list}
use Rattle.js_print.proofs.ListSplits.{cut, rest_first, rest_tail}
use Rattle.js_print.proofs.lists.split_template_rest.Goals as goal

pub returns-in-empty : goal.returns-in-empty
returns-in-empty c = rest_tail _ _ _ _ _ _ c.put.ensures (empty_list _ c.in-empty.len_below) refl

pub returns-in-len1-up : goal.returns-in-len1-up
returns-in-len1-up c = rest_first _ _ _ _ _ _ _ _ _ _ c.put-in-len1-up.ensures (cut c.args.items.now c.first-item.result c.in-len1-up.len_at_least c.first-item.is) c.as_slice.ensures refl refl
