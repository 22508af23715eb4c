use Rattle.std.proofs.Common.{refl}
use Rattle.js_print.proofs.ListSplits.{key_name, key_number, key_text}
use Rattle.js_print.proofs.lists.split_key.Goals as goal

pub returns-in-Name : goal.returns-in-Name
returns-in-Name c = key_name _ _ _ _ _ _ c.put.ensures c.in-Name.is refl

pub returns-in-Text : goal.returns-in-Text
returns-in-Text c = key_text _ _ _ _ _ _ c.put-in-Text.ensures c.in-Text.is c.as_slice.ensures

pub returns-in-Number : goal.returns-in-Number
returns-in-Number c = key_number _ _ _ _ _ c.put-in-Number.ensures c.in-Number.is
