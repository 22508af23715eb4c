use Rattle.std.proofs.Common.{refl}
use Rattle.js_print.proofs.StmtSplits.{on_method, on_pair, on_short}
use Rattle.js_print.proofs.lists.split_property.Goals as goal

pub returns-in-Pair : goal.returns-in-Pair
returns-in-Pair c = on_pair _ _ _ _ _ _ _ _ c.put.ensures c.in-Pair.is refl refl

pub returns-in-Short : goal.returns-in-Short
returns-in-Short c = on_short _ _ _ _ _ _ c.put-in-Short.ensures c.in-Short.is refl

pub returns-in-Method : goal.returns-in-Method
returns-in-Method c = on_method _ _ _ _ _ _ _ _ c.put-in-Method.ensures c.in-Method.is refl refl
