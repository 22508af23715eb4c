use Rattle.std.proofs.Common.{refl}
use Rattle.js_print.proofs.ListSplits.{some_caught}
use Rattle.js_print.proofs.lists.split_catch_name.Goals as goal

pub returns-in-Some : goal.returns-in-Some
returns-in-Some c = some_caught _ _ _ _ _ _ c.put.ensures c.in-Some.is refl
