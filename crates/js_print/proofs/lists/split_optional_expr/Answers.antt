use Rattle.std.proofs.Common.{refl}
use Rattle.js_print.proofs.ListSplits.{some_expr}
use Rattle.js_print.proofs.lists.split_optional_expr.Goals as goal

pub returns-in-Some : goal.returns-in-Some
returns-in-Some c = some_expr _ _ _ _ _ _ c.put.ensures c.in-Some.is refl
