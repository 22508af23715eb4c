use Rattle.std.proofs.Common.{refl}
use Rattle.js_print.proofs.ListSplits.{some_catch}
use Rattle.js_print.proofs.stmts.split_catch.Goals as goal

pub returns-in-Some : goal.returns-in-Some
returns-in-Some c = some_catch _ _ _ _ _ _ _ c.put.ensures c.in-Some.is refl c.as_slice.ensures
