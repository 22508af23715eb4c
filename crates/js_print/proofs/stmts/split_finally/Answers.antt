use Rattle.js_print.proofs.ListSplits.{some_finally}
use Rattle.js_print.proofs.stmts.split_finally.Goals as goal

pub returns-in-Some : goal.returns-in-Some
returns-in-Some c = some_finally _ _ _ _ _ _ c.put.ensures c.in-Some.is c.as_slice.ensures
