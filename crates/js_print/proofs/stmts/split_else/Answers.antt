use Rattle.js_print.proofs.ListSplits.{some_else}
use Rattle.js_print.proofs.stmts.split_else.Goals as goal

pub returns-in-Some : goal.returns-in-Some
returns-in-Some c = some_else _ _ _ _ _ _ c.put.ensures c.in-Some.is c.get.ensures
