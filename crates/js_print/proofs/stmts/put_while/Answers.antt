use Rattle.std.proofs.Common.{refl}
use Rattle.js_print.proofs.StmtSplits.{on_while}
use Rattle.js_print.proofs.stmts.put_while.Goals as goal

pub returns : goal.returns
returns c = on_while _ _ _ _ _ _ _ _ c.put.ensures refl refl c.get.ensures
