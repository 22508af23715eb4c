use Rattle.std.proofs.Common.{refl}
use Rattle.js_print.proofs.StmtSplits.{on_if}
use Rattle.js_print.proofs.stmts.put_if.Goals as goal

pub returns : goal.returns
returns c = on_if _ _ _ _ _ _ _ _ _ _ c.put.ensures refl refl c.get.ensures refl
