use Rattle.std.proofs.Common.{refl}
use Rattle.js_print.proofs.StmtSplits.{on_for}
use Rattle.js_print.proofs.stmts.put_for.Goals as goal

pub returns : goal.returns
returns c = on_for _ _ _ _ _ _ _ _ _ _ _ _ c.put.ensures refl refl refl refl c.get.ensures
