use Rattle.std.proofs.Common.{refl}
use Rattle.js_print.proofs.StmtSplits.{on_throw}
use Rattle.js_print.proofs.stmts.put_throw.Goals as goal

pub returns : goal.returns
returns c = on_throw _ _ _ _ _ _ c.put.ensures refl refl
