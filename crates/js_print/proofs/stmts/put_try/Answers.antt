use Rattle.std.proofs.Common.{refl}
use Rattle.js_print.proofs.StmtSplits.{on_try}
use Rattle.js_print.proofs.stmts.put_try.Goals as goal

pub returns : goal.returns
returns c = on_try _ _ _ _ _ _ _ _ _ _ c.put.ensures refl c.as_slice.ensures refl refl
