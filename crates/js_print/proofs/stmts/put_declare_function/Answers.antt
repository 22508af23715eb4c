use Rattle.std.proofs.Common.{refl}
use Rattle.js_print.proofs.StmtSplits.{on_declare_function}
use Rattle.js_print.proofs.stmts.put_declare_function.Goals as goal

pub returns : goal.returns
returns c = on_declare_function _ _ _ _ _ _ _ _ c.put.ensures refl refl refl
