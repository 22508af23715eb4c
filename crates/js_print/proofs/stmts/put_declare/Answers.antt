use Rattle.std.proofs.Common.{refl}
use Rattle.js_print.proofs.StmtSplits.{on_declare}
use Rattle.js_print.proofs.stmts.put_declare.Goals as goal

pub returns : goal.returns
returns c = on_declare _ _ _ _ _ _ _ _ c.put.ensures refl c.as_slice.ensures c.declare_word.ensures
