use Rattle.std.proofs.Common.{refl}
use Rattle.js_print.proofs.StmtSplits.{on_for_of}
use Rattle.js_print.proofs.stmts.put_for_of.Goals as goal

pub returns : goal.returns
returns c = on_for_of _ _ _ _ _ _ _ _ _ _ _ _ _ c.put.ensures refl refl refl c.get.ensures c.declare_word.ensures refl
