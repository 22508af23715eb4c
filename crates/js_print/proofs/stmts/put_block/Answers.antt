use Rattle.std.proofs.Common.{refl}
use Rattle.js_print.proofs.StmtSplits.{on_block}
use Rattle.js_print.proofs.stmts.put_block.Goals as goal

pub returns : goal.returns
returns c = on_block _ _ _ _ _ _ c.put.ensures refl c.as_slice.ensures
