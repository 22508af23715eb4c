use Rattle.std.proofs.Common.{refl}
use Rattle.js_print.proofs.StmtSplits.{on_declarations, on_start}
use Rattle.js_print.proofs.stmts.split_begin.Goals as goal

pub returns-in-Declarations : goal.returns-in-Declarations
returns-in-Declarations c = on_declarations _ _ _ _ _ _ _ _ c.put.ensures c.in-Declarations.is c.as_slice.ensures c.declare_word.ensures

pub returns-in-Start : goal.returns-in-Start
returns-in-Start c = on_start _ _ _ _ _ _ c.put-in-Start.ensures c.in-Start.is refl
