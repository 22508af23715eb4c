use Rattle.std.proofs.Common.{refl}
use Rattle.js_print.proofs.ListSplits.{item_stmt, item_export}
use Rattle.js_print.proofs.walk.put_item.Goals as goal

pub returns-in-Stmt : goal.returns-in-Stmt
returns-in-Stmt c = item_stmt _ _ _ _ _ _ c.put.ensures c.in-Stmt.is refl

pub returns-in-Export : goal.returns-in-Export
returns-in-Export c = item_export _ _ _ _ _ _ c.put-in-Export.ensures c.in-Export.is c.as_slice.ensures
