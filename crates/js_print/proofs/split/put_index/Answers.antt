use Rattle.std.proofs.Common.{refl}
use Rattle.js_print.proofs.Splits.{on_index}
use Rattle.js_print.proofs.split.put_index.Goals as goal

pub returns : goal.returns
returns c = on_index _ _ _ _ _ _ _ _ c.put.ensures refl c.get.ensures c.get-2.ensures
