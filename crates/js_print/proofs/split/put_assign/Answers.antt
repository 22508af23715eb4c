use Rattle.std.proofs.Common.{refl}
use Rattle.js_print.proofs.Splits.{on_assign}
use Rattle.js_print.proofs.split.put_assign.Goals as goal

pub returns : goal.returns
returns c = on_assign _ _ _ _ _ _ _ _ _ _ c.put.ensures refl refl c.get.ensures c.assign_sign.ensures
