use Rattle.std.proofs.Common.{refl}
use Rattle.js_print.proofs.Splits.{on_new}
use Rattle.js_print.proofs.split.put_new.Goals as goal

pub returns : goal.returns
returns c = on_new _ _ _ _ _ _ _ _ c.put.ensures refl refl c.as_slice.ensures
