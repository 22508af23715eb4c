use Rattle.std.proofs.Common.{refl}
use Rattle.js_print.proofs.Splits.{on_array}
use Rattle.js_print.proofs.split.put_array.Goals as goal

pub returns : goal.returns
returns c = on_array _ _ _ _ _ _ c.put.ensures refl c.as_slice.ensures
