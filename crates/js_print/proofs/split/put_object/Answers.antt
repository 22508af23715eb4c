use Rattle.std.proofs.Common.{refl}
use Rattle.js_print.proofs.Splits.{on_object}
use Rattle.js_print.proofs.split.put_object.Goals as goal

pub returns : goal.returns
returns c = on_object _ _ _ _ _ _ c.put.ensures refl c.as_slice.ensures
