use Rattle.std.proofs.Common.{refl}
use Rattle.js_print.proofs.Splits.{on_call}
use Rattle.js_print.proofs.split.put_call.Goals as goal

pub returns : goal.returns
returns c = on_call _ _ _ _ _ _ _ _ c.put.ensures refl c.get.ensures c.as_slice.ensures
