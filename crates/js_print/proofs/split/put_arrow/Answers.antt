use Rattle.std.proofs.Common.{refl}
use Rattle.js_print.proofs.Splits.{on_arrow}
use Rattle.js_print.proofs.split.put_arrow.Goals as goal

pub returns : goal.returns
returns c = on_arrow _ _ _ _ _ _ _ _ _ c.put.ensures refl c.as_slice.ensures refl
