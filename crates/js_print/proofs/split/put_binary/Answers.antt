use Rattle.std.proofs.Common.{refl}
use Rattle.js_print.proofs.Splits.{on_binary}
use Rattle.js_print.proofs.split.put_binary.Goals as goal

pub returns : goal.returns
returns c = on_binary _ _ _ _ _ _ _ _ _ _ c.put.ensures refl c.get.ensures c.get-2.ensures c.binary_sign.ensures
