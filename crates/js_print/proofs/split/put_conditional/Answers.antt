use Rattle.std.proofs.Common.{refl}
use Rattle.js_print.proofs.Splits.{on_conditional}
use Rattle.js_print.proofs.split.put_conditional.Goals as goal

pub returns : goal.returns
returns c = on_conditional _ _ _ _ _ _ _ _ _ _ c.put.ensures refl c.get.ensures c.get-2.ensures c.get-3.ensures
