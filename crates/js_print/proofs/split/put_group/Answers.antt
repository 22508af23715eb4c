use Rattle.std.proofs.Common.{refl}
use Rattle.js_print.proofs.Splits.{on_group}
use Rattle.js_print.proofs.split.put_group.Goals as goal

pub returns : goal.returns
returns c = on_group _ _ _ _ _ _ c.put.ensures refl c.get.ensures
