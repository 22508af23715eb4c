use Rattle.std.proofs.Common.{refl}
use Rattle.js_print.proofs.ListSplits.{on_parameters}
use Rattle.js_print.proofs.split.put_parameters.Goals as goal

pub returns : goal.returns
returns c = on_parameters _ _ _ _ _ c.put.ensures refl
