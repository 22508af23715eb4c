use Rattle.std.proofs.Common.{refl}
use Rattle.js_print.proofs.Splits.{on_member}
use Rattle.js_print.proofs.split.put_member.Goals as goal

pub returns : goal.returns
returns c = on_member _ _ _ _ _ _ _ _ c.put.ensures refl c.get.ensures refl
