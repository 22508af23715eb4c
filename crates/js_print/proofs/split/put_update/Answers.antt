use Rattle.std.proofs.Common.{refl}
use Rattle.js_print.proofs.Splits.{update_before, update_behind}
use Rattle.js_print.proofs.split.put_update.Goals as goal

pub returns-in-Before : goal.returns-in-Before
returns-in-Before c = update_before _ _ _ _ _ _ _ _ c.put.ensures c.in-Before.is c.update_sign-sign.ensures refl

pub returns-in-Behind : goal.returns-in-Behind
returns-in-Behind c = update_behind _ _ _ _ _ _ _ _ c.put-in-Behind.ensures c.in-Behind.is c.update_sign-sign.ensures refl
