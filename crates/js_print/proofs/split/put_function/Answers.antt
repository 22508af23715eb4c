use Rattle.std.proofs.Common.{refl}
use Rattle.js_print.proofs.Splits.{on_function_expr}
use Rattle.js_print.proofs.split.put_function.Goals as goal

pub returns : goal.returns
returns c = on_function_expr _ _ _ _ _ _ _ _ c.put.ensures refl refl refl
