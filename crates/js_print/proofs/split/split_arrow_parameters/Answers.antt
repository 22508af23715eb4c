use Rattle.std.proofs.Common.{arith}
use Rattle.js_print.proofs.ListSplits.{many_parameters}
use Rattle.js_print.proofs.split.split_arrow_parameters.Goals as goal

pub returns-in-empty : goal.returns-in-empty
returns-in-empty c = many_parameters _ _ _ _ _ c.put_parameters.ensures (λ one. omega (arith, one, c.in-empty.len_below))

pub returns-in-len2-up : goal.returns-in-len2-up
returns-in-len2-up c = many_parameters _ _ _ _ _ c.put_parameters-in-len2-up.ensures (λ one. omega (arith, one, c.in-len2-up.len_at_least))
