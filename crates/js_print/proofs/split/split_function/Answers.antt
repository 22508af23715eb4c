use Rattle.js_print.proofs.ListSplits.{called}
use Rattle.js_print.proofs.split.split_function.Goals as goal

pub returns : goal.returns
returns c = called _ _ _ _ _ _ c.put.ensures c.as_slice.ensures c.as_slice-2.ensures
