use Rattle.std.proofs.Common.{length}
use Rattle.js_parse_expressions.proofs.values.+fold_tails.Given as goal

abbrev pub decreases-fold_tails : goal.decreases-fold_tails
decreases-fold_tails l = length l.frames
