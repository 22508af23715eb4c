use Rattle.std.proofs.Common.{length}
use Rattle.js_parse_expressions.proofs.values.+fold.Given as goal

abbrev pub decreases-fold : goal.decreases-fold
decreases-fold l = length l.frames
