use Rattle.std.proofs.Common.{length}
use Rattle.js_parse_core.proofs.outer.+complete.Given as goal

abbrev pub decreases-complete : goal.decreases-complete
decreases-complete l = length l.outer.frames
