use Rattle.std.proofs.Common.{length}
use Rattle.js_parse_core.proofs.outer.+settle.Given as goal

abbrev pub decreases-settle : goal.decreases-settle
decreases-settle l = length l.outer.frames
