use Rattle.std.proofs.Common.{arith}
use Rattle.std.proofs.lemmas.Bool.Decides.{nat_tests}
use Rattle.http_message.proofs.ChunkSteps.{later_empty, later_one}
use Rattle.http_message.proofs.chunks.end_of.Goals as goal

pub returns-then-is_empty : goal.returns-then-is_empty
returns-then-is_empty c = later_empty c.args.bytes.now (grind (arith, nat_tests))

pub returns-then-bytes-eq1 : goal.returns-then-bytes-eq1
returns-then-bytes-eq1 c = later_one c.args.bytes.now c.if-bytes-eq1.true c.if-bytes-ne13.false
