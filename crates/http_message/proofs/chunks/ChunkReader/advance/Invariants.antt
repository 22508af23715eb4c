use Rattle.std.proofs.Common.{◌-◌, length}
use Rattle.http_message.specs.Steps.{IsReading}
use Rattle.http_message.proofs.chunks.ChunkReader.advance.Given as goal

abbrev pub invariant-loop-why : goal.invariant-loop-why
invariant-loop-why l = IsReading l.bytes l.self

abbrev pub decreases-loop-why : goal.decreases-loop-why
decreases-loop-why l = length l.bytes - l.self.at
