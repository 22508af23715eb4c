use Rattle.std.proofs.Common.{◌-◌, length}
use Rattle.http_response.specs.Steps.{IsSkipped}
use Rattle.http_response.proofs.response.read_heads.Given as goal

abbrev pub invariant-loop-why : goal.invariant-loop-why
invariant-loop-why l = IsSkipped l.to_head l.bytes l.at

abbrev pub decreases-loop-why : goal.decreases-loop-why
decreases-loop-why l = length l.bytes - l.at
