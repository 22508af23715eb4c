use Rattle.std.proofs.Common.{◌≡◌, length}
use Rattle.capnp_text.specs.Grammar.{most_open}
use Rattle.capnp_text.specs.Machine.{step, read}
use Rattle.capnp_text.specs.Run.{run}
use Rattle.capnp_text.proofs.reader.run.Given as goal

abbrev pub invariant-loop-token : goal.invariant-loop-token
invariant-loop-token l = read most_open l.fn.tokens ≡ run (step most_open) l.state l.rest

abbrev pub decreases-loop-token : goal.decreases-loop-token
decreases-loop-token l = length l.rest
