use Rattle.std.proofs.Common.{◌≡◌, drop}
use Rattle.js_parse_core.specs.Answer as spec
use Rattle.js_parse.proofs.reader.read.Given as goal

-- what the tokens that are left answer is the answer
abbrev pub invariant-loop-at : goal.invariant-loop-at
invariant-loop-at l = spec.answer l.tokens ≡ spec.read l.tokens l.at l.state (drop l.at l.tokens)
