use Rattle.std.proofs.Common.{◌≡◌, drop}
use Rattle.js_json.specs.Machine.{accepts, start}
use Rattle.js_json.proofs.reader.accepts.Given as goal

abbrev pub invariant-loop-at : goal.invariant-loop-at
invariant-loop-at l = accepts start l.units ≡ accepts l.state (drop l.at l.units)
