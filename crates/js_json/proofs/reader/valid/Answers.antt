use Rattle.std.proofs.Common.{ℕ, List, length, ◌<◌, ◌^◌, ◌∙◌, ap, subst}
use Rattle.js_json.specs.Machine.{accepts, start}
use Rattle.js_json.proofs.Exact.{exact}
use Rattle.js_json.proofs.reader.valid.Goals as goal

pub returns : goal.returns
returns c = exact c.args.text.now c.accepts.result (subst (λ (z : List ℕ). length z < 2 ^ 63) c.as_slice.ensures c.accepts.ensures.short) (c.accepts.ensures.accepted ∙ ap (accepts start) c.as_slice.ensures)
