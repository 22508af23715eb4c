use Rattle.std.proofs.Common.{refl, subst, ℕ, List, length, ◌<◌, ◌^◌}
use Rattle.std.proofs.lemmas.Bool.Decides.{same_from_decides}
use Rattle.js_json.specs.Machine.{accepts, start}
use Rattle.js_json.proofs.Exact.{exact}
use Rattle.wd_config.proofs.leaves.is_json.Goals as goal

pub returns : goal.returns
returns c = same_from_decides c.valid.result (accepts start c.args.units.now) c.valid.ensures (exact c.args.units.now (accepts start c.args.units.now) (subst (λ (us : List ℕ). length us < 2 ^ 63) c.as_slice.ensures c.count-count.ensures.short) refl)
