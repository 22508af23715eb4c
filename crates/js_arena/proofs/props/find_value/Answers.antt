use Rattle.std.proofs.Common.{◌∙◌}
use Rattle.js_arena.proofs.PairsKept.{pairs_lookup}
use Rattle.js_arena.proofs.props.find_value.Goals as goal

pub returns : goal.returns
returns c = c.copied.ensures ∙ c.get.ensures.value ∙ pairs_lookup c.args.map.now.entries c.args.key.now
