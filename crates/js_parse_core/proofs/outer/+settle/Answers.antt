use Rattle.js_parse_core.proofs.FrameEnds.{settles_outer}
use Rattle.js_parse_core.proofs.outer.+settle.Goals as goal

pub returns-in_ok-with_body-in-Body : goal.returns-in_ok-with_body-in-Body
returns-in_ok-with_body-in-Body t c = settles_outer c.args.outer c.in-Some.open c.pop-open.new.self c.in-Body.body c.args.stmt c.in_ok-with_body-in-Body.field-0 c.settle.result c.in-Some.ensures c.in-Body.is c.in_ok-with_body-in-Body.ensures c.settle.ensures
