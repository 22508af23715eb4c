use Rattle.js_parse_core.proofs.FrameEnds.{completes_outer}
use Rattle.js_parse_core.proofs.outer.+complete.Goals as goal

pub returns-in_ok-with_body-in_default-body : goal.returns-in_ok-with_body-in_default-body
returns-in_ok-with_body-in_default-body t c = completes_outer c.args.outer c.in-Some.open c.pop-open.new.self c.in-Body.body c.args.stmt c.in_ok-with_body-in_default-body.field-0 c.complete.result c.in-Some.ensures c.in-Body.is c.in_default-body.not-Then c.in_ok-with_body-in_default-body.ensures c.complete.ensures
