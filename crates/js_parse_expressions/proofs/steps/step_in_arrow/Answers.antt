use Rattle.std.proofs.Common.{sym, subst, true}
use Rattle.js_parse_core.specs.Steps.{Steps}
use Rattle.js_grammar.specs.Script.{most_open}
use Rattle.js_parse_core.specs.Outer.{Step}
use Rattle.js_parse_expressions.proofs.Places.{leaves_step_in_arrow}
use Rattle.js_parse_expressions.proofs.steps.step_in_arrow.Goals as goal

pub returns-in_default : goal.returns-in_default
returns-in_default c = subst (λ (s : Step). Steps s c.step_in_object.result) (sym (leaves_step_in_arrow most_open true c.args.outer c.args.at c.args.token.now c.in_default.not-Async c.in_default.not-CoverOpen c.in_default.not-CoverName c.in_default.not-Covered c.in_default.not-Arrow c.in_default.not-ArrowBody c.in_default.not-NewName c.in_default.not-NewOpen)) c.step_in_object.ensures
