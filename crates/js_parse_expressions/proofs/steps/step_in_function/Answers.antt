use Rattle.std.proofs.Common.{sym, subst, true}
use Rattle.js_parse_core.specs.Steps.{Steps}
use Rattle.js_parse_core.specs.Outer.{Step}
use Rattle.js_parse_expressions.proofs.Places.{leaves_step_in_function}
use Rattle.js_parse_expressions.proofs.steps.step_in_function.Goals as goal

pub returns-in_default : goal.returns-in_default
returns-in_default c = subst (λ (s : Step). Steps s c.step_in_head.result) (sym (leaves_step_in_function true c.args.outer c.args.at c.args.token.now c.in_default.not-FunctionName c.in_default.not-ParametersOpen c.in_default.not-Parameters c.in_default.not-ParameterRead c.in_default.not-BodyOpen)) c.step_in_head.ensures
