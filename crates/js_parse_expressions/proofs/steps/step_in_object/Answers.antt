use Rattle.std.proofs.Common.{sym, subst, true}
use Rattle.js_parse_core.specs.Steps.{Steps}
use Rattle.js_parse_core.specs.Outer.{Step}
use Rattle.js_parse_expressions.proofs.Places.{leaves_step_in_object}
use Rattle.js_parse_expressions.proofs.steps.step_in_object.Goals as goal

pub returns-in_default : goal.returns-in_default
returns-in_default c = subst (λ (s : Step). Steps s c.step_in_function.result) (sym (leaves_step_in_object true c.args.outer c.args.at c.args.token.now c.in_default.not-Key c.in_default.not-NameKey c.in_default.not-OtherKey c.in_default.not-AsyncKey c.in_default.not-AsyncMethod c.in_default.not-PropertyEnd)) c.step_in_function.ensures
