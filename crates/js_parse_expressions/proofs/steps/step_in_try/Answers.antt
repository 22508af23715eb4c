use Rattle.std.proofs.Common.{sym, subst}
use Rattle.js_parse_core.specs.Steps.{Steps}
use Rattle.js_parse_core.specs.Outer.{Step}
use Rattle.js_parse_expressions.proofs.Places.{leaves_step_in_try}
use Rattle.js_parse_expressions.proofs.steps.step_in_try.Goals as goal

pub returns-in_default : goal.returns-in_default
returns-in_default c = subst (λ (s : Step). Steps s c.refuse.result) (sym (leaves_step_in_try c.args.outer c.args.at c.args.token.now c.in_default.not-TryOpen c.in_default.not-AfterTry c.in_default.not-CatchOpen c.in_default.not-CatchName c.in_default.not-CatchClose c.in_default.not-CatchBody c.in_default.not-AfterCatch c.in_default.not-FinallyOpen)) c.refuse.ensures
