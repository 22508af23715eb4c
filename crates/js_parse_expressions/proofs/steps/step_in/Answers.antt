use Rattle.std.proofs.Common.{sym, subst, true}
use Rattle.js_parse_core.specs.Steps.{Steps}
use Rattle.js_grammar.specs.Script.{most_open}
use Rattle.js_parse_core.specs.Outer.{Step}
use Rattle.js_parse_expressions.proofs.Places.{leaves_step_in}
use Rattle.js_parse_expressions.proofs.steps.step_in.Goals as goal

pub returns-in_default : goal.returns-in_default
returns-in_default c = subst (λ (s : Step). Steps s c.step_in_arrow.result) (sym (leaves_step_in most_open true c.args.outer c.args.at c.args.token.now c.in_default.not-Statement c.in_default.not-Begin c.in_default.not-Operand c.in_default.not-Updated c.in_default.not-Whole c.in_default.not-MemberName c.in_default.not-NextArgument c.in_default.not-NextElement)) c.step_in_arrow.ensures
