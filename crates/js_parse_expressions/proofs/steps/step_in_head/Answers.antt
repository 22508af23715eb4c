use Rattle.std.proofs.Common.{sym, subst, true}
use Rattle.js_parse_core.specs.Steps.{Steps}
use Rattle.js_parse_core.specs.Outer.{Step}
use Rattle.js_parse_expressions.proofs.Places.{leaves_step_in_head}
use Rattle.js_parse_expressions.proofs.steps.step_in_head.Goals as goal

pub returns-in_default : goal.returns-in_default
returns-in_default c = subst (λ (s : Step). Steps s c.step_in_statement.result) (sym (leaves_step_in_head true c.args.outer c.args.at c.args.token.now c.in_default.not-DeclaredName c.in_default.not-NameDeclared c.in_default.not-Opening c.in_default.not-ForHead c.in_default.not-ForTest c.in_default.not-ForUpdate)) c.step_in_statement.ensures
