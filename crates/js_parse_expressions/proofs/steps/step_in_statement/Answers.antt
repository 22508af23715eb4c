use Rattle.std.proofs.Common.{sym, subst, true}
use Rattle.js_parse_core.specs.Steps.{Steps}
use Rattle.js_parse_core.specs.Outer.{Step}
use Rattle.js_parse_expressions.proofs.Places.{leaves_step_in_statement}
use Rattle.js_parse_expressions.proofs.steps.step_in_statement.Goals as goal

pub returns-in_default : goal.returns-in_default
returns-in_default c = subst (λ (s : Step). Steps s c.step_in_try.result) (sym (leaves_step_in_statement true c.args.outer c.args.at c.args.token.now c.in_default.not-AfterThen c.in_default.not-Jump c.in_default.not-Return c.in_default.not-Throw c.in_default.not-ExportDefault c.in_default.not-ExportObject c.in_default.not-AfterExport)) c.step_in_try.ensures
