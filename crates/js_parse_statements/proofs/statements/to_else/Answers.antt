use Rattle.std.proofs.Common.{sym, subst}
use Rattle.js_parse_core.specs.Steps.{Steps}
use Rattle.js_parse_core.specs.Outer.{Step}
use Rattle.js_parse_statements.proofs.Branches.{refuses_else}
use Rattle.js_parse_statements.proofs.statements.to_else.Goals as goal

pub returns-in_default : goal.returns-in_default
returns-in_default c = subst (λ (s : Step). Steps s c.refuse_at.result) (sym (refuses_else c.args.outer c.args.at c.in_default.not-AfterThen)) c.refuse_at.ensures
