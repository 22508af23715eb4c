use Rattle.std.proofs.lemmas.Result.{IfOk-weaker}
use Rattle.wd_command.proofs.ProgramLemmas.{adds_arg}
use Rattle.wd_command.proofs.program.check.Goals as goal

pub returns : goal.returns
returns c = IfOk-weaker c.arg.result _ _ (λ r h. adds_arg c.in_ok-begun.begun c.flag-help.result r _ _
    c.in_ok-begun.ensures c.flag-help.ensures h) c.arg.ensures
