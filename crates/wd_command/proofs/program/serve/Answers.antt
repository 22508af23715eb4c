use Rattle.std.proofs.lemmas.Result.{IfOk-weaker}
use Rattle.wd_command.proofs.ProgramLemmas.{adds_arg}
use Rattle.wd_command.proofs.program.serve.Goals as goal

pub returns : goal.returns
returns c =
    let with_threads = adds_arg c.in_ok-begun.begun c.option-threads.result c.in_ok-arg.field-0 _ _
    c.in_ok-begun.ensures c.option-threads.ensures c.in_ok-arg.ensures in
    IfOk-weaker c.arg-2.result _ _ (λ r h. adds_arg c.in_ok-arg.field-0 c.flag-help.result r _ _ with_threads
    c.flag-help.ensures h) c.arg-2.ensures
