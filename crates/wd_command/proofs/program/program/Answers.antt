use Rattle.std.proofs.lemmas.Result.{IfOk-weaker}
use Rattle.wd_command.proofs.ProgramLemmas.{adds_arg, adds_command}
use Rattle.wd_command.proofs.program.program.Goals as goal

pub returns : goal.returns
returns c =
    let with_help = adds_arg c.top.result c.flag-help.result c.in_ok-arg.field-0 _ _ c.top.ensures
    c.flag-help.ensures c.in_ok-arg.ensures in
    let with_version = adds_arg c.in_ok-arg.field-0 c.flag-version.result c.in_ok-begun.begun _ _ with_help
    c.flag-version.ensures c.in_ok-begun.ensures in
    let with_serve = adds_command c.in_ok-begun.begun c.in_ok-serve.serve c.in_ok-subcommand.field-0 _ _
    with_version c.in_ok-serve.ensures c.in_ok-subcommand.ensures in
    IfOk-weaker c.subcommand-2.result _ _ (λ r h. (adds_command c.in_ok-subcommand.field-0 c.in_ok-check.check r
    _ _ with_serve c.in_ok-check.ensures h).0) c.subcommand-2.ensures
