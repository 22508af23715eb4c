use Rattle.std.proofs.lemmas.Result.{IfOk-weaker}
use Rattle.wd_command.proofs.ProgramLemmas.{adds_arg}
use Rattle.wd_command.proofs.program.on_config.Goals as goal

pub returns : goal.returns
returns c =
    let with_config = adds_arg c.new.result c.word-config.result c.in_ok-arg.field-0 _ _
    (c.new.ensures.app, c.new.ensures.local) c.word-config.ensures c.in_ok-arg.ensures in
    IfOk-weaker c.arg-2.result _ _ (λ r h. adds_arg c.in_ok-arg.field-0 c.word-constant.result r _ _ with_config
    c.word-constant.ensures h) c.arg-2.ensures
