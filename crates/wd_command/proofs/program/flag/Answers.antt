use Rattle.wd_command.proofs.ProgramLemmas.{flag_arg}
use Rattle.wd_command.proofs.program.flag.Goals as goal

pub returns : goal.returns
returns c = flag_arg c.new.result c.long.result c.action.result c.args.name
    (c.new.ensures.rule, c.new.ensures.optional.1) c.long.ensures c.action.ensures
