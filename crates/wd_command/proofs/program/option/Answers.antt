use Rattle.wd_command.proofs.ProgramLemmas.{option_arg}
use Rattle.wd_command.proofs.program.option.Goals as goal

pub returns : goal.returns
returns c = option_arg c.new.result c.long.result c.args.name (c.new.ensures.rule, c.new.ensures.optional.1)
    c.long.ensures
