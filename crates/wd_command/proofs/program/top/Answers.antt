use Rattle.std.proofs.Common.{ap}
use Rattle.clap.specs.Words.{App}
use Rattle.wd_command.specs.Program.{plain}
use Rattle.wd_command.proofs.program.top.Goals as goal

pub returns : goal.returns
returns c =
    rw (
      c.disable_version_flag.ensures,
      c.disable_help_subcommand.ensures,
      c.disable_help_flag.ensures,
      c.no_binary_name.ensures,
    ) (ap (λ (a : App). record { top = plain a.top; subs = a.subs }) c.new.ensures.app, c.new.ensures.local)
