-- The program's options and words, as clap is given them.
use Rattle.std.specs.Prelude.{◌≡◌, [], Some, codes, false, true}
use Rattle.clap.specs.Words.{App, Shape, Rule, Text, app_of, new_app, new_rule, rule_of, with_rule}
use Rattle.clap.specs.Words.{with_subcommand}
use Rattle.clap.specs.declared.builder.action.ArgAction.TheVariants.{SetTrue}
use Rattle.clap.specs.declared.builder.arg.Arg.{Arg}
use Rattle.clap.specs.declared.builder.command.Command.{Command}
use Rattle.clap.specs.declared.builder.command.Command.TheViews.{out-Command}

-- a word that stands at its place: its value is what was given there
abbrev pub word : Text → Rule
word id = new_rule id

-- an option with a value: `--name value` or `--name=value`, at most once
abbrev pub option : Text → Rule
option name = record (new_rule name) { long = Some name }

-- an option without a value: `--name`, at most once
abbrev pub flag : Text → Rule
flag name = record (new_rule name) { long = Some name; action = Some SetTrue }

-- `<config> [<const>]`, of a command of this name
abbrev pub on_config : Text → App
on_config name = with_rule (with_rule (new_app name) (word (codes "config"))) (word (codes "const"))

-- `serve <config> [<const>] [--threads n] [--help]`
abbrev pub serve : App
serve = with_rule (with_rule (on_config (codes "serve")) (option (codes "threads"))) (flag (codes "help"))

-- `check <config> [<const>] [--help]`
abbrev pub check : App
check = with_rule (on_config (codes "check")) (flag (codes "help"))

-- a program whose words come without its name, and to which clap adds no option and no command of its own
abbrev pub plain : Shape → Shape
plain s = record s {
  no_binary_name = true;
  disable_help_flag = true;
  disable_help_subcommand = true;
  disable_version_flag = true;
}

-- `[--help] [--version]`, before the commands are added
abbrev pub top : App
top = record { top = plain (new_app (codes "workerd")).top; subs = [] }

-- the whole command line: `[--help] [--version]`, and then one of the two commands
abbrev pub program : App
program = with_subcommand (with_subcommand (with_rule (with_rule top (flag (codes "help"))) (flag (codes "version")))
    serve.top) check.top

-- the argument has this rule, and holds for its own command alone
abbrev pub IsArg : Rule → Arg → Type 0
IsArg rule arg = (rule_of arg ≡ rule) × (arg.global ≡ false)

-- the command has this form, and each of its arguments holds for it alone
abbrev pub IsApp : App → Command → Type 0
IsApp app command = (app_of command ≡ app) × ((out-Command command).has_globals ≡ false)
