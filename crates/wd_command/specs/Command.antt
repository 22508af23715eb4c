-- What the words of a command line ask for.
use Rattle.std.specs.Prelude.{Bool, true, false, ◌==◌, List, Option, Some, None, codes, bytes_eq, length}
use Rattle.std.specs.Prelude.{if◌then◌else◌}
use Rattle.std.specs.Option.{option_map, option_map_or}
use Rattle.clap.specs.Words.{Row, Text, fault_of, first_of, matches_of, subcommand_of}
use Rattle.wd_command.specs.Program.{program}
use Rattle.wd_command.specs.declared.command.Asks.{Asks}
use Rattle.wd_command.specs.declared.command.Asks.TheVariants as told
use Rattle.wd_command.specs.declared.command.CommandLine.{CommandLine}
use Rattle.wd_command.specs.declared.command.Verb.{Verb}
use Rattle.wd_command.specs.declared.command.Verb.TheVariants as verb
use Rattle.wd_command.specs.declared.notice.Notice.{Notice}
use Rattle.wd_command.specs.declared.notice.Notice.TheVariants as notice

-- a command: its verb, the path of the configuration, and the name of the constant in it, where one is named
pub record Asked : Type 0 where
  pub verb : Verb
  pub config : Text
  pub constant : Option Text

-- what the words of a command line ask for: a command, or that a text is shown
pub data Wish : Type 0 where
  runs : Asked → Wish
  shows : Notice → Wish

-- what a command line in the code asks for
abbrev pub asked_of : CommandLine → Asked
asked_of c = record { verb = c.verb; config = c.config.now; constant = option_map (λ name. name.now) c.constant }

-- the wish that an answer of the code says
abbrev pub wish_of : Asks → Wish
wish_of (told.Run c) = runs (asked_of c)
wish_of (told.Show n) = shows n

-- the verb that a word is
abbrev pub verb_of : Text → Option Verb
verb_of word =
    if bytes_eq word (codes "serve") then Some verb.Serve
    else (if bytes_eq word (codes "check") then Some verb.Check else None)

-- the option without a value was given
abbrev pub is_on : Text → List Row → Bool
is_on name rows = option_map_or (λ value. bytes_eq value (codes "true")) (first_of name rows) false

-- the number of threads, where one is given, is 1
abbrev pub is_one : Option Text → Bool
is_one given = option_map_or (λ value. bytes_eq value (codes "1")) given true

-- the command of a verb with a configuration and perhaps its constant
abbrev pub run : Option Verb → Option Text → Option Text → Wish
run (Some v) (Some config) constant = runs (record { verb = v; config = config; constant = constant })
run _ _ constant = shows notice.Fault

-- what the words behind a verb ask for, of which clap made these rows
abbrev pub given : Option Verb → List Row → Wish
given v rows =
    if is_on (codes "help") rows then shows notice.Help
    else (if is_one (first_of (codes "threads") rows)
    then run v (first_of (codes "config") rows) (first_of (codes "const") rows) else shows notice.Fault)

-- what the words ask for by the command that stands among them
abbrev pub by_command : Option (Text × List Row) → Wish
by_command None = shows notice.Fault
by_command (Some p) = given (verb_of p.0) p.1

-- what words ask for of which clap made these rows, and perhaps a command with rows of its own
abbrev pub asked_in : List Row → Option (Text × List Row) → Wish
asked_in rows command =
    if is_on (codes "help") rows then shows notice.Help
    else (if is_on (codes "version") rows then shows notice.Version else by_command command)

-- what the words ask for: `--help` before `--version` before a command, and nothing where clap finds a fault in them
unfoldable pub wish : List Text → Wish
wish words =
    if length (fault_of program words) == 0 then asked_in (matches_of program words) (subcommand_of program words)
    else shows notice.Fault

-- the command that a wish is
abbrev pub run_in : Wish → Option Asked
run_in (runs asked) = Some asked
run_in _ = None

-- the command that the words are
abbrev pub command : List Text → Option Asked
command words = run_in (wish words)

-- the command is `serve`, not `check`
abbrev pub is_serving : Verb → Bool
is_serving verb.Serve = true
is_serving verb.Check = false

-- the words ask to serve
abbrev pub is_serve : Option Asked → Bool
is_serve None = false
is_serve (Some asked) = is_serving asked.verb
