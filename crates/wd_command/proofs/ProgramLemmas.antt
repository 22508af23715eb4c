-- The program, argument by argument.
use Rattle.std.proofs.Common.{◌≡◌, ◌∙◌, ap, ap₂, Bool, ◌||◌, Some}
use Rattle.std.specs.Borrow.{Bor}
use Rattle.clap.specs.Words.{App, Rule, Text, AddsArg, AddsSubcommand, new_rule, with_rule, with_subcommand}
use Rattle.clap.specs.declared.builder.action.ArgAction.TheVariants.{SetTrue}
use Rattle.clap.specs.declared.builder.arg.Arg.{Arg}
use Rattle.clap.specs.declared.builder.command.Command.{Command}
use Rattle.wd_command.specs.Program.{IsApp, IsArg, option, flag}

-- a command with one more argument
pub adds_arg : (old : Command) (a : Arg) (new : Command) (p : App) (r : Rule) → IsApp p old → IsArg r a
    → AddsArg old a new → IsApp (with_rule p r) new
adds_arg old a new p r h g s =
    (s.shape g.1 ∙ ap₂ with_rule h.0 g.0, s.globals ∙ ap₂ (λ (x y : Bool). x || y) h.1 g.1)

-- a command with one more command of its own
pub adds_command : (old sub new : Command) (p q : App) → IsApp p old → IsApp q sub → AddsSubcommand old sub new
    → IsApp (with_subcommand p q.top) new
adds_command old sub new p q h g s = (
  s.shape g.1 ∙ ap₂ with_subcommand h.0 (ap (λ (x : App). x.top) g.0),
  s.globals ∙ ap₂ (λ (x y : Bool). x || y) h.1 g.1,
)

-- an argument that becomes an option with a value
pub option_arg : (start end : Arg) (name : Bor Text) → IsArg (new_rule name.now) start
    → end ≡ record start { long = Some name } → IsArg (option name.now) end
option_arg start end name g e = rw (e) (ap (λ (r : Rule). record r { long = Some name.now }) g.0, g.1)

-- an argument that becomes an option without one
pub flag_arg : (start mid end : Arg) (name : Bor Text) → IsArg (new_rule name.now) start
    → mid ≡ record start { long = Some name } → end ≡ record mid { action = Some SetTrue }
    → IsArg (flag name.now) end
flag_arg start mid end name g e f =
    rw (f, e) (ap (λ (r : Rule). record r { long = Some name.now; action = Some SetTrue }) g.0, g.1)
