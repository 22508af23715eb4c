-- From a parse to the wish.
use Rattle.std.proofs.Common.{◌≡◌, ◌∙◌, subst, refl, sym, ap, ap₂, true, List, [], Option, Some, None, option_map}
use Rattle.std.specs.Prelude.{option_and_then, Box}
use Rattle.std.specs.Box.{box_value}
use Rattle.clap.specs.Words.{App, HasMatchesOf, Row, Text, subcommand_name_of, subcommand_rows, found_of, rows_of}
use Rattle.clap.specs.Words.{matches_of, subcommand_rows_of, is_simple, is_simple_and_free, fault_of, subcommand_of}
use Rattle.clap.specs.declared.parser.matches.ArgMatches.{ArgMatches}
use Rattle.clap.specs.declared.parser.matches.ArgMatches.TheViews.{out-ArgMatches, out-SubCommand}
use Rattle.clap.specs.declared.parser.matches.SubCommand.{SubCommand}
use Rattle.clap.proofs.OnLiterals.{clap_on_literals}
use Rattle.wd_command.specs.Command.{asked_in, by_command, given, verb_of, wish}
use Rattle.wd_command.specs.Program.{program}

-- the program is one of which clap says the matches
pub program_simple : is_simple program ≡ true
unfolding clap_on_literals
program_simple = refl

-- the program is one of which clap says the faults
pub program_free : is_simple_and_free program ≡ true
unfolding clap_on_literals
program_free = refl

-- a parse of the program without a fault
pub no_fault_at : (a : App) (ws : List Text) → a ≡ program
    → (is_simple_and_free a ≡ true → fault_of a ws ≡ []) → fault_of program ws ≡ []
no_fault_at a ws e h = subst (λ (b : App). is_simple_and_free b ≡ true → fault_of b ws ≡ []) e h program_free

-- the wish of words in which clap finds no fault
pub wish_found : (ws : List Text) → fault_of program ws ≡ []
    → asked_in (matches_of program ws) (subcommand_of program ws) ≡ wish ws
unfolding wish
wish_found ws e = rw (e) refl

-- the wish of words, by the matches that clap made of them
pub wish_at : (a : App) (ws : List Text) (m : ArgMatches) → a ≡ program → HasMatchesOf a ws m
    → (is_simple_and_free a ≡ true → fault_of a ws ≡ [])
    → asked_in (rows_of (found_of m)) (subcommand_rows_of m) ≡ wish ws
wish_at a ws m e h f =
    let both = subst (λ (b : App). HasMatchesOf b ws m) e h program_simple in
    ap₂ asked_in both.0 both.1 ∙ wish_found ws (no_fault_at a ws e f)

-- both of two values, where both are there
abbrev both : Option Text → Option (List Row) → Option (Text × List Row)
both name rows = option_and_then (λ x. option_map (λ y. (x, y)) rows) name

-- the command of a parse, by its name and its rows
pub command_is : (m : ArgMatches) (name : Text) (rows : List Row) → Some name ≡ subcommand_name_of m
    → Some rows ≡ option_map (λ p. p.1) (subcommand_rows_of m) → subcommand_rows_of m ≡ Some (name, rows)
command_is m name rows e f = go (out-ArgMatches m).subcommand e f
  where
    go : {Z : Type 0} (o : Option (Box SubCommand Z))
        → Some name ≡ option_map (λ b. (out-SubCommand (box_value b)).name.now) o
        → Some rows ≡ option_map (λ p. p.1) (subcommand_rows o) → subcommand_rows o ≡ Some (name, rows)
    go None d g = ap₂ both (sym d) (sym g)
    go (Some b) d g = ap₂ both (sym d) (sym g)

-- what a parse asks for, by its command
pub by_command_is : (m : ArgMatches) (name : Text) (rows : List Row) → Some name ≡ subcommand_name_of m
    → Some rows ≡ option_map (λ p. p.1) (subcommand_rows_of m)
    → by_command (subcommand_rows_of m) ≡ given (verb_of name) rows
by_command_is m name rows e f = ap by_command (command_is m name rows e f)
