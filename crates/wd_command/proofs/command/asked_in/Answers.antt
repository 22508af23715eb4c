use Rattle.std.proofs.Common.{◌∙◌, ap, sym}
use Rattle.clap.specs.Words.{found_of, rows_of}
use Rattle.wd_command.proofs.WishLemmas.{by_command_is}
use Rattle.wd_command.specs.Command.{given}
use Rattle.wd_command.proofs.command.asked_in.Goals as goal

pub returns-in-Some : goal.returns-in-Some
returns-in-Some c =
    rw (← c.is_on.ensures, ← c.is_on-else-is_on.ensures, c.if-is_on.false, c.if-is_on-2.false)
    (c.given.ensures ∙ ap (λ v. given v (rows_of (found_of c.in-Some.command.now))) c.verb_of.ensures
    ∙ sym (by_command_is c.args.matches.now _ _ c.in-Some.ensures.name c.in-Some.ensures.rows))
