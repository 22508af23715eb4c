use Rattle.std.proofs.Common.{◌∙◌, map, string_bytes}
use Rattle.wd_command.proofs.WishLemmas.{wish_at}
use Rattle.wd_command.proofs.command.asks_of.Goals as goal

pub returns-in-Ok : goal.returns-in-Ok
returns-in-Ok c =
    c.asked_in.ensures ∙ wish_at _ (map string_bytes c.args.words.now) c.in-Ok.matches c.in_ok-program.ensures
    c.in-Ok.ensures.matches c.in-Ok.ensures.kinds
