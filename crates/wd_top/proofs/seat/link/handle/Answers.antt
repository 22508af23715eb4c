use Rattle.std.proofs.Common.{◌∙◌, ap, subst, Some}
use Rattle.wd_ports.specs.Send.{Sends}
use Rattle.wd_top.specs.Session.{tail_text}
use Rattle.wd_top.specs.declared.seat.link.Heard.TheVariants as heard
use Rattle.wd_top.proofs.HandleSteps.{handles_later, handles_nothing, handles_end, handles_lost, handles_full}
use Rattle.wd_top.proofs.HandleSteps.{handles_request, handles_bad}
use Rattle.wd_top.proofs.seat.link.handle.Goals as goal

pub returns-in-Fed-Later-clause-handles : goal.returns-in-Fed-Later-clause-handles
returns-in-Fed-Later-clause-handles g c = handles_later _ _ _ c.args.run.now _ _ _ _ (c.in-Fed-Later.is
    ∙ ap heard.Fed c.in-Fed-Later.field-0-is)

pub returns-in-Fed-Request-clause-handles : goal.returns-in-Fed-Request-clause-handles
returns-in-Fed-Request-clause-handles g c =
    handles_request _ _ _ c.args.run.now _ c.in-Fed-Request.request c.in-Fed-Request.close _ _ _ _ _ _
    (c.in-Fed-Request.is ∙ ap heard.Fed c.in-Fed-Request.field-0-is) c.reply_to.ensures.replies

pub returns-in-Fed-Bad-clause-handles : goal.returns-in-Fed-Bad-clause-handles
returns-in-Fed-Bad-clause-handles g c =
    rw c.end_of.ensures (handles_bad _ _ _ c.args.run.now _ c.in-Fed-Bad.code c.refuse-refused.result _ _ _ _
    (c.in-Fed-Bad.is ∙ ap heard.Fed c.in-Fed-Bad.field-0-is) c.refuse-refused.ensures.lost
    (subst (λ rest. Sends c.args.link (tail_text rest (Some c.in-Fed-Bad.code)) c.refuse-refused.result
    (g.P.Files.told c.args.port.now) (g.P.Files.told c.refuse-refused.new.port)) c.unread.ensures
    c.refuse-refused.ensures.sends))

pub returns-in-Nothing-clause-handles : goal.returns-in-Nothing-clause-handles
returns-in-Nothing-clause-handles g c = handles_nothing _ _ _ c.args.run.now _ _ _ _ c.in-Nothing.is

pub returns-in-End-clause-handles : goal.returns-in-End-clause-handles
returns-in-End-clause-handles g c = handles_end _ _ _ c.args.run.now _ _ _ _ c.in-End.is

pub returns-in-Lost-clause-handles : goal.returns-in-Lost-clause-handles
returns-in-Lost-clause-handles g c = handles_lost _ _ _ c.args.run.now _ _ _ _ c.in-Lost.is c.requires.lost

pub returns-in-Full-clause-handles : goal.returns-in-Full-clause-handles
returns-in-Full-clause-handles g c = handles_full _ _ _ c.args.run.now _ _ _ _ c.in-Full.is
