use Rattle.std.proofs.Common.{ap, length, subst, sym}
use Rattle.wd_command.specs.Command.{wish}
use Rattle.wd_top.specs.declared.outcome.Outcome.{Outcome}
use Rattle.wd_top.specs.Calls.{AtPorts, ForNotice, IsShown, spoken, the_seat}
use Rattle.wd_top.specs.Ended.{IsCaused, IsEarly}
use Rattle.wd_top.proofs.EndSteps.{early_comes, listening_failed, no_item, no_notice, one_listening, session_comes}
use Rattle.wd_top.proofs.top.run.Goals as goal

pub returns-in-Err-clause-comes : goal.returns-in-Err-clause-comes
returns-in-Err-clause-comes g c =
    let same = sym c.early.ensures.outcome in
    early_comes _ _ _ _ _ _ _ _ _ _ _ _ (subst IsEarly same c.in-Err.ensures.early)
    (subst (IsCaused _) same c.in-Err.ensures.caused) c.early.ensures.journal (ap length c.requires)
    (λ world k d h. absurd (no_item c.args.ports.now.items k c.requires h))

pub returns-in-Ok-clause-comes : goal.returns-in-Ok-clause-comes
returns-in-Ok-clause-comes g c =
    let said = c.serve.ensures in
    let ports = c.serve.new.ports.items in
    let world = c.in-Ok.field-0.world in
    let o = c.serve.result.outcome in
    let entries = c.serve.result.journal.entries in
    session_comes the_seat _ world o c.serve.result.journal (length ports)
    (AtPorts the_seat g.M.Port.Files.told g.M.Port.Files.gone g.M.Port.Files.faults ports entries o)
    said.end c.in-Ok.ensures.asked said.failed
    (λ address is. listening_failed the_seat g.M.Port.Files.told g.M.Port.Files.gone g.M.Port.Files.faults ports
    entries world o address is (one_listening world o address (length ports) is said.ran.one) said.ran.at)
    said.ran

pub returns-in-Err-clause-words : goal.returns-in-Err-clause-words
returns-in-Err-clause-words g c = subst (λ (o : Outcome). ForNotice c.args.words.now (λ notice. IsShown notice o))
    (sym c.early.ensures.outcome) c.in-Err.ensures.words

pub returns-in-Ok-clause-words : goal.returns-in-Ok-clause-words
returns-in-Ok-clause-words g c = no_notice (wish (spoken c.args.words.now)) _ c.in-Ok.ensures.words
