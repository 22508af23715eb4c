use Rattle.wd_command.specs.Command.{wish}
use Rattle.wd_plan.proofs.PlanLaws.{notice_asked}
use Rattle.wd_ports.specs.Faults.{ReadFile, RoseIn}
use Rattle.wd_top.specs.Calls.{spoken}
use Rattle.wd_top.proofs.EndSteps.{checked_caused, end_caused, no_world, shown_none, shown_ready, shown_refused}
use Rattle.wd_top.proofs.top.begin.Goals as goal

pub returns-in-Err-NoMemory-clause-caused : goal.returns-in-Err-NoMemory-clause-caused
returns-in-Err-NoMemory-clause-caused g c = (no_world, tt)

pub returns-in-Err-Refused-clause-caused : goal.returns-in-Err-Refused-clause-caused
returns-in-Err-Refused-clause-caused g c =
    let said = c.in-Err-Refused.ensures in
    end_caused _ _ (RoseIn ReadFile (g.F.Files.faults c.args.files.now) (g.F.Files.faults c.prepare.new.files)) ⊥ ⊥
    c.in-Err-Refused.field-0 c.in-Err-Refused.why c.in-Err-Refused.field-0-is said.plan said.fault said.path
    (λ notice e. notice_asked (wish (spoken c.args.words.now)) c.in-Err-Refused.field-0 notice said.words e)

pub returns-in-Check-clause-caused : goal.returns-in-Check-clause-caused
returns-in-Check-clause-caused g c =
    checked_caused _ _ (RoseIn ReadFile (g.F.Files.faults c.args.files.now) (g.F.Files.faults c.prepare.new.files)) ⊥ ⊥
    c.in-Ok.ready.verb c.in-Ok.ready.world c.checked.result c.in-Ok.ensures.plan c.in-Check.is c.checked.ensures

pub returns-in-Err-NoMemory-clause-words : goal.returns-in-Err-NoMemory-clause-words
returns-in-Err-NoMemory-clause-words g c = shown_none (wish (spoken c.args.words.now))

pub returns-in-Err-Refused-clause-words : goal.returns-in-Err-Refused-clause-words
returns-in-Err-Refused-clause-words g c = shown_refused (wish (spoken c.args.words.now)) c.in-Err-Refused.field-0
    c.in-Err-Refused.why c.in-Err-Refused.field-0-is c.in-Err-Refused.ensures.words

pub returns-in-Serve-clause-words : goal.returns-in-Serve-clause-words
returns-in-Serve-clause-words g c = shown_ready (wish (spoken c.args.words.now)) c.in-Ok.ready _ c.in-Ok.ensures.words

pub returns-in-Check-clause-words : goal.returns-in-Check-clause-words
returns-in-Check-clause-words g c = shown_ready (wish (spoken c.args.words.now)) c.in-Ok.ready _ c.in-Ok.ensures.words
