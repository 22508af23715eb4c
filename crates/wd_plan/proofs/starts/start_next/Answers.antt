use Rattle.std.proofs.Common.{◌∙◌, ◌+◌, List, ap, subst, sym}
use Rattle.std.specs.Option.{option_copied}
use Rattle.wd_plan.specs.declared.constant.Constant.{Constant}
use Rattle.wd_plan.specs.Starts.{Starting}
use Rattle.wd_plan.proofs.StartSteps.{starting_more, starting_other}
use Rattle.wd_plan.proofs.starts.start_next.Goals as goal

pub returns-in_default : goal.returns-in_default
returns-in_default c = starting_other c.args.world.now.services c.args.isolates.now.items c.args.no.0
    c.service-service.result.now c.requires.starting c.service-service.ensures (sym c.worker_of.ensures
    ∙ ap option_copied c.in_default.is)

pub returns-in_ok-add-in-Answers : goal.returns-in_ok-add-in-Answers
returns-in_ok-add-in-Answers c =
    let services = c.args.world.now.services in
    let worker = sym c.worker_of.ensures ∙ ap option_copied c.in-Some.is in
    let more = starting_more services c.args.isolates.now.items c.args.no.0 c.service-service.result.now
    c.in-Some.worker.now c.in_ok-text.field-0 c.in-Answers.text c.in_ok-isolate-in-Answers.isolate
    c.requires.starting c.service-service.ensures worker c.in_ok-text.ensures c.in-Answers.is
    c.in_ok-isolate-in-Answers.ensures in
    subst (λ (l : List Constant). Starting services l (c.args.no.0 + 1)) (sym c.in_ok-add-in-Answers.ensures) more
