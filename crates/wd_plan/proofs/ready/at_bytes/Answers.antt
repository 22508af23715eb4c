use Rattle.std.proofs.Common.{subst, sym, Err, IfSome, List, ℕ, Ok, Some, option_map}
use Rattle.wd_base.specs.declared.config.Config.{Config}
use Rattle.wd_command.specs.Command.{asked_of}
use Rattle.wd_config.specs.Answer.{Answers, Answered}
use Rattle.wd_config.specs.Reading.{Read, Tells}
use Rattle.wd_plan.specs.declared.ready.PlanEnd.{PlanEnd}
use Rattle.wd_plan.specs.Plan.{AtFile, EmbedsPath}
use Rattle.wd_plan.specs.Prepare.{IsLateEnd, OnEndFault, plan_of_end}
use Rattle.wd_ports.specs.Faults.{ReadFile, RoseIn}
use Rattle.wd_plan.proofs.PlanLaws.{at_end, at_found, end_late, end_path, end_rose}
use Rattle.wd_plan.proofs.ready.at_bytes.Goals as goal

pub returns-in-Ok-clause-plan : goal.returns-in-Ok-clause-plan
returns-in-Ok-clause-plan g c =
    let files = (g.F.Files.told c.args.files.now).files in
    let reads = subst (λ (p : List ℕ). (r : Read Config)
    × Answers c.args.bytes.now (asked_of c.args.asked).constant p files r × Tells r (Ok c.in-Ok.config))
    c.folder_of.ensures c.in-Ok.ensures.reads in
    at_found files (asked_of c.args.asked) c.args.bytes.now c.in-Ok.config _ reads c.at_config.ensures.plan

pub returns-in-Err-clause-plan : goal.returns-in-Err-clause-plan
returns-in-Err-clause-plan g c =
    let files = (g.F.Files.told c.args.files.now).files in
    let reads = subst (λ (p : List ℕ). Answered c.args.bytes.now (asked_of c.args.asked).constant p files
    (Err c.in-Err.end)) c.folder_of.ensures c.in-Err.ensures.reads in
    subst (λ (e : PlanEnd). IfSome (plan_of_end e) (AtFile files (asked_of c.args.asked) (Some c.args.bytes.now)))
    (sym c.at_end.ensures) (at_end files (asked_of c.args.asked) c.args.bytes.now c.in-Err.end reads)

pub returns-in-Err-clause-path : goal.returns-in-Err-clause-path
returns-in-Err-clause-path g c =
    let files = (g.F.Files.told c.args.files.now).files in
    let reads = subst (λ (p : List ℕ). Answered c.args.bytes.now (asked_of c.args.asked).constant p files
    (Err c.in-Err.end)) c.folder_of.ensures c.in-Err.ensures.reads in
    subst (λ (e : PlanEnd). OnEndFault e (EmbedsPath files (asked_of c.args.asked) c.args.bytes.now))
    (sym c.at_end.ensures) (end_path files (asked_of c.args.asked) c.args.bytes.now c.in-Err.end reads)

pub returns-in-Err-clause-fault : goal.returns-in-Err-clause-fault
returns-in-Err-clause-fault g c =
    let rose : Type 0 = RoseIn ReadFile (g.F.Files.faults c.args.files.now) (g.F.Files.faults c.read.new.files) in
    subst (λ (e : PlanEnd). OnEndFault e (λ path. rose)) (sym c.at_end.ensures)
    (end_rose c.in-Err.end rose c.in-Err.ensures.fault)

pub returns-in-Err-clause-late : goal.returns-in-Err-clause-late
returns-in-Err-clause-late g c = subst IsLateEnd (sym c.at_end.ensures) (end_late c.in-Err.end)
