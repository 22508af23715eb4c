use Rattle.std.proofs.Common.{◌∙◌, ap}
use Rattle.wd_graph.specs.Names.{number_of}
use Rattle.wd_plan.proofs.StartSteps.{at_worker, within}
use Rattle.wd_plan.proofs.starts.is_at_worker.Goals as goal

pub service-requires : goal.service-requires
service-requires c = within c.args.world.now.services c.as_slice.result.now c.number.result c.in-Some.no
    c.number.ensures c.in-Some.is

pub returns-in-Some : goal.returns-in-Some
returns-in-Some c = c.is_worker.ensures
    ∙ at_worker c.args.world.now.services c.args.socket.now c.number.result c.in-Some.no c.service.result.now
    (c.number.ensures ∙ ap (λ name. number_of name c.args.world.now.services) c.as_slice.ensures) c.in-Some.is
    c.service.ensures
