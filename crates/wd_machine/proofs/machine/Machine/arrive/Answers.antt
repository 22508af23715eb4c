use Rattle.std.proofs.Common.{ap, ◌∙◌, ◌∷◌, ◌++◌, []}
use Rattle.wd_machine.specs.declared.state.RequestState.{RequestState}
use Rattle.wd_machine.proofs.StepLemmas.{OnOk-map, arrived_at}
use Rattle.wd_machine.proofs.machine.Machine.arrive.Goals as goal

pub returns : goal.returns
returns g c =
    let pushed = c.in_ok-add_request.ensures ∙ ap (λ (r : RequestState). c.self.inside.requests.items ++ r ∷ []) c.new_request-row.ensures in
    OnOk-map c.add_waiter.result c.add_waiter.ensures
    (λ more. arrived_at _ c.args.self.now c.args.seat c.args.req c.args.service c.args.origin c.args.allow c.args.request c.in-Some.place c.index_mut.result.now c.add_waiter.new.worker _ c.self.view_is (c.requires ∙ c.in-Some.is) c.index_mut.ensures.value more pushed)
