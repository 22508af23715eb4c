use Rattle.std.proofs.Common.{◌≡◌, sym, subst, subst₂, ap}
use Rattle.std.proofs.lemmas.Result.{IfOk-weaker}
use Rattle.wd_graph.specs.Graph.{IsReach}
use Rattle.wd_graph.specs.Walk.{MarkReach, numbers_from}
use Rattle.wd_graph.proofs.MarkLemmas.{numbers_reach}
use Rattle.wd_graph.proofs.world.World.reach.Goals as goal

pub returns : goal.returns
returns c =
    let ss = c.args.self.now.services in
    let from = c.args.no.0 in
    let ms = c.as_slice.result.now in
    let marks : MarkReach ss from ms = subst₂ (λ ss ms. MarkReach ss from ms) (ap (λ w. w.services) c.self.view_is) (sym c.as_slice.ensures) c.in_ok-marks.ensures in
    IfOk-weaker c.numbers_of.result (λ numbers. numbers ≡ numbers_from 0 ms) (IsReach ss from) (λ numbers e. subst (IsReach ss from) (sym e) (numbers_reach ss from ms marks)) c.numbers_of.ensures
