use Rattle.std.proofs.Common.{◌↔◌, IsTrue, sym, subst₂, ap, ◌∙◌}
use Rattle.wd_graph.specs.Links.{first_unknown}
use Rattle.wd_graph.specs.Names.{names_differ}
use Rattle.wd_graph.specs.Walk.{MarkReach, MarkedStand}
use Rattle.wd_graph.proofs.MarkLemmas.{marks_agree}
use Rattle.wd_graph.proofs.world.World.agree.Goals as goal

pub returns : goal.returns
returns c =
    let from = c.args.no.0 in
    let ms = c.as_slice-2.result.now in
    let mine = ap (λ w. w.services) c.self.view_is in
    let its = ap (λ w. w.services) c.other.view_is in
    let marks : MarkReach c.args.self.now.services from ms = subst₂ (λ ss ms. MarkReach ss from ms) mine (sym c.as_slice-2.ensures) c.in_ok-marks.ensures in
    let stand : IsTrue c.marked_stand.result ↔ MarkedStand c.args.self.now.services ms c.args.other.now.services =
    subst₂ (λ ss other. IsTrue c.marked_stand.result ↔ MarkedStand ss ms other) (c.as_slice.ensures ∙ c.services-services.ensures ∙ mine) its c.marked_stand.ensures in
    let known = ap first_unknown (sym c.self.view_is) ∙ c.self.invariant.2 in
    let differ = ap names_differ (sym mine) ∙ c.self.invariant.1 in
    let both = marks_agree c.args.self.now c.args.other.now.services from ms known c.requires differ marks in
    (λ e. both.0 (stand.0 e), λ e. stand.1 (both.1 e))
