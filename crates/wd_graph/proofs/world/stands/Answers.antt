use Rattle.std.proofs.Common.{◌≡◌, Some, None, slice_get, sym, ap, ◌∙◌}
use Rattle.std.proofs.lemmas.Bool.{false≢true}
use Rattle.wd_graph.specs.Names.{number_of}
use Rattle.wd_graph.proofs.Numbers.{found_is, nowhere, no_service}
use Rattle.wd_graph.proofs.world.stands.Goals as goal

pub returns-in-Some-get : goal.returns-in-Some-get
returns-in-Some-get c =
    let number : number_of c.args.service.now.name c.args.other.now ≡ Some c.in-Some.number = ap (λ name. number_of name c.args.other.now) (sym c.as_slice.ensures) ∙ sym c.in-Some.ensures in
    let place : slice_get c.args.other.now c.in-Some.number ≡ Some c.in-Some-get.found.now = ap (λ ss. slice_get ss c.in-Some.number) (sym c.services.ensures) ∙ sym c.in-Some-get.ensures.value in
    let is = found_is c.args.other.now c.args.service.now.name c.in-Some.number c.in-Some-get.found.now c.args.service.now number place in
    (λ e. is.0 (c.same.ensures.0 e), λ e. c.same.ensures.1 (is.1 e))

pub returns-in-None-get : goal.returns-in-None-get
returns-in-None-get c =
    let number : number_of c.args.service.now.name c.args.other.now ≡ Some c.in-Some.number = ap (λ name. number_of name c.args.other.now) (sym c.as_slice.ensures) ∙ sym c.in-Some.ensures in
    let place : slice_get c.args.other.now c.in-Some.number ≡ None = ap (λ ss. slice_get ss c.in-Some.number) (sym c.services.ensures) ∙ sym c.in-None-get.ensures.value in
    (λ e. absurd (false≢true e), λ e. absurd (nowhere c.args.other.now c.args.service.now.name c.in-Some.number number place))

pub returns-in-None : goal.returns-in-None
returns-in-None c =
    let number : number_of c.args.service.now.name c.args.other.now ≡ None = ap (λ name. number_of name c.args.other.now) (sym c.as_slice.ensures) ∙ sym c.in-None.ensures in
    (λ e. absurd (false≢true e), λ e. absurd (no_service c.args.other.now c.args.service.now.name c.args.service.now number e))
