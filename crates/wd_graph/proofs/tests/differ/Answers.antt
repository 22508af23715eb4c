use Rattle.std.proofs.Common.{◌≡◌, ◌<◌, ℕ, Some, slice_get, length, inl, inr, refl, sym, ap, ap₂, ◌∙◌, arith}
use Rattle.std.proofs.lemmas.Bool.Decides.{eqb_tells}
use Rattle.std.proofs.lemmas.Option.{slice_get_read, slice_get_within}
use Rattle.wd_base.specs.declared.config.Service.{Service}
use Rattle.wd_graph.specs.Names.{number_of}
use Rattle.wd_graph.proofs.Numbers.{numbers_differ, some_same}
use Rattle.wd_graph.proofs.tests.differ.Goals as goal

pub loop-number-preserved : goal.loop-number-preserved
loop-number-preserved c = λ k s below e.
    elim (eqb_tells k c.loop-number.number) [
      | inl h ↦
          let place : slice_get c.as_slice-service-items.result.now c.loop-number.number ≡ Some c.service-item.result = slice_get_read c.as_slice-service-items.result.now (length c.as_slice-service-items.result.now) c.loop-number.number c.service-item.result refl (omega (arith, c.loop-number-test.true)) c.service-item.is in
          let one : s ≡ c.service-item.result = some_same s c.service-item.result (sym e ∙ ap (slice_get c.args.services.now) h.1 ∙ ap (λ ss. slice_get ss c.loop-number.number) (sym c.as_slice-service-items.ensures) ∙ place) in
          let listed = c.in_ok-directory.ensures ∙ c.in_ok-try_clone.ensures in
          ap₂ (λ (x : Service) ss. number_of x.name ss) one (sym listed) ∙ c.has_number.ensures.0 c.if-not-has_number.false ∙ ap Some (sym h.1)
      | inr h ↦ c.loop-number.invariant k s (omega (arith, below, h.1)) e
    ]

pub returns : goal.returns
returns c = λ _. numbers_differ c.args.services.now (λ k s e.
    let within = slice_get_within c.args.services.now k s e in
    let items = ap length c.as_slice-service-items.ensures in
    c.loop-number.invariant k s (omega (arith, within, items, c.loop-number-test.false)) e)
