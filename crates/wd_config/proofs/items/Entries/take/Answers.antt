use Rattle.std.proofs.Common.{◌∙◌, sym, ap, Some}
use Rattle.std.specs.List.{remove}
use Rattle.std.specs.Prelude.{slice_index_or}
use Rattle.wd_config.specs.declared.items.Entry.{Entry}
use Rattle.wd_config.proofs.ItemLemmas.{taken_at, not_taken}
use Rattle.wd_config.proofs.items.Entries.take.Goals as goal

pub returns-in_err-at-clause-found : goal.returns-in_err-at-clause-found
returns-in_err-at-clause-found c = rw c.from_residual.ensures (sym (not_taken c.args.self.now c.args.slot 0 (sym c.place_of.ensures.first ∙ c.in_err-at.was)).item)

pub returns-in_err-at-clause-rest : goal.returns-in_err-at-clause-rest
returns-in_err-at-clause-rest c = sym (not_taken c.args.self.now c.args.slot 0 (sym c.place_of.ensures.first ∙ c.in_err-at.was)).rest

pub returns-clause-found : goal.returns-clause-found
returns-clause-found c =
    let p = taken_at c.args.self.now c.args.slot c.in_ok-at.at (sym c.place_of.ensures.first ∙ c.in_ok-at.was) in
    sym (p.item c.remove.result ∙ ap (λ (e : Entry). Some e.item) (ap (λ xs. slice_index_or xs c.in_ok-at.at c.remove.result) (sym c.self.view_is) ∙ sym c.remove.ensures.value))

pub returns-clause-rest : goal.returns-clause-rest
returns-clause-rest c =
    let p = taken_at c.args.self.now c.args.slot c.in_ok-at.at (sym c.place_of.ensures.first ∙ c.in_ok-at.was) in
    c.remove.ensures.items ∙ ap (λ xs. remove xs c.in_ok-at.at) c.self.view_is ∙ sym p.rest
