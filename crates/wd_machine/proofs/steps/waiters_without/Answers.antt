use Rattle.std.proofs.Common.{rules, ◌∙◌, ap}
use Rattle.std.proofs.lemmas.Fn.{filter_same}
use Rattle.wd_machine.specs.Steps.{waiters_without}
use Rattle.wd_machine.proofs.steps.waiters_without.Goals as goal

pub returns : goal.returns
returns c = c.from_vec.ensures ∙ filter_same _ _ _ (λ x b f' k. search rules) _ _ c.retain.ensures.filtered ∙ ap (waiters_without c.args.req.0) c.into_vec-kept.ensures
