use Rattle.std.proofs.Common.{sym, ap, ◌∙◌, arith, flat_map, drop, ◌+◌, ◌++◌}
use Rattle.std.specs.List.{find}
use Rattle.std.proofs.lemmas.List.{at_drop_more}
use Rattle.wd_graph.specs.Links.{is_unknown, named_by}
use Rattle.wd_graph.proofs.FindLemmas.{find_append_none, find_append_some}
use Rattle.wd_graph.proofs.linking.unknown_to_workers.Goals as goal

pub returns-in-Some : goal.returns-in-Some
returns-in-Some c =
    let found = sym c.in_ok-fault.ensures ∙ c.in-Some.is in
    let left = at_drop_more (λ rest. find (is_unknown c.args.directory.now) (flat_map named_by rest)) c.as_slice-service-items.result.now c.loop-service.service-index c.service-item.result (omega (arith, c.loop-service-test.true)) in
    sym (sym c.loop-service.invariant ∙ left ∙ ap (λ s. find (is_unknown c.args.directory.now) (named_by s ++ flat_map named_by (drop (c.loop-service.service-index + 1) c.as_slice-service-items.result.now))) (sym c.service-item.is) ∙ find_append_some (is_unknown c.args.directory.now) (named_by c.service-item.result) (flat_map named_by (drop (c.loop-service.service-index + 1) c.as_slice-service-items.result.now)) _ found)

pub loop-service-preserved : goal.loop-service-preserved
loop-service-preserved c =
    let found = sym c.in_ok-fault.ensures ∙ c.in_default.is in
    let left = at_drop_more (λ rest. find (is_unknown c.args.directory.now) (flat_map named_by rest)) c.as_slice-service-items.result.now c.loop-service.service-index c.service-item.result (omega (arith, c.loop-service-test.true)) in
    sym (sym c.loop-service.invariant ∙ left ∙ ap (λ s. find (is_unknown c.args.directory.now) (named_by s ++ flat_map named_by (drop (c.loop-service.service-index + 1) c.as_slice-service-items.result.now))) (sym c.service-item.is) ∙ find_append_none (is_unknown c.args.directory.now) (named_by c.service-item.result) (flat_map named_by (drop (c.loop-service.service-index + 1) c.as_slice-service-items.result.now)) found)
