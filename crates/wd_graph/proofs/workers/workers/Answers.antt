use Rattle.std.proofs.Common.{◌≡◌, ◌∷◌, ◌++◌, [], false, length, replicate, drop, flat_map, drop_of_length-le, sym, ap, ap₂, ◌∙◌, rules, arith}
use Rattle.wd_graph.specs.Names.{targets, designated}
use Rattle.wd_graph.specs.Workers.{found_names}
use Rattle.wd_graph.proofs.WorkerLemmas.{all_found}
use Rattle.wd_graph.proofs.workers.workers.Goals as goal

pub returns : goal.returns
returns c =
    let none : c.from_vec.result ≡ replicate (length c.args.directory.now) false = search rules in
    let nobody : c.new.result ≡ [] = c.new.ensures in
    let done : drop c.loop-binding.binding-index c.as_slice-binding-items.result.now ≡ [] = drop_of_length-le c.as_slice-binding-items.result.now {i = c.loop-binding.binding-index} (omega (arith, c.loop-binding-test.false)) in
    let last : c.add-2.new.found ≡ found_names c.args.directory.now (record { marks = c.from_vec.result; names = c.new.result }) (targets c.args.worker.now) =
    c.in_ok-add-2.ensures
    ∙ ap (λ bs. found_names c.args.directory.now c.loop-binding.found (flat_map (λ b. designated b.value) bs ++ c.args.worker.now.outbound ∷ [])) (sym done)
    ∙ c.loop-binding.invariant in
    ap (λ f. f.names) last
    ∙ ap₂ (λ ms ns. (found_names c.args.directory.now (record { marks = ms; names = ns }) (targets c.args.worker.now)).names) none nobody
    ∙ all_found c.args.directory.now c.args.worker.now
