use Rattle.std.proofs.Common.{◌≡◌, ◌+◌, ◌-◌, ◌<◌, length, drop, sym, ap, ◌∙◌, subst, rules, arith}
use Rattle.std.specs.BTreeMap.{insert_entry}
use Rattle.wd_graph.specs.Index.{IsIndexFrom}
use Rattle.wd_graph.proofs.IndexLemmas.{index_before, by_text}
use Rattle.wd_graph.proofs.directory.index_of.Goals as goal

pub loop-left-preserved : goal.loop-left-preserved
loop-left-preserved c =
    let ss = c.args.services.now in
    let left = c.loop-left.left - 1 in
    let more : left + 1 ≡ c.loop-left.left = omega (arith, c.loop-left-test.true) in
    let inside : left < length ss = omega (arith, c.loop-left-test.true, c.loop-left.invariant.within) in
    let key : c.in_ok-name.name.items ≡ c.index-services-left.result.name = c.in_ok-name.ensures.items ∙ c.as_slice.ensures ∙ ap (λ s. s.name) (sym c.index-services-left.is) in
    let entries : c.insert.new.self.entries ≡ insert_entry by_text c.loop-left.index.entries c.in_ok-name.name left = search rules in
    let index : IsIndexFrom (left + 1) (drop (left + 1) ss) c.loop-left.index.entries = subst (λ n. IsIndexFrom n (drop n ss) c.loop-left.index.entries) (sym more) c.loop-left.invariant.index in
    record {
      within = omega (arith, inside);
      index = subst (IsIndexFrom left (drop left ss)) (sym entries) (index_before ss left c.index-services-left.result c.loop-left.index.entries c.in_ok-name.name inside c.index-services-left.is key index);
    }
