use Rattle.std.proofs.Common.{◌≡◌, ◌-◌, ◌<◌, ◌+◌, ◌∷◌, ◌++◌, suc, map, length, drop, drop-cons, refl, sym, ap, ◌∙◌, subst, arith}
use Rattle.js_scope.specs.Early.{concat, of_item}
use Rattle.js_scope.specs.Verdict.{IsSplit}
use Rattle.js_tree.specs.Weight as weight
use Rattle.js_scope.proofs.SplitLaws.{split_as, split_then}
use Rattle.js_scope.proofs.walk.put_items.Goals as goal

pub loop-left-preserved : goal.loop-left-preserved
loop-left-preserved c =
    let xs = c.args.items.now in
    let left = c.loop-left.left - 1 in
    let x = c.index-items-left.result in
    let more : suc left ≡ c.loop-left.left = omega (arith, c.loop-left-test.true) in
    let marks = concat (map of_item (drop c.loop-left.left xs)) in
    let rest = weight.parts (map weight.of_item (drop c.loop-left.left xs)) in
    let inside : left < length xs = omega (arith, c.loop-left-test.true, c.loop-left.invariant.within) in
    let cut : drop left xs ≡ x ∷ drop c.loop-left.left xs = drop-cons xs left x inside ∙ ap (λ y. y ∷ drop (suc left) xs) (sym c.index-items-left.is) ∙ ap (λ n. x ∷ drop n xs) more in
    record {
      within = omega (arith, inside);
      split = subst (λ ys. IsSplit c.args.tasks.now (concat (map of_item ys)) (weight.parts (map weight.of_item ys)) c.put_item.new.tasks) (sym cut)
          (split_as c.args.tasks.now c.put_item.new.tasks (of_item x ++ marks) (of_item x ++ marks) (1 + weight.of_item x + rest) (weight.part (weight.of_item x) + weight.part rest) refl (omega arith)
          (split_then c.args.tasks.now c.loop-left.tasks c.put_item.new.tasks marks (of_item x) rest (1 + weight.of_item x) c.loop-left.invariant.split c.in_ok-put_item.ensures));
    }
