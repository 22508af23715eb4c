use Rattle.std.proofs.Common.{◌≡◌, ◌-◌, ◌<◌, ◌+◌, ◌∷◌, suc, length, drop, drop-cons, sym, ap, ◌∙◌, subst, arith, map}
use Rattle.js_grammar.specs.Grammar.{of_tree}
use Rattle.js_print.specs.Walk.{IsSplit}
use Rattle.js_tree.specs.Weight as weight
use Rattle.js_print.proofs.WalkLaws.{item_before}
use Rattle.js_print.proofs.walk.put_items.Goals as goal

pub loop-left-preserved : goal.loop-left-preserved
loop-left-preserved c =
    let xs = c.args.items.now in
    let left = c.loop-left.left - 1 in
    let x = c.index-items-left.result in
    let more : suc left ≡ c.loop-left.left = omega (arith, c.loop-left-test.true) in
    let inside : left < length xs = omega (arith, c.loop-left-test.true, c.loop-left.invariant.within) in
    let cut : drop left xs ≡ x ∷ drop c.loop-left.left xs = drop-cons xs left x inside ∙ ap (λ y. y ∷ drop (suc left) xs) (sym c.index-items-left.is) ∙ ap (λ n. x ∷ drop n xs) more in
    record {
      within = omega (arith, inside);
      split = subst (λ ys. IsSplit c.args.tasks.now (of_tree ys) (weight.parts (map weight.of_item ys)) c.put_item.new.tasks) (sym cut)
          (item_before c.args.tasks.now c.loop-left.tasks c.put_item.new.tasks x (drop c.loop-left.left xs) c.loop-left.invariant.split c.in_ok-put_item.ensures);
    }
