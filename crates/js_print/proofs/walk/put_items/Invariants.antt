use Rattle.std.proofs.Common.{map, ◌≤◌, length, drop}
use Rattle.js_grammar.specs.Grammar.{of_tree}
use Rattle.js_print.specs.Walk.{IsSplit}
use Rattle.js_tree.specs.Weight as weight
use Rattle.js_print.proofs.walk.put_items.Given as goal

-- the items from `left` on stand on the tasks
abbrev pub invariant-loop-left : goal.invariant-loop-left
invariant-loop-left l = record { within : l.left ≤ length l.items; split : IsSplit l.fn.tasks (of_tree (drop l.left l.items)) (weight.parts (map weight.of_item (drop l.left l.items))) l.tasks }

abbrev pub decreases-loop-left : goal.decreases-loop-left
decreases-loop-left l = l.left
