use Rattle.std.proofs.Common.{map}
use Rattle.js_scope.specs.Early.{concat, of_item}
use Rattle.js_tree.specs.Weight as weight
use Rattle.js_scope.proofs.WalkLaws.{first_of_walk}
use Rattle.js_scope.proofs.walk.first_fault.Goals as goal

pub returns-in-Ok : goal.returns-in-Ok
returns-in-Ok c =
    let items = c.args.items.now in
    first_of_walk c.run_from_top.result c.new-tasks.result c.put_items.new.tasks (concat (map of_item items)) (weight.parts (map weight.of_item items)) c.new-tasks.ensures c.in-Ok.ensures c.run_from_top.ensures
