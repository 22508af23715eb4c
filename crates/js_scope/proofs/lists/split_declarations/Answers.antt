use Rattle.std.proofs.Common.{◌-◌, drop, take, length}
use Rattle.js_scope.proofs.ListSplits.{cut, declarations_first}
use Rattle.js_scope.proofs.lists.split_declarations.Goals as goal

pub returns-in_ok-put-in-len1-up : goal.returns-in_ok-put-in-len1-up
returns-in_ok-put-in-len1-up c =
    let xs = c.args.declarations.now in
    let whole = cut xs c.first-item.result c.in-len1-up.len_at_least c.first-item.is in
    declarations_first c.put_declaration.result c.args.tasks.now c.put.new.tasks c.put_declaration.new.tasks xs c.first-item.result (take (length xs - 1) (drop 1 xs)) whole c.in_ok-put-in-len1-up.ensures c.put_declaration.ensures
