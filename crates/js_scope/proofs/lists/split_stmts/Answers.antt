use Rattle.std.proofs.Common.{◌-◌, drop, take, length}
use Rattle.js_scope.proofs.ListSplits.{cut, stmts_first}
use Rattle.js_scope.proofs.lists.split_stmts.Goals as goal

pub returns-in_ok-put-in-len1-up : goal.returns-in_ok-put-in-len1-up
returns-in_ok-put-in-len1-up c =
    let xs = c.args.stmts.now in
    let whole = cut xs c.first-item.result c.in-len1-up.len_at_least c.first-item.is in
    stmts_first c.put-in-len1-up.result c.args.tasks.now c.put.new.tasks c.put-in-len1-up.new.tasks xs c.first-item.result (take (length xs - 1) (drop 1 xs)) whole c.in_ok-put-in-len1-up.ensures c.put-in-len1-up.ensures
