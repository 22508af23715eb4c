use Rattle.js_scope.proofs.Splits.{on_arrow}
use Rattle.js_scope.proofs.split.put_arrow.Goals as goal

pub returns : goal.returns
returns c = on_arrow c.push-2.result c.args.tasks.now c.push.new.self c.put_arrow_body.new.tasks c.put.new.tasks c.push-2.new.self c.args.is_async c.args.parameters.now c.args.body.now
    c.in_ok-push.ensures c.in_ok-put_arrow_body.ensures c.in_ok-put.ensures c.push-2.ensures
