use Rattle.js_scope.proofs.StmtSplits.{on_for}
use Rattle.js_scope.proofs.stmts.put_for.Goals as goal

pub returns : goal.returns
returns c = on_for c.push-2.result c.args.tasks.now c.push.new.self c.put_body.new.tasks c.put_optional.new.tasks c.put_optional-2.new.tasks c.put_begin.new.tasks c.push-2.new.self
    c.args.begin.now c.args.test.now c.args.update.now c.args.body.now
    c.in_ok-push.ensures c.in_ok-put_body.ensures c.in_ok-put_optional.ensures c.in_ok-put_optional-2.ensures c.in_ok-put_begin.ensures c.push-2.ensures
