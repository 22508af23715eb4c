use Rattle.std.proofs.Common.{refl}
use Rattle.js_scope.proofs.Splits.{split_assign, split_conditional}
use Rattle.js_scope.proofs.split.split_expr.Goals as goal

pub returns-in_ok-put-in-Assign : goal.returns-in_ok-put-in-Assign
returns-in_ok-put-in-Assign c = split_assign c.put_target-in-Assign.result c.args.tasks.now c.put-in-Assign.new.tasks c.put_target-in-Assign.new.tasks c.args.expr.now
    c.in-Assign.field-0 c.in-Assign.target c.in-Assign.value c.in-Assign.target c.get-in-Assign.result.now
    c.in-Assign.is refl c.get-in-Assign.ensures
    c.in_ok-put-in-Assign.ensures c.put_target-in-Assign.ensures

pub returns-in_ok-put-in-Conditional : goal.returns-in_ok-put-in-Conditional
returns-in_ok-put-in-Conditional c = split_conditional c.put_two-in-Conditional.result c.args.tasks.now c.put-in-Conditional.new.tasks c.put_two-in-Conditional.new.tasks c.args.expr.now
    c.in-Conditional.test c.in-Conditional.yes c.in-Conditional.no c.get-in-Conditional-2.result.now c.get-in-Conditional-3.result.now c.get-in-Conditional.result.now
    c.in-Conditional.is c.get-in-Conditional-2.ensures c.get-in-Conditional-3.ensures c.get-in-Conditional.ensures
    c.in_ok-put-in-Conditional.ensures c.put_two-in-Conditional.ensures
