use Rattle.std.proofs.Common.{◌≡◌, map}
use Rattle.js_tree.specs.declared.tree.Expr.TheVariants as expr
use Rattle.js_parse_expressions.proofs.expressions.as_values.Given as goal

abbrev pub invariant-loop-name : goal.invariant-loop-name
invariant-loop-name l = l.values ≡ map expr.Name l.yielded
