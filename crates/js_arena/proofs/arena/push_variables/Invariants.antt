use Rattle.std.proofs.Common.{◌≡◌, ◌++◌, replicate, None}
use Rattle.js_arena.specs.declared.value.Cell.TheVariants.{Variable}
use Rattle.js_arena.proofs.arena.push_variables.Given as goal

abbrev pub invariant-loop-at : goal.invariant-loop-at
invariant-loop-at l = l.cells.items ≡ l.initial.cells.items ++ replicate l.at (Variable None)
