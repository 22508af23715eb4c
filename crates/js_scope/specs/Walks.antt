-- What a walk through a script still comes to.
use Rattle.std.specs.Prelude.{◌∷◌, Option, Result}
use Rattle.js_scope.specs.declared.fault.EarlyEnd.{EarlyEnd}
use Rattle.js_scope.specs.declared.fault.EarlyFault.{EarlyFault}
use Rattle.js_scope.specs.declared.task.Piece.{Piece}
use Rattle.js_scope.specs.declared.task.ScopeKind.{ScopeKind}
use Rattle.js_scope.specs.declared.task.Task.{Task}
use Rattle.js_scope.specs.declared.walk.Walk.{Walk}
use Rattle.js_scope.specs.Verdict.{entered, judge, leave, piece_marks, settle, verdict}

-- the fault that the rest of the walk comes to
abbrev pub verdict_of : Walk → Option EarlyFault
verdict_of walk = verdict walk.tasks walk.scope walk.outer

-- .. once it has entered a scope of this kind
abbrev pub verdict_within : ScopeKind → Walk → Option EarlyFault
verdict_within how walk = verdict walk.tasks (entered how walk.scope) (walk.scope ∷ walk.outer)

-- .. once it has left its scope
abbrev pub verdict_outside : Walk → Option EarlyFault
verdict_outside walk = leave walk.scope walk.outer (λ s o. verdict walk.tasks s o)

-- .. once it has gone through this piece
abbrev pub verdict_behind : Piece → Walk → Option EarlyFault
verdict_behind piece walk = settle (judge walk.scope (piece_marks piece)) (λ t. verdict walk.tasks t walk.outer)

-- .. where this task comes first
abbrev pub verdict_from : Task → Walk → Option EarlyFault
verdict_from task walk = verdict (task ∷ walk.tasks) walk.scope walk.outer
