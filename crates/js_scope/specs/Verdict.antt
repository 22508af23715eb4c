-- The fault that a walk of a script comes to.
use Rattle.std.specs.Prelude.{ℕ, ◌≡◌, ◌≤◌, ◌+◌, Bool, true, false, List, [], ◌∷◌, map, Option, Some, None, Result, Ok, Err, if◌then◌else◌}
use Rattle.js_tree.specs.declared.tree.Name.{Name}
use Rattle.js_scope.specs.declared.fault.EarlyEnd.{EarlyEnd}
use Rattle.js_scope.specs.declared.fault.EarlyEnd.TheVariants.{Fault, NoMemory}
use Rattle.js_scope.specs.declared.fault.EarlyFault.{EarlyFault}
use Rattle.js_scope.specs.declared.fault.EarlyKind.{EarlyKind}
use Rattle.js_scope.specs.declared.fault.EarlyKind.TheVariants.{DoubleName, ReturnOutside, AwaitOutside, BreakOutside}
use Rattle.js_scope.specs.declared.scope.Around.{Around}
use Rattle.js_scope.specs.declared.scope.Scope.{Scope}
use Rattle.js_scope.specs.declared.task.ScopeKind.{ScopeKind}
use Rattle.js_scope.specs.declared.task.ScopeKind.TheVariants as how
use Rattle.js_scope.specs.declared.task.Piece.{Piece}
use Rattle.js_scope.specs.declared.task.Piece.TheVariants as piece
use Rattle.js_scope.specs.declared.task.Task.{Task}
use Rattle.js_scope.specs.declared.task.Task.TheVariants as task
use Rattle.js_scope.specs.Early.{Mark, Marks, Declares, Unless, Faulty, fault, concat, declares, scope, loop_body, function, of_expr, of_property, of_stmt, of_declaration, of_template}
use Rattle.js_scope.specs.Names.{has, with_name}
use Rattle.js_tree.specs.Weight as weight

-- ---- a scope as it stands

-- what stands around a place allows what would be this fault
abbrev pub allows : Around → EarlyKind → Bool
allows a DoubleName = false
allows a ReturnOutside = a.in_function
allows a AwaitOutside = a.is_async
allows a BreakOutside = a.in_loop

-- what stands around a place within one more block, loop or function
abbrev pub around_in : ScopeKind → Around → Around
around_in how.Block a = a
around_in how.Loop a = record { in_function = a.in_function; is_async = a.is_async; in_loop = true }
around_in (how.Function is_async) a = record { in_function = true; is_async = is_async; in_loop = false }

-- the scope of a block, loop or function at its begin: no names yet
abbrev pub entered : ScopeKind → Scope → Scope
entered h s = record { names = []; around = around_in h s.around }

-- no function and no loop stands around
abbrev pub nothing_around : Around
nothing_around = record { in_function = false; is_async = false; in_loop = false }

-- the scope of the script at its begin
abbrev pub top_scope : Scope
top_scope = record { names = []; around = nothing_around }

-- the scope with one more name, or the fault that the name stood before
abbrev pub judge_name : Scope → Name → Result Scope EarlyFault
judge_name s n = if has n.units s.names then Err (fault DoubleName n.place) else Ok (record { names = with_name s.names n.units; around = s.around })

-- the scope as it was where it allows the word, or the word's fault
abbrev pub judge_word : Scope → EarlyFault → Result Scope EarlyFault
judge_word s f = if allows s.around f.kind then Ok s else Err f

-- this answer is the one that was judged, and leaves this scope
abbrev pub Judges : Result Scope EarlyFault → Scope → Result Unit EarlyEnd → Type 0
Judges judged new (Ok done) = judged ≡ Ok new
Judges judged new (Err (Fault f)) = judged ≡ Err f
Judges judged new (Err NoMemory) = Unit {0}

-- the scope behind this mark, or the mark's fault
abbrev pub judge_mark : Scope → Mark → Result Scope EarlyFault
judge_mark s (Declares n) = judge_name s n
judge_mark s (Unless f) = judge_word s f
judge_mark s (Faulty f) = Err f

-- what is judged next in the scope, or the fault that came before
abbrev pub and_then : Result Scope EarlyFault → (Scope → Result Scope EarlyFault) → Result Scope EarlyFault
and_then (Ok s) next = next s
and_then (Err f) next = Err f

-- a scope behind these marks, or the first fault
abbrev pub judge : Scope → Marks → Result Scope EarlyFault
judge s [] = Ok s
judge s (m ∷ ms) = and_then (judge_mark s m) (λ t. judge t ms)

-- ---- what is still to do

-- what is seen of these marks from outside of the scope that they stand in
abbrev pub inside : ScopeKind → Marks → Marks
inside how.Block ms = scope ms
inside how.Loop ms = loop_body ms
inside (how.Function is_async) ms = function is_async (scope ms)

-- the marks of a piece that is still to do
abbrev pub piece_marks : Piece → Marks
piece_marks (piece.Declares n) = Declares n.now ∷ []
piece_marks (piece.Names ns) = declares ns.now
piece_marks (piece.Word f) = Unless f ∷ []
piece_marks (piece.Expr e) = of_expr e.now
piece_marks (piece.Exprs es) = concat (map of_expr es.now)
piece_marks (piece.TemplateItems is) = concat (map of_template is.now)
piece_marks (piece.Properties ps) = concat (map of_property ps.now)
piece_marks (piece.Declarations ds) = concat (map of_declaration ds.now)
piece_marks (piece.Stmt s) = of_stmt s.now
piece_marks (piece.Stmts ss) = concat (map of_stmt ss.now)

-- what comes next in the scope, or the fault that came before
abbrev pub settle : Result Scope EarlyFault → (Scope → Option EarlyFault) → Option EarlyFault
settle (Ok s) next = next s
settle (Err f) next = Some f

-- a scope ends, and the one around it goes on
abbrev pub leave : Scope → List Scope → (Scope → List Scope → Option EarlyFault) → Option EarlyFault
leave s [] next = next s []
leave s (o ∷ outer) next = next o outer

-- what a task does to the scope and those around it, before the next one
abbrev pub perform : Task → Scope → List Scope → (Scope → List Scope → Option EarlyFault) → Option EarlyFault
perform (task.Enter h) s outer next = next (entered h s) (s ∷ outer)
perform task.Leave s outer next = leave s outer next
perform (task.Piece p) s outer next = settle (judge s (piece_marks p)) (λ t. next t outer)

-- the fault that the tasks come to from a scope and those around it
abbrev pub verdict : List Task → Scope → List Scope → Option EarlyFault
verdict [] s outer = None
verdict (t ∷ ts) s outer = perform t s outer (λ t' o'. verdict ts t' o')

-- ---- what tasks weigh

-- the weight of a piece that is still to do
abbrev pub piece_weight : Piece → ℕ
piece_weight (piece.Declares n) = 0
piece_weight (piece.Names ns) = weight.names ns.now
piece_weight (piece.Word f) = 0
piece_weight (piece.Expr e) = weight.of_expr e.now
piece_weight (piece.Exprs es) = weight.parts (map weight.of_expr es.now)
piece_weight (piece.TemplateItems is) = weight.parts (map weight.of_template is.now)
piece_weight (piece.Properties ps) = weight.parts (map weight.of_property ps.now)
piece_weight (piece.Declarations ds) = weight.parts (map weight.of_declaration ds.now)
piece_weight (piece.Stmt s) = weight.of_stmt s.now
piece_weight (piece.Stmts ss) = weight.parts (map weight.of_stmt ss.now)

-- the weight of a task: one, and the weight of its piece
abbrev pub task_weight : Task → ℕ
task_weight (task.Enter h) = 1
task_weight task.Leave = 1
task_weight (task.Piece p) = 1 + piece_weight p

-- the weight of all tasks, which each step takes down
abbrev pub total : List Task → ℕ
total [] = 0
total (t ∷ ts) = task_weight t + total ts

-- the new tasks are the old ones behind these marks, and at most so much heavier
pub record IsSplit (old : List Task) (ms : Marks) (n : ℕ) (new : List Task) : Type 0 where
  pub same : (s : Scope) (outer : List Scope) → verdict new s outer ≡ settle (judge s ms) (λ t. verdict old t outer)
  pub heavier : total new ≤ n + total old

-- this answer goes on with the fault that was come to before, or is it
abbrev pub Goes : Option EarlyFault → Option EarlyFault → Result Unit EarlyEnd → Type 0
Goes before after (Ok done) = before ≡ after
Goes before after (Err (Fault f)) = before ≡ Some f
Goes before after (Err NoMemory) = Unit {0}

-- this answer is the fault that is come to
abbrev pub Comes : Option EarlyFault → Result Unit EarlyEnd → Type 0
Comes found answer = Goes found None answer

-- the same answer
abbrev pub answered : {E : Type 0} → Result Unit E → Result Unit EarlyEnd
answered (Ok done) = Ok done
answered (Err e) = Err NoMemory
