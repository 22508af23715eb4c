-- The start of a world's scripts, and what is served of a configuration.
use Rattle.std.specs.Prelude.{◌≡◌, ◌⊎◌, ℕ, Bool, true, false, ◌&&◌, List, [], ◌∷◌, ◌++◌, map, drop, Option, Some, None}
use Rattle.std.specs.Prelude.{is_some, slice_get}
use Rattle.std.specs.List.{list_all}
use Rattle.wd_base.specs.declared.config.Config.{Config}
use Rattle.wd_base.specs.declared.config.Form.{Form}
use Rattle.wd_base.specs.declared.config.Form.TheVariants as form
use Rattle.wd_base.specs.declared.config.Service.{Service}
use Rattle.wd_base.specs.declared.config.Socket.{Socket}
use Rattle.wd_base.specs.declared.config.WorkerDef.{WorkerDef}
use Rattle.wd_base.specs.declared.ids.ServiceNo.{ServiceNo}
use Rattle.wd_graph.specs.Graph.{workers_in}
use Rattle.wd_graph.specs.Names.{worker_in, worker_at, service_of}
use Rattle.wd_machine.specs.First.{AreFirst, first_isolate, worker_defs}
use Rattle.wd_plan.specs.declared.constant.Constant.{Constant}
use Rattle.wd_plan.specs.declared.reason.Reason.{Reason}
use Rattle.wd_plan.specs.declared.reason.RefusedScript.{RefusedScript}
use Rattle.wd_plan.specs.declared.script.Verdict.TheVariants as verdict
use Rattle.wd_plan.specs.declared.starts.Started.{Started}
use Rattle.wd_plan.specs.declared.starts.Started.TheVariants.{Isolates, Refused}
use Rattle.wd_plan.specs.Constant.{constant_means}
use Rattle.wd_plan.specs.Script.{Comes}

-- a service that is no Worker, or a Worker whose script starts
abbrev pub IsPassed : Option WorkerDef → Type 0
IsPassed None = Unit {0}
IsPassed (Some def) = (text : List ℕ) × Comes def (verdict.Answers text)

-- a service that is a Worker whose script is refused for this
abbrev pub IsRefusedFor : Option WorkerDef → Reason → Type 0
IsRefusedFor None reason = ⊥
IsRefusedFor (Some def) reason = Comes def (verdict.Refused reason)

-- the script of a service, refused for this
abbrev pub refused : Service → Reason → RefusedScript
refused s reason = record { service = s.name; reason = reason }

-- the first script of these services, in order, that is refused, if there is one
abbrev pub FirstRefused : List Service → Option RefusedScript → Type 0
FirstRefused [] found = found ≡ None
FirstRefused (s ∷ rest) found =
    (IsPassed (worker_in s.kind) × FirstRefused rest found)
    ⊎ ((reason : Reason) × IsRefusedFor (worker_in s.kind) reason × (found ≡ Some (refused s reason)))

-- the first isolates of the world's Workers, in order, or the first script that is refused
abbrev pub Starts : Config → Started → Type 0
Starts world (Isolates isolates) = AreFirst constant_means world isolates.items × FirstRefused world.services None
Starts world (Refused script) = FirstRefused world.services (Some script)

-- the names of the Workers among the targets of the service of this number
abbrev pub targets_at : List Service → ServiceNo → List (List ℕ)
targets_at services number = workers_in services (worker_at (slice_get services number.0))

-- These are the first isolates of the Workers among the first n services, and the first script of those
-- behind them that is refused is the first of all, and so where there is none.
pub record Starting (services : List Service) (isolates : List Constant) (n : ℕ) : Type 0 where
  pub made : map (first_isolate constant_means services) (worker_defs services) ≡ map Some isolates
      ++ map (first_isolate constant_means services) (worker_defs (drop n services))
  pub left : (found : Option RefusedScript) → FirstRefused (drop n services) found → FirstRefused services found

-- the same of one service more, or its script is the first that is refused
abbrev pub StartsNext : List Service → List Constant → ℕ → Option RefusedScript → Type 0
StartsNext services isolates n None = Starting services isolates n
StartsNext services isolates n (Some script) = FirstRefused services (Some script)

-- the Worker's script is an ECMAScript module (ECMA-262, section 16.2)
abbrev pub is_module : Form → Bool
is_module form.Module = true
is_module form.Script = false

-- the list is empty
abbrev pub has_none : {X : Type 0} → List X → Bool
has_none [] = true
has_none (x ∷ xs) = false

-- a Worker that is served today: a module without bindings
abbrev pub is_plain_worker : Option WorkerDef → Bool
is_plain_worker None = false
is_plain_worker (Some def) = is_module def.form && has_none def.bindings

-- each service is such a Worker
abbrev pub are_plain : List Service → Bool
are_plain services = list_all (λ s. is_plain_worker (worker_in s.kind)) services

-- the socket is at a Worker
abbrev pub is_at_worker : List Service → Socket → Bool
is_at_worker services socket = is_some (worker_at (service_of socket.service services))

-- each socket is at a Worker
abbrev pub are_at_workers : Config → Bool
are_at_workers world = list_all (is_at_worker world.services) world.sockets
