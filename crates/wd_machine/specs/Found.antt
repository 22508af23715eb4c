-- What is found in the state: requests by number, Workers by name, and what a seat runs and has to free.
use Rattle.std.specs.Prelude.{ℕ, ◌==◌, ◌≡◌, Bool, List, [], ◌∷◌, filter, Option, Some, None, option_map}
use Rattle.std.specs.List.{find, position_from}
use Rattle.wd_base.specs.declared.ids.Req.{Req}
use Rattle.wd_graph.specs.Names.{same_name}
use Rattle.wd_machine.specs.declared.find.Places.{Places}
use Rattle.wd_machine.specs.declared.state.Due.{Due}
use Rattle.wd_machine.specs.declared.state.RequestState.{RequestState}
use Rattle.wd_machine.specs.declared.state.Run.{Run}
use Rattle.wd_machine.specs.declared.state.Waiter.{Waiter}
use Rattle.wd_machine.specs.declared.state.WorkerState.{WorkerState}

-- the row is of this request
abbrev pub is_request : ℕ → RequestState → Bool
is_request req r = r.req.0 == req

-- the request of this number
abbrev pub request_of : ℕ → List RequestState → Option RequestState
request_of req rows = find (is_request req) rows

-- the Worker has this name
abbrev pub is_worker : {I : Type 0} → List ℕ → WorkerState I → Bool
is_worker name w = same_name w.name name

-- the Worker of this name
abbrev pub worker_of : {I : Type 0} → List ℕ → List (WorkerState I) → Option (WorkerState I)
worker_of name workers = find (is_worker name) workers

-- the service that a request arrived at
abbrev pub service_at : Option RequestState → List ℕ
service_at None = []
service_at (Some r) = r.service

-- the Worker that a request arrived at
abbrev pub worker_for : {I : Type 0} → Option RequestState → List (WorkerState I) → Option (WorkerState I)
worker_for row workers = worker_of (service_at row) workers

-- what waits for a Worker
abbrev pub waiters_at : {I : Type 0} → Option (WorkerState I) → List Waiter
waiters_at None = []
waiters_at (Some w) = w.waiters

-- the request of a waiter
abbrev pub waiting : Option Waiter → Option Req
waiting w = option_map (λ x. x.req) w

-- the waiter that has waited longest
abbrev pub front : List Waiter → Option Waiter
front [] = None
front (x ∷ rest) = Some x

-- the request whose turn has a Worker's isolate
abbrev pub holder_of : {I : Type 0} → Option (WorkerState I) → Option Req
holder_of None = None
holder_of (Some w) = w.holder

-- the seat is this one
abbrev pub runs_on : ℕ → Run → Bool
runs_on seat x = x.seat.0 == seat

-- the request whose turn a seat runs
abbrev pub run_on : ℕ → List Run → Option Req
run_on seat running = option_map (λ x. x.req) (find (runs_on seat) running)

-- what a seat has to free
abbrev pub due_on : ℕ → List Due → List Due
due_on seat due = filter (λ d. d.seat.0 == seat) due

-- the places where a request and its Worker are found
pub record ArePlaces {I : Type 0} (workers : List (WorkerState I)) (rows : List RequestState) (places : Places) : Type 0 where
  pub row : position_from (is_request places.req.0) 0 rows ≡ places.row
  pub worker : position_from (is_worker (service_at (request_of places.req.0 rows))) 0 workers ≡ places.worker
