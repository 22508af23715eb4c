-- What each entry changes.
use Rattle.std.specs.Prelude.{◌≡◌, ℕ, ◌-◌, ◌==◌, Bool, false, not, ◌||◌, if◌then◌else◌, List, [], ◌∷◌, ◌++◌, filter, map, Option, Some, None, is_some, unwrap_or}
use Rattle.wd_base.specs.declared.ids.Obj.{Obj}
use Rattle.wd_base.specs.declared.ids.Req.{Req}
use Rattle.wd_base.specs.declared.ids.Seat.{Seat}
use Rattle.wd_base.specs.declared.http.ReqData.{ReqData}
use Rattle.wd_base.specs.declared.objects.IoObject.{IoObject}
use Rattle.wd_base.specs.declared.objects.ObjName.{ObjName}
use Rattle.wd_base.specs.declared.objects.OpStart.{OpStart}
use Rattle.wd_base.specs.declared.objects.Origin.{Origin}
use Rattle.wd_base.specs.declared.objects.Wake.{Wake}
use Rattle.wd_base.specs.declared.objects.Wake.TheVariants.{Start}
use Rattle.wd_machine.specs.declared.journal.Entry.{Entry}
use Rattle.wd_machine.specs.declared.journal.Entry.TheVariants.{Arrive, Begin, Turn, Answer, Served, Cancel, Drain}
use Rattle.wd_machine.specs.declared.state.Flight.{Flight}
use Rattle.wd_machine.specs.declared.state.Pending.{Pending}
use Rattle.wd_machine.specs.declared.state.RequestState.{RequestState}
use Rattle.wd_machine.specs.declared.state.State.{State}
use Rattle.wd_machine.specs.declared.state.Waiter.{Waiter}
use Rattle.wd_machine.specs.declared.state.WorkerState.{WorkerState}
use Rattle.wd_machine.specs.declared.turn.Out.{Out}
use Rattle.wd_machine.specs.declared.ends.Done.{Done}
use Rattle.wd_machine.specs.Ends.{waits_in, ends, whole_reply, whole_out, left_live, freed_by}
use Rattle.wd_machine.specs.Found.{is_request, is_worker, request_of, worker_of, waiters_at}
use Rattle.wd_machine.specs.Keyed.{change}
use Rattle.wd_machine.specs.Meaning.{Meaning, TurnIn, TurnGives, has_obj, spent}

-- one more waits, behind the others
abbrev pub waits_too : {I : Type 0} → Waiter → WorkerState I → WorkerState I
waits_too waiter w = record w { waiters = w.waiters ++ waiter ∷ [] }

-- a request that has arrived
abbrev pub new_request : Seat → Req → List ℕ → Origin → ℕ → RequestState
new_request seat req service origin allow = record {
  req = req;
  seat = seat;
  service = service;
  origin = origin;
  left = allow;
  generation = None;
  flights = [];
  live = [];
  objects = [];
  pending = None;
  replied = false;
  waits = 0;
  detached = false;
  ended = false;
}

-- Arrive: the request is there, and at a Worker it waits for its start
abbrev pub arrived : {I : Type 0} → State I → Seat → Req → List ℕ → Origin → ℕ → ReqData → State I
arrived s seat req service origin allow request = record s {
  workers = change (is_worker service) (waits_too (record { req = req; wake = Start request })) s.workers;
  requests = s.requests ++ new_request seat req service origin allow ∷ [];
}

-- the generation of a request's turns: the one that its first turn fixed, or else its Worker's
abbrev pub turn_generation : {I : Type 0} → RequestState → WorkerState I → ℕ
turn_generation r w = unwrap_or r.generation w.generation

-- what a turn of a request reads
abbrev pub turn_in : ℕ → RequestState → Wake → TurnIn
turn_in generation r wake = record { generation = generation; req = r.req; left = r.left; wake = wake; objects = r.objects }

-- the Worker whose isolate made a turn of the request
abbrev pub taken_by : {I : Type 0} → Req → I → List Waiter → WorkerState I → WorkerState I
taken_by req isolate rest w = record w { isolate = isolate; holder = Some req; waiters = rest }

-- the request whose turn was made, and runs
abbrev pub runs_turn : {I : Type 0} → ℕ → TurnGives I → RequestState → RequestState
runs_turn generation gives r = record r {
  generation = Some generation;
  objects = [];
  pending = Some (record { objects = gives.objects; out = gives.out });
}

-- the front waiter's turn was made, where one waits
abbrev pub RunsFront : {I : Type 0} → Meaning I → WorkerState I → RequestState → WorkerState I → RequestState → List Waiter → Type 0
RunsFront m w r w' r' [] = Unit {0}
RunsFront m w r w' r' (x ∷ rest) =
    (w' ≡ taken_by r.req (m.turn w.isolate (turn_in (turn_generation r w) r x.wake)).isolate rest w)
    × (r' ≡ runs_turn (turn_generation r w) (m.turn w.isolate (turn_in (turn_generation r w) r x.wake)) r)

-- the state in which the seat runs a turn that was made
abbrev pub begun_with : {I : Type 0} → State I → Seat → RequestState → ℕ → TurnGives I → List Waiter → State I
begun_with s seat r generation gives rest = record s {
  workers = change (is_worker r.service) (taken_by r.req gives.isolate rest) s.workers;
  requests = change (is_request r.req.0) (runs_turn generation gives) s.requests;
  running = s.running ++ record { seat = seat; req = r.req } ∷ [];
}

-- Begin of a request with a Worker: the front waiter's turn is made
abbrev pub begun_front : {I : Type 0} → Meaning I → State I → Seat → RequestState → WorkerState I → List Waiter → State I
begun_front m s seat r w [] = s
begun_front m s seat r w (x ∷ rest) = begun_with s seat r (turn_generation r w) (m.turn w.isolate (turn_in (turn_generation r w) r x.wake)) rest

-- Begin of a request that is there
abbrev pub begun_in : {I : Type 0} → Meaning I → State I → Seat → RequestState → Option (WorkerState I) → State I
begun_in m s seat r None = s
begun_in m s seat r (Some w) = begun_front m s seat r w w.waiters

-- Begin where the request is looked up
abbrev pub begun_by : {I : Type 0} → Meaning I → State I → Seat → Option RequestState → State I
begun_by m s seat None = s
begun_by m s seat (Some r) = begun_in m s seat r (worker_of r.service s.workers)

-- Begin: the isolate makes the turn of its front waiter, which stays pending until the Turn
abbrev pub begun : {I : Type 0} → Meaning I → State I → Seat → Req → State I
begun m s seat req = begun_by m s seat (request_of req.0 s.requests)

-- the name of an object of a request
abbrev pub named : Req → Obj → ObjName
named req obj = record { req = req; obj = obj }

-- the objects of a request that are left when these are freed
abbrev pub kept_objects : List Obj → List IoObject → List IoObject
kept_objects freed objects = filter (λ o. not (has_obj freed o.obj.0)) objects

-- an operation that has started
abbrev pub flight_of : OpStart → Flight
flight_of o = record { op = o.op; target = o.target }

-- the request after a turn of it
abbrev pub has_turned : Bool → Pending → RequestState → RequestState
has_turned waiting p r = record r {
  left = r.left - spent p.out.ops;
  flights = if ends r waiting p.out then [] else r.flights ++ map flight_of p.out.ops;
  live = if ends r waiting p.out then [] else left_live r p.out;
  objects = if ends r waiting p.out then [] else kept_objects p.out.freed p.objects;
  pending = None;
  replied = r.replied || is_some (whole_reply r waiting p.out);
  waits = p.out.waits;
  ended = ends r waiting p.out;
}

-- what a turn has done: the `Out` of its entry, what it freed, and whether the request has ended
abbrev pub done_by : RequestState → Bool → Out → Done
done_by r waiting out = record { out = whole_out r waiting out; freed = freed_by r waiting out; ended = ends r waiting out }

-- the row after its turn, if one was pending, and what that has done
abbrev pub TurnsRow : RequestState → RequestState → Bool → Option Pending → Option Done → Type 0
TurnsRow before after waiting None done = (done ≡ None) × (after ≡ before)
TurnsRow before after waiting (Some p) done = (done ≡ Some (done_by before waiting p.out)) × (after ≡ has_turned waiting p before)

-- the `Out` of the entry for a turn that is pending
abbrev pub entry_out : RequestState → Bool → Option Pending → Option Out
entry_out r waiting None = None
entry_out r waiting (Some p) = Some (whole_out r waiting p.out)

-- the `Out` of a request's Turn, where it is there and a turn of it is pending
abbrev pub turn_out : {I : Type 0} → Option RequestState → Option (WorkerState I) → Option Out
turn_out None worker = None
turn_out (Some r) worker = entry_out r (waits_in r.req.0 (waiters_at worker)) r.pending

-- the waiters of the other requests
abbrev pub waiters_without : ℕ → List Waiter → List Waiter
waiters_without req waiters = filter (λ w. not (w.req.0 == req)) waiters

-- the Worker whose isolate is free again; where the request has ended, it waits for nothing
abbrev pub given_back : {I : Type 0} → Bool → ℕ → WorkerState I → WorkerState I
given_back ended req w = record w { holder = None; waiters = if ended then waiters_without req w.waiters else w.waiters }

-- the state after a turn that was pending
abbrev pub turned_with : {I : Type 0} → State I → Seat → RequestState → Bool → Pending → State I
turned_with s seat r waiting p = record s {
  workers = change (is_worker r.service) (given_back (ends r waiting p.out) r.req.0) s.workers;
  requests = change (is_request r.req.0) (has_turned waiting p) s.requests;
  running = filter (λ x. not (x.seat.0 == seat.0)) s.running;
  made = s.made ++ map (named r.req) p.out.made;
  freed = s.freed ++ map (named r.req) (freed_by r waiting p.out);
}

-- Turn of a request, if one is pending
abbrev pub turned_in : {I : Type 0} → State I → Seat → RequestState → Option Pending → State I
turned_in s seat r None = s
turned_in s seat r (Some p) = turned_with s seat r (waits_in r.req.0 (waiters_at (worker_of r.service s.workers))) p

-- Turn where the request is looked up
abbrev pub turned_by : {I : Type 0} → State I → Seat → Option RequestState → State I
turned_by s seat None = s
turned_by s seat (Some r) = turned_in s seat r r.pending

-- Turn: what the pending turn did is done, and the isolate and the seat are free again
abbrev pub turned : {I : Type 0} → State I → Seat → Req → State I
turned s seat req = turned_by s seat (request_of req.0 s.requests)

-- the state after an entry that is allowed
abbrev pub step : {I : Type 0} → Meaning I → State I → Entry → State I
step m s (Arrive seat req service origin allow request) = arrived s seat req service origin allow request
step m s (Begin seat req) = begun m s seat req
step m s (Turn seat req out) = turned s seat req
step m s (Answer seat req op result) = s
step m s (Served seat req reply) = s
step m s (Cancel seat req) = s
step m s (Drain seat) = s
