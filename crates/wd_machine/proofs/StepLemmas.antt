-- What a program's changes of the tables make of the state.
use Rattle.std.proofs.Common.{◌≡◌, ℕ, ◌==◌, Bool, true, false, not, if◌then◌else◌, List, [], ◌∷◌, ◌++◌, map, filter, get_or, set, Option, Some, None, Result, Ok, Err, OnOk, refl, sym, ap, ◌∙◌, subst}
use Rattle.std.proofs.lemmas.Bool.{eqb-true}
use Rattle.std.proofs.lemmas.List.{set-get_or}
use Rattle.std.specs.List.{position_from}
use Rattle.wd_base.specs.declared.http.ReqData.{ReqData}
use Rattle.wd_base.specs.declared.ids.Req.{Req}
use Rattle.wd_base.specs.declared.ids.Seat.{Seat}
use Rattle.wd_base.specs.declared.objects.ObjName.{ObjName}
use Rattle.wd_base.specs.declared.objects.Origin.{Origin}
use Rattle.wd_base.specs.declared.objects.Wake.TheVariants.{Start}
use Rattle.wd_machine.specs.declared.ends.Done.{Done}
use Rattle.wd_machine.specs.declared.state.Pending.{Pending}
use Rattle.wd_machine.specs.declared.state.RequestState.{RequestState}
use Rattle.wd_machine.specs.declared.state.Run.{Run}
use Rattle.wd_machine.specs.declared.state.State.{State}
use Rattle.wd_machine.specs.declared.state.Waiter.{Waiter}
use Rattle.wd_machine.specs.declared.state.WorkerState.{WorkerState}
use Rattle.wd_machine.specs.Ends.{waits_in, ends, whole_out, freed_by}
use Rattle.wd_machine.specs.Found.{is_request, is_worker, request_of, worker_of, worker_for, service_at, waiters_at}
use Rattle.wd_machine.specs.Keyed.{change}
use Rattle.wd_machine.specs.Meaning.{Meaning}
use Rattle.wd_machine.specs.Steps.{arrived, waits_too, new_request, begun, begun_by, begun_in, begun_front, begun_with, RunsFront, runs_turn, taken_by, turn_in, turn_generation, turned, turned_by, turned_in, turned_with, entry_out, TurnsRow, done_by, has_turned, given_back, named, turn_out}
use Rattle.wd_machine.proofs.KeyedLemmas.{change_at, change_none, find_at, find_none, same_read}

-- a fact where a call answers Ok, of one that follows from it
pub OnOk-map : {T E P Q : Type 0} (r : Result T E) → OnOk r P → (P → Q) → OnOk r Q
OnOk-map (Ok x) p f = f p
OnOk-map (Err e) p f = tt

-- a request has arrived at a Worker
pub arrived_at : {I : Type 0} (s now : State I) (seat : Seat) (req : Req) (service : List ℕ) (origin : Origin) (allow : ℕ) (request : ReqData) (j : ℕ) (w w' : WorkerState I) (rows : List RequestState)
    → s ≡ now → position_from (is_worker service) 0 now.workers ≡ Some j → w ≡ get_or s.workers j w → w' ≡ waits_too (record { req = req; wake = Start request }) w
    → rows ≡ s.requests ++ new_request seat req service origin allow ∷ []
    → record s { workers = set s.workers j w'; requests = rows } ≡ arrived now seat req service origin allow request
arrived_at {I} s now seat req service origin allow request j w w' rows is found read more pushed =
    let at = subst (λ (t : State I). position_from (is_worker service) 0 t.workers ≡ Some j) (sym is) found in
    let workers = ap (set s.workers j) (more ∙ ap (waits_too (record { req = req; wake = Start request })) read) ∙ sym (change_at (is_worker service) (waits_too (record { req = req; wake = Start request })) s.workers j w at) in
    (λ i. record s { workers = workers i; requests = pushed i }) ∙ ap (λ (t : State I). arrived t seat req service origin allow request) is

-- a request has arrived at a service that is no Worker
pub arrived_elsewhere : {I : Type 0} (s now : State I) (seat : Seat) (req : Req) (service : List ℕ) (origin : Origin) (allow : ℕ) (request : ReqData) (rows : List RequestState)
    → s ≡ now → position_from (is_worker service) 0 now.workers ≡ None
    → rows ≡ s.requests ++ new_request seat req service origin allow ∷ []
    → record s { requests = rows } ≡ arrived now seat req service origin allow request
arrived_elsewhere {I} s now seat req service origin allow request rows is found pushed =
    let at = subst (λ (t : State I). position_from (is_worker service) 0 t.workers ≡ None) (sym is) found in
    let workers = sym (change_none (is_worker service) (waits_too (record { req = req; wake = Start request })) s.workers at) in
    (λ i. record s { workers = workers i; requests = pushed i }) ∙ ap (λ (t : State I). arrived t seat req service origin allow request) is

-- no such request
pub begun_absent : {I : Type 0} (m : Meaning I) (s : State I) (seat : Seat) (req : Req)
    → position_from (is_request req.0) 0 s.requests ≡ None → s ≡ begun m s seat req
begun_absent m s seat req e = rw (find_none (is_request req.0) s.requests e) refl

no_worker : {I : Type 0} (m : Meaning I) (s : State I) (seat : Seat) (o : Option RequestState) → worker_for o s.workers ≡ None → s ≡ begun_by m s seat o
no_worker m s seat None e = refl
no_worker m s seat (Some r) e = rw e refl

-- no such Worker
pub begun_no_worker : {I : Type 0} (m : Meaning I) (s : State I) (seat : Seat) (req : Req)
    → position_from (is_worker (service_at (request_of req.0 s.requests))) 0 s.workers ≡ None → s ≡ begun m s seat req
begun_no_worker m s seat req e = no_worker m s seat (request_of req.0 s.requests) (find_none _ s.workers e)

nobody : {I : Type 0} (m : Meaning I) (s : State I) (seat : Seat) (o : Option RequestState) (w : WorkerState I) → worker_for o s.workers ≡ Some w → w.waiters ≡ [] → s ≡ begun_by m s seat o
nobody m s seat None w e none = refl
nobody m s seat (Some r) w e none = rw (e, none) refl

-- nobody waits
pub begun_nobody : {I : Type 0} (m : Meaning I) (s now : State I) (seat : Seat) (req : Req) (j : ℕ) (w : WorkerState I)
    → s ≡ now → position_from (is_worker (service_at (request_of req.0 now.requests))) 0 now.workers ≡ Some j → w ≡ get_or s.workers j w → w.waiters ≡ []
    → now ≡ begun m now seat req
begun_nobody {I} m s now seat req j w is found read none =
    let here : w ≡ get_or now.workers j w = read ∙ ap (λ (t : State I). get_or t.workers j w) is in
    nobody m now seat (request_of req.0 now.requests) w (find_at _ now.workers j w found ∙ ap Some (sym here)) none

-- a request that is found by a number has it
pub found_number : (rows : List RequestState) (req : ℕ) (r : RequestState) → request_of req rows ≡ Some r → r.req.0 ≡ req
found_number [] req r e = cc
found_number (x ∷ rest) req r e =
    elim (x.req.0 == req) as (λ b. (x.req.0 == req) ≡ b → (if b then Some x else request_of req rest) ≡ Some r → r.req.0 ≡ req) [
      | true ↦ λ h e. let same : x ≡ r = cc in sym (ap (λ (t : RequestState). t.req.0) same) ∙ eqb-true x.req.0 req h
      | false ↦ λ h e. found_number rest req r e
    ] refl e

-- the tables after the front waiter's turn
made : {I : Type 0} (m : Meaning I) (s : State I) (seat : Seat) (req : Req) (r r' : RequestState) (w w' : WorkerState I) (i j : ℕ) (running : List Run)
    → position_from (is_request req.0) 0 s.requests ≡ Some i → position_from (is_worker r.service) 0 s.workers ≡ Some j
    → r ≡ get_or s.requests i r → w ≡ get_or s.workers j w → r.req.0 ≡ req.0
    → running ≡ s.running ++ record { seat = seat; req = r.req } ∷ []
    → (w.waiters ≡ [] → ⊥)
    → (ws : List Waiter) → w.waiters ≡ ws → RunsFront m w r w' r' ws
    → record s { workers = set s.workers j w'; requests = set s.requests i r'; running = running } ≡ begun m s seat req
made m s seat req r r' w w' i j running at place read_row read_worker same ran some [] is h = absurd (some is)
made {I} m s seat req r r' w w' i j running at place read_row read_worker same ran some (x ∷ rest) is h =
    let generation = turn_generation r w in
    let gives = m.turn w.isolate (turn_in generation r x.wake) in
    let worker_new = ap (set s.workers j) (h.0 ∙ ap (taken_by r.req gives.isolate rest) read_worker) ∙ sym (change_at (is_worker r.service) (taken_by r.req gives.isolate rest) s.workers j w place) in
    let row_new = ap (set s.requests i) (h.1 ∙ ap (runs_turn generation gives) read_row) ∙ sym (change_at (is_request req.0) (runs_turn generation gives) s.requests i r at) ∙ ap (λ q. change (is_request q) (runs_turn generation gives) s.requests) (sym same) in
    let row : request_of req.0 s.requests ≡ Some r = find_at (is_request req.0) s.requests i r at ∙ ap Some (sym read_row) in
    let worker : worker_of r.service s.workers ≡ Some w = find_at (is_worker r.service) s.workers j w place ∙ ap Some (sym read_worker) in
    let tables : record s { workers = set s.workers j w'; requests = set s.requests i r'; running = running } ≡ begun_with s seat r generation gives rest = λ k. record s { workers = worker_new k; requests = row_new k; running = ran k } in
    let steps : begun m s seat req ≡ begun_with s seat r generation gives rest = ap (begun_by m s seat) row ∙ ap (begun_in m s seat r) worker ∙ ap (begun_front m s seat r w) is in
    tables ∙ sym steps

-- the front waiter's turn was made
pub begun_done : {I : Type 0} (m : Meaning I) (s now : State I) (seat : Seat) (req : Req) (r r2 r' : RequestState) (w w2 w' : WorkerState I) (i j : ℕ) (running : List Run)
    → s ≡ now → position_from (is_request req.0) 0 now.requests ≡ Some i → position_from (is_worker (service_at (request_of req.0 now.requests))) 0 now.workers ≡ Some j
    → r ≡ get_or s.requests i r → r2 ≡ get_or s.requests i r2 → w ≡ get_or s.workers j w → w2 ≡ get_or s.workers j w2
    → running ≡ s.running ++ record { seat = seat; req = r2.req } ∷ []
    → (w2.waiters ≡ [] → ⊥)
    → RunsFront m w r w' r' w.waiters
    → record s { workers = set s.workers j w'; requests = set s.requests i r'; running = running } ≡ begun m now seat req
begun_done {I} m s now seat req r r2 r' w w2 w' i j running is at_now place_now read_row read_row2 read_worker read_worker2 ran some h =
    let at = subst (λ (t : State I). position_from (is_request req.0) 0 t.requests ≡ Some i) (sym is) at_now in
    let found : request_of req.0 s.requests ≡ Some r = find_at (is_request req.0) s.requests i r at ∙ ap Some (sym read_row) in
    let place_of = subst (λ (t : State I). position_from (is_worker (service_at (request_of req.0 t.requests))) 0 t.workers ≡ Some j) (sym is) place_now in
    let place : position_from (is_worker r.service) 0 s.workers ≡ Some j = subst (λ o. position_from (is_worker (service_at o)) 0 s.workers ≡ Some j) found place_of in
    let rows : r2 ≡ r = read_row2 ∙ same_read (is_request req.0) s.requests i r2 r at ∙ sym read_row in
    let workers : w2 ≡ w = read_worker2 ∙ same_read (is_worker r.service) s.workers j w2 w place ∙ sym read_worker in
    let number : r.req.0 ≡ req.0 = found_number s.requests req.0 r found in
    let ran_now : running ≡ s.running ++ record { seat = seat; req = r.req } ∷ [] = ran ∙ ap (λ (t : RequestState). s.running ++ record { seat = seat; req = t.req } ∷ []) rows in
    let some_now : w.waiters ≡ [] → ⊥ = λ none. some (ap (λ (t : WorkerState I). t.waiters) workers ∙ none) in
    made m s seat req r r' w w' i j running at place read_row read_worker number ran_now some_now w.waiters refl h ∙ ap (λ (t : State I). begun m t seat req) is

-- no such request
pub turned_absent : {I : Type 0} (s : State I) (seat : Seat) (req : Req) → position_from (is_request req.0) 0 s.requests ≡ None → s ≡ turned s seat req
turned_absent s seat req e = rw (find_none (is_request req.0) s.requests e) refl

-- no such request, so that no turn of it is pending
pub turn_out_absent : {I : Type 0} (s : State I) (req : Req) → position_from (is_request req.0) 0 s.requests ≡ None → None ≡ turn_out (request_of req.0 s.requests) (worker_for (request_of req.0 s.requests) s.workers)
turn_out_absent s req e = rw (find_none (is_request req.0) s.requests e) refl

-- the row had no pending turn
idle_row : (r r' : RequestState) (waiting : Bool) (o : Option Pending) → TurnsRow r r' waiting o None → (o ≡ None) × (r' ≡ r)
idle_row r r' waiting None h = (refl, h.1)
idle_row r r' waiting (Some p) h = cc

-- what the row's pending turn was
done_row : (r r' : RequestState) (waiting : Bool) (done : Done) (o : Option Pending) → TurnsRow r r' waiting o (Some done) → (p : Pending) × (o ≡ Some p) × (done ≡ done_by r waiting p.out) × (r' ≡ has_turned waiting p r)
done_row r r' waiting done None h = cc
done_row r r' waiting done (Some p) h = (p, refl, cc, h.1)

-- no turn of the request is pending
pub turned_idle : {I : Type 0} (s now : State I) (seat : Seat) (req : Req) (r r' : RequestState) (waiting : Bool) (i : ℕ)
    → s ≡ now → position_from (is_request req.0) 0 now.requests ≡ Some i → r ≡ get_or s.requests i r → TurnsRow r r' waiting r.pending None
    → record s { requests = set s.requests i r' } ≡ turned now seat req
turned_idle {I} s now seat req r r' waiting i is at_now read h =
    let at = subst (λ (t : State I). position_from (is_request req.0) 0 t.requests ≡ Some i) (sym is) at_now in
    let found : request_of req.0 s.requests ≡ Some r = find_at (is_request req.0) s.requests i r at ∙ ap Some (sym read) in
    let row = idle_row r r' waiting r.pending h in
    let same : set s.requests i r' ≡ s.requests = ap (set s.requests i) (row.1 ∙ read) ∙ set-get_or s.requests i r in
    let nothing : s ≡ turned s seat req = sym (ap (turned_by s seat) found ∙ ap (turned_in s seat r) row.0) in
    (λ k. record s { requests = same k }) ∙ nothing ∙ ap (λ (t : State I). turned t seat req) is

pub turn_out_idle : {I : Type 0} (s now : State I) (req : Req) (r r' : RequestState) (waiting : Bool) (i : ℕ)
    → s ≡ now → position_from (is_request req.0) 0 now.requests ≡ Some i → r ≡ get_or s.requests i r → TurnsRow r r' waiting r.pending None
    → None ≡ turn_out (request_of req.0 now.requests) (worker_for (request_of req.0 now.requests) now.workers)
turn_out_idle {I} s now req r r' waiting i is at_now read h =
    let at = subst (λ (t : State I). position_from (is_request req.0) 0 t.requests ≡ Some i) (sym is) at_now in
    let found : request_of req.0 s.requests ≡ Some r = find_at (is_request req.0) s.requests i r at ∙ ap Some (sym read) in
    let row = idle_row r r' waiting r.pending h in
    let nothing : None ≡ turn_out (request_of req.0 s.requests) (worker_for (request_of req.0 s.requests) s.workers) = sym (ap (λ o. turn_out o (worker_for o s.workers)) found ∙ ap (entry_out r (waits_in r.req.0 (waiters_at (worker_of r.service s.workers)))) row.0) in
    nothing ∙ ap (λ (t : State I). turn_out (request_of req.0 t.requests) (worker_for (request_of req.0 t.requests) t.workers)) is

-- what a turn that was pending leaves of the tables
pub record LeavesTables {I : Type 0} (s : State I) (seat : Seat) (req : Req) (done : Done) (running : List Run) (made freed : List ObjName) : Type 0 where
  pub ran : running ≡ filter (λ x. not (x.seat.0 == seat.0)) s.running
  pub makes : made ≡ s.made ++ map (named req) done.out.made
  pub frees : freed ≡ s.freed ++ map (named req) done.freed

turned_tables : {I : Type 0} (s : State I) (seat : Seat) (req : Req) (r r' : RequestState) (p : Pending) (done : Done) (waiting : Bool) (i : ℕ) (workers : List (WorkerState I)) (running : List Run) (made freed : List ObjName)
    → position_from (is_request req.0) 0 s.requests ≡ Some i → r ≡ get_or s.requests i r → r.req ≡ req → r.pending ≡ Some p
    → waiting ≡ waits_in r.req.0 (waiters_at (worker_of r.service s.workers))
    → done ≡ done_by r waiting p.out → r' ≡ has_turned waiting p r
    → workers ≡ change (is_worker r.service) (given_back done.ended req.0) s.workers
    → LeavesTables s seat req done running made freed
    → record s { workers = workers; requests = set s.requests i r'; running = running; made = made; freed = freed } ≡ turned s seat req
turned_tables {I} s seat req r r' p done waiting i workers running made freed at read same pending waits did row back leaves =
    let found : request_of req.0 s.requests ≡ Some r = find_at (is_request req.0) s.requests i r at ∙ ap Some (sym read) in
    let back_now = back ∙ ap (λ (d : Done). change (is_worker r.service) (given_back d.ended req.0) s.workers) did ∙ ap (λ (q : Req). change (is_worker r.service) (given_back (ends r waiting p.out) q.0) s.workers) (sym same) in
    let rows = ap (set s.requests i) (row ∙ ap (has_turned waiting p) read) ∙ sym (change_at (is_request req.0) (has_turned waiting p) s.requests i r at) ∙ ap (λ (q : Req). change (is_request q.0) (has_turned waiting p) s.requests) (sym same) in
    let makes = leaves.makes ∙ ap (λ (d : Done). s.made ++ map (named req) d.out.made) did ∙ ap (λ (q : Req). s.made ++ map (named q) p.out.made) (sym same) in
    let frees = leaves.frees ∙ ap (λ (d : Done). s.freed ++ map (named req) d.freed) did ∙ ap (λ (q : Req). s.freed ++ map (named q) (freed_by r waiting p.out)) (sym same) in
    let tables : record s { workers = workers; requests = set s.requests i r'; running = running; made = made; freed = freed } ≡ turned_with s seat r waiting p = λ k. record s { workers = back_now k; requests = rows k; running = leaves.ran k; made = makes k; freed = frees k } in
    let steps : turned_with s seat r (waits_in r.req.0 (waiters_at (worker_of r.service s.workers))) p ≡ turned s seat req = sym (ap (turned_by s seat) found ∙ ap (turned_in s seat r) pending) in
    tables ∙ ap (λ b. turned_with s seat r b p) waits ∙ steps

-- the facts of a turn that was pending
pub record Turned {I : Type 0} (s now : State I) (seat : Seat) (req : Req) (r r' : RequestState) (done : Done) (waiting : Bool) (i : ℕ) : Type 0 where
  pub is : s ≡ now
  pub at : position_from (is_request req.0) 0 now.requests ≡ Some i
  pub read : r ≡ get_or s.requests i r
  pub waits : waiting ≡ waits_in req.0 (waiters_at (worker_for (request_of req.0 now.requests) now.workers))
  pub row : TurnsRow r r' waiting r.pending (Some done)

module _ {I : Type 0} (s now : State I) (seat : Seat) (req : Req) (r r' : RequestState) (done : Done) (waiting : Bool) (i : ℕ) (facts : Turned s now seat req r r' done waiting i) where
  at_old : position_from (is_request req.0) 0 s.requests ≡ Some i
  at_old = subst (λ (t : State I). position_from (is_request req.0) 0 t.requests ≡ Some i) (sym facts.is) facts.at

  found_old : request_of req.0 s.requests ≡ Some r
  found_old = find_at (is_request req.0) s.requests i r at_old ∙ ap Some (sym facts.read)

  same_number : r.req ≡ req
  same_number = λ k. record { 0 = found_number s.requests req.0 r found_old k }

  waits_old : waiting ≡ waits_in r.req.0 (waiters_at (worker_of r.service s.workers))
  waits_old =
      facts.waits ∙ ap (λ (t : State I). waits_in req.0 (waiters_at (worker_for (request_of req.0 t.requests) t.workers))) (sym facts.is)
      ∙ ap (λ o. waits_in req.0 (waiters_at (worker_for o s.workers))) found_old
      ∙ ap (λ (q : Req). waits_in q.0 (waiters_at (worker_of r.service s.workers))) (sym same_number)

  -- the `Out` of the turn's entry
  pub turn_out_done : Some done.out ≡ turn_out (request_of req.0 now.requests) (worker_for (request_of req.0 now.requests) now.workers)
  turn_out_done =
      let row = done_row r r' waiting done r.pending facts.row in
      let here : turn_out (request_of req.0 s.requests) (worker_for (request_of req.0 s.requests) s.workers) ≡ Some (whole_out r (waits_in r.req.0 (waiters_at (worker_of r.service s.workers))) row.0.out) = ap (λ o. turn_out o (worker_for o s.workers)) found_old ∙ ap (entry_out r (waits_in r.req.0 (waiters_at (worker_of r.service s.workers)))) row.1 in
      ap (λ (d : Done). Some d.out) row.2 ∙ ap (λ b. Some (whole_out r b row.0.out)) waits_old ∙ sym here
      ∙ ap (λ (t : State I). turn_out (request_of req.0 t.requests) (worker_for (request_of req.0 t.requests) t.workers)) facts.is

  module _ (running : List Run) (made freed : List ObjName) (leaves : LeavesTables s seat req done running made freed) where
    -- the request's Worker is not there
    pub turned_alone : position_from (is_worker (service_at (request_of req.0 now.requests))) 0 now.workers ≡ None
        → record s { requests = set s.requests i r'; running = running; made = made; freed = freed } ≡ turned now seat req
    turned_alone place_now =
        let row = done_row r r' waiting done r.pending facts.row in
        let place_of = subst (λ (t : State I). position_from (is_worker (service_at (request_of req.0 t.requests))) 0 t.workers ≡ None) (sym facts.is) place_now in
        let place : position_from (is_worker r.service) 0 s.workers ≡ None = subst (λ o. position_from (is_worker (service_at o)) 0 s.workers ≡ None) found_old place_of in
        turned_tables s seat req r r' row.0 done waiting i s.workers running made freed at_old facts.read same_number row.1 waits_old row.2 row.3 (sym (change_none (is_worker r.service) (given_back done.ended req.0) s.workers place)) leaves
        ∙ ap (λ (t : State I). turned t seat req) facts.is

    -- the request's Worker gets its isolate back
    pub turned_given : (j : ℕ) (w w' : WorkerState I) → position_from (is_worker (service_at (request_of req.0 now.requests))) 0 now.workers ≡ Some j
        → w ≡ get_or s.workers j w → w' ≡ given_back done.ended req.0 w
        → record s { workers = set s.workers j w'; requests = set s.requests i r'; running = running; made = made; freed = freed } ≡ turned now seat req
    turned_given j w w' place_now read_worker back =
        let row = done_row r r' waiting done r.pending facts.row in
        let place_of = subst (λ (t : State I). position_from (is_worker (service_at (request_of req.0 t.requests))) 0 t.workers ≡ Some j) (sym facts.is) place_now in
        let place : position_from (is_worker r.service) 0 s.workers ≡ Some j = subst (λ o. position_from (is_worker (service_at o)) 0 s.workers ≡ Some j) found_old place_of in
        let workers = ap (set s.workers j) (back ∙ ap (given_back done.ended req.0) read_worker) ∙ sym (change_at (is_worker r.service) (given_back done.ended req.0) s.workers j w place) in
        turned_tables s seat req r r' row.0 done waiting i (set s.workers j w') running made freed at_old facts.read same_number row.1 waits_old row.2 row.3 workers leaves
        ∙ ap (λ (t : State I). turned t seat req) facts.is
