-- The machine's state from a request's arrival to its turn.
use Rattle.std.proofs.Common.{◌≡◌, ◌≢◌, ℕ, ◌+◌, ◌<◌, ◌==◌, List, [], ◌∷◌, ◌++◌, length, refl, ap, sym, ◌∙◌, subst}
use Rattle.std.proofs.Common.{arith, Bool, true, false, not, if◌then◌else◌, Option, Some, None, length-append}
use Rattle.std.proofs.lemmas.Bool.Decides.{nat_tests}
use Rattle.std.specs.Prelude.{is_some, filter, nat_lt}
use Rattle.std.specs.List.{find, position_from}
use Rattle.std.specs.Coded.{Coded}
use Rattle.wd_base.specs.declared.config.Config.{Config}
use Rattle.wd_base.specs.declared.ids.LinkNo.{LinkNo}
use Rattle.wd_base.specs.declared.ids.Req.{Req}
use Rattle.wd_base.specs.declared.ids.Seat.{Seat}
use Rattle.wd_base.specs.declared.http.ReqData.{ReqData}
use Rattle.wd_base.specs.declared.objects.Origin.TheVariants.{Outside}
use Rattle.wd_base.specs.declared.objects.Wake.TheVariants.{Start}
use Rattle.wd_graph.specs.Names.{service_of, is_public}
use Rattle.wd_machine.specs.declared.journal.Entry.TheVariants.{Arrive, Begin, Turn}
use Rattle.wd_machine.specs.declared.journal.Head.TheVariants.{Whole}
use Rattle.wd_machine.specs.declared.state.Due.{Due}
use Rattle.wd_machine.specs.declared.state.Pending.{Pending}
use Rattle.wd_machine.specs.declared.state.RequestState.{RequestState}
use Rattle.wd_machine.specs.declared.state.Run.{Run}
use Rattle.wd_machine.specs.declared.state.State.{State}
use Rattle.wd_machine.specs.declared.state.Waiter.{Waiter}
use Rattle.wd_machine.specs.declared.state.WorkerState.{WorkerState}
use Rattle.wd_machine.specs.declared.turn.Out.{Out}
use Rattle.wd_machine.specs.Ends.{ends, whole_out, waits_in}
use Rattle.wd_machine.specs.Found.{is_request, is_worker, request_of, worker_of, worker_for, waiters_at}
use Rattle.wd_machine.specs.Found.{service_at as row_service, ArePlaces}
use Rattle.wd_machine.specs.Keyed.{change}
use Rattle.wd_machine.specs.Meaning.{Meaning, TurnGives}
use Rattle.wd_machine.specs.Rules.{broken_in, broken_begin, broken_turn, is_open}
use Rattle.wd_machine.specs.Same.{first_difference, is_same}
use Rattle.wd_machine.specs.Steps.{arrived, new_request, waits_too, turn_generation, turn_in, taken_by, runs_turn}
use Rattle.wd_machine.specs.Steps.{begun, begun_by, begun_in, begun_front, begun_with, has_turned, given_back, turned}
use Rattle.wd_machine.specs.Steps.{turned_by, turned_with, turn_out}
use Rattle.wd_machine.proofs.KeyedLemmas.{change_none}
use Rattle.wd_machine.proofs.SameLemmas.{is_same_exact}
use Rattle.wd_top.specs.Board.{AreEnded, has_ended, RowsFrom, AreIdle, Rests}

same_number : (n : ℕ) → (n == n) ≡ true
same_number n = grind (arith, nat_tests)

other_number : (n m : ℕ) → n ≢ m → (n == m) ≡ false
other_number n m ne = grind (arith, nat_tests)

-- a seat that a server may have
is_seat : (seat : Seat) → seat.0 < 64 → nat_lt seat.0 64 ≡ true
is_seat seat h = grind (arith, nat_tests)

-- LISTS WHOSE LAST ROW IS THE FIRST THAT PASSES

find_push : {X : Type 0} (p : X → Bool) (xs : List X) (x : X) → find p xs ≡ None → p x ≡ true
    → find p (xs ++ x ∷ []) ≡ Some x
find_push p [] x e h = rw h refl
find_push p (y ∷ ys) x e h = elim (p y) as (λ b. (if b then Some y else find p ys) ≡ None
    → (if b then Some y else find p (ys ++ x ∷ [])) ≡ Some x) [
      | true ↦ λ e. cc
      | false ↦ λ e. find_push p ys x e h
    ] e

place_push : {X : Type 0} (p : X → Bool) (xs : List X) (x : X) (n : ℕ) → find p xs ≡ None → p x ≡ true
    → position_from p n (xs ++ x ∷ []) ≡ Some (n + length xs)
place_push p [] x n e h = let z : n ≡ n + 0 = omega arith in rw h (ap Some z)
place_push p (y ∷ ys) x n e h = elim (p y) as (λ b. (if b then Some y else find p ys) ≡ None
    → (if b then Some n else position_from p (n + 1) (ys ++ x ∷ [])) ≡ Some (n + length (y ∷ ys))) [
      | true ↦ λ e. cc
      | false ↦ λ e. let z : (n + 1) + length ys ≡ n + length (y ∷ ys) = omega arith in place_push p ys x (n + 1) e h
          ∙ ap Some z
    ] e

change_push : {X : Type 0} (p : X → Bool) (f : X → X) (xs : List X) (x : X) → find p xs ≡ None → p x ≡ true
    → change p f (xs ++ x ∷ []) ≡ xs ++ f x ∷ []
change_push p f [] x e h = rw h refl
change_push p f (y ∷ ys) x e h = elim (p y) as (λ b. (if b then Some y else find p ys) ≡ None
    → (if b then f y ∷ (ys ++ x ∷ []) else y ∷ change p f (ys ++ x ∷ [])) ≡ y ∷ (ys ++ f x ∷ [])) [
      | true ↦ λ e. cc
      | false ↦ λ e. ap (λ zs. y ∷ zs) (change_push p f ys x e h)
    ] e

-- A CHANGE OF THE FIRST ROW THAT PASSES

find_passes : {X : Type 0} (p : X → Bool) (xs : List X) (x : X) → find p xs ≡ Some x → p x ≡ true
find_passes p [] x e = cc
find_passes p (y ∷ ys) x e = elim (p y) as (λ b. p y ≡ b → (if b then Some y else find p ys) ≡ Some x → p x ≡ true) [
  | true ↦ λ h e. let s : y ≡ x = cc in ap p (sym s) ∙ h
  | false ↦ λ h e. find_passes p ys x e
] refl e

find_changed : {X : Type 0} (p : X → Bool) (f : X → X) (xs : List X) (x : X) → p (f x) ≡ p x → find p xs ≡ Some x
    → find p (change p f xs) ≡ Some (f x)
find_changed p f [] x k e = cc
find_changed p f (y ∷ ys) x k e = elim (p y) as (λ b. p y ≡ b → (if b then Some y else find p ys) ≡ Some x
    → find p (if b then f y ∷ ys else y ∷ change p f ys) ≡ Some (f x)) [
      | true ↦ λ h e. let s : y ≡ x = cc in let passes : p (f y) ≡ true = ap (λ z. p (f z)) s ∙ k ∙ ap p (sym s)
          ∙ h in rw passes (ap (λ z. Some (f z)) s)
      | false ↦ λ h e. rw h (find_changed p f ys x k e)
    ] refl e

place_changed : {X : Type 0} (p : X → Bool) (f : X → X) (xs : List X) (n : ℕ) → ((x : X) → p (f x) ≡ p x)
    → position_from p n (change p f xs) ≡ position_from p n xs
place_changed p f [] n k = refl
place_changed p f (y ∷ ys) n k =
    elim (p y) as (λ b. p y ≡ b → position_from p n (if b then f y ∷ ys else y ∷ change p f ys)
    ≡ (if b then Some n else position_from p (n + 1) ys)) [
      | true ↦ λ h. let passes : p (f y) ≡ true = k y ∙ h in rw passes refl
      | false ↦ λ h. rw h (place_changed p f ys (n + 1) k)
    ] refl

pub found_place : {X : Type 0} (p : X → Bool) (xs : List X) (n i : ℕ) → position_from p n xs ≡ Some i
    → (x : X) × (find p xs ≡ Some x)
found_place p [] n i e = cc
found_place p (y ∷ ys) n i e = elim (p y) as (λ b. (if b then Some n else position_from p (n + 1) ys) ≡ Some i → (x : _)
    × ((if b then Some y else find p ys) ≡ Some x)) [
      | true ↦ λ e. (y, refl)
      | false ↦ λ e. found_place p ys (n + 1) i e
    ] e

-- REQUESTS AND WORKERS

request_none : (n q : ℕ) (rows : List RequestState) → RowsFrom n rows → n + length rows < q → find (is_request q) rows
    ≡ None
request_none n q [] x h = refl
request_none n q (r ∷ rs) (e, x) h =
    rw (other_number r.req.0 q (omega arith)) (request_none (n + 1) q rs x (omega arith))

rows_push : (n : ℕ) (rows : List RequestState) (r : RequestState) → RowsFrom n rows → r.req.0 ≡ n + length rows + 1
    → RowsFrom n (rows ++ r ∷ [])
rows_push n [] r x e = (omega (arith, e), tt)
rows_push n (y ∷ ys) r (h, x) e = (h, rows_push (n + 1) ys r x (omega (arith, e)))

idle_found : {I : Type 0} (p : WorkerState I → Bool) (ws : List (WorkerState I)) (w : WorkerState I) → AreIdle ws
    → find p ws ≡ Some w → (w.holder ≡ None) × (w.waiters ≡ [])
idle_found p [] w a e = cc
idle_found p (y ∷ ys) w (h, k, a) e = elim (p y) as (λ b. (if b then Some y else find p ys) ≡ Some w → (w.holder ≡ None)
    × (w.waiters ≡ [])) [
      | true ↦ λ e. let s : y ≡ w = cc in (ap (λ v. v.holder) (sym s) ∙ h, ap (λ v. v.waiters) (sym s) ∙ k)
      | false ↦ λ e. idle_found p ys w a e
    ] e

idle_changed : {I : Type 0} (p : WorkerState I → Bool) (f : WorkerState I → WorkerState I) (ws : List (WorkerState I))
    → ((w : WorkerState I) → ((f w).holder ≡ None) × ((f w).waiters ≡ [])) → AreIdle ws → AreIdle (change p f ws)
idle_changed p f [] k a = tt
idle_changed p f (y ∷ ys) k (h, j, a) = elim (p y) as (λ b. AreIdle (if b then f y ∷ ys else y ∷ change p f ys)) [
  | true ↦ ((k y).0, (k y).1, a)
  | false ↦ (h, j, idle_changed p f ys k a)
]

change_twice : {X : Type 0} (p : X → Bool) (f g : X → X) (xs : List X) → ((x : X) → p (f x) ≡ p x)
    → change p g (change p f xs) ≡ change p (λ x. g (f x)) xs
change_twice p f g [] k = refl
change_twice p f g (y ∷ ys) k = elim (p y) as (λ b. p y ≡ b → change p g (if b then f y ∷ ys else y ∷ change p f ys)
    ≡ (if b then g (f y) ∷ ys else y ∷ change p (λ x. g (f x)) ys)) [
      | true ↦ λ h. let passes : p (f y) ≡ true = k y ∙ h in rw passes refl
      | false ↦ λ h. rw h (ap (λ zs. y ∷ zs) (change_twice p f g ys k))
    ] refl

-- ARRIVAL

abbrev pub new_row : Seat → Req → List ℕ → LinkNo → RequestState
new_row seat q service link = new_request seat q service (Outside link) 1000

abbrev pub after_arrival : {I : Type 0} → State I → Seat → Req → List ℕ → LinkNo → ReqData → State I
after_arrival s seat q service link request = arrived s seat q service (Outside link) 1000 request

pub arrive_allowed : {I : Type 0} (world : Config) (s : State I) (n : ℕ) (seat : Seat) (q : Req) (service : List ℕ)
    (link : LinkNo)
    (request : ReqData) → Rests s n → q.0 ≡ n + 1 → is_some (service_of service world.services) ≡ true
    → is_public world service ≡ true → seat.0 < 64
    → broken_in true (is_open world Whole) world s (Arrive seat q service (Outside link) 1000 request) ≡ None
arrive_allowed world s n seat q service link request r e known open_ below =
    let none : request_of q.0 s.requests ≡ None = request_none 0 q.0 s.requests r.rows (omega (arith, r.count, e)) in
    let positive : (q.0 == 0) ≡ false = other_number q.0 0 (λ z. absurd (omega (arith, z, e))) in
    rw (is_seat seat below, none, positive, known, open_) refl

none_of : {I : Type 0} (s : State I) (n : ℕ) (q : Req) → Rests s n → q.0 ≡ n + 1 → find (is_request q.0) s.requests
    ≡ None
none_of s n q r e = request_none 0 q.0 s.requests r.rows (omega (arith, r.count, e))

pub arrived_row : {I : Type 0} (s : State I) (n : ℕ) (q : Req) (r : RequestState) → Rests s n → q.0 ≡ n + 1 → r.req ≡ q
    → request_of q.0 (s.requests ++ r ∷ []) ≡ Some r
arrived_row s n q r h e same = find_push (is_request q.0) s.requests r (none_of s n q h e) (ap (λ x. x.0 == q.0) same
    ∙ same_number q.0)

pub arrived_place : {I : Type 0} (s : State I) (n : ℕ) (q : Req) (r : RequestState) → Rests s n → q.0 ≡ n + 1
    → r.req ≡ q → position_from (is_request q.0) 0 (s.requests ++ r ∷ []) ≡ Some n
arrived_place s n q r h e same = let z : 0 + length s.requests ≡ n = omega (arith, h.count) in
    place_push (is_request q.0) s.requests r 0 (none_of s n q h e) (ap (λ x. x.0 == q.0) same ∙ same_number q.0)
    ∙ ap Some z

pub changed_row : {I : Type 0} (s : State I) (n : ℕ) (q : Req) (r : RequestState) (f : RequestState → RequestState)
    → Rests s n → q.0 ≡ n + 1 → r.req ≡ q → change (is_request q.0) f (s.requests ++ r ∷ []) ≡ s.requests ++ f r ∷ []
changed_row s n q r f h e same = change_push (is_request q.0) f s.requests r (none_of s n q h e)
    (ap (λ x. x.0 == q.0) same ∙ same_number q.0)

-- the request and its Worker stand there, after any change that keeps the Workers' names
pub places_hold : {I : Type 0} (s : State I) (n : ℕ) (q : Req) (service : List ℕ) (r : RequestState)
    (ws : List (WorkerState I)) (rows : List RequestState) (place : ℕ) → Rests s n → q.0 ≡ n + 1 → r.req ≡ q
    → r.service ≡ service → rows ≡ s.requests ++ r ∷ []
    → position_from (is_worker service) 0 ws ≡ Some place
    → ArePlaces ws rows (record { req = q; row = Some n; worker = Some place })
places_hold s n q service r ws rows place h e same at is found = record {
  row = ap (position_from (is_request q.0) 0) is ∙ arrived_place s n q r h e same;
  worker = ap (λ o. position_from (is_worker (row_service o)) 0 ws) (ap (request_of q.0) is
      ∙ arrived_row s n q r h e same) ∙ ap (λ t. position_from (is_worker t) 0 ws) at ∙ found;
}

-- a Worker that is not there leaves the state at rest
pub rests_arrived : {I : Type 0} (s : State I) (n : ℕ) (seat : Seat) (q : Req) (service : List ℕ) (link : LinkNo)
    (request : ReqData)
    → Rests s n → q.0 ≡ n + 1 → position_from (is_worker service) 0 s.workers ≡ None
    → Rests (after_arrival s seat q service link request) q.0
rests_arrived s n seat q service link request h e none = record {
  rows = rows_push 0 s.requests (new_row seat q service link) h.rows (omega (arith, e, h.count));
  count = length-append s.requests _ ∙ ap (λ k. k + 1) h.count ∙ sym e;
  running = h.running;
  due = h.due;
  idle = subst AreIdle (sym (change_none (is_worker service) _ s.workers none)) h.idle;
}

-- BEGIN

begin_ok : {I : Type 0} (row : Option RequestState) (worker : Option (WorkerState I)) (running : List Run)
    (due : List Due) (seat : Seat) (q : Req) (r : RequestState) (w : WorkerState I) (x : Waiter) → row ≡ Some r
    → r.ended ≡ false → r.seat.0 ≡ seat.0 → worker ≡ Some w → w.waiters ≡ x ∷ [] → x.req ≡ q → w.holder ≡ None
    → running ≡ [] → due ≡ []
    → broken_begin row worker running due seat.0 q.0 ≡ None
begin_ok row worker running due seat q r w x e live own f waits same free none nothing =
    let self : (q.0 == q.0) ≡ true = same_number q.0 in
    let here : (seat.0 == seat.0) ≡ true = same_number seat.0 in
    rw (e, live, own, here, f, waits, same, self, free, none, nothing) refl

-- the front waiter of the Worker is the request's
pub begin_allowed : {I : Type 0} (world : Config) (s : State I) (n : ℕ) (seat : Seat) (q : Req) (service : List ℕ)
    (link : LinkNo)
    (request : ReqData) (w : WorkerState I) → Rests s n → q.0 ≡ n + 1 → worker_of service s.workers ≡ Some w
    → seat.0 < 64 → broken_in true (is_open world Whole) world (after_arrival s seat q service link request)
    (Begin seat q) ≡ None
begin_allowed {I = I} world s n seat q service link request w h e found below =
    let row : request_of q.0 (s.requests ++ new_row seat q service link ∷ []) ≡ Some (new_row seat q service link) =
    arrived_row s n q (new_row seat q service link) h e refl in
    let x : Waiter = record { req = q; wake = Start request } in
    let free = idle_found (is_worker service) s.workers w h.idle found in
    let worker : worker_of service (change (is_worker service) (waits_too x) s.workers) ≡ Some (waits_too x w) =
    find_changed (is_worker service) (waits_too x) s.workers w refl found in
    rw (is_seat seat below)
    (begin_ok (request_of q.0 (s.requests ++ new_row seat q service link ∷ []))
    (worker_for (request_of q.0 (s.requests ++ new_row seat q service link ∷ []))
    (change (is_worker service) (waits_too x) s.workers)) s.running s.due seat q (new_row seat q service link)
    (waits_too x w)
    x
    row refl refl (ap (λ o. worker_for o (change (is_worker service) (waits_too x) s.workers)) row
    ∙ worker) (ap (λ ws. ws ++ x ∷ []) free.1) refl free.0 h.running h.due)

-- what the isolate's turn gives
abbrev pub turn_of : {I : Type 0} → Meaning I → Seat → Req → List ℕ → LinkNo → ReqData → WorkerState I → TurnGives I
turn_of m seat q service link request w =
    m.turn w.isolate (turn_in (turn_generation (new_row seat q service link) w) (new_row seat q service link)
    (Start request))

-- the state while the turn runs
abbrev pub while_turn : {I : Type 0} → Meaning I → State I → Seat → Req → List ℕ → LinkNo → ReqData → WorkerState I
    → State I
while_turn m s seat q service link request w =
    begun_with (after_arrival s seat q service link request) seat (new_row seat q service link)
    (turn_generation (new_row seat q service link) w) (turn_of m seat q service link request w) []

abbrev pub turning_row : {I : Type 0} → Meaning I → Seat → Req → List ℕ → LinkNo → ReqData → WorkerState I
    → RequestState
turning_row m seat q service link request w =
    runs_turn (turn_generation (new_row seat q service link) w) (turn_of m seat q service link request w)
    (new_row seat q service link)

pub begins : {I : Type 0} (m : Meaning I) (s : State I) (n : ℕ) (seat : Seat) (q : Req) (service : List ℕ)
    (link : LinkNo)
    (request : ReqData) (w : WorkerState I) → Rests s n → q.0 ≡ n + 1 → worker_of service s.workers ≡ Some w
    → begun m (after_arrival s seat q service link request) seat q ≡ while_turn m s seat q service link request w
begins m s n seat q service link request w h e found =
    let s1 = after_arrival s seat q service link request in
    let x : Waiter = record { req = q; wake = Start request } in
    let free = idle_found (is_worker service) s.workers w h.idle found in
    ap (begun_by m s1 seat) (arrived_row s n q (new_row seat q service link) h e refl)
    ∙ ap (begun_in m s1 seat (new_row seat q service link))
    (find_changed (is_worker service) (waits_too x) s.workers w refl found)
    ∙ ap (begun_front m s1 seat (new_row seat q service link) (waits_too x w)) (ap (λ ws. ws ++ x ∷ []) free.1)

-- TURN

turning_rows : {I : Type 0} (m : Meaning I) (s : State I) (n : ℕ) (seat : Seat) (q : Req) (service : List ℕ)
    (link : LinkNo)
    (request : ReqData) (w : WorkerState I) → Rests s n → q.0 ≡ n + 1
    → (while_turn m s seat q service link request w).requests ≡ s.requests
    ++ turning_row m seat q service link request w ∷ []
turning_rows m s n seat q service link request w h e =
    changed_row s n q (new_row seat q service link)
    (runs_turn (turn_generation (new_row seat q service link) w) (turn_of m seat q service link request w)) h e refl

turning_worker : {I : Type 0} (m : Meaning I) (s : State I) (seat : Seat) (q : Req) (service : List ℕ) (link : LinkNo)
    (request : ReqData) (w : WorkerState I) → worker_of service s.workers ≡ Some w
    → worker_of service (while_turn m s seat q service link request w).workers
    ≡ Some (taken_by q (turn_of m seat q service link request w).isolate []
    (waits_too (record { req = q; wake = Start request }) w))
turning_worker m s seat q service link request w found =
    let x : Waiter = record { req = q; wake = Start request } in
    find_changed (is_worker service) (taken_by q (turn_of m seat q service link request w).isolate [])
    (change (is_worker service) (waits_too x) s.workers) (waits_too x w) refl
    (find_changed (is_worker service) (waits_too x) s.workers w refl found)

-- the request and its Worker stand where they stood
pub arrival_places : {I : Type 0} (s : State I) (n : ℕ) (seat : Seat) (q : Req) (service : List ℕ) (link : LinkNo)
    (request : ReqData)
    (place : ℕ) → Rests s n → q.0 ≡ n + 1 → position_from (is_worker service) 0 s.workers ≡ Some place
    → ArePlaces (after_arrival s seat q service link request).workers
    (after_arrival s seat q service link request).requests
    (record { req = q; row = Some n; worker = Some place })
arrival_places s n seat q service link request place h e found =
    let x : Waiter = record { req = q; wake = Start request } in
    places_hold s n q service (new_row seat q service link) (change (is_worker service) (waits_too x) s.workers)
    (s.requests ++ new_row seat q service link ∷ []) place h e refl refl refl
    (place_changed (is_worker service) (waits_too x) s.workers 0 (λ y. refl) ∙ found)

pub turn_places : {I : Type 0} (m : Meaning I) (s : State I) (n : ℕ) (seat : Seat) (q : Req) (service : List ℕ)
    (link : LinkNo)
    (request : ReqData) (w : WorkerState I) (place : ℕ) → Rests s n → q.0 ≡ n + 1
    → position_from (is_worker service) 0 s.workers ≡ Some place
    → ArePlaces (while_turn m s seat q service link request w).workers
    (while_turn m s seat q service link request w).requests
    (record { req = q; row = Some n; worker = Some place })
turn_places m s n seat q service link request w place h e found =
    let x : Waiter = record { req = q; wake = Start request } in
    places_hold s n q service (turning_row m seat q service link request w)
    (while_turn m s seat q service link request w).workers
    (while_turn m s seat q service link request w).requests place h e refl refl
    (turning_rows m s n seat q service link request w h e)
    (place_changed (is_worker service) (taken_by q (turn_of m seat q service link request w).isolate [])
    (change (is_worker service) (waits_too x) s.workers) 0 (λ y. refl)
    ∙ place_changed (is_worker service) (waits_too x) s.workers 0 (λ y. refl) ∙ found)

-- the `Out` of the turn's entry
abbrev pub out_of : {I : Type 0} → Meaning I → Seat → Req → List ℕ → LinkNo → ReqData → WorkerState I → Out
out_of m seat q service link request w =
    whole_out (turning_row m seat q service link request w) false (turn_of m seat q service link request w).out

pub turn_out_is : {I : Type 0} (m : Meaning I) (s : State I) (n : ℕ) (seat : Seat) (q : Req) (service : List ℕ)
    (link : LinkNo)
    (request : ReqData) (w : WorkerState I) → Rests s n → q.0 ≡ n + 1 → worker_of service s.workers ≡ Some w
    → turn_out (request_of q.0 (while_turn m s seat q service link request w).requests)
    (worker_for (request_of q.0 (while_turn m s seat q service link request w).requests)
    (while_turn m s seat q service link request w).workers) ≡ Some (out_of m seat q service link request w)
turn_out_is m s n seat q service link request w h e found =
    let s2 = while_turn m s seat q service link request w in
    let row : request_of q.0 s2.requests ≡ Some (turning_row m seat q service link request w) =
    ap (request_of q.0) (turning_rows m s n seat q service link request w h e)
    ∙ arrived_row s n q (turning_row m seat q service link request w) h e refl in
    ap (λ o. turn_out o (worker_for o s2.workers)) row
    ∙ ap (λ v. turn_out (Some (turning_row m seat q service link request w)) v)
    (turning_worker m s seat q service link request w found)

same_self : {A : Type 0} (c : Coded A) (a : A) → is_same c a a ≡ true
same_self c a = sym (is_same_exact c a a true (λ _. refl, λ _. refl))

pub no_difference : (out : Out) → first_difference out out ≡ None
no_difference out = rw (same_number out.waits, same_number out.steps)
    (rw same_self (rw same_self
    (rw same_self (rw same_self
    (rw same_self (rw same_self
    (rw same_self (rw same_self (rw same_self (rw same_self (rw same_self (rw same_self (refl)))))))))))))

turn_ok : {I : Type 0} (row : Option RequestState) (worker : Option (WorkerState I)) (running : List Run)
    (seat : Seat) (q : Req) (r : RequestState) (p : Pending) (w : WorkerState I) (out : Out) → row ≡ Some r
    → r.pending ≡ Some p
    → worker ≡ Some w → w.waiters ≡ [] → running ≡ record { seat = seat; req = q } ∷ []
    → out ≡ whole_out r false p.out
    → broken_turn row worker running seat.0 q.0 out ≡ None
turn_ok row worker running seat q r p w out e pending f waits runs is =
    let here : (seat.0 == seat.0) ≡ true = same_number seat.0 in
    let self : (q.0 == q.0) ≡ true = same_number q.0 in
    let nothing : first_difference (whole_out r false p.out) (whole_out r false p.out) ≡ None =
    no_difference (whole_out r false p.out) in
    rw (e, f, waits, runs, here, self, pending, is, nothing) refl

pub turn_allowed : {I : Type 0} (m : Meaning I) (world : Config) (s : State I) (n : ℕ) (seat : Seat) (q : Req)
    (service : List ℕ)
    (link : LinkNo) (request : ReqData) (w : WorkerState I) → Rests s n → q.0 ≡ n + 1 → worker_of service s.workers
    ≡ Some w → seat.0 < 64
    → broken_in true (is_open world Whole) world (while_turn m s seat q service link request w)
    (Turn seat q (out_of m seat q service link request w)) ≡ None
turn_allowed m world s n seat q service link request w h e found below =
    let s2 = while_turn m s seat q service link request w in
    let r = turning_row m seat q service link request w in
    let gives = turn_of m seat q service link request w in
    let row : request_of q.0 s2.requests ≡ Some r =
    ap (request_of q.0) (turning_rows m s n seat q service link request w h e) ∙ arrived_row s n q r h e refl in
    rw (is_seat seat below)
    (turn_ok (request_of q.0 s2.requests) (worker_for (request_of q.0 s2.requests) s2.workers) s2.running seat q r
    (record { objects = gives.objects; out = gives.out })
    (taken_by q gives.isolate [] (waits_too (record { req = q; wake = Start request }) w))
    (out_of m seat q service link request w)
    row refl (ap (λ o. worker_for o s2.workers) row ∙ turning_worker m s seat q service link request w found) refl
    (ap (λ rs. rs ++ record { seat = seat; req = q } ∷ []) h.running) refl)

-- the request's row after its turn
abbrev pub turned_row : {I : Type 0} → Meaning I → State I → Seat → Req → List ℕ → LinkNo → ReqData → WorkerState I
    → RequestState
turned_row m s seat q service link request w =
    has_turned (waits_in q.0 (waiters_at (worker_of service (while_turn m s seat q service link request w).workers)))
    (record {
      objects = (turn_of m seat q service link request w).objects;
      out = (turn_of m seat q service link request w).out;
    })
    (turning_row m seat q service link request w)

-- the turn ends
turned_is : {I : Type 0} (m : Meaning I) (s : State I) (n : ℕ) (seat : Seat) (q : Req) (service : List ℕ)
    (link : LinkNo)
    (request : ReqData) (w : WorkerState I) → Rests s n → q.0 ≡ n + 1
    → turned (while_turn m s seat q service link request w) seat q
    ≡ turned_with (while_turn m s seat q service link request w) seat (turning_row m seat q service link request w)
    (waits_in q.0 (waiters_at (worker_of service (while_turn m s seat q service link request w).workers)))
    (record {
      objects = (turn_of m seat q service link request w).objects;
      out = (turn_of m seat q service link request w).out;
    })
turned_is m s n seat q service link request w h e =
    let s2 = while_turn m s seat q service link request w in
    ap (turned_by s2 seat) (ap (request_of q.0) (turning_rows m s n seat q service link request w h e)
    ∙ arrived_row s n q (turning_row m seat q service link request w) h e refl)

-- the rows after it
turned_rows : {I : Type 0} (m : Meaning I) (s : State I) (n : ℕ) (seat : Seat) (q : Req) (service : List ℕ)
    (link : LinkNo)
    (request : ReqData) (w : WorkerState I) → Rests s n → q.0 ≡ n + 1
    → (turned (while_turn m s seat q service link request w) seat q).requests ≡ s.requests
    ++ turned_row m s seat q service link request w ∷ []
turned_rows m s n seat q service link request w h e =
    let s2 = while_turn m s seat q service link request w in
    let r = turning_row m seat q service link request w in
    let waiting = waits_in q.0 (waiters_at (worker_of service s2.workers)) in
    let p : Pending = record {
      objects = (turn_of m seat q service link request w).objects;
      out = (turn_of m seat q service link request w).out;
    } in
    ap (λ t. t.requests) (turned_is m s n seat q service link request w h e)
    ∙ ap (change (is_request q.0) (has_turned waiting p)) (turning_rows m s n seat q service link request w h e)
    ∙ changed_row s n q r (has_turned waiting p) h e refl

-- the request and its Worker stand where they stood
pub turned_places : {I : Type 0} (m : Meaning I) (s : State I) (n : ℕ) (seat : Seat) (q : Req) (service : List ℕ)
    (link : LinkNo)
    (request : ReqData) (w : WorkerState I) (place : ℕ) → Rests s n → q.0 ≡ n + 1
    → position_from (is_worker service) 0 s.workers ≡ Some place
    → ArePlaces (turned (while_turn m s seat q service link request w) seat q).workers
    (turned (while_turn m s seat q service link request w) seat q).requests
    (record { req = q; row = Some n; worker = Some place })
turned_places m s n seat q service link request w place h e found =
    let s2 = while_turn m s seat q service link request w in
    let x : Waiter = record { req = q; wake = Start request } in
    let r = turning_row m seat q service link request w in
    let waiting = waits_in q.0 (waiters_at (worker_of service s2.workers)) in
    let p : Pending = record {
      objects = (turn_of m seat q service link request w).objects;
      out = (turn_of m seat q service link request w).out;
    } in
    places_hold s n q service (turned_row m s seat q service link request w) (turned s2 seat q).workers
    (turned s2 seat q).requests place h e refl refl (turned_rows m s n seat q service link request w h e)
    (ap (λ t. position_from (is_worker service) 0 t.workers) (turned_is m s n seat q service link request w h e)
    ∙ place_changed (is_worker service) (given_back (ends r waiting p.out) q.0) s2.workers 0 (λ y. refl)
    ∙ place_changed (is_worker service) (taken_by q (turn_of m seat q service link request w).isolate [])
    (change (is_worker service) (waits_too x) s.workers) 0 (λ y. refl)
    ∙ place_changed (is_worker service) (waits_too x) s.workers 0 (λ y. refl) ∙ found)

ended_push : (rs : List RequestState) (r : RequestState) → AreEnded rs → r.ended ≡ true → AreEnded (rs ++ r ∷ [])
ended_push [] r all e = (e, tt)
ended_push (x ∷ rs) r all e = (all.0, ended_push rs r all.1 e)

-- where the request has ended, and all before it, each has
pub turned_ended : {I : Type 0} (m : Meaning I) (s : State I) (n : ℕ) (seat : Seat) (q : Req) (service : List ℕ)
    (link : LinkNo)
    (request : ReqData) (w : WorkerState I) → Rests s n → q.0 ≡ n + 1
    → has_ended (request_of q.0 (turned (while_turn m s seat q service link request w) seat q).requests) ≡ true
    → AreEnded s.requests → AreEnded (turned (while_turn m s seat q service link request w) seat q).requests
turned_ended m s n seat q service link request w h e over all =
    let row = turned_row m s seat q service link request w in
    let rows = turned_rows m s n seat q service link request w h e in
    let here : row.ended ≡ true = sym (ap has_ended (ap (request_of q.0) rows ∙ arrived_row s n q row h e refl))
    ∙ over in
    subst AreEnded (sym rows) (ended_push s.requests row all here)

-- after the turn the state is at rest
pub rests_turned : {I : Type 0} (m : Meaning I) (s : State I) (n : ℕ) (seat : Seat) (q : Req) (service : List ℕ)
    (link : LinkNo)
    (request : ReqData) (w : WorkerState I) → Rests s n → q.0 ≡ n + 1 → worker_of service s.workers ≡ Some w
    → Rests (turned (while_turn m s seat q service link request w) seat q) q.0
rests_turned {I = I} m s n seat q service link request w h e found = subst (λ t. Rests t q.0) (sym is) rests
  where
    s2 : State I
    s2 = while_turn m s seat q service link request w

    r : RequestState
    r = turning_row m seat q service link request w

    p : Pending
    p = record {
      objects = (turn_of m seat q service link request w).objects;
      out = (turn_of m seat q service link request w).out;
    }

    waiting : Bool
    waiting = waits_in q.0 (waiters_at (worker_of service s2.workers))

    is : turned s2 seat q ≡ turned_with s2 seat r waiting p
    is = ap (turned_by s2 seat) (ap (request_of q.0) (turning_rows m s n seat q service link request w h e)
        ∙ arrived_row s n q r h e refl)

    rows : (turned_with s2 seat r waiting p).requests ≡ s.requests ++ has_turned waiting p r ∷ []
    rows = ap (change (is_request q.0) (has_turned waiting p)) (turning_rows m s n seat q service link request w h e)
        ∙ changed_row s n q r (has_turned waiting p) h e refl

    back : (f : WorkerState I)
        → ((given_back (ends r waiting p.out) q.0
        (taken_by q (turn_of m seat q service link request w).isolate []
        (waits_too (record { req = q; wake = Start request }) f))).waiters ≡ [])
    back f = elim (ends r waiting p.out) as
        (λ b. (given_back b q.0 (taken_by q (turn_of m seat q service link request w).isolate []
        (waits_too (record { req = q; wake = Start request }) f))).waiters ≡ []) [ true ↦ refl | false ↦ refl ]

    alone : filter (λ (x : Run). not (x.seat.0 == seat.0)) (record { seat = seat; req = q } ∷ []) ≡ []
    alone = rw (same_number seat.0) refl

    rests : Rests (turned_with s2 seat r waiting p) q.0
    rests = record {
      rows = subst (λ x. RowsFrom 0 x) (sym rows)
          (rows_push 0 s.requests (has_turned waiting p r) h.rows (omega (arith, e, h.count)));
      count = ap length rows ∙ length-append s.requests _ ∙ ap (λ k. k + 1) h.count ∙ sym e;
      running = ap (λ rs. filter (λ (x : Run). not (x.seat.0 == seat.0)) (rs ++ record { seat = seat; req = q } ∷ []))
          h.running
          ∙ alone;
      due = h.due;
      idle = subst AreIdle (sym (ap (change (is_worker service) (given_back (ends r waiting p.out) q.0))
          (change_twice (is_worker service) (waits_too (record { req = q; wake = Start request }))
          (taken_by q (turn_of m seat q service link request w).isolate []) s.workers (λ y. refl))
          ∙ change_twice (is_worker service)
          (λ y. taken_by q (turn_of m seat q service link request w).isolate []
          (waits_too (record { req = q; wake = Start request }) y)) (given_back (ends r waiting p.out) q.0)
          s.workers (λ y. refl)))
          (idle_changed (is_worker service) _ s.workers (λ y. (refl, back y)) h.idle);
    }
