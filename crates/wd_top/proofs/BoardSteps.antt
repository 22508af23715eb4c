-- The journal with a request's entries behind it.
use Rattle.std.specs.Prelude.{nat_eq}
use Rattle.std.proofs.Common.{OnOk, OnErr, IfOk, ◌≡◌, ℕ, zero, suc, ◌+◌, ◌<◌, List, [], ◌∷◌, ◌++◌, length, map}
use Rattle.std.proofs.Common.{flat_map, get_or, refl, ap, sym, ◌∙◌, subst, arith, Bool, true, false, not, ◌&&◌}
use Rattle.std.proofs.Common.{if◌then◌else◌, Option, Some, None, inl, inr, Result, Ok, Err, cond}
use Rattle.std.proofs.lemmas.Bool.{false≢true}
use Rattle.std.specs.Prelude.{is_some, is_none, IsErr}
use Rattle.std.specs.List.{find, list_any, position_from}
use Rattle.wd_base.specs.declared.config.Config.{Config}
use Rattle.wd_base.specs.declared.config.Service.{Service}
use Rattle.wd_base.specs.declared.config.Socket.{Socket}
use Rattle.wd_base.specs.declared.config.WorkerDef.{WorkerDef}
use Rattle.wd_base.specs.declared.ids.LinkNo.{LinkNo}
use Rattle.wd_base.specs.declared.ids.NoMemory.{NoMemory}
use Rattle.wd_base.specs.declared.ids.Req.{Req}
use Rattle.wd_base.specs.declared.ids.Seat.{Seat}
use Rattle.wd_base.specs.declared.ids.SockNo.{SockNo}
use Rattle.wd_base.specs.declared.http.Reply.{Reply}
use Rattle.wd_base.specs.declared.http.ReqData.{ReqData}
use Rattle.wd_base.specs.declared.objects.Origin.TheVariants.{Outside}
use Rattle.wd_graph.specs.Links.{is_unknown, first_unknown, named_at, named_by}
use Rattle.wd_graph.specs.Names.{worker_in, service_of, has_name, is_named, same_name, is_public}
use Rattle.wd_machine.specs.declared.journal.Entry.{Entry}
use Rattle.wd_machine.specs.declared.journal.Entry.TheVariants.{Arrive, Begin, Turn}
use Rattle.wd_machine.specs.declared.journal.Head.TheVariants.{Whole}
use Rattle.wd_machine.specs.declared.state.State.{State}
use Rattle.wd_machine.specs.declared.state.WorkerState.{WorkerState}
use Rattle.wd_machine.specs.declared.turn.Out.{Out}
use Rattle.wd_machine.specs.Found.{is_worker, worker_of, request_of, worker_for, ArePlaces}
use Rattle.wd_machine.specs.Meaning.{Meaning}
use Rattle.wd_machine.specs.Rules.{broken_in, is_open}
use Rattle.wd_machine.specs.First.{first_state, first_isolate, started_worker, first_worker, workers_among, add}
use Rattle.wd_machine.specs.Runs.{legal_from, after, after_from}
use Rattle.wd_machine.specs.Steps.{step, begun, turned, turn_out}
use Rattle.wd_top.specs.declared.board.Answer.{Answer}
use Rattle.wd_top.specs.Board.{IsFinished, AreEnded, AreIdle, IsOver, has_ended, reply_in, IsRun, Rests, Stands, Ends}
use Rattle.wd_machine.specs.Entries.{seat_of}
use Rattle.wd_top.specs.Talk.{talk, asked_row, add_row, with_reply, with_reply_if, IsNumbered, arrival_count, IsOfSeat}
use Rattle.wd_top.specs.Session.{service_at, no_socket}
use Rattle.wd_top.specs.Steps.{Others, Answers}
use Rattle.wd_top.proofs.TalkSteps.{HasNext, talk_push, count_push, numbered_push, seat_push, below, reply_none}
use Rattle.wd_top.proofs.TalkSteps.{reply_last, nat_self, nat_other}
use Rattle.wd_top.proofs.MachineSteps.{after_arrival, rests_arrived, while_turn, out_of, arrive_allowed, begin_allowed}
use Rattle.wd_top.proofs.MachineSteps.{turn_allowed, rests_turned, begins, turn_out_is, found_place, turn_places}
use Rattle.wd_top.proofs.MachineSteps.{turned_places, turned_ended}

-- ONE ENTRY MORE

after_from_push : {I : Type 0} (m : Meaning I) (s : State I) (es : List Entry) (e : Entry)
    → after_from m s (es ++ e ∷ []) ≡ step m (after_from m s es) e
after_from_push m s [] e = refl
after_from_push m s (x ∷ es) e = after_from_push m (step m s x) es e

both : (a b : Bool) → (a && b) ≡ true → (a ≡ true) × (b ≡ true)
both true b e = (refl, e)
both false b e = absurd (false≢true e)

legal_from_push : {I : Type 0} (m : Meaning I) (opens : List ℕ → Bool) (world : Config) (s : State I) (es : List Entry)
    (e : Entry) → legal_from m true opens world s es ≡ true → broken_in true opens world (after_from m s es) e ≡ None
    → legal_from m true opens world s (es ++ e ∷ []) ≡ true
legal_from_push m opens world s [] e l b = rw b refl
legal_from_push m opens world s (x ∷ es) e l b =
    let h = both (is_none (broken_in true opens world s x)) (legal_from m true opens world (step m s x) es) l in
    rw h.0 (legal_from_push m opens world (step m s x) es e h.1 b)

-- an entry of the seat that is allowed goes behind the others
run_push : {I : Type 0} (seat : Seat) (m : Meaning I) (world : Config) (es : List Entry) (e : Entry) (s : State I)
    → IsRun seat m world es
    → s ≡ after m world es → broken_in true (is_open world Whole) world s e ≡ None → HasNext (arrival_count es) e
    → (seat_of e).0 ≡ seat.0 → IsRun seat m world (es ++ e ∷ [])
run_push seat m world es e s r is b next here = record {
  allowed = legal_from_push m (is_open world Whole) world (first_state m world) es e r.allowed
      (subst (λ x. broken_in true (is_open world Whole) world x e ≡ None) is b);
  numbered = numbered_push es e r.numbered next;
  of_seat = seat_push seat.0 es e r.of_seat here;
}

-- THE ENTRIES OF A REQUEST

abbrev pub arrive_entry : Seat → Req → List ℕ → LinkNo → ReqData → Entry
arrive_entry seat q service link request = Arrive seat q service (Outside link) 1000 request

-- the seat is itself
here_is : (seat : Seat) (b : Bool) → (nat_eq seat.0 seat.0 && b) ≡ b
here_is seat b = rw (nat_self seat.0) refl

arrived_others : (seat : Seat) (q : Req) (service : List ℕ) (link : LinkNo) (request : ReqData) (j : List Entry)
    → Others seat link j (j ++ arrive_entry seat q service link request ∷ [])
arrived_others seat q service link request j n ne = talk_push seat.0 n j (arrive_entry seat q service link request)
    ∙ ap (λ b. cond b (add_row (asked_row q service request) (talk seat.0 n j)) (talk seat.0 n j))
    (here_is seat (nat_eq link.0 n) ∙ nat_other link.0 n (λ e. ne (sym e)))

arrived_adds : (seat : Seat) (q : Req) (service : List ℕ) (link : LinkNo) (request : ReqData) (j : List Entry)
    → talk seat.0 link.0 (j ++ arrive_entry seat q service link request ∷ [])
    ≡ add_row (asked_row q service request) (talk seat.0 link.0 j)
arrived_adds seat q service link request j = talk_push seat.0 link.0 j (arrive_entry seat q service link request)
    ∙ ap (λ b. cond b (add_row (asked_row q service request) (talk seat.0 link.0 j)) (talk seat.0 link.0 j))
    (here_is seat (nat_eq link.0 link.0) ∙ nat_self link.0)

-- the request stands, without a reply
pub asks : (x : NoMemory) (seat : Seat) (q : Req) (service : List ℕ) (link : LinkNo) (request : ReqData)
    (j : List Entry)
    → Answers seat link service request j (j ++ arrive_entry seat q service link request ∷ []) (Err x)
asks x seat q service link request j =
    (arrived_others seat q service link request j, inr (q.0, arrived_adds seat q service link request j))

begun_same : (n : ℕ) (seat : Seat) (q : Req) (j : List Entry) → talk seat.0 n (j ++ Begin seat q ∷ []) ≡ talk seat.0 n j
begun_same n seat q j = talk_push seat.0 n j (Begin seat q)

abbrev pub two_entries : List Entry → Seat → Req → List ℕ → LinkNo → ReqData → List Entry
two_entries j seat q service link request = (j ++ arrive_entry seat q service link request ∷ []) ++ Begin seat q ∷ []

abbrev pub three_entries : List Entry → Seat → Req → List ℕ → LinkNo → ReqData → Out → List Entry
three_entries j seat q service link request out = two_entries j seat q service link request ++ Turn seat q out ∷ []

pub asks_begun : (x : NoMemory) (seat : Seat) (q : Req) (service : List ℕ) (link : LinkNo) (request : ReqData)
    (j : List Entry)
    → Answers seat link service request j (two_entries j seat q service link request) (Err x)
asks_begun x seat q service link request j =
    let j1 = j ++ arrive_entry seat q service link request ∷ [] in (
      (λ n ne. begun_same n seat q j1 ∙ arrived_others seat q service link request j n ne),
      inr (q.0, begun_same link.0 seat q j1 ∙ arrived_adds seat q service link request j),
    )

-- the request stands with the reply of its turn
pub answers : (seat : Seat) (q : Req) (service : List ℕ) (link : LinkNo) (request : ReqData) (j : List Entry)
    (out : Out)
    → IsNumbered j → q.0 ≡ arrival_count j + 1
    → Answers seat link service request j (three_entries j seat q service link request out) (Ok out.reply)
answers seat q service link request j out numbered next =
    elim out.reply as (λ o. ((n : ℕ)
    → talk seat.0 n j3 ≡ record {
      rows = with_reply_if q.0 o (talk seat.0 n j1).rows;
      orderly = (talk seat.0 n j1).orderly;
    })
    → Answers seat link service request j j3 (Ok o)) [
      | None ↦ λ t. (
        (λ n ne. t n ∙ arrived_others seat q service link request j n ne),
        (q.0, t link.0 ∙ arrived_adds seat q service link request j),
      )
      | Some reply ↦ λ t. (
        (λ n ne. t n ∙ ap (λ k. record { rows = with_reply q.0 reply k.rows; orderly = k.orderly })
            (arrived_others seat q service link request j n ne)
            ∙ ap (λ rows. record { rows = rows; orderly = (talk seat.0 n j).orderly })
            (reply_none (arrival_count j) q.0 reply (talk seat.0 n j).rows (below seat.0 n j numbered)
            (omega (arith, next)))),
        (
          q.0,
          t link.0 ∙ ap (λ k. record { rows = with_reply q.0 reply k.rows; orderly = k.orderly })
              (arrived_adds seat q service link request j)
              ∙ ap (λ rows. record {
                rows = rows;
                orderly = (add_row (asked_row q service request) (talk seat.0 link.0 j)).orderly;
              })
              (reply_last (arrival_count j) q service request reply (talk seat.0 link.0 j).rows
              (below seat.0 link.0 j numbered)
              (omega (arith, next))),
        ),
      )
    ] told
  where
    j1 : List Entry
    j1 = j ++ arrive_entry seat q service link request ∷ []

    j2 : List Entry
    j2 = two_entries j seat q service link request

    j3 : List Entry
    j3 = three_entries j seat q service link request out

    told : (n : ℕ) → talk seat.0 n j3 ≡ record {
      rows = with_reply_if q.0 out.reply (talk seat.0 n j1).rows;
      orderly = (talk seat.0 n j1).orderly;
    }
    told n = talk_push seat.0 n j2 (Turn seat q out)
        ∙ ap (λ k. record { rows = with_reply_if q.0 out.reply k.rows; orderly = k.orderly }) (begun_same n seat q j1)

-- RUNS

pub run_arrived : {I : Type 0} (m : Meaning I) (world : Config) (s : State I) (j : List Entry) (n : ℕ) (seat : Seat)
    (q : Req)
    (service : List ℕ) (link : LinkNo) (request : ReqData) → IsRun seat m world j → Stands m world s j n → q.0 ≡ n + 1
    → is_some (service_of service world.services) ≡ true → is_public world service ≡ true
    → seat.0 < 64 → IsRun seat m world (j ++ arrive_entry seat q service link request ∷ [])
run_arrived m world s j n seat q service link request r x e known open_ below =
    run_push seat m world j (arrive_entry seat q service link request) s r x.state
    (arrive_allowed world s n seat q service link request x.rests e known open_ below) (e ∙ ap (λ k. k + 1) x.count)
    refl

-- after the arrival
pub state_arrived : {I : Type 0} (m : Meaning I) (world : Config) (s : State I) (j : List Entry) (n : ℕ) (seat : Seat)
    (q : Req)
    (service : List ℕ) (link : LinkNo) (request : ReqData) → Stands m world s j n
    → after_arrival s seat q service link request ≡ after m world (j ++ arrive_entry seat q service link request ∷ [])
state_arrived m world s j n seat q service link request x =
    ap (λ t. after_arrival t seat q service link request) x.state
    ∙ sym (after_from_push m (first_state m world) j (arrive_entry seat q service link request))

pub run_begun : {I : Type 0} (m : Meaning I) (world : Config) (s : State I) (j : List Entry) (n : ℕ) (seat : Seat)
    (q : Req)
    (service : List ℕ) (link : LinkNo) (request : ReqData) (w : WorkerState I)
    → IsRun seat m world (j ++ arrive_entry seat q service link request ∷ []) → Stands m world s j n → q.0 ≡ n + 1
    → worker_of service s.workers ≡ Some w → seat.0 < 64
    → IsRun seat m world (two_entries j seat q service link request)
run_begun m world s j n seat q service link request w r x e found below =
    run_push seat m world (j ++ arrive_entry seat q service link request ∷ []) (Begin seat q)
    (after_arrival s seat q service link request) r (state_arrived m world s j n seat q service link request x)
    (begin_allowed world s n seat q service link request w x.rests e found below) tt refl

pub state_begun : {I : Type 0} (m : Meaning I) (world : Config) (s : State I) (j : List Entry) (n : ℕ) (seat : Seat)
    (q : Req)
    (service : List ℕ) (link : LinkNo) (request : ReqData) (w : WorkerState I) → Stands m world s j n → q.0 ≡ n + 1
    → worker_of service s.workers ≡ Some w → while_turn m s seat q service link request w
    ≡ after m world (two_entries j seat q service link request)
state_begun m world s j n seat q service link request w x e found =
    sym (begins m s n seat q service link request w x.rests e found)
    ∙ ap (λ t. begun m t seat q) (state_arrived m world s j n seat q service link request x)
    ∙ sym (after_from_push m (first_state m world) (j ++ arrive_entry seat q service link request ∷ []) (Begin seat q))

pub run_turned : {I : Type 0} (m : Meaning I) (world : Config) (s : State I) (j : List Entry) (n : ℕ) (seat : Seat)
    (q : Req)
    (service : List ℕ) (link : LinkNo) (request : ReqData) (w : WorkerState I)
    → IsRun seat m world (two_entries j seat q service link request) → Stands m world s j n → q.0 ≡ n + 1
    → worker_of service s.workers ≡ Some w → seat.0 < 64
    → IsRun seat m world (three_entries j seat q service link request (out_of m seat q service link request w))
run_turned m world s j n seat q service link request w r x e found below =
    run_push seat m world (two_entries j seat q service link request)
    (Turn seat q (out_of m seat q service link request w))
    (while_turn m s seat q service link request w) r (state_begun m world s j n seat q service link request w x e found)
    (turn_allowed m world s n seat q service link request w x.rests e found below) tt refl

count_arrived : (j : List Entry) (seat : Seat) (q : Req) (service : List ℕ) (link : LinkNo) (request : ReqData)
    → arrival_count (j ++ arrive_entry seat q service link request ∷ []) ≡ arrival_count j + 1
count_arrived j seat q service link request = count_push j (arrive_entry seat q service link request)

pub stands_arrived : {I : Type 0} (m : Meaning I) (world : Config) (s : State I) (j : List Entry) (n : ℕ) (seat : Seat)
    (q : Req)
    (service : List ℕ) (link : LinkNo) (request : ReqData) → Stands m world s j n → q.0 ≡ n + 1
    → position_from (is_worker service) 0 s.workers ≡ None
    → Stands m world (after_arrival s seat q service link request) (j ++ arrive_entry seat q service link request ∷ [])
    q.0
stands_arrived m world s j n seat q service link request x e none = record {
  state = state_arrived m world s j n seat q service link request x;
  rests = rests_arrived s n seat q service link request x.rests e none;
  count = e ∙ ap (λ k. k + 1) x.count ∙ sym (count_arrived j seat q service link request);
}

pub stands_turned : {I : Type 0} (m : Meaning I) (world : Config) (s : State I) (j : List Entry) (n : ℕ) (seat : Seat)
    (q : Req)
    (service : List ℕ) (link : LinkNo) (request : ReqData) (w : WorkerState I) (out : Out) → Stands m world s j n
    → q.0 ≡ n + 1 → worker_of service s.workers ≡ Some w
    → Stands m world (turned (while_turn m s seat q service link request w) seat q)
    (three_entries j seat q service link request out) q.0
stands_turned m world s j n seat q service link request w out x e found = record {
  state = ap (λ t. turned t seat q) (state_begun m world s j n seat q service link request w x e found)
      ∙ sym (after_from_push m (first_state m world) (two_entries j seat q service link request) (Turn seat q out));
  rests = rests_turned m s n seat q service link request w x.rests e found;
  count = let zero_more : (k : ℕ) → k + 0 ≡ k = λ k. omega arith in
      e ∙ ap (λ k. k + 1) x.count ∙ sym (count_push (two_entries j seat q service link request) (Turn seat q out)
      ∙ zero_more _ ∙ count_push (j ++ arrive_entry seat q service link request ∷ []) (Begin seat q) ∙ zero_more _
      ∙ count_arrived j seat q service link request);
}

-- THE SERVICES OF SOCKETS

find_behind : {X : Type 0} (p : X → Bool) (xs ys : List X) → find p (xs ++ ys) ≡ None → find p ys ≡ None
find_behind p [] ys e = e
find_behind p (x ∷ xs) ys e = elim (p x) as (λ b. (if b then Some x else find p (xs ++ ys)) ≡ None → find p ys ≡ None)
    [ true ↦ λ e. cc | false ↦ λ e. find_behind p xs ys e ] e

known_at : (services : List Service) (sockets : List Socket) (i : ℕ) → i < length sockets
    → find (is_unknown services) (map named_at sockets) ≡ None → has_name services (get_or sockets i no_socket).service
    ≡ true
known_at services [] i h e = absurd (omega arith)
known_at services (k ∷ ks) zero h e =
    elim (has_name services k.service) as
    (λ b. (if not b then Some (named_at k) else find (is_unknown services) (map named_at ks)) ≡ None → b ≡ true)
    [ true ↦ λ e. refl | false ↦ λ e. cc ] e
known_at services (k ∷ ks) (suc i) h e =
    known_at services ks i (omega arith)
    (elim (has_name services k.service) as
    (λ b. (if not b then Some (named_at k) else find (is_unknown services) (map named_at ks)) ≡ None
    → find (is_unknown services) (map named_at ks) ≡ None) [ true ↦ λ e. e | false ↦ λ e. cc ] e)

found_any : {X : Type 0} (p : X → Bool) (xs : List X) → list_any p xs ≡ true → is_some (find p xs) ≡ true
found_any p [] e = absurd (false≢true e)
found_any p (x ∷ xs) e = elim (p x) as (λ b. list_any p (x ∷ xs) ≡ true → p x ≡ b
    → is_some (if b then Some x else find p xs) ≡ true)
    [ true ↦ λ e h. refl | false ↦ λ e h. found_any p xs (rw h at e) ] e refl

-- a socket's service is one of the world's
pub service_known : (world : Config) (socket : SockNo) → first_unknown world ≡ None → socket.0 < length world.sockets
    → is_some (service_of (service_at world.sockets socket) world.services) ≡ true
service_known world socket e h = found_any (is_named (service_at world.sockets socket)) world.services
    (known_at world.services world.sockets socket.0 h
    (find_behind (is_unknown world.services) (flat_map named_by world.services) (map named_at world.sockets) e))

same_name_self : (a : List ℕ) → same_name a a ≡ true
same_name_self [] = refl
same_name_self (x ∷ xs) = rw (nat_self x) (same_name_self xs)

public_at : (sockets : List Socket) (i : ℕ) → i < length sockets
    → list_any (λ s. same_name s.service (get_or sockets i no_socket).service) sockets ≡ true
public_at [] i h = absurd (omega arith)
public_at (k ∷ ks) zero h = rw (same_name_self k.service) refl
public_at (k ∷ ks) (suc i) h =
    elim (same_name k.service (get_or ks i no_socket).service) as
    (λ b. same_name k.service (get_or ks i no_socket).service ≡ b
    → list_any (λ s. same_name s.service (get_or ks i no_socket).service) (k ∷ ks) ≡ true)
    [ true ↦ λ e. rw e refl | false ↦ λ e. rw e (public_at ks i (omega arith)) ] refl

-- a socket's service is public
pub service_public : (world : Config) (socket : SockNo) → socket.0 < length world.sockets
    → is_public world (service_at world.sockets socket) ≡ true
service_public world socket h = public_at world.sockets socket.0 h

-- memory ran out before the arrival
pub unasked : (x : NoMemory) (seat : Seat) (link : LinkNo) (service : List ℕ) (request : ReqData) (j : List Entry)
    → Answers seat link service request j j (Err x)
unasked x seat link service request j = ((λ n ne. refl), inl refl)

-- A SERVICE THAT IS NO WORKER

pub asked_only : (seat : Seat) (q : Req) (service : List ℕ) (link : LinkNo) (request : ReqData) (j : List Entry)
    → Answers seat link service request j (j ++ arrive_entry seat q service link request ∷ []) (Ok None)
asked_only seat q service link request j =
    (arrived_others seat q service link request j, (q.0, arrived_adds seat q service link request j))

-- THE STEPS OF A REQUEST, BY THE PLACE OF ITS WORKER

pub begun_run : {I : Type 0} (m : Meaning I) (world : Config) (s : State I) (j : List Entry) (n : ℕ) (seat : Seat)
    (q : Req)
    (service : List ℕ) (link : LinkNo) (request : ReqData) (place : ℕ)
    → IsRun seat m world (j ++ arrive_entry seat q service link request ∷ []) → Stands m world s j n → q.0 ≡ n + 1
    → position_from (is_worker service) 0 s.workers ≡ Some place → seat.0 < 64
    → IsRun seat m world (two_entries j seat q service link request)
begun_run m world s j n seat q service link request place r x e found below =
    let w = found_place (is_worker service) s.workers 0 place found in
    run_begun m world s j n seat q service link request w.0 r x e w.1 below

pub places_begun : {I : Type 0} (m : Meaning I) (s s2 : State I) (n : ℕ) (seat : Seat) (q : Req) (service : List ℕ)
    (link : LinkNo)
    (request : ReqData) (place : ℕ) → Rests s n → q.0 ≡ n + 1 → position_from (is_worker service) 0 s.workers
    ≡ Some place → s2 ≡ begun m (after_arrival s seat q service link request) seat q
    → ArePlaces s2.workers s2.requests (record { req = q; row = Some n; worker = Some place })
places_begun m s s2 n seat q service link request place r e found is =
    let w = found_place (is_worker service) s.workers 0 place found in
    subst (λ t. ArePlaces t.workers t.requests (record { req = q; row = Some n; worker = Some place }))
    (sym (is ∙ begins m s n seat q service link request w.0 r e w.1))
    (turn_places m s n seat q service link request w.0 place r e found)

-- what is known when the turn has ended, or memory ran out in it
pub record Exchanged {I : Type 0} (seat : Seat) (m : Meaning I) (world : Config) (link : LinkNo) (service : List ℕ)
    (request : ReqData) (j j3 : List Entry) (s3 : State I) (q : ℕ) (result : Result (Option Reply) NoMemory) :
    Type 0 where
  pub answers : Answers seat link service request j j3 result
  pub run : IsRun seat m world j3
  pub stands : OnOk result (Stands m world s3 j3 q)

pub exchanged : {I : Type 0} (m : Meaning I) (world : Config) (s s2 s3 : State I) (j j2 j3 : List Entry) (n : ℕ)
    (seat : Seat) (q : Req) (service : List ℕ) (link : LinkNo) (request : ReqData) (place : ℕ)
    (result : Result (Option Reply) NoMemory)
    → IsNumbered j → IsRun seat m world (j ++ arrive_entry seat q service link request ∷ []) → Stands m world s j n
    → q.0 ≡ n + 1
    → position_from (is_worker service) 0 s.workers ≡ Some place
    → s2 ≡ begun m (after_arrival s seat q service link request) seat q → j2 ≡ two_entries j seat q service link request
    → OnOk result (s3 ≡ turned s2 seat q)
    → IfOk result (λ reply. Ends seat q
    (turn_out (request_of q.0 s2.requests) (worker_for (request_of q.0 s2.requests) s2.workers)) j2 j3 reply)
    → OnErr result (j3 ≡ j2)
    → seat.0 < 64 → Exchanged seat m world link service request j j3 s3 q.0 result
exchanged m world s s2 s3 j j2 j3 n seat q service link request place (Err x) numbered r st e found is2 ij2 is3 ends err
    below =
    subst (λ k. Exchanged seat m world link service request j k s3 q.0 (Err x)) (sym (err ∙ ij2))
    (record {
      answers = asks_begun x seat q service link request j;
      run = begun_run m world s j n seat q service link request place r st e found below;
      stands = tt;
    })
exchanged m world s s2 s3 j j2 j3 n seat q service link request place (Ok reply) numbered r st e found is2 ij2 is3 ends
    err below =
    let w = found_place (is_worker service) s.workers 0 place found in
    let out : Out = out_of m seat q service link request w.0 in
    let now : s2 ≡ while_turn m s seat q service link request w.0 = is2
    ∙ begins m s n seat q service link request w.0 st.rests e w.1 in
    let gives : turn_out (request_of q.0 s2.requests) (worker_for (request_of q.0 s2.requests) s2.workers) ≡ Some out =
    ap (λ t. turn_out (request_of q.0 t.requests) (worker_for (request_of q.0 t.requests) t.workers)) now
    ∙ turn_out_is m s n seat q service link request w.0 st.rests e w.1 in
    let ended : Ends seat q (Some out) j2 j3 reply = subst (λ o. Ends seat q o j2 j3 reply) gives ends in
    let whole : j3 ≡ three_entries j seat q service link request out = ended.0
    ∙ ap (λ k. k ++ Turn seat q out ∷ []) ij2 in
    let two : IsRun seat m world (two_entries j seat q service link request) =
    run_begun m world s j n seat q service link request w.0 r st e w.1 below in
    subst (λ k. Exchanged seat m world link service request j k s3 q.0 (Ok reply)) (sym whole)
    (record {
      answers = subst (λ o. Answers seat link service request j (three_entries j seat q service link request out)
          (Ok o))
          (sym ended.1) (answers seat q service link request j out numbered (e ∙ ap (λ k. k + 1) st.count));
      run = run_turned m world s j n seat q service link request w.0 two st e w.1 below;
      stands = subst (λ t. Stands m world t (three_entries j seat q service link request out) q.0)
          (sym (is3 ∙ ap (λ t. turned t seat q) now))
          (stands_turned m world s j n seat q service link request w.0 out st e w.1);
    })

-- memory ran out
pub unanswered : (seat : Seat) (link : LinkNo) (service : List ℕ) (request : ReqData) (j j2 : List Entry)
    (result : Result Answer NoMemory) → IsErr result → ((x : NoMemory) → Answers seat link service request j j2 (Err x))
    → Answers seat link service request j j2 (reply_in result)
unanswered seat link service request j j2 (Ok answer) e asked = absurd (false≢true e)
unanswered seat link service request j j2 (Err x) e asked = asked x

-- WHETHER EACH REQUEST HAS ENDED

pub places_turned : {I : Type 0} (m : Meaning I) (s s2 s3 : State I) (n : ℕ) (seat : Seat) (q : Req) (service : List ℕ)
    (link : LinkNo) (request : ReqData) (place : ℕ) → Rests s n → q.0 ≡ n + 1
    → position_from (is_worker service) 0 s.workers ≡ Some place
    → s2 ≡ begun m (after_arrival s seat q service link request) seat q → s3 ≡ turned s2 seat q
    → ArePlaces s3.workers s3.requests (record { req = q; row = Some n; worker = Some place })
places_turned m s s2 s3 n seat q service link request place r e found is2 is3 =
    let w = found_place (is_worker service) s.workers 0 place found in
    let now : s2 ≡ while_turn m s seat q service link request w.0 = is2
    ∙ begins m s n seat q service link request w.0 r e w.1 in
    subst (λ t. ArePlaces t.workers t.requests (record { req = q; row = Some n; worker = Some place }))
    (sym (is3 ∙ ap (λ t. turned t seat q) now))
    (turned_places m s n seat q service link request w.0 place r e found)

pub ended_too : {I : Type 0} (m : Meaning I) (s s2 s3 : State I) (n : ℕ) (seat : Seat) (q : Req) (service : List ℕ)
    (link : LinkNo)
    (request : ReqData) (place : ℕ) → Rests s n → q.0 ≡ n + 1 → position_from (is_worker service) 0 s.workers
    ≡ Some place → s2 ≡ begun m (after_arrival s seat q service link request) seat q → s3 ≡ turned s2 seat q
    → has_ended (request_of q.0 s3.requests) ≡ true → AreEnded s.requests → AreEnded s3.requests
ended_too m s s2 s3 n seat q service link request place r e found is2 is3 over all =
    let w = found_place (is_worker service) s.workers 0 place found in
    let now : s3 ≡ turned (while_turn m s seat q service link request w.0) seat q = is3
    ∙ ap (λ t. turned t seat q) (is2 ∙ begins m s n seat q service link request w.0 r e w.1) in
    subst (λ t. AreEnded t.requests) (sym now)
    (turned_ended m s n seat q service link request w.0 r e
    (subst (λ t. has_ended (request_of q.0 t.requests) ≡ true) now over) all)

-- the state is that after the entries, and at rest: where each request has ended, nothing is left to do
pub over_after : {I : Type 0} (m : Meaning I) (world : Config) (s : State I) (j : List Entry) (n : ℕ)
    → Stands m world s j n → AreEnded s.requests → IsOver m world j
over_after m world s j n st all = subst IsFinished st.state (record {
  ended = all;
  running = st.rests.running;
  due = st.rests.due;
  idle = st.rests.idle;
})

-- BEFORE ANY ENTRY

idle_add : {I : Type 0} (m : Meaning I) (world : List Service) (name : List ℕ) (def : Option WorkerDef)
    (ws : List (WorkerState I)) → AreIdle ws → AreIdle (add (first_worker m world name def) ws)
idle_add m world name None ws a = a
idle_add m world name (Some def) ws a =
    elim (first_isolate m world def) as (λ i. AreIdle (add (started_worker name i) ws))
    [ None ↦ a | Some isolate ↦ (refl, refl, a) ]

pub idle_first : {I : Type 0} (m : Meaning I) (world services : List Service) → AreIdle (workers_among m world services)
idle_first m world [] = tt
idle_first m world (s ∷ rest) = idle_add m world s.name (worker_in s.kind) (workers_among m world rest)
    (idle_first m world rest)

pub first_run : {I : Type 0} (seat : Seat) (m : Meaning I) (world : Config) → IsRun seat m world []
unfolding IsNumbered IsOfSeat
first_run seat m world = record { allowed = refl; numbered = tt; of_seat = tt }

pub first_stands : {I : Type 0} (m : Meaning I) (world : Config) → Stands m world (first_state m world) [] 0
unfolding arrival_count
first_stands m world = record {
  state = refl;
  rests = record {
    rows = tt;
    count = refl;
    running = refl;
    due = refl;
    idle = idle_first m world.services world.services;
  };
  count = refl;
}
