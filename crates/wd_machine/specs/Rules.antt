-- The rules by which an entry is allowed, each with the value that a refusal keeps.
use Rattle.std.specs.Prelude.{ℕ, ◌==◌, nat_lt, nat_le, Bool, true, false, not, ◌&&◌, List, length, Option, Some, None, is_some, is_none}
use Rattle.wd_base.specs.declared.config.Config.{Config}
use Rattle.wd_base.specs.declared.ids.Req.{Req}
use Rattle.wd_base.specs.declared.objects.Origin.{Origin}
use Rattle.wd_base.specs.declared.objects.Origin.TheVariants.{Outside, Child, Caller}
use Rattle.wd_graph.specs.Names.{service_of, is_public}
use Rattle.wd_machine.specs.declared.journal.Entry.{Entry}
use Rattle.wd_machine.specs.declared.journal.Entry.TheVariants.{Arrive, Begin, Turn, Answer, Served, Cancel, Drain}
use Rattle.wd_machine.specs.declared.journal.Head.{Head}
use Rattle.wd_machine.specs.declared.journal.Head.TheVariants.{Whole, Part}
use Rattle.wd_machine.specs.declared.refusal.Kept.{Kept}
use Rattle.wd_machine.specs.declared.refusal.Kept.TheVariants.{Number, Name, Field, Nothing}
use Rattle.wd_machine.specs.declared.refusal.Refused.{Refused}
use Rattle.wd_machine.specs.declared.state.Due.{Due}
use Rattle.wd_machine.specs.declared.state.Pending.{Pending}
use Rattle.wd_machine.specs.declared.state.RequestState.{RequestState}
use Rattle.wd_machine.specs.declared.state.Run.{Run}
use Rattle.wd_machine.specs.declared.state.State.{State}
use Rattle.wd_machine.specs.declared.state.WorkerState.{WorkerState}
use Rattle.wd_machine.specs.declared.turn.Out.{Out}
use Rattle.wd_machine.specs.declared.turn.OutField.{OutField}
use Rattle.wd_machine.specs.Entries.{seat_of}
use Rattle.wd_machine.specs.Ends.{waits_in, whole_out}
use Rattle.wd_machine.specs.Found.{request_of, worker_for, waiters_at, waiting, front, holder_of, run_on, due_on}
use Rattle.wd_machine.specs.Same.{first_difference}

-- where the test fails the rule is broken, else the rest decides
abbrev pub unless : Bool → ℕ → Kept → Option Refused → Option Refused
unless true rule kept rest = rest
unless false rule kept rest = Some (record { rule = rule; kept = kept })

-- the request has this number
abbrev pub is_number : ℕ → Option Req → Bool
is_number req None = false
is_number req (Some r) = r.0 == req

-- a request's number, or nothing
abbrev pub kept_number : Option Req → Kept
kept_number None = Nothing
kept_number (Some r) = Number r.0

-- the services at which requests may arrive from outside: those of sockets, and in a part of a journal none yet
abbrev pub is_open : Config → Head → List ℕ → Bool
is_open world Whole name = is_public world name
is_open world (Part service) name = false

-- the head is that of a whole journal
abbrev pub is_whole : Head → Bool
is_whole Whole = true
is_whole (Part service) = false

-- A5 to A8: the origin. A child arrives as its seat's front duty, and there are no duties yet
abbrev pub broken_origin : Bool → Bool → List ℕ → Origin → ℕ → Option Refused
broken_origin whole opens service (Outside link) allow =
    unless opens 5 (Name service)
    (unless (allow == 1000) 6 (Number 1000) None)
broken_origin whole opens service (Child parent op) allow = Some (record { rule = 7; kept = Nothing })
broken_origin whole opens service Caller allow = unless (not whole && (opens && nat_le allow 1000)) 8 (Number 1000) None

-- A3 to A8: the number is fresh, the service exists, and the origin is right
abbrev pub broken_arrive : Bool → Bool → Config → List RequestState → ℕ → List ℕ → Origin → ℕ → Option Refused
broken_arrive whole opens world rows req service origin allow =
    unless (not (req == 0) && is_none (request_of req rows)) 3 (Number req)
    (unless (is_some (service_of service world.services)) 4 (Name service)
    (broken_origin whole opens service origin allow))

-- the request is there, has not ended, and is of the seat
abbrev pub is_live_on : ℕ → Option RequestState → Bool
is_live_on seat None = false
is_live_on seat (Some r) = not r.ended && (r.seat.0 == seat)

-- A12 and A13: the seat runs nothing and has nothing to free
abbrev pub broken_seat : Option Req → ℕ → Option Refused
broken_seat running due =
    unless (is_none running) 12 (kept_number running)
    (unless (due == 0) 13 (Number due) None)

-- A10 to A13: the request's waiter is the front one, and the isolate and the seat are free
abbrev pub broken_front : Option Req → Option Req → Option Req → ℕ → ℕ → Option Refused
broken_front first holder running due req =
    unless (is_number req first) 10 (kept_number first)
    (unless (is_none holder) 11 (kept_number holder)
    (broken_seat running due))

-- A9 to A13: the request lives on the seat, and its turn may begin
abbrev pub broken_begin : {I : Type 0} → Option RequestState → Option (WorkerState I) → List Run → List Due → ℕ → ℕ → Option Refused
broken_begin row worker running due seat req =
    unless (is_live_on seat row) 9 (Number req)
    (broken_front (waiting (front (waiters_at worker))) (holder_of worker) (run_on seat running) (length (due_on seat due)) req)

-- A15: no field differs
abbrev pub broken_field : Option OutField → Option Refused
broken_field None = None
broken_field (Some field) = Some (record { rule = 15; kept = Field field })

-- A15: the `Out` is that of the turn, with the reply that the turn's end gives. A seat runs no turn that is not pending
abbrev pub broken_out : RequestState → Option Pending → Bool → Out → Option Refused
broken_out r None waiting out = Some (record { rule = 14; kept = Nothing })
broken_out r (Some p) waiting out = broken_field (first_difference (whole_out r waiting p.out) out)

-- A15 where the request is there
abbrev pub broken_pending : Option RequestState → Bool → Out → Option Refused
broken_pending None waiting out = Some (record { rule = 14; kept = Nothing })
broken_pending (Some r) waiting out = broken_out r r.pending waiting out

-- A14 and A15: the seat runs the request's turn, and the `Out` is what it did
abbrev pub broken_turn : {I : Type 0} → Option RequestState → Option (WorkerState I) → List Run → ℕ → ℕ → Out → Option Refused
broken_turn row worker running seat req out =
    unless (is_number req (run_on seat running)) 14 (kept_number (run_on seat running))
    (broken_pending row (waits_in req (waiters_at worker)) out)

-- A21: the seat runs nothing, and has something to free; nothing is due yet
abbrev pub broken_drain : Option Req → Option Refused
broken_drain running = unless (is_none running) 21 (kept_number running) (Some (record { rule = 21; kept = Nothing }))

-- A3 to A21: an entry of a seat that may exist. Answers, served replies and cancels are not allowed yet
abbrev pub broken_entry : {I : Type 0} → Bool → (List ℕ → Bool) → Config → State I → Entry → Option Refused
broken_entry whole opens world s (Arrive seat req service origin allow request) = broken_arrive whole (opens service) world s.requests req.0 service origin allow
broken_entry whole opens world s (Begin seat req) = broken_begin (request_of req.0 s.requests) (worker_for (request_of req.0 s.requests) s.workers) s.running s.due seat.0 req.0
broken_entry whole opens world s (Turn seat req out) = broken_turn (request_of req.0 s.requests) (worker_for (request_of req.0 s.requests) s.workers) s.running seat.0 req.0 out
broken_entry whole opens world s (Answer seat req op result) = Some (record { rule = 16; kept = Nothing })
broken_entry whole opens world s (Served seat req reply) = Some (record { rule = 18; kept = Number req.0 })
broken_entry whole opens world s (Cancel seat req) = Some (record { rule = 19; kept = Number req.0 })
broken_entry whole opens world s (Drain seat) = broken_drain (run_on seat.0 s.running)

-- the least rule that an entry breaks, where requests arrive from outside at the services that are open; A1: the seat is below 64
abbrev pub broken_in : {I : Type 0} → Bool → (List ℕ → Bool) → Config → State I → Entry → Option Refused
broken_in whole opens world s e = unless (nat_lt (seat_of e).0 64) 1 (Number 64) (broken_entry whole opens world s e)

-- the least rule that an entry breaks in a state, with the value that breaks it, or nothing
abbrev pub broken : {I : Type 0} → Config → Head → State I → Entry → Option Refused
broken world head s e = broken_in (is_whole head) (is_open world head) world s e
