-- What a journal says of one link.
use Rattle.std.specs.Prelude.{◌≡◌, ℕ, ◌+◌, Bool, true, false, ◌&&◌, List, [], ◌∷◌, ◌++◌, Option, Some, None, nat_eq}
use Rattle.std.specs.Prelude.{cond, is_some}
use Rattle.wd_base.specs.declared.ids.Req.{Req}
use Rattle.wd_base.specs.declared.ids.Seat.{Seat}
use Rattle.wd_base.specs.declared.http.ReqData.{ReqData}
use Rattle.wd_base.specs.declared.http.Reply.{Reply}
use Rattle.wd_base.specs.declared.objects.Origin.{Origin}
use Rattle.wd_base.specs.declared.objects.Origin.TheVariants.{Outside, Child, Caller}
use Rattle.wd_machine.specs.declared.journal.Entry.{Entry}
use Rattle.wd_machine.specs.declared.journal.Entry.TheVariants.{Arrive, Begin, Turn, Answer, Served, Cancel, Drain}
use Rattle.wd_machine.specs.Entries.{seat_of}

-- a request of the link: its number, the service that it came to, what it asks, and its reply where it has one
pub record Row : Type 0 where
  pub req : ℕ
  pub service : List ℕ
  pub request : ReqData
  pub reply : Option Reply

-- the link's requests in the order of their arrival; `orderly` where each arrived after the replies of all before it
pub record Talk : Type 0 where
  pub rows : List Row
  pub orderly : Bool

-- a connection over which no request has come
abbrev pub no_talk : Talk
no_talk = record { rows = []; orderly = true }

-- every request has its reply
abbrev pub answered : List Row → Bool
answered [] = true
answered (r ∷ rs) = is_some r.reply && answered rs

-- a request that has no reply yet
abbrev pub asked_row : Req → List ℕ → ReqData → Row
asked_row q service request = record { req = q.0; service = service; request = request; reply = None }

-- a request with its reply
abbrev pub answered_row : Req → List ℕ → ReqData → Reply → Row
answered_row q service request reply = record { req = q.0; service = service; request = request; reply = Some reply }

-- a further request
abbrev pub add_row : Row → Talk → Talk
add_row row t = record { rows = t.rows ++ row ∷ []; orderly = t.orderly && answered t.rows }

-- request q has this reply
abbrev pub with_reply : ℕ → Reply → List Row → List Row
with_reply q reply [] = []
with_reply q reply (r ∷ rs) = cond (nat_eq r.req q) (record r { reply = Some reply }) r ∷ with_reply q reply rs

-- a request gets the reply, if there is one
abbrev pub with_reply_if : ℕ → Option Reply → List Row → List Row
with_reply_if q None rows = rows
with_reply_if q (Some reply) rows = with_reply q reply rows

-- a request of this origin came over link n of seat s
abbrev pub came_over : ℕ → ℕ → Seat → Origin → Bool
came_over s n seat (Outside link) = nat_eq seat.0 s && nat_eq link.0 n
came_over s n seat (Child parent op) = false
came_over s n seat Caller = false

-- what each entry of the journal adds to what is known of a connection: a request, a reply, or nothing
abbrev pub talk_step : ℕ → ℕ → Talk → Entry → Talk
talk_step s n t (Arrive seat q service origin allow request) =
    cond (came_over s n seat origin) (add_row (asked_row q service request) t) t
talk_step s n t (Begin seat q) = t
talk_step s n t (Turn seat q out) = record t { rows = with_reply_if q.0 out.reply t.rows }
talk_step s n t (Answer seat q op result) = t
talk_step s n t (Served seat q reply) = record t { rows = with_reply q.0 reply t.rows }
talk_step s n t (Cancel seat q) = t
talk_step s n t (Drain seat) = t

-- what is known of a connection after further entries of the journal
abbrev pub talk_from : ℕ → ℕ → Talk → List Entry → Talk
talk_from s n t [] = t
talk_from s n t (e ∷ es) = talk_from s n (talk_step s n t e) es

-- what a journal says of link n of seat s
unfoldable pub talk : ℕ → ℕ → List Entry → Talk
talk s n journal = talk_from s n no_talk journal

-- each request of the link arrived when all before it had their replies
abbrev pub TakesTurns : ℕ → ℕ → List Entry → Type 0
TakesTurns s n journal = (before after : List Entry) (seat : Seat) (q : Req) (service : List ℕ) (origin : Origin)
    (allow : ℕ) (request : ReqData)
    → journal ≡ before ++ Arrive seat q service origin allow request ∷ after → came_over s n seat origin ≡ true
    → answered (talk s n before).rows ≡ true

-- the arrivals have the numbers from n + 1 on, in order
abbrev pub NumberedFrom : ℕ → List Entry → Type 0
NumberedFrom n [] = Unit {0}
NumberedFrom n (Arrive seat q service origin allow request ∷ es) = (q.0 ≡ n + 1) × NumberedFrom (n + 1) es
NumberedFrom n (Begin seat q ∷ es) = NumberedFrom n es
NumberedFrom n (Turn seat q out ∷ es) = NumberedFrom n es
NumberedFrom n (Answer seat q op result ∷ es) = NumberedFrom n es
NumberedFrom n (Served seat q reply ∷ es) = NumberedFrom n es
NumberedFrom n (Cancel seat q ∷ es) = NumberedFrom n es
NumberedFrom n (Drain seat ∷ es) = NumberedFrom n es

-- the requests are numbered 1, 2, 3 and so on
unfoldable pub IsNumbered : List Entry → Type 0
IsNumbered journal = NumberedFrom 0 journal

-- how many requests have arrived, where n arrived before these entries
abbrev pub arrivals_after : ℕ → List Entry → ℕ
arrivals_after n [] = n
arrivals_after n (Arrive seat q service origin allow request ∷ es) = arrivals_after (n + 1) es
arrivals_after n (Begin seat q ∷ es) = arrivals_after n es
arrivals_after n (Turn seat q out ∷ es) = arrivals_after n es
arrivals_after n (Answer seat q op result ∷ es) = arrivals_after n es
arrivals_after n (Served seat q reply ∷ es) = arrivals_after n es
arrivals_after n (Cancel seat q ∷ es) = arrivals_after n es
arrivals_after n (Drain seat ∷ es) = arrivals_after n es

-- how many requests have arrived
unfoldable pub arrival_count : List Entry → ℕ
arrival_count journal = arrivals_after 0 journal

-- each entry is of the thread with this number
abbrev pub EachOfSeat : ℕ → List Entry → Type 0
EachOfSeat s [] = Unit {0}
EachOfSeat s (e ∷ es) = ((seat_of e).0 ≡ s) × EachOfSeat s es

-- each entry is of seat s
unfoldable pub IsOfSeat : ℕ → List Entry → Type 0
IsOfSeat s journal = EachOfSeat s journal
