-- One step on a link, among others.
use Rattle.std.specs.Prelude.{◌≡◌, ◌≢◌, ◌⊎◌, ℕ, ◌≤◌, Bool, true, false, List, [], ◌++◌, Option, Some, None, Result, Ok}
use Rattle.std.specs.Prelude.{Err, IsErrOf}
use Rattle.wd_base.specs.declared.ids.LinkNo.{LinkNo}
use Rattle.wd_base.specs.declared.ids.Seat.{Seat}
use Rattle.wd_base.specs.declared.ids.SockNo.{SockNo}
use Rattle.wd_base.specs.declared.ids.NoMemory.{NoMemory as NoMem}
use Rattle.wd_base.specs.declared.http.ReqData.{ReqData}
use Rattle.wd_base.specs.declared.http.Reply.{Reply}
use Rattle.wd_ports.specs.declared.told.LinkState.{LinkState}
use Rattle.wd_ports.specs.declared.told.Faults.{Faults}
use Rattle.wd_ports.specs.declared.told.Failed.{Failed}
use Rattle.wd_ports.specs.declared.told.Failed.TheVariants.{Fault, NoMemory}
use Rattle.wd_ports.specs.Faults.{Part, part}
use Rattle.wd_ports.specs.Told.{Told, on_link}
use Rattle.wd_ports.specs.Send.{Sends}
use Rattle.wd_machine.specs.declared.journal.Entry.{Entry}
use Rattle.http_in.specs.declared.conn.Phase.TheVariants as phase
use Rattle.http_in.specs.declared.conn.Fed.TheVariants as fed
use Rattle.wd_top.specs.declared.seat.link.LinkRun.{LinkRun}
use Rattle.wd_top.specs.declared.seat.link.Stage.{Stage}
use Rattle.wd_top.specs.declared.seat.link.Stage.TheVariants.{Open, Shut, Stopped}
use Rattle.wd_top.specs.declared.seat.link.Heard.{Heard}
use Rattle.wd_top.specs.declared.seat.link.Heard.TheVariants as heard
use Rattle.wd_top.specs.declared.seat.link.StepEnd.{StepEnd}
use Rattle.wd_top.specs.declared.seat.link.StepEnd.TheVariants as end
use Rattle.http_in.specs.Stream.{Requests, Reads, ReadsAll, closing, IsFault, IsUnfinished}
use Rattle.http_text.specs.ReplyText.{reply_text}
use Rattle.wd_top.specs.Board.{BoardView}
use Rattle.wd_top.specs.Text.{line}
use Rattle.wd_top.specs.Talk.{Talk, talk, answered, add_row}
use Rattle.wd_top.specs.Session.{service_at, is_head, asked, arrivals, replies, AreAt, Carries, IsWhole}

-- a request of the link was taken, and nothing else is new of the link
abbrev pub Adds : Seat → LinkNo → List ℕ → ReqData → Option Reply → List Entry → List Entry → Type 0
Adds seat link service request reply old new = (q : ℕ) × (talk seat.0 link.0 new
    ≡ add_row (record { req = q; service = service; request = request; reply = reply }) (talk seat.0 link.0 old))

-- nothing is new of any other link
abbrev pub Others : Seat → LinkNo → List Entry → List Entry → Type 0
Others seat link old new = (n : ℕ) → n ≢ link.0 → talk seat.0 n new ≡ talk seat.0 n old

-- a request went from its arrival to its reply, where it has one; after want of memory it may have arrived, or not
abbrev pub Answers : Seat → LinkNo → List ℕ → ReqData → List Entry → List Entry → Result (Option Reply) NoMem → Type 0
Answers seat link service request old new (Ok reply) = Others seat link old new
    × Adds seat link service request reply old new
Answers seat link service request old new (Err e) = Others seat link old new
    × ((talk seat.0 link.0 new ≡ talk seat.0 link.0 old) ⊎ Adds seat link service request None old new)

-- no part of the count fell
pub record NoneFell (old new : Faults) : Type 0 where
  pub each : (p : Part) → part p old ≤ part p new

-- all requests that were read have their replies; their texts were sent, but for what is due
pub record Reading (service : List ℕ) (link : LinkState) (t : Talk) (rest : List ℕ) (last : Bool) (due : List ℕ) :
    Type 0 where
  pub requests : Requests
  pub reads : ReadsAll link.received requests rest
  pub closes : closing requests ≡ last
  pub arrived : arrivals t.rows ≡ asked requests
  pub placed : AreAt service t.rows
  pub orderly : t.orderly ≡ true
  pub answers : answered t.rows ≡ true
  pub sent : line requests (replies t.rows) ≡ link.sent ++ due

-- an open link: all that was read of it has been answered, and the connection keeps the rest
pub record Opened (service : List ℕ) (link : LinkState) (t : Talk) (run : LinkRun) : Type 0 where
  pub reading : Reading service link t run.conn.queue false []
  pub phase : run.conn.phase ≡ phase.Open
  pub waits : run.ready ≡ false → IsUnfinished run.conn.queue

-- a request was read, and not yet taken
pub record Asks (service : List ℕ) (link : LinkState) (t : Talk) (r : ReqData) (close : Bool) (run : LinkRun) :
    Type 0 where
  pub rest : List ℕ
  pub reading : Reading service link t rest false []
  pub reads : Reads rest r close run.conn.queue
  pub phase : close ≡ false → run.conn.phase ≡ phase.Open

-- all requests that were read have their replies, and some unread bytes are left
abbrev pub Rests : List ℕ → LinkState → Talk → Type 0
Rests service link t = (rest : List ℕ) × Reading service link t rest false []

-- what is known of a link after what was heard of it
abbrev pub Known : Heard → List ℕ → LinkState → Talk → LinkRun → Type 0
Known (heard.Fed fed.Later) service link t run = Reading service link t run.conn.queue false []
    × (run.conn.phase ≡ phase.Open) × IsUnfinished run.conn.queue
Known (heard.Fed (fed.Request r close)) service link t run = Asks service link t r close run
Known (heard.Fed (fed.Bad code)) service link t run = Reading service link t run.conn.queue false []
    × IsFault run.conn.queue code
Known heard.Nothing service link t run = Opened service link t run
Known heard.End service link t run = (rest : List ℕ) × Reading service link t rest false [] × IsUnfinished rest
    × (link.ended ≡ true)
Known heard.Lost service link t run = Rests service link t
Known heard.Full service link t run = Rests service link t

-- a piece was fed to the connection
abbrev pub Knows : LinkRun → List ℕ → Heard → LinkRun → Type 0
Knows run piece heard run' = (service : List ℕ) (link : LinkState) (t : Talk)
    → Reading service link t (run.conn.queue ++ piece) false [] → run.conn.phase ≡ phase.Open
    → Known heard service link t run'

-- the connection alone is another
abbrev pub SameButConn : LinkRun → LinkRun → Type 0
SameButConn run run' = (run'.stage ≡ run.stage) × (run'.socket ≡ run.socket)

-- the link is where it was, and was not shut
abbrev pub Stands : (LinkState → LinkState) → Type 0
Stands change = (link : LinkState) → ((change link).shuts ≡ link.shuts) × ((change link).origin ≡ link.origin)

-- One read from a connection: what it changes there, and what is known of the connection after it.
pub record Hears (n : LinkNo) (run run' : LinkRun) (heard : Heard) (old new : Told) : Type 0 where
  pub change : LinkState → LinkState
  pub tells : new ≡ on_link n change old
  pub stands : Stands change
  pub same : SameButConn run run'
  pub known : (service : List ℕ) (link : LinkState) (t : Talk) → Opened service link t run
      → Known heard service (change link) t run'

-- after a write: an open link goes on but after a reply that closes, and a link that is lost is over
abbrev pub end_of : Result (Unit {0}) Failed → Bool → StepEnd
end_of (Ok x) true = end.Over
end_of (Ok x) false = end.Open
end_of (Err Fault) close = end.Over
end_of (Err NoMemory) close = end.Full

-- the link is tended no more: memory ran out, or its request has no reply
abbrev pub IsLeft : StepEnd → Type 0
IsLeft e = (e ≡ end.Full) ⊎ (e ≡ end.Waits)

-- the request was answered, and its text sent from the front; or it has no reply, or memory ran out before
abbrev pub Replies : Seat → LinkNo → List ℕ → ReqData → Bool → StepEnd → Type 0 → Told → Told → List Entry
    → List Entry → Type 0
Replies seat n service r close e gone old new j j' =
    ((reply : Reply) × (result : Result (Unit {0}) Failed) × Answers seat n service r j j' (Ok (Some reply))
    × Sends n (reply_text reply (is_head r) close) result old new × (e ≡ end_of result close)
    × (IsErrOf result Fault → gone))
    ⊎ (Others seat n j j' × ((talk seat.0 n.0 j' ≡ talk seat.0 n.0 j) ⊎ Adds seat n service r None j j') × (new ≡ old)
    × IsLeft e)

-- what is known of a link after a step
abbrev pub After : StepEnd → List ℕ → LinkState → Talk → LinkRun → Type 0 → Type 0
After end.Open service link t run gone = Opened service link t run
After end.Over service link t run gone = Carries service link t × ((gone → ⊥) → IsWhole service link t)
After end.Full service link t run gone = Carries service link t
After end.Waits service link t run gone = Carries service link t

-- One answer to what was read: what it changes on the connection, in the journal and in what is known.
pub record Handles (seat : Seat) (n : LinkNo) (service : List ℕ) (run run' : LinkRun) (heard : Heard) (e : StepEnd)
    (old new : Told) (j j' : List Entry) (gone : Type 0) : Type 0 where
  pub change : LinkState → LinkState
  pub tells : new ≡ on_link n change old
  pub stands : Stands change
  pub same : SameButConn run run'
  pub others : Others seat n j j'
  pub after : (link : LinkState) → Known heard service link (talk seat.0 n.0 j) run
      → After e service (change link) (talk seat.0 n.0 j') run' gone

-- what the table says of a link holds of it
abbrev pub TendedAs : Stage → List ℕ → LinkRun → LinkState → Talk → Type 0 → Type 0
TendedAs Open service run link t gone = (link.shuts ≡ 0) × Opened service link t run
TendedAs Shut service run link t gone = (link.shuts ≡ 1) × Carries service link t
    × ((gone → ⊥) → IsWhole service link t)
TendedAs Stopped service run link t gone = Carries service link t

-- One turn of attention to a connection: its entry in the table stays true, and no other is touched.
pub record Moves (seat : Seat) (n : LinkNo) (service : List ℕ) (run run' : LinkRun) (old new : Told)
    (j j' : List Entry) (gone : Type 0) : Type 0 where
  pub change : LinkState → LinkState
  pub tells : new ≡ on_link n change old
  pub origin : (link : LinkState) → (change link).origin ≡ link.origin
  pub socket : run'.socket ≡ run.socket
  pub others : Others seat n j j'
  pub here : (link : LinkState) → TendedAs Open service run link (talk seat.0 n.0 j) gone
      → TendedAs run'.stage service run' (change link) (talk seat.0 n.0 j') gone

-- the same of a request that came at this socket of a board's world
abbrev pub AnswersOn : LinkNo → SockNo → ReqData → BoardView → BoardView → Result (Option Reply) NoMem → Type 0
AnswersOn link socket request old new result =
    Answers old.0.seat link (service_at old.0.world.sockets socket) request old.1 new.1 result

-- the answer to a request that came at this socket of a board's world, over a link of a port: what the port tells, and
-- the board, before it and after it
abbrev pub RepliesOn : {P : Type 0} → (P → Told) → (P → LinkNo → Type 0) → LinkNo → P → P → BoardView → BoardView
    → SockNo
    → ReqData → Bool → StepEnd → Type 0
RepliesOn told gone n port port' board board' socket request close e =
    Replies board.0.seat n (service_at board.0.world.sockets socket) request close e (gone port' n)
    (told port) (told port') board.1 board'.1

-- the same of an answer to what was heard of the link
abbrev pub HandlesOn : {P : Type 0} → (P → Told) → (P → LinkNo → Type 0) → LinkNo → P → P → BoardView → BoardView
    → LinkRun → LinkRun → Heard → StepEnd → Type 0
HandlesOn told gone n port port' board board' run run' heard e =
    Handles board.0.seat n (service_at board.0.world.sockets run.socket) run run' heard e
    (told port) (told port') board.1 board'.1 (gone port' n)

-- the same of one turn of attention to the link
abbrev pub MovesOn : {P : Type 0} → (P → Told) → (P → LinkNo → Type 0) → LinkNo → P → P → BoardView → BoardView
    → LinkRun → LinkRun → Type 0
MovesOn told gone n port port' board board' run run' =
    Moves board.0.seat n (service_at board.0.world.sockets run.socket) run run'
    (told port) (told port') board.1 board'.1 (gone port' n)
