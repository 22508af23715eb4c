-- A session: what the links of a port carry, by the journal.
use Rattle.std.specs.Prelude.{◌≡◌, ◌⊎◌, ℕ, ◌<◌, ◌+◌, Bool, true, false, List, [], ◌∷◌, ◌++◌, map, length, take, Option}
use Rattle.std.specs.Prelude.{Some, None, IfSome, IsSome, slice_index_or, bytes_eq, nat_eq, codes, ◌||◌, ◌==◌}
use Rattle.std.specs.Prelude.{if◌then◌else◌}
use Rattle.std.specs.List.{starts_with}
use Rattle.wd_base.specs.declared.ids.LinkNo.{LinkNo}
use Rattle.wd_base.specs.declared.ids.Seat.{Seat}
use Rattle.wd_base.specs.declared.ids.SockNo.{SockNo}
use Rattle.wd_base.specs.declared.config.Socket.{Socket}
use Rattle.wd_base.specs.declared.http.ReqData.{ReqData}
use Rattle.wd_base.specs.declared.http.Reply.{Reply}
use Rattle.wd_ports.specs.declared.told.LinkState.{LinkState}
use Rattle.wd_ports.specs.declared.told.LinkOrigin.{LinkOrigin}
use Rattle.wd_ports.specs.declared.told.LinkOrigin.TheVariants.{Socket as AtSocket, Peer}
use Rattle.wd_ports.specs.Told.{Told, blank}
use Rattle.wd_machine.specs.declared.journal.Entry.{Entry}
use Rattle.http_in.specs.Stream.{Requests, ReadsAll, closing, IsFault, RequestsOf}
use Rattle.http_text.specs.ReplyText.{reply_text, bad_reply}
use Rattle.wd_top.specs.Text.{line}
use Rattle.wd_top.specs.Talk.{Row, Talk, answered, no_talk, talk, TakesTurns}

-- the request asks for the head of its reply alone (RFC 9110, section 9.3.2)
abbrev pub is_head : ReqData → Bool
is_head request = bytes_eq request.method (codes "HEAD")

-- CR or LF, which end a line (RFC 9112, section 2.2)
abbrev pub is_line_end : ℕ → Bool
is_line_end byte = byte == 13 || byte == 10

-- the bytes behind the empty lines that may stand before a request line (RFC 9112, section 2.2)
unfoldable pub behind_lines : List ℕ → List ℕ
behind_lines [] = []
behind_lines (b ∷ rest) = if is_line_end b then behind_lines rest else b ∷ rest

-- the bytes begin a request line with the method HEAD (RFC 9112, section 3)
abbrev pub asks_head : List ℕ → Bool
asks_head bytes = starts_with nat_eq (behind_lines bytes) (codes "HEAD ")

-- the text that refuses bytes that are no request: where they ask for a head alone, it has no body
abbrev pub tail_text : List ℕ → Option ℕ → List ℕ
tail_text rest None = []
tail_text rest (Some code) = reply_text (bad_reply code) (asks_head rest) true

-- what the requests ask
abbrev pub asked : Requests → List ReqData
asked requests = map (λ r. r.0) requests

-- what the arrivals ask
abbrev pub arrivals : List Row → List ReqData
arrivals rows = map (λ row. row.request) rows

-- the reply to each request, where it has one
abbrev pub replies : List Row → List (Option Reply)
replies rows = map (λ row. row.reply) rows

-- each arrival is at this service
abbrev pub AreAt : List ℕ → List Row → Type 0
AreAt service [] = Unit {0}
AreAt service (row ∷ rows) = (row.service ≡ service) × AreAt service rows

-- what stands where no socket of the number is configured
abbrev pub no_socket : Socket
no_socket = record { name = []; address = record { host = []; port = 0 }; service = [] }

-- the service of a socket
abbrev pub service_at : List Socket → SockNo → List ℕ
service_at sockets socket = (slice_index_or sockets socket.0 no_socket).service

-- At any moment: the arrivals of a link are the first requests of its bytes, in order, at its service, and each
-- came after the replies of those before it. What was sent is the front of the link's line.
pub record Carries (service : List ℕ) (link : LinkState) (t : Talk) : Type 0 where
  pub requests : Requests
  pub rest : List ℕ
  pub reads : ReadsAll link.received requests rest
  pub arrived : arrivals t.rows ≡ asked requests
  pub placed : AreAt service t.rows
  pub orderly : t.orderly ≡ true
  pub tail : Option ℕ
  pub fault : IfSome tail (λ code. (answered t.rows ≡ true) × (closing requests ≡ false) × IsFault rest code)
  pub sent : link.sent ≡ take (length link.sent) (line requests (replies t.rows) ++ tail_text rest tail)

-- At the end: the link was read to its end, to a request that closes, or to bytes that are no request. All requests of
-- its bytes arrived, in order, at its service, one after the other, and have their replies. It carries just its line.
pub record IsWhole (service : List ℕ) (link : LinkState) (t : Talk) : Type 0 where
  pub requests : Requests
  pub end : Option ℕ
  pub of : RequestsOf link.received requests end
  pub arrived : arrivals t.rows ≡ asked requests
  pub placed : AreAt service t.rows
  pub orderly : t.orderly ≡ true
  pub answers : answered t.rows ≡ true
  pub over : (link.ended ≡ true) ⊎ ((closing requests ≡ true) ⊎ IsSome end)
  pub sent : link.sent ≡ line requests (replies t.rows) ++ tail_text of.rest end

-- over a link that the port made itself no request comes
abbrev pub CarriesFrom : List Socket → LinkOrigin → LinkState → Talk → Type 0
CarriesFrom sockets (AtSocket socket) link t = Carries (service_at sockets socket) link t
CarriesFrom sockets (Peer ip port) link t = t ≡ no_talk

-- what a connection carries at its end, if a client opened it; nothing is said of one to a peer
abbrev pub WholeFrom : List Socket → LinkOrigin → LinkState → Talk → Type 0
WholeFrom sockets (AtSocket socket) link t = IsWhole (service_at sockets socket) link t
WholeFrom sockets (Peer ip port) link t = Unit {0}

-- link i + 1 of the links
abbrev pub link_at : List LinkState → ℕ → LinkState
link_at links i = slice_index_or links i blank

-- the number of the connection at this index; they count from 1
abbrev pub number : ℕ → LinkNo
number i = record { 0 = i + 1 }

-- no link has the number n
abbrev pub IsOutside : ℕ → ℕ → Type 0
IsOutside count n = (n ≡ 0) ⊎ (count < n)

-- the links of the seat carry its part of the journal, and no request came over another link
pub record Session (seat : Seat) (sockets : List Socket) (journal : List Entry) (links : List LinkState) : Type 0 where
  pub each : (i : ℕ) → i < length links
      → CarriesFrom sockets (link_at links i).origin (link_at links i) (talk seat.0 (i + 1) journal)
  pub turns : (n : ℕ) → TakesTurns seat.0 n journal
  pub others : (n : ℕ) → IsOutside (length links) n → talk seat.0 n journal ≡ no_talk

-- each link of the seat was shut just once, and one that is not gone carries just its line
abbrev pub Done : Seat → List Socket → (LinkNo → Type 0) → List Entry → List LinkState → Type 0
Done seat sockets gone journal links = (i : ℕ) → i < length links → ((link_at links i).shuts ≡ 1)
    × ((gone (number i) → ⊥)
    → WholeFrom sockets (link_at links i).origin (link_at links i) (talk seat.0 (i + 1) journal))

-- the same of each link that is told
abbrev pub AreDone : Seat → List Socket → Told → (LinkNo → Type 0) → List Entry → Type 0
AreDone seat sockets told gone journal = IfSome told.links (Done seat sockets gone journal)
