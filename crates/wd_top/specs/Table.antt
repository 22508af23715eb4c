-- The table of a seat: one entry for each link that was ever given, and the list of those that may be open.
use Rattle.std.specs.Prelude.{◌≡◌, ◌⊎◌, ℕ, ◌<◌, ◌+◌, Bool, true, false, List, [], ◌∷◌, length, cond, IfSome}
use Rattle.std.specs.Prelude.{slice_index_or, map}
use Rattle.wd_base.specs.declared.ids.LinkNo.{LinkNo}
use Rattle.wd_base.specs.declared.ids.Seat.{Seat}
use Rattle.wd_base.specs.declared.ids.SockNo.{SockNo}
use Rattle.wd_base.specs.declared.config.Addr.{Addr}
use Rattle.wd_base.specs.declared.config.Socket.{Socket}
use Rattle.wd_ports.specs.declared.told.LinkState.{LinkState}
use Rattle.wd_ports.specs.declared.told.LinkOrigin.TheVariants.{Socket as AtSocket}
use Rattle.wd_ports.specs.Told.{Told}
use Rattle.wd_machine.specs.declared.journal.Entry.{Entry}
use Rattle.http_in.specs.declared.conn.Phase.TheVariants as phase
use Rattle.wd_top.specs.declared.seat.link.LinkRun.{LinkRun}
use Rattle.wd_top.specs.declared.seat.link.Stage.{Stage}
use Rattle.wd_top.specs.declared.seat.link.Stage.TheVariants.{Open, Shut, Stopped}
use Rattle.wd_top.specs.Talk.{Talk, talk, no_talk}
use Rattle.wd_top.specs.Session.{service_at, link_at, number, IsOutside}
use Rattle.wd_top.specs.Board.{BoardView}
use Rattle.wd_top.specs.Steps.{TendedAs}

-- the addresses of the sockets
abbrev pub addresses : List Socket → List Addr
addresses sockets = map (λ socket. socket.address) sockets

-- a link that was just accepted at a socket
abbrev pub new_run : SockNo → LinkRun
new_run socket = record {
  socket = socket;
  conn = record { queue = []; phase = phase.Open };
  stage = Open;
  ready = false;
}

-- what stands where the table has no entry
abbrev pub blank_run : LinkRun
blank_run = new_run (record { 0 = 0 })

-- the table's entry at this index
abbrev pub run_at : List LinkRun → ℕ → LinkRun
run_at runs i = slice_index_or runs i blank_run

-- the link came at the socket that the table has, and what the table says of it holds
abbrev pub IsTended : List Socket → LinkRun → LinkState → Talk → Type 0 → Type 0
IsTended sockets run link t gone = (link.origin ≡ AtSocket run.socket)
    × TendedAs run.stage (service_at sockets run.socket) run link t gone

-- the table has one entry for each connection, and what each entry says is true
abbrev pub AreTended : Seat → List Socket → (LinkNo → Type 0) → List Entry → List LinkRun → List LinkState
    → Type 0
AreTended seat sockets gone j runs links = (length links ≡ length runs) × ((i : ℕ) → i < length runs
    → IsTended sockets (run_at runs i) (link_at links i) (talk seat.0 (i + 1) j) (gone (number i)))

-- the table is right of every link that is told
pub record Tended (seat : Seat) (sockets : List Socket) (told : Told) (usable gone : LinkNo → Type 0)
    (j : List Entry) (runs : List LinkRun) : Type 0 where
  pub links : IfSome told.links (AreTended seat sockets gone j runs)
  pub handle : (i : ℕ) → i < length runs → (run_at runs i).stage ≡ Open → usable (number i)
  pub places : (i : ℕ) → i < length runs → (run_at runs i).socket.0 < length sockets
  pub quiet : (n : ℕ) → IsOutside (length runs) n → talk seat.0 n j ≡ no_talk
  pub given : told.given ≡ length runs

-- the same of a port, by what it tells, and of a board
abbrev pub IsTableOf : {P : Type 0} → (P → Told) → (usable gone : P → LinkNo → Type 0) → P → BoardView → List LinkRun
    → Type 0
IsTableOf told usable gone port board runs =
    Tended board.0.seat board.0.world.sockets (told port) (usable port) (gone port) board.1 runs

-- what is told of files and hosts is as it was
abbrev pub SameFiles : Told → Told → Type 0
SameFiles old new = (new.files ≡ old.files) × (new.hosts ≡ old.hosts)

-- the sockets, whether `accept` has answered `Closed`, files and hosts are as they were
abbrev pub Kept : Told → Told → Type 0
Kept old new = (new.sockets ≡ old.sockets) × (new.closed ≡ old.closed) × SameFiles old new

-- every connection of the table has been shut
abbrev pub AreShut : List LinkRun → Type 0
AreShut runs = (i : ℕ) → i < length runs → (run_at runs i).stage ≡ Shut

-- the connection has been shut
abbrev pub is_shut : Stage → Bool
is_shut Open = false
is_shut Shut = true
is_shut Stopped = false

-- the number is in the list
abbrev pub In : ℕ → List ℕ → Type 0
In i [] = ⊥
In i (x ∷ xs) = (x ≡ i) ⊎ In i xs

-- every number of the list is below the bound
abbrev pub AllBelow : ℕ → List ℕ → Type 0
AllBelow n [] = Unit {0}
AllBelow n (x ∷ xs) = (x < n) × AllBelow n xs

-- the list names places of the table
pub record AreWithin (live : List ℕ) (n : ℕ) : Type 0 where
  pub below : AllBelow n live

-- a link that is not listed was shut
pub record Covers (live : List ℕ) (runs : List LinkRun) : Type 0 where
  pub each : (i : ℕ) → i < length runs → ((run_at runs i).stage ≡ Shut) ⊎ In i live

-- the listed links that were not shut
abbrev pub keep : List LinkRun → List ℕ → List ℕ
keep runs [] = []
keep runs (x ∷ xs) = cond (is_shut (run_at runs x).stage) (keep runs xs) (x ∷ keep runs xs)
