-- How a call comes out: its status and its text.
use Rattle.std.specs.Prelude.{◌≡◌, ◌⊎◌, ◌≤◌, ℕ, List, [], ◌++◌, length, take, Option, codes}
use Rattle.std.specs.Fmt.{decimal}
use Rattle.wd_base.specs.declared.config.Addr.{Addr}
use Rattle.wd_base.specs.declared.ids.Seat.{Seat}
use Rattle.wd_plan.specs.Refusal.{line_end, status_of as refusal_status, text_of as refusal_text}
use Rattle.wd_ports.specs.Faults.{Rose}
use Rattle.wd_ports.specs.Sink.{with_bytes}
use Rattle.wd_top.specs.declared.outcome.Outcome.{Outcome}
use Rattle.wd_top.specs.declared.outcome.Outcome.TheVariants as outcome

-- the exit status of an outcome
abbrev pub status_of : Outcome → ℕ
status_of outcome.Done = 0
status_of (outcome.Checked services sockets) = 0
status_of (outcome.Refused why) = refusal_status why
status_of (outcome.NoPort seat) = 7
status_of (outcome.NoListen address) = 7
status_of outcome.NoMemory = 9

-- what is printed of a configuration that was checked: how many services and sockets it has
unfoldable pub checked_text : ℕ → ℕ → List ℕ
checked_text services sockets = codes "ok " ++ (decimal services ++ codes " ") ++ decimal sockets ++ line_end

-- what is printed where a seat has no port
unfoldable pub port_text : Seat → List ℕ
port_text seat = codes "error: port " ++ (decimal seat.0 ++ line_end)

-- what is printed where a port cannot listen at an address
unfoldable pub listen_text : Addr → List ℕ
listen_text address = codes "error: listen " ++ (address.host ++ codes ":") ++ decimal address.port ++ line_end

-- what is printed of an outcome
abbrev pub text_of : Outcome → List ℕ
text_of outcome.Done = []
text_of (outcome.Checked services sockets) = checked_text services sockets
text_of (outcome.Refused why) = refusal_text why
text_of (outcome.NoPort seat) = port_text seat
text_of (outcome.NoListen address) = listen_text address
text_of outcome.NoMemory = []

-- The front of the outcome's text was printed: all of it, and then the status is the outcome's, or else 4, where the
-- sink's count rose, or 9. The count did not fall.
pub record Reports (o : Outcome) (status : ℕ) (held held' : Option (List ℕ)) (count count' : ℕ) : Type 0 where
  pub printed : ℕ
  pub tells : held' ≡ with_bytes (take printed (text_of o)) held
  pub later : count ≤ count'
  pub which : ((status ≡ status_of o) × (printed ≡ length (text_of o)))
      ⊎ (((status ≡ 4) × Rose count count') ⊎ (status ≡ 9))

-- the same of a sink, by what it holds and how often it failed
abbrev pub ReportsTo : {K : Type 0} → (K → Option (List ℕ)) → (K → ℕ) → K → K → Outcome → ℕ → Type 0
ReportsTo held failures out out' o status = Reports o status (held out) (held out') (failures out) (failures out')
