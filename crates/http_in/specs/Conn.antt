-- What is read of a link, piece by piece.
use Rattle.std.specs.Prelude.{◌≡◌, ℕ, Bool, true, false, List, ◌++◌}
use Rattle.http_in.specs.declared.conn.Fed.{Fed}
use Rattle.http_in.specs.declared.conn.Fed.TheVariants as fed
use Rattle.http_in.specs.declared.conn.Phase.{Phase}
use Rattle.http_in.specs.declared.conn.Phase.TheVariants as phase
use Rattle.http_in.specs.Stream.{Reads, IsUnfinished, IsFault}

-- a connection: the bytes that are not yet taken, and whether the stream is over
pub record Link : Type 0 where
  pub queue : List ℕ
  pub phase : Phase

-- whether further requests are read behind one, by whether it closes the link
abbrev pub phase_after : Bool → Phase
phase_after true = phase.Closed
phase_after false = phase.Open

-- what an open connection answers when the bytes that it has not read are these
abbrev pub FeedsOpen : List ℕ → Fed → Link → Type 0
FeedsOpen bytes (fed.Request r close) new = Reads bytes r close new.queue × (new.phase ≡ phase_after close)
FeedsOpen bytes fed.Later new = (new.queue ≡ bytes) × (new.phase ≡ phase.Open) × IsUnfinished bytes
FeedsOpen bytes (fed.Bad code) new = (new.phase ≡ phase.Bad code) × (new.queue ≡ bytes) × IsFault bytes code

-- the same in each phase: behind a closing request nothing is read, and a refusal stands
abbrev pub FeedsAt : Phase → Link → List ℕ → Fed → Link → Type 0
FeedsAt phase.Open old piece f new = FeedsOpen (old.queue ++ piece) f new
FeedsAt phase.Closed old piece f new = (f ≡ fed.Later) × (new ≡ old)
FeedsAt (phase.Bad code) old piece f new = (f ≡ fed.Bad code) × (new ≡ old)

-- what a connection answers to a piece: behind a closing request nothing is read, and a refusal stands
abbrev pub Feeds : Link → List ℕ → Fed → Link → Type 0
Feeds old piece f new = FeedsAt old.phase old piece f new
