-- A response that is read piece by piece.
use Rattle.std.specs.Prelude.{◌≡◌, ℕ, Bool, List, ◌++◌}
use Rattle.http_response.specs.declared.reader.Heard.{Heard}
use Rattle.http_response.specs.declared.reader.Heard.TheVariants as heard
use Rattle.http_response.specs.declared.reader.Phase.{Phase}
use Rattle.http_response.specs.declared.reader.Phase.TheVariants as phase
use Rattle.http_response.specs.Response.{Hears}

-- a response on its way: whether it is to a HEAD request, all bytes that came, and whether it is read on
pub record Coming : Type 0 where
  pub to_head : Bool
  pub bytes : List ℕ
  pub phase : Phase

-- whether the response is read on behind an answer
abbrev pub phase_after : Heard → Phase
phase_after heard.Later = phase.Open
phase_after (heard.Reply reply) = phase.Closed
phase_after heard.Bad = phase.Bad
phase_after heard.Large = phase.Large

-- what is answered to a piece of a response that is read on, with which the bytes have ended or not: what all bytes are
abbrev pub FeedsOpen : Coming → List ℕ → Bool → Heard → Coming → Type 0
FeedsOpen old piece ended heard new =
    Hears old.to_head ended (old.bytes ++ piece) heard
    × (new ≡ record { to_head = old.to_head; bytes = old.bytes ++ piece; phase = phase_after heard })

-- the same in each phase: behind a reply nothing is read, and a refusal stands
abbrev pub FeedsAt : Phase → Coming → List ℕ → Bool → Heard → Coming → Type 0
FeedsAt phase.Open old piece ended h new = FeedsOpen old piece ended h new
FeedsAt phase.Closed old piece ended h new = (h ≡ heard.Later) × (new ≡ old)
FeedsAt phase.Bad old piece ended h new = (h ≡ heard.Bad) × (new ≡ old)
FeedsAt phase.Large old piece ended h new = (h ≡ heard.Large) × (new ≡ old)

-- what is answered to a piece
abbrev pub Feeds : Coming → List ℕ → Bool → Heard → Coming → Type 0
Feeds old piece ended h new = FeedsAt old.phase old piece ended h new
