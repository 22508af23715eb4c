-- What the steps through a request find.
use Rattle.std.specs.Prelude.{◌≡◌, ◌<◌, ◌≤◌, ◌⊎◌, ℕ, List, length, drop, Option, Some, None}
use Rattle.httparse.specs.Grammar.{RequestHead, ReadsRequest}
use Rattle.http_message.specs.declared.extent.Refusal.{Refusal}
use Rattle.http_message.specs.Fields.{closes}
use Rattle.http_message.specs.Limits.{max_fields}
use Rattle.http_message.specs.Steps.{IsReading}
use Rattle.http_in.specs.declared.request.Begun.{Begun}
use Rattle.http_in.specs.declared.request.Seen.{Seen}
use Rattle.http_in.specs.declared.request.Seen.TheVariants as seen
use Rattle.http_in.specs.declared.head.HeadSeen.{HeadSeen}
use Rattle.http_in.specs.declared.head.HeadSeen.TheVariants as head_seen
use Rattle.http_in.specs.Head.{ReadsHead, RefusesHead, pairs_of}
use Rattle.http_in.specs.Stream.{ReadsAsked, Reads, Refuses, RefusesAsked, IsUnfinished, request_of}

-- a head that was read, with what it asks, and chunks behind it that were read
pub record IsBegun (bytes : List ℕ) (b : Begun) : Type 0 where
  pub head : RequestHead
  pub url : List ℕ
  pub within : b.size ≤ length bytes
  pub asks : ReadsAsked bytes head (url, b.extent) (drop b.size bytes)
  pub made : b.request ≡ request_of head url None
  pub close : b.close ≡ closes head.minor (pairs_of head)
  pub reading : IsReading (drop b.size bytes) b.reader

-- nothing, or a head that was read
abbrev pub MayBegin : List ℕ → Option Begun → Type 0
MayBegin bytes None = Unit {0}
MayBegin bytes (Some b) = IsBegun bytes b

-- what stands at the front of bytes; where it is no whole request, the head may have been read
abbrev pub Sees : List ℕ → Seen → Type 0
Sees bytes (seen.Whole r close size) = (size ≤ length bytes) × Reads bytes r close (drop size bytes)
Sees bytes (seen.Later b) = IsUnfinished bytes × MayBegin bytes b
Sees bytes (seen.Refused why) = Refuses bytes why

-- a head at the front has more fields than it may have
abbrev pub IsHeadPastRoom : List ℕ → Type 0
IsHeadPastRoom bytes = (h : RequestHead) (rest : List ℕ) → ReadsRequest bytes h rest → max_fields < length h.fields

-- what stands at the front of bytes in place of a head and what it asks
abbrev pub BeginsWith : List ℕ → HeadSeen → Type 0
BeginsWith bytes head_seen.Later = ((h : RequestHead) (rest : List ℕ) → ReadsHead bytes h rest → ⊥) × ((why : Refusal) → RefusesHead bytes why → ⊥)
BeginsWith bytes (head_seen.Whole b) = IsBegun bytes b
BeginsWith bytes (head_seen.Refused why) = RefusesHead bytes why ⊎ RefusesAsked bytes why

-- the same, of bytes that a whole head begins
abbrev pub Accepts : List ℕ → HeadSeen → Type 0
Accepts bytes head_seen.Later = ⊥
Accepts bytes (head_seen.Whole b) = IsBegun bytes b
Accepts bytes (head_seen.Refused why) = RefusesAsked bytes why
