-- The heads of a response: interim ones, which are skipped, and the one that tells how far the body goes.
use Rattle.std.specs.Prelude.{◌≡◌, ℕ, ◌+◌, ◌-◌, ◌≤◌, Bool, ◌&&◌, ◌||◌, ◌==◌, List, [], ◌∷◌, length, take, map, nat_lt}
use Rattle.std.specs.Prelude.{nat_le, if◌then◌else◌, codes, Result, Ok, Err}
use Rattle.httparse.specs.Grammar.{ResponseHead, print_response, status_code, ReadsResponse, HasNoResponse}
use Rattle.httparse.specs.Grammar.{MayBecomeResponse}
use Rattle.httparse.specs.Spans.{name_and_value}
use Rattle.http_message.specs.declared.extent.Extent.{Extent}
use Rattle.http_message.specs.declared.extent.Extent.TheVariants as extent
use Rattle.http_message.specs.declared.extent.Refusal.{Refusal}
use Rattle.http_message.specs.declared.extent.Refusal.TheVariants as refusal
use Rattle.http_message.specs.Extents.{extent_by, by_coding}
use Rattle.http_message.specs.Fields.{Pairs, values_of}
use Rattle.http_message.specs.Limits.{max_head, max_fields}
use Rattle.http_response.specs.declared.reach.Reach.{Reach}
use Rattle.http_response.specs.declared.reach.Reach.TheVariants as reach
use Rattle.http_response.specs.declared.reach.Told.{Told}
use Rattle.http_response.specs.declared.reach.Told.TheVariants as told

-- the names and the values of a head's fields, in order
abbrev pub pairs_of : ResponseHead → Pairs
pairs_of head = map name_and_value head.fields

-- the status of an interim response (RFC 9110, section 15.2)
abbrev pub is_interim : ℕ → Bool
is_interim status = nat_le 100 status && nat_lt status 200

-- a response to HEAD, and one of these statuses, has no body (RFC 9112, section 6.3)
abbrev pub is_bodiless : Bool → ℕ → Bool
is_bodiless to_head status = to_head || status == 204 || status == 304

-- the same extent, of a response: where no field tells it, the body goes up to the end of the bytes
abbrev pub reach_of : Result Extent Refusal → Result Reach Refusal
reach_of (Ok extent.Nothing) = Ok reach.End
reach_of (Ok (extent.Length size)) = Ok (reach.Length size)
reach_of (Ok extent.Chunked) = Ok reach.Chunked
reach_of (Err why) = Err why

-- by the values of Transfer-Encoding, and by those of Content-Length where there are none (RFC 9112, section 6.3)
abbrev pub reach_by : List (List ℕ) → List (List ℕ) → Result Reach Refusal
reach_by [] lengths = reach_of (extent_by lengths [])
reach_by (coding ∷ []) lengths = reach_of (by_coding coding)
reach_by codings lengths = Err refusal.Malformed

-- how far a body goes behind a head with these fields, or why they are refused
unfoldable pub field_reach : Pairs → Result Reach Refusal
field_reach fields = reach_by (values_of (codes "transfer-encoding") fields) (values_of (codes "content-length") fields)

-- the last head tells how far the body goes
abbrev pub last_told : Result Reach Refusal → Result Told Refusal
last_told (Ok reach) = Ok (told.Last reach)
last_told (Err why) = Err why

-- what a status and fields tell: behind an interim head another one stands
abbrev pub told_by : Bool → ℕ → Pairs → Result Told Refusal
told_by to_head status fields = if is_interim status then Ok told.Interim
    else if is_bodiless to_head status then Ok (told.Last reach.Nothing) else last_told (field_reach fields)

-- what a head tells, in the response to a HEAD request or another, or why it is refused: too many fields come first
unfoldable pub told_of : Bool → ResponseHead → Result Told Refusal
told_of to_head head = if nat_lt max_fields (length head.fields) then Err refusal.TooLarge
    else told_by to_head (status_code head) (pairs_of head)

-- the bytes begin with a head that ends, with so many bytes of heads before it, within the limit of all heads
pub record ReadsHead (before : ℕ) (bytes : List ℕ) (head : ResponseHead) (rest : List ℕ) : Type 0 where
  pub reads : ReadsResponse bytes head rest
  pub fits : before + length (print_response head) ≤ max_head

-- the bytes in which a head is looked for, with so many bytes of heads before them
abbrev pub window : ℕ → List ℕ → List ℕ
window before bytes = take (max_head - before) bytes

-- the same without its last place
abbrev pub front : ℕ → List ℕ → List ℕ
front before bytes = take (max_head - before - 1) bytes

-- what is refused in place of a head: bytes that begin none, and bytes that hold no whole one.
-- A byte at the window's last place that no head has there makes it too large, and not malformed.
abbrev pub RefusesHead : ℕ → List ℕ → Refusal → Type 0
RefusesHead before bytes refusal.Malformed =
    HasNoResponse (front before bytes) × (MayBecomeResponse (front before bytes) → ⊥)
RefusesHead before bytes refusal.TooLarge =
    (max_head ≤ before + length bytes) × HasNoResponse (window before bytes) × MayBecomeResponse (front before bytes)

-- the bytes begin with a head that tells this
pub record ReadsTelling
    (to_head : Bool) (before : ℕ) (bytes : List ℕ) (head : ResponseHead) (what : Told) (rest : List ℕ) : Type 0 where
  pub reads : ReadsHead before bytes head rest
  pub tells : told_of to_head head ≡ Ok what

-- the bytes begin with these heads, one behind another, all of interim responses; the heads have so many bytes before
-- and after
abbrev pub Skips : Bool → ℕ → List ℕ → List ResponseHead → ℕ → List ℕ → Type 0
Skips to_head before bytes [] after rest = (before ≡ after) × (bytes ≡ rest)
Skips to_head before bytes (head ∷ heads) after rest =
    (behind : List ℕ) × ReadsTelling to_head before bytes head told.Interim behind
    × Skips to_head (before + length (print_response head)) behind heads after rest

-- the bytes begin with interim heads, which have so many bytes together
pub record HasSkipped (to_head : Bool) (bytes : List ℕ) (size : ℕ) (rest : List ℕ) : Type 0 where
  pub heads : List ResponseHead
  pub skips : Skips to_head 0 bytes heads size rest
