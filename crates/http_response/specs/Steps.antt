-- What the steps through a response find.
use Rattle.std.specs.Prelude.{◌≡◌, ◌<◌, ◌≤◌, ◌⊎◌, ℕ, Bool, List, [], length, drop}
use Rattle.httparse.specs.Grammar.{ResponseHead, print_response, ReadsResponse, HasNoResponse, NeverHasResponse}
use Rattle.httparse.specs.Grammar.{MayBecomeResponse}
use Rattle.httparse.specs.Spans.{IsResponseWithin, IsResponseOf}
use Rattle.httparse.specs.declared.spans.HeaderSpan.{HeaderSpan}
use Rattle.http_message.specs.declared.extent.Refusal.{Refusal}
use Rattle.http_message.specs.Limits.{max_head, max_fields}
use Rattle.http_message.specs.Steps.{IsReading}
use Rattle.http_response.specs.declared.reach.Told.{Told}
use Rattle.http_response.specs.declared.reach.Told.TheVariants as told
use Rattle.http_response.specs.declared.find.Found.{Found}
use Rattle.http_response.specs.declared.find.Found.TheVariants as found
use Rattle.http_response.specs.declared.head.HeadSeen.{HeadSeen}
use Rattle.http_response.specs.declared.head.HeadSeen.TheVariants as head_seen
use Rattle.http_response.specs.declared.response.Begun.{Begun}
use Rattle.http_response.specs.declared.response.HeadsSeen.{HeadsSeen}
use Rattle.http_response.specs.declared.response.HeadsSeen.TheVariants as heads_seen
use Rattle.http_response.specs.declared.response.Progress.{Progress}
use Rattle.http_response.specs.declared.response.Progress.TheVariants as progress
use Rattle.http_response.specs.declared.response.Seen.{Seen}
use Rattle.http_response.specs.declared.response.Seen.TheVariants as seen
use Rattle.http_response.specs.Head.{ReadsHead, RefusesHead, ReadsTelling, HasSkipped, window}
use Rattle.http_response.specs.Response.{RefusesTold, Refuses, Holds, IsUnfinished, reply_of}

-- a head at the front has more fields than it may have
pub record HasManyFields (bytes : List ℕ) : Type 0 where
  pub head : ResponseHead
  pub rest : List ℕ
  pub reads : ReadsResponse bytes head rest
  pub many : max_fields < length head.fields

-- a head at the front would have more fields than it may have
abbrev pub IsPastRoom : List ℕ → Type 0
IsPastRoom bytes =
    (head : ResponseHead) (rest : List ℕ) → ReadsResponse bytes head rest → max_fields < length head.fields

-- what the parser found: a head whose fields stand in the places, one of too many fields, less than a head, or none ever
abbrev pub IsFoundIn : List ℕ → List HeaderSpan → Found → Type 0
IsFoundIn bytes fields (found.Whole head) = IsResponseWithin bytes fields head × IsResponseOf bytes fields head
IsFoundIn bytes fields found.Many = HasManyFields bytes
IsFoundIn bytes fields found.Later = HasNoResponse bytes × MayBecomeResponse bytes
IsFoundIn bytes fields found.Never = NeverHasResponse bytes

-- the same, where a head at the front would have more fields than there are places
abbrev pub IsWideIn : List ℕ → Found → Type 0
IsWideIn bytes (found.Whole head) = ⊥
IsWideIn bytes found.Many = HasManyFields bytes
IsWideIn bytes found.Later = HasNoResponse bytes × MayBecomeResponse bytes
IsWideIn bytes found.Never = NeverHasResponse bytes

-- so many bytes are a head that tells this, with so many bytes of heads before it
pub record IsHead (to_head : Bool) (before : ℕ) (bytes : List ℕ) (what : Told) (size : ℕ) : Type 0 where
  pub head : ResponseHead
  pub size_is : size ≡ length (print_response head)
  pub within : size ≤ length bytes
  pub tells : ReadsTelling to_head before bytes head what (drop size bytes)

-- neither a head nor what is refused in place of one is there
pub record HasNoHead (before : ℕ) (bytes : List ℕ) : Type 0 where
  pub head : (h : ResponseHead) (rest : List ℕ) → ReadsHead before bytes h rest → ⊥
  pub refusal : (why : Refusal) → RefusesHead before bytes why → ⊥

-- what stands at the front of bytes in place of a head and what it tells
abbrev pub BeginsWith : Bool → ℕ → List ℕ → HeadSeen → Type 0
BeginsWith to_head before bytes head_seen.Later = HasNoHead before bytes
BeginsWith to_head before bytes (head_seen.Interim size) = IsHead to_head before bytes told.Interim size
BeginsWith to_head before bytes (head_seen.Last reply reach size) =
    (h : IsHead to_head before bytes (told.Last reach) size) × (reply ≡ reply_of h.head [])
BeginsWith to_head before bytes (head_seen.Refused why) =
    RefusesHead before bytes why ⊎ RefusesTold to_head before bytes why

-- what a head shows that the parser found in the window, with so many bytes of heads before it
abbrev pub Accepts : Bool → List ℕ → HeadSeen → Type 0
Accepts to_head found seen = (before : ℕ) (bytes : List ℕ) → before ≤ max_head → found ≡ window before bytes
    → BeginsWith to_head before bytes seen

-- interim heads of so many bytes were read
pub record IsSkipped (to_head : Bool) (bytes : List ℕ) (at : ℕ) : Type 0 where
  pub within : at ≤ length bytes
  pub fits : at ≤ max_head
  pub skipped : HasSkipped to_head bytes at (drop at bytes)

-- the last head was read, and chunks behind it
pub record IsBegun (bytes : List ℕ) (b : Begun) : Type 0 where
  pub before : ℕ
  pub rest : List ℕ
  pub skipped : HasSkipped b.to_head bytes before rest
  pub head : ResponseHead
  pub within : b.size ≤ length bytes
  pub tells : ReadsTelling b.to_head before rest head (told.Last b.reach) (drop b.size bytes)
  pub made : b.reply ≡ reply_of head []
  pub reading : IsReading (drop b.size bytes) b.reader

-- the heads of a response to HEAD or another were read
abbrev pub HasBegun : Bool → List ℕ → Begun → Type 0
HasBegun to_head bytes b = (b.to_head ≡ to_head) × IsBegun bytes b

-- how far a response was read
abbrev pub IsProgress : Bool → List ℕ → Progress → Type 0
IsProgress to_head bytes (progress.Heads at) = IsSkipped to_head bytes at
IsProgress to_head bytes (progress.Body b) = HasBegun to_head bytes b

-- what stands at the front of bytes in place of all heads
abbrev pub BeginsWithAll : Bool → List ℕ → HeadsSeen → Type 0
BeginsWithAll to_head bytes (heads_seen.Later at) = IsSkipped to_head bytes at × HasNoHead at (drop at bytes)
BeginsWithAll to_head bytes (heads_seen.Whole b) = HasBegun to_head bytes b
BeginsWithAll to_head bytes (heads_seen.Refused why) = Refuses to_head bytes why

-- what all bytes of a link show; where it is no whole response, how far it was read
abbrev pub Sees : Bool → Bool → List ℕ → Seen → Type 0
Sees to_head ended bytes (seen.Whole reply) = Holds to_head ended bytes reply
Sees to_head ended bytes (seen.Later p) = IsUnfinished to_head ended bytes × IsProgress to_head bytes p
Sees to_head ended bytes (seen.Refused why) = Refuses to_head bytes why
