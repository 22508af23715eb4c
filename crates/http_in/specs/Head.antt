-- The head of a request, what is asked of it, and what it asks.
use Rattle.std.specs.Prelude.{ℕ, ◌≤◌, Bool, List, [], ◌∷◌, ◌++◌, length, take, map, nat_lt, nat_eq, if◌then◌else◌, codes, Option, Some, None, Result, Ok, Err}
use Rattle.std.specs.List.{starts_with}
use Rattle.httparse.specs.Grammar.{RequestHead, print_request, ReadsRequest, HasNoRequest, MayBecomeRequest}
use Rattle.httparse.specs.Spans.{name_and_value}
use Rattle.http_message.specs.declared.extent.Extent.{Extent}
use Rattle.http_message.specs.declared.extent.Refusal.{Refusal}
use Rattle.http_message.specs.declared.extent.Refusal.TheVariants as refusal
use Rattle.http_message.specs.Extents.{extent_of}
use Rattle.http_message.specs.Fields.{Pairs, values_of}
use Rattle.http_message.specs.Limits.{max_head, max_fields}
use Rattle.wd_url.specs.Url.{url_text}

-- the bytes begin with a head of at most so many bytes (RFC 9112, section 2.1)
pub record ReadsHead (bytes : List ℕ) (head : RequestHead) (rest : List ℕ) : Type 0 where
  pub reads : ReadsRequest bytes head rest
  pub fits : length (print_request head) ≤ max_head

-- the bytes in which a head is looked for
abbrev pub window : List ℕ → List ℕ
window bytes = take max_head bytes

-- what is refused in place of a head: bytes that begin none, and bytes that hold no whole one
abbrev pub RefusesHead : List ℕ → Refusal → Type 0
RefusesHead bytes refusal.Malformed = HasNoRequest (window bytes) × (MayBecomeRequest (window bytes) → ⊥)
RefusesHead bytes refusal.TooLarge = (max_head ≤ length bytes) × HasNoRequest (window bytes) × MayBecomeRequest (window bytes)

-- the names and the values of a head's fields, in order
abbrev pub pairs_of : RequestHead → Pairs
pairs_of head = map name_and_value head.fields

-- the target is a path (RFC 9112, section 3.2.1)
abbrev pub is_path : List ℕ → Bool
is_path target = starts_with nat_eq target (codes "/")

-- the target is an absolute URL of the scheme `http` (RFC 9112, section 3.2.2)
abbrev pub is_absolute : List ℕ → Bool
is_absolute target = starts_with nat_eq target (codes "http://")

-- the bytes that spell the URL: the absolute target, or `http://`, host and path joined (RFC 9112, section 3.3)
abbrev pub url_bytes : List ℕ → List ℕ → Option (List ℕ)
url_bytes host target = if is_absolute target then Some target else if is_path target then Some (codes "http://" ++ (host ++ target)) else None

-- the text of the URL that the bytes spell, where there are any
abbrev pub url_of_bytes : Option (List ℕ) → Option (List ℕ)
url_of_bytes None = None
url_of_bytes (Some bytes) = url_text bytes

-- the text of the URL, by the values of Host, of which there is exactly one, and the target
abbrev pub url_by : List (List ℕ) → List ℕ → Option (List ℕ)
url_by (host ∷ []) target = url_of_bytes (url_bytes host target)
url_by hosts target = None

-- the text of the URL that a head asks for, by its Host fields and its target
unfoldable pub url_of : RequestHead → Option (List ℕ)
url_of head = url_by (values_of (codes "host") (pairs_of head)) head.target

-- a URL and how far a body goes
abbrev pub Asked : Type 0
Asked = List ℕ × Extent

-- a head without a URL is malformed, and then its fields may refuse a body
abbrev pub asked_by : Option (List ℕ) → Result Extent Refusal → Result Asked Refusal
asked_by None extent = Err refusal.Malformed
asked_by (Some url) (Ok extent) = Ok (url, extent)
asked_by (Some url) (Err why) = Err why

-- what a head asks, or why it is refused: too many fields come first
unfoldable pub asked : RequestHead → Result Asked Refusal
asked head = if nat_lt max_fields (length head.fields) then Err refusal.TooLarge else asked_by (url_of head) (extent_of (pairs_of head))
