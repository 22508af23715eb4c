-- The requests in the bytes of a link.
use Rattle.std.specs.Prelude.{◌≡◌, ◌⊎◌, ℕ, Bool, true, false, ◌||◌, List, [], ◌∷◌, ◌++◌, length, map, Option, Some, None, Ok, Err}
use Rattle.std.specs.Char.{to_ascii_lowercase}
use Rattle.httparse.specs.Grammar.{RequestHead}
use Rattle.http_message.specs.declared.extent.Extent.{Extent}
use Rattle.http_message.specs.declared.extent.Extent.TheVariants as extent
use Rattle.http_message.specs.declared.extent.Refusal.{Refusal}
use Rattle.http_message.specs.declared.extent.Refusal.TheVariants as refusal
use Rattle.http_message.specs.Chunks.{ReadsChunked, RefusesChunked}
use Rattle.http_message.specs.Fields.{Pairs, closes}
use Rattle.wd_base.specs.declared.http.ReqData.{ReqData}
use Rattle.http_in.specs.Head.{Asked, ReadsHead, RefusesHead, asked, pairs_of}

-- a body, which is present where the head has a field for it (RFC 9112, section 6)
abbrev pub ReadsBody : Extent → List ℕ → Option (List ℕ) → List ℕ → Type 0
ReadsBody extent.Nothing bytes body rest = (body ≡ None) × (bytes ≡ rest)
ReadsBody (extent.Length size) bytes body rest = (text : List ℕ) × (body ≡ Some text) × (length text ≡ size) × (bytes ≡ text ++ rest)
ReadsBody extent.Chunked bytes body rest = (text : List ℕ) × (body ≡ Some text) × ReadsChunked bytes text rest

-- what is refused in place of a body
abbrev pub RefusesBody : Extent → List ℕ → Refusal → Type 0
RefusesBody extent.Nothing bytes why = ⊥
RefusesBody (extent.Length size) bytes why = ⊥
RefusesBody extent.Chunked bytes why = RefusesChunked bytes why

-- the fields with small letters in their names
abbrev pub small_names : Pairs → Pairs
small_names fields = map (λ f. (map to_ascii_lowercase f.0, f.1)) fields

-- what the journal has of a head with this URL and this body: field names are in small letters
abbrev pub request_of : RequestHead → List ℕ → Option (List ℕ) → ReqData
request_of head url body = record { method = head.method; url = url; fields = small_names (pairs_of head); body = body }

-- the bytes begin with a head that asks this
pub record ReadsAsked (bytes : List ℕ) (head : RequestHead) (what : Asked) (rest : List ℕ) : Type 0 where
  pub reads : ReadsHead bytes head rest
  pub asks : asked head ≡ Ok what

-- the bytes begin with this request: a head and its body; whether the link is closed behind it
pub record Reads (bytes : List ℕ) (request : ReqData) (close : Bool) (rest : List ℕ) : Type 0 where
  pub head : RequestHead
  pub what : Asked
  pub behind : List ℕ
  pub body : Option (List ℕ)
  pub asks : ReadsAsked bytes head what behind
  pub reads : ReadsBody what.1 behind body rest
  pub made : request ≡ request_of head what.0 body
  pub closing : close ≡ closes head.minor (pairs_of head)

-- a head that is refused for what it asks
pub record RefusesAsked (bytes : List ℕ) (why : Refusal) : Type 0 where
  pub head : RequestHead
  pub rest : List ℕ
  pub reads : ReadsHead bytes head rest
  pub refuses : asked head ≡ Err why

-- a head whose body is refused
pub record RefusesBehind (bytes : List ℕ) (why : Refusal) : Type 0 where
  pub head : RequestHead
  pub what : Asked
  pub behind : List ℕ
  pub asks : ReadsAsked bytes head what behind
  pub refuses : RefusesBody what.1 behind why

-- what is refused in place of a request
abbrev pub Refuses : List ℕ → Refusal → Type 0
Refuses bytes why = RefusesHead bytes why ⊎ RefusesAsked bytes why ⊎ RefusesBehind bytes why

-- the status of a refusal: Bad Request or Content Too Large (RFC 9110, sections 15.5.1 and 15.5.14)
abbrev pub status_of : Refusal → ℕ
status_of refusal.Malformed = 400
status_of refusal.TooLarge = 413

-- the bytes are refused with this status
abbrev pub IsFault : List ℕ → ℕ → Type 0
IsFault bytes code = (why : Refusal) × (code ≡ status_of why) × Refuses bytes why

-- neither a whole request nor what is refused is there yet
pub record IsUnfinished (bytes : List ℕ) : Type 0 where
  pub request : (r : ReqData) (close : Bool) (rest : List ℕ) → Reads bytes r close rest → ⊥
  pub fault : (why : Refusal) → Refuses bytes why → ⊥

-- requests, each with whether its link is closed behind it
abbrev pub Requests : Type 0
Requests = List (ReqData × Bool)

-- the bytes begin with these requests, of which none but the last closes the link
abbrev pub ReadsAll : List ℕ → Requests → List ℕ → Type 0
ReadsAll bytes [] rest = bytes ≡ rest
ReadsAll bytes (r ∷ rs) rest = (mid : List ℕ) × Reads bytes r.0 r.1 mid × (r.1 ≡ true → rs ≡ []) × ReadsAll mid rs rest

-- one of the requests closes the link
abbrev pub closing : Requests → Bool
closing [] = false
closing (r ∷ rs) = r.1 || closing rs

-- what stands behind the last request: nothing is read behind a closing one
abbrev pub EndsAs : Bool → List ℕ → Option ℕ → Type 0
EndsAs true rest end = end ≡ None
EndsAs false rest None = IsUnfinished rest
EndsAs false rest (Some code) = IsFault rest code

-- the requests in the bytes, and the code of a refusal behind them, or nothing
pub record RequestsOf (bytes : List ℕ) (requests : Requests) (end : Option ℕ) : Type 0 where
  pub rest : List ℕ
  pub reads : ReadsAll bytes requests rest
  pub ends : EndsAs (closing requests) rest end
