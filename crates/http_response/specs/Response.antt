-- The response in the bytes that a peer sends on a link.
use Rattle.std.specs.Prelude.{◌≡◌, ◌<◌, ◌≤◌, ◌⊎◌, ℕ, Bool, true, false, not, List, [], ◌++◌, length, map, filter}
use Rattle.std.specs.Prelude.{Err}
use Rattle.std.specs.Char.{to_ascii_lowercase}
use Rattle.httparse.specs.Grammar.{ResponseHead, status_code}
use Rattle.http_message.specs.declared.extent.Refusal.{Refusal}
use Rattle.http_message.specs.declared.extent.Refusal.TheVariants as refusal
use Rattle.http_message.specs.Chunks.{ReadsChunked, RefusesChunked}
use Rattle.http_message.specs.Fields.{Pairs}
use Rattle.http_message.specs.Limits.{max_body}
use Rattle.http_text.specs.Fields.{is_own_field}
use Rattle.wd_base.specs.declared.http.Reply.{Reply}
use Rattle.wd_base.specs.declared.http.Why.TheVariants as why
use Rattle.http_response.specs.declared.reach.Reach.{Reach}
use Rattle.http_response.specs.declared.reach.Reach.TheVariants as reach
use Rattle.http_response.specs.declared.reach.Told.TheVariants as told
use Rattle.http_response.specs.declared.reader.Heard.{Heard}
use Rattle.http_response.specs.declared.reader.Heard.TheVariants as heard
use Rattle.http_response.specs.Head.{pairs_of, told_of, ReadsHead, RefusesHead, ReadsTelling, HasSkipped}

-- the body at the front of bytes that have ended or not: one up to the end is whole once they have
abbrev pub ReadsBody : Bool → Reach → List ℕ → List ℕ → Type 0
ReadsBody ended reach.Nothing bytes body = body ≡ []
ReadsBody ended (reach.Length size) bytes body = (rest : List ℕ) × (length body ≡ size) × (bytes ≡ body ++ rest)
ReadsBody ended reach.Chunked bytes body = (rest : List ℕ) × ReadsChunked bytes body rest
ReadsBody ended reach.End bytes body = (ended ≡ true) × (body ≡ bytes) × (length bytes ≤ max_body)

-- what is refused in place of a body
abbrev pub RefusesBody : Reach → List ℕ → Refusal → Type 0
RefusesBody reach.Nothing bytes why = ⊥
RefusesBody (reach.Length size) bytes why = ⊥
RefusesBody reach.Chunked bytes why = RefusesChunked bytes why
RefusesBody reach.End bytes why = (why ≡ refusal.TooLarge) × (max_body < length bytes)

-- the fields with small letters in their names, without those that are of one link alone and the length
abbrev pub kept_fields : Pairs → Pairs
kept_fields fields = filter (λ f. not (is_own_field f.0)) (map (λ f. (map to_ascii_lowercase f.0, f.1)) fields)

-- the reply of a head and a body
abbrev pub reply_of : ResponseHead → List ℕ → Reply
reply_of head body = record {
  status = status_code head;
  fields = kept_fields (pairs_of head);
  body = body;
  why = why.Service;
}

-- the bytes hold this reply, with so many bytes of interim heads before them
pub record HoldsNext (to_head ended : Bool) (before : ℕ) (bytes : List ℕ) (reply : Reply) : Type 0 where
  pub head : ResponseHead
  pub reach : Reach
  pub behind : List ℕ
  pub body : List ℕ
  pub tells : ReadsTelling to_head before bytes head (told.Last reach) behind
  pub reads : ReadsBody ended reach behind body
  pub made : reply ≡ reply_of head body

-- a head that is refused for what it tells
pub record RefusesTold (to_head : Bool) (before : ℕ) (bytes : List ℕ) (why : Refusal) : Type 0 where
  pub head : ResponseHead
  pub rest : List ℕ
  pub reads : ReadsHead before bytes head rest
  pub refuses : told_of to_head head ≡ Err why

-- a head whose body is refused
pub record RefusesBehind (to_head : Bool) (before : ℕ) (bytes : List ℕ) (why : Refusal) : Type 0 where
  pub head : ResponseHead
  pub reach : Reach
  pub behind : List ℕ
  pub tells : ReadsTelling to_head before bytes head (told.Last reach) behind
  pub refuses : RefusesBody reach behind why

-- what is refused in place of a response, with so many bytes of interim heads before the bytes
abbrev pub RefusesNext : Bool → ℕ → List ℕ → Refusal → Type 0
RefusesNext to_head before bytes why =
    RefusesHead before bytes why ⊎ RefusesTold to_head before bytes why ⊎ RefusesBehind to_head before bytes why

-- the bytes hold this reply: interim heads, a head and its body; what stands behind the body is not read
pub record Holds (to_head ended : Bool) (bytes : List ℕ) (reply : Reply) : Type 0 where
  pub before : ℕ
  pub rest : List ℕ
  pub skipped : HasSkipped to_head bytes before rest
  pub holds : HoldsNext to_head ended before rest reply

-- the bytes are refused: of each longer list they stay so, and for this cause alone
pub record Refuses (to_head : Bool) (bytes : List ℕ) (why : Refusal) : Type 0 where
  pub before : ℕ
  pub rest : List ℕ
  pub skipped : HasSkipped to_head bytes before rest
  pub refuses : RefusesNext to_head before rest why

-- neither a reply nor what is refused is there
pub record IsUnfinished (to_head ended : Bool) (bytes : List ℕ) : Type 0 where
  pub reply : (r : Reply) → Holds to_head ended bytes r → ⊥
  pub refusal : (why : Refusal) → Refuses to_head bytes why → ⊥

-- what bytes are that are refused
abbrev pub refused : Refusal → Heard
refused refusal.Malformed = heard.Bad
refused refusal.TooLarge = heard.Large

-- what bytes are that hold no reply and are not refused: those that have ended are bad
abbrev pub unfinished : Bool → Heard
unfinished true = heard.Bad
unfinished false = heard.Later

-- what all the bytes of a link are, which have ended or not
abbrev pub Hears : Bool → Bool → List ℕ → Heard → Type 0
Hears to_head ended bytes (heard.Reply reply) = Holds to_head ended bytes reply
Hears to_head ended bytes heard.Large = Refuses to_head bytes refusal.TooLarge
Hears to_head ended bytes heard.Bad =
    Refuses to_head bytes refusal.Malformed ⊎ ((ended ≡ true) × IsUnfinished to_head ended bytes)
Hears to_head ended bytes heard.Later = (ended ≡ false) × IsUnfinished to_head ended bytes
