-- A body by chunks (RFC 9112, section 7.1): chunks, a chunk line with the size 0, and a trailer.
use Rattle.std.specs.Prelude.{◌≡◌, ◌≢◌, ℕ, ◌+◌, ◌<◌, ◌≤◌, ◌⊎◌, List, [], ◌∷◌, ◌++◌, length, take}
use Rattle.std.specs.List.{concat}
use Rattle.httparse.specs.Ascii.{crlf_bytes}
use Rattle.httparse.specs.Grammar.{ChunkLine, chunk_size, ReadsChunkLine, NeverHasChunkLine, Field, LineEnd, print_section, ReadsSection, HasNoSection, MayBecomeSection}
use Rattle.http_message.specs.declared.extent.Refusal.{Refusal}
use Rattle.http_message.specs.declared.extent.Refusal.TheVariants as refusal
use Rattle.http_message.specs.Limits.{max_head, max_fields, max_body}

-- the bytes begin with a chunk line that has this size
pub record ReadsSize (bytes : List ℕ) (size : ℕ) (rest : List ℕ) : Type 0 where
  pub line : ChunkLine
  pub reads : ReadsChunkLine bytes line rest
  pub is : size ≡ chunk_size line

-- the bytes begin with a chunk of these data: a line with their size, the data, and CR LF
pub record ReadsChunk (bytes part rest : List ℕ) : Type 0 where
  pub reads : ReadsSize bytes (length part) (part ++ (crlf_bytes ++ rest))
  pub some : 0 < length part

-- the bytes begin with chunks of these data, one behind another
abbrev pub ReadsChunks : List ℕ → List (List ℕ) → List ℕ → Type 0
ReadsChunks bytes [] rest = bytes ≡ rest
ReadsChunks bytes (part ∷ parts) rest = (behind : List ℕ) × ReadsChunk bytes part behind × ReadsChunks behind parts rest

-- the bytes begin with a section of fields of at most so many bytes
pub record ReadsFields (bytes : List ℕ) (fields : List Field) (rest : List ℕ) : Type 0 where
  pub last : LineEnd
  pub reads : ReadsSection bytes fields last rest
  pub fits : length (print_section fields last) ≤ max_head

-- a trailer: field lines, of which nothing is kept, and an empty line (RFC 9112, section 7.1.2)
pub record ReadsTrailer (bytes rest : List ℕ) : Type 0 where
  pub fields : List Field
  pub reads : ReadsFields bytes fields rest
  pub few : length fields ≤ max_fields

-- what is refused in place of a trailer: what becomes none, and what passes a limit
abbrev pub RefusesTrailer : List ℕ → Refusal → Type 0
RefusesTrailer bytes refusal.Malformed = HasNoSection (take max_head bytes) × (MayBecomeSection (take max_head bytes) → ⊥)
RefusesTrailer bytes refusal.TooLarge =
    ((max_head ≤ length bytes) × HasNoSection (take max_head bytes) × MayBecomeSection (take max_head bytes))
    ⊎ ((fields : List Field) × (rest : List ℕ) × ReadsFields bytes fields rest × max_fields < length fields)

-- the bytes behind the data of a chunk are, and become, no CR LF
abbrev pub NeverEnds : List ℕ → Type 0
NeverEnds bytes = (more rest : List ℕ) → bytes ++ more ≢ crlf_bytes ++ rest

-- the data of a chunk are there, and CR LF does not stand behind them
pub record HasBadEnd (before : ℕ) (bytes : List ℕ) : Type 0 where
  pub part : List ℕ
  pub tail : List ℕ
  pub reads : ReadsSize bytes (length part) (part ++ tail)
  pub some : 0 < length part
  pub fits : before + length part ≤ max_body
  pub bad : NeverEnds tail

-- a chunk line whose size, with that of the chunks before it, is above the greatest body
pub record HasLargeSize (before : ℕ) (bytes : List ℕ) : Type 0 where
  pub size : ℕ
  pub rest : List ℕ
  pub reads : ReadsSize bytes size rest
  pub large : max_body < before + size

-- a last chunk line, and behind it what is refused
pub record HasBadTrailer (bytes : List ℕ) (why : Refusal) : Type 0 where
  pub rest : List ℕ
  pub reads : ReadsSize bytes 0 rest
  pub refuses : RefusesTrailer rest why

-- what is refused behind chunks of so many bytes
abbrev pub RefusesNext : ℕ → List ℕ → Refusal → Type 0
RefusesNext before bytes refusal.Malformed = NeverHasChunkLine bytes ⊎ HasBadEnd before bytes ⊎ HasBadTrailer bytes refusal.Malformed
RefusesNext before bytes refusal.TooLarge = HasLargeSize before bytes ⊎ HasBadTrailer bytes refusal.TooLarge

-- the bytes begin with chunks whose data are together this body, which is no longer than a body may be
pub record ReadsParts (bytes body rest : List ℕ) : Type 0 where
  pub parts : List (List ℕ)
  pub reads : ReadsChunks bytes parts rest
  pub body_is : body ≡ concat parts
  pub fits : length body ≤ max_body

-- the bytes begin with a last chunk line and a trailer
pub record ReadsLast (bytes rest : List ℕ) : Type 0 where
  pub behind : List ℕ
  pub zero : ReadsSize bytes 0 behind
  pub trailer : ReadsTrailer behind rest

-- the bytes begin with a whole body by chunks
pub record ReadsChunked (bytes body rest : List ℕ) : Type 0 where
  pub behind : List ℕ
  pub parts : ReadsParts bytes body behind
  pub last : ReadsLast behind rest

-- the bytes begin with chunks, behind which something is refused
pub record RefusesChunked (bytes : List ℕ) (why : Refusal) : Type 0 where
  pub body : List ℕ
  pub behind : List ℕ
  pub parts : ReadsParts bytes body behind
  pub refuses : RefusesNext (length body) behind why

-- neither a whole body by chunks nor what is refused is there yet
abbrev pub IsUnfinished : List ℕ → Type 0
IsUnfinished bytes = ((body rest : List ℕ) → ReadsChunked bytes body rest → ⊥) × ((why : Refusal) → RefusesChunked bytes why → ⊥)
