-- What the steps through a body by chunks find.
use Rattle.std.specs.Prelude.{◌≡◌, ℕ, ◌+◌, ◌<◌, ◌≤◌, ◌-◌, List, ◌++◌, length, drop, slice_range}
use Rattle.httparse.specs.Ascii.{crlf_bytes}
use Rattle.http_message.specs.declared.extent.Refusal.{Refusal}
use Rattle.http_message.specs.declared.chunks.ChunkReader.{ChunkReader}
use Rattle.http_message.specs.declared.chunks.Chunked.{Chunked}
use Rattle.http_message.specs.declared.chunks.Chunked.TheVariants as chunked
use Rattle.http_message.specs.declared.chunks.End.{End}
use Rattle.http_message.specs.declared.chunks.End.TheVariants as end_at
use Rattle.http_message.specs.declared.chunks.Next.{Next}
use Rattle.http_message.specs.declared.chunks.Next.TheVariants as next
use Rattle.http_message.specs.declared.trailer.Trailer.{Trailer}
use Rattle.http_message.specs.declared.trailer.Trailer.TheVariants as trailer
use Rattle.http_message.specs.Limits.{max_body}
use Rattle.http_message.specs.Chunks.{ReadsChunk, ReadsParts, ReadsLast, ReadsTrailer, RefusesTrailer, RefusesNext, NeverEnds, ReadsChunked, RefusesChunked, IsUnfinished}

-- the reader stands behind whole chunks, whose data it has
abbrev pub IsReading : List ℕ → ChunkReader → Type 0
IsReading bytes reader = (reader.at ≤ length bytes) × ReadsParts bytes reader.body (drop reader.at bytes)

-- what bytes of a body by chunks show
abbrev pub ShowsChunked : List ℕ → List ℕ → Chunked → Type 0
ShowsChunked bytes body chunked.Later = IsUnfinished bytes
ShowsChunked bytes body (chunked.Whole size) = (size ≤ length bytes) × ReadsChunked bytes body (drop size bytes)
ShowsChunked bytes body (chunked.Refused why) = RefusesChunked bytes why

-- neither a chunk, nor the end of the body, nor what is refused is there yet, behind chunks of so many bytes
pub record ShowsNothing (before : ℕ) (bytes : List ℕ) : Type 0 where
  pub chunk : (part rest : List ℕ) → ReadsChunk bytes part rest → before + length part ≤ max_body → ⊥
  pub last : (rest : List ℕ) → ReadsLast bytes rest → ⊥
  pub refusal : (why : Refusal) → RefusesNext before bytes why → ⊥

-- what stands behind chunks of so many bytes
abbrev pub ShowsNext : ℕ → List ℕ → Next → Type 0
ShowsNext before bytes next.Later = ShowsNothing before bytes
ShowsNext before bytes (next.Chunk start end) =
    (start < end) × (end + 2 ≤ length bytes) × (before + (end - start) ≤ max_body)
    × ReadsChunk bytes (slice_range bytes start end) (drop (end + 2) bytes)
ShowsNext before bytes (next.Last size) = (size ≤ length bytes) × ReadsLast bytes (drop size bytes)
ShowsNext before bytes (next.Refused why) = RefusesNext before bytes why

-- what stands at the front of bytes in place of a trailer
abbrev pub ShowsTrailer : List ℕ → Trailer → Type 0
ShowsTrailer bytes trailer.Later = ((rest : List ℕ) → ReadsTrailer bytes rest → ⊥) × ((why : Refusal) → RefusesTrailer bytes why → ⊥)
ShowsTrailer bytes (trailer.Whole size) = (size ≤ length bytes) × ReadsTrailer bytes (drop size bytes)
ShowsTrailer bytes (trailer.Refused why) = RefusesTrailer bytes why

-- the bytes behind the data of a chunk may become CR LF
pub record MayEnd (bytes : List ℕ) : Type 0 where
  pub more : List ℕ
  pub rest : List ℕ
  pub is : bytes ++ more ≡ crlf_bytes ++ rest

-- what stands behind the data of a chunk
abbrev pub ShowsEnd : List ℕ → End → Type 0
ShowsEnd bytes end_at.Later = (length bytes < 2) × MayEnd bytes
ShowsEnd bytes end_at.Stands = bytes ≡ crlf_bytes ++ drop 2 bytes
ShowsEnd bytes end_at.Never = NeverEnds bytes
