-- How far a body goes, by the fields of its head (RFC 9112, section 6.3).
use Rattle.std.specs.Prelude.{◌≡◌, ℕ, ◌<◌, ◌⊎◌, Bool, ◌&&◌, List, [], ◌∷◌, length, nat_lt, nat_le, if◌then◌else◌, codes, Result, Ok, Err}
use Rattle.std.specs.List.{list_all}
use Rattle.std.specs.Char.{is_ascii_digit}
use Rattle.std.specs.Str.Parse.{digits_value}
use Rattle.http_message.specs.declared.extent.Extent.{Extent}
use Rattle.http_message.specs.declared.extent.Extent.TheVariants as extent
use Rattle.http_message.specs.declared.extent.Refusal.{Refusal}
use Rattle.http_message.specs.declared.extent.Refusal.TheVariants as refusal
use Rattle.http_message.specs.Fields.{Pairs, is_word, values_of}
use Rattle.http_message.specs.Limits.{max_body}

-- one digit or more
abbrev pub is_number : List ℕ → Bool
is_number text = nat_lt 0 (length text) && list_all is_ascii_digit text

-- a length that is no number is malformed, and one above the greatest body too large
abbrev pub limited : ℕ → Result Extent Refusal
limited size = if nat_le size max_body then Ok (extent.Length size) else Err refusal.TooLarge

-- how far a body goes by the one Content-Length that stands (RFC 9110, section 8.6)
abbrev pub by_length : List ℕ → Result Extent Refusal
by_length value = if is_number value then limited (digits_value 10 value) else Err refusal.Malformed

-- the one coding that is read is `chunked`, as the whole value (RFC 9112, section 6.1)
abbrev pub by_coding : List ℕ → Result Extent Refusal
by_coding value = if is_word (codes "chunked") value then Ok extent.Chunked else Err refusal.Malformed

-- by the values of Content-Length and those of Transfer-Encoding: at most one of all stands
abbrev pub extent_by : List (List ℕ) → List (List ℕ) → Result Extent Refusal
extent_by [] [] = Ok extent.Nothing
extent_by (value ∷ []) [] = by_length value
extent_by [] (value ∷ []) = by_coding value
extent_by lengths codings = Err refusal.Malformed

-- how far the body goes behind a head with these fields, or why they are refused
unfoldable pub extent_of : Pairs → Result Extent Refusal
extent_of fields = extent_by (values_of (codes "content-length") fields) (values_of (codes "transfer-encoding") fields)

-- found is the number, or both are above the limit
abbrev pub IsNumberUpTo : ℕ → ℕ → ℕ → Type 0
IsNumberUpTo limit number found = (found ≡ number) ⊎ ((limit < found) × (limit < number))
