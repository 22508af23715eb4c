-- Fields of a message: a name and a value each.
use Rattle.std.specs.Prelude.{◌≡◌, ℕ, ◌<◌, Bool, ◌||◌, ◌==◌, List, [], ◌∷◌, length, map, filter, codes}
use Rattle.std.specs.List.{list_any, slice_split}
use Rattle.std.specs.Str.{str_eq_ignore_ascii_case}
use Rattle.httparse.specs.Grammar.{trim_ows}
use Rattle.httparse.specs.Spans.{span_bytes, IsWithin}
use Rattle.http_message.specs.declared.fields.Found.{Found}
use Rattle.http_message.specs.declared.fields.Found.TheVariants as found

-- names and values of fields, in their order
abbrev pub Pairs : Type 0
Pairs = List (List ℕ × List ℕ)

-- the text is the word, without regard to the case of letters (RFC 9110, section 5.1)
unfoldable pub is_word : List ℕ → List ℕ → Bool
is_word word text = str_eq_ignore_ascii_case text word

-- the values of the fields of a name, in order
abbrev pub values_of : List ℕ → Pairs → List (List ℕ)
values_of name fields = map (λ f. f.1) (filter (λ f. is_word name f.0) fields)

-- `close` is one of the parts at commas, outer spaces and tabs dropped (RFC 9110, section 5.6.1)
abbrev pub has_close : List ℕ → Bool
has_close value = list_any (λ part. is_word (codes "close") (trim_ows part)) (slice_split (λ b. b == 44) value)

-- a message of version 1.0, or with `Connection: close`, is the last one (RFC 9112, section 9.6)
unfoldable pub closes : ℕ → Pairs → Bool
closes minor fields = minor == 0 || list_any has_close (values_of (codes "connection") fields)

-- what is found of the values of a name: none, the one and its place in the bytes, or several
abbrev pub IsFound : List ℕ → List (List ℕ) → Found → Type 0
IsFound bytes values found.Absent = values ≡ []
IsFound bytes values (found.Once span) = (values ≡ span_bytes bytes span ∷ []) × IsWithin (length bytes) span
IsFound bytes values found.Again = 1 < length values
