-- What the parser of fields finds in as many bytes as a trailer has at most.
use Rattle.std.specs.Prelude.{ℕ, ◌<◌, ◌≤◌, List, length, drop}
use Rattle.httparse.specs.Grammar.{Field, LineEnd, ReadsSection, HasNoSection, MayBecomeSection}
use Rattle.http_message.specs.declared.trailer.Section.{Section}
use Rattle.http_message.specs.declared.trailer.Section.TheVariants as section
use Rattle.http_message.specs.Limits.{max_fields}

-- a section stands at the front, and bytes behind it
pub record HasSection (bytes : List ℕ) (fields : List Field) (rest : List ℕ) : Type 0 where
  pub last : LineEnd
  pub reads : ReadsSection bytes fields last rest

-- a section at the front has more fields than a trailer may have
abbrev pub IsPastRoom : List ℕ → Type 0
IsPastRoom bytes = (fields : List Field) (rest : List ℕ) → HasSection bytes fields rest → max_fields < length fields

-- what the parser found: none yet, a section of so many bytes, one of too many fields, or none ever
abbrev pub IsSectionIn : List ℕ → Section → Type 0
IsSectionIn bytes section.Later = HasNoSection bytes × MayBecomeSection bytes
IsSectionIn bytes (section.Whole size) =
    (size ≤ length bytes) × ((fields : List Field) × HasSection bytes fields (drop size bytes) × length fields ≤ max_fields)
IsSectionIn bytes section.Many = (fields : List Field) × (rest : List ℕ) × HasSection bytes fields rest × max_fields < length fields
IsSectionIn bytes section.Never = HasNoSection bytes × (MayBecomeSection bytes → ⊥)
