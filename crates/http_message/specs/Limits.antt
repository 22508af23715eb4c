-- What is the most that is read.
use Rattle.std.specs.Prelude.{ℕ}

-- bytes of a head, or of a trailer with the empty line behind it
abbrev pub max_head : ℕ
max_head = 16384

-- fields of a head, or of a trailer
abbrev pub max_fields : ℕ
max_fields = 64

-- bytes of a body
abbrev pub max_body : ℕ
max_body = 1048576
