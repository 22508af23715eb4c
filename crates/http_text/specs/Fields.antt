-- The field lines of a message that the server sends (RFC 9112, section 5).
use Rattle.std.specs.Prelude.{ℕ, List, [], ◌∷◌, ◌++◌, Bool, ◌||◌, codes, decimal, bytes_eq, if◌then◌else◌}

-- the end of a line
abbrev pub crlf : List ℕ
crlf = 13 ∷ 10 ∷ []

-- the names of the fields that belong to one link (RFC 9110, section 7.6.1), and of the length:
-- the server writes these itself
unfoldable pub is_own_field : List ℕ → Bool
is_own_field name = bytes_eq name (codes "connection") || bytes_eq name (codes "keep-alive")
    || bytes_eq name (codes "proxy-connection") || bytes_eq name (codes "te")
    || bytes_eq name (codes "trailer") || bytes_eq name (codes "transfer-encoding")
    || bytes_eq name (codes "upgrade") || bytes_eq name (codes "content-length")

-- a field line: the name, a colon and a space, and the value
abbrev pub field_line : List ℕ × List ℕ → List ℕ
field_line field = field.0 ++ (58 ∷ 32 ∷ (field.1 ++ crlf))

-- the line of a message's own field, and nothing for one that the server writes itself
abbrev pub kept_line : List ℕ × List ℕ → List ℕ
kept_line field = if is_own_field field.0 then [] else field_line field

-- the line that states how many bytes the body has (RFC 9110, section 8.6)
abbrev pub length_line : ℕ → List ℕ
length_line size = codes "content-length: " ++ (decimal size ++ crlf)

-- the line that says that the link closes behind this message (RFC 9112, section 9.6)
abbrev pub closing_line : List ℕ
closing_line = codes "connection: close" ++ crlf
