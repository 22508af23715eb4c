-- What a text in UTF-8 is in UTF-16.
use Rattle.std.specs.Prelude.{ℕ, List, [], ◌∷◌, drop, nat_eq, flat_map, if◌then◌else◌}
use Rattle.std.specs.List.{starts_with}
use Rattle.std.specs.Char.Escape.{encode_utf16}
use Rattle.std.specs.Str.{chars}
use Rattle.std.specs.Str.Lossy.{utf8_lossy}

-- the byte order mark in UTF-8
abbrev pub byte_order_mark : List ℕ
byte_order_mark = 0xEF ∷ 0xBB ∷ 0xBF ∷ []

-- the bytes without one byte order mark at their front
abbrev pub unmarked : List ℕ → List ℕ
unmarked bytes = if starts_with nat_eq bytes byte_order_mark then drop 3 bytes else bytes

-- the UTF-16 of the characters that the bytes spell, with U+FFFD for what is not UTF-8
abbrev pub utf16_of : List ℕ → List ℕ
utf16_of bytes = flat_map encode_utf16 (chars (utf8_lossy (unmarked bytes)))
