-- Whether bytes end within the target of a request's line, byte by byte.
use Rattle.std.specs.Prelude.{ℕ, ◌==◌, List, [], ◌∷◌, if◌then◌else◌}
use Rattle.httparse.specs.Grammar.{is_token_byte, is_uri_byte}
use Rattle.http_in.specs.declared.target.Place.{Place}
use Rattle.http_in.specs.declared.target.Place.TheVariants as place

-- where a byte leads that stands at the begin of a method or in one
abbrev pub in_method : ℕ → Place
in_method byte = if is_token_byte byte then place.Method else place.Other

-- where a byte leads that stands at the begin of a target or in one
abbrev pub in_target : ℕ → Place
in_target byte = if is_uri_byte byte then place.Target else place.Other

-- the place behind a byte
abbrev pub step : Place → ℕ → Place
step place.Start byte = if byte == 13 then place.Cr else if byte == 10 then place.Start else in_method byte
step place.Cr byte = if byte == 10 then place.Start else place.Other
step place.Method byte = if byte == 32 then place.Target else in_method byte
step place.Target byte = in_target byte
step place.Other byte = place.Other

-- the place behind bytes
abbrev pub place_after : Place → List ℕ → Place
place_after at [] = at
place_after at (byte ∷ bytes) = place_after (step at byte) bytes
