-- The number of digits up to 2 ^ 53, as it is computed.
use Rattle.std.specs.Prelude.{ℕ, ◌+◌, ◌-◌, ◌*◌, List, fold, nat_lt, if◌then◌else◌}

-- the number, and 2 ^ 53 in the place of a greater one
abbrev pub cap : ℕ → ℕ
cap n = if nat_lt n 9007199254740992 then n else 9007199254740992

-- the number before with one more decimal digit behind it, up to 2 ^ 53
abbrev pub digit_step : ℕ → ℕ → ℕ
digit_step n c = cap (n * 10 + (c - 48))

-- the number that these decimal digits spell, up to 2 ^ 53
abbrev pub capped : List ℕ → ℕ
capped units = fold digit_step 0 units
