-- The number of digits up to the greatest u32, as it is computed.
use Rattle.std.specs.Prelude.{ℕ, ◌+◌, ◌-◌, ◌*◌, List, fold, nat_lt, if◌then◌else◌}

-- the number, and the greatest u32 in the place of a greater one
abbrev pub cap : ℕ → ℕ
cap n = if nat_lt n 4294967295 then n else 4294967295

-- the number before with one more decimal digit behind it, up to the greatest u32
abbrev pub digit_step : ℕ → ℕ → ℕ
digit_step n c = cap (n * 10 + (c - 48))

-- the number that these decimal digits spell, up to the greatest u32
abbrev pub capped : List ℕ → ℕ
capped key = fold digit_step 0 key
