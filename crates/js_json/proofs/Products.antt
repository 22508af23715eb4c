-- Products that fit, and digits.
use Rattle.std.proofs.Common.{◌≡◌, ℕ, ◌*◌, ◌^◌, ◌≤◌, ◌<◌, true, arith, sym}
use Rattle.std.proofs.lemmas.Bool.{leb-true, and_parts}
use Rattle.std.proofs.lemmas.Nat.{mul-le}
use Rattle.std.specs.Prelude.{nat_le}
use Rattle.js_json.specs.Units.{is_digit}

pub product_small : (n p : ℕ) → n < 2 ^ 64 → p ≤ 10 ^ 16 → n * p < 2 ^ 120
product_small n p h k = let m = mul-le n p (2 ^ 64) (10 ^ 16) (omega (arith, h)) k in omega (arith, m)

pub digit_low : (u : ℕ) → true ≡ is_digit u → 48 ≤ u
digit_low u h = leb-true 48 u (and_parts (nat_le 48 u) (nat_le u 57) (sym h)).0
