-- How many events have happened.
use Rattle.std.proofs.Common.{◌≡◌, ℕ, ◌+◌, ◌<◌, ◌≤◌, List, [], ◌∷◌, length, get_or, true, false, Bool, arith}
use Rattle.std.specs.Prelude.{nat_le}
use Rattle.std.specs.List.{prefix_len}
use Rattle.std.proofs.lemmas.List.Sums.{prefix_len_passes, prefix_len_stops, prefix_len-le-length}

-- the longest front reaches past one more that is reached
pub front_more : (p : ℕ → Bool) (xs : List ℕ) (i : ℕ) → i ≤ prefix_len p xs → i < length xs → p (get_or xs i 0) ≡ true → i + 1 ≤ prefix_len p xs
front_more p xs i h l e = grind (arith, prefix_len_stops p xs 0)

-- and ends at one that is not
pub front_ends : (p : ℕ → Bool) (xs : List ℕ) (i : ℕ) → i ≤ prefix_len p xs → i < length xs → p (get_or xs i 0) ≡ false → i ≡ prefix_len p xs
front_ends p xs i h l e = grind (arith, prefix_len_passes p xs i 0)

pub front_all : (p : ℕ → Bool) (xs : List ℕ) → length xs ≤ prefix_len p xs → length xs ≡ prefix_len p xs
front_all p xs h = omega (arith, prefix_len-le-length p xs)

-- a front at a mark is one at a later mark
pub front_later : (xs : List ℕ) (m n : ℕ) → m ≤ n → prefix_len (λ d. nat_le d m) xs ≤ prefix_len (λ d. nat_le d n) xs
front_later [] m n h = omega arith
front_later (x ∷ xs) m n h = grind (arith, front_later xs m n h)
