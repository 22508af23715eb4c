-- How the decimal of a number begins.
use Rattle.std.specs.Prelude.{◌≡◌, ◌≤◌, ℕ, List, [], ◌∷◌}

-- with a digit, which is `0` only where nothing is behind it
abbrev pub BeginsAsNumber : List ℕ → Type 0
BeginsAsNumber [] = ⊥
BeginsAsNumber (b ∷ bs) = (48 ≤ b) × (b ≤ 57) × (b ≡ 48 → bs ≡ [])
