-- Compatibility dates.
use Rattle.std.specs.Prelude.{◌≡◌, ◌≤◌, ℕ, List, ◌∷◌, ◌++◌, length}
use Rattle.std.specs.List.{All}

-- the byte `-`, between year, month and day
abbrev pub dash : ℕ
dash = 45

-- 0 to 9
abbrev pub IsDigit : ℕ → Type 0
IsDigit b = (48 ≤ b) × (b ≤ 57)

-- so many digits
abbrev pub AreDigits : ℕ → List ℕ → Type 0
AreDigits count text = (length text ≡ count) × All IsDigit text

-- four digits, `-`, two digits, `-`, two digits
pub record IsDate (text : List ℕ) : Type 0 where
  pub year : List ℕ
  pub month : List ℕ
  pub day : List ℕ
  pub written : text ≡ year ++ dash ∷ (month ++ dash ∷ day)
  pub year_digits : AreDigits 4 year
  pub month_digits : AreDigits 2 month
  pub day_digits : AreDigits 2 day
