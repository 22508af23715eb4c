-- A text that is cut at a byte.
use Rattle.std.specs.Prelude.{◌≡◌, ◌==◌, ℕ, List, ◌∷◌, ◌++◌, Option}
use Rattle.std.specs.List.{All, position_from}

-- another byte
abbrev pub IsNot : ℕ → ℕ → Type 0
IsNot mark b = b ≡ mark → ⊥

-- the byte stands nowhere in the text
abbrev pub Lacks : ℕ → List ℕ → Type 0
Lacks mark text = All (IsNot mark) text

-- the text is what stands before the first such byte, that byte, and what stands behind it
pub record IsCut (mark : ℕ) (front rest text : List ℕ) : Type 0 where
  pub written : text ≡ front ++ mark ∷ rest
  pub first : Lacks mark front

-- the place of the first such byte
abbrev pub place_of : ℕ → List ℕ → Option ℕ
place_of mark text = position_from (λ b. b == mark) 0 text
