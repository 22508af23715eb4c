-- Rows of a list that are found and changed by a test.
use Rattle.std.specs.Prelude.{Bool, List, [], ◌∷◌, if◌then◌else◌}

-- f at the first row that passes
abbrev pub change : {X : Type 0} → (X → Bool) → (X → X) → List X → List X
change p f [] = []
change p f (x ∷ xs) = if p x then f x ∷ xs else x ∷ change p f xs
