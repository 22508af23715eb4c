-- Words on lists of units.
use Rattle.std.specs.Prelude.{◌≡◌, ℕ, Bool, true, false, ◌||◌, ◌==◌, List, [], ◌∷◌, ◌⊎◌}
use Rattle.js_lex.specs.Units.{Text}

-- the unit is of the class
abbrev pub Passes : (ℕ → Bool) → ℕ → Type 0
Passes f u = f u ≡ true

-- each item of the list has the property
abbrev pub Every : {A : Type 0} → (A → Type 0) → List A → Type 0
Every P [] = Unit {0}
Every P (x ∷ xs) = P x × Every P xs

-- the item is among those of the list
abbrev pub In : {A : Type 0} → A → List A → Type 0
In x [] = ⊥
In x (y ∷ ys) = (y ≡ x) ⊎ In x ys

-- the unit that comes next, if one does, does not pass
abbrev pub NotNext : (ℕ → Bool) → Text → Type 0
NotNext f [] = Unit {0}
NotNext f (u ∷ z) = f u ≡ false

-- the unit is this one
abbrev pub is : ℕ → ℕ → Bool
is n u = u == n

-- some unit passes
abbrev pub some : (ℕ → Bool) → Text → Bool
some f [] = false
some f (u ∷ z) = f u || some f z
