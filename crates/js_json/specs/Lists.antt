-- Lists of which a text is made.
use Rattle.std.specs.Prelude.{◌≡◌, ℕ, Bool, true, List, [], ◌∷◌, ◌++◌, ◌⊎◌}

-- each item of the list has the property
abbrev pub Every : {A : Type 0} → (A → Type 0) → List A → Type 0
Every P [] = Unit {0}
Every P (x ∷ xs) = P x × Every P xs

-- the unit is of the class
abbrev pub Passes : (ℕ → Bool) → ℕ → Type 0
Passes f u = f u ≡ true

-- one of the first kind and behind it one of the second
pub record Then (P Q : List ℕ → Type 0) (us : List ℕ) : Type 0 where
  pub front : List ℕ
  pub back : List ℕ
  pub is : us ≡ front ++ back
  pub first : P front
  pub second : Q back

-- the lists, one behind another
abbrev pub joined : List (List ℕ) → List ℕ
joined [] = []
joined (us ∷ uss) = us ++ joined uss

-- any number of them, one behind the other
pub record Many (P : List ℕ → Type 0) (us : List ℕ) : Type 0 where
  pub parts : List (List ℕ)
  pub every : Every P parts
  pub is : us ≡ joined parts

-- of the one kind or of the other
abbrev pub Either : (P Q : List ℕ → Type 0) → List ℕ → Type 0
Either P Q us = P us ⊎ Q us

-- this unit alone
abbrev pub One : ℕ → List ℕ → Type 0
One u us = us ≡ u ∷ []
