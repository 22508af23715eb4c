-- A list with no item.
use Rattle.std.proofs.Common.{◌≡◌, ℕ, ◌<◌, arith, length, List, [], ◌∷◌, refl}

none_below : {A : Type 0} (x : A) (xs : List A) → length (x ∷ xs) < 1 → ⊥
none_below x xs le = omega (arith, le)

pub empty_list : {A : Type 0} (xs : List A) → length xs < 1 → xs ≡ []
empty_list [] le = refl
empty_list (x ∷ xs) le = absurd (none_below x xs le)
