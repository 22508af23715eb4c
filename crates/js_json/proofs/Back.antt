-- A list from its back.
use Rattle.std.proofs.Common.{◌≡◌, List, [], ◌∷◌, ◌++◌, length}
use Rattle.std.specs.Prelude.{reverse}
use Rattle.std.proofs.lemmas.List.{reverse-append, length-reverse}

pub reverse_last : {A : Type 0} → (s : List A) (x : A) → reverse (s ++ x ∷ []) ≡ x ∷ reverse s
reverse_last s x = reverse-append s (x ∷ [])

pub length_back : {A : Type 0} → (s : List A) → length (reverse s) ≡ length s
length_back s = length-reverse s
