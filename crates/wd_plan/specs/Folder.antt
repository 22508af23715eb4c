-- The folder of a path.
use Rattle.std.specs.Prelude.{◌≡◌, ◌⊎◌, ℕ, ◌-◌, ◌<◌, ◌==◌, Bool, List, [], ◌∷◌, ◌++◌, codes, nat_eq, slice_index}
use Rattle.std.specs.Prelude.{if◌then◌else◌}
use Rattle.std.specs.List.{list_any, starts_with}

-- a `/` stands in the path
abbrev pub has_slash : List ℕ → Bool
has_slash path = list_any (λ b. b == 47) path

-- the path up to and with its last `/`, or nothing
unfoldable pub folder : List ℕ → List ℕ
folder [] = []
folder (b ∷ rest) = if has_slash (b ∷ rest) then b ∷ folder rest else []

-- nothing, or up to a `/`
abbrev pub IsFolderLen : List ℕ → ℕ → Type 0
IsFolderLen path n = (n ≡ 0) ⊎ ((0 < n) × (slice_index path (n - 1) ≡ 47))
