-- Places of a list.
use Rattle.std.proofs.Common.{◌≡◌, ℕ, ◌+◌, ◌≤◌, List, length, None, arith}
use Rattle.std.specs.Prelude.{slice_get}
use Rattle.std.proofs.lemmas.Option.{slice_get_past}

pub none_behind : {A : Type 0} → (s : List A) (n : ℕ) → length s ≤ n → slice_get s (n + 1) ≡ None
none_behind s n h = slice_get_past s (n + 1) (omega (arith, h))
