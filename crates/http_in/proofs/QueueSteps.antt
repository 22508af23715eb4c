-- What is added behind stands behind what was not taken.
use Rattle.std.proofs.Common.{◌≡◌, ℕ, ◌≤◌, List, ◌++◌, length, drop}
use Rattle.std.proofs.lemmas.List.{drop-append-le}

pub drop_join : (n : ℕ) (a b : List ℕ) → n ≤ length a → drop n (a ++ b) ≡ drop n a ++ b
drop_join n a b h = drop-append-le n a b h
