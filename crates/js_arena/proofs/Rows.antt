-- Rows of variables at the end of the cells.
use Rattle.std.proofs.Common.{◌≡◌, ap, refl, ℕ, zero, suc, ◌+◌, List, [], ◌∷◌, ◌++◌, length, take, replicate}
use Rattle.std.proofs.Common.{add-one, append_assoc, arith}
use Rattle.std.proofs.Math.Seq.{take-append_seam}
use Rattle.std.proofs.lemmas.List.{length-append}
use Rattle.js_arena.specs.declared.value.Cell.{Cell}

replicate_suc : (n : ℕ) (x : Cell) → replicate n x ++ x ∷ [] ≡ replicate (suc n) x
replicate_suc zero x = refl
replicate_suc (suc n) x = ap (λ (xs : List Cell). x ∷ xs) (replicate_suc n x)

pub rows_more : (cells : List Cell) (n : ℕ) (x : Cell)
    → (cells ++ replicate n x) ++ x ∷ [] ≡ cells ++ replicate (n + 1) x
rows_more cells n x = rw (append_assoc, add-one) (ap (λ (xs : List Cell). cells ++ xs) (replicate_suc n x))

pub rows_back : (cells rest : List Cell) → take (length cells) (cells ++ rest) ≡ cells
rows_back cells rest = take-append_seam cells rest

length_replicate : (n : ℕ) (x : Cell) → length (replicate n x) ≡ n
length_replicate zero x = refl
length_replicate (suc n) x = ap suc (length_replicate n x)

pub rows_length : (cells : List Cell) (n : ℕ) (x : Cell) → length (cells ++ replicate n x) ≡ length cells + n
rows_length cells n x =
    let h = length_replicate n x in
    let l = length-append cells (replicate n x) in
    omega (arith, h, l)
