-- The next piece of a link.
use Rattle.std.proofs.Common.{◌≡◌, ℕ, zero, suc, ◌<◌, ◌≤◌, List, [], ◌∷◌, length, refl, true, false, arith}
use Rattle.std.specs.Prelude.{nat_le, slice_get, All, IfSome}
use Rattle.std.specs.List.Sorted.{IsPartitionPoint}
use Rattle.wd_ports.specs.declared.stream.Piece.{Piece}
use Rattle.wd_ports.specs.Streams.{next_piece}

-- behind the pieces that were read whole stands the next one
pub next_there : (read : ℕ) (ps : List Piece) (i : ℕ) → i ≤ length ps → IsPartitionPoint (λ (p : Piece). nat_le p.end read ≡ true) (λ p. nat_le p.end read ≡ false) ps i → slice_get ps i ≡ next_piece read ps
next_there read [] i l h = refl
next_there read (p ∷ ps) zero l h = grind (arith, h.1 0 p)
next_there read (p ∷ ps) (suc i) l h = grind (arith, h.0 0 p, next_there read ps i (omega arith) ((λ k d m n. h.0 (suc k) d (omega arith) (omega arith)), (λ k d m n. h.1 (suc k) d (omega arith) (omega arith))))

-- which reaches past the bytes that were read, and no further than all pieces
pub next_inside : (read most : ℕ) (ps : List Piece) → All (λ (p : Piece). p.end ≤ most) ps → IfSome (next_piece read ps) (λ p. (read < p.end) × (p.end ≤ most))
next_inside read most [] h = tt
next_inside read most (p ∷ ps) h = grind (arith, h 0 p, next_inside read most ps (λ k d l. h (suc k) d (omega arith)))
