-- Digits and words.
use Rattle.std.proofs.Common.{◌≡◌, ℕ, ◌+◌, ◌*◌, ◌≤◌, ◌<◌, Bool, cond, [], ◌∷◌, Some, None, ap, sym, arith}
use Rattle.std.proofs.Math.Nat.{le-mul_of_pos_right}
use Rattle.std.proofs.lemmas.Bool.{lt-leb}
use Rattle.std.specs.Prelude.{length, slice_index}
use Rattle.js_lex.specs.Units.{Text, digit_of, value}
use Rattle.js_lex.specs.Runs.{numeral}

-- more digits make no number smaller
pub grows : (base : ℕ) (ds : Text) (n : ℕ) → 1 ≤ base → n ≤ value base n ds
grows base [] n h = omega arith
grows base (d ∷ ds) n h =
    let i : n * base + digit_of d ≤ value base (n * base + digit_of d) ds = grows base ds (n * base + digit_of d) h in
    let m : n ≤ n * base = le-mul_of_pos_right n h in
    omega (arith, i, m)

pub too_large : (max base n first : ℕ) (z all : Text) → 1 ≤ base → 1 ≤ length z → value base n z ≡ value base first all → max < n * base + digit_of (slice_index z 0) → None ≡ numeral max base first all
too_large max base n first [] all h k e l = absurd (omega (arith, k))
too_large max base n first (d ∷ ds) all h k e l =
    let g : n * base + digit_of d ≤ value base (n * base + digit_of d) ds = grows base ds (n * base + digit_of d) h in
    let m : max < value base first all = omega (arith, g, l, e) in
    sym (ap (λ (r : Bool). cond r (Some (value base first all)) None) (lt-leb (value base first all) max m))
