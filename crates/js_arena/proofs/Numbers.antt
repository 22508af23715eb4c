-- The number of a key, up to the greatest u32, is that of its digits.
use Rattle.std.proofs.Common.{◌≡◌, ◌∙◌, ap, ℕ, ◌+◌, ◌-◌, ◌*◌, Bool, List, [], ◌∷◌, refl, arith}
use Rattle.std.proofs.Common.{Option, Some, None}
use Rattle.std.specs.Prelude.{fold, nat_lt, ◌&&◌, if◌then◌else◌}
use Rattle.std.proofs.lemmas.Bool.Decides.{nat_tests}
use Rattle.js_arena.specs.Capped.{cap, digit_step, capped}
use Rattle.js_arena.specs.Keys.{spelled, index_of, is_canonical}

cap_step : (n c : ℕ) → cap (cap n * 10 + (c - 48)) ≡ cap (n * 10 + (c - 48))
cap_step n c = grind (arith, nat_tests)

fold_cap : (n : ℕ) (key : List ℕ) → fold digit_step (cap n) key ≡ cap (fold (λ m c. m * 10 + (c - 48)) n key)
fold_cap n [] = refl
fold_cap n (c ∷ cs) = ap (λ (m : ℕ). fold digit_step m cs) (cap_step n c) ∙ fold_cap (n * 10 + (c - 48)) cs

pub capped_is : (key : List ℕ) → capped key ≡ cap (spelled key)
capped_is key = fold_cap 0 key

abbrev below : Bool → ℕ → Option ℕ
below b n = if b && nat_lt n 4294967295 then Some n else None

chosen : (b : Bool) (n m : ℕ) → m ≡ cap n → below b m ≡ below b n
chosen b n m e = grind (arith, nat_tests)

pub same_index : (key : List ℕ)
    → (if is_canonical key && nat_lt (capped key) 4294967295 then Some (capped key) else None) ≡ index_of key
same_index key = chosen (is_canonical key) (spelled key) (capped key) (capped_is key)
