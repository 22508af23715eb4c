-- The number of digits, up to 2 ^ 53, is that which they spell.
use Rattle.std.proofs.Common.{◌≡◌, ◌∙◌, ap, ℕ, ◌+◌, ◌-◌, ◌*◌, Bool, List, [], ◌∷◌, refl, arith}
use Rattle.std.specs.Prelude.{fold, nat_lt, nat_le, ◌&&◌, Result, Ok, Err, ℤ, pos, if◌then◌else◌}
use Rattle.std.specs.List.{list_all}
use Rattle.std.proofs.lemmas.Bool.Decides.{nat_tests}
use Rattle.js_arena.specs.Keys.{is_digit, spelled}
use Rattle.js_ops.specs.declared.kinds.Fault.{Fault}
use Rattle.js_ops.specs.declared.kinds.Fault.TheVariants.{NotSafe}
use Rattle.js_ops.specs.Capped.{cap, digit_step, capped}
use Rattle.js_ops.specs.Convert.{spelled_number}

cap_step : (n c : ℕ) → cap (cap n * 10 + (c - 48)) ≡ cap (n * 10 + (c - 48))
cap_step n c = grind (arith, nat_tests)

fold_cap : (n : ℕ) (units : List ℕ) → fold digit_step (cap n) units ≡ cap (fold (λ m c. m * 10 + (c - 48)) n units)
fold_cap n [] = refl
fold_cap n (c ∷ cs) = ap (λ (m : ℕ). fold digit_step m cs) (cap_step n c) ∙ fold_cap (n * 10 + (c - 48)) cs

pub capped_is : (units : List ℕ) → capped units ≡ cap (spelled units)
capped_is units = fold_cap 0 units

abbrev below : Bool → ℕ → Result ℤ Fault
below b n = if b && nat_lt n 9007199254740992 then Ok (pos n) else Err NotSafe

chosen : (b : Bool) (n m : ℕ) → m ≡ cap n
    → below b m ≡ (if b && nat_le n 9007199254740991 then Ok (pos n) else Err NotSafe)
chosen b n m e = grind (arith, nat_tests)

pub same_number : (units : List ℕ) → below (list_all is_digit units) (capped units) ≡ spelled_number units
same_number units = chosen (list_all is_digit units) (spelled units) (capped units) (capped_is units)
