-- The next arrival of a schedule.
use Rattle.std.proofs.Common.{◌≡◌, ℕ, zero, suc, ◌+◌, ◌<◌, List, [], ◌∷◌, length, get_or, take, drop, refl, ap, sym, ◌∙◌, cond, true, false, Bool, Some, arith}
use Rattle.std.specs.Prelude.{take_while, slice_get}
use Rattle.std.specs.List.{position_from, prefix_len}
use Rattle.wd_ports.proofs.Children.{drop_next}

-- one more of a list that begins so
take_more : {X : Type 0} (x : X) (xs : List X) (n : ℕ) → take (1 + n) (x ∷ xs) ≡ x ∷ take n xs
take_more x xs n = let e : 1 + n ≡ suc n = omega arith in rw e refl

module _ {X : Type 0} (came fits : X → Bool) where
  -- the first of a list has come
  front_came : (x : X) (xs : List X) → came x ≡ true → take_while came (x ∷ xs) ≡ x ∷ take_while came xs
  front_came x xs c = ap (λ b. take (cond b (1 + prefix_len came xs) 0) (x ∷ xs)) c ∙ take_more x xs (prefix_len came xs)

  -- it fits
  first_fits : (x : X) (xs : List X) (i : ℕ) → came x ≡ true → fits x ≡ true → position_from fits i (take_while came (x ∷ xs)) ≡ Some i
  first_fits x xs i c f = ap (position_from fits i) (front_came x xs c) ∙ ap (λ b. cond b (Some i) (position_from fits (i + 1) (take_while came xs))) f

  -- it does not
  first_passed : (x : X) (xs : List X) (i : ℕ) → came x ≡ true → fits x ≡ false → position_from fits i (take_while came (x ∷ xs)) ≡ position_from fits (i + 1) (take_while came xs)
  first_passed x xs i c f = ap (position_from fits i) (front_came x xs c) ∙ ap (λ b. cond b (Some i) (position_from fits (i + 1) (take_while came xs))) f

  pub place_found : (xs : List X) (i : ℕ) (d : X) → i < length xs → came (get_or xs i d) ≡ true → fits (get_or xs i d) ≡ true → position_from fits i (take_while came (drop i xs)) ≡ Some i
  place_found xs i d l c f = rw (drop_next xs i d l) (first_fits (get_or xs i d) (drop (i + 1) xs) i c f)

  pub place_passed : (xs : List X) (i : ℕ) (d : X) → i < length xs → came (get_or xs i d) ≡ true → fits (get_or xs i d) ≡ false → position_from fits (i + 1) (take_while came (drop (i + 1) xs)) ≡ position_from fits i (take_while came (drop i xs))
  place_passed xs i d l c f = rw (drop_next xs i d l) (sym (first_passed (get_or xs i d) (drop (i + 1) xs) i c f))

-- the item at a place
pub item_there : {X : Type 0} (xs : List X) (i : ℕ) (d : X) → i < length xs → slice_get xs i ≡ Some (get_or xs i d)
item_there [] i d l = absurd (omega arith)
item_there (x ∷ xs) zero d l = refl
item_there (x ∷ xs) (suc i) d l = item_there xs i d (omega arith)
