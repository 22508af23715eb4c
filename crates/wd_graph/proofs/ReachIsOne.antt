-- Ascending numbers are told by which numbers stand among them.
use Rattle.std.proofs.Common.{◌≡◌, ℕ, ◌<◌, ◌≤◌, Bool, true, false, ◌&&◌, ◌||◌, List, [], ◌∷◌, nat_eq, nat_lt, refl, ap, ap₂, arith, eqb-true, eq-eqb, ltb-true}
use Rattle.std.proofs.lemmas.Bool.{false≢true}
use Rattle.wd_base.specs.declared.config.Service.{Service}
use Rattle.wd_base.specs.declared.ids.ServiceNo.{ServiceNo}
use Rattle.wd_graph.specs.Graph.{has_service, ascends_from, ascends, IsReach}
use Rattle.wd_graph.proofs.WalkLemmas.{or_first, or_second}

and_left : (a b : Bool) → (a && b) ≡ true → a ≡ true
and_left true b e = refl
and_left false b e = e

and_right : (a b : Bool) → (a && b) ≡ true → b ≡ true
and_right true b e = e
and_right false b e = absurd (false≢true e)

-- each number is above what the list ascends from
above : (low : ℕ) (xs : List ServiceNo) (k : ℕ) → ascends_from low xs ≡ true → has_service xs k ≡ true → low < k
above low [] k a h = absurd (false≢true h)
above low (x ∷ xs) k a h =
    let first : low < x.0 = ltb-true low x.0 (and_left (nat_lt low x.0) (ascends_from x.0 xs) a) in
    elim (nat_eq x.0 k) as (λ b. nat_eq x.0 k ≡ b → (b || has_service xs k) ≡ true → low < k) [
      | true ↦ λ same g. let one : x.0 ≡ k = eqb-true x.0 k same in omega (arith, first, one)
      | false ↦ λ other g. let later = above x.0 xs k (and_right (nat_lt low x.0) (ascends_from x.0 xs) a) g in omega (arith, first, later)
    ] refl h

at_least : (x : ServiceNo) (xs : List ServiceNo) (k : ℕ) → ascends_from x.0 xs ≡ true → has_service (x ∷ xs) k ≡ true → x.0 ≤ k
at_least x xs k a h =
    elim (nat_eq x.0 k) as (λ b. nat_eq x.0 k ≡ b → (b || has_service xs k) ≡ true → x.0 ≤ k) [
      | true ↦ λ same g. let one : x.0 ≡ k = eqb-true x.0 k same in omega (arith, one)
      | false ↦ λ other g. let later = above x.0 xs k a g in omega (arith, later)
    ] refl h

behind : (x : ServiceNo) (xs : List ServiceNo) (k : ℕ) → x.0 < k → has_service (x ∷ xs) k ≡ true → has_service xs k ≡ true
behind x xs k low h =
    elim (nat_eq x.0 k) as (λ b. nat_eq x.0 k ≡ b → (b || has_service xs k) ≡ true → has_service xs k ≡ true) [
      | true ↦ λ same g. let one : x.0 ≡ k = eqb-true x.0 k same in absurd (omega (arith, low, one))
      | false ↦ λ other g. g
    ] refl h

here : (x : ServiceNo) (xs : List ServiceNo) → has_service (x ∷ xs) x.0 ≡ true
here x xs = or_first (nat_eq x.0 x.0) (has_service xs x.0) (eq-eqb x.0 x.0 refl)

rest_ascends : (low : ℕ) (xs : List ServiceNo) → ascends_from low xs ≡ true → ascends xs ≡ true
rest_ascends low [] a = refl
rest_ascends low (x ∷ xs) a = and_right (nat_lt low x.0) (ascends_from x.0 xs) a

one_list : (xs ys : List ServiceNo) → ascends xs ≡ true → ascends ys ≡ true → ((k : ℕ) → has_service xs k ≡ true → has_service ys k ≡ true) → ((k : ℕ) → has_service ys k ≡ true → has_service xs k ≡ true) → xs ≡ ys
one_list [] [] a b f g = refl
one_list [] (y ∷ ys) a b f g = absurd (false≢true (g y.0 (here y ys)))
one_list (x ∷ xs) [] a b f g = absurd (false≢true (f x.0 (here x xs)))
one_list (x ∷ xs) (y ∷ ys) a b f g =
    let lower = at_least x xs y.0 a (g y.0 (here y ys)) in
    let upper = at_least y ys x.0 b (f x.0 (here x xs)) in
    let same : x.0 ≡ y.0 = omega (arith, lower, upper) in
    let head : x ≡ y = ap {B = ServiceNo} (λ n. record { 0 = n }) same in
    let tail : xs ≡ ys = one_list xs ys (rest_ascends x.0 xs a) (rest_ascends y.0 ys b)
    (λ k h. let up = above x.0 xs k a h in behind y ys k (omega (arith, up, same)) (f k (or_second (nat_eq x.0 k) (has_service xs k) h)))
    (λ k h. let up = above y.0 ys k b h in behind x xs k (omega (arith, up, same)) (g k (or_second (nat_eq y.0 k) (has_service ys k) h))) in
    ap₂ {C = List ServiceNo} (λ x xs. x ∷ xs) head tail

-- a service has one reach
pub reach_is_one : (ss : List Service) (from : ℕ) (xs ys : List ServiceNo) → IsReach ss from xs → IsReach ss from ys → xs ≡ ys
reach_is_one ss from xs ys x y =
    one_list xs ys x.ascending y.ascending (λ k h. (y.exact k).1 ((x.exact k).0 h)) (λ k h. (x.exact k).1 ((y.exact k).0 h))
