-- Rows that are found by a test.
use Rattle.std.proofs.Common.{◌≡◌, ℕ, ◌+◌, ◌<◌, Bool, true, false, not, ◌||◌, cond, List, [], ◌∷◌, ◌++◌, length, map, Some, None, option_map, if◌then◌else◌, is_some, refl, sym, ap, ◌∙◌, arith, nat_eq, ◌&&◌}
use Rattle.std.proofs.lemmas.Bool.{false≢true}
use Rattle.std.proofs.lemmas.Bool.Decides.{nat_tests}
use Rattle.std.specs.List.{position_from, find, list_any}
use Rattle.wd_base.specs.declared.config.Service.{Service}
use Rattle.wd_graph.specs.Names.{same_name, is_named, has_name, names_differ}
use Rattle.wd_graph.specs.Links.{with_internet, internet, internet_name}

place_bound : {X : Type 0} (p : X → Bool) (xs : List X) (n i : ℕ) → position_from p n xs ≡ Some i → i < n + length xs
place_bound p [] n i e = cc
place_bound p (x ∷ xs) n i e =
    elim (p x) as (λ b. cond b (Some n) (position_from p (n + 1) xs) ≡ Some i → i < n + length (x ∷ xs)) [
      | true ↦ λ e. let same : n ≡ i = cc in omega arith
      | false ↦ λ e. let later = place_bound p xs (n + 1) i e in omega (arith, later)
    ] e

-- a row that was found stands in the list
pub place_within : {X : Type 0} (p : X → Bool) (xs : List X) (i : ℕ) → position_from p 0 xs ≡ Some i → i < length xs
place_within p xs i e = let within = place_bound p xs 0 i e in omega (arith, within)

-- where the first list has none, the search goes on in the second
pub find_append_none : {X : Type 0} (p : X → Bool) (xs ys : List X) → find p xs ≡ None → find p (xs ++ ys) ≡ find p ys
find_append_none p [] ys e = refl
find_append_none p (x ∷ xs) ys e =
    elim (p x) as (λ b. cond b (Some x) (find p xs) ≡ None → cond b (Some x) (find p (xs ++ ys)) ≡ find p ys) [
      | true ↦ λ e. cc
      | false ↦ λ e. find_append_none p xs ys e
    ] e

-- what the first list has is found
pub find_append_some : {X : Type 0} (p : X → Bool) (xs ys : List X) (x : X) → find p xs ≡ Some x → find p (xs ++ ys) ≡ Some x
find_append_some p [] ys y e = cc
find_append_some p (x ∷ xs) ys y e =
    elim (p x) as (λ b. cond b (Some x) (find p xs) ≡ Some y → cond b (Some x) (find p (xs ++ ys)) ≡ Some y) [
      | true ↦ λ e. e
      | false ↦ λ e. find_append_some p xs ys y e
    ] e

-- a search among images
pub find_map : {X Y : Type 0} (p : Y → Bool) (f : X → Y) (xs : List X) → find p (map f xs) ≡ option_map f (find (λ x. p (f x)) xs)
find_map p f [] = refl
find_map p f (x ∷ xs) =
    elim (p (f x)) as (λ b. cond b (Some (f x)) (find p (map f xs)) ≡ option_map f (cond b (Some x) (find (λ x. p (f x)) xs))) [
      | true ↦ refl
      | false ↦ find_map p f xs
    ]

nat_eq_swap : (a b : ℕ) → nat_eq a b ≡ nat_eq b a
nat_eq_swap a b = grind (arith, nat_tests)

-- one name is the other where the other is the one
pub same_name_swap : (a b : List ℕ) → same_name a b ≡ same_name b a
same_name_swap [] [] = refl
same_name_swap [] (y ∷ ys) = refl
same_name_swap (x ∷ xs) [] = refl
same_name_swap (x ∷ xs) (y ∷ ys) = ap (λ t. t && same_name xs ys) (nat_eq_swap x y) ∙ ap (λ t. nat_eq y x && t) (same_name_swap xs ys)

pub or_left : (a b : Bool) → (a || b) ≡ false → a ≡ false
or_left true b e = e
or_left false b e = refl

or_right : (a b : Bool) → (a || b) ≡ false → b ≡ false
or_right true b e = absurd (false≢true (sym e))
or_right false b e = e

pub not_left : (a b : Bool) → (not a && b) ≡ true → a ≡ false
not_left true b e = absurd (false≢true e)
not_left false b e = refl

pub not_right : (a b : Bool) → (not a && b) ≡ true → b ≡ true
not_right true b e = absurd (false≢true e)
not_right false b e = e

-- a name that is neither among the services nor the last one's
new_among : (ss : List Service) (s : Service) (name : List ℕ) → has_name ss name ≡ false → is_named name s ≡ false → has_name (ss ++ s ∷ []) name ≡ false
new_among [] s name none last = rw last refl
new_among (x ∷ xs) s name none last =
    rw (or_left (is_named name x) (has_name xs name) none) (new_among xs s name (or_right (is_named name x) (has_name xs name) none) last)

-- the names differ still where a new one stands behind them
differ_push : (ss : List Service) (s : Service) → has_name ss s.name ≡ false → names_differ ss ≡ true → names_differ (ss ++ s ∷ []) ≡ true
differ_push [] s new differ = refl
differ_push (x ∷ xs) s new differ =
    let here : is_named x.name s ≡ false = same_name_swap s.name x.name ∙ or_left (same_name x.name s.name) (has_name xs s.name) new in
    let fresh = new_among xs s x.name (not_left (has_name xs x.name) (names_differ xs) differ) here in
    rw fresh (differ_push xs s (or_right (same_name x.name s.name) (has_name xs s.name) new) (not_right (has_name xs x.name) (names_differ xs) differ))

-- the services with their `internet` have names that differ still
pub names_differ_internet : (ss : List Service) → names_differ ss ≡ true → names_differ (with_internet ss) ≡ true
names_differ_internet ss differ =
    elim (has_name ss internet_name) as (λ b. has_name ss internet_name ≡ b → names_differ (if b then ss else ss ++ internet ∷ []) ≡ true) [
      | true ↦ λ e. differ
      | false ↦ λ e. differ_push ss internet e differ
    ] refl

pub or_true : (b : Bool) → (b || true) ≡ true
or_true true = refl
or_true false = refl

-- the last service has its name
last_known : (ss : List Service) (s : Service) → is_named s.name s ≡ true → has_name (ss ++ s ∷ []) s.name ≡ true
last_known [] s same = rw same refl
last_known (x ∷ xs) s same = ap (λ b. is_named s.name x || b) (last_known xs s same) ∙ or_true (is_named s.name x)

-- there is a service called `internet` among them
pub internet_known : (ss : List Service) → has_name (with_internet ss) internet_name ≡ true
internet_known ss =
    elim (has_name ss internet_name) as (λ b. has_name ss internet_name ≡ b → has_name (if b then ss else ss ++ internet ∷ []) internet_name ≡ true) [
      | true ↦ λ e. e
      | false ↦ λ e. last_known ss internet refl
    ] refl

any_from : {X : Type 0} (p : X → Bool) (xs : List X) (n : ℕ) → is_some (position_from p n xs) ≡ list_any p xs
any_from p [] n = refl
any_from p (x ∷ xs) n =
    elim (p x) as (λ b. is_some (cond b (Some n) (position_from p (n + 1) xs)) ≡ (b || list_any p xs)) [
      | true ↦ refl
      | false ↦ any_from p xs (n + 1)
    ]

-- a row passes where one is found
pub any_from_position : {X : Type 0} (p : X → Bool) (xs : List X) → is_some (position_from p 0 xs) ≡ list_any p xs
any_from_position p xs = any_from p xs 0
