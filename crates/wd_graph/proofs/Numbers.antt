-- Services by their names and by their numbers.
use Rattle.std.proofs.Common.{◌≡◌, ◌↔◌, ℕ, zero, suc, ◌+◌, Bool, true, false, cond, List, [], ◌∷◌, slice_get, Option, Some, None, is_some, refl, sym, ap, ◌∙◌, arith}
use Rattle.std.proofs.lemmas.Bool.{false≢true}
use Rattle.std.proofs.lemmas.Map.Keys.{any_passes_from_place}
use Rattle.std.specs.Cmp.Lexicographic.{bytes_decides}
use Rattle.std.specs.List.{position_from, find}
use Rattle.wd_base.specs.declared.config.Service.{Service}
use Rattle.wd_graph.specs.Names.{same_name, is_named, has_name, names_differ, service_of, number_of}
use Rattle.wd_graph.specs.Graph.{name_in, name_at}
use Rattle.wd_graph.proofs.FindLemmas.{not_left, not_right, any_from_position}

-- names that pass the test are one
pub one_name : (a b : List ℕ) → same_name a b ≡ true → a ≡ b
one_name a b e = (bytes_decides a b).0 e

-- a name passes the test with itself
pub name_itself : (a : List ℕ) → same_name a a ≡ true
name_itself a = (bytes_decides a a).1 refl

-- a place that was found has a row that passes, which the search for the row finds
place_row : {X : Type 0} (p : X → Bool) (xs : List X) (n i : ℕ) → position_from p n xs ≡ Some i → (k : ℕ) × (x : X) × (i ≡ n + k) × (slice_get xs k ≡ Some x) × (p x ≡ true) × (find p xs ≡ Some x)
place_row p [] n i e = cc
place_row {X = X} p (x ∷ xs) n i e =
    elim (p x) as (λ b. p x ≡ b → cond b (Some n) (position_from p (n + 1) xs) ≡ Some i → (k : ℕ) × (y : X) × (i ≡ n + k) × (slice_get (x ∷ xs) k ≡ Some y) × (p y ≡ true) × (cond b (Some x) (find p xs) ≡ Some y)) [
      | true ↦ λ h e. let same : n ≡ i = cc in (0, x, omega arith, refl, h, refl)
      | false ↦ λ h e. let r = place_row p xs (n + 1) i e in (suc r.0, r.1, omega (arith, r.2), r.3, r.4, r.5)
    ] refl e

find_none : {X : Type 0} (p : X → Bool) (xs : List X) (n : ℕ) → position_from p n xs ≡ None → find p xs ≡ None
find_none p [] n e = refl
find_none p (x ∷ xs) n e =
    elim (p x) as (λ b. cond b (Some n) (position_from p (n + 1) xs) ≡ None → cond b (Some x) (find p xs) ≡ None) [
      | true ↦ λ e. cc
      | false ↦ λ e. find_none p xs (n + 1) e
    ] e

-- the service that a name's number has
pub record IsNumbered (ss : List Service) (name : List ℕ) (k : ℕ) : Type 0 where
  pub service : Service
  pub place : slice_get ss k ≡ Some service
  pub named : service.name ≡ name
  pub found : service_of name ss ≡ Some service

pub numbered : (ss : List Service) (name : List ℕ) (k : ℕ) → number_of name ss ≡ Some k → IsNumbered ss name k
numbered ss name k e =
    let r = place_row (is_named name) ss 0 k e in
    let same : k ≡ r.0 = omega (arith, r.2) in
    record { service = r.1; place = ap (slice_get ss) same ∙ r.3; named = one_name r.1.name name r.4; found = r.5 }

-- a name without a number has no service
pub unnumbered : (ss : List Service) (name : List ℕ) → number_of name ss ≡ None → service_of name ss ≡ None
unnumbered ss name e = find_none (is_named name) ss 0 e

-- a name that a service has has a number
pub known_number : (ss : List Service) (name : List ℕ) → has_name ss name ≡ true → (k : ℕ) × (number_of name ss ≡ Some k)
known_number ss name e =
    elim (number_of name ss) as (λ o. is_some o ≡ true → (k : ℕ) × (o ≡ Some k)) [
      | None ↦ λ h. absurd (false≢true h)
      | Some k ↦ λ h. (k, refl)
    ] (any_from_position (is_named name) ss ∙ e)

-- a service that a name has has a number
pub found_number : (ss : List Service) (name : List ℕ) (s : Service) → service_of name ss ≡ Some s → (k : ℕ) × (number_of name ss ≡ Some k)
found_number ss name s e =
    elim (number_of name ss) as (λ o. number_of name ss ≡ o → (k : ℕ) × (o ≡ Some k)) [
      | None ↦ λ h. let none = unnumbered ss name h in cc
      | Some k ↦ λ h. (k, refl)
    ] refl

-- where no two services have one name, the number of a service's name is its place
place_from : (ss : List Service) (n k : ℕ) (s : Service) → names_differ ss ≡ true → slice_get ss k ≡ Some s → position_from (is_named s.name) n ss ≡ Some (n + k)
place_from [] n k s d e = cc
place_from (x ∷ xs) n zero s d e =
    let same : x ≡ s = cc in
    let passes : is_named s.name x ≡ true = ap (is_named s.name) same ∙ name_itself s.name in
    rw passes (ap Some (omega arith))
place_from (x ∷ xs) n (suc k) s d e =
    elim (is_named s.name x) as (λ b. is_named s.name x ≡ b → cond b (Some n) (position_from (is_named s.name) (n + 1) xs) ≡ Some (n + suc k)) [
      | true ↦ λ h. absurd (false≢true (sym (not_left (has_name xs x.name) (names_differ xs) d) ∙ ap (has_name xs) (one_name x.name s.name h) ∙ any_passes_from_place (is_named s.name) xs k s e (name_itself s.name)))
      | false ↦ λ h. place_from xs (n + 1) k s (not_right (has_name xs x.name) (names_differ xs) d) e ∙ ap Some (omega arith)
    ] refl

pub place_number : (ss : List Service) (k : ℕ) (s : Service) → names_differ ss ≡ true → slice_get ss k ≡ Some s → number_of s.name ss ≡ Some k
place_number ss k s d e = place_from ss 0 k s d e ∙ ap Some (omega arith)

-- and the service of its name is itself
pub place_service : (ss : List Service) (k : ℕ) (s : Service) → names_differ ss ≡ true → slice_get ss k ≡ Some s → service_of s.name ss ≡ Some s
place_service ss k s d e =
    let r = numbered ss s.name k (place_number ss k s d e) in
    r.found ∙ sym r.place ∙ e

-- the name at a place
pub place_name : (ss : List Service) (k : ℕ) (s : Service) → slice_get ss k ≡ Some s → name_at ss k ≡ s.name
place_name ss k s e = ap name_in e

pub number_name : (ss : List Service) (name : List ℕ) (k : ℕ) → number_of name ss ≡ Some k → name_at ss k ≡ name
number_name ss name k e = let r = numbered ss name k e in place_name ss k r.service r.place ∙ r.named

-- what stands in two equal options is one
pub some_same : {X : Type 0} (x y : X) → Some x ≡ Some y → x ≡ y
some_same x y e = cc

none_some : {X : Type 0} (x : X) → ◌≡◌ {A = Option X} None (Some x) → ⊥
none_some x e = cc

-- the service at a name's number is the service of that name, and no other is
pub found_is : (ss : List Service) (name : List ℕ) (k : ℕ) (found s : Service) → number_of name ss ≡ Some k → slice_get ss k ≡ Some found → (s ≡ found) ↔ (service_of name ss ≡ Some s)
found_is ss name k found s e g =
    let r = numbered ss name k e in
    let f : service_of name ss ≡ Some found = r.found ∙ sym r.place ∙ g in
    (λ same. f ∙ ap Some (sym same), λ h. some_same s found (sym h ∙ f))

pub nowhere : (ss : List Service) (name : List ℕ) (k : ℕ) → number_of name ss ≡ Some k → slice_get ss k ≡ None → ⊥
nowhere ss name k e g = let r = numbered ss name k e in none_some r.service (sym g ∙ r.place)

pub no_service : (ss : List Service) (name : List ℕ) (s : Service) → number_of name ss ≡ None → service_of name ss ≡ Some s → ⊥
no_service ss name s e g = none_some s (sym (unnumbered ss name e) ∙ g)

one_more : (n j : ℕ) → Some n ≡ Some (n + suc j) → ⊥
one_more n j e = let same = some_same n (n + suc j) e in omega (arith, same)

numbers_from_differ : (ss : List Service) (n : ℕ) → ((k : ℕ) (s : Service) → slice_get ss k ≡ Some s → position_from (is_named s.name) n ss ≡ Some (n + k)) → names_differ ss ≡ true
numbers_from_differ [] n h = refl
numbers_from_differ (x ∷ xs) n h =
    let fresh : has_name xs x.name ≡ false =
    elim (has_name xs x.name) as (λ b. has_name xs x.name ≡ b → b ≡ false) [
      | true ↦ λ e.
          let j = known_number xs x.name e in
          let r = numbered xs x.name j.0 j.1 in
          let mine : is_named r.service.name x ≡ true = ap (same_name x.name) r.named ∙ name_itself x.name in
          absurd (one_more n j.0 (sym (ap (λ b. cond b (Some n) (position_from (is_named r.service.name) (n + 1) xs)) mine) ∙ h (suc j.0) r.service r.place))
      | false ↦ λ e. refl
    ] refl in
    let rest : names_differ xs ≡ true = numbers_from_differ xs (n + 1) (λ k s e.
    elim (is_named s.name x) as (λ b. cond b (Some n) (position_from (is_named s.name) (n + 1) xs) ≡ Some (n + suc k) → position_from (is_named s.name) (n + 1) xs ≡ Some (n + 1 + k)) [
      | true ↦ λ g. absurd (one_more n k g)
      | false ↦ λ g. g ∙ ap Some (omega arith)
    ] (h (suc k) s e)) in
    rw fresh rest

-- where each service has its place as the number of its name, no two services have one name
pub numbers_differ : (ss : List Service) → ((k : ℕ) (s : Service) → slice_get ss k ≡ Some s → number_of s.name ss ≡ Some k) → names_differ ss ≡ true
numbers_differ ss h = numbers_from_differ ss 0 (λ k s e. h k s e ∙ ap Some (omega arith))
