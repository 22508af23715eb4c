-- The numbers of marks, and what marks of a reach say.
use Rattle.std.proofs.Common.{◌≡◌, ℕ, zero, suc, ◌+◌, ◌<◌, ◌↔◌, Bool, true, false, ◌&&◌, ◌||◌, List, [], ◌∷◌, nat_eq, nat_lt, length, slice_get, Some, None, refl, sym, ap, ◌∙◌, arith, subst, lt-ltb, eq-eqb, eqb-true}
use Rattle.std.proofs.lemmas.Bool.{false≢true}
use Rattle.wd_base.specs.declared.config.Config.{Config}
use Rattle.wd_base.specs.declared.config.Service.{Service}
use Rattle.std.proofs.lemmas.Map.Keys.{any_passes_from_place}
use Rattle.std.proofs.lemmas.Option.{slice_get_within}
use Rattle.wd_graph.specs.Names.{names_differ, service_of, has_name, is_named}
use Rattle.wd_graph.specs.Graph.{has_service, ascends_from, ascends, IsReach, Agrees, Reaches, name_at}
use Rattle.wd_graph.specs.Links.{first_unknown}
use Rattle.wd_graph.specs.Walk.{MarkReach, numbers_from, MarkedStand}
use Rattle.wd_graph.proofs.Numbers.{name_itself, numbered, known_number, number_name, place_name, place_service}
use Rattle.wd_graph.proofs.ReachLaws.{reaches_known}
use Rattle.wd_graph.proofs.WalkLemmas.{get_within, or_first, or_second}

marked_number : (b : ℕ) (ms : List Bool) (j k : ℕ) → k ≡ b + j → slice_get ms j ≡ Some true → has_service (numbers_from b ms) k ≡ true
marked_number b [] j k q e = cc
marked_number b (true ∷ ms) zero k q e = or_first (nat_eq b k) (has_service (numbers_from (b + 1) ms) k) (eq-eqb b k (omega arith))
marked_number b (false ∷ ms) zero k q e = absurd (false≢true cc)
marked_number b (true ∷ ms) (suc j) k q e = or_second (nat_eq b k) (has_service (numbers_from (b + 1) ms) k) (marked_number (b + 1) ms j k (omega arith) e)
marked_number b (false ∷ ms) (suc j) k q e = marked_number (b + 1) ms j k (omega arith) e

number_marked : (b : ℕ) (ms : List Bool) (k : ℕ) → has_service (numbers_from b ms) k ≡ true → (j : ℕ) × (k ≡ b + j) × (slice_get ms j ≡ Some true)
number_marked b [] k e = absurd (false≢true e)
number_marked b (true ∷ ms) k e =
    elim (nat_eq b k) as (λ t. nat_eq b k ≡ t → (t || has_service (numbers_from (b + 1) ms) k) ≡ true → (j : ℕ) × (k ≡ b + j) × (slice_get (true ∷ ms) j ≡ Some true)) [
      | true ↦ λ same h. let one : b ≡ k = eqb-true b k same in (0, omega arith, refl)
      | false ↦ λ other h. let r = number_marked (b + 1) ms k h in (suc r.0, omega (arith, r.1), r.2)
    ] refl e
number_marked b (false ∷ ms) k e = let r = number_marked (b + 1) ms k e in (suc r.0, omega (arith, r.1), r.2)

and_both : (a b : Bool) → a ≡ true → b ≡ true → (a && b) ≡ true
and_both a b e f = ap (λ t. t && b) e ∙ f

numbers_ascend_from : (low b : ℕ) (ms : List Bool) → low < b → ascends_from low (numbers_from b ms) ≡ true
numbers_ascend_from low b [] h = refl
numbers_ascend_from low b (true ∷ ms) h = and_both (nat_lt low b) (ascends_from b (numbers_from (b + 1) ms)) (lt-ltb low b h) (numbers_ascend_from b (b + 1) ms (omega arith))
numbers_ascend_from low b (false ∷ ms) h = numbers_ascend_from low (b + 1) ms (omega arith)

numbers_ascend : (b : ℕ) (ms : List Bool) → ascends (numbers_from b ms) ≡ true
numbers_ascend b [] = refl
numbers_ascend b (true ∷ ms) = numbers_ascend_from b (b + 1) ms (omega arith)
numbers_ascend b (false ∷ ms) = numbers_ascend (b + 1) ms

-- the numbers of the marks are the reach
pub numbers_reach : (ss : List Service) (from : ℕ) (ms : List Bool) → MarkReach ss from ms → IsReach ss from (numbers_from 0 ms)
numbers_reach ss from ms m = record {
  ascending = numbers_ascend 0 ms;
  exact = λ k. (
    λ e. let r = number_marked 0 ms k e in (m.exact k).0 (ap (slice_get ms) (omega (arith, r.1)) ∙ r.2),
    λ r. marked_number 0 ms k k (omega arith) ((m.exact k).1 r),
  );
}

-- where each marked service stands in the other, both agree
pub marks_agree : (config : Config) (other : List Service) (from : ℕ) (ms : List Bool) → first_unknown config ≡ None → from < length config.services → names_differ config.services ≡ true → MarkReach config.services from ms → MarkedStand config.services ms other ↔ Agrees config.services other (name_at config.services from)
marks_agree config other from ms known inside differ m =
    let ss = config.services in
    let first = get_within ss from inside in
    let started : has_name ss (name_at ss from) ≡ true = ap (has_name ss) (place_name ss from first.0 first.1) ∙ any_passes_from_place (is_named first.0.name) ss from first.0 first.1 (name_itself first.0.name) in (
      λ stand name r.
          let n = known_number ss name (reaches_known config (name_at ss from) name known started r) in
          let q = numbered ss name n.0 n.1 in
          let mark = (m.exact n.0).1 (slice_get_within ss n.0 q.service q.place, subst (Reaches ss (name_at ss from)) (sym (number_name ss name n.0 n.1)) r) in
          (q.service, q.found, ap (λ t. service_of t other) (sym q.named) ∙ stand n.0 q.service mark q.place),
      λ agrees k s mark place.
          let r = (m.exact k).0 mark in
          let found = agrees s.name (subst (Reaches ss (name_at ss from)) (place_name ss k s place) r.1) in
          found.2 ∙ sym found.1 ∙ place_service ss k s differ place,
    )
