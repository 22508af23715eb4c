-- The Workers among the targets of a Worker, each at its first place.
use Rattle.std.proofs.Common.{◌≡◌, ℕ, zero, suc, ◌<◌, Bool, true, false, not, ◌||◌, cond, List, [], ◌∷◌, ◌++◌, length, filter, replicate, slice_get, slice_set, Option, Some, None, is_some, inl, inr, subst, refl, sym, ap, ◌∙◌, arith, append_assoc, append-nil}
use Rattle.std.proofs.lemmas.Bool.Decides.{eqb_tells}
use Rattle.std.proofs.lemmas.Option.{slice_get_within}
use Rattle.wd_base.specs.declared.config.Service.{Service}
use Rattle.wd_base.specs.declared.config.WorkerDef.{WorkerDef}
use Rattle.wd_graph.specs.declared.workers.Found.{Found}
use Rattle.wd_graph.specs.Names.{same_name, number_of, service_of, worker_at, first_places, workers_of, targets}
use Rattle.wd_graph.specs.Graph.{has_text}
use Rattle.wd_graph.specs.Workers.{found_mark, found_worker, found_number, found_name, found_names}
use Rattle.wd_graph.proofs.FindLemmas.{or_true}
use Rattle.wd_graph.proofs.Numbers.{some_same, one_name, name_itself, numbered, unnumbered}
use Rattle.wd_graph.proofs.WalkLemmas.{get_set_same, get_set_other}

-- the name is a Worker's
abbrev is_worker : List Service → List ℕ → Bool
is_worker ss name = is_some (worker_at (service_of name ss))

-- the names that were not found before
abbrev is_new : List (List ℕ) → List ℕ → Bool
is_new names name = not (has_text names name)

-- the marks stand at the names that were found
record IsMarked (ss : List Service) (f : Found) : Type 0 where
  pub marks : (name : List ℕ) (k : ℕ) → number_of name ss ≡ Some k → slice_get f.marks k ≡ Some (has_text f.names name)

or_false : (b : Bool) → (b || false) ≡ b
or_false true = refl
or_false false = refl

or_assoc : (a b c : Bool) → (a || (b || c)) ≡ ((a || b) || c)
or_assoc true b c = refl
or_assoc false b c = refl

has_text_push : (names : List (List ℕ)) (t u : List ℕ) → has_text (names ++ t ∷ []) u ≡ (has_text names u || same_name t u)
has_text_push [] t u = or_false (same_name t u)
has_text_push (x ∷ xs) t u = ap (λ b. same_name x u || b) (has_text_push xs t u) ∙ or_assoc (same_name x u) (has_text xs u) (same_name t u)

-- names that were found are left out, whether or not one of them was left out before
filter_known : (names ys : List (List ℕ)) (t : List ℕ) → has_text names t ≡ true → filter (is_new names) (filter (λ y. not (same_name t y)) ys) ≡ filter (is_new names) ys
filter_known names [] t h = refl
filter_known names (y ∷ ys) t h =
    elim (same_name t y) as (λ b. same_name t y ≡ b → filter (is_new names) (cond (not b) (y ∷ filter (λ y. not (same_name t y)) ys) (filter (λ y. not (same_name t y)) ys)) ≡ filter (is_new names) (y ∷ ys)) [
      | true ↦ λ same.
          let known : has_text names y ≡ true = ap (has_text names) (sym (one_name t y same)) ∙ h in
          filter_known names ys t h ∙ sym (ap (λ b. cond (not b) (y ∷ filter (is_new names) ys) (filter (is_new names) ys)) known)
      | false ↦ λ other. ap (λ (r : List (List ℕ)). cond (is_new names y) (y ∷ r) r) (filter_known names ys t h)
    ] refl

-- a name is left out after others
filter_pushed : (names ys : List (List ℕ)) (t : List ℕ) → filter (is_new names) (filter (λ y. not (same_name t y)) ys) ≡ filter (is_new (names ++ t ∷ [])) ys
filter_pushed names [] t = refl
filter_pushed names (y ∷ ys) t =
    let rest = filter (is_new (names ++ t ∷ [])) ys in
    let split : is_new (names ++ t ∷ []) y ≡ not (has_text names y || same_name t y) = ap not (has_text_push names t y) in
    let now : filter (is_new names) (filter (λ y. not (same_name t y)) (y ∷ ys)) ≡ cond (not (has_text names y || same_name t y)) (y ∷ rest) rest =
    elim (same_name t y) as (λ b. filter (is_new names) (cond (not b) (y ∷ filter (λ y. not (same_name t y)) ys) (filter (λ y. not (same_name t y)) ys)) ≡ cond (not (has_text names y || b)) (y ∷ rest) rest) [
      | true ↦ filter_pushed names ys t ∙ sym (ap (λ b. cond (not b) (y ∷ rest) rest) (or_true (has_text names y)))
      | false ↦ ap (λ (r : List (List ℕ)). cond (is_new names y) (y ∷ r) r) (filter_pushed names ys t) ∙ sym (ap (λ b. cond (not b) (y ∷ rest) rest) (or_false (has_text names y)))
    ] in
    now ∙ sym (ap (λ b. cond b (y ∷ rest) rest) split)

-- names of one number are one
one_number : (ss : List Service) (t u : List ℕ) (k j : ℕ) → number_of t ss ≡ Some k → number_of u ss ≡ Some j → j ≡ k → u ≡ t
one_number ss t u k j place other same =
    let mine = numbered ss t k place in
    let its = numbered ss u j other in
    sym its.named ∙ ap (λ s. s.name) (some_same its.service mine.service (sym its.place ∙ ap (slice_get ss) same ∙ mine.place)) ∙ mine.named

one_place : (ss : List Service) (t u : List ℕ) (k j : ℕ) → number_of t ss ≡ Some k → number_of u ss ≡ Some j → same_name t u ≡ true → j ≡ k
one_place ss t u k j place other same = some_same j k (sym other ∙ ap (λ n. number_of n ss) (sym (one_name t u same)) ∙ place)

module _ (ss : List Service) (f : Found) (t : List ℕ) (k : ℕ) (place : number_of t ss ≡ Some k) (m : IsMarked ss f) where
  new_marked : IsMarked ss (found_mark f t k (Some false))
  new_marked = record {
    marks = λ u j e.
        elim (eqb_tells j k) [
          | inl h ↦
              let one = one_number ss t u k j place e h.1 in
              ap (slice_get (slice_set f.marks k true)) h.1
              ∙ get_set_same f.marks k (has_text f.names t) true (m.marks t k place)
              ∙ sym (ap Some (ap (has_text (f.names ++ t ∷ [])) one ∙ has_text_push f.names t t ∙ ap (λ b. has_text f.names t || b) (name_itself t) ∙ or_true (has_text f.names t)))
          | inr h ↦
              let other : same_name t u ≡ false =
              elim (same_name t u) as (λ b. same_name t u ≡ b → b ≡ false) [
                | true ↦ λ same. absurd (h.1 (one_place ss t u k j place e same))
                | false ↦ λ same. refl
              ] refl in
              get_set_other f.marks k j true h.1 ∙ m.marks u j e ∙ sym (ap Some (has_text_push f.names t u ∙ ap (λ b. has_text f.names u || b) other ∙ or_false (has_text f.names u)))
        ];
  }

-- what is left of names: the Workers among them that were not found, each at its first place
abbrev left_of : List Service → List (List ℕ) → List (List ℕ) → List (List ℕ)
left_of ss found names = filter (is_new found) (first_places (filter (is_worker ss) names))

-- what one name does: it is marked still, and what is found and what is left are as before
record IsStep (ss : List Service) (f g : Found) (t : List ℕ) : Type 0 where
  pub marked : IsMarked ss g
  pub names : (ts : List (List ℕ)) → g.names ++ left_of ss g.names ts ≡ f.names ++ left_of ss f.names (t ∷ ts)

no_worker : (ss : List Service) (f : Found) (t : List ℕ) → is_worker ss t ≡ false → IsMarked ss f → IsStep ss f f t
no_worker ss f t h m = record {
  marked = m;
  names = λ ts. ap (λ b. f.names ++ filter (is_new f.names) (first_places (cond b (t ∷ filter (is_worker ss) ts) (filter (is_worker ss) ts)))) (sym h);
}

a_worker : (ss : List Service) (f : Found) (t : List ℕ) (k : ℕ) → is_worker ss t ≡ true → number_of t ss ≡ Some k → IsMarked ss f → IsStep ss f (found_mark f t k (slice_get f.marks k)) t
a_worker ss f t k h place m =
    let whole : (ts : List (List ℕ)) → left_of ss f.names (t ∷ ts) ≡ cond (is_new f.names t) (t ∷ filter (is_new f.names) (filter (λ y. not (same_name t y)) (first_places (filter (is_worker ss) ts)))) (filter (is_new f.names) (filter (λ y. not (same_name t y)) (first_places (filter (is_worker ss) ts)))) =
    λ ts. ap (λ b. filter (is_new f.names) (first_places (cond b (t ∷ filter (is_worker ss) ts) (filter (is_worker ss) ts)))) h in
    elim (has_text f.names t) as (λ b. has_text f.names t ≡ b → IsStep ss f (found_mark f t k (slice_get f.marks k)) t) [
      | true ↦ λ known.
          subst (λ o. IsStep ss f (found_mark f t k o) t) (sym (m.marks t k place ∙ ap Some known)) (record {
            marked = m;
            names = λ ts. ap (λ r. f.names ++ r) (sym (whole ts ∙ ap (λ b. cond (not b) (t ∷ filter (is_new f.names) (filter (λ y. not (same_name t y)) (first_places (filter (is_worker ss) ts)))) (filter (is_new f.names) (filter (λ y. not (same_name t y)) (first_places (filter (is_worker ss) ts))))) known ∙ filter_known f.names (first_places (filter (is_worker ss) ts)) t known));
          })
      | false ↦ λ fresh.
          subst (λ o. IsStep ss f (found_mark f t k o) t) (sym (m.marks t k place ∙ ap Some fresh)) (record {
            marked = new_marked ss f t k place m;
            names = λ ts.
                append_assoc f.names (t ∷ []) (left_of ss (f.names ++ t ∷ []) ts)
                ∙ ap (λ (r : List (List ℕ)). f.names ++ t ∷ r) (sym (filter_pushed f.names (first_places (filter (is_worker ss) ts)) t))
                ∙ ap (λ r. f.names ++ r) (sym (whole ts ∙ ap (λ b. cond (not b) (t ∷ filter (is_new f.names) (filter (λ y. not (same_name t y)) (first_places (filter (is_worker ss) ts)))) (filter (is_new f.names) (filter (λ y. not (same_name t y)) (first_places (filter (is_worker ss) ts))))) fresh));
          })
    ] refl

step_worker : (ss : List Service) (f : Found) (t : List ℕ) (k : ℕ) (o : Option WorkerDef) → is_worker ss t ≡ is_some o → number_of t ss ≡ Some k → IsMarked ss f → IsStep ss f (found_worker f t k o) t
step_worker ss f t k None h place m = no_worker ss f t h m
step_worker ss f t k (Some def) h place m = a_worker ss f t k h place m

step_number : (ss : List Service) (f : Found) (t : List ℕ) (o : Option ℕ) → number_of t ss ≡ o → IsMarked ss f → IsStep ss f (found_number ss f t o) t
step_number ss f t None h m = no_worker ss f t (ap (λ s. is_some (worker_at s)) (unnumbered ss t h)) m
step_number ss f t (Some k) h m =
    let r = numbered ss t k h in
    step_worker ss f t k (worker_at (slice_get ss k)) (ap (λ s. is_some (worker_at s)) (r.found ∙ sym r.place)) h m

steps : (ss : List Service) (f : Found) (ts : List (List ℕ)) → IsMarked ss f → (found_names ss f ts).names ≡ f.names ++ left_of ss f.names ts
steps ss f [] m = sym (append-nil f.names)
steps ss f (t ∷ ts) m =
    let one = step_number ss f t (number_of t ss) refl m in
    steps ss (found_name ss f t) ts one.marked ∙ one.names ts

none_marked : (n k : ℕ) → k < n → slice_get (replicate n false) k ≡ Some false
none_marked zero k h = absurd (omega (arith, h))
none_marked (suc n) zero h = refl
none_marked (suc n) (suc k) h = none_marked n k (omega (arith, h))

keeps_all : (ys : List (List ℕ)) → filter (is_new []) ys ≡ ys
keeps_all [] = refl
keeps_all (y ∷ ys) = ap (λ (r : List (List ℕ)). y ∷ r) (keeps_all ys)

-- after all targets the Workers among them were found
pub all_found : (ss : List Service) (def : WorkerDef) → (found_names ss (record { marks = replicate (length ss) false; names = [] }) (targets def)).names ≡ workers_of ss def
all_found ss def =
    let start : IsMarked ss (record { marks = replicate (length ss) false; names = [] }) = record {
      marks = λ name k e. let r = numbered ss name k e in none_marked (length ss) k (slice_get_within ss k r.service r.place);
    } in
    steps ss (record { marks = replicate (length ss) false; names = [] }) (targets def) start ∙ keeps_all (first_places (filter (is_worker ss) (targets def)))
