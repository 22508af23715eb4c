-- A walk of the graph, from the first service that is met to the last.
use Rattle.std.proofs.Common.{◌≡◌, ◌≢◌, ℕ, zero, suc, ◌+◌, ◌<◌, ◌≤◌, ◌⊎◌, inl, inr, Bool, true, false, ◌||◌, List, [], ◌∷◌, ◌++◌, length, replicate, slice_get, slice_set, Some, None, IsTrue, refl, sym, ap, ◌∙◌, subst, arith, length-append, length-set}
use Rattle.std.proofs.lemmas.Bool.{false≢true}
use Rattle.std.proofs.lemmas.Bool.Decides.{eqb_tells}
use Rattle.std.proofs.lemmas.List.{length-replicate}
use Rattle.std.proofs.lemmas.Option.{slice_get_within}
use Rattle.wd_base.specs.declared.config.Service.{Service}
use Rattle.wd_graph.specs.declared.walk.Walk.{Walk}
use Rattle.wd_graph.specs.Names.{same_name, names_differ, number_of, worker_at}
use Rattle.wd_graph.specs.Graph.{has_text, targets_in, refers_to, name_at, Reaches, Itself, Further}
use Rattle.wd_graph.specs.Walk.{met, met_mark, met_number, met_name, met_names, visited, MarkReach}
use Rattle.wd_graph.proofs.Numbers.{some_same, one_name, name_itself, numbered, unnumbered, number_name, place_name, place_number, place_service}
use Rattle.wd_graph.proofs.ReachLaws.{reaches_least}

-- ---- lists of marks

pub get_set_same : {X : Type 0} (xs : List X) (k : ℕ) (x v : X) → slice_get xs k ≡ Some x → slice_get (slice_set xs k v) k ≡ Some v
get_set_same [] k x v e = cc
get_set_same (y ∷ ys) zero x v e = refl
get_set_same (y ∷ ys) (suc k) x v e = get_set_same ys k x v e

pub get_set_other : {X : Type 0} (xs : List X) (k j : ℕ) (v : X) → j ≢ k → slice_get (slice_set xs k v) j ≡ slice_get xs j
get_set_other [] k j v n = refl
get_set_other (y ∷ ys) zero zero v n = absurd (n refl)
get_set_other (y ∷ ys) zero (suc j) v n = refl
get_set_other (y ∷ ys) (suc k) zero v n = refl
get_set_other (y ∷ ys) (suc k) (suc j) v n = get_set_other ys k j v (λ e. n (ap suc e))

get_front : {X : Type 0} (xs ys : List X) (i : ℕ) → i < length xs → slice_get (xs ++ ys) i ≡ slice_get xs i
get_front [] ys i h = absurd (omega (arith, h))
get_front (x ∷ xs) ys zero h = refl
get_front (x ∷ xs) ys (suc i) h = get_front xs ys i (omega (arith, h))

get_last : {X : Type 0} (xs : List X) (y : X) → slice_get (xs ++ y ∷ []) (length xs) ≡ Some y
get_last [] y = refl
get_last (x ∷ xs) y = get_last xs y

get_push : {X : Type 0} (xs : List X) (y z : X) (i : ℕ) → slice_get (xs ++ y ∷ []) i ≡ Some z → (slice_get xs i ≡ Some z) ⊎ (y ≡ z)
get_push [] y z zero e = inr cc
get_push [] y z (suc i) e = absurd cc
get_push (x ∷ xs) y z zero e = inl e
get_push (x ∷ xs) y z (suc i) e = get_push xs y z i e

get_none : (n k : ℕ) → slice_get (replicate n false) k ≡ Some true → ⊥
get_none zero k e = cc
get_none (suc n) zero e = false≢true cc
get_none (suc n) (suc k) e = get_none n k e

pub get_within : {X : Type 0} (xs : List X) (k : ℕ) → k < length xs → (x : X) × (slice_get xs k ≡ Some x)
get_within [] k h = absurd (omega (arith, h))
get_within (x ∷ xs) zero h = (x, refl)
get_within (x ∷ xs) (suc k) h = get_within xs k (omega (arith, h))

abbrev unmarked : List Bool → ℕ
unmarked [] = 0
unmarked (true ∷ ms) = unmarked ms
unmarked (false ∷ ms) = suc (unmarked ms)

unmarked_none : (n : ℕ) → unmarked (replicate n false) ≡ n
unmarked_none zero = refl
unmarked_none (suc n) = ap suc (unmarked_none n)

unmarked_set : (ms : List Bool) (k : ℕ) → slice_get ms k ≡ Some false → suc (unmarked (slice_set ms k true)) ≡ unmarked ms
unmarked_set [] k e = cc
unmarked_set (true ∷ ms) zero e = absurd (false≢true cc)
unmarked_set (false ∷ ms) zero e = refl
unmarked_set (true ∷ ms) (suc k) e = unmarked_set ms k e
unmarked_set (false ∷ ms) (suc k) e = ap suc (unmarked_set ms k e)

-- ---- one service that is met

-- what a walk from the service `number` has met
pub record Walked (ss : List Service) (number : ℕ) (w : Walk) : Type 0 where
  pub sized : length w.marks ≡ length ss
  pub sound : (k : ℕ) → slice_get w.marks k ≡ Some true → Reaches ss (name_at ss number) (name_at ss k)
  pub ordered : (k : ℕ) → slice_get w.marks k ≡ Some true → (i : ℕ) × (slice_get w.order i ≡ Some k)
  pub marked : (i k : ℕ) → slice_get w.order i ≡ Some k → slice_get w.marks k ≡ Some true
  pub count : unmarked w.marks + length w.order ≡ length ss

-- what was met stays so
pub record Grown (v w : Walk) : Type 0 where
  pub marks : (k : ℕ) → slice_get v.marks k ≡ Some true → slice_get w.marks k ≡ Some true
  pub order : (i : ℕ) → i < length v.order → slice_get w.order i ≡ slice_get v.order i
  pub long : length v.order ≤ length w.order

grown_same : (w : Walk) → Grown w w
grown_same w = record { marks = λ k e. e; order = λ i h. refl; long = omega arith }

grown_on : (u v w : Walk) → Grown u v → Grown v w → Grown u w
grown_on u v w a b = record {
  marks = λ k e. b.marks k (a.marks k e);
  order = λ i h. b.order i (omega (arith, h, a.long)) ∙ a.order i h;
  long = omega (arith, a.long, b.long);
}

module _ (ss : List Service) (number : ℕ) (w : Walk) (k : ℕ) (new : slice_get w.marks k ≡ Some false) where
  marked_cases : (j : ℕ) → slice_get (slice_set w.marks k true) j ≡ Some true → (slice_get w.marks j ≡ Some true) ⊎ (j ≡ k)
  marked_cases j e =
      elim (eqb_tells j k) [
        | inl h ↦ inr h.1
        | inr h ↦ inl (sym (get_set_other w.marks k j true h.1) ∙ e)
      ]

  marked_still : (j : ℕ) → slice_get w.marks j ≡ Some true → slice_get (slice_set w.marks k true) j ≡ Some true
  marked_still j e =
      elim (eqb_tells j k) [
        | inl h ↦ ap (slice_get (slice_set w.marks k true)) h.1 ∙ get_set_same w.marks k false true new
        | inr h ↦ get_set_other w.marks k j true h.1 ∙ e
      ]

  new_walked : Walked ss number w → Reaches ss (name_at ss number) (name_at ss k) → Walked ss number (met_mark w k (Some false))
  new_walked d r = record {
    sized = length-set w.marks k true ∙ d.sized;
    sound = λ j e. elim (marked_cases j e) [ inl h ↦ d.sound j h | inr h ↦ subst (λ i. Reaches ss (name_at ss number) (name_at ss i)) (sym h) r ];
    ordered = λ j e. elim (marked_cases j e) [
      | inl h ↦ let i = d.ordered j h in (i.0, get_front w.order (k ∷ []) i.0 (slice_get_within w.order i.0 j i.1) ∙ i.1)
      | inr h ↦ (length w.order, get_last w.order k ∙ ap Some (sym h))
    ];
    marked = λ i j e. elim (get_push w.order k j i e) [
      | inl h ↦ marked_still j (d.marked i j h)
      | inr h ↦ ap (slice_get (slice_set w.marks k true)) (sym h) ∙ get_set_same w.marks k false true new
    ];
    count = let less = unmarked_set w.marks k new in omega (arith, d.count, less, length-append w.order (k ∷ []));
  }

  new_grown : Grown w (met_mark w k (Some false))
  new_grown = record {
    marks = marked_still;
    order = λ i h. get_front w.order (k ∷ []) i h;
    long = omega (arith, length-append w.order (k ∷ []));
  }

met_walked : (ss : List Service) (number : ℕ) (w : Walk) (k : ℕ) → Walked ss number w → Reaches ss (name_at ss number) (name_at ss k) → Walked ss number (met w k)
met_walked ss number w k d r =
    elim (slice_get w.marks k) as (λ o. slice_get w.marks k ≡ o → Walked ss number (met_mark w k o)) [
      | None ↦ λ e. d
      | Some b ↦ elim b as (λ b. slice_get w.marks k ≡ Some b → Walked ss number (met_mark w k (Some b))) [ true ↦ λ e. d | false ↦ λ e. new_walked ss number w k e d r ]
    ] refl

met_grown : (w : Walk) (k : ℕ) → Grown w (met w k)
met_grown w k =
    elim (slice_get w.marks k) as (λ o. slice_get w.marks k ≡ o → Grown w (met_mark w k o)) [
      | None ↦ λ e. grown_same w
      | Some b ↦ elim b as (λ b. slice_get w.marks k ≡ Some b → Grown w (met_mark w k (Some b))) [ true ↦ λ e. grown_same w | false ↦ λ e. new_grown [] 0 w k e ]
    ] refl

met_marks : (w : Walk) (k : ℕ) → k < length w.marks → slice_get (met w k).marks k ≡ Some true
met_marks w k h =
    let at = get_within w.marks k h in
    elim at.0 as (λ b. slice_get w.marks k ≡ Some b → slice_get (met w k).marks k ≡ Some true) [
      | true ↦ λ e. ap (λ o. slice_get (met_mark w k o).marks k) e ∙ e
      | false ↦ λ e. ap (λ o. slice_get (met_mark w k o).marks k) e ∙ get_set_same w.marks k false true e
    ] at.1

-- ---- the targets of a service

name_walked : (ss : List Service) (number : ℕ) (w : Walk) (t : List ℕ) → Walked ss number w → Reaches ss (name_at ss number) t → Walked ss number (met_name ss w t)
name_walked ss number w t d r =
    elim (number_of t ss) as (λ o. number_of t ss ≡ o → Walked ss number (met_number w o)) [
      | None ↦ λ e. d
      | Some k ↦ λ e. met_walked ss number w k d (subst (Reaches ss (name_at ss number)) (sym (number_name ss t k e)) r)
    ] refl

name_grown : (ss : List Service) (w : Walk) (t : List ℕ) → Grown w (met_name ss w t)
name_grown ss w t =
    elim (number_of t ss) as (λ o. Grown w (met_number w o)) [
      | None ↦ grown_same w
      | Some k ↦ met_grown w k
    ]

names_grown : (ss : List Service) (w : Walk) (ts : List (List ℕ)) → Grown w (met_names ss w ts)
names_grown ss w [] = grown_same w
names_grown ss w (t ∷ ts) = grown_on w (met_name ss w t) (met_names ss (met_name ss w t) ts) (name_grown ss w t) (names_grown ss (met_name ss w t) ts)

-- of two tests, one of which holds
pub or_first : (a b : Bool) → a ≡ true → (a || b) ≡ true
or_first a b e = ap (λ t. t || b) e

pub or_second : (a b : Bool) → b ≡ true → (a || b) ≡ true
or_second true b e = refl
or_second false b e = e

names_walked : (ss : List Service) (number : ℕ) (w : Walk) (ts : List (List ℕ)) → Walked ss number w → ((t : List ℕ) → has_text ts t ≡ true → Reaches ss (name_at ss number) t) → Walked ss number (met_names ss w ts)
names_walked ss number w [] d r = d
names_walked ss number w (t ∷ ts) d r =
    names_walked ss number (met_name ss w t) ts (name_walked ss number w t d (r t (or_first (same_name t t) (has_text ts t) (name_itself t)))) (λ u e. r u (or_second (same_name t u) (has_text ts u) e))

name_marks : (ss : List Service) (number : ℕ) (w : Walk) (t : List ℕ) (k : ℕ) → Walked ss number w → number_of t ss ≡ Some k → slice_get (met_name ss w t).marks k ≡ Some true
name_marks ss number w t k d e =
    let r = numbered ss t k e in
    ap (λ o. slice_get (met_number w o).marks k) e ∙ met_marks w k (subst (λ n. k < n) (sym d.sized) (slice_get_within ss k r.service r.place))

names_mark : (ss : List Service) (number : ℕ) (w : Walk) (ts : List (List ℕ)) → Walked ss number w → ((t : List ℕ) → has_text ts t ≡ true → Reaches ss (name_at ss number) t) → (u : List ℕ) (k : ℕ) → has_text ts u ≡ true → number_of u ss ≡ Some k → slice_get (met_names ss w ts).marks k ≡ Some true
names_mark ss number w [] d r u k h e = absurd (false≢true h)
names_mark ss number w (t ∷ ts) d r u k h e =
    elim (same_name t u) as (λ b. same_name t u ≡ b → (b || has_text ts u) ≡ true → slice_get (met_names ss w (t ∷ ts)).marks k ≡ Some true) [
      | true ↦ λ one g. (names_grown ss (met_name ss w t) ts).marks k (name_marks ss number w t k d (ap (λ n. number_of n ss) (one_name t u one) ∙ e))
      | false ↦ λ other g. names_mark ss number (met_name ss w t) ts (name_walked ss number w t d (r t (or_first (same_name t t) (has_text ts t) (name_itself t)))) (λ v e. r v (or_second (same_name t v) (has_text ts v) e)) u k g e
    ] refl h

-- ---- the walk

-- all that the service j can fetch from is marked
abbrev Closed : List Service → List Bool → ℕ → Type 0
Closed ss marks j = (t : List ℕ) (k : ℕ) → has_text (targets_in (worker_at (slice_get ss j))) t ≡ true → number_of t ss ≡ Some k → slice_get marks k ≡ Some true

-- the first `at` of those that were met were visited
pub record Walking (ss : List Service) (number : ℕ) (w : Walk) (at : ℕ) : Type 0 where
  pub walked : Walked ss number w
  pub started : slice_get w.marks number ≡ Some true
  pub within : at ≤ length w.order
  pub done : (i j : ℕ) → i < at → slice_get w.order i ≡ Some j → Closed ss w.marks j

pub walking_start : (ss : List Service) (number : ℕ) → number < length ss → Walking ss number (met (record { marks = replicate (length ss) false; order = [] }) number) 0
walking_start ss number h =
    let w : Walk = record { marks = replicate (length ss) false; order = [] } in
    let d : Walked ss number w = record {
      sized = length-replicate (length ss) false;
      sound = λ k e. absurd (get_none (length ss) k e);
      ordered = λ k e. absurd (get_none (length ss) k e);
      marked = λ i k e. absurd cc;
      count = let all = unmarked_none (length ss) in omega (arith, all);
    } in
    record {
      walked = met_walked ss number w number d Itself;
      started = met_marks w number (subst (λ n. number < n) (sym (length-replicate (length ss) false)) h);
      within = omega arith;
      done = λ i j below e. absurd (omega (arith, below));
    }

targets_reached : (ss : List Service) (from t : List ℕ) (j : ℕ) → names_differ ss ≡ true → Reaches ss from (name_at ss j) → has_text (targets_in (worker_at (slice_get ss j))) t ≡ true → Reaches ss from t
targets_reached ss from t j differ r h =
    elim (slice_get ss j) as (λ o. slice_get ss j ≡ o → has_text (targets_in (worker_at o)) t ≡ true → Reaches ss from t) [
      | None ↦ λ e g. absurd (false≢true g)
      | Some s ↦ λ e g.
          let same = ap (λ o. has_text (targets_in (worker_at o)) t) (place_service ss j s differ e) in
          Further s.name t (subst (Reaches ss from) (place_name ss j s e) r) (same ∙ g)
    ] refl h

pub walking_step : (ss : List Service) (number : ℕ) (w : Walk) (at by : ℕ) → names_differ ss ≡ true → Walking ss number w at → slice_get w.order at ≡ Some by → Walking ss number (visited ss by w) (at + 1)
walking_step ss number w at by differ d e =
    let ts = targets_in (worker_at (slice_get ss by)) in
    let from = d.walked.sound by (d.walked.marked at by e) in
    let reached : (t : List ℕ) → has_text ts t ≡ true → Reaches ss (name_at ss number) t = λ t h. targets_reached ss (name_at ss number) t by differ from h in
    let grown = names_grown ss w ts in
    let inside = slice_get_within w.order at by e in
    record {
      walked = names_walked ss number w ts d.walked reached;
      started = grown.marks number d.started;
      within = omega (arith, inside, grown.long);
      done = λ i j below g.
          let kept : slice_get w.order i ≡ Some j = sym (grown.order i (omega (arith, below, inside))) ∙ g in
          elim (eqb_tells i at) [
            | inl h ↦
                let one : by ≡ j = some_same by j (sym e ∙ ap (slice_get w.order) (sym h.1) ∙ kept) in
                subst (Closed ss (met_names ss w ts).marks) one (λ t k. names_mark ss number w ts d.walked reached t k)
            | inr h ↦ λ t k q n. grown.marks k (d.done i j (omega (arith, below, h.1)) kept t k q n)
          ];
    }

-- a walk that has visited all that it has met has met all that is reached
pub walked_all : (ss : List Service) (number : ℕ) (w : Walk) (at : ℕ) → names_differ ss ≡ true → number < length ss → Walking ss number w at → length w.order ≤ at → MarkReach ss number w.marks
walked_all ss number w at differ inside d end =
    let closed : (j : ℕ) → slice_get w.marks j ≡ Some true → Closed ss w.marks j = λ j e.
    let i = d.walked.ordered j e in
    d.done i.0 j (let place = slice_get_within w.order i.0 j i.1 in omega (arith, end, place)) i.1 in
    let first = get_within ss number inside in
    let start : (k : ℕ) → number_of (name_at ss number) ss ≡ Some k → slice_get w.marks k ≡ Some true = λ k e.
    let mine : number_of (name_at ss number) ss ≡ Some number = ap (λ n. number_of n ss) (place_name ss number first.0 first.1) ∙ place_number ss number first.0 differ first.1 in
    ap (slice_get w.marks) (some_same k number (sym e ∙ mine)) ∙ d.started in
    let further : (by to : List ℕ) → ((k : ℕ) → number_of by ss ≡ Some k → slice_get w.marks k ≡ Some true) → IsTrue (refers_to ss by to) → (k : ℕ) → number_of to ss ≡ Some k → slice_get w.marks k ≡ Some true = λ by to marked refers k e.
    elim (number_of by ss) as (λ o. number_of by ss ≡ o → slice_get w.marks k ≡ Some true) [
      | None ↦ λ n. absurd (false≢true (sym (ap (λ o. has_text (targets_in (worker_at o)) to) (unnumbered ss by n)) ∙ refers))
      | Some j ↦ λ n.
          let r = numbered ss by j n in
          closed j (marked j n) to k (ap (λ o. has_text (targets_in (worker_at o)) to) (r.place ∙ sym r.found) ∙ refers) e
    ] refl in
    record {
      sized = d.walked.sized;
      exact = λ k. (
        λ e. (subst (λ n. k < n) d.walked.sized (slice_get_within w.marks k true e), d.walked.sound k e),
        λ r.
            let at_k = get_within ss k r.0 in
            let mine : number_of (name_at ss k) ss ≡ Some k = ap (λ n. number_of n ss) (place_name ss k at_k.0 at_k.1) ∙ place_number ss k at_k.0 differ at_k.1 in
            reaches_least ss (name_at ss number) (λ name. (j : ℕ) → number_of name ss ≡ Some j → slice_get w.marks j ≡ Some true) start further (name_at ss k) r.1 k mine,
      );
    }
