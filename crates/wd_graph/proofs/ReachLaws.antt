-- Laws of reach and of agreement.
use Rattle.std.proofs.Common.{◌≡◌, ℕ, zero, suc, Bool, true, false, not, ◌||◌, cond, List, [], ◌∷◌, ◌++◌, map, flat_map, slice_get, Option, Some, None, IsTrue, refl, sym, ap, ◌∙◌}
use Rattle.std.proofs.lemmas.Bool.{false≢true}
use Rattle.std.specs.List.{find}
use Rattle.wd_base.specs.declared.config.Config.{Config}
use Rattle.wd_base.specs.declared.config.Service.{Service}
use Rattle.wd_base.specs.declared.config.WorkerDef.{WorkerDef}
use Rattle.wd_graph.specs.Names.{same_name, has_name, service_of, worker_at, worker_in, targets}
use Rattle.wd_graph.specs.Links.{first_unknown, is_unknown, named_by, named_in, named_at}
use Rattle.wd_graph.specs.Graph.{has_text, targets_in, refers_to, Reaches, Itself, Further, StandsAlike, Agrees}
use Rattle.wd_graph.proofs.FindLemmas.{find_append_some, find_append_none}
use Rattle.wd_graph.proofs.Numbers.{some_same, known_number, one_name, numbered, found_number}

-- what is reached is the least set that holds the name, and with each name those that its service can fetch from
pub reaches_least : (ss : List Service) (from : List ℕ) (P : List ℕ → Type 0) → P from → ((by to : List ℕ) → P by → IsTrue (refers_to ss by to) → P to) → (to : List ℕ) → Reaches ss from to → P to
reaches_least ss from P start closed to Itself = start
reaches_least ss from P start closed to (Further by next r e) = closed by next (reaches_least ss from P start closed by r) e

-- it is such a set
pub reaches_itself : (ss : List Service) (from : List ℕ) → Reaches ss from from
reaches_itself ss from = Itself

pub reaches_closed : (ss : List Service) (from by to : List ℕ) → Reaches ss from by → IsTrue (refers_to ss by to) → Reaches ss from to
reaches_closed ss from by to r e = Further by to r e

-- what a name that is reached reaches is reached
pub reaches_along : (ss : List Service) (a b c : List ℕ) → Reaches ss a b → Reaches ss b c → Reaches ss a c
reaches_along ss a b c r s = reaches_least ss b (Reaches ss a) r (λ by to q e. Further by to q e) c s

alike_refers : (a b : List Service) (by to : List ℕ) → StandsAlike a b by → refers_to b by to ≡ refers_to a by to
alike_refers a b by to s = ap (λ o. has_text (targets_in (worker_at o)) to) (s.2 ∙ sym s.1)

-- where two agree, what is reached in the second is reached in the first
pub agrees_back : (a b : List Service) (from to : List ℕ) → Agrees a b from → Reaches b from to → Reaches a from to
agrees_back a b from to agrees r =
    reaches_least b from (Reaches a from) Itself (λ by next q e. Further by next q (sym (alike_refers a b by next (agrees by q)) ∙ e)) to r

agrees_both : (a b : List Service) (from : List ℕ) → Agrees a b from → (to : List ℕ) → Reaches a from to → Reaches b from to
agrees_both a b from agrees to Itself = Itself
agrees_both a b from agrees to (Further by next r e) = Further by next (agrees_both a b from agrees by r) (alike_refers a b by next (agrees by r) ∙ e)

-- and what is reached in the first is reached in the second
pub agrees_forth : (a b : List Service) (from to : List ℕ) → Agrees a b from → Reaches a from to → Reaches b from to
agrees_forth a b from to agrees r = agrees_both a b from agrees to r

-- agreement holds in both directions
pub agrees_symmetric : (a b : List Service) (from : List ℕ) → Agrees a b from → Agrees b a from
agrees_symmetric a b from agrees = λ name r. let s = agrees name (agrees_back a b from name agrees r) in (s.0, s.2, s.1)

-- and goes on along what is reached
pub agrees_along : (a b : List Service) (from to : List ℕ) → Agrees a b from → Reaches a from to → Agrees a b to
agrees_along a b from to agrees r = λ name s. agrees name (reaches_along a from to name r s)

pub agrees_refers : (a b : List Service) (from to : List ℕ) → Agrees a b from → IsTrue (refers_to a from to) → Agrees a b to
agrees_refers a b from to agrees e = agrees_along a b from to agrees (Further from to Itself e)

pub agrees_transitive : (a b c : List Service) (from : List ℕ) → Agrees a b from → Agrees b c from → Agrees a c from
agrees_transitive a b c from first second = λ name r.
    let s = first name r in
    let t = second name (agrees_forth a b from name first r) in
    (s.0, s.1, t.2 ∙ sym t.1 ∙ s.2)

find_none_left : {X : Type 0} (p : X → Bool) (xs ys : List X) → find p (xs ++ ys) ≡ None → find p xs ≡ None
find_none_left p xs ys e =
    elim (find p xs) as (λ o. find p xs ≡ o → o ≡ None) [
      | None ↦ λ h. refl
      | Some x ↦ λ h. let found = find_append_some p xs ys x h in cc
    ] refl

find_none_at : {X Y : Type 0} (p : Y → Bool) (f : X → List Y) (xs : List X) (k : ℕ) (x : X) → find p (flat_map f xs) ≡ None → slice_get xs k ≡ Some x → find p (f x) ≡ None
find_none_at p f [] k x e h = cc
find_none_at p f (y ∷ ys) zero x e h = let same : y ≡ x = cc in ap (λ z. find p (f z)) (sym same) ∙ find_none_left p (f y) (flat_map f ys) e
find_none_at p f (y ∷ ys) (suc k) x e h = find_none_at p f ys k x (sym (find_append_none p (f y) (flat_map f ys) (find_none_left p (f y) (flat_map f ys) e)) ∙ e) h

target_known : (ss : List Service) (from to : List ℕ) (names : List (List ℕ)) → find (is_unknown ss) (map (λ name. record { from = from; name = name }) names) ≡ None → has_text names to ≡ true → has_name ss to ≡ true
target_known ss from to [] e h = absurd (false≢true h)
target_known ss from to (x ∷ xs) e h =
    elim (has_name ss x) as (λ b. has_name ss x ≡ b → cond (not b) (Some (record { from = from; name = x })) (find (is_unknown ss) (map (λ name. record { from = from; name = name }) xs)) ≡ None → has_name ss to ≡ true) [
      | true ↦ λ known none.
          elim (same_name x to) as (λ b. same_name x to ≡ b → (b || has_text xs to) ≡ true → has_name ss to ≡ true) [
            | true ↦ λ one t. ap (has_name ss) (sym (one_name x to one)) ∙ known
            | false ↦ λ other t. target_known ss from to xs none t
          ] refl h
      | false ↦ λ unknown none. cc
    ] refl e

worker_known : (ss : List Service) (from to : List ℕ) (o : Option WorkerDef) → find (is_unknown ss) (named_in from o) ≡ None → has_text (targets_in o) to ≡ true → has_name ss to ≡ true
worker_known ss from to None e h = absurd (false≢true h)
worker_known ss from to (Some def) e h = target_known ss from to (targets def) e h

service_known : (ss : List Service) (by to : List ℕ) (o : Option Service) → service_of by ss ≡ o → find (is_unknown ss) (flat_map named_by ss) ≡ None → has_text (targets_in (worker_at o)) to ≡ true → has_name ss to ≡ true
service_known ss by to None f e h = absurd (false≢true h)
service_known ss by to (Some s) f e h =
    let n = found_number ss by s f in
    let r = numbered ss by n.0 n.1 in
    let same : s ≡ r.service = some_same s r.service (sym f ∙ r.found) in
    worker_known ss s.name to (worker_in s.kind) (find_none_at (is_unknown ss) named_by ss n.0 s e (r.place ∙ ap Some (sym same))) h

-- in a configuration whose names are known, a service refers to names that services have
pub refers_known : (config : Config) (by to : List ℕ) → first_unknown config ≡ None → refers_to config.services by to ≡ true → has_name config.services to ≡ true
refers_known config by to e h =
    service_known config.services by to (service_of by config.services) refl (find_none_left (is_unknown config.services) (flat_map named_by config.services) (map named_at config.sockets) e) h

-- and each name that one of them reaches is the name of a service
pub reaches_known : (config : Config) (from to : List ℕ) → first_unknown config ≡ None → has_name config.services from ≡ true → Reaches config.services from to → has_name config.services to ≡ true
reaches_known config from to e h r =
    reaches_least config.services from (λ name. has_name config.services name ≡ true) h (λ by next q f. refers_known config by next e f) to r

-- a configuration whose names are known agrees with itself on each of its services
pub agrees_itself : (config : Config) (from : List ℕ) → first_unknown config ≡ None → has_name config.services from ≡ true → Agrees config.services config.services from
agrees_itself config from e h = λ name r.
    let n = known_number config.services name (reaches_known config from name e h r) in
    let s = numbered config.services name n.0 n.1 in
    (s.service, s.found, s.found)
