-- The start of the scripts, service by service.
use Rattle.std.specs.Prelude.{◌≡◌, ℕ, ◌+◌, ◌<◌, ◌≤◌, Bool, true, false, List, [], ◌∷◌, ◌++◌, length, map, drop}
use Rattle.std.specs.Prelude.{slice_get, Option, Some, None, is_some, option_map, refl, suc}
use Rattle.std.proofs.Common.{inl, inr, sym, ap, subst, ◌∙◌, append_assoc, append-nil, arith}
use Rattle.std.proofs.Math.ListN.{drop_of_length-le}
use Rattle.std.proofs.Math.Seq.{drop-cons}
use Rattle.std.proofs.lemmas.Option.{slice_get_within, get_or_from_slice_get}
use Rattle.std.proofs.lemmas.List.{map-append}
use Rattle.wd_base.specs.declared.config.Config.{Config}
use Rattle.wd_base.specs.declared.config.Service.{Service}
use Rattle.wd_base.specs.declared.config.Socket.{Socket}
use Rattle.wd_base.specs.declared.config.WorkerDef.{WorkerDef}
use Rattle.wd_base.specs.declared.ids.ServiceNo.{ServiceNo}
use Rattle.wd_graph.specs.Graph.{workers_in}
use Rattle.wd_graph.specs.Names.{number_of, service_of, worker_at, worker_in, workers_of}
use Rattle.wd_graph.proofs.Numbers.{numbered, unnumbered}
use Rattle.wd_graph.proofs.FindLemmas.{place_within}
use Rattle.wd_machine.specs.First.{AreFirst, first_isolate, worker_defs, add}
use Rattle.wd_plan.specs.declared.constant.Constant.{Constant}
use Rattle.wd_plan.specs.declared.reason.Reason.{Reason}
use Rattle.wd_plan.specs.declared.reason.RefusedScript.{RefusedScript}
use Rattle.wd_plan.specs.declared.script.Verdict.{Verdict}
use Rattle.wd_plan.specs.declared.script.Verdict.TheVariants.{Answers, Refused}
use Rattle.wd_plan.specs.Constant.{constant_means, first_constant}
use Rattle.wd_plan.specs.Script.{Comes}
use Rattle.wd_plan.specs.Starts.{FirstRefused, IsPassed, IsRefusedFor, Starting, is_at_worker, refused}
use Rattle.wd_plan.proofs.ScriptSteps.{comes_one}

-- what is left from a place on is the service there and the rest
from_place : (ss : List Service) (n : ℕ) (s : Service) → slice_get ss n ≡ Some s → drop n ss ≡ s ∷ drop (n + 1) ss
from_place ss n s e =
    let next : suc n ≡ n + 1 = omega arith in
    drop-cons ss n s (slice_get_within ss n s e) ∙ ap (λ x. x ∷ drop (suc n) ss) (get_or_from_slice_get ss n s s e)
    ∙ ap (λ k. s ∷ drop k ss) next

-- the Workers among a service and those behind it
defs_with : (s : Service) (rest : List Service) (w : Option WorkerDef) → worker_in s.kind ≡ w
    → worker_defs (s ∷ rest) ≡ add w (worker_defs rest)
defs_with s rest w e = ap (λ o. add o (worker_defs rest)) e

-- the first isolate of a Worker at a place of the list
isolate_at : (ss : List Service) (n : ℕ) (s : Service) (def : WorkerDef) (text : List ℕ) (isolate : Constant)
    → slice_get ss n ≡ Some s → worker_in s.kind ≡ Some def → Comes def (Answers text)
    → isolate ≡ first_constant def (workers_in ss (worker_at (slice_get ss n))) text
    → first_isolate constant_means ss def ≡ Some isolate
isolate_at ss n s def text isolate at worker comes is =
    let here : isolate ≡ first_constant def (workers_of ss def) text = is
    ∙ ap (λ x. first_constant def (workers_in ss (worker_at x)) text) at
    ∙ ap (λ w. first_constant def (workers_in ss w) text) worker in
    ap (option_map (first_constant def (workers_of ss def))) comes.1 ∙ ap Some (sym here)

pub starting_first : (ss : List Service) → Starting ss [] 0
starting_first ss = record { made = refl; left = λ found h. h }

-- behind a service whose script is not refused
left_more : (ss : List Service) (n : ℕ) (s : Service) → ((found : Option RefusedScript) → FirstRefused (drop n ss) found
    → FirstRefused ss found) → slice_get ss n ≡ Some s → IsPassed (worker_in s.kind)
    → (found : Option RefusedScript) → FirstRefused (drop (n + 1) ss) found → FirstRefused ss found
left_more ss n s left at passed found h =
    left found (subst (λ l. FirstRefused l found) (sym (from_place ss n s at)) (inl (passed, h)))

pub starting_other : (ss : List Service) (isolates : List Constant) (n : ℕ) (s : Service) → Starting ss isolates n
    → slice_get ss n ≡ Some s → worker_in s.kind ≡ None → Starting ss isolates (n + 1)
starting_other ss isolates n s h at other =
    let e : drop n ss ≡ s ∷ drop (n + 1) ss = from_place ss n s at in
    record {
      made = h.made ∙ ap (λ l. map Some isolates ++ map (first_isolate constant_means ss) l) (ap worker_defs e
          ∙ defs_with s (drop (n + 1) ss) None other);
      left = left_more ss n s h.left at (subst IsPassed (sym other) tt);
    }

pub starting_more : (ss : List Service) (isolates : List Constant) (n : ℕ) (s : Service) (def : WorkerDef) (v : Verdict)
    (text : List ℕ) (isolate : Constant) → Starting ss isolates n → slice_get ss n ≡ Some s
    → worker_in s.kind ≡ Some def → Comes def v → v ≡ Answers text
    → isolate ≡ first_constant def (workers_in ss (worker_at (slice_get ss n))) text
    → Starting ss (isolates ++ isolate ∷ []) (n + 1)
starting_more ss isolates n s def v text isolate h at worker judged answers is =
    let comes : Comes def (Answers text) = subst (Comes def) answers judged in
    let e : drop n ss ≡ s ∷ drop (n + 1) ss = from_place ss n s at in
    let here : first_isolate constant_means ss def ≡ Some isolate =
    isolate_at ss n s def text isolate at worker comes is in
    let rest : List (Option Constant) = map (first_isolate constant_means ss) (worker_defs (drop (n + 1) ss)) in
    record {
      made = h.made ∙ ap (λ l. map Some isolates ++ map (first_isolate constant_means ss) l) (ap worker_defs e
          ∙ defs_with s (drop (n + 1) ss) (Some def) worker) ∙ ap (λ x. map Some isolates ++ x ∷ rest) here
          ∙ sym (append_assoc (map Some isolates) (Some isolate ∷ []) rest)
          ∙ ap (λ l. l ++ rest) (sym (map-append Some isolates (isolate ∷ [])));
      left = left_more ss n s h.left at (subst IsPassed (sym worker) (text, comes));
    }

pub starting_refused : (ss : List Service) (isolates : List Constant) (n : ℕ) (s : Service) (def : WorkerDef)
    (v : Verdict) (reason : Reason) (script : RefusedScript) → Starting ss isolates n → slice_get ss n ≡ Some s
    → worker_in s.kind ≡ Some def → Comes def v → v ≡ Refused reason
    → script ≡ refused s reason → FirstRefused ss (Some script)
starting_refused ss isolates n s def v reason script h at worker judged why is =
    let comes : Comes def (Refused reason) = subst (Comes def) why judged in
    h.left (Some script) (subst (λ l. FirstRefused l (Some script)) (sym (from_place ss n s at))
    (inr (reason, subst (λ w. IsRefusedFor w reason) (sym worker) comes, ap Some is)))

pub started_all : (world : Config) (isolates : List Constant) (n : ℕ) → Starting world.services isolates n
    → length world.services ≤ n → AreFirst constant_means world isolates × FirstRefused world.services None
started_all world isolates n h over =
    let none : drop n world.services ≡ [] = drop_of_length-le world.services {i = n} over in (
      h.made ∙ ap (λ l. map Some isolates ++ map (first_isolate constant_means world.services) (worker_defs l)) none
          ∙ append-nil (map Some isolates),
      h.left None (subst (λ l. FirstRefused l None) (sym none) refl),
    )

-- ---- the first script that is refused is one alone

apart : (text : List ℕ) (reason : Reason) → Answers text ≡ Refused reason → ⊥
apart text reason e = cc

reasons_same : (a b : Reason) → Refused a ≡ Refused b → a ≡ b
reasons_same a b e = cc

not_both : (w : Option WorkerDef) (reason : Reason) → IsPassed w → IsRefusedFor w reason → ⊥
not_both None reason passed refused = refused
not_both (Some def) reason (text, comes) refused =
    apart text reason (comes_one def (Answers text) (Refused reason) comes refused)

one_reason : (w : Option WorkerDef) (a b : Reason) → IsRefusedFor w a → IsRefusedFor w b → a ≡ b
one_reason None a b x y = absurd x
one_reason (Some def) a b x y = reasons_same a b (comes_one def (Refused a) (Refused b) x y)

pub first_one : (ss : List Service) (a b : Option RefusedScript) → FirstRefused ss a → FirstRefused ss b → a ≡ b
first_one [] a b x y = x ∙ sym y
first_one (s ∷ rest) a b (inl (_, x)) (inl (_, y)) = first_one rest a b x y
first_one (s ∷ rest) a b (inl (passed, _)) (inr (reason, refused, _)) =
    absurd (not_both (worker_in s.kind) reason passed refused)
first_one (s ∷ rest) a b (inr (reason, refused, _)) (inl (passed, _)) =
    absurd (not_both (worker_in s.kind) reason passed refused)
first_one (s ∷ rest) a b (inr (reason, x, ea)) (inr (other, y, eb)) = ea
    ∙ ap (λ r. Some (refused s r)) (one_reason (worker_in s.kind) reason other x y) ∙ sym eb

-- ---- the sockets

number_found : (o : Option ServiceNo) (k : ServiceNo) (n : Option ℕ) → option_map (λ x. x.0) o ≡ n → o ≡ Some k
    → n ≡ Some k.0
number_found o k n told is = sym told ∙ ap (option_map (λ x. x.0)) is

pub within : (ss : List Service) (name : List ℕ) (o : Option ServiceNo) (k : ServiceNo) → option_map (λ x. x.0) o
    ≡ number_of name ss → o ≡ Some k → k.0 < length ss
within ss name o k told is = place_within _ ss k.0 (number_found o k (number_of name ss) told is)

-- the service of the number that a name has is the service of that name
same_service : (ss : List Service) (name : List ℕ) (o : Option ServiceNo) (k : ServiceNo) → option_map (λ x. x.0) o
    ≡ number_of name ss → o ≡ Some k → service_of name ss ≡ slice_get ss k.0
same_service ss name o k told is = let n = numbered ss name k.0 (number_found o k (number_of name ss) told is) in
    n.found ∙ sym n.place

pub at_worker : (ss : List Service) (socket : Socket) (o : Option ServiceNo) (k : ServiceNo) (s : Service)
    → option_map (λ x. x.0) o ≡ number_of socket.service ss → o ≡ Some k → slice_get ss k.0 ≡ Some s
    → is_some (worker_in s.kind) ≡ is_at_worker ss socket
at_worker ss socket o k s told is at =
    ap (λ x. is_some (worker_at x)) (sym at ∙ sym (same_service ss socket.service o k told is))

pub at_nothing : (ss : List Service) (socket : Socket) (o : Option ServiceNo) → option_map (λ x. x.0) o
    ≡ number_of socket.service ss → o ≡ None → false ≡ is_at_worker ss socket
at_nothing ss socket o told is =
    ap (λ x. is_some (worker_at x)) (sym (unnumbered ss socket.service (sym told ∙ ap (option_map (λ x. x.0)) is)))
