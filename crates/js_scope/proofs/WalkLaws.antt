-- A step of a walk.
use Rattle.std.proofs.Common.{◌≡◌, ℕ, ◌≤◌, ◌+◌, arith, List, [], ◌∷◌, Option, None, Result, Ok, Err, OnOk, refl, sym, ap, ◌∙◌}
use Rattle.js_tree.specs.declared.tree.Name.{Name}
use Rattle.js_scope.specs.declared.fault.EarlyEnd.{EarlyEnd}
use Rattle.js_scope.specs.declared.fault.EarlyEnd.TheVariants.{Fault, NoMemory}
use Rattle.js_scope.specs.declared.fault.EarlyFault.{EarlyFault}
use Rattle.js_scope.specs.declared.scope.Scope.{Scope}
use Rattle.js_scope.specs.declared.task.Task.{Task}
use Rattle.js_scope.specs.Early.{Marks, Declares, Unless, IsFirst, faults_of, first, scope}
use Rattle.js_scope.specs.Verdict.{Comes, Goes, Judges, top_scope, IsSplit, answered, and_then, judge, judge_name, judge_word, settle, total, verdict}
use Rattle.js_scope.proofs.Judge.{Judged, top_is}

-- a piece of one mark
one_mark : (j : Judged) (r : Result Unit EarlyEnd) (new : Scope) (k : Scope → Option EarlyFault) → Judges j new r → Goes (settle (and_then j (λ t. Ok t)) k) (k new) r
one_mark j (Ok x) new k e = ap (λ (i : Judged). settle (and_then i (λ t. Ok t)) k) e
one_mark j (Err (Fault f)) new k e = ap (λ (i : Judged). settle (and_then i (λ t. Ok t)) k) e
one_mark j (Err NoMemory) new k e = tt

pub goes_name : (r : Result Unit EarlyEnd) (s new : Scope) (n : Name) (ts : List Task) (outer : List Scope) → Judges (judge_name s n) new r → Goes (settle (judge s (Declares n ∷ [])) (λ t. verdict ts t outer)) (verdict ts new outer) r
goes_name r s new n ts outer j = one_mark (judge_name s n) r new (λ t. verdict ts t outer) j

pub goes_word : (r : Result Unit EarlyEnd) (s new : Scope) (f : EarlyFault) (ts : List Task) (outer : List Scope) → Judges (judge_word s f) new r → Goes (settle (judge s (Unless f ∷ [])) (λ t. verdict ts t outer)) (verdict ts new outer) r
goes_word r s new f ts outer j = one_mark (judge_word s f) r new (λ t. verdict ts t outer) j

pub goes_split : {E : Type 0} (a : Result Unit E) (r : Result Unit EarlyEnd) (s : Scope) (ms : Marks) (n : ℕ) (old new : List Task) (outer : List Scope) → r ≡ answered a → OnOk a (IsSplit old ms n new) → Goes (settle (judge s ms) (λ t. verdict old t outer)) (verdict new s outer) r
goes_split (Ok x) r s ms n old new outer e i = rw e (sym (i.same s outer))
goes_split (Err f) r s ms n old new outer e i = rw e tt

pub heavier_split : {E : Type 0} (a : Result Unit E) (r : Result Unit EarlyEnd) (ms : Marks) (n : ℕ) (old new : List Task) → r ≡ answered a → OnOk a (IsSplit old ms n new) → OnOk r (total new ≤ n + total old)
heavier_split (Ok x) r ms n old new e i = rw e i.heavier
heavier_split (Err f) r ms n old new e i = rw e tt

pub no_heavier : {T E : Type 0} (r : Result T E) (n : ℕ) (ts : List Task) → OnOk r (total ts ≤ n + total ts)
no_heavier (Ok x) n ts = omega arith
no_heavier (Err f) n ts = tt

pub ruleset goes = (goes_name, goes_word, goes_split, heavier_split, no_heavier)

none_first : (fs : List EarlyFault) → first fs ≡ None → fs ≡ []
none_first [] e = refl
none_first (f ∷ fs) e = cc

is_first : (fs : List EarlyFault) (found : Option EarlyFault) (r : Result Unit EarlyEnd) → first fs ≡ found → Comes found r → IsFirst fs r
is_first fs found (Ok x) e come = none_first fs (e ∙ come)
is_first fs found (Err (Fault f)) e come = e ∙ come
is_first fs found (Err NoMemory) e come = tt

pub first_of_walk : (r : Result Unit EarlyEnd) (old ts : List Task) (ms : Marks) (n : ℕ) → old ≡ [] → IsSplit old ms n ts → Comes (verdict ts top_scope []) r → IsFirst (faults_of (scope ms)) r
first_of_walk r old ts ms n e s come =
    let same : verdict ts top_scope [] ≡ settle (judge top_scope ms) (λ t. None) = s.same top_scope [] ∙ ap (λ os. settle (judge top_scope ms) (λ t. verdict os t [])) e in
    is_first (faults_of (scope ms)) (verdict ts top_scope []) r (top_is ms ∙ sym same) come
