-- What a scope shows to the outside, against a walk through it.
use Rattle.std.proofs.Common.{◌≡◌, ℕ, Bool, true, false, ◌||◌, cond, List, [], ◌∷◌, ◌++◌, None, Result, Ok, Err, refl, sym, ap, ◌∙◌}
use Rattle.std.specs.Prelude.{nat_eq}
use Rattle.std.specs.Cmp.Lexicographic.{pointwise}
use Rattle.js_scope.specs.declared.fault.EarlyFault.{EarlyFault}
use Rattle.js_scope.specs.declared.fault.EarlyKind.{EarlyKind}
use Rattle.js_scope.specs.declared.fault.EarlyKind.TheVariants.{DoubleName, ReturnOutside, AwaitOutside, BreakOutside}
use Rattle.js_scope.specs.declared.scope.Scope.{Scope}
use Rattle.js_scope.specs.declared.task.ScopeKind.{ScopeKind}
use Rattle.js_scope.specs.declared.task.ScopeKind.TheVariants as how
use Rattle.js_scope.specs.Early.{Mark, Marks, Declares, Unless, Faulty, fault, stands, scope_from, loop, function, through_loop, through_function, faults_of, first}
use Rattle.js_scope.specs.Names.{has, with_name}
use Rattle.js_scope.specs.Verdict.{nothing_around, top_scope, allows, around_in, entered, judge_word, judge_mark, judge, and_then, inside, settle}
use Rattle.js_scope.proofs.NameLemmas.{has_with}

abbrev pub Judged : Type 0
Judged = Result Scope EarlyFault

pub judge_append : (s : Scope) (xs ys : Marks) → judge s (xs ++ ys) ≡ and_then (judge s xs) (λ t. judge t ys)
judge_append s [] ys = refl
judge_append s (m ∷ xs) ys = elim (judge_mark s m) as (λ (r : Judged). and_then r (λ t. judge t (xs ++ ys)) ≡ and_then (and_then r (λ t. judge t xs)) (λ t. judge t ys)) [
  | Ok t ↦ judge_append t xs ys
  | Err f ↦ refl
]

-- the scope around, after what was judged within it
abbrev pub back : Scope → Judged → Judged
back s (Ok t) = Ok s
back s (Err f) = Err f

abbrev shown : ScopeKind → Marks → Marks
shown how.Block ms = ms
shown how.Loop ms = loop ms
shown (how.Function is_async) ms = function is_async ms

abbrev shown_mark : ScopeKind → Mark → Marks
shown_mark how.Block m = m ∷ []
shown_mark how.Loop m = through_loop m
shown_mark (how.Function is_async) m = through_function is_async m

shown_nil : (h : ScopeKind) → shown h [] ≡ []
shown_nil how.Block = refl
shown_nil how.Loop = refl
shown_nil (how.Function a) = refl

shown_cons : (h : ScopeKind) (m : Mark) (ms : Marks) → shown h (m ∷ ms) ≡ shown_mark h m ++ shown h ms
shown_cons how.Block m ms = refl
shown_cons how.Loop m ms = refl
shown_cons (how.Function a) m ms = refl

shown_fault : (h : ScopeKind) (f : EarlyFault) → shown_mark h (Faulty f) ≡ Faulty f ∷ []
shown_fault how.Block f = refl
shown_fault how.Loop f = refl
shown_fault (how.Function a) f = refl

inside_is : (h : ScopeKind) (ms : Marks) → inside h ms ≡ shown h (scope_from [] ms)
inside_is how.Block ms = refl
inside_is how.Loop ms = refl
inside_is (how.Function a) ms = refl

abbrev verdict_of : Scope → Bool → EarlyFault → Judged
verdict_of s b f = cond b (Ok s) (Err f)

and_then_ok : (r : Judged) → and_then r (λ t. Ok t) ≡ r
and_then_ok (Ok t) = refl
and_then_ok (Err f) = refl

shown_word : (h : ScopeKind) (s : Scope) (k : EarlyKind) (p : ℕ) → judge s (shown_mark h (Unless (fault k p))) ≡ verdict_of s (allows (around_in h s.around) k) (fault k p)
shown_word how.Block s k p = and_then_ok (judge_word s (fault k p))
shown_word how.Loop s DoubleName p = refl
shown_word how.Loop s ReturnOutside p = and_then_ok (judge_word s (fault ReturnOutside p))
shown_word how.Loop s AwaitOutside p = and_then_ok (judge_word s (fault AwaitOutside p))
shown_word how.Loop s BreakOutside p = refl
shown_word (how.Function a) s DoubleName p = refl
shown_word (how.Function a) s ReturnOutside p = refl
shown_word (how.Function true) s AwaitOutside p = refl
shown_word (how.Function false) s AwaitOutside p = refl
shown_word (how.Function a) s BreakOutside p = refl

-- these names are the ones that stood before
abbrev Same : List (List ℕ) → List (List ℕ) → Type 0
Same seen names = (q : List ℕ) → stands q seen ≡ has q names

same_with : (seen names : List (List ℕ)) (n : List ℕ) → Same seen names → Same (n ∷ seen) (with_name names n)
same_with seen names n same = λ q. ap (λ b. pointwise nat_eq q n || b) (same q) ∙ sym (has_with q n names)

judge_shown : (h : ScopeKind) (s : Scope) (ms : Marks) (seen names : List (List ℕ)) → Same seen names → judge s (shown h (scope_from seen ms)) ≡ back s (judge (record { names = names; around = around_in h s.around }) ms)
judge_shown h s [] seen names same = ap (judge s) (shown_nil h)
judge_shown h s (Declares n ∷ ms) seen names same =
    let f = fault DoubleName n.place in
    let inner : Scope = record { names = with_name names n.units; around = around_in h s.around } in
    ap (λ b. judge s (shown h (cond b (Faulty f ∷ scope_from seen ms) (scope_from (n.units ∷ seen) ms)))) (same n.units) ∙
    (elim (has n.units names) as (λ b. judge s (shown h (cond b (Faulty f ∷ scope_from seen ms) (scope_from (n.units ∷ seen) ms))) ≡ back s (and_then (cond b (Err f) (Ok inner)) (λ t. judge t ms))) [
      | true ↦ ap (judge s) (shown_cons h (Faulty f) (scope_from seen ms) ∙ ap (λ xs. xs ++ shown h (scope_from seen ms)) (shown_fault h f))
      | false ↦ judge_shown h s ms (n.units ∷ seen) (with_name names n.units) (same_with seen names n.units same)
    ])
judge_shown h s (Unless f ∷ ms) seen names same =
    let rest = shown h (scope_from seen ms) in
    let inner : Scope = record { names = names; around = around_in h s.around } in
    ap (judge s) (shown_cons h (Unless f) (scope_from seen ms)) ∙ judge_append s (shown_mark h (Unless f)) rest ∙
    ap (λ r. and_then r (λ t. judge t rest)) (shown_word h s f.kind f.place) ∙
    (elim (allows (around_in h s.around) f.kind) as (λ b. and_then (cond b (Ok s) (Err f)) (λ t. judge t rest) ≡ back s (and_then (cond b (Ok inner) (Err f)) (λ t. judge t ms))) [
      | true ↦ judge_shown h s ms seen names same
      | false ↦ refl
    ])
judge_shown h s (Faulty f ∷ ms) seen names same =
    ap (judge s) (shown_cons h (Faulty f) (scope_from seen ms) ∙ ap (λ xs. xs ++ shown h (scope_from seen ms)) (shown_fault h f))

pub judge_inside : (h : ScopeKind) (s : Scope) (ms : Marks) → judge s (inside h ms) ≡ back s (judge (entered h s) ms)
judge_inside h s ms = ap (judge s) (inside_is h ms) ∙ judge_shown h s ms [] [] (λ q. refl)

-- ---- the top level

nothing_allows : (k : EarlyKind) → allows nothing_around k ≡ false
nothing_allows DoubleName = refl
nothing_allows ReturnOutside = refl
nothing_allows AwaitOutside = refl
nothing_allows BreakOutside = refl

top_shown : (ms : Marks) (seen names : List (List ℕ)) → Same seen names → first (faults_of (scope_from seen ms)) ≡ settle (judge (record { names = names; around = nothing_around }) ms) (λ t. None)
top_shown [] seen names same = refl
top_shown (Declares n ∷ ms) seen names same =
    let f = fault DoubleName n.place in
    let inner : Scope = record { names = with_name names n.units; around = nothing_around } in
    ap (λ b. first (faults_of (cond b (Faulty f ∷ scope_from seen ms) (scope_from (n.units ∷ seen) ms)))) (same n.units) ∙
    (elim (has n.units names) as (λ b. first (faults_of (cond b (Faulty f ∷ scope_from seen ms) (scope_from (n.units ∷ seen) ms))) ≡ settle (and_then (cond b (Err f) (Ok inner)) (λ t. judge t ms)) (λ t. None)) [
      | true ↦ refl
      | false ↦ top_shown ms (n.units ∷ seen) (with_name names n.units) (same_with seen names n.units same)
    ])
top_shown (Unless f ∷ ms) seen names same =
    let inner : Scope = record { names = names; around = nothing_around } in
    ap (λ b. settle (and_then (cond b (Ok inner) (Err f)) (λ t. judge t ms)) (λ t. None)) (sym (nothing_allows f.kind))
top_shown (Faulty f ∷ ms) seen names same = refl

pub top_is : (ms : Marks) → first (faults_of (scope_from [] ms)) ≡ settle (judge top_scope ms) (λ t. None)
top_is ms = top_shown ms [] [] (λ q. refl)
