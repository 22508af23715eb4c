-- The list goes on.
use Rattle.std.proofs.Common.{◌≡◌, ◌≢◌, ℕ, zero, suc, ◌+◌, ◌-◌, ◌<◌, ◌≤◌, List, [], ◌∷◌, ◌++◌, length, take, drop, set}
use Rattle.std.proofs.Common.{get_or, refl, ap, sym, ◌∙◌, subst, arith, Bool, true, false, inl, inr, ◌⊎◌, length-append}
use Rattle.std.proofs.Common.{cond, append-nil, append_assoc}
use Rattle.std.proofs.Math.Seq.{take-suc-set}
use Rattle.std.proofs.lemmas.Bool.{cases_eq, false≢true}
use Rattle.std.proofs.lemmas.List.{take-append-le}
use Rattle.wd_top.specs.declared.seat.link.LinkRun.{LinkRun}
use Rattle.wd_top.specs.declared.seat.link.Stage.{Stage}
use Rattle.wd_top.specs.declared.seat.link.Stage.TheVariants.{Open, Shut, Stopped}
use Rattle.wd_top.specs.Table.{run_at, AreShut, is_shut, In, AllBelow, AreWithin, Covers, keep}
use Rattle.wd_top.proofs.TableSteps.{old_run}

below_more : (n m : ℕ) (live : List ℕ) → n ≤ m → AllBelow n live → AllBelow m live
below_more n m [] h b = tt
below_more n m (x ∷ xs) h (y, b) = (omega arith, below_more n m xs h b)

below_snoc : (n x : ℕ) (live : List ℕ) → x < n → AllBelow n live → AllBelow n (live ++ x ∷ [])
below_snoc n x [] h b = (h, tt)
below_snoc n x (y ∷ ys) h (z, b) = (z, below_snoc n x ys h b)

in_last : (x : ℕ) (live : List ℕ) → In x (live ++ x ∷ [])
in_last x [] = inl refl
in_last x (y ∷ ys) = inr (in_last x ys)

in_more : (i x : ℕ) (live : List ℕ) → In i live → In i (live ++ x ∷ [])
in_more i x [] h = elim h [ ]
in_more i x (y ∷ ys) (inl e) = inl e
in_more i x (y ∷ ys) (inr h) = inr (in_more i x ys h)

pub within_new : (live live' : List ℕ) (runs runs' : List LinkRun) (x : LinkRun) → runs' ≡ runs ++ x ∷ []
    → live' ≡ live ++ length runs ∷ [] → AreWithin live (length runs) → AreWithin live' (length runs')
within_new live live' runs runs' x e f w =
    rw (e, f) (record {
      below = let l : length (runs ++ x ∷ []) ≡ length runs + 1 = length-append runs _ in
          below_snoc _ (length runs) live (omega arith) (below_more (length runs) _ live (omega arith) w.below);
    })

pub covers_new : (live live' : List ℕ) (runs runs' : List LinkRun) (x : LinkRun) → runs' ≡ runs ++ x ∷ []
    → live' ≡ live ++ length runs ∷ [] → Covers live runs → Covers live' runs'
covers_new live live' runs runs' x e f c = rw (e, f) (record {
  each = λ i h. elim (cases_eq i (length runs)) [
    | inl q ↦ inr (subst (λ k. In k (live ++ length runs ∷ [])) (sym q) (in_last (length runs) live))
    | inr ne ↦ let below : i < length runs = let k : i < length runs + 1 = rw length-append at h in omega arith in
        elim (c.each i below) [
          | inl s ↦ inl (ap (λ r. r.stage) (old_run runs x i below) ∙ s)
          | inr n ↦ inr
              (in_more i (length runs) live n)
        ]
  ];
})

in_index : (live : List ℕ) (k : ℕ) → k < length live → In (get_or live k 0) live
in_index [] k h = absurd (omega arith)
in_index (x ∷ xs) zero h = inl refl
in_index (x ∷ xs) (suc k) h = inr (in_index xs k (omega arith))

pub below_index : (n : ℕ) (live : List ℕ) (k : ℕ) → k < length live → AreWithin live n → get_or live k 0 < n
below_index n live k h w = step live k h w.below
  where
    step : (live : List ℕ) (k : ℕ) → k < length live → AllBelow n live → get_or live k 0 < n
    step [] k h b = absurd (omega arith)
    step (x ∷ xs) zero h b = b.0
    step (x ∷ xs) (suc k) h b = step xs k (omega arith) b.1

pub covers_step : (live : List ℕ) (k : ℕ) (runs runs' : List LinkRun) → k < length live → length runs' ≡ length runs
    → ((i : ℕ) → i ≢ get_or live k 0 → run_at runs' i ≡ run_at runs i) → Covers live runs → Covers live runs'
covers_step live k runs runs' h same others c = record {
  each = λ i hi. elim (cases_eq i (get_or live k 0)) [
    | inl q ↦ inr (subst (λ x. In x live) (sym q) (in_index live k h))
    | inr ne ↦ elim (c.each i (rw (← same) hi)) [ inl s ↦ inl (ap (λ r. r.stage) (others i ne) ∙ s) | inr n ↦ inr n ]
  ];
}

-- what is shut may go from the list
not_shut : (s : Stage) → is_shut s ≡ true → s ≡ Shut
not_shut Open e = absurd (false≢true e)
not_shut Shut e = refl
not_shut Stopped e = absurd (false≢true e)

keep_in : (runs : List LinkRun) (i : ℕ) (live : List ℕ) → In i live → ((run_at runs i).stage ≡ Shut)
    ⊎ In i (keep runs live)
keep_in runs i [] h = elim h [ ]
keep_in runs i (x ∷ xs) (inl e) = elim (is_shut (run_at runs x).stage) as (λ b. is_shut (run_at runs x).stage ≡ b
    → ((run_at runs i).stage ≡ Shut) ⊎ In i (cond b (keep runs xs) (x ∷ keep runs xs))) [
      | true ↦ λ s. inl (ap (λ k. (run_at runs k).stage) (sym e) ∙ not_shut _ s)
      | false ↦ λ s. inr (inl e)
    ] refl
keep_in runs i (x ∷ xs) (inr h) = elim (keep_in runs i xs h) [
  | inl s ↦ inl s
  | inr n ↦ inr (elim (is_shut (run_at runs x).stage) as (λ b. In i (cond b (keep runs xs) (x ∷ keep runs xs)))
      [ true ↦ n | false ↦ inr n ])
]

pub covers_keep : (live live' : List ℕ) (runs : List LinkRun) → live' ≡ keep runs live → Covers live runs
    → Covers live' runs
covers_keep live live' runs e c =
    rw e (record { each = λ i h. elim (c.each i h) [ inl s ↦ inl s | inr n ↦ keep_in runs i live n ] })

pub within_keep : (live live' : List ℕ) (runs : List LinkRun) (n : ℕ) → live' ≡ keep runs live → AreWithin live n
    → AreWithin live' n
within_keep live live' runs n e w = rw e (record { below = step live w.below })
  where
    step : (live : List ℕ) → AllBelow n live → AllBelow n (keep runs live)
    step [] b = tt
    step (x ∷ xs) b = elim (is_shut (run_at runs x).stage) as
        (λ t. AllBelow n (cond t (keep runs xs) (x ∷ keep runs xs))) [ true ↦ step xs b.1 | false ↦ (b.0, step xs b.1) ]

pub all_shut : (live : List ℕ) (runs : List LinkRun) → live ≡ [] → Covers live runs → AreShut runs
all_shut live runs e c = λ i h. elim (c.each i h) [ inl s ↦ s | inr n ↦ absurd (subst (In i) e n) ]

pub covers_first : (live : List ℕ) (runs : List LinkRun) → runs ≡ [] → Covers live runs
covers_first live runs e =
    record { each = λ i h. absurd (let k : i < length {A = LinkRun} [] = subst (λ r. i < length r) e h in omega arith) }

pub within_first : (live : List ℕ) (n : ℕ) → live ≡ [] → AreWithin live n
within_first live n e = rw e (record { below = tt })

pub place_front : (live : List ℕ) (kept at : ℕ) → kept < length live → take (kept + 1) (set live kept at)
    ≡ take kept live ++ at ∷ []
place_front live kept at h = let e : suc kept ≡ kept + 1 = omega arith in
    subst (λ k. take k (set live kept at) ≡ take kept live ++ at ∷ []) e (take-suc-set live kept at h)

pub place_rest : (live : List ℕ) (kept at : ℕ) → drop (kept + 1) (set live kept at) ≡ drop (kept + 1) live
place_rest live kept at = let e : suc kept ≡ kept + 1 = omega arith in
    subst (λ k. drop k (set live kept at) ≡ drop k live) e (step live kept)
  where
    step : (live : List ℕ) (kept : ℕ) → drop (suc kept) (set live kept at) ≡ drop (suc kept) live
    step [] kept = refl
    step (x ∷ xs) zero = refl
    step (x ∷ xs) (suc k) = step xs k

same_at : (a b : List ℕ) (k : ℕ) → k < length a → k < length b → drop k a ≡ drop k b → get_or a k 0 ≡ get_or b k 0
same_at [] b k h h' e = absurd (omega arith)
same_at (x ∷ a) [] k h h' e = absurd (omega arith)
same_at (x ∷ a) (y ∷ b) zero h h' e = cc
same_at (x ∷ a) (y ∷ b) (suc k) h h' e = same_at a b k (omega arith) (omega arith) e

pub at_within : (runs : List LinkRun) (live init : List ℕ) (k : ℕ) → k < length live → length live ≡ length init
    → drop k live ≡ drop k init → AreWithin init (length runs) → get_or live k 0 < length runs
at_within runs live init k h same e w = let b : get_or init k 0 < length runs =
    below_index (length runs) init k (omega arith) w in
    subst (λ x. x < length runs) (sym (same_at live init k h (omega arith) e)) b

drop_more : (a b : List ℕ) (k j : ℕ) → k ≤ j → drop k a ≡ drop k b → drop j a ≡ drop j b
drop_more a b k j h e = sym (drop_split a) ∙ ap (drop (j - k)) e ∙ drop_split b
  where
    again : (x : List ℕ) (m n : ℕ) → drop n (drop m x) ≡ drop (m + n) x
    again x zero n = let z : n ≡ 0 + n = omega arith in ap (λ t. drop t x) z
    again [] (suc m) n = drop_none n ∙ sym (drop_none (suc m + n))
      where
        drop_none : (n : ℕ) → drop {A = ℕ} n [] ≡ []
        drop_none zero = refl
        drop_none (suc n) = refl
    again (y ∷ x) (suc m) n = let z : suc (m + n) ≡ suc m + n = omega arith in again x m n ∙ ap (λ t. drop t (y ∷ x)) z

    drop_split : (x : List ℕ) → drop (j - k) (drop k x) ≡ drop j x
    drop_split x = let z : k + (j - k) ≡ j = omega arith in again x k (j - k) ∙ ap (λ t. drop t x) z

cons_at : (xs : List ℕ) (k : ℕ) → k < length xs → drop k xs ≡ get_or xs k 0 ∷ drop (k + 1) xs
cons_at xs k h = let e : suc k ≡ k + 1 = omega arith in
    subst (λ j. drop k xs ≡ get_or xs k 0 ∷ drop j xs) e (step xs k h)
  where
    step : (xs : List ℕ) (k : ℕ) → k < length xs → drop k xs ≡ get_or xs k 0 ∷ drop (suc k) xs
    step [] k h = absurd (omega arith)
    step (x ∷ xs) zero h = refl
    step (x ∷ xs) (suc k) h = step xs k (omega arith)

keep_cond : (runs : List LinkRun) (x : ℕ) (t r : List ℕ) (b : Bool) → (t ++ cond b [] (x ∷ [])) ++ keep runs r ≡ t
    ++ cond b (keep runs r) (x ∷ keep runs r)
keep_cond runs x t r true = ap (λ s. s ++ keep runs r) (append-nil t)
keep_cond runs x t r false = append_assoc t (x ∷ []) (keep runs r)

pub record Compacts (runs : List LinkRun) (init live : List ℕ) (kept k : ℕ) : Type 0 where
  pub behind : kept ≤ k
  pub same : length live ≡ length init
  pub rest : drop k live ≡ drop k init
  pub front : take kept live ++ keep runs (drop k init) ≡ keep runs init

pub compacts : (runs : List LinkRun) (init live live' : List ℕ) (kept kept' k : ℕ) (goes : Bool) → k < length live
    → Compacts runs init live kept k → goes ≡ is_shut (run_at runs (get_or live k 0)).stage → length live' ≡ length live
    → take kept' live' ≡ take kept live ++ cond goes [] (get_or live k 0 ∷ [])
    → drop (kept + 1) live' ≡ drop (kept + 1) live → kept' ≤ kept + 1 → Compacts runs init live' kept' (k + 1)
compacts runs init live live' kept kept' k goes h c d len front rest bound = record {
  behind = let b = c.behind in omega arith;
  same = len ∙ c.same;
  rest = drop_more live' live (kept + 1) (k + 1) (let b = c.behind in omega arith) rest
      ∙ drop_more live init k (k + 1) (omega arith) c.rest;
  front = ap (λ t. t ++ keep runs (drop (k + 1) init)) front
      ∙ keep_cond runs (get_or live k 0) (take kept live) (drop (k + 1) init) goes
      ∙ ap (λ b. take kept live
      ++ cond b (keep runs (drop (k + 1) init)) (get_or live k 0 ∷ keep runs (drop (k + 1) init))) d
      ∙ ap (λ x. take kept live ++ cond (is_shut (run_at runs x).stage) (keep runs (drop (k + 1) init))
      (x ∷ keep runs (drop (k + 1) init))) (same_at live init k h (let s = c.same in omega arith) c.rest)
      ∙ ap (λ l. take kept live ++ keep runs l) (sym (cons_at init k (let s = c.same in omega arith))) ∙ c.front;
}

pub truncated : (items' live' y : List ℕ) (kept len : ℕ) → items' ≡ take kept (take len (live' ++ y))
    → kept ≤ length live' → kept ≤ len → items' ≡ take kept live'
truncated items' live' y kept len e h k = e ∙ shorter kept len (live' ++ y) k ∙ take-append-le kept live' y h
  where
    shorter : (a b : ℕ) (x : List ℕ) → a ≤ b → take a (take b x) ≡ take a x
    shorter zero b x h = refl
    shorter (suc a) zero x h = absurd (omega arith)
    shorter (suc a) (suc b) [] h = refl
    shorter (suc a) (suc b) (x ∷ xs) h = ap (λ t. x ∷ t) (shorter a b xs (omega arith))
