-- Runs of any step.
use Rattle.std.proofs.Common.{◌≡◌, List, [], ◌∷◌, ◌++◌, Result, Ok, Err, refl, ap, ◌∙◌, subst}
use Rattle.capnp_text.specs.Run.{Stuck, taken, run}

module _ {S T K : Type 0} (step : S → T → Result S K) where
  pub run_step : (s n : S) (t : T) (ts : List T) → step s t ≡ Ok n → run step s (t ∷ ts) ≡ run step n ts
  run_step s n t ts e = ap (λ (o : Result S K). taken o t ts (λ x. run step x ts)) e

  pub run_alike : (r s : S) (t : T) (ts : List T) → step r t ≡ step s t → run step r (t ∷ ts) ≡ run step s (t ∷ ts)
  run_alike r s t ts e = ap (λ (o : Result S K). taken o t ts (λ x. run step x ts)) e

  pub run_stuck : (s : S) (t : T) (ts : List T) (k : K) → step s t ≡ Err k → run step s (t ∷ ts) ≡ Err (record { why = k; item = t; rest = ts })
  run_stuck s t ts k e = ap (λ (o : Result S K). taken o t ts (λ x. run step x ts)) e

  -- where a run stops
  pub record StopsAt (s : S) (ts : List T) (k : Stuck T K) : Type 0 where
    pub before : List T
    pub reached : S
    pub is : ts ≡ before ++ k.item ∷ k.rest
    pub ran : run step s before ≡ Ok reached
    pub refused : step reached k.item ≡ Err k.why

  stops_taken : (s : S) (t : T) (ts : List T) (o : Result S K) (k : Stuck T K) → step s t ≡ o → ((n : S) → run step n ts ≡ Err k → StopsAt n ts k) → taken o t ts (λ n. run step n ts) ≡ Err k → StopsAt s (t ∷ ts) k
  stops_taken s t ts (Err e) k at_step i h =
      let same : record { why = e; item = t; rest = ts } ≡ k = cc in
      record { before = []; reached = s; is = ap (λ (z : Stuck T K). z.item ∷ z.rest) same; ran = refl; refused = subst (λ (z : Stuck T K). step s z.item ≡ Err z.why) same at_step }
  stops_taken s t ts (Ok n) k at_step i h =
      let r : StopsAt n ts k = i n h in
      record { before = t ∷ r.before; reached = r.reached; is = ap (λ (z : List T). t ∷ z) r.is; ran = run_step s n t r.before at_step ∙ r.ran; refused = r.refused }

  pub stops_at : (ts : List T) (s : S) (k : Stuck T K) → run step s ts ≡ Err k → StopsAt s ts k
  stops_at [] s k h = cc
  stops_at (t ∷ ts) s k h = stops_taken s t ts (step s t) k refl (λ n. stops_at ts n k) h

  append_taken : (t : T) (a b : List T) (o : Result S K) (n : S) → ((m : S) → run step m a ≡ Ok n → run step m (a ++ b) ≡ run step n b) → taken o t a (λ x. run step x a) ≡ Ok n → taken o t (a ++ b) (λ x. run step x (a ++ b)) ≡ run step n b
  append_taken t a b (Err k) n i h = cc
  append_taken t a b (Ok m) n i h = i m h

  pub run_append : (a b : List T) (s n : S) → run step s a ≡ Ok n → run step s (a ++ b) ≡ run step n b
  run_append [] b s n h = let same : s ≡ n = cc in ap (λ (z : S). run step z b) same
  run_append (t ∷ a) b s n h = append_taken t a b (step s t) n (λ m. run_append a b m n) h

  -- a front of what is taken is taken
  pub record Front (s : S) (a : List T) : Type 0 where
    pub reached : S
    pub ran : run step s a ≡ Ok reached

  front_taken : (t : T) (a b : List T) (s : S) (o : Result S K) (n : S) → step s t ≡ o → ((m : S) → run step m (a ++ b) ≡ Ok n → Front m a) → taken o t (a ++ b) (λ x. run step x (a ++ b)) ≡ Ok n → Front s (t ∷ a)
  front_taken t a b s (Err k) n e i h = cc
  front_taken t a b s (Ok m) n e i h = let r : Front m a = i m h in record { reached = r.reached; ran = run_step s m t a e ∙ r.ran }

  pub front : (a b : List T) (s n : S) → run step s (a ++ b) ≡ Ok n → Front s a
  front [] b s n h = record { reached = s; ran = refl }
  front (t ∷ a) b s n h = front_taken t a b s (step s t) n refl (λ m. front a b m n) h
