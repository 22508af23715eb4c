-- Readings along a list.
use Rattle.std.proofs.Common.{◌≡◌, List, [], ◌∷◌, ◌++◌, Result, Ok, Err, refl, sym, ap, subst, append_assoc, length, arith}
use Rattle.capnp_text.specs.declared.tree.Placed.{Placed}
use Rattle.wd_config.specs.declared.faults.Stop.{Stop}
use Rattle.wd_config.specs.Reading.{Read, Answer, Found, Refused, Untold, ◌>>=◌, behind, then_read, done, along, Comes}
use Rattle.wd_config.proofs.Comes.{comes_then, stops_then}

behind_then : {A B : Type 0} (ws es : List Placed) (a : Answer A) (k : A → Read B) → then_read (ws ++ es) a k ≡ behind ws (then_read es a k)
behind_then ws es (Found x) k = ap (λ e. let r : Read _ = record { embeds = e; answer = (k x).answer } in r) (append_assoc ws es (k x).embeds)
behind_then ws es (Refused f) k = refl
behind_then ws es Untold k = refl

then_then : {A B C : Type 0} (ws : List Placed) (a : Answer A) (f : A → Read B) (k : B → Read C) → then_read (then_read ws a f).embeds (then_read ws a f).answer k ≡ then_read ws a (λ x. then_read (f x).embeds (f x).answer k)
then_then ws (Found x) f k = behind_then ws (f x).embeds (f x).answer k
then_then ws (Refused g) f k = refl
then_then ws Untold f k = refl

pub assoc : {A B C : Type 0} (r : Read A) (f : A → Read B) (k : B → Read C) → (r >>= f) >>= k ≡ r >>= (λ x. f x >>= k)
unfolding ◌>>=◌
assoc r f k = then_then r.embeds r.answer f k

-- what the rest comes to, the whole comes to
pub record Leads {A : Type 0} (whole rest : Read A) : Type 0 where
  pub leads : (y : Result A Stop) → Comes rest y → Comes whole y

pub leads_same : {A : Type 0} (whole rest : Read A) → whole ≡ rest → Leads whole rest
leads_same whole rest e = record { leads = λ y c. subst (λ r. Comes r y) (sym e) c }

pub along_end : {S X A : Type 0} (step : S → X → Read S) (s : S) (k : S → Read A) (whole : Read A) (y : Result A Stop) → Leads whole (along step s [] >>= k) → Comes (k s) y → Comes whole y
along_end step s k whole y l c = l.leads y (comes_then (done s) k s y refl c)

pub along_stops : {S X A : Type 0} (step : S → X → Read S) (s : S) (x : X) (xs : List X) (k : S → Read A) (whole : Read A) (e : Stop) → Leads whole (along step s (x ∷ xs) >>= k) → Comes (step s x) (Err e) → Comes whole (Err e)
along_stops step s x xs k whole e l c = l.leads (Err e) (stops_then (along step s (x ∷ xs)) k e (stops_then (step s x) (λ t. along step t xs) e c))

pub along_more : {S X A : Type 0} (step : S → X → Read S) (s t : S) (x : X) (xs : List X) (k : S → Read A) (whole : Read A) → Leads whole (along step s (x ∷ xs) >>= k) → Comes (step s x) (Ok t) → Leads whole (along step t xs >>= k)
along_more step s t x xs k whole l c = record {
  leads = λ y d.
      l.leads y (subst (λ r. Comes r y) (sym (assoc (step s x) (λ u. along step u xs) k)) (comes_then (step s x) (λ u. along step u xs >>= k) t y c d));
}

-- ---- a loop that takes the first of the rest

no_more : {X : Type 0} (xs : List X) → length xs ≡ 0 → xs ≡ []
no_more [] e = refl
no_more (x ∷ xs) e = absurd (omega arith)

pub loop_end : {S X A : Type 0} (step : S → X → Read S) (s : S) (rest : List X) (k : S → Read A) (whole : Read A) (y : Result A Stop) → Leads whole (along step s rest >>= k) → length rest ≡ 0 → Comes (k s) y → Comes whole y
loop_end step s rest k whole y l e c = along_end step s k whole y (subst (λ r. Leads whole (along step s r >>= k)) (no_more rest e) l) c

pub loop_stops : {S X A : Type 0} (step : S → X → Read S) (s : S) (rest : List X) (x : X) (xs : List X) (k : S → Read A) (whole : Read A) (e : Stop) → Leads whole (along step s rest >>= k) → rest ≡ x ∷ xs → Comes (step s x) (Err e) → Comes whole (Err e)
loop_stops step s rest x xs k whole e l f c = along_stops step s x xs k whole e (subst (λ r. Leads whole (along step s r >>= k)) f l) c

pub loop_more : {S X A : Type 0} (step : S → X → Read S) (s t : S) (rest : List X) (x : X) (xs : List X) (k : S → Read A) (whole : Read A) → Leads whole (along step s rest >>= k) → rest ≡ x ∷ xs → Comes (step s x) (Ok t) → Leads whole (along step t xs >>= k)
loop_more step s t rest x xs k whole l f c = along_more step s t x xs k whole (subst (λ r. Leads whole (along step s r >>= k)) f l) c
