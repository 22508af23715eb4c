-- Cutting a text.
use Rattle.std.proofs.Common.{◌≡◌, ℕ, ◌+◌, ◌-◌, ◌<◌, suc, add-one, Bool, true, false, refl, sym, ap, subst, arith, List, [], ◌∷◌, ◌++◌, length, take, drop, Some, None}
use Rattle.std.specs.Prelude.{◌==◌, cond}
use Rattle.std.specs.List.{position_from}
use Rattle.std.proofs.lemmas.List.{length-drop}
use Rattle.std.proofs.Math.Seq.{take-length}
use Rattle.std.proofs.lemmas.List.Elements.{All-head, All-tail, All-nil, All-cons}
use Rattle.std.proofs.lemmas.Bool.{eqb-true, eqb-false}
use Rattle.wd_config.proofs.Exact.{one_value, not_none}
use Rattle.wd_config.specs.Cut.{IsNot, Lacks, IsCut, place_of}

-- a text is cut at the first such byte alone
pub same_cut : (mark : ℕ) (f g r s : List ℕ) → Lacks mark f → Lacks mark g → f ++ mark ∷ r ≡ g ++ mark ∷ s → (f ≡ g) × (r ≡ s)
same_cut mark [] [] r s a b e = (refl, cc)
same_cut mark [] (y ∷ g) r s a b e = let h : y ≡ mark = cc in absurd (All-head (IsNot mark) y g b h)
same_cut mark (x ∷ f) [] r s a b e = let h : x ≡ mark = cc in absurd (All-head (IsNot mark) x f a h)
same_cut mark (x ∷ f) (y ∷ g) r s a b e =
    let h : x ≡ y = cc in
    let t : f ++ mark ∷ r ≡ g ++ mark ∷ s = cc in
    let more : (f ≡ g) × (r ≡ s) = same_cut mark f g r s (All-tail (IsNot mark) x f a) (All-tail (IsNot mark) y g b) t in
    let k : f ≡ g = more.0 in
    (cc, more.1)

-- a text that lacks the byte is not cut at it
pub not_cut : (mark : ℕ) (text f r : List ℕ) → Lacks mark text → text ≡ f ++ mark ∷ r → ⊥
not_cut mark [] [] r a e = cc
not_cut mark [] (y ∷ f) r a e = cc
not_cut mark (x ∷ text) [] r a e = let h : x ≡ mark = cc in All-head (IsNot mark) x text a h
not_cut mark (x ∷ text) (y ∷ f) r a e = let t : text ≡ f ++ mark ∷ r = cc in not_cut mark text f r (All-tail (IsNot mark) x text a) t

-- the text is cut at this place
pub record CutAt (mark at : ℕ) (text : List ℕ) : Type 0 where
  pub within : at < length text
  pub cut : IsCut mark (take at text) (drop (suc at) text) text

-- the place is counted from k
pub record PlaceFrom (mark k at : ℕ) (text : List ℕ) : Type 0 where
  pub behind : ℕ
  pub is : at ≡ behind + k
  pub cut : CutAt mark behind text

shift : (mark k at x : ℕ) (text : List ℕ) → (x ≡ mark → ⊥) → PlaceFrom mark (k + 1) at text → PlaceFrom mark k at (x ∷ text)
shift mark k at x text apart p =
    record {
      behind = suc p.behind;
      is = let e : at ≡ p.behind + (k + 1) = p.is in omega arith;
      cut = record {
        within = let h : p.behind < length text = p.cut.within in omega arith;
        cut = record {
          written = ap (λ t. x ∷ t) p.cut.cut.written;
          first = All-cons (IsNot mark) x (take p.behind text) apart p.cut.cut.first;
        };
      };
    }

at_step : (mark k at x : ℕ) (text : List ℕ) (b : Bool) → (x == mark) ≡ b → ((r : ℕ) → position_from (λ b. b == mark) (k + 1) text ≡ Some r → PlaceFrom mark (k + 1) r text)
    → cond b (Some k) (position_from (λ b. b == mark) (k + 1) text) ≡ Some at → PlaceFrom mark k at (x ∷ text)
at_step mark k at x text true t more e =
    let h : x ≡ mark = eqb-true x mark t in
    record { behind = 0; is = let h : k ≡ at = one_value k at e in omega arith; cut = record { within = omega arith; cut = record { written = ap (λ y. y ∷ text) h; first = All-nil (IsNot mark) } } }
at_step mark k at x text false t more e = shift mark k at x text (eqb-false x mark t) (more at e)

pub at_place : (mark k at : ℕ) (text : List ℕ) → position_from (λ b. b == mark) k text ≡ Some at → PlaceFrom mark k at text
at_place mark k at [] e = absurd (not_none None at refl e)
at_place mark k at (x ∷ text) e = at_step mark k at x text (x == mark) refl (λ r f. at_place mark (k + 1) r text f) e

no_step : (mark k x : ℕ) (text : List ℕ) (b : Bool) → (x == mark) ≡ b → (position_from (λ b. b == mark) (k + 1) text ≡ None → Lacks mark text)
    → cond b (Some k) (position_from (λ b. b == mark) (k + 1) text) ≡ None → Lacks mark (x ∷ text)
no_step mark k x text true t more e = absurd (not_none (Some k) k e refl)
no_step mark k x text false t more e = All-cons (IsNot mark) x text (eqb-false x mark t) (more e)

pub no_place : (mark k : ℕ) (text : List ℕ) → position_from (λ b. b == mark) k text ≡ None → Lacks mark text
no_place mark k [] e = All-nil (IsNot mark)
no_place mark k (x ∷ text) e = no_step mark k x text (x == mark) refl (λ f. no_place mark (k + 1) text f) e

-- the first place
pub cut_at : (mark at : ℕ) (text : List ℕ) → Some at ≡ place_of mark text → CutAt mark at text
cut_at mark at text e =
    let p = at_place mark 0 at text (sym e) in
    let h : p.behind ≡ at = let g : at ≡ p.behind + 0 = p.is in omega arith in
    subst (λ n. CutAt mark n text) h p.cut

pub lacks : (mark : ℕ) (text : List ℕ) → None ≡ place_of mark text → Lacks mark text
lacks mark text e = no_place mark 0 text (sym e)

pub cut_rest : (mark at : ℕ) (text : List ℕ) → CutAt mark at text → IsCut mark (take at text) (take (length text - (at + 1)) (drop (at + 1) text)) text
cut_rest mark at text c =
    let e : at + 1 ≡ suc at = add-one at in
    let l : length text - suc at ≡ length (drop (suc at) text) = sym (length-drop (suc at) text) in
    rw (e, l, take-length) c.cut
