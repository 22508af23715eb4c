-- Names that differ.
use Rattle.std.proofs.Common.{◌≡◌, ℕ, Bool, true, false, cond, List, [], ◌∷◌, ◌++◌, Some, None, is_some, refl, sym, ap, ◌∙◌}
use Rattle.std.specs.List.{All}
use Rattle.std.specs.Str.{bytes_eq}
use Rattle.std.proofs.lemmas.Bool.Decides.{not_from_Decides}
use Rattle.std.proofs.lemmas.List.Elements.{All-nil, All-push, All-head, All-tail}
use Rattle.std.proofs.lemmas.Slice.Eq.{bytes_eq-Decides}
use Rattle.wd_config.specs.Answer.{Differ}
use Rattle.wd_config.specs.Names.{Names, put, number_of, has_name}
use Rattle.wd_config.specs.Sound.{IsFree, Apart}

new_name : (n q : List ℕ) (k : ℕ) (b : Bool) → bytes_eq q n ≡ b → is_some (cond b (Some k) None) ≡ false → bytes_eq q n ≡ false
new_name n q k true t h = cc
new_name n q k false t h = t

abbrev Missing : Names → List ℕ → List ℕ → Type 0
Missing ps n q = (bytes_eq q n ≡ false) × (has_name ps q ≡ false)

replaced : (p : List ℕ × ℕ) (ps : Names) (n q : List ℕ) (k : ℕ) (b : Bool) → n ≡ p.0 → bytes_eq q p.0 ≡ b → is_some (cond b (Some k) (number_of ps q)) ≡ false → Missing (p ∷ ps) n q
replaced p ps n q k true e t h = cc
replaced p ps n q k false e t h = (ap (bytes_eq q) e ∙ t, ap (λ c. is_some (cond c (Some p.1) (number_of ps q))) t ∙ h)

kept : (p : List ℕ × ℕ) (ps : Names) (n q : List ℕ) (k : ℕ) (b : Bool) → (has_name (put ps n k) q ≡ false → Missing ps n q) → bytes_eq q p.0 ≡ b → is_some (cond b (Some p.1) (number_of (put ps n k) q)) ≡ false → Missing (p ∷ ps) n q
kept p ps n q k true more t h = cc
kept p ps n q k false more t h = ((more h).0, ap (λ c. is_some (cond c (Some p.1) (number_of ps q))) t ∙ (more h).1)

put_step : (p : List ℕ × ℕ) (ps : Names) (n q : List ℕ) (k : ℕ) (b : Bool) → bytes_eq n p.0 ≡ b → (has_name (put ps n k) q ≡ false → Missing ps n q)
    → has_name (cond b ((p.0, k) ∷ ps) (p ∷ put ps n k)) q ≡ false → Missing (p ∷ ps) n q
put_step p ps n q k true t more h = replaced p ps n q k (bytes_eq q p.0) ((bytes_eq-Decides n p.0).0 t) refl h
put_step p ps n q k false t more h = kept p ps n q k (bytes_eq q p.0) more refl h

has_put : (ps : Names) (n q : List ℕ) (k : ℕ) → has_name (put ps n k) q ≡ false → Missing ps n q
has_put [] n q k h = (new_name n q k (bytes_eq q n) refl h, refl)
has_put (p ∷ ps) n q k h = put_step p ps n q k (bytes_eq n p.0) refl (has_put ps n q k) h

pub apart_none : Apart [] []
apart_none = record { differ = tt; absent = λ q h. All-nil (λ m. m ≡ q → ⊥) }

-- one more name is taken, whatever has it
pub apart_wider : (taken : Names) (names : List (List ℕ)) (n : List ℕ) (k : ℕ) → Apart taken names → Apart (put taken n k) names
apart_wider taken names n k a = record { differ = a.differ; absent = λ q g. a.absent q (has_put taken n q k g).1 }

differ_push : (ms : List (List ℕ)) (n : List ℕ) → Differ ms → All (λ m. m ≡ n → ⊥) ms → Differ (ms ++ n ∷ [])
differ_push [] n d h = (All-nil (λ m. m ≡ n → ⊥), tt)
differ_push (m ∷ ms) n (a, d) h =
    (All-push (λ l. l ≡ m → ⊥) ms n a (λ e. All-head (λ l. l ≡ n → ⊥) m ms h (sym e)), differ_push ms n d (All-tail (λ l. l ≡ n → ⊥) m ms h))

-- a name that is free is taken behind the others
pub apart_more : (taken : Names) (names : List (List ℕ)) (n : List ℕ) (k : ℕ) → Apart taken names → IsFree taken n → Apart (put taken n k) (names ++ n ∷ [])
apart_more taken names n k a h = record {
  differ = differ_push names n a.differ (a.absent n h);
  absent = λ q g. All-push (λ m. m ≡ q → ⊥) names n (a.absent q (has_put taken n q k g).1)
      (λ e. not_from_Decides (bytes_eq q n) (bytes_eq-Decides q n) (has_put taken n q k g).0 (sym e));
}
