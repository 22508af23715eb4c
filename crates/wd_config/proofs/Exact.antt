-- What is found, exactly.
use Rattle.std.proofs.Common.{◌≡◌, sym, ap, subst, ◌∙◌, Option, Some, None}
use Rattle.std.specs.Prelude.{◌↔◌}

value_or : {A : Type 0} → A → Option A → A
value_or d None = d
value_or d (Some x) = x

pub one_value : {A : Type 0} (x y : A) → Some x ≡ Some y → x ≡ y
unfolding value_or
one_value x y e = ap (value_or x) e

pub not_none : {A : Type 0} (r : Option A) (x : A) → r ≡ None → r ≡ Some x → ⊥
not_none r x e f = let g : None ≡ Some x = sym e ∙ f in cc

-- nothing is found where there is nothing
pub finds_none : {A : Type 0} (P : A → Type 0) (r : Option A) → r ≡ None → ((x : A) → P x → ⊥) → (x : A) → (r ≡ Some x) ↔ P x
finds_none P r e none x = ((λ f. absurd (not_none r x e f)), (λ p. absurd (none x p)))

-- what is found is the one value
pub finds_one : {A : Type 0} (P : A → Type 0) (r : Option A) (v : A) → r ≡ Some v → P v → ((x : A) → P x → v ≡ x) → (x : A) → (r ≡ Some x) ↔ P x
finds_one P r v e p one x = ((λ f. subst P (one_value v x (sym e ∙ f)) p), (λ q. e ∙ ap Some (one x q)))

-- there is nothing where nothing is found
pub none_found : {A : Type 0} (P : A → Type 0) (r : Option A) → ((x : A) → (r ≡ Some x) ↔ P x) → r ≡ None → (x : A) → P x → ⊥
none_found P r found e x p = not_none r x e ((found x).1 p)
