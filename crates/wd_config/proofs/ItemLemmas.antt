-- Where the field of a slot stands.
use Rattle.std.proofs.Common.{◌≡◌, ℕ, ◌+◌, suc, Bool, true, false, cond, List, [], ◌∷◌, Some, None, refl, sym, ap, subst, ◌∙◌, arith}
use Rattle.std.specs.List.{position_from, remove}
use Rattle.std.specs.Prelude.{slice_index_or, nat_eq}
use Rattle.std.proofs.lemmas.Bool.{eqb-true}
use Rattle.wd_config.specs.declared.schema.Slot.{Slot}
use Rattle.wd_config.specs.declared.items.Entry.{Entry}
use Rattle.wd_config.specs.Schema.{same_slot, slot_number}
use Rattle.wd_config.specs.Items.{item_of, is_of, without}
use Rattle.wd_config.proofs.Exact.{one_value, not_none}

pub record TakenAt (es : List Entry) (s : Slot) (at : ℕ) : Type 0 where
  pub item : (d : Entry) → item_of es s ≡ Some (slice_index_or es at d).item
  pub rest : without es s ≡ remove es at

record TakenFrom (es : List Entry) (s : Slot) (k at : ℕ) : Type 0 where
  behind : ℕ
  is : at ≡ behind + k
  taken : TakenAt es s behind

from_step : (e : Entry) (es : List Entry) (s : Slot) (k at : ℕ) (b : Bool) → is_of s e ≡ b → ((r : ℕ) → position_from (λ e. is_of s e) (k + 1) es ≡ Some r → TakenFrom es s (k + 1) r)
    → cond b (Some k) (position_from (λ e. is_of s e) (k + 1) es) ≡ Some at → TakenFrom (e ∷ es) s k at
from_step e es s k at true t more h =
    record { behind = 0; is = let g : k ≡ at = one_value k at h in omega arith; taken = record { item = λ d. ap (λ b. cond b (Some e.item) (item_of es s)) t; rest = ap (λ b. cond b es (e ∷ without es s)) t } }
from_step e es s k at false t more h =
    let p = more at h in
    record {
      behind = suc p.behind;
      is = let g : at ≡ p.behind + (k + 1) = p.is in omega arith;
      taken = record {
        item = λ d. ap (λ b. cond b (Some e.item) (item_of es s)) t ∙ p.taken.item d;
        rest = ap (λ b. cond b es (e ∷ without es s)) t ∙ ap (λ r. e ∷ r) p.taken.rest;
      };
    }

taken_from : (es : List Entry) (s : Slot) (k at : ℕ) → position_from (λ e. is_of s e) k es ≡ Some at → TakenFrom es s k at
taken_from [] s k at h = absurd (not_none None at refl h)
taken_from (e ∷ es) s k at h = from_step e es s k at (is_of s e) refl (λ r f. taken_from es s (k + 1) r f) h

pub taken_at : (es : List Entry) (s : Slot) (at : ℕ) → position_from (λ e. is_of s e) 0 es ≡ Some at → TakenAt es s at
taken_at es s at h =
    let p = taken_from es s 0 at h in
    let g : p.behind ≡ at = let f : at ≡ p.behind + 0 = p.is in omega arith in
    subst (λ n. TakenAt es s n) g p.taken

pub record NotTaken (es : List Entry) (s : Slot) : Type 0 where
  pub item : item_of es s ≡ None
  pub rest : without es s ≡ es

none_step : (e : Entry) (es : List Entry) (s : Slot) (k : ℕ) (b : Bool) → is_of s e ≡ b → (position_from (λ e. is_of s e) (k + 1) es ≡ None → NotTaken es s)
    → cond b (Some k) (position_from (λ e. is_of s e) (k + 1) es) ≡ None → NotTaken (e ∷ es) s
none_step e es s k true t more h = absurd (not_none (Some k) k h refl)
none_step e es s k false t more h =
    record { item = ap (λ b. cond b (Some e.item) (item_of es s)) t ∙ (more h).item; rest = ap (λ b. cond b es (e ∷ without es s)) t ∙ ap (λ r. e ∷ r) (more h).rest }

pub not_taken : (es : List Entry) (s : Slot) (k : ℕ) → position_from (λ e. is_of s e) k es ≡ None → NotTaken es s
not_taken [] s k h = record { item = refl; rest = refl }
not_taken (e ∷ es) s k h = none_step e es s k (is_of s e) refl (λ f. not_taken es s (k + 1) f) h

same_both : (a b c : ℕ) → nat_eq c a ≡ true → nat_eq c b ≡ nat_eq a b
same_both a b c e = ap (λ n. nat_eq n b) (eqb-true c a e)

without_step : (e : Entry) (es : List Entry) (a b : Slot) (x : Bool) → same_slot e.slot a ≡ x → same_slot a b ≡ false → item_of (without es a) b ≡ item_of es b
    → item_of (cond x es (e ∷ without es a)) b ≡ item_of (e ∷ es) b
without_step e es a b true t apart more = sym (ap (λ y. cond y (Some e.item) (item_of es b)) (same_both (slot_number a) (slot_number b) (slot_number e.slot) t ∙ apart))
without_step e es a b false t apart more = ap (λ r. cond (same_slot e.slot b) (Some e.item) r) more

-- another slot is found where it was
pub item_without : (es : List Entry) (a b : Slot) → same_slot a b ≡ false → item_of (without es a) b ≡ item_of es b
item_without [] a b apart = refl
item_without (e ∷ es) a b apart = without_step e es a b (same_slot e.slot a) refl apart (item_without es a b apart)
