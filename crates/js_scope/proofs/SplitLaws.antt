-- ScopeKind tasks are put together.
use Rattle.std.proofs.Common.{◌≡◌, ℕ, ◌≤◌, ◌+◌, arith, List, [], ◌∷◌, ◌++◌, Ok, Err, refl, sym, ap, ◌∙◌}
use Rattle.js_scope.specs.declared.task.ScopeKind.{ScopeKind}
use Rattle.js_scope.specs.declared.task.Piece.{Piece}
use Rattle.js_scope.specs.declared.task.Task.{Task}
use Rattle.js_scope.specs.declared.task.Task.TheVariants as task
use Rattle.js_scope.specs.Early.{Marks}
use Rattle.js_scope.specs.Verdict.{judge, and_then, inside, entered, settle, verdict, piece_marks, piece_weight, IsSplit}
use Rattle.js_scope.proofs.Judge.{Judged, judge_append, judge_inside, back}

pub split_none : (old : List Task) (n : ℕ) → IsSplit old [] n old
split_none old n = record { same = λ s outer. refl; heavier = omega arith }

pub split_then : (old mid new : List Task) (xs ys : Marks) (i j : ℕ) → IsSplit old xs i mid → IsSplit mid ys j new → IsSplit old (ys ++ xs) (j + i) new
split_then old mid new xs ys i j a b = record {
  same = λ s outer.
      b.same s outer ∙
      (elim (judge s ys) as (λ (r : Judged). settle r (λ t. verdict mid t outer) ≡ settle (and_then r (λ t. judge t xs)) (λ t. verdict old t outer)) [
        | Ok t ↦ a.same t outer
        | Err f ↦ refl
      ]) ∙
      ap (λ (r : Judged). settle r (λ t. verdict old t outer)) (sym (judge_append s ys xs));
  heavier = omega (arith, a.heavier, b.heavier);
}

pub split_piece : (old : List Task) (p : Piece) → IsSplit old (piece_marks p) (1 + piece_weight p) (task.Piece p ∷ old)
split_piece old p = record { same = λ s outer. refl; heavier = omega arith }

pub split_inside : (old mid : List Task) (h : ScopeKind) (ms : Marks) (n : ℕ) → IsSplit (task.Leave ∷ old) ms n mid → IsSplit old (inside h ms) (2 + n) (task.Enter h ∷ mid)
split_inside old mid h ms n a = record {
  same = λ s outer.
      a.same (entered h s) (s ∷ outer) ∙
      (elim (judge (entered h s) ms) as (λ (r : Judged). settle r (λ t. verdict (task.Leave ∷ old) t (s ∷ outer)) ≡ settle (back s r) (λ t. verdict old t outer)) [
        | Ok t ↦ refl
        | Err f ↦ refl
      ]) ∙
      ap (λ (r : Judged). settle r (λ t. verdict old t outer)) (sym (judge_inside h s ms));
  heavier = omega (arith, a.heavier);
}

-- as other marks, or heavier by more
pub split_as : (old new : List Task) (xs zs : Marks) (i n : ℕ) → zs ≡ xs → i ≤ n → IsSplit old xs i new → IsSplit old zs n new
split_as old new xs zs i n e le a = record { same = λ s outer. a.same s outer ∙ ap (λ ms. settle (judge s ms) (λ t. verdict old t outer)) (sym e); heavier = omega (arith, le, a.heavier) }
