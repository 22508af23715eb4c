-- Operators that get their operand, and what ends with a value: what was read stays, with as many constructs open.
use Rattle.std.proofs.Common.{◌≡◌, ℕ, ◌+◌, ◌≤◌, Bool, true, false, cond, List, [], ◌∷◌, ◌++◌, Ok, Err, refl, sym, ◌∙◌, ap, subst, append_assoc, le_refl, le_trans, arith}
use Rattle.std.specs.Prelude.{Result}
use Rattle.js_tree.specs.declared.tree.ArrowBody.TheOpen.{Expr-F}
use Rattle.js_tree.specs.declared.tree.ArrowBody.TheVariants as arrow_body
use Rattle.js_tree.specs.declared.tree.Expr.{Expr, out-Expr}
use Rattle.js_tree.specs.declared.tree.Expr.TheVariants as expr
use Rattle.js_tree.specs.declared.tree.Target.{Target}
use Rattle.js_tree.specs.declared.tree.UpdateSide.TheVariants as side
use Rattle.js_tree.specs.Targets.{Node, target_in, target_of}
use Rattle.js_grammar.specs.Marks.{Form, just}
use Rattle.js_parse_core.specs.declared.machine.Frame.{Frame}
use Rattle.js_parse_core.specs.declared.machine.Frame.TheVariants as frame
use Rattle.js_parse_core.specs.declared.machine.Open.{Open}
use Rattle.js_parse_core.specs.declared.machine.Operator.{Operator}
use Rattle.js_parse_core.specs.declared.machine.Operator.TheVariants as operator
use Rattle.js_parse_core.specs.declared.machine.Refusal.{Refusal}
use Rattle.js_parse_core.specs.declared.machine.Tail.{Tail}
use Rattle.js_parse_core.specs.declared.machine.Tail.TheVariants as tail
use Rattle.js_parse_core.specs.Outer.{opened}
use Rattle.js_parse_core.specs.Values.{Over, Folded, over, updated, apply, applied, operator_binds, fold_frame, fold, end_tail, fold_tail, fold_tails}
use Rattle.js_grammar.specs.Grammar.{binary_sign, arrow_sign}
use Rattle.js_parse_core.specs.declared.machine.Block.{Block}
use Rattle.js_parse_core.specs.declared.machine.Block.TheVariants as block
use Rattle.js_parse_core.specs.declared.machine.Callee.{Callee}
use Rattle.js_parse_core.specs.declared.machine.Callee.TheVariants as callee
use Rattle.js_parse_core.specs.declared.machine.Head.{Head}
use Rattle.js_parse_core.specs.declared.machine.Head.TheVariants as head
use Rattle.js_parse_core.specs.declared.machine.Purpose.{Purpose}
use Rattle.js_parse_core.specs.declared.machine.Purpose.TheVariants as purpose
use Rattle.js_parse_core.specs.Outer.{first_frame, is_body}
use Rattle.js_parse_core.proofs.Spelled.{is_line, lined}
use Rattle.js_parse_core.proofs.SoundFolds.{node_is}
use Rattle.js_parse_core.proofs.CountedForms.{up, expr_at, target_at, perhaps_at, arrow_at, access_at, operand_at, accesses, operators, expr_name, expr_unary, expr_await, expr_update_before, expr_binary, expr_conditional, expr_assign, expr_arrow, expr_member, expr_index, target_variable, target_field, target_item, arrow_value}
use Rattle.js_parse_core.proofs.CountedSpelled.{operator_level, callee_level, declared_level, purpose_level, head_level, plain_level, block_level, frame_level, levels, operator_front, tail_front, front, spell}

-- ---- more constructs are open within a frame than round it

up_one : (n : ℕ) → n ≤ n + 1
up_one n = omega arith

pub access_rises : (n : ℕ) (x : Expr) → n ≤ access_at n x
access_rises n x = either (accesses x)
  where
    either : (k : ℕ) → n ≤ (n + k) + 1
    either k = omega arith

operand_rises : (n : ℕ) (x : Expr) → n ≤ operand_at n x
operand_rises n x = either (operators x)
  where
    either : (k : ℕ) → n ≤ n + (k + 1)
    either k = omega arith

pub callee_rises : (n : ℕ) (c : Callee) → n ≤ callee_level n c
callee_rises n (callee.Value x k) = access_rises n x
callee_rises n (callee.New m) = up_one n

pub declared_rises : (n : ℕ) (b : Bool) → n ≤ declared_level n b
declared_rises n true = up_one n
declared_rises n false = le_refl n

pub head_rises : (n : ℕ) (h : Head) → n ≤ head_level n h
head_rises n (head.Method a xs k) = omega arith
head_rises n (head.Declaration a m) = up_one n
head_rises n (head.Expression a m) = up_one n

plain_rises : (n : ℕ) (b : Bool) → n ≤ plain_level n b
plain_rises n true = le_refl n
plain_rises n false = up_one n

pub purpose_rises : (n : ℕ) (w : Purpose) → n ≤ purpose_level n w
purpose_rises n (purpose.Argument c xs) = callee_rises n c
purpose_rises n (purpose.Index y k) = access_rises n y
purpose_rises n purpose.Statement = le_refl n
purpose_rises n (purpose.Initial d m) = declared_rises n d.in_for
purpose_rises n (purpose.Return q) = le_refl n
purpose_rises n purpose.Throw = le_refl n
purpose_rises n _ = up_one n

operator_rises : (n : ℕ) (o : Operator) → n ≤ operator_level n o
operator_rises n (operator.Binary x o) = operand_rises n x
operator_rises n _ = up_one n

pub block_rises : (n : ℕ) (b : Bool) (x : Block) → n ≤ block_level n b x
block_rises n b block.Plain = plain_rises n b
block_rises n b (block.Function h ns) = head_rises n h
block_rises n b _ = up_one n

pub frame_rises : (n : ℕ) (b : Bool) (f : Frame) → n ≤ frame_level n b f
frame_rises n b (frame.Operator x) = operator_rises n x
frame_rises n b (frame.Tail x) = up_one n
frame_rises n b (frame.Purpose x) = purpose_rises n x
frame_rises n b (frame.Body x) = up_one n
frame_rises n b (frame.Block x ss) = block_rises n b x
frame_rises n b frame.Export = le_refl n

pub levels_rise : (f : Open) (fs : List Open) → levels fs ≤ levels (f ∷ fs)
levels_rise f fs = frame_rises (levels fs) (is_body (first_frame fs)) f.frame

-- ---- targets

abbrev pub TargetSame : ℕ → List Form → Result Target Expr → Type 0
TargetSame n z (Ok t) = target_at n t ≡ z
TargetSame n z (Err y) = expr_at n y ≡ z

target_in_same : (n : ℕ) (x : Expr) (y : Node) → out-Expr x ≡ y → TargetSame n (expr_at n x) (target_in x y)
target_in_same n x (Expr-F.Name m) e = target_variable n m ∙ sym (ap (expr_at n) (node_is x _ e ∙ expr.rolls-Name m) ∙ expr_name n m)
target_in_same n x (Expr-F.Member y m) e = target_field n y m ∙ sym (ap (expr_at n) (node_is x _ e ∙ expr.rolls-Member y m) ∙ expr_member n y m)
target_in_same n x (Expr-F.Index y k) e = target_item n y k ∙ sym (ap (expr_at n) (node_is x _ e ∙ expr.rolls-Index y k) ∙ expr_index n y k)
target_in_same n x _ e = refl

pub target_same : (n : ℕ) (x : Expr) → TargetSame n (expr_at n x) (target_of x)
target_same n x = target_in_same n x (out-Expr x) refl

-- ---- operators

abbrev ApplySame : ℕ → List Form → Result Expr Refusal → Type 0
ApplySame n z (Ok y) = expr_at n y ≡ z
ApplySame n z (Err k) = Unit {0}

updated_same : (n m : ℕ) (c z : List Form) (f : Target → Expr) (r : Result Target Expr) → ((t : Target) → expr_at n (f t) ≡ c ++ target_at m t) → TargetSame m z r → ApplySame n (c ++ z) (updated r f)
updated_same n m c z f (Ok t) h e = h t ∙ ap (λ (y : List Form). c ++ y) e
updated_same n m c z f (Err x) h e = tt

apply_same : (n : ℕ) (o : Operator) (x : Expr) → ApplySame n (operator_front n o ++ expr_at (operator_level n o) x) (apply o x)
apply_same n (operator.Binary l o) x = expr_binary n o l x ∙ sym (append_assoc (expr_at n l) (up (operand_at n l) (just (binary_sign o)) ∷ []) (expr_at (operand_at n l) x))
apply_same n (operator.Unary o) x = expr_unary n o x
apply_same n (operator.Await q) x = expr_await n q x
apply_same n (operator.Update o) x = updated_same n (n + 1) (operator_front n (operator.Update o)) (expr_at (n + 1) x) (λ t. expr.Update side.Before o t) (target_of x) (λ t. expr_update_before n o t) (target_same (n + 1) x)

-- the frames and the value have read these forms, and no more than l constructs are open
abbrev pub FoldSame : ℕ → List Form → Folded → Type 0
FoldSame l z (Ok v) = (spell v.frames (expr_at (levels v.frames) v.value) ≡ z) × (levels v.frames ≤ l)
FoldSame l z (Err k) = Unit {0}

fold_lower : (l k : ℕ) (z : List Form) (f : Folded) → l ≤ k → FoldSame l z f → FoldSame k z f
fold_lower l k z (Ok v) h s = (s.0, le_trans s.1 h)
fold_lower l k z (Err e) h s = tt

fold_cond : (l : ℕ) (z : List Form) (b : Bool) (x y : Folded) → FoldSame l z x → FoldSame l z y → FoldSame l z (cond b x y)
fold_cond l z true x y h k = h
fold_cond l z false x y h k = k

applied_same : (l : ℕ) (fs : List Open) (z : List Form) (r : Result Expr Refusal) (go : Expr → Folded) → ApplySame (levels fs) z r → ((y : Expr) → FoldSame l (spell fs (expr_at (levels fs) y)) (go y)) → FoldSame l (spell fs z) (applied r go)
applied_same l fs z (Ok y) go e h = subst (λ (w : List Form). FoldSame l (spell fs w) (go y)) e (h y)
applied_same l fs z (Err k) go e h = tt

fold_frame_same : (l least n : ℕ) (f : Frame) (fs : List Open) (x : Expr) (go : Expr → Folded) → levels (opened n f ∷ fs) ≤ l → ((y : Expr) → FoldSame l (spell fs (expr_at (levels fs) y)) (go y))
    → FoldSame l (spell fs (lined (is_line f) (front fs f) (expr_at (levels (opened n f ∷ fs)) x))) (fold_frame least (opened n f) f fs x go)
fold_frame_same l least n (frame.Operator o) fs x go w h =
    fold_cond l _ (operator_binds least o) (applied (apply o x) go) (over (opened n (frame.Operator o) ∷ fs) x)
    (applied_same l fs (operator_front (levels fs) o ++ expr_at (operator_level (levels fs) o) x) (apply o x) go (apply_same (levels fs) o x) h) (refl, w)
fold_frame_same l least n _ fs x go w h = (refl, w)

pub fold_same : (least : ℕ) (fs : List Open) (x : Expr) → FoldSame (levels fs) (spell fs (expr_at (levels fs) x)) (fold least fs x)
fold_same least [] x = (refl, le_refl 0)
fold_same least (f ∷ fs) x =
    fold_frame_same (levels (f ∷ fs)) least f.constructs f.frame fs x (λ y. fold least fs y) (le_refl (levels (f ∷ fs)))
    (λ y. fold_lower (levels fs) (levels (f ∷ fs)) (spell fs (expr_at (levels fs) y)) (fold least fs y) (levels_rise f fs) (fold_same least fs y))

-- ---- what ends with a value

end_tail_forms : (n : ℕ) (t : Tail) (x : Expr) → expr_at n (end_tail t x) ≡ tail_front n t ++ expr_at (n + 1) x
end_tail_forms n (tail.Assign o t) x = expr_assign n o t x ∙ sym (append_assoc (target_at n t) _ (expr_at (n + 1) x))
end_tail_forms n (tail.Else test y) x = expr_conditional n test y x ∙ simp append_assoc
end_tail_forms n (tail.Arrow a ns) x =
    expr_arrow n a ns (arrow_body.Value x) ∙ ap (λ (z : List Form). perhaps_at n a (arrow_at n ns) ++ z) (arrow_value n x)
    ∙ sym (append_assoc (perhaps_at n a (arrow_at n ns)) (up (n + 1) arrow_sign ∷ []) (expr_at (n + 1) x))

pub record TailsSame (l : ℕ) (z : List Form) (v : Over) : Type 0 where
  pub forms : spell v.frames (expr_at (levels v.frames) v.value) ≡ z
  pub less : levels v.frames ≤ l

fold_tail_same : (l n : ℕ) (f : Frame) (fs : List Open) (x : Expr) (go : Expr → Over) → levels (opened n f ∷ fs) ≤ l → ((y : Expr) → TailsSame l (spell fs (expr_at (levels fs) y)) (go y))
    → TailsSame l (spell fs (lined (is_line f) (front fs f) (expr_at (levels (opened n f ∷ fs)) x))) (fold_tail (opened n f) f fs x go)
fold_tail_same l n (frame.Tail t) fs x go w h = record { forms = (h (end_tail t x)).forms ∙ ap (spell fs) (end_tail_forms (levels fs) t x); less = (h (end_tail t x)).less }
fold_tail_same l n _ fs x go w h = record { forms = refl; less = w }

pub fold_tails_same : (fs : List Open) (x : Expr) → TailsSame (levels fs) (spell fs (expr_at (levels fs) x)) (fold_tails fs x)
fold_tails_same [] x = record { forms = refl; less = le_refl 0 }
fold_tails_same (f ∷ fs) x =
    fold_tail_same (levels (f ∷ fs)) f.constructs f.frame fs x (λ y. fold_tails fs y) (le_refl (levels (f ∷ fs)))
    (λ y. let r : TailsSame (levels fs) (spell fs (expr_at (levels fs) y)) (fold_tails fs y) = fold_tails_same fs y in record { forms = r.forms; less = le_trans r.less (levels_rise f fs) })
