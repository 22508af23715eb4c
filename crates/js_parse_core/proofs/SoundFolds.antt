-- Operators that get their operand, and what ends with a value: what was read stays.
use Rattle.std.proofs.Common.{◌≡◌, ℕ, Bool, true, false, cond, List, [], ◌∷◌, ◌++◌, Ok, Err, refl, sym, ◌∙◌, ap, subst, append_assoc}
use Rattle.std.specs.Prelude.{Result}
use Rattle.js_tree.specs.declared.tree.ArrowBody.TheOpen.{Expr-F}
use Rattle.js_tree.specs.declared.tree.ArrowBody.TheVariants as arrow_body
use Rattle.js_tree.specs.declared.tree.Expr.{Expr, roll-Expr, out-Expr, roll-out-Expr}
use Rattle.js_tree.specs.declared.tree.Expr.TheVariants as expr
use Rattle.js_tree.specs.declared.tree.Target.{Target}
use Rattle.js_tree.specs.declared.tree.UpdateSide.TheVariants as side
use Rattle.js_tree.specs.Targets.{Node, target_in, target_of}
use Rattle.js_grammar.specs.Marks.{Form, just}
use Rattle.js_grammar.specs.Grammar.{binary_sign, perhaps_async, arrow_sign}
use Rattle.js_parse_core.specs.declared.machine.Frame.{Frame}
use Rattle.js_parse_core.specs.declared.machine.Frame.TheVariants as frame
use Rattle.js_parse_core.specs.declared.machine.Open.{Open}
use Rattle.js_parse_core.specs.declared.machine.Operator.{Operator}
use Rattle.js_parse_core.specs.declared.machine.Operator.TheVariants as operator
use Rattle.js_parse_core.specs.declared.machine.Refusal.{Refusal}
use Rattle.js_parse_core.specs.declared.machine.Tail.{Tail}
use Rattle.js_parse_core.specs.declared.machine.Tail.TheVariants as tail
use Rattle.js_parse_core.specs.Outer.{opened}
use Rattle.js_parse_core.specs.Values.{Over, Folded, over, updated, apply, applied, operator_binds, fold_frame, fold, end_tail, fold_tail, fold_tails}
use Rattle.js_parse_core.proofs.Bare.{expr_forms, target_forms, arrow_names, expr_name, expr_unary, expr_await, expr_update_before, expr_binary, expr_conditional, expr_assign, expr_arrow, expr_member, expr_index, target_variable, target_field, target_item, arrow_value}
use Rattle.js_parse_core.proofs.Spelled.{operator_front, tail_front, front, is_line, lined, spell}

-- ---- targets

pub node_is : (x : Expr) (y : Node) → out-Expr x ≡ y → x ≡ roll-Expr y
node_is x y e = sym (roll-out-Expr x) ∙ ap roll-Expr e

abbrev pub TargetSame : List Form → Result Target Expr → Type 0
TargetSame z (Ok t) = target_forms t ≡ z
TargetSame z (Err y) = expr_forms y ≡ z

target_in_same : (x : Expr) (y : Node) → out-Expr x ≡ y → TargetSame (expr_forms x) (target_in x y)
target_in_same x (Expr-F.Name n) e = target_variable n ∙ sym (ap expr_forms (node_is x _ e ∙ expr.rolls-Name n) ∙ expr_name n)
target_in_same x (Expr-F.Member y n) e = target_field y n ∙ sym (ap expr_forms (node_is x _ e ∙ expr.rolls-Member y n) ∙ expr_member y n)
target_in_same x (Expr-F.Index y k) e = target_item y k ∙ sym (ap expr_forms (node_is x _ e ∙ expr.rolls-Index y k) ∙ expr_index y k)
target_in_same x _ e = refl

pub target_same : (x : Expr) → TargetSame (expr_forms x) (target_of x)
target_same x = target_in_same x (out-Expr x) refl

-- ---- operators

abbrev ApplySame : List Form → Result Expr Refusal → Type 0
ApplySame z (Ok y) = expr_forms y ≡ z
ApplySame z (Err k) = Unit {0}

updated_same : (o : Operator) (z : List Form) (f : Target → Expr) (r : Result Target Expr) → ((t : Target) → expr_forms (f t) ≡ operator_front o ++ target_forms t) → TargetSame z r → ApplySame (operator_front o ++ z) (updated r f)
updated_same o z f (Ok t) h e = h t ∙ ap (λ (y : List Form). operator_front o ++ y) e
updated_same o z f (Err x) h e = tt

apply_same : (o : Operator) (x : Expr) → ApplySame (operator_front o ++ expr_forms x) (apply o x)
apply_same (operator.Binary l o) x = expr_binary o l x ∙ sym (append_assoc (expr_forms l) (just (binary_sign o) ∷ []) (expr_forms x))
apply_same (operator.Unary o) x = expr_unary o x
apply_same (operator.Await q) x = expr_await q x
apply_same (operator.Update o) x = updated_same (operator.Update o) (expr_forms x) (λ t. expr.Update side.Before o t) (target_of x) (λ t. expr_update_before o t) (target_same x)

-- the frames and the value have read these forms
abbrev pub FoldSame : List Form → Folded → Type 0
FoldSame z (Ok v) = spell v.frames (expr_forms v.value) ≡ z
FoldSame z (Err k) = Unit {0}

fold_cond : (z : List Form) (b : Bool) (x y : Folded) → FoldSame z x → FoldSame z y → FoldSame z (cond b x y)
fold_cond z true x y h k = h
fold_cond z false x y h k = k

applied_same : (fs : List Open) (z : List Form) (r : Result Expr Refusal) (go : Expr → Folded) → ApplySame z r → ((y : Expr) → FoldSame (spell fs (expr_forms y)) (go y)) → FoldSame (spell fs z) (applied r go)
applied_same fs z (Ok y) go e h = subst (λ (w : List Form). FoldSame (spell fs w) (go y)) e (h y)
applied_same fs z (Err k) go e h = tt

fold_frame_same : (least n : ℕ) (f : Frame) (fs : List Open) (x : Expr) (go : Expr → Folded) → ((y : Expr) → FoldSame (spell fs (expr_forms y)) (go y))
    → FoldSame (spell fs (lined (is_line f) (front fs f) (expr_forms x))) (fold_frame least (opened n f) f fs x go)
fold_frame_same least n (frame.Operator o) fs x go h =
    fold_cond _ (operator_binds least o) (applied (apply o x) go) (over (opened n (frame.Operator o) ∷ fs) x)
    (applied_same fs (operator_front o ++ expr_forms x) (apply o x) go (apply_same o x) h) refl
fold_frame_same least n _ fs x go h = refl

pub fold_same : (least : ℕ) (fs : List Open) (x : Expr) → FoldSame (spell fs (expr_forms x)) (fold least fs x)
fold_same least [] x = refl
fold_same least (f ∷ fs) x = fold_frame_same least f.constructs f.frame fs x (λ y. fold least fs y) (λ y. fold_same least fs y)

-- ---- what ends with a value

end_tail_forms : (t : Tail) (x : Expr) → expr_forms (end_tail t x) ≡ tail_front t ++ expr_forms x
end_tail_forms (tail.Assign o t) x = expr_assign o t x ∙ sym (append_assoc (target_forms t) _ (expr_forms x))
end_tail_forms (tail.Else test y) x = expr_conditional test y x ∙ simp append_assoc
end_tail_forms (tail.Arrow a ns) x =
    expr_arrow a ns (arrow_body.Value x) ∙ ap (λ (z : List Form). perhaps_async a (arrow_names ns) ++ z) (arrow_value x)
    ∙ sym (append_assoc (perhaps_async a (arrow_names ns)) (arrow_sign ∷ []) (expr_forms x))

fold_tail_same : (n : ℕ) (f : Frame) (fs : List Open) (x : Expr) (go : Expr → Over) → ((y : Expr) → spell (go y).frames (expr_forms (go y).value) ≡ spell fs (expr_forms y))
    → spell (fold_tail (opened n f) f fs x go).frames (expr_forms (fold_tail (opened n f) f fs x go).value) ≡ spell fs (lined (is_line f) (front fs f) (expr_forms x))
fold_tail_same n (frame.Tail t) fs x go h = h (end_tail t x) ∙ ap (spell fs) (end_tail_forms t x)
fold_tail_same n _ fs x go h = refl

pub fold_tails_same : (fs : List Open) (x : Expr) → spell (fold_tails fs x).frames (expr_forms (fold_tails fs x).value) ≡ spell fs (expr_forms x)
fold_tails_same [] x = refl
fold_tails_same (f ∷ fs) x = fold_tail_same f.constructs f.frame fs x (λ y. fold_tails fs y) (λ y. fold_tails_same fs y)
