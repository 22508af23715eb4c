-- A token behind an operand.
use Rattle.std.proofs.Common.{◌≡◌, ℕ, false, List, [], ◌∷◌, ◌++◌, Option, Some, None, Ok, Err, refl, sym, ◌∙◌, ap}
use Rattle.std.specs.Prelude.{Result, ◌||◌, not}
use Rattle.std.proofs.lemmas.Bool.{or_parts}
use Rattle.js_lex.specs.declared.token.Punctuator.{Punctuator}
use Rattle.js_lex.specs.declared.token.Punctuator.TheVariants as p
use Rattle.js_lex.specs.declared.token.TokenKind.{TokenKind}
use Rattle.js_lex.specs.declared.token.TokenKind.TheVariants as tok
use Rattle.js_lex.specs.declared.token.Token.{Token}
use Rattle.js_tree.specs.declared.tree.ArrowBody.TheOpen.{Expr-F}
use Rattle.js_tree.specs.declared.tree.AssignOp.{AssignOp}
use Rattle.js_tree.specs.declared.tree.BinaryOp.{BinaryOp}
use Rattle.js_tree.specs.declared.tree.Expr.{Expr, out-Expr}
use Rattle.js_tree.specs.declared.tree.Expr.TheVariants as expr
use Rattle.js_tree.specs.declared.tree.Target.{Target}
use Rattle.js_tree.specs.declared.tree.UpdateOp.{UpdateOp}
use Rattle.js_tree.specs.declared.tree.UpdateOp.TheVariants as update
use Rattle.js_tree.specs.declared.tree.UpdateSide.TheVariants as side
use Rattle.js_tree.specs.Targets.{Node, target_of}
use Rattle.js_grammar.specs.Marks.{Form, one, unbroken, sign, just}
use Rattle.js_grammar.specs.Grammar.{name, arrow_sign, binary_sign, update_sign, assign_sign}
use Rattle.js_grammar.specs.Shapes.{strength}
use Rattle.js_parse_core.specs.declared.machine.At.TheVariants as at
use Rattle.js_parse_core.specs.declared.machine.Callee.TheVariants as callee
use Rattle.js_parse_core.specs.declared.machine.Frame.{Frame}
use Rattle.js_parse_core.specs.declared.machine.Frame.TheVariants as frame
use Rattle.js_parse_core.specs.declared.machine.Open.{Open}
use Rattle.js_parse_core.specs.declared.machine.Operator.TheVariants as operator
use Rattle.js_parse_core.specs.declared.machine.Outer.{Outer}
use Rattle.js_parse_core.specs.declared.machine.Position.{Position}
use Rattle.js_parse_core.specs.declared.machine.Position.TheVariants as positions
use Rattle.js_parse_core.specs.declared.machine.Purpose.TheVariants as purpose
use Rattle.js_parse_core.specs.declared.machine.Tail.TheVariants as tail
use Rattle.js_parse_core.specs.Outer.{to, framed, first_frame, without, position, is_whole, wait, wait_operand, constructs, plus}
use Rattle.js_parse_core.specs.Values.{Over, Folded, fold, fold_tails, binary_op, are_mixed, logic_of, outermost, waiting, on_frame, on_over, on_folded, after_whole, joins, joins_folded, binary_behind, on_binary, tests, no_binary, after_operator, after_sign, after_value}
use Rattle.js_parse_core.specs.Expressions.{assign_op, assign_to, on_assign, update_of, update_at, on_update, arrow_of, arrow_behind, perhaps_assign, operand_sign, operand_kind, after_operand}
use Rattle.js_parse_core.proofs.Bare.{arrow_names, expr_forms, expr_name, expr_update_behind}
use Rattle.js_parse_core.proofs.Spelled.{argument_front, operator_front, tail_front, purpose_front, front, is_line, lined, spell, whole_items}
use Rattle.js_parse_core.proofs.SpelledLemmas.{Filled, filled_cons, filled_expr}
use Rattle.js_parse_core.proofs.Grows.{shows_sign, shows_line_sign, Grows, adds_in, adds_same, grows_cond, grows_same}
use Rattle.js_parse_core.proofs.ArrowForms.{bare_parameter}
use Rattle.js_parse_core.proofs.SoundFolds.{TargetSame, target_same, node_is, FoldSame, fold_same, fold_tails_same}
use Rattle.js_parse_core.proofs.SoundValues.{inside, value_grows}

-- ---- a value is whole

frame_grows : (o : Outer) (fs : List Open) (f : Frame) (x : Expr) (t : Token) → Grows (whole_items o.items ++ spell fs (lined (is_line f) (front fs f) (expr_forms x))) t (on_frame false (framed o fs) x t (Some f))
frame_grows o fs (frame.Purpose w) x t = value_grows (framed o fs) w x t
frame_grows o fs _ x t = tt

over_grows : (o : Outer) (fs : List Open) (x : Expr) (t : Token) → Grows (whole_items o.items ++ spell fs (expr_forms x)) t (on_frame false (without (framed o fs)) x t (first_frame fs))
over_grows o [] x t = tt
over_grows o (f ∷ fs) x t = frame_grows o fs f.frame x t

folded_grows : (o : Outer) (z : List Form) (t : Token) (f : Folded) → FoldSame z f → Grows (whole_items o.items ++ z) t (on_folded false o t f)
folded_grows o z t (Ok v) e =
    grows_same _ _ t (on_over false o t (fold_tails v.frames v.value)) (ap (λ (y : List Form). whole_items o.items ++ y) (sym (fold_tails_same v.frames v.value ∙ e)))
    (over_grows o (fold_tails v.frames v.value).frames (fold_tails v.frames v.value).value t)
folded_grows o z t (Err k) e = tt

pub whole_grows : (o : Outer) (x : Expr) (t : Token) → Grows (inside o (expr_forms x)) t (after_whole false o x t)
whole_grows o x t = folded_grows o (spell o.frames (expr_forms x)) t (fold 0 o.frames x) (fold_same 0 o.frames x)

-- ---- a binary operator, or `?`

joins_grows : (o : Outer) (x : BinaryOp) (n : ℕ) (t : Token) (v : Over) → t.kind ≡ tok.Punctuator (binary_sign x) → Grows (whole_items o.items ++ spell v.frames (expr_forms v.value)) t (joins false o x n t v)
joins_grows o x n t v e =
    grows_cond _ t (are_mixed (logic_of x) (outermost v.value) || are_mixed (logic_of x) (waiting (framed o v.frames))) (after_whole false (framed o v.frames) v.value t) (wait_operand (framed o v.frames) (plus n 1) (operator.Binary v.value x))
    (λ h. whole_grows (framed o v.frames) v.value t)
    (λ h. adds_same o.items v.frames (expr_forms v.value) (operator_front (operator.Binary v.value x)) (just (binary_sign x)) t (filled_expr v.value) refl (shows_sign (binary_sign x) t e))

joins_folded_grows : (o : Outer) (x : BinaryOp) (n : ℕ) (t : Token) (z : List Form) (f : Folded) → t.kind ≡ tok.Punctuator (binary_sign x) → FoldSame z f → Grows (whole_items o.items ++ z) t (joins_folded false o x n t f)
joins_folded_grows o x n t z (Ok v) e h = grows_same _ _ t (joins false o x n t v) (ap (λ (y : List Form). whole_items o.items ++ y) (sym h)) (joins_grows o x n t v e)
joins_folded_grows o x n t z (Err k) e h = tt

binary_behind_grows : (o : Outer) (x : BinaryOp) (t : Token) (z : List Form) (f : Folded) → t.kind ≡ tok.Punctuator (binary_sign x) → FoldSame z f → Grows (whole_items o.items ++ z) t (binary_behind false o x t f)
binary_behind_grows o x t z (Ok v) e h =
    grows_same _ _ t (joins_folded false o x (constructs (framed o v.frames)) t (fold (strength x) v.frames v.value)) (ap (λ (y : List Form). whole_items o.items ++ y) (sym h))
    (joins_folded_grows o x (constructs (framed o v.frames)) t (spell v.frames (expr_forms v.value)) (fold (strength x) v.frames v.value) e (fold_same (strength x) v.frames v.value))
binary_behind_grows o x t z (Err k) e h = tt

binary_grows : (o : Outer) (x : BinaryOp) (y : Expr) (t : Token) → t.kind ≡ tok.Punctuator (binary_sign x) → Grows (inside o (expr_forms y)) t (on_binary false o x y t)
binary_grows o x y t e = binary_behind_grows o x t (spell o.frames (expr_forms y)) (fold 7 o.frames y) e (fold_same 7 o.frames y)

tests_grows : (o : Outer) (t : Token) (z : List Form) (f : Folded) → t.kind ≡ tok.Punctuator p.Question → FoldSame z f → Grows (whole_items o.items ++ z) t (tests o f)
tests_grows o t z (Ok v) e h =
    grows_same _ _ t (wait (framed o v.frames) 1 (purpose.Then v.value)) (ap (λ (y : List Form). whole_items o.items ++ y) (sym h))
    (adds_same o.items v.frames (expr_forms v.value) (purpose_front (purpose.Then v.value)) (just p.Question) t (filled_expr v.value) refl (shows_sign p.Question t e))
tests_grows o t z (Err k) e h = tt

no_binary_grows : (o : Outer) (x : Expr) (t : Token) (s : Punctuator) → t.kind ≡ tok.Punctuator s → Grows (inside o (expr_forms x)) t (no_binary false o x t s)
no_binary_grows o x t p.Question e = tests_grows o t (spell o.frames (expr_forms x)) (fold 1 o.frames x) e (fold_same 1 o.frames x)
no_binary_grows o x t _ e = whole_grows o x t

abbrev pub IsBinary : Punctuator → Option BinaryOp → Type 0
IsBinary s (Some x) = s ≡ binary_sign x
IsBinary s None = Unit {0}

pub binary_is : (s : Punctuator) → IsBinary s (binary_op s)
binary_is p.QuestionQuestion = refl
binary_is p.OrOr = refl
binary_is p.AndAnd = refl
binary_is p.Identical = refl
binary_is p.NotIdentical = refl
binary_is p.Less = refl
binary_is p.LessEqual = refl
binary_is p.Greater = refl
binary_is p.GreaterEqual = refl
binary_is p.Plus = refl
binary_is p.Minus = refl
binary_is p.Star = refl
binary_is p.Slash = refl
binary_is p.Percent = refl
binary_is _ = tt

operator_grows : (o : Outer) (x : Expr) (t : Token) (s : Punctuator) (b : Option BinaryOp) → t.kind ≡ tok.Punctuator s → IsBinary s b → Grows (inside o (expr_forms x)) t (after_operator false o x t s b)
operator_grows o x t s (Some b) e h = binary_grows o b x t (e ∙ ap tok.Punctuator h)
operator_grows o x t s None e h = no_binary_grows o x t s e

sign_grows : (o : Outer) (x : Expr) (t : Token) (k : TokenKind) → t.kind ≡ k → Grows (inside o (expr_forms x)) t (after_sign false o x t k)
sign_grows o x t (tok.Punctuator s) e = operator_grows o x t s (binary_op s) e (binary_is s)
sign_grows o x t _ e = whole_grows o x t

pub after_value_grows : (o : Outer) (x : Expr) (t : Token) → Grows (inside o (expr_forms x)) t (after_value false o x t)
after_value_grows o x t = sign_grows o x t t.kind refl

-- ---- an operator that writes, a call or a member

assign_to_grows : (o : Outer) (x : AssignOp) (z : List Form) (t : Token) (r : Result Target Expr) → t.kind ≡ tok.Punctuator (assign_sign x) → Filled z → TargetSame z r → Grows (inside o z) t (assign_to false o x t r)
assign_to_grows o x z t (Ok target) e s h = adds_same o.items o.frames z (tail_front (tail.Assign x target)) (just (assign_sign x)) t s (ap (λ (y : List Form). y ++ just (assign_sign x) ∷ []) (sym h)) (shows_sign (assign_sign x) t e)
assign_to_grows o x z t (Err y) e s h = grows_same _ _ t (after_whole false o y t) (ap (inside o) (sym h)) (whole_grows o y t)

assign_grows : (o : Outer) (x : AssignOp) (y : Expr) (t : Token) → t.kind ≡ tok.Punctuator (assign_sign x) → Grows (inside o (expr_forms y)) t (on_assign false o x y t)
assign_grows o x y t e =
    grows_cond _ t (is_whole o) (assign_to false o x t (target_of y)) (after_whole false o y t)
    (λ h. assign_to_grows o x (expr_forms y) t (target_of y) e (filled_expr y) (target_same y)) (λ h. whole_grows o y t)

update_of_grows : (o : Outer) (x : UpdateOp) (z : List Form) (t : Token) (r : Result Target Expr) → t.kind ≡ tok.Punctuator (update_sign x) → t.after_line_end ≡ false → Filled z → TargetSame z r → Grows (inside o z) t (update_of false o x t r)
update_of_grows o x z t (Ok target) e l s h =
    adds_same o.items o.frames z (expr_forms (expr.Update side.Behind x target)) (one (unbroken (sign (update_sign x)))) t s
    (ap (λ (y : List Form). y ++ one (unbroken (sign (update_sign x))) ∷ []) (sym h) ∙ sym (expr_update_behind x target)) (shows_line_sign (update_sign x) t e l)
update_of_grows o x z t (Err y) e l s h = grows_same _ _ t (after_whole false o y t) (ap (inside o) (sym h)) (whole_grows o y t)

update_at_grows : (o : Outer) (x : UpdateOp) (y : Expr) (t : Token) (q : Position) → t.kind ≡ tok.Punctuator (update_sign x) → t.after_line_end ≡ false → Grows (inside o (expr_forms y)) t (update_at false o x y t q)
update_at_grows o x y t positions.Target e l = whole_grows o y t
update_at_grows o x y t positions.Whole e l = update_of_grows o x (expr_forms y) t (target_of y) e l (filled_expr y) (target_same y)
update_at_grows o x y t positions.Operand e l = update_of_grows o x (expr_forms y) t (target_of y) e l (filled_expr y) (target_same y)

update_grows : (o : Outer) (x : UpdateOp) (y : Expr) (t : Token) → t.kind ≡ tok.Punctuator (update_sign x) → Grows (inside o (expr_forms y)) t (on_update false o x y t)
update_grows o x y t e =
    grows_cond _ t t.after_line_end (after_whole false o y t) (update_at false o x y t (position o))
    (λ h. whole_grows o y t) (λ h. update_at_grows o x y t (position o) e h)

-- ---- a name that is a parameter

arrow_of_grows : (o : Outer) (y : Expr) (t : Token) (x : Node) → out-Expr y ≡ x → t.kind ≡ tok.Punctuator p.Arrow → t.after_line_end ≡ false → Grows (inside o (expr_forms y)) t (arrow_of false o y t x)
arrow_of_grows o y t (Expr-F.Name n) h e l =
    grows_same _ _ t (to o (at.ArrowBody false (n ∷ []))) (ap (inside o) (ap expr_forms (node_is y _ h ∙ expr.rolls-Name n) ∙ expr_name n))
    (adds_in o.items o.frames (name n ∷ []) (arrow_names (n ∷ []) ++ arrow_sign ∷ []) arrow_sign t (filled_cons _ _) (bare_parameter n (arrow_sign ∷ [])) (shows_line_sign p.Arrow t e l))
arrow_of_grows o y t _ h e l = whole_grows o y t

arrow_behind_grows : (o : Outer) (y : Expr) (t : Token) → t.kind ≡ tok.Punctuator p.Arrow → Grows (inside o (expr_forms y)) t (arrow_behind false o y t)
arrow_behind_grows o y t e =
    grows_cond _ t (t.after_line_end || not (is_whole o)) (after_whole false o y t) (arrow_of false o y t (out-Expr y))
    (λ h. whole_grows o y t) (λ h. arrow_of_grows o y t (out-Expr y) refl e (or_parts t.after_line_end (not (is_whole o)) h).0)

abbrev pub IsAssign : Punctuator → Option AssignOp → Type 0
IsAssign s (Some x) = s ≡ assign_sign x
IsAssign s None = Unit {0}

pub assign_is : (s : Punctuator) → IsAssign s (assign_op s)
assign_is p.Equal = refl
assign_is p.PlusEqual = refl
assign_is p.MinusEqual = refl
assign_is _ = tt

perhaps_assign_grows : (o : Outer) (y : Expr) (t : Token) (s : Punctuator) (b : Option AssignOp) → t.kind ≡ tok.Punctuator s → IsAssign s b → Grows (inside o (expr_forms y)) t (perhaps_assign false o y t b)
perhaps_assign_grows o y t s (Some x) e h = assign_grows o x y t (e ∙ ap tok.Punctuator h)
perhaps_assign_grows o y t s None e h = after_value_grows o y t

operand_sign_grows : (o : Outer) (y : Expr) (n : ℕ) (t : Token) (s : Punctuator) → t.kind ≡ tok.Punctuator s → Grows (inside o (expr_forms y)) t (operand_sign false o y n t s)
operand_sign_grows o y n t p.Dot e = adds_same o.items o.frames (expr_forms y) (expr_forms y ++ just p.Dot ∷ []) (just p.Dot) t (filled_expr y) refl (shows_sign p.Dot t e)
operand_sign_grows o y n t p.OpenParen e = adds_same o.items o.frames (expr_forms y) (argument_front (callee.Value y n) []) (just p.OpenParen) t (filled_expr y) refl (shows_sign p.OpenParen t e)
operand_sign_grows o y n t p.OpenBracket e = adds_same o.items o.frames (expr_forms y) (purpose_front (purpose.Index y n)) (just p.OpenBracket) t (filled_expr y) refl (shows_sign p.OpenBracket t e)
operand_sign_grows o y n t p.PlusPlus e = update_grows o update.Increment y t e
operand_sign_grows o y n t p.MinusMinus e = update_grows o update.Decrement y t e
operand_sign_grows o y n t p.Arrow e = arrow_behind_grows o y t e
operand_sign_grows o y n t s e = perhaps_assign_grows o y t s (assign_op s) e (assign_is s)

operand_kind_grows : (o : Outer) (y : Expr) (n : ℕ) (t : Token) (k : TokenKind) → t.kind ≡ k → Grows (inside o (expr_forms y)) t (operand_kind false o y n t k)
operand_kind_grows o y n t (tok.Punctuator s) e = operand_sign_grows o y n t s e
operand_kind_grows o y n t _ e = whole_grows o y t

pub operand_grows : (o : Outer) (y : Expr) (n : ℕ) (t : Token) → Grows (inside o (expr_forms y)) t (after_operand false o y n t)
operand_grows o y n t = operand_kind_grows o y n t t.kind refl
