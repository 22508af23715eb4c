-- Each step stores the counts of what it has read.
use Rattle.js_grammar.specs.Shapes.{strength}
use Rattle.js_lex.specs.declared.token.Punctuator.{Punctuator}
use Rattle.js_lex.specs.declared.token.Token.{Token}
use Rattle.js_lex.specs.declared.token.TokenKind.{TokenKind}
use Rattle.js_parse_core.specs.Expressions.{after_operand, assign_op, assign_to, update_of, update_at, on_update, arrow_of, perhaps_assign, operand_sign, operand_kind}
use Rattle.js_parse_core.specs.Objects.{close_object, is_export, export}
use Rattle.js_parse_core.specs.Outer.{to, framed, opened, push, plus, constructs, wait, wait_body, complete, refuse_at, without, first_frame, is_whole, innermost, wait_operand, wait_tail, position, complete_body, complete_frame, complete_in, settle_frame, settle_in}
use Rattle.js_parse_core.specs.Tokens.{is_close_paren, is_close_bracket, is_comma, is_semicolon, is_colon}
use Rattle.js_parse_core.specs.Values.{Over, Folded, fold, fold_tails, binary_op, are_mixed, logic_of, outermost, waiting, on_frame, on_folded, after_whole, joins, joins_folded, binary_behind, tests, no_binary, after_operator, after_sign, after_value, call, on_argument_end, on_element_end, on_pair_end, on_hole_end, on_initial_done, on_initial_end, on_head_end, on_part_end, on_value}
use Rattle.js_parse_core.specs.declared.machine.At.{At}
use Rattle.js_parse_core.specs.declared.machine.Body.{Body}
use Rattle.js_parse_core.specs.declared.machine.Callee.{Callee}
use Rattle.js_parse_core.specs.declared.machine.Declared.{Declared}
use Rattle.js_parse_core.specs.declared.machine.Frame.{Frame}
use Rattle.js_parse_core.specs.declared.machine.Open.{Open}
use Rattle.js_parse_core.specs.declared.machine.Outer.{Outer}
use Rattle.js_parse_core.specs.declared.machine.Position.{Position}
use Rattle.js_parse_core.specs.declared.machine.Purpose.{Purpose}
use Rattle.js_parse_core.specs.declared.machine.Refusal.{Refusal}
use Rattle.js_parse_core.specs.declared.machine.Tail.{Tail}
use Rattle.js_tree.specs.Targets.{Node, target_of}
use Rattle.js_tree.specs.declared.tree.ArrowBody.TheOpen.{Expr-F}
use Rattle.js_tree.specs.declared.tree.AssignOp.{AssignOp}
use Rattle.js_tree.specs.declared.tree.BinaryOp.{BinaryOp}
use Rattle.js_tree.specs.declared.tree.Expr.{Expr, out-Expr}
use Rattle.js_tree.specs.declared.tree.Property.{Property}
use Rattle.js_tree.specs.declared.tree.Stmt.{Stmt}
use Rattle.js_tree.specs.declared.tree.Target.{Target}
use Rattle.js_tree.specs.declared.tree.TemplateItem.{TemplateItem}
use Rattle.js_tree.specs.declared.tree.UpdateOp.{UpdateOp}
use Rattle.std.proofs.Common.{◌≡◌, ℕ, ◌+◌, Bool, true, false, List, [], ◌∷◌, Option, Some, None, refl, sym, ◌∙◌, ap, arith, Ok, Err}
use Rattle.js_lex.specs.declared.token.Punctuator.TheVariants as p
use Rattle.js_lex.specs.declared.token.TemplatePart.TheVariants as part
use Rattle.js_lex.specs.declared.token.TokenKind.TheVariants as tok
use Rattle.js_parse_core.specs.Statements.{end as end_of}
use Rattle.js_parse_core.specs.Statements.{ends_statement}
use Rattle.js_parse_core.specs.declared.machine.At.TheVariants as at
use Rattle.js_parse_core.specs.declared.machine.Body.TheVariants as body
use Rattle.js_parse_core.specs.declared.machine.Callee.TheVariants as callee
use Rattle.js_parse_core.specs.declared.machine.Frame.TheVariants as frame
use Rattle.js_parse_core.specs.declared.machine.Operator.TheVariants as operator
use Rattle.js_parse_core.specs.declared.machine.Position.TheVariants as positions
use Rattle.js_parse_core.specs.declared.machine.Purpose.TheVariants as purpose
use Rattle.js_parse_core.specs.declared.machine.Tail.TheVariants as tail
use Rattle.js_tree.specs.declared.tree.Expr.TheVariants as expr
use Rattle.js_tree.specs.declared.tree.ForBegin.TheVariants as for_begin
use Rattle.js_tree.specs.declared.tree.UpdateOp.TheVariants as update
use Rattle.js_tree.specs.declared.tree.UpdateSide.TheVariants as side
use Rattle.js_words.specs.declared.word.Spot.TheVariants as spot
use Rattle.std.specs.Prelude.{Result, ◌||◌, not, drop}
use Rattle.js_parse_core.specs.Begin.{begin}
use Rattle.js_parse_core.proofs.CountedForms.{accesses, operators, accesses_call, accesses_index}
use Rattle.js_parse_core.proofs.CountedSpelled.{levels}
use Rattle.js_parse_core.proofs.CountedChains.{plain_template, plain_array, plain_object, plain_group, plain_new}
use Rattle.js_parse_core.proofs.Stored.{Stores, stores_more, stores_is, is_prefix, CalleeStored, FrameStored, AllStored, count_stores, Here, AtStored, StoredStep, stored_cond, pushed, one_more, access_stores, operand_stored, begin_stored, Ended, ended_fold, Joined, joined_fold, Kept, kept_fold, kept_tails, flat_template, flat_array, flat_object, flat_group, flat_update, flat_new, flat_call, flat_index}

pub stays : (o : Outer) (a : At) → Here o → AtStored a → StoredStep (to o a)
stays o a h k = record { frames = h; here = k }

pub waits : (o : Outer) (w : Purpose) → Here o → levels (opened 0 (frame.Purpose w) ∷ o.frames) ≡ levels o.frames + 1 → FrameStored o.frames (frame.Purpose w) → StoredStep (wait o 1 w)
waits o w h e k = record { frames = pushed o (frame.Purpose w) (plus (constructs o) 1) h (stores_is _ _ _ (sym e) (one_more o h)) k; here = tt }

pub bodies : (o : Outer) (b : Body) → Here o → StoredStep (wait_body o b)
bodies o b h = record { frames = pushed o (frame.Body b) (plus (constructs o) 1) h (one_more o h) tt; here = tt }

pub tails : (o : Outer) (x : Tail) → Here o → StoredStep (wait_tail o x)
tails o x h = record { frames = pushed o (frame.Tail x) (plus (constructs o) 1) h (one_more o h) tt; here = tt }

-- what a value begins in
pub within : (o : Outer) (m : ℕ) (w : Purpose) (t : Token) → Here o → Stores (plus (constructs o) m) (levels (opened 0 (frame.Purpose w) ∷ o.frames)) → FrameStored o.frames (frame.Purpose w) → StoredStep (begin (push o m (frame.Purpose w)) t)
within o m w t h s k = begin_stored (push o m (frame.Purpose w)) t (pushed o (frame.Purpose w) (plus (constructs o) m) h s k)

pub dropped : (fs : List Open) → AllStored fs → AllStored (drop 1 fs)
dropped [] h = tt
dropped (f ∷ fs) h = h.2

-- ---- statements that are whole

complete_in_stored : (o : Outer) (fs : List Open) (s : Stmt) → AllStored fs → StoredStep (complete_in o fs s)
complete_in_stored o [] s h = record { frames = tt; here = tt }
complete_in_stored o (f ∷ fs) s h = in_frame f.constructs f.frame h (λ u. complete_in_stored o fs u h.2)
  where
    in_body_of : (b : Body) → ((u : Stmt) → StoredStep (complete_in o fs u)) → StoredStep (complete_body (framed o fs) b s (λ u. complete_in o fs u))
    in_body_of (body.Then test) go = record { frames = h.2; here = tt }
    in_body_of (body.Else test a) go = go _
    in_body_of (body.For b test u) go = go _
    in_body_of (body.ForOf k n x) go = go _
    in_body_of (body.While test) go = go _

    in_frame : (n : ℕ) (g : Frame) → AllStored (opened n g ∷ fs) → ((u : Stmt) → StoredStep (complete_in o fs u)) → StoredStep (complete_frame (framed o fs) n g s (λ u. complete_in o fs u))
    in_frame n (frame.Block b ss) k go = record { frames = (k.0, k.1, k.2); here = tt }
    in_frame n (frame.Body b) k go = in_body_of b go
    in_frame n _ k go = tt

pub complete_stored : (o : Outer) (s : Stmt) → Here o → StoredStep (complete o s)
complete_stored o s h = complete_in_stored o o.frames s h

pub settle_in_stored : (o : Outer) (fs : List Open) (s : Stmt) → AllStored fs → StoredStep (settle_in o fs s)
settle_in_stored o [] s h = record { frames = tt; here = tt }
settle_in_stored o (f ∷ fs) s h = in_frame f.constructs f.frame h (λ u. settle_in_stored o fs u h.2)
  where
    in_frame : (n : ℕ) (g : Frame) → AllStored (opened n g ∷ fs) → ((u : Stmt) → StoredStep (settle_in o fs u)) → StoredStep (settle_frame (framed o fs) n g s (λ u. settle_in o fs u))
    in_frame n (frame.Block b ss) k go = record { frames = (k.0, k.1, k.2); here = tt }
    in_frame n (frame.Body b) k go = go _
    in_frame n _ k go = tt

pub end_stored : (o : Outer) (s : Stmt) (t : Token) (k : Refusal) → Here o → StoredStep (end_of false o s t k)
end_stored o s t k h = stored_cond (ends_statement false t.kind) (complete o s) (Err k) (complete_stored o s h) tt

-- ---- values

pub object_stored : (o : Outer) (xs : List Property) → Here o → StoredStep (close_object o xs)
object_stored o xs h = stored_cond (is_export (innermost o)) (export (without o) xs) (to o (at.Operand (expr.Object xs) 0)) (record { frames = dropped o.frames h; here = tt }) (operand_stored o (expr.Object xs) h (plain_object xs) (flat_object xs))

pub call_stored : (o : Outer) (c : Callee) (xs : List Expr) → Here o → CalleeStored c → StoredStep (call o c xs)
call_stored o (callee.Value x n) xs h k = record { frames = h; here = (stores_is _ _ _ (sym (accesses_call x xs)) (stores_more n (accesses x) 1 k), flat_call x xs) }
call_stored o (callee.New n) xs h k = operand_stored o (expr.New n xs) h (plain_new n xs) (flat_new n xs)

argument_end_stored : (o : Outer) (c : Callee) (xs : List Expr) (k : TokenKind) → Here o → CalleeStored c → StoredStep (on_argument_end o c xs k)
argument_end_stored o c xs (tok.Punctuator p.Comma) h s = stays o (at.NextArgument c xs) h s
argument_end_stored o c xs (tok.Punctuator p.CloseParen) h s = call_stored o c xs h s
argument_end_stored o c xs _ h s = tt

element_end_stored : (o : Outer) (xs : List Expr) (k : TokenKind) → Here o → StoredStep (on_element_end o xs k)
element_end_stored o xs (tok.Punctuator p.Comma) h = stays o (at.NextElement xs) h tt
element_end_stored o xs (tok.Punctuator p.CloseBracket) h = operand_stored o (expr.Array xs) h (plain_array xs) (flat_array xs)
element_end_stored o xs _ h = tt

pair_end_stored : (o : Outer) (xs : List Property) (k : TokenKind) → Here o → StoredStep (on_pair_end o xs k)
pair_end_stored o xs (tok.Punctuator p.Comma) h = stays o (at.Key xs) h tt
pair_end_stored o xs (tok.Punctuator p.CloseBrace) h = object_stored o xs h
pair_end_stored o xs _ h = tt

hole_end_stored : (o : Outer) (is : List TemplateItem) (k : TokenKind) → Here o → StoredStep (on_hole_end o is k)
hole_end_stored o is (tok.Template part.Middle u) h = waits o (purpose.Hole is u) h refl tt
hole_end_stored o is (tok.Template part.Tail u) h = operand_stored o (expr.Template is u) h (plain_template is u) (flat_template is u)
hole_end_stored o is _ h = tt

part_end_stored : (o : Outer) (a : At) (b : Bool) → StoredStep (to o a) → StoredStep (on_part_end o a b)
part_end_stored o a true h = h
part_end_stored o a false h = tt

head_end_stored : (o : Outer) (b : Body) (t : Token) → Here o → StoredStep (on_head_end o b t)
head_end_stored o b t h = stored_cond (is_close_paren t.kind) (wait_body o b) (refuse_at spot.OperandEnd) (bodies o b h) tt

pub initial_done_stored : (o : Outer) (d : Declared) (t : Token) (b : Bool) → Here o → StoredStep (on_initial_done false o d t b)
initial_done_stored o d t false h = end_stored o _ t _ h
initial_done_stored o d t true h = stored_cond (is_semicolon t.kind) (to o (at.ForTest (for_begin.Declarations d.kind d.declarations))) (refuse_at spot.OperandEnd) (stays o _ h tt) tt

initial_end_stored : (o : Outer) (d : Declared) (t : Token) → Here o → StoredStep (on_initial_end false o d t)
initial_end_stored o d t h = stored_cond (is_comma t.kind) (to o (at.DeclaredName d)) (on_initial_done false o d t d.in_for) (stays o _ h tt) (initial_done_stored o d t d.in_for h)

value_stored : (o : Outer) (w : Purpose) (x : Expr) (t : Token) → Here o → FrameStored o.frames (frame.Purpose w) → StoredStep (on_value false o w x t)
value_stored o (purpose.Then test) x t h k = stored_cond (is_colon t.kind) (wait_tail o (tail.Else test x)) (refuse_at spot.OperandEnd) (tails o (tail.Else test x) h) tt
value_stored o purpose.Group x t h k = part_end_stored o (at.Operand (expr.Group x) 0) (is_close_paren t.kind) (operand_stored o (expr.Group x) h (plain_group x) (flat_group x))
value_stored o (purpose.Argument c xs) x t h k = argument_end_stored o c _ t.kind h k
value_stored o (purpose.Index y n) x t h k = part_end_stored o (at.Operand (expr.Index y x) (plus n 1)) (is_close_bracket t.kind) (record { frames = h; here = (stores_is _ _ _ (sym (accesses_index y x)) (stores_more n (accesses y) 1 k), flat_index y x) })
value_stored o (purpose.Element xs) x t h k = element_end_stored o _ t.kind h
value_stored o (purpose.Pair xs key) x t h k = pair_end_stored o _ t.kind h
value_stored o (purpose.Hole is u) x t h k = hole_end_stored o _ t.kind h
value_stored o purpose.If x t h k = head_end_stored o (body.Then x) t h
value_stored o purpose.While x t h k = head_end_stored o (body.While x) t h
value_stored o (purpose.ForOf q n) x t h k = head_end_stored o (body.ForOf q n x) t h
value_stored o (purpose.ForUpdate b test) x t h k = head_end_stored o (body.For b test (Some x)) t h
value_stored o purpose.ForStart x t h k = part_end_stored o (at.ForTest (for_begin.Start x)) (is_semicolon t.kind) (stays o _ h tt)
value_stored o (purpose.ForTest b) x t h k = part_end_stored o (at.ForUpdate b (Some x)) (is_semicolon t.kind) (stays o _ h tt)
value_stored o purpose.Statement x t h k = end_stored o _ t _ h
value_stored o (purpose.Initial d n) x t h k = initial_end_stored o _ t h
value_stored o (purpose.Return q) x t h k = end_stored o _ t _ h
value_stored o purpose.Throw x t h k = end_stored o _ t _ h

over_stored : (o : Outer) (fs : List Open) (x : Expr) (t : Token) → AllStored fs → StoredStep (on_frame false (without (framed o fs)) x t (first_frame fs))
over_stored o [] x t h = tt
over_stored o (f ∷ fs) x t h = in_frame f.frame h.1
  where
    in_frame : (g : Frame) → FrameStored fs g → StoredStep (on_frame false (framed o fs) x t (Some g))
    in_frame (frame.Purpose w) k = value_stored (framed o fs) w x t h.2 k
    in_frame _ k = tt

folded_stored : (o : Outer) (t : Token) (f : Folded) → Kept f → StoredStep (on_folded false o t f)
folded_stored o t (Ok v) h = over_stored o (fold_tails v.frames v.value).frames (fold_tails v.frames v.value).value t (kept_tails v.frames v.value h)
folded_stored o t (Err k) h = tt

pub whole_stored : (o : Outer) (x : Expr) (t : Token) → Here o → StoredStep (after_whole false o x t)
whole_stored o x t h = folded_stored o t (fold 0 o.frames x) (kept_fold 0 o.frames x h)

joins_stored : (o : Outer) (x : BinaryOp) (n m : ℕ) (t : Token) (v : Over) → Stores n m → AllStored v.frames → levels v.frames + operators v.value ≡ m → is_prefix (first_frame v.frames) ≡ false → StoredStep (joins false o x n t v)
joins_stored o x n m t v s h e k =
    stored_cond (are_mixed (logic_of x) (outermost v.value) || are_mixed (logic_of x) (waiting (framed o v.frames))) (after_whole false (framed o v.frames) v.value t) (wait_operand (framed o v.frames) (plus n 1) (operator.Binary v.value x))
    (whole_stored (framed o v.frames) v.value t h)
    (record { frames = pushed (framed o v.frames) (frame.Operator (operator.Binary v.value x)) (plus n 1) h (stores_is _ _ _ (ap (λ (z : ℕ). z + 1) (sym e) ∙ assoc (levels v.frames) (operators v.value)) (stores_more n m 1 s)) k; here = tt })
  where
    assoc : (a b : ℕ) → (a + b) + 1 ≡ a + (b + 1)
    assoc a b = omega arith

joins_folded_stored : (o : Outer) (x : BinaryOp) (n m : ℕ) (t : Token) (f : Folded) → Stores n m → Joined m f → StoredStep (joins_folded false o x n t f)
joins_folded_stored o x n m t (Ok v) s j = joins_stored o x n m t v s j.0 j.1 j.2
joins_folded_stored o x n m t (Err k) s j = tt

binary_behind_stored : (o : Outer) (x : BinaryOp) (t : Token) (f : Folded) → Ended f → StoredStep (binary_behind false o x t f)
binary_behind_stored o x t (Ok v) e =
    joins_folded_stored o x (constructs (framed o v.frames)) (levels v.frames) t (fold (strength x) v.frames v.value) (count_stores v.frames e.0)
    (joined_fold (strength x) v.frames v.value (levels v.frames) e.0 e.2 (ap (λ (z : ℕ). levels v.frames + z) e.1 ∙ none (levels v.frames)))
  where
    none : (a : ℕ) → a + 0 ≡ a
    none a = omega arith
binary_behind_stored o x t (Err k) e = tt

tests_stored : (o : Outer) (f : Folded) → Kept f → StoredStep (tests o f)
tests_stored o (Ok v) h = waits (framed o v.frames) (purpose.Then v.value) h refl tt
tests_stored o (Err k) h = tt

no_binary_stored : (o : Outer) (x : Expr) (t : Token) (s : Punctuator) → Here o → StoredStep (no_binary false o x t s)
no_binary_stored o x t p.Question h = tests_stored o (fold 1 o.frames x) (kept_fold 1 o.frames x h)
no_binary_stored o x t _ h = whole_stored o x t h

operator_stored : (o : Outer) (x : Expr) (t : Token) (s : Punctuator) (b : Option BinaryOp) → Here o → operators x ≡ 0 → StoredStep (after_operator false o x t s b)
operator_stored o x t s (Some b) h e = binary_behind_stored o b t (fold 7 o.frames x) (ended_fold o.frames x h e)
operator_stored o x t s None h e = no_binary_stored o x t s h

pub after_value_stored : (o : Outer) (x : Expr) (t : Token) → Here o → operators x ≡ 0 → StoredStep (after_value false o x t)
after_value_stored o x t h e = in_kind t.kind
  where
    in_kind : (k : TokenKind) → StoredStep (after_sign false o x t k)
    in_kind (tok.Punctuator s) = operator_stored o x t s (binary_op s) h e
    in_kind _ = whole_stored o x t h

-- ---- operands

assign_to_stored : (o : Outer) (x : AssignOp) (t : Token) (r : Result Target Expr) → Here o → StoredStep (assign_to false o x t r)
assign_to_stored o x t (Ok target) h = tails o (tail.Assign x target) h
assign_to_stored o x t (Err y) h = whole_stored o y t h

update_of_stored : (o : Outer) (x : UpdateOp) (t : Token) (r : Result Target Expr) → Here o → StoredStep (update_of false o x t r)
update_of_stored o x t (Ok target) h = stays o (at.Updated (expr.Update side.Behind x target)) h (flat_update side.Behind x target)
update_of_stored o x t (Err y) h = whole_stored o y t h

update_at_stored : (o : Outer) (x : UpdateOp) (y : Expr) (t : Token) (q : Position) → Here o → StoredStep (update_at false o x y t q)
update_at_stored o x y t positions.Target h = whole_stored o y t h
update_at_stored o x y t positions.Whole h = update_of_stored o x t (target_of y) h
update_at_stored o x y t positions.Operand h = update_of_stored o x t (target_of y) h

update_stored : (o : Outer) (x : UpdateOp) (y : Expr) (t : Token) → Here o → StoredStep (on_update false o x y t)
update_stored o x y t h = stored_cond t.after_line_end (after_whole false o y t) (update_at false o x y t (position o)) (whole_stored o y t h) (update_at_stored o x y t (position o) h)

arrow_of_stored : (o : Outer) (y : Expr) (t : Token) (x : Node) → Here o → StoredStep (arrow_of false o y t x)
arrow_of_stored o y t (Expr-F.Name n) h = stays o (at.ArrowBody false (n ∷ [])) h tt
arrow_of_stored o y t _ h = whole_stored o y t h

perhaps_assign_stored : (o : Outer) (y : Expr) (t : Token) (b : Option AssignOp) → Here o → operators y ≡ 0 → StoredStep (perhaps_assign false o y t b)
perhaps_assign_stored o y t (Some x) h e = stored_cond (is_whole o) (assign_to false o x t (target_of y)) (after_whole false o y t) (assign_to_stored o x t (target_of y) h) (whole_stored o y t h)
perhaps_assign_stored o y t None h e = after_value_stored o y t h e

operand_sign_stored : (o : Outer) (y : Expr) (n : ℕ) (t : Token) (s : Punctuator) → Here o → Stores n (accesses y) → operators y ≡ 0 → StoredStep (operand_sign false o y n t s)
operand_sign_stored o y n t p.Dot h k e = stays o (at.MemberName y n) h k
operand_sign_stored o y n t p.OpenParen h k e = stays o (at.NextArgument (callee.Value y n) []) h k
operand_sign_stored o y n t p.OpenBracket h k e = record { frames = pushed o (frame.Purpose (purpose.Index y n)) (plus (constructs o) (plus n 1)) h (access_stores o n y h k) k; here = tt }
operand_sign_stored o y n t p.PlusPlus h k e = update_stored o update.Increment y t h
operand_sign_stored o y n t p.MinusMinus h k e = update_stored o update.Decrement y t h
operand_sign_stored o y n t p.Arrow h k e = stored_cond (t.after_line_end || not (is_whole o)) (after_whole false o y t) (arrow_of false o y t (out-Expr y)) (whole_stored o y t h) (arrow_of_stored o y t (out-Expr y) h)
operand_sign_stored o y n t s h k e = perhaps_assign_stored o y t (assign_op s) h e

pub after_operand_stored : (o : Outer) (y : Expr) (n : ℕ) (t : Token) → Here o → Stores n (accesses y) → operators y ≡ 0 → StoredStep (after_operand false o y n t)
after_operand_stored o y n t h k e = in_kind t.kind
  where
    in_kind : (x : TokenKind) → StoredStep (operand_kind false o y n t x)
    in_kind (tok.Punctuator s) = operand_sign_stored o y n t s h k e
    in_kind _ = whole_stored o y t h
