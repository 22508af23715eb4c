-- No step of those behind a value is refused for what is open.

use Rattle.std.specs.Prelude.{ℕ, Bool, true, false, ◌||◌, List, [], ◌∷◌, ◌++◌, Option, Some, None, Result, Ok, Err}
use Rattle.js_lex.specs.declared.token.Punctuator.{Punctuator}
use Rattle.js_lex.specs.declared.token.Punctuator.TheVariants as p
use Rattle.js_lex.specs.declared.token.TemplatePart.TheVariants as part
use Rattle.js_lex.specs.declared.token.TokenKind.{TokenKind}
use Rattle.js_lex.specs.declared.token.TokenKind.TheVariants as tok
use Rattle.js_lex.specs.declared.token.Token.{Token}
use Rattle.js_tree.specs.Targets.{target_of}
use Rattle.js_tree.specs.declared.tree.BinaryOp.{BinaryOp}
use Rattle.js_tree.specs.declared.tree.Expr.{Expr, out-Expr}
use Rattle.js_tree.specs.declared.tree.Expr.TheVariants as expr
use Rattle.js_tree.specs.declared.tree.ForBegin.TheVariants as for_begin
use Rattle.js_tree.specs.declared.tree.Property.{Property}
use Rattle.js_tree.specs.declared.tree.Property.TheVariants as property
use Rattle.js_tree.specs.declared.tree.Stmt.TheVariants as stmt
use Rattle.js_tree.specs.declared.tree.Target.{Target}
use Rattle.js_tree.specs.declared.tree.TemplateItem.{TemplateItem, roll-TemplateItem}
use Rattle.js_tree.specs.declared.tree.UpdateSide.TheVariants as side
use Rattle.js_words.specs.declared.word.Spot.TheVariants as spot
use Rattle.js_parse_core.specs.declared.machine.At.{At}
use Rattle.js_parse_core.specs.declared.machine.At.TheVariants as at
use Rattle.js_parse_core.specs.declared.machine.Body.{Body}
use Rattle.js_parse_core.specs.declared.machine.Body.TheVariants as body
use Rattle.js_parse_core.specs.declared.machine.Callee.{Callee}
use Rattle.js_parse_core.specs.declared.machine.Callee.TheVariants as callee
use Rattle.js_parse_core.specs.declared.machine.Declared.{Declared}
use Rattle.js_parse_core.specs.declared.machine.Frame.{Frame}
use Rattle.js_parse_core.specs.declared.machine.Frame.TheVariants as frame
use Rattle.js_parse_core.specs.declared.machine.Open.{Open}
use Rattle.js_parse_core.specs.declared.machine.Operator.{Operator}
use Rattle.js_parse_core.specs.declared.machine.Operator.TheVariants as operator
use Rattle.js_parse_core.specs.declared.machine.Outer.{Outer}
use Rattle.js_parse_core.specs.declared.machine.Purpose.{Purpose}
use Rattle.js_parse_core.specs.declared.machine.Purpose.TheVariants as purpose
use Rattle.js_parse_core.specs.declared.machine.Refusal.{Refusal}
use Rattle.js_parse_core.specs.declared.machine.Tail.TheVariants as tail
use Rattle.js_parse_core.specs.Outer.{because, refuse_at, to, plus, framed, constructs, innermost, without, wait_operand, wait_tail, wait_body}
use Rattle.js_grammar.specs.Shapes.{strength}
use Rattle.js_parse_core.specs.Statements.{with_declaration}
use Rattle.js_parse_core.specs.Tokens.{is_close_paren, is_close_bracket, is_semicolon, is_comma, is_colon}
use Rattle.js_parse_core.specs.Values.{Folded, after_operator, after_sign, after_value, after_whole, applied, apply, are_mixed, binary_behind, binary_op, call, fold, fold_frame, fold_tails, joins, joins_folded, label_before, logic_of, no_binary, on_argument_end, on_binary, on_element_end, on_folded, on_frame, on_head_end, on_hole_end, on_initial_done, on_initial_end, on_over, on_pair_end, on_part_end, on_statement_end, on_then_end, on_value, operator_binds, outermost, over, tests, updated, waiting, Over}
use Rattle.js_parse_core.proofs.ToldObjects.{told_close_object}
use Rattle.js_parse_core.proofs.ToldStatements.{told_end}
use Rattle.js_parse_core.proofs.Told.{Told, told_cond}

pub told_updated : (found : Result Target Expr) (f : Target → Expr) → Told (updated found f)
told_updated (Ok t) f = tt
told_updated (Err x) f = tt

pub told_apply : (waits : Operator) (x : Expr) → Told (apply waits x)
told_apply (operator.Binary l o) x = tt
told_apply (operator.Unary o) x = tt
told_apply (operator.Await q) x = tt
told_apply (operator.Update o) x = told_updated (target_of x) (λ t. expr.Update side.Before o t)

pub told_applied : (made : Result Expr Refusal) (go : Expr → Folded) → Told made → ((z : Expr) → Told (go z)) → Told (applied made go)
told_applied (Ok x) go told told_too = told_too x
told_applied (Err k) go told told_too = told

pub told_fold_frame : (least : ℕ) (f : Open) (held : Frame) (fs : List Open) (x : Expr) (go : Expr → Folded) → ((z : Expr) → Told (go z)) → Told (fold_frame least f held fs x go)
told_fold_frame least f (frame.Operator o) fs x go told = told_cond (operator_binds least o) (applied (apply o x) go) (over (f ∷ fs) x) (told_applied (apply o x) go (told_apply o x) told) tt
told_fold_frame least f _ fs x go told = tt

pub told_fold : (least : ℕ) (fs : List Open) (x : Expr) → Told (fold least fs x)
told_fold least [] x = tt
told_fold least (f ∷ fs) x = told_fold_frame least f f.frame fs x (λ y. fold least fs y) (λ y. (told_fold least fs y))

pub told_call : (o : Outer) (c : Callee) (xs : List Expr) → Told (call o c xs)
told_call o (callee.Value x n) xs = tt
told_call o (callee.New n) xs = tt

pub told_on_argument_end : (o : Outer) (c : Callee) (xs : List Expr) (kind : TokenKind) → Told (on_argument_end o c xs kind)
told_on_argument_end o c xs (tok.Punctuator p.Comma) = tt
told_on_argument_end o c xs (tok.Punctuator p.CloseParen) = told_call o c xs
told_on_argument_end o c xs _ = tt

pub told_on_element_end : (o : Outer) (xs : List Expr) (kind : TokenKind) → Told (on_element_end o xs kind)
told_on_element_end o xs (tok.Punctuator p.Comma) = tt
told_on_element_end o xs (tok.Punctuator p.CloseBracket) = tt
told_on_element_end o xs _ = tt

pub told_on_pair_end : (o : Outer) (xs : List Property) (kind : TokenKind) → Told (on_pair_end o xs kind)
told_on_pair_end o xs (tok.Punctuator p.Comma) = tt
told_on_pair_end o xs (tok.Punctuator p.CloseBrace) = told_close_object o xs
told_on_pair_end o xs _ = tt

pub told_on_hole_end : (o : Outer) (is : List TemplateItem) (kind : TokenKind) → Told (on_hole_end o is kind)
told_on_hole_end o is (tok.Template part.Middle u) = tt
told_on_hole_end o is (tok.Template part.Tail u) = tt
told_on_hole_end o is _ = tt

pub told_on_statement_end : (auto : Bool) (o : Outer) (x : Expr) (t : Token) → Told (on_statement_end auto o x t)
told_on_statement_end auto o x t = told_end auto o (stmt.Expr x) t (because (label_before (out-Expr x)) (Some spot.OperandEnd)) tt

pub told_on_initial_done : (auto : Bool) (o : Outer) (d : Declared) (t : Token) (yes : Bool) → Told (on_initial_done auto o d t yes)
told_on_initial_done auto o d t false = told_end auto o (stmt.Declare d.kind d.declarations) t (because None (Some spot.OperandEnd)) tt
told_on_initial_done auto o d t true = told_cond (is_semicolon t.kind) (to o (at.ForTest (for_begin.Declarations d.kind d.declarations))) (refuse_at spot.OperandEnd) tt tt

pub told_on_initial_end : (auto : Bool) (o : Outer) (d : Declared) (t : Token) → Told (on_initial_end auto o d t)
told_on_initial_end auto o d t = told_cond (is_comma t.kind) (to o (at.DeclaredName d)) (on_initial_done auto o d t d.in_for) tt (told_on_initial_done auto o d t d.in_for)

pub told_on_head_end : (o : Outer) (b : Body) (t : Token) → Told (on_head_end o b t)
told_on_head_end o b t = told_cond (is_close_paren t.kind) (wait_body o b) (refuse_at spot.OperandEnd) tt tt

pub told_on_part_end : (o : Outer) (a : At) (yes : Bool) → Told (on_part_end o a yes)
told_on_part_end o a true = tt
told_on_part_end o a false = tt

pub told_on_then_end : (o : Outer) (test : Expr) (x : Expr) (t : Token) → Told (on_then_end o test x t)
told_on_then_end o test x t = told_cond (is_colon t.kind) (wait_tail o (tail.Else test x)) (refuse_at spot.OperandEnd) tt tt

pub told_on_value : (auto : Bool) (o : Outer) (w : Purpose) (x : Expr) (t : Token) → Told (on_value auto o w x t)
told_on_value auto o (purpose.Then test) x t = told_on_then_end o test x t
told_on_value auto o purpose.Group x t = told_on_part_end o (at.Operand (expr.Group x) 0) (is_close_paren t.kind)
told_on_value auto o (purpose.Argument c xs) x t = told_on_argument_end o c (xs ++ x ∷ []) t.kind
told_on_value auto o (purpose.Index y n) x t = told_on_part_end o (at.Operand (expr.Index y x) (plus n 1)) (is_close_bracket t.kind)
told_on_value auto o (purpose.Element xs) x t = told_on_element_end o (xs ++ x ∷ []) t.kind
told_on_value auto o (purpose.Pair xs k) x t = told_on_pair_end o (xs ++ property.Pair k x ∷ []) t.kind
told_on_value auto o (purpose.Hole is u) x t = told_on_hole_end o (is ++ roll-TemplateItem (record { units = u; value = x }) ∷ []) t.kind
told_on_value auto o purpose.If x t = told_on_head_end o (body.Then x) t
told_on_value auto o purpose.While x t = told_on_head_end o (body.While x) t
told_on_value auto o (purpose.ForOf k n) x t = told_on_head_end o (body.ForOf k n x) t
told_on_value auto o (purpose.ForUpdate b test) x t = told_on_head_end o (body.For b test (Some x)) t
told_on_value auto o purpose.ForStart x t = told_on_part_end o (at.ForTest (for_begin.Start x)) (is_semicolon t.kind)
told_on_value auto o (purpose.ForTest b) x t = told_on_part_end o (at.ForUpdate b (Some x)) (is_semicolon t.kind)
told_on_value auto o purpose.Statement x t = told_on_statement_end auto o x t
told_on_value auto o (purpose.Initial d n) x t = told_on_initial_end auto o (with_declaration d n (Some x)) t
told_on_value auto o (purpose.Return q) x t = told_end auto o (stmt.Return q (Some x)) t (because None (Some spot.OperandEnd)) tt
told_on_value auto o purpose.Throw x t = told_end auto o (stmt.Throw x) t (because None (Some spot.OperandEnd)) tt

pub told_on_frame : (auto : Bool) (o : Outer) (x : Expr) (t : Token) (inner : Option Frame) → Told (on_frame auto o x t inner)
told_on_frame auto o x t (Some (frame.Purpose w)) = told_on_value auto o w x t
told_on_frame auto o x t _ = tt

pub told_on_over : (auto : Bool) (o : Outer) (t : Token) (v : Over) → Told (on_over auto o t v)
told_on_over auto o t v = told_on_frame auto (without (framed o v.frames)) v.value t (innermost (framed o v.frames))

pub told_on_folded : (auto : Bool) (o : Outer) (t : Token) (made : Folded) → Told made → Told (on_folded auto o t made)
told_on_folded auto o t (Ok v) told = told_on_over auto o t (fold_tails v.frames v.value)
told_on_folded auto o t (Err k) told = told

pub told_after_whole : (auto : Bool) (o : Outer) (x : Expr) (t : Token) → Told (after_whole auto o x t)
told_after_whole auto o x t = told_on_folded auto o t (fold 0 o.frames x) (told_fold 0 o.frames x)

pub told_joins : (auto : Bool) (o : Outer) (x : BinaryOp) (n : ℕ) (t : Token) (v : Over) → Told (joins auto o x n t v)
told_joins auto o x n t v = told_cond (are_mixed (logic_of x) (outermost v.value) || are_mixed (logic_of x) (waiting (framed o v.frames))) (after_whole auto (framed o v.frames) v.value t) (wait_operand (framed o v.frames) (plus n 1) (operator.Binary v.value x)) (told_after_whole auto (framed o v.frames) v.value t) tt

pub told_joins_folded : (auto : Bool) (o : Outer) (x : BinaryOp) (n : ℕ) (t : Token) (made : Folded) → Told made → Told (joins_folded auto o x n t made)
told_joins_folded auto o x n t (Ok v) told = told_joins auto o x n t v
told_joins_folded auto o x n t (Err k) told = told

pub told_binary_behind : (auto : Bool) (o : Outer) (x : BinaryOp) (t : Token) (made : Folded) → Told made → Told (binary_behind auto o x t made)
told_binary_behind auto o x t (Ok v) told = told_joins_folded auto o x (constructs (framed o v.frames)) t (fold (strength x) v.frames v.value) (told_fold (strength x) v.frames v.value)
told_binary_behind auto o x t (Err k) told = told

pub told_on_binary : (auto : Bool) (o : Outer) (x : BinaryOp) (y : Expr) (t : Token) → Told (on_binary auto o x y t)
told_on_binary auto o x y t = told_binary_behind auto o x t (fold 7 o.frames y) (told_fold 7 o.frames y)

pub told_tests : (o : Outer) (made : Folded) → Told made → Told (tests o made)
told_tests o (Ok v) told = tt
told_tests o (Err k) told = told

pub told_no_binary : (auto : Bool) (o : Outer) (x : Expr) (t : Token) (s : Punctuator) → Told (no_binary auto o x t s)
told_no_binary auto o x t p.Question = told_tests o (fold 1 o.frames x) (told_fold 1 o.frames x)
told_no_binary auto o x t _ = told_after_whole auto o x t

pub told_after_operator : (auto : Bool) (o : Outer) (x : Expr) (t : Token) (s : Punctuator) (b : Option BinaryOp) → Told (after_operator auto o x t s b)
told_after_operator auto o x t s (Some b) = told_on_binary auto o b x t
told_after_operator auto o x t s None = told_no_binary auto o x t s

pub told_after_sign : (auto : Bool) (o : Outer) (x : Expr) (t : Token) (kind : TokenKind) → Told (after_sign auto o x t kind)
told_after_sign auto o x t (tok.Punctuator s) = told_after_operator auto o x t s (binary_op s)
told_after_sign auto o x t _ = told_after_whole auto o x t

pub told_after_value : (auto : Bool) (o : Outer) (x : Expr) (t : Token) → Told (after_value auto o x t)
told_after_value auto o x t = told_after_sign auto o x t t.kind
