-- Where a token leads behind a value.
use Rattle.std.specs.Prelude.{ℕ, Bool, true, false, cond, ◌||◌, List, [], ◌∷◌, ◌++◌, Option, Some, None, Result, Ok, Err, ◌≡◌}
use Rattle.js_lex.specs.declared.token.Punctuator.{Punctuator}
use Rattle.js_lex.specs.declared.token.TokenKind.{TokenKind}
use Rattle.js_lex.specs.declared.token.Token.{Token}
use Rattle.js_tree.specs.Targets.{target_of}
use Rattle.js_tree.specs.declared.tree.BinaryOp.{BinaryOp}
use Rattle.js_tree.specs.declared.tree.Expr.{Expr, out-Expr}
use Rattle.js_tree.specs.declared.tree.Property.{Property}
use Rattle.js_tree.specs.declared.tree.Target.{Target}
use Rattle.js_tree.specs.declared.tree.TemplateItem.{TemplateItem, roll-TemplateItem}
use Rattle.js_parse_core.specs.declared.machine.At.{At}
use Rattle.js_parse_core.specs.declared.machine.Body.{Body}
use Rattle.js_parse_core.specs.declared.machine.Callee.{Callee}
use Rattle.js_parse_core.specs.declared.machine.Declared.{Declared}
use Rattle.js_parse_core.specs.declared.machine.Frame.{Frame}
use Rattle.js_parse_core.specs.declared.machine.Open.{Open}
use Rattle.js_parse_core.specs.declared.machine.Operator.{Operator}
use Rattle.js_parse_core.specs.declared.machine.Outer.{Outer}
use Rattle.js_parse_core.specs.declared.machine.Purpose.{Purpose}
use Rattle.js_parse_core.specs.declared.machine.Refusal.{Refusal}
use Rattle.js_parse_core.specs.declared.machine.Tail.{Tail}
use Rattle.js_parse_core.specs.Outer.{because, refuse_at, to, plus, framed, constructs, wait_operand, wait_tail, wait_body, opened, is_statement_purpose}
use Rattle.js_grammar.specs.Shapes.{strength}
use Rattle.js_parse_core.specs.Statements.{with_declaration}
use Rattle.js_parse_core.specs.Tokens.{is_close_paren, is_close_bracket, is_semicolon, is_comma, is_colon}
use Rattle.js_tree.specs.declared.tree.UpdateOp.{UpdateOp}
use Rattle.js_parse_core.specs.Values.{call, after_value, after_whole, binary_op, logic_of, are_mixed, outermost, waiting, operator_binds, Over, Folded, over, updated, apply, applied, fold_frame, fold, end_tail, fold_tail, fold_tails, on_argument_end, on_element_end, on_pair_end, on_hole_end, label_before, on_statement_end, on_initial_done, on_initial_end, on_head_end, on_part_end, on_then_end, on_value, on_over, on_folded, joins, joins_folded, binary_behind, on_binary, tests, no_binary, after_operator, after_sign}
use Rattle.js_lex.specs.declared.token.Punctuator.TheVariants as p
use Rattle.js_lex.specs.declared.token.TemplatePart.TheVariants as part
use Rattle.js_lex.specs.declared.token.TokenKind.TheVariants as tok
use Rattle.js_tree.specs.declared.tree.ArrowBody.TheVariants as arrow_body
use Rattle.js_tree.specs.declared.tree.Expr.TheVariants as expr
use Rattle.js_tree.specs.declared.tree.ForBegin.TheVariants as for_begin
use Rattle.js_tree.specs.declared.tree.Property.TheVariants as property
use Rattle.js_tree.specs.declared.tree.Stmt.TheVariants as stmt
use Rattle.js_tree.specs.declared.tree.UpdateSide.TheVariants as side
use Rattle.js_words.specs.declared.word.Spot.TheVariants as spot
use Rattle.js_parse_core.specs.declared.machine.At.TheVariants as at
use Rattle.js_parse_core.specs.declared.machine.Body.TheVariants as body
use Rattle.js_parse_core.specs.declared.machine.Callee.TheVariants as callee
use Rattle.js_parse_core.specs.declared.machine.Frame.TheVariants as frame
use Rattle.js_parse_core.specs.declared.machine.Operator.TheVariants as operator
use Rattle.js_parse_core.specs.declared.machine.Purpose.TheVariants as purpose
use Rattle.js_parse_core.specs.declared.machine.Tail.TheVariants as tail
use Rattle.std.specs.Prelude.{◌⊎◌}
use Rattle.std.proofs.Common.{refl, inl}
use Rattle.js_parse_core.proofs.Came.{label_of, Landed, Loud, Calm, label_calm, Lands, came_cond, Silent, bare_Template, bare_Array, bare_Arrow, bare_Group, bare_Unary, bare_Await, bare_Update, bare_Binary, bare_Conditional, bare_Assign, bare_Call, bare_New, bare_Index, Label}
use Rattle.js_parse_core.proofs.CameStatements.{came_end}
use Rattle.js_parse_core.proofs.CameObjects.{came_close_object}

-- what waits for the value gets it
abbrev FoldedSilent : Bool → Loud → Folded → Type 0
FoldedSilent keyed loud (Ok v) = Silent loud v.frames v.value
FoldedSilent keyed loud (Err k) = Calm keyed loud k

abbrev AppliedBare : Bool → Loud → Result Expr Refusal → Type 0
AppliedBare keyed loud (Ok x) = label_of x ≡ None
AppliedBare keyed loud (Err k) = Calm keyed loud k

came_updated : (keyed : Bool) (loud : Loud) (u : UpdateOp) (found : Result Target Expr) → AppliedBare keyed loud (updated found (λ t. expr.Update side.Before u t))
came_updated keyed loud u (Ok t) = bare_Update side.Before u t
came_updated keyed loud u (Err x) = (tt, tt)

came_apply : (keyed : Bool) (loud : Loud) (w : Operator) (x : Expr) → AppliedBare keyed loud (apply w x)
came_apply keyed loud (operator.Binary l o) x = bare_Binary o l x
came_apply keyed loud (operator.Unary o) x = bare_Unary o x
came_apply keyed loud (operator.Await q) x = bare_Await q x
came_apply keyed loud (operator.Update o) x = came_updated keyed loud o (target_of x)

came_applied : (keyed : Bool) (loud : Loud) (made : Result Expr Refusal) (go : Expr → Folded) → AppliedBare keyed loud made → ((y : Expr) → label_of y ≡ None → FoldedSilent keyed loud (go y)) → FoldedSilent keyed loud (applied made go)
came_applied keyed loud (Ok x) go h i = i x h
came_applied keyed loud (Err k) go h i = h

came_over : (keyed : Bool) (loud : Loud) (b : Bool) (made : Folded) (fs : List Open) (x : Expr) → FoldedSilent keyed loud made → Silent loud fs x → FoldedSilent keyed loud (cond b made (over fs x))
came_over keyed loud true made fs x h i = h
came_over keyed loud false made fs x h i = i

pub came_fold : (keyed : Bool) (loud : Loud) (least : ℕ) (fs : List Open) (x : Expr) → Silent loud fs x → FoldedSilent keyed loud (fold least fs x)
came_fold keyed loud least [] x h = h
came_fold keyed loud least (f ∷ fs) x h = go f.frame h (λ y b. came_fold keyed loud least fs y (λ e. inl b))
  where
    go : (k : Frame) → Silent loud (opened f.constructs k ∷ fs) x → ((y : Expr) → label_of y ≡ None → FoldedSilent keyed loud (fold least fs y)) → FoldedSilent keyed loud (fold_frame least (opened f.constructs k) k fs x (λ y. fold least fs y))
    go (frame.Operator w) i c =
        came_over keyed loud (operator_binds least w) (applied (apply w x) (λ y. fold least fs y)) (opened f.constructs (frame.Operator w) ∷ fs) x
        (came_applied keyed loud (apply w x) (λ y. fold least fs y) (came_apply keyed loud w x) c) i
    go (frame.Tail t) i c = i
    go (frame.Purpose w) i c = i
    go (frame.Body b) i c = i
    go (frame.Block b ss) i c = i
    go frame.Export i c = i

bare_tail : (t : Tail) (x : Expr) → label_of (end_tail t x) ≡ None
bare_tail (tail.Assign o t) x = bare_Assign o t x
bare_tail (tail.Else test a) x = bare_Conditional test a x
bare_tail (tail.Arrow a ns) x = bare_Arrow a ns (arrow_body.Value x)

pub came_tails : (keyed : Bool) (loud : Loud) (fs : List Open) (x : Expr) → Silent loud fs x → (let v : Over = fold_tails fs x in Silent loud v.frames v.value)
came_tails keyed loud [] x h = h
came_tails keyed loud (f ∷ fs) x h = go f.frame h (λ y b. came_tails keyed loud fs y (λ e. inl b))
  where
    go : (k : Frame) → Silent loud (opened f.constructs k ∷ fs) x → ((y : Expr) → label_of y ≡ None → (let v : Over = fold_tails fs y in Silent loud v.frames v.value)) → (let v : Over = fold_tail (opened f.constructs k) k fs x (λ y. fold_tails fs y) in Silent loud v.frames v.value)
    go (frame.Tail t) i c = c (end_tail t x) (bare_tail t x)
    go (frame.Operator w) i c = i
    go (frame.Purpose w) i c = i
    go (frame.Body b) i c = i
    go (frame.Block b ss) i c = i
    go frame.Export i c = i

pub came_call : (keyed : Bool) (loud : Loud) (kind : TokenKind) (o : Outer) (c : Callee) (xs : List Expr) → Lands keyed loud kind (call o c xs)
came_call keyed loud kind o (callee.Value x n) xs = inl (bare_Call x xs)
came_call keyed loud kind o (callee.New n) xs = inl (bare_New n xs)

pub came_on_argument_end : (keyed : Bool) (loud : Loud) (kind : TokenKind) (o : Outer) (c : Callee) (xs : List Expr) (now : TokenKind) → Lands keyed loud kind (on_argument_end o c xs now)
came_on_argument_end keyed loud kind o c xs (tok.Punctuator p.Comma) = tt
came_on_argument_end keyed loud kind o c xs (tok.Punctuator p.CloseParen) = came_call keyed loud kind o c xs
came_on_argument_end keyed loud kind o c xs _ = (tt, tt)

pub came_on_element_end : (keyed : Bool) (loud : Loud) (kind : TokenKind) (o : Outer) (xs : List Expr) (now : TokenKind) → Lands keyed loud kind (on_element_end o xs now)
came_on_element_end keyed loud kind o xs (tok.Punctuator p.Comma) = tt
came_on_element_end keyed loud kind o xs (tok.Punctuator p.CloseBracket) = inl (bare_Array xs)
came_on_element_end keyed loud kind o xs _ = (tt, tt)

pub came_on_pair_end : (keyed : Bool) (loud : Loud) (kind : TokenKind) (o : Outer) (xs : List Property) (now : TokenKind) → Lands keyed loud kind (on_pair_end o xs now)
came_on_pair_end keyed loud kind o xs (tok.Punctuator p.Comma) = tt
came_on_pair_end keyed loud kind o xs (tok.Punctuator p.CloseBrace) = came_close_object keyed loud kind o xs
came_on_pair_end keyed loud kind o xs _ = (tt, tt)

pub came_on_hole_end : (keyed : Bool) (loud : Loud) (kind : TokenKind) (o : Outer) (is : List TemplateItem) (now : TokenKind) → Lands keyed loud kind (on_hole_end o is now)
came_on_hole_end keyed loud kind o is (tok.Template part.Middle u) = refl
came_on_hole_end keyed loud kind o is (tok.Template part.Tail u) = inl (bare_Template is u)
came_on_hole_end keyed loud kind o is _ = (tt, tt)

pub came_on_statement_end : (keyed : Bool) (loud : Loud) (auto : Bool) (o : Outer) (x : Expr) (t : Token) → ((label_of x ≡ None) ⊎ (loud ≡ Label)) → Lands keyed loud t.kind (on_statement_end auto o x t)
came_on_statement_end keyed loud auto o x t quiet = came_end keyed loud auto o (stmt.Expr x) t (because (label_before (out-Expr x)) (Some spot.OperandEnd)) (label_calm loud x quiet, tt)

pub came_on_initial_done : (keyed : Bool) (loud : Loud) (auto : Bool) (o : Outer) (d : Declared) (t : Token) (yes : Bool) → Lands keyed loud t.kind (on_initial_done auto o d t yes)
came_on_initial_done keyed loud auto o d t false = came_end keyed loud auto o (stmt.Declare d.kind d.declarations) t (because None (Some spot.OperandEnd)) (tt, tt)
came_on_initial_done keyed loud auto o d t true = came_cond keyed loud t.kind (is_semicolon t.kind) (to o (at.ForTest (for_begin.Declarations d.kind d.declarations))) (refuse_at spot.OperandEnd) tt (tt, tt)

pub came_on_initial_end : (keyed : Bool) (loud : Loud) (auto : Bool) (o : Outer) (d : Declared) (t : Token) → Lands keyed loud t.kind (on_initial_end auto o d t)
came_on_initial_end keyed loud auto o d t = came_cond keyed loud t.kind (is_comma t.kind) (to o (at.DeclaredName d)) (on_initial_done auto o d t d.in_for) tt (came_on_initial_done keyed loud auto o d t d.in_for)

pub came_on_head_end : (keyed : Bool) (loud : Loud) (o : Outer) (b : Body) (t : Token) → Lands keyed loud t.kind (on_head_end o b t)
came_on_head_end keyed loud o b t = came_cond keyed loud t.kind (is_close_paren t.kind) (wait_body o b) (refuse_at spot.OperandEnd) tt (tt, tt)

pub came_on_part_end : (keyed : Bool) (loud : Loud) (kind : TokenKind) (o : Outer) (a : At) (yes : Bool) → Landed keyed kind o a → Lands keyed loud kind (on_part_end o a yes)
came_on_part_end keyed loud kind o a true landed = landed
came_on_part_end keyed loud kind o a false landed = (tt, tt)

pub came_on_then_end : (keyed : Bool) (loud : Loud) (o : Outer) (test : Expr) (x : Expr) (t : Token) → Lands keyed loud t.kind (on_then_end o test x t)
came_on_then_end keyed loud o test x t = came_cond keyed loud t.kind (is_colon t.kind) (wait_tail o (tail.Else test x)) (refuse_at spot.OperandEnd) refl (tt, tt)

pub came_on_value : (keyed : Bool) (loud : Loud) (auto : Bool) (o : Outer) (w : Purpose) (x : Expr) (t : Token) → (is_statement_purpose w ≡ true → (label_of x ≡ None) ⊎ (loud ≡ Label)) → Lands keyed loud t.kind (on_value auto o w x t)
came_on_value keyed loud auto o (purpose.Then test) x t quiet = came_on_then_end keyed loud o test x t
came_on_value keyed loud auto o purpose.Group x t quiet = came_on_part_end keyed loud t.kind o (at.Operand (expr.Group x) 0) (is_close_paren t.kind) (inl (bare_Group x))
came_on_value keyed loud auto o (purpose.Argument c xs) x t quiet = came_on_argument_end keyed loud t.kind o c (xs ++ x ∷ []) t.kind
came_on_value keyed loud auto o (purpose.Index y n) x t quiet = came_on_part_end keyed loud t.kind o (at.Operand (expr.Index y x) (plus n 1)) (is_close_bracket t.kind) (inl (bare_Index y x))
came_on_value keyed loud auto o (purpose.Element xs) x t quiet = came_on_element_end keyed loud t.kind o (xs ++ x ∷ []) t.kind
came_on_value keyed loud auto o (purpose.Pair xs k) x t quiet = came_on_pair_end keyed loud t.kind o (xs ++ property.Pair k x ∷ []) t.kind
came_on_value keyed loud auto o (purpose.Hole is u) x t quiet = came_on_hole_end keyed loud t.kind o (is ++ roll-TemplateItem (record { units = u; value = x }) ∷ []) t.kind
came_on_value keyed loud auto o purpose.If x t quiet = came_on_head_end keyed loud o (body.Then x) t
came_on_value keyed loud auto o purpose.While x t quiet = came_on_head_end keyed loud o (body.While x) t
came_on_value keyed loud auto o (purpose.ForOf k n) x t quiet = came_on_head_end keyed loud o (body.ForOf k n x) t
came_on_value keyed loud auto o (purpose.ForUpdate b test) x t quiet = came_on_head_end keyed loud o (body.For b test (Some x)) t
came_on_value keyed loud auto o purpose.ForStart x t quiet = came_on_part_end keyed loud t.kind o (at.ForTest (for_begin.Start x)) (is_semicolon t.kind) tt
came_on_value keyed loud auto o (purpose.ForTest b) x t quiet = came_on_part_end keyed loud t.kind o (at.ForUpdate b (Some x)) (is_semicolon t.kind) tt
came_on_value keyed loud auto o purpose.Statement x t quiet = came_on_statement_end keyed loud auto o x t (quiet refl)
came_on_value keyed loud auto o (purpose.Initial d n) x t quiet = came_on_initial_end keyed loud auto o (with_declaration d n (Some x)) t
came_on_value keyed loud auto o (purpose.Return q) x t quiet = came_end keyed loud auto o (stmt.Return q (Some x)) t (because None (Some spot.OperandEnd)) (tt, tt)
came_on_value keyed loud auto o purpose.Throw x t quiet = came_end keyed loud auto o (stmt.Throw x) t (because None (Some spot.OperandEnd)) (tt, tt)

pub came_on_over : (keyed : Bool) (loud : Loud) (auto : Bool) (o : Outer) (t : Token) (v : Over) → Silent loud v.frames v.value → Lands keyed loud t.kind (on_over auto o t v)
came_on_over keyed loud auto o t v silent = go v.frames silent
  where
    by_frame : (n : ℕ) (k : Frame) (fs : List Open) → Silent loud (opened n k ∷ fs) v.value → Lands keyed loud t.kind (on_over auto o t (record { frames = opened n k ∷ fs; value = v.value }))
    by_frame n (frame.Purpose w) fs h = came_on_value keyed loud auto (framed o fs) w v.value t h
    by_frame n _ fs h = (tt, tt)

    go : (fs : List Open) → Silent loud fs v.value → Lands keyed loud t.kind (on_over auto o t (record { frames = fs; value = v.value }))
    go [] h = (tt, tt)
    go (f ∷ fs) h = by_frame f.constructs f.frame fs h

pub came_on_folded : (keyed : Bool) (loud : Loud) (auto : Bool) (o : Outer) (t : Token) (made : Folded) → FoldedSilent keyed loud made → Lands keyed loud t.kind (on_folded auto o t made)
came_on_folded keyed loud auto o t (Ok v) h = came_on_over keyed loud auto o t (fold_tails v.frames v.value) (came_tails keyed loud v.frames v.value h)
came_on_folded keyed loud auto o t (Err k) h = h

pub came_after_whole : (keyed : Bool) (loud : Loud) (auto : Bool) (o : Outer) (x : Expr) (t : Token) → Silent loud o.frames x → Lands keyed loud t.kind (after_whole auto o x t)
came_after_whole keyed loud auto o x t h = came_on_folded keyed loud auto o t (fold 0 o.frames x) (came_fold keyed loud 0 o.frames x h)

pub came_joins : (keyed : Bool) (loud : Loud) (auto : Bool) (o : Outer) (x : BinaryOp) (n : ℕ) (t : Token) (v : Over) → Silent loud v.frames v.value → Lands keyed loud t.kind (joins auto o x n t v)
came_joins keyed loud auto o x n t v h = came_cond keyed loud t.kind (are_mixed (logic_of x) (outermost v.value) || are_mixed (logic_of x) (waiting (framed o v.frames))) (after_whole auto (framed o v.frames) v.value t) (wait_operand (framed o v.frames) (plus n 1) (operator.Binary v.value x)) (came_after_whole keyed loud auto (framed o v.frames) v.value t h) refl

came_joins_folded : (keyed : Bool) (loud : Loud) (auto : Bool) (o : Outer) (x : BinaryOp) (n : ℕ) (t : Token) (made : Folded) → FoldedSilent keyed loud made → Lands keyed loud t.kind (joins_folded auto o x n t made)
came_joins_folded keyed loud auto o x n t (Ok v) h = came_joins keyed loud auto o x n t v h
came_joins_folded keyed loud auto o x n t (Err k) h = h

came_binary_behind : (keyed : Bool) (loud : Loud) (auto : Bool) (o : Outer) (x : BinaryOp) (t : Token) (made : Folded) → FoldedSilent keyed loud made → Lands keyed loud t.kind (binary_behind auto o x t made)
came_binary_behind keyed loud auto o x t (Ok v) h = came_joins_folded keyed loud auto o x (constructs (framed o v.frames)) t (fold (strength x) v.frames v.value) (came_fold keyed loud (strength x) v.frames v.value h)
came_binary_behind keyed loud auto o x t (Err k) h = h

pub came_on_binary : (keyed : Bool) (loud : Loud) (auto : Bool) (o : Outer) (x : BinaryOp) (y : Expr) (t : Token) → Silent loud o.frames y → Lands keyed loud t.kind (on_binary auto o x y t)
came_on_binary keyed loud auto o x y t h = came_binary_behind keyed loud auto o x t (fold 7 o.frames y) (came_fold keyed loud 7 o.frames y h)

came_tests : (keyed : Bool) (loud : Loud) (k : TokenKind) (o : Outer) (made : Folded) → FoldedSilent keyed loud made → Lands keyed loud k (tests o made)
came_tests keyed loud k o (Ok v) h = refl
came_tests keyed loud k o (Err e) h = h

pub came_no_binary : (keyed : Bool) (loud : Loud) (auto : Bool) (o : Outer) (x : Expr) (t : Token) (s : Punctuator) → Silent loud o.frames x → Lands keyed loud t.kind (no_binary auto o x t s)
came_no_binary keyed loud auto o x t p.Question silent = came_tests keyed loud t.kind o (fold 1 o.frames x) (came_fold keyed loud 1 o.frames x silent)
came_no_binary keyed loud auto o x t _ silent = came_after_whole keyed loud auto o x t silent

pub came_after_operator : (keyed : Bool) (loud : Loud) (auto : Bool) (o : Outer) (x : Expr) (t : Token) (s : Punctuator) (b : Option BinaryOp) → Silent loud o.frames x → Lands keyed loud t.kind (after_operator auto o x t s b)
came_after_operator keyed loud auto o x t s (Some b) silent = came_on_binary keyed loud auto o b x t silent
came_after_operator keyed loud auto o x t s None silent = came_no_binary keyed loud auto o x t s silent

pub came_after_sign : (keyed : Bool) (loud : Loud) (auto : Bool) (o : Outer) (x : Expr) (t : Token) (now : TokenKind) → Silent loud o.frames x → Lands keyed loud t.kind (after_sign auto o x t now)
came_after_sign keyed loud auto o x t (tok.Punctuator s) silent = came_after_operator keyed loud auto o x t s (binary_op s) silent
came_after_sign keyed loud auto o x t _ silent = came_after_whole keyed loud auto o x t silent

pub came_after_value : (keyed : Bool) (loud : Loud) (auto : Bool) (o : Outer) (x : Expr) (t : Token) → Silent loud o.frames x → Lands keyed loud t.kind (after_value auto o x t)
came_after_value keyed loud auto o x t silent = came_after_sign keyed loud auto o x t t.kind silent
