-- What a piece does behind an operand, by what waits round it.
use Rattle.std.proofs.Common.{◌≡◌, ℕ, ◌+◌, ◌≤◌, Bool, true, false, cond, List, [], ◌∷◌, Some, None, Ok, Err, refl, sym, ap, ◌∙◌, subst, arith}
use Rattle.std.specs.Prelude.{Option, Result, ◌||◌}
use Rattle.std.proofs.lemmas.Bool.{lt-leb, le-leb}
use Rattle.js_lex.specs.declared.token.Punctuator.{Punctuator}
use Rattle.js_lex.specs.declared.token.Punctuator.TheVariants as p
use Rattle.js_lex.specs.declared.token.TokenKind.{TokenKind}
use Rattle.js_lex.specs.declared.token.TokenKind.TheVariants as tok
use Rattle.js_lex.specs.declared.token.Token.{Token}
use Rattle.js_tree.specs.Targets.{Node, target_of}
use Rattle.js_tree.specs.declared.tree.ArrowBody.{ArrowBody}
use Rattle.js_tree.specs.declared.tree.Catch.{Catch}
use Rattle.js_tree.specs.declared.tree.Declaration.{Declaration}
use Rattle.js_tree.specs.declared.tree.ForBegin.{ForBegin}
use Rattle.js_tree.specs.declared.tree.Function.{Function}
use Rattle.js_tree.specs.declared.tree.Property.{Property}
use Rattle.js_tree.specs.declared.tree.Stmt.{Stmt}
use Rattle.js_tree.specs.declared.tree.TemplateItem.{TemplateItem}
use Rattle.js_tree.specs.declared.tree.ArrowBody.TheOpen.{Expr-F}
use Rattle.js_tree.specs.declared.tree.ArrowBody.TheFolds.{map-Expr, fold-roll-Expr}
use Rattle.js_tree.specs.declared.tree.BinaryOp.{BinaryOp}
use Rattle.js_tree.specs.declared.tree.BinaryOp.TheVariants as binary
use Rattle.js_tree.specs.declared.tree.Expr.{Expr, roll-Expr, out-Expr, out-roll-Expr, roll-out-Expr}
use Rattle.js_tree.specs.declared.tree.Expr.TheVariants as expr
use Rattle.js_tree.specs.declared.tree.Target.{Target}
use Rattle.js_tree.specs.declared.tree.UpdateOp.{UpdateOp}
use Rattle.js_tree.specs.declared.tree.UpdateSide.TheVariants as side
use Rattle.js_grammar.specs.Shapes.{strength}
use Rattle.js_grammar.specs.Shapes as shapes
use Rattle.js_parse_core.specs.declared.machine.Frame.{Frame}
use Rattle.js_parse_core.specs.declared.machine.Frame.TheVariants as frame
use Rattle.js_parse_core.specs.declared.machine.Open.{Open}
use Rattle.js_parse_core.specs.declared.machine.Operator.{Operator}
use Rattle.js_parse_core.specs.declared.machine.Operator.TheVariants as operator
use Rattle.js_parse_core.specs.declared.machine.Outer.{Outer}
use Rattle.js_parse_core.specs.declared.machine.Purpose.{Purpose}
use Rattle.js_parse_core.specs.declared.machine.Refusal.{Refusal}
use Rattle.js_parse_core.specs.declared.machine.Tail.{Tail}
use Rattle.js_parse_core.specs.declared.machine.Logic.{Logic}
use Rattle.js_parse_core.specs.declared.machine.Logic.TheVariants as logic
use Rattle.js_parse_core.specs.Begin.{prefix, prefix_at}
use Rattle.js_parse_core.specs.Expressions.{after_operand, update_at, update_of}
use Rattle.js_parse_core.specs.Outer.{Step, plus, constructs, constructs_in, framed, first_frame, opened, push_at, wait_operand, is_whole, position, position_in}
use Rattle.js_parse_core.specs.Values.{binary_op, fold, over, Over, Folded, applied, apply, updated, end_tail, on_folded, on_value, after_whole, after_value, on_binary, binary_behind, joins_folded, tests, waiting_in, waiting, are_mixed, logic_of, outermost, outermost_node}
use Rattle.js_parse_core.proofs.Readings.{part_closes}

-- ---- how tightly what follows binds

-- 0 ends a value, 1 is `?`, 1 to 6 are operators, and 9 continues an operand; 10 never follows
abbrev pub sign_follows : Punctuator → ℕ
sign_follows p.CloseParen = 0
sign_follows p.CloseBracket = 0
sign_follows p.CloseBrace = 0
sign_follows p.Comma = 0
sign_follows p.Semicolon = 0
sign_follows p.Colon = 0
sign_follows p.Question = 1
sign_follows p.QuestionQuestion = 1
sign_follows p.OrOr = 1
sign_follows p.AndAnd = 2
sign_follows p.Identical = 3
sign_follows p.NotIdentical = 3
sign_follows p.Less = 4
sign_follows p.LessEqual = 4
sign_follows p.Greater = 4
sign_follows p.GreaterEqual = 4
sign_follows p.Plus = 5
sign_follows p.Minus = 5
sign_follows p.Star = 6
sign_follows p.Slash = 6
sign_follows p.Percent = 6
sign_follows p.Dot = 9
sign_follows p.OpenParen = 9
sign_follows p.OpenBracket = 9
sign_follows p.PlusPlus = 9
sign_follows p.MinusMinus = 9
sign_follows p.Equal = 9
sign_follows p.PlusEqual = 9
sign_follows p.MinusEqual = 9
sign_follows _ = 10

abbrev pub follows : TokenKind → ℕ
follows (tok.Punctuator s) = sign_follows s
follows (tok.Template x u) = cond (part_closes x) 0 10
follows tok.End = 0
follows _ = 10

abbrev pub operator_in : TokenKind → Option BinaryOp
operator_in (tok.Punctuator s) = binary_op s
operator_in _ = None

-- Behind an operand x with n accesses and c constructs of its chain.
abbrev pub behind_by : Outer → Expr → ℕ → ℕ → Token → Option BinaryOp → Step
behind_by o x n c t (Some b) = joins_folded false o b c t (fold (strength b) o.frames x)
behind_by o x n c t None = after_operand false o x n t

abbrev pub behind : Outer → Expr → ℕ → ℕ → Token → Step
behind o x n c t = behind_by o x n c t (operator_in t.kind)

-- ---- what waits

abbrev pub operator_needs : Operator → ℕ
operator_needs (operator.Binary l o) = strength o + 1
operator_needs (operator.Unary o) = 7
operator_needs (operator.Await q) = 7
operator_needs (operator.Update o) = 9

abbrev pub frame_needs : Frame → ℕ
frame_needs (frame.Operator x) = operator_needs x
frame_needs _ = 0

-- so tightly an operand has to bind
abbrev pub needs : List Open → ℕ
needs [] = 0
needs (f ∷ fs) = frame_needs f.frame

pub strength_small : (o : BinaryOp) → strength o ≤ 6
strength_small binary.Coalesce = omega arith
strength_small binary.Or = omega arith
strength_small binary.And = omega arith
strength_small binary.Identical = omega arith
strength_small binary.NotIdentical = omega arith
strength_small binary.Less = omega arith
strength_small binary.LessEqual = omega arith
strength_small binary.Greater = omega arith
strength_small binary.GreaterEqual = omega arith
strength_small binary.Add = omega arith
strength_small binary.Subtract = omega arith
strength_small binary.Multiply = omega arith
strength_small binary.Divide = omega arith
strength_small binary.Remainder = omega arith

pub strength_some : (o : BinaryOp) → 1 ≤ strength o
strength_some binary.Coalesce = omega arith
strength_some binary.Or = omega arith
strength_some binary.And = omega arith
strength_some binary.Identical = omega arith
strength_some binary.NotIdentical = omega arith
strength_some binary.Less = omega arith
strength_some binary.LessEqual = omega arith
strength_some binary.Greater = omega arith
strength_some binary.GreaterEqual = omega arith
strength_some binary.Add = omega arith
strength_some binary.Subtract = omega arith
strength_some binary.Multiply = omega arith
strength_some binary.Divide = omega arith
strength_some binary.Remainder = omega arith

-- what waits gets nothing
pub no_fold : (k : ℕ) (fs : List Open) (x : Expr) → needs fs ≤ k → needs fs ≤ 6 → fold k fs x ≡ over fs x
no_fold k [] x h g = refl
no_fold k (f ∷ fs) x h g = by_frame f.constructs f.frame h g
  where
    by_frame : (c : ℕ) (a : Frame) → frame_needs a ≤ k → frame_needs a ≤ 6 → fold k (opened c a ∷ fs) x ≡ over (opened c a ∷ fs) x
    by_frame c (frame.Operator (operator.Binary l o)) h g =
        ap (λ (b : Bool). cond b (fold k fs (expr.Binary o l x)) (over (opened c (frame.Operator (operator.Binary l o)) ∷ fs) x)) (lt-leb k (strength o) (omega arith))
    by_frame c (frame.Operator (operator.Unary o)) h g = absurd (omega (arith, g))
    by_frame c (frame.Operator (operator.Await q)) h g = absurd (omega (arith, g))
    by_frame c (frame.Operator (operator.Update o)) h g = absurd (omega (arith, g))
    by_frame c (frame.Tail t) h g = refl
    by_frame c (frame.Purpose v) h g = refl
    by_frame c (frame.Body b) h g = refl
    by_frame c (frame.Block b ss) h g = refl
    by_frame c frame.Export h g = refl

-- ---- an operator gets its operand

pub fold_binary : (k c : ℕ) (l : Expr) (o : BinaryOp) (fs : List Open) (x : Expr) → k ≤ strength o → fold k (opened c (frame.Operator (operator.Binary l o)) ∷ fs) x ≡ fold k fs (expr.Binary o l x)
fold_binary k c l o fs x h = ap (λ (b : Bool). cond b (fold k fs (expr.Binary o l x)) (over (opened c (frame.Operator (operator.Binary l o)) ∷ fs) x)) (le-leb k (strength o) h)

pub fold_update : (k c : ℕ) (o : UpdateOp) (fs : List Open) (x : Expr) (t : Target) → target_of x ≡ Ok t → fold k (opened c (frame.Operator (operator.Update o)) ∷ fs) x ≡ fold k fs (expr.Update side.Before o t)
fold_update k c o fs x t e = ap (λ (z : Result Target Expr). applied (updated z (λ a. expr.Update side.Before o a)) (λ y. fold k fs y)) e

-- ---- the operators that a binary one ends

abbrev on_fold : Folded → (Over → Folded) → Folded
on_fold (Ok v) go = go v
on_fold (Err k) go = Err k

again_applied : (k : ℕ) (fs : List Open) → ((x : Expr) → on_fold (fold 7 fs x) (λ v. fold k v.frames v.value) ≡ fold k fs x) → (a : Result Expr Refusal)
    → on_fold (applied a (λ y. fold 7 fs y)) (λ v. fold k v.frames v.value) ≡ applied a (λ y. fold k fs y)
again_applied k fs e (Ok y) = e y
again_applied k fs e (Err r) = refl

fold_again : (k : ℕ) (fs : List Open) (x : Expr) → on_fold (fold 7 fs x) (λ v. fold k v.frames v.value) ≡ fold k fs x
fold_again k [] x = refl
fold_again k (f ∷ fs) x = by_frame (λ y. fold_again k fs y) f.constructs f.frame
  where
    by_frame : ((y : Expr) → on_fold (fold 7 fs y) (λ v. fold k v.frames v.value) ≡ fold k fs y) → (c : ℕ) (a : Frame) → on_fold (fold 7 (opened c a ∷ fs) x) (λ v. fold k v.frames v.value) ≡ fold k (opened c a ∷ fs) x
    by_frame e c (frame.Operator (operator.Binary l o)) = let s = strength_small o in
        ap (λ (b : Bool). on_fold (cond b (fold 7 fs (expr.Binary o l x)) (over (opened c (frame.Operator (operator.Binary l o)) ∷ fs) x)) (λ v. fold k v.frames v.value)) (lt-leb 7 (strength o) (omega arith))
    by_frame e c (frame.Operator (operator.Unary o)) = again_applied k fs e (apply (operator.Unary o) x)
    by_frame e c (frame.Operator (operator.Await q)) = again_applied k fs e (apply (operator.Await q) x)
    by_frame e c (frame.Operator (operator.Update o)) = again_applied k fs e (apply (operator.Update o) x)
    by_frame e c (frame.Tail t) = refl
    by_frame e c (frame.Purpose v) = refl
    by_frame e c (frame.Body b) = refl
    by_frame e c (frame.Block b ss) = refl
    by_frame e c frame.Export = refl

abbrev count_of : Folded → ℕ
count_of (Ok v) = constructs_in v.frames
count_of (Err k) = 0

-- how many constructs the chain has before the operator
abbrev pub chained : Outer → Expr → ℕ
chained o x = count_of (fold 7 o.frames x)

pub binary_is : (o : Outer) (x : Expr) (b : BinaryOp) (t : Token) → on_binary false o b x t ≡ joins_folded false o b (chained o x) t (fold (strength b) o.frames x)
binary_is o x b t = by_fold (fold 7 o.frames x) ∙ ap (joins_folded false o b (chained o x) t) (fold_again (strength b) o.frames x)
  where
    by_fold : (d : Folded) → binary_behind false o b t d ≡ joins_folded false o b (count_of d) t (on_fold d (λ v. fold (strength b) v.frames v.value))
    by_fold (Ok v) = refl
    by_fold (Err k) = refl

-- ---- what ends a value

-- nothing that continues an operand
pub operand_ends : (o : Outer) (x : Expr) (n : ℕ) (q : ℕ) (l : Bool) (k : TokenKind) → follows k ≡ 0
    → after_operand false o x n (record { place = q; after_line_end = l; kind = k }) ≡ after_whole false o x (record { place = q; after_line_end = l; kind = k })
operand_ends o x n q l (tok.Punctuator p.CloseParen) h = refl
operand_ends o x n q l (tok.Punctuator p.CloseBracket) h = refl
operand_ends o x n q l (tok.Punctuator p.CloseBrace) h = refl
operand_ends o x n q l (tok.Punctuator p.Comma) h = refl
operand_ends o x n q l (tok.Punctuator p.Semicolon) h = refl
operand_ends o x n q l (tok.Punctuator p.Colon) h = refl
operand_ends o x n q l (tok.Punctuator _) h = cc
operand_ends o x n q l (tok.Template a u) h = refl
operand_ends o x n q l tok.End h = refl
operand_ends o x n q l _ h = cc

no_operator : (k : TokenKind) → follows k ≡ 0 → operator_in k ≡ None
no_operator (tok.Punctuator p.CloseParen) h = refl
no_operator (tok.Punctuator p.CloseBracket) h = refl
no_operator (tok.Punctuator p.CloseBrace) h = refl
no_operator (tok.Punctuator p.Comma) h = refl
no_operator (tok.Punctuator p.Semicolon) h = refl
no_operator (tok.Punctuator p.Colon) h = refl
no_operator (tok.Punctuator _) h = cc
no_operator (tok.Template a u) h = refl
no_operator tok.End h = refl
no_operator _ h = cc

pub behind_ends : (o : Outer) (x : Expr) (n c : ℕ) (t : Token) → follows t.kind ≡ 0 → behind o x n c t ≡ after_whole false o x t
behind_ends o x n c t h = ap (behind_by o x n c t) (no_operator t.kind h) ∙ operand_ends o x n t.place t.after_line_end t.kind h

-- where the operators get the same, a piece that binds less does the same
alike : (o : Outer) (f : Open) (x y : Expr) (n m c most : ℕ) (q : ℕ) (l : Bool) (k : TokenKind) → most ≤ 8
    → ((least : ℕ) → least ≤ most → fold least (f ∷ o.frames) x ≡ fold least o.frames y) → follows k ≤ most
    → behind_by (framed o (f ∷ o.frames)) x n c (record { place = q; after_line_end = l; kind = k }) (operator_in k) ≡ behind_by o y m c (record { place = q; after_line_end = l; kind = k }) (operator_in k)
alike o f x y n m c most q l (tok.Punctuator p.CloseParen) s g h = ap (on_folded false o (record { place = q; after_line_end = l; kind = tok.Punctuator p.CloseParen })) (g 0 h)
alike o f x y n m c most q l (tok.Punctuator p.CloseBracket) s g h = ap (on_folded false o (record { place = q; after_line_end = l; kind = tok.Punctuator p.CloseBracket })) (g 0 h)
alike o f x y n m c most q l (tok.Punctuator p.CloseBrace) s g h = ap (on_folded false o (record { place = q; after_line_end = l; kind = tok.Punctuator p.CloseBrace })) (g 0 h)
alike o f x y n m c most q l (tok.Punctuator p.Comma) s g h = ap (on_folded false o (record { place = q; after_line_end = l; kind = tok.Punctuator p.Comma })) (g 0 h)
alike o f x y n m c most q l (tok.Punctuator p.Semicolon) s g h = ap (on_folded false o (record { place = q; after_line_end = l; kind = tok.Punctuator p.Semicolon })) (g 0 h)
alike o f x y n m c most q l (tok.Punctuator p.Colon) s g h = ap (on_folded false o (record { place = q; after_line_end = l; kind = tok.Punctuator p.Colon })) (g 0 h)
alike o f x y n m c most q l (tok.Punctuator p.Question) s g h = ap (tests o) (g 1 h)
alike o f x y n m c most q l (tok.Punctuator p.QuestionQuestion) s g h = ap (joins_folded false o binary.Coalesce c (record { place = q; after_line_end = l; kind = tok.Punctuator p.QuestionQuestion })) (g 1 h)
alike o f x y n m c most q l (tok.Punctuator p.OrOr) s g h = ap (joins_folded false o binary.Or c (record { place = q; after_line_end = l; kind = tok.Punctuator p.OrOr })) (g 1 h)
alike o f x y n m c most q l (tok.Punctuator p.AndAnd) s g h = ap (joins_folded false o binary.And c (record { place = q; after_line_end = l; kind = tok.Punctuator p.AndAnd })) (g 2 h)
alike o f x y n m c most q l (tok.Punctuator p.Identical) s g h = ap (joins_folded false o binary.Identical c (record { place = q; after_line_end = l; kind = tok.Punctuator p.Identical })) (g 3 h)
alike o f x y n m c most q l (tok.Punctuator p.NotIdentical) s g h = ap (joins_folded false o binary.NotIdentical c (record { place = q; after_line_end = l; kind = tok.Punctuator p.NotIdentical })) (g 3 h)
alike o f x y n m c most q l (tok.Punctuator p.Less) s g h = ap (joins_folded false o binary.Less c (record { place = q; after_line_end = l; kind = tok.Punctuator p.Less })) (g 4 h)
alike o f x y n m c most q l (tok.Punctuator p.LessEqual) s g h = ap (joins_folded false o binary.LessEqual c (record { place = q; after_line_end = l; kind = tok.Punctuator p.LessEqual })) (g 4 h)
alike o f x y n m c most q l (tok.Punctuator p.Greater) s g h = ap (joins_folded false o binary.Greater c (record { place = q; after_line_end = l; kind = tok.Punctuator p.Greater })) (g 4 h)
alike o f x y n m c most q l (tok.Punctuator p.GreaterEqual) s g h = ap (joins_folded false o binary.GreaterEqual c (record { place = q; after_line_end = l; kind = tok.Punctuator p.GreaterEqual })) (g 4 h)
alike o f x y n m c most q l (tok.Punctuator p.Plus) s g h = ap (joins_folded false o binary.Add c (record { place = q; after_line_end = l; kind = tok.Punctuator p.Plus })) (g 5 h)
alike o f x y n m c most q l (tok.Punctuator p.Minus) s g h = ap (joins_folded false o binary.Subtract c (record { place = q; after_line_end = l; kind = tok.Punctuator p.Minus })) (g 5 h)
alike o f x y n m c most q l (tok.Punctuator p.Star) s g h = ap (joins_folded false o binary.Multiply c (record { place = q; after_line_end = l; kind = tok.Punctuator p.Star })) (g 6 h)
alike o f x y n m c most q l (tok.Punctuator p.Slash) s g h = ap (joins_folded false o binary.Divide c (record { place = q; after_line_end = l; kind = tok.Punctuator p.Slash })) (g 6 h)
alike o f x y n m c most q l (tok.Punctuator p.Percent) s g h = ap (joins_folded false o binary.Remainder c (record { place = q; after_line_end = l; kind = tok.Punctuator p.Percent })) (g 6 h)
alike o f x y n m c most q l (tok.Punctuator _) s g h = absurd (omega (arith, s, h))
alike o f x y n m c most q l (tok.Template a u) s g h = ap (on_folded false o (record { place = q; after_line_end = l; kind = tok.Template a u })) (g 0 (omega arith))
alike o f x y n m c most q l tok.End s g h = ap (on_folded false o (record { place = q; after_line_end = l; kind = tok.End })) (g 0 h)
alike o f x y n m c most q l _ s g h = absurd (omega (arith, s, h))

-- behind the operand of f, which the piece ends
pub behind_alike : (o : Outer) (f : Open) (x y : Expr) (n m c most : ℕ) (t : Token) → most ≤ 8
    → ((least : ℕ) → least ≤ most → fold least (f ∷ o.frames) x ≡ fold least o.frames y) → follows t.kind ≤ most
    → behind (framed o (f ∷ o.frames)) x n c t ≡ behind o y m c t
behind_alike o f x y n m c most t s g h = alike o f x y n m c most t.place t.after_line_end t.kind s g h

-- ---- an operand that was read

-- in the state behind an operand
pub operand_behind : (o : Outer) (x : Expr) (n : ℕ) (q : ℕ) (l : Bool) (k : TokenKind) → follows k ≤ 9
    → after_operand false o x n (record { place = q; after_line_end = l; kind = k }) ≡ behind_by o x n (chained o x) (record { place = q; after_line_end = l; kind = k }) (operator_in k)
operand_behind o x n q l (tok.Punctuator p.QuestionQuestion) h = binary_is o x binary.Coalesce (record { place = q; after_line_end = l; kind = tok.Punctuator p.QuestionQuestion })
operand_behind o x n q l (tok.Punctuator p.OrOr) h = binary_is o x binary.Or (record { place = q; after_line_end = l; kind = tok.Punctuator p.OrOr })
operand_behind o x n q l (tok.Punctuator p.AndAnd) h = binary_is o x binary.And (record { place = q; after_line_end = l; kind = tok.Punctuator p.AndAnd })
operand_behind o x n q l (tok.Punctuator p.Identical) h = binary_is o x binary.Identical (record { place = q; after_line_end = l; kind = tok.Punctuator p.Identical })
operand_behind o x n q l (tok.Punctuator p.NotIdentical) h = binary_is o x binary.NotIdentical (record { place = q; after_line_end = l; kind = tok.Punctuator p.NotIdentical })
operand_behind o x n q l (tok.Punctuator p.Less) h = binary_is o x binary.Less (record { place = q; after_line_end = l; kind = tok.Punctuator p.Less })
operand_behind o x n q l (tok.Punctuator p.LessEqual) h = binary_is o x binary.LessEqual (record { place = q; after_line_end = l; kind = tok.Punctuator p.LessEqual })
operand_behind o x n q l (tok.Punctuator p.Greater) h = binary_is o x binary.Greater (record { place = q; after_line_end = l; kind = tok.Punctuator p.Greater })
operand_behind o x n q l (tok.Punctuator p.GreaterEqual) h = binary_is o x binary.GreaterEqual (record { place = q; after_line_end = l; kind = tok.Punctuator p.GreaterEqual })
operand_behind o x n q l (tok.Punctuator p.Plus) h = binary_is o x binary.Add (record { place = q; after_line_end = l; kind = tok.Punctuator p.Plus })
operand_behind o x n q l (tok.Punctuator p.Minus) h = binary_is o x binary.Subtract (record { place = q; after_line_end = l; kind = tok.Punctuator p.Minus })
operand_behind o x n q l (tok.Punctuator p.Star) h = binary_is o x binary.Multiply (record { place = q; after_line_end = l; kind = tok.Punctuator p.Star })
operand_behind o x n q l (tok.Punctuator p.Slash) h = binary_is o x binary.Divide (record { place = q; after_line_end = l; kind = tok.Punctuator p.Slash })
operand_behind o x n q l (tok.Punctuator p.Percent) h = binary_is o x binary.Remainder (record { place = q; after_line_end = l; kind = tok.Punctuator p.Percent })
operand_behind o x n q l (tok.Punctuator _) h = refl
operand_behind o x n q l _ h = refl

-- .. which nothing may continue
pub updated_behind : (o : Outer) (x : Expr) (n : ℕ) (q : ℕ) (l : Bool) (k : TokenKind) → follows k ≤ 8
    → after_value false o x (record { place = q; after_line_end = l; kind = k }) ≡ after_operand false o x n (record { place = q; after_line_end = l; kind = k })
updated_behind o x n q l (tok.Punctuator p.Dot) h = absurd (omega (arith, h))
updated_behind o x n q l (tok.Punctuator p.OpenParen) h = absurd (omega (arith, h))
updated_behind o x n q l (tok.Punctuator p.OpenBracket) h = absurd (omega (arith, h))
updated_behind o x n q l (tok.Punctuator p.PlusPlus) h = absurd (omega (arith, h))
updated_behind o x n q l (tok.Punctuator p.MinusMinus) h = absurd (omega (arith, h))
updated_behind o x n q l (tok.Punctuator p.Equal) h = absurd (omega (arith, h))
updated_behind o x n q l (tok.Punctuator p.PlusEqual) h = absurd (omega (arith, h))
updated_behind o x n q l (tok.Punctuator p.MinusEqual) h = absurd (omega (arith, h))
updated_behind o x n q l (tok.Punctuator p.Arrow) h = absurd (omega (arith, h))
updated_behind o x n q l (tok.Punctuator _) h = refl
updated_behind o x n q l _ h = refl

-- ---- what ends with a value

-- the value of a tail is that of its outer
pub tail_ends : (o : Outer) (c : ℕ) (a : Tail) (x : Expr) (t : Token) → needs o.frames ≤ 0 → after_whole false (push_at o c (frame.Tail a)) x t ≡ after_whole false o (end_tail a x) t
tail_ends o c a x t h = sym (ap (on_folded false o t) (no_fold 0 o.frames (end_tail a x) h (omega (arith, h))))

-- .. and a whole value is for its purpose
pub purpose_ends : (o : Outer) (c : ℕ) (v : Purpose) (x : Expr) (t : Token) → after_whole false (push_at o c (frame.Purpose v)) x t ≡ on_value false o v x t
purpose_ends o c v x t = refl

-- ---- where an operand stands

pub whole_is : (fs : List Open) → needs fs ≤ 0 → (o : Outer) → o.frames ≡ fs → is_whole o ≡ true
whole_is fs h o e = ap (λ (z : List Open). is_whole (framed o z)) e ∙ by_frames fs h
  where
    by_frame : (a : Frame) → frame_needs a ≤ 0 → (c : ℕ) (gs : List Open) → is_whole (framed o (opened c a ∷ gs)) ≡ true
    by_frame (frame.Operator (operator.Binary l b)) h c gs = absurd (omega (arith, h))
    by_frame (frame.Operator (operator.Unary b)) h c gs = absurd (omega (arith, h))
    by_frame (frame.Operator (operator.Await b)) h c gs = absurd (omega (arith, h))
    by_frame (frame.Operator (operator.Update b)) h c gs = absurd (omega (arith, h))
    by_frame (frame.Tail a) h c gs = refl
    by_frame (frame.Purpose a) h c gs = refl
    by_frame (frame.Body a) h c gs = refl
    by_frame (frame.Block a b) h c gs = refl
    by_frame frame.Export h c gs = refl

    by_frames : (fs : List Open) → needs fs ≤ 0 → is_whole (framed o fs) ≡ true
    by_frames [] h = refl
    by_frames (f ∷ gs) h = by_frame f.frame h f.constructs gs

pub whole : (o : Outer) → needs o.frames ≤ 0 → is_whole o ≡ true
whole o h = whole_is o.frames h o refl

pub prefix_is : (o : Outer) (x : Operator) → needs o.frames ≤ 7 → prefix o x ≡ wait_operand o (plus (constructs o) 1) x
prefix_is o x h = by_frames o.frames h
  where
    by_frame : (a : Frame) → frame_needs a ≤ 7 → prefix_at o x (position_in (Some a)) ≡ wait_operand o (plus (constructs o) 1) x
    by_frame (frame.Operator (operator.Binary l b)) h = refl
    by_frame (frame.Operator (operator.Unary b)) h = refl
    by_frame (frame.Operator (operator.Await b)) h = refl
    by_frame (frame.Operator (operator.Update b)) h = absurd (omega (arith, h))
    by_frame (frame.Tail a) h = refl
    by_frame (frame.Purpose a) h = refl
    by_frame (frame.Body a) h = refl
    by_frame (frame.Block a b) h = refl
    by_frame frame.Export h = refl

    by_frames : (fs : List Open) → needs fs ≤ 7 → prefix_at o x (position_in (first_frame fs)) ≡ wait_operand o (plus (constructs o) 1) x
    by_frames [] h = refl
    by_frames (f ∷ gs) h = by_frame f.frame h

pub update_is : (o : Outer) (u : UpdateOp) (y : Expr) (t : Token) → needs o.frames ≤ 8 → update_at false o u y t (position o) ≡ update_of false o u t (target_of y)
update_is o u y t h = by_frames o.frames h
  where
    by_frame : (a : Frame) → frame_needs a ≤ 8 → update_at false o u y t (position_in (Some a)) ≡ update_of false o u t (target_of y)
    by_frame (frame.Operator (operator.Binary l b)) h = refl
    by_frame (frame.Operator (operator.Unary b)) h = refl
    by_frame (frame.Operator (operator.Await b)) h = refl
    by_frame (frame.Operator (operator.Update b)) h = absurd (omega (arith, h))
    by_frame (frame.Tail a) h = refl
    by_frame (frame.Purpose a) h = refl
    by_frame (frame.Body a) h = refl
    by_frame (frame.Block a b) h = refl
    by_frame frame.Export h = refl

    by_frames : (fs : List Open) → needs fs ≤ 8 → update_at false o u y t (position_in (first_frame fs)) ≡ update_of false o u t (target_of y)
    by_frames [] h = refl
    by_frames (f ∷ gs) h = by_frame f.frame h

pub nothing_waits : (o : Outer) → needs o.frames ≤ 0 → waiting o ≡ logic.Other
nothing_waits o h = by_frames o.frames h
  where
    by_frame : (a : Frame) → frame_needs a ≤ 0 → waiting_in (Some a) ≡ logic.Other
    by_frame (frame.Operator (operator.Binary l b)) h = absurd (omega (arith, h))
    by_frame (frame.Operator (operator.Unary b)) h = refl
    by_frame (frame.Operator (operator.Await b)) h = refl
    by_frame (frame.Operator (operator.Update b)) h = refl
    by_frame (frame.Tail a) h = refl
    by_frame (frame.Purpose a) h = refl
    by_frame (frame.Body a) h = refl
    by_frame (frame.Block a b) h = refl
    by_frame frame.Export h = refl

    by_frames : (fs : List Open) → needs fs ≤ 0 → waiting_in (first_frame fs) ≡ logic.Other
    by_frames [] h = refl
    by_frames (f ∷ gs) h = by_frame f.frame h

-- a binary operator waits for its right operand
pub joins_is : (o : Outer) (b : BinaryOp) (l : Expr) (c : ℕ) (t : Token) → needs o.frames ≤ strength b → are_mixed (logic_of b) (outermost l) ≡ false → are_mixed (logic_of b) (waiting o) ≡ false
    → joins_folded false o b c t (fold (strength b) o.frames l) ≡ wait_operand o (plus c 1) (operator.Binary l b)
joins_is o b l c t h e g = let s = strength_small b in
    ap (joins_folded false o b c t) (no_fold (strength b) o.frames l h (omega arith))
    ∙ ap (λ (z : Bool). cond (z || are_mixed (logic_of b) (waiting o)) (after_whole false o l t) (wait_operand o (plus c 1) (operator.Binary l b))) e
    ∙ ap (λ (z : Bool). cond z (after_whole false o l t) (wait_operand o (plus c 1) (operator.Binary l b))) g

-- ---- operators that are not mixed

abbrev pub logic_in : shapes.Logic → Logic
logic_in shapes.Coalescing = logic.Coalescing
logic_in shapes.AndOr = logic.AndOr
logic_in shapes.NoLogic = logic.Other

-- how tightly such an operator binds at most
abbrev pub logic_level : shapes.Logic → ℕ
logic_level shapes.Coalescing = 1
logic_level shapes.AndOr = 2
logic_level shapes.NoLogic = 9

pub logic_is : (b : BinaryOp) → logic_of b ≡ logic_in (shapes.logic b)
logic_is binary.Coalesce = refl
logic_is binary.Or = refl
logic_is binary.And = refl
logic_is binary.Identical = refl
logic_is binary.NotIdentical = refl
logic_is binary.Less = refl
logic_is binary.LessEqual = refl
logic_is binary.Greater = refl
logic_is binary.GreaterEqual = refl
logic_is binary.Add = refl
logic_is binary.Subtract = refl
logic_is binary.Multiply = refl
logic_is binary.Divide = refl
logic_is binary.Remainder = refl

pub record Outermost (x : Expr) : Type 0 where
  pub same : outermost x ≡ logic_in (shapes.of_expr x).logic
  pub small : (shapes.of_expr x).level ≤ logic_level (shapes.of_expr x).logic

abbrev shape_layer : Node → shapes.ExprLayer
shape_layer y = map-Expr ArrowBody Expr ForBegin Property Stmt Target Catch Declaration Function TemplateItem Bool shapes.Shape Bool Bool shapes.StmtShape shapes.Shape Bool shapes.DeclaredShape Bool Bool shapes.of_arrow_body shapes.of_expr shapes.of_for shapes.of_property shapes.of_stmt shapes.of_target shapes.of_catch shapes.of_declaration shapes.of_function shapes.of_template y

layer_same : (y : Node) → outermost_node y ≡ logic_in (shapes.expr_step (shape_layer y)).logic
layer_same (Expr-F.Binary b l r) = logic_is b
layer_same (Expr-F.Update side.Before b x) = refl
layer_same (Expr-F.Update side.Behind b x) = refl
layer_same _ = refl

binary_small : (b : BinaryOp) → strength b ≤ logic_level (shapes.logic b)
binary_small binary.Coalesce = omega arith
binary_small binary.Or = omega arith
binary_small binary.And = omega arith
binary_small binary.Identical = omega arith
binary_small binary.NotIdentical = omega arith
binary_small binary.Less = omega arith
binary_small binary.LessEqual = omega arith
binary_small binary.Greater = omega arith
binary_small binary.GreaterEqual = omega arith
binary_small binary.Add = omega arith
binary_small binary.Subtract = omega arith
binary_small binary.Multiply = omega arith
binary_small binary.Divide = omega arith
binary_small binary.Remainder = omega arith

layer_small : (y : Node) → (shapes.expr_step (shape_layer y)).level ≤ logic_level (shapes.expr_step (shape_layer y)).logic
layer_small (Expr-F.Binary b l r) = binary_small b
layer_small (Expr-F.Update side.Before b x) = omega arith
layer_small (Expr-F.Update side.Behind b x) = omega arith
layer_small _ = omega arith

layer_is : (y : Node) → shapes.of_expr (roll-Expr y) ≡ shapes.expr_step (shape_layer y)
layer_is y = fold-roll-Expr Bool shapes.Shape Bool Bool shapes.StmtShape shapes.Shape Bool shapes.DeclaredShape Bool Bool shapes.arrow_body_step shapes.expr_step shapes.for_step shapes.property_step shapes.stmt_step shapes.target_step shapes.catch_step shapes.declaration_step shapes.function_step shapes.template_step y

pub outermost_is : (x : Expr) → Outermost x
outermost_is x = subst Outermost (roll-out-Expr x) (by_node (out-Expr x))
  where
    by_node : (y : Node) → Outermost (roll-Expr y)
    by_node y = record {
      same = ap outermost_node (out-roll-Expr y) ∙ layer_same y ∙ ap (λ (z : shapes.Shape). logic_in z.logic) (sym (layer_is y));
      small = subst (λ (z : shapes.Shape). z.level ≤ logic_level z.logic) (sym (layer_is y)) (layer_small y);
    }

-- no such operator stands outermost where an operand binds more tightly than they do
pub tight : (a : Logic) (x : Expr) → 3 ≤ (shapes.of_expr x).level → are_mixed a (logic_in (shapes.of_expr x).logic) ≡ false
tight a x h = let s = (outermost_is x).small in by_logic a (shapes.of_expr x).logic (omega arith)
  where
    by_logic : (a : Logic) (b : shapes.Logic) → 3 ≤ logic_level b → are_mixed a (logic_in b) ≡ false
    by_logic a shapes.Coalescing h = absurd (omega (arith, h))
    by_logic a shapes.AndOr h = absurd (omega (arith, h))
    by_logic logic.Coalescing shapes.NoLogic h = refl
    by_logic logic.AndOr shapes.NoLogic h = refl
    by_logic logic.Other shapes.NoLogic h = refl

-- the operands of a binary operator
pub unmixed_left : (b : BinaryOp) (x y : shapes.Shape) → shapes.unmixed (shapes.logic b) x y ≡ true → are_mixed (logic_of b) (logic_in x.logic) ≡ false
unmixed_left b x y h = ap (λ (z : Logic). are_mixed z (logic_in x.logic)) (logic_is b) ∙ by_logic (shapes.logic b) x.logic y.logic h
  where
    by_logic : (a l r : shapes.Logic) → shapes.unmixed a (record { fits = x.fits; level = x.level; first = x.first; logic = l }) (record { fits = y.fits; level = y.level; first = y.first; logic = r }) ≡ true → are_mixed (logic_in a) (logic_in l) ≡ false
    by_logic shapes.Coalescing shapes.AndOr r h = cc
    by_logic shapes.Coalescing shapes.Coalescing r h = refl
    by_logic shapes.Coalescing shapes.NoLogic r h = refl
    by_logic shapes.AndOr shapes.Coalescing r h = cc
    by_logic shapes.AndOr shapes.AndOr r h = refl
    by_logic shapes.AndOr shapes.NoLogic r h = refl
    by_logic shapes.NoLogic l r h = refl

pub unmixed_right : (b : BinaryOp) (x y : shapes.Shape) → shapes.unmixed (shapes.logic b) x y ≡ true → are_mixed (logic_of b) (logic_in y.logic) ≡ false
unmixed_right b x y h = ap (λ (z : Logic). are_mixed z (logic_in y.logic)) (logic_is b) ∙ by_logic (shapes.logic b) x.logic y.logic h
  where
    by_logic : (a l r : shapes.Logic) → shapes.unmixed a (record { fits = x.fits; level = x.level; first = x.first; logic = l }) (record { fits = y.fits; level = y.level; first = y.first; logic = r }) ≡ true → are_mixed (logic_in a) (logic_in r) ≡ false
    by_logic shapes.Coalescing shapes.Coalescing shapes.AndOr h = cc
    by_logic shapes.Coalescing shapes.AndOr shapes.AndOr h = cc
    by_logic shapes.Coalescing shapes.NoLogic shapes.AndOr h = cc
    by_logic shapes.Coalescing l shapes.Coalescing h = refl
    by_logic shapes.Coalescing l shapes.NoLogic h = refl
    by_logic shapes.AndOr shapes.Coalescing shapes.Coalescing h = cc
    by_logic shapes.AndOr shapes.AndOr shapes.Coalescing h = cc
    by_logic shapes.AndOr shapes.NoLogic shapes.Coalescing h = cc
    by_logic shapes.AndOr l shapes.AndOr h = refl
    by_logic shapes.AndOr l shapes.NoLogic h = refl
    by_logic shapes.NoLogic l r h = refl

unmixed_under : (w b : BinaryOp) (l : shapes.Logic) → strength w + 1 ≤ strength b → strength b ≤ logic_level l → are_mixed (logic_of w) (logic_of b) ≡ false → are_mixed (logic_of w) (logic_in l) ≡ false
unmixed_under w b shapes.NoLogic h g e = by_op w
  where
    by_op : (a : BinaryOp) → are_mixed (logic_of a) logic.Other ≡ false
    by_op binary.Coalesce = refl
    by_op binary.Or = refl
    by_op binary.And = refl
    by_op _ = refl
unmixed_under w b shapes.Coalescing h g e = let s = strength_some w in absurd (omega (arith, h, g, s))
unmixed_under binary.Coalesce binary.And shapes.AndOr h g e = cc
unmixed_under binary.Coalesce binary.Coalesce shapes.AndOr h g e = absurd (omega (arith, h))
unmixed_under binary.Coalesce binary.Or shapes.AndOr h g e = absurd (omega (arith, h))
unmixed_under binary.Coalesce _ shapes.AndOr h g e = absurd (omega (arith, g))
unmixed_under binary.Or b shapes.AndOr h g e = refl
unmixed_under binary.And b shapes.AndOr h g e = refl
unmixed_under _ b shapes.AndOr h g e = refl

-- what waits before the left operand waits before the operator
pub left_unmixed : (o : Outer) (b : BinaryOp) (l : Expr) → needs o.frames ≤ strength b → strength b ≤ (shapes.of_expr l).level → are_mixed (waiting o) (logic_of b) ≡ false
    → are_mixed (waiting o) (logic_in (shapes.of_expr l).logic) ≡ false
left_unmixed o b l h g e = let s = (outermost_is l).small in by_frames o.frames h (omega (arith, g, s)) e
  where
    by_frame : (a : Frame) → frame_needs a ≤ strength b → strength b ≤ logic_level (shapes.of_expr l).logic → are_mixed (waiting_in (Some a)) (logic_of b) ≡ false → are_mixed (waiting_in (Some a)) (logic_in (shapes.of_expr l).logic) ≡ false
    by_frame (frame.Operator (operator.Binary y w)) h g e = unmixed_under w b (shapes.of_expr l).logic h g e
    by_frame (frame.Operator (operator.Unary w)) h g e = refl
    by_frame (frame.Operator (operator.Await w)) h g e = refl
    by_frame (frame.Operator (operator.Update w)) h g e = refl
    by_frame (frame.Tail a) h g e = refl
    by_frame (frame.Purpose a) h g e = refl
    by_frame (frame.Body a) h g e = refl
    by_frame (frame.Block a c) h g e = refl
    by_frame frame.Export h g e = refl

    by_frames : (fs : List Open) → needs fs ≤ strength b → strength b ≤ logic_level (shapes.of_expr l).logic → are_mixed (waiting_in (first_frame fs)) (logic_of b) ≡ false → are_mixed (waiting_in (first_frame fs)) (logic_in (shapes.of_expr l).logic) ≡ false
    by_frames [] h g e = refl
    by_frames (f ∷ gs) h g e = by_frame f.frame h g e

-- .. in either order
pub mixed_either : (a b : Logic) → are_mixed a b ≡ are_mixed b a
mixed_either logic.Coalescing logic.Coalescing = refl
mixed_either logic.Coalescing logic.AndOr = refl
mixed_either logic.Coalescing logic.Other = refl
mixed_either logic.AndOr logic.Coalescing = refl
mixed_either logic.AndOr logic.AndOr = refl
mixed_either logic.AndOr logic.Other = refl
mixed_either logic.Other logic.Coalescing = refl
mixed_either logic.Other logic.AndOr = refl
mixed_either logic.Other logic.Other = refl
