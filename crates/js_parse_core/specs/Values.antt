-- What a token does behind a value.
use Rattle.std.specs.Prelude.{ℕ, Bool, true, false, cond, ◌||◌, nat_le, List, [], ◌∷◌, ◌++◌, Option, Some, None, Result, Ok, Err}
use Rattle.js_lex.specs.declared.token.Punctuator.{Punctuator}
use Rattle.js_lex.specs.declared.token.Punctuator.TheVariants as p
use Rattle.js_lex.specs.declared.token.TemplatePart.TheVariants as part
use Rattle.js_lex.specs.declared.token.TokenKind.{TokenKind}
use Rattle.js_lex.specs.declared.token.TokenKind.TheVariants as tok
use Rattle.js_lex.specs.declared.token.Token.{Token}
use Rattle.js_tree.specs.Targets.{target_of, Node}
use Rattle.js_tree.specs.declared.tree.ArrowBody.TheOpen.{Expr-F}
use Rattle.js_tree.specs.declared.tree.ArrowBody.TheVariants as arrow_body
use Rattle.js_tree.specs.declared.tree.BinaryOp.{BinaryOp}
use Rattle.js_tree.specs.declared.tree.BinaryOp.TheVariants as binary
use Rattle.js_tree.specs.declared.tree.Expr.{Expr, out-Expr}
use Rattle.js_tree.specs.declared.tree.Expr.TheVariants as expr
use Rattle.js_tree.specs.declared.tree.ForBegin.TheVariants as for_begin
use Rattle.js_tree.specs.declared.tree.Property.{Property}
use Rattle.js_tree.specs.declared.tree.Property.TheVariants as property
use Rattle.js_tree.specs.declared.tree.Stmt.TheVariants as stmt
use Rattle.js_tree.specs.declared.tree.Target.{Target}
use Rattle.js_tree.specs.declared.tree.TemplateItem.{TemplateItem, roll-TemplateItem}
use Rattle.js_tree.specs.declared.tree.UpdateSide.TheVariants as side
use Rattle.js_words.specs.declared.word.Spot.{Spot}
use Rattle.js_words.specs.declared.word.Spot.TheVariants as spot
use Rattle.js_parse_core.specs.declared.machine.At.{At}
use Rattle.js_parse_core.specs.declared.machine.At.TheVariants as at
use Rattle.js_parse_core.specs.declared.machine.Body.{Body}
use Rattle.js_parse_core.specs.declared.machine.Body.TheVariants as body
use Rattle.js_parse_core.specs.declared.machine.Callee.{Callee}
use Rattle.js_parse_core.specs.declared.machine.Callee.TheVariants as callee
use Rattle.js_parse_core.specs.declared.machine.Declared.{Declared}
use Rattle.js_parse_core.specs.declared.machine.Frame.{Frame}
use Rattle.js_parse_core.specs.declared.machine.Frame.TheVariants as frame
use Rattle.js_parse_core.specs.declared.machine.Open.{Open}
use Rattle.js_parse_core.specs.declared.machine.Operator.{Operator}
use Rattle.js_parse_core.specs.declared.machine.Operator.TheVariants as operator
use Rattle.js_parse_core.specs.declared.machine.Outer.{Outer}
use Rattle.js_parse_core.specs.declared.machine.Purpose.{Purpose}
use Rattle.js_parse_core.specs.declared.machine.Purpose.TheVariants as purpose
use Rattle.js_parse_core.specs.declared.machine.Refusal.{Refusal}
use Rattle.js_parse_core.specs.declared.machine.Tail.{Tail}
use Rattle.js_parse_core.specs.declared.machine.Tail.TheVariants as tail
use Rattle.js_parse_core.specs.declared.machine.Logic.{Logic}
use Rattle.js_parse_core.specs.declared.machine.Logic.TheVariants as logic
use Rattle.js_parse_core.specs.Outer.{Step, because, refuse, refuse_at, to, plus, framed, constructs, innermost, without, wait, wait_operand, wait_tail, wait_body}
use Rattle.js_grammar.specs.Shapes.{strength}
use Rattle.js_parse_core.specs.Statements.{end, with_declaration}
use Rattle.js_parse_core.specs.Objects.{close_object}
use Rattle.js_parse_core.specs.Tokens.{is_close_paren, is_close_bracket, is_semicolon, is_comma, is_colon}

-- ---- operators

-- the operator between two operands which a sign is, if it is one (ECMA-262, sections 13.7 to 13.13)
abbrev pub binary_op : Punctuator → Option BinaryOp
binary_op p.QuestionQuestion = Some binary.Coalesce
binary_op p.OrOr = Some binary.Or
binary_op p.AndAnd = Some binary.And
binary_op p.Identical = Some binary.Identical
binary_op p.NotIdentical = Some binary.NotIdentical
binary_op p.Less = Some binary.Less
binary_op p.LessEqual = Some binary.LessEqual
binary_op p.Greater = Some binary.Greater
binary_op p.GreaterEqual = Some binary.GreaterEqual
binary_op p.Plus = Some binary.Add
binary_op p.Minus = Some binary.Subtract
binary_op p.Star = Some binary.Multiply
binary_op p.Slash = Some binary.Divide
binary_op p.Percent = Some binary.Remainder
binary_op _ = None

-- which of the operators that are not mixed one is: `??`, or `||` and `&&`, or none of them
abbrev pub logic_of : BinaryOp → Logic
logic_of binary.Coalesce = logic.Coalescing
logic_of binary.Or = logic.AndOr
logic_of binary.And = logic.AndOr
logic_of _ = logic.Other

-- one is `??`, and the other `||` or `&&` (ECMA-262, section 13.13)
abbrev pub are_mixed : Logic → Logic → Bool
are_mixed logic.Coalescing logic.AndOr = true
are_mixed logic.AndOr logic.Coalescing = true
are_mixed _ _ = false

-- which of the operators that are not mixed stands outermost in a node of the tree
abbrev pub outermost_node : Node → Logic
outermost_node (Expr-F.Binary o x y) = logic_of o
outermost_node _ = logic.Other

-- which of the operators that are not mixed stands outermost in an expression
abbrev pub outermost : Expr → Logic
outermost x = outermost_node (out-Expr x)

-- which of the operators that are not mixed waits for its operand
abbrev pub operator_logic : Operator → Logic
operator_logic (operator.Binary x o) = logic_of o
operator_logic _ = logic.Other

-- the operator that waits in this frame, if one does
abbrev pub waiting_in : Option Frame → Logic
waiting_in (Some (frame.Operator o)) = operator_logic o
waiting_in _ = logic.Other

-- the operator that waits, if one does
abbrev pub waiting : Outer → Logic
waiting o = waiting_in (innermost o)

-- the operator binds at least so tightly as `least`; prefix operators always do
abbrev pub operator_binds : ℕ → Operator → Bool
operator_binds least (operator.Binary x o) = nat_le least (strength o)
operator_binds least _ = true

-- ---- the operators that bind at least so tightly get their operand

-- the frames that are still open, and the value within them
pub record Over : Type 0 where
  pub frames : List Open
  pub value : Expr

-- the frames and the value when operators got their operands, or why one of them is refused
abbrev pub Folded : Type 0
Folded = Result Over Refusal

-- these frames are still open, and this is the value within them
abbrev pub over : List Open → Expr → Folded
over fs x = Ok (record { frames = fs; value = x })

-- what `++` and `--` write
abbrev pub updated : Result Target Expr → (Target → Expr) → Result Expr Refusal
updated (Ok t) f = Ok (f t)
updated (Err x) f = Err (because None None)

-- the expression of an operator and its last operand
abbrev pub apply : Operator → Expr → Result Expr Refusal
apply (operator.Binary l o) x = Ok (expr.Binary o l x)
apply (operator.Unary o) x = Ok (expr.Unary o x)
apply (operator.Await q) x = Ok (expr.Await q x)
apply (operator.Update o) x = updated (target_of x) (λ t. expr.Update side.Before o t)

-- what is done with the expression that was made, or the refusal in its place
abbrev pub applied : Result Expr Refusal → (Expr → Folded) → Folded
applied (Ok x) go = go x
applied (Err k) go = Err k

-- a value within a frame: it is the operand of an operator that binds so tightly, else the frame stays open
abbrev pub fold_frame : ℕ → Open → Frame → List Open → Expr → (Expr → Folded) → Folded
fold_frame least f (frame.Operator o) fs x go = cond (operator_binds least o) (applied (apply o x) go) (over (f ∷ fs) x)
fold_frame least f _ fs x go = over (f ∷ fs) x

-- the innermost operators that bind at least so tightly get their operands
abbrev pub fold : ℕ → List Open → Expr → Folded
fold least [] x = over [] x
fold least (f ∷ fs) x = fold_frame least f f.frame fs x (λ y. fold least fs y)

-- an assignment, a conditional or an arrow, with the value at its end
abbrev pub end_tail : Tail → Expr → Expr
end_tail (tail.Assign o t) x = expr.Assign o t x
end_tail (tail.Else test a) x = expr.Conditional test a x
end_tail (tail.Arrow a ns) x = expr.Arrow a ns (arrow_body.Value x)

-- a value within a frame: the frame ends if it ends with a value, else it stays open
abbrev pub fold_tail : Open → Frame → List Open → Expr → (Expr → Over) → Over
fold_tail f (frame.Tail t) fs x go = go (end_tail t x)
fold_tail f _ fs x go = record { frames = f ∷ fs; value = x }

-- what ends with the value ends
abbrev pub fold_tails : List Open → Expr → Over
fold_tails [] x = record { frames = []; value = x }
fold_tails (f ∷ fs) x = fold_tail f f.frame fs x (λ y. fold_tails fs y)

-- ---- a value is whole, and a token stands behind it

-- a call, or `new`, with these arguments is an operand (ECMA-262, sections 13.3.5 and 13.3.6)
abbrev pub call : Outer → Callee → List Expr → Step
call o (callee.Value x n) xs = to o (at.Operand (expr.Call x xs) (plus n 1))
call o (callee.New n) xs = to o (at.Operand (expr.New n xs) 0)

-- a token behind an argument, which must be a comma or `)`
abbrev pub on_argument_end : Outer → Callee → List Expr → TokenKind → Step
on_argument_end o c xs (tok.Punctuator p.Comma) = to o (at.NextArgument c xs)
on_argument_end o c xs (tok.Punctuator p.CloseParen) = call o c xs
on_argument_end o c xs _ = refuse_at spot.OperandEnd

-- a token behind an item of an array, which must be a comma or `]`
abbrev pub on_element_end : Outer → List Expr → TokenKind → Step
on_element_end o xs (tok.Punctuator p.Comma) = to o (at.NextElement xs)
on_element_end o xs (tok.Punctuator p.CloseBracket) = to o (at.Operand (expr.Array xs) 0)
on_element_end o xs _ = refuse_at spot.OperandEnd

-- a token behind the value of a member in an object, which must be a comma or `}`
abbrev pub on_pair_end : Outer → List Property → TokenKind → Step
on_pair_end o xs (tok.Punctuator p.Comma) = to o (at.Key xs)
on_pair_end o xs (tok.Punctuator p.CloseBrace) = close_object o xs
on_pair_end o xs _ = refuse_at spot.OperandEnd

-- a token behind an expression in a template, which must be the template's next part
abbrev pub on_hole_end : Outer → List TemplateItem → TokenKind → Step
on_hole_end o is (tok.Template part.Middle u) = wait o 1 (purpose.Hole is u)
on_hole_end o is (tok.Template part.Tail u) = to o (at.Operand (expr.Template is u) 0)
on_hole_end o is _ = refuse_at spot.OperandEnd

-- the spot at which a lone name that is a statement may have the word of a label
abbrev pub label_before : Node → Option Spot
label_before (Expr-F.Name n) = Some spot.StatementBegin
label_before _ = None

-- a name that `:` follows is a label
abbrev pub on_statement_end : Bool → Outer → Expr → Token → Step
on_statement_end auto o x t = end auto o (stmt.Expr x) t (because (label_before (out-Expr x)) (Some spot.OperandEnd))

-- a token behind the value of the last declaration: `;` within a `for`, else the statement's end
abbrev pub on_initial_done : Bool → Outer → Declared → Token → Bool → Step
on_initial_done auto o d t false = end auto o (stmt.Declare d.kind d.declarations) t (because None (Some spot.OperandEnd))
on_initial_done auto o d t true = cond (is_semicolon t.kind) (to o (at.ForTest (for_begin.Declarations d.kind d.declarations))) (refuse_at spot.OperandEnd)

-- a token behind the value of a declaration: a comma, or the end of the declarations
abbrev pub on_initial_end : Bool → Outer → Declared → Token → Step
on_initial_end auto o d t = cond (is_comma t.kind) (to o (at.DeclaredName d)) (on_initial_done auto o d t d.in_for)

-- a token behind the last expression in a statement's head, which must be `)`
abbrev pub on_head_end : Outer → Body → Token → Step
on_head_end o b t = cond (is_close_paren t.kind) (wait_body o b) (refuse_at spot.OperandEnd)

-- this was read then, where the token is the one that ends the part; else it is refused
abbrev pub on_part_end : Outer → At → Bool → Step
on_part_end o a true = to o a
on_part_end o a false = refuse_at spot.OperandEnd

-- a token behind `test ? yes`, which must be `:` (ECMA-262, section 13.14)
abbrev pub on_then_end : Outer → Expr → Expr → Token → Step
on_then_end o test x t = cond (is_colon t.kind) (wait_tail o (tail.Else test x)) (refuse_at spot.OperandEnd)

-- a token behind a whole value, by what the value is for
abbrev pub on_value : Bool → Outer → Purpose → Expr → Token → Step
on_value auto o (purpose.Then test) x t = on_then_end o test x t
on_value auto o purpose.Group x t = on_part_end o (at.Operand (expr.Group x) 0) (is_close_paren t.kind)
on_value auto o (purpose.Argument c xs) x t = on_argument_end o c (xs ++ x ∷ []) t.kind
on_value auto o (purpose.Index y n) x t = on_part_end o (at.Operand (expr.Index y x) (plus n 1)) (is_close_bracket t.kind)
on_value auto o (purpose.Element xs) x t = on_element_end o (xs ++ x ∷ []) t.kind
on_value auto o (purpose.Pair xs k) x t = on_pair_end o (xs ++ property.Pair k x ∷ []) t.kind
on_value auto o (purpose.Hole is u) x t = on_hole_end o (is ++ roll-TemplateItem (record { units = u; value = x }) ∷ []) t.kind
on_value auto o purpose.If x t = on_head_end o (body.Then x) t
on_value auto o purpose.While x t = on_head_end o (body.While x) t
on_value auto o (purpose.ForOf k n) x t = on_head_end o (body.ForOf k n x) t
on_value auto o (purpose.ForUpdate b test) x t = on_head_end o (body.For b test (Some x)) t
on_value auto o purpose.ForStart x t = on_part_end o (at.ForTest (for_begin.Start x)) (is_semicolon t.kind)
on_value auto o (purpose.ForTest b) x t = on_part_end o (at.ForUpdate b (Some x)) (is_semicolon t.kind)
on_value auto o purpose.Statement x t = on_statement_end auto o x t
on_value auto o (purpose.Initial d n) x t = on_initial_end auto o (with_declaration d n (Some x)) t
on_value auto o (purpose.Return q) x t = end auto o (stmt.Return q (Some x)) t (because None (Some spot.OperandEnd))
on_value auto o purpose.Throw x t = end auto o (stmt.Throw x) t (because None (Some spot.OperandEnd))

-- a token behind a whole value within this frame, which must wait for one
abbrev pub on_frame : Bool → Outer → Expr → Token → Option Frame → Step
on_frame auto o x t (Some (frame.Purpose w)) = on_value auto o w x t
on_frame auto o x t _ = refuse

-- a token behind a value, when all that ends with the value has ended
abbrev pub on_over : Bool → Outer → Token → Over → Step
on_over auto o t v = on_frame auto (without (framed o v.frames)) v.value t (innermost (framed o v.frames))

-- a token behind a value, when the operators before it got their operands, or one was refused
abbrev pub on_folded : Bool → Outer → Token → Folded → Step
on_folded auto o t (Ok v) = on_over auto o t (fold_tails v.frames v.value)
on_folded auto o t (Err k) = Err k

-- a token behind a value that no operator follows
abbrev pub after_whole : Bool → Outer → Expr → Token → Step
after_whole auto o x t = on_folded auto o t (fold 0 o.frames x)

-- ---- a binary operator, or `?`

-- a binary operator behind its left operand; the value ends where the operator may not be mixed with its neighbours
abbrev pub joins : Bool → Outer → BinaryOp → ℕ → Token → Over → Step
joins auto o x n t v = cond (are_mixed (logic_of x) (outermost v.value) || are_mixed (logic_of x) (waiting (framed o v.frames)))
    (after_whole auto (framed o v.frames) v.value t)
    (wait_operand (framed o v.frames) (plus n 1) (operator.Binary v.value x))

-- a binary operator behind its left operand, if no operator within that one was refused
abbrev pub joins_folded : Bool → Outer → BinaryOp → ℕ → Token → Folded → Step
joins_folded auto o x n t (Ok v) = joins auto o x n t v
joins_folded auto o x n t (Err k) = Err k

-- prefix operators end before a binary one, and the operators of its chain do not
abbrev pub binary_behind : Bool → Outer → BinaryOp → Token → Folded → Step
binary_behind auto o x t (Ok v) = joins_folded auto o x (constructs (framed o v.frames)) t (fold (strength x) v.frames v.value)
binary_behind auto o x t (Err k) = Err k

-- a binary operator behind a value: the operators that bind more tightly get their operands first
abbrev pub on_binary : Bool → Outer → BinaryOp → Expr → Token → Step
on_binary auto o x y t = binary_behind auto o x t (fold 7 o.frames y)

-- `?` behind its test (ECMA-262, section 13.14)
abbrev pub tests : Outer → Folded → Step
tests o (Ok v) = wait (framed o v.frames) 1 (purpose.Then v.value)
tests o (Err k) = Err k

-- a sign that is no binary operator, behind a value: `?`, or one that ends it
abbrev pub no_binary : Bool → Outer → Expr → Token → Punctuator → Step
no_binary auto o x t p.Question = tests o (fold 1 o.frames x)
no_binary auto o x t _ = after_whole auto o x t

-- a sign behind a value, with the binary operator that it is, if it is one
abbrev pub after_operator : Bool → Outer → Expr → Token → Punctuator → Option BinaryOp → Step
after_operator auto o x t s (Some b) = on_binary auto o b x t
after_operator auto o x t s None = no_binary auto o x t s

-- a token of this kind behind a value that a binary operator or `?` may follow
abbrev pub after_sign : Bool → Outer → Expr → Token → TokenKind → Step
after_sign auto o x t (tok.Punctuator s) = after_operator auto o x t s (binary_op s)
after_sign auto o x t _ = after_whole auto o x t

-- behind a value that a binary operator or `?` may follow
abbrev pub after_value : Bool → Outer → Expr → Token → Step
after_value auto o x t = after_sign auto o x t t.kind
