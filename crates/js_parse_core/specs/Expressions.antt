-- What a token does in an expression.
use Rattle.std.specs.Prelude.{ℕ, Bool, true, false, cond, not, ◌&&◌, ◌||◌, nat_le, List, [], ◌∷◌, ◌++◌, map, Option, Some, None, Result, Ok, Err}
use Rattle.js_lex.specs.declared.token.Punctuator.{Punctuator}
use Rattle.js_lex.specs.declared.token.Punctuator.TheVariants as p
use Rattle.js_lex.specs.declared.token.Reserved.TheVariants as r
use Rattle.js_lex.specs.declared.token.TokenKind.{TokenKind}
use Rattle.js_lex.specs.declared.token.TokenKind.TheVariants as tok
use Rattle.js_lex.specs.declared.token.Token.{Token}
use Rattle.js_tree.specs.Targets.{target_of, Node}
use Rattle.js_tree.specs.declared.tree.ArrowBody.TheOpen.{Expr-F}
use Rattle.js_tree.specs.declared.tree.AssignOp.{AssignOp}
use Rattle.js_tree.specs.declared.tree.AssignOp.TheVariants as assign
use Rattle.js_tree.specs.declared.tree.Expr.{Expr, out-Expr}
use Rattle.js_tree.specs.declared.tree.Expr.TheVariants as expr
use Rattle.js_tree.specs.declared.tree.Name.{Name}
use Rattle.js_tree.specs.declared.tree.Target.{Target}
use Rattle.js_tree.specs.declared.tree.UpdateOp.{UpdateOp}
use Rattle.js_tree.specs.declared.tree.UpdateOp.TheVariants as update
use Rattle.js_tree.specs.declared.tree.UpdateSide.TheVariants as side
use Rattle.js_words.specs.declared.word.Spot.TheVariants as spot
use Rattle.js_parse_core.specs.declared.machine.At.TheVariants as at
use Rattle.js_parse_core.specs.declared.machine.Block.TheVariants as block
use Rattle.js_parse_core.specs.declared.machine.Callee.{Callee}
use Rattle.js_parse_core.specs.declared.machine.Callee.TheVariants as callee
use Rattle.js_parse_core.specs.declared.machine.Cover.{Cover}
use Rattle.js_parse_core.specs.declared.machine.Cover.TheVariants as covers
use Rattle.js_parse_core.specs.declared.machine.Frame.TheVariants as frame
use Rattle.js_parse_core.specs.declared.machine.Outer.{Outer}
use Rattle.js_parse_core.specs.declared.machine.Purpose.{Purpose}
use Rattle.js_parse_core.specs.declared.machine.Purpose.TheVariants as purpose
use Rattle.js_parse_core.specs.declared.machine.Refusal.TheVariants as refusal
use Rattle.js_parse_core.specs.declared.machine.Tail.TheVariants as tail
use Rattle.js_parse_core.specs.declared.machine.Position.{Position}
use Rattle.js_parse_core.specs.declared.machine.Position.TheVariants as positions
use Rattle.js_parse_core.specs.Begin.{begin, operand}
use Rattle.js_parse_core.specs.Outer.{Step, refuse, refuse_at, to, plus, push, constructs, without, wait, wait_tail, open_block, position, is_whole, in_body, begins_statement}
use Rattle.js_parse_core.specs.Tokens.{name, any_name, is_async, is_open_paren, is_close_paren, is_open_brace, is_close_bracket, is_comma, is_arrow}
use Rattle.js_parse_core.specs.Values.{call, after_value, after_whole}

-- ---- behind an operand

-- the operator that writes which a sign is, if it is one (ECMA-262, section 13.15)
abbrev pub assign_op : Punctuator → Option AssignOp
assign_op p.Equal = Some assign.Set
assign_op p.PlusEqual = Some assign.Add
assign_op p.MinusEqual = Some assign.Subtract
assign_op _ = None

-- an operator that writes waits for the value behind what can be written to; another operand ends before it
abbrev pub assign_to : Bool → Outer → AssignOp → Token → Result Target Expr → Step
assign_to auto o x t (Ok target) = wait_tail o (tail.Assign x target)
assign_to auto o x t (Err y) = after_whole auto o y t

-- an operator that writes, behind an operand: it is taken only where an assignment may stand
abbrev pub on_assign : Bool → Outer → AssignOp → Expr → Token → Step
on_assign auto o x y t = cond (is_whole o) (assign_to auto o x t (target_of y)) (after_whole auto o y t)

-- `++` or `--` is taken behind what can be written to; another operand ends before it
abbrev pub update_of : Bool → Outer → UpdateOp → Token → Result Target Expr → Step
update_of auto o x t (Ok target) = to o (at.Updated (expr.Update side.Behind x target))
update_of auto o x t (Err y) = after_whole auto o y t

-- `++` or `--` behind an operand that stands at this position: not behind the operand of `++` and `--`
abbrev pub update_at : Bool → Outer → UpdateOp → Expr → Token → Position → Step
update_at auto o x y t positions.Target = after_whole auto o y t
update_at auto o x y t positions.Whole = update_of auto o x t (target_of y)
update_at auto o x y t positions.Operand = update_of auto o x t (target_of y)

-- `++` or `--` belongs to the operand before it only on the same line (ECMA-262, sections 12.10.1 and 13.4)
abbrev pub on_update : Bool → Outer → UpdateOp → Expr → Token → Step
on_update auto o x y t = cond t.after_line_end (after_whole auto o y t) (update_at auto o x y t (position o))

-- `=>` behind a lone name makes the name the parameter of an arrow; another operand ends before it
abbrev pub arrow_of : Bool → Outer → Expr → Token → Node → Step
arrow_of auto o y t (Expr-F.Name n) = to o (at.ArrowBody false (n ∷ []))
arrow_of auto o y t _ = after_whole auto o y t

-- a name is the parameter of an arrow, where one may stand
abbrev pub arrow_behind : Bool → Outer → Expr → Token → Step
arrow_behind auto o y t = cond (t.after_line_end || not (is_whole o)) (after_whole auto o y t) (arrow_of auto o y t (out-Expr y))

-- a sign behind an operand: an operator that writes, or one that may join the value to another
abbrev pub perhaps_assign : Bool → Outer → Expr → Token → Option AssignOp → Step
perhaps_assign auto o y t (Some x) = on_assign auto o x y t
perhaps_assign auto o y t None = after_value auto o y t

-- a sign behind an operand: a member, arguments, an index, `++`, `--`, `=>` or an operator (ECMA-262, section 13.3)
abbrev pub operand_sign : Bool → Outer → Expr → ℕ → Token → Punctuator → Step
operand_sign auto o y n t p.Dot = to o (at.MemberName y n)
operand_sign auto o y n t p.OpenParen = to o (at.NextArgument (callee.Value y n) [])
operand_sign auto o y n t p.OpenBracket = wait o (plus n 1) (purpose.Index y n)
operand_sign auto o y n t p.PlusPlus = on_update auto o update.Increment y t
operand_sign auto o y n t p.MinusMinus = on_update auto o update.Decrement y t
operand_sign auto o y n t p.Arrow = arrow_behind auto o y t
operand_sign auto o y n t s = perhaps_assign auto o y t (assign_op s)

-- a token of this kind behind an operand; one that is no sign ends it
abbrev pub operand_kind : Bool → Outer → Expr → ℕ → Token → TokenKind → Step
operand_kind auto o y n t (tok.Punctuator s) = operand_sign auto o y n t s
operand_kind auto o y n t _ = after_whole auto o y t

-- a token behind an operand whose chain has `n` calls and member accesses
abbrev pub after_operand : Bool → Outer → Expr → ℕ → Token → Step
after_operand auto o y n t = operand_kind auto o y n t t.kind

-- ---- `async`

-- at the begin of a statement it declares, and stands not as a body
abbrev pub declares_async : Outer → Step
declares_async o = cond (in_body o) refuse (to o (at.FunctionName true true))

-- `async function`: a declaration where a statement begins, else an expression (ECMA-262, section 15.8)
abbrev pub async_function : Outer → Step
async_function o = cond (begins_statement o) (declares_async (without o)) (to o (at.FunctionName false true))

-- `async(`: where an arrow may stand, its parameters or the arguments of a call; elsewhere the arguments
abbrev pub async_paren : Outer → Name → Step
async_paren o n = cond (is_whole o) (to o (at.CoverOpen (covers.Async n) [])) (to o (at.NextArgument (callee.Value (expr.Name n) 0) []))

-- a token behind `async` on its line: `function`, an arrow's parameter, `(`, or what follows a name
abbrev pub async_kind : Bool → Outer → Name → Token → TokenKind → Step
async_kind auto o n t (tok.Reserved r.Function) = async_function o
async_kind auto o n t (tok.Name u) = cond (is_whole o) (to o (at.Arrow true (name t.place u ∷ []))) (after_operand auto o (expr.Name n) 0 t)
async_kind auto o n t (tok.Punctuator p.OpenParen) = async_paren o n
async_kind auto o n t _ = after_operand auto o (expr.Name n) 0 t

-- a token behind `async`; behind a line end `async` is a name like another
abbrev pub after_async : Bool → Outer → Name → Token → Step
after_async auto o n t = cond t.after_line_end (after_operand auto o (expr.Name n) 0 t) (async_kind auto o n t t.kind)

-- ---- brackets round names: parameters, or values

-- the names as expressions
abbrev pub as_values : List Name → List Expr
as_values ns = map expr.Name ns

-- what the brackets are for that hold values and no parameters: a group, or the arguments of `async`
abbrev pub uncovered : Cover → List Name → Purpose
uncovered covers.Plain ns = purpose.Group
uncovered (covers.Async n) ns = purpose.Argument (callee.Value (expr.Name n) 0) (as_values ns)

-- the brackets hold values and no parameters, and the value that was begun is within them
abbrev pub uncover : Outer → Cover → List Name → Outer
uncover o c ns = push o 1 (frame.Purpose (uncovered c ns))

-- there is no name
abbrev pub has_none : List Name → Bool
has_none [] = true
has_none (n ∷ ns) = false

-- what the brackets hold may be values: in a group no name that a comma follows, behind `async` anything
abbrev pub may_be_values : Cover → List Name → Bool
may_be_values covers.Plain ns = has_none ns
may_be_values (covers.Async n) ns = true

-- a token that is no name, behind the open bracket or a comma: `)`, or the begin of a value
abbrev pub on_cover_other : Outer → Cover → List Name → Token → Step
on_cover_other o c ns t = cond (is_close_paren t.kind) (to o (at.Covered c ns false))
    (cond (may_be_values c ns) (begin (uncover o c ns) t) (refuse_at spot.Parameter))

-- a token of this kind behind the open bracket or a comma
abbrev pub on_cover_kind : Outer → Cover → List Name → Token → TokenKind → Step
on_cover_kind o c ns t (tok.Name u) = to o (at.CoverName c ns (name t.place u))
on_cover_kind o c ns t _ = on_cover_other o c ns t

-- a token behind `(` or `async(` and the names and commas in it, where a parameter or a value may come
abbrev pub on_cover_open : Outer → Cover → List Name → Token → Step
on_cover_open o c ns t = on_cover_kind o c ns t t.kind

-- a token behind a name that is an operand, be it `async` or another
abbrev pub after_name : Bool → Outer → Name → Token → Step
after_name auto o n t = cond (is_async n.units) (after_async auto o n t) (after_operand auto o (expr.Name n) 0 t)

-- a token behind a name within the brackets: a comma, `)`, or one that shows that the name begins a value
abbrev pub on_cover_name : Bool → Outer → Cover → List Name → Name → Token → Step
on_cover_name auto o c ns n t = cond (is_comma t.kind) (to o (at.CoverOpen c (ns ++ n ∷ [])))
    (cond (is_close_paren t.kind) (to o (at.Covered c (ns ++ n ∷ []) (has_none ns)))
    (cond (may_be_values c ns) (after_name auto (uncover o c ns) n t) (refuse_at spot.Parameter)))

-- the brackets stand behind `async`
abbrev pub is_async_cover : Cover → Bool
is_async_cover covers.Plain = false
is_async_cover (covers.Async n) = true

-- the one name of a list that has no other
abbrev pub only_name : List Name → Option Name
only_name [] = None
only_name (n ∷ []) = Some n
only_name (n ∷ m ∷ ns) = None

-- a token behind a group that is one name; without a name it is refused
abbrev pub group_of : Bool → Outer → Token → Option Name → Step
group_of auto o t (Some n) = after_operand auto o (expr.Group (expr.Name n)) 0 t
group_of auto o t None = refuse

-- a token behind the brackets that shows values in them: the arguments of `async`, or a group of one name
abbrev pub covered_value : Bool → Outer → Cover → List Name → Bool → Token → Step
covered_value auto o (covers.Async n) ns b t = after_operand auto o (expr.Call (expr.Name n) (as_values ns)) 1 t
covered_value auto o covers.Plain ns true t = group_of auto o t (only_name ns)
covered_value auto o covers.Plain ns false t = refuse

-- a token behind the brackets: `=>` on the same line makes an arrow, another shows values
abbrev pub on_covered : Bool → Outer → Cover → List Name → Bool → Token → Step
on_covered auto o c ns b t = cond (is_arrow t.kind && not t.after_line_end) (to o (at.ArrowBody (is_async_cover c) ns)) (covered_value auto o c ns b t)

-- ---- arrows

-- a token behind the parameter of an `async` arrow, which must be `=>` on its line (ECMA-262, section 15.9)
abbrev pub on_arrow : Outer → Bool → List Name → Token → Step
on_arrow o a ns t = cond (is_arrow t.kind && not t.after_line_end) (to o (at.ArrowBody a ns)) refuse

-- a body without braces is a construct from the arrow on
abbrev pub arrow_value : Bool → Step → Step
arrow_value true (Ok n) = Err refusal.NestingBefore
arrow_value is_full made = made

-- a token behind `=>`: `{` opens the body's statements, another begins the value (ECMA-262, section 15.3)
abbrev pub on_arrow_body : ℕ → Outer → Bool → List Name → Token → Step
on_arrow_body most o a ns t = cond (is_open_brace t.kind) (open_block o 1 (block.Arrow a ns))
    (arrow_value (nat_le most (constructs o)) (begin (push o 1 (frame.Tail (tail.Arrow a ns))) t))

-- ---- `new`, members, arguments and items

-- a token behind `new`, which must be a name (ECMA-262, section 13.3.5)
abbrev pub on_new : Outer → ℕ → TokenKind → Step
on_new o q (tok.Name u) = to o (at.NewOpen (name q u))
on_new o q _ = refuse

-- a token behind `new name`, which must be `(`
abbrev pub on_new_open : Outer → Name → TokenKind → Step
on_new_open o n k = cond (is_open_paren k) (to o (at.NextArgument (callee.New n) [])) refuse

-- the member of this name; where no name stands behind `.`, a refusal
abbrev pub member_of : Outer → Expr → ℕ → Option Name → Step
member_of o x n (Some m) = to o (at.Operand (expr.Member x m) (plus n 1))
member_of o x n None = refuse

-- a token behind `object.`, which must be a name or a reserved word (ECMA-262, section 13.3.2)
abbrev pub on_member : Outer → Expr → ℕ → Token → Step
on_member o x n t = member_of o x n (any_name t.place t.kind)

-- how many calls and member accesses the chain before the arguments has
abbrev pub callee_accesses : Callee → ℕ
callee_accesses (callee.Value x n) = n
callee_accesses (callee.New n) = 0

-- a token behind `(` or a comma of arguments: `)`, or the next one's begin (ECMA-262, section 13.3.8)
abbrev pub on_argument : Outer → Callee → List Expr → Token → Step
on_argument o c xs t = cond (is_close_paren t.kind) (call o c xs) (begin (push o (plus (callee_accesses c) 1) (frame.Purpose (purpose.Argument c xs))) t)

-- a token behind `[` or a comma of an array: `]`, or the next item's begin (ECMA-262, section 13.2.4)
abbrev pub on_element : Outer → List Expr → Token → Step
on_element o xs t = cond (is_close_bracket t.kind) (operand o (expr.Array xs)) (begin (push o 1 (frame.Purpose (purpose.Element xs))) t)
