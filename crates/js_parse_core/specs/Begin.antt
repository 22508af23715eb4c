-- What a token does where an operand begins.
use Rattle.std.specs.Prelude.{ℕ, Bool, true, false, List, []}
use Rattle.js_lex.specs.declared.token.Punctuator.{Punctuator}
use Rattle.js_lex.specs.declared.token.Punctuator.TheVariants as p
use Rattle.js_lex.specs.declared.token.Reserved.{Reserved}
use Rattle.js_lex.specs.declared.token.Reserved.TheVariants as r
use Rattle.js_lex.specs.declared.token.TemplatePart.{TemplatePart}
use Rattle.js_lex.specs.declared.token.TemplatePart.TheVariants as part
use Rattle.js_lex.specs.declared.token.TokenKind.{TokenKind}
use Rattle.js_lex.specs.declared.token.TokenKind.TheVariants as tok
use Rattle.js_lex.specs.declared.token.Token.{Token}
use Rattle.js_tree.specs.declared.tree.Expr.{Expr}
use Rattle.js_tree.specs.declared.tree.Expr.TheVariants as expr
use Rattle.js_tree.specs.declared.tree.Name.{Name}
use Rattle.js_tree.specs.declared.tree.UnaryOp.TheVariants as unary
use Rattle.js_tree.specs.declared.tree.UpdateOp.TheVariants as update
use Rattle.js_words.specs.declared.word.Spot.TheVariants as spot
use Rattle.js_parse_core.specs.declared.machine.At.TheVariants as at
use Rattle.js_parse_core.specs.declared.machine.Cover.TheVariants as cover
use Rattle.js_parse_core.specs.declared.machine.Operator.{Operator}
use Rattle.js_parse_core.specs.declared.machine.Operator.TheVariants as operator
use Rattle.js_parse_core.specs.declared.machine.Outer.{Outer}
use Rattle.js_parse_core.specs.declared.machine.Purpose.TheVariants as purpose
use Rattle.js_parse_core.specs.declared.machine.Position.{Position}
use Rattle.js_parse_core.specs.declared.machine.Position.TheVariants as positions
use Rattle.js_parse_core.specs.Outer.{Step, refuse_at, to, plus, constructs, wait, wait_operand, position, is_whole}
use Rattle.js_parse_core.specs.Tokens.{name, is_async}

-- an operand without calls and member accesses was read
abbrev pub operand : Outer → Expr → Step
operand o x = to o (at.Operand x 0)

-- a name where an operand begins: `async` may stand before a function or an arrow, another name is an operand
abbrev pub begin_name : Outer → Name → Bool → Step
begin_name o n true = to o (at.Async n)
begin_name o n false = operand o (expr.Name n)

-- a part of a template where an operand begins: all of one, or its head (ECMA-262, section 13.2.8)
abbrev pub begin_template : Outer → TemplatePart → List ℕ → Step
begin_template o part.Whole u = operand o (expr.Template [] u)
begin_template o part.Head u = wait o 1 (purpose.Hole [] u)
begin_template o part.Middle u = refuse_at spot.ExpressionBegin
begin_template o part.Tail u = refuse_at spot.ExpressionBegin

-- a prefix operator waits for its operand; it is refused where only a target may stand
abbrev pub prefix_at : Outer → Operator → Position → Step
prefix_at o x positions.Target = refuse_at spot.ExpressionBegin
prefix_at o x positions.Whole = wait_operand o (plus (constructs o) 1) x
prefix_at o x positions.Operand = wait_operand o (plus (constructs o) 1) x

-- a prefix operator stands not behind `++` or `--`
abbrev pub prefix : Outer → Operator → Step
prefix o x = prefix_at o x (position o)

-- a reserved word where an operand begins: a value, `function`, `new`, `typeof` or `await`
abbrev pub begin_by_word : Outer → ℕ → Reserved → Step
begin_by_word o q r.True = operand o expr.True
begin_by_word o q r.False = operand o expr.False
begin_by_word o q r.Null = operand o expr.Null
begin_by_word o q r.This = operand o expr.This
begin_by_word o q r.Function = to o (at.FunctionName false false)
begin_by_word o q r.New = to o at.NewName
begin_by_word o q r.TypeOf = prefix o (operator.Unary unary.TypeOf)
begin_by_word o q r.Await = prefix o (operator.Await q)
begin_by_word o q _ = refuse_at spot.ExpressionBegin

-- a group, or the parameters of an arrow where one may stand
abbrev pub begin_paren : Outer → Bool → Step
begin_paren o true = to o (at.CoverOpen cover.Plain [])
begin_paren o false = wait o 1 purpose.Group

-- a sign where an operand begins: an open bracket, or a prefix operator (ECMA-262, sections 13.2, 13.4 and 13.5)
abbrev pub begin_by_sign : Outer → Punctuator → Step
begin_by_sign o p.OpenParen = begin_paren o (is_whole o)
begin_by_sign o p.OpenBracket = to o (at.NextElement [])
begin_by_sign o p.OpenBrace = to o (at.Key [])
begin_by_sign o p.Not = prefix o (operator.Unary unary.Not)
begin_by_sign o p.Minus = prefix o (operator.Unary unary.Negate)
begin_by_sign o p.PlusPlus = prefix o (operator.Update update.Increment)
begin_by_sign o p.MinusMinus = prefix o (operator.Update update.Decrement)
begin_by_sign o _ = refuse_at spot.ExpressionBegin

-- a token of this kind, at this place, where an operand begins
abbrev pub begin_kind : Outer → ℕ → TokenKind → Step
begin_kind o q (tok.Name u) = begin_name o (name q u) (is_async u)
begin_kind o q (tok.Number n) = operand o (expr.Number n)
begin_kind o q (tok.Text u) = operand o (expr.Text u)
begin_kind o q (tok.Template x u) = begin_template o x u
begin_kind o q (tok.Reserved x) = begin_by_word o q x
begin_kind o q (tok.Punctuator s) = begin_by_sign o s
begin_kind o q tok.End = refuse_at spot.ExpressionBegin
begin_kind o q (tok.Bad f) = refuse_at spot.ExpressionBegin

-- a token where an operand has to begin; one that begins none is refused
abbrev pub begin : Outer → Token → Step
begin o t = begin_kind o t.place t.kind
