-- No step of an operand's begin is refused for what is open.

use Rattle.std.specs.Prelude.{ℕ, Bool, true, false, List}
use Rattle.js_lex.specs.declared.token.Punctuator.{Punctuator}
use Rattle.js_lex.specs.declared.token.Punctuator.TheVariants as p
use Rattle.js_lex.specs.declared.token.Reserved.{Reserved}
use Rattle.js_lex.specs.declared.token.Reserved.TheVariants as r
use Rattle.js_lex.specs.declared.token.TemplatePart.{TemplatePart}
use Rattle.js_lex.specs.declared.token.TemplatePart.TheVariants as part
use Rattle.js_lex.specs.declared.token.TokenKind.{TokenKind}
use Rattle.js_lex.specs.declared.token.TokenKind.TheVariants as tok
use Rattle.js_lex.specs.declared.token.Token.{Token}
use Rattle.js_tree.specs.declared.tree.Name.{Name}
use Rattle.js_tree.specs.declared.tree.UnaryOp.TheVariants as unary
use Rattle.js_tree.specs.declared.tree.UpdateOp.TheVariants as update
use Rattle.js_parse_core.specs.declared.machine.Operator.{Operator}
use Rattle.js_parse_core.specs.declared.machine.Operator.TheVariants as operator
use Rattle.js_parse_core.specs.declared.machine.Outer.{Outer}
use Rattle.js_parse_core.specs.declared.machine.Position.{Position}
use Rattle.js_parse_core.specs.declared.machine.Position.TheVariants as positions
use Rattle.js_parse_core.specs.Outer.{position, is_whole}
use Rattle.js_parse_core.specs.Tokens.{name, is_async}
use Rattle.js_parse_core.specs.Begin.{begin, begin_by_sign, begin_by_word, begin_kind, begin_name, begin_paren, begin_template, prefix, prefix_at}
use Rattle.js_parse_core.proofs.Told.{Told}

pub told_begin_name : (o : Outer) (n : Name) (yes : Bool) → Told (begin_name o n yes)
told_begin_name o n true = tt
told_begin_name o n false = tt

pub told_begin_template : (o : Outer) (k : TemplatePart) (u : List ℕ) → Told (begin_template o k u)
told_begin_template o part.Whole u = tt
told_begin_template o part.Head u = tt
told_begin_template o part.Middle u = tt
told_begin_template o part.Tail u = tt

pub told_prefix_at : (o : Outer) (x : Operator) (where_at : Position) → Told (prefix_at o x where_at)
told_prefix_at o x positions.Target = tt
told_prefix_at o x positions.Whole = tt
told_prefix_at o x positions.Operand = tt

pub told_prefix : (o : Outer) (x : Operator) → Told (prefix o x)
told_prefix o x = told_prefix_at o x (position o)

pub told_begin_by_word : (o : Outer) (q : ℕ) (x : Reserved) → Told (begin_by_word o q x)
told_begin_by_word o q r.True = tt
told_begin_by_word o q r.False = tt
told_begin_by_word o q r.Null = tt
told_begin_by_word o q r.This = tt
told_begin_by_word o q r.Function = tt
told_begin_by_word o q r.New = tt
told_begin_by_word o q r.TypeOf = told_prefix o (operator.Unary unary.TypeOf)
told_begin_by_word o q r.Await = told_prefix o (operator.Await q)
told_begin_by_word o q _ = tt

pub told_begin_paren : (o : Outer) (yes : Bool) → Told (begin_paren o yes)
told_begin_paren o true = tt
told_begin_paren o false = tt

pub told_begin_by_sign : (o : Outer) (s : Punctuator) → Told (begin_by_sign o s)
told_begin_by_sign o p.OpenParen = told_begin_paren o (is_whole o)
told_begin_by_sign o p.OpenBracket = tt
told_begin_by_sign o p.OpenBrace = tt
told_begin_by_sign o p.Not = told_prefix o (operator.Unary unary.Not)
told_begin_by_sign o p.Minus = told_prefix o (operator.Unary unary.Negate)
told_begin_by_sign o p.PlusPlus = told_prefix o (operator.Update update.Increment)
told_begin_by_sign o p.MinusMinus = told_prefix o (operator.Update update.Decrement)
told_begin_by_sign o _ = tt

pub told_begin_kind : (o : Outer) (q : ℕ) (kind : TokenKind) → Told (begin_kind o q kind)
told_begin_kind o q (tok.Name u) = told_begin_name o (name q u) (is_async u)
told_begin_kind o q (tok.Number n) = tt
told_begin_kind o q (tok.Text u) = tt
told_begin_kind o q (tok.Template x u) = told_begin_template o x u
told_begin_kind o q (tok.Reserved x) = told_begin_by_word o q x
told_begin_kind o q (tok.Punctuator s) = told_begin_by_sign o s
told_begin_kind o q tok.End = tt
told_begin_kind o q (tok.Bad f) = tt

pub told_begin : (o : Outer) (t : Token) → Told (begin o t)
told_begin o t = told_begin_kind o t.place t.kind
