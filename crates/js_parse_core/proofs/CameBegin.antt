-- Where a token leads at an operand's begin.
use Rattle.std.specs.Prelude.{ℕ, Bool, true, false, List, [], ◌≡◌}
use Rattle.js_lex.specs.declared.token.Punctuator.{Punctuator}
use Rattle.js_lex.specs.declared.token.Reserved.{Reserved}
use Rattle.js_lex.specs.declared.token.TemplatePart.{TemplatePart}
use Rattle.js_lex.specs.declared.token.TokenKind.{TokenKind}
use Rattle.js_lex.specs.declared.token.Token.{Token}
use Rattle.js_tree.specs.declared.tree.Name.{Name}
use Rattle.js_parse_core.specs.declared.machine.Operator.{Operator}
use Rattle.js_parse_core.specs.declared.machine.Outer.{Outer}
use Rattle.js_parse_core.specs.declared.machine.Position.{Position}
use Rattle.js_parse_core.specs.Outer.{position, is_whole}
use Rattle.js_parse_core.specs.Tokens.{name, is_async}
use Rattle.js_parse_core.specs.Begin.{begin, begin_name, begin_template, prefix_at, prefix, begin_by_word, begin_paren, begin_by_sign, begin_kind}
use Rattle.js_lex.specs.declared.token.Punctuator.TheVariants as p
use Rattle.js_lex.specs.declared.token.Reserved.TheVariants as r
use Rattle.js_lex.specs.declared.token.TemplatePart.TheVariants as part
use Rattle.js_lex.specs.declared.token.TokenKind.TheVariants as tok
use Rattle.js_tree.specs.declared.tree.UnaryOp.TheVariants as unary
use Rattle.js_tree.specs.declared.tree.UpdateOp.TheVariants as update
use Rattle.js_parse_core.specs.declared.machine.Operator.TheVariants as operator
use Rattle.js_parse_core.specs.declared.machine.Position.TheVariants as positions
use Rattle.std.proofs.Common.{refl, inl, inr}
use Rattle.js_parse_core.proofs.Came.{is_name, Loud, Lands, bare_Number, bare_Text, bare_True, bare_False, bare_Null, bare_This, bare_Template}

pub came_begin_name : (keyed : Bool) (loud : Loud) (kind : TokenKind) (o : Outer) (n : Name) (yes : Bool) → is_name kind ≡ true → Lands keyed loud kind (begin_name o n yes)
came_begin_name keyed loud kind o n true named = named
came_begin_name keyed loud kind o n false named = inr named

pub came_begin_template : (keyed : Bool) (loud : Loud) (kind : TokenKind) (o : Outer) (k : TemplatePart) (u : List ℕ) → Lands keyed loud kind (begin_template o k u)
came_begin_template keyed loud kind o part.Whole u = inl (bare_Template [] u)
came_begin_template keyed loud kind o part.Head u = refl
came_begin_template keyed loud kind o part.Middle u = (tt, tt)
came_begin_template keyed loud kind o part.Tail u = (tt, tt)

pub came_prefix_at : (keyed : Bool) (loud : Loud) (kind : TokenKind) (o : Outer) (x : Operator) (where_at : Position) → Lands keyed loud kind (prefix_at o x where_at)
came_prefix_at keyed loud kind o x positions.Target = (tt, tt)
came_prefix_at keyed loud kind o x positions.Whole = refl
came_prefix_at keyed loud kind o x positions.Operand = refl

pub came_prefix : (keyed : Bool) (loud : Loud) (kind : TokenKind) (o : Outer) (x : Operator) → Lands keyed loud kind (prefix o x)
came_prefix keyed loud kind o x = came_prefix_at keyed loud kind o x (position o)

pub came_begin_by_word : (keyed : Bool) (loud : Loud) (kind : TokenKind) (o : Outer) (q : ℕ) (x : Reserved) → Lands keyed loud kind (begin_by_word o q x)
came_begin_by_word keyed loud kind o q r.True = inl (bare_True)
came_begin_by_word keyed loud kind o q r.False = inl (bare_False)
came_begin_by_word keyed loud kind o q r.Null = inl (bare_Null)
came_begin_by_word keyed loud kind o q r.This = inl (bare_This)
came_begin_by_word keyed loud kind o q r.Function = tt
came_begin_by_word keyed loud kind o q r.New = tt
came_begin_by_word keyed loud kind o q r.TypeOf = came_prefix keyed loud kind o (operator.Unary unary.TypeOf)
came_begin_by_word keyed loud kind o q r.Await = came_prefix keyed loud kind o (operator.Await q)
came_begin_by_word keyed loud kind o q _ = (tt, tt)

pub came_begin_paren : (keyed : Bool) (loud : Loud) (kind : TokenKind) (o : Outer) (yes : Bool) → Lands keyed loud kind (begin_paren o yes)
came_begin_paren keyed loud kind o true = tt
came_begin_paren keyed loud kind o false = refl

pub came_begin_by_sign : (keyed : Bool) (loud : Loud) (kind : TokenKind) (o : Outer) (s : Punctuator) → Lands keyed loud kind (begin_by_sign o s)
came_begin_by_sign keyed loud kind o p.OpenParen = came_begin_paren keyed loud kind o (is_whole o)
came_begin_by_sign keyed loud kind o p.OpenBracket = tt
came_begin_by_sign keyed loud kind o p.OpenBrace = tt
came_begin_by_sign keyed loud kind o p.Not = came_prefix keyed loud kind o (operator.Unary unary.Not)
came_begin_by_sign keyed loud kind o p.Minus = came_prefix keyed loud kind o (operator.Unary unary.Negate)
came_begin_by_sign keyed loud kind o p.PlusPlus = came_prefix keyed loud kind o (operator.Update update.Increment)
came_begin_by_sign keyed loud kind o p.MinusMinus = came_prefix keyed loud kind o (operator.Update update.Decrement)
came_begin_by_sign keyed loud kind o _ = (tt, tt)

pub came_begin_kind : (keyed : Bool) (loud : Loud) (o : Outer) (q : ℕ) (kind : TokenKind) → Lands keyed loud kind (begin_kind o q kind)
came_begin_kind keyed loud o q (tok.Name u) = came_begin_name keyed loud (tok.Name u) o (name q u) (is_async u) refl
came_begin_kind keyed loud o q (tok.Number n) = inl (bare_Number n)
came_begin_kind keyed loud o q (tok.Text u) = inl (bare_Text u)
came_begin_kind keyed loud o q (tok.Template x u) = came_begin_template keyed loud (tok.Template x u) o x u
came_begin_kind keyed loud o q (tok.Reserved x) = came_begin_by_word keyed loud (tok.Reserved x) o q x
came_begin_kind keyed loud o q (tok.Punctuator s) = came_begin_by_sign keyed loud (tok.Punctuator s) o s
came_begin_kind keyed loud o q tok.End = (tt, tt)
came_begin_kind keyed loud o q (tok.Bad f) = (tt, tt)

pub came_begin : (keyed : Bool) (loud : Loud) (o : Outer) (t : Token) → Lands keyed loud t.kind (begin o t)
came_begin keyed loud o t = came_begin_kind keyed loud o t.place t.kind
