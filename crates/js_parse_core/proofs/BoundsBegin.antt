-- Where an operand begins: what is read fits its place.
use Rattle.std.proofs.Common.{◌≡◌, ℕ, Bool, true, false, List, [], refl, sym, subst}
use Rattle.js_lex.specs.declared.token.Punctuator.{Punctuator}
use Rattle.js_lex.specs.declared.token.Punctuator.TheVariants as p
use Rattle.js_lex.specs.declared.token.Reserved.{Reserved}
use Rattle.js_lex.specs.declared.token.Reserved.TheVariants as r
use Rattle.js_lex.specs.declared.token.TemplatePart.{TemplatePart}
use Rattle.js_lex.specs.declared.token.TemplatePart.TheVariants as part
use Rattle.js_lex.specs.declared.token.TokenKind.{TokenKind}
use Rattle.js_lex.specs.declared.token.TokenKind.TheVariants as tok
use Rattle.js_lex.specs.declared.token.Token.{Token}
use Rattle.js_tree.specs.declared.tree.Expr.{Expr}
use Rattle.js_tree.specs.declared.tree.Expr.TheVariants as expr
use Rattle.js_tree.specs.declared.tree.Name.{Name}
use Rattle.js_tree.specs.declared.tree.UnaryOp.TheVariants as unary
use Rattle.js_tree.specs.declared.tree.UpdateOp.TheVariants as update
use Rattle.js_grammar.specs.Shapes.{Shape, First, Brace, FunctionWord, OtherFirst, operand_level, of_expr}
use Rattle.js_parse_core.specs.declared.machine.At.TheVariants as at
use Rattle.js_parse_core.specs.declared.machine.Cover.TheVariants as cover
use Rattle.js_parse_core.specs.declared.machine.Operator.{Operator}
use Rattle.js_parse_core.specs.declared.machine.Operator.TheVariants as operator
use Rattle.js_parse_core.specs.declared.machine.Outer.{Outer}
use Rattle.js_parse_core.specs.declared.machine.Position.{Position}
use Rattle.js_parse_core.specs.declared.machine.Position.TheVariants as positions
use Rattle.js_parse_core.specs.declared.machine.Purpose.TheVariants as purpose
use Rattle.js_parse_core.specs.Outer.{wait_operand, position, is_whole}
use Rattle.js_parse_core.specs.Begin.{operand, begin_name, begin_template, prefix_at, prefix, begin_by_word, begin_paren, begin_by_sign, begin_kind, begin}
use Rattle.js_parse_core.specs.Tokens.{name, is_async}
use Rattle.js_parse_core.proofs.Fine.{may_begin, IsFree, Tight, FineOperator, FineOuter, FineStep}
use Rattle.js_parse_core.proofs.FineLemmas.{whole_free}
use Rattle.js_parse_core.proofs.FineShapes.{sealed, tight_name}
use Rattle.js_parse_core.proofs.FineBodies.{fine_to, fine_wait}
use Rattle.js_parse_core.proofs.ShapeEquations.{shape_number, shape_text, shape_true, shape_false, shape_null, shape_this, shape_template}

-- what a value that begins with the token has first
abbrev pub first_of : TokenKind → First
first_of (tok.Punctuator p.OpenBrace) = Brace
first_of (tok.Reserved r.Function) = FunctionWord
first_of _ = OtherFirst

pub fine_operand : (o : Outer) (x : Expr) → FineOuter o → Tight operand_level o.frames (of_expr x) → FineStep (operand o x)
fine_operand o x f h = record { outer = f; here = h }

pub fine_wait_operand : (o : Outer) (n : ℕ) (x : Operator) → FineOuter o → FineOperator x o.frames → FineStep (wait_operand o n x)
fine_wait_operand o n x f h = record { outer = record { items = f.items; frames = (h, f.frames) }; here = λ g. refl }

fine_primary : (o : Outer) (x : Expr) (y : Shape) → FineOuter o → of_expr x ≡ y → Tight operand_level o.frames y → FineStep (operand o x)
fine_primary o x y f h k = fine_operand o x f (subst (Tight operand_level o.frames) (sym h) k)

fine_name : (o : Outer) (n : Name) (b : Bool) → FineOuter o → FineStep (begin_name o n b)
fine_name o n true f = record { outer = f; here = tt }
fine_name o n false f = fine_operand o (expr.Name n) f (tight_name o.frames n)

fine_template : (o : Outer) (x : TemplatePart) (u : List ℕ) → FineOuter o → FineStep (begin_template o x u)
fine_template o part.Whole u f = fine_primary o (expr.Template [] u) _ f (shape_template [] u) (sealed o.frames true refl)
fine_template o part.Head u f = fine_wait o 1 (purpose.Hole [] u) f refl (λ g. refl)
fine_template o part.Middle u f = tt
fine_template o part.Tail u f = tt

fine_prefix_at : (o : Outer) (x : Operator) (a : Position) → FineOuter o → FineOperator x o.frames → FineStep (prefix_at o x a)
fine_prefix_at o x positions.Target f h = tt
fine_prefix_at o x positions.Whole f h = fine_wait_operand o _ x f h
fine_prefix_at o x positions.Operand f h = fine_wait_operand o _ x f h

fine_prefix : (o : Outer) (x : Operator) → FineOuter o → FineOperator x o.frames → FineStep (prefix o x)
fine_prefix o x f h = fine_prefix_at o x (position o) f h

fine_word : (o : Outer) (q : ℕ) (x : Reserved) → FineOuter o → may_begin o.frames (first_of (tok.Reserved x)) ≡ true → FineStep (begin_by_word o q x)
fine_word o q r.True f h = fine_primary o expr.True _ f shape_true (sealed o.frames true refl)
fine_word o q r.False f h = fine_primary o expr.False _ f shape_false (sealed o.frames true refl)
fine_word o q r.Null f h = fine_primary o expr.Null _ f shape_null (sealed o.frames true refl)
fine_word o q r.This f h = fine_primary o expr.This _ f shape_this (sealed o.frames true refl)
fine_word o q r.Function f h = fine_to o (at.FunctionName false false) f h
fine_word o q r.New f h = fine_to o at.NewName f tt
fine_word o q r.TypeOf f h = fine_prefix o (operator.Unary unary.TypeOf) f tt
fine_word o q r.Await f h = fine_prefix o (operator.Await q) f tt
fine_word o q _ f h = tt

fine_paren : (o : Outer) (b : Bool) → FineOuter o → (b ≡ true → IsFree o.frames) → FineStep (begin_paren o b)
fine_paren o true f h = fine_to o (at.CoverOpen cover.Plain []) f (h refl)
fine_paren o false f h = fine_wait o 1 purpose.Group f tt (λ g. refl)

fine_sign : (o : Outer) (s : Punctuator) → FineOuter o → may_begin o.frames (first_of (tok.Punctuator s)) ≡ true → FineStep (begin_by_sign o s)
fine_sign o p.OpenParen f h = fine_paren o (is_whole o) f (λ w. whole_free o.frames w)
fine_sign o p.OpenBracket f h = fine_to o (at.NextElement []) f refl
fine_sign o p.OpenBrace f h = fine_to o (at.Key []) f (refl, h)
fine_sign o p.Not f h = fine_prefix o (operator.Unary unary.Not) f tt
fine_sign o p.Minus f h = fine_prefix o (operator.Unary unary.Negate) f tt
fine_sign o p.PlusPlus f h = fine_prefix o (operator.Update update.Increment) f tt
fine_sign o p.MinusMinus f h = fine_prefix o (operator.Update update.Decrement) f tt
fine_sign o _ f h = tt

pub fine_begin_kind : (o : Outer) (q : ℕ) (k : TokenKind) → FineOuter o → may_begin o.frames (first_of k) ≡ true → FineStep (begin_kind o q k)
fine_begin_kind o q (tok.Name u) f h = fine_name o (name q u) (is_async u) f
fine_begin_kind o q (tok.Number n) f h = fine_primary o (expr.Number n) _ f (shape_number n) (sealed o.frames true refl)
fine_begin_kind o q (tok.Text u) f h = fine_primary o (expr.Text u) _ f (shape_text u) (sealed o.frames true refl)
fine_begin_kind o q (tok.Template x u) f h = fine_template o x u f
fine_begin_kind o q (tok.Reserved x) f h = fine_word o q x f h
fine_begin_kind o q (tok.Punctuator s) f h = fine_sign o s f h
fine_begin_kind o q tok.End f h = tt
fine_begin_kind o q (tok.Bad b) f h = tt

pub fine_begin : (o : Outer) (t : Token) → FineOuter o → may_begin o.frames (first_of t.kind) ≡ true → FineStep (begin o t)
fine_begin o t f h = fine_begin_kind o t.place t.kind f h
