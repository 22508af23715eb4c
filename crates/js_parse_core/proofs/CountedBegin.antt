-- A token where an operand begins, with how many constructs are open.
use Rattle.js_lex.specs.declared.token.Punctuator.{Punctuator}
use Rattle.js_lex.specs.declared.token.Punctuator.TheVariants as p
use Rattle.js_lex.specs.declared.token.Reserved.{Reserved}
use Rattle.js_lex.specs.declared.token.Reserved.TheVariants as r
use Rattle.js_lex.specs.declared.token.TemplatePart.{TemplatePart}
use Rattle.js_lex.specs.declared.token.TemplatePart.TheVariants as part
use Rattle.js_lex.specs.declared.token.TokenKind.{TokenKind}
use Rattle.js_lex.specs.declared.token.TokenKind.TheVariants as tok
use Rattle.js_lex.specs.declared.token.Token.{Token}
use Rattle.js_tree.specs.declared.tree.UnaryOp.TheVariants as unary
use Rattle.js_tree.specs.declared.tree.UpdateOp.TheVariants as update
use Rattle.js_grammar.specs.Marks.{Just, At, Form, mark, one}
use Rattle.js_parse_core.specs.declared.machine.Operator.{Operator}
use Rattle.js_parse_core.specs.declared.machine.Operator.TheVariants as operator
use Rattle.js_parse_core.specs.declared.machine.Outer.{Outer}
use Rattle.js_parse_core.specs.declared.machine.Position.{Position}
use Rattle.js_parse_core.specs.declared.machine.Position.TheVariants as positions
use Rattle.js_parse_core.specs.Outer.{position, is_whole}
use Rattle.js_parse_core.specs.Tokens.{is_async, is_end}
use Rattle.js_parse_core.specs.Tokens.{name as named}
use Rattle.js_parse_core.specs.Begin.{begin_name, begin_template, prefix_at, begin_by_word, begin_paren, begin_by_sign, begin_kind, begin}
use Rattle.std.proofs.Common.{◌≡◌, ℕ, ◌+◌, Bool, true, false, List, [], ◌∷◌, refl, sym, ap, subst}
use Rattle.js_parse_core.proofs.Grows.{want_just, want_at, name_is_async}
use Rattle.js_parse_core.proofs.CountedForms.{up, expr_name, expr_number, expr_text, expr_true, expr_false, expr_null, expr_this, expr_template_whole}
use Rattle.js_parse_core.proofs.CountedSpelled.{levels, operator_front, operator_level}
use Rattle.js_parse_core.proofs.CountedGrows.{Between, at_open, Grows, Opens, opened_as}
use Rattle.js_parse_core.proofs.CountedChains.{at_operand, plain_name, plain_number, plain_text, plain_true, plain_false, plain_null, plain_this, plain_template}

-- the token comes into the innermost frame of o, behind a
abbrev pub Begins : ℕ → List Form → Outer → Token → Type 0
Begins l a o t = Opens l a o.items o.frames t

begin_name_grows : (l : ℕ) (a : List Form) (o : Outer) (t : Token) (u : List ℕ) (b : Bool) → t.kind ≡ tok.Name u → is_async u ≡ b → Begins l a o t → Grows l a t (begin_name o (named t.place u) b)
begin_name_grows l a o t u true e h n = opened_as l _ a o.items o.frames t (levels o.frames) (At t.place (tok.Name u)) _ (at_open l _) n (want_at t (tok.Name u) e refl) (ap (λ (f : Form). up (levels o.frames) f ∷ []) (name_is_async (named t.place u) h))
begin_name_grows l a o t u false e h n = opened_as l _ a o.items o.frames t (levels o.frames) (At t.place (tok.Name u)) _ (at_operand l _ _ (plain_name (named t.place u))) n (want_at t (tok.Name u) e refl) (sym (expr_name (levels o.frames) (named t.place u)))

begin_template_grows : (l : ℕ) (a : List Form) (o : Outer) (t : Token) (k : TemplatePart) (u : List ℕ) → t.kind ≡ tok.Template k u → Begins l a o t → Grows l a t (begin_template o k u)
begin_template_grows l a o t part.Whole u e n = opened_as l _ a o.items o.frames t (levels o.frames) (Just (tok.Template part.Whole u)) _ (at_operand l _ _ (plain_template [] u)) n (want_just t _ e refl) (sym (expr_template_whole (levels o.frames) u))
begin_template_grows l a o t part.Head u e n = opened_as l _ a o.items o.frames t (levels o.frames + 1) (Just (tok.Template part.Head u)) _ (at_open l _) n (want_just t _ e refl) refl
begin_template_grows l a o t part.Middle u e n = tt
begin_template_grows l a o t part.Tail u e n = tt

-- an operator that is no binary one
prefix_grows : (l : ℕ) (a : List Form) (o : Outer) (t : Token) (k : TokenKind) (x : Operator) (at_position : Position) → t.kind ≡ k → is_end k ≡ false → operator_level (levels o.frames) x ≡ levels o.frames + 1
    → up (levels o.frames + 1) (one (mark (Just k))) ∷ [] ≡ operator_front (levels o.frames) x → Begins l a o t → Grows l a t (prefix_at o x at_position)
prefix_grows l a o t k x positions.Target e q i h n = tt
prefix_grows l a o t k x positions.Whole e q i h n = opened_as l _ a o.items o.frames t (levels o.frames + 1) (Just k) (operator_front (levels o.frames) x) (subst (λ (m : ℕ). Between l (levels o.frames + 1) m) (sym i) (at_open l _)) n (want_just t k e q) h
prefix_grows l a o t k x positions.Operand e q i h n = opened_as l _ a o.items o.frames t (levels o.frames + 1) (Just k) (operator_front (levels o.frames) x) (subst (λ (m : ℕ). Between l (levels o.frames + 1) m) (sym i) (at_open l _)) n (want_just t k e q) h

await_grows : (l : ℕ) (a : List Form) (o : Outer) (t : Token) (at_position : Position) → t.kind ≡ tok.Reserved r.Await → Begins l a o t → Grows l a t (prefix_at o (operator.Await t.place) at_position)
await_grows l a o t positions.Target e n = tt
await_grows l a o t positions.Whole e n = opened_as l _ a o.items o.frames t (levels o.frames + 1) (At t.place (tok.Reserved r.Await)) _ (at_open l _) n (want_at t _ e refl) refl
await_grows l a o t positions.Operand e n = opened_as l _ a o.items o.frames t (levels o.frames + 1) (At t.place (tok.Reserved r.Await)) _ (at_open l _) n (want_at t _ e refl) refl

begin_word_grows : (l : ℕ) (a : List Form) (o : Outer) (t : Token) (x : Reserved) → t.kind ≡ tok.Reserved x → Begins l a o t → Grows l a t (begin_by_word o t.place x)
begin_word_grows l a o t r.True e n = opened_as l _ a o.items o.frames t (levels o.frames) (Just (tok.Reserved r.True)) _ (at_operand l _ _ plain_true) n (want_just t _ e refl) (sym (expr_true (levels o.frames)))
begin_word_grows l a o t r.False e n = opened_as l _ a o.items o.frames t (levels o.frames) (Just (tok.Reserved r.False)) _ (at_operand l _ _ plain_false) n (want_just t _ e refl) (sym (expr_false (levels o.frames)))
begin_word_grows l a o t r.Null e n = opened_as l _ a o.items o.frames t (levels o.frames) (Just (tok.Reserved r.Null)) _ (at_operand l _ _ plain_null) n (want_just t _ e refl) (sym (expr_null (levels o.frames)))
begin_word_grows l a o t r.This e n = opened_as l _ a o.items o.frames t (levels o.frames) (Just (tok.Reserved r.This)) _ (at_operand l _ _ plain_this) n (want_just t _ e refl) (sym (expr_this (levels o.frames)))
begin_word_grows l a o t r.Function e n = opened_as l _ a o.items o.frames t (levels o.frames) (Just (tok.Reserved r.Function)) _ (at_open l _) n (want_just t _ e refl) refl
begin_word_grows l a o t r.New e n = opened_as l _ a o.items o.frames t (levels o.frames) (Just (tok.Reserved r.New)) _ (at_open l _) n (want_just t _ e refl) refl
begin_word_grows l a o t r.TypeOf e n = prefix_grows l a o t (tok.Reserved r.TypeOf) (operator.Unary unary.TypeOf) (position o) e refl refl refl n
begin_word_grows l a o t r.Await e n = await_grows l a o t (position o) e n
begin_word_grows l a o t _ e n = tt

begin_paren_grows : (l : ℕ) (a : List Form) (o : Outer) (t : Token) (b : Bool) → t.kind ≡ tok.Punctuator p.OpenParen → Begins l a o t → Grows l a t (begin_paren o b)
begin_paren_grows l a o t true e n = opened_as l _ a o.items o.frames t (levels o.frames + 1) (Just (tok.Punctuator p.OpenParen)) _ (at_open l _) n (want_just t _ e refl) refl
begin_paren_grows l a o t false e n = opened_as l _ a o.items o.frames t (levels o.frames + 1) (Just (tok.Punctuator p.OpenParen)) _ (at_open l _) n (want_just t _ e refl) refl

begin_sign_grows : (l : ℕ) (a : List Form) (o : Outer) (t : Token) (x : Punctuator) → t.kind ≡ tok.Punctuator x → Begins l a o t → Grows l a t (begin_by_sign o x)
begin_sign_grows l a o t p.OpenParen e n = begin_paren_grows l a o t (is_whole o) e n
begin_sign_grows l a o t p.OpenBracket e n = opened_as l _ a o.items o.frames t (levels o.frames + 1) (Just (tok.Punctuator p.OpenBracket)) _ (at_open l _) n (want_just t _ e refl) refl
begin_sign_grows l a o t p.OpenBrace e n = opened_as l _ a o.items o.frames t (levels o.frames + 1) (Just (tok.Punctuator p.OpenBrace)) _ (at_open l _) n (want_just t _ e refl) refl
begin_sign_grows l a o t p.Not e n = prefix_grows l a o t (tok.Punctuator p.Not) (operator.Unary unary.Not) (position o) e refl refl refl n
begin_sign_grows l a o t p.Minus e n = prefix_grows l a o t (tok.Punctuator p.Minus) (operator.Unary unary.Negate) (position o) e refl refl refl n
begin_sign_grows l a o t p.PlusPlus e n = prefix_grows l a o t (tok.Punctuator p.PlusPlus) (operator.Update update.Increment) (position o) e refl refl refl n
begin_sign_grows l a o t p.MinusMinus e n = prefix_grows l a o t (tok.Punctuator p.MinusMinus) (operator.Update update.Decrement) (position o) e refl refl refl n
begin_sign_grows l a o t _ e n = tt

begin_kind_grows : (l : ℕ) (a : List Form) (o : Outer) (t : Token) (k : TokenKind) → t.kind ≡ k → Begins l a o t → Grows l a t (begin_kind o t.place k)
begin_kind_grows l a o t (tok.Name u) e n = begin_name_grows l a o t u (is_async u) e refl n
begin_kind_grows l a o t (tok.Number v) e n = opened_as l _ a o.items o.frames t (levels o.frames) (Just (tok.Number v)) _ (at_operand l _ _ (plain_number v)) n (want_just t _ e refl) (sym (expr_number (levels o.frames) v))
begin_kind_grows l a o t (tok.Text u) e n = opened_as l _ a o.items o.frames t (levels o.frames) (Just (tok.Text u)) _ (at_operand l _ _ (plain_text u)) n (want_just t _ e refl) (sym (expr_text (levels o.frames) u))
begin_kind_grows l a o t (tok.Template x u) e n = begin_template_grows l a o t x u e n
begin_kind_grows l a o t (tok.Reserved x) e n = begin_word_grows l a o t x e n
begin_kind_grows l a o t (tok.Punctuator s) e n = begin_sign_grows l a o t s e n
begin_kind_grows l a o t tok.End e n = tt
begin_kind_grows l a o t (tok.Bad f) e n = tt

pub begin_grows : (l : ℕ) (a : List Form) (o : Outer) (t : Token) → Begins l a o t → Grows l a t (begin o t)
begin_grows l a o t n = begin_kind_grows l a o t t.kind refl n
