-- Where a token leads in an object or a function's head.
use Rattle.std.specs.Prelude.{ℕ, Bool, true, false, cond, List, [], ◌∷◌, ◌++◌, Option, Some, None, ◌≡◌}
use Rattle.js_lex.specs.declared.token.Punctuator.{Punctuator}
use Rattle.js_lex.specs.declared.token.TokenKind.{TokenKind}
use Rattle.js_lex.specs.declared.token.Token.{Token}
use Rattle.js_tree.specs.declared.tree.Key.{Key}
use Rattle.js_tree.specs.declared.tree.Name.{Name}
use Rattle.js_tree.specs.declared.tree.Property.{Property}
use Rattle.js_parse_core.specs.declared.machine.Head.{Head}
use Rattle.js_parse_core.specs.declared.machine.Outer.{Outer}
use Rattle.js_parse_core.specs.Outer.{refuse, refuse_at, to, innermost, without, open_block}
use Rattle.js_parse_core.specs.Tokens.{name, is_async, is_open_paren, is_open_brace, is_open_bracket, is_comma, is_close_brace}
use Rattle.js_parse_core.specs.Objects.{close_object, is_export, export, key, on_key_name, on_key_sign, on_found_key, on_key, on_other_key, on_name_key, on_async_name, on_async_found, on_async_key, on_async_method, on_property_end, nameless, on_function_name, on_parameters_open, on_parameters, on_parameter_read, head_constructs, on_body_open}
use Rattle.js_lex.specs.declared.token.Punctuator.TheVariants as p
use Rattle.js_lex.specs.declared.token.TokenKind.TheVariants as tok
use Rattle.js_tree.specs.declared.tree.Expr.TheVariants as expr
use Rattle.js_tree.specs.declared.tree.Key.TheVariants as keys
use Rattle.js_tree.specs.declared.tree.Property.TheVariants as property
use Rattle.js_words.specs.declared.word.Spot.TheVariants as spot
use Rattle.js_parse_core.specs.declared.machine.At.TheVariants as at
use Rattle.js_parse_core.specs.declared.machine.Block.TheVariants as block
use Rattle.js_parse_core.specs.declared.machine.Head.TheVariants as head
use Rattle.std.proofs.Common.{refl, inl, inr}
use Rattle.js_parse_core.proofs.Came.{Loud, Lands, came_cond, bare_Object, KeyAsked}

pub came_export : (keyed : Bool) (loud : Loud) (kind : TokenKind) (o : Outer) (xs : List Property) → Lands keyed loud kind (export o xs)
came_export keyed loud kind o xs = tt

pub came_close_object : (keyed : Bool) (loud : Loud) (kind : TokenKind) (o : Outer) (xs : List Property) → Lands keyed loud kind (close_object o xs)
came_close_object keyed loud kind o xs = came_cond keyed loud kind (is_export (innermost o)) (export (without o) xs) (to o (at.Operand (expr.Object xs) 0)) (came_export keyed loud kind (without o) xs) (inl (bare_Object xs))

pub came_on_key_name : (keyed : Bool) (loud : Loud) (kind : TokenKind) (o : Outer) (xs : List Property) (n : Name) (yes : Bool) → keyed ≡ true → Lands keyed loud kind (on_key_name o xs n yes)
came_on_key_name keyed loud kind o xs n true keyed_is = keyed_is
came_on_key_name keyed loud kind o xs n false keyed_is = keyed_is

pub came_on_key_sign : (keyed : Bool) (loud : Loud) (kind : TokenKind) (o : Outer) (xs : List Property) (s : Punctuator) → keyed ≡ true → Lands keyed loud kind (on_key_sign o xs s)
came_on_key_sign keyed loud kind o xs p.CloseBrace keyed_is = came_close_object keyed loud kind o xs
came_on_key_sign keyed loud kind o xs _ keyed_is = (tt, inl keyed_is)

pub came_on_found_key : (keyed : Bool) (loud : Loud) (kind : TokenKind) (o : Outer) (xs : List Property) (k : Option Key) → keyed ≡ true → Lands keyed loud kind (on_found_key o xs k)
came_on_found_key keyed loud kind o xs (Some k) keyed_is = keyed_is
came_on_found_key keyed loud kind o xs None keyed_is = (tt, inl keyed_is)

pub came_on_key : (keyed : Bool) (loud : Loud) (kind : TokenKind) (o : Outer) (xs : List Property) (q : ℕ) (now : TokenKind) → keyed ≡ true → Lands keyed loud kind (on_key o xs q now)
came_on_key keyed loud kind o xs q (tok.Name u) keyed_is = came_on_key_name keyed loud kind o xs (name q u) (is_async u) keyed_is
came_on_key keyed loud kind o xs q (tok.Punctuator s) keyed_is = came_on_key_sign keyed loud kind o xs s keyed_is
came_on_key keyed loud kind o xs q k keyed_is = came_on_found_key keyed loud kind o xs (key q k) keyed_is

pub came_on_other_key : (keyed : Bool) (loud : Loud) (kind : TokenKind) (o : Outer) (xs : List Property) (k : Key) (now : TokenKind) → loud ≡ KeyAsked → Lands keyed loud kind (on_other_key o xs k now)
came_on_other_key keyed loud kind o xs k (tok.Punctuator p.Colon) loud_is = refl
came_on_other_key keyed loud kind o xs k (tok.Punctuator p.OpenParen) loud_is = tt
came_on_other_key keyed loud kind o xs k _ loud_is = (loud_is, tt)

pub came_on_name_key : (keyed : Bool) (loud : Loud) (kind : TokenKind) (o : Outer) (xs : List Property) (n : Name) (now : TokenKind) → loud ≡ KeyAsked → Lands keyed loud kind (on_name_key o xs n now)
came_on_name_key keyed loud kind o xs n k loud_is = came_cond keyed loud kind (is_comma k) (to o (at.Key (xs ++ property.Short n ∷ []))) (cond (is_close_brace k) (close_object o (xs ++ property.Short n ∷ [])) (on_other_key o xs (keys.Name n) k)) tt (came_cond keyed loud kind (is_close_brace k) (close_object o (xs ++ property.Short n ∷ [])) (on_other_key o xs (keys.Name n) k) (came_close_object keyed loud kind o (xs ++ property.Short n ∷ [])) (came_on_other_key keyed loud kind o xs (keys.Name n) k loud_is))

pub came_on_async_name : (keyed : Bool) (loud : Loud) (kind : TokenKind) (o : Outer) (xs : List Property) (n : Name) (now : TokenKind) → loud ≡ KeyAsked → Lands keyed loud kind (on_async_name o xs n now)
came_on_async_name keyed loud kind o xs n k loud_is = came_cond keyed loud kind (is_open_bracket k) (refuse_at spot.Key) (on_name_key o xs n k) (tt, inr loud_is) (came_on_name_key keyed loud kind o xs n k loud_is)

pub came_on_async_found : (keyed : Bool) (loud : Loud) (kind : TokenKind) (o : Outer) (xs : List Property) (n : Name) (now : TokenKind) (k : Option Key) → loud ≡ KeyAsked → Lands keyed loud kind (on_async_found o xs n now k)
came_on_async_found keyed loud kind o xs n k (Some found) loud_is = tt
came_on_async_found keyed loud kind o xs n k None loud_is = came_on_async_name keyed loud kind o xs n k loud_is

pub came_on_async_key : (keyed : Bool) (loud : Loud) (o : Outer) (xs : List Property) (n : Name) (t : Token) → loud ≡ KeyAsked → Lands keyed loud t.kind (on_async_key o xs n t)
came_on_async_key keyed loud o xs n t loud_is = came_cond keyed loud t.kind t.after_line_end (on_async_name o xs n t.kind) (on_async_found o xs n t.kind (key t.place t.kind)) (came_on_async_name keyed loud t.kind o xs n t.kind loud_is) (came_on_async_found keyed loud t.kind o xs n t.kind (key t.place t.kind) loud_is)

pub came_on_async_method : (keyed : Bool) (loud : Loud) (kind : TokenKind) (o : Outer) (xs : List Property) (k : Key) (now : TokenKind) → Lands keyed loud kind (on_async_method o xs k now)
came_on_async_method keyed loud kind o xs k t = came_cond keyed loud kind (is_open_paren t) (to o (at.Parameters (head.Method true xs k) [])) refuse tt (tt, tt)

pub came_on_property_end : (keyed : Bool) (loud : Loud) (kind : TokenKind) (o : Outer) (xs : List Property) (now : TokenKind) → Lands keyed loud kind (on_property_end o xs now)
came_on_property_end keyed loud kind o xs k = came_cond keyed loud kind (is_comma k) (to o (at.Key xs)) (cond (is_close_brace k) (close_object o xs) refuse) tt (came_cond keyed loud kind (is_close_brace k) (close_object o xs) refuse (came_close_object keyed loud kind o xs) (tt, tt))

pub came_nameless : (keyed : Bool) (loud : Loud) (kind : TokenKind) (o : Outer) (yes : Bool) (a : Bool) → Lands keyed loud kind (nameless o yes a)
came_nameless keyed loud kind o true a = (tt, tt)
came_nameless keyed loud kind o false a = tt

pub came_on_function_name : (keyed : Bool) (loud : Loud) (kind : TokenKind) (o : Outer) (d : Bool) (a : Bool) (q : ℕ) (now : TokenKind) → Lands keyed loud kind (on_function_name o d a q now)
came_on_function_name keyed loud kind o d a q (tok.Name u) = tt
came_on_function_name keyed loud kind o d a q (tok.Punctuator p.OpenParen) = came_nameless keyed loud kind o d a
came_on_function_name keyed loud kind o d a q _ = (tt, tt)

pub came_on_parameters_open : (keyed : Bool) (loud : Loud) (kind : TokenKind) (o : Outer) (h : Head) (now : TokenKind) → Lands keyed loud kind (on_parameters_open o h now)
came_on_parameters_open keyed loud kind o h k = came_cond keyed loud kind (is_open_paren k) (to o (at.Parameters h [])) refuse tt (tt, tt)

pub came_on_parameters : (keyed : Bool) (loud : Loud) (kind : TokenKind) (o : Outer) (h : Head) (ns : List Name) (q : ℕ) (now : TokenKind) → Lands keyed loud kind (on_parameters o h ns q now)
came_on_parameters keyed loud kind o h ns q (tok.Name u) = tt
came_on_parameters keyed loud kind o h ns q (tok.Punctuator p.CloseParen) = tt
came_on_parameters keyed loud kind o h ns q _ = (tt, tt)

pub came_on_parameter_read : (keyed : Bool) (loud : Loud) (kind : TokenKind) (o : Outer) (h : Head) (ns : List Name) (n : Name) (now : TokenKind) → Lands keyed loud kind (on_parameter_read o h ns n now)
came_on_parameter_read keyed loud kind o h ns n (tok.Punctuator p.Comma) = tt
came_on_parameter_read keyed loud kind o h ns n (tok.Punctuator p.CloseParen) = tt
came_on_parameter_read keyed loud kind o h ns n _ = (tt, tt)

pub came_on_body_open : (keyed : Bool) (loud : Loud) (kind : TokenKind) (o : Outer) (h : Head) (ns : List Name) (now : TokenKind) → Lands keyed loud kind (on_body_open o h ns now)
came_on_body_open keyed loud kind o h ns k = came_cond keyed loud kind (is_open_brace k) (open_block o (head_constructs h) (block.Function h ns)) refuse tt (tt, tt)
