-- No step of an object or a function's head is refused for what is open.

use Rattle.std.specs.Prelude.{ℕ, Bool, true, false, cond, List, [], ◌∷◌, ◌++◌, Option, Some, None}
use Rattle.js_lex.specs.declared.token.Punctuator.{Punctuator}
use Rattle.js_lex.specs.declared.token.Punctuator.TheVariants as p
use Rattle.js_lex.specs.declared.token.TokenKind.{TokenKind}
use Rattle.js_lex.specs.declared.token.TokenKind.TheVariants as tok
use Rattle.js_lex.specs.declared.token.Token.{Token}
use Rattle.js_tree.specs.declared.tree.Expr.TheVariants as expr
use Rattle.js_tree.specs.declared.tree.Key.{Key}
use Rattle.js_tree.specs.declared.tree.Key.TheVariants as keys
use Rattle.js_tree.specs.declared.tree.Name.{Name}
use Rattle.js_tree.specs.declared.tree.Property.{Property}
use Rattle.js_tree.specs.declared.tree.Property.TheVariants as property
use Rattle.js_words.specs.declared.word.Spot.TheVariants as spot
use Rattle.js_parse_core.specs.declared.machine.At.TheVariants as at
use Rattle.js_parse_core.specs.declared.machine.Block.TheVariants as block
use Rattle.js_parse_core.specs.declared.machine.Head.{Head}
use Rattle.js_parse_core.specs.declared.machine.Head.TheVariants as head
use Rattle.js_parse_core.specs.declared.machine.Outer.{Outer}
use Rattle.js_parse_core.specs.Outer.{refuse, refuse_at, to, innermost, without, open_block}
use Rattle.js_parse_core.specs.Tokens.{name, is_async, is_open_paren, is_open_brace, is_open_bracket, is_comma, is_close_brace}
use Rattle.js_parse_core.specs.Objects.{close_object, export, head_constructs, is_export, key, nameless, on_async_found, on_async_key, on_async_method, on_async_name, on_body_open, on_found_key, on_function_name, on_key, on_key_name, on_key_sign, on_name_key, on_other_key, on_parameter_read, on_parameters, on_parameters_open, on_property_end}
use Rattle.js_parse_core.proofs.Told.{Told, told_cond}

pub told_export : (o : Outer) (xs : List Property) → Told (export o xs)
told_export o xs = tt

pub told_close_object : (o : Outer) (xs : List Property) → Told (close_object o xs)
told_close_object o xs = told_cond (is_export (innermost o)) (export (without o) xs) (to o (at.Operand (expr.Object xs) 0)) (told_export (without o) xs) tt

pub told_on_key_name : (o : Outer) (xs : List Property) (n : Name) (yes : Bool) → Told (on_key_name o xs n yes)
told_on_key_name o xs n true = tt
told_on_key_name o xs n false = tt

pub told_on_key_sign : (o : Outer) (xs : List Property) (s : Punctuator) → Told (on_key_sign o xs s)
told_on_key_sign o xs p.CloseBrace = told_close_object o xs
told_on_key_sign o xs _ = tt

pub told_on_found_key : (o : Outer) (xs : List Property) (k : Option Key) → Told (on_found_key o xs k)
told_on_found_key o xs (Some k) = tt
told_on_found_key o xs None = tt

pub told_on_key : (o : Outer) (xs : List Property) (q : ℕ) (k : TokenKind) → Told (on_key o xs q k)
told_on_key o xs q (tok.Name u) = told_on_key_name o xs (name q u) (is_async u)
told_on_key o xs q (tok.Punctuator s) = told_on_key_sign o xs s
told_on_key o xs q k = told_on_found_key o xs (key q k)

pub told_on_other_key : (o : Outer) (xs : List Property) (k : Key) (kind : TokenKind) → Told (on_other_key o xs k kind)
told_on_other_key o xs k (tok.Punctuator p.Colon) = tt
told_on_other_key o xs k (tok.Punctuator p.OpenParen) = tt
told_on_other_key o xs k _ = tt

pub told_on_name_key : (o : Outer) (xs : List Property) (n : Name) (k : TokenKind) → Told (on_name_key o xs n k)
told_on_name_key o xs n k = told_cond (is_comma k) (to o (at.Key (xs ++ property.Short n ∷ []))) (cond (is_close_brace k) (close_object o (xs ++ property.Short n ∷ [])) (on_other_key o xs (keys.Name n) k)) tt (told_cond (is_close_brace k) (close_object o (xs ++ property.Short n ∷ [])) (on_other_key o xs (keys.Name n) k) (told_close_object o (xs ++ property.Short n ∷ [])) (told_on_other_key o xs (keys.Name n) k))

pub told_on_async_name : (o : Outer) (xs : List Property) (n : Name) (k : TokenKind) → Told (on_async_name o xs n k)
told_on_async_name o xs n k = told_cond (is_open_bracket k) (refuse_at spot.Key) (on_name_key o xs n k) tt (told_on_name_key o xs n k)

pub told_on_async_found : (o : Outer) (xs : List Property) (n : Name) (k : TokenKind) (k4 : Option Key) → Told (on_async_found o xs n k k4)
told_on_async_found o xs n k (Some found) = tt
told_on_async_found o xs n k None = told_on_async_name o xs n k

pub told_on_async_key : (o : Outer) (xs : List Property) (n : Name) (t : Token) → Told (on_async_key o xs n t)
told_on_async_key o xs n t = told_cond t.after_line_end (on_async_name o xs n t.kind) (on_async_found o xs n t.kind (key t.place t.kind)) (told_on_async_name o xs n t.kind) (told_on_async_found o xs n t.kind (key t.place t.kind))

pub told_on_async_method : (o : Outer) (xs : List Property) (k : Key) (t : TokenKind) → Told (on_async_method o xs k t)
told_on_async_method o xs k t = told_cond (is_open_paren t) (to o (at.Parameters (head.Method true xs k) [])) refuse tt tt

pub told_on_property_end : (o : Outer) (xs : List Property) (k : TokenKind) → Told (on_property_end o xs k)
told_on_property_end o xs k = told_cond (is_comma k) (to o (at.Key xs)) (cond (is_close_brace k) (close_object o xs) refuse) tt (told_cond (is_close_brace k) (close_object o xs) refuse (told_close_object o xs) tt)

pub told_nameless : (o : Outer) (yes : Bool) (a : Bool) → Told (nameless o yes a)
told_nameless o true a = tt
told_nameless o false a = tt

pub told_on_function_name : (o : Outer) (d : Bool) (a : Bool) (q : ℕ) (kind : TokenKind) → Told (on_function_name o d a q kind)
told_on_function_name o d a q (tok.Name u) = tt
told_on_function_name o d a q (tok.Punctuator p.OpenParen) = told_nameless o d a
told_on_function_name o d a q _ = tt

pub told_on_parameters_open : (o : Outer) (h : Head) (k : TokenKind) → Told (on_parameters_open o h k)
told_on_parameters_open o h k = told_cond (is_open_paren k) (to o (at.Parameters h [])) refuse tt tt

pub told_on_parameters : (o : Outer) (h : Head) (ns : List Name) (q : ℕ) (kind : TokenKind) → Told (on_parameters o h ns q kind)
told_on_parameters o h ns q (tok.Name u) = tt
told_on_parameters o h ns q (tok.Punctuator p.CloseParen) = tt
told_on_parameters o h ns q _ = tt

pub told_on_parameter_read : (o : Outer) (h : Head) (ns : List Name) (n : Name) (kind : TokenKind) → Told (on_parameter_read o h ns n kind)
told_on_parameter_read o h ns n (tok.Punctuator p.Comma) = tt
told_on_parameter_read o h ns n (tok.Punctuator p.CloseParen) = tt
told_on_parameter_read o h ns n _ = tt

pub told_on_body_open : (o : Outer) (h : Head) (ns : List Name) (k : TokenKind) → Told (on_body_open o h ns k)
told_on_body_open o h ns k = told_cond (is_open_brace k) (open_block o (head_constructs h) (block.Function h ns)) refuse tt tt
