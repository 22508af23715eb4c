-- What a token does in objects and in the heads of functions.
use Rattle.std.specs.Prelude.{ℕ, Bool, true, false, cond, List, [], ◌∷◌, ◌++◌, Option, Some, None, Err}
use Rattle.js_lex.specs.declared.token.Punctuator.{Punctuator}
use Rattle.js_lex.specs.declared.token.Punctuator.TheVariants as p
use Rattle.js_lex.specs.declared.token.TokenKind.{TokenKind}
use Rattle.js_lex.specs.declared.token.TokenKind.TheVariants as tok
use Rattle.js_lex.specs.declared.token.Token.{Token}
use Rattle.js_tree.specs.declared.tree.Expr.TheVariants as expr
use Rattle.js_tree.specs.declared.tree.Item.TheVariants as item
use Rattle.js_tree.specs.declared.tree.Key.{Key}
use Rattle.js_tree.specs.declared.tree.Key.TheVariants as keys
use Rattle.js_tree.specs.declared.tree.Name.{Name}
use Rattle.js_tree.specs.declared.tree.Property.{Property}
use Rattle.js_tree.specs.declared.tree.Property.TheVariants as property
use Rattle.js_words.specs.declared.word.Spot.TheVariants as spot
use Rattle.js_parse_core.specs.declared.machine.At.TheVariants as at
use Rattle.js_parse_core.specs.declared.machine.Block.TheVariants as block
use Rattle.js_parse_core.specs.declared.machine.Frame.{Frame}
use Rattle.js_parse_core.specs.declared.machine.Frame.TheVariants as frame
use Rattle.js_parse_core.specs.declared.machine.Head.{Head}
use Rattle.js_parse_core.specs.declared.machine.Head.TheVariants as head
use Rattle.js_parse_core.specs.declared.machine.Outer.{Outer}
use Rattle.js_parse_core.specs.declared.machine.Purpose.TheVariants as purpose
use Rattle.js_parse_core.specs.Outer.{Step, because, refuse, refuse_at, to, innermost, without, wait, open_block}
use Rattle.js_parse_core.specs.Tokens.{name, any_name, is_async, is_open_paren, is_open_brace, is_open_bracket, is_comma, is_close_brace}

-- the object is what `export default` gives
abbrev pub is_export : Option Frame → Bool
is_export (Some frame.Export) = true
is_export _ = false

-- `export default` of these members is the next item of the script (ECMA-262, section 16.2.3)
abbrev pub export : Outer → List Property → Step
export o xs = to (record { items = o.items ++ item.Export xs ∷ []; exported = true; frames = o.frames }) at.AfterExport

-- `}` behind these members: the object is what is exported, or an operand
abbrev pub close_object : Outer → List Property → Step
close_object o xs = cond (is_export (innermost o)) (export (without o) xs) (to o (at.Operand (expr.Object xs) 0))

-- the key that a name is, where there is one
abbrev pub named_key : Option Name → Option Key
named_key (Some n) = Some (keys.Name n)
named_key None = None

-- ECMA-262, section 13.2.5, LiteralPropertyName
abbrev pub key : ℕ → TokenKind → Option Key
key q (tok.Text u) = Some (keys.Text u)
key q (tok.Number n) = Some (keys.Number n)
key q k = named_key (any_name q k)

-- a name where a key begins: `async` may stand before a method's key, another name is a key
abbrev pub on_key_name : Outer → List Property → Name → Bool → Step
on_key_name o xs n true = to o (at.AsyncKey xs n)
on_key_name o xs n false = to o (at.NameKey xs n)

-- a sign where a key begins: `}` ends the object, another is refused
abbrev pub on_key_sign : Outer → List Property → Punctuator → Step
on_key_sign o xs p.CloseBrace = close_object o xs
on_key_sign o xs _ = refuse_at spot.Key

-- a token that is no name and no sign, where a key begins: the key that it is, or a refusal
abbrev pub on_found_key : Outer → List Property → Option Key → Step
on_found_key o xs (Some k) = to o (at.OtherKey xs k)
on_found_key o xs None = refuse_at spot.Key

-- a token of this kind, at this place, behind `{` or a comma of an object (ECMA-262, section 13.2.5)
abbrev pub on_key : Outer → List Property → ℕ → TokenKind → Step
on_key o xs q (tok.Name u) = on_key_name o xs (name q u) (is_async u)
on_key o xs q (tok.Punctuator s) = on_key_sign o xs s
on_key o xs q k = on_found_key o xs (key q k)

-- a token behind a key: `:` before its value, or `(` before a method's parameters
abbrev pub on_other_key : Outer → List Property → Key → TokenKind → Step
on_other_key o xs k (tok.Punctuator p.Colon) = wait o 1 (purpose.Pair xs k)
on_other_key o xs k (tok.Punctuator p.OpenParen) = to o (at.Parameters (head.Method false xs k) [])
on_other_key o xs k _ = Err (because (Some spot.Key) None)

-- a token behind a name as a key: a comma or `}` makes it a member without a value of its own
abbrev pub on_name_key : Outer → List Property → Name → TokenKind → Step
on_name_key o xs n k = cond (is_comma k) (to o (at.Key (xs ++ property.Short n ∷ [])))
    (cond (is_close_brace k) (close_object o (xs ++ property.Short n ∷ [])) (on_other_key o xs (keys.Name n) k))

-- a token behind `async` where that is the key
abbrev pub on_async_name : Outer → List Property → Name → TokenKind → Step
on_async_name o xs n k = cond (is_open_bracket k) (refuse_at spot.Key) (on_name_key o xs n k)

-- a token behind `async` in an object: the key of an `async` method, or what follows the key `async`
abbrev pub on_async_found : Outer → List Property → Name → TokenKind → Option Key → Step
on_async_found o xs n k (Some found) = to o (at.AsyncMethod xs found)
on_async_found o xs n k None = on_async_name o xs n k

-- a token behind `async` in an object; behind a line end `async` is the key (ECMA-262, section 15.8)
abbrev pub on_async_key : Outer → List Property → Name → Token → Step
on_async_key o xs n t = cond t.after_line_end (on_async_name o xs n t.kind) (on_async_found o xs n t.kind (key t.place t.kind))

-- a token behind `async key`, which must be `(`
abbrev pub on_async_method : Outer → List Property → Key → TokenKind → Step
on_async_method o xs k t = cond (is_open_paren t) (to o (at.Parameters (head.Method true xs k) [])) refuse

-- a token behind a method of an object, which must be a comma or `}`
abbrev pub on_property_end : Outer → List Property → TokenKind → Step
on_property_end o xs k = cond (is_comma k) (to o (at.Key xs)) (cond (is_close_brace k) (close_object o xs) refuse)

-- ---- functions

-- the head of a function with this name: a declaration or an expression
abbrev pub named_head : Bool → Bool → Name → Head
named_head true a n = head.Declaration a n
named_head false a n = head.Expression a (Some n)

-- `(` where a function's name is missing: an expression needs none, a declaration does
abbrev pub nameless : Outer → Bool → Bool → Step
nameless o true a = refuse
nameless o false a = to o (at.Parameters (head.Expression a None) [])

-- a token behind `function`: its name or `(` (ECMA-262, section 15.2)
abbrev pub on_function_name : Outer → Bool → Bool → ℕ → TokenKind → Step
on_function_name o d a q (tok.Name u) = to o (at.ParametersOpen (named_head d a (name q u)))
on_function_name o d a q (tok.Punctuator p.OpenParen) = nameless o d a
on_function_name o d a q _ = refuse

-- a token behind a function's name, which must be `(`
abbrev pub on_parameters_open : Outer → Head → TokenKind → Step
on_parameters_open o h k = cond (is_open_paren k) (to o (at.Parameters h [])) refuse

-- a token behind `(` or a comma of parameters: the next name or `)` (ECMA-262, section 15.1)
abbrev pub on_parameters : Outer → Head → List Name → ℕ → TokenKind → Step
on_parameters o h ns q (tok.Name u) = to o (at.ParameterRead h ns (name q u))
on_parameters o h ns q (tok.Punctuator p.CloseParen) = to o (at.BodyOpen h ns)
on_parameters o h ns q _ = refuse_at spot.Parameter

-- a token behind a parameter, which must be a comma or `)`
abbrev pub on_parameter_read : Outer → Head → List Name → Name → TokenKind → Step
on_parameter_read o h ns n (tok.Punctuator p.Comma) = to o (at.Parameters h (ns ++ n ∷ []))
on_parameter_read o h ns n (tok.Punctuator p.CloseParen) = to o (at.BodyOpen h (ns ++ n ∷ []))
on_parameter_read o h ns n _ = refuse_at spot.Parameter

-- the constructs that a function opens, the object of a method among them
abbrev pub head_constructs : Head → ℕ
head_constructs (head.Method a xs k) = 2
head_constructs _ = 1

-- a token behind a function's parameters, which must be `{`
abbrev pub on_body_open : Outer → Head → List Name → TokenKind → Step
on_body_open o h ns k = cond (is_open_brace k) (open_block o (head_constructs h) (block.Function h ns)) refuse
