-- In objects and in the heads of functions: what is read fits its place.
use Rattle.std.proofs.Common.{ℕ, Bool, true, false, List, [], ◌∷◌, ◌++◌, Option, Some, None, refl}
use Rattle.js_lex.specs.declared.token.Punctuator.{Punctuator}
use Rattle.js_lex.specs.declared.token.Punctuator.TheVariants as p
use Rattle.js_lex.specs.declared.token.TokenKind.{TokenKind}
use Rattle.js_lex.specs.declared.token.TokenKind.TheVariants as tok
use Rattle.js_lex.specs.declared.token.Token.{Token}
use Rattle.js_tree.specs.declared.tree.Key.{Key}
use Rattle.js_tree.specs.declared.tree.Key.TheVariants as keys
use Rattle.js_tree.specs.declared.tree.Name.{Name}
use Rattle.js_tree.specs.declared.tree.Property.{Property}
use Rattle.js_tree.specs.declared.tree.Property.TheVariants as property
use Rattle.js_grammar.specs.Shapes.{of_property}
use Rattle.js_parse_core.specs.declared.machine.At.TheVariants as at
use Rattle.js_parse_core.specs.declared.machine.Block.TheVariants as block
use Rattle.js_parse_core.specs.declared.machine.Head.{Head}
use Rattle.js_parse_core.specs.declared.machine.Head.TheVariants as head
use Rattle.js_parse_core.specs.declared.machine.Outer.{Outer}
use Rattle.js_parse_core.specs.declared.machine.Purpose.TheVariants as purpose
use Rattle.js_parse_core.specs.Objects.{key, on_key_name, on_key_sign, on_found_key, on_key, on_other_key, on_name_key, on_async_name, on_async_found, on_async_key, on_async_method, on_property_end, named_head, nameless, on_function_name, on_parameters_open, on_parameters, on_parameter_read, head_constructs, on_body_open}
use Rattle.js_parse_core.specs.Tokens.{name, is_async, is_open_paren, is_open_brace, is_open_bracket, is_comma, is_close_brace}
use Rattle.js_parse_core.proofs.Fine.{FineObject, FineHead, FineNamed, FineOuter, FineStep}
use Rattle.js_parse_core.proofs.FineLemmas.{either}
use Rattle.js_parse_core.proofs.FineBodies.{all_push, fine_to, fine_wait}
use Rattle.js_parse_core.proofs.BoundsValues.{fine_close_object}
use Rattle.js_parse_core.proofs.BoundsOperands.{fine_open_block}
use Rattle.js_parse_core.proofs.ShapeEquations.{shape_short}

fine_key_name : (o : Outer) (xs : List Property) (n : Name) (b : Bool) → FineOuter o → FineObject xs o.frames → FineStep (on_key_name o xs n b)
fine_key_name o xs n true f h = fine_to o (at.AsyncKey xs n) f h
fine_key_name o xs n false f h = fine_to o (at.NameKey xs n) f h

fine_key_sign : (o : Outer) (xs : List Property) (s : Punctuator) → FineOuter o → FineObject xs o.frames → FineStep (on_key_sign o xs s)
fine_key_sign o xs p.CloseBrace f h = fine_close_object o xs f h
fine_key_sign o xs _ f h = tt

fine_found_key : (o : Outer) (xs : List Property) (k : Option Key) → FineOuter o → FineObject xs o.frames → FineStep (on_found_key o xs k)
fine_found_key o xs (Some k) f h = fine_to o (at.OtherKey xs k) f h
fine_found_key o xs None f h = tt

pub fine_key : (o : Outer) (xs : List Property) (q : ℕ) (k : TokenKind) → FineOuter o → FineObject xs o.frames → FineStep (on_key o xs q k)
fine_key o xs q (tok.Name u) f h = fine_key_name o xs (name q u) (is_async u) f h
fine_key o xs q (tok.Punctuator s) f h = fine_key_sign o xs s f h
fine_key o xs q k f h = fine_found_key o xs (key q k) f h

fine_other_sign : (o : Outer) (xs : List Property) (k : Key) (s : Punctuator) → FineOuter o → FineObject xs o.frames → FineStep (on_other_key o xs k (tok.Punctuator s))
fine_other_sign o xs k p.Colon f h = fine_wait o 1 (purpose.Pair xs k) f h (λ g. refl)
fine_other_sign o xs k p.OpenParen f h = fine_to o (at.Parameters (head.Method false xs k) []) f h
fine_other_sign o xs k _ f h = tt

pub fine_other_key : (o : Outer) (xs : List Property) (k : Key) (t : TokenKind) → FineOuter o → FineObject xs o.frames → FineStep (on_other_key o xs k t)
fine_other_key o xs k (tok.Punctuator s) f h = fine_other_sign o xs k s f h
fine_other_key o xs k _ f h = tt

short_pushed : (o : Outer) (xs : List Property) (n : Name) → FineObject xs o.frames → FineObject (xs ++ property.Short n ∷ []) o.frames
short_pushed o xs n h = (all_push of_property xs (property.Short n) h.0 (shape_short n), h.1)

pub fine_name_key : (o : Outer) (xs : List Property) (n : Name) (k : TokenKind) → FineOuter o → FineObject xs o.frames → FineStep (on_name_key o xs n k)
fine_name_key o xs n k f h = either (is_comma k) _ _ (λ _. fine_to o (at.Key (xs ++ property.Short n ∷ [])) f (short_pushed o xs n h))
    (λ _. either (is_close_brace k) _ _ (λ _. fine_close_object o (xs ++ property.Short n ∷ []) f (short_pushed o xs n h)) (λ _. fine_other_key o xs (keys.Name n) k f h))

fine_async_name : (o : Outer) (xs : List Property) (n : Name) (k : TokenKind) → FineOuter o → FineObject xs o.frames → FineStep (on_async_name o xs n k)
fine_async_name o xs n k f h = either (is_open_bracket k) _ _ (λ _. tt) (λ _. fine_name_key o xs n k f h)

fine_async_found : (o : Outer) (xs : List Property) (n : Name) (k : TokenKind) (found : Option Key) → FineOuter o → FineObject xs o.frames → FineStep (on_async_found o xs n k found)
fine_async_found o xs n k (Some found) f h = fine_to o (at.AsyncMethod xs found) f h
fine_async_found o xs n k None f h = fine_async_name o xs n k f h

pub fine_async_key : (o : Outer) (xs : List Property) (n : Name) (t : Token) → FineOuter o → FineObject xs o.frames → FineStep (on_async_key o xs n t)
fine_async_key o xs n t f h = either t.after_line_end _ _ (λ _. fine_async_name o xs n t.kind f h) (λ _. fine_async_found o xs n t.kind (key t.place t.kind) f h)

pub fine_async_method : (o : Outer) (xs : List Property) (k : Key) (t : TokenKind) → FineOuter o → FineObject xs o.frames → FineStep (on_async_method o xs k t)
fine_async_method o xs k t f h = either (is_open_paren t) _ _ (λ _. fine_to o (at.Parameters (head.Method true xs k) []) f h) (λ _. tt)

pub fine_property_end : (o : Outer) (xs : List Property) (k : TokenKind) → FineOuter o → FineObject xs o.frames → FineStep (on_property_end o xs k)
fine_property_end o xs k f h = either (is_comma k) _ _ (λ _. fine_to o (at.Key xs) f h) (λ _. either (is_close_brace k) _ _ (λ _. fine_close_object o xs f h) (λ _. tt))

-- ---- functions

fine_named_head : (o : Outer) (d a : Bool) (n : Name) → FineNamed d o.frames → FineHead (named_head d a n) o.frames
fine_named_head o true a n h = h
fine_named_head o false a n h = h

fine_nameless : (o : Outer) (d a : Bool) → FineOuter o → FineNamed d o.frames → FineStep (nameless o d a)
fine_nameless o true a f h = tt
fine_nameless o false a f h = fine_to o (at.Parameters (head.Expression a None) []) f h

fine_function_sign : (o : Outer) (d a : Bool) (q : ℕ) (s : Punctuator) → FineOuter o → FineNamed d o.frames → FineStep (on_function_name o d a q (tok.Punctuator s))
fine_function_sign o d a q p.OpenParen f h = fine_nameless o d a f h
fine_function_sign o d a q _ f h = tt

pub fine_function_name : (o : Outer) (d a : Bool) (q : ℕ) (k : TokenKind) → FineOuter o → FineNamed d o.frames → FineStep (on_function_name o d a q k)
fine_function_name o d a q (tok.Name u) f h = fine_to o (at.ParametersOpen (named_head d a (name q u))) f (fine_named_head o d a (name q u) h)
fine_function_name o d a q (tok.Punctuator s) f h = fine_function_sign o d a q s f h
fine_function_name o d a q _ f h = tt

pub fine_parameters_open : (o : Outer) (x : Head) (k : TokenKind) → FineOuter o → FineHead x o.frames → FineStep (on_parameters_open o x k)
fine_parameters_open o x k f h = either (is_open_paren k) _ _ (λ _. fine_to o (at.Parameters x []) f h) (λ _. tt)

fine_parameters_sign : (o : Outer) (x : Head) (ns : List Name) (q : ℕ) (s : Punctuator) → FineOuter o → FineHead x o.frames → FineStep (on_parameters o x ns q (tok.Punctuator s))
fine_parameters_sign o x ns q p.CloseParen f h = fine_to o (at.BodyOpen x ns) f h
fine_parameters_sign o x ns q _ f h = tt

pub fine_parameters : (o : Outer) (x : Head) (ns : List Name) (q : ℕ) (k : TokenKind) → FineOuter o → FineHead x o.frames → FineStep (on_parameters o x ns q k)
fine_parameters o x ns q (tok.Name u) f h = fine_to o (at.ParameterRead x ns (name q u)) f h
fine_parameters o x ns q (tok.Punctuator s) f h = fine_parameters_sign o x ns q s f h
fine_parameters o x ns q _ f h = tt

fine_parameter_sign : (o : Outer) (x : Head) (ns : List Name) (n : Name) (s : Punctuator) → FineOuter o → FineHead x o.frames → FineStep (on_parameter_read o x ns n (tok.Punctuator s))
fine_parameter_sign o x ns n p.Comma f h = fine_to o (at.Parameters x (ns ++ n ∷ [])) f h
fine_parameter_sign o x ns n p.CloseParen f h = fine_to o (at.BodyOpen x (ns ++ n ∷ [])) f h
fine_parameter_sign o x ns n _ f h = tt

pub fine_parameter_read : (o : Outer) (x : Head) (ns : List Name) (n : Name) (k : TokenKind) → FineOuter o → FineHead x o.frames → FineStep (on_parameter_read o x ns n k)
fine_parameter_read o x ns n (tok.Punctuator s) f h = fine_parameter_sign o x ns n s f h
fine_parameter_read o x ns n _ f h = tt

pub fine_body_open : (o : Outer) (x : Head) (ns : List Name) (k : TokenKind) → FineOuter o → FineHead x o.frames → FineStep (on_body_open o x ns k)
fine_body_open o x ns k f h = either (is_open_brace k) _ _ (λ _. fine_open_block o (head_constructs x) (block.Function x ns) f h) (λ _. tt)
