-- Forms without how many constructs are open, and what each tree is written as in them.
use Rattle.std.proofs.Common.{◌≡◌, ℕ, ◌+◌, Bool, true, false, List, [], ◌∷◌, ◌++◌, map, Option, Some, None, refl, ◌∙◌, ap, subst, inl, inr}
use Rattle.std.specs.Prelude.{flat_map}
use Rattle.std.proofs.lemmas.List.{map-append}
use Rattle.js_lex.specs.declared.token.Punctuator.{Punctuator}
use Rattle.js_lex.specs.declared.token.Punctuator.TheVariants as p
use Rattle.js_lex.specs.declared.token.Reserved.TheVariants as r
use Rattle.js_lex.specs.declared.token.TokenKind.TheVariants as tok
use Rattle.js_tree.specs.declared.tree.Name.{Name}
use Rattle.js_tree.specs.declared.tree.Key.{Key}
use Rattle.js_tree.specs.declared.tree.Key.TheVariants as keys
use Rattle.js_lex.specs.declared.token.TemplatePart.{TemplatePart}
use Rattle.js_lex.specs.declared.token.TemplatePart.TheVariants as part
use Rattle.js_tree.specs.declared.tree.AssignOp.{AssignOp}
use Rattle.js_tree.specs.declared.tree.BinaryOp.{BinaryOp}
use Rattle.js_tree.specs.declared.tree.UnaryOp.{UnaryOp}
use Rattle.js_tree.specs.declared.tree.UnaryOp.TheVariants as unary
use Rattle.js_tree.specs.declared.tree.UpdateOp.{UpdateOp}
use Rattle.js_tree.specs.declared.tree.UpdateSide.TheVariants as side
use Rattle.js_tree.specs.declared.tree.ArrowBody.{ArrowBody}
use Rattle.js_tree.specs.declared.tree.ArrowBody.TheVariants as arrow_body
use Rattle.js_tree.specs.declared.tree.Expr.{Expr}
use Rattle.js_tree.specs.declared.tree.Expr.TheVariants as expr
use Rattle.js_tree.specs.declared.tree.Function.{Function}
use Rattle.js_tree.specs.declared.tree.Property.{Property}
use Rattle.js_tree.specs.declared.tree.Property.TheVariants as property
use Rattle.js_tree.specs.declared.tree.Stmt.{Stmt}
use Rattle.js_tree.specs.declared.tree.Target.{Target}
use Rattle.js_tree.specs.declared.tree.Target.TheVariants as target
use Rattle.js_tree.specs.declared.tree.TemplateItem.{TemplateItem}
use Rattle.js_grammar.specs.Marks.{Piece, Just, Mark, Form, mark, unbroken, one, just, sign, maybe, deeper_mark, deeper, first_unbroken, on_one_line, enclosed, more, separated, listed}
use Rattle.js_grammar.specs.Grammar.{object, Written, WrittenFunction, WrittenPart, values, name, any_name, name_forms, key, reserved, reserved_at, async, perhaps_async, option_name, unary_form, binary_sign, update_sign, assign_sign, parameters, block, statements, accessed, template_mark, template_rest, arrow_parameters, arrow_sign, of_expr, of_target, of_property, of_function, of_arrow_body, of_template, of_stmt}
use Rattle.js_parse_core.proofs.Pieces.{Spells, SpellsOne, Fits}
use Rattle.js_grammar.proofs.Equations.{written_name, written_number, written_text, written_true, written_false, written_null, written_this, written_template, written_array, written_object, written_function_expr, written_arrow_expr, written_group, written_unary, written_await, written_update, written_binary, written_conditional, written_assign, written_call, written_new, written_member, written_index, written_variable, written_field, written_item, written_pair, written_short, written_method, written_arrow_statements, written_arrow_value, written_function, written_part}
use Rattle.js_parse_core.proofs.Covers.{Covers}

-- ---- without counts

abbrev pub bare_mark : Mark → Mark
bare_mark m = record { want = m.want; unbroken = m.unbroken; constructs = 0 }

abbrev pub bare_form : Form → Form
bare_form f = map (map bare_mark) f

unfoldable pub bare : List Form → List Form
bare fs = map bare_form fs

spells_bare : (ms : List Mark) (ps : List Piece) → Spells ms ps → Spells (map bare_mark ms) ps
spells_bare [] ps e = e
spells_bare (m ∷ ms) ps (q, rest, e, w, h) = (q, rest, e, w, spells_bare ms rest h)

bare_spells : (ms : List Mark) (ps : List Piece) → Spells (map bare_mark ms) ps → Spells ms ps
bare_spells [] ps e = e
bare_spells (m ∷ ms) ps (q, rest, e, w, h) = (q, rest, e, w, bare_spells ms rest h)

one_bare : (f : Form) (ps : List Piece) → SpellsOne f ps → SpellsOne (bare_form f) ps
one_bare [] ps h = h
one_bare (ms ∷ f) ps (inl h) = inl (spells_bare ms ps h)
one_bare (ms ∷ f) ps (inr h) = inr (one_bare f ps h)

bare_one : (f : Form) (ps : List Piece) → SpellsOne (bare_form f) ps → SpellsOne f ps
bare_one [] ps h = h
bare_one (ms ∷ f) ps (inl h) = inl (bare_spells ms ps h)
bare_one (ms ∷ f) ps (inr h) = inr (bare_one f ps h)

-- counts play no role
pub fits_bare : (fs : List Form) (ps : List Piece) → Fits fs ps → Fits (bare fs) ps
unfolding bare
fits_bare [] ps e = e
fits_bare (f ∷ fs) ps (a, b, e, o, h) = (a, b, e, one_bare f a o, fits_bare fs b h)

pub bare_fits : (fs : List Form) (ps : List Piece) → Fits (bare fs) ps → Fits fs ps
unfolding bare
bare_fits [] ps e = e
bare_fits (f ∷ fs) ps (a, b, e, o, h) = (a, b, e, bare_one f a o, bare_fits fs b h)

pub covers_bare : (a b : List Form) → bare a ≡ bare b → Covers a b
covers_bare a b e = record { covers = λ ps h. bare_fits b ps (subst (λ (z : List Form). Fits z ps) e (fits_bare a ps h)) }

pub bare_nil : bare [] ≡ []
unfolding bare
bare_nil = refl

pub bare_cons : (f : Form) (fs : List Form) → bare (f ∷ fs) ≡ bare_form f ∷ bare fs
unfolding bare
bare_cons f fs = refl

pub bare_append : (a b : List Form) → bare (a ++ b) ≡ bare a ++ bare b
unfolding bare
bare_append a b = map-append bare_form a b

deeper_marks : (n : ℕ) (ms : List Mark) → map bare_mark (map (deeper_mark n) ms) ≡ map bare_mark ms
deeper_marks n [] = refl
deeper_marks n (m ∷ ms) = ap (λ (z : List Mark). bare_mark m ∷ z) (deeper_marks n ms)

deeper_form : (n : ℕ) (f : Form) → bare_form (map (map (deeper_mark n)) f) ≡ bare_form f
deeper_form n [] = refl
deeper_form n (ms ∷ f) = ap (λ (z : List Mark). z ∷ bare_form (map (map (deeper_mark n)) f)) (deeper_marks n ms) ∙ ap (λ (z : Form). map bare_mark ms ∷ z) (deeper_form n f)

pub bare_deeper : (n : ℕ) (fs : List Form) → bare (deeper n fs) ≡ bare fs
unfolding bare
bare_deeper n [] = refl
bare_deeper n (f ∷ fs) = ap (λ (z : Form). z ∷ map bare_form (deeper n fs)) (deeper_form n f) ∙ ap (λ (z : List Form). bare_form f ∷ z) (bare_deeper n fs)

pub bare_more : (xs : List (List Form)) → bare (more xs) ≡ more (map bare xs)
bare_more [] = bare_nil
bare_more (x ∷ xs) = bare_cons _ _ ∙ ap (λ (z : List Form). just p.Comma ∷ z) (bare_append x (more xs) ∙ ap (λ (z : List Form). bare x ++ z) (bare_more xs))

pub bare_separated : (xs : List (List Form)) → bare (separated xs) ≡ separated (map bare xs)
bare_separated [] = bare_nil
bare_separated (x ∷ xs) = bare_append x (more xs) ∙ ap (λ (z : List Form). bare x ++ z) (bare_more xs)

pub bare_listed : (xs : List (List Form)) → bare (listed xs) ≡ listed (map bare xs)
bare_listed [] = bare_nil
bare_listed (x ∷ xs) =
    bare_append (x ++ more xs) _ ∙ ap (λ (z : List Form). z ++ bare (maybe (sign p.Comma) ∷ [])) (bare_append x (more xs) ∙ ap (λ (z : List Form). bare x ++ z) (bare_more xs))
    ∙ ap (λ (z : List Form). (bare x ++ more (map bare xs)) ++ z) (bare_cons _ _ ∙ ap (λ (z : List Form). maybe (sign p.Comma) ∷ z) bare_nil)

unbroken_bare : (f : Form) → bare_form (map first_unbroken f) ≡ map first_unbroken (bare_form f)
unbroken_bare [] = refl
unbroken_bare ([] ∷ f) = ap (λ (z : Form). [] ∷ z) (unbroken_bare f)
unbroken_bare ((m ∷ ms) ∷ f) = ap (λ (z : Form). (unbroken (bare_mark m) ∷ map bare_mark ms) ∷ z) (unbroken_bare f)

pub bare_on_one_line : (fs : List Form) → bare (on_one_line fs) ≡ on_one_line (bare fs)
unfolding bare
bare_on_one_line [] = refl
bare_on_one_line (f ∷ fs) = ap (λ (z : Form). z ∷ bare fs) (unbroken_bare f)

pub bare_perhaps : (a : Bool) (fs : List Form) → bare (perhaps_async a fs) ≡ perhaps_async a (bare fs)
unfolding bare
bare_perhaps true fs = ap (λ (z : List Form). async ∷ z) (bare_on_one_line fs)
bare_perhaps false fs = refl

pub bare_enclosed : (a : Punctuator) (fs : List Form) (b : Punctuator) (x : List Form) → bare fs ≡ x → bare (enclosed a fs b) ≡ just a ∷ (x ++ just b ∷ [])
unfolding bare
bare_enclosed a fs b x e = bare_deeper 1 (just a ∷ (fs ++ just b ∷ [])) ∙ ap (λ (z : List Form). just a ∷ z) (bare_append fs (just b ∷ []) ∙ ap (λ (z : List Form). z ++ just b ∷ []) e)

names_bare : (ns : List Name) → map bare (map name_forms ns) ≡ map name_forms ns
unfolding bare
names_bare [] = refl
names_bare (n ∷ ns) = ap (λ (z : List (List Form)). name_forms n ∷ z) (names_bare ns)

key_bare : (k : Key) → bare_form (key k) ≡ key k
key_bare (keys.Name n) = refl
key_bare (keys.Text u) = refl
key_bare (keys.Number n) = refl

-- ---- what the parts of a tree are written as

abbrev forms_of : Written → List Form
forms_of w = bare w.forms

unfoldable pub expr_forms : Expr → List Form
expr_forms x = bare (of_expr x).forms

unfoldable pub target_forms : Target → List Form
target_forms x = bare (of_target x).forms

unfoldable pub property_forms : Property → List Form
property_forms x = bare (of_property x)

unfoldable pub arrow_body_forms : ArrowBody → List Form
arrow_body_forms b = bare (of_arrow_body b)

unfoldable pub stmt_forms : Stmt → List Form
stmt_forms s = bare (of_stmt s).forms

abbrev pub stmts_forms : List Stmt → List Form
stmts_forms ss = flat_map stmt_forms ss

abbrev pub braced : List Form → List Form
braced fs = just p.OpenBrace ∷ (fs ++ just p.CloseBrace ∷ [])

abbrev pub bracketed : List Form → List Form
bracketed fs = just p.OpenParen ∷ (fs ++ just p.CloseParen ∷ [])

abbrev pub function_forms : List Name → List Stmt → List Form
function_forms ns ss = bracketed (listed (map name_forms ns)) ++ braced (stmts_forms ss)

abbrev pub arrow_names : List Name → List Form
arrow_names ns = bare (arrow_parameters ns)

values_bare : (xs : List Expr) → map bare (values (map of_expr xs)) ≡ map expr_forms xs
unfolding expr_forms
values_bare [] = refl
values_bare (x ∷ xs) = ap (λ (z : List (List Form)). bare (of_expr x).forms ∷ z) (values_bare xs)

properties_bare : (xs : List Property) → map bare (map of_property xs) ≡ map property_forms xs
unfolding property_forms
properties_bare [] = refl
properties_bare (x ∷ xs) = ap (λ (z : List (List Form)). bare (of_property x) ∷ z) (properties_bare xs)

listed_values : (xs : List Expr) → bare (listed (values (map of_expr xs))) ≡ listed (map expr_forms xs)
listed_values xs = bare_listed (values (map of_expr xs)) ∙ ap listed (values_bare xs)

listed_properties : (xs : List Property) → bare (listed (map of_property xs)) ≡ listed (map property_forms xs)
listed_properties xs = bare_listed (map of_property xs) ∙ ap listed (properties_bare xs)

statements_bare : (ss : List Stmt) → bare (statements (map of_stmt ss)) ≡ stmts_forms ss
unfolding bare stmt_forms
statements_bare [] = refl
statements_bare (s ∷ ss) = bare_append (of_stmt s).forms (statements (map of_stmt ss)) ∙ ap (λ (z : List Form). bare (of_stmt s).forms ++ z) (statements_bare ss)

pub block_bare : (ss : List Stmt) → bare (block (map of_stmt ss)) ≡ braced (stmts_forms ss)
block_bare ss = bare_enclosed p.OpenBrace (statements (map of_stmt ss)) p.CloseBrace (stmts_forms ss) (statements_bare ss)

pub parameters_bare : (ns : List Name) → bare (parameters ns) ≡ bracketed (listed (map name_forms ns))
parameters_bare ns = bare_enclosed p.OpenParen (listed (map name_forms ns)) p.CloseParen _ (bare_listed (map name_forms ns) ∙ ap listed (names_bare ns))

-- ---- expressions

pub expr_name : (n : Name) → expr_forms (expr.Name n) ≡ name n ∷ []
unfolding bare expr_forms
expr_name n = ap forms_of (written_name n)

pub expr_number : (n : ℕ) → expr_forms (expr.Number n) ≡ one (mark (Just (tok.Number n))) ∷ []
unfolding bare expr_forms
expr_number n = ap forms_of (written_number n)

pub expr_text : (u : List ℕ) → expr_forms (expr.Text u) ≡ one (mark (Just (tok.Text u))) ∷ []
unfolding bare expr_forms
expr_text u = ap forms_of (written_text u)

pub expr_true : expr_forms expr.True ≡ reserved r.True ∷ []
unfolding bare expr_forms
expr_true = ap forms_of written_true

pub expr_false : expr_forms expr.False ≡ reserved r.False ∷ []
unfolding bare expr_forms
expr_false = ap forms_of written_false

pub expr_null : expr_forms expr.Null ≡ reserved r.Null ∷ []
unfolding bare expr_forms
expr_null = ap forms_of written_null

pub expr_this : expr_forms expr.This ≡ reserved r.This ∷ []
unfolding bare expr_forms
expr_this = ap forms_of written_this

-- parts of a template behind the one of this kind
abbrev pub rest_forms : TemplatePart → List TemplateItem → List ℕ → List Form
rest_forms k [] u = template_mark part.Tail u ∷ []
rest_forms k (i ∷ is) u = template_mark k i.units ∷ (expr_forms i.value ++ rest_forms part.Middle is u)

rest_bare : (is : List TemplateItem) (u : List ℕ) → bare (template_rest (map of_template is) u) ≡ rest_forms part.Middle is u
unfolding bare expr_forms
rest_bare [] u = refl
rest_bare (i ∷ is) u =
    ap (λ (w : WrittenPart). bare (template_mark part.Middle w.units ∷ (w.value ++ template_rest (map of_template is) u))) (written_part i)
    ∙ ap (λ (z : List Form). template_mark part.Middle i.units ∷ z) (bare_append (of_expr i.value).forms (template_rest (map of_template is) u) ∙ ap (λ (z : List Form). bare (of_expr i.value).forms ++ z) (rest_bare is u))

pub expr_template_whole : (u : List ℕ) → expr_forms (expr.Template [] u) ≡ template_mark part.Whole u ∷ []
unfolding bare expr_forms
expr_template_whole u = ap forms_of (written_template [] u)

pub expr_template : (i : TemplateItem) (is : List TemplateItem) (u : List ℕ) → expr_forms (expr.Template (i ∷ is) u) ≡ rest_forms part.Head (i ∷ is) u
unfolding bare expr_forms
expr_template i is u =
    ap forms_of (written_template (i ∷ is) u)
    ∙ ap (λ (w : WrittenPart). bare (deeper 1 (template_mark part.Head w.units ∷ (w.value ++ template_rest (map of_template is) u)))) (written_part i)
    ∙ bare_deeper 1 (template_mark part.Head i.units ∷ ((of_expr i.value).forms ++ template_rest (map of_template is) u))
    ∙ ap (λ (z : List Form). template_mark part.Head i.units ∷ z) (bare_append (of_expr i.value).forms (template_rest (map of_template is) u) ∙ ap (λ (z : List Form). bare (of_expr i.value).forms ++ z) (rest_bare is u))

pub expr_array : (xs : List Expr) → expr_forms (expr.Array xs) ≡ just p.OpenBracket ∷ (listed (map expr_forms xs) ++ just p.CloseBracket ∷ [])
unfolding expr_forms
expr_array xs = ap forms_of (written_array xs) ∙ bare_enclosed p.OpenBracket (listed (values (map of_expr xs))) p.CloseBracket (listed (map expr_forms xs)) (listed_values xs)

pub object_bare : (xs : List Property) → bare (object (map of_property xs)) ≡ braced (listed (map property_forms xs))
object_bare xs = bare_enclosed p.OpenBrace (listed (map of_property xs)) p.CloseBrace (listed (map property_forms xs)) (listed_properties xs)

pub expr_object : (xs : List Property) → expr_forms (expr.Object xs) ≡ braced (listed (map property_forms xs))
unfolding expr_forms
expr_object xs = ap forms_of (written_object xs) ∙ object_bare xs

pub function_bare : (f : Function) → bare (of_function f).forms ≡ function_forms f.parameters f.body
function_bare f =
    ap (λ (w : WrittenFunction). bare w.forms) (written_function f)
    ∙ bare_append (parameters f.parameters) (block (map of_stmt f.body))
    ∙ ap (λ (z : List Form). z ++ bare (block (map of_stmt f.body))) (parameters_bare f.parameters)
    ∙ ap (λ (z : List Form). bracketed (listed (map name_forms f.parameters)) ++ z) (block_bare f.body)

pub function_async : (f : Function) → (of_function f).is_async ≡ f.is_async
function_async f = ap (λ (w : WrittenFunction). w.is_async) (written_function f)

-- `function`, perhaps with a name, or the key of a method, before parameters and body
pub perhaps_function : (fs : List Form) (f : Function) → bare (perhaps_async (of_function f).is_async (fs ++ (of_function f).forms)) ≡ perhaps_async f.is_async (bare fs ++ function_forms f.parameters f.body)
perhaps_function fs f =
    bare_perhaps (of_function f).is_async (fs ++ (of_function f).forms)
    ∙ ap (λ (a : Bool). perhaps_async a (bare (fs ++ (of_function f).forms))) (function_async f)
    ∙ ap (perhaps_async f.is_async) (bare_append fs (of_function f).forms ∙ ap (λ (z : List Form). bare fs ++ z) (function_bare f))

name_bare : (n : Option Name) → bare (option_name n) ≡ option_name n
unfolding bare
name_bare None = refl
name_bare (Some n) = refl

pub expr_function : (n : Option Name) (f : Function) → expr_forms (expr.Function n f) ≡ perhaps_async f.is_async (reserved r.Function ∷ (option_name n ++ function_forms f.parameters f.body))
unfolding bare expr_forms
expr_function n f =
    ap forms_of (written_function_expr n f) ∙ perhaps_function (reserved r.Function ∷ option_name n) f
    ∙ ap (λ (z : List Form). perhaps_async f.is_async (reserved r.Function ∷ (z ++ function_forms f.parameters f.body))) (name_bare n)

pub expr_arrow : (a : Bool) (ns : List Name) (b : ArrowBody) → expr_forms (expr.Arrow a ns b) ≡ perhaps_async a (arrow_names ns) ++ arrow_body_forms b
unfolding expr_forms arrow_body_forms
expr_arrow a ns b =
    ap forms_of (written_arrow_expr a ns b) ∙ bare_append (perhaps_async a (arrow_parameters ns)) (of_arrow_body b)
    ∙ ap (λ (z : List Form). z ++ bare (of_arrow_body b)) (bare_perhaps a (arrow_parameters ns))

pub arrow_statements : (ss : List Stmt) → arrow_body_forms (arrow_body.Statements ss) ≡ arrow_sign ∷ braced (stmts_forms ss)
unfolding bare arrow_body_forms
arrow_statements ss = ap bare (written_arrow_statements ss) ∙ ap (λ (z : List Form). arrow_sign ∷ z) (block_bare ss)

pub arrow_value : (x : Expr) → arrow_body_forms (arrow_body.Value x) ≡ arrow_sign ∷ expr_forms x
unfolding bare arrow_body_forms expr_forms
arrow_value x = ap bare (written_arrow_value x) ∙ bare_deeper 1 (arrow_sign ∷ (of_expr x).forms)

pub expr_group : (x : Expr) → expr_forms (expr.Group x) ≡ bracketed (expr_forms x)
unfolding expr_forms
expr_group x = ap forms_of (written_group x) ∙ bare_enclosed p.OpenParen (of_expr x).forms p.CloseParen (bare (of_expr x).forms) refl

unary_bare : (o : UnaryOp) → bare_form (unary_form o) ≡ unary_form o
unary_bare unary.Not = refl
unary_bare unary.Negate = refl
unary_bare unary.TypeOf = refl

pub expr_unary : (o : UnaryOp) (x : Expr) → expr_forms (expr.Unary o x) ≡ unary_form o ∷ expr_forms x
unfolding bare expr_forms
expr_unary o x = ap forms_of (written_unary o x) ∙ bare_deeper 1 (unary_form o ∷ (of_expr x).forms) ∙ ap (λ (z : Form). z ∷ bare (of_expr x).forms) (unary_bare o)

pub expr_await : (q : ℕ) (x : Expr) → expr_forms (expr.Await q x) ≡ reserved_at q r.Await ∷ expr_forms x
unfolding bare expr_forms
expr_await q x = ap forms_of (written_await q x) ∙ bare_deeper 1 (reserved_at q r.Await ∷ (of_expr x).forms)

pub expr_update_before : (o : UpdateOp) (x : Target) → expr_forms (expr.Update side.Before o x) ≡ just (update_sign o) ∷ target_forms x
unfolding bare expr_forms target_forms
expr_update_before o x = ap forms_of (written_update side.Before o x) ∙ bare_deeper 1 (just (update_sign o) ∷ (of_target x).forms)

pub expr_update_behind : (o : UpdateOp) (x : Target) → expr_forms (expr.Update side.Behind o x) ≡ target_forms x ++ one (unbroken (sign (update_sign o))) ∷ []
unfolding bare expr_forms target_forms
expr_update_behind o x = ap forms_of (written_update side.Behind o x) ∙ bare_append (of_target x).forms (one (unbroken (sign (update_sign o))) ∷ [])

pub expr_binary : (o : BinaryOp) (x y : Expr) → expr_forms (expr.Binary o x y) ≡ expr_forms x ++ just (binary_sign o) ∷ expr_forms y
unfolding bare expr_forms
expr_binary o x y =
    ap forms_of (written_binary o x y) ∙ bare_append (of_expr x).forms (deeper ((of_expr x).operators + 1) (just (binary_sign o) ∷ (of_expr y).forms))
    ∙ ap (λ (z : List Form). bare (of_expr x).forms ++ z) (bare_deeper ((of_expr x).operators + 1) (just (binary_sign o) ∷ (of_expr y).forms))

pub expr_conditional : (test x y : Expr) → expr_forms (expr.Conditional test x y) ≡ expr_forms test ++ just p.Question ∷ (expr_forms x ++ just p.Colon ∷ expr_forms y)
unfolding bare expr_forms
expr_conditional test x y =
    ap forms_of (written_conditional test x y)
    ∙ bare_append (of_expr test).forms (deeper 1 (just p.Question ∷ (of_expr x).forms) ++ deeper 1 (just p.Colon ∷ (of_expr y).forms))
    ∙ ap (λ (z : List Form). bare (of_expr test).forms ++ z)
    (bare_append (deeper 1 (just p.Question ∷ (of_expr x).forms)) (deeper 1 (just p.Colon ∷ (of_expr y).forms))
    ∙ ap (λ (z : List Form). z ++ bare (deeper 1 (just p.Colon ∷ (of_expr y).forms))) (bare_deeper 1 (just p.Question ∷ (of_expr x).forms))
    ∙ ap (λ (z : List Form). (just p.Question ∷ bare (of_expr x).forms) ++ z) (bare_deeper 1 (just p.Colon ∷ (of_expr y).forms)))

pub expr_assign : (o : AssignOp) (x : Target) (y : Expr) → expr_forms (expr.Assign o x y) ≡ target_forms x ++ just (assign_sign o) ∷ expr_forms y
unfolding bare expr_forms target_forms
expr_assign o x y =
    ap forms_of (written_assign o x y) ∙ bare_append (of_target x).forms (deeper 1 (just (assign_sign o) ∷ (of_expr y).forms))
    ∙ ap (λ (z : List Form). bare (of_target x).forms ++ z) (bare_deeper 1 (just (assign_sign o) ∷ (of_expr y).forms))

bare_accessed : (w : Written) (fs x : List Form) → bare fs ≡ x → bare (accessed w fs).forms ≡ bare w.forms ++ x
bare_accessed w fs x e = bare_append w.forms (deeper w.accesses fs) ∙ ap (λ (z : List Form). bare w.forms ++ z) (bare_deeper w.accesses fs ∙ e)

member_bare : (n : Name) → bare (deeper 1 (just p.Dot ∷ any_name n ∷ [])) ≡ just p.Dot ∷ any_name n ∷ []
unfolding bare
member_bare n = refl

arguments_bare : (xs : List Expr) → bare (enclosed p.OpenParen (listed (values (map of_expr xs))) p.CloseParen) ≡ bracketed (listed (map expr_forms xs))
arguments_bare xs = bare_enclosed p.OpenParen (listed (values (map of_expr xs))) p.CloseParen (listed (map expr_forms xs)) (listed_values xs)

index_bare : (k : Expr) → bare (enclosed p.OpenBracket (of_expr k).forms p.CloseBracket) ≡ just p.OpenBracket ∷ (expr_forms k ++ just p.CloseBracket ∷ [])
unfolding expr_forms
index_bare k = bare_enclosed p.OpenBracket (of_expr k).forms p.CloseBracket (bare (of_expr k).forms) refl

pub expr_call : (x : Expr) (xs : List Expr) → expr_forms (expr.Call x xs) ≡ expr_forms x ++ bracketed (listed (map expr_forms xs))
unfolding expr_forms
expr_call x xs = ap forms_of (written_call x xs) ∙ bare_accessed (of_expr x) (enclosed p.OpenParen (listed (values (map of_expr xs))) p.CloseParen) _ (arguments_bare xs)

pub expr_new : (n : Name) (xs : List Expr) → expr_forms (expr.New n xs) ≡ reserved r.New ∷ name n ∷ bracketed (listed (map expr_forms xs))
unfolding bare expr_forms
expr_new n xs = ap forms_of (written_new n xs) ∙ ap (λ (z : List Form). reserved r.New ∷ name n ∷ z) (arguments_bare xs)

pub expr_member : (x : Expr) (n : Name) → expr_forms (expr.Member x n) ≡ expr_forms x ++ just p.Dot ∷ any_name n ∷ []
unfolding expr_forms
expr_member x n = ap forms_of (written_member x n) ∙ bare_accessed (of_expr x) (deeper 1 (just p.Dot ∷ any_name n ∷ [])) _ (member_bare n)

pub expr_index : (x k : Expr) → expr_forms (expr.Index x k) ≡ expr_forms x ++ just p.OpenBracket ∷ (expr_forms k ++ just p.CloseBracket ∷ [])
unfolding expr_forms
expr_index x k = ap forms_of (written_index x k) ∙ bare_accessed (of_expr x) (enclosed p.OpenBracket (of_expr k).forms p.CloseBracket) _ (index_bare k)

pub target_variable : (n : Name) → target_forms (target.Variable n) ≡ name n ∷ []
unfolding bare target_forms
target_variable n = ap forms_of (written_variable n)

pub target_field : (x : Expr) (n : Name) → target_forms (target.Field x n) ≡ expr_forms x ++ just p.Dot ∷ any_name n ∷ []
unfolding target_forms expr_forms
target_field x n = ap forms_of (written_field x n) ∙ bare_accessed (of_expr x) (deeper 1 (just p.Dot ∷ any_name n ∷ [])) _ (member_bare n)

pub target_item : (x k : Expr) → target_forms (target.Item x k) ≡ expr_forms x ++ just p.OpenBracket ∷ (expr_forms k ++ just p.CloseBracket ∷ [])
unfolding target_forms expr_forms
target_item x k = ap forms_of (written_item x k) ∙ bare_accessed (of_expr x) (enclosed p.OpenBracket (of_expr k).forms p.CloseBracket) _ (index_bare k)

-- ---- members of objects

pub property_pair : (k : Key) (x : Expr) → property_forms (property.Pair k x) ≡ key k ∷ just p.Colon ∷ expr_forms x
unfolding bare property_forms expr_forms
property_pair k x = ap bare (written_pair k x) ∙ ap (λ (z : Form). z ∷ just p.Colon ∷ bare (of_expr x).forms) (key_bare k)

pub property_short : (n : Name) → property_forms (property.Short n) ≡ name n ∷ []
unfolding bare property_forms
property_short n = ap bare (written_short n)

pub property_method : (k : Key) (f : Function) → property_forms (property.Method k f) ≡ perhaps_async f.is_async (key k ∷ function_forms f.parameters f.body)
unfolding bare property_forms
property_method k f =
    ap bare (written_method k f) ∙ perhaps_function (key k ∷ []) f
    ∙ ap (λ (z : Form). perhaps_async f.is_async (z ∷ function_forms f.parameters f.body)) (key_bare k)
