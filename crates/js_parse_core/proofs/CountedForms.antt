-- What trees are written as where so many constructs are open round them.
use Rattle.std.proofs.Common.{◌≡◌, ℕ, ◌+◌, Bool, true, false, List, [], ◌∷◌, ◌++◌, map, Option, Some, None, refl, sym, ◌∙◌, ap, add_assoc}
use Rattle.js_grammar.specs.Marks.{Just, Mark, Form, mark, unbroken, one, just, sign, maybe, deeper_mark, deeper, first_unbroken, on_one_line, enclosed, more, separated, listed}
use Rattle.js_grammar.specs.Grammar.{object, Written, WrittenFunction, WrittenPart, values, name, any_name, name_forms, key, reserved, reserved_at, async, perhaps_async, option_name, unary_form, binary_sign, update_sign, assign_sign, parameters, block, statements, accessed, template_mark, template_rest, arrow_parameters, arrow_sign, of_expr, of_target, of_property, of_function, of_arrow_body, of_template, of_stmt}
use Rattle.std.specs.Prelude.{flat_map}
use Rattle.std.proofs.lemmas.List.{map-append}
use Rattle.js_lex.specs.declared.token.Punctuator.{Punctuator}
use Rattle.js_lex.specs.declared.token.Punctuator.TheVariants as p
use Rattle.js_lex.specs.declared.token.Reserved.TheVariants as r
use Rattle.js_lex.specs.declared.token.TokenKind.TheVariants as tok
use Rattle.js_tree.specs.declared.tree.Name.{Name}
use Rattle.js_tree.specs.declared.tree.Key.{Key}
use Rattle.js_lex.specs.declared.token.TemplatePart.{TemplatePart}
use Rattle.js_lex.specs.declared.token.TemplatePart.TheVariants as part
use Rattle.js_tree.specs.declared.tree.AssignOp.{AssignOp}
use Rattle.js_tree.specs.declared.tree.BinaryOp.{BinaryOp}
use Rattle.js_tree.specs.declared.tree.UnaryOp.{UnaryOp}
use Rattle.js_tree.specs.declared.tree.UpdateOp.{UpdateOp}
use Rattle.js_tree.specs.declared.tree.UpdateSide.TheVariants as side
use Rattle.js_tree.specs.declared.tree.ArrowBody.{ArrowBody}
use Rattle.js_tree.specs.declared.tree.ArrowBody.TheVariants as arrow_body
use Rattle.js_tree.specs.declared.tree.Expr.{Expr}
use Rattle.js_tree.specs.declared.tree.Expr.TheVariants as expr
use Rattle.js_tree.specs.declared.tree.Function.{Function}
use Rattle.js_tree.specs.declared.tree.Property.{Property}
use Rattle.js_tree.specs.declared.tree.Property.TheVariants as property
use Rattle.js_tree.specs.declared.tree.Stmt.{Stmt}
use Rattle.js_tree.specs.declared.tree.Target.{Target}
use Rattle.js_tree.specs.declared.tree.Target.TheVariants as target
use Rattle.js_tree.specs.declared.tree.TemplateItem.{TemplateItem}
use Rattle.js_grammar.proofs.Equations.{written_name, written_number, written_text, written_true, written_false, written_null, written_this, written_template, written_array, written_object, written_function_expr, written_arrow_expr, written_group, written_unary, written_await, written_update, written_binary, written_conditional, written_assign, written_call, written_new, written_member, written_index, written_variable, written_field, written_item, written_pair, written_short, written_method, written_arrow_statements, written_arrow_value, written_function, written_part}

-- ---- with more constructs open

abbrev pub up : ℕ → Form → Form
up n f = map (map (deeper_mark n)) f

unfoldable pub raised : ℕ → List Form → List Form
raised n fs = deeper n fs

pub raised_nil : (n : ℕ) → raised n [] ≡ []
unfolding raised
raised_nil n = refl

pub raised_cons : (n : ℕ) (f : Form) (fs : List Form) → raised n (f ∷ fs) ≡ up n f ∷ raised n fs
unfolding raised
raised_cons n f fs = refl

pub raised_append : (n : ℕ) (a b : List Form) → raised n (a ++ b) ≡ raised n a ++ raised n b
unfolding raised
raised_append n a b = map-append (up n) a b

marks_twice : (n k : ℕ) (ms : List Mark) → map (deeper_mark n) (map (deeper_mark k) ms) ≡ map (deeper_mark (n + k)) ms
marks_twice n k [] = refl
marks_twice n k (m ∷ ms) =
    ap (λ (c : ℕ). record { want = m.want; unbroken = m.unbroken; constructs = c } ∷ map (deeper_mark n) (map (deeper_mark k) ms)) (sym (add_assoc n k m.constructs))
    ∙ ap (λ (z : List Mark). deeper_mark (n + k) m ∷ z) (marks_twice n k ms)

pub up_twice : (n k : ℕ) (f : Form) → up n (up k f) ≡ up (n + k) f
up_twice n k [] = refl
up_twice n k (ms ∷ f) = ap (λ (z : List Mark). z ∷ up n (up k f)) (marks_twice n k ms) ∙ ap (λ (z : Form). map (deeper_mark (n + k)) ms ∷ z) (up_twice n k f)

pub raised_deeper : (n k : ℕ) (fs : List Form) → raised n (deeper k fs) ≡ raised (n + k) fs
unfolding raised
raised_deeper n k [] = refl
raised_deeper n k (f ∷ fs) = ap (λ (z : Form). z ∷ map (up n) (deeper k fs)) (up_twice n k f) ∙ ap (λ (z : List Form). up (n + k) f ∷ z) (raised_deeper n k fs)

-- with a comma between each two
abbrev pub more_at : ℕ → List (List Form) → List Form
more_at n [] = []
more_at n (x ∷ xs) = up n (just p.Comma) ∷ (x ++ more_at n xs)

abbrev pub separated_at : ℕ → List (List Form) → List Form
separated_at n [] = []
separated_at n (x ∷ xs) = x ++ more_at n xs

abbrev pub listed_at : ℕ → List (List Form) → List Form
listed_at n [] = []
listed_at n (x ∷ xs) = (x ++ more_at n xs) ++ up n (maybe (sign p.Comma)) ∷ []

pub raised_more : (n : ℕ) (xs : List (List Form)) → raised n (more xs) ≡ more_at n (map (raised n) xs)
raised_more n [] = raised_nil n
raised_more n (x ∷ xs) = raised_cons n _ _ ∙ ap (λ (z : List Form). up n (just p.Comma) ∷ z) (raised_append n x (more xs) ∙ ap (λ (z : List Form). raised n x ++ z) (raised_more n xs))

pub raised_separated : (n : ℕ) (xs : List (List Form)) → raised n (separated xs) ≡ separated_at n (map (raised n) xs)
raised_separated n [] = raised_nil n
raised_separated n (x ∷ xs) = raised_append n x (more xs) ∙ ap (λ (z : List Form). raised n x ++ z) (raised_more n xs)

pub raised_listed : (n : ℕ) (xs : List (List Form)) → raised n (listed xs) ≡ listed_at n (map (raised n) xs)
raised_listed n [] = raised_nil n
raised_listed n (x ∷ xs) =
    raised_append n (x ++ more xs) _ ∙ ap (λ (z : List Form). z ++ raised n (maybe (sign p.Comma) ∷ [])) (raised_append n x (more xs) ∙ ap (λ (z : List Form). raised n x ++ z) (raised_more n xs))
    ∙ ap (λ (z : List Form). (raised n x ++ more_at n (map (raised n) xs)) ++ z) (raised_cons n _ _ ∙ ap (λ (z : List Form). up n (maybe (sign p.Comma)) ∷ z) (raised_nil n))

unbroken_up : (n : ℕ) (f : Form) → up n (map first_unbroken f) ≡ map first_unbroken (up n f)
unbroken_up n [] = refl
unbroken_up n ([] ∷ f) = ap (λ (z : Form). [] ∷ z) (unbroken_up n f)
unbroken_up n ((m ∷ ms) ∷ f) = ap (λ (z : Form). (unbroken (deeper_mark n m) ∷ map (deeper_mark n) ms) ∷ z) (unbroken_up n f)

pub raised_on_one_line : (n : ℕ) (fs : List Form) → raised n (on_one_line fs) ≡ on_one_line (raised n fs)
unfolding raised
raised_on_one_line n [] = refl
raised_on_one_line n (f ∷ fs) = ap (λ (z : Form). z ∷ raised n fs) (unbroken_up n f)

abbrev pub perhaps_at : ℕ → Bool → List Form → List Form
perhaps_at n true fs = up n async ∷ on_one_line fs
perhaps_at n false fs = fs

pub raised_perhaps : (n : ℕ) (a : Bool) (fs : List Form) → raised n (perhaps_async a fs) ≡ perhaps_at n a (raised n fs)
unfolding raised
raised_perhaps n true fs = ap (λ (z : List Form). up n async ∷ z) (raised_on_one_line n fs)
raised_perhaps n false fs = refl

pub raised_enclosed : (n : ℕ) (a : Punctuator) (fs : List Form) (b : Punctuator) (x : List Form) → raised (n + 1) fs ≡ x → raised n (enclosed a fs b) ≡ up (n + 1) (just a) ∷ (x ++ up (n + 1) (just b) ∷ [])
unfolding raised
raised_enclosed n a fs b x e = raised_deeper n 1 (just a ∷ (fs ++ just b ∷ [])) ∙ ap (λ (z : List Form). up (n + 1) (just a) ∷ z) (raised_append (n + 1) fs (just b ∷ []) ∙ ap (λ (z : List Form). z ++ up (n + 1) (just b) ∷ []) e)

abbrev pub name_at : ℕ → Name → List Form
name_at n m = up n (name m) ∷ []

abbrev pub names_at : ℕ → List Name → List (List Form)
names_at n ms = map (name_at n) ms

pub names_raised : (n : ℕ) (ms : List Name) → map (raised n) (map name_forms ms) ≡ names_at n ms
unfolding raised
names_raised n [] = refl
names_raised n (m ∷ ms) = ap (λ (z : List (List Form)). name_at n m ∷ z) (names_raised n ms)

-- ---- what the parts of a tree are written as

abbrev forms_of : ℕ → Written → List Form
forms_of n w = raised n w.forms

unfoldable pub expr_at : ℕ → Expr → List Form
expr_at n x = raised n (of_expr x).forms

unfoldable pub target_at : ℕ → Target → List Form
target_at n x = raised n (of_target x).forms

unfoldable pub property_at : ℕ → Property → List Form
property_at n x = raised n (of_property x)

unfoldable pub arrow_body_at : ℕ → ArrowBody → List Form
arrow_body_at n b = raised n (of_arrow_body b)

unfoldable pub stmt_at : ℕ → Stmt → List Form
stmt_at n s = raised n (of_stmt s).forms

-- how many calls and member accesses its chain has, and how many operators
unfoldable pub accesses : Expr → ℕ
accesses x = (of_expr x).accesses

unfoldable pub operators : Expr → ℕ
operators x = (of_expr x).operators

-- how many constructs are open in the next access of its chain, or behind its next operator
abbrev pub access_at : ℕ → Expr → ℕ
access_at n x = (n + accesses x) + 1

abbrev pub operand_at : ℕ → Expr → ℕ
operand_at n x = n + (operators x + 1)

abbrev pub stmts_at : ℕ → List Stmt → List Form
stmts_at n ss = flat_map (stmt_at n) ss

abbrev pub braced_at : ℕ → List Form → List Form
braced_at n fs = up n (just p.OpenBrace) ∷ (fs ++ up n (just p.CloseBrace) ∷ [])

abbrev pub bracketed_at : ℕ → List Form → List Form
bracketed_at n fs = up n (just p.OpenParen) ∷ (fs ++ up n (just p.CloseParen) ∷ [])

abbrev pub parameters_at : ℕ → List Name → List Form
parameters_at n ns = bracketed_at n (listed_at n (names_at n ns))

abbrev pub function_at : ℕ → List Name → List Stmt → List Form
function_at n ns ss = parameters_at (n + 1) ns ++ braced_at (n + 1) (stmts_at (n + 1) ss)

abbrev pub arrow_at : ℕ → List Name → List Form
arrow_at n ns = raised n (arrow_parameters ns)

values_raised : (n : ℕ) (xs : List Expr) → map (raised n) (values (map of_expr xs)) ≡ map (expr_at n) xs
unfolding expr_at
values_raised n [] = refl
values_raised n (x ∷ xs) = ap (λ (z : List (List Form)). raised n (of_expr x).forms ∷ z) (values_raised n xs)

properties_raised : (n : ℕ) (xs : List Property) → map (raised n) (map of_property xs) ≡ map (property_at n) xs
unfolding property_at
properties_raised n [] = refl
properties_raised n (x ∷ xs) = ap (λ (z : List (List Form)). raised n (of_property x) ∷ z) (properties_raised n xs)

listed_values : (n : ℕ) (xs : List Expr) → raised n (listed (values (map of_expr xs))) ≡ listed_at n (map (expr_at n) xs)
listed_values n xs = raised_listed n (values (map of_expr xs)) ∙ ap (listed_at n) (values_raised n xs)

listed_properties : (n : ℕ) (xs : List Property) → raised n (listed (map of_property xs)) ≡ listed_at n (map (property_at n) xs)
listed_properties n xs = raised_listed n (map of_property xs) ∙ ap (listed_at n) (properties_raised n xs)

statements_raised : (n : ℕ) (ss : List Stmt) → raised n (statements (map of_stmt ss)) ≡ stmts_at n ss
unfolding raised stmt_at
statements_raised n [] = refl
statements_raised n (s ∷ ss) = raised_append n (of_stmt s).forms (statements (map of_stmt ss)) ∙ ap (λ (z : List Form). raised n (of_stmt s).forms ++ z) (statements_raised n ss)

pub block_raised : (n : ℕ) (ss : List Stmt) → raised n (block (map of_stmt ss)) ≡ braced_at (n + 1) (stmts_at (n + 1) ss)
block_raised n ss = raised_enclosed n p.OpenBrace (statements (map of_stmt ss)) p.CloseBrace (stmts_at (n + 1) ss) (statements_raised (n + 1) ss)

pub parameters_raised : (n : ℕ) (ns : List Name) → raised n (parameters ns) ≡ parameters_at (n + 1) ns
parameters_raised n ns = raised_enclosed n p.OpenParen (listed (map name_forms ns)) p.CloseParen _ (raised_listed (n + 1) (map name_forms ns) ∙ ap (listed_at (n + 1)) (names_raised (n + 1) ns))

-- ---- expressions

pub expr_name : (n : ℕ) (x : Name) → expr_at n (expr.Name x) ≡ up n (name x) ∷ []
unfolding raised expr_at
expr_name n x = ap (forms_of n) (written_name x)

pub expr_number : (n : ℕ) (v : ℕ) → expr_at n (expr.Number v) ≡ up n (one (mark (Just (tok.Number v)))) ∷ []
unfolding raised expr_at
expr_number n v = ap (forms_of n) (written_number v)

pub expr_text : (n : ℕ) (u : List ℕ) → expr_at n (expr.Text u) ≡ up n (one (mark (Just (tok.Text u)))) ∷ []
unfolding raised expr_at
expr_text n u = ap (forms_of n) (written_text u)

pub expr_true : (n : ℕ) → expr_at n expr.True ≡ up n (reserved r.True) ∷ []
unfolding raised expr_at
expr_true n = ap (forms_of n) written_true

pub expr_false : (n : ℕ) → expr_at n expr.False ≡ up n (reserved r.False) ∷ []
unfolding raised expr_at
expr_false n = ap (forms_of n) written_false

pub expr_null : (n : ℕ) → expr_at n expr.Null ≡ up n (reserved r.Null) ∷ []
unfolding raised expr_at
expr_null n = ap (forms_of n) written_null

pub expr_this : (n : ℕ) → expr_at n expr.This ≡ up n (reserved r.This) ∷ []
unfolding raised expr_at
expr_this n = ap (forms_of n) written_this

-- parts of a template behind the one of this kind
abbrev pub rest_at : ℕ → TemplatePart → List TemplateItem → List ℕ → List Form
rest_at n k [] u = up n (template_mark part.Tail u) ∷ []
rest_at n k (i ∷ is) u = up n (template_mark k i.units) ∷ (expr_at n i.value ++ rest_at n part.Middle is u)

rest_raised : (n : ℕ) (is : List TemplateItem) (u : List ℕ) → raised n (template_rest (map of_template is) u) ≡ rest_at n part.Middle is u
unfolding raised expr_at
rest_raised n [] u = refl
rest_raised n (i ∷ is) u =
    ap (λ (w : WrittenPart). raised n (template_mark part.Middle w.units ∷ (w.value ++ template_rest (map of_template is) u))) (written_part i)
    ∙ ap (λ (z : List Form). up n (template_mark part.Middle i.units) ∷ z) (raised_append n (of_expr i.value).forms (template_rest (map of_template is) u) ∙ ap (λ (z : List Form). raised n (of_expr i.value).forms ++ z) (rest_raised n is u))

pub expr_template_whole : (n : ℕ) (u : List ℕ) → expr_at n (expr.Template [] u) ≡ up n (template_mark part.Whole u) ∷ []
unfolding raised expr_at
expr_template_whole n u = ap (forms_of n) (written_template [] u)

pub expr_template : (n : ℕ) (i : TemplateItem) (is : List TemplateItem) (u : List ℕ) → expr_at n (expr.Template (i ∷ is) u) ≡ rest_at (n + 1) part.Head (i ∷ is) u
unfolding raised expr_at
expr_template n i is u =
    ap (forms_of n) (written_template (i ∷ is) u)
    ∙ ap (λ (w : WrittenPart). raised n (deeper 1 (template_mark part.Head w.units ∷ (w.value ++ template_rest (map of_template is) u)))) (written_part i)
    ∙ raised_deeper n 1 (template_mark part.Head i.units ∷ ((of_expr i.value).forms ++ template_rest (map of_template is) u))
    ∙ ap (λ (z : List Form). up (n + 1) (template_mark part.Head i.units) ∷ z) (raised_append (n + 1) (of_expr i.value).forms (template_rest (map of_template is) u) ∙ ap (λ (z : List Form). raised (n + 1) (of_expr i.value).forms ++ z) (rest_raised (n + 1) is u))

pub expr_array : (n : ℕ) (xs : List Expr) → expr_at n (expr.Array xs) ≡ up (n + 1) (just p.OpenBracket) ∷ (listed_at (n + 1) (map (expr_at (n + 1)) xs) ++ up (n + 1) (just p.CloseBracket) ∷ [])
unfolding expr_at
expr_array n xs = ap (forms_of n) (written_array xs) ∙ raised_enclosed n p.OpenBracket (listed (values (map of_expr xs))) p.CloseBracket _ (listed_values (n + 1) xs)

pub object_raised : (n : ℕ) (xs : List Property) → raised n (object (map of_property xs)) ≡ braced_at (n + 1) (listed_at (n + 1) (map (property_at (n + 1)) xs))
object_raised n xs = raised_enclosed n p.OpenBrace (listed (map of_property xs)) p.CloseBrace _ (listed_properties (n + 1) xs)

pub expr_object : (n : ℕ) (xs : List Property) → expr_at n (expr.Object xs) ≡ braced_at (n + 1) (listed_at (n + 1) (map (property_at (n + 1)) xs))
unfolding expr_at
expr_object n xs = ap (forms_of n) (written_object xs) ∙ object_raised n xs

pub function_raised : (n : ℕ) (f : Function) → raised n (of_function f).forms ≡ function_at n f.parameters f.body
function_raised n f =
    ap (λ (w : WrittenFunction). raised n w.forms) (written_function f)
    ∙ raised_append n (parameters f.parameters) (block (map of_stmt f.body))
    ∙ ap (λ (z : List Form). z ++ raised n (block (map of_stmt f.body))) (parameters_raised n f.parameters)
    ∙ ap (λ (z : List Form). parameters_at (n + 1) f.parameters ++ z) (block_raised n f.body)

pub function_async : (f : Function) → (of_function f).is_async ≡ f.is_async
function_async f = ap (λ (w : WrittenFunction). w.is_async) (written_function f)

-- `function`, perhaps with a name, or the key of a method, before parameters and body
pub perhaps_function : (n : ℕ) (fs : List Form) (f : Function) → raised n (perhaps_async (of_function f).is_async (fs ++ (of_function f).forms)) ≡ perhaps_at n f.is_async (raised n fs ++ function_at n f.parameters f.body)
perhaps_function n fs f =
    raised_perhaps n (of_function f).is_async (fs ++ (of_function f).forms)
    ∙ ap (λ (a : Bool). perhaps_at n a (raised n (fs ++ (of_function f).forms))) (function_async f)
    ∙ ap (perhaps_at n f.is_async) (raised_append n fs (of_function f).forms ∙ ap (λ (z : List Form). raised n fs ++ z) (function_raised n f))

abbrev pub option_name_at : ℕ → Option Name → List Form
option_name_at n None = []
option_name_at n (Some x) = name_at n x

name_raised : (n : ℕ) (x : Option Name) → raised n (option_name x) ≡ option_name_at n x
unfolding raised
name_raised n None = refl
name_raised n (Some x) = refl

pub expr_function : (n : ℕ) (x : Option Name) (f : Function) → expr_at n (expr.Function x f) ≡ perhaps_at n f.is_async (up n (reserved r.Function) ∷ (option_name_at n x ++ function_at n f.parameters f.body))
unfolding raised expr_at
expr_function n x f =
    ap (forms_of n) (written_function_expr x f) ∙ perhaps_function n (reserved r.Function ∷ option_name x) f
    ∙ ap (λ (z : List Form). perhaps_at n f.is_async (up n (reserved r.Function) ∷ (z ++ function_at n f.parameters f.body))) (name_raised n x)

pub expr_arrow : (n : ℕ) (a : Bool) (ns : List Name) (b : ArrowBody) → expr_at n (expr.Arrow a ns b) ≡ perhaps_at n a (arrow_at n ns) ++ arrow_body_at n b
unfolding expr_at arrow_body_at
expr_arrow n a ns b =
    ap (forms_of n) (written_arrow_expr a ns b) ∙ raised_append n (perhaps_async a (arrow_parameters ns)) (of_arrow_body b)
    ∙ ap (λ (z : List Form). z ++ raised n (of_arrow_body b)) (raised_perhaps n a (arrow_parameters ns))

pub arrow_statements : (n : ℕ) (ss : List Stmt) → arrow_body_at n (arrow_body.Statements ss) ≡ up n arrow_sign ∷ braced_at (n + 1) (stmts_at (n + 1) ss)
unfolding raised arrow_body_at
arrow_statements n ss = ap (raised n) (written_arrow_statements ss) ∙ ap (λ (z : List Form). up n arrow_sign ∷ z) (block_raised n ss)

pub arrow_value : (n : ℕ) (x : Expr) → arrow_body_at n (arrow_body.Value x) ≡ up (n + 1) arrow_sign ∷ expr_at (n + 1) x
unfolding raised arrow_body_at expr_at
arrow_value n x = ap (raised n) (written_arrow_value x) ∙ raised_deeper n 1 (arrow_sign ∷ (of_expr x).forms)

pub expr_group : (n : ℕ) (x : Expr) → expr_at n (expr.Group x) ≡ bracketed_at (n + 1) (expr_at (n + 1) x)
unfolding expr_at
expr_group n x = ap (forms_of n) (written_group x) ∙ raised_enclosed n p.OpenParen (of_expr x).forms p.CloseParen (raised (n + 1) (of_expr x).forms) refl

pub expr_unary : (n : ℕ) (o : UnaryOp) (x : Expr) → expr_at n (expr.Unary o x) ≡ up (n + 1) (unary_form o) ∷ expr_at (n + 1) x
unfolding raised expr_at
expr_unary n o x = ap (forms_of n) (written_unary o x) ∙ raised_deeper n 1 (unary_form o ∷ (of_expr x).forms)

pub expr_await : (n : ℕ) (q : ℕ) (x : Expr) → expr_at n (expr.Await q x) ≡ up (n + 1) (reserved_at q r.Await) ∷ expr_at (n + 1) x
unfolding raised expr_at
expr_await n q x = ap (forms_of n) (written_await q x) ∙ raised_deeper n 1 (reserved_at q r.Await ∷ (of_expr x).forms)

pub expr_update_before : (n : ℕ) (o : UpdateOp) (x : Target) → expr_at n (expr.Update side.Before o x) ≡ up (n + 1) (just (update_sign o)) ∷ target_at (n + 1) x
unfolding raised expr_at target_at
expr_update_before n o x = ap (forms_of n) (written_update side.Before o x) ∙ raised_deeper n 1 (just (update_sign o) ∷ (of_target x).forms)

pub expr_update_behind : (n : ℕ) (o : UpdateOp) (x : Target) → expr_at n (expr.Update side.Behind o x) ≡ target_at n x ++ up n (one (unbroken (sign (update_sign o)))) ∷ []
unfolding raised expr_at target_at
expr_update_behind n o x = ap (forms_of n) (written_update side.Behind o x) ∙ raised_append n (of_target x).forms (one (unbroken (sign (update_sign o))) ∷ [])

pub expr_binary : (n : ℕ) (o : BinaryOp) (x y : Expr) → expr_at n (expr.Binary o x y) ≡ expr_at n x ++ up (operand_at n x) (just (binary_sign o)) ∷ expr_at (operand_at n x) y
unfolding raised expr_at operators
expr_binary n o x y =
    ap (forms_of n) (written_binary o x y) ∙ raised_append n (of_expr x).forms (deeper ((of_expr x).operators + 1) (just (binary_sign o) ∷ (of_expr y).forms))
    ∙ ap (λ (z : List Form). raised n (of_expr x).forms ++ z) (raised_deeper n ((of_expr x).operators + 1) (just (binary_sign o) ∷ (of_expr y).forms))

pub expr_conditional : (n : ℕ) (test x y : Expr) → expr_at n (expr.Conditional test x y)
    ≡ expr_at n test ++ up (n + 1) (just p.Question) ∷ (expr_at (n + 1) x ++ up (n + 1) (just p.Colon) ∷ expr_at (n + 1) y)
unfolding raised expr_at
expr_conditional n test x y =
    ap (forms_of n) (written_conditional test x y)
    ∙ raised_append n (of_expr test).forms (deeper 1 (just p.Question ∷ (of_expr x).forms) ++ deeper 1 (just p.Colon ∷ (of_expr y).forms))
    ∙ ap (λ (z : List Form). raised n (of_expr test).forms ++ z)
    (raised_append n (deeper 1 (just p.Question ∷ (of_expr x).forms)) (deeper 1 (just p.Colon ∷ (of_expr y).forms))
    ∙ ap (λ (z : List Form). z ++ raised n (deeper 1 (just p.Colon ∷ (of_expr y).forms))) (raised_deeper n 1 (just p.Question ∷ (of_expr x).forms))
    ∙ ap (λ (z : List Form). (up (n + 1) (just p.Question) ∷ raised (n + 1) (of_expr x).forms) ++ z) (raised_deeper n 1 (just p.Colon ∷ (of_expr y).forms)))

pub expr_assign : (n : ℕ) (o : AssignOp) (x : Target) (y : Expr) → expr_at n (expr.Assign o x y) ≡ target_at n x ++ up (n + 1) (just (assign_sign o)) ∷ expr_at (n + 1) y
unfolding raised expr_at target_at
expr_assign n o x y =
    ap (forms_of n) (written_assign o x y) ∙ raised_append n (of_target x).forms (deeper 1 (just (assign_sign o) ∷ (of_expr y).forms))
    ∙ ap (λ (z : List Form). raised n (of_target x).forms ++ z) (raised_deeper n 1 (just (assign_sign o) ∷ (of_expr y).forms))

raised_accessed : (n : ℕ) (w : Written) (fs x : List Form) → raised (n + w.accesses) fs ≡ x → raised n (accessed w fs).forms ≡ raised n w.forms ++ x
raised_accessed n w fs x e = raised_append n w.forms (deeper w.accesses fs) ∙ ap (λ (z : List Form). raised n w.forms ++ z) (raised_deeper n w.accesses fs ∙ e)

abbrev pub member_at : ℕ → Name → List Form
member_at n x = up n (just p.Dot) ∷ up n (any_name x) ∷ []

member_raised : (n : ℕ) (x : Name) → raised n (deeper 1 (just p.Dot ∷ any_name x ∷ [])) ≡ member_at (n + 1) x
unfolding raised
member_raised n x = raised_deeper n 1 (just p.Dot ∷ any_name x ∷ [])

arguments_raised : (n : ℕ) (xs : List Expr) → raised n (enclosed p.OpenParen (listed (values (map of_expr xs))) p.CloseParen) ≡ bracketed_at (n + 1) (listed_at (n + 1) (map (expr_at (n + 1)) xs))
arguments_raised n xs = raised_enclosed n p.OpenParen (listed (values (map of_expr xs))) p.CloseParen _ (listed_values (n + 1) xs)

abbrev pub indexed_at : ℕ → Expr → List Form
indexed_at n k = up n (just p.OpenBracket) ∷ (expr_at n k ++ up n (just p.CloseBracket) ∷ [])

index_raised : (n : ℕ) (k : Expr) → raised n (enclosed p.OpenBracket (of_expr k).forms p.CloseBracket) ≡ indexed_at (n + 1) k
unfolding expr_at
index_raised n k = raised_enclosed n p.OpenBracket (of_expr k).forms p.CloseBracket (raised (n + 1) (of_expr k).forms) refl

pub expr_call : (n : ℕ) (x : Expr) (xs : List Expr) → expr_at n (expr.Call x xs) ≡ expr_at n x ++ bracketed_at (access_at n x) (listed_at (access_at n x) (map (expr_at (access_at n x)) xs))
unfolding expr_at accesses
expr_call n x xs = ap (forms_of n) (written_call x xs) ∙ raised_accessed n (of_expr x) (enclosed p.OpenParen (listed (values (map of_expr xs))) p.CloseParen) _ (arguments_raised (n + (of_expr x).accesses) xs)

pub expr_new : (n : ℕ) (m : Name) (xs : List Expr) → expr_at n (expr.New m xs) ≡ up n (reserved r.New) ∷ up n (name m) ∷ bracketed_at (n + 1) (listed_at (n + 1) (map (expr_at (n + 1)) xs))
unfolding raised expr_at
expr_new n m xs = ap (forms_of n) (written_new m xs) ∙ ap (λ (z : List Form). up n (reserved r.New) ∷ up n (name m) ∷ z) (arguments_raised n xs)

pub expr_member : (n : ℕ) (x : Expr) (m : Name) → expr_at n (expr.Member x m) ≡ expr_at n x ++ member_at (access_at n x) m
unfolding expr_at accesses
expr_member n x m = ap (forms_of n) (written_member x m) ∙ raised_accessed n (of_expr x) (deeper 1 (just p.Dot ∷ any_name m ∷ [])) _ (member_raised (n + (of_expr x).accesses) m)

pub expr_index : (n : ℕ) (x k : Expr) → expr_at n (expr.Index x k) ≡ expr_at n x ++ indexed_at (access_at n x) k
unfolding expr_at accesses
expr_index n x k = ap (forms_of n) (written_index x k) ∙ raised_accessed n (of_expr x) (enclosed p.OpenBracket (of_expr k).forms p.CloseBracket) _ (index_raised (n + (of_expr x).accesses) k)

pub target_variable : (n : ℕ) (x : Name) → target_at n (target.Variable x) ≡ up n (name x) ∷ []
unfolding raised target_at
target_variable n x = ap (forms_of n) (written_variable x)

pub target_field : (n : ℕ) (x : Expr) (m : Name) → target_at n (target.Field x m) ≡ expr_at n x ++ member_at (access_at n x) m
unfolding target_at expr_at accesses
target_field n x m = ap (forms_of n) (written_field x m) ∙ raised_accessed n (of_expr x) (deeper 1 (just p.Dot ∷ any_name m ∷ [])) _ (member_raised (n + (of_expr x).accesses) m)

pub target_item : (n : ℕ) (x k : Expr) → target_at n (target.Item x k) ≡ expr_at n x ++ indexed_at (access_at n x) k
unfolding target_at expr_at accesses
target_item n x k = ap (forms_of n) (written_item x k) ∙ raised_accessed n (of_expr x) (enclosed p.OpenBracket (of_expr k).forms p.CloseBracket) _ (index_raised (n + (of_expr x).accesses) k)

-- ---- members of objects

pub property_pair : (n : ℕ) (k : Key) (x : Expr) → property_at n (property.Pair k x) ≡ up n (key k) ∷ up n (just p.Colon) ∷ expr_at n x
unfolding raised property_at expr_at
property_pair n k x = ap (raised n) (written_pair k x)

pub property_short : (n : ℕ) (x : Name) → property_at n (property.Short x) ≡ up n (name x) ∷ []
unfolding raised property_at
property_short n x = ap (raised n) (written_short x)

pub property_method : (n : ℕ) (k : Key) (f : Function) → property_at n (property.Method k f) ≡ perhaps_at n f.is_async (up n (key k) ∷ function_at n f.parameters f.body)
unfolding raised property_at
property_method n k f = ap (raised n) (written_method k f) ∙ perhaps_function n (key k ∷ []) f

-- ---- accesses and operators

pub accesses_call : (x : Expr) (xs : List Expr) → accesses (expr.Call x xs) ≡ accesses x + 1
unfolding accesses
accesses_call x xs = ap (λ (w : Written). w.accesses) (written_call x xs)

pub accesses_member : (x : Expr) (m : Name) → accesses (expr.Member x m) ≡ accesses x + 1
unfolding accesses
accesses_member x m = ap (λ (w : Written). w.accesses) (written_member x m)

pub accesses_index : (x k : Expr) → accesses (expr.Index x k) ≡ accesses x + 1
unfolding accesses
accesses_index x k = ap (λ (w : Written). w.accesses) (written_index x k)

pub operators_binary : (o : BinaryOp) (x y : Expr) → operators (expr.Binary o x y) ≡ operators x + 1 + operators y
unfolding operators
operators_binary o x y = ap (λ (w : Written). w.operators) (written_binary o x y)
