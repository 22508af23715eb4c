-- A token behind a value.
use Rattle.std.proofs.Common.{◌≡◌, ℕ, Bool, true, false, cond, List, [], ◌∷◌, ◌++◌, map, Some, refl, sym, ◌∙◌, ap, append_assoc}
use Rattle.std.specs.Prelude.{drop}
use Rattle.std.proofs.lemmas.List.{append-nil, map-append}
use Rattle.js_lex.specs.declared.token.Punctuator.TheVariants as p
use Rattle.js_lex.specs.declared.token.Reserved.TheVariants as r
use Rattle.js_lex.specs.declared.token.TemplatePart.TheVariants as part
use Rattle.js_lex.specs.declared.token.TokenKind.{TokenKind}
use Rattle.js_lex.specs.declared.token.TokenKind.TheVariants as tok
use Rattle.js_lex.specs.declared.token.Token.{Token}
use Rattle.js_tree.specs.declared.tree.Declaration.{Declaration, roll-Declaration}
use Rattle.js_tree.specs.declared.tree.Expr.{Expr}
use Rattle.js_tree.specs.declared.tree.Expr.TheVariants as expr
use Rattle.js_tree.specs.declared.tree.ForBegin.TheVariants as for_begin
use Rattle.js_tree.specs.declared.tree.Item.{Item}
use Rattle.js_tree.specs.declared.tree.Item.TheVariants as item
use Rattle.js_tree.specs.declared.tree.Key.{Key}
use Rattle.js_tree.specs.declared.tree.Name.{Name}
use Rattle.js_tree.specs.declared.tree.Property.{Property}
use Rattle.js_tree.specs.declared.tree.Property.TheVariants as property
use Rattle.js_tree.specs.declared.tree.Stmt.TheVariants as stmt
use Rattle.js_tree.specs.declared.tree.TemplateItem.{TemplateItem}
use Rattle.js_grammar.specs.Marks.{Form, just, on_one_line, separated, listed}
use Rattle.js_grammar.specs.Grammar.{name, key, reserved, reserved_at, template_mark}
use Rattle.js_parse_core.specs.declared.machine.At.{At}
use Rattle.js_parse_core.specs.declared.machine.At.TheVariants as at
use Rattle.js_parse_core.specs.declared.machine.Body.{Body}
use Rattle.js_parse_core.specs.declared.machine.Body.TheVariants as body
use Rattle.js_parse_core.specs.declared.machine.Callee.{Callee}
use Rattle.js_parse_core.specs.declared.machine.Callee.TheVariants as callee
use Rattle.js_parse_core.specs.declared.machine.Declared.{Declared}
use Rattle.js_parse_core.specs.declared.machine.Frame.{Frame}
use Rattle.js_parse_core.specs.declared.machine.Frame.TheVariants as frame
use Rattle.js_parse_core.specs.declared.machine.Open.{Open}
use Rattle.js_parse_core.specs.declared.machine.Outer.{Outer}
use Rattle.js_parse_core.specs.declared.machine.Purpose.{Purpose}
use Rattle.js_parse_core.specs.declared.machine.Purpose.TheVariants as purpose
use Rattle.js_parse_core.specs.declared.machine.Refusal.{Refusal}
use Rattle.js_parse_core.specs.declared.machine.Tail.TheVariants as tail
use Rattle.js_parse_core.specs.Outer.{Step, to, framed, opened, wait_body, wait_tail, refuse_at}
use Rattle.js_parse_core.specs.Objects.{is_export, export, close_object}
use Rattle.js_parse_core.specs.Statements.{with_declaration}
use Rattle.js_parse_core.specs.Statements.{end as end_of}
use Rattle.js_words.specs.declared.word.Spot.TheVariants as spot
use Rattle.js_parse_core.specs.Tokens.{is_close_paren, is_close_bracket, is_semicolon, is_comma, is_colon}
use Rattle.js_parse_core.specs.Values.{call, on_argument_end, on_element_end, on_pair_end, on_hole_end, on_initial_done, on_initial_end, on_head_end, on_part_end, on_then_end, on_value}
use Rattle.js_parse_core.proofs.Covers.{covers_same, Within, within_same, within_trans}
use Rattle.js_parse_core.proofs.Bare.{expr_forms, property_forms, braced, bracketed, expr_array, expr_object, expr_group, expr_call, expr_new, expr_index, property_pair}
use Rattle.js_parse_core.proofs.BareStatements.{declaration_forms, declaration_value, for_declarations, for_start, stmt_declare, stmt_return_value, stmt_throw, stmt_expr, full_declare, full_return, full_throw, full_expr}
use Rattle.js_parse_core.proofs.Spelled.{unread, commaed, callee_forms, argument_front, object_front, hole_front, declared_head, declared_front, purpose_front, body_front, tail_front, front, is_line, lined, spell, export_forms, items_with, whole_items, ends_with_export}
use Rattle.js_parse_core.proofs.SpelledLemmas.{Filled, filled_cons, filled_behind, filled_before, filled_expr, filled_declared, within_front, spell_none, push_export, last_export, separated_push, commaed_push, close_item, comma_item, part_of, hole_middle, template_end}
use Rattle.js_parse_core.proofs.Grows.{Shows, shows_just, shows_sign, close_paren_is, close_bracket_is, semicolon_is, comma_is, colon_is, Grows, adds_to, adds_none, adds_in, adds_same, grows_cond, grows_same}
use Rattle.js_parse_core.proofs.SoundEnds.{end_grows}

-- what was read, with these forms innermost
abbrev pub inside : Outer → List Form → List Form
inside o fs = whole_items o.items ++ spell o.frames fs

-- ---- objects

export_read : (is : List Item) (xs : List Property) → whole_items is ++ export_forms xs ≡ cond (ends_with_export (is ++ item.Export xs ∷ [])) (items_with [] (is ++ item.Export xs ∷ [])) unread
export_read is xs =
    ap (λ (z : List Form). whole_items is ++ z) (sym (append-nil (export_forms xs))) ∙ sym (push_export [] is xs)
    ∙ ap (λ (b : Bool). cond b (items_with [] (is ++ item.Export xs ∷ [])) unread) (sym (last_export is xs))

close_frame_grows : (o : Outer) (n : ℕ) (g : Frame) (fs : List Open) (xs : List Property) (c : List Form) (t : Token) → Filled c → Within (c ++ just p.CloseBrace ∷ []) (braced (listed (map property_forms xs))) → Shows (just p.CloseBrace) t
    → Grows (whole_items o.items ++ spell fs (lined (is_line g) (front fs g) c)) t (cond (is_export (Some g)) (export (framed o (drop 1 (opened n g ∷ fs))) xs) (to (framed o (opened n g ∷ fs)) (at.Operand (expr.Object xs) 0)))
close_frame_grows o n frame.Export [] xs c t s w h =
    adds_to _ t (whole_items o.items ++ export_forms xs) _
    (adds_in o.items [] (reserved r.Export ∷ reserved r.Default ∷ c) (export_forms xs) (just p.CloseBrace) t (filled_cons _ _) (within_front (reserved r.Export ∷ reserved r.Default ∷ []) _ _ (filled_cons _ _) w.all) h)
    (covers_same _ _ (export_read o.items xs))
close_frame_grows o n frame.Export (f ∷ fs) xs c t s w h = adds_none _ t _ (spell_none (whole_items o.items) (f ∷ fs) c unread)
close_frame_grows o n g fs xs c t s w h = adds_in o.items (opened n g ∷ fs) c _ (just p.CloseBrace) t s (within_trans _ _ _ w (within_same _ _ (sym (expr_object xs)))) h

close_in_grows : (o : Outer) (fs : List Open) (xs : List Property) (c : List Form) (t : Token) → Filled c → Within (c ++ just p.CloseBrace ∷ []) (braced (listed (map property_forms xs))) → Shows (just p.CloseBrace) t
    → Grows (whole_items o.items ++ spell fs c) t (close_object (framed o fs) xs)
close_in_grows o [] xs c t s w h = adds_in o.items [] c _ (just p.CloseBrace) t s (within_trans _ _ _ w (within_same _ _ (sym (expr_object xs)))) h
close_in_grows o (f ∷ fs) xs c t s w h = close_frame_grows o f.constructs f.frame fs xs c t s w h

pub close_object_grows : (o : Outer) (xs : List Property) (c : List Form) (t : Token) → Filled c → Within (c ++ just p.CloseBrace ∷ []) (braced (listed (map property_forms xs))) → Shows (just p.CloseBrace) t
    → Grows (inside o c) t (close_object o xs)
close_object_grows o xs c t s w h = close_in_grows o o.frames xs c t s w h

-- ---- lists

abbrev pub arguments_forms : Callee → List Expr → List Form
arguments_forms c xs = callee_forms c ++ bracketed (listed (map expr_forms xs))

pub call_grows : (o : Outer) (c : Callee) (xs : List Expr) (fs : List Form) (t : Token) → Filled fs → Within (fs ++ just p.CloseParen ∷ []) (arguments_forms c xs) → Shows (just p.CloseParen) t → Grows (inside o fs) t (call o c xs)
call_grows o (callee.Value x n) xs fs t s w h = adds_in o.items o.frames fs _ (just p.CloseParen) t s (within_trans _ _ _ w (within_same _ _ (sym (expr_call x xs)))) h
call_grows o (callee.New n) xs fs t s w h = adds_in o.items o.frames fs _ (just p.CloseParen) t s (within_trans _ _ _ w (within_same _ _ (sym (expr_new n xs)))) h

values_push : (xs : List Expr) (x : Expr) → map expr_forms xs ++ expr_forms x ∷ [] ≡ map expr_forms (xs ++ x ∷ [])
values_push xs x = sym (map-append expr_forms xs (x ∷ []))

properties_push : (xs : List Property) (x : Property) → map property_forms xs ++ property_forms x ∷ [] ≡ map property_forms (xs ++ x ∷ [])
properties_push xs x = sym (map-append property_forms xs (x ∷ []))

argument_end_grows : (o : Outer) (c : Callee) (xs : List Expr) (x : Expr) (t : Token) (k : TokenKind) → t.kind ≡ k → Grows (inside o (argument_front c (map expr_forms xs) ++ expr_forms x)) t (on_argument_end o c (xs ++ x ∷ []) k)
argument_end_grows o c xs x t (tok.Punctuator p.Comma) e =
    adds_same o.items o.frames (argument_front c (map expr_forms xs) ++ expr_forms x) (argument_front c (map expr_forms (xs ++ x ∷ []))) (just p.Comma) t (filled_behind _ (expr_forms x) (filled_expr x))
    (comma_item (callee_forms c) p.OpenParen (map expr_forms xs) (expr_forms x) ∙ ap (argument_front c) (values_push xs x)) (shows_sign p.Comma t e)
argument_end_grows o c xs x t (tok.Punctuator p.CloseParen) e =
    call_grows o c (xs ++ x ∷ []) (argument_front c (map expr_forms xs) ++ expr_forms x) t (filled_behind _ (expr_forms x) (filled_expr x))
    (within_trans _ _ _ (close_item (callee_forms c) p.OpenParen p.CloseParen (map expr_forms xs) (expr_forms x)) (within_same _ _ (ap (λ (z : List (List Form)). callee_forms c ++ bracketed (listed z)) (values_push xs x)))) (shows_sign p.CloseParen t e)
argument_end_grows o c xs x t _ e = tt

element_end_grows : (o : Outer) (xs : List Expr) (x : Expr) (t : Token) (k : TokenKind) → t.kind ≡ k → Grows (inside o ((just p.OpenBracket ∷ commaed (map expr_forms xs)) ++ expr_forms x)) t (on_element_end o (xs ++ x ∷ []) k)
element_end_grows o xs x t (tok.Punctuator p.Comma) e =
    adds_same o.items o.frames ((just p.OpenBracket ∷ commaed (map expr_forms xs)) ++ expr_forms x) (just p.OpenBracket ∷ commaed (map expr_forms (xs ++ x ∷ []))) (just p.Comma) t (filled_cons _ _)
    (comma_item [] p.OpenBracket (map expr_forms xs) (expr_forms x) ∙ ap (λ (z : List (List Form)). just p.OpenBracket ∷ commaed z) (values_push xs x)) (shows_sign p.Comma t e)
element_end_grows o xs x t (tok.Punctuator p.CloseBracket) e =
    adds_in o.items o.frames ((just p.OpenBracket ∷ commaed (map expr_forms xs)) ++ expr_forms x) (expr_forms (expr.Array (xs ++ x ∷ []))) (just p.CloseBracket) t (filled_cons _ _)
    (within_trans _ _ _ (close_item [] p.OpenBracket p.CloseBracket (map expr_forms xs) (expr_forms x))
    (within_same _ _ (ap (λ (z : List (List Form)). just p.OpenBracket ∷ (listed z ++ just p.CloseBracket ∷ [])) (values_push xs x) ∙ sym (expr_array (xs ++ x ∷ []))))) (shows_sign p.CloseBracket t e)
element_end_grows o xs x t _ e = tt

-- a member of an object is whole
pub property_comma : (o : Outer) (xs : List Property) (x : Property) (c : List Form) (t : Token) → c ≡ object_front xs ++ property_forms x → t.kind ≡ tok.Punctuator p.Comma → Grows (inside o c) t (to o (at.Key (xs ++ x ∷ [])))
property_comma o xs x c t h e =
    grows_same _ _ t (to o (at.Key (xs ++ x ∷ []))) (ap (inside o) h)
    (adds_same o.items o.frames (object_front xs ++ property_forms x) (object_front (xs ++ x ∷ [])) (just p.Comma) t (filled_cons _ _)
    (comma_item [] p.OpenBrace (map property_forms xs) (property_forms x) ∙ ap (λ (z : List (List Form)). just p.OpenBrace ∷ commaed z) (properties_push xs x)) (shows_sign p.Comma t e))

pub property_close : (o : Outer) (xs : List Property) (x : Property) (c : List Form) (t : Token) → c ≡ object_front xs ++ property_forms x → t.kind ≡ tok.Punctuator p.CloseBrace → Grows (inside o c) t (close_object o (xs ++ x ∷ []))
property_close o xs x c t h e =
    grows_same _ _ t (close_object o (xs ++ x ∷ [])) (ap (inside o) h)
    (close_object_grows o (xs ++ x ∷ []) (object_front xs ++ property_forms x) t (filled_cons _ _)
    (within_trans _ _ _ (close_item [] p.OpenBrace p.CloseBrace (map property_forms xs) (property_forms x)) (within_same _ _ (ap (λ (z : List (List Form)). braced (listed z)) (properties_push xs x)))) (shows_sign p.CloseBrace t e))

pair_forms : (xs : List Property) (k : Key) (x : Expr) → (object_front xs ++ key k ∷ just p.Colon ∷ []) ++ expr_forms x ≡ object_front xs ++ property_forms (property.Pair k x)
pair_forms xs k x = append_assoc (object_front xs) (key k ∷ just p.Colon ∷ []) (expr_forms x) ∙ ap (λ (z : List Form). object_front xs ++ z) (sym (property_pair k x))

pair_end_grows : (o : Outer) (xs : List Property) (k : Key) (x : Expr) (t : Token) (s : TokenKind) → t.kind ≡ s → Grows (inside o ((object_front xs ++ key k ∷ just p.Colon ∷ []) ++ expr_forms x)) t (on_pair_end o (xs ++ property.Pair k x ∷ []) s)
pair_end_grows o xs k x t (tok.Punctuator p.Comma) e = property_comma o xs (property.Pair k x) _ t (pair_forms xs k x) e
pair_end_grows o xs k x t (tok.Punctuator p.CloseBrace) e = property_close o xs (property.Pair k x) _ t (pair_forms xs k x) e
pair_end_grows o xs k x t _ e = tt

hole_end_grows : (o : Outer) (is : List TemplateItem) (u : List ℕ) (x : Expr) (t : Token) (k : TokenKind) → t.kind ≡ k → Grows (inside o (hole_front part.Head is u ++ expr_forms x)) t (on_hole_end o (is ++ part_of u x ∷ []) k)
hole_end_grows o is u x t (tok.Template part.Middle v) e =
    adds_same o.items o.frames (hole_front part.Head is u ++ expr_forms x) (hole_front part.Head (is ++ part_of u x ∷ []) v) (template_mark part.Middle v) t (filled_behind _ (expr_forms x) (filled_expr x))
    (append_assoc (hole_front part.Head is u) (expr_forms x) (template_mark part.Middle v ∷ []) ∙ sym (hole_middle part.Head is u v x)) (shows_just t _ e refl)
hole_end_grows o is u x t (tok.Template part.Tail v) e =
    adds_same o.items o.frames (hole_front part.Head is u ++ expr_forms x) (expr_forms (expr.Template (is ++ part_of u x ∷ []) v)) (template_mark part.Tail v) t (filled_behind _ (expr_forms x) (filled_expr x))
    (append_assoc (hole_front part.Head is u) (expr_forms x) (template_mark part.Tail v ∷ []) ∙ sym (template_end is u v x)) (shows_just t _ e refl)
hole_end_grows o is u x t _ e = tt

-- ---- heads of statements

pub part_end_grows : (o : Outer) (a : At) (b : Bool) (c : List Form) (t : Token) → (b ≡ true → Grows (inside o c) t (to o a)) → Grows (inside o c) t (on_part_end o a b)
part_end_grows o a true c t h = h refl
part_end_grows o a false c t h = tt

pub head_end_grows : (o : Outer) (b : Body) (c : List Form) (t : Token) → Filled c → c ++ just p.CloseParen ∷ [] ≡ body_front b → Grows (inside o c) t (on_head_end o b t)
head_end_grows o b c t s h =
    grows_cond _ t (is_close_paren t.kind) (wait_body o b) (refuse_at spot.OperandEnd)
    (λ e. adds_same o.items o.frames c (body_front b) (just p.CloseParen) t s h (shows_sign p.CloseParen t (close_paren_is t.kind e))) (λ e. tt)

then_end_grows : (o : Outer) (test x : Expr) (t : Token) → Grows (inside o ((expr_forms test ++ just p.Question ∷ []) ++ expr_forms x)) t (on_then_end o test x t)
then_end_grows o test x t =
    grows_cond _ t (is_colon t.kind) (wait_tail o (tail.Else test x)) (refuse_at spot.OperandEnd)
    (λ e. adds_same o.items o.frames _ (tail_front (tail.Else test x)) (just p.Colon) t (filled_behind _ (expr_forms x) (filled_expr x)) (simp append_assoc) (shows_sign p.Colon t (colon_is t.kind e))) (λ e. tt)

-- ---- declarations

declarations_push : (ds : List Declaration) (d : Declaration) → map declaration_forms ds ++ declaration_forms d ∷ [] ≡ map declaration_forms (ds ++ d ∷ [])
declarations_push ds d = sym (map-append declaration_forms ds (d ∷ []))

abbrev pub with_last : Declared → Declaration → Declared
with_last d x = record { kind = d.kind; in_for = d.in_for; declarations = d.declarations ++ x ∷ [] }

-- `let` or `const`, and declarations, the last one whole
abbrev pub declared_forms : Bool → Declared → List Form
declared_forms b d = declared_head b d.kind ++ separated (map declaration_forms d.declarations)

pub last_declared : (d : Declared) (x : Declaration) → declared_front d ++ declaration_forms x ≡ declared_forms d.in_for (with_last d x)
last_declared d x =
    append_assoc (declared_head d.in_for d.kind) (commaed (map declaration_forms d.declarations)) (declaration_forms x)
    ∙ ap (λ (z : List Form). declared_head d.in_for d.kind ++ z) (sym (separated_push (map declaration_forms d.declarations) (declaration_forms x)) ∙ ap separated (declarations_push d.declarations x))

pub declared_comma : (o : Outer) (d : Declared) (x : Declaration) (t : Token) → t.kind ≡ tok.Punctuator p.Comma → Grows (inside o (declared_front d ++ declaration_forms x)) t (to o (at.DeclaredName (with_last d x)))
declared_comma o d x t e =
    adds_same o.items o.frames (declared_front d ++ declaration_forms x) (declared_front (with_last d x)) (just p.Comma) t (filled_before _ _ (filled_declared d))
    (simp append_assoc (ap (λ (z : List Form). declared_head d.in_for d.kind ++ z) (sym (commaed_push (map declaration_forms d.declarations) (declaration_forms x)) ∙ ap commaed (declarations_push d.declarations x)))) (shows_sign p.Comma t e)

filled_declared_forms : (b : Bool) (d : Declared) → Filled (declared_forms b d)
filled_declared_forms true d = filled_cons _ _
filled_declared_forms false d = filled_cons _ _

pub declare_end_grows : (o : Outer) (d : Declared) (t : Token) (k : Refusal) → Grows (inside o (declared_forms false d)) t (end_of false o (stmt.Declare d.kind d.declarations) t k)
declare_end_grows o d t k = end_grows o (stmt.Declare d.kind d.declarations) (declared_forms false d) t k (full_declare d.kind d.declarations) (filled_declared_forms false d) (sym (stmt_declare d.kind d.declarations))

pub declare_for_grows : (o : Outer) (d : Declared) (t : Token) (k : Step) → Grows (inside o (declared_forms true d)) t k → Grows (inside o (declared_forms true d)) t (cond (is_semicolon t.kind) (to o (at.ForTest (for_begin.Declarations d.kind d.declarations))) k)
declare_for_grows o d t k h =
    grows_cond _ t (is_semicolon t.kind) (to o (at.ForTest (for_begin.Declarations d.kind d.declarations))) k
    (λ e. adds_same o.items o.frames (declared_forms true d) _ (just p.Semicolon) t (filled_declared_forms true d)
    (ap (λ (z : List Form). reserved r.For ∷ just p.OpenParen ∷ (z ++ just p.Semicolon ∷ [])) (sym (for_declarations d.kind d.declarations))) (shows_sign p.Semicolon t (semicolon_is t.kind e)))
    (λ e. h)

initial_done_grows : (o : Outer) (d : Declared) (t : Token) (b : Bool) → Grows (inside o (declared_forms b d)) t (on_initial_done false o d t b)
initial_done_grows o d t true = declare_for_grows o d t (refuse_at spot.OperandEnd) tt
initial_done_grows o d t false = declare_end_grows o d t _

initial_forms : (d : Declared) (n : Name) (x : Expr) → (declared_front d ++ name n ∷ just p.Equal ∷ []) ++ expr_forms x ≡ declared_front d ++ declaration_forms (roll-Declaration (record { name = n; value = Some x }))
initial_forms d n x = append_assoc (declared_front d) (name n ∷ just p.Equal ∷ []) (expr_forms x) ∙ ap (λ (z : List Form). declared_front d ++ z) (sym (declaration_value n x))

initial_end_grows : (o : Outer) (d : Declared) (n : Name) (x : Expr) (t : Token) → Grows (inside o ((declared_front d ++ name n ∷ just p.Equal ∷ []) ++ expr_forms x)) t (on_initial_end false o (with_declaration d n (Some x)) t)
initial_end_grows o d n x t =
    let last : Declaration = roll-Declaration (record { name = n; value = Some x }) in
    grows_same _ _ t (on_initial_end false o (with_last d last) t) (ap (inside o) (initial_forms d n x))
    (grows_cond _ t (is_comma t.kind) (to o (at.DeclaredName (with_last d last))) (on_initial_done false o (with_last d last) t d.in_for)
    (λ e. declared_comma o d last t (comma_is t.kind e))
    (λ e. grows_same _ _ t (on_initial_done false o (with_last d last) t d.in_for) (ap (inside o) (last_declared d last)) (initial_done_grows o (with_last d last) t d.in_for)))

-- ---- a whole value, in what waits for it

pub value_grows : (o : Outer) (w : Purpose) (x : Expr) (t : Token) → Grows (inside o (lined (is_line (frame.Purpose w)) (purpose_front w) (expr_forms x))) t (on_value false o w x t)
value_grows o (purpose.Then test) x t = then_end_grows o test x t
value_grows o purpose.Group x t = part_end_grows o _ (is_close_paren t.kind) _ t (λ e. adds_same o.items o.frames _ _ (just p.CloseParen) t (filled_cons _ _) (sym (expr_group x)) (shows_sign p.CloseParen t (close_paren_is t.kind e)))
value_grows o (purpose.Argument c xs) x t = argument_end_grows o c xs x t t.kind refl
value_grows o (purpose.Index y n) x t =
    part_end_grows o _ (is_close_bracket t.kind) _ t
    (λ e. adds_same o.items o.frames ((expr_forms y ++ just p.OpenBracket ∷ []) ++ expr_forms x) (expr_forms (expr.Index y x)) (just p.CloseBracket) t (filled_behind _ (expr_forms x) (filled_expr x)) (simp append_assoc (sym (expr_index y x))) (shows_sign p.CloseBracket t (close_bracket_is t.kind e)))
value_grows o (purpose.Element xs) x t = element_end_grows o xs x t t.kind refl
value_grows o (purpose.Pair xs k) x t = pair_end_grows o xs k x t t.kind refl
value_grows o (purpose.Hole is u) x t = hole_end_grows o is u x t t.kind refl
value_grows o purpose.If x t = head_end_grows o (body.Then x) _ t (filled_cons _ _) refl
value_grows o purpose.While x t = head_end_grows o (body.While x) _ t (filled_cons _ _) refl
value_grows o (purpose.ForOf k n) x t = head_end_grows o (body.ForOf k n x) _ t (filled_cons _ _) refl
value_grows o (purpose.ForUpdate b test) x t = head_end_grows o (body.For b test (Some x)) _ t (filled_cons _ _) (simp append_assoc)
value_grows o purpose.ForStart x t =
    part_end_grows o _ (is_semicolon t.kind) _ t
    (λ e. adds_same o.items o.frames (reserved r.For ∷ just p.OpenParen ∷ expr_forms x) _ (just p.Semicolon) t (filled_cons _ _)
    (ap (λ (z : List Form). reserved r.For ∷ just p.OpenParen ∷ (z ++ just p.Semicolon ∷ [])) (sym (for_start x))) (shows_sign p.Semicolon t (semicolon_is t.kind e)))
value_grows o (purpose.ForTest b) x t =
    part_end_grows o _ (is_semicolon t.kind) _ t
    (λ e. adds_same o.items o.frames (purpose_front (purpose.ForTest b) ++ expr_forms x) (purpose_front (purpose.ForUpdate b (Some x))) (just p.Semicolon) t (filled_cons _ _) (simp append_assoc) (shows_sign p.Semicolon t (semicolon_is t.kind e)))
value_grows o purpose.Statement x t = end_grows o (stmt.Expr x) (expr_forms x) t _ (full_expr x) (filled_expr x) (sym (stmt_expr x))
value_grows o (purpose.Initial d n) x t = initial_end_grows o d n x t
value_grows o (purpose.Return q) x t = end_grows o (stmt.Return q (Some x)) (reserved_at q r.Return ∷ on_one_line (expr_forms x)) t _ (full_return q (Some x)) (filled_cons _ _) (sym (stmt_return_value q x))
value_grows o purpose.Throw x t = end_grows o (stmt.Throw x) (reserved r.Throw ∷ on_one_line (expr_forms x)) t _ (full_throw x) (filled_cons _ _) (sym (stmt_throw x))
