-- A token behind a value, with how many constructs are open.
use Rattle.std.proofs.Common.{◌≡◌, ℕ, ◌+◌, ◌≤◌, Bool, true, false, cond, List, [], ◌∷◌, ◌++◌, map, Some, refl, sym, ◌∙◌, ap, subst, append_assoc, le_trans, arith}
use Rattle.std.specs.Prelude.{drop}
use Rattle.std.proofs.lemmas.List.{append-nil, map-append}
use Rattle.js_lex.specs.declared.token.Punctuator.TheVariants as p
use Rattle.js_lex.specs.declared.token.Reserved.TheVariants as r
use Rattle.js_lex.specs.declared.token.TemplatePart.TheVariants as part
use Rattle.js_lex.specs.declared.token.TokenKind.{TokenKind}
use Rattle.js_lex.specs.declared.token.TokenKind.TheVariants as tok
use Rattle.js_lex.specs.declared.token.Token.{Token}
use Rattle.js_tree.specs.declared.tree.Declaration.{Declaration, roll-Declaration}
use Rattle.js_tree.specs.declared.tree.Expr.{Expr}
use Rattle.js_tree.specs.declared.tree.Expr.TheVariants as expr
use Rattle.js_tree.specs.declared.tree.ForBegin.TheVariants as for_begin
use Rattle.js_tree.specs.declared.tree.Item.{Item}
use Rattle.js_tree.specs.declared.tree.Item.TheVariants as item
use Rattle.js_tree.specs.declared.tree.Key.{Key}
use Rattle.js_tree.specs.declared.tree.Name.{Name}
use Rattle.js_tree.specs.declared.tree.Property.{Property}
use Rattle.js_tree.specs.declared.tree.Property.TheVariants as property
use Rattle.js_tree.specs.declared.tree.Stmt.TheVariants as stmt
use Rattle.js_tree.specs.declared.tree.TemplateItem.{TemplateItem, roll-TemplateItem}
use Rattle.js_grammar.specs.Marks.{Form, just, on_one_line}
use Rattle.js_grammar.specs.Grammar.{name, key, reserved, reserved_at, template_mark}
use Rattle.js_parse_core.specs.declared.machine.At.{At}
use Rattle.js_parse_core.specs.declared.machine.At.TheVariants as at
use Rattle.js_parse_core.specs.declared.machine.Body.{Body}
use Rattle.js_parse_core.specs.declared.machine.Body.TheVariants as body
use Rattle.js_parse_core.specs.declared.machine.Callee.{Callee}
use Rattle.js_parse_core.specs.declared.machine.Callee.TheVariants as callee
use Rattle.js_parse_core.specs.declared.machine.Declared.{Declared}
use Rattle.js_parse_core.specs.declared.machine.Frame.{Frame}
use Rattle.js_parse_core.specs.declared.machine.Frame.TheVariants as frame
use Rattle.js_parse_core.specs.declared.machine.Open.{Open}
use Rattle.js_parse_core.specs.declared.machine.Outer.{Outer}
use Rattle.js_parse_core.specs.declared.machine.Purpose.{Purpose}
use Rattle.js_parse_core.specs.declared.machine.Purpose.TheVariants as purpose
use Rattle.js_parse_core.specs.declared.machine.Refusal.{Refusal}
use Rattle.js_parse_core.specs.declared.machine.Tail.TheVariants as tail
use Rattle.js_parse_core.specs.Outer.{Step, to, framed, opened, wait_body, wait_tail, refuse_at}
use Rattle.js_parse_core.specs.Objects.{is_export, export, close_object}
use Rattle.js_parse_core.specs.Statements.{with_declaration}
use Rattle.js_parse_core.specs.Statements.{end as end_of}
use Rattle.js_words.specs.declared.word.Spot.TheVariants as spot
use Rattle.js_parse_core.specs.Tokens.{is_close_paren, is_close_bracket, is_semicolon, is_comma, is_colon}
use Rattle.js_parse_core.specs.Values.{call, on_argument_end, on_element_end, on_pair_end, on_hole_end, on_initial_done, on_initial_end, on_head_end, on_part_end, on_then_end, on_value}
use Rattle.js_parse_core.proofs.BareStatements.{full_declare, full_return, full_throw, full_expr}
use Rattle.js_parse_core.proofs.Spelled.{unread, is_line, lined, ends_with_export}
use Rattle.js_parse_core.proofs.SpelledLemmas.{Filled, filled_cons, filled_behind, filled_before, last_export}
use Rattle.js_parse_core.proofs.Grows.{close_paren_is, close_bracket_is, semicolon_is, comma_is, colon_is}
use Rattle.js_parse_core.proofs.CountedCovers.{covers_same, Within, within_same, within_trans}
use Rattle.js_parse_core.proofs.CountedForms.{up, expr_at, property_at, accesses, access_at, separated_at, listed_at, braced_at, bracketed_at, expr_array, expr_object, expr_group, expr_call, expr_new, expr_index, property_pair, accesses_call, accesses_index}
use Rattle.js_parse_core.proofs.CountedStatements.{declaration_at, declaration_value, for_declarations, for_start, stmt_declare, stmt_return_value, stmt_throw, stmt_expr, other_declare, other_return, other_throw, other_expr}
use Rattle.js_parse_core.proofs.CountedSpelled.{commaed_at, callee_level, declared_level, purpose_level, levels, callee_at, arguments_front, object_front, hole_front, for_open, declared_head, declared_front, purpose_front, body_front, tail_front, front, spell, export_forms, items_with, whole_items}
use Rattle.js_parse_core.proofs.CountedLemmas.{filled_expr, filled_declared, within_front, spell_none, push_export, separated_push, commaed_push, close_item, comma_item, hole_middle, template_end}
use Rattle.js_parse_core.proofs.CountedGrows.{Known, adds_known_in, Shows, shows_just, shows_sign, Between, at_open, at_close, Grows, adds_to, adds_none, adds_in, adds_same, grows_cond, grows_same}
use Rattle.js_parse_core.proofs.CountedChains.{plain_array, plain_object, plain_template, plain_group, plain_new}
use Rattle.js_parse_core.proofs.CountedFolds.{declared_rises}
use Rattle.js_parse_core.proofs.CountedEnds.{end_grows}

-- what was read, with these forms innermost
abbrev pub inside : Outer → List Form → List Form
inside o fs = whole_items o.items ++ spell o.frames fs

-- how many constructs are open round them
abbrev pub here : Outer → ℕ
here o = levels o.frames

-- the last token of an operand that is no chain
pub at_leave : (l m n : ℕ) (x : Expr) → accesses x ≡ 0 → n ≤ m → m ≤ l → Between l m (n + accesses x)
at_leave l m n x e h k = subst (λ (z : ℕ). Between l m (n + z)) (sym e) (at_close l m (n + 0) (omega arith) k)

-- .. and of one access more
pub at_chain : (l n : ℕ) (x y : Expr) → accesses y ≡ accesses x + 1 → Between l (access_at n x) (n + accesses y)
at_chain l n x y e = either (accesses x) (accesses y) e
  where
    either : (k j : ℕ) → j ≡ k + 1 → Between l ((n + k) + 1) (n + j)
    either k j h = record { above = omega arith; below = λ most a b. omega arith }

-- ---- objects

export_read : (is : List Item) (xs : List Property) → whole_items is ++ export_forms xs ≡ cond (ends_with_export (is ++ item.Export xs ∷ [])) (items_with [] (is ++ item.Export xs ∷ [])) unread
export_read is xs =
    ap (λ (z : List Form). whole_items is ++ z) (sym (append-nil (export_forms xs))) ∙ sym (push_export [] is xs)
    ∙ ap (λ (b : Bool). cond b (items_with [] (is ++ item.Export xs ∷ [])) unread) (sym (last_export is xs))

abbrev pub members_at : ℕ → List Property → List Form
members_at m xs = braced_at m (listed_at m (map (property_at m) xs))

close_frame_grows : (l : ℕ) (o : Outer) (n : ℕ) (g : Frame) (fs : List Open) (xs : List Property) (c : List Form) (t : Token) → levels (opened n g ∷ fs) + 1 ≤ l → Filled c
    → Within (c ++ up (levels (opened n g ∷ fs) + 1) (just p.CloseBrace) ∷ []) (members_at (levels (opened n g ∷ fs) + 1) xs) → Shows (levels (opened n g ∷ fs) + 1) (just p.CloseBrace) t
    → Grows l (whole_items o.items ++ spell fs (lined (is_line g) (front fs g) c)) t (cond (is_export (Some g)) (export (framed o (drop 1 (opened n g ∷ fs))) xs) (to (framed o (opened n g ∷ fs)) (at.Operand (expr.Object xs) 0)))
close_frame_grows l o n frame.Export [] xs c t v s w h =
    adds_to l _ _ t (whole_items o.items ++ export_forms xs) _
    (adds_in l _ o.items [] (up 0 (reserved r.Export) ∷ up 0 (reserved r.Default) ∷ c) (export_forms xs) (0 + 1) (just p.CloseBrace) t (at_close l (0 + 1) 0 (omega arith) v) (filled_cons _ _)
    (within_front (up 0 (reserved r.Export) ∷ up 0 (reserved r.Default) ∷ []) _ _ (filled_cons _ _) w.all) h)
    (covers_same _ _ (export_read o.items xs))
close_frame_grows l o n frame.Export (f ∷ fs) xs c t v s w h = adds_none l _ _ t _ (spell_none (whole_items o.items) (f ∷ fs) c unread)
close_frame_grows l o n g fs xs c t v s w h =
    adds_in l _ o.items (opened n g ∷ fs) c _ (levels (opened n g ∷ fs) + 1) (just p.CloseBrace) t (at_leave l _ (levels (opened n g ∷ fs)) (expr.Object xs) (plain_object xs) (omega arith) v) s
    (within_trans _ _ _ w (within_same _ _ (sym (expr_object (levels (opened n g ∷ fs)) xs)))) h

close_in_grows : (l : ℕ) (o : Outer) (fs : List Open) (xs : List Property) (c : List Form) (t : Token) → levels fs + 1 ≤ l → Filled c → Within (c ++ up (levels fs + 1) (just p.CloseBrace) ∷ []) (members_at (levels fs + 1) xs) → Shows (levels fs + 1) (just p.CloseBrace) t
    → Grows l (whole_items o.items ++ spell fs c) t (close_object (framed o fs) xs)
close_in_grows l o [] xs c t v s w h = adds_in l _ o.items [] c _ (0 + 1) (just p.CloseBrace) t (at_leave l (0 + 1) 0 (expr.Object xs) (plain_object xs) (omega arith) v) s (within_trans _ _ _ w (within_same _ _ (sym (expr_object 0 xs)))) h
close_in_grows l o (f ∷ fs) xs c t v s w h = close_frame_grows l o f.constructs f.frame fs xs c t v s w h

pub close_object_grows : (l : ℕ) (o : Outer) (xs : List Property) (c : List Form) (t : Token) → here o + 1 ≤ l → Filled c → Within (c ++ up (here o + 1) (just p.CloseBrace) ∷ []) (members_at (here o + 1) xs) → Shows (here o + 1) (just p.CloseBrace) t
    → Grows l (inside o c) t (close_object o xs)
close_object_grows l o xs c t v s w h = close_in_grows l o o.frames xs c t v s w h

-- ---- lists

abbrev pub arguments_at : ℕ → Callee → List Expr → List Form
arguments_at n c xs = callee_at n c ++ bracketed_at (callee_level n c) (listed_at (callee_level n c) (map (expr_at (callee_level n c)) xs))

pub call_grows : (l : ℕ) (o : Outer) (c : Callee) (xs : List Expr) (fs : List Form) (t : Token) → callee_level (here o) c ≤ l → Filled fs → Within (fs ++ up (callee_level (here o) c) (just p.CloseParen) ∷ []) (arguments_at (here o) c xs)
    → Shows (callee_level (here o) c) (just p.CloseParen) t → Grows l (inside o fs) t (call o c xs)
call_grows l o (callee.Value x k) xs fs t v s w h =
    adds_in l _ o.items o.frames fs _ (access_at (here o) x) (just p.CloseParen) t (at_chain l (here o) x (expr.Call x xs) (accesses_call x xs)) s (within_trans _ _ _ w (within_same _ _ (sym (expr_call (here o) x xs)))) h
call_grows l o (callee.New m) xs fs t v s w h =
    adds_in l _ o.items o.frames fs _ (here o + 1) (just p.CloseParen) t (at_leave l (here o + 1) (here o) (expr.New m xs) (plain_new m xs) (omega arith) v) s (within_trans _ _ _ w (within_same _ _ (sym (expr_new (here o) m xs)))) h

values_push : (n : ℕ) (xs : List Expr) (x : Expr) → map (expr_at n) xs ++ expr_at n x ∷ [] ≡ map (expr_at n) (xs ++ x ∷ [])
values_push n xs x = sym (map-append (expr_at n) xs (x ∷ []))

properties_push : (n : ℕ) (xs : List Property) (x : Property) → map (property_at n) xs ++ property_at n x ∷ [] ≡ map (property_at n) (xs ++ x ∷ [])
properties_push n xs x = sym (map-append (property_at n) xs (x ∷ []))

argument_end_grows : (l : ℕ) (o : Outer) (c : Callee) (xs : List Expr) (x : Expr) (t : Token) (k : TokenKind) → callee_level (here o) c ≤ l → t.kind ≡ k
    → Grows l (inside o (arguments_front (here o) c xs ++ expr_at (callee_level (here o) c) x)) t (on_argument_end o c (xs ++ x ∷ []) k)
argument_end_grows l o c xs x t (tok.Punctuator p.Comma) v e =
    let m : ℕ = callee_level (here o) c in
    adds_same l _ o.items o.frames (arguments_front (here o) c xs ++ expr_at m x) (arguments_front (here o) c (xs ++ x ∷ [])) m (just p.Comma) t (at_open l m) (filled_behind _ (expr_at m x) (filled_expr m x))
    (comma_item m (callee_at (here o) c) p.OpenParen (map (expr_at m) xs) (expr_at m x) ∙ ap (λ (z : List (List Form)). callee_at (here o) c ++ up m (just p.OpenParen) ∷ commaed_at m z) (values_push m xs x)) (shows_sign m p.Comma t e)
argument_end_grows l o c xs x t (tok.Punctuator p.CloseParen) v e =
    let m : ℕ = callee_level (here o) c in
    call_grows l o c (xs ++ x ∷ []) (arguments_front (here o) c xs ++ expr_at m x) t v (filled_behind _ (expr_at m x) (filled_expr m x))
    (within_trans _ _ _ (close_item m (callee_at (here o) c) p.OpenParen p.CloseParen (map (expr_at m) xs) (expr_at m x)) (within_same _ _ (ap (λ (z : List (List Form)). callee_at (here o) c ++ bracketed_at m (listed_at m z)) (values_push m xs x)))) (shows_sign m p.CloseParen t e)
argument_end_grows l o c xs x t _ v e = tt

element_end_grows : (l : ℕ) (o : Outer) (xs : List Expr) (x : Expr) (t : Token) (k : TokenKind) → here o + 1 ≤ l → t.kind ≡ k
    → Grows l (inside o ((up (here o + 1) (just p.OpenBracket) ∷ commaed_at (here o + 1) (map (expr_at (here o + 1)) xs)) ++ expr_at (here o + 1) x)) t (on_element_end o (xs ++ x ∷ []) k)
element_end_grows l o xs x t (tok.Punctuator p.Comma) v e =
    let m : ℕ = here o + 1 in
    adds_same l _ o.items o.frames ((up m (just p.OpenBracket) ∷ commaed_at m (map (expr_at m) xs)) ++ expr_at m x) (up m (just p.OpenBracket) ∷ commaed_at m (map (expr_at m) (xs ++ x ∷ []))) m (just p.Comma) t (at_open l m) (filled_cons _ _)
    (comma_item m [] p.OpenBracket (map (expr_at m) xs) (expr_at m x) ∙ ap (λ (z : List (List Form)). up m (just p.OpenBracket) ∷ commaed_at m z) (values_push m xs x)) (shows_sign m p.Comma t e)
element_end_grows l o xs x t (tok.Punctuator p.CloseBracket) v e =
    let m : ℕ = here o + 1 in
    adds_in l _ o.items o.frames ((up m (just p.OpenBracket) ∷ commaed_at m (map (expr_at m) xs)) ++ expr_at m x) (expr_at (here o) (expr.Array (xs ++ x ∷ []))) m (just p.CloseBracket) t
    (at_leave l m (here o) (expr.Array (xs ++ x ∷ [])) (plain_array (xs ++ x ∷ [])) (omega arith) v) (filled_cons _ _)
    (within_trans _ _ _ (close_item m [] p.OpenBracket p.CloseBracket (map (expr_at m) xs) (expr_at m x))
    (within_same _ _ (ap (λ (z : List (List Form)). up m (just p.OpenBracket) ∷ (listed_at m z ++ up m (just p.CloseBracket) ∷ [])) (values_push m xs x) ∙ sym (expr_array (here o) (xs ++ x ∷ []))))) (shows_sign m p.CloseBracket t e)
element_end_grows l o xs x t _ v e = tt

-- a member of an object is whole
pub property_comma : (l : ℕ) (o : Outer) (xs : List Property) (x : Property) (c : List Form) (t : Token) → c ≡ object_front (here o + 1) xs ++ property_at (here o + 1) x → t.kind ≡ tok.Punctuator p.Comma → Grows l (inside o c) t (to o (at.Key (xs ++ x ∷ [])))
property_comma l o xs x c t h e =
    let m : ℕ = here o + 1 in
    grows_same l _ _ t (to o (at.Key (xs ++ x ∷ []))) (ap (inside o) h)
    (adds_same l _ o.items o.frames (object_front m xs ++ property_at m x) (object_front m (xs ++ x ∷ [])) m (just p.Comma) t (at_open l m) (filled_cons _ _)
    (comma_item m [] p.OpenBrace (map (property_at m) xs) (property_at m x) ∙ ap (λ (z : List (List Form)). up m (just p.OpenBrace) ∷ commaed_at m z) (properties_push m xs x)) (shows_sign m p.Comma t e))

pub property_close : (l : ℕ) (o : Outer) (xs : List Property) (x : Property) (c : List Form) (t : Token) → here o + 1 ≤ l → c ≡ object_front (here o + 1) xs ++ property_at (here o + 1) x → t.kind ≡ tok.Punctuator p.CloseBrace → Grows l (inside o c) t (close_object o (xs ++ x ∷ []))
property_close l o xs x c t v h e =
    let m : ℕ = here o + 1 in
    grows_same l _ _ t (close_object o (xs ++ x ∷ [])) (ap (inside o) h)
    (close_object_grows l o (xs ++ x ∷ []) (object_front m xs ++ property_at m x) t v (filled_cons _ _)
    (within_trans _ _ _ (close_item m [] p.OpenBrace p.CloseBrace (map (property_at m) xs) (property_at m x)) (within_same _ _ (ap (λ (z : List (List Form)). braced_at m (listed_at m z)) (properties_push m xs x)))) (shows_sign m p.CloseBrace t e))

pair_forms : (m : ℕ) (xs : List Property) (k : Key) (x : Expr) → (object_front m xs ++ up m (key k) ∷ up m (just p.Colon) ∷ []) ++ expr_at m x ≡ object_front m xs ++ property_at m (property.Pair k x)
pair_forms m xs k x = append_assoc (object_front m xs) (up m (key k) ∷ up m (just p.Colon) ∷ []) (expr_at m x) ∙ ap (λ (z : List Form). object_front m xs ++ z) (sym (property_pair m k x))

pair_end_grows : (l : ℕ) (o : Outer) (xs : List Property) (k : Key) (x : Expr) (t : Token) (s : TokenKind) → here o + 1 ≤ l → t.kind ≡ s
    → Grows l (inside o ((object_front (here o + 1) xs ++ up (here o + 1) (key k) ∷ up (here o + 1) (just p.Colon) ∷ []) ++ expr_at (here o + 1) x)) t (on_pair_end o (xs ++ property.Pair k x ∷ []) s)
pair_end_grows l o xs k x t (tok.Punctuator p.Comma) v e = property_comma l o xs (property.Pair k x) _ t (pair_forms (here o + 1) xs k x) e
pair_end_grows l o xs k x t (tok.Punctuator p.CloseBrace) v e = property_close l o xs (property.Pair k x) _ t v (pair_forms (here o + 1) xs k x) e
pair_end_grows l o xs k x t _ v e = tt

abbrev part_of : List ℕ → Expr → TemplateItem
part_of u x = roll-TemplateItem (record { units = u; value = x })

hole_end_grows : (l : ℕ) (o : Outer) (is : List TemplateItem) (u : List ℕ) (x : Expr) (t : Token) (k : TokenKind) → here o + 1 ≤ l → t.kind ≡ k → Grows l (inside o (hole_front (here o + 1) part.Head is u ++ expr_at (here o + 1) x)) t (on_hole_end o (is ++ part_of u x ∷ []) k)
hole_end_grows l o is u x t (tok.Template part.Middle v) w e =
    let m : ℕ = here o + 1 in
    adds_same l _ o.items o.frames (hole_front m part.Head is u ++ expr_at m x) (hole_front m part.Head (is ++ part_of u x ∷ []) v) m (template_mark part.Middle v) t (at_open l m) (filled_behind _ (expr_at m x) (filled_expr m x))
    (append_assoc (hole_front m part.Head is u) (expr_at m x) (up m (template_mark part.Middle v) ∷ []) ∙ sym (hole_middle m part.Head is u v x)) (shows_just m t _ e refl)
hole_end_grows l o is u x t (tok.Template part.Tail v) w e =
    let m : ℕ = here o + 1 in
    adds_same l _ o.items o.frames (hole_front m part.Head is u ++ expr_at m x) (expr_at (here o) (expr.Template (is ++ part_of u x ∷ []) v)) m (template_mark part.Tail v) t
    (at_leave l m (here o) (expr.Template (is ++ part_of u x ∷ []) v) (plain_template (is ++ part_of u x ∷ []) v) (omega arith) w) (filled_behind _ (expr_at m x) (filled_expr m x))
    (append_assoc (hole_front m part.Head is u) (expr_at m x) (up m (template_mark part.Tail v) ∷ []) ∙ sym (template_end (here o) is u v x)) (shows_just m t _ e refl)
hole_end_grows l o is u x t _ w e = tt

-- ---- heads of statements

pub part_end_grows : (l : ℕ) (o : Outer) (a : At) (b : Bool) (c : List Form) (t : Token) → (b ≡ true → Grows l (inside o c) t (to o a)) → Grows l (inside o c) t (on_part_end o a b)
part_end_grows l o a true c t h = h refl
part_end_grows l o a false c t h = tt

pub head_end_grows : (l : ℕ) (o : Outer) (b : Body) (c : List Form) (t : Token) → Filled c → c ++ up (here o + 1) (just p.CloseParen) ∷ [] ≡ body_front (here o) b → Grows l (inside o c) t (on_head_end o b t)
head_end_grows l o b c t s h =
    grows_cond l _ t (is_close_paren t.kind) (wait_body o b) (refuse_at spot.OperandEnd)
    (λ e. adds_same l _ o.items o.frames c (body_front (here o) b) (here o + 1) (just p.CloseParen) t (at_open l _) s h (shows_sign (here o + 1) p.CloseParen t (close_paren_is t.kind e))) (λ e. tt)

then_end_grows : (l : ℕ) (o : Outer) (test x : Expr) (t : Token) → Grows l (inside o ((expr_at (here o) test ++ up (here o + 1) (just p.Question) ∷ []) ++ expr_at (here o + 1) x)) t (on_then_end o test x t)
then_end_grows l o test x t =
    grows_cond l _ t (is_colon t.kind) (wait_tail o (tail.Else test x)) (refuse_at spot.OperandEnd)
    (λ e. adds_same l _ o.items o.frames _ (tail_front (here o) (tail.Else test x)) (here o + 1) (just p.Colon) t (at_open l _) (filled_behind _ (expr_at (here o + 1) x) (filled_expr (here o + 1) x)) (simp append_assoc) (shows_sign (here o + 1) p.Colon t (colon_is t.kind e))) (λ e. tt)

-- ---- declarations

declarations_push : (n : ℕ) (ds : List Declaration) (d : Declaration) → map (declaration_at n) ds ++ declaration_at n d ∷ [] ≡ map (declaration_at n) (ds ++ d ∷ [])
declarations_push n ds d = sym (map-append (declaration_at n) ds (d ∷ []))

abbrev pub with_last : Declared → Declaration → Declared
with_last d x = record { kind = d.kind; in_for = d.in_for; declarations = d.declarations ++ x ∷ [] }

-- `let` or `const`, and declarations, the last one whole
abbrev pub declared_forms : ℕ → Bool → Declared → List Form
declared_forms n b d = declared_head n b d.kind ++ separated_at (declared_level n b) (map (declaration_at (declared_level n b)) d.declarations)

pub last_declared : (n : ℕ) (d : Declared) (x : Declaration) → declared_front n d ++ declaration_at (declared_level n d.in_for) x ≡ declared_forms n d.in_for (with_last d x)
last_declared n d x =
    let m : ℕ = declared_level n d.in_for in
    append_assoc (declared_head n d.in_for d.kind) (commaed_at m (map (declaration_at m) d.declarations)) (declaration_at m x)
    ∙ ap (λ (z : List Form). declared_head n d.in_for d.kind ++ z) (sym (separated_push m (map (declaration_at m) d.declarations) (declaration_at m x)) ∙ ap (separated_at m) (declarations_push m d.declarations x))

pub declared_comma : (l : ℕ) (o : Outer) (d : Declared) (x : Declaration) (t : Token) → Known l (inside o (declared_front (here o) d ++ declaration_at (declared_level (here o) d.in_for) x)) (declared_level (here o) d.in_for) → t.kind ≡ tok.Punctuator p.Comma
    → Grows l (inside o (declared_front (here o) d ++ declaration_at (declared_level (here o) d.in_for) x)) t (to o (at.DeclaredName (with_last d x)))
declared_comma l o d x t k e =
    let m : ℕ = declared_level (here o) d.in_for in
    adds_known_in l _ o.items o.frames (declared_front (here o) d ++ declaration_at m x) (declared_front (here o) (with_last d x)) m (just p.Comma) t (declared_rises (here o) d.in_for) k (filled_before _ _ (filled_declared (here o) d))
    (simp append_assoc (ap (λ (z : List Form). declared_head (here o) d.in_for d.kind ++ z) (sym (commaed_push m (map (declaration_at m) d.declarations) (declaration_at m x)) ∙ ap (commaed_at m) (declarations_push m d.declarations x)))) (shows_sign m p.Comma t e)

filled_declared_forms : (n : ℕ) (b : Bool) (d : Declared) → Filled (declared_forms n b d)
filled_declared_forms n true d = filled_cons _ _
filled_declared_forms n false d = filled_cons _ _

pub declare_end_grows : (l : ℕ) (o : Outer) (d : Declared) (t : Token) (k : Refusal) → here o ≤ l → Grows l (inside o (declared_forms (here o) false d)) t (end_of false o (stmt.Declare d.kind d.declarations) t k)
declare_end_grows l o d t k v = end_grows l o (stmt.Declare d.kind d.declarations) (declared_forms (here o) false d) t k v (full_declare d.kind d.declarations) (other_declare d.kind d.declarations) (filled_declared_forms (here o) false d) (sym (stmt_declare (here o) d.kind d.declarations))

pub declare_for_grows : (l : ℕ) (o : Outer) (d : Declared) (t : Token) (k : Step) → Grows l (inside o (declared_forms (here o) true d)) t k
    → Grows l (inside o (declared_forms (here o) true d)) t (cond (is_semicolon t.kind) (to o (at.ForTest (for_begin.Declarations d.kind d.declarations))) k)
declare_for_grows l o d t k h =
    grows_cond l _ t (is_semicolon t.kind) (to o (at.ForTest (for_begin.Declarations d.kind d.declarations))) k
    (λ e. adds_same l _ o.items o.frames (declared_forms (here o) true d) _ (here o + 1) (just p.Semicolon) t (at_open l _) (filled_declared_forms (here o) true d)
    (ap (λ (z : List Form). for_open (here o) (z ++ up (here o + 1) (just p.Semicolon) ∷ [])) (sym (for_declarations (here o + 1) d.kind d.declarations))) (shows_sign (here o + 1) p.Semicolon t (semicolon_is t.kind e)))
    (λ e. h)

initial_done_grows : (l : ℕ) (o : Outer) (d : Declared) (t : Token) (b : Bool) → here o ≤ l → Grows l (inside o (declared_forms (here o) b d)) t (on_initial_done false o d t b)
initial_done_grows l o d t true v = declare_for_grows l o d t (refuse_at spot.OperandEnd) tt
initial_done_grows l o d t false v = declare_end_grows l o d t _ v

initial_forms : (n m : ℕ) (d : Declared) (x : Name) (y : Expr) → (declared_front n d ++ up m (name x) ∷ up m (just p.Equal) ∷ []) ++ expr_at m y ≡ declared_front n d ++ declaration_at m (roll-Declaration (record { name = x; value = Some y }))
initial_forms n m d x y = append_assoc (declared_front n d) (up m (name x) ∷ up m (just p.Equal) ∷ []) (expr_at m y) ∙ ap (λ (z : List Form). declared_front n d ++ z) (sym (declaration_value m x y))

initial_end_grows : (l : ℕ) (o : Outer) (d : Declared) (n : Name) (x : Expr) (t : Token) → here o ≤ l → declared_level (here o) d.in_for ≤ l
    → Grows l (inside o (purpose_front (here o) (purpose.Initial d n) ++ expr_at (declared_level (here o) d.in_for) x)) t (on_initial_end false o (with_declaration d n (Some x)) t)
initial_end_grows l o d n x t v u =
    let last : Declaration = roll-Declaration (record { name = n; value = Some x }) in
    grows_same l _ _ t (on_initial_end false o (with_last d last) t) (ap (inside o) (initial_forms (here o) (declared_level (here o) d.in_for) d n x))
    (grows_cond l _ t (is_comma t.kind) (to o (at.DeclaredName (with_last d last))) (on_initial_done false o (with_last d last) t d.in_for)
    (λ e. declared_comma l o d last t (λ ss h most all w. le_trans u w) (comma_is t.kind e))
    (λ e. grows_same l _ _ t (on_initial_done false o (with_last d last) t d.in_for) (ap (inside o) (last_declared (here o) d last)) (initial_done_grows l o (with_last d last) t d.in_for v)))

-- ---- a whole value, in what waits for it

pub value_grows : (l : ℕ) (o : Outer) (w : Purpose) (x : Expr) (t : Token) → here o ≤ l → purpose_level (here o) w ≤ l
    → Grows l (inside o (lined (is_line (frame.Purpose w)) (purpose_front (here o) w) (expr_at (purpose_level (here o) w) x))) t (on_value false o w x t)
value_grows l o (purpose.Then test) x t v u = then_end_grows l o test x t
value_grows l o purpose.Group x t v u =
    part_end_grows l o _ (is_close_paren t.kind) _ t
    (λ e. adds_same l _ o.items o.frames _ _ (here o + 1) (just p.CloseParen) t (at_leave l _ (here o) (expr.Group x) (plain_group x) (omega arith) u) (filled_cons _ _) (sym (expr_group (here o) x)) (shows_sign (here o + 1) p.CloseParen t (close_paren_is t.kind e)))
value_grows l o (purpose.Argument c xs) x t v u = argument_end_grows l o c xs x t t.kind u refl
value_grows l o (purpose.Index y n) x t v u =
    let m : ℕ = access_at (here o) y in
    part_end_grows l o _ (is_close_bracket t.kind) _ t
    (λ e. adds_same l _ o.items o.frames ((expr_at (here o) y ++ up m (just p.OpenBracket) ∷ []) ++ expr_at m x) (expr_at (here o) (expr.Index y x)) m (just p.CloseBracket) t (at_chain l (here o) y (expr.Index y x) (accesses_index y x))
    (filled_behind _ (expr_at m x) (filled_expr m x)) (simp append_assoc (sym (expr_index (here o) y x))) (shows_sign m p.CloseBracket t (close_bracket_is t.kind e)))
value_grows l o (purpose.Element xs) x t v u = element_end_grows l o xs x t t.kind u refl
value_grows l o (purpose.Pair xs k) x t v u = pair_end_grows l o xs k x t t.kind u refl
value_grows l o (purpose.Hole is w) x t v u = hole_end_grows l o is w x t t.kind u refl
value_grows l o purpose.If x t v u = head_end_grows l o (body.Then x) _ t (filled_cons _ _) refl
value_grows l o purpose.While x t v u = head_end_grows l o (body.While x) _ t (filled_cons _ _) refl
value_grows l o (purpose.ForOf k n) x t v u = head_end_grows l o (body.ForOf k n x) _ t (filled_cons _ _) refl
value_grows l o (purpose.ForUpdate b test) x t v u = head_end_grows l o (body.For b test (Some x)) _ t (filled_cons _ _) (simp append_assoc)
value_grows l o purpose.ForStart x t v u =
    part_end_grows l o _ (is_semicolon t.kind) _ t
    (λ e. adds_same l _ o.items o.frames (for_open (here o) (expr_at (here o + 1) x)) _ (here o + 1) (just p.Semicolon) t (at_open l _) (filled_cons _ _)
    (ap (λ (z : List Form). for_open (here o) (z ++ up (here o + 1) (just p.Semicolon) ∷ [])) (sym (for_start (here o + 1) x))) (shows_sign (here o + 1) p.Semicolon t (semicolon_is t.kind e)))
value_grows l o (purpose.ForTest b) x t v u =
    part_end_grows l o _ (is_semicolon t.kind) _ t
    (λ e. adds_same l _ o.items o.frames (purpose_front (here o) (purpose.ForTest b) ++ expr_at (here o + 1) x) (purpose_front (here o) (purpose.ForUpdate b (Some x))) (here o + 1) (just p.Semicolon) t (at_open l _) (filled_cons _ _) (simp append_assoc) (shows_sign (here o + 1) p.Semicolon t (semicolon_is t.kind e)))
value_grows l o purpose.Statement x t v u = end_grows l o (stmt.Expr x) (expr_at (here o) x) t _ v (full_expr x) (other_expr x) (filled_expr (here o) x) (sym (stmt_expr (here o) x))
value_grows l o (purpose.Initial d n) x t v u = initial_end_grows l o d n x t v u
value_grows l o (purpose.Return q) x t v u = end_grows l o (stmt.Return q (Some x)) (up (here o) (reserved_at q r.Return) ∷ on_one_line (expr_at (here o) x)) t _ v (full_return q (Some x)) (other_return q (Some x)) (filled_cons _ _) (sym (stmt_return_value (here o) q x))
value_grows l o purpose.Throw x t v u = end_grows l o (stmt.Throw x) (up (here o) (reserved r.Throw) ∷ on_one_line (expr_at (here o) x)) t _ v (full_throw x) (other_throw x) (filled_cons _ _) (sym (stmt_throw (here o) x))
