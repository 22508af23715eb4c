-- A token behind `async`, names in brackets, parameters of arrows, `new`, and in members, arguments and items.
use Rattle.std.proofs.Common.{◌≡◌, ℕ, Bool, true, false, cond, List, [], ◌∷◌, ◌++◌, map, Option, Some, None, Ok, Err, refl, sym, ◌∙◌, ap, append_assoc}
use Rattle.std.specs.Prelude.{◌&&◌, not, nat_le, drop}
use Rattle.std.proofs.lemmas.Bool.{false≢true, not-true, and_parts}
use Rattle.std.proofs.lemmas.List.{append-nil}
use Rattle.js_lex.specs.declared.token.Punctuator.TheVariants as p
use Rattle.js_lex.specs.declared.token.Reserved.TheVariants as r
use Rattle.js_lex.specs.declared.token.TokenKind.{TokenKind}
use Rattle.js_lex.specs.declared.token.TokenKind.TheVariants as tok
use Rattle.js_lex.specs.declared.token.Token.{Token}
use Rattle.js_tree.specs.declared.tree.Expr.{Expr}
use Rattle.js_tree.specs.declared.tree.Expr.TheVariants as expr
use Rattle.js_tree.specs.declared.tree.Name.{Name}
use Rattle.js_words.specs.declared.word.Spot.TheVariants as spot
use Rattle.js_grammar.specs.Marks.{Form, one, unbroken, sign, word, just, listed, on_one_line}
use Rattle.js_grammar.specs.Grammar.{name, name_mark, name_forms, any_name, async, reserved, arrow_sign, perhaps_async}
use Rattle.js_parse_core.specs.declared.machine.At.TheVariants as at
use Rattle.js_parse_core.specs.declared.machine.Block.TheVariants as block
use Rattle.js_parse_core.specs.declared.machine.Callee.{Callee}
use Rattle.js_parse_core.specs.declared.machine.Callee.TheVariants as callee
use Rattle.js_parse_core.specs.declared.machine.Cover.{Cover}
use Rattle.js_parse_core.specs.declared.machine.Cover.TheVariants as covers
use Rattle.js_parse_core.specs.declared.machine.Frame.{Frame}
use Rattle.js_parse_core.specs.declared.machine.Frame.TheVariants as frame
use Rattle.js_parse_core.specs.declared.machine.Open.{Open}
use Rattle.js_parse_core.specs.declared.machine.Outer.{Outer}
use Rattle.js_parse_core.specs.declared.machine.Purpose.TheVariants as purpose
use Rattle.js_parse_core.specs.declared.machine.Tail.TheVariants as tail
use Rattle.js_parse_core.specs.Outer.{Step, refuse, refuse_at, to, framed, opened, push, without, first_frame, in_body, is_statement, begins_statement, is_whole, plus, constructs, open_block}
use Rattle.js_parse_core.specs.Begin.{operand, begin}
use Rattle.js_parse_core.specs.Values.{call}
use Rattle.js_parse_core.specs.Tokens.{is_async, is_close_paren, is_open_paren, is_open_brace, is_close_bracket, is_comma, is_arrow}
use Rattle.js_parse_core.specs.Tokens.{name as named}
use Rattle.js_parse_core.specs.Tokens.{any_name as any_named}
use Rattle.js_parse_core.specs.Expressions.{after_operand, declares_async, async_function, async_paren, async_kind, after_async, as_values, uncovered, uncover, has_none, may_be_values, on_cover_other, on_cover_kind, on_cover_open, after_name, on_cover_name, is_async_cover, only_name, group_of, covered_value, on_covered, on_arrow, arrow_value, on_arrow_body, on_new, on_new_open, member_of, on_member, callee_accesses, on_argument, on_element}
use Rattle.js_parse_core.proofs.Covers.{Covers, covers_same, covers_trans, covers_behind, covers_before, Within, within_same, within_trans, within_behind}
use Rattle.js_parse_core.proofs.Bare.{expr_forms, bracketed, arrow_names, expr_name, expr_group, expr_array, expr_member}
use Rattle.js_parse_core.proofs.Spelled.{commaed, names_forms, async_name, argument_front, callee_forms, purpose_front, tail_front, front, is_line, lined, spell, whole_items, cover_front, covered_names}
use Rattle.js_parse_core.proofs.SpelledLemmas.{Filled, filled_cons, filled_behind, filled_before, filled_names, spell_within, enters_front, commaed_push, commaed_listed, last_listed, close_none, within_front}
use Rattle.js_parse_core.proofs.ArrowForms.{within_append, async_name_within, async_word_within, bare_parameter, filled_cover, cover_parameters, as_values_forms, async_call, async_arguments, names_push}
use Rattle.js_parse_core.proofs.Grows.{name_is_async, Shows, shows_sign, shows_line_sign, shows_line_word, shows_at, shows_line_at, open_paren_is, close_paren_is, open_brace_is, close_bracket_is, comma_is, arrow_is, Grows, adds_in, adds_same, grows_cond, grows_from, grows_same, Opens, opens_enters, opens_frame}
use Rattle.js_parse_core.proofs.NameShows.{NameShows, name_shows}
use Rattle.js_parse_core.proofs.SoundBegin.{begin_grows}
use Rattle.js_parse_core.proofs.SoundValues.{inside, call_grows}
use Rattle.js_parse_core.proofs.SoundOperators.{operand_grows}

pub inside_covers : (o : Outer) (a b : List Form) → Within a b → Covers (inside o a) (inside o b)
inside_covers o a b w = covers_behind (whole_items o.items) _ _ (spell_within o.frames a b w).all

-- ---- `async`

-- .. is a name
async_operand_grows : (o : Outer) (n : Name) (t : Token) → Grows (inside o (async_name n ∷ [])) t (after_operand false o (expr.Name n) 0 t)
async_operand_grows o n t =
    grows_from _ (inside o (expr_forms (expr.Name n))) t (after_operand false o (expr.Name n) 0 t)
    (inside_covers o _ _ (within_trans _ (name n ∷ []) _ (async_name_within n []) (within_same _ _ (sym (expr_name n))))) (operand_grows o (expr.Name n) 0 t)

abbrev async_function_forms : List Form
async_function_forms = async ∷ one (unbroken (word r.Function)) ∷ []

statement_frame_grows : (o : Outer) (fs : List Open) (f : Frame) (n : Name) (t : Token) → t.kind ≡ tok.Reserved r.Function → t.after_line_end ≡ false → is_statement (Some f) ≡ true → Grows (whole_items o.items ++ spell fs (lined (is_line f) (front fs f) (async_name n ∷ []))) t (declares_async (framed o fs))
statement_frame_grows o fs (frame.Purpose purpose.Statement) n t e l h =
    grows_cond _ t (in_body (framed o fs)) refuse (to (framed o fs) (at.FunctionName true true)) (λ k. tt)
    (λ k. adds_in o.items fs (async_name n ∷ []) async_function_forms (one (unbroken (word r.Function))) t (filled_cons _ _) (async_word_within n _) (shows_line_word r.Function t e l))
statement_frame_grows o fs _ n t e l h = absurd (false≢true h)

statement_frames_grows : (o : Outer) (fs : List Open) (n : Name) (t : Token) → t.kind ≡ tok.Reserved r.Function → t.after_line_end ≡ false → is_statement (first_frame fs) ≡ true → Grows (whole_items o.items ++ spell fs (async_name n ∷ [])) t (declares_async (framed o (drop 1 fs)))
statement_frames_grows o [] n t e l h = absurd (false≢true h)
statement_frames_grows o (f ∷ fs) n t e l h = statement_frame_grows o fs f.frame n t e l h

async_function_grows : (o : Outer) (n : Name) (t : Token) → t.kind ≡ tok.Reserved r.Function → t.after_line_end ≡ false → Grows (inside o (async_name n ∷ [])) t (async_function o)
async_function_grows o n t e l =
    grows_cond _ t (begins_statement o) (declares_async (without o)) (to o (at.FunctionName false true))
    (λ h. statement_frames_grows o o.frames n t e l h)
    (λ h. adds_in o.items o.frames (async_name n ∷ []) async_function_forms (one (unbroken (word r.Function))) t (filled_cons _ _) (async_word_within n _) (shows_line_word r.Function t e l))

async_paren_grows : (o : Outer) (n : Name) (t : Token) → t.kind ≡ tok.Punctuator p.OpenParen → t.after_line_end ≡ false → Grows (inside o (async_name n ∷ [])) t (async_paren o n)
async_paren_grows o n t e l =
    grows_cond _ t (is_whole o) (to o (at.CoverOpen (covers.Async n) [])) (to o (at.NextArgument (callee.Value (expr.Name n) 0) []))
    (λ h. adds_same o.items o.frames (async_name n ∷ []) (cover_front (covers.Async n)) (one (unbroken (sign p.OpenParen))) t (filled_cons _ _) refl (shows_line_sign p.OpenParen t e l))
    (λ h. adds_in o.items o.frames (async_name n ∷ []) (argument_front (callee.Value (expr.Name n) 0) []) (one (unbroken (sign p.OpenParen))) t (filled_cons _ _) (async_call n [] [] (covers_same _ _ refl)) (shows_line_sign p.OpenParen t e l))

async_kind_grows : (o : Outer) (n : Name) (t : Token) (k : TokenKind) → t.kind ≡ k → t.after_line_end ≡ false → Grows (inside o (async_name n ∷ [])) t (async_kind false o n t k)
async_kind_grows o n t (tok.Reserved r.Function) e l = async_function_grows o n t e l
async_kind_grows o n t (tok.Name u) e l =
    grows_cond _ t (is_whole o) (to o (at.Arrow true (named t.place u ∷ []))) (after_operand false o (expr.Name n) 0 t)
    (λ h. adds_in o.items o.frames (async_name n ∷ []) (async ∷ on_one_line (arrow_names (named t.place u ∷ []))) (one (unbroken (name_mark (named t.place u)))) t (filled_cons _ _)
    (within_trans _ (async ∷ one (unbroken (name_mark (named t.place u))) ∷ []) _ (async_word_within n _)
    (within_behind async _ _ (covers_trans _ _ _ (bare_parameter (named t.place u) []).on_line (covers_same _ _ (ap on_one_line (append-nil (arrow_names (named t.place u ∷ [])))))))) (shows_line_at t (tok.Name u) e refl l))
    (λ h. async_operand_grows o n t)
async_kind_grows o n t (tok.Punctuator p.OpenParen) e l = async_paren_grows o n t e l
async_kind_grows o n t _ e l = async_operand_grows o n t

pub async_grows : (o : Outer) (n : Name) (t : Token) → Grows (inside o (async_name n ∷ [])) t (after_async false o n t)
async_grows o n t =
    grows_cond _ t t.after_line_end (after_operand false o (expr.Name n) 0 t) (async_kind false o n t t.kind)
    (λ h. async_operand_grows o n t) (λ h. async_kind_grows o n t t.kind refl h)

-- ---- brackets round names

pub uncovered_line : (c : Cover) (ns : List Name) → is_line (frame.Purpose (uncovered c ns)) ≡ false
uncovered_line covers.Plain ns = refl
uncovered_line (covers.Async m) ns = refl

filled_uncovered : (c : Cover) (ns : List Name) → Filled (purpose_front (uncovered c ns))
filled_uncovered covers.Plain ns = filled_cons _ _
filled_uncovered (covers.Async m) ns = filled_behind (expr_forms (expr.Name m)) _ (filled_cons _ _)

uncovered_within : (c : Cover) (ns : List Name) → may_be_values c ns ≡ true → Within (cover_front c ++ commaed (names_forms ns)) (purpose_front (uncovered c ns))
uncovered_within covers.Plain [] h = within_same _ _ refl
uncovered_within covers.Plain (n ∷ ns) h = absurd (false≢true h)
uncovered_within (covers.Async m) ns h = async_call m (commaed (names_forms ns)) (commaed (map expr_forms (as_values ns))) (covers_same _ _ (ap commaed (sym (as_values_forms ns))))

filled_names_open : (c : Cover) (x : List Form) → Filled (cover_front c ++ x)
filled_names_open c x = filled_before (cover_front c) x (filled_cover c)

uncover_opens : (o : Outer) (c : Cover) (ns : List Name) (t : Token) → may_be_values c ns ≡ true → Opens (inside o (cover_front c ++ commaed (names_forms ns))) o.items (uncover o c ns).frames t
uncover_opens o c ns t h =
    opens_enters _ o.items (spell o.frames (purpose_front (uncovered c ns))) (uncover o c ns).frames t (inside_covers o _ _ (uncovered_within c ns h))
    (enters_front o.frames (purpose_front (uncovered c ns)) (opened (plus (constructs o) 1) (frame.Purpose (uncovered c ns))) (filled_uncovered c ns) refl (uncovered_line c ns))

cover_close : (o : Outer) (c : Cover) (ns : List Name) (t : Token) → t.kind ≡ tok.Punctuator p.CloseParen → Grows (inside o (cover_front c ++ commaed (names_forms ns))) t (to o (at.Covered c ns false))
cover_close o c ns t e =
    adds_in o.items o.frames (cover_front c ++ commaed (names_forms ns)) (cover_front c ++ (listed (names_forms ns) ++ just p.CloseParen ∷ [])) (just p.CloseParen) t (filled_names_open c _)
    (within_trans _ (cover_front c ++ (commaed (names_forms ns) ++ just p.CloseParen ∷ [])) _ (within_same _ _ (append_assoc (cover_front c) (commaed (names_forms ns)) (just p.CloseParen ∷ [])))
    (within_front (cover_front c) _ _ (filled_cover c) (covers_before _ _ (just p.CloseParen ∷ []) (commaed_listed (names_forms ns))))) (shows_sign p.CloseParen t e)

cover_other_grows : (o : Outer) (c : Cover) (ns : List Name) (t : Token) → Grows (inside o (cover_front c ++ commaed (names_forms ns))) t (on_cover_other o c ns t)
cover_other_grows o c ns t =
    grows_cond _ t (is_close_paren t.kind) (to o (at.Covered c ns false)) (cond (may_be_values c ns) (begin (uncover o c ns) t) (refuse_at spot.Parameter))
    (λ h. cover_close o c ns t (close_paren_is t.kind h))
    (λ h. grows_cond _ t (may_be_values c ns) (begin (uncover o c ns) t) (refuse_at spot.Parameter) (λ k. begin_grows _ (uncover o c ns) t (uncover_opens o c ns t k)) (λ k. tt))

cover_kind_grows : (o : Outer) (c : Cover) (ns : List Name) (t : Token) (k : TokenKind) → t.kind ≡ k → Grows (inside o (cover_front c ++ commaed (names_forms ns))) t (on_cover_kind o c ns t k)
cover_kind_grows o c ns t (tok.Name u) e =
    adds_same o.items o.frames (cover_front c ++ commaed (names_forms ns)) _ (name (named t.place u)) t (filled_names_open c _)
    (append_assoc (cover_front c) (commaed (names_forms ns)) (name (named t.place u) ∷ [])) (shows_at t (tok.Name u) e refl)
cover_kind_grows o c ns t _ e = cover_other_grows o c ns t

pub cover_open_grows : (o : Outer) (c : Cover) (ns : List Name) (t : Token) → Grows (inside o (cover_front c ++ commaed (names_forms ns))) t (on_cover_open o c ns t)
cover_open_grows o c ns t = cover_kind_grows o c ns t t.kind refl

after_name_grows : (o : Outer) (n : Name) (t : Token) → Grows (inside o (name n ∷ [])) t (after_name false o n t)
after_name_grows o n t =
    grows_cond _ t (is_async n.units) (after_async false o n t) (after_operand false o (expr.Name n) 0 t)
    (λ h. grows_same _ _ t (after_async false o n t) (ap (λ (f : Form). inside o (f ∷ [])) (name_is_async n h)) (async_grows o n t))
    (λ h. grows_same _ _ t (after_operand false o (expr.Name n) 0 t) (ap (inside o) (sym (expr_name n))) (operand_grows o (expr.Name n) 0 t))

covered_push : (ns : List Name) (n : Name) → Covers (commaed (names_forms ns) ++ name n ∷ []) (covered_names (ns ++ n ∷ []) (has_none ns))
covered_push [] n = covers_same _ _ refl
covered_push (m ∷ ns) n = covers_trans _ (listed (names_forms (m ∷ ns) ++ name_forms n ∷ [])) _ (last_listed (names_forms (m ∷ ns)) (name_forms n)) (covers_same _ _ (ap listed (names_push (m ∷ ns) n)))

uncovered_name : (o : Outer) (c : Cover) (ns : List Name) (n : Name) → may_be_values c ns ≡ true → Covers (inside o (cover_front c ++ (commaed (names_forms ns) ++ name n ∷ []))) (inside (uncover o c ns) (name n ∷ []))
uncovered_name o c ns n h =
    covers_trans _ (inside o (purpose_front (uncovered c ns) ++ name n ∷ [])) _
    (inside_covers o _ _
    (within_trans _ ((cover_front c ++ commaed (names_forms ns)) ++ name n ∷ []) _ (within_same _ _ (sym (append_assoc (cover_front c) (commaed (names_forms ns)) (name n ∷ []))))
    (within_append _ _ (name n ∷ []) (filled_names_open c _) (filled_uncovered c ns) (uncovered_within c ns h))))
    (covers_same _ _ (ap (λ (b : Bool). whole_items o.items ++ spell o.frames (lined b (purpose_front (uncovered c ns)) (name n ∷ []))) (sym (uncovered_line c ns))))

cover_comma : (o : Outer) (c : Cover) (ns : List Name) (n : Name) (t : Token) → t.kind ≡ tok.Punctuator p.Comma → Grows (inside o (cover_front c ++ (commaed (names_forms ns) ++ name n ∷ []))) t (to o (at.CoverOpen c (ns ++ n ∷ [])))
cover_comma o c ns n t e =
    adds_same o.items o.frames (cover_front c ++ (commaed (names_forms ns) ++ name n ∷ [])) (cover_front c ++ commaed (names_forms (ns ++ n ∷ []))) (just p.Comma) t (filled_names_open c _)
    (simp append_assoc (ap (λ (z : List Form). cover_front c ++ z) (sym (commaed_push (names_forms ns) (name_forms n)) ∙ ap commaed (names_push ns n)))) (shows_sign p.Comma t e)

cover_name_close : (o : Outer) (c : Cover) (ns : List Name) (n : Name) (t : Token) → t.kind ≡ tok.Punctuator p.CloseParen → Grows (inside o (cover_front c ++ (commaed (names_forms ns) ++ name n ∷ []))) t (to o (at.Covered c (ns ++ n ∷ []) (has_none ns)))
cover_name_close o c ns n t e =
    adds_in o.items o.frames (cover_front c ++ (commaed (names_forms ns) ++ name n ∷ [])) (cover_front c ++ (covered_names (ns ++ n ∷ []) (has_none ns) ++ just p.CloseParen ∷ [])) (just p.CloseParen) t (filled_names_open c _)
    (within_trans _ (cover_front c ++ ((commaed (names_forms ns) ++ name n ∷ []) ++ just p.CloseParen ∷ [])) _ (within_same _ _ (append_assoc (cover_front c) (commaed (names_forms ns) ++ name n ∷ []) (just p.CloseParen ∷ [])))
    (within_front (cover_front c) _ _ (filled_cover c) (covers_before _ _ (just p.CloseParen ∷ []) (covered_push ns n)))) (shows_sign p.CloseParen t e)

pub cover_name_grows : (o : Outer) (c : Cover) (ns : List Name) (n : Name) (t : Token) → Grows (inside o (cover_front c ++ (commaed (names_forms ns) ++ name n ∷ []))) t (on_cover_name false o c ns n t)
cover_name_grows o c ns n t =
    let values : Step = cond (may_be_values c ns) (after_name false (uncover o c ns) n t) (refuse_at spot.Parameter) in
    grows_cond _ t (is_comma t.kind) (to o (at.CoverOpen c (ns ++ n ∷ []))) (cond (is_close_paren t.kind) (to o (at.Covered c (ns ++ n ∷ []) (has_none ns))) values)
    (λ h. cover_comma o c ns n t (comma_is t.kind h))
    (λ h. grows_cond _ t (is_close_paren t.kind) (to o (at.Covered c (ns ++ n ∷ []) (has_none ns))) values
    (λ k. cover_name_close o c ns n t (close_paren_is t.kind k))
    (λ k. grows_cond _ t (may_be_values c ns) (after_name false (uncover o c ns) n t) (refuse_at spot.Parameter)
    (λ m. grows_from _ _ t (after_name false (uncover o c ns) n t) (uncovered_name o c ns n m) (after_name_grows (uncover o c ns) n t)) (λ m. tt)))

-- ---- arrows

arrow_shows : (t : Token) → (is_arrow t.kind && not t.after_line_end) ≡ true → Shows arrow_sign t
arrow_shows t h =
    let both : (is_arrow t.kind ≡ true) × (not t.after_line_end ≡ true) = and_parts (is_arrow t.kind) (not t.after_line_end) h in
    shows_line_sign p.Arrow t (arrow_is t.kind both.0) (not-true t.after_line_end both.1)

group_grows : (o : Outer) (ns : List Name) (t : Token) → Grows (inside o (cover_front covers.Plain ++ (covered_names ns true ++ just p.CloseParen ∷ []))) t (group_of false o t (only_name ns))
group_grows o [] t = tt
group_grows o (n ∷ []) t =
    grows_same _ _ t (after_operand false o (expr.Group (expr.Name n)) 0 t) (ap (inside o) (sym (expr_group (expr.Name n) ∙ ap bracketed (expr_name n)))) (operand_grows o (expr.Group (expr.Name n)) 0 t)
group_grows o (n ∷ m ∷ ns) t = tt

covered_value_grows : (o : Outer) (c : Cover) (ns : List Name) (b : Bool) (t : Token) → Grows (inside o (cover_front c ++ (covered_names ns b ++ just p.CloseParen ∷ []))) t (covered_value false o c ns b t)
covered_value_grows o (covers.Async m) ns b t = grows_from _ _ t (after_operand false o (expr.Call (expr.Name m) (as_values ns)) 1 t) (inside_covers o _ _ (async_arguments m ns b)) (operand_grows o (expr.Call (expr.Name m) (as_values ns)) 1 t)
covered_value_grows o covers.Plain ns true t = group_grows o ns t
covered_value_grows o covers.Plain ns false t = tt

pub covered_grows : (o : Outer) (c : Cover) (ns : List Name) (b : Bool) (t : Token) → Grows (inside o (cover_front c ++ (covered_names ns b ++ just p.CloseParen ∷ []))) t (on_covered false o c ns b t)
covered_grows o c ns b t =
    grows_cond _ t (is_arrow t.kind && not t.after_line_end) (to o (at.ArrowBody (is_async_cover c) ns)) (covered_value false o c ns b t)
    (λ h. adds_in o.items o.frames (cover_front c ++ (covered_names ns b ++ just p.CloseParen ∷ [])) (perhaps_async (is_async_cover c) (arrow_names ns) ++ arrow_sign ∷ []) arrow_sign t (filled_names_open c _)
    (within_append _ _ (arrow_sign ∷ []) (filled_names_open c _) (filled_names (is_async_cover c) ns) (cover_parameters c ns b)) (arrow_shows t h))
    (λ h. covered_value_grows o c ns b t)

pub arrow_grows : (o : Outer) (a : Bool) (ns : List Name) (t : Token) → Grows (inside o (perhaps_async a (arrow_names ns))) t (on_arrow o a ns t)
arrow_grows o a ns t =
    grows_cond _ t (is_arrow t.kind && not t.after_line_end) (to o (at.ArrowBody a ns)) refuse
    (λ h. adds_same o.items o.frames (perhaps_async a (arrow_names ns)) (perhaps_async a (arrow_names ns) ++ arrow_sign ∷ []) arrow_sign t (filled_names a ns) refl (arrow_shows t h)) (λ h. tt)

arrow_value_grows : (a : List Form) (t : Token) (b : Bool) (x : Step) → Grows a t x → Grows a t (arrow_value b x)
arrow_value_grows a t true (Ok n) h = tt
arrow_value_grows a t true (Err k) h = tt
arrow_value_grows a t false x h = h

pub arrow_body_grows : (most : ℕ) (o : Outer) (a : Bool) (ns : List Name) (t : Token) → Grows (inside o (perhaps_async a (arrow_names ns) ++ arrow_sign ∷ [])) t (on_arrow_body most o a ns t)
arrow_body_grows most o a ns t =
    let inner : Outer = push o 1 (frame.Tail (tail.Arrow a ns)) in
    grows_cond _ t (is_open_brace t.kind) (open_block o 1 (block.Arrow a ns)) (arrow_value (nat_le most (constructs o)) (begin inner t))
    (λ h. adds_same o.items o.frames (perhaps_async a (arrow_names ns) ++ arrow_sign ∷ []) _ (just p.OpenBrace) t (filled_before _ _ (filled_names a ns)) (simp (append_assoc, append-nil)) (shows_sign p.OpenBrace t (open_brace_is t.kind h)))
    (λ h. arrow_value_grows _ t (nat_le most (constructs o)) (begin inner t)
    (begin_grows _ inner t (opens_frame o.items o.frames (tail_front (tail.Arrow a ns)) (opened (plus (constructs o) 1) (frame.Tail (tail.Arrow a ns))) t (filled_before _ _ (filled_names a ns)) refl refl)))

-- ---- `new`, members, arguments and items

pub new_grows : (o : Outer) (t : Token) (k : TokenKind) → t.kind ≡ k → Grows (inside o (reserved r.New ∷ [])) t (on_new o t.place k)
new_grows o t (tok.Name u) e = adds_same o.items o.frames (reserved r.New ∷ []) _ (name (named t.place u)) t (filled_cons _ _) refl (shows_at t (tok.Name u) e refl)
new_grows o t _ e = tt

pub new_open_grows : (o : Outer) (n : Name) (t : Token) → Grows (inside o (reserved r.New ∷ name n ∷ [])) t (on_new_open o n t.kind)
new_open_grows o n t =
    grows_cond _ t (is_open_paren t.kind) (to o (at.NextArgument (callee.New n) [])) refuse
    (λ h. adds_same o.items o.frames (reserved r.New ∷ name n ∷ []) _ (just p.OpenParen) t (filled_cons _ _) refl (shows_sign p.OpenParen t (open_paren_is t.kind h))) (λ h. tt)

member_of_grows : (o : Outer) (x : Expr) (n : ℕ) (t : Token) (m : Option Name) → NameShows t m → Grows (inside o (expr_forms x ++ just p.Dot ∷ [])) t (member_of o x n m)
member_of_grows o x n t (Some m) h =
    adds_same o.items o.frames (expr_forms x ++ just p.Dot ∷ []) (expr_forms (expr.Member x m)) (any_name m) t (filled_behind (expr_forms x) _ (filled_cons _ _)) (append_assoc (expr_forms x) (just p.Dot ∷ []) (any_name m ∷ []) ∙ sym (expr_member x m)) h
member_of_grows o x n t None h = tt

pub member_grows : (o : Outer) (x : Expr) (n : ℕ) (t : Token) → Grows (inside o (expr_forms x ++ just p.Dot ∷ [])) t (on_member o x n t)
member_grows o x n t = member_of_grows o x n t (any_named t.place t.kind) (name_shows t t.kind refl)

filled_arguments : (c : Callee) (xs : List (List Form)) → Filled (argument_front c xs)
filled_arguments c xs = filled_behind (callee_forms c) _ (filled_cons _ _)

pub argument_grows : (o : Outer) (c : Callee) (xs : List Expr) (t : Token) → Grows (inside o (argument_front c (map expr_forms xs))) t (on_argument o c xs t)
argument_grows o c xs t =
    let inner : Outer = push o (plus (callee_accesses c) 1) (frame.Purpose (purpose.Argument c xs)) in
    grows_cond _ t (is_close_paren t.kind) (call o c xs) (begin inner t)
    (λ h. call_grows o c xs (argument_front c (map expr_forms xs)) t (filled_arguments c _) (close_none (callee_forms c) p.OpenParen p.CloseParen (map expr_forms xs)) (shows_sign p.CloseParen t (close_paren_is t.kind h)))
    (λ h. begin_grows _ inner t (opens_frame o.items o.frames (argument_front c (map expr_forms xs)) (opened (plus (constructs o) (plus (callee_accesses c) 1)) (frame.Purpose (purpose.Argument c xs))) t (filled_arguments c _) refl refl))

pub element_grows : (o : Outer) (xs : List Expr) (t : Token) → Grows (inside o (just p.OpenBracket ∷ commaed (map expr_forms xs))) t (on_element o xs t)
element_grows o xs t =
    let inner : Outer = push o 1 (frame.Purpose (purpose.Element xs)) in
    grows_cond _ t (is_close_bracket t.kind) (operand o (expr.Array xs)) (begin inner t)
    (λ h. adds_in o.items o.frames (just p.OpenBracket ∷ commaed (map expr_forms xs)) (expr_forms (expr.Array xs)) (just p.CloseBracket) t (filled_cons _ _)
    (within_trans _ _ _ (close_none [] p.OpenBracket p.CloseBracket (map expr_forms xs)) (within_same _ _ (sym (expr_array xs)))) (shows_sign p.CloseBracket t (close_bracket_is t.kind h)))
    (λ h. begin_grows _ inner t (opens_frame o.items o.frames (just p.OpenBracket ∷ commaed (map expr_forms xs)) (opened (plus (constructs o) 1) (frame.Purpose (purpose.Element xs))) t (filled_cons _ _) refl refl))
