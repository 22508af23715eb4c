-- A token behind `async`, names in brackets, parameters of arrows, `new`, and in members, arguments and items, with how many constructs are open.
use Rattle.std.proofs.Common.{◌≡◌, ℕ, ◌+◌, ◌≤◌, Bool, true, false, cond, List, [], ◌∷◌, ◌++◌, map, Option, Some, None, refl, sym, ◌∙◌, ap, subst, append_assoc, arith}
use Rattle.std.specs.Prelude.{◌&&◌, not, drop}
use Rattle.std.proofs.lemmas.Bool.{false≢true, not-true, and_parts}
use Rattle.std.proofs.lemmas.List.{append-nil}
use Rattle.js_lex.specs.declared.token.Punctuator.TheVariants as p
use Rattle.js_lex.specs.declared.token.Reserved.TheVariants as r
use Rattle.js_lex.specs.declared.token.TokenKind.{TokenKind}
use Rattle.js_lex.specs.declared.token.TokenKind.TheVariants as tok
use Rattle.js_lex.specs.declared.token.Token.{Token}
use Rattle.js_tree.specs.declared.tree.Expr.{Expr}
use Rattle.js_tree.specs.declared.tree.Expr.TheVariants as expr
use Rattle.js_tree.specs.declared.tree.Name.{Name}
use Rattle.js_words.specs.declared.word.Spot.TheVariants as spot
use Rattle.js_grammar.specs.Marks.{Form, one, unbroken, sign, word, just, on_one_line}
use Rattle.js_grammar.specs.Grammar.{name, name_mark, any_name, async, reserved, arrow_sign}
use Rattle.js_parse_core.specs.declared.machine.At.TheVariants as at
use Rattle.js_parse_core.specs.declared.machine.Block.TheVariants as block
use Rattle.js_parse_core.specs.declared.machine.Callee.{Callee}
use Rattle.js_parse_core.specs.declared.machine.Callee.TheVariants as callee
use Rattle.js_parse_core.specs.declared.machine.Cover.{Cover}
use Rattle.js_parse_core.specs.declared.machine.Cover.TheVariants as covers
use Rattle.js_parse_core.specs.declared.machine.Frame.{Frame}
use Rattle.js_parse_core.specs.declared.machine.Frame.TheVariants as frame
use Rattle.js_parse_core.specs.declared.machine.Open.{Open}
use Rattle.js_parse_core.specs.declared.machine.Outer.{Outer}
use Rattle.js_parse_core.specs.declared.machine.Purpose.TheVariants as purpose
use Rattle.js_parse_core.specs.declared.machine.Tail.TheVariants as tail
use Rattle.js_parse_core.specs.Outer.{Step, refuse, refuse_at, to, framed, opened, push, without, first_frame, in_body, is_statement, begins_statement, is_whole, plus, constructs, open_block}
use Rattle.js_parse_core.specs.Begin.{operand, begin}
use Rattle.js_parse_core.specs.Values.{call}
use Rattle.js_parse_core.specs.Tokens.{is_async, is_close_paren, is_open_paren, is_open_brace, is_close_bracket, is_comma, is_arrow}
use Rattle.js_parse_core.specs.Tokens.{name as named}
use Rattle.js_parse_core.specs.Tokens.{any_name as any_named}
use Rattle.js_parse_core.specs.Expressions.{after_operand, declares_async, async_function, async_paren, async_kind, after_async, as_values, uncovered, uncover, has_none, may_be_values, on_cover_other, on_cover_kind, on_cover_open, after_name, on_cover_name, is_async_cover, only_name, group_of, covered_value, on_covered, on_arrow, on_new, on_new_open, member_of, on_member, callee_accesses, on_argument, on_element}
use Rattle.js_parse_core.proofs.NameShows.{NameShows, name_shows}
use Rattle.js_parse_core.proofs.Spelled.{async_name, is_line, lined}
use Rattle.js_parse_core.proofs.SpelledLemmas.{Filled, filled_cons, filled_behind, filled_before}
use Rattle.js_parse_core.proofs.Grows.{name_is_async, open_paren_is, close_paren_is, open_brace_is, close_bracket_is, comma_is, arrow_is}
use Rattle.js_parse_core.proofs.SoundArrows.{uncovered_line}
use Rattle.js_parse_core.proofs.CountedCovers.{Covers, covers_same, covers_trans, covers_behind, covers_before, Within, within_same, within_trans, within_behind}
use Rattle.js_parse_core.proofs.CountedForms.{up, expr_at, name_at, names_at, listed_at, bracketed_at, perhaps_at, arrow_at, access_at, expr_name, expr_group, expr_array, expr_member, accesses_member}
use Rattle.js_parse_core.proofs.CountedSpelled.{commaed_at, callee_level, purpose_level, levels, callee_at, argument_front, arguments_front, purpose_front, tail_front, front, spell, whole_items, cover_front, covered_names}
use Rattle.js_parse_core.proofs.CountedLemmas.{filled_names, spell_within, enters_front, commaed_push, commaed_listed, last_listed, close_none, within_front}
use Rattle.js_parse_core.proofs.CountedArrowForms.{within_append, async_name_within, async_word_within, bare_parameter, filled_cover, cover_parameters, as_values_at, access_name, async_call, async_arguments, names_push}
use Rattle.js_parse_core.proofs.CountedGrows.{Shows, shows, shows_sign, shows_line_sign, shows_line_word, shows_at, shows_line_at, at_open, at_close, Adds, Grows, adds_in, adds_same, grows_cond, grows_from, grows_same, Opens, opens_enters, opens_frame}
use Rattle.js_parse_core.proofs.CountedChains.{plain_array}
use Rattle.js_parse_core.proofs.CountedBegin.{begin_grows}
use Rattle.js_parse_core.proofs.CountedValues.{inside, here, at_leave, at_chain, call_grows}
use Rattle.js_parse_core.proofs.CountedOperators.{operand_grows}

pub inside_covers : (o : Outer) (a b : List Form) → Within a b → Covers (inside o a) (inside o b)
inside_covers o a b w = covers_behind (whole_items o.items) _ _ (spell_within o.frames a b w).all

-- ---- `async`

abbrev async_at : ℕ → Name → List Form
async_at n x = up n (async_name x) ∷ []

-- .. is a name
async_operand_grows : (l : ℕ) (o : Outer) (n : Name) (t : Token) → here o ≤ l → Grows l (inside o (async_at (here o) n)) t (after_operand false o (expr.Name n) 0 t)
async_operand_grows l o n t v =
    grows_from l _ (inside o (expr_at (here o) (expr.Name n))) t (after_operand false o (expr.Name n) 0 t)
    (inside_covers o _ _ (within_trans _ (up (here o) (name n) ∷ []) _ (async_name_within (here o) n []) (within_same _ _ (sym (expr_name (here o) n))))) (operand_grows l o (expr.Name n) 0 t v)

abbrev async_function_at : ℕ → List Form
async_function_at n = up n async ∷ up n (one (unbroken (word r.Function))) ∷ []

statement_frame_grows : (l : ℕ) (o : Outer) (fs : List Open) (k : ℕ) (f : Frame) (n : Name) (t : Token) → t.kind ≡ tok.Reserved r.Function → t.after_line_end ≡ false → is_statement (Some f) ≡ true
    → Grows l (whole_items o.items ++ spell fs (lined (is_line f) (front fs f) (async_at (levels (opened k f ∷ fs)) n))) t (declares_async (framed o fs))
statement_frame_grows l o fs k (frame.Purpose purpose.Statement) n t e q h =
    grows_cond l _ t (in_body (framed o fs)) refuse (to (framed o fs) (at.FunctionName true true)) (λ z. tt)
    (λ z. adds_in l _ o.items fs (async_at (levels fs) n) (async_function_at (levels fs)) (levels fs) (one (unbroken (word r.Function))) t (at_open l _) (filled_cons _ _) (async_word_within (levels fs) n _) (shows_line_word (levels fs) r.Function t e q))
statement_frame_grows l o fs k _ n t e q h = absurd (false≢true h)

statement_frames_grows : (l : ℕ) (o : Outer) (fs : List Open) (n : Name) (t : Token) → t.kind ≡ tok.Reserved r.Function → t.after_line_end ≡ false → is_statement (first_frame fs) ≡ true → Grows l (whole_items o.items ++ spell fs (async_at (levels fs) n)) t (declares_async (framed o (drop 1 fs)))
statement_frames_grows l o [] n t e q h = absurd (false≢true h)
statement_frames_grows l o (f ∷ fs) n t e q h = statement_frame_grows l o fs f.constructs f.frame n t e q h

async_function_grows : (l : ℕ) (o : Outer) (n : Name) (t : Token) → t.kind ≡ tok.Reserved r.Function → t.after_line_end ≡ false → Grows l (inside o (async_at (here o) n)) t (async_function o)
async_function_grows l o n t e q =
    grows_cond l _ t (begins_statement o) (declares_async (without o)) (to o (at.FunctionName false true))
    (λ h. statement_frames_grows l o o.frames n t e q h)
    (λ h. adds_in l _ o.items o.frames (async_at (here o) n) (async_function_at (here o)) (here o) (one (unbroken (word r.Function))) t (at_open l _) (filled_cons _ _) (async_word_within (here o) n _) (shows_line_word (here o) r.Function t e q))

async_argument : (l : ℕ) (o : Outer) (n : Name) (t : Token) → Shows (here o + 1) (one (unbroken (sign p.OpenParen))) t → Grows l (inside o (async_at (here o) n)) t (to o (at.NextArgument (callee.Value (expr.Name n) 0) []))
async_argument l o n t h =
    subst (λ (k : ℕ). Adds l (inside o (async_at (here o) n)) t (inside o (argument_front (here o) k (callee.Value (expr.Name n) 0) [])) k) (sym (access_name (here o) n))
    (adds_in l _ o.items o.frames (async_at (here o) n) (argument_front (here o) (here o + 1) (callee.Value (expr.Name n) 0) []) (here o + 1) (one (unbroken (sign p.OpenParen))) t (at_open l _) (filled_cons _ _) (async_call (here o) n [] [] (covers_same _ _ refl)) h)

async_paren_grows : (l : ℕ) (o : Outer) (n : Name) (t : Token) → t.kind ≡ tok.Punctuator p.OpenParen → t.after_line_end ≡ false → Grows l (inside o (async_at (here o) n)) t (async_paren o n)
async_paren_grows l o n t e q =
    grows_cond l _ t (is_whole o) (to o (at.CoverOpen (covers.Async n) [])) (to o (at.NextArgument (callee.Value (expr.Name n) 0) []))
    (λ h. adds_same l _ o.items o.frames (async_at (here o) n) (cover_front (here o) (covers.Async n)) (here o + 1) (one (unbroken (sign p.OpenParen))) t (at_open l _) (filled_cons _ _) refl (shows_line_sign (here o + 1) p.OpenParen t e q))
    (λ h. async_argument l o n t (shows_line_sign (here o + 1) p.OpenParen t e q))

async_kind_grows : (l : ℕ) (o : Outer) (n : Name) (t : Token) (k : TokenKind) → here o ≤ l → t.kind ≡ k → t.after_line_end ≡ false → Grows l (inside o (async_at (here o) n)) t (async_kind false o n t k)
async_kind_grows l o n t (tok.Reserved r.Function) v e q = async_function_grows l o n t e q
async_kind_grows l o n t (tok.Name u) v e q =
    grows_cond l _ t (is_whole o) (to o (at.Arrow true (named t.place u ∷ []))) (after_operand false o (expr.Name n) 0 t)
    (λ h. adds_in l _ o.items o.frames (async_at (here o) n) (up (here o) async ∷ on_one_line (arrow_at (here o) (named t.place u ∷ []))) (here o) (one (unbroken (name_mark (named t.place u)))) t (at_open l _) (filled_cons _ _)
    (within_trans _ (up (here o) async ∷ up (here o) (one (unbroken (name_mark (named t.place u)))) ∷ []) _ (async_word_within (here o) n _)
    (within_behind (up (here o) async) _ _ (covers_trans _ _ _ (bare_parameter (here o) (named t.place u) []).on_line (covers_same _ _ (ap on_one_line (append-nil (arrow_at (here o) (named t.place u ∷ [])))))))) (shows_line_at (here o) t (tok.Name u) e refl q))
    (λ h. async_operand_grows l o n t v)
async_kind_grows l o n t (tok.Punctuator p.OpenParen) v e q = async_paren_grows l o n t e q
async_kind_grows l o n t _ v e q = async_operand_grows l o n t v

pub async_grows : (l : ℕ) (o : Outer) (n : Name) (t : Token) → here o ≤ l → Grows l (inside o (async_at (here o) n)) t (after_async false o n t)
async_grows l o n t v =
    grows_cond l _ t t.after_line_end (after_operand false o (expr.Name n) 0 t) (async_kind false o n t t.kind)
    (λ h. async_operand_grows l o n t v) (λ h. async_kind_grows l o n t t.kind v refl h)

-- ---- brackets round names

pub uncovered_level : (n : ℕ) (c : Cover) (ns : List Name) → purpose_level n (uncovered c ns) ≡ n + 1
uncovered_level n covers.Plain ns = refl
uncovered_level n (covers.Async m) ns = access_name n m

filled_uncovered : (n : ℕ) (c : Cover) (ns : List Name) → Filled (purpose_front n (uncovered c ns))
filled_uncovered n covers.Plain ns = filled_cons _ _
filled_uncovered n (covers.Async m) ns = filled_behind (expr_at n (expr.Name m)) _ (filled_cons _ _)

abbrev cover_names : ℕ → Cover → List Name → List Form
cover_names n c ns = cover_front n c ++ commaed_at (n + 1) (names_at (n + 1) ns)

uncovered_within : (n : ℕ) (c : Cover) (ns : List Name) → may_be_values c ns ≡ true → Within (cover_names n c ns) (purpose_front n (uncovered c ns))
uncovered_within n covers.Plain [] h = within_same _ _ refl
uncovered_within n covers.Plain (x ∷ ns) h = absurd (false≢true h)
uncovered_within n (covers.Async m) ns h =
    within_trans _ _ _ (async_call n m (commaed_at (n + 1) (names_at (n + 1) ns)) (commaed_at (n + 1) (map (expr_at (n + 1)) (as_values ns))) (covers_same _ _ (ap (commaed_at (n + 1)) (sym (as_values_at (n + 1) ns)))))
    (within_same _ _ (ap (λ (k : ℕ). argument_front n k (callee.Value (expr.Name m) 0) (map (expr_at k) (as_values ns))) (sym (access_name n m))))

filled_names_open : (n : ℕ) (c : Cover) (x : List Form) → Filled (cover_front n c ++ x)
filled_names_open n c x = filled_before (cover_front n c) x (filled_cover n c)

uncover_opens : (l : ℕ) (o : Outer) (c : Cover) (ns : List Name) (t : Token) → may_be_values c ns ≡ true → Opens l (inside o (cover_names (here o) c ns)) o.items (uncover o c ns).frames t
uncover_opens l o c ns t h =
    opens_enters l _ o.items (spell o.frames (purpose_front (here o) (uncovered c ns))) (uncover o c ns).frames t (inside_covers o _ _ (uncovered_within (here o) c ns h))
    (enters_front o.frames (purpose_front (here o) (uncovered c ns)) (opened (plus (constructs o) 1) (frame.Purpose (uncovered c ns))) (filled_uncovered (here o) c ns) refl (uncovered_line c ns))

cover_close : (l : ℕ) (o : Outer) (c : Cover) (ns : List Name) (t : Token) → here o + 1 ≤ l → t.kind ≡ tok.Punctuator p.CloseParen → Grows l (inside o (cover_names (here o) c ns)) t (to o (at.Covered c ns false))
cover_close l o c ns t v e =
    let m : ℕ = here o + 1 in
    adds_in l _ o.items o.frames (cover_names (here o) c ns) (cover_front (here o) c ++ (listed_at m (names_at m ns) ++ up m (just p.CloseParen) ∷ [])) m (just p.CloseParen) t (at_close l m (here o) (omega arith) v) (filled_names_open (here o) c _)
    (within_trans _ (cover_front (here o) c ++ (commaed_at m (names_at m ns) ++ up m (just p.CloseParen) ∷ [])) _ (within_same _ _ (append_assoc (cover_front (here o) c) (commaed_at m (names_at m ns)) (up m (just p.CloseParen) ∷ [])))
    (within_front (cover_front (here o) c) _ _ (filled_cover (here o) c) (covers_before _ _ (up m (just p.CloseParen) ∷ []) (commaed_listed m (names_at m ns))))) (shows_sign m p.CloseParen t e)

cover_other_grows : (l : ℕ) (o : Outer) (c : Cover) (ns : List Name) (t : Token) → here o + 1 ≤ l → Grows l (inside o (cover_names (here o) c ns)) t (on_cover_other o c ns t)
cover_other_grows l o c ns t v =
    grows_cond l _ t (is_close_paren t.kind) (to o (at.Covered c ns false)) (cond (may_be_values c ns) (begin (uncover o c ns) t) (refuse_at spot.Parameter))
    (λ h. cover_close l o c ns t v (close_paren_is t.kind h))
    (λ h. grows_cond l _ t (may_be_values c ns) (begin (uncover o c ns) t) (refuse_at spot.Parameter) (λ k. begin_grows l _ (uncover o c ns) t (uncover_opens l o c ns t k)) (λ k. tt))

cover_kind_grows : (l : ℕ) (o : Outer) (c : Cover) (ns : List Name) (t : Token) (k : TokenKind) → here o + 1 ≤ l → t.kind ≡ k → Grows l (inside o (cover_names (here o) c ns)) t (on_cover_kind o c ns t k)
cover_kind_grows l o c ns t (tok.Name u) v e =
    adds_same l _ o.items o.frames (cover_names (here o) c ns) _ (here o + 1) (name (named t.place u)) t (at_open l _) (filled_names_open (here o) c _)
    (append_assoc (cover_front (here o) c) (commaed_at (here o + 1) (names_at (here o + 1) ns)) (up (here o + 1) (name (named t.place u)) ∷ [])) (shows_at (here o + 1) t (tok.Name u) e refl)
cover_kind_grows l o c ns t _ v e = cover_other_grows l o c ns t v

pub cover_open_grows : (l : ℕ) (o : Outer) (c : Cover) (ns : List Name) (t : Token) → here o + 1 ≤ l → Grows l (inside o (cover_names (here o) c ns)) t (on_cover_open o c ns t)
cover_open_grows l o c ns t v = cover_kind_grows l o c ns t t.kind v refl

after_name_grows : (l : ℕ) (o : Outer) (n : Name) (t : Token) → here o ≤ l → Grows l (inside o (up (here o) (name n) ∷ [])) t (after_name false o n t)
after_name_grows l o n t v =
    grows_cond l _ t (is_async n.units) (after_async false o n t) (after_operand false o (expr.Name n) 0 t)
    (λ h. grows_same l _ _ t (after_async false o n t) (ap (λ (f : Form). inside o (up (here o) f ∷ [])) (name_is_async n h)) (async_grows l o n t v))
    (λ h. grows_same l _ _ t (after_operand false o (expr.Name n) 0 t) (ap (inside o) (sym (expr_name (here o) n))) (operand_grows l o (expr.Name n) 0 t v))

covered_push : (m : ℕ) (ns : List Name) (n : Name) → Covers (commaed_at m (names_at m ns) ++ name_at m n) (covered_names m (ns ++ n ∷ []) (has_none ns))
covered_push m [] n = covers_same _ _ refl
covered_push m (x ∷ ns) n = covers_trans _ (listed_at m (names_at m (x ∷ ns) ++ name_at m n ∷ [])) _ (last_listed m (names_at m (x ∷ ns)) (name_at m n)) (covers_same _ _ (ap (listed_at m) (names_push m (x ∷ ns) n)))

abbrev cover_name_forms : ℕ → Cover → List Name → Name → List Form
cover_name_forms n c ns x = cover_front n c ++ (commaed_at (n + 1) (names_at (n + 1) ns) ++ up (n + 1) (name x) ∷ [])

uncovered_name : (o : Outer) (c : Cover) (ns : List Name) (n : Name) → may_be_values c ns ≡ true → Covers (inside o (cover_name_forms (here o) c ns n)) (inside (uncover o c ns) (up (here (uncover o c ns)) (name n) ∷ []))
uncovered_name o c ns n h =
    covers_trans _ (inside o (purpose_front (here o) (uncovered c ns) ++ up (here o + 1) (name n) ∷ [])) _
    (inside_covers o _ _
    (within_trans _ (cover_names (here o) c ns ++ up (here o + 1) (name n) ∷ []) _ (within_same _ _ (sym (append_assoc (cover_front (here o) c) (commaed_at (here o + 1) (names_at (here o + 1) ns)) (up (here o + 1) (name n) ∷ []))))
    (within_append _ _ (up (here o + 1) (name n) ∷ []) (filled_names_open (here o) c _) (filled_uncovered (here o) c ns) (uncovered_within (here o) c ns h))))
    (covers_same _ _
    (ap (λ (b : Bool). whole_items o.items ++ spell o.frames (lined b (purpose_front (here o) (uncovered c ns)) (up (here o + 1) (name n) ∷ []))) (sym (uncovered_line c ns))
    ∙ ap (λ (k : ℕ). whole_items o.items ++ spell o.frames (lined (is_line (frame.Purpose (uncovered c ns))) (purpose_front (here o) (uncovered c ns)) (up k (name n) ∷ []))) (sym (uncovered_level (here o) c ns))))

cover_comma : (l : ℕ) (o : Outer) (c : Cover) (ns : List Name) (n : Name) (t : Token) → t.kind ≡ tok.Punctuator p.Comma → Grows l (inside o (cover_name_forms (here o) c ns n)) t (to o (at.CoverOpen c (ns ++ n ∷ [])))
cover_comma l o c ns n t e =
    let m : ℕ = here o + 1 in
    adds_same l _ o.items o.frames (cover_name_forms (here o) c ns n) (cover_names (here o) c (ns ++ n ∷ [])) m (just p.Comma) t (at_open l _) (filled_names_open (here o) c _)
    (simp append_assoc (ap (λ (z : List Form). cover_front (here o) c ++ z) (sym (commaed_push m (names_at m ns) (name_at m n)) ∙ ap (commaed_at m) (names_push m ns n)))) (shows_sign m p.Comma t e)

cover_name_close : (l : ℕ) (o : Outer) (c : Cover) (ns : List Name) (n : Name) (t : Token) → here o + 1 ≤ l → t.kind ≡ tok.Punctuator p.CloseParen → Grows l (inside o (cover_name_forms (here o) c ns n)) t (to o (at.Covered c (ns ++ n ∷ []) (has_none ns)))
cover_name_close l o c ns n t v e =
    let m : ℕ = here o + 1 in
    adds_in l _ o.items o.frames (cover_name_forms (here o) c ns n) (cover_front (here o) c ++ (covered_names m (ns ++ n ∷ []) (has_none ns) ++ up m (just p.CloseParen) ∷ [])) m (just p.CloseParen) t (at_close l m (here o) (omega arith) v) (filled_names_open (here o) c _)
    (within_trans _ (cover_front (here o) c ++ ((commaed_at m (names_at m ns) ++ up m (name n) ∷ []) ++ up m (just p.CloseParen) ∷ [])) _ (within_same _ _ (append_assoc (cover_front (here o) c) (commaed_at m (names_at m ns) ++ up m (name n) ∷ []) (up m (just p.CloseParen) ∷ [])))
    (within_front (cover_front (here o) c) _ _ (filled_cover (here o) c) (covers_before _ _ (up m (just p.CloseParen) ∷ []) (covered_push m ns n)))) (shows_sign m p.CloseParen t e)

pub cover_name_grows : (l : ℕ) (o : Outer) (c : Cover) (ns : List Name) (n : Name) (t : Token) → here o + 1 ≤ l → Grows l (inside o (cover_name_forms (here o) c ns n)) t (on_cover_name false o c ns n t)
cover_name_grows l o c ns n t v =
    let values : Step = cond (may_be_values c ns) (after_name false (uncover o c ns) n t) (refuse_at spot.Parameter) in
    grows_cond l _ t (is_comma t.kind) (to o (at.CoverOpen c (ns ++ n ∷ []))) (cond (is_close_paren t.kind) (to o (at.Covered c (ns ++ n ∷ []) (has_none ns))) values)
    (λ h. cover_comma l o c ns n t (comma_is t.kind h))
    (λ h. grows_cond l _ t (is_close_paren t.kind) (to o (at.Covered c (ns ++ n ∷ []) (has_none ns))) values
    (λ k. cover_name_close l o c ns n t v (close_paren_is t.kind k))
    (λ k. grows_cond l _ t (may_be_values c ns) (after_name false (uncover o c ns) n t) (refuse_at spot.Parameter)
    (λ m. grows_from l _ _ t (after_name false (uncover o c ns) n t) (uncovered_name o c ns n m) (after_name_grows l (uncover o c ns) n t (subst (λ (j : ℕ). j ≤ l) (sym (uncovered_level (here o) c ns)) v))) (λ m. tt)))

-- ---- arrows

arrow_shows : (n : ℕ) (t : Token) → (is_arrow t.kind && not t.after_line_end) ≡ true → Shows n arrow_sign t
arrow_shows n t h =
    let both : (is_arrow t.kind ≡ true) × (not t.after_line_end ≡ true) = and_parts (is_arrow t.kind) (not t.after_line_end) h in
    shows_line_sign n p.Arrow t (arrow_is t.kind both.0) (not-true t.after_line_end both.1)

abbrev covered_at : ℕ → Cover → List Name → Bool → List Form
covered_at n c ns b = cover_front n c ++ (covered_names (n + 1) ns b ++ up (n + 1) (just p.CloseParen) ∷ [])

group_grows : (l : ℕ) (o : Outer) (ns : List Name) (t : Token) → here o ≤ l → Grows l (inside o (covered_at (here o) covers.Plain ns true)) t (group_of false o t (only_name ns))
group_grows l o [] t v = tt
group_grows l o (n ∷ []) t v =
    grows_same l _ _ t (after_operand false o (expr.Group (expr.Name n)) 0 t) (ap (inside o) (sym (expr_group (here o) (expr.Name n) ∙ ap (bracketed_at (here o + 1)) (expr_name (here o + 1) n)))) (operand_grows l o (expr.Group (expr.Name n)) 0 t v)
group_grows l o (n ∷ m ∷ ns) t v = tt

covered_value_grows : (l : ℕ) (o : Outer) (c : Cover) (ns : List Name) (b : Bool) (t : Token) → here o ≤ l → Grows l (inside o (covered_at (here o) c ns b)) t (covered_value false o c ns b t)
covered_value_grows l o (covers.Async m) ns b t v = grows_from l _ _ t (after_operand false o (expr.Call (expr.Name m) (as_values ns)) 1 t) (inside_covers o _ _ (async_arguments (here o) m ns b)) (operand_grows l o (expr.Call (expr.Name m) (as_values ns)) 1 t v)
covered_value_grows l o covers.Plain ns true t v = group_grows l o ns t v
covered_value_grows l o covers.Plain ns false t v = tt

pub covered_grows : (l : ℕ) (o : Outer) (c : Cover) (ns : List Name) (b : Bool) (t : Token) → here o ≤ l → Grows l (inside o (covered_at (here o) c ns b)) t (on_covered false o c ns b t)
covered_grows l o c ns b t v =
    grows_cond l _ t (is_arrow t.kind && not t.after_line_end) (to o (at.ArrowBody (is_async_cover c) ns)) (covered_value false o c ns b t)
    (λ h. adds_in l _ o.items o.frames (covered_at (here o) c ns b) (perhaps_at (here o) (is_async_cover c) (arrow_at (here o) ns) ++ up (here o) arrow_sign ∷ []) (here o) arrow_sign t (at_open l _) (filled_names_open (here o) c _)
    (within_append _ _ (up (here o) arrow_sign ∷ []) (filled_names_open (here o) c _) (filled_names (here o) (is_async_cover c) ns) (cover_parameters (here o) c ns b)) (arrow_shows (here o) t h))
    (λ h. covered_value_grows l o c ns b t v)

pub arrow_grows : (l : ℕ) (o : Outer) (a : Bool) (ns : List Name) (t : Token) → Grows l (inside o (perhaps_at (here o) a (arrow_at (here o) ns))) t (on_arrow o a ns t)
arrow_grows l o a ns t =
    grows_cond l _ t (is_arrow t.kind && not t.after_line_end) (to o (at.ArrowBody a ns)) refuse
    (λ h. adds_same l _ o.items o.frames (perhaps_at (here o) a (arrow_at (here o) ns)) (perhaps_at (here o) a (arrow_at (here o) ns) ++ up (here o) arrow_sign ∷ []) (here o) arrow_sign t (at_open l _) (filled_names (here o) a ns) refl (arrow_shows (here o) t h)) (λ h. tt)

-- the arrow is counted as the body wants it: behind one before a block
pub arrow_block_grows : (l : ℕ) (o : Outer) (a : Bool) (ns : List Name) (t : Token) → is_open_brace t.kind ≡ true → Grows l (inside o (perhaps_at (here o) a (arrow_at (here o) ns) ++ up (here o) arrow_sign ∷ [])) t (open_block o 1 (block.Arrow a ns))
arrow_block_grows l o a ns t h =
    adds_same l _ o.items o.frames (perhaps_at (here o) a (arrow_at (here o) ns) ++ up (here o) arrow_sign ∷ []) _ (here o + 1) (just p.OpenBrace) t (at_open l _) (filled_before _ _ (filled_names (here o) a ns)) (simp (append_assoc, append-nil))
    (shows_sign (here o + 1) p.OpenBrace t (open_brace_is t.kind h))

-- .. and before a value
pub arrow_value_grows : (l : ℕ) (o : Outer) (a : Bool) (ns : List Name) (t : Token) → Grows l (inside o (tail_front (here o) (tail.Arrow a ns))) t (begin (push o 1 (frame.Tail (tail.Arrow a ns))) t)
arrow_value_grows l o a ns t =
    let inner : Outer = push o 1 (frame.Tail (tail.Arrow a ns)) in
    begin_grows l _ inner t (opens_frame l o.items o.frames (tail_front (here o) (tail.Arrow a ns)) (opened (plus (constructs o) 1) (frame.Tail (tail.Arrow a ns))) t (filled_before _ _ (filled_names (here o) a ns)) refl refl)

-- ---- `new`, members, arguments and items

pub new_grows : (l : ℕ) (o : Outer) (t : Token) (k : TokenKind) → t.kind ≡ k → Grows l (inside o (up (here o) (reserved r.New) ∷ [])) t (on_new o t.place k)
new_grows l o t (tok.Name u) e = adds_same l _ o.items o.frames (up (here o) (reserved r.New) ∷ []) _ (here o) (name (named t.place u)) t (at_open l _) (filled_cons _ _) refl (shows_at (here o) t (tok.Name u) e refl)
new_grows l o t _ e = tt

pub new_open_grows : (l : ℕ) (o : Outer) (n : Name) (t : Token) → Grows l (inside o (up (here o) (reserved r.New) ∷ up (here o) (name n) ∷ [])) t (on_new_open o n t.kind)
new_open_grows l o n t =
    grows_cond l _ t (is_open_paren t.kind) (to o (at.NextArgument (callee.New n) [])) refuse
    (λ h. adds_same l _ o.items o.frames (up (here o) (reserved r.New) ∷ up (here o) (name n) ∷ []) _ (here o + 1) (just p.OpenParen) t (at_open l _) (filled_cons _ _) refl (shows_sign (here o + 1) p.OpenParen t (open_paren_is t.kind h))) (λ h. tt)

member_of_grows : (l : ℕ) (o : Outer) (x : Expr) (n : ℕ) (t : Token) (m : Option Name) → NameShows t m → Grows l (inside o (expr_at (here o) x ++ up (access_at (here o) x) (just p.Dot) ∷ [])) t (member_of o x n m)
member_of_grows l o x n t (Some m) h =
    adds_same l _ o.items o.frames (expr_at (here o) x ++ up (access_at (here o) x) (just p.Dot) ∷ []) (expr_at (here o) (expr.Member x m)) (access_at (here o) x) (any_name m) t (at_chain l (here o) x (expr.Member x m) (accesses_member x m))
    (filled_behind (expr_at (here o) x) _ (filled_cons _ _)) (append_assoc (expr_at (here o) x) (up (access_at (here o) x) (just p.Dot) ∷ []) (up (access_at (here o) x) (any_name m) ∷ []) ∙ sym (expr_member (here o) x m))
    (shows (access_at (here o) x) (any_name m) t ((refl, tt), ((refl, tt), tt)) h)
member_of_grows l o x n t None h = tt

pub member_grows : (l : ℕ) (o : Outer) (x : Expr) (n : ℕ) (t : Token) → Grows l (inside o (expr_at (here o) x ++ up (access_at (here o) x) (just p.Dot) ∷ [])) t (on_member o x n t)
member_grows l o x n t = member_of_grows l o x n t (any_named t.place t.kind) (name_shows t t.kind refl)

filled_arguments : (n : ℕ) (c : Callee) (xs : List Expr) → Filled (arguments_front n c xs)
filled_arguments n c xs = filled_behind (callee_at n c) _ (filled_cons _ _)

pub argument_grows : (l : ℕ) (o : Outer) (c : Callee) (xs : List Expr) (t : Token) → callee_level (here o) c ≤ l → Grows l (inside o (arguments_front (here o) c xs)) t (on_argument o c xs t)
argument_grows l o c xs t v =
    let inner : Outer = push o (plus (callee_accesses c) 1) (frame.Purpose (purpose.Argument c xs)) in
    let m : ℕ = callee_level (here o) c in
    grows_cond l _ t (is_close_paren t.kind) (call o c xs) (begin inner t)
    (λ h. call_grows l o c xs (arguments_front (here o) c xs) t v (filled_arguments (here o) c xs) (close_none m (callee_at (here o) c) p.OpenParen p.CloseParen (map (expr_at m) xs)) (shows_sign m p.CloseParen t (close_paren_is t.kind h)))
    (λ h. begin_grows l _ inner t (opens_frame l o.items o.frames (arguments_front (here o) c xs) (opened (plus (constructs o) (plus (callee_accesses c) 1)) (frame.Purpose (purpose.Argument c xs))) t (filled_arguments (here o) c xs) refl refl))

pub element_grows : (l : ℕ) (o : Outer) (xs : List Expr) (t : Token) → here o + 1 ≤ l → Grows l (inside o (up (here o + 1) (just p.OpenBracket) ∷ commaed_at (here o + 1) (map (expr_at (here o + 1)) xs))) t (on_element o xs t)
element_grows l o xs t v =
    let inner : Outer = push o 1 (frame.Purpose (purpose.Element xs)) in
    let m : ℕ = here o + 1 in
    grows_cond l _ t (is_close_bracket t.kind) (operand o (expr.Array xs)) (begin inner t)
    (λ h. adds_in l _ o.items o.frames (up m (just p.OpenBracket) ∷ commaed_at m (map (expr_at m) xs)) (expr_at (here o) (expr.Array xs)) m (just p.CloseBracket) t (at_leave l m (here o) (expr.Array xs) (plain_array xs) (omega arith) v) (filled_cons _ _)
    (within_trans _ _ _ (close_none m [] p.OpenBracket p.CloseBracket (map (expr_at m) xs)) (within_same _ _ (sym (expr_array (here o) xs)))) (shows_sign m p.CloseBracket t (close_bracket_is t.kind h)))
    (λ h. begin_grows l _ inner t (opens_frame l o.items o.frames (up m (just p.OpenBracket) ∷ commaed_at m (map (expr_at m) xs)) (opened (plus (constructs o) 1) (frame.Purpose (purpose.Element xs))) t (filled_cons _ _) refl refl))
