-- A token in heads of statements, behind statements that are perhaps not whole, and in declarations, `try` and `export`, with how many constructs are open.
use Rattle.std.proofs.Common.{◌≡◌, ℕ, ◌+◌, ◌≤◌, Bool, true, false, cond, List, [], ◌∷◌, ◌++◌, map, Option, Some, None, Ok, Err, refl, sym, ◌∙◌, ap, subst, append_assoc, le_trans, arith}
use Rattle.std.specs.Prelude.{◌&&◌, ◌||◌}
use Rattle.std.proofs.lemmas.Bool.{false≢true, and_parts}
use Rattle.std.proofs.lemmas.List.{append-nil}
use Rattle.js_lex.specs.declared.token.Punctuator.TheVariants as p
use Rattle.js_lex.specs.declared.token.Reserved.TheVariants as r
use Rattle.js_lex.specs.declared.token.TokenKind.{TokenKind}
use Rattle.js_lex.specs.declared.token.TokenKind.TheVariants as tok
use Rattle.js_lex.specs.declared.token.Token.{Token}
use Rattle.js_tree.specs.declared.tree.ArrowBody.TheOpen.{Stmt-F}
use Rattle.js_tree.specs.declared.tree.Catch.{Catch}
use Rattle.js_tree.specs.declared.tree.DeclareKind.{DeclareKind}
use Rattle.js_tree.specs.declared.tree.DeclareKind.TheVariants as declare
use Rattle.js_tree.specs.declared.tree.Declaration.{Declaration, roll-Declaration}
use Rattle.js_tree.specs.declared.tree.Expr.{Expr}
use Rattle.js_tree.specs.declared.tree.ForBegin.{ForBegin}
use Rattle.js_tree.specs.declared.tree.Item.{Item}
use Rattle.js_tree.specs.declared.tree.Name.{Name}
use Rattle.js_tree.specs.declared.tree.Stmt.{Stmt, out-Stmt}
use Rattle.js_tree.specs.declared.tree.Stmt.TheVariants as stmt
use Rattle.js_words.specs.declared.word.Spot.TheVariants as spot
use Rattle.js_grammar.specs.Marks.{Form, Matches, just, sign}
use Rattle.js_grammar.specs.Grammar.{StmtNode, name, reserved, reserved_at, of_word, is_empty}
use Rattle.js_parse_core.specs.declared.machine.At.TheVariants as at
use Rattle.js_parse_core.specs.declared.machine.Block.TheVariants as block
use Rattle.js_parse_core.specs.declared.machine.Body.TheVariants as body
use Rattle.js_parse_core.specs.declared.machine.Declared.{Declared}
use Rattle.js_parse_core.specs.declared.machine.Frame.TheVariants as frame
use Rattle.js_parse_core.specs.declared.machine.Open.{Open}
use Rattle.js_parse_core.specs.declared.machine.Opening.{Opening}
use Rattle.js_parse_core.specs.declared.machine.Opening.TheVariants as opening
use Rattle.js_parse_core.specs.declared.machine.Outer.{Outer}
use Rattle.js_parse_core.specs.declared.machine.Purpose.TheVariants as purpose
use Rattle.js_parse_core.specs.declared.machine.Refusal.{Refusal}
use Rattle.js_parse_core.specs.declared.machine.Refusal.TheVariants as refusal
use Rattle.js_parse_core.specs.Begin.{begin}
use Rattle.js_parse_core.specs.Outer.{Step, because, refuse, to, framed, opened, push, plus, constructs, wait, wait_body, open_block, complete, settle}
use Rattle.js_parse_core.specs.Statements.{on_statement, else_behind, statement_behind, resume, after_then, open_head, on_opening, for_start, on_for_kind, on_for_head, on_for_test, on_for_update, on_return, on_throw, on_jump, on_declared_name, with_declaration, declared_in, on_bare_name, without_value, is_first, on_name_declared, on_try, after_try, on_catch, on_catch_name, on_catch_close, on_catch_body, after_catch, on_finally, on_export_word, on_export_object, after_export}
use Rattle.js_parse_core.specs.Statements.{end as end_of}
use Rattle.js_parse_core.specs.Tokens.{is_open_paren, is_close_paren, is_open_brace, is_semicolon, is_comma, is_equal, is_else, is_finally, is_default, is_of, is_end, may_end}
use Rattle.js_parse_core.specs.Tokens.{name as named}
use Rattle.js_parse_core.proofs.BareStatements.{full_if, full_return, full_break, full_continue, full_try}
use Rattle.js_parse_core.proofs.Spelled.{unread, opening_word, ends_with_export}
use Rattle.js_parse_core.proofs.SpelledLemmas.{filled_cons, filled_before}
use Rattle.js_parse_core.proofs.Grows.{open_paren_is, close_paren_is, open_brace_is, semicolon_is, comma_is, equal_is, else_is, finally_is, default_is, of_is}
use Rattle.js_parse_core.proofs.CountedCovers.{Covers, covers_same, covers_trans}
use Rattle.js_parse_core.proofs.CountedForms.{up, stmt_at, stmts_at}
use Rattle.js_parse_core.proofs.CountedStatements.{declaration_at, body_at, catch_at, option_catch_at, is_block, declaration_bare, for_nothing, stmt_if, stmt_return, stmt_break, stmt_continue, other_if, other_return, other_break, other_continue, other_try}
use Rattle.js_parse_core.proofs.CountedSpelled.{commaed_at, declared_level, for_open, declared_head, declared_front, purpose_front, tested, body_front, catch_front, tried_front, block_front, jump_layer, at_top, behind_export, items_with, whole_items}
use Rattle.js_parse_core.proofs.CountedLemmas.{filled_declared, spell_none, items_covers, none_maybe, export_end_read}
use Rattle.js_parse_core.proofs.CountedGrows.{adds_known_in, Shows, shows_just, shows_sign, shows_word, shows_at, at_open, at_close, Grows, adds_form, adds_to, adds_same, grows_cond, grows_same, grows_none, opens_frame, opens_line}
use Rattle.js_parse_core.proofs.CountedFolds.{declared_rises}
use Rattle.js_parse_core.proofs.SoundHeads.{on_line, stmt_is, first_is}
use Rattle.js_parse_core.proofs.CountedBegin.{begin_grows}
use Rattle.js_parse_core.proofs.CountedEnds.{declared_known, Settles, placed_other, complete_full, settle_full, end_grows, else_adds, else_grows, between_covers}
use Rattle.js_parse_core.proofs.CountedValues.{inside, here, with_last, declared_forms, last_declared, declared_comma, declare_end_grows, declare_for_grows}
use Rattle.js_parse_core.proofs.CountedBlocks.{statement_grows, try_forms}

-- ---- behind a statement that is whole

statement_behind_grows : (l m : ℕ) (a : List Form) (t : Token) (x : Step) → m ≤ l → Settles m a x → is_end t.kind ≡ false → Grows l a t (statement_behind x t)
statement_behind_grows l m a t (Ok n) v c e = statement_grows l a n.outer t (le_trans c.1 v) (covers_trans a _ _ c.0 (between_covers n.outer.items n.outer.frames)) (λ h. c.0) e
statement_behind_grows l m a t (Err k) v c e = tt

resume_grows : (l : ℕ) (o : Outer) (s : Stmt) (t : Token) → here o ≤ l → is_empty s ≡ false → is_block s ≡ false → is_end t.kind ≡ false → Grows l (inside o (stmt_at (here o) s)) t (resume o s t)
resume_grows l o s t v f b e =
    grows_same l _ _ t (resume o s t) (ap (inside o) (sym (placed_other o.frames s b)))
    (grows_cond l _ t (is_else t.kind) (else_behind (complete o s)) (statement_behind (settle o s) t)
    (λ h. else_grows l (here o) _ t (complete o s) (complete_full o s f) (else_is t.kind h))
    (λ h. statement_behind_grows l (here o) _ t (settle o s) v (settle_full o s f) e))

pub after_then_grows : (l : ℕ) (o : Outer) (test : Expr) (s : Stmt) (t : Token) → here o ≤ l → is_end t.kind ≡ false → Grows l (inside o (up (here o) (reserved r.If) ∷ tested (here o) test (body_at (here o) s))) t (after_then o test s t)
after_then_grows l o test s t v e =
    grows_cond l _ t (is_else t.kind) (wait_body o (body.Else test s)) (resume o (stmt.If test s None) t)
    (λ h. else_adds l o.items o.frames test s t (else_is t.kind h))
    (λ h. grows_same l _ _ t (resume o (stmt.If test s None) t) (ap (inside o) (sym (stmt_if (here o) test s))) (resume_grows l o (stmt.If test s None) t v (full_if test s None) (other_if test s None) e))

-- ---- heads

open_head_grows : (l : ℕ) (o : Outer) (x : Opening) (t : Token) → Shows (here o + 1) (just p.OpenParen) t → Grows l (inside o (up (here o) (reserved (opening_word x)) ∷ [])) t (open_head o x)
open_head_grows l o opening.If t h = adds_same l _ o.items o.frames (up (here o) (reserved r.If) ∷ []) _ (here o + 1) (just p.OpenParen) t (at_open l _) (filled_cons _ _) refl h
open_head_grows l o opening.While t h = adds_same l _ o.items o.frames (up (here o) (reserved r.While) ∷ []) _ (here o + 1) (just p.OpenParen) t (at_open l _) (filled_cons _ _) refl h
open_head_grows l o opening.For t h = adds_same l _ o.items o.frames (up (here o) (reserved r.For) ∷ []) _ (here o + 1) (just p.OpenParen) t (at_open l _) (filled_cons _ _) refl h

pub opening_grows : (l : ℕ) (o : Outer) (x : Opening) (t : Token) → Grows l (inside o (up (here o) (reserved (opening_word x)) ∷ [])) t (on_opening o x t.kind)
opening_grows l o x t = grows_cond l _ t (is_open_paren t.kind) (open_head o x) refuse (λ h. open_head_grows l o x t (shows_sign (here o + 1) p.OpenParen t (open_paren_is t.kind h))) (λ h. tt)

abbrev for_front : Outer → List Form
for_front o = for_open (here o) []

for_start_grows : (l : ℕ) (o : Outer) (t : Token) → Grows l (inside o (for_front o)) t (for_start o t)
for_start_grows l o t = begin_grows l _ (push o 1 (frame.Purpose purpose.ForStart)) t (opens_frame l o.items o.frames (for_front o) (opened (plus (constructs o) 1) (frame.Purpose purpose.ForStart)) t (filled_cons _ _) refl refl)

for_kind_grows : (l : ℕ) (o : Outer) (t : Token) (k : TokenKind) → here o + 1 ≤ l → t.kind ≡ k → Grows l (inside o (for_front o)) t (on_for_kind o t k)
for_kind_grows l o t (tok.Reserved r.Let) v e = adds_same l _ o.items o.frames (for_front o) _ (here o + 1) (reserved r.Let) t (at_close l (here o + 1) (here o) (omega arith) v) (filled_cons _ _) refl (shows_word (here o + 1) r.Let t e)
for_kind_grows l o t (tok.Reserved r.Const) v e = adds_same l _ o.items o.frames (for_front o) _ (here o + 1) (reserved r.Const) t (at_close l (here o + 1) (here o) (omega arith) v) (filled_cons _ _) refl (shows_word (here o + 1) r.Const t e)
for_kind_grows l o t (tok.Punctuator p.Semicolon) v e =
    adds_same l _ o.items o.frames (for_front o) _ (here o + 1) (just p.Semicolon) t (at_open l _) (filled_cons _ _) (ap (λ (z : List Form). for_open (here o) (z ++ up (here o + 1) (just p.Semicolon) ∷ [])) (sym (for_nothing (here o + 1)))) (shows_sign (here o + 1) p.Semicolon t e)
for_kind_grows l o t _ v e = for_start_grows l o t

pub for_head_grows : (l : ℕ) (o : Outer) (t : Token) → here o + 1 ≤ l → Grows l (inside o (for_front o)) t (on_for_head o t)
for_head_grows l o t v = for_kind_grows l o t t.kind v refl

pub for_test_grows : (l : ℕ) (o : Outer) (b : ForBegin) (t : Token) → Grows l (inside o (purpose_front (here o) (purpose.ForTest b))) t (on_for_test o b t)
for_test_grows l o b t =
    let inner : Outer = push o 1 (frame.Purpose (purpose.ForTest b)) in
    grows_cond l _ t (is_semicolon t.kind) (to o (at.ForUpdate b None)) (begin inner t)
    (λ h. adds_same l _ o.items o.frames (purpose_front (here o) (purpose.ForTest b)) (purpose_front (here o) (purpose.ForUpdate b None)) (here o + 1) (just p.Semicolon) t (at_open l _) (filled_cons _ _) (simp append_assoc) (shows_sign (here o + 1) p.Semicolon t (semicolon_is t.kind h)))
    (λ h. begin_grows l _ inner t (opens_frame l o.items o.frames (purpose_front (here o) (purpose.ForTest b)) (opened (plus (constructs o) 1) (frame.Purpose (purpose.ForTest b))) t (filled_cons _ _) refl refl))

pub for_update_grows : (l : ℕ) (o : Outer) (b : ForBegin) (test : Option Expr) (t : Token) → Grows l (inside o (purpose_front (here o) (purpose.ForUpdate b test))) t (on_for_update o b test t)
for_update_grows l o b test t =
    let inner : Outer = push o 1 (frame.Purpose (purpose.ForUpdate b test)) in
    grows_cond l _ t (is_close_paren t.kind) (wait_body o (body.For b test None)) (begin inner t)
    (λ h. adds_same l _ o.items o.frames (purpose_front (here o) (purpose.ForUpdate b test)) (body_front (here o) (body.For b test None)) (here o + 1) (just p.CloseParen) t (at_open l _) (filled_cons _ _) (simp append_assoc) (shows_sign (here o + 1) p.CloseParen t (close_paren_is t.kind h)))
    (λ h. begin_grows l _ inner t (opens_frame l o.items o.frames (purpose_front (here o) (purpose.ForUpdate b test)) (opened (plus (constructs o) 1) (frame.Purpose (purpose.ForUpdate b test))) t (filled_cons _ _) refl refl))

-- ---- `return`, `throw`, `break` and `continue`

pub return_grows : (l : ℕ) (o : Outer) (q : ℕ) (t : Token) → here o ≤ l → Grows l (inside o (up (here o) (reserved_at q r.Return) ∷ [])) t (on_return false o q t)
return_grows l o q t v =
    let inner : Outer = push o 0 (frame.Purpose (purpose.Return q)) in
    grows_cond l _ t (may_end t || is_semicolon t.kind) (end_of false o (stmt.Return q None) t (because None (Some spot.ExpressionBegin))) (begin inner t)
    (λ h. end_grows l o (stmt.Return q None) (up (here o) (reserved_at q r.Return) ∷ []) t (because None (Some spot.ExpressionBegin)) v (full_return q None) (other_return q None) (filled_cons _ _) (sym (stmt_return (here o) q)))
    (λ h. begin_grows l _ inner t (opens_line l o.items o.frames (opened (plus (constructs o) 0) (frame.Purpose (purpose.Return q))) t (filled_cons _ _) refl (on_line t h)))

pub throw_grows : (l : ℕ) (o : Outer) (t : Token) → Grows l (inside o (up (here o) (reserved r.Throw) ∷ [])) t (on_throw o t)
throw_grows l o t =
    let inner : Outer = push o 0 (frame.Purpose purpose.Throw) in
    grows_cond l _ t t.after_line_end (Err refusal.Plain) (begin inner t) (λ h. tt)
    (λ h. begin_grows l _ inner t (opens_line l o.items o.frames (opened (plus (constructs o) 0) (frame.Purpose purpose.Throw)) t (filled_cons _ _) refl h))

jump_in : (l : ℕ) (o : Outer) (s : Stmt) (y : StmtNode) (t : Token) (k : Refusal) → here o ≤ l → out-Stmt s ≡ y → Grows l (inside o (jump_layer (here o) y)) t (end_of false o s t k)
jump_in l o s (Stmt-F.Break q) t k v e =
    let is : s ≡ stmt.Break q = stmt_is s _ e ∙ stmt.rolls-Break q in
    end_grows l o s (up (here o) (reserved_at q r.Break) ∷ []) t k v (ap is_empty is ∙ full_break q) (ap is_block is ∙ other_break q) (filled_cons _ _) (sym (ap (stmt_at (here o)) is ∙ stmt_break (here o) q))
jump_in l o s (Stmt-F.Continue q) t k v e =
    let is : s ≡ stmt.Continue q = stmt_is s _ e ∙ stmt.rolls-Continue q in
    end_grows l o s (up (here o) (reserved_at q r.Continue) ∷ []) t k v (ap is_empty is ∙ full_continue q) (ap is_block is ∙ other_continue q) (filled_cons _ _) (sym (ap (stmt_at (here o)) is ∙ stmt_continue (here o) q))
jump_in l o s _ t k v e = grows_none l _ t (end_of false o s t k) (spell_none (whole_items o.items) o.frames [] unread)

pub jump_grows : (l : ℕ) (o : Outer) (s : Stmt) (t : Token) → here o ≤ l → Grows l (inside o (jump_layer (here o) (out-Stmt s))) t (on_jump false o s t)
jump_grows l o s t v = jump_in l o s (out-Stmt s) t (because None None) v refl

-- ---- declarations

pub declared_name_grows : (l : ℕ) (o : Outer) (d : Declared) (t : Token) (k : TokenKind) → here o ≤ l → t.kind ≡ k → Grows l (inside o (declared_front (here o) d)) t (on_declared_name o d t.place k)
declared_name_grows l o d t (tok.Name u) v e =
    adds_known_in l _ o.items o.frames (declared_front (here o) d) _ (declared_level (here o) d.in_for) (name (named t.place u)) t (declared_rises (here o) d.in_for)
    (λ ss h. declared_known l o.items o.frames d [] v ss (subst (λ (z : List Form). Matches (inside o z) ss) (sym (append-nil (declared_front (here o) d))) h)) (filled_declared (here o) d) refl (shows_at (declared_level (here o) d.in_for) t (tok.Name u) e refl)
declared_name_grows l o d t _ v e = tt

declared_in_grows : (l : ℕ) (o : Outer) (d : Declared) (t : Token) (b : Bool) → here o ≤ l → Grows l (inside o (declared_forms (here o) b d)) t (declared_in false o d t b)
declared_in_grows l o d t true v = declare_for_grows l o d t refuse tt
declared_in_grows l o d t false v = declare_end_grows l o d t (because None None) v

abbrev name_declared_at : ℕ → Declared → Name → List Form
name_declared_at n d x = declared_front n d ++ up (declared_level n d.in_for) (name x) ∷ []

bare_name_grows : (l : ℕ) (o : Outer) (d : Declared) (n : Name) (t : Token) → here o ≤ l → Grows l (inside o (name_declared_at (here o) d n)) t (on_bare_name false o (with_declaration d n None) t)
bare_name_grows l o d n t v =
    let last : Declaration = roll-Declaration (record { name = n; value = None }) in
    grows_same l _ _ t (on_bare_name false o (with_last d last) t) (ap (λ (z : List Form). inside o (declared_front (here o) d ++ z)) (sym (declaration_bare (declared_level (here o) d.in_for) n)))
    (grows_cond l _ t (is_comma t.kind) (to o (at.DeclaredName (with_last d last))) (declared_in false o (with_last d last) t d.in_for)
    (λ e. declared_comma l o d last t (declared_known l o.items o.frames d (declaration_at (declared_level (here o) d.in_for) last) v) (comma_is t.kind e))
    (λ e. grows_same l _ _ t (declared_in false o (with_last d last) t d.in_for) (ap (inside o) (last_declared (here o) d last)) (declared_in_grows l o (with_last d last) t d.in_for v)))

without_value_grows : (l : ℕ) (o : Outer) (d : Declared) (n : Name) (t : Token) (k : DeclareKind) → here o ≤ l → Grows l (inside o (name_declared_at (here o) d n)) t (without_value false o d n t k)
without_value_grows l o d n t declare.Let v = bare_name_grows l o d n t v
without_value_grows l o d n t declare.Const v = tt

-- `for (`, `let` or `const`, no declaration yet, and a name
first_front : (n : ℕ) (d : Declared) (x : Name) → d.in_for ≡ true → is_first d.declarations ≡ true → name_declared_at n d x ≡ declared_head n true d.kind ++ up (n + 1) (name x) ∷ []
first_front n d x e f =
    ap (λ (b : Bool). (declared_head n b d.kind ++ commaed_at (declared_level n b) (map (declaration_at (declared_level n b)) d.declarations)) ++ up (declared_level n b) (name x) ∷ []) e
    ∙ ap (λ (ds : List Declaration). (declared_head n true d.kind ++ commaed_at (n + 1) (map (declaration_at (n + 1)) ds)) ++ up (n + 1) (name x) ∷ []) (first_is d.declarations f)

for_of_grows : (l : ℕ) (o : Outer) (d : Declared) (n : Name) (t : Token) → (d.in_for && (is_first d.declarations && is_of t.kind)) ≡ true → Grows l (inside o (name_declared_at (here o) d n)) t (wait o 1 (purpose.ForOf d.kind n))
for_of_grows l o d n t h =
    let both : (d.in_for ≡ true) × ((is_first d.declarations && is_of t.kind) ≡ true) = and_parts d.in_for (is_first d.declarations && is_of t.kind) h in
    let rest : (is_first d.declarations ≡ true) × (is_of t.kind ≡ true) = and_parts (is_first d.declarations) (is_of t.kind) both.1 in
    adds_same l _ o.items o.frames (name_declared_at (here o) d n) (purpose_front (here o) (purpose.ForOf d.kind n)) (here o + 1) of_word t (at_open l _) (filled_before _ _ (filled_declared (here o) d)) (ap (λ (z : List Form). z ++ up (here o + 1) of_word ∷ []) (first_front (here o) d n both.0 rest.0))
    (shows_just (here o + 1) t _ (of_is t.kind rest.1) refl)

pub name_declared_grows : (l : ℕ) (o : Outer) (d : Declared) (n : Name) (t : Token) → here o ≤ l → Grows l (inside o (name_declared_at (here o) d n)) t (on_name_declared false o d n t)
name_declared_grows l o d n t v =
    grows_cond l _ t (is_equal t.kind) (wait o (cond d.in_for 1 0) (purpose.Initial d n)) (cond (d.in_for && (is_first d.declarations && is_of t.kind)) (wait o 1 (purpose.ForOf d.kind n)) (without_value false o d n t d.kind))
    (λ h. adds_same l _ o.items o.frames (name_declared_at (here o) d n) (purpose_front (here o) (purpose.Initial d n)) (declared_level (here o) d.in_for) (just p.Equal) t (at_open l _) (filled_before _ _ (filled_declared (here o) d))
    (append_assoc (declared_front (here o) d) (up (declared_level (here o) d.in_for) (name n) ∷ []) (up (declared_level (here o) d.in_for) (just p.Equal) ∷ [])) (shows_sign (declared_level (here o) d.in_for) p.Equal t (equal_is t.kind h)))
    (λ h. grows_cond l _ t (d.in_for && (is_first d.declarations && is_of t.kind)) (wait o 1 (purpose.ForOf d.kind n)) (without_value false o d n t d.kind)
    (λ k. for_of_grows l o d n t k) (λ k. without_value_grows l o d n t d.kind v))

-- ---- `try`

pub try_grows : (l : ℕ) (o : Outer) (t : Token) → Grows l (inside o (up (here o) (reserved r.Try) ∷ [])) t (on_try o t.kind)
try_grows l o t =
    grows_cond l _ t (is_open_brace t.kind) (open_block o 1 block.Try) refuse
    (λ h. adds_same l _ o.items o.frames (up (here o) (reserved r.Try) ∷ []) _ (here o + 1) (just p.OpenBrace) t (at_open l _) (filled_cons _ _) refl (shows_sign (here o + 1) p.OpenBrace t (open_brace_is t.kind h))) (λ h. tt)

pub after_try_grows : (l : ℕ) (o : Outer) (ss : List Stmt) (t : Token) (k : TokenKind) → t.kind ≡ k → Grows l (inside o (tried_front (here o) ss)) t (after_try o ss k)
after_try_grows l o ss t (tok.Reserved r.Catch) e = adds_same l _ o.items o.frames (tried_front (here o) ss) _ (here o) (reserved r.Catch) t (at_open l _) (filled_cons _ _) refl (shows_word (here o) r.Catch t e)
after_try_grows l o ss t (tok.Reserved r.Finally) e = adds_same l _ o.items o.frames (tried_front (here o) ss) _ (here o) (reserved r.Finally) t (at_open l _) (filled_cons _ _) refl (shows_word (here o) r.Finally t e)
after_try_grows l o ss t _ e = tt

abbrev caught_at : ℕ → List Stmt → List Form → List Form
caught_at n ss fs = tried_front n ss ++ up n (reserved r.Catch) ∷ fs

pub catch_grows : (l : ℕ) (o : Outer) (ss : List Stmt) (t : Token) (k : TokenKind) → t.kind ≡ k → Grows l (inside o (caught_at (here o) ss [])) t (on_catch o ss k)
catch_grows l o ss t (tok.Punctuator p.OpenParen) e =
    adds_same l _ o.items o.frames (caught_at (here o) ss []) _ (here o + 1) (just p.OpenParen) t (at_open l _) (filled_cons _ _) (append_assoc (tried_front (here o) ss) (up (here o) (reserved r.Catch) ∷ []) (up (here o + 1) (just p.OpenParen) ∷ [])) (shows_sign (here o + 1) p.OpenParen t e)
catch_grows l o ss t (tok.Punctuator p.OpenBrace) e =
    adds_same l _ o.items o.frames (caught_at (here o) ss []) _ (here o + 1) (just p.OpenBrace) t (at_open l _) (filled_cons _ _)
    (append_assoc (tried_front (here o) ss) (up (here o) (reserved r.Catch) ∷ []) (up (here o + 1) (just p.OpenBrace) ∷ []) ∙ sym (append-nil (block_front (here o) false (block.Catch ss None)))) (shows_sign (here o + 1) p.OpenBrace t e)
catch_grows l o ss t _ e = tt

pub catch_name_grows : (l : ℕ) (o : Outer) (ss : List Stmt) (t : Token) (k : TokenKind) → t.kind ≡ k → Grows l (inside o (caught_at (here o) ss (up (here o + 1) (just p.OpenParen) ∷ []))) t (on_catch_name o ss t.place k)
catch_name_grows l o ss t (tok.Name u) e =
    adds_same l _ o.items o.frames (caught_at (here o) ss (up (here o + 1) (just p.OpenParen) ∷ [])) _ (here o + 1) (name (named t.place u)) t (at_open l _) (filled_cons _ _)
    (append_assoc (tried_front (here o) ss) (up (here o) (reserved r.Catch) ∷ up (here o + 1) (just p.OpenParen) ∷ []) (up (here o + 1) (name (named t.place u)) ∷ [])) (shows_at (here o + 1) t (tok.Name u) e refl)
catch_name_grows l o ss t _ e = tt

pub catch_close_grows : (l : ℕ) (o : Outer) (ss : List Stmt) (n : Name) (t : Token) → here o + 1 ≤ l → Grows l (inside o (caught_at (here o) ss (up (here o + 1) (just p.OpenParen) ∷ up (here o + 1) (name n) ∷ []))) t (on_catch_close o ss n t.kind)
catch_close_grows l o ss n t v =
    grows_cond l _ t (is_close_paren t.kind) (to o (at.CatchBody ss n)) refuse
    (λ h. adds_same l _ o.items o.frames (caught_at (here o) ss (up (here o + 1) (just p.OpenParen) ∷ up (here o + 1) (name n) ∷ [])) (tried_front (here o) ss ++ catch_front (here o) (Some n)) (here o + 1) (just p.CloseParen) t (at_close l (here o + 1) (here o) (omega arith) v) (filled_cons _ _)
    (append_assoc (tried_front (here o) ss) (up (here o) (reserved r.Catch) ∷ up (here o + 1) (just p.OpenParen) ∷ up (here o + 1) (name n) ∷ []) (up (here o + 1) (just p.CloseParen) ∷ [])) (shows_sign (here o + 1) p.CloseParen t (close_paren_is t.kind h))) (λ h. tt)

pub catch_body_grows : (l : ℕ) (o : Outer) (ss : List Stmt) (n : Name) (t : Token) → Grows l (inside o (tried_front (here o) ss ++ catch_front (here o) (Some n))) t (on_catch_body o ss n t.kind)
catch_body_grows l o ss n t =
    grows_cond l _ t (is_open_brace t.kind) (open_block o 1 (block.Catch ss (Some n))) refuse
    (λ h. adds_same l _ o.items o.frames (tried_front (here o) ss ++ catch_front (here o) (Some n)) _ (here o + 1) (just p.OpenBrace) t (at_open l _) (filled_cons _ _)
    (append_assoc (tried_front (here o) ss) (catch_front (here o) (Some n)) (up (here o + 1) (just p.OpenBrace) ∷ []) ∙ sym (append-nil (block_front (here o) false (block.Catch ss (Some n))))) (shows_sign (here o + 1) p.OpenBrace t (open_brace_is t.kind h))) (λ h. tt)

pub catch_forms_end : (n : ℕ) (ss : List Stmt) (c : Catch) → tried_front n ss ++ catch_at n c ≡ stmt_at n (stmt.Try ss (Some c) None)
catch_forms_end n ss c = simp append_assoc (sym (try_forms n ss (Some c) None ∙ ap (λ (z : List Form). up n (reserved r.Try) ∷ up (n + 1) (just p.OpenBrace) ∷ (stmts_at (n + 1) ss ++ up (n + 1) (just p.CloseBrace) ∷ z)) (append-nil (catch_at n c))))

pub after_catch_grows : (l : ℕ) (o : Outer) (ss : List Stmt) (c : Catch) (t : Token) → here o ≤ l → is_end t.kind ≡ false → Grows l (inside o (tried_front (here o) ss ++ catch_at (here o) c)) t (after_catch o ss c t)
after_catch_grows l o ss c t v e =
    grows_cond l _ t (is_finally t.kind) (to o (at.FinallyOpen ss (Some c))) (resume o (stmt.Try ss (Some c) None) t)
    (λ h. adds_same l _ o.items o.frames (tried_front (here o) ss ++ catch_at (here o) c) _ (here o) (reserved r.Finally) t (at_open l _) (filled_cons _ _) (append_assoc (tried_front (here o) ss) (catch_at (here o) c) (up (here o) (reserved r.Finally) ∷ [])) (shows_word (here o) r.Finally t (finally_is t.kind h)))
    (λ h. grows_same l _ _ t (resume o (stmt.Try ss (Some c) None) t) (ap (inside o) (catch_forms_end (here o) ss c)) (resume_grows l o (stmt.Try ss (Some c) None) t v (full_try ss (Some c) None) (other_try ss (Some c) None) e))

pub finally_grows : (l : ℕ) (o : Outer) (ss : List Stmt) (c : Option Catch) (t : Token) → Grows l (inside o (tried_front (here o) ss ++ (option_catch_at (here o) c ++ up (here o) (reserved r.Finally) ∷ []))) t (on_finally o ss c t.kind)
finally_grows l o ss c t =
    grows_cond l _ t (is_open_brace t.kind) (open_block o 1 (block.Finally ss c)) refuse
    (λ h. adds_same l _ o.items o.frames (tried_front (here o) ss ++ (option_catch_at (here o) c ++ up (here o) (reserved r.Finally) ∷ [])) _ (here o + 1) (just p.OpenBrace) t (at_open l _) (filled_cons _ _) (simp (append_assoc, append-nil)) (shows_sign (here o + 1) p.OpenBrace t (open_brace_is t.kind h))) (λ h. tt)

-- ---- `export`

export_word_in : (l : ℕ) (o : Outer) (fs : List Open) (t : Token) → Grows l (at_top o.items fs (up 0 (reserved r.Export) ∷ [])) t (on_export_word (framed o fs) t.kind)
export_word_in l o [] t =
    grows_cond l _ t (is_default t.kind) (to (framed o []) at.ExportObject) refuse
    (λ h. adds_same l _ o.items [] (up 0 (reserved r.Export) ∷ []) (up 0 (reserved r.Export) ∷ up 0 (reserved r.Default) ∷ []) 0 (reserved r.Default) t (at_open l 0) (filled_cons _ _) refl (shows_word 0 r.Default t (default_is t.kind h))) (λ h. tt)
export_word_in l o (f ∷ fs) t = grows_none l unread t (on_export_word (framed o (f ∷ fs)) t.kind) (covers_same _ _ refl)

pub export_word_grows : (l : ℕ) (o : Outer) (t : Token) → Grows l (at_top o.items o.frames (up 0 (reserved r.Export) ∷ [])) t (on_export_word o t.kind)
export_word_grows l o t = export_word_in l o o.frames t

export_object_in : (l : ℕ) (o : Outer) (fs : List Open) (t : Token) → Grows l (at_top o.items fs (up 0 (reserved r.Export) ∷ up 0 (reserved r.Default) ∷ [])) t (on_export_object (framed o fs) t.kind)
export_object_in l o [] t =
    grows_cond l _ t (is_open_brace t.kind) (to (push (framed o []) 0 frame.Export) (at.Key [])) refuse
    (λ h. adds_same l _ o.items [] (up 0 (reserved r.Export) ∷ up 0 (reserved r.Default) ∷ []) _ (0 + 1) (just p.OpenBrace) t (at_open l _) (filled_cons _ _) refl (shows_sign (0 + 1) p.OpenBrace t (open_brace_is t.kind h))) (λ h. tt)
export_object_in l o (f ∷ fs) t = grows_none l unread t (on_export_object (framed o (f ∷ fs)) t.kind) (covers_same _ _ refl)

pub export_object_grows : (l : ℕ) (o : Outer) (t : Token) → Grows l (at_top o.items o.frames (up 0 (reserved r.Export) ∷ up 0 (reserved r.Default) ∷ [])) t (on_export_object o t.kind)
export_object_grows l o t = export_object_in l o o.frames t

pub export_items : (is : List Item) → Covers (items_with [] is) (whole_items is ++ [])
export_items is = covers_trans _ (whole_items is) _ (items_covers _ _ is (none_maybe 0 (sign p.Semicolon))) (covers_same _ _ (sym (append-nil (whole_items is))))

after_export_at : (l : ℕ) (o : Outer) (b : Bool) (t : Token) → ends_with_export o.items ≡ b → is_end t.kind ≡ false → Grows l (cond b (items_with [] o.items) unread) t (after_export (framed o []) t)
after_export_at l o true t h e =
    grows_cond l _ t (is_semicolon t.kind) (to (framed o []) at.Statement) (on_statement (framed o []) t)
    (λ k. adds_to l _ _ t _ _ (adds_form l 0 (items_with [] o.items) 0 (just p.Semicolon) t (at_open l 0) (shows_sign 0 p.Semicolon t (semicolon_is t.kind k))) (covers_same _ _ (export_end_read (up 0 (just p.Semicolon) ∷ []) o.items h)))
    (λ k. statement_grows l _ (framed o []) t (omega arith) (export_items o.items) (λ m. absurd (false≢true (sym k ∙ m))) e)
after_export_at l o false t h e = grows_none l unread t (after_export (framed o []) t) (covers_same _ _ refl)

after_export_in : (l : ℕ) (o : Outer) (fs : List Open) (t : Token) → is_end t.kind ≡ false → Grows l (behind_export o.items fs) t (after_export (framed o fs) t)
after_export_in l o [] t e = after_export_at l o (ends_with_export o.items) t refl e
after_export_in l o (f ∷ fs) t e = grows_none l unread t (after_export (framed o (f ∷ fs)) t) (covers_same _ _ refl)

pub after_export_grows : (l : ℕ) (o : Outer) (t : Token) → is_end t.kind ≡ false → Grows l (behind_export o.items o.frames) t (after_export o t)
after_export_grows l o t e = after_export_in l o o.frames t e
