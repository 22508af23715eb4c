-- A token in heads of statements, behind statements that are perhaps not whole, and in declarations, `try` and `export`.
use Rattle.std.proofs.Common.{◌≡◌, ℕ, Bool, true, false, cond, List, [], ◌∷◌, ◌++◌, map, Option, Some, None, Ok, Err, refl, sym, ◌∙◌, ap, append_assoc}
use Rattle.std.specs.Prelude.{◌&&◌, ◌||◌}
use Rattle.std.proofs.lemmas.Bool.{false≢true, and_parts, or_parts}
use Rattle.std.proofs.lemmas.List.{append-nil}
use Rattle.js_lex.specs.declared.token.Punctuator.TheVariants as p
use Rattle.js_lex.specs.declared.token.Reserved.TheVariants as r
use Rattle.js_lex.specs.declared.token.TokenKind.{TokenKind}
use Rattle.js_lex.specs.declared.token.TokenKind.TheVariants as tok
use Rattle.js_lex.specs.declared.token.Token.{Token}
use Rattle.js_tree.specs.declared.tree.ArrowBody.TheOpen.{Stmt-F}
use Rattle.js_tree.specs.declared.tree.Catch.{Catch}
use Rattle.js_tree.specs.declared.tree.DeclareKind.{DeclareKind}
use Rattle.js_tree.specs.declared.tree.DeclareKind.TheVariants as declare
use Rattle.js_tree.specs.declared.tree.Declaration.{Declaration, roll-Declaration}
use Rattle.js_tree.specs.declared.tree.Expr.{Expr}
use Rattle.js_tree.specs.declared.tree.ForBegin.{ForBegin}
use Rattle.js_tree.specs.declared.tree.Item.{Item}
use Rattle.js_tree.specs.declared.tree.Name.{Name}
use Rattle.js_tree.specs.declared.tree.Stmt.{Stmt, roll-Stmt, out-Stmt, roll-out-Stmt}
use Rattle.js_tree.specs.declared.tree.Stmt.TheVariants as stmt
use Rattle.js_words.specs.declared.word.Spot.TheVariants as spot
use Rattle.js_grammar.specs.Marks.{Form, just}
use Rattle.js_grammar.specs.Grammar.{StmtNode, name, reserved, reserved_at, of_word, is_empty}
use Rattle.js_parse_core.specs.declared.machine.At.TheVariants as at
use Rattle.js_parse_core.specs.declared.machine.Block.TheVariants as block
use Rattle.js_parse_core.specs.declared.machine.Body.TheVariants as body
use Rattle.js_parse_core.specs.declared.machine.Declared.{Declared}
use Rattle.js_parse_core.specs.declared.machine.Frame.TheVariants as frame
use Rattle.js_parse_core.specs.declared.machine.Open.{Open}
use Rattle.js_parse_core.specs.declared.machine.Opening.{Opening}
use Rattle.js_parse_core.specs.declared.machine.Opening.TheVariants as opening
use Rattle.js_parse_core.specs.declared.machine.Outer.{Outer}
use Rattle.js_parse_core.specs.declared.machine.Purpose.TheVariants as purpose
use Rattle.js_parse_core.specs.declared.machine.Refusal.{Refusal}
use Rattle.js_parse_core.specs.declared.machine.Refusal.TheVariants as refusal
use Rattle.js_parse_core.specs.Begin.{begin}
use Rattle.js_parse_core.specs.Outer.{Step, because, refuse, to, framed, opened, push, plus, constructs, wait, wait_body, open_block, complete, settle}
use Rattle.js_parse_core.specs.Statements.{on_statement, else_behind, statement_behind, resume, after_then, open_head, on_opening, for_start, on_for_kind, on_for_head, on_for_test, on_for_update, on_return, on_throw, on_jump, on_declared_name, with_declaration, declared_in, on_bare_name, without_value, is_first, on_name_declared, on_try, after_try, on_catch, on_catch_name, on_catch_close, on_catch_body, after_catch, on_finally, on_export_word, on_export_object, after_export}
use Rattle.js_parse_core.specs.Statements.{end as end_of}
use Rattle.js_parse_core.specs.Tokens.{is_open_paren, is_close_paren, is_open_brace, is_close_brace, is_semicolon, is_comma, is_equal, is_else, is_finally, is_default, is_of, is_end, may_end}
use Rattle.js_parse_core.specs.Tokens.{name as named}
use Rattle.js_parse_core.proofs.Covers.{Covers, covers_same, covers_trans}
use Rattle.js_parse_core.proofs.Bare.{expr_forms, stmt_forms, stmts_forms}
use Rattle.js_parse_core.proofs.BareStatements.{declaration_forms, catch_forms, option_catch_forms, declaration_bare, for_nothing, stmt_if, stmt_break, stmt_continue, stmt_return, full_if, full_break, full_continue, full_return, full_try}
use Rattle.js_parse_core.proofs.Spelled.{unread, commaed, declared_head, declared_front, opening_word, purpose_front, body_front, catch_front, tried_front, block_front, jump_layer, items_with, whole_items, ends_with_export, at_top, behind_export}
use Rattle.js_parse_core.proofs.SpelledLemmas.{filled_cons, filled_before, filled_declared, spell_none, export_end_read, items_covers, none_maybe}
use Rattle.js_parse_core.proofs.Grows.{Shows, shows_just, shows_sign, shows_word, shows_at, open_paren_is, close_paren_is, open_brace_is, semicolon_is, comma_is, equal_is, else_is, finally_is, default_is, of_is, Grows, adds_form, adds_to, adds_same, grows_cond, grows_none, grows_same, opens_frame, opens_line}
use Rattle.js_parse_core.proofs.SoundBegin.{begin_grows}
use Rattle.js_parse_core.proofs.SoundEnds.{Settles, end_grows, else_grows, complete_full, settle_full, between_covers}
use Rattle.js_parse_core.proofs.SoundValues.{inside, with_last, declared_forms, last_declared, declared_comma, declare_end_grows, declare_for_grows}
use Rattle.js_parse_core.proofs.SoundStatements.{statement_grows, try_forms}

-- ---- behind a statement that is whole

statement_behind_grows : (a : List Form) (t : Token) (x : Step) → Settles a x → is_end t.kind ≡ false → Grows a t (statement_behind x t)
statement_behind_grows a t (Ok n) c e = statement_grows a n.outer t (covers_trans a _ _ c (between_covers n.outer.items n.outer.frames)) (λ h. c) e
statement_behind_grows a t (Err k) c e = tt

resume_grows : (o : Outer) (s : Stmt) (t : Token) → is_empty s ≡ false → is_end t.kind ≡ false → Grows (inside o (stmt_forms s)) t (resume o s t)
resume_grows o s t f e =
    grows_cond _ t (is_else t.kind) (else_behind (complete o s)) (statement_behind (settle o s) t)
    (λ h. else_grows _ t (complete o s) (complete_full o s f) (else_is t.kind h))
    (λ h. statement_behind_grows _ t (settle o s) (settle_full o s f) e)

pub after_then_grows : (o : Outer) (test : Expr) (s : Stmt) (t : Token) → is_end t.kind ≡ false → Grows (inside o (reserved r.If ∷ just p.OpenParen ∷ (expr_forms test ++ just p.CloseParen ∷ stmt_forms s))) t (after_then o test s t)
after_then_grows o test s t e =
    grows_cond _ t (is_else t.kind) (wait_body o (body.Else test s)) (resume o (stmt.If test s None) t)
    (λ h. adds_same o.items o.frames _ (body_front (body.Else test s)) (reserved r.Else) t (filled_cons _ _) (simp append_assoc) (shows_word r.Else t (else_is t.kind h)))
    (λ h. grows_same _ _ t (resume o (stmt.If test s None) t) (ap (inside o) (sym (stmt_if test s))) (resume_grows o (stmt.If test s None) t (full_if test s None) e))

-- ---- heads

open_head_grows : (o : Outer) (x : Opening) (t : Token) → Shows (just p.OpenParen) t → Grows (inside o (reserved (opening_word x) ∷ [])) t (open_head o x)
open_head_grows o opening.If t h = adds_same o.items o.frames (reserved r.If ∷ []) _ (just p.OpenParen) t (filled_cons _ _) refl h
open_head_grows o opening.While t h = adds_same o.items o.frames (reserved r.While ∷ []) _ (just p.OpenParen) t (filled_cons _ _) refl h
open_head_grows o opening.For t h = adds_same o.items o.frames (reserved r.For ∷ []) _ (just p.OpenParen) t (filled_cons _ _) refl h

pub opening_grows : (o : Outer) (x : Opening) (t : Token) → Grows (inside o (reserved (opening_word x) ∷ [])) t (on_opening o x t.kind)
opening_grows o x t = grows_cond _ t (is_open_paren t.kind) (open_head o x) refuse (λ h. open_head_grows o x t (shows_sign p.OpenParen t (open_paren_is t.kind h))) (λ h. tt)

abbrev for_open : List Form
for_open = reserved r.For ∷ just p.OpenParen ∷ []

for_start_grows : (o : Outer) (t : Token) → Grows (inside o for_open) t (for_start o t)
for_start_grows o t = begin_grows _ (push o 1 (frame.Purpose purpose.ForStart)) t (opens_frame o.items o.frames for_open (opened (plus (constructs o) 1) (frame.Purpose purpose.ForStart)) t (filled_cons _ _) refl refl)

for_kind_grows : (o : Outer) (t : Token) (k : TokenKind) → t.kind ≡ k → Grows (inside o for_open) t (on_for_kind o t k)
for_kind_grows o t (tok.Reserved r.Let) e = adds_same o.items o.frames for_open _ (reserved r.Let) t (filled_cons _ _) refl (shows_word r.Let t e)
for_kind_grows o t (tok.Reserved r.Const) e = adds_same o.items o.frames for_open _ (reserved r.Const) t (filled_cons _ _) refl (shows_word r.Const t e)
for_kind_grows o t (tok.Punctuator p.Semicolon) e =
    adds_same o.items o.frames for_open _ (just p.Semicolon) t (filled_cons _ _) (ap (λ (z : List Form). reserved r.For ∷ just p.OpenParen ∷ (z ++ just p.Semicolon ∷ [])) (sym for_nothing)) (shows_sign p.Semicolon t e)
for_kind_grows o t _ e = for_start_grows o t

pub for_head_grows : (o : Outer) (t : Token) → Grows (inside o (reserved r.For ∷ just p.OpenParen ∷ [])) t (on_for_head o t)
for_head_grows o t = for_kind_grows o t t.kind refl

pub for_test_grows : (o : Outer) (b : ForBegin) (t : Token) → Grows (inside o (purpose_front (purpose.ForTest b))) t (on_for_test o b t)
for_test_grows o b t =
    let inner : Outer = push o 1 (frame.Purpose (purpose.ForTest b)) in
    grows_cond _ t (is_semicolon t.kind) (to o (at.ForUpdate b None)) (begin inner t)
    (λ h. adds_same o.items o.frames (purpose_front (purpose.ForTest b)) (purpose_front (purpose.ForUpdate b None)) (just p.Semicolon) t (filled_cons _ _) (simp append_assoc) (shows_sign p.Semicolon t (semicolon_is t.kind h)))
    (λ h. begin_grows _ inner t (opens_frame o.items o.frames (purpose_front (purpose.ForTest b)) (opened (plus (constructs o) 1) (frame.Purpose (purpose.ForTest b))) t (filled_cons _ _) refl refl))

pub for_update_grows : (o : Outer) (b : ForBegin) (test : Option Expr) (t : Token) → Grows (inside o (purpose_front (purpose.ForUpdate b test))) t (on_for_update o b test t)
for_update_grows o b test t =
    let inner : Outer = push o 1 (frame.Purpose (purpose.ForUpdate b test)) in
    grows_cond _ t (is_close_paren t.kind) (wait_body o (body.For b test None)) (begin inner t)
    (λ h. adds_same o.items o.frames (purpose_front (purpose.ForUpdate b test)) (body_front (body.For b test None)) (just p.CloseParen) t (filled_cons _ _) (simp append_assoc) (shows_sign p.CloseParen t (close_paren_is t.kind h)))
    (λ h. begin_grows _ inner t (opens_frame o.items o.frames (purpose_front (purpose.ForUpdate b test)) (opened (plus (constructs o) 1) (frame.Purpose (purpose.ForUpdate b test))) t (filled_cons _ _) refl refl))

-- ---- `return`, `throw`, `break` and `continue`

pub on_line : (t : Token) → (may_end t || is_semicolon t.kind) ≡ false → t.after_line_end ≡ false
on_line t h = (or_parts t.after_line_end (is_close_brace t.kind) (or_parts (is_end t.kind) (t.after_line_end || is_close_brace t.kind) (or_parts (may_end t) (is_semicolon t.kind) h).0).1).0

pub return_grows : (o : Outer) (q : ℕ) (t : Token) → Grows (inside o (reserved_at q r.Return ∷ [])) t (on_return false o q t)
return_grows o q t =
    let inner : Outer = push o 0 (frame.Purpose (purpose.Return q)) in
    grows_cond _ t (may_end t || is_semicolon t.kind) (end_of false o (stmt.Return q None) t (because None (Some spot.ExpressionBegin))) (begin inner t)
    (λ h. end_grows o (stmt.Return q None) (reserved_at q r.Return ∷ []) t (because None (Some spot.ExpressionBegin)) (full_return q None) (filled_cons _ _) (sym (stmt_return q)))
    (λ h. begin_grows _ inner t (opens_line o.items o.frames (opened (plus (constructs o) 0) (frame.Purpose (purpose.Return q))) t (filled_cons _ _) refl (on_line t h)))

pub throw_grows : (o : Outer) (t : Token) → Grows (inside o (reserved r.Throw ∷ [])) t (on_throw o t)
throw_grows o t =
    let inner : Outer = push o 0 (frame.Purpose purpose.Throw) in
    grows_cond _ t t.after_line_end (Err refusal.Plain) (begin inner t) (λ h. tt)
    (λ h. begin_grows _ inner t (opens_line o.items o.frames (opened (plus (constructs o) 0) (frame.Purpose purpose.Throw)) t (filled_cons _ _) refl h))

pub stmt_is : (s : Stmt) (y : StmtNode) → out-Stmt s ≡ y → s ≡ roll-Stmt y
stmt_is s y e = sym (roll-out-Stmt s) ∙ ap roll-Stmt e

jump_in : (o : Outer) (s : Stmt) (y : StmtNode) (t : Token) (k : Refusal) → out-Stmt s ≡ y → Grows (inside o (jump_layer y)) t (end_of false o s t k)
jump_in o s (Stmt-F.Break q) t k e =
    let is : s ≡ stmt.Break q = stmt_is s _ e ∙ stmt.rolls-Break q in
    end_grows o s (reserved_at q r.Break ∷ []) t k (ap is_empty is ∙ full_break q) (filled_cons _ _) (sym (ap stmt_forms is ∙ stmt_break q))
jump_in o s (Stmt-F.Continue q) t k e =
    let is : s ≡ stmt.Continue q = stmt_is s _ e ∙ stmt.rolls-Continue q in
    end_grows o s (reserved_at q r.Continue ∷ []) t k (ap is_empty is ∙ full_continue q) (filled_cons _ _) (sym (ap stmt_forms is ∙ stmt_continue q))
jump_in o s _ t k e = grows_none _ t (end_of false o s t k) (spell_none (whole_items o.items) o.frames [] unread)

pub jump_grows : (o : Outer) (s : Stmt) (t : Token) → Grows (inside o (jump_layer (out-Stmt s))) t (on_jump false o s t)
jump_grows o s t = jump_in o s (out-Stmt s) t (because None None) refl

-- ---- declarations

pub declared_name_grows : (o : Outer) (d : Declared) (t : Token) (k : TokenKind) → t.kind ≡ k → Grows (inside o (declared_front d)) t (on_declared_name o d t.place k)
declared_name_grows o d t (tok.Name u) e = adds_same o.items o.frames (declared_front d) _ (name (named t.place u)) t (filled_declared d) refl (shows_at t (tok.Name u) e refl)
declared_name_grows o d t _ e = tt

declared_in_grows : (o : Outer) (d : Declared) (t : Token) (b : Bool) → Grows (inside o (declared_forms b d)) t (declared_in false o d t b)
declared_in_grows o d t true = declare_for_grows o d t refuse tt
declared_in_grows o d t false = declare_end_grows o d t (because None None)

bare_name_grows : (o : Outer) (d : Declared) (n : Name) (t : Token) → Grows (inside o (declared_front d ++ name n ∷ [])) t (on_bare_name false o (with_declaration d n None) t)
bare_name_grows o d n t =
    let last : Declaration = roll-Declaration (record { name = n; value = None }) in
    grows_same _ _ t (on_bare_name false o (with_last d last) t) (ap (λ (z : List Form). inside o (declared_front d ++ z)) (sym (declaration_bare n)))
    (grows_cond _ t (is_comma t.kind) (to o (at.DeclaredName (with_last d last))) (declared_in false o (with_last d last) t d.in_for)
    (λ e. declared_comma o d last t (comma_is t.kind e))
    (λ e. grows_same _ _ t (declared_in false o (with_last d last) t d.in_for) (ap (inside o) (last_declared d last)) (declared_in_grows o (with_last d last) t d.in_for)))

without_value_grows : (o : Outer) (d : Declared) (n : Name) (t : Token) (k : DeclareKind) → Grows (inside o (declared_front d ++ name n ∷ [])) t (without_value false o d n t k)
without_value_grows o d n t declare.Let = bare_name_grows o d n t
without_value_grows o d n t declare.Const = tt

pub first_is : (ds : List Declaration) → is_first ds ≡ true → ds ≡ []
first_is [] h = refl
first_is (d ∷ ds) h = absurd (false≢true h)

-- `for (`, `let` or `const`, and no declaration yet
first_front : (d : Declared) → d.in_for ≡ true → is_first d.declarations ≡ true → declared_front d ≡ declared_head true d.kind
first_front d e f = ap (λ (b : Bool). declared_head b d.kind ++ commaed (map declaration_forms d.declarations)) e ∙ ap (λ (ds : List Declaration). declared_head true d.kind ++ commaed (map declaration_forms ds)) (first_is d.declarations f)

for_of_grows : (o : Outer) (d : Declared) (n : Name) (t : Token) → (d.in_for && (is_first d.declarations && is_of t.kind)) ≡ true → Grows (inside o (declared_front d ++ name n ∷ [])) t (wait o 1 (purpose.ForOf d.kind n))
for_of_grows o d n t h =
    let both : (d.in_for ≡ true) × ((is_first d.declarations && is_of t.kind) ≡ true) = and_parts d.in_for (is_first d.declarations && is_of t.kind) h in
    let rest : (is_first d.declarations ≡ true) × (is_of t.kind ≡ true) = and_parts (is_first d.declarations) (is_of t.kind) both.1 in
    let front_is : declared_front d ≡ declared_head true d.kind = first_front d both.0 rest.0 in
    adds_same o.items o.frames (declared_front d ++ name n ∷ []) (purpose_front (purpose.ForOf d.kind n)) of_word t (filled_before _ _ (filled_declared d)) (ap (λ (z : List Form). (z ++ name n ∷ []) ++ of_word ∷ []) front_is)
    (shows_just t _ (of_is t.kind rest.1) refl)

pub name_declared_grows : (o : Outer) (d : Declared) (n : Name) (t : Token) → Grows (inside o (declared_front d ++ name n ∷ [])) t (on_name_declared false o d n t)
name_declared_grows o d n t =
    grows_cond _ t (is_equal t.kind) (wait o (cond d.in_for 1 0) (purpose.Initial d n)) (cond (d.in_for && (is_first d.declarations && is_of t.kind)) (wait o 1 (purpose.ForOf d.kind n)) (without_value false o d n t d.kind))
    (λ h. adds_same o.items o.frames (declared_front d ++ name n ∷ []) (purpose_front (purpose.Initial d n)) (just p.Equal) t (filled_before _ _ (filled_declared d))
    (append_assoc (declared_front d) (name n ∷ []) (just p.Equal ∷ [])) (shows_sign p.Equal t (equal_is t.kind h)))
    (λ h. grows_cond _ t (d.in_for && (is_first d.declarations && is_of t.kind)) (wait o 1 (purpose.ForOf d.kind n)) (without_value false o d n t d.kind)
    (λ k. for_of_grows o d n t k) (λ k. without_value_grows o d n t d.kind))

-- ---- `try`

pub try_grows : (o : Outer) (t : Token) → Grows (inside o (reserved r.Try ∷ [])) t (on_try o t.kind)
try_grows o t = grows_cond _ t (is_open_brace t.kind) (open_block o 1 block.Try) refuse (λ h. adds_same o.items o.frames (reserved r.Try ∷ []) _ (just p.OpenBrace) t (filled_cons _ _) refl (shows_sign p.OpenBrace t (open_brace_is t.kind h))) (λ h. tt)

pub after_try_grows : (o : Outer) (ss : List Stmt) (t : Token) (k : TokenKind) → t.kind ≡ k → Grows (inside o (tried_front ss)) t (after_try o ss k)
after_try_grows o ss t (tok.Reserved r.Catch) e = adds_same o.items o.frames (tried_front ss) _ (reserved r.Catch) t (filled_cons _ _) refl (shows_word r.Catch t e)
after_try_grows o ss t (tok.Reserved r.Finally) e = adds_same o.items o.frames (tried_front ss) _ (reserved r.Finally) t (filled_cons _ _) refl (shows_word r.Finally t e)
after_try_grows o ss t _ e = tt

pub catch_grows : (o : Outer) (ss : List Stmt) (t : Token) (k : TokenKind) → t.kind ≡ k → Grows (inside o (tried_front ss ++ reserved r.Catch ∷ [])) t (on_catch o ss k)
catch_grows o ss t (tok.Punctuator p.OpenParen) e =
    adds_same o.items o.frames (tried_front ss ++ reserved r.Catch ∷ []) _ (just p.OpenParen) t (filled_cons _ _) (append_assoc (tried_front ss) (reserved r.Catch ∷ []) (just p.OpenParen ∷ [])) (shows_sign p.OpenParen t e)
catch_grows o ss t (tok.Punctuator p.OpenBrace) e =
    adds_same o.items o.frames (tried_front ss ++ reserved r.Catch ∷ []) _ (just p.OpenBrace) t (filled_cons _ _)
    (append_assoc (tried_front ss) (reserved r.Catch ∷ []) (just p.OpenBrace ∷ []) ∙ sym (append-nil (block_front (block.Catch ss None)))) (shows_sign p.OpenBrace t e)
catch_grows o ss t _ e = tt

pub catch_name_grows : (o : Outer) (ss : List Stmt) (t : Token) (k : TokenKind) → t.kind ≡ k → Grows (inside o (tried_front ss ++ reserved r.Catch ∷ just p.OpenParen ∷ [])) t (on_catch_name o ss t.place k)
catch_name_grows o ss t (tok.Name u) e =
    adds_same o.items o.frames (tried_front ss ++ reserved r.Catch ∷ just p.OpenParen ∷ []) _ (name (named t.place u)) t (filled_cons _ _) (append_assoc (tried_front ss) (reserved r.Catch ∷ just p.OpenParen ∷ []) (name (named t.place u) ∷ [])) (shows_at t (tok.Name u) e refl)
catch_name_grows o ss t _ e = tt

pub catch_close_grows : (o : Outer) (ss : List Stmt) (n : Name) (t : Token) → Grows (inside o (tried_front ss ++ reserved r.Catch ∷ just p.OpenParen ∷ name n ∷ [])) t (on_catch_close o ss n t.kind)
catch_close_grows o ss n t =
    grows_cond _ t (is_close_paren t.kind) (to o (at.CatchBody ss n)) refuse
    (λ h. adds_same o.items o.frames (tried_front ss ++ reserved r.Catch ∷ just p.OpenParen ∷ name n ∷ []) (tried_front ss ++ catch_front (Some n)) (just p.CloseParen) t (filled_cons _ _)
    (append_assoc (tried_front ss) (reserved r.Catch ∷ just p.OpenParen ∷ name n ∷ []) (just p.CloseParen ∷ [])) (shows_sign p.CloseParen t (close_paren_is t.kind h))) (λ h. tt)

pub catch_body_grows : (o : Outer) (ss : List Stmt) (n : Name) (t : Token) → Grows (inside o (tried_front ss ++ catch_front (Some n))) t (on_catch_body o ss n t.kind)
catch_body_grows o ss n t =
    grows_cond _ t (is_open_brace t.kind) (open_block o 1 (block.Catch ss (Some n))) refuse
    (λ h. adds_same o.items o.frames (tried_front ss ++ catch_front (Some n)) _ (just p.OpenBrace) t (filled_cons _ _)
    (append_assoc (tried_front ss) (catch_front (Some n)) (just p.OpenBrace ∷ []) ∙ sym (append-nil (block_front (block.Catch ss (Some n))))) (shows_sign p.OpenBrace t (open_brace_is t.kind h))) (λ h. tt)

pub catch_forms_end : (ss : List Stmt) (c : Catch) → tried_front ss ++ catch_forms c ≡ stmt_forms (stmt.Try ss (Some c) None)
catch_forms_end ss c = simp append_assoc (sym (try_forms ss (Some c) None ∙ ap (λ (z : List Form). reserved r.Try ∷ just p.OpenBrace ∷ (stmts_forms ss ++ just p.CloseBrace ∷ z)) (append-nil (catch_forms c))))

pub after_catch_grows : (o : Outer) (ss : List Stmt) (c : Catch) (t : Token) → is_end t.kind ≡ false → Grows (inside o (tried_front ss ++ catch_forms c)) t (after_catch o ss c t)
after_catch_grows o ss c t e =
    grows_cond _ t (is_finally t.kind) (to o (at.FinallyOpen ss (Some c))) (resume o (stmt.Try ss (Some c) None) t)
    (λ h. adds_same o.items o.frames (tried_front ss ++ catch_forms c) _ (reserved r.Finally) t (filled_cons _ _) (append_assoc (tried_front ss) (catch_forms c) (reserved r.Finally ∷ [])) (shows_word r.Finally t (finally_is t.kind h)))
    (λ h. grows_same _ _ t (resume o (stmt.Try ss (Some c) None) t) (ap (inside o) (catch_forms_end ss c)) (resume_grows o (stmt.Try ss (Some c) None) t (full_try ss (Some c) None) e))

pub finally_grows : (o : Outer) (ss : List Stmt) (c : Option Catch) (t : Token) → Grows (inside o (tried_front ss ++ (option_catch_forms c ++ reserved r.Finally ∷ []))) t (on_finally o ss c t.kind)
finally_grows o ss c t =
    grows_cond _ t (is_open_brace t.kind) (open_block o 1 (block.Finally ss c)) refuse
    (λ h. adds_same o.items o.frames (tried_front ss ++ (option_catch_forms c ++ reserved r.Finally ∷ [])) _ (just p.OpenBrace) t (filled_cons _ _) (simp (append_assoc, append-nil)) (shows_sign p.OpenBrace t (open_brace_is t.kind h))) (λ h. tt)

-- ---- `export`

export_word_in : (o : Outer) (fs : List Open) (t : Token) → Grows (at_top o.items fs (reserved r.Export ∷ [])) t (on_export_word (framed o fs) t.kind)
export_word_in o [] t =
    grows_cond _ t (is_default t.kind) (to (framed o []) at.ExportObject) refuse
    (λ h. adds_same o.items [] (reserved r.Export ∷ []) (reserved r.Export ∷ reserved r.Default ∷ []) (reserved r.Default) t (filled_cons _ _) refl (shows_word r.Default t (default_is t.kind h))) (λ h. tt)
export_word_in o (f ∷ fs) t = grows_none unread t (on_export_word (framed o (f ∷ fs)) t.kind) (covers_same _ _ refl)

pub export_word_grows : (o : Outer) (t : Token) → Grows (at_top o.items o.frames (reserved r.Export ∷ [])) t (on_export_word o t.kind)
export_word_grows o t = export_word_in o o.frames t

export_object_in : (o : Outer) (fs : List Open) (t : Token) → Grows (at_top o.items fs (reserved r.Export ∷ reserved r.Default ∷ [])) t (on_export_object (framed o fs) t.kind)
export_object_in o [] t =
    grows_cond _ t (is_open_brace t.kind) (to (push (framed o []) 0 frame.Export) (at.Key [])) refuse
    (λ h. adds_same o.items [] (reserved r.Export ∷ reserved r.Default ∷ []) _ (just p.OpenBrace) t (filled_cons _ _) refl (shows_sign p.OpenBrace t (open_brace_is t.kind h))) (λ h. tt)
export_object_in o (f ∷ fs) t = grows_none unread t (on_export_object (framed o (f ∷ fs)) t.kind) (covers_same _ _ refl)

pub export_object_grows : (o : Outer) (t : Token) → Grows (at_top o.items o.frames (reserved r.Export ∷ reserved r.Default ∷ [])) t (on_export_object o t.kind)
export_object_grows o t = export_object_in o o.frames t

pub export_items : (is : List Item) → Covers (items_with [] is) (whole_items is ++ [])
export_items is = covers_trans _ (whole_items is) _ (items_covers _ _ is (none_maybe _)) (covers_same _ _ (sym (append-nil (whole_items is))))

after_export_at : (o : Outer) (b : Bool) (t : Token) → ends_with_export o.items ≡ b → is_end t.kind ≡ false → Grows (cond b (items_with [] o.items) unread) t (after_export (framed o []) t)
after_export_at o true t h e =
    grows_cond _ t (is_semicolon t.kind) (to (framed o []) at.Statement) (on_statement (framed o []) t)
    (λ k. adds_to _ t _ _ (adds_form (items_with [] o.items) (just p.Semicolon) t (shows_sign p.Semicolon t (semicolon_is t.kind k))) (covers_same _ _ (export_end_read (just p.Semicolon ∷ []) o.items h)))
    (λ k. statement_grows _ (framed o []) t (export_items o.items) (λ m. absurd (false≢true (sym k ∙ m))) e)
after_export_at o false t h e = grows_none unread t (after_export (framed o []) t) (covers_same _ _ refl)

after_export_in : (o : Outer) (fs : List Open) (t : Token) → is_end t.kind ≡ false → Grows (behind_export o.items fs) t (after_export (framed o fs) t)
after_export_in o [] t e = after_export_at o (ends_with_export o.items) t refl e
after_export_in o (f ∷ fs) t e = grows_none unread t (after_export (framed o (f ∷ fs)) t) (covers_same _ _ refl)

pub after_export_grows : (o : Outer) (t : Token) → is_end t.kind ≡ false → Grows (behind_export o.items o.frames) t (after_export o t)
after_export_grows o t e = after_export_in o o.frames t e
