-- A token where a statement begins.
use Rattle.std.proofs.Common.{◌≡◌, ℕ, Bool, true, false, cond, List, [], ◌∷◌, ◌++◌, map, Option, Some, None, refl, sym, ◌∙◌, ap, append_assoc}
use Rattle.std.specs.Prelude.{◌&&◌, not, drop}
use Rattle.std.proofs.lemmas.Bool.{false≢true}
use Rattle.std.proofs.lemmas.List.{map-append}
use Rattle.js_lex.specs.declared.token.Punctuator.{Punctuator}
use Rattle.js_lex.specs.declared.token.Punctuator.TheVariants as p
use Rattle.js_lex.specs.declared.token.Reserved.{Reserved}
use Rattle.js_lex.specs.declared.token.Reserved.TheVariants as r
use Rattle.js_lex.specs.declared.token.TokenKind.{TokenKind}
use Rattle.js_lex.specs.declared.token.TokenKind.TheVariants as tok
use Rattle.js_lex.specs.declared.token.Token.{Token}
use Rattle.js_tree.specs.declared.tree.ArrowBody.TheOpen.{Stmt-F}
use Rattle.js_tree.specs.declared.tree.ArrowBody.TheVariants as arrow_body
use Rattle.js_tree.specs.declared.tree.Catch.{Catch, roll-Catch}
use Rattle.js_tree.specs.declared.tree.DeclareKind.TheVariants as declare
use Rattle.js_tree.specs.declared.tree.Expr.TheVariants as expr
use Rattle.js_tree.specs.declared.tree.Item.{Item}
use Rattle.js_tree.specs.declared.tree.Item.TheVariants as item
use Rattle.js_tree.specs.declared.tree.Key.{Key}
use Rattle.js_tree.specs.declared.tree.Name.{Name}
use Rattle.js_tree.specs.declared.tree.Property.{Property}
use Rattle.js_tree.specs.declared.tree.Property.TheVariants as property
use Rattle.js_tree.specs.declared.tree.Stmt.{Stmt, out-Stmt, out-roll-Stmt}
use Rattle.js_tree.specs.declared.tree.Stmt.TheVariants as stmt
use Rattle.js_words.specs.declared.word.Spot.TheVariants as spot
use Rattle.js_grammar.specs.Marks.{Form, just, sign, maybe, listed}
use Rattle.js_grammar.specs.Grammar.{key, reserved, reserved_at, perhaps_async}
use Rattle.js_parse_core.specs.declared.machine.At.{At}
use Rattle.js_parse_core.specs.declared.machine.At.TheVariants as at
use Rattle.js_parse_core.specs.declared.machine.Block.{Block}
use Rattle.js_parse_core.specs.declared.machine.Block.TheVariants as block
use Rattle.js_parse_core.specs.declared.machine.Frame.{Frame}
use Rattle.js_parse_core.specs.declared.machine.Frame.TheVariants as frame
use Rattle.js_parse_core.specs.declared.machine.Head.{Head}
use Rattle.js_parse_core.specs.declared.machine.Head.TheVariants as head
use Rattle.js_parse_core.specs.declared.machine.Open.{Open}
use Rattle.js_parse_core.specs.declared.machine.Outer.{Outer}
use Rattle.js_parse_core.specs.declared.machine.Purpose.TheVariants as purpose
use Rattle.js_parse_core.specs.Outer.{refuse_at, to, framed, opened, push, plus, constructs, first_frame, in_body, complete, complete_in}
use Rattle.js_parse_core.specs.Statements.{is_top, not_in_body, declares, expression_statement, begin_by_word, function, close_function, close, close_frame, begin_by_sign, on_statement_kind, on_statement}
use Rattle.js_parse_core.specs.Tokens.{is_semicolon, is_end}
use Rattle.js_parse_core.proofs.Covers.{Covers, covers_same, covers_trans}
use Rattle.js_parse_core.proofs.Bare.{expr_forms, property_forms, stmt_forms, stmts_forms, braced, bracketed, arrow_names, function_forms, expr_function, expr_arrow, arrow_statements, property_method}
use Rattle.js_parse_core.proofs.BareStatements.{catch_forms, option_catch_forms, option_finally_forms, catch_bare, catch_named, stmt_function, stmt_block, stmt_try, stmt_empty, full_function, full_block, full_try, empty_empty}
use Rattle.js_parse_core.proofs.Spelled.{ended, names_forms, object_front, head_front, catch_front, tried_front, block_front, spell, waits_in, waits, jump_layer, end_before, items_with, whole_items, between}
use Rattle.js_parse_core.proofs.SpelledLemmas.{Filled, filled_before, filled_block, enters_waits, enters_behind, ended_push}
use Rattle.js_parse_core.proofs.Grows.{Shows, shows_sign, shows_word, shows_at, Adds, Grows, adds_form, adds_to, adds_from, adds_same, grows_cond, grows_from, opens_enters}
use Rattle.js_parse_core.proofs.SoundBegin.{begin_grows}
use Rattle.js_parse_core.proofs.SoundValues.{inside}
use Rattle.js_parse_core.proofs.SoundEnds.{grows_leads, complete_leads, last_grows}
use Rattle.js_parse_core.proofs.SoundObjects.{async_append}

-- ---- a block ends

-- brackets, braces and what stands between them, behind h
function_block : (h : List Form) (ns : List Name) (ss : List Stmt) → ((h ++ (bracketed (listed (names_forms ns)) ++ just p.OpenBrace ∷ [])) ++ stmts_forms ss) ++ just p.CloseBrace ∷ [] ≡ h ++ function_forms ns ss
function_block h ns ss = simp append_assoc

block_filled : (b : Block) (ss : List Stmt) → Filled (block_front b ++ stmts_forms ss)
block_filled b ss = filled_before _ _ (filled_block b)

method_forms : (a : Bool) (xs : List Property) (k : Key) (ns : List Name) (ss : List Stmt)
    → (object_front xs ++ perhaps_async a (key k ∷ [])) ++ function_forms ns ss ≡ just p.OpenBrace ∷ ended (map property_forms (xs ++ property.Method k (function a ns ss) ∷ []))
method_forms a xs k ns ss =
    append_assoc (object_front xs) (perhaps_async a (key k ∷ [])) (function_forms ns ss)
    ∙ ap (λ (z : List Form). object_front xs ++ z) (async_append a (key k) [] (function_forms ns ss) ∙ sym (property_method k (function a ns ss)))
    ∙ ap (λ (z : List Form). just p.OpenBrace ∷ z)
    (sym (ended_push (map property_forms xs) (property_forms (property.Method k (function a ns ss)))) ∙ ap ended (sym (map-append property_forms xs (property.Method k (function a ns ss) ∷ []))))

close_function_grows : (o : Outer) (h : Head) (ns : List Name) (ss : List Stmt) (t : Token) → Shows (just p.CloseBrace) t → Grows (inside o (block_front (block.Function h ns) ++ stmts_forms ss)) t (close_function o h ns ss)
close_function_grows o (head.Declaration a n) ns ss t h =
    last_grows o (stmt.DeclareFunction n (function a ns ss)) _ (just p.CloseBrace) t (full_function n (function a ns ss)) (block_filled (block.Function (head.Declaration a n) ns) ss)
    (function_block (head_front (head.Declaration a n)) ns ss ∙ async_append a _ _ _ ∙ sym (stmt_function n (function a ns ss))) h
close_function_grows o (head.Expression a n) ns ss t h =
    adds_same o.items o.frames _ (expr_forms (expr.Function n (function a ns ss))) (just p.CloseBrace) t (block_filled (block.Function (head.Expression a n) ns) ss)
    (function_block (head_front (head.Expression a n)) ns ss ∙ async_append a _ _ _ ∙ sym (expr_function n (function a ns ss))) h
close_function_grows o (head.Method a xs k) ns ss t h =
    adds_same o.items o.frames _ (just p.OpenBrace ∷ ended (map property_forms (xs ++ property.Method k (function a ns ss) ∷ []))) (just p.CloseBrace) t (block_filled (block.Function (head.Method a xs k) ns) ss)
    (function_block (head_front (head.Method a xs k)) ns ss ∙ method_forms a xs k ns ss) h

catch_block : (n : Option Name) (ss : List Stmt) → catch_front n ++ braced (stmts_forms ss) ≡ catch_forms (roll-Catch (record { name = n; body = ss }))
catch_block None ss = sym (catch_bare ss)
catch_block (Some n) ss = sym (catch_named n ss)

pub try_forms : (ss : List Stmt) (c : Option Catch) (f : Option (List Stmt)) → stmt_forms (stmt.Try ss c f) ≡ reserved r.Try ∷ just p.OpenBrace ∷ (stmts_forms ss ++ just p.CloseBrace ∷ (option_catch_forms c ++ option_finally_forms f))
try_forms ss c f = stmt_try ss c f ∙ ap (λ (z : List Form). reserved r.Try ∷ just p.OpenBrace ∷ z) (append_assoc (stmts_forms ss) (just p.CloseBrace ∷ []) (option_catch_forms c ++ option_finally_forms f))

close_grows : (o : Outer) (b : Block) (ss : List Stmt) (t : Token) → Shows (just p.CloseBrace) t → Grows (inside o (block_front b ++ stmts_forms ss)) t (close o b ss)
close_grows o block.Plain ss t h = last_grows o (stmt.Block ss) _ (just p.CloseBrace) t (full_block ss) (block_filled block.Plain ss) (sym (stmt_block ss)) h
close_grows o (block.Function x ns) ss t h = close_function_grows o x ns ss t h
close_grows o (block.Arrow a ns) ss t h =
    adds_same o.items o.frames _ (expr_forms (expr.Arrow a ns (arrow_body.Statements ss))) (just p.CloseBrace) t (block_filled (block.Arrow a ns) ss)
    (simp append_assoc (sym (expr_arrow a ns (arrow_body.Statements ss) ∙ ap (λ (z : List Form). perhaps_async a (arrow_names ns) ++ z) (arrow_statements ss)))) h
close_grows o block.Try ss t h = adds_same o.items o.frames _ (tried_front ss) (just p.CloseBrace) t (block_filled block.Try ss) refl h
close_grows o (block.Catch tried n) ss t h =
    adds_same o.items o.frames _ (tried_front tried ++ catch_forms (roll-Catch (record { name = n; body = ss }))) (just p.CloseBrace) t (block_filled (block.Catch tried n) ss)
    (simp append_assoc (ap (λ (z : List Form). reserved r.Try ∷ just p.OpenBrace ∷ (stmts_forms tried ++ just p.CloseBrace ∷ z)) (catch_block n ss))) h
close_grows o (block.Finally tried c) ss t h =
    last_grows o (stmt.Try tried c (Some ss)) _ (just p.CloseBrace) t (full_try tried c (Some ss)) (block_filled (block.Finally tried c) ss) (simp append_assoc (sym (try_forms tried c (Some ss)))) h

close_frame_grows : (a : List Form) (o : Outer) (fs : List Open) (f : Frame) (t : Token) → Covers a (whole_items o.items ++ waits_in fs f (waits fs)) → Shows (just p.CloseBrace) t → Grows a t (close_frame (framed o fs) (Some f))
close_frame_grows a o fs (frame.Block b ss) t c h = grows_from a _ t (close (framed o fs) b ss) c (close_grows (framed o fs) b ss t h)
close_frame_grows a o fs _ t c h = tt

close_block_grows : (a : List Form) (o : Outer) (fs : List Open) (t : Token) → Covers a (whole_items o.items ++ waits fs) → Shows (just p.CloseBrace) t → Grows a t (close_frame (framed o (drop 1 fs)) (first_frame fs))
close_block_grows a o [] t c h = tt
close_block_grows a o (f ∷ fs) t c h = close_frame_grows a o fs f.frame t c h

-- ---- a statement begins

-- the token comes first in the innermost frame
starts : (a : List Form) (is : List Item) (fs : List Open) (f : Form) (y : List Form) (t : Token) → Covers a (whole_items is ++ waits fs) → f ∷ [] ≡ y → Shows f t → Adds a t (whole_items is ++ spell fs y)
starts a is fs f y t c e h =
    adds_from a (whole_items is ++ waits fs) t _ c
    (adds_to _ t _ _ (adds_form (whole_items is ++ waits fs) f t h) (covers_trans _ (whole_items is ++ spell fs (f ∷ [])) _ (enters_behind (whole_items is) (waits fs) fs (f ∷ []) (enters_waits fs)) (covers_same _ _ (ap (λ (z : List Form). whole_items is ++ spell fs z) e))))

expression_grows : (a : List Form) (o : Outer) (t : Token) → Covers a (whole_items o.items ++ waits o.frames) → Grows a t (expression_statement o t)
expression_grows a o t c =
    begin_grows a (push o 0 (frame.Purpose purpose.Statement)) t
    (opens_enters a o.items (waits o.frames) (opened (plus (constructs o) 0) (frame.Purpose purpose.Statement) ∷ o.frames) t c (record { enters = (enters_waits o.frames).enters }))

not_in_body_grows : (a : List Form) (o : Outer) (x : At) (t : Token) → Grows a t (to o x) → Grows a t (not_in_body o x)
not_in_body_grows a o x t h = grows_cond a t (in_body o) (refuse_at spot.StatementBegin) (to o x) (λ e. tt) (λ e. h)

export_in : (a : List Form) (o : Outer) (fs : List Open) (t : Token) → Covers a (whole_items o.items ++ waits fs) → t.kind ≡ tok.Reserved r.Export → Grows a t (cond (is_top fs && not o.exported) (to (framed o fs) at.ExportDefault) (refuse_at spot.StatementBegin))
export_in a o [] t c e = grows_cond a t (not o.exported) (to (framed o []) at.ExportDefault) (refuse_at spot.StatementBegin) (λ h. starts a o.items [] (reserved r.Export) _ t c refl (shows_word r.Export t e)) (λ h. tt)
export_in a o (f ∷ fs) t c e = tt

pub jump_break : (q : ℕ) → jump_layer (out-Stmt (stmt.Break q)) ≡ reserved_at q r.Break ∷ []
jump_break q = ap (λ (s : Stmt). jump_layer (out-Stmt s)) (sym (stmt.rolls-Break q)) ∙ ap jump_layer (out-roll-Stmt (Stmt-F.Break q))

pub jump_continue : (q : ℕ) → jump_layer (out-Stmt (stmt.Continue q)) ≡ reserved_at q r.Continue ∷ []
jump_continue q = ap (λ (s : Stmt). jump_layer (out-Stmt s)) (sym (stmt.rolls-Continue q)) ∙ ap jump_layer (out-roll-Stmt (Stmt-F.Continue q))

word_grows : (a : List Form) (o : Outer) (t : Token) (x : Reserved) → Covers a (whole_items o.items ++ waits o.frames) → t.kind ≡ tok.Reserved x → Grows a t (begin_by_word o t x)
word_grows a o t r.If c e = starts a o.items o.frames (reserved r.If) _ t c refl (shows_word r.If t e)
word_grows a o t r.While c e = starts a o.items o.frames (reserved r.While) _ t c refl (shows_word r.While t e)
word_grows a o t r.For c e = starts a o.items o.frames (reserved r.For) _ t c refl (shows_word r.For t e)
word_grows a o t r.Break c e = starts a o.items o.frames (reserved_at t.place r.Break) _ t c (sym (jump_break t.place)) (shows_at t (tok.Reserved r.Break) e refl)
word_grows a o t r.Continue c e = starts a o.items o.frames (reserved_at t.place r.Continue) _ t c (sym (jump_continue t.place)) (shows_at t (tok.Reserved r.Continue) e refl)
word_grows a o t r.Return c e = starts a o.items o.frames (reserved_at t.place r.Return) _ t c refl (shows_at t (tok.Reserved r.Return) e refl)
word_grows a o t r.Throw c e = starts a o.items o.frames (reserved r.Throw) _ t c refl (shows_word r.Throw t e)
word_grows a o t r.Try c e = starts a o.items o.frames (reserved r.Try) _ t c refl (shows_word r.Try t e)
word_grows a o t r.Function c e = not_in_body_grows a o (at.FunctionName true false) t (starts a o.items o.frames (reserved r.Function) _ t c refl (shows_word r.Function t e))
word_grows a o t r.Export c e = export_in a o o.frames t c e
word_grows a o t r.Let c e = not_in_body_grows a o (at.DeclaredName (declares declare.Let false)) t (starts a o.items o.frames (reserved r.Let) _ t c refl (shows_word r.Let t e))
word_grows a o t r.Const c e = not_in_body_grows a o (at.DeclaredName (declares declare.Const false)) t (starts a o.items o.frames (reserved r.Const) _ t c refl (shows_word r.Const t e))
word_grows a o t _ c e = expression_grows a o t c

-- the `;` behind an `export default` was read before this one
empty_grows : (o : Outer) (fs : List Open) (t : Token) → Shows (just p.Semicolon) t → Grows (between o.items fs) t (complete_in o fs stmt.Empty)
empty_grows o [] t h =
    grows_leads (between o.items []) t (items_with (just p.Semicolon ∷ []) o.items ++ just p.Semicolon ∷ []) (complete_in o [] stmt.Empty) (adds_form (between o.items []) (just p.Semicolon) t h)
    (complete_leads _ o [] stmt.Empty
    (covers_same _ _ (ap (λ (b : Bool). items_with (cond b (just p.Semicolon) (maybe (sign p.Semicolon)) ∷ []) o.items ++ just p.Semicolon ∷ []) (sym empty_empty)
    ∙ ap (λ (z : List Form). items_with (end_before (item.Stmt stmt.Empty) ∷ []) o.items ++ z) (sym stmt_empty))))
empty_grows o (f ∷ fs) t h =
    grows_leads (between o.items (f ∷ fs)) t (whole_items o.items ++ spell (f ∷ fs) (stmt_forms stmt.Empty)) (complete_in o (f ∷ fs) stmt.Empty)
    (starts (between o.items (f ∷ fs)) o.items (f ∷ fs) (just p.Semicolon) (stmt_forms stmt.Empty) t (covers_same _ _ refl) (sym stmt_empty) h)
    (complete_leads _ o (f ∷ fs) stmt.Empty (covers_same _ _ refl))

-- a `;` is a statement where it is no end of an `export default`
abbrev pub EmptyFits : List Form → Outer → TokenKind → Type 0
EmptyFits a o k = is_semicolon k ≡ true → Covers a (between o.items o.frames)

sign_grows : (a : List Form) (o : Outer) (t : Token) (x : Punctuator) → Covers a (whole_items o.items ++ waits o.frames) → EmptyFits a o (tok.Punctuator x) → t.kind ≡ tok.Punctuator x → Grows a t (begin_by_sign o t x)
sign_grows a o t p.OpenBrace c s e = starts a o.items o.frames (just p.OpenBrace) _ t c refl (shows_sign p.OpenBrace t e)
sign_grows a o t p.CloseBrace c s e = close_block_grows a o o.frames t c (shows_sign p.CloseBrace t e)
sign_grows a o t p.Semicolon c s e = grows_from a (between o.items o.frames) t (complete o stmt.Empty) (s refl) (empty_grows o o.frames t (shows_sign p.Semicolon t e))
sign_grows a o t _ c s e = expression_grows a o t c

kind_grows : (a : List Form) (o : Outer) (t : Token) (k : TokenKind) → Covers a (whole_items o.items ++ waits o.frames) → EmptyFits a o k → is_end k ≡ false → t.kind ≡ k → Grows a t (on_statement_kind o t k)
kind_grows a o t (tok.Punctuator x) c s n e = sign_grows a o t x c s e
kind_grows a o t (tok.Reserved x) c s n e = word_grows a o t x c e
kind_grows a o t tok.End c s n e = absurd (false≢true (sym n))
kind_grows a o t _ c s n e = expression_grows a o t c

pub statement_grows : (a : List Form) (o : Outer) (t : Token) → Covers a (whole_items o.items ++ waits o.frames) → EmptyFits a o t.kind → is_end t.kind ≡ false → Grows a t (on_statement o t)
statement_grows a o t c s n = kind_grows a o t t.kind c s n refl
