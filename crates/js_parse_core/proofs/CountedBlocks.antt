-- A token where a statement begins, with how many constructs are open.
use Rattle.std.proofs.Common.{◌≡◌, ℕ, ◌+◌, ◌≤◌, Bool, true, false, cond, List, [], ◌∷◌, ◌++◌, map, Option, Some, None, refl, sym, ◌∙◌, ap, append_assoc, le_refl, arith}
use Rattle.std.specs.Prelude.{◌&&◌, not, drop}
use Rattle.std.proofs.lemmas.Bool.{false≢true}
use Rattle.std.proofs.lemmas.List.{map-append}
use Rattle.js_lex.specs.declared.token.Punctuator.{Punctuator}
use Rattle.js_lex.specs.declared.token.Punctuator.TheVariants as p
use Rattle.js_lex.specs.declared.token.Reserved.{Reserved}
use Rattle.js_lex.specs.declared.token.Reserved.TheVariants as r
use Rattle.js_lex.specs.declared.token.TokenKind.{TokenKind}
use Rattle.js_lex.specs.declared.token.TokenKind.TheVariants as tok
use Rattle.js_lex.specs.declared.token.Token.{Token}
use Rattle.js_tree.specs.declared.tree.ArrowBody.TheOpen.{Stmt-F}
use Rattle.js_tree.specs.declared.tree.ArrowBody.TheVariants as arrow_body
use Rattle.js_tree.specs.declared.tree.Catch.{Catch, roll-Catch}
use Rattle.js_tree.specs.declared.tree.DeclareKind.TheVariants as declare
use Rattle.js_tree.specs.declared.tree.Expr.TheVariants as expr
use Rattle.js_tree.specs.declared.tree.Item.{Item}
use Rattle.js_tree.specs.declared.tree.Item.TheVariants as item
use Rattle.js_tree.specs.declared.tree.Key.{Key}
use Rattle.js_tree.specs.declared.tree.Name.{Name}
use Rattle.js_tree.specs.declared.tree.Property.{Property}
use Rattle.js_tree.specs.declared.tree.Property.TheVariants as property
use Rattle.js_tree.specs.declared.tree.Stmt.{Stmt, out-Stmt, out-roll-Stmt}
use Rattle.js_tree.specs.declared.tree.Stmt.TheVariants as stmt
use Rattle.js_words.specs.declared.word.Spot.TheVariants as spot
use Rattle.js_grammar.specs.Marks.{Form, just, sign, maybe}
use Rattle.js_grammar.specs.Grammar.{key, reserved, reserved_at}
use Rattle.js_parse_core.specs.declared.machine.At.{At}
use Rattle.js_parse_core.specs.declared.machine.At.TheVariants as at
use Rattle.js_parse_core.specs.declared.machine.Block.{Block}
use Rattle.js_parse_core.specs.declared.machine.Block.TheVariants as block
use Rattle.js_parse_core.specs.declared.machine.Frame.{Frame}
use Rattle.js_parse_core.specs.declared.machine.Frame.TheVariants as frame
use Rattle.js_parse_core.specs.declared.machine.Head.{Head}
use Rattle.js_parse_core.specs.declared.machine.Head.TheVariants as head
use Rattle.js_parse_core.specs.declared.machine.Open.{Open}
use Rattle.js_parse_core.specs.declared.machine.Outer.{Outer}
use Rattle.js_parse_core.specs.declared.machine.Purpose.TheVariants as purpose
use Rattle.js_parse_core.specs.Outer.{refuse_at, to, framed, opened, push, plus, constructs, first_frame, in_body, complete, complete_in}
use Rattle.js_parse_core.specs.Statements.{is_top, not_in_body, declares, expression_statement, begin_by_word, function, close_function, close, close_frame, begin_by_sign, on_statement_kind, on_statement}
use Rattle.js_parse_core.specs.Tokens.{is_semicolon, is_end}
use Rattle.js_parse_core.specs.Outer.{is_body}
use Rattle.js_parse_core.proofs.BareStatements.{full_function, full_block, full_try, empty_empty}
use Rattle.js_parse_core.proofs.SpelledLemmas.{Filled, filled_before}
use Rattle.js_parse_core.proofs.CountedCovers.{Covers, covers_same, covers_trans}
use Rattle.js_parse_core.proofs.CountedForms.{up, expr_at, property_at, stmt_at, stmts_at, perhaps_at, arrow_at, parameters_at, braced_at, function_at, expr_function, expr_arrow, arrow_statements, property_method}
use Rattle.js_parse_core.proofs.CountedStatements.{catch_at, option_catch_at, option_finally_at, stmt_function, stmt_try, stmt_empty, catch_bare, catch_named, other_function, other_try, other_empty}
use Rattle.js_parse_core.proofs.CountedSpelled.{ended_at, head_level, block_level, levels, head_front, object_front, catch_front, tried_front, block_front, spell, waits_in, waits, jump_layer, end_before, items_with, whole_items, between}
use Rattle.js_parse_core.proofs.CountedLemmas.{filled_block, ended_push, enters_behind, enters_waits}
use Rattle.js_parse_core.proofs.CountedGrows.{Shows, shows_sign, shows_word, shows_at, Between, at_open, at_close, Adds, Grows, adds_form, adds_to, adds_from, adds_same, grows_cond, grows_from, opens_enters}
use Rattle.js_parse_core.proofs.CountedChains.{plain_function_expr}
use Rattle.js_parse_core.proofs.CountedFolds.{block_rises}
use Rattle.js_parse_core.proofs.CountedBegin.{begin_grows}
use Rattle.js_parse_core.proofs.CountedEnds.{placed, placed_other, placed_block, grows_leads, complete_leads, last_grows}
use Rattle.js_parse_core.proofs.CountedValues.{inside, here, at_leave}
use Rattle.js_parse_core.proofs.CountedObjects.{async_append}

-- ---- a block ends

-- brackets, braces and what stands between them, behind h
function_block : (m : ℕ) (h : List Form) (ns : List Name) (ss : List Stmt) → ((h ++ (parameters_at m ns ++ up m (just p.OpenBrace) ∷ [])) ++ stmts_at m ss) ++ up m (just p.CloseBrace) ∷ [] ≡ h ++ (parameters_at m ns ++ braced_at m (stmts_at m ss))
function_block m h ns ss = simp append_assoc

block_filled : (n m : ℕ) (c : Bool) (b : Block) (ss : List Stmt) → Filled (block_front n c b ++ stmts_at m ss)
block_filled n m c b ss = filled_before _ _ (filled_block n c b)

method_forms : (n : ℕ) (a : Bool) (xs : List Property) (k : Key) (ns : List Name) (ss : List Stmt)
    → (object_front n xs ++ perhaps_at n a (up n (key k) ∷ [])) ++ function_at n ns ss ≡ up n (just p.OpenBrace) ∷ ended_at n (map (property_at n) (xs ++ property.Method k (function a ns ss) ∷ []))
method_forms n a xs k ns ss =
    append_assoc (object_front n xs) (perhaps_at n a (up n (key k) ∷ [])) (function_at n ns ss)
    ∙ ap (λ (z : List Form). object_front n xs ++ z) (async_append n a (up n (key k)) [] (function_at n ns ss) ∙ sym (property_method n k (function a ns ss)))
    ∙ ap (λ (z : List Form). up n (just p.OpenBrace) ∷ z)
    (sym (ended_push n (map (property_at n) xs) (property_at n (property.Method k (function a ns ss)))) ∙ ap (ended_at n) (sym (map-append (property_at n) xs (property.Method k (function a ns ss) ∷ []))))

abbrev in_body_of : Outer → Bool
in_body_of o = is_body (first_frame o.frames)

close_function_grows : (l : ℕ) (o : Outer) (h : Head) (ns : List Name) (ss : List Stmt) (t : Token) → head_level (here o) h ≤ l → Shows (head_level (here o) h) (just p.CloseBrace) t
    → Grows l (inside o (block_front (here o) (in_body_of o) (block.Function h ns) ++ stmts_at (head_level (here o) h) ss)) t (close_function o h ns ss)
close_function_grows l o (head.Declaration a n) ns ss t v h =
    last_grows l (here o + 1) o (stmt.DeclareFunction n (function a ns ss)) _ (just p.CloseBrace) t (omega arith) v (full_function n (function a ns ss)) (block_filled (here o) _ (in_body_of o) (block.Function (head.Declaration a n) ns) ss)
    (function_block (here o + 1) (head_front (here o) (head.Declaration a n)) ns ss ∙ async_append (here o) a _ _ _ ∙ sym (stmt_function (here o) n (function a ns ss)) ∙ sym (placed_other o.frames (stmt.DeclareFunction n (function a ns ss)) (other_function n (function a ns ss)))) h
close_function_grows l o (head.Expression a n) ns ss t v h =
    adds_same l _ o.items o.frames _ (expr_at (here o) (expr.Function n (function a ns ss))) (here o + 1) (just p.CloseBrace) t (at_leave l (here o + 1) (here o) (expr.Function n (function a ns ss)) (plain_function_expr n (function a ns ss)) (omega arith) v) (block_filled (here o) _ (in_body_of o) (block.Function (head.Expression a n) ns) ss)
    (function_block (here o + 1) (head_front (here o) (head.Expression a n)) ns ss ∙ async_append (here o) a _ _ _ ∙ sym (expr_function (here o) n (function a ns ss))) h
close_function_grows l o (head.Method a xs k) ns ss t v h =
    adds_same l _ o.items o.frames _ (up (here o + 1) (just p.OpenBrace) ∷ ended_at (here o + 1) (map (property_at (here o + 1)) (xs ++ property.Method k (function a ns ss) ∷ []))) (here o + 1 + 1) (just p.CloseBrace) t (at_close l (here o + 1 + 1) (here o + 1) (omega arith) v)
    (block_filled (here o) _ (in_body_of o) (block.Function (head.Method a xs k) ns) ss)
    (function_block (here o + 1 + 1) (head_front (here o) (head.Method a xs k)) ns ss ∙ method_forms (here o + 1) a xs k ns ss) h

catch_block : (n : ℕ) (m : Option Name) (ss : List Stmt) → catch_front n m ++ braced_at (n + 1) (stmts_at (n + 1) ss) ≡ catch_at n (roll-Catch (record { name = m; body = ss }))
catch_block n None ss = sym (catch_bare n ss)
catch_block n (Some m) ss = sym (catch_named n m ss)

pub try_forms : (n : ℕ) (ss : List Stmt) (c : Option Catch) (f : Option (List Stmt)) → stmt_at n (stmt.Try ss c f)
    ≡ up n (reserved r.Try) ∷ up (n + 1) (just p.OpenBrace) ∷ (stmts_at (n + 1) ss ++ up (n + 1) (just p.CloseBrace) ∷ (option_catch_at n c ++ option_finally_at n f))
try_forms n ss c f = stmt_try n ss c f ∙ ap (λ (z : List Form). up n (reserved r.Try) ∷ up (n + 1) (just p.OpenBrace) ∷ z) (append_assoc (stmts_at (n + 1) ss) (up (n + 1) (just p.CloseBrace) ∷ []) (option_catch_at n c ++ option_finally_at n f))

close_grows : (l : ℕ) (o : Outer) (b : Block) (ss : List Stmt) (t : Token) → block_level (here o) (in_body_of o) b ≤ l → Shows (block_level (here o) (in_body_of o) b) (just p.CloseBrace) t
    → Grows l (inside o (block_front (here o) (in_body_of o) b ++ stmts_at (block_level (here o) (in_body_of o) b) ss)) t (close o b ss)
close_grows l o block.Plain ss t v h =
    last_grows l (block_level (here o) (in_body_of o) block.Plain) o (stmt.Block ss) _ (just p.CloseBrace) t (block_rises (here o) (in_body_of o) block.Plain) v (full_block ss) (block_filled (here o) _ (in_body_of o) block.Plain ss) (sym (placed_block o.frames ss)) h
close_grows l o (block.Function x ns) ss t v h = close_function_grows l o x ns ss t v h
close_grows l o (block.Arrow a ns) ss t v h =
    adds_same l _ o.items o.frames _ (expr_at (here o) (expr.Arrow a ns (arrow_body.Statements ss))) (here o + 1) (just p.CloseBrace) t (at_close l (here o + 1) (here o) (omega arith) v) (block_filled (here o) _ (in_body_of o) (block.Arrow a ns) ss)
    (simp append_assoc (sym (expr_arrow (here o) a ns (arrow_body.Statements ss) ∙ ap (λ (z : List Form). perhaps_at (here o) a (arrow_at (here o) ns) ++ z) (arrow_statements (here o) ss)))) h
close_grows l o block.Try ss t v h = adds_same l _ o.items o.frames _ (tried_front (here o) ss) (here o + 1) (just p.CloseBrace) t (at_close l (here o + 1) (here o) (omega arith) v) (block_filled (here o) _ (in_body_of o) block.Try ss) refl h
close_grows l o (block.Catch tried n) ss t v h =
    adds_same l _ o.items o.frames _ (tried_front (here o) tried ++ catch_at (here o) (roll-Catch (record { name = n; body = ss }))) (here o + 1) (just p.CloseBrace) t (at_close l (here o + 1) (here o) (omega arith) v) (block_filled (here o) _ (in_body_of o) (block.Catch tried n) ss)
    (simp append_assoc (ap (λ (z : List Form). up (here o) (reserved r.Try) ∷ up (here o + 1) (just p.OpenBrace) ∷ (stmts_at (here o + 1) tried ++ up (here o + 1) (just p.CloseBrace) ∷ z)) (catch_block (here o) n ss))) h
close_grows l o (block.Finally tried c) ss t v h =
    last_grows l (here o + 1) o (stmt.Try tried c (Some ss)) _ (just p.CloseBrace) t (omega arith) v (full_try tried c (Some ss)) (block_filled (here o) _ (in_body_of o) (block.Finally tried c) ss)
    (simp append_assoc (sym (try_forms (here o) tried c (Some ss))) ∙ sym (placed_other o.frames (stmt.Try tried c (Some ss)) (other_try tried c (Some ss)))) h

close_frame_grows : (l : ℕ) (a : List Form) (o : Outer) (fs : List Open) (n : ℕ) (f : Frame) (t : Token) → levels (record { constructs = n; frame = f } ∷ fs) ≤ l → Covers a (whole_items o.items ++ waits_in fs f (waits fs))
    → Shows (levels (record { constructs = n; frame = f } ∷ fs)) (just p.CloseBrace) t → Grows l a t (close_frame (framed o fs) (Some f))
close_frame_grows l a o fs n (frame.Block b ss) t v c h = grows_from l a _ t (close (framed o fs) b ss) c (close_grows l (framed o fs) b ss t v h)
close_frame_grows l a o fs n _ t v c h = tt

close_block_grows : (l : ℕ) (a : List Form) (o : Outer) (fs : List Open) (t : Token) → levels fs ≤ l → Covers a (whole_items o.items ++ waits fs) → Shows (levels fs) (just p.CloseBrace) t → Grows l a t (close_frame (framed o (drop 1 fs)) (first_frame fs))
close_block_grows l a o [] t v c h = tt
close_block_grows l a o (f ∷ fs) t v c h = close_frame_grows l a o fs f.constructs f.frame t v c h

-- ---- a statement begins

-- the token comes first in the innermost frame
starts : (l n : ℕ) (a : List Form) (is : List Item) (fs : List Open) (m : ℕ) (f : Form) (y : List Form) (t : Token) → Between l m n → Covers a (whole_items is ++ waits fs) → up m f ∷ [] ≡ y → Shows m f t → Adds l a t (whole_items is ++ spell fs y) n
starts l n a is fs m f y t b c e h =
    adds_from l n a (whole_items is ++ waits fs) t _ c
    (adds_to l n _ t _ _ (adds_form l n (whole_items is ++ waits fs) m f t b h) (covers_trans _ (whole_items is ++ spell fs (up m f ∷ [])) _ (enters_behind (whole_items is) (waits fs) fs (up m f ∷ []) (enters_waits fs)) (covers_same _ _ (ap (λ (z : List Form). whole_items is ++ spell fs z) e))))

expression_grows : (l : ℕ) (a : List Form) (o : Outer) (t : Token) → Covers a (whole_items o.items ++ waits o.frames) → Grows l a t (expression_statement o t)
expression_grows l a o t c =
    begin_grows l a (push o 0 (frame.Purpose purpose.Statement)) t
    (opens_enters l a o.items (waits o.frames) (opened (plus (constructs o) 0) (frame.Purpose purpose.Statement) ∷ o.frames) t c (record { enters = (enters_waits o.frames).enters }))

not_in_body_grows : (l : ℕ) (a : List Form) (o : Outer) (x : At) (t : Token) → Grows l a t (to o x) → Grows l a t (not_in_body o x)
not_in_body_grows l a o x t h = grows_cond l a t (in_body o) (refuse_at spot.StatementBegin) (to o x) (λ e. tt) (λ e. h)

export_in : (l : ℕ) (a : List Form) (o : Outer) (fs : List Open) (t : Token) → Covers a (whole_items o.items ++ waits fs) → t.kind ≡ tok.Reserved r.Export → Grows l a t (cond (is_top fs && not o.exported) (to (framed o fs) at.ExportDefault) (refuse_at spot.StatementBegin))
export_in l a o [] t c e = grows_cond l a t (not o.exported) (to (framed o []) at.ExportDefault) (refuse_at spot.StatementBegin) (λ h. starts l _ a o.items [] 0 (reserved r.Export) _ t (at_open l 0) c refl (shows_word 0 r.Export t e)) (λ h. tt)
export_in l a o (f ∷ fs) t c e = tt

pub jump_break : (n q : ℕ) → jump_layer n (out-Stmt (stmt.Break q)) ≡ up n (reserved_at q r.Break) ∷ []
jump_break n q = ap (λ (s : Stmt). jump_layer n (out-Stmt s)) (sym (stmt.rolls-Break q)) ∙ ap (jump_layer n) (out-roll-Stmt (Stmt-F.Break q))

pub jump_continue : (n q : ℕ) → jump_layer n (out-Stmt (stmt.Continue q)) ≡ up n (reserved_at q r.Continue) ∷ []
jump_continue n q = ap (λ (s : Stmt). jump_layer n (out-Stmt s)) (sym (stmt.rolls-Continue q)) ∙ ap (jump_layer n) (out-roll-Stmt (Stmt-F.Continue q))

word_grows : (l : ℕ) (a : List Form) (o : Outer) (t : Token) (x : Reserved) → Covers a (whole_items o.items ++ waits o.frames) → t.kind ≡ tok.Reserved x → Grows l a t (begin_by_word o t x)
word_grows l a o t r.If c e = starts l _ a o.items o.frames (here o) (reserved r.If) _ t (at_open l _) c refl (shows_word (here o) r.If t e)
word_grows l a o t r.While c e = starts l _ a o.items o.frames (here o) (reserved r.While) _ t (at_open l _) c refl (shows_word (here o) r.While t e)
word_grows l a o t r.For c e = starts l _ a o.items o.frames (here o) (reserved r.For) _ t (at_open l _) c refl (shows_word (here o) r.For t e)
word_grows l a o t r.Break c e = starts l _ a o.items o.frames (here o) (reserved_at t.place r.Break) _ t (at_open l _) c (sym (jump_break (here o) t.place)) (shows_at (here o) t (tok.Reserved r.Break) e refl)
word_grows l a o t r.Continue c e = starts l _ a o.items o.frames (here o) (reserved_at t.place r.Continue) _ t (at_open l _) c (sym (jump_continue (here o) t.place)) (shows_at (here o) t (tok.Reserved r.Continue) e refl)
word_grows l a o t r.Return c e = starts l _ a o.items o.frames (here o) (reserved_at t.place r.Return) _ t (at_open l _) c refl (shows_at (here o) t (tok.Reserved r.Return) e refl)
word_grows l a o t r.Throw c e = starts l _ a o.items o.frames (here o) (reserved r.Throw) _ t (at_open l _) c refl (shows_word (here o) r.Throw t e)
word_grows l a o t r.Try c e = starts l _ a o.items o.frames (here o) (reserved r.Try) _ t (at_open l _) c refl (shows_word (here o) r.Try t e)
word_grows l a o t r.Function c e = not_in_body_grows l a o (at.FunctionName true false) t (starts l _ a o.items o.frames (here o) (reserved r.Function) _ t (at_open l _) c refl (shows_word (here o) r.Function t e))
word_grows l a o t r.Export c e = export_in l a o o.frames t c e
word_grows l a o t r.Let c e = not_in_body_grows l a o (at.DeclaredName (declares declare.Let false)) t (starts l _ a o.items o.frames (here o) (reserved r.Let) _ t (at_open l _) c refl (shows_word (here o) r.Let t e))
word_grows l a o t r.Const c e = not_in_body_grows l a o (at.DeclaredName (declares declare.Const false)) t (starts l _ a o.items o.frames (here o) (reserved r.Const) _ t (at_open l _) c refl (shows_word (here o) r.Const t e))
word_grows l a o t _ c e = expression_grows l a o t c

-- the `;` behind an `export default` was read before this one
empty_grows : (l : ℕ) (o : Outer) (fs : List Open) (t : Token) → levels fs ≤ l → Shows (levels fs) (just p.Semicolon) t → Grows l (between o.items fs) t (complete_in o fs stmt.Empty)
empty_grows l o [] t v h =
    grows_leads l 0 (between o.items []) t (items_with (up 0 (just p.Semicolon) ∷ []) o.items ++ up 0 (just p.Semicolon) ∷ []) (complete_in o [] stmt.Empty) (λ n k. adds_form l n (between o.items []) 0 (just p.Semicolon) t (at_close l 0 n k v) h)
    (complete_leads 0 _ o [] stmt.Empty (le_refl 0)
    (covers_same _ _ (ap (λ (b : Bool). items_with (cond b (up 0 (just p.Semicolon)) (up 0 (maybe (sign p.Semicolon))) ∷ []) o.items ++ up 0 (just p.Semicolon) ∷ []) (sym empty_empty)
    ∙ ap (λ (z : List Form). items_with (end_before (item.Stmt stmt.Empty) ∷ []) o.items ++ z) (sym (stmt_empty 0)))))
empty_grows l o (f ∷ fs) t v h =
    grows_leads l (levels (f ∷ fs)) (between o.items (f ∷ fs)) t (whole_items o.items ++ spell (f ∷ fs) (placed (f ∷ fs) stmt.Empty)) (complete_in o (f ∷ fs) stmt.Empty)
    (λ n k. starts l n (between o.items (f ∷ fs)) o.items (f ∷ fs) (levels (f ∷ fs)) (just p.Semicolon) (placed (f ∷ fs) stmt.Empty) t (at_close l (levels (f ∷ fs)) n k v) (covers_same _ _ refl) (sym (placed_other (f ∷ fs) stmt.Empty other_empty ∙ stmt_empty (levels (f ∷ fs)))) h)
    (complete_leads (levels (f ∷ fs)) _ o (f ∷ fs) stmt.Empty (le_refl (levels (f ∷ fs))) (covers_same _ _ refl))

-- a `;` is a statement where it is no end of an `export default`
abbrev pub EmptyFits : List Form → Outer → TokenKind → Type 0
EmptyFits a o k = is_semicolon k ≡ true → Covers a (between o.items o.frames)

sign_grows : (l : ℕ) (a : List Form) (o : Outer) (t : Token) (x : Punctuator) → here o ≤ l → Covers a (whole_items o.items ++ waits o.frames) → EmptyFits a o (tok.Punctuator x) → t.kind ≡ tok.Punctuator x → Grows l a t (begin_by_sign o t x)
sign_grows l a o t p.OpenBrace v c s e = starts l _ a o.items o.frames (block_level (here o) (in_body_of o) block.Plain) (just p.OpenBrace) _ t (at_open l _) c refl (shows_sign (block_level (here o) (in_body_of o) block.Plain) p.OpenBrace t e)
sign_grows l a o t p.CloseBrace v c s e = close_block_grows l a o o.frames t v c (shows_sign (here o) p.CloseBrace t e)
sign_grows l a o t p.Semicolon v c s e = grows_from l a (between o.items o.frames) t (complete o stmt.Empty) (s refl) (empty_grows l o o.frames t v (shows_sign (here o) p.Semicolon t e))
sign_grows l a o t _ v c s e = expression_grows l a o t c

kind_grows : (l : ℕ) (a : List Form) (o : Outer) (t : Token) (k : TokenKind) → here o ≤ l → Covers a (whole_items o.items ++ waits o.frames) → EmptyFits a o k → is_end k ≡ false → t.kind ≡ k → Grows l a t (on_statement_kind o t k)
kind_grows l a o t (tok.Punctuator x) v c s n e = sign_grows l a o t x v c s e
kind_grows l a o t (tok.Reserved x) v c s n e = word_grows l a o t x c e
kind_grows l a o t tok.End v c s n e = absurd (false≢true (sym n))
kind_grows l a o t _ v c s n e = expression_grows l a o t c

pub statement_grows : (l : ℕ) (a : List Form) (o : Outer) (t : Token) → here o ≤ l → Covers a (whole_items o.items ++ waits o.frames) → EmptyFits a o t.kind → is_end t.kind ≡ false → Grows l a t (on_statement o t)
statement_grows l a o t v c s n = kind_grows l a o t t.kind v c s n refl
