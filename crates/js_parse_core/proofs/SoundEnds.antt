-- A whole statement, in what waits for it.
use Rattle.std.proofs.Common.{◌≡◌, ℕ, Bool, false, cond, List, [], ◌∷◌, ◌++◌, Some, None, Ok, Err, refl, sym, ◌∙◌, ap, subst, append_assoc}
use Rattle.std.proofs.lemmas.List.{append-nil}
use Rattle.js_lex.specs.declared.token.Punctuator.TheVariants as p
use Rattle.js_lex.specs.declared.token.Reserved.TheVariants as r
use Rattle.js_lex.specs.declared.token.TokenKind.TheVariants as tok
use Rattle.js_lex.specs.declared.token.Token.{Token}
use Rattle.js_tree.specs.declared.tree.Item.{Item}
use Rattle.js_tree.specs.declared.tree.Item.TheVariants as item
use Rattle.js_tree.specs.declared.tree.Stmt.{Stmt}
use Rattle.js_grammar.specs.Marks.{Form, just, sign, maybe, end}
use Rattle.js_grammar.specs.Grammar.{reserved, is_empty}
use Rattle.js_parse_core.specs.declared.machine.At.{At}
use Rattle.js_parse_core.specs.declared.machine.At.TheVariants as at
use Rattle.js_parse_core.specs.declared.machine.Block.{Block}
use Rattle.js_parse_core.specs.declared.machine.Body.{Body}
use Rattle.js_parse_core.specs.declared.machine.Body.TheVariants as body
use Rattle.js_parse_core.specs.declared.machine.Frame.{Frame}
use Rattle.js_parse_core.specs.declared.machine.Frame.TheVariants as frame
use Rattle.js_parse_core.specs.declared.machine.Open.{Open}
use Rattle.js_parse_core.specs.declared.machine.Outer.{Outer}
use Rattle.js_parse_core.specs.declared.machine.Refusal.{Refusal}
use Rattle.js_parse_core.specs.Outer.{Step, framed, with_body, complete_body, complete_frame, complete_in, complete, settle_frame, settle_in, settle}
use Rattle.js_parse_core.specs.Statements.{to_else, else_behind, ends_statement}
use Rattle.js_parse_core.specs.Statements.{end as end_of}
use Rattle.js_parse_core.proofs.Covers.{Covers, covers_same, covers_trans}
use Rattle.js_parse_core.proofs.Bare.{stmt_forms, stmts_forms}
use Rattle.js_parse_core.proofs.BareStatements.{stmts_push, stmt_if, stmt_if_else, stmt_for, stmt_for_of, stmt_while, full_if, full_for, full_for_of, full_while}
use Rattle.js_parse_core.proofs.Spelled.{front, is_line, lined, spell, waits, body_front, block_front, end_before, items_with, whole_items, between, spelled_at, spelled}
use Rattle.js_parse_core.proofs.SpelledLemmas.{Filled, filled_cons, push_stmt, items_covers, just_maybe}
use Rattle.js_parse_core.proofs.Grows.{Shows, shows_end, shows_word, Adds, Grows, adds_to, adds_from, adds_same, grows_cond}

-- ---- without a token

-- the state has read these forms
abbrev pub Leads : List Form → Step → Type 0
Leads b (Ok n) = Covers b (spelled n)
Leads b (Err k) = Unit {0}

-- .. and stands between statements
abbrev pub Settles : List Form → Step → Type 0
Settles b (Ok n) = Covers b (between n.outer.items n.outer.frames)
Settles b (Err k) = Unit {0}

pub grows_leads : (a : List Form) (t : Token) (b : List Form) (x : Step) → Adds a t b → Leads b x → Grows a t x
grows_leads a t b (Ok n) h w = adds_to a t b (spelled n) h w
grows_leads a t b (Err k) h w = tt

-- the statement stands where its items or frames want one
abbrev pub Stands : List Form → List Item → List Open → Stmt → Type 0
Stands b is [] s = Covers b (items_with (end_before (item.Stmt s) ∷ []) is ++ stmt_forms s)
Stands b is (f ∷ fs) s = Covers b (whole_items is ++ spell (f ∷ fs) (stmt_forms s))

pub stands_full : (b : List Form) (is : List Item) (fs : List Open) (s : Stmt) → is_empty s ≡ false → Covers b (whole_items is ++ spell fs (stmt_forms s)) → Stands b is fs s
stands_full b is [] s e c = subst (λ (z : Bool). Covers b (items_with (cond z (just p.Semicolon) (maybe (sign p.Semicolon)) ∷ []) is ++ stmt_forms s)) (sym e) c
stands_full b is (f ∷ fs) s e c = c

add_item_covers : (b : List Form) (is : List Item) (s : Stmt) → Stands b is [] s → Covers b (items_with (just p.Semicolon ∷ []) (is ++ item.Stmt s ∷ []))
add_item_covers b is s c = covers_trans b _ _ c (covers_same _ _ (sym (push_stmt (just p.Semicolon ∷ []) is s)))

block_push : (is : List Item) (fs : List Open) (b : Block) (ss : List Stmt) (s : Stmt) → whole_items is ++ spell fs ((block_front b ++ stmts_forms ss) ++ stmt_forms s) ≡ whole_items is ++ spell fs (block_front b ++ stmts_forms (ss ++ s ∷ []))
block_push is fs b ss s = ap (λ (z : List Form). whole_items is ++ spell fs z) (append_assoc (block_front b) (stmts_forms ss) (stmt_forms s) ∙ ap (λ (z : List Form). block_front b ++ z) (sym (stmts_push ss s)))

with_body_forms : (b : Body) (s : Stmt) → body_front b ++ stmt_forms s ≡ stmt_forms (with_body b s)
with_body_forms (body.Then test) s = simp append_assoc (sym (stmt_if test s))
with_body_forms (body.Else test a) s = simp append_assoc (sym (stmt_if_else test a s))
with_body_forms (body.For begin test update) s = simp append_assoc (sym (stmt_for begin test update s))
with_body_forms (body.ForOf k n x) s = simp append_assoc (sym (stmt_for_of k n x s))
with_body_forms (body.While test) s = simp append_assoc (sym (stmt_while test s))

full_with_body : (b : Body) (s : Stmt) → is_empty (with_body b s) ≡ false
full_with_body (body.Then test) s = full_if test s None
full_with_body (body.Else test a) s = full_if test a (Some s)
full_with_body (body.For begin test update) s = full_for begin test update s
full_with_body (body.ForOf k n x) s = full_for_of k n x s
full_with_body (body.While test) s = full_while test s

in_body_stands : (b : List Form) (is : List Item) (fs : List Open) (x : Body) (s : Stmt) → Covers b (whole_items is ++ spell fs (body_front x ++ stmt_forms s)) → Stands b is fs (with_body x s)
in_body_stands b is fs x s c =
    stands_full b is fs (with_body x s) (full_with_body x s) (covers_trans b _ _ c (covers_same _ _ (ap (λ (z : List Form). whole_items is ++ spell fs z) (with_body_forms x s))))

complete_body_leads : (b : List Form) (o : Outer) (fs : List Open) (x : Body) (s : Stmt) → Covers b (whole_items o.items ++ spell fs (body_front x ++ stmt_forms s))
    → ((u : Stmt) → Stands b o.items fs u → Leads b (complete_in o fs u)) → Leads b (complete_body (framed o fs) x s (λ u. complete_in o fs u))
complete_body_leads b o fs (body.Then test) s c go = covers_trans b _ _ c (covers_same _ _ (ap (λ (z : List Form). whole_items o.items ++ spell fs z) (simp append_assoc)))
complete_body_leads b o fs (body.Else test a) s c go = go (with_body (body.Else test a) s) (in_body_stands b o.items fs (body.Else test a) s c)
complete_body_leads b o fs (body.For begin test update) s c go = go (with_body (body.For begin test update) s) (in_body_stands b o.items fs (body.For begin test update) s c)
complete_body_leads b o fs (body.ForOf k n x) s c go = go (with_body (body.ForOf k n x) s) (in_body_stands b o.items fs (body.ForOf k n x) s c)
complete_body_leads b o fs (body.While test) s c go = go (with_body (body.While test) s) (in_body_stands b o.items fs (body.While test) s c)

complete_frame_leads : (b : List Form) (o : Outer) (fs : List Open) (n : ℕ) (f : Frame) (s : Stmt) → Covers b (whole_items o.items ++ spell fs (lined (is_line f) (front fs f) (stmt_forms s)))
    → ((u : Stmt) → Stands b o.items fs u → Leads b (complete_in o fs u)) → Leads b (complete_frame (framed o fs) n f s (λ u. complete_in o fs u))
complete_frame_leads b o fs n (frame.Block x ss) s c go = covers_trans b _ _ c (covers_same _ _ (block_push o.items fs x ss s))
complete_frame_leads b o fs n (frame.Body x) s c go = complete_body_leads b o fs x s c go
complete_frame_leads b o fs n _ s c go = tt

pub complete_leads : (b : List Form) (o : Outer) (fs : List Open) (s : Stmt) → Stands b o.items fs s → Leads b (complete_in o fs s)
complete_leads b o [] s c = add_item_covers b o.items s c
complete_leads b o (f ∷ fs) s c = complete_frame_leads b o fs f.constructs f.frame s c (λ u h. complete_leads b o fs u h)

settle_frame_leads : (b : List Form) (o : Outer) (fs : List Open) (n : ℕ) (f : Frame) (s : Stmt) → Covers b (whole_items o.items ++ spell fs (lined (is_line f) (front fs f) (stmt_forms s)))
    → ((u : Stmt) → Stands b o.items fs u → Settles b (settle_in o fs u)) → Settles b (settle_frame (framed o fs) n f s (λ u. settle_in o fs u))
settle_frame_leads b o fs n (frame.Block x ss) s c go = covers_trans b _ _ c (covers_same _ _ (block_push o.items fs x ss s))
settle_frame_leads b o fs n (frame.Body x) s c go = go (with_body x s) (in_body_stands b o.items fs x s c)
settle_frame_leads b o fs n _ s c go = tt

pub settle_leads : (b : List Form) (o : Outer) (fs : List Open) (s : Stmt) → Stands b o.items fs s → Settles b (settle_in o fs s)
settle_leads b o [] s c = add_item_covers b o.items s c
settle_leads b o (f ∷ fs) s c = settle_frame_leads b o fs f.constructs f.frame s c (λ u h. settle_leads b o fs u h)

pub complete_full : (o : Outer) (s : Stmt) → is_empty s ≡ false → Leads (whole_items o.items ++ spell o.frames (stmt_forms s)) (complete o s)
complete_full o s e = complete_leads _ o o.frames s (stands_full _ o.items o.frames s e (covers_same _ _ refl))

pub settle_full : (o : Outer) (s : Stmt) → is_empty s ≡ false → Settles (whole_items o.items ++ spell o.frames (stmt_forms s)) (settle o s)
settle_full o s e = settle_leads _ o o.frames s (stands_full _ o.items o.frames s e (covers_same _ _ refl))

-- ---- with a token

-- the last token of a statement
pub last_grows : (o : Outer) (s : Stmt) (b : List Form) (f : Form) (t : Token) → is_empty s ≡ false → Filled b → b ++ f ∷ [] ≡ stmt_forms s → Shows f t → Grows (whole_items o.items ++ spell o.frames b) t (complete o s)
last_grows o s b f t e l h w = grows_leads _ t (whole_items o.items ++ spell o.frames (stmt_forms s)) (complete o s) (adds_same o.items o.frames b (stmt_forms s) f t l h w) (complete_full o s e)

pub end_grows : (o : Outer) (s : Stmt) (b : List Form) (t : Token) (k : Refusal) → is_empty s ≡ false → Filled b → b ++ end ∷ [] ≡ stmt_forms s → Grows (whole_items o.items ++ spell o.frames b) t (end_of false o s t k)
end_grows o s b t k e l h = grows_cond _ t (ends_statement false t.kind) (complete o s) (Err k) (λ w. last_grows o s b end t e l h (shows_end t t.kind refl w)) (λ w. tt)

to_else_grows : (b : List Form) (t : Token) (o : Outer) (a : At) → Covers b (spelled_at o.items o.frames a) → t.kind ≡ tok.Reserved r.Else → Grows b t (to_else o a)
to_else_grows b t o (at.AfterThen test s) c e =
    adds_from b _ t _ c (adds_same o.items o.frames _ (body_front (body.Else test s)) (reserved r.Else) t (filled_cons _ _) (simp append_assoc) (shows_word r.Else t e))
to_else_grows b t o _ c e = tt

pub else_grows : (b : List Form) (t : Token) (x : Step) → Leads b x → t.kind ≡ tok.Reserved r.Else → Grows b t (else_behind x)
else_grows b t (Ok n) c e = to_else_grows b t n.outer n.at c e
else_grows b t (Err k) c e = tt

-- between statements an `export default` may have had its `;`
pub between_covers : (is : List Item) (fs : List Open) → Covers (between is fs) (whole_items is ++ waits fs)
between_covers is [] = covers_trans _ (whole_items is) _ (items_covers _ _ is (just_maybe (sign p.Semicolon) [])) (covers_same _ _ (sym (append-nil (whole_items is))))
between_covers is (f ∷ fs) = covers_same _ _ refl
