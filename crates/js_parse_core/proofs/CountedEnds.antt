-- A whole statement, in what waits for it, with how many constructs are open.
use Rattle.std.proofs.Common.{◌≡◌, ℕ, ◌+◌, ◌≤◌, Bool, true, false, cond, List, [], ◌∷◌, ◌++◌, map, Some, None, Ok, Err, refl, sym, ◌∙◌, ap, subst, append_assoc, inl, inr, le_refl, le_trans, arith}
use Rattle.std.proofs.lemmas.List.{append-nil}
use Rattle.js_lex.specs.declared.token.Punctuator.TheVariants as p
use Rattle.js_lex.specs.declared.token.Reserved.TheVariants as r
use Rattle.js_lex.specs.declared.token.TokenKind.TheVariants as tok
use Rattle.js_lex.specs.declared.token.Token.{Token}
use Rattle.js_tree.specs.declared.tree.Expr.{Expr}
use Rattle.js_tree.specs.declared.tree.Item.{Item}
use Rattle.js_tree.specs.declared.tree.Item.TheVariants as item
use Rattle.js_tree.specs.declared.tree.Stmt.{Stmt}
use Rattle.js_tree.specs.declared.tree.Stmt.TheVariants as stmt
use Rattle.js_grammar.specs.Marks.{Form, just, sign, maybe, end}
use Rattle.js_grammar.specs.Grammar.{reserved, is_empty}
use Rattle.js_parse_core.specs.declared.machine.At.{At}
use Rattle.js_parse_core.specs.declared.machine.At.TheVariants as at
use Rattle.js_parse_core.specs.declared.machine.Block.{Block}
use Rattle.js_parse_core.specs.declared.machine.Body.{Body}
use Rattle.js_parse_core.specs.declared.machine.Body.TheVariants as body
use Rattle.js_parse_core.specs.declared.machine.Declared.{Declared}
use Rattle.js_parse_core.specs.declared.machine.Frame.{Frame}
use Rattle.js_parse_core.specs.declared.machine.Frame.TheVariants as frame
use Rattle.js_parse_core.specs.declared.machine.Open.{Open}
use Rattle.js_parse_core.specs.declared.machine.Outer.{Outer}
use Rattle.js_parse_core.specs.declared.machine.Refusal.{Refusal}
use Rattle.js_parse_core.specs.Outer.{Step, framed, with_body, complete_body, complete_frame, complete_in, complete, settle_frame, settle_in, settle}
use Rattle.js_parse_core.specs.Statements.{to_else, else_behind, ends_statement}
use Rattle.js_parse_core.specs.Statements.{end as end_of}
use Rattle.js_grammar.specs.Marks.{Seen, Want, Matches, IsOneOf, mark, one}
use Rattle.js_parse_core.specs.Outer.{first_frame, is_body}
use Rattle.js_parse_core.proofs.BareStatements.{full_if, full_for, full_for_of, full_while}
use Rattle.js_parse_core.proofs.Spelled.{is_line, lined}
use Rattle.js_parse_core.proofs.SpelledLemmas.{Filled, filled_cons}
use Rattle.js_parse_core.proofs.UniqueForms.{Parted, parted}
use Rattle.js_parse_core.proofs.CountedCovers.{Covers, covers_same, covers_trans}
use Rattle.js_parse_core.proofs.CountedForms.{up, stmt_at, stmts_at, braced_at}
use Rattle.js_parse_core.proofs.CountedStatements.{declaration_at, body_at, is_block, body_other, body_block, stmt_block, stmts_push, stmt_if, stmt_if_else, stmt_for, stmt_for_of, stmt_while, other_if, other_for, other_for_of, other_while}
use Rattle.js_parse_core.proofs.CountedSpelled.{commaed_at, declared_level, declared_head, declared_front, plain_level, block_level, levels, level, front, spell, waits, tested, body_front, block_front, end_before, items_with, whole_items, between, spelled_at, spelled}
use Rattle.js_parse_core.proofs.CountedLemmas.{push_stmt, items_covers, just_maybe, spell_append}
use Rattle.js_parse_core.proofs.CountedFolds.{levels_rise}
use Rattle.js_parse_core.proofs.CountedGrows.{Known, below_reaches, seen_of, Reaches, reaches_back, reaches_front, Shows, shows_end, shows_word, at_open, at_close, Added, Adds, Grows, adds_to, adds_from, adds_same, grows_cond}

-- ---- a statement where it stands

-- the braces of a body are the body
abbrev pub placed_in : ℕ → ℕ → Frame → Stmt → List Form
placed_in n m (frame.Body x) s = body_at n s
placed_in n m _ s = stmt_at m s

abbrev pub placed : List Open → Stmt → List Form
placed [] s = stmt_at 0 s
placed (f ∷ fs) s = placed_in (levels fs) (levels (f ∷ fs)) f.frame s

abbrev with_frame : ℕ → Frame → List Open → List Open
with_frame n f fs = record { constructs = n; frame = f } ∷ fs

pub placed_other : (fs : List Open) (s : Stmt) → is_block s ≡ false → placed fs s ≡ stmt_at (levels fs) s
placed_other [] s e = refl
placed_other (f ∷ fs) s e = in_frame f.constructs f.frame
  where
    in_frame : (n : ℕ) (g : Frame) → placed_in (levels fs) (levels (record { constructs = n; frame = g } ∷ fs)) g s ≡ stmt_at (levels (record { constructs = n; frame = g } ∷ fs)) s
    in_frame n (frame.Body x) = body_other (levels fs) s e
    in_frame n _ = refl

abbrev pub plain_in : List Open → ℕ
plain_in fs = plain_level (levels fs) (is_body (first_frame fs))

pub placed_block : (fs : List Open) (ss : List Stmt) → placed fs (stmt.Block ss) ≡ braced_at (plain_in fs) (stmts_at (plain_in fs) ss)
placed_block [] ss = stmt_block 0 ss
placed_block (f ∷ fs) ss = in_frame f.constructs f.frame
  where
    in_frame : (n : ℕ) (g : Frame) → placed_in (levels fs) (levels (with_frame n g fs)) g (stmt.Block ss) ≡ braced_at (plain_in (with_frame n g fs)) (stmts_at (plain_in (with_frame n g fs)) ss)
    in_frame n (frame.Body x) = body_block (levels fs) ss
    in_frame n g = stmt_block (levels (with_frame n g fs)) ss

-- ---- without a token

-- the state has read these forms, and no more than m constructs are open
abbrev pub Leads : ℕ → List Form → Step → Type 0
Leads m b (Ok n) = Covers b (spelled n) × (level n ≤ m)
Leads m b (Err k) = Unit {0}

-- .. and stands between statements
abbrev pub Settles : ℕ → List Form → Step → Type 0
Settles m b (Ok n) = Covers b (between n.outer.items n.outer.frames) × (levels n.outer.frames ≤ m)
Settles m b (Err k) = Unit {0}

pub grows_leads : (l m : ℕ) (a : List Form) (t : Token) (b : List Form) (x : Step) → ((n : ℕ) → n ≤ m → Adds l a t b n) → Leads m b x → Grows l a t x
grows_leads l m a t b (Ok n) h w = adds_to l (level n) a t b (spelled n) (h (level n) w.1) w.0
grows_leads l m a t b (Err k) h w = tt

-- the statement stands where its items or frames want one
abbrev pub Stands : List Form → List Item → List Open → Stmt → Type 0
Stands b is [] s = Covers b (items_with (end_before (item.Stmt s) ∷ []) is ++ stmt_at 0 s)
Stands b is (f ∷ fs) s = Covers b (whole_items is ++ spell (f ∷ fs) (placed (f ∷ fs) s))

pub stands_full : (b : List Form) (is : List Item) (fs : List Open) (s : Stmt) → is_empty s ≡ false → Covers b (whole_items is ++ spell fs (placed fs s)) → Stands b is fs s
stands_full b is [] s e c = subst (λ (z : Bool). Covers b (items_with (cond z (up 0 (just p.Semicolon)) (up 0 (maybe (sign p.Semicolon))) ∷ []) is ++ stmt_at 0 s)) (sym e) c
stands_full b is (f ∷ fs) s e c = c

add_item_covers : (b : List Form) (is : List Item) (s : Stmt) → Stands b is [] s → Covers b (items_with (up 0 (just p.Semicolon) ∷ []) (is ++ item.Stmt s ∷ []))
add_item_covers b is s c = covers_trans b _ _ c (covers_same _ _ (sym (push_stmt (up 0 (just p.Semicolon) ∷ []) is s)))

block_push : (is : List Item) (fs : List Open) (n m : ℕ) (c : Bool) (b : Block) (ss : List Stmt) (s : Stmt) → whole_items is ++ spell fs ((block_front n c b ++ stmts_at m ss) ++ stmt_at m s) ≡ whole_items is ++ spell fs (block_front n c b ++ stmts_at m (ss ++ s ∷ []))
block_push is fs n m c b ss s = ap (λ (z : List Form). whole_items is ++ spell fs z) (append_assoc (block_front n c b) (stmts_at m ss) (stmt_at m s) ∙ ap (λ (z : List Form). block_front n c b ++ z) (sym (stmts_push m ss s)))

with_body_forms : (n : ℕ) (b : Body) (s : Stmt) → body_front n b ++ body_at n s ≡ stmt_at n (with_body b s)
with_body_forms n (body.Then test) s = simp append_assoc (sym (stmt_if n test s))
with_body_forms n (body.Else test a) s = simp append_assoc (sym (stmt_if_else n test a s))
with_body_forms n (body.For begin test update) s = simp append_assoc (sym (stmt_for n begin test update s))
with_body_forms n (body.ForOf k m x) s = simp append_assoc (sym (stmt_for_of n k m x s))
with_body_forms n (body.While test) s = simp append_assoc (sym (stmt_while n test s))

full_with_body : (b : Body) (s : Stmt) → is_empty (with_body b s) ≡ false
full_with_body (body.Then test) s = full_if test s None
full_with_body (body.Else test a) s = full_if test a (Some s)
full_with_body (body.For begin test update) s = full_for begin test update s
full_with_body (body.ForOf k n x) s = full_for_of k n x s
full_with_body (body.While test) s = full_while test s

other_with_body : (b : Body) (s : Stmt) → is_block (with_body b s) ≡ false
other_with_body (body.Then test) s = other_if test s None
other_with_body (body.Else test a) s = other_if test a (Some s)
other_with_body (body.For begin test update) s = other_for begin test update s
other_with_body (body.ForOf k n x) s = other_for_of k n x s
other_with_body (body.While test) s = other_while test s

in_body_stands : (b : List Form) (is : List Item) (fs : List Open) (x : Body) (s : Stmt) → Covers b (whole_items is ++ spell fs (body_front (levels fs) x ++ body_at (levels fs) s)) → Stands b is fs (with_body x s)
in_body_stands b is fs x s c =
    stands_full b is fs (with_body x s) (full_with_body x s)
    (covers_trans b _ _ c (covers_same _ _ (ap (λ (z : List Form). whole_items is ++ spell fs z) (with_body_forms (levels fs) x s ∙ sym (placed_other fs (with_body x s) (other_with_body x s))))))

complete_body_leads : (m : ℕ) (b : List Form) (o : Outer) (fs : List Open) (x : Body) (s : Stmt) → levels fs ≤ m → Covers b (whole_items o.items ++ spell fs (body_front (levels fs) x ++ body_at (levels fs) s))
    → ((u : Stmt) → Stands b o.items fs u → Leads m b (complete_in o fs u)) → Leads m b (complete_body (framed o fs) x s (λ u. complete_in o fs u))
complete_body_leads m b o fs (body.Then test) s w c go = (covers_trans b _ _ c (covers_same _ _ (ap (λ (z : List Form). whole_items o.items ++ spell fs z) (simp append_assoc))), w)
complete_body_leads m b o fs (body.Else test a) s w c go = go (with_body (body.Else test a) s) (in_body_stands b o.items fs (body.Else test a) s c)
complete_body_leads m b o fs (body.For begin test update) s w c go = go (with_body (body.For begin test update) s) (in_body_stands b o.items fs (body.For begin test update) s c)
complete_body_leads m b o fs (body.ForOf k n x) s w c go = go (with_body (body.ForOf k n x) s) (in_body_stands b o.items fs (body.ForOf k n x) s c)
complete_body_leads m b o fs (body.While test) s w c go = go (with_body (body.While test) s) (in_body_stands b o.items fs (body.While test) s c)

complete_frame_leads : (m : ℕ) (b : List Form) (o : Outer) (fs : List Open) (n : ℕ) (f : Frame) (s : Stmt) → levels (with_frame n f fs) ≤ m → levels fs ≤ m
    → Covers b (whole_items o.items ++ spell fs (lined (is_line f) (front fs f) (placed (with_frame n f fs) s)))
    → ((u : Stmt) → Stands b o.items fs u → Leads m b (complete_in o fs u)) → Leads m b (complete_frame (framed o fs) n f s (λ u. complete_in o fs u))
complete_frame_leads m b o fs n (frame.Block x ss) s v w c go = (covers_trans b _ _ c (covers_same _ _ (block_push o.items fs (levels fs) (block_level (levels fs) (is_body (first_frame fs)) x) (is_body (first_frame fs)) x ss s)), v)
complete_frame_leads m b o fs n (frame.Body x) s v w c go = complete_body_leads m b o fs x s w c go
complete_frame_leads m b o fs n _ s v w c go = tt

pub complete_leads : (m : ℕ) (b : List Form) (o : Outer) (fs : List Open) (s : Stmt) → levels fs ≤ m → Stands b o.items fs s → Leads m b (complete_in o fs s)
complete_leads m b o [] s w c = (add_item_covers b o.items s c, w)
complete_leads m b o (f ∷ fs) s w c = complete_frame_leads m b o fs f.constructs f.frame s w (le_trans (levels_rise f fs) w) c (λ u h. complete_leads m b o fs u (le_trans (levels_rise f fs) w) h)

settle_frame_leads : (m : ℕ) (b : List Form) (o : Outer) (fs : List Open) (n : ℕ) (f : Frame) (s : Stmt) → levels (with_frame n f fs) ≤ m → Covers b (whole_items o.items ++ spell fs (lined (is_line f) (front fs f) (placed (with_frame n f fs) s)))
    → ((u : Stmt) → Stands b o.items fs u → Settles m b (settle_in o fs u)) → Settles m b (settle_frame (framed o fs) n f s (λ u. settle_in o fs u))
settle_frame_leads m b o fs n (frame.Block x ss) s v c go = (covers_trans b _ _ c (covers_same _ _ (block_push o.items fs (levels fs) (block_level (levels fs) (is_body (first_frame fs)) x) (is_body (first_frame fs)) x ss s)), v)
settle_frame_leads m b o fs n (frame.Body x) s v c go = go (with_body x s) (in_body_stands b o.items fs x s c)
settle_frame_leads m b o fs n _ s v c go = tt

pub settle_leads : (m : ℕ) (b : List Form) (o : Outer) (fs : List Open) (s : Stmt) → levels fs ≤ m → Stands b o.items fs s → Settles m b (settle_in o fs s)
settle_leads m b o [] s w c = (add_item_covers b o.items s c, w)
settle_leads m b o (f ∷ fs) s w c = settle_frame_leads m b o fs f.constructs f.frame s w c (λ u h. settle_leads m b o fs u (le_trans (levels_rise f fs) w) h)

pub complete_full : (o : Outer) (s : Stmt) → is_empty s ≡ false → Leads (levels o.frames) (whole_items o.items ++ spell o.frames (placed o.frames s)) (complete o s)
complete_full o s e = complete_leads (levels o.frames) _ o o.frames s (le_refl (levels o.frames)) (stands_full _ o.items o.frames s e (covers_same _ _ refl))

pub settle_full : (o : Outer) (s : Stmt) → is_empty s ≡ false → Settles (levels o.frames) (whole_items o.items ++ spell o.frames (placed o.frames s)) (settle o s)
settle_full o s e = settle_leads (levels o.frames) _ o o.frames s (le_refl (levels o.frames)) (stands_full _ o.items o.frames s e (covers_same _ _ refl))

-- ---- with a token

-- the last token of a statement, m constructs open
pub last_grows : (l m : ℕ) (o : Outer) (s : Stmt) (b : List Form) (f : Form) (t : Token) → levels o.frames ≤ m → m ≤ l → is_empty s ≡ false → Filled b → b ++ up m f ∷ [] ≡ placed o.frames s → Shows m f t
    → Grows l (whole_items o.items ++ spell o.frames b) t (complete o s)
last_grows l m o s b f t u v e d h w =
    grows_leads l (levels o.frames) _ t (whole_items o.items ++ spell o.frames (placed o.frames s)) (complete o s)
    (λ n k. adds_same l n o.items o.frames b (placed o.frames s) m f t (at_close l m n (le_trans k u) v) d h w) (complete_full o s e)

pub end_grows : (l : ℕ) (o : Outer) (s : Stmt) (b : List Form) (t : Token) (k : Refusal) → levels o.frames ≤ l → is_empty s ≡ false → is_block s ≡ false → Filled b → b ++ up (levels o.frames) end ∷ [] ≡ stmt_at (levels o.frames) s
    → Grows l (whole_items o.items ++ spell o.frames b) t (end_of false o s t k)
end_grows l o s b t k v e i d h =
    grows_cond l _ t (ends_statement false t.kind) (complete o s) (Err k)
    (λ w. last_grows l (levels o.frames) o s b end t (le_refl (levels o.frames)) v e d (h ∙ sym (placed_other o.frames s i)) (shows_end (levels o.frames) t t.kind refl w)) (λ w. tt)

-- so many constructs are open at a mark among these
pub reaches_mark : (m : ℕ) (w : Want) (c fs : List Form) (ss : List Seen) → Matches (c ++ up m (one (mark w)) ∷ fs) ss → Reaches m ss
reaches_mark m w c fs ss h = within (parted c (up m (one (mark w)) ∷ fs) ss h)
  where
    one_reaches : (a : List Seen) → IsOneOf (up m (one (mark w))) a → Reaches m a
    one_reaches a (inl k) = subst (Reaches m) (sym k.2) (inl (subst (λ (z : ℕ). m ≤ z) (sym k.3.constructs) (omega arith)))
    one_reaches a (inr k) = absurd k

    within : Parted c (up m (one (mark w)) ∷ fs) ss → Reaches m ss
    within r = subst (Reaches m) (sym r.parts) (reaches_back m r.front r.back (subst (Reaches m) (sym r.is_back.2) (reaches_front m r.is_back.0 r.is_back.1 (one_reaches r.is_back.0 r.is_back.3))))

-- behind `else` as many constructs are open as in the brackets before
pub else_adds : (l : ℕ) (is : List Item) (fs : List Open) (test : Expr) (s : Stmt) (t : Token) → t.kind ≡ tok.Reserved r.Else
    → Adds l (whole_items is ++ spell fs (up (levels fs) (reserved r.If) ∷ tested (levels fs) test (body_at (levels fs) s))) t (whole_items is ++ spell fs (body_front (levels fs) (body.Else test s))) (levels fs + 1)
else_adds l is fs test s t e = record {
  adds = λ ss h.
      let r : Added l ss t (whole_items is ++ spell fs (body_front (levels fs) (body.Else test s))) (levels fs) =
      (adds_same l (levels fs) is fs _ (body_front (levels fs) (body.Else test s)) (levels fs) (reserved r.Else) t (at_open l (levels fs)) (filled_cons _ _) (simp append_assoc) (shows_word (levels fs) r.Else t e)).adds ss h in
      record {
        constructs = r.constructs;
        matches = r.matches;
        above = reaches_front (levels fs + 1) ss (seen_of t r.constructs ∷ []) (bracket ss h);
        below = λ most all a b. r.below most all a (le_trans (omega arith) b);
      };
}
  where
    bracket : (ss : List Seen) → Matches (whole_items is ++ spell fs (up (levels fs) (reserved r.If) ∷ tested (levels fs) test (body_at (levels fs) s))) ss → Reaches (levels fs + 1) ss
    bracket ss h =
        reaches_mark (levels fs + 1) _ (whole_items is ++ spell fs (up (levels fs) (reserved r.If) ∷ [])) _ ss
        (subst (λ (z : List Form). Matches z ss)
        (ap (λ (z : List Form). whole_items is ++ z) (spell_append fs (up (levels fs) (reserved r.If) ∷ []) (tested (levels fs) test (body_at (levels fs) s)) (filled_cons _ _))
        ∙ sym (append_assoc (whole_items is) (spell fs (up (levels fs) (reserved r.If) ∷ [])) (tested (levels fs) test (body_at (levels fs) s)))) h)

to_else_grows : (l : ℕ) (b : List Form) (t : Token) (o : Outer) (a : At) → Covers b (spelled_at o.items o.frames a) → t.kind ≡ tok.Reserved r.Else → Grows l b t (to_else o a)
to_else_grows l b t o (at.AfterThen test s) c e = adds_from l _ b _ t _ c (else_adds l o.items o.frames test s t e)
to_else_grows l b t o _ c e = tt

pub else_grows : (l m : ℕ) (b : List Form) (t : Token) (x : Step) → Leads m b x → t.kind ≡ tok.Reserved r.Else → Grows l b t (else_behind x)
else_grows l m b t (Ok n) c e = to_else_grows l b t n.outer n.at c.0 e
else_grows l m b t (Err k) c e = tt

-- between statements an `export default` may have had its `;`
pub between_covers : (is : List Item) (fs : List Open) → Covers (between is fs) (whole_items is ++ waits fs)
between_covers is [] = covers_trans _ (whole_items is) _ (items_covers _ _ is (just_maybe 0 (sign p.Semicolon) [])) (covers_same _ _ (sym (append-nil (whole_items is))))
between_covers is (f ∷ fs) = covers_same _ _ refl

-- within the brackets of a `for` as many constructs are open as at the first
pub declared_known : (l : ℕ) (is : List Item) (fs : List Open) (d : Declared) (x : List Form) → levels fs ≤ l → Known l (whole_items is ++ spell fs (declared_front (levels fs) d ++ x)) (declared_level (levels fs) d.in_for)
declared_known l is fs d x v ss h most all w = either d.in_for h
  where
    either : (b : Bool) → Matches (whole_items is ++ spell fs ((declared_head (levels fs) b d.kind ++ commaed_at (declared_level (levels fs) d.in_for) (map (declaration_at (declared_level (levels fs) d.in_for)) d.declarations)) ++ x)) ss → declared_level (levels fs) b ≤ most
    either true k =
        below_reaches (levels fs + 1) most ss
        (reaches_mark (levels fs + 1) _ (whole_items is ++ spell fs (up (levels fs) (reserved r.For) ∷ [])) _ ss
        (subst (λ (z : List Form). Matches z ss)
        (ap (λ (z : List Form). whole_items is ++ z) (spell_append fs (up (levels fs) (reserved r.For) ∷ []) _ (filled_cons _ _))
        ∙ sym (append_assoc (whole_items is) (spell fs (up (levels fs) (reserved r.For) ∷ [])) _)) k)) all
    either false k = le_trans v w
