-- What states have read, with how many constructs are open, when it grows.
use Rattle.std.proofs.Common.{◌≡◌, ℕ, ◌+◌, Bool, true, false, List, [], ◌∷◌, ◌++◌, map, refl, sym, ◌∙◌, ap, subst, append_assoc, inl, inr}
use Rattle.std.proofs.lemmas.Bool.{false≢true}
use Rattle.std.proofs.lemmas.List.{append-nil}
use Rattle.js_lex.specs.declared.token.Punctuator.{Punctuator}
use Rattle.js_lex.specs.declared.token.Punctuator.TheVariants as p
use Rattle.js_lex.specs.declared.token.TemplatePart.{TemplatePart}
use Rattle.js_lex.specs.declared.token.TemplatePart.TheVariants as part
use Rattle.js_tree.specs.declared.tree.Expr.{Expr}
use Rattle.js_tree.specs.declared.tree.Expr.TheVariants as expr
use Rattle.js_tree.specs.declared.tree.Item.{Item}
use Rattle.js_tree.specs.declared.tree.Item.TheVariants as item
use Rattle.js_tree.specs.declared.tree.Name.{Name}
use Rattle.js_tree.specs.declared.tree.Property.{Property}
use Rattle.js_tree.specs.declared.tree.Stmt.{Stmt}
use Rattle.js_tree.specs.declared.tree.TemplateItem.{TemplateItem, roll-TemplateItem}
use Rattle.js_parse_core.specs.declared.machine.Block.{Block}
use Rattle.js_parse_core.specs.declared.machine.Block.TheVariants as block
use Rattle.js_parse_core.specs.declared.machine.Body.{Body}
use Rattle.js_parse_core.specs.declared.machine.Body.TheVariants as body
use Rattle.js_parse_core.specs.declared.machine.Declared.{Declared}
use Rattle.js_parse_core.specs.declared.machine.Frame.{Frame}
use Rattle.js_parse_core.specs.declared.machine.Frame.TheVariants as frame
use Rattle.js_parse_core.specs.declared.machine.Head.{Head}
use Rattle.js_parse_core.specs.declared.machine.Head.TheVariants as head
use Rattle.js_parse_core.specs.declared.machine.Open.{Open}
use Rattle.js_parse_core.specs.declared.machine.Operator.{Operator}
use Rattle.js_parse_core.specs.declared.machine.Operator.TheVariants as operator
use Rattle.js_parse_core.specs.declared.machine.Purpose.TheVariants as purpose
use Rattle.js_parse_core.specs.declared.machine.Tail.{Tail}
use Rattle.js_parse_core.specs.declared.machine.Tail.TheVariants as tail
use Rattle.js_parse_core.specs.Outer.{first_frame, is_body}
use Rattle.js_grammar.specs.Marks.{Mark, Form, unbroken, one, just, sign, maybe, first_unbroken, on_one_line}
use Rattle.js_grammar.specs.Grammar.{template_mark, of_expr}
use Rattle.js_parse_core.proofs.UniqueForms.{parted}
use Rattle.js_parse_core.proofs.CountedCovers.{Covers, covers_same, covers_trans, covers_behind, covers_before, covers_none, covers_wider, Within, within_same, within_trans, within_behind}
use Rattle.js_parse_core.proofs.Bare.{bare, expr_forms}
use Rattle.js_parse_core.proofs.Spelled.{unread, is_line, lined, ends_with_export}
use Rattle.js_parse_core.proofs.SpelledLemmas.{filled_expr as bare_filled}
use Rattle.js_parse_core.proofs.SpelledLemmas.{Filled, filled_cons, filled_behind, filled_before, line_append, filled_line}
use Rattle.js_parse_core.proofs.CountedForms.{up, raised, more_at, separated_at, listed_at, perhaps_at, expr_at, target_at, stmt_at, arrow_at, rest_at, expr_template}
use Rattle.js_parse_core.proofs.CountedSpelled.{commaed_at, ended_at, levels, operator_front, tail_front, callee_at, hole_front, declared_head, declared_front, body_front, head_front, block_front, export_front, front, spell, waits_in, waits, export_forms, end_before, items_with, whole_items}

-- ---- forms that are not empty

abbrev IsFilled : List Form → Type 0
IsFilled [] = ⊥
IsFilled (f ∷ fs) = Unit {0}

filled_raised : (n : ℕ) (fs : List Form) → Filled (bare fs) → Filled (raised n fs)
unfolding bare raised
filled_raised n [] s = absurd (subst IsFilled (sym s.is) tt)
filled_raised n (f ∷ fs) s = filled_cons _ _

pub filled_expr : (n : ℕ) (x : Expr) → Filled (expr_at n x)
unfolding expr_forms expr_at
filled_expr n x = filled_raised n (of_expr x).forms (bare_filled x)

pub filled_async : (n : ℕ) (a : Bool) (f : Form) (fs : List Form) → Filled (perhaps_at n a (f ∷ fs))
filled_async n true f fs = filled_cons _ _
filled_async n false f fs = filled_cons _ _

async_filled : (n : ℕ) (a : Bool) (fs : List Form) → Filled fs → Filled (perhaps_at n a fs)
async_filled n a fs s = subst (λ (z : List Form). Filled (perhaps_at n a z)) (sym s.is) (filled_async n a s.first s.others)

filled_parameters : (n : ℕ) (ns : List Name) → Filled (arrow_at n ns)
unfolding raised
filled_parameters n [] = filled_cons _ _
filled_parameters n (x ∷ []) = filled_cons _ _
filled_parameters n (x ∷ y ∷ ns) = filled_cons _ _

pub filled_names : (n : ℕ) (a : Bool) (ns : List Name) → Filled (perhaps_at n a (arrow_at n ns))
filled_names n a ns = async_filled n a (arrow_at n ns) (filled_parameters n ns)

-- ---- frames

lined_append : (b : Bool) (c r x : List Form) → Filled r → lined b c (r ++ x) ≡ lined b c r ++ x
lined_append true c r x s = ap (λ (z : List Form). c ++ z) (line_append r x s) ∙ sym (append_assoc c (on_one_line r) x)
lined_append false c r x s = sym (append_assoc c r x)

filled_lined : (b : Bool) (c r : List Form) → Filled r → Filled (lined b c r)
filled_lined true c r s = filled_behind c (on_one_line r) (filled_line r s)
filled_lined false c r s = filled_behind c r s

pub spell_append : (fs : List Open) (r x : List Form) → Filled r → spell fs (r ++ x) ≡ spell fs r ++ x
spell_append [] r x s = refl
spell_append (f ∷ fs) r x s =
    ap (spell fs) (lined_append (is_line f.frame) (front fs f.frame) r x s)
    ∙ spell_append fs (lined (is_line f.frame) (front fs f.frame) r) x (filled_lined (is_line f.frame) (front fs f.frame) r s)

front_within : (c a b : List Form) → Within a b → Within (c ++ a) (c ++ b)
front_within [] a b w = w
front_within (f ∷ c) a b w = within_behind f (c ++ a) (c ++ b) (covers_behind c a b w.all)

pub within_front : (c a b : List Form) → Filled c → Covers a b → Within (c ++ a) (c ++ b)
within_front c a b s w = subst (λ (z : List Form). Within (z ++ a) (z ++ b)) (sym s.is) (within_behind s.first (s.others ++ a) (s.others ++ b) (covers_behind s.others a b w))

line_within : (a b : List Form) → Within a b → Within (on_one_line a) (on_one_line b)
line_within a b w = record { all = w.on_line; on_line = covers_trans _ (on_one_line a) _ (covers_same _ _ (twice a)) (covers_trans _ (on_one_line b) _ w.on_line (covers_same _ _ (sym (twice b)))) }
  where
    twice_form : (f : Form) → map first_unbroken (map first_unbroken f) ≡ map first_unbroken f
    twice_form [] = refl
    twice_form ([] ∷ f) = ap (λ (z : Form). [] ∷ z) (twice_form f)
    twice_form ((m ∷ ms) ∷ f) = ap (λ (z : Form). (unbroken m ∷ ms) ∷ z) (twice_form f)

    twice : (fs : List Form) → on_one_line (on_one_line fs) ≡ on_one_line fs
    twice [] = refl
    twice (f ∷ fs) = ap (λ (z : Form). z ∷ fs) (twice_form f)

lined_within : (l : Bool) (c a b : List Form) → Within a b → Within (lined l c a) (lined l c b)
lined_within true c a b w = front_within c (on_one_line a) (on_one_line b) (line_within a b w)
lined_within false c a b w = front_within c a b w

pub spell_within : (fs : List Open) (a b : List Form) → Within a b → Within (spell fs a) (spell fs b)
spell_within [] a b w = w
spell_within (f ∷ fs) a b w = spell_within fs _ _ (lined_within (is_line f.frame) (front fs f.frame) a b w)

-- nothing fits where a form has no alternatives
pub record Barred (fs : List Form) : Type 0 where
  before : List Form
  behind : List Form
  is : fs ≡ before ++ [] ∷ behind

pub barred_none : (fs : List Form) → Barred ([] ∷ fs)
barred_none fs = record { before = []; behind = fs; is = refl }

barred_behind : (c fs : List Form) → Barred fs → Barred (c ++ fs)
barred_behind c fs n = record { before = c ++ n.before; behind = n.behind; is = ap (λ (z : List Form). c ++ z) n.is ∙ sym (append_assoc c n.before ([] ∷ n.behind)) }

barred_line : (fs : List Form) → Barred fs → Barred (on_one_line fs)
barred_line fs n = subst (λ (z : List Form). Barred (on_one_line z)) (sym n.is) (either n.before)
  where
    either : (c : List Form) → Barred (on_one_line (c ++ [] ∷ n.behind))
    either [] = barred_none n.behind
    either (f ∷ c) = record { before = map first_unbroken f ∷ c; behind = n.behind; is = refl }

barred_lined : (l : Bool) (c fs : List Form) → Barred fs → Barred (lined l c fs)
barred_lined true c fs n = barred_behind c (on_one_line fs) (barred_line fs n)
barred_lined false c fs n = barred_behind c fs n

barred_spell : (fs : List Open) (a : List Form) → Barred a → Barred (spell fs a)
barred_spell [] a n = n
barred_spell (f ∷ fs) a n = barred_spell fs _ (barred_lined (is_line f.frame) (front fs f.frame) a n)

barred_covers : (a b : List Form) → Barred a → Covers a b
barred_covers a b n = covers_trans a (n.before ++ [] ∷ n.behind) b (covers_same _ _ n.is) (record { covers = λ ss h. absurd (parted n.before ([] ∷ n.behind) ss h).is_back.3 })

pub spell_none : (is : List Form) (fs : List Open) (a b : List Form) → Covers (is ++ spell fs ([] ∷ a)) b
spell_none is fs a b = barred_covers _ b (barred_behind is _ (barred_spell fs ([] ∷ a) (barred_none a)))

-- ---- frames, and what may follow a line end in them

filled_template : (m : ℕ) (k : TemplatePart) (is : List TemplateItem) (u : List ℕ) → Filled (hole_front m k is u)
filled_template m k [] u = filled_cons _ _
filled_template m k (i ∷ is) u = filled_cons _ _

filled_operator : (n : ℕ) (o : Operator) → Filled (operator_front n o)
filled_operator n (operator.Binary x o) = filled_behind (expr_at n x) _ (filled_cons _ _)
filled_operator n (operator.Unary o) = filled_cons _ _
filled_operator n (operator.Await q) = filled_cons _ _
filled_operator n (operator.Update o) = filled_cons _ _

filled_tail : (n : ℕ) (t : Tail) → Filled (tail_front n t)
filled_tail n (tail.Assign o t) = filled_behind (target_at n t) _ (filled_cons _ _)
filled_tail n (tail.Else test x) = filled_behind (expr_at n test) _ (filled_cons _ _)
filled_tail n (tail.Arrow a ns) = filled_before _ _ (filled_names n a ns)

pub filled_declared : (n : ℕ) (d : Declared) → Filled (declared_front n d)
filled_declared n d = filled_before _ _ (head_of d.in_for)
  where
    head_of : (b : Bool) → Filled (declared_head n b d.kind)
    head_of true = filled_cons _ _
    head_of false = filled_cons _ _

filled_body : (n : ℕ) (b : Body) → Filled (body_front n b)
filled_body n (body.Then test) = filled_cons _ _
filled_body n (body.Else test a) = filled_cons _ _
filled_body n (body.For b test update) = filled_cons _ _
filled_body n (body.ForOf k m x) = filled_cons _ _
filled_body n (body.While test) = filled_cons _ _

pub filled_head : (n : ℕ) (h : Head) → Filled (head_front n h)
filled_head n (head.Declaration a m) = filled_async n a _ _
filled_head n (head.Expression a m) = filled_async n a _ _
filled_head n (head.Method a xs k) = filled_cons _ _

pub filled_block : (n : ℕ) (c : Bool) (b : Block) → Filled (block_front n c b)
filled_block n c block.Plain = filled_cons _ _
filled_block n c (block.Function h ns) = filled_before _ _ (filled_head n h)
filled_block n c (block.Arrow a ns) = filled_before _ _ (filled_names n a ns)
filled_block n c block.Try = filled_cons _ _
filled_block n c (block.Catch tried m) = filled_cons _ _
filled_block n c (block.Finally tried x) = filled_cons _ _

filled_export : (n : ℕ) (fs : List Open) → Filled (export_front n fs)
filled_export n [] = filled_cons _ _
filled_export n (f ∷ fs) = filled_cons _ _

-- what comes behind these forms comes into the innermost frame
pub record Enters (a : List Form) (fs : List Open) : Type 0 where
  pub enters : (x : List Form) → Covers (a ++ x) (spell fs x)

pub enters_front : (fs : List Open) (c : List Form) (f : Open) → Filled c → c ≡ front fs f.frame → is_line f.frame ≡ false → Enters (spell fs c) (f ∷ fs)
enters_front fs c f s e l = record {
  enters = λ x. covers_same _ _ (sym (spell_append fs c x s) ∙ ap (λ (z : List Form). spell fs (z ++ x)) e ∙ ap (λ (b : Bool). spell fs (lined b (front fs f.frame) x)) (sym l));
}

enters_none : (fs : List Open) → Enters unread fs
enters_none fs = record { enters = λ x. covers_none x (spell fs x) }

pub enters_waits : (fs : List Open) → Enters (waits fs) fs
enters_waits [] = record { enters = λ x. covers_same _ _ refl }
enters_waits (f ∷ fs) = in_frame (enters_waits fs) f.frame refl
  where
    in_frame : Enters (waits fs) fs → (g : Frame) → f.frame ≡ g → Enters (waits_in fs g (waits fs)) (f ∷ fs)
    in_frame w (frame.Operator x) e = enters_front fs _ f (filled_operator (levels fs) x) (sym (ap (front fs) e)) (ap is_line e)
    in_frame w (frame.Tail x) e = enters_front fs _ f (filled_tail (levels fs) x) (sym (ap (front fs) e)) (ap is_line e)
    in_frame w (frame.Body x) e = enters_front fs _ f (filled_body (levels fs) x) (sym (ap (front fs) e)) (ap is_line e)
    in_frame w (frame.Block b ss) e = enters_front fs _ f (filled_before _ _ (filled_block (levels fs) (is_body (first_frame fs)) b)) (sym (ap (front fs) e)) (ap is_line e)
    in_frame w frame.Export e = enters_front fs _ f (filled_export (levels fs) fs) (sym (ap (front fs) e)) (ap is_line e)
    in_frame w (frame.Purpose (purpose.Return q)) e = enters_none (f ∷ fs)
    in_frame w (frame.Purpose purpose.Throw) e = enters_none (f ∷ fs)
    in_frame w (frame.Purpose purpose.Statement) e =
        record {
          enters = λ x. covers_trans _ (spell fs x) _ (w.enters x)
              (covers_same _ _ (ap (λ (z : List Form). spell fs (z ++ x)) (sym (ap (front fs) e)) ∙ ap (λ (b : Bool). spell fs (lined b (front fs f.frame) x)) (sym (ap is_line e))));
        }
    in_frame w (frame.Purpose (purpose.Then test)) e = enters_front fs _ f (filled_behind (expr_at (levels fs) test) _ (filled_cons _ _)) (sym (ap (front fs) e)) (ap is_line e)
    in_frame w (frame.Purpose purpose.Group) e = enters_front fs _ f (filled_cons _ _) (sym (ap (front fs) e)) (ap is_line e)
    in_frame w (frame.Purpose (purpose.Argument c xs)) e = enters_front fs _ f (filled_behind (callee_at (levels fs) c) _ (filled_cons _ _)) (sym (ap (front fs) e)) (ap is_line e)
    in_frame w (frame.Purpose (purpose.Index y n)) e = enters_front fs _ f (filled_behind (expr_at (levels fs) y) _ (filled_cons _ _)) (sym (ap (front fs) e)) (ap is_line e)
    in_frame w (frame.Purpose (purpose.Element xs)) e = enters_front fs _ f (filled_cons _ _) (sym (ap (front fs) e)) (ap is_line e)
    in_frame w (frame.Purpose (purpose.Pair xs k)) e = enters_front fs _ f (filled_cons _ _) (sym (ap (front fs) e)) (ap is_line e)
    in_frame w (frame.Purpose (purpose.Hole is u)) e = enters_front fs _ f (filled_template (levels fs + 1) part.Head is u) (sym (ap (front fs) e)) (ap is_line e)
    in_frame w (frame.Purpose purpose.If) e = enters_front fs _ f (filled_cons _ _) (sym (ap (front fs) e)) (ap is_line e)
    in_frame w (frame.Purpose purpose.While) e = enters_front fs _ f (filled_cons _ _) (sym (ap (front fs) e)) (ap is_line e)
    in_frame w (frame.Purpose purpose.ForStart) e = enters_front fs _ f (filled_cons _ _) (sym (ap (front fs) e)) (ap is_line e)
    in_frame w (frame.Purpose (purpose.ForTest b)) e = enters_front fs _ f (filled_cons _ _) (sym (ap (front fs) e)) (ap is_line e)
    in_frame w (frame.Purpose (purpose.ForUpdate b test)) e = enters_front fs _ f (filled_cons _ _) (sym (ap (front fs) e)) (ap is_line e)
    in_frame w (frame.Purpose (purpose.ForOf k n)) e = enters_front fs _ f (filled_cons _ _) (sym (ap (front fs) e)) (ap is_line e)
    in_frame w (frame.Purpose (purpose.Initial d n)) e = enters_front fs _ f (filled_before _ _ (filled_declared (levels fs) d)) (sym (ap (front fs) e)) (ap is_line e)

pub enters_behind : (c a : List Form) (fs : List Open) (x : List Form) → Enters a fs → Covers ((c ++ a) ++ x) (c ++ spell fs x)
enters_behind c a fs x n = covers_trans _ (c ++ (a ++ x)) _ (covers_same _ _ (append_assoc c a x)) (covers_behind c (a ++ x) (spell fs x) (n.enters x))

-- ---- items

pub push_stmt : (e : List Form) (is : List Item) (s : Stmt) → items_with e (is ++ item.Stmt s ∷ []) ≡ items_with (end_before (item.Stmt s) ∷ []) is ++ stmt_at 0 s
push_stmt e [] s = append-nil (stmt_at 0 s)
push_stmt e (item.Stmt u ∷ is) s = ap (λ (z : List Form). stmt_at 0 u ++ z) (push_stmt e is s) ∙ sym (append_assoc (stmt_at 0 u) (items_with (end_before (item.Stmt s) ∷ []) is) (stmt_at 0 s))
push_stmt e (item.Export xs ∷ []) s =
    ap (λ (z : List Form). export_forms xs ++ end_before (item.Stmt s) ∷ z) (append-nil (stmt_at 0 s))
    ∙ sym (append_assoc (export_forms xs) (end_before (item.Stmt s) ∷ []) (stmt_at 0 s))
push_stmt e (item.Export xs ∷ i ∷ is) s =
    ap (λ (z : List Form). export_forms xs ++ end_before i ∷ z) (push_stmt e (i ∷ is) s)
    ∙ sym (append_assoc (export_forms xs) (end_before i ∷ items_with (end_before (item.Stmt s) ∷ []) (i ∷ is)) (stmt_at 0 s))

pub push_export : (e : List Form) (is : List Item) (xs : List Property) → items_with e (is ++ item.Export xs ∷ []) ≡ whole_items is ++ (export_forms xs ++ e)
push_export e [] xs = refl
push_export e (item.Stmt u ∷ is) xs = ap (λ (z : List Form). stmt_at 0 u ++ z) (push_export e is xs) ∙ sym (append_assoc (stmt_at 0 u) (whole_items is) (export_forms xs ++ e))
push_export e (item.Export ys ∷ []) xs = sym (append_assoc (export_forms ys) (up 0 (maybe (sign p.Semicolon)) ∷ []) (export_forms xs ++ e))
push_export e (item.Export ys ∷ i ∷ is) xs =
    ap (λ (z : List Form). export_forms ys ++ end_before i ∷ z) (push_export e (i ∷ is) xs)
    ∙ sym (append_assoc (export_forms ys) (end_before i ∷ whole_items (i ∷ is)) (export_forms xs ++ e))

pub export_end_read : (e : List Form) (is : List Item) → ends_with_export is ≡ true → items_with [] is ++ e ≡ items_with e is
export_end_read e [] h = absurd (false≢true h)
export_end_read e (item.Stmt u ∷ is) h = append_assoc (stmt_at 0 u) (items_with [] is) e ∙ ap (λ (z : List Form). stmt_at 0 u ++ z) (export_end_read e is h)
export_end_read e (item.Export ys ∷ []) h = append_assoc (export_forms ys) [] e
export_end_read e (item.Export ys ∷ i ∷ is) h = append_assoc (export_forms ys) (end_before i ∷ items_with [] (i ∷ is)) e ∙ ap (λ (z : List Form). export_forms ys ++ end_before i ∷ z) (export_end_read e (i ∷ is) h)

pub items_covers : (d e : List Form) (is : List Item) → Covers d e → Covers (items_with d is) (items_with e is)
items_covers d e [] c = covers_same [] [] refl
items_covers d e (item.Stmt u ∷ is) c = covers_behind (stmt_at 0 u) _ _ (items_covers d e is c)
items_covers d e (item.Export ys ∷ []) c = covers_behind (export_forms ys) d e c
items_covers d e (item.Export ys ∷ i ∷ is) c = covers_behind (export_forms ys) _ _ (covers_behind (end_before i ∷ []) _ _ (items_covers d e (i ∷ is) c))

-- ---- lists

pub just_maybe : (n : ℕ) (m : Mark) (fs : List Form) → Covers (up n (one m) ∷ fs) (up n (maybe m) ∷ fs)
just_maybe n m fs = covers_wider (up n (one m)) (up n (maybe m)) fs (λ ps h. elim h [ inl a ↦ inl a | inr b ↦ absurd b ])

pub none_maybe : (n : ℕ) (m : Mark) → Covers [] (up n (maybe m) ∷ [])
none_maybe n m = record { covers = λ ps e. ([], [], e, inr (inl refl), refl) }

pub nil_maybe : (n : ℕ) (fs : List Form) (m : Mark) → Covers fs (fs ++ up n (maybe m) ∷ [])
nil_maybe n fs m = covers_trans fs (fs ++ []) _ (covers_same _ _ (sym (append-nil fs))) (covers_behind fs [] (up n (maybe m) ∷ []) (none_maybe n m))

comma_more : (n : ℕ) (xs : List (List Form)) → Covers (up n (just p.Comma) ∷ commaed_at n xs) (more_at n xs ++ up n (maybe (sign p.Comma)) ∷ [])
comma_more n [] = just_maybe n (sign p.Comma) []
comma_more n (x ∷ xs) =
    covers_trans _ (up n (just p.Comma) ∷ (x ++ (more_at n xs ++ up n (maybe (sign p.Comma)) ∷ []))) _
    (covers_behind (up n (just p.Comma) ∷ []) _ _ (covers_behind x _ _ (comma_more n xs)))
    (covers_same _ _ (ap (λ (z : List Form). up n (just p.Comma) ∷ z) (sym (append_assoc x (more_at n xs) (up n (maybe (sign p.Comma)) ∷ [])))))

pub commaed_listed : (n : ℕ) (xs : List (List Form)) → Covers (commaed_at n xs) (listed_at n xs)
commaed_listed n [] = covers_same [] [] refl
commaed_listed n (x ∷ xs) = covers_trans _ (x ++ (more_at n xs ++ up n (maybe (sign p.Comma)) ∷ [])) _ (covers_behind x _ _ (comma_more n xs)) (covers_same _ _ (sym (append_assoc x (more_at n xs) (up n (maybe (sign p.Comma)) ∷ []))))

pub ended_listed : (n : ℕ) (xs : List (List Form)) → Covers (ended_at n xs) (listed_at n xs)
ended_listed n [] = covers_none [] []
ended_listed n (x ∷ xs) = nil_maybe n (x ++ more_at n xs) (sign p.Comma)

more_push : (n : ℕ) (xs : List (List Form)) (x : List Form) → more_at n (xs ++ x ∷ []) ≡ up n (just p.Comma) ∷ (commaed_at n xs ++ x)
more_push n [] x = ap (λ (z : List Form). up n (just p.Comma) ∷ z) (append-nil x)
more_push n (y ∷ xs) x = ap (λ (z : List Form). up n (just p.Comma) ∷ z) (ap (λ (z : List Form). y ++ z) (more_push n xs x) ∙ sym (append_assoc y (up n (just p.Comma) ∷ commaed_at n xs) x))

pub ended_push : (n : ℕ) (xs : List (List Form)) (x : List Form) → ended_at n (xs ++ x ∷ []) ≡ commaed_at n xs ++ x
ended_push n [] x = append-nil x
ended_push n (y ∷ xs) x = ap (λ (z : List Form). y ++ z) (more_push n xs x) ∙ sym (append_assoc y (up n (just p.Comma) ∷ commaed_at n xs) x)

pub separated_push : (n : ℕ) (xs : List (List Form)) (x : List Form) → separated_at n (xs ++ x ∷ []) ≡ commaed_at n xs ++ x
separated_push n [] x = append-nil x
separated_push n (y ∷ xs) x = ap (λ (z : List Form). y ++ z) (more_push n xs x) ∙ sym (append_assoc y (up n (just p.Comma) ∷ commaed_at n xs) x)

pub last_listed : (n : ℕ) (xs : List (List Form)) (x : List Form) → Covers (commaed_at n xs ++ x) (listed_at n (xs ++ x ∷ []))
last_listed n xs x = covers_trans _ (ended_at n (xs ++ x ∷ [])) _ (covers_same _ _ (sym (ended_push n xs x))) (ended_listed n (xs ++ x ∷ []))

pub commaed_push : (n : ℕ) (xs : List (List Form)) (x : List Form) → commaed_at n (xs ++ x ∷ []) ≡ commaed_at n xs ++ (x ++ up n (just p.Comma) ∷ [])
commaed_push n [] x = refl
commaed_push n (y ∷ xs) x = ap (λ (z : List Form). y ++ up n (just p.Comma) ∷ z) (commaed_push n xs x) ∙ sym (append_assoc y (up n (just p.Comma) ∷ commaed_at n xs) (x ++ up n (just p.Comma) ∷ []))

more_comma : (n : ℕ) (xs : List (List Form)) → more_at n xs ++ up n (just p.Comma) ∷ [] ≡ up n (just p.Comma) ∷ commaed_at n xs
more_comma n [] = refl
more_comma n (x ∷ xs) = ap (λ (z : List Form). up n (just p.Comma) ∷ z) (append_assoc x (more_at n xs) (up n (just p.Comma) ∷ []) ∙ ap (λ (z : List Form). x ++ z) (more_comma n xs))

pub ended_comma : (n : ℕ) (xs : List (List Form)) → Covers (ended_at n xs ++ up n (just p.Comma) ∷ []) (commaed_at n xs)
ended_comma n [] = covers_none _ _
ended_comma n (x ∷ xs) = covers_same _ _ (append_assoc x (more_at n xs) (up n (just p.Comma) ∷ []) ∙ ap (λ (z : List Form). x ++ z) (more_comma n xs))

-- a list in brackets, behind c: an item, and the bracket or a comma; or the bracket
pub close_item : (n : ℕ) (c : List Form) (a b : Punctuator) (xs : List (List Form)) (x : List Form) → Within (((c ++ up n (just a) ∷ commaed_at n xs) ++ x) ++ up n (just b) ∷ []) (c ++ up n (just a) ∷ (listed_at n (xs ++ x ∷ []) ++ up n (just b) ∷ []))
close_item n c a b xs x =
    within_trans _ ((c ++ up n (just a) ∷ []) ++ ((commaed_at n xs ++ x) ++ up n (just b) ∷ [])) _ (within_same _ _ (simp append_assoc))
    (within_trans _ ((c ++ up n (just a) ∷ []) ++ (listed_at n (xs ++ x ∷ []) ++ up n (just b) ∷ [])) _
    (within_front (c ++ up n (just a) ∷ []) _ _ (filled_behind c _ (filled_cons _ _)) (covers_before (commaed_at n xs ++ x) (listed_at n (xs ++ x ∷ [])) (up n (just b) ∷ []) (last_listed n xs x)))
    (within_same _ _ (append_assoc c (up n (just a) ∷ []) (listed_at n (xs ++ x ∷ []) ++ up n (just b) ∷ []))))

pub close_none : (n : ℕ) (c : List Form) (a b : Punctuator) (xs : List (List Form)) → Within ((c ++ up n (just a) ∷ commaed_at n xs) ++ up n (just b) ∷ []) (c ++ up n (just a) ∷ (listed_at n xs ++ up n (just b) ∷ []))
close_none n c a b xs =
    within_trans _ ((c ++ up n (just a) ∷ []) ++ (commaed_at n xs ++ up n (just b) ∷ [])) _ (within_same _ _ (simp append_assoc))
    (within_trans _ ((c ++ up n (just a) ∷ []) ++ (listed_at n xs ++ up n (just b) ∷ [])) _
    (within_front (c ++ up n (just a) ∷ []) _ _ (filled_behind c _ (filled_cons _ _)) (covers_before (commaed_at n xs) (listed_at n xs) (up n (just b) ∷ []) (commaed_listed n xs)))
    (within_same _ _ (append_assoc c (up n (just a) ∷ []) (listed_at n xs ++ up n (just b) ∷ []))))

pub comma_item : (n : ℕ) (c : List Form) (a : Punctuator) (xs : List (List Form)) (x : List Form) → ((c ++ up n (just a) ∷ commaed_at n xs) ++ x) ++ up n (just p.Comma) ∷ [] ≡ c ++ up n (just a) ∷ commaed_at n (xs ++ x ∷ [])
comma_item n c a xs x = rw (commaed_push n xs x) (simp append_assoc)

-- ---- templates

abbrev part_of : List ℕ → Expr → TemplateItem
part_of u x = roll-TemplateItem (record { units = u; value = x })

pub hole_middle : (m : ℕ) (k : TemplatePart) (is : List TemplateItem) (u v : List ℕ) (x : Expr) → hole_front m k (is ++ part_of u x ∷ []) v ≡ hole_front m k is u ++ (expr_at m x ++ up m (template_mark part.Middle v) ∷ [])
hole_middle m k [] u v x = refl
hole_middle m k (i ∷ is) u v x =
    ap (λ (z : List Form). up m (template_mark k i.units) ∷ (expr_at m i.value ++ z)) (hole_middle m part.Middle is u v x)
    ∙ ap (λ (z : List Form). up m (template_mark k i.units) ∷ z) (sym (append_assoc (expr_at m i.value) (hole_front m part.Middle is u) (expr_at m x ++ up m (template_mark part.Middle v) ∷ [])))

hole_tail : (m : ℕ) (k : TemplatePart) (is : List TemplateItem) (u v : List ℕ) (x : Expr) → rest_at m k (is ++ part_of u x ∷ []) v ≡ hole_front m k is u ++ (expr_at m x ++ up m (template_mark part.Tail v) ∷ [])
hole_tail m k [] u v x = refl
hole_tail m k (i ∷ is) u v x =
    ap (λ (z : List Form). up m (template_mark k i.units) ∷ (expr_at m i.value ++ z)) (hole_tail m part.Middle is u v x)
    ∙ ap (λ (z : List Form). up m (template_mark k i.units) ∷ z) (sym (append_assoc (expr_at m i.value) (hole_front m part.Middle is u) (expr_at m x ++ up m (template_mark part.Tail v) ∷ [])))

pub template_end : (n : ℕ) (is : List TemplateItem) (u v : List ℕ) (x : Expr) → expr_at n (expr.Template (is ++ part_of u x ∷ []) v) ≡ hole_front (n + 1) part.Head is u ++ (expr_at (n + 1) x ++ up (n + 1) (template_mark part.Tail v) ∷ [])
template_end n [] u v x = expr_template n (part_of u x) [] v ∙ hole_tail (n + 1) part.Head [] u v x
template_end n (i ∷ is) u v x = expr_template n i (is ++ part_of u x ∷ []) v ∙ hole_tail (n + 1) part.Head (i ∷ is) u v x
