-- What states have read, when it grows.
use Rattle.std.proofs.Common.{◌≡◌, ℕ, Bool, true, false, cond, List, [], ◌∷◌, ◌++◌, map, refl, sym, ◌∙◌, ap, subst, append_assoc, inl, inr}
use Rattle.std.proofs.lemmas.Bool.{false≢true}
use Rattle.std.proofs.lemmas.List.{append-nil}
use Rattle.js_lex.specs.declared.token.Punctuator.{Punctuator}
use Rattle.js_lex.specs.declared.token.Punctuator.TheVariants as p
use Rattle.js_lex.specs.declared.token.Reserved.TheVariants as r
use Rattle.js_lex.specs.declared.token.TemplatePart.{TemplatePart}
use Rattle.js_lex.specs.declared.token.TemplatePart.TheVariants as part
use Rattle.js_tree.specs.declared.tree.ArrowBody.TheOpen.{Expr-F}
use Rattle.js_tree.specs.declared.tree.UpdateSide.TheVariants as side
use Rattle.js_tree.specs.Targets.{Node}
use Rattle.js_tree.specs.declared.tree.Expr.{Expr, roll-Expr, out-Expr, roll-out-Expr}
use Rattle.js_tree.specs.declared.tree.Expr.TheVariants as expr
use Rattle.js_tree.specs.declared.tree.Item.{Item}
use Rattle.js_tree.specs.declared.tree.Item.TheVariants as item
use Rattle.js_tree.specs.declared.tree.Name.{Name}
use Rattle.js_tree.specs.declared.tree.Property.{Property}
use Rattle.js_tree.specs.declared.tree.Stmt.{Stmt}
use Rattle.js_tree.specs.declared.tree.TemplateItem.{TemplateItem, roll-TemplateItem}
use Rattle.js_grammar.specs.Marks.{Mark, Form, unbroken, one, just, sign, maybe, first_unbroken, on_one_line, more, separated, listed}
use Rattle.js_grammar.specs.Grammar.{reserved, perhaps_async, template_mark, of_stmt, of_tree, of_export, export_end, is_empty}
use Rattle.js_parse_core.specs.declared.machine.Block.{Block}
use Rattle.js_parse_core.specs.declared.machine.Block.TheVariants as block
use Rattle.js_parse_core.specs.declared.machine.Body.{Body}
use Rattle.js_parse_core.specs.declared.machine.Body.TheVariants as body
use Rattle.js_parse_core.specs.declared.machine.Declared.{Declared}
use Rattle.js_parse_core.specs.declared.machine.Frame.{Frame}
use Rattle.js_parse_core.specs.declared.machine.Frame.TheVariants as frame
use Rattle.js_parse_core.specs.declared.machine.Head.{Head}
use Rattle.js_parse_core.specs.declared.machine.Head.TheVariants as head
use Rattle.js_parse_core.specs.declared.machine.Open.{Open}
use Rattle.js_parse_core.specs.declared.machine.Operator.{Operator}
use Rattle.js_parse_core.specs.declared.machine.Operator.TheVariants as operator
use Rattle.js_parse_core.specs.declared.machine.Purpose.TheVariants as purpose
use Rattle.js_parse_core.specs.declared.machine.Tail.{Tail}
use Rattle.js_parse_core.specs.declared.machine.Tail.TheVariants as tail
use Rattle.js_parse_core.proofs.PieceLemmas.{fits_split}
use Rattle.js_parse_core.proofs.Covers.{Covers, covers_same, covers_trans, covers_behind, covers_before, covers_none, covers_wider, Within, within_same, within_trans, within_behind}
use Rattle.js_parse_core.proofs.Bare.{bare, bare_form, bare_append, object_bare, expr_forms, target_forms, stmt_forms, arrow_names, rest_forms, expr_name, expr_number, expr_text, expr_true, expr_false, expr_null, expr_this, expr_template_whole, expr_template, expr_array, expr_object, expr_function, expr_arrow, expr_group, expr_unary, expr_await, expr_update_before, expr_update_behind, expr_binary, expr_conditional, expr_assign, expr_call, expr_new, expr_member, expr_index}
use Rattle.js_parse_core.proofs.Spelled.{unread, commaed, ended, operator_front, tail_front, callee_forms, hole_front, declared_head, declared_front, body_front, head_front, block_front, export_front, front, is_line, lined, spell, waits_in, waits, export_forms, end_before, items_with, whole_items, ends_with_export}

-- ---- forms that are not empty

pub record Filled (fs : List Form) : Type 0 where
  pub first : Form
  pub others : List Form
  pub is : fs ≡ first ∷ others

pub filled_cons : (f : Form) (fs : List Form) → Filled (f ∷ fs)
filled_cons f fs = record { first = f; others = fs; is = refl }

pub filled_behind : (a b : List Form) → Filled b → Filled (a ++ b)
filled_behind [] b s = s
filled_behind (f ∷ a) b s = filled_cons f (a ++ b)

pub filled_before : (a b : List Form) → Filled a → Filled (a ++ b)
filled_before a b s = record { first = s.first; others = s.others ++ b; is = ap (λ (z : List Form). z ++ b) s.is }

pub filled_same : (a b : List Form) → a ≡ b → Filled b → Filled a
filled_same a b e s = record { first = s.first; others = s.others; is = e ∙ s.is }

pub filled_async : (a : Bool) (f : Form) (fs : List Form) → Filled (perhaps_async a (f ∷ fs))
filled_async true f fs = filled_cons _ _
filled_async false f fs = filled_cons _ _

async_filled : (a : Bool) (fs : List Form) → Filled fs → Filled (perhaps_async a fs)
async_filled a fs s = subst (λ (z : List Form). Filled (perhaps_async a z)) (sym s.is) (filled_async a s.first s.others)

filled_parameters : (ns : List Name) → Filled (arrow_names ns)
unfolding bare
filled_parameters [] = filled_cons _ _
filled_parameters (n ∷ []) = filled_cons _ _
filled_parameters (n ∷ m ∷ ns) = filled_cons _ _

pub filled_names : (a : Bool) (ns : List Name) → Filled (perhaps_async a (arrow_names ns))
filled_names a ns = async_filled a (arrow_names ns) (filled_parameters ns)

filled_layer : (x : Node) → Filled (expr_forms (roll-Expr x))
filled_layer (Expr-F.Name n) = filled_same _ _ (ap expr_forms (expr.rolls-Name n) ∙ expr_name n) (filled_cons _ _)
filled_layer (Expr-F.Number n) = filled_same _ _ (ap expr_forms (expr.rolls-Number n) ∙ expr_number n) (filled_cons _ _)
filled_layer (Expr-F.Text u) = filled_same _ _ (ap expr_forms (expr.rolls-Text u) ∙ expr_text u) (filled_cons _ _)
filled_layer Expr-F.True = filled_same _ _ (ap expr_forms expr.rolls-True ∙ expr_true) (filled_cons _ _)
filled_layer Expr-F.False = filled_same _ _ (ap expr_forms expr.rolls-False ∙ expr_false) (filled_cons _ _)
filled_layer Expr-F.Null = filled_same _ _ (ap expr_forms expr.rolls-Null ∙ expr_null) (filled_cons _ _)
filled_layer Expr-F.This = filled_same _ _ (ap expr_forms expr.rolls-This ∙ expr_this) (filled_cons _ _)
filled_layer (Expr-F.Template [] u) = filled_same _ _ (ap expr_forms (expr.rolls-Template [] u) ∙ expr_template_whole u) (filled_cons _ _)
filled_layer (Expr-F.Template (i ∷ is) u) = filled_same _ _ (ap expr_forms (expr.rolls-Template (i ∷ is) u) ∙ expr_template i is u) (filled_cons _ _)
filled_layer (Expr-F.Array xs) = filled_same _ _ (ap expr_forms (expr.rolls-Array xs) ∙ expr_array xs) (filled_cons _ _)
filled_layer (Expr-F.Object xs) = filled_same _ _ (ap expr_forms (expr.rolls-Object xs) ∙ expr_object xs) (filled_cons _ _)
filled_layer (Expr-F.Function n f) = filled_same _ _ (ap expr_forms (expr.rolls-Function n f) ∙ expr_function n f) (filled_async f.is_async _ _)
filled_layer (Expr-F.Arrow a ns b) = filled_same _ _ (ap expr_forms (expr.rolls-Arrow a ns b) ∙ expr_arrow a ns b) (filled_before _ _ (filled_names a ns))
filled_layer (Expr-F.Group x) = filled_same _ _ (ap expr_forms (expr.rolls-Group x) ∙ expr_group x) (filled_cons _ _)
filled_layer (Expr-F.Unary o x) = filled_same _ _ (ap expr_forms (expr.rolls-Unary o x) ∙ expr_unary o x) (filled_cons _ _)
filled_layer (Expr-F.Await q x) = filled_same _ _ (ap expr_forms (expr.rolls-Await q x) ∙ expr_await q x) (filled_cons _ _)
filled_layer (Expr-F.Update side.Before o x) = filled_same _ _ (ap expr_forms (expr.rolls-Update side.Before o x) ∙ expr_update_before o x) (filled_cons _ _)
filled_layer (Expr-F.Update side.Behind o x) = filled_same _ _ (ap expr_forms (expr.rolls-Update side.Behind o x) ∙ expr_update_behind o x) (filled_behind (target_forms x) _ (filled_cons _ _))
filled_layer (Expr-F.Binary o x y) = filled_same _ _ (ap expr_forms (expr.rolls-Binary o x y) ∙ expr_binary o x y) (filled_behind (expr_forms x) _ (filled_cons _ _))
filled_layer (Expr-F.Conditional test x y) = filled_same _ _ (ap expr_forms (expr.rolls-Conditional test x y) ∙ expr_conditional test x y) (filled_behind (expr_forms test) _ (filled_cons _ _))
filled_layer (Expr-F.Assign o x y) = filled_same _ _ (ap expr_forms (expr.rolls-Assign o x y) ∙ expr_assign o x y) (filled_behind (target_forms x) _ (filled_cons _ _))
filled_layer (Expr-F.Call x xs) = filled_same _ _ (ap expr_forms (expr.rolls-Call x xs) ∙ expr_call x xs) (filled_behind (expr_forms x) _ (filled_cons _ _))
filled_layer (Expr-F.New n xs) = filled_same _ _ (ap expr_forms (expr.rolls-New n xs) ∙ expr_new n xs) (filled_cons _ _)
filled_layer (Expr-F.Member x n) = filled_same _ _ (ap expr_forms (expr.rolls-Member x n) ∙ expr_member x n) (filled_behind (expr_forms x) _ (filled_cons _ _))
filled_layer (Expr-F.Index x k) = filled_same _ _ (ap expr_forms (expr.rolls-Index x k) ∙ expr_index x k) (filled_behind (expr_forms x) _ (filled_cons _ _))

pub filled_expr : (x : Expr) → Filled (expr_forms x)
filled_expr x = subst (λ (y : Expr). Filled (expr_forms y)) (roll-out-Expr x) (filled_layer (out-Expr x))

-- ---- frames

pub line_append : (a b : List Form) → Filled a → on_one_line (a ++ b) ≡ on_one_line a ++ b
line_append a b s = subst (λ (z : List Form). on_one_line (z ++ b) ≡ on_one_line z ++ b) (sym s.is) refl

pub filled_line : (a : List Form) → Filled a → Filled (on_one_line a)
filled_line a s = subst (λ (z : List Form). Filled (on_one_line z)) (sym s.is) (filled_cons _ _)

lined_append : (b : Bool) (c r x : List Form) → Filled r → lined b c (r ++ x) ≡ lined b c r ++ x
lined_append true c r x s = ap (λ (z : List Form). c ++ z) (line_append r x s) ∙ sym (append_assoc c (on_one_line r) x)
lined_append false c r x s = sym (append_assoc c r x)

filled_lined : (b : Bool) (c r : List Form) → Filled r → Filled (lined b c r)
filled_lined true c r s = filled_behind c (on_one_line r) (filled_line r s)
filled_lined false c r s = filled_behind c r s

pub spell_append : (fs : List Open) (r x : List Form) → Filled r → spell fs (r ++ x) ≡ spell fs r ++ x
spell_append [] r x s = refl
spell_append (f ∷ fs) r x s =
    ap (spell fs) (lined_append (is_line f.frame) (front fs f.frame) r x s)
    ∙ spell_append fs (lined (is_line f.frame) (front fs f.frame) r) x (filled_lined (is_line f.frame) (front fs f.frame) r s)

front_within : (c a b : List Form) → Within a b → Within (c ++ a) (c ++ b)
front_within [] a b w = w
front_within (f ∷ c) a b w = within_behind f (c ++ a) (c ++ b) (covers_behind c a b w.all)

pub within_front : (c a b : List Form) → Filled c → Covers a b → Within (c ++ a) (c ++ b)
within_front c a b s w = subst (λ (z : List Form). Within (z ++ a) (z ++ b)) (sym s.is) (within_behind s.first (s.others ++ a) (s.others ++ b) (covers_behind s.others a b w))

line_within : (a b : List Form) → Within a b → Within (on_one_line a) (on_one_line b)
line_within a b w = record { all = w.on_line; on_line = covers_trans _ (on_one_line a) _ (covers_same _ _ (twice a)) (covers_trans _ (on_one_line b) _ w.on_line (covers_same _ _ (sym (twice b)))) }
  where
    twice_form : (f : Form) → map first_unbroken (map first_unbroken f) ≡ map first_unbroken f
    twice_form [] = refl
    twice_form ([] ∷ f) = ap (λ (z : Form). [] ∷ z) (twice_form f)
    twice_form ((m ∷ ms) ∷ f) = ap (λ (z : Form). (unbroken m ∷ ms) ∷ z) (twice_form f)

    twice : (fs : List Form) → on_one_line (on_one_line fs) ≡ on_one_line fs
    twice [] = refl
    twice (f ∷ fs) = ap (λ (z : Form). z ∷ fs) (twice_form f)

lined_within : (l : Bool) (c a b : List Form) → Within a b → Within (lined l c a) (lined l c b)
lined_within true c a b w = front_within c (on_one_line a) (on_one_line b) (line_within a b w)
lined_within false c a b w = front_within c a b w

pub spell_within : (fs : List Open) (a b : List Form) → Within a b → Within (spell fs a) (spell fs b)
spell_within [] a b w = w
spell_within (f ∷ fs) a b w = spell_within fs _ _ (lined_within (is_line f.frame) (front fs f.frame) a b w)

-- nothing fits where a form has no alternatives
pub record Barred (fs : List Form) : Type 0 where
  before : List Form
  behind : List Form
  is : fs ≡ before ++ [] ∷ behind

pub barred_none : (fs : List Form) → Barred ([] ∷ fs)
barred_none fs = record { before = []; behind = fs; is = refl }

barred_behind : (c fs : List Form) → Barred fs → Barred (c ++ fs)
barred_behind c fs n = record { before = c ++ n.before; behind = n.behind; is = ap (λ (z : List Form). c ++ z) n.is ∙ sym (append_assoc c n.before ([] ∷ n.behind)) }

barred_line : (fs : List Form) → Barred fs → Barred (on_one_line fs)
barred_line fs n = subst (λ (z : List Form). Barred (on_one_line z)) (sym n.is) (either n.before)
  where
    either : (c : List Form) → Barred (on_one_line (c ++ [] ∷ n.behind))
    either [] = barred_none n.behind
    either (f ∷ c) = record { before = map first_unbroken f ∷ c; behind = n.behind; is = refl }

barred_lined : (l : Bool) (c fs : List Form) → Barred fs → Barred (lined l c fs)
barred_lined true c fs n = barred_behind c (on_one_line fs) (barred_line fs n)
barred_lined false c fs n = barred_behind c fs n

barred_spell : (fs : List Open) (a : List Form) → Barred a → Barred (spell fs a)
barred_spell [] a n = n
barred_spell (f ∷ fs) a n = barred_spell fs _ (barred_lined (is_line f.frame) (front fs f.frame) a n)

barred_covers : (a b : List Form) → Barred a → Covers a b
barred_covers a b n = covers_trans a (n.before ++ [] ∷ n.behind) b (covers_same _ _ n.is) (record { covers = λ ps h. absurd (fits_split n.before ([] ∷ n.behind) ps h).fits_back.3 })

pub spell_none : (is : List Form) (fs : List Open) (a b : List Form) → Covers (is ++ spell fs ([] ∷ a)) b
spell_none is fs a b = barred_covers _ b (barred_behind is _ (barred_spell fs ([] ∷ a) (barred_none a)))

-- ---- frames, and what may follow a line end in them

filled_template : (k : TemplatePart) (is : List TemplateItem) (u : List ℕ) → Filled (hole_front k is u)
filled_template k [] u = filled_cons _ _
filled_template k (i ∷ is) u = filled_cons _ _

filled_operator : (o : Operator) → Filled (operator_front o)
filled_operator (operator.Binary x o) = filled_behind (expr_forms x) _ (filled_cons _ _)
filled_operator (operator.Unary o) = filled_cons _ _
filled_operator (operator.Await q) = filled_cons _ _
filled_operator (operator.Update o) = filled_cons _ _

filled_tail : (t : Tail) → Filled (tail_front t)
filled_tail (tail.Assign o t) = filled_behind (target_forms t) _ (filled_cons _ _)
filled_tail (tail.Else test x) = filled_behind (expr_forms test) _ (filled_cons _ _)
filled_tail (tail.Arrow a ns) = filled_before _ _ (filled_names a ns)

pub filled_declared : (d : Declared) → Filled (declared_front d)
filled_declared d = filled_before _ _ (head_of d.in_for)
  where
    head_of : (b : Bool) → Filled (declared_head b d.kind)
    head_of true = filled_cons _ _
    head_of false = filled_cons _ _

filled_body : (b : Body) → Filled (body_front b)
filled_body (body.Then test) = filled_cons _ _
filled_body (body.Else test a) = filled_cons _ _
filled_body (body.For b test update) = filled_cons _ _
filled_body (body.ForOf k n x) = filled_cons _ _
filled_body (body.While test) = filled_cons _ _

pub filled_head : (h : Head) → Filled (head_front h)
filled_head (head.Declaration a n) = filled_async a _ _
filled_head (head.Expression a n) = filled_async a _ _
filled_head (head.Method a xs k) = filled_cons _ _

pub filled_block : (b : Block) → Filled (block_front b)
filled_block block.Plain = filled_cons _ _
filled_block (block.Function h ns) = filled_before _ _ (filled_head h)
filled_block (block.Arrow a ns) = filled_before _ _ (filled_names a ns)
filled_block block.Try = filled_cons _ _
filled_block (block.Catch tried n) = filled_cons _ _
filled_block (block.Finally tried c) = filled_cons _ _

filled_export : (fs : List Open) → Filled (export_front fs)
filled_export [] = filled_cons _ _
filled_export (f ∷ fs) = filled_cons _ _

-- what comes behind these forms comes into the innermost frame
pub record Enters (a : List Form) (fs : List Open) : Type 0 where
  pub enters : (x : List Form) → Covers (a ++ x) (spell fs x)

pub enters_front : (fs : List Open) (c : List Form) (f : Open) → Filled c → c ≡ front fs f.frame → is_line f.frame ≡ false → Enters (spell fs c) (f ∷ fs)
enters_front fs c f s e l = record {
  enters = λ x. covers_same _ _ (sym (spell_append fs c x s) ∙ ap (λ (z : List Form). spell fs (z ++ x)) e ∙ ap (λ (b : Bool). spell fs (lined b (front fs f.frame) x)) (sym l));
}

enters_none : (fs : List Open) → Enters unread fs
enters_none fs = record { enters = λ x. covers_none x (spell fs x) }

pub enters_waits : (fs : List Open) → Enters (waits fs) fs
enters_waits [] = record { enters = λ x. covers_same _ _ refl }
enters_waits (f ∷ fs) = in_frame (enters_waits fs) f.frame refl
  where
    in_frame : Enters (waits fs) fs → (g : Frame) → f.frame ≡ g → Enters (waits_in fs g (waits fs)) (f ∷ fs)
    in_frame w (frame.Operator x) e = enters_front fs _ f (filled_operator x) (sym (ap (front fs) e)) (ap is_line e)
    in_frame w (frame.Tail x) e = enters_front fs _ f (filled_tail x) (sym (ap (front fs) e)) (ap is_line e)
    in_frame w (frame.Body x) e = enters_front fs _ f (filled_body x) (sym (ap (front fs) e)) (ap is_line e)
    in_frame w (frame.Block b ss) e = enters_front fs _ f (filled_before _ _ (filled_block b)) (sym (ap (front fs) e)) (ap is_line e)
    in_frame w frame.Export e = enters_front fs _ f (filled_export fs) (sym (ap (front fs) e)) (ap is_line e)
    in_frame w (frame.Purpose (purpose.Return q)) e = enters_none (f ∷ fs)
    in_frame w (frame.Purpose purpose.Throw) e = enters_none (f ∷ fs)
    in_frame w (frame.Purpose purpose.Statement) e =
        record {
          enters = λ x. covers_trans _ (spell fs x) _ (w.enters x)
              (covers_same _ _ (ap (λ (z : List Form). spell fs (z ++ x)) (sym (ap (front fs) e)) ∙ ap (λ (b : Bool). spell fs (lined b (front fs f.frame) x)) (sym (ap is_line e))));
        }
    in_frame w (frame.Purpose (purpose.Then test)) e = enters_front fs _ f (filled_behind (expr_forms test) _ (filled_cons _ _)) (sym (ap (front fs) e)) (ap is_line e)
    in_frame w (frame.Purpose purpose.Group) e = enters_front fs _ f (filled_cons _ _) (sym (ap (front fs) e)) (ap is_line e)
    in_frame w (frame.Purpose (purpose.Argument c xs)) e = enters_front fs _ f (filled_behind (callee_forms c) _ (filled_cons _ _)) (sym (ap (front fs) e)) (ap is_line e)
    in_frame w (frame.Purpose (purpose.Index y n)) e = enters_front fs _ f (filled_behind (expr_forms y) _ (filled_cons _ _)) (sym (ap (front fs) e)) (ap is_line e)
    in_frame w (frame.Purpose (purpose.Element xs)) e = enters_front fs _ f (filled_cons _ _) (sym (ap (front fs) e)) (ap is_line e)
    in_frame w (frame.Purpose (purpose.Pair xs k)) e = enters_front fs _ f (filled_cons _ _) (sym (ap (front fs) e)) (ap is_line e)
    in_frame w (frame.Purpose (purpose.Hole is u)) e = enters_front fs _ f (filled_template part.Head is u) (sym (ap (front fs) e)) (ap is_line e)
    in_frame w (frame.Purpose purpose.If) e = enters_front fs _ f (filled_cons _ _) (sym (ap (front fs) e)) (ap is_line e)
    in_frame w (frame.Purpose purpose.While) e = enters_front fs _ f (filled_cons _ _) (sym (ap (front fs) e)) (ap is_line e)
    in_frame w (frame.Purpose purpose.ForStart) e = enters_front fs _ f (filled_cons _ _) (sym (ap (front fs) e)) (ap is_line e)
    in_frame w (frame.Purpose (purpose.ForTest b)) e = enters_front fs _ f (filled_cons _ _) (sym (ap (front fs) e)) (ap is_line e)
    in_frame w (frame.Purpose (purpose.ForUpdate b test)) e = enters_front fs _ f (filled_cons _ _) (sym (ap (front fs) e)) (ap is_line e)
    in_frame w (frame.Purpose (purpose.ForOf k n)) e = enters_front fs _ f (filled_cons _ _) (sym (ap (front fs) e)) (ap is_line e)
    in_frame w (frame.Purpose (purpose.Initial d n)) e = enters_front fs _ f (filled_before _ _ (filled_declared d)) (sym (ap (front fs) e)) (ap is_line e)

pub enters_behind : (c a : List Form) (fs : List Open) (x : List Form) → Enters a fs → Covers ((c ++ a) ++ x) (c ++ spell fs x)
enters_behind c a fs x n = covers_trans _ (c ++ (a ++ x)) _ (covers_same _ _ (append_assoc c a x)) (covers_behind c (a ++ x) (spell fs x) (n.enters x))

-- ---- items

export_bare : (xs : List Property) → bare (of_export xs) ≡ export_forms xs
unfolding bare
export_bare xs = ap (λ (z : List Form). reserved r.Export ∷ reserved r.Default ∷ z) (object_bare xs)

end_bare : (i : Item) (is : List Item) → bare_form (export_end (i ∷ is)) ≡ end_before i
end_bare (item.Stmt s) is = either (is_empty s)
  where
    either : (b : Bool) → bare_form (cond b (just p.Semicolon) (maybe (sign p.Semicolon))) ≡ cond b (just p.Semicolon) (maybe (sign p.Semicolon))
    either true = refl
    either false = refl
end_bare (item.Export xs) is = refl

pub tree_items : (is : List Item) → bare (of_tree is) ≡ whole_items is
unfolding bare stmt_forms
tree_items [] = refl
tree_items (item.Stmt s ∷ is) = bare_append (of_stmt s).forms (of_tree is) ∙ ap (λ (z : List Form). bare (of_stmt s).forms ++ z) (tree_items is)
tree_items (item.Export xs ∷ []) = bare_append (of_export xs) (maybe (sign p.Semicolon) ∷ []) ∙ ap (λ (z : List Form). z ++ maybe (sign p.Semicolon) ∷ []) (export_bare xs)
tree_items (item.Export xs ∷ i ∷ is) =
    bare_append (of_export xs) (export_end (i ∷ is) ∷ of_tree (i ∷ is))
    ∙ ap (λ (z : List Form). z ++ bare_form (export_end (i ∷ is)) ∷ bare (of_tree (i ∷ is))) (export_bare xs)
    ∙ ap (λ (z : Form). export_forms xs ++ z ∷ bare (of_tree (i ∷ is))) (end_bare i is)
    ∙ ap (λ (z : List Form). export_forms xs ++ end_before i ∷ z) (tree_items (i ∷ is))

pub push_stmt : (e : List Form) (is : List Item) (s : Stmt) → items_with e (is ++ item.Stmt s ∷ []) ≡ items_with (end_before (item.Stmt s) ∷ []) is ++ stmt_forms s
push_stmt e [] s = append-nil (stmt_forms s)
push_stmt e (item.Stmt u ∷ is) s = ap (λ (z : List Form). stmt_forms u ++ z) (push_stmt e is s) ∙ sym (append_assoc (stmt_forms u) (items_with (end_before (item.Stmt s) ∷ []) is) (stmt_forms s))
push_stmt e (item.Export xs ∷ []) s =
    ap (λ (z : List Form). export_forms xs ++ end_before (item.Stmt s) ∷ z) (append-nil (stmt_forms s))
    ∙ sym (append_assoc (export_forms xs) (end_before (item.Stmt s) ∷ []) (stmt_forms s))
push_stmt e (item.Export xs ∷ i ∷ is) s =
    ap (λ (z : List Form). export_forms xs ++ end_before i ∷ z) (push_stmt e (i ∷ is) s)
    ∙ sym (append_assoc (export_forms xs) (end_before i ∷ items_with (end_before (item.Stmt s) ∷ []) (i ∷ is)) (stmt_forms s))

pub push_export : (e : List Form) (is : List Item) (xs : List Property) → items_with e (is ++ item.Export xs ∷ []) ≡ whole_items is ++ (export_forms xs ++ e)
push_export e [] xs = refl
push_export e (item.Stmt u ∷ is) xs = ap (λ (z : List Form). stmt_forms u ++ z) (push_export e is xs) ∙ sym (append_assoc (stmt_forms u) (whole_items is) (export_forms xs ++ e))
push_export e (item.Export ys ∷ []) xs = sym (append_assoc (export_forms ys) (maybe (sign p.Semicolon) ∷ []) (export_forms xs ++ e))
push_export e (item.Export ys ∷ i ∷ is) xs =
    ap (λ (z : List Form). export_forms ys ++ end_before i ∷ z) (push_export e (i ∷ is) xs)
    ∙ sym (append_assoc (export_forms ys) (end_before i ∷ whole_items (i ∷ is)) (export_forms xs ++ e))

pub last_export : (is : List Item) (xs : List Property) → ends_with_export (is ++ item.Export xs ∷ []) ≡ true
last_export [] xs = refl
last_export (item.Stmt u ∷ is) xs = last_export is xs
last_export (item.Export ys ∷ []) xs = refl
last_export (item.Export ys ∷ i ∷ is) xs = last_export (i ∷ is) xs

pub export_end_read : (e : List Form) (is : List Item) → ends_with_export is ≡ true → items_with [] is ++ e ≡ items_with e is
export_end_read e [] h = absurd (false≢true h)
export_end_read e (item.Stmt u ∷ is) h = append_assoc (stmt_forms u) (items_with [] is) e ∙ ap (λ (z : List Form). stmt_forms u ++ z) (export_end_read e is h)
export_end_read e (item.Export ys ∷ []) h = append_assoc (export_forms ys) [] e
export_end_read e (item.Export ys ∷ i ∷ is) h = append_assoc (export_forms ys) (end_before i ∷ items_with [] (i ∷ is)) e ∙ ap (λ (z : List Form). export_forms ys ++ end_before i ∷ z) (export_end_read e (i ∷ is) h)

pub items_covers : (d e : List Form) (is : List Item) → Covers d e → Covers (items_with d is) (items_with e is)
items_covers d e [] c = covers_same [] [] refl
items_covers d e (item.Stmt u ∷ is) c = covers_behind (stmt_forms u) _ _ (items_covers d e is c)
items_covers d e (item.Export ys ∷ []) c = covers_behind (export_forms ys) d e c
items_covers d e (item.Export ys ∷ i ∷ is) c = covers_behind (export_forms ys) _ _ (covers_behind (end_before i ∷ []) _ _ (items_covers d e (i ∷ is) c))

-- ---- lists

pub just_maybe : (m : Mark) (fs : List Form) → Covers (one m ∷ fs) (maybe m ∷ fs)
just_maybe m fs = covers_wider (one m) (maybe m) fs (λ ps h. elim h [ inl a ↦ inl a | inr b ↦ absurd b ])

pub none_maybe : (m : Mark) → Covers [] (maybe m ∷ [])
none_maybe m = record { covers = λ ps e. ([], [], e, inr (inl refl), refl) }

pub nil_maybe : (fs : List Form) (m : Mark) → Covers fs (fs ++ maybe m ∷ [])
nil_maybe fs m = covers_trans fs (fs ++ []) _ (covers_same _ _ (sym (append-nil fs))) (covers_behind fs [] (maybe m ∷ []) (none_maybe m))

comma_more : (xs : List (List Form)) → Covers (just p.Comma ∷ commaed xs) (more xs ++ maybe (sign p.Comma) ∷ [])
comma_more [] = just_maybe (sign p.Comma) []
comma_more (x ∷ xs) =
    covers_trans _ (just p.Comma ∷ (x ++ (more xs ++ maybe (sign p.Comma) ∷ []))) _
    (covers_behind (just p.Comma ∷ []) _ _ (covers_behind x _ _ (comma_more xs)))
    (covers_same _ _ (ap (λ (z : List Form). just p.Comma ∷ z) (sym (append_assoc x (more xs) (maybe (sign p.Comma) ∷ [])))))

pub commaed_listed : (xs : List (List Form)) → Covers (commaed xs) (listed xs)
commaed_listed [] = covers_same [] [] refl
commaed_listed (x ∷ xs) = covers_trans _ (x ++ (more xs ++ maybe (sign p.Comma) ∷ [])) _ (covers_behind x _ _ (comma_more xs)) (covers_same _ _ (sym (append_assoc x (more xs) (maybe (sign p.Comma) ∷ []))))

pub ended_listed : (xs : List (List Form)) → Covers (ended xs) (listed xs)
ended_listed [] = covers_none [] []
ended_listed (x ∷ xs) = nil_maybe (x ++ more xs) (sign p.Comma)

more_push : (xs : List (List Form)) (x : List Form) → more (xs ++ x ∷ []) ≡ just p.Comma ∷ (commaed xs ++ x)
more_push [] x = ap (λ (z : List Form). just p.Comma ∷ z) (append-nil x)
more_push (y ∷ xs) x = ap (λ (z : List Form). just p.Comma ∷ z) (ap (λ (z : List Form). y ++ z) (more_push xs x) ∙ sym (append_assoc y (just p.Comma ∷ commaed xs) x))

pub ended_push : (xs : List (List Form)) (x : List Form) → ended (xs ++ x ∷ []) ≡ commaed xs ++ x
ended_push [] x = append-nil x
ended_push (y ∷ xs) x = ap (λ (z : List Form). y ++ z) (more_push xs x) ∙ sym (append_assoc y (just p.Comma ∷ commaed xs) x)

pub separated_push : (xs : List (List Form)) (x : List Form) → separated (xs ++ x ∷ []) ≡ commaed xs ++ x
separated_push [] x = append-nil x
separated_push (y ∷ xs) x = ap (λ (z : List Form). y ++ z) (more_push xs x) ∙ sym (append_assoc y (just p.Comma ∷ commaed xs) x)

pub last_listed : (xs : List (List Form)) (x : List Form) → Covers (commaed xs ++ x) (listed (xs ++ x ∷ []))
last_listed xs x = covers_trans _ (ended (xs ++ x ∷ [])) _ (covers_same _ _ (sym (ended_push xs x))) (ended_listed (xs ++ x ∷ []))

pub commaed_push : (xs : List (List Form)) (x : List Form) → commaed (xs ++ x ∷ []) ≡ commaed xs ++ (x ++ just p.Comma ∷ [])
commaed_push [] x = refl
commaed_push (y ∷ xs) x = ap (λ (z : List Form). y ++ just p.Comma ∷ z) (commaed_push xs x) ∙ sym (append_assoc y (just p.Comma ∷ commaed xs) (x ++ just p.Comma ∷ []))

more_comma : (xs : List (List Form)) → more xs ++ just p.Comma ∷ [] ≡ just p.Comma ∷ commaed xs
more_comma [] = refl
more_comma (x ∷ xs) = ap (λ (z : List Form). just p.Comma ∷ z) (append_assoc x (more xs) (just p.Comma ∷ []) ∙ ap (λ (z : List Form). x ++ z) (more_comma xs))

pub ended_comma : (xs : List (List Form)) → Covers (ended xs ++ just p.Comma ∷ []) (commaed xs)
ended_comma [] = covers_none _ _
ended_comma (x ∷ xs) = covers_same _ _ (append_assoc x (more xs) (just p.Comma ∷ []) ∙ ap (λ (z : List Form). x ++ z) (more_comma xs))

-- a list in brackets, behind c: an item, and the bracket or a comma; or the bracket
pub close_item : (c : List Form) (a b : Punctuator) (xs : List (List Form)) (x : List Form) → Within (((c ++ just a ∷ commaed xs) ++ x) ++ just b ∷ []) (c ++ just a ∷ (listed (xs ++ x ∷ []) ++ just b ∷ []))
close_item c a b xs x =
    within_trans _ ((c ++ just a ∷ []) ++ ((commaed xs ++ x) ++ just b ∷ [])) _ (within_same _ _ (simp append_assoc))
    (within_trans _ ((c ++ just a ∷ []) ++ (listed (xs ++ x ∷ []) ++ just b ∷ [])) _
    (within_front (c ++ just a ∷ []) _ _ (filled_behind c _ (filled_cons _ _)) (covers_before (commaed xs ++ x) (listed (xs ++ x ∷ [])) (just b ∷ []) (last_listed xs x)))
    (within_same _ _ (append_assoc c (just a ∷ []) (listed (xs ++ x ∷ []) ++ just b ∷ []))))

pub close_none : (c : List Form) (a b : Punctuator) (xs : List (List Form)) → Within ((c ++ just a ∷ commaed xs) ++ just b ∷ []) (c ++ just a ∷ (listed xs ++ just b ∷ []))
close_none c a b xs =
    within_trans _ ((c ++ just a ∷ []) ++ (commaed xs ++ just b ∷ [])) _ (within_same _ _ (simp append_assoc))
    (within_trans _ ((c ++ just a ∷ []) ++ (listed xs ++ just b ∷ [])) _
    (within_front (c ++ just a ∷ []) _ _ (filled_behind c _ (filled_cons _ _)) (covers_before (commaed xs) (listed xs) (just b ∷ []) (commaed_listed xs)))
    (within_same _ _ (append_assoc c (just a ∷ []) (listed xs ++ just b ∷ []))))

pub comma_item : (c : List Form) (a : Punctuator) (xs : List (List Form)) (x : List Form) → ((c ++ just a ∷ commaed xs) ++ x) ++ just p.Comma ∷ [] ≡ c ++ just a ∷ commaed (xs ++ x ∷ [])
comma_item c a xs x = rw (commaed_push xs x) (simp append_assoc)

-- ---- templates

abbrev pub part_of : List ℕ → Expr → TemplateItem
part_of u x = roll-TemplateItem (record { units = u; value = x })

pub hole_middle : (k : TemplatePart) (is : List TemplateItem) (u v : List ℕ) (x : Expr) → hole_front k (is ++ part_of u x ∷ []) v ≡ hole_front k is u ++ (expr_forms x ++ template_mark part.Middle v ∷ [])
hole_middle k [] u v x = refl
hole_middle k (i ∷ is) u v x =
    ap (λ (z : List Form). template_mark k i.units ∷ (expr_forms i.value ++ z)) (hole_middle part.Middle is u v x)
    ∙ ap (λ (z : List Form). template_mark k i.units ∷ z) (sym (append_assoc (expr_forms i.value) (hole_front part.Middle is u) (expr_forms x ++ template_mark part.Middle v ∷ [])))

hole_tail : (k : TemplatePart) (is : List TemplateItem) (u v : List ℕ) (x : Expr) → rest_forms k (is ++ part_of u x ∷ []) v ≡ hole_front k is u ++ (expr_forms x ++ template_mark part.Tail v ∷ [])
hole_tail k [] u v x = refl
hole_tail k (i ∷ is) u v x =
    ap (λ (z : List Form). template_mark k i.units ∷ (expr_forms i.value ++ z)) (hole_tail part.Middle is u v x)
    ∙ ap (λ (z : List Form). template_mark k i.units ∷ z) (sym (append_assoc (expr_forms i.value) (hole_front part.Middle is u) (expr_forms x ++ template_mark part.Tail v ∷ [])))

pub template_end : (is : List TemplateItem) (u v : List ℕ) (x : Expr) → expr_forms (expr.Template (is ++ part_of u x ∷ []) v) ≡ hole_front part.Head is u ++ (expr_forms x ++ template_mark part.Tail v ∷ [])
template_end [] u v x = expr_template (part_of u x) [] v ∙ hole_tail part.Head [] u v x
template_end (i ∷ is) u v x = expr_template i (is ++ part_of u x ∷ []) v ∙ hole_tail part.Head (i ∷ is) u v x
