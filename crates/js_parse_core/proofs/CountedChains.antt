-- How many calls and member accesses, and how many operators, the chains of values have.
use Rattle.std.proofs.Common.{◌≡◌, ℕ, ◌+◌, Bool, List, Option, sym, ap, subst, arith}
use Rattle.js_tree.specs.declared.tree.ArrowBody.{ArrowBody}
use Rattle.js_tree.specs.declared.tree.AssignOp.{AssignOp}
use Rattle.js_tree.specs.declared.tree.Expr.{Expr}
use Rattle.js_tree.specs.declared.tree.Expr.TheVariants as expr
use Rattle.js_tree.specs.declared.tree.Function.{Function}
use Rattle.js_tree.specs.declared.tree.Name.{Name}
use Rattle.js_tree.specs.declared.tree.Property.{Property}
use Rattle.js_tree.specs.declared.tree.Target.{Target}
use Rattle.js_tree.specs.declared.tree.TemplateItem.{TemplateItem}
use Rattle.js_tree.specs.declared.tree.UnaryOp.{UnaryOp}
use Rattle.js_tree.specs.declared.tree.UpdateOp.{UpdateOp}
use Rattle.js_tree.specs.declared.tree.UpdateSide.{UpdateSide}
use Rattle.js_grammar.specs.Grammar.{Written}
use Rattle.js_grammar.proofs.Equations.{written_name, written_number, written_text, written_true, written_false, written_null, written_this, written_template, written_array, written_object, written_function_expr, written_arrow_expr, written_group, written_unary, written_await, written_update, written_conditional, written_assign, written_new}
use Rattle.js_parse_core.proofs.CountedForms.{accesses}
use Rattle.js_parse_core.proofs.CountedGrows.{Between}

-- ---- operands that are no chains

pub plain_name : (m : Name) → accesses (expr.Name m) ≡ 0
unfolding accesses
plain_name m = ap (λ (w : Written). w.accesses) (written_name m)

pub plain_number : (v : ℕ) → accesses (expr.Number v) ≡ 0
unfolding accesses
plain_number v = ap (λ (w : Written). w.accesses) (written_number v)

pub plain_text : (u : List ℕ) → accesses (expr.Text u) ≡ 0
unfolding accesses
plain_text u = ap (λ (w : Written). w.accesses) (written_text u)

pub plain_true : accesses expr.True ≡ 0
unfolding accesses
plain_true = ap (λ (w : Written). w.accesses) (written_true)

pub plain_false : accesses expr.False ≡ 0
unfolding accesses
plain_false = ap (λ (w : Written). w.accesses) (written_false)

pub plain_null : accesses expr.Null ≡ 0
unfolding accesses
plain_null = ap (λ (w : Written). w.accesses) (written_null)

pub plain_this : accesses expr.This ≡ 0
unfolding accesses
plain_this = ap (λ (w : Written). w.accesses) (written_this)

pub plain_template : (is : List TemplateItem) (u : List ℕ) → accesses (expr.Template is u) ≡ 0
unfolding accesses
plain_template is u = ap (λ (w : Written). w.accesses) (written_template is u)

pub plain_array : (xs : List Expr) → accesses (expr.Array xs) ≡ 0
unfolding accesses
plain_array xs = ap (λ (w : Written). w.accesses) (written_array xs)

pub plain_object : (xs : List Property) → accesses (expr.Object xs) ≡ 0
unfolding accesses
plain_object xs = ap (λ (w : Written). w.accesses) (written_object xs)

pub plain_function_expr : (m : Option Name) (f : Function) → accesses (expr.Function m f) ≡ 0
unfolding accesses
plain_function_expr m f = ap (λ (w : Written). w.accesses) (written_function_expr m f)

pub plain_arrow_expr : (a : Bool) (ns : List Name) (b : ArrowBody) → accesses (expr.Arrow a ns b) ≡ 0
unfolding accesses
plain_arrow_expr a ns b = ap (λ (w : Written). w.accesses) (written_arrow_expr a ns b)

pub plain_group : (x : Expr) → accesses (expr.Group x) ≡ 0
unfolding accesses
plain_group x = ap (λ (w : Written). w.accesses) (written_group x)

pub plain_unary : (o : UnaryOp) (x : Expr) → accesses (expr.Unary o x) ≡ 0
unfolding accesses
plain_unary o x = ap (λ (w : Written). w.accesses) (written_unary o x)

pub plain_await : (q : ℕ) (x : Expr) → accesses (expr.Await q x) ≡ 0
unfolding accesses
plain_await q x = ap (λ (w : Written). w.accesses) (written_await q x)

pub plain_update : (s : UpdateSide) (o : UpdateOp) (x : Target) → accesses (expr.Update s o x) ≡ 0
unfolding accesses
plain_update s o x = ap (λ (w : Written). w.accesses) (written_update s o x)

pub plain_conditional : (test x y : Expr) → accesses (expr.Conditional test x y) ≡ 0
unfolding accesses
plain_conditional test x y = ap (λ (w : Written). w.accesses) (written_conditional test x y)

pub plain_assign : (o : AssignOp) (x : Target) (y : Expr) → accesses (expr.Assign o x y) ≡ 0
unfolding accesses
plain_assign o x y = ap (λ (w : Written). w.accesses) (written_assign o x y)

pub plain_new : (m : Name) (xs : List Expr) → accesses (expr.New m xs) ≡ 0
unfolding accesses
plain_new m xs = ap (λ (w : Written). w.accesses) (written_new m xs)

-- the operand is read: as many constructs are open behind it as round it
pub at_operand : (l n : ℕ) (x : Expr) → accesses x ≡ 0 → Between l n (n + accesses x)
at_operand l n x e = subst (λ (k : ℕ). Between l n (n + k)) (sym e) (record { above = omega arith; below = λ most a b. omega arith })
