-- Values that fit their place, by their parts.
use Rattle.std.proofs.Common.{◌≡◌, ℕ, ◌<◌, ◌≤◌, Bool, true, ◌&&◌, List, map, Result, Ok, Err, refl, sym, ◌∙◌, ap, subst, arith}
use Rattle.std.proofs.lemmas.Bool.{and_from, le-leb, lt-ltb}
use Rattle.js_tree.specs.Targets.{target_of, target_in, Node}
use Rattle.js_tree.specs.declared.tree.ArrowBody.{ArrowBody}
use Rattle.js_tree.specs.declared.tree.ArrowBody.TheOpen.{Expr-F}
use Rattle.js_tree.specs.declared.tree.ArrowBody.TheFolds.{fold_out-Expr, map-Expr}
use Rattle.js_tree.specs.declared.tree.AssignOp.{AssignOp}
use Rattle.js_tree.specs.declared.tree.BinaryOp.{BinaryOp}
use Rattle.js_tree.specs.declared.tree.BinaryOp.TheVariants as binary
use Rattle.js_tree.specs.declared.tree.Catch.{Catch}
use Rattle.js_tree.specs.declared.tree.Declaration.{Declaration}
use Rattle.js_tree.specs.declared.tree.Expr.{Expr, out-Expr}
use Rattle.js_tree.specs.declared.tree.Expr.TheVariants as expr
use Rattle.js_tree.specs.declared.tree.ForBegin.{ForBegin}
use Rattle.js_tree.specs.declared.tree.Function.{Function}
use Rattle.js_tree.specs.declared.tree.Name.{Name}
use Rattle.js_tree.specs.declared.tree.Property.{Property}
use Rattle.js_tree.specs.declared.tree.Stmt.{Stmt}
use Rattle.js_tree.specs.declared.tree.Target.{Target}
use Rattle.js_tree.specs.declared.tree.TemplateItem.{TemplateItem}
use Rattle.js_tree.specs.declared.tree.UnaryOp.{UnaryOp}
use Rattle.js_tree.specs.declared.tree.UpdateOp.{UpdateOp}
use Rattle.js_tree.specs.declared.tree.UpdateSide.TheVariants as side
use Rattle.js_grammar.specs.Shapes.{Shape, First, OtherFirst, Logic, Coalescing, AndOr, NoLogic, StmtShape, DeclaredShape, strength, prefix_level, postfix_level, operand_level, logic, at_least, above, shaped, primary, accessing, all_fit, arrow_body_step, expr_step, for_step, property_step, stmt_step, target_step, catch_step, declaration_step, function_step, template_step, of_arrow_body, of_expr, of_target, of_property, of_declaration, of_for, of_catch, of_function, of_template, of_stmt}
use Rattle.js_parse_core.specs.declared.machine.Logic.TheVariants as logics
use Rattle.js_parse_core.specs.declared.machine.Logic as machine
use Rattle.js_parse_core.specs.declared.machine.Open.{Open}
use Rattle.js_parse_core.specs.Values.{outermost, outermost_node, logic_of}
use Rattle.js_parse_core.proofs.Fine.{beside, apart, may_begin, Fit, Fills, Tight, Left, IsFree, Begun, AllFit}
use Rattle.js_parse_core.proofs.FineLemmas.{need_most, other_first, apart_none, apart_plain, unmixed_from}
use Rattle.js_parse_core.proofs.ShapeEquations.{shape_name, shape_variable, shape_field, shape_item, shape_member, shape_index, shape_binary, shape_unary, shape_await, shape_update, shape_assign, shape_conditional, shape_arrow_expr, shape_call, shape_group}

-- ---- an expression by its node

abbrev shape_node : Node → Shape
shape_node y = expr_step (map-Expr ArrowBody Expr ForBegin Property Stmt Target Catch Declaration Function TemplateItem Bool Shape Bool Bool StmtShape Shape Bool DeclaredShape Bool Bool of_arrow_body of_expr of_for of_property of_stmt of_target of_catch of_declaration of_function of_template y)

shape_out : (x : Expr) → of_expr x ≡ shape_node (out-Expr x)
shape_out x = fold_out-Expr Bool Shape Bool Bool StmtShape Shape Bool DeclaredShape Bool Bool arrow_body_step expr_step for_step property_step stmt_step target_step catch_step declaration_step function_step template_step x

-- ---- targets

abbrev pub IsTarget : Expr → Result Target Expr → Type 0
IsTarget x (Ok t) = of_target t ≡ of_expr x
IsTarget x (Err y) = y ≡ x

target_node : (x : Expr) (y : Node) → of_expr x ≡ shape_node y → IsTarget x (target_in x y)
target_node x (Expr-F.Name n) h = shape_variable n ∙ sym h
target_node x (Expr-F.Member o n) h = shape_field o n ∙ sym h
target_node x (Expr-F.Index o k) h = shape_item o k ∙ sym h
target_node x _ h = refl

pub target_is : (x : Expr) → IsTarget x (target_of x)
target_is x = target_node x (out-Expr x) (shape_out x)

-- ---- the outermost operator

abbrev pub logic_is : machine.Logic → Logic
logic_is logics.Coalescing = Coalescing
logic_is logics.AndOr = AndOr
logic_is logics.Other = NoLogic

pub operator_logic_is : (o : BinaryOp) → logic o ≡ logic_is (logic_of o)
operator_logic_is binary.Coalesce = refl
operator_logic_is binary.Or = refl
operator_logic_is binary.And = refl
operator_logic_is _ = refl

outermost_at : (y : Node) → (shape_node y).logic ≡ logic_is (outermost_node y)
outermost_at (Expr-F.Binary o a b) = operator_logic_is o
outermost_at (Expr-F.Update side.Before o x) = refl
outermost_at (Expr-F.Update side.Behind o x) = refl
outermost_at _ = refl

pub outermost_is : (x : Expr) → (of_expr x).logic ≡ logic_is (outermost x)
outermost_is x = ap (λ (z : Shape). z.logic) (shape_out x) ∙ outermost_at (out-Expr x)

-- ---- values, by their parts

pub least : (n : ℕ) (x : Shape) → x.fits ≡ true → n ≤ x.level → at_least n x ≡ true
least n x h k = and_from x.fits _ h (le-leb n x.level k)

pub over : (n : ℕ) (x : Shape) → x.fits ≡ true → n < x.level → above n x ≡ true
over n x h k = and_from x.fits _ h (lt-ltb n x.level k)

-- a value with nothing open
pub sealed : (fs : List Open) (b : Bool) → b ≡ true → Tight operand_level fs (primary b)
sealed fs b h = record { fits = h; level = omega arith; plain = refl; first = other_first fs }

pub begun : (fs : List Open) (b : Bool) (f : First) → b ≡ true → may_begin fs f ≡ true → Tight operand_level fs (shaped b operand_level f)
begun fs b f h k = record { fits = h; level = omega arith; plain = refl; first = k }

pub accessed : (fs : List Open) (x : Shape) (b : Bool) → Tight operand_level fs x → b ≡ true → Tight operand_level fs (accessing x b)
accessed fs x b h k = record { fits = and_from (at_least operand_level x) b (least operand_level x h.fits h.level) k; level = omega arith; plain = refl; first = h.first }

pub tight_name : (fs : List Open) (n : Name) → Tight operand_level fs (of_expr (expr.Name n))
tight_name fs n = subst (Tight operand_level fs) (sym (shape_name n)) (sealed fs true refl)

pub tight_member : (fs : List Open) (x : Expr) (n : Name) → Tight operand_level fs (of_expr x) → Tight operand_level fs (of_expr (expr.Member x n))
tight_member fs x n h = subst (Tight operand_level fs) (sym (shape_member x n)) (accessed fs (of_expr x) true h refl)

pub tight_index : (fs : List Open) (x k : Expr) → Tight operand_level fs (of_expr x) → Fit k → Tight operand_level fs (of_expr (expr.Index x k))
tight_index fs x k h f = subst (Tight operand_level fs) (sym (shape_index x k)) (accessed fs (of_expr x) (of_expr k).fits h f)

pub tight_call : (fs : List Open) (x : Expr) (xs : List Expr) → Tight operand_level fs (of_expr x) → AllFit xs → Tight operand_level fs (of_expr (expr.Call x xs))
tight_call fs x xs h f = subst (Tight operand_level fs) (sym (shape_call x xs)) (accessed fs (of_expr x) (all_fit (map of_expr xs)) h f)

pub tight_group : (fs : List Open) (x : Expr) → Fit x → Tight operand_level fs (of_expr (expr.Group x))
tight_group fs x h = subst (Tight operand_level fs) (sym (shape_group x)) (sealed fs (of_expr x).fits h)

-- .. is what a frame may get
pub fills : (n : ℕ) (fs : List Open) (x : Shape) → 7 ≤ n → Tight n fs x → Fills fs x
fills n fs x l h = let m = need_most fs in let a = h.level in record { fits = h.fits; level = omega arith; unmixed = apart_plain (beside fs) x.logic h.plain; first = h.first }

-- a prefix operator has its operand
prefixed : (fs : List Open) (x : Shape) → x.fits ≡ true → prefix_level ≤ x.level → Fills fs (shaped (at_least prefix_level x) prefix_level OtherFirst)
prefixed fs x h k = record { fits = least prefix_level x h k; level = need_most fs; unmixed = apart_none (beside fs); first = other_first fs }

pub fills_unary : (fs : List Open) (o : UnaryOp) (x : Expr) → Fit x → prefix_level ≤ (of_expr x).level → Fills fs (of_expr (expr.Unary o x))
fills_unary fs o x h k = subst (Fills fs) (sym (shape_unary o x)) (prefixed fs (of_expr x) h k)

pub fills_await : (fs : List Open) (q : ℕ) (x : Expr) → Fit x → prefix_level ≤ (of_expr x).level → Fills fs (of_expr (expr.Await q x))
fills_await fs q x h k = subst (Fills fs) (sym (shape_await q x)) (prefixed fs (of_expr x) h k)

pub fills_before : (fs : List Open) (o : UpdateOp) (t : Target) → (of_target t).fits ≡ true → Fills fs (of_expr (expr.Update side.Before o t))
fills_before fs o t h = subst (Fills fs) (sym (shape_update side.Before o t)) (record { fits = h; level = need_most fs; unmixed = apart_none (beside fs); first = other_first fs })

pub tight_behind : (fs : List Open) (o : UpdateOp) (t : Target) → Tight operand_level fs (of_target t) → Tight postfix_level fs (of_expr (expr.Update side.Behind o t))
tight_behind fs o t h = subst (Tight postfix_level fs) (sym (shape_update side.Behind o t)) (record { fits = h.fits; level = omega arith; plain = refl; first = h.first })

-- a binary operator has its operands
pub fills_binary : (fs : List Open) (o : BinaryOp) (l x : Expr) → Left o fs (of_expr l) → Fit x → strength o < (of_expr x).level → apart (logic o) (of_expr x).logic ≡ true → Fills fs (of_expr (expr.Binary o l x))
fills_binary fs o l x h f k a =
    let both : (at_least (strength o) (of_expr l) && above (strength o) (of_expr x)) ≡ true = and_from (at_least (strength o) (of_expr l)) _ (least (strength o) (of_expr l) h.fits h.level) (over (strength o) (of_expr x) f k) in
    subst (Fills fs) (sym (shape_binary o l x)) (record { fits = and_from (at_least (strength o) (of_expr l) && above (strength o) (of_expr x)) _ both (unmixed_from (logic o) (of_expr l) (of_expr x) h.unmixed a); level = h.low; unmixed = h.next; first = h.first })

pub level_binary : (o : BinaryOp) (l x : Expr) → (of_expr (expr.Binary o l x)).level ≡ strength o
level_binary o l x = ap (λ (z : Shape). z.level) (shape_binary o l x)

-- what binds least
loose : (fs : List Open) (b : Bool) (f : First) → b ≡ true → IsFree fs → may_begin fs f ≡ true → Fills fs (shaped b 0 f)
loose fs b f h k l = record { fits = h; level = omega arith; unmixed = apart_none (beside fs); first = l }

pub fills_assign : (fs : List Open) (o : AssignOp) (t : Target) (x : Expr) → Begun 0 fs (of_target t) → Fit x → Fills fs (of_expr (expr.Assign o t x))
fills_assign fs o t x h f = subst (Fills fs) (sym (shape_assign o t x)) (loose fs _ (of_target t).first (and_from (of_target t).fits _ h.fits f) h.free h.first)

pub fills_conditional : (fs : List Open) (test a x : Expr) → Begun 1 fs (of_expr test) → Fit a → Fit x → Fills fs (of_expr (expr.Conditional test a x))
fills_conditional fs test a x h f g = subst (Fills fs) (sym (shape_conditional test a x)) (loose fs _ (of_expr test).first (and_from (at_least 1 (of_expr test)) _ (least 1 (of_expr test) h.fits h.level) (and_from (of_expr a).fits _ f g)) h.free h.first)

pub fills_arrow : (fs : List Open) (a : Bool) (ns : List Name) (b : ArrowBody) → IsFree fs → of_arrow_body b ≡ true → Fills fs (of_expr (expr.Arrow a ns b))
fills_arrow fs a ns b h k = subst (Fills fs) (sym (shape_arrow_expr a ns b)) (loose fs _ OtherFirst k h (other_first fs))
