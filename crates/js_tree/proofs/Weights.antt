-- The weight of each form, by those of its parts.
use Rattle.std.proofs.Common.{◌≡◌, ℕ, ◌+◌, Bool, List, map, Option, Some, None, option_map, sym, ap, ◌∙◌}
use Rattle.js_tree.specs.declared.tree.Name.{Name}
use Rattle.js_tree.specs.declared.tree.Key.{Key}
use Rattle.js_tree.specs.declared.tree.AssignOp.{AssignOp}
use Rattle.js_tree.specs.declared.tree.BinaryOp.{BinaryOp}
use Rattle.js_tree.specs.declared.tree.UnaryOp.{UnaryOp}
use Rattle.js_tree.specs.declared.tree.UpdateOp.{UpdateOp}
use Rattle.js_tree.specs.declared.tree.UpdateSide.{UpdateSide}
use Rattle.js_tree.specs.declared.tree.DeclareKind.{DeclareKind}
use Rattle.js_tree.specs.declared.tree.ArrowBody.{ArrowBody}
use Rattle.js_tree.specs.declared.tree.ArrowBody.TheVariants as arrow
use Rattle.js_tree.specs.declared.tree.ArrowBody.TheOpen.{ArrowBody-F, Expr-F, ForBegin-F, Property-F, Stmt-F, Target-F}
use Rattle.js_tree.specs.declared.tree.ArrowBody.TheFolds.{fold-roll-ArrowBody, fold-roll-Expr, fold-roll-ForBegin, fold-roll-Property, fold-roll-Stmt, fold-roll-Target, fold-roll-Catch, fold-roll-Declaration, fold-roll-Function, fold-roll-TemplateItem}
use Rattle.js_tree.specs.declared.tree.Catch.{Catch}
use Rattle.js_tree.specs.declared.tree.Declaration.{Declaration, roll-Declaration}
use Rattle.js_tree.specs.declared.tree.Expr.{Expr}
use Rattle.js_tree.specs.declared.tree.Expr.TheVariants as expr
use Rattle.js_tree.specs.declared.tree.ForBegin.{ForBegin}
use Rattle.js_tree.specs.declared.tree.ForBegin.TheVariants as begin
use Rattle.js_tree.specs.declared.tree.Function.{Function}
use Rattle.js_tree.specs.declared.tree.Property.{Property}
use Rattle.js_tree.specs.declared.tree.Property.TheVariants as property
use Rattle.js_tree.specs.declared.tree.Stmt.{Stmt}
use Rattle.js_tree.specs.declared.tree.Stmt.TheVariants as stmt
use Rattle.js_tree.specs.declared.tree.Target.{Target}
use Rattle.js_tree.specs.declared.tree.Target.TheVariants as target
use Rattle.js_tree.specs.declared.tree.TemplateItem.{TemplateItem}
use Rattle.js_tree.specs.Weight.{node, part, parts, names, optional, finally_of, arrow_step, expr_step, begin_step, property_step, stmt_step, target_step, catch_step, declaration_step, function_step, template_step, of_arrow, of_expr, of_begin, of_property, of_stmt, of_target, of_catch, of_declaration, of_function, of_template}

pub name_weight : (n : Name) → of_expr (expr.Name n) ≡ node 0
name_weight n = ap of_expr (sym (expr.rolls-Name n)) ∙ fold-roll-Expr ℕ ℕ ℕ ℕ ℕ ℕ ℕ ℕ ℕ ℕ arrow_step expr_step begin_step property_step stmt_step target_step catch_step declaration_step function_step template_step (Expr-F.Name n)

pub number_weight : (n : ℕ) → of_expr (expr.Number n) ≡ node 0
number_weight n = ap of_expr (sym (expr.rolls-Number n)) ∙ fold-roll-Expr ℕ ℕ ℕ ℕ ℕ ℕ ℕ ℕ ℕ ℕ arrow_step expr_step begin_step property_step stmt_step target_step catch_step declaration_step function_step template_step (Expr-F.Number n)

pub text_weight : (units : List ℕ) → of_expr (expr.Text units) ≡ node 0
text_weight units = ap of_expr (sym (expr.rolls-Text units)) ∙ fold-roll-Expr ℕ ℕ ℕ ℕ ℕ ℕ ℕ ℕ ℕ ℕ arrow_step expr_step begin_step property_step stmt_step target_step catch_step declaration_step function_step template_step (Expr-F.Text units)

pub true_weight : of_expr expr.True ≡ node 0
true_weight = ap of_expr (sym expr.rolls-True) ∙ fold-roll-Expr ℕ ℕ ℕ ℕ ℕ ℕ ℕ ℕ ℕ ℕ arrow_step expr_step begin_step property_step stmt_step target_step catch_step declaration_step function_step template_step Expr-F.True

pub false_weight : of_expr expr.False ≡ node 0
false_weight = ap of_expr (sym expr.rolls-False) ∙ fold-roll-Expr ℕ ℕ ℕ ℕ ℕ ℕ ℕ ℕ ℕ ℕ arrow_step expr_step begin_step property_step stmt_step target_step catch_step declaration_step function_step template_step Expr-F.False

pub null_weight : of_expr expr.Null ≡ node 0
null_weight = ap of_expr (sym expr.rolls-Null) ∙ fold-roll-Expr ℕ ℕ ℕ ℕ ℕ ℕ ℕ ℕ ℕ ℕ arrow_step expr_step begin_step property_step stmt_step target_step catch_step declaration_step function_step template_step Expr-F.Null

pub this_weight : of_expr expr.This ≡ node 0
this_weight = ap of_expr (sym expr.rolls-This) ∙ fold-roll-Expr ℕ ℕ ℕ ℕ ℕ ℕ ℕ ℕ ℕ ℕ arrow_step expr_step begin_step property_step stmt_step target_step catch_step declaration_step function_step template_step Expr-F.This

pub template_weight : (items : List TemplateItem) (last : List ℕ) → of_expr (expr.Template items last) ≡ node (part (parts (map of_template items)))
template_weight items last = ap of_expr (sym (expr.rolls-Template items last)) ∙ fold-roll-Expr ℕ ℕ ℕ ℕ ℕ ℕ ℕ ℕ ℕ ℕ arrow_step expr_step begin_step property_step stmt_step target_step catch_step declaration_step function_step template_step (Expr-F.Template items last)

pub array_weight : (items : List Expr) → of_expr (expr.Array items) ≡ node (part (parts (map of_expr items)))
array_weight items = ap of_expr (sym (expr.rolls-Array items)) ∙ fold-roll-Expr ℕ ℕ ℕ ℕ ℕ ℕ ℕ ℕ ℕ ℕ arrow_step expr_step begin_step property_step stmt_step target_step catch_step declaration_step function_step template_step (Expr-F.Array items)

pub object_weight : (properties : List Property) → of_expr (expr.Object properties) ≡ node (part (parts (map of_property properties)))
object_weight properties = ap of_expr (sym (expr.rolls-Object properties)) ∙ fold-roll-Expr ℕ ℕ ℕ ℕ ℕ ℕ ℕ ℕ ℕ ℕ arrow_step expr_step begin_step property_step stmt_step target_step catch_step declaration_step function_step template_step (Expr-F.Object properties)

pub function_expr_weight : (n : Option Name) (f : Function) → of_expr (expr.Function n f) ≡ node (part (of_function f))
function_expr_weight n f = ap of_expr (sym (expr.rolls-Function n f)) ∙ fold-roll-Expr ℕ ℕ ℕ ℕ ℕ ℕ ℕ ℕ ℕ ℕ arrow_step expr_step begin_step property_step stmt_step target_step catch_step declaration_step function_step template_step (Expr-F.Function n f)

pub arrow_expr_weight : (is_async : Bool) (parameters : List Name) (body : ArrowBody) → of_expr (expr.Arrow is_async parameters body) ≡ node (part (names parameters) + part (of_arrow body))
arrow_expr_weight is_async parameters body = ap of_expr (sym (expr.rolls-Arrow is_async parameters body)) ∙ fold-roll-Expr ℕ ℕ ℕ ℕ ℕ ℕ ℕ ℕ ℕ ℕ arrow_step expr_step begin_step property_step stmt_step target_step catch_step declaration_step function_step template_step (Expr-F.Arrow is_async parameters body)

pub group_weight : (inner : Expr) → of_expr (expr.Group inner) ≡ node (part (of_expr inner))
group_weight inner = ap of_expr (sym (expr.rolls-Group inner)) ∙ fold-roll-Expr ℕ ℕ ℕ ℕ ℕ ℕ ℕ ℕ ℕ ℕ arrow_step expr_step begin_step property_step stmt_step target_step catch_step declaration_step function_step template_step (Expr-F.Group inner)

pub unary_weight : (op : UnaryOp) (value : Expr) → of_expr (expr.Unary op value) ≡ node (part (of_expr value))
unary_weight op value = ap of_expr (sym (expr.rolls-Unary op value)) ∙ fold-roll-Expr ℕ ℕ ℕ ℕ ℕ ℕ ℕ ℕ ℕ ℕ arrow_step expr_step begin_step property_step stmt_step target_step catch_step declaration_step function_step template_step (Expr-F.Unary op value)

pub await_weight : (place : ℕ) (value : Expr) → of_expr (expr.Await place value) ≡ node (part 0 + part (of_expr value))
await_weight place value = ap of_expr (sym (expr.rolls-Await place value)) ∙ fold-roll-Expr ℕ ℕ ℕ ℕ ℕ ℕ ℕ ℕ ℕ ℕ arrow_step expr_step begin_step property_step stmt_step target_step catch_step declaration_step function_step template_step (Expr-F.Await place value)

pub update_weight : (side : UpdateSide) (op : UpdateOp) (target : Target) → of_expr (expr.Update side op target) ≡ node (part (of_target target))
update_weight side op target = ap of_expr (sym (expr.rolls-Update side op target)) ∙ fold-roll-Expr ℕ ℕ ℕ ℕ ℕ ℕ ℕ ℕ ℕ ℕ arrow_step expr_step begin_step property_step stmt_step target_step catch_step declaration_step function_step template_step (Expr-F.Update side op target)

pub binary_weight : (op : BinaryOp) (left : Expr) (right : Expr) → of_expr (expr.Binary op left right) ≡ node (part (of_expr left) + part (of_expr right))
binary_weight op left right = ap of_expr (sym (expr.rolls-Binary op left right)) ∙ fold-roll-Expr ℕ ℕ ℕ ℕ ℕ ℕ ℕ ℕ ℕ ℕ arrow_step expr_step begin_step property_step stmt_step target_step catch_step declaration_step function_step template_step (Expr-F.Binary op left right)

pub conditional_weight : (test : Expr) (left : Expr) (right : Expr) → of_expr (expr.Conditional test left right) ≡ node (part (of_expr test) + part (of_expr left) + part (of_expr right))
conditional_weight test left right = ap of_expr (sym (expr.rolls-Conditional test left right)) ∙ fold-roll-Expr ℕ ℕ ℕ ℕ ℕ ℕ ℕ ℕ ℕ ℕ arrow_step expr_step begin_step property_step stmt_step target_step catch_step declaration_step function_step template_step (Expr-F.Conditional test left right)

pub assign_weight : (op : AssignOp) (target : Target) (value : Expr) → of_expr (expr.Assign op target value) ≡ node (part (of_target target) + part (of_expr value))
assign_weight op target value = ap of_expr (sym (expr.rolls-Assign op target value)) ∙ fold-roll-Expr ℕ ℕ ℕ ℕ ℕ ℕ ℕ ℕ ℕ ℕ arrow_step expr_step begin_step property_step stmt_step target_step catch_step declaration_step function_step template_step (Expr-F.Assign op target value)

pub call_weight : (callee : Expr) (arguments : List Expr) → of_expr (expr.Call callee arguments) ≡ node (part (of_expr callee) + part (parts (map of_expr arguments)))
call_weight callee arguments = ap of_expr (sym (expr.rolls-Call callee arguments)) ∙ fold-roll-Expr ℕ ℕ ℕ ℕ ℕ ℕ ℕ ℕ ℕ ℕ arrow_step expr_step begin_step property_step stmt_step target_step catch_step declaration_step function_step template_step (Expr-F.Call callee arguments)

pub new_weight : (n : Name) (arguments : List Expr) → of_expr (expr.New n arguments) ≡ node (part (parts (map of_expr arguments)))
new_weight n arguments = ap of_expr (sym (expr.rolls-New n arguments)) ∙ fold-roll-Expr ℕ ℕ ℕ ℕ ℕ ℕ ℕ ℕ ℕ ℕ arrow_step expr_step begin_step property_step stmt_step target_step catch_step declaration_step function_step template_step (Expr-F.New n arguments)

pub member_weight : (object : Expr) (n : Name) → of_expr (expr.Member object n) ≡ node (part (of_expr object))
member_weight object n = ap of_expr (sym (expr.rolls-Member object n)) ∙ fold-roll-Expr ℕ ℕ ℕ ℕ ℕ ℕ ℕ ℕ ℕ ℕ arrow_step expr_step begin_step property_step stmt_step target_step catch_step declaration_step function_step template_step (Expr-F.Member object n)

pub index_weight : (object : Expr) (key : Expr) → of_expr (expr.Index object key) ≡ node (part (of_expr object) + part (of_expr key))
index_weight object key = ap of_expr (sym (expr.rolls-Index object key)) ∙ fold-roll-Expr ℕ ℕ ℕ ℕ ℕ ℕ ℕ ℕ ℕ ℕ arrow_step expr_step begin_step property_step stmt_step target_step catch_step declaration_step function_step template_step (Expr-F.Index object key)

pub declare_weight : (kind : DeclareKind) (ds : List Declaration) → of_stmt (stmt.Declare kind ds) ≡ node (part (parts (map of_declaration ds)))
declare_weight kind ds = ap of_stmt (sym (stmt.rolls-Declare kind ds)) ∙ fold-roll-Stmt ℕ ℕ ℕ ℕ ℕ ℕ ℕ ℕ ℕ ℕ arrow_step expr_step begin_step property_step stmt_step target_step catch_step declaration_step function_step template_step (Stmt-F.Declare kind ds)

pub declare_function_weight : (n : Name) (f : Function) → of_stmt (stmt.DeclareFunction n f) ≡ node (part 0 + part (of_function f))
declare_function_weight n f = ap of_stmt (sym (stmt.rolls-DeclareFunction n f)) ∙ fold-roll-Stmt ℕ ℕ ℕ ℕ ℕ ℕ ℕ ℕ ℕ ℕ arrow_step expr_step begin_step property_step stmt_step target_step catch_step declaration_step function_step template_step (Stmt-F.DeclareFunction n f)

pub block_weight : (ss : List Stmt) → of_stmt (stmt.Block ss) ≡ node (part (parts (map of_stmt ss)))
block_weight ss = ap of_stmt (sym (stmt.rolls-Block ss)) ∙ fold-roll-Stmt ℕ ℕ ℕ ℕ ℕ ℕ ℕ ℕ ℕ ℕ arrow_step expr_step begin_step property_step stmt_step target_step catch_step declaration_step function_step template_step (Stmt-F.Block ss)

pub if_weight : (test : Expr) (body : Stmt) (other : Option Stmt) → of_stmt (stmt.If test body other) ≡ node (part (of_expr test) + part (of_stmt body) + optional (option_map of_stmt other))
if_weight test body None = ap of_stmt (sym (stmt.rolls-If test body None)) ∙ fold-roll-Stmt ℕ ℕ ℕ ℕ ℕ ℕ ℕ ℕ ℕ ℕ arrow_step expr_step begin_step property_step stmt_step target_step catch_step declaration_step function_step template_step (Stmt-F.If test body None)
if_weight test body (Some other) = ap of_stmt (sym (stmt.rolls-If test body (Some other))) ∙ fold-roll-Stmt ℕ ℕ ℕ ℕ ℕ ℕ ℕ ℕ ℕ ℕ arrow_step expr_step begin_step property_step stmt_step target_step catch_step declaration_step function_step template_step (Stmt-F.If test body (Some other))

pub for_weight : (begin : ForBegin) (test : Option Expr) (update : Option Expr) (body : Stmt) → of_stmt (stmt.For begin test update body) ≡ node (part (of_begin begin) + optional (option_map of_expr test) + optional (option_map of_expr update) + part (of_stmt body))
for_weight begin None None body = ap of_stmt (sym (stmt.rolls-For begin None None body)) ∙ fold-roll-Stmt ℕ ℕ ℕ ℕ ℕ ℕ ℕ ℕ ℕ ℕ arrow_step expr_step begin_step property_step stmt_step target_step catch_step declaration_step function_step template_step (Stmt-F.For begin None None body)
for_weight begin None (Some update) body = ap of_stmt (sym (stmt.rolls-For begin None (Some update) body)) ∙ fold-roll-Stmt ℕ ℕ ℕ ℕ ℕ ℕ ℕ ℕ ℕ ℕ arrow_step expr_step begin_step property_step stmt_step target_step catch_step declaration_step function_step template_step (Stmt-F.For begin None (Some update) body)
for_weight begin (Some test) None body = ap of_stmt (sym (stmt.rolls-For begin (Some test) None body)) ∙ fold-roll-Stmt ℕ ℕ ℕ ℕ ℕ ℕ ℕ ℕ ℕ ℕ arrow_step expr_step begin_step property_step stmt_step target_step catch_step declaration_step function_step template_step (Stmt-F.For begin (Some test) None body)
for_weight begin (Some test) (Some update) body = ap of_stmt (sym (stmt.rolls-For begin (Some test) (Some update) body)) ∙ fold-roll-Stmt ℕ ℕ ℕ ℕ ℕ ℕ ℕ ℕ ℕ ℕ arrow_step expr_step begin_step property_step stmt_step target_step catch_step declaration_step function_step template_step (Stmt-F.For begin (Some test) (Some update) body)

pub for_of_weight : (kind : DeclareKind) (n : Name) (value : Expr) (body : Stmt) → of_stmt (stmt.ForOf kind n value body) ≡ node (part 0 + part (of_expr value) + part (of_stmt body))
for_of_weight kind n value body = ap of_stmt (sym (stmt.rolls-ForOf kind n value body)) ∙ fold-roll-Stmt ℕ ℕ ℕ ℕ ℕ ℕ ℕ ℕ ℕ ℕ arrow_step expr_step begin_step property_step stmt_step target_step catch_step declaration_step function_step template_step (Stmt-F.ForOf kind n value body)

pub while_weight : (test : Expr) (body : Stmt) → of_stmt (stmt.While test body) ≡ node (part (of_expr test) + part (of_stmt body))
while_weight test body = ap of_stmt (sym (stmt.rolls-While test body)) ∙ fold-roll-Stmt ℕ ℕ ℕ ℕ ℕ ℕ ℕ ℕ ℕ ℕ arrow_step expr_step begin_step property_step stmt_step target_step catch_step declaration_step function_step template_step (Stmt-F.While test body)

pub break_weight : (place : ℕ) → of_stmt (stmt.Break place) ≡ node (part 0)
break_weight place = ap of_stmt (sym (stmt.rolls-Break place)) ∙ fold-roll-Stmt ℕ ℕ ℕ ℕ ℕ ℕ ℕ ℕ ℕ ℕ arrow_step expr_step begin_step property_step stmt_step target_step catch_step declaration_step function_step template_step (Stmt-F.Break place)

pub continue_weight : (place : ℕ) → of_stmt (stmt.Continue place) ≡ node (part 0)
continue_weight place = ap of_stmt (sym (stmt.rolls-Continue place)) ∙ fold-roll-Stmt ℕ ℕ ℕ ℕ ℕ ℕ ℕ ℕ ℕ ℕ arrow_step expr_step begin_step property_step stmt_step target_step catch_step declaration_step function_step template_step (Stmt-F.Continue place)

pub return_weight : (place : ℕ) (value : Option Expr) → of_stmt (stmt.Return place value) ≡ node (part 0 + optional (option_map of_expr value))
return_weight place None = ap of_stmt (sym (stmt.rolls-Return place None)) ∙ fold-roll-Stmt ℕ ℕ ℕ ℕ ℕ ℕ ℕ ℕ ℕ ℕ arrow_step expr_step begin_step property_step stmt_step target_step catch_step declaration_step function_step template_step (Stmt-F.Return place None)
return_weight place (Some value) = ap of_stmt (sym (stmt.rolls-Return place (Some value))) ∙ fold-roll-Stmt ℕ ℕ ℕ ℕ ℕ ℕ ℕ ℕ ℕ ℕ arrow_step expr_step begin_step property_step stmt_step target_step catch_step declaration_step function_step template_step (Stmt-F.Return place (Some value))

pub throw_weight : (value : Expr) → of_stmt (stmt.Throw value) ≡ node (part (of_expr value))
throw_weight value = ap of_stmt (sym (stmt.rolls-Throw value)) ∙ fold-roll-Stmt ℕ ℕ ℕ ℕ ℕ ℕ ℕ ℕ ℕ ℕ arrow_step expr_step begin_step property_step stmt_step target_step catch_step declaration_step function_step template_step (Stmt-F.Throw value)

pub try_weight : (body : List Stmt) (catch : Option Catch) (finally : Option (List Stmt)) → of_stmt (stmt.Try body catch finally) ≡ node (part (parts (map of_stmt body)) + optional (option_map of_catch catch) + finally_of (option_map (map of_stmt) finally))
try_weight body None None = ap of_stmt (sym (stmt.rolls-Try body None None)) ∙ fold-roll-Stmt ℕ ℕ ℕ ℕ ℕ ℕ ℕ ℕ ℕ ℕ arrow_step expr_step begin_step property_step stmt_step target_step catch_step declaration_step function_step template_step (Stmt-F.Try body None None)
try_weight body None (Some finally) = ap of_stmt (sym (stmt.rolls-Try body None (Some finally))) ∙ fold-roll-Stmt ℕ ℕ ℕ ℕ ℕ ℕ ℕ ℕ ℕ ℕ arrow_step expr_step begin_step property_step stmt_step target_step catch_step declaration_step function_step template_step (Stmt-F.Try body None (Some finally))
try_weight body (Some catch) None = ap of_stmt (sym (stmt.rolls-Try body (Some catch) None)) ∙ fold-roll-Stmt ℕ ℕ ℕ ℕ ℕ ℕ ℕ ℕ ℕ ℕ arrow_step expr_step begin_step property_step stmt_step target_step catch_step declaration_step function_step template_step (Stmt-F.Try body (Some catch) None)
try_weight body (Some catch) (Some finally) = ap of_stmt (sym (stmt.rolls-Try body (Some catch) (Some finally))) ∙ fold-roll-Stmt ℕ ℕ ℕ ℕ ℕ ℕ ℕ ℕ ℕ ℕ arrow_step expr_step begin_step property_step stmt_step target_step catch_step declaration_step function_step template_step (Stmt-F.Try body (Some catch) (Some finally))

pub empty_weight : of_stmt stmt.Empty ≡ node 0
empty_weight = ap of_stmt (sym stmt.rolls-Empty) ∙ fold-roll-Stmt ℕ ℕ ℕ ℕ ℕ ℕ ℕ ℕ ℕ ℕ arrow_step expr_step begin_step property_step stmt_step target_step catch_step declaration_step function_step template_step Stmt-F.Empty

pub expr_stmt_weight : (e : Expr) → of_stmt (stmt.Expr e) ≡ node (part (of_expr e))
expr_stmt_weight e = ap of_stmt (sym (stmt.rolls-Expr e)) ∙ fold-roll-Stmt ℕ ℕ ℕ ℕ ℕ ℕ ℕ ℕ ℕ ℕ arrow_step expr_step begin_step property_step stmt_step target_step catch_step declaration_step function_step template_step (Stmt-F.Expr e)

pub variable_weight : (n : Name) → of_target (target.Variable n) ≡ node 0
variable_weight n = ap of_target (sym (target.rolls-Variable n)) ∙ fold-roll-Target ℕ ℕ ℕ ℕ ℕ ℕ ℕ ℕ ℕ ℕ arrow_step expr_step begin_step property_step stmt_step target_step catch_step declaration_step function_step template_step (Target-F.Variable n)

pub field_weight : (object : Expr) (n : Name) → of_target (target.Field object n) ≡ node (part (of_expr object))
field_weight object n = ap of_target (sym (target.rolls-Field object n)) ∙ fold-roll-Target ℕ ℕ ℕ ℕ ℕ ℕ ℕ ℕ ℕ ℕ arrow_step expr_step begin_step property_step stmt_step target_step catch_step declaration_step function_step template_step (Target-F.Field object n)

pub item_weight : (object : Expr) (key : Expr) → of_target (target.Item object key) ≡ node (part (of_expr object) + part (of_expr key))
item_weight object key = ap of_target (sym (target.rolls-Item object key)) ∙ fold-roll-Target ℕ ℕ ℕ ℕ ℕ ℕ ℕ ℕ ℕ ℕ arrow_step expr_step begin_step property_step stmt_step target_step catch_step declaration_step function_step template_step (Target-F.Item object key)

pub pair_weight : (key : Key) (value : Expr) → of_property (property.Pair key value) ≡ node (part (of_expr value))
pair_weight key value = ap of_property (sym (property.rolls-Pair key value)) ∙ fold-roll-Property ℕ ℕ ℕ ℕ ℕ ℕ ℕ ℕ ℕ ℕ arrow_step expr_step begin_step property_step stmt_step target_step catch_step declaration_step function_step template_step (Property-F.Pair key value)

pub short_weight : (n : Name) → of_property (property.Short n) ≡ node 0
short_weight n = ap of_property (sym (property.rolls-Short n)) ∙ fold-roll-Property ℕ ℕ ℕ ℕ ℕ ℕ ℕ ℕ ℕ ℕ arrow_step expr_step begin_step property_step stmt_step target_step catch_step declaration_step function_step template_step (Property-F.Short n)

pub method_weight : (key : Key) (f : Function) → of_property (property.Method key f) ≡ node (part (of_function f))
method_weight key f = ap of_property (sym (property.rolls-Method key f)) ∙ fold-roll-Property ℕ ℕ ℕ ℕ ℕ ℕ ℕ ℕ ℕ ℕ arrow_step expr_step begin_step property_step stmt_step target_step catch_step declaration_step function_step template_step (Property-F.Method key f)

pub statements_weight : (ss : List Stmt) → of_arrow (arrow.Statements ss) ≡ node (part (parts (map of_stmt ss)))
statements_weight ss = ap of_arrow (sym (arrow.rolls-Statements ss)) ∙ fold-roll-ArrowBody ℕ ℕ ℕ ℕ ℕ ℕ ℕ ℕ ℕ ℕ arrow_step expr_step begin_step property_step stmt_step target_step catch_step declaration_step function_step template_step (ArrowBody-F.Statements ss)

pub value_weight : (e : Expr) → of_arrow (arrow.Value e) ≡ node (part (of_expr e))
value_weight e = ap of_arrow (sym (arrow.rolls-Value e)) ∙ fold-roll-ArrowBody ℕ ℕ ℕ ℕ ℕ ℕ ℕ ℕ ℕ ℕ arrow_step expr_step begin_step property_step stmt_step target_step catch_step declaration_step function_step template_step (ArrowBody-F.Value e)

pub nothing_weight : of_begin begin.Nothing ≡ node 0
nothing_weight = ap of_begin (sym begin.rolls-Nothing) ∙ fold-roll-ForBegin ℕ ℕ ℕ ℕ ℕ ℕ ℕ ℕ ℕ ℕ arrow_step expr_step begin_step property_step stmt_step target_step catch_step declaration_step function_step template_step ForBegin-F.Nothing

pub declarations_weight : (kind : DeclareKind) (ds : List Declaration) → of_begin (begin.Declarations kind ds) ≡ node (part (parts (map of_declaration ds)))
declarations_weight kind ds = ap of_begin (sym (begin.rolls-Declarations kind ds)) ∙ fold-roll-ForBegin ℕ ℕ ℕ ℕ ℕ ℕ ℕ ℕ ℕ ℕ arrow_step expr_step begin_step property_step stmt_step target_step catch_step declaration_step function_step template_step (ForBegin-F.Declarations kind ds)

pub start_weight : (e : Expr) → of_begin (begin.Start e) ≡ node (part (of_expr e))
start_weight e = ap of_begin (sym (begin.rolls-Start e)) ∙ fold-roll-ForBegin ℕ ℕ ℕ ℕ ℕ ℕ ℕ ℕ ℕ ℕ arrow_step expr_step begin_step property_step stmt_step target_step catch_step declaration_step function_step template_step (ForBegin-F.Start e)

-- the weight of a part that is a struct

pub function_weight : (f : Function) → of_function f ≡ node (part (names f.parameters) + part (parts (map of_stmt f.body)))
function_weight f = fold-roll-Function ℕ ℕ ℕ ℕ ℕ ℕ ℕ ℕ ℕ ℕ arrow_step expr_step begin_step property_step stmt_step target_step catch_step declaration_step function_step template_step (record { is_async = f.is_async; parameters = f.parameters; body = f.body })

pub catch_weight : (c : Catch) → of_catch c ≡ node (part 0 + part (parts (map of_stmt c.body)))
catch_weight c = fold-roll-Catch ℕ ℕ ℕ ℕ ℕ ℕ ℕ ℕ ℕ ℕ arrow_step expr_step begin_step property_step stmt_step target_step catch_step declaration_step function_step template_step (record { name = c.name; body = c.body })

declaration_parts : (n : Name) (v : Option Expr) → of_declaration (roll-Declaration (record { name = n; value = v })) ≡ node (part 0 + optional (option_map of_expr v))
declaration_parts n None = fold-roll-Declaration ℕ ℕ ℕ ℕ ℕ ℕ ℕ ℕ ℕ ℕ arrow_step expr_step begin_step property_step stmt_step target_step catch_step declaration_step function_step template_step (record { name = n; value = None })
declaration_parts n (Some v) = fold-roll-Declaration ℕ ℕ ℕ ℕ ℕ ℕ ℕ ℕ ℕ ℕ arrow_step expr_step begin_step property_step stmt_step target_step catch_step declaration_step function_step template_step (record { name = n; value = Some v })

pub declaration_weight : (d : Declaration) → of_declaration d ≡ node (part 0 + optional (option_map of_expr d.value))
declaration_weight d = declaration_parts d.name d.value

pub template_weight_of : (i : TemplateItem) → of_template i ≡ node (of_expr i.value)
template_weight_of i = fold-roll-TemplateItem ℕ ℕ ℕ ℕ ℕ ℕ ℕ ℕ ℕ ℕ arrow_step expr_step begin_step property_step stmt_step target_step catch_step declaration_step function_step template_step (record { units = i.units; value = i.value })
