-- The marks of each form, by those of its parts.
use Rattle.std.proofs.Common.{◌≡◌, ℕ, Bool, List, [], ◌∷◌, ◌++◌, map, Option, Some, None, option_map, sym, ap, ◌∙◌}
use Rattle.js_tree.specs.declared.tree.Name.{Name}
use Rattle.js_tree.specs.declared.tree.Key.{Key}
use Rattle.js_tree.specs.declared.tree.AssignOp.{AssignOp}
use Rattle.js_tree.specs.declared.tree.BinaryOp.{BinaryOp}
use Rattle.js_tree.specs.declared.tree.UnaryOp.{UnaryOp}
use Rattle.js_tree.specs.declared.tree.UpdateOp.{UpdateOp}
use Rattle.js_tree.specs.declared.tree.UpdateSide.{UpdateSide}
use Rattle.js_tree.specs.declared.tree.DeclareKind.{DeclareKind}
use Rattle.js_tree.specs.declared.tree.ArrowBody.{ArrowBody}
use Rattle.js_tree.specs.declared.tree.ArrowBody.TheVariants as arrow
use Rattle.js_tree.specs.declared.tree.ArrowBody.TheOpen.{ArrowBody-F, Expr-F, ForBegin-F, Property-F, Stmt-F, Target-F}
use Rattle.js_tree.specs.declared.tree.ArrowBody.TheFolds.{fold-roll-ArrowBody, fold-roll-Expr, fold-roll-ForBegin, fold-roll-Property, fold-roll-Stmt, fold-roll-Target, fold-roll-Catch, fold-roll-Declaration, fold-roll-Function, fold-roll-TemplateItem}
use Rattle.js_tree.specs.declared.tree.Catch.{Catch}
use Rattle.js_tree.specs.declared.tree.Declaration.{Declaration, roll-Declaration}
use Rattle.js_tree.specs.declared.tree.Expr.{Expr}
use Rattle.js_tree.specs.declared.tree.Expr.TheVariants as expr
use Rattle.js_tree.specs.declared.tree.ForBegin.{ForBegin}
use Rattle.js_tree.specs.declared.tree.ForBegin.TheVariants as begin
use Rattle.js_tree.specs.declared.tree.Function.{Function}
use Rattle.js_tree.specs.declared.tree.Property.{Property}
use Rattle.js_tree.specs.declared.tree.Property.TheVariants as property
use Rattle.js_tree.specs.declared.tree.Stmt.{Stmt}
use Rattle.js_tree.specs.declared.tree.Stmt.TheVariants as stmt
use Rattle.js_tree.specs.declared.tree.Target.{Target}
use Rattle.js_tree.specs.declared.tree.Target.TheVariants as target
use Rattle.js_tree.specs.declared.tree.TemplateItem.{TemplateItem}
use Rattle.js_scope.specs.declared.fault.EarlyKind.TheVariants.{AwaitOutside, BreakOutside, ReturnOutside}
use Rattle.js_scope.specs.Early.{Marks, Declares, word, concat, optional, named, scope, loop_body, block, finally_of, else_of, function_of, arrow_step, expr_step, begin_step, property_step, stmt_step, target_step, catch_step, declaration_step, function_step, template_step, of_arrow, of_expr, of_begin, of_property, of_stmt, of_target, of_catch, of_declaration, of_function, of_template}

pub name_marks : (n : Name) → of_expr (expr.Name n) ≡ []
name_marks n = ap of_expr (sym (expr.rolls-Name n)) ∙ fold-roll-Expr Marks Marks Marks Marks Marks Marks Marks Marks Marks Marks arrow_step expr_step begin_step property_step stmt_step target_step catch_step declaration_step function_step template_step (Expr-F.Name n)

pub number_marks : (n : ℕ) → of_expr (expr.Number n) ≡ []
number_marks n = ap of_expr (sym (expr.rolls-Number n)) ∙ fold-roll-Expr Marks Marks Marks Marks Marks Marks Marks Marks Marks Marks arrow_step expr_step begin_step property_step stmt_step target_step catch_step declaration_step function_step template_step (Expr-F.Number n)

pub text_marks : (units : List ℕ) → of_expr (expr.Text units) ≡ []
text_marks units = ap of_expr (sym (expr.rolls-Text units)) ∙ fold-roll-Expr Marks Marks Marks Marks Marks Marks Marks Marks Marks Marks arrow_step expr_step begin_step property_step stmt_step target_step catch_step declaration_step function_step template_step (Expr-F.Text units)

pub true_marks : of_expr expr.True ≡ []
true_marks = ap of_expr (sym expr.rolls-True) ∙ fold-roll-Expr Marks Marks Marks Marks Marks Marks Marks Marks Marks Marks arrow_step expr_step begin_step property_step stmt_step target_step catch_step declaration_step function_step template_step Expr-F.True

pub false_marks : of_expr expr.False ≡ []
false_marks = ap of_expr (sym expr.rolls-False) ∙ fold-roll-Expr Marks Marks Marks Marks Marks Marks Marks Marks Marks Marks arrow_step expr_step begin_step property_step stmt_step target_step catch_step declaration_step function_step template_step Expr-F.False

pub null_marks : of_expr expr.Null ≡ []
null_marks = ap of_expr (sym expr.rolls-Null) ∙ fold-roll-Expr Marks Marks Marks Marks Marks Marks Marks Marks Marks Marks arrow_step expr_step begin_step property_step stmt_step target_step catch_step declaration_step function_step template_step Expr-F.Null

pub this_marks : of_expr expr.This ≡ []
this_marks = ap of_expr (sym expr.rolls-This) ∙ fold-roll-Expr Marks Marks Marks Marks Marks Marks Marks Marks Marks Marks arrow_step expr_step begin_step property_step stmt_step target_step catch_step declaration_step function_step template_step Expr-F.This

pub template_marks : (items : List TemplateItem) (last : List ℕ) → of_expr (expr.Template items last) ≡ concat (map of_template items)
template_marks items last = ap of_expr (sym (expr.rolls-Template items last)) ∙ fold-roll-Expr Marks Marks Marks Marks Marks Marks Marks Marks Marks Marks arrow_step expr_step begin_step property_step stmt_step target_step catch_step declaration_step function_step template_step (Expr-F.Template items last)

pub array_marks : (items : List Expr) → of_expr (expr.Array items) ≡ concat (map of_expr items)
array_marks items = ap of_expr (sym (expr.rolls-Array items)) ∙ fold-roll-Expr Marks Marks Marks Marks Marks Marks Marks Marks Marks Marks arrow_step expr_step begin_step property_step stmt_step target_step catch_step declaration_step function_step template_step (Expr-F.Array items)

pub object_marks : (properties : List Property) → of_expr (expr.Object properties) ≡ concat (map of_property properties)
object_marks properties = ap of_expr (sym (expr.rolls-Object properties)) ∙ fold-roll-Expr Marks Marks Marks Marks Marks Marks Marks Marks Marks Marks arrow_step expr_step begin_step property_step stmt_step target_step catch_step declaration_step function_step template_step (Expr-F.Object properties)

pub function_expr_marks : (n : Option Name) (f : Function) → of_expr (expr.Function n f) ≡ scope (named n) ++ of_function f
function_expr_marks n f = ap of_expr (sym (expr.rolls-Function n f)) ∙ fold-roll-Expr Marks Marks Marks Marks Marks Marks Marks Marks Marks Marks arrow_step expr_step begin_step property_step stmt_step target_step catch_step declaration_step function_step template_step (Expr-F.Function n f)

pub arrow_expr_marks : (is_async : Bool) (parameters : List Name) (body : ArrowBody) → of_expr (expr.Arrow is_async parameters body) ≡ function_of is_async parameters (of_arrow body)
arrow_expr_marks is_async parameters body = ap of_expr (sym (expr.rolls-Arrow is_async parameters body)) ∙ fold-roll-Expr Marks Marks Marks Marks Marks Marks Marks Marks Marks Marks arrow_step expr_step begin_step property_step stmt_step target_step catch_step declaration_step function_step template_step (Expr-F.Arrow is_async parameters body)

pub group_marks : (inner : Expr) → of_expr (expr.Group inner) ≡ of_expr inner
group_marks inner = ap of_expr (sym (expr.rolls-Group inner)) ∙ fold-roll-Expr Marks Marks Marks Marks Marks Marks Marks Marks Marks Marks arrow_step expr_step begin_step property_step stmt_step target_step catch_step declaration_step function_step template_step (Expr-F.Group inner)

pub unary_marks : (op : UnaryOp) (value : Expr) → of_expr (expr.Unary op value) ≡ of_expr value
unary_marks op value = ap of_expr (sym (expr.rolls-Unary op value)) ∙ fold-roll-Expr Marks Marks Marks Marks Marks Marks Marks Marks Marks Marks arrow_step expr_step begin_step property_step stmt_step target_step catch_step declaration_step function_step template_step (Expr-F.Unary op value)

pub await_marks : (place : ℕ) (value : Expr) → of_expr (expr.Await place value) ≡ word AwaitOutside place ∷ of_expr value
await_marks place value = ap of_expr (sym (expr.rolls-Await place value)) ∙ fold-roll-Expr Marks Marks Marks Marks Marks Marks Marks Marks Marks Marks arrow_step expr_step begin_step property_step stmt_step target_step catch_step declaration_step function_step template_step (Expr-F.Await place value)

pub update_marks : (side : UpdateSide) (op : UpdateOp) (target : Target) → of_expr (expr.Update side op target) ≡ of_target target
update_marks side op target = ap of_expr (sym (expr.rolls-Update side op target)) ∙ fold-roll-Expr Marks Marks Marks Marks Marks Marks Marks Marks Marks Marks arrow_step expr_step begin_step property_step stmt_step target_step catch_step declaration_step function_step template_step (Expr-F.Update side op target)

pub binary_marks : (op : BinaryOp) (left : Expr) (right : Expr) → of_expr (expr.Binary op left right) ≡ of_expr left ++ of_expr right
binary_marks op left right = ap of_expr (sym (expr.rolls-Binary op left right)) ∙ fold-roll-Expr Marks Marks Marks Marks Marks Marks Marks Marks Marks Marks arrow_step expr_step begin_step property_step stmt_step target_step catch_step declaration_step function_step template_step (Expr-F.Binary op left right)

pub conditional_marks : (test : Expr) (left : Expr) (right : Expr) → of_expr (expr.Conditional test left right) ≡ of_expr test ++ of_expr left ++ of_expr right
conditional_marks test left right = ap of_expr (sym (expr.rolls-Conditional test left right)) ∙ fold-roll-Expr Marks Marks Marks Marks Marks Marks Marks Marks Marks Marks arrow_step expr_step begin_step property_step stmt_step target_step catch_step declaration_step function_step template_step (Expr-F.Conditional test left right)

pub assign_marks : (op : AssignOp) (target : Target) (value : Expr) → of_expr (expr.Assign op target value) ≡ of_target target ++ of_expr value
assign_marks op target value = ap of_expr (sym (expr.rolls-Assign op target value)) ∙ fold-roll-Expr Marks Marks Marks Marks Marks Marks Marks Marks Marks Marks arrow_step expr_step begin_step property_step stmt_step target_step catch_step declaration_step function_step template_step (Expr-F.Assign op target value)

pub call_marks : (callee : Expr) (arguments : List Expr) → of_expr (expr.Call callee arguments) ≡ of_expr callee ++ concat (map of_expr arguments)
call_marks callee arguments = ap of_expr (sym (expr.rolls-Call callee arguments)) ∙ fold-roll-Expr Marks Marks Marks Marks Marks Marks Marks Marks Marks Marks arrow_step expr_step begin_step property_step stmt_step target_step catch_step declaration_step function_step template_step (Expr-F.Call callee arguments)

pub new_marks : (n : Name) (arguments : List Expr) → of_expr (expr.New n arguments) ≡ concat (map of_expr arguments)
new_marks n arguments = ap of_expr (sym (expr.rolls-New n arguments)) ∙ fold-roll-Expr Marks Marks Marks Marks Marks Marks Marks Marks Marks Marks arrow_step expr_step begin_step property_step stmt_step target_step catch_step declaration_step function_step template_step (Expr-F.New n arguments)

pub member_marks : (object : Expr) (n : Name) → of_expr (expr.Member object n) ≡ of_expr object
member_marks object n = ap of_expr (sym (expr.rolls-Member object n)) ∙ fold-roll-Expr Marks Marks Marks Marks Marks Marks Marks Marks Marks Marks arrow_step expr_step begin_step property_step stmt_step target_step catch_step declaration_step function_step template_step (Expr-F.Member object n)

pub index_marks : (object : Expr) (key : Expr) → of_expr (expr.Index object key) ≡ of_expr object ++ of_expr key
index_marks object key = ap of_expr (sym (expr.rolls-Index object key)) ∙ fold-roll-Expr Marks Marks Marks Marks Marks Marks Marks Marks Marks Marks arrow_step expr_step begin_step property_step stmt_step target_step catch_step declaration_step function_step template_step (Expr-F.Index object key)

pub declare_marks : (kind : DeclareKind) (ds : List Declaration) → of_stmt (stmt.Declare kind ds) ≡ concat (map of_declaration ds)
declare_marks kind ds = ap of_stmt (sym (stmt.rolls-Declare kind ds)) ∙ fold-roll-Stmt Marks Marks Marks Marks Marks Marks Marks Marks Marks Marks arrow_step expr_step begin_step property_step stmt_step target_step catch_step declaration_step function_step template_step (Stmt-F.Declare kind ds)

pub declare_function_marks : (n : Name) (f : Function) → of_stmt (stmt.DeclareFunction n f) ≡ Declares n ∷ of_function f
declare_function_marks n f = ap of_stmt (sym (stmt.rolls-DeclareFunction n f)) ∙ fold-roll-Stmt Marks Marks Marks Marks Marks Marks Marks Marks Marks Marks arrow_step expr_step begin_step property_step stmt_step target_step catch_step declaration_step function_step template_step (Stmt-F.DeclareFunction n f)

pub block_marks : (ss : List Stmt) → of_stmt (stmt.Block ss) ≡ block (map of_stmt ss)
block_marks ss = ap of_stmt (sym (stmt.rolls-Block ss)) ∙ fold-roll-Stmt Marks Marks Marks Marks Marks Marks Marks Marks Marks Marks arrow_step expr_step begin_step property_step stmt_step target_step catch_step declaration_step function_step template_step (Stmt-F.Block ss)

pub if_marks : (test : Expr) (body : Stmt) (other : Option Stmt) → of_stmt (stmt.If test body other) ≡ of_expr test ++ scope (of_stmt body) ++ else_of (option_map of_stmt other)
if_marks test body None = ap of_stmt (sym (stmt.rolls-If test body None)) ∙ fold-roll-Stmt Marks Marks Marks Marks Marks Marks Marks Marks Marks Marks arrow_step expr_step begin_step property_step stmt_step target_step catch_step declaration_step function_step template_step (Stmt-F.If test body None)
if_marks test body (Some other) = ap of_stmt (sym (stmt.rolls-If test body (Some other))) ∙ fold-roll-Stmt Marks Marks Marks Marks Marks Marks Marks Marks Marks Marks arrow_step expr_step begin_step property_step stmt_step target_step catch_step declaration_step function_step template_step (Stmt-F.If test body (Some other))

pub for_marks : (begin : ForBegin) (test : Option Expr) (update : Option Expr) (body : Stmt) → of_stmt (stmt.For begin test update body) ≡ scope (of_begin begin ++ optional (option_map of_expr test) ++ optional (option_map of_expr update) ++ loop_body (of_stmt body))
for_marks begin None None body = ap of_stmt (sym (stmt.rolls-For begin None None body)) ∙ fold-roll-Stmt Marks Marks Marks Marks Marks Marks Marks Marks Marks Marks arrow_step expr_step begin_step property_step stmt_step target_step catch_step declaration_step function_step template_step (Stmt-F.For begin None None body)
for_marks begin None (Some update) body = ap of_stmt (sym (stmt.rolls-For begin None (Some update) body)) ∙ fold-roll-Stmt Marks Marks Marks Marks Marks Marks Marks Marks Marks Marks arrow_step expr_step begin_step property_step stmt_step target_step catch_step declaration_step function_step template_step (Stmt-F.For begin None (Some update) body)
for_marks begin (Some test) None body = ap of_stmt (sym (stmt.rolls-For begin (Some test) None body)) ∙ fold-roll-Stmt Marks Marks Marks Marks Marks Marks Marks Marks Marks Marks arrow_step expr_step begin_step property_step stmt_step target_step catch_step declaration_step function_step template_step (Stmt-F.For begin (Some test) None body)
for_marks begin (Some test) (Some update) body = ap of_stmt (sym (stmt.rolls-For begin (Some test) (Some update) body)) ∙ fold-roll-Stmt Marks Marks Marks Marks Marks Marks Marks Marks Marks Marks arrow_step expr_step begin_step property_step stmt_step target_step catch_step declaration_step function_step template_step (Stmt-F.For begin (Some test) (Some update) body)

pub for_of_marks : (kind : DeclareKind) (n : Name) (value : Expr) (body : Stmt) → of_stmt (stmt.ForOf kind n value body) ≡ scope (Declares n ∷ of_expr value ++ loop_body (of_stmt body))
for_of_marks kind n value body = ap of_stmt (sym (stmt.rolls-ForOf kind n value body)) ∙ fold-roll-Stmt Marks Marks Marks Marks Marks Marks Marks Marks Marks Marks arrow_step expr_step begin_step property_step stmt_step target_step catch_step declaration_step function_step template_step (Stmt-F.ForOf kind n value body)

pub while_marks : (test : Expr) (body : Stmt) → of_stmt (stmt.While test body) ≡ of_expr test ++ loop_body (of_stmt body)
while_marks test body = ap of_stmt (sym (stmt.rolls-While test body)) ∙ fold-roll-Stmt Marks Marks Marks Marks Marks Marks Marks Marks Marks Marks arrow_step expr_step begin_step property_step stmt_step target_step catch_step declaration_step function_step template_step (Stmt-F.While test body)

pub break_marks : (place : ℕ) → of_stmt (stmt.Break place) ≡ word BreakOutside place ∷ []
break_marks place = ap of_stmt (sym (stmt.rolls-Break place)) ∙ fold-roll-Stmt Marks Marks Marks Marks Marks Marks Marks Marks Marks Marks arrow_step expr_step begin_step property_step stmt_step target_step catch_step declaration_step function_step template_step (Stmt-F.Break place)

pub continue_marks : (place : ℕ) → of_stmt (stmt.Continue place) ≡ word BreakOutside place ∷ []
continue_marks place = ap of_stmt (sym (stmt.rolls-Continue place)) ∙ fold-roll-Stmt Marks Marks Marks Marks Marks Marks Marks Marks Marks Marks arrow_step expr_step begin_step property_step stmt_step target_step catch_step declaration_step function_step template_step (Stmt-F.Continue place)

pub return_marks : (place : ℕ) (value : Option Expr) → of_stmt (stmt.Return place value) ≡ word ReturnOutside place ∷ optional (option_map of_expr value)
return_marks place None = ap of_stmt (sym (stmt.rolls-Return place None)) ∙ fold-roll-Stmt Marks Marks Marks Marks Marks Marks Marks Marks Marks Marks arrow_step expr_step begin_step property_step stmt_step target_step catch_step declaration_step function_step template_step (Stmt-F.Return place None)
return_marks place (Some value) = ap of_stmt (sym (stmt.rolls-Return place (Some value))) ∙ fold-roll-Stmt Marks Marks Marks Marks Marks Marks Marks Marks Marks Marks arrow_step expr_step begin_step property_step stmt_step target_step catch_step declaration_step function_step template_step (Stmt-F.Return place (Some value))

pub throw_marks : (value : Expr) → of_stmt (stmt.Throw value) ≡ of_expr value
throw_marks value = ap of_stmt (sym (stmt.rolls-Throw value)) ∙ fold-roll-Stmt Marks Marks Marks Marks Marks Marks Marks Marks Marks Marks arrow_step expr_step begin_step property_step stmt_step target_step catch_step declaration_step function_step template_step (Stmt-F.Throw value)

pub try_marks : (body : List Stmt) (catch : Option Catch) (finally : Option (List Stmt)) → of_stmt (stmt.Try body catch finally) ≡ block (map of_stmt body) ++ optional (option_map of_catch catch) ++ finally_of (option_map (map of_stmt) finally)
try_marks body None None = ap of_stmt (sym (stmt.rolls-Try body None None)) ∙ fold-roll-Stmt Marks Marks Marks Marks Marks Marks Marks Marks Marks Marks arrow_step expr_step begin_step property_step stmt_step target_step catch_step declaration_step function_step template_step (Stmt-F.Try body None None)
try_marks body None (Some finally) = ap of_stmt (sym (stmt.rolls-Try body None (Some finally))) ∙ fold-roll-Stmt Marks Marks Marks Marks Marks Marks Marks Marks Marks Marks arrow_step expr_step begin_step property_step stmt_step target_step catch_step declaration_step function_step template_step (Stmt-F.Try body None (Some finally))
try_marks body (Some catch) None = ap of_stmt (sym (stmt.rolls-Try body (Some catch) None)) ∙ fold-roll-Stmt Marks Marks Marks Marks Marks Marks Marks Marks Marks Marks arrow_step expr_step begin_step property_step stmt_step target_step catch_step declaration_step function_step template_step (Stmt-F.Try body (Some catch) None)
try_marks body (Some catch) (Some finally) = ap of_stmt (sym (stmt.rolls-Try body (Some catch) (Some finally))) ∙ fold-roll-Stmt Marks Marks Marks Marks Marks Marks Marks Marks Marks Marks arrow_step expr_step begin_step property_step stmt_step target_step catch_step declaration_step function_step template_step (Stmt-F.Try body (Some catch) (Some finally))

pub empty_marks : of_stmt stmt.Empty ≡ []
empty_marks = ap of_stmt (sym stmt.rolls-Empty) ∙ fold-roll-Stmt Marks Marks Marks Marks Marks Marks Marks Marks Marks Marks arrow_step expr_step begin_step property_step stmt_step target_step catch_step declaration_step function_step template_step Stmt-F.Empty

pub expr_stmt_marks : (e : Expr) → of_stmt (stmt.Expr e) ≡ of_expr e
expr_stmt_marks e = ap of_stmt (sym (stmt.rolls-Expr e)) ∙ fold-roll-Stmt Marks Marks Marks Marks Marks Marks Marks Marks Marks Marks arrow_step expr_step begin_step property_step stmt_step target_step catch_step declaration_step function_step template_step (Stmt-F.Expr e)

pub variable_marks : (n : Name) → of_target (target.Variable n) ≡ []
variable_marks n = ap of_target (sym (target.rolls-Variable n)) ∙ fold-roll-Target Marks Marks Marks Marks Marks Marks Marks Marks Marks Marks arrow_step expr_step begin_step property_step stmt_step target_step catch_step declaration_step function_step template_step (Target-F.Variable n)

pub field_marks : (object : Expr) (n : Name) → of_target (target.Field object n) ≡ of_expr object
field_marks object n = ap of_target (sym (target.rolls-Field object n)) ∙ fold-roll-Target Marks Marks Marks Marks Marks Marks Marks Marks Marks Marks arrow_step expr_step begin_step property_step stmt_step target_step catch_step declaration_step function_step template_step (Target-F.Field object n)

pub item_marks : (object : Expr) (key : Expr) → of_target (target.Item object key) ≡ of_expr object ++ of_expr key
item_marks object key = ap of_target (sym (target.rolls-Item object key)) ∙ fold-roll-Target Marks Marks Marks Marks Marks Marks Marks Marks Marks Marks arrow_step expr_step begin_step property_step stmt_step target_step catch_step declaration_step function_step template_step (Target-F.Item object key)

pub pair_marks : (key : Key) (value : Expr) → of_property (property.Pair key value) ≡ of_expr value
pair_marks key value = ap of_property (sym (property.rolls-Pair key value)) ∙ fold-roll-Property Marks Marks Marks Marks Marks Marks Marks Marks Marks Marks arrow_step expr_step begin_step property_step stmt_step target_step catch_step declaration_step function_step template_step (Property-F.Pair key value)

pub short_marks : (n : Name) → of_property (property.Short n) ≡ []
short_marks n = ap of_property (sym (property.rolls-Short n)) ∙ fold-roll-Property Marks Marks Marks Marks Marks Marks Marks Marks Marks Marks arrow_step expr_step begin_step property_step stmt_step target_step catch_step declaration_step function_step template_step (Property-F.Short n)

pub method_marks : (key : Key) (f : Function) → of_property (property.Method key f) ≡ of_function f
method_marks key f = ap of_property (sym (property.rolls-Method key f)) ∙ fold-roll-Property Marks Marks Marks Marks Marks Marks Marks Marks Marks Marks arrow_step expr_step begin_step property_step stmt_step target_step catch_step declaration_step function_step template_step (Property-F.Method key f)

pub statements_marks : (ss : List Stmt) → of_arrow (arrow.Statements ss) ≡ concat (map of_stmt ss)
statements_marks ss = ap of_arrow (sym (arrow.rolls-Statements ss)) ∙ fold-roll-ArrowBody Marks Marks Marks Marks Marks Marks Marks Marks Marks Marks arrow_step expr_step begin_step property_step stmt_step target_step catch_step declaration_step function_step template_step (ArrowBody-F.Statements ss)

pub value_marks : (e : Expr) → of_arrow (arrow.Value e) ≡ of_expr e
value_marks e = ap of_arrow (sym (arrow.rolls-Value e)) ∙ fold-roll-ArrowBody Marks Marks Marks Marks Marks Marks Marks Marks Marks Marks arrow_step expr_step begin_step property_step stmt_step target_step catch_step declaration_step function_step template_step (ArrowBody-F.Value e)

pub nothing_marks : of_begin begin.Nothing ≡ []
nothing_marks = ap of_begin (sym begin.rolls-Nothing) ∙ fold-roll-ForBegin Marks Marks Marks Marks Marks Marks Marks Marks Marks Marks arrow_step expr_step begin_step property_step stmt_step target_step catch_step declaration_step function_step template_step ForBegin-F.Nothing

pub declarations_marks : (kind : DeclareKind) (ds : List Declaration) → of_begin (begin.Declarations kind ds) ≡ concat (map of_declaration ds)
declarations_marks kind ds = ap of_begin (sym (begin.rolls-Declarations kind ds)) ∙ fold-roll-ForBegin Marks Marks Marks Marks Marks Marks Marks Marks Marks Marks arrow_step expr_step begin_step property_step stmt_step target_step catch_step declaration_step function_step template_step (ForBegin-F.Declarations kind ds)

pub start_marks : (e : Expr) → of_begin (begin.Start e) ≡ of_expr e
start_marks e = ap of_begin (sym (begin.rolls-Start e)) ∙ fold-roll-ForBegin Marks Marks Marks Marks Marks Marks Marks Marks Marks Marks arrow_step expr_step begin_step property_step stmt_step target_step catch_step declaration_step function_step template_step (ForBegin-F.Start e)

-- the marks of a part that is a struct

pub function_marks : (f : Function) → of_function f ≡ function_of f.is_async f.parameters (concat (map of_stmt f.body))
function_marks f = fold-roll-Function Marks Marks Marks Marks Marks Marks Marks Marks Marks Marks arrow_step expr_step begin_step property_step stmt_step target_step catch_step declaration_step function_step template_step (record { is_async = f.is_async; parameters = f.parameters; body = f.body })

pub catch_marks : (c : Catch) → of_catch c ≡ scope (named c.name ++ concat (map of_stmt c.body))
catch_marks c = fold-roll-Catch Marks Marks Marks Marks Marks Marks Marks Marks Marks Marks arrow_step expr_step begin_step property_step stmt_step target_step catch_step declaration_step function_step template_step (record { name = c.name; body = c.body })

declaration_value : (n : Name) (v : Option Expr) → of_declaration (roll-Declaration (record { name = n; value = v })) ≡ Declares n ∷ optional (option_map of_expr v)
declaration_value n None = fold-roll-Declaration Marks Marks Marks Marks Marks Marks Marks Marks Marks Marks arrow_step expr_step begin_step property_step stmt_step target_step catch_step declaration_step function_step template_step (record { name = n; value = None })
declaration_value n (Some v) = fold-roll-Declaration Marks Marks Marks Marks Marks Marks Marks Marks Marks Marks arrow_step expr_step begin_step property_step stmt_step target_step catch_step declaration_step function_step template_step (record { name = n; value = Some v })

pub declaration_marks : (d : Declaration) → of_declaration d ≡ Declares d.name ∷ optional (option_map of_expr d.value)
declaration_marks d = declaration_value d.name d.value

pub template_marks_of : (i : TemplateItem) → of_template i ≡ of_expr i.value
template_marks_of i = fold-roll-TemplateItem Marks Marks Marks Marks Marks Marks Marks Marks Marks Marks arrow_step expr_step begin_step property_step stmt_step target_step catch_step declaration_step function_step template_step (record { units = i.units; value = i.value })
