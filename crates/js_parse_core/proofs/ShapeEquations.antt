-- Which forms fit, by those of their parts.
use Rattle.std.proofs.Common.{◌≡◌, ℕ, Bool, true, false, ◌&&◌, not, List, map, Option, Some, None, option_map, sym, ap, ◌∙◌}
use Rattle.js_tree.specs.declared.tree.Name.{Name}
use Rattle.js_tree.specs.declared.tree.Key.{Key}
use Rattle.js_tree.specs.declared.tree.AssignOp.{AssignOp}
use Rattle.js_tree.specs.declared.tree.BinaryOp.{BinaryOp}
use Rattle.js_tree.specs.declared.tree.UnaryOp.{UnaryOp}
use Rattle.js_tree.specs.declared.tree.UpdateOp.{UpdateOp}
use Rattle.js_tree.specs.declared.tree.UpdateSide.{UpdateSide}
use Rattle.js_tree.specs.declared.tree.DeclareKind.{DeclareKind}
use Rattle.js_tree.specs.declared.tree.ArrowBody.TheOpen.{ArrowBody-F, Expr-F, ForBegin-F, Property-F, Stmt-F, Target-F}
use Rattle.js_tree.specs.declared.tree.ArrowBody.TheFolds.{fold-roll-ArrowBody, fold-roll-Expr, fold-roll-ForBegin, fold-roll-Property, fold-roll-Stmt, fold-roll-Target, fold-roll-Catch, fold-roll-Declaration, fold-roll-Function, fold-roll-TemplateItem}
use Rattle.js_tree.specs.declared.tree.ArrowBody.{ArrowBody}
use Rattle.js_tree.specs.declared.tree.ArrowBody.TheVariants as arrow_body
use Rattle.js_tree.specs.declared.tree.Expr.{Expr}
use Rattle.js_tree.specs.declared.tree.Expr.TheVariants as expr
use Rattle.js_tree.specs.declared.tree.ForBegin.{ForBegin}
use Rattle.js_tree.specs.declared.tree.ForBegin.TheVariants as for_begin
use Rattle.js_tree.specs.declared.tree.Property.{Property}
use Rattle.js_tree.specs.declared.tree.Property.TheVariants as property
use Rattle.js_tree.specs.declared.tree.Stmt.{Stmt}
use Rattle.js_tree.specs.declared.tree.Stmt.TheVariants as stmt
use Rattle.js_tree.specs.declared.tree.Target.{Target}
use Rattle.js_tree.specs.declared.tree.Target.TheVariants as target
use Rattle.js_tree.specs.declared.tree.Catch.{Catch}
use Rattle.js_tree.specs.declared.tree.Declaration.{Declaration, roll-Declaration}
use Rattle.js_tree.specs.declared.tree.Function.{Function}
use Rattle.js_tree.specs.declared.tree.TemplateItem.{TemplateItem}
use Rattle.js_grammar.specs.Shapes.{Shape, StmtShape, DeclaredShape, OtherFirst, Brace, FunctionWord, prefix_level, operand_level, all_true, all_fit, all_statements_fit, at_least, shaped, primary, accessing, joining, updating, is_brace, is_other, value_fits, declarations_fit, item_only, plain, loop, branching, catch_fits, finally_fits, handles, arrow_body_step, expr_step, for_step, property_step, stmt_step, target_step, catch_step, declaration_step, function_step, template_step, of_arrow_body, of_expr, of_for, of_property, of_stmt, of_target, of_catch, of_declaration, of_function, of_template}

pub shape_name : (n : Name) → of_expr (expr.Name n) ≡ primary true
shape_name n = ap of_expr (sym (expr.rolls-Name n)) ∙ fold-roll-Expr Bool Shape Bool Bool StmtShape Shape Bool DeclaredShape Bool Bool arrow_body_step expr_step for_step property_step stmt_step target_step catch_step declaration_step function_step template_step (Expr-F.Name n)

pub shape_number : (n : ℕ) → of_expr (expr.Number n) ≡ primary true
shape_number n = ap of_expr (sym (expr.rolls-Number n)) ∙ fold-roll-Expr Bool Shape Bool Bool StmtShape Shape Bool DeclaredShape Bool Bool arrow_body_step expr_step for_step property_step stmt_step target_step catch_step declaration_step function_step template_step (Expr-F.Number n)

pub shape_text : (u : List ℕ) → of_expr (expr.Text u) ≡ primary true
shape_text u = ap of_expr (sym (expr.rolls-Text u)) ∙ fold-roll-Expr Bool Shape Bool Bool StmtShape Shape Bool DeclaredShape Bool Bool arrow_body_step expr_step for_step property_step stmt_step target_step catch_step declaration_step function_step template_step (Expr-F.Text u)

pub shape_true : of_expr expr.True ≡ primary true
shape_true = ap of_expr (sym expr.rolls-True) ∙ fold-roll-Expr Bool Shape Bool Bool StmtShape Shape Bool DeclaredShape Bool Bool arrow_body_step expr_step for_step property_step stmt_step target_step catch_step declaration_step function_step template_step Expr-F.True

pub shape_false : of_expr expr.False ≡ primary true
shape_false = ap of_expr (sym expr.rolls-False) ∙ fold-roll-Expr Bool Shape Bool Bool StmtShape Shape Bool DeclaredShape Bool Bool arrow_body_step expr_step for_step property_step stmt_step target_step catch_step declaration_step function_step template_step Expr-F.False

pub shape_null : of_expr expr.Null ≡ primary true
shape_null = ap of_expr (sym expr.rolls-Null) ∙ fold-roll-Expr Bool Shape Bool Bool StmtShape Shape Bool DeclaredShape Bool Bool arrow_body_step expr_step for_step property_step stmt_step target_step catch_step declaration_step function_step template_step Expr-F.Null

pub shape_this : of_expr expr.This ≡ primary true
shape_this = ap of_expr (sym expr.rolls-This) ∙ fold-roll-Expr Bool Shape Bool Bool StmtShape Shape Bool DeclaredShape Bool Bool arrow_body_step expr_step for_step property_step stmt_step target_step catch_step declaration_step function_step template_step Expr-F.This

pub shape_template : (is : List TemplateItem) (u : List ℕ) → of_expr (expr.Template is u) ≡ primary (all_true (map of_template is))
shape_template is u = ap of_expr (sym (expr.rolls-Template is u)) ∙ fold-roll-Expr Bool Shape Bool Bool StmtShape Shape Bool DeclaredShape Bool Bool arrow_body_step expr_step for_step property_step stmt_step target_step catch_step declaration_step function_step template_step (Expr-F.Template is u)

pub shape_array : (xs : List Expr) → of_expr (expr.Array xs) ≡ primary (all_fit (map of_expr xs))
shape_array xs = ap of_expr (sym (expr.rolls-Array xs)) ∙ fold-roll-Expr Bool Shape Bool Bool StmtShape Shape Bool DeclaredShape Bool Bool arrow_body_step expr_step for_step property_step stmt_step target_step catch_step declaration_step function_step template_step (Expr-F.Array xs)

pub shape_object : (xs : List Property) → of_expr (expr.Object xs) ≡ shaped (all_true (map of_property xs)) operand_level Brace
shape_object xs = ap of_expr (sym (expr.rolls-Object xs)) ∙ fold-roll-Expr Bool Shape Bool Bool StmtShape Shape Bool DeclaredShape Bool Bool arrow_body_step expr_step for_step property_step stmt_step target_step catch_step declaration_step function_step template_step (Expr-F.Object xs)

pub shape_function_expr : (n : Option Name) (f : Function) → of_expr (expr.Function n f) ≡ shaped (of_function f) operand_level FunctionWord
shape_function_expr n f = ap of_expr (sym (expr.rolls-Function n f)) ∙ fold-roll-Expr Bool Shape Bool Bool StmtShape Shape Bool DeclaredShape Bool Bool arrow_body_step expr_step for_step property_step stmt_step target_step catch_step declaration_step function_step template_step (Expr-F.Function n f)

pub shape_arrow_expr : (a : Bool) (ns : List Name) (b : ArrowBody) → of_expr (expr.Arrow a ns b) ≡ shaped (of_arrow_body b) 0 OtherFirst
shape_arrow_expr a ns b = ap of_expr (sym (expr.rolls-Arrow a ns b)) ∙ fold-roll-Expr Bool Shape Bool Bool StmtShape Shape Bool DeclaredShape Bool Bool arrow_body_step expr_step for_step property_step stmt_step target_step catch_step declaration_step function_step template_step (Expr-F.Arrow a ns b)

pub shape_group : (x : Expr) → of_expr (expr.Group x) ≡ primary (of_expr x).fits
shape_group x = ap of_expr (sym (expr.rolls-Group x)) ∙ fold-roll-Expr Bool Shape Bool Bool StmtShape Shape Bool DeclaredShape Bool Bool arrow_body_step expr_step for_step property_step stmt_step target_step catch_step declaration_step function_step template_step (Expr-F.Group x)

pub shape_unary : (o : UnaryOp) (x : Expr) → of_expr (expr.Unary o x) ≡ shaped (at_least prefix_level (of_expr x)) prefix_level OtherFirst
shape_unary o x = ap of_expr (sym (expr.rolls-Unary o x)) ∙ fold-roll-Expr Bool Shape Bool Bool StmtShape Shape Bool DeclaredShape Bool Bool arrow_body_step expr_step for_step property_step stmt_step target_step catch_step declaration_step function_step template_step (Expr-F.Unary o x)

pub shape_await : (q : ℕ) (x : Expr) → of_expr (expr.Await q x) ≡ shaped (at_least prefix_level (of_expr x)) prefix_level OtherFirst
shape_await q x = ap of_expr (sym (expr.rolls-Await q x)) ∙ fold-roll-Expr Bool Shape Bool Bool StmtShape Shape Bool DeclaredShape Bool Bool arrow_body_step expr_step for_step property_step stmt_step target_step catch_step declaration_step function_step template_step (Expr-F.Await q x)

pub shape_update : (s : UpdateSide) (o : UpdateOp) (x : Target) → of_expr (expr.Update s o x) ≡ updating s (of_target x)
shape_update s o x = ap of_expr (sym (expr.rolls-Update s o x)) ∙ fold-roll-Expr Bool Shape Bool Bool StmtShape Shape Bool DeclaredShape Bool Bool arrow_body_step expr_step for_step property_step stmt_step target_step catch_step declaration_step function_step template_step (Expr-F.Update s o x)

pub shape_binary : (o : BinaryOp) (x : Expr) (y : Expr) → of_expr (expr.Binary o x y) ≡ joining o (of_expr x) (of_expr y)
shape_binary o x y = ap of_expr (sym (expr.rolls-Binary o x y)) ∙ fold-roll-Expr Bool Shape Bool Bool StmtShape Shape Bool DeclaredShape Bool Bool arrow_body_step expr_step for_step property_step stmt_step target_step catch_step declaration_step function_step template_step (Expr-F.Binary o x y)

pub shape_conditional : (test : Expr) (x : Expr) (y : Expr) → of_expr (expr.Conditional test x y) ≡ shaped (at_least 1 (of_expr test) && ((of_expr x).fits && (of_expr y).fits)) 0 (of_expr test).first
shape_conditional test x y = ap of_expr (sym (expr.rolls-Conditional test x y)) ∙ fold-roll-Expr Bool Shape Bool Bool StmtShape Shape Bool DeclaredShape Bool Bool arrow_body_step expr_step for_step property_step stmt_step target_step catch_step declaration_step function_step template_step (Expr-F.Conditional test x y)

pub shape_assign : (o : AssignOp) (x : Target) (y : Expr) → of_expr (expr.Assign o x y) ≡ shaped ((of_target x).fits && (of_expr y).fits) 0 (of_target x).first
shape_assign o x y = ap of_expr (sym (expr.rolls-Assign o x y)) ∙ fold-roll-Expr Bool Shape Bool Bool StmtShape Shape Bool DeclaredShape Bool Bool arrow_body_step expr_step for_step property_step stmt_step target_step catch_step declaration_step function_step template_step (Expr-F.Assign o x y)

pub shape_call : (x : Expr) (xs : List Expr) → of_expr (expr.Call x xs) ≡ accessing (of_expr x) (all_fit (map of_expr xs))
shape_call x xs = ap of_expr (sym (expr.rolls-Call x xs)) ∙ fold-roll-Expr Bool Shape Bool Bool StmtShape Shape Bool DeclaredShape Bool Bool arrow_body_step expr_step for_step property_step stmt_step target_step catch_step declaration_step function_step template_step (Expr-F.Call x xs)

pub shape_new : (n : Name) (xs : List Expr) → of_expr (expr.New n xs) ≡ primary (all_fit (map of_expr xs))
shape_new n xs = ap of_expr (sym (expr.rolls-New n xs)) ∙ fold-roll-Expr Bool Shape Bool Bool StmtShape Shape Bool DeclaredShape Bool Bool arrow_body_step expr_step for_step property_step stmt_step target_step catch_step declaration_step function_step template_step (Expr-F.New n xs)

pub shape_member : (x : Expr) (n : Name) → of_expr (expr.Member x n) ≡ accessing (of_expr x) true
shape_member x n = ap of_expr (sym (expr.rolls-Member x n)) ∙ fold-roll-Expr Bool Shape Bool Bool StmtShape Shape Bool DeclaredShape Bool Bool arrow_body_step expr_step for_step property_step stmt_step target_step catch_step declaration_step function_step template_step (Expr-F.Member x n)

pub shape_index : (x : Expr) (k : Expr) → of_expr (expr.Index x k) ≡ accessing (of_expr x) (of_expr k).fits
shape_index x k = ap of_expr (sym (expr.rolls-Index x k)) ∙ fold-roll-Expr Bool Shape Bool Bool StmtShape Shape Bool DeclaredShape Bool Bool arrow_body_step expr_step for_step property_step stmt_step target_step catch_step declaration_step function_step template_step (Expr-F.Index x k)

pub shape_declare : (k : DeclareKind) (ds : List Declaration) → of_stmt (stmt.Declare k ds) ≡ item_only (declarations_fit k (map of_declaration ds))
shape_declare k ds = ap of_stmt (sym (stmt.rolls-Declare k ds)) ∙ fold-roll-Stmt Bool Shape Bool Bool StmtShape Shape Bool DeclaredShape Bool Bool arrow_body_step expr_step for_step property_step stmt_step target_step catch_step declaration_step function_step template_step (Stmt-F.Declare k ds)

pub shape_declare_function : (n : Name) (f : Function) → of_stmt (stmt.DeclareFunction n f) ≡ item_only (of_function f)
shape_declare_function n f = ap of_stmt (sym (stmt.rolls-DeclareFunction n f)) ∙ fold-roll-Stmt Bool Shape Bool Bool StmtShape Shape Bool DeclaredShape Bool Bool arrow_body_step expr_step for_step property_step stmt_step target_step catch_step declaration_step function_step template_step (Stmt-F.DeclareFunction n f)

pub shape_block : (ss : List Stmt) → of_stmt (stmt.Block ss) ≡ plain (all_statements_fit (map of_stmt ss))
shape_block ss = ap of_stmt (sym (stmt.rolls-Block ss)) ∙ fold-roll-Stmt Bool Shape Bool Bool StmtShape Shape Bool DeclaredShape Bool Bool arrow_body_step expr_step for_step property_step stmt_step target_step catch_step declaration_step function_step template_step (Stmt-F.Block ss)

pub shape_if : (test : Expr) (s : Stmt) (t : Option Stmt) → of_stmt (stmt.If test s t) ≡ branching (of_expr test).fits (of_stmt s) (option_map of_stmt t)
shape_if test s None = ap of_stmt (sym (stmt.rolls-If test s None)) ∙ fold-roll-Stmt Bool Shape Bool Bool StmtShape Shape Bool DeclaredShape Bool Bool arrow_body_step expr_step for_step property_step stmt_step target_step catch_step declaration_step function_step template_step (Stmt-F.If test s None)
shape_if test s (Some t) = ap of_stmt (sym (stmt.rolls-If test s (Some t))) ∙ fold-roll-Stmt Bool Shape Bool Bool StmtShape Shape Bool DeclaredShape Bool Bool arrow_body_step expr_step for_step property_step stmt_step target_step catch_step declaration_step function_step template_step (Stmt-F.If test s (Some t))

pub shape_for : (b : ForBegin) (test : Option Expr) (update : Option Expr) (s : Stmt) → of_stmt (stmt.For b test update s) ≡ loop ((of_for b) && (value_fits (option_map of_expr test) && value_fits (option_map of_expr update))) (of_stmt s)
shape_for b None None s = ap of_stmt (sym (stmt.rolls-For b None None s)) ∙ fold-roll-Stmt Bool Shape Bool Bool StmtShape Shape Bool DeclaredShape Bool Bool arrow_body_step expr_step for_step property_step stmt_step target_step catch_step declaration_step function_step template_step (Stmt-F.For b None None s)
shape_for b None (Some update) s = ap of_stmt (sym (stmt.rolls-For b None (Some update) s)) ∙ fold-roll-Stmt Bool Shape Bool Bool StmtShape Shape Bool DeclaredShape Bool Bool arrow_body_step expr_step for_step property_step stmt_step target_step catch_step declaration_step function_step template_step (Stmt-F.For b None (Some update) s)
shape_for b (Some test) None s = ap of_stmt (sym (stmt.rolls-For b (Some test) None s)) ∙ fold-roll-Stmt Bool Shape Bool Bool StmtShape Shape Bool DeclaredShape Bool Bool arrow_body_step expr_step for_step property_step stmt_step target_step catch_step declaration_step function_step template_step (Stmt-F.For b (Some test) None s)
shape_for b (Some test) (Some update) s = ap of_stmt (sym (stmt.rolls-For b (Some test) (Some update) s)) ∙ fold-roll-Stmt Bool Shape Bool Bool StmtShape Shape Bool DeclaredShape Bool Bool arrow_body_step expr_step for_step property_step stmt_step target_step catch_step declaration_step function_step template_step (Stmt-F.For b (Some test) (Some update) s)

pub shape_for_of : (k : DeclareKind) (n : Name) (x : Expr) (s : Stmt) → of_stmt (stmt.ForOf k n x s) ≡ loop (of_expr x).fits (of_stmt s)
shape_for_of k n x s = ap of_stmt (sym (stmt.rolls-ForOf k n x s)) ∙ fold-roll-Stmt Bool Shape Bool Bool StmtShape Shape Bool DeclaredShape Bool Bool arrow_body_step expr_step for_step property_step stmt_step target_step catch_step declaration_step function_step template_step (Stmt-F.ForOf k n x s)

pub shape_while : (test : Expr) (s : Stmt) → of_stmt (stmt.While test s) ≡ loop (of_expr test).fits (of_stmt s)
shape_while test s = ap of_stmt (sym (stmt.rolls-While test s)) ∙ fold-roll-Stmt Bool Shape Bool Bool StmtShape Shape Bool DeclaredShape Bool Bool arrow_body_step expr_step for_step property_step stmt_step target_step catch_step declaration_step function_step template_step (Stmt-F.While test s)

pub shape_break : (q : ℕ) → of_stmt (stmt.Break q) ≡ plain true
shape_break q = ap of_stmt (sym (stmt.rolls-Break q)) ∙ fold-roll-Stmt Bool Shape Bool Bool StmtShape Shape Bool DeclaredShape Bool Bool arrow_body_step expr_step for_step property_step stmt_step target_step catch_step declaration_step function_step template_step (Stmt-F.Break q)

pub shape_continue : (q : ℕ) → of_stmt (stmt.Continue q) ≡ plain true
shape_continue q = ap of_stmt (sym (stmt.rolls-Continue q)) ∙ fold-roll-Stmt Bool Shape Bool Bool StmtShape Shape Bool DeclaredShape Bool Bool arrow_body_step expr_step for_step property_step stmt_step target_step catch_step declaration_step function_step template_step (Stmt-F.Continue q)

pub shape_return : (q : ℕ) (x : Option Expr) → of_stmt (stmt.Return q x) ≡ plain (value_fits (option_map of_expr x))
shape_return q None = ap of_stmt (sym (stmt.rolls-Return q None)) ∙ fold-roll-Stmt Bool Shape Bool Bool StmtShape Shape Bool DeclaredShape Bool Bool arrow_body_step expr_step for_step property_step stmt_step target_step catch_step declaration_step function_step template_step (Stmt-F.Return q None)
shape_return q (Some x) = ap of_stmt (sym (stmt.rolls-Return q (Some x))) ∙ fold-roll-Stmt Bool Shape Bool Bool StmtShape Shape Bool DeclaredShape Bool Bool arrow_body_step expr_step for_step property_step stmt_step target_step catch_step declaration_step function_step template_step (Stmt-F.Return q (Some x))

pub shape_throw : (x : Expr) → of_stmt (stmt.Throw x) ≡ plain (of_expr x).fits
shape_throw x = ap of_stmt (sym (stmt.rolls-Throw x)) ∙ fold-roll-Stmt Bool Shape Bool Bool StmtShape Shape Bool DeclaredShape Bool Bool arrow_body_step expr_step for_step property_step stmt_step target_step catch_step declaration_step function_step template_step (Stmt-F.Throw x)

pub shape_try : (ss : List Stmt) (c : Option Catch) (f : Option (List Stmt)) → of_stmt (stmt.Try ss c f) ≡ plain (all_statements_fit (map of_stmt ss) && (catch_fits (option_map of_catch c) && (finally_fits (option_map (map of_stmt) f) && handles (option_map of_catch c) (option_map (map of_stmt) f))))
shape_try ss None None = ap of_stmt (sym (stmt.rolls-Try ss None None)) ∙ fold-roll-Stmt Bool Shape Bool Bool StmtShape Shape Bool DeclaredShape Bool Bool arrow_body_step expr_step for_step property_step stmt_step target_step catch_step declaration_step function_step template_step (Stmt-F.Try ss None None)
shape_try ss None (Some f) = ap of_stmt (sym (stmt.rolls-Try ss None (Some f))) ∙ fold-roll-Stmt Bool Shape Bool Bool StmtShape Shape Bool DeclaredShape Bool Bool arrow_body_step expr_step for_step property_step stmt_step target_step catch_step declaration_step function_step template_step (Stmt-F.Try ss None (Some f))
shape_try ss (Some c) None = ap of_stmt (sym (stmt.rolls-Try ss (Some c) None)) ∙ fold-roll-Stmt Bool Shape Bool Bool StmtShape Shape Bool DeclaredShape Bool Bool arrow_body_step expr_step for_step property_step stmt_step target_step catch_step declaration_step function_step template_step (Stmt-F.Try ss (Some c) None)
shape_try ss (Some c) (Some f) = ap of_stmt (sym (stmt.rolls-Try ss (Some c) (Some f))) ∙ fold-roll-Stmt Bool Shape Bool Bool StmtShape Shape Bool DeclaredShape Bool Bool arrow_body_step expr_step for_step property_step stmt_step target_step catch_step declaration_step function_step template_step (Stmt-F.Try ss (Some c) (Some f))

pub shape_empty : of_stmt stmt.Empty ≡ plain true
shape_empty = ap of_stmt (sym stmt.rolls-Empty) ∙ fold-roll-Stmt Bool Shape Bool Bool StmtShape Shape Bool DeclaredShape Bool Bool arrow_body_step expr_step for_step property_step stmt_step target_step catch_step declaration_step function_step template_step Stmt-F.Empty

pub shape_expr_stmt : (x : Expr) → of_stmt (stmt.Expr x) ≡ plain ((of_expr x).fits && is_other (of_expr x).first)
shape_expr_stmt x = ap of_stmt (sym (stmt.rolls-Expr x)) ∙ fold-roll-Stmt Bool Shape Bool Bool StmtShape Shape Bool DeclaredShape Bool Bool arrow_body_step expr_step for_step property_step stmt_step target_step catch_step declaration_step function_step template_step (Stmt-F.Expr x)

pub shape_variable : (n : Name) → of_target (target.Variable n) ≡ primary true
shape_variable n = ap of_target (sym (target.rolls-Variable n)) ∙ fold-roll-Target Bool Shape Bool Bool StmtShape Shape Bool DeclaredShape Bool Bool arrow_body_step expr_step for_step property_step stmt_step target_step catch_step declaration_step function_step template_step (Target-F.Variable n)

pub shape_field : (x : Expr) (n : Name) → of_target (target.Field x n) ≡ accessing (of_expr x) true
shape_field x n = ap of_target (sym (target.rolls-Field x n)) ∙ fold-roll-Target Bool Shape Bool Bool StmtShape Shape Bool DeclaredShape Bool Bool arrow_body_step expr_step for_step property_step stmt_step target_step catch_step declaration_step function_step template_step (Target-F.Field x n)

pub shape_item : (x : Expr) (k : Expr) → of_target (target.Item x k) ≡ accessing (of_expr x) (of_expr k).fits
shape_item x k = ap of_target (sym (target.rolls-Item x k)) ∙ fold-roll-Target Bool Shape Bool Bool StmtShape Shape Bool DeclaredShape Bool Bool arrow_body_step expr_step for_step property_step stmt_step target_step catch_step declaration_step function_step template_step (Target-F.Item x k)

pub shape_pair : (k : Key) (x : Expr) → of_property (property.Pair k x) ≡ (of_expr x).fits
shape_pair k x = ap of_property (sym (property.rolls-Pair k x)) ∙ fold-roll-Property Bool Shape Bool Bool StmtShape Shape Bool DeclaredShape Bool Bool arrow_body_step expr_step for_step property_step stmt_step target_step catch_step declaration_step function_step template_step (Property-F.Pair k x)

pub shape_short : (n : Name) → of_property (property.Short n) ≡ true
shape_short n = ap of_property (sym (property.rolls-Short n)) ∙ fold-roll-Property Bool Shape Bool Bool StmtShape Shape Bool DeclaredShape Bool Bool arrow_body_step expr_step for_step property_step stmt_step target_step catch_step declaration_step function_step template_step (Property-F.Short n)

pub shape_method : (k : Key) (f : Function) → of_property (property.Method k f) ≡ (of_function f)
shape_method k f = ap of_property (sym (property.rolls-Method k f)) ∙ fold-roll-Property Bool Shape Bool Bool StmtShape Shape Bool DeclaredShape Bool Bool arrow_body_step expr_step for_step property_step stmt_step target_step catch_step declaration_step function_step template_step (Property-F.Method k f)

pub shape_arrow_statements : (ss : List Stmt) → of_arrow_body (arrow_body.Statements ss) ≡ all_statements_fit (map of_stmt ss)
shape_arrow_statements ss = ap of_arrow_body (sym (arrow_body.rolls-Statements ss)) ∙ fold-roll-ArrowBody Bool Shape Bool Bool StmtShape Shape Bool DeclaredShape Bool Bool arrow_body_step expr_step for_step property_step stmt_step target_step catch_step declaration_step function_step template_step (ArrowBody-F.Statements ss)

pub shape_arrow_value : (x : Expr) → of_arrow_body (arrow_body.Value x) ≡ (of_expr x).fits && not (is_brace (of_expr x).first)
shape_arrow_value x = ap of_arrow_body (sym (arrow_body.rolls-Value x)) ∙ fold-roll-ArrowBody Bool Shape Bool Bool StmtShape Shape Bool DeclaredShape Bool Bool arrow_body_step expr_step for_step property_step stmt_step target_step catch_step declaration_step function_step template_step (ArrowBody-F.Value x)

pub shape_for_nothing : of_for for_begin.Nothing ≡ true
shape_for_nothing = ap of_for (sym for_begin.rolls-Nothing) ∙ fold-roll-ForBegin Bool Shape Bool Bool StmtShape Shape Bool DeclaredShape Bool Bool arrow_body_step expr_step for_step property_step stmt_step target_step catch_step declaration_step function_step template_step ForBegin-F.Nothing

pub shape_for_declarations : (k : DeclareKind) (ds : List Declaration) → of_for (for_begin.Declarations k ds) ≡ declarations_fit k (map of_declaration ds)
shape_for_declarations k ds = ap of_for (sym (for_begin.rolls-Declarations k ds)) ∙ fold-roll-ForBegin Bool Shape Bool Bool StmtShape Shape Bool DeclaredShape Bool Bool arrow_body_step expr_step for_step property_step stmt_step target_step catch_step declaration_step function_step template_step (ForBegin-F.Declarations k ds)

pub shape_for_start : (x : Expr) → of_for (for_begin.Start x) ≡ (of_expr x).fits
shape_for_start x = ap of_for (sym (for_begin.rolls-Start x)) ∙ fold-roll-ForBegin Bool Shape Bool Bool StmtShape Shape Bool DeclaredShape Bool Bool arrow_body_step expr_step for_step property_step stmt_step target_step catch_step declaration_step function_step template_step (ForBegin-F.Start x)

-- the parts that are structs

pub shape_function : (f : Function) → of_function f ≡ all_statements_fit (map of_stmt f.body)
shape_function f = fold-roll-Function Bool Shape Bool Bool StmtShape Shape Bool DeclaredShape Bool Bool arrow_body_step expr_step for_step property_step stmt_step target_step catch_step declaration_step function_step template_step (record { is_async = f.is_async; parameters = f.parameters; body = f.body })

pub shape_catch : (c : Catch) → of_catch c ≡ all_statements_fit (map of_stmt c.body)
shape_catch c = fold-roll-Catch Bool Shape Bool Bool StmtShape Shape Bool DeclaredShape Bool Bool arrow_body_step expr_step for_step property_step stmt_step target_step catch_step declaration_step function_step template_step (record { name = c.name; body = c.body })

pub shape_bare_declaration : (n : Name) → of_declaration (roll-Declaration (record { name = n; value = None })) ≡ record { fits = true; has_value = false }
shape_bare_declaration n = fold-roll-Declaration Bool Shape Bool Bool StmtShape Shape Bool DeclaredShape Bool Bool arrow_body_step expr_step for_step property_step stmt_step target_step catch_step declaration_step function_step template_step (record { name = n; value = None })

pub shape_declaration : (n : Name) (x : Expr) → of_declaration (roll-Declaration (record { name = n; value = Some x })) ≡ record { fits = (of_expr x).fits; has_value = true }
shape_declaration n x = fold-roll-Declaration Bool Shape Bool Bool StmtShape Shape Bool DeclaredShape Bool Bool arrow_body_step expr_step for_step property_step stmt_step target_step catch_step declaration_step function_step template_step (record { name = n; value = Some x })

pub shape_part : (i : TemplateItem) → of_template i ≡ (of_expr i.value).fits
shape_part i = fold-roll-TemplateItem Bool Shape Bool Bool StmtShape Shape Bool DeclaredShape Bool Bool arrow_body_step expr_step for_step property_step stmt_step target_step catch_step declaration_step function_step template_step (record { units = i.units; value = i.value })
