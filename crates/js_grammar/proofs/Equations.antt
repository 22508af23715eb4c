-- What each form is written as, by what its parts are.
use Rattle.std.proofs.Common.{◌≡◌, ℕ, Bool, true, List, [], ◌∷◌, ◌++◌, map, Option, Some, None, option_map, sym, ap, ◌∙◌}
use Rattle.js_lex.specs.declared.token.Punctuator.TheVariants as p
use Rattle.js_lex.specs.declared.token.Reserved.TheVariants as r
use Rattle.js_lex.specs.declared.token.TokenKind.TheVariants as tok
use Rattle.js_tree.specs.declared.tree.Name.{Name}
use Rattle.js_tree.specs.declared.tree.Key.{Key}
use Rattle.js_tree.specs.declared.tree.AssignOp.{AssignOp}
use Rattle.js_tree.specs.declared.tree.BinaryOp.{BinaryOp}
use Rattle.js_tree.specs.declared.tree.UnaryOp.{UnaryOp}
use Rattle.js_tree.specs.declared.tree.UpdateOp.{UpdateOp}
use Rattle.js_tree.specs.declared.tree.UpdateSide.{UpdateSide}
use Rattle.js_tree.specs.declared.tree.DeclareKind.{DeclareKind}
use Rattle.js_tree.specs.declared.tree.ArrowBody.TheOpen.{ArrowBody-F, Expr-F, ForBegin-F, Property-F, Stmt-F, Target-F}
use Rattle.js_tree.specs.declared.tree.ArrowBody.TheFolds.{fold-roll-ArrowBody, fold-roll-Expr, fold-roll-ForBegin, fold-roll-Property, fold-roll-Stmt, fold-roll-Target, fold-roll-Catch, fold-roll-Declaration, fold-roll-Function, fold-roll-TemplateItem}
use Rattle.js_tree.specs.declared.tree.ArrowBody.{ArrowBody}
use Rattle.js_tree.specs.declared.tree.ArrowBody.TheVariants as arrow_body
use Rattle.js_tree.specs.declared.tree.Expr.{Expr}
use Rattle.js_tree.specs.declared.tree.Expr.TheVariants as expr
use Rattle.js_tree.specs.declared.tree.ForBegin.{ForBegin}
use Rattle.js_tree.specs.declared.tree.ForBegin.TheVariants as for_begin
use Rattle.js_tree.specs.declared.tree.Property.{Property}
use Rattle.js_tree.specs.declared.tree.Property.TheVariants as property
use Rattle.js_tree.specs.declared.tree.Stmt.{Stmt}
use Rattle.js_tree.specs.declared.tree.Stmt.TheVariants as stmt
use Rattle.js_tree.specs.declared.tree.Target.{Target}
use Rattle.js_tree.specs.declared.tree.Target.TheVariants as target
use Rattle.js_tree.specs.declared.tree.Catch.{Catch, roll-Catch}
use Rattle.js_tree.specs.declared.tree.Declaration.{Declaration, roll-Declaration}
use Rattle.js_tree.specs.declared.tree.Function.{Function}
use Rattle.js_tree.specs.declared.tree.TemplateItem.{TemplateItem}
use Rattle.js_grammar.specs.Marks.{Just, Form, mark, one, just, end, deeper, on_one_line, enclosed, listed}
use Rattle.js_grammar.specs.Grammar.{Written, WrittenStmt, WrittenFunction, WrittenPart, alone, member, index, call, joined, template, arrow_sign, arrow, function, option_name, update_forms, conditional, method, object, declared, for_head, for_of_head, other, body, option_value, option_else, option_finally, block, parenthesized, parameters, values, reserved, reserved_at, name, name_forms, optional, key, unary_form, assign_sign, arrow_body_step, expr_step, for_step, property_step, stmt_step, target_step, catch_step, declaration_step, function_step, template_step, of_arrow_body, of_expr, of_for, of_property, of_stmt, of_target, of_catch, of_declaration, of_function, of_template}

pub written_name : (n : Name) → of_expr (expr.Name n) ≡ alone (name n ∷ [])
written_name n = ap of_expr (sym (expr.rolls-Name n)) ∙ fold-roll-Expr (List Form) Written (List Form) (List Form) WrittenStmt Written (List Form) (List Form) WrittenFunction WrittenPart arrow_body_step expr_step for_step property_step stmt_step target_step catch_step declaration_step function_step template_step (Expr-F.Name n)

pub written_number : (n : ℕ) → of_expr (expr.Number n) ≡ alone (one (mark (Just (tok.Number n))) ∷ [])
written_number n = ap of_expr (sym (expr.rolls-Number n)) ∙ fold-roll-Expr (List Form) Written (List Form) (List Form) WrittenStmt Written (List Form) (List Form) WrittenFunction WrittenPart arrow_body_step expr_step for_step property_step stmt_step target_step catch_step declaration_step function_step template_step (Expr-F.Number n)

pub written_text : (u : List ℕ) → of_expr (expr.Text u) ≡ alone (one (mark (Just (tok.Text u))) ∷ [])
written_text u = ap of_expr (sym (expr.rolls-Text u)) ∙ fold-roll-Expr (List Form) Written (List Form) (List Form) WrittenStmt Written (List Form) (List Form) WrittenFunction WrittenPart arrow_body_step expr_step for_step property_step stmt_step target_step catch_step declaration_step function_step template_step (Expr-F.Text u)

pub written_true : of_expr expr.True ≡ alone (reserved r.True ∷ [])
written_true = ap of_expr (sym expr.rolls-True) ∙ fold-roll-Expr (List Form) Written (List Form) (List Form) WrittenStmt Written (List Form) (List Form) WrittenFunction WrittenPart arrow_body_step expr_step for_step property_step stmt_step target_step catch_step declaration_step function_step template_step Expr-F.True

pub written_false : of_expr expr.False ≡ alone (reserved r.False ∷ [])
written_false = ap of_expr (sym expr.rolls-False) ∙ fold-roll-Expr (List Form) Written (List Form) (List Form) WrittenStmt Written (List Form) (List Form) WrittenFunction WrittenPart arrow_body_step expr_step for_step property_step stmt_step target_step catch_step declaration_step function_step template_step Expr-F.False

pub written_null : of_expr expr.Null ≡ alone (reserved r.Null ∷ [])
written_null = ap of_expr (sym expr.rolls-Null) ∙ fold-roll-Expr (List Form) Written (List Form) (List Form) WrittenStmt Written (List Form) (List Form) WrittenFunction WrittenPart arrow_body_step expr_step for_step property_step stmt_step target_step catch_step declaration_step function_step template_step Expr-F.Null

pub written_this : of_expr expr.This ≡ alone (reserved r.This ∷ [])
written_this = ap of_expr (sym expr.rolls-This) ∙ fold-roll-Expr (List Form) Written (List Form) (List Form) WrittenStmt Written (List Form) (List Form) WrittenFunction WrittenPart arrow_body_step expr_step for_step property_step stmt_step target_step catch_step declaration_step function_step template_step Expr-F.This

pub written_template : (is : List TemplateItem) (u : List ℕ) → of_expr (expr.Template is u) ≡ alone (template (map of_template is) u)
written_template is u = ap of_expr (sym (expr.rolls-Template is u)) ∙ fold-roll-Expr (List Form) Written (List Form) (List Form) WrittenStmt Written (List Form) (List Form) WrittenFunction WrittenPart arrow_body_step expr_step for_step property_step stmt_step target_step catch_step declaration_step function_step template_step (Expr-F.Template is u)

pub written_array : (xs : List Expr) → of_expr (expr.Array xs) ≡ alone (enclosed p.OpenBracket (listed (values (map of_expr xs))) p.CloseBracket)
written_array xs = ap of_expr (sym (expr.rolls-Array xs)) ∙ fold-roll-Expr (List Form) Written (List Form) (List Form) WrittenStmt Written (List Form) (List Form) WrittenFunction WrittenPart arrow_body_step expr_step for_step property_step stmt_step target_step catch_step declaration_step function_step template_step (Expr-F.Array xs)

pub written_object : (xs : List Property) → of_expr (expr.Object xs) ≡ alone (object (map of_property xs))
written_object xs = ap of_expr (sym (expr.rolls-Object xs)) ∙ fold-roll-Expr (List Form) Written (List Form) (List Form) WrittenStmt Written (List Form) (List Form) WrittenFunction WrittenPart arrow_body_step expr_step for_step property_step stmt_step target_step catch_step declaration_step function_step template_step (Expr-F.Object xs)

pub written_function_expr : (n : Option Name) (f : Function) → of_expr (expr.Function n f) ≡ alone (function (option_name n) (of_function f))
written_function_expr n f = ap of_expr (sym (expr.rolls-Function n f)) ∙ fold-roll-Expr (List Form) Written (List Form) (List Form) WrittenStmt Written (List Form) (List Form) WrittenFunction WrittenPart arrow_body_step expr_step for_step property_step stmt_step target_step catch_step declaration_step function_step template_step (Expr-F.Function n f)

pub written_arrow_expr : (a : Bool) (ns : List Name) (b : ArrowBody) → of_expr (expr.Arrow a ns b) ≡ alone (arrow a ns (of_arrow_body b))
written_arrow_expr a ns b = ap of_expr (sym (expr.rolls-Arrow a ns b)) ∙ fold-roll-Expr (List Form) Written (List Form) (List Form) WrittenStmt Written (List Form) (List Form) WrittenFunction WrittenPart arrow_body_step expr_step for_step property_step stmt_step target_step catch_step declaration_step function_step template_step (Expr-F.Arrow a ns b)

pub written_group : (x : Expr) → of_expr (expr.Group x) ≡ alone (parenthesized (of_expr x).forms)
written_group x = ap of_expr (sym (expr.rolls-Group x)) ∙ fold-roll-Expr (List Form) Written (List Form) (List Form) WrittenStmt Written (List Form) (List Form) WrittenFunction WrittenPart arrow_body_step expr_step for_step property_step stmt_step target_step catch_step declaration_step function_step template_step (Expr-F.Group x)

pub written_unary : (o : UnaryOp) (x : Expr) → of_expr (expr.Unary o x) ≡ alone (deeper 1 (unary_form o ∷ (of_expr x).forms))
written_unary o x = ap of_expr (sym (expr.rolls-Unary o x)) ∙ fold-roll-Expr (List Form) Written (List Form) (List Form) WrittenStmt Written (List Form) (List Form) WrittenFunction WrittenPart arrow_body_step expr_step for_step property_step stmt_step target_step catch_step declaration_step function_step template_step (Expr-F.Unary o x)

pub written_await : (q : ℕ) (x : Expr) → of_expr (expr.Await q x) ≡ alone (deeper 1 (reserved_at q r.Await ∷ (of_expr x).forms))
written_await q x = ap of_expr (sym (expr.rolls-Await q x)) ∙ fold-roll-Expr (List Form) Written (List Form) (List Form) WrittenStmt Written (List Form) (List Form) WrittenFunction WrittenPart arrow_body_step expr_step for_step property_step stmt_step target_step catch_step declaration_step function_step template_step (Expr-F.Await q x)

pub written_update : (s : UpdateSide) (o : UpdateOp) (x : Target) → of_expr (expr.Update s o x) ≡ alone (update_forms s o (of_target x))
written_update s o x = ap of_expr (sym (expr.rolls-Update s o x)) ∙ fold-roll-Expr (List Form) Written (List Form) (List Form) WrittenStmt Written (List Form) (List Form) WrittenFunction WrittenPart arrow_body_step expr_step for_step property_step stmt_step target_step catch_step declaration_step function_step template_step (Expr-F.Update s o x)

pub written_binary : (o : BinaryOp) (x : Expr) (y : Expr) → of_expr (expr.Binary o x y) ≡ joined o (of_expr x) (of_expr y)
written_binary o x y = ap of_expr (sym (expr.rolls-Binary o x y)) ∙ fold-roll-Expr (List Form) Written (List Form) (List Form) WrittenStmt Written (List Form) (List Form) WrittenFunction WrittenPart arrow_body_step expr_step for_step property_step stmt_step target_step catch_step declaration_step function_step template_step (Expr-F.Binary o x y)

pub written_conditional : (test : Expr) (x : Expr) (y : Expr) → of_expr (expr.Conditional test x y) ≡ alone (conditional (of_expr test) (of_expr x) (of_expr y))
written_conditional test x y = ap of_expr (sym (expr.rolls-Conditional test x y)) ∙ fold-roll-Expr (List Form) Written (List Form) (List Form) WrittenStmt Written (List Form) (List Form) WrittenFunction WrittenPart arrow_body_step expr_step for_step property_step stmt_step target_step catch_step declaration_step function_step template_step (Expr-F.Conditional test x y)

pub written_assign : (o : AssignOp) (x : Target) (y : Expr) → of_expr (expr.Assign o x y) ≡ alone ((of_target x).forms ++ deeper 1 (just (assign_sign o) ∷ (of_expr y).forms))
written_assign o x y = ap of_expr (sym (expr.rolls-Assign o x y)) ∙ fold-roll-Expr (List Form) Written (List Form) (List Form) WrittenStmt Written (List Form) (List Form) WrittenFunction WrittenPart arrow_body_step expr_step for_step property_step stmt_step target_step catch_step declaration_step function_step template_step (Expr-F.Assign o x y)

pub written_call : (x : Expr) (xs : List Expr) → of_expr (expr.Call x xs) ≡ call (of_expr x) (map of_expr xs)
written_call x xs = ap of_expr (sym (expr.rolls-Call x xs)) ∙ fold-roll-Expr (List Form) Written (List Form) (List Form) WrittenStmt Written (List Form) (List Form) WrittenFunction WrittenPart arrow_body_step expr_step for_step property_step stmt_step target_step catch_step declaration_step function_step template_step (Expr-F.Call x xs)

pub written_new : (n : Name) (xs : List Expr) → of_expr (expr.New n xs) ≡ alone (reserved r.New ∷ name n ∷ parenthesized (listed (values (map of_expr xs))))
written_new n xs = ap of_expr (sym (expr.rolls-New n xs)) ∙ fold-roll-Expr (List Form) Written (List Form) (List Form) WrittenStmt Written (List Form) (List Form) WrittenFunction WrittenPart arrow_body_step expr_step for_step property_step stmt_step target_step catch_step declaration_step function_step template_step (Expr-F.New n xs)

pub written_member : (x : Expr) (n : Name) → of_expr (expr.Member x n) ≡ member (of_expr x) n
written_member x n = ap of_expr (sym (expr.rolls-Member x n)) ∙ fold-roll-Expr (List Form) Written (List Form) (List Form) WrittenStmt Written (List Form) (List Form) WrittenFunction WrittenPart arrow_body_step expr_step for_step property_step stmt_step target_step catch_step declaration_step function_step template_step (Expr-F.Member x n)

pub written_index : (x : Expr) (k : Expr) → of_expr (expr.Index x k) ≡ index (of_expr x) (of_expr k)
written_index x k = ap of_expr (sym (expr.rolls-Index x k)) ∙ fold-roll-Expr (List Form) Written (List Form) (List Form) WrittenStmt Written (List Form) (List Form) WrittenFunction WrittenPart arrow_body_step expr_step for_step property_step stmt_step target_step catch_step declaration_step function_step template_step (Expr-F.Index x k)

pub written_declare : (k : DeclareKind) (ds : List Declaration) → of_stmt (stmt.Declare k ds) ≡ other (declared k (map of_declaration ds) ++ end ∷ [])
written_declare k ds = ap of_stmt (sym (stmt.rolls-Declare k ds)) ∙ fold-roll-Stmt (List Form) Written (List Form) (List Form) WrittenStmt Written (List Form) (List Form) WrittenFunction WrittenPart arrow_body_step expr_step for_step property_step stmt_step target_step catch_step declaration_step function_step template_step (Stmt-F.Declare k ds)

pub written_declare_function : (n : Name) (f : Function) → of_stmt (stmt.DeclareFunction n f) ≡ other (function (name_forms n) (of_function f))
written_declare_function n f = ap of_stmt (sym (stmt.rolls-DeclareFunction n f)) ∙ fold-roll-Stmt (List Form) Written (List Form) (List Form) WrittenStmt Written (List Form) (List Form) WrittenFunction WrittenPart arrow_body_step expr_step for_step property_step stmt_step target_step catch_step declaration_step function_step template_step (Stmt-F.DeclareFunction n f)

pub written_block : (ss : List Stmt) → of_stmt (stmt.Block ss) ≡ record { forms = block (map of_stmt ss); is_block = true }
written_block ss = ap of_stmt (sym (stmt.rolls-Block ss)) ∙ fold-roll-Stmt (List Form) Written (List Form) (List Form) WrittenStmt Written (List Form) (List Form) WrittenFunction WrittenPart arrow_body_step expr_step for_step property_step stmt_step target_step catch_step declaration_step function_step template_step (Stmt-F.Block ss)

pub written_if : (test : Expr) (s : Stmt) (t : Option Stmt) → of_stmt (stmt.If test s t) ≡ other (reserved r.If ∷ (parenthesized (of_expr test).forms ++ (body (of_stmt s) ++ option_else (option_map of_stmt t))))
written_if test s None = ap of_stmt (sym (stmt.rolls-If test s None)) ∙ fold-roll-Stmt (List Form) Written (List Form) (List Form) WrittenStmt Written (List Form) (List Form) WrittenFunction WrittenPart arrow_body_step expr_step for_step property_step stmt_step target_step catch_step declaration_step function_step template_step (Stmt-F.If test s None)
written_if test s (Some t) = ap of_stmt (sym (stmt.rolls-If test s (Some t))) ∙ fold-roll-Stmt (List Form) Written (List Form) (List Form) WrittenStmt Written (List Form) (List Form) WrittenFunction WrittenPart arrow_body_step expr_step for_step property_step stmt_step target_step catch_step declaration_step function_step template_step (Stmt-F.If test s (Some t))

pub written_for : (b : ForBegin) (test : Option Expr) (update : Option Expr) (s : Stmt) → of_stmt (stmt.For b test update s) ≡ other (reserved r.For ∷ (parenthesized (for_head (of_for b) (option_map of_expr test) (option_map of_expr update)) ++ body (of_stmt s)))
written_for b None None s = ap of_stmt (sym (stmt.rolls-For b None None s)) ∙ fold-roll-Stmt (List Form) Written (List Form) (List Form) WrittenStmt Written (List Form) (List Form) WrittenFunction WrittenPart arrow_body_step expr_step for_step property_step stmt_step target_step catch_step declaration_step function_step template_step (Stmt-F.For b None None s)
written_for b None (Some update) s = ap of_stmt (sym (stmt.rolls-For b None (Some update) s)) ∙ fold-roll-Stmt (List Form) Written (List Form) (List Form) WrittenStmt Written (List Form) (List Form) WrittenFunction WrittenPart arrow_body_step expr_step for_step property_step stmt_step target_step catch_step declaration_step function_step template_step (Stmt-F.For b None (Some update) s)
written_for b (Some test) None s = ap of_stmt (sym (stmt.rolls-For b (Some test) None s)) ∙ fold-roll-Stmt (List Form) Written (List Form) (List Form) WrittenStmt Written (List Form) (List Form) WrittenFunction WrittenPart arrow_body_step expr_step for_step property_step stmt_step target_step catch_step declaration_step function_step template_step (Stmt-F.For b (Some test) None s)
written_for b (Some test) (Some update) s = ap of_stmt (sym (stmt.rolls-For b (Some test) (Some update) s)) ∙ fold-roll-Stmt (List Form) Written (List Form) (List Form) WrittenStmt Written (List Form) (List Form) WrittenFunction WrittenPart arrow_body_step expr_step for_step property_step stmt_step target_step catch_step declaration_step function_step template_step (Stmt-F.For b (Some test) (Some update) s)

pub written_for_of : (k : DeclareKind) (n : Name) (x : Expr) (s : Stmt) → of_stmt (stmt.ForOf k n x s) ≡ other (reserved r.For ∷ (parenthesized (for_of_head k n (of_expr x)) ++ body (of_stmt s)))
written_for_of k n x s = ap of_stmt (sym (stmt.rolls-ForOf k n x s)) ∙ fold-roll-Stmt (List Form) Written (List Form) (List Form) WrittenStmt Written (List Form) (List Form) WrittenFunction WrittenPart arrow_body_step expr_step for_step property_step stmt_step target_step catch_step declaration_step function_step template_step (Stmt-F.ForOf k n x s)

pub written_while : (test : Expr) (s : Stmt) → of_stmt (stmt.While test s) ≡ other (reserved r.While ∷ (parenthesized (of_expr test).forms ++ body (of_stmt s)))
written_while test s = ap of_stmt (sym (stmt.rolls-While test s)) ∙ fold-roll-Stmt (List Form) Written (List Form) (List Form) WrittenStmt Written (List Form) (List Form) WrittenFunction WrittenPart arrow_body_step expr_step for_step property_step stmt_step target_step catch_step declaration_step function_step template_step (Stmt-F.While test s)

pub written_break : (q : ℕ) → of_stmt (stmt.Break q) ≡ other (reserved_at q r.Break ∷ end ∷ [])
written_break q = ap of_stmt (sym (stmt.rolls-Break q)) ∙ fold-roll-Stmt (List Form) Written (List Form) (List Form) WrittenStmt Written (List Form) (List Form) WrittenFunction WrittenPart arrow_body_step expr_step for_step property_step stmt_step target_step catch_step declaration_step function_step template_step (Stmt-F.Break q)

pub written_continue : (q : ℕ) → of_stmt (stmt.Continue q) ≡ other (reserved_at q r.Continue ∷ end ∷ [])
written_continue q = ap of_stmt (sym (stmt.rolls-Continue q)) ∙ fold-roll-Stmt (List Form) Written (List Form) (List Form) WrittenStmt Written (List Form) (List Form) WrittenFunction WrittenPart arrow_body_step expr_step for_step property_step stmt_step target_step catch_step declaration_step function_step template_step (Stmt-F.Continue q)

pub written_return : (q : ℕ) (x : Option Expr) → of_stmt (stmt.Return q x) ≡ other (reserved_at q r.Return ∷ (on_one_line (option_value (option_map of_expr x)) ++ end ∷ []))
written_return q None = ap of_stmt (sym (stmt.rolls-Return q None)) ∙ fold-roll-Stmt (List Form) Written (List Form) (List Form) WrittenStmt Written (List Form) (List Form) WrittenFunction WrittenPart arrow_body_step expr_step for_step property_step stmt_step target_step catch_step declaration_step function_step template_step (Stmt-F.Return q None)
written_return q (Some x) = ap of_stmt (sym (stmt.rolls-Return q (Some x))) ∙ fold-roll-Stmt (List Form) Written (List Form) (List Form) WrittenStmt Written (List Form) (List Form) WrittenFunction WrittenPart arrow_body_step expr_step for_step property_step stmt_step target_step catch_step declaration_step function_step template_step (Stmt-F.Return q (Some x))

pub written_throw : (x : Expr) → of_stmt (stmt.Throw x) ≡ other (reserved r.Throw ∷ (on_one_line (of_expr x).forms ++ end ∷ []))
written_throw x = ap of_stmt (sym (stmt.rolls-Throw x)) ∙ fold-roll-Stmt (List Form) Written (List Form) (List Form) WrittenStmt Written (List Form) (List Form) WrittenFunction WrittenPart arrow_body_step expr_step for_step property_step stmt_step target_step catch_step declaration_step function_step template_step (Stmt-F.Throw x)

pub written_try : (ss : List Stmt) (c : Option Catch) (f : Option (List Stmt)) → of_stmt (stmt.Try ss c f) ≡ other (reserved r.Try ∷ (block (map of_stmt ss) ++ (optional (option_map of_catch c) ++ option_finally (option_map (map of_stmt) f))))
written_try ss None None = ap of_stmt (sym (stmt.rolls-Try ss None None)) ∙ fold-roll-Stmt (List Form) Written (List Form) (List Form) WrittenStmt Written (List Form) (List Form) WrittenFunction WrittenPart arrow_body_step expr_step for_step property_step stmt_step target_step catch_step declaration_step function_step template_step (Stmt-F.Try ss None None)
written_try ss None (Some f) = ap of_stmt (sym (stmt.rolls-Try ss None (Some f))) ∙ fold-roll-Stmt (List Form) Written (List Form) (List Form) WrittenStmt Written (List Form) (List Form) WrittenFunction WrittenPart arrow_body_step expr_step for_step property_step stmt_step target_step catch_step declaration_step function_step template_step (Stmt-F.Try ss None (Some f))
written_try ss (Some c) None = ap of_stmt (sym (stmt.rolls-Try ss (Some c) None)) ∙ fold-roll-Stmt (List Form) Written (List Form) (List Form) WrittenStmt Written (List Form) (List Form) WrittenFunction WrittenPart arrow_body_step expr_step for_step property_step stmt_step target_step catch_step declaration_step function_step template_step (Stmt-F.Try ss (Some c) None)
written_try ss (Some c) (Some f) = ap of_stmt (sym (stmt.rolls-Try ss (Some c) (Some f))) ∙ fold-roll-Stmt (List Form) Written (List Form) (List Form) WrittenStmt Written (List Form) (List Form) WrittenFunction WrittenPart arrow_body_step expr_step for_step property_step stmt_step target_step catch_step declaration_step function_step template_step (Stmt-F.Try ss (Some c) (Some f))

pub written_empty : of_stmt stmt.Empty ≡ other (just p.Semicolon ∷ [])
written_empty = ap of_stmt (sym stmt.rolls-Empty) ∙ fold-roll-Stmt (List Form) Written (List Form) (List Form) WrittenStmt Written (List Form) (List Form) WrittenFunction WrittenPart arrow_body_step expr_step for_step property_step stmt_step target_step catch_step declaration_step function_step template_step Stmt-F.Empty

pub written_expr_stmt : (x : Expr) → of_stmt (stmt.Expr x) ≡ other ((of_expr x).forms ++ end ∷ [])
written_expr_stmt x = ap of_stmt (sym (stmt.rolls-Expr x)) ∙ fold-roll-Stmt (List Form) Written (List Form) (List Form) WrittenStmt Written (List Form) (List Form) WrittenFunction WrittenPart arrow_body_step expr_step for_step property_step stmt_step target_step catch_step declaration_step function_step template_step (Stmt-F.Expr x)

pub written_variable : (n : Name) → of_target (target.Variable n) ≡ alone (name n ∷ [])
written_variable n = ap of_target (sym (target.rolls-Variable n)) ∙ fold-roll-Target (List Form) Written (List Form) (List Form) WrittenStmt Written (List Form) (List Form) WrittenFunction WrittenPart arrow_body_step expr_step for_step property_step stmt_step target_step catch_step declaration_step function_step template_step (Target-F.Variable n)

pub written_field : (x : Expr) (n : Name) → of_target (target.Field x n) ≡ member (of_expr x) n
written_field x n = ap of_target (sym (target.rolls-Field x n)) ∙ fold-roll-Target (List Form) Written (List Form) (List Form) WrittenStmt Written (List Form) (List Form) WrittenFunction WrittenPart arrow_body_step expr_step for_step property_step stmt_step target_step catch_step declaration_step function_step template_step (Target-F.Field x n)

pub written_item : (x : Expr) (k : Expr) → of_target (target.Item x k) ≡ index (of_expr x) (of_expr k)
written_item x k = ap of_target (sym (target.rolls-Item x k)) ∙ fold-roll-Target (List Form) Written (List Form) (List Form) WrittenStmt Written (List Form) (List Form) WrittenFunction WrittenPart arrow_body_step expr_step for_step property_step stmt_step target_step catch_step declaration_step function_step template_step (Target-F.Item x k)

pub written_pair : (k : Key) (x : Expr) → of_property (property.Pair k x) ≡ key k ∷ just p.Colon ∷ (of_expr x).forms
written_pair k x = ap of_property (sym (property.rolls-Pair k x)) ∙ fold-roll-Property (List Form) Written (List Form) (List Form) WrittenStmt Written (List Form) (List Form) WrittenFunction WrittenPart arrow_body_step expr_step for_step property_step stmt_step target_step catch_step declaration_step function_step template_step (Property-F.Pair k x)

pub written_short : (n : Name) → of_property (property.Short n) ≡ name n ∷ []
written_short n = ap of_property (sym (property.rolls-Short n)) ∙ fold-roll-Property (List Form) Written (List Form) (List Form) WrittenStmt Written (List Form) (List Form) WrittenFunction WrittenPart arrow_body_step expr_step for_step property_step stmt_step target_step catch_step declaration_step function_step template_step (Property-F.Short n)

pub written_method : (k : Key) (f : Function) → of_property (property.Method k f) ≡ method k (of_function f)
written_method k f = ap of_property (sym (property.rolls-Method k f)) ∙ fold-roll-Property (List Form) Written (List Form) (List Form) WrittenStmt Written (List Form) (List Form) WrittenFunction WrittenPart arrow_body_step expr_step for_step property_step stmt_step target_step catch_step declaration_step function_step template_step (Property-F.Method k f)

pub written_arrow_statements : (ss : List Stmt) → of_arrow_body (arrow_body.Statements ss) ≡ arrow_sign ∷ block (map of_stmt ss)
written_arrow_statements ss = ap of_arrow_body (sym (arrow_body.rolls-Statements ss)) ∙ fold-roll-ArrowBody (List Form) Written (List Form) (List Form) WrittenStmt Written (List Form) (List Form) WrittenFunction WrittenPart arrow_body_step expr_step for_step property_step stmt_step target_step catch_step declaration_step function_step template_step (ArrowBody-F.Statements ss)

pub written_arrow_value : (x : Expr) → of_arrow_body (arrow_body.Value x) ≡ deeper 1 (arrow_sign ∷ (of_expr x).forms)
written_arrow_value x = ap of_arrow_body (sym (arrow_body.rolls-Value x)) ∙ fold-roll-ArrowBody (List Form) Written (List Form) (List Form) WrittenStmt Written (List Form) (List Form) WrittenFunction WrittenPart arrow_body_step expr_step for_step property_step stmt_step target_step catch_step declaration_step function_step template_step (ArrowBody-F.Value x)

pub written_for_nothing : of_for for_begin.Nothing ≡ []
written_for_nothing = ap of_for (sym for_begin.rolls-Nothing) ∙ fold-roll-ForBegin (List Form) Written (List Form) (List Form) WrittenStmt Written (List Form) (List Form) WrittenFunction WrittenPart arrow_body_step expr_step for_step property_step stmt_step target_step catch_step declaration_step function_step template_step ForBegin-F.Nothing

pub written_for_declarations : (k : DeclareKind) (ds : List Declaration) → of_for (for_begin.Declarations k ds) ≡ declared k (map of_declaration ds)
written_for_declarations k ds = ap of_for (sym (for_begin.rolls-Declarations k ds)) ∙ fold-roll-ForBegin (List Form) Written (List Form) (List Form) WrittenStmt Written (List Form) (List Form) WrittenFunction WrittenPart arrow_body_step expr_step for_step property_step stmt_step target_step catch_step declaration_step function_step template_step (ForBegin-F.Declarations k ds)

pub written_for_start : (x : Expr) → of_for (for_begin.Start x) ≡ (of_expr x).forms
written_for_start x = ap of_for (sym (for_begin.rolls-Start x)) ∙ fold-roll-ForBegin (List Form) Written (List Form) (List Form) WrittenStmt Written (List Form) (List Form) WrittenFunction WrittenPart arrow_body_step expr_step for_step property_step stmt_step target_step catch_step declaration_step function_step template_step (ForBegin-F.Start x)

-- the parts that are structs

pub written_function : (f : Function) → of_function f ≡ record { is_async = f.is_async; forms = parameters f.parameters ++ block (map of_stmt f.body) }
written_function f = fold-roll-Function (List Form) Written (List Form) (List Form) WrittenStmt Written (List Form) (List Form) WrittenFunction WrittenPart arrow_body_step expr_step for_step property_step stmt_step target_step catch_step declaration_step function_step template_step (record { is_async = f.is_async; parameters = f.parameters; body = f.body })

pub written_bare_catch : (ss : List Stmt) → of_catch (roll-Catch (record { name = None; body = ss })) ≡ reserved r.Catch ∷ block (map of_stmt ss)
written_bare_catch ss = fold-roll-Catch (List Form) Written (List Form) (List Form) WrittenStmt Written (List Form) (List Form) WrittenFunction WrittenPart arrow_body_step expr_step for_step property_step stmt_step target_step catch_step declaration_step function_step template_step (record { name = None; body = ss })

pub written_catch : (n : Name) (ss : List Stmt) → of_catch (roll-Catch (record { name = Some n; body = ss })) ≡ reserved r.Catch ∷ (parenthesized (name n ∷ []) ++ block (map of_stmt ss))
written_catch n ss = fold-roll-Catch (List Form) Written (List Form) (List Form) WrittenStmt Written (List Form) (List Form) WrittenFunction WrittenPart arrow_body_step expr_step for_step property_step stmt_step target_step catch_step declaration_step function_step template_step (record { name = Some n; body = ss })

pub written_bare_declaration : (n : Name) → of_declaration (roll-Declaration (record { name = n; value = None })) ≡ name n ∷ []
written_bare_declaration n = fold-roll-Declaration (List Form) Written (List Form) (List Form) WrittenStmt Written (List Form) (List Form) WrittenFunction WrittenPart arrow_body_step expr_step for_step property_step stmt_step target_step catch_step declaration_step function_step template_step (record { name = n; value = None })

pub written_declaration : (n : Name) (x : Expr) → of_declaration (roll-Declaration (record { name = n; value = Some x })) ≡ name n ∷ just p.Equal ∷ (of_expr x).forms
written_declaration n x = fold-roll-Declaration (List Form) Written (List Form) (List Form) WrittenStmt Written (List Form) (List Form) WrittenFunction WrittenPart arrow_body_step expr_step for_step property_step stmt_step target_step catch_step declaration_step function_step template_step (record { name = n; value = Some x })

pub written_part : (i : TemplateItem) → of_template i ≡ record { units = i.units; value = (of_expr i.value).forms }
written_part i = fold-roll-TemplateItem (List Form) Written (List Form) (List Form) WrittenStmt Written (List Form) (List Form) WrittenFunction WrittenPart arrow_body_step expr_step for_step property_step stmt_step target_step catch_step declaration_step function_step template_step (record { units = i.units; value = i.value })
