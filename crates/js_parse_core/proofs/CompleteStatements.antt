-- Each tree that fits is read.
use Rattle.std.proofs.Common.{◌≡◌, List, sym, subst}
use Rattle.std.specs.Prelude.{IsTrue}
use Rattle.js_tree.specs.declared.tree.Item.{Item}
use Rattle.js_tree.specs.declared.tree.ArrowBody.TheOpen.{ArrowBody-F, Expr-F, Target-F, TemplateItem-F}
use Rattle.js_tree.specs.declared.tree.ArrowBody.TheFolds.{map-ArrowBody, map-Expr, map-Target, map-TemplateItem, ind-Stmt, ind-Property}
use Rattle.js_tree.specs.declared.tree.ArrowBody.{ArrowBody, roll-ArrowBody}
use Rattle.js_tree.specs.declared.tree.Expr.{Expr, roll-Expr}
use Rattle.js_tree.specs.declared.tree.ForBegin.{ForBegin}
use Rattle.js_tree.specs.declared.tree.Property.{Property}
use Rattle.js_tree.specs.declared.tree.Stmt.{Stmt}
use Rattle.js_tree.specs.declared.tree.Target.{Target, roll-Target}
use Rattle.js_tree.specs.declared.tree.Catch.{Catch}
use Rattle.js_tree.specs.declared.tree.Declaration.{Declaration}
use Rattle.js_tree.specs.declared.tree.Function.{Function}
use Rattle.js_tree.specs.declared.tree.TemplateItem.{TemplateItem, roll-TemplateItem}
use Rattle.js_tree.specs.declared.tree.ArrowBody.TheVariants as arrow_body
use Rattle.js_tree.specs.declared.tree.Expr.TheVariants as expr
use Rattle.js_tree.specs.declared.tree.Target.TheVariants as target
use Rattle.js_grammar.specs.Marks.{Piece}
use Rattle.js_grammar.specs.Grammar.{of_tree}
use Rattle.js_grammar.specs.Shapes.{tree_fits}
use Rattle.js_parse_core.proofs.Pieces.{Fits}
use Rattle.js_parse_core.proofs.Readings.{ReadsFunction}
use Rattle.js_parse_core.proofs.Operands.{ReadsOperand, reads_number, reads_text, reads_true, reads_false, reads_null, reads_this, reads_name}
use Rattle.js_parse_core.proofs.Chains.{value_of, reads_member, reads_index}
use Rattle.js_parse_core.proofs.Items.{exprs, reads_new, reads_array}
use Rattle.js_parse_core.proofs.Operators.{ReadsTarget, reads_variable, reads_field, reads_item, reads_unary, reads_await, reads_update, reads_assign, reads_binary, reads_conditional}
use Rattle.js_parse_core.proofs.Groups.{reads_group}
use Rattle.js_parse_core.proofs.Arrows.{ReadsArrow, reads_arrow_statements, reads_arrow_value, reads_arrow}
use Rattle.js_parse_core.proofs.AsyncCalls.{reads_any_call}
use Rattle.js_parse_core.proofs.Literals.{parts_of, reads_template, reads_object, reads_function}
use Rattle.js_parse_core.proofs.ReadsStatements.{ReadsStmt, ReadsProperty, ReadsCatch, ReadsDeclaration, ReadsFor}
use Rattle.js_parse_core.proofs.StatementLists.{EachStmt, stmts_of, EachProperty, properties_of, stmts_read, object_read}
use Rattle.js_parse_core.proofs.PlainStatements.{EachCatch}
use Rattle.js_parse_core.proofs.Declarations.{EachDeclaration}
use Rattle.js_parse_core.proofs.StatementCases.{ReadsPart, EachArrow, EachExpr, EachFor, EachTarget, EachFunction, EachTemplate, step_for, step_property, step_stmt, step_catch, step_declaration, step_function}
use Rattle.js_parse_core.proofs.CompleteTree.{IsRead, complete_by}

abbrev tree_of_arrow_body : ArrowBody-F EachArrow EachExpr EachFor EachProperty EachStmt EachTarget EachCatch EachDeclaration EachFunction EachTemplate → ArrowBody-F ArrowBody Expr ForBegin Property Stmt Target Catch Declaration Function TemplateItem
tree_of_arrow_body y = map-ArrowBody EachArrow EachExpr EachFor EachProperty EachStmt EachTarget EachCatch EachDeclaration EachFunction EachTemplate ArrowBody Expr ForBegin Property Stmt Target Catch Declaration Function TemplateItem (λ e. e.0) (λ e. e.0) (λ e. e.0) (λ e. e.0) (λ e. e.0) (λ e. e.0) (λ e. e.0) (λ e. e.0) (λ e. e.0) (λ e. e.0) y

abbrev tree_of_expr : Expr-F EachArrow EachExpr EachFor EachProperty EachStmt EachTarget EachCatch EachDeclaration EachFunction EachTemplate → Expr-F ArrowBody Expr ForBegin Property Stmt Target Catch Declaration Function TemplateItem
tree_of_expr y = map-Expr EachArrow EachExpr EachFor EachProperty EachStmt EachTarget EachCatch EachDeclaration EachFunction EachTemplate ArrowBody Expr ForBegin Property Stmt Target Catch Declaration Function TemplateItem (λ e. e.0) (λ e. e.0) (λ e. e.0) (λ e. e.0) (λ e. e.0) (λ e. e.0) (λ e. e.0) (λ e. e.0) (λ e. e.0) (λ e. e.0) y

abbrev tree_of_target : Target-F EachArrow EachExpr EachFor EachProperty EachStmt EachTarget EachCatch EachDeclaration EachFunction EachTemplate → Target-F ArrowBody Expr ForBegin Property Stmt Target Catch Declaration Function TemplateItem
tree_of_target y = map-Target EachArrow EachExpr EachFor EachProperty EachStmt EachTarget EachCatch EachDeclaration EachFunction EachTemplate ArrowBody Expr ForBegin Property Stmt Target Catch Declaration Function TemplateItem (λ e. e.0) (λ e. e.0) (λ e. e.0) (λ e. e.0) (λ e. e.0) (λ e. e.0) (λ e. e.0) (λ e. e.0) (λ e. e.0) (λ e. e.0) y

abbrev tree_of_template : TemplateItem-F EachArrow EachExpr EachFor EachProperty EachStmt EachTarget EachCatch EachDeclaration EachFunction EachTemplate → TemplateItem-F ArrowBody Expr ForBegin Property Stmt Target Catch Declaration Function TemplateItem
tree_of_template y = map-TemplateItem EachArrow EachExpr EachFor EachProperty EachStmt EachTarget EachCatch EachDeclaration EachFunction EachTemplate ArrowBody Expr ForBegin Property Stmt Target Catch Declaration Function TemplateItem (λ e. e.0) (λ e. e.0) (λ e. e.0) (λ e. e.0) (λ e. e.0) (λ e. e.0) (λ e. e.0) (λ e. e.0) (λ e. e.0) (λ e. e.0) y

case_arrow_body : (y : ArrowBody-F EachArrow EachExpr EachFor EachProperty EachStmt EachTarget EachCatch EachDeclaration EachFunction EachTemplate) → ReadsArrow (roll-ArrowBody (tree_of_arrow_body y))
case_arrow_body (ArrowBody-F.Statements ys) = subst ReadsArrow (sym (arrow_body.rolls-Statements (stmts_of ys))) (reads_arrow_statements (stmts_of ys) (stmts_read ys))
case_arrow_body (ArrowBody-F.Value x) = subst ReadsArrow (sym (arrow_body.rolls-Value x.0)) (reads_arrow_value x.0 x.1)

case_expr : (y : Expr-F EachArrow EachExpr EachFor EachProperty EachStmt EachTarget EachCatch EachDeclaration EachFunction EachTemplate) → ReadsOperand (roll-Expr (tree_of_expr y))
case_expr (Expr-F.Name n) = subst ReadsOperand (sym (expr.rolls-Name n)) (reads_name n)
case_expr (Expr-F.Number n) = subst ReadsOperand (sym (expr.rolls-Number n)) (reads_number n)
case_expr (Expr-F.Text t) = subst ReadsOperand (sym (expr.rolls-Text t)) (reads_text t)
case_expr Expr-F.True = subst ReadsOperand (sym expr.rolls-True) reads_true
case_expr Expr-F.False = subst ReadsOperand (sym expr.rolls-False) reads_false
case_expr Expr-F.Null = subst ReadsOperand (sym expr.rolls-Null) reads_null
case_expr Expr-F.This = subst ReadsOperand (sym expr.rolls-This) reads_this
case_expr (Expr-F.Template ys t) = subst ReadsOperand (sym (expr.rolls-Template (parts_of ys) t)) (reads_template ys t)
case_expr (Expr-F.Array ys) = subst ReadsOperand (sym (expr.rolls-Array (exprs ys))) (reads_array ys)
case_expr (Expr-F.Object ys) = subst ReadsOperand (sym (expr.rolls-Object (properties_of ys))) (reads_object (properties_of ys) (object_read ys))
case_expr (Expr-F.Function n f) = subst ReadsOperand (sym (expr.rolls-Function n f.0)) (reads_function n f.0 f.1)
case_expr (Expr-F.Arrow a ns b) = subst ReadsOperand (sym (expr.rolls-Arrow a ns b.0)) (reads_arrow a ns b.0 b.1)
case_expr (Expr-F.Group x) = subst ReadsOperand (sym (expr.rolls-Group x.0)) (reads_group x.0 x.1)
case_expr (Expr-F.Unary o x) = subst ReadsOperand (sym (expr.rolls-Unary o x.0)) (reads_unary o x.0 x.1)
case_expr (Expr-F.Await q x) = subst ReadsOperand (sym (expr.rolls-Await q x.0)) (reads_await q x.0 x.1)
case_expr (Expr-F.Update s o x) = subst ReadsOperand (sym (expr.rolls-Update s o x.0)) (reads_update s o x.0 x.1)
case_expr (Expr-F.Binary o x y) = subst ReadsOperand (sym (expr.rolls-Binary o x.0 y.0)) (reads_binary o x.0 y.0 x.1 y.1)
case_expr (Expr-F.Conditional test x y) = subst ReadsOperand (sym (expr.rolls-Conditional test.0 x.0 y.0)) (reads_conditional test.0 x.0 y.0 test.1 x.1 y.1)
case_expr (Expr-F.Assign o x y) = subst ReadsOperand (sym (expr.rolls-Assign o x.0 y.0)) (reads_assign o x.0 y.0 x.1 y.1)
case_expr (Expr-F.Call x ys) = subst ReadsOperand (sym (expr.rolls-Call x.0 (exprs ys))) (reads_any_call x.0 ys x.1)
case_expr (Expr-F.New n ys) = subst ReadsOperand (sym (expr.rolls-New n (exprs ys))) (reads_new n ys)
case_expr (Expr-F.Member x n) = subst ReadsOperand (sym (expr.rolls-Member x.0 n)) (reads_member x.0 n x.1)
case_expr (Expr-F.Index x k) = subst ReadsOperand (sym (expr.rolls-Index x.0 k.0)) (reads_index x.0 k.0 x.1 (value_of k.0 k.1))

case_target : (y : Target-F EachArrow EachExpr EachFor EachProperty EachStmt EachTarget EachCatch EachDeclaration EachFunction EachTemplate) → ReadsTarget (roll-Target (tree_of_target y))
case_target (Target-F.Variable n) = subst ReadsTarget (sym (target.rolls-Variable n)) (reads_variable n)
case_target (Target-F.Field x n) = subst ReadsTarget (sym (target.rolls-Field x.0 n)) (reads_field x.0 n x.1)
case_target (Target-F.Item x k) = subst ReadsTarget (sym (target.rolls-Item x.0 k.0)) (reads_item x.0 k.0 x.1 (value_of k.0 k.1))

case_template : (y : TemplateItem-F EachArrow EachExpr EachFor EachProperty EachStmt EachTarget EachCatch EachDeclaration EachFunction EachTemplate) → ReadsPart (roll-TemplateItem (tree_of_template y))
case_template y = y.value.1

step_arrow_body : (x : ArrowBody-F ArrowBody Expr ForBegin Property Stmt Target Catch Declaration Function TemplateItem) (y : ArrowBody-F EachArrow EachExpr EachFor EachProperty EachStmt EachTarget EachCatch EachDeclaration EachFunction EachTemplate) → tree_of_arrow_body y ≡ x → ReadsArrow (roll-ArrowBody x)
step_arrow_body x y e = subst (λ (z : ArrowBody-F ArrowBody Expr ForBegin Property Stmt Target Catch Declaration Function TemplateItem). ReadsArrow (roll-ArrowBody z)) e (case_arrow_body y)

step_expr : (x : Expr-F ArrowBody Expr ForBegin Property Stmt Target Catch Declaration Function TemplateItem) (y : Expr-F EachArrow EachExpr EachFor EachProperty EachStmt EachTarget EachCatch EachDeclaration EachFunction EachTemplate) → tree_of_expr y ≡ x → ReadsOperand (roll-Expr x)
step_expr x y e = subst (λ (z : Expr-F ArrowBody Expr ForBegin Property Stmt Target Catch Declaration Function TemplateItem). ReadsOperand (roll-Expr z)) e (case_expr y)

step_target : (x : Target-F ArrowBody Expr ForBegin Property Stmt Target Catch Declaration Function TemplateItem) (y : Target-F EachArrow EachExpr EachFor EachProperty EachStmt EachTarget EachCatch EachDeclaration EachFunction EachTemplate) → tree_of_target y ≡ x → ReadsTarget (roll-Target x)
step_target x y e = subst (λ (z : Target-F ArrowBody Expr ForBegin Property Stmt Target Catch Declaration Function TemplateItem). ReadsTarget (roll-Target z)) e (case_target y)

step_template : (x : TemplateItem-F ArrowBody Expr ForBegin Property Stmt Target Catch Declaration Function TemplateItem) (y : TemplateItem-F EachArrow EachExpr EachFor EachProperty EachStmt EachTarget EachCatch EachDeclaration EachFunction EachTemplate) → tree_of_template y ≡ x → ReadsPart (roll-TemplateItem x)
step_template x y e = subst (λ (z : TemplateItem-F ArrowBody Expr ForBegin Property Stmt Target Catch Declaration Function TemplateItem). ReadsPart (roll-TemplateItem z)) e (case_template y)

pub stmt_reads : (x : Stmt) → ReadsStmt x
stmt_reads = ind-Stmt ReadsArrow ReadsOperand ReadsFor ReadsProperty ReadsStmt ReadsTarget ReadsCatch ReadsDeclaration ReadsFunction ReadsPart step_arrow_body step_expr step_for step_property step_stmt step_target step_catch step_declaration step_function step_template

pub property_reads : (x : Property) → ReadsProperty x
property_reads = ind-Property ReadsArrow ReadsOperand ReadsFor ReadsProperty ReadsStmt ReadsTarget ReadsCatch ReadsDeclaration ReadsFunction ReadsPart step_arrow_body step_expr step_for step_property step_stmt step_target step_catch step_declaration step_function step_template

-- what is in the grammar is read
pub complete : (tree : List Item) (ps : List Piece) → IsTrue (tree_fits tree) → Fits (of_tree tree) ps → IsRead tree ps
complete tree ps f fit = complete_by (record { stmts = stmt_reads; properties = property_reads }) tree ps f fit
