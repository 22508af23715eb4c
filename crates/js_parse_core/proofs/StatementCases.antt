-- Each layer of a statement is read where its parts are.
use Rattle.std.proofs.Common.{◌≡◌, Option, Some, None, sym, subst}
use Rattle.js_tree.specs.declared.tree.Name.{Name}
use Rattle.js_tree.specs.declared.tree.ArrowBody.TheOpen.{ForBegin-F, Property-F, Stmt-F, Catch-F, Declaration-F, Function-F}
use Rattle.js_tree.specs.declared.tree.ArrowBody.TheFolds.{map-ForBegin, map-Property, map-Stmt, map-Catch, map-Declaration, map-Function}
use Rattle.js_tree.specs.declared.tree.ArrowBody.{ArrowBody}
use Rattle.js_tree.specs.declared.tree.Expr.{Expr}
use Rattle.js_tree.specs.declared.tree.ForBegin.{ForBegin, roll-ForBegin}
use Rattle.js_tree.specs.declared.tree.Property.{Property, roll-Property}
use Rattle.js_tree.specs.declared.tree.Stmt.{Stmt, roll-Stmt}
use Rattle.js_tree.specs.declared.tree.Target.{Target}
use Rattle.js_tree.specs.declared.tree.Catch.{Catch, roll-Catch}
use Rattle.js_tree.specs.declared.tree.Declaration.{Declaration, roll-Declaration}
use Rattle.js_tree.specs.declared.tree.Function.{Function, roll-Function}
use Rattle.js_tree.specs.declared.tree.TemplateItem.{TemplateItem}
use Rattle.js_tree.specs.declared.tree.ForBegin.TheVariants as for_begin
use Rattle.js_tree.specs.declared.tree.Property.TheVariants as property
use Rattle.js_tree.specs.declared.tree.Stmt.TheVariants as stmt
use Rattle.js_parse_core.proofs.Readings.{ReadsValue, ReadsFunction}
use Rattle.js_parse_core.proofs.Operands.{ReadsOperand}
use Rattle.js_parse_core.proofs.Chains.{value_of}
use Rattle.js_parse_core.proofs.Operators.{ReadsTarget}
use Rattle.js_parse_core.proofs.Arrows.{ReadsArrow}
use Rattle.js_parse_core.proofs.ReadsStatements.{ReadsStmt, ReadsProperty, ReadsCatch, ReadsDeclaration, ReadsFor}
use Rattle.js_parse_core.proofs.StatementLists.{EachStmt, stmts_of, EachProperty, function_read}
use Rattle.js_parse_core.proofs.PlainStatements.{EachCatch, reads_break, reads_continue, reads_empty, reads_block, reads_bare_catch, reads_catch, reads_try}
use Rattle.js_parse_core.proofs.ValueStatements.{reads_while, reads_if, reads_if_else, reads_for, for_nothing, for_start, reads_for_of, reads_bare_return, reads_return, reads_throw, reads_expr}
use Rattle.js_parse_core.proofs.Declarations.{EachDeclaration, declarations_of, reads_bare_declaration, reads_declaration, reads_declare, for_declarations, reads_declare_function}
use Rattle.js_parse_core.proofs.Properties.{reads_pair, reads_short, reads_method}
use Rattle.js_parse_core.proofs.OneLines.{one_line}

abbrev pub ReadsPart : TemplateItem → Type 0
ReadsPart i = ReadsOperand i.value

abbrev pub EachArrow : Type 0
EachArrow = (x : ArrowBody) × ReadsArrow x

abbrev pub EachExpr : Type 0
EachExpr = (x : Expr) × ReadsOperand x

abbrev pub EachFor : Type 0
EachFor = (x : ForBegin) × ReadsFor x

abbrev pub EachTarget : Type 0
EachTarget = (x : Target) × ReadsTarget x

abbrev pub EachFunction : Type 0
EachFunction = (x : Function) × ReadsFunction x

abbrev pub EachTemplate : Type 0
EachTemplate = (x : TemplateItem) × ReadsPart x

abbrev pub tree_of_for : ForBegin-F EachArrow EachExpr EachFor EachProperty EachStmt EachTarget EachCatch EachDeclaration EachFunction EachTemplate → ForBegin-F ArrowBody Expr ForBegin Property Stmt Target Catch Declaration Function TemplateItem
tree_of_for y = map-ForBegin EachArrow EachExpr EachFor EachProperty EachStmt EachTarget EachCatch EachDeclaration EachFunction EachTemplate ArrowBody Expr ForBegin Property Stmt Target Catch Declaration Function TemplateItem (λ e. e.0) (λ e. e.0) (λ e. e.0) (λ e. e.0) (λ e. e.0) (λ e. e.0) (λ e. e.0) (λ e. e.0) (λ e. e.0) (λ e. e.0) y

abbrev pub tree_of_property : Property-F EachArrow EachExpr EachFor EachProperty EachStmt EachTarget EachCatch EachDeclaration EachFunction EachTemplate → Property-F ArrowBody Expr ForBegin Property Stmt Target Catch Declaration Function TemplateItem
tree_of_property y = map-Property EachArrow EachExpr EachFor EachProperty EachStmt EachTarget EachCatch EachDeclaration EachFunction EachTemplate ArrowBody Expr ForBegin Property Stmt Target Catch Declaration Function TemplateItem (λ e. e.0) (λ e. e.0) (λ e. e.0) (λ e. e.0) (λ e. e.0) (λ e. e.0) (λ e. e.0) (λ e. e.0) (λ e. e.0) (λ e. e.0) y

abbrev pub tree_of_stmt : Stmt-F EachArrow EachExpr EachFor EachProperty EachStmt EachTarget EachCatch EachDeclaration EachFunction EachTemplate → Stmt-F ArrowBody Expr ForBegin Property Stmt Target Catch Declaration Function TemplateItem
tree_of_stmt y = map-Stmt EachArrow EachExpr EachFor EachProperty EachStmt EachTarget EachCatch EachDeclaration EachFunction EachTemplate ArrowBody Expr ForBegin Property Stmt Target Catch Declaration Function TemplateItem (λ e. e.0) (λ e. e.0) (λ e. e.0) (λ e. e.0) (λ e. e.0) (λ e. e.0) (λ e. e.0) (λ e. e.0) (λ e. e.0) (λ e. e.0) y

abbrev pub tree_of_catch : Catch-F EachArrow EachExpr EachFor EachProperty EachStmt EachTarget EachCatch EachDeclaration EachFunction EachTemplate → Catch-F ArrowBody Expr ForBegin Property Stmt Target Catch Declaration Function TemplateItem
tree_of_catch y = map-Catch EachArrow EachExpr EachFor EachProperty EachStmt EachTarget EachCatch EachDeclaration EachFunction EachTemplate ArrowBody Expr ForBegin Property Stmt Target Catch Declaration Function TemplateItem (λ e. e.0) (λ e. e.0) (λ e. e.0) (λ e. e.0) (λ e. e.0) (λ e. e.0) (λ e. e.0) (λ e. e.0) (λ e. e.0) (λ e. e.0) y

abbrev pub tree_of_declaration : Declaration-F EachArrow EachExpr EachFor EachProperty EachStmt EachTarget EachCatch EachDeclaration EachFunction EachTemplate → Declaration-F ArrowBody Expr ForBegin Property Stmt Target Catch Declaration Function TemplateItem
tree_of_declaration y = map-Declaration EachArrow EachExpr EachFor EachProperty EachStmt EachTarget EachCatch EachDeclaration EachFunction EachTemplate ArrowBody Expr ForBegin Property Stmt Target Catch Declaration Function TemplateItem (λ e. e.0) (λ e. e.0) (λ e. e.0) (λ e. e.0) (λ e. e.0) (λ e. e.0) (λ e. e.0) (λ e. e.0) (λ e. e.0) (λ e. e.0) y

abbrev pub tree_of_function : Function-F EachArrow EachExpr EachFor EachProperty EachStmt EachTarget EachCatch EachDeclaration EachFunction EachTemplate → Function-F ArrowBody Expr ForBegin Property Stmt Target Catch Declaration Function TemplateItem
tree_of_function y = map-Function EachArrow EachExpr EachFor EachProperty EachStmt EachTarget EachCatch EachDeclaration EachFunction EachTemplate ArrowBody Expr ForBegin Property Stmt Target Catch Declaration Function TemplateItem (λ e. e.0) (λ e. e.0) (λ e. e.0) (λ e. e.0) (λ e. e.0) (λ e. e.0) (λ e. e.0) (λ e. e.0) (λ e. e.0) (λ e. e.0) y

read : (x : EachExpr) → ReadsValue x.0
read x = value_of x.0 x.1

case_for : (y : ForBegin-F EachArrow EachExpr EachFor EachProperty EachStmt EachTarget EachCatch EachDeclaration EachFunction EachTemplate) → ReadsFor (roll-ForBegin (tree_of_for y))
case_for ForBegin-F.Nothing = subst ReadsFor (sym for_begin.rolls-Nothing) for_nothing
case_for (ForBegin-F.Declarations k ys) = subst ReadsFor (sym (for_begin.rolls-Declarations k (declarations_of ys))) (for_declarations k ys)
case_for (ForBegin-F.Start x) = subst ReadsFor (sym (for_begin.rolls-Start x.0)) (for_start x.0 (read x))

case_property : (y : Property-F EachArrow EachExpr EachFor EachProperty EachStmt EachTarget EachCatch EachDeclaration EachFunction EachTemplate) → ReadsProperty (roll-Property (tree_of_property y))
case_property (Property-F.Pair k x) = subst ReadsProperty (sym (property.rolls-Pair k x.0)) (reads_pair k x.0 (read x))
case_property (Property-F.Short n) = subst ReadsProperty (sym (property.rolls-Short n)) (reads_short n)
case_property (Property-F.Method k f) = subst ReadsProperty (sym (property.rolls-Method k f.0)) (reads_method k f.0 f.1)

case_stmt : (y : Stmt-F EachArrow EachExpr EachFor EachProperty EachStmt EachTarget EachCatch EachDeclaration EachFunction EachTemplate) → ReadsStmt (roll-Stmt (tree_of_stmt y))
case_stmt (Stmt-F.Declare k ys) = subst ReadsStmt (sym (stmt.rolls-Declare k (declarations_of ys))) (reads_declare k ys)
case_stmt (Stmt-F.DeclareFunction n f) = subst ReadsStmt (sym (stmt.rolls-DeclareFunction n f.0)) (reads_declare_function n f.0 f.1)
case_stmt (Stmt-F.Block ys) = subst ReadsStmt (sym (stmt.rolls-Block (stmts_of ys))) (reads_block ys)
case_stmt (Stmt-F.If test s None) = subst ReadsStmt (sym (stmt.rolls-If test.0 s.0 None)) (reads_if test.0 s.0 (read test) s.1)
case_stmt (Stmt-F.If test s (Some t)) = subst ReadsStmt (sym (stmt.rolls-If test.0 s.0 (Some t.0))) (reads_if_else test.0 s.0 t.0 (read test) s.1 t.1)
case_stmt (Stmt-F.For b None None s) = subst ReadsStmt (sym (stmt.rolls-For b.0 None None s.0)) (reads_for b.0 None None s.0 b.1 tt tt s.1)
case_stmt (Stmt-F.For b None (Some update) s) = subst ReadsStmt (sym (stmt.rolls-For b.0 None (Some update.0) s.0)) (reads_for b.0 None (Some update.0) s.0 b.1 tt (read update) s.1)
case_stmt (Stmt-F.For b (Some test) None s) = subst ReadsStmt (sym (stmt.rolls-For b.0 (Some test.0) None s.0)) (reads_for b.0 (Some test.0) None s.0 b.1 (read test) tt s.1)
case_stmt (Stmt-F.For b (Some test) (Some update) s) = subst ReadsStmt (sym (stmt.rolls-For b.0 (Some test.0) (Some update.0) s.0)) (reads_for b.0 (Some test.0) (Some update.0) s.0 b.1 (read test) (read update) s.1)
case_stmt (Stmt-F.ForOf k n x s) = subst ReadsStmt (sym (stmt.rolls-ForOf k n x.0 s.0)) (reads_for_of k n x.0 s.0 (read x) s.1)
case_stmt (Stmt-F.While test s) = subst ReadsStmt (sym (stmt.rolls-While test.0 s.0)) (reads_while test.0 s.0 (read test) s.1)
case_stmt (Stmt-F.Break q) = subst ReadsStmt (sym (stmt.rolls-Break q)) (reads_break q)
case_stmt (Stmt-F.Continue q) = subst ReadsStmt (sym (stmt.rolls-Continue q)) (reads_continue q)
case_stmt (Stmt-F.Return q None) = subst ReadsStmt (sym (stmt.rolls-Return q None)) (reads_bare_return q)
case_stmt (Stmt-F.Return q (Some x)) = subst ReadsStmt (sym (stmt.rolls-Return q (Some x.0))) (reads_return q x.0 (read x) (one_line x.0))
case_stmt (Stmt-F.Throw x) = subst ReadsStmt (sym (stmt.rolls-Throw x.0)) (reads_throw x.0 (read x) (one_line x.0))
case_stmt (Stmt-F.Try ys None None) = subst ReadsStmt (sym (stmt.rolls-Try (stmts_of ys) None None)) (reads_try ys None None)
case_stmt (Stmt-F.Try ys None (Some f)) = subst ReadsStmt (sym (stmt.rolls-Try (stmts_of ys) None (Some (stmts_of f)))) (reads_try ys None (Some f))
case_stmt (Stmt-F.Try ys (Some c) None) = subst ReadsStmt (sym (stmt.rolls-Try (stmts_of ys) (Some c.0) None)) (reads_try ys (Some c) None)
case_stmt (Stmt-F.Try ys (Some c) (Some f)) = subst ReadsStmt (sym (stmt.rolls-Try (stmts_of ys) (Some c.0) (Some (stmts_of f)))) (reads_try ys (Some c) (Some f))
case_stmt Stmt-F.Empty = subst ReadsStmt (sym stmt.rolls-Empty) reads_empty
case_stmt (Stmt-F.Expr x) = subst ReadsStmt (sym (stmt.rolls-Expr x.0)) (reads_expr x.0 (read x))

case_catch : (y : Catch-F EachArrow EachExpr EachFor EachProperty EachStmt EachTarget EachCatch EachDeclaration EachFunction EachTemplate) → ReadsCatch (roll-Catch (tree_of_catch y))
case_catch y = by_name y.name
  where
    by_name : (o : Option Name) → ReadsCatch (roll-Catch (record { name = o; body = stmts_of y.body }))
    by_name None = reads_bare_catch y.body
    by_name (Some n) = reads_catch n y.body

case_declaration : (y : Declaration-F EachArrow EachExpr EachFor EachProperty EachStmt EachTarget EachCatch EachDeclaration EachFunction EachTemplate) → ReadsDeclaration (roll-Declaration (tree_of_declaration y))
case_declaration y = by_value y.value
  where
    by_value : (o : Option EachExpr) → ReadsDeclaration (roll-Declaration (tree_of_declaration (record { name = y.name; value = o })))
    by_value None = reads_bare_declaration y.name
    by_value (Some x) = reads_declaration y.name x.0 (read x)

case_function : (y : Function-F EachArrow EachExpr EachFor EachProperty EachStmt EachTarget EachCatch EachDeclaration EachFunction EachTemplate) → ReadsFunction (roll-Function (tree_of_function y))
case_function y = function_read y.is_async y.parameters y.body

-- ---- steps of the induction

pub step_for : (x : ForBegin-F ArrowBody Expr ForBegin Property Stmt Target Catch Declaration Function TemplateItem) (y : ForBegin-F EachArrow EachExpr EachFor EachProperty EachStmt EachTarget EachCatch EachDeclaration EachFunction EachTemplate) → tree_of_for y ≡ x → ReadsFor (roll-ForBegin x)
step_for x y e = subst (λ (z : ForBegin-F ArrowBody Expr ForBegin Property Stmt Target Catch Declaration Function TemplateItem). ReadsFor (roll-ForBegin z)) e (case_for y)

pub step_property : (x : Property-F ArrowBody Expr ForBegin Property Stmt Target Catch Declaration Function TemplateItem) (y : Property-F EachArrow EachExpr EachFor EachProperty EachStmt EachTarget EachCatch EachDeclaration EachFunction EachTemplate) → tree_of_property y ≡ x → ReadsProperty (roll-Property x)
step_property x y e = subst (λ (z : Property-F ArrowBody Expr ForBegin Property Stmt Target Catch Declaration Function TemplateItem). ReadsProperty (roll-Property z)) e (case_property y)

pub step_stmt : (x : Stmt-F ArrowBody Expr ForBegin Property Stmt Target Catch Declaration Function TemplateItem) (y : Stmt-F EachArrow EachExpr EachFor EachProperty EachStmt EachTarget EachCatch EachDeclaration EachFunction EachTemplate) → tree_of_stmt y ≡ x → ReadsStmt (roll-Stmt x)
step_stmt x y e = subst (λ (z : Stmt-F ArrowBody Expr ForBegin Property Stmt Target Catch Declaration Function TemplateItem). ReadsStmt (roll-Stmt z)) e (case_stmt y)

pub step_catch : (x : Catch-F ArrowBody Expr ForBegin Property Stmt Target Catch Declaration Function TemplateItem) (y : Catch-F EachArrow EachExpr EachFor EachProperty EachStmt EachTarget EachCatch EachDeclaration EachFunction EachTemplate) → tree_of_catch y ≡ x → ReadsCatch (roll-Catch x)
step_catch x y e = subst (λ (z : Catch-F ArrowBody Expr ForBegin Property Stmt Target Catch Declaration Function TemplateItem). ReadsCatch (roll-Catch z)) e (case_catch y)

pub step_declaration : (x : Declaration-F ArrowBody Expr ForBegin Property Stmt Target Catch Declaration Function TemplateItem) (y : Declaration-F EachArrow EachExpr EachFor EachProperty EachStmt EachTarget EachCatch EachDeclaration EachFunction EachTemplate) → tree_of_declaration y ≡ x → ReadsDeclaration (roll-Declaration x)
step_declaration x y e = subst (λ (z : Declaration-F ArrowBody Expr ForBegin Property Stmt Target Catch Declaration Function TemplateItem). ReadsDeclaration (roll-Declaration z)) e (case_declaration y)

pub step_function : (x : Function-F ArrowBody Expr ForBegin Property Stmt Target Catch Declaration Function TemplateItem) (y : Function-F EachArrow EachExpr EachFor EachProperty EachStmt EachTarget EachCatch EachDeclaration EachFunction EachTemplate) → tree_of_function y ≡ x → ReadsFunction (roll-Function x)
step_function x y e = subst (λ (z : Function-F ArrowBody Expr ForBegin Property Stmt Target Catch Declaration Function TemplateItem). ReadsFunction (roll-Function z)) e (case_function y)
