-- A tree at other places: at any places, in the order of its forms, there is one that is like it.
use Rattle.std.proofs.Common.{◌≡◌, subst}
use Rattle.js_tree.specs.declared.tree.ArrowBody.TheOpen.{ArrowBody-F, Expr-F, ForBegin-F, Property-F, Stmt-F, Target-F, Catch-F, Declaration-F, Function-F, TemplateItem-F}
use Rattle.js_tree.specs.declared.tree.ArrowBody.TheFolds.{ind-Stmt, ind-Property}
use Rattle.js_tree.specs.declared.tree.ArrowBody.{ArrowBody, roll-ArrowBody}
use Rattle.js_tree.specs.declared.tree.Expr.{Expr, roll-Expr}
use Rattle.js_tree.specs.declared.tree.ForBegin.{ForBegin, roll-ForBegin}
use Rattle.js_tree.specs.declared.tree.Property.{Property, roll-Property}
use Rattle.js_tree.specs.declared.tree.Stmt.{Stmt, roll-Stmt}
use Rattle.js_tree.specs.declared.tree.Target.{Target, roll-Target}
use Rattle.js_tree.specs.declared.tree.Catch.{Catch, roll-Catch}
use Rattle.js_tree.specs.declared.tree.Declaration.{Declaration, roll-Declaration}
use Rattle.js_tree.specs.declared.tree.Function.{Function, roll-Function}
use Rattle.js_tree.specs.declared.tree.TemplateItem.{TemplateItem, roll-TemplateItem}
use Rattle.js_print.proofs.Moved.{MovesArrow, EachArrow, MovesExpr, EachExpr, MovesFor, EachFor, MovesProperty, EachProperty, MovesStmt, EachStmt, MovesTarget, EachTarget, MovesCatch, EachCatch, MovesDeclaration, EachDeclaration, MovesFunction, EachFunction, MovesTemplate, EachTemplate, tree_of_arrow_body, roll_arrow_body, tree_of_expr, roll_expr, tree_of_for, roll_for, tree_of_property, roll_property, tree_of_stmt, roll_stmt, tree_of_target, roll_target, tree_of_catch, roll_catch, tree_of_declaration, roll_declaration, tree_of_function, roll_function, tree_of_template, roll_template}
use Rattle.js_print.proofs.MovedValues.{case_arrow_body, case_expr, case_for, case_property, case_target}
use Rattle.js_print.proofs.MovedStatements.{case_declaration, case_catch, case_function, case_template, case_stmt}

step_arrow_body : (x : ArrowBody-F ArrowBody Expr ForBegin Property Stmt Target Catch Declaration Function TemplateItem) (y : ArrowBody-F EachArrow EachExpr EachFor EachProperty EachStmt EachTarget EachCatch EachDeclaration EachFunction EachTemplate) → tree_of_arrow_body y ≡ x → MovesArrow (roll-ArrowBody x)
step_arrow_body x y e = subst (λ (z : ArrowBody-F ArrowBody Expr ForBegin Property Stmt Target Catch Declaration Function TemplateItem). MovesArrow (roll-ArrowBody z)) e (λ qs. roll_arrow_body y qs (case_arrow_body y qs))

step_expr : (x : Expr-F ArrowBody Expr ForBegin Property Stmt Target Catch Declaration Function TemplateItem) (y : Expr-F EachArrow EachExpr EachFor EachProperty EachStmt EachTarget EachCatch EachDeclaration EachFunction EachTemplate) → tree_of_expr y ≡ x → MovesExpr (roll-Expr x)
step_expr x y e = subst (λ (z : Expr-F ArrowBody Expr ForBegin Property Stmt Target Catch Declaration Function TemplateItem). MovesExpr (roll-Expr z)) e (λ qs. roll_expr y qs (case_expr y qs))

step_for : (x : ForBegin-F ArrowBody Expr ForBegin Property Stmt Target Catch Declaration Function TemplateItem) (y : ForBegin-F EachArrow EachExpr EachFor EachProperty EachStmt EachTarget EachCatch EachDeclaration EachFunction EachTemplate) → tree_of_for y ≡ x → MovesFor (roll-ForBegin x)
step_for x y e = subst (λ (z : ForBegin-F ArrowBody Expr ForBegin Property Stmt Target Catch Declaration Function TemplateItem). MovesFor (roll-ForBegin z)) e (λ qs. roll_for y qs (case_for y qs))

step_property : (x : Property-F ArrowBody Expr ForBegin Property Stmt Target Catch Declaration Function TemplateItem) (y : Property-F EachArrow EachExpr EachFor EachProperty EachStmt EachTarget EachCatch EachDeclaration EachFunction EachTemplate) → tree_of_property y ≡ x → MovesProperty (roll-Property x)
step_property x y e = subst (λ (z : Property-F ArrowBody Expr ForBegin Property Stmt Target Catch Declaration Function TemplateItem). MovesProperty (roll-Property z)) e (λ qs. roll_property y qs (case_property y qs))

step_stmt : (x : Stmt-F ArrowBody Expr ForBegin Property Stmt Target Catch Declaration Function TemplateItem) (y : Stmt-F EachArrow EachExpr EachFor EachProperty EachStmt EachTarget EachCatch EachDeclaration EachFunction EachTemplate) → tree_of_stmt y ≡ x → MovesStmt (roll-Stmt x)
step_stmt x y e = subst (λ (z : Stmt-F ArrowBody Expr ForBegin Property Stmt Target Catch Declaration Function TemplateItem). MovesStmt (roll-Stmt z)) e (λ qs. roll_stmt y qs (case_stmt y qs))

step_target : (x : Target-F ArrowBody Expr ForBegin Property Stmt Target Catch Declaration Function TemplateItem) (y : Target-F EachArrow EachExpr EachFor EachProperty EachStmt EachTarget EachCatch EachDeclaration EachFunction EachTemplate) → tree_of_target y ≡ x → MovesTarget (roll-Target x)
step_target x y e = subst (λ (z : Target-F ArrowBody Expr ForBegin Property Stmt Target Catch Declaration Function TemplateItem). MovesTarget (roll-Target z)) e (λ qs. roll_target y qs (case_target y qs))

step_catch : (x : Catch-F ArrowBody Expr ForBegin Property Stmt Target Catch Declaration Function TemplateItem) (y : Catch-F EachArrow EachExpr EachFor EachProperty EachStmt EachTarget EachCatch EachDeclaration EachFunction EachTemplate) → tree_of_catch y ≡ x → MovesCatch (roll-Catch x)
step_catch x y e = subst (λ (z : Catch-F ArrowBody Expr ForBegin Property Stmt Target Catch Declaration Function TemplateItem). MovesCatch (roll-Catch z)) e (λ qs. roll_catch y qs (case_catch y qs))

step_declaration : (x : Declaration-F ArrowBody Expr ForBegin Property Stmt Target Catch Declaration Function TemplateItem) (y : Declaration-F EachArrow EachExpr EachFor EachProperty EachStmt EachTarget EachCatch EachDeclaration EachFunction EachTemplate) → tree_of_declaration y ≡ x → MovesDeclaration (roll-Declaration x)
step_declaration x y e = subst (λ (z : Declaration-F ArrowBody Expr ForBegin Property Stmt Target Catch Declaration Function TemplateItem). MovesDeclaration (roll-Declaration z)) e (λ qs. roll_declaration y qs (case_declaration y qs))

step_function : (x : Function-F ArrowBody Expr ForBegin Property Stmt Target Catch Declaration Function TemplateItem) (y : Function-F EachArrow EachExpr EachFor EachProperty EachStmt EachTarget EachCatch EachDeclaration EachFunction EachTemplate) → tree_of_function y ≡ x → MovesFunction (roll-Function x)
step_function x y e = subst (λ (z : Function-F ArrowBody Expr ForBegin Property Stmt Target Catch Declaration Function TemplateItem). MovesFunction (roll-Function z)) e (λ qs. roll_function y qs (case_function y qs))

step_template : (x : TemplateItem-F ArrowBody Expr ForBegin Property Stmt Target Catch Declaration Function TemplateItem) (y : TemplateItem-F EachArrow EachExpr EachFor EachProperty EachStmt EachTarget EachCatch EachDeclaration EachFunction EachTemplate) → tree_of_template y ≡ x → MovesTemplate (roll-TemplateItem x)
step_template x y e = subst (λ (z : TemplateItem-F ArrowBody Expr ForBegin Property Stmt Target Catch Declaration Function TemplateItem). MovesTemplate (roll-TemplateItem z)) e (λ qs. roll_template y qs (case_template y qs))

pub moves_property : (x : Property) → MovesProperty x
moves_property = ind-Property MovesArrow MovesExpr MovesFor MovesProperty MovesStmt MovesTarget MovesCatch MovesDeclaration MovesFunction MovesTemplate step_arrow_body step_expr step_for step_property step_stmt step_target step_catch step_declaration step_function step_template

pub moves_stmt : (x : Stmt) → MovesStmt x
moves_stmt = ind-Stmt MovesArrow MovesExpr MovesFor MovesProperty MovesStmt MovesTarget MovesCatch MovesDeclaration MovesFunction MovesTemplate step_arrow_body step_expr step_for step_property step_stmt step_target step_catch step_declaration step_function step_template
