-- A tree at other places: what is claimed of each node, and of its layer where it is so of the parts.
use Rattle.std.proofs.Common.{◌≡◌, ℕ, Bool, true, false, List, refl, sym, ap, ◌∙◌, subst}
use Rattle.js_tree.specs.declared.tree.ArrowBody.TheOpen.{ArrowBody-F, Expr-F, ForBegin-F, Property-F, Stmt-F, Target-F, Catch-F, Declaration-F, Function-F, TemplateItem-F}
use Rattle.js_tree.specs.declared.tree.ArrowBody.TheFolds.{map-ArrowBody, map-Expr, map-ForBegin, map-Property, map-Stmt, map-Target, map-Catch, map-Declaration, map-Function, map-TemplateItem, fold-roll-ArrowBody, fold-roll-Expr, fold-roll-ForBegin, fold-roll-Property, fold-roll-Stmt, fold-roll-Target, fold-roll-Catch, fold-roll-Declaration, fold-roll-Function, fold-roll-TemplateItem}
use Rattle.js_tree.specs.declared.tree.ArrowBody.{ArrowBody, roll-ArrowBody}
use Rattle.js_tree.specs.declared.tree.Expr.{Expr, roll-Expr}
use Rattle.js_tree.specs.declared.tree.ForBegin.{ForBegin, roll-ForBegin}
use Rattle.js_tree.specs.declared.tree.Property.{Property, roll-Property}
use Rattle.js_tree.specs.declared.tree.Stmt.{Stmt, roll-Stmt, out-roll-Stmt}
use Rattle.js_tree.specs.declared.tree.Target.{Target, roll-Target}
use Rattle.js_tree.specs.declared.tree.Catch.{Catch, roll-Catch}
use Rattle.js_tree.specs.declared.tree.Declaration.{Declaration, roll-Declaration}
use Rattle.js_tree.specs.declared.tree.Function.{Function, roll-Function}
use Rattle.js_tree.specs.declared.tree.TemplateItem.{TemplateItem, roll-TemplateItem}
use Rattle.js_grammar.specs.Marks.{Form}
use Rattle.js_grammar.specs.Grammar.{Written, WrittenStmt, WrittenFunction, WrittenPart, StmtNode, is_empty, arrow_body_step, expr_step, for_step, property_step, stmt_step, target_step, catch_step, declaration_step, function_step, template_step, of_arrow_body, of_expr, of_for, of_property, of_stmt, of_target, of_catch, of_declaration, of_function, of_template}
use Rattle.js_grammar.specs.Shapes.{Shape, StmtShape, DeclaredShape, joining, accessing, shaped, at_least, primary, updating, all_true, all_fit, all_statements_fit, Brace, FunctionWord, OtherFirst, operand_level, prefix_level, declarations_fit, item_only, loop, branching, value_fits, catch_fits, finally_fits, handles, is_other}
use Rattle.js_grammar.specs.Shapes as shape
use Rattle.js_print.specs.Same as like
use Rattle.js_print.specs.Same.{unplaced_name, unplaced_key}
use Rattle.js_print.proofs.Filled.{Fills, FilledWritten, FilledStmt, FilledFunction}

pub record FilledPart (qs : List ℕ) (w v : WrittenPart) : Type 0 where
  pub value : Fills qs w.value v.value
  pub units : v.units ≡ w.units

-- ---- what is claimed of each node

pub record MovedArrow (x : ArrowBody) (qs : List ℕ) : Type 0 where
  pub again : ArrowBody
  pub like : like.of_arrow_body again ≡ like.of_arrow_body x
  pub shape : shape.of_arrow_body again ≡ shape.of_arrow_body x
  pub filled : Fills qs (of_arrow_body x) (of_arrow_body again)

abbrev pub MovesArrow : ArrowBody → Type 0
MovesArrow x = (qs : List ℕ) → MovedArrow x qs

abbrev pub EachArrow : Type 0
EachArrow = (x : ArrowBody) × MovesArrow x

pub record MovedExpr (x : Expr) (qs : List ℕ) : Type 0 where
  pub again : Expr
  pub like : like.of_expr again ≡ like.of_expr x
  pub shape : shape.of_expr again ≡ shape.of_expr x
  pub filled : FilledWritten qs (of_expr x) (of_expr again)

abbrev pub MovesExpr : Expr → Type 0
MovesExpr x = (qs : List ℕ) → MovedExpr x qs

abbrev pub EachExpr : Type 0
EachExpr = (x : Expr) × MovesExpr x

pub record MovedFor (x : ForBegin) (qs : List ℕ) : Type 0 where
  pub again : ForBegin
  pub like : like.of_for again ≡ like.of_for x
  pub shape : shape.of_for again ≡ shape.of_for x
  pub filled : Fills qs (of_for x) (of_for again)

abbrev pub MovesFor : ForBegin → Type 0
MovesFor x = (qs : List ℕ) → MovedFor x qs

abbrev pub EachFor : Type 0
EachFor = (x : ForBegin) × MovesFor x

pub record MovedProperty (x : Property) (qs : List ℕ) : Type 0 where
  pub again : Property
  pub like : like.of_property again ≡ like.of_property x
  pub shape : shape.of_property again ≡ shape.of_property x
  pub filled : Fills qs (of_property x) (of_property again)

abbrev pub MovesProperty : Property → Type 0
MovesProperty x = (qs : List ℕ) → MovedProperty x qs

abbrev pub EachProperty : Type 0
EachProperty = (x : Property) × MovesProperty x

pub record MovedStmt (x : Stmt) (qs : List ℕ) : Type 0 where
  pub again : Stmt
  pub like : like.of_stmt again ≡ like.of_stmt x
  pub shape : shape.of_stmt again ≡ shape.of_stmt x
  pub filled : FilledStmt qs (of_stmt x) (of_stmt again)
  pub empty : is_empty again ≡ is_empty x

abbrev pub MovesStmt : Stmt → Type 0
MovesStmt x = (qs : List ℕ) → MovedStmt x qs

abbrev pub EachStmt : Type 0
EachStmt = (x : Stmt) × MovesStmt x

pub record MovedTarget (x : Target) (qs : List ℕ) : Type 0 where
  pub again : Target
  pub like : like.of_target again ≡ like.of_target x
  pub shape : shape.of_target again ≡ shape.of_target x
  pub filled : FilledWritten qs (of_target x) (of_target again)

abbrev pub MovesTarget : Target → Type 0
MovesTarget x = (qs : List ℕ) → MovedTarget x qs

abbrev pub EachTarget : Type 0
EachTarget = (x : Target) × MovesTarget x

pub record MovedCatch (x : Catch) (qs : List ℕ) : Type 0 where
  pub again : Catch
  pub like : like.of_catch again ≡ like.of_catch x
  pub shape : shape.of_catch again ≡ shape.of_catch x
  pub filled : Fills qs (of_catch x) (of_catch again)

abbrev pub MovesCatch : Catch → Type 0
MovesCatch x = (qs : List ℕ) → MovedCatch x qs

abbrev pub EachCatch : Type 0
EachCatch = (x : Catch) × MovesCatch x

pub record MovedDeclaration (x : Declaration) (qs : List ℕ) : Type 0 where
  pub again : Declaration
  pub like : like.of_declaration again ≡ like.of_declaration x
  pub shape : shape.of_declaration again ≡ shape.of_declaration x
  pub filled : Fills qs (of_declaration x) (of_declaration again)

abbrev pub MovesDeclaration : Declaration → Type 0
MovesDeclaration x = (qs : List ℕ) → MovedDeclaration x qs

abbrev pub EachDeclaration : Type 0
EachDeclaration = (x : Declaration) × MovesDeclaration x

pub record MovedFunction (x : Function) (qs : List ℕ) : Type 0 where
  pub again : Function
  pub like : like.of_function again ≡ like.of_function x
  pub shape : shape.of_function again ≡ shape.of_function x
  pub filled : FilledFunction qs (of_function x) (of_function again)

abbrev pub MovesFunction : Function → Type 0
MovesFunction x = (qs : List ℕ) → MovedFunction x qs

abbrev pub EachFunction : Type 0
EachFunction = (x : Function) × MovesFunction x

pub record MovedTemplate (x : TemplateItem) (qs : List ℕ) : Type 0 where
  pub again : TemplateItem
  pub like : like.of_template again ≡ like.of_template x
  pub shape : shape.of_template again ≡ shape.of_template x
  pub filled : FilledPart qs (of_template x) (of_template again)

abbrev pub MovesTemplate : TemplateItem → Type 0
MovesTemplate x = (qs : List ℕ) → MovedTemplate x qs

abbrev pub EachTemplate : Type 0
EachTemplate = (x : TemplateItem) × MovesTemplate x

-- ---- the layers, with what is claimed of the parts

abbrev pub tree_of_arrow_body : ArrowBody-F EachArrow EachExpr EachFor EachProperty EachStmt EachTarget EachCatch EachDeclaration EachFunction EachTemplate → ArrowBody-F ArrowBody Expr ForBegin Property Stmt Target Catch Declaration Function TemplateItem
tree_of_arrow_body y = map-ArrowBody EachArrow EachExpr EachFor EachProperty EachStmt EachTarget EachCatch EachDeclaration EachFunction EachTemplate ArrowBody Expr ForBegin Property Stmt Target Catch Declaration Function TemplateItem (λ e. e.0) (λ e. e.0) (λ e. e.0) (λ e. e.0) (λ e. e.0) (λ e. e.0) (λ e. e.0) (λ e. e.0) (λ e. e.0) (λ e. e.0) y

abbrev pub node_arrow_body : ArrowBody-F ArrowBody Expr ForBegin Property Stmt Target Catch Declaration Function TemplateItem → (List Form)
node_arrow_body n = arrow_body_step (map-ArrowBody ArrowBody Expr ForBegin Property Stmt Target Catch Declaration Function TemplateItem (List Form) Written (List Form) (List Form) WrittenStmt Written (List Form) (List Form) WrittenFunction WrittenPart of_arrow_body of_expr of_for of_property of_stmt of_target of_catch of_declaration of_function of_template n)

abbrev pub like_arrow_body : ArrowBody-F ArrowBody Expr ForBegin Property Stmt Target Catch Declaration Function TemplateItem → ArrowBody
like_arrow_body n = roll-ArrowBody (map-ArrowBody ArrowBody Expr ForBegin Property Stmt Target Catch Declaration Function TemplateItem ArrowBody Expr ForBegin Property Stmt Target Catch Declaration Function TemplateItem like.of_arrow_body like.of_expr like.of_for like.of_property like.of_stmt like.of_target like.of_catch like.of_declaration like.of_function like.of_template n)

abbrev pub shape_arrow_body : ArrowBody-F ArrowBody Expr ForBegin Property Stmt Target Catch Declaration Function TemplateItem → Bool
shape_arrow_body n = shape.arrow_body_step (map-ArrowBody ArrowBody Expr ForBegin Property Stmt Target Catch Declaration Function TemplateItem Bool Shape Bool Bool StmtShape Shape Bool DeclaredShape Bool Bool shape.of_arrow_body shape.of_expr shape.of_for shape.of_property shape.of_stmt shape.of_target shape.of_catch shape.of_declaration shape.of_function shape.of_template n)

pub record LayerArrow (y : ArrowBody-F EachArrow EachExpr EachFor EachProperty EachStmt EachTarget EachCatch EachDeclaration EachFunction EachTemplate) (qs : List ℕ) : Type 0 where
  pub node : ArrowBody-F ArrowBody Expr ForBegin Property Stmt Target Catch Declaration Function TemplateItem
  pub like : like_arrow_body node ≡ like_arrow_body (tree_of_arrow_body y)
  pub shape : shape_arrow_body node ≡ shape_arrow_body (tree_of_arrow_body y)
  pub filled : Fills qs (node_arrow_body (tree_of_arrow_body y)) (node_arrow_body node)

pub roll_arrow_body : (y : ArrowBody-F EachArrow EachExpr EachFor EachProperty EachStmt EachTarget EachCatch EachDeclaration EachFunction EachTemplate) (qs : List ℕ) → LayerArrow y qs → MovedArrow (roll-ArrowBody (tree_of_arrow_body y)) qs
roll_arrow_body y qs l = record {
  again = roll-ArrowBody l.node;
  like = fold-roll-ArrowBody ArrowBody Expr ForBegin Property Stmt Target Catch Declaration Function TemplateItem roll-ArrowBody like.expr_step roll-ForBegin like.property_step like.stmt_step like.target_step like.catch_step like.declaration_step like.function_step roll-TemplateItem l.node ∙ l.like ∙ sym (fold-roll-ArrowBody ArrowBody Expr ForBegin Property Stmt Target Catch Declaration Function TemplateItem roll-ArrowBody like.expr_step roll-ForBegin like.property_step like.stmt_step like.target_step like.catch_step like.declaration_step like.function_step roll-TemplateItem (tree_of_arrow_body y));
  shape = fold-roll-ArrowBody Bool Shape Bool Bool StmtShape Shape Bool DeclaredShape Bool Bool shape.arrow_body_step shape.expr_step shape.for_step shape.property_step shape.stmt_step shape.target_step shape.catch_step shape.declaration_step shape.function_step shape.template_step l.node ∙ l.shape ∙ sym (fold-roll-ArrowBody Bool Shape Bool Bool StmtShape Shape Bool DeclaredShape Bool Bool shape.arrow_body_step shape.expr_step shape.for_step shape.property_step shape.stmt_step shape.target_step shape.catch_step shape.declaration_step shape.function_step shape.template_step (tree_of_arrow_body y));
  filled = subst (λ (z : (List Form)). Fills qs z (of_arrow_body (roll-ArrowBody l.node))) (sym (fold-roll-ArrowBody (List Form) Written (List Form) (List Form) WrittenStmt Written (List Form) (List Form) WrittenFunction WrittenPart arrow_body_step expr_step for_step property_step stmt_step target_step catch_step declaration_step function_step template_step (tree_of_arrow_body y)))
      (subst (λ (z : (List Form)). Fills qs (node_arrow_body (tree_of_arrow_body y)) z) (sym (fold-roll-ArrowBody (List Form) Written (List Form) (List Form) WrittenStmt Written (List Form) (List Form) WrittenFunction WrittenPart arrow_body_step expr_step for_step property_step stmt_step target_step catch_step declaration_step function_step template_step l.node)) l.filled);
}

abbrev pub tree_of_expr : Expr-F EachArrow EachExpr EachFor EachProperty EachStmt EachTarget EachCatch EachDeclaration EachFunction EachTemplate → Expr-F ArrowBody Expr ForBegin Property Stmt Target Catch Declaration Function TemplateItem
tree_of_expr y = map-Expr EachArrow EachExpr EachFor EachProperty EachStmt EachTarget EachCatch EachDeclaration EachFunction EachTemplate ArrowBody Expr ForBegin Property Stmt Target Catch Declaration Function TemplateItem (λ e. e.0) (λ e. e.0) (λ e. e.0) (λ e. e.0) (λ e. e.0) (λ e. e.0) (λ e. e.0) (λ e. e.0) (λ e. e.0) (λ e. e.0) y

abbrev pub node_expr : Expr-F ArrowBody Expr ForBegin Property Stmt Target Catch Declaration Function TemplateItem → Written
node_expr n = expr_step (map-Expr ArrowBody Expr ForBegin Property Stmt Target Catch Declaration Function TemplateItem (List Form) Written (List Form) (List Form) WrittenStmt Written (List Form) (List Form) WrittenFunction WrittenPart of_arrow_body of_expr of_for of_property of_stmt of_target of_catch of_declaration of_function of_template n)

abbrev pub like_expr : Expr-F ArrowBody Expr ForBegin Property Stmt Target Catch Declaration Function TemplateItem → Expr
like_expr n = like.expr_step (map-Expr ArrowBody Expr ForBegin Property Stmt Target Catch Declaration Function TemplateItem ArrowBody Expr ForBegin Property Stmt Target Catch Declaration Function TemplateItem like.of_arrow_body like.of_expr like.of_for like.of_property like.of_stmt like.of_target like.of_catch like.of_declaration like.of_function like.of_template n)

abbrev pub shape_expr : Expr-F ArrowBody Expr ForBegin Property Stmt Target Catch Declaration Function TemplateItem → Shape
shape_expr n = shape.expr_step (map-Expr ArrowBody Expr ForBegin Property Stmt Target Catch Declaration Function TemplateItem Bool Shape Bool Bool StmtShape Shape Bool DeclaredShape Bool Bool shape.of_arrow_body shape.of_expr shape.of_for shape.of_property shape.of_stmt shape.of_target shape.of_catch shape.of_declaration shape.of_function shape.of_template n)

pub record LayerExpr (y : Expr-F EachArrow EachExpr EachFor EachProperty EachStmt EachTarget EachCatch EachDeclaration EachFunction EachTemplate) (qs : List ℕ) : Type 0 where
  pub node : Expr-F ArrowBody Expr ForBegin Property Stmt Target Catch Declaration Function TemplateItem
  pub like : like_expr node ≡ like_expr (tree_of_expr y)
  pub shape : shape_expr node ≡ shape_expr (tree_of_expr y)
  pub filled : FilledWritten qs (node_expr (tree_of_expr y)) (node_expr node)

pub roll_expr : (y : Expr-F EachArrow EachExpr EachFor EachProperty EachStmt EachTarget EachCatch EachDeclaration EachFunction EachTemplate) (qs : List ℕ) → LayerExpr y qs → MovedExpr (roll-Expr (tree_of_expr y)) qs
roll_expr y qs l = record {
  again = roll-Expr l.node;
  like = fold-roll-Expr ArrowBody Expr ForBegin Property Stmt Target Catch Declaration Function TemplateItem roll-ArrowBody like.expr_step roll-ForBegin like.property_step like.stmt_step like.target_step like.catch_step like.declaration_step like.function_step roll-TemplateItem l.node ∙ l.like ∙ sym (fold-roll-Expr ArrowBody Expr ForBegin Property Stmt Target Catch Declaration Function TemplateItem roll-ArrowBody like.expr_step roll-ForBegin like.property_step like.stmt_step like.target_step like.catch_step like.declaration_step like.function_step roll-TemplateItem (tree_of_expr y));
  shape = fold-roll-Expr Bool Shape Bool Bool StmtShape Shape Bool DeclaredShape Bool Bool shape.arrow_body_step shape.expr_step shape.for_step shape.property_step shape.stmt_step shape.target_step shape.catch_step shape.declaration_step shape.function_step shape.template_step l.node ∙ l.shape ∙ sym (fold-roll-Expr Bool Shape Bool Bool StmtShape Shape Bool DeclaredShape Bool Bool shape.arrow_body_step shape.expr_step shape.for_step shape.property_step shape.stmt_step shape.target_step shape.catch_step shape.declaration_step shape.function_step shape.template_step (tree_of_expr y));
  filled = subst (λ (z : Written). FilledWritten qs z (of_expr (roll-Expr l.node))) (sym (fold-roll-Expr (List Form) Written (List Form) (List Form) WrittenStmt Written (List Form) (List Form) WrittenFunction WrittenPart arrow_body_step expr_step for_step property_step stmt_step target_step catch_step declaration_step function_step template_step (tree_of_expr y)))
      (subst (λ (z : Written). FilledWritten qs (node_expr (tree_of_expr y)) z) (sym (fold-roll-Expr (List Form) Written (List Form) (List Form) WrittenStmt Written (List Form) (List Form) WrittenFunction WrittenPart arrow_body_step expr_step for_step property_step stmt_step target_step catch_step declaration_step function_step template_step l.node)) l.filled);
}

abbrev pub tree_of_for : ForBegin-F EachArrow EachExpr EachFor EachProperty EachStmt EachTarget EachCatch EachDeclaration EachFunction EachTemplate → ForBegin-F ArrowBody Expr ForBegin Property Stmt Target Catch Declaration Function TemplateItem
tree_of_for y = map-ForBegin EachArrow EachExpr EachFor EachProperty EachStmt EachTarget EachCatch EachDeclaration EachFunction EachTemplate ArrowBody Expr ForBegin Property Stmt Target Catch Declaration Function TemplateItem (λ e. e.0) (λ e. e.0) (λ e. e.0) (λ e. e.0) (λ e. e.0) (λ e. e.0) (λ e. e.0) (λ e. e.0) (λ e. e.0) (λ e. e.0) y

abbrev pub node_for : ForBegin-F ArrowBody Expr ForBegin Property Stmt Target Catch Declaration Function TemplateItem → (List Form)
node_for n = for_step (map-ForBegin ArrowBody Expr ForBegin Property Stmt Target Catch Declaration Function TemplateItem (List Form) Written (List Form) (List Form) WrittenStmt Written (List Form) (List Form) WrittenFunction WrittenPart of_arrow_body of_expr of_for of_property of_stmt of_target of_catch of_declaration of_function of_template n)

abbrev pub like_for : ForBegin-F ArrowBody Expr ForBegin Property Stmt Target Catch Declaration Function TemplateItem → ForBegin
like_for n = roll-ForBegin (map-ForBegin ArrowBody Expr ForBegin Property Stmt Target Catch Declaration Function TemplateItem ArrowBody Expr ForBegin Property Stmt Target Catch Declaration Function TemplateItem like.of_arrow_body like.of_expr like.of_for like.of_property like.of_stmt like.of_target like.of_catch like.of_declaration like.of_function like.of_template n)

abbrev pub shape_for : ForBegin-F ArrowBody Expr ForBegin Property Stmt Target Catch Declaration Function TemplateItem → Bool
shape_for n = shape.for_step (map-ForBegin ArrowBody Expr ForBegin Property Stmt Target Catch Declaration Function TemplateItem Bool Shape Bool Bool StmtShape Shape Bool DeclaredShape Bool Bool shape.of_arrow_body shape.of_expr shape.of_for shape.of_property shape.of_stmt shape.of_target shape.of_catch shape.of_declaration shape.of_function shape.of_template n)

pub record LayerFor (y : ForBegin-F EachArrow EachExpr EachFor EachProperty EachStmt EachTarget EachCatch EachDeclaration EachFunction EachTemplate) (qs : List ℕ) : Type 0 where
  pub node : ForBegin-F ArrowBody Expr ForBegin Property Stmt Target Catch Declaration Function TemplateItem
  pub like : like_for node ≡ like_for (tree_of_for y)
  pub shape : shape_for node ≡ shape_for (tree_of_for y)
  pub filled : Fills qs (node_for (tree_of_for y)) (node_for node)

pub roll_for : (y : ForBegin-F EachArrow EachExpr EachFor EachProperty EachStmt EachTarget EachCatch EachDeclaration EachFunction EachTemplate) (qs : List ℕ) → LayerFor y qs → MovedFor (roll-ForBegin (tree_of_for y)) qs
roll_for y qs l = record {
  again = roll-ForBegin l.node;
  like = fold-roll-ForBegin ArrowBody Expr ForBegin Property Stmt Target Catch Declaration Function TemplateItem roll-ArrowBody like.expr_step roll-ForBegin like.property_step like.stmt_step like.target_step like.catch_step like.declaration_step like.function_step roll-TemplateItem l.node ∙ l.like ∙ sym (fold-roll-ForBegin ArrowBody Expr ForBegin Property Stmt Target Catch Declaration Function TemplateItem roll-ArrowBody like.expr_step roll-ForBegin like.property_step like.stmt_step like.target_step like.catch_step like.declaration_step like.function_step roll-TemplateItem (tree_of_for y));
  shape = fold-roll-ForBegin Bool Shape Bool Bool StmtShape Shape Bool DeclaredShape Bool Bool shape.arrow_body_step shape.expr_step shape.for_step shape.property_step shape.stmt_step shape.target_step shape.catch_step shape.declaration_step shape.function_step shape.template_step l.node ∙ l.shape ∙ sym (fold-roll-ForBegin Bool Shape Bool Bool StmtShape Shape Bool DeclaredShape Bool Bool shape.arrow_body_step shape.expr_step shape.for_step shape.property_step shape.stmt_step shape.target_step shape.catch_step shape.declaration_step shape.function_step shape.template_step (tree_of_for y));
  filled = subst (λ (z : (List Form)). Fills qs z (of_for (roll-ForBegin l.node))) (sym (fold-roll-ForBegin (List Form) Written (List Form) (List Form) WrittenStmt Written (List Form) (List Form) WrittenFunction WrittenPart arrow_body_step expr_step for_step property_step stmt_step target_step catch_step declaration_step function_step template_step (tree_of_for y)))
      (subst (λ (z : (List Form)). Fills qs (node_for (tree_of_for y)) z) (sym (fold-roll-ForBegin (List Form) Written (List Form) (List Form) WrittenStmt Written (List Form) (List Form) WrittenFunction WrittenPart arrow_body_step expr_step for_step property_step stmt_step target_step catch_step declaration_step function_step template_step l.node)) l.filled);
}

abbrev pub tree_of_property : Property-F EachArrow EachExpr EachFor EachProperty EachStmt EachTarget EachCatch EachDeclaration EachFunction EachTemplate → Property-F ArrowBody Expr ForBegin Property Stmt Target Catch Declaration Function TemplateItem
tree_of_property y = map-Property EachArrow EachExpr EachFor EachProperty EachStmt EachTarget EachCatch EachDeclaration EachFunction EachTemplate ArrowBody Expr ForBegin Property Stmt Target Catch Declaration Function TemplateItem (λ e. e.0) (λ e. e.0) (λ e. e.0) (λ e. e.0) (λ e. e.0) (λ e. e.0) (λ e. e.0) (λ e. e.0) (λ e. e.0) (λ e. e.0) y

abbrev pub node_property : Property-F ArrowBody Expr ForBegin Property Stmt Target Catch Declaration Function TemplateItem → (List Form)
node_property n = property_step (map-Property ArrowBody Expr ForBegin Property Stmt Target Catch Declaration Function TemplateItem (List Form) Written (List Form) (List Form) WrittenStmt Written (List Form) (List Form) WrittenFunction WrittenPart of_arrow_body of_expr of_for of_property of_stmt of_target of_catch of_declaration of_function of_template n)

abbrev pub like_property : Property-F ArrowBody Expr ForBegin Property Stmt Target Catch Declaration Function TemplateItem → Property
like_property n = like.property_step (map-Property ArrowBody Expr ForBegin Property Stmt Target Catch Declaration Function TemplateItem ArrowBody Expr ForBegin Property Stmt Target Catch Declaration Function TemplateItem like.of_arrow_body like.of_expr like.of_for like.of_property like.of_stmt like.of_target like.of_catch like.of_declaration like.of_function like.of_template n)

abbrev pub shape_property : Property-F ArrowBody Expr ForBegin Property Stmt Target Catch Declaration Function TemplateItem → Bool
shape_property n = shape.property_step (map-Property ArrowBody Expr ForBegin Property Stmt Target Catch Declaration Function TemplateItem Bool Shape Bool Bool StmtShape Shape Bool DeclaredShape Bool Bool shape.of_arrow_body shape.of_expr shape.of_for shape.of_property shape.of_stmt shape.of_target shape.of_catch shape.of_declaration shape.of_function shape.of_template n)

pub record LayerProperty (y : Property-F EachArrow EachExpr EachFor EachProperty EachStmt EachTarget EachCatch EachDeclaration EachFunction EachTemplate) (qs : List ℕ) : Type 0 where
  pub node : Property-F ArrowBody Expr ForBegin Property Stmt Target Catch Declaration Function TemplateItem
  pub like : like_property node ≡ like_property (tree_of_property y)
  pub shape : shape_property node ≡ shape_property (tree_of_property y)
  pub filled : Fills qs (node_property (tree_of_property y)) (node_property node)

pub roll_property : (y : Property-F EachArrow EachExpr EachFor EachProperty EachStmt EachTarget EachCatch EachDeclaration EachFunction EachTemplate) (qs : List ℕ) → LayerProperty y qs → MovedProperty (roll-Property (tree_of_property y)) qs
roll_property y qs l = record {
  again = roll-Property l.node;
  like = fold-roll-Property ArrowBody Expr ForBegin Property Stmt Target Catch Declaration Function TemplateItem roll-ArrowBody like.expr_step roll-ForBegin like.property_step like.stmt_step like.target_step like.catch_step like.declaration_step like.function_step roll-TemplateItem l.node ∙ l.like ∙ sym (fold-roll-Property ArrowBody Expr ForBegin Property Stmt Target Catch Declaration Function TemplateItem roll-ArrowBody like.expr_step roll-ForBegin like.property_step like.stmt_step like.target_step like.catch_step like.declaration_step like.function_step roll-TemplateItem (tree_of_property y));
  shape = fold-roll-Property Bool Shape Bool Bool StmtShape Shape Bool DeclaredShape Bool Bool shape.arrow_body_step shape.expr_step shape.for_step shape.property_step shape.stmt_step shape.target_step shape.catch_step shape.declaration_step shape.function_step shape.template_step l.node ∙ l.shape ∙ sym (fold-roll-Property Bool Shape Bool Bool StmtShape Shape Bool DeclaredShape Bool Bool shape.arrow_body_step shape.expr_step shape.for_step shape.property_step shape.stmt_step shape.target_step shape.catch_step shape.declaration_step shape.function_step shape.template_step (tree_of_property y));
  filled = subst (λ (z : (List Form)). Fills qs z (of_property (roll-Property l.node))) (sym (fold-roll-Property (List Form) Written (List Form) (List Form) WrittenStmt Written (List Form) (List Form) WrittenFunction WrittenPart arrow_body_step expr_step for_step property_step stmt_step target_step catch_step declaration_step function_step template_step (tree_of_property y)))
      (subst (λ (z : (List Form)). Fills qs (node_property (tree_of_property y)) z) (sym (fold-roll-Property (List Form) Written (List Form) (List Form) WrittenStmt Written (List Form) (List Form) WrittenFunction WrittenPart arrow_body_step expr_step for_step property_step stmt_step target_step catch_step declaration_step function_step template_step l.node)) l.filled);
}

abbrev pub tree_of_stmt : Stmt-F EachArrow EachExpr EachFor EachProperty EachStmt EachTarget EachCatch EachDeclaration EachFunction EachTemplate → Stmt-F ArrowBody Expr ForBegin Property Stmt Target Catch Declaration Function TemplateItem
tree_of_stmt y = map-Stmt EachArrow EachExpr EachFor EachProperty EachStmt EachTarget EachCatch EachDeclaration EachFunction EachTemplate ArrowBody Expr ForBegin Property Stmt Target Catch Declaration Function TemplateItem (λ e. e.0) (λ e. e.0) (λ e. e.0) (λ e. e.0) (λ e. e.0) (λ e. e.0) (λ e. e.0) (λ e. e.0) (λ e. e.0) (λ e. e.0) y

abbrev pub node_stmt : Stmt-F ArrowBody Expr ForBegin Property Stmt Target Catch Declaration Function TemplateItem → WrittenStmt
node_stmt n = stmt_step (map-Stmt ArrowBody Expr ForBegin Property Stmt Target Catch Declaration Function TemplateItem (List Form) Written (List Form) (List Form) WrittenStmt Written (List Form) (List Form) WrittenFunction WrittenPart of_arrow_body of_expr of_for of_property of_stmt of_target of_catch of_declaration of_function of_template n)

abbrev pub like_stmt : Stmt-F ArrowBody Expr ForBegin Property Stmt Target Catch Declaration Function TemplateItem → Stmt
like_stmt n = like.stmt_step (map-Stmt ArrowBody Expr ForBegin Property Stmt Target Catch Declaration Function TemplateItem ArrowBody Expr ForBegin Property Stmt Target Catch Declaration Function TemplateItem like.of_arrow_body like.of_expr like.of_for like.of_property like.of_stmt like.of_target like.of_catch like.of_declaration like.of_function like.of_template n)

abbrev pub shape_stmt : Stmt-F ArrowBody Expr ForBegin Property Stmt Target Catch Declaration Function TemplateItem → StmtShape
shape_stmt n = shape.stmt_step (map-Stmt ArrowBody Expr ForBegin Property Stmt Target Catch Declaration Function TemplateItem Bool Shape Bool Bool StmtShape Shape Bool DeclaredShape Bool Bool shape.of_arrow_body shape.of_expr shape.of_for shape.of_property shape.of_stmt shape.of_target shape.of_catch shape.of_declaration shape.of_function shape.of_template n)

-- it is the empty statement
abbrev pub node_empty : StmtNode → Bool
node_empty Stmt-F.Empty = true
node_empty _ = false

empty_node : (n : StmtNode) (b : Bool) → is_empty (roll-Stmt n) ≡ b → node_empty n ≡ b
empty_node (Stmt-F.Declare k ds) b h = let e : false ≡ b = rw (out-roll-Stmt (Stmt-F.Declare k ds)) at h in e
empty_node (Stmt-F.DeclareFunction n f) b h = let e : false ≡ b = rw (out-roll-Stmt (Stmt-F.DeclareFunction n f)) at h in e
empty_node (Stmt-F.Block ss) b h = let e : false ≡ b = rw (out-roll-Stmt (Stmt-F.Block ss)) at h in e
empty_node (Stmt-F.If test s t) b h = let e : false ≡ b = rw (out-roll-Stmt (Stmt-F.If test s t)) at h in e
empty_node (Stmt-F.For c test update s) b h = let e : false ≡ b = rw (out-roll-Stmt (Stmt-F.For c test update s)) at h in e
empty_node (Stmt-F.ForOf k n x s) b h = let e : false ≡ b = rw (out-roll-Stmt (Stmt-F.ForOf k n x s)) at h in e
empty_node (Stmt-F.While test s) b h = let e : false ≡ b = rw (out-roll-Stmt (Stmt-F.While test s)) at h in e
empty_node (Stmt-F.Break q) b h = let e : false ≡ b = rw (out-roll-Stmt (Stmt-F.Break q)) at h in e
empty_node (Stmt-F.Continue q) b h = let e : false ≡ b = rw (out-roll-Stmt (Stmt-F.Continue q)) at h in e
empty_node (Stmt-F.Return q x) b h = let e : false ≡ b = rw (out-roll-Stmt (Stmt-F.Return q x)) at h in e
empty_node (Stmt-F.Throw x) b h = let e : false ≡ b = rw (out-roll-Stmt (Stmt-F.Throw x)) at h in e
empty_node (Stmt-F.Try ss c f) b h = let e : false ≡ b = rw (out-roll-Stmt (Stmt-F.Try ss c f)) at h in e
empty_node Stmt-F.Empty b h = let e : true ≡ b = rw (out-roll-Stmt Stmt-F.Empty) at h in e
empty_node (Stmt-F.Expr x) b h = let e : false ≡ b = rw (out-roll-Stmt (Stmt-F.Expr x)) at h in e

pub record LayerStmt (y : Stmt-F EachArrow EachExpr EachFor EachProperty EachStmt EachTarget EachCatch EachDeclaration EachFunction EachTemplate) (qs : List ℕ) : Type 0 where
  pub node : Stmt-F ArrowBody Expr ForBegin Property Stmt Target Catch Declaration Function TemplateItem
  pub like : like_stmt node ≡ like_stmt (tree_of_stmt y)
  pub shape : shape_stmt node ≡ shape_stmt (tree_of_stmt y)
  pub filled : FilledStmt qs (node_stmt (tree_of_stmt y)) (node_stmt node)
  pub empty : node_empty node ≡ node_empty (tree_of_stmt y)

pub roll_stmt : (y : Stmt-F EachArrow EachExpr EachFor EachProperty EachStmt EachTarget EachCatch EachDeclaration EachFunction EachTemplate) (qs : List ℕ) → LayerStmt y qs → MovedStmt (roll-Stmt (tree_of_stmt y)) qs
roll_stmt y qs l = record {
  again = roll-Stmt l.node;
  like = fold-roll-Stmt ArrowBody Expr ForBegin Property Stmt Target Catch Declaration Function TemplateItem roll-ArrowBody like.expr_step roll-ForBegin like.property_step like.stmt_step like.target_step like.catch_step like.declaration_step like.function_step roll-TemplateItem l.node ∙ l.like ∙ sym (fold-roll-Stmt ArrowBody Expr ForBegin Property Stmt Target Catch Declaration Function TemplateItem roll-ArrowBody like.expr_step roll-ForBegin like.property_step like.stmt_step like.target_step like.catch_step like.declaration_step like.function_step roll-TemplateItem (tree_of_stmt y));
  shape = fold-roll-Stmt Bool Shape Bool Bool StmtShape Shape Bool DeclaredShape Bool Bool shape.arrow_body_step shape.expr_step shape.for_step shape.property_step shape.stmt_step shape.target_step shape.catch_step shape.declaration_step shape.function_step shape.template_step l.node ∙ l.shape ∙ sym (fold-roll-Stmt Bool Shape Bool Bool StmtShape Shape Bool DeclaredShape Bool Bool shape.arrow_body_step shape.expr_step shape.for_step shape.property_step shape.stmt_step shape.target_step shape.catch_step shape.declaration_step shape.function_step shape.template_step (tree_of_stmt y));
  filled = subst (λ (z : WrittenStmt). FilledStmt qs z (of_stmt (roll-Stmt l.node))) (sym (fold-roll-Stmt (List Form) Written (List Form) (List Form) WrittenStmt Written (List Form) (List Form) WrittenFunction WrittenPart arrow_body_step expr_step for_step property_step stmt_step target_step catch_step declaration_step function_step template_step (tree_of_stmt y)))
      (subst (λ (z : WrittenStmt). FilledStmt qs (node_stmt (tree_of_stmt y)) z) (sym (fold-roll-Stmt (List Form) Written (List Form) (List Form) WrittenStmt Written (List Form) (List Form) WrittenFunction WrittenPart arrow_body_step expr_step for_step property_step stmt_step target_step catch_step declaration_step function_step template_step l.node)) l.filled);
  empty = sym (empty_node l.node (is_empty (roll-Stmt l.node)) refl) ∙ l.empty ∙ empty_node (tree_of_stmt y) (is_empty (roll-Stmt (tree_of_stmt y))) refl;
}

abbrev pub tree_of_target : Target-F EachArrow EachExpr EachFor EachProperty EachStmt EachTarget EachCatch EachDeclaration EachFunction EachTemplate → Target-F ArrowBody Expr ForBegin Property Stmt Target Catch Declaration Function TemplateItem
tree_of_target y = map-Target EachArrow EachExpr EachFor EachProperty EachStmt EachTarget EachCatch EachDeclaration EachFunction EachTemplate ArrowBody Expr ForBegin Property Stmt Target Catch Declaration Function TemplateItem (λ e. e.0) (λ e. e.0) (λ e. e.0) (λ e. e.0) (λ e. e.0) (λ e. e.0) (λ e. e.0) (λ e. e.0) (λ e. e.0) (λ e. e.0) y

abbrev pub node_target : Target-F ArrowBody Expr ForBegin Property Stmt Target Catch Declaration Function TemplateItem → Written
node_target n = target_step (map-Target ArrowBody Expr ForBegin Property Stmt Target Catch Declaration Function TemplateItem (List Form) Written (List Form) (List Form) WrittenStmt Written (List Form) (List Form) WrittenFunction WrittenPart of_arrow_body of_expr of_for of_property of_stmt of_target of_catch of_declaration of_function of_template n)

abbrev pub like_target : Target-F ArrowBody Expr ForBegin Property Stmt Target Catch Declaration Function TemplateItem → Target
like_target n = like.target_step (map-Target ArrowBody Expr ForBegin Property Stmt Target Catch Declaration Function TemplateItem ArrowBody Expr ForBegin Property Stmt Target Catch Declaration Function TemplateItem like.of_arrow_body like.of_expr like.of_for like.of_property like.of_stmt like.of_target like.of_catch like.of_declaration like.of_function like.of_template n)

abbrev pub shape_target : Target-F ArrowBody Expr ForBegin Property Stmt Target Catch Declaration Function TemplateItem → Shape
shape_target n = shape.target_step (map-Target ArrowBody Expr ForBegin Property Stmt Target Catch Declaration Function TemplateItem Bool Shape Bool Bool StmtShape Shape Bool DeclaredShape Bool Bool shape.of_arrow_body shape.of_expr shape.of_for shape.of_property shape.of_stmt shape.of_target shape.of_catch shape.of_declaration shape.of_function shape.of_template n)

pub record LayerTarget (y : Target-F EachArrow EachExpr EachFor EachProperty EachStmt EachTarget EachCatch EachDeclaration EachFunction EachTemplate) (qs : List ℕ) : Type 0 where
  pub node : Target-F ArrowBody Expr ForBegin Property Stmt Target Catch Declaration Function TemplateItem
  pub like : like_target node ≡ like_target (tree_of_target y)
  pub shape : shape_target node ≡ shape_target (tree_of_target y)
  pub filled : FilledWritten qs (node_target (tree_of_target y)) (node_target node)

pub roll_target : (y : Target-F EachArrow EachExpr EachFor EachProperty EachStmt EachTarget EachCatch EachDeclaration EachFunction EachTemplate) (qs : List ℕ) → LayerTarget y qs → MovedTarget (roll-Target (tree_of_target y)) qs
roll_target y qs l = record {
  again = roll-Target l.node;
  like = fold-roll-Target ArrowBody Expr ForBegin Property Stmt Target Catch Declaration Function TemplateItem roll-ArrowBody like.expr_step roll-ForBegin like.property_step like.stmt_step like.target_step like.catch_step like.declaration_step like.function_step roll-TemplateItem l.node ∙ l.like ∙ sym (fold-roll-Target ArrowBody Expr ForBegin Property Stmt Target Catch Declaration Function TemplateItem roll-ArrowBody like.expr_step roll-ForBegin like.property_step like.stmt_step like.target_step like.catch_step like.declaration_step like.function_step roll-TemplateItem (tree_of_target y));
  shape = fold-roll-Target Bool Shape Bool Bool StmtShape Shape Bool DeclaredShape Bool Bool shape.arrow_body_step shape.expr_step shape.for_step shape.property_step shape.stmt_step shape.target_step shape.catch_step shape.declaration_step shape.function_step shape.template_step l.node ∙ l.shape ∙ sym (fold-roll-Target Bool Shape Bool Bool StmtShape Shape Bool DeclaredShape Bool Bool shape.arrow_body_step shape.expr_step shape.for_step shape.property_step shape.stmt_step shape.target_step shape.catch_step shape.declaration_step shape.function_step shape.template_step (tree_of_target y));
  filled = subst (λ (z : Written). FilledWritten qs z (of_target (roll-Target l.node))) (sym (fold-roll-Target (List Form) Written (List Form) (List Form) WrittenStmt Written (List Form) (List Form) WrittenFunction WrittenPart arrow_body_step expr_step for_step property_step stmt_step target_step catch_step declaration_step function_step template_step (tree_of_target y)))
      (subst (λ (z : Written). FilledWritten qs (node_target (tree_of_target y)) z) (sym (fold-roll-Target (List Form) Written (List Form) (List Form) WrittenStmt Written (List Form) (List Form) WrittenFunction WrittenPart arrow_body_step expr_step for_step property_step stmt_step target_step catch_step declaration_step function_step template_step l.node)) l.filled);
}

abbrev pub tree_of_catch : Catch-F EachArrow EachExpr EachFor EachProperty EachStmt EachTarget EachCatch EachDeclaration EachFunction EachTemplate → Catch-F ArrowBody Expr ForBegin Property Stmt Target Catch Declaration Function TemplateItem
tree_of_catch y = map-Catch EachArrow EachExpr EachFor EachProperty EachStmt EachTarget EachCatch EachDeclaration EachFunction EachTemplate ArrowBody Expr ForBegin Property Stmt Target Catch Declaration Function TemplateItem (λ e. e.0) (λ e. e.0) (λ e. e.0) (λ e. e.0) (λ e. e.0) (λ e. e.0) (λ e. e.0) (λ e. e.0) (λ e. e.0) (λ e. e.0) y

abbrev pub node_catch : Catch-F ArrowBody Expr ForBegin Property Stmt Target Catch Declaration Function TemplateItem → (List Form)
node_catch n = catch_step (map-Catch ArrowBody Expr ForBegin Property Stmt Target Catch Declaration Function TemplateItem (List Form) Written (List Form) (List Form) WrittenStmt Written (List Form) (List Form) WrittenFunction WrittenPart of_arrow_body of_expr of_for of_property of_stmt of_target of_catch of_declaration of_function of_template n)

abbrev pub like_catch : Catch-F ArrowBody Expr ForBegin Property Stmt Target Catch Declaration Function TemplateItem → Catch
like_catch n = like.catch_step (map-Catch ArrowBody Expr ForBegin Property Stmt Target Catch Declaration Function TemplateItem ArrowBody Expr ForBegin Property Stmt Target Catch Declaration Function TemplateItem like.of_arrow_body like.of_expr like.of_for like.of_property like.of_stmt like.of_target like.of_catch like.of_declaration like.of_function like.of_template n)

abbrev pub shape_catch : Catch-F ArrowBody Expr ForBegin Property Stmt Target Catch Declaration Function TemplateItem → Bool
shape_catch n = shape.catch_step (map-Catch ArrowBody Expr ForBegin Property Stmt Target Catch Declaration Function TemplateItem Bool Shape Bool Bool StmtShape Shape Bool DeclaredShape Bool Bool shape.of_arrow_body shape.of_expr shape.of_for shape.of_property shape.of_stmt shape.of_target shape.of_catch shape.of_declaration shape.of_function shape.of_template n)

pub record LayerCatch (y : Catch-F EachArrow EachExpr EachFor EachProperty EachStmt EachTarget EachCatch EachDeclaration EachFunction EachTemplate) (qs : List ℕ) : Type 0 where
  pub node : Catch-F ArrowBody Expr ForBegin Property Stmt Target Catch Declaration Function TemplateItem
  pub like : like_catch node ≡ like_catch (tree_of_catch y)
  pub shape : shape_catch node ≡ shape_catch (tree_of_catch y)
  pub filled : Fills qs (node_catch (tree_of_catch y)) (node_catch node)

pub roll_catch : (y : Catch-F EachArrow EachExpr EachFor EachProperty EachStmt EachTarget EachCatch EachDeclaration EachFunction EachTemplate) (qs : List ℕ) → LayerCatch y qs → MovedCatch (roll-Catch (tree_of_catch y)) qs
roll_catch y qs l = record {
  again = roll-Catch l.node;
  like = fold-roll-Catch ArrowBody Expr ForBegin Property Stmt Target Catch Declaration Function TemplateItem roll-ArrowBody like.expr_step roll-ForBegin like.property_step like.stmt_step like.target_step like.catch_step like.declaration_step like.function_step roll-TemplateItem l.node ∙ l.like ∙ sym (fold-roll-Catch ArrowBody Expr ForBegin Property Stmt Target Catch Declaration Function TemplateItem roll-ArrowBody like.expr_step roll-ForBegin like.property_step like.stmt_step like.target_step like.catch_step like.declaration_step like.function_step roll-TemplateItem (tree_of_catch y));
  shape = fold-roll-Catch Bool Shape Bool Bool StmtShape Shape Bool DeclaredShape Bool Bool shape.arrow_body_step shape.expr_step shape.for_step shape.property_step shape.stmt_step shape.target_step shape.catch_step shape.declaration_step shape.function_step shape.template_step l.node ∙ l.shape ∙ sym (fold-roll-Catch Bool Shape Bool Bool StmtShape Shape Bool DeclaredShape Bool Bool shape.arrow_body_step shape.expr_step shape.for_step shape.property_step shape.stmt_step shape.target_step shape.catch_step shape.declaration_step shape.function_step shape.template_step (tree_of_catch y));
  filled = subst (λ (z : (List Form)). Fills qs z (of_catch (roll-Catch l.node))) (sym (fold-roll-Catch (List Form) Written (List Form) (List Form) WrittenStmt Written (List Form) (List Form) WrittenFunction WrittenPart arrow_body_step expr_step for_step property_step stmt_step target_step catch_step declaration_step function_step template_step (tree_of_catch y)))
      (subst (λ (z : (List Form)). Fills qs (node_catch (tree_of_catch y)) z) (sym (fold-roll-Catch (List Form) Written (List Form) (List Form) WrittenStmt Written (List Form) (List Form) WrittenFunction WrittenPart arrow_body_step expr_step for_step property_step stmt_step target_step catch_step declaration_step function_step template_step l.node)) l.filled);
}

abbrev pub tree_of_declaration : Declaration-F EachArrow EachExpr EachFor EachProperty EachStmt EachTarget EachCatch EachDeclaration EachFunction EachTemplate → Declaration-F ArrowBody Expr ForBegin Property Stmt Target Catch Declaration Function TemplateItem
tree_of_declaration y = map-Declaration EachArrow EachExpr EachFor EachProperty EachStmt EachTarget EachCatch EachDeclaration EachFunction EachTemplate ArrowBody Expr ForBegin Property Stmt Target Catch Declaration Function TemplateItem (λ e. e.0) (λ e. e.0) (λ e. e.0) (λ e. e.0) (λ e. e.0) (λ e. e.0) (λ e. e.0) (λ e. e.0) (λ e. e.0) (λ e. e.0) y

abbrev pub node_declaration : Declaration-F ArrowBody Expr ForBegin Property Stmt Target Catch Declaration Function TemplateItem → (List Form)
node_declaration n = declaration_step (map-Declaration ArrowBody Expr ForBegin Property Stmt Target Catch Declaration Function TemplateItem (List Form) Written (List Form) (List Form) WrittenStmt Written (List Form) (List Form) WrittenFunction WrittenPart of_arrow_body of_expr of_for of_property of_stmt of_target of_catch of_declaration of_function of_template n)

abbrev pub like_declaration : Declaration-F ArrowBody Expr ForBegin Property Stmt Target Catch Declaration Function TemplateItem → Declaration
like_declaration n = like.declaration_step (map-Declaration ArrowBody Expr ForBegin Property Stmt Target Catch Declaration Function TemplateItem ArrowBody Expr ForBegin Property Stmt Target Catch Declaration Function TemplateItem like.of_arrow_body like.of_expr like.of_for like.of_property like.of_stmt like.of_target like.of_catch like.of_declaration like.of_function like.of_template n)

abbrev pub shape_declaration : Declaration-F ArrowBody Expr ForBegin Property Stmt Target Catch Declaration Function TemplateItem → DeclaredShape
shape_declaration n = shape.declaration_step (map-Declaration ArrowBody Expr ForBegin Property Stmt Target Catch Declaration Function TemplateItem Bool Shape Bool Bool StmtShape Shape Bool DeclaredShape Bool Bool shape.of_arrow_body shape.of_expr shape.of_for shape.of_property shape.of_stmt shape.of_target shape.of_catch shape.of_declaration shape.of_function shape.of_template n)

pub record LayerDeclaration (y : Declaration-F EachArrow EachExpr EachFor EachProperty EachStmt EachTarget EachCatch EachDeclaration EachFunction EachTemplate) (qs : List ℕ) : Type 0 where
  pub node : Declaration-F ArrowBody Expr ForBegin Property Stmt Target Catch Declaration Function TemplateItem
  pub like : like_declaration node ≡ like_declaration (tree_of_declaration y)
  pub shape : shape_declaration node ≡ shape_declaration (tree_of_declaration y)
  pub filled : Fills qs (node_declaration (tree_of_declaration y)) (node_declaration node)

pub roll_declaration : (y : Declaration-F EachArrow EachExpr EachFor EachProperty EachStmt EachTarget EachCatch EachDeclaration EachFunction EachTemplate) (qs : List ℕ) → LayerDeclaration y qs → MovedDeclaration (roll-Declaration (tree_of_declaration y)) qs
roll_declaration y qs l = record {
  again = roll-Declaration l.node;
  like = fold-roll-Declaration ArrowBody Expr ForBegin Property Stmt Target Catch Declaration Function TemplateItem roll-ArrowBody like.expr_step roll-ForBegin like.property_step like.stmt_step like.target_step like.catch_step like.declaration_step like.function_step roll-TemplateItem l.node ∙ l.like ∙ sym (fold-roll-Declaration ArrowBody Expr ForBegin Property Stmt Target Catch Declaration Function TemplateItem roll-ArrowBody like.expr_step roll-ForBegin like.property_step like.stmt_step like.target_step like.catch_step like.declaration_step like.function_step roll-TemplateItem (tree_of_declaration y));
  shape = fold-roll-Declaration Bool Shape Bool Bool StmtShape Shape Bool DeclaredShape Bool Bool shape.arrow_body_step shape.expr_step shape.for_step shape.property_step shape.stmt_step shape.target_step shape.catch_step shape.declaration_step shape.function_step shape.template_step l.node ∙ l.shape ∙ sym (fold-roll-Declaration Bool Shape Bool Bool StmtShape Shape Bool DeclaredShape Bool Bool shape.arrow_body_step shape.expr_step shape.for_step shape.property_step shape.stmt_step shape.target_step shape.catch_step shape.declaration_step shape.function_step shape.template_step (tree_of_declaration y));
  filled = subst (λ (z : (List Form)). Fills qs z (of_declaration (roll-Declaration l.node))) (sym (fold-roll-Declaration (List Form) Written (List Form) (List Form) WrittenStmt Written (List Form) (List Form) WrittenFunction WrittenPart arrow_body_step expr_step for_step property_step stmt_step target_step catch_step declaration_step function_step template_step (tree_of_declaration y)))
      (subst (λ (z : (List Form)). Fills qs (node_declaration (tree_of_declaration y)) z) (sym (fold-roll-Declaration (List Form) Written (List Form) (List Form) WrittenStmt Written (List Form) (List Form) WrittenFunction WrittenPart arrow_body_step expr_step for_step property_step stmt_step target_step catch_step declaration_step function_step template_step l.node)) l.filled);
}

abbrev pub tree_of_function : Function-F EachArrow EachExpr EachFor EachProperty EachStmt EachTarget EachCatch EachDeclaration EachFunction EachTemplate → Function-F ArrowBody Expr ForBegin Property Stmt Target Catch Declaration Function TemplateItem
tree_of_function y = map-Function EachArrow EachExpr EachFor EachProperty EachStmt EachTarget EachCatch EachDeclaration EachFunction EachTemplate ArrowBody Expr ForBegin Property Stmt Target Catch Declaration Function TemplateItem (λ e. e.0) (λ e. e.0) (λ e. e.0) (λ e. e.0) (λ e. e.0) (λ e. e.0) (λ e. e.0) (λ e. e.0) (λ e. e.0) (λ e. e.0) y

abbrev pub node_function : Function-F ArrowBody Expr ForBegin Property Stmt Target Catch Declaration Function TemplateItem → WrittenFunction
node_function n = function_step (map-Function ArrowBody Expr ForBegin Property Stmt Target Catch Declaration Function TemplateItem (List Form) Written (List Form) (List Form) WrittenStmt Written (List Form) (List Form) WrittenFunction WrittenPart of_arrow_body of_expr of_for of_property of_stmt of_target of_catch of_declaration of_function of_template n)

abbrev pub like_function : Function-F ArrowBody Expr ForBegin Property Stmt Target Catch Declaration Function TemplateItem → Function
like_function n = like.function_step (map-Function ArrowBody Expr ForBegin Property Stmt Target Catch Declaration Function TemplateItem ArrowBody Expr ForBegin Property Stmt Target Catch Declaration Function TemplateItem like.of_arrow_body like.of_expr like.of_for like.of_property like.of_stmt like.of_target like.of_catch like.of_declaration like.of_function like.of_template n)

abbrev pub shape_function : Function-F ArrowBody Expr ForBegin Property Stmt Target Catch Declaration Function TemplateItem → Bool
shape_function n = shape.function_step (map-Function ArrowBody Expr ForBegin Property Stmt Target Catch Declaration Function TemplateItem Bool Shape Bool Bool StmtShape Shape Bool DeclaredShape Bool Bool shape.of_arrow_body shape.of_expr shape.of_for shape.of_property shape.of_stmt shape.of_target shape.of_catch shape.of_declaration shape.of_function shape.of_template n)

pub record LayerFunction (y : Function-F EachArrow EachExpr EachFor EachProperty EachStmt EachTarget EachCatch EachDeclaration EachFunction EachTemplate) (qs : List ℕ) : Type 0 where
  pub node : Function-F ArrowBody Expr ForBegin Property Stmt Target Catch Declaration Function TemplateItem
  pub like : like_function node ≡ like_function (tree_of_function y)
  pub shape : shape_function node ≡ shape_function (tree_of_function y)
  pub filled : FilledFunction qs (node_function (tree_of_function y)) (node_function node)

pub roll_function : (y : Function-F EachArrow EachExpr EachFor EachProperty EachStmt EachTarget EachCatch EachDeclaration EachFunction EachTemplate) (qs : List ℕ) → LayerFunction y qs → MovedFunction (roll-Function (tree_of_function y)) qs
roll_function y qs l = record {
  again = roll-Function l.node;
  like = fold-roll-Function ArrowBody Expr ForBegin Property Stmt Target Catch Declaration Function TemplateItem roll-ArrowBody like.expr_step roll-ForBegin like.property_step like.stmt_step like.target_step like.catch_step like.declaration_step like.function_step roll-TemplateItem l.node ∙ l.like ∙ sym (fold-roll-Function ArrowBody Expr ForBegin Property Stmt Target Catch Declaration Function TemplateItem roll-ArrowBody like.expr_step roll-ForBegin like.property_step like.stmt_step like.target_step like.catch_step like.declaration_step like.function_step roll-TemplateItem (tree_of_function y));
  shape = fold-roll-Function Bool Shape Bool Bool StmtShape Shape Bool DeclaredShape Bool Bool shape.arrow_body_step shape.expr_step shape.for_step shape.property_step shape.stmt_step shape.target_step shape.catch_step shape.declaration_step shape.function_step shape.template_step l.node ∙ l.shape ∙ sym (fold-roll-Function Bool Shape Bool Bool StmtShape Shape Bool DeclaredShape Bool Bool shape.arrow_body_step shape.expr_step shape.for_step shape.property_step shape.stmt_step shape.target_step shape.catch_step shape.declaration_step shape.function_step shape.template_step (tree_of_function y));
  filled = subst (λ (z : WrittenFunction). FilledFunction qs z (of_function (roll-Function l.node))) (sym (fold-roll-Function (List Form) Written (List Form) (List Form) WrittenStmt Written (List Form) (List Form) WrittenFunction WrittenPart arrow_body_step expr_step for_step property_step stmt_step target_step catch_step declaration_step function_step template_step (tree_of_function y)))
      (subst (λ (z : WrittenFunction). FilledFunction qs (node_function (tree_of_function y)) z) (sym (fold-roll-Function (List Form) Written (List Form) (List Form) WrittenStmt Written (List Form) (List Form) WrittenFunction WrittenPart arrow_body_step expr_step for_step property_step stmt_step target_step catch_step declaration_step function_step template_step l.node)) l.filled);
}

abbrev pub tree_of_template : TemplateItem-F EachArrow EachExpr EachFor EachProperty EachStmt EachTarget EachCatch EachDeclaration EachFunction EachTemplate → TemplateItem-F ArrowBody Expr ForBegin Property Stmt Target Catch Declaration Function TemplateItem
tree_of_template y = map-TemplateItem EachArrow EachExpr EachFor EachProperty EachStmt EachTarget EachCatch EachDeclaration EachFunction EachTemplate ArrowBody Expr ForBegin Property Stmt Target Catch Declaration Function TemplateItem (λ e. e.0) (λ e. e.0) (λ e. e.0) (λ e. e.0) (λ e. e.0) (λ e. e.0) (λ e. e.0) (λ e. e.0) (λ e. e.0) (λ e. e.0) y

abbrev pub node_template : TemplateItem-F ArrowBody Expr ForBegin Property Stmt Target Catch Declaration Function TemplateItem → WrittenPart
node_template n = template_step (map-TemplateItem ArrowBody Expr ForBegin Property Stmt Target Catch Declaration Function TemplateItem (List Form) Written (List Form) (List Form) WrittenStmt Written (List Form) (List Form) WrittenFunction WrittenPart of_arrow_body of_expr of_for of_property of_stmt of_target of_catch of_declaration of_function of_template n)

abbrev pub like_template : TemplateItem-F ArrowBody Expr ForBegin Property Stmt Target Catch Declaration Function TemplateItem → TemplateItem
like_template n = roll-TemplateItem (map-TemplateItem ArrowBody Expr ForBegin Property Stmt Target Catch Declaration Function TemplateItem ArrowBody Expr ForBegin Property Stmt Target Catch Declaration Function TemplateItem like.of_arrow_body like.of_expr like.of_for like.of_property like.of_stmt like.of_target like.of_catch like.of_declaration like.of_function like.of_template n)

abbrev pub shape_template : TemplateItem-F ArrowBody Expr ForBegin Property Stmt Target Catch Declaration Function TemplateItem → Bool
shape_template n = shape.template_step (map-TemplateItem ArrowBody Expr ForBegin Property Stmt Target Catch Declaration Function TemplateItem Bool Shape Bool Bool StmtShape Shape Bool DeclaredShape Bool Bool shape.of_arrow_body shape.of_expr shape.of_for shape.of_property shape.of_stmt shape.of_target shape.of_catch shape.of_declaration shape.of_function shape.of_template n)

pub record LayerTemplate (y : TemplateItem-F EachArrow EachExpr EachFor EachProperty EachStmt EachTarget EachCatch EachDeclaration EachFunction EachTemplate) (qs : List ℕ) : Type 0 where
  pub node : TemplateItem-F ArrowBody Expr ForBegin Property Stmt Target Catch Declaration Function TemplateItem
  pub like : like_template node ≡ like_template (tree_of_template y)
  pub shape : shape_template node ≡ shape_template (tree_of_template y)
  pub filled : FilledPart qs (node_template (tree_of_template y)) (node_template node)

pub roll_template : (y : TemplateItem-F EachArrow EachExpr EachFor EachProperty EachStmt EachTarget EachCatch EachDeclaration EachFunction EachTemplate) (qs : List ℕ) → LayerTemplate y qs → MovedTemplate (roll-TemplateItem (tree_of_template y)) qs
roll_template y qs l = record {
  again = roll-TemplateItem l.node;
  like = fold-roll-TemplateItem ArrowBody Expr ForBegin Property Stmt Target Catch Declaration Function TemplateItem roll-ArrowBody like.expr_step roll-ForBegin like.property_step like.stmt_step like.target_step like.catch_step like.declaration_step like.function_step roll-TemplateItem l.node ∙ l.like ∙ sym (fold-roll-TemplateItem ArrowBody Expr ForBegin Property Stmt Target Catch Declaration Function TemplateItem roll-ArrowBody like.expr_step roll-ForBegin like.property_step like.stmt_step like.target_step like.catch_step like.declaration_step like.function_step roll-TemplateItem (tree_of_template y));
  shape = fold-roll-TemplateItem Bool Shape Bool Bool StmtShape Shape Bool DeclaredShape Bool Bool shape.arrow_body_step shape.expr_step shape.for_step shape.property_step shape.stmt_step shape.target_step shape.catch_step shape.declaration_step shape.function_step shape.template_step l.node ∙ l.shape ∙ sym (fold-roll-TemplateItem Bool Shape Bool Bool StmtShape Shape Bool DeclaredShape Bool Bool shape.arrow_body_step shape.expr_step shape.for_step shape.property_step shape.stmt_step shape.target_step shape.catch_step shape.declaration_step shape.function_step shape.template_step (tree_of_template y));
  filled = subst (λ (z : WrittenPart). FilledPart qs z (of_template (roll-TemplateItem l.node))) (sym (fold-roll-TemplateItem (List Form) Written (List Form) (List Form) WrittenStmt Written (List Form) (List Form) WrittenFunction WrittenPart arrow_body_step expr_step for_step property_step stmt_step target_step catch_step declaration_step function_step template_step (tree_of_template y)))
      (subst (λ (z : WrittenPart). FilledPart qs (node_template (tree_of_template y)) z) (sym (fold-roll-TemplateItem (List Form) Written (List Form) (List Form) WrittenStmt Written (List Form) (List Form) WrittenFunction WrittenPart arrow_body_step expr_step for_step property_step stmt_step target_step catch_step declaration_step function_step template_step l.node)) l.filled);
}

-- ---- with three and four parts

pub ap₃ : {A B C D : Type 0} → (f : A → B → C → D) {a a2 : A} {b b2 : B} {c c2 : C} → a ≡ a2 → b ≡ b2 → c ≡ c2 → f a b c ≡ f a2 b2 c2
ap₃ f {a} {a2} {b} {b2} {c} {c2} d e g = ap (λ z. f z b c) d ∙ ap (λ z. f a2 z c) e ∙ ap (λ z. f a2 b2 z) g

pub ap₄ : {A B C D F : Type 0} → (f : A → B → C → D → F) {a a2 : A} {b b2 : B} {c c2 : C} {d d2 : D} → a ≡ a2 → b ≡ b2 → c ≡ c2 → d ≡ d2 → f a b c d ≡ f a2 b2 c2 d2
ap₄ f {a} {a2} {b} {b2} {c} {c2} {d} {d2} e g h i = ap (λ z. f z b c d) e ∙ ap (λ z. f a2 z c d) g ∙ ap (λ z. f a2 b2 z d) h ∙ ap (λ z. f a2 b2 c2 z) i
