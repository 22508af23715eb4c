-- The first alternatives of a tree's forms are texts of their own, and close the braces that they open.
use Rattle.std.proofs.Common.{◌≡◌, Bool, true, false, cond, List, [], ◌∷◌, ◌++◌, map, Option, Some, None, refl, sym, subst}
use Rattle.js_lex.specs.declared.token.Punctuator.TheVariants as p
use Rattle.js_lex.specs.declared.token.Reserved.TheVariants as r
use Rattle.js_lex.specs.declared.token.TokenKind.TheVariants as tok
use Rattle.js_tree.specs.declared.tree.Name.{Name}
use Rattle.js_tree.specs.declared.tree.Item.{Item}
use Rattle.js_tree.specs.declared.tree.Item.TheVariants as item
use Rattle.js_tree.specs.declared.tree.ArrowBody.TheOpen.{ArrowBody-F, Expr-F, ForBegin-F, Property-F, Stmt-F, Target-F, Catch-F, Declaration-F, Function-F, TemplateItem-F}
use Rattle.js_tree.specs.declared.tree.ArrowBody.TheFolds.{map-ArrowBody, map-Expr, map-ForBegin, map-Property, map-Stmt, map-Target, map-Catch, map-Declaration, map-Function, map-TemplateItem, fold-roll-ArrowBody, fold-roll-Expr, fold-roll-ForBegin, fold-roll-Property, fold-roll-Stmt, fold-roll-Target, fold-roll-Catch, fold-roll-Declaration, fold-roll-Function, fold-roll-TemplateItem, ind-Stmt, ind-Property}
use Rattle.js_tree.specs.declared.tree.ArrowBody.{ArrowBody, roll-ArrowBody}
use Rattle.js_tree.specs.declared.tree.Expr.{Expr, roll-Expr}
use Rattle.js_tree.specs.declared.tree.ForBegin.{ForBegin, roll-ForBegin}
use Rattle.js_tree.specs.declared.tree.Property.{Property, roll-Property}
use Rattle.js_tree.specs.declared.tree.Stmt.{Stmt, roll-Stmt}
use Rattle.js_tree.specs.declared.tree.Target.{Target, roll-Target}
use Rattle.js_tree.specs.declared.tree.Catch.{Catch, roll-Catch}
use Rattle.js_tree.specs.declared.tree.Declaration.{Declaration, roll-Declaration}
use Rattle.js_tree.specs.declared.tree.Function.{Function, roll-Function}
use Rattle.js_tree.specs.declared.tree.TemplateItem.{TemplateItem, roll-TemplateItem}
use Rattle.js_grammar.specs.Marks.{Form, sign, maybe, just}
use Rattle.js_grammar.specs.Grammar.{Written, WrittenStmt, WrittenFunction, WrittenPart, values, option_name, name, name_forms, arrow_sign, parenthesized, for_head, body, arrow_body_step, expr_step, for_step, property_step, stmt_step, target_step, catch_step, declaration_step, function_step, template_step, of_arrow_body, of_expr, of_for, of_property, of_stmt, of_target, of_catch, of_declaration, of_function, of_template, of_export, is_empty, export_end, of_tree}
use Rattle.js_print.proofs.Nesting.{leaves_number, leaves_text}
use Rattle.js_print.proofs.Sound.{Sound, AllSound, AllStatements, AllParts, ValueSound, sound_none, sound_append, sound_deeper, sound_one_line, sound_kind, sound_word, sound_word_at, sound_name, sound_sign, sound_end, sound_maybe_end, sound_enclosed, sound_parens, sound_listed, sound_key, sound_unary, sound_parameters, sound_block, sound_template, sound_arrow, sound_member, sound_index, sound_arguments, sound_call, sound_joined, sound_assign, sound_update, sound_conditional, sound_option_name, sound_function, sound_method, sound_object, sound_body, sound_declared, sound_option_else, sound_option_finally, sound_for_head, sound_for_of_head, sound_ended}

-- ---- what is claimed of each node, by what it is written as

abbrev pub FixedWritten : Written → Type 0
FixedWritten w = Sound w.forms

abbrev pub FixedStmt : WrittenStmt → Type 0
FixedStmt w = Sound w.forms

abbrev pub FixedFunction : WrittenFunction → Type 0
FixedFunction w = Sound w.forms

abbrev pub FixedPart : WrittenPart → Type 0
FixedPart w = Sound w.value

abbrev pub FixedArrow : ArrowBody → Type 0
FixedArrow x = Sound (of_arrow_body x)

abbrev pub FixedExpr : Expr → Type 0
FixedExpr x = FixedWritten (of_expr x)

abbrev pub FixedFor : ForBegin → Type 0
FixedFor x = Sound (of_for x)

abbrev pub FixedProperty : Property → Type 0
FixedProperty x = Sound (of_property x)

abbrev pub FixedStatement : Stmt → Type 0
FixedStatement x = FixedStmt (of_stmt x)

abbrev pub FixedTarget : Target → Type 0
FixedTarget x = FixedWritten (of_target x)

abbrev pub FixedCatch : Catch → Type 0
FixedCatch x = Sound (of_catch x)

abbrev pub FixedDeclaration : Declaration → Type 0
FixedDeclaration x = Sound (of_declaration x)

abbrev pub FixedTreeFunction : Function → Type 0
FixedTreeFunction x = FixedFunction (of_function x)

abbrev pub FixedTemplate : TemplateItem → Type 0
FixedTemplate x = FixedPart (of_template x)

abbrev EachArrow : Type 0
EachArrow = (x : ArrowBody) × FixedArrow x

abbrev EachExpr : Type 0
EachExpr = (x : Expr) × FixedExpr x

abbrev EachFor : Type 0
EachFor = (x : ForBegin) × FixedFor x

abbrev EachProperty : Type 0
EachProperty = (x : Property) × FixedProperty x

abbrev EachStmt : Type 0
EachStmt = (x : Stmt) × FixedStatement x

abbrev EachTarget : Type 0
EachTarget = (x : Target) × FixedTarget x

abbrev EachCatch : Type 0
EachCatch = (x : Catch) × FixedCatch x

abbrev EachDeclaration : Type 0
EachDeclaration = (x : Declaration) × FixedDeclaration x

abbrev EachFunction : Type 0
EachFunction = (x : Function) × FixedTreeFunction x

abbrev EachTemplate : Type 0
EachTemplate = (x : TemplateItem) × FixedTemplate x

-- ---- the layers, with what is claimed of the parts

abbrev tree_of_arrow_body : ArrowBody-F EachArrow EachExpr EachFor EachProperty EachStmt EachTarget EachCatch EachDeclaration EachFunction EachTemplate → ArrowBody-F ArrowBody Expr ForBegin Property Stmt Target Catch Declaration Function TemplateItem
tree_of_arrow_body y = map-ArrowBody EachArrow EachExpr EachFor EachProperty EachStmt EachTarget EachCatch EachDeclaration EachFunction EachTemplate ArrowBody Expr ForBegin Property Stmt Target Catch Declaration Function TemplateItem (λ e. e.0) (λ e. e.0) (λ e. e.0) (λ e. e.0) (λ e. e.0) (λ e. e.0) (λ e. e.0) (λ e. e.0) (λ e. e.0) (λ e. e.0) y

abbrev written_arrow_body : ArrowBody-F EachArrow EachExpr EachFor EachProperty EachStmt EachTarget EachCatch EachDeclaration EachFunction EachTemplate → List Form
written_arrow_body y = arrow_body_step (map-ArrowBody ArrowBody Expr ForBegin Property Stmt Target Catch Declaration Function TemplateItem (List Form) Written (List Form) (List Form) WrittenStmt Written (List Form) (List Form) WrittenFunction WrittenPart of_arrow_body of_expr of_for of_property of_stmt of_target of_catch of_declaration of_function of_template (tree_of_arrow_body y))

abbrev tree_of_expr : Expr-F EachArrow EachExpr EachFor EachProperty EachStmt EachTarget EachCatch EachDeclaration EachFunction EachTemplate → Expr-F ArrowBody Expr ForBegin Property Stmt Target Catch Declaration Function TemplateItem
tree_of_expr y = map-Expr EachArrow EachExpr EachFor EachProperty EachStmt EachTarget EachCatch EachDeclaration EachFunction EachTemplate ArrowBody Expr ForBegin Property Stmt Target Catch Declaration Function TemplateItem (λ e. e.0) (λ e. e.0) (λ e. e.0) (λ e. e.0) (λ e. e.0) (λ e. e.0) (λ e. e.0) (λ e. e.0) (λ e. e.0) (λ e. e.0) y

abbrev written_expr : Expr-F EachArrow EachExpr EachFor EachProperty EachStmt EachTarget EachCatch EachDeclaration EachFunction EachTemplate → Written
written_expr y = expr_step (map-Expr ArrowBody Expr ForBegin Property Stmt Target Catch Declaration Function TemplateItem (List Form) Written (List Form) (List Form) WrittenStmt Written (List Form) (List Form) WrittenFunction WrittenPart of_arrow_body of_expr of_for of_property of_stmt of_target of_catch of_declaration of_function of_template (tree_of_expr y))

abbrev tree_of_for : ForBegin-F EachArrow EachExpr EachFor EachProperty EachStmt EachTarget EachCatch EachDeclaration EachFunction EachTemplate → ForBegin-F ArrowBody Expr ForBegin Property Stmt Target Catch Declaration Function TemplateItem
tree_of_for y = map-ForBegin EachArrow EachExpr EachFor EachProperty EachStmt EachTarget EachCatch EachDeclaration EachFunction EachTemplate ArrowBody Expr ForBegin Property Stmt Target Catch Declaration Function TemplateItem (λ e. e.0) (λ e. e.0) (λ e. e.0) (λ e. e.0) (λ e. e.0) (λ e. e.0) (λ e. e.0) (λ e. e.0) (λ e. e.0) (λ e. e.0) y

abbrev written_for : ForBegin-F EachArrow EachExpr EachFor EachProperty EachStmt EachTarget EachCatch EachDeclaration EachFunction EachTemplate → List Form
written_for y = for_step (map-ForBegin ArrowBody Expr ForBegin Property Stmt Target Catch Declaration Function TemplateItem (List Form) Written (List Form) (List Form) WrittenStmt Written (List Form) (List Form) WrittenFunction WrittenPart of_arrow_body of_expr of_for of_property of_stmt of_target of_catch of_declaration of_function of_template (tree_of_for y))

abbrev tree_of_property : Property-F EachArrow EachExpr EachFor EachProperty EachStmt EachTarget EachCatch EachDeclaration EachFunction EachTemplate → Property-F ArrowBody Expr ForBegin Property Stmt Target Catch Declaration Function TemplateItem
tree_of_property y = map-Property EachArrow EachExpr EachFor EachProperty EachStmt EachTarget EachCatch EachDeclaration EachFunction EachTemplate ArrowBody Expr ForBegin Property Stmt Target Catch Declaration Function TemplateItem (λ e. e.0) (λ e. e.0) (λ e. e.0) (λ e. e.0) (λ e. e.0) (λ e. e.0) (λ e. e.0) (λ e. e.0) (λ e. e.0) (λ e. e.0) y

abbrev written_property : Property-F EachArrow EachExpr EachFor EachProperty EachStmt EachTarget EachCatch EachDeclaration EachFunction EachTemplate → List Form
written_property y = property_step (map-Property ArrowBody Expr ForBegin Property Stmt Target Catch Declaration Function TemplateItem (List Form) Written (List Form) (List Form) WrittenStmt Written (List Form) (List Form) WrittenFunction WrittenPart of_arrow_body of_expr of_for of_property of_stmt of_target of_catch of_declaration of_function of_template (tree_of_property y))

abbrev tree_of_stmt : Stmt-F EachArrow EachExpr EachFor EachProperty EachStmt EachTarget EachCatch EachDeclaration EachFunction EachTemplate → Stmt-F ArrowBody Expr ForBegin Property Stmt Target Catch Declaration Function TemplateItem
tree_of_stmt y = map-Stmt EachArrow EachExpr EachFor EachProperty EachStmt EachTarget EachCatch EachDeclaration EachFunction EachTemplate ArrowBody Expr ForBegin Property Stmt Target Catch Declaration Function TemplateItem (λ e. e.0) (λ e. e.0) (λ e. e.0) (λ e. e.0) (λ e. e.0) (λ e. e.0) (λ e. e.0) (λ e. e.0) (λ e. e.0) (λ e. e.0) y

abbrev written_stmt : Stmt-F EachArrow EachExpr EachFor EachProperty EachStmt EachTarget EachCatch EachDeclaration EachFunction EachTemplate → WrittenStmt
written_stmt y = stmt_step (map-Stmt ArrowBody Expr ForBegin Property Stmt Target Catch Declaration Function TemplateItem (List Form) Written (List Form) (List Form) WrittenStmt Written (List Form) (List Form) WrittenFunction WrittenPart of_arrow_body of_expr of_for of_property of_stmt of_target of_catch of_declaration of_function of_template (tree_of_stmt y))

abbrev tree_of_target : Target-F EachArrow EachExpr EachFor EachProperty EachStmt EachTarget EachCatch EachDeclaration EachFunction EachTemplate → Target-F ArrowBody Expr ForBegin Property Stmt Target Catch Declaration Function TemplateItem
tree_of_target y = map-Target EachArrow EachExpr EachFor EachProperty EachStmt EachTarget EachCatch EachDeclaration EachFunction EachTemplate ArrowBody Expr ForBegin Property Stmt Target Catch Declaration Function TemplateItem (λ e. e.0) (λ e. e.0) (λ e. e.0) (λ e. e.0) (λ e. e.0) (λ e. e.0) (λ e. e.0) (λ e. e.0) (λ e. e.0) (λ e. e.0) y

abbrev written_target : Target-F EachArrow EachExpr EachFor EachProperty EachStmt EachTarget EachCatch EachDeclaration EachFunction EachTemplate → Written
written_target y = target_step (map-Target ArrowBody Expr ForBegin Property Stmt Target Catch Declaration Function TemplateItem (List Form) Written (List Form) (List Form) WrittenStmt Written (List Form) (List Form) WrittenFunction WrittenPart of_arrow_body of_expr of_for of_property of_stmt of_target of_catch of_declaration of_function of_template (tree_of_target y))

abbrev tree_of_catch : Catch-F EachArrow EachExpr EachFor EachProperty EachStmt EachTarget EachCatch EachDeclaration EachFunction EachTemplate → Catch-F ArrowBody Expr ForBegin Property Stmt Target Catch Declaration Function TemplateItem
tree_of_catch y = map-Catch EachArrow EachExpr EachFor EachProperty EachStmt EachTarget EachCatch EachDeclaration EachFunction EachTemplate ArrowBody Expr ForBegin Property Stmt Target Catch Declaration Function TemplateItem (λ e. e.0) (λ e. e.0) (λ e. e.0) (λ e. e.0) (λ e. e.0) (λ e. e.0) (λ e. e.0) (λ e. e.0) (λ e. e.0) (λ e. e.0) y

abbrev written_catch : Catch-F EachArrow EachExpr EachFor EachProperty EachStmt EachTarget EachCatch EachDeclaration EachFunction EachTemplate → List Form
written_catch y = catch_step (map-Catch ArrowBody Expr ForBegin Property Stmt Target Catch Declaration Function TemplateItem (List Form) Written (List Form) (List Form) WrittenStmt Written (List Form) (List Form) WrittenFunction WrittenPart of_arrow_body of_expr of_for of_property of_stmt of_target of_catch of_declaration of_function of_template (tree_of_catch y))

abbrev tree_of_declaration : Declaration-F EachArrow EachExpr EachFor EachProperty EachStmt EachTarget EachCatch EachDeclaration EachFunction EachTemplate → Declaration-F ArrowBody Expr ForBegin Property Stmt Target Catch Declaration Function TemplateItem
tree_of_declaration y = map-Declaration EachArrow EachExpr EachFor EachProperty EachStmt EachTarget EachCatch EachDeclaration EachFunction EachTemplate ArrowBody Expr ForBegin Property Stmt Target Catch Declaration Function TemplateItem (λ e. e.0) (λ e. e.0) (λ e. e.0) (λ e. e.0) (λ e. e.0) (λ e. e.0) (λ e. e.0) (λ e. e.0) (λ e. e.0) (λ e. e.0) y

abbrev written_declaration : Declaration-F EachArrow EachExpr EachFor EachProperty EachStmt EachTarget EachCatch EachDeclaration EachFunction EachTemplate → List Form
written_declaration y = declaration_step (map-Declaration ArrowBody Expr ForBegin Property Stmt Target Catch Declaration Function TemplateItem (List Form) Written (List Form) (List Form) WrittenStmt Written (List Form) (List Form) WrittenFunction WrittenPart of_arrow_body of_expr of_for of_property of_stmt of_target of_catch of_declaration of_function of_template (tree_of_declaration y))

abbrev tree_of_function : Function-F EachArrow EachExpr EachFor EachProperty EachStmt EachTarget EachCatch EachDeclaration EachFunction EachTemplate → Function-F ArrowBody Expr ForBegin Property Stmt Target Catch Declaration Function TemplateItem
tree_of_function y = map-Function EachArrow EachExpr EachFor EachProperty EachStmt EachTarget EachCatch EachDeclaration EachFunction EachTemplate ArrowBody Expr ForBegin Property Stmt Target Catch Declaration Function TemplateItem (λ e. e.0) (λ e. e.0) (λ e. e.0) (λ e. e.0) (λ e. e.0) (λ e. e.0) (λ e. e.0) (λ e. e.0) (λ e. e.0) (λ e. e.0) y

abbrev written_function : Function-F EachArrow EachExpr EachFor EachProperty EachStmt EachTarget EachCatch EachDeclaration EachFunction EachTemplate → WrittenFunction
written_function y = function_step (map-Function ArrowBody Expr ForBegin Property Stmt Target Catch Declaration Function TemplateItem (List Form) Written (List Form) (List Form) WrittenStmt Written (List Form) (List Form) WrittenFunction WrittenPart of_arrow_body of_expr of_for of_property of_stmt of_target of_catch of_declaration of_function of_template (tree_of_function y))

abbrev tree_of_template : TemplateItem-F EachArrow EachExpr EachFor EachProperty EachStmt EachTarget EachCatch EachDeclaration EachFunction EachTemplate → TemplateItem-F ArrowBody Expr ForBegin Property Stmt Target Catch Declaration Function TemplateItem
tree_of_template y = map-TemplateItem EachArrow EachExpr EachFor EachProperty EachStmt EachTarget EachCatch EachDeclaration EachFunction EachTemplate ArrowBody Expr ForBegin Property Stmt Target Catch Declaration Function TemplateItem (λ e. e.0) (λ e. e.0) (λ e. e.0) (λ e. e.0) (λ e. e.0) (λ e. e.0) (λ e. e.0) (λ e. e.0) (λ e. e.0) (λ e. e.0) y

abbrev written_template : TemplateItem-F EachArrow EachExpr EachFor EachProperty EachStmt EachTarget EachCatch EachDeclaration EachFunction EachTemplate → WrittenPart
written_template y = template_step (map-TemplateItem ArrowBody Expr ForBegin Property Stmt Target Catch Declaration Function TemplateItem (List Form) Written (List Form) (List Form) WrittenStmt Written (List Form) (List Form) WrittenFunction WrittenPart of_arrow_body of_expr of_for of_property of_stmt of_target of_catch of_declaration of_function of_template (tree_of_template y))

-- ---- lists of parts

fixed_values : (ys : List EachExpr) → AllSound (values (map of_expr (map (λ e. e.0) ys)))
fixed_values [] = tt
fixed_values (y ∷ ys) = (y.1, fixed_values ys)

fixed_properties : (ys : List EachProperty) → AllSound (map of_property (map (λ e. e.0) ys))
fixed_properties [] = tt
fixed_properties (y ∷ ys) = (y.1, fixed_properties ys)

fixed_declarations : (ys : List EachDeclaration) → AllSound (map of_declaration (map (λ e. e.0) ys))
fixed_declarations [] = tt
fixed_declarations (y ∷ ys) = (y.1, fixed_declarations ys)

fixed_statements : (ys : List EachStmt) → AllStatements (map of_stmt (map (λ e. e.0) ys))
fixed_statements [] = tt
fixed_statements (y ∷ ys) = (y.1, fixed_statements ys)

fixed_parts : (ys : List EachTemplate) → AllParts (map of_template (map (λ e. e.0) ys))
fixed_parts [] = tt
fixed_parts (y ∷ ys) = (y.1, fixed_parts ys)

-- ---- each node, where its parts are as claimed

case_arrow_body : (y : ArrowBody-F EachArrow EachExpr EachFor EachProperty EachStmt EachTarget EachCatch EachDeclaration EachFunction EachTemplate) → Sound (written_arrow_body y)
case_arrow_body (ArrowBody-F.Statements ys) = sound_sign p.Arrow true _ refl (sound_block _ (fixed_statements ys))
case_arrow_body (ArrowBody-F.Value y) = sound_deeper 1 (arrow_sign ∷ (of_expr y.0).forms) (sound_sign p.Arrow true (of_expr y.0).forms refl y.1)

case_expr : (y : Expr-F EachArrow EachExpr EachFor EachProperty EachStmt EachTarget EachCatch EachDeclaration EachFunction EachTemplate) → FixedWritten (written_expr y)
case_expr (Expr-F.Name n) = sound_name n [] sound_none
case_expr (Expr-F.Number n) = sound_kind (tok.Number n) false [] (leaves_number n) sound_none
case_expr (Expr-F.Text t) = sound_kind (tok.Text t) false [] (leaves_text t) sound_none
case_expr Expr-F.True = sound_word r.True [] sound_none
case_expr Expr-F.False = sound_word r.False [] sound_none
case_expr Expr-F.Null = sound_word r.Null [] sound_none
case_expr Expr-F.This = sound_word r.This [] sound_none
case_expr (Expr-F.Template ys t) = sound_template _ t (fixed_parts ys)
case_expr (Expr-F.Array ys) = sound_enclosed p.OpenBracket _ p.CloseBracket refl refl (sound_listed _ (fixed_values ys))
case_expr (Expr-F.Object ys) = sound_object _ (fixed_properties ys)
case_expr (Expr-F.Function n f) = sound_function (option_name n) (of_function f.0) (sound_option_name n) f.1
case_expr (Expr-F.Arrow a ns b) = sound_arrow a ns (of_arrow_body b.0) b.1
case_expr (Expr-F.Group x) = sound_parens _ x.1
case_expr (Expr-F.Unary o x) = sound_deeper 1 _ (sound_unary o _ x.1)
case_expr (Expr-F.Await q x) = sound_deeper 1 _ (sound_word_at q r.Await (of_expr x.0).forms x.1)
case_expr (Expr-F.Update s o x) = sound_update s o (of_target x.0) x.1
case_expr (Expr-F.Binary o x y) = sound_joined o (of_expr x.0) (of_expr y.0) x.1 y.1
case_expr (Expr-F.Conditional test x y) = sound_conditional (of_expr test.0) (of_expr x.0) (of_expr y.0) test.1 x.1 y.1
case_expr (Expr-F.Assign o x y) = sound_assign o (of_target x.0) (of_expr y.0) x.1 y.1
case_expr (Expr-F.Call x ys) = sound_call (of_expr x.0) _ x.1 (fixed_values ys)
case_expr (Expr-F.New n ys) = sound_word r.New _ (sound_name n _ (sound_arguments _ (fixed_values ys)))
case_expr (Expr-F.Member x n) = sound_member (of_expr x.0) n x.1
case_expr (Expr-F.Index x k) = sound_index (of_expr x.0) (of_expr k.0) x.1 k.1

case_for : (y : ForBegin-F EachArrow EachExpr EachFor EachProperty EachStmt EachTarget EachCatch EachDeclaration EachFunction EachTemplate) → Sound (written_for y)
case_for ForBegin-F.Nothing = sound_none
case_for (ForBegin-F.Declarations k ys) = sound_declared k _ (fixed_declarations ys)
case_for (ForBegin-F.Start x) = x.1

case_property : (y : Property-F EachArrow EachExpr EachFor EachProperty EachStmt EachTarget EachCatch EachDeclaration EachFunction EachTemplate) → Sound (written_property y)
case_property (Property-F.Pair k x) = sound_key k _ (sound_sign p.Colon false _ refl x.1)
case_property (Property-F.Short n) = sound_name n [] sound_none
case_property (Property-F.Method k f) = sound_method k (of_function f.0) f.1

sound_test : (x : EachExpr) → Sound (parenthesized (of_expr x.0).forms)
sound_test x = sound_parens (of_expr x.0).forms x.1

sound_head : (b : EachFor) (test update : Option Written) (s : EachStmt) → ValueSound test → ValueSound update → Sound (parenthesized (for_head (of_for b.0) test update) ++ body (of_stmt s.0))
sound_head b test update s v w = sound_append _ _ (sound_parens _ (sound_for_head _ test update b.1 v w)) (sound_body (of_stmt s.0) s.1)

case_stmt : (y : Stmt-F EachArrow EachExpr EachFor EachProperty EachStmt EachTarget EachCatch EachDeclaration EachFunction EachTemplate) → FixedStmt (written_stmt y)
case_stmt (Stmt-F.Declare k ys) = sound_ended _ (sound_declared k _ (fixed_declarations ys))
case_stmt (Stmt-F.DeclareFunction n f) = sound_function (name_forms n) (of_function f.0) (sound_name n [] sound_none) f.1
case_stmt (Stmt-F.Block ys) = sound_block _ (fixed_statements ys)
case_stmt (Stmt-F.If test s None) = sound_word r.If _ (sound_append _ _ (sound_test test) (sound_append _ _ (sound_body (of_stmt s.0) s.1) sound_none))
case_stmt (Stmt-F.If test s (Some t)) = sound_word r.If _ (sound_append _ _ (sound_test test) (sound_append _ _ (sound_body (of_stmt s.0) s.1) (sound_option_else (Some (of_stmt t.0)) t.1)))
case_stmt (Stmt-F.For b None None s) = sound_word r.For _ (sound_head b None None s tt tt)
case_stmt (Stmt-F.For b None (Some update) s) = sound_word r.For _ (sound_head b None (Some (of_expr update.0)) s tt update.1)
case_stmt (Stmt-F.For b (Some test) None s) = sound_word r.For _ (sound_head b (Some (of_expr test.0)) None s test.1 tt)
case_stmt (Stmt-F.For b (Some test) (Some update) s) = sound_word r.For _ (sound_head b (Some (of_expr test.0)) (Some (of_expr update.0)) s test.1 update.1)
case_stmt (Stmt-F.ForOf k n x s) = sound_word r.For _ (sound_append _ _ (sound_parens _ (sound_for_of_head k n (of_expr x.0) x.1)) (sound_body (of_stmt s.0) s.1))
case_stmt (Stmt-F.While test s) = sound_word r.While _ (sound_append _ _ (sound_test test) (sound_body (of_stmt s.0) s.1))
case_stmt (Stmt-F.Break q) = sound_word_at q r.Break _ (sound_end _)
case_stmt (Stmt-F.Continue q) = sound_word_at q r.Continue _ (sound_end _)
case_stmt (Stmt-F.Return q None) = sound_word_at q r.Return _ (sound_ended _ sound_none)
case_stmt (Stmt-F.Return q (Some x)) = sound_word_at q r.Return _ (sound_ended _ (sound_one_line _ x.1))
case_stmt (Stmt-F.Throw x) = sound_word r.Throw _ (sound_ended _ (sound_one_line _ x.1))
case_stmt (Stmt-F.Try ys None None) = sound_word r.Try _ (sound_append _ _ (sound_block _ (fixed_statements ys)) (sound_append _ _ sound_none sound_none))
case_stmt (Stmt-F.Try ys None (Some f)) = sound_word r.Try _ (sound_append _ _ (sound_block _ (fixed_statements ys)) (sound_append _ _ sound_none (sound_option_finally (Some (map of_stmt (map (λ e. e.0) f))) (fixed_statements f))))
case_stmt (Stmt-F.Try ys (Some c) None) = sound_word r.Try _ (sound_append _ _ (sound_block _ (fixed_statements ys)) (sound_append _ _ c.1 sound_none))
case_stmt (Stmt-F.Try ys (Some c) (Some f)) = sound_word r.Try _ (sound_append _ _ (sound_block _ (fixed_statements ys)) (sound_append _ _ c.1 (sound_option_finally (Some (map of_stmt (map (λ e. e.0) f))) (fixed_statements f))))
case_stmt Stmt-F.Empty = sound_end []
case_stmt (Stmt-F.Expr x) = sound_ended _ x.1

case_target : (y : Target-F EachArrow EachExpr EachFor EachProperty EachStmt EachTarget EachCatch EachDeclaration EachFunction EachTemplate) → FixedWritten (written_target y)
case_target (Target-F.Variable n) = sound_name n [] sound_none
case_target (Target-F.Field x n) = sound_member (of_expr x.0) n x.1
case_target (Target-F.Item x k) = sound_index (of_expr x.0) (of_expr k.0) x.1 k.1

case_catch : (y : Catch-F EachArrow EachExpr EachFor EachProperty EachStmt EachTarget EachCatch EachDeclaration EachFunction EachTemplate) → Sound (written_catch y)
case_catch y = by_name y.name
  where
    by_name : (o : Option Name) → Sound (catch_step (record { name = o; body = map of_stmt (map (λ e. e.0) y.body) }))
    by_name None = sound_word r.Catch _ (sound_block _ (fixed_statements y.body))
    by_name (Some n) = sound_word r.Catch _ (sound_append _ _ (sound_parens (name n ∷ []) (sound_name n [] sound_none)) (sound_block _ (fixed_statements y.body)))

case_declaration : (y : Declaration-F EachArrow EachExpr EachFor EachProperty EachStmt EachTarget EachCatch EachDeclaration EachFunction EachTemplate) → Sound (written_declaration y)
case_declaration y = by_value y.value
  where
    by_value : (o : Option EachExpr) → Sound (written_declaration (record { name = y.name; value = o }))
    by_value None = sound_name y.name [] sound_none
    by_value (Some x) = sound_name y.name _ (sound_sign p.Equal false (of_expr x.0).forms refl x.1)

case_function : (y : Function-F EachArrow EachExpr EachFor EachProperty EachStmt EachTarget EachCatch EachDeclaration EachFunction EachTemplate) → FixedFunction (written_function y)
case_function y = sound_append _ _ (sound_parameters y.parameters) (sound_block _ (fixed_statements y.body))

case_template : (y : TemplateItem-F EachArrow EachExpr EachFor EachProperty EachStmt EachTarget EachCatch EachDeclaration EachFunction EachTemplate) → FixedPart (written_template y)
case_template y = y.value.1

-- ---- all trees

step_arrow_body : (x : ArrowBody-F ArrowBody Expr ForBegin Property Stmt Target Catch Declaration Function TemplateItem) (y : ArrowBody-F EachArrow EachExpr EachFor EachProperty EachStmt EachTarget EachCatch EachDeclaration EachFunction EachTemplate) → tree_of_arrow_body y ≡ x → FixedArrow (roll-ArrowBody x)
step_arrow_body x y e = subst (λ (z : ArrowBody-F ArrowBody Expr ForBegin Property Stmt Target Catch Declaration Function TemplateItem). FixedArrow (roll-ArrowBody z)) e (subst Sound (sym (fold-roll-ArrowBody (List Form) Written (List Form) (List Form) WrittenStmt Written (List Form) (List Form) WrittenFunction WrittenPart arrow_body_step expr_step for_step property_step stmt_step target_step catch_step declaration_step function_step template_step (tree_of_arrow_body y))) (case_arrow_body y))

step_expr : (x : Expr-F ArrowBody Expr ForBegin Property Stmt Target Catch Declaration Function TemplateItem) (y : Expr-F EachArrow EachExpr EachFor EachProperty EachStmt EachTarget EachCatch EachDeclaration EachFunction EachTemplate) → tree_of_expr y ≡ x → FixedExpr (roll-Expr x)
step_expr x y e = subst (λ (z : Expr-F ArrowBody Expr ForBegin Property Stmt Target Catch Declaration Function TemplateItem). FixedExpr (roll-Expr z)) e (subst FixedWritten (sym (fold-roll-Expr (List Form) Written (List Form) (List Form) WrittenStmt Written (List Form) (List Form) WrittenFunction WrittenPart arrow_body_step expr_step for_step property_step stmt_step target_step catch_step declaration_step function_step template_step (tree_of_expr y))) (case_expr y))

step_for : (x : ForBegin-F ArrowBody Expr ForBegin Property Stmt Target Catch Declaration Function TemplateItem) (y : ForBegin-F EachArrow EachExpr EachFor EachProperty EachStmt EachTarget EachCatch EachDeclaration EachFunction EachTemplate) → tree_of_for y ≡ x → FixedFor (roll-ForBegin x)
step_for x y e = subst (λ (z : ForBegin-F ArrowBody Expr ForBegin Property Stmt Target Catch Declaration Function TemplateItem). FixedFor (roll-ForBegin z)) e (subst Sound (sym (fold-roll-ForBegin (List Form) Written (List Form) (List Form) WrittenStmt Written (List Form) (List Form) WrittenFunction WrittenPart arrow_body_step expr_step for_step property_step stmt_step target_step catch_step declaration_step function_step template_step (tree_of_for y))) (case_for y))

step_property : (x : Property-F ArrowBody Expr ForBegin Property Stmt Target Catch Declaration Function TemplateItem) (y : Property-F EachArrow EachExpr EachFor EachProperty EachStmt EachTarget EachCatch EachDeclaration EachFunction EachTemplate) → tree_of_property y ≡ x → FixedProperty (roll-Property x)
step_property x y e = subst (λ (z : Property-F ArrowBody Expr ForBegin Property Stmt Target Catch Declaration Function TemplateItem). FixedProperty (roll-Property z)) e (subst Sound (sym (fold-roll-Property (List Form) Written (List Form) (List Form) WrittenStmt Written (List Form) (List Form) WrittenFunction WrittenPart arrow_body_step expr_step for_step property_step stmt_step target_step catch_step declaration_step function_step template_step (tree_of_property y))) (case_property y))

step_stmt : (x : Stmt-F ArrowBody Expr ForBegin Property Stmt Target Catch Declaration Function TemplateItem) (y : Stmt-F EachArrow EachExpr EachFor EachProperty EachStmt EachTarget EachCatch EachDeclaration EachFunction EachTemplate) → tree_of_stmt y ≡ x → FixedStatement (roll-Stmt x)
step_stmt x y e = subst (λ (z : Stmt-F ArrowBody Expr ForBegin Property Stmt Target Catch Declaration Function TemplateItem). FixedStatement (roll-Stmt z)) e (subst FixedStmt (sym (fold-roll-Stmt (List Form) Written (List Form) (List Form) WrittenStmt Written (List Form) (List Form) WrittenFunction WrittenPart arrow_body_step expr_step for_step property_step stmt_step target_step catch_step declaration_step function_step template_step (tree_of_stmt y))) (case_stmt y))

step_target : (x : Target-F ArrowBody Expr ForBegin Property Stmt Target Catch Declaration Function TemplateItem) (y : Target-F EachArrow EachExpr EachFor EachProperty EachStmt EachTarget EachCatch EachDeclaration EachFunction EachTemplate) → tree_of_target y ≡ x → FixedTarget (roll-Target x)
step_target x y e = subst (λ (z : Target-F ArrowBody Expr ForBegin Property Stmt Target Catch Declaration Function TemplateItem). FixedTarget (roll-Target z)) e (subst FixedWritten (sym (fold-roll-Target (List Form) Written (List Form) (List Form) WrittenStmt Written (List Form) (List Form) WrittenFunction WrittenPart arrow_body_step expr_step for_step property_step stmt_step target_step catch_step declaration_step function_step template_step (tree_of_target y))) (case_target y))

step_catch : (x : Catch-F ArrowBody Expr ForBegin Property Stmt Target Catch Declaration Function TemplateItem) (y : Catch-F EachArrow EachExpr EachFor EachProperty EachStmt EachTarget EachCatch EachDeclaration EachFunction EachTemplate) → tree_of_catch y ≡ x → FixedCatch (roll-Catch x)
step_catch x y e = subst (λ (z : Catch-F ArrowBody Expr ForBegin Property Stmt Target Catch Declaration Function TemplateItem). FixedCatch (roll-Catch z)) e (subst Sound (sym (fold-roll-Catch (List Form) Written (List Form) (List Form) WrittenStmt Written (List Form) (List Form) WrittenFunction WrittenPart arrow_body_step expr_step for_step property_step stmt_step target_step catch_step declaration_step function_step template_step (tree_of_catch y))) (case_catch y))

step_declaration : (x : Declaration-F ArrowBody Expr ForBegin Property Stmt Target Catch Declaration Function TemplateItem) (y : Declaration-F EachArrow EachExpr EachFor EachProperty EachStmt EachTarget EachCatch EachDeclaration EachFunction EachTemplate) → tree_of_declaration y ≡ x → FixedDeclaration (roll-Declaration x)
step_declaration x y e = subst (λ (z : Declaration-F ArrowBody Expr ForBegin Property Stmt Target Catch Declaration Function TemplateItem). FixedDeclaration (roll-Declaration z)) e (subst Sound (sym (fold-roll-Declaration (List Form) Written (List Form) (List Form) WrittenStmt Written (List Form) (List Form) WrittenFunction WrittenPart arrow_body_step expr_step for_step property_step stmt_step target_step catch_step declaration_step function_step template_step (tree_of_declaration y))) (case_declaration y))

step_function : (x : Function-F ArrowBody Expr ForBegin Property Stmt Target Catch Declaration Function TemplateItem) (y : Function-F EachArrow EachExpr EachFor EachProperty EachStmt EachTarget EachCatch EachDeclaration EachFunction EachTemplate) → tree_of_function y ≡ x → FixedTreeFunction (roll-Function x)
step_function x y e = subst (λ (z : Function-F ArrowBody Expr ForBegin Property Stmt Target Catch Declaration Function TemplateItem). FixedTreeFunction (roll-Function z)) e (subst FixedFunction (sym (fold-roll-Function (List Form) Written (List Form) (List Form) WrittenStmt Written (List Form) (List Form) WrittenFunction WrittenPart arrow_body_step expr_step for_step property_step stmt_step target_step catch_step declaration_step function_step template_step (tree_of_function y))) (case_function y))

step_template : (x : TemplateItem-F ArrowBody Expr ForBegin Property Stmt Target Catch Declaration Function TemplateItem) (y : TemplateItem-F EachArrow EachExpr EachFor EachProperty EachStmt EachTarget EachCatch EachDeclaration EachFunction EachTemplate) → tree_of_template y ≡ x → FixedTemplate (roll-TemplateItem x)
step_template x y e = subst (λ (z : TemplateItem-F ArrowBody Expr ForBegin Property Stmt Target Catch Declaration Function TemplateItem). FixedTemplate (roll-TemplateItem z)) e (subst FixedPart (sym (fold-roll-TemplateItem (List Form) Written (List Form) (List Form) WrittenStmt Written (List Form) (List Form) WrittenFunction WrittenPart arrow_body_step expr_step for_step property_step stmt_step target_step catch_step declaration_step function_step template_step (tree_of_template y))) (case_template y))

fixed_property : (x : Property) → FixedProperty x
fixed_property = ind-Property FixedArrow FixedExpr FixedFor FixedProperty FixedStatement FixedTarget FixedCatch FixedDeclaration FixedTreeFunction FixedTemplate step_arrow_body step_expr step_for step_property step_stmt step_target step_catch step_declaration step_function step_template

fixed_stmt : (x : Stmt) → FixedStatement x
fixed_stmt = ind-Stmt FixedArrow FixedExpr FixedFor FixedProperty FixedStatement FixedTarget FixedCatch FixedDeclaration FixedTreeFunction FixedTemplate step_arrow_body step_expr step_for step_property step_stmt step_target step_catch step_declaration step_function step_template

-- ---- whole trees

all_properties : (xs : List Property) → AllSound (map of_property xs)
all_properties [] = tt
all_properties (x ∷ xs) = (fixed_property x, all_properties xs)

sound_export : (xs : List Property) → Sound (of_export xs)
sound_export xs = sound_word r.Export _ (sound_word r.Default _ (sound_object (map of_property xs) (all_properties xs)))

sound_export_end : (is : List Item) (gs : List Form) → Sound gs → Sound (export_end is ∷ gs)
sound_export_end [] gs s = sound_maybe_end gs s
sound_export_end (item.Export xs ∷ is) gs s = sound_maybe_end gs s
sound_export_end (item.Stmt t ∷ is) gs s = by_test (is_empty t)
  where
    by_test : (b : Bool) → Sound (cond b (just p.Semicolon) (maybe (sign p.Semicolon)) ∷ gs)
    by_test true = sound_sign p.Semicolon false gs refl s
    by_test false = sound_maybe_end gs s

pub sound_tree : (is : List Item) → Sound (of_tree is)
sound_tree [] = sound_none
sound_tree (item.Stmt s ∷ is) = sound_append (of_stmt s).forms (of_tree is) (fixed_stmt s) (sound_tree is)
sound_tree (item.Export xs ∷ is) = sound_append (of_export xs) (export_end is ∷ of_tree is) (sound_export xs) (sound_export_end is (of_tree is) (sound_tree is))
