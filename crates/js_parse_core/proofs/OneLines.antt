-- An expression on one line: the pieces are its own, and the first one follows no line end.
use Rattle.std.proofs.Common.{◌≡◌, ℕ, Bool, true, false, List, [], ◌∷◌, ◌++◌, map, refl, sym, ap, ◌∙◌, subst, inl, inr}
use Rattle.std.specs.Prelude.{◌&&◌}
use Rattle.std.proofs.lemmas.Bool.{and_parts}
use Rattle.js_lex.specs.declared.token.Token.{Token}
use Rattle.js_tree.specs.declared.tree.Name.{Name}
use Rattle.js_tree.specs.declared.tree.UnaryOp.{UnaryOp}
use Rattle.js_tree.specs.declared.tree.UnaryOp.TheVariants as unary
use Rattle.js_tree.specs.declared.tree.UpdateSide.{UpdateSide}
use Rattle.js_tree.specs.declared.tree.UpdateSide.TheVariants as side
use Rattle.js_tree.specs.declared.tree.UpdateOp.{UpdateOp}
use Rattle.js_tree.specs.declared.tree.ArrowBody.TheOpen.{Expr-F, Target-F}
use Rattle.js_tree.specs.declared.tree.ArrowBody.TheFolds.{map-Expr, map-Target, fold-roll-Expr, fold-roll-Target, ind-Expr}
use Rattle.js_tree.specs.declared.tree.ArrowBody.{ArrowBody}
use Rattle.js_tree.specs.declared.tree.Expr.{Expr, roll-Expr}
use Rattle.js_tree.specs.declared.tree.ForBegin.{ForBegin}
use Rattle.js_tree.specs.declared.tree.Property.{Property}
use Rattle.js_tree.specs.declared.tree.Stmt.{Stmt}
use Rattle.js_tree.specs.declared.tree.Target.{Target, roll-Target}
use Rattle.js_tree.specs.declared.tree.Catch.{Catch}
use Rattle.js_tree.specs.declared.tree.Declaration.{Declaration}
use Rattle.js_tree.specs.declared.tree.Function.{Function}
use Rattle.js_tree.specs.declared.tree.TemplateItem.{TemplateItem}
use Rattle.js_grammar.specs.Marks.{Piece, Read, Ended, Want, Just, At, Auto, Mark, Form, IsWanted, deeper, first_unbroken, on_one_line}
use Rattle.js_grammar.specs.Grammar.{Written, WrittenStmt, WrittenFunction, WrittenPart, arrow_body_step, expr_step, for_step, property_step, stmt_step, target_step, catch_step, declaration_step, function_step, template_step, of_arrow_body, of_expr, of_for, of_property, of_stmt, of_target, of_catch, of_declaration, of_function, of_template, function, arrow, template, unary_form, update_forms}
use Rattle.js_parse_core.proofs.Pieces.{Spells, SpellsOne, Fits}
use Rattle.js_parse_core.proofs.Readings.{FirstOn}
use Rattle.js_parse_core.proofs.ValueSteps.{OneLine}

-- ---- forms that begin with a token

abbrev is_token : Want → Bool
is_token Auto = false
is_token _ = true

abbrev begins_solid : List Mark → Bool
begins_solid [] = false
begins_solid (m ∷ ms) = is_token m.want

-- each of its readings begins with a token
abbrev solid_form : Form → Bool
solid_form [] = true
solid_form (ms ∷ f) = begins_solid ms && solid_form f

abbrev solid : List Form → Bool
solid [] = false
solid (f ∷ fs) = solid_form f

solid_append : (fs gs : List Form) → solid fs ≡ true → solid (fs ++ gs) ≡ true
solid_append [] gs h = cc
solid_append (f ∷ fs) gs h = h

-- a token with no line end before it, and others
record OnLine (ps : List Piece) : Type 0 where
  token : Token
  others : List Piece
  are : ps ≡ Read token ∷ others
  line : token.after_line_end ≡ false

wanted_line : (w : Want) (u : Bool) (q : Piece) (others ps : List Piece) → is_token w ≡ true → ps ≡ q ∷ others → IsWanted w true q → IsWanted w u q × OnLine ps
wanted_line (Just k) true (Read t) others ps h e w = (w, record { token = t; others = others; are = e; line = w.1 })
wanted_line (Just k) false (Read t) others ps h e w = ((w.0, tt), record { token = t; others = others; are = e; line = w.1 })
wanted_line (Just k) u Ended others ps h e w = absurd w
wanted_line (At p k) true (Read t) others ps h e w = (w, record { token = t; others = others; are = e; line = w.2 })
wanted_line (At p k) false (Read t) others ps h e w = ((w.0, w.1, tt), record { token = t; others = others; are = e; line = w.2 })
wanted_line (At p k) u Ended others ps h e w = absurd w
wanted_line Auto u q others ps h e w = cc

spells_line : (ms : List Mark) (ps : List Piece) → begins_solid ms ≡ true → Spells (first_unbroken ms) ps → Spells ms ps × OnLine ps
spells_line [] ps h s = cc
spells_line (m ∷ ms) ps h s =
    let d = wanted_line m.want m.unbroken s.0 s.1 ps h s.2 s.3 in
    ((s.0, s.1, s.2, d.0, s.4), d.1)

form_line : (f : Form) (ps : List Piece) → solid_form f ≡ true → SpellsOne (map first_unbroken f) ps → SpellsOne f ps × OnLine ps
form_line [] ps h s = absurd s
form_line (ms ∷ f) ps h s = elim s [
  | inl a ↦ (let d = spells_line ms ps (and_parts (begins_solid ms) (solid_form f) h).0 a in (inl d.0, d.1))
  | inr b ↦ (let d = form_line f ps (and_parts (begins_solid ms) (solid_form f) h).1 b in (inr d.0, d.1))
]

first_on : (a b ps rest : List Piece) → ps ≡ a ++ b → OnLine a → FirstOn true (ps ++ rest)
first_on a b ps rest e l = subst (λ (z : List Piece). FirstOn true (z ++ rest)) (sym (e ∙ ap (λ (z : List Piece). z ++ b) l.are)) l.line

forms_line : (fs : List Form) (ps rest : List Piece) → solid fs ≡ true → Fits (on_one_line fs) ps → Fits fs ps × FirstOn true (ps ++ rest)
forms_line [] ps rest h s = cc
forms_line (f ∷ fs) ps rest h s =
    let d = form_line f s.0 h s.3 in
    ((s.0, s.1, s.2, d.0, s.4), first_on s.0 s.1 ps rest s.2 d.1)

-- ---- all expressions

abbrev SolidExpr : Expr → Type 0
SolidExpr x = solid (of_expr x).forms ≡ true

abbrev SolidTarget : Target → Type 0
SolidTarget x = solid (of_target x).forms ≡ true

abbrev EachExpr : Type 0
EachExpr = (x : Expr) × SolidExpr x

abbrev EachTarget : Type 0
EachTarget = (x : Target) × SolidTarget x

abbrev EachArrowBody : Type 0
EachArrowBody = (x : ArrowBody) × Unit {0}

abbrev EachForBegin : Type 0
EachForBegin = (x : ForBegin) × Unit {0}

abbrev EachProperty : Type 0
EachProperty = (x : Property) × Unit {0}

abbrev EachStmt : Type 0
EachStmt = (x : Stmt) × Unit {0}

abbrev EachCatch : Type 0
EachCatch = (x : Catch) × Unit {0}

abbrev EachDeclaration : Type 0
EachDeclaration = (x : Declaration) × Unit {0}

abbrev EachFunction : Type 0
EachFunction = (x : Function) × Unit {0}

abbrev EachTemplateItem : Type 0
EachTemplateItem = (x : TemplateItem) × Unit {0}

abbrev tree_of_expr : Expr-F EachArrowBody EachExpr EachForBegin EachProperty EachStmt EachTarget EachCatch EachDeclaration EachFunction EachTemplateItem → Expr-F ArrowBody Expr ForBegin Property Stmt Target Catch Declaration Function TemplateItem
tree_of_expr y = map-Expr EachArrowBody EachExpr EachForBegin EachProperty EachStmt EachTarget EachCatch EachDeclaration EachFunction EachTemplateItem ArrowBody Expr ForBegin Property Stmt Target Catch Declaration Function TemplateItem (λ e. e.0) (λ e. e.0) (λ e. e.0) (λ e. e.0) (λ e. e.0) (λ e. e.0) (λ e. e.0) (λ e. e.0) (λ e. e.0) (λ e. e.0) y

abbrev written_expr : Expr-F EachArrowBody EachExpr EachForBegin EachProperty EachStmt EachTarget EachCatch EachDeclaration EachFunction EachTemplateItem → Written
written_expr y = expr_step (map-Expr ArrowBody Expr ForBegin Property Stmt Target Catch Declaration Function TemplateItem (List Form) Written (List Form) (List Form) WrittenStmt Written (List Form) (List Form) WrittenFunction WrittenPart of_arrow_body of_expr of_for of_property of_stmt of_target of_catch of_declaration of_function of_template (tree_of_expr y))

abbrev tree_of_target : Target-F EachArrowBody EachExpr EachForBegin EachProperty EachStmt EachTarget EachCatch EachDeclaration EachFunction EachTemplateItem → Target-F ArrowBody Expr ForBegin Property Stmt Target Catch Declaration Function TemplateItem
tree_of_target y = map-Target EachArrowBody EachExpr EachForBegin EachProperty EachStmt EachTarget EachCatch EachDeclaration EachFunction EachTemplateItem ArrowBody Expr ForBegin Property Stmt Target Catch Declaration Function TemplateItem (λ e. e.0) (λ e. e.0) (λ e. e.0) (λ e. e.0) (λ e. e.0) (λ e. e.0) (λ e. e.0) (λ e. e.0) (λ e. e.0) (λ e. e.0) y

abbrev written_target : Target-F EachArrowBody EachExpr EachForBegin EachProperty EachStmt EachTarget EachCatch EachDeclaration EachFunction EachTemplateItem → Written
written_target y = target_step (map-Target ArrowBody Expr ForBegin Property Stmt Target Catch Declaration Function TemplateItem (List Form) Written (List Form) (List Form) WrittenStmt Written (List Form) (List Form) WrittenFunction WrittenPart of_arrow_body of_expr of_for of_property of_stmt of_target of_catch of_declaration of_function of_template (tree_of_target y))

solid_function : (named : List Form) (f : WrittenFunction) (b : Bool) → solid (function named (record { is_async = b; forms = f.forms })) ≡ true
solid_function named f true = refl
solid_function named f false = refl

solid_arrow : (a : Bool) (ns : List Name) (b : List Form) → solid (arrow a ns b) ≡ true
solid_arrow true ns b = refl
solid_arrow false [] b = refl
solid_arrow false (n ∷ []) b = refl
solid_arrow false (n ∷ m ∷ ns) b = refl

solid_template : (is : List WrittenPart) (u : List ℕ) → solid (template is u) ≡ true
solid_template [] u = refl
solid_template (i ∷ is) u = refl

solid_unary : (o : UnaryOp) (fs : List Form) → solid (deeper 1 (unary_form o ∷ fs)) ≡ true
solid_unary unary.Not fs = refl
solid_unary unary.Negate fs = refl
solid_unary unary.TypeOf fs = refl

solid_update : (s : UpdateSide) (o : UpdateOp) (x : Written) → solid x.forms ≡ true → solid (update_forms s o x) ≡ true
solid_update side.Before o x h = refl
solid_update side.Behind o x h = solid_append x.forms _ h

case_expr : (y : Expr-F EachArrowBody EachExpr EachForBegin EachProperty EachStmt EachTarget EachCatch EachDeclaration EachFunction EachTemplateItem) → solid (written_expr y).forms ≡ true
case_expr (Expr-F.Name n) = refl
case_expr (Expr-F.Number n) = refl
case_expr (Expr-F.Text t) = refl
case_expr Expr-F.True = refl
case_expr Expr-F.False = refl
case_expr Expr-F.Null = refl
case_expr Expr-F.This = refl
case_expr (Expr-F.Template ys t) = solid_template _ t
case_expr (Expr-F.Array ys) = refl
case_expr (Expr-F.Object ys) = refl
case_expr (Expr-F.Function n f) = solid_function _ (of_function f.0) (of_function f.0).is_async
case_expr (Expr-F.Arrow a ns b) = solid_arrow a ns _
case_expr (Expr-F.Group x) = refl
case_expr (Expr-F.Unary o x) = solid_unary o (of_expr x.0).forms
case_expr (Expr-F.Await q x) = refl
case_expr (Expr-F.Update s o x) = solid_update s o (of_target x.0) x.1
case_expr (Expr-F.Binary o x y) = solid_append (of_expr x.0).forms _ x.1
case_expr (Expr-F.Conditional test x y) = solid_append (of_expr test.0).forms _ test.1
case_expr (Expr-F.Assign o x y) = solid_append (of_target x.0).forms _ x.1
case_expr (Expr-F.Call x ys) = solid_append (of_expr x.0).forms _ x.1
case_expr (Expr-F.New n ys) = refl
case_expr (Expr-F.Member x n) = solid_append (of_expr x.0).forms _ x.1
case_expr (Expr-F.Index x k) = solid_append (of_expr x.0).forms _ x.1

case_target : (y : Target-F EachArrowBody EachExpr EachForBegin EachProperty EachStmt EachTarget EachCatch EachDeclaration EachFunction EachTemplateItem) → solid (written_target y).forms ≡ true
case_target (Target-F.Variable n) = refl
case_target (Target-F.Field x n) = solid_append (of_expr x.0).forms _ x.1
case_target (Target-F.Item x k) = solid_append (of_expr x.0).forms _ x.1

step_expr : (x : Expr-F ArrowBody Expr ForBegin Property Stmt Target Catch Declaration Function TemplateItem) (y : Expr-F EachArrowBody EachExpr EachForBegin EachProperty EachStmt EachTarget EachCatch EachDeclaration EachFunction EachTemplateItem) → tree_of_expr y ≡ x → SolidExpr (roll-Expr x)
step_expr x y e = subst (λ (z : Expr-F ArrowBody Expr ForBegin Property Stmt Target Catch Declaration Function TemplateItem). SolidExpr (roll-Expr z)) e
    (subst (λ (z : Written). solid z.forms ≡ true) (sym (fold-roll-Expr (List Form) Written (List Form) (List Form) WrittenStmt Written (List Form) (List Form) WrittenFunction WrittenPart arrow_body_step expr_step for_step property_step stmt_step target_step catch_step declaration_step function_step template_step (tree_of_expr y))) (case_expr y))

step_target : (x : Target-F ArrowBody Expr ForBegin Property Stmt Target Catch Declaration Function TemplateItem) (y : Target-F EachArrowBody EachExpr EachForBegin EachProperty EachStmt EachTarget EachCatch EachDeclaration EachFunction EachTemplateItem) → tree_of_target y ≡ x → SolidTarget (roll-Target x)
step_target x y e = subst (λ (z : Target-F ArrowBody Expr ForBegin Property Stmt Target Catch Declaration Function TemplateItem). SolidTarget (roll-Target z)) e
    (subst (λ (z : Written). solid z.forms ≡ true) (sym (fold-roll-Target (List Form) Written (List Form) (List Form) WrittenStmt Written (List Form) (List Form) WrittenFunction WrittenPart arrow_body_step expr_step for_step property_step stmt_step target_step catch_step declaration_step function_step template_step (tree_of_target y))) (case_target y))

solid_expr : (x : Expr) → SolidExpr x
solid_expr = ind-Expr (λ (x : ArrowBody). Unit {0}) SolidExpr (λ (x : ForBegin). Unit {0}) (λ (x : Property). Unit {0}) (λ (x : Stmt). Unit {0}) SolidTarget (λ (x : Catch). Unit {0}) (λ (x : Declaration). Unit {0}) (λ (x : Function). Unit {0}) (λ (x : TemplateItem). Unit {0}) (λ x y e. tt) step_expr (λ x y e. tt) (λ x y e. tt) (λ x y e. tt) step_target (λ x y e. tt) (λ x y e. tt) (λ x y e. tt) (λ x y e. tt)

-- the first token has no line end before it, and all are those of x
pub one_line : (x : Expr) → OneLine x
one_line x = λ ps rest h. forms_line (of_expr x).forms ps rest (solid_expr x) h
