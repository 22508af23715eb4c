-- Lists of parts, and parts that may be missing, at other places.
use Rattle.std.proofs.Common.{◌≡◌, ℕ, Bool, List, [], ◌∷◌, ◌++◌, map, Option, Some, None, option_map, refl, sym, ap, ap₂, subst}
use Rattle.js_lex.specs.declared.token.Reserved.TheVariants as r
use Rattle.js_lex.specs.declared.token.TemplatePart.{TemplatePart}
use Rattle.js_lex.specs.declared.token.TemplatePart.TheVariants as part
use Rattle.js_tree.specs.declared.tree.Expr.{Expr}
use Rattle.js_tree.specs.declared.tree.Property.{Property}
use Rattle.js_tree.specs.declared.tree.Stmt.{Stmt}
use Rattle.js_tree.specs.declared.tree.Catch.{Catch}
use Rattle.js_tree.specs.declared.tree.Declaration.{Declaration}
use Rattle.js_tree.specs.declared.tree.TemplateItem.{TemplateItem}
use Rattle.js_grammar.specs.Marks.{Form, more}
use Rattle.js_grammar.specs.Grammar.{WrittenPart, values, statements, template_mark, template_rest, option_value, option_else, option_finally, optional, of_expr, of_property, of_stmt, of_catch, of_declaration, of_template}
use Rattle.js_grammar.specs.Shapes.{Shape, StmtShape, DeclaredShape, joining, accessing, shaped, at_least, primary, updating, all_true, all_fit, all_statements_fit, Brace, FunctionWord, OtherFirst, operand_level, prefix_level, declarations_fit, item_only, loop, branching, value_fits, catch_fits, finally_fits, handles, is_other}
use Rattle.js_grammar.specs.Shapes as shape
use Rattle.js_print.specs.Same as like
use Rattle.js_print.specs.Same.{unplaced_name, unplaced_key}
use Rattle.js_print.proofs.Filled.{rest, behind, Fills, fills_none, fills_append, fills_fixed, fills_only, fills_word, fills_more, fills_body, fills_statements, fills_block}
use Rattle.js_print.proofs.Moved.{FilledPart, MovedExpr, EachExpr, MovedProperty, EachProperty, MovedStmt, EachStmt, EachCatch, MovedDeclaration, EachDeclaration, MovedTemplate, EachTemplate}

-- ---- lists of parts, each behind a comma

pub record MovedValues (ys : List EachExpr) (qs : List ℕ) : Type 0 where
  pub again : List Expr
  pub like : map like.of_expr again ≡ map like.of_expr (map (λ e. e.0) ys)
  pub shape : map shape.of_expr again ≡ map shape.of_expr (map (λ e. e.0) ys)
  pub filled : Fills qs (more (values (map of_expr (map (λ e. e.0) ys)))) (more (values (map of_expr again)))

pub moved_values : (ys : List EachExpr) (qs : List ℕ) → MovedValues ys qs
moved_values [] qs = record { again = []; like = refl; shape = refl; filled = fills_none qs }
moved_values (y ∷ ys) qs =
    let a : MovedExpr y.0 (rest qs) = y.1 (rest qs) in
    let b : MovedValues ys (behind (of_expr y.0).forms (rest qs)) = moved_values ys (behind (of_expr y.0).forms (rest qs)) in
    record {
      again = a.again ∷ b.again;
      like = ap₂ (λ (u : Expr) (v : List Expr). u ∷ v) a.like b.like;
      shape = ap₂ (λ (u : Shape) (v : List Shape). u ∷ v) a.shape b.shape;
      filled = fills_more qs (of_expr y.0).forms (of_expr a.again).forms _ _ a.filled.forms b.filled;
    }

pub record MovedProperties (ys : List EachProperty) (qs : List ℕ) : Type 0 where
  pub again : List Property
  pub like : map like.of_property again ≡ map like.of_property (map (λ e. e.0) ys)
  pub shape : map shape.of_property again ≡ map shape.of_property (map (λ e. e.0) ys)
  pub filled : Fills qs (more (map of_property (map (λ e. e.0) ys))) (more (map of_property again))

pub moved_properties : (ys : List EachProperty) (qs : List ℕ) → MovedProperties ys qs
moved_properties [] qs = record { again = []; like = refl; shape = refl; filled = fills_none qs }
moved_properties (y ∷ ys) qs =
    let a : MovedProperty y.0 (rest qs) = y.1 (rest qs) in
    let b : MovedProperties ys (behind (of_property y.0) (rest qs)) = moved_properties ys (behind (of_property y.0) (rest qs)) in
    record {
      again = a.again ∷ b.again;
      like = ap₂ (λ (u : Property) (v : List Property). u ∷ v) a.like b.like;
      shape = ap₂ (λ (u : Bool) (v : List Bool). u ∷ v) a.shape b.shape;
      filled = fills_more qs (of_property y.0) (of_property a.again) _ _ a.filled b.filled;
    }

pub record MovedDeclarations (ys : List EachDeclaration) (qs : List ℕ) : Type 0 where
  pub again : List Declaration
  pub like : map like.of_declaration again ≡ map like.of_declaration (map (λ e. e.0) ys)
  pub shape : map shape.of_declaration again ≡ map shape.of_declaration (map (λ e. e.0) ys)
  pub filled : Fills qs (more (map of_declaration (map (λ e. e.0) ys))) (more (map of_declaration again))

pub moved_declarations : (ys : List EachDeclaration) (qs : List ℕ) → MovedDeclarations ys qs
moved_declarations [] qs = record { again = []; like = refl; shape = refl; filled = fills_none qs }
moved_declarations (y ∷ ys) qs =
    let a : MovedDeclaration y.0 (rest qs) = y.1 (rest qs) in
    let b : MovedDeclarations ys (behind (of_declaration y.0) (rest qs)) = moved_declarations ys (behind (of_declaration y.0) (rest qs)) in
    record {
      again = a.again ∷ b.again;
      like = ap₂ (λ (u : Declaration) (v : List Declaration). u ∷ v) a.like b.like;
      shape = ap₂ (λ (u : DeclaredShape) (v : List DeclaredShape). u ∷ v) a.shape b.shape;
      filled = fills_more qs (of_declaration y.0) (of_declaration a.again) _ _ a.filled b.filled;
    }

pub record MovedStatements (ys : List EachStmt) (qs : List ℕ) : Type 0 where
  pub again : List Stmt
  pub like : map like.of_stmt again ≡ map like.of_stmt (map (λ e. e.0) ys)
  pub shape : map shape.of_stmt again ≡ map shape.of_stmt (map (λ e. e.0) ys)
  pub filled : Fills qs (statements (map of_stmt (map (λ e. e.0) ys))) (statements (map of_stmt again))

pub moved_statements : (ys : List EachStmt) (qs : List ℕ) → MovedStatements ys qs
moved_statements [] qs = record { again = []; like = refl; shape = refl; filled = fills_none qs }
moved_statements (y ∷ ys) qs =
    let a : MovedStmt y.0 qs = y.1 qs in
    let b : MovedStatements ys (behind (of_stmt y.0).forms qs) = moved_statements ys (behind (of_stmt y.0).forms qs) in
    record {
      again = a.again ∷ b.again;
      like = ap₂ (λ (u : Stmt) (v : List Stmt). u ∷ v) a.like b.like;
      shape = ap₂ (λ (u : StmtShape) (v : List StmtShape). u ∷ v) a.shape b.shape;
      filled = fills_statements qs (of_stmt y.0) (of_stmt a.again) (map of_stmt (map (λ e. e.0) ys)) (map of_stmt b.again) a.filled.forms b.filled;
    }

pub record MovedParts (ys : List EachTemplate) (t : List ℕ) (qs : List ℕ) : Type 0 where
  pub again : List TemplateItem
  pub like : map like.of_template again ≡ map like.of_template (map (λ e. e.0) ys)
  pub shape : map shape.of_template again ≡ map shape.of_template (map (λ e. e.0) ys)
  pub filled : Fills qs (template_rest (map of_template (map (λ e. e.0) ys)) t) (template_rest (map of_template again) t)

pub fills_part : (k : TemplatePart) (qs : List ℕ) (w v : WrittenPart) (fs gs : List Form) → FilledPart (rest qs) w v → Fills (behind w.value (rest qs)) fs gs → Fills qs (template_mark k w.units ∷ (w.value ++ fs)) (template_mark k v.units ∷ (v.value ++ gs))
fills_part k qs w v fs gs h b =
    subst (λ (z : List ℕ). Fills qs (template_mark k w.units ∷ (w.value ++ fs)) (template_mark k z ∷ (v.value ++ gs))) (sym h.units)
    (fills_fixed qs (template_mark k w.units) _ _ (record { same = λ q. refl }) (fills_append (rest qs) w.value v.value fs gs h.value b))

pub moved_parts : (ys : List EachTemplate) (t : List ℕ) (qs : List ℕ) → MovedParts ys t qs
moved_parts [] t qs = record { again = []; like = refl; shape = refl; filled = fills_only qs (template_mark part.Tail t) (record { same = λ q. refl }) }
moved_parts (y ∷ ys) t qs =
    let a : MovedTemplate y.0 (rest qs) = y.1 (rest qs) in
    let b : MovedParts ys t (behind (of_template y.0).value (rest qs)) = moved_parts ys t (behind (of_template y.0).value (rest qs)) in
    record {
      again = a.again ∷ b.again;
      like = ap₂ (λ (u : TemplateItem) (v : List TemplateItem). u ∷ v) a.like b.like;
      shape = ap₂ (λ (u : Bool) (v : List Bool). u ∷ v) a.shape b.shape;
      filled = fills_part part.Middle qs (of_template y.0) (of_template a.again) _ _ a.filled b.filled;
    }

-- a value or none
pub record MovedOption (o : Option EachExpr) (qs : List ℕ) : Type 0 where
  pub again : Option Expr
  pub like : option_map like.of_expr again ≡ option_map like.of_expr (option_map (λ e. e.0) o)
  pub shape : option_map shape.of_expr again ≡ option_map shape.of_expr (option_map (λ e. e.0) o)
  pub filled : Fills qs (option_value (option_map of_expr (option_map (λ e. e.0) o))) (option_value (option_map of_expr again))

abbrev pub moved_option : (o : Option EachExpr) (qs : List ℕ) → MovedOption o qs
moved_option None qs = record { again = None; like = refl; shape = refl; filled = fills_none qs }
moved_option (Some x) qs =
    let a = x.1 qs in
    record {
      again = Some a.again;
      like = ap (λ (z : Expr). Some z) a.like;
      shape = ap (λ (z : Shape). Some z) a.shape;
      filled = a.filled.forms;
    }

pub record MovedElse (o : Option EachStmt) (qs : List ℕ) : Type 0 where
  pub again : Option Stmt
  pub like : option_map like.of_stmt again ≡ option_map like.of_stmt (option_map (λ e. e.0) o)
  pub shape : option_map shape.of_stmt again ≡ option_map shape.of_stmt (option_map (λ e. e.0) o)
  pub filled : Fills qs (option_else (option_map of_stmt (option_map (λ e. e.0) o))) (option_else (option_map of_stmt again))

abbrev pub moved_else : (o : Option EachStmt) (qs : List ℕ) → MovedElse o qs
moved_else None qs = record { again = None; like = refl; shape = refl; filled = fills_none qs }
moved_else (Some x) qs =
    let a = x.1 (rest qs) in
    record {
      again = Some a.again;
      like = ap (λ (z : Stmt). Some z) a.like;
      shape = ap (λ (z : StmtShape). Some z) a.shape;
      filled = fills_word qs r.Else _ _ (fills_body (rest qs) (of_stmt x.0) (of_stmt a.again) a.filled);
    }

pub record MovedOptionCatch (o : Option EachCatch) (qs : List ℕ) : Type 0 where
  pub again : Option Catch
  pub like : option_map like.of_catch again ≡ option_map like.of_catch (option_map (λ e. e.0) o)
  pub shape : option_map shape.of_catch again ≡ option_map shape.of_catch (option_map (λ e. e.0) o)
  pub filled : Fills qs (optional (option_map of_catch (option_map (λ e. e.0) o))) (optional (option_map of_catch again))

abbrev pub moved_catch : (o : Option EachCatch) (qs : List ℕ) → MovedOptionCatch o qs
moved_catch None qs = record { again = None; like = refl; shape = refl; filled = fills_none qs }
moved_catch (Some x) qs =
    let a = x.1 qs in
    record {
      again = Some a.again;
      like = ap (λ (z : Catch). Some z) a.like;
      shape = ap (λ (z : Bool). Some z) a.shape;
      filled = a.filled;
    }

pub record MovedFinally (o : Option (List EachStmt)) (qs : List ℕ) : Type 0 where
  pub again : Option (List Stmt)
  pub like : option_map (map like.of_stmt) again ≡ option_map (map like.of_stmt) (option_map (map (λ e. e.0)) o)
  pub shape : option_map (map shape.of_stmt) again ≡ option_map (map shape.of_stmt) (option_map (map (λ e. e.0)) o)
  pub filled : Fills qs (option_finally (option_map (map of_stmt) (option_map (map (λ e. e.0)) o))) (option_finally (option_map (map of_stmt) again))

abbrev pub moved_finally : (o : Option (List EachStmt)) (qs : List ℕ) → MovedFinally o qs
moved_finally None qs = record { again = None; like = refl; shape = refl; filled = fills_none qs }
moved_finally (Some ys) qs =
    let a = moved_statements ys (rest (rest qs)) in
    record {
      again = Some a.again;
      like = ap (λ (z : List Stmt). Some z) a.like;
      shape = ap (λ (z : List StmtShape). Some z) a.shape;
      filled = fills_word qs r.Finally _ _ (fills_block (rest qs) (map of_stmt (map (λ e. e.0) ys)) (map of_stmt a.again) a.filled);
    }
