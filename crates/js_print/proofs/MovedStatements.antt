-- Statements and their parts at other places.
use Rattle.std.proofs.Common.{ℕ, Bool, ◌&&◌, List, [], ◌∷◌, ◌++◌, map, Option, Some, None, option_map, refl, ap, ap₂}
use Rattle.js_lex.specs.declared.token.Punctuator.TheVariants as p
use Rattle.js_lex.specs.declared.token.Reserved.TheVariants as r
use Rattle.js_tree.specs.declared.tree.Name.{Name}
use Rattle.js_tree.specs.declared.tree.ArrowBody.TheOpen.{Stmt-F, Catch-F, Declaration-F, Function-F, TemplateItem-F}
use Rattle.js_tree.specs.declared.tree.Expr.{Expr}
use Rattle.js_tree.specs.declared.tree.ForBegin.{ForBegin}
use Rattle.js_tree.specs.declared.tree.Stmt.{Stmt, roll-Stmt}
use Rattle.js_tree.specs.declared.tree.Catch.{Catch, roll-Catch}
use Rattle.js_tree.specs.declared.tree.Declaration.{Declaration, roll-Declaration}
use Rattle.js_tree.specs.declared.tree.Function.{Function, roll-Function}
use Rattle.js_tree.specs.declared.tree.TemplateItem.{roll-TemplateItem}
use Rattle.js_grammar.specs.Marks.{Form, just}
use Rattle.js_grammar.specs.Grammar.{Written, WrittenStmt, block, parenthesized, parameters, name, name_forms, declare_word, for_head, for_of_head, body, option_value, optional, other, of_word, of_expr, of_for, of_stmt, of_catch, of_function}
use Rattle.js_grammar.specs.Shapes.{Shape, StmtShape, DeclaredShape, joining, accessing, shaped, at_least, primary, updating, all_true, all_fit, all_statements_fit, Brace, FunctionWord, OtherFirst, operand_level, prefix_level, declarations_fit, item_only, loop, branching, value_fits, catch_fits, finally_fits, handles, is_other}
use Rattle.js_grammar.specs.Shapes as shape
use Rattle.js_print.specs.Same.{unplaced_name}
use Rattle.js_print.proofs.Filled.{rest, behind, Fills, fills_none, fills_append, fills_fixed, fills_only, fixed_sign, fills_sign, fills_word, fills_end, fills_ended, fills_one_line, fills_enclosed, place_at, moved_name, fills_name, fills_word_at, fills_separated, same_names, moved_parameters, fills_parameters, after_async, FilledStmt, fills_body, fills_block}
use Rattle.js_print.proofs.Moved.{EachArrow, EachExpr, EachFor, EachProperty, EachStmt, EachTarget, EachCatch, EachDeclaration, EachFunction, EachTemplate, LayerStmt, LayerCatch, LayerDeclaration, LayerFunction, LayerTemplate, ap₃, ap₄}
use Rattle.js_print.proofs.MovedLists.{moved_declarations, moved_statements, moved_option, moved_else, moved_catch, moved_finally}
use Rattle.js_print.proofs.MovedValues.{fills_function}

pub case_declaration : (y : Declaration-F EachArrow EachExpr EachFor EachProperty EachStmt EachTarget EachCatch EachDeclaration EachFunction EachTemplate) (qs : List ℕ) → LayerDeclaration y qs
case_declaration y qs = by_value y.value
  where
    by_value : (o : Option EachExpr) → LayerDeclaration (record { name = y.name; value = o }) qs
    by_value None = record { node = record { name = moved_name qs y.name; value = None }; like = refl; shape = refl; filled = fills_name qs y.name [] [] (fills_none _) }
    by_value (Some x) =
        let a = x.1 (rest (rest qs)) in
        record {
          node = record { name = moved_name qs y.name; value = Some a.again };
          like = ap (λ (z : Expr). roll-Declaration (record { name = unplaced_name y.name; value = Some z })) a.like;
          shape = ap (λ (z : Shape). shape.declaration_step (record { name = y.name; value = Some z })) a.shape;
          filled = fills_name qs y.name _ _ (fills_sign (rest qs) p.Equal _ _ a.filled.forms);
        }

pub case_catch : (y : Catch-F EachArrow EachExpr EachFor EachProperty EachStmt EachTarget EachCatch EachDeclaration EachFunction EachTemplate) (qs : List ℕ) → LayerCatch y qs
case_catch y qs = by_name y.name
  where
    by_name : (o : Option Name) → LayerCatch (record { name = o; body = y.body }) qs
    by_name None =
        let a = moved_statements y.body (rest (rest qs)) in
        record {
          node = record { name = None; body = a.again };
          like = ap (λ (z : List Stmt). roll-Catch (record { name = None; body = z })) a.like;
          shape = ap all_statements_fit a.shape;
          filled = fills_word qs r.Catch _ _ (fills_block (rest qs) (map of_stmt (map (λ e. e.0) y.body)) (map of_stmt a.again) a.filled);
        }
    by_name (Some n) =
        let q2 : List ℕ = behind (parenthesized (name n ∷ [])) (rest qs) in
        let a = moved_statements y.body (rest q2) in
        record {
          node = record { name = Some (moved_name (rest (rest qs)) n); body = a.again };
          like = ap (λ (z : List Stmt). roll-Catch (record { name = Some (unplaced_name n); body = z })) a.like;
          shape = ap all_statements_fit a.shape;
          filled = fills_word qs r.Catch _ _ (fills_append (rest qs) (parenthesized (name n ∷ [])) _ _ _
              (fills_enclosed (rest qs) p.OpenParen p.CloseParen _ _ (fills_name (rest (rest qs)) n [] [] (fills_none _)))
              (fills_block q2 (map of_stmt (map (λ e. e.0) y.body)) (map of_stmt a.again) a.filled));
        }

pub case_function : (y : Function-F EachArrow EachExpr EachFor EachProperty EachStmt EachTarget EachCatch EachDeclaration EachFunction EachTemplate) (qs : List ℕ) → LayerFunction y qs
case_function y qs =
    let q2 : List ℕ = behind (parameters y.parameters) qs in
    let a = moved_statements y.body (rest q2) in
    record {
      node = record { is_async = y.is_async; parameters = moved_parameters qs y.parameters; body = a.again };
      like = ap₂ (λ (u : List Name) (v : List Stmt). roll-Function (record { is_async = y.is_async; parameters = u; body = v })) (same_names (0 ∷ rest qs) y.parameters) a.like;
      shape = ap all_statements_fit a.shape;
      filled = record {
        forms = fills_append qs (parameters y.parameters) _ _ _ (fills_parameters qs y.parameters) (fills_block q2 (map of_stmt (map (λ e. e.0) y.body)) (map of_stmt a.again) a.filled);
        is_async = refl;
      };
    }

pub case_template : (y : TemplateItem-F EachArrow EachExpr EachFor EachProperty EachStmt EachTarget EachCatch EachDeclaration EachFunction EachTemplate) (qs : List ℕ) → LayerTemplate y qs
case_template y qs =
    let a = y.value.1 qs in
    record {
      node = record { units = y.units; value = a.again };
      like = ap (λ (z : Expr). roll-TemplateItem (record { units = y.units; value = z })) a.like;
      shape = ap (λ (z : Shape). z.fits) a.shape;
      filled = record { value = a.filled.forms; units = refl };
    }

-- ---- statements

other_filled : (qs : List ℕ) (fs gs : List Form) → Fills qs fs gs → FilledStmt qs (other fs) (other gs)
other_filled qs fs gs a = record { forms = a; is_block = refl }

-- in parentheses, and the body behind
fills_head : (qs : List ℕ) (fs gs : List Form) (w v : WrittenStmt) → Fills (rest qs) fs gs → FilledStmt (behind (parenthesized fs) qs) w v → Fills qs (parenthesized fs ++ body w) (parenthesized gs ++ body v)
fills_head qs fs gs w v a b = fills_append qs (parenthesized fs) (parenthesized gs) (body w) (body v) (fills_enclosed qs p.OpenParen p.CloseParen fs gs a) (fills_body (behind (parenthesized fs) qs) w v b)

pub case_stmt : (y : Stmt-F EachArrow EachExpr EachFor EachProperty EachStmt EachTarget EachCatch EachDeclaration EachFunction EachTemplate) (qs : List ℕ) → LayerStmt y qs
case_stmt (Stmt-F.Declare k ys) qs =
    let a = moved_declarations ys (0 ∷ rest qs) in
    record {
      node = Stmt-F.Declare k a.again;
      like = ap (λ (z : List Declaration). roll-Stmt (Stmt-F.Declare k z)) a.like;
      shape = ap (λ (z : List DeclaredShape). item_only (declarations_fit k z)) a.shape;
      filled = other_filled qs _ _ (fills_ended qs _ _ (fills_word qs (declare_word k) _ _ (fills_separated (rest qs) _ _ a.filled)));
      empty = refl;
    }
case_stmt (Stmt-F.DeclareFunction n f) qs =
    let q2 : List ℕ = rest (after_async (of_function f.0).is_async qs) in
    let a = f.1 (rest q2) in
    record {
      node = Stmt-F.DeclareFunction (moved_name q2 n) a.again;
      like = ap (λ (z : Function). roll-Stmt (Stmt-F.DeclareFunction (unplaced_name n) z)) a.like;
      shape = ap item_only a.shape;
      filled = other_filled qs _ _ (fills_function qs (name_forms n) (name_forms (moved_name q2 n)) (of_function f.0) (of_function a.again) (fills_name q2 n [] [] (fills_none _)) a.filled);
      empty = refl;
    }
case_stmt (Stmt-F.Block ys) qs =
    let a = moved_statements ys (rest qs) in
    record {
      node = Stmt-F.Block a.again;
      like = ap (λ (z : List Stmt). roll-Stmt (Stmt-F.Block z)) a.like;
      shape = ap (λ (z : List StmtShape). shape.plain (all_statements_fit z)) a.shape;
      filled = record { forms = fills_block qs (map of_stmt (map (λ e. e.0) ys)) (map of_stmt a.again) a.filled; is_block = refl };
      empty = refl;
    }
case_stmt (Stmt-F.If test s None) qs =
    let head : List Form = parenthesized (of_expr test.0).forms in
    let q2 : List ℕ = behind head (rest qs) in
    let q3 : List ℕ = behind (body (of_stmt s.0)) q2 in
    let a = test.1 (rest (rest qs)) in
    let b = s.1 q2 in
    let c = moved_else None q3 in
    record {
      node = Stmt-F.If a.again b.again c.again;
      like = ap₃ (λ (u : Expr) (v : Stmt) (w : Option Stmt). roll-Stmt (Stmt-F.If u v w)) a.like b.like c.like;
      shape = ap₃ (λ (u : Shape) (v : StmtShape) (w : Option StmtShape). branching u.fits v w) a.shape b.shape c.shape;
      filled = other_filled qs _ _ (fills_word qs r.If _ _ (fills_append (rest qs) head _ _ _
          (fills_enclosed (rest qs) p.OpenParen p.CloseParen _ _ a.filled.forms)
          (fills_append q2 (body (of_stmt s.0)) (body (of_stmt b.again)) _ _ (fills_body q2 (of_stmt s.0) (of_stmt b.again) b.filled) c.filled)));
      empty = refl;
    }
case_stmt (Stmt-F.If test s (Some t)) qs =
    let head : List Form = parenthesized (of_expr test.0).forms in
    let q2 : List ℕ = behind head (rest qs) in
    let q3 : List ℕ = behind (body (of_stmt s.0)) q2 in
    let a = test.1 (rest (rest qs)) in
    let b = s.1 q2 in
    let c = moved_else (Some t) q3 in
    record {
      node = Stmt-F.If a.again b.again c.again;
      like = ap₃ (λ (u : Expr) (v : Stmt) (w : Option Stmt). roll-Stmt (Stmt-F.If u v w)) a.like b.like c.like;
      shape = ap₃ (λ (u : Shape) (v : StmtShape) (w : Option StmtShape). branching u.fits v w) a.shape b.shape c.shape;
      filled = other_filled qs _ _ (fills_word qs r.If _ _ (fills_append (rest qs) head _ _ _
          (fills_enclosed (rest qs) p.OpenParen p.CloseParen _ _ a.filled.forms)
          (fills_append q2 (body (of_stmt s.0)) (body (of_stmt b.again)) _ _ (fills_body q2 (of_stmt s.0) (of_stmt b.again) b.filled) c.filled)));
      empty = refl;
    }
case_stmt (Stmt-F.For c None None s) qs =
    let begin : List Form = of_for c.0 in
    let first : Option Written = option_map of_expr None in
    let second : Option Written = option_map of_expr None in
    let q1 : List ℕ = rest (rest qs) in
    let q2 : List ℕ = behind begin q1 in
    let q3 : List ℕ = behind (option_value first) (rest q2) in
    let a = c.1 q1 in
    let b = moved_option None (rest q2) in
    let d = moved_option None (rest q3) in
    let e = s.1 (behind (parenthesized (for_head begin first second)) (rest qs)) in
    record {
      node = Stmt-F.For a.again b.again d.again e.again;
      like = ap₄ (λ (u : ForBegin) (v w : Option Expr) (z : Stmt). roll-Stmt (Stmt-F.For u v w z)) a.like b.like d.like e.like;
      shape = ap₄ (λ (u : Bool) (v w : Option Shape) (z : StmtShape). loop (u && (value_fits v && value_fits w)) z) a.shape b.shape d.shape e.shape;
      filled = other_filled qs _ _ (fills_word qs r.For _ _ (fills_head (rest qs) (for_head begin first second) (for_head (of_for a.again) (option_map of_expr b.again) (option_map of_expr d.again)) (of_stmt s.0) (of_stmt e.again)
          (fills_append q1 begin (of_for a.again) _ _ a.filled (fills_sign q2 p.Semicolon _ _ (fills_append (rest q2) (option_value first) (option_value (option_map of_expr b.again)) _ _ b.filled (fills_sign q3 p.Semicolon _ _ d.filled))))
          e.filled));
      empty = refl;
    }
case_stmt (Stmt-F.For c None (Some update) s) qs =
    let begin : List Form = of_for c.0 in
    let first : Option Written = option_map of_expr None in
    let second : Option Written = option_map of_expr (option_map (λ e. e.0) (Some update)) in
    let q1 : List ℕ = rest (rest qs) in
    let q2 : List ℕ = behind begin q1 in
    let q3 : List ℕ = behind (option_value first) (rest q2) in
    let a = c.1 q1 in
    let b = moved_option None (rest q2) in
    let d = moved_option (Some update) (rest q3) in
    let e = s.1 (behind (parenthesized (for_head begin first second)) (rest qs)) in
    record {
      node = Stmt-F.For a.again b.again d.again e.again;
      like = ap₄ (λ (u : ForBegin) (v w : Option Expr) (z : Stmt). roll-Stmt (Stmt-F.For u v w z)) a.like b.like d.like e.like;
      shape = ap₄ (λ (u : Bool) (v w : Option Shape) (z : StmtShape). loop (u && (value_fits v && value_fits w)) z) a.shape b.shape d.shape e.shape;
      filled = other_filled qs _ _ (fills_word qs r.For _ _ (fills_head (rest qs) (for_head begin first second) (for_head (of_for a.again) (option_map of_expr b.again) (option_map of_expr d.again)) (of_stmt s.0) (of_stmt e.again)
          (fills_append q1 begin (of_for a.again) _ _ a.filled (fills_sign q2 p.Semicolon _ _ (fills_append (rest q2) (option_value first) (option_value (option_map of_expr b.again)) _ _ b.filled (fills_sign q3 p.Semicolon _ _ d.filled))))
          e.filled));
      empty = refl;
    }
case_stmt (Stmt-F.For c (Some test) None s) qs =
    let begin : List Form = of_for c.0 in
    let first : Option Written = option_map of_expr (option_map (λ e. e.0) (Some test)) in
    let second : Option Written = option_map of_expr None in
    let q1 : List ℕ = rest (rest qs) in
    let q2 : List ℕ = behind begin q1 in
    let q3 : List ℕ = behind (option_value first) (rest q2) in
    let a = c.1 q1 in
    let b = moved_option (Some test) (rest q2) in
    let d = moved_option None (rest q3) in
    let e = s.1 (behind (parenthesized (for_head begin first second)) (rest qs)) in
    record {
      node = Stmt-F.For a.again b.again d.again e.again;
      like = ap₄ (λ (u : ForBegin) (v w : Option Expr) (z : Stmt). roll-Stmt (Stmt-F.For u v w z)) a.like b.like d.like e.like;
      shape = ap₄ (λ (u : Bool) (v w : Option Shape) (z : StmtShape). loop (u && (value_fits v && value_fits w)) z) a.shape b.shape d.shape e.shape;
      filled = other_filled qs _ _ (fills_word qs r.For _ _ (fills_head (rest qs) (for_head begin first second) (for_head (of_for a.again) (option_map of_expr b.again) (option_map of_expr d.again)) (of_stmt s.0) (of_stmt e.again)
          (fills_append q1 begin (of_for a.again) _ _ a.filled (fills_sign q2 p.Semicolon _ _ (fills_append (rest q2) (option_value first) (option_value (option_map of_expr b.again)) _ _ b.filled (fills_sign q3 p.Semicolon _ _ d.filled))))
          e.filled));
      empty = refl;
    }
case_stmt (Stmt-F.For c (Some test) (Some update) s) qs =
    let begin : List Form = of_for c.0 in
    let first : Option Written = option_map of_expr (option_map (λ e. e.0) (Some test)) in
    let second : Option Written = option_map of_expr (option_map (λ e. e.0) (Some update)) in
    let q1 : List ℕ = rest (rest qs) in
    let q2 : List ℕ = behind begin q1 in
    let q3 : List ℕ = behind (option_value first) (rest q2) in
    let a = c.1 q1 in
    let b = moved_option (Some test) (rest q2) in
    let d = moved_option (Some update) (rest q3) in
    let e = s.1 (behind (parenthesized (for_head begin first second)) (rest qs)) in
    record {
      node = Stmt-F.For a.again b.again d.again e.again;
      like = ap₄ (λ (u : ForBegin) (v w : Option Expr) (z : Stmt). roll-Stmt (Stmt-F.For u v w z)) a.like b.like d.like e.like;
      shape = ap₄ (λ (u : Bool) (v w : Option Shape) (z : StmtShape). loop (u && (value_fits v && value_fits w)) z) a.shape b.shape d.shape e.shape;
      filled = other_filled qs _ _ (fills_word qs r.For _ _ (fills_head (rest qs) (for_head begin first second) (for_head (of_for a.again) (option_map of_expr b.again) (option_map of_expr d.again)) (of_stmt s.0) (of_stmt e.again)
          (fills_append q1 begin (of_for a.again) _ _ a.filled (fills_sign q2 p.Semicolon _ _ (fills_append (rest q2) (option_value first) (option_value (option_map of_expr b.again)) _ _ b.filled (fills_sign q3 p.Semicolon _ _ d.filled))))
          e.filled));
      empty = refl;
    }
case_stmt (Stmt-F.ForOf k n x s) qs =
    let q1 : List ℕ = rest (rest (rest qs)) in
    let a = x.1 (rest (rest q1)) in
    let b = s.1 (behind (parenthesized (for_of_head k n (of_expr x.0))) (rest qs)) in
    record {
      node = Stmt-F.ForOf k (moved_name q1 n) a.again b.again;
      like = ap₂ (λ (u : Expr) (v : Stmt). roll-Stmt (Stmt-F.ForOf k (unplaced_name n) u v)) a.like b.like;
      shape = ap₂ (λ (u : Shape) (v : StmtShape). loop u.fits v) a.shape b.shape;
      filled = other_filled qs _ _ (fills_word qs r.For _ _ (fills_head (rest qs) (for_of_head k n (of_expr x.0)) (for_of_head k (moved_name q1 n) (of_expr a.again)) (of_stmt s.0) (of_stmt b.again)
          (fills_word (rest (rest qs)) (declare_word k) _ _ (fills_name q1 n _ _ (fills_fixed (rest q1) of_word _ _ (record { same = λ q. refl }) a.filled.forms)))
          b.filled));
      empty = refl;
    }
case_stmt (Stmt-F.While test s) qs =
    let a = test.1 (rest (rest qs)) in
    let b = s.1 (behind (parenthesized (of_expr test.0).forms) (rest qs)) in
    record {
      node = Stmt-F.While a.again b.again;
      like = ap₂ (λ (u : Expr) (v : Stmt). roll-Stmt (Stmt-F.While u v)) a.like b.like;
      shape = ap₂ (λ (u : Shape) (v : StmtShape). loop u.fits v) a.shape b.shape;
      filled = other_filled qs _ _ (fills_word qs r.While _ _ (fills_head (rest qs) _ _ (of_stmt s.0) (of_stmt b.again) a.filled.forms b.filled));
      empty = refl;
    }
case_stmt (Stmt-F.Break n) qs = record { node = Stmt-F.Break (place_at qs n); like = refl; shape = refl; filled = other_filled qs _ _ (fills_word_at qs n r.Break _ _ (fills_end (rest qs))); empty = refl }
case_stmt (Stmt-F.Continue n) qs = record { node = Stmt-F.Continue (place_at qs n); like = refl; shape = refl; filled = other_filled qs _ _ (fills_word_at qs n r.Continue _ _ (fills_end (rest qs))); empty = refl }
case_stmt (Stmt-F.Return n None) qs =
    let a = moved_option None (rest qs) in
    record {
      node = Stmt-F.Return (place_at qs n) a.again;
      like = ap (λ (z : Option Expr). roll-Stmt (Stmt-F.Return 0 z)) a.like;
      shape = ap (λ (z : Option Shape). shape.plain (value_fits z)) a.shape;
      filled = other_filled qs _ _ (fills_word_at qs n r.Return _ _ (fills_ended (rest qs) _ _ (fills_one_line (rest qs) (option_value (option_map of_expr None)) (option_value (option_map of_expr a.again)) a.filled)));
      empty = refl;
    }
case_stmt (Stmt-F.Return n (Some o)) qs =
    let a = moved_option (Some o) (rest qs) in
    record {
      node = Stmt-F.Return (place_at qs n) a.again;
      like = ap (λ (z : Option Expr). roll-Stmt (Stmt-F.Return 0 z)) a.like;
      shape = ap (λ (z : Option Shape). shape.plain (value_fits z)) a.shape;
      filled = other_filled qs _ _ (fills_word_at qs n r.Return _ _ (fills_ended (rest qs) _ _ (fills_one_line (rest qs) (option_value (option_map of_expr (option_map (λ e. e.0) (Some o)))) (option_value (option_map of_expr a.again)) a.filled)));
      empty = refl;
    }
case_stmt (Stmt-F.Throw x) qs =
    let a = x.1 (rest qs) in
    record {
      node = Stmt-F.Throw a.again;
      like = ap (λ (z : Expr). roll-Stmt (Stmt-F.Throw z)) a.like;
      shape = ap (λ (z : Shape). shape.plain z.fits) a.shape;
      filled = other_filled qs _ _ (fills_word qs r.Throw _ _ (fills_ended (rest qs) _ _ (fills_one_line (rest qs) (of_expr x.0).forms (of_expr a.again).forms a.filled.forms)));
      empty = refl;
    }
case_stmt (Stmt-F.Try ys None None) qs =
    let q2 : List ℕ = behind (block (map of_stmt (map (λ e. e.0) ys))) (rest qs) in
    let q3 : List ℕ = behind (optional (option_map of_catch None)) q2 in
    let a = moved_statements ys (rest (rest qs)) in
    let b = moved_catch None q2 in
    let d = moved_finally None q3 in
    record {
      node = Stmt-F.Try a.again b.again d.again;
      like = ap₃ (λ (u : List Stmt) (v : Option Catch) (w : Option (List Stmt)). roll-Stmt (Stmt-F.Try u v w)) a.like b.like d.like;
      shape = ap₃ (λ (u : List StmtShape) (v : Option Bool) (w : Option (List StmtShape)). shape.plain (all_statements_fit u && (catch_fits v && (finally_fits w && handles v w)))) a.shape b.shape d.shape;
      filled = other_filled qs _ _ (fills_word qs r.Try _ _ (fills_append (rest qs) (block (map of_stmt (map (λ e. e.0) ys))) (block (map of_stmt a.again)) _ _
          (fills_block (rest qs) (map of_stmt (map (λ e. e.0) ys)) (map of_stmt a.again) a.filled)
          (fills_append q2 (optional (option_map of_catch None)) (optional (option_map of_catch b.again)) _ _ b.filled d.filled)));
      empty = refl;
    }
case_stmt (Stmt-F.Try ys None (Some f)) qs =
    let q2 : List ℕ = behind (block (map of_stmt (map (λ e. e.0) ys))) (rest qs) in
    let q3 : List ℕ = behind (optional (option_map of_catch None)) q2 in
    let a = moved_statements ys (rest (rest qs)) in
    let b = moved_catch None q2 in
    let d = moved_finally (Some f) q3 in
    record {
      node = Stmt-F.Try a.again b.again d.again;
      like = ap₃ (λ (u : List Stmt) (v : Option Catch) (w : Option (List Stmt)). roll-Stmt (Stmt-F.Try u v w)) a.like b.like d.like;
      shape = ap₃ (λ (u : List StmtShape) (v : Option Bool) (w : Option (List StmtShape)). shape.plain (all_statements_fit u && (catch_fits v && (finally_fits w && handles v w)))) a.shape b.shape d.shape;
      filled = other_filled qs _ _ (fills_word qs r.Try _ _ (fills_append (rest qs) (block (map of_stmt (map (λ e. e.0) ys))) (block (map of_stmt a.again)) _ _
          (fills_block (rest qs) (map of_stmt (map (λ e. e.0) ys)) (map of_stmt a.again) a.filled)
          (fills_append q2 (optional (option_map of_catch None)) (optional (option_map of_catch b.again)) _ _ b.filled d.filled)));
      empty = refl;
    }
case_stmt (Stmt-F.Try ys (Some c) None) qs =
    let q2 : List ℕ = behind (block (map of_stmt (map (λ e. e.0) ys))) (rest qs) in
    let q3 : List ℕ = behind (optional (option_map of_catch (option_map (λ e. e.0) (Some c)))) q2 in
    let a = moved_statements ys (rest (rest qs)) in
    let b = moved_catch (Some c) q2 in
    let d = moved_finally None q3 in
    record {
      node = Stmt-F.Try a.again b.again d.again;
      like = ap₃ (λ (u : List Stmt) (v : Option Catch) (w : Option (List Stmt)). roll-Stmt (Stmt-F.Try u v w)) a.like b.like d.like;
      shape = ap₃ (λ (u : List StmtShape) (v : Option Bool) (w : Option (List StmtShape)). shape.plain (all_statements_fit u && (catch_fits v && (finally_fits w && handles v w)))) a.shape b.shape d.shape;
      filled = other_filled qs _ _ (fills_word qs r.Try _ _ (fills_append (rest qs) (block (map of_stmt (map (λ e. e.0) ys))) (block (map of_stmt a.again)) _ _
          (fills_block (rest qs) (map of_stmt (map (λ e. e.0) ys)) (map of_stmt a.again) a.filled)
          (fills_append q2 (optional (option_map of_catch (option_map (λ e. e.0) (Some c)))) (optional (option_map of_catch b.again)) _ _ b.filled d.filled)));
      empty = refl;
    }
case_stmt (Stmt-F.Try ys (Some c) (Some f)) qs =
    let q2 : List ℕ = behind (block (map of_stmt (map (λ e. e.0) ys))) (rest qs) in
    let q3 : List ℕ = behind (optional (option_map of_catch (option_map (λ e. e.0) (Some c)))) q2 in
    let a = moved_statements ys (rest (rest qs)) in
    let b = moved_catch (Some c) q2 in
    let d = moved_finally (Some f) q3 in
    record {
      node = Stmt-F.Try a.again b.again d.again;
      like = ap₃ (λ (u : List Stmt) (v : Option Catch) (w : Option (List Stmt)). roll-Stmt (Stmt-F.Try u v w)) a.like b.like d.like;
      shape = ap₃ (λ (u : List StmtShape) (v : Option Bool) (w : Option (List StmtShape)). shape.plain (all_statements_fit u && (catch_fits v && (finally_fits w && handles v w)))) a.shape b.shape d.shape;
      filled = other_filled qs _ _ (fills_word qs r.Try _ _ (fills_append (rest qs) (block (map of_stmt (map (λ e. e.0) ys))) (block (map of_stmt a.again)) _ _
          (fills_block (rest qs) (map of_stmt (map (λ e. e.0) ys)) (map of_stmt a.again) a.filled)
          (fills_append q2 (optional (option_map of_catch (option_map (λ e. e.0) (Some c)))) (optional (option_map of_catch b.again)) _ _ b.filled d.filled)));
      empty = refl;
    }
case_stmt Stmt-F.Empty qs = record { node = Stmt-F.Empty; like = refl; shape = refl; filled = other_filled qs _ _ (fills_only qs (just p.Semicolon) (fixed_sign p.Semicolon)); empty = refl }
case_stmt (Stmt-F.Expr x) qs =
    let a = x.1 qs in
    record {
      node = Stmt-F.Expr a.again;
      like = ap (λ (z : Expr). roll-Stmt (Stmt-F.Expr z)) a.like;
      shape = ap (λ (z : Shape). shape.plain (z.fits && is_other z.first)) a.shape;
      filled = other_filled qs _ _ (fills_ended qs _ _ a.filled.forms);
      empty = refl;
    }
