-- Expressions and what stands in them at other places.
use Rattle.std.proofs.Common.{ℕ, Bool, true, ◌&&◌, List, [], ◌∷◌, map, Some, None, refl, ap, ap₂}
use Rattle.js_lex.specs.declared.token.Punctuator.TheVariants as p
use Rattle.js_lex.specs.declared.token.Reserved.TheVariants as r
use Rattle.js_lex.specs.declared.token.TemplatePart.TheVariants as part
use Rattle.js_tree.specs.declared.tree.UpdateSide.TheVariants as side
use Rattle.js_tree.specs.declared.tree.Name.{Name}
use Rattle.js_tree.specs.declared.tree.Key.{Key}
use Rattle.js_tree.specs.declared.tree.ArrowBody.TheOpen.{ArrowBody-F, Expr-F, ForBegin-F, Property-F, Target-F}
use Rattle.js_tree.specs.declared.tree.ArrowBody.{ArrowBody, roll-ArrowBody}
use Rattle.js_tree.specs.declared.tree.Expr.{Expr, roll-Expr}
use Rattle.js_tree.specs.declared.tree.ForBegin.{roll-ForBegin}
use Rattle.js_tree.specs.declared.tree.Property.{Property, roll-Property}
use Rattle.js_tree.specs.declared.tree.Stmt.{Stmt}
use Rattle.js_tree.specs.declared.tree.Target.{Target, roll-Target}
use Rattle.js_tree.specs.declared.tree.Declaration.{Declaration}
use Rattle.js_tree.specs.declared.tree.Function.{Function}
use Rattle.js_tree.specs.declared.tree.TemplateItem.{TemplateItem}
use Rattle.js_grammar.specs.Marks.{Form, sign, unbroken, one, just, deeper, more, listed}
use Rattle.js_grammar.specs.Grammar.{Written, WrittenFunction, alone, values, parenthesized, name_forms, arrow_sign, arrow_parameters, perhaps_async, function, method, declare_word, member, update_sign, assign_sign, any_name, of_expr, of_stmt, of_target, of_function, of_template}
use Rattle.js_grammar.specs.Shapes.{Shape, StmtShape, DeclaredShape, joining, accessing, shaped, at_least, primary, updating, all_true, all_fit, all_statements_fit, Brace, FunctionWord, OtherFirst, operand_level, prefix_level, declarations_fit, item_only, loop, branching, value_fits, catch_fits, finally_fits, handles, is_other}
use Rattle.js_grammar.specs.Shapes as shape
use Rattle.js_print.specs.Same.{unplaced_name}
use Rattle.js_print.proofs.Filled.{rest, behind, Fills, fills_none, fills_append, fills_fixed, fills_only, Fixed, fills_sign, fills_word, fills_deeper, fills_enclosed, place_at, moved_name, fills_name, fills_any_name, fills_word_at, moved_key, same_key, fills_key, fills_unary, fills_separated, fills_listed, moved_arrow, same_arrow, fills_arrow, after_async, fills_async, FilledWritten, FilledFunction, filled_accessed, filled_joined, fills_block}
use Rattle.js_print.proofs.Moved.{EachArrow, EachExpr, EachFor, EachProperty, EachStmt, EachTarget, EachCatch, EachDeclaration, EachFunction, MovedTemplate, EachTemplate, LayerArrow, LayerExpr, LayerFor, LayerProperty, LayerTarget, ap₃}
use Rattle.js_print.proofs.MovedLists.{moved_values, moved_properties, moved_declarations, moved_statements, MovedParts, fills_part, moved_parts}

pub case_arrow_body : (y : ArrowBody-F EachArrow EachExpr EachFor EachProperty EachStmt EachTarget EachCatch EachDeclaration EachFunction EachTemplate) (qs : List ℕ) → LayerArrow y qs
case_arrow_body (ArrowBody-F.Statements ys) qs =
    let a = moved_statements ys (rest (rest qs)) in
    record {
      node = ArrowBody-F.Statements a.again;
      like = ap (λ (z : List Stmt). roll-ArrowBody (ArrowBody-F.Statements z)) a.like;
      shape = ap all_statements_fit a.shape;
      filled = fills_fixed qs arrow_sign _ _ (record { same = λ q. refl }) (fills_block (rest qs) (map of_stmt (map (λ e. e.0) ys)) (map of_stmt a.again) a.filled);
    }
case_arrow_body (ArrowBody-F.Value x) qs =
    let a = x.1 (rest qs) in
    record {
      node = ArrowBody-F.Value a.again;
      like = ap (λ (z : Expr). roll-ArrowBody (ArrowBody-F.Value z)) a.like;
      shape = ap (λ (z : Shape). shape.arrow_body_step (ArrowBody-F.Value z)) a.shape;
      filled = fills_deeper 1 1 qs _ _ refl (fills_fixed qs arrow_sign _ _ (record { same = λ q. refl }) a.filled.forms);
    }

alone_filled : (qs : List ℕ) (fs gs : List Form) → Fills qs fs gs → FilledWritten qs (alone fs) (alone gs)
alone_filled qs fs gs a = record { forms = a; operators = refl; accesses = refl }

fixed_one : (qs : List ℕ) (f : Form) → Fixed f → FilledWritten qs (alone (f ∷ [])) (alone (f ∷ []))
fixed_one qs f h = alone_filled qs _ _ (fills_only qs f h)

filled_member : (qs : List ℕ) (w v : Written) (n : Name) → FilledWritten qs w v → FilledWritten qs (member w n) (member v (moved_name (rest (behind w.forms qs)) n))
filled_member qs w v n h =
    filled_accessed qs w v (deeper 1 (just p.Dot ∷ any_name n ∷ [])) (deeper 1 (just p.Dot ∷ any_name (moved_name (rest (behind w.forms qs)) n) ∷ [])) h
    (fills_deeper 1 1 (behind w.forms qs) _ _ refl (fills_sign (behind w.forms qs) p.Dot _ _ (fills_any_name (rest (behind w.forms qs)) n [] [] (fills_none _))))

pub fills_function : (qs : List ℕ) (named named2 : List Form) (f g : WrittenFunction) → Fills (rest (after_async f.is_async qs)) named named2 → FilledFunction (behind named (rest (after_async f.is_async qs))) f g → Fills qs (function named f) (function named2 g)
fills_function qs named named2 f g a b =
    fills_async f.is_async g.is_async qs _ _ b.is_async (fills_word (after_async f.is_async qs) r.Function _ _ (fills_append (rest (after_async f.is_async qs)) named named2 f.forms g.forms a b.forms))

fills_method : (qs : List ℕ) (k : Key) (f g : WrittenFunction) → FilledFunction (rest (after_async f.is_async qs)) f g → Fills qs (method k f) (method (moved_key (after_async f.is_async qs) k) g)
fills_method qs k f g b = fills_async f.is_async g.is_async qs _ _ b.is_async (fills_key (after_async f.is_async qs) k f.forms g.forms b.forms)

fills_arguments : (qs : List ℕ) (xs ys : List Written) → Fills (0 ∷ rest qs) (more (values xs)) (more (values ys)) → Fills qs (parenthesized (listed (values xs))) (parenthesized (listed (values ys)))
fills_arguments qs xs ys a = fills_enclosed qs p.OpenParen p.CloseParen _ _ (fills_listed (rest qs) _ _ a)

pub case_expr : (y : Expr-F EachArrow EachExpr EachFor EachProperty EachStmt EachTarget EachCatch EachDeclaration EachFunction EachTemplate) (qs : List ℕ) → LayerExpr y qs
case_expr (Expr-F.Name n) qs = record { node = Expr-F.Name (moved_name qs n); like = refl; shape = refl; filled = alone_filled qs _ _ (fills_name qs n [] [] (fills_none _)) }
case_expr (Expr-F.Number n) qs = record { node = Expr-F.Number n; like = refl; shape = refl; filled = fixed_one qs _ (record { same = λ q. refl }) }
case_expr (Expr-F.Text t) qs = record { node = Expr-F.Text t; like = refl; shape = refl; filled = fixed_one qs _ (record { same = λ q. refl }) }
case_expr Expr-F.True qs = record { node = Expr-F.True; like = refl; shape = refl; filled = fixed_one qs _ (record { same = λ q. refl }) }
case_expr Expr-F.False qs = record { node = Expr-F.False; like = refl; shape = refl; filled = fixed_one qs _ (record { same = λ q. refl }) }
case_expr Expr-F.Null qs = record { node = Expr-F.Null; like = refl; shape = refl; filled = fixed_one qs _ (record { same = λ q. refl }) }
case_expr Expr-F.This qs = record { node = Expr-F.This; like = refl; shape = refl; filled = fixed_one qs _ (record { same = λ q. refl }) }
case_expr (Expr-F.Template [] t) qs = record { node = Expr-F.Template [] t; like = refl; shape = refl; filled = fixed_one qs _ (record { same = λ q. refl }) }
case_expr (Expr-F.Template (y ∷ ys) t) qs =
    let a : MovedTemplate y.0 (rest qs) = y.1 (rest qs) in
    let b : MovedParts ys t (behind (of_template y.0).value (rest qs)) = moved_parts ys t (behind (of_template y.0).value (rest qs)) in
    record {
      node = Expr-F.Template (a.again ∷ b.again) t;
      like = ap₂ (λ (u : TemplateItem) (v : List TemplateItem). roll-Expr (Expr-F.Template (u ∷ v) t)) a.like b.like;
      shape = ap₂ (λ (u : Bool) (v : List Bool). primary (all_true (u ∷ v))) a.shape b.shape;
      filled = alone_filled qs _ _ (fills_deeper 1 1 qs _ _ refl (fills_part part.Head qs (of_template y.0) (of_template a.again) _ _ a.filled b.filled));
    }
case_expr (Expr-F.Array ys) qs =
    let a = moved_values ys (0 ∷ rest qs) in
    record {
      node = Expr-F.Array a.again;
      like = ap (λ (z : List Expr). roll-Expr (Expr-F.Array z)) a.like;
      shape = ap (λ (z : List Shape). primary (all_fit z)) a.shape;
      filled = alone_filled qs _ _ (fills_enclosed qs p.OpenBracket p.CloseBracket _ _ (fills_listed (rest qs) _ _ a.filled));
    }
case_expr (Expr-F.Object ys) qs =
    let a = moved_properties ys (0 ∷ rest qs) in
    record {
      node = Expr-F.Object a.again;
      like = ap (λ (z : List Property). roll-Expr (Expr-F.Object z)) a.like;
      shape = ap (λ (z : List Bool). shaped (all_true z) operand_level Brace) a.shape;
      filled = alone_filled qs _ _ (fills_enclosed qs p.OpenBrace p.CloseBrace _ _ (fills_listed (rest qs) _ _ a.filled));
    }
case_expr (Expr-F.Function None f) qs =
    let a = f.1 (rest (after_async (of_function f.0).is_async qs)) in
    record {
      node = Expr-F.Function None a.again;
      like = ap (λ (z : Function). roll-Expr (Expr-F.Function None z)) a.like;
      shape = ap (λ (z : Bool). shaped z operand_level FunctionWord) a.shape;
      filled = alone_filled qs _ _ (fills_function qs [] [] (of_function f.0) (of_function a.again) (fills_none _) a.filled);
    }
case_expr (Expr-F.Function (Some n) f) qs =
    let q2 : List ℕ = rest (after_async (of_function f.0).is_async qs) in
    let a = f.1 (rest q2) in
    record {
      node = Expr-F.Function (Some (moved_name q2 n)) a.again;
      like = ap (λ (z : Function). roll-Expr (Expr-F.Function (Some (unplaced_name n)) z)) a.like;
      shape = ap (λ (z : Bool). shaped z operand_level FunctionWord) a.shape;
      filled = alone_filled qs _ _ (fills_function qs (name_forms n) (name_forms (moved_name q2 n)) (of_function f.0) (of_function a.again) (fills_name q2 n [] [] (fills_none _)) a.filled);
    }
case_expr (Expr-F.Arrow s ns b) qs =
    let a = b.1 (behind (perhaps_async s (arrow_parameters ns)) qs) in
    record {
      node = Expr-F.Arrow s (moved_arrow (after_async s qs) ns) a.again;
      like = ap₂ (λ (u : List Name) (v : ArrowBody). roll-Expr (Expr-F.Arrow s u v)) (same_arrow (after_async s qs) ns) a.like;
      shape = ap (λ (z : Bool). shaped z 0 OtherFirst) a.shape;
      filled = alone_filled qs _ _ (fills_append qs (perhaps_async s (arrow_parameters ns)) _ _ _ (fills_async s s qs _ _ refl (fills_arrow (after_async s qs) ns)) a.filled);
    }
case_expr (Expr-F.Group x) qs =
    let a = x.1 (rest qs) in
    record {
      node = Expr-F.Group a.again;
      like = ap (λ (z : Expr). roll-Expr (Expr-F.Group z)) a.like;
      shape = ap (λ (z : Shape). primary z.fits) a.shape;
      filled = alone_filled qs _ _ (fills_enclosed qs p.OpenParen p.CloseParen _ _ a.filled.forms);
    }
case_expr (Expr-F.Unary o x) qs =
    let a = x.1 (rest qs) in
    record {
      node = Expr-F.Unary o a.again;
      like = ap (λ (z : Expr). roll-Expr (Expr-F.Unary o z)) a.like;
      shape = ap (λ (z : Shape). shaped (at_least prefix_level z) prefix_level OtherFirst) a.shape;
      filled = alone_filled qs _ _ (fills_deeper 1 1 qs _ _ refl (fills_unary qs o _ _ a.filled.forms));
    }
case_expr (Expr-F.Await n x) qs =
    let a = x.1 (rest qs) in
    record {
      node = Expr-F.Await (place_at qs n) a.again;
      like = ap (λ (z : Expr). roll-Expr (Expr-F.Await 0 z)) a.like;
      shape = ap (λ (z : Shape). shaped (at_least prefix_level z) prefix_level OtherFirst) a.shape;
      filled = alone_filled qs _ _ (fills_deeper 1 1 qs _ _ refl (fills_word_at qs n r.Await _ _ a.filled.forms));
    }
case_expr (Expr-F.Update side.Before o x) qs =
    let a = x.1 (rest qs) in
    record {
      node = Expr-F.Update side.Before o a.again;
      like = ap (λ (z : Target). roll-Expr (Expr-F.Update side.Before o z)) a.like;
      shape = ap (updating side.Before) a.shape;
      filled = alone_filled qs _ _ (fills_deeper 1 1 qs _ _ refl (fills_sign qs (update_sign o) _ _ a.filled.forms));
    }
case_expr (Expr-F.Update side.Behind o x) qs =
    let a = x.1 qs in
    record {
      node = Expr-F.Update side.Behind o a.again;
      like = ap (λ (z : Target). roll-Expr (Expr-F.Update side.Behind o z)) a.like;
      shape = ap (updating side.Behind) a.shape;
      filled = alone_filled qs _ _ (fills_append qs (of_target x.0).forms _ _ _ a.filled.forms (fills_only _ (one (unbroken (sign (update_sign o)))) (record { same = λ q. refl })));
    }
case_expr (Expr-F.Binary o x y) qs =
    let a = x.1 qs in
    let b = y.1 (rest (behind (of_expr x.0).forms qs)) in
    record {
      node = Expr-F.Binary o a.again b.again;
      like = ap₂ (λ (u v : Expr). roll-Expr (Expr-F.Binary o u v)) a.like b.like;
      shape = ap₂ (joining o) a.shape b.shape;
      filled = filled_joined qs o (of_expr x.0) (of_expr a.again) (of_expr y.0) (of_expr b.again) a.filled b.filled;
    }
case_expr (Expr-F.Conditional test x y) qs =
    let q2 : List ℕ = behind (of_expr test.0).forms qs in
    let q3 : List ℕ = behind (deeper 1 (just p.Question ∷ (of_expr x.0).forms)) q2 in
    let a = test.1 qs in
    let b = x.1 (rest q2) in
    let c = y.1 (rest q3) in
    record {
      node = Expr-F.Conditional a.again b.again c.again;
      like = ap₃ (λ (u v w : Expr). roll-Expr (Expr-F.Conditional u v w)) a.like b.like c.like;
      shape = ap₃ (λ (u v w : Shape). shaped (at_least 1 u && (v.fits && w.fits)) 0 u.first) a.shape b.shape c.shape;
      filled = alone_filled qs _ _
          (fills_append qs (of_expr test.0).forms _ _ _ a.filled.forms
          (fills_append q2 (deeper 1 (just p.Question ∷ (of_expr x.0).forms)) _ _ _
          (fills_deeper 1 1 q2 _ _ refl (fills_sign q2 p.Question _ _ b.filled.forms))
          (fills_deeper 1 1 q3 _ _ refl (fills_sign q3 p.Colon _ _ c.filled.forms))));
    }
case_expr (Expr-F.Assign o x y) qs =
    let q2 : List ℕ = behind (of_target x.0).forms qs in
    let a = x.1 qs in
    let b = y.1 (rest q2) in
    record {
      node = Expr-F.Assign o a.again b.again;
      like = ap₂ (λ (u : Target) (v : Expr). roll-Expr (Expr-F.Assign o u v)) a.like b.like;
      shape = ap₂ (λ (u v : Shape). shaped (u.fits && v.fits) 0 u.first) a.shape b.shape;
      filled = alone_filled qs _ _ (fills_append qs (of_target x.0).forms _ _ _ a.filled.forms (fills_deeper 1 1 q2 _ _ refl (fills_sign q2 (assign_sign o) _ _ b.filled.forms)));
    }
case_expr (Expr-F.Call x ys) qs =
    let q2 : List ℕ = behind (of_expr x.0).forms qs in
    let a = x.1 qs in
    let b = moved_values ys (0 ∷ rest q2) in
    record {
      node = Expr-F.Call a.again b.again;
      like = ap₂ (λ (u : Expr) (v : List Expr). roll-Expr (Expr-F.Call u v)) a.like b.like;
      shape = ap₂ (λ (u : Shape) (v : List Shape). accessing u (all_fit v)) a.shape b.shape;
      filled = filled_accessed qs (of_expr x.0) (of_expr a.again) _ _ a.filled (fills_arguments q2 _ _ b.filled);
    }
case_expr (Expr-F.New n ys) qs =
    let q2 : List ℕ = rest (rest qs) in
    let b = moved_values ys (0 ∷ rest q2) in
    record {
      node = Expr-F.New (moved_name (rest qs) n) b.again;
      like = ap (λ (z : List Expr). roll-Expr (Expr-F.New (unplaced_name n) z)) b.like;
      shape = ap (λ (z : List Shape). primary (all_fit z)) b.shape;
      filled = alone_filled qs _ _ (fills_word qs r.New _ _ (fills_name (rest qs) n _ _ (fills_arguments q2 _ _ b.filled)));
    }
case_expr (Expr-F.Member x n) qs =
    let q2 : List ℕ = behind (of_expr x.0).forms qs in
    let a = x.1 qs in
    record {
      node = Expr-F.Member a.again (moved_name (rest q2) n);
      like = ap (λ (z : Expr). roll-Expr (Expr-F.Member z (unplaced_name n))) a.like;
      shape = ap (λ (z : Shape). accessing z true) a.shape;
      filled = filled_member qs (of_expr x.0) (of_expr a.again) n a.filled;
    }
case_expr (Expr-F.Index x k) qs =
    let q2 : List ℕ = behind (of_expr x.0).forms qs in
    let a = x.1 qs in
    let b = k.1 (rest q2) in
    record {
      node = Expr-F.Index a.again b.again;
      like = ap₂ (λ (u v : Expr). roll-Expr (Expr-F.Index u v)) a.like b.like;
      shape = ap₂ (λ (u v : Shape). accessing u v.fits) a.shape b.shape;
      filled = filled_accessed qs (of_expr x.0) (of_expr a.again) _ _ a.filled (fills_enclosed q2 p.OpenBracket p.CloseBracket _ _ b.filled.forms);
    }

pub case_for : (y : ForBegin-F EachArrow EachExpr EachFor EachProperty EachStmt EachTarget EachCatch EachDeclaration EachFunction EachTemplate) (qs : List ℕ) → LayerFor y qs
case_for ForBegin-F.Nothing qs = record { node = ForBegin-F.Nothing; like = refl; shape = refl; filled = fills_none qs }
case_for (ForBegin-F.Declarations k ys) qs =
    let a = moved_declarations ys (0 ∷ rest qs) in
    record {
      node = ForBegin-F.Declarations k a.again;
      like = ap (λ (z : List Declaration). roll-ForBegin (ForBegin-F.Declarations k z)) a.like;
      shape = ap (declarations_fit k) a.shape;
      filled = fills_word qs (declare_word k) _ _ (fills_separated (rest qs) _ _ a.filled);
    }
case_for (ForBegin-F.Start x) qs =
    let a = x.1 qs in
    record {
      node = ForBegin-F.Start a.again;
      like = ap (λ (z : Expr). roll-ForBegin (ForBegin-F.Start z)) a.like;
      shape = ap (λ (z : Shape). z.fits) a.shape;
      filled = a.filled.forms;
    }

pub case_property : (y : Property-F EachArrow EachExpr EachFor EachProperty EachStmt EachTarget EachCatch EachDeclaration EachFunction EachTemplate) (qs : List ℕ) → LayerProperty y qs
case_property (Property-F.Pair k x) qs =
    let a = x.1 (rest (rest qs)) in
    record {
      node = Property-F.Pair (moved_key qs k) a.again;
      like = ap₂ (λ (u : Key) (v : Expr). roll-Property (Property-F.Pair u v)) (same_key qs k) a.like;
      shape = ap (λ (z : Shape). z.fits) a.shape;
      filled = fills_key qs k _ _ (fills_sign (rest qs) p.Colon _ _ a.filled.forms);
    }
case_property (Property-F.Short n) qs = record { node = Property-F.Short (moved_name qs n); like = refl; shape = refl; filled = fills_name qs n [] [] (fills_none _) }
case_property (Property-F.Method k f) qs =
    let q2 : List ℕ = after_async (of_function f.0).is_async qs in
    let a = f.1 (rest q2) in
    record {
      node = Property-F.Method (moved_key q2 k) a.again;
      like = ap₂ (λ (u : Key) (v : Function). roll-Property (Property-F.Method u v)) (same_key q2 k) a.like;
      shape = a.shape;
      filled = fills_method qs k (of_function f.0) (of_function a.again) a.filled;
    }

pub case_target : (y : Target-F EachArrow EachExpr EachFor EachProperty EachStmt EachTarget EachCatch EachDeclaration EachFunction EachTemplate) (qs : List ℕ) → LayerTarget y qs
case_target (Target-F.Variable n) qs = record { node = Target-F.Variable (moved_name qs n); like = refl; shape = refl; filled = alone_filled qs _ _ (fills_name qs n [] [] (fills_none _)) }
case_target (Target-F.Field x n) qs =
    let q2 : List ℕ = behind (of_expr x.0).forms qs in
    let a = x.1 qs in
    record {
      node = Target-F.Field a.again (moved_name (rest q2) n);
      like = ap (λ (z : Expr). roll-Target (Target-F.Field z (unplaced_name n))) a.like;
      shape = ap (λ (z : Shape). accessing z true) a.shape;
      filled = filled_member qs (of_expr x.0) (of_expr a.again) n a.filled;
    }
case_target (Target-F.Item x k) qs =
    let q2 : List ℕ = behind (of_expr x.0).forms qs in
    let a = x.1 qs in
    let b = k.1 (rest q2) in
    record {
      node = Target-F.Item a.again b.again;
      like = ap₂ (λ (u v : Expr). roll-Target (Target-F.Item u v)) a.like b.like;
      shape = ap₂ (λ (u v : Shape). accessing u v.fits) a.shape b.shape;
      filled = filled_accessed qs (of_expr x.0) (of_expr a.again) _ _ a.filled (fills_enclosed q2 p.OpenBracket p.CloseBracket _ _ b.filled.forms);
    }
