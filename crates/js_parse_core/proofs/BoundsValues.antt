-- Behind a value: what is read fits its place.
use Rattle.std.proofs.Common.{◌≡◌, ℕ, ◌≤◌, Bool, true, false, ◌||◌, List, [], ◌∷◌, ◌++◌, map, drop, Option, Some, None, Ok, Err, refl, sym, ◌∙◌, ap, subst, arith, true≢false}
use Rattle.std.proofs.lemmas.Bool.{and_from, or_parts}
use Rattle.js_lex.specs.declared.token.Punctuator.{Punctuator}
use Rattle.js_lex.specs.declared.token.Punctuator.TheVariants as p
use Rattle.js_lex.specs.declared.token.TemplatePart.TheVariants as part
use Rattle.js_lex.specs.declared.token.TokenKind.{TokenKind}
use Rattle.js_lex.specs.declared.token.TokenKind.TheVariants as tok
use Rattle.js_lex.specs.declared.token.Token.{Token}
use Rattle.js_tree.specs.declared.tree.BinaryOp.{BinaryOp}
use Rattle.js_tree.specs.declared.tree.Declaration.{Declaration, roll-Declaration}
use Rattle.js_tree.specs.declared.tree.DeclareKind.{DeclareKind}
use Rattle.js_tree.specs.declared.tree.DeclareKind.TheVariants as declare
use Rattle.js_tree.specs.declared.tree.Expr.{Expr}
use Rattle.js_tree.specs.declared.tree.Expr.TheVariants as expr
use Rattle.js_tree.specs.declared.tree.ForBegin.TheVariants as for_begin
use Rattle.js_tree.specs.declared.tree.Name.{Name}
use Rattle.js_tree.specs.declared.tree.Property.{Property}
use Rattle.js_tree.specs.declared.tree.Property.TheVariants as property
use Rattle.js_tree.specs.declared.tree.Stmt.{Stmt}
use Rattle.js_tree.specs.declared.tree.Stmt.TheVariants as stmt
use Rattle.js_tree.specs.declared.tree.TemplateItem.{TemplateItem, roll-TemplateItem}
use Rattle.js_grammar.specs.Shapes.{First, DeclaredShape, Brace, strength, operand_level, logic, declared_fits, declarations_fit, of_expr, of_property, of_declaration, of_template, of_stmt}
use Rattle.js_parse_core.specs.declared.machine.At.{At}
use Rattle.js_parse_core.specs.declared.machine.At.TheVariants as at
use Rattle.js_parse_core.specs.declared.machine.Body.{Body}
use Rattle.js_parse_core.specs.declared.machine.Body.TheVariants as body
use Rattle.js_parse_core.specs.declared.machine.Callee.{Callee}
use Rattle.js_parse_core.specs.declared.machine.Callee.TheVariants as callee
use Rattle.js_parse_core.specs.declared.machine.Declared.{Declared}
use Rattle.js_parse_core.specs.declared.machine.Frame.{Frame}
use Rattle.js_parse_core.specs.declared.machine.Frame.TheVariants as frame
use Rattle.js_parse_core.specs.declared.machine.Logic as machine
use Rattle.js_parse_core.specs.declared.machine.Logic.TheVariants as logics
use Rattle.js_parse_core.specs.declared.machine.Open.{Open}
use Rattle.js_parse_core.specs.declared.machine.Operator.{Operator}
use Rattle.js_parse_core.specs.declared.machine.Operator.TheVariants as operator
use Rattle.js_parse_core.specs.declared.machine.Outer.{Outer}
use Rattle.js_parse_core.specs.declared.machine.Purpose.{Purpose}
use Rattle.js_parse_core.specs.declared.machine.Purpose.TheVariants as purpose
use Rattle.js_parse_core.specs.declared.machine.Tail.{Tail}
use Rattle.js_parse_core.specs.declared.machine.Tail.TheVariants as tail
use Rattle.js_parse_core.specs.Objects.{is_export, export, close_object}
use Rattle.js_parse_core.specs.Outer.{to, framed, constructs, first_frame, wait_tail}
use Rattle.js_parse_core.specs.Statements.{with_declaration}
use Rattle.js_parse_core.specs.Tokens.{is_close_paren, is_close_bracket, is_semicolon, is_comma, is_colon}
use Rattle.js_parse_core.specs.Values.{logic_of, are_mixed, outermost, operator_logic, waiting_in, waiting, Over, Folded, fold, fold_tails, call, on_argument_end, on_element_end, on_pair_end, on_hole_end, on_initial_done, on_initial_end, on_head_end, on_part_end, on_value, on_frame, on_over, on_folded, after_whole, joins, joins_folded, binary_behind, on_binary, tests, no_binary, after_operator, after_sign, after_value, binary_op}
use Rattle.js_parse_core.proofs.Fine.{beside_in, apart, first_in, purpose_first, Fit, Fills, Tight, Left, AllFit, AllMembers, AllParts, AllDeclared, NoBody, MayExport, FineTail, FineCallee, FineObject, FinePlace, FineDeclared, FinePurpose, FineBody, FineFrame, FineFrames, FineAt, FineItems, FineOuter, FineStep}
use Rattle.js_parse_core.proofs.FineLemmas.{either, strength_most, need_free}
use Rattle.js_parse_core.proofs.FineShapes.{logic_is, operator_logic_is, outermost_is, sealed, begun, tight_index, tight_call, tight_group, fills}
use Rattle.js_parse_core.proofs.FineFolds.{FineOver, FineFolded, fine_fold, FineEnd, fine_tails}
use Rattle.js_parse_core.proofs.FineBodies.{all_push, values_push, declared_push, items_export, fine_to, fine_push, fine_wait, Whole, closed_whole, item_whole, fine_end}
use Rattle.js_parse_core.proofs.BoundsBegin.{fine_wait_operand}
use Rattle.js_parse_core.proofs.ShapeEquations.{shape_new, shape_array, shape_object, shape_template, shape_pair, shape_part, shape_declaration, shape_for_start, shape_for_declarations, shape_declare, shape_expr_stmt, shape_return, shape_throw}

-- ---- objects

export_at : (e : Bool) (w : Frame) (fs : List Open) → is_export (Some w) ≡ true → FineFrame e w fs → MayExport e fs
export_at e frame.Export fs b h = h
export_at e (frame.Operator x) fs b h = absurd (true≢false (sym b))
export_at e (frame.Tail x) fs b h = absurd (true≢false (sym b))
export_at e (frame.Purpose x) fs b h = absurd (true≢false (sym b))
export_at e (frame.Body x) fs b h = absurd (true≢false (sym b))
export_at e (frame.Block x ss) fs b h = absurd (true≢false (sym b))

fine_export : (o : Outer) (fs : List Open) (xs : List Property) → is_export (first_frame fs) ≡ true → FineItems o.exported o.items → FineFrames o.exported fs → AllMembers xs → FineStep (export (framed o (drop 1 fs)) xs)
fine_export o [] xs b f h m = absurd (true≢false (sym b))
fine_export o (w ∷ fs) xs b f h m =
    let may = export_at o.exported w.frame fs b h.0 in
    record { outer = record { items = items_export o.items xs (subst (λ e. FineItems e o.items) may.1 f) m; frames = subst (FineFrames true) (sym may.0) tt }; here = tt }

pub fine_close_object : (o : Outer) (xs : List Property) → FineOuter o → FineObject xs o.frames → FineStep (close_object o xs)
fine_close_object o xs f h = either (is_export (first_frame o.frames)) _ _
    (λ b. fine_export o o.frames xs b f.items f.frames h.0)
    (λ b. fine_to o (at.Operand (expr.Object xs) 0) f (subst (Tight operand_level o.frames) (sym (shape_object xs)) (begun o.frames _ Brace h.0 h.1)))

-- ---- a value is whole

pub fine_call : (o : Outer) (c : Callee) (xs : List Expr) → FineOuter o → FineCallee c o.frames → AllFit xs → FineStep (call o c xs)
fine_call o (callee.Value x n) xs f h k = fine_to o (at.Operand (expr.Call x xs) _) f (tight_call o.frames x xs h k)
fine_call o (callee.New n) xs f h k = fine_to o (at.Operand (expr.New n xs) 0) f (subst (Tight operand_level o.frames) (sym (shape_new n xs)) (sealed o.frames _ k))

fine_argument_end : (o : Outer) (c : Callee) (xs : List Expr) (k : TokenKind) → FineOuter o → FineCallee c o.frames → AllFit xs → FineStep (on_argument_end o c xs k)
fine_argument_end o c xs (tok.Punctuator p.Comma) f h a = fine_to o (at.NextArgument c xs) f (h, a)
fine_argument_end o c xs (tok.Punctuator p.CloseParen) f h a = fine_call o c xs f h a
fine_argument_end o c xs _ f h a = tt

pub fine_array : (o : Outer) (xs : List Expr) → FineOuter o → AllFit xs → FineStep (to o (at.Operand (expr.Array xs) 0))
fine_array o xs f a = fine_to o (at.Operand (expr.Array xs) 0) f (subst (Tight operand_level o.frames) (sym (shape_array xs)) (sealed o.frames _ a))

fine_element_end : (o : Outer) (xs : List Expr) (k : TokenKind) → FineOuter o → AllFit xs → FineStep (on_element_end o xs k)
fine_element_end o xs (tok.Punctuator p.Comma) f a = fine_to o (at.NextElement xs) f a
fine_element_end o xs (tok.Punctuator p.CloseBracket) f a = fine_array o xs f a
fine_element_end o xs _ f a = tt

fine_pair_end : (o : Outer) (xs : List Property) (k : TokenKind) → FineOuter o → FineObject xs o.frames → FineStep (on_pair_end o xs k)
fine_pair_end o xs (tok.Punctuator p.Comma) f h = fine_to o (at.Key xs) f h
fine_pair_end o xs (tok.Punctuator p.CloseBrace) f h = fine_close_object o xs f h
fine_pair_end o xs _ f h = tt

fine_hole_end : (o : Outer) (is : List TemplateItem) (k : TokenKind) → FineOuter o → AllParts is → FineStep (on_hole_end o is k)
fine_hole_end o is (tok.Template part.Middle u) f h = fine_wait o 1 (purpose.Hole is u) f h (λ g. refl)
fine_hole_end o is (tok.Template part.Tail u) f h = fine_to o (at.Operand (expr.Template is u) 0) f (subst (Tight operand_level o.frames) (sym (shape_template is u)) (sealed o.frames _ h))
fine_hole_end o is _ f h = tt

-- ---- declarations

declared_some : (k : DeclareKind) (ds : List Declaration) (d : Declaration) → AllDeclared k (ds ++ d ∷ []) → declarations_fit k (map of_declaration (ds ++ d ∷ [])) ≡ true
declared_some k [] d h = h
declared_some k (y ∷ ds) d h = h

-- one declaration at least
pub record SomeDeclared (d : Declared) (fs : List Open) : Type 0 where
  pub fits : declarations_fit d.kind (map of_declaration d.declarations) ≡ true
  pub all : FineDeclared d fs

pub declared_with : (d : Declared) (n : Name) (x : Option Expr) (fs : List Open) → FineDeclared d fs → declared_fits d.kind (of_declaration (roll-Declaration (record { name = n; value = x }))) ≡ true → SomeDeclared (with_declaration d n x) fs
declared_with d n x fs h k =
    let a = declared_push d.kind d.declarations (roll-Declaration (record { name = n; value = x })) h.0 k in
    record { fits = declared_some d.kind d.declarations (roll-Declaration (record { name = n; value = x })) a; all = (a, h.1) }

value_declared : (k : DeclareKind) (d : DeclaredShape) → d.fits ≡ true → d.has_value ≡ true → declared_fits k d ≡ true
value_declared declare.Let d h v = h
value_declared declare.Const d h v = and_from d.fits d.has_value h v

pub fine_declare : (d : Declared) (fs : List Open) → SomeDeclared d fs → NoBody fs → Whole (first_frame fs) (of_stmt (stmt.Declare d.kind d.declarations))
fine_declare d fs h b = subst (Whole (first_frame fs)) (sym (shape_declare d.kind d.declarations)) (item_whole (first_frame fs) _ b h.fits refl)

pub fine_for_declared : (o : Outer) (d : Declared) → FineOuter o → SomeDeclared d o.frames → FineStep (to o (at.ForTest (for_begin.Declarations d.kind d.declarations)))
fine_for_declared o d f h = fine_to o (at.ForTest (for_begin.Declarations d.kind d.declarations)) f (shape_for_declarations d.kind d.declarations ∙ h.fits)

fine_initial_done : (o : Outer) (d : Declared) (t : Token) (b : Bool) → FineOuter o → SomeDeclared d o.frames → FinePlace b o.frames → FineStep (on_initial_done false o d t b)
fine_initial_done o d t false f h k = fine_end o (stmt.Declare d.kind d.declarations) t _ f (fine_declare d o.frames h k)
fine_initial_done o d t true f h k = either (is_semicolon t.kind) _ _ (λ _. fine_for_declared o d f h) (λ _. tt)

fine_initial_end : (o : Outer) (d : Declared) (t : Token) → FineOuter o → SomeDeclared d o.frames → FineStep (on_initial_end false o d t)
fine_initial_end o d t f h = either (is_comma t.kind) _ _ (λ _. fine_to o (at.DeclaredName d) f h.all) (λ _. fine_initial_done o d t d.in_for f h h.all.1)

-- ---- what the value is for

pub fine_head_end : (o : Outer) (b : Body) (t : Token) → FineOuter o → FineBody b → FineStep (on_head_end o b t)
fine_head_end o b t f h = either (is_close_paren t.kind) _ _ (λ _. record { outer = fine_push o 1 (frame.Body b) f h; here = tt }) (λ _. tt)

fine_part_end : (o : Outer) (a : At) (b : Bool) → FineOuter o → FineAt o.exported o.frames a → FineStep (on_part_end o a b)
fine_part_end o a true f h = fine_to o a f h
fine_part_end o a false f h = tt

pub fine_wait_tail : (o : Outer) (x : Tail) → FineOuter o → FineTail x o.frames → ((g : First) → first_in (Some (frame.Tail x)) g ≡ true) → FineStep (wait_tail o x)
fine_wait_tail o x f h g = record { outer = fine_push o 1 (frame.Tail x) f h; here = g }

-- a statement that is neither a declaration nor ends with another one
pub simple : (w : Option Frame) (s : Stmt) (b : Bool) → of_stmt s ≡ record { fits = b; is_body = true; takes_else = false } → b ≡ true → Whole w (of_stmt s)
simple w s b h k = subst (Whole w) (sym h) (closed_whole w _ (record { body = and_from b true k refl; takes_else = refl }))

fine_value : (o : Outer) (w : Purpose) (x : Expr) (t : Token) → FineOuter o → FinePurpose w o.frames → Fit x → purpose_first w (of_expr x).first ≡ true → FineStep (on_value false o w x t)
fine_value o (purpose.Then test) x t f h v l = either (is_colon t.kind) _ _ (λ _. fine_wait_tail o (tail.Else test x) f (h, v) (λ g. refl)) (λ _. tt)
fine_value o purpose.Group x t f h v l = fine_part_end o (at.Operand (expr.Group x) 0) (is_close_paren t.kind) f (tight_group o.frames x v)
fine_value o (purpose.Argument c xs) x t f h v l = fine_argument_end o c (xs ++ x ∷ []) t.kind f h.0 (values_push xs x h.1 v)
fine_value o (purpose.Index y n) x t f h v l = fine_part_end o (at.Operand (expr.Index y x) _) (is_close_bracket t.kind) f (tight_index o.frames y x h v)
fine_value o (purpose.Element xs) x t f h v l = fine_element_end o (xs ++ x ∷ []) t.kind f (values_push xs x h v)
fine_value o (purpose.Pair xs k) x t f h v l = fine_pair_end o (xs ++ property.Pair k x ∷ []) t.kind f (all_push of_property xs (property.Pair k x) h.0 (shape_pair k x ∙ v), h.1)
fine_value o (purpose.Hole is u) x t f h v l = fine_hole_end o (is ++ roll-TemplateItem (record { units = u; value = x }) ∷ []) t.kind f (all_push of_template is (roll-TemplateItem (record { units = u; value = x })) h (shape_part (roll-TemplateItem (record { units = u; value = x })) ∙ v))
fine_value o purpose.If x t f h v l = fine_head_end o (body.Then x) t f v
fine_value o purpose.While x t f h v l = fine_head_end o (body.While x) t f v
fine_value o (purpose.ForOf k n) x t f h v l = fine_head_end o (body.ForOf k n x) t f v
fine_value o (purpose.ForUpdate b test) x t f h v l = fine_head_end o (body.For b test (Some x)) t f (h.0, h.1, v)
fine_value o purpose.ForStart x t f h v l = fine_part_end o (at.ForTest (for_begin.Start x)) (is_semicolon t.kind) f (shape_for_start x ∙ v)
fine_value o (purpose.ForTest b) x t f h v l = fine_part_end o (at.ForUpdate b (Some x)) (is_semicolon t.kind) f (h, v)
fine_value o purpose.Statement x t f h v l = fine_end o (stmt.Expr x) t _ f (simple (first_frame o.frames) (stmt.Expr x) _ (shape_expr_stmt x) (and_from (of_expr x).fits _ v l))
fine_value o (purpose.Initial d n) x t f h v l = fine_initial_end o (with_declaration d n (Some x)) t f (declared_with d n (Some x) o.frames h (ap (declared_fits d.kind) (shape_declaration n x) ∙ value_declared d.kind _ v refl))
fine_value o (purpose.Return q) x t f h v l = fine_end o (stmt.Return q (Some x)) t _ f (simple (first_frame o.frames) (stmt.Return q (Some x)) _ (shape_return q (Some x)) v)
fine_value o purpose.Throw x t f h v l = fine_end o (stmt.Throw x) t _ f (simple (first_frame o.frames) (stmt.Throw x) _ (shape_throw x) v)

fine_at_frame : (o : Outer) (w : Frame) (x : Expr) (t : Token) → FineOuter o → FineFrame o.exported w o.frames → Fit x → first_in (Some w) (of_expr x).first ≡ true → FineStep (on_frame false o x t (Some w))
fine_at_frame o (frame.Purpose w) x t f h v l = fine_value o w x t f h v l
fine_at_frame o _ x t f h v l = tt

fine_on_frame : (o : Outer) (fs : List Open) (x : Expr) (t : Token) → FineItems o.exported o.items → FineFrames o.exported fs → Fills fs (of_expr x) → FineStep (on_frame false (framed o (drop 1 fs)) x t (first_frame fs))
fine_on_frame o [] x t f h v = tt
fine_on_frame o (w ∷ fs) x t f h v = fine_at_frame (framed o fs) w.frame x t (record { items = f; frames = h.1 }) h.0 v.fits v.first

fine_on_over : (o : Outer) (t : Token) (v : Over) → FineItems o.exported o.items → FineEnd o.exported v → FineStep (on_over false o t v)
fine_on_over o t v f h = fine_on_frame o v.frames v.value t f h.frames h.value

fine_on_folded : (o : Outer) (t : Token) (n : ℕ) (v : Folded) → FineItems o.exported o.items → FineFolded o.exported n v → FineStep (on_folded false o t v)
fine_on_folded o t n (Ok v) f h = fine_on_over o t (fold_tails v.frames v.value) f (fine_tails o.exported v.frames v.value h.frames h.value)
fine_on_folded o t n (Err k) f h = tt

pub fine_after_whole : (o : Outer) (x : Expr) (t : Token) → FineOuter o → Fills o.frames (of_expr x) → FineStep (after_whole false o x t)
fine_after_whole o x t f h = fine_on_folded o t 0 (fold 0 o.frames x) f.items (fine_fold o.exported 0 o.frames x (omega arith) f.frames h (omega arith))

-- ---- binary operators, and `?`

apart_from : (a b : machine.Logic) → are_mixed a b ≡ false → (apart (logic_is a) (logic_is b) ≡ true) × (apart (logic_is b) (logic_is a) ≡ true)
apart_from logics.Coalescing logics.Coalescing h = (refl, refl)
apart_from logics.Coalescing logics.AndOr h = absurd (true≢false h)
apart_from logics.Coalescing logics.Other h = (refl, refl)
apart_from logics.AndOr logics.Coalescing h = absurd (true≢false h)
apart_from logics.AndOr logics.AndOr h = (refl, refl)
apart_from logics.AndOr logics.Other h = (refl, refl)
apart_from logics.Other logics.Coalescing h = (refl, refl)
apart_from logics.Other logics.AndOr h = (refl, refl)
apart_from logics.Other logics.Other h = (refl, refl)

beside_operator : (o : Operator) → beside_in (Some (frame.Operator o)) ≡ logic_is (operator_logic o)
beside_operator (operator.Binary x o) = operator_logic_is o
beside_operator _ = refl

beside_is : (w : Option Frame) → beside_in w ≡ logic_is (waiting_in w)
beside_is (Some (frame.Operator o)) = beside_operator o
beside_is (Some _) = refl
beside_is None = refl

left_operand : (e : Bool) (x : BinaryOp) (v : Over) → FineOver e (strength x) v → are_mixed (logic_of x) (outermost v.value) ≡ false → are_mixed (logic_of x) (waiting_in (first_frame v.frames)) ≡ false → Left x v.frames (of_expr v.value)
left_operand e x v h a b =
    let one = (apart_from (logic_of x) (outermost v.value) a).0 in
    let two = (apart_from (logic_of x) (waiting_in (first_frame v.frames)) b).1 in
    record {
      fits = h.value.fits;
      level = h.level;
      unmixed = ap (λ l. apart l (of_expr v.value).logic) (operator_logic_is x) ∙ ap (apart (logic_is (logic_of x))) (outermost_is v.value) ∙ one;
      first = h.value.first;
      low = h.low;
      next = ap (λ l. apart l (logic x)) (beside_is (first_frame v.frames)) ∙ ap (apart (logic_is (waiting_in (first_frame v.frames)))) (operator_logic_is x) ∙ two;
    }

outer_over : (o : Outer) (n : ℕ) (v : Over) → FineItems o.exported o.items → FineOver o.exported n v → FineOuter (framed o v.frames)
outer_over o n v f h = record { items = f; frames = h.frames }

fine_joins : (o : Outer) (x : BinaryOp) (n : ℕ) (t : Token) (v : Over) → FineItems o.exported o.items → FineOver o.exported (strength x) v → FineStep (joins false o x n t v)
fine_joins o x n t v f h = either (are_mixed (logic_of x) (outermost v.value) || are_mixed (logic_of x) (waiting (framed o v.frames))) _ _
    (λ _. fine_after_whole (framed o v.frames) v.value t (outer_over o (strength x) v f h) h.value)
    (λ b. let apart_both = or_parts (are_mixed (logic_of x) (outermost v.value)) _ b in fine_wait_operand (framed o v.frames) _ (operator.Binary v.value x) (outer_over o (strength x) v f h) (left_operand o.exported x v h apart_both.0 apart_both.1))

fine_joins_folded : (o : Outer) (x : BinaryOp) (n : ℕ) (t : Token) (v : Folded) → FineItems o.exported o.items → FineFolded o.exported (strength x) v → FineStep (joins_folded false o x n t v)
fine_joins_folded o x n t (Ok v) f h = fine_joins o x n t v f h
fine_joins_folded o x n t (Err k) f h = tt

fine_behind : (o : Outer) (x : BinaryOp) (t : Token) (v : Folded) → FineItems o.exported o.items → FineFolded o.exported 7 v → FineStep (binary_behind false o x t v)
fine_behind o x t (Ok v) f h =
    let s = strength_most x in
    let l = h.level in
    fine_joins_folded o x (constructs (framed o v.frames)) t (fold (strength x) v.frames v.value) f (fine_fold o.exported (strength x) v.frames v.value (omega arith) h.frames h.value (omega arith))
fine_behind o x t (Err k) f h = tt

fine_tests : (o : Outer) (v : Folded) → FineItems o.exported o.items → FineFolded o.exported 1 v → FineStep (tests o v)
fine_tests o (Ok v) f h = fine_wait (framed o v.frames) 1 (purpose.Then v.value) (outer_over o 1 v f h) (record { fits = h.value.fits; level = h.level; free = need_free v.frames h.low; first = h.value.first }) (λ g. refl)
fine_tests o (Err k) f h = tt

fine_binary : (o : Outer) (x : BinaryOp) (y : Expr) (t : Token) → FineOuter o → Fills o.frames (of_expr y) → 7 ≤ (of_expr y).level → FineStep (on_binary false o x y t)
fine_binary o x y t f h k = fine_behind o x t (fold 7 o.frames y) f.items (fine_fold o.exported 7 o.frames y (omega arith) f.frames h k)

fine_no_binary : (o : Outer) (x : Expr) (t : Token) (s : Punctuator) → FineOuter o → Fills o.frames (of_expr x) → 7 ≤ (of_expr x).level → FineStep (no_binary false o x t s)
fine_no_binary o x t p.Question f h k = fine_tests o (fold 1 o.frames x) f.items (fine_fold o.exported 1 o.frames x (omega arith) f.frames h (omega arith))
fine_no_binary o x t _ f h k = fine_after_whole o x t f h

fine_after_operator : (o : Outer) (x : Expr) (t : Token) (s : Punctuator) (b : Option BinaryOp) → FineOuter o → Fills o.frames (of_expr x) → 7 ≤ (of_expr x).level → FineStep (after_operator false o x t s b)
fine_after_operator o x t s (Some b) f h k = fine_binary o b x t f h k
fine_after_operator o x t s None f h k = fine_no_binary o x t s f h k

fine_after_sign : (o : Outer) (x : Expr) (t : Token) (k : TokenKind) → FineOuter o → Fills o.frames (of_expr x) → 7 ≤ (of_expr x).level → FineStep (after_sign false o x t k)
fine_after_sign o x t (tok.Punctuator s) f h k = fine_after_operator o x t s (binary_op s) f h k
fine_after_sign o x t _ f h k = fine_after_whole o x t f h

pub fine_after_value : (o : Outer) (n : ℕ) (x : Expr) (t : Token) → 7 ≤ n → FineOuter o → Tight n o.frames (of_expr x) → FineStep (after_value false o x t)
fine_after_value o n x t l f h = let m = h.level in fine_after_sign o x t t.kind f (fills n o.frames (of_expr x) l h) (omega arith)
