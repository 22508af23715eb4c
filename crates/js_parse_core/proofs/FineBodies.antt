-- Statements that are whole: what waits for them gets what fits.
use Rattle.std.proofs.Common.{◌≡◌, ℕ, ◌+◌, Bool, true, false, not, ◌&&◌, List, [], ◌∷◌, ◌++◌, map, Option, Some, None, option_map, refl, sym, ◌∙◌, ap, subst, arith, true≢false}
use Rattle.std.proofs.lemmas.Bool.{and_from, and_parts, not_from_false}
use Rattle.js_lex.specs.declared.token.Token.{Token}
use Rattle.js_tree.specs.declared.tree.Declaration.{Declaration}
use Rattle.js_tree.specs.declared.tree.DeclareKind.{DeclareKind}
use Rattle.js_tree.specs.declared.tree.Expr.{Expr}
use Rattle.js_tree.specs.declared.tree.Item.{Item}
use Rattle.js_tree.specs.declared.tree.Item.TheVariants as item
use Rattle.js_tree.specs.declared.tree.Property.{Property}
use Rattle.js_tree.specs.declared.tree.Stmt.{Stmt}
use Rattle.js_tree.specs.declared.tree.Stmt.TheVariants as stmt
use Rattle.js_grammar.specs.Shapes.{First, StmtShape, all_true, declared_fits, value_fits, body_fits, branching, loop, item_fits, exports, of_expr, of_declaration, of_for, of_stmt}
use Rattle.js_parse_core.specs.declared.machine.At.{At}
use Rattle.js_parse_core.specs.declared.machine.Block.{Block}
use Rattle.js_parse_core.specs.declared.machine.Body.{Body}
use Rattle.js_parse_core.specs.declared.machine.Body.TheVariants as body
use Rattle.js_parse_core.specs.declared.machine.Frame.{Frame}
use Rattle.js_parse_core.specs.declared.machine.Frame.TheVariants as frame
use Rattle.js_parse_core.specs.declared.machine.Open.{Open}
use Rattle.js_parse_core.specs.declared.machine.Outer.{Outer}
use Rattle.js_parse_core.specs.declared.machine.Purpose.{Purpose}
use Rattle.js_parse_core.specs.declared.machine.Refusal.{Refusal}
use Rattle.js_parse_core.specs.Outer.{Step, to, framed, push, first_frame, is_body, with_body, add_item, add, complete_body, complete_frame, complete_in, complete, settle_frame, settle_in, settle, wait}
use Rattle.js_parse_core.specs.Statements.{end, ends_statement}
use Rattle.js_parse_core.proofs.Fine.{AllFit, AllMembers, AllStatements, AllDeclared, Fit, Stands, IsBody, Closed, FineBody, FineFrame, FineFrames, FineAt, FineItems, FineOuter, FineStep, FinePurpose, purpose_first}
use Rattle.js_parse_core.proofs.FineLemmas.{either}
use Rattle.js_parse_core.proofs.ShapeEquations.{shape_if, shape_for, shape_for_of, shape_while}

-- ---- one more

pub all_push : {A : Type 0} → (f : A → Bool) (xs : List A) (x : A) → all_true (map f xs) ≡ true → f x ≡ true → all_true (map f (xs ++ x ∷ [])) ≡ true
all_push f [] x h k = and_from (f x) true k refl
all_push f (y ∷ xs) x h k = let p = and_parts (f y) _ h in and_from (f y) _ p.0 (all_push f xs x p.1 k)

pub values_push : (xs : List Expr) (x : Expr) → AllFit xs → Fit x → AllFit (xs ++ x ∷ [])
values_push [] x h k = and_from (of_expr x).fits true k refl
values_push (y ∷ xs) x h k = let p = and_parts (of_expr y).fits _ h in and_from (of_expr y).fits _ p.0 (values_push xs x p.1 k)

pub statements_push : (ss : List Stmt) (s : Stmt) → AllStatements ss → (of_stmt s).fits ≡ true → AllStatements (ss ++ s ∷ [])
statements_push [] s h k = and_from (of_stmt s).fits true k refl
statements_push (y ∷ ss) s h k = let p = and_parts (of_stmt y).fits _ h in and_from (of_stmt y).fits _ p.0 (statements_push ss s p.1 k)

pub declared_push : (k : DeclareKind) (ds : List Declaration) (d : Declaration) → AllDeclared k ds → declared_fits k (of_declaration d) ≡ true → AllDeclared k (ds ++ d ∷ [])
declared_push k [] d h f = and_from (declared_fits k (of_declaration d)) true f refl
declared_push k (y ∷ ds) d h f = let p = and_parts (declared_fits k (of_declaration y)) _ h in and_from (declared_fits k (of_declaration y)) _ p.0 (declared_push k ds d p.1 f)

exports_stmt : (is : List Item) (s : Stmt) → exports (is ++ item.Stmt s ∷ []) ≡ exports is
exports_stmt [] s = refl
exports_stmt (item.Stmt t ∷ is) s = exports_stmt is s
exports_stmt (item.Export xs ∷ is) s = ap (λ n. 1 + n) (exports_stmt is s)

exports_one : (is : List Item) (ys : List Property) → exports is ≡ 0 → exports (is ++ item.Export ys ∷ []) ≡ 1
exports_one [] ys h = refl
exports_one (item.Stmt t ∷ is) ys h = exports_one is ys h
exports_one (item.Export xs ∷ is) ys h = absurd (omega (arith, h))

pub items_push : (e : Bool) (is : List Item) (s : Stmt) → FineItems e is → (of_stmt s).fits ≡ true → FineItems e (is ++ item.Stmt s ∷ [])
items_push e is s h k = record { fit = all_push item_fits is (item.Stmt s) h.fit k; exported_once = exports_stmt is s ∙ h.exported_once }

pub items_export : (is : List Item) (xs : List Property) → FineItems false is → AllMembers xs → FineItems true (is ++ item.Export xs ∷ [])
items_export is xs h k = record { fit = all_push item_fits is (item.Export xs) h.fit k; exported_once = exports_one is xs h.exported_once }

-- ---- states

pub fine_to : (o : Outer) (a : At) → FineOuter o → FineAt o.exported o.frames a → FineStep (to o a)
fine_to o a f h = record { outer = f; here = h }

pub fine_push : (o : Outer) (n : ℕ) (w : Frame) → FineOuter o → FineFrame o.exported w o.frames → FineOuter (push o n w)
fine_push o n w f h = record { items = f.items; frames = (h, f.frames) }

pub fine_wait : (o : Outer) (n : ℕ) (x : Purpose) → FineOuter o → FinePurpose x o.frames → ((g : First) → purpose_first x g ≡ true) → FineStep (wait o n x)
fine_wait o n x f h g = record { outer = fine_push o n (frame.Purpose x) f h; here = g }

-- ---- a statement is whole

pub record Whole (w : Option Frame) (s : StmtShape) : Type 0 where
  pub stands : Stands w s
  pub takes_else : s.takes_else ≡ false

pub body_stands : (w : Option Frame) (s : StmtShape) → IsBody s → Stands w s
body_stands w s h = let p = and_parts s.fits s.is_body h in record { fits = p.0; body = λ _. p.1 }

pub closed_whole : (w : Option Frame) (s : StmtShape) → Closed s → Whole w s
closed_whole w s h = record { stands = body_stands w s h.body; takes_else = h.takes_else }

-- what is no body's own
pub item_whole : (w : Option Frame) (s : StmtShape) → is_body w ≡ false → s.fits ≡ true → s.takes_else ≡ false → Whole w s
item_whole w s h f t = record { stands = record { fits = f; body = λ b. absurd (true≢false (sym b ∙ h)) }; takes_else = t }

branched : (test : Bool) (a : StmtShape) → test ≡ true → IsBody a → IsBody (branching test a None)
branched test a h k = and_from (test && body_fits a) true (and_from test (body_fits a) h k) refl

branched_else : (test : Bool) (a b : StmtShape) → test ≡ true → Closed a → IsBody b → IsBody (branching test a (Some b))
branched_else test a b h k l =
    let one = and_from (body_fits a) (not a.takes_else) k.body (not_from_false a.takes_else k.takes_else) in
    let two = and_from (body_fits a && not a.takes_else) (body_fits b) one l in
    and_from (test && ((body_fits a && not a.takes_else) && body_fits b)) true (and_from test _ h two) refl

looped : (b : Bool) (s : StmtShape) → b ≡ true → IsBody s → IsBody (loop b s)
looped b s h k = and_from (b && body_fits s) true (and_from b (body_fits s) h k) refl

pub if_body : (test : Expr) (s : Stmt) → Fit test → IsBody (of_stmt s) → IsBody (of_stmt (stmt.If test s None))
if_body test s h k = subst IsBody (sym (shape_if test s None)) (branched (of_expr test).fits (of_stmt s) h k)

pub body_with : (b : Body) (s : Stmt) → FineBody b → IsBody (of_stmt s) → IsBody (of_stmt (with_body b s))
body_with (body.Then test) s h k = if_body test s h k
body_with (body.Else test a) s h k = subst IsBody (sym (shape_if test a (Some s))) (branched_else (of_expr test).fits (of_stmt a) (of_stmt s) h.0 h.1 k)
body_with (body.For b test update) s h k = subst IsBody (sym (shape_for b test update s)) (looped _ (of_stmt s) (and_from (of_for b) _ h.0 (and_from (value_fits (option_map of_expr test)) _ h.1 h.2)) k)
body_with (body.ForOf d n x) s h k = subst IsBody (sym (shape_for_of d n x s)) (looped _ (of_stmt s) h k)
body_with (body.While test) s h k = subst IsBody (sym (shape_while test s)) (looped _ (of_stmt s) h k)

takes : (x y : StmtShape) → x ≡ y → y.takes_else ≡ false → x.takes_else ≡ false
takes x y h k = ap (λ (z : StmtShape). z.takes_else) h ∙ k

fine_add : (o : Outer) (n : ℕ) (b : Block) (ss : List Stmt) (s : Stmt) → FineOuter o → FineFrame o.exported (frame.Block b ss) o.frames → (of_stmt s).fits ≡ true → FineStep (add o n b ss s)
fine_add o n b ss s f h k = record { outer = record { items = f.items; frames = ((h.0, statements_push ss s h.1 k), f.frames) }; here = tt }

fine_add_item : (o : Outer) (s : Stmt) → FineOuter o → (of_stmt s).fits ≡ true → FineStep (add_item o s)
fine_add_item o s f k = record { outer = record { items = items_push o.exported o.items s f.items k; frames = f.frames }; here = tt }

fine_complete_body : (o : Outer) (b : Body) (s : Stmt) (go : Stmt → Step) → FineOuter o → FineBody b → Closed (of_stmt s) → ((t : Stmt) → Closed (of_stmt t) → FineStep (go t)) → FineStep (complete_body o b s go)
fine_complete_body o (body.Then test) s go f h k g = record { outer = f; here = (h, k) }
fine_complete_body o (body.Else test a) s go f h k g = g (stmt.If test a (Some s)) (record { body = body_with (body.Else test a) s h k.body; takes_else = takes _ _ (shape_if test a (Some s)) k.takes_else })
fine_complete_body o (body.For b test update) s go f h k g = g (stmt.For b test update s) (record { body = body_with (body.For b test update) s h k.body; takes_else = takes _ _ (shape_for b test update s) k.takes_else })
fine_complete_body o (body.ForOf d n x) s go f h k g = g (stmt.ForOf d n x s) (record { body = body_with (body.ForOf d n x) s h k.body; takes_else = takes _ _ (shape_for_of d n x s) k.takes_else })
fine_complete_body o (body.While test) s go f h k g = g (stmt.While test s) (record { body = body_with (body.While test) s h k.body; takes_else = takes _ _ (shape_while test s) k.takes_else })

stands_body : (b : Body) (s : StmtShape) → Stands (Some (frame.Body b)) s → IsBody s
stands_body b s h = and_from s.fits s.is_body h.fits (h.body refl)

fine_complete_frame : (o : Outer) (n : ℕ) (w : Frame) (s : Stmt) (go : Stmt → Step) → FineOuter o → FineFrame o.exported w o.frames → Whole (Some w) (of_stmt s) → ((t : Stmt) → Closed (of_stmt t) → FineStep (go t)) → FineStep (complete_frame o n w s go)
fine_complete_frame o n (frame.Block b ss) s go f h k g = fine_add o n b ss s f h k.stands.fits
fine_complete_frame o n (frame.Body b) s go f h k g = fine_complete_body o b s go f h (record { body = stands_body b (of_stmt s) k.stands; takes_else = k.takes_else }) g
fine_complete_frame o n _ s go f h k g = tt

pub fine_complete_in : (o : Outer) (fs : List Open) (s : Stmt) → FineItems o.exported o.items → FineFrames o.exported fs → Whole (first_frame fs) (of_stmt s) → FineStep (complete_in o fs s)
fine_complete_in o [] s f h k = fine_add_item (framed o []) s (record { items = f; frames = tt }) k.stands.fits
fine_complete_in o (w ∷ fs) s f h k = fine_complete_frame (framed o fs) w.constructs w.frame s (λ t. complete_in o fs t) (record { items = f; frames = h.1 }) h.0 k (λ t c. fine_complete_in o fs t f h.1 (closed_whole (first_frame fs) (of_stmt t) c))

pub fine_complete : (o : Outer) (s : Stmt) → FineOuter o → Whole (first_frame o.frames) (of_stmt s) → FineStep (complete o s)
fine_complete o s f k = fine_complete_in o o.frames s f.items f.frames k

fine_settle_frame : (o : Outer) (n : ℕ) (w : Frame) (s : Stmt) (go : Stmt → Step) → FineOuter o → FineFrame o.exported w o.frames → Stands (Some w) (of_stmt s) → ((t : Stmt) → IsBody (of_stmt t) → FineStep (go t)) → FineStep (settle_frame o n w s go)
fine_settle_frame o n (frame.Block b ss) s go f h k g = fine_add o n b ss s f h k.fits
fine_settle_frame o n (frame.Body b) s go f h k g = g (with_body b s) (body_with b s h (stands_body b (of_stmt s) k))
fine_settle_frame o n _ s go f h k g = tt

pub fine_settle_in : (o : Outer) (fs : List Open) (s : Stmt) → FineItems o.exported o.items → FineFrames o.exported fs → Stands (first_frame fs) (of_stmt s) → FineStep (settle_in o fs s)
fine_settle_in o [] s f h k = fine_add_item (framed o []) s (record { items = f; frames = tt }) k.fits
fine_settle_in o (w ∷ fs) s f h k = fine_settle_frame (framed o fs) w.constructs w.frame s (λ t. settle_in o fs t) (record { items = f; frames = h.1 }) h.0 k (λ t c. fine_settle_in o fs t f h.1 (body_stands (first_frame fs) (of_stmt t) c))

pub fine_settle : (o : Outer) (s : Stmt) → FineOuter o → Stands (first_frame o.frames) (of_stmt s) → FineStep (settle o s)
fine_settle o s f k = fine_settle_in o o.frames s f.items f.frames k

-- its end
pub fine_end : (o : Outer) (s : Stmt) (t : Token) (k : Refusal) → FineOuter o → Whole (first_frame o.frames) (of_stmt s) → FineStep (end false o s t k)
fine_end o s t k f h = either (ends_statement false t.kind) _ _ (λ _. fine_complete o s f h) (λ _. tt)
