-- Between and in statements: what is read fits its place.
use Rattle.std.proofs.Common.{◌≡◌, ℕ, Bool, true, false, not, ◌&&◌, List, [], ◌∷◌, ◌++◌, map, drop, Option, Some, None, Ok, Err, option_map, refl, sym, ◌∙◌, ap, subst, true≢false}
use Rattle.std.proofs.lemmas.Bool.{and_from, and_parts, not-true}
use Rattle.js_lex.specs.declared.token.Punctuator.{Punctuator}
use Rattle.js_lex.specs.declared.token.Punctuator.TheVariants as p
use Rattle.js_lex.specs.declared.token.Reserved.{Reserved}
use Rattle.js_lex.specs.declared.token.Reserved.TheVariants as r
use Rattle.js_lex.specs.declared.token.TokenKind.{TokenKind}
use Rattle.js_lex.specs.declared.token.TokenKind.TheVariants as tok
use Rattle.js_lex.specs.declared.token.Token.{Token}
use Rattle.js_tree.specs.declared.tree.ArrowBody.TheVariants as arrow_body
use Rattle.js_tree.specs.declared.tree.Catch.{Catch, roll-Catch}
use Rattle.js_tree.specs.declared.tree.DeclareKind.{DeclareKind}
use Rattle.js_tree.specs.declared.tree.DeclareKind.TheVariants as declare
use Rattle.js_tree.specs.declared.tree.Declaration.{roll-Declaration}
use Rattle.js_tree.specs.declared.tree.Expr.{Expr}
use Rattle.js_tree.specs.declared.tree.Expr.TheVariants as expr
use Rattle.js_tree.specs.declared.tree.ForBegin.{ForBegin}
use Rattle.js_tree.specs.declared.tree.ForBegin.TheVariants as for_begin
use Rattle.js_tree.specs.declared.tree.Name.{Name}
use Rattle.js_tree.specs.declared.tree.Property.TheVariants as property
use Rattle.js_tree.specs.declared.tree.Stmt.{Stmt}
use Rattle.js_tree.specs.declared.tree.Stmt.TheVariants as stmt
use Rattle.js_grammar.specs.Shapes.{StmtShape, FunctionWord, operand_level, is_other, all_statements_fit, catch_fits, handles, declared_fits, of_function, of_property, of_declaration, of_for, of_catch, of_stmt}
use Rattle.js_parse_core.specs.declared.machine.At.{At}
use Rattle.js_parse_core.specs.declared.machine.At.TheVariants as at
use Rattle.js_parse_core.specs.declared.machine.Block.{Block}
use Rattle.js_parse_core.specs.declared.machine.Block.TheVariants as block
use Rattle.js_parse_core.specs.declared.machine.Body.{Body}
use Rattle.js_parse_core.specs.declared.machine.Body.TheVariants as body
use Rattle.js_parse_core.specs.declared.machine.Declared.{Declared}
use Rattle.js_parse_core.specs.declared.machine.Frame.{Frame}
use Rattle.js_parse_core.specs.declared.machine.Frame.TheVariants as frame
use Rattle.js_parse_core.specs.declared.machine.Head.{Head}
use Rattle.js_parse_core.specs.declared.machine.Head.TheVariants as head
use Rattle.js_parse_core.specs.declared.machine.Open.{Open}
use Rattle.js_parse_core.specs.declared.machine.Opening.{Opening}
use Rattle.js_parse_core.specs.declared.machine.Opening.TheVariants as opening
use Rattle.js_parse_core.specs.declared.machine.Outer.{Outer}
use Rattle.js_parse_core.specs.declared.machine.Purpose.TheVariants as purpose
use Rattle.js_parse_core.specs.Outer.{Step, framed, first_frame, wait_body, in_body, complete, settle}
use Rattle.js_parse_core.specs.Statements.{is_top, not_in_body, declares, on_export, expression_statement, begin_by_word, block_constructs, function, close_function, close, close_frame, close_block, end_script, begin_by_sign, on_statement_kind, on_statement, to_else, else_behind, statement_behind, resume, after_then, open_head, on_opening, for_start, on_for_kind, on_for_head, on_for_test, on_for_update, on_return, on_throw, on_jump, on_declared_name, with_declaration, declared_in, on_bare_name, without_value, is_first, on_name_declared, on_try, after_try, on_catch, on_catch_name, on_catch_close, on_catch_body, after_catch, on_finally, on_export_word, on_export_object, after_export}
use Rattle.js_parse_core.specs.Tokens.{name, is_open_paren, is_close_paren, is_open_brace, is_semicolon, is_comma, is_equal, is_else, is_finally, is_default, is_of}
use Rattle.js_parse_core.proofs.Fine.{Fit, Tight, AllStatements, Value, Caught, NoBody, Stands, Closed, MayExport, FinePlace, FineDeclared, FineBody, FineHead, FineBlock, FineFrame, FineFrames, FineAt, FineItems, FineOuter, FineStep}
use Rattle.js_parse_core.proofs.FineLemmas.{either}
use Rattle.js_parse_core.proofs.FineShapes.{begun, fills_arrow}
use Rattle.js_parse_core.proofs.FineBodies.{all_push, fine_to, fine_push, fine_wait, Whole, closed_whole, item_whole, body_stands, if_body, fine_complete, fine_settle, fine_end}
use Rattle.js_parse_core.proofs.BoundsBegin.{first_of, fine_begin}
use Rattle.js_parse_core.proofs.BoundsValues.{SomeDeclared, declared_with, fine_declare, fine_for_declared, simple}
use Rattle.js_parse_core.proofs.BoundsOperands.{fine_open_block}
use Rattle.js_parse_core.proofs.ShapeEquations.{shape_function, shape_function_expr, shape_declare_function, shape_method, shape_block, shape_arrow_statements, shape_catch, shape_try, shape_empty, shape_break, shape_continue, shape_return, shape_bare_declaration, shape_for_nothing}

-- ---- a statement begins

fine_not_in_body : (o : Outer) (a : At) → FineOuter o → (NoBody o.frames → FineAt o.exported o.frames a) → FineStep (not_in_body o a)
fine_not_in_body o a f h = either (in_body o) _ _ (λ _. tt) (λ b. fine_to o a f (h b))

pub top_empty : (fs : List Open) → is_top fs ≡ true → fs ≡ []
top_empty [] h = refl
top_empty (f ∷ fs) h = absurd (true≢false (sym h))

fine_on_export : (o : Outer) → FineOuter o → FineStep (on_export o)
fine_on_export o f = either (is_top o.frames && not o.exported) _ _ (λ b. let parts = and_parts (is_top o.frames) _ b in fine_to o at.ExportDefault f (top_empty o.frames parts.0, not-true o.exported parts.1)) (λ _. tt)

fine_expression : (o : Outer) (t : Token) (k : TokenKind) → t.kind ≡ k → is_other (first_of k) ≡ true → FineOuter o → FineStep (expression_statement o t)
fine_expression o t k is h f = fine_begin _ t (fine_push o 0 (frame.Purpose purpose.Statement) f tt) (ap (λ z. is_other (first_of z)) is ∙ h)

jump : (s : Stmt) → of_stmt s ≡ record { fits = true; is_body = true; takes_else = false } → Closed (of_stmt s)
jump s h = subst Closed (sym h) (record { body = refl; takes_else = refl })

fine_by_word : (o : Outer) (t : Token) (x : Reserved) → t.kind ≡ tok.Reserved x → FineOuter o → FineStep (begin_by_word o t x)
fine_by_word o t r.If is f = fine_to o (at.Opening opening.If) f tt
fine_by_word o t r.While is f = fine_to o (at.Opening opening.While) f tt
fine_by_word o t r.For is f = fine_to o (at.Opening opening.For) f tt
fine_by_word o t r.Break is f = fine_to o (at.Jump (stmt.Break t.place)) f (jump (stmt.Break t.place) (shape_break t.place))
fine_by_word o t r.Continue is f = fine_to o (at.Jump (stmt.Continue t.place)) f (jump (stmt.Continue t.place) (shape_continue t.place))
fine_by_word o t r.Return is f = fine_to o (at.Return t.place) f tt
fine_by_word o t r.Throw is f = fine_to o at.Throw f tt
fine_by_word o t r.Try is f = fine_to o at.TryOpen f tt
fine_by_word o t r.Function is f = fine_not_in_body o (at.FunctionName true false) f (λ h. h)
fine_by_word o t r.Export is f = fine_on_export o f
fine_by_word o t r.Let is f = fine_not_in_body o (at.DeclaredName (declares declare.Let false)) f (λ h. (refl, h))
fine_by_word o t r.Const is f = fine_not_in_body o (at.DeclaredName (declares declare.Const false)) f (λ h. (refl, h))
fine_by_word o t x is f = fine_expression o t (tok.Reserved x) is refl f

-- ---- a block ends

function_fits : (a : Bool) (ns : List Name) (ss : List Stmt) → AllStatements ss → of_function (function a ns ss) ≡ true
function_fits a ns ss h = shape_function (function a ns ss) ∙ h

fine_close_function : (o : Outer) (x : Head) (ns : List Name) (ss : List Stmt) → FineOuter o → FineHead x o.frames → AllStatements ss → FineStep (close_function o x ns ss)
fine_close_function o (head.Declaration a n) ns ss f h k = fine_complete o (stmt.DeclareFunction n (function a ns ss)) f (subst (Whole (first_frame o.frames)) (sym (shape_declare_function n (function a ns ss))) (item_whole (first_frame o.frames) _ h (function_fits a ns ss k) refl))
fine_close_function o (head.Expression a n) ns ss f h k = fine_to o (at.Operand (expr.Function n (function a ns ss)) 0) f (subst (Tight operand_level o.frames) (sym (shape_function_expr n (function a ns ss))) (begun o.frames _ FunctionWord (function_fits a ns ss k) h))
fine_close_function o (head.Method a xs key) ns ss f h k = fine_to o (at.PropertyEnd (xs ++ property.Method key (function a ns ss) ∷ [])) f (all_push of_property xs (property.Method key (function a ns ss)) h.0 (shape_method key (function a ns ss) ∙ function_fits a ns ss k), h.1)

finally_handles : (c : Option Catch) (f : List StmtShape) → handles (option_map of_catch c) (Some f) ≡ true
finally_handles (Some c) f = refl
finally_handles None f = refl

try_finally : (w : Option Frame) (ss : List Stmt) (c : Option Catch) (fs : List Stmt) → AllStatements ss → Caught c → AllStatements fs → Whole w (of_stmt (stmt.Try ss c (Some fs)))
try_finally w ss c fs h k l = simple w (stmt.Try ss c (Some fs)) _ (shape_try ss c (Some fs)) (and_from (all_statements_fit (map of_stmt ss)) _ h (and_from (catch_fits (option_map of_catch c)) _ k (and_from (all_statements_fit (map of_stmt fs)) _ l (finally_handles c (map of_stmt fs)))))

fine_close : (o : Outer) (b : Block) (ss : List Stmt) → FineOuter o → FineBlock b o.frames → AllStatements ss → FineStep (close o b ss)
fine_close o block.Plain ss f h k = fine_complete o (stmt.Block ss) f (simple (first_frame o.frames) (stmt.Block ss) _ (shape_block ss) k)
fine_close o (block.Function x ns) ss f h k = fine_close_function o x ns ss f h k
fine_close o (block.Arrow a ns) ss f h k = fine_to o (at.Whole (expr.Arrow a ns (arrow_body.Statements ss))) f (fills_arrow o.frames a ns (arrow_body.Statements ss) h (shape_arrow_statements ss ∙ k))
fine_close o block.Try ss f h k = fine_to o (at.AfterTry ss) f k
fine_close o (block.Catch tried n) ss f h k = fine_to o (at.AfterCatch tried (roll-Catch (record { name = n; body = ss }))) f (h, shape_catch (roll-Catch (record { name = n; body = ss })) ∙ k)
fine_close o (block.Finally tried c) ss f h k = fine_complete o (stmt.Try tried c (Some ss)) f (try_finally (first_frame o.frames) tried c ss h.0 h.1 k)

fine_close_frame : (o : Outer) (w : Frame) → FineOuter o → FineFrame o.exported w o.frames → FineStep (close_frame o (Some w))
fine_close_frame o (frame.Block b ss) f h = fine_close o b ss f h.0 h.1
fine_close_frame o _ f h = tt

fine_close_in : (o : Outer) (fs : List Open) → FineItems o.exported o.items → FineFrames o.exported fs → FineStep (close_frame (framed o (drop 1 fs)) (first_frame fs))
fine_close_in o [] f h = tt
fine_close_in o (w ∷ fs) f h = fine_close_frame (framed o fs) w.frame (record { items = f; frames = h.1 }) h.0

fine_close_block : (o : Outer) → FineOuter o → FineStep (close_block o)
fine_close_block o f = fine_close_in o o.frames f.items f.frames

fine_end_script : (o : Outer) → FineOuter o → FineStep (end_script o)
fine_end_script o f = either (is_top o.frames) _ _ (λ _. fine_to o at.Statement f tt) (λ _. tt)

fine_by_sign : (o : Outer) (t : Token) (s : Punctuator) → t.kind ≡ tok.Punctuator s → FineOuter o → FineStep (begin_by_sign o t s)
fine_by_sign o t p.OpenBrace is f = fine_open_block o (block_constructs (in_body o)) block.Plain f tt
fine_by_sign o t p.CloseBrace is f = fine_close_block o f
fine_by_sign o t p.Semicolon is f = fine_complete o stmt.Empty f (simple (first_frame o.frames) stmt.Empty true shape_empty refl)
fine_by_sign o t s is f = fine_expression o t (tok.Punctuator s) is refl f

fine_statement_kind : (o : Outer) (t : Token) (k : TokenKind) → t.kind ≡ k → FineOuter o → FineStep (on_statement_kind o t k)
fine_statement_kind o t (tok.Punctuator s) is f = fine_by_sign o t s is f
fine_statement_kind o t (tok.Reserved x) is f = fine_by_word o t x is f
fine_statement_kind o t tok.End is f = fine_end_script o f
fine_statement_kind o t k is f = fine_expression o t k is refl f

pub fine_statement : (o : Outer) (t : Token) → FineOuter o → FineStep (on_statement o t)
fine_statement o t f = fine_statement_kind o t t.kind refl f

-- ---- `else`

pub fine_wait_body : (o : Outer) (b : Body) → FineOuter o → FineBody b → FineStep (wait_body o b)
fine_wait_body o b f h = record { outer = fine_push o 1 (frame.Body b) f h; here = tt }

fine_to_else : (o : Outer) (a : At) → FineOuter o → FineAt o.exported o.frames a → FineStep (to_else o a)
fine_to_else o (at.AfterThen test s) f h = fine_wait_body o (body.Else test s) f h
fine_to_else o _ f h = tt

fine_else_behind : (a : Step) → FineStep a → FineStep (else_behind a)
fine_else_behind (Ok n) f = fine_to_else n.outer n.at f.outer f.here
fine_else_behind (Err k) f = tt

fine_statement_behind : (a : Step) (t : Token) → FineStep a → FineStep (statement_behind a t)
fine_statement_behind (Ok n) t f = fine_statement n.outer t f.outer
fine_statement_behind (Err k) t f = tt

fine_resume : (o : Outer) (s : Stmt) (t : Token) → FineOuter o → Stands (first_frame o.frames) (of_stmt s) → (is_else t.kind ≡ true → (of_stmt s).takes_else ≡ false) → FineStep (resume o s t)
fine_resume o s t f h k = either (is_else t.kind) _ _ (λ b. fine_else_behind (complete o s) (fine_complete o s f (record { stands = h; takes_else = k b }))) (λ _. fine_statement_behind (settle o s) t (fine_settle o s f h))

pub fine_after_then : (o : Outer) (test : Expr) (s : Stmt) (t : Token) → FineOuter o → Fit test → Closed (of_stmt s) → FineStep (after_then o test s t)
fine_after_then o test s t f h k = either (is_else t.kind) _ _ (λ _. fine_wait_body o (body.Else test s) f (h, k))
    (λ b. fine_resume o (stmt.If test s None) t f (body_stands (first_frame o.frames) (of_stmt (stmt.If test s None)) (if_body test s h k.body)) (λ c. absurd (true≢false (sym c ∙ b))))

-- ---- heads

fine_open_head : (o : Outer) (x : Opening) → FineOuter o → FineStep (open_head o x)
fine_open_head o opening.If f = fine_wait o 1 purpose.If f tt (λ g. refl)
fine_open_head o opening.While f = fine_wait o 1 purpose.While f tt (λ g. refl)
fine_open_head o opening.For f = fine_to o at.ForHead f tt

pub fine_opening : (o : Outer) (x : Opening) (k : TokenKind) → FineOuter o → FineStep (on_opening o x k)
fine_opening o x k f = either (is_open_paren k) _ _ (λ _. fine_open_head o x f) (λ _. tt)

fine_for_start : (o : Outer) (t : Token) → FineOuter o → FineStep (for_start o t)
fine_for_start o t f = fine_begin _ t (fine_push o 1 (frame.Purpose purpose.ForStart) f tt) refl

fine_for_word : (o : Outer) (t : Token) (x : Reserved) → FineOuter o → FineStep (on_for_kind o t (tok.Reserved x))
fine_for_word o t r.Let f = fine_to o (at.DeclaredName (declares declare.Let true)) f (refl, tt)
fine_for_word o t r.Const f = fine_to o (at.DeclaredName (declares declare.Const true)) f (refl, tt)
fine_for_word o t _ f = fine_for_start o t f

fine_for_sign : (o : Outer) (t : Token) (s : Punctuator) → FineOuter o → FineStep (on_for_kind o t (tok.Punctuator s))
fine_for_sign o t p.Semicolon f = fine_to o (at.ForTest for_begin.Nothing) f shape_for_nothing
fine_for_sign o t _ f = fine_for_start o t f

fine_for_kind : (o : Outer) (t : Token) (k : TokenKind) → FineOuter o → FineStep (on_for_kind o t k)
fine_for_kind o t (tok.Reserved x) f = fine_for_word o t x f
fine_for_kind o t (tok.Punctuator s) f = fine_for_sign o t s f
fine_for_kind o t _ f = fine_for_start o t f

pub fine_for_head : (o : Outer) (t : Token) → FineOuter o → FineStep (on_for_head o t)
fine_for_head o t f = fine_for_kind o t t.kind f

pub fine_for_test : (o : Outer) (b : ForBegin) (t : Token) → FineOuter o → of_for b ≡ true → FineStep (on_for_test o b t)
fine_for_test o b t f h = either (is_semicolon t.kind) _ _ (λ _. fine_to o (at.ForUpdate b None) f (h, refl)) (λ _. fine_begin _ t (fine_push o 1 (frame.Purpose (purpose.ForTest b)) f h) refl)

pub fine_for_update : (o : Outer) (b : ForBegin) (test : Option Expr) (t : Token) → FineOuter o → of_for b ≡ true → Value test → FineStep (on_for_update o b test t)
fine_for_update o b test t f h k = either (is_close_paren t.kind) _ _ (λ _. fine_wait_body o (body.For b test None) f (h, k, refl)) (λ _. fine_begin _ t (fine_push o 1 (frame.Purpose (purpose.ForUpdate b test)) f (h, k)) refl)

pub fine_return : (o : Outer) (q : ℕ) (t : Token) → FineOuter o → FineStep (on_return false o q t)
fine_return o q t f = either _ _ _ (λ _. fine_end o (stmt.Return q None) t _ f (simple (first_frame o.frames) (stmt.Return q None) true (shape_return q None) refl)) (λ _. fine_begin _ t (fine_push o 0 (frame.Purpose (purpose.Return q)) f tt) refl)

pub fine_throw : (o : Outer) (t : Token) → FineOuter o → FineStep (on_throw o t)
fine_throw o t f = either t.after_line_end _ _ (λ _. tt) (λ _. fine_begin _ t (fine_push o 0 (frame.Purpose purpose.Throw) f tt) refl)

pub fine_jump : (o : Outer) (s : Stmt) (t : Token) → FineOuter o → Closed (of_stmt s) → FineStep (on_jump false o s t)
fine_jump o s t f h = fine_end o s t _ f (closed_whole (first_frame o.frames) (of_stmt s) h)

-- ---- declarations

pub fine_declared_name : (o : Outer) (d : Declared) (q : ℕ) (k : TokenKind) → FineOuter o → FineDeclared d o.frames → FineStep (on_declared_name o d q k)
fine_declared_name o d q (tok.Name u) f h = fine_to o (at.NameDeclared d (name q u)) f h
fine_declared_name o d q _ f h = tt

fine_declared_in : (o : Outer) (d : Declared) (t : Token) (b : Bool) → FineOuter o → SomeDeclared d o.frames → FinePlace b o.frames → FineStep (declared_in false o d t b)
fine_declared_in o d t true f h k = either (is_semicolon t.kind) _ _ (λ _. fine_for_declared o d f h) (λ _. tt)
fine_declared_in o d t false f h k = fine_end o (stmt.Declare d.kind d.declarations) t _ f (fine_declare d o.frames h k)

fine_bare_name : (o : Outer) (d : Declared) (t : Token) → FineOuter o → SomeDeclared d o.frames → FineStep (on_bare_name false o d t)
fine_bare_name o d t f h = either (is_comma t.kind) _ _ (λ _. fine_to o (at.DeclaredName d) f h.all) (λ _. fine_declared_in o d t d.in_for f h h.all.1)

bare_declared : (d : Declared) (n : Name) (fs : List Open) → d.kind ≡ declare.Let → FineDeclared d fs → SomeDeclared (with_declaration d n None) fs
bare_declared d n fs is h = declared_with d n None fs h (ap (λ k. declared_fits k (of_declaration (roll-Declaration (record { name = n; value = None })))) is ∙ ap (declared_fits declare.Let) (shape_bare_declaration n))

fine_without_value : (o : Outer) (d : Declared) (n : Name) (t : Token) (k : DeclareKind) → d.kind ≡ k → FineOuter o → FineDeclared d o.frames → FineStep (without_value false o d n t k)
fine_without_value o d n t declare.Let is f h = fine_bare_name o (with_declaration d n None) t f (bare_declared d n o.frames is h)
fine_without_value o d n t declare.Const is f h = tt

pub fine_name_declared : (o : Outer) (d : Declared) (n : Name) (t : Token) → FineOuter o → FineDeclared d o.frames → FineStep (on_name_declared false o d n t)
fine_name_declared o d n t f h = either (is_equal t.kind) _ _ (λ _. fine_wait o _ (purpose.Initial d n) f h (λ g. refl))
    (λ _. either (d.in_for && (is_first d.declarations && is_of t.kind)) _ _ (λ _. fine_wait o 1 (purpose.ForOf d.kind n) f tt (λ g. refl)) (λ _. fine_without_value o d n t d.kind refl f h))

-- ---- `try` and `export`

pub fine_try : (o : Outer) (k : TokenKind) → FineOuter o → FineStep (on_try o k)
fine_try o k f = either (is_open_brace k) _ _ (λ _. fine_open_block o 1 block.Try f tt) (λ _. tt)

fine_try_word : (o : Outer) (ss : List Stmt) (x : Reserved) → FineOuter o → AllStatements ss → FineStep (after_try o ss (tok.Reserved x))
fine_try_word o ss r.Catch f h = fine_to o (at.CatchOpen ss) f h
fine_try_word o ss r.Finally f h = fine_to o (at.FinallyOpen ss None) f (h, refl)
fine_try_word o ss _ f h = tt

pub fine_after_try : (o : Outer) (ss : List Stmt) (k : TokenKind) → FineOuter o → AllStatements ss → FineStep (after_try o ss k)
fine_after_try o ss (tok.Reserved x) f h = fine_try_word o ss x f h
fine_after_try o ss _ f h = tt

fine_catch_sign : (o : Outer) (ss : List Stmt) (s : Punctuator) → FineOuter o → AllStatements ss → FineStep (on_catch o ss (tok.Punctuator s))
fine_catch_sign o ss p.OpenParen f h = fine_to o (at.CatchName ss) f h
fine_catch_sign o ss p.OpenBrace f h = fine_open_block o 1 (block.Catch ss None) f h
fine_catch_sign o ss _ f h = tt

pub fine_catch : (o : Outer) (ss : List Stmt) (k : TokenKind) → FineOuter o → AllStatements ss → FineStep (on_catch o ss k)
fine_catch o ss (tok.Punctuator s) f h = fine_catch_sign o ss s f h
fine_catch o ss _ f h = tt

pub fine_catch_name : (o : Outer) (ss : List Stmt) (q : ℕ) (k : TokenKind) → FineOuter o → AllStatements ss → FineStep (on_catch_name o ss q k)
fine_catch_name o ss q (tok.Name u) f h = fine_to o (at.CatchClose ss (name q u)) f h
fine_catch_name o ss q _ f h = tt

pub fine_catch_close : (o : Outer) (ss : List Stmt) (n : Name) (k : TokenKind) → FineOuter o → AllStatements ss → FineStep (on_catch_close o ss n k)
fine_catch_close o ss n k f h = either (is_close_paren k) _ _ (λ _. fine_to o (at.CatchBody ss n) f h) (λ _. tt)

pub fine_catch_body : (o : Outer) (ss : List Stmt) (n : Name) (k : TokenKind) → FineOuter o → AllStatements ss → FineStep (on_catch_body o ss n k)
fine_catch_body o ss n k f h = either (is_open_brace k) _ _ (λ _. fine_open_block o 1 (block.Catch ss (Some n)) f h) (λ _. tt)

try_catch : (w : Option Frame) (ss : List Stmt) (c : Catch) → AllStatements ss → of_catch c ≡ true → Whole w (of_stmt (stmt.Try ss (Some c) None))
try_catch w ss c h k = simple w (stmt.Try ss (Some c) None) _ (shape_try ss (Some c) None) (and_from (all_statements_fit (map of_stmt ss)) _ h (and_from (of_catch c) _ k refl))

pub fine_after_catch : (o : Outer) (ss : List Stmt) (c : Catch) (t : Token) → FineOuter o → AllStatements ss → of_catch c ≡ true → FineStep (after_catch o ss c t)
fine_after_catch o ss c t f h k = either (is_finally t.kind) _ _ (λ _. fine_to o (at.FinallyOpen ss (Some c)) f (h, k))
    (λ _. let w = try_catch (first_frame o.frames) ss c h k in fine_resume o (stmt.Try ss (Some c) None) t f w.stands (λ _. w.takes_else))

pub fine_finally : (o : Outer) (ss : List Stmt) (c : Option Catch) (k : TokenKind) → FineOuter o → AllStatements ss → Caught c → FineStep (on_finally o ss c k)
fine_finally o ss c k f h l = either (is_open_brace k) _ _ (λ _. fine_open_block o 1 (block.Finally ss c) f (h, l)) (λ _. tt)

pub fine_export_word : (o : Outer) (k : TokenKind) → FineOuter o → MayExport o.exported o.frames → FineStep (on_export_word o k)
fine_export_word o k f h = either (is_default k) _ _ (λ _. fine_to o at.ExportObject f h) (λ _. tt)

pub fine_export_object : (o : Outer) (k : TokenKind) → FineOuter o → MayExport o.exported o.frames → FineStep (on_export_object o k)
fine_export_object o k f h = either (is_open_brace k) _ _ (λ _. record { outer = fine_push o 0 frame.Export f h; here = (refl, refl) }) (λ _. tt)

pub fine_after_export : (o : Outer) (t : Token) → FineOuter o → FineStep (after_export o t)
fine_after_export o t f = either (is_semicolon t.kind) _ _ (λ _. fine_to o at.Statement f tt) (λ _. fine_statement o t f)
