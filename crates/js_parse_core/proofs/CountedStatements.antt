-- What statements are written as where so many constructs are open round them.
use Rattle.std.proofs.Common.{◌≡◌, ℕ, ◌+◌, Bool, true, false, cond, List, [], ◌∷◌, ◌++◌, map, Option, Some, None, option_map, refl, sym, ◌∙◌, ap, append_assoc}
use Rattle.std.proofs.lemmas.Bool.{false≢true}
use Rattle.std.proofs.lemmas.List.{append-nil}
use Rattle.js_lex.specs.declared.token.Punctuator.TheVariants as p
use Rattle.js_lex.specs.declared.token.Reserved.TheVariants as r
use Rattle.js_tree.specs.declared.tree.Name.{Name}
use Rattle.js_tree.specs.declared.tree.DeclareKind.{DeclareKind}
use Rattle.js_tree.specs.declared.tree.Catch.{Catch, roll-Catch}
use Rattle.js_tree.specs.declared.tree.Declaration.{Declaration, roll-Declaration}
use Rattle.js_tree.specs.declared.tree.Expr.{Expr}
use Rattle.js_tree.specs.declared.tree.ForBegin.{ForBegin}
use Rattle.js_tree.specs.declared.tree.ForBegin.TheVariants as for_begin
use Rattle.js_tree.specs.declared.tree.Function.{Function}
use Rattle.js_tree.specs.declared.tree.Stmt.{Stmt}
use Rattle.js_tree.specs.declared.tree.Stmt.TheVariants as stmt
use Rattle.js_grammar.specs.Grammar.{WrittenStmt, name, reserved, reserved_at, declare_word, parenthesized, block, body, option_value, option_finally, optional, for_head, for_of_head, of_word, of_expr, of_stmt, of_declaration, of_for, of_catch}
use Rattle.js_grammar.proofs.Equations.{written_declare, written_declare_function, written_block, written_if, written_for, written_for_of, written_while, written_break, written_continue, written_return, written_throw, written_try, written_empty, written_expr_stmt, written_for_nothing, written_for_declarations, written_for_start, written_bare_catch, written_catch, written_bare_declaration, written_declaration}
use Rattle.js_grammar.specs.Marks.{Form, just, end, deeper, on_one_line, separated}
use Rattle.js_parse_core.proofs.CountedForms.{up, raised, raised_append, raised_deeper, raised_separated, raised_on_one_line, raised_enclosed, block_raised, perhaps_function, perhaps_at, separated_at, expr_at, stmt_at, stmts_at, braced_at, bracketed_at, function_at}

abbrev forms_of : ℕ → WrittenStmt → List Form
forms_of n w = raised n w.forms

-- ---- parts of statements

unfoldable pub declaration_at : ℕ → Declaration → List Form
declaration_at n d = raised n (of_declaration d)

unfoldable pub for_at : ℕ → ForBegin → List Form
for_at n b = raised n (of_for b)

unfoldable pub catch_at : ℕ → Catch → List Form
catch_at n c = raised n (of_catch c)

-- a statement as the body of another
unfoldable pub body_at : ℕ → Stmt → List Form
body_at n s = raised n (body (of_stmt s))

unfoldable pub is_block : Stmt → Bool
is_block s = (of_stmt s).is_block

abbrev pub option_at : ℕ → Option Expr → List Form
option_at n None = []
option_at n (Some x) = expr_at n x

abbrev pub option_catch_at : ℕ → Option Catch → List Form
option_catch_at n None = []
option_catch_at n (Some c) = catch_at n c

abbrev pub option_finally_at : ℕ → Option (List Stmt) → List Form
option_finally_at n None = []
option_finally_at n (Some ss) = up n (reserved r.Finally) ∷ braced_at (n + 1) (stmts_at (n + 1) ss)

pub declaration_bare : (n : ℕ) (x : Name) → declaration_at n (roll-Declaration (record { name = x; value = None })) ≡ up n (name x) ∷ []
unfolding raised declaration_at
declaration_bare n x = ap (raised n) (written_bare_declaration x)

pub declaration_value : (n : ℕ) (m : Name) (x : Expr) → declaration_at n (roll-Declaration (record { name = m; value = Some x })) ≡ up n (name m) ∷ up n (just p.Equal) ∷ expr_at n x
unfolding raised declaration_at expr_at
declaration_value n m x = ap (raised n) (written_declaration m x)

declarations_raised : (n : ℕ) (ds : List Declaration) → map (raised n) (map of_declaration ds) ≡ map (declaration_at n) ds
unfolding declaration_at
declarations_raised n [] = refl
declarations_raised n (d ∷ ds) = ap (λ (z : List (List Form)). raised n (of_declaration d) ∷ z) (declarations_raised n ds)

separated_declarations : (n : ℕ) (ds : List Declaration) → raised n (separated (map of_declaration ds)) ≡ separated_at n (map (declaration_at n) ds)
separated_declarations n ds = raised_separated n (map of_declaration ds) ∙ ap (separated_at n) (declarations_raised n ds)

pub for_nothing : (n : ℕ) → for_at n for_begin.Nothing ≡ []
unfolding raised for_at
for_nothing n = ap (raised n) written_for_nothing

pub for_declarations : (n : ℕ) (k : DeclareKind) (ds : List Declaration) → for_at n (for_begin.Declarations k ds) ≡ up n (reserved (declare_word k)) ∷ separated_at n (map (declaration_at n) ds)
unfolding raised for_at
for_declarations n k ds = ap (raised n) (written_for_declarations k ds) ∙ ap (λ (z : List Form). up n (reserved (declare_word k)) ∷ z) (separated_declarations n ds)

pub for_start : (n : ℕ) (x : Expr) → for_at n (for_begin.Start x) ≡ expr_at n x
unfolding for_at expr_at
for_start n x = ap (raised n) (written_for_start x)

pub catch_bare : (n : ℕ) (ss : List Stmt) → catch_at n (roll-Catch (record { name = None; body = ss })) ≡ up n (reserved r.Catch) ∷ braced_at (n + 1) (stmts_at (n + 1) ss)
unfolding raised catch_at
catch_bare n ss = ap (raised n) (written_bare_catch ss) ∙ ap (λ (z : List Form). up n (reserved r.Catch) ∷ z) (block_raised n ss)

-- brackets, and a body behind them
headed : (n : ℕ) (fs x : List Form) (b y : List Form) → raised (n + 1) fs ≡ x → raised n b ≡ y → raised n (parenthesized fs ++ b) ≡ up (n + 1) (just p.OpenParen) ∷ (x ++ up (n + 1) (just p.CloseParen) ∷ y)
headed n fs x b y e f =
    raised_append n (parenthesized fs) b ∙ ap (λ (z : List Form). z ++ raised n b) (raised_enclosed n p.OpenParen fs p.CloseParen x e)
    ∙ ap (λ (z : List Form). bracketed_at (n + 1) x ++ z) f ∙ ap (λ (z : List Form). up (n + 1) (just p.OpenParen) ∷ z) (append_assoc x (up (n + 1) (just p.CloseParen) ∷ []) y)

pub catch_named : (n : ℕ) (m : Name) (ss : List Stmt) → catch_at n (roll-Catch (record { name = Some m; body = ss }))
    ≡ up n (reserved r.Catch) ∷ up (n + 1) (just p.OpenParen) ∷ up (n + 1) (name m) ∷ up (n + 1) (just p.CloseParen) ∷ braced_at (n + 1) (stmts_at (n + 1) ss)
unfolding raised catch_at
catch_named n m ss = ap (raised n) (written_catch m ss) ∙ ap (λ (z : List Form). up n (reserved r.Catch) ∷ z) (headed n (name m ∷ []) (up (n + 1) (name m) ∷ []) (block (map of_stmt ss)) _ refl (block_raised n ss))

-- ---- statements

pub body_other : (n : ℕ) (s : Stmt) → is_block s ≡ false → body_at n s ≡ stmt_at (n + 1) s
unfolding body_at is_block stmt_at
body_other n s e = either (of_stmt s).is_block e
  where
    either : (b : Bool) → b ≡ false → raised n (cond b (of_stmt s).forms (deeper 1 (of_stmt s).forms)) ≡ raised (n + 1) (of_stmt s).forms
    either true h = absurd (false≢true (sym h))
    either false h = raised_deeper n 1 (of_stmt s).forms

pub body_block : (n : ℕ) (ss : List Stmt) → body_at n (stmt.Block ss) ≡ braced_at (n + 1) (stmts_at (n + 1) ss)
unfolding body_at
body_block n ss = ap (λ (w : WrittenStmt). raised n (body w)) (written_block ss) ∙ block_raised n ss

pub stmt_declare : (n : ℕ) (k : DeclareKind) (ds : List Declaration) → stmt_at n (stmt.Declare k ds) ≡ up n (reserved (declare_word k)) ∷ (separated_at n (map (declaration_at n) ds) ++ up n end ∷ [])
unfolding raised stmt_at
stmt_declare n k ds = ap (forms_of n) (written_declare k ds) ∙ ap (λ (z : List Form). up n (reserved (declare_word k)) ∷ z) (raised_append n (separated (map of_declaration ds)) (end ∷ []) ∙ ap (λ (z : List Form). z ++ up n end ∷ []) (separated_declarations n ds))

pub stmt_function : (n : ℕ) (m : Name) (f : Function) → stmt_at n (stmt.DeclareFunction m f) ≡ perhaps_at n f.is_async (up n (reserved r.Function) ∷ up n (name m) ∷ function_at n f.parameters f.body)
unfolding raised stmt_at
stmt_function n m f = ap (forms_of n) (written_declare_function m f) ∙ perhaps_function n (reserved r.Function ∷ name m ∷ []) f

pub stmt_block : (n : ℕ) (ss : List Stmt) → stmt_at n (stmt.Block ss) ≡ braced_at (n + 1) (stmts_at (n + 1) ss)
unfolding stmt_at
stmt_block n ss = ap (forms_of n) (written_block ss) ∙ block_raised n ss

pub stmt_if : (n : ℕ) (test : Expr) (a : Stmt) → stmt_at n (stmt.If test a None)
    ≡ up n (reserved r.If) ∷ up (n + 1) (just p.OpenParen) ∷ (expr_at (n + 1) test ++ up (n + 1) (just p.CloseParen) ∷ body_at n a)
unfolding raised stmt_at expr_at body_at
stmt_if n test a =
    ap (forms_of n) (written_if test a None)
    ∙ ap (λ (z : List Form). up n (reserved r.If) ∷ z) (headed n (of_expr test).forms (raised (n + 1) (of_expr test).forms) (body (of_stmt a) ++ []) (raised n (body (of_stmt a))) refl
    (ap (raised n) (append-nil (body (of_stmt a)))))

pub stmt_if_else : (n : ℕ) (test : Expr) (a b : Stmt) → stmt_at n (stmt.If test a (Some b))
    ≡ up n (reserved r.If) ∷ up (n + 1) (just p.OpenParen) ∷ (expr_at (n + 1) test ++ up (n + 1) (just p.CloseParen) ∷ (body_at n a ++ up n (reserved r.Else) ∷ body_at n b))
unfolding raised stmt_at expr_at body_at
stmt_if_else n test a b =
    ap (forms_of n) (written_if test a (Some b))
    ∙ ap (λ (z : List Form). up n (reserved r.If) ∷ z)
    (headed n (of_expr test).forms (raised (n + 1) (of_expr test).forms) (body (of_stmt a) ++ reserved r.Else ∷ body (of_stmt b)) _ refl
    (raised_append n (body (of_stmt a)) (reserved r.Else ∷ body (of_stmt b))))

pub stmt_while : (n : ℕ) (test : Expr) (a : Stmt) → stmt_at n (stmt.While test a)
    ≡ up n (reserved r.While) ∷ up (n + 1) (just p.OpenParen) ∷ (expr_at (n + 1) test ++ up (n + 1) (just p.CloseParen) ∷ body_at n a)
unfolding raised stmt_at expr_at body_at
stmt_while n test a =
    ap (forms_of n) (written_while test a)
    ∙ ap (λ (z : List Form). up n (reserved r.While) ∷ z) (headed n (of_expr test).forms (raised (n + 1) (of_expr test).forms) (body (of_stmt a)) (raised n (body (of_stmt a))) refl refl)

option_raised : (n : ℕ) (x : Option Expr) → raised n (option_value (option_map of_expr x)) ≡ option_at n x
unfolding raised expr_at
option_raised n None = refl
option_raised n (Some x) = refl

abbrev pub for_head_at : ℕ → ForBegin → Option Expr → Option Expr → List Form
for_head_at n b test update = for_at n b ++ up n (just p.Semicolon) ∷ (option_at n test ++ up n (just p.Semicolon) ∷ option_at n update)

for_raised : (n : ℕ) (b : ForBegin) (test update : Option Expr) → raised n (for_head (of_for b) (option_map of_expr test) (option_map of_expr update)) ≡ for_head_at n b test update
unfolding raised for_at
for_raised n b test update =
    raised_append n (of_for b) (just p.Semicolon ∷ (option_value (option_map of_expr test) ++ just p.Semicolon ∷ option_value (option_map of_expr update)))
    ∙ ap (λ (z : List Form). raised n (of_for b) ++ up n (just p.Semicolon) ∷ z)
    (raised_append n (option_value (option_map of_expr test)) (just p.Semicolon ∷ option_value (option_map of_expr update))
    ∙ ap (λ (z : List Form). z ++ up n (just p.Semicolon) ∷ raised n (option_value (option_map of_expr update))) (option_raised n test)
    ∙ ap (λ (z : List Form). option_at n test ++ up n (just p.Semicolon) ∷ z) (option_raised n update))

pub stmt_for : (n : ℕ) (b : ForBegin) (test update : Option Expr) (s : Stmt) → stmt_at n (stmt.For b test update s)
    ≡ up n (reserved r.For) ∷ up (n + 1) (just p.OpenParen) ∷ (for_at (n + 1) b ++ up (n + 1) (just p.Semicolon) ∷ (option_at (n + 1) test ++ up (n + 1) (just p.Semicolon) ∷ (option_at (n + 1) update ++ up (n + 1) (just p.CloseParen) ∷ body_at n s)))
unfolding raised stmt_at body_at
stmt_for n b test update s =
    ap (forms_of n) (written_for b test update s)
    ∙ ap (λ (z : List Form). up n (reserved r.For) ∷ z)
    (headed n (for_head (of_for b) (option_map of_expr test) (option_map of_expr update)) _ (body (of_stmt s)) (raised n (body (of_stmt s))) (for_raised (n + 1) b test update) refl
    ∙ ap (λ (z : List Form). up (n + 1) (just p.OpenParen) ∷ z) (simp append_assoc))

pub stmt_for_of : (n : ℕ) (k : DeclareKind) (m : Name) (x : Expr) (s : Stmt) → stmt_at n (stmt.ForOf k m x s)
    ≡ up n (reserved r.For) ∷ up (n + 1) (just p.OpenParen) ∷ up (n + 1) (reserved (declare_word k)) ∷ up (n + 1) (name m) ∷ up (n + 1) of_word ∷ (expr_at (n + 1) x ++ up (n + 1) (just p.CloseParen) ∷ body_at n s)
unfolding raised stmt_at expr_at body_at
stmt_for_of n k m x s =
    ap (forms_of n) (written_for_of k m x s)
    ∙ ap (λ (z : List Form). up n (reserved r.For) ∷ z) (headed n (for_of_head k m (of_expr x)) (up (n + 1) (reserved (declare_word k)) ∷ up (n + 1) (name m) ∷ up (n + 1) of_word ∷ raised (n + 1) (of_expr x).forms) (body (of_stmt s)) (raised n (body (of_stmt s))) refl refl)

pub stmt_break : (n q : ℕ) → stmt_at n (stmt.Break q) ≡ up n (reserved_at q r.Break) ∷ up n end ∷ []
unfolding raised stmt_at
stmt_break n q = ap (forms_of n) (written_break q)

pub stmt_continue : (n q : ℕ) → stmt_at n (stmt.Continue q) ≡ up n (reserved_at q r.Continue) ∷ up n end ∷ []
unfolding raised stmt_at
stmt_continue n q = ap (forms_of n) (written_continue q)

pub stmt_return : (n q : ℕ) → stmt_at n (stmt.Return q None) ≡ up n (reserved_at q r.Return) ∷ up n end ∷ []
unfolding raised stmt_at
stmt_return n q = ap (forms_of n) (written_return q None)

line_raised : (n : ℕ) (fs : List Form) → raised n (on_one_line fs ++ end ∷ []) ≡ on_one_line (raised n fs) ++ up n end ∷ []
unfolding raised
line_raised n fs = raised_append n (on_one_line fs) (end ∷ []) ∙ ap (λ (z : List Form). z ++ up n end ∷ []) (raised_on_one_line n fs)

pub stmt_return_value : (n q : ℕ) (x : Expr) → stmt_at n (stmt.Return q (Some x)) ≡ up n (reserved_at q r.Return) ∷ (on_one_line (expr_at n x) ++ up n end ∷ [])
unfolding raised stmt_at expr_at
stmt_return_value n q x = ap (forms_of n) (written_return q (Some x)) ∙ ap (λ (z : List Form). up n (reserved_at q r.Return) ∷ z) (line_raised n (of_expr x).forms)

pub stmt_throw : (n : ℕ) (x : Expr) → stmt_at n (stmt.Throw x) ≡ up n (reserved r.Throw) ∷ (on_one_line (expr_at n x) ++ up n end ∷ [])
unfolding raised stmt_at expr_at
stmt_throw n x = ap (forms_of n) (written_throw x) ∙ ap (λ (z : List Form). up n (reserved r.Throw) ∷ z) (line_raised n (of_expr x).forms)

catch_part : (n : ℕ) (c : Option Catch) → raised n (optional (option_map of_catch c)) ≡ option_catch_at n c
unfolding raised catch_at
catch_part n None = refl
catch_part n (Some c) = refl

finally_part : (n : ℕ) (f : Option (List Stmt)) → raised n (option_finally (option_map (map of_stmt) f)) ≡ option_finally_at n f
unfolding raised
finally_part n None = refl
finally_part n (Some ss) = ap (λ (z : List Form). up n (reserved r.Finally) ∷ z) (block_raised n ss)

pub stmt_try : (n : ℕ) (ss : List Stmt) (c : Option Catch) (f : Option (List Stmt)) → stmt_at n (stmt.Try ss c f) ≡ up n (reserved r.Try) ∷ (braced_at (n + 1) (stmts_at (n + 1) ss) ++ (option_catch_at n c ++ option_finally_at n f))
unfolding raised stmt_at
stmt_try n ss c f =
    ap (forms_of n) (written_try ss c f)
    ∙ ap (λ (z : List Form). up n (reserved r.Try) ∷ z)
    (raised_append n (block (map of_stmt ss)) (optional (option_map of_catch c) ++ option_finally (option_map (map of_stmt) f))
    ∙ ap (λ (z : List Form). z ++ raised n (optional (option_map of_catch c) ++ option_finally (option_map (map of_stmt) f))) (block_raised n ss)
    ∙ ap (λ (z : List Form). braced_at (n + 1) (stmts_at (n + 1) ss) ++ z)
    (raised_append n (optional (option_map of_catch c)) (option_finally (option_map (map of_stmt) f))
    ∙ ap (λ (z : List Form). z ++ raised n (option_finally (option_map (map of_stmt) f))) (catch_part n c)
    ∙ ap (λ (z : List Form). option_catch_at n c ++ z) (finally_part n f)))

pub stmt_empty : (n : ℕ) → stmt_at n stmt.Empty ≡ up n (just p.Semicolon) ∷ []
unfolding raised stmt_at
stmt_empty n = ap (forms_of n) written_empty

pub stmt_expr : (n : ℕ) (x : Expr) → stmt_at n (stmt.Expr x) ≡ expr_at n x ++ up n end ∷ []
unfolding raised stmt_at expr_at
stmt_expr n x = ap (forms_of n) (written_expr_stmt x) ∙ raised_append n (of_expr x).forms (end ∷ [])

pub stmts_push : (n : ℕ) (ss : List Stmt) (s : Stmt) → stmts_at n (ss ++ s ∷ []) ≡ stmts_at n ss ++ stmt_at n s
stmts_push n [] s = append-nil (stmt_at n s)
stmts_push n (t ∷ ss) s = ap (λ (z : List Form). stmt_at n t ++ z) (stmts_push n ss s) ∙ sym (append_assoc (stmt_at n t) (stmts_at n ss) (stmt_at n s))

-- ---- which statements are blocks

pub other_declare : (k : DeclareKind) (ds : List Declaration) → is_block (stmt.Declare k ds) ≡ false
unfolding is_block
other_declare k ds = ap (λ (w : WrittenStmt). w.is_block) (written_declare k ds)

pub other_function : (m : Name) (f : Function) → is_block (stmt.DeclareFunction m f) ≡ false
unfolding is_block
other_function m f = ap (λ (w : WrittenStmt). w.is_block) (written_declare_function m f)

pub other_if : (test : Expr) (a : Stmt) (b : Option Stmt) → is_block (stmt.If test a b) ≡ false
unfolding is_block
other_if test a b = ap (λ (w : WrittenStmt). w.is_block) (written_if test a b)

pub other_for : (b : ForBegin) (test update : Option Expr) (s : Stmt) → is_block (stmt.For b test update s) ≡ false
unfolding is_block
other_for b test update s = ap (λ (w : WrittenStmt). w.is_block) (written_for b test update s)

pub other_for_of : (k : DeclareKind) (m : Name) (x : Expr) (s : Stmt) → is_block (stmt.ForOf k m x s) ≡ false
unfolding is_block
other_for_of k m x s = ap (λ (w : WrittenStmt). w.is_block) (written_for_of k m x s)

pub other_while : (test : Expr) (s : Stmt) → is_block (stmt.While test s) ≡ false
unfolding is_block
other_while test s = ap (λ (w : WrittenStmt). w.is_block) (written_while test s)

pub other_break : (q : ℕ) → is_block (stmt.Break q) ≡ false
unfolding is_block
other_break q = ap (λ (w : WrittenStmt). w.is_block) (written_break q)

pub other_continue : (q : ℕ) → is_block (stmt.Continue q) ≡ false
unfolding is_block
other_continue q = ap (λ (w : WrittenStmt). w.is_block) (written_continue q)

pub other_return : (q : ℕ) (x : Option Expr) → is_block (stmt.Return q x) ≡ false
unfolding is_block
other_return q x = ap (λ (w : WrittenStmt). w.is_block) (written_return q x)

pub other_throw : (x : Expr) → is_block (stmt.Throw x) ≡ false
unfolding is_block
other_throw x = ap (λ (w : WrittenStmt). w.is_block) (written_throw x)

pub other_try : (ss : List Stmt) (c : Option Catch) (f : Option (List Stmt)) → is_block (stmt.Try ss c f) ≡ false
unfolding is_block
other_try ss c f = ap (λ (w : WrittenStmt). w.is_block) (written_try ss c f)

pub other_empty : is_block stmt.Empty ≡ false
unfolding is_block
other_empty = ap (λ (w : WrittenStmt). w.is_block) written_empty

pub other_expr : (x : Expr) → is_block (stmt.Expr x) ≡ false
unfolding is_block
other_expr x = ap (λ (w : WrittenStmt). w.is_block) (written_expr_stmt x)
