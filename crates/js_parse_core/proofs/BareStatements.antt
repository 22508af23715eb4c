-- What statements are written as, without how many constructs are open.
use Rattle.std.proofs.Common.{◌≡◌, ℕ, Bool, true, false, cond, List, [], ◌∷◌, ◌++◌, map, Option, Some, None, option_map, refl, sym, ◌∙◌, ap, append_assoc}
use Rattle.std.proofs.lemmas.List.{append-nil}
use Rattle.js_lex.specs.declared.token.Punctuator.TheVariants as p
use Rattle.js_lex.specs.declared.token.Reserved.TheVariants as r
use Rattle.js_tree.specs.declared.tree.Name.{Name}
use Rattle.js_tree.specs.declared.tree.DeclareKind.{DeclareKind}
use Rattle.js_tree.specs.declared.tree.ArrowBody.TheOpen.{Stmt-F}
use Rattle.js_tree.specs.declared.tree.Catch.{Catch, roll-Catch}
use Rattle.js_tree.specs.declared.tree.Declaration.{Declaration, roll-Declaration}
use Rattle.js_tree.specs.declared.tree.Expr.{Expr}
use Rattle.js_tree.specs.declared.tree.ForBegin.{ForBegin}
use Rattle.js_tree.specs.declared.tree.ForBegin.TheVariants as for_begin
use Rattle.js_tree.specs.declared.tree.Function.{Function}
use Rattle.js_tree.specs.declared.tree.Stmt.{Stmt, roll-Stmt, out-roll-Stmt}
use Rattle.js_tree.specs.declared.tree.Stmt.TheVariants as stmt
use Rattle.js_grammar.specs.Marks.{Form, just, end, deeper, on_one_line, separated}
use Rattle.js_grammar.specs.Grammar.{WrittenStmt, StmtNode, name, reserved, reserved_at, perhaps_async, declare_word, parenthesized, block, body, option_value, option_else, option_finally, optional, for_head, for_of_head, of_word, is_empty, of_expr, of_stmt, of_declaration, of_for, of_catch}
use Rattle.js_grammar.proofs.Equations.{written_declare, written_declare_function, written_block, written_if, written_for, written_for_of, written_while, written_break, written_continue, written_return, written_throw, written_try, written_empty, written_expr_stmt, written_for_nothing, written_for_declarations, written_for_start, written_bare_catch, written_catch, written_bare_declaration, written_declaration}
use Rattle.js_parse_core.proofs.Bare.{bare, bare_append, bare_deeper, bare_separated, bare_on_one_line, bare_enclosed, block_bare, perhaps_function, expr_forms, stmt_forms, stmts_forms, braced, bracketed, function_forms}

abbrev forms_of : WrittenStmt → List Form
forms_of w = bare w.forms

-- ---- parts of statements

unfoldable pub declaration_forms : Declaration → List Form
declaration_forms d = bare (of_declaration d)

unfoldable pub for_forms : ForBegin → List Form
for_forms b = bare (of_for b)

unfoldable pub catch_forms : Catch → List Form
catch_forms c = bare (of_catch c)

abbrev pub option_forms : Option Expr → List Form
option_forms None = []
option_forms (Some x) = expr_forms x

abbrev pub option_catch_forms : Option Catch → List Form
option_catch_forms None = []
option_catch_forms (Some c) = catch_forms c

abbrev pub option_finally_forms : Option (List Stmt) → List Form
option_finally_forms None = []
option_finally_forms (Some ss) = reserved r.Finally ∷ braced (stmts_forms ss)

pub declaration_bare : (n : Name) → declaration_forms (roll-Declaration (record { name = n; value = None })) ≡ name n ∷ []
unfolding bare declaration_forms
declaration_bare n = ap bare (written_bare_declaration n)

pub declaration_value : (n : Name) (x : Expr) → declaration_forms (roll-Declaration (record { name = n; value = Some x })) ≡ name n ∷ just p.Equal ∷ expr_forms x
unfolding bare declaration_forms expr_forms
declaration_value n x = ap bare (written_declaration n x)

declarations_bare : (ds : List Declaration) → map bare (map of_declaration ds) ≡ map declaration_forms ds
unfolding declaration_forms
declarations_bare [] = refl
declarations_bare (d ∷ ds) = ap (λ (z : List (List Form)). bare (of_declaration d) ∷ z) (declarations_bare ds)

separated_declarations : (ds : List Declaration) → bare (separated (map of_declaration ds)) ≡ separated (map declaration_forms ds)
separated_declarations ds = bare_separated (map of_declaration ds) ∙ ap separated (declarations_bare ds)

pub for_nothing : for_forms for_begin.Nothing ≡ []
unfolding bare for_forms
for_nothing = ap bare written_for_nothing

pub for_declarations : (k : DeclareKind) (ds : List Declaration) → for_forms (for_begin.Declarations k ds) ≡ reserved (declare_word k) ∷ separated (map declaration_forms ds)
unfolding bare for_forms
for_declarations k ds = ap bare (written_for_declarations k ds) ∙ ap (λ (z : List Form). reserved (declare_word k) ∷ z) (separated_declarations ds)

pub for_start : (x : Expr) → for_forms (for_begin.Start x) ≡ expr_forms x
unfolding for_forms expr_forms
for_start x = ap bare (written_for_start x)

pub catch_bare : (ss : List Stmt) → catch_forms (roll-Catch (record { name = None; body = ss })) ≡ reserved r.Catch ∷ braced (stmts_forms ss)
unfolding bare catch_forms
catch_bare ss = ap bare (written_bare_catch ss) ∙ ap (λ (z : List Form). reserved r.Catch ∷ z) (block_bare ss)

pub catch_named : (n : Name) (ss : List Stmt) → catch_forms (roll-Catch (record { name = Some n; body = ss })) ≡ reserved r.Catch ∷ just p.OpenParen ∷ name n ∷ just p.CloseParen ∷ braced (stmts_forms ss)
unfolding bare catch_forms
catch_named n ss = ap bare (written_catch n ss) ∙ ap (λ (z : List Form). reserved r.Catch ∷ just p.OpenParen ∷ name n ∷ just p.CloseParen ∷ z) (block_bare ss)

-- ---- statements

body_bare : (s : Stmt) → bare (body (of_stmt s)) ≡ stmt_forms s
unfolding stmt_forms
body_bare s = either (of_stmt s).is_block
  where
    either : (b : Bool) → bare (cond b (of_stmt s).forms (deeper 1 (of_stmt s).forms)) ≡ bare (of_stmt s).forms
    either true = refl
    either false = bare_deeper 1 (of_stmt s).forms

pub stmt_declare : (k : DeclareKind) (ds : List Declaration) → stmt_forms (stmt.Declare k ds) ≡ reserved (declare_word k) ∷ (separated (map declaration_forms ds) ++ end ∷ [])
unfolding bare stmt_forms
stmt_declare k ds = ap forms_of (written_declare k ds) ∙ ap (λ (z : List Form). reserved (declare_word k) ∷ z) (bare_append (separated (map of_declaration ds)) (end ∷ []) ∙ ap (λ (z : List Form). z ++ end ∷ []) (separated_declarations ds))

pub stmt_function : (n : Name) (f : Function) → stmt_forms (stmt.DeclareFunction n f) ≡ perhaps_async f.is_async (reserved r.Function ∷ name n ∷ function_forms f.parameters f.body)
unfolding bare stmt_forms
stmt_function n f = ap forms_of (written_declare_function n f) ∙ perhaps_function (reserved r.Function ∷ name n ∷ []) f

pub stmt_block : (ss : List Stmt) → stmt_forms (stmt.Block ss) ≡ braced (stmts_forms ss)
unfolding stmt_forms
stmt_block ss = ap forms_of (written_block ss) ∙ block_bare ss

-- brackets, and a body behind them
headed : (fs x : List Form) (b y : List Form) → bare fs ≡ x → bare b ≡ y → bare (parenthesized fs ++ b) ≡ just p.OpenParen ∷ (x ++ just p.CloseParen ∷ y)
headed fs x b y e f =
    bare_append (parenthesized fs) b ∙ ap (λ (z : List Form). z ++ bare b) (bare_enclosed p.OpenParen fs p.CloseParen x e)
    ∙ ap (λ (z : List Form). bracketed x ++ z) f ∙ ap (λ (z : List Form). just p.OpenParen ∷ z) (append_assoc x (just p.CloseParen ∷ []) y)

else_bare : (a : Stmt) (b : Option Stmt) → bare (body (of_stmt a) ++ option_else (option_map of_stmt b)) ≡ stmt_forms a ++ bare (option_else (option_map of_stmt b))
else_bare a b = bare_append (body (of_stmt a)) (option_else (option_map of_stmt b)) ∙ ap (λ (z : List Form). z ++ bare (option_else (option_map of_stmt b))) (body_bare a)

pub stmt_if : (test : Expr) (a : Stmt) → stmt_forms (stmt.If test a None) ≡ reserved r.If ∷ just p.OpenParen ∷ (expr_forms test ++ just p.CloseParen ∷ stmt_forms a)
unfolding bare stmt_forms expr_forms
stmt_if test a =
    ap forms_of (written_if test a None)
    ∙ ap (λ (z : List Form). reserved r.If ∷ z) (headed (of_expr test).forms (bare (of_expr test).forms) (body (of_stmt a) ++ []) (bare (of_stmt a).forms) refl (else_bare a None ∙ append-nil (bare (of_stmt a).forms)))

pub stmt_if_else : (test : Expr) (a b : Stmt) → stmt_forms (stmt.If test a (Some b)) ≡ reserved r.If ∷ just p.OpenParen ∷ (expr_forms test ++ just p.CloseParen ∷ (stmt_forms a ++ reserved r.Else ∷ stmt_forms b))
unfolding bare stmt_forms expr_forms
stmt_if_else test a b =
    ap forms_of (written_if test a (Some b))
    ∙ ap (λ (z : List Form). reserved r.If ∷ z)
    (headed (of_expr test).forms (bare (of_expr test).forms) (body (of_stmt a) ++ reserved r.Else ∷ body (of_stmt b)) _ refl
    (else_bare a (Some b) ∙ ap (λ (z : List Form). bare (of_stmt a).forms ++ reserved r.Else ∷ z) (body_bare b)))

pub stmt_while : (test : Expr) (a : Stmt) → stmt_forms (stmt.While test a) ≡ reserved r.While ∷ just p.OpenParen ∷ (expr_forms test ++ just p.CloseParen ∷ stmt_forms a)
unfolding bare stmt_forms expr_forms
stmt_while test a =
    ap forms_of (written_while test a)
    ∙ ap (λ (z : List Form). reserved r.While ∷ z) (headed (of_expr test).forms (bare (of_expr test).forms) (body (of_stmt a)) (bare (of_stmt a).forms) refl (body_bare a))

option_bare : (x : Option Expr) → bare (option_value (option_map of_expr x)) ≡ option_forms x
unfolding bare expr_forms
option_bare None = refl
option_bare (Some x) = refl

for_bare : (b : ForBegin) (test update : Option Expr) → bare (for_head (of_for b) (option_map of_expr test) (option_map of_expr update)) ≡ for_forms b ++ just p.Semicolon ∷ (option_forms test ++ just p.Semicolon ∷ option_forms update)
unfolding bare for_forms
for_bare b test update =
    bare_append (of_for b) (just p.Semicolon ∷ (option_value (option_map of_expr test) ++ just p.Semicolon ∷ option_value (option_map of_expr update)))
    ∙ ap (λ (z : List Form). bare (of_for b) ++ just p.Semicolon ∷ z)
    (bare_append (option_value (option_map of_expr test)) (just p.Semicolon ∷ option_value (option_map of_expr update))
    ∙ ap (λ (z : List Form). z ++ just p.Semicolon ∷ bare (option_value (option_map of_expr update))) (option_bare test)
    ∙ ap (λ (z : List Form). option_forms test ++ just p.Semicolon ∷ z) (option_bare update))

pub stmt_for : (b : ForBegin) (test update : Option Expr) (s : Stmt) → stmt_forms (stmt.For b test update s)
    ≡ reserved r.For ∷ just p.OpenParen ∷ (for_forms b ++ just p.Semicolon ∷ (option_forms test ++ just p.Semicolon ∷ (option_forms update ++ just p.CloseParen ∷ stmt_forms s)))
unfolding bare stmt_forms
stmt_for b test update s =
    ap forms_of (written_for b test update s)
    ∙ ap (λ (z : List Form). reserved r.For ∷ z)
    (headed (for_head (of_for b) (option_map of_expr test) (option_map of_expr update)) _ (body (of_stmt s)) (bare (of_stmt s).forms) (for_bare b test update) (body_bare s)
    ∙ ap (λ (z : List Form). just p.OpenParen ∷ z) (simp append_assoc))

pub stmt_for_of : (k : DeclareKind) (n : Name) (x : Expr) (s : Stmt) → stmt_forms (stmt.ForOf k n x s)
    ≡ reserved r.For ∷ just p.OpenParen ∷ reserved (declare_word k) ∷ name n ∷ of_word ∷ (expr_forms x ++ just p.CloseParen ∷ stmt_forms s)
unfolding bare stmt_forms expr_forms
stmt_for_of k n x s =
    ap forms_of (written_for_of k n x s)
    ∙ ap (λ (z : List Form). reserved r.For ∷ z) (headed (for_of_head k n (of_expr x)) (reserved (declare_word k) ∷ name n ∷ of_word ∷ bare (of_expr x).forms) (body (of_stmt s)) (bare (of_stmt s).forms) refl (body_bare s))

pub stmt_break : (q : ℕ) → stmt_forms (stmt.Break q) ≡ reserved_at q r.Break ∷ end ∷ []
unfolding bare stmt_forms
stmt_break q = ap forms_of (written_break q)

pub stmt_continue : (q : ℕ) → stmt_forms (stmt.Continue q) ≡ reserved_at q r.Continue ∷ end ∷ []
unfolding bare stmt_forms
stmt_continue q = ap forms_of (written_continue q)

pub stmt_return : (q : ℕ) → stmt_forms (stmt.Return q None) ≡ reserved_at q r.Return ∷ end ∷ []
unfolding bare stmt_forms
stmt_return q = ap forms_of (written_return q None)

line_bare : (fs : List Form) → bare (on_one_line fs ++ end ∷ []) ≡ on_one_line (bare fs) ++ end ∷ []
unfolding bare
line_bare fs = bare_append (on_one_line fs) (end ∷ []) ∙ ap (λ (z : List Form). z ++ end ∷ []) (bare_on_one_line fs)

pub stmt_return_value : (q : ℕ) (x : Expr) → stmt_forms (stmt.Return q (Some x)) ≡ reserved_at q r.Return ∷ (on_one_line (expr_forms x) ++ end ∷ [])
unfolding bare stmt_forms expr_forms
stmt_return_value q x = ap forms_of (written_return q (Some x)) ∙ ap (λ (z : List Form). reserved_at q r.Return ∷ z) (line_bare (of_expr x).forms)

pub stmt_throw : (x : Expr) → stmt_forms (stmt.Throw x) ≡ reserved r.Throw ∷ (on_one_line (expr_forms x) ++ end ∷ [])
unfolding bare stmt_forms expr_forms
stmt_throw x = ap forms_of (written_throw x) ∙ ap (λ (z : List Form). reserved r.Throw ∷ z) (line_bare (of_expr x).forms)

catch_part : (c : Option Catch) → bare (optional (option_map of_catch c)) ≡ option_catch_forms c
unfolding bare catch_forms
catch_part None = refl
catch_part (Some c) = refl

finally_part : (f : Option (List Stmt)) → bare (option_finally (option_map (map of_stmt) f)) ≡ option_finally_forms f
unfolding bare
finally_part None = refl
finally_part (Some ss) = ap (λ (z : List Form). reserved r.Finally ∷ z) (block_bare ss)

pub stmt_try : (ss : List Stmt) (c : Option Catch) (f : Option (List Stmt)) → stmt_forms (stmt.Try ss c f) ≡ reserved r.Try ∷ (braced (stmts_forms ss) ++ (option_catch_forms c ++ option_finally_forms f))
unfolding bare stmt_forms
stmt_try ss c f =
    ap forms_of (written_try ss c f)
    ∙ ap (λ (z : List Form). reserved r.Try ∷ z)
    (bare_append (block (map of_stmt ss)) (optional (option_map of_catch c) ++ option_finally (option_map (map of_stmt) f))
    ∙ ap (λ (z : List Form). z ++ bare (optional (option_map of_catch c) ++ option_finally (option_map (map of_stmt) f))) (block_bare ss)
    ∙ ap (λ (z : List Form). braced (stmts_forms ss) ++ z)
    (bare_append (optional (option_map of_catch c)) (option_finally (option_map (map of_stmt) f))
    ∙ ap (λ (z : List Form). z ++ bare (option_finally (option_map (map of_stmt) f))) (catch_part c)
    ∙ ap (λ (z : List Form). option_catch_forms c ++ z) (finally_part f)))

pub stmt_empty : stmt_forms stmt.Empty ≡ just p.Semicolon ∷ []
unfolding bare stmt_forms
stmt_empty = ap forms_of written_empty

pub stmt_expr : (x : Expr) → stmt_forms (stmt.Expr x) ≡ expr_forms x ++ end ∷ []
unfolding bare stmt_forms expr_forms
stmt_expr x = ap forms_of (written_expr_stmt x) ∙ bare_append (of_expr x).forms (end ∷ [])

pub stmts_push : (ss : List Stmt) (s : Stmt) → stmts_forms (ss ++ s ∷ []) ≡ stmts_forms ss ++ stmt_forms s
stmts_push [] s = append-nil (stmt_forms s)
stmts_push (t ∷ ss) s = ap (λ (z : List Form). stmt_forms t ++ z) (stmts_push ss s) ∙ sym (append_assoc (stmt_forms t) (stmts_forms ss) (stmt_forms s))

-- ---- which statements are empty

abbrev empty_layer : StmtNode → Bool
empty_layer Stmt-F.Empty = true
empty_layer _ = false

layer_empty : (y : StmtNode) → is_empty (roll-Stmt y) ≡ empty_layer y
layer_empty y = rw (out-roll-Stmt y) refl

pub full_declare : (k : DeclareKind) (ds : List Declaration) → is_empty (stmt.Declare k ds) ≡ false
full_declare k ds = ap is_empty (sym (stmt.rolls-Declare k ds)) ∙ layer_empty (Stmt-F.Declare k ds)

pub full_function : (n : Name) (f : Function) → is_empty (stmt.DeclareFunction n f) ≡ false
full_function n f = ap is_empty (sym (stmt.rolls-DeclareFunction n f)) ∙ layer_empty (Stmt-F.DeclareFunction n f)

pub full_block : (ss : List Stmt) → is_empty (stmt.Block ss) ≡ false
full_block ss = ap is_empty (sym (stmt.rolls-Block ss)) ∙ layer_empty (Stmt-F.Block ss)

pub full_if : (test : Expr) (a : Stmt) (b : Option Stmt) → is_empty (stmt.If test a b) ≡ false
full_if test a b = ap is_empty (sym (stmt.rolls-If test a b)) ∙ layer_empty (Stmt-F.If test a b)

pub full_for : (b : ForBegin) (test update : Option Expr) (s : Stmt) → is_empty (stmt.For b test update s) ≡ false
full_for b test update s = ap is_empty (sym (stmt.rolls-For b test update s)) ∙ layer_empty (Stmt-F.For b test update s)

pub full_for_of : (k : DeclareKind) (n : Name) (x : Expr) (s : Stmt) → is_empty (stmt.ForOf k n x s) ≡ false
full_for_of k n x s = ap is_empty (sym (stmt.rolls-ForOf k n x s)) ∙ layer_empty (Stmt-F.ForOf k n x s)

pub full_while : (test : Expr) (s : Stmt) → is_empty (stmt.While test s) ≡ false
full_while test s = ap is_empty (sym (stmt.rolls-While test s)) ∙ layer_empty (Stmt-F.While test s)

pub full_break : (q : ℕ) → is_empty (stmt.Break q) ≡ false
full_break q = ap is_empty (sym (stmt.rolls-Break q)) ∙ layer_empty (Stmt-F.Break q)

pub full_continue : (q : ℕ) → is_empty (stmt.Continue q) ≡ false
full_continue q = ap is_empty (sym (stmt.rolls-Continue q)) ∙ layer_empty (Stmt-F.Continue q)

pub full_return : (q : ℕ) (x : Option Expr) → is_empty (stmt.Return q x) ≡ false
full_return q x = ap is_empty (sym (stmt.rolls-Return q x)) ∙ layer_empty (Stmt-F.Return q x)

pub full_throw : (x : Expr) → is_empty (stmt.Throw x) ≡ false
full_throw x = ap is_empty (sym (stmt.rolls-Throw x)) ∙ layer_empty (Stmt-F.Throw x)

pub full_try : (ss : List Stmt) (c : Option Catch) (f : Option (List Stmt)) → is_empty (stmt.Try ss c f) ≡ false
full_try ss c f = ap is_empty (sym (stmt.rolls-Try ss c f)) ∙ layer_empty (Stmt-F.Try ss c f)

pub full_expr : (x : Expr) → is_empty (stmt.Expr x) ≡ false
full_expr x = ap is_empty (sym (stmt.rolls-Expr x)) ∙ layer_empty (Stmt-F.Expr x)

pub empty_empty : is_empty stmt.Empty ≡ true
empty_empty = ap is_empty (sym stmt.rolls-Empty) ∙ layer_empty Stmt-F.Empty
