-- Statements with values, and what stands in their brackets, are read.
use Rattle.std.proofs.Common.{◌≡◌, ℕ, Bool, true, false, cond, List, [], ◌∷◌, ◌++◌, Option, Some, None, option_map, Ok, refl, sym, ap, ◌∙◌, subst, append_assoc}
use Rattle.std.specs.Prelude.{◌&&◌}
use Rattle.std.proofs.lemmas.List.{append-nil}
use Rattle.std.proofs.lemmas.Bool.{not-true, and_parts}
use Rattle.js_lex.specs.declared.token.Punctuator.TheVariants as p
use Rattle.js_lex.specs.declared.token.Reserved.TheVariants as r
use Rattle.js_lex.specs.declared.token.TokenKind.{TokenKind}
use Rattle.js_lex.specs.declared.token.TokenKind.TheVariants as tok
use Rattle.js_tree.specs.declared.tree.DeclareKind.{DeclareKind}
use Rattle.js_tree.specs.declared.tree.DeclareKind.TheVariants as declare
use Rattle.js_tree.specs.declared.tree.Name.{Name}
use Rattle.js_tree.specs.declared.tree.Expr.{Expr}
use Rattle.js_tree.specs.declared.tree.ForBegin.{ForBegin}
use Rattle.js_tree.specs.declared.tree.ForBegin.TheVariants as for_begin
use Rattle.js_tree.specs.declared.tree.Stmt.{Stmt}
use Rattle.js_tree.specs.declared.tree.Stmt.TheVariants as stmt
use Rattle.js_grammar.specs.Marks.{Piece, Read, Form, sign, word, just, end, deeper, on_one_line}
use Rattle.js_grammar.specs.Grammar.{reserved, reserved_at, name, parenthesized, body, option_value, for_head, for_of_head, of_word, declare_word, of_stmt, of_expr, of_for}
use Rattle.js_grammar.specs.Shapes.{StmtShape, body_fits, value_fits}
use Rattle.js_grammar.specs.Shapes as shape
use Rattle.js_parse_core.specs.declared.machine.At.TheVariants as at
use Rattle.js_parse_core.specs.declared.machine.Body.{Body}
use Rattle.js_parse_core.specs.declared.machine.Body.TheVariants as bodies
use Rattle.js_parse_core.specs.declared.machine.Frame.TheVariants as frame
use Rattle.js_parse_core.specs.declared.machine.Opening.TheVariants as opening
use Rattle.js_parse_core.specs.declared.machine.Outer.{Outer}
use Rattle.js_parse_core.specs.declared.machine.Purpose.TheVariants as purpose
use Rattle.js_parse_core.specs.declared.machine.State.{State}
use Rattle.js_parse_core.specs.Outer.{Step, to, plus, constructs, push, opened, wait, wait_body, complete}
use Rattle.js_parse_core.specs.Statements.{declares}
use Rattle.js_parse_core.specs.Values.{on_value}
use Rattle.js_parse_core.proofs.Pieces.{is_last}
use Rattle.js_grammar.proofs.Equations.{written_if, written_for, written_for_nothing, written_for_start, written_for_of, written_while, written_return, written_throw, written_expr_stmt}
use Rattle.js_parse_core.proofs.ShapeEquations.{shape_if, shape_for, shape_for_start, shape_for_of, shape_while, shape_return, shape_throw, shape_expr_stmt}
use Rattle.js_parse_core.proofs.Readings.{token, kind_closes, free, as_statement, on_line, ReadsValue}
use Rattle.js_parse_core.proofs.Reaches.{Goal, Leads, Reaches, did, leads_is, reaches_none, reaches_same, reaches_split, reaches_then, reaches_deeper, reaches_token, reaches_at, reaches_just, reaches_end, reaches_enclosed, some_first, TokenRead, token_read}
use Rattle.js_parse_core.proofs.ReadsStatements.{Behind, begins_else, Ends, Begins, ReadsStmt, ReadsFor}
use Rattle.js_parse_core.proofs.Completes.{complete_framed, then_leads, takes}
use Rattle.js_parse_core.proofs.StatementLists.{begins_at}
use Rattle.js_parse_core.proofs.ValueSteps.{OneLine, value_reaches, value_just, value_end, stands_waiting, stands_for_start, stands_for_test, stands_for_update, stands_return, stands_throw, stands_statement}
use Rattle.js_parse_core.proofs.PlainStatements.{stmt_forms, stmt_fits}

-- ---- bodies

reaches_body : (g : Goal) (made : Step) (fs : List Form) (b : Bool) (rest : List Piece) → Reaches g made fs rest → Reaches g made (cond b fs (deeper 1 fs)) rest
reaches_body g made fs true rest h = h
reaches_body g made fs false rest h = reaches_same g made (deeper 1 fs) (deeper 1 fs ++ []) rest (sym (append-nil (deeper 1 fs)))
    (reaches_deeper g made 1 fs [] rest (reaches_same g made (fs ++ []) fs rest (append-nil fs) h))

-- a statement as the body of another one
body_reads : (x : Stmt) (o : Outer) (b : Body) (g : Goal) (rest : List Piece) → ReadsStmt x → body_fits (shape.of_stmt x) ≡ true → Behind (shape.of_stmt x) rest → Ends g rest
    → Leads g (complete (push o 1 (frame.Body b)) x) rest → Reaches g (wait_body o b) (body (of_stmt x)) rest
body_reads x o b g rest r f h e k =
    reaches_body g (wait_body o b) (of_stmt x).forms (of_stmt x).is_block rest
    (r.reads true (record { outer = push o 1 (frame.Body b); at = at.Statement }) (push o 1 (frame.Body b)) g rest (and_parts (shape.of_stmt x).fits (shape.of_stmt x).is_body f).0 (begins_at (push o 1 (frame.Body b)))
    (λ z. refl) (λ z. (and_parts (shape.of_stmt x).fits (shape.of_stmt x).is_body f).1) h e k)

-- .. of a loop
loop_reads : (x y : Stmt) (fits : Bool) (o : Outer) (b : Body) (g : Goal) (rest : List Piece) → ReadsStmt x → shape.of_stmt y ≡ shape.loop fits (shape.of_stmt x) → (shape.of_stmt y).fits ≡ true → Behind (shape.of_stmt y) rest → Ends g rest
    → complete (push o 1 (frame.Body b)) x ≡ complete o y → Leads g (complete o y) rest → Reaches g (wait_body o b) (body (of_stmt x)) rest
loop_reads x y fits o b g rest r s f h e c k =
    body_reads x o b g rest r (and_parts fits (body_fits (shape.of_stmt x)) (sym (ap stmt_fits s) ∙ f)).1 (sym (ap (λ (z : StmtShape). z.takes_else && begins_else rest) s) ∙ h) e
    (leads_is g (complete (push o 1 (frame.Body b)) x) (complete o y) rest c k)

loop_fits : (x y : Stmt) (fits : Bool) → shape.of_stmt y ≡ shape.loop fits (shape.of_stmt x) → (shape.of_stmt y).fits ≡ true → fits ≡ true
loop_fits x y fits s f = (and_parts fits (body_fits (shape.of_stmt x)) (sym (ap stmt_fits s) ∙ f)).0

-- ---- `while`

pub reads_while : (test : Expr) (x : Stmt) → ReadsValue test → ReadsStmt x → ReadsStmt (stmt.While test x)
reads_while test x rv rs = record {
  reads = λ b s o g rest f a m i h e k.
      let it : Stmt = stmt.While test x in
      let tail : List Form = body (of_stmt x) in
      reaches_same g (Ok s) (of_stmt it).forms (reserved r.While ∷ (parenthesized (of_expr test).forms ++ tail)) rest (ap stmt_forms (written_while test x))
      (reaches_token g s (to o (at.Opening opening.While)) (tok.Reserved r.While) false 0 (parenthesized (of_expr test).forms ++ tail) rest refl (λ q l u. a.begins (token q l (tok.Reserved r.While)) (λ z. cc))
      (reaches_enclosed g (record { outer = o; at = at.Opening opening.While }) (wait o 1 purpose.While) p.OpenParen (of_expr test).forms p.CloseParen tail rest (λ q l. refl)
      (value_just test free (record { outer = push o 1 (frame.Purpose purpose.While); at = at.Begin }) o (plus (constructs o) 1) purpose.While (of_expr test).forms p.CloseParen (wait_body o (bodies.While test)) g tail rest
      (stands_waiting test o 1 purpose.While rv (loop_fits x it (shape.of_expr test).fits (shape_while test x) f) refl) refl (λ q l. refl)
      (loop_reads x it (shape.of_expr test).fits o (bodies.While test) g rest rs (shape_while test x) f h e (complete_framed o (opened (plus (constructs o) 1) (frame.Body (bodies.While test)) ∷ o.frames) o.frames it) k))));
}

-- ---- `if`

reads_if_head : (test : Expr) (s : State) (o : Outer) (b : Bool) (g : Goal) (tail : List Form) (rest : List Piece) → ReadsValue test → (shape.of_expr test).fits ≡ true → Begins b s o
    → Reaches g (wait_body o (bodies.Then test)) tail rest → Reaches g (Ok s) (reserved r.If ∷ (parenthesized (of_expr test).forms ++ tail)) rest
reads_if_head test s o b g tail rest rv f a k =
    reaches_token g s (to o (at.Opening opening.If)) (tok.Reserved r.If) false 0 (parenthesized (of_expr test).forms ++ tail) rest refl (λ q l u. a.begins (token q l (tok.Reserved r.If)) (λ z. cc))
    (reaches_enclosed g (record { outer = o; at = at.Opening opening.If }) (wait o 1 purpose.If) p.OpenParen (of_expr test).forms p.CloseParen tail rest (λ q l. refl)
    (value_just test free (record { outer = push o 1 (frame.Purpose purpose.If); at = at.Begin }) o (plus (constructs o) 1) purpose.If (of_expr test).forms p.CloseParen (wait_body o (bodies.Then test)) g tail rest
    (stands_waiting test o 1 purpose.If rv f refl) refl (λ q l. refl) k))

and_else : (a b : Bool) → (true && b) ≡ false → (a && b) ≡ false
and_else true b h = h
and_else false b h = refl

pub reads_if : (test : Expr) (x : Stmt) → ReadsValue test → ReadsStmt x → ReadsStmt (stmt.If test x None)
reads_if test x rv rs = record {
  reads = λ b s o g rest f a m i h e k.
      let it : Stmt = stmt.If test x None in
      let tail : List Form = body (of_stmt x) in
      let d = sym (ap stmt_fits (shape_if test x None)) ∙ f in
      let no_else : begins_else rest ≡ false = sym (ap (λ (z : StmtShape). z.takes_else && begins_else rest) (shape_if test x None)) ∙ h in
      reaches_same g (Ok s) (of_stmt it).forms (reserved r.If ∷ (parenthesized (of_expr test).forms ++ (tail ++ []))) rest (ap stmt_forms (written_if test x None))
      (reads_if_head test s o b g (tail ++ []) rest rv (and_parts (shape.of_expr test).fits (body_fits (shape.of_stmt x)) d).0 a
      (reaches_same g (wait_body o (bodies.Then test)) (tail ++ []) tail rest (append-nil tail)
      (body_reads x o (bodies.Then test) g rest rs (and_parts (shape.of_expr test).fits (body_fits (shape.of_stmt x)) d).1 (and_else (shape.of_stmt x).takes_else (begins_else rest) no_else) e
      (then_leads g o test x rest no_else e k))));
}

pub reads_if_else : (test : Expr) (x y : Stmt) → ReadsValue test → ReadsStmt x → ReadsStmt y → ReadsStmt (stmt.If test x (Some y))
reads_if_else test x y rv rs rt = record {
  reads = λ b s o g rest f a m i h e k.
      let it : Stmt = stmt.If test x (Some y) in
      let others : List Form = reserved r.Else ∷ body (of_stmt y) in
      let d = sym (ap stmt_fits (shape_if test x (Some y))) ∙ f in
      let d2 = (and_parts (shape.of_expr test).fits _ d).1 in
      let d3 = (and_parts _ (body_fits (shape.of_stmt y)) d2).0 in
      let closed : (shape.of_stmt x).takes_else ≡ false = not-true (shape.of_stmt x).takes_else (and_parts (body_fits (shape.of_stmt x)) _ d3).1 in
      reaches_same g (Ok s) (of_stmt it).forms (reserved r.If ∷ (parenthesized (of_expr test).forms ++ (body (of_stmt x) ++ others))) rest (ap stmt_forms (written_if test x (Some y)))
      (reads_if_head test s o b g (body (of_stmt x) ++ others) rest rv (and_parts (shape.of_expr test).fits _ d).0 a
      (reaches_split g (wait_body o (bodies.Then test)) (body (of_stmt x)) others rest (λ ps fit.
      body_reads x o (bodies.Then test) g (ps ++ rest) rs (and_parts (body_fits (shape.of_stmt x)) _ d3).0 (ap (λ (z : Bool). z && begins_else (ps ++ rest)) closed)
      (λ z. absurd (some_first (word r.Else) (body (of_stmt y)) ps rest fit z))
      ((reaches_token g (record { outer = o; at = at.AfterThen test x }) (wait_body o (bodies.Else test x)) (tok.Reserved r.Else) false 0 (body (of_stmt y)) rest refl (λ q l u. refl)
      (body_reads y o (bodies.Else test x) g rest rt (and_parts _ (body_fits (shape.of_stmt y)) d2).1 (sym (ap (λ (z : StmtShape). z.takes_else && begins_else rest) (shape_if test x (Some y))) ∙ h) e
      (leads_is g (complete (push o 1 (frame.Body (bodies.Else test x))) y) (complete o it) rest (complete_framed o (opened (plus (constructs o) 1) (frame.Body (bodies.Else test x)) ∷ o.frames) o.frames it) k))).reaches ps fit))));
}

-- ---- `for`

-- the first part, and its `;`
for_then : (b : ForBegin) (o : Outer) (g : Goal) (gs : List Form) (rest : List Piece) → ReadsFor b → shape.of_for b ≡ true → Reaches g (to o (at.ForTest b)) gs rest → Reaches g (to o at.ForHead) (of_for b ++ just p.Semicolon ∷ gs) rest
for_then b o g gs rest r f k = reaches_then g (to o at.ForHead) (of_for b) (sign p.Semicolon) gs rest (λ q ps w fit.
    let t : TokenRead (tok.Punctuator p.Semicolon) q = token_read (tok.Punctuator p.Semicolon) q w in
    subst (λ (z : Piece). Reaches g (to o at.ForHead) (of_for b) (z ∷ (ps ++ rest))) (sym t.is)
    (r.reads o (token t.place t.line (tok.Punctuator p.Semicolon)) g (ps ++ rest) f refl (k.reaches ps fit)))

-- an expression that may be missing
abbrev pub MayRead : Option Expr → Type 0
MayRead None = Unit {0}
MayRead (Some x) = ReadsValue x

test_then : (test : Option Expr) (b : ForBegin) (o : Outer) (g : Goal) (gs : List Form) (rest : List Piece) → MayRead test → value_fits (option_map shape.of_expr test) ≡ true → Reaches g (to o (at.ForUpdate b test)) gs rest
    → Reaches g (to o (at.ForTest b)) (option_value (option_map of_expr test) ++ just p.Semicolon ∷ gs) rest
test_then None b o g gs rest r f k = reaches_just g (record { outer = o; at = at.ForTest b }) (to o (at.ForUpdate b None)) p.Semicolon gs rest (λ q l. refl) k
test_then (Some x) b o g gs rest r f k = value_just x free (record { outer = o; at = at.ForTest b }) o (plus (constructs o) 1) (purpose.ForTest b) (of_expr x).forms p.Semicolon (to o (at.ForUpdate b (Some x))) g gs rest
    (stands_for_test x o b r f) refl (λ q l. refl) k

update_then : (update : Option Expr) (b : ForBegin) (test : Option Expr) (o : Outer) (g : Goal) (gs : List Form) (rest : List Piece) → MayRead update → value_fits (option_map shape.of_expr update) ≡ true → Reaches g (wait_body o (bodies.For b test update)) gs rest
    → Reaches g (to o (at.ForUpdate b test)) (option_value (option_map of_expr update) ++ just p.CloseParen ∷ gs) rest
update_then None b test o g gs rest r f k = reaches_just g (record { outer = o; at = at.ForUpdate b test }) (wait_body o (bodies.For b test None)) p.CloseParen gs rest (λ q l. refl) k
update_then (Some x) b test o g gs rest r f k = value_just x free (record { outer = o; at = at.ForUpdate b test }) o (plus (constructs o) 1) (purpose.ForUpdate b test) (of_expr x).forms p.CloseParen (wait_body o (bodies.For b test (Some x))) g gs rest
    (stands_for_update x o b test r f) refl (λ q l. refl) k

head_apart : (a t u gs : List Form) (x y : Form) → (a ++ x ∷ (t ++ x ∷ u)) ++ y ∷ gs ≡ a ++ x ∷ (t ++ x ∷ (u ++ y ∷ gs))
head_apart a t u gs x y = append_assoc a (x ∷ (t ++ x ∷ u)) (y ∷ gs) ∙ ap (λ (z : List Form). a ++ x ∷ z) (append_assoc t (x ∷ u) (y ∷ gs))

pub reads_for : (c : ForBegin) (test update : Option Expr) (x : Stmt) → ReadsFor c → MayRead test → MayRead update → ReadsStmt x → ReadsStmt (stmt.For c test update x)
reads_for c test update x rc rt ru rs = record {
  reads = λ b s o g rest f a m i h e k.
      let it : Stmt = stmt.For c test update x in
      let tail : List Form = body (of_stmt x) in
      let t : List Form = option_value (option_map of_expr test) in
      let u : List Form = option_value (option_map of_expr update) in
      let fit = shape.of_for c && (value_fits (option_map shape.of_expr test) && value_fits (option_map shape.of_expr update)) in
      let d : fit ≡ true = loop_fits x it fit (shape_for c test update x) f in
      let d2 = (and_parts (shape.of_for c) (value_fits (option_map shape.of_expr test) && value_fits (option_map shape.of_expr update)) d).1 in
      let head : List Form = for_head (of_for c) (option_map of_expr test) (option_map of_expr update) in
      reaches_same g (Ok s) (of_stmt it).forms (reserved r.For ∷ (parenthesized head ++ tail)) rest (ap stmt_forms (written_for c test update x))
      (reaches_token g s (to o (at.Opening opening.For)) (tok.Reserved r.For) false 0 (parenthesized head ++ tail) rest refl (λ q l z. a.begins (token q l (tok.Reserved r.For)) (λ y. cc))
      (reaches_enclosed g (record { outer = o; at = at.Opening opening.For }) (to o at.ForHead) p.OpenParen head p.CloseParen tail rest (λ q l. refl)
      (reaches_same g (to o at.ForHead) (head ++ just p.CloseParen ∷ tail) (of_for c ++ just p.Semicolon ∷ (t ++ just p.Semicolon ∷ (u ++ just p.CloseParen ∷ tail))) rest (head_apart (of_for c) t u tail (just p.Semicolon) (just p.CloseParen))
      (for_then c o g (t ++ just p.Semicolon ∷ (u ++ just p.CloseParen ∷ tail)) rest rc (and_parts (shape.of_for c) (value_fits (option_map shape.of_expr test) && value_fits (option_map shape.of_expr update)) d).0
      (test_then test c o g (u ++ just p.CloseParen ∷ tail) rest rt (and_parts (value_fits (option_map shape.of_expr test)) (value_fits (option_map shape.of_expr update)) d2).0
      (update_then update c test o g tail rest ru (and_parts (value_fits (option_map shape.of_expr test)) (value_fits (option_map shape.of_expr update)) d2).1
      (loop_reads x it fit o (bodies.For c test update) g rest rs (shape_for c test update x) f h e (complete_framed o (opened (plus (constructs o) 1) (frame.Body (bodies.For c test update)) ∷ o.frames) o.frames it) k)))))));
}

pub for_nothing : ReadsFor for_begin.Nothing
for_nothing = record {
  reads = λ o t g rest f e k.
      reaches_same g (to o at.ForHead) (of_for for_begin.Nothing) [] (Read t ∷ rest) written_for_nothing
      (reaches_none g (to o at.ForHead) (Read t ∷ rest) (takes g (record { outer = o; at = at.ForHead }) t rest (ap is_last e)
      (leads_is g (did (record { outer = o; at = at.ForHead }) t) (to o (at.ForTest for_begin.Nothing)) rest (ap (λ (z : TokenKind). did (record { outer = o; at = at.ForHead }) (token t.place t.after_line_end z)) e) k)));
}

pub for_start : (x : Expr) → ReadsValue x → ReadsFor (for_begin.Start x)
for_start x r = record {
  reads = λ o t g rest f e k.
      reaches_same g (to o at.ForHead) (of_for (for_begin.Start x)) (of_expr x).forms (Read t ∷ rest) (written_for_start x)
      (value_reaches x free (record { outer = o; at = at.ForHead }) o (plus (constructs o) 1) purpose.ForStart (of_expr x).forms (Read t) g rest (stands_for_start x o r (sym (shape_for_start x) ∙ f)) (ap kind_closes e)
      (leads_is g (on_value false o purpose.ForStart x t) (to o (at.ForTest (for_begin.Start x))) rest (ap (λ (z : TokenKind). on_value false o purpose.ForStart x (token t.place t.after_line_end z)) e) k));
}

-- ---- `for` and `of`

pub for_declares : (k : DeclareKind) (o : Outer) (q : ℕ) (l : Bool) → did (record { outer = o; at = at.ForHead }) (token q l (tok.Reserved (declare_word k))) ≡ to o (at.DeclaredName (declares k true))
for_declares declare.Let o q l = refl
for_declares declare.Const o q l = refl

pub reads_for_of : (c : DeclareKind) (n : Name) (v : Expr) (x : Stmt) → ReadsValue v → ReadsStmt x → ReadsStmt (stmt.ForOf c n v x)
reads_for_of c n v x rv rs = record {
  reads = λ b s o g rest f a m i h e k.
      let it : Stmt = stmt.ForOf c n v x in
      let tail : List Form = body (of_stmt x) in
      let head : List Form = for_of_head c n (of_expr v) in
      reaches_same g (Ok s) (of_stmt it).forms (reserved r.For ∷ (parenthesized head ++ tail)) rest (ap stmt_forms (written_for_of c n v x))
      (reaches_token g s (to o (at.Opening opening.For)) (tok.Reserved r.For) false 0 (parenthesized head ++ tail) rest refl (λ q l z. a.begins (token q l (tok.Reserved r.For)) (λ y. cc))
      (reaches_enclosed g (record { outer = o; at = at.Opening opening.For }) (to o at.ForHead) p.OpenParen head p.CloseParen tail rest (λ q l. refl)
      (reaches_token g (record { outer = o; at = at.ForHead }) (to o (at.DeclaredName (declares c true))) (tok.Reserved (declare_word c)) false 0 (name n ∷ of_word ∷ ((of_expr v).forms ++ just p.CloseParen ∷ tail)) rest refl (λ q l z. for_declares c o q l)
      (reaches_at g (record { outer = o; at = at.DeclaredName (declares c true) }) (to o (at.NameDeclared (declares c true) n)) n.place (tok.Name n.units) false 0 (of_word ∷ ((of_expr v).forms ++ just p.CloseParen ∷ tail)) rest refl (λ l z. refl)
      (reaches_token g (record { outer = o; at = at.NameDeclared (declares c true) n }) (wait o 1 (purpose.ForOf c n)) (tok.Name (111 ∷ 102 ∷ [])) false 0 ((of_expr v).forms ++ just p.CloseParen ∷ tail) rest refl (λ q l z. refl)
      (value_just v free (record { outer = push o 1 (frame.Purpose (purpose.ForOf c n)); at = at.Begin }) o (plus (constructs o) 1) (purpose.ForOf c n) (of_expr v).forms p.CloseParen (wait_body o (bodies.ForOf c n v)) g tail rest
      (stands_waiting v o 1 (purpose.ForOf c n) rv (loop_fits x it (shape.of_expr v).fits (shape_for_of c n v x) f) refl) refl (λ q l. refl)
      (loop_reads x it (shape.of_expr v).fits o (bodies.ForOf c n v) g rest rs (shape_for_of c n v x) f h e (complete_framed o (opened (plus (constructs o) 1) (frame.Body (bodies.ForOf c n v)) ∷ o.frames) o.frames it) k)))))));
}

-- ---- `return`, `throw`, and an expression

bare_return : (o : Outer) (m q : ℕ) (l : Bool) → did (record { outer = o; at = at.Return m }) (token q l (tok.Punctuator p.Semicolon)) ≡ complete o (stmt.Return m None)
bare_return o m q true = refl
bare_return o m q false = refl

pub reads_bare_return : (n : ℕ) → ReadsStmt (stmt.Return n None)
reads_bare_return n = record {
  reads = λ b s o g rest f a m i h e k.
      reaches_same g (Ok s) (of_stmt (stmt.Return n None)).forms (reserved_at n r.Return ∷ end ∷ []) rest (ap stmt_forms (written_return n None))
      (reaches_at g s (to o (at.Return n)) n (tok.Reserved r.Return) false 0 (end ∷ []) rest refl (λ l u. a.begins (token n l (tok.Reserved r.Return)) (λ z. cc))
      (reaches_end g (record { outer = o; at = at.Return n }) (complete o (stmt.Return n None)) [] rest refl (bare_return o n) refl (reaches_none g (complete o (stmt.Return n None)) rest k)));
}

pub reads_return : (n : ℕ) (x : Expr) → ReadsValue x → OneLine x → ReadsStmt (stmt.Return n (Some x))
reads_return n x rv ol = record {
  reads = λ b s o g rest f a m i h e k.
      let it : Stmt = stmt.Return n (Some x) in
      reaches_same g (Ok s) (of_stmt it).forms (reserved_at n r.Return ∷ (on_one_line (of_expr x).forms ++ end ∷ [])) rest (ap stmt_forms (written_return n (Some x)))
      (reaches_at g s (to o (at.Return n)) n (tok.Reserved r.Return) false 0 (on_one_line (of_expr x).forms ++ end ∷ []) rest refl (λ l u. a.begins (token n l (tok.Reserved r.Return)) (λ z. cc))
      (value_end x on_line (record { outer = o; at = at.Return n }) o (plus (constructs o) 0) (purpose.Return n) (on_one_line (of_expr x).forms) (complete o it) g [] rest
      (stands_return x o n rv ol (sym (ap stmt_fits (shape_return n (Some x))) ∙ f)) (λ q l. refl) refl (reaches_none g (complete o it) rest k)));
}

pub reads_throw : (x : Expr) → ReadsValue x → OneLine x → ReadsStmt (stmt.Throw x)
reads_throw x rv ol = record {
  reads = λ b s o g rest f a m i h e k.
      let it : Stmt = stmt.Throw x in
      reaches_same g (Ok s) (of_stmt it).forms (reserved r.Throw ∷ (on_one_line (of_expr x).forms ++ end ∷ [])) rest (ap stmt_forms (written_throw x))
      (reaches_token g s (to o at.Throw) (tok.Reserved r.Throw) false 0 (on_one_line (of_expr x).forms ++ end ∷ []) rest refl (λ q l u. a.begins (token q l (tok.Reserved r.Throw)) (λ z. cc))
      (value_end x on_line (record { outer = o; at = at.Throw }) o (plus (constructs o) 0) purpose.Throw (on_one_line (of_expr x).forms) (complete o it) g [] rest
      (stands_throw x o rv ol (sym (ap stmt_fits (shape_throw x)) ∙ f)) (λ q l. refl) refl (reaches_none g (complete o it) rest k)));
}

pub reads_expr : (x : Expr) → ReadsValue x → ReadsStmt (stmt.Expr x)
reads_expr x rv = record {
  reads = λ b s o g rest f a m i h e k.
      let it : Stmt = stmt.Expr x in
      let d = sym (ap stmt_fits (shape_expr_stmt x)) ∙ f in
      reaches_same g (Ok s) (of_stmt it).forms ((of_expr x).forms ++ end ∷ []) rest (ap stmt_forms (written_expr_stmt x))
      (value_end x as_statement s o (plus (constructs o) 0) purpose.Statement (of_expr x).forms (complete o it) g [] rest
      (stands_statement x b s o rv a (and_parts (shape.of_expr x).fits (shape.is_other (shape.of_expr x).first) d).0 (and_parts (shape.of_expr x).fits (shape.is_other (shape.of_expr x).first) d).1) (λ q l. refl) refl (reaches_none g (complete o it) rest k));
}
