-- Statements without values of their own are read.
use Rattle.std.proofs.Common.{◌≡◌, ℕ, Bool, true, false, List, [], ◌∷◌, ◌++◌, map, Option, Some, None, option_map, Ok, refl, sym, ap, ◌∙◌}
use Rattle.std.proofs.lemmas.List.{append-nil}
use Rattle.std.proofs.lemmas.Bool.{and_parts}
use Rattle.js_lex.specs.declared.token.Punctuator.TheVariants as p
use Rattle.js_lex.specs.declared.token.Reserved.TheVariants as r
use Rattle.js_lex.specs.declared.token.TokenKind.TheVariants as tok
use Rattle.js_tree.specs.declared.tree.Name.{Name}
use Rattle.js_tree.specs.declared.tree.Catch.{Catch, roll-Catch}
use Rattle.js_tree.specs.declared.tree.ArrowBody.TheOpen.{Stmt-F}
use Rattle.js_tree.specs.declared.tree.Stmt.{Stmt, out-roll-Stmt}
use Rattle.js_tree.specs.declared.tree.Stmt.TheVariants as stmt
use Rattle.js_grammar.specs.Marks.{Piece, Form, just, end}
use Rattle.js_grammar.specs.Grammar.{WrittenStmt, reserved, reserved_at, block, name, parenthesized, optional, option_finally, of_stmt, of_catch, is_empty}
use Rattle.js_grammar.specs.Shapes.{StmtShape, all_statements_fit, catch_fits, finally_fits, handles}
use Rattle.js_grammar.specs.Shapes as shape
use Rattle.js_parse_core.specs.declared.machine.At.TheVariants as at
use Rattle.js_parse_core.specs.declared.machine.Block.TheVariants as blocks
use Rattle.js_parse_core.specs.declared.machine.Outer.{Outer}
use Rattle.js_parse_core.specs.declared.machine.State.{State}
use Rattle.js_parse_core.specs.Outer.{to, plus, constructs, in_body, complete}
use Rattle.js_parse_core.specs.Statements.{block_constructs}
use Rattle.js_grammar.proofs.Equations.{written_break, written_continue, written_empty, written_block, written_try, written_catch, written_bare_catch}
use Rattle.js_parse_core.proofs.ShapeEquations.{shape_block, shape_try, shape_catch}
use Rattle.js_parse_core.proofs.Readings.{token}
use Rattle.js_parse_core.proofs.Reaches.{Goal, Leads, Reaches, did, reaches_none, reaches_same, reaches_split, reaches_token, reaches_at, reaches_just, reaches_end, reaches_enclosed}
use Rattle.js_parse_core.proofs.ReadsStatements.{Ends, ReadsStmt, ReadsCatch}
use Rattle.js_parse_core.proofs.Completes.{catch_leads}
use Rattle.js_parse_core.proofs.StatementLists.{EachStmt, stmts_of, reaches_block}

abbrev pub stmt_forms : WrittenStmt → List Form
stmt_forms w = w.forms

abbrev pub stmt_fits : StmtShape → Bool
stmt_fits s = s.fits

pub reads_break : (q : ℕ) → ReadsStmt (stmt.Break q)
reads_break q = record {
  reads = λ b s o g rest f a m i h e k.
      reaches_same g (Ok s) (of_stmt (stmt.Break q)).forms (reserved_at q r.Break ∷ end ∷ []) rest (ap stmt_forms (written_break q))
      (reaches_at g s (to o (at.Jump (stmt.Break q))) q (tok.Reserved r.Break) false 0 (end ∷ []) rest refl (λ l u. a.begins (token q l (tok.Reserved r.Break)) (λ z. cc))
      (reaches_end g (record { outer = o; at = at.Jump (stmt.Break q) }) (complete o (stmt.Break q)) [] rest refl (λ n l. refl) refl (reaches_none g (complete o (stmt.Break q)) rest k)));
}

pub reads_continue : (q : ℕ) → ReadsStmt (stmt.Continue q)
reads_continue q = record {
  reads = λ b s o g rest f a m i h e k.
      reaches_same g (Ok s) (of_stmt (stmt.Continue q)).forms (reserved_at q r.Continue ∷ end ∷ []) rest (ap stmt_forms (written_continue q))
      (reaches_at g s (to o (at.Jump (stmt.Continue q))) q (tok.Reserved r.Continue) false 0 (end ∷ []) rest refl (λ l u. a.begins (token q l (tok.Reserved r.Continue)) (λ z. cc))
      (reaches_end g (record { outer = o; at = at.Jump (stmt.Continue q) }) (complete o (stmt.Continue q)) [] rest refl (λ n l. refl) refl (reaches_none g (complete o (stmt.Continue q)) rest k)));
}

pub empty_is : is_empty stmt.Empty ≡ true
empty_is = ap is_empty (sym stmt.rolls-Empty) ∙ rw (out-roll-Stmt Stmt-F.Empty) refl

pub reads_empty : ReadsStmt stmt.Empty
reads_empty = record {
  reads = λ b s o g rest f a m i h e k.
      reaches_same g (Ok s) (of_stmt stmt.Empty).forms (just p.Semicolon ∷ []) rest (ap stmt_forms written_empty)
      (reaches_just g s (complete o stmt.Empty) p.Semicolon [] rest (λ q l. a.begins (token q l (tok.Punctuator p.Semicolon)) (λ z. m empty_is)) (reaches_none g (complete o stmt.Empty) rest k));
}

pub reads_block : (ys : List EachStmt) → ReadsStmt (stmt.Block (stmts_of ys))
reads_block ys = record {
  reads = λ b s o g rest f a m i h e k.
      reaches_same g (Ok s) (of_stmt (stmt.Block (stmts_of ys))).forms (block (map of_stmt (stmts_of ys))) rest (ap stmt_forms (written_block (stmts_of ys)))
      (reaches_block ys s o (plus (constructs o) (block_constructs (in_body o))) blocks.Plain g rest (sym (ap stmt_fits (shape_block (stmts_of ys))) ∙ f)
      (λ q l. a.begins (token q l (tok.Punctuator p.OpenBrace)) (λ z. cc)) k);
}

-- ---- `catch`

pub reads_bare_catch : (ys : List EachStmt) → ReadsCatch (roll-Catch (record { name = None; body = stmts_of ys }))
reads_bare_catch ys = record {
  reads = λ o ss g rest f k.
      let it : Catch = roll-Catch (record { name = None; body = stmts_of ys }) in
      reaches_same g (to o (at.AfterTry ss)) (of_catch it) (reserved r.Catch ∷ block (map of_stmt (stmts_of ys))) rest (written_bare_catch (stmts_of ys))
      (reaches_token g (record { outer = o; at = at.AfterTry ss }) (to o (at.CatchOpen ss)) (tok.Reserved r.Catch) false 0 (block (map of_stmt (stmts_of ys))) rest refl (λ q l u. refl)
      (reaches_block ys (record { outer = o; at = at.CatchOpen ss }) o (plus (constructs o) 1) (blocks.Catch ss None) g rest (sym (shape_catch it) ∙ f) (λ q l. refl) k));
}

pub reads_catch : (n : Name) (ys : List EachStmt) → ReadsCatch (roll-Catch (record { name = Some n; body = stmts_of ys }))
reads_catch n ys = record {
  reads = λ o ss g rest f k.
      let it : Catch = roll-Catch (record { name = Some n; body = stmts_of ys }) in
      let body : List Form = block (map of_stmt (stmts_of ys)) in
      reaches_same g (to o (at.AfterTry ss)) (of_catch it) (reserved r.Catch ∷ (parenthesized (name n ∷ []) ++ body)) rest (written_catch n (stmts_of ys))
      (reaches_token g (record { outer = o; at = at.AfterTry ss }) (to o (at.CatchOpen ss)) (tok.Reserved r.Catch) false 0 (parenthesized (name n ∷ []) ++ body) rest refl (λ q l u. refl)
      (reaches_enclosed g (record { outer = o; at = at.CatchOpen ss }) (to o (at.CatchName ss)) p.OpenParen (name n ∷ []) p.CloseParen body rest (λ q l. refl)
      (reaches_at g (record { outer = o; at = at.CatchName ss }) (to o (at.CatchClose ss n)) n.place (tok.Name n.units) false 0 (just p.CloseParen ∷ body) rest refl (λ l u. refl)
      (reaches_just g (record { outer = o; at = at.CatchClose ss n }) (to o (at.CatchBody ss n)) p.CloseParen body rest (λ q l. refl)
      (reaches_block ys (record { outer = o; at = at.CatchBody ss n }) o (plus (constructs o) 1) (blocks.Catch ss (Some n)) g rest (sym (shape_catch it) ∙ f) (λ q l. refl) k)))));
}

-- ---- `try`

abbrev pub EachCatch : Type 0
EachCatch = (c : Catch) × ReadsCatch c

abbrev pub catch_of : Option EachCatch → Option Catch
catch_of c = option_map (λ y. y.0) c

abbrev pub finally_of : Option (List EachStmt) → Option (List Stmt)
finally_of f = option_map stmts_of f

-- `finally` and its block
reaches_finally : (zs : List EachStmt) (s : State) (o : Outer) (ss : List Stmt) (c : Option Catch) (g : Goal) (rest : List Piece) → all_statements_fit (map shape.of_stmt (stmts_of zs)) ≡ true
    → ((q : ℕ) (l : Bool) → did s (token q l (tok.Reserved r.Finally)) ≡ to o (at.FinallyOpen ss c)) → Leads g (complete o (stmt.Try ss c (Some (stmts_of zs)))) rest
    → Reaches g (Ok s) (reserved r.Finally ∷ block (map of_stmt (stmts_of zs))) rest
reaches_finally zs s o ss c g rest f e k =
    reaches_token g s (to o (at.FinallyOpen ss c)) (tok.Reserved r.Finally) false 0 (block (map of_stmt (stmts_of zs))) rest refl (λ q l u. e q l)
    (reaches_block zs (record { outer = o; at = at.FinallyOpen ss c }) o (plus (constructs o) 1) (blocks.Finally ss c) g rest f (λ q l. refl) k)

-- what stands behind the block of a `try`
reaches_handlers : (c : Option EachCatch) (fin : Option (List EachStmt)) (o : Outer) (ss : List Stmt) (g : Goal) (rest : List Piece) → catch_fits (option_map shape.of_catch (catch_of c)) ≡ true
    → finally_fits (option_map (map shape.of_stmt) (finally_of fin)) ≡ true → handles (option_map shape.of_catch (catch_of c)) (option_map (map shape.of_stmt) (finally_of fin)) ≡ true → Ends g rest
    → Leads g (complete o (stmt.Try ss (catch_of c) (finally_of fin))) rest
    → Reaches g (to o (at.AfterTry ss)) (optional (option_map of_catch (catch_of c)) ++ option_finally (option_map (map of_stmt) (finally_of fin))) rest
reaches_handlers None None o ss g rest a b h e k = cc
reaches_handlers None (Some zs) o ss g rest a b h e k = reaches_finally zs (record { outer = o; at = at.AfterTry ss }) o ss None g rest b (λ q l. refl) k
reaches_handlers (Some c) None o ss g rest a b h e k =
    reaches_same g (to o (at.AfterTry ss)) (of_catch c.0 ++ []) (of_catch c.0) rest (append-nil (of_catch c.0)) (c.1.reads o ss g rest a (catch_leads g o ss c.0 rest e k))
reaches_handlers (Some c) (Some zs) o ss g rest a b h e k =
    reaches_split g (to o (at.AfterTry ss)) (of_catch c.0) (reserved r.Finally ∷ block (map of_stmt (stmts_of zs))) rest (λ ps fit.
    c.1.reads o ss g (ps ++ rest) a ((reaches_finally zs (record { outer = o; at = at.AfterCatch ss c.0 }) o ss (Some c.0) g rest b (λ q l. refl) k).reaches ps fit))

pub reads_try : (ys : List EachStmt) (c : Option EachCatch) (fin : Option (List EachStmt)) → ReadsStmt (stmt.Try (stmts_of ys) (catch_of c) (finally_of fin))
reads_try ys c fin = record {
  reads = λ b s o g rest f a m i h e k.
      let ss : List Stmt = stmts_of ys in
      let it : Stmt = stmt.Try ss (catch_of c) (finally_of fin) in
      let behind : List Form = optional (option_map of_catch (catch_of c)) ++ option_finally (option_map (map of_stmt) (finally_of fin)) in
      let f1 = sym (ap stmt_fits (shape_try ss (catch_of c) (finally_of fin))) ∙ f in
      let f2 = (and_parts (all_statements_fit (map shape.of_stmt ss)) _ f1).1 in
      let f3 = (and_parts (catch_fits (option_map shape.of_catch (catch_of c))) _ f2).1 in
      reaches_same g (Ok s) (of_stmt it).forms (reserved r.Try ∷ (block (map of_stmt ss) ++ behind)) rest (ap stmt_forms (written_try ss (catch_of c) (finally_of fin)))
      (reaches_token g s (to o at.TryOpen) (tok.Reserved r.Try) false 0 (block (map of_stmt ss) ++ behind) rest refl (λ q l u. a.begins (token q l (tok.Reserved r.Try)) (λ z. cc))
      (reaches_split g (to o at.TryOpen) (block (map of_stmt ss)) behind rest (λ ps fit.
      reaches_block ys (record { outer = o; at = at.TryOpen }) o (plus (constructs o) 1) blocks.Try g (ps ++ rest) (and_parts (all_statements_fit (map shape.of_stmt ss)) _ f1).0 (λ q l. refl)
      ((reaches_handlers c fin o ss g rest (and_parts (catch_fits (option_map shape.of_catch (catch_of c))) _ f2).0 (and_parts (finally_fits (option_map (map shape.of_stmt) (finally_of fin))) _ f3).0
      (and_parts (finally_fits (option_map (map shape.of_stmt) (finally_of fin))) _ f3).1 e k).reaches ps fit))));
}
