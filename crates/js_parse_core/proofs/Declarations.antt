-- Declarations are read: of names, and of functions.
use Rattle.std.proofs.Common.{◌≡◌, ℕ, Bool, true, false, cond, List, [], ◌∷◌, ◌++◌, map, Some, None, Ok, refl, sym, ap, ◌∙◌, subst, append_assoc, inl, inr}
use Rattle.std.proofs.lemmas.List.{append-nil}
use Rattle.std.proofs.lemmas.Bool.{false_from_ne_true, false≢true, and_parts}
use Rattle.js_lex.specs.declared.token.Punctuator.TheVariants as p
use Rattle.js_lex.specs.declared.token.Reserved.TheVariants as r
use Rattle.js_lex.specs.declared.token.TokenKind.{TokenKind}
use Rattle.js_lex.specs.declared.token.TokenKind.TheVariants as tok
use Rattle.js_tree.specs.declared.tree.DeclareKind.{DeclareKind}
use Rattle.js_tree.specs.declared.tree.DeclareKind.TheVariants as declare
use Rattle.js_tree.specs.declared.tree.Name.{Name}
use Rattle.js_tree.specs.declared.tree.Declaration.{Declaration, roll-Declaration}
use Rattle.js_tree.specs.declared.tree.Expr.{Expr}
use Rattle.js_tree.specs.declared.tree.ForBegin.TheVariants as for_begin
use Rattle.js_tree.specs.declared.tree.Function.{Function}
use Rattle.js_tree.specs.declared.tree.Stmt.{Stmt}
use Rattle.js_tree.specs.declared.tree.Stmt.TheVariants as stmt
use Rattle.js_grammar.specs.Marks.{Piece, Read, Ended, Form, Auto, IsWanted, mark, sign, word, unbroken, one, just, end, more}
use Rattle.js_grammar.specs.Grammar.{WrittenFunction, reserved, perhaps_async, name, declare_word, of_stmt, of_expr, of_for, of_declaration, of_function}
use Rattle.js_grammar.specs.Shapes.{StmtShape, declared_fits, all_declared_fit}
use Rattle.js_grammar.specs.Shapes as shape
use Rattle.js_words.specs.declared.word.Spot.TheVariants as spot
use Rattle.js_parse_core.specs.declared.machine.At.TheVariants as at
use Rattle.js_parse_core.specs.declared.machine.Declared.{Declared}
use Rattle.js_parse_core.specs.declared.machine.Frame.TheVariants as frame
use Rattle.js_parse_core.specs.declared.machine.Head.TheVariants as head
use Rattle.js_parse_core.specs.declared.machine.Outer.{Outer}
use Rattle.js_parse_core.specs.declared.machine.Purpose.TheVariants as purpose
use Rattle.js_parse_core.specs.declared.machine.State.{State}
use Rattle.js_parse_core.specs.Outer.{refuse, refuse_at, to, plus, constructs, push, wait, in_body, complete}
use Rattle.js_parse_core.specs.Statements.{declares, with_declaration, close_function, on_statement}
use Rattle.js_parse_core.specs.Tokens as tokens
use Rattle.js_parse_core.specs.Values.{on_initial_end}
use Rattle.js_parse_core.proofs.Pieces.{Fits, take}
use Rattle.js_grammar.proofs.Equations.{written_declare, written_declare_function, written_declaration, written_bare_declaration, written_for_declarations, written_function}
use Rattle.js_parse_core.proofs.ShapeEquations.{shape_declare, shape_declare_function, shape_declaration, shape_bare_declaration, shape_for_declarations}
use Rattle.js_parse_core.proofs.Readings.{token, token_of, kind_closes, closes, free, ReadsValue, ReadsFunction}
use Rattle.js_parse_core.proofs.Reaches.{Goal, Leads, Reaches, did, leads_is, leads_piece, leads_run, take_token, take_end, reaches_none, reaches_same, reaches_is, reaches_then, reaches_either, reaches_each, reaches_token, reaches_at, reaches_just, TokenRead, token_read}
use Rattle.js_parse_core.proofs.ReadsStatements.{Begins, ReadsStmt, ReadsFor, ReadsDeclaration, EndsDeclaration, with_one}
use Rattle.js_parse_core.proofs.Completes.{no_step}
use Rattle.js_parse_core.proofs.ValueSteps.{value_reaches, stands_waiting}
use Rattle.js_parse_core.proofs.Literals.{async_units}
use Rattle.js_parse_core.proofs.PlainStatements.{stmt_forms, stmt_fits}
use Rattle.js_parse_core.proofs.ValueStatements.{for_declares}

-- ---- one declaration without a value

abbrev lets : Bool → List Declaration → Declared
lets b ds = record { kind = declare.Let; in_for = b; declarations = ds }

bare_comma : (o : Outer) (b : Bool) (ds : List Declaration) (n : Name) (q : ℕ) (l : Bool) → did (record { outer = o; at = at.NameDeclared (lets b ds) n }) (token q l (tok.Punctuator p.Comma)) ≡ on_initial_end false o (with_declaration (lets b ds) n None) (token q l (tok.Punctuator p.Comma))
bare_comma o true [] n q l = refl
bare_comma o true (d ∷ ds) n q l = refl
bare_comma o false ds n q l = refl

bare_semicolon : (o : Outer) (b : Bool) (ds : List Declaration) (n : Name) (q : ℕ) (l : Bool) → did (record { outer = o; at = at.NameDeclared (lets b ds) n }) (token q l (tok.Punctuator p.Semicolon)) ≡ on_initial_end false o (with_declaration (lets b ds) n None) (token q l (tok.Punctuator p.Semicolon))
bare_semicolon o true [] n q l = refl
bare_semicolon o true (d ∷ ds) n q l = refl
bare_semicolon o false ds n q l = refl

bare_leads : (o : Outer) (b : Bool) (ds : List Declaration) (n : Name) (q : Piece) (g : Goal) (rest : List Piece) → EndsDeclaration q → Leads g (on_initial_end false o (with_declaration (lets b ds) n None) (token_of q)) rest
    → Leads g (take (record { outer = o; at = at.NameDeclared (lets b ds) n }) q) rest
bare_leads o b ds n (Read t) g rest e k = elim e [
  | inl c ↦ leads_is g _ _ rest (take_token (record { outer = o; at = at.NameDeclared (lets b ds) n }) t (tok.Punctuator p.Comma) c refl ∙ bare_comma o b ds n t.place t.after_line_end
      ∙ ap (λ (z : TokenKind). on_initial_end false o (with_declaration (lets b ds) n None) (token t.place t.after_line_end z)) (sym c)) k
  | inr c ↦ leads_is g _ _ rest (take_token (record { outer = o; at = at.NameDeclared (lets b ds) n }) t (tok.Punctuator p.Semicolon) c refl ∙ bare_semicolon o b ds n t.place t.after_line_end
      ∙ ap (λ (z : TokenKind). on_initial_end false o (with_declaration (lets b ds) n None) (token t.place t.after_line_end z)) (sym c)) k
]
bare_leads o true ds n Ended g rest e k = absurd (no_step g _ rest k)
bare_leads o false ds n Ended g rest e k = leads_is g _ _ rest (take_end (record { outer = o; at = at.NameDeclared (lets false ds) n }) refl) k

declared_leads : (o : Outer) (k : DeclareKind) (b : Bool) (ds : List Declaration) (n : Name) (q : Piece) (g : Goal) (rest : List Piece) → declared_fits k (record { fits = true; has_value = false }) ≡ true → EndsDeclaration q
    → Leads g (on_initial_end false o (with_declaration (record { kind = k; in_for = b; declarations = ds }) n None) (token_of q)) rest
    → Leads g (take (record { outer = o; at = at.NameDeclared (record { kind = k; in_for = b; declarations = ds }) n }) q) rest
declared_leads o declare.Let b ds n q g rest f e k = bare_leads o b ds n q g rest e k
declared_leads o declare.Const b ds n q g rest f e k = cc

pub reads_bare_declaration : (n : Name) → ReadsDeclaration (roll-Declaration (record { name = n; value = None }))
reads_bare_declaration n = record {
  reads = λ o d q g rest f e k.
      let it : Declaration = roll-Declaration (record { name = n; value = None }) in
      let s : State = record { outer = o; at = at.NameDeclared d n } in
      reaches_same g (to o (at.DeclaredName d)) (of_declaration it) (name n ∷ []) (q ∷ rest) (written_bare_declaration n)
      (reaches_at g (record { outer = o; at = at.DeclaredName d }) (Ok s) n.place (tok.Name n.units) false 0 [] (q ∷ rest) refl (λ l u. refl)
      (reaches_none g (Ok s) (q ∷ rest) (leads_piece g s q rest
      (declared_leads o d.kind d.in_for d.declarations n q g rest (sym (ap (declared_fits d.kind) (shape_bare_declaration n)) ∙ f) e k))));
}

-- ---- .. with one

value_of_fits : (k : DeclareKind) (b : Bool) → declared_fits k (record { fits = b; has_value = true }) ≡ true → b ≡ true
value_of_fits declare.Let b h = h
value_of_fits declare.Const b h = (and_parts b true h).0

closes_declaration : (q : Piece) → EndsDeclaration q → closes q ≡ true
closes_declaration (Read t) e = elim e [
  | inl c ↦ ap kind_closes c
  | inr c ↦ ap kind_closes c
]
closes_declaration Ended e = refl

pub reads_declaration : (n : Name) (x : Expr) → ReadsValue x → ReadsDeclaration (roll-Declaration (record { name = n; value = Some x }))
reads_declaration n x rv = record {
  reads = λ o d q g rest f e k.
      let it : Declaration = roll-Declaration (record { name = n; value = Some x }) in
      let c : ℕ = cond d.in_for 1 0 in
      reaches_same g (to o (at.DeclaredName d)) (of_declaration it) (name n ∷ just p.Equal ∷ (of_expr x).forms) (q ∷ rest) (written_declaration n x)
      (reaches_at g (record { outer = o; at = at.DeclaredName d }) (to o (at.NameDeclared d n)) n.place (tok.Name n.units) false 0 (just p.Equal ∷ (of_expr x).forms) (q ∷ rest) refl (λ l u. refl)
      (reaches_just g (record { outer = o; at = at.NameDeclared d n }) (wait o c (purpose.Initial d n)) p.Equal (of_expr x).forms (q ∷ rest) (λ m l. refl)
      (value_reaches x free (record { outer = push o c (frame.Purpose (purpose.Initial d n)); at = at.Begin }) o (plus (constructs o) c) (purpose.Initial d n) (of_expr x).forms q g rest
      (stands_waiting x o c (purpose.Initial d n) rv (value_of_fits d.kind (shape.of_expr x).fits (sym (ap (declared_fits d.kind) (shape_declaration n x)) ∙ f)) refl)
      (closes_declaration q e) k)));
}

-- ---- lists of them

abbrev pub EachDeclaration : Type 0
EachDeclaration = (x : Declaration) × ReadsDeclaration x

abbrev pub declarations_of : List EachDeclaration → List Declaration
declarations_of ys = map (λ y. y.0) ys

abbrev with_all : Declared → List Declaration → Declared
with_all d xs = record { kind = d.kind; in_for = d.in_for; declarations = d.declarations ++ xs }

reaches_declarations : (y : EachDeclaration) (ys : List EachDeclaration) (o : Outer) (d : Declared) (q : Piece) (g : Goal) (rest : List Piece) → all_declared_fit d.kind (map shape.of_declaration (y.0 ∷ declarations_of ys)) ≡ true → EndsDeclaration q
    → Leads g (on_initial_end false o (with_all d (y.0 ∷ declarations_of ys)) (token_of q)) rest
    → Reaches g (to o (at.DeclaredName d)) (of_declaration y.0 ++ more (map of_declaration (declarations_of ys))) (q ∷ rest)
reaches_declarations y [] o d q g rest f e k =
    reaches_same g (to o (at.DeclaredName d)) (of_declaration y.0 ++ []) (of_declaration y.0) (q ∷ rest) (append-nil (of_declaration y.0))
    (y.1.reads o d q g rest (and_parts (declared_fits d.kind (shape.of_declaration y.0)) true f).0 e k)
reaches_declarations y (z ∷ ys) o d q g rest f e k =
    let others : List Form = of_declaration z.0 ++ more (map of_declaration (declarations_of ys)) in
    reaches_then g (to o (at.DeclaredName d)) (of_declaration y.0) (sign p.Comma) others (q ∷ rest) (λ c ps w fit.
    let t : TokenRead (tok.Punctuator p.Comma) c = token_read (tok.Punctuator p.Comma) c w in
    subst (λ (v : Piece). Reaches g (to o (at.DeclaredName d)) (of_declaration y.0) (v ∷ (ps ++ q ∷ rest))) (sym t.is)
    (y.1.reads o d (Read (token t.place t.line (tok.Punctuator p.Comma))) g (ps ++ q ∷ rest) (and_parts (declared_fits d.kind (shape.of_declaration y.0)) (all_declared_fit d.kind (map shape.of_declaration (z.0 ∷ declarations_of ys))) f).0 (inl refl)
    ((reaches_declarations z ys o (with_one d y.0) q g rest (and_parts (declared_fits d.kind (shape.of_declaration y.0)) (all_declared_fit d.kind (map shape.of_declaration (z.0 ∷ declarations_of ys))) f).1 e
    (leads_is g (on_initial_end false o (with_all (with_one d y.0) (z.0 ∷ declarations_of ys)) (token_of q)) (on_initial_end false o (with_all d (y.0 ∷ z.0 ∷ declarations_of ys)) (token_of q)) rest
    (ap (λ (v : List Declaration). on_initial_end false o (record { kind = d.kind; in_for = d.in_for; declarations = v }) (token_of q)) (append_assoc d.declarations (y.0 ∷ []) (z.0 ∷ declarations_of ys))) k)).reaches ps fit)))

-- ---- statements

-- what declares is no body
no_body : (o : Outer) (x : Stmt) (fits : Bool) → shape.of_stmt x ≡ shape.item_only fits → (in_body o ≡ true → (shape.of_stmt x).is_body ≡ true) → in_body o ≡ false
no_body o x fits e h = false_from_ne_true (in_body o) (λ c. false≢true (sym (ap (λ (z : StmtShape). z.is_body) e) ∙ h c))

declare_steps : (k : DeclareKind) (o : Outer) (q : ℕ) (l : Bool) → in_body o ≡ false → on_statement o (token q l (tok.Reserved (declare_word k))) ≡ to o (at.DeclaredName (declares k false))
declare_steps declare.Let o q l e = ap (λ (b : Bool). cond b (refuse_at spot.StatementBegin) (to o (at.DeclaredName (declares declare.Let false)))) e
declare_steps declare.Const o q l e = ap (λ (b : Bool). cond b (refuse_at spot.StatementBegin) (to o (at.DeclaredName (declares declare.Const false)))) e

not_empty_word : (k : DeclareKind) (b : Bool) → false ≡ true → b ≡ true
not_empty_word k b e = cc

declared_ends : (y : EachDeclaration) (ys : List EachDeclaration) (o : Outer) (k : DeclareKind) (g : Goal) (rest : List Piece) → all_declared_fit k (map shape.of_declaration (y.0 ∷ declarations_of ys)) ≡ true
    → Leads g (complete o (stmt.Declare k (y.0 ∷ declarations_of ys))) rest
    → Reaches g (to o (at.DeclaredName (declares k false))) ((of_declaration y.0 ++ more (map of_declaration (declarations_of ys))) ++ end ∷ []) rest
declared_ends y ys o k g rest f h =
    reaches_either g (to o (at.DeclaredName (declares k false))) (of_declaration y.0 ++ more (map of_declaration (declarations_of ys))) (sign p.Semicolon) (mark Auto) [] rest
    (reaches_then g (to o (at.DeclaredName (declares k false))) (of_declaration y.0 ++ more (map of_declaration (declarations_of ys))) (sign p.Semicolon) [] rest (λ q ps w fit.
    let t : TokenRead (tok.Punctuator p.Semicolon) q = token_read (tok.Punctuator p.Semicolon) q w in
    subst (λ (v : Piece). Reaches g (to o (at.DeclaredName (declares k false))) (of_declaration y.0 ++ more (map of_declaration (declarations_of ys))) (v ∷ (ps ++ rest))) (sym t.is)
    (reaches_declarations y ys o (declares k false) (Read (token t.place t.line (tok.Punctuator p.Semicolon))) g (ps ++ rest) f (inr refl) (done ps fit))))
    (reaches_then g (to o (at.DeclaredName (declares k false))) (of_declaration y.0 ++ more (map of_declaration (declarations_of ys))) (mark Auto) [] rest (λ q ps w fit. by_piece ps fit q w))
  where
    done : (ps : List Piece) → Fits [] ps → Leads g (complete o (stmt.Declare k (y.0 ∷ declarations_of ys))) (ps ++ rest)
    done ps fit = (reaches_none g (complete o (stmt.Declare k (y.0 ∷ declarations_of ys))) rest h).reaches ps fit

    by_piece : (ps : List Piece) → Fits [] ps → (q : Piece) → IsWanted Auto false q → Reaches g (to o (at.DeclaredName (declares k false))) (of_declaration y.0 ++ more (map of_declaration (declarations_of ys))) (q ∷ (ps ++ rest))
    by_piece ps fit (Read t) w = absurd w
    by_piece ps fit Ended w = reaches_declarations y ys o (declares k false) Ended g (ps ++ rest) f w (done ps fit)

pub reads_declare : (k : DeclareKind) (ys : List EachDeclaration) → ReadsStmt (stmt.Declare k (declarations_of ys))
reads_declare k [] = record { reads = λ b s o g rest f a m i h e c. let z = sym (ap stmt_fits (shape_declare k [])) ∙ f in absurd (false≢true z) }
reads_declare k (y ∷ ys) = record {
  reads = λ b s o g rest f a m i h e c.
      let ds : List Declaration = y.0 ∷ declarations_of ys in
      let it : Stmt = stmt.Declare k ds in
      reaches_same g (Ok s) (of_stmt it).forms (reserved (declare_word k) ∷ ((of_declaration y.0 ++ more (map of_declaration (declarations_of ys))) ++ end ∷ [])) rest (ap stmt_forms (written_declare k ds))
      (reaches_token g s (to o (at.DeclaredName (declares k false))) (tok.Reserved (declare_word k)) false 0 ((of_declaration y.0 ++ more (map of_declaration (declarations_of ys))) ++ end ∷ []) rest refl
      (λ q l u. a.begins (token q l (tok.Reserved (declare_word k))) (not_empty_word k b) ∙ declare_steps k o q l (no_body o it _ (shape_declare k ds) i))
      (declared_ends y ys o k g rest (sym (ap stmt_fits (shape_declare k ds)) ∙ f) c));
}

pub for_declarations : (k : DeclareKind) (ys : List EachDeclaration) → ReadsFor (for_begin.Declarations k (declarations_of ys))
for_declarations k [] = record { reads = λ o t g rest f e c. let z = sym (shape_for_declarations k []) ∙ f in absurd (false≢true z) }
for_declarations k (y ∷ ys) = record {
  reads = λ o t g rest f e c.
      let ds : List Declaration = y.0 ∷ declarations_of ys in
      let others : List Form = of_declaration y.0 ++ more (map of_declaration (declarations_of ys)) in
      reaches_same g (to o at.ForHead) (of_for (for_begin.Declarations k ds)) (reserved (declare_word k) ∷ others) (Read t ∷ rest) (written_for_declarations k ds)
      (reaches_token g (record { outer = o; at = at.ForHead }) (to o (at.DeclaredName (declares k true))) (tok.Reserved (declare_word k)) false 0 others (Read t ∷ rest) refl (λ q l u. for_declares k o q l)
      (reaches_declarations y ys o (declares k true) (Read t) g rest (sym (shape_for_declarations k ds) ∙ f) (inr e)
      (leads_is g (on_initial_end false o (with_all (declares k true) ds) t) (to o (at.ForTest (for_begin.Declarations k ds))) rest
      (ap (λ (z : TokenKind). on_initial_end false o (with_all (declares k true) ds) (token t.place t.after_line_end z)) e) c)));
}

-- ---- functions

function_leads : (s : State) (o : Outer) (n : Name) (f : Function) (d : Bool) (g : Goal) (rest : List Piece) → ReadsFunction f → shape.of_function f ≡ true → s ≡ record { outer = o; at = at.FunctionName true d } → d ≡ f.is_async
    → Leads g (complete o (stmt.DeclareFunction n f)) rest → Reaches g (Ok s) (name n ∷ (of_function f).forms) rest
function_leads s o n f d g rest r fit e c k =
    let begin : State = record { outer = o; at = at.ParametersOpen (head.Declaration d n) } in
    reaches_is g (Ok s) (to o (at.FunctionName true d)) (name n ∷ (of_function f).forms) rest (ap (λ (z : State). Ok z) e)
    (reaches_at g (record { outer = o; at = at.FunctionName true d }) (Ok begin) n.place (tok.Name n.units) false 0 (of_function f).forms rest refl (λ l u. refl)
    (record {
      reaches = λ ps p. leads_run g begin (ps ++ rest) rest (close_function o (head.Declaration d n) f.parameters f.body) (r.reads o (head.Declaration d n) ps rest fit p)
          (leads_is g (close_function o (head.Declaration d n) f.parameters f.body) (complete o (stmt.DeclareFunction n f)) rest
          (ap (λ (z : Bool). close_function o (head.Declaration z n) f.parameters f.body) c) k);
    }))

pub reads_declare_function : (n : Name) (f : Function) → ReadsFunction f → ReadsStmt (stmt.DeclareFunction n f)
reads_declare_function n f rf = record {
  reads = λ b s o g rest fit a m i h e k.
      let it : Stmt = stmt.DeclareFunction n f in
      let free_place : in_body o ≡ false = no_body o it (shape.of_function f) (shape_declare_function n f) i in
      let fits : shape.of_function f ≡ true = sym (ap stmt_fits (shape_declare_function n f)) ∙ fit in
      reaches_same g (Ok s) (of_stmt it).forms (perhaps_async f.is_async (reserved r.Function ∷ name n ∷ (of_function f).forms)) rest
      (ap stmt_forms (written_declare_function n f) ∙ ap (λ (z : WrittenFunction). perhaps_async z.is_async (reserved r.Function ∷ name n ∷ (of_function f).forms)) (written_function f))
      (by_async s o b g rest a free_place fits k f.is_async refl);
}
  where
    by_async : (s : State) (o : Outer) (b : Bool) (g : Goal) (rest : List Piece) → Begins b s o → in_body o ≡ false → shape.of_function f ≡ true → Leads g (complete o (stmt.DeclareFunction n f)) rest → (c : Bool) → f.is_async ≡ c
        → Reaches g (Ok s) (perhaps_async c (reserved r.Function ∷ name n ∷ (of_function f).forms)) rest
    by_async s o b g rest a w fits k false e =
        reaches_token g s (to o (at.FunctionName true false)) (tok.Reserved r.Function) false 0 (name n ∷ (of_function f).forms) rest refl
        (λ q l u. a.begins (token q l (tok.Reserved r.Function)) (λ z. cc) ∙ ap (λ (z : Bool). cond z (refuse_at spot.StatementBegin) (to o (at.FunctionName true false))) w)
        (function_leads (record { outer = o; at = at.FunctionName true false }) o n f false g rest rf fits refl (sym e) k)
    by_async s o b g rest a w fits k true e =
        reaches_each g s (tok.Name async_units) false 0 (one (unbroken (word r.Function)) ∷ name n ∷ (of_function f).forms) rest refl (λ q l u.
        let inner : Outer = push o 0 (frame.Purpose purpose.Statement) in
        reaches_is g (did s (token q l (tok.Name async_units))) (to inner (at.Async (tokens.name q async_units))) (one (unbroken (word r.Function)) ∷ name n ∷ (of_function f).forms) rest
        (a.begins (token q l (tok.Name async_units)) (λ z. cc))
        (reaches_token g (record { outer = inner; at = at.Async (tokens.name q async_units) }) (to o (at.FunctionName true true)) (tok.Reserved r.Function) true 0 (name n ∷ (of_function f).forms) rest refl
        (λ j v t. async_steps o w q j v (t refl))
        (function_leads (record { outer = o; at = at.FunctionName true true }) o n f true g rest rf fits refl (sym e) k)))
      where
        async_steps : (o : Outer) → in_body o ≡ false → (q j : ℕ) (v : Bool) → v ≡ false
            → did (record { outer = push o 0 (frame.Purpose purpose.Statement); at = at.Async (tokens.name q async_units) }) (token j v (tok.Reserved r.Function)) ≡ to o (at.FunctionName true true)
        async_steps o w q j true v = cc
        async_steps o w q j false v = ap (λ (z : Bool). cond z refuse (to o (at.FunctionName true true))) w
