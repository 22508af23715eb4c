-- Lists that are read: statements in a block, parameters, members.
use Rattle.std.proofs.Common.{◌≡◌, ℕ, Bool, true, false, List, [], ◌∷◌, ◌++◌, map, cond, Ok, refl, sym, ap, ◌∙◌, subst, append_assoc, inl, inr}
use Rattle.std.proofs.lemmas.List.{append-nil}
use Rattle.std.proofs.lemmas.Bool.{and_parts, and_right}
use Rattle.js_lex.specs.declared.token.Punctuator.{Punctuator}
use Rattle.js_lex.specs.declared.token.Punctuator.TheVariants as p
use Rattle.js_lex.specs.declared.token.TokenKind.TheVariants as tok
use Rattle.js_lex.specs.declared.token.Token.{Token}
use Rattle.js_tree.specs.declared.tree.Name.{Name}
use Rattle.js_tree.specs.declared.tree.Function.{Function, roll-Function}
use Rattle.js_tree.specs.declared.tree.Property.{Property}
use Rattle.js_tree.specs.declared.tree.Stmt.{Stmt}
use Rattle.js_grammar.specs.Marks.{Piece, Read, Ended, Just, Form, IsWanted, sign, just, maybe, more, listed, enclosed}
use Rattle.js_grammar.specs.Grammar.{WrittenFunction, WrittenStmt, of_property, of_stmt, statements, block, parameters, name, name_forms, object}
use Rattle.js_grammar.specs.Shapes.{all_true, all_statements_fit}
use Rattle.js_grammar.specs.Shapes as shape
use Rattle.js_parse_core.specs.declared.machine.At.TheVariants as at
use Rattle.js_parse_core.specs.declared.machine.Block.{Block}
use Rattle.js_parse_core.specs.declared.machine.Block.TheVariants as blocks
use Rattle.js_parse_core.specs.declared.machine.Frame.TheVariants as frame
use Rattle.js_parse_core.specs.declared.machine.Head.{Head}
use Rattle.js_parse_core.specs.declared.machine.Outer.{Outer}
use Rattle.js_parse_core.specs.declared.machine.State.{State}
use Rattle.js_parse_core.specs.Outer.{Step, to, plus, constructs, push_at, innermost}
use Rattle.js_parse_core.specs.Objects.{on_property_end, is_export, close_object, head_constructs}
use Rattle.js_parse_core.specs.Statements.{close, close_function}
use Rattle.js_parse_core.proofs.Pieces.{Fits, take, taken, run}
use Rattle.js_parse_core.proofs.PieceLemmas.{Split, fits_split, fits_shallow, take_is, run_append}
use Rattle.js_parse_core.proofs.Readings.{token, ReadsStmts, ReadsFunction, ReadsObject}
use Rattle.js_parse_core.proofs.Reaches.{Goal, Leads, Reaches, did, leads_is, leads_same, reaches_same, reaches_is, reaches_none, reaches_split, reaches_then, reaches_perhaps, reaches_maybe, reaches_just, reaches_at, reaches_enclosed, some_first, none_behind, First, first_one, Ran, ran, stops, goes, reaches_run, TokenRead, token_read}
use Rattle.js_parse_core.proofs.ReadsStatements.{EndsProperty, ReadsProperty, Ends, Begins, ReadsStmt, begins_else}
use Rattle.js_parse_core.proofs.Completes.{no_else_between, brace_settles}
use Rattle.js_grammar.proofs.Equations.{written_function}
use Rattle.js_parse_core.proofs.ShapeEquations.{shape_function}

-- ---- statements between braces

abbrev pub EachStmt : Type 0
EachStmt = (x : Stmt) × ReadsStmt x

abbrev pub stmts_of : List EachStmt → List Stmt
stmts_of ys = map (λ y. y.0) ys

abbrev pub within : Outer → ℕ → Block → List Stmt → Step
within o n b ss = to (push_at o n (frame.Block b ss)) at.Statement

pub begins_at : (o : Outer) → Begins true (record { outer = o; at = at.Statement }) o
begins_at o = record { begins = λ t e. refl }

pub reaches_statements : (ys : List EachStmt) (o : Outer) (n : ℕ) (b : Block) (ss : List Stmt) (g : Goal) (rest : List Piece) → all_statements_fit (map shape.of_stmt (stmts_of ys)) ≡ true → Ends g rest
    → Leads g (within o n b (ss ++ stmts_of ys)) rest → Reaches g (within o n b ss) (statements (map of_stmt (stmts_of ys))) rest
reaches_statements [] o n b ss g rest f e h = reaches_none g (within o n b ss) rest (leads_is g (within o n b ss) (within o n b (ss ++ [])) rest (ap (within o n b) (sym (append-nil ss))) h)
reaches_statements (y ∷ ys) o n b ss g rest f e h =
    reaches_split g (within o n b ss) (of_stmt y.0).forms (statements (map of_stmt (stmts_of ys))) rest (λ ps fit.
    let next : Leads g (within o n b (ss ++ y.0 ∷ [])) (ps ++ rest) =
    (reaches_statements ys o n b (ss ++ y.0 ∷ []) g rest (and_parts (shape.of_stmt y.0).fits (all_statements_fit (map shape.of_stmt (stmts_of ys))) f).1 e
    (leads_is g (within o n b ((ss ++ y.0 ∷ []) ++ stmts_of ys)) (within o n b (ss ++ y.0 ∷ stmts_of ys)) rest (ap (within o n b) (append_assoc ss (y.0 ∷ []) (stmts_of ys))) h)).reaches ps fit in
    y.1.reads true (record { outer = push_at o n (frame.Block b ss); at = at.Statement }) (push_at o n (frame.Block b ss)) g (ps ++ rest)
    (and_parts (shape.of_stmt y.0).fits (all_statements_fit (map shape.of_stmt (stmts_of ys))) f).0 (begins_at (push_at o n (frame.Block b ss))) (λ z. refl) (λ z. cc)
    (and_right (shape.of_stmt y.0).takes_else (begins_else (ps ++ rest)) (no_else_between g (push_at o n (frame.Block b (ss ++ y.0 ∷ []))) (ps ++ rest) next))
    (λ z. e (none_behind ps rest z)) next)

-- .. and the braces
pub reaches_block : (ys : List EachStmt) (s : State) (o : Outer) (n : ℕ) (b : Block) (g : Goal) (rest : List Piece) → all_statements_fit (map shape.of_stmt (stmts_of ys)) ≡ true
    → ((q : ℕ) (l : Bool) → did s (token q l (tok.Punctuator p.OpenBrace)) ≡ within o n b []) → Leads g (close o b (stmts_of ys)) rest
    → Reaches g (Ok s) (block (map of_stmt (stmts_of ys))) rest
reaches_block ys s o n b g rest f e h =
    let inner = statements (map of_stmt (stmts_of ys)) in
    reaches_same g (Ok s) (enclosed p.OpenBrace inner p.CloseBrace) (enclosed p.OpenBrace inner p.CloseBrace ++ []) rest (sym (append-nil (enclosed p.OpenBrace inner p.CloseBrace)))
    (reaches_enclosed g s (within o n b []) p.OpenBrace inner p.CloseBrace [] rest e
    (reaches_split g (within o n b []) inner (just p.CloseBrace ∷ []) rest (λ ps fit.
    reaches_statements ys o n b [] g (ps ++ rest) f (λ z. absurd (some_first (sign p.CloseBrace) [] ps rest fit z))
    ((reaches_just g (record { outer = push_at o n (frame.Block b (stmts_of ys)); at = at.Statement }) (close o b (stmts_of ys)) p.CloseBrace [] rest (λ q l. refl)
    (reaches_none g (close o b (stmts_of ys)) rest h)).reaches ps fit))))

-- ---- parameters

parameters_more : (ms : List Name) (o : Outer) (h : Head) (ns : List Name) (n : Name) (g : Goal) (gs : List Form) (rest : List Piece) → Reaches g (to o (at.BodyOpen h ((ns ++ n ∷ []) ++ ms))) gs rest
    → Reaches g (to o (at.ParameterRead h ns n)) (more (map name_forms ms) ++ maybe (sign p.Comma) ∷ just p.CloseParen ∷ gs) rest
parameters_more [] o h ns n g gs rest k =
    let k2 : Reaches g (to o (at.BodyOpen h (ns ++ n ∷ []))) gs rest = subst (λ (z : List Name). Reaches g (to o (at.BodyOpen h z)) gs rest) (append-nil (ns ++ n ∷ [])) k in
    reaches_maybe g (to o (at.ParameterRead h ns n)) (sign p.Comma) (just p.CloseParen ∷ gs) rest
    (reaches_just g (record { outer = o; at = at.ParameterRead h ns n }) (to o (at.Parameters h (ns ++ n ∷ []))) p.Comma (just p.CloseParen ∷ gs) rest (λ q l. refl)
    (reaches_just g (record { outer = o; at = at.Parameters h (ns ++ n ∷ []) }) (to o (at.BodyOpen h (ns ++ n ∷ []))) p.CloseParen gs rest (λ q l. refl) k2))
    (reaches_just g (record { outer = o; at = at.ParameterRead h ns n }) (to o (at.BodyOpen h (ns ++ n ∷ []))) p.CloseParen gs rest (λ q l. refl) k2)
parameters_more (m ∷ ms) o h ns n g gs rest k =
    reaches_just g (record { outer = o; at = at.ParameterRead h ns n }) (to o (at.Parameters h (ns ++ n ∷ []))) p.Comma (name m ∷ (more (map name_forms ms) ++ maybe (sign p.Comma) ∷ just p.CloseParen ∷ gs)) rest (λ q l. refl)
    (reaches_at g (record { outer = o; at = at.Parameters h (ns ++ n ∷ []) }) (to o (at.ParameterRead h (ns ++ n ∷ []) m)) m.place (tok.Name m.units) false 0 (more (map name_forms ms) ++ maybe (sign p.Comma) ∷ just p.CloseParen ∷ gs) rest refl (λ l u. refl)
    (parameters_more ms o h (ns ++ n ∷ []) m g gs rest (subst (λ (z : List Name). Reaches g (to o (at.BodyOpen h z)) gs rest) (sym (append_assoc (ns ++ n ∷ []) (m ∷ []) ms)) k)))

parameters_listed : (ns : List Name) (o : Outer) (h : Head) (g : Goal) (gs : List Form) (rest : List Piece) → Reaches g (to o (at.BodyOpen h ns)) gs rest
    → Reaches g (to o (at.Parameters h [])) (listed (map name_forms ns) ++ just p.CloseParen ∷ gs) rest
parameters_listed [] o h g gs rest k = reaches_just g (record { outer = o; at = at.Parameters h [] }) (to o (at.BodyOpen h [])) p.CloseParen gs rest (λ q l. refl) k
parameters_listed (n ∷ ns) o h g gs rest k =
    reaches_at g (record { outer = o; at = at.Parameters h [] }) (to o (at.ParameterRead h [] n)) n.place (tok.Name n.units) false 0 ((more (map name_forms ns) ++ maybe (sign p.Comma) ∷ []) ++ just p.CloseParen ∷ gs) rest refl (λ l u. refl)
    (reaches_same g (to o (at.ParameterRead h [] n)) ((more (map name_forms ns) ++ maybe (sign p.Comma) ∷ []) ++ just p.CloseParen ∷ gs) (more (map name_forms ns) ++ maybe (sign p.Comma) ∷ just p.CloseParen ∷ gs) rest
    (append_assoc (more (map name_forms ns)) (maybe (sign p.Comma) ∷ []) (just p.CloseParen ∷ gs))
    (parameters_more ns o h [] n g gs rest k))

pub reaches_parameters : (ns : List Name) (s : State) (o : Outer) (h : Head) (g : Goal) (gs : List Form) (rest : List Piece) → ((q : ℕ) (l : Bool) → did s (token q l (tok.Punctuator p.OpenParen)) ≡ to o (at.Parameters h []))
    → Reaches g (to o (at.BodyOpen h ns)) gs rest → Reaches g (Ok s) (parameters ns ++ gs) rest
reaches_parameters ns s o h g gs rest e k = reaches_enclosed g s (to o (at.Parameters h [])) p.OpenParen (listed (map name_forms ns)) p.CloseParen gs rest e (parameters_listed ns o h g gs rest k)

-- ---- functions

-- the statements of a block, up to its `}`
pub stmts_read : (ys : List EachStmt) → ReadsStmts (stmts_of ys)
stmts_read ys = record {
  reads = λ o c b ps q l rest f fit.
      let brace = Read (token q l (tok.Punctuator p.CloseBrace)) in
      let done : State = record { outer = push_at o c (frame.Block b (stmts_of ys)); at = at.Statement } in
      let g : Goal = record { last = λ n. take n brace; final = close o b (stmts_of ys) } in
      let h : Leads g (within o c b []) (ps ++ []) = (reaches_statements ys o c b [] g [] f (λ z. brace_settles q l (close o b (stmts_of ys)))
      (record { leads = ap (λ (z : Step). Ok z) (take_is done (token q l (tok.Punctuator p.CloseBrace)) refl) })).reaches ps fit in
      let r : Ran g (within o c b []) ps = ran g ps (within o c b []) (leads_same g (within o c b []) ps (ps ++ []) (sym (append-nil ps)) h) in
      run_append (record { outer = push_at o c (frame.Block b []); at = at.Statement }) ps (brace ∷ rest) ∙ ap (λ (z : Step). taken z (λ n. run n (brace ∷ rest))) r.runs
      ∙ ap (λ (z : Step). taken z (λ n. run n rest)) r.gives;
}

-- the parts of the pieces of a function
record Parts (ns : List Name) (ws : List WrittenStmt) (ps : List Piece) : Type 0 where
  front : List Piece
  back : List Piece
  q : ℕ
  l : Bool
  k : ℕ
  m : Bool
  parts : ps ≡ front ++ Read (token q l (tok.Punctuator p.OpenBrace)) ∷ (back ++ Read (token k m (tok.Punctuator p.CloseBrace)) ∷ [])
  fits_front : Fits (parameters ns) front
  fits_back : Fits (statements ws) back

parts_of : (ns : List Name) (ws : List WrittenStmt) (ps : List Piece) → Fits (parameters ns ++ block ws) ps → Parts ns ws ps
parts_of ns ws ps fit =
    let s : Split (parameters ns) (block ws) ps = fits_split (parameters ns) (block ws) ps fit in
    let x : First (sign p.OpenBrace) (statements ws ++ just p.CloseBrace ∷ []) s.back = first_one (sign p.OpenBrace) (statements ws ++ just p.CloseBrace ∷ []) s.back (fits_shallow 1 (just p.OpenBrace ∷ (statements ws ++ just p.CloseBrace ∷ [])) s.back s.fits_back) in
    let a : TokenRead (tok.Punctuator p.OpenBrace) x.piece = token_read (tok.Punctuator p.OpenBrace) x.piece x.wanted in
    let t : Split (statements ws) (just p.CloseBrace ∷ []) x.others = fits_split (statements ws) (just p.CloseBrace ∷ []) x.others x.fits in
    let y : First (sign p.CloseBrace) [] t.back = first_one (sign p.CloseBrace) [] t.back t.fits_back in
    let b : TokenRead (tok.Punctuator p.CloseBrace) y.piece = token_read (tok.Punctuator p.CloseBrace) y.piece y.wanted in
    record {
      front = s.front;
      back = t.front;
      q = a.place;
      l = a.line;
      k = b.place;
      m = b.line;
      parts = s.parts ∙ ap (λ (z : List Piece). s.front ++ z) (x.are ∙ ap (λ (z : Piece). z ∷ x.others) a.is
          ∙ ap (λ (z : List Piece). Read (token a.place a.line (tok.Punctuator p.OpenBrace)) ∷ z) (t.parts ∙ ap (λ (z : List Piece). t.front ++ z) (y.are ∙ ap (λ (z : Piece). z ∷ y.others) b.is ∙ ap (λ (z : List Piece). Read (token b.place b.line (tok.Punctuator p.CloseBrace)) ∷ z) y.fits)));
      fits_front = s.fits_front;
      fits_back = t.fits_front;
    }

open_brace : (o : Outer) (h : Head) (ns : List Name) (q : ℕ) (l : Bool) (ps : List Piece)
    → run (record { outer = o; at = at.BodyOpen h ns }) (Read (token q l (tok.Punctuator p.OpenBrace)) ∷ ps) ≡ run (record { outer = push_at o (plus (constructs o) (head_constructs h)) (frame.Block (blocks.Function h ns) []); at = at.Statement }) ps
open_brace o h ns q l ps = ap (λ (z : Step). taken z (λ n. run n ps)) (take_is (record { outer = o; at = at.BodyOpen h ns }) (token q l (tok.Punctuator p.OpenBrace)) refl)

joined_parts : (a b rest : List Piece) (x y : Piece) → (a ++ x ∷ (b ++ y ∷ [])) ++ rest ≡ a ++ x ∷ (b ++ y ∷ rest)
joined_parts a b rest x y = append_assoc a (x ∷ (b ++ y ∷ [])) rest ∙ ap (λ (z : List Piece). a ++ x ∷ z) (append_assoc b (y ∷ []) rest)

run_function : (ns : List Name) (ys : List EachStmt) (o : Outer) (h : Head) (ps rest : List Piece) → all_statements_fit (map shape.of_stmt (stmts_of ys)) ≡ true → Fits (parameters ns ++ block (map of_stmt (stmts_of ys))) ps
    → run (record { outer = o; at = at.ParametersOpen h }) (ps ++ rest) ≡ taken (close_function o h ns (stmts_of ys)) (λ n. run n rest)
run_function ns ys o h ps rest f fit =
    let s : State = record { outer = o; at = at.ParametersOpen h } in
    let d : Parts ns (map of_stmt (stmts_of ys)) ps = parts_of ns (map of_stmt (stmts_of ys)) ps fit in
    let inner : List Piece = d.back ++ Read (token d.k d.m (tok.Punctuator p.CloseBrace)) ∷ rest in
    ap (λ (z : List Piece). run s (z ++ rest)) d.parts ∙ ap (run s) (joined_parts d.front d.back rest (Read (token d.q d.l (tok.Punctuator p.OpenBrace))) (Read (token d.k d.m (tok.Punctuator p.CloseBrace))))
    ∙ reaches_run s (parameters ns ++ []) d.front (Read (token d.q d.l (tok.Punctuator p.OpenBrace)) ∷ inner) (to o (at.BodyOpen h ns))
    (reaches_parameters ns s o h (stops (to o (at.BodyOpen h ns))) [] [] (λ q l. refl) (reaches_none (stops (to o (at.BodyOpen h ns))) (to o (at.BodyOpen h ns)) [] (record { leads = refl })))
    (subst (λ (z : List Form). Fits z d.front) (sym (append-nil (parameters ns))) d.fits_front)
    ∙ open_brace o h ns d.q d.l inner
    ∙ (stmts_read ys).reads o (plus (constructs o) (head_constructs h)) (blocks.Function h ns) d.back d.k d.m rest f d.fits_back

pub function_read : (a : Bool) (ns : List Name) (ys : List EachStmt) → ReadsFunction (roll-Function (record { is_async = a; parameters = ns; body = stmts_of ys }))
function_read a ns ys = record {
  reads = λ o h ps rest f fit.
      let it : Function = roll-Function (record { is_async = a; parameters = ns; body = stmts_of ys }) in
      run_function ns ys o h ps rest (sym (shape_function it) ∙ f) (subst (λ (z : WrittenFunction). Fits z.forms ps) (written_function it) fit);
}

-- ---- members

abbrev pub EachProperty : Type 0
EachProperty = (x : Property) × ReadsProperty x

abbrev pub properties_of : List EachProperty → List Property
properties_of ys = map (λ y. y.0) ys

ends_by : (x : Punctuator) (q : Piece) → IsWanted (Just (tok.Punctuator x)) false q → (t : Token) × (q ≡ Read t) × (t.kind ≡ tok.Punctuator x)
ends_by x (Read t) w = (t, refl, w.0)
ends_by x Ended w = absurd w

member_then : (y : EachProperty) (x : Punctuator) (o : Outer) (xs : List Property) (g : Goal) (gs : List Form) (rest : List Piece) → shape.of_property y.0 ≡ true → EndsProperty (tok.Punctuator x)
    → Reaches g (on_property_end o (xs ++ y.0 ∷ []) (tok.Punctuator x)) gs rest → Reaches g (to o (at.Key xs)) (of_property y.0 ++ just x ∷ gs) rest
member_then y x o xs g gs rest f e k = reaches_then g (to o (at.Key xs)) (of_property y.0) (sign x) gs rest (λ q ps w fit.
    let t = ends_by x q w in
    subst (λ (z : Piece). Reaches g (to o (at.Key xs)) (of_property y.0) (z ∷ (ps ++ rest))) (sym t.1)
    (y.1.reads o xs t.0 g (ps ++ rest) f (subst EndsProperty (sym t.2) e)
    (leads_is g (on_property_end o (xs ++ y.0 ∷ []) t.0.kind) (on_property_end o (xs ++ y.0 ∷ []) (tok.Punctuator x)) (ps ++ rest) (ap (on_property_end o (xs ++ y.0 ∷ [])) t.2) (k.reaches ps fit))))

members_more : (y : EachProperty) (ys : List EachProperty) (o : Outer) (xs : List Property) (g : Goal) (gs : List Form) (rest : List Piece) → all_true (map shape.of_property (y.0 ∷ properties_of ys)) ≡ true
    → Reaches g (close_object o (xs ++ y.0 ∷ properties_of ys)) gs rest
    → Reaches g (to o (at.Key xs)) (of_property y.0 ++ (more (map of_property (properties_of ys)) ++ maybe (sign p.Comma) ∷ just p.CloseBrace ∷ gs)) rest
members_more y [] o xs g gs rest f k =
    reaches_perhaps g (to o (at.Key xs)) (of_property y.0) (sign p.Comma) (just p.CloseBrace ∷ gs) rest
    (member_then y p.Comma o xs g (just p.CloseBrace ∷ gs) rest (and_parts (shape.of_property y.0) true f).0 (inl refl)
    (reaches_just g (record { outer = o; at = at.Key (xs ++ y.0 ∷ []) }) (close_object o (xs ++ y.0 ∷ [])) p.CloseBrace gs rest (λ q l. refl) k))
    (member_then y p.CloseBrace o xs g gs rest (and_parts (shape.of_property y.0) true f).0 (inr refl) k)
members_more y (z ∷ ys) o xs g gs rest f k =
    member_then y p.Comma o xs g ((of_property z.0 ++ more (map of_property (properties_of ys))) ++ maybe (sign p.Comma) ∷ just p.CloseBrace ∷ gs) rest (and_parts (shape.of_property y.0) (all_true (map shape.of_property (z.0 ∷ properties_of ys))) f).0 (inl refl)
    (reaches_same g (to o (at.Key (xs ++ y.0 ∷ []))) ((of_property z.0 ++ more (map of_property (properties_of ys))) ++ maybe (sign p.Comma) ∷ just p.CloseBrace ∷ gs)
    (of_property z.0 ++ (more (map of_property (properties_of ys)) ++ maybe (sign p.Comma) ∷ just p.CloseBrace ∷ gs)) rest
    (append_assoc (of_property z.0) (more (map of_property (properties_of ys))) (maybe (sign p.Comma) ∷ just p.CloseBrace ∷ gs))
    (members_more z ys o (xs ++ y.0 ∷ []) g gs rest (and_parts (shape.of_property y.0) (all_true (map shape.of_property (z.0 ∷ properties_of ys))) f).1
    (reaches_is g (close_object o ((xs ++ y.0 ∷ []) ++ z.0 ∷ properties_of ys)) (close_object o (xs ++ y.0 ∷ z.0 ∷ properties_of ys)) gs rest
    (ap (close_object o) (append_assoc xs (y.0 ∷ []) (z.0 ∷ properties_of ys))) k)))

-- the members, and the brace behind them
pub reaches_members : (ys : List EachProperty) (o : Outer) (g : Goal) (gs : List Form) (rest : List Piece) → all_true (map shape.of_property (properties_of ys)) ≡ true
    → Reaches g (close_object o (properties_of ys)) gs rest → Reaches g (to o (at.Key [])) (listed (map of_property (properties_of ys)) ++ just p.CloseBrace ∷ gs) rest
reaches_members [] o g gs rest f k = reaches_just g (record { outer = o; at = at.Key [] }) (close_object o []) p.CloseBrace gs rest (λ q l. refl) k
reaches_members (y ∷ ys) o g gs rest f k =
    reaches_same g (to o (at.Key [])) (((of_property y.0 ++ more (map of_property (properties_of ys))) ++ maybe (sign p.Comma) ∷ []) ++ just p.CloseBrace ∷ gs)
    (of_property y.0 ++ (more (map of_property (properties_of ys)) ++ maybe (sign p.Comma) ∷ just p.CloseBrace ∷ gs)) rest
    (append_assoc (of_property y.0 ++ more (map of_property (properties_of ys))) (maybe (sign p.Comma) ∷ []) (just p.CloseBrace ∷ gs)
    ∙ append_assoc (of_property y.0) (more (map of_property (properties_of ys))) (maybe (sign p.Comma) ∷ just p.CloseBrace ∷ gs))
    (members_more y ys o [] g gs rest f k)

-- .. behind the brace before them
pub reaches_object : (ys : List EachProperty) (s : State) (o : Outer) (g : Goal) (gs : List Form) (rest : List Piece) → all_true (map shape.of_property (properties_of ys)) ≡ true
    → ((q : ℕ) (l : Bool) → did s (token q l (tok.Punctuator p.OpenBrace)) ≡ to o (at.Key [])) → Reaches g (close_object o (properties_of ys)) gs rest
    → Reaches g (Ok s) (object (map of_property (properties_of ys)) ++ gs) rest
reaches_object ys s o g gs rest f e k = reaches_enclosed g s (to o (at.Key [])) p.OpenBrace (listed (map of_property (properties_of ys))) p.CloseBrace gs rest e (reaches_members ys o g gs rest f k)

always_closes : (b : Bool) (x y : State) → goes (cond b (Ok x) (Ok y)) (λ n. Ok (Ok n)) ≡ Ok (cond b (Ok x) (Ok y))
always_closes true x y = refl
always_closes false x y = refl

pub object_read : (ys : List EachProperty) → ReadsObject (properties_of ys)
object_read ys = record {
  reads = λ o ps rest f fit.
      let made = close_object o (properties_of ys) in
      reaches_run (record { outer = o; at = at.Key [] }) (listed (map of_property (properties_of ys)) ++ just p.CloseBrace ∷ []) ps rest made
      (reaches_members ys o (stops made) [] [] f (reaches_none (stops made) made [] (record { leads = always_closes (is_export (innermost o)) _ _ }))) fit;
}
