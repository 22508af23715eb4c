-- A whole tree is read, where its statements and the members of its export are.
use Rattle.std.proofs.Common.{◌≡◌, ◌+◌, ◌≤◌, Bool, true, false, cond, not, List, [], ◌∷◌, ◌++◌, map, Ok, refl, sym, ap, ◌∙◌, subst, append_assoc, arith}
use Rattle.std.specs.Prelude.{◌&&◌, nat_le, IsTrue}
use Rattle.std.proofs.lemmas.Bool.{not-true, false≢true, and_parts, and_right, false_from_ne_true, leb-true}
use Rattle.std.proofs.lemmas.List.{append-nil}
use Rattle.js_lex.specs.declared.token.Punctuator.TheVariants as p
use Rattle.js_lex.specs.declared.token.Reserved.TheVariants as r
use Rattle.js_lex.specs.declared.token.TokenKind.TheVariants as tok
use Rattle.js_tree.specs.declared.tree.Item.{Item}
use Rattle.js_tree.specs.declared.tree.Item.TheVariants as item
use Rattle.js_tree.specs.declared.tree.Property.{Property}
use Rattle.js_tree.specs.declared.tree.Stmt.{Stmt}
use Rattle.js_grammar.specs.Marks.{Piece, Form, sign, just, maybe}
use Rattle.js_grammar.specs.Grammar.{reserved, object, of_stmt, of_property, of_export, export_end, of_tree, is_empty}
use Rattle.js_grammar.specs.Shapes.{all_true, item_fits, exports, tree_fits}
use Rattle.js_grammar.specs.Shapes as shape
use Rattle.js_parse_core.specs.declared.machine.At.TheVariants as at
use Rattle.js_parse_core.specs.declared.machine.Frame.TheVariants as frame
use Rattle.js_parse_core.specs.declared.machine.Outer.{Outer}
use Rattle.js_parse_core.specs.declared.machine.State.{State}
use Rattle.js_parse_core.specs.Outer.{Step, to, push}
use Rattle.js_parse_core.specs.Statements.{on_statement, after_export}
use Rattle.js_parse_core.specs.Tokens.{is_semicolon}
use Rattle.js_parse_core.specs.Machine.{start}
use Rattle.js_parse_core.proofs.Pieces.{Fits, end_token, run, finish}
use Rattle.js_parse_core.proofs.PieceLemmas.{no_limit_is}
use Rattle.js_parse_core.proofs.Reaches.{Goal, Leads, Reaches, leads_same, reaches_none, reaches_split, reaches_token, reaches_just, reaches_maybe, Ran, ran}
use Rattle.js_parse_core.proofs.ReadsStatements.{Begins, ReadsStmt, ReadsProperty, begins_else}
use Rattle.js_parse_core.proofs.Completes.{no_else_between, finish_settles}
use Rattle.js_parse_core.proofs.StatementLists.{begins_at, EachProperty, properties_of, reaches_object}

-- ---- one `export default` at most

-- none stands where one stood before
abbrev once : Bool → List Item → Bool
once e [] = true
once e (item.Stmt s ∷ is) = once e is
once e (item.Export xs ∷ is) = not e && once true is

once_none : (is : List Item) → exports is ≤ 0 → once true is ≡ true
once_none [] h = refl
once_none (item.Stmt s ∷ is) h = once_none is h
once_none (item.Export xs ∷ is) h = absurd (let k = h in omega arith)

once_one : (is : List Item) → exports is ≤ 1 → once false is ≡ true
once_one [] h = refl
once_one (item.Stmt s ∷ is) h = once_one is h
once_one (item.Export xs ∷ is) h = once_none is (let k : 1 + exports is ≤ 1 = h in omega arith)

-- whether one stands before the end
abbrev exported_by : Bool → List Item → Bool
exported_by e [] = e
exported_by e (item.Stmt s ∷ is) = exported_by e is
exported_by e (item.Export xs ∷ is) = exported_by true is

-- ---- the top level

abbrev top : Bool → List Item → Outer
top e is = record { items = is; exported = e; frames = [] }

abbrev goal : Step → Goal
goal made = record { last = finish; final = made }

finish_at : (e : Bool) (is : List Item) → finish (record { outer = top e is; at = at.Statement }) ≡ to (top e is) at.Statement
finish_at e is = no_limit_is (on_statement (top e is) end_token)

finish_export : (e : Bool) (is : List Item) → finish (record { outer = top e is; at = at.AfterExport }) ≡ to (top e is) at.Statement
finish_export e is = no_limit_is (after_export (top e is) end_token)

-- ---- statements

-- from a state that takes it, the statement and the items behind it
stmt_then : (x : Stmt) → ReadsStmt x → (b : Bool) (s : State) (e : Bool) (is : List Item) (fs : List Form) (final : Step) → Begins b s (top e is) → (is_empty x ≡ true → b ≡ true) → (shape.of_stmt x).fits ≡ true
    → Reaches (goal final) (to (top e (is ++ item.Stmt x ∷ [])) at.Statement) fs [] → Reaches (goal final) (Ok s) ((of_stmt x).forms ++ fs) []
stmt_then x rs b s e is fs final a m f k = reaches_split (goal final) (Ok s) (of_stmt x).forms fs [] (λ ps fit.
    let next : Leads (goal final) (to (top e (is ++ item.Stmt x ∷ [])) at.Statement) (ps ++ []) = k.reaches ps fit in
    rs.reads b s (top e is) (goal final) (ps ++ []) f a m (λ z. cc)
    (and_right (shape.of_stmt x).takes_else (begins_else (ps ++ [])) (no_else_between (goal final) (top e (is ++ item.Stmt x ∷ [])) (ps ++ []) next)) (λ z. finish_settles final) next)

-- ---- `export default`

export_begins : (o : Outer) → Begins false (record { outer = o; at = at.AfterExport }) o
export_begins o = record { begins = λ t c. ap (λ (b : Bool). cond b (to o at.Statement) (on_statement o t)) (false_from_ne_true (is_semicolon t.kind) (λ z. false≢true (c z))) }

-- all statements and all members are read
pub record AllRead : Type 0 where
  pub stmts : (x : Stmt) → ReadsStmt x
  pub properties : (x : Property) → ReadsProperty x

abbrev each : AllRead → List Property → List EachProperty
each a xs = map (λ x. (x, a.properties x)) xs

each_is : (a : AllRead) (xs : List Property) → properties_of (each a xs) ≡ xs
each_is a [] = refl
each_is a (x ∷ xs) = ap (λ (z : List Property). x ∷ z) (each_is a xs)

-- the object, and the forms behind it
export_then : (a : AllRead) (xs : List Property) (is : List Item) (fs : List Form) (final : Step) → all_true (map shape.of_property xs) ≡ true
    → Reaches (goal final) (to (top true (is ++ item.Export xs ∷ [])) at.AfterExport) fs [] → Reaches (goal final) (to (top false is) at.Statement) (of_export xs ++ fs) []
export_then a xs is fs final f k =
    reaches_token (goal final) (record { outer = top false is; at = at.Statement }) (to (top false is) at.ExportDefault) (tok.Reserved r.Export) false 0 (reserved r.Default ∷ (object (map of_property xs) ++ fs)) [] refl (λ q l u. refl)
    (reaches_token (goal final) (record { outer = top false is; at = at.ExportDefault }) (to (top false is) at.ExportObject) (tok.Reserved r.Default) false 0 (object (map of_property xs) ++ fs) [] refl (λ q l u. refl)
    (subst (λ (z : List Property). Reaches (goal final) (to (top false is) at.ExportObject) (object (map of_property z) ++ fs) []) (each_is a xs)
    (reaches_object (each a xs) (record { outer = top false is; at = at.ExportObject }) (push (top false is) 0 frame.Export) (goal final) fs []
    (ap (λ (z : List Property). all_true (map shape.of_property z)) (each_is a xs) ∙ f) (λ q l. refl)
    (subst (λ (z : List Property). Reaches (goal final) (to (top true (is ++ item.Export z ∷ [])) at.AfterExport) fs []) (sym (each_is a xs)) k))))

-- ---- items

-- `;` behind the object, and the items
semicolon_then : (is : List Item) (fs : List Form) (final : Step) → Reaches (goal final) (to (top true is) at.Statement) fs [] → Reaches (goal final) (to (top true is) at.AfterExport) (just p.Semicolon ∷ fs) []
semicolon_then is fs final k = reaches_just (goal final) (record { outer = top true is; at = at.AfterExport }) (to (top true is) at.Statement) p.Semicolon fs [] (λ q l. refl) k

-- the end, behind the object
end_then : (is : List Item) (final : Step) → Reaches (goal final) (to (top true is) at.Statement) [] [] → Reaches (goal final) (to (top true is) at.AfterExport) [] []
end_then is final k =
    let h : Leads (goal final) (to (top true is) at.Statement) [] = k.reaches [] refl in
    reaches_none (goal final) (to (top true is) at.AfterExport) [] (record { leads = ap (λ (z : Step). Ok z) (finish_export true is ∙ sym (finish_at true is)) ∙ h.leads })

export_end_stmt : (x : Stmt) (b : Bool) (is : List Item) (fs : List Form) (final : Step) → ReadsStmt x → is_empty x ≡ b → (shape.of_stmt x).fits ≡ true → Reaches (goal final) (to (top true (is ++ item.Stmt x ∷ [])) at.Statement) fs []
    → Reaches (goal final) (to (top true is) at.AfterExport) (cond b (just p.Semicolon) (maybe (sign p.Semicolon)) ∷ ((of_stmt x).forms ++ fs)) []
export_end_stmt x true is fs final rs e f k = semicolon_then is ((of_stmt x).forms ++ fs) final (stmt_then x rs true (record { outer = top true is; at = at.Statement }) true is fs final (begins_at (top true is)) (λ z. refl) f k)
export_end_stmt x false is fs final rs e f k =
    reaches_maybe (goal final) (to (top true is) at.AfterExport) (sign p.Semicolon) ((of_stmt x).forms ++ fs) []
    (semicolon_then is ((of_stmt x).forms ++ fs) final (stmt_then x rs true (record { outer = top true is; at = at.Statement }) true is fs final (begins_at (top true is)) (λ z. refl) f k))
    (stmt_then x rs false (record { outer = top true is; at = at.AfterExport }) true is fs final (export_begins (top true is)) (λ z. sym e ∙ z) f k)

items_read : (a : AllRead) (xs is : List Item) (e : Bool) → all_true (map item_fits xs) ≡ true → once e xs ≡ true
    → Reaches (goal (to (top (exported_by e xs) (is ++ xs)) at.Statement)) (to (top e is) at.Statement) (of_tree xs) []
items_read a [] is e f o =
    let final : Step = to (top e (is ++ [])) at.Statement in
    reaches_none (goal final) (to (top e is) at.Statement) [] (record { leads = ap (λ (z : Step). Ok z) (finish_at e is ∙ ap (λ (z : List Item). to (top e z) at.Statement) (sym (append-nil is))) })
items_read a (item.Stmt x ∷ xs) is e f o =
    let final : Step = to (top (exported_by e xs) (is ++ item.Stmt x ∷ xs)) at.Statement in
    stmt_then x (a.stmts x) true (record { outer = top e is; at = at.Statement }) e is (of_tree xs) final (begins_at (top e is)) (λ z. refl) (and_parts (shape.of_stmt x).fits (all_true (map item_fits xs)) f).0
    (subst (λ (z : List Item). Reaches (goal (to (top (exported_by e xs) z) at.Statement)) (to (top e (is ++ item.Stmt x ∷ [])) at.Statement) (of_tree xs) []) (append_assoc is (item.Stmt x ∷ []) xs)
    (items_read a xs (is ++ item.Stmt x ∷ []) e (and_parts (shape.of_stmt x).fits (all_true (map item_fits xs)) f).1 o))
items_read a (item.Export ps ∷ []) is e f o =
    let final : Step = to (top true (is ++ item.Export ps ∷ [])) at.Statement in
    let end : Reaches (goal final) (to (top true (is ++ item.Export ps ∷ [])) at.Statement) [] [] =
    reaches_none (goal final) (to (top true (is ++ item.Export ps ∷ [])) at.Statement) [] (record { leads = ap (λ (z : Step). Ok z) (finish_at true (is ++ item.Export ps ∷ [])) }) in
    subst (λ (z : Bool). Reaches (goal final) (to (top z is) at.Statement) (of_export ps ++ maybe (sign p.Semicolon) ∷ []) []) (sym (not-true e (and_parts (not e) true o).0))
    (export_then a ps is (maybe (sign p.Semicolon) ∷ []) final (and_parts (all_true (map shape.of_property ps)) true f).0
    (reaches_maybe (goal final) (to (top true (is ++ item.Export ps ∷ [])) at.AfterExport) (sign p.Semicolon) [] []
    (semicolon_then (is ++ item.Export ps ∷ []) [] final end) (end_then (is ++ item.Export ps ∷ []) final end)))
items_read a (item.Export ps ∷ item.Export qs ∷ xs) is e f o = absurd (false≢true (and_parts (not e) (once true (item.Export qs ∷ xs)) o).1)
items_read a (item.Export ps ∷ item.Stmt x ∷ xs) is e f o =
    let final : Step = to (top (exported_by true xs) (is ++ item.Export ps ∷ item.Stmt x ∷ xs)) at.Statement in
    let fits2 = (and_parts (all_true (map shape.of_property ps)) (all_true (map item_fits (item.Stmt x ∷ xs))) f).1 in
    let before : List Item = is ++ item.Export ps ∷ [] in
    subst (λ (z : Bool). Reaches (goal final) (to (top z is) at.Statement) (of_export ps ++ export_end (item.Stmt x ∷ xs) ∷ of_tree (item.Stmt x ∷ xs)) []) (sym (not-true e (and_parts (not e) (once true xs) o).0))
    (export_then a ps is (export_end (item.Stmt x ∷ xs) ∷ of_tree (item.Stmt x ∷ xs)) final (and_parts (all_true (map shape.of_property ps)) (all_true (map item_fits (item.Stmt x ∷ xs))) f).0
    (export_end_stmt x (is_empty x) before (of_tree xs) final (a.stmts x) refl (and_parts (shape.of_stmt x).fits (all_true (map item_fits xs)) fits2).0
    (subst (λ (z : List Item). Reaches (goal (to (top (exported_by true xs) z) at.Statement)) (to (top true (before ++ item.Stmt x ∷ [])) at.Statement) (of_tree xs) [])
    (append_assoc before (item.Stmt x ∷ []) xs ∙ append_assoc is (item.Export ps ∷ []) (item.Stmt x ∷ xs))
    (items_read a xs (before ++ item.Stmt x ∷ []) true (and_parts (shape.of_stmt x).fits (all_true (map item_fits xs)) fits2).1 (and_parts (not e) (once true xs) o).1))))

-- ---- the whole tree

-- the pieces lead to a state in which the script may end, with this tree
pub record IsRead (tree : List Item) (ps : List Piece) : Type 0 where
  pub state : State
  pub runs : run start ps ≡ Ok state
  pub last : State
  pub finishes : finish state ≡ Ok last
  pub items : last.outer.items ≡ tree

pub complete_by : AllRead → (tree : List Item) (ps : List Piece) → IsTrue (tree_fits tree) → Fits (of_tree tree) ps → IsRead tree ps
complete_by a tree ps f fit =
    let final : State = record { outer = top (exported_by false tree) tree; at = at.Statement } in
    let h : Leads (goal (Ok final)) (Ok start) (ps ++ []) = (items_read a tree [] false (and_parts (all_true (map item_fits tree)) (nat_le (exports tree) 1) f).0
    (once_one tree (leb-true (exports tree) 1 (and_parts (all_true (map item_fits tree)) (nat_le (exports tree) 1) f).1))).reaches ps fit in
    let k : Ran (goal (Ok final)) (Ok start) ps = ran (goal (Ok final)) ps (Ok start) (leads_same (goal (Ok final)) (Ok start) ps (ps ++ []) (sym (append-nil ps)) h) in
    record { state = k.state; runs = k.runs; last = final; finishes = k.gives; items = refl }
