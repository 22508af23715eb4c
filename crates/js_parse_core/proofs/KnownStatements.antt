-- What is known of each place where a statement is whole but for its end.
use Rattle.std.proofs.Common.{◌≡◌, ℕ, Bool, true, false, cond, List, [], ◌∷◌, ◌++◌, Option, Some, None, Ok, refl, sym, subst}
use Rattle.std.specs.Prelude.{◌||◌}
use Rattle.js_lex.specs.declared.token.TokenKind.TheVariants as tok
use Rattle.js_lex.specs.declared.token.Token.{Token}
use Rattle.js_tree.specs.declared.tree.Catch.{Catch}
use Rattle.js_tree.specs.declared.tree.Declaration.{Declaration, roll-Declaration}
use Rattle.js_tree.specs.declared.tree.DeclareKind.{DeclareKind}
use Rattle.js_tree.specs.declared.tree.DeclareKind.TheVariants as declare
use Rattle.js_tree.specs.declared.tree.Expr.{Expr}
use Rattle.js_tree.specs.declared.tree.Name.{Name}
use Rattle.js_tree.specs.declared.tree.Stmt.{Stmt}
use Rattle.js_tree.specs.declared.tree.Stmt.TheVariants as stmt
use Rattle.js_words.specs.declared.word.Spot.{Spot}
use Rattle.js_words.specs.declared.word.Spot.TheVariants as spot
use Rattle.js_parse_core.specs.declared.machine.At.TheVariants as at
use Rattle.js_parse_core.specs.declared.machine.Declared.{Declared}
use Rattle.js_parse_core.specs.declared.machine.Frame.TheVariants as frame
use Rattle.js_parse_core.specs.declared.machine.Outer.{Outer}
use Rattle.js_parse_core.specs.declared.machine.Purpose.TheVariants as purpose
use Rattle.js_parse_core.specs.declared.machine.Body.TheVariants as body
use Rattle.js_parse_core.specs.declared.machine.State.{State}
use Rattle.js_parse_core.specs.Begin.{begin}
use Rattle.js_parse_core.specs.Outer.{Step, because, refuse, push, to, wait, wait_body, complete, settle_in}
use Rattle.js_parse_core.specs.Statements.{end, else_behind, statement_behind, on_name_declared}
use Rattle.js_parse_core.specs.Tokens.{is_async, is_comma, is_else, is_equal, is_finally, is_of, is_semicolon, may_end, name}
use Rattle.js_parse_core.proofs.Known.{Known, begin_safe, safe_cond}
use Rattle.js_parse_core.proofs.KnownPlaces.{place}
use Rattle.js_parse_core.proofs.OpenStates.{Statements}
use Rattle.js_parse_core.proofs.Accepts.{stands}
use Rattle.js_parse_core.proofs.Says.{tk, NameSafe, NameLaw, law_begin, law_behind, law_cond}
use Rattle.js_parse_core.proofs.ValueWords.{Fits, settled, end_by, behind_safe}

abbrev then_by : Step → Outer → Expr → Stmt → Token → Step
then_by made o test s t = cond (is_else t.kind) (wait_body o (body.Else test s)) (cond (is_else t.kind) (else_behind (complete o (stmt.If test s None))) (statement_behind made t))

then_by_known : (brace : Bool) (n : State) (o : Outer) (test : Expr) (s : Stmt) → Known brace false false (then_by (Ok n) o test s)
then_by_known brace n o test s = record { here = (Some spot.StatementBegin); statement = refl; expression = refl; operand = refl; declared = refl; parameter = refl; key = refl; later = refl; on_line = λ q. (refl, refl, refl, refl, refl, refl, refl); behind = λ q. (refl, refl, refl, refl, refl, refl, refl); names = λ q l u. begin_safe _ (name q u) (is_async u); pairs = refl; law = λ q l u. law_begin true _ (name q u) (is_async u) refl; throws = refl }

pub known_after_then : (brace : Bool) (o : Outer) (test : Expr) (s : Stmt) → Fits Statements o.frames → Known brace false false (place o (at.AfterThen test s))
known_after_then brace o test s h =
    let x : (n : State) × (settle_in o o.frames (stmt.If test s None) ≡ Ok n) = settled o o.frames (stmt.If test s None) h in
    subst (λ (made : Step). Known brace false false (then_by made o test s)) (sym x.1) (then_by_known brace x.0 o test s)

abbrev catch_by : Step → Outer → List Stmt → Catch → Token → Step
catch_by made o ss c t = cond (is_finally t.kind) (to o (at.FinallyOpen ss (Some c))) (cond (is_else t.kind) (else_behind (complete o (stmt.Try ss (Some c) None))) (statement_behind made t))

catch_by_known : (brace : Bool) (n : State) (o : Outer) (ss : List Stmt) (c : Catch) → Known brace false false (catch_by (Ok n) o ss c)
catch_by_known brace n o ss c = record { here = (Some spot.StatementBegin); statement = refl; expression = refl; operand = refl; declared = refl; parameter = refl; key = refl; later = refl; on_line = λ q. (refl, refl, refl, refl, refl, refl, refl); behind = λ q. (refl, refl, refl, refl, refl, refl, refl); names = λ q l u. begin_safe _ (name q u) (is_async u); pairs = refl; law = λ q l u. law_begin true _ (name q u) (is_async u) refl; throws = refl }

pub known_after_catch : (brace : Bool) (o : Outer) (ss : List Stmt) (c : Catch) → Fits Statements o.frames → Known brace false false (place o (at.AfterCatch ss c))
known_after_catch brace o ss c h =
    let x : (n : State) × (settle_in o o.frames (stmt.Try ss (Some c) None) ≡ Ok n) = settled o o.frames (stmt.Try ss (Some c) None) h in
    subst (λ (made : Step). Known brace false false (catch_by made o ss c)) (sym x.1) (catch_by_known brace x.0 o ss c)

end_safe : (n : State) (o : Outer) (s : Stmt) (before : Option Spot) (q : ℕ) (l : Bool) (u : List ℕ) → NameSafe (end_by (Ok n) o s before None (tk q l (tok.Name u)))
end_safe n o s before q true u = behind_safe (push n.outer 0 (frame.Purpose purpose.Statement)) (because before None) (name q u) (is_async u)
end_safe n o s before q false u = (refl, tt)

end_law : (n : State) (o : Outer) (s : Stmt) (q : ℕ) (l : Bool) (u : List ℕ) → NameLaw (stands false spot.StatementBegin l (end_by (Ok n) o s None None)) (end_by (Ok n) o s None None (tk q l (tok.Name u)))
end_law n o s q true u = law_behind true (push n.outer 0 (frame.Purpose purpose.Statement)) (because None None) (name q u) (is_async u) refl
end_law n o s q false u = tt

end_by_known : (n : State) (o : Outer) (s : Stmt) → Known false false false (end_by (Ok n) o s None None)
end_by_known n o s = record { here = None; statement = refl; expression = refl; operand = refl; declared = refl; parameter = refl; key = refl; later = refl; on_line = λ q. (refl, refl, refl, refl, refl, refl, refl); behind = λ q. (refl, refl, refl, refl, refl, refl, refl); names = λ q l u. end_safe n o s None q l u; pairs = refl; law = λ q l u. end_law n o s q l u; throws = refl }

end_known : (o : Outer) (s : Stmt) → Fits Statements o.frames → Known false false false (λ t. end true o s t (because None None))
end_known o s h =
    let x : (n : State) × (settle_in o o.frames s ≡ Ok n) = settled o o.frames s h in
    subst (λ (made : Step). Known false false false (end_by made o s None None)) (sym x.1) (end_by_known x.0 o s)

pub known_jump : (o : Outer) (s : Stmt) → Fits Statements o.frames → Known false false false (place o (at.Jump s))
known_jump o s h = end_known o s h

abbrev return_by : Step → Outer → ℕ → Token → Step
return_by made o n t = cond (may_end t || is_semicolon t.kind) (end_by made o (stmt.Return n None) None (Some spot.ExpressionBegin) t) (begin (push o 0 (frame.Purpose (purpose.Return n))) t)

return_safe : (n : State) (o : Outer) (w : ℕ) (q : ℕ) (l : Bool) (u : List ℕ) → NameSafe (return_by (Ok n) o w (tk q l (tok.Name u)))
return_safe n o w q true u = behind_safe (push n.outer 0 (frame.Purpose purpose.Statement)) (because None (Some spot.ExpressionBegin)) (name q u) (is_async u)
return_safe n o w q false u = begin_safe _ (name q u) (is_async u)

return_law : (n : State) (o : Outer) (w : ℕ) (q : ℕ) (l : Bool) (u : List ℕ) → NameLaw (stands false spot.StatementBegin l (return_by (Ok n) o w)) (return_by (Ok n) o w (tk q l (tok.Name u)))
return_law n o w q true u = law_behind true (push n.outer 0 (frame.Purpose purpose.Statement)) (because None (Some spot.ExpressionBegin)) (name q u) (is_async u) refl
return_law n o w q false u = law_begin false _ (name q u) (is_async u) refl

return_by_known : (n : State) (o : Outer) (w : ℕ) → Known false false false (return_by (Ok n) o w)
return_by_known n o w = record { here = (Some spot.ExpressionBegin); statement = refl; expression = refl; operand = refl; declared = refl; parameter = refl; key = refl; later = refl; on_line = λ q. (refl, refl, refl, refl, refl, refl, refl); behind = λ q. (refl, refl, refl, refl, refl, refl, refl); names = λ q l u. return_safe n o w q l u; pairs = refl; law = λ q l u. return_law n o w q l u; throws = refl }

pub known_return : (o : Outer) (w : ℕ) → Fits Statements o.frames → Known false false false (place o (at.Return w))
known_return o w h =
    let x : (n : State) × (settle_in o o.frames (stmt.Return w None) ≡ Ok n) = settled o o.frames (stmt.Return w None) h in
    subst (λ (made : Step). Known false false false (return_by made o w)) (sym x.1) (return_by_known x.0 o w)

-- ---- a name that is declared

abbrev named_by : Step → Outer → List Declaration → Name → Token → Step
named_by made o ds n t = cond (is_equal t.kind) (wait o 0 (purpose.Initial (record { kind = declare.Let; in_for = false; declarations = ds }) n))
    (cond (is_comma t.kind) (to o (at.DeclaredName (record { kind = declare.Let; in_for = false; declarations = ds ++ roll-Declaration (record { name = n; value = None }) ∷ [] }))) (end_by made o (stmt.Declare declare.Let (ds ++ roll-Declaration (record { name = n; value = None }) ∷ [])) None None t))

named_safe : (m : State) (o : Outer) (ds : List Declaration) (n : Name) (q : ℕ) (l : Bool) (u : List ℕ) → NameSafe (named_by (Ok m) o ds n (tk q l (tok.Name u)))
named_safe m o ds n q true u = behind_safe (push m.outer 0 (frame.Purpose purpose.Statement)) (because None None) (name q u) (is_async u)
named_safe m o ds n q false u = (refl, tt)

named_law : (m : State) (o : Outer) (ds : List Declaration) (n : Name) (q : ℕ) (l : Bool) (u : List ℕ) → NameLaw (stands false spot.StatementBegin l (named_by (Ok m) o ds n)) (named_by (Ok m) o ds n (tk q l (tok.Name u)))
named_law m o ds n q true u = law_behind true (push m.outer 0 (frame.Purpose purpose.Statement)) (because None None) (name q u) (is_async u) refl
named_law m o ds n q false u = tt

named_by_known : (m : State) (o : Outer) (ds : List Declaration) (n : Name) → Known false false false (named_by (Ok m) o ds n)
named_by_known m o ds n = record { here = None; statement = refl; expression = refl; operand = refl; declared = refl; parameter = refl; key = refl; later = refl; on_line = λ q. (refl, refl, refl, refl, refl, refl, refl); behind = λ q. (refl, refl, refl, refl, refl, refl, refl); names = λ q l u. named_safe m o ds n q l u; pairs = refl; law = λ q l u. named_law m o ds n q l u; throws = refl }

known_named : (o : Outer) (k : DeclareKind) (b : Bool) (ds : List Declaration) (n : Name) → Fits Statements o.frames → Known false false false (λ t. on_name_declared true o (record { kind = k; in_for = b; declarations = ds }) n t)
known_named o declare.Let true [] n h = record { here = None; statement = refl; expression = refl; operand = refl; declared = refl; parameter = refl; key = refl; later = refl; on_line = λ q. (refl, refl, refl, refl, refl, refl, refl); behind = λ q. (refl, refl, refl, refl, refl, refl, refl); names = λ q l u. safe_cond (is_of (tok.Name u)) _ _ tt (refl, tt); pairs = refl; law = λ q l u. law_cond false (is_of (tok.Name u)) (wait o 1 (purpose.ForOf declare.Let n)) refuse refl tt; throws = refl }
known_named o declare.Let true (d ∷ ds) n h = record { here = None; statement = refl; expression = refl; operand = refl; declared = refl; parameter = refl; key = refl; later = refl; on_line = λ q. (refl, refl, refl, refl, refl, refl, refl); behind = λ q. (refl, refl, refl, refl, refl, refl, refl); names = λ q l u. (refl, tt); pairs = refl; law = λ q l u. tt; throws = refl }
known_named o declare.Let false ds n h =
    let x : (m : State) × (settle_in o o.frames (stmt.Declare declare.Let (ds ++ roll-Declaration (record { name = n; value = None }) ∷ [])) ≡ Ok m) = settled o o.frames (stmt.Declare declare.Let (ds ++ roll-Declaration (record { name = n; value = None }) ∷ [])) h in
    subst (λ (made : Step). Known false false false (named_by made o ds n)) (sym x.1) (named_by_known x.0 o ds n)
known_named o declare.Const true [] n h = record { here = None; statement = refl; expression = refl; operand = refl; declared = refl; parameter = refl; key = refl; later = refl; on_line = λ q. (refl, refl, refl, refl, refl, refl, refl); behind = λ q. (refl, refl, refl, refl, refl, refl, refl); names = λ q l u. safe_cond (is_of (tok.Name u)) _ _ tt (refl, tt); pairs = refl; law = λ q l u. law_cond false (is_of (tok.Name u)) (wait o 1 (purpose.ForOf declare.Const n)) refuse refl tt; throws = refl }
known_named o declare.Const true (d ∷ ds) n h = record { here = None; statement = refl; expression = refl; operand = refl; declared = refl; parameter = refl; key = refl; later = refl; on_line = λ q. (refl, refl, refl, refl, refl, refl, refl); behind = λ q. (refl, refl, refl, refl, refl, refl, refl); names = λ q l u. (refl, tt); pairs = refl; law = λ q l u. tt; throws = refl }
known_named o declare.Const false ds n h = record { here = None; statement = refl; expression = refl; operand = refl; declared = refl; parameter = refl; key = refl; later = refl; on_line = λ q. (refl, refl, refl, refl, refl, refl, refl); behind = λ q. (refl, refl, refl, refl, refl, refl, refl); names = λ q l u. (refl, tt); pairs = refl; law = λ q l u. tt; throws = refl }

pub known_name_declared : (o : Outer) (d : Declared) (n : Name) → Fits Statements o.frames → Known false false false (place o (at.NameDeclared d n))
known_name_declared o d n h = known_named o d.kind d.in_for d.declarations n h
