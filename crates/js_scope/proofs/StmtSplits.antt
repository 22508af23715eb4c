-- The tasks of statements.
use Rattle.std.proofs.Common.{◌≡◌, ℕ, ◌+◌, arith, List, [], ◌∷◌, ◌++◌, map, Option, Some, None, option_map, Result, OnOk, refl, sym, ap, ◌∙◌}
use Rattle.js_tree.specs.declared.tree.Name.{Name}
use Rattle.js_tree.specs.declared.tree.DeclareKind.{DeclareKind}
use Rattle.js_tree.specs.declared.tree.Catch.{Catch}
use Rattle.js_tree.specs.declared.tree.Declaration.{Declaration}
use Rattle.js_tree.specs.declared.tree.Expr.{Expr}
use Rattle.js_tree.specs.declared.tree.ForBegin.{ForBegin}
use Rattle.js_tree.specs.declared.tree.ForBegin.TheVariants as begin
use Rattle.js_tree.specs.declared.tree.Function.{Function}
use Rattle.js_tree.specs.declared.tree.Stmt.{Stmt}
use Rattle.js_tree.specs.declared.tree.Stmt.TheVariants as stmt
use Rattle.js_scope.specs.declared.fault.EarlyKind.TheVariants.{BreakOutside, ReturnOutside}
use Rattle.js_scope.specs.declared.task.ScopeKind.TheVariants as how
use Rattle.js_scope.specs.declared.task.Task.TheVariants as task
use Rattle.js_scope.specs.Early.{Marks, Declares, word, concat, optional, named, scope, block, loop_body, finally_of, else_of, of_begin, of_catch, of_declaration, of_expr, of_function, of_stmt}
use Rattle.js_scope.specs.Verdict.{IsSplit}
use Rattle.js_tree.specs.Weight as weight
use Rattle.js_scope.proofs.Equations as eq
use Rattle.js_tree.proofs.Weights as eqw
use Rattle.js_scope.proofs.SplitLaws.{split_then}
use Rattle.js_scope.proofs.Splits.{Tasks, as_none, as_one, as_two, as_three, on_inside}

pub else_none : (old : Tasks) (o : Option Stmt) → o ≡ None → IsSplit old (else_of (option_map of_stmt o)) (weight.optional (option_map weight.of_stmt o)) old
else_none old o e = as_none old (else_of (option_map of_stmt o)) (weight.optional (option_map weight.of_stmt o)) (ap (λ (z : Option Stmt). else_of (option_map of_stmt z)) e)

pub else_some : {T E : Type 0} (r : Result T E) (old new : Tasks) (o : Option Stmt) (x y : Stmt) → o ≡ Some x → y ≡ x → OnOk r (IsSplit old (scope (of_stmt y)) (weight.part (weight.of_stmt y)) new) → OnOk r (IsSplit old (else_of (option_map of_stmt o)) (weight.optional (option_map weight.of_stmt o)) new)
else_some r old new o x y e f a = as_one r old new (scope (of_stmt y)) (else_of (option_map of_stmt o)) (weight.part (weight.of_stmt y)) (weight.optional (option_map weight.of_stmt o)) (ap (λ (z : Option Stmt). else_of (option_map of_stmt z)) e ∙ ap (λ (z : Stmt). scope (of_stmt z)) (sym f)) (omega (arith, ap (λ (z : Option Stmt). weight.optional (option_map weight.of_stmt z)) e, ap weight.of_stmt f)) a

pub ruleset elses = (else_none, else_some)

pub name_none : (old : Tasks) (o : Option Name) → o ≡ None → IsSplit old (named o) 1 old
name_none old o e = as_none old (named o) 1 (ap named e)

pub name_some : {T E : Type 0} (r : Result T E) (old new : Tasks) (o : Option Name) (x : Name) → o ≡ Some x → OnOk r (IsSplit old (Declares x ∷ []) 1 new) → OnOk r (IsSplit old (named o) 1 new)
name_some r old new o x e a = as_one r old new (Declares x ∷ []) (named o) 1 1 (ap named e) (omega arith) a

pub ruleset names = (name_none, name_some)

pub catch_none : (old : Tasks) (o : Option Catch) → o ≡ None → IsSplit old (optional (option_map of_catch o)) (weight.optional (option_map weight.of_catch o)) old
catch_none old o e = as_none old (optional (option_map of_catch o)) (weight.optional (option_map weight.of_catch o)) (ap (λ (z : Option Catch). optional (option_map of_catch z)) e)

pub catch_some : {T E : Type 0} (r : Result T E) (old new : Tasks) (o : Option Catch) (x : Catch) → o ≡ Some x → OnOk r (IsSplit old (of_catch x) (weight.of_catch x) new) → OnOk r (IsSplit old (optional (option_map of_catch o)) (weight.optional (option_map weight.of_catch o)) new)
catch_some r old new o x e a = as_one r old new (of_catch x) (optional (option_map of_catch o)) (weight.of_catch x) (weight.optional (option_map weight.of_catch o)) (ap (λ (z : Option Catch). optional (option_map of_catch z)) e) (omega (arith, ap (λ (z : Option Catch). weight.optional (option_map weight.of_catch z)) e)) a

pub ruleset catches = (catch_none, catch_some)

pub finally_none : (old : Tasks) (o : Option (List Stmt)) → o ≡ None → IsSplit old (finally_of (option_map (map of_stmt) o)) (weight.finally_of (option_map (map weight.of_stmt) o)) old
finally_none old o e = as_none old (finally_of (option_map (map of_stmt) o)) (weight.finally_of (option_map (map weight.of_stmt) o)) (ap (λ (z : Option (List Stmt)). finally_of (option_map (map of_stmt) z)) e)

pub finally_some : {T E : Type 0} (r : Result T E) (old new : Tasks) (o : Option (List Stmt)) (x y : List Stmt) → o ≡ Some x → y ≡ x → OnOk r (IsSplit old (block (map of_stmt y)) (weight.part (weight.parts (map weight.of_stmt y))) new) → OnOk r (IsSplit old (finally_of (option_map (map of_stmt) o)) (weight.finally_of (option_map (map weight.of_stmt) o)) new)
finally_some r old new o x y e f a = as_one r old new (block (map of_stmt y)) (finally_of (option_map (map of_stmt) o)) (weight.part (weight.parts (map weight.of_stmt y))) (weight.finally_of (option_map (map weight.of_stmt) o)) (ap (λ (z : Option (List Stmt)). finally_of (option_map (map of_stmt) z)) e ∙ ap (λ (z : List Stmt). block (map of_stmt z)) (sym f)) (omega (arith, ap (λ (z : Option (List Stmt)). weight.finally_of (option_map (map weight.of_stmt) z)) e, ap (λ (z : List Stmt). weight.parts (map weight.of_stmt z)) f)) a

pub ruleset finallies = (finally_none, finally_some)

pub on_catch : {T E : Type 0} (r : Result T E) (old left mid1 mid2 new : Tasks) (c : Catch) (ss : List Stmt) → ss ≡ c.body → left ≡ task.Leave ∷ old → IsSplit left (concat (map of_stmt ss)) (1 + weight.parts (map weight.of_stmt ss)) mid1 → IsSplit mid1 (named c.name) 1 mid2 → OnOk r (new ≡ task.Enter how.Block ∷ mid2) → OnOk r (IsSplit old (of_catch c) (weight.of_catch c) new)
on_catch r old left mid1 mid2 new c ss e_s l s t e =
    as_one r old new (scope (named c.name ++ concat (map of_stmt ss))) (of_catch c) (2 + (1 + (1 + weight.parts (map weight.of_stmt ss)))) (weight.of_catch c)
    (eq.catch_marks c ∙ ap (λ (z : List Stmt). scope (named c.name ++ concat (map of_stmt z))) (sym e_s))
    (omega (arith, eqw.catch_weight c, ap (λ (z : List Stmt). weight.parts (map weight.of_stmt z)) e_s))
    (on_inside r old left mid2 new how.Block (named c.name ++ concat (map of_stmt ss)) (1 + (1 + weight.parts (map weight.of_stmt ss))) l (split_then left mid1 mid2 (concat (map of_stmt ss)) (named c.name) (1 + weight.parts (map weight.of_stmt ss)) 1 s t) e)

-- a `for` of these parts
pub on_for : {T E : Type 0} (r : Result T E) (old left mid1 mid2 mid3 mid4 new : Tasks) (b : ForBegin) (t u : Option Expr) (x : Stmt) → left ≡ task.Leave ∷ old → IsSplit left (loop_body (of_stmt x)) (weight.part (weight.of_stmt x)) mid1 → IsSplit mid1 (optional (option_map of_expr u)) (weight.optional (option_map weight.of_expr u)) mid2 → IsSplit mid2 (optional (option_map of_expr t)) (weight.optional (option_map weight.of_expr t)) mid3 → IsSplit mid3 (of_begin b) (weight.of_begin b) mid4 → OnOk r (new ≡ task.Enter how.Block ∷ mid4) → OnOk r (IsSplit old (scope (of_begin b ++ optional (option_map of_expr t) ++ optional (option_map of_expr u) ++ loop_body (of_stmt x))) (weight.part (weight.of_begin b) + weight.optional (option_map weight.of_expr t) + weight.optional (option_map weight.of_expr u) + weight.part (weight.of_stmt x)) new)
on_for r old left mid1 mid2 mid3 mid4 new b t u x l s1 s2 s3 s4 e =
    let b_marks = of_begin b in
    let t_marks = optional (option_map of_expr t) in
    let u_marks = optional (option_map of_expr u) in
    let x_marks = loop_body (of_stmt x) in
    let i_b = weight.of_begin b in
    let i_t = weight.optional (option_map weight.of_expr t) in
    let i_u = weight.optional (option_map weight.of_expr u) in
    let i_x = weight.part (weight.of_stmt x) in
    let head = split_then mid2 mid3 mid4 t_marks b_marks i_t i_b s3 s4 in
    let with_update = split_then mid1 mid2 mid4 u_marks (b_marks ++ t_marks) i_u (i_b + i_t) s2 head in
    let all = split_then left mid1 mid4 x_marks (b_marks ++ t_marks ++ u_marks) i_x (i_b + i_t + i_u) s1 with_update in
    as_one r old new (scope (b_marks ++ t_marks ++ u_marks ++ x_marks)) (scope (b_marks ++ t_marks ++ u_marks ++ x_marks)) (2 + (i_b + i_t + i_u + i_x)) (weight.part i_b + i_t + i_u + i_x) refl (omega arith)
    (on_inside r old left mid4 new how.Block (b_marks ++ t_marks ++ u_marks ++ x_marks) (i_b + i_t + i_u + i_x) l all e)

pub on_for_of : {T E : Type 0} (r : Result T E) (old left mid1 mid2 mid3 new : Tasks) (n : Name) (v : Expr) (x : Stmt) → left ≡ task.Leave ∷ old → IsSplit left (loop_body (of_stmt x)) (weight.part (weight.of_stmt x)) mid1 → IsSplit mid1 (of_expr v) (1 + weight.of_expr v) mid2 → IsSplit mid2 (Declares n ∷ []) 1 mid3 → OnOk r (new ≡ task.Enter how.Block ∷ mid3) → OnOk r (IsSplit old (scope (Declares n ∷ of_expr v ++ loop_body (of_stmt x))) (weight.part 0 + weight.part (weight.of_expr v) + weight.part (weight.of_stmt x)) new)
on_for_of r old left mid1 mid2 mid3 new n v x l s1 s2 s3 e =
    let v_marks = of_expr v in
    let x_marks = loop_body (of_stmt x) in
    let i_v = 1 + weight.of_expr v in
    let i_x = weight.part (weight.of_stmt x) in
    let head = split_then mid1 mid2 mid3 v_marks (Declares n ∷ []) i_v 1 s2 s3 in
    let all = split_then left mid1 mid3 x_marks ((Declares n ∷ []) ++ v_marks) i_x (1 + i_v) s1 head in
    as_one r old new (scope (Declares n ∷ v_marks ++ x_marks)) (scope (Declares n ∷ v_marks ++ x_marks)) (2 + (1 + i_v + i_x)) (weight.part 0 + weight.part (weight.of_expr v) + i_x) refl (omega arith)
    (on_inside r old left mid3 new how.Block (Declares n ∷ v_marks ++ x_marks) (1 + i_v + i_x) l all e)

abbrev for_marks : Marks → Option Expr → Option Expr → Stmt → Marks
for_marks b t u s = scope (b ++ optional (option_map of_expr t) ++ optional (option_map of_expr u) ++ loop_body (of_stmt s))

pub split_for : {T E : Type 0} (r : Result T E) (old new : Tasks) (x : Stmt) (b b' : ForBegin) (t u t' u' : Option Expr) (s s' : Stmt) → x ≡ stmt.For b t u s → b' ≡ b → t' ≡ t → u' ≡ u → s' ≡ s → OnOk r (IsSplit old (scope (of_begin b' ++ optional (option_map of_expr t') ++ optional (option_map of_expr u') ++ loop_body (of_stmt s'))) (weight.part (weight.of_begin b') + weight.optional (option_map weight.of_expr t') + weight.optional (option_map weight.of_expr u') + weight.part (weight.of_stmt s')) new) → OnOk r (IsSplit old (of_stmt x) (weight.of_stmt x) new)
split_for r old new x b b' t u t' u' s s' e e_b e_t e_u e_s a = as_one r old new (for_marks (of_begin b') t' u' s') (of_stmt x) (weight.part (weight.of_begin b') + weight.optional (option_map weight.of_expr t') + weight.optional (option_map weight.of_expr u') + weight.part (weight.of_stmt s')) (weight.of_stmt x)
    (ap of_stmt e ∙ eq.for_marks b t u s ∙ ap (λ (z : ForBegin). for_marks (of_begin z) t u s) (sym e_b) ∙ ap (λ (z : Option Expr). for_marks (of_begin b') z u s) (sym e_t) ∙ ap (λ (z : Option Expr). for_marks (of_begin b') t' z s) (sym e_u) ∙ ap (λ (z : Stmt). for_marks (of_begin b') t' u' z) (sym e_s))
    (omega (arith, ap weight.of_stmt e, eqw.for_weight b t u s, ap weight.of_begin e_b, ap (λ (z : Option Expr). weight.optional (option_map weight.of_expr z)) e_t, ap (λ (z : Option Expr). weight.optional (option_map weight.of_expr z)) e_u, ap weight.of_stmt e_s)) a

pub split_for_of : {T E : Type 0} (r : Result T E) (old new : Tasks) (x : Stmt) (k : DeclareKind) (n n' : Name) (v v' : Expr) (s s' : Stmt) → x ≡ stmt.ForOf k n v s → n' ≡ n → v' ≡ v → s' ≡ s → OnOk r (IsSplit old (scope (Declares n' ∷ of_expr v' ++ loop_body (of_stmt s'))) (weight.part 0 + weight.part (weight.of_expr v') + weight.part (weight.of_stmt s')) new) → OnOk r (IsSplit old (of_stmt x) (weight.of_stmt x) new)
split_for_of r old new x k n n' v v' s s' e e_n e_v e_s a = as_one r old new (scope (Declares n' ∷ of_expr v' ++ loop_body (of_stmt s'))) (of_stmt x) (weight.part 0 + weight.part (weight.of_expr v') + weight.part (weight.of_stmt s')) (weight.of_stmt x)
    (ap of_stmt e ∙ eq.for_of_marks k n v s ∙ ap (λ (z : Name). scope (Declares z ∷ of_expr v ++ loop_body (of_stmt s))) (sym e_n) ∙ ap (λ (z : Expr). scope (Declares n' ∷ of_expr z ++ loop_body (of_stmt s))) (sym e_v) ∙ ap (λ (z : Stmt). scope (Declares n' ∷ of_expr v' ++ loop_body (of_stmt z))) (sym e_s))
    (omega (arith, ap weight.of_stmt e, eqw.for_of_weight k n v s, ap weight.of_expr e_v, ap weight.of_stmt e_s)) a

pub on_if : {T E : Type 0} (r : Result T E) (old mid1 mid2 new : Tasks) (t : Expr) (b : Stmt) (o : Option Stmt) → IsSplit old (else_of (option_map of_stmt o)) (weight.optional (option_map weight.of_stmt o)) mid1 → IsSplit mid1 (scope (of_stmt b)) (weight.part (weight.of_stmt b)) mid2 → OnOk r (IsSplit mid2 (of_expr t) (1 + weight.of_expr t) new) → OnOk r (IsSplit old (of_expr t ++ scope (of_stmt b) ++ else_of (option_map of_stmt o)) (weight.part (weight.of_expr t) + weight.part (weight.of_stmt b) + weight.optional (option_map weight.of_stmt o)) new)
on_if r old mid1 mid2 new t b o s0 s1 s2 = as_three r old mid1 mid2 new (else_of (option_map of_stmt o)) (scope (of_stmt b)) (of_expr t) (of_expr t ++ scope (of_stmt b) ++ else_of (option_map of_stmt o)) (weight.optional (option_map weight.of_stmt o)) (weight.part (weight.of_stmt b)) (1 + weight.of_expr t) (weight.part (weight.of_expr t) + weight.part (weight.of_stmt b) + weight.optional (option_map weight.of_stmt o)) refl (omega arith) s0 s1 s2

pub on_try : {T E : Type 0} (r : Result T E) (old mid1 mid2 new : Tasks) (ss : List Stmt) (c : Option Catch) (f : Option (List Stmt)) → IsSplit old (finally_of (option_map (map of_stmt) f)) (weight.finally_of (option_map (map weight.of_stmt) f)) mid1 → IsSplit mid1 (optional (option_map of_catch c)) (weight.optional (option_map weight.of_catch c)) mid2 → OnOk r (IsSplit mid2 (block (map of_stmt ss)) (weight.part (weight.parts (map weight.of_stmt ss))) new) → OnOk r (IsSplit old (block (map of_stmt ss) ++ optional (option_map of_catch c) ++ finally_of (option_map (map of_stmt) f)) (weight.part (weight.parts (map weight.of_stmt ss)) + weight.optional (option_map weight.of_catch c) + weight.finally_of (option_map (map weight.of_stmt) f)) new)
on_try r old mid1 mid2 new ss c f s0 s1 s2 = as_three r old mid1 mid2 new (finally_of (option_map (map of_stmt) f)) (optional (option_map of_catch c)) (block (map of_stmt ss)) (block (map of_stmt ss) ++ optional (option_map of_catch c) ++ finally_of (option_map (map of_stmt) f)) (weight.finally_of (option_map (map weight.of_stmt) f)) (weight.optional (option_map weight.of_catch c)) (weight.part (weight.parts (map weight.of_stmt ss))) (weight.part (weight.parts (map weight.of_stmt ss)) + weight.optional (option_map weight.of_catch c) + weight.finally_of (option_map (map weight.of_stmt) f)) refl (omega arith) s0 s1 s2

pub split_nothing : (old : Tasks) (x : ForBegin) → x ≡ begin.Nothing → IsSplit old (of_begin x) (weight.of_begin x) old
split_nothing old x e = as_none old (of_begin x) (weight.of_begin x) (ap of_begin e ∙ eq.nothing_marks)

pub split_declarations : {T E : Type 0} (r : Result T E) (old new : Tasks) (x : ForBegin) (k : DeclareKind) (ds : List Declaration) (ds' : List Declaration) → x ≡ begin.Declarations k ds → ds' ≡ ds → OnOk r (IsSplit old (concat (map of_declaration ds')) (1 + weight.parts (map weight.of_declaration ds')) new) → OnOk r (IsSplit old (of_begin x) (weight.of_begin x) new)
split_declarations r old new x k ds ds' e e_ds s0 = as_one r old new (concat (map of_declaration ds')) (of_begin x) (1 + weight.parts (map weight.of_declaration ds')) (weight.of_begin x) (ap of_begin e ∙ eq.declarations_marks k ds ∙ ap (λ (z : List Declaration). concat (map of_declaration z)) (sym e_ds)) (omega (arith, ap weight.of_begin e, eqw.declarations_weight k ds, ap (λ (z : List Declaration). weight.parts (map weight.of_declaration z)) e_ds)) s0

pub split_start : {T E : Type 0} (r : Result T E) (old new : Tasks) (x : ForBegin) (v : Expr) (v' : Expr) → x ≡ begin.Start v → v' ≡ v → OnOk r (IsSplit old (of_expr v') (1 + weight.of_expr v') new) → OnOk r (IsSplit old (of_begin x) (weight.of_begin x) new)
split_start r old new x v v' e e_v s0 = as_one r old new (of_expr v') (of_begin x) (1 + weight.of_expr v') (weight.of_begin x) (ap of_begin e ∙ eq.start_marks v ∙ ap (λ (z : Expr). of_expr z) (sym e_v)) (omega (arith, ap weight.of_begin e, eqw.start_weight v, ap weight.of_expr e_v)) s0

pub split_declare : {T E : Type 0} (r : Result T E) (old new : Tasks) (x : Stmt) (k : DeclareKind) (ds : List Declaration) (ds' : List Declaration) → x ≡ stmt.Declare k ds → ds' ≡ ds → OnOk r (IsSplit old (concat (map of_declaration ds')) (1 + weight.parts (map weight.of_declaration ds')) new) → OnOk r (IsSplit old (of_stmt x) (weight.of_stmt x) new)
split_declare r old new x k ds ds' e e_ds s0 = as_one r old new (concat (map of_declaration ds')) (of_stmt x) (1 + weight.parts (map weight.of_declaration ds')) (weight.of_stmt x) (ap of_stmt e ∙ eq.declare_marks k ds ∙ ap (λ (z : List Declaration). concat (map of_declaration z)) (sym e_ds)) (omega (arith, ap weight.of_stmt e, eqw.declare_weight k ds, ap (λ (z : List Declaration). weight.parts (map weight.of_declaration z)) e_ds)) s0

pub split_declare_function : {T E : Type 0} (r : Result T E) (old mid1 new : Tasks) (x : Stmt) (n : Name) (f : Function) (n' : Name) (f' : Function) → x ≡ stmt.DeclareFunction n f → n' ≡ n → f' ≡ f → IsSplit old (of_function f') (weight.of_function f') mid1 → OnOk r (IsSplit mid1 ((Declares n' ∷ [])) 1 new) → OnOk r (IsSplit old (of_stmt x) (weight.of_stmt x) new)
split_declare_function r old mid1 new x n f n' f' e e_n e_f s0 s1 = as_two r old mid1 new (of_function f') ((Declares n' ∷ [])) (of_stmt x) (weight.of_function f') 1 (weight.of_stmt x) (ap of_stmt e ∙ eq.declare_function_marks n f ∙ ap (λ (z : Name). (Declares z ∷ []) ++ of_function f) (sym e_n) ∙ ap (λ (z : Function). (Declares n' ∷ []) ++ of_function z) (sym e_f)) (omega (arith, ap weight.of_stmt e, eqw.declare_function_weight n f, ap weight.of_function e_f)) s0 s1

pub split_block : {T E : Type 0} (r : Result T E) (old new : Tasks) (x : Stmt) (ss : List Stmt) (ss' : List Stmt) → x ≡ stmt.Block ss → ss' ≡ ss → OnOk r (IsSplit old (block (map of_stmt ss')) (weight.part (weight.parts (map weight.of_stmt ss'))) new) → OnOk r (IsSplit old (of_stmt x) (weight.of_stmt x) new)
split_block r old new x ss ss' e e_ss s0 = as_one r old new (block (map of_stmt ss')) (of_stmt x) (weight.part (weight.parts (map weight.of_stmt ss'))) (weight.of_stmt x) (ap of_stmt e ∙ eq.block_marks ss ∙ ap (λ (z : List Stmt). block (map of_stmt z)) (sym e_ss)) (omega (arith, ap weight.of_stmt e, eqw.block_weight ss, ap (λ (z : List Stmt). weight.parts (map weight.of_stmt z)) e_ss)) s0

pub split_if : {T E : Type 0} (r : Result T E) (old new : Tasks) (x : Stmt) (t : Expr) (b : Stmt) (o : Option Stmt) (t' : Expr) (b' : Stmt) (o' : Option Stmt) → x ≡ stmt.If t b o → t' ≡ t → b' ≡ b → o' ≡ o → OnOk r (IsSplit old (of_expr t' ++ scope (of_stmt b') ++ else_of (option_map of_stmt o')) (weight.part (weight.of_expr t') + weight.part (weight.of_stmt b') + weight.optional (option_map weight.of_stmt o')) new) → OnOk r (IsSplit old (of_stmt x) (weight.of_stmt x) new)
split_if r old new x t b o t' b' o' e e_t e_b e_o s0 = as_one r old new (of_expr t' ++ scope (of_stmt b') ++ else_of (option_map of_stmt o')) (of_stmt x) (weight.part (weight.of_expr t') + weight.part (weight.of_stmt b') + weight.optional (option_map weight.of_stmt o')) (weight.of_stmt x) (ap of_stmt e ∙ eq.if_marks t b o ∙ ap (λ (z : Expr). of_expr z ++ scope (of_stmt b) ++ else_of (option_map of_stmt o)) (sym e_t) ∙ ap (λ (z : Stmt). of_expr t' ++ scope (of_stmt z) ++ else_of (option_map of_stmt o)) (sym e_b) ∙ ap (λ (z : Option Stmt). of_expr t' ++ scope (of_stmt b') ++ else_of (option_map of_stmt z)) (sym e_o)) (omega (arith, ap weight.of_stmt e, eqw.if_weight t b o, ap weight.of_expr e_t, ap weight.of_stmt e_b, ap (λ (z : Option Stmt). weight.optional (option_map weight.of_stmt z)) e_o)) s0

pub split_while : {T E : Type 0} (r : Result T E) (old mid1 new : Tasks) (x : Stmt) (t : Expr) (b : Stmt) (t' : Expr) (b' : Stmt) → x ≡ stmt.While t b → t' ≡ t → b' ≡ b → IsSplit old (loop_body (of_stmt b')) (weight.part (weight.of_stmt b')) mid1 → OnOk r (IsSplit mid1 (of_expr t') (1 + weight.of_expr t') new) → OnOk r (IsSplit old (of_stmt x) (weight.of_stmt x) new)
split_while r old mid1 new x t b t' b' e e_t e_b s0 s1 = as_two r old mid1 new (loop_body (of_stmt b')) (of_expr t') (of_stmt x) (weight.part (weight.of_stmt b')) (1 + weight.of_expr t') (weight.of_stmt x) (ap of_stmt e ∙ eq.while_marks t b ∙ ap (λ (z : Expr). of_expr z ++ loop_body (of_stmt b)) (sym e_t) ∙ ap (λ (z : Stmt). of_expr t' ++ loop_body (of_stmt z)) (sym e_b)) (omega (arith, ap weight.of_stmt e, eqw.while_weight t b, ap weight.of_expr e_t, ap weight.of_stmt e_b)) s0 s1

pub split_break : {T E : Type 0} (r : Result T E) (old new : Tasks) (x : Stmt) (p : ℕ) (p' : ℕ) → x ≡ stmt.Break p → p' ≡ p → OnOk r (IsSplit old (word BreakOutside p' ∷ []) 1 new) → OnOk r (IsSplit old (of_stmt x) (weight.of_stmt x) new)
split_break r old new x p p' e e_p s0 = as_one r old new (word BreakOutside p' ∷ []) (of_stmt x) 1 (weight.of_stmt x) (ap of_stmt e ∙ eq.break_marks p ∙ ap (λ (z : ℕ). word BreakOutside z ∷ []) (sym e_p)) (omega (arith, ap weight.of_stmt e, eqw.break_weight p)) s0

pub split_continue : {T E : Type 0} (r : Result T E) (old new : Tasks) (x : Stmt) (p : ℕ) (p' : ℕ) → x ≡ stmt.Continue p → p' ≡ p → OnOk r (IsSplit old (word BreakOutside p' ∷ []) 1 new) → OnOk r (IsSplit old (of_stmt x) (weight.of_stmt x) new)
split_continue r old new x p p' e e_p s0 = as_one r old new (word BreakOutside p' ∷ []) (of_stmt x) 1 (weight.of_stmt x) (ap of_stmt e ∙ eq.continue_marks p ∙ ap (λ (z : ℕ). word BreakOutside z ∷ []) (sym e_p)) (omega (arith, ap weight.of_stmt e, eqw.continue_weight p)) s0

pub split_return : {T E : Type 0} (r : Result T E) (old mid1 new : Tasks) (x : Stmt) (p : ℕ) (v : Option Expr) (p' : ℕ) (v' : Option Expr) → x ≡ stmt.Return p v → p' ≡ p → v' ≡ v → IsSplit old (optional (option_map of_expr v')) (weight.optional (option_map weight.of_expr v')) mid1 → OnOk r (IsSplit mid1 ((word ReturnOutside p' ∷ [])) 1 new) → OnOk r (IsSplit old (of_stmt x) (weight.of_stmt x) new)
split_return r old mid1 new x p v p' v' e e_p e_v s0 s1 = as_two r old mid1 new (optional (option_map of_expr v')) ((word ReturnOutside p' ∷ [])) (of_stmt x) (weight.optional (option_map weight.of_expr v')) 1 (weight.of_stmt x) (ap of_stmt e ∙ eq.return_marks p v ∙ ap (λ (z : ℕ). (word ReturnOutside z ∷ []) ++ optional (option_map of_expr v)) (sym e_p) ∙ ap (λ (z : Option Expr). (word ReturnOutside p' ∷ []) ++ optional (option_map of_expr z)) (sym e_v)) (omega (arith, ap weight.of_stmt e, eqw.return_weight p v, ap (λ (z : Option Expr). weight.optional (option_map weight.of_expr z)) e_v)) s0 s1

pub split_throw : {T E : Type 0} (r : Result T E) (old new : Tasks) (x : Stmt) (v : Expr) (v' : Expr) → x ≡ stmt.Throw v → v' ≡ v → OnOk r (IsSplit old (of_expr v') (1 + weight.of_expr v') new) → OnOk r (IsSplit old (of_stmt x) (weight.of_stmt x) new)
split_throw r old new x v v' e e_v s0 = as_one r old new (of_expr v') (of_stmt x) (1 + weight.of_expr v') (weight.of_stmt x) (ap of_stmt e ∙ eq.throw_marks v ∙ ap (λ (z : Expr). of_expr z) (sym e_v)) (omega (arith, ap weight.of_stmt e, eqw.throw_weight v, ap weight.of_expr e_v)) s0

pub split_try : {T E : Type 0} (r : Result T E) (old new : Tasks) (x : Stmt) (ss : List Stmt) (c : Option Catch) (f : Option (List Stmt)) (ss' : List Stmt) (c' : Option Catch) (f' : Option (List Stmt)) → x ≡ stmt.Try ss c f → ss' ≡ ss → c' ≡ c → f' ≡ f → OnOk r (IsSplit old (block (map of_stmt ss') ++ optional (option_map of_catch c') ++ finally_of (option_map (map of_stmt) f')) (weight.part (weight.parts (map weight.of_stmt ss')) + weight.optional (option_map weight.of_catch c') + weight.finally_of (option_map (map weight.of_stmt) f')) new) → OnOk r (IsSplit old (of_stmt x) (weight.of_stmt x) new)
split_try r old new x ss c f ss' c' f' e e_ss e_c e_f s0 = as_one r old new (block (map of_stmt ss') ++ optional (option_map of_catch c') ++ finally_of (option_map (map of_stmt) f')) (of_stmt x) (weight.part (weight.parts (map weight.of_stmt ss')) + weight.optional (option_map weight.of_catch c') + weight.finally_of (option_map (map weight.of_stmt) f')) (weight.of_stmt x) (ap of_stmt e ∙ eq.try_marks ss c f ∙ ap (λ (z : List Stmt). block (map of_stmt z) ++ optional (option_map of_catch c) ++ finally_of (option_map (map of_stmt) f)) (sym e_ss) ∙ ap (λ (z : Option Catch). block (map of_stmt ss') ++ optional (option_map of_catch z) ++ finally_of (option_map (map of_stmt) f)) (sym e_c) ∙ ap (λ (z : Option (List Stmt)). block (map of_stmt ss') ++ optional (option_map of_catch c') ++ finally_of (option_map (map of_stmt) z)) (sym e_f)) (omega (arith, ap weight.of_stmt e, eqw.try_weight ss c f, ap (λ (z : List Stmt). weight.parts (map weight.of_stmt z)) e_ss, ap (λ (z : Option Catch). weight.optional (option_map weight.of_catch z)) e_c, ap (λ (z : Option (List Stmt)). weight.finally_of (option_map (map weight.of_stmt) z)) e_f)) s0

pub split_empty : (old : Tasks) (x : Stmt) → x ≡ stmt.Empty → IsSplit old (of_stmt x) (weight.of_stmt x) old
split_empty old x e = as_none old (of_stmt x) (weight.of_stmt x) (ap of_stmt e ∙ eq.empty_marks)

pub split_expr_stmt : {T E : Type 0} (r : Result T E) (old new : Tasks) (x : Stmt) (v : Expr) (v' : Expr) → x ≡ stmt.Expr v → v' ≡ v → OnOk r (IsSplit old (of_expr v') (1 + weight.of_expr v') new) → OnOk r (IsSplit old (of_stmt x) (weight.of_stmt x) new)
split_expr_stmt r old new x v v' e e_v s0 = as_one r old new (of_expr v') (of_stmt x) (1 + weight.of_expr v') (weight.of_stmt x) (ap of_stmt e ∙ eq.expr_stmt_marks v ∙ ap (λ (z : Expr). of_expr z) (sym e_v)) (omega (arith, ap weight.of_stmt e, eqw.expr_stmt_weight v, ap weight.of_expr e_v)) s0

pub ruleset begins = (split_nothing, split_declarations, split_start)

pub ruleset stmts = (split_declare, split_declare_function, split_block, split_if, split_while, split_break, split_continue, split_return, split_throw, split_try, split_empty, split_expr_stmt, split_for, split_for_of)
