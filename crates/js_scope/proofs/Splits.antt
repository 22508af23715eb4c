-- The tasks of each form.
use Rattle.std.proofs.Common.{◌≡◌, ℕ, ◌≤◌, ◌+◌, arith, Bool, List, [], ◌∷◌, ◌++◌, map, Option, Some, None, Result, Ok, Err, OnOk, refl, sym, ap, ◌∙◌, subst}
use Rattle.js_tree.specs.declared.tree.Name.{Name}
use Rattle.js_tree.specs.declared.tree.AssignOp.{AssignOp}
use Rattle.js_tree.specs.declared.tree.BinaryOp.{BinaryOp}
use Rattle.js_tree.specs.declared.tree.UnaryOp.{UnaryOp}
use Rattle.js_tree.specs.declared.tree.UpdateOp.{UpdateOp}
use Rattle.js_tree.specs.declared.tree.UpdateSide.{UpdateSide}
use Rattle.js_tree.specs.declared.tree.ArrowBody.{ArrowBody}
use Rattle.js_tree.specs.declared.tree.ArrowBody.TheVariants as arrow
use Rattle.js_tree.specs.declared.tree.Expr.{Expr}
use Rattle.js_tree.specs.declared.tree.Expr.TheVariants as expr
use Rattle.js_tree.specs.declared.tree.Function.{Function}
use Rattle.js_tree.specs.declared.tree.Property.{Property}
use Rattle.js_tree.specs.declared.tree.Stmt.{Stmt}
use Rattle.js_tree.specs.declared.tree.Target.{Target}
use Rattle.js_tree.specs.declared.tree.Target.TheVariants as target
use Rattle.js_tree.specs.declared.tree.TemplateItem.{TemplateItem}
use Rattle.js_scope.specs.declared.fault.EarlyKind.TheVariants.{AwaitOutside}
use Rattle.js_scope.specs.declared.task.ScopeKind.{ScopeKind}
use Rattle.js_scope.specs.declared.task.ScopeKind.TheVariants as how
use Rattle.js_scope.specs.declared.task.Piece.{Piece}
use Rattle.js_scope.specs.declared.task.Task.{Task}
use Rattle.js_scope.specs.declared.task.Task.TheVariants as task
use Rattle.js_scope.specs.Early.{Marks, concat, word, scope, named, declares, function_of, of_arrow, of_expr, of_function, of_property, of_stmt, of_target, of_template}
use Rattle.js_scope.specs.Verdict.{inside, piece_marks, piece_weight, IsSplit}
use Rattle.js_tree.specs.Weight as weight
use Rattle.js_scope.proofs.Equations as eq
use Rattle.js_tree.proofs.Weights as eqw
use Rattle.js_scope.proofs.SplitLaws.{split_none, split_then, split_piece, split_inside, split_as}

abbrev pub Tasks : Type 0
Tasks = List Task

pub on_ok : {T E : Type 0} {A B : Type 0} (r : Result T E) → OnOk r A → (A → B) → OnOk r B
on_ok (Ok x) a f = f a
on_ok (Err e) a f = tt

pub on_piece : {T E : Type 0} (r : Result T E) (old new : Tasks) (p : Piece) → OnOk r (new ≡ task.Piece p ∷ old) → OnOk r (IsSplit old (piece_marks p) (1 + piece_weight p) new)
on_piece r old new p a = on_ok r a (λ e. subst (IsSplit old (piece_marks p) (1 + piece_weight p)) (sym e) (split_piece old p))

pub on_inside : {T E : Type 0} (r : Result T E) (old left mid new : Tasks) (h : ScopeKind) (ms : Marks) (n : ℕ) → left ≡ task.Leave ∷ old → IsSplit left ms n mid → OnOk r (new ≡ task.Enter h ∷ mid) → OnOk r (IsSplit old (inside h ms) (2 + n) new)
on_inside r old left mid new h ms n l s a = on_ok r a (λ e. subst (IsSplit old (inside h ms) (2 + n)) (sym e) (split_inside old mid h ms n (subst (λ ts. IsSplit ts ms n mid) l s)))

on_opened : {T E : Type 0} (r : Result T E) (old left mid new : Tasks) (h : ScopeKind) (ms : Marks) (n : ℕ) → left ≡ task.Leave ∷ old → IsSplit left ms (1 + n) mid → OnOk r (new ≡ task.Enter h ∷ mid) → OnOk r (IsSplit old (inside h ms) (weight.part n) new)
on_opened r old left mid new h ms n l s a = on_ok r (on_inside r old left mid new h ms (1 + n) l s a) (λ i. split_as old new (inside h ms) (inside h ms) (2 + (1 + n)) (weight.part n) refl (omega arith) i)

pub on_block : {T E : Type 0} (r : Result T E) (old left mid new : Tasks) (h : ScopeKind) (ss : List Stmt) → left ≡ task.Leave ∷ old → IsSplit left (concat (map of_stmt ss)) (1 + weight.parts (map weight.of_stmt ss)) mid → OnOk r (new ≡ task.Enter h ∷ mid) → OnOk r (IsSplit old (inside h (concat (map of_stmt ss))) (weight.part (weight.parts (map weight.of_stmt ss))) new)
on_block r old left mid new h ss l s a = on_opened r old left mid new h (concat (map of_stmt ss)) (weight.parts (map weight.of_stmt ss)) l s a

pub on_body : {T E : Type 0} (r : Result T E) (old left mid new : Tasks) (h : ScopeKind) (x : Stmt) → left ≡ task.Leave ∷ old → IsSplit left (of_stmt x) (1 + weight.of_stmt x) mid → OnOk r (new ≡ task.Enter h ∷ mid) → OnOk r (IsSplit old (inside h (of_stmt x)) (weight.part (weight.of_stmt x)) new)
on_body r old left mid new h x l s a = on_opened r old left mid new h (of_stmt x) (weight.of_stmt x) l s a

-- a form that is seen as one of its parts, or as two of them
pub as_none : (old : Tasks) (zs : Marks) (n : ℕ) → zs ≡ [] → IsSplit old zs n old
as_none old zs n e = subst (λ ms. IsSplit old ms n old) (sym e) (split_none old n)

pub as_one : {T E : Type 0} (r : Result T E) (old new : Tasks) (xs zs : Marks) (i n : ℕ) → zs ≡ xs → i ≤ n → OnOk r (IsSplit old xs i new) → OnOk r (IsSplit old zs n new)
as_one r old new xs zs i n e le a = on_ok r a (λ s. split_as old new xs zs i n e le s)

pub as_two : {T E : Type 0} (r : Result T E) (old mid new : Tasks) (xs ys zs : Marks) (i j n : ℕ) → zs ≡ ys ++ xs → j + i ≤ n → IsSplit old xs i mid → OnOk r (IsSplit mid ys j new) → OnOk r (IsSplit old zs n new)
as_two r old mid new xs ys zs i j n e le a b = on_ok r b (λ s. split_as old new (ys ++ xs) zs (j + i) n e le (split_then old mid new xs ys i j a s))

pub as_three : {T E : Type 0} (r : Result T E) (old mid1 mid2 new : Tasks) (xs ys zs ws : Marks) (i j k n : ℕ) → ws ≡ zs ++ ys ++ xs → k + j + i ≤ n → IsSplit old xs i mid1 → IsSplit mid1 ys j mid2 → OnOk r (IsSplit mid2 zs k new) → OnOk r (IsSplit old ws n new)
as_three r old mid1 mid2 new xs ys zs ws i j k n e le a b c = as_two r old mid1 new xs (zs ++ ys) ws i (k + j) n e le a (on_ok r c (λ s. split_then mid1 mid2 new ys zs j k b s))

-- the name of a function expression shows nothing
alone : (n : Option Name) (ms : Marks) → scope (named n) ++ ms ≡ ms
alone None ms = refl
alone (Some n) ms = refl

pub on_called : {T E : Type 0} (r : Result T E) (old left mid1 mid2 new : Tasks) (a : Bool) (ps : List Name) (ms : Marks) (n : ℕ) → left ≡ task.Leave ∷ old → IsSplit left ms n mid1 → IsSplit mid1 (declares ps) (1 + weight.names ps) mid2 → OnOk r (new ≡ task.Enter (how.Function a) ∷ mid2) → OnOk r (IsSplit old (function_of a ps ms) (weight.part (weight.names ps) + n) new)
on_called r old left mid1 mid2 new a ps ms n l s t e = on_ok r (on_inside r old left mid2 new (how.Function a) (declares ps ++ ms) (1 + weight.names ps + n) l (split_then left mid1 mid2 ms (declares ps) n (1 + weight.names ps) s t) e) (λ i. split_as old new (function_of a ps ms) (function_of a ps ms) (2 + (1 + weight.names ps + n)) (weight.part (weight.names ps) + n) refl (omega arith) i)

pub on_function : {T E : Type 0} (r : Result T E) (old left mid1 mid2 new : Tasks) (f : Function) (ss : List Stmt) (ps : List Name) → ss ≡ f.body → ps ≡ f.parameters → left ≡ task.Leave ∷ old → IsSplit left (concat (map of_stmt ss)) (1 + weight.parts (map weight.of_stmt ss)) mid1 → IsSplit mid1 (declares ps) (1 + weight.names ps) mid2 → OnOk r (new ≡ task.Enter (how.Function f.is_async) ∷ mid2) → OnOk r (IsSplit old (of_function f) (weight.of_function f) new)
on_function r old left mid1 mid2 new f ss ps e_s e_p l s t e =
    as_one r old new (function_of f.is_async ps (concat (map of_stmt ss))) (of_function f) (weight.part (weight.names ps) + (1 + weight.parts (map weight.of_stmt ss))) (weight.of_function f)
    (eq.function_marks f ∙ ap (λ (z : List Name). function_of f.is_async z (concat (map of_stmt f.body))) (sym e_p) ∙ ap (λ (z : List Stmt). function_of f.is_async ps (concat (map of_stmt z))) (sym e_s))
    (omega (arith, eqw.function_weight f, ap weight.names e_p, ap (λ (z : List Stmt). weight.parts (map weight.of_stmt z)) e_s))
    (on_called r old left mid1 mid2 new f.is_async ps (concat (map of_stmt ss)) (1 + weight.parts (map weight.of_stmt ss)) l s t e)

pub on_arrow : {T E : Type 0} (r : Result T E) (old left mid1 mid2 new : Tasks) (a : Bool) (ps : List Name) (b : ArrowBody) → left ≡ task.Leave ∷ old → IsSplit left (of_arrow b) (weight.of_arrow b) mid1 → IsSplit mid1 (declares ps) (1 + weight.names ps) mid2 → OnOk r (new ≡ task.Enter (how.Function a) ∷ mid2) → OnOk r (IsSplit old (function_of a ps (of_arrow b)) (weight.part (weight.names ps) + weight.of_arrow b) new)
on_arrow r old left mid1 mid2 new a ps b l s t e = on_called r old left mid1 mid2 new a ps (of_arrow b) (weight.of_arrow b) l s t e

pub on_two : {T E : Type 0} (r : Result T E) (old mid new : Tasks) (x y : Expr) → IsSplit old (of_expr y) (1 + weight.of_expr y) mid → OnOk r (IsSplit mid (of_expr x) (1 + weight.of_expr x) new) → OnOk r (IsSplit old (of_expr x ++ of_expr y) (2 + weight.of_expr x + weight.of_expr y) new)
on_two r old mid new x y a b = as_two r old mid new (of_expr y) (of_expr x) (of_expr x ++ of_expr y) (1 + weight.of_expr y) (1 + weight.of_expr x) (2 + weight.of_expr x + weight.of_expr y) refl (omega arith) a b

pub split_variable : (old : Tasks) (x : Target) (n : Name) → x ≡ target.Variable n → IsSplit old (of_target x) (weight.of_target x) old
split_variable old x n e = as_none old (of_target x) (weight.of_target x) (ap of_target e ∙ eq.variable_marks n)

pub split_field : {T E : Type 0} (r : Result T E) (old new : Tasks) (x : Target) (o : Expr) (n : Name) (o' : Expr) → x ≡ target.Field o n → o' ≡ o → OnOk r (IsSplit old (of_expr o') (1 + weight.of_expr o') new) → OnOk r (IsSplit old (of_target x) (weight.of_target x) new)
split_field r old new x o n o' e e_o s0 = as_one r old new (of_expr o') (of_target x) (1 + weight.of_expr o') (weight.of_target x) (ap of_target e ∙ eq.field_marks o n ∙ ap (λ (z : Expr). of_expr z) (sym e_o)) (omega (arith, ap weight.of_target e, eqw.field_weight o n, ap weight.of_expr e_o)) s0

pub split_item : {T E : Type 0} (r : Result T E) (old new : Tasks) (x : Target) (o : Expr) (k : Expr) (o' : Expr) (k' : Expr) → x ≡ target.Item o k → o' ≡ o → k' ≡ k → OnOk r (IsSplit old (of_expr o' ++ of_expr k') (2 + weight.of_expr o' + weight.of_expr k') new) → OnOk r (IsSplit old (of_target x) (weight.of_target x) new)
split_item r old new x o k o' k' e e_o e_k s0 = as_one r old new (of_expr o' ++ of_expr k') (of_target x) (2 + weight.of_expr o' + weight.of_expr k') (weight.of_target x) (ap of_target e ∙ eq.item_marks o k ∙ ap (λ (z : Expr). of_expr z ++ of_expr k) (sym e_o) ∙ ap (λ (z : Expr). of_expr o' ++ of_expr z) (sym e_k)) (omega (arith, ap weight.of_target e, eqw.item_weight o k, ap weight.of_expr e_o, ap weight.of_expr e_k)) s0

pub split_statements : {T E : Type 0} (r : Result T E) (old new : Tasks) (x : ArrowBody) (ss : List Stmt) (ss' : List Stmt) → x ≡ arrow.Statements ss → ss' ≡ ss → OnOk r (IsSplit old (concat (map of_stmt ss')) (1 + weight.parts (map weight.of_stmt ss')) new) → OnOk r (IsSplit old (of_arrow x) (weight.of_arrow x) new)
split_statements r old new x ss ss' e e_ss s0 = as_one r old new (concat (map of_stmt ss')) (of_arrow x) (1 + weight.parts (map weight.of_stmt ss')) (weight.of_arrow x) (ap of_arrow e ∙ eq.statements_marks ss ∙ ap (λ (z : List Stmt). concat (map of_stmt z)) (sym e_ss)) (omega (arith, ap weight.of_arrow e, eqw.statements_weight ss, ap (λ (z : List Stmt). weight.parts (map weight.of_stmt z)) e_ss)) s0

pub split_value : {T E : Type 0} (r : Result T E) (old new : Tasks) (x : ArrowBody) (v : Expr) (v' : Expr) → x ≡ arrow.Value v → v' ≡ v → OnOk r (IsSplit old (of_expr v') (1 + weight.of_expr v') new) → OnOk r (IsSplit old (of_arrow x) (weight.of_arrow x) new)
split_value r old new x v v' e e_v s0 = as_one r old new (of_expr v') (of_arrow x) (1 + weight.of_expr v') (weight.of_arrow x) (ap of_arrow e ∙ eq.value_marks v ∙ ap (λ (z : Expr). of_expr z) (sym e_v)) (omega (arith, ap weight.of_arrow e, eqw.value_weight v, ap weight.of_expr e_v)) s0

pub split_name : (old : Tasks) (x : Expr) (n : Name) → x ≡ expr.Name n → IsSplit old (of_expr x) (weight.of_expr x) old
split_name old x n e = as_none old (of_expr x) (weight.of_expr x) (ap of_expr e ∙ eq.name_marks n)

pub split_number : (old : Tasks) (x : Expr) (n : ℕ) → x ≡ expr.Number n → IsSplit old (of_expr x) (weight.of_expr x) old
split_number old x n e = as_none old (of_expr x) (weight.of_expr x) (ap of_expr e ∙ eq.number_marks n)

pub split_text : (old : Tasks) (x : Expr) (us : List ℕ) → x ≡ expr.Text us → IsSplit old (of_expr x) (weight.of_expr x) old
split_text old x us e = as_none old (of_expr x) (weight.of_expr x) (ap of_expr e ∙ eq.text_marks us)

pub split_true : (old : Tasks) (x : Expr) → x ≡ expr.True → IsSplit old (of_expr x) (weight.of_expr x) old
split_true old x e = as_none old (of_expr x) (weight.of_expr x) (ap of_expr e ∙ eq.true_marks)

pub split_false : (old : Tasks) (x : Expr) → x ≡ expr.False → IsSplit old (of_expr x) (weight.of_expr x) old
split_false old x e = as_none old (of_expr x) (weight.of_expr x) (ap of_expr e ∙ eq.false_marks)

pub split_null : (old : Tasks) (x : Expr) → x ≡ expr.Null → IsSplit old (of_expr x) (weight.of_expr x) old
split_null old x e = as_none old (of_expr x) (weight.of_expr x) (ap of_expr e ∙ eq.null_marks)

pub split_this : (old : Tasks) (x : Expr) → x ≡ expr.This → IsSplit old (of_expr x) (weight.of_expr x) old
split_this old x e = as_none old (of_expr x) (weight.of_expr x) (ap of_expr e ∙ eq.this_marks)

pub split_template : {T E : Type 0} (r : Result T E) (old new : Tasks) (x : Expr) (is : List TemplateItem) (us : List ℕ) (is' : List TemplateItem) → x ≡ expr.Template is us → is' ≡ is → OnOk r (IsSplit old (concat (map of_template is')) (1 + weight.parts (map weight.of_template is')) new) → OnOk r (IsSplit old (of_expr x) (weight.of_expr x) new)
split_template r old new x is us is' e e_is s0 = as_one r old new (concat (map of_template is')) (of_expr x) (1 + weight.parts (map weight.of_template is')) (weight.of_expr x) (ap of_expr e ∙ eq.template_marks is us ∙ ap (λ (z : List TemplateItem). concat (map of_template z)) (sym e_is)) (omega (arith, ap weight.of_expr e, eqw.template_weight is us, ap (λ (z : List TemplateItem). weight.parts (map weight.of_template z)) e_is)) s0

pub split_array : {T E : Type 0} (r : Result T E) (old new : Tasks) (x : Expr) (es : List Expr) (es' : List Expr) → x ≡ expr.Array es → es' ≡ es → OnOk r (IsSplit old (concat (map of_expr es')) (1 + weight.parts (map weight.of_expr es')) new) → OnOk r (IsSplit old (of_expr x) (weight.of_expr x) new)
split_array r old new x es es' e e_es s0 = as_one r old new (concat (map of_expr es')) (of_expr x) (1 + weight.parts (map weight.of_expr es')) (weight.of_expr x) (ap of_expr e ∙ eq.array_marks es ∙ ap (λ (z : List Expr). concat (map of_expr z)) (sym e_es)) (omega (arith, ap weight.of_expr e, eqw.array_weight es, ap (λ (z : List Expr). weight.parts (map weight.of_expr z)) e_es)) s0

pub split_object : {T E : Type 0} (r : Result T E) (old new : Tasks) (x : Expr) (ps : List Property) (ps' : List Property) → x ≡ expr.Object ps → ps' ≡ ps → OnOk r (IsSplit old (concat (map of_property ps')) (1 + weight.parts (map weight.of_property ps')) new) → OnOk r (IsSplit old (of_expr x) (weight.of_expr x) new)
split_object r old new x ps ps' e e_ps s0 = as_one r old new (concat (map of_property ps')) (of_expr x) (1 + weight.parts (map weight.of_property ps')) (weight.of_expr x) (ap of_expr e ∙ eq.object_marks ps ∙ ap (λ (z : List Property). concat (map of_property z)) (sym e_ps)) (omega (arith, ap weight.of_expr e, eqw.object_weight ps, ap (λ (z : List Property). weight.parts (map weight.of_property z)) e_ps)) s0

pub split_function_expr : {T E : Type 0} (r : Result T E) (old new : Tasks) (x : Expr) (n : Option Name) (f : Function) (f' : Function) → x ≡ expr.Function n f → f' ≡ f → OnOk r (IsSplit old (of_function f') (weight.of_function f') new) → OnOk r (IsSplit old (of_expr x) (weight.of_expr x) new)
split_function_expr r old new x n f f' e e_f s0 = as_one r old new (of_function f') (of_expr x) (weight.of_function f') (weight.of_expr x) (ap of_expr e ∙ eq.function_expr_marks n f ∙ alone n (of_function f) ∙ ap (λ (z : Function). of_function z) (sym e_f)) (omega (arith, ap weight.of_expr e, eqw.function_expr_weight n f, ap weight.of_function e_f)) s0

pub split_group : {T E : Type 0} (r : Result T E) (old new : Tasks) (x : Expr) (v : Expr) (v' : Expr) → x ≡ expr.Group v → v' ≡ v → OnOk r (IsSplit old (of_expr v') (1 + weight.of_expr v') new) → OnOk r (IsSplit old (of_expr x) (weight.of_expr x) new)
split_group r old new x v v' e e_v s0 = as_one r old new (of_expr v') (of_expr x) (1 + weight.of_expr v') (weight.of_expr x) (ap of_expr e ∙ eq.group_marks v ∙ ap (λ (z : Expr). of_expr z) (sym e_v)) (omega (arith, ap weight.of_expr e, eqw.group_weight v, ap weight.of_expr e_v)) s0

pub split_unary : {T E : Type 0} (r : Result T E) (old new : Tasks) (x : Expr) (op : UnaryOp) (v : Expr) (v' : Expr) → x ≡ expr.Unary op v → v' ≡ v → OnOk r (IsSplit old (of_expr v') (1 + weight.of_expr v') new) → OnOk r (IsSplit old (of_expr x) (weight.of_expr x) new)
split_unary r old new x op v v' e e_v s0 = as_one r old new (of_expr v') (of_expr x) (1 + weight.of_expr v') (weight.of_expr x) (ap of_expr e ∙ eq.unary_marks op v ∙ ap (λ (z : Expr). of_expr z) (sym e_v)) (omega (arith, ap weight.of_expr e, eqw.unary_weight op v, ap weight.of_expr e_v)) s0

pub split_await : {T E : Type 0} (r : Result T E) (old mid1 new : Tasks) (x : Expr) (p : ℕ) (v : Expr) (p' : ℕ) (v' : Expr) → x ≡ expr.Await p v → p' ≡ p → v' ≡ v → IsSplit old (of_expr v') (1 + weight.of_expr v') mid1 → OnOk r (IsSplit mid1 (word AwaitOutside p' ∷ []) 1 new) → OnOk r (IsSplit old (of_expr x) (weight.of_expr x) new)
split_await r old mid1 new x p v p' v' e e_p e_v s0 s1 = as_two r old mid1 new (of_expr v') (word AwaitOutside p' ∷ []) (of_expr x) (1 + weight.of_expr v') 1 (weight.of_expr x) (ap of_expr e ∙ eq.await_marks p v ∙ ap (λ (z : ℕ). word AwaitOutside z ∷ [] ++ of_expr v) (sym e_p) ∙ ap (λ (z : Expr). word AwaitOutside p' ∷ [] ++ of_expr z) (sym e_v)) (omega (arith, ap weight.of_expr e, eqw.await_weight p v, ap weight.of_expr e_v)) s0 s1

pub split_update : {T E : Type 0} (r : Result T E) (old new : Tasks) (x : Expr) (side : UpdateSide) (op : UpdateOp) (t : Target) (t' : Target) → x ≡ expr.Update side op t → t' ≡ t → OnOk r (IsSplit old (of_target t') (weight.of_target t') new) → OnOk r (IsSplit old (of_expr x) (weight.of_expr x) new)
split_update r old new x side op t t' e e_t s0 = as_one r old new (of_target t') (of_expr x) (weight.of_target t') (weight.of_expr x) (ap of_expr e ∙ eq.update_marks side op t ∙ ap (λ (z : Target). of_target z) (sym e_t)) (omega (arith, ap weight.of_expr e, eqw.update_weight side op t, ap weight.of_target e_t)) s0

pub split_binary : {T E : Type 0} (r : Result T E) (old new : Tasks) (x : Expr) (op : BinaryOp) (l : Expr) (h : Expr) (l' : Expr) (h' : Expr) → x ≡ expr.Binary op l h → l' ≡ l → h' ≡ h → OnOk r (IsSplit old (of_expr l' ++ of_expr h') (2 + weight.of_expr l' + weight.of_expr h') new) → OnOk r (IsSplit old (of_expr x) (weight.of_expr x) new)
split_binary r old new x op l h l' h' e e_l e_h s0 = as_one r old new (of_expr l' ++ of_expr h') (of_expr x) (2 + weight.of_expr l' + weight.of_expr h') (weight.of_expr x) (ap of_expr e ∙ eq.binary_marks op l h ∙ ap (λ (z : Expr). of_expr z ++ of_expr h) (sym e_l) ∙ ap (λ (z : Expr). of_expr l' ++ of_expr z) (sym e_h)) (omega (arith, ap weight.of_expr e, eqw.binary_weight op l h, ap weight.of_expr e_l, ap weight.of_expr e_h)) s0

pub split_conditional : {T E : Type 0} (r : Result T E) (old mid new : Tasks) (x : Expr) (t : Expr) (l : Expr) (h : Expr) (t' : Expr) (l' : Expr) (h' : Expr) → x ≡ expr.Conditional t l h → t' ≡ t → l' ≡ l → h' ≡ h → IsSplit old (of_expr h') (1 + weight.of_expr h') mid → OnOk r (IsSplit mid (of_expr t' ++ of_expr l') (2 + weight.of_expr t' + weight.of_expr l') new) → OnOk r (IsSplit old (of_expr x) (weight.of_expr x) new)
split_conditional r old mid new x t l h t' l' h' e e_t e_l e_h s0 s1 = as_two r old mid new (of_expr h') (of_expr t' ++ of_expr l') (of_expr x) (1 + weight.of_expr h') (2 + weight.of_expr t' + weight.of_expr l') (weight.of_expr x) (ap of_expr e ∙ eq.conditional_marks t l h ∙ ap (λ (z : Expr). of_expr z ++ of_expr l ++ of_expr h) (sym e_t) ∙ ap (λ (z : Expr). of_expr t' ++ of_expr z ++ of_expr h) (sym e_l) ∙ ap (λ (z : Expr). of_expr t' ++ of_expr l' ++ of_expr z) (sym e_h)) (omega (arith, ap weight.of_expr e, eqw.conditional_weight t l h, ap weight.of_expr e_t, ap weight.of_expr e_l, ap weight.of_expr e_h)) s0 s1

pub split_assign : {T E : Type 0} (r : Result T E) (old mid1 new : Tasks) (x : Expr) (op : AssignOp) (t : Target) (v : Expr) (t' : Target) (v' : Expr) → x ≡ expr.Assign op t v → t' ≡ t → v' ≡ v → IsSplit old (of_expr v') (1 + weight.of_expr v') mid1 → OnOk r (IsSplit mid1 (of_target t') (weight.of_target t') new) → OnOk r (IsSplit old (of_expr x) (weight.of_expr x) new)
split_assign r old mid1 new x op t v t' v' e e_t e_v s0 s1 = as_two r old mid1 new (of_expr v') (of_target t') (of_expr x) (1 + weight.of_expr v') (weight.of_target t') (weight.of_expr x) (ap of_expr e ∙ eq.assign_marks op t v ∙ ap (λ (z : Target). of_target z ++ of_expr v) (sym e_t) ∙ ap (λ (z : Expr). of_target t' ++ of_expr z) (sym e_v)) (omega (arith, ap weight.of_expr e, eqw.assign_weight op t v, ap weight.of_target e_t, ap weight.of_expr e_v)) s0 s1

pub split_call : {T E : Type 0} (r : Result T E) (old mid1 new : Tasks) (x : Expr) (f : Expr) (es : List Expr) (f' : Expr) (es' : List Expr) → x ≡ expr.Call f es → f' ≡ f → es' ≡ es → IsSplit old (concat (map of_expr es')) (1 + weight.parts (map weight.of_expr es')) mid1 → OnOk r (IsSplit mid1 (of_expr f') (1 + weight.of_expr f') new) → OnOk r (IsSplit old (of_expr x) (weight.of_expr x) new)
split_call r old mid1 new x f es f' es' e e_f e_es s0 s1 = as_two r old mid1 new (concat (map of_expr es')) (of_expr f') (of_expr x) (1 + weight.parts (map weight.of_expr es')) (1 + weight.of_expr f') (weight.of_expr x) (ap of_expr e ∙ eq.call_marks f es ∙ ap (λ (z : Expr). of_expr z ++ concat (map of_expr es)) (sym e_f) ∙ ap (λ (z : List Expr). of_expr f' ++ concat (map of_expr z)) (sym e_es)) (omega (arith, ap weight.of_expr e, eqw.call_weight f es, ap weight.of_expr e_f, ap (λ (z : List Expr). weight.parts (map weight.of_expr z)) e_es)) s0 s1

pub split_new : {T E : Type 0} (r : Result T E) (old new : Tasks) (x : Expr) (n : Name) (es : List Expr) (es' : List Expr) → x ≡ expr.New n es → es' ≡ es → OnOk r (IsSplit old (concat (map of_expr es')) (1 + weight.parts (map weight.of_expr es')) new) → OnOk r (IsSplit old (of_expr x) (weight.of_expr x) new)
split_new r old new x n es es' e e_es s0 = as_one r old new (concat (map of_expr es')) (of_expr x) (1 + weight.parts (map weight.of_expr es')) (weight.of_expr x) (ap of_expr e ∙ eq.new_marks n es ∙ ap (λ (z : List Expr). concat (map of_expr z)) (sym e_es)) (omega (arith, ap weight.of_expr e, eqw.new_weight n es, ap (λ (z : List Expr). weight.parts (map weight.of_expr z)) e_es)) s0

pub split_member : {T E : Type 0} (r : Result T E) (old new : Tasks) (x : Expr) (o : Expr) (n : Name) (o' : Expr) → x ≡ expr.Member o n → o' ≡ o → OnOk r (IsSplit old (of_expr o') (1 + weight.of_expr o') new) → OnOk r (IsSplit old (of_expr x) (weight.of_expr x) new)
split_member r old new x o n o' e e_o s0 = as_one r old new (of_expr o') (of_expr x) (1 + weight.of_expr o') (weight.of_expr x) (ap of_expr e ∙ eq.member_marks o n ∙ ap (λ (z : Expr). of_expr z) (sym e_o)) (omega (arith, ap weight.of_expr e, eqw.member_weight o n, ap weight.of_expr e_o)) s0

pub split_index : {T E : Type 0} (r : Result T E) (old new : Tasks) (x : Expr) (o : Expr) (k : Expr) (o' : Expr) (k' : Expr) → x ≡ expr.Index o k → o' ≡ o → k' ≡ k → OnOk r (IsSplit old (of_expr o' ++ of_expr k') (2 + weight.of_expr o' + weight.of_expr k') new) → OnOk r (IsSplit old (of_expr x) (weight.of_expr x) new)
split_index r old new x o k o' k' e e_o e_k s0 = as_one r old new (of_expr o' ++ of_expr k') (of_expr x) (2 + weight.of_expr o' + weight.of_expr k') (weight.of_expr x) (ap of_expr e ∙ eq.index_marks o k ∙ ap (λ (z : Expr). of_expr z ++ of_expr k) (sym e_o) ∙ ap (λ (z : Expr). of_expr o' ++ of_expr z) (sym e_k)) (omega (arith, ap weight.of_expr e, eqw.index_weight o k, ap weight.of_expr e_o, ap weight.of_expr e_k)) s0

pub ruleset targets = (split_variable, split_field, split_item)

pub ruleset arrow_bodies = (split_statements, split_value)

pub ruleset exprs = (split_name, split_number, split_text, split_true, split_false, split_null, split_this, split_template, split_array, split_object, split_function_expr, split_group, split_unary, split_await, split_update, split_binary, split_conditional, split_assign, split_call, split_new, split_member, split_index)
