-- The tasks of lists and of what they hold.
use Rattle.std.proofs.Common.{◌≡◌, ℕ, ◌≤◌, ◌+◌, ◌-◌, arith, length, take, drop, get_or, List, [], ◌∷◌, map, Option, Some, None, option_map, Result, OnOk, refl, sym, ap, ◌∙◌}
use Rattle.std.proofs.Math.Seq.{take-length}
use Rattle.js_tree.specs.declared.tree.Name.{Name}
use Rattle.js_tree.specs.declared.tree.Key.{Key}
use Rattle.js_tree.specs.declared.tree.Declaration.{Declaration}
use Rattle.js_tree.specs.declared.tree.Expr.{Expr}
use Rattle.js_tree.specs.declared.tree.Function.{Function}
use Rattle.js_tree.specs.declared.tree.Property.{Property}
use Rattle.js_tree.specs.declared.tree.Property.TheVariants as property
use Rattle.js_tree.specs.declared.tree.Stmt.{Stmt}
use Rattle.js_tree.specs.declared.tree.TemplateItem.{TemplateItem}
use Rattle.js_scope.specs.Early.{Marks, Declares, concat, declares, optional, of_declaration, of_expr, of_function, of_property, of_stmt, of_template}
use Rattle.js_scope.specs.Verdict.{IsSplit}
use Rattle.js_tree.specs.Weight as weight
use Rattle.js_scope.proofs.Equations as eq
use Rattle.js_tree.proofs.Weights as eqw
use Rattle.js_scope.proofs.Splits.{Tasks, as_none, as_one, as_two}

none : 1 ≤ 0 → ⊥
none le = omega (arith, le)

-- a list as its first item and the others
pub cut : {A : Type 0} (xs : List A) (x : A) → 1 ≤ length xs → x ≡ get_or xs 0 x → xs ≡ x ∷ take (length xs - 1) (drop 1 xs)
cut [] x some e = absurd (none some)
cut (y ∷ ys) x some e =
    let n : length ys ≡ length (y ∷ ys) - 1 = omega arith in
    ap (λ z. z ∷ ys) (sym e) ∙ ap (λ zs. x ∷ zs) (sym (take-length ys)) ∙ ap (λ k. x ∷ take k ys) n

-- a list of what has marks and weights by some reading
module _ {A : Type 0} (of : A → Marks) (weighs : A → ℕ) where
  pub list_end : (old : Tasks) (xs : List A) → xs ≡ [] → IsSplit old (concat (map of xs)) (weight.parts (map weighs xs)) old
  list_end old xs e = as_none old (concat (map of xs)) (weight.parts (map weighs xs)) (ap (λ ys. concat (map of ys)) e)

  pub list_first : {T E : Type 0} (r : Result T E) (old mid new : Tasks) (xs : List A) (x : A) (others : List A) → xs ≡ x ∷ others → IsSplit old (concat (map of others)) (1 + weight.parts (map weighs others)) mid → OnOk r (IsSplit mid (of x) (weight.part (weighs x)) new) → OnOk r (IsSplit old (concat (map of xs)) (weight.parts (map weighs xs)) new)
  list_first r old mid new xs x others e a b = as_two r old mid new (concat (map of others)) (of x) (concat (map of xs)) (1 + weight.parts (map weighs others)) (weight.part (weighs x)) (weight.parts (map weighs xs)) (ap (λ ys. concat (map of ys)) e) (omega (arith, ap (λ ys. weight.parts (map weighs ys)) e)) a b

pub names_end : (old : Tasks) (xs : List Name) → xs ≡ [] → IsSplit old (declares xs) (weight.names xs) old
names_end old xs e = as_none old (declares xs) (weight.names xs) (ap declares e)

pub names_first : {T E : Type 0} (r : Result T E) (old mid new : Tasks) (xs : List Name) (x : Name) (others : List Name) → xs ≡ x ∷ others → IsSplit old (declares others) (1 + weight.names others) mid → OnOk r (IsSplit mid (Declares x ∷ []) 1 new) → OnOk r (IsSplit old (declares xs) (weight.names xs) new)
names_first r old mid new xs x others e a b = as_two r old mid new (declares others) (Declares x ∷ []) (declares xs) (1 + weight.names others) 1 (weight.names xs) (ap declares e) (omega (arith, ap weight.names e)) a b

pub exprs_end : (old : Tasks) (xs : List Expr) → xs ≡ [] → IsSplit old (concat (map of_expr xs)) (weight.parts (map weight.of_expr xs)) old
exprs_end = list_end of_expr weight.of_expr

pub exprs_first : {T E : Type 0} (r : Result T E) (old mid new : Tasks) (xs : List Expr) (x : Expr) (others : List Expr) → xs ≡ x ∷ others → IsSplit old (concat (map of_expr others)) (1 + weight.parts (map weight.of_expr others)) mid → OnOk r (IsSplit mid (of_expr x) (1 + weight.of_expr x) new) → OnOk r (IsSplit old (concat (map of_expr xs)) (weight.parts (map weight.of_expr xs)) new)
exprs_first r old mid new xs x others e a b = list_first of_expr weight.of_expr r old mid new xs x others e a (as_one r mid new (of_expr x) (of_expr x) (1 + weight.of_expr x) (weight.part (weight.of_expr x)) refl (omega arith) b)

pub template_end : (old : Tasks) (xs : List TemplateItem) → xs ≡ [] → IsSplit old (concat (map of_template xs)) (weight.parts (map weight.of_template xs)) old
template_end = list_end of_template weight.of_template

pub template_first : {T E : Type 0} (r : Result T E) (old mid new : Tasks) (xs : List TemplateItem) (x : TemplateItem) (others : List TemplateItem) → xs ≡ x ∷ others → IsSplit old (concat (map of_template others)) (1 + weight.parts (map weight.of_template others)) mid → OnOk r (IsSplit mid (of_expr x.value) (1 + weight.of_expr x.value) new) → OnOk r (IsSplit old (concat (map of_template xs)) (weight.parts (map weight.of_template xs)) new)
template_first r old mid new xs x others e a b = list_first of_template weight.of_template r old mid new xs x others e a (as_one r mid new (of_expr x.value) (of_template x) (1 + weight.of_expr x.value) (weight.part (weight.of_template x)) (eq.template_marks_of x) (omega (arith, eqw.template_weight_of x)) b)

pub properties_end : (old : Tasks) (xs : List Property) → xs ≡ [] → IsSplit old (concat (map of_property xs)) (weight.parts (map weight.of_property xs)) old
properties_end = list_end of_property weight.of_property

pub properties_first : {T E : Type 0} (r : Result T E) (old mid new : Tasks) (xs : List Property) (x : Property) (others : List Property) → xs ≡ x ∷ others → IsSplit old (concat (map of_property others)) (1 + weight.parts (map weight.of_property others)) mid → OnOk r (IsSplit mid (of_property x) (weight.of_property x) new) → OnOk r (IsSplit old (concat (map of_property xs)) (weight.parts (map weight.of_property xs)) new)
properties_first r old mid new xs x others e a b = list_first of_property weight.of_property r old mid new xs x others e a (as_one r mid new (of_property x) (of_property x) (weight.of_property x) (weight.part (weight.of_property x)) refl (omega arith) b)

pub declarations_end : (old : Tasks) (xs : List Declaration) → xs ≡ [] → IsSplit old (concat (map of_declaration xs)) (weight.parts (map weight.of_declaration xs)) old
declarations_end = list_end of_declaration weight.of_declaration

pub declarations_first : {T E : Type 0} (r : Result T E) (old mid new : Tasks) (xs : List Declaration) (x : Declaration) (others : List Declaration) → xs ≡ x ∷ others → IsSplit old (concat (map of_declaration others)) (1 + weight.parts (map weight.of_declaration others)) mid → OnOk r (IsSplit mid (of_declaration x) (weight.of_declaration x) new) → OnOk r (IsSplit old (concat (map of_declaration xs)) (weight.parts (map weight.of_declaration xs)) new)
declarations_first r old mid new xs x others e a b = list_first of_declaration weight.of_declaration r old mid new xs x others e a (as_one r mid new (of_declaration x) (of_declaration x) (weight.of_declaration x) (weight.part (weight.of_declaration x)) refl (omega arith) b)

pub stmts_end : (old : Tasks) (xs : List Stmt) → xs ≡ [] → IsSplit old (concat (map of_stmt xs)) (weight.parts (map weight.of_stmt xs)) old
stmts_end = list_end of_stmt weight.of_stmt

pub stmts_first : {T E : Type 0} (r : Result T E) (old mid new : Tasks) (xs : List Stmt) (x : Stmt) (others : List Stmt) → xs ≡ x ∷ others → IsSplit old (concat (map of_stmt others)) (1 + weight.parts (map weight.of_stmt others)) mid → OnOk r (IsSplit mid (of_stmt x) (1 + weight.of_stmt x) new) → OnOk r (IsSplit old (concat (map of_stmt xs)) (weight.parts (map weight.of_stmt xs)) new)
stmts_first r old mid new xs x others e a b = list_first of_stmt weight.of_stmt r old mid new xs x others e a (as_one r mid new (of_stmt x) (of_stmt x) (1 + weight.of_stmt x) (weight.part (weight.of_stmt x)) refl (omega arith) b)

pub ruleset lists = (names_end, names_first, exprs_end, exprs_first, template_end, template_first, properties_end, properties_first, declarations_end, declarations_first, stmts_end, stmts_first)

pub split_pair : {T E : Type 0} (r : Result T E) (old new : Tasks) (x : Property) (k : Key) (v : Expr) → x ≡ property.Pair k v → OnOk r (IsSplit old (of_expr v) (1 + weight.of_expr v) new) → OnOk r (IsSplit old (of_property x) (weight.of_property x) new)
split_pair r old new x k v e a = as_one r old new (of_expr v) (of_property x) (1 + weight.of_expr v) (weight.of_property x) (ap of_property e ∙ eq.pair_marks k v) (omega (arith, ap weight.of_property e, eqw.pair_weight k v)) a

pub split_short : (old : Tasks) (x : Property) (n : Name) → x ≡ property.Short n → IsSplit old (of_property x) (weight.of_property x) old
split_short old x n e = as_none old (of_property x) (weight.of_property x) (ap of_property e ∙ eq.short_marks n)

pub split_method : {T E : Type 0} (r : Result T E) (old new : Tasks) (x : Property) (k : Key) (f : Function) → x ≡ property.Method k f → OnOk r (IsSplit old (of_function f) (weight.of_function f) new) → OnOk r (IsSplit old (of_property x) (weight.of_property x) new)
split_method r old new x k f e a = as_one r old new (of_function f) (of_property x) (weight.of_function f) (weight.of_property x) (ap of_property e ∙ eq.method_marks k f) (omega (arith, ap weight.of_property e, eqw.method_weight k f)) a

pub ruleset properties = (split_pair, split_short, split_method)

pub optional_none : (old : Tasks) (o : Option Expr) → o ≡ None → IsSplit old (optional (option_map of_expr o)) (weight.optional (option_map weight.of_expr o)) old
optional_none old o e = as_none old (optional (option_map of_expr o)) (weight.optional (option_map weight.of_expr o)) (ap (λ (z : Option Expr). optional (option_map of_expr z)) e)

pub optional_some : {T E : Type 0} (r : Result T E) (old new : Tasks) (o : Option Expr) (x : Expr) → o ≡ Some x → OnOk r (IsSplit old (of_expr x) (1 + weight.of_expr x) new) → OnOk r (IsSplit old (optional (option_map of_expr o)) (weight.optional (option_map weight.of_expr o)) new)
optional_some r old new o x e a = as_one r old new (of_expr x) (optional (option_map of_expr o)) (1 + weight.of_expr x) (weight.optional (option_map weight.of_expr o)) (ap (λ (z : Option Expr). optional (option_map of_expr z)) e) (omega (arith, ap (λ (z : Option Expr). weight.optional (option_map weight.of_expr z)) e)) a

pub ruleset optionals = (optional_none, optional_some)

pub split_declaration : {T E : Type 0} (r : Result T E) (old mid new : Tasks) (d : Declaration) → IsSplit old (optional (option_map of_expr d.value)) (weight.optional (option_map weight.of_expr d.value)) mid → OnOk r (IsSplit mid (Declares d.name ∷ []) 1 new) → OnOk r (IsSplit old (of_declaration d) (weight.of_declaration d) new)
split_declaration r old mid new d a b = as_two r old mid new (optional (option_map of_expr d.value)) (Declares d.name ∷ []) (of_declaration d) (weight.optional (option_map weight.of_expr d.value)) 1 (weight.of_declaration d) (eq.declaration_marks d) (omega (arith, eqw.declaration_weight d)) a b
