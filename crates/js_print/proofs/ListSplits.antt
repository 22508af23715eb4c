-- The tasks of lists, of what may be missing and of what lists hold.
use Rattle.std.proofs.Common.{◌≡◌, ℕ, ◌≤◌, ◌+◌, arith, Bool, List, [], ◌∷◌, ◌++◌, map, Option, option_map, Result, OnOk, Some, None, true, false, cond, ◌-◌, length, take, drop, get_or, Bor, refl, sym, ap, ◌∙◌}
use Rattle.js_lex.specs.declared.token.TokenKind.TheVariants as tok
use Rattle.js_lex.specs.declared.token.Punctuator.{Punctuator}
use Rattle.js_lex.specs.declared.token.Punctuator.TheVariants as p
use Rattle.js_lex.specs.declared.token.Reserved.{Reserved}
use Rattle.js_lex.specs.declared.token.Reserved.TheVariants as r
use Rattle.js_tree.specs.declared.tree.Name.{Name}
use Rattle.js_tree.specs.declared.tree.Key.{Key}
use Rattle.js_tree.specs.declared.tree.Key.TheVariants as keys
use Rattle.js_tree.specs.declared.tree.Item.{Item}
use Rattle.js_tree.specs.declared.tree.Item.TheVariants as item
use Rattle.js_tree.specs.declared.tree.TemplateItem.{TemplateItem}
use Rattle.js_lex.specs.declared.token.TemplatePart.TheVariants as part
use Rattle.std.proofs.Math.Seq.{take-length}
use Rattle.js_tree.specs.declared.tree.AssignOp.{AssignOp}
use Rattle.js_tree.specs.declared.tree.BinaryOp.{BinaryOp}
use Rattle.js_tree.specs.declared.tree.DeclareKind.{DeclareKind}
use Rattle.js_tree.specs.declared.tree.ArrowBody.{ArrowBody}
use Rattle.js_tree.specs.declared.tree.ArrowBody.TheVariants as arrow
use Rattle.js_tree.specs.declared.tree.Catch.{Catch, roll-Catch}
use Rattle.js_tree.specs.declared.tree.Declaration.{Declaration, roll-Declaration}
use Rattle.js_tree.specs.declared.tree.Expr.{Expr}
use Rattle.js_tree.specs.declared.tree.Expr.TheVariants as expr
use Rattle.js_tree.specs.declared.tree.ForBegin.{ForBegin}
use Rattle.js_tree.specs.declared.tree.ForBegin.TheVariants as begin
use Rattle.js_tree.specs.declared.tree.Function.{Function}
use Rattle.js_tree.specs.declared.tree.Property.{Property}
use Rattle.js_tree.specs.declared.tree.Property.TheVariants as property
use Rattle.js_tree.specs.declared.tree.Stmt.{Stmt}
use Rattle.js_tree.specs.declared.tree.Stmt.TheVariants as stmt
use Rattle.js_tree.specs.declared.tree.Target.{Target}
use Rattle.js_tree.specs.declared.tree.Target.TheVariants as target
use Rattle.js_grammar.specs.Marks.{Form, just, sign, maybe, more, listed, separated}
use Rattle.js_grammar.specs.Grammar.{WrittenPart, template, template_rest, template_mark, of_template, arrow_parameters, parameters, object, of_export, export_end, is_empty, of_tree, block, reserved_at, key, perhaps_async, name_forms, values, statements, arrow_sign, option_name, option_value, option_else, option_finally, optional, declared, declare_word, binary_sign, assign_sign, for_of_head, of_expr, of_target, of_stmt, of_property, of_declaration, of_function, of_catch, of_for, of_arrow_body}
use Rattle.js_grammar.proofs.Equations as eq
use Rattle.js_print.specs.declared.piece.Piece.{Piece}
use Rattle.js_print.specs.declared.piece.Piece.TheVariants as piece
use Rattle.js_print.specs.Printed.{first_of, plain}
use Rattle.js_print.specs.Walk.{IsSplit, kinds, caught, item_forms}
use Rattle.js_tree.specs.Weight as weight
use Rattle.js_tree.proofs.Weights as eqw
use Rattle.js_print.proofs.PlainLaws.{Kinds, plain_then, plain_enclosed, plain_body, plain_listed, plain_more}
use Rattle.js_print.proofs.NodeKinds.{Tasks, split_as, deeper_kinds, called_kinds}

none_as : (old : Tasks) (fs : List Form) (n : ℕ) → plain fs ≡ [] → IsSplit old fs n old
none_as old fs n e = record { same = ap (λ (x : Kinds). x ++ kinds old) (sym e); heavier = omega arith }

nothing_left : 1 ≤ 0 → ⊥
nothing_left le = omega (arith, le)

-- a list as its first item and the others
pub cut : {A : Type 0} (xs : List A) (x : A) → 1 ≤ length xs → x ≡ get_or xs 0 x → xs ≡ x ∷ take (length xs - 1) (drop 1 xs)
cut [] x some e = absurd (nothing_left some)
cut (y ∷ ys) x some e =
    let n : length ys ≡ length (y ∷ ys) - 1 = omega arith in
    ap (λ z. z ∷ ys) (sym e) ∙ ap (λ zs. x ∷ zs) (sym (take-length ys)) ∙ ap (λ k. x ∷ take k ys) n

-- a list of one
pub cut_one : {A : Type 0} (xs : List A) (x : A) → length xs ≡ 1 → x ≡ get_or xs 0 x → xs ≡ x ∷ []
cut_one [] x one e = absurd (nothing_left (omega (arith, one)))
cut_one (y ∷ []) x one e = ap (λ z. z ∷ []) (sym e)
cut_one (y ∷ z ∷ zs) x one e = absurd (nothing_left (omega (arith, one)))

rest_kinds : (i : TemplateItem) (is : List TemplateItem) (us : List ℕ) (ks : Kinds) → plain (template_rest (map of_template (i ∷ is)) us) ++ ks ≡ tok.Template part.Middle i.units ∷ (plain (of_expr i.value).forms ++ (plain (template_rest (map of_template is) us) ++ ks))
rest_kinds i is us ks =
    ap (λ (w : WrittenPart). tok.Template part.Middle w.units ∷ (plain (w.value ++ template_rest (map of_template is) us) ++ ks)) (eq.written_part i)
    ∙ ap (λ (x : Kinds). tok.Template part.Middle i.units ∷ x) (plain_then (of_expr i.value).forms (template_rest (map of_template is) us) ks)

template_kinds : (i : TemplateItem) (is : List TemplateItem) (us : List ℕ) (ks : Kinds) → plain (template (map of_template (i ∷ is)) us) ++ ks ≡ tok.Template part.Head i.units ∷ (plain (of_expr i.value).forms ++ (plain (template_rest (map of_template is) us) ++ ks))
template_kinds i is us ks =
    deeper_kinds 1 (template_mark part.Head (of_template i).units ∷ ((of_template i).value ++ template_rest (map of_template is) us)) ks
    ∙ ap (λ (w : WrittenPart). tok.Template part.Head w.units ∷ (plain (w.value ++ template_rest (map of_template is) us) ++ ks)) (eq.written_part i)
    ∙ ap (λ (x : Kinds). tok.Template part.Head i.units ∷ x) (plain_then (of_expr i.value).forms (template_rest (map of_template is) us) ks)

catch_parts : (n : Option Name) (ss : List Stmt) (ks : Kinds) → plain (of_catch (roll-Catch (record { name = n; body = ss }))) ++ ks ≡ tok.Reserved r.Catch ∷ (plain (caught n) ++ tok.Punctuator p.OpenBrace ∷ (plain (statements (map of_stmt ss)) ++ tok.Punctuator p.CloseBrace ∷ ks))
catch_parts None ss ks = ap (λ (fs : List Form). plain fs ++ ks) (eq.written_bare_catch ss) ∙ ap (λ (x : Kinds). tok.Reserved r.Catch ∷ x) (plain_enclosed p.OpenBrace (statements (map of_stmt ss)) p.CloseBrace ks)
catch_parts (Some n) ss ks = ap (λ (fs : List Form). plain fs ++ ks) (eq.written_catch n ss) ∙ ap (λ (x : Kinds). tok.Reserved r.Catch ∷ x) (plain_then (caught (Some n)) (block (map of_stmt ss)) ks ∙ ap (λ (x : Kinds). plain (caught (Some n)) ++ x) (plain_enclosed p.OpenBrace (statements (map of_stmt ss)) p.CloseBrace ks))

catch_kinds : (c : Catch) (ks : Kinds) → plain (of_catch c) ++ ks ≡ tok.Reserved r.Catch ∷ (plain (caught c.name) ++ tok.Punctuator p.OpenBrace ∷ (plain (statements (map of_stmt c.body)) ++ tok.Punctuator p.CloseBrace ∷ ks))
catch_kinds c ks = catch_parts c.name c.body ks

abbrev initial : Option Expr → List Form
initial None = []
initial (Some x) = just p.Equal ∷ (of_expr x).forms

declaration_parts : (n : Name) (v : Option Expr) (ks : Kinds) → plain (of_declaration (roll-Declaration (record { name = n; value = v }))) ++ ks ≡ tok.Name n.units ∷ (plain (initial v) ++ ks)
declaration_parts n None ks = ap (λ (fs : List Form). plain fs ++ ks) (eq.written_bare_declaration n)
declaration_parts n (Some v) ks = ap (λ (fs : List Form). plain fs ++ ks) (eq.written_declaration n v)

declaration_kinds : (d : Declaration) (ks : Kinds) → plain (of_declaration d) ++ ks ≡ tok.Name d.name.units ∷ (plain (initial d.value) ++ ks)
declaration_kinds d ks = declaration_parts d.name d.value ks

-- none or many names stand in parentheses
pub many_parameters : {T E : Type 0} (got : Result T E) (old new : Tasks) (ns : List Name) (n : ℕ) → OnOk got (IsSplit old (parameters ns) n new) → (length ns ≡ 1 → ⊥) → OnOk got (IsSplit old (arrow_parameters ns) n new)
many_parameters got old new [] n a many = a
many_parameters got old new (x ∷ []) n a many = absurd (many refl)
many_parameters got old new (x ∷ y ∷ ns) n a many = a

export_kinds : (xs : List Property) (ks : Kinds) → plain (item_forms (item.Export xs)) ++ ks ≡ tok.Reserved r.Export ∷ tok.Reserved r.Default ∷ tok.Punctuator p.OpenBrace ∷ (plain (listed (map of_property xs)) ++ tok.Punctuator p.CloseBrace ∷ tok.Punctuator p.Semicolon ∷ ks)
export_kinds xs ks = ap (λ (x : Kinds). tok.Reserved r.Export ∷ tok.Reserved r.Default ∷ x) (plain_then (object (map of_property xs)) (just p.Semicolon ∷ []) ks ∙ plain_enclosed p.OpenBrace (listed (map of_property xs)) p.CloseBrace (tok.Punctuator p.Semicolon ∷ ks))

end_kinds : (b : Bool) → first_of (cond b (just p.Semicolon) (maybe (sign p.Semicolon))) ≡ tok.Punctuator p.Semicolon ∷ []
end_kinds true = refl
end_kinds false = refl

-- a `;` stands behind the export whatever follows it
export_ends : (is : List Item) → first_of (export_end is) ≡ tok.Punctuator p.Semicolon ∷ []
export_ends [] = refl
export_ends (item.Stmt s ∷ is) = end_kinds (is_empty s)
export_ends (item.Export xs ∷ is) = refl

pub tree_kinds : (i : Item) (is : List Item) (ks : Kinds) → plain (of_tree (i ∷ is)) ++ ks ≡ plain (item_forms i) ++ (plain (of_tree is) ++ ks)
tree_kinds (item.Stmt s) is ks = plain_then (of_stmt s).forms (of_tree is) ks
tree_kinds (item.Export xs) is ks =
    plain_then (of_export xs) (export_end is ∷ of_tree is) ks
    ∙ ap (λ (x : Kinds). plain (of_export xs) ++ (x ++ plain (of_tree is) ++ ks)) (export_ends is)
    ∙ sym (plain_then (of_export xs) (just p.Semicolon ∷ []) (plain (of_tree is) ++ ks))

pub no_names : (old : Tasks) (xs : List Name) → xs ≡ [] → IsSplit old (listed (map name_forms xs)) (weight.names xs) old
no_names old xs e = none_as old (listed (map name_forms xs)) (weight.names xs) (ap (λ (zs : List Name). plain (listed (map name_forms zs))) e)

pub names_first : {T E : Type 0} (got : Result T E) (old new : Tasks) (b : Bor Name) (bo : Bor (List Name)) (xs : List Name) (x : Name) → OnOk got (new ≡ piece.Name b ∷ piece.Sign p.Comma ∷ piece.Names bo ∷ old) → xs ≡ x ∷ bo.now → b.now ≡ x → OnOk got (IsSplit old (listed (map name_forms xs)) (weight.names xs) new)
names_first got old new b bo xs x a e e_b =
    split_as got old new (piece.Name b ∷ piece.Sign p.Comma ∷ piece.Names bo ∷ old) (listed (map name_forms xs)) (weight.names xs) a
    (ap (λ (zs : List Name). plain (listed (map name_forms zs)) ++ kinds old) (e ∙ ap (λ (z : Name). z ∷ bo.now) (sym e_b)) ∙ plain_listed (name_forms b.now) (map name_forms bo.now) (kinds old))
    (omega (arith, ap (λ (zs : List Name). weight.names zs) (e ∙ ap (λ (z : Name). z ∷ bo.now) (sym e_b))))

pub no_exprs : (old : Tasks) (xs : List Expr) → xs ≡ [] → IsSplit old (listed (values (map of_expr xs))) (weight.parts (map weight.of_expr xs)) old
no_exprs old xs e = none_as old (listed (values (map of_expr xs))) (weight.parts (map weight.of_expr xs)) (ap (λ (zs : List Expr). plain (listed (values (map of_expr zs)))) e)

pub exprs_first : {T E : Type 0} (got : Result T E) (old new : Tasks) (b : Bor Expr) (bo : Bor (List Expr)) (xs : List Expr) (x : Expr) → OnOk got (new ≡ piece.Expr b ∷ piece.Sign p.Comma ∷ piece.Exprs bo ∷ old) → xs ≡ x ∷ bo.now → b.now ≡ x → OnOk got (IsSplit old (listed (values (map of_expr xs))) (weight.parts (map weight.of_expr xs)) new)
exprs_first got old new b bo xs x a e e_b =
    split_as got old new (piece.Expr b ∷ piece.Sign p.Comma ∷ piece.Exprs bo ∷ old) (listed (values (map of_expr xs))) (weight.parts (map weight.of_expr xs)) a
    (ap (λ (zs : List Expr). plain (listed (values (map of_expr zs))) ++ kinds old) (e ∙ ap (λ (z : Expr). z ∷ bo.now) (sym e_b)) ∙ plain_listed (of_expr b.now).forms (values (map of_expr bo.now)) (kinds old))
    (omega (arith, ap (λ (zs : List Expr). weight.parts (map weight.of_expr zs)) (e ∙ ap (λ (z : Expr). z ∷ bo.now) (sym e_b))))

pub no_properties : (old : Tasks) (xs : List Property) → xs ≡ [] → IsSplit old (listed (map of_property xs)) (weight.parts (map weight.of_property xs)) old
no_properties old xs e = none_as old (listed (map of_property xs)) (weight.parts (map weight.of_property xs)) (ap (λ (zs : List Property). plain (listed (map of_property zs))) e)

pub properties_first : {T E : Type 0} (got : Result T E) (old new : Tasks) (b : Bor Property) (bo : Bor (List Property)) (xs : List Property) (x : Property) → OnOk got (new ≡ piece.Property b ∷ piece.Sign p.Comma ∷ piece.Properties bo ∷ old) → xs ≡ x ∷ bo.now → b.now ≡ x → OnOk got (IsSplit old (listed (map of_property xs)) (weight.parts (map weight.of_property xs)) new)
properties_first got old new b bo xs x a e e_b =
    split_as got old new (piece.Property b ∷ piece.Sign p.Comma ∷ piece.Properties bo ∷ old) (listed (map of_property xs)) (weight.parts (map weight.of_property xs)) a
    (ap (λ (zs : List Property). plain (listed (map of_property zs)) ++ kinds old) (e ∙ ap (λ (z : Property). z ∷ bo.now) (sym e_b)) ∙ plain_listed (of_property b.now) (map of_property bo.now) (kinds old))
    (omega (arith, ap (λ (zs : List Property). weight.parts (map weight.of_property zs)) (e ∙ ap (λ (z : Property). z ∷ bo.now) (sym e_b))))

pub no_declarations : (old : Tasks) (xs : List Declaration) → xs ≡ [] → IsSplit old (separated (map of_declaration xs)) (weight.parts (map weight.of_declaration xs)) old
no_declarations old xs e = none_as old (separated (map of_declaration xs)) (weight.parts (map weight.of_declaration xs)) (ap (λ (zs : List Declaration). plain (separated (map of_declaration zs))) e)

pub declarations_first : {T E : Type 0} (got : Result T E) (old new : Tasks) (b : Bor Declaration) (bo : Bor (List Declaration)) (xs : List Declaration) (x : Declaration) → OnOk got (new ≡ piece.Declaration b ∷ piece.MoreDeclarations bo ∷ old) → xs ≡ x ∷ bo.now → b.now ≡ x → OnOk got (IsSplit old (separated (map of_declaration xs)) (weight.parts (map weight.of_declaration xs)) new)
declarations_first got old new b bo xs x a e e_b =
    split_as got old new (piece.Declaration b ∷ piece.MoreDeclarations bo ∷ old) (separated (map of_declaration xs)) (weight.parts (map weight.of_declaration xs)) a
    (ap (λ (zs : List Declaration). plain (separated (map of_declaration zs)) ++ kinds old) (e ∙ ap (λ (z : Declaration). z ∷ bo.now) (sym e_b)) ∙ plain_then (of_declaration b.now) (more (map of_declaration bo.now)) (kinds old))
    (omega (arith, ap (λ (zs : List Declaration). weight.parts (map weight.of_declaration zs)) (e ∙ ap (λ (z : Declaration). z ∷ bo.now) (sym e_b))))

pub no_more : (old : Tasks) (xs : List Declaration) → xs ≡ [] → IsSplit old (more (map of_declaration xs)) (weight.parts (map weight.of_declaration xs)) old
no_more old xs e = none_as old (more (map of_declaration xs)) (weight.parts (map weight.of_declaration xs)) (ap (λ (zs : List Declaration). plain (more (map of_declaration zs))) e)

pub more_first : {T E : Type 0} (got : Result T E) (old new : Tasks) (b : Bor Declaration) (bo : Bor (List Declaration)) (xs : List Declaration) (x : Declaration) → OnOk got (new ≡ piece.Sign p.Comma ∷ piece.Declaration b ∷ piece.MoreDeclarations bo ∷ old) → xs ≡ x ∷ bo.now → b.now ≡ x → OnOk got (IsSplit old (more (map of_declaration xs)) (weight.parts (map weight.of_declaration xs)) new)
more_first got old new b bo xs x a e e_b =
    split_as got old new (piece.Sign p.Comma ∷ piece.Declaration b ∷ piece.MoreDeclarations bo ∷ old) (more (map of_declaration xs)) (weight.parts (map weight.of_declaration xs)) a
    (ap (λ (zs : List Declaration). plain (more (map of_declaration zs)) ++ kinds old) (e ∙ ap (λ (z : Declaration). z ∷ bo.now) (sym e_b)) ∙ plain_more (of_declaration b.now) (map of_declaration bo.now) (kinds old))
    (omega (arith, ap (λ (zs : List Declaration). weight.parts (map weight.of_declaration zs)) (e ∙ ap (λ (z : Declaration). z ∷ bo.now) (sym e_b))))

pub no_stmts : (old : Tasks) (xs : List Stmt) → xs ≡ [] → IsSplit old (statements (map of_stmt xs)) (weight.parts (map weight.of_stmt xs)) old
no_stmts old xs e = none_as old (statements (map of_stmt xs)) (weight.parts (map weight.of_stmt xs)) (ap (λ (zs : List Stmt). plain (statements (map of_stmt zs))) e)

pub stmts_first : {T E : Type 0} (got : Result T E) (old new : Tasks) (b : Bor Stmt) (bo : Bor (List Stmt)) (xs : List Stmt) (x : Stmt) → OnOk got (new ≡ piece.Stmt b ∷ piece.Stmts bo ∷ old) → xs ≡ x ∷ bo.now → b.now ≡ x → OnOk got (IsSplit old (statements (map of_stmt xs)) (weight.parts (map weight.of_stmt xs)) new)
stmts_first got old new b bo xs x a e e_b =
    split_as got old new (piece.Stmt b ∷ piece.Stmts bo ∷ old) (statements (map of_stmt xs)) (weight.parts (map weight.of_stmt xs)) a
    (ap (λ (zs : List Stmt). plain (statements (map of_stmt zs)) ++ kinds old) (e ∙ ap (λ (z : Stmt). z ∷ bo.now) (sym e_b)) ∙ plain_then (of_stmt b.now).forms (statements (map of_stmt bo.now)) (kinds old))
    (omega (arith, ap (λ (zs : List Stmt). weight.parts (map weight.of_stmt zs)) (e ∙ ap (λ (z : Stmt). z ∷ bo.now) (sym e_b))))

pub rest_tail : {T E : Type 0} (got : Result T E) (old new : Tasks) (b : Bor (List ℕ)) (is : List TemplateItem) (us : List ℕ) → OnOk got (new ≡ piece.Part part.Tail b ∷ old) → is ≡ [] → b.now ≡ us → OnOk got (IsSplit old (template_rest (map of_template is) us) (2 + weight.parts (map weight.of_template is)) new)
rest_tail got old new b is us a e e_b =
    split_as got old new (piece.Part part.Tail b ∷ old) (template_rest (map of_template is) us) (2 + weight.parts (map weight.of_template is)) a
    (ap (λ (zs : List TemplateItem). plain (template_rest (map of_template zs) us) ++ kinds old) e ∙ ap (λ (z : List ℕ). tok.Template part.Tail z ∷ kinds old) (sym e_b))
    (omega (arith))

pub rest_first : {T E : Type 0} (got : Result T E) (old new : Tasks) (b : Bor (List ℕ)) (b2 : Bor Expr) (bo : Bor (List TemplateItem)) (bl : Bor (List ℕ)) (is : List TemplateItem) (us : List ℕ) (i : TemplateItem) → OnOk got (new ≡ piece.Part part.Middle b ∷ piece.Expr b2 ∷ piece.TemplateRest bo bl ∷ old) → is ≡ i ∷ bo.now → b.now ≡ i.units → b2.now ≡ i.value → bl.now ≡ us → OnOk got (IsSplit old (template_rest (map of_template is) us) (2 + weight.parts (map weight.of_template is)) new)
rest_first got old new b b2 bo bl is us i a e e_b e_b2 e_l =
    split_as got old new (piece.Part part.Middle b ∷ piece.Expr b2 ∷ piece.TemplateRest bo bl ∷ old) (template_rest (map of_template is) us) (2 + weight.parts (map weight.of_template is)) a
    (ap (λ (zs : List TemplateItem). plain (template_rest (map of_template zs) us) ++ kinds old) e ∙ rest_kinds i bo.now us (kinds old) ∙ ap (λ (z : List ℕ). tok.Template part.Middle z ∷ (plain (of_expr i.value).forms ++ (plain (template_rest (map of_template bo.now) us) ++ kinds old))) (sym e_b) ∙ ap (λ (z : Expr). tok.Template part.Middle b.now ∷ (plain (of_expr z).forms ++ (plain (template_rest (map of_template bo.now) us) ++ kinds old))) (sym e_b2) ∙ ap (λ (z : List ℕ). tok.Template part.Middle b.now ∷ (plain (of_expr b2.now).forms ++ (plain (template_rest (map of_template bo.now) z) ++ kinds old))) (sym e_l))
    (omega (arith, ap (λ (zs : List TemplateItem). weight.parts (map weight.of_template zs)) e, eqw.template_weight_of i, ap weight.of_expr e_b2))

pub template_whole : {T E : Type 0} (got : Result T E) (old new : Tasks) (b : Bor (List ℕ)) (is : List TemplateItem) (us : List ℕ) → OnOk got (new ≡ piece.Part part.Whole b ∷ old) → is ≡ [] → b.now ≡ us → OnOk got (IsSplit old (template (map of_template is) us) (weight.node (weight.part (weight.parts (map weight.of_template is)))) new)
template_whole got old new b is us a e e_b =
    split_as got old new (piece.Part part.Whole b ∷ old) (template (map of_template is) us) (weight.node (weight.part (weight.parts (map weight.of_template is)))) a
    (ap (λ (zs : List TemplateItem). plain (template (map of_template zs) us) ++ kinds old) e ∙ ap (λ (z : List ℕ). tok.Template part.Whole z ∷ kinds old) (sym e_b))
    (omega (arith))

pub template_head : {T E : Type 0} (got : Result T E) (old new : Tasks) (b : Bor (List ℕ)) (b2 : Bor Expr) (bo : Bor (List TemplateItem)) (bl : Bor (List ℕ)) (is : List TemplateItem) (us : List ℕ) (i : TemplateItem) → OnOk got (new ≡ piece.Part part.Head b ∷ piece.Expr b2 ∷ piece.TemplateRest bo bl ∷ old) → is ≡ i ∷ bo.now → b.now ≡ i.units → b2.now ≡ i.value → bl.now ≡ us → OnOk got (IsSplit old (template (map of_template is) us) (weight.node (weight.part (weight.parts (map weight.of_template is)))) new)
template_head got old new b b2 bo bl is us i a e e_b e_b2 e_l =
    split_as got old new (piece.Part part.Head b ∷ piece.Expr b2 ∷ piece.TemplateRest bo bl ∷ old) (template (map of_template is) us) (weight.node (weight.part (weight.parts (map weight.of_template is)))) a
    (ap (λ (zs : List TemplateItem). plain (template (map of_template zs) us) ++ kinds old) e ∙ template_kinds i bo.now us (kinds old) ∙ ap (λ (z : List ℕ). tok.Template part.Head z ∷ (plain (of_expr i.value).forms ++ (plain (template_rest (map of_template bo.now) us) ++ kinds old))) (sym e_b) ∙ ap (λ (z : Expr). tok.Template part.Head b.now ∷ (plain (of_expr z).forms ++ (plain (template_rest (map of_template bo.now) us) ++ kinds old))) (sym e_b2) ∙ ap (λ (z : List ℕ). tok.Template part.Head b.now ∷ (plain (of_expr b2.now).forms ++ (plain (template_rest (map of_template bo.now) z) ++ kinds old))) (sym e_l))
    (omega (arith, ap (λ (zs : List TemplateItem). weight.parts (map weight.of_template zs)) e, eqw.template_weight_of i, ap weight.of_expr e_b2))

pub async_word : {T E : Type 0} (got : Result T E) (old new : Tasks) (b : Bor (List ℕ)) (x : Bool) → OnOk got (new ≡ piece.Plain b ∷ old) → x ≡ true → b.now ≡ 97 ∷ 115 ∷ 121 ∷ 110 ∷ 99 ∷ [] → OnOk got (IsSplit old (perhaps_async x []) 2 new)
async_word got old new b x a e e_b =
    split_as got old new (piece.Plain b ∷ old) (perhaps_async x []) 2 a
    (ap (λ (z : Bool). plain (perhaps_async z []) ++ kinds old) e ∙ ap (λ (z : List ℕ). tok.Name z ∷ kinds old) (sym e_b))
    (omega arith)

pub no_async : (old : Tasks) (x : Bool) → x ≡ false → IsSplit old (perhaps_async x []) (2) old
no_async old x e = none_as old (perhaps_async x []) (2) (ap (λ (z : Bool). plain (perhaps_async z [])) e)

pub key_name : {T E : Type 0} (got : Result T E) (old new : Tasks) (b : Bor Name) (k : Key) (n : Name) → OnOk got (new ≡ piece.Name b ∷ old) → k ≡ keys.Name n → b.now ≡ n → OnOk got (IsSplit old (key k ∷ []) (2) new)
key_name got old new b k n a e e_b =
    split_as got old new (piece.Name b ∷ old) (key k ∷ []) (2) a
    (ap (λ (z : Key). plain (key z ∷ []) ++ kinds old) (e ∙ ap keys.Name (sym e_b)))
    (omega (arith))

pub key_text : {T E : Type 0} (got : Result T E) (old new : Tasks) (b : Bor (List ℕ)) (k : Key) (n : List ℕ) → OnOk got (new ≡ piece.Text b ∷ old) → k ≡ keys.Text n → b.now ≡ n → OnOk got (IsSplit old (key k ∷ []) (2) new)
key_text got old new b k n a e e_b =
    split_as got old new (piece.Text b ∷ old) (key k ∷ []) (2) a
    (ap (λ (z : Key). plain (key z ∷ []) ++ kinds old) (e ∙ ap keys.Text (sym e_b)))
    (omega (arith))

pub key_number : {T E : Type 0} (got : Result T E) (old new : Tasks) (k : Key) (n : ℕ) → OnOk got (new ≡ piece.Number n ∷ old) → k ≡ keys.Number n → OnOk got (IsSplit old (key k ∷ []) (2) new)
key_number got old new k n a e =
    split_as got old new (piece.Number n ∷ old) (key k ∷ []) (2) a
    (ap (λ (z : Key). plain (key z ∷ []) ++ kinds old) e)
    (omega (arith))

pub no_name : (old : Tasks) (o : Option Name) → o ≡ None → IsSplit old (option_name o) (2) old
no_name old o e = none_as old (option_name o) (2) (ap (λ (z : Option Name). plain (option_name z)) e)

pub some_name : {T E : Type 0} (got : Result T E) (old new : Tasks) (b : Bor Name) (o : Option Name) (n : Name) → OnOk got (new ≡ piece.Name b ∷ old) → o ≡ Some n → b.now ≡ n → OnOk got (IsSplit old (option_name o) (2) new)
some_name got old new b o n a e e_b =
    split_as got old new (piece.Name b ∷ old) (option_name o) (2) a
    (ap (λ (z : Option Name). plain (option_name z) ++ kinds old) (e ∙ ap Some (sym e_b)))
    (omega (arith))

pub no_caught : (old : Tasks) (o : Option Name) → o ≡ None → IsSplit old (caught o) (4) old
no_caught old o e = none_as old (caught o) (4) (ap (λ (z : Option Name). plain (caught z)) e)

pub some_caught : {T E : Type 0} (got : Result T E) (old new : Tasks) (b : Bor Name) (o : Option Name) (n : Name) → OnOk got (new ≡ piece.Sign p.OpenParen ∷ piece.Name b ∷ piece.Sign p.CloseParen ∷ old) → o ≡ Some n → b.now ≡ n → OnOk got (IsSplit old (caught o) (4) new)
some_caught got old new b o n a e e_b =
    split_as got old new (piece.Sign p.OpenParen ∷ piece.Name b ∷ piece.Sign p.CloseParen ∷ old) (caught o) (4) a
    (ap (λ (z : Option Name). plain (caught z) ++ kinds old) (e ∙ ap Some (sym e_b)))
    (omega (arith))

pub no_expr : (old : Tasks) (o : Option Expr) → o ≡ None → IsSplit old (option_value (option_map of_expr o)) (weight.optional (option_map weight.of_expr o)) old
no_expr old o e = none_as old (option_value (option_map of_expr o)) (weight.optional (option_map weight.of_expr o)) (ap (λ (z : Option Expr). plain (option_value (option_map of_expr z))) e)

pub some_expr : {T E : Type 0} (got : Result T E) (old new : Tasks) (b : Bor Expr) (o : Option Expr) (x : Expr) → OnOk got (new ≡ piece.Expr b ∷ old) → o ≡ Some x → b.now ≡ x → OnOk got (IsSplit old (option_value (option_map of_expr o)) (weight.optional (option_map weight.of_expr o)) new)
some_expr got old new b o x a e e_b =
    split_as got old new (piece.Expr b ∷ old) (option_value (option_map of_expr o)) (weight.optional (option_map weight.of_expr o)) a
    (ap (λ (z : Option Expr). plain (option_value (option_map of_expr z)) ++ kinds old) e ∙ ap (λ (z : Expr). plain (of_expr z).forms ++ kinds old) (sym e_b))
    (omega (arith, ap (λ (z : Option Expr). weight.optional (option_map weight.of_expr z)) e, ap weight.of_expr e_b))

pub no_else : (old : Tasks) (o : Option Stmt) → o ≡ None → IsSplit old (option_else (option_map of_stmt o)) (weight.optional (option_map weight.of_stmt o)) old
no_else old o e = none_as old (option_else (option_map of_stmt o)) (weight.optional (option_map weight.of_stmt o)) (ap (λ (z : Option Stmt). plain (option_else (option_map of_stmt z))) e)

pub some_else : {T E : Type 0} (got : Result T E) (old new : Tasks) (b : Bor Stmt) (o : Option Stmt) (x : Stmt) → OnOk got (new ≡ piece.Word r.Else ∷ piece.Stmt b ∷ old) → o ≡ Some x → b.now ≡ x → OnOk got (IsSplit old (option_else (option_map of_stmt o)) (weight.optional (option_map weight.of_stmt o)) new)
some_else got old new b o x a e e_b =
    split_as got old new (piece.Word r.Else ∷ piece.Stmt b ∷ old) (option_else (option_map of_stmt o)) (weight.optional (option_map weight.of_stmt o)) a
    (ap (λ (z : Option Stmt). plain (option_else (option_map of_stmt z)) ++ kinds old) e ∙ ap (λ (z : Kinds). tok.Reserved r.Else ∷ (z ++ kinds old)) (plain_body (of_stmt x)) ∙ ap (λ (z : Stmt). tok.Reserved r.Else ∷ (plain (of_stmt z).forms ++ kinds old)) (sym e_b))
    (omega (arith, ap (λ (z : Option Stmt). weight.optional (option_map weight.of_stmt z)) e, ap weight.of_stmt e_b))

pub no_finally : (old : Tasks) (o : Option (List Stmt)) → o ≡ None → IsSplit old (option_finally (option_map (map of_stmt) o)) (4 + weight.finally_of (option_map (map weight.of_stmt) o)) old
no_finally old o e = none_as old (option_finally (option_map (map of_stmt) o)) (4 + weight.finally_of (option_map (map weight.of_stmt) o)) (ap (λ (z : Option (List Stmt)). plain (option_finally (option_map (map of_stmt) z))) e)

pub some_finally : {T E : Type 0} (got : Result T E) (old new : Tasks) (b : Bor (List Stmt)) (o : Option (List Stmt)) (x : List Stmt) → OnOk got (new ≡ piece.Word r.Finally ∷ piece.Sign p.OpenBrace ∷ piece.Stmts b ∷ piece.Sign p.CloseBrace ∷ old) → o ≡ Some x → b.now ≡ x → OnOk got (IsSplit old (option_finally (option_map (map of_stmt) o)) (4 + weight.finally_of (option_map (map weight.of_stmt) o)) new)
some_finally got old new b o x a e e_b =
    split_as got old new (piece.Word r.Finally ∷ piece.Sign p.OpenBrace ∷ piece.Stmts b ∷ piece.Sign p.CloseBrace ∷ old) (option_finally (option_map (map of_stmt) o)) (4 + weight.finally_of (option_map (map weight.of_stmt) o)) a
    (ap (λ (z : Option (List Stmt)). plain (option_finally (option_map (map of_stmt) z)) ++ kinds old) e ∙ ap (λ (z : Kinds). tok.Reserved r.Finally ∷ z) (plain_enclosed p.OpenBrace (statements (map of_stmt x)) p.CloseBrace (kinds old)) ∙ ap (λ (z : List Stmt). tok.Reserved r.Finally ∷ tok.Punctuator p.OpenBrace ∷ (plain (statements (map of_stmt z)) ++ tok.Punctuator p.CloseBrace ∷ kinds old)) (sym e_b))
    (omega (arith, ap (λ (z : Option (List Stmt)). 4 + weight.finally_of (option_map (map weight.of_stmt) z)) e, ap (λ (z : List Stmt). weight.parts (map weight.of_stmt z)) e_b))

pub no_catch : (old : Tasks) (o : Option Catch) → o ≡ None → IsSplit old (optional (option_map of_catch o)) (weight.optional (option_map weight.of_catch o)) old
no_catch old o e = none_as old (optional (option_map of_catch o)) (weight.optional (option_map weight.of_catch o)) (ap (λ (z : Option Catch). plain (optional (option_map of_catch z))) e)

pub some_catch : {T E : Type 0} (got : Result T E) (old new : Tasks) (b : Bor (Option Name)) (b2 : Bor (List Stmt)) (o : Option Catch) (x : Catch) → OnOk got (new ≡ piece.Word r.Catch ∷ piece.CatchName b ∷ piece.Sign p.OpenBrace ∷ piece.Stmts b2 ∷ piece.Sign p.CloseBrace ∷ old) → o ≡ Some x → b.now ≡ x.name → b2.now ≡ x.body → OnOk got (IsSplit old (optional (option_map of_catch o)) (weight.optional (option_map weight.of_catch o)) new)
some_catch got old new b b2 o x a e e_b e_b2 =
    split_as got old new (piece.Word r.Catch ∷ piece.CatchName b ∷ piece.Sign p.OpenBrace ∷ piece.Stmts b2 ∷ piece.Sign p.CloseBrace ∷ old) (optional (option_map of_catch o)) (weight.optional (option_map weight.of_catch o)) a
    (ap (λ (z : Option Catch). plain (optional (option_map of_catch z)) ++ kinds old) e ∙ catch_kinds x (kinds old) ∙ ap (λ (z : Option Name). tok.Reserved r.Catch ∷ (plain (caught z) ++ tok.Punctuator p.OpenBrace ∷ (plain (statements (map of_stmt x.body)) ++ tok.Punctuator p.CloseBrace ∷ kinds old))) (sym e_b) ∙ ap (λ (z : List Stmt). tok.Reserved r.Catch ∷ (plain (caught b.now) ++ tok.Punctuator p.OpenBrace ∷ (plain (statements (map of_stmt z)) ++ tok.Punctuator p.CloseBrace ∷ kinds old))) (sym e_b2))
    (omega (arith, ap (λ (z : Option Catch). weight.optional (option_map weight.of_catch z)) e, eqw.catch_weight x, ap (λ (z : List Stmt). weight.parts (map weight.of_stmt z)) e_b2))

pub bare_declaration : {T E : Type 0} (got : Result T E) (old new : Tasks) (b : Bor Name) (d : Declaration) → OnOk got (new ≡ piece.Name b ∷ old) → d.value ≡ None → b.now ≡ d.name → OnOk got (IsSplit old (of_declaration d) (weight.of_declaration d) new)
bare_declaration got old new b d a e e_b =
    split_as got old new (piece.Name b ∷ old) (of_declaration d) (weight.of_declaration d) a
    (declaration_kinds d (kinds old) ∙ ap (λ (z : Option Expr). tok.Name d.name.units ∷ (plain (initial z) ++ kinds old)) e ∙ ap (λ (z : Name). tok.Name z.units ∷ kinds old) (sym e_b))
    (omega (arith, eqw.declaration_weight d))

pub declaration_value : {T E : Type 0} (got : Result T E) (old new : Tasks) (b : Bor Name) (b2 : Bor Expr) (d : Declaration) (v : Expr) → OnOk got (new ≡ piece.Name b ∷ piece.Sign p.Equal ∷ piece.Expr b2 ∷ old) → d.value ≡ Some v → b.now ≡ d.name → b2.now ≡ v → OnOk got (IsSplit old (of_declaration d) (weight.of_declaration d) new)
declaration_value got old new b b2 d v a e e_b e_b2 =
    split_as got old new (piece.Name b ∷ piece.Sign p.Equal ∷ piece.Expr b2 ∷ old) (of_declaration d) (weight.of_declaration d) a
    (declaration_kinds d (kinds old) ∙ ap (λ (z : Option Expr). tok.Name d.name.units ∷ (plain (initial z) ++ kinds old)) (e ∙ ap Some (sym e_b2)) ∙ ap (λ (z : Name). tok.Name z.units ∷ tok.Punctuator p.Equal ∷ (plain (of_expr b2.now).forms ++ kinds old)) (sym e_b))
    (omega (arith, eqw.declaration_weight d, ap (λ (z : Option Expr). weight.optional (option_map weight.of_expr z)) (e ∙ ap Some (sym e_b2))))

pub called : {T E : Type 0} (got : Result T E) (old new : Tasks) (b : Bor (List Name)) (b2 : Bor (List Stmt)) (f : Function) → OnOk got (new ≡ piece.Sign p.OpenParen ∷ piece.Names b ∷ piece.Sign p.CloseParen ∷ piece.Sign p.OpenBrace ∷ piece.Stmts b2 ∷ piece.Sign p.CloseBrace ∷ old) → b.now ≡ f.parameters → b2.now ≡ f.body → OnOk got (IsSplit old ((of_function f).forms) (weight.of_function f) new)
called got old new b b2 f a e_b e_b2 =
    split_as got old new (piece.Sign p.OpenParen ∷ piece.Names b ∷ piece.Sign p.CloseParen ∷ piece.Sign p.OpenBrace ∷ piece.Stmts b2 ∷ piece.Sign p.CloseBrace ∷ old) ((of_function f).forms) (weight.of_function f) a
    (called_kinds f (kinds old) ∙ ap (λ (z : List Name). tok.Punctuator p.OpenParen ∷ (plain (listed (map name_forms z)) ++ tok.Punctuator p.CloseParen ∷ tok.Punctuator p.OpenBrace ∷ (plain (statements (map of_stmt f.body)) ++ tok.Punctuator p.CloseBrace ∷ kinds old))) (sym e_b) ∙ ap (λ (z : List Stmt). tok.Punctuator p.OpenParen ∷ (plain (listed (map name_forms b.now)) ++ tok.Punctuator p.CloseParen ∷ tok.Punctuator p.OpenBrace ∷ (plain (statements (map of_stmt z)) ++ tok.Punctuator p.CloseBrace ∷ kinds old))) (sym e_b2))
    (omega (arith, eqw.function_weight f, ap weight.names e_b, ap (λ (z : List Stmt). weight.parts (map weight.of_stmt z)) e_b2))

pub one_parameter : {T E : Type 0} (got : Result T E) (old new : Tasks) (b : Bor Name) (ns : List Name) (n : Name) → OnOk got (new ≡ piece.Name b ∷ old) → ns ≡ n ∷ [] → b.now ≡ n → OnOk got (IsSplit old (arrow_parameters ns) (4 + weight.names ns) new)
one_parameter got old new b ns n a e e_b =
    split_as got old new (piece.Name b ∷ old) (arrow_parameters ns) (4 + weight.names ns) a
    (ap (λ (z : List Name). plain (arrow_parameters z) ++ kinds old) e ∙ ap (λ (z : Name). tok.Name z.units ∷ kinds old) (sym e_b))
    (omega (arith))

pub on_parameters : {T E : Type 0} (got : Result T E) (old new : Tasks) (b : Bor (List Name)) (ns : List Name) → OnOk got (new ≡ piece.Sign p.OpenParen ∷ piece.Names b ∷ piece.Sign p.CloseParen ∷ old) → b.now ≡ ns → OnOk got (IsSplit old (parameters ns) (4 + weight.names ns) new)
on_parameters got old new b ns a e_b =
    split_as got old new (piece.Sign p.OpenParen ∷ piece.Names b ∷ piece.Sign p.CloseParen ∷ old) (parameters ns) (4 + weight.names ns) a
    (plain_enclosed p.OpenParen (listed (map name_forms ns)) p.CloseParen (kinds old) ∙ ap (λ (z : List Name). tok.Punctuator p.OpenParen ∷ (plain (listed (map name_forms z)) ++ tok.Punctuator p.CloseParen ∷ kinds old)) (sym e_b))
    (omega (arith, ap weight.names e_b))

pub item_stmt : {T E : Type 0} (got : Result T E) (old new : Tasks) (b : Bor Stmt) (i : Item) (s : Stmt) → OnOk got (new ≡ piece.Stmt b ∷ old) → i ≡ item.Stmt s → b.now ≡ s → OnOk got (IsSplit old (item_forms i) (weight.of_item i) new)
item_stmt got old new b i s a e e_b =
    split_as got old new (piece.Stmt b ∷ old) (item_forms i) (weight.of_item i) a
    (ap (λ (z : Item). plain (item_forms z) ++ kinds old) (e ∙ ap item.Stmt (sym e_b)))
    (omega (arith, ap weight.of_item (e ∙ ap item.Stmt (sym e_b))))

pub item_export : {T E : Type 0} (got : Result T E) (old new : Tasks) (b : Bor (List Property)) (i : Item) (xs : List Property) → OnOk got (new ≡ piece.Word r.Export ∷ piece.Word r.Default ∷ piece.Sign p.OpenBrace ∷ piece.Properties b ∷ piece.Sign p.CloseBrace ∷ piece.Sign p.Semicolon ∷ old) → i ≡ item.Export xs → b.now ≡ xs → OnOk got (IsSplit old (item_forms i) (weight.of_item i) new)
item_export got old new b i xs a e e_b =
    split_as got old new (piece.Word r.Export ∷ piece.Word r.Default ∷ piece.Sign p.OpenBrace ∷ piece.Properties b ∷ piece.Sign p.CloseBrace ∷ piece.Sign p.Semicolon ∷ old) (item_forms i) (weight.of_item i) a
    (ap (λ (z : Item). plain (item_forms z) ++ kinds old) (e ∙ ap item.Export (sym e_b)) ∙ export_kinds b.now (kinds old))
    (omega (arith, ap weight.of_item (e ∙ ap item.Export (sym e_b))))

pub ruleset ends = (no_names, no_exprs, no_properties, no_declarations, no_more, no_stmts, no_name, no_caught, no_expr, no_else, no_finally, no_catch, no_async, async_word)
