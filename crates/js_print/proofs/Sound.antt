-- Forms whose first alternatives are texts of their own, and close the braces that they open.
use Rattle.std.proofs.Common.{◌≡◌, ℕ, ◌+◌, Bool, true, false, cond, List, [], ◌∷◌, ◌++◌, map, Option, Some, None, refl, sym, subst, inl, inr}
use Rattle.std.specs.Prelude.{flat_map}
use Rattle.std.proofs.lemmas.List.Concat.{flat_map-cons}
use Rattle.js_lex.specs.declared.token.TokenKind.{TokenKind}
use Rattle.js_lex.specs.declared.token.TokenKind.TheVariants as tok
use Rattle.js_lex.specs.declared.token.Punctuator.{Punctuator}
use Rattle.js_lex.specs.declared.token.Punctuator.TheVariants as p
use Rattle.js_lex.specs.declared.token.Reserved.{Reserved}
use Rattle.js_lex.specs.declared.token.Reserved.TheVariants as r
use Rattle.js_lex.specs.declared.token.TemplatePart.TheVariants as part
use Rattle.js_tree.specs.declared.tree.AssignOp.{AssignOp}
use Rattle.js_tree.specs.declared.tree.AssignOp.TheVariants as assign
use Rattle.js_tree.specs.declared.tree.BinaryOp.{BinaryOp}
use Rattle.js_tree.specs.declared.tree.BinaryOp.TheVariants as binary
use Rattle.js_tree.specs.declared.tree.DeclareKind.{DeclareKind}
use Rattle.js_tree.specs.declared.tree.UnaryOp.{UnaryOp}
use Rattle.js_tree.specs.declared.tree.UnaryOp.TheVariants as unary
use Rattle.js_tree.specs.declared.tree.UpdateOp.{UpdateOp}
use Rattle.js_tree.specs.declared.tree.UpdateOp.TheVariants as update
use Rattle.js_tree.specs.declared.tree.UpdateSide.{UpdateSide}
use Rattle.js_tree.specs.declared.tree.UpdateSide.TheVariants as side
use Rattle.js_tree.specs.declared.tree.Name.{Name}
use Rattle.js_tree.specs.declared.tree.Key.{Key}
use Rattle.js_tree.specs.declared.tree.Key.TheVariants as keys
use Rattle.js_grammar.specs.Marks.{Just, At, Form, mark, sign, unbroken, one, just, maybe, end, deeper, on_one_line, enclosed, more, separated, listed}
use Rattle.js_grammar.specs.Grammar.{reserved, reserved_at, name, name_forms, any_name, perhaps_async, key, binary_sign, unary_form, update_sign, assign_sign, Written, WrittenStmt, WrittenFunction, WrittenPart, statements, block, parenthesized, parameters, values, accessed, member, index, call, joined, template_mark, template_rest, template, arrow_name, arrow_parameters, arrow, function, option_name, update_forms, conditional, method, object, body, declared, declare_word, option_value, option_else, option_finally, for_head, of_word, for_of_head}
use Rattle.js_print.specs.Printed.{plain}
use Rattle.js_print.proofs.Lexed.{letters_printable}
use Rattle.js_print.proofs.Nesting.{Balanced, Leaves, Fills, is_brace, balanced_none, balanced_append, balanced_one, balanced_more, balanced_block, balanced_template, leaves_name, leaves_word, leaves_number, leaves_text, leaves_whole, leaves_sign, fills_tail, fills_middle, fills_append}
use Rattle.js_print.proofs.Forms.{Good, AllGood, good_append, good_deeper, good_one_line, good_kind, good_at, good_sign, plain_append, plain_deeper, plain_one_line}

pub record Sound (fs : List Form) : Type 0 where
  pub good : AllGood fs
  pub balanced : Balanced (plain fs)

pub sound_none : Sound []
sound_none = record { good = tt; balanced = balanced_none }

pub sound_append : (fs gs : List Form) → Sound fs → Sound gs → Sound (fs ++ gs)
sound_append fs gs a b = record {
  good = good_append fs gs a.good b.good;
  balanced = subst Balanced (sym (plain_append fs gs)) (balanced_append (plain fs) (plain gs) a.balanced b.balanced);
}

pub sound_deeper : (n : ℕ) (fs : List Form) → Sound fs → Sound (deeper n fs)
sound_deeper n fs a = record { good = good_deeper n fs a.good; balanced = subst Balanced (sym (plain_deeper n fs)) a.balanced }

pub sound_one_line : (fs : List Form) → Sound fs → Sound (on_one_line fs)
sound_one_line fs a = record { good = good_one_line fs a.good; balanced = subst Balanced (sym (plain_one_line fs)) a.balanced }

sound_as : (fs gs : List Form) → fs ≡ gs → Sound gs → Sound fs
sound_as fs gs e a = subst Sound (sym e) a

-- ---- one token first

pub sound_kind : (k : TokenKind) (u : Bool) (gs : List Form) → Leaves k → Sound gs → Sound (one (record { want = Just k; unbroken = u; constructs = 0 }) ∷ gs)
sound_kind k u gs l a = record { good = (good_kind k u 0, a.good); balanced = balanced_more k (plain gs) l a.balanced }

sound_at : (q : ℕ) (k : TokenKind) (gs : List Form) → Leaves k → Sound gs → Sound (one (mark (At q k)) ∷ gs)
sound_at q k gs l a = record { good = (good_at q k false 0, a.good); balanced = balanced_more k (plain gs) l a.balanced }

pub sound_word : (x : Reserved) (gs : List Form) → Sound gs → Sound (reserved x ∷ gs)
sound_word x gs a = sound_kind (tok.Reserved x) false gs (leaves_word x) a

pub sound_word_at : (q : ℕ) (x : Reserved) (gs : List Form) → Sound gs → Sound (reserved_at q x ∷ gs)
sound_word_at q x gs a = sound_at q (tok.Reserved x) gs (leaves_word x) a

pub sound_name : (n : Name) (gs : List Form) → Sound gs → Sound (name n ∷ gs)
sound_name n gs a = sound_at n.place (tok.Name n.units) gs (leaves_name n.units) a

pub sound_sign : (x : Punctuator) (u : Bool) (gs : List Form) → is_brace x ≡ false → Sound gs → Sound (one (record { want = Just (tok.Punctuator x); unbroken = u; constructs = 0 }) ∷ gs)
sound_sign x u gs e a = sound_kind (tok.Punctuator x) u gs (leaves_sign x e) a

good_any_name : (n : Name) → Good (any_name n)
good_any_name n = record {
  chosen = λ h. elim h [
    | inl a ↦ record { first = tok.Name n.units; is_first = refl; printable = a.0.printable; has = inr (inl refl) }
    | inr b ↦ elim b [
      | inl a ↦ record { first = tok.Name n.units; is_first = refl; printable = letters_printable n.units a.0.printable; has = inr (inl refl) }
      | inr c ↦ absurd c
    ]
  ];
}

sound_any_name : (n : Name) (gs : List Form) → Sound gs → Sound (any_name n ∷ gs)
sound_any_name n gs a = record { good = (good_any_name n, a.good); balanced = balanced_more (tok.Name n.units) (plain gs) (leaves_name n.units) a.balanced }

pub sound_end : (f : Form) → Sound (((sign p.Semicolon ∷ []) ∷ f) ∷ [])
sound_end f = record { good = (good_sign p.Semicolon f, tt); balanced = balanced_one (tok.Punctuator p.Semicolon) (leaves_sign p.Semicolon refl) }

sound_comma : Sound (maybe (sign p.Comma) ∷ [])
sound_comma = record { good = (good_sign p.Comma ([] ∷ []), tt); balanced = balanced_one (tok.Punctuator p.Comma) (leaves_sign p.Comma refl) }

pub sound_maybe_end : (gs : List Form) → Sound gs → Sound (maybe (sign p.Semicolon) ∷ gs)
sound_maybe_end gs a = sound_append (maybe (sign p.Semicolon) ∷ []) gs (sound_end ([] ∷ [])) a

-- ---- brackets

pub sound_enclosed : (a : Punctuator) (fs : List Form) (b : Punctuator) → is_brace a ≡ false → is_brace b ≡ false → Sound fs → Sound (enclosed a fs b)
sound_enclosed a fs b d e s = sound_deeper 1 (just a ∷ (fs ++ just b ∷ [])) (sound_sign a false (fs ++ just b ∷ []) d (sound_append fs (just b ∷ []) s (sound_sign b false [] e sound_none)))

sound_braces : (fs : List Form) → Sound fs → Sound (enclosed p.OpenBrace fs p.CloseBrace)
sound_braces fs s = sound_deeper 1 (just p.OpenBrace ∷ (fs ++ just p.CloseBrace ∷ [])) (record {
  good = (good_kind (tok.Punctuator p.OpenBrace) false 0, good_append fs (just p.CloseBrace ∷ []) s.good (good_kind (tok.Punctuator p.CloseBrace) false 0, tt));
  balanced = subst (λ (z : List TokenKind). Balanced (tok.Punctuator p.OpenBrace ∷ z)) (sym (plain_append fs (just p.CloseBrace ∷ []))) (balanced_block (plain fs) s.balanced);
})

pub sound_parens : (fs : List Form) → Sound fs → Sound (parenthesized fs)
sound_parens fs s = sound_enclosed p.OpenParen fs p.CloseParen refl refl s

-- ---- lists

abbrev pub AllSound : List (List Form) → Type 0
AllSound [] = Unit {0}
AllSound (x ∷ xs) = Sound x × AllSound xs

sound_more : (xs : List (List Form)) → AllSound xs → Sound (more xs)
sound_more [] s = sound_none
sound_more (x ∷ xs) s = sound_sign p.Comma false (x ++ more xs) refl (sound_append x (more xs) s.0 (sound_more xs s.1))

pub sound_separated : (xs : List (List Form)) → AllSound xs → Sound (separated xs)
sound_separated [] s = sound_none
sound_separated (x ∷ xs) s = sound_append x (more xs) s.0 (sound_more xs s.1)

pub sound_listed : (xs : List (List Form)) → AllSound xs → Sound (listed xs)
sound_listed [] s = sound_none
sound_listed (x ∷ xs) s = sound_append (x ++ more xs) (maybe (sign p.Comma) ∷ []) (sound_append x (more xs) s.0 (sound_more xs s.1)) sound_comma

-- ---- words and names

sound_async : (b : Bool) (fs : List Form) → Sound fs → Sound (perhaps_async b fs)
sound_async true fs u = sound_kind (tok.Name (97 ∷ 115 ∷ 121 ∷ 110 ∷ 99 ∷ [])) false (on_one_line fs) (leaves_name _) (sound_one_line fs u)
sound_async false fs u = u

pub sound_key : (k : Key) (gs : List Form) → Sound gs → Sound (key k ∷ gs)
sound_key (keys.Name n) gs u = sound_any_name n gs u
sound_key (keys.Text t) gs u = sound_kind (tok.Text t) false gs (leaves_text t) u
sound_key (keys.Number n) gs u = sound_kind (tok.Number n) false gs (leaves_number n) u

pub sound_unary : (o : UnaryOp) (gs : List Form) → Sound gs → Sound (unary_form o ∷ gs)
sound_unary unary.Not gs u = sound_sign p.Not false gs refl u
sound_unary unary.Negate gs u = sound_sign p.Minus false gs refl u
sound_unary unary.TypeOf gs u = sound_word r.TypeOf gs u

all_names : (ns : List Name) → AllSound (map name_forms ns)
all_names [] = tt
all_names (n ∷ ns) = (sound_name n [] sound_none, all_names ns)

pub sound_parameters : (ns : List Name) → Sound (parameters ns)
sound_parameters ns = sound_parens (listed (map name_forms ns)) (sound_listed (map name_forms ns) (all_names ns))

-- ---- statements

abbrev pub AllStatements : List WrittenStmt → Type 0
AllStatements [] = Unit {0}
AllStatements (s ∷ ss) = Sound s.forms × AllStatements ss

abbrev pub forms_of : WrittenStmt → List Form
forms_of s = s.forms

sound_statements : (ss : List WrittenStmt) → AllStatements ss → Sound (statements ss)
sound_statements [] u = sound_none
sound_statements (s ∷ ss) u = sound_as (flat_map forms_of (s ∷ ss)) (s.forms ++ flat_map forms_of ss) (flat_map-cons forms_of s ss) (sound_append s.forms (statements ss) u.0 (sound_statements ss u.1))

pub sound_block : (ss : List WrittenStmt) → AllStatements ss → Sound (block ss)
sound_block ss u = sound_braces (statements ss) (sound_statements ss u)

-- ---- templates

abbrev pub AllParts : List WrittenPart → Type 0
AllParts [] = Unit {0}
AllParts (i ∷ is) = Sound i.value × AllParts is

record SoundRest (fs : List Form) : Type 0 where
  good : AllGood fs
  fills : Fills (plain fs)

rest_append : (fs gs : List Form) → Sound fs → SoundRest gs → SoundRest (fs ++ gs)
rest_append fs gs a b = record {
  good = good_append fs gs a.good b.good;
  fills = subst Fills (sym (plain_append fs gs)) (fills_append (plain fs) (plain gs) a.balanced b.fills);
}

sound_template_rest : (is : List WrittenPart) (u : List ℕ) → AllParts is → SoundRest (template_rest is u)
sound_template_rest [] u h = record { good = (good_kind (tok.Template part.Tail u) false 0, tt); fills = fills_tail u }
sound_template_rest (i ∷ is) u h =
    let s : SoundRest (i.value ++ template_rest is u) = rest_append i.value (template_rest is u) h.0 (sound_template_rest is u h.1) in
    record { good = (good_kind (tok.Template part.Middle i.units) false 0, s.good); fills = fills_middle i.units _ s.fills }

pub sound_template : (is : List WrittenPart) (u : List ℕ) → AllParts is → Sound (template is u)
sound_template [] u h = sound_kind (tok.Template part.Whole u) false [] (leaves_whole u) sound_none
sound_template (i ∷ is) u h =
    let s : SoundRest (i.value ++ template_rest is u) = rest_append i.value (template_rest is u) h.0 (sound_template_rest is u h.1) in
    sound_deeper 1 (template_mark part.Head i.units ∷ (i.value ++ template_rest is u))
    (record { good = (good_kind (tok.Template part.Head i.units) false 0, s.good); balanced = balanced_template i.units _ s.fills })

-- ---- arrows

good_arrow_name : (n : Name) → Good (arrow_name n)
good_arrow_name n = record {
  chosen = λ h. elim h [
    | inl a ↦ record { first = tok.Name n.units; is_first = refl; printable = a.0.printable; has = inl (sym a.0.same) }
    | inr b ↦ elim b [
      | inl a ↦ record { first = tok.Name n.units; is_first = refl; printable = a.1.0.printable; has = inl (sym a.1.0.same) }
      | inr c ↦ elim c [
        | inl a ↦ record { first = tok.Name n.units; is_first = refl; printable = a.1.0.printable; has = inl (sym a.1.0.same) }
        | inr d ↦ absurd d
      ]
    ]
  ];
}

sound_arrow_parameters : (ns : List Name) → Sound (arrow_parameters ns)
sound_arrow_parameters [] = sound_parameters []
sound_arrow_parameters (n ∷ []) = record { good = (good_arrow_name n, tt); balanced = balanced_one (tok.Name n.units) (leaves_name n.units) }
sound_arrow_parameters (n ∷ m ∷ ns) = sound_parameters (n ∷ m ∷ ns)

pub sound_arrow : (a : Bool) (ns : List Name) (b : List Form) → Sound b → Sound (arrow a ns b)
sound_arrow a ns b u = sound_append (perhaps_async a (arrow_parameters ns)) b (sound_async a (arrow_parameters ns) (sound_arrow_parameters ns)) u

-- ---- expressions

sound_accessed : (x : Written) (fs : List Form) → Sound x.forms → Sound fs → Sound (accessed x fs).forms
sound_accessed x fs u v = sound_append x.forms (deeper x.accesses fs) u (sound_deeper x.accesses fs v)

pub sound_member : (x : Written) (n : Name) → Sound x.forms → Sound (member x n).forms
sound_member x n u = sound_accessed x (deeper 1 (just p.Dot ∷ any_name n ∷ [])) u (sound_deeper 1 (just p.Dot ∷ any_name n ∷ []) (sound_sign p.Dot false (any_name n ∷ []) refl (sound_any_name n [] sound_none)))

pub sound_index : (x k : Written) → Sound x.forms → Sound k.forms → Sound (index x k).forms
sound_index x k u v = sound_accessed x (enclosed p.OpenBracket k.forms p.CloseBracket) u (sound_enclosed p.OpenBracket k.forms p.CloseBracket refl refl v)

pub sound_arguments : (xs : List Written) → AllSound (values xs) → Sound (parenthesized (listed (values xs)))
sound_arguments xs u = sound_parens (listed (values xs)) (sound_listed (values xs) u)

pub sound_call : (x : Written) (xs : List Written) → Sound x.forms → AllSound (values xs) → Sound (call x xs).forms
sound_call x xs u v = sound_accessed x (parenthesized (listed (values xs))) u (sound_arguments xs v)

binary_leaves : (o : BinaryOp) → is_brace (binary_sign o) ≡ false
binary_leaves binary.Coalesce = refl
binary_leaves binary.Or = refl
binary_leaves binary.And = refl
binary_leaves binary.Identical = refl
binary_leaves binary.NotIdentical = refl
binary_leaves binary.Less = refl
binary_leaves binary.LessEqual = refl
binary_leaves binary.Greater = refl
binary_leaves binary.GreaterEqual = refl
binary_leaves binary.Add = refl
binary_leaves binary.Subtract = refl
binary_leaves binary.Multiply = refl
binary_leaves binary.Divide = refl
binary_leaves binary.Remainder = refl

update_leaves : (o : UpdateOp) → is_brace (update_sign o) ≡ false
update_leaves update.Increment = refl
update_leaves update.Decrement = refl

assign_leaves : (o : AssignOp) → is_brace (assign_sign o) ≡ false
assign_leaves assign.Set = refl
assign_leaves assign.Add = refl
assign_leaves assign.Subtract = refl

pub sound_joined : (o : BinaryOp) (x y : Written) → Sound x.forms → Sound y.forms → Sound (joined o x y).forms
sound_joined o x y u v = sound_append x.forms (deeper (x.operators + 1) (just (binary_sign o) ∷ y.forms)) u (sound_deeper (x.operators + 1) (just (binary_sign o) ∷ y.forms) (sound_sign (binary_sign o) false y.forms (binary_leaves o) v))

pub sound_assign : (o : AssignOp) (x y : Written) → Sound x.forms → Sound y.forms → Sound (x.forms ++ deeper 1 (just (assign_sign o) ∷ y.forms))
sound_assign o x y u v = sound_append x.forms (deeper 1 (just (assign_sign o) ∷ y.forms)) u (sound_deeper 1 (just (assign_sign o) ∷ y.forms) (sound_sign (assign_sign o) false y.forms (assign_leaves o) v))

pub sound_update : (s : UpdateSide) (o : UpdateOp) (x : Written) → Sound x.forms → Sound (update_forms s o x)
sound_update side.Before o x u = sound_deeper 1 (just (update_sign o) ∷ x.forms) (sound_sign (update_sign o) false x.forms (update_leaves o) u)
sound_update side.Behind o x u = sound_append x.forms (one (unbroken (sign (update_sign o))) ∷ []) u (sound_sign (update_sign o) true [] (update_leaves o) sound_none)

pub sound_conditional : (test a b : Written) → Sound test.forms → Sound a.forms → Sound b.forms → Sound (conditional test a b)
sound_conditional test a b u v w =
    sound_append test.forms (deeper 1 (just p.Question ∷ a.forms) ++ deeper 1 (just p.Colon ∷ b.forms)) u
    (sound_append (deeper 1 (just p.Question ∷ a.forms)) (deeper 1 (just p.Colon ∷ b.forms))
    (sound_deeper 1 (just p.Question ∷ a.forms) (sound_sign p.Question false a.forms refl v))
    (sound_deeper 1 (just p.Colon ∷ b.forms) (sound_sign p.Colon false b.forms refl w)))

pub sound_option_name : (n : Option Name) → Sound (option_name n)
sound_option_name None = sound_none
sound_option_name (Some n) = sound_name n [] sound_none

pub sound_function : (named : List Form) (f : WrittenFunction) → Sound named → Sound f.forms → Sound (function named f)
sound_function named f u v = sound_async f.is_async (reserved r.Function ∷ (named ++ f.forms)) (sound_word r.Function (named ++ f.forms) (sound_append named f.forms u v))

pub sound_method : (k : Key) (f : WrittenFunction) → Sound f.forms → Sound (method k f)
sound_method k f u = sound_async f.is_async (key k ∷ f.forms) (sound_key k f.forms u)

pub sound_object : (xs : List (List Form)) → AllSound xs → Sound (object xs)
sound_object xs u = sound_braces (listed xs) (sound_listed xs u)

-- ---- statements

pub sound_body : (s : WrittenStmt) → Sound s.forms → Sound (body s)
sound_body s u = by_case s.is_block
  where
    by_case : (b : Bool) → Sound (cond b s.forms (deeper 1 s.forms))
    by_case true = u
    by_case false = sound_deeper 1 s.forms u

pub sound_declared : (k : DeclareKind) (ds : List (List Form)) → AllSound ds → Sound (declared k ds)
sound_declared k ds u = sound_word (declare_word k) (separated ds) (sound_separated ds u)

abbrev pub ValueSound : Option Written → Type 0
ValueSound None = Unit {0}
ValueSound (Some x) = Sound x.forms

sound_option_value : (o : Option Written) → ValueSound o → Sound (option_value o)
sound_option_value None u = sound_none
sound_option_value (Some x) u = u

abbrev pub ElseSound : Option WrittenStmt → Type 0
ElseSound None = Unit {0}
ElseSound (Some s) = Sound s.forms

pub sound_option_else : (o : Option WrittenStmt) → ElseSound o → Sound (option_else o)
sound_option_else None u = sound_none
sound_option_else (Some s) u = sound_word r.Else (body s) (sound_body s u)

abbrev pub FinallySound : Option (List WrittenStmt) → Type 0
FinallySound None = Unit {0}
FinallySound (Some ss) = AllStatements ss

pub sound_option_finally : (o : Option (List WrittenStmt)) → FinallySound o → Sound (option_finally o)
sound_option_finally None u = sound_none
sound_option_finally (Some ss) u = sound_word r.Finally (block ss) (sound_block ss u)

pub sound_for_head : (begin : List Form) (test update : Option Written) → Sound begin → ValueSound test → ValueSound update → Sound (for_head begin test update)
sound_for_head begin test update u v w =
    sound_append begin (just p.Semicolon ∷ (option_value test ++ just p.Semicolon ∷ option_value update)) u
    (sound_sign p.Semicolon false (option_value test ++ just p.Semicolon ∷ option_value update) refl
    (sound_append (option_value test) (just p.Semicolon ∷ option_value update) (sound_option_value test v)
    (sound_sign p.Semicolon false (option_value update) refl (sound_option_value update w))))

pub sound_for_of_head : (k : DeclareKind) (n : Name) (x : Written) → Sound x.forms → Sound (for_of_head k n x)
sound_for_of_head k n x u = sound_word (declare_word k) (name n ∷ of_word ∷ x.forms) (sound_name n (of_word ∷ x.forms) (sound_kind (tok.Name (111 ∷ 102 ∷ [])) false x.forms (leaves_name _) u))

pub sound_ended : (fs : List Form) → Sound fs → Sound (fs ++ end ∷ [])
sound_ended fs u = sound_append fs (end ∷ []) u (sound_end _)
