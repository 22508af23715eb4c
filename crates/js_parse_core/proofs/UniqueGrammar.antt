-- The forms of each node tell the counts, where those of its parts do.
use Rattle.std.proofs.Common.{◌≡◌, ℕ, ◌+◌, Bool, true, false, cond, List, [], ◌∷◌, ◌++◌, map, Option, Some, None, refl, sym, ◌∙◌, inl, inr}
use Rattle.std.specs.Prelude.{flat_map}
use Rattle.std.proofs.lemmas.List.Concat.{flat_map-cons}
use Rattle.js_lex.specs.declared.token.Punctuator.{Punctuator}
use Rattle.js_lex.specs.declared.token.Punctuator.TheVariants as p
use Rattle.js_lex.specs.declared.token.Reserved.TheVariants as r
use Rattle.js_lex.specs.declared.token.TemplatePart.TheVariants as part
use Rattle.js_lex.specs.declared.token.TokenKind.TheVariants as tok
use Rattle.js_lex.specs.Front.{name_kind}
use Rattle.js_tree.specs.declared.tree.BinaryOp.{BinaryOp}
use Rattle.js_tree.specs.declared.tree.DeclareKind.{DeclareKind}
use Rattle.js_tree.specs.declared.tree.UnaryOp.{UnaryOp}
use Rattle.js_tree.specs.declared.tree.UnaryOp.TheVariants as unary
use Rattle.js_tree.specs.declared.tree.UpdateOp.{UpdateOp}
use Rattle.js_tree.specs.declared.tree.UpdateSide.{UpdateSide}
use Rattle.js_tree.specs.declared.tree.UpdateSide.TheVariants as side
use Rattle.js_tree.specs.declared.tree.Name.{Name}
use Rattle.js_tree.specs.declared.tree.Key.{Key}
use Rattle.js_tree.specs.declared.tree.Key.TheVariants as keys
use Rattle.js_grammar.specs.Marks.{Piece, Read, Ended, Just, At, Form, IsWanted, mark, sign, unbroken, one, just, end, deeper, on_one_line, enclosed, separated, listed}
use Rattle.js_grammar.specs.Grammar.{reserved, name_mark, name, name_forms, any_name, perhaps_async, optional, key, binary_sign, unary_form, update_sign, Written, WrittenStmt, WrittenFunction, WrittenPart, statements, block, parenthesized, parameters, values, accessed, member, index, call, joined, template_mark, template_rest, template, bracketed_mark, arrow_name, arrow_parameters, arrow, function, option_name, update_forms, conditional, method, object, body, declared, option_value, option_else, option_finally, for_head, of_word, for_of_head}
use Rattle.js_parse_core.proofs.UniqueForms.{Unique, unique_either, unique_none, unique_form, unique_append, unique_as, unique_deeper, unique_one_line, unique_one, unique_only, unique_separated, unique_enclosed, unique_enclosed_listed, unique_end, AllUnique, Differ, paren_ends, brace_ends}

-- ---- words and names

pub unique_async : (b : Bool) (fs : List Form) → Unique fs → Unique (perhaps_async b fs)
unique_async true fs u = unique_one (mark (Just (tok.Name (97 ∷ 115 ∷ 121 ∷ 110 ∷ 99 ∷ [])))) (on_one_line fs) (unique_one_line fs u)
unique_async false fs u = u

unique_any_name : (n : Name) → Unique (any_name n ∷ [])
unique_any_name n = unique_either (name_mark n) (mark (At n.place (name_kind n.units))) refl

pub unique_key : (k : Key) (gs : List Form) → Unique gs → Unique (key k ∷ gs)
unique_key (keys.Name n) gs u = unique_append (any_name n ∷ []) gs (unique_any_name n) u
unique_key (keys.Text t) gs u = unique_one _ gs u
unique_key (keys.Number n) gs u = unique_one _ gs u

pub unique_unary : (o : UnaryOp) (gs : List Form) → Unique gs → Unique (unary_form o ∷ gs)
unique_unary unary.Not gs u = unique_one _ gs u
unique_unary unary.Negate gs u = unique_one _ gs u
unique_unary unary.TypeOf gs u = unique_one _ gs u

all_names : (ns : List Name) → AllUnique (map name_forms ns)
all_names [] = tt
all_names (n ∷ ns) = (unique_only (name_mark n), all_names ns)

pub unique_parameters : (ns : List Name) → Unique (parameters ns)
unique_parameters ns = unique_enclosed_listed p.OpenParen (map name_forms ns) p.CloseParen paren_ends (all_names ns)

-- ---- statements

abbrev pub AllStatements : List WrittenStmt → Type 0
AllStatements [] = Unit {0}
AllStatements (s ∷ ss) = Unique s.forms × AllStatements ss

abbrev pub forms_of : WrittenStmt → List Form
forms_of s = s.forms

pub unique_statements : (ss : List WrittenStmt) → AllStatements ss → Unique (statements ss)
unique_statements [] u = unique_none
unique_statements (s ∷ ss) u = unique_as (flat_map forms_of (s ∷ ss)) (s.forms ++ flat_map forms_of ss) (flat_map-cons forms_of s ss) (unique_append s.forms (statements ss) u.0 (unique_statements ss u.1))

pub unique_block : (ss : List WrittenStmt) → AllStatements ss → Unique (block ss)
unique_block ss u = unique_enclosed p.OpenBrace (statements ss) p.CloseBrace (unique_statements ss u)

-- ---- templates

abbrev pub AllParts : List WrittenPart → Type 0
AllParts [] = Unit {0}
AllParts (i ∷ is) = Unique i.value × AllParts is

unique_template_rest : (is : List WrittenPart) (u : List ℕ) → AllParts is → Unique (template_rest is u)
unique_template_rest [] u h = unique_only _
unique_template_rest (i ∷ is) u h = unique_one _ (i.value ++ template_rest is u) (unique_append i.value (template_rest is u) h.0 (unique_template_rest is u h.1))

pub unique_template : (is : List WrittenPart) (u : List ℕ) → AllParts is → Unique (template is u)
unique_template [] u h = unique_only _
unique_template (i ∷ is) u h = unique_deeper 1 (template_mark part.Head i.units ∷ (i.value ++ template_rest is u))
    (unique_one _ (i.value ++ template_rest is u) (unique_append i.value (template_rest is u) h.0 (unique_template_rest is u h.1)))

-- ---- arrows

name_differs : (n : Name) (x : Punctuator) → Differ (name_mark n) (bracketed_mark (sign x))
name_differs n x = record { never = by_piece }
  where
    by_piece : (q : Piece) → IsWanted (At n.place (tok.Name n.units)) false q → IsWanted (Just (tok.Punctuator x)) false q → ⊥
    by_piece (Read t) h g = let e : tok.Name n.units ≡ tok.Punctuator x = sym h.0 ∙ g.0 in cc
    by_piece Ended h g = h

close_differs : Differ (bracketed_mark (sign p.CloseParen)) (bracketed_mark (sign p.Comma))
close_differs = record { never = by_piece }
  where
    by_piece : (q : Piece) → IsWanted (Just (tok.Punctuator p.CloseParen)) false q → IsWanted (Just (tok.Punctuator p.Comma)) false q → ⊥
    by_piece (Read t) h g = let e : tok.Punctuator p.CloseParen ≡ tok.Punctuator p.Comma = sym h.0 ∙ g.0 in cc
    by_piece Ended h g = h

pub unique_arrow_name : (n : Name) → Unique (arrow_name n ∷ [])
unique_arrow_name n = unique_form (arrow_name n)
    ((inl (name_differs n p.OpenParen), (inl (name_differs n p.OpenParen), tt)), ((inr (inr (inl close_differs)), tt), (tt, tt)))

unique_arrow_parameters : (ns : List Name) → Unique (arrow_parameters ns)
unique_arrow_parameters [] = unique_parameters []
unique_arrow_parameters (n ∷ []) = unique_arrow_name n
unique_arrow_parameters (n ∷ m ∷ ns) = unique_parameters (n ∷ m ∷ ns)

pub unique_arrow : (a : Bool) (ns : List Name) (b : List Form) → Unique b → Unique (arrow a ns b)
unique_arrow a ns b u = unique_append (perhaps_async a (arrow_parameters ns)) b (unique_async a (arrow_parameters ns) (unique_arrow_parameters ns)) u

-- ---- expressions

pub unique_accessed : (x : Written) (fs : List Form) → Unique x.forms → Unique fs → Unique (accessed x fs).forms
unique_accessed x fs u v = unique_append x.forms (deeper x.accesses fs) u (unique_deeper x.accesses fs v)

pub unique_member : (x : Written) (n : Name) → Unique x.forms → Unique (member x n).forms
unique_member x n u = unique_accessed x (deeper 1 (just p.Dot ∷ any_name n ∷ [])) u (unique_deeper 1 (just p.Dot ∷ any_name n ∷ []) (unique_one _ (any_name n ∷ []) (unique_any_name n)))

pub unique_index : (x k : Written) → Unique x.forms → Unique k.forms → Unique (index x k).forms
unique_index x k u v = unique_accessed x (enclosed p.OpenBracket k.forms p.CloseBracket) u (unique_enclosed p.OpenBracket k.forms p.CloseBracket v)

pub unique_arguments : (xs : List Written) → AllUnique (values xs) → Unique (parenthesized (listed (values xs)))
unique_arguments xs u = unique_enclosed_listed p.OpenParen (values xs) p.CloseParen paren_ends u

pub unique_call : (x : Written) (xs : List Written) → Unique x.forms → AllUnique (values xs) → Unique (call x xs).forms
unique_call x xs u v = unique_accessed x (parenthesized (listed (values xs))) u (unique_arguments xs v)

pub unique_joined : (o : BinaryOp) (x y : Written) → Unique x.forms → Unique y.forms → Unique (joined o x y).forms
unique_joined o x y u v = unique_append x.forms (deeper (x.operators + 1) (just (binary_sign o) ∷ y.forms)) u (unique_deeper (x.operators + 1) (just (binary_sign o) ∷ y.forms) (unique_one _ y.forms v))

pub unique_update : (s : UpdateSide) (o : UpdateOp) (x : Written) → Unique x.forms → Unique (update_forms s o x)
unique_update side.Before o x u = unique_deeper 1 (just (update_sign o) ∷ x.forms) (unique_one _ x.forms u)
unique_update side.Behind o x u = unique_append x.forms (one (unbroken (sign (update_sign o))) ∷ []) u (unique_only _)

pub unique_conditional : (test a b : Written) → Unique test.forms → Unique a.forms → Unique b.forms → Unique (conditional test a b)
unique_conditional test a b u v w =
    unique_append test.forms (deeper 1 (just p.Question ∷ a.forms) ++ deeper 1 (just p.Colon ∷ b.forms)) u
    (unique_append (deeper 1 (just p.Question ∷ a.forms)) (deeper 1 (just p.Colon ∷ b.forms))
    (unique_deeper 1 (just p.Question ∷ a.forms) (unique_one _ a.forms v))
    (unique_deeper 1 (just p.Colon ∷ b.forms) (unique_one _ b.forms w)))

pub unique_option_name : (n : Option Name) → Unique (option_name n)
unique_option_name None = unique_none
unique_option_name (Some n) = unique_only _

pub unique_function : (named : List Form) (f : WrittenFunction) → Unique named → Unique f.forms → Unique (function named f)
unique_function named f u v = unique_async f.is_async (reserved r.Function ∷ (named ++ f.forms)) (unique_one _ (named ++ f.forms) (unique_append named f.forms u v))

pub unique_method : (k : Key) (f : WrittenFunction) → Unique f.forms → Unique (method k f)
unique_method k f u = unique_async f.is_async (key k ∷ f.forms) (unique_key k f.forms u)

pub unique_object : (xs : List (List Form)) → AllUnique xs → Unique (object xs)
unique_object xs u = unique_enclosed_listed p.OpenBrace xs p.CloseBrace brace_ends u

-- ---- statements

pub unique_body : (s : WrittenStmt) → Unique s.forms → Unique (body s)
unique_body s u = by_case s.is_block
  where
    by_case : (b : Bool) → Unique (cond b s.forms (deeper 1 s.forms))
    by_case true = u
    by_case false = unique_deeper 1 s.forms u

pub unique_declared : (k : DeclareKind) (ds : List (List Form)) → AllUnique ds → Unique (declared k ds)
unique_declared k ds u = unique_one _ (separated ds) (unique_separated ds u)

abbrev pub ValueUnique : Option Written → Type 0
ValueUnique None = Unit {0}
ValueUnique (Some x) = Unique x.forms

pub unique_option_value : (o : Option Written) → ValueUnique o → Unique (option_value o)
unique_option_value None u = unique_none
unique_option_value (Some x) u = u

abbrev pub ElseUnique : Option WrittenStmt → Type 0
ElseUnique None = Unit {0}
ElseUnique (Some s) = Unique s.forms

pub unique_option_else : (o : Option WrittenStmt) → ElseUnique o → Unique (option_else o)
unique_option_else None u = unique_none
unique_option_else (Some s) u = unique_one _ (body s) (unique_body s u)

abbrev pub FinallyUnique : Option (List WrittenStmt) → Type 0
FinallyUnique None = Unit {0}
FinallyUnique (Some ss) = AllStatements ss

pub unique_option_finally : (o : Option (List WrittenStmt)) → FinallyUnique o → Unique (option_finally o)
unique_option_finally None u = unique_none
unique_option_finally (Some ss) u = unique_one _ (block ss) (unique_block ss u)

abbrev pub OptionUnique : Option (List Form) → Type 0
OptionUnique None = Unit {0}
OptionUnique (Some fs) = Unique fs

pub unique_optional : (o : Option (List Form)) → OptionUnique o → Unique (optional o)
unique_optional None u = unique_none
unique_optional (Some fs) u = u

pub unique_for_head : (begin : List Form) (test update : Option Written) → Unique begin → ValueUnique test → ValueUnique update → Unique (for_head begin test update)
unique_for_head begin test update u v w =
    unique_append begin (just p.Semicolon ∷ (option_value test ++ just p.Semicolon ∷ option_value update)) u
    (unique_one _ (option_value test ++ just p.Semicolon ∷ option_value update)
    (unique_append (option_value test) (just p.Semicolon ∷ option_value update) (unique_option_value test v)
    (unique_one _ (option_value update) (unique_option_value update w))))

pub unique_for_of_head : (k : DeclareKind) (n : Name) (x : Written) → Unique x.forms → Unique (for_of_head k n x)
unique_for_of_head k n x u = unique_one _ (name n ∷ of_word ∷ x.forms) (unique_one _ (of_word ∷ x.forms) (unique_one _ x.forms u))

-- ---- a statement behind its end

pub unique_ended : (fs : List Form) → Unique fs → Unique (fs ++ end ∷ [])
unique_ended fs u = unique_append fs (end ∷ []) u unique_end
