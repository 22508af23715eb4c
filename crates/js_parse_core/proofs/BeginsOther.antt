-- Forms that begin with a piece, and with no `;`.
use Rattle.std.proofs.Common.{◌≡◌, ℕ, Bool, true, false, List, [], ◌∷◌, ◌++◌, map, sym, ap, ◌∙◌, subst, inl, inr}
use Rattle.js_lex.specs.declared.token.Punctuator.{Punctuator}
use Rattle.js_lex.specs.declared.token.Punctuator.TheVariants as p
use Rattle.js_lex.specs.declared.token.Reserved.{Reserved}
use Rattle.js_lex.specs.declared.token.Reserved.TheVariants as r
use Rattle.js_lex.specs.declared.token.TemplatePart.TheVariants as part
use Rattle.js_lex.specs.declared.token.Token.{Token}
use Rattle.js_lex.specs.declared.token.TokenKind.{TokenKind}
use Rattle.js_lex.specs.declared.token.TokenKind.TheVariants as tok
use Rattle.js_tree.specs.declared.tree.UnaryOp.{UnaryOp}
use Rattle.js_tree.specs.declared.tree.UnaryOp.TheVariants as unary
use Rattle.js_tree.specs.declared.tree.UpdateOp.{UpdateOp}
use Rattle.js_tree.specs.declared.tree.UpdateOp.TheVariants as update
use Rattle.js_tree.specs.declared.tree.UpdateSide.{UpdateSide}
use Rattle.js_tree.specs.declared.tree.UpdateSide.TheVariants as side
use Rattle.js_tree.specs.declared.tree.Name.{Name}
use Rattle.js_grammar.specs.Marks.{Piece, Read, Seen, Just, At, Mark, Form, IsWanted, IsOneOf, Matches, mark, sign, word, unbroken, one, just, deeper, on_one_line, enclosed, listed}
use Rattle.js_grammar.specs.Grammar.{reserved, name_mark, name, name_forms, perhaps_async, unary_form, update_sign, Written, WrittenFunction, WrittenPart, template, arrow_name, arrow_parameters, parameters, arrow, function, update_forms}
use Rattle.js_grammar.specs.Script.{pieces}
use Rattle.js_parse_core.proofs.UniqueForms.{Parted, parted, pieces_behind, first_same, Narrows, Raised, forms_low, low_pieces}

abbrev pub semicolon : TokenKind
semicolon = tok.Punctuator p.Semicolon

pub record BeginsOther (fs : List Form) : Type 0 where
  pub other : (a : List Seen) (x : List Piece) (t : Token) (y : List Piece) → Matches fs a → t.kind ≡ semicolon → pieces a ++ x ≡ Read t ∷ y → ⊥

-- it is no `;`
pub record Otherwise (m : Mark) : Type 0 where
  pub never : (t : Token) → t.kind ≡ semicolon → IsWanted m.want m.unbroken (Read t) → ⊥

pub otherwise_just : (k : TokenKind) (u : Bool) (n : ℕ) → (k ≡ semicolon → ⊥) → Otherwise (record { want = Just k; unbroken = u; constructs = n })
otherwise_just k u n d = record { never = λ t e h. d (sym h.0 ∙ e) }

pub otherwise_at : (q : ℕ) (k : TokenKind) (u : Bool) (n : ℕ) → (k ≡ semicolon → ⊥) → Otherwise (record { want = At q k; unbroken = u; constructs = n })
otherwise_at q k u n d = record { never = λ t e h. d (sym h.0 ∙ e) }

abbrev pub OthersFirst : Form → Type 0
OthersFirst [] = Unit {0}
OthersFirst ([] ∷ f) = ⊥
OthersFirst ((m ∷ ms) ∷ f) = Otherwise m × OthersFirst f

form_other : (f : Form) (a : List Seen) (x : List Piece) (t : Token) (y : List Piece) → OthersFirst f → IsOneOf f a → t.kind ≡ semicolon → pieces a ++ x ≡ Read t ∷ y → ⊥
form_other [] a x t y d h k e = h
form_other ([] ∷ f) a x t y d h k e = d
form_other ((m ∷ ms) ∷ f) a x t y d h k e = elim h [
  | inl c ↦ (let e2 : c.0.piece ∷ (pieces c.1 ++ x) ≡ Read t ∷ y = sym (ap (λ (z : List Seen). pieces z ++ x) c.2) ∙ e in
      d.0.never t k (subst (λ (z : Piece). IsWanted m.want m.unbroken z) (first_same c.0.piece (Read t) (pieces c.1 ++ x) y e2) c.3.wanted))
  | inr c ↦ form_other f a x t y d.1 c k e
]

pub begins_form : (f : Form) (gs : List Form) → OthersFirst f → BeginsOther (f ∷ gs)
begins_form f gs d = record {
  other = λ a x t y h k e.
      form_other f h.0 (pieces h.1 ++ x) t y d h.3 k (sym (pieces_behind h.0 h.1 x) ∙ sym (ap (λ (z : List Seen). pieces z ++ x) h.2) ∙ e);
}

pub begins_one : (m : Mark) (gs : List Form) → Otherwise m → BeginsOther (one m ∷ gs)
begins_one m gs d = begins_form (one m) gs (d, tt)

pub begins_append : (fs gs : List Form) → BeginsOther fs → BeginsOther (fs ++ gs)
begins_append fs gs b = record {
  other = λ a x t y h k e.
      let s : Parted fs gs a = parted fs gs a h in
      b.other s.front (pieces s.back ++ x) t y s.is_front k (sym (pieces_behind s.front s.back x) ∙ sym (ap (λ (z : List Seen). pieces z ++ x) s.parts) ∙ e);
}

pub begins_narrower : (fs gs : List Form) → Narrows fs gs → BeginsOther gs → BeginsOther fs
begins_narrower fs gs n b = record { other = λ a x t y h k e. b.other a x t y (n.narrows a h) k e }

pub begins_deeper : (n : ℕ) (fs : List Form) → BeginsOther fs → BeginsOther (deeper n fs)
begins_deeper n fs b = record {
  other = λ a x t y h k e.
      let s : Raised n (Matches fs) a = forms_low n fs a h in
      b.other s.low x t y s.is k (sym (ap (λ (z : List Piece). z ++ x) (low_pieces n fs a s)) ∙ e);
}

-- ---- words

pub begins_name : (n : Name) (gs : List Form) → BeginsOther (name n ∷ gs)
begins_name n gs = begins_one (name_mark n) gs (otherwise_at n.place (tok.Name n.units) false 0 (λ e. cc))

pub begins_reserved : (x : Reserved) (gs : List Form) → BeginsOther (reserved x ∷ gs)
begins_reserved x gs = begins_one (word x) gs (otherwise_just (tok.Reserved x) false 0 (λ e. cc))

pub begins_reserved_at : (q : ℕ) (x : Reserved) (gs : List Form) → BeginsOther (one (mark (At q (tok.Reserved x))) ∷ gs)
begins_reserved_at q x gs = begins_one (mark (At q (tok.Reserved x))) gs (otherwise_at q (tok.Reserved x) false 0 (λ e. cc))

pub begins_sign : (x : Punctuator) (gs : List Form) → (x ≡ p.Semicolon → ⊥) → BeginsOther (just x ∷ gs)
begins_sign x gs d = begins_one (sign x) gs (otherwise_just (tok.Punctuator x) false 0 (λ e. d cc))

pub begins_enclosed : (x : Punctuator) (fs : List Form) (b : Punctuator) → (x ≡ p.Semicolon → ⊥) → BeginsOther (enclosed x fs b)
begins_enclosed x fs b d = begins_deeper 1 (just x ∷ (fs ++ just b ∷ [])) (begins_sign x (fs ++ just b ∷ []) d)

pub begins_async : (b : Bool) (fs : List Form) → BeginsOther fs → BeginsOther (perhaps_async b fs)
begins_async true fs b = begins_one _ (on_one_line fs) (otherwise_just (tok.Name (97 ∷ 115 ∷ 121 ∷ 110 ∷ 99 ∷ [])) false 0 (λ e. cc))
begins_async false fs b = b

-- ---- expressions

pub begins_template : (is : List WrittenPart) (u : List ℕ) → BeginsOther (template is u)
begins_template [] u = begins_one _ [] (otherwise_just (tok.Template part.Whole u) false 0 (λ e. cc))
begins_template (i ∷ is) u = begins_deeper 1 _ (begins_one _ _ (otherwise_just (tok.Template part.Head i.units) false 0 (λ e. cc)))

pub begins_function : (named : List Form) (f : WrittenFunction) → BeginsOther (function named f)
begins_function named f = begins_async f.is_async (reserved r.Function ∷ (named ++ f.forms)) (begins_reserved r.Function (named ++ f.forms))

begins_parameters : (ns : List Name) → BeginsOther (parameters ns)
begins_parameters ns = begins_enclosed p.OpenParen (listed (map name_forms ns)) p.CloseParen (λ e. cc)

begins_arrow_parameters : (ns : List Name) → BeginsOther (arrow_parameters ns)
begins_arrow_parameters [] = begins_parameters []
begins_arrow_parameters (n ∷ []) = begins_form (arrow_name n) []
    (otherwise_at n.place (tok.Name n.units) false 0 (λ e. cc), (otherwise_just (tok.Punctuator p.OpenParen) false 1 (λ e. cc), (otherwise_just (tok.Punctuator p.OpenParen) false 1 (λ e. cc), tt)))
begins_arrow_parameters (n ∷ m ∷ ns) = begins_parameters (n ∷ m ∷ ns)

pub begins_arrow : (a : Bool) (ns : List Name) (b : List Form) → BeginsOther (arrow a ns b)
begins_arrow a ns b = begins_append (perhaps_async a (arrow_parameters ns)) b (begins_async a (arrow_parameters ns) (begins_arrow_parameters ns))

pub begins_unary : (o : UnaryOp) (gs : List Form) → BeginsOther (unary_form o ∷ gs)
begins_unary unary.Not gs = begins_sign p.Not gs (λ e. cc)
begins_unary unary.Negate gs = begins_sign p.Minus gs (λ e. cc)
begins_unary unary.TypeOf gs = begins_reserved r.TypeOf gs

update_other : (o : UpdateOp) → update_sign o ≡ p.Semicolon → ⊥
update_other update.Increment e = cc
update_other update.Decrement e = cc

pub begins_update : (s : UpdateSide) (o : UpdateOp) (x : Written) → BeginsOther x.forms → BeginsOther (update_forms s o x)
begins_update side.Before o x b = begins_deeper 1 (just (update_sign o) ∷ x.forms) (begins_sign (update_sign o) x.forms (update_other o))
begins_update side.Behind o x b = begins_append x.forms (one (unbroken (sign (update_sign o))) ∷ []) b
