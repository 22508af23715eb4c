-- Arrows are read.
use Rattle.std.proofs.Common.{◌≡◌, ℕ, ◌≤◌, Bool, true, false, cond, not, List, [], ◌∷◌, ◌++◌, ◌⊎◌, map, Ok, refl, sym, ap, ◌∙◌, subst, append_assoc, append-nil, arith, inl, inr}
use Rattle.std.specs.Prelude.{◌||◌, nat_le}
use Rattle.js_lex.specs.declared.token.Punctuator.{Punctuator}
use Rattle.js_lex.specs.declared.token.Punctuator.TheVariants as p
use Rattle.js_lex.specs.declared.token.TokenKind.{TokenKind}
use Rattle.js_lex.specs.declared.token.TokenKind.TheVariants as tok
use Rattle.js_lex.specs.declared.token.Token.{Token}
use Rattle.js_tree.specs.declared.tree.ArrowBody.{ArrowBody}
use Rattle.js_tree.specs.declared.tree.ArrowBody.TheVariants as arrow_body
use Rattle.js_tree.specs.declared.tree.Expr.{Expr, out-Expr}
use Rattle.js_tree.specs.declared.tree.Expr.TheVariants as expr
use Rattle.js_tree.specs.declared.tree.Name.{Name}
use Rattle.js_tree.specs.declared.tree.Stmt.{Stmt}
use Rattle.js_grammar.specs.Marks.{Piece, Read, Just, At, Form, sign, one, just, deeper, listed, more, on_one_line, first_unbroken}
use Rattle.js_grammar.specs.Grammar as grammar
use Rattle.js_grammar.specs.Shapes as shapes
use Rattle.js_parse_core.specs.declared.machine.At.TheVariants as at
use Rattle.js_parse_core.specs.declared.machine.Block.TheVariants as block
use Rattle.js_parse_core.specs.declared.machine.Callee.TheVariants as callee
use Rattle.js_parse_core.specs.declared.machine.Cover.{Cover}
use Rattle.js_parse_core.specs.declared.machine.Cover.TheVariants as covers
use Rattle.js_parse_core.specs.declared.machine.Frame.TheVariants as frame
use Rattle.js_parse_core.specs.declared.machine.Outer.{Outer}
use Rattle.js_parse_core.specs.declared.machine.State.{State}
use Rattle.js_parse_core.specs.declared.machine.Tail.TheVariants as tail
use Rattle.js_parse_core.specs.Begin.{begin, begin_paren}
use Rattle.js_parse_core.specs.Expressions.{after_operand, after_name, after_async, async_kind, has_none, is_async_cover, arrow_of, arrow_value, on_arrow_body}
use Rattle.js_parse_core.specs.Outer.{Step, plus, constructs, push, is_whole, to}
use Rattle.js_parse_core.specs.Tokens.{name, is_async}
use Rattle.js_parse_core.specs.Values.{after_whole}
use Rattle.js_parse_core.proofs.Pieces.{Spells, SpellsOne, Fits, no_limit, take, taken, run}
use Rattle.js_parse_core.proofs.PieceLemmas.{Split, fits_split, fits_shallow, run_step, take_is}
use Rattle.js_parse_core.proofs.Readings.{token, token_of, Place, concise, admits, starts, is_name, NameRead, Begins, FirstOn, ReadsStmts, plus_low, begins_exactly, take_proper}
use Rattle.js_parse_core.proofs.Folding.{needs, whole}
use Rattle.js_parse_core.proofs.FirstTokens.{Spelt, SpeltAt, spelt, spelt_at, Then, ThenAt, then_just, then_at, then_maybe, go, first_on}
use Rattle.js_parse_core.proofs.Operands.{Next, ReadsOperand, out_name}
use Rattle.js_parse_core.proofs.Words.{both}
use Rattle.js_parse_core.proofs.Chains.{joined_pieces}
use Rattle.js_parse_core.proofs.Operators.{tail_value, stands_whole}
use Rattle.js_parse_core.proofs.Items.{last_forms, listed_is, more_is}
use Rattle.js_parse_core.proofs.Groups.{cover_at, covered_name}
use Rattle.js_parse_core.proofs.Literals.{async_units}
use Rattle.js_grammar.proofs.Equations.{written_arrow_expr, written_arrow_statements, written_arrow_value}
use Rattle.js_parse_core.proofs.ShapeEquations.{shape_arrow_expr, shape_arrow_statements, shape_arrow_value}

-- ---- names in brackets

abbrev pub covered_at : Outer → Cover → List Name → Bool → State
covered_at o c ns b = record { outer = o; at = at.Covered c ns b }

-- from behind the bracket and some names on
record Covers (o : Outer) (c : Cover) (before : List Name) (ns : List Name) (ps : List Piece) : Type 0 where
  only : Bool
  runs : (rest : List Piece) → run (cover_at o c before) (ps ++ rest) ≡ run (covered_at o c (before ++ ns) only) rest

covers_none : (o : Outer) (c : Cover) (before : List Name) (ps : List Piece) → Fits (just p.CloseParen ∷ []) ps → Covers o c before [] ps
covers_none o c before ps f =
    let u : Then false (tok.Punctuator p.CloseParen) [] ps = then_just false (tok.Punctuator p.CloseParen) 0 [] ps f in
    let z : Piece = Read (token u.place u.line (tok.Punctuator p.CloseParen)) in
    record {
      only = false;
      runs = λ rest.
          ap (λ (a : List Piece). run (cover_at o c before) (a ++ rest)) (u.are ∙ ap (λ (a : List Piece). z ∷ a) u.fits)
          ∙ go (cover_at o c before) (covered_at o c before false) u.place u.line (tok.Punctuator p.CloseParen) rest refl refl
          ∙ ap (λ (a : List Name). run (covered_at o c a false) rest) (sym (append-nil before));
    }

-- a name, and then pieces that lead on
covers_name : (o : Outer) (c : Cover) (before : List Name) (n : Name) (ns : List Name) (line : Bool) (ps qs : List Piece) (only : Bool) → ps ≡ Read (token n.place line (tok.Name n.units)) ∷ qs
    → ((rest : List Piece) → run (covered_name o c before n) (qs ++ rest) ≡ run (covered_at o c ((before ++ n ∷ []) ++ ns) only) rest) → Covers o c before (n ∷ ns) ps
covers_name o c before n ns line ps qs only e k = record {
  only = only;
  runs = λ rest.
      ap (λ (a : List Piece). run (cover_at o c before) (a ++ rest)) e
      ∙ go (cover_at o c before) (covered_name o c before n) n.place line (tok.Name n.units) (qs ++ rest) refl refl
      ∙ k rest
      ∙ ap (λ (a : List Name). run (covered_at o c a only) rest) (append_assoc before (n ∷ []) ns);
}

-- a comma behind a name
name_comma : (o : Outer) (c : Cover) (before : List Name) (n : Name) (ns : List Name) (q : ℕ) (line : Bool) (ps qs : List Piece) (k : Covers o c (before ++ n ∷ []) ns qs) → ps ≡ Read (token q line (tok.Punctuator p.Comma)) ∷ qs
    → (rest : List Piece) → run (covered_name o c before n) (ps ++ rest) ≡ run (covered_at o c ((before ++ n ∷ []) ++ ns) k.only) rest
name_comma o c before n ns q line ps qs k e rest =
    ap (λ (a : List Piece). run (covered_name o c before n) (a ++ rest)) e
    ∙ go (covered_name o c before n) (cover_at o c (before ++ n ∷ [])) q line (tok.Punctuator p.Comma) (qs ++ rest) refl refl
    ∙ k.runs rest

name_close : (o : Outer) (c : Cover) (before : List Name) (n : Name) (ps : List Piece) → Fits (just p.CloseParen ∷ []) ps
    → (rest : List Piece) → run (covered_name o c before n) (ps ++ rest) ≡ run (covered_at o c ((before ++ n ∷ []) ++ []) (has_none before)) rest
name_close o c before n ps f rest =
    let u : Then false (tok.Punctuator p.CloseParen) [] ps = then_just false (tok.Punctuator p.CloseParen) 0 [] ps f in
    let z : Piece = Read (token u.place u.line (tok.Punctuator p.CloseParen)) in
    let b = has_none before in
    ap (λ (a : List Piece). run (covered_name o c before n) (a ++ rest)) (u.are ∙ ap (λ (a : List Piece). z ∷ a) u.fits)
    ∙ go (covered_name o c before n) (covered_at o c (before ++ n ∷ []) b) u.place u.line (tok.Punctuator p.CloseParen) rest refl refl
    ∙ ap (λ (a : List Name). run (covered_at o c a b) rest) (sym (append-nil (before ++ n ∷ [])))

abbrev names_forms : List Name → List (List Form)
names_forms ns = map grammar.name_forms ns

covers_more : (o : Outer) (c : Cover) (before : List Name) (n : Name) (ns : List Name) (ps : List Piece) → ((qs : List Piece) → Fits (listed (names_forms ns) ++ just p.CloseParen ∷ []) qs → Covers o c (before ++ n ∷ []) ns qs)
    → Fits (listed (names_forms (n ∷ ns)) ++ just p.CloseParen ∷ []) ps → Covers o c before (n ∷ ns) ps
covers_more o c before n [] ps k f =
    let others = last_forms p.CloseParen in
    let t : ThenAt n.place false (tok.Name n.units) others ps = then_at n.place false (tok.Name n.units) 0 others ps (subst (λ (z : List Form). Fits z ps) (listed_is (grammar.name_forms n) [] p.CloseParen) f) in
    elim (then_maybe false (tok.Punctuator p.Comma) 0 (just p.CloseParen ∷ []) t.rest t.fits) [
      | inl u ↦ (let d : Covers o c (before ++ n ∷ []) [] u.rest = k u.rest u.fits in
          covers_name o c before n [] t.line ps t.rest d.only t.are (name_comma o c before n [] u.place u.line t.rest u.rest d u.are))
      | inr e ↦ covers_name o c before n [] t.line ps t.rest (has_none before) t.are (name_close o c before n t.rest e)
    ]
covers_more o c before n (m ∷ ns) ps k f =
    let others = more (names_forms (m ∷ ns)) ++ last_forms p.CloseParen in
    let t : ThenAt n.place false (tok.Name n.units) others ps = then_at n.place false (tok.Name n.units) 0 others ps (subst (λ (z : List Form). Fits z ps) (listed_is (grammar.name_forms n) (names_forms (m ∷ ns)) p.CloseParen) f) in
    let fm = grammar.name_forms m in
    let inner = fm ++ (more (names_forms ns) ++ last_forms p.CloseParen) in
    let u : Then false (tok.Punctuator p.Comma) inner t.rest = then_just false (tok.Punctuator p.Comma) 0 inner t.rest (subst (λ (z : List Form). Fits z t.rest) (more_is fm (names_forms ns) p.CloseParen) t.fits) in
    let d : Covers o c (before ++ n ∷ []) (m ∷ ns) u.rest = k u.rest (subst (λ (z : List Form). Fits z u.rest) (sym (listed_is fm (names_forms ns) p.CloseParen)) u.fits) in
    covers_name o c before n (m ∷ ns) t.line ps t.rest d.only t.are (name_comma o c before n (m ∷ ns) u.place u.line t.rest u.rest d u.are)

covers_names : (o : Outer) (c : Cover) (ns : List Name) (before : List Name) (ps : List Piece) → Fits (listed (names_forms ns) ++ just p.CloseParen ∷ []) ps → Covers o c before ns ps
covers_names o c [] before ps f = covers_none o c before ps f
covers_names o c (n ∷ ns) before ps f = covers_more o c before n ns ps (λ qs g. covers_names o c ns (before ++ n ∷ []) qs g) f

-- ---- parameters

-- one name, or names in brackets; the first token has no line end before it where u is true
data Parameters (u : Bool) (ns : List Name) (ps : List Piece) : Type 0 where
  One : (n : Name) (line : Bool) → ns ≡ n ∷ [] → (u ≡ true → line ≡ false) → ps ≡ Read (token n.place line (tok.Name n.units)) ∷ [] → Parameters u ns ps
  Several : (q : ℕ) (line : Bool) (rest : List Piece) → (u ≡ true → line ≡ false) → ps ≡ Read (token q line (tok.Punctuator p.OpenParen)) ∷ rest → ((o : Outer) (c : Cover) → Covers o c [] ns rest) → Parameters u ns ps

-- one name in brackets
one_closed : (o : Outer) (c : Cover) (n : Name) (ps : List Piece) → Spells (grammar.bracketed_mark (grammar.name_mark n) ∷ grammar.bracketed_mark (sign p.CloseParen) ∷ []) ps → Covers o c [] (n ∷ []) ps
one_closed o c n ps s =
    let t : SpeltAt n.place (tok.Name n.units) false (grammar.bracketed_mark (sign p.CloseParen) ∷ []) ps = spelt_at n.place (tok.Name n.units) false 1 (grammar.bracketed_mark (sign p.CloseParen) ∷ []) ps s in
    let u : Spelt (tok.Punctuator p.CloseParen) false [] t.rest = spelt (tok.Punctuator p.CloseParen) false 1 [] t.rest t.others in
    let z : Piece = Read (token u.place u.line (tok.Punctuator p.CloseParen)) in
    covers_name o c [] n [] t.line ps t.rest true t.are
    (λ rest. ap (λ (a : List Piece). run (covered_name o c [] n) (a ++ rest)) (u.are ∙ ap (λ (a : List Piece). z ∷ a) u.others)
    ∙ go (covered_name o c [] n) (covered_at o c (n ∷ []) true) u.place u.line (tok.Punctuator p.CloseParen) rest refl refl)

one_comma : (o : Outer) (c : Cover) (n : Name) (ps : List Piece) → Spells (grammar.bracketed_mark (grammar.name_mark n) ∷ grammar.bracketed_mark (sign p.Comma) ∷ grammar.bracketed_mark (sign p.CloseParen) ∷ []) ps → Covers o c [] (n ∷ []) ps
one_comma o c n ps s =
    let ms = grammar.bracketed_mark (sign p.Comma) ∷ grammar.bracketed_mark (sign p.CloseParen) ∷ [] in
    let t : SpeltAt n.place (tok.Name n.units) false ms ps = spelt_at n.place (tok.Name n.units) false 1 ms ps s in
    let v : Spelt (tok.Punctuator p.Comma) false (grammar.bracketed_mark (sign p.CloseParen) ∷ []) t.rest = spelt (tok.Punctuator p.Comma) false 1 (grammar.bracketed_mark (sign p.CloseParen) ∷ []) t.rest t.others in
    let u : Spelt (tok.Punctuator p.CloseParen) false [] v.rest = spelt (tok.Punctuator p.CloseParen) false 1 [] v.rest v.others in
    let y : Piece = Read (token v.place v.line (tok.Punctuator p.Comma)) in
    let z : Piece = Read (token u.place u.line (tok.Punctuator p.CloseParen)) in
    covers_name o c [] n [] t.line ps t.rest false t.are
    (λ rest. ap (λ (a : List Piece). run (covered_name o c [] n) (a ++ rest)) (v.are ∙ ap (λ (a : List Piece). y ∷ a) (u.are ∙ ap (λ (a : List Piece). z ∷ a) u.others))
    ∙ go (covered_name o c [] n) (cover_at o c (n ∷ [])) v.place v.line (tok.Punctuator p.Comma) (z ∷ rest) refl refl
    ∙ go (cover_at o c (n ∷ [])) (covered_at o c (n ∷ []) false) u.place u.line (tok.Punctuator p.CloseParen) rest refl refl)

abbrev lined : Bool → List Form → List Form
lined true fs = on_one_line fs
lined false fs = fs

one_name : (u : Bool) (n : Name) (ps : List Piece)
    → (Spells (record { want = At n.place (tok.Name n.units); unbroken = u; constructs = 0 } ∷ []) ps
    ⊎ (Spells (record { want = Just (tok.Punctuator p.OpenParen); unbroken = u; constructs = 1 } ∷ grammar.bracketed_mark (grammar.name_mark n) ∷ grammar.bracketed_mark (sign p.CloseParen) ∷ []) ps
    ⊎ (Spells (record { want = Just (tok.Punctuator p.OpenParen); unbroken = u; constructs = 1 } ∷ grammar.bracketed_mark (grammar.name_mark n) ∷ grammar.bracketed_mark (sign p.Comma) ∷ grammar.bracketed_mark (sign p.CloseParen) ∷ []) ps
    ⊎ ⊥)))
    → Parameters u (n ∷ []) ps
one_name u n ps h = elim h [
  | inl a ↦ (let t : SpeltAt n.place (tok.Name n.units) u [] ps = spelt_at n.place (tok.Name n.units) u 0 [] ps a in
      One n t.line refl t.unbroken_is (t.are ∙ ap (λ (z : List Piece). Read (token n.place t.line (tok.Name n.units)) ∷ z) t.others))
  | inr b ↦ elim b [
    | inl a ↦ (let ms = grammar.bracketed_mark (grammar.name_mark n) ∷ grammar.bracketed_mark (sign p.CloseParen) ∷ [] in
        let t : Spelt (tok.Punctuator p.OpenParen) u ms ps = spelt (tok.Punctuator p.OpenParen) u 1 ms ps a in
        Several t.place t.line t.rest t.unbroken_is t.are (λ o c. one_closed o c n t.rest t.others))
    | inr d ↦ elim d [
      | inl a ↦ (let ms = grammar.bracketed_mark (grammar.name_mark n) ∷ grammar.bracketed_mark (sign p.Comma) ∷ grammar.bracketed_mark (sign p.CloseParen) ∷ [] in
          let t : Spelt (tok.Punctuator p.OpenParen) u ms ps = spelt (tok.Punctuator p.OpenParen) u 1 ms ps a in
          Several t.place t.line t.rest t.unbroken_is t.are (λ o c. one_comma o c n t.rest t.others))
      | inr e ↦ absurd e
    ]
  ]
]

-- names in brackets, none or several
several : (u : Bool) (ns : List Name) (ps : List Piece) → Fits (one (record { want = Just (tok.Punctuator p.OpenParen); unbroken = u; constructs = 1 }) ∷ deeper 1 (listed (names_forms ns) ++ just p.CloseParen ∷ [])) ps → Parameters u ns ps
several u ns ps h =
    let inner = listed (names_forms ns) ++ just p.CloseParen ∷ [] in
    let t : Then u (tok.Punctuator p.OpenParen) (deeper 1 inner) ps = then_just u (tok.Punctuator p.OpenParen) 1 (deeper 1 inner) ps h in
    Several t.place t.line t.rest t.unbroken t.are (λ o c. covers_names o c ns [] t.rest (fits_shallow 1 inner t.rest t.fits))

-- the only form's pieces
only_form : (f : Form) (ps : List Piece) → Fits (f ∷ []) ps → SpellsOne f ps
only_form f ps h = subst (SpellsOne f) (sym (h.2 ∙ ap (λ (z : List Piece). h.0 ++ z) h.4 ∙ append-nil h.0)) h.3

parameters_are : (u : Bool) (ns : List Name) (ps : List Piece) → Fits (lined u (grammar.arrow_parameters ns)) ps → Parameters u ns ps
parameters_are true (n ∷ []) ps h = one_name true n ps (only_form (map first_unbroken (grammar.arrow_name n)) ps h)
parameters_are false (n ∷ []) ps h = one_name false n ps (only_form (grammar.arrow_name n) ps h)
parameters_are true [] ps h = several true [] ps h
parameters_are false [] ps h = several false [] ps h
parameters_are true (n ∷ m ∷ ns) ps h = several true (n ∷ m ∷ ns) ps h
parameters_are false (n ∷ m ∷ ns) ps h = several false (n ∷ m ∷ ns) ps h

-- ---- up to the arrow

abbrev pub body_at : Outer → Bool → List Name → State
body_at o a ns = record { outer = o; at = at.ArrowBody a ns }

abbrev pub arrow_token : ℕ → Token
arrow_token q = token q false (tok.Punctuator p.Arrow)

covered_arrow : (o : Outer) (c : Cover) (ns : List Name) (b : Bool) (q : ℕ) (rest : List Piece) → run (covered_at o c ns b) (Read (arrow_token q) ∷ rest) ≡ run (body_at o (is_async_cover c) ns) rest
covered_arrow o c ns b q rest = go (covered_at o c ns b) (body_at o (is_async_cover c) ns) q false (tok.Punctuator p.Arrow) rest refl refl

-- a name that an arrow follows
name_arrow : (o : Outer) (n : Name) (q : ℕ) → is_whole o ≡ true → after_name false o n (arrow_token q) ≡ Ok (body_at o false (n ∷ []))
name_arrow o n q h = by_letters (is_async n.units)
  where
    operand : after_operand false o (expr.Name n) 0 (arrow_token q) ≡ Ok (body_at o false (n ∷ []))
    operand = ap (λ (b : Bool). cond (not b) (after_whole false o (expr.Name n) (arrow_token q)) (arrow_of false o (expr.Name n) (arrow_token q) (out-Expr (expr.Name n)))) h
        ∙ ap (arrow_of false o (expr.Name n) (arrow_token q)) (out_name n)

    by_letters : (b : Bool) → cond b (after_async false o n (arrow_token q)) (after_operand false o (expr.Name n) 0 (arrow_token q)) ≡ Ok (body_at o false (n ∷ []))
    by_letters true = operand
    by_letters false = operand

arrow_head : (w : Place) (s : State) (o : Outer) (ns : List Name) (ps : List Piece) (q : ℕ) (rest : List Piece) → Begins w s o → is_whole o ≡ true → FirstOn w.line (ps ++ Read (arrow_token q) ∷ rest) → Parameters false ns ps
    → run s (ps ++ Read (arrow_token q) ∷ rest) ≡ run (body_at o false ns) rest
arrow_head w s o ns ps q rest b h line (One n l e u f) =
    let k = tok.Name n.units in
    let on : w.line ≡ true → l ≡ false = first_on w.line (token n.place l k) (Read (arrow_token q) ∷ rest) (subst (λ (z : List Piece). FirstOn w.line (z ++ Read (arrow_token q) ∷ rest)) f line) in
    let r : NameRead w s o n.place l n.units = b.names n.place l n.units on in
    ap (λ (z : List Piece). run s (z ++ Read (arrow_token q) ∷ rest)) f
    ∙ run_step s r.next (Read (token n.place l k)) (Read (arrow_token q) ∷ rest) r.takes
    ∙ ap (λ (z : Step). taken z (λ m. run m rest)) (r.acts (Read (arrow_token q)) refl (λ c. refl) ∙ name_arrow o n q h)
    ∙ ap (λ (z : List Name). run (body_at o false z) rest) (sym e)
arrow_head w s o ns ps q rest b h line (Several a l qs u f k) =
    let paren : Token = token a l (tok.Punctuator p.OpenParen) in
    let on : w.line ≡ true → l ≡ false = first_on w.line paren (qs ++ Read (arrow_token q) ∷ rest) (subst (λ (z : List Piece). FirstOn w.line (z ++ Read (arrow_token q) ∷ rest)) f line) in
    let c : Covers o covers.Plain [] ns qs = k o covers.Plain in
    ap (λ (z : List Piece). run s (z ++ Read (arrow_token q) ∷ rest)) f
    ∙ run_step s (cover_at o covers.Plain []) (Read paren) (qs ++ Read (arrow_token q) ∷ rest) (b.begins a l (tok.Punctuator p.OpenParen) on refl ∙ ap (begin_paren o) h)
    ∙ c.runs (Read (arrow_token q) ∷ rest)
    ∙ covered_arrow o covers.Plain ns c.only q rest

-- .. of an `async` arrow
-- the token behind `async`, on its line
async_acts : (o : Outer) (q a : ℕ) (l : Bool) (k : TokenKind) → l ≡ false → after_name false o (name q async_units) (token a l k) ≡ async_kind false o (name q async_units) (token a false k) k
async_acts o q a l k e = ap (λ (z : Bool). after_name false o (name q async_units) (token a z k)) e

async_head : (w : Place) (s : State) (o : Outer) (ns : List Name) (ps : List Piece) (a : ℕ) (l : Bool) (q : ℕ) (rest : List Piece) → Begins w s o → is_whole o ≡ true → (w.line ≡ true → l ≡ false) → Parameters true ns ps
    → run s (Read (token a l (tok.Name async_units)) ∷ (ps ++ Read (arrow_token q) ∷ rest)) ≡ run (body_at o true ns) rest
async_head w s o ns ps a l q rest b h on (One n m e u f) =
    let k = tok.Name n.units in
    let r : NameRead w s o a l async_units = b.names a l async_units on in
    let arrow_at : State = record { outer = o; at = at.Arrow true (n ∷ []) } in
    run_step s r.next (Read (token a l (tok.Name async_units))) (ps ++ Read (arrow_token q) ∷ rest) r.takes
    ∙ ap (λ (z : List Piece). run r.next (z ++ Read (arrow_token q) ∷ rest)) f
    ∙ ap (λ (z : Step). taken z (λ c. run c (Read (arrow_token q) ∷ rest)))
    (r.acts (Read (token n.place m k)) refl (λ c. refl) ∙ async_acts o a n.place m k (u refl)
    ∙ ap (λ (z : Bool). cond z (to o (at.Arrow true (n ∷ []))) (after_operand false o (expr.Name (name a async_units)) 0 (token n.place false k))) h)
    ∙ go arrow_at (body_at o true (n ∷ [])) q false (tok.Punctuator p.Arrow) rest refl refl
    ∙ ap (λ (z : List Name). run (body_at o true z) rest) (sym e)
async_head w s o ns ps a l q rest b h on (Several d m qs u f k) =
    let kp = tok.Punctuator p.OpenParen in
    let r : NameRead w s o a l async_units = b.names a l async_units on in
    let v = covers.Async (name a async_units) in
    let c : Covers o v [] ns qs = k o v in
    run_step s r.next (Read (token a l (tok.Name async_units))) (ps ++ Read (arrow_token q) ∷ rest) r.takes
    ∙ ap (λ (z : List Piece). run r.next (z ++ Read (arrow_token q) ∷ rest)) f
    ∙ ap (λ (z : Step). taken z (λ e. run e (qs ++ Read (arrow_token q) ∷ rest)))
    (r.acts (Read (token d m kp)) refl (λ e. refl) ∙ async_acts o a d m kp (u refl)
    ∙ ap (λ (z : Bool). cond z (to o (at.CoverOpen v [])) (to o (at.NextArgument (callee.Value (expr.Name (name a async_units)) 0) []))) h)
    ∙ c.runs (Read (arrow_token q) ∷ rest)
    ∙ covered_arrow o v ns c.only q rest

arrow_reaches : (w : Place) (s : State) (o : Outer) (a : Bool) (ns : List Name) (ps : List Piece) (q : ℕ) (rest : List Piece) → Begins w s o → is_whole o ≡ true → FirstOn w.line (ps ++ Read (arrow_token q) ∷ rest)
    → Fits (grammar.perhaps_async a (grammar.arrow_parameters ns)) ps → run s (ps ++ Read (arrow_token q) ∷ rest) ≡ run (body_at o a ns) rest
arrow_reaches w s o false ns ps q rest b h line f = arrow_head w s o ns ps q rest b h line (parameters_are false ns ps f)
arrow_reaches w s o true ns ps q rest b h line f =
    let ka = tok.Name async_units in
    let t : Then false ka (on_one_line (grammar.arrow_parameters ns)) ps = then_just false ka 0 (on_one_line (grammar.arrow_parameters ns)) ps f in
    let on : w.line ≡ true → t.line ≡ false = first_on w.line (token t.place t.line ka) (t.rest ++ Read (arrow_token q) ∷ rest) (subst (λ (z : List Piece). FirstOn w.line (z ++ Read (arrow_token q) ∷ rest)) t.are line) in
    ap (λ (z : List Piece). run s (z ++ Read (arrow_token q) ∷ rest)) t.are
    ∙ async_head w s o ns t.rest t.place t.line q rest b h on (parameters_are true ns t.rest t.fits)

-- ---- bodies

-- The arrow is on its line, and the body is read.
pub record BodyRead (o : Outer) (a : Bool) (ns : List Name) (b : ArrowBody) (ps : List Piece) (q : Piece) (rest : List Piece) : Type 0 where
  pub place : ℕ
  pub others : List Piece
  pub are : ps ≡ Read (arrow_token place) ∷ others
  pub runs : run (body_at o a ns) (others ++ q ∷ rest) ≡ taken (after_whole false o (expr.Arrow a ns b) (token_of q)) (λ n. run n rest)

-- The arrow and the body, behind the parameters.
pub record ReadsArrow (b : ArrowBody) : Type 0 where
  pub reads : (w : Place) (o : Outer) (a : Bool) (ns : List Name) (ps : List Piece) (q : Piece) (rest : List Piece) → needs o.frames ≤ 0 → nat_le no_limit (constructs o) ≡ false → shapes.of_arrow_body b ≡ true
      → Next w (expr.Arrow a ns b) q → Fits (grammar.of_arrow_body b) ps → BodyRead o a ns b ps q rest

pub reads_arrow_statements : (ss : List Stmt) → ReadsStmts ss → ReadsArrow (arrow_body.Statements ss)
reads_arrow_statements ss i = record {
  reads = λ w o a ns ps q rest h low f next g.
      let inner = grammar.statements (map grammar.of_stmt ss) ++ just p.CloseBrace ∷ [] in
      let tail = just p.OpenBrace ∷ inner in
      let t : Then true (tok.Punctuator p.Arrow) (deeper 1 tail) ps = then_just true (tok.Punctuator p.Arrow) 0 (deeper 1 tail) ps (subst (λ (z : List Form). Fits z ps) (written_arrow_statements ss) g) in
      let u : Then false (tok.Punctuator p.OpenBrace) inner t.rest = then_just false (tok.Punctuator p.OpenBrace) 0 inner t.rest (fits_shallow 1 tail t.rest t.fits) in
      let c : Split (grammar.statements (map grammar.of_stmt ss)) (just p.CloseBrace ∷ []) u.rest = fits_split (grammar.statements (map grammar.of_stmt ss)) (just p.CloseBrace ∷ []) u.rest u.fits in
      let v : Then false (tok.Punctuator p.CloseBrace) [] c.back = then_just false (tok.Punctuator p.CloseBrace) 0 [] c.back c.fits_back in
      let brace : Piece = Read (token u.place u.line (tok.Punctuator p.OpenBrace)) in
      let last : Piece = Read (token v.place v.line (tok.Punctuator p.CloseBrace)) in
      let y = expr.Arrow a ns (arrow_body.Statements ss) in
      let inside : State = record { outer = push o 1 (frame.Block (block.Arrow a ns) []); at = at.Statement } in
      let behind : State = record { outer = o; at = at.Whole y } in
      let all : t.rest ++ q ∷ rest ≡ brace ∷ (c.front ++ last ∷ (q ∷ rest)) = ap (λ (z : List Piece). z ++ q ∷ rest) u.are
      ∙ ap (λ (z : List Piece). brace ∷ z) (joined_pieces u.rest c.front c.back v.rest (q ∷ rest) last c.parts v.are ∙ ap (λ (z : List Piece). c.front ++ last ∷ (z ++ q ∷ rest)) v.fits) in
      record {
        place = t.place;
        others = t.rest;
        are = t.are ∙ ap (λ (z : Bool). Read (token t.place z (tok.Punctuator p.Arrow)) ∷ t.rest) (t.unbroken refl);
        runs = ap (run (body_at o a ns)) all
            ∙ go (body_at o a ns) inside u.place u.line (tok.Punctuator p.OpenBrace) (c.front ++ last ∷ (q ∷ rest)) refl refl
            ∙ i.reads o (plus (constructs o) 1) (block.Arrow a ns) c.front v.place v.line (q ∷ rest) (sym (shape_arrow_statements ss) ∙ f) c.fits_front
            ∙ ap (λ (z : Step). taken z (λ n. run n rest)) (take_proper behind q next.proper refl);
      };
}

-- a body that is an expression
concise_begins : (o : Outer) (a : Bool) (ns : List Name) → nat_le no_limit (constructs o) ≡ false → Begins concise (body_at o a ns) (push o 1 (frame.Tail (tail.Arrow a ns)))
concise_begins o a ns low = begins_exactly concise (body_at o a ns) under (plus_low (constructs o) 1) refl (λ h. refl) (λ q l k line h. by_kind q l k h)
  where
    under : Outer
    under = push o 1 (frame.Tail (tail.Arrow a ns))

    made : (t : Token) → arrow_value (nat_le no_limit (constructs o)) (begin under t) ≡ begin under t
    made t = ap (λ (z : Bool). arrow_value z (begin under t)) low

    by_sign : (q : ℕ) (l : Bool) (s : Punctuator) → (is_name (tok.Punctuator s) || starts concise (tok.Punctuator s)) ≡ true → on_arrow_body no_limit o a ns (token q l (tok.Punctuator s)) ≡ begin under (token q l (tok.Punctuator s))
    by_sign q l p.OpenBrace h = cc
    by_sign q l s h = made (token q l (tok.Punctuator s))

    by_kind : (q : ℕ) (l : Bool) (k : TokenKind) → (is_name k || starts concise k) ≡ true → take (body_at o a ns) (Read (token q l k)) ≡ begin under (token q l k)
    by_kind q l (tok.Punctuator s) h = take_is (body_at o a ns) (token q l (tok.Punctuator s)) refl ∙ by_sign q l s h
    by_kind q l tok.End h = cc
    by_kind q l (tok.Bad b) h = cc
    by_kind q l k h = take_is (body_at o a ns) (token q l k) refl ∙ made (token q l k)

concise_admits : (f : shapes.First) → not (shapes.is_brace f) ≡ true → admits concise f ≡ true
concise_admits shapes.Brace h = cc
concise_admits shapes.FunctionWord h = refl
concise_admits shapes.OtherFirst h = refl

pub reads_arrow_value : (x : Expr) → ReadsOperand x → ReadsArrow (arrow_body.Value x)
reads_arrow_value x i = record {
  reads = λ w o a ns ps q rest h low f next g.
      let fx = (grammar.of_expr x).forms in
      let t : Then true (tok.Punctuator p.Arrow) fx ps = then_just true (tok.Punctuator p.Arrow) 0 fx ps (fits_shallow 1 (grammar.arrow_sign ∷ fx) ps (subst (λ (z : List Form). Fits z ps) (written_arrow_value x) g)) in
      let e : ((shapes.of_expr x).fits ≡ true) × (not (shapes.is_brace (shapes.of_expr x).first) ≡ true) = both (shapes.of_expr x).fits (not (shapes.is_brace (shapes.of_expr x).first)) (sym (shape_arrow_value x) ∙ f) in
      record {
        place = t.place;
        others = t.rest;
        are = t.are ∙ ap (λ (z : Bool). Read (token t.place z (tok.Punctuator p.Arrow)) ∷ t.rest) (t.unbroken refl);
        runs = tail_value x (expr.Arrow a ns (arrow_body.Value x)) (tail.Arrow a ns) w o t.rest q rest i refl (ap (λ (z : shapes.Shape). z.level) (shape_arrow_expr a ns (arrow_body.Value x))) next h e.0
            concise (body_at o a ns) (concise_begins o a ns low) (concise_admits (shapes.of_expr x).first e.1) refl tt t.fits;
      };
}

pub reads_arrow : (a : Bool) (ns : List Name) (b : ArrowBody) → ReadsArrow b → ReadsOperand (expr.Arrow a ns b)
reads_arrow a ns b i = record {
  reads = λ w s o ps q rest ready next line h.
      let y = expr.Arrow a ns b in
      let head = grammar.perhaps_async a (grammar.arrow_parameters ns) in
      let c : Split head (grammar.of_arrow_body b) ps = fits_split head (grammar.of_arrow_body b) ps (subst (λ (z : grammar.Written). Fits z.forms ps) (written_arrow_expr a ns b) h) in
      let level : (shapes.of_expr y).level ≡ 0 = ap (λ (z : shapes.Shape). z.level) (shape_arrow_expr a ns b) in
      let n = ready.needs in
      let zero_needs : needs o.frames ≤ 0 = omega (arith, n, level) in
      let r : BodyRead o a ns b c.back q rest = i.reads w o a ns c.back q rest zero_needs ready.begins.low (sym (ap (λ (z : shapes.Shape). z.fits) (shape_arrow_expr a ns b)) ∙ ready.fits) next c.fits_back in
      let all : ps ++ q ∷ rest ≡ c.front ++ Read (arrow_token r.place) ∷ (r.others ++ q ∷ rest) = joined_pieces ps c.front c.back r.others (q ∷ rest) (Read (arrow_token r.place)) c.parts r.are in
      stands_whole w s o y ps q rest next level
      (ap (run s) all
      ∙ arrow_reaches w s o a ns c.front r.place (r.others ++ q ∷ rest) ready.begins (whole o zero_needs) (subst (FirstOn w.line) all line) c.fits_front
      ∙ r.runs);
}
