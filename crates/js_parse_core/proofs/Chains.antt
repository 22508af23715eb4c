-- Members, calls, brackets and prefix operators: expressions that the machine reads as operands.
use Rattle.std.proofs.Common.{◌≡◌, ℕ, ◌≤◌, Bool, true, false, not, List, [], ◌∷◌, ◌++◌, Some, refl, sym, ap, ◌∙◌, subst, append_assoc, arith, inl, inr}
use Rattle.std.specs.Prelude.{◌&&◌, nat_le}
use Rattle.std.proofs.lemmas.Bool.{leb-true}
use Rattle.js_lex.specs.declared.token.Punctuator.TheVariants as p
use Rattle.js_lex.specs.declared.token.TemplatePart.TheVariants as part
use Rattle.js_lex.specs.declared.token.TokenKind.{TokenKind}
use Rattle.js_lex.specs.declared.token.TokenKind.TheVariants as tok
use Rattle.js_lex.specs.Front.{name_kind}
use Rattle.js_tree.specs.declared.tree.Expr.{Expr}
use Rattle.js_tree.specs.declared.tree.Expr.TheVariants as expr
use Rattle.js_tree.specs.declared.tree.Name.{Name}
use Rattle.js_grammar.specs.Marks.{Piece, Read, Ended, Form, just, deeper}
use Rattle.js_grammar.specs.Grammar as grammar
use Rattle.js_grammar.specs.Shapes as shapes
use Rattle.js_parse_core.specs.declared.machine.At.TheVariants as at
use Rattle.js_parse_core.specs.declared.machine.Frame.TheVariants as frame
use Rattle.js_parse_core.specs.declared.machine.Outer.{Outer}
use Rattle.js_parse_core.specs.declared.machine.Purpose.{Purpose}
use Rattle.js_parse_core.specs.declared.machine.Purpose.TheVariants as purpose
use Rattle.js_parse_core.specs.declared.machine.State.{State}
use Rattle.js_parse_core.specs.Expressions.{member_of}
use Rattle.js_parse_core.specs.Outer.{Step, plus, constructs, push, push_at}
use Rattle.js_parse_core.specs.Tokens.{any_name, is_open_paren}
use Rattle.js_parse_core.specs.Values.{on_value, waiting}
use Rattle.js_parse_core.proofs.Pieces.{Fits, is_last, taken, run}
use Rattle.js_parse_core.proofs.PieceLemmas.{Split, fits_split, fits_shallow}
use Rattle.js_parse_core.proofs.Words.{both, any_name_is, word_is_read}
use Rattle.js_parse_core.proofs.Readings.{token, token_of, is_proper, closes, kind_closes, Place, free, admits, ends_parameter, Begins, FirstOn, ReadsValue, plus_low, begins_purpose, free_admits}
use Rattle.js_parse_core.proofs.Folding.{follows, behind_ends, tight}
use Rattle.js_parse_core.proofs.FirstTokens.{Then, ThenAt, then_just, then_spelt_at, go}
use Rattle.js_parse_core.proofs.Operands.{is_async_name, is_bare, Ready, Next, Stands, ReadsOperand, operand_at, waiting_at, level_small, stands_operand}
use Rattle.js_grammar.proofs.Equations.{written_member, written_index}
use Rattle.js_parse_core.proofs.ShapeEquations.{shape_member, shape_index}

-- ---- whole values

closes_proper : (k : TokenKind) → kind_closes k ≡ true → is_last k ≡ false
closes_proper (tok.Punctuator a) h = refl
closes_proper (tok.Template a u) h = refl
closes_proper _ h = cc

kind_ends : (k : TokenKind) → kind_closes k ≡ true → follows k ≡ 0
kind_ends (tok.Punctuator p.CloseParen) h = refl
kind_ends (tok.Punctuator p.CloseBracket) h = refl
kind_ends (tok.Punctuator p.CloseBrace) h = refl
kind_ends (tok.Punctuator p.Comma) h = refl
kind_ends (tok.Punctuator p.Semicolon) h = refl
kind_ends (tok.Punctuator p.Colon) h = refl
kind_ends (tok.Punctuator _) h = cc
kind_ends (tok.Template part.Middle u) h = refl
kind_ends (tok.Template part.Tail u) h = refl
kind_ends (tok.Template _ u) h = cc
kind_ends _ h = cc

pub closes_is : (q : Piece) → closes q ≡ true → is_proper q ≡ true
closes_is (Read t) h = by_kind (closes_proper t.kind h)
  where
    by_kind : is_last t.kind ≡ false → is_proper (Read t) ≡ true
    by_kind e = cc
closes_is Ended h = refl

pub closes_ends : (q : Piece) → closes q ≡ true → follows (token_of q).kind ≡ 0
closes_ends (Read t) h = kind_ends t.kind h
closes_ends Ended h = refl

-- what binds so weakly is no `(`
pub no_paren : (k : TokenKind) (n : ℕ) → n ≤ 8 → follows k ≤ n → is_open_paren k ≡ false
no_paren (tok.Punctuator p.OpenParen) n h g = absurd (omega (arith, h, g))
no_paren (tok.Punctuator _) n h g = refl
no_paren _ n h g = refl

-- a whole value, where names may be parameters too
pub value_covered : (x : Expr) → ReadsOperand x → (w : Place) (s : State) (o : Outer) (c : ℕ) (v : Purpose) (ps : List Piece) (q : Piece) (rest : List Piece)
    → Begins w s (push_at o c (frame.Purpose v)) → (shapes.of_expr x).fits ≡ true → admits w (shapes.of_expr x).first ≡ true → (w.covering ≡ true → is_bare x ≡ false)
    → FirstOn w.line (ps ++ q ∷ rest) → Fits (grammar.of_expr x).forms ps → closes q ≡ true
    → run s (ps ++ q ∷ rest) ≡ taken (on_value false o v x (token_of q)) (λ n. run n rest)
value_covered x i w s o c v ps q rest begins fits admits cover line h e =
    let z : follows (token_of q).kind ≡ 0 = closes_ends q e in
    let st : Stands s (push_at o c (frame.Purpose v)) x ps q rest = i.reads w s (push_at o c (frame.Purpose v)) ps q rest
    (record { begins = begins; fits = fits; admits = admits; needs = omega arith; unmixed = refl })
    (record { proper = closes_is q e; follows = omega (arith, z); paren = λ a. no_paren (token_of q).kind 0 (omega arith) (omega (arith, z)); cover = λ a b. let d = cover a in cc })
    line h in
    st.runs ∙ ap (λ (a : Step). taken a (λ n. run n rest)) (behind_ends (push_at o c (frame.Purpose v)) x st.accesses st.chain (token_of q) z)

pub value_of : (x : Expr) → ReadsOperand x → ReadsValue x
value_of x i = record { reads = λ w s o c v ps q rest begins fits admits cover line h e. value_covered x i w s o c v ps q rest begins fits admits (λ a. cc) line h e }

-- behind the token that begins it
pub value_waits : (x : Expr) → ReadsValue x → (o : Outer) (n : ℕ) (v : Purpose) (ps : List Piece) (q : Piece) (rest : List Piece) → Begins free (waiting_at (push o n (frame.Purpose v))) (push o n (frame.Purpose v))
    → (shapes.of_expr x).fits ≡ true → Fits (grammar.of_expr x).forms ps → closes q ≡ true → run (waiting_at (push o n (frame.Purpose v))) (ps ++ q ∷ rest) ≡ taken (on_value false o v x (token_of q)) (λ n. run n rest)
value_waits x i o n v ps q rest b f h e = i.reads free (waiting_at (push o n (frame.Purpose v))) o (plus (constructs o) n) v ps q rest b f (free_admits (shapes.of_expr x).first) refl tt h e

-- ---- chains

pub joined_pieces : (ps a b c ds : List Piece) (t : Piece) → ps ≡ a ++ b → b ≡ t ∷ c → ps ++ ds ≡ a ++ t ∷ (c ++ ds)
joined_pieces ps a b c ds t e f = ap (λ (z : List Piece). z ++ ds) (e ∙ ap (λ (z : List Piece). a ++ z) f) ∙ append_assoc a (t ∷ c) ds

pub record Operand (x : shapes.Shape) (b : Bool) : Type 0 where
  pub fits : x.fits ≡ true
  pub level : 9 ≤ x.level
  pub other : b ≡ true

pub operand_fits : (x : shapes.Shape) (b : Bool) → (shapes.at_least shapes.operand_level x && b) ≡ true → Operand x b
operand_fits x b h =
    let d : (shapes.at_least shapes.operand_level x ≡ true) × (b ≡ true) = both (shapes.at_least shapes.operand_level x) b h in
    let e : (x.fits ≡ true) × (nat_le shapes.operand_level x.level ≡ true) = both x.fits (nat_le shapes.operand_level x.level) d.0 in
    record { fits = e.0; level = leb-true shapes.operand_level x.level e.1; other = d.1 }

-- the operand that a chain begins with
pub ready_left : (w : Place) (s : State) (o : Outer) (x l : Expr) → Ready w s o x → (shapes.of_expr l).fits ≡ true → 9 ≤ (shapes.of_expr l).level → (shapes.of_expr x).first ≡ (shapes.of_expr l).first → Ready w s o l
ready_left w s o x l h f g e = let a = h.needs in let b = level_small x in record {
  begins = h.begins;
  fits = f;
  admits = ap (admits w) (sym e) ∙ h.admits;
  needs = omega (arith, a, b, g);
  unmixed = tight (waiting o) l (omega (arith, g));
}

pub next_token : (w : Place) (x : Expr) (q : ℕ) (l : Bool) (k : TokenKind) → is_last k ≡ false → follows k ≤ (shapes.of_expr x).level → (is_async_name x ≡ true → is_open_paren k ≡ false) → ends_parameter k ≡ false → Next w x (Read (token q l k))
next_token w x q l k e f g h = record { proper = ap not e; follows = f; paren = g; cover = λ a b. h }

-- ---- members

record AnyName (n : Name) (fs : List Form) (ps : List Piece) : Type 0 where
  line : Bool
  kind : TokenKind
  rest : List Piece
  are : ps ≡ Read (token n.place line kind) ∷ rest
  is : any_name n.place kind ≡ Some n
  read : is_last kind ≡ false
  fits : Fits fs rest

then_any_name : (n : Name) (fs : List Form) (ps : List Piece) → Fits (grammar.any_name n ∷ fs) ps → AnyName n fs ps
then_any_name n fs ps h = elim h.3 [
  | inl a ↦ (let t : ThenAt n.place false (tok.Name n.units) fs ps = then_spelt_at n.place false (tok.Name n.units) 0 fs h.0 h.1 ps h.2 a h.4 in
      record { line = t.line; kind = tok.Name n.units; rest = t.rest; are = t.are; is = refl; read = refl; fits = t.fits })
  | inr b ↦ elim b [
    | inl a ↦ (let t : ThenAt n.place false (name_kind n.units) fs ps = then_spelt_at n.place false (name_kind n.units) 0 fs h.0 h.1 ps h.2 a h.4 in
        record { line = t.line; kind = name_kind n.units; rest = t.rest; are = t.are; is = any_name_is n.place n.units; read = word_is_read n.units; fits = t.fits })
    | inr c ↦ absurd c
  ]
]

pub reads_member : (x : Expr) (n : Name) → ReadsOperand x → ReadsOperand (expr.Member x n)
reads_member x n i = record {
  reads = λ w s o ps q rest ready next line h.
      let a = (grammar.of_expr x).accesses in
      let tail = just p.Dot ∷ grammar.any_name n ∷ [] in
      let c : Split (grammar.of_expr x).forms (deeper a (deeper 1 tail)) ps = fits_split (grammar.of_expr x).forms (deeper a (deeper 1 tail)) ps (subst (λ (z : grammar.Written). Fits z.forms ps) (written_member x n) h) in
      let g : Fits tail c.back = fits_shallow 1 tail c.back (fits_shallow a (deeper 1 tail) c.back c.fits_back) in
      let t : Then false (tok.Punctuator p.Dot) (grammar.any_name n ∷ []) c.back = then_just false (tok.Punctuator p.Dot) 0 (grammar.any_name n ∷ []) c.back g in
      let m : AnyName n [] t.rest = then_any_name n [] t.rest t.fits in
      let dot : Piece = Read (token t.place t.line (tok.Punctuator p.Dot)) in
      let whole : ps ++ q ∷ rest ≡ c.front ++ dot ∷ (t.rest ++ q ∷ rest) = joined_pieces ps c.front c.back t.rest (q ∷ rest) dot c.parts t.are in
      let f : Operand (shapes.of_expr x) true = operand_fits (shapes.of_expr x) true (sym (ap (λ (z : shapes.Shape). z.fits) (shape_member x n)) ∙ ready.fits) in
      let v = f.level in
      let st : Stands s o x c.front dot (t.rest ++ q ∷ rest) = i.reads w s o c.front dot (t.rest ++ q ∷ rest)
      (ready_left w s o (expr.Member x n) x ready f.fits f.level (ap (λ (z : shapes.Shape). z.first) (shape_member x n)))
      (next_token w x t.place t.line (tok.Punctuator p.Dot) refl (omega (arith, v)) (λ b. refl) refl)
      (subst (FirstOn w.line) whole line) c.fits_front in
      let named : t.rest ++ q ∷ rest ≡ Read (token n.place m.line m.kind) ∷ (q ∷ rest) = ap (λ (z : List Piece). z ++ q ∷ rest) (m.are ∙ ap (λ (z : List Piece). Read (token n.place m.line m.kind) ∷ z) m.fits) in
      stands_operand w s o (expr.Member x n) (plus st.accesses 1) ps q rest next
      (ap (run s) whole ∙ st.runs ∙ ap (run (record { outer = o; at = at.MemberName x st.accesses })) named
      ∙ go (record { outer = o; at = at.MemberName x st.accesses }) (operand_at o (expr.Member x n) (plus st.accesses 1)) n.place m.line m.kind (q ∷ rest) m.read (ap (member_of o x st.accesses) m.is));
}

pub reads_index : (x k : Expr) → ReadsOperand x → ReadsValue k → ReadsOperand (expr.Index x k)
reads_index x k i j = record {
  reads = λ w s o ps q rest ready next line h.
      let a = (grammar.of_expr x).accesses in
      let inner = (grammar.of_expr k).forms ++ just p.CloseBracket ∷ [] in
      let tail = just p.OpenBracket ∷ inner in
      let c : Split (grammar.of_expr x).forms (deeper a (deeper 1 tail)) ps = fits_split (grammar.of_expr x).forms (deeper a (deeper 1 tail)) ps (subst (λ (z : grammar.Written). Fits z.forms ps) (written_index x k) h) in
      let g : Fits tail c.back = fits_shallow 1 tail c.back (fits_shallow a (deeper 1 tail) c.back c.fits_back) in
      let t : Then false (tok.Punctuator p.OpenBracket) inner c.back = then_just false (tok.Punctuator p.OpenBracket) 0 inner c.back g in
      let d : Split (grammar.of_expr k).forms (just p.CloseBracket ∷ []) t.rest = fits_split (grammar.of_expr k).forms (just p.CloseBracket ∷ []) t.rest t.fits in
      let u : Then false (tok.Punctuator p.CloseBracket) [] d.back = then_just false (tok.Punctuator p.CloseBracket) 0 [] d.back d.fits_back in
      let first : Piece = Read (token t.place t.line (tok.Punctuator p.OpenBracket)) in
      let close : Piece = Read (token u.place u.line (tok.Punctuator p.CloseBracket)) in
      let whole : ps ++ q ∷ rest ≡ c.front ++ first ∷ (t.rest ++ q ∷ rest) = joined_pieces ps c.front c.back t.rest (q ∷ rest) first c.parts t.are in
      let last : t.rest ++ q ∷ rest ≡ d.front ++ close ∷ (q ∷ rest) = joined_pieces t.rest d.front d.back u.rest (q ∷ rest) close d.parts u.are ∙ ap (λ (z : List Piece). d.front ++ close ∷ (z ++ q ∷ rest)) u.fits in
      let f : Operand (shapes.of_expr x) (shapes.of_expr k).fits = operand_fits (shapes.of_expr x) (shapes.of_expr k).fits (sym (ap (λ (z : shapes.Shape). z.fits) (shape_index x k)) ∙ ready.fits) in
      let v = f.level in
      let st : Stands s o x c.front first (t.rest ++ q ∷ rest) = i.reads w s o c.front first (t.rest ++ q ∷ rest)
      (ready_left w s o (expr.Index x k) x ready f.fits f.level (ap (λ (z : shapes.Shape). z.first) (shape_index x k)))
      (next_token w x t.place t.line (tok.Punctuator p.OpenBracket) refl (omega (arith, v)) (λ b. refl) refl)
      (subst (FirstOn w.line) whole line) c.fits_front in
      let n = plus st.accesses 1 in
      let z = purpose.Index x st.accesses in
      stands_operand w s o (expr.Index x k) n ps q rest next
      (ap (run s) whole ∙ st.runs ∙ ap (run (waiting_at (push o n (frame.Purpose z)))) last
      ∙ value_waits k j o n z d.front close (q ∷ rest) (begins_purpose o (plus (constructs o) n) z (plus_low (constructs o) n) refl) f.other d.fits_front refl);
}
