-- Names in brackets: calls of `async`, and the parameters of arrows.
use Rattle.std.proofs.Common.{◌≡◌, ◌≤◌, Bool, true, false, cond, List, [], ◌∷◌, ◌++◌, ◌⊎◌, map, refl, sym, ap, ◌∙◌, subst, append_assoc, append-nil, inl, inr}
use Rattle.js_lex.specs.declared.token.Punctuator.TheVariants as p
use Rattle.js_lex.specs.declared.token.TokenKind.{TokenKind}
use Rattle.js_lex.specs.declared.token.TokenKind.TheVariants as tok
use Rattle.js_lex.specs.declared.token.Token.{Token}
use Rattle.js_tree.specs.Targets.{Node}
use Rattle.js_tree.specs.declared.tree.ArrowBody.TheOpen.{Expr-F}
use Rattle.js_tree.specs.declared.tree.Expr.{Expr, out-Expr, roll-Expr, out-roll-Expr, roll-out-Expr}
use Rattle.js_tree.specs.declared.tree.Expr.TheVariants as expr
use Rattle.js_tree.specs.declared.tree.Name.{Name}
use Rattle.js_grammar.specs.Marks.{Piece, Read, Form, just, deeper, listed, more}
use Rattle.js_grammar.specs.Grammar as grammar
use Rattle.js_grammar.specs.Shapes as shapes
use Rattle.js_parse_core.specs.declared.machine.At.TheVariants as at
use Rattle.js_parse_core.specs.declared.machine.Callee.TheVariants as callee
use Rattle.js_parse_core.specs.declared.machine.Cover.TheVariants as covers
use Rattle.js_parse_core.specs.declared.machine.Outer.{Outer}
use Rattle.js_parse_core.specs.declared.machine.Purpose.TheVariants as purpose
use Rattle.js_parse_core.specs.Expressions.{after_operand, after_name, after_async, async_kind, operand_kind, as_values, has_none}
use Rattle.js_parse_core.specs.Outer.{Step, plus, constructs, is_whole, to}
use Rattle.js_parse_core.specs.Tokens.{is_async}
use Rattle.js_parse_core.proofs.Pieces.{Fits, taken, run}
use Rattle.js_parse_core.proofs.PieceLemmas.{Split, fits_split, fits_shallow, run_step}
use Rattle.js_parse_core.proofs.Readings.{token, token_of, is_proper, covered, NameRead, FirstOn, take_proper, covered_admits}
use Rattle.js_parse_core.proofs.Folding.{follows}
use Rattle.js_parse_core.proofs.FirstTokens.{Then, ThenAt, then_just, then_at, then_maybe, go, first_on}
use Rattle.js_parse_core.proofs.Operands.{ReadsOperand, is_async_name, is_bare, operand_at, follows_small, stands_operand, async_node}
use Rattle.js_parse_core.proofs.Words.{both}
use Rattle.js_parse_core.proofs.Chains.{joined_pieces, value_covered}
use Rattle.js_parse_core.proofs.Items.{Each, exprs, forms_of, last_forms, listed_is, more_is, items_more, arguments, arguments_read, reads_call}
use Rattle.js_parse_core.proofs.Groups.{cover_at, covered_name, begins_cover, BareName, bare_or_not, covered_acts}
use Rattle.js_grammar.proofs.Equations.{written_name, written_call}
use Rattle.js_parse_core.proofs.ShapeEquations.{shape_call}

-- ---- calls of `async`

as_values_more : (ns : List Name) (n : Name) → as_values (ns ++ n ∷ []) ≡ as_values ns ++ expr.Name n ∷ []
as_values_more [] n = refl
as_values_more (m ∷ ns) n = ap (λ (z : List Expr). expr.Name m ∷ z) (as_values_more ns n)

-- from behind some arguments that are names on
record Called (o : Outer) (n : Name) (ns : List Name) (ys : List Each) : Type 0 where
  called : (ps : List Piece) (q : Piece) (rest : List Piece) → is_proper q ≡ true → follows (token_of q).kind ≤ 9 → Fits (listed (forms_of ys) ++ just p.CloseParen ∷ []) ps
      → run (cover_at o (covers.Async n) ns) (ps ++ q ∷ rest) ≡ run (operand_at o (expr.Call (expr.Name n) (as_values ns ++ exprs ys)) 1) (q ∷ rest)

called_covered : (o : Outer) (n : Name) (ns : List Name) (b : Bool) (q : Piece) (rest : List Piece) → is_proper q ≡ true → follows (token_of q).kind ≤ 9
    → run (record { outer = o; at = at.Covered (covers.Async n) ns b }) (q ∷ rest) ≡ run (operand_at o (expr.Call (expr.Name n) (as_values ns)) 1) (q ∷ rest)
called_covered o n ns b q rest h g = ap (λ (z : Step). taken z (λ m. run m rest)) (covered_acts o (covers.Async n) ns b q h g ∙ sym (take_proper (operand_at o (expr.Call (expr.Name n) (as_values ns)) 1) q h refl))

called_none : (o : Outer) (n : Name) (ns : List Name) → Called o n ns []
called_none o n ns = record {
  called = λ ps q rest h g f.
      let u : Then false (tok.Punctuator p.CloseParen) [] ps = then_just false (tok.Punctuator p.CloseParen) 0 [] ps f in
      let z : Piece = Read (token u.place u.line (tok.Punctuator p.CloseParen)) in
      let c = covers.Async n in
      ap (λ (a : List Piece). run (cover_at o c ns) (a ++ q ∷ rest)) (u.are ∙ ap (λ (a : List Piece). z ∷ a) u.fits)
      ∙ go (cover_at o c ns) (record { outer = o; at = at.Covered c ns false }) u.place u.line (tok.Punctuator p.CloseParen) (q ∷ rest) refl refl
      ∙ called_covered o n ns false q rest h g
      ∙ ap (λ (a : List Expr). run (operand_at o (expr.Call (expr.Name n) a) 1) (q ∷ rest)) (sym (append-nil (as_values ns)));
}

-- from behind a name on
name_more : (o : Outer) (n m : Name) (ns : List Name) (ys : List Each) → Called o n (ns ++ m ∷ []) ys → (ps : List Piece) (q : Piece) (rest : List Piece) → is_proper q ≡ true → follows (token_of q).kind ≤ 9
    → Fits (more (forms_of ys) ++ last_forms p.CloseParen) ps
    → run (covered_name o (covers.Async n) ns m) (ps ++ q ∷ rest) ≡ run (operand_at o (expr.Call (expr.Name n) (as_values (ns ++ m ∷ []) ++ exprs ys)) 1) (q ∷ rest)
name_more o n m ns [] k ps q rest h g f = elim (then_maybe false (tok.Punctuator p.Comma) 0 (just p.CloseParen ∷ []) ps f) [
  | inl t ↦ ap (λ (a : List Piece). run (covered_name o (covers.Async n) ns m) (a ++ q ∷ rest)) t.are
      ∙ go (covered_name o (covers.Async n) ns m) (cover_at o (covers.Async n) (ns ++ m ∷ [])) t.place t.line (tok.Punctuator p.Comma) (t.rest ++ q ∷ rest) refl refl
      ∙ k.called t.rest q rest h g t.fits
  | inr e ↦ (let u : Then false (tok.Punctuator p.CloseParen) [] ps = then_just false (tok.Punctuator p.CloseParen) 0 [] ps e in
      let z : Piece = Read (token u.place u.line (tok.Punctuator p.CloseParen)) in
      let b = has_none ns in
      ap (λ (a : List Piece). run (covered_name o (covers.Async n) ns m) (a ++ q ∷ rest)) (u.are ∙ ap (λ (a : List Piece). z ∷ a) u.fits)
      ∙ go (covered_name o (covers.Async n) ns m) (record { outer = o; at = at.Covered (covers.Async n) (ns ++ m ∷ []) b }) u.place u.line (tok.Punctuator p.CloseParen) (q ∷ rest) refl refl
      ∙ called_covered o n (ns ++ m ∷ []) b q rest h g
      ∙ ap (λ (a : List Expr). run (operand_at o (expr.Call (expr.Name n) a) 1) (q ∷ rest)) (sym (append-nil (as_values (ns ++ m ∷ [])))))
]
name_more o n m ns (y ∷ ys) k ps q rest h g f =
    let fy = (grammar.of_expr y.0).forms in
    let others = more (forms_of ys) ++ last_forms p.CloseParen in
    let t : Then false (tok.Punctuator p.Comma) (fy ++ others) ps = then_just false (tok.Punctuator p.Comma) 0 (fy ++ others) ps (subst (λ (z : List Form). Fits z ps) (more_is fy (forms_of ys) p.CloseParen) f) in
    ap (λ (a : List Piece). run (covered_name o (covers.Async n) ns m) (a ++ q ∷ rest)) t.are
    ∙ go (covered_name o (covers.Async n) ns m) (cover_at o (covers.Async n) (ns ++ m ∷ [])) t.place t.line (tok.Punctuator p.Comma) (t.rest ++ q ∷ rest) refl refl
    ∙ k.called t.rest q rest h g (subst (λ (z : List Form). Fits z t.rest) (sym (listed_is fy (forms_of ys) p.CloseParen)) t.fits)

-- one more name
called_name : (o : Outer) (n m : Name) (ns : List Name) (i : ReadsOperand (expr.Name m)) (ys : List Each) → Called o n (ns ++ m ∷ []) ys → Called o n ns ((expr.Name m, i) ∷ ys)
called_name o n m ns i ys k = record {
  called = λ ps q rest h g f.
      let c = covers.Async n in
      let others = more (forms_of ys) ++ last_forms p.CloseParen in
      let fm = (grammar.of_expr (expr.Name m)).forms in
      let f2 : Fits (grammar.name m ∷ others) ps = subst (λ (z : grammar.Written). Fits (z.forms ++ others) ps) (written_name m) (subst (λ (z : List Form). Fits z ps) (listed_is fm (forms_of ys) p.CloseParen) f) in
      let t : ThenAt m.place false (tok.Name m.units) others ps = then_at m.place false (tok.Name m.units) 0 others ps f2 in
      let named : Piece = Read (token m.place t.line (tok.Name m.units)) in
      ap (λ (a : List Piece). run (cover_at o c ns) (a ++ q ∷ rest)) t.are
      ∙ go (cover_at o c ns) (covered_name o c ns m) m.place t.line (tok.Name m.units) (t.rest ++ q ∷ rest) refl refl
      ∙ name_more o n m ns ys k t.rest q rest h g t.fits
      ∙ ap (λ (a : List Expr). run (operand_at o (expr.Call (expr.Name n) a) 1) (q ∷ rest)) (ap (λ (a : List Expr). a ++ exprs ys) (as_values_more ns m) ∙ append_assoc (as_values ns) (expr.Name m ∷ []) (exprs ys));
}

-- an argument that is no name
called_value : (o : Outer) (n : Name) (ns : List Name) (y : Each) (ys : List Each) → is_bare y.0 ≡ false → (shapes.of_expr y.0).fits ≡ true → shapes.all_fit (map shapes.of_expr (exprs ys)) ≡ true → Called o n ns (y ∷ ys)
called_value o n ns y ys e fy fs = record {
  called = λ ps q rest h g f.
      let form = (grammar.of_expr y.0).forms in
      let c = covers.Async n in
      let others = more (forms_of ys) ++ last_forms p.CloseParen in
      let s : Split form others ps = fits_split form others ps (subst (λ (z : List Form). Fits z ps) (listed_is form (forms_of ys) p.CloseParen) f) in
      ap (λ (a : List Piece). run (cover_at o c ns) (a ++ q ∷ rest)) s.parts ∙ ap (run (cover_at o c ns)) (append_assoc s.front s.back (q ∷ rest))
      ∙ items_more p.CloseParen (arguments o (callee.Value (expr.Name n) 0)) y ys (as_values ns) (cover_at o c ns) s.front s.back (q ∷ rest)
      (λ x others d. value_covered y.0 y.1 covered (cover_at o c ns) o (plus (constructs o) 1) (purpose.Argument (callee.Value (expr.Name n) 0) (as_values ns)) s.front x others (begins_cover o c ns refl) fy (covered_admits (shapes.of_expr y.0).first) (λ z. e) tt s.fits_front d)
      fs s.fits_back;
}

called_read : (o : Outer) (n : Name) (ys : List Each) (ns : List Name) → shapes.all_fit (map shapes.of_expr (exprs ys)) ≡ true → Called o n ns ys
called_read o n [] ns f = called_none o n ns
called_read o n (y ∷ ys) ns f =
    let g : ((shapes.of_expr y.0).fits ≡ true) × (shapes.all_fit (map shapes.of_expr (exprs ys)) ≡ true) = both (shapes.of_expr y.0).fits (shapes.all_fit (map shapes.of_expr (exprs ys))) f in
    by_name (λ ms. called_read o n ys ms g.1) g.0 g.1 (bare_or_not y.0)
  where
    bare_by : (m : Name) (x : Expr) → x ≡ expr.Name m → (i : ReadsOperand x) → Called o n (ns ++ m ∷ []) ys → Called o n ns ((x, i) ∷ ys)
    bare_by m x e = subst (λ (z : Expr). (i : ReadsOperand z) → Called o n (ns ++ m ∷ []) ys → Called o n ns ((z, i) ∷ ys)) (sym e) (λ i k. called_name o n m ns i ys k)

    by_name : ((ms : List Name) → Called o n ms ys) → (shapes.of_expr y.0).fits ≡ true → shapes.all_fit (map shapes.of_expr (exprs ys)) ≡ true → BareName y.0 ⊎ (is_bare y.0 ≡ false) → Called o n ns (y ∷ ys)
    by_name go a b (inr e) = called_value o n ns y ys e a b
    by_name go a b (inl m) = bare_by m.name y.0 m.is y.1 (go (ns ++ m.name ∷ []))

-- behind the name `async` and `(`
async_paren_read : (o : Outer) (n : Name) (ys : List Each) (t : Token) (ps : List Piece) (q : Piece) (rest : List Piece) → is_async n.units ≡ true → t.kind ≡ tok.Punctuator p.OpenParen
    → shapes.all_fit (map shapes.of_expr (exprs ys)) ≡ true → is_proper q ≡ true → follows (token_of q).kind ≤ 9 → Fits (listed (forms_of ys) ++ just p.CloseParen ∷ []) ps
    → taken (after_name false o n t) (λ m. run m (ps ++ q ∷ rest)) ≡ run (operand_at o (expr.Call (expr.Name n) (exprs ys)) 1) (q ∷ rest)
async_paren_read o n ys t ps q rest a e f h g fits =
    ap (λ (z : Bool). taken (cond z (after_async false o n t) (after_operand false o (expr.Name n) 0 t)) (λ m. run m (ps ++ q ∷ rest))) a ∙ by_line t.after_line_end
  where
    next : Step
    next = to o (at.NextArgument (callee.Value (expr.Name n) 0) [])

    ends : taken next (λ m. run m (ps ++ q ∷ rest)) ≡ run (operand_at o (expr.Call (expr.Name n) (exprs ys)) 1) (q ∷ rest)
    ends = arguments_read o (callee.Value (expr.Name n) 0) ys ps (q ∷ rest) f fits

    by_whole : (b : Bool) → taken (cond b (to o (at.CoverOpen (covers.Async n) [])) next) (λ m. run m (ps ++ q ∷ rest)) ≡ run (operand_at o (expr.Call (expr.Name n) (exprs ys)) 1) (q ∷ rest)
    by_whole true = (called_read o n ys [] f).called ps q rest h g fits
    by_whole false = ends

    by_line : (l : Bool) → taken (cond l (after_operand false o (expr.Name n) 0 t) (async_kind false o n t t.kind)) (λ m. run m (ps ++ q ∷ rest)) ≡ run (operand_at o (expr.Call (expr.Name n) (exprs ys)) 1) (q ∷ rest)
    by_line true = ap (λ (k : TokenKind). taken (operand_kind false o (expr.Name n) 0 t k) (λ m. run m (ps ++ q ∷ rest))) e ∙ ends
    by_line false = ap (λ (k : TokenKind). taken (async_kind false o n t k) (λ m. run m (ps ++ q ∷ rest))) e ∙ by_whole (is_whole o)

pub reads_async_call : (n : Name) (ys : List Each) → is_async n.units ≡ true → ReadsOperand (expr.Call (expr.Name n) (exprs ys))
reads_async_call n ys a = record {
  reads = λ w s o ps q rest ready next line h.
      let x = expr.Name n in
      let c = (grammar.of_expr x).accesses in
      let inner = listed (forms_of ys) ++ just p.CloseParen ∷ [] in
      let tail = just p.OpenParen ∷ inner in
      let d : Split (grammar.of_expr x).forms (deeper c (deeper 1 tail)) ps = fits_split (grammar.of_expr x).forms (deeper c (deeper 1 tail)) ps (subst (λ (z : grammar.Written). Fits z.forms ps) (written_call x (exprs ys)) h) in
      let k = tok.Name n.units in
      let t : ThenAt n.place false k [] d.front = then_at n.place false k 0 [] d.front (subst (λ (z : grammar.Written). Fits z.forms d.front) (written_name n) d.fits_front) in
      let u : Then false (tok.Punctuator p.OpenParen) inner d.back = then_just false (tok.Punctuator p.OpenParen) 0 inner d.back (fits_shallow 1 tail d.back (fits_shallow c (deeper 1 tail) d.back d.fits_back)) in
      let named : Token = token n.place t.line k in
      let paren : Token = token u.place u.line (tok.Punctuator p.OpenParen) in
      let all : ps ++ q ∷ rest ≡ Read named ∷ Read paren ∷ (u.rest ++ q ∷ rest) = joined_pieces ps d.front d.back u.rest (q ∷ rest) (Read paren) d.parts u.are ∙ ap (λ (z : List Piece). z ++ Read paren ∷ (u.rest ++ q ∷ rest)) (t.are ∙ ap (λ (z : List Piece). Read named ∷ z) t.fits) in
      let on : w.line ≡ true → t.line ≡ false = first_on w.line named (Read paren ∷ (u.rest ++ q ∷ rest)) (subst (FirstOn w.line) all line) in
      let r : NameRead w s o n.place t.line n.units = ready.begins.names n.place t.line n.units on in
      let f : (shapes.at_least shapes.operand_level (shapes.of_expr x) ≡ true) × (shapes.all_fit (map shapes.of_expr (exprs ys)) ≡ true) = both (shapes.at_least shapes.operand_level (shapes.of_expr x)) (shapes.all_fit (map shapes.of_expr (exprs ys))) (sym (ap (λ (z : shapes.Shape). z.fits) (shape_call x (exprs ys))) ∙ ready.fits) in
      stands_operand w s o (expr.Call x (exprs ys)) 1 ps q rest next
      (ap (run s) all ∙ run_step s r.next (Read named) (Read paren ∷ (u.rest ++ q ∷ rest)) r.takes
      ∙ ap (λ (z : Step). taken z (λ m. run m (u.rest ++ q ∷ rest))) (r.acts (Read paren) refl (λ z. refl))
      ∙ async_paren_read o n ys paren u.rest q rest a refl f.1 next.proper (follows_small w (expr.Call x (exprs ys)) q next) u.fits);
}

-- ---- any call

record AsyncName (x : Expr) : Type 0 where
  callee : Name
  is : x ≡ expr.Name callee
  async_is : is_async callee.units ≡ true

async_or_not : (x : Expr) → AsyncName x ⊎ (is_async_name x ≡ false)
async_or_not x = subst (λ (z : Expr). AsyncName z ⊎ (is_async_name z ≡ false)) (roll-out-Expr x) (by_node (out-Expr x))
  where
    other : (y : Node) → async_node y ≡ false → is_async_name (roll-Expr y) ≡ false
    other y e = ap async_node (out-roll-Expr y) ∙ e

    by_letters : (n : Name) (b : Bool) → is_async n.units ≡ b → AsyncName (roll-Expr (Expr-F.Name n)) ⊎ (is_async_name (roll-Expr (Expr-F.Name n)) ≡ false)
    by_letters n true e = inl (record { callee = n; is = expr.rolls-Name n; async_is = e })
    by_letters n false e = inr (other (Expr-F.Name n) e)

    by_node : (y : Node) → AsyncName (roll-Expr y) ⊎ (is_async_name (roll-Expr y) ≡ false)
    by_node (Expr-F.Name n) = by_letters n (is_async n.units) refl
    by_node y = inr (other y refl)

pub reads_any_call : (x : Expr) (ys : List Each) → ReadsOperand x → ReadsOperand (expr.Call x (exprs ys))
reads_any_call x ys i = elim (async_or_not x) [
  | inl n ↦ subst (λ (z : Expr). ReadsOperand (expr.Call z (exprs ys))) (sym n.is) (reads_async_call n.callee ys n.async_is)
  | inr e ↦ reads_call x ys e i
]
