-- Lists of values between brackets: arguments and items.
use Rattle.std.proofs.Common.{◌≡◌, ℕ, Bool, true, false, List, [], ◌∷◌, ◌++◌, map, Ok, refl, sym, ap, ◌∙◌, subst, append_assoc, append-nil, arith, inl, inr}
use Rattle.std.specs.Prelude.{◌||◌}
use Rattle.js_lex.specs.declared.token.Punctuator.{Punctuator}
use Rattle.js_lex.specs.declared.token.Punctuator.TheVariants as p
use Rattle.js_lex.specs.declared.token.Reserved.TheVariants as r
use Rattle.js_lex.specs.declared.token.TokenKind.{TokenKind}
use Rattle.js_lex.specs.declared.token.TokenKind.TheVariants as tok
use Rattle.js_lex.specs.declared.token.Token.{Token}
use Rattle.js_tree.specs.declared.tree.Expr.{Expr}
use Rattle.js_tree.specs.declared.tree.Expr.TheVariants as expr
use Rattle.js_tree.specs.declared.tree.Name.{Name}
use Rattle.js_grammar.specs.Marks.{Piece, Read, Form, sign, just, deeper, listed, more, maybe}
use Rattle.js_grammar.specs.Grammar as grammar
use Rattle.js_grammar.specs.Shapes as shapes
use Rattle.js_parse_core.specs.declared.machine.At.TheVariants as at
use Rattle.js_parse_core.specs.declared.machine.Callee.{Callee}
use Rattle.js_parse_core.specs.declared.machine.Callee.TheVariants as callee
use Rattle.js_parse_core.specs.declared.machine.Frame.TheVariants as frame
use Rattle.js_parse_core.specs.declared.machine.Outer.{Outer}
use Rattle.js_parse_core.specs.declared.machine.Purpose.{Purpose}
use Rattle.js_parse_core.specs.declared.machine.Purpose.TheVariants as purpose
use Rattle.js_parse_core.specs.declared.machine.State.{State}
use Rattle.js_parse_core.specs.Begin.{begin}
use Rattle.js_parse_core.specs.Expressions.{callee_accesses, on_argument, on_element}
use Rattle.js_parse_core.specs.Outer.{Step, plus, constructs, push, push_at}
use Rattle.js_parse_core.specs.Values.{on_value, call}
use Rattle.js_parse_core.proofs.Pieces.{Fits, take, taken, run}
use Rattle.js_parse_core.proofs.PieceLemmas.{Split, fits_split, fits_shallow, run_step, take_is}
use Rattle.js_parse_core.proofs.Readings.{token, token_of, closes, free, starts, is_name, Begins, FirstOn, plus_low, begins_exactly, free_admits}
use Rattle.js_parse_core.proofs.FirstTokens.{Then, ThenAt, then_just, then_at, then_maybe, go, gives, first_on}
use Rattle.js_parse_core.proofs.Operands.{Stands, ReadsOperand, is_async_name, operand_at, stands_operand}
use Rattle.js_parse_core.proofs.Words.{both}
use Rattle.js_parse_core.proofs.Chains.{Operand, operand_fits, ready_left, next_token, joined_pieces, value_of}
use Rattle.js_grammar.proofs.Equations.{written_array, written_call, written_new}
use Rattle.js_parse_core.proofs.ShapeEquations.{shape_array, shape_call, shape_new}

abbrev pub Each : Type 0
Each = (x : Expr) × ReadsOperand x

abbrev pub exprs : List Each → List Expr
exprs ys = map (λ y. y.0) ys

-- a list of values: where each begins, and what `,` and the last bracket do
pub record Listing (close : Punctuator) : Type 0 where
  pub next : List Expr → State
  pub outer : Outer
  pub count : ℕ
  pub purpose_of : List Expr → Purpose
  pub final : List Expr → Step
  pub begins : (xs : List Expr) → Begins free (next xs) (push_at outer count (frame.Purpose (purpose_of xs)))
  pub comma : (xs : List Expr) (x : Expr) (q : ℕ) (l : Bool) → on_value false outer (purpose_of xs) x (token q l (tok.Punctuator p.Comma)) ≡ Ok (next (xs ++ x ∷ []))
  pub ends : (xs : List Expr) (x : Expr) (q : ℕ) (l : Bool) → on_value false outer (purpose_of xs) x (token q l (tok.Punctuator close)) ≡ final (xs ++ x ∷ [])
  pub empty : (xs : List Expr) (q : ℕ) (l : Bool) (rest : List Piece) → run (next xs) (Read (token q l (tok.Punctuator close)) ∷ rest) ≡ taken (final xs) (λ n. run n rest)
  pub closing : (q : ℕ) (l : Bool) → closes (Read (token q l (tok.Punctuator close))) ≡ true

abbrev pub forms_of : List Each → List (List Form)
forms_of ys = grammar.values (map grammar.of_expr (exprs ys))

abbrev pub last_forms : Punctuator → List Form
last_forms close = maybe (sign p.Comma) ∷ just close ∷ []

pub listed_is : (fs : List Form) (rest : List (List Form)) (close : Punctuator) → listed (fs ∷ rest) ++ just close ∷ [] ≡ fs ++ (more rest ++ last_forms close)
listed_is fs rest close = append_assoc (fs ++ more rest) (maybe (sign p.Comma) ∷ []) (just close ∷ []) ∙ append_assoc fs (more rest) (last_forms close)

pub more_is : (fs : List Form) (rest : List (List Form)) (close : Punctuator) → more (fs ∷ rest) ++ last_forms close ≡ just p.Comma ∷ (fs ++ (more rest ++ last_forms close))
more_is fs rest close = ap (λ (z : List Form). just p.Comma ∷ z) (append_assoc fs (more rest) (last_forms close))

pub items_more : (close : Punctuator) (d : Listing close) (y : Each) (ys : List Each) (xs : List Expr) (s : State) (a b rest : List Piece)
    → ((q : Piece) (more : List Piece) → closes q ≡ true → run s (a ++ q ∷ more) ≡ taken (on_value false d.outer (d.purpose_of xs) y.0 (token_of q)) (λ n. run n more))
    → shapes.all_fit (map shapes.of_expr (exprs ys)) ≡ true → Fits (more (forms_of ys) ++ last_forms close) b
    → run s (a ++ (b ++ rest)) ≡ taken (d.final (xs ++ y.0 ∷ exprs ys)) (λ n. run n rest)
items_more close d y [] xs s a b rest i f g = elim (then_maybe false (tok.Punctuator p.Comma) 0 (just close ∷ []) b g) [
  | inl t ↦ (let u : Then false (tok.Punctuator close) [] t.rest = then_just false (tok.Punctuator close) 0 [] t.rest t.fits in
      let c : Piece = Read (token t.place t.line (tok.Punctuator p.Comma)) in
      let e : Piece = Read (token u.place u.line (tok.Punctuator close)) in
      ap (λ (z : List Piece). run s (a ++ (z ++ rest))) (t.are ∙ ap (λ (z : List Piece). c ∷ z) (u.are ∙ ap (λ (z : List Piece). e ∷ z) u.fits))
      ∙ i c (e ∷ rest) refl ∙ ap (λ (z : Step). taken z (λ n. run n (e ∷ rest))) (d.comma xs y.0 t.place t.line) ∙ d.empty (xs ++ y.0 ∷ []) u.place u.line rest)
  | inr h ↦ (let u : Then false (tok.Punctuator close) [] b = then_just false (tok.Punctuator close) 0 [] b h in
      let e : Piece = Read (token u.place u.line (tok.Punctuator close)) in
      ap (λ (z : List Piece). run s (a ++ (z ++ rest))) (u.are ∙ ap (λ (z : List Piece). e ∷ z) u.fits)
      ∙ i e rest (d.closing u.place u.line) ∙ ap (λ (z : Step). taken z (λ n. run n rest)) (d.ends xs y.0 u.place u.line))
]
items_more close d y (x ∷ ys) xs s a b rest i f g =
    let fx = (grammar.of_expr x.0).forms in
    let others = more (forms_of ys) ++ last_forms close in
    let t : Then false (tok.Punctuator p.Comma) (fx ++ others) b = then_just false (tok.Punctuator p.Comma) 0 (fx ++ others) b (subst (λ (z : List Form). Fits z b) (more_is fx (forms_of ys) close) g) in
    let c : Split fx others t.rest = fits_split fx others t.rest t.fits in
    let comma : Piece = Read (token t.place t.line (tok.Punctuator p.Comma)) in
    let h : ((shapes.of_expr x.0).fits ≡ true) × (shapes.all_fit (map shapes.of_expr (exprs ys)) ≡ true) = both (shapes.of_expr x.0).fits (shapes.all_fit (map shapes.of_expr (exprs ys))) f in
    let ready = d.next (xs ++ y.0 ∷ []) in
    ap (λ (z : List Piece). run s (a ++ (z ++ rest))) (t.are ∙ ap (λ (z : List Piece). comma ∷ z) c.parts)
    ∙ i comma ((c.front ++ c.back) ++ rest) refl
    ∙ ap (λ (z : Step). taken z (λ n. run n ((c.front ++ c.back) ++ rest))) (d.comma xs y.0 t.place t.line)
    ∙ ap (run ready) (append_assoc c.front c.back rest)
    ∙ items_more close d x ys (xs ++ y.0 ∷ []) ready c.front c.back rest
    (λ q more e. (value_of x.0 x.1).reads free ready d.outer d.count (d.purpose_of (xs ++ y.0 ∷ [])) c.front q more (d.begins (xs ++ y.0 ∷ [])) h.0 (free_admits (shapes.of_expr x.0).first) refl tt c.fits_front e)
    h.1 c.fits_back
    ∙ ap (λ (z : List Expr). taken (d.final z) (λ n. run n rest)) (append_assoc xs (y.0 ∷ []) (x.0 ∷ exprs ys))

-- .. from the first bracket on
pub items_read : (close : Punctuator) (d : Listing close) (ys : List Each) (xs : List Expr) (ps rest : List Piece) → shapes.all_fit (map shapes.of_expr (exprs ys)) ≡ true
    → Fits (listed (forms_of ys) ++ just close ∷ []) ps → run (d.next xs) (ps ++ rest) ≡ taken (d.final (xs ++ exprs ys)) (λ n. run n rest)
items_read close d [] xs ps rest f g =
    let u : Then false (tok.Punctuator close) [] ps = then_just false (tok.Punctuator close) 0 [] ps g in
    let e : Piece = Read (token u.place u.line (tok.Punctuator close)) in
    ap (λ (z : List Piece). run (d.next xs) (z ++ rest)) (u.are ∙ ap (λ (z : List Piece). e ∷ z) u.fits) ∙ d.empty xs u.place u.line rest
    ∙ ap (λ (z : List Expr). taken (d.final z) (λ n. run n rest)) (sym (append-nil xs))
items_read close d (y ∷ ys) xs ps rest f g =
    let fy = (grammar.of_expr y.0).forms in
    let others = more (forms_of ys) ++ last_forms close in
    let c : Split fy others ps = fits_split fy others ps (subst (λ (z : List Form). Fits z ps) (listed_is fy (forms_of ys) close) g) in
    let h : ((shapes.of_expr y.0).fits ≡ true) × (shapes.all_fit (map shapes.of_expr (exprs ys)) ≡ true) = both (shapes.of_expr y.0).fits (shapes.all_fit (map shapes.of_expr (exprs ys))) f in
    ap (λ (z : List Piece). run (d.next xs) (z ++ rest)) c.parts ∙ ap (run (d.next xs)) (append_assoc c.front c.back rest)
    ∙ items_more close d y ys xs (d.next xs) c.front c.back rest
    (λ q more e. (value_of y.0 y.1).reads free (d.next xs) d.outer d.count (d.purpose_of xs) c.front q more (d.begins xs) h.0 (free_admits (shapes.of_expr y.0).first) refl tt c.fits_front e)
    h.1 c.fits_back

-- ---- arguments

abbrev pub argument_at : Outer → Callee → List Expr → State
argument_at o f xs = record { outer = o; at = at.NextArgument f xs }

abbrev pub argument_count : Outer → Callee → ℕ
argument_count o f = plus (constructs o) (plus (callee_accesses f) 1)

pub begins_argument : (o : Outer) (f : Callee) (xs : List Expr) → Begins free (argument_at o f xs) (push_at o (argument_count o f) (frame.Purpose (purpose.Argument f xs)))
begins_argument o f xs = begins_exactly free (argument_at o f xs) (push_at o (argument_count o f) (frame.Purpose (purpose.Argument f xs))) (plus_low (constructs o) (plus (callee_accesses f) 1)) refl (λ h. refl) (λ q l k line h. by_kind q l k h)
  where
    by_kind : (q : ℕ) (l : Bool) (k : TokenKind) → (is_name k || starts free k) ≡ true → take (argument_at o f xs) (Read (token q l k)) ≡ begin (push_at o (argument_count o f) (frame.Purpose (purpose.Argument f xs))) (token q l k)
    by_kind q l (tok.Punctuator p.CloseParen) h = cc
    by_kind q l (tok.Punctuator a) h = take_is (argument_at o f xs) (token q l (tok.Punctuator a)) refl ∙ by_sign a h
      where
        by_sign : (a : Punctuator) → (is_name (tok.Punctuator a) || starts free (tok.Punctuator a)) ≡ true → on_argument o f xs (token q l (tok.Punctuator a)) ≡ begin (push_at o (argument_count o f) (frame.Purpose (purpose.Argument f xs))) (token q l (tok.Punctuator a))
        by_sign p.CloseParen h = cc
        by_sign _ h = refl
    by_kind q l tok.End h = cc
    by_kind q l (tok.Bad b) h = cc
    by_kind q l k h = take_is (argument_at o f xs) (token q l k) refl

abbrev pub arguments : (o : Outer) (f : Callee) → Listing p.CloseParen
arguments o f = record {
  next = argument_at o f;
  outer = o;
  count = argument_count o f;
  purpose_of = purpose.Argument f;
  final = call o f;
  begins = begins_argument o f;
  comma = λ xs x q l. refl;
  ends = λ xs x q l. refl;
  empty = λ xs q l rest. gives (argument_at o f xs) (call o f xs) q l (tok.Punctuator p.CloseParen) rest refl refl;
  closing = λ q l. refl;
}

-- `(`, the arguments and `)`
pub arguments_read : (o : Outer) (f : Callee) (ys : List Each) (ps rest : List Piece) → shapes.all_fit (map shapes.of_expr (exprs ys)) ≡ true → Fits (listed (forms_of ys) ++ just p.CloseParen ∷ []) ps
    → run (argument_at o f []) (ps ++ rest) ≡ taken (call o f (exprs ys)) (λ n. run n rest)
arguments_read o f ys ps rest h g = items_read p.CloseParen (arguments o f) ys [] ps rest h g

pub reads_call : (x : Expr) (ys : List Each) → is_async_name x ≡ false → ReadsOperand x → ReadsOperand (expr.Call x (exprs ys))
reads_call x ys na i = record {
  reads = λ w s o ps q rest ready next line h.
      let a = (grammar.of_expr x).accesses in
      let inner = listed (forms_of ys) ++ just p.CloseParen ∷ [] in
      let tail = just p.OpenParen ∷ inner in
      let c : Split (grammar.of_expr x).forms (deeper a (deeper 1 tail)) ps = fits_split (grammar.of_expr x).forms (deeper a (deeper 1 tail)) ps (subst (λ (z : grammar.Written). Fits z.forms ps) (written_call x (exprs ys)) h) in
      let g : Fits tail c.back = fits_shallow 1 tail c.back (fits_shallow a (deeper 1 tail) c.back c.fits_back) in
      let t : Then false (tok.Punctuator p.OpenParen) inner c.back = then_just false (tok.Punctuator p.OpenParen) 0 inner c.back g in
      let paren : Piece = Read (token t.place t.line (tok.Punctuator p.OpenParen)) in
      let whole : ps ++ q ∷ rest ≡ c.front ++ paren ∷ (t.rest ++ q ∷ rest) = joined_pieces ps c.front c.back t.rest (q ∷ rest) paren c.parts t.are in
      let f : Operand (shapes.of_expr x) (shapes.all_fit (map shapes.of_expr (exprs ys))) = operand_fits (shapes.of_expr x) (shapes.all_fit (map shapes.of_expr (exprs ys))) (sym (ap (λ (z : shapes.Shape). z.fits) (shape_call x (exprs ys))) ∙ ready.fits) in
      let v = f.level in
      let st : Stands s o x c.front paren (t.rest ++ q ∷ rest) = i.reads w s o c.front paren (t.rest ++ q ∷ rest)
      (ready_left w s o (expr.Call x (exprs ys)) x ready f.fits f.level (ap (λ (z : shapes.Shape). z.first) (shape_call x (exprs ys))))
      (next_token w x t.place t.line (tok.Punctuator p.OpenParen) refl (omega (arith, v)) (λ b. cc) refl)
      (subst (FirstOn w.line) whole line) c.fits_front in
      stands_operand w s o (expr.Call x (exprs ys)) (plus st.accesses 1) ps q rest next
      (ap (run s) whole ∙ st.runs ∙ arguments_read o (callee.Value x st.accesses) ys t.rest (q ∷ rest) f.other t.fits);
}

-- ---- `new`

pub reads_new : (n : Name) (ys : List Each) → ReadsOperand (expr.New n (exprs ys))
reads_new n ys = record {
  reads = λ w s o ps q rest ready next line h.
      let inner = listed (forms_of ys) ++ just p.CloseParen ∷ [] in
      let tail = just p.OpenParen ∷ inner in
      let e : Fits (grammar.reserved r.New ∷ grammar.name n ∷ deeper 1 tail) ps = subst (λ (z : grammar.Written). Fits z.forms ps) (written_new n (exprs ys)) h in
      let t : Then false (tok.Reserved r.New) (grammar.name n ∷ deeper 1 tail) ps = then_just false (tok.Reserved r.New) 0 (grammar.name n ∷ deeper 1 tail) ps e in
      let u : ThenAt n.place false (tok.Name n.units) (deeper 1 tail) t.rest = then_at n.place false (tok.Name n.units) 0 (deeper 1 tail) t.rest t.fits in
      let v : Then false (tok.Punctuator p.OpenParen) inner u.rest = then_just false (tok.Punctuator p.OpenParen) 0 inner u.rest (fits_shallow 1 tail u.rest u.fits) in
      let word : Token = token t.place t.line (tok.Reserved r.New) in
      let named : Token = token n.place u.line (tok.Name n.units) in
      let paren : Token = token v.place v.line (tok.Punctuator p.OpenParen) in
      let whole : ps ≡ Read word ∷ Read named ∷ Read paren ∷ v.rest = t.are ∙ ap (λ (z : List Piece). Read word ∷ z) (u.are ∙ ap (λ (z : List Piece). Read named ∷ z) v.are) in
      let i : w.line ≡ true → t.line ≡ false = first_on w.line word (Read named ∷ Read paren ∷ (v.rest ++ q ∷ rest)) (subst (λ (z : List Piece). FirstOn w.line (z ++ q ∷ rest)) whole line) in
      stands_operand w s o (expr.New n (exprs ys)) 0 ps q rest next
      (ap (λ (z : List Piece). run s (z ++ q ∷ rest)) whole
      ∙ run_step s (record { outer = o; at = at.NewName }) (Read word) (Read named ∷ Read paren ∷ (v.rest ++ q ∷ rest)) (ready.begins.begins t.place t.line (tok.Reserved r.New) i refl)
      ∙ go (record { outer = o; at = at.NewName }) (record { outer = o; at = at.NewOpen n }) n.place u.line (tok.Name n.units) (Read paren ∷ (v.rest ++ q ∷ rest)) refl refl
      ∙ go (record { outer = o; at = at.NewOpen n }) (record { outer = o; at = at.NextArgument (callee.New n) [] }) v.place v.line (tok.Punctuator p.OpenParen) (v.rest ++ q ∷ rest) refl refl
      ∙ arguments_read o (callee.New n) ys v.rest (q ∷ rest) (sym (ap (λ (z : shapes.Shape). z.fits) (shape_new n (exprs ys))) ∙ ready.fits) v.fits);
}

-- ---- items of arrays

abbrev element_at : Outer → List Expr → State
element_at o xs = record { outer = o; at = at.NextElement xs }

begins_element : (o : Outer) (xs : List Expr) → Begins free (element_at o xs) (push o 1 (frame.Purpose (purpose.Element xs)))
begins_element o xs = begins_exactly free (element_at o xs) (push o 1 (frame.Purpose (purpose.Element xs))) (plus_low (constructs o) 1) refl (λ h. refl) (λ q l k line h. by_kind q l k h)
  where
    by_sign : (q : ℕ) (l : Bool) (a : Punctuator) → (is_name (tok.Punctuator a) || starts free (tok.Punctuator a)) ≡ true → on_element o xs (token q l (tok.Punctuator a)) ≡ begin (push o 1 (frame.Purpose (purpose.Element xs))) (token q l (tok.Punctuator a))
    by_sign q l p.CloseBracket h = cc
    by_sign q l _ h = refl

    by_kind : (q : ℕ) (l : Bool) (k : TokenKind) → (is_name k || starts free k) ≡ true → take (element_at o xs) (Read (token q l k)) ≡ begin (push o 1 (frame.Purpose (purpose.Element xs))) (token q l k)
    by_kind q l (tok.Punctuator a) h = take_is (element_at o xs) (token q l (tok.Punctuator a)) refl ∙ by_sign q l a h
    by_kind q l tok.End h = cc
    by_kind q l (tok.Bad b) h = cc
    by_kind q l k h = take_is (element_at o xs) (token q l k) refl

abbrev elements : (o : Outer) → Listing p.CloseBracket
elements o = record {
  next = element_at o;
  outer = o;
  count = plus (constructs o) 1;
  purpose_of = purpose.Element;
  final = λ xs. Ok (operand_at o (expr.Array xs) 0);
  begins = begins_element o;
  comma = λ xs x q l. refl;
  ends = λ xs x q l. refl;
  empty = λ xs q l rest. gives (element_at o xs) (Ok (operand_at o (expr.Array xs) 0)) q l (tok.Punctuator p.CloseBracket) rest refl refl;
  closing = λ q l. refl;
}

pub reads_array : (ys : List Each) → ReadsOperand (expr.Array (exprs ys))
reads_array ys = record {
  reads = λ w s o ps q rest ready next line h.
      let inner = listed (forms_of ys) ++ just p.CloseBracket ∷ [] in
      let tail = just p.OpenBracket ∷ inner in
      let e : Fits (deeper 1 tail) ps = subst (λ (z : grammar.Written). Fits z.forms ps) (written_array (exprs ys)) h in
      let t : Then false (tok.Punctuator p.OpenBracket) inner ps = then_just false (tok.Punctuator p.OpenBracket) 0 inner ps (fits_shallow 1 tail ps e) in
      let bracket : Token = token t.place t.line (tok.Punctuator p.OpenBracket) in
      let i : w.line ≡ true → t.line ≡ false = first_on w.line bracket (t.rest ++ q ∷ rest) (subst (λ (z : List Piece). FirstOn w.line (z ++ q ∷ rest)) t.are line) in
      stands_operand w s o (expr.Array (exprs ys)) 0 ps q rest next
      (ap (λ (z : List Piece). run s (z ++ q ∷ rest)) t.are
      ∙ run_step s (element_at o []) (Read bracket) (t.rest ++ q ∷ rest) (ready.begins.begins t.place t.line (tok.Punctuator p.OpenBracket) i refl)
      ∙ items_read p.CloseBracket (elements o) ys [] t.rest (q ∷ rest) (sym (ap (λ (z : shapes.Shape). z.fits) (shape_array (exprs ys))) ∙ ready.fits) t.fits);
}
