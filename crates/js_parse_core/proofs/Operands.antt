-- Expressions that the machine reads as operands: those without a binary operator.
use Rattle.std.proofs.Common.{◌≡◌, ℕ, ◌≤◌, Bool, true, false, cond, List, [], ◌∷◌, ◌++◌, Ok, refl, sym, ap, ◌∙◌, subst, arith}
use Rattle.js_lex.specs.declared.token.Punctuator.TheVariants as p
use Rattle.js_lex.specs.declared.token.Reserved.TheVariants as r
use Rattle.js_lex.specs.declared.token.TokenKind.{TokenKind}
use Rattle.js_lex.specs.declared.token.TokenKind.TheVariants as tok
use Rattle.js_lex.specs.declared.token.Token.{Token}
use Rattle.js_tree.specs.Targets.{Node}
use Rattle.js_tree.specs.declared.tree.ArrowBody.TheOpen.{Expr-F}
use Rattle.js_tree.specs.declared.tree.Expr.{Expr, out-Expr, out-roll-Expr}
use Rattle.js_tree.specs.declared.tree.Expr.TheVariants as expr
use Rattle.js_tree.specs.declared.tree.Name.{Name}
use Rattle.js_grammar.specs.Marks.{Piece, Read, Just, Form, mark, one}
use Rattle.js_grammar.specs.Grammar as grammar
use Rattle.js_grammar.specs.Shapes as shapes
use Rattle.js_parse_core.specs.declared.machine.At.TheVariants as at
use Rattle.js_parse_core.specs.declared.machine.Outer.{Outer}
use Rattle.js_parse_core.specs.declared.machine.State.{State}
use Rattle.js_parse_core.specs.Begin.{begin}
use Rattle.js_parse_core.specs.Expressions.{after_operand, after_name, after_async, async_kind}
use Rattle.js_parse_core.specs.Outer.{Step}
use Rattle.js_parse_core.specs.Tokens.{is_async, is_open_paren}
use Rattle.js_parse_core.specs.Values.{waiting, are_mixed}
use Rattle.js_parse_core.proofs.Pieces.{Fits, taken, run}
use Rattle.js_parse_core.proofs.PieceLemmas.{run_step}
use Rattle.js_parse_core.proofs.Readings.{token, token_of, is_proper, Place, admits, starts, ends_parameter, NameRead, Begins, FirstOn, take_proper}
use Rattle.js_parse_core.proofs.Folding.{follows, behind, needs, chained, operand_behind, outermost_is, logic_in, logic_level}
use Rattle.js_parse_core.proofs.FirstTokens.{Then, ThenAt, then_just, then_at, first_on}
use Rattle.js_grammar.proofs.Equations.{written_name, written_number, written_text, written_true, written_false, written_null, written_this}

-- ---- what is read

abbrev pub async_node : Node → Bool
async_node (Expr-F.Name n) = is_async n.units
async_node _ = false

-- the name `async`
abbrev pub is_async_name : Expr → Bool
is_async_name x = async_node (out-Expr x)

abbrev pub name_node : Node → Bool
name_node (Expr-F.Name n) = true
name_node _ = false

abbrev pub is_bare : Expr → Bool
is_bare x = name_node (out-Expr x)

-- x may be read from s on, with o round it
pub record Ready (w : Place) (s : State) (o : Outer) (x : Expr) : Type 0 where
  pub begins : Begins w s o
  pub fits : (shapes.of_expr x).fits ≡ true
  pub admits : admits w (shapes.of_expr x).first ≡ true
  pub needs : needs o.frames ≤ (shapes.of_expr x).level
  pub unmixed : are_mixed (waiting o) (logic_in (shapes.of_expr x).logic) ≡ false

-- q may stand behind x
pub record Next (w : Place) (x : Expr) (q : Piece) : Type 0 where
  pub proper : is_proper q ≡ true
  pub follows : follows (token_of q).kind ≤ (shapes.of_expr x).level
  pub paren : is_async_name x ≡ true → is_open_paren (token_of q).kind ≡ false
  pub cover : w.covering ≡ true → is_bare x ≡ true → ends_parameter (token_of q).kind ≡ false

-- x was read: q does what it does behind x
pub record Stands (s : State) (o : Outer) (x : Expr) (ps : List Piece) (q : Piece) (rest : List Piece) : Type 0 where
  pub accesses : ℕ
  pub chain : ℕ
  pub runs : run s (ps ++ q ∷ rest) ≡ taken (behind o x accesses chain (token_of q)) (λ n. run n rest)

pub record ReadsOperand (x : Expr) : Type 0 where
  pub reads : (w : Place) (s : State) (o : Outer) (ps : List Piece) (q : Piece) (rest : List Piece) → Ready w s o x → Next w x q → FirstOn w.line (ps ++ q ∷ rest) → Fits (grammar.of_expr x).forms ps → Stands s o x ps q rest

abbrev pub operand_at : Outer → Expr → ℕ → State
operand_at o x n = record { outer = o; at = at.Operand x n }

abbrev pub waiting_at : Outer → State
waiting_at o = record { outer = o; at = at.Begin }

-- ---- levels

pub level_small : (x : Expr) → (shapes.of_expr x).level ≤ 9
level_small x = let s = (outermost_is x).small in by_logic (shapes.of_expr x).logic s
  where
    by_logic : (b : shapes.Logic) → (shapes.of_expr x).level ≤ logic_level b → (shapes.of_expr x).level ≤ 9
    by_logic shapes.Coalescing h = omega (arith, h)
    by_logic shapes.AndOr h = omega (arith, h)
    by_logic shapes.NoLogic h = h

pub follows_small : (w : Place) (x : Expr) (q : Piece) → Next w x q → follows (token_of q).kind ≤ 9
follows_small w x q h = let a = h.follows in let b = level_small x in omega (arith, a, b)

-- in the state behind the operand
pub stands_operand : (w : Place) (s : State) (o : Outer) (x : Expr) (n : ℕ) (ps : List Piece) (q : Piece) (rest : List Piece) → Next w x q → run s (ps ++ q ∷ rest) ≡ run (operand_at o x n) (q ∷ rest) → Stands s o x ps q rest
stands_operand w s o x n ps q rest h e = record {
  accesses = n;
  chain = chained o x;
  runs = e ∙ ap (λ (z : Step). taken z (λ m. run m rest)) (take_proper (operand_at o x n) q h.proper refl
      ∙ operand_behind o x n (token_of q).place (token_of q).after_line_end (token_of q).kind (follows_small w x q h));
}

-- ---- one token

pub reads_token : (x : Expr) (k : TokenKind) → (grammar.of_expr x).forms ≡ one (mark (Just k)) ∷ [] → ((w : Place) → starts w k ≡ true)
    → ((o : Outer) (q : ℕ) (l : Bool) → begin o (token q l k) ≡ Ok (operand_at o x 0)) → ReadsOperand x
reads_token x k e g b = record {
  reads = λ w s o ps q rest ready next line h.
      let t : Then false k [] ps = then_just false k 0 [] ps (subst (λ (z : List Form). Fits z ps) e h) in
      let f : ps ≡ Read (token t.place t.line k) ∷ [] = t.are ∙ ap (λ (z : List Piece). Read (token t.place t.line k) ∷ z) t.fits in
      let i : w.line ≡ true → t.line ≡ false = first_on w.line (token t.place t.line k) (q ∷ rest) (subst (λ (z : List Piece). FirstOn w.line (z ++ q ∷ rest)) f line) in
      stands_operand w s o x 0 ps q rest next
      (ap (λ (z : List Piece). run s (z ++ q ∷ rest)) f ∙ run_step s (operand_at o x 0) (Read (token t.place t.line k)) (q ∷ rest) (ready.begins.begins t.place t.line k i (g w) ∙ b o t.place t.line));
}

pub reads_number : (n : ℕ) → ReadsOperand (expr.Number n)
reads_number n = reads_token (expr.Number n) (tok.Number n) (ap (λ (z : grammar.Written). z.forms) (written_number n)) (λ w. refl) (λ o q l. refl)

pub reads_text : (u : List ℕ) → ReadsOperand (expr.Text u)
reads_text u = reads_token (expr.Text u) (tok.Text u) (ap (λ (z : grammar.Written). z.forms) (written_text u)) (λ w. refl) (λ o q l. refl)

pub reads_true : ReadsOperand expr.True
reads_true = reads_token expr.True (tok.Reserved r.True) (ap (λ (z : grammar.Written). z.forms) written_true) (λ w. refl) (λ o q l. refl)

pub reads_false : ReadsOperand expr.False
reads_false = reads_token expr.False (tok.Reserved r.False) (ap (λ (z : grammar.Written). z.forms) written_false) (λ w. refl) (λ o q l. refl)

pub reads_null : ReadsOperand expr.Null
reads_null = reads_token expr.Null (tok.Reserved r.Null) (ap (λ (z : grammar.Written). z.forms) written_null) (λ w. refl) (λ o q l. refl)

pub reads_this : ReadsOperand expr.This
reads_this = reads_token expr.This (tok.Reserved r.This) (ap (λ (z : grammar.Written). z.forms) written_this) (λ w. refl) (λ o q l. refl)

-- ---- names

pub out_name : (n : Name) → out-Expr (expr.Name n) ≡ Expr-F.Name n
out_name n = ap out-Expr (sym (expr.rolls-Name n)) ∙ out-roll-Expr (Expr-F.Name n)

async_kind_is : (o : Outer) (n : Name) (q : ℕ) (l : Bool) (k : TokenKind) → follows k ≤ 9 → is_open_paren k ≡ false → async_kind false o n (token q l k) k ≡ after_operand false o (expr.Name n) 0 (token q l k)
async_kind_is o n q l (tok.Reserved a) h e = absurd (omega (arith, h))
async_kind_is o n q l (tok.Name u) h e = absurd (omega (arith, h))
async_kind_is o n q l (tok.Punctuator p.OpenParen) h e = cc
async_kind_is o n q l (tok.Punctuator _) h e = refl
async_kind_is o n q l _ h e = refl

-- a name is an operand, but for `async` before `(`
pub name_is : (o : Outer) (n : Name) (t : Token) → follows t.kind ≤ 9 → (is_async n.units ≡ true → is_open_paren t.kind ≡ false) → after_name false o n t ≡ after_operand false o (expr.Name n) 0 t
name_is o n t h g = by_letters (is_async n.units) g
  where
    by_line : (l : Bool) → is_open_paren t.kind ≡ false → cond l (after_operand false o (expr.Name n) 0 t) (async_kind false o n t t.kind) ≡ after_operand false o (expr.Name n) 0 t
    by_line true e = refl
    by_line false e = async_kind_is o n t.place t.after_line_end t.kind h e

    by_letters : (b : Bool) → (b ≡ true → is_open_paren t.kind ≡ false) → cond b (after_async false o n t) (after_operand false o (expr.Name n) 0 t) ≡ after_operand false o (expr.Name n) 0 t
    by_letters true g = by_line t.after_line_end (g refl)
    by_letters false g = refl

pub reads_name : (n : Name) → ReadsOperand (expr.Name n)
reads_name n = record {
  reads = λ w s o ps q rest ready next line h.
      let k = tok.Name n.units in
      let t : ThenAt n.place false k [] ps = then_at n.place false k 0 [] ps (subst (λ (z : List Form). Fits z ps) (ap (λ (z : grammar.Written). z.forms) (written_name n)) h) in
      let f : ps ≡ Read (token n.place t.line k) ∷ [] = t.are ∙ ap (λ (z : List Piece). Read (token n.place t.line k) ∷ z) t.fits in
      let i : w.line ≡ true → t.line ≡ false = first_on w.line (token n.place t.line k) (q ∷ rest) (subst (λ (z : List Piece). FirstOn w.line (z ++ q ∷ rest)) f line) in
      let d : NameRead w s o n.place t.line n.units = ready.begins.names n.place t.line n.units i in
      record {
        accesses = 0;
        chain = chained o (expr.Name n);
        runs = ap (λ (z : List Piece). run s (z ++ q ∷ rest)) f ∙ run_step s d.next (Read (token n.place t.line k)) (q ∷ rest) d.takes
            ∙ ap (λ (z : Step). taken z (λ m. run m rest))
            (d.acts q next.proper (λ c. next.cover c (ap name_node (out_name n)))
            ∙ name_is o n (token_of q) (follows_small w (expr.Name n) q next) (λ a. next.paren (ap async_node (out_name n) ∙ a))
            ∙ operand_behind o (expr.Name n) 0 (token_of q).place (token_of q).after_line_end (token_of q).kind (follows_small w (expr.Name n) q next));
      };
}
