-- Values in statements: where they begin, and what closes them.
use Rattle.std.proofs.Common.{◌≡◌, ℕ, Bool, true, false, List, ◌∷◌, ◌++◌, Option, Ok, refl, sym, ap, ◌∙◌}
use Rattle.std.specs.Prelude.{◌||◌}
use Rattle.std.proofs.lemmas.Bool.{false≢true}
use Rattle.js_lex.specs.declared.token.Punctuator.{Punctuator}
use Rattle.js_lex.specs.declared.token.Punctuator.TheVariants as p
use Rattle.js_lex.specs.declared.token.Reserved.TheVariants as r
use Rattle.js_lex.specs.declared.token.TokenKind.{TokenKind}
use Rattle.js_lex.specs.declared.token.TokenKind.TheVariants as tok
use Rattle.js_tree.specs.declared.tree.Expr.{Expr}
use Rattle.js_tree.specs.declared.tree.ForBegin.{ForBegin}
use Rattle.js_grammar.specs.Marks.{Piece, Read, Ended, Auto, Mark, Form, IsWanted, sign, mark, one, just, end, on_one_line}
use Rattle.js_grammar.specs.Grammar.{of_expr}
use Rattle.js_grammar.specs.Shapes as shape
use Rattle.js_parse_core.specs.declared.machine.At.TheVariants as at
use Rattle.js_parse_core.specs.declared.machine.Frame.TheVariants as frame
use Rattle.js_parse_core.specs.declared.machine.Outer.{Outer}
use Rattle.js_parse_core.specs.declared.machine.Purpose.{Purpose}
use Rattle.js_parse_core.specs.declared.machine.Purpose.TheVariants as purpose
use Rattle.js_parse_core.specs.declared.machine.State.{State}
use Rattle.js_parse_core.specs.Outer.{Step, plus, constructs, push, push_at, is_statement_purpose}
use Rattle.js_parse_core.specs.Begin.{begin}
use Rattle.js_parse_core.specs.Statements.{on_statement}
use Rattle.js_parse_core.specs.Tokens.{is_semicolon}
use Rattle.js_parse_core.specs.Values.{on_value}
use Rattle.js_parse_core.proofs.Pieces.{Fits, end_token, is_last, take}
use Rattle.js_parse_core.proofs.PieceLemmas.{take_is}
use Rattle.js_parse_core.proofs.Readings.{free_admits, token, token_of, kind_closes, closes, Place, free, on_line, as_statement, admits, starts, is_name, begins_exactly, begins_purpose, plus_low, FirstOn, ReadsValue}
use Rattle.js_parse_core.proofs.Readings as readings
use Rattle.js_parse_core.proofs.Reaches.{Goal, Leads, Reaches, leads_is, leads_run, reaches_then, reaches_either}
use Rattle.js_parse_core.proofs.ReadsStatements.{Begins}

-- ---- a value, and what closes it

-- pieces of these forms are those of x, as they may stand there
abbrev pub FormsOf : Place → Expr → List Form → Type 0
FormsOf w x fs = (ps rest : List Piece) → Fits fs ps → Fits (of_expr x).forms ps × FirstOn w.line (ps ++ rest)

-- x in a place of this state, for the purpose v
pub record Stands (x : Expr) (w : Place) (s : State) (o : Outer) (c : ℕ) (v : Purpose) (fs : List Form) : Type 0 where
  pub value : ReadsValue x
  pub begins : readings.Begins w s (push_at o c (frame.Purpose v))
  pub fits : (shape.of_expr x).fits ≡ true
  pub admits : admits w (shape.of_expr x).first ≡ true
  pub covering : w.covering ≡ false
  pub forms : FormsOf w x fs

pub value_reaches : (x : Expr) (w : Place) (s : State) (o : Outer) (c : ℕ) (v : Purpose) (fs : List Form) (q : Piece) (g : Goal) (rest : List Piece) → Stands x w s o c v fs → closes q ≡ true
    → Leads g (on_value false o v x (token_of q)) rest → Reaches g (Ok s) fs (q ∷ rest)
value_reaches x w s o c v fs q g rest a e k = record {
  reaches = λ ps fit.
      let d = a.forms ps (q ∷ rest) fit in
      leads_run g s (ps ++ q ∷ rest) rest (on_value false o v x (token_of q)) (a.value.reads w s o c v ps q rest a.begins a.fits a.admits a.covering d.1 d.0 e) k;
}

-- what a mark asks of the pieces that close
abbrev pub Closes : Mark → Outer → Purpose → Expr → Step → Type 0
Closes m o v x made = (q : Piece) → IsWanted m.want m.unbroken q → (closes q ≡ true) × (on_value false o v x (token_of q) ≡ made)

pub closes_by : (o : Outer) (v : Purpose) (x : Expr) (y : Punctuator) (made : Step) → kind_closes (tok.Punctuator y) ≡ true → ((q : ℕ) (l : Bool) → on_value false o v x (token q l (tok.Punctuator y)) ≡ made) → Closes (sign y) o v x made
closes_by o v x y made c e (Read t) w = (ap kind_closes w.0 ∙ c, ap (λ (z : TokenKind). on_value false o v x (token t.place t.after_line_end z)) w.0 ∙ e t.place t.after_line_end)
closes_by o v x y made c e Ended w = absurd w

closes_ended : (o : Outer) (v : Purpose) (x : Expr) (made : Step) → on_value false o v x end_token ≡ made → Closes (mark Auto) o v x made
closes_ended o v x made e (Read t) w = absurd w
closes_ended o v x made e Ended w = (refl, e)

value_then : (x : Expr) (w : Place) (s : State) (o : Outer) (c : ℕ) (v : Purpose) (fs : List Form) (m : Mark) (made : Step) (g : Goal) (gs : List Form) (rest : List Piece) → Stands x w s o c v fs → Closes m o v x made
    → Reaches g made gs rest → Reaches g (Ok s) (fs ++ one m ∷ gs) rest
value_then x w s o c v fs m made g gs rest a e k = reaches_then g (Ok s) fs m gs rest (λ q ps h fit.
    let d = e q h in
    value_reaches x w s o c v fs q g (ps ++ rest) a d.0 (leads_is g (on_value false o v x (token_of q)) made (ps ++ rest) d.1 (k.reaches ps fit)))

pub value_just : (x : Expr) (w : Place) (s : State) (o : Outer) (c : ℕ) (v : Purpose) (fs : List Form) (y : Punctuator) (made : Step) (g : Goal) (gs : List Form) (rest : List Piece) → Stands x w s o c v fs
    → kind_closes (tok.Punctuator y) ≡ true → ((q : ℕ) (l : Bool) → on_value false o v x (token q l (tok.Punctuator y)) ≡ made) → Reaches g made gs rest → Reaches g (Ok s) (fs ++ just y ∷ gs) rest
value_just x w s o c v fs y made g gs rest a d e k = value_then x w s o c v fs (sign y) made g gs rest a (closes_by o v x y made d e) k

pub value_end : (x : Expr) (w : Place) (s : State) (o : Outer) (c : ℕ) (v : Purpose) (fs : List Form) (made : Step) (g : Goal) (gs : List Form) (rest : List Piece) → Stands x w s o c v fs
    → ((q : ℕ) (l : Bool) → on_value false o v x (token q l (tok.Punctuator p.Semicolon)) ≡ made) → on_value false o v x end_token ≡ made → Reaches g made gs rest → Reaches g (Ok s) (fs ++ end ∷ gs) rest
value_end x w s o c v fs made g gs rest a e f k = reaches_either g (Ok s) fs (sign p.Semicolon) (mark Auto) gs rest
    (value_then x w s o c v fs (sign p.Semicolon) made g gs rest a (closes_by o v x p.Semicolon made refl e) k)
    (value_then x w s o c v fs (mark Auto) made g gs rest a (closes_ended o v x made f) k)

-- ---- states in which a value begins

stands_free : (x : Expr) (s : State) (o : Outer) (c : ℕ) (v : Purpose) → ReadsValue x → (shape.of_expr x).fits ≡ true → readings.Begins free s (push_at o c (frame.Purpose v)) → Stands x free s o c v (of_expr x).forms
stands_free x s o c v r f b = record { value = r; begins = b; fits = f; admits = free_admits (shape.of_expr x).first; covering = refl; forms = λ ps rest h. (h, tt) }

-- behind a sign that asks for one
pub stands_waiting : (x : Expr) (o : Outer) (n : ℕ) (v : Purpose) → ReadsValue x → (shape.of_expr x).fits ≡ true → is_statement_purpose v ≡ false
    → Stands x free (record { outer = push o n (frame.Purpose v); at = at.Begin }) o (plus (constructs o) n) v (of_expr x).forms
stands_waiting x o n v r f e = stands_free x (record { outer = push o n (frame.Purpose v); at = at.Begin }) o (plus (constructs o) n) v r f (begins_purpose o (plus (constructs o) n) v (plus_low (constructs o) n) e)

begins_push : (w : Place) (s : State) (o : Outer) (n : ℕ) (v : Purpose) → (w.functions ≡ true → is_statement_purpose v ≡ false)
    → ((q : ℕ) (l : Bool) (k : TokenKind) → (w.line ≡ true → l ≡ false) → (is_name k || starts w k) ≡ true → take s (Read (token q l k)) ≡ begin (push o n (frame.Purpose v)) (token q l k))
    → readings.Begins w s (push_at o (plus (constructs o) n) (frame.Purpose v))
begins_push w s o n v e h = begins_exactly w s (push_at o (plus (constructs o) n) (frame.Purpose v)) (plus_low (constructs o) n) refl e h

exact_for_head : (o : Outer) (q : ℕ) (l : Bool) (k : TokenKind) → (is_name k || starts free k) ≡ true → take (record { outer = o; at = at.ForHead }) (Read (token q l k)) ≡ begin (push o 1 (frame.Purpose purpose.ForStart)) (token q l k)
exact_for_head o q l tok.End h = cc
exact_for_head o q l (tok.Bad f) h = cc
exact_for_head o q l (tok.Reserved r.Let) h = cc
exact_for_head o q l (tok.Reserved r.Const) h = cc
exact_for_head o q l (tok.Punctuator p.Semicolon) h = cc
exact_for_head o q l k h = take_is (record { outer = o; at = at.ForHead }) (token q l k) refl

pub stands_for_start : (x : Expr) (o : Outer) → ReadsValue x → (shape.of_expr x).fits ≡ true → Stands x free (record { outer = o; at = at.ForHead }) o (plus (constructs o) 1) purpose.ForStart (of_expr x).forms
stands_for_start x o r f = stands_free x (record { outer = o; at = at.ForHead }) o (plus (constructs o) 1) purpose.ForStart r f
    (begins_push free (record { outer = o; at = at.ForHead }) o 1 purpose.ForStart (λ e. refl) (λ q l k e h. exact_for_head o q l k h))

exact_for_test : (o : Outer) (b : ForBegin) (q : ℕ) (l : Bool) (k : TokenKind) → (is_name k || starts free k) ≡ true → take (record { outer = o; at = at.ForTest b }) (Read (token q l k)) ≡ begin (push o 1 (frame.Purpose (purpose.ForTest b))) (token q l k)
exact_for_test o b q l tok.End h = cc
exact_for_test o b q l (tok.Bad f) h = cc
exact_for_test o b q l (tok.Punctuator p.Semicolon) h = cc
exact_for_test o b q l k h = take_is (record { outer = o; at = at.ForTest b }) (token q l k) refl

pub stands_for_test : (x : Expr) (o : Outer) (b : ForBegin) → ReadsValue x → (shape.of_expr x).fits ≡ true → Stands x free (record { outer = o; at = at.ForTest b }) o (plus (constructs o) 1) (purpose.ForTest b) (of_expr x).forms
stands_for_test x o b r f = stands_free x (record { outer = o; at = at.ForTest b }) o (plus (constructs o) 1) (purpose.ForTest b) r f
    (begins_push free (record { outer = o; at = at.ForTest b }) o 1 (purpose.ForTest b) (λ e. refl) (λ q l k e h. exact_for_test o b q l k h))

exact_for_update : (o : Outer) (b : ForBegin) (test : Option Expr) (q : ℕ) (l : Bool) (k : TokenKind) → (is_name k || starts free k) ≡ true
    → take (record { outer = o; at = at.ForUpdate b test }) (Read (token q l k)) ≡ begin (push o 1 (frame.Purpose (purpose.ForUpdate b test))) (token q l k)
exact_for_update o b test q l tok.End h = cc
exact_for_update o b test q l (tok.Bad f) h = cc
exact_for_update o b test q l (tok.Punctuator p.CloseParen) h = cc
exact_for_update o b test q l k h = take_is (record { outer = o; at = at.ForUpdate b test }) (token q l k) refl

pub stands_for_update : (x : Expr) (o : Outer) (b : ForBegin) (test : Option Expr) → ReadsValue x → (shape.of_expr x).fits ≡ true
    → Stands x free (record { outer = o; at = at.ForUpdate b test }) o (plus (constructs o) 1) (purpose.ForUpdate b test) (of_expr x).forms
stands_for_update x o b test r f = stands_free x (record { outer = o; at = at.ForUpdate b test }) o (plus (constructs o) 1) (purpose.ForUpdate b test) r f
    (begins_push free (record { outer = o; at = at.ForUpdate b test }) o 1 (purpose.ForUpdate b test) (λ e. refl) (λ q l k e h. exact_for_update o b test q l k h))

-- behind `return` and `throw`, on their line
line_admits : (y : shape.First) → admits on_line y ≡ true
line_admits shape.Brace = refl
line_admits shape.FunctionWord = refl
line_admits shape.OtherFirst = refl

-- the first token of x has no line end before it, and all are those of x
abbrev pub OneLine : Expr → Type 0
OneLine x = FormsOf on_line x (on_one_line (of_expr x).forms)

stands_line : (x : Expr) (s : State) (o : Outer) (v : Purpose) → ReadsValue x → OneLine x → (shape.of_expr x).fits ≡ true → is_statement_purpose v ≡ false
    → ((q : ℕ) (k : TokenKind) → (is_name k || starts on_line k) ≡ true → take s (Read (token q false k)) ≡ begin (push o 0 (frame.Purpose v)) (token q false k))
    → Stands x on_line s o (plus (constructs o) 0) v (on_one_line (of_expr x).forms)
stands_line x s o v r d f e h = record { value = r; begins = begins_push on_line s o 0 v (λ z. e) by_line; fits = f; admits = line_admits (shape.of_expr x).first; covering = refl; forms = d }
  where
    by_line : (q : ℕ) (l : Bool) (k : TokenKind) → (true ≡ true → l ≡ false) → (is_name k || starts on_line k) ≡ true → take s (Read (token q l k)) ≡ begin (push o 0 (frame.Purpose v)) (token q l k)
    by_line q true k c a = let z = c refl in cc
    by_line q false k c a = h q k a

exact_return : (o : Outer) (m q : ℕ) (k : TokenKind) → (is_name k || starts on_line k) ≡ true → take (record { outer = o; at = at.Return m }) (Read (token q false k)) ≡ begin (push o 0 (frame.Purpose (purpose.Return m))) (token q false k)
exact_return o m q tok.End h = cc
exact_return o m q (tok.Bad f) h = cc
exact_return o m q (tok.Punctuator p.CloseBrace) h = cc
exact_return o m q (tok.Punctuator p.Semicolon) h = cc
exact_return o m q k h = take_is (record { outer = o; at = at.Return m }) (token q false k) refl

pub stands_return : (x : Expr) (o : Outer) (m : ℕ) → ReadsValue x → OneLine x → (shape.of_expr x).fits ≡ true → Stands x on_line (record { outer = o; at = at.Return m }) o (plus (constructs o) 0) (purpose.Return m) (on_one_line (of_expr x).forms)
stands_return x o m r d f = stands_line x (record { outer = o; at = at.Return m }) o (purpose.Return m) r d f refl (exact_return o m)

exact_throw : (o : Outer) (q : ℕ) (k : TokenKind) → (is_name k || starts on_line k) ≡ true → take (record { outer = o; at = at.Throw }) (Read (token q false k)) ≡ begin (push o 0 (frame.Purpose purpose.Throw)) (token q false k)
exact_throw o q tok.End h = cc
exact_throw o q (tok.Bad f) h = cc
exact_throw o q k h = take_is (record { outer = o; at = at.Throw }) (token q false k) refl

pub stands_throw : (x : Expr) (o : Outer) → ReadsValue x → OneLine x → (shape.of_expr x).fits ≡ true → Stands x on_line (record { outer = o; at = at.Throw }) o (plus (constructs o) 0) purpose.Throw (on_one_line (of_expr x).forms)
stands_throw x o r d f = stands_line x (record { outer = o; at = at.Throw }) o purpose.Throw r d f refl (exact_throw o)

-- as a statement
record Expresses (o : Outer) (q : ℕ) (l : Bool) (k : TokenKind) : Type 0 where
  not_last : is_last k ≡ false
  not_empty : is_semicolon k ≡ false
  expresses : on_statement o (token q l k) ≡ begin (push o 0 (frame.Purpose purpose.Statement)) (token q l k)

exact_statement : (o : Outer) (q : ℕ) (l : Bool) (k : TokenKind) → (is_name k || starts as_statement k) ≡ true → Expresses o q l k
exact_statement o q l tok.End h = cc
exact_statement o q l (tok.Bad f) h = cc
exact_statement o q l (tok.Reserved r.If) h = cc
exact_statement o q l (tok.Reserved r.While) h = cc
exact_statement o q l (tok.Reserved r.For) h = cc
exact_statement o q l (tok.Reserved r.Break) h = cc
exact_statement o q l (tok.Reserved r.Continue) h = cc
exact_statement o q l (tok.Reserved r.Return) h = cc
exact_statement o q l (tok.Reserved r.Throw) h = cc
exact_statement o q l (tok.Reserved r.Try) h = cc
exact_statement o q l (tok.Reserved r.Function) h = cc
exact_statement o q l (tok.Reserved r.Export) h = cc
exact_statement o q l (tok.Reserved r.Let) h = cc
exact_statement o q l (tok.Reserved r.Const) h = cc
exact_statement o q l (tok.Punctuator p.OpenBrace) h = cc
exact_statement o q l (tok.Punctuator p.CloseBrace) h = cc
exact_statement o q l (tok.Punctuator p.Semicolon) h = cc
exact_statement o q l k h = record { not_last = refl; not_empty = refl; expresses = refl }

begins_statement : (b : Bool) (s : State) (o : Outer) → Begins b s o → readings.Begins as_statement s (push_at o (plus (constructs o) 0) (frame.Purpose purpose.Statement))
begins_statement b s o a = begins_push as_statement s o 0 purpose.Statement (λ e. cc) (λ q l k e h.
    let x : Expresses o q l k = exact_statement o q l k h in
    take_is s (token q l k) x.not_last ∙ a.begins (token q l k) (λ z. absurd (false≢true (sym x.not_empty ∙ z))) ∙ x.expresses)

statement_admits : (y : shape.First) → shape.is_other y ≡ true → admits as_statement y ≡ true
statement_admits shape.Brace e = e
statement_admits shape.FunctionWord e = e
statement_admits shape.OtherFirst e = refl

pub stands_statement : (x : Expr) (b : Bool) (s : State) (o : Outer) → ReadsValue x → Begins b s o → (shape.of_expr x).fits ≡ true → shape.is_other (shape.of_expr x).first ≡ true
    → Stands x as_statement s o (plus (constructs o) 0) purpose.Statement (of_expr x).forms
stands_statement x b s o r a f e = record { value = r; begins = begins_statement b s o a; fits = f; admits = statement_admits (shape.of_expr x).first e; covering = refl; forms = λ ps rest h. (h, tt) }
