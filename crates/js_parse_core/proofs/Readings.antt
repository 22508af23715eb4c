-- What it means that the machine reads a tree: where its text may begin, what may follow it, and what is read then.
use Rattle.std.proofs.Common.{◌≡◌, ℕ, ◌+◌, ◌<◌, Bool, true, false, cond, not, List, [], ◌∷◌, ◌++◌, map, Ok, refl, ap, ◌∙◌, arith}
use Rattle.std.specs.Prelude.{◌&&◌, ◌||◌, nat_le, nat_lt}
use Rattle.std.proofs.lemmas.Bool.{lt-leb, ltb-true, or_right}
use Rattle.js_lex.specs.declared.token.Punctuator.{Punctuator}
use Rattle.js_lex.specs.declared.token.Punctuator.TheVariants as p
use Rattle.js_lex.specs.declared.token.Reserved.{Reserved}
use Rattle.js_lex.specs.declared.token.Reserved.TheVariants as r
use Rattle.js_lex.specs.declared.token.TemplatePart.{TemplatePart}
use Rattle.js_lex.specs.declared.token.TemplatePart.TheVariants as part
use Rattle.js_lex.specs.declared.token.TokenKind.{TokenKind}
use Rattle.js_lex.specs.declared.token.TokenKind.TheVariants as tok
use Rattle.js_lex.specs.declared.token.Token.{Token}
use Rattle.js_tree.specs.declared.tree.Expr.{Expr}
use Rattle.js_tree.specs.declared.tree.Expr.TheVariants as expr
use Rattle.js_tree.specs.declared.tree.Function.{Function}
use Rattle.js_tree.specs.declared.tree.Name.{Name}
use Rattle.js_tree.specs.declared.tree.Property.{Property}
use Rattle.js_tree.specs.declared.tree.Stmt.{Stmt}
use Rattle.js_grammar.specs.Marks.{Piece, Read, Ended, just, listed}
use Rattle.js_grammar.specs.Grammar as grammar
use Rattle.js_grammar.specs.Shapes as shapes
use Rattle.js_parse_core.specs.declared.machine.At.{At}
use Rattle.js_parse_core.specs.declared.machine.At.TheVariants as at
use Rattle.js_parse_core.specs.declared.machine.Block.{Block}
use Rattle.js_parse_core.specs.declared.machine.Frame.TheVariants as frame
use Rattle.js_parse_core.specs.declared.machine.Head.{Head}
use Rattle.js_parse_core.specs.declared.machine.Outer.{Outer}
use Rattle.js_parse_core.specs.declared.machine.Purpose.{Purpose}
use Rattle.js_parse_core.specs.declared.machine.State.{State}
use Rattle.js_parse_core.specs.Begin.{begin, begin_name}
use Rattle.js_parse_core.specs.Expressions.{after_name, after_async, after_operand}
use Rattle.js_parse_core.specs.Objects.{is_export, close_object}
use Rattle.js_parse_core.specs.Outer.{refuse, plus, most_counted, push_at, constructs, innermost, is_statement_purpose, begins_statement}
use Rattle.js_parse_core.specs.Machine.{step, step_in}
use Rattle.js_parse_core.specs.Statements.{close, close_function}
use Rattle.js_parse_core.specs.Tokens.{name, is_async}
use Rattle.js_parse_core.specs.Values.{on_value}
use Rattle.js_parse_core.proofs.Pieces.{Fits, no_limit, end_token, is_between, is_last, take, taken, run}
use Rattle.js_parse_core.proofs.PieceLemmas.{no_limit_is, take_is}

-- ---- tokens

abbrev pub token : ℕ → Bool → TokenKind → Token
token q l k = record { place = q; after_line_end = l; kind = k }

-- the token that the machine takes for a piece
abbrev pub token_of : Piece → Token
token_of (Read t) = t
token_of Ended = end_token

-- neither `End` nor `Bad`
abbrev pub is_proper : Piece → Bool
is_proper (Read t) = not (is_last t.kind)
is_proper Ended = true

abbrev pub sign_closes : Punctuator → Bool
sign_closes p.CloseParen = true
sign_closes p.CloseBracket = true
sign_closes p.CloseBrace = true
sign_closes p.Comma = true
sign_closes p.Semicolon = true
sign_closes p.Colon = true
sign_closes _ = false

abbrev pub part_closes : TemplatePart → Bool
part_closes part.Middle = true
part_closes part.Tail = true
part_closes _ = false

abbrev pub kind_closes : TokenKind → Bool
kind_closes (tok.Punctuator s) = sign_closes s
kind_closes (tok.Template x u) = part_closes x
kind_closes _ = false

-- what stands behind a whole value
abbrev pub closes : Piece → Bool
closes (Read t) = kind_closes t.kind
closes Ended = true

-- ---- places where an expression begins

pub record Place : Type 0 where
  -- only with no line end before it
  pub line : Bool
  -- `{` may stand first
  pub braces : Bool
  -- .. `function`, or `async` and `function`
  pub functions : Bool
  -- names may be the parameters of an arrow
  pub covering : Bool

abbrev pub free : Place
free = record { line = false; braces = true; functions = true; covering = false }

-- behind `return` and `throw`
abbrev pub on_line : Place
on_line = record { line = true; braces = true; functions = true; covering = false }

-- a statement
abbrev pub as_statement : Place
as_statement = record { line = false; braces = false; functions = false; covering = false }

-- the body of an arrow
abbrev pub concise : Place
concise = record { line = false; braces = false; functions = true; covering = false }

-- behind `(`
abbrev pub covered : Place
covered = record { line = false; braces = true; functions = true; covering = true }

abbrev pub admits : Place → shapes.First → Bool
admits w shapes.Brace = w.braces
admits w shapes.FunctionWord = w.functions
admits w shapes.OtherFirst = true

pub free_admits : (a : shapes.First) → admits free a ≡ true
free_admits shapes.Brace = refl
free_admits shapes.FunctionWord = refl
free_admits shapes.OtherFirst = refl

pub covered_admits : (a : shapes.First) → admits covered a ≡ true
covered_admits shapes.Brace = refl
covered_admits shapes.FunctionWord = refl
covered_admits shapes.OtherFirst = refl

abbrev pub sign_starts : Place → Punctuator → Bool
sign_starts w p.OpenParen = true
sign_starts w p.OpenBracket = true
sign_starts w p.OpenBrace = w.braces
sign_starts w p.Not = true
sign_starts w p.Minus = true
sign_starts w p.PlusPlus = true
sign_starts w p.MinusMinus = true
sign_starts w _ = false

abbrev pub word_starts : Place → Reserved → Bool
word_starts w r.True = true
word_starts w r.False = true
word_starts w r.Null = true
word_starts w r.This = true
word_starts w r.Function = w.functions
word_starts w r.New = true
word_starts w r.TypeOf = true
word_starts w r.Await = true
word_starts w _ = false

abbrev pub part_starts : TemplatePart → Bool
part_starts part.Whole = true
part_starts part.Head = true
part_starts _ = false

-- the first token of an expression, but for names
abbrev pub starts : Place → TokenKind → Bool
starts w (tok.Number n) = true
starts w (tok.Text u) = true
starts w (tok.Template x u) = part_starts x
starts w (tok.Reserved x) = word_starts w x
starts w (tok.Punctuator s) = sign_starts w s
starts w _ = false

-- behind a name that may be a parameter
abbrev pub ends_parameter : TokenKind → Bool
ends_parameter (tok.Punctuator p.Comma) = true
ends_parameter (tok.Punctuator p.CloseParen) = true
ends_parameter _ = false

-- a name was read: what follows it does what it does behind the name
pub record NameRead (w : Place) (s : State) (o : Outer) (q : ℕ) (l : Bool) (u : List ℕ) : Type 0 where
  pub next : State
  pub takes : take s (Read (token q l (tok.Name u))) ≡ Ok next
  pub acts : (x : Piece) → is_proper x ≡ true → (w.covering ≡ true → ends_parameter (token_of x).kind ≡ false) → take next x ≡ after_name false o (name q u) (token_of x)

-- In s an expression begins whose outer is o.
pub record Begins (w : Place) (s : State) (o : Outer) : Type 0 where
  pub low : nat_le no_limit (constructs o) ≡ false
  pub no_export : is_export (innermost o) ≡ false
  pub no_statement : w.functions ≡ true → begins_statement o ≡ false
  pub begins : (q : ℕ) (l : Bool) (k : TokenKind) → (w.line ≡ true → l ≡ false) → starts w k ≡ true → take s (Read (token q l k)) ≡ begin o (token q l k)
  pub names : (q : ℕ) (l : Bool) (u : List ℕ) → (w.line ≡ true → l ≡ false) → NameRead w s o q l u

-- the first token has no line end before it, where that is asked for
abbrev pub FirstOn : Bool → List Piece → Type 0
FirstOn true (Read t ∷ ps) = t.after_line_end ≡ false
FirstOn true _ = ⊥
FirstOn false ps = Unit {0}

-- ---- trees that are read

-- A whole value: x is read for its purpose v.
pub record ReadsValue (x : Expr) : Type 0 where
  pub reads : (w : Place) (s : State) (o : Outer) (c : ℕ) (v : Purpose) (ps : List Piece) (q : Piece) (rest : List Piece)
      → Begins w s (push_at o c (frame.Purpose v)) → (shapes.of_expr x).fits ≡ true → admits w (shapes.of_expr x).first ≡ true → w.covering ≡ false
      → FirstOn w.line (ps ++ q ∷ rest) → Fits (grammar.of_expr x).forms ps → closes q ≡ true
      → run s (ps ++ q ∷ rest) ≡ taken (on_value false o v x (token_of q)) (λ n. run n rest)

-- The statements of a block, up to its `}`.
pub record ReadsStmts (xs : List Stmt) : Type 0 where
  pub reads : (o : Outer) (c : ℕ) (b : Block) (ps : List Piece) (q : ℕ) (l : Bool) (rest : List Piece)
      → shapes.all_statements_fit (map shapes.of_stmt xs) ≡ true → Fits (grammar.statements (map grammar.of_stmt xs)) ps
      → run (record { outer = push_at o c (frame.Block b []); at = at.Statement }) (ps ++ Read (token q l (tok.Punctuator p.CloseBrace)) ∷ rest) ≡ taken (close o b xs) (λ n. run n rest)

-- The parameters and the body of a function.
pub record ReadsFunction (f : Function) : Type 0 where
  pub reads : (o : Outer) (h : Head) (ps rest : List Piece) → shapes.of_function f ≡ true → Fits (grammar.of_function f).forms ps
      → run (record { outer = o; at = at.ParametersOpen h }) (ps ++ rest) ≡ taken (close_function o h f.parameters f.body) (λ n. run n rest)

-- The members of an object, up to its `}`.
pub record ReadsObject (xs : List Property) : Type 0 where
  pub reads : (o : Outer) (ps rest : List Piece) → shapes.all_true (map shapes.of_property xs) ≡ true → Fits (listed (map grammar.of_property xs) ++ just p.CloseBrace ∷ []) ps
      → run (record { outer = o; at = at.Key [] }) (ps ++ rest) ≡ taken (close_object o xs) (λ n. run n rest)

-- ---- counts

pub plus_low : (a b : ℕ) → nat_le no_limit (plus a b) ≡ false
plus_low a b = by_tests (nat_lt a most_counted) (nat_lt b most_counted) (λ h. ltb-true a most_counted h) (λ h. ltb-true b most_counted h)
  where
    by_tests : (c d : Bool) → (c ≡ true → a < 1000) → (d ≡ true → b < 1000) → nat_le no_limit (cond (c && d) (a + b) most_counted) ≡ false
    by_tests true true f g = let x = f refl in let y = g refl in lt-leb no_limit (a + b) (omega arith)
    by_tests true false f g = refl
    by_tests false d f g = refl

-- ---- what a piece does

not_last : (b : Bool) → not b ≡ true → b ≡ false
not_last true h = cc
not_last false h = refl

-- a piece does what the spot says, where no statement is whole
pub take_proper : (s : State) (x : Piece) → is_proper x ≡ true → is_between s.at ≡ false → take s x ≡ step_in no_limit false s.outer s.at (token_of x)
take_proper s (Read t) h e = take_is s t (not_last (is_last t.kind) h)
take_proper s Ended h e = ap (λ (b : Bool). cond b refuse (step no_limit false s end_token)) e ∙ no_limit_is (step_in no_limit false s.outer s.at end_token)

-- behind a name
abbrev pub name_spot : Name → At
name_spot n = cond (is_async n.units) (at.Async n) (at.Operand (expr.Name n) 0)

abbrev pub named : Outer → Name → State
named o n = record { outer = o; at = name_spot n }

named_acts : (o : Outer) (n : Name) (x : Piece) → is_proper x ≡ true → take (named o n) x ≡ after_name false o n (token_of x)
named_acts o n x h = by_letters (is_async n.units)
  where
    by_letters : (b : Bool) → take (record { outer = o; at = cond b (at.Async n) (at.Operand (expr.Name n) 0) }) x
        ≡ cond b (after_async false o n (token_of x)) (after_operand false o (expr.Name n) 0 (token_of x))
    by_letters true = take_proper (record { outer = o; at = at.Async n }) x h refl
    by_letters false = take_proper (record { outer = o; at = at.Operand (expr.Name n) 0 }) x h refl

begin_named : (o : Outer) (n : Name) → begin_name o n (is_async n.units) ≡ Ok (named o n)
begin_named o n = by_letters (is_async n.units)
  where
    by_letters : (b : Bool) → begin_name o n b ≡ Ok (record { outer = o; at = cond b (at.Async n) (at.Operand (expr.Name n) 0) })
    by_letters true = refl
    by_letters false = refl

abbrev pub is_name : TokenKind → Bool
is_name (tok.Name u) = true
is_name _ = false

-- a state in which each token that may come first does what it does where an operand begins
pub begins_exactly : (w : Place) (s : State) (o : Outer) → nat_le no_limit (constructs o) ≡ false → is_export (innermost o) ≡ false → (w.functions ≡ true → begins_statement o ≡ false)
    → ((q : ℕ) (l : Bool) (k : TokenKind) → (w.line ≡ true → l ≡ false) → (is_name k || starts w k) ≡ true → take s (Read (token q l k)) ≡ begin o (token q l k)) → Begins w s o
begins_exactly w s o low export statement exact = record {
  low = low;
  no_export = export;
  no_statement = statement;
  begins = λ q l k line h. exact q l k line (or_right (is_name k) (starts w k) h);
  names = λ q l u line. record {
    next = named o (name q u);
    takes = exact q l (tok.Name u) line refl ∙ begin_named o (name q u);
    acts = λ x h c. named_acts o (name q u) x h;
  };
}

-- where an operand begins
pub begins_waiting : (o : Outer) → nat_le no_limit (constructs o) ≡ false → is_export (innermost o) ≡ false → begins_statement o ≡ false → Begins free (record { outer = o; at = at.Begin }) o
begins_waiting o low export statement = begins_exactly free (record { outer = o; at = at.Begin }) o low export (λ h. statement) (λ q l k line h. take_first q l k h)
  where
    take_first : (q : ℕ) (l : Bool) (k : TokenKind) → (is_name k || starts free k) ≡ true → take (record { outer = o; at = at.Begin }) (Read (token q l k)) ≡ begin o (token q l k)
    take_first q l tok.End h = cc
    take_first q l (tok.Bad f) h = cc
    take_first q l k h = take_is (record { outer = o; at = at.Begin }) (token q l k) refl

pub begins_purpose : (o : Outer) (c : ℕ) (v : Purpose) → nat_le no_limit c ≡ false → is_statement_purpose v ≡ false
    → Begins free (record { outer = push_at o c (frame.Purpose v); at = at.Begin }) (push_at o c (frame.Purpose v))
begins_purpose o c v low e = begins_waiting (push_at o c (frame.Purpose v)) low refl e
