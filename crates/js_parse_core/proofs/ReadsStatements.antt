-- What it is that parts of trees are read: the pieces that fit them lead on, from the places where they may stand.
use Rattle.std.proofs.Common.{◌≡◌, Bool, true, false, List, [], ◌∷◌, ◌++◌, ◌⊎◌, Some, None, Ok}
use Rattle.std.specs.Prelude.{◌&&◌}
use Rattle.js_lex.specs.declared.token.Punctuator.TheVariants as p
use Rattle.js_lex.specs.declared.token.TokenKind.{TokenKind}
use Rattle.js_lex.specs.declared.token.TokenKind.TheVariants as tok
use Rattle.js_lex.specs.declared.token.Token.{Token}
use Rattle.js_tree.specs.declared.tree.Catch.{Catch}
use Rattle.js_tree.specs.declared.tree.Declaration.{Declaration}
use Rattle.js_tree.specs.declared.tree.Expr.{Expr}
use Rattle.js_tree.specs.declared.tree.ForBegin.{ForBegin}
use Rattle.js_tree.specs.declared.tree.Property.{Property}
use Rattle.js_tree.specs.declared.tree.Stmt.{Stmt}
use Rattle.js_tree.specs.declared.tree.Stmt.TheVariants as stmt
use Rattle.js_grammar.specs.Marks.{Piece, Read, Ended}
use Rattle.js_grammar.specs.Grammar.{of_for, of_property, of_stmt, of_catch, of_declaration, is_empty}
use Rattle.js_grammar.specs.Shapes.{StmtShape, declared_fits}
use Rattle.js_grammar.specs.Shapes as shape
use Rattle.js_parse_core.specs.declared.machine.At.TheVariants as at
use Rattle.js_parse_core.specs.declared.machine.Declared.{Declared}
use Rattle.js_parse_core.specs.declared.machine.Outer.{Outer}
use Rattle.js_parse_core.specs.declared.machine.State.{State}
use Rattle.js_parse_core.specs.Outer.{to, in_body, complete}
use Rattle.js_parse_core.specs.Objects.{on_property_end}
use Rattle.js_parse_core.specs.Statements.{on_statement}
use Rattle.js_parse_core.specs.Tokens.{is_else, is_semicolon}
use Rattle.js_parse_core.specs.Values.{on_initial_end}
use Rattle.js_parse_core.proofs.Readings.{token_of}
use Rattle.js_parse_core.proofs.Reaches.{Goal, Leads, Reaches, did}

-- ---- members of objects

abbrev pub EndsProperty : TokenKind → Type 0
EndsProperty k = (k ≡ tok.Punctuator p.Comma) ⊎ (k ≡ tok.Punctuator p.CloseBrace)

-- a member, behind those before it
pub record ReadsProperty (x : Property) : Type 0 where
  pub reads : (o : Outer) (xs : List Property) (t : Token) (g : Goal) (rest : List Piece) → shape.of_property x ≡ true → EndsProperty t.kind
      → Leads g (on_property_end o (xs ++ x ∷ []) t.kind) rest → Reaches g (to o (at.Key xs)) (of_property x) (Read t ∷ rest)

-- ---- statements

abbrev pub begins_else : List Piece → Bool
begins_else [] = false
begins_else (Read t ∷ ps) = is_else t.kind
begins_else (Ended ∷ ps) = false

-- no `else` follows that would be its own
abbrev pub Behind : StmtShape → List Piece → Type 0
Behind s rest = (s.takes_else && begins_else rest) ≡ false

-- at the end, a statement that might go on is whole
pub record Settles (g : Goal) : Type 0 where
  pub after_then : (o : Outer) (test : Expr) (s : Stmt) → Leads g (complete o (stmt.If test s None)) [] → g.last (record { outer = o; at = at.AfterThen test s }) ≡ g.final
  pub after_catch : (o : Outer) (ss : List Stmt) (c : Catch) → Leads g (complete o (stmt.Try ss (Some c) None)) [] → g.last (record { outer = o; at = at.AfterCatch ss c }) ≡ g.final

abbrev pub Ends : Goal → List Piece → Type 0
Ends g rest = rest ≡ [] → Settles g

-- At s a statement begins, over o; where b is true, `;` is one.
pub record Begins (b : Bool) (s : State) (o : Outer) : Type 0 where
  pub begins : (t : Token) → (is_semicolon t.kind ≡ true → b ≡ true) → did s t ≡ on_statement o t

pub record ReadsStmt (x : Stmt) : Type 0 where
  pub reads : (b : Bool) (s : State) (o : Outer) (g : Goal) (rest : List Piece) → (shape.of_stmt x).fits ≡ true → Begins b s o → (is_empty x ≡ true → b ≡ true)
      → (in_body o ≡ true → (shape.of_stmt x).is_body ≡ true) → Behind (shape.of_stmt x) rest → Ends g rest
      → Leads g (complete o x) rest → Reaches g (Ok s) (of_stmt x).forms rest

-- behind `try` and its block
pub record ReadsCatch (c : Catch) : Type 0 where
  pub reads : (o : Outer) (ss : List Stmt) (g : Goal) (rest : List Piece) → shape.of_catch c ≡ true
      → Leads g (to o (at.AfterCatch ss c)) rest → Reaches g (to o (at.AfterTry ss)) (of_catch c) rest

abbrev pub with_one : Declared → Declaration → Declared
with_one d x = record { kind = d.kind; in_for = d.in_for; declarations = d.declarations ++ x ∷ [] }

-- a comma, `;` or an automatic end
abbrev pub EndsDeclaration : Piece → Type 0
EndsDeclaration (Read t) = (t.kind ≡ tok.Punctuator p.Comma) ⊎ (t.kind ≡ tok.Punctuator p.Semicolon)
EndsDeclaration Ended = Unit {0}

-- a declaration, behind those before it
pub record ReadsDeclaration (x : Declaration) : Type 0 where
  pub reads : (o : Outer) (d : Declared) (q : Piece) (g : Goal) (rest : List Piece) → declared_fits d.kind (shape.of_declaration x) ≡ true → EndsDeclaration q
      → Leads g (on_initial_end false o (with_one d x) (token_of q)) rest → Reaches g (to o (at.DeclaredName d)) (of_declaration x) (q ∷ rest)

-- the first part in the brackets of a `for`, and its `;`
pub record ReadsFor (b : ForBegin) : Type 0 where
  pub reads : (o : Outer) (t : Token) (g : Goal) (rest : List Piece) → shape.of_for b ≡ true → t.kind ≡ tok.Punctuator p.Semicolon
      → Leads g (to o (at.ForTest b)) rest → Reaches g (to o at.ForHead) (of_for b) (Read t ∷ rest)
