-- The grammar: the tokens of a tree.
use Rattle.std.specs.Prelude.{ℕ, ◌+◌, ◌≤◌, max, List, [], ◌∷◌, ◌++◌, codes, flat_map}
use Rattle.capnp_text.specs.declared.token.TokenKind.TheVariants as tok
use Rattle.capnp_text.specs.declared.token.Token.{Token}
use Rattle.capnp_text.specs.declared.tree.Placed.{Placed}
use Rattle.capnp_text.specs.declared.tree.Value.{Value}
use Rattle.capnp_text.specs.declared.tree.Value.TheOpen.{Value-F, Field-F}
use Rattle.capnp_text.specs.declared.tree.Value.TheFolds.{fold-Value, fold-Field}
use Rattle.capnp_text.specs.declared.tree.Field.{Field}
use Rattle.capnp_text.specs.declared.tree.Decl.{Decl}
use Rattle.capnp_text.specs.declared.tree.Decl.TheVariants as decl
use Rattle.capnp_text.specs.Marks.{Mark, Just, At, MayComma, Matches}

-- this name, as a word of the language
abbrev pub keyword : List ℕ → Mark
keyword w = Just (tok.Name w)

-- a name of the file's own, at its offset
abbrev pub name : Placed → Mark
name w = At w.place (tok.Name w.bytes)

-- a text of the file's own in double quotes, at its offset
abbrev pub text : Placed → Mark
text w = At w.place (tok.Text w.bytes)

-- ---- values and fields

-- what follows the first item of a list: the others, a comma before each, and perhaps a comma
abbrev pub more : List (List Mark) → List Mark
more [] = MayComma ∷ []
more (m ∷ ms) = Just tok.Comma ∷ (m ++ more ms)

-- the items of a list, commas between them, and perhaps one after the last
abbrev pub listed : List (List Mark) → List Mark
listed [] = []
listed (m ∷ ms) = m ++ more ms

-- the tokens of a value, given the tokens of its parts
abbrev pub value_step : Value-F (List Mark) (List Mark) → List Mark
value_step (Value-F.Text w) = text w ∷ []
value_step (Value-F.Data w) = At w.place (tok.Data w.bytes) ∷ []
value_step (Value-F.Number w) = At w.place (tok.Number w.bytes) ∷ []
value_step (Value-F.Word w) = name w ∷ []
value_step (Value-F.Constant p w) = At p tok.Dot ∷ name w ∷ []
value_step (Value-F.Embed p w) = At p (tok.Name (codes "embed")) ∷ text w ∷ []
value_step (Value-F.Struct p fs) = At p tok.OpenParen ∷ (listed fs ++ Just tok.CloseParen ∷ [])
value_step (Value-F.List p vs) = At p tok.OpenBracket ∷ (listed vs ++ Just tok.CloseBracket ∷ [])

-- the tokens of a field: its name, `=` and its value
abbrev pub field_step : Field-F (List Mark) (List Mark) → List Mark
field_step f = name f.name ∷ Just tok.Equals ∷ f.value

-- the tokens that a value is written with
abbrev pub of_value : Value → List Mark
of_value = fold-Value (List Mark) (List Mark) value_step field_step

-- the tokens that a struct's field is written with
abbrev pub of_field : Field → List Mark
of_field = fold-Field (List Mark) (List Mark) value_step field_step

-- how many brackets are open at the deepest place
abbrev pub deepest : List ℕ → ℕ
deepest [] = 0
deepest (n ∷ ns) = max n (deepest ns)

-- one bracket more than the deepest part of a struct or a list; none for any other value
abbrev pub depth_step : Value-F ℕ ℕ → ℕ
depth_step (Value-F.Struct p fs) = 1 + deepest fs
depth_step (Value-F.List p vs) = 1 + deepest vs
depth_step _ = 0

-- a field opens no bracket of its own
abbrev pub depth_of_field : Field-F ℕ ℕ → ℕ
depth_of_field f = f.value

-- how deep brackets are nested in a value
abbrev pub depth : Value → ℕ
depth = fold-Value ℕ ℕ depth_step depth_of_field

-- how deep brackets are nested in a field's value
abbrev pub field_depth : Field → ℕ
field_depth = fold-Field ℕ ℕ depth_step depth_of_field

-- ---- declarations

-- the further parts of a type's name, a dot before each
abbrev pub dotted : List Placed → List Mark
dotted [] = []
dotted (w ∷ ws) = Just tok.Dot ∷ name w ∷ dotted ws

-- the tokens of a type's name, as `Workerd.Config`
abbrev pub of_type : List Placed → List Mark
of_type [] = []
of_type (w ∷ ws) = name w ∷ dotted ws

-- the tokens of a declaration: `using NAME = import "PATH";`, `@0xID;` or `const NAME :TYPE = VALUE;`
abbrev pub of_decl : Decl → List Mark
of_decl (decl.Using n path) = keyword (codes "using") ∷ name n ∷ Just tok.Equals ∷ keyword (codes "import") ∷ text path ∷ Just tok.Semicolon ∷ []
of_decl (decl.Id id) = Just tok.At ∷ At id.place (tok.Hex id.bytes) ∷ Just tok.Semicolon ∷ []
of_decl (decl.Const n type_ v) = keyword (codes "const") ∷ name n ∷ Just tok.Colon ∷ (of_type type_ ++ Just tok.Equals ∷ (of_value v ++ Just tok.Semicolon ∷ []))

-- the tokens of a file: those of its declarations, one after another
abbrev pub of_file : List Decl → List Mark
of_file ds = flat_map of_decl ds

-- ---- which trees have a text, where so many brackets may be open

-- a type's name has one part or more
abbrev pub HasParts : List Placed → Type 0
HasParts [] = ⊥
HasParts (w ∷ ws) = Unit {0}

-- a constant's type has a name, and no more brackets are nested in its value than allowed
abbrev pub Fits : ℕ → Decl → Type 0
Fits most (decl.Using n path) = Unit {0}
Fits most (decl.Id id) = Unit {0}
Fits most (decl.Const n type_ v) = HasParts type_ × (depth v ≤ most)

-- each declaration of a file keeps the bound on nested brackets
abbrev pub AllFit : ℕ → List Decl → Type 0
AllFit most [] = Unit {0}
AllFit most (d ∷ ds) = Fits most d × AllFit most ds

-- the tokens are those of this file
pub record IsFile (most : ℕ) (ds : List Decl) (ts : List Token) : Type 0 where
  pub fits : AllFit most ds
  pub tokens : Matches (of_file ds) ts

-- the tokens are the beginning of some file's
pub record IsViable (most : ℕ) (ts : List Token) : Type 0 where
  pub decls : List Decl
  pub more : List Token
  pub file : IsFile most decls (ts ++ more)

-- so many brackets may be open
abbrev pub most_open : ℕ
most_open = 32
