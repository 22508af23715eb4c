-- What a text is, and what its first fault is.
use Rattle.std.specs.Prelude.{◌≡◌, ℕ, ◌+◌, List, [], ◌∷◌, ◌++◌, ◌⊎◌, Result, Ok, Err}
use Rattle.capnp_text.specs.declared.token.Token.{Token}
use Rattle.capnp_text.specs.declared.scan.Stop.{Stop}
use Rattle.capnp_text.specs.declared.scan.Stop.TheVariants as stop
use Rattle.capnp_text.specs.declared.scan.Tokens.{Tokens}
use Rattle.capnp_text.specs.declared.tree.Decl.{Decl}
use Rattle.capnp_text.specs.declared.reader.TextKind.{TextKind}
use Rattle.capnp_text.specs.declared.reader.TextKind.TheVariants as kind
use Rattle.capnp_text.specs.declared.reader.TextFault.{TextFault}
use Rattle.capnp_text.specs.declared.reader.ParseEnd.{ParseEnd}
use Rattle.capnp_text.specs.declared.reader.ParseEnd.TheVariants.{Fault, NoMemory}
use Rattle.capnp_text.specs.Lexed.{IsLexed, HasTokens}
use Rattle.capnp_text.specs.Grammar.{IsFile, IsViable, most_open}

-- The bytes are tokens, and these are the file's.
pub record IsText (file : List Decl) (bs : List ℕ) : Type 0 where
  pub tokens : List Token
  pub lexed : IsLexed bs tokens
  pub is_file : IsFile most_open file tokens

-- Why a token is refused, behind the tokens before it: whole declarations stand before it; or a file has it there
-- where one more bracket may be open; or neither.
abbrev pub Because : TextKind → List Token → Token → Type 0
Because kind.BadDecl before t = (ds : List Decl) × IsFile most_open ds before
Because kind.TooDeep before t = IsViable (most_open + 1) (before ++ t ∷ [])
Because kind.BadToken before t = ((ds : List Decl) → IsFile most_open ds before → ⊥) × (IsViable (most_open + 1) (before ++ t ∷ []) → ⊥)
Because kind.BadByte before t = ⊥
Because kind.Unclosed before t = ⊥

-- The fault is at the first token that no file goes on with.
pub record AtToken (ts : List Token) (f : TextFault) : Type 0 where
  pub before : List Token
  pub token : Token
  pub rest : List Token
  pub is : ts ≡ before ++ token ∷ rest
  pub viable : IsViable most_open before
  pub refused : IsViable most_open (before ++ token ∷ []) → ⊥
  pub at : f.place ≡ token.place
  pub because : Because f.kind before token

-- Which kind of fault each way to stop is: a bad byte, an open token, or a last declaration that is not whole.
abbrev pub EndsSo : Stop → TextKind → List Token → Type 0
EndsSo stop.BadByte k ts = k ≡ kind.BadByte
EndsSo stop.Open k ts = k ≡ kind.Unclosed
EndsSo stop.End k ts = (k ≡ kind.Unclosed) × ((ds : List Decl) → IsFile most_open ds ts → ⊥)

-- A file goes on with all tokens, and the fault is where they stop: at a bad byte, or at the end.
pub record AtStop (t : Tokens) (f : TextFault) : Type 0 where
  pub viable : IsViable most_open t.tokens
  pub at : f.place ≡ t.place
  pub ends : EndsSo t.stop f.kind t.tokens

-- This is the first fault of the bytes.
pub record IsFirstFault (f : TextFault) (bs : List ℕ) : Type 0 where
  pub tokens : Tokens
  pub are : HasTokens bs tokens
  pub fault : AtToken tokens.tokens f ⊎ AtStop tokens f

-- ---- answers

-- what is said of the fault that is answered, if one is
abbrev pub IfFault : Result (List Decl) ParseEnd → (TextFault → Type 0) → Type 0
IfFault (Ok file) P = Unit {0}
IfFault (Err (Fault f)) P = P f
IfFault (Err NoMemory) P = Unit {0}

-- this file and nothing else is answered, unless memory ran out
abbrev pub IsOnly : List Decl → Result (List Decl) ParseEnd → Type 0
IsOnly file (Ok found) = found ≡ file
IsOnly file (Err (Fault f)) = ⊥
IsOnly file (Err NoMemory) = Unit {0}

-- this fault and nothing else is answered, unless memory ran out
abbrev pub IsOnlyFault : TextFault → Result (List Decl) ParseEnd → Type 0
IsOnlyFault f (Ok found) = ⊥
IsOnlyFault f (Err (Fault g)) = g ≡ f
IsOnlyFault f (Err NoMemory) = Unit {0}
