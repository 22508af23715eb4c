-- The one tree of a script, and its first fault.
use Rattle.std.specs.Prelude.{◌≡◌, ℕ, ◌+◌, ◌≤◌, ◌<◌, List, [], ◌∷◌, ◌++◌, ◌⊎◌, length, take, slice_get, Some}
use Rattle.js_lex.specs.declared.token.TokenKind.{TokenKind}
use Rattle.js_lex.specs.declared.token.TokenKind.TheVariants as tok
use Rattle.js_lex.specs.declared.token.Token.{Token}
use Rattle.js_lex.specs.declared.token.ScriptKind.TheVariants as kind
use Rattle.js_lex.specs.declared.token.ScriptFault.{ScriptFault}
use Rattle.js_lex.specs.Grammar.{AreTokens}
use Rattle.js_tree.specs.declared.tree.Item.{Item}
use Rattle.js_words.specs.declared.word.Word.{Word}
use Rattle.js_words.specs.declared.word.Word.TheVariants as w
use Rattle.js_grammar.specs.Letters.{letters}
use Rattle.js_grammar.specs.Script.{IsScript, IsTree, AreShallow}
use Rattle.js_grammar.specs.Spots.{IsBegin, IsWord}

-- Some script begins with these tokens, and at the first n of them no more constructs are open than may be.
pub record GoesOn (n : ℕ) (ts : List Token) : Type 0 where
  pub tree : List Item
  pub rest : List Token
  pub open_at : List ℕ
  pub script : IsScript tree (ts ++ rest) open_at
  pub shallow : AreShallow (take n open_at)

-- The first n tokens are such a beginning, and with the next one they begin no script: no continuation allows it.
pub record IsRefused (ts : List Token) (n : ℕ) (t : Token) : Type 0 where
  pub is : slice_get ts n ≡ Some t
  pub before : GoesOn n (take n ts)
  pub behind : IsBegin (take (n + 1) ts) → ⊥

-- Token n opens one construct too many: in each script that begins as the tokens do, up to some place behind it.
pub record OpensTooMany (ts : List Token) (n : ℕ) (t : Token) : Type 0 where
  pub is : slice_get ts n ≡ Some t
  pub front : ℕ
  pub reaches : (n < front) × (front ≤ length ts)
  pub before : GoesOn n (take front ts)
  pub too_many : GoesOn (n + 1) (take front ts) → ⊥

-- what a token that is refused is told as: by its word, if it has one
abbrev pub IsTold : List Token → ℕ → ScriptFault → Type 0
IsTold ts n f =
    ((x : Word) × IsWord ts n x × (f.kind ≡ kind.LeftOut) × (f.word ≡ letters x))
    ⊎ (((x : Word) → IsWord ts n x → ⊥) × (f.kind ≡ kind.Syntax) × (f.word ≡ []))

-- the fault within the tokens ts, behind which stands the last one
abbrev pub IsWithin : List Token → Token → ScriptFault → Type 0
IsWithin ts last f =
    ((n : ℕ) × (t : Token) × IsRefused ts n t × (f.place ≡ t.place) × IsTold (ts ++ last ∷ []) n f)
    ⊎ ((n : ℕ) × (t : Token) × OpensTooMany ts n t × (f.place ≡ t.place) × (f.kind ≡ kind.LeftOut) × (f.word ≡ letters w.Nesting))

-- .. or behind them: the script ends too early, or no token can be read
abbrev pub IsLast : List Token → Token → TokenKind → ScriptFault → Type 0
IsLast ts last tok.End f = GoesOn (length ts) ts × ((tree : List Item) → IsTree tree ts → ⊥) × (f ≡ record { kind = kind.Syntax; place = last.place; word = [] })
IsLast ts last (tok.Bad g) f = GoesOn (length ts) ts × (f ≡ g)
IsLast ts last _ f = ⊥

-- the tokens of a script's units
pub record Splits (units : List ℕ) (ts : List Token) (last : Token) : Type 0 where
  pub tokens : AreTokens units (ts ++ last ∷ [])

-- the tree is that of the units
pub record IsTreeOf (tree : List Item) (units : List ℕ) : Type 0 where
  pub tokens : List Token
  pub last : Token
  pub splits : Splits units tokens last
  pub whole : last.kind ≡ tok.End
  pub is : IsTree tree tokens

-- the fault is their first
pub record IsFirstFault (f : ScriptFault) (units : List ℕ) : Type 0 where
  pub tokens : List Token
  pub last : Token
  pub splits : Splits units tokens last
  pub is : IsWithin tokens last f ⊎ IsLast tokens last last.kind f
