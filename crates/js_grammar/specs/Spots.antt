-- What stands at a place of a script, by what the grammar allows there.
use Rattle.std.specs.Prelude.{◌≡◌, ℕ, ◌+◌, Bool, true, false, List, [], ◌∷◌, ◌++◌, ◌⊎◌, take, slice_get, Option, Some, None}
use Rattle.js_lex.specs.declared.token.Punctuator.TheVariants as p
use Rattle.js_lex.specs.declared.token.Reserved.TheVariants as r
use Rattle.js_lex.specs.declared.token.TokenKind.{TokenKind}
use Rattle.js_lex.specs.declared.token.TokenKind.TheVariants as tok
use Rattle.js_lex.specs.declared.token.Token.{Token}
use Rattle.js_tree.specs.declared.tree.Item.{Item}
use Rattle.js_words.specs.declared.word.Word.{Word}
use Rattle.js_words.specs.declared.word.Word.TheVariants as w
use Rattle.js_words.specs.declared.word.Spot.{Spot}
use Rattle.js_words.specs.declared.word.Spot.TheVariants as spot
use Rattle.js_words.specs.Words.{word_of}
use Rattle.js_grammar.specs.Script.{IsScript}

-- some script begins with these tokens, however many constructs are open in it
pub record IsBegin (ts : List Token) : Type 0 where
  pub tree : List Item
  pub rest : List Token
  pub open_at : List ℕ
  pub script : IsScript tree (ts ++ rest) open_at

-- a token of this kind, on the line of the one before it or behind a line end
abbrev pub token : Bool → TokenKind → Token
token line k = record { place = 0; after_line_end = line; kind = k }

-- behind the tokens ts, these may stand on the same line; or behind a line end
abbrev pub Allows : List Token → Bool → List TokenKind → Type 0
Allows ts line [] = IsBegin ts
Allows ts line (k ∷ ks) = Allows (ts ++ token line k ∷ []) false ks

-- ---- samples of tokens, that stand at some spots alone

-- a token that only a statement begins with: `while`
abbrev pub a_statement : TokenKind
a_statement = tok.Reserved r.While

-- a token that an expression begins with, and no name is: `this`
abbrev pub an_expression : TokenKind
an_expression = tok.Reserved r.This

-- a token that is a name: `a`
abbrev pub a_name : TokenKind
a_name = tok.Name (97 ∷ [])

-- a token that is a string
abbrev pub a_text : TokenKind
a_text = tok.Text []

-- a reserved word, which is a key or a member's name alone
abbrev pub a_word : TokenKind
a_word = tok.Reserved r.Default

-- the token `,`
abbrev pub comma : TokenKind
comma = tok.Punctuator p.Comma

-- the token `:`
abbrev pub colon : TokenKind
colon = tok.Punctuator p.Colon

-- the token `)`
abbrev pub close_paren : TokenKind
close_paren = tok.Punctuator p.CloseParen

-- the token `=`
abbrev pub equal : TokenKind
equal = tok.Punctuator p.Equal

-- ---- spots, behind the tokens ts

-- the tokens end with this one
abbrev pub EndsWith : List Token → TokenKind → Type 0
EndsWith ts k = (before : List Token) × (last : Token) × (ts ≡ before ++ last ∷ []) × (last.kind ≡ k)

-- An expression ends: a binary operator might follow it; or it is an arrow with a block, behind which neither a member nor
-- a statement nor the rest of a `try` might.
abbrev pub EndsExpression : List Token → Type 0
EndsExpression ts =
    Allows ts false (tok.Punctuator p.Star ∷ [])
    ⊎ (EndsWith ts (tok.Punctuator p.CloseBrace) × (Allows ts false (tok.Punctuator p.Dot ∷ []) → ⊥) × (Allows ts false (a_statement ∷ []) → ⊥) × (Allows ts false (tok.Reserved r.Finally ∷ []) → ⊥))

-- the name of a declaration stands next, or of a `catch`, behind which there is no comma
abbrev pub DeclaresNext : List Token → Type 0
DeclaresNext ts =
    (Allows ts false (an_expression ∷ []) → ⊥)
    × (Allows ts false (a_name ∷ equal ∷ []) ⊎ (Allows ts false (a_name ∷ close_paren ∷ []) × (Allows ts false (a_name ∷ comma ∷ []) → ⊥)))

-- a parameter stands next, or has just stood
abbrev pub InParameters : List Token → Type 0
InParameters ts =
    (Allows ts false (a_name ∷ comma ∷ []) × (Allows ts false (an_expression ∷ []) → ⊥) × (Allows ts false (a_name ∷ equal ∷ []) → ⊥))
    ⊎ (Allows ts false (comma ∷ a_name ∷ close_paren ∷ []) × (Allows ts false (comma ∷ an_expression ∷ []) → ⊥) × (Allows ts false (equal ∷ []) → ⊥))

-- this spot stands behind ts, on their line or behind a line end
abbrev pub StandsAt : Spot → Bool → List Token → Type 0
StandsAt spot.StatementBegin line ts = Allows ts line (a_statement ∷ []) × (Allows ts line (a_word ∷ []) → ⊥)
StandsAt spot.ExpressionBegin line ts = Allows ts line (an_expression ∷ []) × (Allows ts line (a_statement ∷ []) → ⊥)
StandsAt spot.OperandEnd line ts = EndsExpression ts
StandsAt spot.DeclaredName line ts = DeclaresNext ts
StandsAt spot.Parameter line ts = InParameters ts
StandsAt spot.Key line ts = Allows ts false (a_word ∷ []) × Allows ts false (a_text ∷ [])

-- a key stands next, which `:` may follow
abbrev pub PairsNext : List Token → Type 0
PairsNext ts = Allows ts false (a_text ∷ []) × Allows ts false (a_word ∷ colon ∷ [])

-- ---- the word that a token is told by, where the grammar does not allow it

-- what is asked for a word, the first one first
pub data Asked : Type 0 where
  -- the token before, where a statement or a key begins with it: `label`, `get`, `set`
  Before : Asked
  -- the token on the line
  OnLine : Asked
  -- the token behind its line end, where an automatic end may stand
  BehindEnd : Asked
  -- the token anywhere
  Anywhere : Asked

-- there is a token, and a line end stands before it
abbrev pub follows_line_end : Option Token → Bool
follows_line_end (Some t) = t.after_line_end
follows_line_end None = false

-- the spot that stands at token n, whatever follows the token
abbrev pub Tells : List Token → ℕ → Bool → Word → Type 0
Tells ts n line x = (s : Spot) × StandsAt s line (take n ts) × (word_of (take (n + 1) ts) n s ≡ Some x)

-- token m, by the one behind it
abbrev pub TellsNext : List Token → ℕ → Word → Type 0
TellsNext ts m x =
    (StandsAt spot.StatementBegin (follows_line_end (slice_get ts m)) (take m ts) × (word_of ts m spot.StatementBegin ≡ Some x) × (x ≡ w.Label))
    ⊎ (PairsNext (take m ts) × (word_of ts m spot.Key ≡ Some x))

-- what is asked has this word for token n
abbrev pub TellsWord : Asked → List Token → ℕ → Word → Type 0
TellsWord Before ts n x = (m : ℕ) × (n ≡ m + 1) × TellsNext ts m x
TellsWord OnLine ts n x = Tells ts n false x
TellsWord BehindEnd ts n x = (follows_line_end (slice_get ts n) ≡ true) × Tells ts n true x
TellsWord Anywhere ts n x = (word_of ts n spot.OperandEnd ≡ Some x) × (x ≡ w.Comma → ⊥)

-- the first of those asked that has a word has this one
abbrev pub FirstTold : List Asked → List Token → ℕ → Word → Type 0
FirstTold [] ts n x = ⊥
FirstTold (a ∷ asked) ts n x = TellsWord a ts n x ⊎ (((y : Word) → TellsWord a ts n y → ⊥) × FirstTold asked ts n x)

-- A line end stands before token n, where an expression begins on the line alone: behind `throw`. No word is left out there.
abbrev pub EndsThrow : List Token → ℕ → Type 0
EndsThrow ts n = (follows_line_end (slice_get ts n) ≡ true) × StandsAt spot.ExpressionBegin false (take n ts) × (Allows (take n ts) true (an_expression ∷ []) → ⊥)

-- the word of token n, where it is refused
abbrev pub IsWord : List Token → ℕ → Word → Type 0
IsWord ts n x = (EndsThrow ts n → ⊥) × FirstTold (Before ∷ OnLine ∷ BehindEnd ∷ Anywhere ∷ []) ts n x
