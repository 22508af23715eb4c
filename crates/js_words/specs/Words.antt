-- The strengths of binary operators, and the words and forms of ECMA-262 that scripts have not.
use Rattle.std.specs.Prelude.{ℕ, ◌+◌, Bool, true, false, cond, List, codes, slice_get, Option, Some, None}
use Rattle.std.specs.Str.{bytes_eq}
use Rattle.js_lex.specs.declared.token.Punctuator.{Punctuator}
use Rattle.js_lex.specs.declared.token.Punctuator.TheVariants as p
use Rattle.js_lex.specs.declared.token.Reserved.{Reserved}
use Rattle.js_lex.specs.declared.token.Reserved.TheVariants as r
use Rattle.js_lex.specs.declared.token.TokenKind.{TokenKind}
use Rattle.js_lex.specs.declared.token.TokenKind.TheVariants as tok
use Rattle.js_lex.specs.declared.token.Token.{Token}
use Rattle.js_words.specs.declared.word.Word.{Word}
use Rattle.js_words.specs.declared.word.Word.TheVariants as w
use Rattle.js_words.specs.declared.word.Spot.{Spot}
use Rattle.js_words.specs.declared.word.Spot.TheVariants as spot

-- ECMA-262, sections 13.7 to 13.13, the weakest first
abbrev pub sign_strength : Punctuator → Option ℕ
sign_strength p.QuestionQuestion = Some 1
sign_strength p.OrOr = Some 1
sign_strength p.AndAnd = Some 2
sign_strength p.Identical = Some 3
sign_strength p.NotIdentical = Some 3
sign_strength p.Less = Some 4
sign_strength p.LessEqual = Some 4
sign_strength p.Greater = Some 4
sign_strength p.GreaterEqual = Some 4
sign_strength p.Plus = Some 5
sign_strength p.Minus = Some 5
sign_strength p.Star = Some 6
sign_strength p.Slash = Some 6
sign_strength p.Percent = Some 6
sign_strength _ = None

-- how tightly a token binds as an operator between two operands, if it is one (ECMA-262, sections 13.6 to 13.13)
abbrev pub strength : TokenKind → Option ℕ
strength (tok.Punctuator s) = sign_strength s
strength _ = None

-- words that are left out wherever they stand, but as names
abbrev pub reserved_word : Reserved → Option Word
reserved_word r.Class = Some w.Class
reserved_word r.Switch = Some w.Switch
reserved_word r.Var = Some w.Var
reserved_word r.Import = Some w.Import
reserved_word r.Yield = Some w.Yield
reserved_word r.Delete = Some w.Delete
reserved_word r.In = Some w.In
reserved_word r.InstanceOf = Some w.InstanceOf
reserved_word r.Do = Some w.Do
reserved_word r.With = Some w.With
reserved_word r.Void = Some w.Void
reserved_word r.Super = Some w.Super
reserved_word r.Debugger = Some w.Debugger
reserved_word r.Enum = Some w.Enum
reserved_word _ = None

-- punctuators that are left out wherever they stand
abbrev pub sign_word : Punctuator → Option Word
sign_word p.EqualEqual = Some w.EqualEqual
sign_word p.NotEqual = Some w.NotEqual
sign_word p.Ellipsis = Some w.Ellipsis
sign_word p.StarStar = Some w.StarStar
sign_word p.QuestionDot = Some w.QuestionDot
sign_word p.Ampersand = Some w.Ampersand
sign_word p.Bar = Some w.Bar
sign_word p.Caret = Some w.Caret
sign_word p.Tilde = Some w.Tilde
sign_word p.ShiftLeft = Some w.ShiftLeft
sign_word p.ShiftRight = Some w.ShiftRight
sign_word p.ShiftRightUnsigned = Some w.ShiftRightUnsigned
sign_word p.StarEqual = Some w.StarEqual
sign_word p.SlashEqual = Some w.SlashEqual
sign_word p.PercentEqual = Some w.PercentEqual
sign_word p.StarStarEqual = Some w.StarStarEqual
sign_word p.ShiftLeftEqual = Some w.ShiftLeftEqual
sign_word p.ShiftRightEqual = Some w.ShiftRightEqual
sign_word p.ShiftRightUnsignedEqual = Some w.ShiftRightUnsignedEqual
sign_word p.AmpersandEqual = Some w.AmpersandEqual
sign_word p.BarEqual = Some w.BarEqual
sign_word p.CaretEqual = Some w.CaretEqual
sign_word p.AndAndEqual = Some w.AndAndEqual
sign_word p.OrOrEqual = Some w.OrOrEqual
sign_word p.QuestionQuestionEqual = Some w.QuestionQuestionEqual
sign_word _ = None

-- where an expression begins
abbrev pub begin_word : Punctuator → Option Word
begin_word p.Plus = Some w.UnaryPlus
begin_word p.Slash = Some w.RegularExpression
begin_word p.SlashEqual = Some w.RegularExpression
begin_word s = sign_word s

-- behind an operand
abbrev pub operand_end_word : Punctuator → Option Word
operand_end_word p.Comma = Some w.Comma
operand_end_word s = sign_word s

-- where a name is declared
abbrev pub declared_word : Punctuator → Option Word
declared_word p.OpenBracket = Some w.Destructuring
declared_word p.OpenBrace = Some w.Destructuring
declared_word s = sign_word s

-- at a parameter, which is declared too
abbrev pub parameter_word : Punctuator → Option Word
parameter_word p.Equal = Some w.Default
parameter_word s = declared_word s

-- at a key
-- `[` begins a computed key
abbrev pub key_word : Punctuator → Option Word
key_word p.OpenBracket = Some w.Computed
key_word s = sign_word s

-- the word of a sign at each spot, if it has one there
abbrev pub word_by : Spot → Punctuator → Option Word
word_by spot.ExpressionBegin s = begin_word s
word_by spot.StatementBegin s = begin_word s
word_by spot.OperandEnd s = operand_end_word s
word_by spot.DeclaredName s = declared_word s
word_by spot.Parameter s = parameter_word s
word_by spot.Key s = key_word s

-- the sign is `[`
abbrev pub is_open_bracket : Punctuator → Bool
is_open_bracket p.OpenBracket = true
is_open_bracket _ = false

-- a key, computed or not, begins so
abbrev pub begins_key : TokenKind → Bool
begins_key (tok.Name u) = true
begins_key (tok.Reserved x) = true
begins_key (tok.Text u) = true
begins_key (tok.Number n) = true
begins_key (tok.Punctuator s) = is_open_bracket s
begins_key _ = false

-- the token is `:`
abbrev pub is_colon : TokenKind → Bool
is_colon (tok.Punctuator p.Colon) = true
is_colon _ = false

-- the word of a name that is `get` or `set` (ECMA-262, section 15.4)
abbrev pub accessor : List ℕ → Option Word
accessor u = cond (bytes_eq u (codes "get")) (Some w.Get) (cond (bytes_eq u (codes "set")) (Some w.Set) None)

-- `get` and `set` before a key; a name and `:` as a statement
abbrev pub name_word : Spot → List ℕ → TokenKind → Option Word
name_word spot.Key u next = cond (begins_key next) (accessor u) None
name_word spot.StatementBegin u next = cond (is_colon next) (Some w.Label) None
name_word _ u next = None

-- the word of a name at a spot, by the token behind it
abbrev pub name_before : Spot → List ℕ → Option Token → Option Word
name_before s u (Some next) = name_word s u next.kind
name_before s u None = None

-- a key ends before these
abbrev pub ends_key : TokenKind → Bool
ends_key (tok.Punctuator p.Colon) = true
ends_key (tok.Punctuator p.OpenParen) = true
ends_key _ = false

-- the spot is a key's, and the token behind shows that a key has ended
abbrev pub is_key_before : Spot → Option Token → Bool
is_key_before spot.Key (Some next) = ends_key next.kind
is_key_before _ _ = false

-- a reserved word, which stands as a name where it is a key
abbrev pub reserved_before : Spot → Reserved → Option Token → Option Word
reserved_before s x next = cond (is_key_before s next) None (reserved_word x)

-- the word of a token of this kind at a spot, by the token behind it
abbrev pub word_before : Spot → TokenKind → Option Token → Option Word
word_before s (tok.Reserved x) next = reserved_before s x next
word_before s (tok.Punctuator x) next = word_by s x
word_before s (tok.Name u) next = name_before s u next
word_before s _ next = None

-- the word of a token at a spot, where there is a token
abbrev pub word_at : Spot → Option Token → Option Token → Option Word
word_at s (Some t) next = word_before s t.kind next
word_at s None next = None

-- the word of the token at a place in the list, if it has one
abbrev pub word_of : List Token → ℕ → Spot → Option Word
word_of ts at s = word_at s (slice_get ts at) (slice_get ts (at + 1))
