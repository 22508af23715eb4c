-- What a token that is refused is told as.
use Rattle.std.specs.Prelude.{ℕ, ◌-◌, ◌==◌, Bool, true, false, cond, List, [], slice_get, Option, Some, None}
use Rattle.js_lex.specs.declared.token.ScriptFault.{ScriptFault}
use Rattle.js_lex.specs.declared.token.ScriptKind.TheVariants as kind
use Rattle.js_lex.specs.declared.token.TokenKind.{TokenKind}
use Rattle.js_lex.specs.declared.token.TokenKind.TheVariants as tok
use Rattle.js_lex.specs.declared.token.Token.{Token}
use Rattle.js_words.specs.declared.word.Spot.{Spot}
use Rattle.js_words.specs.declared.word.Spot.TheVariants as spot
use Rattle.js_words.specs.declared.word.Word.{Word}
use Rattle.js_words.specs.declared.word.Word.TheVariants as w
use Rattle.js_words.specs.Words.{word_of}
use Rattle.js_parse_core.specs.declared.machine.Asked.{Asked}
use Rattle.js_parse_core.specs.declared.machine.Refusal.{Refusal}
use Rattle.js_parse_core.specs.declared.machine.Refusal.TheVariants as refusal
use Rattle.js_grammar.specs.Letters.{letters}

-- the fault that a form is left out here: its place, and its word in letters
abbrev pub left_out : ℕ → Word → ScriptFault
left_out q x = record { kind = kind.LeftOut; place = q; word = letters x }

-- the fault that the script is none of ECMA-262 from a place on
abbrev pub syntax_fault : ℕ → ScriptFault
syntax_fault q = record { kind = kind.Syntax; place = q; word = [] }

-- ---- the word of a token that is refused

-- the word, unless it is that of a comma
abbrev pub but_comma : Option Word → Option Word
but_comma (Some w.Comma) = None
but_comma x = x

-- the word that a token has at every spot; a comma has none
abbrev pub word_anywhere : List Token → ℕ → Option Word
word_anywhere ts n = but_comma (word_of ts n spot.OperandEnd)

-- the word of a token at a spot, where one is told
abbrev pub word_at : List Token → ℕ → Option Spot → Option Word
word_at ts n (Some s) = word_of ts n s
word_at ts n None = None

-- the word of the token before, at the spot that is told for it
abbrev pub word_before : List Token → ℕ → Option Spot → Option Word
word_before ts n s = cond (n == 0) None (word_at ts (n - 1) s)

-- the first word, or where there is none the second
abbrev pub or_else : Option Word → Option Word → Option Word
or_else (Some x) y = Some x
or_else None y = y

-- the spot behind an automatic end, where there may be one: a statement's begin
abbrev pub behind_end : Bool → Option Spot
behind_end true = Some spot.StatementBegin
behind_end false = None

-- a refused token's word: of the token before it, of its spot, of one behind an automatic end, or of any spot
abbrev pub word : List Token → ℕ → Asked → Option Word
word ts n a = or_else (word_before ts n a.before) (or_else (word_at ts n a.here) (or_else (word_at ts n (behind_end a.ended)) (word_anywhere ts n)))

-- ---- its fault

-- the fault at a place: the form with this word is left out, or without a word the syntax is wrong
abbrev pub told : ℕ → Option Word → ScriptFault
told q (Some x) = left_out q x
told q None = syntax_fault q

-- a token's place, and 0 where there is no token
abbrev pub place_of : Option Token → ℕ
place_of (Some t) = t.place
place_of None = 0

-- the place of the token before this one, and 0 where there is none
abbrev pub place_before : List Token → ℕ → ℕ
place_before ts n = cond (n == 0) 0 (place_of (slice_get ts (n - 1)))

-- the fault for a refusal: a form that is left out, wrong syntax, or constructs nested too deep
abbrev pub refusal_fault : List Token → ℕ → ℕ → Refusal → ScriptFault
refusal_fault ts n q (refusal.Token a) = told q (word ts n a)
refusal_fault ts n q refusal.Plain = syntax_fault q
refusal_fault ts n q refusal.Nesting = left_out q w.Nesting
refusal_fault ts n q refusal.NestingBefore = left_out (place_before ts n) w.Nesting

-- the fault for the refusal of a token of this kind; the end of the script is always wrong syntax
abbrev pub fault_of : List Token → ℕ → ℕ → Refusal → TokenKind → ScriptFault
fault_of ts n q k tok.End = syntax_fault q
fault_of ts n q k _ = refusal_fault ts n q k

-- the fault for the refusal of a token that stands at `n` among all tokens
abbrev pub fault_at : List Token → ℕ → Token → Refusal → ScriptFault
fault_at ts n t k = fault_of ts n t.place k t.kind
