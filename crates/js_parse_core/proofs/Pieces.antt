-- Pieces of a script, without how many constructs are open at them.
use Rattle.std.proofs.Common.{◌≡◌, ℕ, Bool, true, false, cond, List, [], ◌∷◌, ◌++◌, ◌⊎◌, Ok, Err}
use Rattle.js_lex.specs.declared.token.TokenKind.{TokenKind}
use Rattle.js_lex.specs.declared.token.TokenKind.TheVariants as tok
use Rattle.js_lex.specs.declared.token.Token.{Token}
use Rattle.js_grammar.specs.Marks.{Piece, Read, Ended, Mark, Form, IsWanted}
use Rattle.js_parse_core.specs.declared.machine.At.{At}
use Rattle.js_parse_core.specs.declared.machine.At.TheVariants as at
use Rattle.js_parse_core.specs.declared.machine.State.{State}
use Rattle.js_parse_core.specs.Outer.{Step, refuse}
use Rattle.js_parse_core.specs.Machine.{step}

-- ---- patterns

-- one piece for each mark, in order
abbrev pub Spells : List Mark → List Piece → Type 0
Spells [] ps = ps ≡ []
Spells (m ∷ ms) ps = (q : Piece) × (rest : List Piece) × (ps ≡ q ∷ rest) × IsWanted m.want m.unbroken q × Spells ms rest

abbrev pub SpellsOne : Form → List Piece → Type 0
SpellsOne [] ps = ⊥
SpellsOne (ms ∷ others) ps = Spells ms ps ⊎ SpellsOne others ps

-- the pieces are of these forms, in order, however many constructs are open at them
abbrev pub Fits : List Form → List Piece → Type 0
Fits [] ps = ps ≡ []
Fits (f ∷ fs) ps = (a : List Piece) × (b : List Piece) × (ps ≡ a ++ b) × SpellsOne f a × Fits fs b

-- ---- the machine over pieces, with no limit

-- counts of constructs stay below
abbrev pub no_limit : ℕ
no_limit = 2000

abbrev pub end_token : Token
end_token = record { place = 0; after_line_end = false; kind = tok.End }

-- no statement waits for its end
abbrev pub is_between : At → Bool
is_between at.Statement = true
is_between at.AfterExport = true
is_between (at.AfterThen test s) = true
is_between (at.AfterCatch ss c) = true
is_between _ = false

abbrev pub is_last : TokenKind → Bool
is_last tok.End = true
is_last (tok.Bad f) = true
is_last _ = false

-- a piece is no `End` or `Bad` of the text; an automatic end stands behind a statement that waits for it
abbrev pub take : State → Piece → Step
take s (Read t) = cond (is_last t.kind) refuse (step no_limit false s t)
take s Ended = cond (is_between s.at) refuse (step no_limit false s end_token)

abbrev pub taken : Step → (State → Step) → Step
taken (Ok n) go = go n
taken (Err k) go = Err k

abbrev pub run : State → List Piece → Step
run s [] = Ok s
run s (q ∷ ps) = taken (take s q) (λ n. run n ps)

-- the script may end there: the outer's items are its tree
abbrev pub finish : State → Step
finish s = cond (is_between s.at) (step no_limit false s end_token) refuse
