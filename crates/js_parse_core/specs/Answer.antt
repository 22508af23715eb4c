-- What is answered to the tokens of a script.
use Rattle.std.specs.Prelude.{ℕ, ◌+◌, true, List, [], ◌∷◌, Result, Ok, Err}
use Rattle.js_lex.specs.declared.token.ScriptFault.{ScriptFault}
use Rattle.js_lex.specs.declared.token.TokenKind.{TokenKind}
use Rattle.js_lex.specs.declared.token.TokenKind.TheVariants as tok
use Rattle.js_lex.specs.declared.token.Token.{Token}
use Rattle.js_tree.specs.declared.tree.Item.{Item}
use Rattle.js_parse_core.specs.declared.machine.State.{State}
use Rattle.js_grammar.specs.Script.{most_open}
use Rattle.js_parse_core.specs.Machine.{step, start}
use Rattle.js_parse_core.specs.Outer.{Step}
use Rattle.js_parse_core.specs.Told.{fault_at}

-- the items of the script, or its fault
abbrev pub Answer : Type 0
Answer = Result (List Item) ScriptFault

-- what comes behind the state that a step gives, or the fault of the token that it refuses
abbrev pub stepped : List Token → ℕ → Token → Step → (State → Answer) → Answer
stepped all n t (Ok s) go = go s
stepped all n t (Err k) go = Err (fault_at all n t k)

-- a token is taken in a state; one that cannot be read is itself the fault
abbrev pub on_token : List Token → ℕ → State → Token → TokenKind → (State → Answer) → Answer
on_token all n s t (tok.Bad f) go = Err f
on_token all n s t _ go = stepped all n t (step most_open true s t) go

-- the tokens that are left, from the place `n` in all of them on, are taken one after another
abbrev pub read : List Token → ℕ → State → List Token → Answer
read all n s [] = Ok s.outer.items
read all n s (t ∷ ts) = on_token all n s t t.kind (λ m. read all (n + 1) m ts)

-- the first fault, or the items where all tokens, `End` the last, were taken
abbrev pub answer : List Token → Answer
answer ts = read ts 0 start ts
