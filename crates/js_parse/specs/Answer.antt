-- Which answer is given to the tokens of a script.
use Rattle.std.specs.Prelude.{◌≡◌, List, Result, Ok, Err}
use Rattle.js_tree.specs.declared.tree.Item.{Item}
use Rattle.js_parse_core.specs.declared.machine.State.{State}
use Rattle.js_parse_core.specs.Answer.{Answer}
use Rattle.js_parse.specs.declared.reader.ScriptEnd.{ScriptEnd}
use Rattle.js_parse.specs.declared.reader.ScriptEnd.TheVariants.{Fault, NoMemory}

-- the token leads on to this state, or it answers, unless memory ran out
abbrev pub Goes : ((State → Answer) → Answer) → Result State ScriptEnd → Type 0
Goes made (Ok s) = (go : State → Answer) → made go ≡ go s
Goes made (Err (Fault f)) = (go : State → Answer) → made go ≡ Err f
Goes made (Err NoMemory) = Unit {0}

-- this answer, unless memory ran out
abbrev pub IsAnswer : Answer → Result (List Item) ScriptEnd → Type 0
IsAnswer a (Ok found) = a ≡ Ok found
IsAnswer a (Err (Fault f)) = a ≡ Err f
IsAnswer a (Err NoMemory) = Unit {0}
