-- How the loop over the tokens answers.
use Rattle.std.proofs.Common.{◌≡◌, List, ◌∷◌, Result, Ok, Err, sym, ap, ◌∙◌}
use Rattle.js_parse_core.specs.declared.machine.State.{State}
use Rattle.js_parse.specs.declared.reader.ScriptEnd.{ScriptEnd}
use Rattle.js_parse.specs.declared.reader.ScriptEnd.TheVariants.{Fault, NoMemory}
use Rattle.js_parse_core.specs.Answer.{Answer}
use Rattle.js_parse.specs.Answer.{Goes, IsAnswer}

pub answers : (a : Answer) (made : (State → Answer) → Answer) (go : State → Answer) (end : ScriptEnd) → a ≡ made go → Goes made (Err end) → IsAnswer a (Err end)
answers a made go (Fault f) is goes = is ∙ goes go
answers a made go NoMemory is goes = tt
