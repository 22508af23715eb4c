-- Which answers have a tree, or a fault.
use Rattle.std.specs.Prelude.{◌≡◌, List, Result, Ok, Err}
use Rattle.js_lex.specs.declared.token.ScriptFault.{ScriptFault}
use Rattle.js_tree.specs.declared.tree.Item.{Item}
use Rattle.js_parse.specs.declared.reader.ScriptEnd.{ScriptEnd}
use Rattle.js_parse.specs.declared.reader.ScriptEnd.TheVariants.{Fault, NoMemory}

-- where the answer is a fault, this holds of it
abbrev pub IfFault : Result (List Item) ScriptEnd → (ScriptFault → Type 0) → Type 0
IfFault (Err (Fault f)) g = g f
IfFault _ g = Unit {0}

-- this tree, unless memory ran out
abbrev pub IsOnly : List Item → Result (List Item) ScriptEnd → Type 0
IsOnly tree (Ok found) = found ≡ tree
IsOnly tree (Err (Fault f)) = ⊥
IsOnly tree (Err NoMemory) = Unit {0}

-- this fault, unless memory ran out
abbrev pub IsOnlyFault : ScriptFault → Result (List Item) ScriptEnd → Type 0
IsOnlyFault f (Ok found) = ⊥
IsOnlyFault f (Err (Fault g)) = g ≡ f
IsOnlyFault f (Err NoMemory) = Unit {0}
