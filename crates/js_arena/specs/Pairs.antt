-- What contracts see of the entries of an object's map.
use Rattle.std.specs.Prelude.{ℕ, List, map}
use Rattle.std.specs.declared.vec.Vec.{Vec}
use Rattle.std.specs.declared.alloc.Global.{Global}
use Rattle.js_arena.specs.declared.value.Value.{Value}

-- what a stored name consists of, without its buffer
abbrev pub key_units : Vec ℕ Global → List ℕ
key_units key = key.items

-- a stored entry seen as the units of its key beside its value
abbrev pub pair_of : Vec ℕ Global × Value → List ℕ × Value
pair_of p = (key_units p.0, p.1)

-- each entry as the units of its key and its value
abbrev pub pairs_of : List (Vec ℕ Global × Value) → List (List ℕ × Value)
pairs_of entries = map pair_of entries
