-- Names, each with a number, in the order in which they came.
use Rattle.std.specs.Prelude.{ℕ, Bool, List, [], ◌∷◌, Option, Some, None, map, is_some, if◌then◌else◌}
use Rattle.std.specs.Str.{bytes_eq}
use Rattle.std.specs.declared.vec.Vec.{Vec}
use Rattle.std.specs.declared.alloc.Global.{Global}

-- names that are taken, each with its number
abbrev pub Names : Type 0
Names = List (List ℕ × ℕ)

-- a name that is there keeps its place and takes the number, and a new one goes last
abbrev pub put : Names → List ℕ → ℕ → Names
put [] name n = (name, n) ∷ []
put (p ∷ ps) name n = if bytes_eq name p.0 then (p.0, n) ∷ ps else p ∷ put ps name n

-- the number of a name
abbrev pub number_of : Names → List ℕ → Option ℕ
number_of [] name = None
number_of (p ∷ ps) name = if bytes_eq name p.0 then Some p.1 else number_of ps name

-- the name is there
abbrev pub has_name : Names → List ℕ → Bool
has_name ps name = is_some (number_of ps name)

-- a stored pair
abbrev pub pair_of : Vec ℕ Global × ℕ → List ℕ × ℕ
pair_of p = (p.0.items, p.1)

-- the entries of a table of names, as lists of bytes with numbers
abbrev pub pairs_of : List (Vec ℕ Global × ℕ) → Names
pairs_of ps = map pair_of ps
