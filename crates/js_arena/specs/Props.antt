-- The own properties of an object.
use Rattle.std.specs.Prelude.{ℕ, Bool, List, Option, is_some, if◌then◌else◌, bytes_eq}
use Rattle.std.specs.Map.{lookup}
use Rattle.indexmap.specs.IndexMap.{insert_entry}
use Rattle.js_arena.specs.declared.value.Value.{Value}

-- pairs of a key and a value, in order of creation
abbrev pub Properties : Type 0
Properties = List (List ℕ × Value)

-- the value of the property with this key (ECMA-262, section 10.1.5.1, OrdinaryGetOwnProperty)
abbrev pub get_prop : List ℕ → Properties → Option Value
get_prop key props = lookup (bytes_eq key) props

-- a key that is there keeps its place and takes the value, and a new one goes last
abbrev pub put_prop : List ℕ → Value → Properties → Properties
put_prop key value props = insert_entry bytes_eq props key value

-- a value is stored under this key
abbrev pub has_prop : List ℕ → Properties → Bool
has_prop key props = is_some (get_prop key props)

-- the units that a write of this key takes: 4 where it makes the property
abbrev pub put_units : List ℕ → Properties → ℕ
put_units key props = if has_prop key props then 0 else 4
