-- The order of an object's own keys (ECMA-262, section 10.1.11.1, OrdinaryOwnPropertyKeys).
use Rattle.std.specs.Prelude.{ℕ, ◌+◌, ◌-◌, ◌*◌, Bool, false, ◌&&◌, ◌||◌, ◌==◌, List, [], ◌∷◌, ◌++◌, map, fold}
use Rattle.std.specs.Prelude.{length, nat_le, nat_lt, Option, Some, None, if◌then◌else◌}
use Rattle.std.specs.List.{list_all}
use Rattle.std.specs.Ordering.{nat_cmp}
use Rattle.std.specs.BTreeMap.{insert_entry}
use Rattle.js_arena.specs.Props.{Properties}

-- the unit is one of the ten decimal figures, 0x30 to 0x39
abbrev pub is_digit : ℕ → Bool
is_digit c = nat_le 48 c && nat_le c 57

-- decimal digits with no zero before others
abbrev pub is_canonical : List ℕ → Bool
is_canonical [] = false
is_canonical (c ∷ cs) = list_all is_digit (c ∷ cs) && (nat_lt 48 c || (length cs == 0))

-- the number that decimal digits spell
abbrev pub spelled : List ℕ → ℕ
spelled key = fold (λ n c. n * 10 + (c - 48)) 0 key

-- the number of a key that is an array index: below 2 ^ 32 - 1 (ECMA-262, section 6.1.7)
abbrev pub index_of : List ℕ → Option ℕ
index_of key = if is_canonical key && nat_lt (spelled key) 4294967295 then Some (spelled key) else None

-- keys in their order: array indexes with their keys, and the others
pub record KeyOrder : Type 0 where
  pub indexes : List (ℕ × List ℕ)
  pub names : List (List ℕ)

-- an array index goes to its place by its number, any other key to the end
abbrev pub placed : Option ℕ → List ℕ → KeyOrder → KeyOrder
placed (Some i) key order = record order { indexes = insert_entry nat_cmp order.indexes i key }
placed None key order = record order { names = order.names ++ key ∷ [] }

-- the order after one more key that is not there yet
abbrev pub with_key : KeyOrder → List ℕ → KeyOrder
with_key order key = placed (index_of key) key order

-- the keys put in their order one after another, from no key at all
abbrev pub order_of : List (List ℕ) → KeyOrder
order_of keys = fold with_key (record { indexes = []; names = [] }) keys

-- the keys: array indexes ascending, then the others in order of creation
abbrev pub listed : KeyOrder → List (List ℕ)
listed order = map (λ p. p.1) order.indexes ++ order.names

-- what the object's properties are called, array indexes ascending and then the others as they were made
abbrev pub own_keys : Properties → List (List ℕ)
own_keys props = listed (order_of (map (λ p. p.0) props))
