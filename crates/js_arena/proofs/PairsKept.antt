-- From the entries of an object's map to its properties.
use Rattle.std.proofs.Common.{◌≡◌, ℕ, Bool, true, false, List, [], ◌∷◌, refl, ap, cond, Option, Some, map}
use Rattle.std.specs.Prelude.{bytes_eq}
use Rattle.std.specs.declared.vec.Vec.{Vec}
use Rattle.std.specs.declared.alloc.Global.{Global}
use Rattle.std.specs.Map.{lookup}
use Rattle.indexmap.specs.IndexMap.{insert_entry}
use Rattle.js_arena.specs.declared.value.Value.{Value}
use Rattle.js_arena.specs.Pairs.{key_units, pairs_of}

abbrev pub same_key : Vec ℕ Global → Vec ℕ Global → Bool
same_key a b = bytes_eq a.items b.items

abbrev Entry : Type 0
Entry = Vec ℕ Global × Value

insert_step : (b : Bool) (e : Entry) (es rest : List Entry) (put : List (List ℕ × Value)) (value : Value)
    → pairs_of rest ≡ put
    → pairs_of (cond b ((e.0, value) ∷ es) (e ∷ rest))
    ≡ cond b ((e.0.items, value) ∷ pairs_of es) ((e.0.items, e.1) ∷ put)
insert_step true e es rest put value h = refl
insert_step false e es rest put value h = ap (λ (ps : List (List ℕ × Value)). (e.0.items, e.1) ∷ ps) h

pub pairs_insert : (es : List (Vec ℕ Global × Value)) (key : Vec ℕ Global) (value : Value)
    → pairs_of (insert_entry same_key es key value) ≡ insert_entry bytes_eq (pairs_of es) key.items value
pairs_insert [] key value = refl
pairs_insert (e ∷ es) key value =
    insert_step (bytes_eq key.items e.0.items) e es (insert_entry same_key es key value)
    (insert_entry bytes_eq (pairs_of es) key.items value) value (pairs_insert es key value)

lookup_step : (b : Bool) (v : Value) (found wanted : Option Value) → found ≡ wanted
    → cond b (Some v) found ≡ cond b (Some v) wanted
lookup_step true v found wanted h = refl
lookup_step false v found wanted h = h

pub pairs_lookup : (es : List (Vec ℕ Global × Value)) (key : List ℕ)
    → lookup (λ k. bytes_eq key k.items) es ≡ lookup (bytes_eq key) (pairs_of es)
pairs_lookup [] key = refl
pairs_lookup (e ∷ es) key =
    lookup_step (bytes_eq key e.0.items) e.1 (lookup (λ k. bytes_eq key k.items) es)
    (lookup (bytes_eq key) (pairs_of es)) (pairs_lookup es key)

pub pairs_values : (es : List (Vec ℕ Global × Value)) → map (λ p. p.1) (pairs_of es) ≡ map (λ e. e.1) es
pairs_values [] = refl
pairs_values (e ∷ es) = ap (λ (vs : List Value). e.1 ∷ vs) (pairs_values es)

pub pairs_keys : (es : List (Vec ℕ Global × Value)) → map (λ p. p.0) (pairs_of es) ≡ map key_units (map (λ e. e.0) es)
pairs_keys [] = refl
pairs_keys (e ∷ es) = ap (λ (ks : List (List ℕ)). e.0.items ∷ ks) (pairs_keys es)
