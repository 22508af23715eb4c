-- From the entries of the map to the names.
use Rattle.std.proofs.Common.{◌≡◌, ℕ, Bool, true, false, List, [], ◌∷◌, refl, ap, cond, Some}
use Rattle.std.specs.Str.{bytes_eq}
use Rattle.std.specs.declared.vec.Vec.{Vec}
use Rattle.std.specs.declared.alloc.Global.{Global}
use Rattle.std.specs.Map.{lookup}
use Rattle.indexmap.specs.IndexMap.{insert_entry}
use Rattle.wd_config.specs.Names.{pairs_of, put, number_of}

abbrev same_key : Vec ℕ Global → Vec ℕ Global → Bool
same_key a b = bytes_eq a.items b.items

pub pairs_insert_entry : (es : List (Vec ℕ Global × ℕ)) (key : Vec ℕ Global) (value : ℕ)
    → pairs_of (insert_entry same_key es key value) ≡ put (pairs_of es) key.items value
pairs_insert_entry [] key value = refl
pairs_insert_entry (e ∷ es) key value = go (bytes_eq key.items e.0.items) (pairs_insert_entry es key value)
  where
    go : (b : Bool) → pairs_of (insert_entry same_key es key value) ≡ put (pairs_of es) key.items value
        → pairs_of (cond b ((e.0, value) ∷ es) (e ∷ insert_entry same_key es key value)) ≡ cond b ((e.0.items, value) ∷ pairs_of es) ((e.0.items, e.1) ∷ put (pairs_of es) key.items value)
    go true h = refl
    go false h = ap (λ ps. (e.0.items, e.1) ∷ ps) h

pub number_lookup : (es : List (Vec ℕ Global × ℕ)) (key : List ℕ) → lookup (λ k. bytes_eq key k.items) es ≡ number_of (pairs_of es) key
number_lookup [] key = refl
number_lookup (e ∷ es) key = go (bytes_eq key e.0.items) (number_lookup es key)
  where
    go : (b : Bool) → lookup (λ k. bytes_eq key k.items) es ≡ number_of (pairs_of es) key
        → cond b (Some e.1) (lookup (λ k. bytes_eq key k.items) es) ≡ cond b (Some e.1) (number_of (pairs_of es) key)
    go true h = refl
    go false h = h
