-- Property names that no object of a script has.
use Rattle.std.specs.Prelude.{◌≡◌, ℕ, Bool, false, ◌||◌, List, [], ◌∷◌, ◌⊎◌, codes}
use Rattle.std.specs.Str.{bytes_eq}

-- what scripts may not use as the name of a property, each in letters
abbrev pub refused_names : List (List ℕ)
refused_names =
    codes "__proto__" ∷ codes "constructor" ∷ codes "hasOwnProperty" ∷ codes "isPrototypeOf" ∷ codes "propertyIsEnumerable"
    ∷ codes "toLocaleString" ∷ codes "toString" ∷ codes "valueOf" ∷ codes "__defineGetter__" ∷ codes "__defineSetter__"
    ∷ codes "__lookupGetter__" ∷ codes "__lookupSetter__" ∷ codes "then" ∷ []

-- the name is one of these
abbrev pub IsOneOf : List ℕ → List (List ℕ) → Type 0
IsOneOf name [] = ⊥
IsOneOf name (word ∷ words) = (name ≡ word) ⊎ IsOneOf name words

-- What an object would inherit from `Object.prototype` (ECMA-262, section 20.1.3), and `then`, by which promises know each other.
abbrev pub IsRefusedName : List ℕ → Type 0
IsRefusedName name = IsOneOf name refused_names

-- the test whether it is one of these
abbrev pub is_one_of : List ℕ → List (List ℕ) → Bool
is_one_of name [] = false
is_one_of name (word ∷ words) = bytes_eq name word || is_one_of name words
