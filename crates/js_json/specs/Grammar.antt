-- The grammar of JSON (ECMA-404, RFC 8259), as `JSON.parse` (ECMA-262, section 25.5.1) reads it here: at most 64 arrays and objects
-- are open at any place, numbers are safe integers, and no key is a refused name.
use Rattle.std.specs.Prelude.{◌≡◌, ℕ, zero, suc, Bool, true, not, ◌||◌, ◌==◌, nat_lt, List, [], ◌∷◌, ◌++◌, ◌⊎◌, map, flat_map, codes}
use Rattle.js_names.specs.Names.{IsRefusedName}
use Rattle.js_json.specs.Units.{is_blank, is_hex, code_of, is_escape, escaped}
use Rattle.js_json.specs.Lists.{Every, Passes, Then, Many, Either, One}
use Rattle.js_json.specs.Number.{IsSafeNumber}

-- any number of blanks (ECMA-404, section 4)
abbrev pub Blanks : List ℕ → Type 0
Blanks us = Every (Passes is_blank) us

-- ---- texts

-- one unit of what a text spells
pub data Letter : Type 0 where
  -- the unit itself
  Raw : ℕ → Letter
  -- behind `\`
  Escape : ℕ → Letter
  -- `\u` and four digits
  Code : ℕ → ℕ → ℕ → ℕ → Letter

-- the units that a letter is written with
abbrev pub letter_units : Letter → List ℕ
letter_units (Raw u) = u ∷ []
letter_units (Escape u) = 92 ∷ u ∷ []
letter_units (Code a b c d) = 92 ∷ 117 ∷ a ∷ b ∷ c ∷ d ∷ []

-- the unit that a letter spells
abbrev pub letter_value : Letter → ℕ
letter_value (Raw u) = u
letter_value (Escape u) = escaped u
letter_value (Code a b c d) = code_of a b c d

-- a unit that stands for itself: no `"`, no `\`, none below the space
abbrev pub is_raw : ℕ → Bool
is_raw u = not (u == 34 || (u == 92 || nat_lt u 32))

-- a letter that a text may have: each digit of a code is hexadecimal (ECMA-404, section 9)
abbrev pub IsLetter : Letter → Type 0
IsLetter (Raw u) = is_raw u ≡ true
IsLetter (Escape u) = is_escape u ≡ true
IsLetter (Code a b c d) = (is_hex a ≡ true) × (is_hex b ≡ true) × (is_hex c ≡ true) × (is_hex d ≡ true)

-- a text in quotes that spells something of this kind
pub record IsTextOf (Spells : List ℕ → Type 0) (us : List ℕ) : Type 0 where
  pub letters : List Letter
  pub are : Every IsLetter letters
  pub spells : Spells (map letter_value letters)
  pub text : us ≡ 34 ∷ (flat_map letter_units letters ++ 34 ∷ [])

-- the text may spell any name
abbrev pub Anything : List ℕ → Type 0
Anything name = Unit {0}

-- the name is no refused one
abbrev pub IsAllowed : List ℕ → Type 0
IsAllowed name = IsRefusedName name → ⊥

-- a text
-- whatever it spells (ECMA-404, section 9)
abbrev pub IsText : List ℕ → Type 0
IsText us = IsTextOf Anything us

-- a text that may be a key
abbrev pub IsKey : List ℕ → Type 0
IsKey us = IsTextOf IsAllowed us

-- ---- values

-- `true`, `false` or `null`
abbrev pub IsWord : List ℕ → Type 0
IsWord us = (us ≡ codes "true") ⊎ ((us ≡ codes "false") ⊎ (us ≡ codes "null"))

-- a value that holds no other
abbrev pub IsScalar : List ℕ → Type 0
IsScalar us = IsWord us ⊎ (IsSafeNumber us ⊎ IsText us)

-- one or more, with commas between them
abbrev pub Parted : (List ℕ → Type 0) → List ℕ → Type 0
Parted P us = Then P (Many (Then (One 44) P)) us

-- between these two units
abbrev pub Between : ℕ → (List ℕ → Type 0) → ℕ → List ℕ → Type 0
Between a P b us = Then (One a) (Then P (One b)) us

-- a value with blanks around it
abbrev pub Item : (List ℕ → Type 0) → List ℕ → Type 0
Item V us = Then Blanks (Then V Blanks) us

-- a key, a colon and a value
abbrev pub Member : (List ℕ → Type 0) → List ℕ → Type 0
Member V us = Then Blanks (Then IsKey (Then Blanks (Then (One 58) (Item V)))) us

-- items, or nothing, between `[` and `]`
abbrev pub IsArray : (List ℕ → Type 0) → List ℕ → Type 0
IsArray V us = Between 91 (Either Blanks (Parted (Item V))) 93 us

-- members, or nothing, between `{` and `}`
abbrev pub IsObject : (List ℕ → Type 0) → List ℕ → Type 0
IsObject V us = Between 123 (Either Blanks (Parted (Member V))) 125 us

-- a value of at most so many levels
abbrev pub IsValue : ℕ → List ℕ → Type 0
IsValue zero us = IsScalar us
IsValue (suc n) us = IsScalar us ⊎ (IsArray (IsValue n) us ⊎ IsObject (IsValue n) us)

-- The text is one on which `JSON.parse` throws nothing.
abbrev pub IsJson : List ℕ → Type 0
IsJson us = Item (IsValue 64) us
