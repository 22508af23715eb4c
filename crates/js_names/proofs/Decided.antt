-- The test of names is exact.
use Rattle.std.proofs.Common.{◌≡◌, ℕ, Bool, true, false, List, [], ◌∷◌, inl, inr, refl, sym, ◌∙◌, take, length, arith}
use Rattle.std.proofs.lemmas.List.{take_all}
use Rattle.std.specs.Prelude.{◌||◌, ◌↔◌}
use Rattle.std.specs.Str.{bytes_eq}
use Rattle.std.proofs.lemmas.Slice.Eq.{bytes_eq-Decides}
use Rattle.js_names.specs.Names.{IsOneOf, IsRefusedName, refused_names, is_one_of}

found : (name word : List ℕ) (words : List (List ℕ)) (first rest : Bool) → (first ≡ true → name ≡ word) → (rest ≡ true → IsOneOf name words) → (first || rest) ≡ true → IsOneOf name (word ∷ words)
found name word words true rest f g h = inl (f refl)
found name word words false rest f g h = inr (g h)

pub one_of_found : (name : List ℕ) (words : List (List ℕ)) → is_one_of name words ≡ true → IsOneOf name words
one_of_found name [] h = cc
one_of_found name (word ∷ words) h = found name word words (bytes_eq name word) (is_one_of name words) (bytes_eq-Decides name word).0 (one_of_found name words) h

first_yes : (a b : Bool) → a ≡ true → (a || b) ≡ true
first_yes true b h = refl
first_yes false b h = cc

second_yes : (a b : Bool) → b ≡ true → (a || b) ≡ true
second_yes true b h = refl
second_yes false b h = h

pub one_of_told : (name : List ℕ) (words : List (List ℕ)) → IsOneOf name words → is_one_of name words ≡ true
one_of_told name [] h = absurd h
one_of_told name (word ∷ words) (inl h) = first_yes (bytes_eq name word) (is_one_of name words) ((bytes_eq-Decides name word).1 h)
one_of_told name (word ∷ words) (inr h) = second_yes (bytes_eq name word) (is_one_of name words) (one_of_told name words h)

pub exact : (name : List ℕ) (b : Bool) → b ≡ is_one_of name refused_names → (b ≡ true) ↔ IsRefusedName name
exact name b e = (λ h. one_of_found name refused_names (sym e ∙ h), λ h. e ∙ one_of_told name refused_names h)

pub same_told : (a b : List ℕ) (n : ℕ) → length a ≡ length b → n ≡ length b → take n a ≡ take n b → true ≡ bytes_eq a b
same_told a b n e f h = sym ((bytes_eq-Decides a b).1 (sym (take_all n a (omega (arith, e, f))) ∙ h ∙ take_all n b (omega (arith, f))))
