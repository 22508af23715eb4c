-- A list from its back.
use Rattle.std.proofs.Common.{◌≡◌, ◌+◌, ◌-◌, List, [], ◌∷◌, ◌++◌, length, Some, refl, sym, ap, ◌∙◌, arith}
use Rattle.std.specs.Prelude.{reverse, slice_get}
use Rattle.std.proofs.lemmas.List.{reverse-append, reverse-reverse, length-append, length-reverse}

pub reverse_last : {A : Type 0} → (s : List A) (x : A) → reverse (s ++ x ∷ []) ≡ x ∷ reverse s
reverse_last s x = reverse-append s (x ∷ [])

pub reverse_twice : {A : Type 0} → (s : List A) → reverse (reverse s) ≡ s
reverse_twice s = reverse-reverse s

pub length_back : {A : Type 0} → (s : List A) → length (reverse s) ≡ length s
length_back s = length-reverse s

get_last : {A : Type 0} → (s : List A) (x : A) → slice_get (s ++ x ∷ []) (length s) ≡ Some x
get_last [] x = refl
get_last (y ∷ s) x = get_last s x

front_last : {A : Type 0} → (s : List A) → slice_get (reverse s) (length (reverse s) - 1) ≡ slice_get s 0
front_last [] = refl
front_last (x ∷ s) =
    let e : length (reverse s ++ x ∷ []) - 1 ≡ length (reverse s) = omega (arith, length-append (reverse s) (x ∷ [])) in
    ap (λ z. slice_get z (length z - 1)) (reverse-append (x ∷ []) s) ∙ ap (slice_get (reverse s ++ x ∷ [])) e ∙ get_last (reverse s) x

pub last_first : {A : Type 0} → (s : List A) → slice_get s (length s - 1) ≡ slice_get (reverse s) 0
last_first s = ap (λ z. slice_get z (length z - 1)) (sym (reverse-reverse s)) ∙ front_last (reverse s)

pub empty_back : {A : Type 0} → (s : List A) → reverse s ≡ [] → s ≡ []
empty_back [] e = refl
empty_back (x ∷ s) e = let f : length (reverse s ++ x ∷ []) ≡ length (reverse s) + 1 = length-append (reverse s) (x ∷ []) in let g : length (reverse s ++ x ∷ []) ≡ 0 = ap length (sym (reverse-append (x ∷ []) s) ∙ e) in absurd (omega (arith, f, g))
