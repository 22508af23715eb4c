-- The names of a scope.
use Rattle.std.proofs.Common.{◌≡◌, ℕ, Bool, true, false, ◌||◌, List, [], ◌∷◌, map, refl, sym, ap, ◌∙◌, Bor, Ordering, Less, Equal, Greater, is_eq}
use Rattle.std.specs.Cmp.Lexicographic.{bytes_decides}
use Rattle.std.specs.BTreeMap.{is_at}
use Rattle.std.specs.BTreeSet.{insert_key}
use Rattle.std.specs.Cmp.Lexicographic.{slice_cmp, texts_ties, pointwise}
use Rattle.std.specs.List.{list_any}
use Rattle.std.specs.Ordering.{nat_cmp, match_ordering}
use Rattle.std.specs.Prelude.{nat_eq}
use Rattle.js_scope.specs.Names.{has, with_name}

abbrev pub Key : Type 0
Key = Bor (List ℕ)

abbrev pub by_text : Key → Key → Ordering
by_text a b = slice_cmp nat_cmp a.now b.now

abbrev pub texts : List Key → List (List ℕ)
texts ks = map (λ k. k.now) ks

pub texts_insert : (ks : List Key) (k : Key) → texts (insert_key by_text ks k) ≡ with_name (texts ks) k.now
texts_insert [] k = refl
texts_insert (x ∷ xs) k =
    elim (by_text k x) as (λ o. texts (match_ordering o (k ∷ x ∷ xs) (x ∷ xs) (x ∷ insert_key by_text xs k)) ≡ match_ordering o (k.now ∷ x.now ∷ texts xs) (x.now ∷ texts xs) (x.now ∷ with_name (texts xs) k.now)) [
      | Less ↦ refl
      | Equal ↦ refl
      | Greater ↦ ap (λ ns. x.now ∷ ns) (texts_insert xs k)
    ]

pub texts_any : (ks : List Key) (k : Key) → list_any (is_at (by_text k)) ks ≡ has k.now (texts ks)
texts_any [] k = refl
texts_any (x ∷ xs) k = ap (λ b. is_at (by_text k) x || b) (texts_any xs k)

one_name : (a b : List ℕ) → pointwise nat_eq a b ≡ true → a ≡ b
one_name a b e = (bytes_decides a b).0 e

or_swap : (a b c : Bool) → (a || (b || c)) ≡ (b || (a || c))
or_swap true true c = refl
or_swap true false c = refl
or_swap false true c = refl
or_swap false false c = refl

or_twice : (a c : Bool) → (a || c) ≡ (a || (a || c))
or_twice true c = refl
or_twice false c = refl

-- a name is one of the names with another one where it is that one or one of the others
pub has_with : (q n : List ℕ) (names : List (List ℕ)) → has q (with_name names n) ≡ (pointwise nat_eq q n || has q names)
has_with q n [] = ap (λ b. b || false) (sym (texts_ties q n))
has_with q n (x ∷ xs) =
    let e = texts_ties q n in
    elim (slice_cmp nat_cmp n x) as (λ o. slice_cmp nat_cmp n x ≡ o → has q (match_ordering o (n ∷ x ∷ xs) (x ∷ xs) (x ∷ with_name xs n)) ≡ (pointwise nat_eq q n || has q (x ∷ xs))) [
      | Less ↦ λ h. ap (λ b. b || has q (x ∷ xs)) (sym e)
      | Equal ↦ λ h.
          let one = one_name n x (texts_ties n x ∙ ap is_eq h) in
          let same : is_at (slice_cmp nat_cmp q) x ≡ pointwise nat_eq q n = ap (λ (t : List ℕ). is_eq (slice_cmp nat_cmp q t)) (sym one) ∙ sym e in
          rw same (or_twice (pointwise nat_eq q n) (has q xs))
      | Greater ↦ λ h.
          ap (λ b. is_at (slice_cmp nat_cmp q) x || b) (has_with q n xs) ∙ or_swap (is_at (slice_cmp nat_cmp q) x) (pointwise nat_eq q n) (has q xs)
    ] refl
