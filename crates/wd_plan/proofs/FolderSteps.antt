-- The folder of a path.
use Rattle.std.specs.Prelude.{◌≡◌, ℕ, zero, suc, ◌+◌, ◌-◌, ◌<◌, ◌≤◌, ◌==◌, Bool, true, false, ◌||◌, List, [], ◌∷◌}
use Rattle.std.specs.Prelude.{length, take, drop, refl, if◌then◌else◌}
use Rattle.std.proofs.Common.{sym, ap, subst, ◌∙◌, inl, inr, arith, get_or, eq-eqb}
use Rattle.std.proofs.Math.Seq.{drop-cons, drop-length}
use Rattle.std.specs.Str.{IsUtf8, IsCharBoundary}
use Rattle.wd_plan.proofs.ScriptSteps.{differs}
use Rattle.std.proofs.lemmas.Str.{IsCharBoundary-after_ascii, IsCharBoundary-from_take, IsUtf8-nil}
use Rattle.wd_plan.specs.Folder.{has_slash, folder, IsFolderLen}

or_right : (a b : Bool) → b ≡ true → (a || b) ≡ true
or_right true b e = refl
or_right false b e = e

or_false : (a : Bool) → a ≡ false → (a || false) ≡ false
or_false true e = e
or_false false e = refl

slash_at : (path : List ℕ) (i : ℕ) → i < length path → get_or path i 0 ≡ 47 → has_slash path ≡ true
slash_at [] i h e = absurd (omega arith)
slash_at (b ∷ rest) zero h e = ap (λ t. t || has_slash rest) (eq-eqb b 47 e)
slash_at (b ∷ rest) (suc i) h e = or_right (b == 47) (has_slash rest) (slash_at rest i (omega arith) e)

-- a front of two bytes or more that ends with a slash has it behind the first byte
shorter : (b : ℕ) (rest : List ℕ) (n : ℕ) → IsFolderLen (b ∷ rest) (suc n) → IsFolderLen rest n
shorter b rest zero ends = inl refl
shorter b rest (suc m) (inl e) = absurd (omega arith)
shorter b rest (suc m) (inr (some, e)) =
    let outer : suc (suc m) - 1 ≡ suc m = omega arith in
    let inner : suc m - 1 ≡ m = omega arith in
    inr (omega arith, ap (λ k. get_or rest k 0) inner ∙ ap (λ k. get_or (b ∷ rest) k 0) (sym outer) ∙ e)

holds : (b : ℕ) (rest : List ℕ) (n : ℕ) → suc n ≤ length (b ∷ rest) → IsFolderLen (b ∷ rest) (suc n)
    → has_slash (b ∷ rest) ≡ true
holds b rest n h (inl e) = absurd (omega arith)
holds b rest n h (inr (some, e)) = slash_at (b ∷ rest) (suc n - 1) (omega arith) e

-- the front up to the last slash is the folder
front_is : (path : List ℕ) (n : ℕ) → n ≤ length path → has_slash (drop n path) ≡ false → IsFolderLen path n
    → take n path ≡ folder path
unfolding folder
front_is [] zero h none ends = refl
front_is [] (suc n) h none ends = refl
front_is (b ∷ rest) zero h none ends = sym (ap (λ t. if t then b ∷ folder rest else []) none)
front_is (b ∷ rest) (suc n) h none ends =
    ap (λ t. b ∷ t) (front_is rest n (omega arith) none (shorter b rest n ends))
    ∙ sym (ap (λ t. if t then b ∷ folder rest else []) (holds b rest n h ends))

pub folder_at : (path : List ℕ) (n : ℕ) → 0 < n → n ≤ length path → get_or path (n - 1) 0 ≡ 47 → has_slash (drop n path)
    ≡ false → take n path ≡ folder path
folder_at path n some h e none = front_is path n h none (inr (some, e))

pub folder_none : (path : List ℕ) (n : ℕ) → (0 < n → ⊥) → has_slash (drop n path) ≡ false → take 0 path ≡ folder path
folder_none path n zero' none = let e : n ≡ 0 = omega (arith, zero') in
    front_is path 0 (omega arith) (subst (λ k. has_slash (drop k path) ≡ false) e none) (inl refl)

-- one byte less, that is no slash
pub slash_less : (path : List ℕ) (n : ℕ) → 0 < n → n ≤ length path → (get_or path (n - 1) 0 ≡ 47 → ⊥)
    → has_slash (drop n path) ≡ false → has_slash (drop (n - 1) path) ≡ false
slash_less path n some h other none =
    let back : suc (n - 1) ≡ n = omega arith in
    let e : drop (n - 1) path ≡ get_or path (n - 1) 0 ∷ drop n path = drop-cons path (n - 1) 0 (omega arith)
    ∙ ap (λ k. get_or path (n - 1) 0 ∷ drop k path) back in
    ap has_slash e ∙ ap (λ t. (get_or path (n - 1) 0 == 47) || t) none
    ∙ or_false (get_or path (n - 1) 0 == 47) (differs (get_or path (n - 1) 0) 47 (get_or path (n - 1) 0 == 47) refl
    other)

pub no_slash_behind : (path : List ℕ) → has_slash (drop (length path) path) ≡ false
no_slash_behind path = ap has_slash (drop-length path)

-- a character begins behind the folder
pub folder_boundary : (path : List ℕ) (n : ℕ) → IsUtf8 path → n ≤ length path → IsFolderLen path n
    → IsCharBoundary path n
folder_boundary path n utf8 h (inl e) =
    subst (IsCharBoundary path) (sym e) (IsCharBoundary-from_take path 0 utf8 (omega arith) IsUtf8-nil)
folder_boundary path n utf8 h (inr (some, e)) = let back : n - 1 + 1 ≡ n = omega arith in
    subst (IsCharBoundary path) back
    (IsCharBoundary-after_ascii path (n - 1) utf8 (omega arith) (subst (λ b. b < 128) (sym e) (omega arith)))
