-- The front of a key's name decides whether it is refused.
use Rattle.std.proofs.Common.{◌≡◌, ℕ, ◌≤◌, Bool, true, false, List, [], ◌∷◌, ◌++◌, inl, inr, length, take, refl, sym, ◌∙◌, ap, subst, arith}
use Rattle.std.specs.Prelude.{nat_lt, nat_le, min}
use Rattle.std.proofs.Math.Nat.{min-eq_left}
use Rattle.std.proofs.lemmas.Bool.{leb-true, lt-ltb, le-ltb, cases_lt, false_from_ne_true, cond-true, cond-false}
use Rattle.std.proofs.lemmas.List.{take_all, take-append-le, length-take, length-append}
use Rattle.js_names.specs.Names.{IsOneOf, IsRefusedName, refused_names, is_one_of}
use Rattle.js_names.proofs.Decided.{one_of_found, one_of_told}
use Rattle.js_json.specs.Lists.{Every}
use Rattle.js_json.specs.Grammar.{IsAllowed}
use Rattle.js_json.specs.Machine.{name_with}

-- what is kept of a name
abbrev pub clip : List ℕ → List ℕ
clip v = take 21 v

pub clip_with : (v : List ℕ) (x : ℕ) → name_with (clip v) x ≡ clip (v ++ x ∷ [])
clip_with v x =
    let len = length-take 21 v in
    let more = length-append v (x ∷ []) in
    elim (cases_lt (length v) 21) [
      | inl h ↦ (let whole : clip v ≡ v = take_all 21 v (omega (arith, h)) in
          ap (λ (z : List ℕ). name_with z x) whole ∙ cond-true (nat_lt (length v) 21) (v ++ x ∷ []) v (lt-ltb (length v) 21 h) ∙ sym (take_all 21 (v ++ x ∷ []) (omega (arith, more, h))))
      | inr h ↦ (let full : length (clip v) ≡ 21 = len ∙ min-eq_left h in
          cond-false (nat_lt (length (clip v)) 21) (clip v ++ x ∷ []) (clip v) (le-ltb (length (clip v)) 21 (omega (arith, full))) ∙ sym (take-append-le 21 v (x ∷ []) h))
    ]

abbrev Short : List ℕ → Type 0
Short w = nat_le (length w) 20 ≡ true

one_short : (name : List ℕ) (words : List (List ℕ)) → Every Short words → IsOneOf name words → length name ≤ 20
one_short name [] e h = absurd h
one_short name (w ∷ ws) e (inl h) = subst (λ (z : List ℕ). length z ≤ 20) (sym h) (leb-true (length w) 20 e.0)
one_short name (w ∷ ws) e (inr h) = one_short name ws e.1 h

names_short : Every Short refused_names
names_short = (refl, (refl, (refl, (refl, (refl, (refl, (refl, (refl, (refl, (refl, (refl, (refl, (refl, tt)))))))))))))

refused_short : (name : List ℕ) → IsRefusedName name → length name ≤ 20
refused_short name h = one_short name refused_names names_short h

both : (b : Bool) → b ≡ true → b ≡ false → ⊥
both true e f = cc
both false e f = cc

pub allowed_found : (v : List ℕ) → is_one_of (clip v) refused_names ≡ false → IsAllowed v
allowed_found v h r =
    let short = refused_short v r in
    let whole : clip v ≡ v = take_all 21 v (omega (arith, short)) in
    both (is_one_of (clip v) refused_names) (one_of_told (clip v) refused_names (subst IsRefusedName (sym whole) r)) h

pub allowed_told : (v : List ℕ) → IsAllowed v → is_one_of (clip v) refused_names ≡ false
allowed_told v f =
    false_from_ne_true (is_one_of (clip v) refused_names) (λ t.
    let r : IsRefusedName (clip v) = one_of_found (clip v) refused_names t in
    let short = refused_short (clip v) r in
    let len = length-take 21 v in
    elim (cases_lt (length v) 21) [
      | inl h ↦ f (subst IsRefusedName (take_all 21 v (omega (arith, h))) r)
      | inr h ↦ (let full : min 21 (length v) ≡ 21 = min-eq_left h in absurd (omega (arith, short, len, full)))
    ])
