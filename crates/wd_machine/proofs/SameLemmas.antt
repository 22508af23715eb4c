-- The test of equality passes exactly for equal values.
use Rattle.std.proofs.Common.{◌≡◌, ℕ, ◌==◌, Bool, true, false, ◌&&◌, IsTrue, ◌↔◌, refl, sym, ap, subst, arith}
use Rattle.std.proofs.lemmas.Bool.{false≢true, eqb-true}
use Rattle.std.proofs.lemmas.Bool.Decides.{nat_tests}
use Rattle.std.specs.Coded.{Coded}
use base.Stored.{Gv, gnil, gnum, gcons}
use Rattle.wd_machine.specs.Same.{same_code, is_same}

and_both : (a b : Bool) → (a && b) ≡ true → (a ≡ true) × (b ≡ true)
and_both true b e = (refl, e)
and_both false b e = absurd (false≢true e)

code_exact : (a b : Gv) → same_code a b ≡ true → a ≡ b
code_exact gnil gnil e = refl
code_exact gnil (gnum n) e = absurd (false≢true e)
code_exact gnil (gcons c d) e = absurd (false≢true e)
code_exact (gnum m) gnil e = absurd (false≢true e)
code_exact (gnum m) (gnum n) e = ap gnum (eqb-true m n e)
code_exact (gnum m) (gcons c d) e = absurd (false≢true e)
code_exact (gcons a b) gnil e = absurd (false≢true e)
code_exact (gcons a b) (gnum n) e = absurd (false≢true e)
code_exact (gcons a b) (gcons c d) e =
    let both = and_both (same_code a c) (same_code b d) e in
    λ i. gcons (code_exact a c both.0 i) (code_exact b d both.1 i)

nat_refl : (n : ℕ) → (n == n) ≡ true
nat_refl n = grind (arith, nat_tests)

code_self : (a : Gv) → same_code a a ≡ true
code_self gnil = refl
code_self (gnum n) = nat_refl n
code_self (gcons a b) = rw (code_self a) (code_self b)

-- the test and an exact answer agree
pub is_same_exact : {A : Type 0} (c : Coded A) (a b : A) (r : Bool) → (IsTrue r ↔ (a ≡ b)) → r ≡ is_same c a b
is_same_exact c a b true e = sym (subst (λ x. is_same c a x ≡ true) (e.0 refl) (code_self (c.code a)))
is_same_exact c a b false e =
    elim (is_same c a b) as (λ t. is_same c a b ≡ t → false ≡ t) [
      | true ↦ λ h. absurd (false≢true (e.1 (c.inj a b (code_exact (c.code a) (c.code b) h))))
      | false ↦ λ h. refl
    ] refl
