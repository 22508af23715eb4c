-- What begins with a unit of a name.
use Rattle.std.proofs.Common.{◌≡◌, ℕ, Bool, true, false, refl, sym, ◌∙◌, ap}
use Rattle.std.specs.Prelude.{◌==◌}
use Rattle.js_lex.specs.Units.{Text, is_digit, is_part}
use Rattle.js_lex.specs.Front as code
use Rattle.js_lex.proofs.Truths.{cond_yes, cond_no, and_no_first, apart, part_name, digit_part, name_no_white, name_no_line_end}
use Rattle.js_lex.proofs.Which.{Which, AtNumber, AtName, which, which_plain, front_by, front_which}

part_which : (h : Bool) (u : ℕ) (z : Text) → is_part u ≡ true → which h u z ≡ which_plain u z
part_which h u z i =
    cond_no _ _ _ (name_no_line_end u (part_name u i)) ∙ cond_no _ _ _ (name_no_white u (part_name u i)) ∙ cond_no _ _ _ (apart is_part u 34 i refl)
    ∙ cond_no _ _ _ (apart is_part u 39 i refl) ∙ cond_no _ _ _ (apart is_part u 96 i refl) ∙ cond_no _ _ _ (and_no_first (u == 125) h (apart is_part u 125 i refl))

by_which : (h : Bool) (u : ℕ) (z : Text) (k : Which) → which h u z ≡ k → code.front_of h u z ≡ front_by k u z
by_which h u z k e = sym (front_which h u z) ∙ ap (λ (w : Which). front_by w u z) e

pub name_first : (h : Bool) (u : ℕ) (z : Text) → is_part u ≡ true → is_digit u ≡ false → code.front_of h u z ≡ code.name u z
name_first h u z i d = by_which h u z AtName (part_which h u z i ∙ cond_no _ _ _ d ∙ cond_yes _ _ _ (part_name u i))

pub digit_first : (h : Bool) (u : ℕ) (z : Text) → is_digit u ≡ true → code.front_of h u z ≡ code.number u z
digit_first h u z d = by_which h u z AtNumber (part_which h u z (digit_part u d) ∙ cond_yes _ _ _ d)
