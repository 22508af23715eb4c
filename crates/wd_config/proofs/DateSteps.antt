-- Dates.
use Rattle.std.proofs.Common.{◌≡◌, ℕ, ◌≤◌, Bool, sym, ap, subst, ◌∙◌, arith, List, ◌∷◌, ◌++◌}
use Rattle.std.specs.Prelude.{◌↔◌, IsTrue}
use Rattle.std.proofs.lemmas.List.Elements.{All-weaker}
use Rattle.wd_config.specs.Cut.{IsNot, Lacks, IsCut}
use Rattle.wd_config.specs.Dates.{IsDigit, AreDigits, IsDate}
use Rattle.wd_config.proofs.CutSteps.{same_cut, not_cut}

no_dash : (b : ℕ) → IsDigit b → IsNot 45 b
no_dash b d = λ e. let low : 48 ≤ b = d.0 in let h : b ≡ 45 = e in omega arith

digits_lack : (n : ℕ) (text : List ℕ) → AreDigits n text → Lacks 45 text
digits_lack n text d = All-weaker IsDigit (IsNot 45) no_dash text d.1

-- the first part is the year
year_is : (year rest text : List ℕ) → IsCut 45 year rest text → (d : IsDate text) → (year ≡ d.year) × (rest ≡ d.month ++ 45 ∷ d.day)
year_is year rest text cut d = same_cut 45 year d.year rest (d.month ++ 45 ∷ d.day) cut.first (digits_lack 4 d.year d.year_digits) (sym cut.written ∙ d.written)

pub no_date : (text : List ℕ) → Lacks 45 text → IsDate text → ⊥
no_date text none d = not_cut 45 text d.year (d.month ++ 45 ∷ d.day) none d.written

pub one_dash : (year rest text : List ℕ) → IsCut 45 year rest text → Lacks 45 rest → IsDate text → ⊥
one_dash year rest text cut none d = not_cut 45 rest d.month d.day none (year_is year rest text cut d).1

to_date : (year rest month day text : List ℕ) → IsCut 45 year rest text → IsCut 45 month day rest → AreDigits 4 year × AreDigits 2 month × AreDigits 2 day → IsDate text
to_date year rest month day text cut next d =
    record { year = year; month = month; day = day; written = cut.written ∙ ap (λ t. year ++ 45 ∷ t) next.written; year_digits = d.0; month_digits = d.1; day_digits = d.2 }

from_date : (year rest month day text : List ℕ) → IsCut 45 year rest text → IsCut 45 month day rest → IsDate text → AreDigits 4 year × AreDigits 2 month × AreDigits 2 day
from_date year rest month day text cut next d =
    let first = year_is year rest text cut d in
    let second : (month ≡ d.month) × (day ≡ d.day) = same_cut 45 month d.month day d.day next.first (digits_lack 2 d.month d.month_digits) (sym next.written ∙ first.1) in
    (subst (AreDigits 4) (sym first.0) d.year_digits, subst (AreDigits 2) (sym second.0) d.month_digits, subst (AreDigits 2) (sym second.1) d.day_digits)

pub date_is : (year rest month day text : List ℕ) (r : Bool) → IsCut 45 year rest text → IsCut 45 month day rest → IsTrue r ↔ (AreDigits 4 year × AreDigits 2 month × AreDigits 2 day) → IsTrue r ↔ IsDate text
date_is year rest month day text r cut next is =
    ((λ t. to_date year rest month day text cut next (is.0 t)), (λ d. is.1 (from_date year rest month day text cut next d)))
