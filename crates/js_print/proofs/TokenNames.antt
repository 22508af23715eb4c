-- The front of a text that begins with a name and a space.
use Rattle.std.proofs.Common.{◌≡◌, ℕ, ◌-◌, Bool, true, [], ◌∷◌, ◌++◌, length, refl, sym, ◌∙◌, ap, arith}
use Rattle.std.specs.Prelude.{◌==◌, cond}
use Rattle.std.proofs.lemmas.Bool.{eq-eqb}
use Rattle.js_lex.specs.declared.front.Front.TheVariants as front
use Rattle.js_lex.specs.declared.front.Unread.TheVariants as bad
use Rattle.js_lex.specs.declared.units.Class.TheVariants as class
use Rattle.js_lex.specs.Units.{Text, is_part, is_name}
use Rattle.js_lex.specs.Runs.{past}
use Rattle.js_lex.specs.Front as code
use Rattle.js_lex.specs.Grammar.{IsAscii}
use Rattle.js_lex.proofs.Truths.{cond_yes, and_both, part_name}
use Rattle.js_lex.proofs.Runs.{run_exact, every_wider, take_here}
use Rattle.js_lex.proofs.Fronts.{front_at}
use Rattle.js_print.proofs.Printable.{IsWord}
use Rattle.js_print.proofs.TokenFirst.{name_first}

name_run : (u : ℕ) (w z : Text) → IsAscii w → past class.Name (w ++ 32 ∷ z) 0 ≡ length w
name_run u w z a = omega (arith, run_exact is_name w (32 ∷ z) (every_wider is_part is_name part_name w a) refl)

part_run : (w z : Text) → IsAscii w → past class.Part (w ++ 32 ∷ z) 0 ≡ length w
part_run w z a = omega (arith, run_exact is_part w (32 ∷ z) a refl)

ascii : (u : ℕ) (w z : Text) → IsAscii (u ∷ w) → code.is_ascii u (w ++ 32 ∷ z) (length w) ≡ true
ascii u w z a = and_both (is_part u) (length w == past class.Part (w ++ 32 ∷ z) 0) a.0 (eq-eqb _ _ (sym (part_run w z a.1)))

read : (u : ℕ) (w z : Text) → IsWord (u ∷ w) → code.name u (w ++ 32 ∷ z) ≡ front.Token (code.name_kind (u ∷ w)) (length w)
read u w z i =
    ap (λ (n : ℕ). cond (code.is_ascii u (w ++ 32 ∷ z) n) (code.word u (w ++ 32 ∷ z) n) (front.Bad bad.Identifier)) (name_run u w z i.1.1)
    ∙ cond_yes _ _ _ (ascii u w z i.1)
    ∙ ap (λ (v : Text). front.Token (code.name_kind (u ∷ v)) (length w)) (take_here w (32 ∷ z))

pub name_front : (h : Bool) (w z : Text) → IsWord w → front_at h (w ++ 32 ∷ z) ≡ front.Token (code.name_kind w) (length w - 1)
name_front h [] z i = absurd i
name_front h (u ∷ w) z i = name_first h u (w ++ 32 ∷ z) i.1.0 i.0 ∙ read u w z i ∙ ap (front.Token (code.name_kind (u ∷ w))) (omega arith)
