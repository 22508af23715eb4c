-- The letters of a literal.
use Rattle.std.proofs.Common.{◌≡◌, ℕ, zero, suc, ◌+◌, List, [], ◌∷◌, ◌++◌, drop, length, ◌≤◌, Option, Some, None, refl, sym, ap, ◌∙◌, append_assoc, arith}
use Rattle.std.proofs.lemmas.List.{append-nil}
use Rattle.std.specs.Prelude.{slice_index}
use Rattle.js_lex.specs.declared.letters.Quote.{Quote}
use Rattle.js_lex.specs.declared.letters.Letter.{Letter}
use Rattle.js_lex.specs.declared.letters.Ending.{Ending}
use Rattle.js_lex.specs.declared.letters.Next.{Next}
use Rattle.js_lex.specs.declared.letters.Next.TheVariants as next
use Rattle.js_lex.specs.declared.letters.Body.{Body}
use Rattle.js_lex.specs.Units.{Text}
use Rattle.js_lex.specs.Letters.{meant, body_of, after, joined, next_of, ending_units}

pub body_drop : (q : Quote) (n : ℕ) (z : Text) → body_of q n z ≡ body_of q 0 (drop n z)
body_drop q zero z = refl
body_drop q (suc n) [] = refl
body_drop q (suc n) (u ∷ z) = body_drop q n z

after_nil : (o : Option Body) → after [] 0 o ≡ o
after_nil None = refl
after_nil (Some b) = ap (λ (n : ℕ). let r : Option Body = Some (record { value = b.value; units = n; ending = b.ending }) in r) (omega arith)

after_twice : (v w : List ℕ) (m n : ℕ) (o : Option Body) → after v m (after w n o) ≡ after (v ++ w) (m + n) o
after_twice v w m n None = refl
after_twice v w m n (Some b) =
    ap (λ (x : List ℕ). let r : Option Body = Some (record { value = x; units = m + (n + b.units); ending = b.ending }) in r) (sym (append_assoc v w b.value))
    ∙ ap (λ (x : ℕ). let r : Option Body = Some (record { value = (v ++ w) ++ b.value; units = x; ending = b.ending }) in r) (omega arith)

pub body_begins : (q : Quote) (z : Text) → after [] 0 (body_of q 0 z) ≡ body_of q 0 z
body_begins q z = after_nil (body_of q 0 z)

one_behind : (n : ℕ) → 1 + n ≡ suc n
one_behind n = omega arith

pub body_goes : (q : Quote) (z all : Text) (l : Letter) (v : List ℕ) (m : ℕ) → 1 ≤ length z → next_of q (slice_index z 0) (drop 1 z) ≡ next.Letter l → after v m (body_of q 0 z) ≡ body_of q 0 all → after (v ++ meant l.meaning) (m + (1 + l.more)) (body_of q 0 (drop (1 + l.more) z)) ≡ body_of q 0 all
body_goes q [] all l v m k h e = absurd (omega (arith, k))
body_goes q (u ∷ z) all l v m k h e =
    ap (λ (n : ℕ). after (v ++ meant l.meaning) (m + (1 + l.more)) (body_of q 0 (drop n (u ∷ z)))) (one_behind l.more)
    ∙ ap (after (v ++ meant l.meaning) (m + (1 + l.more))) (sym (body_drop q l.more z))
    ∙ sym (after_twice v (meant l.meaning) m (1 + l.more) (body_of q l.more z))
    ∙ ap (λ (x : Next). after v m (joined x (λ n. body_of q n z))) (sym h) ∙ e

pub body_ends : (q : Quote) (z all : Text) (f : Ending) (v : List ℕ) (m : ℕ) → 1 ≤ length z → next_of q (slice_index z 0) (drop 1 z) ≡ next.End f → after v m (body_of q 0 z) ≡ body_of q 0 all → Some (record { value = v; units = m + ending_units f; ending = f }) ≡ body_of q 0 all
body_ends q [] all f v m k h e = absurd (omega (arith, k))
body_ends q (u ∷ z) all f v m k h e =
    ap (λ (x : List ℕ). let r : Option Body = Some (record { value = x; units = m + ending_units f; ending = f }) in r) (sym (append-nil v))
    ∙ ap (λ (x : Next). after v m (joined x (λ n. body_of q n z))) (sym h) ∙ e

pub body_breaks : (q : Quote) (z all : Text) (v : List ℕ) (m : ℕ) → 1 ≤ length z → next_of q (slice_index z 0) (drop 1 z) ≡ next.Broken → after v m (body_of q 0 z) ≡ body_of q 0 all → None ≡ body_of q 0 all
body_breaks q [] all v m k h e = absurd (omega (arith, k))
body_breaks q (u ∷ z) all v m k h e = ap (λ (x : Next). after v m (joined x (λ n. body_of q n z))) (sym h) ∙ e
