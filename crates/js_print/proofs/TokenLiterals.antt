-- The front of a text that begins with a string or a part of a template, and a space.
use Rattle.std.proofs.Common.{◌≡◌, ℕ, ◌+◌, ◌-◌, Bool, true, false, List, [], ◌∷◌, ◌++◌, length, refl, sym, ◌∙◌, ap, subst, arith, ◌⊎◌, inl, inr}
use Rattle.std.specs.Prelude.{◌==◌, ◌||◌, ◌&&◌, cond}
use Rattle.std.proofs.lemmas.List.{length-append}
use Rattle.std.proofs.lemmas.Bool.{eqb-true}
use Rattle.js_lex.specs.declared.token.TokenKind.TheVariants as tok
use Rattle.js_lex.specs.declared.token.TemplatePart.{TemplatePart}
use Rattle.js_lex.specs.declared.token.TemplatePart.TheVariants as part
use Rattle.js_lex.specs.declared.letters.Quote.{Quote}
use Rattle.js_lex.specs.declared.letters.Quote.TheVariants as quote
use Rattle.js_lex.specs.declared.letters.Ending.{Ending}
use Rattle.js_lex.specs.declared.letters.Ending.TheVariants as ending
use Rattle.js_lex.specs.declared.front.Front.TheVariants as front
use Rattle.js_lex.specs.Units.{Text, is_digit, is_line_end}
use Rattle.js_lex.specs.Values.{escaped, part_of}
use Rattle.js_lex.specs.Letters.{ending_units}
use Rattle.js_lex.specs.Front as code
use Rattle.js_lex.specs.Characters.{Character, Plain, Escape, character_units, character_value, characters_units, characters_value, IsPlain, StandsIn, AreCharacters, mark, ending_text}
use Rattle.js_lex.specs.Elements.{part_begin}
use Rattle.js_lex.proofs.Truths.{or_split, or_first, or_second, or_no}
use Rattle.js_lex.proofs.Literals.{string_only, part_only, end_size}
use Rattle.js_lex.proofs.Signs.{no_truth}
use Rattle.js_lex.proofs.Fronts.{front_at}
use Rattle.js_print.specs.TokenText.{is_escaped, escape_letter, unit_text, units_text}
use Rattle.js_print.specs.TokenText as spec
use Rattle.js_print.proofs.Printable.{MayStand}

-- ---- one unit

-- the quotes that are printed
abbrev printed : Quote → Type 0
printed q = (q ≡ quote.Double) ⊎ (q ≡ quote.Template)

abbrev character_by : Bool → ℕ → Character
character_by true u = Escape (escape_letter u)
character_by false u = Plain u

-- the character that a unit is written as
abbrev character : ℕ → ℕ → Character
character m u = character_by (is_escaped m u) u

units_by : (r : Bool) (u : ℕ) → character_units (character_by r u) ≡ cond r (92 ∷ escape_letter u ∷ []) (u ∷ [])
units_by true u = refl
units_by false u = refl

-- one of the units that are escaped
escapes : (P : ℕ → Type 0) (m u : ℕ) → is_escaped m u ≡ true → P m → P 92 → P 10 → P 13 → P 36 → P u
escapes P m u e a b c d f = elim (or_split (u == m || u == 92) ((u == 10 || u == 13) || (m == 96 && u == 36)) e) [
  | inl x ↦ elim (or_split (u == m) (u == 92) x) [
    | inl y ↦ subst P (sym (eqb-true u m y)) a
    | inr y ↦ subst P (sym (eqb-true u 92 y)) b
  ]
  | inr x ↦ elim (or_split (u == 10 || u == 13) (m == 96 && u == 36) x) [
    | inl y ↦ elim (or_split (u == 10) (u == 13) y) [
      | inl k ↦ subst P (sym (eqb-true u 10 k)) c
      | inr k ↦ subst P (sym (eqb-true u 13 k)) d
    ]
    | inr y ↦ subst P (sym (eqb-true u 36 (second (m == 96) (u == 36) y))) f
  ]
]
  where
    second : (a b : Bool) → (a && b) ≡ true → b ≡ true
    second true b h = h
    second false b h = cc

value_escaped : (q : Quote) (u : ℕ) → printed q → is_escaped (mark q) u ≡ true → escaped (escape_letter u) ≡ u
value_escaped q u (inl k) e = escapes (λ (v : ℕ). escaped (escape_letter v) ≡ v) (mark q) u e (subst (λ (x : Quote). escaped (escape_letter (mark x)) ≡ mark x) (sym k) refl) refl refl refl refl
value_escaped q u (inr k) e = escapes (λ (v : ℕ). escaped (escape_letter v) ≡ v) (mark q) u e (subst (λ (x : Quote). escaped (escape_letter (mark x)) ≡ mark x) (sym k) refl) refl refl refl refl

value_by : (q : Quote) (u : ℕ) (r : Bool) → printed q → is_escaped (mark q) u ≡ r → character_value (character_by r u) ≡ u ∷ []
value_by q u true k e = ap (λ (v : ℕ). v ∷ []) (value_escaped q u k e)
value_by q u false k e = refl

abbrev IsLetter : ℕ → Type 0
IsLetter v = (escape_letter v == 120 || (escape_letter v == 117 || (is_digit (escape_letter v) || is_line_end (escape_letter v)))) ≡ false

letter_stands : (q : Quote) (u : ℕ) → printed q → is_escaped (mark q) u ≡ true → IsLetter u
letter_stands q u (inl k) e = escapes IsLetter (mark q) u e (subst (λ (x : Quote). IsLetter (mark x)) (sym k) refl) refl refl refl refl
letter_stands q u (inr k) e = escapes IsLetter (mark q) u e (subst (λ (x : Quote). IsLetter (mark x)) (sym k) refl) refl refl refl refl

plain_stands : (q : Quote) (u : ℕ) (z : Text) → printed q → is_escaped (mark q) u ≡ false → IsPlain q u z
plain_stands quote.Single u z (inl k) e = cc
plain_stands quote.Single u z (inr k) e = cc
plain_stands quote.Double u z k e =
    let a = or_first (u == 34 || u == 92) ((u == 10 || u == 13) || (34 == 96 && u == 36)) e in
    let b = or_second (u == 34 || u == 92) ((u == 10 || u == 13) || (34 == 96 && u == 36)) e in
    or_no (u == 34) _ (or_first (u == 34) (u == 92) a) (or_no (u == 92) _ (or_second (u == 34) (u == 92) a) (or_first (u == 10 || u == 13) (34 == 96 && u == 36) b))
plain_stands quote.Template u z k e =
    let a = or_first (u == 96 || u == 92) ((u == 10 || u == 13) || (96 == 96 && u == 36)) e in
    let b = or_second (u == 96 || u == 92) ((u == 10 || u == 13) || (96 == 96 && u == 36)) e in
    let c = or_first (u == 10 || u == 13) (96 == 96 && u == 36) b in
    let d : (u == 36) ≡ false = or_second (u == 10 || u == 13) (96 == 96 && u == 36) b in
    (or_no (u == 96) _ (or_first (u == 96) (u == 92) a) (or_no (u == 92) _ (or_second (u == 96) (u == 92) a) (or_second (u == 10) (u == 13) c)), λ y. absurd (no_truth (sym y ∙ d)))

stands_by : (q : Quote) (u : ℕ) (z : Text) (r : Bool) → printed q → is_escaped (mark q) u ≡ r → StandsIn q (character_by r u) z
stands_by q u z true k e = letter_stands q u k e
stands_by q u z false k e = plain_stands q u z k e

-- ---- all of them

abbrev characters : ℕ → List ℕ → List Character
characters m [] = []
characters m (u ∷ w) = character m u ∷ characters m w

written : (m : ℕ) (w : List ℕ) → characters_units (characters m w) ≡ units_text m w
written m [] = refl
written m (u ∷ w) = ap (λ (x : Text). x ++ characters_units (characters m w)) (units_by (is_escaped m u) u) ∙ ap (λ (x : Text). unit_text m u ++ x) (written m w)

meant : (q : Quote) (w : List ℕ) → printed q → characters_value (characters (mark q) w) ≡ w
meant q [] k = refl
meant q (u ∷ w) k = ap (λ (x : List ℕ). x ++ characters_value (characters (mark q) w)) (value_by q u (is_escaped (mark q) u) k refl) ∙ ap (λ (x : List ℕ). u ∷ x) (meant q w k)

stand : (q : Quote) (w : List ℕ) (z : Text) → printed q → AreCharacters q (characters (mark q) w) z
stand q [] z k = tt
stand q (u ∷ w) z k = (stands_by q u (characters_units (characters (mark q) w) ++ z) (is_escaped (mark q) u) k refl, stand q w z k)

-- ---- strings

pub text_front : (h : Bool) (w : List ℕ) (z : Text) → front_at h ((34 ∷ (units_text 34 w ++ 34 ∷ [])) ++ 32 ∷ z) ≡ front.Token (tok.Text w) (length (34 ∷ (units_text 34 w ++ 34 ∷ [])) - 1)
text_front h w z =
    let cs = characters 34 w in
    let same = written 34 w in
    let size : length (units_text 34 w) + 1 ≡ length (34 ∷ (units_text 34 w ++ 34 ∷ [])) - 1 = omega (arith, length-append (units_text 34 w) (34 ∷ [])) in
    ap (λ (x : Text). code.string quote.Double ((x ++ 34 ∷ []) ++ 32 ∷ z)) (sym same)
    ∙ string_only true cs (32 ∷ z) (stand quote.Double w (34 ∷ 32 ∷ z) (inl refl))
    ∙ ap (λ (v : List ℕ). front.Token (tok.Text v) (length (characters_units cs) + 1)) (meant quote.Double w (inl refl))
    ∙ ap (λ (x : Text). front.Token (tok.Text w) (length x + 1)) same
    ∙ ap (front.Token (tok.Text w)) size

-- ---- parts of templates

part_read : (b : Bool) (e : Ending) (w : List ℕ) (z : Text) → code.template b ((units_text 96 w ++ ending_text quote.Template e) ++ 32 ∷ z) ≡ front.Token (tok.Template (part_of b e) w) (length (part_begin b ∷ (units_text 96 w ++ ending_text quote.Template e)) - 1)
part_read b e w z =
    let cs = characters 96 w in
    let same = written 96 w in
    let size : length (units_text 96 w) + ending_units e ≡ length (part_begin b ∷ (units_text 96 w ++ ending_text quote.Template e)) - 1 = omega (arith, length-append (units_text 96 w) (ending_text quote.Template e), end_size quote.Template e (inr refl)) in
    ap (λ (x : Text). code.template b ((x ++ ending_text quote.Template e) ++ 32 ∷ z)) (sym same)
    ∙ part_only b cs e (32 ∷ z) (stand quote.Template w (ending_text quote.Template e ++ 32 ∷ z) (inr refl))
    ∙ ap (λ (v : List ℕ). front.Token (tok.Template (part_of b e) v) (length (characters_units cs) + ending_units e)) (meant quote.Template w (inr refl))
    ∙ ap (λ (x : Text). front.Token (tok.Template (part_of b e) w) (length x + ending_units e)) same
    ∙ ap (front.Token (tok.Template (part_of b e) w)) size

on_hole : (z : Text) (h : Bool) → h ≡ true → front_at h (125 ∷ z) ≡ code.template false z
on_hole z h e = ap (λ (x : Bool). front_at x (125 ∷ z)) e

pub part_front : (h : Bool) (x : TemplatePart) (w : List ℕ) (z : Text) → MayStand h (tok.Template x w) → front_at h ((spec.part_begin x ++ (units_text 96 w ++ spec.part_end x)) ++ 32 ∷ z) ≡ front.Token (tok.Template x w) (length (spec.part_begin x ++ (units_text 96 w ++ spec.part_end x)) - 1)
part_front h part.Whole w z s = part_read true ending.Closed w z
part_front h part.Head w z s = part_read true ending.Hole w z
part_front h part.Middle w z s = on_hole ((units_text 96 w ++ spec.part_end part.Middle) ++ 32 ∷ z) h s ∙ part_read false ending.Hole w z
part_front h part.Tail w z s = on_hole ((units_text 96 w ++ spec.part_end part.Tail) ++ 32 ∷ z) h s ∙ part_read false ending.Closed w z
