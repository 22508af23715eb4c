-- The longest element at the front of a text.
use Rattle.std.proofs.Common.{◌≡◌, ℕ, ◌-◌, ◌≤◌, Bool, true, false, cond, ◌∷◌, ◌++◌, drop, length, Some, refl, sym, ◌∙◌, ap, arith, ◌⊎◌}
use Rattle.std.specs.Prelude.{slice_index}
use Rattle.js_lex.specs.declared.front.Front.{Front}
use Rattle.js_lex.specs.declared.front.Front.TheVariants as front
use Rattle.js_lex.specs.declared.front.Unread.TheVariants as bad
use Rattle.js_lex.specs.Units.{Text, is_line_end, is_white}
use Rattle.js_lex.specs.Numbers.{Number, Decimal, Based, Point, Big}
use Rattle.js_lex.specs.Elements.{Element, White, LineEnd, LineComment, BlockComment, Word, Numeric, String, Part, Sign, units, Stands, Begins, BeginsNone}
use Rattle.js_lex.specs.Grammar.{Reading, Gap, Token, Refused, Reads}
use Rattle.js_lex.proofs.Truths.{cond_yes, cond_no}
use Rattle.js_lex.proofs.Which.{Which, AtLineEnd, AtWhite, AtNumber, AtPoint, AtSlash, AtSign, which, which_of, which_sign, which_number, which_word, sort, sorted}

-- no element at the front has more units
abbrev pub AtMost : Bool → Text → ℕ → Type 0
AtMost h t n = (f : Element) (more : Text) → Stands h f more → units f ++ more ≡ t → length (units f) ≤ n

-- the front that the code tells of an element of n units
abbrev pub front_for : Reading → ℕ → Front
front_for (Gap b) n = front.Gap (n - 1) b
front_for (Token k) n = front.Token k (n - 1)
front_for (Refused why) n = front.Bad why

pub record Found (h : Bool) (t : Text) (f : Front) : Type 0 where
  pub element : Element
  pub rest : Text
  pub reading : Reading
  pub begins : Begins h t element rest
  pub reads : Reads element rest reading
  pub is : f ≡ front_for reading (length (units element))

abbrev pub FrontIs : Bool → Text → Front → Type 0
FrontIs h t f = Found h t f ⊎ (BeginsNone h t × (f ≡ front.Bad bad.Syntax))

pub sort_of : (h : Bool) (f : Element) (more : Text) (u : ℕ) (z : Text) → Stands h f more → units f ++ more ≡ u ∷ z → sort f more ≡ which h u z
sort_of h f more u z s k = let e : Some (sort f more) ≡ Some (which h u z) = sym (sorted h f more s) ∙ ap (which_of h) k in cc

cond_case : (P : Which → Type 0) (r : Bool) (x y : Which) → P x → P y → P (cond r x y)
cond_case P true x y a b = a
cond_case P false x y a b = b

pub sign_sort : (P : Which → Type 0) → P AtPoint → P AtSlash → P AtSign → (u : ℕ) (z : Text) → P (which_sign u z)
sign_sort P a b c u z = cond_case P _ _ _ a (cond_case P _ _ _ b c)

pub number_sort : (P : Which → Type 0) → P AtNumber → P AtPoint → (n : Number) → P (which_number n)
number_sort P a b (Decimal ds f e) = a
number_sort P a b (Point fs e) = b
number_sort P a b (Big ds) = a
number_sort P a b (Based r m ds x) = a

pub word_sort : (P : Which → Type 0) → P AtPoint → P AtSlash → P AtSign → (w z : Text) → P (which_word w z)
word_sort P a b c w z = sign_sort P a b c (slice_index w 0) (drop 1 (w ++ z))

-- a test that did not choose
pub skip : (r : Bool) (x y k : Which) → (x ≡ k → ⊥) → cond r x y ≡ k → (r ≡ false) × (y ≡ k)
skip true x y k f e = absurd (f e)
skip false x y k f e = (refl, e)

-- the test that chose
pub chosen : (r : Bool) (x y k : Which) → (y ≡ k → ⊥) → cond r x y ≡ k → r ≡ true
chosen true x y k f e = refl
chosen false x y k f e = absurd (f e)

-- ---- white space and line ends

white_one : (f : Element) (more : Text) → sort f more ≡ AtWhite → length (units f) ≤ 1
white_one (White u) more e = omega arith
white_one (Numeric n) more e = absurd (number_sort (λ (x : Which). x ≡ AtWhite → ⊥) (λ e. cc) (λ e. cc) n e)
white_one (Sign w p) more e = absurd (word_sort (λ (x : Which). x ≡ AtWhite → ⊥) (λ e. cc) (λ e. cc) (λ e. cc) w more e)
white_one (LineEnd u) more e = cc
white_one (LineComment w) more e = cc
white_one (BlockComment w) more e = cc
white_one (Word u w) more e = cc
white_one (String d cs) more e = cc
white_one (Part b cs x) more e = cc

line_end_one : (f : Element) (more : Text) → sort f more ≡ AtLineEnd → length (units f) ≤ 1
line_end_one (LineEnd u) more e = omega arith
line_end_one (Numeric n) more e = absurd (number_sort (λ (x : Which). x ≡ AtLineEnd → ⊥) (λ e. cc) (λ e. cc) n e)
line_end_one (Sign w p) more e = absurd (word_sort (λ (x : Which). x ≡ AtLineEnd → ⊥) (λ e. cc) (λ e. cc) (λ e. cc) w more e)
line_end_one (White u) more e = cc
line_end_one (LineComment w) more e = cc
line_end_one (BlockComment w) more e = cc
line_end_one (Word u w) more e = cc
line_end_one (String d cs) more e = cc
line_end_one (Part b cs x) more e = cc

not_line_end_white : (h : Bool) (u : ℕ) (z : Text) → which h u z ≡ AtWhite → is_white u ≡ true → Found h (u ∷ z) (front.Gap 0 false)
not_line_end_white h u z k w =
    record {
      element = White u;
      rest = z;
      reading = Gap false;
      begins = record { is_text = refl; stands = w; longest = λ f more s e. white_one f more (sort_of h f more u z s e ∙ k) };
      reads = refl;
      is = refl;
    }

pub found_white : (h : Bool) (u : ℕ) (z : Text) → is_line_end u ≡ false → is_white u ≡ true → Found h (u ∷ z) (front.Gap 0 false)
found_white h u z n w = not_line_end_white h u z (cond_no _ _ _ n ∙ cond_yes _ _ _ w) w

pub found_line_end : (h : Bool) (u : ℕ) (z : Text) → is_line_end u ≡ true → Found h (u ∷ z) (front.Gap 0 true)
found_line_end h u z w =
    record {
      element = LineEnd u;
      rest = z;
      reading = Gap true;
      begins = record { is_text = refl; stands = w; longest = λ f more s e. line_end_one f more (sort_of h f more u z s e ∙ cond_yes _ _ _ w) };
      reads = refl;
      is = refl;
    }
