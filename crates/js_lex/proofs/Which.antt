-- Which element can stand at the front, by the first units.
use Rattle.std.proofs.Common.{◌≡◌, ℕ, Bool, true, false, cond, [], ◌∷◌, ◌++◌, drop, Option, Some, None, refl, ◌∙◌, ap, ◌⊎◌, inl, inr}
use Rattle.std.specs.Prelude.{not, ◌&&◌, ◌||◌, ◌==◌, slice_index}
use Rattle.std.proofs.lemmas.Bool.{eqb-true}
use Rattle.js_lex.specs.declared.token.Punctuator.{Punctuator}
use Rattle.js_lex.specs.declared.letters.Quote.TheVariants as quote
use Rattle.js_lex.specs.declared.front.Front.{Front}
use Rattle.js_lex.specs.Tables.{punctuators}
use Rattle.js_lex.specs.Units.{Text, is_line_end, is_white, is_digit, is_name}
use Rattle.js_lex.specs.Front as code
use Rattle.js_lex.specs.declared.front.Front.TheVariants as front
use Rattle.js_lex.specs.Lists.{In}
use Rattle.js_lex.specs.Numbers.{Digits, IsInteger, Number, Decimal, Based, Point, Big, number_units, exponent_units, IsNumber}
use Rattle.js_lex.specs.Characters.{characters_units, ending_text, mark}
use Rattle.js_lex.specs.Elements.{Element, White, LineEnd, LineComment, BlockComment, Word, Numeric, String, Part, Sign, units, string_quote, part_begin, Stands, MayFollow}
use Rattle.js_lex.proofs.Truths.{cond_yes, cond_no, cond_ap, or_first, or_second, and_first, and_second, and_no_first, not_yes, apart, name_no_white, name_no_line_end, white_no_line_end, digit_name, all_of, in_all}

pub data Which : Type 0 where
  AtLineEnd : Which
  AtWhite : Which
  AtString : Bool → Which
  AtPart : Bool → Which
  AtNumber : Which
  AtName : Which
  AtPoint : Which
  AtSlash : Which
  AtSign : Which

abbrev pub which_sign : ℕ → Text → Which
which_sign u z = cond (u == 46 && is_digit (slice_index z 0)) AtPoint (cond (u == 47) AtSlash AtSign)

abbrev pub which_plain : ℕ → Text → Which
which_plain u z = cond (is_digit u) AtNumber (cond (is_name u) AtName (which_sign u z))

abbrev pub which : Bool → ℕ → Text → Which
which h u z =
    cond (is_line_end u) AtLineEnd
    (cond (is_white u) AtWhite (cond (u == 34) (AtString true) (cond (u == 39) (AtString false) (cond (u == 96) (AtPart true) (cond (u == 125 && h) (AtPart false) (which_plain u z))))))

abbrev pub front_by : Which → ℕ → Text → Front
front_by AtLineEnd u z = front.Gap 0 true
front_by AtWhite u z = front.Gap 0 false
front_by (AtString true) u z = code.string quote.Double z
front_by (AtString false) u z = code.string quote.Single z
front_by (AtPart b) u z = code.template b z
front_by AtNumber u z = code.number u z
front_by AtName u z = code.name u z
front_by AtPoint u z = code.point z
front_by AtSlash u z = code.slash z
front_by AtSign u z = code.punctuator u z

cond_on : {A : Type 0} (r : Bool) (x y z : A) → y ≡ z → cond r x y ≡ cond r x z
cond_on r x y z e = ap (λ w. cond r x w) e

by : ℕ → Text → Which → Front
by u z w = front_by w u z

abbrev goes : (u : ℕ) (z : Text) (r : Bool) (a b : Which) (f : Front) → front_by b u z ≡ f → front_by (cond r a b) u z ≡ cond r (front_by a u z) f
goes u z r a b f e = cond_ap (λ (w : Which). front_by w u z) r a b ∙ cond_on r (front_by a u z) (front_by b u z) f e

pub front_which : (h : Bool) (u : ℕ) (z : Text) → front_by (which h u z) u z ≡ code.front_of h u z
front_which h u z =
    goes u z (is_line_end u) _ _ _ (goes u z (is_white u) _ _ _ (goes u z (u == 34) _ _ _ (goes u z (u == 39) _ _ _ (goes u z (u == 96) _ _ _ (goes u z (u == 125 && h) _ _ _
    (goes u z (is_digit u) _ _ _ (goes u z (is_name u) _ _ _ (goes u z (u == 46 && is_digit (slice_index z 0)) _ _ _ (goes u z (u == 47) _ _ _ refl)))))))))

-- ---- the elements

abbrev pub which_number : Number → Which
which_number (Point fs e) = AtPoint
which_number _ = AtNumber

abbrev pub which_word : Text → Text → Which
which_word w z = which_sign (slice_index w 0) (drop 1 (w ++ z))

abbrev pub sort : Element → Text → Which
sort (White u) z = AtWhite
sort (LineEnd u) z = AtLineEnd
sort (LineComment w) z = AtSlash
sort (BlockComment w) z = AtSlash
sort (Word u w) z = AtName
sort (Numeric n) z = which_number n
sort (String d cs) z = AtString d
sort (Part b cs e) z = AtPart b
sort (Sign w p) z = which_word w z

abbrev pub which_of : Bool → Text → Option Which
which_of h [] = None
which_of h (u ∷ z) = Some (which h u z)

-- no mark of a literal, no white space and no line end
none_before : (h : Bool) (u : ℕ) (z : Text) → is_line_end u ≡ false → is_white u ≡ false → (u == 34) ≡ false → (u == 39) ≡ false → (u == 96) ≡ false → (u == 125 && h) ≡ false → which h u z ≡ which_plain u z
none_before h u z a b c d e f = cond_no _ _ _ a ∙ cond_no _ _ _ b ∙ cond_no _ _ _ c ∙ cond_no _ _ _ d ∙ cond_no _ _ _ e ∙ cond_no _ _ _ f

at_name : (h : Bool) (u : ℕ) (z : Text) → is_name u ≡ true → which h u z ≡ which_plain u z
at_name h u z k =
    none_before h u z (name_no_line_end u k) (name_no_white u k) (apart is_name u 34 k refl) (apart is_name u 39 k refl) (apart is_name u 96 k refl) (and_no_first (u == 125) h (apart is_name u 125 k refl))

at_word : (h : Bool) (u : ℕ) (z : Text) → is_digit u ≡ false → is_name u ≡ true → which h u z ≡ AtName
at_word h u z d k = at_name h u z k ∙ cond_no _ _ _ d ∙ cond_yes _ _ _ k

at_digit : (h : Bool) (u : ℕ) (z : Text) → is_digit u ≡ true → which h u z ≡ AtNumber
at_digit h u z k = at_name h u z (digit_name u k) ∙ cond_yes _ _ _ k

at_integer_with : (h : Bool) (ds x z : Text) → IsInteger ds → which_of h ((ds ++ x) ++ z) ≡ Some AtNumber
at_integer_with h [] x z i = absurd i
at_integer_with h (d ∷ ds) x z i = ap Some (at_digit h d ((ds ++ x) ++ z) i.0)

at_point : (h : Bool) (fs x z : Text) → Digits is_digit true fs → which_of h (46 ∷ ((fs ++ x) ++ z)) ≡ Some AtPoint
at_point h [] x z i = cc
at_point h (d ∷ fs) x z (inl i) = ap Some (cond_yes (is_digit d) _ _ i.0)
at_point h (d ∷ fs) x z (inr i) = cc

-- ---- the table of punctuators

abbrev fine_first : ℕ → Bool
fine_first u = (is_line_end u || is_white u) || ((u == 34 || (u == 39 || u == 96)) || (is_digit u || is_name u))

abbrev no_more : Text → Bool
no_more [] = true
no_more (u ∷ z) = false

abbrev fine : Text → Bool
fine [] = false
fine (u ∷ z) = not (fine_first u) && (not (u == 125) || no_more z)

all_fine : all_of (λ (r : Text × Punctuator). fine r.0) punctuators ≡ true
all_fine = refl

only_brace : (h : Bool) (u : ℕ) (w : Text) (r : Bool) → (u == 125) ≡ r → (not r || no_more w) ≡ true → (u ∷ w ≡ 125 ∷ [] → h ≡ false) → (r && h) ≡ false
only_brace h u [] true e k f = f (ap (λ (n : ℕ). n ∷ []) (eqb-true u 125 e))
only_brace h u (v ∷ w) true e k f = cc
only_brace h u w false e k f = refl

at_fine : (h : Bool) (w z : Text) → fine w ≡ true → (w ≡ 125 ∷ [] → h ≡ false) → which_of h (w ++ z) ≡ Some (which_word w z)
at_fine h [] z k f = cc
at_fine h (u ∷ w) z k f =
    let g : fine_first u ≡ false = not_yes (fine_first u) (and_first (not (fine_first u)) (not (u == 125) || no_more w) k) in
    let a = or_first (is_line_end u || is_white u) ((u == 34 || (u == 39 || u == 96)) || (is_digit u || is_name u)) g in
    let b = or_second (is_line_end u || is_white u) ((u == 34 || (u == 39 || u == 96)) || (is_digit u || is_name u)) g in
    let c = or_first (u == 34 || (u == 39 || u == 96)) (is_digit u || is_name u) b in
    let d = or_second (u == 34 || (u == 39 || u == 96)) (is_digit u || is_name u) b in
    let e = or_second (u == 34) (u == 39 || u == 96) c in
    let o = only_brace h u w (u == 125) refl (and_second (not (fine_first u)) (not (u == 125) || no_more w) k) f in
    ap Some
    (none_before h u (w ++ z) (or_first (is_line_end u) (is_white u) a) (or_second (is_line_end u) (is_white u) a) (or_first (u == 34) (u == 39 || u == 96) c) (or_first (u == 39) (u == 96) e) (or_second (u == 39) (u == 96) e) o
    ∙ cond_no _ _ _ (or_first (is_digit u) (is_name u) d) ∙ cond_no _ _ _ (or_second (is_digit u) (is_name u) d))

at_sign : (h : Bool) (w : Text) (p : Punctuator) (z : Text) → In (w, p) punctuators → MayFollow h w z → which_of h (w ++ z) ≡ Some (which_word w z)
at_sign h w p z i m = at_fine h w z (in_all (λ (r : Text × Punctuator). fine r.0) (w, p) punctuators i all_fine) m.2

at_part : (h b : Bool) (z : Text) → (b ≡ true) ⊎ (h ≡ true) → which h (part_begin b) z ≡ AtPart b
at_part h true z i = refl
at_part true false z i = refl
at_part false false z (inl e) = cc
at_part false false z (inr e) = cc

at_string : (h d : Bool) (z : Text) → which h (mark (string_quote d)) z ≡ AtString d
at_string h true z = refl
at_string h false z = refl

at_numeral : (h : Bool) (n : Number) (z : Text) → IsNumber n → which_of h (number_units n ++ z) ≡ Some (which_number n)
at_numeral h (Decimal ds f e) z i = at_integer_with h ds _ z i.0
at_numeral h (Point fs e) z i = at_point h fs (exponent_units e) z i.0
at_numeral h (Big ds) z i = at_integer_with h ds _ z i
at_numeral h (Based r m ds b) z i = refl

pub sorted : (h : Bool) (f : Element) (z : Text) → Stands h f z → which_of h (units f ++ z) ≡ Some (sort f z)
sorted h (White u) z s = ap Some (cond_no _ _ _ (white_no_line_end u s) ∙ cond_yes _ _ _ s)
sorted h (LineEnd u) z s = ap Some (cond_yes _ _ _ s)
sorted h (LineComment w) z s = refl
sorted h (BlockComment w) z s = refl
sorted h (Word u w) z s = ap Some (at_word h u (w ++ z) s.0 s.1.0)
sorted h (Numeric n) z s = at_numeral h n z s
sorted h (String d cs) z s = ap Some (at_string h d ((characters_units cs ++ mark (string_quote d) ∷ []) ++ z))
sorted h (Part b cs e) z s = ap Some (at_part h b ((characters_units cs ++ ending_text quote.Template e) ++ z) s.0)
sorted h (Sign w p) z s = at_sign h w p z s.0 s.1
