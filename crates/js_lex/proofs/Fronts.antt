-- What the code tells of the front of a text is what the grammar says, and nothing else.
use Rattle.std.proofs.Common.{◌≡◌, ℕ, suc, ◌+◌, ◌≤◌, ◌-◌, ◌≤◌, Bool, true, false, cond, [], ◌∷◌, ◌++◌, take, length, Option, Some, None, refl, sym, ◌∙◌, ap, subst, arith, ◌⊎◌, inl, inr}
use Rattle.std.specs.Prelude.{◌==◌, ◌&&◌, ◌||◌, not, slice_index}
use Rattle.std.proofs.lemmas.Bool.{eqb-true, eq-eqb}
use Rattle.std.proofs.lemmas.List.{length-append}
use Rattle.js_lex.specs.declared.token.TokenKind.TheVariants as tok
use Rattle.js_lex.specs.declared.token.Punctuator.{Punctuator}
use Rattle.js_lex.specs.declared.letters.Quote.TheVariants as quote
use Rattle.js_lex.specs.declared.front.Front.{Front}
use Rattle.js_lex.specs.declared.front.Front.TheVariants as front
use Rattle.js_lex.specs.declared.front.Unread.TheVariants as bad
use Rattle.js_lex.specs.Tables.{punctuators}
use Rattle.js_lex.specs.Units.{Text, is_line_end, is_white, is_digit, is_name}
use Rattle.js_lex.specs.Letters.{ending_units}
use Rattle.js_lex.specs.Values.{part_of}
use Rattle.js_lex.specs.Front as code
use Rattle.js_lex.specs.Lists.{In, some}
use Rattle.js_lex.specs.Numbers.{Digits, Number, Decimal, Point, Big, Based, number_units, IsNumber, IsInteger, number_value}
use Rattle.js_lex.specs.Characters.{characters_units, characters_value, mark, ending_text}
use Rattle.js_lex.specs.Elements.{string_quote, part_begin, Element, White, LineEnd, LineComment, BlockComment, Word, Numeric, String, Part, Sign, units, Stands, IsLongest, Begins}
use Rattle.js_lex.specs.Grammar.{ReadsValue, Reading, Token, ReadsNumber, Reads, IsPiece}
use Rattle.js_lex.proofs.Truths.{cond_yes, cond_no, and_first, and_second, not_yes, in_all}
use Rattle.js_lex.proofs.Which.{Which, AtLineEnd, AtWhite, AtString, AtPart, AtNumber, AtName, AtPoint, AtSlash, AtSign, which, which_of, which_word, which_number, front_by, front_which, sort, sorted}
use Rattle.js_lex.proofs.Runs.{take_here}
use Rattle.js_lex.proofs.Longest.{FrontIs, front_for, sort_of, word_sort, number_sort, found_white, found_line_end}
use Rattle.js_lex.proofs.Words.{found_word, word_only}
use Rattle.js_lex.proofs.Signs.{no_truth, no_point, no_points, Row, IsSign, Fine, found_sign, same_sign}
use Rattle.js_lex.proofs.Separated.{first_digit}
use Rattle.js_lex.proofs.Points.{found_point}
use Rattle.js_lex.proofs.Numbers.{found_digits}
use Rattle.js_lex.proofs.NumberValues.{same_value}
use Rattle.js_lex.proofs.Literals.{found_string, string_only, found_part, part_only, end_size}
use Rattle.js_lex.proofs.Comments.{slash_one, found_slash, line_only, block_only}

abbrev pub front_at : Bool → Text → Front
front_at h [] = front.Bad bad.Syntax
front_at h (u ∷ z) = code.front_of h u z

by_cond : {A : Type 0} (P : A → Type 0) (r : Bool) (x y : A) → (r ≡ true → P x) → (r ≡ false → P y) → P (cond r x y)
by_cond P true x y f g = f refl
by_cond P false x y f g = g refl

sign_at : (f : Element) (more : Text) → sort f more ≡ AtSign → IsSign f
sign_at (Sign w y) more e = record { word = w; sign = y; same = refl }
sign_at (White v) more e = cc
sign_at (LineEnd v) more e = cc
sign_at (LineComment w) more e = cc
sign_at (BlockComment w) more e = cc
sign_at (Word v w) more e = cc
sign_at (Numeric n) more e = absurd (number_sort (λ (k : Which). k ≡ AtSign → ⊥) (λ e. cc) (λ e. cc) n e)
sign_at (String d_ cs) more e = cc
sign_at (Part b_ cs x) more e = cc

fine_sign : (h : Bool) (u : ℕ) (z : Text) → (u == 47) ≡ false → (u == 125 && h) ≡ false → Fine h u z
fine_sign h u z a b =
    record {
      slash = λ e. absurd (no_truth (sym (eq-eqb u 47 e) ∙ a));
      brace = λ e. sym (ap (λ (r : Bool). r && h) (eq-eqb u 125 e)) ∙ b;
    }

at_point_ : (h : Bool) (u : ℕ) (z : Text) → u ≡ 46 → is_digit (slice_index z 0) ≡ true → which h u z ≡ AtPoint → FrontIs h (u ∷ z) (code.point z)
at_point_ h u z e d k = subst (λ (v : ℕ). FrontIs h (v ∷ z) (code.point z)) (sym e) (found_point h z (subst (λ (v : ℕ). which h v z ≡ AtPoint) e k) d)

pub front_sound : (h : Bool) (u : ℕ) (z : Text) → FrontIs h (u ∷ z) (code.front_of h u z)
front_sound h u z =
    by_cond (FrontIs h (u ∷ z)) (is_line_end u) _ _ (λ y. inl (found_line_end h u z y)) (λ a.
    by_cond (FrontIs h (u ∷ z)) (is_white u) _ _ (λ y. inl (found_white h u z a y)) (λ b.
    by_cond (FrontIs h (u ∷ z)) (u == 34) _ _ (λ y. found_string h true u z (cond_no _ _ _ a ∙ cond_no _ _ _ b ∙ cond_yes _ _ _ y) (eqb-true u 34 y)) (λ c.
    by_cond (FrontIs h (u ∷ z)) (u == 39) _ _ (λ y. found_string h false u z (cond_no _ _ _ a ∙ cond_no _ _ _ b ∙ cond_no _ _ _ c ∙ cond_yes _ _ _ y) (eqb-true u 39 y)) (λ d.
    by_cond (FrontIs h (u ∷ z)) (u == 96) _ _ (λ y. found_part h true u z (cond_no _ _ _ a ∙ cond_no _ _ _ b ∙ cond_no _ _ _ c ∙ cond_no _ _ _ d ∙ cond_yes _ _ _ y) (eqb-true u 96 y) (inl refl)) (λ e.
    by_cond (FrontIs h (u ∷ z)) (u == 125 && h) _ _ (λ y. found_part h false u z (cond_no _ _ _ a ∙ cond_no _ _ _ b ∙ cond_no _ _ _ c ∙ cond_no _ _ _ d ∙ cond_no _ _ _ e ∙ cond_yes _ _ _ y) (eqb-true u 125 (and_first (u == 125) h y)) (inr (and_second (u == 125) h y))) (λ f.
    by_cond (FrontIs h (u ∷ z)) (is_digit u) _ _ (λ y. found_digits h u z (cond_no _ _ _ a ∙ cond_no _ _ _ b ∙ cond_no _ _ _ c ∙ cond_no _ _ _ d ∙ cond_no _ _ _ e ∙ cond_no _ _ _ f ∙ cond_yes _ _ _ y) y) (λ g.
    by_cond (FrontIs h (u ∷ z)) (is_name u) _ _ (λ y. inl (found_word h u z (cond_no _ _ _ a ∙ cond_no _ _ _ b ∙ cond_no _ _ _ c ∙ cond_no _ _ _ d ∙ cond_no _ _ _ e ∙ cond_no _ _ _ f ∙ cond_no _ _ _ g ∙ cond_yes _ _ _ y))) (λ i.
    by_cond (FrontIs h (u ∷ z)) (u == 46 && is_digit (slice_index z 0)) _ _ (λ y. at_point_ h u z (eqb-true u 46 (and_first (u == 46) (is_digit (slice_index z 0)) y)) (and_second (u == 46) (is_digit (slice_index z 0)) y) (cond_no _ _ _ a ∙ cond_no _ _ _ b ∙ cond_no _ _ _ c ∙ cond_no _ _ _ d ∙ cond_no _ _ _ e ∙ cond_no _ _ _ f ∙ cond_no _ _ _ g ∙ cond_no _ _ _ i ∙ cond_yes _ _ _ y)) (λ j.
    by_cond (FrontIs h (u ∷ z)) (u == 47) _ _ (λ y. subst (λ (v : ℕ). FrontIs h (v ∷ z) (code.slash z)) (sym (eqb-true u 47 y)) (found_slash h z)) (λ k.
    found_sign h u z (fine_sign h u z k f) (λ x more s t. sign_at x more (sort_of h x more u z s t ∙ (cond_no _ _ _ a ∙ cond_no _ _ _ b ∙ cond_no _ _ _ c ∙ cond_no _ _ _ d ∙ cond_no _ _ _ e ∙ cond_no _ _ _ f ∙ cond_no _ _ _ g ∙ cond_no _ _ _ i ∙ cond_no _ _ _ j ∙ cond_no _ _ _ k)))))))))))))

-- ---- one longest element

same_front : (a b x y : Text) → a ++ x ≡ b ++ y → length a ≡ length b → a ≡ b
same_front a b x y e l = sym (take_here a x) ∙ ap (λ (n : ℕ). take n (a ++ x)) l ∙ ap (take (length b)) e ∙ take_here b y

pub same_units : (h : Bool) (t : Text) (d e : Element) (x y : Text) → Stands h d x → IsLongest h d x → t ≡ units d ++ x → Begins h t e y → units e ≡ units d
same_units h t d e x y s l p b =
    let k : units e ++ y ≡ units d ++ x = sym b.is_text ∙ p in
    let m = l e y b.stands k in
    let n = b.longest d x s (sym k) in
    same_front (units e) (units d) y x k (omega (arith, m, n))

point_no_row : (w : Text) (p : Punctuator) (ds x : Text) → In (w, p) punctuators → Digits is_digit true ds → 46 ∷ (ds ++ x) ≡ w → ⊥
point_no_row w p [] x i j e = no_truth j
point_no_row w p (d ∷ ds) x i j e =
    let t : no_point (46 ∷ d ∷ (ds ++ x)) ≡ true = ap no_point e ∙ in_all (λ (r : Row). no_point r.0) (w, p) punctuators i no_points in
    no_truth (sym (first_digit is_digit d ds j).0 ∙ not_yes (is_digit d) t)

number_no_row : (w : Text) (p : Punctuator) (n : Number) → In (w, p) punctuators → IsNumber n → which_number n ≡ AtPoint → number_units n ≡ w → ⊥
number_no_row w p (Point fs x) i s k e = point_no_row w p fs _ i s.0 e
number_no_row w p (Decimal ds f x) i s k e = cc
number_no_row w p (Big ds) i s k e = cc
number_no_row w p (Based r m ds b) i s k e = cc

append_nothing : (w : Text) → w ++ [] ≡ w
append_nothing [] = refl
append_nothing (u ∷ w) = ap (λ (x : Text). u ∷ x) (append_nothing w)

row_short : (w v : Text) (p : Punctuator) (c : ℕ) → In (w, p) punctuators → 47 ∷ c ∷ v ≡ w → (c == 47 || c == 42) ≡ true → ⊥
row_short w v p c i e k =
    let x = slash_one w p [] v c i (append_nothing w ∙ sym e) k in
    let y = ap length e in
    omega (arith, x, y)

abbrev Three : Which → Type 0
Three k = (k ≡ AtPoint) ⊎ (k ≡ AtSlash) ⊎ (k ≡ AtSign)

three : (w z : Text) → Three (which_word w z)
three w z = word_sort Three (inl refl) (inr (inl refl)) (inr (inr refl)) w z

sign_point : (h : Bool) (f : Element) (z w : Text) (p : Punctuator) → Stands h f z → In (w, p) punctuators → units f ≡ w → sort f z ≡ AtPoint → IsSign f
sign_point h (Sign w y) more x p s i k e = record { word = w; sign = y; same = refl }
sign_point h (Numeric n) more x p s i k e = absurd (number_no_row x p n i s e k)
sign_point h (White v) more x_ p s i k e = cc
sign_point h (LineEnd v) more x_ p s i k e = cc
sign_point h (LineComment w) more x_ p s i k e = cc
sign_point h (BlockComment w) more x_ p s i k e = cc
sign_point h (Word v w) more x_ p s i k e = cc
sign_point h (String d_ cs) more x_ p s i k e = cc
sign_point h (Part b_ cs x) more x_ p s i k e = cc

sign_slash : (h : Bool) (f : Element) (z w : Text) (p : Punctuator) → Stands h f z → In (w, p) punctuators → units f ≡ w → sort f z ≡ AtSlash → IsSign f
sign_slash h (Sign w y) more x p s i k e = record { word = w; sign = y; same = refl }
sign_slash h (LineComment w) more x p s i k e = absurd (row_short x w p 47 i k refl)
sign_slash h (BlockComment w) more x p s i k e = absurd (row_short x (w ++ 42 ∷ 47 ∷ []) p 42 i k refl)
sign_slash h (White v) more x_ p s i k e = cc
sign_slash h (LineEnd v) more x_ p s i k e = cc
sign_slash h (Word v w) more x_ p s i k e = cc
sign_slash h (Numeric n) more x_ p s i k e = absurd (number_sort (λ (k : Which). k ≡ AtSlash → ⊥) (λ e. cc) (λ e. cc) n e)
sign_slash h (String d_ cs) more x_ p s i k e = cc
sign_slash h (Part b_ cs x) more x_ p s i k e = cc

by_three : (h : Bool) (f : Element) (z w : Text) (p : Punctuator) → Stands h f z → In (w, p) punctuators → units f ≡ w → Three (sort f z) → IsSign f
by_three h f z w p s i k (inl e) = sign_point h f z w p s i k e
by_three h f z w p s i k (inr (inl e)) = sign_slash h f z w p s i k e
by_three h f z w p s i k (inr (inr e)) = sign_at f z e

row_is_sign : (h : Bool) (f : Element) (z w : Text) (p : Punctuator) → Stands h f z → Stands h (Sign w p) z → units f ≡ w → IsSign f
row_is_sign h f z w p s t k =
    let a : Some (sort f z) ≡ Some (which_word w z) = sym (sorted h f z s) ∙ ap (λ (x : Text). which_of h (x ++ z)) k ∙ sorted h (Sign w p) z t in
    let b : sort f z ≡ which_word w z = cc in
    by_three h f z w p s t.0 k (subst Three (sym b) (three w z))

same_rest : (a x y : Text) → a ++ x ≡ a ++ y → x ≡ y
same_rest [] x y e = e
same_rest (u ∷ a) x y e = (let k : a ++ x ≡ a ++ y = cc in same_rest a x y k)

by_sign_ : (P : Element → Type 0) (f : Element) → IsSign f → ((w : Text) (x : Punctuator) → P (Sign w x)) → P f
by_sign_ P f i g = subst P (sym i.same) (g i.word i.sign)

read_sign : (h : Bool) (w : Text) (p : Punctuator) (f : Element) (z : Text) (r : Reading) → IsSign f → Stands h f z → In (w, p) punctuators → units f ≡ w → Reads f z r → r ≡ Token (tok.Punctuator p)
read_sign h w p f z r i = by_sign_ (λ (y : Element). Stands h y z → In (w, p) punctuators → units y ≡ w → Reads y z r → r ≡ Token (tok.Punctuator p)) f i (λ v x s j k d. d ∙ ap (λ (y : Punctuator). Token (tok.Punctuator y)) (same_sign w x p (subst (λ (y : Text). In (y, x) punctuators) k s.0) j))

sign_found : (h : Bool) (w : Text) (p : Punctuator) (z : Text) (x : Front) → Stands h (Sign w p) z → IsLongest h (Sign w p) z → FrontIs h (w ++ z) x → x ≡ front_for (Token (tok.Punctuator p)) (length w)
sign_found h w p z x s l (inr n) = absurd (n.0 (Sign w p) z s refl)
sign_found h w p z x s l (inl f) =
    let same = same_units h (w ++ z) (Sign w p) f.element z f.rest s l refl f.begins in
    let rest : f.rest ≡ z = same_rest w f.rest z (ap (λ (y : Text). y ++ f.rest) (sym same) ∙ sym f.begins.is_text) in
    let stands : Stands h f.element z = subst (Stands h f.element) rest f.begins.stands in
    let is_sign = row_is_sign h f.element z w p stands s same in
    let r = read_sign h w p f.element z f.reading is_sign stands s.0 same (subst (λ (y : Text). Reads f.element y f.reading) rest f.reads) in
    f.is ∙ ap (λ (y : Reading). front_for y (length (units f.element))) r ∙ ap (λ (y : Text). front_for (Token (tok.Punctuator p)) (length y)) same

front_sort : (h : Bool) (u : ℕ) (z : Text) (k : Which) → which_of h (u ∷ z) ≡ Some k → code.front_of h u z ≡ front_by k u z
front_sort h u z k e = (let same : which h u z ≡ k = cc in sym (front_which h u z) ∙ ap (λ (w : Which). front_by w u z) same)

sign_only : (h : Bool) (w : Text) (p : Punctuator) (z : Text) → Stands h (Sign w p) z → IsLongest h (Sign w p) z → front_at h (w ++ z) ≡ front_for (Token (tok.Punctuator p)) (length w)
sign_only h [] p z s l = absurd (no_truth (sym (in_all (λ (r : Row). not (length r.0 == 0)) ([], p) punctuators s.0 refl)))
sign_only h (u ∷ w) p z s l = sign_found h (u ∷ w) p z (code.front_of h u (w ++ z)) s l (front_sound h u (w ++ z))

-- ---- numbers

integer_some : (ds x : Text) → IsInteger ds → 1 ≤ length (ds ++ x)
integer_some [] x h = absurd h
integer_some (d ∷ ds) x h = omega arith

pub number_some : (n : Number) → IsNumber n → 1 ≤ length (number_units n)
number_some (Decimal ds f e) h = integer_some ds _ h.0
number_some (Point fs e) h = omega arith
number_some (Big ds) h = integer_some ds _ h
number_some (Based r m ds b) h = omega arith

some_front : (v z : Text) → 1 ≤ length v → 1 ≤ length (v ++ z)
some_front [] z k = absurd (omega (arith, k))
some_front (u ∷ v) z k = omega arith

number_front : (n : Number) (z : Text) → IsNumber n → 1 ≤ length (number_units n ++ z)
number_front n z i = some_front (number_units n) z (number_some n i)

record IsNumeric (f : Element) : Type 0 where
  number : Number
  same : f ≡ Numeric number

numeric_at : (f : Element) (more : Text) → sort f more ≡ AtNumber → IsNumeric f
numeric_at (Numeric n) more e = record { number = n; same = refl }
numeric_at (Sign w p) more e = absurd (word_sort (λ (x : Which). x ≡ AtNumber → ⊥) (λ e. cc) (λ e. cc) (λ e. cc) w more e)
numeric_at (White v) more e = cc
numeric_at (LineEnd v) more e = cc
numeric_at (LineComment w) more e = cc
numeric_at (BlockComment w) more e = cc
numeric_at (Word v w) more e = cc
numeric_at (String d cs) more e = cc
numeric_at (Part c cs x) more e = cc

numeric_point : (h : Bool) (f : Element) (more : Text) (n : Number) → Stands h f more → IsNumber n → which_number n ≡ AtPoint → units f ≡ number_units n → sort f more ≡ AtPoint → IsNumeric f
numeric_point h (Numeric m) more n s i k t e = record { number = m; same = refl }
numeric_point h (Sign w p) more n s i k t e = absurd (number_no_row w p n s.0 i k (sym t))
numeric_point h (White v) more n s i k t e = cc
numeric_point h (LineEnd v) more n s i k t e = cc
numeric_point h (LineComment w) more n s i k t e = cc
numeric_point h (BlockComment w) more n s i k t e = cc
numeric_point h (Word v w) more n s i k t e = cc
numeric_point h (String d cs) more n s i k t e = cc
numeric_point h (Part c cs x) more n s i k t e = cc

numeric_by : (h : Bool) (f : Element) (more : Text) (n : Number) → Stands h f more → IsNumber n → units f ≡ number_units n → sort f more ≡ which_number n → IsNumeric f
numeric_by h f more (Point fs x) s i t e = numeric_point h f more (Point fs x) s i refl t e
numeric_by h f more (Decimal ds y x) s i t e = numeric_at f more e
numeric_by h f more (Big ds) s i t e = numeric_at f more e
numeric_by h f more (Based r m ds b) s i t e = numeric_at f more e

read_value : (o : Option ℕ) (r s : Reading) → ReadsValue o r → ReadsValue o s → r ≡ s
read_value None r s a b = a ∙ sym b
read_value (Some v) r s (inl a) (inl b) = a.1 ∙ sym b.1
read_value (Some v) r s (inl a) (inr b) = absurd (omega (arith, a.0, b.0))
read_value (Some v) r s (inr a) (inl b) = absurd (omega (arith, a.0, b.0))
read_value (Some v) r s (inr a) (inr b) = a.1 ∙ sym b.1

read_number : (n m : Number) (z : Text) (r s : Reading) → number_value n ≡ number_value m → ReadsNumber n z r → ReadsNumber m z s → r ≡ s
read_number n m z r s e (inl a) (inl b) = read_value (number_value m) r s (subst (λ (o : Option ℕ). ReadsValue o r) e a.1) b.1
read_number n m z r s e (inl a) (inr b) = absurd (b.0 a.0)
read_number n m z r s e (inr a) (inl b) = absurd (a.0 b.0)
read_number n m z r s e (inr a) (inr b) = a.1 ∙ sym b.1

by_numeric : (P : Element → Type 0) (f : Element) → IsNumeric f → ((n : Number) → P (Numeric n)) → P f
by_numeric P f i g = subst P (sym i.same) (g i.number)

read_numeric : (h : Bool) (n : Number) (f : Element) (z : Text) (r s : Reading) → IsNumeric f → Stands h f z → IsNumber n → units f ≡ number_units n → Reads f z s → ReadsNumber n z r → s ≡ r
read_numeric h n f z r s i =
    by_numeric (λ (y : Element). Stands h y z → IsNumber n → units y ≡ number_units n → Reads y z s → ReadsNumber n z r → s ≡ r) f i
    (λ m j k e a b. read_number m n z s r (same_value m n j k e) a b)

number_found : (h : Bool) (n : Number) (z : Text) (r : Reading) (x : Front) → IsNumber n → IsLongest h (Numeric n) z → ReadsNumber n z r → FrontIs h (number_units n ++ z) x → x ≡ front_for r (length (number_units n))
number_found h n z r x i l d (inr f) = absurd (f.0 (Numeric n) z i refl)
number_found h n z r x i l d (inl f) =
    let same = same_units h (number_units n ++ z) (Numeric n) f.element z f.rest i l refl f.begins in
    let rest : f.rest ≡ z = same_rest (number_units n) f.rest z (ap (λ (y : Text). y ++ f.rest) (sym same) ∙ sym f.begins.is_text) in
    let stands : Stands h f.element z = subst (Stands h f.element) rest f.begins.stands in
    let a : Some (sort f.element z) ≡ Some (which_number n) = sym (sorted h f.element z stands) ∙ ap (λ (y : Text). which_of h (y ++ z)) same ∙ sorted h (Numeric n) z i in
    let b : sort f.element z ≡ which_number n = cc in
    let numeric = numeric_by h f.element z n stands i same b in
    let read = read_numeric h n f.element z r f.reading numeric stands i same (subst (λ (y : Text). Reads f.element y f.reading) rest f.reads) d in
    f.is ∙ ap (λ (y : Reading). front_for y (length (units f.element))) read ∙ ap (λ (y : Text). front_for r (length y)) same

front_is : (h : Bool) (t : Text) → 1 ≤ length t → FrontIs h t (front_at h t)
front_is h [] k = absurd (omega (arith, k))
front_is h (u ∷ z) k = front_sound h u z

number_only : (h : Bool) (n : Number) (z : Text) (r : Reading) → IsNumber n → IsLongest h (Numeric n) z → ReadsNumber n z r → front_at h (number_units n ++ z) ≡ front_for r (length (number_units n))
number_only h n z r i l d = number_found h n z r (front_at h (number_units n ++ z)) i l d (front_is h (number_units n ++ z) (number_front n z i))

string_front : (d : Bool) (z : Text) → front_by (AtString d) (mark (string_quote d)) z ≡ code.string (string_quote d) z
string_front true z = refl
string_front false z = refl

less_one : (n : ℕ) → n ≡ suc n - 1
less_one n = omega arith

-- A piece is what the code tells.
pub front_only : (h : Bool) (e : Element) (z : Text) (r : Reading) → IsPiece h e z r → front_at h (units e ++ z) ≡ front_for r (length (units e))
front_only h (White u) z r p = front_sort h u z AtWhite (sorted h (White u) z p.0) ∙ ap (λ (x : Reading). front_for x 1) (sym p.2)
front_only h (LineEnd u) z r p = front_sort h u z AtLineEnd (sorted h (LineEnd u) z p.0) ∙ ap (λ (x : Reading). front_for x 1) (sym p.2)
front_only h (LineComment w) z r p = line_only h w z p.0 p.1 ∙ ap (λ (n : ℕ). front.Gap n false) (omega arith) ∙ ap (λ (x : Reading). front_for x (2 + length w)) (sym p.2) ∙ ap (front_for r) (omega arith)
front_only h (BlockComment w) z r p =
    let size : 2 + (length w + 2) ≡ length (units (BlockComment w)) = omega (arith, length-append w (42 ∷ 47 ∷ [])) in
    block_only w z p.0 ∙ ap (λ (n : ℕ). front.Gap n (some is_line_end w)) (omega arith) ∙ ap (λ (x : Reading). front_for x (2 + (length w + 2))) (sym p.2) ∙ ap (front_for r) size
front_only h (Word u w) z r p = front_sort h u (w ++ z) AtName (sorted h (Word u w) z p.0) ∙ word_only h u w z r p.0 p.1 p.2 ∙ ap (front_for r) (omega arith)
front_only h (Numeric n) z r p = number_only h n z r p.0 p.1 p.2
front_only h (String d cs) z r p =
    let q = string_quote d in
    let size : suc (length (characters_units cs) + 1) ≡ length (units (String d cs)) = omega (arith, length-append (characters_units cs) (mark (string_quote d) ∷ [])) in
    front_sort h (mark (string_quote d)) ((characters_units cs ++ mark (string_quote d) ∷ []) ++ z) (AtString d) (sorted h (String d cs) z p.0)
    ∙ string_front d ((characters_units cs ++ mark (string_quote d) ∷ []) ++ z) ∙ string_only d cs z p.0
    ∙ ap (front.Token (tok.Text (characters_value cs))) (less_one (length (characters_units cs) + 1)) ∙ ap (λ (x : Reading). front_for x (suc (length (characters_units cs) + 1))) (sym p.2) ∙ ap (front_for r) size
front_only h (Part b cs e) z r p =
    let size : suc (length (characters_units cs) + ending_units e) ≡ length (units (Part b cs e)) = omega (arith, length-append (characters_units cs) (ending_text quote.Template e), end_size quote.Template e (inr refl)) in
    front_sort h (part_begin b) ((characters_units cs ++ ending_text quote.Template e) ++ z) (AtPart b) (sorted h (Part b cs e) z p.0) ∙ part_only b cs e z p.0.1
    ∙ ap (front.Token (tok.Template (part_of b e) (characters_value cs))) (less_one (length (characters_units cs) + ending_units e)) ∙ ap (λ (x : Reading). front_for x (suc (length (characters_units cs) + ending_units e))) (sym p.2) ∙ ap (front_for r) size
front_only h (Sign w x) z r p = sign_only h w x z p.0 p.1 ∙ ap (λ (y : Reading). front_for y (length w)) (sym p.2)
