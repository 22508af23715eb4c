-- What of a token was read, and that each unit keeps it so.
use Rattle.std.proofs.Common.{◌≡◌, ℕ, ◌+◌, ◌^◌, ◌≤◌, ◌<◌, Bool, true, false, cond, List, [], ◌∷◌, ◌++◌, inl, inr, length, map, Option, Some, None, refl, sym, ◌∙◌, ap, subst, append_assoc, arith}
use Rattle.std.specs.Prelude.{not, ◌==◌, nat_lt, min, flat_map}
use Rattle.std.proofs.Math.Nat.{min-eq_left}
use Rattle.std.proofs.lemmas.Bool.{eqb-true, or_from, cond_both}
use Rattle.std.proofs.lemmas.List.{append-nil, map-append, length-append}
use Rattle.std.proofs.lemmas.Grind.{flat_map-append}
use Rattle.js_names.specs.Names.{is_one_of, refused_names}
use Rattle.js_json.specs.declared.machine.Word.{Word}
use Rattle.js_json.specs.declared.machine.Word.TheVariants as word
use Rattle.js_json.specs.declared.machine.Inner.{Inner}
use Rattle.js_json.specs.declared.machine.Inner.TheVariants as inner
use Rattle.js_json.specs.declared.machine.Digits.{Digits}
use Rattle.js_json.specs.declared.machine.Digits.TheVariants as digits
use Rattle.js_json.specs.declared.machine.NumberAt.{NumberAt}
use Rattle.js_json.specs.declared.machine.NumberAt.TheVariants as number
use Rattle.js_json.specs.declared.machine.Part.{Part}
use Rattle.js_json.specs.declared.machine.Part.TheVariants as part
use Rattle.js_json.specs.declared.machine.Taken.{Taken}
use Rattle.js_json.specs.declared.machine.Taken.TheVariants as taken
use Rattle.js_json.specs.Units.{is_digit, is_hex, is_escape, is_mark}
use Rattle.js_json.specs.Lists.{Every, Passes}
use Rattle.js_json.specs.Number.{Sign, Bare, Plus, Minus, IsWhole, minus_units, fraction_units, sign_units, exponent_units, decimal, is_down}
use Rattle.js_json.specs.Grammar.{Letter, Raw, Escape, Code, letter_units, letter_value, IsLetter, IsKey, IsWord, IsScalar}
use Rattle.js_json.specs.Machine.{next_of, word_on, in_word, name_with, closed, in_plain, in_escape, in_text, most, push, raised, is_safe, is_safe_with, is_whole, ended, behind_fraction, behind_whole, in_minus, in_whole, in_point, in_fraction, in_sign, in_mark, in_exponent, in_number, first_part, token, may_end, is_key}
use Rattle.js_json.proofs.Decimals.{Held, SafeAt, decimal_push, held_push, safe_found, raised_exact, capped}
use Rattle.js_json.proofs.Names.{clip, clip_with, allowed_found}

pub every_push : {A : Type 0} → (P : A → Type 0) (xs : List A) (x : A) → Every P xs → P x → Every P (xs ++ x ∷ [])
every_push P [] x e h = (h, tt)
every_push P (y ∷ ys) x e h = (e.0, every_push P ys x e.1 h)

-- ---- what was read

-- what is left of a word
abbrev pub left : Word → List ℕ
left word.Rue = 114 ∷ 117 ∷ 101 ∷ []
left word.Ue = 117 ∷ 101 ∷ []
left word.E = 101 ∷ []
left word.Alse = 97 ∷ 108 ∷ 115 ∷ 101 ∷ []
left word.Lse = 108 ∷ 115 ∷ 101 ∷ []
left word.Se = 115 ∷ 101 ∷ []
left word.Ull = 117 ∷ 108 ∷ 108 ∷ []
left word.Ll = 108 ∷ 108 ∷ []
left word.L = 108 ∷ []

-- what of a letter was read
abbrev pub inner_units : Inner → List ℕ
inner_units inner.Plain = []
inner_units inner.Escape = 92 ∷ []
inner_units inner.Code0 = 92 ∷ 117 ∷ []
inner_units (inner.Code1 a) = 92 ∷ 117 ∷ a ∷ []
inner_units (inner.Code2 a b) = 92 ∷ 117 ∷ a ∷ b ∷ []
inner_units (inner.Code3 a b c) = 92 ∷ 117 ∷ a ∷ b ∷ c ∷ []

abbrev pub IsInner : Inner → Type 0
IsInner (inner.Code1 a) = is_hex a ≡ true
IsInner (inner.Code2 a b) = (is_hex a ≡ true) × (is_hex b ≡ true)
IsInner (inner.Code3 a b c) = (is_hex a ≡ true) × (is_hex b ≡ true) × (is_hex c ≡ true)
IsInner _ = Unit {0}

pub record TextRead (name : List ℕ) (i : Inner) (w : List ℕ) : Type 0 where
  pub letters : List Letter
  pub are : Every IsLetter letters
  pub is_name : name ≡ clip (map letter_value letters)
  pub is_inner : IsInner i
  pub is : w ≡ 34 ∷ (flat_map letter_units letters ++ inner_units i)

-- whole digits of which the first is not 0
pub record WholeRead (n : Digits) (w : List ℕ) : Type 0 where
  pub minus : Bool
  pub first : ℕ
  pub rest : List ℕ
  pub digit : is_digit first ≡ true
  pub apart : (first == 48) ≡ false
  pub every : Every (Passes is_digit) rest
  pub held : Held (first ∷ rest) n
  pub is : w ≡ minus_units minus ++ (first ∷ rest)

pub record PointRead (n : Digits) (w : List ℕ) : Type 0 where
  pub minus : Bool
  pub whole : List ℕ
  pub is_whole_ : IsWhole whole
  pub held : Held whole n
  pub is : w ≡ minus_units minus ++ (whole ++ 46 ∷ [])

pub record FractionRead (n : Digits) (places : ℕ) (w : List ℕ) : Type 0 where
  pub minus : Bool
  pub whole : List ℕ
  pub first : ℕ
  pub rest : List ℕ
  pub is_whole_ : IsWhole whole
  pub digit : is_digit first ≡ true
  pub every : Every (Passes is_digit) rest
  pub held : Held (whole ++ first ∷ rest) n
  pub is_places : places ≡ length (first ∷ rest)
  pub is : w ≡ minus_units minus ++ (whole ++ 46 ∷ first ∷ rest)

-- all that stands before an exponent
pub record FrontRead (n : Digits) (places : ℕ) (w : List ℕ) : Type 0 where
  pub minus : Bool
  pub whole : List ℕ
  pub fraction : List ℕ
  pub is_whole_ : IsWhole whole
  pub every : Every (Passes is_digit) fraction
  pub held : Held (whole ++ fraction) n
  pub is_places : places ≡ length fraction
  pub is : w ≡ minus_units minus ++ (whole ++ fraction_units fraction)

pub record MarkRead (n : Digits) (places : ℕ) (w : List ℕ) : Type 0 where
  pub before : List ℕ
  pub mark : ℕ
  pub front : FrontRead n places before
  pub is_mark_ : is_mark mark ≡ true
  pub is : w ≡ before ++ mark ∷ []

pub record SignRead (n : Digits) (places : ℕ) (down : Bool) (w : List ℕ) : Type 0 where
  pub before : List ℕ
  pub mark : ℕ
  pub sign : Sign
  pub front : FrontRead n places before
  pub is_mark_ : is_mark mark ≡ true
  pub is_down_ : is_down sign ≡ down
  pub is : w ≡ before ++ mark ∷ sign_units sign

pub record ExponentRead (n : Digits) (places : ℕ) (down : Bool) (e : ℕ) (w : List ℕ) : Type 0 where
  pub before : List ℕ
  pub mark : ℕ
  pub sign : Sign
  pub first : ℕ
  pub rest : List ℕ
  pub front : FrontRead n places before
  pub is_mark_ : is_mark mark ≡ true
  pub is_down_ : is_down sign ≡ down
  pub digit : is_digit first ≡ true
  pub every : Every (Passes is_digit) rest
  pub is_exponent : e ≡ min (decimal (first ∷ rest)) most
  pub is : w ≡ before ++ mark ∷ (sign_units sign ++ first ∷ rest)

abbrev pub SpelledNumber : NumberAt → List ℕ → Type 0
SpelledNumber number.Minus w = w ≡ 45 ∷ []
SpelledNumber number.Zero w = (m : Bool) × (w ≡ minus_units m ++ 48 ∷ [])
SpelledNumber (number.Whole n) w = WholeRead n w
SpelledNumber (number.Point n) w = PointRead n w
SpelledNumber (number.Fraction n places) w = FractionRead n places w
SpelledNumber (number.Mark n places) w = MarkRead n places w
SpelledNumber (number.Sign n places down) w = SignRead n places down w
SpelledNumber (number.Exponent n places down e) w = ExponentRead n places down e w

abbrev pub Spelled : Part → List ℕ → Type 0
Spelled (part.Word x) w = IsWord (w ++ left x)
Spelled (part.Text key name i) w = TextRead name i w
Spelled (part.Number n) w = SpelledNumber n w

abbrev pub IsToken : Bool → List ℕ → Type 0
IsToken true w = IsKey w
IsToken false w = IsScalar w

-- only a number ends before the unit behind it
abbrev pub Ends : Bool → List ℕ → Type 0
Ends true w = ⊥
Ends false w = IsScalar w

-- what a unit makes of it
abbrev pub GoesOn : Bool → List ℕ → ℕ → Taken → Type 0
GoesOn key w u (taken.More p) = Spelled p (w ++ u ∷ []) × (is_key p ≡ key)
GoesOn key w u taken.Closed = IsToken key (w ++ u ∷ [])
GoesOn key w u taken.Ended = Ends key w
GoesOn key w u taken.Bad = Unit {0}

-- ---- words

word_more : (w : List ℕ) (u : ℕ) (rest : List ℕ) → IsWord (w ++ u ∷ rest) → IsWord ((w ++ u ∷ []) ++ rest)
word_more w u rest h = subst IsWord (sym (append_assoc w (u ∷ []) rest)) h

came : (w : List ℕ) (u n : ℕ) (rest : List ℕ) → (u == n) ≡ true → IsWord (w ++ n ∷ rest) → IsWord (w ++ u ∷ rest)
came w u n rest e h = subst (λ (z : ℕ). IsWord (w ++ z ∷ rest)) (sym (eqb-true u n e)) h

word_goes : (x : Word) (w : List ℕ) (u : ℕ) → IsWord (w ++ left x) → (u == next_of x) ≡ true → GoesOn false w u (word_on x)
word_goes word.Rue w u h e = (word_more w u _ (came w u 114 _ e h), refl)
word_goes word.Ue w u h e = (word_more w u _ (came w u 117 _ e h), refl)
word_goes word.E w u h e = inl (came w u 101 [] e h)
word_goes word.Alse w u h e = (word_more w u _ (came w u 97 _ e h), refl)
word_goes word.Lse w u h e = (word_more w u _ (came w u 108 _ e h), refl)
word_goes word.Se w u h e = (word_more w u _ (came w u 115 _ e h), refl)
word_goes word.Ull w u h e = (word_more w u _ (came w u 117 _ e h), refl)
word_goes word.Ll w u h e = (word_more w u _ (came w u 108 _ e h), refl)
word_goes word.L w u h e = inl (came w u 108 [] e h)

in_word_goes : (x : Word) (w : List ℕ) (u : ℕ) → IsWord (w ++ left x) → GoesOn false w u (in_word x u)
in_word_goes x w u h = cond_both (u == next_of x) (word_on x) taken.Bad (GoesOn false w u) (word_goes x w u h) (λ e. tt)

-- ---- texts

-- one more unit of a letter
text_more : (key : Bool) (name : List ℕ) (i j : Inner) (w : List ℕ) (u : ℕ) → TextRead name i w → inner_units i ++ u ∷ [] ≡ inner_units j → IsInner j → GoesOn key w u (taken.More (part.Text key name j))
text_more key name i j w u r e h = (
  record {
    letters = r.letters;
    are = r.are;
    is_name = r.is_name;
    is_inner = h;
    is = ap (λ (z : List ℕ). z ++ u ∷ []) r.is ∙ ap (λ (z : List ℕ). 34 ∷ z) (append_assoc (flat_map letter_units r.letters) (inner_units i) (u ∷ []) ∙ ap (λ (z : List ℕ). flat_map letter_units r.letters ++ z) e);
  },
  refl,
)

-- the last unit of a letter
text_letter : (key : Bool) (name : List ℕ) (i : Inner) (l : Letter) (w : List ℕ) (u : ℕ) → TextRead name i w → inner_units i ++ u ∷ [] ≡ letter_units l → IsLetter l → GoesOn key w u (taken.More (part.Text key (name_with name (letter_value l)) inner.Plain))
text_letter key name i l w u r e h =
    let front = flat_map letter_units r.letters in (
      record {
        letters = r.letters ++ l ∷ [];
        are = every_push IsLetter r.letters l r.are h;
        is_name = ap (λ (z : List ℕ). name_with z (letter_value l)) r.is_name ∙ clip_with (map letter_value r.letters) (letter_value l) ∙ ap clip (sym (map-append letter_value r.letters (l ∷ [])));
        is_inner = tt;
        is = ap (λ (z : List ℕ). z ++ u ∷ []) r.is ∙ ap (λ (z : List ℕ). 34 ∷ z) (append_assoc front (inner_units i) (u ∷ []) ∙ ap (λ (z : List ℕ). front ++ z) (e ∙ sym (append-nil (letter_units l)))
            ∙ sym (flat_map-append letter_units r.letters (l ∷ [])) ∙ sym (append-nil (flat_map letter_units (r.letters ++ l ∷ []))));
      },
      refl,
    )

quoted : (name : List ℕ) (w : List ℕ) (u : ℕ) (r : TextRead name inner.Plain w) → (u == 34) ≡ true → w ++ u ∷ [] ≡ 34 ∷ (flat_map letter_units r.letters ++ 34 ∷ [])
quoted name w u r e =
    ap (λ (z : List ℕ). z ++ u ∷ []) r.is ∙ ap (λ (z : List ℕ). 34 ∷ z) (append_assoc (flat_map letter_units r.letters) [] (u ∷ []) ∙ ap (λ (z : ℕ). flat_map letter_units r.letters ++ z ∷ []) (eqb-true u 34 e))

text_closed : (key : Bool) (name : List ℕ) (w : List ℕ) (u : ℕ) → TextRead name inner.Plain w → (u == 34) ≡ true → GoesOn key w u (closed key name)
text_closed false name w u r e = inr (inr (record { letters = r.letters; are = r.are; spells = tt; text = quoted name w u r e }))
text_closed true name w u r e =
    cond_both (is_one_of name refused_names) taken.Bad taken.Closed (GoesOn true w u) (λ t. tt)
    (λ t. record { letters = r.letters; are = r.are; spells = allowed_found (map letter_value r.letters) (ap (λ (z : List ℕ). is_one_of z refused_names) (sym r.is_name) ∙ t); text = quoted name w u r e })

not_no : (a : Bool) → a ≡ false → not a ≡ true
not_no true h = cc
not_no false h = refl

plain_goes : (key : Bool) (name : List ℕ) (w : List ℕ) (u : ℕ) → TextRead name inner.Plain w → GoesOn key w u (in_plain key name u)
plain_goes key name w u r =
    cond_both (u == 34) _ _ (GoesOn key w u) (text_closed key name w u r)
    (λ a. cond_both (u == 92) _ _ (GoesOn key w u) (λ t. text_more key name inner.Plain inner.Escape w u r (ap (λ (z : ℕ). z ∷ []) (eqb-true u 92 t)) tt)
    (λ b. cond_both (nat_lt u 32) _ _ (GoesOn key w u) (λ t. tt)
    (λ c. text_letter key name inner.Plain (Raw u) w u r refl (not_no _ (or_from (u == 34) _ a (or_from (u == 92) (nat_lt u 32) b c))))))

escape_goes : (key : Bool) (name : List ℕ) (w : List ℕ) (u : ℕ) → TextRead name inner.Escape w → GoesOn key w u (in_escape key name u)
escape_goes key name w u r =
    cond_both (u == 117) _ _ (GoesOn key w u) (λ t. text_more key name inner.Escape inner.Code0 w u r (ap (λ (z : ℕ). 92 ∷ z ∷ []) (eqb-true u 117 t)) tt)
    (λ a. cond_both (is_escape u) _ _ (GoesOn key w u) (λ t. text_letter key name inner.Escape (Escape u) w u r refl t) (λ t. tt))

text_goes : (key : Bool) (name : List ℕ) (i : Inner) (w : List ℕ) (u : ℕ) → TextRead name i w → GoesOn key w u (in_text key name i u)
text_goes key name inner.Plain w u r = plain_goes key name w u r
text_goes key name inner.Escape w u r = escape_goes key name w u r
text_goes key name inner.Code0 w u r = cond_both (is_hex u) _ _ (GoesOn key w u) (λ t. text_more key name inner.Code0 (inner.Code1 u) w u r refl t) (λ t. tt)
text_goes key name (inner.Code1 a) w u r = cond_both (is_hex u) _ _ (GoesOn key w u) (λ t. text_more key name (inner.Code1 a) (inner.Code2 a u) w u r refl (r.is_inner, t)) (λ t. tt)
text_goes key name (inner.Code2 a b) w u r = cond_both (is_hex u) _ _ (GoesOn key w u) (λ t. text_more key name (inner.Code2 a b) (inner.Code3 a b u) w u r refl (r.is_inner.0, r.is_inner.1, t)) (λ t. tt)
text_goes key name (inner.Code3 a b c) w u r =
    cond_both (is_hex u) _ _ (GoesOn key w u) (λ t. text_letter key name (inner.Code3 a b c) (Code a b c u) w u r refl (r.is_inner.0, r.is_inner.1, r.is_inner.2, t)) (λ t. tt)

-- ---- numbers

with_found : (ds : List ℕ) (n : Digits) (places t : ℕ) (b : Bool) → Held ds n → is_safe_with n places b t ≡ true → SafeAt (decimal ds) (cond b 0 t) (places + cond b t 0)
with_found ds n places t true h e = safe_found ds n 0 (places + t) h e
with_found ds n places t false h e = subst (λ (x : ℕ). SafeAt (decimal ds) t x) (omega arith) (safe_found ds n t places h e)

pub fraction_length : (ds : List ℕ) → length ds ≤ length (fraction_units ds)
fraction_length [] = omega arith
fraction_length (d ∷ ds) = omega arith

front_short : (n : Digits) (places : ℕ) (w : List ℕ) (f : FrontRead n places w) → length (f.whole ++ f.fraction) ≤ length w
front_short n places w f =
    let a = ap length f.is in
    let b = length-append (minus_units f.minus) (f.whole ++ fraction_units f.fraction) in
    let c = length-append f.whole (fraction_units f.fraction) in
    let d = length-append f.whole f.fraction in
    let e = fraction_length f.fraction in
    omega (arith, a, b, c, d, e)

places_short : (n : Digits) (places : ℕ) (w : List ℕ) (f : FrontRead n places w) → places ≤ length w
places_short n places w f =
    let a = front_short n places w f in
    let b = length-append f.whole f.fraction in
    let c = f.is_places in
    omega (arith, a, b, c)

number_token : (n : Digits) (places : ℕ) (before w : List ℕ) (f : FrontRead n places before) (mark : ℕ) (sign : Sign) (es : List ℕ) → is_mark mark ≡ true → Every (Passes is_digit) es → is_safe_with n places (is_down sign) (decimal es) ≡ true → w ≡ before ++ exponent_units mark sign es → IsScalar w
number_token n places before w f mark sign es m e s t =
    inr (inl (record {
      number = record { minus = f.minus; whole = f.whole; fraction = f.fraction; mark = mark; sign = sign; exponent = es };
      is = record { whole = f.is_whole_; fraction = f.every; mark = m; exponent = e };
      safe = subst (λ (x : ℕ). SafeAt (decimal (f.whole ++ f.fraction)) (cond (is_down sign) 0 (decimal es)) (x + cond (is_down sign) (decimal es) 0)) f.is_places (with_found (f.whole ++ f.fraction) n places (decimal es) (is_down sign) f.held s);
      text = t ∙ ap (λ (z : List ℕ). z ++ exponent_units mark sign es) f.is;
    }))

front_token : (n : Digits) (places : ℕ) (w : List ℕ) → FrontRead n places w → is_safe n 0 places ≡ true → IsScalar w
front_token n places w f s = number_token n places w w f 101 Bare [] refl tt s (sym (append-nil w))

exponent_token : (n : Digits) (places : ℕ) (down : Bool) (e : ℕ) (w : List ℕ) → ExponentRead n places down e w → length w < 2 ^ 63 → is_safe_with n places down e ≡ true → IsScalar w
exponent_token n places down e w r l s =
    let a = ap length r.is in
    let b = length-append r.before (r.mark ∷ (sign_units r.sign ++ r.first ∷ r.rest)) in
    let c = front_short n places r.before r.front in
    let d = places_short n places r.before r.front in
    let same : is_safe_with n places down (decimal (r.first ∷ r.rest)) ≡ true =
    sym (capped (r.front.whole ++ r.front.fraction) n (decimal (r.first ∷ r.rest)) places down r.front.held (omega (arith, a, b, c, l)) (omega (arith, a, b, d, l)))
    ∙ ap (λ (x : ℕ). is_safe_with n places down x) (sym r.is_exponent) ∙ s in
    number_token n places r.before w r.front r.mark r.sign (r.first ∷ r.rest) r.is_mark_ (r.digit, r.every) (ap (λ (z : Bool). is_safe_with n places z (decimal (r.first ∷ r.rest))) r.is_down_ ∙ same) r.is

ended_goes : (w : List ℕ) (u : ℕ) (safe : Bool) → (safe ≡ true → IsScalar w) → GoesOn false w u (ended safe)
ended_goes w u true f = f refl
ended_goes w u false f = tt

fraction_end : (n : Digits) (places : ℕ) (w : List ℕ) (u : ℕ) → FrontRead n places w → GoesOn false w u (behind_fraction n places u)
fraction_end n places w u f =
    cond_both (is_mark u) _ _ (GoesOn false w u) (λ t. (record { before = w; mark = u; front = f; is_mark_ = t; is = refl }, refl))
    (λ t. ended_goes w u (is_safe n 0 places) (front_token n places w f))

whole_front : (n : Digits) (m : Bool) (whole w : List ℕ) → IsWhole whole → Held whole n → w ≡ minus_units m ++ whole → FrontRead n 0 w
whole_front n m whole w h k e =
    record { minus = m; whole = whole; fraction = []; is_whole_ = h; every = tt; held = subst (λ (z : List ℕ). Held z n) (sym (append-nil whole)) k; is_places = refl; is = e ∙ ap (λ (z : List ℕ). minus_units m ++ z) (sym (append-nil whole)) }

whole_end : (n : Digits) (m : Bool) (whole w : List ℕ) (u : ℕ) → IsWhole whole → Held whole n → w ≡ minus_units m ++ whole → GoesOn false w u (behind_whole n u)
whole_end n m whole w u h k e =
    cond_both (u == 46) _ _ (GoesOn false w u)
    (λ t. (record { minus = m; whole = whole; is_whole_ = h; held = k; is = ap (λ (z : List ℕ). z ++ u ∷ []) e ∙ append_assoc (minus_units m) whole (u ∷ []) ∙ ap (λ (z : ℕ). minus_units m ++ (whole ++ z ∷ [])) (eqb-true u 46 t) }, refl))
    (λ t. fraction_end n 0 w u (whole_front n m whole w h k e))

whole_is : (n : Digits) (w : List ℕ) (r : WholeRead n w) → IsWhole (r.first ∷ r.rest)
whole_is n w r = inr (r.first, r.rest, refl, r.digit, r.apart, r.every)

minus_goes : (w : List ℕ) (u : ℕ) → w ≡ 45 ∷ [] → GoesOn false w u (in_minus u)
minus_goes w u e =
    cond_both (u == 48) _ _ (GoesOn false w u) (λ t. ((true, ap (λ (z : List ℕ). z ++ u ∷ []) e ∙ ap (λ (z : ℕ). 45 ∷ z ∷ []) (eqb-true u 48 t)), refl))
    (λ a. cond_both (is_digit u) _ _ (GoesOn false w u)
    (λ d. (record { minus = true; first = u; rest = []; digit = d; apart = a; every = tt; held = held_push [] u digits.Zero d (omega arith) refl; is = ap (λ (z : List ℕ). z ++ u ∷ []) e }, refl))
    (λ d. tt))

whole_goes : (n : Digits) (w : List ℕ) (u : ℕ) → WholeRead n w → length w < 2 ^ 63 → GoesOn false w u (in_whole n u)
whole_goes n w u r l =
    let a = ap length r.is in
    let b = length-append (minus_units r.minus) (r.first ∷ r.rest) in
    cond_both (is_digit u) _ _ (GoesOn false w u)
    (λ d. (
      record {
        minus = r.minus;
        first = r.first;
        rest = r.rest ++ u ∷ [];
        digit = r.digit;
        apart = r.apart;
        every = every_push (Passes is_digit) r.rest u r.every d;
        held = held_push (r.first ∷ r.rest) u n d (omega (arith, a, b, l)) r.held;
        is = ap (λ (z : List ℕ). z ++ u ∷ []) r.is ∙ append_assoc (minus_units r.minus) (r.first ∷ r.rest) (u ∷ []);
      },
      refl,
    ))
    (λ d. whole_end n r.minus (r.first ∷ r.rest) w u (whole_is n w r) r.held r.is)

point_goes : (n : Digits) (w : List ℕ) (u : ℕ) → PointRead n w → length w < 2 ^ 63 → GoesOn false w u (in_point n u)
point_goes n w u r l =
    let a = ap length r.is in
    let b = length-append (minus_units r.minus) (r.whole ++ 46 ∷ []) in
    let c = length-append r.whole (46 ∷ []) in
    cond_both (is_digit u) _ _ (GoesOn false w u)
    (λ d. (
      record {
        minus = r.minus;
        whole = r.whole;
        first = u;
        rest = [];
        is_whole_ = r.is_whole_;
        digit = d;
        every = tt;
        held = held_push r.whole u n d (omega (arith, a, b, c, l)) r.held;
        is_places = refl;
        is = ap (λ (z : List ℕ). z ++ u ∷ []) r.is ∙ append_assoc (minus_units r.minus) (r.whole ++ 46 ∷ []) (u ∷ []) ∙ ap (λ (z : List ℕ). minus_units r.minus ++ z) (append_assoc r.whole (46 ∷ []) (u ∷ []));
      },
      refl,
    ))
    (λ d. tt)

fraction_goes : (n : Digits) (places : ℕ) (w : List ℕ) (u : ℕ) → FractionRead n places w → length w < 2 ^ 63 → GoesOn false w u (in_fraction n places u)
fraction_goes n places w u r l =
    let a = ap length r.is in
    let b = length-append (minus_units r.minus) (r.whole ++ 46 ∷ r.first ∷ r.rest) in
    let c = length-append r.whole (46 ∷ r.first ∷ r.rest) in
    let e = length-append r.whole (r.first ∷ r.rest) in
    let f = length-append r.rest (u ∷ []) in
    let g = r.is_places in
    cond_both (is_digit u) _ _ (GoesOn false w u)
    (λ d. (
      record {
        minus = r.minus;
        whole = r.whole;
        first = r.first;
        rest = r.rest ++ u ∷ [];
        is_whole_ = r.is_whole_;
        digit = r.digit;
        every = every_push (Passes is_digit) r.rest u r.every d;
        held = subst (λ (z : List ℕ). Held z (push n u)) (append_assoc r.whole (r.first ∷ r.rest) (u ∷ [])) (held_push (r.whole ++ r.first ∷ r.rest) u n d (omega (arith, a, b, c, e, l)) r.held);
        is_places = min-eq_left (omega (arith, a, b, c, g, l)) ∙ omega (arith, f, g);
        is = ap (λ (z : List ℕ). z ++ u ∷ []) r.is ∙ append_assoc (minus_units r.minus) (r.whole ++ 46 ∷ r.first ∷ r.rest) (u ∷ []) ∙ ap (λ (z : List ℕ). minus_units r.minus ++ z) (append_assoc r.whole (46 ∷ r.first ∷ r.rest) (u ∷ []));
      },
      refl,
    ))
    (λ d. fraction_end n places w u (record { minus = r.minus; whole = r.whole; fraction = r.first ∷ r.rest; is_whole_ = r.is_whole_; every = (r.digit, r.every); held = r.held; is_places = r.is_places; is = r.is }))

sign_goes : (n : Digits) (places : ℕ) (down : Bool) (w : List ℕ) (u : ℕ) → SignRead n places down w → GoesOn false w u (in_sign n places down u)
sign_goes n places down w u r =
    cond_both (is_digit u) _ _ (GoesOn false w u)
    (λ d. (
      record {
        before = r.before;
        mark = r.mark;
        sign = r.sign;
        first = u;
        rest = [];
        front = r.front;
        is_mark_ = r.is_mark_;
        is_down_ = r.is_down_;
        digit = d;
        every = tt;
        is_exponent = raised_exact 0 u;
        is = ap (λ (z : List ℕ). z ++ u ∷ []) r.is ∙ append_assoc r.before (r.mark ∷ sign_units r.sign) (u ∷ []);
      },
      refl,
    ))
    (λ d. tt)

mark_goes : (n : Digits) (places : ℕ) (w : List ℕ) (u : ℕ) → MarkRead n places w → GoesOn false w u (in_mark n places u)
mark_goes n places w u r =
    let signed = λ (s : ℕ) (t : (u == s) ≡ true). ap (λ (z : List ℕ). z ++ u ∷ []) r.is ∙ append_assoc r.before (r.mark ∷ []) (u ∷ []) ∙ ap (λ (z : ℕ). r.before ++ r.mark ∷ z ∷ []) (eqb-true u s t) in
    cond_both (u == 43) _ _ (GoesOn false w u) (λ t. (record { before = r.before; mark = r.mark; sign = Plus; front = r.front; is_mark_ = r.is_mark_; is_down_ = refl; is = signed 43 t }, refl))
    (λ a. cond_both (u == 45) _ _ (GoesOn false w u) (λ t. (record { before = r.before; mark = r.mark; sign = Minus; front = r.front; is_mark_ = r.is_mark_; is_down_ = refl; is = signed 45 t }, refl))
    (λ b. sign_goes n places false w u (record { before = r.before; mark = r.mark; sign = Bare; front = r.front; is_mark_ = r.is_mark_; is_down_ = refl; is = r.is })))

exponent_goes : (n : Digits) (places : ℕ) (down : Bool) (e : ℕ) (w : List ℕ) (u : ℕ) → ExponentRead n places down e w → length w < 2 ^ 63 → GoesOn false w u (in_exponent n places down e u)
exponent_goes n places down e w u r l =
    cond_both (is_digit u) _ _ (GoesOn false w u)
    (λ d. (
      record {
        before = r.before;
        mark = r.mark;
        sign = r.sign;
        first = r.first;
        rest = r.rest ++ u ∷ [];
        front = r.front;
        is_mark_ = r.is_mark_;
        is_down_ = r.is_down_;
        digit = r.digit;
        every = every_push (Passes is_digit) r.rest u r.every d;
        is_exponent = ap (λ (x : ℕ). raised x u) r.is_exponent ∙ raised_exact (decimal (r.first ∷ r.rest)) u ∙ ap (λ (x : ℕ). min x most) (sym (decimal_push (r.first ∷ r.rest) 0 u));
        is = ap (λ (z : List ℕ). z ++ u ∷ []) r.is ∙ append_assoc r.before (r.mark ∷ (sign_units r.sign ++ r.first ∷ r.rest)) (u ∷ []) ∙ ap (λ (z : List ℕ). r.before ++ r.mark ∷ z) (append_assoc (sign_units r.sign) (r.first ∷ r.rest) (u ∷ []));
      },
      refl,
    ))
    (λ d. ended_goes w u (is_safe_with n places down e) (exponent_token n places down e w r l))

zero_whole : IsWhole (48 ∷ [])
zero_whole = inl refl

number_goes : (n : NumberAt) (w : List ℕ) (u : ℕ) → SpelledNumber n w → length w < 2 ^ 63 → GoesOn false w u (in_number n u)
number_goes number.Minus w u r l = minus_goes w u r
number_goes number.Zero w u r l = whole_end digits.Zero r.0 (48 ∷ []) w u zero_whole refl r.1
number_goes (number.Whole n) w u r l = whole_goes n w u r l
number_goes (number.Point n) w u r l = point_goes n w u r l
number_goes (number.Fraction n places) w u r l = fraction_goes n places w u r l
number_goes (number.Mark n places) w u r l = mark_goes n places w u r
number_goes (number.Sign n places down) w u r l = sign_goes n places down w u r
number_goes (number.Exponent n places down e) w u r l = exponent_goes n places down e w u r l

-- ---- tokens

-- Each unit goes on with what was read, or ends it.
pub token_goes : (p : Part) (w : List ℕ) (u : ℕ) → Spelled p w → length w < 2 ^ 63 → GoesOn (is_key p) w u (token p u)
token_goes (part.Word x) w u r l = in_word_goes x w u r
token_goes (part.Text key name i) w u r l = text_goes key name i w u r
token_goes (part.Number n) w u r l = number_goes n w u r l

number_ends : (n : NumberAt) (w : List ℕ) → SpelledNumber n w → length w < 2 ^ 63 → is_whole n ≡ true → IsScalar w
number_ends number.Minus w r l e = cc
number_ends number.Zero w r l e = front_token digits.Zero 0 w (whole_front digits.Zero r.0 (48 ∷ []) w zero_whole refl r.1) refl
number_ends (number.Whole n) w r l e = front_token n 0 w (whole_front n r.minus (r.first ∷ r.rest) w (whole_is n w r) r.held r.is) e
number_ends (number.Point n) w r l e = cc
number_ends (number.Fraction n places) w r l e = front_token n places w (record { minus = r.minus; whole = r.whole; fraction = r.first ∷ r.rest; is_whole_ = r.is_whole_; every = (r.digit, r.every); held = r.held; is_places = r.is_places; is = r.is }) e
number_ends (number.Mark n places) w r l e = cc
number_ends (number.Sign n places down) w r l e = cc
number_ends (number.Exponent n places down x) w r l e = exponent_token n places down x w r l e

-- What may end with the text is a scalar.
pub token_ends : (p : Part) (w : List ℕ) → Spelled p w → length w < 2 ^ 63 → may_end p ≡ true → IsScalar w
token_ends (part.Word x) w r l e = cc
token_ends (part.Text key name i) w r l e = cc
token_ends (part.Number n) w r l e = number_ends n w r l e

abbrev pub Begun : ℕ → Option Part → Type 0
Begun u (Some p) = Spelled p (u ∷ []) × (is_key p ≡ false)
Begun u None = Unit {0}

pub text_begun : (key : Bool) (u : ℕ) → (u == 34) ≡ true → Spelled (part.Text key [] inner.Plain) (u ∷ [])
text_begun key u e = record { letters = []; are = tt; is_name = refl; is_inner = tt; is = ap (λ (z : ℕ). z ∷ []) (eqb-true u 34 e) }

word_begun : (u n : ℕ) (rest : List ℕ) → (u == n) ≡ true → IsWord (n ∷ rest) → IsWord (u ∷ rest)
word_begun u n rest e h = subst (λ (z : ℕ). IsWord (z ∷ rest)) (sym (eqb-true u n e)) h

-- A token begins with its first unit.
pub first_begun : (u : ℕ) → Begun u (first_part u)
first_begun u =
    cond_both (u == 34) _ _ (Begun u) (λ t. (text_begun false u t, refl))
    (λ a. cond_both (u == 45) _ _ (Begun u) (λ t. (ap (λ (z : ℕ). z ∷ []) (eqb-true u 45 t), refl))
    (λ b. cond_both (u == 48) _ _ (Begun u) (λ t. ((false, ap (λ (z : ℕ). z ∷ []) (eqb-true u 48 t)), refl))
    (λ c. cond_both (is_digit u) _ _ (Begun u)
    (λ d. (record { minus = false; first = u; rest = []; digit = d; apart = c; every = tt; held = held_push [] u digits.Zero d (omega arith) refl; is = refl }, refl))
    (λ d. cond_both (u == 116) _ _ (Begun u) (λ t. (word_begun u 116 _ t (inl refl), refl))
    (λ e. cond_both (u == 102) _ _ (Begun u) (λ t. (word_begun u 102 _ t (inr (inl refl)), refl))
    (λ f. cond_both (u == 110) _ _ (Begun u) (λ t. (word_begun u 110 _ t (inr (inr refl)), refl)) (λ g. tt)))))))
