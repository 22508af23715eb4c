-- Punctuators.
use Rattle.std.proofs.Common.{◌≡◌, ℕ, ◌-◌, ◌≤◌, Bool, true, false, List, [], ◌∷◌, ◌++◌, drop, length, refl, sym, ◌∙◌, ap, subst, arith, ◌⊎◌, inl, inr}
use Rattle.std.specs.Prelude.{◌==◌, ◌&&◌, not, slice_index}
use Rattle.std.proofs.lemmas.Bool.{eqb-true, eq-eqb}
use Rattle.js_lex.specs.declared.token.TokenKind.TheVariants as tok
use Rattle.js_lex.specs.declared.token.Punctuator.{Punctuator}
use Rattle.js_lex.specs.declared.token.Punctuator.TheVariants as p
use Rattle.js_lex.specs.declared.front.Front.{Front}
use Rattle.js_lex.specs.declared.front.Front.TheVariants as front
use Rattle.js_lex.specs.declared.front.Unread.TheVariants as bad
use Rattle.js_lex.specs.Tables.{punctuators}
use Rattle.js_lex.specs.Units.{Text, is_digit}
use Rattle.js_lex.specs.Runs.{begins}
use Rattle.js_lex.specs.Front as code
use Rattle.js_lex.specs.Lists.{In, NotNext, is}
use Rattle.js_lex.specs.Elements.{Element, Sign, units, MayFollow, Stands}
use Rattle.js_lex.specs.Grammar.{Token}
use Rattle.js_lex.proofs.Truths.{cond_yes, cond_no, either, and_first, and_second, and_both, not_yes, all_of, in_all}
use Rattle.js_lex.proofs.Words.{begins_self}
use Rattle.js_lex.proofs.Longest.{Found, FrontIs}

abbrev pub Row : Type 0
Row = Text × Punctuator

-- ---- fronts of a text

pub begins_front : (w z : Text) → begins (w ++ z) w ≡ true
begins_front [] z = refl
begins_front (u ∷ w) z = and_both (u == u) (begins (w ++ z) w) (eq-eqb u u refl) (begins_front w z)

pub begins_parts : (t w : Text) → begins t w ≡ true → t ≡ w ++ drop (length w) t
begins_parts t [] h = refl
begins_parts [] (b ∷ w) h = cc
begins_parts (u ∷ t) (b ∷ w) h =
    let e = eqb-true u b (and_first (u == b) (begins t w) h) in
    let i = begins_parts t w (and_second (u == b) (begins t w) h) in cc

both_begin : (t a b : Text) → begins t a ≡ true → begins t b ≡ true → length a ≤ length b → begins b a ≡ true
both_begin t [] b h k l = refl
both_begin t (x ∷ a) [] h k l = absurd (omega (arith, l))
both_begin [] (x ∷ a) (y ∷ b) h k l = cc
both_begin (u ∷ t) (x ∷ a) (y ∷ b) h k l =
    let e = eqb-true u x (and_first (u == x) (begins t a) h) in
    let f = eqb-true u y (and_first (u == y) (begins t b) k) in
    and_both (y == x) (begins b a) (eq-eqb y x (sym f ∙ e)) (both_begin t a b (and_second (u == x) (begins t a) h) (and_second (u == y) (begins t b) k) (omega (arith, l)))

-- ---- the table's order

abbrev ordered : List Row → Bool
ordered [] = true
ordered (y ∷ ys) = all_of (λ (x : Row). not (begins x.0 y.0)) ys && ordered ys

all_ordered : ordered punctuators ≡ true
all_ordered = refl

pub no_truth : true ≡ false → ⊥
no_truth h = cc

later_shorter : (t : Text) (y : Row) (ys : List Row) (s : Row) → ordered (y ∷ ys) ≡ true → In s ys → begins t y.0 ≡ true → begins t s.0 ≡ true → length s.0 ≤ length y.0
later_shorter t y ys s o i h k =
    let n = not_yes (begins s.0 y.0) (in_all (λ (x : Row). not (begins x.0 y.0)) s ys i (and_first _ (ordered ys) o)) in
    let f : length y.0 ≤ length s.0 → ⊥ = λ l. (let b = both_begin t y.0 s.0 h k l in let c : true ≡ false = sym b ∙ n in no_truth c) in
    omega (arith, f)

pub record First (ts : List Row) (t : Text) : Type 0 where
  pub row : Row
  pub among : In row ts
  pub at_front : begins t row.0 ≡ true
  pub most : (s : Row) → In s ts → begins t s.0 ≡ true → length s.0 ≤ length row.0

abbrev front_row : Row → Front
front_row r = front.Token (tok.Punctuator r.1) (length r.0 - 1)

abbrev Tells : List Row → ℕ → Text → Type 0
Tells ts u z = ((f : First ts (u ∷ z)) × (code.longest ts u z ≡ front_row f.row)) ⊎ (((s : Row) → In s ts → begins (u ∷ z) s.0 ≡ false) × (code.longest ts u z ≡ front.Bad bad.Syntax))

most_here : (t : Text) (y : Row) (ys : List Row) → ordered (y ∷ ys) ≡ true → begins t y.0 ≡ true → (s : Row) → In s (y ∷ ys) → begins t s.0 ≡ true → length s.0 ≤ length y.0
most_here t y ys o h s (inl e) k = (let l : length y.0 ≡ length s.0 = ap (λ (x : Row). length x.0) e in omega (arith, l))
most_here t y ys o h s (inr i) k = later_shorter t y ys s o i h k

most_later : (t : Text) (y : Row) (ys : List Row) (r : Row) → begins t y.0 ≡ false → ((s : Row) → In s ys → begins t s.0 ≡ true → length s.0 ≤ length r.0) → (s : Row) → In s (y ∷ ys) → begins t s.0 ≡ true → length s.0 ≤ length r.0
most_later t y ys r h f s (inl e) k = (let c : begins t y.0 ≡ begins t s.0 = ap (λ (x : Row). begins t x.0) e in absurd (no_truth (sym k ∙ sym c ∙ h)))
most_later t y ys r h f s (inr i) k = f s i k

none_later : (t : Text) (y : Row) (ys : List Row) → begins t y.0 ≡ false → ((s : Row) → In s ys → begins t s.0 ≡ false) → (s : Row) → In s (y ∷ ys) → begins t s.0 ≡ false
none_later t y ys h f s (inl e) = ap (λ (x : Row). begins t x.0) (sym e) ∙ h
none_later t y ys h f s (inr i) = f s i

tells_later : (y : Row) (ys : List Row) (u : ℕ) (z : Text) → begins (u ∷ z) y.0 ≡ false → Tells ys u z → Tells (y ∷ ys) u z
tells_later y ys u z n (inl g) =
    let f = g.0 in
    inl (record { row = f.row; among = inr f.among; at_front = f.at_front; most = most_later (u ∷ z) y ys f.row n f.most }, cond_no _ _ _ n ∙ g.1)
tells_later y ys u z n (inr g) = inr (none_later (u ∷ z) y ys n g.0, cond_no _ _ _ n ∙ g.1)

tells : (ts : List Row) (u : ℕ) (z : Text) → ordered ts ≡ true → Tells ts u z
tells [] u z o = inr ((λ s i. absurd i), refl)
tells (y ∷ ys) u z o = elim (either (begins (u ∷ z) y.0)) [
  | inl h ↦ inl (record { row = y; among = inl refl; at_front = h; most = most_here (u ∷ z) y ys o h }, cond_yes _ _ _ h)
  | inr n ↦ tells_later y ys u z n (tells ys u z (and_second _ (ordered ys) o))
]

later_apart : (y : Row) (ys : List Row) (w : Text) (a b : Punctuator) → ordered (y ∷ ys) ≡ true → y ≡ (w, a) → In (w, b) ys → ⊥
later_apart y ys w a b o e j =
    let n = not_yes (begins w y.0) (in_all (λ (x : Row). not (begins x.0 y.0)) (w, b) ys j (and_first _ (ordered ys) o)) in
    no_truth (sym (begins_self w) ∙ ap (λ (x : Row). begins w x.0) (sym e) ∙ n)

same_row : (ts : List Row) (w : Text) (a b : Punctuator) → ordered ts ≡ true → In (w, a) ts → In (w, b) ts → a ≡ b
same_row [] w a b o i j = absurd i
same_row (y ∷ ys) w a b o (inl e) (inl f) = ap (λ (x : Row). x.1) (sym e ∙ f)
same_row (y ∷ ys) w a b o (inl e) (inr j) = absurd (later_apart y ys w a b o e j)
same_row (y ∷ ys) w a b o (inr i) (inl f) = absurd (later_apart y ys w b a o f i)
same_row (y ∷ ys) w a b o (inr i) (inr j) = same_row ys w a b (and_second _ (ordered ys) o) i j

pub same_sign : (w : Text) (a b : Punctuator) → In (w, a) punctuators → In (w, b) punctuators → a ≡ b
same_sign w a b i j = same_row punctuators w a b all_ordered i j

-- ---- a punctuator at the front

pub record IsSign (f : Element) : Type 0 where
  pub word : Text
  pub sign : Punctuator
  pub same : f ≡ Sign word sign

by_sign : (P : Element → Type 0) (f : Element) → IsSign f → ((w : Text) (x : Punctuator) → P (Sign w x)) → P f
by_sign P f i g = subst P (sym i.same) (g i.word i.sign)

-- nothing but punctuators may stand at the front
abbrev pub SignsOnly : Bool → Text → Type 0
SignsOnly h t = (f : Element) (more : Text) → Stands h f more → units f ++ more ≡ t → IsSign f

abbrev is_chain : ℕ → Text → Bool
is_chain u z = u == 63 && (slice_index z 0 == 46 && is_digit (slice_index z 1))

not_chain : (u : ℕ) (z w more : Text) → is_chain u z ≡ false → w ≡ 63 ∷ 46 ∷ [] → u ∷ z ≡ w ++ more → NotNext is_digit more
not_chain u z w [] n e t = tt
not_chain u z w (d ∷ more) n e t =
    let c : u ∷ z ≡ 63 ∷ 46 ∷ d ∷ more = t ∙ ap (λ (x : Text). x ++ d ∷ more) e in
    let a : u ≡ 63 = cc in
    let b : z ≡ 46 ∷ d ∷ more = cc in
    let m : is_chain u z ≡ is_digit d = ap (λ (x : ℕ). is_chain x z) a ∙ ap (is_chain 63) b in
    sym m ∙ n

-- the first two units that decide on `/` and `}`
pub record Fine (h : Bool) (u : ℕ) (z : Text) : Type 0 where
  pub slash : u ≡ 47 → NotNext (is 42) z
  pub brace : u ≡ 125 → h ≡ false

one_unit : (c u : ℕ) (z w more : Text) → w ≡ c ∷ [] → u ∷ z ≡ w ++ more → (u ≡ c) × (z ≡ more)
one_unit c u z w more e t = let k : u ∷ z ≡ c ∷ more = t ∙ ap (λ (x : Text). x ++ more) e in (cc, cc)

may_follow : (h : Bool) (u : ℕ) (z w more : Text) → is_chain u z ≡ false → Fine h u z → u ∷ z ≡ w ++ more → MayFollow h w more
may_follow h u z w more n f t = (
  (λ e. not_chain u z w more n e t),
  (λ e. (let k = one_unit 47 u z w more e t in subst (NotNext (is 42)) k.1 (f.slash k.0))),
  (λ e. (let k = one_unit 125 u z w more e t in f.brace k.0)),
)

sign_most : (h : Bool) (t : Text) (n : ℕ) → ((s : Row) → In s punctuators → begins t s.0 ≡ true → length s.0 ≤ n) → (f : Element) (more : Text) → IsSign f → Stands h f more → units f ++ more ≡ t → length (units f) ≤ n
sign_most h t n g f more i =
    by_sign (λ (y : Element). Stands h y more → units y ++ more ≡ t → length (units y) ≤ n) f i
    (λ w x s e. g (w, x) s.0 (subst (λ (y : Text). begins y w ≡ true) e (begins_front w more)))

sign_none : (h : Bool) (t : Text) → ((s : Row) → In s punctuators → begins t s.0 ≡ false) → (f : Element) (more : Text) → IsSign f → Stands h f more → t ≡ units f ++ more → ⊥
sign_none h t g f more i =
    by_sign (λ (y : Element). Stands h y more → t ≡ units y ++ more → ⊥) f i
    (λ w x s e. no_truth (sym (begins_front w more) ∙ ap (λ (y : Text). begins y w) (sym e) ∙ g (w, x) s.0))

found_row : (h : Bool) (u : ℕ) (z : Text) → is_chain u z ≡ false → Fine h u z → SignsOnly h (u ∷ z) → (f : First punctuators (u ∷ z)) → Found h (u ∷ z) (front_row f.row)
found_row h u z n fine only f =
    let w = f.row.0 in
    let rest = drop (length w) (u ∷ z) in
    let parts : u ∷ z ≡ w ++ rest = begins_parts (u ∷ z) w f.at_front in
    record {
      element = Sign w f.row.1;
      rest = rest;
      reading = Token (tok.Punctuator f.row.1);
      begins = record {
        is_text = parts;
        stands = (f.among, may_follow h u z w rest n fine parts);
        longest = λ g more s e. sign_most h (u ∷ z) (length w) f.most g more (only g more s (e ∙ sym parts)) s (e ∙ sym parts);
      };
      reads = refl;
      is = refl;
    }

plain_sign : (h : Bool) (u : ℕ) (z : Text) → is_chain u z ≡ false → Fine h u z → SignsOnly h (u ∷ z) → Tells punctuators u z → FrontIs h (u ∷ z) (code.punctuator u z)
plain_sign h u z n fine only (inl g) = inl (subst (Found h (u ∷ z)) (sym (cond_no _ _ _ n ∙ g.1)) (found_row h u z n fine only g.0))
plain_sign h u z n fine only (inr g) = inr ((λ f more s e. sign_none h (u ∷ z) g.0 f more (only f more s (sym e)) s e), cond_no _ _ _ n ∙ g.1)

-- ---- `?` before `.` and a digit

abbrev no_longer : Text → Bool
no_longer (a ∷ b ∷ c ∷ v) = not (a == 63 && b == 46)
no_longer _ = true

all_short : all_of (λ (r : Row). no_longer r.0) punctuators ≡ true
all_short = refl

question_row : In (63 ∷ [], p.Question) punctuators
question_row = inr (inr (inr (inr (inr (inr (inr (inr (inr (inr (inr (inr (inr (inr (inr (inr (inr (inr (inr (inr (inr (inr (inr (inr (inr (inr (inr (inr (inr (inr (inr (inr (inr (inr (inr (inr (inr (inr (inr (inr (inr (inr (inr (inr (inr (inr (inr (inr (inr (inr (inr (inr (inr (inr (inl refl))))))))))))))))))))))))))))))))))))))))))))))))))))))

question_one : (h : Bool) (w : Text) (x : Punctuator) (more z : Text) (d : ℕ) → Stands h (Sign w x) more → w ++ more ≡ 63 ∷ 46 ∷ d ∷ z → is_digit d ≡ true → length w ≤ 1
question_one h [] x more z d s e k = omega arith
question_one h (a ∷ []) x more z d s e k = omega arith
question_one h (a ∷ b ∷ []) x more z d s e k =
    let i : a ∷ b ∷ [] ≡ 63 ∷ 46 ∷ [] = cc in
    let m : more ≡ d ∷ z = cc in
    let n : NotNext is_digit (d ∷ z) = subst (NotNext is_digit) m (s.1.0 i) in
    absurd (no_truth (sym k ∙ n))
question_one h (a ∷ b ∷ c ∷ v) x more z d s e k =
    let t = in_all (λ (r : Row). no_longer r.0) (a ∷ b ∷ c ∷ v, x) punctuators s.0 all_short in
    let i : a ≡ 63 = cc in
    let j : b ≡ 46 = cc in
    let f : (a == 63 && b == 46) ≡ true = and_both (a == 63) (b == 46) (eq-eqb a 63 i) (eq-eqb b 46 j) in
    absurd (no_truth (sym f ∙ not_yes (a == 63 && b == 46) t))

question_at : (h : Bool) (z : Text) (d : ℕ) (t : Text) → SignsOnly h t → t ≡ 63 ∷ 46 ∷ d ∷ z → is_digit d ≡ true → (f : Element) (more : Text) → IsSign f → Stands h f more → units f ++ more ≡ t → length (units f) ≤ 1
question_at h z d t only same k f more i =
    by_sign (λ (y : Element). Stands h y more → units y ++ more ≡ t → length (units y) ≤ 1) f i (λ w x s e. question_one h w x more z d s (e ∙ same) k)

digit_next : (z : Text) → slice_index z 0 ≡ 46 → is_digit (slice_index z 1) ≡ true → (d : ℕ) × (y : Text) × (is_digit d ≡ true) × (z ≡ 46 ∷ d ∷ y)
digit_next [] e k = cc
digit_next (a ∷ []) e k = cc
digit_next (a ∷ d ∷ y) e k = (d, y, k, ap (λ (n : ℕ). n ∷ d ∷ y) e)

abbrev one : ℕ → Text
one u = u ∷ []

not_two : one 63 ≡ 63 ∷ 46 ∷ [] → ⊥
not_two e = cc

not_slash : one 63 ≡ one 47 → ⊥
not_slash e = cc

not_brace : one 63 ≡ one 125 → ⊥
not_brace e = cc

chain_sign : (h : Bool) (u : ℕ) (z : Text) → is_chain u z ≡ true → SignsOnly h (u ∷ z) → Found h (u ∷ z) (code.punctuator u z)
chain_sign h u z c only =
    let a = eqb-true u 63 (and_first (u == 63) (slice_index z 0 == 46 && is_digit (slice_index z 1)) c) in
    let b = and_second (u == 63) (slice_index z 0 == 46 && is_digit (slice_index z 1)) c in
    let d = digit_next z (eqb-true (slice_index z 0) 46 (and_first _ _ b)) (and_second (slice_index z 0 == 46) _ b) in
    let t : u ∷ z ≡ 63 ∷ 46 ∷ d.0 ∷ d.1 = ap (λ (n : ℕ). n ∷ z) a ∙ ap (λ (x : Text). 63 ∷ x) d.3 in
    record {
      element = Sign (63 ∷ []) p.Question;
      rest = z;
      reading = Token (tok.Punctuator p.Question);
      begins = record {
        is_text = ap (λ (n : ℕ). n ∷ z) a;
        stands = (question_row, ((λ e. absurd (not_two e)), (λ e. absurd (not_slash e)), (λ e. absurd (not_brace e))));
        longest = λ f more s e. question_at h d.1 d.0 (u ∷ z) only t d.2 f more (only f more s (e ∙ ap (λ (n : ℕ). n ∷ z) (sym a))) s (e ∙ ap (λ (n : ℕ). n ∷ z) (sym a));
      };
      reads = refl;
      is = cond_yes _ _ _ c;
    }

pub found_sign : (h : Bool) (u : ℕ) (z : Text) → Fine h u z → SignsOnly h (u ∷ z) → FrontIs h (u ∷ z) (code.punctuator u z)
found_sign h u z fine only = elim (either (is_chain u z)) [
  | inl c ↦ inl (chain_sign h u z c only)
  | inr n ↦ plain_sign h u z n fine only (tells punctuators u z all_ordered)
]

-- `.` before a digit begins no punctuator
abbrev pub no_point : Text → Bool
no_point (a ∷ b ∷ v) = not (a == 46 && is_digit b)
no_point _ = true

pub no_points : all_of (λ (r : Row). no_point r.0) punctuators ≡ true
no_points = refl
