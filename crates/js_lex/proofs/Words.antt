-- Names and reserved words.
use Rattle.std.proofs.Common.{◌≡◌, ℕ, ◌+◌, ◌≤◌, Bool, true, false, cond, List, [], ◌∷◌, ◌++◌, take, drop, length, Option, Some, None, refl, sym, ◌∙◌, ap, subst, arith, inl, inr}
use Rattle.std.specs.Prelude.{◌==◌, ◌&&◌, not}
use Rattle.std.specs.Str.{bytes_eq}
use Rattle.std.proofs.lemmas.Slice.Eq.{bytes_eq-Decides}
use Rattle.std.proofs.lemmas.Bool.{eqb-true, eq-eqb}
use Rattle.js_lex.specs.declared.token.TokenKind.{TokenKind}
use Rattle.js_lex.specs.declared.token.Reserved.{Reserved}
use Rattle.js_lex.specs.declared.units.Class.TheVariants as class
use Rattle.js_lex.specs.declared.front.Front.{Front}
use Rattle.js_lex.specs.declared.front.Front.TheVariants as front
use Rattle.js_lex.specs.declared.front.Unread.TheVariants as bad
use Rattle.js_lex.specs.Tables.{reserved_words}
use Rattle.js_lex.specs.Units.{Text, is_digit, is_part, is_name}
use Rattle.js_lex.specs.Runs.{past, begins}
use Rattle.js_lex.specs.Front as code
use Rattle.js_lex.specs.Lists.{In, Every, Passes}
use Rattle.js_lex.specs.Elements.{Element, White, LineEnd, LineComment, BlockComment, Word, Numeric, String, Part, Sign, units, Stands, IsLongest, Begins}
use Rattle.js_lex.specs.Grammar.{Reading, Token, Refused, IsKind, IsAscii, ReadsWord}
use Rattle.js_lex.proofs.Truths.{cond_yes, cond_no, either, and_first, and_second, and_both, not_yes, part_name, all_of, in_all}
use Rattle.js_lex.proofs.Which.{Which, AtLineEnd, AtWhite, AtString, AtPart, AtNumber, AtName, which, which_sign, sort}
use Rattle.js_lex.proofs.Runs.{run, run_passes, run_least, run_length, every_wider, take_here, both_parts}
use Rattle.js_lex.proofs.Longest.{Found, front_for, sort_of, sign_sort, word_sort, number_sort, skip, chosen}

-- ---- the table

begins_all : (z w : Text) → begins z w ≡ true → length z ≡ length w → z ≡ w
begins_all [] [] h e = refl
begins_all (u ∷ z) [] h e = absurd (omega (arith, e))
begins_all [] (b ∷ w) h e = cc
begins_all (u ∷ z) (b ∷ w) h e =
    let x = eqb-true u b (and_first (u == b) (begins z w) h) in
    let y = begins_all z w (and_second (u == b) (begins z w) h) (omega (arith, e)) in cc

told_yes : (z w : Text) → (begins z w && (length z == length w)) ≡ true → z ≡ w
told_yes z w h = begins_all z w (and_first (begins z w) (length z == length w) h) (eqb-true (length z) (length w) (and_second (begins z w) (length z == length w) h))

eq_self : (n : ℕ) → (n == n) ≡ true
eq_self n = eq-eqb n n refl

pub begins_self : (w : Text) → begins w w ≡ true
begins_self [] = refl
begins_self (u ∷ w) = and_both (u == u) (begins w w) (eq_self u) (begins_self w)

told_self : (w : Text) → (begins w w && (length w == length w)) ≡ true
told_self w = and_both (begins w w) (length w == length w) (begins_self w) (eq_self (length w))

same_yes : (z w : Text) → bytes_eq z w ≡ true → z ≡ w
same_yes z w h = (bytes_eq-Decides z w).0 h

same_self : (w : Text) → bytes_eq w w ≡ true
same_self w = (bytes_eq-Decides w w).1 refl

both_told : (a b : Bool) → (a ≡ true → b ≡ true) → (b ≡ true → a ≡ true) → a ≡ b
both_told true b f g = sym (f refl)
both_told false true f g = g refl
both_told false false f g = refl

-- a word that the text begins with, and as long
pub same_told : (z w : Text) → (begins z w && (length z == length w)) ≡ bytes_eq z w
same_told z w =
    both_told (begins z w && (length z == length w)) (bytes_eq z w)
    (λ h. subst (λ (x : Text). bytes_eq z x ≡ true) (told_yes z w h) (same_self z))
    (λ h. subst (λ (x : Text). (begins z x && (length z == length x)) ≡ true) (same_yes z w h) (told_self z))

abbrev FoundIn : List (Text × Reserved) → Text → Option Reserved → Type 0
FoundIn ts w None = (r : Reserved) → In (w, r) ts → ⊥
FoundIn ts w (Some r) = In (w, r) ts

find_at : (w : Text) (x : Text × Reserved) (xs : List (Text × Reserved)) (b : Bool) (o : Option Reserved) → bytes_eq w x.0 ≡ b → FoundIn xs w o → FoundIn (x ∷ xs) w (cond b (Some x.1) o)
find_at w x xs true o e h = inl (ap (λ (z : Text). let r : Text × Reserved = (z, x.1) in r) (sym (same_yes w x.0 e)))
find_at w x xs false None e h = λ r i. elim i [
  | inl s ↦ (let y : bytes_eq w x.0 ≡ bytes_eq w w = ap (λ (z : Text × Reserved). bytes_eq w z.0) s in let t = same_self w in cc)
  | inr j ↦ h r j
]
find_at w x xs false (Some r) e h = inr h

find_sound : (xs : List (Text × Reserved)) (w : Text) → FoundIn xs w (code.find_word xs w)
find_sound [] w = λ r i. absurd i
find_sound (x ∷ xs) w = find_at w x xs (bytes_eq w x.0) (code.find_word xs w) refl (find_sound xs w)

kind_at : (w : Text) (o : Option Reserved) → FoundIn reserved_words w o → IsKind w (code.word_or_name w o)
kind_at w (Some r) h = inl (r, h, refl)
kind_at w None h = inr (h, refl)

kind_sound : (w : Text) → IsKind w (code.name_kind w)
kind_sound w = kind_at w (code.find_word reserved_words w) (find_sound reserved_words w)

abbrev distinct : List (Text × Reserved) → Bool
distinct [] = true
distinct (x ∷ xs) = all_of (λ (y : Text × Reserved). not (bytes_eq y.0 x.0)) xs && distinct xs

all_distinct : distinct reserved_words ≡ true
all_distinct = refl

find_only : (xs : List (Text × Reserved)) (w : Text) (r : Reserved) → distinct xs ≡ true → In (w, r) xs → code.find_word xs w ≡ Some r
find_only [] w r d i = absurd i
find_only (x ∷ xs) w r d (inl e) =
    cond_yes _ _ _ (ap (λ (y : Text × Reserved). bytes_eq w y.0) e ∙ same_self w) ∙ ap (λ (y : Text × Reserved). Some y.1) e
find_only (x ∷ xs) w r d (inr i) =
    let n = in_all (λ (y : Text × Reserved). not (bytes_eq y.0 x.0)) (w, r) xs i (and_first _ (distinct xs) d) in
    cond_no _ _ _ (not_yes (bytes_eq w x.0) n) ∙ find_only xs w r (and_second _ (distinct xs) d) i

find_none : (w : Text) (o : Option Reserved) → FoundIn reserved_words w o → ((r : Reserved) → In (w, r) reserved_words → ⊥) → o ≡ None
find_none w None f h = refl
find_none w (Some r) f h = absurd (h r f)

kind_only : (w : Text) (k : TokenKind) → IsKind w k → code.name_kind w ≡ k
kind_only w k (inl h) = ap (code.word_or_name w) (find_only reserved_words w h.0 all_distinct h.1) ∙ sym h.2
kind_only w k (inr h) = ap (code.word_or_name w) (find_none w (code.find_word reserved_words w) (find_sound reserved_words w) h.0) ∙ sym h.1

-- ---- words of ASCII

narrower : (z : Text) → run is_part z ≤ run is_name z
narrower z =
    let a = run_least is_name (take (run is_part z) z) (drop (run is_part z) z) (every_wider is_part is_name part_name _ (run_passes is_part z)) in
    let b : length (take (run is_part z) z) ≤ run is_name z = subst (λ (x : Text). length (take (run is_part z) z) ≤ run is_name x) (both_parts (run is_part z) z) a in
    omega (arith, b, run_length is_part z)

ascii_run : (z : Text) → Every (Passes is_part) (take (run is_name z) z) → run is_name z ≡ run is_part z
ascii_run z e =
    let a = run_least is_part (take (run is_name z) z) (drop (run is_name z) z) e in
    let b : length (take (run is_name z) z) ≤ run is_part z = subst (λ (x : Text). length (take (run is_name z) z) ≤ run is_part x) (both_parts (run is_name z) z) a in
    omega (arith, b, run_length is_name z, narrower z)

past_name : (z : Text) → past class.Name z 0 ≡ run is_name z
past_name z = omega arith

past_part : (z : Text) → past class.Part z 0 ≡ run is_part z
past_part z = omega arith

ascii_yes : (u : ℕ) (z : Text) → IsAscii (u ∷ take (run is_name z) z) → code.is_ascii u z (run is_name z) ≡ true
ascii_yes u z e = and_both (is_part u) (run is_name z == past class.Part z 0) e.0 (eq-eqb _ _ (ascii_run z e.1 ∙ sym (past_part z)))

ascii_only : (u : ℕ) (z : Text) → code.is_ascii u z (run is_name z) ≡ true → IsAscii (u ∷ take (run is_name z) z)
ascii_only u z e =
    let n : run is_name z ≡ run is_part z = eqb-true _ _ (and_second (is_part u) (run is_name z == past class.Part z 0) e) ∙ past_part z in
    (and_first (is_part u) (run is_name z == past class.Part z 0) e, subst (λ (m : ℕ). IsAscii (take m z)) (sym n) (run_passes is_part z))

abbrev ascii_name : ℕ → Text → Front
ascii_name u z = cond (code.is_ascii u z (run is_name z)) (code.word u z (run is_name z)) (front.Bad bad.Identifier)

by_run : (u : ℕ) (z : Text) → code.name u z ≡ ascii_name u z
by_run u z = ap (λ (n : ℕ). cond (code.is_ascii u z n) (code.word u z n) (front.Bad bad.Identifier)) (past_name z)

reads_at : (u : ℕ) (z : Text) (r : Reading) → ReadsWord (u ∷ take (run is_name z) z) r → ascii_name u z ≡ front_for r (1 + run is_name z)
reads_at u z r (inl h) =
    cond_yes _ _ _ (ascii_yes u z h.0)
    ∙ ap (λ (k : TokenKind). front.Token k (run is_name z)) (kind_only (u ∷ take (run is_name z) z) h.1.0 h.1.1)
    ∙ ap (λ (n : ℕ). front.Token h.1.0 n) (omega arith) ∙ ap (λ (x : Reading). front_for x (1 + run is_name z)) (sym h.1.2)
reads_at u z r (inr h) = elim (either (code.is_ascii u z (run is_name z))) [
  | inl y ↦ absurd (h.0 (ascii_only u z y))
  | inr n ↦ cond_no _ _ _ n ∙ ap (λ (x : Reading). front_for x (1 + run is_name z)) (sym h.1)
]

some_reading : (u : ℕ) (z : Text) → (r : Reading) × ReadsWord (u ∷ take (run is_name z) z) r
some_reading u z = elim (either (code.is_ascii u z (run is_name z))) [
  | inl y ↦ (Token (code.name_kind (u ∷ take (run is_name z) z)), inl (ascii_only u z y, (code.name_kind (u ∷ take (run is_name z) z), kind_sound (u ∷ take (run is_name z) z), refl)))
  | inr n ↦ (Refused bad.Identifier, inr ((λ a. let y = ascii_yes u z a in cc), refl))
]

-- ---- the longest word

word_facts : (h : Bool) (u : ℕ) (z : Text) → which h u z ≡ AtName → (is_digit u ≡ false) × (is_name u ≡ true)
word_facts h u z k =
    let a = skip _ AtLineEnd _ AtName (λ e. cc) k in
    let b = skip _ AtWhite _ AtName (λ e. cc) a.1 in
    let c = skip _ (AtString true) _ AtName (λ e. cc) b.1 in
    let d = skip _ (AtString false) _ AtName (λ e. cc) c.1 in
    let e = skip _ (AtPart true) _ AtName (λ e. cc) d.1 in
    let f = skip _ (AtPart false) _ AtName (λ e. cc) e.1 in
    let g = skip _ AtNumber _ AtName (λ e. cc) f.1 in
    (g.0, chosen _ AtName (which_sign u z) AtName (sign_sort (λ (x : Which). x ≡ AtName → ⊥) (λ e. cc) (λ e. cc) (λ e. cc) u z) g.1)

word_bound : (f : Element) (more : Text) (h : Bool) (u : ℕ) (z : Text) → sort f more ≡ AtName → Stands h f more → units f ++ more ≡ u ∷ z → length (units f) ≤ 1 + run is_name z
word_bound (Word v w) more h u z e s k =
    let same : w ++ more ≡ z = cc in
    let x = run_least is_name w more s.1.1 in
    let y : length w ≤ run is_name z = subst (λ (x : Text). length w ≤ run is_name x) same x in
    omega (arith, y)
word_bound (Numeric n) more h u z e s k = absurd (number_sort (λ (x : Which). x ≡ AtName → ⊥) (λ e. cc) (λ e. cc) n e)
word_bound (Sign w p) more h u z e s k = absurd (word_sort (λ (x : Which). x ≡ AtName → ⊥) (λ e. cc) (λ e. cc) (λ e. cc) w more e)
word_bound (White v) more h u z e s k = cc
word_bound (LineEnd v) more h u z e s k = cc
word_bound (LineComment w) more h u z e s k = cc
word_bound (BlockComment w) more h u z e s k = cc
word_bound (String d cs) more h u z e s k = cc
word_bound (Part b cs x) more h u z e s k = cc

abbrev front_word : ℕ → Text → Element
front_word u z = Word u (take (run is_name z) z)

stands_word : (h : Bool) (u : ℕ) (z more : Text) → is_digit u ≡ false → is_name u ≡ true → Stands h (front_word u z) more
stands_word h u z more d n = (d, (n, run_passes is_name z))

begins_word : (h : Bool) (u : ℕ) (z : Text) → which h u z ≡ AtName → Begins h (u ∷ z) (front_word u z) (drop (run is_name z) z)
begins_word h u z k =
    let w = word_facts h u z k in
    let parts : u ∷ (take (run is_name z) z ++ drop (run is_name z) z) ≡ u ∷ z = ap (λ (x : Text). u ∷ x) (both_parts (run is_name z) z) in
    record {
      is_text = sym parts;
      stands = stands_word h u z (drop (run is_name z) z) w.0 w.1;
      longest = λ f more s e.
          let x = word_bound f more h u z (sort_of h f more u z s (e ∙ parts) ∙ k) s (e ∙ parts) in
          omega (arith, x, run_length is_name z);
    }

pub found_word : (h : Bool) (u : ℕ) (z : Text) → which h u z ≡ AtName → Found h (u ∷ z) (code.name u z)
found_word h u z k =
    let r = some_reading u z in
    record {
      element = front_word u z;
      rest = drop (run is_name z) z;
      reading = r.0;
      begins = begins_word h u z k;
      reads = r.1;
      is = by_run u z ∙ reads_at u z r.0 r.1 ∙ ap (front_for r.0) (omega (arith, run_length is_name z));
    }

pub word_only : (h : Bool) (u : ℕ) (w z : Text) (r : Reading) → Stands h (Word u w) z → IsLongest h (Word u w) z → ReadsWord (u ∷ w) r → code.name u (w ++ z) ≡ front_for r (1 + length w)
word_only h u w z r s l d =
    let a = run_least is_name w z s.1.1 in
    let b = l (front_word u (w ++ z)) (drop (run is_name (w ++ z)) (w ++ z)) (stands_word h u (w ++ z) (drop (run is_name (w ++ z)) (w ++ z)) s.0 s.1.0) (ap (λ (x : Text). u ∷ x) (both_parts (run is_name (w ++ z)) (w ++ z))) in
    let n : run is_name (w ++ z) ≡ length w = omega (arith, a, b, run_length is_name (w ++ z)) in
    let t : take (run is_name (w ++ z)) (w ++ z) ≡ w = ap (λ (m : ℕ). take m (w ++ z)) n ∙ take_here w z in
    by_run u (w ++ z) ∙ reads_at u (w ++ z) r (subst (λ (x : Text). ReadsWord (u ∷ x) r) (sym t) d) ∙ ap (λ (m : ℕ). front_for r (1 + m)) n
