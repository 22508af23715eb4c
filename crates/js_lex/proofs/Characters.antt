-- The characters of strings and templates.
use Rattle.std.proofs.Common.{◌≡◌, ℕ, zero, suc, ◌+◌, ◌-◌, ◌*◌, ◌≤◌, Bool, true, false, cond, List, [], ◌∷◌, ◌++◌, take, drop, length, Option, Some, None, refl, sym, ◌∙◌, ap, subst, arith, append_assoc, ◌⊎◌, inl, inr}
use Rattle.js_lex.specs.Values.{code_units, escaped}
use Rattle.std.specs.Prelude.{◌/◌, ◌%◌, ◌==◌, ◌&&◌, ◌||◌, not, nat_le, slice_index}
use Rattle.std.proofs.lemmas.Bool.{eqb-true, eq-eqb, le-leb, leb-true}
use Rattle.std.proofs.lemmas.List.{length-append}
use Rattle.js_lex.specs.declared.units.Class.TheVariants as class
use Rattle.js_lex.specs.declared.letters.Quote.{Quote}
use Rattle.js_lex.specs.declared.letters.Quote.TheVariants as quote
use Rattle.js_lex.specs.declared.letters.Meaning.{Meaning}
use Rattle.js_lex.specs.declared.letters.Meaning.TheVariants as m
use Rattle.js_lex.specs.declared.letters.Letter.{Letter}
use Rattle.js_lex.specs.declared.letters.Ending.{Ending}
use Rattle.js_lex.specs.declared.letters.Ending.TheVariants as ending
use Rattle.js_lex.specs.declared.letters.Next.{Next}
use Rattle.js_lex.specs.declared.letters.Next.TheVariants as next
use Rattle.js_lex.specs.declared.letters.Body.{Body}
use Rattle.js_lex.specs.Units.{Text, is_line_end, is_digit, is_hex, digit_of, value}
use Rattle.js_lex.specs.Runs.{past, numeral}
use Rattle.js_lex.specs.Letters.{meant, encoded, one, hex_escape, four_digits, of_code, code_point, unicode_escape, digit_escape, line_units, line_continuation, escape, raw, letter_of, ending_units, read, end_or, next_of, after, joined, body_of}
use Rattle.js_lex.specs.Lists.{Every, Passes, NotNext, is}
use Rattle.js_lex.specs.Characters.{HexDigits, Character, Plain, Line, Escape, Nul, HexPair, Four, CodePoint, Continued, character_units, character_value, LineEnds, Returns, IsPlain, StandsIn, characters_units, characters_value, AreCharacters, mark, ending_text}
use Rattle.js_lex.proofs.LetterLemmas.{body_drop}
use Rattle.js_lex.proofs.Truths.{cond_yes, cond_no, cond_ap, either, or_no, or_first, or_second, or_split, and_first, and_second, and_both, and_no_first, and_no_second, not_yes, not_no, apart}
use Rattle.js_lex.proofs.Runs.{run, run_exact, run_passes, run_length, take_here, drop_here, one_behind}
use Rattle.js_lex.proofs.Signs.{no_truth}

-- ---- a character is the next letter

abbrev pub letter : ℕ → Meaning → Letter
letter n x = record { more = n; meaning = x }

not_next : (f : ℕ → Bool) (z : Text) → f 0 ≡ false → NotNext f z → f (slice_index z 0) ≡ false
not_next f [] a h = a
not_next f (u ∷ z) a h = h

escape_next : (q : Quote) (y : Text) → next_of q 92 y ≡ read (escape y)
escape_next quote.Single y = refl
escape_next quote.Double y = refl
escape_next quote.Template y = refl

string_plain : (u : ℕ) (z : Text) (c : ℕ) → (u == c || (u == 92 || (u == 10 || u == 13))) ≡ false → end_or (cond (u == c) (Some ending.Closed) None) (cond (u == 92) (escape z) (cond (u == 10 || u == 13) None (one 0 u))) ≡ next.Letter (letter 0 (m.One u))
string_plain u z c h =
    let a = or_first (u == c) (u == 92 || (u == 10 || u == 13)) h in
    let b = or_second (u == c) (u == 92 || (u == 10 || u == 13)) h in
    ap (λ (e : Option Ending). end_or e (cond (u == 92) (escape z) (cond (u == 10 || u == 13) None (one 0 u)))) (cond_no (u == c) (Some ending.Closed) None a)
    ∙ ap read (cond_no (u == 92) (escape z) (cond (u == 10 || u == 13) None (one 0 u)) (or_first (u == 92) (u == 10 || u == 13) b) ∙ cond_no (u == 10 || u == 13) None (one 0 u) (or_second (u == 92) (u == 10 || u == 13) b))

no_hole : (u : ℕ) (z : Text) → ((u == 36) ≡ true → NotNext (is 123) z) → (u == 36 && slice_index z 0 == 123) ≡ false
no_hole u z h = elim (either (u == 36)) [
  | inl y ↦ and_no_second (u == 36) (slice_index z 0 == 123) (not_next (is 123) z refl (h y))
  | inr n ↦ and_no_first (u == 36) (slice_index z 0 == 123) n
]

template_plain : (u : ℕ) (z : Text) → IsPlain quote.Template u z → next_of quote.Template u z ≡ next.Letter (letter 0 (m.One u))
template_plain u z h =
    let a = or_first (u == 96) (u == 92 || u == 13) h.0 in
    let b = or_second (u == 96) (u == 92 || u == 13) h.0 in
    ap (λ (e : Option Ending). end_or e (letter_of quote.Template u z)) (cond_no (u == 96) (Some ending.Closed) (cond (u == 36 && slice_index z 0 == 123) (Some ending.Hole) None) a ∙ cond_no (u == 36 && slice_index z 0 == 123) (Some ending.Hole) None (no_hole u z h.1))
    ∙ ap read (cond_no (u == 92) (escape z) (raw quote.Template u z) (or_first (u == 92) (u == 13) b) ∙ cond_no (u == 13) (one (line_units u z) 10) (one 0 u) (or_second (u == 92) (u == 13) b))

abbrev next_at : Quote → Text → Next
next_at q [] = next.Broken
next_at q (u ∷ z) = next_of q u z

-- the character is this letter
record Letters (q : Quote) (c : Character) (z : Text) : Type 0 where
  l : Letter
  at : next_at q (character_units c ++ z) ≡ next.Letter l
  size : length (character_units c) ≡ 1 + l.more
  means : meant l.meaning ≡ character_value c

plain_letter : (q : Quote) (u : ℕ) (z : Text) → IsPlain q u z → Letters q (Plain u) z
plain_letter quote.Single u z h = record { l = letter 0 (m.One u); at = string_plain u z 39 h; size = omega arith; means = refl }
plain_letter quote.Double u z h = record { l = letter 0 (m.One u); at = string_plain u z 34 h; size = omega arith; means = refl }
plain_letter quote.Template u z h = record { l = letter 0 (m.One u); at = template_plain u z h; size = omega arith; means = refl }

one_line : (z : Text) → NotNext (is 10) z → line_units 13 z ≡ 0
one_line z h = cond_no (slice_index z 0 == 10) 1 0 (not_next (is 10) z refl h)

template_line : (e z : Text) → Returns e z → Letters quote.Template (Line e) z
template_line e z (inl h) =
    subst (λ (x : Text). Letters quote.Template (Line x) z) (sym h.0)
    (record { l = letter 0 (m.One 10); at = ap (λ (n : ℕ). next.Letter (letter n (m.One 10))) (one_line z h.1); size = omega arith; means = refl })
template_line e z (inr h) =
    subst (λ (x : Text). Letters quote.Template (Line x) z) (sym h) (record { l = letter 1 (m.One 10); at = refl; size = omega arith; means = refl })

escape_letter : (q : Quote) (u : ℕ) (z : Text) → (u == 120 || (u == 117 || (is_digit u || is_line_end u))) ≡ false → Letters q (Escape u) z
escape_letter q u z h =
    let a = or_first (u == 120) (u == 117 || (is_digit u || is_line_end u)) h in
    let b = or_second (u == 120) (u == 117 || (is_digit u || is_line_end u)) h in
    let c = or_second (u == 117) (is_digit u || is_line_end u) b in
    record {
      l = letter 1 (m.One (escaped u));
      at = escape_next q (u ∷ z) ∙ ap read (cond_no (u == 120) _ _ a ∙ cond_no (u == 117) _ _ (or_first (u == 117) (is_digit u || is_line_end u) b) ∙ cond_no (is_digit u) _ _ (or_first (is_digit u) (is_line_end u) c) ∙ cond_no (is_line_end u) _ _ (or_second (is_digit u) (is_line_end u) c));
      size = omega arith;
      means = refl;
    }

nul_letter : (q : Quote) (z : Text) → NotNext is_digit z → Letters q Nul z
nul_letter q z h =
    record {
      l = letter 1 (m.One 0);
      at = escape_next q (48 ∷ z) ∙ ap read (cond_yes (not (is_digit (slice_index z 0))) _ _ (not_no (is_digit (slice_index z 0)) (not_next is_digit z refl h)));
      size = omega arith;
      means = refl;
    }

pair_letter : (q : Quote) (h l : ℕ) (z : Text) → Every (Passes is_hex) (h ∷ l ∷ []) → Letters q (HexPair h l) z
pair_letter q h l z e =
    let long : nat_le 2 (length (h ∷ l ∷ z)) ≡ true = le-leb 2 (length (h ∷ l ∷ z)) (omega arith) in
    record {
      l = letter 3 (m.One (16 * digit_of h + digit_of l));
      at = escape_next q (120 ∷ h ∷ l ∷ z) ∙ ap read (cond_yes _ _ _ (and_both (nat_le 2 (length (h ∷ l ∷ z))) (is_hex h && is_hex l) long (and_both (is_hex h) (is_hex l) e.0 e.1.0)));
      size = omega arith;
      means = ap (λ (n : ℕ). n ∷ []) (omega arith);
    }

four_letter : (q : Quote) (a b c d : ℕ) (z : Text) → Every (Passes is_hex) (a ∷ b ∷ c ∷ d ∷ []) → Letters q (Four a b c d) z
four_letter q a b c d z e =
    let long : nat_le 4 (length (a ∷ b ∷ c ∷ d ∷ z)) ≡ true = le-leb 4 (length (a ∷ b ∷ c ∷ d ∷ z)) (omega arith) in
    let no : (a == 123) ≡ false = apart is_hex a 123 e.0 refl in
    record {
      l = letter 5 (m.One (4096 * digit_of a + 256 * digit_of b + (16 * digit_of c + digit_of d)));
      at =
          escape_next q (117 ∷ a ∷ b ∷ c ∷ d ∷ z)
          ∙ ap read (cond_no (a == 123) _ _ no ∙ cond_yes _ _ _ (and_both (nat_le 4 (length (a ∷ b ∷ c ∷ d ∷ z))) ((is_hex a && is_hex b) && (is_hex c && is_hex d)) long (and_both (is_hex a && is_hex b) (is_hex c && is_hex d) (and_both (is_hex a) (is_hex b) e.0 e.1.0) (and_both (is_hex c) (is_hex d) e.1.1.0 e.1.1.1.0))));
      size = omega arith;
      means = ap (λ (n : ℕ). n ∷ []) (omega arith);
    }

long_no_zero : (n : ℕ) → 1 ≤ n → (n == 0) ≡ false
long_no_zero n h = apart (λ (k : ℕ). nat_le 1 k) n 0 (le-leb 1 n h) refl

index_behind : (w : Text) (u : ℕ) (z : Text) → slice_index (w ++ u ∷ z) (length w) ≡ u
index_behind [] u z = refl
index_behind (v ∷ w) u z = index_behind w u z

point_code : (ds z : Text) → HexDigits ds → value 16 0 ds ≤ 1114111 → code_point (ds ++ 125 ∷ z) ≡ Some (letter (length ds + 3) (encoded (value 16 0 ds)))
point_code ds z d v =
    let n : past class.Hex (ds ++ 125 ∷ z) 0 ≡ length ds = omega (arith, run_exact is_hex ds (125 ∷ z) d.0 refl) in
    let f : (k : ℕ) → Option Letter = λ k. cond (k == 0 || not (slice_index (ds ++ 125 ∷ z) k == 125)) None (of_code (k + 3) (numeral 1114111 16 0 (take k (ds ++ 125 ∷ z)))) in
    ap f n
    ∙ cond_no (length ds == 0 || not (slice_index (ds ++ 125 ∷ z) (length ds) == 125)) None _ (or_no (length ds == 0) _ (long_no_zero (length ds) d.1) (ap (λ (k : ℕ). not (k == 125)) (index_behind ds 125 z)))
    ∙ ap (λ (x : Text). of_code (length ds + 3) (numeral 1114111 16 0 x)) (take_here ds (125 ∷ z))
    ∙ ap (of_code (length ds + 3)) (cond_yes _ _ _ (le-leb (value 16 0 ds) 1114111 v))

encodes : (c : ℕ) → meant (encoded c) ≡ code_units c
encodes c = cond_ap meant (nat_le 65536 c) (m.Pair (55296 + (c - 65536) / 1024) (56320 + (c - 65536) % 1024)) (m.One c)

point_letter : (q : Quote) (ds z : Text) → HexDigits ds → value 16 0 ds ≤ 1114111 → Letters q (CodePoint ds) z
point_letter q ds z d v =
    record {
      l = letter (length ds + 3) (encoded (value 16 0 ds));
      at = escape_next q (117 ∷ 123 ∷ ((ds ++ 125 ∷ []) ++ z)) ∙ ap (λ (x : Text). read (code_point x)) (append_assoc ds (125 ∷ []) z) ∙ ap read (point_code ds z d v);
      size = omega (arith, length-append ds (125 ∷ []));
      means = encodes (value 16 0 ds);
    }

continued_letter : (q : Quote) (e z : Text) → LineEnds e z → Letters q (Continued e) z
continued_letter q e z (inl h) =
    subst (λ (x : Text). Letters q (Continued x) z) (sym h.0)
    (record { l = letter 1 m.Nothing; at = escape_next q (13 ∷ z) ∙ ap (λ (n : ℕ). next.Letter (letter (1 + n) m.Nothing)) (one_line z h.1); size = omega arith; means = refl })
continued_letter q e z (inr (inl h)) = subst (λ (x : Text). Letters q (Continued x) z) h (record { l = letter 1 m.Nothing; at = escape_next q (10 ∷ z); size = omega arith; means = refl })
continued_letter q e z (inr (inr (inl h))) = subst (λ (x : Text). Letters q (Continued x) z) h (record { l = letter 1 m.Nothing; at = escape_next q (8232 ∷ z); size = omega arith; means = refl })
continued_letter q e z (inr (inr (inr (inl h)))) = subst (λ (x : Text). Letters q (Continued x) z) h (record { l = letter 1 m.Nothing; at = escape_next q (8233 ∷ z); size = omega arith; means = refl })
continued_letter q e z (inr (inr (inr (inr (inl h))))) = subst (λ (x : Text). Letters q (Continued x) z) h (record { l = letter 2 m.Nothing; at = escape_next q (13 ∷ 10 ∷ z); size = omega arith; means = refl })
continued_letter q e z (inr (inr (inr (inr (inr h))))) = absurd h

letters : (q : Quote) (c : Character) (z : Text) → StandsIn q c z → Letters q c z
letters q (Plain u) z h = plain_letter q u z h
letters q (Line e) z h = subst (λ (x : Quote). Letters x (Line e) z) (sym h.0) (template_line e z h.1)
letters q (Escape u) z h = escape_letter q u z h
letters q Nul z h = nul_letter q z h
letters q (HexPair a b) z h = pair_letter q a b z h
letters q (Four a b c d) z h = four_letter q a b c d z h
letters q (CodePoint ds) z h = point_letter q ds z h.0 h.1
letters q (Continued e) z h = continued_letter q e z h

-- ---- the characters are the letters

-- a string has no `${`
abbrev pub MayEnd : Quote → Ending → Type 0
MayEnd q e = (e ≡ ending.Closed) ⊎ (q ≡ quote.Template)

abbrev pub body : List Character → Ending → Body
body cs e = record { value = characters_value cs; units = length (characters_units cs) + ending_units e; ending = e }

letter_body : (q : Quote) (u : ℕ) (z : Text) (l : Letter) (b : Body) → next_of q u z ≡ next.Letter l → body_of q 0 (drop l.more z) ≡ Some b → body_of q 0 (u ∷ z) ≡ after (meant l.meaning) (1 + l.more) (Some b)
letter_body q u z l b n h = ap (λ (x : Next). joined x (λ k. body_of q k z)) n ∙ ap (after (meant l.meaning) (1 + l.more)) (body_drop q l.more z ∙ h)

at_letter : (q : Quote) (w z : Text) (l : Letter) (b : Body) → next_at q (w ++ z) ≡ next.Letter l → length w ≡ 1 + l.more → body_of q 0 z ≡ Some b → body_of q 0 (w ++ z) ≡ after (meant l.meaning) (1 + l.more) (Some b)
at_letter q [] z l b n s h = absurd (omega (arith, s))
at_letter q (u ∷ w) z l b n s h =
    let k : l.more ≡ length w = omega (arith, s) in
    letter_body q u (w ++ z) l b n (ap (λ (i : ℕ). body_of q 0 (drop i (w ++ z))) k ∙ ap (body_of q 0) (drop_here w z) ∙ h)

end_body : (q : Quote) (e : Ending) (z : Text) → MayEnd q e → body_of q 0 (ending_text q e ++ z) ≡ Some (body [] e)
end_body quote.Single ending.Closed z h = refl
end_body quote.Double ending.Closed z h = refl
end_body quote.Template ending.Closed z h = refl
end_body quote.Template ending.Hole z h = refl
end_body quote.Single ending.Hole z (inl h) = cc
end_body quote.Single ending.Hole z (inr h) = cc
end_body quote.Double ending.Hole z (inl h) = cc
end_body quote.Double ending.Hole z (inr h) = cc

pub body_whole : (q : Quote) (cs : List Character) (e : Ending) (z : Text) → AreCharacters q cs (ending_text q e ++ z) → MayEnd q e → body_of q 0 (characters_units cs ++ (ending_text q e ++ z)) ≡ Some (body cs e)
body_whole q [] e z a h = end_body q e z h
body_whole q (c ∷ cs) e z a h =
    let l = letters q c (characters_units cs ++ (ending_text q e ++ z)) a.0 in
    let rest = body_whole q cs e z a.1 h in
    let sum : 1 + l.l.more + (length (characters_units cs) + ending_units e) ≡ length (character_units c ++ characters_units cs) + ending_units e = omega (arith, l.size, length-append (character_units c) (characters_units cs)) in
    ap (body_of q 0) (append_assoc (character_units c) (characters_units cs) (ending_text q e ++ z))
    ∙ at_letter q (character_units c) (characters_units cs ++ (ending_text q e ++ z)) l.l (body cs e) l.at l.size rest
    ∙ ap (λ (x : List ℕ). let r : Option Body = Some (record { value = x ++ characters_value cs; units = 1 + l.l.more + (length (characters_units cs) + ending_units e); ending = e }) in r) l.means
    ∙ ap (λ (n : ℕ). let r : Option Body = Some (record { value = character_value c ++ characters_value cs; units = n; ending = e }) in r) sum

-- ---- a letter is a character

by_cond : {A : Type 0} (P : A → Type 0) (r : Bool) (x y : A) → (r ≡ true → P x) → (r ≡ false → P y) → P (cond r x y)
by_cond P true x y f g = f refl
by_cond P false x y f g = g refl

record Char (q : Quote) (t : Text) (l : Letter) : Type 0 where
  char : Character
  rest : Text
  text : t ≡ character_units char ++ rest
  stands : StandsIn q char rest
  size : length (character_units char) ≡ 1 + l.more
  means : meant l.meaning ≡ character_value char

abbrev Known : Quote → Text → Option Letter → Type 0
Known q t None = Unit {0}
Known q t (Some l) = Char q t l

head_next : (f : ℕ → Bool) (z : Text) → f (slice_index z 0) ≡ false → NotNext f z
head_next f [] h = tt
head_next f (u ∷ z) h = h

hex_known : (q : Quote) (z : Text) → Known q (92 ∷ 120 ∷ z) (hex_escape z)
hex_known q [] = tt
hex_known q (a ∷ []) = tt
hex_known q (a ∷ b ∷ z) =
    by_cond (Known q (92 ∷ 120 ∷ a ∷ b ∷ z)) (nat_le 2 (length (a ∷ b ∷ z)) && (is_hex a && is_hex b)) (one 3 (16 * digit_of a + digit_of b)) None (λ y.
    let h = and_second (nat_le 2 (length (a ∷ b ∷ z))) (is_hex a && is_hex b) y in
    record {
      char = HexPair a b;
      rest = z;
      text = refl;
      stands = (and_first (is_hex a) (is_hex b) h, (and_second (is_hex a) (is_hex b) h, tt));
      size = omega arith;
      means = ap (λ (n : ℕ). n ∷ []) (omega arith);
    }) (λ n. tt)

four_known : (q : Quote) (z : Text) → Known q (92 ∷ 117 ∷ z) (four_digits z)
four_known q [] = tt
four_known q (a ∷ []) = tt
four_known q (a ∷ b ∷ []) = tt
four_known q (a ∷ b ∷ c ∷ []) = tt
four_known q (a ∷ b ∷ c ∷ d ∷ z) =
    by_cond (Known q (92 ∷ 117 ∷ a ∷ b ∷ c ∷ d ∷ z)) (nat_le 4 (length (a ∷ b ∷ c ∷ d ∷ z)) && ((is_hex a && is_hex b) && (is_hex c && is_hex d))) (one 5 (4096 * digit_of a + 256 * digit_of b + (16 * digit_of c + digit_of d))) None (λ y.
    let h = and_second (nat_le 4 (length (a ∷ b ∷ c ∷ d ∷ z))) ((is_hex a && is_hex b) && (is_hex c && is_hex d)) y in
    let i = and_first (is_hex a && is_hex b) (is_hex c && is_hex d) h in
    let j = and_second (is_hex a && is_hex b) (is_hex c && is_hex d) h in
    record {
      char = Four a b c d;
      rest = z;
      text = refl;
      stands = (and_first (is_hex a) (is_hex b) i, (and_second (is_hex a) (is_hex b) i, (and_first (is_hex c) (is_hex d) j, (and_second (is_hex c) (is_hex d) j, tt))));
      size = omega arith;
      means = ap (λ (n : ℕ). n ∷ []) (omega arith);
    }) (λ n. tt)

split_at : (n : ℕ) (z : Text) (u : ℕ) → slice_index z n ≡ u → (0 == u) ≡ false → z ≡ take n z ++ u ∷ drop (suc n) z
split_at n [] u h k = (let e : 0 ≡ u = h in absurd (no_truth (sym (eq-eqb 0 u e) ∙ k)))
split_at zero (v ∷ z) u h k = ap (λ (x : ℕ). x ∷ z) h
split_at (suc n) (v ∷ z) u h k = ap (λ (x : Text). v ∷ x) (split_at n z u h k)

not_no_more : (a : Bool) → not a ≡ false → a ≡ true
not_no_more true h = refl
not_no_more false h = cc

not_zero : (n : ℕ) → (n == 0) ≡ false → 1 ≤ n
not_zero zero h = absurd (no_truth h)
not_zero (suc n) h = omega arith

point_at : (q : Quote) (z : Text) (n : ℕ) → n ≡ run is_hex z → Known q (92 ∷ 117 ∷ 123 ∷ z) (cond (n == 0 || not (slice_index z n == 125)) None (of_code (n + 3) (numeral 1114111 16 0 (take n z))))
point_at q z n e =
    let t = 92 ∷ 117 ∷ 123 ∷ z in
    by_cond (Known q (92 ∷ 117 ∷ 123 ∷ z)) (n == 0 || not (slice_index z n == 125)) None (of_code (n + 3) (numeral 1114111 16 0 (take n z))) (λ y. tt) (λ no.
    by_cond (λ (o : Option ℕ). Known q (92 ∷ 117 ∷ 123 ∷ z) (of_code (n + 3) o)) (nat_le (value 16 0 (take n z)) 1114111) (Some (value 16 0 (take n z))) None (λ y.
    let some = not_zero n (or_first (n == 0) (not (slice_index z n == 125)) no) in
    let at = eqb-true (slice_index z n) 125 (not_no_more (slice_index z n == 125) (or_second (n == 0) (not (slice_index z n == 125)) no)) in
    let len : length (take n z) ≡ n = ap (λ (k : ℕ). length (take k z)) e ∙ run_length is_hex z ∙ sym e in
    let parts : z ≡ (take n z ++ 125 ∷ []) ++ drop (suc n) z = split_at n z 125 at refl ∙ sym (append_assoc (take n z) (125 ∷ []) (drop (suc n) z)) in
    record {
      char = CodePoint (take n z);
      rest = drop (suc n) z;
      text = ap (λ (x : Text). 92 ∷ 117 ∷ 123 ∷ x) parts;
      stands = ((subst (λ (k : ℕ). Every (Passes is_hex) (take k z)) (sym e) (run_passes is_hex z), omega (arith, some, len)), leb-true (value 16 0 (take n z)) 1114111 y);
      size = omega (arith, length-append (take n z) (125 ∷ []), len);
      means = encodes (value 16 0 (take n z));
    }) (λ y. tt))

unicode_known : (q : Quote) (z : Text) → Known q (92 ∷ 117 ∷ z) (unicode_escape z)
unicode_known q [] = tt
unicode_known q (u ∷ z) =
    by_cond (Known q (92 ∷ 117 ∷ u ∷ z)) (u == 123) (code_point z) (four_digits (u ∷ z))
    (λ y. subst (λ (v : ℕ). Known q (92 ∷ 117 ∷ v ∷ z) (code_point z)) (sym (eqb-true u 123 y)) (point_at q z (past class.Hex z 0) (omega arith))) (λ n. four_known q (u ∷ z))

digit_known : (q : Quote) (u : ℕ) (z : Text) → Known q (92 ∷ u ∷ z) (digit_escape u z)
digit_known q u z =
    by_cond (Known q (92 ∷ u ∷ z)) (u == 48 && not (is_digit (slice_index z 0))) (one 1 0) None (λ y.
    let e = eqb-true u 48 (and_first (u == 48) (not (is_digit (slice_index z 0))) y) in
    let n = not_yes (is_digit (slice_index z 0)) (and_second (u == 48) (not (is_digit (slice_index z 0))) y) in
    record { char = Nul; rest = z; text = ap (λ (v : ℕ). 92 ∷ v ∷ z) e; stands = head_next is_digit z n; size = omega arith; means = refl }) (λ n. tt)

single_line : (q : Quote) (u : ℕ) (z : Text) → LineEnds (u ∷ []) z → line_units u z ≡ 0 → Known q (92 ∷ u ∷ z) (line_continuation u z)
single_line q u z h e =
    subst (λ (n : ℕ). Known q (92 ∷ u ∷ z) (Some (letter (1 + n) m.Nothing))) (sym e)
    (record { char = Continued (u ∷ []); rest = z; text = refl; stands = h; size = omega arith; means = refl })

return_line : (q : Quote) (z : Text) → Known q (92 ∷ 13 ∷ z) (line_continuation 13 z)
return_line q [] = single_line q 13 [] (inl (refl, tt)) refl
return_line q (v ∷ z) = elim (either (v == 10)) [
  | inl y ↦ subst (λ (x : ℕ). Known q (92 ∷ 13 ∷ x ∷ z) (line_continuation 13 (x ∷ z))) (sym (eqb-true v 10 y)) (record { char = Continued (13 ∷ 10 ∷ []); rest = z; text = refl; stands = inr (inr (inr (inr (inl refl)))); size = omega arith; means = refl })
  | inr n ↦ single_line q 13 (v ∷ z) (inl (refl, n)) (one_line (v ∷ z) n)
]

line_known : (q : Quote) (u : ℕ) (z : Text) → is_line_end u ≡ true → Known q (92 ∷ u ∷ z) (line_continuation u z)
line_known q u z h = elim (or_split (u == 10 || u == 13) (u == 8232 || u == 8233) h) [
  | inl a ↦ elim (or_split (u == 10) (u == 13) a) [
    | inl e ↦ subst (λ (v : ℕ). Known q (92 ∷ v ∷ z) (line_continuation v z)) (sym (eqb-true u 10 e)) (single_line q 10 z (inr (inl refl)) refl)
    | inr e ↦ subst (λ (v : ℕ). Known q (92 ∷ v ∷ z) (line_continuation v z)) (sym (eqb-true u 13 e)) (return_line q z)
  ]
  | inr a ↦ elim (or_split (u == 8232) (u == 8233) a) [
    | inl e ↦ subst (λ (v : ℕ). Known q (92 ∷ v ∷ z) (line_continuation v z)) (sym (eqb-true u 8232 e)) (single_line q 8232 z (inr (inr (inl refl))) refl)
    | inr e ↦ subst (λ (v : ℕ). Known q (92 ∷ v ∷ z) (line_continuation v z)) (sym (eqb-true u 8233 e)) (single_line q 8233 z (inr (inr (inr (inl refl)))) refl)
  ]
]

escape_known : (q : Quote) (z : Text) → Known q (92 ∷ z) (escape z)
escape_known q [] = tt
escape_known q (u ∷ z) =
    by_cond (Known q (92 ∷ u ∷ z)) (u == 120) (hex_escape z) _ (λ y. subst (λ (v : ℕ). Known q (92 ∷ v ∷ z) (hex_escape z)) (sym (eqb-true u 120 y)) (hex_known q z)) (λ a.
    by_cond (Known q (92 ∷ u ∷ z)) (u == 117) (unicode_escape z) _ (λ y. subst (λ (v : ℕ). Known q (92 ∷ v ∷ z) (unicode_escape z)) (sym (eqb-true u 117 y)) (unicode_known q z)) (λ b.
    by_cond (Known q (92 ∷ u ∷ z)) (is_digit u) (digit_escape u z) _ (λ y. digit_known q u z) (λ c.
    by_cond (Known q (92 ∷ u ∷ z)) (is_line_end u) (line_continuation u z) (one 1 (escaped u)) (λ y. line_known q u z y)
    (λ d. record { char = Escape u; rest = z; text = refl; stands = or_no (u == 120) _ a (or_no (u == 117) _ b (or_no (is_digit u) (is_line_end u) c d)); size = omega arith; means = refl }))))

record Ends (q : Quote) (t : Text) (e : Ending) : Type 0 where
  rest : Text
  text : t ≡ ending_text q e ++ rest
  may : MayEnd q e

abbrev KnownNext : Quote → Text → Next → Type 0
KnownNext q t next.Broken = Unit {0}
KnownNext q t (next.End e) = Ends q t e
KnownNext q t (next.Letter l) = Char q t l

read_known : (q : Quote) (t : Text) (o : Option Letter) → Known q t o → KnownNext q t (read o)
read_known q t None h = tt
read_known q t (Some l) h = h

closed : (q : Quote) (u : ℕ) (z : Text) → (u == mark q) ≡ true → Ends q (u ∷ z) ending.Closed
closed q u z h = record { rest = z; text = ap (λ (v : ℕ). v ∷ z) (eqb-true u (mark q) h); may = inl refl }

begins_escape : (q : Quote) (u : ℕ) (z : Text) → (u == 92) ≡ true → KnownNext q (u ∷ z) (read (escape z))
begins_escape q u z h = read_known q (u ∷ z) (escape z) (subst (λ (v : ℕ). Known q (v ∷ z) (escape z)) (sym (eqb-true u 92 h)) (escape_known q z))

plain_char : (q : Quote) (u : ℕ) (z : Text) → IsPlain q u z → Char q (u ∷ z) (letter 0 (m.One u))
plain_char q u z h = record { char = Plain u; rest = z; text = refl; stands = h; size = omega arith; means = refl }

string_known : (q : Quote) (c u : ℕ) (z : Text) → c ≡ mark q → ((u == c || (u == 92 || (u == 10 || u == 13))) ≡ false → IsPlain q u z) → KnownNext q (u ∷ z) (end_or (cond (u == c) (Some ending.Closed) None) (cond (u == 92) (escape z) (cond (u == 10 || u == 13) None (one 0 u))))
string_known q c u z e f =
    by_cond (λ (x : Option Ending). KnownNext q (u ∷ z) (end_or x (cond (u == 92) (escape z) (cond (u == 10 || u == 13) None (one 0 u))))) (u == c) (Some ending.Closed) None (λ y. closed q u z (ap (λ (v : ℕ). u == v) (sym e) ∙ y)) (λ a.
    by_cond (λ (x : Option Letter). KnownNext q (u ∷ z) (read x)) (u == 92) (escape z) (cond (u == 10 || u == 13) None (one 0 u)) (λ y. begins_escape q u z y) (λ b.
    by_cond (λ (x : Option Letter). KnownNext q (u ∷ z) (read x)) (u == 10 || u == 13) None (one 0 u) (λ y. tt)
    (λ d. plain_char q u z (f (or_no (u == c) _ a (or_no (u == 92) _ b d))))))

return_known : (z : Text) → Known quote.Template (13 ∷ z) (one (line_units 13 z) 10)
return_known [] = record { char = Line (13 ∷ []); rest = []; text = refl; stands = (refl, inl (refl, tt)); size = omega arith; means = refl }
return_known (v ∷ z) = elim (either (v == 10)) [
  | inl y ↦ subst (λ (x : ℕ). Known quote.Template (13 ∷ x ∷ z) (one (line_units 13 (x ∷ z)) 10)) (sym (eqb-true v 10 y)) (record { char = Line (13 ∷ 10 ∷ []); rest = z; text = refl; stands = (refl, inr refl); size = omega arith; means = refl })
  | inr n ↦ subst (λ (k : ℕ). Known quote.Template (13 ∷ v ∷ z) (one k 10)) (sym (one_line (v ∷ z) n)) (record { char = Line (13 ∷ []); rest = v ∷ z; text = refl; stands = (refl, inl (refl, n)); size = omega arith; means = refl })
]

hole_text : (u : ℕ) (z : Text) → (u == 36 && slice_index z 0 == 123) ≡ true → Ends quote.Template (u ∷ z) ending.Hole
hole_text u [] h = absurd (no_truth (sym (and_second (u == 36) _ h)))
hole_text u (v ∷ z) h =
    record { rest = z; text = ap (λ (x : ℕ). x ∷ v ∷ z) (eqb-true u 36 (and_first (u == 36) _ h)) ∙ ap (λ (x : ℕ). 36 ∷ x ∷ z) (eqb-true v 123 (and_second (u == 36) _ h)); may = inr refl }

no_hole_next : (u : ℕ) (z : Text) → (u == 36 && slice_index z 0 == 123) ≡ false → (u == 36) ≡ true → NotNext (is 123) z
no_hole_next u z n y = elim (either (slice_index z 0 == 123)) [
  | inl k ↦ absurd (no_truth (sym (and_both (u == 36) (slice_index z 0 == 123) y k) ∙ n))
  | inr k ↦ head_next (is 123) z k
]

template_known : (u : ℕ) (z : Text) → KnownNext quote.Template (u ∷ z) (next_of quote.Template u z)
template_known u z =
    let q = quote.Template in
    by_cond (λ (x : Option Ending). KnownNext quote.Template (u ∷ z) (end_or x (letter_of quote.Template u z))) (u == 96) (Some ending.Closed) _ (λ y. closed quote.Template u z y) (λ a.
    by_cond (λ (x : Option Ending). KnownNext quote.Template (u ∷ z) (end_or x (letter_of quote.Template u z))) (u == 36 && slice_index z 0 == 123) (Some ending.Hole) None (λ y. hole_text u z y) (λ b.
    by_cond (λ (x : Option Letter). KnownNext quote.Template (u ∷ z) (read x)) (u == 92) (escape z) (raw quote.Template u z) (λ y. begins_escape quote.Template u z y) (λ c.
    by_cond (λ (x : Option Letter). KnownNext quote.Template (u ∷ z) (read x)) (u == 13) (one (line_units u z) 10) (one 0 u)
    (λ y. subst (λ (v : ℕ). Known quote.Template (v ∷ z) (one (line_units v z) 10)) (sym (eqb-true u 13 y)) (return_known z))
    (λ d. plain_char quote.Template u z (or_no (u == 96) _ a (or_no (u == 92) (u == 13) c d), no_hole_next u z b)))))

next_known : (q : Quote) (u : ℕ) (z : Text) → KnownNext q (u ∷ z) (next_of q u z)
next_known quote.Single u z = string_known quote.Single 39 u z refl (λ h. h)
next_known quote.Double u z = string_known quote.Double 34 u z refl (λ h. h)
next_known quote.Template u z = template_known u z

-- ---- the letters are characters

pub record BodyIs (q : Quote) (t : Text) (b : Body) : Type 0 where
  pub chars : List Character
  pub rest : Text
  pub text : t ≡ characters_units chars ++ (ending_text q b.ending ++ rest)
  pub are : AreCharacters q chars (ending_text q b.ending ++ rest)
  pub may : MayEnd q b.ending
  pub value_ : b.value ≡ characters_value chars
  pub size : b.units ≡ length (characters_units chars) + ending_units b.ending

more_chars : (q : Quote) (u : ℕ) (z : Text) (l : Letter) (c b : Body) → Char q (u ∷ z) l → BodyIs q (drop l.more z) c → after (meant l.meaning) (1 + l.more) (Some c) ≡ Some b → BodyIs q (u ∷ z) b
more_chars q u z l c b k i e =
    let made : Body = record { value = meant l.meaning ++ c.value; units = 1 + l.more + c.units; ending = c.ending } in
    let same : made ≡ b = cc in
    let long : drop (length (character_units k.char)) (u ∷ z) ≡ drop l.more z = ap (λ (n : ℕ). drop n (u ∷ z)) (k.size ∙ one_behind l.more) in
    let rest : k.rest ≡ drop l.more z = sym (drop_here (character_units k.char) k.rest) ∙ ap (drop (length (character_units k.char))) (sym k.text) ∙ long in
    let tail = ending_text q c.ending ++ i.rest in
    let there : k.rest ≡ characters_units i.chars ++ (ending_text q c.ending ++ i.rest) = rest ∙ i.text in
    subst (BodyIs q (u ∷ z)) same
    (record {
      chars = k.char ∷ i.chars;
      rest = i.rest;
      text = k.text ∙ ap (λ (x : Text). character_units k.char ++ x) there ∙ sym (append_assoc (character_units k.char) (characters_units i.chars) (ending_text q c.ending ++ i.rest));
      are = (subst (StandsIn q k.char) there k.stands, i.are);
      may = i.may;
      value_ = ap (λ (x : List ℕ). x ++ c.value) k.means ∙ ap (λ (x : List ℕ). character_value k.char ++ x) i.value_;
      size = omega (arith, i.size, k.size, length-append (character_units k.char) (characters_units i.chars));
    })

letter_case : (q : Quote) (u : ℕ) (z : Text) (l : Letter) (b : Body) (o : Option Body) → Char q (u ∷ z) l → ((c : Body) → o ≡ Some c → BodyIs q (drop l.more z) c) → after (meant l.meaning) (1 + l.more) o ≡ Some b → BodyIs q (u ∷ z) b
letter_case q u z l b None k i e = cc
letter_case q u z l b (Some c) k i e = more_chars q u z l c b k (i c refl) e

next_body : (q : Quote) (u : ℕ) (z : Text) (x : Next) (b : Body) → KnownNext q (u ∷ z) x → ((n : ℕ) (c : Body) → body_of q n z ≡ Some c → BodyIs q (drop n z) c) → joined x (λ n. body_of q n z) ≡ Some b → BodyIs q (u ∷ z) b
next_body q u z next.Broken b k i e = cc
next_body q u z (next.End f) b k i e =
    let made : Body = record { value = []; units = ending_units f; ending = f } in
    let same : made ≡ b = cc in
    subst (BodyIs q (u ∷ z)) same (record { chars = []; rest = k.rest; text = k.text; are = tt; may = k.may; value_ = refl; size = omega arith })
next_body q u z (next.Letter l) b k i e = letter_case q u z l b (body_of q l.more z) k (λ c. i l.more c) e

pub body_sound : (q : Quote) (z : Text) (n : ℕ) (b : Body) → body_of q n z ≡ Some b → BodyIs q (drop n z) b
body_sound q [] n b e = cc
body_sound q (u ∷ z) (suc n) b e = body_sound q z n b e
body_sound q (u ∷ z) zero b e = next_body q u z (next_of q u z) b (next_known q u z) (λ n c h. body_sound q z n c h) e
