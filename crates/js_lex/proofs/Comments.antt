-- Comments, and what else begins with `/`.
use Rattle.std.proofs.Common.{◌≡◌, ℕ, ◌+◌, ◌≤◌, ◌<◌, Bool, true, false, cond, [], ◌∷◌, ◌++◌, take, drop, length, Option, Some, None, refl, sym, ◌∙◌, ap, subst, arith, append_assoc, inl, inr}
use Rattle.std.specs.Prelude.{◌==◌, ◌&&◌, ◌||◌, not, nat_lt, slice_index}
use Rattle.std.proofs.lemmas.Bool.{eqb-true, eq-eqb, ltb-true, lt-ltb}
use Rattle.std.proofs.lemmas.List.{length-append}
use Rattle.js_lex.specs.declared.token.Punctuator.{Punctuator}
use Rattle.js_lex.specs.declared.units.Class.TheVariants as class
use Rattle.js_lex.specs.declared.front.Front.TheVariants as front
use Rattle.js_lex.specs.Tables.{punctuators}
use Rattle.js_lex.specs.Units.{Text, is_line_end}
use Rattle.js_lex.specs.Runs.{past}
use Rattle.js_lex.specs.Front as code
use Rattle.js_lex.specs.Lists.{In, NotNext, is, some}
use Rattle.js_lex.specs.Elements.{is_inner, NoEnd, Element, White, LineEnd, LineComment, BlockComment, Word, Numeric, String, Part, Sign, units, Stands, IsLongest}
use Rattle.js_lex.specs.Grammar.{Gap}
use Rattle.js_lex.proofs.Truths.{cond_no, either, and_first, and_second, and_both, and_no_first, and_no_second, not_yes, all_of, in_all}
use Rattle.js_lex.proofs.Which.{Which, AtSlash, sort}
use Rattle.js_lex.proofs.Runs.{run, run_passes, run_least, run_length, both_parts, take_here}
use Rattle.js_lex.proofs.Longest.{Found, FrontIs, sort_of, number_sort}
use Rattle.js_lex.proofs.Signs.{no_truth, Row, IsSign, found_sign}

-- ---- the end of a comment

head_end : (w z : Text) → NotNext (is 47) (w ++ 42 ∷ []) → (slice_index (w ++ 42 ∷ z) 0 == 47) ≡ false
head_end [] z h = refl
head_end (u ∷ w) z h = h

no_end_here : (u : ℕ) (w z : Text) → ((u == 42) ≡ true → NotNext (is 47) (w ++ 42 ∷ [])) → (u == 42 && slice_index (w ++ 42 ∷ z) 0 == 47) ≡ false
no_end_here u w z h = elim (either (u == 42)) [
  | inl y ↦ and_no_second (u == 42) _ (head_end w z (h y))
  | inr n ↦ and_no_first (u == 42) _ n
]

comment_whole : (w z : Text) → NoEnd (w ++ 42 ∷ []) → code.comment (w ++ 42 ∷ 47 ∷ z) ≡ Some (length w + 2)
comment_whole [] z h = refl
comment_whole (u ∷ w) z h =
    cond_no (u == 42 && slice_index (w ++ 42 ∷ 47 ∷ z) 0 == 47) _ _ (no_end_here u w (47 ∷ z) h.0)
    ∙ ap (code.later 1) (comment_whole w z h.1) ∙ ap (λ (n : ℕ). let r : Option ℕ = Some n in r) (omega arith)

record EndsAt (z : Text) (n : ℕ) : Type 0 where
  inside : Text
  rest : Text
  text : z ≡ inside ++ 42 ∷ 47 ∷ rest
  none : NoEnd (inside ++ 42 ∷ [])
  size : n ≡ length inside + 2

not_here : (u : ℕ) (w rest z : Text) → z ≡ w ++ 42 ∷ 47 ∷ rest → (u == 42 && slice_index z 0 == 47) ≡ false → (u == 42) ≡ true → NotNext (is 47) (w ++ 42 ∷ [])
not_here u [] rest z t n y = refl
not_here u (v ∷ w) rest z t n y = elim (either (v == 47)) [
  | inl k ↦ (let e : (slice_index z 0 == 47) ≡ true = ap (λ (x : Text). slice_index x 0 == 47) t ∙ k in absurd (no_truth (sym (and_both (u == 42) (slice_index z 0 == 47) y e) ∙ n)))
  | inr k ↦ k
]

ends_later : (u : ℕ) (z : Text) (o : Option ℕ) (n : ℕ) → (u == 42 && slice_index z 0 == 47) ≡ false → ((m : ℕ) → o ≡ Some m → EndsAt z m) → code.later 1 o ≡ Some n → EndsAt (u ∷ z) n
ends_later u z None n h i e = cc
ends_later u z (Some m) n h i e =
    let k = i m refl in
    let same : 1 + m ≡ n = cc in
    record { inside = u ∷ k.inside; rest = k.rest; text = ap (λ (x : Text). u ∷ x) k.text; none = (not_here u k.inside k.rest z k.text h, k.none); size = omega (arith, same, k.size) }

ends_now : (u : ℕ) (z : Text) (n : ℕ) → (u == 42 && slice_index z 0 == 47) ≡ true → 2 ≡ n → EndsAt (u ∷ z) n
ends_now u [] n h e = absurd (no_truth (sym (and_second (u == 42) _ h)))
ends_now u (v ∷ z) n h e =
    let a = eqb-true u 42 (and_first (u == 42) _ h) in
    let b = eqb-true v 47 (and_second (u == 42) _ h) in
    record { inside = []; rest = z; text = ap (λ (x : ℕ). x ∷ v ∷ z) a ∙ ap (λ (x : ℕ). 42 ∷ x ∷ z) b; none = ((λ y. tt), tt); size = omega (arith, e) }

ends_case : (u : ℕ) (z : Text) (n : ℕ) (r : Bool) → (u == 42 && slice_index z 0 == 47) ≡ r → ((m : ℕ) → code.comment z ≡ Some m → EndsAt z m) → cond r (Some 2) (code.later 1 (code.comment z)) ≡ Some n → EndsAt (u ∷ z) n
ends_case u z n true h i e = (let same : 2 ≡ n = cc in ends_now u z n h same)
ends_case u z n false h i e = ends_later u z (code.comment z) n h i e

comment_sound : (z : Text) (n : ℕ) → code.comment z ≡ Some n → EndsAt z n
comment_sound [] n e = cc
comment_sound (u ∷ z) n e = ends_case u z n (u == 42 && slice_index z 0 == 47) refl (comment_sound z) e

-- ---- a line end within

step_some : (r s : Bool) (n m : ℕ) → (r || s) ≡ true → (s ≡ true → n < m) → cond (not r) (1 + n) 0 < 1 + m
step_some true s n m h f = omega arith
step_some false s n m h f = (let x = f h in omega (arith, x))

step_none : (r s : Bool) (n m : ℕ) → (r || s) ≡ false → (s ≡ false → n ≡ m) → cond (not r) (1 + n) 0 ≡ 1 + m
step_none true s n m h f = cc
step_none false s n m h f = (let x = f h in omega (arith, x))

run_some : (z : Text) → some is_line_end z ≡ true → run is_inner z < length z
run_some [] h = cc
run_some (u ∷ z) h = (let x = step_some (is_line_end u) (some is_line_end z) (run is_inner z) (length z) h (run_some z) in omega (arith, x))

run_none_some : (z : Text) → some is_line_end z ≡ false → run is_inner z ≡ length z
run_none_some [] h = refl
run_none_some (u ∷ z) h = (let x = step_none (is_line_end u) (some is_line_end z) (run is_inner z) (length z) h (run_none_some z) in omega (arith, x))

lt_some : (z : Text) (n : ℕ) → n ≡ run is_inner z → nat_lt n (length z) ≡ some is_line_end z
lt_some z n e = elim (either (some is_line_end z)) [
  | inl y ↦ (let x = run_some z y in lt-ltb n (length z) (omega (arith, x, e)) ∙ sym y)
  | inr k ↦ elim (either (nat_lt n (length z))) [
    | inl y ↦ (let x = run_none_some z k in let w = ltb-true n (length z) y in absurd (omega (arith, x, w, e)))
    | inr m ↦ m ∙ sym k
  ]
]

line_end_within : (z : Text) → code.has_line_end z ≡ some is_line_end z
line_end_within z = lt_some z (past class.Line z 0) (omega arith)

some_end : (w : Text) → some is_line_end (w ++ 42 ∷ 47 ∷ []) ≡ some is_line_end w
some_end [] = refl
some_end (u ∷ w) = ap (λ (r : Bool). is_line_end u || r) (some_end w)

comment_gap : (w z : Text) (n : ℕ) → n ≡ length w + 2 → code.gap_of (42 ∷ (w ++ 42 ∷ 47 ∷ z)) (Some n) ≡ front.Gap (1 + n) (some is_line_end w)
comment_gap w z n e =
    let k : 1 + n ≡ length (42 ∷ (w ++ 42 ∷ 47 ∷ [])) = omega (arith, e, length-append w (42 ∷ 47 ∷ [])) in
    let t : 42 ∷ (w ++ 42 ∷ 47 ∷ z) ≡ (42 ∷ (w ++ 42 ∷ 47 ∷ [])) ++ z = ap (λ (x : Text). 42 ∷ x) (sym (append_assoc w (42 ∷ 47 ∷ []) z)) in
    let p : take (1 + n) (42 ∷ (w ++ 42 ∷ 47 ∷ z)) ≡ 42 ∷ (w ++ 42 ∷ 47 ∷ []) = ap (λ (m : ℕ). take m (42 ∷ (w ++ 42 ∷ 47 ∷ z))) k ∙ ap (take (length (42 ∷ (w ++ 42 ∷ 47 ∷ [])))) t ∙ take_here (42 ∷ (w ++ 42 ∷ 47 ∷ [])) z in
    ap (front.Gap (1 + n)) (ap code.has_line_end p ∙ line_end_within (42 ∷ (w ++ 42 ∷ 47 ∷ [])) ∙ some_end w)

-- ---- elements that begin with `/`

abbrev no_comment : Text → Bool
no_comment (a ∷ b ∷ v) = not (a == 47 && (b == 47 || b == 42))
no_comment _ = true

no_comments : all_of (λ (r : Row). no_comment r.0) punctuators ≡ true
no_comments = refl

pub slash_one : (w : Text) (x : Punctuator) (more z : Text) (c : ℕ) → In (w, x) punctuators → w ++ more ≡ 47 ∷ c ∷ z → (c == 47 || c == 42) ≡ true → length w ≤ 1
slash_one [] x more z c i e k = omega arith
slash_one (a ∷ []) x more z c i e k = omega arith
slash_one (a ∷ b ∷ v) x more z c i e k =
    let t = in_all (λ (r : Row). no_comment r.0) (a ∷ b ∷ v, x) punctuators i no_comments in
    let p : a ≡ 47 = cc in
    let q : b ≡ c = cc in
    let f : (a == 47 && (b == 47 || b == 42)) ≡ true = and_both (a == 47) (b == 47 || b == 42) (eq-eqb a 47 p) (ap (λ (y : ℕ). y == 47 || y == 42) q ∙ k) in
    absurd (no_truth (sym f ∙ not_yes (a == 47 && (b == 47 || b == 42)) t))

star_slash : (x z : Text) → 47 ∷ 42 ∷ x ≡ 47 ∷ 47 ∷ z → ⊥
star_slash x z e = cc

line_bound : (h : Bool) (f : Element) (more z : Text) → sort f more ≡ AtSlash → Stands h f more → units f ++ more ≡ 47 ∷ 47 ∷ z → length (units f) ≤ 2 + run is_inner z
line_bound h (LineComment w) more z e s k =
    let same : w ++ more ≡ z = cc in
    let x : length w ≤ run is_inner z = subst (λ (y : Text). length w ≤ run is_inner y) same (run_least is_inner w more s) in
    omega (arith, x)
line_bound h (BlockComment w) more z e s k = absurd (star_slash _ z k)
line_bound h (Sign w y) more z e s k = (let x = slash_one w y more z 47 s.0 k refl in omega (arith, x))
line_bound h (White v) more z e s k = cc
line_bound h (LineEnd v) more z e s k = cc
line_bound h (Word v w) more z e s k = cc
line_bound h (Numeric n) more z e s k = absurd (number_sort (λ (k : Which). k ≡ AtSlash → ⊥) (λ e. cc) (λ e. cc) n e)
line_bound h (String d_ cs) more z e s k = cc
line_bound h (Part b_ cs x) more z e s k = cc

abbrev front_line : Text → Element
front_line z = LineComment (take (run is_inner z) z)

found_line : (h : Bool) (z : Text) → Found h (47 ∷ 47 ∷ z) (front.Gap (1 + run is_inner z) false)
found_line h z =
    let parts : 47 ∷ 47 ∷ (take (run is_inner z) z ++ drop (run is_inner z) z) ≡ 47 ∷ 47 ∷ z = ap (λ (x : Text). 47 ∷ 47 ∷ x) (both_parts (run is_inner z) z) in
    record {
      element = front_line z;
      rest = drop (run is_inner z) z;
      reading = Gap false;
      begins = record {
        is_text = sym parts;
        stands = run_passes is_inner z;
        longest = λ f more s k.
            let x = line_bound h f more z (sort_of h f more 47 (47 ∷ z) s (k ∙ parts)) s (k ∙ parts) in
            omega (arith, x, run_length is_inner z);
      };
      reads = refl;
      is = ap (λ (n : ℕ). front.Gap n false) (omega (arith, run_length is_inner z));
    }

record Commented (z : Text) (n : ℕ) : Type 0 where
  size : ℕ
  whole : code.comment z ≡ Some size
  same : n ≡ 2 + size

block_is : (h : Bool) (w more z : Text) → NoEnd (w ++ 42 ∷ []) → (w ++ 42 ∷ 47 ∷ []) ++ more ≡ z → code.comment z ≡ Some (length w + 2)
block_is h w more z s k = ap code.comment (sym k ∙ append_assoc w (42 ∷ 47 ∷ []) more) ∙ comment_whole w more s

row_some : all_of (λ (r : Row). not (length r.0 == 0)) punctuators ≡ true
row_some = refl

star_no : (h : Bool) (w : Text) (x : Punctuator) (more z : Text) → Stands h (Sign w x) more → w ++ more ≡ 47 ∷ 42 ∷ z → ⊥
star_no h [] x more z s k = no_truth (sym (in_all (λ (r : Row). not (length r.0 == 0)) ([], x) punctuators s.0 row_some))
star_no h (a ∷ []) x more z s k =
    let i : a ∷ [] ≡ 47 ∷ [] = cc in
    let m : more ≡ 42 ∷ z = cc in
    let n : NotNext (is 42) (42 ∷ z) = subst (NotNext (is 42)) m (s.1.1 i) in
    no_truth n
star_no h (a ∷ b ∷ v) x more z s k = (let y = slash_one (a ∷ b ∷ v) x more z 42 s.0 k refl in omega (arith, y))

block_sized : (h : Bool) (f : Element) (more z : Text) → sort f more ≡ AtSlash → Stands h f more → units f ++ more ≡ 47 ∷ 42 ∷ z → Commented z (length (units f))
block_sized h (LineComment w) more z e s k = absurd (star_slash z _ (sym k))
block_sized h (BlockComment w) more z e s k =
    let same : (w ++ 42 ∷ 47 ∷ []) ++ more ≡ z = cc in
    record { size = length w + 2; whole = block_is h w more z s same; same = omega (arith, length-append w (42 ∷ 47 ∷ [])) }
block_sized h (Sign w y) more z e s k = absurd (star_no h w y more z s k)
block_sized h (White v) more z e s k = cc
block_sized h (LineEnd v) more z e s k = cc
block_sized h (Word v w) more z e s k = cc
block_sized h (Numeric n) more z e s k = absurd (number_sort (λ (k : Which). k ≡ AtSlash → ⊥) (λ e. cc) (λ e. cc) n e)
block_sized h (String d_ cs) more z e s k = cc
block_sized h (Part b_ cs x) more z e s k = cc

found_block : (h : Bool) (z : Text) (n : ℕ) → code.comment z ≡ Some n → EndsAt z n → Found h (47 ∷ 42 ∷ z) (code.gap_of (42 ∷ z) (Some n))
found_block h z n e k =
    let text : 47 ∷ 42 ∷ z ≡ 47 ∷ 42 ∷ ((k.inside ++ 42 ∷ 47 ∷ []) ++ k.rest) = ap (λ (x : Text). 47 ∷ 42 ∷ x) (k.text ∙ sym (append_assoc k.inside (42 ∷ 47 ∷ []) k.rest)) in
    let size : 2 + n ≡ length (units (BlockComment k.inside)) = omega (arith, k.size, length-append k.inside (42 ∷ 47 ∷ [])) in
    record {
      element = BlockComment k.inside;
      rest = k.rest;
      reading = Gap (some is_line_end k.inside);
      begins = record {
        is_text = text;
        stands = k.none;
        longest = λ f more s t.
            let c = block_sized h f more z (sort_of h f more 47 (42 ∷ z) s (t ∙ sym text)) s (t ∙ sym text) in
            let same : Some c.size ≡ Some n = sym c.whole ∙ e in
            let eq : c.size ≡ n = cc in
            omega (arith, c.same, eq, size);
      };
      reads = refl;
      is = ap (λ (x : Text). code.gap_of (42 ∷ x) (Some n)) k.text ∙ comment_gap k.inside k.rest n k.size ∙ ap (λ (m : ℕ). front.Gap m (some is_line_end k.inside)) (omega (arith, size));
    }

block_at : (h : Bool) (z : Text) (o : Option ℕ) → code.comment z ≡ o → FrontIs h (47 ∷ 42 ∷ z) (code.gap_of (42 ∷ z) o)
block_at h z None e =
    inr ((λ f more s k. (let c = block_sized h f more z (sort_of h f more 47 (42 ∷ z) s (sym k)) s (sym k) in let a : None ≡ Some c.size = sym e ∙ c.whole in cc)), refl)
block_at h z (Some n) e = inl (found_block h z n e (comment_sound z n e))

slash_signs : (h : Bool) (z : Text) → NotNext (is 47) z → NotNext (is 42) z → (f : Element) (more : Text) → sort f more ≡ AtSlash → Stands h f more → units f ++ more ≡ 47 ∷ z → IsSign f
slash_signs h z a b (Sign w y) more e s k = record { word = w; sign = y; same = refl }
slash_signs h z a b (LineComment w) more e s k =
    let same : z ≡ 47 ∷ (w ++ more) = cc in let n : NotNext (is 47) (47 ∷ (w ++ more)) = subst (NotNext (is 47)) same a in absurd (no_truth n)
slash_signs h z a b (BlockComment w) more e s k =
    let same : z ≡ 42 ∷ ((w ++ 42 ∷ 47 ∷ []) ++ more) = cc in let n : NotNext (is 42) (42 ∷ ((w ++ 42 ∷ 47 ∷ []) ++ more)) = subst (NotNext (is 42)) same b in absurd (no_truth n)
slash_signs h z a b (White v) more e s k = cc
slash_signs h z a b (LineEnd v) more e s k = cc
slash_signs h z a b (Word v w) more e s k = cc
slash_signs h z a b (Numeric n) more e s k = absurd (number_sort (λ (k : Which). k ≡ AtSlash → ⊥) (λ e. cc) (λ e. cc) n e)
slash_signs h z a b (String d_ cs) more e s k = cc
slash_signs h z a b (Part b_ cs x) more e s k = cc

apart_brace : (u : ℕ) → u ≡ 47 → u ≡ 125 → ⊥
apart_brace u e f = omega (arith, e, f)

found_slash_sign : (h : Bool) (z : Text) → NotNext (is 47) z → NotNext (is 42) z → FrontIs h (47 ∷ z) (code.punctuator 47 z)
found_slash_sign h z a b =
    found_sign h 47 z (record { slash = λ e. b; brace = λ e. absurd (apart_brace 47 refl e) }) (λ f more s k. slash_signs h z a b f more (sort_of h f more 47 z s k) s k)

pub found_slash : (h : Bool) (z : Text) → FrontIs h (47 ∷ z) (code.slash z)
found_slash h [] = found_slash_sign h [] tt tt
found_slash h (v ∷ z) = elim (either (v == 47)) [
  | inl y ↦ (let e = eqb-true v 47 y in subst (λ (x : ℕ). FrontIs h (47 ∷ x ∷ z) (code.slash (x ∷ z))) (sym e) (inl (found_line h z)))
  | inr n ↦ elim (either (v == 42)) [
    | inl y ↦ (let e = eqb-true v 42 y in subst (λ (x : ℕ). FrontIs h (47 ∷ x ∷ z) (code.slash (x ∷ z))) (sym e) (block_at h z (code.comment z) refl))
    | inr k ↦ subst (FrontIs h (47 ∷ v ∷ z)) (sym (cond_no (v == 47) _ _ n ∙ cond_no (v == 42) _ _ k)) (found_slash_sign h (v ∷ z) n k)
  ]
]

pub line_only : (h : Bool) (w z : Text) → Stands h (LineComment w) z → IsLongest h (LineComment w) z → code.slash (47 ∷ (w ++ z)) ≡ front.Gap (1 + length w) false
line_only h w z s l =
    let a = run_least is_inner w z s in
    let b = l (front_line (w ++ z)) (drop (run is_inner (w ++ z)) (w ++ z)) (run_passes is_inner (w ++ z)) (ap (λ (x : Text). 47 ∷ 47 ∷ x) (both_parts (run is_inner (w ++ z)) (w ++ z))) in
    ap (λ (n : ℕ). front.Gap (1 + n) false) (omega (arith, a, b, run_length is_inner (w ++ z)))

pub block_only : (w z : Text) → NoEnd (w ++ 42 ∷ []) → code.slash (42 ∷ ((w ++ 42 ∷ 47 ∷ []) ++ z)) ≡ front.Gap (1 + (length w + 2)) (some is_line_end w)
block_only w z h =
    ap (λ (x : Text). code.slash (42 ∷ x)) (append_assoc w (42 ∷ 47 ∷ []) z) ∙ ap (code.gap_of (42 ∷ (w ++ 42 ∷ 47 ∷ z))) (comment_whole w z h) ∙ comment_gap w z (length w + 2) refl
