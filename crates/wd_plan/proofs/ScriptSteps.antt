-- What a script comes to, and steps along a string literal.
use Rattle.std.specs.Prelude.{◌≡◌, IfOk, Result, Ok, Err, ℕ, suc, ◌+◌, ◌-◌, ◌<◌, ◌≤◌, Bool, true, false, not, ◌&&◌}
use Rattle.std.specs.Prelude.{◌==◌, nat_le, nat_lt, List, [], ◌∷◌, ◌++◌, length, drop, Option, Some, None, refl}
use Rattle.std.specs.Prelude.{if◌then◌else◌}
use Rattle.std.proofs.Common.{◌⊎◌, inl, inr, sym, ap, subst, ◌∙◌, append_assoc, append-nil, get_or, arith, length-drop}
use Rattle.std.proofs.Math.Seq.{drop-cons}
use Rattle.std.proofs.Math.ListN.{drop_of_length-le}
use Rattle.std.proofs.lemmas.Bool.{false≢true, eqb-true}
use Rattle.js_check.specs.declared.script.ScriptRefusal.{ScriptRefusal}
use Rattle.js_check.specs.Verdict.{Checked}
use Rattle.js_check.proofs.OneVerdict.{one_verdict}
use Rattle.wd_base.specs.declared.config.WorkerDef.{WorkerDef}
use Rattle.wd_base.specs.declared.ids.NoMemory.{NoMemory}
use Rattle.wd_base.specs.Text.{utf16_of}
use Rattle.wd_plan.specs.declared.reason.Reason.{Reason}
use Rattle.wd_plan.specs.declared.reason.Reason.TheVariants.{Faulty, OtherForm}
use Rattle.wd_plan.specs.declared.script.Verdict.{Verdict}
use Rattle.wd_plan.specs.declared.script.Verdict.TheVariants.{Answers, Refused}
use Rattle.wd_plan.specs.Script.{Comes, answer_for, answered, behind, literal_value, is_plain}

-- ---- what a script comes to

-- what the check of the units found is what it finds of the bytes
pub found_told : (source units : List ℕ) (found : Option ScriptRefusal) (refusal : ScriptRefusal)
    → units ≡ utf16_of source → Checked units found → found ≡ Some refusal → Checked (utf16_of source) (Some refusal)
found_told source units found refusal e checked is =
    subst (λ f. Checked (utf16_of source) f) is (subst (λ u. Checked u found) e checked)

comes_answered : (def : WorkerDef) (answer : Option (List ℕ)) → Checked (utf16_of def.source) None
    → answer_for def ≡ answer → Comes def (answered answer)
comes_answered def None checked e = (checked, e)
comes_answered def (Some text) checked e = (checked, e)

pub comes_checked : (def : WorkerDef) (units : List ℕ) (found : Option ScriptRefusal) (r : Result Verdict NoMemory)
    → units ≡ utf16_of def.source → Checked units found → found ≡ None
    → IfOk r (λ verdict. verdict ≡ answered (answer_for def)) → IfOk r (Comes def)
comes_checked def units found (Err end) e checked is judged = tt
comes_checked def units found (Ok verdict) e checked is judged =
    let passed : Checked (utf16_of def.source) None =
    subst (λ f. Checked (utf16_of def.source) f) is (subst (λ u. Checked u found) e checked) in
    subst (Comes def) (sym judged) (comes_answered def (answer_for def) passed refl)

-- by what the check of a script found, and by its form
judged : Option ScriptRefusal → Option (List ℕ) → Verdict
judged (Some refusal) answer = Refused (Faulty refusal)
judged None answer = answered answer

-- what a script comes to, by these two
record IsJudged (def : WorkerDef) (verdict : Verdict) : Type 0 where
  found : Option ScriptRefusal
  checked : Checked (utf16_of def.source) found
  is : verdict ≡ judged found (answer_for def)

comes_judged : (def : WorkerDef) (verdict : Verdict) → Comes def verdict → IsJudged def verdict
unfolding judged
comes_judged def (Refused (Faulty refusal)) h = record { found = Some refusal; checked = h; is = refl }
comes_judged def (Refused OtherForm) h = record { found = None; checked = h.0; is = sym (ap answered h.1) }
comes_judged def (Answers text) h = record { found = None; checked = h.0; is = sym (ap answered h.1) }

-- a script comes to one thing alone
pub comes_one : (def : WorkerDef) (a b : Verdict) → Comes def a → Comes def b → a ≡ b
comes_one def a b x y =
    let p : IsJudged def a = comes_judged def a x in
    let q : IsJudged def b = comes_judged def b y in
    p.is ∙ ap (λ f. judged f (answer_for def)) (one_verdict (utf16_of def.source) p.found q.found p.checked q.checked)
    ∙ sym q.is

-- ---- a string literal

pub behind_more : (front : List ℕ) (c : ℕ) (value : Option (List ℕ)) → behind front (behind (c ∷ []) value)
    ≡ behind (front ++ c ∷ []) value
unfolding behind
behind_more front c None = refl
behind_more front c (Some v) = ap Some (sym (append_assoc front (c ∷ []) v))

pub behind_none : (front : List ℕ) → behind front None ≡ None
unfolding behind
behind_none front = refl

pub behind_end : (front : List ℕ) → behind front (literal_value []) ≡ Some front
unfolding behind literal_value
behind_end front = ap Some (append-nil front)

pub behind_nothing : (value : Option (List ℕ)) → behind [] value ≡ value
unfolding behind
behind_nothing None = refl
behind_nothing (Some v) = refl

-- the list from a place on is the item there and the rest
from_place : (xs : List ℕ) (i : ℕ) → i < length xs → drop i xs ≡ get_or xs i 0 ∷ drop (i + 1) xs
from_place xs i h = let e : suc i ≡ i + 1 = omega arith in drop-cons xs i 0 h ∙ ap (λ k. get_or xs i 0 ∷ drop k xs) e

escape_head : (b c : ℕ) (rest : List ℕ) → (b == 92) ≡ true → (c == 110) ≡ true → literal_value (b ∷ c ∷ rest)
    ≡ behind (10 ∷ []) (literal_value rest)
unfolding literal_value
escape_head b c rest hb hc = rw (hb, hc)

plain_head : (b : ℕ) (rest : List ℕ) → (b == 92) ≡ false → is_plain b ≡ true → literal_value (b ∷ rest)
    ≡ behind (b ∷ []) (literal_value rest)
unfolding literal_value behind
plain_head b [] hb plain = rw plain
plain_head b (c ∷ rest) hb plain = rw (hb, plain)

-- a plain character is no backslash
last_of : (a b c d : Bool) → (a && (b && (c && not d))) ≡ true → d ≡ false
last_of true true true false h = refl
last_of true true true true h = sym h
last_of true true false d h = absurd (false≢true h)
last_of true false c d h = absurd (false≢true h)
last_of false b c d h = absurd (false≢true h)

not_mark : (b : ℕ) → is_plain b ≡ true → (b == 92) ≡ false
unfolding is_plain
not_mark b plain = last_of (nat_le 32 b) (nat_lt b 127) (not (b == 34)) (b == 92) plain

other_head : (b : ℕ) (rest : List ℕ) → is_plain b ≡ false → ((b == 92) ≡ false)
    ⊎ ((c : ℕ) (more : List ℕ) → rest ≡ c ∷ more → (c == 110) ≡ false) → literal_value (b ∷ rest) ≡ None
unfolding literal_value
other_head b [] other why = rw other
other_head b (c ∷ rest) other (inl hb) = rw (hb, other)
other_head b (c ∷ rest) other (inr hc) =
    elim (b == 92) as (λ t. (if t && (c == 110) then behind (10 ∷ []) (literal_value rest) else
    (if is_plain b then behind (b ∷ []) (literal_value (c ∷ rest)) else None)) ≡ None)
    [ true ↦ rw (hc c rest refl, other) | false ↦ rw other ]

pub escape_at : (xs : List ℕ) (i : ℕ) → i + 1 < length xs → get_or xs i 0 ≡ 92 → get_or xs (i + 1) 0 ≡ 110
    → literal_value (drop i xs) ≡ behind (10 ∷ []) (literal_value (drop (i + 2) xs))
escape_at xs i h hb hc =
    let first : drop i xs ≡ get_or xs i 0 ∷ drop (i + 1) xs = from_place xs i (omega arith) in
    let second : drop (i + 1) xs ≡ get_or xs (i + 1) 0 ∷ drop (i + 1 + 1) xs = from_place xs (i + 1) h in
    let two : drop (i + 1 + 1) xs ≡ drop (i + 2) xs = ap (λ k. drop k xs) (omega arith) in
    let both : drop i xs ≡ 92 ∷ 110 ∷ drop (i + 2) xs = first ∙ ap (λ t. get_or xs i 0 ∷ t) second
    ∙ ap (λ t. get_or xs i 0 ∷ get_or xs (i + 1) 0 ∷ t) two ∙ ap (λ b. b ∷ get_or xs (i + 1) 0 ∷ drop (i + 2) xs) hb
    ∙ ap (λ c. 92 ∷ c ∷ drop (i + 2) xs) hc in
    ap literal_value both ∙ escape_head 92 110 (drop (i + 2) xs) refl refl

pub plain_at : (xs : List ℕ) (i : ℕ) → i < length xs → is_plain (get_or xs i 0) ≡ true → literal_value (drop i xs)
    ≡ behind (get_or xs i 0 ∷ []) (literal_value (drop (i + 1) xs))
plain_at xs i h plain = ap literal_value (from_place xs i h)
    ∙ plain_head (get_or xs i 0) (drop (i + 1) xs) (not_mark (get_or xs i 0) plain) plain

-- a test of equality that fails
pub differs : (a b : ℕ) (t : Bool) → (a == b) ≡ t → (a ≡ b → ⊥) → t ≡ false
differs a b true e apart = absurd (apart (eqb-true a b e))
differs a b false e apart = refl

-- what is left of a list is as long as the list less the place
long : (xs : List ℕ) (i c : ℕ) (more : List ℕ) → drop i xs ≡ c ∷ more → i < length xs
long xs i c more e = let size : length xs - i ≡ suc (length more) = sym (length-drop i xs) ∙ ap length e in omega arith

short_clash : (xs : List ℕ) (i c : ℕ) (more : List ℕ) → length xs ≤ i → drop i xs ≡ c ∷ more → ⊥
short_clash xs i c more short e = let in_it = long xs i c more e in omega arith

at_front : (xs : List ℕ) (i c : ℕ) (more : List ℕ) → drop i xs ≡ c ∷ more → i < length xs → get_or xs i 0 ≡ c
at_front xs i c more e h = ap (λ t. get_or t 0 0) (sym (from_place xs i h) ∙ e)

escape_fails : (xs : List ℕ) (i : ℕ)
    → ((get_or xs i 0 ≡ 92 → ⊥) ⊎ ((length xs ≤ i + 1) ⊎ (get_or xs (i + 1) 0 ≡ 110 → ⊥)))
    → ((get_or xs i 0 == 92) ≡ false) ⊎ ((c : ℕ) (more : List ℕ) → drop (i + 1) xs ≡ c ∷ more → (c == 110) ≡ false)
escape_fails xs i (inl no92) = inl (differs (get_or xs i 0) 92 (get_or xs i 0 == 92) refl no92)
escape_fails xs i (inr (inl short)) = inr (λ c more e. absurd (short_clash xs (i + 1) c more short e))
escape_fails xs i (inr (inr no110)) =
    inr (λ c more e. differs c 110 (c == 110) refl (λ is. no110 (at_front xs (i + 1) c more e (long xs (i + 1) c more e)
    ∙ is)))

-- what follows a backslash is no `n`
pub other_at : (xs : List ℕ) (i : ℕ) → i < length xs → is_plain (get_or xs i 0) ≡ false
    → ((get_or xs i 0 ≡ 92 → ⊥) ⊎ ((length xs ≤ i + 1) ⊎ (get_or xs (i + 1) 0 ≡ 110 → ⊥))) → literal_value (drop i xs)
    ≡ None
other_at xs i h other why = ap literal_value (from_place xs i h)
    ∙ other_head (get_or xs i 0) (drop (i + 1) xs) other (escape_fails xs i why)

pub no_backslash_at : (xs : List ℕ) (i : ℕ) → i < length xs → is_plain (get_or xs i 0) ≡ false
    → (get_or xs i 0 ≡ 92 → ⊥) → literal_value (drop i xs) ≡ None
no_backslash_at xs i h other apart = other_at xs i h other (inl apart)

pub last_at : (xs : List ℕ) (i : ℕ) → i < length xs → is_plain (get_or xs i 0) ≡ false → (i + 1 < length xs → ⊥)
    → literal_value (drop i xs) ≡ None
last_at xs i h other last = other_at xs i h other (inr (inl (omega (arith, last))))

pub no_escape_at : (xs : List ℕ) (i : ℕ) → i < length xs → is_plain (get_or xs i 0) ≡ false
    → (get_or xs (i + 1) 0 ≡ 110 → ⊥) → literal_value (drop i xs) ≡ None
no_escape_at xs i h other apart = other_at xs i h other (inr (inr apart))

-- the loop has read the whole literal
pub whole_value : (value literal : List ℕ) (i : ℕ) → (i < length literal → ⊥)
    → literal_value literal ≡ behind value (literal_value (drop i literal)) → Some value ≡ literal_value literal
whole_value value literal i over e =
    sym (e ∙ ap (λ t. behind value (literal_value t)) (drop_of_length-le literal (omega (arith, over)))
    ∙ behind_end value)
