-- What is in the grammar is accepted.
use Rattle.std.proofs.Common.{◌≡◌, ℕ, zero, suc, ◌+◌, ◌^◌, ◌<◌, true, false, List, [], ◌∷◌, ◌++◌, inl, inr, length, refl, sym, ◌∙◌, ap, subst, append_assoc, arith}
use Rattle.std.specs.Prelude.{◌==◌, ◌||◌, nat_lt}
use Rattle.std.proofs.lemmas.Bool.{eqb-true, or_cases, cond-true, cond-false, lt-ltb}
use Rattle.std.proofs.lemmas.List.{append-nil, length-append}
use Rattle.js_json.specs.declared.levels.Level.{Level}
use Rattle.js_json.specs.declared.levels.Level.TheVariants as level
use Rattle.js_json.specs.declared.machine.Spot.{Spot}
use Rattle.js_json.specs.declared.machine.Spot.TheVariants as spot
use Rattle.js_json.specs.declared.machine.Inner.TheVariants as inner
use Rattle.js_json.specs.declared.machine.Part.TheVariants as part
use Rattle.js_json.specs.Units.{is_blank, is_digit, is_mark}
use Rattle.js_json.specs.Lists.{Every, Then, Many, Either, One, joined}
use Rattle.js_json.specs.Grammar.{Blanks, IsKey, IsScalar, Parted, Between, Item, Member, IsArray, IsObject, IsValue, IsJson}
use Rattle.js_json.specs.Machine.{stay, begin, step_at, accepts, start}
use Rattle.js_json.proofs.Runs.{at, move, Opens, begins, NoMore, word_run, text_run, key_run}
use Rattle.js_json.proofs.Numbers.{number_run}

abbrev Small : List ℕ → Type 0
Small us = length us < 2 ^ 63

-- from s these units lead behind a value
abbrev Leads : List Level → Spot → List Level → List ℕ → List ℕ → Type 0
Leads ls s ms us rest = accepts (at ls s) (us ++ rest) ≡ accepts (at ms spot.Done) rest

small_front : (P Q : List ℕ → Type 0) (us : List ℕ) (t : Then P Q us) → Small us → Small t.front
small_front P Q us t s = let a = ap length t.is in let b = length-append t.front t.back in omega (arith, a, b, s)

small_back : (P Q : List ℕ → Type 0) (us : List ℕ) (t : Then P Q us) → Small us → Small t.back
small_back P Q us t s = let a = ap length t.is in let b = length-append t.front t.back in omega (arith, a, b, s)

-- the two parts one after the other
parts : (P Q : List ℕ → Type 0) (us : List ℕ) (t : Then P Q us) (rest : List ℕ) → us ++ rest ≡ t.front ++ (t.back ++ rest)
parts P Q us t rest = ap (λ (z : List ℕ). z ++ rest) t.is ∙ append_assoc t.front t.back rest

-- ---- blanks

blanks_run : (ls : List Level) (s : Spot) (ws rest : List ℕ) → ((u : ℕ) → is_blank u ≡ true → step_at ls s u ≡ stay ls s) → Blanks ws → accepts (at ls s) (ws ++ rest) ≡ accepts (at ls s) rest
blanks_run ls s [] rest f b = refl
blanks_run ls s (w ∷ ws) rest f b = move ls ls s s w (ws ++ rest) (f w b.0) ∙ blanks_run ls s ws rest f b.1

done_blank : (ls : List Level) (u : ℕ) → is_blank u ≡ true → step_at ls spot.Done u ≡ stay ls spot.Done
done_blank ls u h = cond-true (is_blank u) _ _ h

blank_case : (P : ℕ → Type 0) → P 32 → P 9 → P 10 → P 13 → (u : ℕ) → is_blank u ≡ true → P u
blank_case P a b c d u h = elim (or_cases (u == 32 || u == 9) (u == 10 || u == 13) h) [
  | inl l ↦ elim (or_cases (u == 32) (u == 9) l) [ inl e ↦ subst P (sym (eqb-true u 32 e)) a | inr e ↦ subst P (sym (eqb-true u 9 e)) b ]
  | inr r ↦ elim (or_cases (u == 10) (u == 13) r) [ inl e ↦ subst P (sym (eqb-true u 10 e)) c | inr e ↦ subst P (sym (eqb-true u 13 e)) d ]
]

abbrev Stops : ℕ → Type 0
Stops u = (is_digit u ≡ false) × ((u == 46) ≡ false) × (is_mark u ≡ false)

blanks_no_more : (ws rest : List ℕ) → Blanks ws → NoMore rest → NoMore (ws ++ rest)
blanks_no_more [] rest b r = r
blanks_no_more (w ∷ ws) rest b r = blank_case Stops (refl, refl, refl) (refl, refl, refl) (refl, refl, refl) (refl, refl, refl) w b.0

-- ---- values

scalar_run : (ls : List Level) (s : Spot) (w rest : List ℕ) → Opens ls s → IsScalar w → Small w → NoMore rest → Leads ls s ls w rest
scalar_run ls s w rest o (inl x) l r = word_run ls s w rest o x
scalar_run ls s w rest o (inr (inl n)) l r = number_run ls s w rest o n l r
scalar_run ls s w rest o (inr (inr t)) l r = text_run ls s w rest o t

-- Values of this kind are accepted within these levels.
abbrev Runs : (List ℕ → Type 0) → List Level → Type 0
Runs V ls = (s : Spot) (w rest : List ℕ) → Opens ls s → V w → Small w → NoMore rest → Leads ls s ls w rest

item_run : (V : List ℕ → Type 0) (ls : List Level) (s : Spot) (us rest : List ℕ) → Runs V ls → Opens ls s → Item V us → Small us → NoMore rest → Leads ls s ls us rest
item_run V ls s us rest f o t l r =
    let v = t.second in
    let m = small_back Blanks (Then V Blanks) us t l in
    ap (accepts (at ls s)) (parts Blanks (Then V Blanks) us t rest)
    ∙ blanks_run ls s t.front (t.back ++ rest) o.blank t.first
    ∙ ap (accepts (at ls s)) (parts V Blanks t.back v rest)
    ∙ f s v.front (v.back ++ rest) o v.first (small_front V Blanks t.back v m) (blanks_no_more v.back rest v.second r)
    ∙ blanks_run ls spot.Done v.back rest (done_blank ls) v.second

begin_opens : (ls : List Level) → Opens ls spot.Begin
begin_opens ls = record { blank = λ u h. cond-true (is_blank u) _ _ h; opens = λ u h c. cond-false (is_blank u) _ _ h }

item_opens : (ls : List Level) → Opens ls spot.FirstItem
item_opens ls = record { blank = λ u h. cond-true (is_blank u) _ _ h; opens = λ u h c. cond-false (is_blank u) _ _ h ∙ cond-false (u == 93) _ _ c }

-- where a key may begin
record OpensKey (ls : List Level) (s : Spot) : Type 0 where
  blank : (u : ℕ) → is_blank u ≡ true → step_at ls s u ≡ stay ls s
  opens : step_at ls s 34 ≡ stay ls (spot.In (part.Text true [] inner.Plain))

first_key : (ls : List Level) → OpensKey ls spot.FirstKey
first_key ls = record { blank = λ u h. cond-true (is_blank u) _ _ h; opens = refl }

next_key : (ls : List Level) → OpensKey ls spot.NextKey
next_key ls = record { blank = λ u h. cond-true (is_blank u) _ _ h; opens = refl }

colon_run : (V : List ℕ → Type 0) (ls : List Level) (us rest : List ℕ) → Runs V ls → Then Blanks (Then (One 58) (Item V)) us → Small us → NoMore rest → Leads ls spot.Colon ls us rest
colon_run V ls us rest f t l r =
    let c = t.second in
    let m = small_back Blanks (Then (One 58) (Item V)) us t l in
    ap (accepts (at ls spot.Colon)) (parts Blanks (Then (One 58) (Item V)) us t rest)
    ∙ blanks_run ls spot.Colon t.front (t.back ++ rest) (λ u h. cond-true (is_blank u) _ _ h) t.first
    ∙ ap (accepts (at ls spot.Colon)) (parts (One 58) (Item V) t.back c rest ∙ ap (λ (z : List ℕ). z ++ (c.back ++ rest)) c.first)
    ∙ move ls ls spot.Colon spot.Begin 58 (c.back ++ rest) refl
    ∙ item_run V ls spot.Begin c.back rest f (begin_opens ls) c.second (small_back (One 58) (Item V) t.back c m) r

member_run : (V : List ℕ → Type 0) (ls : List Level) (s : Spot) (us rest : List ℕ) → Runs V ls → OpensKey ls s → Member V us → Small us → NoMore rest → Leads ls s ls us rest
member_run V ls s us rest f o t l r =
    let k = t.second in
    let m = small_back Blanks _ us t l in
    ap (accepts (at ls s)) (parts Blanks _ us t rest)
    ∙ blanks_run ls s t.front (t.back ++ rest) o.blank t.first
    ∙ ap (accepts (at ls s)) (parts IsKey _ t.back k rest)
    ∙ key_run ls s k.front (k.back ++ rest) o.opens k.first
    ∙ colon_run V ls k.back rest f k.second (small_back IsKey _ t.back k m) r

-- ---- what stands between brackets

comma_no_more : (P : List ℕ → Type 0) (ps : List (List ℕ)) (rest : List ℕ) → Every (Then (One 44) P) ps → NoMore rest → NoMore (joined ps ++ rest)
comma_no_more P [] rest e r = r
comma_no_more P (p ∷ ps) rest e r =
    let t = e.0 in
    let is : (p ++ joined ps) ++ rest ≡ 44 ∷ ((t.back ++ joined ps) ++ rest) = ap (λ (z : List ℕ). (z ++ joined ps) ++ rest) (t.is ∙ ap (λ (z : List ℕ). z ++ t.back) t.first) in
    subst NoMore (sym is) (refl, refl, refl)

-- from s, one such part is accepted
abbrev Parts : (List ℕ → Type 0) → List Level → Spot → Type 0
Parts P ls s = (us rest : List ℕ) → P us → Small us → NoMore rest → Leads ls s ls us rest

many_run : (P : List ℕ → Type 0) (ls : List Level) (s : Spot) (ps : List (List ℕ)) (rest : List ℕ) → step_at ls spot.Done 44 ≡ stay ls s → Parts P ls s → Every (Then (One 44) P) ps → Small (joined ps) → NoMore rest → Leads ls spot.Done ls (joined ps) rest
many_run P ls s [] rest c f e l r = refl
many_run P ls s (p ∷ ps) rest c f e l r =
    let t = e.0 in
    let tail = joined ps ++ rest in
    let len = length-append p (joined ps) in
    let small : Small p = omega (arith, len, l) in
    let others : Small (joined ps) = omega (arith, len, l) in
    ap (accepts (at ls spot.Done)) (append_assoc p (joined ps) rest ∙ parts (One 44) P p t tail ∙ ap (λ (z : List ℕ). z ++ (t.back ++ tail)) t.first)
    ∙ move ls ls spot.Done s 44 (t.back ++ tail) c
    ∙ f t.back tail t.second (small_back (One 44) P p t small) (comma_no_more P ps rest e.1 r)
    ∙ many_run P ls s ps rest c f e.1 others r

-- from the first spot within l, with the closing unit and what is behind it
inside_run : (P : List ℕ → Type 0) (l : Level) (ls : List Level) (first next : Spot) (close : ℕ) (us rest : List ℕ) → ((u : ℕ) → is_blank u ≡ true → step_at (l ∷ ls) first u ≡ stay (l ∷ ls) first)
    → step_at (l ∷ ls) first close ≡ stay ls spot.Done → step_at (l ∷ ls) spot.Done close ≡ stay ls spot.Done → step_at (l ∷ ls) spot.Done 44 ≡ stay (l ∷ ls) next → Stops close
    → Parts P (l ∷ ls) first → Parts P (l ∷ ls) next → Either Blanks (Parted P) us → Small us → accepts (at (l ∷ ls) first) (us ++ close ∷ rest) ≡ accepts (at ls spot.Done) rest
inside_run P l ls first next close us rest b c d k n f g (inl w) m = blanks_run (l ∷ ls) first us (close ∷ rest) b w ∙ move (l ∷ ls) ls first spot.Done close rest c
inside_run P l ls first next close us rest b c d k n f g (inr t) m =
    let M = Many (Then (One 44) P) in
    let a = t.second in
    let tail : Small (joined a.parts) = subst Small a.is (small_back P M us t m) in
    ap (accepts (at (l ∷ ls) first)) (parts P M us t (close ∷ rest) ∙ ap (λ (z : List ℕ). t.front ++ (z ++ close ∷ rest)) a.is)
    ∙ f t.front (joined a.parts ++ close ∷ rest) t.first (small_front P M us t m) (comma_no_more P a.parts (close ∷ rest) a.every n)
    ∙ many_run P (l ∷ ls) next a.parts (close ∷ rest) k g a.every tail n
    ∙ move (l ∷ ls) ls spot.Done spot.Done close rest d

-- the same behind the opening unit
between_run : (E : List ℕ → Type 0) (l : Level) (ls : List Level) (s first : Spot) (open_ close : ℕ) (w rest : List ℕ) → Opens ls s → is_blank open_ ≡ false → (open_ == 93) ≡ false → begin ls open_ ≡ stay (l ∷ ls) first
    → ((us : List ℕ) → E us → Small us → accepts (at (l ∷ ls) first) (us ++ close ∷ rest) ≡ accepts (at ls spot.Done) rest) → Between open_ E close w → Small w → Leads ls s ls w rest
between_run E l ls s first open_ close w rest o b c e f t m =
    let i = t.second in
    let n = small_back (One open_) (Then E (One close)) w t m in
    ap (accepts (at ls s)) (parts (One open_) (Then E (One close)) w t rest ∙ ap (λ (z : List ℕ). z ++ (t.back ++ rest)) t.first)
    ∙ begins ls (l ∷ ls) s first open_ (t.back ++ rest) o b c e
    ∙ ap (accepts (at (l ∷ ls) first)) (parts E (One close) t.back i rest ∙ ap (λ (z : List ℕ). i.front ++ (z ++ rest)) i.second)
    ∙ f i.front i.first (small_front E (One close) t.back i n)

array_run : (V : List ℕ → Type 0) (ls : List Level) (s : Spot) (w rest : List ℕ) → Runs V (level.Array ∷ ls) → Opens ls s → length ls < 64 → IsArray V w → Small w → Leads ls s ls w rest
array_run V ls s w rest f o h t m =
    let A = level.Array ∷ ls in
    between_run (Either Blanks (Parted (Item V))) level.Array ls s spot.FirstItem 91 93 w rest o refl refl (cond-true (nat_lt (length ls) 64) _ _ (lt-ltb (length ls) 64 h))
    (λ us e l. inside_run (Item V) level.Array ls spot.FirstItem spot.Begin 93 us rest (item_opens A).blank refl refl refl (refl, refl, refl)
    (λ vs tail i k r. item_run V A spot.FirstItem vs tail f (item_opens A) i k r) (λ vs tail i k r. item_run V A spot.Begin vs tail f (begin_opens A) i k r) e l)
    t m

object_run : (V : List ℕ → Type 0) (ls : List Level) (s : Spot) (w rest : List ℕ) → Runs V (level.Object ∷ ls) → Opens ls s → length ls < 64 → IsObject V w → Small w → Leads ls s ls w rest
object_run V ls s w rest f o h t m =
    let O = level.Object ∷ ls in
    between_run (Either Blanks (Parted (Member V))) level.Object ls s spot.FirstKey 123 125 w rest o refl refl (cond-true (nat_lt (length ls) 64) _ _ (lt-ltb (length ls) 64 h))
    (λ us e l. inside_run (Member V) level.Object ls spot.FirstKey spot.NextKey 125 us rest (first_key O).blank refl refl refl (refl, refl, refl)
    (λ vs tail i k r. member_run V O spot.FirstKey vs tail f (first_key O) i k r) (λ vs tail i k r. member_run V O spot.NextKey vs tail f (next_key O) i k r) e l)
    t m

-- A value is accepted within as many levels as leave room for its own.
value_run : (n : ℕ) (ls : List Level) → n + length ls ≡ 64 → Runs (IsValue n) ls
value_run zero ls e = λ s w rest o v m r. scalar_run ls s w rest o v m r
value_run (suc n) ls e = λ s w rest o v m r. elim v [
  | inl x ↦ scalar_run ls s w rest o x m r
  | inr y ↦ elim y [
    | inl a ↦ array_run (IsValue n) ls s w rest (value_run n (level.Array ∷ ls) (omega (arith, e))) o (omega (arith, e)) a m
    | inr b ↦ object_run (IsValue n) ls s w rest (value_run n (level.Object ∷ ls) (omega (arith, e))) o (omega (arith, e)) b m
  ]
]

-- What is in the grammar is accepted.
pub complete : (us : List ℕ) → length us < 2 ^ 63 → IsJson us → accepts start us ≡ true
complete us l t =
    ap (accepts start) (sym (append-nil us)) ∙ item_run (IsValue 64) [] spot.Begin us [] (value_run 64 [] refl) (begin_opens []) t l tt
