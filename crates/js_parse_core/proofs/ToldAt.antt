-- A token of a text that is refused is told as the grammar says, with no limit or with one.
use Rattle.std.proofs.Common.{◌≡◌, ℕ, zero, suc, ◌<◌, ◌≤◌, true, List, [], ◌∷◌, ◌++◌, length, take, Some, None, Ok, Err, refl, sym, ap, ◌∙◌, subst, append_assoc, arith}
use Rattle.std.specs.Prelude.{slice_get}
use Rattle.std.proofs.lemmas.Option.{slice_get_past}
use Rattle.js_lex.specs.declared.token.ScriptFault.{ScriptFault}
use Rattle.js_lex.specs.declared.token.Token.{Token}
use Rattle.js_tree.specs.declared.tree.Item.{Item}
use Rattle.js_grammar.specs.Marks.{Piece}
use Rattle.js_grammar.specs.Spots.{IsBegin}
use Rattle.js_parse_core.specs.declared.machine.Refusal.{Refusal}
use Rattle.js_parse_core.specs.declared.machine.State.{State}
use Rattle.js_parse_core.specs.Machine.{step, start, is_shallow}
use Rattle.js_parse_core.specs.Outer.{Step, most_counted}
use Rattle.js_parse_core.specs.Told.{fault_at}
use Rattle.js_parse_core.proofs.Ends.{Program, Whole, script_begins, begin_read, read, AreRead, ReadSo, Onward, onward, read_step}
use Rattle.js_parse_core.proofs.Limits.{IsLow, limited_ok, limited_shallow, limited_refused, start_shallow, shallow_low}
use Rattle.js_parse_core.proofs.Pieces.{no_limit, taken, run, finish}
use Rattle.js_parse_core.proofs.Standing.{are_front, are_back}
use Rattle.js_parse_core.proofs.Told.{NotDeep}
use Rattle.js_parse_core.proofs.ToldWords.{AreLow, IsToldAs, told_so, told_only, fault_place}

-- ---- with a limit

-- so many constructs may be open
abbrev pub read_within : ℕ → State → List Token → Step
read_within most s [] = Ok s
read_within most s (t ∷ ts) = taken (step most true s t) (λ m. read_within most m ts)

low_limit : (most : ℕ) → most < most_counted → most ≤ no_limit
low_limit most h = omega (arith, h)

same_state : (m n : State) → (let r : Step = Ok m in r) ≡ Ok n → m ≡ n
same_state m n e = cc

-- what is read with a limit is read with none
pub read_unlimited : (most : ℕ) (ts : List Token) (s n : State) → most < most_counted → read_within most s ts ≡ Ok n → read s ts ≡ Ok n
read_unlimited most [] s n l e = e
read_unlimited most (t ∷ ts) s n l e =
    let x : Onward (step most true s t) (λ m. read_within most m ts) n = onward (step most true s t) (λ m. read_within most m ts) n e in
    read_step s x.by t ts (limited_ok most true s x.by t (low_limit most l) x.made) ∙ read_unlimited most ts x.by n l x.goes

low_by : (most : ℕ) (some more : List Token) (s n q : State) → most < most_counted → is_shallow most s ≡ true → read_within most s (some ++ more) ≡ Ok n → read s some ≡ Ok q → IsLow q
low_by most [] more s n q l h e r = subst IsLow (same_state s q r) (shallow_low most s l h)
low_by most (t ∷ some) more s n q l h e r =
    let x : Onward (step most true s t) (λ m. read_within most m (some ++ more)) n = onward (step most true s t) (λ m. read_within most m (some ++ more)) n e in
    let f : step no_limit true s t ≡ Ok x.by = limited_ok most true s x.by t (low_limit most l) x.made in
    low_by most some more x.by n q l (limited_shallow most true s x.by t (low_limit most l) x.made) x.goes (sym (read_step s x.by t some f) ∙ r)

-- .. and all counts stand low
pub read_low : (most : ℕ) (front : List Token) (s : State) → most < most_counted → read_within most start front ≡ Ok s → AreLow front
read_low most front s l e some more q i h = low_by most some more start s q l (start_shallow most) (subst (λ (z : List Token). read_within most start z ≡ Ok s) i e) h.ran

-- ---- a token of a text

pub record Split (ts : List Token) (n : ℕ) (t : Token) : Type 0 where
  pub rest : List Token
  pub parts : ts ≡ take n ts ++ t ∷ rest
  pub place : n ≡ length (take n ts)

pub split_at : (ts : List Token) (n : ℕ) (t : Token) → slice_get ts n ≡ Some t → Split ts n t
split_at [] n t e = absurd (none_there [] n refl e)
  where
    none_there : (ts : List Token) (n : ℕ) → length ts ≡ 0 → slice_get ts n ≡ Some t → ⊥
    none_there ts n l i = let past : length ts ≤ n = omega (arith, l) in let j : slice_get ts n ≡ None = slice_get_past ts n past in cc
split_at (x ∷ ts) zero t e = let i : x ≡ t = cc in record { rest = ts; parts = ap (λ (z : Token). z ∷ ts) i; place = refl }
split_at (x ∷ ts) (suc n) t e =
    let y : Split ts n t = split_at ts n t e in
    record { rest = y.rest; parts = ap (λ (z : List Token). x ∷ z) y.parts; place = ap suc y.place }

module _ (begins : (ts : List Token) (s : State) → AreRead ts → read start ts ≡ Ok s → IsBegin ts) (begin_read : (ts : List Token) → IsBegin ts → (s : State) × ReadSo ts start s) where
  -- Token n of these, behind which one more stands, is refused.
  pub told_at : (ts : List Token) (last t : Token) (n : ℕ) (s : State) (k : Refusal) → AreRead ts → slice_get ts n ≡ Some t → read start (take n ts) ≡ Ok s → AreLow (take n ts) → step no_limit true s t ≡ Err k → NotDeep k
      → IsToldAs (ts ++ last ∷ []) n (fault_at (ts ++ last ∷ []) n t k)
  told_at ts last t n s k are e ran low m d =
      let x : Split ts n t = split_at ts n t e in
      let parts : ts ++ last ∷ [] ≡ take n ts ++ t ∷ (x.rest ++ last ∷ []) = ap (λ (z : List Token). z ++ last ∷ []) x.parts ∙ append_assoc (take n ts) (t ∷ x.rest) (last ∷ []) in
      let read_so : AreRead (take n ts ++ t ∷ x.rest) = subst AreRead x.parts are in
      subst (λ (z : List Token). IsToldAs z n (fault_at z n t k)) (sym parts)
      (told_so begins begin_read (take n ts) (x.rest ++ last ∷ []) t n s k x.place (record { are = are_front (take n ts) (t ∷ x.rest) read_so; ran = ran }) low (are_back (take n ts) (t ∷ x.rest) read_so).0 m d)

  -- .. with a limit, and not for what is open
  pub told_within : (most : ℕ) (ts : List Token) (last t : Token) (n : ℕ) (s : State) (k : Refusal) → most < most_counted → AreRead ts → slice_get ts n ≡ Some t → read_within most start (take n ts) ≡ Ok s → step most true s t ≡ Err k → NotDeep k
      → IsToldAs (ts ++ last ∷ []) n (fault_at (ts ++ last ∷ []) n t k)
  told_within most ts last t n s k l are e ran m d =
      told_at ts last t n s k are e (read_unlimited most (take n ts) start s l ran) (read_low most (take n ts) s l ran) (limited_refused most true s t k (low_limit most l) m d) d

  -- .. and what the grammar says is that fault, and no other
  pub told_within_only : (most : ℕ) (ts : List Token) (last t : Token) (n : ℕ) (s : State) (k : Refusal) (f : ScriptFault) → most < most_counted → AreRead ts → slice_get ts n ≡ Some t → read_within most start (take n ts) ≡ Ok s → step most true s t ≡ Err k → NotDeep k
      → IsToldAs (ts ++ last ∷ []) n f → f.place ≡ t.place → f ≡ fault_at (ts ++ last ∷ []) n t k
  told_within_only most ts last t n s k f l are e ran m d told q =
      let x : Split ts n t = split_at ts n t e in
      let parts : ts ++ last ∷ [] ≡ take n ts ++ t ∷ (x.rest ++ last ∷ []) = ap (λ (z : List Token). z ++ last ∷ []) x.parts ∙ append_assoc (take n ts) (t ∷ x.rest) (last ∷ []) in
      let read_so : AreRead (take n ts ++ t ∷ x.rest) = subst AreRead x.parts are in
      let one : IsToldAs (ts ++ last ∷ []) n (fault_at (ts ++ last ∷ []) n t k) = told_within most ts last t n s k l are e ran m d in
      told_only begins begin_read (take n ts) (x.rest ++ last ∷ []) t n s x.place
      (record { are = are_front (take n ts) (t ∷ x.rest) read_so; ran = read_unlimited most (take n ts) start s l ran }) (read_low most (take n ts) s l ran)
      f (fault_at (ts ++ last ∷ []) n t k) (subst (λ (z : List Token). IsToldAs z n f) parts told) (subst (λ (z : List Token). IsToldAs z n (fault_at (ts ++ last ∷ []) n t k)) parts one)
      (q ∙ sym (fault_place (ts ++ last ∷ []) n t k (are_back (take n ts) (t ∷ x.rest) read_so).0 d))

module _ (sound : (ps : List Piece) (s n : State) → run start ps ≡ Ok s → finish s ≡ Ok n → Program ps n.outer.items) (complete : (ps : List Piece) (tree : List Item) → Program ps tree → Whole ps tree) where
  -- .. by the laws on what the strict machine takes
  pub script_told : (most : ℕ) (ts : List Token) (last t : Token) (n : ℕ) (s : State) (k : Refusal) → most < most_counted → AreRead ts → slice_get ts n ≡ Some t → read_within most start (take n ts) ≡ Ok s → step most true s t ≡ Err k → NotDeep k
      → IsToldAs (ts ++ last ∷ []) n (fault_at (ts ++ last ∷ []) n t k)
  script_told most ts last t n s k l are e ran m d = told_within (script_begins sound complete) (begin_read sound complete) most ts last t n s k l are e ran m d

  pub script_told_only : (most : ℕ) (ts : List Token) (last t : Token) (n : ℕ) (s : State) (k : Refusal) (f : ScriptFault) → most < most_counted → AreRead ts → slice_get ts n ≡ Some t → read_within most start (take n ts) ≡ Ok s → step most true s t ≡ Err k → NotDeep k
      → IsToldAs (ts ++ last ∷ []) n f → f.place ≡ t.place → f ≡ fault_at (ts ++ last ∷ []) n t k
  script_told_only most ts last t n s k f l are e ran m d told q = told_within_only (script_begins sound complete) (begin_read sound complete) most ts last t n s k f l are e ran m d told q
