-- What is answered to the tokens of a script, by where the machine stops.
use Rattle.std.proofs.Common.{◌≡◌, ℕ, ◌+◌, ◌≤◌, ◌<◌, true, false, List, [], ◌∷◌, ◌++◌, length, Ok, Err, refl, sym, ap, ◌∙◌, subst, arith}
use Rattle.std.proofs.lemmas.Bool.{false≢true}
use Rattle.js_lex.specs.declared.token.ScriptFault.{ScriptFault}
use Rattle.js_lex.specs.declared.token.TokenKind.{TokenKind}
use Rattle.js_lex.specs.declared.token.TokenKind.TheVariants as tok
use Rattle.js_lex.specs.declared.token.Token.{Token}
use Rattle.js_parse_core.specs.declared.machine.Refusal.{Refusal}
use Rattle.js_parse_core.specs.declared.machine.State.{State}
use Rattle.js_grammar.specs.Script.{most_open}
use Rattle.js_parse_core.specs.Answer.{Answer, stepped, on_token, read, answer}
use Rattle.js_parse_core.specs.Machine.{step, start, is_shallow}
use Rattle.js_parse_core.specs.Outer.{Step, most_counted}
use Rattle.js_parse_core.specs.Told.{fault_at, fault_of, syntax_fault}
use Rattle.js_parse_core.proofs.Ends as ends
use Rattle.js_parse_core.proofs.Ends.{AreRead, Onward, onward}
use Rattle.js_parse_core.proofs.Limits.{limited_shallow, start_shallow}
use Rattle.js_parse_core.proofs.Pieces.{no_limit, is_last, taken}
use Rattle.js_parse_core.proofs.ToldAt.{read_within, read_unlimited}

-- ---- the machine over tokens, with the limit

abbrev pub bounded : State → List Token → Step
bounded s ts = read_within most_open s ts

pub bounded_step : (s n : State) (t : Token) (ts : List Token) → step most_open true s t ≡ Ok n → bounded s (t ∷ ts) ≡ bounded n ts
bounded_step s n t ts e = ap (λ (o : Step). taken o (λ m. bounded m ts)) e

pub bounded_append : (ts us : List Token) (s : State) → bounded s (ts ++ us) ≡ taken (bounded s ts) (λ n. bounded n us)
bounded_append [] us s = refl
bounded_append (t ∷ ts) us s = go (step most_open true s t) (λ m. bounded_append ts us m)
  where
    go : (o : Step) → ((m : State) → bounded m (ts ++ us) ≡ taken (bounded m ts) (λ n. bounded n us)) → taken o (λ m. bounded m (ts ++ us)) ≡ taken (taken o (λ m. bounded m ts)) (λ n. bounded n us)
    go (Ok m) c = c m
    go (Err k) c = refl

pub bounded_behind : (ts us : List Token) (s m : State) → bounded s ts ≡ Ok m → bounded s (ts ++ us) ≡ bounded m us
bounded_behind ts us s m h = bounded_append ts us s ∙ ap (λ (o : Step). taken o (λ n. bounded n us)) h

pub bounded_front : (ts us : List Token) (s n : State) → bounded s (ts ++ us) ≡ Ok n → Onward (bounded s ts) (λ m. bounded m us) n
bounded_front ts us s n h = onward (bounded s ts) (λ m. bounded m us) n (sym (bounded_append ts us s) ∙ h)

low : most_open ≤ no_limit
low = omega arith

pub few : most_open < most_counted
few = omega arith

-- .. does what the machine with no limit does
pub bounded_read : (ts : List Token) (s n : State) → bounded s ts ≡ Ok n → ends.read s ts ≡ Ok n
bounded_read ts s n h = read_unlimited most_open ts s n few h

-- .. and no more than may be open are open behind
pub bounded_shallow : (ts : List Token) (s n : State) → is_shallow most_open s ≡ true → bounded s ts ≡ Ok n → is_shallow most_open n ≡ true
bounded_shallow [] s n i h = subst (λ (z : State). is_shallow most_open z ≡ true) (same h) i
  where
    same : (let r : Step = Ok s in r) ≡ Ok n → s ≡ n
    same e = cc
bounded_shallow (t ∷ ts) s n i h =
    let x : Onward (step most_open true s t) (λ m. bounded m ts) n = onward (step most_open true s t) (λ m. bounded m ts) n h in
    bounded_shallow ts x.by n (limited_shallow most_open true s x.by t low x.made) x.goes

pub reached_shallow : (ts : List Token) (s : State) → bounded start ts ≡ Ok s → is_shallow most_open s ≡ true
reached_shallow ts s h = bounded_shallow ts start s (start_shallow most_open) h

-- ---- where it stops

pub data Stops (s : State) (ts : List Token) : Type 0 where
  passed : (n : State) → bounded s ts ≡ Ok n → Stops s ts
  stopped : (before : List Token) (t : Token) (rest : List Token) (n : State) (k : Refusal) → ts ≡ before ++ t ∷ rest → bounded s before ≡ Ok n → step most_open true n t ≡ Err k → Stops s ts

pub stops : (ts : List Token) (s : State) → Stops s ts
stops [] s = passed s refl
stops (t ∷ ts) s = go (step most_open true s t) refl (λ m. stops ts m)
  where
    behind : (m : State) → step most_open true s t ≡ Ok m → Stops m ts → Stops s (t ∷ ts)
    behind m e (passed n h) = passed n (bounded_step s m t ts e ∙ h)
    behind m e (stopped b u r n k i h j) = stopped (t ∷ b) u r n k (ap (λ (z : List Token). t ∷ z) i) (bounded_step s m t b e ∙ h) j

    go : (o : Step) → step most_open true s t ≡ o → ((m : State) → Stops m ts) → Stops s (t ∷ ts)
    go (Ok m) e f = behind m e (f m)
    go (Err k) e f = stopped [] t ts s k refl refl e

-- ---- the answer

token_read : (all : List Token) (m : ℕ) (s : State) (t : Token) (k : TokenKind) (go : State → Answer) → is_last k ≡ false → on_token all m s t k go ≡ stepped all m t (step most_open true s t) go
token_read all m s t (tok.Bad f) go e = absurd (false≢true (sym e))
token_read all m s t _ go e = refl

-- the tokens that are taken
pub read_on : (all ts rest : List Token) (m : ℕ) (s n : State) → AreRead ts → bounded s ts ≡ Ok n → read all m s (ts ++ rest) ≡ read all (m + length ts) n rest
read_on all [] rest m s n a h = (let i : m ≡ m + 0 = omega arith in ap (λ (z : ℕ). read all z s rest) i ∙ ap (λ (z : State). read all (m + 0) z rest) (same h))
  where
    same : (let r : Step = Ok s in r) ≡ Ok n → s ≡ n
    same e = cc
read_on all (t ∷ ts) rest m s n a h =
    let x : Onward (step most_open true s t) (λ y. bounded y ts) n = onward (step most_open true s t) (λ y. bounded y ts) n h in
    let i : (m + 1) + length ts ≡ m + length (t ∷ ts) = omega arith in
    token_read all m s t t.kind (λ y. read all (m + 1) y (ts ++ rest)) a.0
    ∙ ap (λ (o : Step). stepped all m t o (λ y. read all (m + 1) y (ts ++ rest))) x.made
    ∙ read_on all ts rest (m + 1) x.by n a.1 x.goes
    ∙ ap (λ (z : ℕ). read all z n rest) i

pub answer_behind : (all ts rest : List Token) (n : State) → all ≡ ts ++ rest → AreRead ts → bounded start ts ≡ Ok n → answer all ≡ read all (length ts) n rest
answer_behind all ts rest n e a h = (let i : 0 + length ts ≡ length ts = omega arith in ap (read all 0 start) e ∙ read_on all ts rest 0 start n a h ∙ ap (λ (z : ℕ). read all z n rest) i)

-- a token that is refused
pub answer_refused : (all before rest : List Token) (t : Token) (n : State) (k : Refusal) → all ≡ before ++ t ∷ rest → AreRead before → is_last t.kind ≡ false → bounded start before ≡ Ok n → step most_open true n t ≡ Err k
    → answer all ≡ Err (fault_at all (length before) t k)
answer_refused all before rest t n k e a l h j =
    answer_behind all before (t ∷ rest) n e a h
    ∙ token_read all (length before) n t t.kind (λ y. read all (length before + 1) y rest) l
    ∙ ap (λ (o : Step). stepped all (length before) t o (λ y. read all (length before + 1) y rest)) j

-- the last token
pub answer_bad : (all ts : List Token) (last : Token) (n : State) (f : ScriptFault) → all ≡ ts ++ last ∷ [] → AreRead ts → bounded start ts ≡ Ok n → last.kind ≡ tok.Bad f → answer all ≡ Err f
answer_bad all ts last n f e a h b =
    answer_behind all ts (last ∷ []) n e a h ∙ ap (λ (k : TokenKind). on_token all (length ts) n last k (λ y. Ok y.outer.items)) b

answer_end : (all ts : List Token) (last : Token) (n : State) → all ≡ ts ++ last ∷ [] → AreRead ts → bounded start ts ≡ Ok n → last.kind ≡ tok.End → answer all ≡ stepped all (length ts) last (step most_open true n last) (λ y. Ok y.outer.items)
answer_end all ts last n e a h b =
    answer_behind all ts (last ∷ []) n e a h ∙ ap (λ (k : TokenKind). on_token all (length ts) n last k (λ y. Ok y.outer.items)) b

pub answer_whole : (all ts : List Token) (last : Token) (n over : State) → all ≡ ts ++ last ∷ [] → AreRead ts → bounded start ts ≡ Ok n → last.kind ≡ tok.End → step most_open true n last ≡ Ok over → answer all ≡ Ok over.outer.items
answer_whole all ts last n over e a h b j =
    answer_end all ts last n e a h b ∙ ap (λ (o : Step). stepped all (length ts) last o (λ y. Ok y.outer.items)) j

pub end_fault : (all : List Token) (m : ℕ) (t : Token) (k : Refusal) → t.kind ≡ tok.End → fault_at all m t k ≡ syntax_fault t.place
end_fault all m t k e = ap (λ (z : TokenKind). fault_of all m t.place k z) e

pub answer_early : (all ts : List Token) (last : Token) (n : State) (k : Refusal) → all ≡ ts ++ last ∷ [] → AreRead ts → bounded start ts ≡ Ok n → last.kind ≡ tok.End → step most_open true n last ≡ Err k → answer all ≡ Err (syntax_fault last.place)
answer_early all ts last n k e a h b j =
    answer_end all ts last n e a h b ∙ ap (λ (o : Step). stepped all (length ts) last o (λ y. Ok y.outer.items)) j
    ∙ ap (λ (f : ScriptFault). let r : Answer = Err f in r) (end_fault all (length ts) last k b)

-- ---- how the tokens are answered

pub data Verdict (ts : List Token) (last : Token) : Type 0 where
  whole : (n over : State) → bounded start ts ≡ Ok n → last.kind ≡ tok.End → step most_open true n last ≡ Ok over → Verdict ts last
  early : (n : State) (k : Refusal) → bounded start ts ≡ Ok n → last.kind ≡ tok.End → step most_open true n last ≡ Err k → Verdict ts last
  unread : (n : State) (f : ScriptFault) → bounded start ts ≡ Ok n → last.kind ≡ tok.Bad f → Verdict ts last
  refused : (before : List Token) (t : Token) (rest : List Token) (n : State) (k : Refusal) → ts ≡ before ++ t ∷ rest → bounded start before ≡ Ok n → step most_open true n t ≡ Err k → Verdict ts last

pub verdict : (ts : List Token) (last : Token) → is_last last.kind ≡ true → Verdict ts last
verdict ts last l = by_stop (stops ts start)
  where
    by_kind : (n : State) (k : TokenKind) → bounded start ts ≡ Ok n → last.kind ≡ k → is_last k ≡ true → (o : Step) → step most_open true n last ≡ o → Verdict ts last
    by_kind n tok.End h b e (Ok m) j = whole n m h b j
    by_kind n tok.End h b e (Err k) j = early n k h b j
    by_kind n (tok.Bad f) h b e o j = unread n f h b
    by_kind n _ h b e o j = absurd (false≢true e)

    by_stop : Stops start ts → Verdict ts last
    by_stop (passed n h) = by_kind n last.kind h refl l (step most_open true n last) refl
    by_stop (stopped b t r n k i h j) = refused b t r n k i h j
