-- The tree of a script's tokens and their first fault, and what the machine answers.
use Rattle.std.proofs.Common.{◌≡◌, ℕ, zero, suc, ◌+◌, ◌-◌, ◌==◌, ◌≤◌, Bool, true, false, cond, List, [], ◌∷◌, ◌++◌, ◌⊎◌, length, take as take_first, Option, Some, None, Ok, Err, refl, sym, ap, ◌∙◌, subst, inl, inr, append_assoc, arith, ne_eqb}
use Rattle.std.specs.Prelude.{slice_get}
use Rattle.std.proofs.lemmas.Bool.{false≢true}
use Rattle.std.proofs.lemmas.List.{length-append}
use Rattle.js_lex.specs.declared.token.ScriptFault.{ScriptFault}
use Rattle.js_lex.specs.declared.token.ScriptKind.TheVariants as kind
use Rattle.js_lex.specs.declared.token.Token.{Token}
use Rattle.js_lex.specs.declared.token.TokenKind.{TokenKind}
use Rattle.js_lex.specs.declared.token.TokenKind.TheVariants as tok
use Rattle.js_tree.specs.declared.tree.Item.{Item}
use Rattle.js_words.specs.declared.word.Word.{Word}
use Rattle.js_words.specs.declared.word.Word.TheVariants as w
use Rattle.js_lex.specs.Grammar.{AreTokens}
use Rattle.js_lex.proofs.LexLaws.{are_only}
use Rattle.js_grammar.specs.Fault.{GoesOn, IsRefused, OpensTooMany, IsTold, IsWithin, IsLast, IsTreeOf, IsFirstFault}
use Rattle.js_grammar.specs.Letters.{letters}
use Rattle.js_grammar.specs.Script.{IsScript, IsTree, AreShallow, most_open}
use Rattle.js_grammar.specs.Spots.{IsBegin, IsWord}
use Rattle.js_parse_core.specs.Answer.{Answer, answer}
use Rattle.js_parse_core.specs.declared.machine.Refusal.{Refusal}
use Rattle.js_parse_core.specs.declared.machine.Refusal.TheVariants as refusal
use Rattle.js_parse_core.specs.declared.machine.State.{State}
use Rattle.js_parse_core.specs.Machine.{step, start, is_shallow}
use Rattle.js_parse_core.specs.Outer.{Step}
use Rattle.js_parse_core.specs.Told.{left_out, syntax_fault, told, word, place_of, refusal_fault, fault_at}
use Rattle.js_parse_core.proofs.Accepts.{Reached}
use Rattle.js_parse_core.proofs.Answers.{bounded, bounded_step, bounded_behind, bounded_front, bounded_read, reached_shallow, few, answer_refused, answer_bad, answer_whole, answer_early, Verdict, whole, early, unread, refused, verdict}
use Rattle.js_parse_core.proofs.Ends.{read, AreRead, ReadSo, Onward, onward, read_step, read_behind, script_begins, begin_read, script_refused}
use Rattle.js_parse_core.proofs.Limits as limits
use Rattle.js_parse_core.proofs.Limits.{IsLow, is_full, limited_ok, limited_room, limited_refused, unlimited_ok, unlimited_deep, unlimited_full, unlimited_refused, no_limit_told, nesting, nesting_before, shallow_low}
use Rattle.js_parse_core.proofs.Pieces.{no_limit, is_last, taken}
use Rattle.js_parse_core.proofs.Programs.{sound, complete}
use Rattle.js_parse_core.proofs.RefusedWords.{take_at}
use Rattle.js_parse_core.proofs.FrontCounts.{counted}
use Rattle.js_parse_core.proofs.LastTokens.{LastOf, last_token}
use Rattle.js_parse_core.proofs.Scripts.{Gone, RoomFor, gone, goes_begin, goes_on_with, goes_on, tree_of, Taken, of_tree}
use Rattle.js_parse_core.proofs.Shallow.{HasRoom}
use Rattle.js_parse_core.proofs.Standing.{are_front, are_back}
use Rattle.js_parse_core.proofs.Told.{NotDeep, Told}
use Rattle.js_parse_core.proofs.ToldAt.{read_low, Split, split_at}
use Rattle.js_parse_core.proofs.ToldWords.{AreLow, told_so, one_word, token_there, front_there, fault_is, snoc}

low : most_open ≤ no_limit
low = omega arith

ok_same : (m n : State) → (let r : Step = Ok m in r) ≡ Ok n → m ≡ n
ok_same m n h = cc

ok_err : (m : State) (k : Refusal) → (let r : Step = Ok m in r) ≡ Err k → ⊥
ok_err m k h = cc

-- ---- faults

-- A fault at a place is one, where a token has one word.
told_same : (ts : List Token) (n : ℕ) (f g : ScriptFault) → ((x y : Word) → IsWord ts n x → IsWord ts n y → x ≡ y) → f.place ≡ g.place → IsTold ts n f → IsTold ts n g → f ≡ g
told_same ts n f g one p a b = by_parts (kinds a b) p (words a b)
  where
    kinds : IsTold ts n f → IsTold ts n g → f.kind ≡ g.kind
    kinds (inl h) (inl k) = h.2 ∙ sym k.2
    kinds (inl h) (inr k) = absurd (k.0 h.0 h.1)
    kinds (inr h) (inl k) = absurd (h.0 k.0 k.1)
    kinds (inr h) (inr k) = h.1 ∙ sym k.1

    words : IsTold ts n f → IsTold ts n g → f.word ≡ g.word
    words (inl h) (inl k) = h.3 ∙ ap letters (one h.0 k.0 h.1 k.1) ∙ sym k.3
    words (inl h) (inr k) = absurd (k.0 h.0 h.1)
    words (inr h) (inl k) = absurd (h.0 k.0 k.1)
    words (inr h) (inr k) = h.2 ∙ sym k.2

    by_parts : f.kind ≡ g.kind → f.place ≡ g.place → f.word ≡ g.word → f ≡ g
    by_parts i j k =
        ap (λ z. let r : ScriptFault = record { kind = z; place = f.place; word = f.word } in r) i
        ∙ ap (λ z. let r : ScriptFault = record { kind = g.kind; place = z; word = f.word } in r) j
        ∙ ap (λ z. let r : ScriptFault = record { kind = g.kind; place = g.place; word = z } in r) k

left_same : (q : ℕ) (f : ScriptFault) → f.place ≡ q → f.kind ≡ kind.LeftOut → f.word ≡ letters w.Nesting → f ≡ left_out q w.Nesting
left_same q f i j k =
    ap (λ z. let r : ScriptFault = record { kind = z; place = f.place; word = f.word } in r) j
    ∙ ap (λ z. let r : ScriptFault = record { kind = kind.LeftOut; place = z; word = f.word } in r) i
    ∙ ap (λ z. let r : ScriptFault = record { kind = kind.LeftOut; place = q; word = z } in r) k

told_place : (q : ℕ) (o : Option Word) → (told q o).place ≡ q
told_place q (Some x) = refl
told_place q None = refl

refusal_place : (ts : List Token) (n q : ℕ) (k : Refusal) → NotDeep k → (refusal_fault ts n q k).place ≡ q
refusal_place ts n q (refusal.Token a) d = told_place q (word ts n a)
refusal_place ts n q refusal.Plain d = refl
refusal_place ts n q refusal.Nesting d = absurd d
refusal_place ts n q refusal.NestingBefore d = absurd d

fault_place : (ts : List Token) (n : ℕ) (t : Token) (k : Refusal) → is_last t.kind ≡ false → NotDeep k → (fault_at ts n t k).place ≡ t.place
fault_place ts n t k l d = ap (λ (f : ScriptFault). f.place) (fault_is ts n t.place k t.kind l) ∙ refusal_place ts n t.place k d

-- the token before
before_place : (b : List Token) (u : Token) (rest : List Token) (n : ℕ) → n ≡ length b + 1 → cond (n == 0) 0 (place_of (slice_get (b ++ u ∷ rest) (n - 1))) ≡ u.place
before_place b u rest n e =
    let z : (n == 0) ≡ false = ne_eqb n 0 (λ i. absurd (omega (arith, e, i))) in
    let j : n - 1 ≡ length b = omega (arith, e) in
    ap (λ (c : Bool). cond c 0 (place_of (slice_get (b ++ u ∷ rest) (n - 1)))) z ∙ ap place_of (token_there b rest u (n - 1) j)

-- ---- lists

lists_one : (a : List Token) (t : Token) → length (a ++ t ∷ []) ≡ length a + 1
lists_one a t = length-append a (t ∷ [])

-- the first tokens, one more than stand before t, and k further
take_more : (before rest : List Token) (t : Token) (n k : ℕ) → n ≡ length before → take_first (n + suc k) (before ++ t ∷ rest) ≡ before ++ t ∷ take_first k rest
take_more before rest t n k e = ap (λ (m : ℕ). take_first (m + suc k) (before ++ t ∷ rest)) e ∙ take_at before (t ∷ rest) (suc k)

are_take : (a : List Token) (u : Token) (rest : List Token) (k : ℕ) → AreRead (a ++ u ∷ rest) → AreRead (a ++ u ∷ take_first k rest)
are_take [] u rest k h = (h.0, are_first rest k h.1)
  where
    are_first : (ts : List Token) (k : ℕ) → AreRead ts → AreRead (take_first k ts)
    are_first ts zero h = tt
    are_first [] (suc k) h = tt
    are_first (t ∷ ts) (suc k) h = (h.0, are_first ts k h.1)
are_take (t ∷ a) u rest k h = (h.0, are_take a u rest k h.1)

-- ---- the machine behind some tokens

low_at : (ts : List Token) (s : State) → bounded start ts ≡ Ok s → IsLow s
low_at ts s h = shallow_low most_open s few (reached_shallow ts s h)

reached_at : (ts : List Token) (s : State) → AreRead ts → bounded start ts ≡ Ok s → Reached ts s
reached_at ts s are h = record { are = are; ran = bounded_read ts start s h }

low_all : (ts : List Token) (s : State) → bounded start ts ≡ Ok s → AreLow ts
low_all ts s h = read_low most_open ts s few h

-- one token more
bounded_one : (ts : List Token) (t : Token) (s n : State) → bounded start ts ≡ Ok s → step most_open true s t ≡ Ok n → bounded start (ts ++ t ∷ []) ≡ Ok n
bounded_one ts t s n h e = bounded_behind ts (t ∷ []) start s h ∙ bounded_step s n t [] e

read_one : (s n : State) (t : Token) → step no_limit true s t ≡ Ok n → read s (t ∷ []) ≡ Ok n
read_one s n t e = read_step s n t [] e

begins : (ts : List Token) (s : State) → AreRead ts → read start ts ≡ Ok s → IsBegin ts
begins = script_begins sound complete

begin_so : (ts : List Token) → IsBegin ts → (s : State) × ReadSo ts start s
begin_so = begin_read sound complete

told_is : (before rest : List Token) (last t : Token) (s : State) (k : Refusal) → AreRead (before ++ t ∷ rest) → bounded start before ≡ Ok s → step no_limit true s t ≡ Err k → NotDeep k
    → IsTold ((before ++ t ∷ rest) ++ last ∷ []) (length before) (fault_at ((before ++ t ∷ rest) ++ last ∷ []) (length before) t k)
told_is before rest last t s k are h e d =
    subst (λ (z : List Token). IsTold z (length before) (fault_at z (length before) t k)) (sym (append_assoc before (t ∷ rest) (last ∷ [])))
    (told_so begins begin_so before (rest ++ last ∷ []) t (length before) s k refl (reached_at before s (are_front before (t ∷ rest) are) h) (low_all before s h) (are_back before (t ∷ rest) are).0 e d)

word_one : (before rest : List Token) (last t : Token) (s : State) → AreRead (before ++ t ∷ rest) → bounded start before ≡ Ok s → (x y : Word)
    → IsWord ((before ++ t ∷ rest) ++ last ∷ []) (length before) x → IsWord ((before ++ t ∷ rest) ++ last ∷ []) (length before) y → x ≡ y
word_one before rest last t s are h =
    subst (λ (z : List Token). (x y : Word) → IsWord z (length before) x → IsWord z (length before) y → x ≡ y) (sym (append_assoc before (t ∷ rest) (last ∷ [])))
    (one_word begins begin_so before (rest ++ last ∷ []) t (length before) s refl (reached_at before s (are_front before (t ∷ rest) are) h) (low_all before s h))

goes_with : (us vs : List Token) (m n : State) → AreRead (us ++ vs) → bounded start us ≡ Ok m → read m vs ≡ Ok n → ((ws : List Token) → RoomFor m (vs ++ ws)) → GoesOn (length us) (us ++ vs)
goes_with = goes_on_with sound complete counted

goes : (us : List Token) (m : State) → AreRead us → bounded start us ≡ Ok m → GoesOn (length us) us
goes = goes_on sound complete counted

gone_with : (us vs : List Token) (n : ℕ) → n ≡ length us → (g : GoesOn n (us ++ vs)) → Gone us (vs ++ g.rest)
gone_with us vs n e g =
    gone sound complete counted us (vs ++ g.rest) g.tree g.open_at (subst (λ (z : List Token). IsScript g.tree z g.open_at) (append_assoc us vs g.rest) g.script)
    (subst (λ (m : ℕ). AreShallow (take_first m g.open_at)) e g.shallow)

gone_all : (us : List Token) (n : ℕ) → n ≡ length us → (g : GoesOn n us) → Gone us g.rest
gone_all us n e g = gone sound complete counted us g.rest g.tree g.open_at g.script (subst (λ (m : ℕ). AreShallow (take_first m g.open_at)) e g.shallow)

-- ---- the answer is the first fault

-- a token that the grammar does not allow
within_token : (before rest : List Token) (last t : Token) (s : State) (k : Refusal) → AreRead (before ++ t ∷ rest) → bounded start before ≡ Ok s → step most_open true s t ≡ Err k → NotDeep k
    → IsWithin (before ++ t ∷ rest) last (fault_at ((before ++ t ∷ rest) ++ last ∷ []) (length before) t k)
within_token before rest last t s k are h e d =
    let f : step no_limit true s t ≡ Err k = limited_refused most_open true s t k low e d in
    inl (
      length before,
      t,
      record {
        is = token_there before rest t (length before) refl;
        before = subst (GoesOn (length before)) (sym (front_there before (t ∷ rest) (length before) refl)) (goes before s (are_front before (t ∷ rest) are) h);
        behind = λ b. script_refused sound complete before t s k (bounded_read before start s h) f (subst IsBegin (take_at before (t ∷ rest) 1) b);
      },
      fault_place ((before ++ t ∷ rest) ++ last ∷ []) (length before) t k (are_back before (t ∷ rest) are).0 d,
      told_is before rest last t s k are h f d,
    )

-- one that opens one construct too many
within_nesting : (before rest : List Token) (last t : Token) (s : State) → AreRead (before ++ t ∷ rest) → bounded start before ≡ Ok s → step most_open true s t ≡ Err refusal.Nesting → IsWithin (before ++ t ∷ rest) last (left_out t.place w.Nesting)
within_nesting before rest last t s are h e =
    let o : limits.OpensTooMany most_open true s t = nesting most_open true s t low (low_at before s h) e in
    let same : take_first (length before + 1) (before ++ t ∷ rest) ≡ before ++ t ∷ [] = take_at before (t ∷ rest) 1 in
    let parts : before ++ t ∷ rest ≡ (before ++ t ∷ []) ++ rest = sym (append_assoc before (t ∷ []) rest) in
    let many : length (before ++ t ∷ rest) ≡ length before + length (t ∷ rest) = length-append before (t ∷ rest) in
    inr (
      length before,
      t,
      record {
        is = token_there before rest t (length before) refl;
        front = length before + 1;
        reaches = (omega arith, omega (arith, many));
        before = subst (GoesOn (length before)) (sym same) (goes_with before (t ∷ []) s o.next (are_front (before ++ t ∷ []) rest (subst AreRead parts are)) h (read_one s o.next t o.made) (λ ws. o.room));
        too_many = λ g.
            let x : Gone (before ++ t ∷ []) _ = gone_all (before ++ t ∷ []) (length before + 1) (sym (lists_one before t)) (subst (GoesOn (length before + 1)) same g) in
            ok_err x.state refusal.Nesting (sym x.ran ∙ bounded_behind before (t ∷ []) start s h ∙ ap (λ (y : Step). taken y (λ n. bounded n [])) e);
      },
      refl,
      refl,
      refl,
    )

-- the arrow before one
within_before : (b rest : List Token) (u last t : Token) (s : State) → AreRead (b ++ u ∷ t ∷ rest) → bounded start (b ++ u ∷ []) ≡ Ok s → step most_open true s t ≡ Err refusal.NestingBefore → IsWithin (b ++ u ∷ t ∷ rest) last (left_out u.place w.Nesting)
within_before b rest u last t s are h e =
    let o : limits.OpenedTooMany most_open true s t = nesting_before most_open true s t low (low_at (b ++ u ∷ []) s h) e in
    let x : Onward (bounded start b) (λ m. bounded m (u ∷ [])) s = bounded_front b (u ∷ []) start s h in
    let y : Onward (step most_open true x.by u) (λ m. bounded m []) s = onward (step most_open true x.by u) (λ m. bounded m []) s x.goes in
    let same : take_first (length b + 2) (b ++ u ∷ t ∷ rest) ≡ b ++ u ∷ t ∷ [] = take_at b (u ∷ t ∷ rest) 2 in
    let parts : b ++ u ∷ t ∷ rest ≡ (b ++ u ∷ t ∷ []) ++ rest = sym (append_assoc b (u ∷ t ∷ []) rest) in
    let many : length (b ++ u ∷ t ∷ rest) ≡ length b + length (u ∷ t ∷ rest) = length-append b (u ∷ t ∷ rest) in
    let made : step no_limit true x.by u ≡ Ok s = limited_ok most_open true x.by s u low (y.made ∙ y.goes) in
    inr (
      length b,
      u,
      record {
        is = token_there b (t ∷ rest) u (length b) refl;
        front = length b + 2;
        reaches = (omega arith, omega (arith, many));
        before = subst (GoesOn (length b)) (sym same)
            (goes_with b (u ∷ t ∷ []) x.by o.next (are_front (b ++ u ∷ t ∷ []) rest (subst AreRead parts are)) x.made (read_step x.by s u (t ∷ []) made ∙ read_one s o.next t o.made) (λ ws. limited_room most_open true x.by y.by u low y.made));
        too_many = λ g.
            let z : Gone (b ++ u ∷ []) _ = gone_with (b ++ u ∷ []) (t ∷ []) (length b + 1) (sym (lists_one b u)) (subst (GoesOn (length b + 1)) (same ∙ sym (append_assoc b (u ∷ []) (t ∷ []))) g) in
            let is : z.state ≡ s = ok_same z.state s (sym z.ran ∙ h) in
            false≢true (sym (subst (λ (m : State). HasRoom m t) is z.room) ∙ o.full);
      },
      refl,
      refl,
      refl,
    )

-- the refusals
within_refused : (before rest : List Token) (last t : Token) (s : State) (k : Refusal) → AreRead (before ++ t ∷ rest) → bounded start before ≡ Ok s → step most_open true s t ≡ Err k
    → IsWithin (before ++ t ∷ rest) last (fault_at ((before ++ t ∷ rest) ++ last ∷ []) (length before) t k)
within_refused before rest last t s (refusal.Token a) are h e = within_token before rest last t s (refusal.Token a) are h e tt
within_refused before rest last t s refusal.Plain are h e = within_token before rest last t s refusal.Plain are h e tt
within_refused before rest last t s refusal.Nesting are h e =
    subst (IsWithin (before ++ t ∷ rest) last) (sym (fault_is ((before ++ t ∷ rest) ++ last ∷ []) (length before) t.place refusal.Nesting t.kind (are_back before (t ∷ rest) are).0)) (within_nesting before rest last t s are h e)
within_refused before rest last t s refusal.NestingBefore are h e = by_last (snoc before)
  where
    by_last : (before ≡ []) ⊎ ((b : List Token) × (u : Token) × (before ≡ b ++ u ∷ [])) → IsWithin (before ++ t ∷ rest) last (fault_at ((before ++ t ∷ rest) ++ last ∷ []) (length before) t refusal.NestingBefore)
    by_last (inl i) =
        let o : limits.OpenedTooMany most_open true s t = nesting_before most_open true s t low (low_at before s h) e in
        let is : start ≡ s = ok_same start s (sym (ap (bounded start) i) ∙ h) in
        absurd (false≢true (subst (λ (m : State). is_full most_open m t ≡ true) (sym is) o.full))
    by_last (inr (b, u, i)) =
        let parts : before ++ t ∷ rest ≡ b ++ u ∷ t ∷ rest = ap (λ (z : List Token). z ++ t ∷ rest) i ∙ append_assoc b (u ∷ []) (t ∷ rest) in
        let all : (before ++ t ∷ rest) ++ last ∷ [] ≡ b ++ u ∷ (t ∷ (rest ++ last ∷ [])) = ap (λ (z : List Token). z ++ last ∷ []) parts ∙ append_assoc b (u ∷ t ∷ rest) (last ∷ []) in
        let place : cond (length before == 0) 0 (place_of (slice_get ((before ++ t ∷ rest) ++ last ∷ []) (length before - 1))) ≡ u.place =
        ap (λ (z : List Token). cond (length before == 0) 0 (place_of (slice_get z (length before - 1)))) all ∙ before_place b u (t ∷ (rest ++ last ∷ [])) (length before) (ap (λ (z : List Token). length z) i ∙ lists_one b u) in
        let fault : fault_at ((before ++ t ∷ rest) ++ last ∷ []) (length before) t refusal.NestingBefore ≡ left_out u.place w.Nesting =
        fault_is ((before ++ t ∷ rest) ++ last ∷ []) (length before) t.place refusal.NestingBefore t.kind (are_back before (t ∷ rest) are).0 ∙ ap (λ (q : ℕ). left_out q w.Nesting) place in
        subst (λ (z : ScriptFault). IsWithin (before ++ t ∷ rest) last z) (sym fault)
        (subst (λ (z : List Token). IsWithin z last (left_out u.place w.Nesting)) (sym parts)
        (within_before b rest u last t s (subst AreRead parts are) (subst (λ (z : List Token). bounded start z ≡ Ok s) i h) e))

-- ---- the first fault is the answer

refused_answer : (ts : List Token) (last t : Token) (n : ℕ) (f : ScriptFault) → AreRead ts → IsRefused ts n t → f.place ≡ t.place → IsTold (ts ++ last ∷ []) n f → answer (ts ++ last ∷ []) ≡ Err f
refused_answer ts last t n f are r q i =
    let x : Split ts n t = split_at ts n t r.is in
    at_split (take_first n ts) x.rest x.parts x.place r.before (λ b. r.behind (subst IsBegin (sym (ap (take_first (n + 1)) x.parts ∙ take_more (take_first n ts) x.rest t n 0 x.place)) b))
  where
    at_split : (before rest : List Token) → ts ≡ before ++ t ∷ rest → n ≡ length before → GoesOn n before → (IsBegin (before ++ t ∷ []) → ⊥) → answer (ts ++ last ∷ []) ≡ Err f
    at_split before rest e l g barred = by_step (step no_limit true x.state t) refl
      where
        x : Gone before g.rest
        x = gone_all before n l g

        are2 : AreRead (before ++ t ∷ rest)
        are2 = subst AreRead e are

        by_step : (o : Step) → step no_limit true x.state t ≡ o → answer (ts ++ last ∷ []) ≡ Err f
        by_step (Ok m) j = absurd (barred (begins (before ++ t ∷ []) m (are_front (before ++ t ∷ []) rest (subst AreRead (sym (append_assoc before (t ∷ []) rest)) are2))
            (read_behind before (t ∷ []) start x.state (bounded_read before start x.state x.ran) ∙ read_one x.state m t j)))
        by_step (Err k) j =
            let d : NotDeep k = subst Told j (no_limit_told true x.state t (low_at before x.state x.ran)) in
            let all : ts ++ last ∷ [] ≡ (before ++ t ∷ rest) ++ last ∷ [] = ap (λ (z : List Token). z ++ last ∷ []) e in
            let made : answer (ts ++ last ∷ []) ≡ Err (fault_at (ts ++ last ∷ []) (length before) t k) =
            answer_refused (ts ++ last ∷ []) before (rest ++ last ∷ []) t x.state k (all ∙ append_assoc before (t ∷ rest) (last ∷ [])) x.are (are_back before (t ∷ rest) are2).0 x.ran (unlimited_refused most_open true x.state t k low j) in
            let same : fault_at (ts ++ last ∷ []) (length before) t k ≡ f =
            told_same (ts ++ last ∷ []) (length before) (fault_at (ts ++ last ∷ []) (length before) t k) f
            (subst (λ (z : List Token). (a b : Word) → IsWord z (length before) a → IsWord z (length before) b → a ≡ b) (sym all) (word_one before rest last t x.state are2 x.ran))
            (fault_place (ts ++ last ∷ []) (length before) t k (are_back before (t ∷ rest) are2).0 d ∙ sym q)
            (subst (λ (z : List Token). IsTold z (length before) (fault_at z (length before) t k)) (sym all) (told_is before rest last t x.state k are2 x.ran j d))
            (subst (λ (m : ℕ). IsTold (ts ++ last ∷ []) m f) l i) in
            made ∙ ap (λ (z : ScriptFault). let r : Answer = Err z in r) same

nested : (ts before rest : List Token) (last t : Token) (f : ScriptFault) (s : State) → ts ≡ before ++ t ∷ rest → AreRead ts → bounded start before ≡ Ok s → step most_open true s t ≡ Err refusal.Nesting → f ≡ left_out t.place w.Nesting → answer (ts ++ last ∷ []) ≡ Err f
nested ts before rest last t f s e are h j q =
    let all : ts ++ last ∷ [] ≡ before ++ t ∷ (rest ++ last ∷ []) = ap (λ (z : List Token). z ++ last ∷ []) e ∙ append_assoc before (t ∷ rest) (last ∷ []) in
    let are2 : AreRead (before ++ t ∷ rest) = subst AreRead e are in
    let l : is_last t.kind ≡ false = (are_back before (t ∷ rest) are2).0 in
    answer_refused (ts ++ last ∷ []) before (rest ++ last ∷ []) t s refusal.Nesting all (are_front before (t ∷ rest) are2) l h j
    ∙ ap (λ (z : ScriptFault). let r : Answer = Err z in r) (fault_is (ts ++ last ∷ []) (length before) t.place refusal.Nesting t.kind l ∙ sym q)

nested_before : (ts before rest : List Token) (last t u : Token) (f : ScriptFault) (s : State) → ts ≡ before ++ t ∷ u ∷ rest → AreRead ts → bounded start (before ++ t ∷ []) ≡ Ok s → step most_open true s u ≡ Err refusal.NestingBefore → f ≡ left_out t.place w.Nesting
    → answer (ts ++ last ∷ []) ≡ Err f
nested_before ts before rest last t u f s e are h j q =
    let parts : ts ≡ (before ++ t ∷ []) ++ u ∷ rest = e ∙ sym (append_assoc before (t ∷ []) (u ∷ rest)) in
    let all : ts ++ last ∷ [] ≡ (before ++ t ∷ []) ++ u ∷ (rest ++ last ∷ []) = ap (λ (z : List Token). z ++ last ∷ []) parts ∙ append_assoc (before ++ t ∷ []) (u ∷ rest) (last ∷ []) in
    let are2 : AreRead ((before ++ t ∷ []) ++ u ∷ rest) = subst AreRead parts are in
    let l : is_last u.kind ≡ false = (are_back (before ++ t ∷ []) (u ∷ rest) are2).0 in
    let m : ℕ = length (before ++ t ∷ []) in
    let place : cond (m == 0) 0 (place_of (slice_get (ts ++ last ∷ []) (m - 1))) ≡ t.place =
    ap (λ (z : List Token). cond (m == 0) 0 (place_of (slice_get z (m - 1)))) (all ∙ append_assoc before (t ∷ []) (u ∷ (rest ++ last ∷ []))) ∙ before_place before t (u ∷ (rest ++ last ∷ [])) m (lists_one before t) in
    answer_refused (ts ++ last ∷ []) (before ++ t ∷ []) (rest ++ last ∷ []) u s refusal.NestingBefore all (are_front (before ++ t ∷ []) (u ∷ rest) are2) l h j
    ∙ ap (λ (z : ScriptFault). let r : Answer = Err z in r) (fault_is (ts ++ last ∷ []) m u.place refusal.NestingBefore u.kind l ∙ ap (λ (z : ℕ). left_out z w.Nesting) place ∙ sym q)

-- behind t, which is taken: the next token opens too many before it
many_behind : (ts before rest : List Token) (last t : Token) (k : ℕ) (f : ScriptFault) (s n : State) → ts ≡ before ++ t ∷ rest → AreRead ts → bounded start (before ++ t ∷ []) ≡ Ok s → read s (take_first k rest) ≡ Ok n
    → (GoesOn (length before + 1) (before ++ t ∷ take_first k rest) → ⊥) → f ≡ left_out t.place w.Nesting → answer (ts ++ last ∷ []) ≡ Err f
many_behind ts before rest last t zero f s n e are h r barred q = absurd (barred (subst (λ (m : ℕ). GoesOn m (before ++ t ∷ [])) (lists_one before t)
    (goes (before ++ t ∷ []) s (are_front (before ++ t ∷ []) rest (subst AreRead (e ∙ sym (append_assoc before (t ∷ []) rest)) are)) h)))
many_behind ts before [] last t (suc k) f s n e are h r barred q = absurd (barred (subst (λ (m : ℕ). GoesOn m (before ++ t ∷ [])) (lists_one before t)
    (goes (before ++ t ∷ []) s (subst AreRead e are) h)))
many_behind ts before (u ∷ rest) last t (suc k) f s n e are h r barred q = by_room (is_full most_open s u) refl
  where
    x : Onward (step no_limit true s u) (λ m. read m (take_first k rest)) n
    x = onward (step no_limit true s u) (λ m. read m (take_first k rest)) n r

    are2 : AreRead ((before ++ t ∷ []) ++ u ∷ rest)
    are2 = subst AreRead (e ∙ sym (append_assoc before (t ∷ []) (u ∷ rest))) are

    by_room : (b : Bool) → is_full most_open s u ≡ b → answer (ts ++ last ∷ []) ≡ Err f
    by_room true i = nested_before ts before rest last t u f s e are h (unlimited_full most_open true s x.by u low x.made i) q
    by_room false i = absurd (barred (subst (λ (m : ℕ). GoesOn m (before ++ t ∷ u ∷ take_first k rest)) (lists_one before t)
        (subst (GoesOn (length (before ++ t ∷ []))) (append_assoc before (t ∷ []) (u ∷ take_first k rest))
        (goes_with (before ++ t ∷ []) (u ∷ take_first k rest) s n (are_take (before ++ t ∷ []) u rest k are2) h r (λ ws. i)))))

many_answer : (ts : List Token) (last t : Token) (n : ℕ) (f : ScriptFault) → AreRead ts → OpensTooMany ts n t → f ≡ left_out t.place w.Nesting → answer (ts ++ last ∷ []) ≡ Err f
many_answer ts last t n f are o q = at_split (take_first n ts) x.rest x.parts x.place
  where
    x : Split ts n t
    x = split_at ts n t o.is

    k : ℕ
    k = o.front - (n + 1)

    front_is : o.front ≡ n + suc k
    front_is = let d = o.reaches.0 in omega (arith, d)

    at_split : (before rest : List Token) → ts ≡ before ++ t ∷ rest → n ≡ length before → answer (ts ++ last ∷ []) ≡ Err f
    at_split before rest e l = by_step (step no_limit true y.state t) refl made
      where
        same : take_first o.front ts ≡ before ++ t ∷ take_first k rest
        same = ap (λ (z : ℕ). take_first z ts) front_is ∙ ap (take_first (n + suc k)) e ∙ take_more before rest t n k l

        g : GoesOn n (before ++ t ∷ take_first k rest)
        g = subst (GoesOn n) same o.before

        barred : GoesOn (length before + 1) (before ++ t ∷ take_first k rest) → ⊥
        barred h = o.too_many (subst (GoesOn (n + 1)) (sym same) (subst (λ (m : ℕ). GoesOn (m + 1) (before ++ t ∷ take_first k rest)) (sym l) h))

        y : Gone before ((t ∷ take_first k rest) ++ g.rest)
        y = gone_with before (t ∷ take_first k rest) n l g

        z : (s : State) × ReadSo (before ++ t ∷ take_first k rest) start s
        z = begin_so (before ++ t ∷ take_first k rest) (goes_begin n (before ++ t ∷ take_first k rest) g)

        made : read y.state (t ∷ take_first k rest) ≡ Ok z.0
        made = sym (read_behind before (t ∷ take_first k rest) start y.state (bounded_read before start y.state y.ran)) ∙ z.1.ran

        by_step : (p : Step) → step no_limit true y.state t ≡ p → taken p (λ m. read m (take_first k rest)) ≡ Ok z.0 → answer (ts ++ last ∷ []) ≡ Err f
        by_step (Err j) i h = absurd (ok_err z.0 j (sym h))
        by_step (Ok m) i h = by_depth (is_shallow most_open m) refl
          where
            by_depth : (b : Bool) → is_shallow most_open m ≡ b → answer (ts ++ last ∷ []) ≡ Err f
            by_depth false j = nested ts before rest last t f y.state e are y.ran (unlimited_deep most_open true y.state m t low i y.room j) q
            by_depth true j = many_behind ts before rest last t k f m z.0 e are (bounded_one before t y.state m y.ran (unlimited_ok most_open true y.state m t low i y.room j)) h barred q

-- ---- the tokens, and the last one

pub found : (ts : List Token) (last : Token) (tree : List Item) → AreRead ts → is_last last.kind ≡ true → answer (ts ++ last ∷ []) ≡ Ok tree → (last.kind ≡ tok.End) × IsTree tree ts
found ts last tree are l e = go (verdict ts last l)
  where
    same : (a b : List Item) → (let r : Answer = Ok a in r) ≡ Ok b → a ≡ b
    same a b h = cc

    other : (f : ScriptFault) → (let r : Answer = Err f in r) ≡ Ok tree → ⊥
    other f h = cc

    go : Verdict ts last → (last.kind ≡ tok.End) × IsTree tree ts
    go (whole n over h k j) =
        (k, subst (λ (z : List Item). IsTree z ts) (same over.outer.items tree (sym (answer_whole (ts ++ last ∷ []) ts last n over refl are h k j) ∙ e)) (tree_of sound complete counted ts last n over are k h j))
    go (early n r h k j) = absurd (other (syntax_fault last.place) (sym (answer_early (ts ++ last ∷ []) ts last n r refl are h k j) ∙ e))
    go (unread n f h k) = absurd (other f (sym (answer_bad (ts ++ last ∷ []) ts last n f refl are h k) ∙ e))
    go (refused b t rest n r i h j) =
        let are2 : AreRead (b ++ t ∷ rest) = subst AreRead i are in
        absurd (other (fault_at (ts ++ last ∷ []) (length b) t r)
        (sym (answer_refused (ts ++ last ∷ []) b (rest ++ last ∷ []) t n r (ap (λ (z : List Token). z ++ last ∷ []) i ∙ append_assoc b (t ∷ rest) (last ∷ [])) (are_front b (t ∷ rest) are2) (are_back b (t ∷ rest) are2).0 h j) ∙ e))

pub tree_is : (ts : List Token) (last : Token) (tree : List Item) → last.kind ≡ tok.End → IsTree tree ts → answer (ts ++ last ∷ []) ≡ Ok tree
tree_is ts last tree k h =
    let x : Taken sound complete counted ts last tree = of_tree sound complete counted ts last tree k h in
    answer_whole (ts ++ last ∷ []) ts last x.state x.over refl x.are x.ran k x.ends ∙ ap (λ (z : List Item). let r : Answer = Ok z in r) x.items

pub fault_found : (ts : List Token) (last : Token) (f : ScriptFault) → AreRead ts → is_last last.kind ≡ true → answer (ts ++ last ∷ []) ≡ Err f → IsWithin ts last f ⊎ IsLast ts last last.kind f
fault_found ts last f are l e = go (verdict ts last l)
  where
    same : (a b : ScriptFault) → (let r : Answer = Err a in r) ≡ Err b → a ≡ b
    same a b h = cc

    other : (a : List Item) → (let r : Answer = Ok a in r) ≡ Err f → ⊥
    other a h = cc

    go : Verdict ts last → IsWithin ts last f ⊎ IsLast ts last last.kind f
    go (whole n over h k j) = absurd (other over.outer.items (sym (answer_whole (ts ++ last ∷ []) ts last n over refl are h k j) ∙ e))
    go (early n r h k j) =
        let a : answer (ts ++ last ∷ []) ≡ Err (syntax_fault last.place) = answer_early (ts ++ last ∷ []) ts last n r refl are h k j in
        inr (subst (λ (z : TokenKind). IsLast ts last z f) (sym k)
        (goes ts n are h, (λ tree i. other tree (sym (tree_is ts last tree k i) ∙ e)), same f (syntax_fault last.place) (sym e ∙ a)))
    go (unread n g h k) =
        inr (subst (λ (z : TokenKind). IsLast ts last z f) (sym k) (goes ts n are h, same f g (sym e ∙ answer_bad (ts ++ last ∷ []) ts last n g refl are h k)))
    go (refused b t rest n r i h j) =
        let are2 : AreRead (b ++ t ∷ rest) = subst AreRead i are in
        let a : answer (ts ++ last ∷ []) ≡ Err (fault_at (ts ++ last ∷ []) (length b) t r) =
        answer_refused (ts ++ last ∷ []) b (rest ++ last ∷ []) t n r (ap (λ (z : List Token). z ++ last ∷ []) i ∙ append_assoc b (t ∷ rest) (last ∷ [])) (are_front b (t ∷ rest) are2) (are_back b (t ∷ rest) are2).0 h j in
        inl (subst (IsWithin ts last) (sym (same f (fault_at (ts ++ last ∷ []) (length b) t r) (sym e ∙ a)))
        (subst (λ (z : List Token). IsWithin z last (fault_at (z ++ last ∷ []) (length b) t r)) (sym i) (within_refused b rest last t n r are2 h j)))

last_answer : (ts : List Token) (last : Token) (f : ScriptFault) (k : TokenKind) → AreRead ts → last.kind ≡ k → IsLast ts last k f → answer (ts ++ last ∷ []) ≡ Err f
last_answer ts last f tok.End are k h = by_step (step most_open true x.state last) refl
  where
    x : Gone ts h.0.rest
    x = gone_all ts (length ts) refl h.0

    by_step : (o : Step) → step most_open true x.state last ≡ o → answer (ts ++ last ∷ []) ≡ Err f
    by_step (Ok n) i = absurd (h.1 n.outer.items (tree_of sound complete counted ts last x.state n are k x.ran i))
    by_step (Err r) i = answer_early (ts ++ last ∷ []) ts last x.state r refl are x.ran k i ∙ ap (λ (z : ScriptFault). let a : Answer = Err z in a) (sym h.2)
last_answer ts last f (tok.Bad g) are k h =
    let x : Gone ts h.0.rest = gone_all ts (length ts) refl h.0 in
    answer_bad (ts ++ last ∷ []) ts last x.state g refl are x.ran k ∙ ap (λ (z : ScriptFault). let a : Answer = Err z in a) (sym h.1)
last_answer ts last f _ are k h = absurd h

pub fault_is_answer : (ts : List Token) (last : Token) (f : ScriptFault) → AreRead ts → IsWithin ts last f ⊎ IsLast ts last last.kind f → answer (ts ++ last ∷ []) ≡ Err f
fault_is_answer ts last f are (inl (inl h)) = refused_answer ts last h.1 h.0 f are h.2 h.3 h.4
fault_is_answer ts last f are (inl (inr h)) = many_answer ts last h.1 h.0 f are h.2 (left_same h.1.place f h.3 h.4 h.5)
fault_is_answer ts last f are (inr h) = last_answer ts last f last.kind are refl h

-- ---- a text

fronts_same : (a b : List Token) (t u : Token) → a ++ t ∷ [] ≡ b ++ u ∷ [] → a ≡ b
fronts_same [] [] t u e = refl
fronts_same [] (y ∷ []) t u e = cc
fronts_same [] (y ∷ z ∷ b) t u e = cc
fronts_same (x ∷ []) [] t u e = cc
fronts_same (x ∷ z ∷ a) [] t u e = cc
fronts_same (x ∷ a) (y ∷ b) t u e = let i : x ≡ y = cc in ap (λ (z : Token). z ∷ a) i ∙ ap (λ (z : List Token). y ∷ z) (fronts_same a b t u cc)

text_same : (units : List ℕ) (all : List Token) (ts : List Token) (last : Token) → AreTokens units all → AreTokens units (ts ++ last ∷ []) → all ≡ ts ++ last ∷ []
text_same units all ts last a b = sym (are_only units all a) ∙ are_only units (ts ++ last ∷ []) b

text_read : (units : List ℕ) (ts : List Token) (last : Token) → AreTokens units (ts ++ last ∷ []) → AreRead ts
text_read units ts last a =
    let l : LastOf (ts ++ last ∷ []) = last_token units (ts ++ last ∷ []) a in
    subst AreRead (sym (fronts_same ts l.front last l.last l.parts)) l.are

-- What is answered to a text is its tree ..
pub answer_found : (units : List ℕ) (all : List Token) (tree : List Item) → AreTokens units all → answer all ≡ Ok tree → IsTreeOf tree units
answer_found units all tree a e =
    let l : LastOf all = last_token units all a in
    let x : (l.last.kind ≡ tok.End) × IsTree tree l.front = found l.front l.last tree l.are l.ends (sym (ap answer l.parts) ∙ e) in
    record { tokens = l.front; last = l.last; splits = record { tokens = subst (AreTokens units) l.parts a }; whole = x.0; is = x.1 }

-- .. its tree is answered ..
pub tree_answered : (units : List ℕ) (all : List Token) (tree : List Item) → AreTokens units all → IsTreeOf tree units → answer all ≡ Ok tree
tree_answered units all tree a x = ap answer (text_same units all x.tokens x.last a x.splits.tokens) ∙ tree_is x.tokens x.last tree x.whole x.is

-- .. or its first fault ..
pub answer_first : (units : List ℕ) (all : List Token) (f : ScriptFault) → AreTokens units all → answer all ≡ Err f → IsFirstFault f units
answer_first units all f a e =
    let l : LastOf all = last_token units all a in
    record { tokens = l.front; last = l.last; splits = record { tokens = subst (AreTokens units) l.parts a }; is = fault_found l.front l.last f l.are l.ends (sym (ap answer l.parts) ∙ e) }

-- .. and that is answered.
pub first_answered : (units : List ℕ) (all : List Token) (f : ScriptFault) → AreTokens units all → IsFirstFault f units → answer all ≡ Err f
first_answered units all f a x =
    ap answer (text_same units all x.tokens x.last a x.splits.tokens) ∙ fault_is_answer x.tokens x.last f (text_read units x.tokens x.last x.splits.tokens) x.is
