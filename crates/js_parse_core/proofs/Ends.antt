-- Reading a text with automatic ends.
use Rattle.std.proofs.Common.{◌≡◌, ℕ, Bool, true, false, cond, List, [], ◌∷◌, ◌++◌, ◌⊎◌, map, Ok, Err, refl, sym, ap, ◌∙◌, subst, inl, inr}
use Rattle.std.proofs.lemmas.Bool.{or_right}
use Rattle.std.specs.Prelude.{◌||◌}
use Rattle.js_lex.specs.declared.token.Punctuator.TheVariants as p
use Rattle.js_lex.specs.declared.token.TokenKind.{TokenKind}
use Rattle.js_lex.specs.declared.token.TokenKind.TheVariants as tok
use Rattle.js_lex.specs.declared.token.Token.{Token}
use Rattle.js_tree.specs.declared.tree.Item.{Item}
use Rattle.js_grammar.specs.Marks.{Piece, Read, Ended, Seen}
use Rattle.js_grammar.specs.Script.{pieces, IsProgram, IsAllowed, MayEnd, Puts, PutsEnds, constructs, IsScript}
use Rattle.js_grammar.specs.Spots.{IsBegin}
use Rattle.js_parse_core.specs.declared.machine.Refusal.{Refusal}
use Rattle.js_parse_core.specs.declared.machine.State.{State}
use Rattle.js_parse_core.specs.Machine.{step, start}
use Rattle.js_parse_core.specs.Outer.{Step, refuse}
use Rattle.js_parse_core.specs.Tokens.{may_end, is_end, is_close_brace}
use Rattle.js_parse_core.proofs.EndSteps.{Same, Bar, or_next, next, finished, step_is_next, brace_behind_end, last_is_finished}
use Rattle.js_parse_core.proofs.First.{Ending}
use Rattle.js_parse_core.proofs.OpenSteps.{reached_ending}
use Rattle.js_parse_core.proofs.PieceLemmas.{run_append, run_step}
use Rattle.js_parse_core.proofs.Pieces.{no_limit, end_token, is_between, is_last, take, taken, run, finish}

-- ---- the text, token by token

-- ends are put in
abbrev pub read : State → List Token → Step
read s [] = Ok s
read s (t ∷ ts) = taken (step no_limit true s t) (λ m. read m ts)

ok_is : (m n : State) → (let r : Step = Ok m in r) ≡ Ok n → m ≡ n
ok_is m n h = cc

-- none is `End` or `Bad`
abbrev pub AreRead : List Token → Type 0
AreRead [] = Unit {0}
AreRead (t ∷ ts) = (is_last t.kind ≡ false) × AreRead ts

-- a step that leads on
pub record Onward (o : Step) (go : State → Step) (n : State) : Type 0 where
  pub by : State
  pub made : o ≡ Ok by
  pub goes : go by ≡ Ok n

pub onward : (o : Step) (go : State → Step) (n : State) → taken o go ≡ Ok n → Onward o go n
onward (Ok m) go n h = record { by = m; made = refl; goes = h }
onward (Err k) go n h = cc

same_ok : (x : Step) (n : State) → Same x (Ok n) → x ≡ Ok n
same_ok (Ok m) n h = ap (λ (z : State). let r : Step = Ok z in r) h
same_ok (Err k) n h = absurd h

ok_same : (y : Step) (n : State) → Same (Ok n) y → y ≡ Ok n
ok_same (Ok m) n h = ap (λ (z : State). let r : Step = Ok z in r) (sym h)
ok_same (Err k) n h = absurd h

-- the token's step, where it is made
pub step_next : (s n : State) (t : Token) → is_last t.kind ≡ false → step no_limit true s t ≡ Ok n → next s t ≡ Ok n
step_next s n t h e = ok_same (next s t) n (subst (λ (z : Step). Same z (next s t)) e (step_is_next s t h))

pub next_step : (s n : State) (t : Token) → is_last t.kind ≡ false → next s t ≡ Ok n → step no_limit true s t ≡ Ok n
next_step s n t h e = same_ok (step no_limit true s t) n (subst (Same (step no_limit true s t)) e (step_is_next s t h))

pub step_refused : (s : State) (t : Token) (k : Refusal) → is_last t.kind ≡ false → next s t ≡ Err k → (j : Refusal) × (step no_limit true s t ≡ Err j)
step_refused s t k h e = go (step no_limit true s t) refl (subst (Same (step no_limit true s t)) e (step_is_next s t h))
  where
    go : (o : Step) → step no_limit true s t ≡ o → Same o (Err k) → (j : Refusal) × (step no_limit true s t ≡ Err j)
    go (Err j) i f = (j, i)
    go (Ok n) i f = absurd f

-- a token that the strict machine takes
pub taken_is_read : (s n : State) (t : Token) → take s (Read t) ≡ Ok n → is_last t.kind ≡ false
taken_is_read s n t h = go (is_last t.kind) refl h
  where
    go : (b : Bool) → is_last t.kind ≡ b → cond b refuse (step no_limit false s t) ≡ Ok n → is_last t.kind ≡ false
    go false e i = e
    go true e i = cc

pub step_taken : (s n : State) (t : Token) → take s (Read t) ≡ Ok n → step no_limit true s t ≡ Ok n
step_taken s n t h = next_step s n t (taken_is_read s n t h) (ap (λ (o : Step). or_next o (may_end t) (taken (take s Ended) (λ m. take m (Read t)))) h)

pub step_ended : (s m n : State) (t : Token) (k : Refusal) → take s (Read t) ≡ Err k → may_end t ≡ true → take s Ended ≡ Ok m → take m (Read t) ≡ Ok n → step no_limit true s t ≡ Ok n
step_ended s m n t k h b e f = next_step s n t (taken_is_read m n t f)
    (ap (λ (o : Step). or_next o (may_end t) (taken (take s Ended) (λ m. take m (Read t)))) h
    ∙ ap (λ (c : Bool). or_next (Err k) c (taken (take s Ended) (λ m. take m (Read t)))) b
    ∙ ap (λ (o : Step). taken o (λ m. take m (Read t))) e ∙ f)

-- how a token was taken
pub data Taking (s n : State) (t : Token) : Type 0 where
  itself : take s (Read t) ≡ Ok n → Taking s n t
  ended : (m : State) (k : Refusal) → take s (Read t) ≡ Err k → may_end t ≡ true → take s Ended ≡ Ok m → take m (Read t) ≡ Ok n → Taking s n t

pub taking : (s n : State) (t : Token) → is_last t.kind ≡ false → step no_limit true s t ≡ Ok n → Taking s n t
taking s n t h e = go (take s (Read t)) (may_end t) refl refl (step_next s n t h e)
  where
    go : (o : Step) (b : Bool) → take s (Read t) ≡ o → may_end t ≡ b → or_next o b (taken (take s Ended) (λ m. take m (Read t))) ≡ Ok n → Taking s n t
    go (Ok m) b i j f = itself (i ∙ f)
    go (Err k) true i j f = let r : Onward (take s Ended) (λ m. take m (Read t)) n = onward (take s Ended) (λ m. take m (Read t)) n f in ended r.by k i j r.made r.goes
    go (Err k) false i j f = cc

are_front : (ts us : List Token) → AreRead (ts ++ us) → AreRead ts
are_front [] us h = tt
are_front (t ∷ ts) us h = (h.0, are_front ts us h.1)

-- ---- runs

pub run_front : (ps qs : List Piece) (s n : State) → run s (ps ++ qs) ≡ Ok n → Onward (run s ps) (λ m. run m qs) n
run_front ps qs s n h = onward (run s ps) (λ m. run m qs) n (sym (run_append s ps qs) ∙ h)

pub run_behind : (ps qs : List Piece) (s m n : State) → run s ps ≡ Ok m → run m qs ≡ Ok n → run s (ps ++ qs) ≡ Ok n
run_behind ps qs s m n h e = run_append s ps qs ∙ ap (λ (o : Step). taken o (λ x. run x qs)) h ∙ e

pub run_one : (ps : List Piece) (q : Piece) (s m n : State) → run s ps ≡ Ok m → take m q ≡ Ok n → run s (ps ++ q ∷ []) ≡ Ok n
run_one ps q s m n h e = run_behind ps (q ∷ []) s m n h (run_step m n q [] e)

-- ---- what other laws say of runs: those to the end are programs

pub record Program (ps : List Piece) (tree : List Item) : Type 0 where
  pub seen : List Seen
  pub are : pieces seen ≡ ps
  pub program : IsProgram tree seen

pub record Whole (ps : List Piece) (tree : List Item) : Type 0 where
  pub last : State
  pub over : State
  pub ran : run start ps ≡ Ok last
  pub ends : finish last ≡ Ok over
  pub items : over.outer.items ≡ tree

-- the pieces are the tokens with ends put in, and lead on
pub record ReadAs (before : List Piece) (ts : List Token) (s n : State) : Type 0 where
  pub with_ends : List Piece
  pub puts : Puts before ts with_ends
  pub ran : run s with_ends ≡ Ok n

-- an end and a token
pub run_two : (ps : List Piece) (t : Token) (s a m n : State) → run s ps ≡ Ok a → take a Ended ≡ Ok m → take m (Read t) ≡ Ok n → run s (ps ++ Ended ∷ Read t ∷ []) ≡ Ok n
run_two ps t s a m n h e f = run_behind ps (Ended ∷ Read t ∷ []) s a n h (run_step a m Ended (Read t ∷ []) e ∙ run_step m n (Read t) [] f)

pub ends_true : (before : List Piece) (t : Token) → MayEnd before t → may_end t ≡ true
ends_true before t (inl b) = subst (λ (k : TokenKind). (is_end k || (t.after_line_end || is_close_brace k)) ≡ true) (sym b) (or_right false _ (or_right t.after_line_end true refl))
ends_true before t (inr b) = subst (λ (l : Bool). (is_end t.kind || (l || is_close_brace t.kind)) ≡ true) (sym b.0) (or_right (is_end t.kind) true refl)

pub read_step : (s n : State) (t : Token) (ts : List Token) → step no_limit true s t ≡ Ok n → read s (t ∷ ts) ≡ read n ts
read_step s n t ts e = ap (λ (o : Step). taken o (λ m. read m ts)) e

pub read_append : (ts us : List Token) (s : State) → read s (ts ++ us) ≡ taken (read s ts) (λ n. read n us)
read_append [] us s = refl
read_append (t ∷ ts) us s = go (step no_limit true s t) (λ m. read_append ts us m)
  where
    go : (o : Step) → ((m : State) → read m (ts ++ us) ≡ taken (read m ts) (λ n. read n us)) → taken o (λ m. read m (ts ++ us)) ≡ taken (taken o (λ m. read m ts)) (λ n. read n us)
    go (Ok m) c = c m
    go (Err k) c = refl

pub read_front : (ts us : List Token) (s n : State) → read s (ts ++ us) ≡ Ok n → Onward (read s ts) (λ m. read m us) n
read_front ts us s n h = onward (read s ts) (λ m. read m us) n (sym (read_append ts us s) ∙ h)

pub read_behind : (ts us : List Token) (s m : State) → read s ts ≡ Ok m → read s (ts ++ us) ≡ read m us
read_behind ts us s m h = read_append ts us s ∙ ap (λ (o : Step). taken o (λ n. read n us)) h

-- no ends are put in
pub puts_plain : (ts : List Token) (before : List Piece) → Puts before ts (map Read ts)
puts_plain [] before = refl
puts_plain (t ∷ ts) before = inl (map Read ts, refl, puts_plain ts (before ++ Read t ∷ []))

pub puts_append : (ts more : List Token) (before ps : List Piece) → Puts before ts ps → Puts before (ts ++ more) (ps ++ map Read more)
puts_append [] more before ps h = subst (λ (z : List Piece). Puts before more (z ++ map Read more)) (sym h) (puts_plain more before)
puts_append (t ∷ ts) more before ps (inl h) = inl (h.0 ++ map Read more, ap (λ (z : List Piece). z ++ map Read more) h.1, puts_append ts more (before ++ Read t ∷ []) h.0 h.2)
puts_append (t ∷ ts) more before ps (inr h) = inr (h.0 ++ map Read more, ap (λ (z : List Piece). z ++ map Read more) h.1, h.2, puts_append ts more (before ++ Ended ∷ Read t ∷ []) h.0 h.3)

-- the tokens are those of a text, and are read
pub record ReadSo (ts : List Token) (s n : State) : Type 0 where
  pub are : AreRead ts
  pub ran : read s ts ≡ Ok n

-- the text is read to its end, with this tree
pub record ReadWhole (ts : List Token) (last : Token) (tree : List Item) : Type 0 where
  pub reached : State
  pub over : State
  pub are : AreRead ts
  pub ran : read start ts ≡ Ok reached
  pub ends : step no_limit true reached last ≡ Ok over
  pub items : over.outer.items ≡ tree

-- the tokens are a script, with this tree
pub record ScriptOf (tree : List Item) (ts : List Token) : Type 0 where
  pub open_at : List ℕ
  pub script : IsScript tree ts open_at

script_of : (ts : List Token) (ps : List Piece) (tree : List Item) → PutsEnds ts ps → Program ps tree → ScriptOf tree ts
script_of ts ps tree h r = record {
  open_at = constructs r.seen;
  script = record { seen = r.seen; puts = subst (PutsEnds ts) (sym r.are) h; program = r.program; constructs = refl };
}

finish_between : (s n : State) → finish s ≡ Ok n → is_between s.at ≡ true
finish_between s n h = go (is_between s.at) refl h
  where
    go : (b : Bool) → is_between s.at ≡ b → cond b (step no_limit false s end_token) refuse ≡ Ok n → is_between s.at ≡ true
    go true e i = e
    go false e i = cc

finished_whole : (s n : State) → finish s ≡ Ok n → finished s ≡ Ok n
finished_whole s n h = ap (λ (b : Bool). cond b (finish s) (taken (take s Ended) finish)) (finish_between s n h) ∙ h

finished_ended : (s m n : State) → take s Ended ≡ Ok m → finish m ≡ Ok n → finished s ≡ Ok n
finished_ended s m n h e = go (is_between s.at) refl
  where
    go : (b : Bool) → is_between s.at ≡ b → finished s ≡ Ok n
    go true i = (let j : refuse ≡ Ok m = sym (ap (λ (b : Bool). cond b refuse (step no_limit false s end_token)) i) ∙ h in cc)
    go false i = ap (λ (b : Bool). cond b (finish s) (taken (take s Ended) finish)) i ∙ ap (λ (o : Step). taken o finish) h ∙ e

module _ (sound : (ps : List Piece) (s n : State) → run start ps ≡ Ok s → finish s ≡ Ok n → Program ps n.outer.items) (complete : (ps : List Piece) (tree : List Item) → Program ps tree → Whole ps tree) where
  -- What the strict machine takes, the grammar allows.
  pub allowed : (ps : List Piece) (s : State) → run start ps ≡ Ok s → IsAllowed ps
  allowed ps s h =
      let e : Ending s = reached_ending ps s h in
      let r : Program (ps ++ map Read e.more) e.over.outer.items = sound (ps ++ map Read e.more) e.last e.over (run_behind ps (map Read e.more) start s e.last h e.ran) e.ends in
      record { tree = e.over.outer.items; seen = r.seen; rest = map Read e.more; program = r.program; begins = r.are }

  -- .. and nothing else.
  pub reached : (ps : List Piece) → IsAllowed ps → (s : State) × (run start ps ≡ Ok s)
  reached ps a =
      let w : Whole (ps ++ a.rest) a.tree = complete (ps ++ a.rest) a.tree (record { seen = a.seen; are = a.begins; program = a.program }) in
      let f : Onward (run start ps) (λ m. run m a.rest) w.last = run_front ps a.rest start w.last w.ran in
      (f.by, f.made)

  refused : (ps : List Piece) (q : Piece) (s : State) (k : Refusal) → run start ps ≡ Ok s → take s q ≡ Err k → IsAllowed (ps ++ q ∷ []) → ⊥
  refused ps q s k h e a =
      let r : (n : State) × (run start (ps ++ q ∷ []) ≡ Ok n) = reached (ps ++ q ∷ []) a in
      let i : run start (ps ++ q ∷ []) ≡ Err k = run_append start ps (q ∷ []) ∙ ap (λ (o : Step). taken o (λ x. run x (q ∷ []))) h ∙ ap (λ (o : Step). taken o (λ x. run x [])) e in
      let j = r.1 in cc

  -- ---- what is read is the text with ends put in

  may_stand : (before : List Piece) (t : Token) (s : State) (k : Refusal) → run start before ≡ Ok s → take s (Read t) ≡ Err k → is_last t.kind ≡ false → may_end t ≡ true → MayEnd before t
  may_stand before t s why h e i m = go t.after_line_end t.kind refl refl i m
    where
      go : (l : Bool) (k : TokenKind) → t.after_line_end ≡ l → t.kind ≡ k → is_last k ≡ false → (is_end k || (l || is_close_brace k)) ≡ true → MayEnd before t
      go true k a b c d = inr (a, refused before (Read t) s why h e)
      go false (tok.Punctuator p.CloseBrace) a b c d = inl b
      go false _ a b c d = cc

  pub reads_as : (ts : List Token) (before : List Piece) (s n : State) → AreRead ts → run start before ≡ Ok s → read s ts ≡ Ok n → ReadAs before ts s n
  reads_as [] before s n are h r = record { with_ends = []; puts = refl; ran = r }
  reads_as (t ∷ ts) before s n are h r =
      let x : Onward (step no_limit true s t) (λ m. read m ts) n = onward (step no_limit true s t) (λ m. read m ts) n r in
      go x.by (taking s x.by t are.0 x.made) (λ b i. reads_as ts b x.by n are.1 i x.goes)
    where
      go : (m : State) → Taking s m t → ((b : List Piece) → run start b ≡ Ok m → ReadAs b ts m n) → ReadAs before (t ∷ ts) s n
      go m (itself e) i =
          let y : ReadAs (before ++ Read t ∷ []) ts m n = i (before ++ Read t ∷ []) (run_one before (Read t) start s m h e) in
          record { with_ends = Read t ∷ y.with_ends; puts = inl (y.with_ends, refl, y.puts); ran = run_step s m (Read t) y.with_ends e ∙ y.ran }
      go m (ended a k e b f g) i =
          let y : ReadAs (before ++ Ended ∷ Read t ∷ []) ts m n = i (before ++ Ended ∷ Read t ∷ []) (run_two before t start s a m h f g) in
          record {
            with_ends = Ended ∷ Read t ∷ y.with_ends;
            puts = inr (y.with_ends, refl, may_stand before t s k h e are.0 b, y.puts);
            ran = run_step s a Ended (Read t ∷ y.with_ends) f ∙ run_step a m (Read t) y.with_ends g ∙ y.ran;
          }

  -- ---- what is such a text is read so

  pub refused_at : (before : List Piece) (t : Token) (s a : State) → run start before ≡ Ok s → take s Ended ≡ Ok a → MayEnd before t → (k : Refusal) × (take s (Read t) ≡ Err k)
  refused_at before t s a h e m = go (take s (Read t)) refl m
    where
      go : (o : Step) → take s (Read t) ≡ o → MayEnd before t → (k : Refusal) × (take s (Read t) ≡ Err k)
      go (Err k) f b = (k, f)
      go (Ok n) f (inl b) = absurd (subst (Bar (Ok n)) e (subst (λ (z : Step). Bar z (take s Ended)) f (brace_behind_end s t b)))
      go (Ok n) f (inr b) = absurd (b.1 (allowed (before ++ Read t ∷ []) n (run_one before (Read t) start s n h f)))

  pub reads_puts : (ts : List Token) (before ps : List Piece) (s n : State) → run start before ≡ Ok s → Puts before ts ps → run s ps ≡ Ok n → ReadSo ts s n
  reads_puts [] before ps s n h q r = record { are = tt; ran = sym (ap (run s) q) ∙ r }
  reads_puts (t ∷ ts) before ps s n h (inl q) r =
      let x : Onward (take s (Read t)) (λ m. run m q.0) n = onward (take s (Read t)) (λ m. run m q.0) n (sym (ap (run s) q.1) ∙ r) in
      let y : ReadSo ts x.by n = reads_puts ts (before ++ Read t ∷ []) q.0 x.by n (run_one before (Read t) start s x.by h x.made) q.2 x.goes in
      record { are = (taken_is_read s x.by t x.made, y.are); ran = read_step s x.by t ts (step_taken s x.by t x.made) ∙ y.ran }
  reads_puts (t ∷ ts) before ps s n h (inr q) r =
      let x : Onward (take s Ended) (λ m. run m (Read t ∷ q.0)) n = onward (take s Ended) (λ m. run m (Read t ∷ q.0)) n (sym (ap (run s) q.1) ∙ r) in
      let z : Onward (take x.by (Read t)) (λ m. run m q.0) n = onward (take x.by (Read t)) (λ m. run m q.0) n x.goes in
      let y : ReadSo ts z.by n = reads_puts ts (before ++ Ended ∷ Read t ∷ []) q.0 z.by n (run_two before t start s x.by z.by h x.made z.made) q.3 z.goes in
      let k : (k : Refusal) × (take s (Read t) ≡ Err k) = refused_at before t s x.by h x.made q.2 in
      record { are = (taken_is_read x.by z.by t z.made, y.are); ran = read_step s z.by t ts (step_ended s x.by z.by t k.0 k.1 (ends_true before t q.2) x.made z.made) ∙ y.ran }

  -- ---- scripts

  -- What is read to its end is a script with the tree that was read.
  pub script_sound : (ts : List Token) (last : Token) (s n : State) → AreRead ts → last.kind ≡ tok.End → read start ts ≡ Ok s → step no_limit true s last ≡ Ok n → ScriptOf n.outer.items ts
  script_sound ts last s n are is_end h e =
      let x : ReadAs [] ts start s = reads_as ts [] start s are refl h in
      go x (is_between s.at) refl (ok_same (finished s) n (subst (λ (z : Step). Same z (finished s)) e (last_is_finished s last is_end)))
    where
      go : ReadAs [] ts start s → (b : Bool) → is_between s.at ≡ b → finished s ≡ Ok n → ScriptOf n.outer.items ts
      go x true i f = script_of ts x.with_ends n.outer.items (x.with_ends, x.puts, inl refl)
          (sound x.with_ends s n x.ran (sym (ap (λ (b : Bool). cond b (finish s) (taken (take s Ended) finish)) i) ∙ f))
      go x false i f =
          let y : Onward (take s Ended) finish n = onward (take s Ended) finish n (sym (ap (λ (b : Bool). cond b (finish s) (taken (take s Ended) finish)) i) ∙ f) in
          script_of ts (x.with_ends ++ Ended ∷ []) n.outer.items (x.with_ends, x.puts, inr refl)
          (sound (x.with_ends ++ Ended ∷ []) y.by n (run_one x.with_ends Ended start s y.by x.ran y.made) y.goes)

  -- Each script is read to its end.
  pub script_complete : (ts : List Token) (last : Token) (tree : List Item) (ns : List ℕ) → last.kind ≡ tok.End → IsScript tree ts ns → ReadWhole ts last tree
  script_complete ts last tree ns is_end f = go f.puts.2 (complete (pieces f.seen) tree (record { seen = f.seen; are = refl; program = f.program }))
    where
      ends_so : (s n : State) → finished s ≡ Ok n → step no_limit true s last ≡ Ok n
      ends_so s n h = same_ok (step no_limit true s last) n (subst (Same (step no_limit true s last)) h (last_is_finished s last is_end))

      go : (pieces f.seen ≡ f.puts.0) ⊎ (pieces f.seen ≡ f.puts.0 ++ Ended ∷ []) → Whole (pieces f.seen) tree → ReadWhole ts last tree
      go (inl e) w =
          let x : ReadSo ts start w.last = reads_puts ts [] f.puts.0 start w.last refl f.puts.1 (sym (ap (run start) e) ∙ w.ran) in
          record { reached = w.last; over = w.over; are = x.are; ran = x.ran; ends = ends_so w.last w.over (finished_whole w.last w.over w.ends); items = w.items }
      go (inr e) w =
          let y : Onward (run start f.puts.0) (λ m. run m (Ended ∷ [])) w.last = run_front f.puts.0 (Ended ∷ []) start w.last (sym (ap (run start) e) ∙ w.ran) in
          let z : Onward (take y.by Ended) (λ m. run m []) w.last = onward (take y.by Ended) (λ m. run m []) w.last y.goes in
          let x : ReadSo ts start y.by = reads_puts ts [] f.puts.0 start y.by refl f.puts.1 y.made in
          record { reached = y.by; over = w.over; are = x.are; ran = x.ran; ends = ends_so y.by w.over (finished_ended y.by w.last w.over (z.made ∙ z.goes) w.ends); items = w.items }

  -- A script has one tree.
  pub script_unique : (ts : List Token) (a b : List Item) (ns ms : List ℕ) → IsScript a ts ns → IsScript b ts ms → a ≡ b
  script_unique ts a b ns ms f g =
      let last : Token = record { place = 0; after_line_end = false; kind = tok.End } in
      let x : ReadWhole ts last a = script_complete ts last a ns refl f in
      let y : ReadWhole ts last b = script_complete ts last b ms refl g in
      let same : x.reached ≡ y.reached = ok_is x.reached y.reached (sym x.ran ∙ y.ran) in
      let over : x.over ≡ y.over = ok_is x.over y.over (sym x.ends ∙ ap (λ (s : State). step no_limit true s last) same ∙ y.ends) in
      sym x.items ∙ ap (λ (s : State). s.outer.items) over ∙ y.items

  -- ---- the first fault

  -- What was read, a script begins with.
  pub script_begins : (ts : List Token) (s : State) → AreRead ts → read start ts ≡ Ok s → IsBegin ts
  script_begins ts s are h =
      let x : ReadAs [] ts start s = reads_as ts [] start s are refl h in
      let e : Ending s = reached_ending x.with_ends s x.ran in
      let ps : List Piece = x.with_ends ++ map Read e.more in
      let r : ScriptOf e.over.outer.items (ts ++ e.more) = script_of (ts ++ e.more) ps e.over.outer.items (ps, puts_append ts e.more [] x.with_ends x.puts, inl refl)
      (sound ps e.last e.over (run_behind x.with_ends (map Read e.more) start s e.last x.ran e.ran) e.ends) in
      record { tree = e.over.outer.items; rest = e.more; open_at = r.open_at; script = r.script }

  -- What a script begins with is read.
  pub begin_read : (ts : List Token) → IsBegin ts → (s : State) × ReadSo ts start s
  begin_read ts b =
      let last : Token = record { place = 0; after_line_end = false; kind = tok.End } in
      let x : ReadWhole (ts ++ b.rest) last b.tree = script_complete (ts ++ b.rest) last b.tree b.open_at refl b.script in
      let y : Onward (read start ts) (λ m. read m b.rest) x.reached = read_front ts b.rest start x.reached x.ran in
      (y.by, record { are = are_front ts b.rest x.are; ran = y.made })

  -- Where a token is refused, no script begins with the tokens up to it.
  pub script_refused : (before : List Token) (t : Token) (s : State) (k : Refusal) → read start before ≡ Ok s → step no_limit true s t ≡ Err k → IsBegin (before ++ t ∷ []) → ⊥
  script_refused before t s k h e b =
      let x : (n : State) × ReadSo (before ++ t ∷ []) start n = begin_read (before ++ t ∷ []) b in
      let y : read start (before ++ t ∷ []) ≡ Err k = read_behind before (t ∷ []) start s h ∙ ap (λ (o : Step). taken o (λ m. read m [])) e in
      let z = x.1.ran in cc

  -- Where the last token is refused, the tokens are no script.
  pub script_open : (ts : List Token) (last : Token) (s : State) (k : Refusal) → last.kind ≡ tok.End → read start ts ≡ Ok s → step no_limit true s last ≡ Err k → (tree : List Item) (ns : List ℕ) → IsScript tree ts ns → ⊥
  script_open ts last s k is_end h e tree ns f =
      let x : ReadWhole ts last tree = script_complete ts last tree ns is_end f in
      let same : s ≡ x.reached = ok_is s x.reached (sym h ∙ x.ran) in
      let y : step no_limit true s last ≡ Ok x.over = ap (λ (z : State). step no_limit true z last) same ∙ x.ends in cc
