-- A token that is refused is told as the grammar says.
use Rattle.std.proofs.Common.{◌≡◌, ℕ, ◌+◌, ◌-◌, ◌==◌, Bool, true, false, cond, List, [], ◌∷◌, ◌++◌, ◌⊎◌, length, take, Option, Some, None, Ok, Err, refl, sym, ap, ◌∙◌, subst, inl, inr, append_assoc, append-nil, arith, ne_eqb}
use Rattle.std.specs.Prelude.{not, ◌&&◌, slice_get}
use Rattle.std.proofs.lemmas.Bool.{false≢true}
use Rattle.std.proofs.lemmas.List.{length-append}
use Rattle.js_lex.specs.declared.token.ScriptFault.{ScriptFault}
use Rattle.js_lex.specs.declared.token.ScriptKind.{ScriptKind}
use Rattle.js_lex.specs.declared.token.ScriptKind.TheVariants as kind
use Rattle.js_lex.specs.declared.token.Punctuator.TheVariants as p
use Rattle.js_lex.specs.declared.token.TokenKind.{TokenKind}
use Rattle.js_lex.specs.declared.token.TokenKind.TheVariants as tok
use Rattle.js_lex.specs.declared.token.Token.{Token}
use Rattle.js_words.specs.declared.word.Spot.{Spot}
use Rattle.js_words.specs.declared.word.Spot.TheVariants as spot
use Rattle.js_words.specs.declared.word.Word.{Word}
use Rattle.js_words.specs.declared.word.Word.TheVariants as w
use Rattle.js_words.specs.Words.{word_of, word_before, name_before, reserved_word, begin_word}
use Rattle.js_words.specs.Words as words
use Rattle.js_grammar.specs.Spots.{IsBegin, Allows, an_expression, EndsWith, StandsAt, PairsNext, Before, OnLine, BehindEnd, Anywhere, follows_line_end, Tells, TellsNext, TellsWord, FirstTold, EndsThrow, IsWord}
use Rattle.js_parse_core.specs.declared.machine.At.{At}
use Rattle.js_parse_core.specs.declared.machine.At.TheVariants as at
use Rattle.js_parse_core.specs.declared.machine.Asked as asks
use Rattle.js_parse_core.specs.declared.machine.Frame.TheVariants as frame
use Rattle.js_parse_core.specs.declared.machine.Outer.{Outer}
use Rattle.js_parse_core.specs.declared.machine.Purpose.TheVariants as purpose
use Rattle.js_parse_core.specs.declared.machine.Refusal.{Refusal}
use Rattle.js_parse_core.specs.declared.machine.Refusal.TheVariants as refusal
use Rattle.js_parse_core.specs.declared.machine.State.{State}
use Rattle.js_parse_core.specs.Begin.{begin}
use Rattle.js_grammar.specs.Letters.{letters}
use Rattle.js_parse_core.specs.Machine.{step_in, step, start}
use Rattle.js_parse_core.specs.Outer.{Step, push, begins_statement}
use Rattle.js_parse_core.specs.Told.{or_else, but_comma, behind_end, word, word_at, word_anywhere, fault_at, fault_of, refusal_fault, told}
use Rattle.js_parse_core.specs.Told as to
use Rattle.js_parse_core.proofs.Accepts.{Reached, Means, stands, takes, pairs, machine}
use Rattle.js_parse_core.proofs.BeforeWords.{only_label, before_word, told_before}
use Rattle.js_parse_core.proofs.Came.{Quiet, Label, Throws, Lands, label_of}
use Rattle.js_parse_core.proofs.CameBegin.{came_begin}
use Rattle.js_parse_core.proofs.CameSteps.{is_key, is_some, loud_at, loud, Kept, came}
use Rattle.js_parse_core.proofs.Ends.{read, AreRead, ReadSo}
use Rattle.js_parse_core.proofs.Known.{Known, is_spot}
use Rattle.js_parse_core.proofs.KnownPlaces.{place}
use Rattle.js_parse_core.proofs.Knowing.{is_throw}
use Rattle.js_parse_core.proofs.Limits.{IsLow}
use Rattle.js_parse_core.proofs.PieceLemmas.{no_limit_is}
use Rattle.js_parse_core.proofs.Pieces.{no_limit, is_last}
use Rattle.js_parse_core.proofs.RefusedWords.{get_at, take_at, Finds, none_some, finds_first, finds_as, finds_last, finds_anywhere, alone, by_spot, asked_in, rest_word, told_rest}
use Rattle.js_parse_core.proofs.Standing.{good, Last, last, brace_none, brace_last, known_start, known_behind, stands_means, pairs_means, later_means}
use Rattle.js_parse_core.specs.Tokens.{is_close_brace}
use Rattle.js_parse_core.proofs.Told.{NotDeep}

-- ---- the spot that stands

spot_is : (sp : Spot) (h : Option Spot) → is_spot sp h ≡ true → h ≡ Some sp
spot_is spot.StatementBegin (Some spot.StatementBegin) e = refl
spot_is spot.ExpressionBegin (Some spot.ExpressionBegin) e = refl
spot_is spot.OperandEnd (Some spot.OperandEnd) e = refl
spot_is spot.DeclaredName (Some spot.DeclaredName) e = refl
spot_is spot.Parameter (Some spot.Parameter) e = refl
spot_is spot.Key (Some spot.Key) e = refl
spot_is _ _ e = absurd (false≢true e)

spot_self : (sp : Spot) → is_spot sp (Some sp) ≡ true
spot_self spot.StatementBegin = refl
spot_self spot.ExpressionBegin = refl
spot_self spot.OperandEnd = refl
spot_self spot.DeclaredName = refl
spot_self spot.Parameter = refl
spot_self spot.Key = refl

stands_so : (brace keyed thrown : Bool) (f : Token → Step) (k : Known brace keyed thrown f) (sp : Spot) → stands brace sp false f ≡ is_spot sp k.here
stands_so brace keyed thrown f k spot.StatementBegin = k.statement
stands_so brace keyed thrown f k spot.ExpressionBegin = k.expression
stands_so brace keyed thrown f k spot.OperandEnd = k.operand
stands_so brace keyed thrown f k spot.DeclaredName = k.declared
stands_so brace keyed thrown f k spot.Parameter = k.parameter
stands_so brace keyed thrown f k spot.Key = k.key

and_parts : (a b : Bool) → (a && b) ≡ true → (a ≡ true) × (b ≡ true)
and_parts true true e = (refl, refl)
and_parts true false e = absurd (false≢true e)
and_parts false b e = absurd (false≢true e)

not_so : (a b : Bool) → a ≡ true → (a && not b) ≡ false → b ≡ true
not_so true true e f = refl
not_so true false e f = cc
not_so false b e f = absurd (false≢true e)

-- behind a line end only a statement's begin is new
later_here : (brace keyed thrown : Bool) (f : Token → Step) (k : Known brace keyed thrown f) (sp : Spot) → stands brace sp true f ≡ true → (sp ≡ spot.StatementBegin) ⊎ (k.here ≡ Some sp)
later_here brace keyed thrown f k spot.StatementBegin e = inl refl
later_here brace keyed thrown f k spot.ExpressionBegin e = inr (spot_is spot.ExpressionBegin k.here (not_so (stands brace spot.ExpressionBegin true f) (is_spot spot.ExpressionBegin k.here) e k.later))
later_here brace keyed thrown f k spot.OperandEnd e = inr (spot_is spot.OperandEnd k.here (sym k.operand ∙ e))
later_here brace keyed thrown f k spot.DeclaredName e = inr (spot_is spot.DeclaredName k.here (sym k.declared ∙ e))
later_here brace keyed thrown f k spot.Parameter e = inr (spot_is spot.Parameter k.here (sym k.parameter ∙ e))
later_here brace keyed thrown f k spot.Key e = inr (spot_is spot.Key k.here (sym k.key ∙ e))

-- ---- behind `throw`

thrown_at : (o : Outer) (a : At) → loud_at o a ≡ Throws → a ≡ at.Throw
thrown_at o at.Throw e = refl
thrown_at o (at.Operand x n) e = absurd (go (begins_statement o && is_some (label_of x)) e)
  where
    go : (b : Bool) → cond b Label Quiet ≡ Throws → ⊥
    go true i = cc
    go false i = cc
thrown_at o (at.Async n) e = absurd (go (begins_statement o) e)
  where
    go : (b : Bool) → cond b Label Quiet ≡ Throws → ⊥
    go true i = cc
    go false i = cc
thrown_at o _ e = absurd cc

throw_plain : (o : Outer) (a : At) (t : Token) (d : asks.Asked) → is_throw a ≡ true → t.after_line_end ≡ true → place o a t ≡ Err (refusal.Token d) → ⊥
throw_plain o at.Throw t d e l i =
    let j : cond true (Err refusal.Plain) (begin (push o 0 (frame.Purpose purpose.Throw)) t) ≡ Err (refusal.Token d) = sym (ap (λ (b : Bool). cond b (Err refusal.Plain) (begin (push o 0 (frame.Purpose purpose.Throw)) t)) l) ∙ i in cc
throw_plain o _ t d e l i = false≢true e

plain_throw : (o : Outer) (t : Token) (b : Bool) → t.after_line_end ≡ b → place o at.Throw t ≡ Err refusal.Plain → b ≡ true
plain_throw o t true e i = refl
plain_throw o t false e i =
    let made : Step = begin (push o 0 (frame.Purpose purpose.Throw)) t in
    let j : made ≡ Err refusal.Plain = sym (ap (λ (b : Bool). cond b (Err refusal.Plain) made) e) ∙ i in
    absurd (quiet (subst (Lands false Quiet t.kind) j (came_begin false Quiet (push o 0 (frame.Purpose purpose.Throw)) t)))
  where
    quiet : Quiet ≡ Throws → ⊥
    quiet h = cc

-- ---- a token of a text

pub token_there : (front rest : List Token) (t : Token) (n : ℕ) → n ≡ length front → slice_get (front ++ t ∷ rest) n ≡ Some t
token_there front rest t n e = let i : n ≡ length front + 0 = omega (arith, e) in ap (slice_get (front ++ t ∷ rest)) i ∙ get_at front (t ∷ rest) 0

pub front_there : (front us : List Token) (n : ℕ) → n ≡ length front → take n (front ++ us) ≡ front
front_there front us n e = let i : n ≡ length front + 0 = omega (arith, e) in ap (λ (m : ℕ). take m (front ++ us)) i ∙ take_at front us 0 ∙ append-nil front

front_too : (front rest : List Token) (t : Token) (n : ℕ) → n ≡ length front → take (n + 1) (front ++ t ∷ rest) ≡ front ++ t ∷ []
front_too front rest t n e = let i : n + 1 ≡ length front + 1 = omega (arith, e) in ap (λ (m : ℕ). take m (front ++ t ∷ rest)) i ∙ take_at front (t ∷ rest) 1

none_there : (front : List Token) (t : Token) (n : ℕ) → n ≡ length front → slice_get (front ++ t ∷ []) (n + 1) ≡ None
none_there front t n e = let i : n + 1 ≡ length front + 1 = omega (arith, e) in ap (slice_get (front ++ t ∷ [])) i ∙ get_at front (t ∷ []) 1

alone_word : (front rest : List Token) (t : Token) (n : ℕ) (sp : Spot) → n ≡ length front → word_of (take (n + 1) (front ++ t ∷ rest)) n sp ≡ alone sp t.kind
alone_word front rest t n sp e =
    ap (λ (z : List Token). word_of z n sp) (front_too front rest t n e)
    ∙ ap (λ (z : Option Token). words.word_at sp z (slice_get (front ++ t ∷ []) (n + 1))) (token_there front [] t n e)
    ∙ ap (words.word_at sp (Some t)) (none_there front t n e)

asked_there : (ts : List Token) (n : ℕ) (h : Option Spot) → word_at ts n h ≡ asked_in (slice_get ts n) (slice_get ts (n + 1)) h
asked_there ts n (Some sp) = refl
asked_there ts n None = refl

not_zero : (n m : ℕ) → n ≡ m + 1 → (n == 0) ≡ false
not_zero n m e = ne_eqb n 0 (λ i. omega (arith, e, i))

-- ---- claims

finds_word : (v : Option Word) → Finds (λ x. v ≡ Some x) v
finds_word v = record { holds = λ x c. c; is = λ x e. e }

finds_label : (v : Option Word) → Finds (λ x. (v ≡ Some x) × (x ≡ w.Label)) (only_label v)
finds_label None = record { holds = λ x c. absurd (none_some x c.0); is = λ x e. absurd (none_some x e) }
finds_label (Some w.Label) = record { holds = λ x c. c.0; is = λ x e. (e, cc) }
finds_label (Some _) = record { holds = λ x c. absurd cc; is = λ x e. absurd (none_some x e) }

finds_cond : (claim : Type 0) (c : Word → Type 0) (b : Bool) (v : Option Word) → Means claim b → Finds c v → Finds (λ x. claim × c x) (cond b v None)
finds_cond claim c true v m f = record { holds = λ x h. f.holds x h.1; is = λ x e. (m.is refl, f.is x e) }
finds_cond claim c false v m f = record { holds = λ x h. absurd (false≢true (m.holds h.0)); is = λ x e. absurd (none_some x e) }

finds_either : (c d : Word → Type 0) (v u : Option Word) → Finds c v → Finds d u → ((x y : Word) → c x → d y → ⊥) → Finds (λ x. c x ⊎ d x) (or_else v u)
finds_either c d (Some y) u f g n = record { holds = go; is = λ x e. inl (f.is x e) }
  where
    go : (x : Word) → c x ⊎ d x → Some y ≡ Some x
    go x (inl h) = f.holds x h
    go x (inr h) = absurd (n y x (f.is y refl) h)
finds_either c d None u f g n = record { holds = go; is = λ x e. inr (g.is x e) }
  where
    go : (x : Word) → c x ⊎ d x → u ≡ Some x
    go x (inl h) = absurd (none_some x (f.holds x h))
    go x (inr h) = g.holds x h

key_begins : (brace : Bool) (o : Outer) (a : At) (l : Bool) → is_key a ≡ true → stands brace spot.StatementBegin l (place o a) ≡ true → ⊥
key_begins brace o (at.Key xs) l e i = false≢true i
key_begins brace o _ l e i = false≢true e

pub snoc : (ts : List Token) → (ts ≡ []) ⊎ ((f : List Token) × (t : Token) × (ts ≡ f ++ t ∷ []))
snoc [] = inl refl
snoc (x ∷ ts) = inr (go x (snoc ts))
  where
    go : (x : Token) → (ts ≡ []) ⊎ ((f : List Token) × (t : Token) × (ts ≡ f ++ t ∷ [])) → (f : List Token) × (t : Token) × (x ∷ ts ≡ f ++ t ∷ [])
    go x (inl e) = ([], x, ap (λ (z : List Token). x ∷ z) e)
    go x (inr e) = (x ∷ e.0, e.1, ap (λ (z : List Token). x ∷ z) e.2)

-- ---- what is known behind the tokens

record KnownEnd (ts : List Token) (s : State) : Type 0 where
  brace : Bool
  ends : Means (EndsWith ts (tok.Punctuator p.CloseBrace)) brace
  known : Known brace (is_key s.at) (is_throw s.at) (machine s)

same_start : (s : State) → read start [] ≡ Ok s → start ≡ s
same_start s e = cc

known_end : (ts : List Token) (s : State) → Reached ts s → IsLow s → KnownEnd ts s
known_end ts s h low = go (snoc ts)
  where
    go : (ts ≡ []) ⊎ ((f : List Token) × (t : Token) × (ts ≡ f ++ t ∷ [])) → KnownEnd ts s
    go (inl e) =
        let i : start ≡ s = same_start s (subst (λ (z : List Token). read start z ≡ Ok s) e h.ran) in
        record {
          brace = false;
          ends = subst (λ (z : List Token). Means (EndsWith z (tok.Punctuator p.CloseBrace)) false) (sym e) brace_none;
          known = subst (λ (z : State). Known false (is_key z.at) (is_throw z.at) (machine z)) i known_start;
        }
    go (inr e) = record {
      brace = is_close_brace e.1.kind;
      ends = subst (λ (z : List Token). Means (EndsWith z (tok.Punctuator p.CloseBrace)) (is_close_brace e.1.kind)) (sym e.2) (brace_last e.0 e.1);
      known = known_behind e.0 e.1 s (subst (λ (z : List Token). Reached z s) e.2 h) low;
    }

-- .. as each state that is reached by some of the tokens
abbrev pub AreLow : List Token → Type 0
AreLow front = (some more : List Token) (q : State) → front ≡ some ++ more → Reached some q → IsLow q

-- ---- the places of the token before

before_there : (f rest : List Token) (u t : Token) (m : ℕ) → m ≡ length f → slice_get ((f ++ u ∷ []) ++ t ∷ rest) m ≡ Some u
before_there f rest u t m e = ap (λ (z : List Token). slice_get z m) (append_assoc f (u ∷ []) (t ∷ rest)) ∙ token_there f (t ∷ rest) u m e

next_there : (f rest : List Token) (u t : Token) (m : ℕ) → m ≡ length f → slice_get ((f ++ u ∷ []) ++ t ∷ rest) (m + 1) ≡ Some t
next_there f rest u t m e =
    let i : m + 1 ≡ length f + 1 = omega (arith, e) in
    ap (λ (z : List Token). slice_get z (m + 1)) (append_assoc f (u ∷ []) (t ∷ rest)) ∙ ap (slice_get (f ++ u ∷ t ∷ rest)) i ∙ get_at f (u ∷ t ∷ rest) 1

before_front : (f rest : List Token) (u t : Token) (m : ℕ) → m ≡ length f → take m ((f ++ u ∷ []) ++ t ∷ rest) ≡ f
before_front f rest u t m e = ap (take m) (append_assoc f (u ∷ []) (t ∷ rest)) ∙ front_there f (u ∷ t ∷ rest) m e

word_there : (ts : List Token) (n : ℕ) (sp : Spot) (u : Token) (next : Option Token) → slice_get ts n ≡ Some u → slice_get ts (n + 1) ≡ next → word_of ts n sp ≡ word_before sp u.kind next
word_there ts n sp u next e f = ap (λ (z : Option Token). words.word_at sp z (slice_get ts (n + 1))) e ∙ ap (words.word_at sp (Some u)) f

asked_at : (ts : List Token) (n : ℕ) (h : Option Spot) (u : Token) (next : Option Token) → slice_get ts n ≡ Some u → slice_get ts (n + 1) ≡ next → word_at ts n h ≡ asked_in (Some u) next h
asked_at ts n h u next e f = asked_there ts n h ∙ ap (λ (z : Option Token). asked_in z (slice_get ts (n + 1)) h) e ∙ ap (λ (z : Option Token). asked_in (Some u) z h) f

-- what the token n is told as
abbrev pub IsToldAs : List Token → ℕ → ScriptFault → Type 0
IsToldAs ts n f =
    ((x : Word) × IsWord ts n x × (f.kind ≡ kind.LeftOut) × (f.word ≡ letters x))
    ⊎ (((x : Word) → IsWord ts n x → ⊥) × (f.kind ≡ kind.Syntax) × (f.word ≡ []))

some_same : (x y : Word) → (let o : Option Word = Some x in o) ≡ Some y → x ≡ y
some_same x y e = cc

abbrev fault : ScriptKind → ℕ → List ℕ → ScriptFault
fault k q u = record { kind = k; place = q; word = u }

fault_same : (f g : ScriptFault) → f.kind ≡ g.kind → f.place ≡ g.place → f.word ≡ g.word → f ≡ g
fault_same f g k q u = ap (λ (x : ScriptKind). fault x f.place f.word) k ∙ ap (λ (x : ℕ). fault g.kind x f.word) q ∙ ap (fault g.kind g.place) u

told_place : (q : ℕ) (o : Option Word) → (told q o).place ≡ q
told_place q (Some x) = refl
told_place q None = refl

-- the word of the token before, if it has one
record BeforePart (all : List Token) (n : ℕ) (s : State) (t : Token) : Type 0 where
  found : Option Word
  finds : Finds (TellsWord Before all n) found
  asked : (a : asks.Asked) → machine s t ≡ Err (refusal.Token a) → to.word_before all n a.before ≡ found

refusal_place : (ts : List Token) (n q : ℕ) (k : Refusal) → NotDeep k → (refusal_fault ts n q k).place ≡ q
refusal_place ts n q (refusal.Token a) d = told_place q (word ts n a)
refusal_place ts n q refusal.Plain d = refl
refusal_place ts n q refusal.Nesting d = absurd d
refusal_place ts n q refusal.NestingBefore d = absurd d

pub fault_is : (ts : List Token) (n q : ℕ) (k : Refusal) (kind : TokenKind) → is_last kind ≡ false → fault_of ts n q k kind ≡ refusal_fault ts n q k
fault_is ts n q k tok.End e = absurd (false≢true (sym e))
fault_is ts n q k _ e = refl

-- a token that is refused is told at its place
pub fault_place : (ts : List Token) (n : ℕ) (t : Token) (k : Refusal) → is_last t.kind ≡ false → NotDeep k → (fault_at ts n t k).place ≡ t.place
fault_place ts n t k l d = ap (λ (f : ScriptFault). f.place) (fault_is ts n t.place k t.kind l) ∙ refusal_place ts n t.place k d

module _ (begins : (ts : List Token) (s : State) → AreRead ts → read start ts ≡ Ok s → IsBegin ts) (begin_read : (ts : List Token) → IsBegin ts → (s : State) × ReadSo ts start s) where
  -- ---- the claims on the token itself

  line_finds : (brace keyed thrown : Bool) (front : List Token) (s : State) (k : Known brace keyed thrown (machine s)) (kind : TokenKind) → Reached front s → Means (EndsWith front (tok.Punctuator p.CloseBrace)) brace
      → Finds (λ x. (sp : Spot) × StandsAt sp false front × (alone sp kind ≡ Some x)) (by_spot k.here kind)
  line_finds brace keyed thrown front s k kind h b = record {
    holds = λ x c. ap (λ (z : Option Spot). by_spot z kind) (spot_is c.0 k.here (sym (stands_so brace keyed thrown (machine s) k c.0) ∙ (stands_means begins begin_read brace c.0 false front s h b).holds c.1)) ∙ c.2;
    is = λ x e. go k.here refl x e;
  }
    where
      go : (o : Option Spot) → k.here ≡ o → (x : Word) → by_spot o kind ≡ Some x → (sp : Spot) × StandsAt sp false front × (alone sp kind ≡ Some x)
      go (Some sp) i x e = (sp, (stands_means begins begin_read brace sp false front s h b).is (stands_so brace keyed thrown (machine s) k sp ∙ ap (is_spot sp) i ∙ spot_self sp), e)
      go None i x e = absurd (none_some x e)

  end_finds : (brace keyed thrown : Bool) (front : List Token) (s : State) (k : Known brace keyed thrown (machine s)) (kind : TokenKind) (line : Bool) → Reached front s → Means (EndsWith front (tok.Punctuator p.CloseBrace)) brace → by_spot k.here kind ≡ None
      → Finds (λ x. (line ≡ true) × ((sp : Spot) × StandsAt sp true front × (alone sp kind ≡ Some x))) (cond line (cond (stands brace spot.StatementBegin true (machine s)) (alone spot.StatementBegin kind) None) None)
  end_finds brace keyed thrown front s k kind false h b e = record { holds = λ x c. absurd (false≢true c.0); is = λ x i. absurd (none_some x i) }
  end_finds brace keyed thrown front s k kind true h b e = record {
    holds = λ x c. holds_so x c.1.0 c.1.1 c.1.2;
    is = λ x i. is_so (stands brace spot.StatementBegin true (machine s)) refl x i;
  }
    where
      holds_so : (x : Word) (sp : Spot) → StandsAt sp true front → alone sp kind ≡ Some x → cond (stands brace spot.StatementBegin true (machine s)) (alone spot.StatementBegin kind) None ≡ Some x
      holds_so x sp c v = go ((stands_means begins begin_read brace sp true front s h b).holds c) (later_here brace keyed thrown (machine s) k sp ((stands_means begins begin_read brace sp true front s h b).holds c))
        where
          go : stands brace sp true (machine s) ≡ true → (sp ≡ spot.StatementBegin) ⊎ (k.here ≡ Some sp) → cond (stands brace spot.StatementBegin true (machine s)) (alone spot.StatementBegin kind) None ≡ Some x
          go i (inl j) = ap (λ (z : Bool). cond z (alone spot.StatementBegin kind) None) (ap (λ (z : Spot). stands brace z true (machine s)) (sym j) ∙ i) ∙ ap (λ (z : Spot). alone z kind) (sym j) ∙ v
          go i (inr j) = absurd (none_some x (sym e ∙ ap (λ (z : Option Spot). by_spot z kind) j ∙ v))

      is_so : (c : Bool) → stands brace spot.StatementBegin true (machine s) ≡ c → (x : Word) → cond c (alone spot.StatementBegin kind) None ≡ Some x → (true ≡ true) × ((sp : Spot) × StandsAt sp true front × (alone sp kind ≡ Some x))
      is_so true i x v = (refl, (spot.StatementBegin, (stands_means begins begin_read brace spot.StatementBegin true front s h b).is i, v))
      is_so false i x v = absurd (none_some x v)

  -- ---- the claims on the token before

  next_finds : (f rest : List Token) (u t : Token) (m : ℕ) (by : State) (k : KnownEnd f by) → m ≡ length f → Reached f by
      → Finds (TellsNext ((f ++ u ∷ []) ++ t ∷ rest) m) (before_word (stands k.brace spot.StatementBegin u.after_line_end (machine by)) (pairs (machine by)) u.kind t)
  next_finds f rest u t m by k e h =
      finds_as _ (TellsNext ((f ++ u ∷ []) ++ t ∷ rest) m) _
      (finds_either _ _ _ _
      (finds_cond (StandsAt spot.StatementBegin u.after_line_end f) _ _ _ (stands_means begins begin_read k.brace spot.StatementBegin u.after_line_end f by h k.ends) (finds_label (word_before spot.StatementBegin u.kind (Some t))))
      (finds_cond (PairsNext f) _ _ _ (pairs_means begins begin_read f by h) (finds_word (word_before spot.Key u.kind (Some t))))
      (λ x y c d. key_begins k.brace by.outer by.at u.after_line_end (sym k.known.pairs ∙ (pairs_means begins begin_read f by h).holds d.0) ((stands_means begins begin_read k.brace spot.StatementBegin u.after_line_end f by h k.ends).holds c.0)))
      from so
    where
      from : (x : Word) → TellsNext ((f ++ u ∷ []) ++ t ∷ rest) m x
          → (StandsAt spot.StatementBegin u.after_line_end f × ((word_before spot.StatementBegin u.kind (Some t) ≡ Some x) × (x ≡ w.Label))) ⊎ (PairsNext f × (word_before spot.Key u.kind (Some t) ≡ Some x))
      from x (inl c) = inl (
        subst (λ (z : List Token). StandsAt spot.StatementBegin u.after_line_end z) (before_front f rest u t m e) (subst (λ (z : Option Token). StandsAt spot.StatementBegin (follows_line_end z) (take m ((f ++ u ∷ []) ++ t ∷ rest))) (before_there f rest u t m e) c.0),
        (sym (word_there ((f ++ u ∷ []) ++ t ∷ rest) m spot.StatementBegin u (Some t) (before_there f rest u t m e) (next_there f rest u t m e)) ∙ c.1, c.2),
      )
      from x (inr c) = inr (subst PairsNext (before_front f rest u t m e) c.0, sym (word_there ((f ++ u ∷ []) ++ t ∷ rest) m spot.Key u (Some t) (before_there f rest u t m e) (next_there f rest u t m e)) ∙ c.1)

      so : (x : Word) → (StandsAt spot.StatementBegin u.after_line_end f × ((word_before spot.StatementBegin u.kind (Some t) ≡ Some x) × (x ≡ w.Label))) ⊎ (PairsNext f × (word_before spot.Key u.kind (Some t) ≡ Some x))
          → TellsNext ((f ++ u ∷ []) ++ t ∷ rest) m x
      so x (inl c) = inl (
        subst (λ (z : Option Token). StandsAt spot.StatementBegin (follows_line_end z) (take m ((f ++ u ∷ []) ++ t ∷ rest))) (sym (before_there f rest u t m e)) (subst (λ (z : List Token). StandsAt spot.StatementBegin u.after_line_end z) (sym (before_front f rest u t m e)) c.0),
        word_there ((f ++ u ∷ []) ++ t ∷ rest) m spot.StatementBegin u (Some t) (before_there f rest u t m e) (next_there f rest u t m e) ∙ c.1.0,
        c.1.1,
      )
      so x (inr c) = inr (subst PairsNext (sym (before_front f rest u t m e)) c.0, word_there ((f ++ u ∷ []) ++ t ∷ rest) m spot.Key u (Some t) (before_there f rest u t m e) (next_there f rest u t m e) ∙ c.1)

  -- no token stands before
  first_part : (all : List Token) (n : ℕ) (s : State) (t : Token) → n ≡ 0 → BeforePart all n s t
  first_part all n s t e = record {
    found = None;
    finds = record { holds = λ x c. (let i : n ≡ c.0 + 1 = c.1 in absurd (omega (arith, e, i))); is = λ x i. absurd (none_some x i) };
    asked = λ a i. ap (λ (z : ℕ). cond (z == 0) None (word_at all (z - 1) a.before)) e;
  }

  later_part : (f rest : List Token) (u t : Token) (n : ℕ) (s : State) → n ≡ length (f ++ u ∷ []) → Reached (f ++ u ∷ []) s → AreLow (f ++ u ∷ []) → BeforePart ((f ++ u ∷ []) ++ t ∷ rest) n s t
  later_part f rest u t n s e h low =
      let x : Last f u s = last f u s h in
      let k : KnownEnd f x.by = known_end f x.by x.reached (low f (u ∷ []) x.by refl x.reached) in
      let i : n ≡ length f + 1 = e ∙ length-append f (u ∷ []) in
      let j : n - 1 ≡ length f = omega (arith, i) in
      let c : Finds (TellsNext ((f ++ u ∷ []) ++ t ∷ rest) (n - 1)) (before_word (stands k.brace spot.StatementBegin u.after_line_end (machine x.by)) (pairs (machine x.by)) u.kind t) = next_finds f rest u t (n - 1) x.by k j x.reached in
      record {
        found = before_word (stands k.brace spot.StatementBegin u.after_line_end (machine x.by)) (pairs (machine x.by)) u.kind t;
        finds = finds_as _ (TellsWord Before ((f ++ u ∷ []) ++ t ∷ rest) n) _ c
            (λ y d. (let l : n ≡ d.0 + 1 = d.1 in let o : d.0 ≡ n - 1 = omega (arith, l) in subst (λ (m : ℕ). TellsNext ((f ++ u ∷ []) ++ t ∷ rest) m y) o d.2))
            (λ y d. (n - 1, (let l : n ≡ (n - 1) + 1 = omega (arith, i) in l), d));
        asked = λ a m. (let z : (n == 0) ≡ false = not_zero n (length f) i in
            ap (λ (b : Bool). cond b None (word_at ((f ++ u ∷ []) ++ t ∷ rest) (n - 1) a.before)) z
            ∙ asked_at ((f ++ u ∷ []) ++ t ∷ rest) (n - 1) a.before u (Some t) (before_there f rest u t (n - 1) j) (next_there f rest u t (n - 1) j)
            ∙ told_before k.brace (is_throw x.by.at) x.by s u t a k.known (good f x.by x.reached) x.made (good (f ++ u ∷ []) s h) m);
      }

  before_part : (front rest : List Token) (t : Token) (n : ℕ) (s : State) → n ≡ length front → Reached front s → AreLow front → BeforePart (front ++ t ∷ rest) n s t
  before_part front rest t n s e h low = go (snoc front)
    where
      go : (front ≡ []) ⊎ ((f : List Token) × (u : Token) × (front ≡ f ++ u ∷ [])) → BeforePart (front ++ t ∷ rest) n s t
      go (inl i) = first_part (front ++ t ∷ rest) n s t (e ∙ ap (λ (z : List Token). length z) i)
      go (inr i) = subst (λ (z : List Token). BeforePart (z ++ t ∷ rest) n s t) (sym i.2)
          (later_part i.0 rest i.1 t n s (e ∙ ap (λ (z : List Token). length z) i.2) (subst (λ (z : List Token). Reached z s) i.2 h) (subst AreLow i.2 low))

  -- ---- all

  all_finds : (front rest : List Token) (t : Token) (n : ℕ) (s : State) (k : KnownEnd front s) (v : Option Word) → n ≡ length front → Reached front s → Finds (TellsWord Before (front ++ t ∷ rest) n) v
      → Finds (FirstTold (Before ∷ OnLine ∷ BehindEnd ∷ Anywhere ∷ []) (front ++ t ∷ rest) n)
      (or_else v (rest_word k.known.here (stands k.brace spot.StatementBegin true (machine s)) t.after_line_end t.kind (slice_get (front ++ t ∷ rest) (n + 1))))
  all_finds front rest t n s k v e h b =
      finds_first (TellsWord Before (front ++ t ∷ rest) n) (FirstTold (OnLine ∷ BehindEnd ∷ Anywhere ∷ []) (front ++ t ∷ rest) n) v _ b (λ z.
      finds_first (TellsWord OnLine (front ++ t ∷ rest) n) (FirstTold (BehindEnd ∷ Anywhere ∷ []) (front ++ t ∷ rest) n) (by_spot k.known.here t.kind) _
      (finds_as _ (TellsWord OnLine (front ++ t ∷ rest) n) _ (line_finds k.brace (is_key s.at) (is_throw s.at) front s k.known t.kind h k.ends) (λ x c. one_from false x c) (λ x c. one_so false x c)) (λ i.
      finds_first (TellsWord BehindEnd (front ++ t ∷ rest) n) (FirstTold (Anywhere ∷ []) (front ++ t ∷ rest) n) _ _
      (finds_as _ (TellsWord BehindEnd (front ++ t ∷ rest) n) _ (end_finds k.brace (is_key s.at) (is_throw s.at) front s k.known t.kind t.after_line_end h k.ends i)
      (λ x c. (sym (ap follows_line_end (token_there front rest t n e)) ∙ c.0, one_from true x c.1)) (λ x c. (ap follows_line_end (token_there front rest t n e) ∙ c.0, one_so true x c.1))) (λ j.
      finds_last (TellsWord Anywhere (front ++ t ∷ rest) n) _
      (subst (λ (y : Option Word). Finds (TellsWord Anywhere (front ++ t ∷ rest) n) (but_comma y)) (word_there (front ++ t ∷ rest) n spot.OperandEnd t (slice_get (front ++ t ∷ rest) (n + 1)) (token_there front rest t n e) refl)
      (finds_anywhere (word_of (front ++ t ∷ rest) n spot.OperandEnd))))))
    where
      one_from : (line : Bool) (x : Word) → Tells (front ++ t ∷ rest) n line x → (sp : Spot) × StandsAt sp line front × (alone sp t.kind ≡ Some x)
      one_from line x c = (c.0, subst (StandsAt c.0 line) (front_there front (t ∷ rest) n e) c.1, sym (alone_word front rest t n c.0 e) ∙ c.2)

      one_so : (line : Bool) (x : Word) → (sp : Spot) × StandsAt sp line front × (alone sp t.kind ≡ Some x) → Tells (front ++ t ∷ rest) n line x
      one_so line x c = (c.0, subst (StandsAt c.0 line) (sym (front_there front (t ∷ rest) n e)) c.1, alone_word front rest t n c.0 e ∙ c.2)

  word_is : (front rest : List Token) (t : Token) (n : ℕ) (s : State) (k : KnownEnd front s) (b : BeforePart (front ++ t ∷ rest) n s t) (a : asks.Asked) → n ≡ length front → Reached front s → machine s t ≡ Err (refusal.Token a)
      → word (front ++ t ∷ rest) n a ≡ or_else b.found (rest_word k.known.here (stands k.brace spot.StatementBegin true (machine s)) t.after_line_end t.kind (slice_get (front ++ t ∷ rest) (n + 1)))
  word_is front rest t n s k b a e h m =
      let all : List Token = front ++ t ∷ rest in
      let next : Option Token = slice_get (front ++ t ∷ rest) (n + 1) in
      let there : slice_get (front ++ t ∷ rest) n ≡ Some t = token_there front rest t n e in
      ap (λ (z : Option Word). or_else z (or_else (word_at all n a.here) (or_else (word_at all n (behind_end a.ended)) (word_anywhere all n)))) (b.asked a m)
      ∙ ap (λ (z : Option Word). or_else b.found (or_else z (or_else (word_at all n (behind_end a.ended)) (word_anywhere all n)))) (asked_at all n a.here t next there refl)
      ∙ ap (λ (z : Option Word). or_else b.found (or_else (asked_in (Some t) next a.here) (or_else z (word_anywhere all n)))) (asked_at all n (behind_end a.ended) t next there refl)
      ∙ ap (λ (z : Option Word). or_else b.found (or_else (asked_in (Some t) next a.here) (or_else (asked_in (Some t) next (behind_end a.ended)) (but_comma z)))) (word_there all n spot.OperandEnd t next there refl)
      ∙ ap (or_else b.found) (told_rest k.brace (is_key s.at) (is_throw s.at) s k.known t.place t.after_line_end t.kind next a (good front s h).kept m)

  -- a token has one word at most
  word_only : (front rest : List Token) (t : Token) (n : ℕ) (s : State) → n ≡ length front → Reached front s → AreLow front → (x y : Word) → IsWord (front ++ t ∷ rest) n x → IsWord (front ++ t ∷ rest) n y → x ≡ y
  word_only front rest t n s e h low x y c d =
      let k : KnownEnd front s = known_end front s h (low front [] s (sym (append-nil front)) h) in
      let b : BeforePart (front ++ t ∷ rest) n s t = before_part front rest t n s e h low in
      let f = all_finds front rest t n s k b.found e h b.finds in
      some_same x y (sym (f.holds x c.1) ∙ f.holds y d.1)

  -- .. and is told so in one way
  pub told_only : (front rest : List Token) (t : Token) (n : ℕ) (s : State) → n ≡ length front → Reached front s → AreLow front → (f g : ScriptFault) → IsToldAs (front ++ t ∷ rest) n f → IsToldAs (front ++ t ∷ rest) n g → f.place ≡ g.place → f ≡ g
  told_only front rest t n s e h low f g (inl c) (inl d) q = fault_same f g (c.2 ∙ sym d.2) q (c.3 ∙ ap letters (word_only front rest t n s e h low c.0 d.0 c.1 d.1) ∙ sym d.3)
  told_only front rest t n s e h low f g (inl c) (inr d) q = absurd (d.0 c.0 c.1)
  told_only front rest t n s e h low f g (inr c) (inl d) q = absurd (c.0 d.0 d.1)
  told_only front rest t n s e h low f g (inr c) (inr d) q = fault_same f g (c.1 ∙ sym d.1) q (c.2 ∙ sym d.2)

  throw_means : (front rest : List Token) (t : Token) (n : ℕ) (s : State) (k : KnownEnd front s) → n ≡ length front → Reached front s → EndsThrow (front ++ t ∷ rest) n → (t.after_line_end ≡ true) × (is_throw s.at ≡ true)
  throw_means front rest t n s k e h c =
      let f : take n (front ++ t ∷ rest) ≡ front = front_there front (t ∷ rest) n e in
      let st : stands k.brace spot.ExpressionBegin false (machine s) ≡ true = (stands_means begins begin_read k.brace spot.ExpressionBegin false front s h k.ends).holds (subst (StandsAt spot.ExpressionBegin false) f c.1) in
      let nt : not (takes (machine s) true (an_expression ∷ [])) ≡ true = (later_means begins begin_read front s h).holds (subst (λ (z : List Token). Allows z true (an_expression ∷ []) → ⊥) f c.2) in (
        sym (ap follows_line_end (token_there front rest t n e)) ∙ c.0,
        sym k.known.throws ∙ ap (λ (b : Bool). b && not (takes (machine s) true (an_expression ∷ []))) st ∙ nt,
      )

  throw_so : (front rest : List Token) (t : Token) (n : ℕ) (s : State) (k : KnownEnd front s) → n ≡ length front → Reached front s → t.after_line_end ≡ true → is_throw s.at ≡ true → EndsThrow (front ++ t ∷ rest) n
  throw_so front rest t n s k e h l i =
      let f : take n (front ++ t ∷ rest) ≡ front = front_there front (t ∷ rest) n e in
      let b : (stands k.brace spot.ExpressionBegin false (machine s) ≡ true) × (not (takes (machine s) true (an_expression ∷ [])) ≡ true) = and_parts _ _ (k.known.throws ∙ i) in (
        ap follows_line_end (token_there front rest t n e) ∙ l,
        subst (StandsAt spot.ExpressionBegin false) (sym f) ((stands_means begins begin_read k.brace spot.ExpressionBegin false front s h k.ends).is b.0),
        subst (λ (z : List Token). Allows z true (an_expression ∷ []) → ⊥) (sym f) ((later_means begins begin_read front s h).is b.1),
      )

  plain_at : (s : State) (t : Token) → Kept s → machine s t ≡ Err refusal.Plain → (t.after_line_end ≡ true) × (is_throw s.at ≡ true)
  plain_at s t g m =
      let i : s.at ≡ at.Throw = thrown_at s.outer s.at (subst (Lands (is_key s.at) (loud s) t.kind) m (came no_limit true s t g)) in
      (plain_throw s.outer t t.after_line_end refl (sym (ap (λ (a : At). place s.outer a t) i) ∙ m), ap is_throw i)

  -- A token that is refused is told by the word that the grammar gives it.
  pub told_so : (front rest : List Token) (t : Token) (n : ℕ) (s : State) (k : Refusal) → n ≡ length front → Reached front s → AreLow front → is_last t.kind ≡ false → step no_limit true s t ≡ Err k → NotDeep k
      → IsToldAs (front ++ t ∷ rest) n (fault_at (front ++ t ∷ rest) n t k)
  told_so front rest t n s k e h low l m d =
      subst (IsToldAs (front ++ t ∷ rest) n) (sym (fault_is (front ++ t ∷ rest) n t.place k t.kind l)) (go k d (sym (no_limit_is (step_in no_limit true s.outer s.at t)) ∙ m))
    where
      end : KnownEnd front s
      end = known_end front s h (low front [] s (sym (append-nil front)) h)

      part : BeforePart (front ++ t ∷ rest) n s t
      part = before_part front rest t n s e h low

      go : (k : Refusal) → NotDeep k → machine s t ≡ Err k → IsToldAs (front ++ t ∷ rest) n (refusal_fault (front ++ t ∷ rest) n t.place k)
      go (refusal.Token a) d m = by_word (word (front ++ t ∷ rest) n a) (sym (word_is front rest t n s end part a e h m))
        where
          by_word : (o : Option Word) → or_else part.found (rest_word end.known.here (stands end.brace spot.StatementBegin true (machine s)) t.after_line_end t.kind (slice_get (front ++ t ∷ rest) (n + 1))) ≡ o → IsToldAs (front ++ t ∷ rest) n (told t.place o)
          by_word (Some x) i = inl (x, ((λ c. (let y = throw_means front rest t n s end e h c in throw_plain s.outer s.at t a y.1 y.0 m)), (all_finds front rest t n s end part.found e h part.finds).is x i), refl, refl)
          by_word None i = inr ((λ x c. none_some x (sym i ∙ (all_finds front rest t n s end part.found e h part.finds).holds x c.1)), refl, refl)
      go refusal.Plain d m = inr ((λ x c. (let y = plain_at s t (good front s h).kept m in c.0 (throw_so front rest t n s end e h y.0 y.1))), refl, refl)
      go refusal.Nesting d m = absurd d
      go refusal.NestingBefore d m = absurd d

  -- A token has one word.
  pub one_word : (front rest : List Token) (t : Token) (n : ℕ) (s : State) → n ≡ length front → Reached front s → AreLow front → (x y : Word) → IsWord (front ++ t ∷ rest) n x → IsWord (front ++ t ∷ rest) n y → x ≡ y
  one_word front rest t n s e h low x y c d =
      let end : KnownEnd front s = known_end front s h (low front [] s (sym (append-nil front)) h) in
      let part : BeforePart (front ++ t ∷ rest) n s t = before_part front rest t n s e h low in
      let found = all_finds front rest t n s end part.found e h part.finds in
      some_same x y (sym (found.holds x c.1) ∙ found.holds y d.1)
    where
      some_same : (x y : Word) → (let o : Option Word = Some x in o) ≡ Some y → x ≡ y
      some_same x y e = cc
