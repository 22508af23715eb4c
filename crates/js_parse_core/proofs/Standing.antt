-- Which spots stand behind some tokens, by the state behind them; and what such a state keeps.
use Rattle.std.proofs.Common.{◌≡◌, Bool, true, false, List, [], ◌∷◌, ◌++◌, Ok, refl, sym, ap, ◌∙◌, subst}
use Rattle.std.specs.Prelude.{not, nat_le}
use Rattle.js_lex.specs.declared.token.Punctuator.TheVariants as p
use Rattle.js_lex.specs.declared.token.Reserved.TheVariants as r
use Rattle.js_lex.specs.declared.token.TokenKind.{TokenKind}
use Rattle.js_lex.specs.declared.token.TokenKind.TheVariants as tok
use Rattle.js_lex.specs.declared.token.Token.{Token}
use Rattle.js_words.specs.declared.word.Spot.{Spot}
use Rattle.js_words.specs.declared.word.Spot.TheVariants as spot
use Rattle.js_grammar.specs.Marks.{Read, Ended}
use Rattle.js_grammar.specs.Spots.{IsBegin, Allows, a_statement, an_expression, a_name, a_text, a_word, comma, equal, colon, close_paren, EndsWith, StandsAt, PairsNext}
use Rattle.js_parse_core.specs.declared.machine.Outer.{Outer}
use Rattle.js_parse_core.specs.declared.machine.At.{At}
use Rattle.js_parse_core.specs.declared.machine.At.TheVariants as at
use Rattle.js_parse_core.specs.declared.machine.State.{State}
use Rattle.js_parse_core.specs.Machine.{step, step_in, start}
use Rattle.js_parse_core.specs.Outer.{constructs}
use Rattle.js_parse_core.specs.Tokens.{is_close_brace}
use Rattle.js_parse_core.proofs.Accepts.{Reached, Means, means_not, means_and, means_or, allows, one, two, takes, stands, pairs, machine}
use Rattle.js_parse_core.proofs.Came.{Landed, Lands}
use Rattle.js_parse_core.proofs.CameSteps.{is_key, loud, Kept, came, came_kept, start_kept}
use Rattle.js_parse_core.proofs.Ends.{read, AreRead, ReadSo, Onward, onward, Taking, itself, ended, taking, read_front}
use Rattle.js_parse_core.proofs.Known.{Known}
use Rattle.js_parse_core.proofs.Knowing.{BraceFits, BeginKept, BraceAt, is_throw, known, brace_leads}
use Rattle.js_parse_core.proofs.OpenStates.{IsOpen}
use Rattle.js_parse_core.proofs.OpenSteps.{start_open, take_open}
use Rattle.js_parse_core.proofs.PieceLemmas.{no_limit_is}
use Rattle.js_parse_core.proofs.Pieces.{no_limit, is_last}

true_false : true ≡ false → ⊥
true_false h = cc

-- ---- what each state keeps

pub record Good (s : State) : Type 0 where
  pub is_open : IsOpen s
  pub kept : Kept s

pub step_machine : (s n : State) (t : Token) → step no_limit true s t ≡ Ok n → machine s t ≡ Ok n
step_machine s n t e = sym (no_limit_is (step_in no_limit true s.outer s.at t)) ∙ e

open_step : (s n : State) (t : Token) → IsOpen s → is_last t.kind ≡ false → step no_limit true s t ≡ Ok n → IsOpen n
open_step s n t h l e = go (taking s n t l e)
  where
    go : Taking s n t → IsOpen n
    go (itself f) = take_open s n (Read t) h f
    go (ended a k f b g i) = take_open a n (Read t) (take_open s a Ended h g) i

kept_step : (s n : State) (t : Token) → Kept s → machine s t ≡ Ok n → Kept n
kept_step s n t h e = came_kept (is_key s.at) t.kind n (subst (Lands (is_key s.at) (loud s) t.kind) e (came no_limit true s t h))

pub good_read : (ts : List Token) (s n : State) → AreRead ts → Good s → read s ts ≡ Ok n → Good n
good_read [] s n a g e = subst Good (ok_same s n e) g
  where
    ok_same : (s n : State) → read s [] ≡ Ok n → s ≡ n
    ok_same s n e = cc
good_read (t ∷ ts) s n a g e =
    let x : Onward (step no_limit true s t) (λ m. read m ts) n = onward (step no_limit true s t) (λ m. read m ts) n e in
    good_read ts x.by n a.1 (record { is_open = open_step s x.by t g.is_open a.0 x.made; kept = kept_step s x.by t g.kept (step_machine s x.by t x.made) }) x.goes

pub good : (ts : List Token) (s : State) → Reached ts s → Good s
good ts s h = good_read ts start s h.are (record { is_open = start_open; kept = start_kept }) h.ran

-- ---- the last token

pub record Last (front : List Token) (t : Token) (s : State) : Type 0 where
  pub by : State
  pub reached : Reached front by
  pub read_so : is_last t.kind ≡ false
  pub made : machine by t ≡ Ok s

pub are_front : (ts us : List Token) → AreRead (ts ++ us) → AreRead ts
are_front [] us h = tt
are_front (t ∷ ts) us h = (h.0, are_front ts us h.1)

pub are_back : (ts us : List Token) → AreRead (ts ++ us) → AreRead us
are_back [] us h = h
are_back (t ∷ ts) us h = are_back ts us h.1

pub last : (front : List Token) (t : Token) (s : State) → Reached (front ++ t ∷ []) s → Last front t s
last front t s h =
    let x : Onward (read start front) (λ m. read m (t ∷ [])) s = read_front front (t ∷ []) start s h.ran in
    let y : Onward (step no_limit true x.by t) (λ m. read m []) s = onward (step no_limit true x.by t) (λ m. read m []) s x.goes in
    record {
      by = x.by;
      reached = record { are = are_front front (t ∷ []) h.are; ran = x.made };
      read_so = (are_back front (t ∷ []) h.are).0;
      made = step_machine x.by s t (y.made ∙ y.goes);
    }

-- ---- the last token is `}` or not

last_same : (a b : List Token) (t u : Token) → a ++ t ∷ [] ≡ b ++ u ∷ [] → t ≡ u
last_same [] [] t u e = cc
last_same [] (y ∷ []) t u e = cc
last_same [] (y ∷ z ∷ b) t u e = cc
last_same (x ∷ []) [] t u e = cc
last_same (x ∷ z ∷ a) [] t u e = cc
last_same (x ∷ a) (y ∷ b) t u e = last_same a b t u (tail_same x y (a ++ t ∷ []) (b ++ u ∷ []) e)
  where
    tail_same : (x y : Token) (a b : List Token) → x ∷ a ≡ y ∷ b → a ≡ b
    tail_same x y a b e = cc

brace_kind : (k : TokenKind) → is_close_brace k ≡ true → k ≡ tok.Punctuator p.CloseBrace
brace_kind (tok.Punctuator p.CloseBrace) h = refl
brace_kind _ h = cc

pub brace_none : Means (EndsWith [] (tok.Punctuator p.CloseBrace)) false
brace_none = record { holds = λ h. absurd (none h.0 h.1 h.2); is = λ h. cc }
  where
    none : (b : List Token) (t : Token) → [] ≡ b ++ t ∷ [] → ⊥
    none [] t e = cc
    none (x ∷ b) t e = cc

pub brace_last : (front : List Token) (t : Token) → Means (EndsWith (front ++ t ∷ []) (tok.Punctuator p.CloseBrace)) (is_close_brace t.kind)
brace_last front t = record {
  holds = λ h. ap is_close_brace (ap (λ (u : Token). u.kind) (last_same front h.0 t h.1 h.2) ∙ h.3);
  is = λ h. (front, t, refl, brace_kind t.kind h);
}

-- ---- what is known of it

fits_by : (keyed : Bool) (k : TokenKind) (o : Outer) (a : At) → Landed keyed k o a → (is_close_brace k ≡ true → BraceAt a) → BraceFits (is_close_brace k) a
fits_by keyed k o at.Statement h b = tt
fits_by keyed k o (at.Operand x n) h b = tt
fits_by keyed k o (at.Whole x) h b = h.0
fits_by keyed k o (at.AfterThen test s) h b = tt
fits_by keyed k o (at.AfterTry ss) h b = tt
fits_by keyed k o (at.AfterCatch ss c) h b = tt
fits_by keyed k o at.AfterExport h b = tt
fits_by keyed k o (at.PropertyEnd xs) h b = tt
fits_by keyed k o _ h b = none (is_close_brace k) b
  where
    none : (c : Bool) → (c ≡ true → ⊥) → c ≡ false
    none true f = absurd (f refl)
    none false f = refl

pub landed : (s n : State) (t : Token) → Kept s → machine s t ≡ Ok n → Landed (is_key s.at) t.kind n.outer n.at
landed s n t h e = subst (Lands (is_key s.at) (loud s) t.kind) e (came no_limit true s t h)

brace_leads_to : (s n : State) (t : Token) → machine s t ≡ Ok n → is_close_brace t.kind ≡ true → BraceAt n.at
brace_leads_to s n t e h = brace_leads s t.place t.after_line_end n (ap (λ (k : TokenKind). machine s (record { place = t.place; after_line_end = t.after_line_end; kind = k })) (sym (brace_kind t.kind h)) ∙ e)

begin_kept : (o : Outer) (a : At) → Kept (record { outer = o; at = a }) → BeginKept o a
begin_kept o at.Begin h = h
begin_kept o _ h = tt

pub known_start : Known false false false (machine start)
known_start = known false start start_open refl tt tt

pub known_behind : (front : List Token) (t : Token) (s : State) → Reached (front ++ t ∷ []) s → nat_le no_limit (constructs s.outer) ≡ false → Known (is_close_brace t.kind) (is_key s.at) (is_throw s.at) (machine s)
known_behind front t s h low =
    let x : Last front t s = last front t s h in
    let g : Good x.by = good front x.by x.reached in
    let k : Good s = good (front ++ t ∷ []) s h in
    known (is_close_brace t.kind) s k.is_open low (begin_kept s.outer s.at k.kept)
    (fits_by (is_key x.by.at) t.kind s.outer s.at (landed x.by s t g.kept x.made) (brace_leads_to x.by s t x.made))

-- ---- the spots

module _ (begins : (ts : List Token) (s : State) → AreRead ts → read start ts ≡ Ok s → IsBegin ts) (begin_read : (ts : List Token) → IsBegin ts → (s : State) × ReadSo ts start s) where
  may : (k : TokenKind) (ts : List Token) (s : State) (line : Bool) → is_last k ≡ false → Reached ts s → Means (Allows ts line (k ∷ [])) (takes (machine s) line (k ∷ []))
  may k ts s line l h = one begins begin_read k ts s line l h

  may_not : (k : TokenKind) (ts : List Token) (s : State) (line : Bool) → is_last k ≡ false → Reached ts s → Means (Allows ts line (k ∷ []) → ⊥) (not (takes (machine s) line (k ∷ [])))
  may_not k ts s line l h = means_not (Allows ts line (k ∷ [])) (takes (machine s) line (k ∷ [])) (may k ts s line l h)

  both : (k j : TokenKind) (ts : List Token) (s : State) → is_last k ≡ false → is_last j ≡ false → Reached ts s → Means (Allows ts false (k ∷ j ∷ [])) (takes (machine s) false (k ∷ j ∷ []))
  both k j ts s l m h = two begins begin_read k j ts s false l m h

  not_both : (k j : TokenKind) (ts : List Token) (s : State) → is_last k ≡ false → is_last j ≡ false → Reached ts s → Means (Allows ts false (k ∷ j ∷ []) → ⊥) (not (takes (machine s) false (k ∷ j ∷ [])))
  not_both k j ts s l m h = means_not (Allows ts false (k ∷ j ∷ [])) (takes (machine s) false (k ∷ j ∷ [])) (both k j ts s l m h)

  pub stands_means : (brace : Bool) (sp : Spot) (l : Bool) (ts : List Token) (s : State) → Reached ts s → Means (EndsWith ts (tok.Punctuator p.CloseBrace)) brace → Means (StandsAt sp l ts) (stands brace sp l (machine s))
  stands_means brace spot.StatementBegin l ts s h b = means_and _ _ _ _ (may a_statement ts s l refl h) (may_not a_word ts s l refl h)
  stands_means brace spot.ExpressionBegin l ts s h b = means_and _ _ _ _ (may an_expression ts s l refl h) (may_not a_statement ts s l refl h)
  stands_means brace spot.OperandEnd l ts s h b =
      let m = means_and _ _ _ _ (means_and _ _ _ _ (may_not (tok.Punctuator p.Dot) ts s false refl h) (means_and _ _ _ _ (may_not a_statement ts s false refl h) (may_not (tok.Reserved r.Finally) ts s false refl h))) b in
      means_or _ _ _ _ (may (tok.Punctuator p.Star) ts s false refl h) (record { holds = λ x. m.holds ((x.1, (x.2, x.3)), x.0); is = λ e. (let y = m.is e in (y.1, y.0.0, y.0.1.0, y.0.1.1)) })
  stands_means brace spot.DeclaredName l ts s h b =
      means_and _ _ _ _ (may_not an_expression ts s false refl h) (means_or _ _ _ _ (both a_name equal ts s refl refl h) (means_and _ _ _ _ (both a_name close_paren ts s refl refl h) (not_both a_name comma ts s refl refl h)))
  stands_means brace spot.Parameter l ts s h b =
      let m = means_and _ _ _ _ (may_not an_expression ts s false refl h) (means_and _ _ _ _ (not_both a_name equal ts s refl refl h) (both a_name comma ts s refl refl h)) in
      let n = means_and _ _ _ _ (may_not equal ts s false refl h) (means_and _ _ _ _ (not_both comma an_expression ts s refl refl h) (allows begins begin_read (comma ∷ a_name ∷ close_paren ∷ []) ts s false (refl, (refl, (refl, tt))) h)) in
      means_or _ _ _ _ (record { holds = λ x. m.holds (x.1, (x.2, x.0)); is = λ e. (let y = m.is e in (y.1.1, y.0, y.1.0)) })
      (record { holds = λ x. n.holds (x.2, (x.1, x.0)); is = λ e. (let y = n.is e in (y.1.1, y.1.0, y.0)) })
  stands_means brace spot.Key l ts s h b =
      let m = means_and _ _ _ _ (may a_text ts s false refl h) (may a_word ts s false refl h) in
      record { holds = λ x. m.holds (x.1, x.0); is = λ e. (let y = m.is e in (y.1, y.0)) }

  pub pairs_means : (ts : List Token) (s : State) → Reached ts s → Means (PairsNext ts) (pairs (machine s))
  pairs_means ts s h = means_and _ _ _ _ (may a_text ts s false refl h) (both a_word colon ts s refl refl h)

  pub later_means : (ts : List Token) (s : State) → Reached ts s → Means (Allows ts true (an_expression ∷ []) → ⊥) (not (takes (machine s) true (an_expression ∷ [])))
  later_means ts s h = may_not an_expression ts s true refl h
