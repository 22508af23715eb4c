-- What the grammar allows behind some tokens, by what the machine takes there.
use Rattle.std.proofs.Common.{◌≡◌, Bool, true, false, List, [], ◌∷◌, ◌++◌, ◌⊎◌, Ok, Err, refl, sym, ap, ◌∙◌, subst, inl, inr, append_assoc, append-nil}
use Rattle.std.specs.Prelude.{not, ◌&&◌, ◌||◌}
use Rattle.js_lex.specs.declared.token.Punctuator.TheVariants as p
use Rattle.js_lex.specs.declared.token.Reserved.TheVariants as r
use Rattle.js_lex.specs.declared.token.TokenKind.{TokenKind}
use Rattle.js_lex.specs.declared.token.TokenKind.TheVariants as tok
use Rattle.js_lex.specs.declared.token.Token.{Token}
use Rattle.js_words.specs.declared.word.Spot.{Spot}
use Rattle.js_words.specs.declared.word.Spot.TheVariants as spot
use Rattle.js_grammar.specs.Spots.{IsBegin, Allows, token, a_statement, an_expression, a_name, a_text, a_word, comma, equal, colon, close_paren}
use Rattle.js_parse_core.specs.declared.machine.Refusal.{Refusal}
use Rattle.js_parse_core.specs.declared.machine.State.{State}
use Rattle.js_parse_core.specs.Machine.{step_in, step, start}
use Rattle.js_parse_core.specs.Outer.{Step}
use Rattle.js_parse_core.proofs.Ends.{read, AreRead, ReadSo, Onward, read_front, read_behind}
use Rattle.js_parse_core.proofs.PieceLemmas.{no_limit_is}
use Rattle.js_parse_core.proofs.Pieces.{no_limit, is_last, taken}

abbrev pub accepted : Step → (State → Bool) → Bool
accepted (Ok n) go = go n
accepted (Err k) go = false

-- The machine takes these, the first one on the line or behind a line end.
abbrev pub accepts : State → Bool → List TokenKind → Bool
accepts s line [] = true
accepts s line (k ∷ ks) = accepted (step_in no_limit true s.outer s.at (token line k)) (λ n. accepts n false ks)

abbrev pub AllRead : List TokenKind → Type 0
AllRead [] = Unit {0}
AllRead (k ∷ ks) = (is_last k ≡ false) × AllRead ks

-- .. from where the step is f
abbrev pub takes : (Token → Step) → Bool → List TokenKind → Bool
takes f line [] = true
takes f line (k ∷ ks) = accepted (f (token line k)) (λ n. accepts n false ks)

-- ---- the spots of such a place; `brace`: the last token is `}`

abbrev pub ends_block : Bool → (Token → Step) → Bool
ends_block brace f =
    (not (takes f false (tok.Punctuator p.Dot ∷ [])) && (not (takes f false (a_statement ∷ [])) && not (takes f false (tok.Reserved r.Finally ∷ [])))) && brace

abbrev pub declares : (Token → Step) → Bool
declares f =
    not (takes f false (an_expression ∷ []))
    && (takes f false (a_name ∷ equal ∷ []) || (takes f false (a_name ∷ close_paren ∷ []) && not (takes f false (a_name ∷ comma ∷ []))))

abbrev pub parameters : (Token → Step) → Bool
parameters f =
    (not (takes f false (an_expression ∷ [])) && (not (takes f false (a_name ∷ equal ∷ [])) && takes f false (a_name ∷ comma ∷ [])))
    || (not (takes f false (equal ∷ [])) && (not (takes f false (comma ∷ an_expression ∷ [])) && takes f false (comma ∷ a_name ∷ close_paren ∷ [])))

abbrev pub stands : Bool → Spot → Bool → (Token → Step) → Bool
stands brace spot.StatementBegin line f = takes f line (a_statement ∷ []) && not (takes f line (a_word ∷ []))
stands brace spot.ExpressionBegin line f = takes f line (an_expression ∷ []) && not (takes f line (a_statement ∷ []))
stands brace spot.OperandEnd line f = takes f false (tok.Punctuator p.Star ∷ []) || ends_block brace f
stands brace spot.DeclaredName line f = declares f
stands brace spot.Parameter line f = parameters f
stands brace spot.Key line f = takes f false (a_text ∷ []) && takes f false (a_word ∷ [])

abbrev pub pairs : (Token → Step) → Bool
pairs f = takes f false (a_text ∷ []) && takes f false (a_word ∷ colon ∷ [])

abbrev pub machine : State → Token → Step
machine s t = step_in no_limit true s.outer s.at t

-- ---- a Bool for each claim

pub record Means (claim : Type 0) (b : Bool) : Type 0 where
  pub holds : claim → b ≡ true
  pub is : b ≡ true → claim

true_false : true ≡ false → ⊥
true_false h = cc

pub means_not : (c : Type 0) (b : Bool) → Means c b → Means (c → ⊥) (not b)
means_not c true m = record { holds = λ h. absurd (h (m.is refl)); is = λ h. cc }
means_not c false m = record { holds = λ h. refl; is = λ h x. true_false (sym (m.holds x)) }

pub means_and : (c d : Type 0) (a b : Bool) → Means c a → Means d b → Means (c × d) (a && b)
means_and c d true b m n = record { holds = λ h. n.holds h.1; is = λ h. (m.is refl, n.is h) }
means_and c d false b m n = record { holds = λ h. absurd (true_false (sym (m.holds h.0))); is = λ h. cc }

pub means_or : (c d : Type 0) (a b : Bool) → Means c a → Means d b → Means (c ⊎ d) (a || b)
means_or c d true b m n = record { holds = λ h. refl; is = λ h. inl (m.is refl) }
means_or c d false b m n = record { holds = go; is = λ h. inr (n.is h) }
  where
    go : c ⊎ d → b ≡ true
    go (inl x) = absurd (true_false (sym (m.holds x)))
    go (inr y) = n.holds y

-- ---- what is allowed behind the tokens, by the state behind them

are_append : (ts us : List Token) → AreRead ts → AreRead us → AreRead (ts ++ us)
are_append [] us h k = k
are_append (t ∷ ts) us h k = (h.0, are_append ts us h.1 k)

allows_begin : (ks : List TokenKind) (ts : List Token) (line : Bool) → Allows ts line ks → (more : List Token) × IsBegin (ts ++ more)
allows_begin [] ts line h = ([], subst IsBegin (sym (append-nil ts)) h)
allows_begin (k ∷ ks) ts line h =
    let x : (more : List Token) × IsBegin ((ts ++ token line k ∷ []) ++ more) = allows_begin ks (ts ++ token line k ∷ []) false h in
    (token line k ∷ x.0, subst IsBegin (append_assoc ts (token line k ∷ []) x.0) x.1)

pub record Reached (ts : List Token) (s : State) : Type 0 where
  pub are : AreRead ts
  pub ran : read start ts ≡ Ok s

step_is_in : (s : State) (t : Token) → step no_limit true s t ≡ step_in no_limit true s.outer s.at t
step_is_in s t = no_limit_is (step_in no_limit true s.outer s.at t)

pub reached_step : (ts : List Token) (s n : State) (t : Token) → Reached ts s → is_last t.kind ≡ false → step_in no_limit true s.outer s.at t ≡ Ok n → Reached (ts ++ t ∷ []) n
reached_step ts s n t h l e = record {
  are = are_append ts (t ∷ []) h.are (l, tt);
  ran = read_behind ts (t ∷ []) start s h.ran ∙ ap (λ (o : Step). taken o (λ m. read m [])) (step_is_in s t ∙ e);
}

module _ (begins : (ts : List Token) (s : State) → AreRead ts → read start ts ≡ Ok s → IsBegin ts) (begin_read : (ts : List Token) → IsBegin ts → (s : State) × ReadSo ts start s) where
  refused_more : (ts more : List Token) (t : Token) (s : State) (k : Refusal) → read start ts ≡ Ok s → step_in no_limit true s.outer s.at t ≡ Err k → IsBegin ((ts ++ t ∷ []) ++ more) → ⊥
  refused_more ts more t s k h e b =
      let x : (n : State) × ReadSo ((ts ++ t ∷ []) ++ more) start n = begin_read ((ts ++ t ∷ []) ++ more) b in
      let y : Onward (read start (ts ++ t ∷ [])) (λ m. read m more) x.0 = read_front (ts ++ t ∷ []) more start x.0 x.1.ran in
      let z : read start (ts ++ t ∷ []) ≡ Err k = read_behind ts (t ∷ []) start s h ∙ ap (λ (o : Step). taken o (λ m. read m [])) (step_is_in s t ∙ e) in
      let w = y.made in cc

  pub allows : (ks : List TokenKind) (ts : List Token) (s : State) (line : Bool) → AllRead ks → Reached ts s → Means (Allows ts line ks) (accepts s line ks)
  allows [] ts s line a h = record { holds = λ x. refl; is = λ e. begins ts s h.are h.ran }
  allows (k ∷ ks) ts s line a h = go (step_in no_limit true s.outer s.at (token line k)) refl (λ n r. allows ks (ts ++ token line k ∷ []) n false a.1 r)
    where
      go : (made : Step) → step_in no_limit true s.outer s.at (token line k) ≡ made → ((n : State) → Reached (ts ++ token line k ∷ []) n → Means (Allows (ts ++ token line k ∷ []) false ks) (accepts n false ks))
          → Means (Allows (ts ++ token line k ∷ []) false ks) (accepted made (λ n. accepts n false ks))
      go (Ok n) e c = c n (reached_step ts s n (token line k) h a.0 e)
      go (Err f) e c = record {
        holds = λ x. (let y : (more : List Token) × IsBegin ((ts ++ token line k ∷ []) ++ more) = allows_begin ks (ts ++ token line k ∷ []) false x in
            absurd (refused_more ts y.0 (token line k) s f h.ran e y.1));
        is = λ i. cc;
      }

  pub one : (k : TokenKind) (ts : List Token) (s : State) (line : Bool) → is_last k ≡ false → Reached ts s → Means (Allows ts line (k ∷ [])) (accepts s line (k ∷ []))
  one k ts s line l h = allows (k ∷ []) ts s line (l, tt) h

  pub two : (k j : TokenKind) (ts : List Token) (s : State) (line : Bool) → is_last k ≡ false → is_last j ≡ false → Reached ts s → Means (Allows ts line (k ∷ j ∷ [])) (accepts s line (k ∷ j ∷ []))
  two k j ts s line l m h = allows (k ∷ j ∷ []) ts s line (l, (m, tt)) h
