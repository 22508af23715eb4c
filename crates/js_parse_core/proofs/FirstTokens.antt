-- The first token of what fits a pattern.
use Rattle.std.proofs.Common.{◌≡◌, ℕ, Bool, true, false, List, [], ◌∷◌, ◌++◌, ◌⊎◌, Ok, sym, ap, ◌∙◌, subst, inl, inr}
use Rattle.js_lex.specs.declared.token.TokenKind.{TokenKind}
use Rattle.js_lex.specs.declared.token.Token.{Token}
use Rattle.js_grammar.specs.Marks.{Piece, Read, Ended, Just, At, Form, IsWanted, IsUnbroken, one, maybe, Mark}
use Rattle.js_parse_core.specs.declared.machine.State.{State}
use Rattle.js_parse_core.specs.Outer.{Step}
use Rattle.js_parse_core.specs.Machine.{step_in}
use Rattle.js_parse_core.proofs.Pieces.{Spells, Fits, no_limit, is_last, taken, run}
use Rattle.js_parse_core.proofs.PieceLemmas.{run_step, take_is}
use Rattle.js_parse_core.proofs.Readings.{token, FirstOn}

broken : (u : Bool) (t : Token) → IsUnbroken u t → u ≡ true → t.after_line_end ≡ false
broken true t h e = h
broken false t h e = cc

-- the first of some marks, a token of this kind, with no line end before it where u is true
pub record Spelt (k : TokenKind) (u : Bool) (ms : List Mark) (ps : List Piece) : Type 0 where
  pub place : ℕ
  pub line : Bool
  pub rest : List Piece
  pub are : ps ≡ Read (token place line k) ∷ rest
  pub unbroken_is : u ≡ true → line ≡ false
  pub others : Spells ms rest

pub spelt : (k : TokenKind) (u : Bool) (c : ℕ) (ms : List Mark) (ps : List Piece) → Spells (record { want = Just k; unbroken = u; constructs = c } ∷ ms) ps → Spelt k u ms ps
spelt k u c ms ps s = by_piece s.0 s.2 s.3
  where
    by_piece : (x : Piece) → ps ≡ x ∷ s.1 → IsWanted (Just k) u x → Spelt k u ms ps
    by_piece (Read t) e w = record { place = t.place; line = t.after_line_end; rest = s.1; are = e ∙ ap (λ (z : TokenKind). Read (token t.place t.after_line_end z) ∷ s.1) w.0; unbroken_is = broken u t w.1; others = s.4 }
    by_piece Ended e w = absurd w

-- .. at this place
pub record SpeltAt (q : ℕ) (k : TokenKind) (u : Bool) (ms : List Mark) (ps : List Piece) : Type 0 where
  pub line : Bool
  pub rest : List Piece
  pub are : ps ≡ Read (token q line k) ∷ rest
  pub unbroken_is : u ≡ true → line ≡ false
  pub others : Spells ms rest

pub spelt_at : (q : ℕ) (k : TokenKind) (u : Bool) (c : ℕ) (ms : List Mark) (ps : List Piece) → Spells (record { want = At q k; unbroken = u; constructs = c } ∷ ms) ps → SpeltAt q k u ms ps
spelt_at q k u c ms ps s = by_piece s.0 s.2 s.3
  where
    by_piece : (x : Piece) → ps ≡ x ∷ s.1 → IsWanted (At q k) u x → SpeltAt q k u ms ps
    by_piece (Read t) e w = record { line = t.after_line_end; rest = s.1; are = e ∙ ap (λ (z : TokenKind). Read (token t.place t.after_line_end z) ∷ s.1) w.0 ∙ ap (λ (z : ℕ). Read (token z t.after_line_end k) ∷ s.1) w.1; unbroken_is = broken u t w.2; others = s.4 }
    by_piece Ended e w = absurd w

-- a token of this kind, with no line end before it where u is true, and the other forms
pub record Then (u : Bool) (k : TokenKind) (fs : List Form) (ps : List Piece) : Type 0 where
  pub place : ℕ
  pub line : Bool
  pub rest : List Piece
  pub are : ps ≡ Read (token place line k) ∷ rest
  pub unbroken : u ≡ true → line ≡ false
  pub fits : Fits fs rest

-- .. at this place
pub record ThenAt (q : ℕ) (u : Bool) (k : TokenKind) (fs : List Form) (ps : List Piece) : Type 0 where
  pub line : Bool
  pub rest : List Piece
  pub are : ps ≡ Read (token q line k) ∷ rest
  pub unbroken : u ≡ true → line ≡ false
  pub fits : Fits fs rest

pub then_spelt : (u : Bool) (k : TokenKind) (c : ℕ) (fs : List Form) (a b ps : List Piece) → ps ≡ a ++ b → Spells (record { want = Just k; unbroken = u; constructs = c } ∷ []) a → Fits fs b → Then u k fs ps
then_spelt u k c fs a b ps e s f =
    let t : Spelt k u [] a = spelt k u c [] a s in
    record {
      place = t.place;
      line = t.line;
      rest = b;
      are = e ∙ ap (λ (z : List Piece). z ++ b) (t.are ∙ ap (λ (z : List Piece). Read (token t.place t.line k) ∷ z) t.others);
      unbroken = t.unbroken_is;
      fits = f;
    }

pub then_spelt_at : (q : ℕ) (u : Bool) (k : TokenKind) (c : ℕ) (fs : List Form) (a b ps : List Piece) → ps ≡ a ++ b → Spells (record { want = At q k; unbroken = u; constructs = c } ∷ []) a → Fits fs b → ThenAt q u k fs ps
then_spelt_at q u k c fs a b ps e s f =
    let t : SpeltAt q k u [] a = spelt_at q k u c [] a s in
    record {
      line = t.line;
      rest = b;
      are = e ∙ ap (λ (z : List Piece). z ++ b) (t.are ∙ ap (λ (z : List Piece). Read (token q t.line k) ∷ z) t.others);
      unbroken = t.unbroken_is;
      fits = f;
    }

pub then_just : (u : Bool) (k : TokenKind) (c : ℕ) (fs : List Form) (ps : List Piece) → Fits (one (record { want = Just k; unbroken = u; constructs = c }) ∷ fs) ps → Then u k fs ps
then_just u k c fs ps h = elim h.3 [
  | inl s ↦ then_spelt u k c fs h.0 h.1 ps h.2 s h.4
  | inr n ↦ absurd n
]

pub then_at : (q : ℕ) (u : Bool) (k : TokenKind) (c : ℕ) (fs : List Form) (ps : List Piece) → Fits (one (record { want = At q k; unbroken = u; constructs = c }) ∷ fs) ps → ThenAt q u k fs ps
then_at q u k c fs ps h = elim h.3 [
  | inl s ↦ then_spelt_at q u k c fs h.0 h.1 ps h.2 s h.4
  | inr n ↦ absurd n
]

-- a token that may stand there, or the other forms
pub then_maybe : (u : Bool) (k : TokenKind) (c : ℕ) (fs : List Form) (ps : List Piece) → Fits (maybe (record { want = Just k; unbroken = u; constructs = c }) ∷ fs) ps → Then u k fs ps ⊎ Fits fs ps
then_maybe u k c fs ps h = elim h.3 [
  | inl s ↦ inl (then_spelt u k c fs h.0 h.1 ps h.2 s h.4)
  | inr n ↦ inr (elim n [
    | inl e ↦ subst (λ (z : List Piece). Fits fs z) (sym (h.2 ∙ ap (λ (z : List Piece). z ++ h.1) e)) h.4
    | inr m ↦ absurd m
  ])
]

-- ---- the machine takes a token

pub go : (s n : State) (q : ℕ) (l : Bool) (k : TokenKind) (rest : List Piece) → is_last k ≡ false → step_in no_limit false s.outer s.at (token q l k) ≡ Ok n → run s (Read (token q l k) ∷ rest) ≡ run n rest
go s n q l k rest e h = run_step s n (Read (token q l k)) rest (take_is s (token q l k) e ∙ h)

-- .. and what it makes
pub gives : (s : State) (made : Step) (q : ℕ) (l : Bool) (k : TokenKind) (rest : List Piece) → is_last k ≡ false → step_in no_limit false s.outer s.at (token q l k) ≡ made → run s (Read (token q l k) ∷ rest) ≡ taken made (λ n. run n rest)
gives s made q l k rest e h = ap (λ (z : Step). taken z (λ n. run n rest)) (take_is s (token q l k) e ∙ h)

pub first_on : (u : Bool) (t : Token) (ps : List Piece) → FirstOn u (Read t ∷ ps) → u ≡ true → t.after_line_end ≡ false
first_on true t ps h e = h
first_on false t ps h e = cc
