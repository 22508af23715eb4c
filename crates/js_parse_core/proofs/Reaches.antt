-- What pieces of patterns lead to, whatever stands behind them.
use Rattle.std.proofs.Common.{◌≡◌, ℕ, Bool, true, false, cond, List, [], ◌∷◌, ◌++◌, Ok, Err, refl, sym, ap, ◌∙◌, subst, append_assoc, inl, inr}
use Rattle.std.specs.Prelude.{Result}
use Rattle.std.proofs.lemmas.List.{append-nil}
use Rattle.js_lex.specs.declared.token.Punctuator.{Punctuator}
use Rattle.js_lex.specs.declared.token.Punctuator.TheVariants as p
use Rattle.js_lex.specs.declared.token.TokenKind.{TokenKind}
use Rattle.js_lex.specs.declared.token.TokenKind.TheVariants as tok
use Rattle.js_lex.specs.declared.token.Token.{Token}
use Rattle.js_grammar.specs.Marks.{Piece, Read, Ended, Just, At, Auto, Mark, Form, IsUnbroken, IsWanted, mark, one, just, end, maybe, deeper, enclosed}
use Rattle.js_parse_core.specs.declared.machine.Refusal.{Refusal}
use Rattle.js_parse_core.specs.declared.machine.State.{State}
use Rattle.js_parse_core.specs.Outer.{Step, refuse}
use Rattle.js_parse_core.specs.Machine.{step, step_in}
use Rattle.js_parse_core.proofs.Pieces.{Spells, Fits, no_limit, end_token, is_between, is_last, take, taken, run}
use Rattle.js_parse_core.proofs.PieceLemmas.{Split, fits_split, fits_append, fits_shallow, no_limit_is, take_is, run_append}
use Rattle.js_parse_core.proofs.Readings.{token}

-- what the end does, and what it has to give
pub record Goal : Type 0 where
  pub last : State → Step
  pub final : Step

abbrev pub goes : Step → (State → Result Step Refusal) → Result Step Refusal
goes (Ok n) go = go n
goes (Err k) go = Err k

-- the pieces, and then the end: what it gives, where no piece is refused
abbrev pub onward : (State → Step) → State → List Piece → Result Step Refusal
onward e s [] = Ok (e s)
onward e s (q ∷ ps) = goes (take s q) (λ n. onward e n ps)

-- from what was made, the pieces lead to the goal
pub record Leads (g : Goal) (made : Step) (ps : List Piece) : Type 0 where
  pub leads : goes made (λ n. onward g.last n ps) ≡ Ok g.final

-- .. all pieces of these forms, and rest behind them
pub record Reaches (g : Goal) (made : Step) (fs : List Form) (rest : List Piece) : Type 0 where
  pub reaches : (ps : List Piece) → Fits fs ps → Leads g made (ps ++ rest)

-- ---- steps

-- what the token does at its spot
abbrev pub did : State → Token → Step
did s t = step_in no_limit false s.outer s.at t

pub leads_is : (g : Goal) (a b : Step) (ps : List Piece) → a ≡ b → Leads g b ps → Leads g a ps
leads_is g a b ps e h = subst (λ (z : Step). Leads g z ps) (sym e) h

pub leads_same : (g : Goal) (a : Step) (ps qs : List Piece) → ps ≡ qs → Leads g a qs → Leads g a ps
leads_same g a ps qs e h = subst (λ (z : List Piece). Leads g a z) (sym e) h

pub leads_piece : (g : Goal) (s : State) (q : Piece) (ps : List Piece) → Leads g (take s q) ps → Leads g (Ok s) (q ∷ ps)
leads_piece g s q ps h = record { leads = h.leads }

pub piece_leads : (g : Goal) (s : State) (q : Piece) (ps : List Piece) → Leads g (Ok s) (q ∷ ps) → Leads g (take s q) ps
piece_leads g s q ps h = record { leads = h.leads }

pub take_token : (s : State) (t : Token) (k : TokenKind) → t.kind ≡ k → is_last k ≡ false → take s (Read t) ≡ did s (token t.place t.after_line_end k)
take_token s t k e l = take_is s t (ap is_last e ∙ l) ∙ ap (λ (z : TokenKind). did s (token t.place t.after_line_end z)) e

pub take_end : (s : State) → is_between s.at ≡ false → take s Ended ≡ did s end_token
take_end s e = ap (λ (b : Bool). cond b refuse (step no_limit false s end_token)) e ∙ no_limit_is (step_in no_limit false s.outer s.at end_token)

is_unbroken : (u : Bool) (t : Token) → IsUnbroken u t → u ≡ true → t.after_line_end ≡ false
is_unbroken true t h e = h
is_unbroken false t h e = cc

-- ---- forms

pub reaches_none : (g : Goal) (a : Step) (rest : List Piece) → Leads g a rest → Reaches g a [] rest
reaches_none g a rest h = record { reaches = λ ps e. leads_same g a (ps ++ rest) rest (ap (λ (z : List Piece). z ++ rest) e) h }

pub reaches_same : (g : Goal) (a : Step) (fs gs : List Form) (rest : List Piece) → fs ≡ gs → Reaches g a gs rest → Reaches g a fs rest
reaches_same g a fs gs rest e h = subst (λ (z : List Form). Reaches g a z rest) (sym e) h

pub reaches_is : (g : Goal) (a b : Step) (fs : List Form) (rest : List Piece) → a ≡ b → Reaches g b fs rest → Reaches g a fs rest
reaches_is g a b fs rest e h = subst (λ (z : Step). Reaches g z fs rest) (sym e) h

pub reaches_split : (g : Goal) (a : Step) (fs gs : List Form) (rest : List Piece) → ((ps : List Piece) → Fits gs ps → Reaches g a fs (ps ++ rest)) → Reaches g a (fs ++ gs) rest
reaches_split g a fs gs rest h = record {
  reaches = λ ps f.
      let s : Split fs gs ps = fits_split fs gs ps f in
      leads_same g a (ps ++ rest) (s.front ++ (s.back ++ rest)) (ap (λ (z : List Piece). z ++ rest) s.parts ∙ append_assoc s.front s.back rest)
      ((h s.back s.fits_back).reaches s.front s.fits_front);
}

pub reaches_deeper : (g : Goal) (a : Step) (n : ℕ) (fs gs : List Form) (rest : List Piece) → Reaches g a (fs ++ gs) rest → Reaches g a (deeper n fs ++ gs) rest
reaches_deeper g a n fs gs rest h = record {
  reaches = λ ps f.
      let s : Split (deeper n fs) gs ps = fits_split (deeper n fs) gs ps f in
      leads_same g a (ps ++ rest) ((s.front ++ s.back) ++ rest) (ap (λ (z : List Piece). z ++ rest) s.parts)
      (h.reaches (s.front ++ s.back) (fits_append fs gs s.front s.back (fits_shallow n fs s.front s.fits_front) s.fits_back));
}

-- pieces whose first one is of this mark
pub record First (m : Mark) (fs : List Form) (ps : List Piece) : Type 0 where
  pub piece : Piece
  pub others : List Piece
  pub are : ps ≡ piece ∷ others
  pub wanted : IsWanted m.want m.unbroken piece
  pub fits : Fits fs others

first_of : (m : Mark) (fs : List Form) (a b ps : List Piece) → ps ≡ a ++ b → Spells (m ∷ []) a → Fits fs b → First m fs ps
first_of m fs a b ps e s f = record {
  piece = s.0;
  others = b;
  are = e ∙ ap (λ (z : List Piece). z ++ b) s.2 ∙ ap (λ (z : List Piece). s.0 ∷ (z ++ b)) s.4;
  wanted = s.3;
  fits = f;
}

pub first_one : (m : Mark) (fs : List Form) (ps : List Piece) → Fits (one m ∷ fs) ps → First m fs ps
first_one m fs ps h = elim h.3 [
  | inl s ↦ first_of m fs h.0 h.1 ps h.2 s h.4
  | inr n ↦ absurd n
]

reaches_mark : (g : Goal) (s : State) (n : Step) (m : Mark) (fs : List Form) (rest : List Piece) → ((q : Piece) → IsWanted m.want m.unbroken q → take s q ≡ n) → Reaches g n fs rest → Reaches g (Ok s) (one m ∷ fs) rest
reaches_mark g s n m fs rest e k = record {
  reaches = λ ps h.
      let f : First m fs ps = first_one m fs ps h in
      leads_same g (Ok s) (ps ++ rest) (f.piece ∷ (f.others ++ rest)) (ap (λ (z : List Piece). z ++ rest) f.are)
      (leads_piece g s f.piece (f.others ++ rest) (leads_is g (take s f.piece) n (f.others ++ rest) (e f.piece f.wanted) (k.reaches f.others f.fits)));
}

-- a token, perhaps with no line end before it
pub reaches_token : (g : Goal) (s : State) (n : Step) (k : TokenKind) (u : Bool) (c : ℕ) (fs : List Form) (rest : List Piece) → is_last k ≡ false
    → ((q : ℕ) (l : Bool) → (u ≡ true → l ≡ false) → did s (token q l k) ≡ n) → Reaches g n fs rest → Reaches g (Ok s) (one (record { want = Just k; unbroken = u; constructs = c }) ∷ fs) rest
reaches_token g s n k u c fs rest i e h = reaches_mark g s n (record { want = Just k; unbroken = u; constructs = c }) fs rest by_piece h
  where
    by_piece : (q : Piece) → IsWanted (Just k) u q → take s q ≡ n
    by_piece (Read t) w = take_token s t k w.0 i ∙ e t.place t.after_line_end (is_unbroken u t w.1)
    by_piece Ended w = absurd w

-- .. where the step tells its place
pub reaches_each : (g : Goal) (s : State) (k : TokenKind) (u : Bool) (c : ℕ) (fs : List Form) (rest : List Piece) → is_last k ≡ false
    → ((q : ℕ) (l : Bool) → (u ≡ true → l ≡ false) → Reaches g (did s (token q l k)) fs rest) → Reaches g (Ok s) (one (record { want = Just k; unbroken = u; constructs = c }) ∷ fs) rest
reaches_each g s k u c fs rest i h = record {
  reaches = λ ps fit.
      let f : First (record { want = Just k; unbroken = u; constructs = c }) fs ps = first_one (record { want = Just k; unbroken = u; constructs = c }) fs ps fit in
      leads_same g (Ok s) (ps ++ rest) (f.piece ∷ (f.others ++ rest)) (ap (λ (z : List Piece). z ++ rest) f.are) (by_piece f.piece f.wanted f.others f.fits);
}
  where
    by_piece : (q : Piece) → IsWanted (Just k) u q → (b : List Piece) → Fits fs b → Leads g (Ok s) (q ∷ (b ++ rest))
    by_piece (Read t) w b fit = leads_piece g s (Read t) (b ++ rest)
        (leads_is g (take s (Read t)) (did s (token t.place t.after_line_end k)) (b ++ rest) (take_token s t k w.0 i) ((h t.place t.after_line_end (is_unbroken u t w.1)).reaches b fit))
    by_piece Ended w b fit = absurd w

-- .. at its place
pub reaches_at : (g : Goal) (s : State) (n : Step) (p : ℕ) (k : TokenKind) (u : Bool) (c : ℕ) (fs : List Form) (rest : List Piece) → is_last k ≡ false
    → ((l : Bool) → (u ≡ true → l ≡ false) → did s (token p l k) ≡ n) → Reaches g n fs rest → Reaches g (Ok s) (one (record { want = At p k; unbroken = u; constructs = c }) ∷ fs) rest
reaches_at g s n p k u c fs rest i e h = reaches_mark g s n (record { want = At p k; unbroken = u; constructs = c }) fs rest by_piece h
  where
    by_piece : (q : Piece) → IsWanted (At p k) u q → take s q ≡ n
    by_piece (Read t) w = take_token s t k w.0 i ∙ ap (λ (z : ℕ). did s (token z t.after_line_end k)) w.1 ∙ e t.after_line_end (is_unbroken u t w.2)
    by_piece Ended w = absurd w

pub reaches_just : (g : Goal) (s : State) (n : Step) (x : Punctuator) (fs : List Form) (rest : List Piece) → ((q : ℕ) (l : Bool) → did s (token q l (tok.Punctuator x)) ≡ n) → Reaches g n fs rest → Reaches g (Ok s) (just x ∷ fs) rest
reaches_just g s n x fs rest e h = reaches_token g s n (tok.Punctuator x) false 0 fs rest refl (λ q l u. e q l) h

-- this or nothing
pub reaches_maybe : (g : Goal) (a : Step) (m : Mark) (fs : List Form) (rest : List Piece) → Reaches g a (one m ∷ fs) rest → Reaches g a fs rest → Reaches g a (maybe m ∷ fs) rest
reaches_maybe g a m fs rest j k = record {
  reaches = λ ps h. elim h.3 [
    | inl s ↦ j.reaches ps (h.0, h.1, h.2, inl s, h.4)
    | inr o ↦ elim o [
      | inl e ↦ leads_same g a (ps ++ rest) (h.1 ++ rest) (ap (λ (z : List Piece). z ++ rest) (h.2 ∙ ap (λ (z : List Piece). z ++ h.1) e)) (k.reaches h.1 h.4)
      | inr n ↦ absurd n
    ]
  ];
}

-- `;` or an automatic end
pub reaches_end : (g : Goal) (s : State) (n : Step) (fs : List Form) (rest : List Piece) → is_between s.at ≡ false → ((q : ℕ) (l : Bool) → did s (token q l (tok.Punctuator p.Semicolon)) ≡ n) → did s end_token ≡ n
    → Reaches g n fs rest → Reaches g (Ok s) (end ∷ fs) rest
reaches_end g s n fs rest b e f k = record {
  reaches = λ ps h. elim h.3 [
    | inl x ↦ (reaches_just g s n p.Semicolon fs rest e k).reaches ps (h.0, h.1, h.2, inl x, h.4)
    | inr o ↦ (reaches_mark g s n (mark Auto) fs rest by_piece k).reaches ps (h.0, h.1, h.2, o, h.4)
  ];
}
  where
    by_piece : (q : Piece) → IsWanted Auto false q → take s q ≡ n
    by_piece Ended w = take_end s b ∙ f
    by_piece (Read t) w = absurd w

-- what stands before one piece
pub reaches_then : (g : Goal) (a : Step) (fs : List Form) (m : Mark) (gs : List Form) (rest : List Piece) → ((q : Piece) (ps : List Piece) → IsWanted m.want m.unbroken q → Fits gs ps → Reaches g a fs (q ∷ (ps ++ rest)))
    → Reaches g a (fs ++ one m ∷ gs) rest
reaches_then g a fs m gs rest h = reaches_split g a fs (one m ∷ gs) rest (λ ps f.
    let x : First m gs ps = first_one m gs ps f in
    subst (λ (z : List Piece). Reaches g a fs (z ++ rest)) (sym x.are) (h x.piece x.others x.wanted x.fits))

-- .. or before one that may stand there
pub reaches_perhaps : (g : Goal) (a : Step) (fs : List Form) (m : Mark) (gs : List Form) (rest : List Piece) → Reaches g a (fs ++ one m ∷ gs) rest → Reaches g a (fs ++ gs) rest → Reaches g a (fs ++ maybe m ∷ gs) rest
reaches_perhaps g a fs m gs rest j k = record {
  reaches = λ ps h.
      let s : Split fs (maybe m ∷ gs) ps = fits_split fs (maybe m ∷ gs) ps h in
      let b = s.fits_back in
      leads_same g a (ps ++ rest) ((s.front ++ s.back) ++ rest) (ap (λ (z : List Piece). z ++ rest) s.parts)
      (elim b.3 [
        | inl x ↦ j.reaches (s.front ++ s.back) (fits_append fs (one m ∷ gs) s.front s.back s.fits_front (b.0, b.1, b.2, inl x, b.4))
        | inr o ↦ elim o [
          | inl e ↦ k.reaches (s.front ++ s.back) (fits_append fs gs s.front s.back s.fits_front (subst (λ (z : List Piece). Fits gs z) (sym (b.2 ∙ ap (λ (z : List Piece). z ++ b.1) e)) b.4))
          | inr n ↦ absurd n
        ]
      ]);
}

-- .. or before one of two
pub reaches_either : (g : Goal) (a : Step) (fs : List Form) (m n : Mark) (gs : List Form) (rest : List Piece) → Reaches g a (fs ++ one m ∷ gs) rest → Reaches g a (fs ++ one n ∷ gs) rest
    → Reaches g a (fs ++ ((m ∷ []) ∷ (n ∷ []) ∷ []) ∷ gs) rest
reaches_either g a fs m n gs rest j k = record {
  reaches = λ ps h.
      let s : Split fs (((m ∷ []) ∷ (n ∷ []) ∷ []) ∷ gs) ps = fits_split fs (((m ∷ []) ∷ (n ∷ []) ∷ []) ∷ gs) ps h in
      let b = s.fits_back in
      leads_same g a (ps ++ rest) ((s.front ++ s.back) ++ rest) (ap (λ (z : List Piece). z ++ rest) s.parts)
      (elim b.3 [
        | inl x ↦ j.reaches (s.front ++ s.back) (fits_append fs (one m ∷ gs) s.front s.back s.fits_front (b.0, b.1, b.2, inl x, b.4))
        | inr o ↦ k.reaches (s.front ++ s.back) (fits_append fs (one n ∷ gs) s.front s.back s.fits_front (b.0, b.1, b.2, o, b.4))
      ]);
}

-- pieces of a pattern with a mark in it are not none
pub some_first : (m : Mark) (fs : List Form) (ps rest : List Piece) → Fits (one m ∷ fs) ps → ps ++ rest ≡ [] → ⊥
some_first m fs ps rest h e = let f : First m fs ps = first_one m fs ps h in no_cons f.piece (f.others ++ rest) (sym (ap (λ (z : List Piece). z ++ rest) f.are) ∙ e)
  where
    no_cons : (q : Piece) (qs : List Piece) → q ∷ qs ≡ [] → ⊥
    no_cons q qs c = cc

pub none_behind : (ps rest : List Piece) → ps ++ rest ≡ [] → rest ≡ []
none_behind [] rest e = e
none_behind (q ∷ ps) rest e = cc

-- brackets
pub reaches_enclosed : (g : Goal) (s : State) (n : Step) (x : Punctuator) (fs : List Form) (y : Punctuator) (gs : List Form) (rest : List Piece) → ((q : ℕ) (l : Bool) → did s (token q l (tok.Punctuator x)) ≡ n)
    → Reaches g n (fs ++ just y ∷ gs) rest → Reaches g (Ok s) (enclosed x fs y ++ gs) rest
reaches_enclosed g s n x fs y gs rest e k =
    reaches_deeper g (Ok s) 1 (just x ∷ (fs ++ just y ∷ [])) gs rest
    (reaches_same g (Ok s) (just x ∷ ((fs ++ just y ∷ []) ++ gs)) (just x ∷ (fs ++ just y ∷ gs)) rest (ap (λ (z : List Form). just x ∷ z) (append_assoc fs (just y ∷ []) gs))
    (reaches_just g s n x (fs ++ just y ∷ gs) rest e k))

-- ---- runs

-- the pieces are taken, and the end gives what it has to
pub record Ran (g : Goal) (made : Step) (ps : List Piece) : Type 0 where
  pub state : State
  pub runs : taken made (λ n. run n ps) ≡ Ok state
  pub gives : g.last state ≡ g.final

abbrev from_ok : Step → Result Step Refusal → Step
from_ok d (Ok x) = x
from_ok d (Err k) = d

pub leads_end : (g : Goal) (s : State) → Leads g (Ok s) [] → g.last s ≡ g.final
leads_end g s h = ap (from_ok refuse) h.leads

pub ran : (g : Goal) (ps : List Piece) (made : Step) → Leads g made ps → Ran g made ps
ran g ps (Err k) h = absurd (let e = h.leads in cc)
ran g [] (Ok s) h = record { state = s; runs = refl; gives = leads_end g s h }
ran g (q ∷ ps) (Ok s) h =
    let r : Ran g (take s q) ps = ran g ps (take s q) (piece_leads g s q ps h) in
    record { state = r.state; runs = r.runs; gives = r.gives }

-- what the end gives behind a step
abbrev pub ending : Goal → Step → Result Step Refusal
ending g made = goes made (λ n. Ok (g.last n))

goes_taken : (g : Goal) (ps : List Piece) → ((n : State) → onward g.last n ps ≡ ending g (run n ps)) → (made : Step) → goes made (λ n. onward g.last n ps) ≡ ending g (taken made (λ n. run n ps))
goes_taken g ps h (Ok n) = h n
goes_taken g ps h (Err k) = refl

onward_run : (g : Goal) (ps : List Piece) (s : State) → onward g.last s ps ≡ ending g (run s ps)
onward_run g [] s = refl
onward_run g (q ∷ ps) s = goes_taken g ps (λ n. onward_run g ps n) (take s q)

-- where a run goes on as from made, it leads where made does
pub leads_run : (g : Goal) (s : State) (ps rest : List Piece) (made : Step) → run s ps ≡ taken made (λ n. run n rest) → Leads g made rest → Leads g (Ok s) ps
leads_run g s ps rest made e h = record { leads = onward_run g ps s ∙ ap (ending g) e ∙ sym (goes_taken g rest (λ n. onward_run g rest n) made) ∙ h.leads }

-- runs that end at once
abbrev pub stops : Step → Goal
stops made = record { last = λ n. Ok n; final = made }

pub run_made : (s : State) (ps rest : List Piece) (made : Step) → Leads (stops made) (Ok s) ps → run s (ps ++ rest) ≡ taken made (λ n. run n rest)
run_made s ps rest made h =
    let r : Ran (stops made) (Ok s) ps = ran (stops made) ps (Ok s) h in
    run_append s ps rest ∙ ap (λ (z : Step). taken z (λ n. run n rest)) (r.runs ∙ r.gives)

pub reaches_run : (s : State) (fs : List Form) (ps rest : List Piece) (made : Step) → Reaches (stops made) (Ok s) fs [] → Fits fs ps → run s (ps ++ rest) ≡ taken made (λ n. run n rest)
reaches_run s fs ps rest made h f = run_made s ps rest made (leads_same (stops made) (Ok s) ps (ps ++ []) (sym (append-nil ps)) (h.reaches ps f))

-- the piece of a token
pub record TokenRead (k : TokenKind) (q : Piece) : Type 0 where
  pub place : ℕ
  pub line : Bool
  pub is : q ≡ Read (token place line k)

pub token_read : (k : TokenKind) (q : Piece) → IsWanted (Just k) false q → TokenRead k q
token_read k (Read t) w = record { place = t.place; line = t.after_line_end; is = ap (λ (z : TokenKind). Read (token t.place t.after_line_end z)) w.0 }
token_read k Ended w = absurd w
