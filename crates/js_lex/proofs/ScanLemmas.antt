-- The tokens one after another.
use Rattle.std.proofs.Common.{◌≡◌, ℕ, zero, suc, ◌+◌, ◌≤◌, Bool, false, ◌||◌, List, [], ◌∷◌, ◌++◌, drop, length, refl, sym, ap, ◌∙◌, append_assoc, arith}
use Rattle.std.specs.Prelude.{slice_index}
use Rattle.std.proofs.lemmas.List.{length-drop}
use Rattle.js_lex.specs.declared.token.Token.{Token}
use Rattle.js_lex.specs.declared.scan.Brace.{Brace}
use Rattle.js_lex.specs.declared.scan.State.{State}
use Rattle.js_lex.specs.declared.scan.Step.TheVariants as step
use Rattle.js_lex.specs.declared.front.Front.{Front}
use Rattle.js_lex.specs.declared.front.Front.TheVariants as front
use Rattle.js_lex.specs.Units.{Text}
use Rattle.js_lex.specs.Places.{in_hole, braces, token}
use Rattle.js_lex.specs.Front.{front_of, more_units}
use Rattle.js_lex.specs.Scan.{taken}
use Rattle.js_lex.proofs.Whole.{put, tokens_from}

pub from_drop : (k n : ℕ) (l : Bool) (bs : List Brace) (z : Text) → tokens_from k n l bs z ≡ tokens_from 0 n l bs (drop k z)
from_drop zero n l bs z = refl
from_drop (suc k) n l bs [] = refl
from_drop (suc k) n l bs (u ∷ z) = from_drop k n l bs z

-- the tokens with what is still to be read
abbrev pub whole : State → ℕ → Text → List Token
whole s k z = s.tokens ++ tokens_from k s.place s.after_line_end s.braces z

abbrev pub rest_of : Text → ℕ → ℕ → Bool → List Brace → List Token
rest_of z k n l bs = tokens_from k n l bs z

taken_goes : (s n : State) (f : Front) (z : Text) → taken s f ≡ step.Next n → whole n (more_units f) z ≡ s.tokens ++ put s.place s.after_line_end s.braces f (λ k m l bs. tokens_from k m l bs z)
taken_goes s n (front.Gap more ends) z h =
    let e : record { tokens = s.tokens; braces = s.braces; place = s.place + (1 + more); after_line_end = s.after_line_end || ends } ≡ n = cc in
    sym (ap (λ (m : State). whole m more z) e)
taken_goes s n (front.Token k more) z h =
    let e : record { tokens = s.tokens ++ token s.place s.after_line_end k ∷ []; braces = braces k s.braces; place = s.place + (1 + more); after_line_end = false } ≡ n = cc in
    sym (ap (λ (m : State). whole m more z) e) ∙ append_assoc s.tokens (token s.place s.after_line_end k ∷ []) (tokens_from more (s.place + (1 + more)) false (braces k s.braces) z)
taken_goes s n (front.Bad why) z h = cc

taken_place : (s n : State) (f : Front) → taken s f ≡ step.Next n → n.place ≡ s.place + (1 + more_units f)
taken_place s n (front.Gap more ends) h =
    let e : record { tokens = s.tokens; braces = s.braces; place = s.place + (1 + more); after_line_end = s.after_line_end || ends } ≡ n = cc in
    sym (ap (λ (m : State). m.place) e)
taken_place s n (front.Token k more) h =
    let e : record { tokens = s.tokens ++ token s.place s.after_line_end k ∷ []; braces = braces k s.braces; place = s.place + (1 + more); after_line_end = false } ≡ n = cc in
    sym (ap (λ (m : State). m.place) e)
taken_place s n (front.Bad why) h = cc

taken_stops : (s : State) (ts : List Token) (f : Front) (z : Text) → taken s f ≡ step.Stop ts → ts ≡ s.tokens ++ put s.place s.after_line_end s.braces f (λ k m l bs. tokens_from k m l bs z)
taken_stops s ts (front.Gap more ends) z h = cc
taken_stops s ts (front.Token k more) z h = cc
taken_stops s ts (front.Bad why) z h = cc

one_behind : (n : ℕ) → 1 + n ≡ suc n
one_behind n = omega arith

pub goes : (s n : State) (f : Front) (z : Text) (all : List Token) → 1 ≤ length z → f ≡ front_of (in_hole s.braces) (slice_index z 0) (drop 1 z) → taken s f ≡ step.Next n → whole s 0 z ≡ all → whole n 0 (drop (1 + more_units f) z) ≡ all
goes s n f [] all k e h w = absurd (omega (arith, k))
goes s n f (u ∷ z) all k e h w =
    ap (λ (m : ℕ). whole n 0 (drop m (u ∷ z))) (one_behind (more_units f))
    ∙ ap (λ (ts : List Token). n.tokens ++ ts) (sym (from_drop (more_units f) n.place n.after_line_end n.braces z))
    ∙ taken_goes s n f z h
    ∙ ap (λ (g : Front). s.tokens ++ put s.place s.after_line_end s.braces g (λ k m l bs. tokens_from k m l bs z)) e ∙ w

pub goes_place : (s n : State) (f : Front) (z : Text) (all : ℕ) → 1 + more_units f ≤ length z → taken s f ≡ step.Next n → s.place + length z ≡ all → n.place + length (drop (1 + more_units f) z) ≡ all
goes_place s n f z all k h e = omega (arith, k, taken_place s n f h, length-drop (1 + more_units f) z, e)

pub stops : (s : State) (ts : List Token) (f : Front) (z : Text) (all : List Token) → 1 ≤ length z → f ≡ front_of (in_hole s.braces) (slice_index z 0) (drop 1 z) → taken s f ≡ step.Stop ts → whole s 0 z ≡ all → ts ≡ all
stops s ts f [] all k e h w = absurd (omega (arith, k))
stops s ts f (u ∷ z) all k e h w =
    taken_stops s ts f z h ∙ ap (λ (g : Front). s.tokens ++ put s.place s.after_line_end s.braces g (λ k m l bs. tokens_from k m l bs z)) e ∙ w
