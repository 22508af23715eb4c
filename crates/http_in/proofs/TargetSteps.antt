-- The places behind bytes say whether they end within a target.
use Rattle.std.proofs.Common.{◌≡◌, ◌≢◌, ℕ, ◌==◌, Bool, true, false, cond, List, [], ◌∷◌, ◌++◌, refl, sym, ap, ◌∙◌, subst, arith, append_assoc}
use Rattle.std.proofs.lemmas.Bool.{false≢true, ne_eqb, eqb-true}
use Rattle.std.proofs.lemmas.List.Elements.{All-head, All-tail, All-cons, All-nil}
use Rattle.httparse.specs.Grammar.{LineEnd, crlf, lf, print_end, print_blank, AllPass, is_uri_byte, is_token_byte, IsToken, EndsInTarget}
use Rattle.httparse.proofs.PieceLemmas.{space_ends_token}
use Rattle.http_in.specs.declared.target.Place.TheVariants as place
use Rattle.http_in.specs.Target.{in_method, in_target, step, place_after}

-- ---- from the form to the places

target_step : (c : ℕ) → is_uri_byte c ≡ true → in_target c ≡ place.Target
target_step c e = rw e refl

after_target : (t : List ℕ) → AllPass is_uri_byte t → place_after place.Target t ≡ place.Target
after_target [] all = refl
after_target (b ∷ t) all = ap (λ p. place_after p t) (target_step b (All-head (λ v. is_uri_byte v ≡ true) b t all)) ∙ after_target t (All-tail (λ v. is_uri_byte v ≡ true) b t all)

token_step : (b : ℕ) → is_token_byte b ≡ true → in_method b ≡ place.Method
token_step b e = rw e refl

not_space : (b : ℕ) → is_token_byte b ≡ true → b ≢ 32
not_space b e s = false≢true (sym space_ends_token ∙ ap is_token_byte (sym s) ∙ e)

method_step : (b : ℕ) → is_token_byte b ≡ true → step place.Method b ≡ place.Method
method_step b e = ap (λ c. cond c place.Target (in_method b)) (ne_eqb b 32 (not_space b e)) ∙ token_step b e

after_method : (m t : List ℕ) → AllPass is_token_byte m → place_after place.Method (m ++ 32 ∷ t) ≡ place_after place.Target t
after_method [] t all = refl
after_method (b ∷ m) t all = ap (λ p. place_after p (m ++ 32 ∷ t)) (method_step b (All-head (λ v. is_token_byte v ≡ true) b m all)) ∙ after_method m t (All-tail (λ v. is_token_byte v ≡ true) b m all)

after_blank : (ends : List LineEnd) (rest : List ℕ) → place_after place.Start (print_blank ends ++ rest) ≡ place_after place.Start rest
after_blank [] rest = refl
after_blank (crlf ∷ ends) rest = after_blank ends rest
after_blank (lf ∷ ends) rest = after_blank ends rest

-- ---- from the places to the form

-- the bytes are a method, a space and a target
pub record IsMethodAndTarget (bytes : List ℕ) : Type 0 where
  pub method : List ℕ
  pub target : List ℕ
  pub token : AllPass is_token_byte method
  pub uri : AllPass is_uri_byte target
  pub is : bytes ≡ method ++ 32 ∷ target

other_stays : (t : List ℕ) → place_after place.Other t ≡ place.Target → ⊥
other_stays [] e = cc
other_stays (b ∷ t) e = other_stays t e

target_cases : (b : ℕ) (t : List ℕ) (c : Bool) → is_uri_byte b ≡ c → (place_after place.Target t ≡ place.Target → AllPass is_uri_byte t) → place_after (cond c place.Target place.Other) t ≡ place.Target → AllPass is_uri_byte (b ∷ t)
target_cases b t true e more h = All-cons (λ v. is_uri_byte v ≡ true) b t e (more h)
target_cases b t false e more h = absurd (other_stays t h)

target_back : (t : List ℕ) → place_after place.Target t ≡ place.Target → AllPass is_uri_byte t
target_back [] e = All-nil (λ v. is_uri_byte v ≡ true)
target_back (b ∷ t) e = target_cases b t (is_uri_byte b) refl (target_back t) e

token_cases : (b : ℕ) (t : List ℕ) (c : Bool) → is_token_byte b ≡ c → (place_after place.Method t ≡ place.Target → IsMethodAndTarget t) → place_after (cond c place.Method place.Other) t ≡ place.Target → IsMethodAndTarget (b ∷ t)
token_cases b t true e more h =
    let r = more h in
    record { method = b ∷ r.method; target = r.target; token = All-cons (λ v. is_token_byte v ≡ true) b r.method e r.token; uri = r.uri; is = ap (λ z. b ∷ z) r.is }
token_cases b t false e more h = absurd (other_stays t h)

space_cases : (b : ℕ) (t : List ℕ) (c : Bool) → (b == 32) ≡ c → (place_after place.Method t ≡ place.Target → IsMethodAndTarget t) → place_after (cond c place.Target (in_method b)) t ≡ place.Target → IsMethodAndTarget (b ∷ t)
space_cases b t true e more h = record { method = []; target = t; token = All-nil (λ v. is_token_byte v ≡ true); uri = target_back t h; is = ap (λ z. z ∷ t) (eqb-true b 32 e) }
space_cases b t false e more h = token_cases b t (is_token_byte b) refl more h

method_back : (t : List ℕ) → place_after place.Method t ≡ place.Target → IsMethodAndTarget t
method_back [] e = cc
method_back (b ∷ t) e = space_cases b t (b == 32) refl (method_back t) e

begin_cases : (b : ℕ) (t : List ℕ) (c : Bool) → is_token_byte b ≡ c → place_after (cond c place.Method place.Other) t ≡ place.Target → EndsInTarget (b ∷ t)
begin_cases b t true e h =
    let r = method_back t h in
    ([], b ∷ r.method, r.target, (omega arith, All-cons (λ v. is_token_byte v ≡ true) b r.method e r.token), r.uri, ap (λ z. b ∷ z) r.is)
begin_cases b t false e h = absurd (other_stays t h)

blank_more : (end : LineEnd) (t : List ℕ) → EndsInTarget t → EndsInTarget (print_end end ++ t)
blank_more end t (blank, method, target, tok, uri, e) = (end ∷ blank, method, target, tok, uri, ap (λ z. print_end end ++ z) e ∙ sym (append_assoc (print_end end) (print_blank blank ++ method) (32 ∷ target)) ∙ ap (λ z. z ++ 32 ∷ target) (sym (append_assoc (print_end end) (print_blank blank) method)))

lf_cases : (b : ℕ) (t : List ℕ) (c : Bool) → (b == 10) ≡ c → (place_after place.Start t ≡ place.Target → EndsInTarget t) → place_after (cond c place.Start (in_method b)) t ≡ place.Target → EndsInTarget (b ∷ t)
lf_cases b t true e more h = subst (λ z. EndsInTarget (z ∷ t)) (sym (eqb-true b 10 e)) (blank_more lf t (more h))
lf_cases b t false e more h = begin_cases b t (is_token_byte b) refl h

crlf_cases : (b c : ℕ) (t : List ℕ) (d : Bool) → b ≡ 13 → (c == 10) ≡ d → (place_after place.Start t ≡ place.Target → EndsInTarget t) → place_after (cond d place.Start place.Other) t ≡ place.Target → EndsInTarget (b ∷ c ∷ t)
crlf_cases b c t true is e more h = subst (λ z. EndsInTarget (z ∷ c ∷ t)) (sym is) (subst (λ z. EndsInTarget (13 ∷ z ∷ t)) (sym (eqb-true c 10 e)) (blank_more crlf t (more h)))
crlf_cases b c t false is e more h = absurd (other_stays t h)

cr_one : (b : ℕ) (c : Bool) → (b == 13) ≡ c → place_after (cond c place.Cr (cond (b == 10) place.Start (in_method b))) [] ≡ place.Target → EndsInTarget (b ∷ [])
cr_one b true e h = cc
cr_one b false e h = lf_cases b [] (b == 10) refl (λ x. cc) h

cr_cases : (b c : ℕ) (t : List ℕ) (d : Bool) → (b == 13) ≡ d → (place_after place.Start t ≡ place.Target → EndsInTarget t) → (place_after place.Start (c ∷ t) ≡ place.Target → EndsInTarget (c ∷ t))
    → place_after (cond d place.Cr (cond (b == 10) place.Start (in_method b))) (c ∷ t) ≡ place.Target → EndsInTarget (b ∷ c ∷ t)
cr_cases b c t true e behind next h = crlf_cases b c t (c == 10) (eqb-true b 13 e) refl behind h
cr_cases b c t false e behind next h = lf_cases b (c ∷ t) (b == 10) refl next h

pub ends_from_place : (t : List ℕ) → place_after place.Start t ≡ place.Target → EndsInTarget t
ends_from_place [] e = cc
ends_from_place (b ∷ []) e = cr_one b (b == 13) refl e
ends_from_place (b ∷ c ∷ t) e = cr_cases b c t (b == 13) refl (ends_from_place t) (ends_from_place (c ∷ t)) e

newline_is_no_token : (b n : ℕ) → is_token_byte b ≡ true → is_token_byte n ≡ false → b ≢ n
newline_is_no_token b n e f s = false≢true (sym f ∙ ap is_token_byte (sym s) ∙ e)

cr_ends_token : is_token_byte 13 ≡ false
unfolding is_token_byte
cr_ends_token = refl

lf_ends_token : is_token_byte 10 ≡ false
unfolding is_token_byte
lf_ends_token = refl

start_step : (b : ℕ) → is_token_byte b ≡ true → step place.Start b ≡ place.Method
start_step b e = ap (λ c. cond c place.Cr (cond (b == 10) place.Start (in_method b))) (ne_eqb b 13 (newline_is_no_token b 13 e cr_ends_token)) ∙ ap (λ c. cond c place.Start (in_method b)) (ne_eqb b 10 (newline_is_no_token b 10 e lf_ends_token)) ∙ token_step b e

after_start : (m t : List ℕ) → IsToken m → AllPass is_uri_byte t → place_after place.Start (m ++ 32 ∷ t) ≡ place.Target
after_start [] t tok uri = absurd (omega (arith, tok.0))
after_start (b ∷ m) t tok uri =
    ap (λ p. place_after p (m ++ 32 ∷ t)) (start_step b (All-head (λ v. is_token_byte v ≡ true) b m tok.1))
    ∙ after_method m t (All-tail (λ v. is_token_byte v ≡ true) b m tok.1) ∙ after_target t uri

pub place_from_ends : (t : List ℕ) → EndsInTarget t → place_after place.Start t ≡ place.Target
place_from_ends t (blank, method, target, tok, uri, e) = ap (place_after place.Start) (e ∙ append_assoc (print_blank blank) method (32 ∷ target)) ∙ after_blank blank (method ++ 32 ∷ target) ∙ after_start method target tok uri
