-- Heads of a response are read in one way alone, and what comes behind them changes nothing.
use Rattle.std.proofs.Common.{◌≡◌, ℕ, zero, suc, ◌+◌, ◌-◌, ◌<◌, ◌≤◌, inl, inr, Bool, List, [], ◌∷◌, ◌++◌, length, take, refl, sym, ap, ◌∙◌, subst, arith, append_assoc, append-nil, length-append, Result, Ok, Err}
use Rattle.std.proofs.lemmas.List.{take-append-le}
use Rattle.httparse.specs.Grammar.{ResponseHead, print_response, print_blank, print_version, print_reason, print_end, print_section, ReadsResponse, HasNoResponse, MayBecomeResponse}
use Rattle.httparse.proofs.GrammarLemmas.{response_unique, ReadsResponse-append, print_response-append}
use Rattle.http_message.specs.declared.extent.Refusal.{Refusal}
use Rattle.http_message.specs.declared.extent.Refusal.TheVariants as refusal
use Rattle.http_message.specs.Limits.{max_head}
use Rattle.http_message.proofs.TrailerLaws.{fronts, grown, front_fits}
use Rattle.http_response.specs.declared.reach.Told.{Told}
use Rattle.http_response.specs.Head.{ReadsHead, RefusesHead, ReadsTelling, told_of, window, front}

-- ---- bytes that may become a head

pub may_less : (w y : List ℕ) → MayBecomeResponse (w ++ y) → MayBecomeResponse w
may_less w y (more, h, x) = (y ++ more, h, subst (λ t. ReadsResponse t h []) (append_assoc w y more) x)

pub none_more : (w y : List ℕ) → HasNoResponse w → (MayBecomeResponse w → ⊥) → HasNoResponse (w ++ y)
none_more w y none may h r x =
    elim (fronts w (print_response h) y r x.1) [
      | inl l ↦ may (l.more, h, (x.0, sym l.is ∙ sym (append-nil (print_response h))))
      | inr l ↦ none h l.more (x.0, l.is)
    ]

pub none_less : (w y : List ℕ) → HasNoResponse (w ++ y) → HasNoResponse w
none_less w y none h r x = none h (r ++ y) (ReadsResponse-append w h r y x)

-- so many first bytes, and those that are more
pub record TakesMore (n m : ℕ) (b : List ℕ) : Type 0 where
  pub more : List ℕ
  pub is : take n b ≡ take m b ++ more

takes_next : (n : ℕ) (b : List ℕ) → TakesMore (suc n) n b
takes_next zero b = record { more = take 1 b; is = refl }
takes_next (suc n) [] = record { more = []; is = refl }
takes_next (suc n) (x ∷ b) = let r = takes_next n b in record { more = r.more; is = ap (λ t. x ∷ t) r.is }

pub takes_front : (n : ℕ) (b : List ℕ) → TakesMore n (n - 1) b
takes_front zero b = record { more = []; is = refl }
takes_front (suc n) b = let e : n ≡ suc n - 1 = omega arith in subst (λ m. TakesMore (suc n) m b) e (takes_next n b)

pub may_front : (before : ℕ) (b : List ℕ) → MayBecomeResponse (window before b) → MayBecomeResponse (front before b)
may_front before b m = let f = takes_front (max_head - before) b in may_less (front before b) f.more (subst MayBecomeResponse f.is m)

pub none_front : (before : ℕ) (b : List ℕ) → HasNoResponse (window before b) → HasNoResponse (front before b)
none_front before b n = let f = takes_front (max_head - before) b in none_less (front before b) f.more (subst HasNoResponse f.is n)

-- ---- heads

-- a head has a byte or more
pub head_long : (h : ResponseHead) → 0 < length (print_response h)
head_long h =
    let behind = print_end h.line_end ++ (print_section h.fields h.last ++ []) in
    let e : length (print_response h ++ []) ≡ length (print_blank h.blank ++ (print_version h.minor ++ 32 ∷ (h.digits ++ (print_reason h.reason ++ behind)))) = ap length (print_response-append h []) in
    let l = length-append (print_response h) [] in
    let a = length-append (print_blank h.blank) (print_version h.minor ++ 32 ∷ (h.digits ++ (print_reason h.reason ++ behind))) in
    let b = length-append (print_version h.minor) (32 ∷ (h.digits ++ (print_reason h.reason ++ behind))) in
    omega (arith, e, l, a, b)

pub head_more : (n : ℕ) (b : List ℕ) (h : ResponseHead) (r more : List ℕ) → ReadsHead n b h r → ReadsHead n (b ++ more) h (r ++ more)
head_more n b h r more x = record { reads = ReadsResponse-append b h r more x.reads; fits = x.fits }

pub head_unique : (n : ℕ) (b : List ℕ) (h k : ResponseHead) (r q : List ℕ) → ReadsHead n b h r → ReadsHead n b k q → (h ≡ k) × (r ≡ q)
head_unique n b h k r q x y = response_unique b h k r q x.reads y.reads

-- a head that fits stands in the window
pub head_seen : (n : ℕ) (b : List ℕ) (h : ResponseHead) (r : List ℕ) → ReadsHead n b h r → HasNoResponse (window n b) → ⊥
head_seen n b h r x none =
    let fits = x.fits in
    let room : length (print_response h) ≤ max_head - n = omega (arith, fits) in
    none h (take (max_head - n - length (print_response h)) r) (x.reads.0, front_fits (max_head - n) (print_response h) r b x.reads.1 room)

-- where the bytes before the window's last place hold no head and become none, none stands in the window
head_last : (n : ℕ) (b : List ℕ) (h : ResponseHead) (r : List ℕ) → ReadsHead n b h r → HasNoResponse (front n b) → (MayBecomeResponse (front n b) → ⊥) → ⊥
head_last n b h r x none may =
    let f = takes_front (max_head - n) b in
    head_seen n b h r x (subst HasNoResponse (sym f.is) (none_more (front n b) f.more none may))

pub refused_head_more : (n : ℕ) (b more : List ℕ) (why : Refusal) → RefusesHead n b why → RefusesHead n (b ++ more) why
refused_head_more n b more refusal.Malformed (none, may) =
    let g = grown (max_head - n - 1) b more in (
      subst HasNoResponse (sym g.is) (none_more (front n b) g.behind none may),
      λ m. may (may_less (front n b) g.behind (subst MayBecomeResponse g.is m)),
    )
refused_head_more n b more refusal.TooLarge (full, none, may) =
    let l : length (b ++ more) ≡ length b + length more = length-append b more in
    let e : window n b ≡ window n (b ++ more) = sym (take-append-le (max_head - n) b more (omega (arith, full))) in
    let f : front n b ≡ front n (b ++ more) = sym (take-append-le (max_head - n - 1) b more (omega (arith, full))) in
    (omega (arith, full, l), subst HasNoResponse e none, subst MayBecomeResponse f may)

pub head_refused : (n : ℕ) (b : List ℕ) (h : ResponseHead) (r : List ℕ) (why : Refusal) → ReadsHead n b h r → RefusesHead n b why → ⊥
head_refused n b h r refusal.Malformed x (none, may) = head_last n b h r x none may
head_refused n b h r refusal.TooLarge x (full, none, may) = head_seen n b h r x none

pub refused_head_unique : (n : ℕ) (b : List ℕ) (why why' : Refusal) → RefusesHead n b why → RefusesHead n b why' → why ≡ why'
refused_head_unique n b refusal.Malformed refusal.Malformed x y = refl
refused_head_unique n b refusal.TooLarge refusal.TooLarge x y = refl
refused_head_unique n b refusal.Malformed refusal.TooLarge (none, never) (full, none', may) = absurd (never may)
refused_head_unique n b refusal.TooLarge refusal.Malformed (full, none', may) (none, never) = absurd (never may)

-- ---- a head and what it tells

ok_is : (a b : Told) → ◌≡◌ {A = Result Told Refusal} (Ok a) (Ok b) → a ≡ b
ok_is a b e = cc

err_is : (a b : Refusal) → ◌≡◌ {A = Result Told Refusal} (Err a) (Err b) → a ≡ b
err_is a b e = cc

ok_err : (a : Told) (b : Refusal) → ◌≡◌ {A = Result Told Refusal} (Ok a) (Err b) → ⊥
ok_err a b e = cc

-- what two readings of one head share
pub record SameTold (h h' : ResponseHead) (w w' : Told) (r r' : List ℕ) : Type 0 where
  pub head : h ≡ h'
  pub what : w ≡ w'
  pub left : r ≡ r'

pub told_unique : (to : Bool) (n : ℕ) (b : List ℕ) (h h' : ResponseHead) (w w' : Told) (r r' : List ℕ) → ReadsTelling to n b h w r → ReadsTelling to n b h' w' r' → SameTold h h' w w' r r'
told_unique to n b h h' w w' r r' x y =
    let u = head_unique n b h h' r r' x.reads y.reads in
    record { head = u.0; what = ok_is w w' (sym x.tells ∙ ap (told_of to) u.0 ∙ y.tells); left = u.1 }

pub told_more : (to : Bool) (n : ℕ) (b : List ℕ) (h : ResponseHead) (w : Told) (r more : List ℕ) → ReadsTelling to n b h w r → ReadsTelling to n (b ++ more) h w (r ++ more)
told_more to n b h w r more x = record { reads = head_more n b h r more x.reads; tells = x.tells }

-- a head that tells something is not refused
pub told_refused : (to : Bool) (n : ℕ) (b : List ℕ) (h k : ResponseHead) (w : Told) (r q : List ℕ) (why : Refusal) → ReadsTelling to n b h w r → ReadsHead n b k q → told_of to k ≡ Err why → ⊥
told_refused to n b h k w r q why x y e =
    let u = head_unique n b h k r q x.reads y in
    ok_err w why (sym x.tells ∙ ap (told_of to) u.0 ∙ e)

-- two refusals of one head are one
pub untold_unique : (to : Bool) (n : ℕ) (b : List ℕ) (h k : ResponseHead) (r q : List ℕ) (why why' : Refusal) → ReadsHead n b h r → told_of to h ≡ Err why → ReadsHead n b k q → told_of to k ≡ Err why' → why ≡ why'
untold_unique to n b h k r q why why' x e y e' =
    let u = head_unique n b h k r q x y in
    err_is why why' (sym e ∙ ap (told_of to) u.0 ∙ e')
