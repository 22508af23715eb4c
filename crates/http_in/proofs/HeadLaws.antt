-- Heads are read in one way alone, and what comes behind them changes nothing.
use Rattle.std.proofs.Common.{◌≡◌, ℕ, ◌+◌, ◌-◌, inl, inr, Bool, true, List, [], ◌∷◌, ◌++◌, length, take, refl, sym, ap, ◌∙◌, subst, arith, append_assoc, append-nil, length-append}
use Rattle.std.proofs.lemmas.List.{take-append-le, append_cancel_left}
use Rattle.std.proofs.lemmas.List.Elements.{All-head, All-tail, All-cons, All-nil}
use Rattle.httparse.specs.Grammar.{LineEnd, lf, print_end, print_blank, print_version, print_section, IsField, AllPass, is_uri_byte, is_token_byte, IsToken, RequestHead, print_request, ReadsRequest, HasNoRequest, MayBecomeRequest, EndsInTarget}
use Rattle.httparse.proofs.GrammarLemmas.{request_unique, ReadsRequest-append, print_request-append}
use Rattle.httparse.proofs.OpenLemmas.{some_target, letter_is_token}
use Rattle.http_message.specs.declared.extent.Refusal.{Refusal}
use Rattle.http_message.specs.declared.extent.Refusal.TheVariants as refusal
use Rattle.http_message.specs.Limits.{max_head}
use Rattle.http_message.proofs.TrailerLaws.{fronts, grown, front_fits}
use Rattle.http_in.specs.Head.{ReadsHead, RefusesHead, window}

-- a head with these empty lines and this method
abbrev head_of : List LineEnd → List ℕ → RequestHead
head_of blank method = record { blank = blank; method = method; target = some_target.tree; minor = 1; line_end = lf; fields = []; last = lf }

-- what stands behind its method
abbrev behind_method : List ℕ
behind_method = 32 ∷ (some_target.tree ++ 32 ∷ (print_version 1 ++ (print_end lf ++ (print_section [] lf ++ []))))

-- bytes that end before the target begin a head
pub may_cut : (blank : List LineEnd) (method w more : List ℕ) → IsToken method → print_blank blank ++ method ≡ w ++ more → MayBecomeRequest w
may_cut blank method w more tok e =
    let t = some_target.reads [] in
    inl (
      more ++ behind_method,
      head_of blank method,
      (
        record { method = tok; target = (t.0.0, t.0.1); target_text = t.1; minor = omega arith; fields = All-nil IsField },
        sym (append_assoc w more behind_method) ∙ ap (λ z. z ++ behind_method) (sym e) ∙ append_assoc (print_blank blank) method behind_method ∙ sym (print_request-append (head_of blank method) []),
      ),
    )

all_front : (test : ℕ → Bool) (xs ys : List ℕ) → AllPass test (xs ++ ys) → AllPass test xs
all_front test [] ys all = All-nil (λ b. test b ≡ true)
all_front test (x ∷ xs) ys all = All-cons (λ b. test b ≡ true) x xs (All-head (λ b. test b ≡ true) x (xs ++ ys) all) (all_front test xs ys (All-tail (λ b. test b ≡ true) x (xs ++ ys) all))

-- a front of bytes that end in a target may become a head
target_before : (w y : List ℕ) → EndsInTarget (w ++ y) → MayBecomeRequest w
target_before w y (blank, method, target, tok, pass, e) =
    let whole : w ++ y ≡ (print_blank blank ++ method) ++ 32 ∷ target = e in
    elim (fronts w (print_blank blank ++ method) y (32 ∷ target) whole) [
      | inl l ↦ may_cut blank method w l.more tok l.is
      | inr l ↦ inside l.more l.is (append_cancel_left (print_blank blank ++ method) (l.more ++ y) (32 ∷ target) (sym (append_assoc (print_blank blank ++ method) l.more y) ∙ ap (λ z. z ++ y) (sym l.is) ∙ whole))
    ]
  where
    inside : (more : List ℕ) → w ≡ (print_blank blank ++ method) ++ more → more ++ y ≡ 32 ∷ target → MayBecomeRequest w
    inside [] is s = may_cut blank method w [] tok (sym (append-nil (print_blank blank ++ method)) ∙ sym is ∙ sym (append-nil w))
    inside (b ∷ more) is s =
        let first : b ≡ 32 = cc in
        let rest : more ++ y ≡ target = cc in
        inr (
          blank,
          method,
          more,
          tok,
          all_front is_uri_byte more y (subst (AllPass is_uri_byte) (sym rest) pass),
          is ∙ ap (λ z. (print_blank blank ++ method) ++ z ∷ more) first,
        )

may_less : (w y : List ℕ) → MayBecomeRequest (w ++ y) → MayBecomeRequest w
may_less w y (inl (more, h, x)) = inl (y ++ more, h, subst (λ t. ReadsRequest t h []) (append_assoc w y more) x)
may_less w y (inr ends) = target_before w y ends

none_more : (w y : List ℕ) → HasNoRequest w → (MayBecomeRequest w → ⊥) → HasNoRequest (w ++ y)
none_more w y none may h r x =
    elim (fronts w (print_request h) y r x.1) [
      | inl l ↦ may (inl (l.more, h, (x.0, sym l.is ∙ sym (append-nil (print_request h)))))
      | inr l ↦ none h l.more (x.0, l.is)
    ]

pub head_more : (b : List ℕ) (h : RequestHead) (r more : List ℕ) → ReadsHead b h r → ReadsHead (b ++ more) h (r ++ more)
head_more b h r more x = record { reads = ReadsRequest-append b h r more x.reads; fits = x.fits }

pub head_unique : (b : List ℕ) (h k : RequestHead) (r q : List ℕ) → ReadsHead b h r → ReadsHead b k q → (h ≡ k) × (r ≡ q)
head_unique b h k r q x y = request_unique b h k r q x.reads y.reads

-- a head that fits stands in the window
pub head_seen : (b : List ℕ) (h : RequestHead) (r : List ℕ) → ReadsHead b h r → HasNoRequest (window b) → ⊥
head_seen b h r x none = none h (take (max_head - length (print_request h)) r) (x.reads.0, front_fits max_head (print_request h) r b x.reads.1 x.fits)

pub refused_head_more : (b more : List ℕ) (why : Refusal) → RefusesHead b why → RefusesHead (b ++ more) why
refused_head_more b more refusal.Malformed (none, may) =
    let g = grown max_head b more in (
      subst HasNoRequest (sym g.is) (none_more (window b) g.behind none may),
      λ m. may (may_less (window b) g.behind (subst MayBecomeRequest g.is m)),
    )
refused_head_more b more refusal.TooLarge (full, none, may) =
    let e : window b ≡ window (b ++ more) = sym (take-append-le max_head b more full) in
    let l : length (b ++ more) ≡ length b + length more = length-append b more in
    (omega (arith, full, l), subst HasNoRequest e none, subst MayBecomeRequest e may)

pub head_refused : (b : List ℕ) (h : RequestHead) (r : List ℕ) (why : Refusal) → ReadsHead b h r → RefusesHead b why → ⊥
head_refused b h r refusal.Malformed x (none, may) = head_seen b h r x none
head_refused b h r refusal.TooLarge x (full, none, may) = head_seen b h r x none

pub refused_head_unique : (b : List ℕ) (why why' : Refusal) → RefusesHead b why → RefusesHead b why' → why ≡ why'
refused_head_unique b refusal.Malformed refusal.Malformed x y = refl
refused_head_unique b refusal.TooLarge refusal.TooLarge x y = refl
refused_head_unique b refusal.Malformed refusal.TooLarge (none, never) (full, none', may) = absurd (never may)
refused_head_unique b refusal.TooLarge refusal.Malformed (full, none', may) (none, never) = absurd (never may)

-- no bytes are no head, and may become one
pub nothing_begins : (h : RequestHead) (r : List ℕ) → ReadsHead [] h r → ⊥
nothing_begins h r x =
    let e : [] ≡ print_blank h.blank ++ (h.method ++ 32 ∷ (h.target ++ 32 ∷ (print_version h.minor ++ (print_end h.line_end ++ (print_section h.fields h.last ++ r))))) = x.reads.1 ∙ print_request-append h r in
    let l : 0 ≡ length (print_blank h.blank ++ (h.method ++ 32 ∷ (h.target ++ 32 ∷ (print_version h.minor ++ (print_end h.line_end ++ (print_section h.fields h.last ++ r)))))) = ap length e in
    let a = length-append (print_blank h.blank) (h.method ++ 32 ∷ (h.target ++ 32 ∷ (print_version h.minor ++ (print_end h.line_end ++ (print_section h.fields h.last ++ r))))) in
    let b = length-append h.method (32 ∷ (h.target ++ 32 ∷ (print_version h.minor ++ (print_end h.line_end ++ (print_section h.fields h.last ++ r))))) in
    omega (arith, l, a, b)

pub nothing_may : MayBecomeRequest []
nothing_may = may_cut [] (65 ∷ []) [] (65 ∷ []) (omega arith, All-cons (λ b. is_token_byte b ≡ true) 65 [] letter_is_token (All-nil (λ b. is_token_byte b ≡ true))) refl

pub nothing_refused : (why : Refusal) → RefusesHead [] why → ⊥
nothing_refused refusal.Malformed (none, may) = may nothing_may
nothing_refused refusal.TooLarge (full, none, may) = omega (arith, full)
