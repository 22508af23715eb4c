-- The stream goes on, and is read in one way alone.
use Rattle.std.proofs.Common.{◌≡◌, ℕ, List, [], ◌∷◌, ◌++◌, refl, ap, ap₂, sym, ◌∙◌, subst, Bool, true, false, ◌||◌, Option, Some, None, Result, Ok, Err, ◌⊎◌, inl, inr}
use Rattle.std.proofs.lemmas.Bool.{false≢true}
use Rattle.httparse.specs.Grammar.{RequestHead}
use Rattle.http_message.specs.declared.extent.Refusal.{Refusal}
use Rattle.http_message.specs.Fields.{closes}
use Rattle.wd_base.specs.declared.http.ReqData.{ReqData}
use Rattle.http_in.specs.Head.{Asked, asked, pairs_of}
use Rattle.http_in.specs.Stream.{ReadsBody, RefusesBody, ReadsAsked, Reads, Refuses, RefusesAsked, RefusesBehind, IsFault, IsUnfinished, status_of, request_of, Requests, ReadsAll, closing, EndsAs, RequestsOf}
use Rattle.http_in.proofs.HeadLaws.{head_more, head_unique, head_refused, refused_head_more, refused_head_unique, nothing_begins, nothing_refused}
use Rattle.http_in.proofs.BodyLaws.{body_more, body_unique, body_refused, refused_body_more, refused_body_unique}

-- ---- a head and what it asks

ok_is : (a b : Asked) → ◌≡◌ {A = Result Asked Refusal} (Ok a) (Ok b) → a ≡ b
ok_is a b e = cc

err_is : (a b : Refusal) → ◌≡◌ {A = Result Asked Refusal} (Err a) (Err b) → a ≡ b
err_is a b e = cc

ok_err : (a : Asked) (b : Refusal) → ◌≡◌ {A = Result Asked Refusal} (Ok a) (Err b) → ⊥
ok_err a b e = cc

-- what two readings of one head share
pub record SameAsked (h h' : RequestHead) (w w' : Asked) (r r' : List ℕ) : Type 0 where
  pub head : h ≡ h'
  pub what : w ≡ w'
  pub left : r ≡ r'

pub asked_unique : (b : List ℕ) (h h' : RequestHead) (w w' : Asked) (r r' : List ℕ) → ReadsAsked b h w r → ReadsAsked b h' w' r' → SameAsked h h' w w' r r'
asked_unique b h h' w w' r r' x y =
    let u = head_unique b h h' r r' x.reads y.reads in
    record { head = u.0; what = ok_is w w' (sym x.asks ∙ ap asked u.0 ∙ y.asks); left = u.1 }

pub asked_more : (b : List ℕ) (h : RequestHead) (w : Asked) (r more : List ℕ) → ReadsAsked b h w r → ReadsAsked (b ++ more) h w (r ++ more)
asked_more b h w r more x = record { reads = head_more b h r more x.reads; asks = x.asks }

pub asked_refused : (b : List ℕ) (h : RequestHead) (w : Asked) (r : List ℕ) (why : Refusal) → ReadsAsked b h w r → RefusesAsked b why → ⊥
asked_refused b h w r why x y =
    let u = head_unique b h y.head r y.rest x.reads y.reads in
    ok_err w why (sym x.asks ∙ ap asked u.0 ∙ y.refuses)

-- ---- requests

pub reads_more : (b : List ℕ) (r : ReqData) (c : Bool) (rest m : List ℕ) → Reads b r c rest → Reads (b ++ m) r c (rest ++ m)
reads_more b r c rest m x = record {
  head = x.head;
  what = x.what;
  behind = x.behind ++ m;
  body = x.body;
  asks = asked_more b x.head x.what x.behind m x.asks;
  reads = body_more x.what.1 x.behind x.body rest m x.reads;
  made = x.made;
  closing = x.closing;
}

-- what two readings of the same bytes share
pub record SameRead (r r' : ReqData) (c c' : Bool) (rest rest' : List ℕ) : Type 0 where
  pub request : r ≡ r'
  pub close : c ≡ c'
  pub left : rest ≡ rest'

pub reads_unique : (b : List ℕ) (r r' : ReqData) (c c' : Bool) (rest rest' : List ℕ) → Reads b r c rest → Reads b r' c' rest' → SameRead r r' c c' rest rest'
reads_unique b r r' c c' rest rest' x y =
    let u = asked_unique b x.head y.head x.what y.what x.behind y.behind x.asks y.asks in
    let z : ReadsBody x.what.1 x.behind y.body rest' = subst (λ t. ReadsBody x.what.1 t y.body rest') (sym u.left) (subst (λ w. ReadsBody w.1 y.behind y.body rest') (sym u.what) y.reads) in
    let v = body_unique x.what.1 x.behind x.body y.body rest rest' x.reads z in
    let heads : request_of x.head x.what.0 x.body ≡ request_of y.head x.what.0 x.body = ap (λ h. request_of h x.what.0 x.body) u.head in
    let urls : request_of y.head x.what.0 x.body ≡ request_of y.head y.what.0 x.body = ap (λ w. request_of y.head w.0 x.body) u.what in
    let bodies : request_of y.head y.what.0 x.body ≡ request_of y.head y.what.0 y.body = ap (λ t. request_of y.head y.what.0 t) v.0 in
    record {
      request = x.made ∙ heads ∙ urls ∙ bodies ∙ sym y.made;
      close = x.closing ∙ ap (λ h. closes h.minor (pairs_of h)) u.head ∙ sym y.closing;
      left = v.1;
    }

-- ---- refusals

pub refuses_more : (b m : List ℕ) (why : Refusal) → Refuses b why → Refuses (b ++ m) why
refuses_more b m why (inl head) = inl (refused_head_more b m why head)
refuses_more b m why (inr (inl x)) = inr (inl (record { head = x.head; rest = x.rest ++ m; reads = head_more b x.head x.rest m x.reads; refuses = x.refuses }))
refuses_more b m why (inr (inr x)) = inr (inr (record { head = x.head; what = x.what; behind = x.behind ++ m; asks = asked_more b x.head x.what x.behind m x.asks; refuses = refused_body_more x.what.1 x.behind m why x.refuses }))

pub body_at : (b : List ℕ) (why : Refusal) (h : RequestHead) (w : Asked) (behind : List ℕ) → ReadsAsked b h w behind → (x : RefusesBehind b why) → RefusesBody w.1 behind why
body_at b why h w behind asks x =
    let u = asked_unique b h x.head w x.what behind x.behind asks x.asks in
    subst (λ t. RefusesBody w.1 t why) (sym u.left) (subst (λ v. RefusesBody v.1 x.behind why) (sym u.what) x.refuses)

pub refuses_reads : (b : List ℕ) (why : Refusal) (r : ReqData) (c : Bool) (rest : List ℕ) → Refuses b why → Reads b r c rest → ⊥
refuses_reads b why r c rest (inl head) x = head_refused b x.head x.behind why x.asks.reads head
refuses_reads b why r c rest (inr (inl y)) x = asked_refused b x.head x.what x.behind why x.asks y
refuses_reads b why r c rest (inr (inr y)) x = body_refused x.what.1 x.behind x.body rest why x.reads (body_at b why x.head x.what x.behind x.asks y)

pub refuses_unique : (b : List ℕ) (why why' : Refusal) → Refuses b why → Refuses b why' → why ≡ why'
refuses_unique b why why' (inl x) (inl y) = refused_head_unique b why why' x y
refuses_unique b why why' (inl x) (inr (inl y)) = absurd (head_refused b y.head y.rest why y.reads x)
refuses_unique b why why' (inl x) (inr (inr y)) = absurd (head_refused b y.head y.behind why y.asks.reads x)
refuses_unique b why why' (inr (inl x)) (inl y) = absurd (head_refused b x.head x.rest why' x.reads y)
refuses_unique b why why' (inr (inl x)) (inr (inl y)) = let u = head_unique b x.head y.head x.rest y.rest x.reads y.reads in err_is why why' (sym x.refuses ∙ ap asked u.0 ∙ y.refuses)
refuses_unique b why why' (inr (inl x)) (inr (inr y)) = absurd (asked_refused b y.head y.what y.behind why y.asks x)
refuses_unique b why why' (inr (inr x)) (inl y) = absurd (head_refused b x.head x.behind why' x.asks.reads y)
refuses_unique b why why' (inr (inr x)) (inr (inl y)) = absurd (asked_refused b x.head x.what x.behind why' x.asks y)
refuses_unique b why why' (inr (inr x)) (inr (inr y)) = refused_body_unique x.what.1 x.behind why why' x.refuses (body_at b why' x.head x.what x.behind x.asks y)

pub unfinished_reads : (b : List ℕ) (r : ReqData) (c : Bool) (rest : List ℕ) → IsUnfinished b → Reads b r c rest → ⊥
unfinished_reads b r c rest u x = u.request r c rest x

pub fault_reads : (b : List ℕ) (code : ℕ) (r : ReqData) (c : Bool) (rest : List ℕ) → IsFault b code → Reads b r c rest → ⊥
fault_reads b code r c rest (why, is, f) x = refuses_reads b why r c rest f x

pub unfinished_fault : (b : List ℕ) (code : ℕ) → IsUnfinished b → IsFault b code → ⊥
unfinished_fault b code u (why, is, f) = u.fault why f

-- two codes of one fault are equal
pub fault_unique : (b : List ℕ) (code code' : ℕ) → IsFault b code → IsFault b code' → code ≡ code'
fault_unique b code code' (why, is, f) (why', is', f') = is ∙ ap status_of (refuses_unique b why why' f f') ∙ sym is'

-- a fault stays one whatever comes behind
pub fault_more : (b : List ℕ) (code : ℕ) (m : List ℕ) → IsFault b code → IsFault (b ++ m) code
fault_more b code m (why, is, f) = (why, is, refuses_more b m why f)

-- nothing was sent, and more may come
pub unfinished_nothing : IsUnfinished []
unfinished_nothing = record {
  request = λ r c rest x. nothing_begins x.head x.behind x.asks.reads;
  fault = λ why f. elim f [ inl x ↦ nothing_refused why x | inr y ↦ elim y [ inl x ↦ nothing_begins x.head x.rest x.reads | inr x ↦ nothing_begins x.head x.behind x.asks.reads ] ];
}

-- ---- streams

pub all_more : (b : List ℕ) (rs : Requests) (rest m : List ℕ) → ReadsAll b rs rest → ReadsAll (b ++ m) rs (rest ++ m)
all_more b [] rest m e = ap (λ t. t ++ m) e
all_more b (r ∷ rs) rest m (mid, x, last, xs) = (mid ++ m, reads_more b r.0 r.1 mid m x, last, all_more mid rs rest m xs)

not_closing : (b c : Bool) → (b || c) ≡ false → (b ≡ false) × (c ≡ false)
not_closing true c e = absurd (false≢true (sym e))
not_closing false c e = (refl, e)

pub all_snoc : (b : List ℕ) (rs : Requests) (rest : List ℕ) (r : ReqData) (c : Bool) (rest' : List ℕ) → ReadsAll b rs rest → closing rs ≡ false → Reads rest r c rest' → ReadsAll b (rs ++ (r, c) ∷ []) rest'
all_snoc b [] rest r c rest' e live x = (rest', subst (λ t. Reads t r c rest') (sym e) x, (λ _. refl), refl)
all_snoc b (q ∷ rs) rest r c rest' (mid, y, last, ys) live x = let o = not_closing q.1 (closing rs) live in (mid, y, (λ e. absurd (false≢true (sym o.0 ∙ e))), all_snoc mid rs rest r c rest' ys o.1 x)

pub closing_snoc : (rs : Requests) (r : ReqData) (c : Bool) → closing rs ≡ false → closing (rs ++ (r, c) ∷ []) ≡ c
closing_snoc [] r true e = refl
closing_snoc [] r false e = refl
closing_snoc (q ∷ rs) r c e = let o = not_closing q.1 (closing rs) e in rw o.0 (closing_snoc rs r c o.1)

-- nothing is read behind the requests
abbrev pub Stuck : Bool → List ℕ → Type 0
Stuck closed rest = ((r : ReqData) (c : Bool) (rest' : List ℕ) → Reads rest r c rest' → ⊥) ⊎ (closed ≡ true)

stuck_end : (closed : Bool) (rest : List ℕ) (end : Option ℕ) → EndsAs closed rest end → Stuck closed rest
stuck_end true rest end e = inr refl
stuck_end false rest None e = inl (λ r c rest' x. unfinished_reads rest r c rest' e x)
stuck_end false rest (Some code) e = inl (λ r c rest' x. fault_reads rest code r c rest' e x)

-- the requests of bytes up to a rest that holds none, or up to a closing one, are these alone
pub one_stream : (b : List ℕ) (rs rs' : Requests) (rest rest' : List ℕ) → ReadsAll b rs rest → ReadsAll b rs' rest' → Stuck (closing rs) rest → Stuck (closing rs') rest' → (rs ≡ rs') × (rest ≡ rest')
one_stream b [] [] rest rest' e e' x y = (refl, sym e ∙ e')
one_stream b [] (r ∷ rs) rest rest' e (mid, q, last, qs) (inl stuck) y = absurd (stuck r.0 r.1 mid (subst (λ t. Reads t r.0 r.1 mid) e q))
one_stream b [] (r ∷ rs) rest rest' e t (inr c) y = absurd (false≢true c)
one_stream b (r ∷ rs) [] rest rest' (mid, q, last, qs) e x (inl stuck) = absurd (stuck r.0 r.1 mid (subst (λ t. Reads t r.0 r.1 mid) e q))
one_stream b (r ∷ rs) [] rest rest' t e x (inr c) = absurd (false≢true c)
one_stream b (r ∷ rs) (r' ∷ rs') rest rest' (mid, q, last, qs) (mid', q', last', qs') x y =
    let u = reads_unique b r.0 r'.0 r.1 r'.1 mid mid' q q' in
    let first = u.request in
    let close = u.close in
    let same : r ≡ r' = ap₂ (λ d c. (d, c)) first close in
    let t : ReadsAll mid rs' rest' = subst (λ m. ReadsAll m rs' rest') (sym u.left) qs' in
    let tail : (rs ≡ rs') × (rest ≡ rest') = others r.1 refl (λ i j. one_stream mid rs rs' rest rest' qs t i j) in
    (ap₂ (λ d ds. d ∷ ds) same tail.0, tail.1)
  where
    open_tail : (c d : Bool) (z : List ℕ) → c ≡ false → Stuck (c || d) z → Stuck d z
    open_tail true d z e h = absurd (false≢true (sym e))
    open_tail false d z e h = h

    others : (c : Bool) → r.1 ≡ c → (Stuck (closing rs) rest → Stuck (closing rs') rest' → (rs ≡ rs') × (rest ≡ rest')) → (rs ≡ rs') × (rest ≡ rest')
    others true e more =
        let u = reads_unique b r.0 r'.0 r.1 r'.1 mid mid' q q' in
        let n : rs ≡ [] = last e in
        let n' : rs' ≡ [] = last' (sym u.close ∙ e) in
        let z : mid ≡ rest = subst (λ l. ReadsAll mid l rest) n qs in
        let z' : mid' ≡ rest' = subst (λ l. ReadsAll mid' l rest') n' qs' in
        (n ∙ sym n', sym z ∙ u.left ∙ z')
    others false e more = let u = reads_unique b r.0 r'.0 r.1 r'.1 mid mid' q q' in more (open_tail r.1 (closing rs) rest e x) (open_tail r'.1 (closing rs') rest' (sym u.close ∙ e) y)

same_end : (closed : Bool) (rest : List ℕ) (end end' : Option ℕ) → EndsAs closed rest end → EndsAs closed rest end' → end ≡ end'
same_end true rest end end' e e' = e ∙ sym e'
same_end false rest None None e e' = refl
same_end false rest None (Some code) e e' = absurd (unfinished_fault rest code e e')
same_end false rest (Some code) None e e' = absurd (unfinished_fault rest code e' e)
same_end false rest (Some code) (Some code') e e' = ap Some (fault_unique rest code code' e e')

-- the requests in bytes are these alone, and what stands behind them too
pub requests_unique : (b : List ℕ) (rs rs' : Requests) (end end' : Option ℕ) → RequestsOf b rs end → RequestsOf b rs' end' → (rs ≡ rs') × (end ≡ end')
requests_unique b rs rs' end end' x y =
    let s : (rs ≡ rs') × (x.rest ≡ y.rest) = one_stream b rs rs' x.rest y.rest x.reads y.reads (stuck_end (closing rs) x.rest end x.ends) (stuck_end (closing rs') y.rest end' y.ends) in
    let e : EndsAs (closing rs) x.rest end' = subst (λ t. EndsAs (closing rs) t end') (sym s.1) (subst (λ t. EndsAs (closing t) y.rest end') (sym s.0) y.ends) in
    (s.0, same_end (closing rs) x.rest end end' x.ends e)
