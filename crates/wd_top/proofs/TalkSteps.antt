-- The journal grows by one entry.
use Rattle.std.proofs.Common.{◌≡◌, ◌≢◌, ℕ, ◌+◌, ◌<◌, ◌≤◌, List, [], ◌∷◌, ◌++◌, refl, ap, sym, ◌∙◌, subst, arith, Bool}
use Rattle.std.proofs.Common.{true, false, ◌&&◌, Option, Some, None, nat_eq, cond, eq-eqb}
use Rattle.std.proofs.lemmas.Bool.Decides.{nat_tests}
use Rattle.std.proofs.lemmas.Bool.{false≢true}
use Rattle.wd_base.specs.declared.ids.Req.{Req}
use Rattle.wd_base.specs.declared.http.ReqData.{ReqData}
use Rattle.wd_base.specs.declared.http.Reply.{Reply}
use Rattle.wd_machine.specs.declared.journal.Entry.{Entry}
use Rattle.wd_machine.specs.declared.journal.Entry.TheVariants.{Arrive, Begin, Turn, Answer, Served, Cancel, Drain}
use Rattle.wd_machine.specs.Entries.{seat_of}
use Rattle.wd_top.specs.Talk.{Row, Talk, answered, asked_row, answered_row, add_row, with_reply, with_reply_if}
use Rattle.wd_top.specs.Talk.{came_over, talk_step, talk_from, no_talk, talk, TakesTurns, NumberedFrom, IsNumbered}
use Rattle.wd_top.specs.Talk.{arrivals_after, arrival_count, EachOfSeat, IsOfSeat}

talk_from_push : (s n : ℕ) (t : Talk) (es : List Entry) (e : Entry) → talk_from s n t (es ++ e ∷ [])
    ≡ talk_step s n (talk_from s n t es) e
talk_from_push s n t [] e = refl
talk_from_push s n t (x ∷ es) e = talk_from_push s n (talk_step s n t x) es e

pub talk_push : (s n : ℕ) (es : List Entry) (e : Entry) → talk s n (es ++ e ∷ []) ≡ talk_step s n (talk s n es) e
unfolding talk
talk_push s n es e = talk_from_push s n no_talk es e

pub silent : (s n : ℕ) → talk s n [] ≡ no_talk
unfolding talk
silent s n = refl

-- how many arrivals an entry is
abbrev pub arrives : Entry → ℕ
arrives (Arrive seat q service origin allow request) = 1
arrives (Begin seat q) = 0
arrives (Turn seat q out) = 0
arrives (Answer seat q op result) = 0
arrives (Served seat q reply) = 0
arrives (Cancel seat q) = 0
arrives (Drain seat) = 0

-- the next number stands in an arrival
abbrev pub HasNext : ℕ → Entry → Type 0
HasNext n (Arrive seat q service origin allow request) = q.0 ≡ n + 1
HasNext n (Begin seat q) = Unit {0}
HasNext n (Turn seat q out) = Unit {0}
HasNext n (Answer seat q op result) = Unit {0}
HasNext n (Served seat q reply) = Unit {0}
HasNext n (Cancel seat q) = Unit {0}
HasNext n (Drain seat) = Unit {0}

arrivals_push : (n : ℕ) (es : List Entry) (e : Entry) → arrivals_after n (es ++ e ∷ [])
    ≡ arrivals_after n es + arrives e
arrivals_push n [] (Arrive seat q service origin allow request) = refl
arrivals_push n [] (Begin seat q) = omega arith
arrivals_push n [] (Turn seat q out) = omega arith
arrivals_push n [] (Answer seat q op result) = omega arith
arrivals_push n [] (Served seat q reply) = omega arith
arrivals_push n [] (Cancel seat q) = omega arith
arrivals_push n [] (Drain seat) = omega arith
arrivals_push n (Arrive seat q service origin allow request ∷ es) e = arrivals_push (n + 1) es e
arrivals_push n (Begin seat q ∷ es) e = arrivals_push n es e
arrivals_push n (Turn seat q out ∷ es) e = arrivals_push n es e
arrivals_push n (Answer seat q op result ∷ es) e = arrivals_push n es e
arrivals_push n (Served seat q reply ∷ es) e = arrivals_push n es e
arrivals_push n (Cancel seat q ∷ es) e = arrivals_push n es e
arrivals_push n (Drain seat ∷ es) e = arrivals_push n es e

pub count_push : (es : List Entry) (e : Entry) → arrival_count (es ++ e ∷ []) ≡ arrival_count es + arrives e
unfolding arrival_count
count_push es e = arrivals_push 0 es e

numbered_from_push : (n : ℕ) (es : List Entry) (e : Entry) → NumberedFrom n es → HasNext (arrivals_after n es) e
    → NumberedFrom n (es ++ e ∷ [])
numbered_from_push n [] (Arrive seat q service origin allow request) x h = (h, tt)
numbered_from_push n [] (Begin seat q) x h = tt
numbered_from_push n [] (Turn seat q out) x h = tt
numbered_from_push n [] (Answer seat q op result) x h = tt
numbered_from_push n [] (Served seat q reply) x h = tt
numbered_from_push n [] (Cancel seat q) x h = tt
numbered_from_push n [] (Drain seat) x h = tt
numbered_from_push n (Arrive seat q service origin allow request ∷ es) e (y, x) h =
    (y, numbered_from_push (n + 1) es e x h)
numbered_from_push n (Begin seat q ∷ es) e x h = numbered_from_push n es e x h
numbered_from_push n (Turn seat q out ∷ es) e x h = numbered_from_push n es e x h
numbered_from_push n (Answer seat q op result ∷ es) e x h = numbered_from_push n es e x h
numbered_from_push n (Served seat q reply ∷ es) e x h = numbered_from_push n es e x h
numbered_from_push n (Cancel seat q ∷ es) e x h = numbered_from_push n es e x h
numbered_from_push n (Drain seat ∷ es) e x h = numbered_from_push n es e x h

pub numbered_push : (es : List Entry) (e : Entry) → IsNumbered es → HasNext (arrival_count es) e
    → IsNumbered (es ++ e ∷ [])
unfolding IsNumbered arrival_count
numbered_push es e x h = numbered_from_push 0 es e x h

each_push : (s : ℕ) (es : List Entry) (e : Entry) → EachOfSeat s es → (seat_of e).0 ≡ s → EachOfSeat s (es ++ e ∷ [])
each_push s [] e x h = (h, tt)
each_push s (y ∷ es) e (here, x) h = (here, each_push s es e x h)

pub seat_push : (s : ℕ) (es : List Entry) (e : Entry) → IsOfSeat s es → (seat_of e).0 ≡ s → IsOfSeat s (es ++ e ∷ [])
unfolding IsOfSeat
seat_push s es e x h = each_push s es e x h

-- the numbers of the rows are at most n
abbrev pub Below : ℕ → List Row → Type 0
Below n [] = Unit {0}
Below n (r ∷ rs) = (r.req ≤ n) × Below n rs

below_more : (n m : ℕ) (rows : List Row) → n ≤ m → Below n rows → Below m rows
below_more n m [] h b = tt
below_more n m (r ∷ rs) h (x, b) = (omega arith, below_more n m rs h b)

below_snoc : (n m : ℕ) (rows : List Row) (row : Row) → n ≤ m → row.req ≤ m → Below n rows → Below m (rows ++ row ∷ [])
below_snoc n m [] row h k b = (k, tt)
below_snoc n m (r ∷ rs) row h k (x, b) = (omega arith, below_snoc n m rs row h k b)

below_reply : (n q : ℕ) (reply : Reply) (rows : List Row) → Below n rows → Below n (with_reply q reply rows)
below_reply n q reply [] b = tt
below_reply n q reply (r ∷ rs) (x, b) = (
  elim (nat_eq r.req q) as (λ t. (cond t (record r { reply = Some reply }) r).req ≤ n) [ true ↦ x | false ↦ x ],
  below_reply n q reply rs b,
)

below_reply_if : (n q : ℕ) (reply : Option Reply) (rows : List Row) → Below n rows
    → Below n (with_reply_if q reply rows)
below_reply_if n q None rows b = b
below_reply_if n q (Some reply) rows b = below_reply n q reply rows b

below_from : (s n m : ℕ) (t : Talk) (es : List Entry) → NumberedFrom m es → Below m t.rows
    → Below (arrivals_after m es) (talk_from s n t es).rows
below_from s n m t [] x b = b
below_from s n m t (Arrive seat q service origin allow request ∷ es) (number, x) b =
    below_from s n (m + 1) (talk_step s n t (Arrive seat q service origin allow request)) es x
    (elim (came_over s n seat origin) as
    (λ c. Below (m + 1) (cond c (add_row (asked_row q service request) t) t).rows) [
      | true ↦ below_snoc m (m + 1) t.rows _ (omega arith) (omega arith) b
      | false ↦ below_more m (m + 1) t.rows (omega arith) b
    ])
below_from s n m t (Begin seat q ∷ es) x b = below_from s n m t es x b
below_from s n m t (Turn seat q out ∷ es) x b =
    below_from s n m (talk_step s n t (Turn seat q out)) es x (below_reply_if m q.0 out.reply t.rows b)
below_from s n m t (Answer seat q op result ∷ es) x b = below_from s n m t es x b
below_from s n m t (Served seat q reply ∷ es) x b =
    below_from s n m (talk_step s n t (Served seat q reply)) es x (below_reply m q.0 reply t.rows b)
below_from s n m t (Cancel seat q ∷ es) x b = below_from s n m t es x b
below_from s n m t (Drain seat ∷ es) x b = below_from s n m t es x b

-- requests are numbered in order, so a new number stands in no row
pub below : (s n : ℕ) (es : List Entry) → IsNumbered es → Below (arrival_count es) (talk s n es).rows
unfolding IsNumbered arrival_count talk
below s n es x = below_from s n 0 no_talk es x tt

pub nat_self : (n : ℕ) → nat_eq n n ≡ true
nat_self n = eq-eqb n n refl

pub nat_other : (n m : ℕ) → n ≢ m → nat_eq n m ≡ false
nat_other n m ne = grind (arith, nat_tests)

pub reply_none : (n q : ℕ) (reply : Reply) (rows : List Row) → Below n rows → n < q → with_reply q reply rows ≡ rows
reply_none n q reply [] b h = refl
reply_none n q reply (r ∷ rs) (x, b) h =
    rw (nat_other r.req q (omega arith)) (ap (λ t. r ∷ t) (reply_none n q reply rs b h))

pub reply_last : (n : ℕ) (q : Req) (service : List ℕ) (request : ReqData) (reply : Reply) (rows : List Row)
    → Below n rows → n < q.0 → with_reply q.0 reply (rows ++ asked_row q service request ∷ []) ≡ rows
    ++ answered_row q service request reply ∷ []
reply_last n q service request reply [] b h = rw (nat_self q.0) refl
reply_last n q service request reply (x ∷ xs) (y, b) h =
    rw (nat_other x.req q.0 (omega arith)) (ap (λ t. x ∷ t) (reply_last n q service request reply xs b h))

-- what `orderly` says
talk_from_join : (s n : ℕ) (t : Talk) (a b : List Entry) → talk_from s n t (a ++ b)
    ≡ talk_from s n (talk_from s n t a) b
talk_from_join s n t [] b = refl
talk_from_join s n t (x ∷ a) b = talk_from_join s n (talk_step s n t x) a b

first_of_both : (a b : Bool) → (a && b) ≡ true → (a ≡ true) × (b ≡ true)
first_of_both true b e = (refl, e)
first_of_both false b e = absurd (false≢true e)

earlier_step : (s n : ℕ) (t : Talk) (e : Entry) → (talk_step s n t e).orderly ≡ true → t.orderly ≡ true
earlier_step s n t (Arrive seat q service origin allow request) o =
    elim (came_over s n seat origin) as (λ c. (cond c (add_row (asked_row q service request) t) t).orderly ≡ true
    → t.orderly ≡ true) [ true ↦ λ x. (first_of_both t.orderly (answered t.rows) x).0 | false ↦ λ x. x ] o
earlier_step s n t (Begin seat q) o = o
earlier_step s n t (Turn seat q out) o = o
earlier_step s n t (Answer seat q op result) o = o
earlier_step s n t (Served seat q reply) o = o
earlier_step s n t (Cancel seat q) o = o
earlier_step s n t (Drain seat) o = o

earlier : (s n : ℕ) (t : Talk) (es : List Entry) → (talk_from s n t es).orderly ≡ true → t.orderly ≡ true
earlier s n t [] o = o
earlier s n t (e ∷ es) o = earlier_step s n t e (earlier s n (talk_step s n t e) es o)

pub orderly_means : (s n : ℕ) (j : List Entry) → (talk s n j).orderly ≡ true → TakesTurns s n j
unfolding talk
orderly_means s n j o a b seat q service origin allow request e here =
    let u : Talk = talk_from s n no_talk a in
    let arrival : Entry = Arrive seat q service origin allow request in
    let whole : (talk_from s n (talk_step s n u arrival) b).orderly ≡ true =
    ap (λ t. t.orderly) (sym (ap (talk_from s n no_talk) e ∙ talk_from_join s n no_talk a (arrival ∷ b))) ∙ o in
    let step : (talk_step s n u arrival).orderly ≡ true = earlier s n (talk_step s n u arrival) b whole in
    (first_of_both u.orderly (answered u.rows)
    (subst (λ c. (cond c (add_row (asked_row q service request) u) u).orderly ≡ true) here step)).1
