-- What is known of a link goes on from step to step.
use Rattle.std.proofs.Common.{◌≡◌, ℕ, ◌≤◌, List, [], ◌∷◌, ◌++◌, length, take, refl, ap, ap₂, sym, ◌∙◌, subst, arith}
use Rattle.std.proofs.Common.{Bool, true, false, ◌&&◌, Some, None, inl, inr, append_assoc, append-nil, length-append}
use Rattle.std.proofs.Common.{◌+◌, ◌-◌, ◌<◌, drop, get_or, zero, suc, nat_eq}
use Rattle.std.proofs.lemmas.List.{map-append, take_all, length-drop, length-take-le}
use Rattle.std.specs.List.{starts_with}
use Rattle.std.proofs.Math.Seq.{take-append-add, take-length}
use Rattle.std.proofs.lemmas.Bool.{false≢true}
use Rattle.std.specs.Prelude.{codes, is_some}
use Rattle.wd_base.specs.declared.ids.LinkNo.{LinkNo}
use Rattle.wd_base.specs.declared.http.ReqData.{ReqData}
use Rattle.wd_base.specs.declared.http.Reply.{Reply}
use Rattle.wd_ports.specs.declared.told.LinkState.{LinkState}
use Rattle.wd_ports.specs.Told.{Told, on_link, with_received, with_sent, with_end, with_shut, received_on, ended_on}
use Rattle.wd_ports.specs.Told.{sent_on, shut_on}
use Rattle.wd_ports.proofs.OneLink.{twice, unchanged}
use Rattle.wd_top.specs.declared.seat.link.LinkRun.{LinkRun}
use Rattle.http_in.specs.Stream.{Requests, IsFault, IsUnfinished, EndsAs}
use Rattle.http_text.specs.ReplyText.{reply_text}
use Rattle.wd_top.specs.Text.{line}
use Rattle.http_in.proofs.StreamLaws.{all_more, all_snoc, closing_snoc}
use Rattle.wd_top.specs.Talk.{Row, Talk, answered, add_row}
use Rattle.wd_top.specs.Session.{is_head, tail_text, asked, arrivals, replies, AreAt, Carries, IsWhole}
use Rattle.wd_top.specs.Session.{asks_head, is_line_end, behind_lines}
use Rattle.wd_top.specs.Steps.{Reading, Asks}

-- what a port tells: one link is changed
pub same_link : (n : LinkNo) (t : Told) → t ≡ on_link n (λ l. l) t
same_link n t = sym (unchanged n (λ l. l) t (λ l. refl))

pub received_link : (n : LinkNo) (b : List ℕ) (t : Told) → received_on n b t ≡ on_link n (with_received b) t
unfolding received_on
received_link n b t = refl

pub ended_link : (n : LinkNo) (t : Told) → ended_on n t ≡ on_link n with_end t
unfolding ended_on
ended_link n t = refl

pub sent_link : (n : LinkNo) (b : List ℕ) (t : Told) → sent_on n b t ≡ on_link n (with_sent b) t
unfolding sent_on
sent_link n b t = refl

pub shut_link : (n : LinkNo) (change : LinkState → LinkState) (t : Told) → shut_on n (on_link n change t)
    ≡ on_link n (λ l. with_shut (change l)) t
unfolding shut_on
shut_link n change t = twice n change with_shut t

-- more bytes came
pub reading_more : (service : List ℕ) (l : LinkState) (t : Talk) (rest b : List ℕ) → Reading service l t rest false []
    → Reading service (with_received b l) t (rest ++ b) false []
reading_more service l t rest b r =
    record {
      requests = r.requests;
      reads = all_more l.received r.requests rest b r.reads;
      closes = r.closes;
      arrived = r.arrived;
      placed = r.placed;
      orderly = r.orderly;
      answers = r.answers;
      sent = r.sent;
    }

-- the end came
pub reading_end : (service : List ℕ) (l : LinkState) (t : Talk) (rest : List ℕ) → Reading service l t rest false []
    → Reading service (with_end l) t rest false []
reading_end service l t rest r = record {
  requests = r.requests;
  reads = r.reads;
  closes = r.closes;
  arrived = r.arrived;
  placed = r.placed;
  orderly = r.orderly;
  answers = r.answers;
  sent = r.sent;
}

-- a text more on the line
line_snoc : (rs : Requests) (rows : List Row) (r : ReqData) (c : Bool) (row : Row) (p : Reply) → row.reply ≡ Some p
    → arrivals rows ≡ asked rs → answered rows ≡ true → line (rs ++ (r, c) ∷ []) (replies (rows ++ row ∷ []))
    ≡ line rs (replies rows) ++ reply_text p (is_head r) c
line_snoc [] [] r c row p is e a = ap (λ o. line ((r, c) ∷ []) (o ∷ [])) is ∙ append-nil (reply_text p (is_head r) c)
line_snoc [] (x ∷ xs) r c row p is e a = absurd (cc)
line_snoc (y ∷ ys) [] r c row p is e a = absurd (cc)
line_snoc (y ∷ ys) (x ∷ xs) r c row p is e a =
    let tail : arrivals xs ≡ asked ys = cc in
    elim x.reply as (λ o. (is_some o && answered xs) ≡ true
    → line (y ∷ (ys ++ (r, c) ∷ [])) (o ∷ replies (xs ++ row ∷ [])) ≡ line (y ∷ ys) (o ∷ replies xs)
    ++ reply_text p (is_head r) c) [
      | None ↦ λ a. absurd (false≢true a)
      | Some p' ↦ λ a. ap (λ t. reply_text p' (is_head y.0) y.1 ++ t) (line_snoc ys xs r c row p is tail a)
          ∙ sym (append_assoc (reply_text p' (is_head y.0) y.1) _ _)
    ] a

-- the line stops at a request without a reply
line_stop : (rs : Requests) (rows : List Row) (r : ReqData) (c : Bool) (row : Row) → row.reply ≡ None
    → arrivals rows ≡ asked rs → answered rows ≡ true → line (rs ++ (r, c) ∷ []) (replies (rows ++ row ∷ []))
    ≡ line rs (replies rows)
line_stop [] [] r c row is e a = ap (λ o. line ((r, c) ∷ []) (o ∷ [])) is
line_stop [] (x ∷ xs) r c row is e a = absurd (cc)
line_stop (y ∷ ys) [] r c row is e a = absurd (cc)
line_stop (y ∷ ys) (x ∷ xs) r c row is e a =
    let tail : arrivals xs ≡ asked ys = cc in
    elim x.reply as (λ o. (is_some o && answered xs) ≡ true
    → line (y ∷ (ys ++ (r, c) ∷ [])) (o ∷ replies (xs ++ row ∷ [])) ≡ line (y ∷ ys) (o ∷ replies xs)) [
      | None ↦ λ a. absurd (false≢true a)
      | Some p' ↦ λ a. ap (λ t. reply_text p' (is_head y.0) y.1 ++ t) (line_stop ys xs r c row is tail a)
    ] a

arrivals_snoc : (rs : Requests) (rows : List Row) (r : ReqData) (c : Bool) (row : Row) → row.request ≡ r
    → arrivals rows ≡ asked rs → arrivals (rows ++ row ∷ []) ≡ asked (rs ++ (r, c) ∷ [])
arrivals_snoc rs rows r c row e a = map-append (λ x. x.request) rows (row ∷ []) ∙ ap₂ (λ x y. x ++ (y ∷ [])) a e
    ∙ sym (map-append (λ x. x.0) rs ((r, c) ∷ []))

at_snoc : (service : List ℕ) (rows : List Row) (row : Row) → row.service ≡ service → AreAt service rows
    → AreAt service (rows ++ row ∷ [])
at_snoc service [] row e a = (e, tt)
at_snoc service (x ∷ xs) row e (here, a) = (here, at_snoc service xs row e a)

answered_snoc : (rows : List Row) (row : Row) → is_some row.reply ≡ true → answered rows ≡ true
    → answered (rows ++ row ∷ []) ≡ true
answered_snoc [] row is a = ap (λ b. b && true) is
answered_snoc (x ∷ xs) row is a =
    elim x.reply as (λ o. (is_some o && answered xs) ≡ true → (is_some o && answered (xs ++ row ∷ [])) ≡ true) [
      | None ↦ λ a. a
      | Some p' ↦ λ a. answered_snoc xs row is a
    ] a

-- a request was answered: its text is due
pub reading_asked : (service : List ℕ) (l : LinkState) (t t' : Talk) (run : LinkRun) (r : ReqData) (c : Bool) (q : ℕ)
    (p : Reply) → Asks service l t r c run
    → t' ≡ add_row (record { req = q; service = service; request = r; reply = Some p }) t
    → Reading service l t' run.conn.queue c (reply_text p (is_head r) c)
reading_asked service l t t' run r c q p a e =
    let x = a.reading in
    subst (λ u. Reading service l u run.conn.queue c (reply_text p (is_head r) c)) (sym e)
    (record {
      requests = x.requests ++ (r, c) ∷ [];
      reads = all_snoc l.received x.requests a.rest r c run.conn.queue x.reads x.closes a.reads;
      closes = closing_snoc x.requests r c x.closes;
      arrived = arrivals_snoc x.requests t.rows r c _ refl x.arrived;
      placed = at_snoc service t.rows _ refl x.placed;
      orderly = rw (x.orderly, x.answers) refl;
      answers = answered_snoc t.rows _ refl x.answers;
      sent = line_snoc x.requests t.rows r c _ p refl x.arrived x.answers
          ∙ ap (λ s. s ++ reply_text p (is_head r) c) (x.sent ∙ append-nil l.sent);
    })

-- the front of what is due was sent
front : (s x : List ℕ) (k : ℕ) → k ≤ length x → s ++ take k x ≡ take (length (s ++ take k x)) (s ++ x)
front s x k h = rw (length-append, length-take-le k x h) (sym (take-append-add s x k))

pub reading_sent : (service : List ℕ) (l : LinkState) (t : Talk) (rest : List ℕ) (c : Bool) (text : List ℕ) (k : ℕ)
    → k ≡ length text → Reading service l t rest c text → Reading service (with_sent (take k text) l) t rest c []
reading_sent service l t rest c text k e x = record {
  requests = x.requests;
  reads = x.reads;
  closes = x.closes;
  arrived = x.arrived;
  placed = x.placed;
  orderly = x.orderly;
  answers = x.answers;
  sent = x.sent ∙ ap (λ b. l.sent ++ b) (sym (take_all k text (omega arith))) ∙ sym (append-nil _);
}

pub carries_part : (service : List ℕ) (l : LinkState) (t : Talk) (rest : List ℕ) (c : Bool) (text : List ℕ) (k : ℕ)
    → k ≤ length text → Reading service l t rest c text → Carries service (with_sent (take k text) l) t
carries_part service l t rest c text k h x = record {
  requests = x.requests;
  rest = rest;
  reads = x.reads;
  arrived = x.arrived;
  placed = x.placed;
  orderly = x.orderly;
  tail = None;
  fault = tt;
  sent = front l.sent text k h ∙ ap (take (length (l.sent ++ take k text))) (sym x.sent ∙ sym (append-nil _));
}

-- nothing is due
pub carries_all : (service : List ℕ) (l : LinkState) (t : Talk) (rest : List ℕ) (c : Bool)
    → Reading service l t rest c [] → Carries service l t
carries_all service l t rest c x = record {
  requests = x.requests;
  rest = rest;
  reads = x.reads;
  arrived = x.arrived;
  placed = x.placed;
  orderly = x.orderly;
  tail = None;
  fault = tt;
  sent = sym (take-length l.sent) ∙ ap (take (length l.sent)) (sym (append-nil l.sent) ∙ sym x.sent
      ∙ sym (append-nil _));
}

-- a request has arrived, and memory ran out before its reply
pub carries_asked : (service : List ℕ) (l : LinkState) (t t' : Talk) (run : LinkRun) (r : ReqData) (c : Bool) (q : ℕ)
    → Asks service l t r c run → t' ≡ add_row (record { req = q; service = service; request = r; reply = None }) t
    → Carries service l t'
carries_asked service l t t' run r c q a e =
    let x = a.reading in
    subst (λ u. Carries service l u) (sym e)
    (record {
      requests = x.requests ++ (r, c) ∷ [];
      rest = run.conn.queue;
      reads = all_snoc l.received x.requests a.rest r c run.conn.queue x.reads x.closes a.reads;
      arrived = arrivals_snoc x.requests t.rows r c _ refl x.arrived;
      placed = at_snoc service t.rows _ refl x.placed;
      orderly = rw (x.orderly, x.answers) refl;
      tail = None;
      fault = tt;
      sent = sym (take-length l.sent) ∙ ap (take (length l.sent)) (sym (append-nil l.sent) ∙ sym x.sent
          ∙ sym (line_stop x.requests t.rows r c _ refl x.arrived x.answers) ∙ sym (append-nil _));
    })

-- the last request closes
pub whole_closed : (service : List ℕ) (l : LinkState) (t : Talk) (rest : List ℕ) → Reading service l t rest true []
    → IsWhole service l t
whole_closed service l t rest x = record {
  requests = x.requests;
  end = None;
  of = record { rest = rest; reads = x.reads; ends = subst (λ b. EndsAs b rest None) (sym x.closes) refl };
  arrived = x.arrived;
  placed = x.placed;
  orderly = x.orderly;
  answers = x.answers;
  over = inr (inl x.closes);
  sent = sym (append-nil l.sent) ∙ sym x.sent ∙ sym (append-nil _);
}

-- the bytes ended
pub whole_ended : (service : List ℕ) (l : LinkState) (t : Talk) (rest : List ℕ) → Reading service l t rest false []
    → IsUnfinished rest → l.ended ≡ true → IsWhole service l t
whole_ended service l t rest x u e = record {
  requests = x.requests;
  end = None;
  of = record { rest = rest; reads = x.reads; ends = subst (λ b. EndsAs b rest None) (sym x.closes) u };
  arrived = x.arrived;
  placed = x.placed;
  orderly = x.orderly;
  answers = x.answers;
  over = inl e;
  sent = sym (append-nil l.sent) ∙ sym x.sent ∙ sym (append-nil _);
}

-- the bytes are no request
pub whole_refused : (service : List ℕ) (l : LinkState) (t : Talk) (rest : List ℕ) (code k : ℕ)
    → k ≡ length (tail_text rest (Some code)) → Reading service l t rest false [] → IsFault rest code
    → IsWhole service (with_sent (take k (tail_text rest (Some code))) l) t
whole_refused service l t rest code k e x f = record {
  requests = x.requests;
  end = Some code;
  of = record { rest = rest; reads = x.reads; ends = subst (λ b. EndsAs b rest (Some code)) (sym x.closes) f };
  arrived = x.arrived;
  placed = x.placed;
  orderly = x.orderly;
  answers = x.answers;
  over = inr (inr refl);
  sent = ap₂ (λ a b. a ++ b) (sym (append-nil l.sent) ∙ sym x.sent)
      (take_all k (tail_text rest (Some code)) (omega arith));
}

pub carries_refused : (service : List ℕ) (l : LinkState) (t : Talk) (rest : List ℕ) (code k : ℕ)
    → k ≤ length (tail_text rest (Some code)) → Reading service l t rest false [] → IsFault rest code
    → Carries service (with_sent (take k (tail_text rest (Some code))) l) t
carries_refused service l t rest code k h x f = record {
  requests = x.requests;
  rest = rest;
  reads = x.reads;
  arrived = x.arrived;
  placed = x.placed;
  orderly = x.orderly;
  tail = Some code;
  fault = (x.answers, x.closes, f);
  sent = front l.sent (tail_text rest (Some code)) k h
      ∙ ap (λ s. take (length (l.sent ++ take k (tail_text rest (Some code)))) (s ++ tail_text rest (Some code)))
      (sym (append-nil l.sent) ∙ sym x.sent);
}

-- the link was shut
pub carries_shut : (service : List ℕ) (l : LinkState) (t : Talk) → Carries service l t → Carries service (with_shut l) t
carries_shut service l t x = record {
  requests = x.requests;
  rest = x.rest;
  reads = x.reads;
  arrived = x.arrived;
  placed = x.placed;
  orderly = x.orderly;
  tail = x.tail;
  fault = x.fault;
  sent = x.sent;
}

pub whole_shut : (service : List ℕ) (l : LinkState) (t : Talk) → IsWhole service l t → IsWhole service (with_shut l) t
whole_shut service l t x = record {
  requests = x.requests;
  end = x.end;
  of = x.of;
  arrived = x.arrived;
  placed = x.placed;
  orderly = x.orderly;
  answers = x.answers;
  over = x.over;
  sent = x.sent;
}

-- ---- the empty lines before a request line

-- one more line end is passed over
pub line_passed : (bytes : List ℕ) (at : ℕ) → at < length bytes → is_line_end (get_or bytes at 0) ≡ true
    → behind_lines (drop at bytes) ≡ behind_lines (drop (at + 1) bytes)
unfolding behind_lines
line_passed [] at h ends = absurd (omega (arith, h))
line_passed (b ∷ bytes) zero h ends = rw ends refl
line_passed (b ∷ bytes) (suc at) h ends =
    let next : suc at + 1 ≡ suc (at + 1) = omega arith in
    line_passed bytes at (omega (arith, h)) ends ∙ ap (λ k. behind_lines (drop k (b ∷ bytes))) (sym next)

-- here no further line end stands
pub line_begun : (bytes : List ℕ) (at : ℕ) → at < length bytes → is_line_end (get_or bytes at 0) ≡ false
    → behind_lines (drop at bytes) ≡ drop at bytes
unfolding behind_lines
line_begun [] at h ends = absurd (omega (arith, h))
line_begun (b ∷ bytes) zero h ends = rw ends refl
line_begun (b ∷ bytes) (suc at) h ends = line_begun bytes at (omega (arith, h)) ends

-- behind all bytes nothing stands
pub lines_only : (bytes : List ℕ) (at : ℕ) → length bytes ≤ at → behind_lines (drop at bytes) ≡ drop at bytes
unfolding behind_lines
lines_only [] zero h = refl
lines_only [] (suc at) h = refl
lines_only (b ∷ bytes) zero h = absurd (omega (arith, h))
lines_only (b ∷ bytes) (suc at) h = lines_only bytes at (omega (arith, h))

-- what stands behind the lines begins with the method, or not
pub head_asked : (bytes : List ℕ) (at : ℕ) (result : Bool) → behind_lines bytes ≡ behind_lines (drop at bytes)
    → behind_lines (drop at bytes) ≡ drop at bytes
    → result ≡ starts_with nat_eq (take (length bytes - at) (drop at bytes)) (codes "HEAD ")
    → result ≡ asks_head bytes
head_asked bytes at result passed stops is =
    let rest : take (length bytes - at) (drop at bytes) ≡ drop at bytes =
    take_all _ _ (omega (arith, length-drop at bytes)) in
    is ∙ ap (λ b. starts_with nat_eq b (codes "HEAD ")) (rest ∙ sym stops ∙ sym passed)
