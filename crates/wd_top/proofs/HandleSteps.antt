-- What `hear` and `handle` leave, exit by exit.
use Rattle.std.proofs.Common.{◌≡◌, ℕ, ◌≤◌, List, [], length, take, refl, sym, ◌∙◌, subst, Bool, true, false, Some}
use Rattle.std.proofs.Common.{◌++◌, ap, arith, Result, Ok, Err, inl, inr, append-nil, IsErrOf, OnOk}
use Rattle.std.proofs.lemmas.Bool.{false≢true}
use Rattle.wd_base.specs.declared.ids.LinkNo.{LinkNo}
use Rattle.wd_base.specs.declared.ids.Seat.{Seat}
use Rattle.wd_base.specs.declared.http.ReqData.{ReqData}
use Rattle.wd_ports.specs.declared.told.LinkState.{LinkState}
use Rattle.wd_ports.specs.declared.told.Failed.{Failed}
use Rattle.wd_ports.specs.declared.told.Failed.TheVariants.{Fault, NoMemory}
use Rattle.wd_ports.specs.Told.{Told, with_received, with_sent, with_end, received_on, ended_on}
use Rattle.wd_ports.specs.Send.{Sends}
use Rattle.wd_ports.proofs.OneLink.{sent_nothing}
use Rattle.wd_machine.specs.declared.journal.Entry.{Entry}
use Rattle.http_in.specs.declared.conn.Phase.TheVariants as phase
use Rattle.http_in.specs.declared.conn.Fed.TheVariants as fed
use Rattle.wd_top.specs.declared.seat.link.LinkRun.{LinkRun}
use Rattle.wd_top.specs.declared.seat.link.Heard.{Heard}
use Rattle.wd_top.specs.declared.seat.link.Heard.TheVariants as heard
use Rattle.wd_top.specs.declared.seat.link.StepEnd.{StepEnd}
use Rattle.wd_top.specs.declared.seat.link.StepEnd.TheVariants as end
use Rattle.http_in.specs.declared.conn.Fed.{Fed}
use Rattle.http_in.specs.Conn.{Feeds, FeedsAt, FeedsOpen, phase_after}
use Rattle.http_in.specs.Stream.{IsFault, IsUnfinished}
use Rattle.http_text.specs.ReplyText.{reply_text}
use Rattle.wd_top.specs.Talk.{Talk, talk}
use Rattle.wd_top.specs.Session.{is_head, tail_text, Carries}
use Rattle.wd_top.specs.Steps.{Reading, Opened, Asks, Known, Knows, SameButConn, Hears, Replies, IsLeft, After, Handles}
use Rattle.wd_top.specs.Steps.{end_of}
use Rattle.wd_top.proofs.SessionSteps.{same_link, received_link, ended_link, sent_link, reading_more, reading_end}
use Rattle.wd_top.proofs.SessionSteps.{reading_asked, reading_sent, carries_part, carries_all, carries_asked}
use Rattle.wd_top.proofs.SessionSteps.{whole_closed, whole_ended, whole_refused, carries_refused}

pub hears_same : (n : LinkNo) (run : LinkRun) (i : Heard) (t new : Told) → new ≡ t
    → ((s : List ℕ) (l : LinkState) (k : Talk) → Opened s l k run → Known i s l k run) → Hears n run run i t new
hears_same n run i t new e known = record {
  change = λ l. l;
  tells = e ∙ same_link n t;
  stands = λ l. (refl, refl);
  same = (refl, refl);
  known = known;
}

pub hears_fed : (n : LinkNo) (run run' : LinkRun) (i : Heard) (t : Told) → Knows run [] i run' → SameButConn run run'
    → Hears n run run' i t t
hears_fed n run run' i t knows e = record {
  change = λ l. l;
  tells = same_link n t;
  stands = λ l. (refl, refl);
  same = e;
  known = λ s l k o. knows s l k (subst (λ q. Reading s l k q false []) (sym (append-nil run.conn.queue))
      o.reading) o.phase;
}

pub hears_bytes : (n : LinkNo) (run run' : LinkRun) (i : Heard) (b : List ℕ) (t new : Told) → new ≡ received_on n b t
    → Knows run b i run' → SameButConn run run' → Hears n run run' i t new
hears_bytes n run run' i b t new e knows same = record {
  change = with_received b;
  tells = e ∙ received_link n b t;
  stands = λ l. (refl, refl);
  same = same;
  known =
      λ s l k o. knows s (with_received b l) k (reading_more s l k run.conn.queue b o.reading) o.phase;
}

pub hears_end : (n : LinkNo) (run : LinkRun) (t new : Told) → new ≡ ended_on n t → run.ready ≡ false
    → Hears n run run heard.End t new
hears_end n run t new e r = record {
  change = with_end;
  tells = e ∙ ended_link n t;
  stands = λ l. (refl, refl);
  same = (refl, refl);
  known = λ s l k o. (
    run.conn.queue,
    reading_end s l k run.conn.queue o.reading,
    o.waits r,
    refl,
  );
}

-- what an open connection answered to bytes is known of the link
fed_known : (s : List ℕ) (l : LinkState) (t : Talk) (bytes : List ℕ) (f : Fed) (run : LinkRun)
    → Reading s l t bytes false [] → FeedsOpen bytes f run.conn → Known (heard.Fed f) s l t run
fed_known s l t bytes (fed.Request r close) run reading (reads, at) = record {
  rest = bytes;
  reading = reading;
  reads = reads;
  phase = λ e. at ∙ ap phase_after e;
}
fed_known s l t bytes fed.Later run reading (same, at, unfinished) =
    (subst (λ b. Reading s l t b false []) (sym same) reading, at, subst IsUnfinished (sym same) unfinished)
fed_known s l t bytes (fed.Bad code) run reading (at, same, fault) =
    (subst (λ b. Reading s l t b false []) (sym same) reading, subst (λ b. IsFault b code) (sym same) fault)

pub feeds_known : (run run' : LinkRun) (piece : List ℕ) (f : Fed) → Feeds run.conn piece f run'.conn
    → Knows run piece (heard.Fed f) run'
feeds_known run run' piece f feeds s l t reading opens =
    fed_known s l t (run.conn.queue ++ piece) f run' reading
    (subst (λ p. FeedsAt p run.conn piece f run'.conn) opens feeds)

-- nothing was sent for want of memory
pub none_sent : (n : LinkNo) (bytes : List ℕ) (t : Told) → Sends n bytes (Err NoMemory) t t
none_sent n bytes t = record { count = 0; within = omega arith; whole = tt; tells = sym (sent_nothing n t) }

-- neither the port nor the journal changed
unmoved : (seat : Seat) (n : LinkNo) (s : List ℕ) (run run' : LinkRun) (i : Heard) (e : StepEnd) (t : Told)
    (j : List Entry)
    (gone : Type 0) → SameButConn run run'
    → ((l : LinkState) → Known i s l (talk seat.0 n.0 j) run → After e s l (talk seat.0 n.0 j) run' gone)
    → Handles seat n s run run' i e t t j j gone
unmoved seat n s run run' i e t j gone same after =
    record {
      change = λ l. l;
      tells = same_link n t;
      stands = λ l. (refl, refl);
      same = same;
      others = λ k ne. refl;
      after = after;
    }

pub handles_later : (seat : Seat) (n : LinkNo) (s : List ℕ) (run : LinkRun) (i : Heard) (t : Told) (j : List Entry)
    (gone : Type 0)
    → i ≡ heard.Fed fed.Later → Handles seat n s run (record run { ready = false }) i end.Open t t j j gone
handles_later seat n s run i t j gone is = unmoved seat n s run (record run { ready = false }) i end.Open t j gone
    (refl, refl)
    (λ l k. let h : Known (heard.Fed fed.Later) s l (talk seat.0 n.0 j) run = subst
    (λ x. Known x s l (talk seat.0 n.0 j) run) is
    k in record { reading = h.0; phase = h.1; waits = λ _. h.2 })

pub handles_nothing : (seat : Seat) (n : LinkNo) (s : List ℕ) (run : LinkRun) (i : Heard) (t : Told) (j : List Entry)
    (gone : Type 0)
    → i ≡ heard.Nothing → Handles seat n s run run i end.Open t t j j gone
handles_nothing seat n s run i t j gone is =
    unmoved seat n s run run i end.Open t j gone (refl, refl)
    (λ l k. subst (λ x. Known x s l (talk seat.0 n.0 j) run) is k)

pub handles_end : (seat : Seat) (n : LinkNo) (s : List ℕ) (run : LinkRun) (i : Heard) (t : Told) (j : List Entry)
    (gone : Type 0)
    → i ≡ heard.End → Handles seat n s run run i end.Over t t j j gone
handles_end seat n s run i t j gone is = unmoved seat n s run run i end.Over t j gone (refl, refl)
    (λ l k. let h : Known heard.End s l (talk seat.0 n.0 j) run = subst (λ x. Known x s l (talk seat.0 n.0 j) run) is k
    in
    (carries_all s _ _ h.0 false h.1, λ _. whole_ended s _ _ h.0 h.1 h.2 h.3))

pub handles_lost : (seat : Seat) (n : LinkNo) (s : List ℕ) (run : LinkRun) (i : Heard) (t : Told) (j : List Entry)
    (gone : Type 0)
    → i ≡ heard.Lost → (i ≡ heard.Lost → gone) → Handles seat n s run run i end.Over t t j j gone
handles_lost seat n s run i t j gone is lost = unmoved seat n s run run i end.Over t j gone (refl, refl)
    (λ l k. let h : Known heard.Lost s l (talk seat.0 n.0 j) run = subst (λ x. Known x s l (talk seat.0 n.0 j) run) is k
    in
    (carries_all s _ _ h.0 false h.1, λ ng. absurd (ng (lost is))))

pub handles_full : (seat : Seat) (n : LinkNo) (s : List ℕ) (run : LinkRun) (i : Heard) (t : Told) (j : List Entry)
    (gone : Type 0)
    → i ≡ heard.Full → Handles seat n s run run i end.Full t t j j gone
handles_full seat n s run i t j gone is = unmoved seat n s run run i end.Full t j gone (refl, refl)
    (λ l k. let h : Known heard.Full s l (talk seat.0 n.0 j) run = subst (λ x. Known x s l (talk seat.0 n.0 j) run) is k
    in
    carries_all s _ _ h.0 false h.1)

-- a request, its turn and its text
sent_after : (s : List ℕ) (l : LinkState) (t' : Talk) (run : LinkRun) (c : Bool) (text : List ℕ) (k : ℕ)
    (w : Result (Unit {0}) Failed) (gone : Type 0) → k ≤ length text → OnOk w (k ≡ length text)
    → (IsErrOf w Fault → gone) → (c ≡ false → run.conn.phase ≡ phase.Open) → run.ready ≡ true
    → Reading s l t' run.conn.queue c text → After (end_of w c) s (with_sent (take k text) l) t' run gone
sent_after s l t' run true text k (Ok x) gone h all lost live ready r = let d :
    Reading s (with_sent (take k text) l) t' run.conn.queue true [] =
    reading_sent s l t' run.conn.queue true text k all r in
    (carries_all s _ _ run.conn.queue true d, λ _. whole_closed s _ _ run.conn.queue d)
sent_after s l t' run false text k (Ok x) gone h all lost live ready r =
    record {
      reading = reading_sent s l t' run.conn.queue false text k all r;
      phase = live refl;
      waits = λ e. absurd (false≢true (sym e ∙ ready));
    }
sent_after s l t' run c text k (Err Fault) gone h all lost live ready r =
    (carries_part s l t' run.conn.queue c text k h r, λ ng. absurd (ng (lost refl)))
sent_after s l t' run c text k (Err NoMemory) gone h all lost live ready r =
    carries_part s l t' run.conn.queue c text k h r

-- the link is tended no more
left_after : (s : List ℕ) (l : LinkState) (t : Talk) (run : LinkRun) (e : StepEnd) (gone : Type 0) → IsLeft e
    → Carries s l t → After e s l t run gone
left_after s l t run e gone (inl is) c = subst (λ x. After x s l t run gone) (sym is) c
left_after s l t run e gone (inr is) c = subst (λ x. After x s l t run gone) (sym is) c

pub handles_request : (seat : Seat) (n : LinkNo) (s : List ℕ) (run : LinkRun) (i : Heard) (r : ReqData) (c : Bool)
    (e : StepEnd)
    (t new : Told) (j j' : List Entry) (gone : Type 0) → i ≡ heard.Fed (fed.Request r c)
    → Replies seat n s r c e gone t new j j' → Handles seat n s run (record run { ready = true }) i e t new j j' gone
handles_request seat n s run i r c e t new j j' gone is (inl (p, w, a, x, ends, lost)) = record {
  change = with_sent (take x.count (reply_text p (is_head r) c));
  tells = x.tells ∙ sent_link n _ t;
  stands = λ l. (refl, refl);
  same = (refl, refl);
  others = a.0;
  after = λ l k.
      let h : Asks s l (talk seat.0 n.0 j) r c run = subst (λ y. Known y s l (talk seat.0 n.0 j) run) is k in
      subst (λ y. After y s (with_sent (take x.count (reply_text p (is_head r) c)) l) (talk seat.0 n.0 j')
      (record run { ready = true }) gone) (sym ends)
      (sent_after s l (talk seat.0 n.0 j') (record run { ready = true }) c (reply_text p (is_head r) c) x.count w gone
      x.within x.whole lost h.phase refl
      (reading_asked s l (talk seat.0 n.0 j) (talk seat.0 n.0 j') run r c a.1.0 p h a.1.1));
}
handles_request seat n s run i r c e t new j j' gone is (inr (others, asked, same, left)) = record {
  change = λ l. l;
  tells = same ∙ same_link n t;
  stands = λ l. (refl, refl);
  same = (refl, refl);
  others = others;
  after = λ l k.
      let h : Asks s l (talk seat.0 n.0 j) r c run = subst (λ y. Known y s l (talk seat.0 n.0 j) run) is k in
      left_after s l (talk seat.0 n.0 j') (record run { ready = true }) e gone left
      (elim asked [
        | inl q ↦ subst (λ y. Carries s l y) (sym q) (carries_all s _ _ h.rest false h.reading)
        | inr q ↦ carries_asked s l (talk seat.0 n.0 j) (talk seat.0 n.0 j') run r c q.0 h q.1
      ]);
}

refused_after : (s : List ℕ) (l : LinkState) (t : Talk) (run : LinkRun) (rest : List ℕ) (code k : ℕ)
    (w : Result (Unit {0}) Failed) (gone : Type 0) → k ≤ length (tail_text rest (Some code))
    → OnOk w (k ≡ length (tail_text rest (Some code))) → (IsErrOf w Fault → gone) → Reading s l t rest false []
    → IsFault rest code → After (end_of w true) s (with_sent (take k (tail_text rest (Some code))) l) t run gone
refused_after s l t run rest code k (Ok x) gone h all lost r f =
    (carries_refused s l t rest code k h r f, λ _. whole_refused s l t rest code k all r f)
refused_after s l t run rest code k (Err Fault) gone h all lost r f =
    (carries_refused s l t rest code k h r f, λ ng. absurd (ng (lost refl)))
refused_after s l t run rest code k (Err NoMemory) gone h all lost r f = carries_refused s l t rest code k h r f

pub handles_bad : (seat : Seat) (n : LinkNo) (s : List ℕ) (run : LinkRun) (i : Heard) (code : ℕ)
    (w : Result (Unit {0}) Failed)
    (t new : Told) (j : List Entry) (gone : Type 0) → i ≡ heard.Fed (fed.Bad code) → (IsErrOf w Fault → gone)
    → Sends n (tail_text run.conn.queue (Some code)) w t new → Handles seat n s run run i (end_of w true) t new j j gone
handles_bad seat n s run i code w t new j gone is lost x = record {
  change = with_sent (take x.count (tail_text run.conn.queue (Some code)));
  tells = x.tells ∙ sent_link n _ t;
  stands = λ l. (refl, refl);
  same = (refl, refl);
  others = λ k ne. refl;
  after = λ l k.
      let h : Known (heard.Fed (fed.Bad code)) s l (talk seat.0 n.0 j) run =
      subst (λ y. Known y s l (talk seat.0 n.0 j) run) is k in
      refused_after s l (talk seat.0 n.0 j) run run.conn.queue code x.count w gone x.within x.whole lost h.0 h.1;
}
