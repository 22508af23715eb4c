-- One link moves, or is new, among those of the table.
use Rattle.std.proofs.Common.{◌≡◌, ◌≢◌, ℕ, zero, suc, ◌+◌, ◌-◌, ◌<◌, ◌≤◌, List, [], ◌∷◌, ◌++◌, length, set, get_or}
use Rattle.std.proofs.Common.{refl, ap, sym, ◌∙◌, subst, arith, true, false, Option, Some, None, inl, inr, ◌⊎◌, IfSome}
use Rattle.std.proofs.Common.{length-append}
use Rattle.std.specs.Option.{option_map}
use Rattle.std.proofs.lemmas.List.{get_or-set_same, get_or-set_other, length-set}
use Rattle.std.proofs.lemmas.Bool.{cases_eq}
use Rattle.wd_base.specs.declared.ids.LinkNo.{LinkNo}
use Rattle.wd_base.specs.declared.ids.Seat.{Seat}
use Rattle.wd_base.specs.declared.ids.SockNo.{SockNo}
use Rattle.wd_base.specs.declared.config.Socket.{Socket}
use Rattle.wd_ports.specs.declared.told.LinkState.{LinkState}
use Rattle.wd_ports.specs.declared.told.LinkOrigin.{LinkOrigin}
use Rattle.wd_ports.specs.declared.told.LinkOrigin.TheVariants.{Socket as AtSocket}
use Rattle.wd_ports.specs.Told.{Told, on_link, link_of, blank, shut_on, with_shut, given_on, new_link}
use Rattle.wd_ports.specs.Links.{Stays}
use Rattle.wd_ports.proofs.OneLink.{twice}
use Rattle.wd_machine.specs.declared.journal.Entry.{Entry}
use Rattle.http_in.specs.Conn.{Link}
use Rattle.wd_top.specs.declared.seat.link.LinkRun.{LinkRun}
use Rattle.wd_top.specs.declared.seat.link.Heard.{Heard}
use Rattle.wd_top.specs.declared.seat.link.StepEnd.{StepEnd}
use Rattle.wd_top.specs.declared.seat.link.StepEnd.TheVariants as end
use Rattle.wd_top.specs.declared.seat.link.Stage.{Stage}
use Rattle.wd_top.specs.declared.seat.link.Stage.TheVariants.{Open, Shut, Stopped}
use Rattle.wd_top.specs.Talk.{Talk, talk, no_talk}
use Rattle.wd_top.specs.Session.{service_at, number, IsOutside, Carries, CarriesFrom, WholeFrom, Session, Done}
use Rattle.wd_top.specs.Steps.{IsLeft, Others, Opened, Hears, Handles, After, TendedAs, Moves}
use Rattle.wd_top.specs.Table.{IsTended, AreTended, Tended, run_at, new_run, blank_run, AreShut, Kept}
use Rattle.http_in.proofs.StreamLaws.{unfinished_nothing}
use Rattle.wd_top.proofs.SessionSteps.{shut_link, carries_all, carries_shut, whole_shut}
use Rattle.wd_top.proofs.TalkSteps.{silent, orderly_means}

pub moves_on : (seat : Seat) (n : LinkNo) (sockets : List Socket) (run run1 run2 : LinkRun) (i : Heard) (t t1 t2 : Told)
    (j j' : List Entry) (gone : Type 0) → run.stage ≡ Open → Hears n run run1 i t t1
    → Handles seat n (service_at sockets run1.socket) run1 run2 i end.Open t1 t2 j j' gone
    → Moves seat n (service_at sockets run.socket) run run2 t t2 j j' gone
moves_on seat n sockets run run1 run2 i t t1 t2 j j' gone live h d0 =
    let s : List ℕ = service_at sockets run.socket in
    let d : Handles seat n s run1 run2 i end.Open t1 t2 j j' gone =
    subst (λ k. Handles seat n (service_at sockets k) run1 run2 i end.Open t1 t2 j j' gone) h.same.1 d0 in
    record {
      change = λ l. d.change (h.change l);
      tells = d.tells ∙ ap (on_link n d.change) h.tells ∙ twice n h.change d.change t;
      origin = λ l. (d.stands (h.change l)).1 ∙ (h.stands l).1;
      socket = d.same.1 ∙ h.same.1;
      others = d.others;
      here = λ l o. subst (λ x. TendedAs x s run2 (d.change (h.change l)) (talk seat.0 n.0 j') gone)
          (sym (d.same.0 ∙ h.same.0 ∙ live)) (
            (d.stands (h.change l)).0 ∙ (h.stands l).0
                ∙ o.0,
            d.after (h.change l) (h.known s l (talk seat.0 n.0 j) o.1),
          );
    }

pub moves_over : (seat : Seat) (n : LinkNo) (sockets : List Socket) (run run1 run2 : LinkRun) (conn : Link) (i : Heard)
    (t t1 t2 t3 : Told) (j j' : List Entry) (gone gone' : Type 0) → Hears n run run1 i t t1
    → Handles seat n (service_at sockets run1.socket) run1 run2 i end.Over t1 t2 j j' gone → t3 ≡ shut_on n t2
    → (gone → gone') → Moves seat n (service_at sockets run.socket) run (record run2 { stage = Shut; conn = conn }) t t3
    j j'
    gone'
moves_over seat n sockets run run1 run2 conn i t t1 t2 t3 j j' gone gone' h d0 e stays =
    let s : List ℕ = service_at sockets run.socket in
    let d : Handles seat n s run1 run2 i end.Over t1 t2 j j' gone =
    subst (λ k. Handles seat n (service_at sockets k) run1 run2 i end.Over t1 t2 j j' gone) h.same.1 d0 in
    record {
      change = λ l. with_shut (d.change (h.change l));
      tells = e ∙ ap (shut_on n) (d.tells ∙ ap (on_link n d.change) h.tells ∙ twice n h.change d.change t)
          ∙ shut_link n (λ l. d.change (h.change l)) t;
      origin = λ l. (d.stands (h.change l)).1 ∙ (h.stands l).1;
      socket = d.same.1 ∙ h.same.1;
      others = d.others;
      here = λ l o. let a = d.after (h.change l) (h.known s l (talk seat.0 n.0 j) o.1) in (
        ap (λ k. k + 1) ((d.stands (h.change l)).0 ∙ (h.stands l).0 ∙ o.0),
        carries_shut s _ _ a.0,
        λ ng. whole_shut s _ _ (a.1 (λ g. ng (stays g))),
      );
    }

left_carries : (e : StepEnd) (s : List ℕ) (l : LinkState) (t : Talk) (run : LinkRun) (gone : Type 0) → IsLeft e
    → After e s l t run gone → Carries s l t
left_carries e s l t run gone (inl is) a = subst (λ x. After x s l t run gone) is a
left_carries e s l t run gone (inr is) a = subst (λ x. After x s l t run gone) is a

pub moves_left : (seat : Seat) (n : LinkNo) (sockets : List Socket) (run run1 run2 : LinkRun) (i : Heard) (e : StepEnd)
    (t t1 t2 : Told) (j j' : List Entry) (gone : Type 0) → IsLeft e → Hears n run run1 i t t1
    → Handles seat n (service_at sockets run1.socket) run1 run2 i e t1 t2 j j' gone
    → Moves seat n (service_at sockets run.socket) run (record run2 { stage = Stopped }) t t2 j j' gone
moves_left seat n sockets run run1 run2 i e t t1 t2 j j' gone left h d0 =
    let s : List ℕ = service_at sockets run.socket in
    let d : Handles seat n s run1 run2 i e t1 t2 j j' gone =
    subst (λ k. Handles seat n (service_at sockets k) run1 run2 i e t1 t2 j j' gone) h.same.1 d0 in
    record {
      change = λ l. d.change (h.change l);
      tells = d.tells ∙ ap (on_link n d.change) h.tells ∙ twice n h.change d.change t;
      origin = λ l. (d.stands (h.change l)).1 ∙ (h.stands l).1;
      socket = d.same.1 ∙ h.same.1;
      others = d.others;
      here = λ l o. left_carries e s (d.change (h.change l)) (talk seat.0 n.0 j') run2 gone left
          (d.after (h.change l) (h.known s l (talk seat.0 n.0 j) o.1));
    }

-- a link that was lost stays lost
tended_stays : (g : Stage) (s : List ℕ) (run : LinkRun) (l : LinkState) (t : Talk) (gone gone' : Type 0)
    → (gone → gone') → TendedAs g s run l t gone → TendedAs g s run l t gone'
tended_stays Open s run l t gone gone' stays x = x
tended_stays Shut s run l t gone gone' stays x = (x.0, x.1, λ ng. x.2 (λ g. ng (stays g)))
tended_stays Stopped s run l t gone gone' stays x = x

is_tended_stays : (sockets : List Socket) (run : LinkRun) (l : LinkState) (t : Talk) (gone gone' : Type 0)
    → (gone → gone') → IsTended sockets run l t gone → IsTended sockets run l t gone'
is_tended_stays sockets run l t gone gone' stays (at, x) =
    (at, tended_stays run.stage (service_at sockets run.socket) run l t gone gone' stays x)

-- among the links, one moves
among : (seat : Seat) (n : LinkNo) (i : ℕ) (sockets : List Socket) (change : LinkState → LinkState) (run' : LinkRun)
    (j j' : List Entry) (gone gone' : LinkNo → Type 0) (runs : List LinkRun) (ls : List LinkState) → n.0 ≡ i + 1
    → i < length runs → Others seat n j j' → Stays gone gone'
    → ((l : LinkState) → IsTended sockets (run_at runs i) l (talk seat.0 (i + 1) j) (gone' (number i))
    → IsTended sockets run' (change l) (talk seat.0 (i + 1) j') (gone' (number i)))
    → AreTended seat sockets gone j runs ls
    → AreTended seat sockets gone' j' (set runs i run') (set ls i (change (get_or ls i blank)))
among seat n i sockets change run' j j' gone gone' runs ls e h others stays here (same, all) =
    (length-set ls i _ ∙ same ∙ sym (length-set runs i run'), each)
  where
    each : (k : ℕ) → k < length (set runs i run')
        → IsTended sockets (run_at (set runs i run') k) (get_or (set ls i (change (get_or ls i blank))) k blank)
        (talk seat.0 (k + 1) j') (gone' (number k))
    each k hk =
        let within : k < length runs = rw length-set at hk in
        elim (cases_eq k i) [
          | inl q ↦ subst (λ m. IsTended sockets (run_at (set runs i run') m)
              (get_or (set ls i (change (get_or ls i blank))) m blank) (talk seat.0 (m + 1) j') (gone' (number m)))
              (sym q)
              (subst (λ r. IsTended sockets r (get_or (set ls i (change (get_or ls i blank))) i blank)
              (talk seat.0 (i + 1) j') (gone' (number i))) (sym (get_or-set_same runs i run' blank_run h))
              (subst (λ l. IsTended sockets run' l (talk seat.0 (i + 1) j') (gone' (number i)))
              (sym (get_or-set_same ls i (change (get_or ls i blank)) blank (omega (arith, h, same))))
              (here (get_or ls i blank)
              (is_tended_stays sockets (run_at runs i) _ _ (gone (number i)) (gone' (number i)) (stays (number i))
              (all i h)))))
          | inr ne ↦ subst (λ r. IsTended sockets r (get_or (set ls i (change (get_or ls i blank))) k blank)
              (talk seat.0 (k + 1) j') (gone' (number k))) (sym (get_or-set_other runs i k run' blank_run ne))
              (subst (λ l. IsTended sockets (run_at runs k) l (talk seat.0 (k + 1) j') (gone' (number k)))
              (sym (get_or-set_other ls i k (change (get_or ls i blank)) blank ne))
              (subst (λ t. IsTended sockets (run_at runs k) (get_or ls k blank) t (gone' (number k)))
              (sym (others (k + 1) (λ x. ne (omega (arith, x, e)))))
              (is_tended_stays sockets (run_at runs k) _ _ (gone (number k)) (gone' (number k)) (stays (number k))
              (all k within))))
        ]

-- a link of the table is not outside of it
not_outside : (i count n : ℕ) → n ≡ i + 1 → i < count → IsOutside count n → ⊥
not_outside i count n e h (inl z) = omega arith
not_outside i count n e h (inr z) = omega arith

pub tended_move : (seat : Seat) (n : LinkNo) (i : ℕ) (sockets : List Socket) (run run' : LinkRun) (t new : Told)
    (j j' : List Entry)
    (u u' gone gone' : LinkNo → Type 0) (runs : List LinkRun) → n.0 ≡ i + 1 → i < length runs → run ≡ run_at runs i
    → run.stage ≡ Open
    → Tended seat sockets t u gone j runs → Moves seat n (service_at sockets run.socket) run run' t new j j' (gone' n)
    → Stays gone gone' → ((m : LinkNo) → m.0 ≢ n.0 → u m → u' m) → (run'.stage ≡ Open → u' n)
    → Tended seat sockets new u' gone' j' (set runs i run')
tended_move seat n i sockets run run' t new j j' u u' gone gone' runs e h is live all m stays keeps handle = record {
  links = subst (λ k. IfSome k.links (AreTended seat sockets gone' j' (set runs i run'))) (sym m.tells)
      (step t.links all.links);
  handle = λ k hk open_k. elim (cases_eq k i) [
    | inl q ↦ subst u' (ap (λ x. record { 0 = x }) (e ∙ ap (λ x. x + 1) (sym q)))
        (handle (ap (λ r. r.stage) (sym (ap (run_at (set runs i run')) q ∙ get_or-set_same runs i run' blank_run h))
        ∙ open_k))
    | inr ne ↦ keeps (number k) (λ x. ne (omega (arith, x, e)))
        (all.handle k (rw length-set at hk) (ap (λ r. r.stage) (sym (get_or-set_other runs i k run' blank_run ne))
        ∙ open_k))
  ];
  places = λ k hk. elim (cases_eq k i) [
    | inl q ↦ subst (λ r. r.socket.0 < length sockets)
        (sym (ap (run_at (set runs i run')) q ∙ get_or-set_same runs i run' blank_run h))
        (subst (λ x. x.0 < length sockets) (sym (m.socket ∙ ap (λ r. r.socket) is)) (all.places i h))
    | inr ne ↦ subst (λ r. r.socket.0 < length sockets) (sym (get_or-set_other runs i k run' blank_run ne))
        (all.places k (rw length-set at hk))
  ];
  quiet = λ k hk. let past : IsOutside (length runs) k = rw length-set at hk in
      m.others k (λ x. absurd (not_outside i (length runs) k (x ∙ e) h past)) ∙ all.quiet k past;
  given = ap (λ k. k.given) m.tells ∙ all.given ∙ sym (length-set runs i run');
}
  where
    here : (l : LinkState) → IsTended sockets (run_at runs i) l (talk seat.0 (i + 1) j) (gone' (number i))
        → IsTended sockets run' (m.change l) (talk seat.0 (i + 1) j') (gone' (number i))
    here l x = subst (λ k. IsTended sockets run' (m.change l) (talk seat.0 k j') (gone' (record { 0 = k }))) e
        (let y : IsTended sockets run l (talk seat.0 n.0 j) (gone' n) = subst
        (λ r. IsTended sockets r l (talk seat.0 n.0 j) (gone' n)) (sym is)
        (subst (λ k. IsTended sockets (run_at runs i) l (talk seat.0 k j) (gone' (record { 0 = k }))) (sym e) x) in (
          m.origin l ∙ y.0 ∙ ap AtSocket (sym m.socket),
          subst (λ k. TendedAs run'.stage (service_at sockets k) run' (m.change l) (talk seat.0 n.0 j') (gone' n))
              (sym m.socket)
              (m.here l (subst (λ g. TendedAs g (service_at sockets run.socket) run l (talk seat.0 n.0 j) (gone' n))
              live
              y.1)),
        ))

    step : (o : Option (List LinkState)) → IfSome o (AreTended seat sockets gone j runs)
        → IfSome (option_map (λ links. set links (n.0 - 1) (m.change (link_of links n))) o)
        (AreTended seat sockets gone' j' (set runs i run'))
    step None c = tt
    step (Some ls) c = let at : n.0 - 1 ≡ i = omega (arith, e) in
        subst (λ k. AreTended seat sockets gone' j' (set runs i run') (set ls k (m.change (get_or ls k blank))))
        (sym at)
        (among seat n i sockets m.change run' j j' gone gone' runs ls e h m.others stays here c)

default_free : (xs : List LinkRun) (i : ℕ) (d e : LinkRun) → i < length xs → get_or xs i d ≡ get_or xs i e
default_free [] i d e h = absurd (omega arith)
default_free (x ∷ xs) zero d e h = refl
default_free (x ∷ xs) (suc i) d e h = default_free xs i d e (omega arith)

pub found_run : (xs : List LinkRun) (i : ℕ) (r : LinkRun) → i < length xs → r ≡ get_or xs i r → r ≡ run_at xs i
found_run xs i r h e = e ∙ default_free xs i r blank_run h

-- nothing was told of the links
pub tended_same : (seat : Seat) (sockets : List Socket) (t new : Told) (u u' gone gone' : LinkNo
    → Type 0) (j : List Entry)
    (runs : List LinkRun) → new.links ≡ t.links → new.given ≡ t.given → ((n : LinkNo) → u n → u' n) → Stays gone gone'
    → Tended seat sockets t u gone j runs → Tended seat sockets new u' gone' j runs
tended_same seat sockets t new u u' gone gone' j runs e given keeps stays all = record {
  links = subst (λ o. IfSome o (AreTended seat sockets gone' j runs)) (sym e) (step t.links all.links);
  handle = λ i h o. keeps (number i) (all.handle i h o);
  places = all.places;
  quiet = all.quiet;
  given = given ∙ all.given;
}
  where
    step : (o : Option (List LinkState)) → IfSome o (AreTended seat sockets gone j runs)
        → IfSome o (AreTended seat sockets gone' j runs)
    step None c = tt
    step (Some ls) c = (
      c.0,
      λ i h. is_tended_stays sockets (run_at runs i) _ _ (gone (number i)) (gone' (number i))
          (stays (number i)) (c.1 i h),
    )

carried : (g : Stage) (s : List ℕ) (run : LinkRun) (l : LinkState) (t : Talk) (gone : Type 0)
    → TendedAs g s run l t gone → Carries s l t
carried Open s run l t gone x = carries_all s l t run.conn.queue false x.1.reading
carried Shut s run l t gone x = x.1
carried Stopped s run l t gone x = x

pub tended_session : (seat : Seat) (sockets : List Socket) (t : Told) (u gone : LinkNo → Type 0) (j : List Entry)
    (runs : List LinkRun) → Tended seat sockets t u gone j runs → IfSome t.links (Session seat sockets j)
tended_session seat sockets t u gone j runs all = step t.links all.links
  where
    outside : (n count : ℕ) → IsOutside count n ⊎ ((n ≡ (n - 1) + 1) × (n - 1 < count))
    outside n count = elim (cases_eq n 0) [
      | inl e ↦ inl (inl e)
      | inr ne ↦ elim (lt_or_le count n) [ inl h ↦ inl (inr h) | inr h ↦ inr (omega arith, omega arith) ]
    ]
      where
        lt_or_le : (a b : ℕ) → (a < b) ⊎ (b ≤ a)
        lt_or_le a zero = inr (omega arith)
        lt_or_le zero (suc b) = inl (omega arith)
        lt_or_le (suc a) (suc b) = elim (lt_or_le a b) [ inl h ↦ inl (omega arith) | inr h ↦ inr (omega arith) ]

    step : (o : Option (List LinkState)) → IfSome o (AreTended seat sockets gone j runs)
        → IfSome o (Session seat sockets j)
    step None c = tt
    step (Some ls) c = record {
      each = λ i h. let x = c.1 i (rw (← c.0) h) in
          subst (λ o. CarriesFrom sockets o (get_or ls i blank) (talk seat.0 (i + 1) j)) (sym x.0)
          (carried (run_at runs i).stage _ (run_at runs i) _ _ _ x.1);
      turns = λ n. orderly_means seat.0 n j (elim (outside n (length runs)) [
        | inl past ↦ ap (λ k. k.orderly) (all.quiet n past)
        | inr at ↦ subst (λ k. (talk seat.0 k j).orderly ≡ true) (sym at.0)
            ((carried (run_at runs (n - 1)).stage _ (run_at runs (n - 1)) _ _ _ (c.1 (n - 1) at.1).1).orderly)
      ]);
      others = λ n h. all.quiet n (rw (← c.0) h);
    }

pub tended_done : (seat : Seat) (sockets : List Socket) (t : Told) (u gone : LinkNo → Type 0) (j : List Entry)
    (runs : List LinkRun)
    → Tended seat sockets t u gone j runs → AreShut runs → IfSome t.links (Done seat sockets gone j)
tended_done seat sockets t u gone j runs all shut = step t.links all.links
  where
    step : (o : Option (List LinkState)) → IfSome o (AreTended seat sockets gone j runs)
        → IfSome o (Done seat sockets gone j)
    step None c = tt
    step (Some ls) c = λ i h.
        let within : i < length runs = rw (← c.0) h in
        let o = (c.1 i within).0 in
        let x : TendedAs Shut (service_at sockets (run_at runs i).socket) (run_at runs i) (get_or ls i blank)
        (talk seat.0 (i + 1) j) (gone (number i)) =
        subst (λ g. TendedAs g (service_at sockets (run_at runs i).socket) (run_at runs i) (get_or ls i blank)
        (talk seat.0 (i + 1) j) (gone (number i))) (shut i within) (c.1 i within).1 in
        (x.0, λ ng. subst (λ y. WholeFrom sockets y (get_or ls i blank) (talk seat.0 (i + 1) j)) (sym o) (x.2 ng))

-- a new link
opened_new : (s : List ℕ) (k : SockNo) → Opened s (new_link (AtSocket k)) no_talk (new_run k)
opened_new s k = record {
  reading = record {
    requests = [];
    reads = refl;
    closes = refl;
    arrived = refl;
    placed = tt;
    orderly = refl;
    answers = refl;
    sent = refl;
  };
  phase = refl;
  waits = λ _. unfinished_nothing;
}

last_run : (xs : List LinkRun) (x : LinkRun) → run_at (xs ++ x ∷ []) (length xs) ≡ x
last_run [] x = refl
last_run (y ∷ ys) x = last_run ys x

last_link : (xs : List LinkState) (x : LinkState) → get_or (xs ++ x ∷ []) (length xs) blank ≡ x
last_link [] x = refl
last_link (y ∷ ys) x = last_link ys x

pub old_run : (xs : List LinkRun) (x : LinkRun) (i : ℕ) → i < length xs → run_at (xs ++ x ∷ []) i ≡ run_at xs i
old_run [] x i h = absurd (omega arith)
old_run (y ∷ ys) x zero h = refl
old_run (y ∷ ys) x (suc i) h = old_run ys x i (omega arith)

old_link : (xs : List LinkState) (x : LinkState) (i : ℕ) → i < length xs → get_or (xs ++ x ∷ []) i blank
    ≡ get_or xs i blank
old_link [] x i h = absurd (omega arith)
old_link (y ∷ ys) x zero h = refl
old_link (y ∷ ys) x (suc i) h = old_link ys x i (omega arith)

given_links : (o : LinkOrigin) (t : Told)
    → (given_on o t).links ≡ option_map (λ links. links ++ new_link o ∷ []) t.links
unfolding given_on
given_links o t = refl

given_count : (o : LinkOrigin) (t : Told) → (given_on o t).given ≡ t.given + 1
unfolding given_on
given_count o t = refl

lt_or_last : (i n : ℕ) → i < n + 1 → (i < n) ⊎ (i ≡ n)
lt_or_last i n h = elim (cases_eq i n) [ inl e ↦ inr e | inr ne ↦ inl (omega arith) ]

outside_more : (count n : ℕ) → IsOutside (count + 1) n → IsOutside count n
outside_more count n (inl e) = inl e
outside_more count n (inr h) = inr (omega arith)

pub tended_new : (seat : Seat) (k : SockNo) (m : LinkNo) (sockets : List Socket) (t new : Told)
    (u u' gone gone' : LinkNo
    → Type 0) (j : List Entry) (runs : List LinkRun) → m.0 ≡ t.given + 1 → k.0 < length sockets
    → new ≡ given_on (AtSocket k) t → u' m → ((n : LinkNo) → u n → u' n) → Stays gone gone'
    → Tended seat sockets t u gone j runs → Tended seat sockets new u' gone' j (runs ++ new_run k ∷ [])
tended_new seat k m sockets t new u u' gone gone' j runs number_is place tells usable keeps stays all = record {
  links = subst (λ x. IfSome x (AreTended seat sockets gone' j (runs ++ new_run k ∷ [])))
      (sym (ap (λ x. x.links) tells ∙ given_links (AtSocket k) t)) (step t.links all.links);
  handle = λ i h live. elim (lt_or_last i (length runs) (rw length-append at h)) [
    | inl below ↦ keeps (number i) (all.handle i below (ap (λ r. r.stage) (sym (old_run runs (new_run k) i below))
        ∙ live))
    | inr last ↦ subst u' (ap (λ x. record { 0 = x }) (number_is ∙ ap (λ x. x + 1) (all.given ∙ sym last))) usable
  ];
  places = λ i h. elim (lt_or_last i (length runs) (rw length-append at h)) [
    | inl below ↦ subst (λ r. r.socket.0 < length sockets) (sym (old_run runs (new_run k) i below)) (all.places i below)
    | inr last ↦ subst (λ r. r.socket.0 < length sockets)
        (sym (ap (run_at (runs ++ new_run k ∷ [])) last ∙ last_run runs (new_run k))) place
  ];
  quiet = λ n h. all.quiet n (outside_more (length runs) n (rw length-append at h));
  given = ap (λ x. x.given) tells ∙ given_count (AtSocket k) t ∙ ap (λ x. x + 1) all.given
      ∙ sym (length-append runs (new_run k ∷ []));
}
  where
    fresh : LinkState
    fresh = new_link (AtSocket k)

    step : (x : Option (List LinkState)) → IfSome x (AreTended seat sockets gone j runs)
        → IfSome (option_map (λ links. links ++ fresh ∷ []) x) (AreTended seat sockets gone' j (runs ++ new_run k ∷ []))
    step None c = tt
    step (Some ls) (same, each) = (
      length-append ls _ ∙ ap (λ x. x + 1) same ∙ sym (length-append runs _),
      λ i h. elim (lt_or_last i (length runs) (rw length-append at h)) [
        | inl below ↦ subst (λ r. IsTended sockets r (get_or (ls ++ fresh ∷ []) i blank) (talk seat.0 (i + 1) j)
            (gone' (number i))) (sym (old_run runs (new_run k) i below))
            (subst (λ l. IsTended sockets (run_at runs i) l (talk seat.0 (i + 1) j) (gone' (number i)))
            (sym (old_link ls fresh i (omega (arith, below, same))))
            (is_tended_stays sockets (run_at runs i) _ _ (gone (number i)) (gone' (number i)) (stays (number i))
            (each i below)))
        | inr last ↦ subst (λ x. IsTended sockets (run_at (runs ++ new_run k ∷ []) x)
            (get_or (ls ++ fresh ∷ []) x blank) (talk seat.0 (x + 1) j) (gone' (number x))) (sym last)
            (subst (λ r. IsTended sockets r (get_or (ls ++ fresh ∷ []) (length runs) blank)
            (talk seat.0 (length runs + 1) j)
            (gone' (number (length runs)))) (sym (last_run runs (new_run k)))
            (subst (λ l. IsTended sockets (new_run k) l (talk seat.0 (length runs + 1) j)
            (gone' (number (length runs))))
            (sym (ap (λ x. get_or (ls ++ fresh ∷ []) x blank) (sym same) ∙ last_link ls fresh))
            (subst (λ y. IsTended sockets (new_run k) fresh y (gone' (number (length runs))))
            (sym (all.quiet (length runs + 1) (inr (omega arith)))) (
              refl,
              (refl, opened_new (service_at sockets k) k),
            ))))
      ],
    )

pub tended_first : (seat : Seat) (sockets : List Socket) (t : Told) (u gone : LinkNo → Type 0) (j : List Entry)
    (runs : List LinkRun)
    → runs ≡ [] → j ≡ [] → IfSome t.links (λ links. links ≡ []) → t.given ≡ 0 → Tended seat sockets t u gone j runs
tended_first seat sockets t u gone j runs e f links given =
    subst (λ r. Tended seat sockets t u gone j r) (sym e)
    (subst (λ x. Tended seat sockets t u gone x []) (sym f) (record {
      links = step t.links links;
      handle = λ i h. absurd (omega (arith, h));
      places = λ i h. absurd (omega (arith, h));
      quiet = λ n h. silent seat.0 n;
      given = given;
    }))
  where
    step : (o : Option (List LinkState)) → IfSome o (λ links. links ≡ []) → IfSome o (AreTended seat sockets gone [] [])
    step None c = tt
    step (Some ls) c = (ap length c, λ i h. absurd (omega (arith, h)))

pub kept_move : (seat : Seat) (n : LinkNo) (s : List ℕ) (run run' : LinkRun) (t new : Told) (j j' : List Entry)
    (gone : Type 0)
    → Moves seat n s run run' t new j j' gone → Kept t new
kept_move seat n s run run' t new j j' gone m =
    (ap (λ x. x.sockets) m.tells, ap (λ x. x.closed) m.tells, (ap (λ x. x.files) m.tells, ap (λ x. x.hosts) m.tells))
