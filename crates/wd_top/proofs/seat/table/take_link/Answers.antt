use Rattle.std.proofs.Common.{ap, [], ◌∷◌, ◌++◌, subst, ◌<◌}
use Rattle.wd_top.specs.Table.{new_run}
use Rattle.wd_top.proofs.TableSteps.{tended_same, tended_session, tended_new}
use Rattle.wd_top.proofs.seat.table.take_link.Goals as goal

pub returns-in-Err-clause-session : goal.returns-in-Err-clause-session
returns-in-Err-clause-session g c = let e = c.in-Err.ensures.tells in
    tended_session _ _ _ _ _ _ _ (tended_same _ _ _ (g.P.Files.told c.accept.new.self) _ _ _ _ _ _ (ap (λ t. t.links) e)
    (ap (λ t. t.given) e) (λ n u. u) (λ n x. x) c.requires.tended)

pub returns-in-Ok-Later-clause-tended : goal.returns-in-Ok-Later-clause-tended
returns-in-Ok-Later-clause-tended g c = let e = rw c.in-Ok-Later.field-0-is at c.in-Ok-Later.ensures.tells in
    tended_same _ _ _ _ _ _ _ _ _ _ (ap (λ t. t.links) e) (ap (λ t. t.given) e) (λ n u. (c.accept.ensures.keeps n u).0)
    c.accept.ensures.stays c.requires.tended

pub returns-in-Ok-Closed-clause-tended : goal.returns-in-Ok-Closed-clause-tended
returns-in-Ok-Closed-clause-tended g c = let e = rw c.in-Ok-Closed.field-0-is at c.in-Ok-Closed.ensures.tells in
    tended_same _ _ _ _ _ _ _ _ _ _ (ap (λ t. t.links) e) (ap (λ t. t.given) e) (λ n u. (c.accept.ensures.keeps n u).0)
    c.accept.ensures.stays c.requires.tended

pub returns-in-Ok-clause-tended : goal.returns-in-Ok-clause-tended
returns-in-Ok-clause-tended g c =
    let e = rw c.in-Ok-Link.field-0-is at c.in-Ok-Link.ensures.tells in
    let f = rw c.in-Ok-Link.field-0-is at c.in-Ok-Link.ensures.fresh in
    let k = rw c.in-Ok-Link.field-0-is at c.in-Ok-Link.ensures.link in
    rw c.in-Ok.ensures.ok (tended_new _ c.in-Ok-Link.socket c.in-Ok-Link.field-0-1 _ _ _ _ _ _ _ _ c.args.runs.now.items
    f.0 (subst (λ n. c.in-Ok-Link.socket.0 < n) c.requires.sockets f.2) e k.0
    (λ n u. (c.accept.ensures.keeps n u).0) c.accept.ensures.stays c.requires.tended)

pub returns-in-Err-add_run-clause-session : goal.returns-in-Err-add_run-clause-session
returns-in-Err-add_run-clause-session g c =
    let e = rw c.in-Ok-Link.field-0-is at c.in-Ok-Link.ensures.tells in
    let f = rw c.in-Ok-Link.field-0-is at c.in-Ok-Link.ensures.fresh in
    let k = rw c.in-Ok-Link.field-0-is at c.in-Ok-Link.ensures.link in
    tended_session _ _ _ (g.P.Files.usable c.accept.new.self) (g.P.Files.gone c.accept.new.self) _
    (c.args.runs.now.items
    ++ new_run c.in-Ok-Link.socket ∷ [])
    (tended_new _ c.in-Ok-Link.socket c.in-Ok-Link.field-0-1 _ _ _ _ _ _ _ _ c.args.runs.now.items f.0
    (subst (λ n. c.in-Ok-Link.socket.0 < n) c.requires.sockets f.2) e k.0 (λ n u. (c.accept.ensures.keeps n u).0)
    c.accept.ensures.stays c.requires.tended)
