use Rattle.std.proofs.Common.{sym, ◌∙◌, refl, ap, arith, subst, IfSome}
use Rattle.wd_top.specs.Session.{Session, Done}
use Rattle.wd_top.specs.Steps.{NoneFell}
use Rattle.wd_top.proofs.FaultSteps.{none_fell_same, none_fell_then}
use Rattle.wd_top.proofs.TableSteps.{tended_same, tended_session, tended_first, tended_done}
use Rattle.wd_top.proofs.LiveSteps.{within_first, covers_first, all_shut}
use Rattle.wd_top.proofs.seat.run.Goals as goal

pub loop-init : goal.loop-init
loop-init g c = record {
  can = tt;
  finite = tt;
  tended = tended_first _ _ _ _ _ _ _ c.new-runs.ensures.items c.requires.journal c.requires.links c.requires.given;
  within = within_first _ _ c.new-live.ensures.items;
  covers = covers_first _ _ c.new-runs.ensures.items;
  small = rw c.new-runs.ensures.items (omega arith);
  fixed = refl;
  sockets = refl;
  files = (refl, refl);
  faults = none_fell_same _;
}

pub loop-preserved : goal.loop-preserved
loop-preserved g c = let e = c.wait_where.ensures.tells in record {
  can = tt;
  finite = tt;
  tended = tended_same _ _ _ _ _ _ _ _ _ _ (ap (λ t. t.links) e) (ap (λ t. t.given) e)
      (λ n u. (c.wait_where.ensures.keeps n u).0) c.wait_where.ensures.stays c.tend_all.ensures.tended;
  within = c.in_ok-news.ensures.within;
  covers = c.in_ok-news.ensures.covers;
  small = rw c.tend_all.ensures.same c.in_ok-taken.ensures.small;
  fixed = c.tend_all.ensures.fixed ∙ c.loop.invariant.fixed;
  sockets = ap (λ t. t.sockets) e ∙ c.tend_all.ensures.kept.0 ∙ c.take_link.ensures.sockets ∙ c.loop.invariant.sockets;
  files = (
    ap (λ t. t.files) e ∙ c.tend_all.ensures.kept.2.0 ∙ c.take_link.ensures.files.0 ∙ c.loop.invariant.files.0,
    ap (λ t. t.hosts) e ∙ c.tend_all.ensures.kept.2.1 ∙ c.take_link.ensures.files.1 ∙ c.loop.invariant.files.1,
  );
  faults = none_fell_then _ _ _ (none_fell_then _ _ _ c.loop.invariant.faults c.take_link.ensures.faults)
      (subst (λ f. NoneFell (g.P.Files.faults c.take_link.new.port) f) (sym c.wait_where.ensures.blames)
      c.tend_all.ensures.faults);
}

pub returns-in_err-news-clause-session : goal.returns-in_err-news-clause-session
returns-in_err-news-clause-session g c =
    subst (λ w. IfSome (g.P.Files.told c.tend_all.new.port).links
    (Session w.seat w.world.sockets c.tend_all.new.board.1))
    (c.tend_all.ensures.fixed ∙ c.loop.invariant.fixed) (tended_session _ _ _ _ _ _ _ c.tend_all.ensures.tended)

pub returns-then-is_over-clause-session : goal.returns-then-is_over-clause-session
returns-then-is_over-clause-session g c =
    subst (λ w. IfSome (g.P.Files.told c.tend_all.new.port).links
    (Session w.seat w.world.sockets c.tend_all.new.board.1))
    (c.tend_all.ensures.fixed ∙ c.loop.invariant.fixed) (tended_session _ _ _ _ _ _ _ c.tend_all.ensures.tended)

pub returns-then-is_over-clause-done : goal.returns-then-is_over-clause-done
returns-then-is_over-clause-done g c =
    subst (λ w. IfSome (g.P.Files.told c.tend_all.new.port).links
    (Done w.seat w.world.sockets (g.P.Files.gone c.tend_all.new.port) c.tend_all.new.board.1)) (c.tend_all.ensures.fixed
    ∙ c.loop.invariant.fixed)
    (tended_done _ _ _ _ _ _ _ c.tend_all.ensures.tended
    (all_shut _ _ (c.is_empty.ensures c.if-is_empty.true) c.in_ok-news.ensures.covers))
