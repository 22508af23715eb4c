use Rattle.std.proofs.Common.{◌∙◌}
use Rattle.wd_top.proofs.FaultSteps.{none_fell_then}
use Rattle.wd_top.proofs.LiveSteps.{below_index, covers_step}
use Rattle.wd_top.proofs.seat.table.tend_listed.Goals as goal

pub tend-requires-clause-found : goal.tend-requires-clause-found
tend-requires-clause-found g c κs within =
    rw c.loop-k.invariant.same (below_index _ c.args.live.now c.loop-k.k c.loop-k-test.true c.requires.within)

pub loop-k-preserved : goal.loop-k-preserved
loop-k-preserved g c = record {
  tended = c.tend.ensures.tended;
  same = c.tend.ensures.same ∙ c.loop-k.invariant.same;
  fixed = c.tend.ensures.fixed ∙ c.loop-k.invariant.fixed;
  kept = (
    c.tend.ensures.kept.0 ∙ c.loop-k.invariant.kept.0,
    c.tend.ensures.kept.1 ∙ c.loop-k.invariant.kept.1,
    (c.tend.ensures.kept.2.0 ∙ c.loop-k.invariant.kept.2.0, c.tend.ensures.kept.2.1 ∙ c.loop-k.invariant.kept.2.1),
  );
  covers = covers_step c.args.live.now c.loop-k.k _ _ c.loop-k-test.true c.tend.ensures.same c.tend.ensures.others
      c.loop-k.invariant.covers;
  faults = none_fell_then _ _ _ c.loop-k.invariant.faults c.tend.ensures.faults;
}
