use Rattle.std.proofs.Common.{arith}
use Rattle.wd_top.proofs.LiveSteps.{at_within, compacts}
use Rattle.wd_top.proofs.seat.table.keep_front.Goals as goal

pub is_shut_at-requires : goal.is_shut_at-requires
is_shut_at-requires c = let i = c.loop-k.invariant in at_within c.args.runs.now c.loop-k.live c.args.live.now c.loop-k.k
    (let s = i.same in let t = c.loop-k-test.true in omega arith) i.same i.rest c.requires

pub loop-k-preserved : goal.loop-k-preserved
loop-k-preserved c = let i = c.loop-k.invariant in let p = c.place-kept.ensures in
    compacts c.args.runs.now c.args.live.now c.loop-k.live c.place-kept.new.live c.loop-k.kept c.place-kept.result
    c.loop-k.k c.is_shut_at.result (let s = i.same in let t = c.loop-k-test.true in omega arith) i
    c.is_shut_at.ensures c.place-kept.auto.live p.front p.rest p.bound
