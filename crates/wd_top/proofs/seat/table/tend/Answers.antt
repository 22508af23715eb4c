use Rattle.std.proofs.Common.{sym, ◌∙◌, refl, ap, subst, ◌<◌, length}
use Rattle.wd_top.proofs.TableSteps.{tended_move, found_run, kept_move}
use Rattle.wd_top.proofs.seat.table.tend.Goals as goal

pub tend_run-requires-clause-socket : goal.tend_run-requires-clause-socket
tend_run-requires-clause-socket g c κs within = let here =
    found_run c.args.runs.now.items c.args.at _ c.requires.found c.index_mut.ensures.value in
    subst (λ r. r.socket.0 < length c.args.board.now.0.world.sockets) (sym here)
    (c.requires.tended.places c.args.at c.requires.found)

pub returns-clause-tended : goal.returns-clause-tended
returns-clause-tended g c = let m = c.tend_run.ensures in
    let here = found_run c.args.runs.now.items c.args.at _ c.requires.found c.index_mut.ensures.value in
    let there = found_run c.args.runs.now.items c.args.at _ c.requires.found c.index.ensures in
    rw m.fixed (tended_move _ _ c.args.at c.args.board.now.0.world.sockets c.index_mut.result.now c.tend_run.new.run _ _
    c.args.board.now.1 c.tend_run.new.board.1 _ _ _ _ c.args.runs.now.items refl c.requires.found here
    (ap (λ r. r.stage) (here ∙ sym there) ∙ c.is_open.ensures.0 c.if-not-is_open.false) c.requires.tended m.moves
    m.stays (λ n ne u. (m.keeps n ne u).0) m.handle)

pub returns-clause-kept : goal.returns-clause-kept
returns-clause-kept g c = kept_move _ _ _ _ _ _ _ _ _ _ c.tend_run.ensures.moves
