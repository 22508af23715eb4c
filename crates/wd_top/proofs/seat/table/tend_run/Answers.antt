use Rattle.std.proofs.Common.{inl, inr}
use Rattle.wd_top.proofs.TableSteps.{moves_on, moves_over, moves_left}
use Rattle.wd_top.proofs.seat.table.tend_run.Goals as goal

pub returns-in-Open-clause-moves : goal.returns-in-Open-clause-moves
returns-in-Open-clause-moves g c = moves_on _ _ _ c.args.run.now c.hear-heard.new.run c.handle.new.run _ _ _ _ _ _ _
    c.requires.open c.hear-heard.ensures.hears (rw c.in-Open.is at c.handle.ensures.handles)

pub returns-in-Over-clause-moves : goal.returns-in-Over-clause-moves
returns-in-Over-clause-moves g c = moves_over _ _ _ c.args.run.now c.hear-heard.new.run c.handle.new.run _ _ _ _ _ _ _ _
    _
    _ c.hear-heard.ensures.hears (rw c.in-Over.is at c.handle.ensures.handles) c.shut.ensures.tells
    (c.shut.ensures.stays c.args.link).0

pub returns-in-Waits-clause-moves : goal.returns-in-Waits-clause-moves
returns-in-Waits-clause-moves g c = moves_left _ _ _ c.args.run.now c.hear-heard.new.run c.handle.new.run _ _ _ _ _ _ _
    _
    (inr c.in-Waits.is) c.hear-heard.ensures.hears c.handle.ensures.handles

pub returns-in-Full-clause-moves : goal.returns-in-Full-clause-moves
returns-in-Full-clause-moves g c = moves_left _ _ _ c.args.run.now c.hear-heard.new.run c.handle.new.run _ _ _ _ _ _ _ _
    (inl c.in-Full.is) c.hear-heard.ensures.hears c.handle.ensures.handles
