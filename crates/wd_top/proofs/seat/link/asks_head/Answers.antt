use Rattle.std.proofs.Common.{arith, sym, ◌∙◌}
use Rattle.wd_top.proofs.SessionSteps.{head_asked, line_begun, line_passed, lines_only}
use Rattle.wd_top.proofs.seat.link.asks_head.Goals.{then-loop-at-test+else-is_line_end, else-loop-at-test}
use Rattle.wd_top.proofs.seat.link.asks_head.Goals as goal

pub loop-at-preserved : goal.loop-at-preserved
loop-at-preserved c = (
  omega (arith, c.loop-at-test.true),
  c.loop-at.invariant.1
      ∙ line_passed c.args.bytes.now c.loop-at.at c.loop-at-test.true (sym c.is_line_end.ensures ∙ c.if-is_line_end.true),
)

pub returns : goal.returns
returns c = elim c.loop-at-test.branch [
  | then-loop-at-test+else-is_line_end w ↦ head_asked c.args.bytes.now c.loop-at.at _ c.loop-at.invariant.1
      (line_begun c.args.bytes.now c.loop-at.at w.loop-at-test.true
      (sym w.is_line_end.ensures ∙ w.if-is_line_end.false)) c.starts_with.ensures.value
  | else-loop-at-test w ↦ head_asked c.args.bytes.now c.loop-at.at _ c.loop-at.invariant.1
      (lines_only c.args.bytes.now c.loop-at.at (omega (arith, w.loop-at-test.false))) c.starts_with.ensures.value
]
