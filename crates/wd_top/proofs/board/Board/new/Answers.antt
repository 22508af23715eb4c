use Rattle.wd_top.proofs.BoardSteps.{first_run, first_stands}
use Rattle.wd_top.proofs.board.Board.new.Goals as goal

pub invariant_of-result : goal.invariant_of-result
invariant_of-result g c =
    rw (c.new-2.ensures, c.in_ok-machine.ensures) (
      first_run c.args.seat g.I.Isolate.means c.args.world,
      c.requires.known,
      (λ _. first_stands g.I.Isolate.means c.args.world),
      (λ _ _. tt),
      c.requires.below,
    )
