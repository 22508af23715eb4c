use Rattle.std.proofs.Common.{◌≡◌, length}
use Rattle.wd_top.specs.Steps.{NoneFell}
use Rattle.wd_top.specs.Table.{Tended, Kept, Covers}
use Rattle.wd_top.proofs.seat.table.tend_listed.Given as goal

abbrev pub invariant-loop-k : goal.invariant-loop-k
invariant-loop-k g l = record {
  tended : Tended l.board.0.seat l.board.0.world.sockets (g.P.Files.told l.port) (g.P.Files.usable l.port)
      (g.P.Files.gone l.port) l.board.1 l.runs.items;
  same : length l.runs.items ≡ length l.initial.runs.items;
  fixed : l.board.0 ≡ l.initial.board.0;
  kept : Kept (g.P.Files.told l.initial.port) (g.P.Files.told l.port);
  covers : Covers l.live l.runs.items;
  faults : NoneFell (g.P.Files.faults l.initial.port) (g.P.Files.faults l.port);
}
