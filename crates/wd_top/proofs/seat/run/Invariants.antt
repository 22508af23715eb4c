use Rattle.std.proofs.Common.{◌≡◌, ◌<◌, ◌^◌, length}
use Rattle.wd_top.specs.Steps.{NoneFell}
use Rattle.wd_top.specs.Table.{Tended, AreWithin, Covers, SameFiles}
use Rattle.wd_top.proofs.seat.run.Given as goal

abbrev pub invariant-loop : goal.invariant-loop
invariant-loop g l = record {
  can : (goal.iterator-loop g).can_next l.iterator';
  finite : (goal.iterator-loop g).is_finite l.iterator';
  tended : Tended l.board.0.seat l.board.0.world.sockets (g.P.Files.told l.port) (g.P.Files.usable l.port)
      (g.P.Files.gone l.port) l.board.1 l.runs.items;
  within : AreWithin l.live.items (length l.runs.items);
  covers : Covers l.live.items l.runs.items;
  small : length l.runs.items < 2 ^ 32;
  fixed : l.board.0 ≡ l.initial.board.0;
  sockets : (g.P.Files.told l.port).sockets ≡ (g.P.Files.told l.initial.port).sockets;
  files : SameFiles (g.P.Files.told l.initial.port) (g.P.Files.told l.port);
  faults : NoneFell (g.P.Files.faults l.initial.port) (g.P.Files.faults l.port);
}
