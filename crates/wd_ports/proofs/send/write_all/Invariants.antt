use Rattle.std.proofs.Common.{◌≡◌, ◌-◌, ◌≤◌, length, take}
use Rattle.wd_ports.specs.Told.{sent_on}
use Rattle.wd_ports.specs.Faults.{OnlyPart, WriteLink}
use Rattle.wd_ports.specs.Links.{Keeps, Stays}
use Rattle.wd_ports.proofs.send.write_all.Given as goal

abbrev pub invariant-loop-done : goal.invariant-loop-done
invariant-loop-done g l = record {
  keeps : Keeps (g.P.Files.usable l.initial.port) (g.P.Files.side l.initial.port) (g.P.Files.usable l.port) (g.P.Files.side l.port);
  stays : Stays (g.P.Files.gone l.initial.port) (g.P.Files.gone l.port);
  usable : g.P.Files.usable l.port l.link;
  within : l.done ≤ length l.bytes;
  tells : g.P.Files.told l.port ≡ sent_on l.link (take l.done l.bytes) (g.P.Files.told l.initial.port);
  side : g.P.Files.side l.port l.link ≡ g.P.Files.side l.initial.port l.link;
  part : OnlyPart (WriteLink (g.P.Files.side l.initial.port l.link)) (g.P.Files.faults l.initial.port) (g.P.Files.faults l.port);
}

abbrev pub decreases-loop-done : goal.decreases-loop-done
decreases-loop-done g l = length l.initial.bytes - l.done
