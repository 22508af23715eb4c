use Rattle.std.specs.Prelude.{All}
use Rattle.wd_ports.proofs.tests.first_wrong.Given as goal

abbrev pub invariant-loop-at : goal.invariant-loop-at
invariant-loop-at g l = All (g.P.Files.usable l.port) l.links
