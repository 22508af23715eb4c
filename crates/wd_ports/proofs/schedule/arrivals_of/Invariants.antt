use Rattle.std.proofs.Common.{◌≡◌, ◌++◌, drop}
use Rattle.std.specs.Prelude.{filter_map}
use Rattle.std.specs.List.{enumerate_from}
use Rattle.wd_ports.specs.Schedule.{arrival_of, arrivals_of}
use Rattle.wd_ports.proofs.schedule.arrivals_of.Given as goal

abbrev pub invariant-loop-number : goal.invariant-loop-number
invariant-loop-number l = l.arrivals ++ filter_map arrival_of (enumerate_from l.number (drop l.number l.events)) ≡ arrivals_of l.events
