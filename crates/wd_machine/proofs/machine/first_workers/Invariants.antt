use Rattle.std.proofs.Common.{◌≡◌, drop, ◌++◌}
use Rattle.wd_machine.specs.First.{AreFirstOf, workers_among, first_workers}
use Rattle.wd_machine.proofs.machine.first_workers.Given as goal

-- the isolates that are left are those of the services that are left, and the Workers so far and those of what is left are those of all
abbrev pub invariant-loop-service : goal.invariant-loop-service
invariant-loop-service g l = record {
  starts : AreFirstOf g.I.Isolate.means l.services (drop l.service-index l.services) l.isolates.items;
  told : l.workers.items ++ workers_among g.I.Isolate.means l.services (drop l.service-index l.services) ≡ first_workers g.I.Isolate.means l.services;
}
