use Rattle.std.proofs.Common.{◌≡◌, ◌++◌, drop, map}
use Rattle.wd_ports.proofs.schedule.marks_of.Given as goal

abbrev pub invariant-loop-event : goal.invariant-loop-event
invariant-loop-event l = l.due ++ map (λ event. event.0) (drop l.event-index l.events) ≡ map (λ event. event.0) l.events
