use Rattle.std.proofs.Common.{◌≡◌, ◌-◌, ◌≤◌, length, take}
use Rattle.wd_ports.specs.Sink.{with_bytes}
use Rattle.wd_ports.proofs.sink.print.Given as goal

abbrev pub invariant-loop-done : goal.invariant-loop-done
invariant-loop-done g l = record {
  within : l.done ≤ length l.text;
  tells : g.K.Sink.held l.sink ≡ with_bytes (take l.done l.text) (g.K.Sink.held l.initial.sink);
  later : g.K.Sink.failures l.initial.sink ≤ g.K.Sink.failures l.sink;
}

abbrev pub decreases-loop-done : goal.decreases-loop-done
decreases-loop-done g l = length l.initial.text - l.done
