use Rattle.std.proofs.Common.{◌≡◌, length}
use Rattle.std.specs.Prelude.{All}
use Rattle.wd_ports.specs.Streams.{no_stream}
use Rattle.wd_ports.proofs.schedule.empty_streams.Given as goal

abbrev pub invariant-loop : goal.invariant-loop
invariant-loop l = record {
  count : length l.streams.items ≡ l.counter;
  each : All (λ s. s ≡ no_stream) l.streams.items;
}
