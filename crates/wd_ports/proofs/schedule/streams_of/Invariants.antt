use Rattle.std.proofs.Common.{◌≡◌, ◌<◌, ℕ, ◌+◌, length, drop}
use Rattle.std.specs.Prelude.{slice_index_or, fold}
use Rattle.std.specs.List.{enumerate_from}
use Rattle.wd_ports.specs.Streams.{no_stream, link_event, link_stream}
use Rattle.wd_ports.proofs.schedule.streams_of.Given as goal

abbrev pub invariant-loop-number : goal.invariant-loop-number
invariant-loop-number l = record {
  count : length l.streams.items ≡ l.count;
  each : (k : ℕ) → k < l.count → fold (link_event (k + 1)) (slice_index_or l.streams.items k no_stream) (enumerate_from l.number (drop l.number l.events)) ≡ link_stream (k + 1) l.events;
}
