use Rattle.std.proofs.Common.{◌≡◌, map, take}
use Rattle.httparse.specs.Spans.{header_bytes}
use Rattle.http_in.specs.Stream.{small_names}
use Rattle.http_in.proofs.head.fields_of.Given as goal

abbrev pub invariant-loop-field : goal.invariant-loop-field
invariant-loop-field l = l.list ≡ small_names (map (header_bytes l.bytes) (take l.field-index l.fields))
