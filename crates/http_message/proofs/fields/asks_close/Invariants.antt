use Rattle.std.proofs.Common.{◌≡◌, false, take, map}
use Rattle.std.specs.Prelude.{codes}
use Rattle.std.specs.List.{list_any}
use Rattle.httparse.specs.Spans.{header_bytes}
use Rattle.http_message.specs.Fields.{values_of, has_close}
use Rattle.http_message.proofs.fields.asks_close.Given as goal

abbrev pub invariant-loop-field : goal.invariant-loop-field
invariant-loop-field l = list_any has_close (values_of (codes "connection") (map (header_bytes l.bytes) (take l.field-index l.fields))) ≡ false
