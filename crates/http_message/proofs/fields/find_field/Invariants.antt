use Rattle.std.proofs.Common.{take, map}
use Rattle.httparse.specs.Spans.{header_bytes}
use Rattle.http_message.specs.Fields.{values_of, IsFound}
use Rattle.http_message.proofs.fields.find_field.Given as goal

abbrev pub invariant-loop-field : goal.invariant-loop-field
invariant-loop-field l = IsFound l.bytes (values_of l.name (map (header_bytes l.bytes) (take l.field-index l.fields))) l.found
