use Rattle.std.proofs.Common.{◌≡◌, map, take}
use Rattle.httparse.specs.Spans.{header_bytes}
use Rattle.http_response.specs.Response.{kept_fields}
use Rattle.http_response.proofs.head.kept_fields.Given as goal

abbrev pub invariant-loop-field : goal.invariant-loop-field
invariant-loop-field l = l.list ≡ kept_fields (map (header_bytes l.bytes) (take l.field-index l.fields))
