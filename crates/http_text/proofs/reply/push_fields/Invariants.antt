use Rattle.std.proofs.Common.{◌≡◌, ◌++◌, take}
use Rattle.std.specs.Prelude.{flat_map}
use Rattle.http_text.specs.Fields.{kept_line}
use Rattle.http_text.proofs.reply.push_fields.Given as goal

abbrev pub invariant-loop-field : goal.invariant-loop-field
invariant-loop-field l = l.text.items ≡ l.initial.text.items ++ flat_map kept_line (take l.field-index l.fields)
