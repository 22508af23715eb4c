use Rattle.std.proofs.Common.{sym, ap, ◌∙◌}
use Rattle.std.specs.Prelude.{codes}
use Rattle.http_message.specs.Fields.{is_word, has_close}
use Rattle.http_message.proofs.FieldLemmas.{any_field}
use Rattle.http_message.proofs.fields.asks_close.Goals as goal

pub returns-then-has_close : goal.returns-then-has_close
returns-then-has_close c =
    sym (any_field has_close (codes "connection") c.args.bytes.now c.args.fields.now c.loop-field.field-index _ c.loop-field-test.true
    (sym (c.if-is_word.ensures ∙ ap (is_word (codes "connection")) c.of.ensures)) (sym (c.if-has_close.ensures ∙ ap has_close c.of-then-is_word.ensures)))
