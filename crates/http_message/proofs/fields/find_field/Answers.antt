use Rattle.std.proofs.Common.{◌+◌, sym, ap, ◌∙◌, subst, map, take}
use Rattle.httparse.specs.Spans.{header_bytes}
use Rattle.http_message.specs.Fields.{is_word, values_of, IsFound}
use Rattle.http_message.proofs.FieldLemmas.{found_yes, found_no}
use Rattle.http_message.proofs.fields.find_field.Goals.{then-is_word, else-is_word}
use Rattle.http_message.proofs.fields.find_field.Goals as goal

pub loop-field-preserved : goal.loop-field-preserved
loop-field-preserved c =
    let bytes = c.args.bytes.now in
    let name = c.args.name.now in
    let values = values_of name (map (header_bytes bytes) (take (c.loop-field.field-index + 1) c.args.fields.now)) in
    elim c.if-is_word.branch [
      | then-is_word w ↦ subst (IsFound bytes values) (sym w.found-is)
          (found_yes name bytes c.args.fields.now c.loop-field.field-index _ _ _ c.loop-field-test.true (sym (w.if-is_word.ensures ∙ ap (is_word name) c.of.ensures))
          (λ vs x. w.add-found.ensures bytes vs x (c.requires c.loop-field.field-index _ c.loop-field-test.true).1) c.loop-field.invariant)
      | else-is_word w ↦ subst (IsFound bytes values) (sym w.found-is)
          (found_no name bytes c.args.fields.now c.loop-field.field-index _ _ c.loop-field-test.true (sym (w.if-is_word.ensures ∙ ap (is_word name) c.of.ensures)) c.loop-field.invariant)
    ]
