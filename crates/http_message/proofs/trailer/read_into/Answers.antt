use Rattle.std.proofs.Common.{Err, ap, subst}
use Rattle.httparse.specs.Spans.{SectionExceeds}
use Rattle.http_message.proofs.TrailerSteps.{section_many, section_never, no_excess}
use Rattle.http_message.proofs.trailer.read_into.Goals as goal

pub returns-in-Err : goal.returns-in-Err
returns-in-Err c =
    let bytes = c.args.bytes.now in
    section_never bytes (c.in-Err.ensures.invalid (λ e. no_excess bytes c.requires.small (subst (λ n. SectionExceeds n bytes) c.requires.places (c.in-Err.ensures.too_many (ap Err e)))))

pub returns-in-Ok-Complete : goal.returns-in-Ok-Complete
returns-in-Ok-Complete c =
    let e = rw c.in-Ok-Complete.field-0-is at c.in-Ok-Complete.ensures in
    section_many c.args.bytes.now c.parse_headers.new.headers c.in-Ok-Complete.field-0-0.0 c.in-Ok-Complete.field-0-0.1 c.requires.many e.complete
