use Rattle.http_message.proofs.TrailerSteps.{section_never}
use Rattle.http_message.proofs.trailer.read_section.Goals as goal

pub returns-in_default : goal.returns-in_default
returns-in_default c = section_never c.args.bytes.now (c.in-Err.ensures.invalid c.in_default.not-TooManyHeaders)
