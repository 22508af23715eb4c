use Rattle.std.proofs.Common.{drop}
use Rattle.http_message.proofs.ChunkSteps.{last_later, last_refused, trailer_seen}
use Rattle.http_message.proofs.chunks.last_of.Goals as goal

pub returns-in-Later : goal.returns-in-Later
returns-in-Later c = λ n fits.
    let bytes = c.args.bytes.now in
    last_later n bytes (drop c.args.line bytes) fits c.requires.reads (trailer_seen bytes c.args.line _ _ c.in-Later.is c.in_ok-read_trailer.ensures)

pub returns-in-Refused : goal.returns-in-Refused
returns-in-Refused c = λ n fits.
    let bytes = c.args.bytes.now in
    last_refused n bytes (drop c.args.line bytes) c.in-Refused.why c.requires.reads (trailer_seen bytes c.args.line _ _ c.in-Refused.is c.in_ok-read_trailer.ensures)
