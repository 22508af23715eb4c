use Rattle.std.proofs.Common.{subst}
use Rattle.std.proofs.lemmas.List.{take_rest}
use Rattle.http_message.specs.declared.chunks.Chunked.TheVariants as chunked
use Rattle.http_message.specs.Steps.{IsReading, ShowsChunked}
use Rattle.http_response.proofs.ResponseSteps.{chunked_later}
use Rattle.http_response.proofs.response.read_chunked.Goals as goal

pub returns-in-Later : goal.returns-in-Later
returns-in-Later c = λ ended.
    let bytes = c.args.bytes.now in
    let begun = c.args.begun in
    let rest = take_rest bytes begun.size in
    let reader = c.advance.new.self in
    chunked_later ended bytes begun reader c.requires.begun c.requires.chunked
    (subst (λ t. IsReading t reader) rest c.advance.ensures.reading)
    (subst (λ t. ShowsChunked t reader.body chunked.Later) rest (subst (ShowsChunked _ reader.body) c.in-Later.is c.in_ok-advance.ensures.shown))
