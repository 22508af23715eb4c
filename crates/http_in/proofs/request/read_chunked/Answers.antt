use Rattle.std.proofs.Common.{subst}
use Rattle.std.proofs.lemmas.List.{take_rest}
use Rattle.http_message.specs.declared.chunks.Chunked.TheVariants as chunked
use Rattle.http_message.specs.Steps.{IsReading, ShowsChunked}
use Rattle.http_in.proofs.BegunSteps.{chunked_later, chunked_whole}
use Rattle.http_in.proofs.request.read_chunked.Goals as goal

pub returns-in-Later : goal.returns-in-Later
returns-in-Later c =
    let bytes = c.args.bytes.now in
    let begun = c.args.begun in
    let rest = take_rest bytes begun.size in
    let reader = c.advance.new.self in
    chunked_later bytes begun reader c.requires.begun c.requires.chunked
    (subst (λ t. IsReading t reader) rest c.advance.ensures.reading)
    (subst (λ t. ShowsChunked t reader.body chunked.Later) rest (subst (ShowsChunked _ reader.body) c.in-Later.is c.in_ok-advance.ensures.shown))

pub returns-in-Whole : goal.returns-in-Whole
returns-in-Whole c =
    let bytes = c.args.bytes.now in
    let begun = c.args.begun in
    let rest = take_rest bytes begun.size in
    let body = c.advance.new.self.body in
    let whole = chunked.Whole c.in-Whole.size in
    chunked_whole bytes begun body c.in-Whole.size c.with_body.result c.requires.begun c.requires.chunked
    (subst (λ t. ShowsChunked t body whole) rest (subst (ShowsChunked _ body) c.in-Whole.is c.in_ok-advance.ensures.shown))
    c.with_body.ensures
