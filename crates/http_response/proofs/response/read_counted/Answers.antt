use Rattle.std.proofs.Common.{length, refl, ap, take, arith, ◌∙◌}
use Rattle.std.proofs.lemmas.List.{take_rest}
use Rattle.http_response.proofs.ResponseSteps.{counted_later, counted_whole}
use Rattle.http_response.proofs.response.read_counted.Goals as goal

pub returns-then-rest-size : goal.returns-then-rest-size
returns-then-rest-size c = λ ended.
    let bytes = c.args.bytes.now in
    let begun = c.args.begun in
    let rest = ap length (take_rest bytes begun.size) in
    let short = c.if-rest-size.true in
    (counted_later ended bytes begun c.args.size c.requires.begun c.requires.counted (omega (arith, rest, short)), (refl, c.requires.begun))

pub returns : goal.returns
returns c = λ ended.
    let bytes = c.args.bytes.now in
    let begun = c.args.begun in
    let rest = take_rest bytes begun.size in
    let long = ap length rest in
    let fits = c.if-rest-size.false in
    counted_whole ended bytes begun c.args.size c.with_body.result c.requires.begun c.requires.counted (omega (arith, long, fits))
    (c.with_body.ensures ∙ ap (λ body. record begun.reply { body = body }) (c.in_ok-body.ensures ∙ ap (take c.args.size) rest))
