use Rattle.std.proofs.Common.{◌≤◌, length, refl, sym, subst}
use Rattle.std.proofs.lemmas.List.{take_rest}
use Rattle.http_message.specs.Limits.{max_body}
use Rattle.http_response.specs.Response.{IsUnfinished}
use Rattle.http_response.proofs.ResponseSteps.{end_later}
use Rattle.http_response.proofs.response.read_to_end.Goals as goal

pub returns-then-not-ended : goal.returns-then-not-ended
returns-then-not-ended c =
    let bytes = c.args.bytes.now in
    let begun = c.args.begun in
    let later = end_later bytes begun c.requires.begun c.requires.ends (subst (λ t. length t ≤ max_body) (take_rest bytes begun.size) c.if-rest-gt-MAX_BODY.false) in
    (subst (λ e. IsUnfinished begun.to_head e bytes) (sym c.if-not-ended.true) later, (refl, c.requires.begun))
