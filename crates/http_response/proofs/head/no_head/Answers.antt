use Rattle.std.proofs.Common.{ap, take, ◌∙◌}
use Rattle.http_response.proofs.HeadSteps.{head_never}
use Rattle.http_response.proofs.head.no_head.Goals as goal

pub returns-in_default : goal.returns-in_default
returns-in_default c = λ to.
    let bytes = c.args.bytes.now in
    head_never to c.args.before bytes _ _ _ (c.first.ensures ∙ ap (λ n. take n bytes) c.saturating_sub.ensures) c.requires.never c.in_ok-find_head.ensures.found c.in_default.not-Later
