use Rattle.std.proofs.Common.{subst}
use Rattle.http_response.specs.Steps.{BeginsWithAll}
use Rattle.http_response.proofs.ResponseSteps.{heads_unfinished}
use Rattle.http_response.proofs.response.read_response.Goals as goal

pub returns-in-Later : goal.returns-in-Later
returns-in-Later c =
    let bytes = c.args.bytes.now in
    let to = c.args.to_head in
    let seen = subst (BeginsWithAll to bytes) c.in-Later.is c.in_ok-at-in-Heads.ensures in
    (heads_unfinished to c.args.ended bytes c.in-Later.at seen.0 seen.1, seen.0)
