use Rattle.http_response.proofs.HeadSteps.{wide_never}
use Rattle.http_response.proofs.find.find_into.Goals as goal

pub returns-in-Err : goal.returns-in-Err
returns-in-Err c = wide_never c.args.bytes.now _ _ c.requires.small c.requires.places c.in-Err.ensures.invalid c.in-Err.ensures.too_many
