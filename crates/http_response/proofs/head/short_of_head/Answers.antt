use Rattle.http_response.proofs.HeadSteps.{head_cut}
use Rattle.http_response.proofs.head.short_of_head.Goals as goal

pub returns-else-bytes-before : goal.returns-else-bytes-before
returns-else-bytes-before c = λ to. head_cut to c.args.before c.args.bytes.now c.requires.before c.if-bytes-before.false c.requires.none c.requires.may
