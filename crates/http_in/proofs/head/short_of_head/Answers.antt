use Rattle.http_in.proofs.HeadSteps.{head_later, head_cut}
use Rattle.http_in.proofs.head.short_of_head.Goals as goal

pub returns-then-bytes-lt-MAX_HEAD : goal.returns-then-bytes-lt-MAX_HEAD
returns-then-bytes-lt-MAX_HEAD c = head_later c.args.bytes.now c.if-bytes-lt-MAX_HEAD.true c.requires.none c.requires.may

pub returns-else-bytes-lt-MAX_HEAD : goal.returns-else-bytes-lt-MAX_HEAD
returns-else-bytes-lt-MAX_HEAD c = head_cut c.args.bytes.now c.if-bytes-lt-MAX_HEAD.false c.requires.none c.requires.may
