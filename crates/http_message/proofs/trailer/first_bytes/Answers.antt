use Rattle.std.proofs.Common.{sym, arith}
use Rattle.std.proofs.lemmas.List.{take_all, length-take-le}
use Rattle.http_message.proofs.trailer.first_bytes.Goals as goal

pub slice_bounds-result-end : goal.slice_bounds-result-end
slice_bounds-result-end c = sym (length-take-le 16384 c.args.bytes.now (omega (arith, c.if-bytes-gt-MAX_HEAD.true)))

pub returns-else-bytes-gt-MAX_HEAD : goal.returns-else-bytes-gt-MAX_HEAD
returns-else-bytes-gt-MAX_HEAD c = sym (take_all 16384 c.args.bytes.now (omega (arith, c.if-bytes-gt-MAX_HEAD.false)))
