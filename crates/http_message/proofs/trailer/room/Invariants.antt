use Rattle.std.proofs.Common.{◌≡◌, length}
use Rattle.http_message.proofs.trailer.room.Given as goal

abbrev pub invariant-loop : goal.invariant-loop
invariant-loop l = length l.spans.items ≡ l.counter
