use Rattle.http_message.proofs.FieldLemmas.{Scanned}
use Rattle.http_message.proofs.fields.has_close.Given as goal

abbrev pub invariant-loop-i : goal.invariant-loop-i
invariant-loop-i l = Scanned l.value l.start l.i
