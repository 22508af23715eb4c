use Rattle.std.proofs.Common.{ℕ}
use Rattle.std.specs.Ordering.{nat_cmp}
use Rattle.std.specs.BTreeMap.{ContainsKey}
use Rattle.workerd.proofs.port.note_news.Given as goal

-- no link is lost, and none comes
abbrev pub invariant-loop-event : goal.invariant-loop-event
invariant-loop-event l = ((n : ℕ) → ContainsKey nat_cmp l.initial.links n → ContainsKey nat_cmp l.links n) × ((n : ℕ) → ContainsKey nat_cmp l.links n → ContainsKey nat_cmp l.initial.links n)
