use Rattle.std.proofs.Common.{length, ◌-◌, ◌≡◌, ◌≤◌, drop}
use Rattle.wd_plan.specs.Script.{behind, literal_value}
use Rattle.wd_plan.proofs.script.literal_value.Given as goal

abbrev pub invariant-loop-at : goal.invariant-loop-at
invariant-loop-at l = (l.at ≤ length l.literal)
    × (literal_value l.literal ≡ behind l.value (literal_value (drop l.at l.literal)))

abbrev pub decreases-loop-at : goal.decreases-loop-at
decreases-loop-at l = length l.literal - l.at
