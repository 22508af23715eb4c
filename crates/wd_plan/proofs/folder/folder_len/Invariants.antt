use Rattle.std.proofs.Common.{◌≡◌, ◌≤◌, length, drop, false}
use Rattle.wd_plan.specs.Folder.{has_slash}
use Rattle.wd_plan.proofs.folder.folder_len.Given as goal

abbrev pub invariant-loop-count : goal.invariant-loop-count
invariant-loop-count l = (l.count ≤ length l.path) × (has_slash (drop l.count l.path) ≡ false)

abbrev pub decreases-loop-count : goal.decreases-loop-count
decreases-loop-count l = l.count
