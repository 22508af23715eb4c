use Rattle.std.proofs.Common.{◌≡◌, ◌≤◌, length, take}
use Rattle.wd_config.specs.Values.{follow, in_place}
use Rattle.wd_config.proofs.places.in_place.Given as goal

abbrev pub invariant-loop-left : goal.invariant-loop-left
invariant-loop-left l = record {
  follow : follow l.left l.scope.file.now l.scope.constants.now (l.active, l.value) ≡ in_place l.scope.file.now l.scope.constants.now l.fn.active l.fn.value;
  keep : take (length l.fn.active) l.active ≡ l.fn.active;
  longer : length l.fn.active ≤ length l.active;
}

abbrev pub decreases-loop-left : goal.decreases-loop-left
decreases-loop-left l = l.left
