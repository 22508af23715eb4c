use Rattle.std.proofs.Common.{◌≡◌, ◌+◌, ◌-◌, ◌≤◌, length, drop}
use Rattle.js_lex.specs.Runs.{is_in, digits_len}
use Rattle.js_lex.proofs.units.past_digits.Given as goal

abbrev pub invariant-loop-end : goal.invariant-loop-end
invariant-loop-end l =
    (l.end + digits_len (is_in l.class) (drop l.end l.text) ≡ l.at + digits_len (is_in l.class) (drop l.at l.text)) × (l.at ≤ l.end) × (l.end ≤ length l.text)

abbrev pub decreases-loop-end : goal.decreases-loop-end
decreases-loop-end l = length l.text - l.end
