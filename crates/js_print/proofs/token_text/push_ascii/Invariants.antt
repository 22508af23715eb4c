use Rattle.std.proofs.Common.{◌≡◌, ◌++◌, length}
use Rattle.js_print.proofs.token_text.push_ascii.Given as goal

abbrev pub invariant-loop-text : goal.invariant-loop-text
invariant-loop-text l = l.out ++ l.text ≡ l.initial.out ++ l.initial.text

abbrev pub decreases-loop-text : goal.decreases-loop-text
decreases-loop-text l = length l.text
