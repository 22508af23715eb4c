use Rattle.std.proofs.Common.{◌≡◌, ◌+◌, length}
use Rattle.js_lex.specs.Front.{comment, later}
use Rattle.js_lex.proofs.front.comment.Given as goal

abbrev pub invariant-loop-text : goal.invariant-loop-text
invariant-loop-text l = (later l.units (comment l.text) ≡ comment l.initial.text) × (l.units + length l.text ≡ length l.initial.text)

abbrev pub decreases-loop-text : goal.decreases-loop-text
decreases-loop-text l = length l.text
