use Rattle.std.proofs.Common.{◌≡◌, ◌+◌, length}
use Rattle.js_lex.specs.Runs.{begins}
use Rattle.js_lex.proofs.units.begins.Given as goal

abbrev pub invariant-loop-word : goal.invariant-loop-word
invariant-loop-word l = (begins l.text l.word ≡ begins l.initial.text l.initial.word) × (length l.initial.text + length l.word ≡ length l.text + length l.initial.word)

abbrev pub decreases-loop-word : goal.decreases-loop-word
decreases-loop-word l = length l.word
