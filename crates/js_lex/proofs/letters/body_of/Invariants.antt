use Rattle.std.proofs.Common.{◌≡◌, ◌+◌, length}
use Rattle.js_lex.specs.Letters.{body_of, after}
use Rattle.js_lex.proofs.letters.body_of.Given as goal

abbrev pub invariant-loop-text : goal.invariant-loop-text
invariant-loop-text l = (after l.value l.units (body_of l.quote 0 l.text) ≡ body_of l.quote 0 l.initial.text) × (l.units + length l.text ≡ length l.initial.text)

abbrev pub decreases-loop-text : goal.decreases-loop-text
decreases-loop-text l = length l.text
