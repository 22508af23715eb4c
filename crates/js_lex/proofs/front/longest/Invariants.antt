use Rattle.std.proofs.Common.{◌≡◌, length, map}
use Rattle.js_lex.specs.Front.{longest}
use Rattle.js_lex.proofs.front.longest.Given as goal

abbrev pub invariant-loop-words : goal.invariant-loop-words
invariant-loop-words l = longest (map (λ k. (k.0.now, k.1)) l.words) l.first l.text ≡ longest (map (λ k. (k.0.now, k.1)) l.initial.words) l.first l.text

abbrev pub decreases-loop-words : goal.decreases-loop-words
decreases-loop-words l = length l.words
