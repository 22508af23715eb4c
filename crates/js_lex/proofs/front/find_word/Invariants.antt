use Rattle.std.proofs.Common.{◌≡◌, length, map}
use Rattle.js_lex.specs.Front.{find_word}
use Rattle.js_lex.proofs.front.find_word.Given as goal

abbrev pub invariant-loop-words : goal.invariant-loop-words
invariant-loop-words l = find_word (map (λ k. (k.0.now, k.1)) l.words) l.text ≡ find_word (map (λ k. (k.0.now, k.1)) l.initial.words) l.text

abbrev pub decreases-loop-words : goal.decreases-loop-words
decreases-loop-words l = length l.words
