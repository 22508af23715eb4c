use Rattle.std.proofs.Common.{◌≡◌, take}
use Rattle.js_parse_core.proofs.tokens.units_of_letters.Given as goal

abbrev pub invariant-loop-letter : goal.invariant-loop-letter
invariant-loop-letter l = l.units ≡ take l.letter-index l.letters
