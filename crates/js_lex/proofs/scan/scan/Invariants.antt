use Rattle.std.proofs.Common.{◌≡◌, ◌+◌, ◌++◌, length}
use Rattle.js_lex.proofs.Whole.{tokens_from, tokens_of}
use Rattle.js_lex.proofs.scan.scan.Given as goal

abbrev pub invariant-loop-text : goal.invariant-loop-text
invariant-loop-text l =
    (l.state.tokens ++ tokens_from 0 l.state.place l.state.after_line_end l.state.braces l.text ≡ tokens_of l.initial.text) × (l.state.place + length l.text ≡ length l.initial.text)

abbrev pub decreases-loop-text : goal.decreases-loop-text
decreases-loop-text l = length l.text
