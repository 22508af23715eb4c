use Rattle.js_lex.proofs.UnitLemmas.{too_large}
use Rattle.js_lex.proofs.units.numeral.Goals as goal

pub returns-then-max-value-clause-value : goal.returns-then-max-value-clause-value
returns-then-max-value-clause-value c =
    too_large c.args.max c.args.base c.loop-digits.value c.args.first c.loop-digits.digits.now c.args.digits.now c.requires.base.0 c.in-len1-up.len_at_least c.loop-digits.invariant.0 (rw (← c.digit_of.ensures.value) c.if-max-value.true)
