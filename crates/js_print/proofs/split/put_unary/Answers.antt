use Rattle.std.proofs.Common.{refl, ap}
use Rattle.js_grammar.specs.Grammar.{unary_form}
use Rattle.js_print.proofs.Splits.{operator_sign, operator_word}
use Rattle.js_print.proofs.split.put_unary.Goals as goal

pub returns-in-Not : goal.returns-in-Not
returns-in-Not c = operator_sign _ _ _ _ _ _ _ c.put.ensures (ap unary_form c.in-Not.is) refl

pub returns-in-Negate : goal.returns-in-Negate
returns-in-Negate c = operator_sign _ _ _ _ _ _ _ c.put-in-Negate.ensures (ap unary_form c.in-Negate.is) refl

pub returns-in-TypeOf : goal.returns-in-TypeOf
returns-in-TypeOf c = operator_word _ _ _ _ _ _ c.put-in-TypeOf.ensures c.in-TypeOf.is refl
