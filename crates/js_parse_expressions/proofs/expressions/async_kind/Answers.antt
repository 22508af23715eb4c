use Rattle.std.proofs.Common.{◌∙◌, true, ap, subst, sym}
use Rattle.js_parse_core.specs.Expressions.{async_kind}
use Rattle.js_parse_core.specs.Outer.{Step}
use Rattle.js_parse_core.specs.Steps.{Steps}
use Rattle.js_parse_expressions.proofs.Signs.{other_sign}
use Rattle.js_parse_expressions.proofs.expressions.async_kind.Goals as goal

pub returns-in_default-sign : goal.returns-in_default-sign
returns-in_default-sign c =
    let outer = c.args.outer in
    let name = c.args.name in
    let token = c.args.token.now in
    let sign = ap (async_kind true outer name token) c.in-Punctuator.is in
    let other = other_sign true outer name token c.in-Punctuator.sign c.in_default-sign.not-OpenParen in
    subst (λ (s : Step). Steps s c.after_operand-in_default-sign.result) (sym (sign ∙ other)) c.after_operand-in_default-sign.ensures
