use Rattle.std.proofs.Common.{◌≡◌, ◌≤◌, ◌+◌, ◌-◌, true, get_or, take, sym, ◌∙◌, subst, arith}
use Rattle.std.specs.Char.{is_ascii_digit}
use Rattle.std.specs.Str.Parse.{digits_value}
use Rattle.http_message.specs.Extents.{IsNumberUpTo}
use Rattle.http_message.specs.Limits.{max_body}
use Rattle.http_message.proofs.FieldLemmas.{digit_low, digits_more, value_more, number_more, number_over}
use Rattle.http_message.proofs.extent.number_of.Goals.{then-number-le-MAX_BODY, else-number-le-MAX_BODY}
use Rattle.http_message.proofs.extent.number_of.Goals as goal

pub loop-digit-preserved : goal.loop-digit-preserved
loop-digit-preserved c =
    let text = c.args.text.now in
    let i = c.loop-digit.digit-index in
    let n = c.loop-digit.number in
    let is : is_ascii_digit (get_or text i 0) ≡ true = sym c.is_ascii_digit.ensures.value ∙ c.if-not-is_ascii_digit.false in
    let low = digit_low (get_or text i 0) is in
    let before = digits_value 10 (take i text) in
    let after = digits_value 10 (take (i + 1) text) in
    let value = value_more text i c.loop-digit-test.true is in
    let digits = digits_more text i c.loop-digit-test.true is c.loop-digit.invariant.digits in
    elim c.if-number-le-MAX_BODY.branch [
      | then-number-le-MAX_BODY w ↦
          let e = w.number-is in
          let small = w.if-number-le-MAX_BODY.true in
          record {
            small = omega (arith, e, small, low);
            digits = digits;
            number = subst (IsNumberUpTo max_body after) (sym e) (number_more before after n (get_or text i 0 - 48) value c.loop-digit.invariant.number small);
          }
      | else-number-le-MAX_BODY w ↦
          let e = w.number-is in
          record {
            small = subst (λ m. m ≤ 10485769) (sym e) c.loop-digit.invariant.small;
            digits = digits;
            number = subst (IsNumberUpTo max_body after) (sym e) (number_over before after n (get_or text i 0 - 48) value c.loop-digit.invariant.number w.if-number-le-MAX_BODY.false);
          }
    ]
