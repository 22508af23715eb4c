use Rattle.std.proofs.Common.{◌≤◌, arith, refl}
use Rattle.wd_config.specs.Ranges.{IsIp4}
use Rattle.wd_config.proofs.Exact.{finds_none}
use Rattle.wd_config.proofs.RangeSteps.{no_second, no_third, no_fourth, ip4_is}
use Rattle.wd_config.proofs.ranges.ip4.Goals as goal

pub returns-in_err-second : goal.returns-in_err-second
returns-in_err-second c = finds_none (IsIp4 c.args.text.now) c.from_residual-in_err-second.result c.from_residual-in_err-second.ensures (λ ip. no_second c.in_ok-first.first c.in_ok-first.rest.now c.args.text.now ip c.in_ok-first.ensures c.in_err-second.ensures)

pub returns-in_err-third : goal.returns-in_err-third
returns-in_err-third c = finds_none (IsIp4 c.args.text.now) c.from_residual-in_err-third.result c.from_residual-in_err-third.ensures
    (λ ip. no_third c.in_ok-first.first c.in_ok-second.second c.in_ok-first.rest.now c.in_ok-second.rest.now c.args.text.now ip c.in_ok-first.ensures c.in_ok-second.ensures c.in_err-third.ensures)

pub returns-in_err-fourth : goal.returns-in_err-fourth
returns-in_err-fourth c = finds_none (IsIp4 c.args.text.now) c.from_residual-in_err-fourth.result c.from_residual-in_err-fourth.ensures
    (λ ip. no_fourth c.in_ok-first.first c.in_ok-second.second c.in_ok-third.third c.in_ok-first.rest.now c.in_ok-second.rest.now c.in_ok-third.rest.now c.args.text.now c.number.result ip c.in_ok-first.ensures c.in_ok-second.ensures c.in_ok-third.ensures c.number.ensures c.in_err-fourth.was)

pub overflow_add-result-3 : goal.overflow_add-result-3
overflow_add-result-3 c =
    let a : c.in_ok-first.first ≤ 255 = c.in_ok-first.ensures.0 in
    let b : c.in_ok-second.second ≤ 255 = c.in_ok-second.ensures.0 in
    let d : c.in_ok-third.third ≤ 255 = c.in_ok-third.ensures.0 in
    let e : c.in_ok-fourth.fourth ≤ 255 = ((c.number.ensures c.in_ok-fourth.fourth).0 c.in_ok-fourth.was).1 in
    omega arith

pub returns : goal.returns
returns c = ip4_is c.in_ok-first.first c.in_ok-second.second c.in_ok-third.third c.in_ok-fourth.fourth c.in_ok-first.rest.now c.in_ok-second.rest.now c.in_ok-third.rest.now c.args.text.now c.number.result _ refl c.in_ok-first.ensures c.in_ok-second.ensures c.in_ok-third.ensures c.number.ensures c.in_ok-fourth.was
