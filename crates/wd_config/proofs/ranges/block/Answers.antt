use Rattle.std.proofs.Common.{◌≤◌, arith, refl}
use Rattle.wd_config.specs.Ranges.{IsBlock}
use Rattle.wd_config.proofs.Exact.{finds_none}
use Rattle.wd_config.proofs.RangeSteps.{no_slash, no_base, no_bits, block_is}
use Rattle.wd_config.proofs.ranges.block.Goals as goal

pub returns-in_err-base-2 : goal.returns-in_err-base-2
returns-in_err-base-2 c = finds_none (IsBlock c.args.text.now) c.from_residual-in_err-base-2.result c.from_residual-in_err-base-2.ensures
    (λ r. no_base c.in_ok-base.base.now c.in_ok-base.bits.now c.args.text.now c.ip4.result r c.in_ok-base.ensures c.ip4.ensures c.in_err-base-2.was)

pub returns-in_err-bits : goal.returns-in_err-bits
returns-in_err-bits c = finds_none (IsBlock c.args.text.now) c.from_residual-in_err-bits.result c.from_residual-in_err-bits.ensures
    (λ r. no_bits c.in_ok-base.base.now c.in_ok-base.bits.now c.args.text.now c.number.result r c.in_ok-base.ensures c.number.ensures c.in_err-bits.was)

pub overflow_cast-result : goal.overflow_cast-result
overflow_cast-result c = let low : c.in_ok-bits.bits ≤ 32 = ((c.number.ensures c.in_ok-bits.bits).0 c.in_ok-bits.was).1 in omega arith

pub returns : goal.returns
returns c = block_is c.in_ok-base.base.now c.in_ok-base.bits.now c.args.text.now c.in_ok-base-2.base c.in_ok-bits.bits c.ip4.result c.number.result _ refl refl refl c.in_ok-base.ensures c.ip4.ensures c.in_ok-base-2.was c.number.ensures c.in_ok-bits.was

pub returns-in_err-base : goal.returns-in_err-base
returns-in_err-base c = finds_none (IsBlock c.args.text.now) c.from_residual.result c.from_residual.ensures (λ r. no_slash c.args.text.now r c.in_err-base.ensures)
