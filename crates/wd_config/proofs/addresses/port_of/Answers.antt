use Rattle.std.proofs.Common.{◌≤◌, arith}
use Rattle.wd_config.proofs.AddressSteps.{port_is}
use Rattle.wd_config.proofs.addresses.port_of.Goals as goal

pub overflow_cast-result : goal.overflow_cast-result
overflow_cast-result c = let low : c.in_ok-port.port ≤ 65535 = ((c.number.ensures c.in_ok-port.port).0 c.in_ok-port.was).1 in omega arith

pub returns : goal.returns
returns c = port_is c.args.text.now c.number.result c.in_ok-port.port c.number.ensures c.in_ok-port.was c.if-port-eq0.false
