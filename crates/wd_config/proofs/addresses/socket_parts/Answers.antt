use Rattle.std.proofs.Common.{refl}
use Rattle.std.proofs.lemmas.Bool.{false≢true}
use Rattle.wd_config.proofs.AddressSteps.{no_colon, no_port, no_host, to_socket}
use Rattle.wd_config.proofs.addresses.socket_parts.Goals as goal

pub returns-in_err-host : goal.returns-in_err-host
returns-in_err-host c = rw c.from_residual.ensures (no_colon c.args.text.now c.in_err-host.ensures)

pub returns-in_err-port : goal.returns-in_err-port
returns-in_err-port c = rw c.from_residual-in_err-port.ensures (no_port c.in_ok-host.host.now c.in_ok-host.port.now c.args.text.now c.port_of.result c.in_ok-host.ensures c.port_of.ensures c.in_err-port.was)

pub returns-then-is_socket_host : goal.returns-then-is_socket_host
returns-then-is_socket_host c = to_socket c.in_ok-host.host.now c.in_ok-host.port.now c.args.text.now c.port_of.result c.in_ok-port.port c.in_ok-host.ensures c.port_of.ensures c.in_ok-port.was (c.if-is_socket_host.ensures.0 refl)

pub returns-else-is_socket_host : goal.returns-else-is_socket_host
returns-else-is_socket_host c = no_host c.in_ok-host.host.now c.in_ok-host.port.now c.args.text.now c.in_ok-host.ensures (λ h. false≢true (c.if-is_socket_host.ensures.1 h))
