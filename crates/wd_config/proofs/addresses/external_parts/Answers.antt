use Rattle.std.proofs.lemmas.Bool.{false≢true}
use Rattle.wd_config.proofs.AddressSteps.{no_external_port, no_external_host, no_name}
use Rattle.wd_config.proofs.addresses.external_parts.Goals as goal

pub returns-in_err-port-in-Some : goal.returns-in_err-port-in-Some
returns-in_err-port-in-Some c = rw c.from_residual.ensures (no_external_port c.in-Some.host.now c.in-Some.port.now c.args.text.now c.port_of.result c.in-Some.ensures c.port_of.ensures c.in_err-port-in-Some.was)

pub returns-else-is_host_name : goal.returns-else-is_host_name
returns-else-is_host_name c = no_external_host c.in-Some.host.now c.in-Some.port.now c.args.text.now c.in-Some.ensures (λ h. false≢true (c.if-is_host_name.ensures.1 h))

pub returns-else-is_host_name-2 : goal.returns-else-is_host_name-2
returns-else-is_host_name-2 c = no_name c.args.text.now c.in-None.ensures (λ h. false≢true (c.if-is_host_name-2.ensures.1 h))
