use Rattle.wd_config.proofs.AddressSteps.{one_socket}
use Rattle.wd_config.proofs.addresses.socket_address.Goals as goal

pub returns-in_ok-address-in-Some : goal.returns-in_ok-address-in-Some
returns-in_ok-address-in-Some c = one_socket c.args.text.now _ c.in_ok-address-in-Some.field-0 c.in_ok-address-in-Some.ensures c.in-Some.ensures
