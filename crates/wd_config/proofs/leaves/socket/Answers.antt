use Rattle.std.proofs.lemmas.Result.{IfOk-weaker}
use Rattle.wd_config.specs.Leaves.{socket_address}
use Rattle.wd_config.specs.Addresses.{IsSocketAddress}
use Rattle.wd_config.proofs.LeafLaws.{same_option, socket_law}
use Rattle.wd_config.proofs.leaves.socket.Goals as goal

pub returns : goal.returns
returns c = IfOk-weaker c.socket_address.result _ _ (λ found told. same_option (IsSocketAddress c.args.text.now) found (socket_address c.args.text.now) told (socket_law c.args.text.now)) c.socket_address.ensures
