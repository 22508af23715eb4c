use Rattle.std.proofs.lemmas.Result.{IfOk-weaker}
use Rattle.wd_config.specs.Leaves.{external_address}
use Rattle.wd_config.specs.Addresses.{IsExternalAddress}
use Rattle.wd_config.proofs.LeafLaws.{same_option, external_law}
use Rattle.wd_config.proofs.leaves.external.Goals as goal

pub returns : goal.returns
returns c = IfOk-weaker c.external_address.result _ _ (λ found told. same_option (IsExternalAddress c.args.text.now) found (external_address c.args.text.now) told (external_law c.args.text.now)) c.external_address.ensures
