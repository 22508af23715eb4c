use Rattle.std.proofs.lemmas.Bool.{false≢true}
use Rattle.wd_config.specs.Ranges.{IsIp4}
use Rattle.wd_config.proofs.Exact.{none_found}
use Rattle.wd_config.proofs.addresses.is_dotted.Goals as goal

pub returns-in-None : goal.returns-in-None
returns-in-None c = ((λ t. absurd (false≢true t)), (λ d. absurd (none_found (IsIp4 c.args.host.now) c.ip4.result c.ip4.ensures c.in-None.is d.0 d.1)))
