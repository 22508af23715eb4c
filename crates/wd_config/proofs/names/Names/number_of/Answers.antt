use Rattle.std.proofs.Common.{◌∙◌, ap}
use Rattle.wd_config.specs.Names.{number_of}
use Rattle.wd_config.proofs.NameLemmas.{number_lookup}
use Rattle.wd_config.proofs.names.Names.number_of.Goals as goal

pub returns : goal.returns
returns c =
    c.copied.ensures ∙ c.get.ensures.value ∙ number_lookup c.self.inside.map.entries c.args.name.now
    ∙ ap (λ ps. number_of ps c.args.name.now) c.self.view_is
