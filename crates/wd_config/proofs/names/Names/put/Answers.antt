use Rattle.std.proofs.Common.{◌∙◌, ap}
use Rattle.wd_config.specs.Names.{pairs_of, put}
use Rattle.wd_config.proofs.NameLemmas.{pairs_insert_entry}
use Rattle.wd_config.proofs.names.Names.put.Goals as goal

pub returns : goal.returns
returns c =
    ap pairs_of c.in-Ok.ensures.entries ∙ pairs_insert_entry c.self.inside.map.entries c.in_ok-name.name c.args.number
    ∙ ap (λ ps. put ps c.in_ok-name.name.items c.args.number) c.self.view_is ∙ ap (λ n. put c.args.self.now n c.args.number) c.in_ok-name.ensures.items
