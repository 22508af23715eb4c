use Rattle.std.proofs.Common.{subst, [], ◌∷◌}
use Rattle.wd_config.specs.Build.{built}
use Rattle.wd_config.specs.Given.{Gives}
use Rattle.wd_config.specs.Values.{entry}
use Rattle.wd_config.proofs.Comes.{comes_then, gives_comes}
use Rattle.wd_config.proofs.values.bare_field.Goals as goal

pub returns-clause-reads : goal.returns-clause-reads
returns-clause-reads g c = comes_then _ _ c.in_ok-item.item c.built_alone.result c.in_ok-item.ensures.reads
    (gives_comes _ _ (subst (λ p. Gives (built c.args.kind p (entry c.args.slot c.in_ok-item.item ∷ [])) c.built_alone.result) c.place_of.ensures c.built_alone.ensures))
