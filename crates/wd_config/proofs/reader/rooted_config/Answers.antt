use Rattle.std.proofs.Common.{ℕ, List, [], ◌∷◌, ◌++◌, ap, ◌∙◌}
use Rattle.std.proofs.lemmas.Result.{err_from_is_err_and}
use Rattle.wd_config.specs.Scope.{context}
use Rattle.wd_config.specs.Configured.{root_of}
use Rattle.wd_config.proofs.ConfiguredLaws.{rooted_stops, rooted_comes}
use Rattle.wd_config.proofs.SoundLaws.{config_few, config_sound}
use Rattle.wd_config.proofs.reader.rooted_config.Goals as goal

pub returns-in_err-item-clause-reads : goal.returns-in_err-item-clause-reads
returns-in_err-item-clause-reads g c = let p = err_from_is_err_and c.from_residual-in_err-item.result c.from_residual-in_err-item.ensures.1 in rw (p.1, p.2)
    (rooted_stops (context c.args.scope.now (g.F.Files.told c.args.files.now)) (root_of c.args.root.now) c.open.new.self c.new-taken.result c.in_err-item.field-0.0 (c.in_ok-open.ensures ∙ ap (λ (o : List ℕ). o ++ c.args.root.now.at ∷ []) c.new-active.ensures) c.new-taken.ensures c.in_err-item.ensures.reads)

pub returns-clause-reads : goal.returns-clause-reads
returns-clause-reads g c =
    rooted_comes (context c.args.scope.now (g.F.Files.told c.args.files.now)) (root_of c.args.root.now) c.open.new.self c.new-taken.result c.in_ok-item.item c.config_in.result (c.in_ok-open.ensures ∙ ap (λ (o : List ℕ). o ++ c.args.root.now.at ∷ []) c.new-active.ensures) c.new-taken.ensures c.in_ok-item.ensures.reads c.config_in.ensures

pub returns-clause-differ : goal.returns-clause-differ
returns-clause-differ g c = config_sound c.new-taken.result c.in_ok-item.item c.config_in.result c.in_ok-item.ensures.sound c.config_in.ensures

pub returns-clause-few : goal.returns-clause-few
returns-clause-few g c = config_few c.new-taken.result c.in_ok-item.item c.config_in.result c.in_ok-item.ensures.sound c.config_in.ensures
