use Rattle.std.proofs.Common.{subst}
use Rattle.wd_config.specs.declared.faults.RefusedKind.TheVariants as kind
use Rattle.wd_config.specs.Given.{Gives, fault}
use Rattle.wd_config.proofs.Loads.{loaded_found, loaded_missing, loaded_failed}
use Rattle.wd_config.proofs.leaves.load_file.Goals as goal

pub returns-in-Ok-Some-clause-reads : goal.returns-in-Ok-Some-clause-reads
returns-in-Ok-Some-clause-reads g c =
    loaded_found c.args.place c.args.path.now (g.F.Files.told c.args.files.now).files c.args.full.now c.in-Ok-Some.field-0 c.in-Ok-Some.bytes c.in-Ok-Some.ensures.bytes c.in-Ok-Some.field-0-is

pub returns-in-Ok-None-clause-reads : goal.returns-in-Ok-None-clause-reads
returns-in-Ok-None-clause-reads g c =
    loaded_missing c.args.place c.args.path.now (g.F.Files.told c.args.files.now).files c.args.full.now c.in-Ok-None.field-0 c.refuse.result c.in-Ok-None.ensures.bytes c.in-Ok-None.field-0-is
    (subst (λ n. Gives (fault kind.EmbedMissing c.args.path.now.place n) c.refuse.result) c.as_slice.ensures c.refuse.ensures)

pub returns-in-Err-Fault-clause-reads : goal.returns-in-Err-Fault-clause-reads
returns-in-Err-Fault-clause-reads g c = loaded_failed c.args.place c.args.path.now (g.F.Files.told c.args.files.now).files c.args.full.now c.failed.result c.failed.ensures
