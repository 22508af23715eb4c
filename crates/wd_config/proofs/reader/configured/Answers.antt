use Rattle.std.proofs.Common.{ℕ, List, Bor, option_map}
use Rattle.std.proofs.lemmas.Result.{err_from_is_err_and}
use Rattle.wd_config.specs.Configured.{root_of}
use Rattle.wd_config.proofs.ConfiguredLaws.{tables_stop, imports_stop, types_stop, name_stops, root_stops, config_comes}
use Rattle.wd_config.proofs.RoomLaws.{root_small}
use Rattle.wd_config.proofs.reader.configured.Goals as goal

pub returns-in_err-tables-clause-reads : goal.returns-in_err-tables-clause-reads
returns-in_err-tables-clause-reads g c = let p = err_from_is_err_and c.from_residual.result c.from_residual.ensures.1 in rw (p.1, p.2)
    (tables_stop (option_map (λ (s : Bor (List ℕ)). s.now) c.args.const_name) c.args.folder.now (g.F.Files.told c.args.files.now).files c.args.file.now c.in_err-tables.field-0.0 c.in_err-tables.ensures)

pub returns-in_err-check_imports-clause-reads : goal.returns-in_err-check_imports-clause-reads
returns-in_err-check_imports-clause-reads g c = let p = err_from_is_err_and c.from_residual-in_err-check_imports.result c.from_residual-in_err-check_imports.ensures.1 in rw (p.1, p.2)
    (imports_stop (option_map (λ (s : Bor (List ℕ)). s.now) c.args.const_name) c.args.folder.now (g.F.Files.told c.args.files.now).files c.args.file.now c.in_ok-tables.tables c.in_err-check_imports.field-0.0 c.in_ok-tables.ensures c.in_err-check_imports.ensures)

pub returns-in_err-check_types-clause-reads : goal.returns-in_err-check_types-clause-reads
returns-in_err-check_types-clause-reads g c = let p = err_from_is_err_and c.from_residual-in_err-check_types.result c.from_residual-in_err-check_types.ensures.1 in rw (p.1, p.2)
    (types_stop (option_map (λ (s : Bor (List ℕ)). s.now) c.args.const_name) c.args.folder.now (g.F.Files.told c.args.files.now).files c.args.file.now c.in_ok-tables.tables c.in_ok-check_imports.field-0 c.in_err-check_types.field-0.0 c.in_ok-tables.ensures c.in_ok-check_imports.ensures c.in_err-check_types.ensures)

pub returns-in_err-name-clause-reads : goal.returns-in_err-name-clause-reads
returns-in_err-name-clause-reads g c = let p = err_from_is_err_and c.from_residual-in_err-name.result c.from_residual-in_err-name.ensures.1 in rw (p.1, p.2)
    (name_stops (option_map (λ (s : Bor (List ℕ)). s.now) c.args.const_name) c.args.folder.now (g.F.Files.told c.args.files.now).files c.args.file.now c.in_ok-tables.tables c.in_ok-check_imports.field-0 c.in_ok-check_types.field-0 c.in_err-name.field-0.0 c.in_ok-tables.ensures c.in_ok-check_imports.ensures c.in_ok-check_types.ensures c.in_err-name.ensures)

pub returns-in_err-root-clause-reads : goal.returns-in_err-root-clause-reads
returns-in_err-root-clause-reads g c = let p = err_from_is_err_and c.from_residual-in_err-root.result c.from_residual-in_err-root.ensures.1 in rw (p.1, p.2)
    (root_stops (option_map (λ (s : Bor (List ℕ)). s.now) c.args.const_name) c.args.folder.now (g.F.Files.told c.args.files.now).files c.args.file.now c.in_ok-tables.tables c.in_ok-check_imports.field-0 c.in_ok-check_types.field-0 c.in_ok-name.name c.as_slice.result.now c.in_err-root.field-0.0 c.in_ok-tables.ensures c.in_ok-check_imports.ensures c.in_ok-check_types.ensures c.in_ok-name.ensures c.as_slice.ensures c.in_err-root.ensures)

pub returns-clause-reads : goal.returns-clause-reads
returns-clause-reads g c =
    config_comes (option_map (λ (s : Bor (List ℕ)). s.now) c.args.const_name) c.args.folder.now (g.F.Files.told c.args.files.now).files c.args.file.now c.in_ok-tables.tables c.in_ok-check_imports.field-0 c.in_ok-check_types.field-0 c.in_ok-name.name c.as_slice.result.now (root_of c.in_ok-root.root) c.rooted_config.result
    c.in_ok-tables.ensures c.in_ok-check_imports.ensures c.in_ok-check_types.ensures c.in_ok-name.ensures c.as_slice.ensures c.in_ok-root.ensures c.rooted_config.ensures.reads

pub rooted_config-requires-clause-small : goal.rooted_config-requires-clause-small
rooted_config-requires-clause-small g c = root_small c.in_ok-tables.tables.constants c.args.file.now c.as_slice.result.now (root_of c.in_ok-root.root) c.in_ok-root.ensures c.requires
