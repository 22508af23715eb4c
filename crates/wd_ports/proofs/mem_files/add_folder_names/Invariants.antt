use Rattle.std.proofs.Common.{◌≡◌, ◌++◌, drop}
use Rattle.wd_ports.specs.declared.told.FileKind.TheVariants.{Folder}
use Rattle.wd_ports.specs.Told.{names_in}
use Rattle.wd_ports.proofs.mem_files.add_folder_names.Given as goal

abbrev pub invariant-loop-path : goal.invariant-loop-path
invariant-loop-path l = l.names ++ names_in Folder l.folder (drop l.path-index l.folders) ≡ l.initial.names ++ names_in Folder l.folder l.folders
