use Rattle.std.proofs.Common.{◌≡◌, ◌++◌, drop, map}
use Rattle.wd_ports.specs.declared.told.FileKind.TheVariants.{File}
use Rattle.wd_ports.specs.Told.{names_in}
use Rattle.wd_ports.proofs.mem_files.add_file_names.Given as goal

abbrev pub invariant-loop-file : goal.invariant-loop-file
invariant-loop-file l = l.names ++ names_in File l.folder (map (λ f. f.0) (drop l.file-index l.files)) ≡ l.initial.names ++ names_in File l.folder (map (λ f. f.0) l.files)
