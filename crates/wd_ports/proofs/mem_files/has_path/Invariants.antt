use Rattle.std.proofs.Common.{◌≡◌, drop}
use Rattle.std.specs.List.{list_any}
use Rattle.std.specs.Str.{bytes_eq}
use Rattle.wd_ports.proofs.mem_files.has_path.Given as goal

abbrev pub invariant-loop-folder : goal.invariant-loop-folder
invariant-loop-folder l = list_any (λ folder. bytes_eq folder l.path) (drop l.folder-index l.folder-items) ≡ list_any (λ folder. bytes_eq folder l.path) l.folder-items
