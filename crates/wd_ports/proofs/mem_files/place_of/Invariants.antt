use Rattle.std.proofs.Common.{◌≡◌, ◌<◌, ℕ, false}
use Rattle.std.specs.Str.{bytes_eq}
use Rattle.wd_ports.specs.MemFiles.{path_at}
use Rattle.wd_ports.proofs.mem_files.place_of.Given as goal

abbrev pub invariant-loop-i : goal.invariant-loop-i
invariant-loop-i l = (j : ℕ) → j < l.i → bytes_eq (path_at l.files-2 j) l.path ≡ false
