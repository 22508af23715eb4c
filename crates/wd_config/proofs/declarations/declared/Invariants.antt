use Rattle.std.proofs.Common.{◌≡◌, ◌+◌, length}
use Rattle.wd_config.specs.Configured.{declared, no_tables}
use Rattle.wd_config.proofs.declarations.declared.Given as goal

abbrev pub invariant-loop-decl : goal.invariant-loop-decl
invariant-loop-decl l = record { read : declared l.at l.tables l.rest ≡ declared 0 no_tables l.file; count : l.at + length l.rest ≡ length l.file }

abbrev pub decreases-loop-decl : goal.decreases-loop-decl
decreases-loop-decl l = length l.rest
