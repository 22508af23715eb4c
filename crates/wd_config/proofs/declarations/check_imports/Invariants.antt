use Rattle.std.proofs.Common.{◌≡◌, length}
use Rattle.wd_config.specs.Configured.{imports}
use Rattle.wd_config.proofs.declarations.check_imports.Given as goal

abbrev pub invariant-loop-decl : goal.invariant-loop-decl
invariant-loop-decl l = imports l.rest ≡ imports l.file

abbrev pub decreases-loop-decl : goal.decreases-loop-decl
decreases-loop-decl l = length l.rest
