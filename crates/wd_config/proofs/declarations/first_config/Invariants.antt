use Rattle.std.proofs.Common.{◌≡◌, length}
use Rattle.wd_config.specs.Configured.{first_config}
use Rattle.wd_config.proofs.declarations.first_config.Given as goal

abbrev pub invariant-loop-decl : goal.invariant-loop-decl
invariant-loop-decl l = first_config l.rest ≡ first_config l.file

abbrev pub decreases-loop-decl : goal.decreases-loop-decl
decreases-loop-decl l = length l.rest
