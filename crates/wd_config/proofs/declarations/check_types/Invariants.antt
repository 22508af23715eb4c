use Rattle.std.proofs.Common.{◌≡◌, length}
use Rattle.wd_config.specs.Configured.{types}
use Rattle.wd_config.proofs.declarations.check_types.Given as goal

abbrev pub invariant-loop-decl : goal.invariant-loop-decl
invariant-loop-decl l = types l.aliases l.rest ≡ types l.aliases l.file

abbrev pub decreases-loop-decl : goal.decreases-loop-decl
decreases-loop-decl l = length l.rest
