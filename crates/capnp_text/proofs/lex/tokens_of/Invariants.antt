use Rattle.std.proofs.Common.{◌≡◌, drop}
use Rattle.capnp_text.specs.Run.{run}
use Rattle.capnp_text.specs.Scan.{next, begin}
use Rattle.capnp_text.proofs.lex.tokens_of.Given as goal

abbrev pub invariant-loop-place : goal.invariant-loop-place
invariant-loop-place l = run next begin l.bytes ≡ run next (record { place = l.place; scan = l.scan }) (drop l.place l.bytes)
