use Rattle.std.proofs.Common.{◌≡◌, drop}
use Rattle.http_in.specs.declared.target.Place.TheVariants as place
use Rattle.http_in.specs.Target.{place_after}
use Rattle.http_in.proofs.target.ends_in_target.Given as goal

abbrev pub invariant-loop-byte : goal.invariant-loop-byte
invariant-loop-byte l = place_after place.Start l.bytes ≡ place_after l.place (drop l.byte-index l.bytes)
