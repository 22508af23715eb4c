use Rattle.std.proofs.Common.{◌≡◌, sym, ap, ◌∙◌, rules}
use Rattle.std.proofs.lemmas.List.{drop_all}
use Rattle.http_in.specs.declared.target.Place.TheVariants as place
use Rattle.http_in.specs.Target.{place_after}
use Rattle.http_in.specs.contracts.target.Place.{the_type}
use Rattle.http_in.proofs.TargetSteps.{ends_from_place, place_from_ends}
use Rattle.http_in.proofs.target.ends_in_target.Goals as goal
use denote.Enum.Bare.{same_true, true_same}

pub returns : goal.returns
returns c =
    let e : place_after place.Start c.args.bytes.now ≡ c.loop-byte.place = c.loop-byte.invariant ∙ ap (place_after c.loop-byte.place) (drop_all c.loop-byte.byte-index c.args.bytes.now c.loop-byte-test.false) in
    (λ t. ends_from_place c.args.bytes.now (e ∙ same_true the_type (search rules) _ _ (sym c.eq.ensures ∙ t)), λ x. c.eq.ensures ∙ true_same the_type _ _ (sym e ∙ place_from_ends c.args.bytes.now x))
