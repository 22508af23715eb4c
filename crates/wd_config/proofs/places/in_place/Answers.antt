use Rattle.std.proofs.Common.{◌≤◌, length, refl, sym, ◌∙◌, arith}
use Rattle.std.proofs.Math.Seq.{take-length}
use Rattle.std.proofs.lemmas.Result.{err_from_is_err_and}
use Rattle.wd_config.specs.Values.{in_place}
use Rattle.wd_config.proofs.Follow.{follow_end, follow_more, follow_stops, follow_none, kept}
use Rattle.wd_config.proofs.places.in_place.Goals as goal

pub loop-left-init : goal.loop-left-init
unfolding in_place
loop-left-init c = record { follow = refl; keep = take-length c.args.active.now; longer = omega arith }

pub returns-in_default-clause-value : goal.returns-in_default-clause-value
returns-in_default-clause-value c =
    sym c.loop-left.invariant.follow ∙ follow_end c.loop-left.left c.args.scope.now.file.now c.args.scope.now.constants.now c.loop-left.active c.loop-left.value.now (sym c.in_default.ensures)

pub returns-in_err-value-clause-value : goal.returns-in_err-value-clause-value
returns-in_err-value-clause-value c = let p = err_from_is_err_and c.from_residual.result c.from_residual.ensures.1 in rw (p.1, p.2)
    (follow_stops c.loop-left.left c.args.scope.now.file.now c.args.scope.now.constants.now c.loop-left.active c.loop-left.value.now (c.in-Some.place, c.in-Some.name.now) c.in_err-value.field-0.0 c.loop-left-test.true (sym c.in-Some.ensures) c.in_err-value.ensures.value _ c.loop-left.invariant.follow)

pub loop-left-preserved : goal.loop-left-preserved
loop-left-preserved c = record {
  follow = sym (follow_more c.loop-left.left c.args.scope.now.file.now c.args.scope.now.constants.now c.loop-left.active c.opened.new.active c.loop-left.value.now c.in_ok-value.value.now (c.in-Some.place, c.in-Some.name.now) c.loop-left-test.true (sym c.in-Some.ensures) c.in_ok-value.ensures.value) ∙ c.loop-left.invariant.follow;
  keep = kept c.args.active.now c.loop-left.active c.opened.new.active c.loop-left.invariant.keep c.loop-left.invariant.longer c.in_ok-value.ensures.keeps;
  longer = let a : length c.args.active.now ≤ length c.loop-left.active = c.loop-left.invariant.longer in let b : length c.loop-left.active ≤ length c.opened.new.active = c.in_ok-value.ensures.longer in omega arith;
}

pub returns-clause-value : goal.returns-clause-value
returns-clause-value c =
    sym c.loop-left.invariant.follow ∙ follow_none c.loop-left.left c.args.scope.now.file.now c.args.scope.now.constants.now (c.loop-left.active, c.loop-left.value.now) c.loop-left-test.false
