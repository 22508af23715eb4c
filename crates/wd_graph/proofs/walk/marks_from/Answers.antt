use Rattle.std.proofs.Common.{◌≡◌, ◌+◌, ◌<◌, [], false, length, replicate, get_or, Some, slice_get, sym, ap, ap₂, ◌∙◌, subst, arith, rules}
use Rattle.std.proofs.lemmas.Option.{slice_get-get_or}
use Rattle.wd_graph.specs.Walk.{met}
use Rattle.wd_graph.proofs.WalkLemmas.{Walking, walking_start, walking_step, walked_all}
use Rattle.wd_graph.proofs.walk.marks_from.Goals as goal

pub loop-at-init : goal.loop-at-init
loop-at-init c =
    let none : c.from_vec.result ≡ replicate (length c.args.directory.now) false = search rules in
    let nobody : c.new.result ≡ [] = c.new.ensures in
    let first : c.meet.new.walk ≡ met (record { marks = replicate (length c.args.directory.now) false; order = [] }) c.args.from =
    c.in_ok-meet.ensures ∙ ap₂ (λ ms os. met (record { marks = ms; order = os }) c.args.from) none nobody in
    subst (λ w. Walking c.args.directory.now c.args.from w 0) (sym first) (walking_start c.args.directory.now c.args.from c.requires.within)

pub loop-at-preserved : goal.loop-at-preserved
loop-at-preserved c =
    let inside : c.loop-at.at < length c.loop-at.walk.order = omega (arith, c.loop-at-test.true, c.len-in-loop-at.ensures) in
    let by : slice_get c.loop-at.walk.order c.loop-at.at ≡ Some (get_or c.as_slice.result.now c.loop-at.at 0) =
    slice_get-get_or c.loop-at.walk.order c.loop-at.at 0 inside ∙ ap (λ xs. Some (get_or xs c.loop-at.at 0)) (sym c.as_slice.ensures) in
    subst (λ w. Walking c.args.directory.now c.args.from w (c.loop-at.at + 1)) (sym c.in_ok-visit.ensures)
    (walking_step c.args.directory.now c.args.from c.loop-at.walk c.loop-at.at (get_or c.as_slice.result.now c.loop-at.at 0) c.requires.differ c.loop-at.invariant by)

pub returns : goal.returns
returns c = walked_all c.args.directory.now c.args.from c.loop-at.walk c.loop-at.at c.requires.differ c.requires.within c.loop-at.invariant (omega (arith, c.loop-at-test.false, c.len-in-loop-at.ensures))
