use Rattle.std.proofs.Common.{◌≡◌, ℕ, ◌+◌, ◌-◌, ◌≤◌, Bool, List, take, drop, length, sym, ap, subst, ◌∙◌, arith}
use Rattle.std.specs.Prelude.{slice_index}
use Rattle.std.proofs.lemmas.List.{take_rest, length-drop}
use Rattle.js_lex.specs.declared.scan.Step.TheVariants as step
use Rattle.js_lex.specs.Places.{in_hole}
use Rattle.js_lex.specs.Front.{front_of, more_units}
use Rattle.js_lex.specs.Scan.{taken}
use Rattle.js_lex.proofs.Whole.{tokens_of}
use Rattle.js_lex.proofs.LexLaws.{found_is, only_is, found_ok, only_ok, end_ok}
use Rattle.js_lex.proofs.ScanLemmas.{goes, goes_place, stops}
use Rattle.js_lex.proofs.scan.scan.Goals as goal

pub loop-text-preserved : goal.loop-text-preserved
loop-text-preserved c =
    let s = c.loop-text.state in
    let n = c.in-Next.next in
    let f = c.in_ok-front.front in
    let z = c.loop-text.text.now in
    let e : f ≡ front_of (in_hole s.braces) (slice_index z 0) (drop 1 z) = c.in_ok-front.ensures.value ∙ ap (λ (b : Bool). front_of b (slice_index z 0) (take (length z - 1) (drop 1 z))) c.in_hole.ensures ∙ ap (front_of (in_hole s.braces) (slice_index z 0)) (take_rest z 1) in
    let h : taken s f ≡ step.Next n = sym c.in_ok-next.ensures ∙ c.in-Next.is in
    let fits : more_units f ≤ length (drop 1 z) = subst (λ (r : List ℕ). more_units f ≤ length r) (take_rest z 1) c.in_ok-front.ensures.fits in
    let some = c.in-len1-up.len_at_least in
    let k : 1 + more_units f ≤ length z = omega (arith, fits, length-drop 1 z, some) in (
      rw (take_rest z (1 + c.more_units-more.result), c.more_units-more.ensures) (goes s n f z (tokens_of c.args.text.now) some e h c.loop-text.invariant.0),
      rw (take_rest z (1 + c.more_units-more.result), c.more_units-more.ensures) (goes_place s n f z (length c.args.text.now) k h c.loop-text.invariant.1),
    )

pub returns-in-Stop : goal.returns-in-Stop
returns-in-Stop c =
    let s = c.loop-text.state in
    let f = c.in_ok-front.front in
    let z = c.loop-text.text.now in
    let e : f ≡ front_of (in_hole s.braces) (slice_index z 0) (drop 1 z) = c.in_ok-front.ensures.value ∙ ap (λ (b : Bool). front_of b (slice_index z 0) (take (length z - 1) (drop 1 z))) c.in_hole.ensures ∙ ap (front_of (in_hole s.braces) (slice_index z 0)) (take_rest z 1) in
    let h : taken s f ≡ step.Stop c.in-Stop.tokens = sym c.in_ok-next.ensures ∙ c.in-Stop.is in
    let is = stops s c.in-Stop.tokens f z (tokens_of c.args.text.now) c.in-len1-up.len_at_least e h c.loop-text.invariant.0 in
    record { found = found_is c.args.text.now c.in-Stop.tokens is; only = λ us a. only_is c.args.text.now c.in-Stop.tokens us is a }

pub returns-clause-found : goal.returns-clause-found
returns-clause-found c =
    found_ok c.args.text.now c.with_token.result (end_ok c.loop-text.state c.loop-text.text.now c.args.text.now c.with_token.result c.in_default.len_below c.loop-text.invariant.0 c.with_token.ensures)

pub returns-clause-only : goal.returns-clause-only
returns-clause-only c =
    λ ts a. only_ok c.args.text.now ts c.with_token.result (end_ok c.loop-text.state c.loop-text.text.now c.args.text.now c.with_token.result c.in_default.len_below c.loop-text.invariant.0 c.with_token.ensures) a
