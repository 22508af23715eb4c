use Rattle.std.proofs.Common.{◌+◌, sym, ◌∙◌, ap, rules}
use Rattle.std.specs.Prelude.{slice_index}
use Rattle.std.proofs.lemmas.List.{take_rest}
use Rattle.js_lex.specs.Letters.{next_of}
use Rattle.js_lex.proofs.LetterLemmas.{body_goes}
use Rattle.js_lex.proofs.letters.body_of.Goals as goal

pub loop-text-preserved : goal.loop-text-preserved
loop-text-preserved c =
    let z = c.loop-text.text.now in
    let l = c.in-Letter.letter in
    let next = ap (next_of c.args.quote (slice_index z 0)) (sym (take_rest z 1)) ∙ sym c.next_of.ensures.value ∙ c.in-Letter.is in
    let goes = body_goes c.args.quote z c.args.text.now l c.loop-text.value c.loop-text.units c.in-len1-up.len_at_least next c.loop-text.invariant.0 in
    (rw (take_rest z (1 + l.more), c.in_ok-push_meaning-in-Letter.ensures) goes, search rules)
