use Rattle.std.proofs.Common.{◌≡◌, ◌+◌, length, sym, ◌∙◌, subst, arith}
use Rattle.http_message.proofs.FieldLemmas.{Scanned, scanned_found, scanned_other, scanned_on, scanned_end}
use Rattle.http_message.proofs.fields.has_close.Goals.{then-byte-eq44+else-is_close, else-byte-eq44}
use Rattle.http_message.proofs.fields.has_close.Goals as goal

pub returns-then-is_close : goal.returns-then-is_close
returns-then-is_close c = scanned_found c.args.value.now c.loop-i.start c.loop-i.i c.loop-i-test.true c.loop-i.invariant c.if-byte-eq44.true c.if-is_close.ensures

pub loop-i-preserved : goal.loop-i-preserved
loop-i-preserved c =
    elim c.if-byte-eq44.branch [
      | then-byte-eq44+else-is_close w ↦ subst (λ s. Scanned c.args.value.now s (c.loop-i.i + 1)) (sym w.start-is)
          (scanned_other c.args.value.now c.loop-i.start c.loop-i.i c.loop-i-test.true c.loop-i.invariant w.if-byte-eq44.true w.if-is_close.ensures)
      | else-byte-eq44 w ↦ subst (λ s. Scanned c.args.value.now s (c.loop-i.i + 1)) (sym w.start-is)
          (scanned_on c.args.value.now c.loop-i.start c.loop-i.i c.loop-i.invariant w.if-byte-eq44.false)
    ]

pub returns : goal.returns
returns c =
    let value = c.args.value.now in
    let last : c.loop-i.i ≡ length value = omega arith in
    let scanned : Scanned value c.loop-i.start (length value) = subst (Scanned value c.loop-i.start) last c.loop-i.invariant in
    c.is_close-2.ensures ∙ sym (scanned_end value c.loop-i.start scanned)
