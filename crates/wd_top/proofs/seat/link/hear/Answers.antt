use Rattle.std.proofs.Common.{take, sym, subst, ◌∙◌, inl, inr}
use Rattle.wd_top.specs.Steps.{Hears}
use Rattle.wd_top.specs.declared.seat.link.Heard.TheVariants as heard
use Rattle.wd_top.proofs.HandleSteps.{hears_same, hears_fed, hears_bytes, hears_end}
use Rattle.wd_top.proofs.seat.link.hear.Goals as goal

pub returns-then-run-clause-hears : goal.returns-then-run-clause-hears
returns-then-run-clause-hears g c = hears_fed _ c.args.run.now c.feed.new.run _ _ c.feed.ensures.knows
    c.feed.ensures.same

pub returns-in-Err-Fault-clause-hears : goal.returns-in-Err-Fault-clause-hears
returns-in-Err-Fault-clause-hears g c = hears_same _ c.args.run.now heard.Lost _ _ c.in-Err-Fault.ensures.tells
    (λ s l k o. (c.args.run.now.conn.queue, o.reading))

pub returns-in-Err-NoMemory-clause-hears : goal.returns-in-Err-NoMemory-clause-hears
returns-in-Err-NoMemory-clause-hears g c = hears_same _ c.args.run.now heard.Full _ _ c.in-Err-NoMemory.ensures.tells
    (λ s l k o. (c.args.run.now.conn.queue, o.reading))

pub returns-in-Ok-End-clause-hears : goal.returns-in-Ok-End-clause-hears
returns-in-Ok-End-clause-hears g c =
    hears_end _ c.args.run.now _ _ (rw c.in-Ok-End.field-0-is at c.in-Ok-End.ensures.tells) c.if-run.false

pub returns-in-Ok-Later-clause-hears : goal.returns-in-Ok-Later-clause-hears
returns-in-Ok-Later-clause-hears g c =
    let tells = c.nothing_or_lost.ensures.tells ∙ (rw c.in-Ok-Later.field-0-is at c.in-Ok-Later.ensures.tells) in
    elim c.nothing_or_lost.ensures.which as
    (λ w. Hears c.args.link c.args.run.now c.args.run.now c.nothing_or_lost.result (g.P.Files.told c.args.port.now)
    (g.P.Files.told c.nothing_or_lost.new.port)) [
      | inl e ↦ subst (λ h. Hears c.args.link c.args.run.now c.args.run.now h (g.P.Files.told c.args.port.now)
          (g.P.Files.told c.nothing_or_lost.new.port)) (sym e)
          (hears_same c.args.link c.args.run.now heard.Nothing _ _ tells (λ s l k o. o))
      | inr e ↦ subst (λ h. Hears c.args.link c.args.run.now c.args.run.now h (g.P.Files.told c.args.port.now)
          (g.P.Files.told c.nothing_or_lost.new.port)) (sym e)
          (hears_same c.args.link c.args.run.now heard.Lost _ _ tells
          (λ s l k o. (c.args.run.now.conn.queue, o.reading)))
    ]

pub returns-in-Ok-Bytes-clause-hears : goal.returns-in-Ok-Bytes-clause-hears
returns-in-Ok-Bytes-clause-hears g c =
    hears_bytes _ c.args.run.now c.feed-in-Ok-Bytes.new.run _ (take c.in-Ok-Bytes.count c.read_link.new.buf) _ _
    (rw c.in-Ok-Bytes.field-0-is at c.in-Ok-Bytes.ensures.tells) c.feed-in-Ok-Bytes.ensures.knows
    c.feed-in-Ok-Bytes.ensures.same
