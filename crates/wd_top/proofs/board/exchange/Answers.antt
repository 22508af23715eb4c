use Rattle.std.proofs.Common.{[], ◌∷◌, ◌++◌, ◌+◌, sym, ◌∙◌, refl, ap, Ok, Err}
use Rattle.wd_machine.specs.declared.journal.Entry.TheVariants.{Begin}
use Rattle.std.specs.List.{position_from}
use Rattle.wd_machine.specs.Found.{is_worker}
use Rattle.wd_machine.specs.Steps.{begun}
use Rattle.wd_top.proofs.BoardSteps.{asked_only, asks, run_arrived, stands_arrived, places_begun, places_turned}
use Rattle.wd_top.proofs.BoardSteps.{ended_too, exchanged, unanswered}
use Rattle.wd_top.proofs.MachineSteps.{arrival_places}
use Rattle.wd_top.proofs.board.exchange.Goals as goal

pub returns-in_default-clause-answers : goal.returns-in_default-clause-answers
returns-in_default-clause-answers g c =
    rw c.in_ok-arrive.ensures.entries (asked_only c.args.seat (record { 0 = c.args.count + 1 }) c.args.service.now
    c.args.link
    c.args.request c.args.entries.now)

pub returns-in_default-clause-run : goal.returns-in_default-clause-run
returns-in_default-clause-run g c =
    rw c.in_ok-arrive.ensures.entries (run_arrived g.I.Isolate.means c.args.world.now c.args.machine.now
    c.args.entries.now c.args.count c.args.seat (record { 0 = c.args.count + 1 }) c.args.service.now c.args.link
    c.args.request
    c.requires.run c.requires.stands refl c.requires.known c.requires.public c.requires.below)

pub returns-in_default-clause-stands : goal.returns-in_default-clause-stands
returns-in_default-clause-stands g c = rw (c.in_ok-arrive.ensures.entries, c.in_ok-arrive.ensures.state)
    (stands_arrived g.I.Isolate.means c.args.world.now c.args.machine.now c.args.entries.now c.args.count
    c.args.seat (record { 0 = c.args.count + 1 }) c.args.service.now c.args.link c.args.request c.requires.stands refl
    (ap (λ t. position_from (is_worker t) 0 c.args.machine.now.workers) (sym c.as_slice.ensures)
    ∙ sym c.worker_place-worker.ensures ∙ c.in_default.is))

pub begin-requires-after_bounds : goal.begin-requires-after_bounds
begin-requires-after_bounds g c κs within =
    rw c.in_ok-arrive.ensures.state
    (arrival_places c.args.machine.now c.args.count c.args.seat (record { 0 = c.args.count + 1 })
    c.args.service.now c.args.link c.args.request c.in-Some.place c.requires.stands.rests refl
    (ap (λ t. position_from (is_worker t) 0 c.args.machine.now.workers) (sym c.as_slice.ensures)
    ∙ sym c.worker_place-worker.ensures ∙ c.in-Some.is))

pub returns-in_err-begin-clause-answers : goal.returns-in_err-begin-clause-answers
returns-in_err-begin-clause-answers g c = unanswered c.args.seat c.args.link c.args.service.now c.args.request
    c.args.entries.now
    c.begin.new.entries c.from_residual-in_err-begin.result c.from_residual-in_err-begin.ensures.0
    (λ x. rw (c.in_err-begin.ensures.err, c.in_ok-arrive.ensures.entries)
    (asks x c.args.seat (record { 0 = c.args.count + 1 }) c.args.service.now c.args.link c.args.request
    c.args.entries.now))

pub returns-in_err-begin-clause-run : goal.returns-in_err-begin-clause-run
returns-in_err-begin-clause-run g c = rw (c.in_err-begin.ensures.err, c.in_ok-arrive.ensures.entries)
    (run_arrived g.I.Isolate.means c.args.world.now c.args.machine.now c.args.entries.now c.args.count
    c.args.seat (record { 0 = c.args.count + 1 }) c.args.service.now c.args.link c.args.request c.requires.run
    c.requires.stands
    refl c.requires.known c.requires.public c.requires.below)

pub finish-requires-after_bounds : goal.finish-requires-after_bounds
finish-requires-after_bounds g c κs within = places_begun g.I.Isolate.means c.args.machine.now c.begin.new.machine
    c.args.count c.args.seat (record { 0 = c.args.count + 1 }) c.args.service.now c.args.link c.args.request
    c.in-Some.place
    c.requires.stands.rests refl (ap (λ t. position_from (is_worker t) 0 c.args.machine.now.workers)
    (sym c.as_slice.ensures) ∙ sym c.worker_place-worker.ensures ∙ c.in-Some.is) (c.in_ok-begin.ensures.state
    ∙ ap (λ t. begun g.I.Isolate.means t c.args.seat (record { 0 = c.args.count + 1 })) c.in_ok-arrive.ensures.state)

pub returns-in_err-reply-clause-answers : goal.returns-in_err-reply-clause-answers
returns-in_err-reply-clause-answers g c = unanswered c.args.seat c.args.link c.args.service.now c.args.request
    c.args.entries.now
    c.finish.new.entries c.from_residual-in_err-reply.result c.from_residual-in_err-reply.ensures.0
    (λ x. (exchanged g.I.Isolate.means c.args.world.now c.args.machine.now c.begin.new.machine c.finish.new.machine
    c.args.entries.now c.begin.new.entries c.finish.new.entries c.args.count c.args.seat
    (record { 0 = c.args.count + 1 })
    c.args.service.now c.args.link c.args.request c.in-Some.place (Err x) c.requires.run.numbered
    (run_arrived g.I.Isolate.means c.args.world.now c.args.machine.now c.args.entries.now c.args.count
    c.args.seat (record { 0 = c.args.count + 1 }) c.args.service.now c.args.link c.args.request c.requires.run
    c.requires.stands
    refl c.requires.known c.requires.public c.requires.below) c.requires.stands refl
    (ap (λ t. position_from (is_worker t) 0 c.args.machine.now.workers) (sym c.as_slice.ensures)
    ∙ sym c.worker_place-worker.ensures ∙ c.in-Some.is) (c.in_ok-begin.ensures.state
    ∙ ap (λ t. begun g.I.Isolate.means t c.args.seat (record { 0 = c.args.count + 1 })) c.in_ok-arrive.ensures.state)
    (c.in_ok-begin.ensures.entries
    ∙ ap (λ k. k ++ Begin c.args.seat (record { 0 = c.args.count + 1 }) ∷ []) c.in_ok-arrive.ensures.entries) tt tt
    c.in_err-reply.ensures.err c.requires.below).answers)

pub returns-in_err-reply-clause-run : goal.returns-in_err-reply-clause-run
returns-in_err-reply-clause-run g c =
    (exchanged g.I.Isolate.means c.args.world.now c.args.machine.now c.begin.new.machine c.finish.new.machine
    c.args.entries.now c.begin.new.entries c.finish.new.entries c.args.count c.args.seat
    (record { 0 = c.args.count + 1 })
    c.args.service.now c.args.link c.args.request c.in-Some.place (Err (record {})) c.requires.run.numbered
    (run_arrived g.I.Isolate.means c.args.world.now c.args.machine.now c.args.entries.now c.args.count
    c.args.seat (record { 0 = c.args.count + 1 }) c.args.service.now c.args.link c.args.request c.requires.run
    c.requires.stands
    refl c.requires.known c.requires.public c.requires.below) c.requires.stands refl
    (ap (λ t. position_from (is_worker t) 0 c.args.machine.now.workers) (sym c.as_slice.ensures)
    ∙ sym c.worker_place-worker.ensures ∙ c.in-Some.is) (c.in_ok-begin.ensures.state
    ∙ ap (λ t. begun g.I.Isolate.means t c.args.seat (record { 0 = c.args.count + 1 })) c.in_ok-arrive.ensures.state)
    (c.in_ok-begin.ensures.entries
    ∙ ap (λ k. k ++ Begin c.args.seat (record { 0 = c.args.count + 1 }) ∷ []) c.in_ok-arrive.ensures.entries) tt tt
    c.in_err-reply.ensures.err c.requires.below).run

pub has_ended-ended-requires : goal.has_ended-ended-requires
has_ended-ended-requires g c = places_turned g.I.Isolate.means c.args.machine.now c.begin.new.machine
    c.finish.new.machine c.args.count c.args.seat (record { 0 = c.args.count + 1 }) c.args.service.now c.args.link
    c.args.request
    c.in-Some.place c.requires.stands.rests refl (ap (λ t. position_from (is_worker t) 0 c.args.machine.now.workers)
    (sym c.as_slice.ensures) ∙ sym c.worker_place-worker.ensures ∙ c.in-Some.is) (c.in_ok-begin.ensures.state
    ∙ ap (λ t. begun g.I.Isolate.means t c.args.seat (record { 0 = c.args.count + 1 })) c.in_ok-arrive.ensures.state)
    c.in_ok-reply.ensures.state

pub returns-clause-answers : goal.returns-clause-answers
returns-clause-answers g c =
    (exchanged g.I.Isolate.means c.args.world.now c.args.machine.now c.begin.new.machine c.finish.new.machine
    c.args.entries.now c.begin.new.entries c.finish.new.entries c.args.count c.args.seat
    (record { 0 = c.args.count + 1 })
    c.args.service.now c.args.link c.args.request c.in-Some.place (Ok c.in_ok-reply.reply) c.requires.run.numbered
    (run_arrived g.I.Isolate.means c.args.world.now c.args.machine.now c.args.entries.now c.args.count
    c.args.seat (record { 0 = c.args.count + 1 }) c.args.service.now c.args.link c.args.request c.requires.run
    c.requires.stands
    refl c.requires.known c.requires.public c.requires.below) c.requires.stands refl
    (ap (λ t. position_from (is_worker t) 0 c.args.machine.now.workers) (sym c.as_slice.ensures)
    ∙ sym c.worker_place-worker.ensures ∙ c.in-Some.is) (c.in_ok-begin.ensures.state
    ∙ ap (λ t. begun g.I.Isolate.means t c.args.seat (record { 0 = c.args.count + 1 })) c.in_ok-arrive.ensures.state)
    (c.in_ok-begin.ensures.entries
    ∙ ap (λ k. k ++ Begin c.args.seat (record { 0 = c.args.count + 1 }) ∷ []) c.in_ok-arrive.ensures.entries)
    c.in_ok-reply.ensures.state c.in_ok-reply.ensures.entries tt c.requires.below).answers

pub returns-clause-run : goal.returns-clause-run
returns-clause-run g c = (exchanged g.I.Isolate.means c.args.world.now c.args.machine.now c.begin.new.machine
    c.finish.new.machine c.args.entries.now c.begin.new.entries c.finish.new.entries c.args.count
    c.args.seat (record { 0 = c.args.count + 1 }) c.args.service.now c.args.link c.args.request c.in-Some.place
    (Ok c.in_ok-reply.reply) c.requires.run.numbered (run_arrived g.I.Isolate.means c.args.world.now c.args.machine.now
    c.args.entries.now c.args.count c.args.seat (record { 0 = c.args.count + 1 }) c.args.service.now c.args.link
    c.args.request
    c.requires.run c.requires.stands refl c.requires.known c.requires.public c.requires.below) c.requires.stands refl
    (ap (λ t. position_from (is_worker t) 0 c.args.machine.now.workers) (sym c.as_slice.ensures)
    ∙ sym c.worker_place-worker.ensures ∙ c.in-Some.is) (c.in_ok-begin.ensures.state
    ∙ ap (λ t. begun g.I.Isolate.means t c.args.seat (record { 0 = c.args.count + 1 })) c.in_ok-arrive.ensures.state)
    (c.in_ok-begin.ensures.entries
    ∙ ap (λ k. k ++ Begin c.args.seat (record { 0 = c.args.count + 1 }) ∷ []) c.in_ok-arrive.ensures.entries)
    c.in_ok-reply.ensures.state c.in_ok-reply.ensures.entries tt c.requires.below).run

pub returns-clause-stands : goal.returns-clause-stands
returns-clause-stands g c =
    (exchanged g.I.Isolate.means c.args.world.now c.args.machine.now c.begin.new.machine c.finish.new.machine
    c.args.entries.now c.begin.new.entries c.finish.new.entries c.args.count c.args.seat
    (record { 0 = c.args.count + 1 })
    c.args.service.now c.args.link c.args.request c.in-Some.place (Ok c.in_ok-reply.reply) c.requires.run.numbered
    (run_arrived g.I.Isolate.means c.args.world.now c.args.machine.now c.args.entries.now c.args.count
    c.args.seat (record { 0 = c.args.count + 1 }) c.args.service.now c.args.link c.args.request c.requires.run
    c.requires.stands
    refl c.requires.known c.requires.public c.requires.below) c.requires.stands refl
    (ap (λ t. position_from (is_worker t) 0 c.args.machine.now.workers) (sym c.as_slice.ensures)
    ∙ sym c.worker_place-worker.ensures ∙ c.in-Some.is) (c.in_ok-begin.ensures.state
    ∙ ap (λ t. begun g.I.Isolate.means t c.args.seat (record { 0 = c.args.count + 1 })) c.in_ok-arrive.ensures.state)
    (c.in_ok-begin.ensures.entries
    ∙ ap (λ k. k ++ Begin c.args.seat (record { 0 = c.args.count + 1 }) ∷ []) c.in_ok-arrive.ensures.entries)
    c.in_ok-reply.ensures.state c.in_ok-reply.ensures.entries tt c.requires.below).stands

pub returns-clause-ended : goal.returns-clause-ended
returns-clause-ended g c = λ ended all. ended_too g.I.Isolate.means c.args.machine.now c.begin.new.machine
    c.finish.new.machine c.args.count c.args.seat (record { 0 = c.args.count + 1 }) c.args.service.now c.args.link
    c.args.request
    c.in-Some.place c.requires.stands.rests refl (ap (λ t. position_from (is_worker t) 0 c.args.machine.now.workers)
    (sym c.as_slice.ensures) ∙ sym c.worker_place-worker.ensures ∙ c.in-Some.is) (c.in_ok-begin.ensures.state
    ∙ ap (λ t. begun g.I.Isolate.means t c.args.seat (record { 0 = c.args.count + 1 })) c.in_ok-arrive.ensures.state)
    c.in_ok-reply.ensures.state (sym c.has_ended-ended.ensures ∙ ended) all
