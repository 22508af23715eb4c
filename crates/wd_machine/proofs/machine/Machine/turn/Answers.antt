use Rattle.std.proofs.Common.{ap, ◌∙◌, length, arith}
use Rattle.wd_machine.specs.declared.state.State.{State}
use Rattle.wd_machine.specs.Ends.{waits_in}
use Rattle.wd_machine.specs.Found.{request_of, worker_for, waiters_at}
use Rattle.wd_machine.proofs.KeyedLemmas.{place_within}
use Rattle.wd_machine.proofs.StepLemmas.{turned_absent, turn_out_absent, turned_idle, turn_out_idle, turned_alone, turned_given, turn_out_done}
use Rattle.wd_machine.proofs.machine.Machine.turn.Goals as goal

pub returns-in_default-clause-state : goal.returns-in_default-clause-state
returns-in_default-clause-state g c = turned_absent c.args.self.now c.args.seat c.args.places.req (c.requires.row ∙ c.in_default.is)

pub returns-in_default-clause-out : goal.returns-in_default-clause-out
returns-in_default-clause-out g c = turn_out_absent c.args.self.now c.args.places.req (c.requires.row ∙ c.in_default.is)

pub returns-in_default-2-clause-state : goal.returns-in_default-2-clause-state
returns-in_default-2-clause-state g c =
    let row = rw c.in_default-2.is at c.in_ok-done.ensures in
    turned_idle _ c.args.self.now c.args.seat c.args.places.req c.index_mut.result.now c.end_turn.new.row c.waits_in-waiting.result c.in-Some.at c.self.view_is (c.requires.row ∙ c.in-Some.is) c.index_mut.ensures.value row

pub returns-in_default-2-clause-out : goal.returns-in_default-2-clause-out
returns-in_default-2-clause-out g c =
    let row = rw c.in_default-2.is at c.in_ok-done.ensures in
    turn_out_idle _ c.args.self.now c.args.places.req c.index_mut.result.now c.end_turn.new.row c.waits_in-waiting.result c.in-Some.at c.self.view_is (c.requires.row ∙ c.in-Some.is) c.index_mut.ensures.value row

pub returns-in_default-worker-clause-state : goal.returns-in_default-worker-clause-state
returns-in_default-worker-clause-state g c =
    let row = rw c.in-Some-2.is at c.in_ok-done.ensures in
    let worker = rw (c.as_slice.ensures.value, c.as_slice-2.ensures.value) at c.worker_at-worker.ensures in
    let waits = c.waits_in-waiting.ensures ∙ ap (λ o. waits_in c.args.places.req.0 (waiters_at o)) (worker ∙ ap (λ (t : State g.row.I.Denot). worker_for (request_of c.args.places.req.0 t.requests) t.workers) c.self.view_is) in
    let makes = rw c.as_slice-3.ensures at c.in_ok-push_named.ensures in
    let frees = rw c.as_slice-4.ensures at c.in_ok-push_named-2.ensures in
    turned_alone _ c.args.self.now c.args.seat c.args.places.req c.index_mut.result.now c.end_turn.new.row c.in-Some-2.done c.waits_in-waiting.result c.in-Some.at
    (record { is = c.self.view_is; at = c.requires.row ∙ c.in-Some.is; read = c.index_mut.ensures.value; waits = waits; row = row })
    _ _ _ (record { ran = c.stop_run.ensures; makes = makes; frees = frees }) (c.requires.worker ∙ c.in_default-worker.is)

pub returns-in_default-worker-clause-out : goal.returns-in_default-worker-clause-out
returns-in_default-worker-clause-out g c =
    let row = rw c.in-Some-2.is at c.in_ok-done.ensures in
    let worker = rw (c.as_slice.ensures.value, c.as_slice-2.ensures.value) at c.worker_at-worker.ensures in
    let waits = c.waits_in-waiting.ensures ∙ ap (λ o. waits_in c.args.places.req.0 (waiters_at o)) (worker ∙ ap (λ (t : State g.row.I.Denot). worker_for (request_of c.args.places.req.0 t.requests) t.workers) c.self.view_is) in
    turn_out_done _ c.args.self.now c.args.seat c.args.places.req c.index_mut.result.now c.end_turn.new.row c.in-Some-2.done c.waits_in-waiting.result c.in-Some.at
    (record { is = c.self.view_is; at = c.requires.row ∙ c.in-Some.is; read = c.index_mut.ensures.value; waits = waits; row = row })

pub index_mut-requires-2 : goal.index_mut-requires-2
index_mut-requires-2 g c =
    let place = place_within _ c.args.self.now.workers c.in-Some-worker.place (c.requires.worker ∙ c.in-Some-worker.is) in
    let lengths = ap length (c.as_slice.ensures.value ∙ ap (λ (t : State g.row.I.Denot). t.workers) c.self.view_is) in
    omega (arith, place, lengths, c.as_slice.ensures.len)

pub returns-clause-state : goal.returns-clause-state
returns-clause-state g c =
    let row = rw c.in-Some-2.is at c.in_ok-done.ensures in
    let worker = rw (c.as_slice.ensures.value, c.as_slice-2.ensures.value) at c.worker_at-worker.ensures in
    let waits = c.waits_in-waiting.ensures ∙ ap (λ o. waits_in c.args.places.req.0 (waiters_at o)) (worker ∙ ap (λ (t : State g.row.I.Denot). worker_for (request_of c.args.places.req.0 t.requests) t.workers) c.self.view_is) in
    let makes = rw c.as_slice-3.ensures at c.in_ok-push_named.ensures in
    let frees = rw c.as_slice-4.ensures at c.in_ok-push_named-2.ensures in
    turned_given _ c.args.self.now c.args.seat c.args.places.req c.index_mut.result.now c.end_turn.new.row c.in-Some-2.done c.waits_in-waiting.result c.in-Some.at
    (record { is = c.self.view_is; at = c.requires.row ∙ c.in-Some.is; read = c.index_mut.ensures.value; waits = waits; row = row })
    _ _ _ (record { ran = c.stop_run.ensures; makes = makes; frees = frees }) c.in-Some-worker.place c.index_mut-2.result.now c.give_back.new.worker (c.requires.worker ∙ c.in-Some-worker.is) c.index_mut-2.ensures.value c.give_back.ensures

pub returns-clause-out : goal.returns-clause-out
returns-clause-out g c =
    let row = rw c.in-Some-2.is at c.in_ok-done.ensures in
    let worker = rw (c.as_slice.ensures.value, c.as_slice-2.ensures.value) at c.worker_at-worker.ensures in
    let waits = c.waits_in-waiting.ensures ∙ ap (λ o. waits_in c.args.places.req.0 (waiters_at o)) (worker ∙ ap (λ (t : State g.row.I.Denot). worker_for (request_of c.args.places.req.0 t.requests) t.workers) c.self.view_is) in
    turn_out_done _ c.args.self.now c.args.seat c.args.places.req c.index_mut.result.now c.end_turn.new.row c.in-Some-2.done c.waits_in-waiting.result c.in-Some.at
    (record { is = c.self.view_is; at = c.requires.row ∙ c.in-Some.is; read = c.index_mut.ensures.value; waits = waits; row = row })
