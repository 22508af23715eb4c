use Rattle.std.proofs.Common.{◌∙◌, sym, ap, arith, nat_lt}
use Rattle.std.specs.Prelude.{slice_get, option_map}
use Rattle.wd_ports.proofs.Arrivals.{place_found, place_passed, item_there}
use Rattle.wd_ports.proofs.schedule.Schedule.next_arrival.Goals as goal

pub returns-then-arrival-sockets-clause-place : goal.returns-then-arrival-sockets-clause-place
returns-then-arrival-sockets-clause-place c =
    sym (place_found (λ a. nat_lt a.event c.happened-happened.result) (λ a. nat_lt a.socket.0 c.args.sockets) c.as_slice-arrivals.result.now c.loop-at.at record { event = 0; socket = record { 0 = 0 } } (omega arith) (grind arith) (grind arith)) ∙ c.loop-at.invariant

pub returns-then-arrival-sockets-clause-socket : goal.returns-then-arrival-sockets-clause-socket
returns-then-arrival-sockets-clause-socket c =
    ap (λ xs. option_map (λ a. a.socket) (slice_get xs c.loop-at.at)) (sym c.as_slice-arrivals.ensures) ∙ ap (option_map (λ a. a.socket)) (item_there c.as_slice-arrivals.result.now c.loop-at.at record { event = 0; socket = record { 0 = 0 } } (omega arith))

pub loop-at-preserved : goal.loop-at-preserved
loop-at-preserved c =
    place_passed (λ a. nat_lt a.event c.happened-happened.result) (λ a. nat_lt a.socket.0 c.args.sockets) c.as_slice-arrivals.result.now c.loop-at.at record { event = 0; socket = record { 0 = 0 } } (omega arith) (grind arith) (grind arith) ∙ c.loop-at.invariant
