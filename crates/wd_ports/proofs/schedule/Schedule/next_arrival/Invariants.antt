use Rattle.std.proofs.Common.{◌≡◌, drop}
use Rattle.std.specs.Prelude.{take_while, nat_lt}
use Rattle.std.specs.List.{position_from}
use Rattle.wd_ports.specs.Schedule.{next_place}
use Rattle.wd_ports.proofs.schedule.Schedule.next_arrival.Given as goal

abbrev pub invariant-loop-at : goal.invariant-loop-at
invariant-loop-at l = position_from (λ a. nat_lt a.socket.0 l.sockets) l.at (take_while (λ a. nat_lt a.event l.happened) (drop l.at l.arrivals)) ≡ next_place l.sockets l.self
