-- What an entry is of.
use Rattle.wd_base.specs.declared.ids.Seat.{Seat}
use Rattle.wd_machine.specs.declared.journal.Entry.{Entry}
use Rattle.wd_machine.specs.declared.journal.Entry.TheVariants.{Arrive, Begin, Turn, Answer, Served, Cancel, Drain}

-- the seat of an entry
abbrev pub seat_of : Entry → Seat
seat_of (Arrive seat req service origin allow request) = seat
seat_of (Begin seat req) = seat
seat_of (Turn seat req out) = seat
seat_of (Answer seat req op result) = seat
seat_of (Served seat req reply) = seat
seat_of (Cancel seat req) = seat
seat_of (Drain seat) = seat
