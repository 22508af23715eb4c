use Rattle.std.proofs.Common.{◌≤◌, length, sym, subst}
use Rattle.http_message.specs.Limits.{max_head}
use Rattle.http_message.proofs.TrailerSteps.{seen, trailer_whole, trailer_many, trailer_later, taken_first}
use Rattle.http_message.proofs.trailer.read_trailer.Goals as goal

pub read_section-requires : goal.read_section-requires
read_section-requires c = subst (λ t. length t ≤ max_head) (sym c.first_bytes.ensures) (taken_first max_head c.args.bytes.now)

pub returns-in-Whole : goal.returns-in-Whole
returns-in-Whole c =
    let bytes = c.args.bytes.now in
    trailer_whole bytes c.in-Whole.size (seen bytes c.first_bytes.result.now _ _ c.first_bytes.ensures c.in-Whole.is c.in_ok-size.ensures)

pub returns-in-Many : goal.returns-in-Many
returns-in-Many c =
    let bytes = c.args.bytes.now in
    trailer_many bytes (seen bytes c.first_bytes.result.now _ _ c.first_bytes.ensures c.in-Many.is c.in_ok-size.ensures)

pub returns-then-bytes-lt-MAX_HEAD : goal.returns-then-bytes-lt-MAX_HEAD
returns-then-bytes-lt-MAX_HEAD c =
    let bytes = c.args.bytes.now in
    trailer_later bytes c.if-bytes-lt-MAX_HEAD.true (seen bytes c.first_bytes.result.now _ _ c.first_bytes.ensures c.in-Later.is c.in_ok-size.ensures)
