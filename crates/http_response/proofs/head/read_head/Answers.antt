use Rattle.std.proofs.Common.{subst}
use Rattle.http_response.specs.Steps.{IsFoundIn}
use Rattle.http_response.proofs.HeadSteps.{head_many}
use Rattle.http_response.proofs.head.read_head.Goals as goal

pub returns-in-Many : goal.returns-in-Many
returns-in-Many c = head_many c.args.to_head c.args.before c.args.bytes.now _ c.requires c.first-window.ensures (subst (IsFoundIn c.first-window.result.now c.find_head.new.few) c.in-Many.is c.in_ok-head.ensures.found)

pub returns-in-Later : goal.returns-in-Later
returns-in-Later c = c.short_of_head.ensures c.args.to_head

pub returns-in-Never : goal.returns-in-Never
returns-in-Never c = c.no_head.ensures c.args.to_head
