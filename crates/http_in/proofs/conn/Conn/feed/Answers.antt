use Rattle.std.proofs.Common.{rules, ◌≡◌, ◌++◌}
use Rattle.http_in.specs.declared.conn.Phase.TheVariants as phases
use Rattle.http_in.proofs.BegunSteps.{may_more}
use Rattle.std.proofs.Common.{refl, subst}
use Rattle.http_in.specs.Stream.{Refuses}
use Rattle.http_in.proofs.FeedSteps.{feeds_bad}
use Rattle.http_in.proofs.conn.Conn.feed.Goals as goal

-- src/conn.rt:80:15
pub next_request-requires : goal.next_request-requires
next_request-requires c = search (rules, may_more c.self.inside.queue c.args.piece.now c.self.inside.begun c.self.invariant)

-- src/conn.rt:68:5
pub returns-in-Ok-Refused-clause-fed : goal.returns-in-Ok-Refused-clause-fed
returns-in-Ok-Refused-clause-fed c =
    let bytes : c.as_slice.result.now ≡ c.args.self.now.queue ++ c.args.piece.now = search (rules) in
    let refused : Refuses c.as_slice.result.now c.in-Ok-Refused.why = search (rules) in
    feeds_bad c.args.self.now (record { queue = c.extend.new.self; phase = phases.Bad c.status_of-code.result }) c.args.piece.now c.status_of-code.result c.in-Ok-Refused.why
    (search (rules)) refl (search (rules)) c.status_of-code.ensures (subst (λ b. Refuses b c.in-Ok-Refused.why) bytes refused)
