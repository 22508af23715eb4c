use Rattle.std.proofs.Common.{subst}
use Rattle.std.proofs.lemmas.List.{take_rest}
use Rattle.http_response.specs.declared.head.HeadSeen.TheVariants as head_seen
use Rattle.http_response.specs.Steps.{BeginsWith}
use Rattle.http_response.proofs.ResponseSteps.{skipped_on, fewer_left, begun_at}
use Rattle.http_response.proofs.response.read_heads.Goals as goal

pub loop-why-smaller : goal.loop-why-smaller
loop-why-smaller c =
    let bytes = c.args.bytes.now in
    let at = c.loop-why.at in
    let to = c.args.to_head in
    fewer_left to bytes at c.in-Interim.size c.loop-why.invariant (subst (λ t. BeginsWith to at t (head_seen.Interim c.in-Interim.size)) (take_rest bytes at) (subst (BeginsWith to at _) c.in-Interim.is c.in_ok-read_head.ensures))

pub loop-why-preserved : goal.loop-why-preserved
loop-why-preserved c =
    let bytes = c.args.bytes.now in
    let at = c.loop-why.at in
    let to = c.args.to_head in
    skipped_on to bytes at c.in-Interim.size c.loop-why.invariant (subst (λ t. BeginsWith to at t (head_seen.Interim c.in-Interim.size)) (take_rest bytes at) (subst (BeginsWith to at _) c.in-Interim.is c.in_ok-read_head.ensures))

pub returns-in-Last : goal.returns-in-Last
returns-in-Last c =
    let bytes = c.args.bytes.now in
    let at = c.loop-why.at in
    let to = c.args.to_head in
    let seen = head_seen.Last c.in-Last.reply c.in-Last.reach c.in-Last.size in
    begun_at to bytes at c.in-Last.size c.in-Last.reply c.in-Last.reach c.new.result c.loop-why.invariant (subst (λ t. BeginsWith to at t seen) (take_rest bytes at) (subst (BeginsWith to at _) c.in-Last.is c.in_ok-read_head.ensures)) c.new.ensures
