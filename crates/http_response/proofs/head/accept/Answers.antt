use Rattle.std.proofs.Common.{sym, ◌∙◌}
use Rattle.http_response.proofs.HeadSteps.{found_head, found_refused, found_interim, found_last, tells_this}
use Rattle.http_response.proofs.head.accept.Goals as goal

pub returns-in-Err : goal.returns-in-Err
returns-in-Err c =
    let r = c.requires in
    found_refused c.args.to_head _ _ _ c.in-Err.why (found_head _ _ _ r.within r.whole r.few r.found) (sym c.in-Err.is ∙ c.told_by.ensures)

pub returns-in-Ok-Interim : goal.returns-in-Ok-Interim
returns-in-Ok-Interim c =
    let r = c.requires in
    found_interim c.args.to_head _ _ _ (found_head _ _ _ r.within r.whole r.few r.found) (tells_this _ _ _ _ c.in-Ok-Interim.is c.in-Ok-Interim.field-0-is c.told_by.ensures)

pub returns-in_ok-reply-in-Ok-Last : goal.returns-in_ok-reply-in-Ok-Last
returns-in_ok-reply-in-Ok-Last c =
    let r = c.requires in
    found_last c.args.to_head _ _ _ c.in-Ok-Last.reach _ (found_head _ _ _ r.within r.whole r.few r.found) (tells_this _ _ _ _ c.in-Ok-Last.is c.in-Ok-Last.field-0-is c.told_by.ensures) c.in_ok-reply-in-Ok-Last.ensures
