use Rattle.std.proofs.lemmas.Bool.{false≢true}
use Rattle.wd_config.proofs.DateSteps.{no_date, one_dash, date_is}
use Rattle.wd_config.proofs.dates.is_date.Goals as goal

pub returns-in_default-split : goal.returns-in_default-split
returns-in_default-split c = ((λ t. absurd (false≢true t)), (λ d. absurd (one_dash c.in-Some.year.now c.in-Some.rest.now c.args.text.now c.in-Some.ensures c.in_default-split.ensures d)))

pub returns : goal.returns
returns c = date_is c.in-Some.year.now c.in-Some.rest.now c.in-Some-split.month.now c.in-Some-split.day.now c.args.text.now c.are_parts.result c.in-Some.ensures c.in-Some-split.ensures c.are_parts.ensures

pub returns-in_default : goal.returns-in_default
returns-in_default c = ((λ t. absurd (false≢true t)), (λ d. absurd (no_date c.args.text.now c.in_default.ensures d)))
