use Rattle.std.proofs.Common.{ap, ◌∙◌}
use Rattle.http_response.specs.Head.{reach_of}
use Rattle.http_response.proofs.HeadSteps.{without_coding}
use Rattle.http_response.proofs.reach.field_reach.Goals as goal

pub returns-in-Absent : goal.returns-in-Absent
returns-in-Absent c = c.reach_of.ensures ∙ ap reach_of c.extent_of.ensures ∙ without_coding _ c.in-Absent.ensures
