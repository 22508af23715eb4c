use Rattle.std.proofs.Common.{inl, inr, sym, ◌∙◌, subst}
use Rattle.std.proofs.lemmas.Bool.{false≢true}
use Rattle.httparse.specs.Grammar.{EndsInTarget}
use Rattle.http_in.proofs.HeadSteps.{never_head, never_none}
use Rattle.http_in.specs.Head.{window}
use Rattle.http_in.proofs.head.no_head.Goals as goal

pub short_of_head-requires-clause-none : goal.short_of_head-requires-clause-none
short_of_head-requires-clause-none c = never_none (window c.args.bytes.now) c.requires

pub short_of_head-requires-clause-may : goal.short_of_head-requires-clause-may
short_of_head-requires-clause-may c = inr (subst EndsInTarget c.first_bytes.ensures (c.ends_in_target.ensures.0 c.if-ends_in_target.true))

pub returns-else-ends_in_target : goal.returns-else-ends_in_target
returns-else-ends_in_target c = inl (never_head c.args.bytes.now c.requires (λ e. false≢true (sym c.if-ends_in_target.false ∙ c.ends_in_target.ensures.1 (subst EndsInTarget (sym c.first_bytes.ensures) e))))
