use Rattle.std.proofs.Common.{length, inr, sym, ap, ◌∙◌, subst}
use Rattle.http_in.specs.Steps.{BeginsWith}
use Rattle.http_in.proofs.HeadSteps.{wide_never, head_many}
use Rattle.http_in.proofs.head.read_wide.Goals.{in-Ok-Complete, in-Ok-Partial, in-Err}
use Rattle.http_in.proofs.head.read_wide.Goals as goal

pub no_head-requires : goal.no_head-requires
no_head-requires c =
    wide_never _ _ c.in-Err.field-0 _ c.first_bytes.ensures
    (ap length c.as_mut_slice.ensures.value ∙ c.in_ok-many.ensures) c.in-Err.ensures.invalid c.in-Err.ensures.too_many

pub returns : goal.returns
returns c =
    elim c.match-parse_request.branch [
      | in-Ok-Complete w ↦
          let y = rw w.in-Ok-Complete.field-0-is at w.in-Ok-Complete.ensures in
          subst (BeginsWith c.args.bytes.now) (sym w.result-is)
          (inr (head_many _ _ _ _ c.first_bytes.ensures c.requires.many y.within y.complete))
      | in-Ok-Partial w ↦ subst (BeginsWith c.args.bytes.now) (sym w.result-is) w.short_of_head.ensures
      | in-Err w ↦ subst (BeginsWith c.args.bytes.now) (sym w.result-is) w.no_head.ensures
    ]
