-- Steps that are not refused for what is open.
use Rattle.std.proofs.Common.{Bool, true, false, cond, Ok, Err}
use Rattle.std.specs.Prelude.{Result}
use Rattle.js_parse_core.specs.declared.machine.Refusal.{Refusal}
use Rattle.js_parse_core.specs.declared.machine.Refusal.TheVariants as refusal
use Rattle.js_parse_core.specs.Statements.{with_end}

abbrev pub NotDeep : Refusal → Type 0
NotDeep (refusal.Token a) = Unit {0}
NotDeep refusal.Plain = Unit {0}
NotDeep refusal.Nesting = ⊥
NotDeep refusal.NestingBefore = ⊥

abbrev pub Told : {A : Type 0} → Result A Refusal → Type 0
Told (Ok x) = Unit {0}
Told (Err k) = NotDeep k

pub told_cond : {A : Type 0} (b : Bool) (x y : Result A Refusal) → Told x → Told y → Told (cond b x y)
told_cond true x y h k = h
told_cond false x y h k = k

pub told_with_end : (k : Refusal) → NotDeep k → NotDeep (with_end k)
told_with_end (refusal.Token a) h = tt
told_with_end refusal.Plain h = tt
told_with_end refusal.Nesting h = h
told_with_end refusal.NestingBefore h = h
