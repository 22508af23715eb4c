use Rattle.std.proofs.Common.{◌≡◌, ◌≤◌, subst, None, refl}
use Rattle.std.specs.Fmt.{decimal}
use Rattle.std.specs.Str.Parse.{ParsesUnsigned}
use Rattle.std.proofs.lemmas.Bool.{false≢true}
use Rattle.wd_config.proofs.Exact.{finds_none}
use Rattle.wd_config.proofs.NumberSteps.{not_begun, not_text, not_parsed, one_parsed, not_small}
use Rattle.wd_config.proofs.numbers.number.Goals as goal

pub returns-then-not-begins_as_number : goal.returns-then-not-begins_as_number
returns-then-not-begins_as_number c = finds_none (λ n. (c.args.text.now ≡ decimal n) × (n ≤ c.args.most)) None refl (λ n p. not_begun c.args.text.now c.args.most n c.ranges.most.fits (λ b. false≢true (c.if-not-begins_as_number.ensures.1 b)) p)

pub returns-in_default : goal.returns-in_default
returns-in_default c = finds_none (λ n. (c.args.text.now ≡ decimal n) × (n ≤ c.args.most)) None refl (λ n p. not_text c.args.text.now c.args.most n c.ranges.most.fits c.in_default.ensures.cases.0 p)

pub returns-in-Ok-parse : goal.returns-in-Ok-parse
returns-in-Ok-parse c =
    let h : ParsesUnsigned 32 10 c.args.text.now c.parse.result = subst (λ t. ParsesUnsigned 32 10 t c.parse.result) c.in-Ok.ensures.cases.0 c.parse.ensures.value.0 in
    one_parsed c.args.text.now c.parse.result c.args.most c.in-Ok-parse.n c.ranges.most.fits (c.if-not-begins_as_number.ensures.0 refl) h c.in-Ok-parse.is c.if-n-most.true

pub returns-in_default-parse : goal.returns-in_default-parse
returns-in_default-parse c =
    let h : ParsesUnsigned 32 10 c.args.text.now c.parse.result = subst (λ t. ParsesUnsigned 32 10 t c.parse.result) c.in-Ok.ensures.cases.0 c.parse.ensures.value.0 in
    finds_none (λ n. (c.args.text.now ≡ decimal n) × (n ≤ c.args.most)) None refl (λ n p. not_small c.args.text.now c.parse.result c.args.most c.in-Ok-parse.n n c.ranges.most.fits h c.in-Ok-parse.is c.if-n-most.false p)

pub returns-in_default-parse-2 : goal.returns-in_default-parse-2
returns-in_default-parse-2 c =
    let h : ParsesUnsigned 32 10 c.args.text.now c.parse.result = subst (λ t. ParsesUnsigned 32 10 t c.parse.result) c.in-Ok.ensures.cases.0 c.parse.ensures.value.0 in
    finds_none (λ n. (c.args.text.now ≡ decimal n) × (n ≤ c.args.most)) None refl (λ n p. not_parsed c.args.text.now c.parse.result c.in_default-parse.field-0 c.args.most n c.ranges.most.fits h c.in_default-parse.is p)
