use Rattle.std.proofs.Common.{subst}
use Rattle.capnp_text.specs.declared.scan.Tokens.{Tokens}
use Rattle.capnp_text.specs.Answer.{answer, Tells}
use Rattle.capnp_text.proofs.Judged.{found_law, only_law, first_law, only_fault_law}
use Rattle.capnp_text.proofs.reader.parse.Goals as goal

pub returns-clause-found : goal.returns-clause-found
returns-clause-found c =
    found_law c.args.bytes.now c.judge.result (subst (λ (t : Tokens). Tells (answer t) c.judge.result) c.in_ok-tokens.ensures c.judge.ensures)

pub returns-clause-only : goal.returns-clause-only
returns-clause-only c =
    only_law c.args.bytes.now c.judge.result (subst (λ (t : Tokens). Tells (answer t) c.judge.result) c.in_ok-tokens.ensures c.judge.ensures)

pub returns-clause-first : goal.returns-clause-first
returns-clause-first c =
    first_law c.args.bytes.now c.judge.result (subst (λ (t : Tokens). Tells (answer t) c.judge.result) c.in_ok-tokens.ensures c.judge.ensures)

pub returns-clause-only_fault : goal.returns-clause-only_fault
returns-clause-only_fault c =
    only_fault_law c.args.bytes.now c.judge.result (subst (λ (t : Tokens). Tells (answer t) c.judge.result) c.in_ok-tokens.ensures c.judge.ensures)
