use Rattle.std.proofs.Common.{rules, arith, ◌≡◌, length, ap, ◌∙◌, leb, subst}
use Rattle.std.specs.Prelude.{slice_get}
use Rattle.std.specs.List.Sorted.{IsNonDecreasingBy}
use Rattle.std.proofs.lemmas.List.Sorted.{IsPartitionPoint-from_clause, IsPartitionedBy-leb}
use Rattle.wd_ports.specs.Streams.{next_piece}
use Rattle.wd_ports.proofs.Streams.{next_there, next_inside}
use Rattle.wd_ports.proofs.stream.Stream.next_piece.Goals as goal

pub returns-clause-piece : goal.returns-clause-piece
returns-clause-piece c =
    let ps = c.as_slice-pieces.result.now in
    let rising : IsNonDecreasingBy (λ p. p.end) ps = rw c.as_slice-pieces.ensures c.self.invariant.0 in
    let parted = IsPartitionedBy-leb (λ p. p.end) ps c.args.read rising in
    let point = IsPartitionPoint-from_clause (λ p. leb p.end c.args.read) ps c.partition_point-at.result c.partition_point-at.ensures.partitioned parted (λ a r q k. search rules) in
    let there : slice_get ps c.partition_point-at.result ≡ next_piece c.args.read ps = next_there c.args.read ps c.partition_point-at.result (omega arith) point in
    let inside : slice_get c.self.inside.pieces c.partition_point-at.result ≡ next_piece c.args.read c.self.inside.pieces = subst (λ ps. slice_get ps c.partition_point-at.result ≡ next_piece c.args.read ps) c.as_slice-pieces.ensures there in
    c.copied.ensures ∙ c.get.ensures.value ∙ inside ∙ ap (λ s. next_piece c.args.read s.pieces) c.self.view_is

pub returns-clause-within : goal.returns-clause-within
returns-clause-within c = rw (returns-clause-piece c, ← c.self.view_is) (next_inside c.args.read (length c.self.inside.bytes) c.self.inside.pieces c.self.invariant.1)
