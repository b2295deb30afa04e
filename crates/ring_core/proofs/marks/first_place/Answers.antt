use Rattle.std.proofs.Common.{rules, arith, ℕ}
use Rattle.std.specs.Prelude.{nat_lt}
use Rattle.std.proofs.lemmas.Bool.{ltb-true}
use Rattle.std.proofs.lemmas.List.Sorted.{IsPartitionedBy-ltb, IsPartitionPoint-from_clause}
use Rattle.ring_core.proofs.marks.first_place.Goals as goal

pub returns-clause-below : goal.returns-clause-below
returns-clause-below c =
    let first = c.args.reach.first in let numbers = c.args.numbers.now in let found = c.partition_point in
    let point =
    IsPartitionPoint-from_clause (λ (number : ℕ). nat_lt number first) numbers found.result found.ensures.partitioned
    (IsPartitionedBy-ltb (λ (number : ℕ). number) numbers first c.requires.ascend) (λ a r q k. search rules) in
    λ j b. ltb-true _ _ (point.0 j 0 (omega arith) b)
