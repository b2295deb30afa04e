use Rattle.std.proofs.Common.{rules, arith, ℕ, nat_lt, inl, inr}
use Rattle.std.specs.Prelude.{nat_le}
use Rattle.std.proofs.lemmas.Bool.{cases_lt, ltb-true, leb-false}
use Rattle.std.proofs.lemmas.List.Sorted.{IsPartitionedBy-leb, IsPartitionedBy-ltb, IsPartitionPoint-from_clause}
use Rattle.ring_core.proofs.witness.places_of.Goals as goal

pub returns-clause-has : goal.returns-clause-has
returns-clause-has c = λ j below is.
    let numbers = c.args.numbers.now in let number = c.args.number in
    let first = IsPartitionPoint-from_clause (λ (n : ℕ). nat_lt n number) numbers c.partition_point.result
    c.partition_point.ensures.partitioned (IsPartitionedBy-ltb (λ (n : ℕ). n) numbers number c.requires.ascend)
    (λ a r q k. search rules) in
    let last = IsPartitionPoint-from_clause (λ (n : ℕ). nat_le n number) numbers c.partition_point-2.result
    c.partition_point-2.ensures.partitioned (IsPartitionedBy-leb (λ (n : ℕ). n) numbers number c.requires.ascend)
    (λ a r q k. search rules) in
    record {
      from = elim (cases_lt j c.partition_point.result) [
        | inl q ↦ absurd (let less = ltb-true _ _ (first.0 j 0 (omega arith) q) in omega (arith, less, is))
        | inr q ↦ q
      ];
      to = elim (cases_lt j c.partition_point-2.result) [
        | inl q ↦ q
        | inr q ↦ absurd (let more = leb-false _ _ (last.1 j 0 q below) in omega (arith, more, is))
      ];
    }
