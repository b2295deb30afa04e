use Rattle.std.proofs.Common.{◌≡◌, rules, arith, ℕ, length, drop, take, ◌-◌}
use Rattle.std.specs.Prelude.{nat_lt}
use Rattle.std.proofs.lemmas.List.{length-drop, take_all}
use Rattle.std.proofs.lemmas.List.Sorted.{IsPartitionedBy-ltb, IsPartitionPoint-from_clause}
use Rattle.zone_tables.proofs.FromParcel.{ids_do_not_fall, is_from}
use Rattle.zone_tables.proofs.zoning.from_parcel.Goals as goal

pub returns : goal.returns
returns c =
    let start = c.partition_point-start.result in
    let pairs = c.args.pairs.now in
    let whole : take (length pairs - start) (drop start pairs) ≡ drop start pairs =
    take_all _ _ (omega (arith, length-drop start pairs)) in
    rw whole
    (is_from c.args.id pairs start
    (IsPartitionPoint-from_clause (λ (pair : ℕ × ℕ). nat_lt pair.0 c.args.id) pairs start c.partition_point-start.ensures.partitioned
    (IsPartitionedBy-ltb (λ (pair : ℕ × ℕ). pair.0) pairs c.args.id (ids_do_not_fall pairs c.requires)) (λ a r q k. search rules)))
